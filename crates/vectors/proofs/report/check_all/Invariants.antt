-- Each entry so far was counted once.
use Rattle.std.proofs.Common.{◌≡◌, ◌+◌}
use Rattle.vectors.proofs.report.check_all.Given as goal

abbrev pub invariant-loop-place : goal.invariant-loop-place
invariant-loop-place l = (l.report.passed + l.report.failed) + l.report.unread ≡ l.place
