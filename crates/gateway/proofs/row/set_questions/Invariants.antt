use Rattle.std.proofs.Common.{◌≡◌, length, take}
use Rattle.esp.specs.Precomputed.{AreQuestions}
use Rattle.gateway.specs.Rows.{octets_of, packet_in_row}
use Rattle.gateway.proofs.row.set_questions.Given as goal

-- the questions so far are about the packets at their places
abbrev pub invariant-loop-place : goal.invariant-loop-place
invariant-loop-place l = record {
  questions : AreQuestions (packet_in_row l.spans l.packets) l.fn.questions → AreQuestions (packet_in_row l.spans l.packets) l.questions;
  long : length l.questions ≡ length l.fn.questions;
  at_is : l.at ≡ octets_of (take l.place l.spans);
}
