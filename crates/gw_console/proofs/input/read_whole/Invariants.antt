-- What was read so far was taken from the reader, and is no more than may be read.
use Rattle.std.proofs.Common.{◌≤◌, length}
use Rattle.std.specs.Io.KnownBytes.{Consumes}
use Rattle.gw_console.proofs.input.read_whole.Given as goal

abbrev pub invariant-loop : goal.invariant-loop
invariant-loop g l =
    (length l.octets.items ≤ 1048576) × Consumes (g.R.Read.remaining l.initial.reader) (g.R.Read.remaining l.reader) l.octets.items
