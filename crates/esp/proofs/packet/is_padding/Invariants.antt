use Rattle.std.proofs.Common.{◌≡◌, take}
use Rattle.esp.specs.Packet.{padding}
use Rattle.esp.proofs.packet.is_padding.Given as goal

-- so far the octets are padding
abbrev pub invariant-loop-place : goal.invariant-loop-place
invariant-loop-place l = take l.place l.octets ≡ padding l.place
