use Rattle.std.proofs.Common.{◌≡◌, ◌≤◌, length, take}
use Rattle.std.specs.Prelude.{All}
use Rattle.esp.specs.Ahead.{HasFreshNumber, IsAsked}
use Rattle.esp.specs.Delivery.{octets_of}
use Rattle.esp.proofs.inbound.Inbound.fresh_packets.Given as goal

-- the packets so far that have a fresh sequence number are asked for
abbrev pub invariant-loop-place : goal.invariant-loop-place
invariant-loop-place g l = record {
  asked : All (IsAsked (octets_of l.packets)) (take l.count l.asked);
  fresh : All (HasFreshNumber l.self (octets_of l.packets)) (take l.count l.asked);
  few : l.count ≤ l.place;
  long : length l.asked ≡ g.row.N;
}
