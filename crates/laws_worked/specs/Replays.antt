-- A run that begins with two new gateways, in which an ESP packet comes twice, the second time as a replay
-- (RFC 4303 section 3.4.3).
use Rattle.std.specs.Prelude.{◌≡◌, ◌++◌, ◌∷◌, ℕ, None, Option, Some, List, [], map, slice_get}
use Rattle.std.specs.FinMap as finite_map
use Rattle.std.specs.Ordering.{nat_cmp}
use Rattle.base.specs.Octets.{Octets}
use Rattle.esp.specs.Worked.{worked_payload}
use Rattle.esp.specs.declared.fault.EspFault.TheVariants.{Replayed}
use Rattle.traffic.specs.declared.fault.PacketFault.TheVariants.{Esp}
use Rattle.deliveries.specs.Arrivals.{Unforged}
use Rattle.deliveries.specs.Numbers.{AreNumbersOf}
use Rattle.gateway.specs.Histories.{Passage}
use Rattle.gateway.specs.Inputs.{Event}
use Rattle.gateway.specs.Inputs as input
use Rattle.gateway.specs.Outputs.{Dropped, OutputView, Up}
use Rattle.gateway.specs.Packets.{table_passages, JudgesOne, JudgesPacket}
use Rattle.gateway.specs.WorldHistories.{passages_at, Happening, IsWorldTrail}
use Rattle.gateway.specs.Worlds.{WorldState}
use Rattle.gateway.specs.declared.fault.Reason.TheVariants.{Packet}
use Rattle.gateway.specs.declared.world.stored.End.TheVariants.{B}
use Rattle.laws_two_ends.specs.WorkedRuns.{events_of, new_ends, outputs_of, run_meaning, Exchanged}

-- A run with one Child SA, one packet and one probe; then the packet comes to B again.
abbrev pub replay_events : Exchanged → List Event
replay_events e = events_of e ++ record { end = B; input = input.Esp e.packet } ∷ []

abbrev pub replay_outputs : Exchanged → List OutputView
replay_outputs e = outputs_of e ++ Dropped (Packet (Esp Replayed)) ∷ []

-- what was sent to B's Child SA: this packet alone, under the number 1
abbrev pub sent_to_it : Octets → finite_map.FinMap nat_cmp Octets
sent_to_it packet = finite_map.insert finite_map.empty 1 packet

-- the number of that Child SA as which a packet is accepted at each step of B's, if any
abbrev pub numbers_of_it : List (Option ℕ)
numbers_of_it = None ∷ None ∷ Some 1 ∷ None ∷ None ∷ []

-- There is such a run. Five of its steps are B's. The packet comes at the third of these, is accepted as
-- number 1 of B's Child SA, and goes up. It comes again at the fifth, is accepted for no Child SA, is dropped
-- as a replay, and changes nothing. No ICV is forged in the run: what comes to B's Child SA and passes the
-- check under a number is what was sent under that number.
pub record IsRunWithReplay {C : Type 0} (a b : C) : Type 0 where
  pub exchanged : Exchanged
  pub happenings : List (Happening C)
  pub last : WorldState C
  pub takes : map (λ h. h.event) happenings ≡ replay_events exchanged
  pub says : map (λ h. h.said) happenings ≡ replay_outputs exchanged
  pub trail : IsWorldTrail (λ _. run_meaning) (new_ends a b) happenings last
  -- premises: as which numbers packets are accepted, that no ICV is forged, and where the packet comes
  pub numbers : AreNumbersOf 1 (table_passages (passages_at B happenings)) numbers_of_it
  pub unforged : Unforged 1 (table_passages (passages_at B happenings)) numbers_of_it (sent_to_it exchanged.packet)
  pub first : Passage C
  pub first_there : slice_get (passages_at B happenings) 2 ≡ Some first
  pub second : Passage C
  pub second_there : slice_get (passages_at B happenings) 4 ≡ Some second
  pub comes_again : second.given ≡ input.Esp exchanged.packet
  -- what follows at the first arrival, and at the second
  pub judges : JudgesPacket 1 1 exchanged.packet first
  pub goes_up : first.said ≡ Up 1 1 worked_payload
  pub judges_none : (child number : ℕ) → ¬ JudgesOne child number second
  pub is_dropped : second.said ≡ Dropped (Packet (Esp Replayed))
  pub unchanged : second.after ≡ second.before
