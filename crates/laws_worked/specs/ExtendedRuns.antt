-- A run that begins with two new gateways which allow extended sequence numbers (RFC 4303 section 2.2.1; RFC
-- 7296 section 3.3.2).
use Rattle.std.specs.Prelude.{◌≡◌, ◌≤◌, ◌∷◌, ℕ, true, None, Option, Some, List, [], Contains, map, slice_get}
use Rattle.base.specs.Octets.{Octets}
use Rattle.esp.specs.Worked.{worked_payload}
use Rattle.policy.specs.Entries.{IsSoundPolicy}
use Rattle.sadb.specs.Database.{IsStart}
use Rattle.sadb.specs.Mirrors.{Mirrors}
use Rattle.sadb.specs.declared.pair.Pair.{Pair}
use Rattle.setup.specs.Configs.{IsConfig}
use Rattle.setup.specs.declared.config.Config.{Config}
use Rattle.deliveries.specs.Arrivals.{Unforged}
use Rattle.deliveries.specs.Numbers.{AreNumbersOf}
use Rattle.effects.specs.Taking.{asker_of}
use Rattle.gateway.specs.Inputs.{Event}
use Rattle.gateway.specs.Inputs as input
use Rattle.gateway.specs.Outputs.{Counted, OutputView, Reply, Request, Sealed, Up}
use Rattle.gateway.specs.Packets.{table_passages, JudgesPacket}
use Rattle.gateway.specs.States.{new_gateway, State}
use Rattle.gateway.specs.WorldChildren.{AreOfOneRequest}
use Rattle.gateway.specs.WorldHistories.{passage_at, passages_at, Happening, IsWorldTrail}
use Rattle.gateway.specs.WorldPackets.{HoldsPairOf, IsJudgedAt}
use Rattle.gateway.specs.Worlds.{gateway_at, new_world, HoldsNothing, WorldState}
use Rattle.gateway.specs.declared.world.stored.Child.{Child}
use Rattle.gateway.specs.declared.world.stored.End.{End}
use Rattle.gateway.specs.declared.world.stored.End.TheVariants.{A, B}
use Rattle.laws_two_ends.specs.WorkedRecords.{fresh_of, CanBeMeant, IsFresh}
use Rattle.laws_two_ends.specs.WorkedRuns.{all_protected, comes_to, config_at, run_meaning, spi_at, IsTyped}
use Rattle.laws_worked.specs.Replays.{sent_to_it}

-- both are set up as in the other runs, but that they allow these numbers
abbrev pub extended_config : End → Config
extended_config end = record (config_at end) { extended = true }

abbrev pub extended_end : {C : Type 0} → End → C → State C
extended_end {C} end caller = new_gateway (extended_config end) all_protected (spi_at end) caller

abbrev pub extended_ends : {C : Type 0} → C → C → WorldState C
extended_ends {C} a b = new_world (extended_end A a) (extended_end B b)

-- the datagrams of the run, in the order in which they are sent
pub record RunDatagrams : Type 0 where
  pub init_request : Octets
  pub init_response : Octets
  pub auth_request : Octets
  pub auth_response : Octets
  pub packet : Octets

-- A is told to set up an IKE SA with a first Child SA; the four messages come as they were sent. Then a packet
-- goes out at A, and comes to B.
abbrev pub extended_events : RunDatagrams → List Event
extended_events e =
    record { end = A; input = input.Start None 0 (fresh_of 1) }
    ∷ comes_to B e.init_request 2
    ∷ comes_to A e.init_response 3
    ∷ comes_to B e.auth_request 4
    ∷ comes_to A e.auth_response 5
    ∷ record { end = A; input = input.Outward worked_payload }
    ∷ record { end = B; input = input.Esp e.packet }
    ∷ []

abbrev pub extended_outputs : RunDatagrams → List OutputView
extended_outputs e =
    Request 1 e.init_request
    ∷ Reply e.init_response None
    ∷ Request 1 e.auth_request
    ∷ Reply e.auth_response None
    ∷ Counted 1 (Some 1) None
    ∷ Sealed 1 1 e.packet
    ∷ Up 1 1 worked_payload
    ∷ []

-- the number of B's Child SA as which a packet is accepted at each step of B's, if any
abbrev pub extended_numbers_of_it : List (Option ℕ)
extended_numbers_of_it = None ∷ None ∷ Some 1 ∷ []

-- the Child SA has extended sequence numbers both ways
pub record HasExtendedNumbers (child : Child) : Type 0 where
  pub inward : child.inbound.extended ≡ true
  pub outward : child.outbound.extended ≡ true

-- There is such a run, for a caller that there can be, of two gateways that are rightly set up and hold
-- nothing. Both ends make the Child SA by the one request of IKE_AUTH, with extended sequence numbers both
-- ways. Each holds a pair of it at the end, and the two mirror each other. The packet is accepted as number 1
-- of B's, and goes up. Its ICV is over the upper half of the number too, which is 0 here. No ICV is forged.
pub record IsRunWithExtendedNumbers {C : Type 0} (a b : C) : Type 0 where
  pub exchanged : RunDatagrams
  pub happenings : List (Happening C)
  pub last : WorldState C
  pub takes : map (λ h. h.event) happenings ≡ extended_events exchanged
  pub says : map (λ h. h.said) happenings ≡ extended_outputs exchanged
  pub trail : IsWorldTrail (λ _. run_meaning) (extended_ends a b) happenings last
  -- premises: the caller, how both are set up, what they hold at first, and what is fresh
  pub can_be : CanBeMeant (asker_of run_meaning) run_meaning.plain_of
  pub configs : (end : End) → IsConfig (extended_config end)
  pub typed : (end : End) → IsTyped (extended_config end)
  pub policy : IsSoundPolicy all_protected
  pub starts : (end : End) → IsStart (spi_at end)
  pub holds_nothing : (end : End) → HoldsNothing (gateway_at end (extended_ends a b))
  pub fresh : (number : ℕ) → 1 ≤ number → number ≤ 5 → IsFresh (fresh_of number)
  -- the Child SA
  pub asked : Child
  pub answered : Child
  pub asked_there : Contains last.stored.children asked
  pub answered_there : Contains last.stored.children answered
  pub of_one : AreOfOneRequest asked answered
  pub number_is : asked.number ≡ 1
  pub asked_end : asked.end ≡ A
  pub asked_serial : asked.serial ≡ 1
  pub answered_end : answered.end ≡ B
  pub answered_serial : answered.serial ≡ 1
  pub asked_extended : HasExtendedNumbers asked
  pub answered_extended : HasExtendedNumbers answered
  pub asked_pair : Pair
  pub answered_pair : Pair
  pub asked_held : HoldsPairOf asked asked_pair last
  pub answered_held : HoldsPairOf answered answered_pair last
  -- as which numbers packets are accepted, that no ICV is forged, and where the packet comes
  pub numbers : AreNumbersOf 1 (table_passages (passages_at B happenings)) extended_numbers_of_it
  pub unforged : Unforged 1 (table_passages (passages_at B happenings)) extended_numbers_of_it (sent_to_it exchanged.packet)
  pub packet_step : Happening C
  pub packet_there : slice_get happenings 6 ≡ Some packet_step
  pub passage_there : slice_get (passages_at B happenings) 2 ≡ Some (passage_at B packet_step)
  -- what follows
  pub mirror : Mirrors asked_pair answered_pair
  pub packet_comes : IsJudgedAt answered 1 exchanged.packet packet_step
  pub judges : JudgesPacket 1 1 exchanged.packet (passage_at B packet_step)
  pub esn : judges.takes.pair.inbound.association.extended ≡ true
