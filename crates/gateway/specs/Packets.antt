-- ESP packets over a run: which are accepted and when, and the output for each (RFC 4301 section 5.2, RFC
-- 4303 section 3.4). A step accepts a packet as number n of a Child SA where it *judges* it so. Its place in
-- the list of transitions is that of its input in the list that was given. A child is named by the serial
-- of its pair.
use Rattle.std.specs.Prelude.{◌≡◌, ◌↔◌, ◌<◌, ◌≤◌, ℕ, false, Option, Some, None, List, map, slice_get}
use Rattle.std.specs.FinMap as numbers
use Rattle.std.specs.Option.{option_map}
use Rattle.std.specs.Ordering.{nat_cmp}
use Rattle.base.specs.Octets.{Octets}
use Rattle.sadb.specs.Database.{pair_at}
use Rattle.sadb.specs.declared.pair.Pair.{Pair}
use Rattle.traffic.specs.Faults.{is_after_judging}
use Rattle.traffic.specs.Outcomes as traffic
use Rattle.traffic.specs.Receiving.{TakesNumberAt}
use Rattle.traffic.specs.declared.fault.PacketFault.{PacketFault}
use Rattle.deliveries.specs.Arrivals.{IsFirstArrival, Unforged}
use Rattle.deliveries.specs.Numbers.{IsJudgedAs}
use Rattle.deliveries.specs.Passages as tables
use Rattle.deliveries.specs.Promises.{IsAnswerDue, PacketsAreJudged}
use Rattle.gateway.specs.Histories.{Passage}
use Rattle.gateway.specs.Inputs.{Input}
use Rattle.gateway.specs.Inputs as input
use Rattle.gateway.specs.Outputs.{view_of_outcome, wants_memory, Clear, Discarded, Dropped, Dummy, OutputView, Sealed, Up}
use Rattle.gateway.specs.declared.fault.Reason.TheVariants as reason

-- The outcome of a packet at the table, from the gateway's output: the inverse of `view_of_outcome`. An ESP
-- packet has no other output.
abbrev pub outcome_of_said : OutputView → Option traffic.Outcome
outcome_of_said (Up child number packet) = Some (traffic.Up child number packet)
outcome_of_said (Dummy child number) = Some (traffic.Dummy child number)
outcome_of_said (Sealed child number octets) = Some (traffic.Sealed child number octets)
outcome_of_said (Clear packet) = Some (traffic.Clear packet)
outcome_of_said Discarded = Some traffic.Discarded
outcome_of_said (Dropped (reason.Packet fault)) = Some (traffic.Dropped fault)
outcome_of_said _ = None

-- the ESP packet that came and its outcome, where the input is one
abbrev pub reception_of : Input → OutputView → Option tables.Reception
reception_of (input.Esp octets) s = option_map (λ outcome. record { packet = octets; outcome = outcome }) (outcome_of_said s)
reception_of _ s = None

-- a step of the gateway as its table sees it, and all steps, each at its place
abbrev pub table_passage : {C : Type 0} → Passage C → tables.Passage
table_passage p = record { before = p.before.table; received = reception_of p.given p.said; after = p.after.table }

abbrev pub table_passages : {C : Type 0} → List (Passage C) → List tables.Passage
table_passages passages = map table_passage passages

-- At this step an ESP packet of these octets came. The table sees it with the output as its outcome. It is
-- never refused on allocation failure, and the IKE machine, the policy and the provider stay as they are.
pub record TakesPacket {C : Type 0} (octets : Octets) (p : Passage C) : Type 0 where
  pub outcome : traffic.Outcome
  pub said : p.said ≡ view_of_outcome outcome
  pub received : reception_of p.given p.said ≡ Some (record { packet = octets; outcome = outcome })
  pub memory : wants_memory p.said ≡ false
  pub kept : p.after ≡ record p.before { table = p.after.table }

-- At this step an ESP packet of these octets came and was accepted as this number of the Child SA. The number
-- is marked in the child's replay window; nothing else of the gateway changes.
pub record JudgesPacket {C : Type 0} (child number : ℕ) (octets : Octets) (p : Passage C) : Type 0 where
  pub given : p.given ≡ input.Esp octets
  pub takes : TakesNumberAt p.before.table octets child number p.after.table
  pub kept : p.after ≡ record p.before { table = p.after.table }

-- an ESP packet, of whatever octets, came and was accepted so
pub record JudgesOne {C : Type 0} (child number : ℕ) (p : Passage C) : Type 0 where
  pub octets : Octets
  pub judges : JudgesPacket child number octets p

-- The output that an accepted packet of these octets must have. Its payload is delivered, if the pair's
-- selectors hold it; or it is a dummy packet; or it is dropped for its padding or for its payload.
pub record SaysDue (child number : ℕ) (pair : Pair) (octets : Octets) (s : OutputView) : Type 0 where
  pub outcome : traffic.Outcome
  pub said : s ≡ view_of_outcome outcome
  pub due : IsAnswerDue child number pair octets outcome

-- the packet is dropped for a fault that is found before it is accepted, and nothing changes
pub record TurnsAway {C : Type 0} (p : Passage C) : Type 0 where
  pub fault : PacketFault
  pub said : p.said ≡ Dropped (reason.Packet fault)
  pub before_judging : is_after_judging fault ≡ false
  pub unchanged : p.after ≡ p.before

-- No number of a Child SA is accepted twice, whatever is given, and none of a child that is gone. Where no
-- ICV is forged, each ESP packet that was sent to a child is accepted at its first arrival, and only there.
-- Its pair must be installed, and its number rightly recovered, inside or above the window, and not taken
-- before the list. The output there is the verdict on its payload. No other ESP packet delivers or changes
-- anything.
pub record PacketsAreDelivered {C : Type 0} (passages : List (Passage C)) : Type 0 where
  -- the table sees each ESP packet, and an ESP packet changes nothing but the table
  pub packet : (place : ℕ) (octets : Octets) (p : Passage C) → slice_get passages place ≡ Some p → p.given ≡ input.Esp octets → TakesPacket octets p
  -- all that `deliveries` promises of the packets of a table
  pub judged : PacketsAreJudged (table_passages passages)
  -- the gateway accepts what its table accepts
  pub judges : (place child number : ℕ) (p : Passage C) → slice_get passages place ≡ Some p
      → IsJudgedAs child number (table_passage p) ↔ JudgesOne child number p
  -- no number of a Child SA is accepted at two steps
  pub once : (place other child number : ℕ) (p q : Passage C) → slice_get passages place ≡ Some p → slice_get passages other ≡ Some q
      → JudgesOne child number p → JudgesOne child number q → place ≡ other
  -- an accepted packet has the output that its payload demands
  pub answered : (place child number : ℕ) (octets : Octets) (p : Passage C) (pair : Pair) → slice_get passages place ≡ Some p
      → JudgesPacket child number octets p → pair_at p.before.table.pairs child ≡ Some pair → SaysDue child number pair octets p.said
  -- only an accepted packet is delivered or called a dummy: an unprotected or an outbound packet never is
  pub up : (place child number : ℕ) (inner : Octets) (p : Passage C) → slice_get passages place ≡ Some p → p.said ≡ Up child number inner
      → JudgesOne child number p
  pub dummy : (place child number : ℕ) (p : Passage C) → slice_get passages place ≡ Some p → p.said ≡ Dummy child number
      → JudgesOne child number p
  pub otherwise : (place : ℕ) (octets : Octets) (p : Passage C) → slice_get passages place ≡ Some p → p.given ≡ input.Esp octets
      → ((child number : ℕ) → ¬ JudgesOne child number p) → TurnsAway p
  -- no packet of a Child SA that is gone is accepted any more, whether it went before the list or in it: its
  -- serial isn't given again
  pub gone : (first place child number : ℕ) (p q : Passage C) → first ≤ place → slice_get passages first ≡ Some p → slice_get passages place ≡ Some q
      → child < p.before.table.next → pair_at p.before.table.pairs child ≡ None → ¬ JudgesOne child number q
  -- where no ICV was forged, what was sent to a Child SA is accepted at its first arrival, and only there
  pub at_first : (child : ℕ) (sent : numbers.FinMap nat_cmp Octets)
      → Unforged child (table_passages passages) (judged.children child).numbers sent
      → (place number : ℕ) (p : Passage C) → slice_get passages place ≡ Some p
      → JudgesOne child number p ↔ IsFirstArrival child (table_passages passages) (judged.children child).numbers sent number place
  -- and has the output that the payload demands which was sent
  pub as_sent : (child : ℕ) (sent : numbers.FinMap nat_cmp Octets)
      → Unforged child (table_passages passages) (judged.children child).numbers sent
      → (place number : ℕ) (octets : Octets) (p : Passage C) (pair : Pair) → slice_get passages place ≡ Some p
      → JudgesOne child number p → pair_at p.before.table.pairs child ≡ Some pair → numbers.get sent number ≡ Some octets
      → SaysDue child number pair octets p.said
