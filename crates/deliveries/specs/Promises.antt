-- What is promised of the ESP packets of a list of steps.
use Rattle.std.specs.Prelude.{◌≡◌, ◌↔◌, ◌<◌, ◌≤◌, ℕ, false, Option, Some, None, List, slice_get}
use Rattle.std.specs.FinSet as set
use Rattle.std.specs.FinMap as map
use Rattle.std.specs.Ordering.{nat_cmp}
use Rattle.base.specs.Octets.{Octets}
use Rattle.replay.specs.Window.{Seen}
use Rattle.esp.specs.Delivery.{Shows}
use Rattle.esp.specs.Opening.{IsOpeningRefusal}
use Rattle.esp.specs.Packet.{IsContents}
use Rattle.esp.specs.declared.fault.EspFault.{EspFault}
use Rattle.esp.specs.declared.fault.EspFault.TheVariants.{BadPadding}
use Rattle.sadb.specs.Database.{IsThere, pair_at}
use Rattle.sadb.specs.declared.pair.Pair.{Pair}
use Rattle.traffic.specs.Faults.{is_after_judging}
use Rattle.traffic.specs.Outcomes.{Outcome, Up, Dummy, Sealed, Clear, Discarded, Dropped}
use Rattle.traffic.specs.Receiving.{IsAddressedToNone}
use Rattle.traffic.specs.Verdicts.{IsVerdict, Verdict, Packet, Nothing, Refused}
use Rattle.traffic.specs.declared.fault.PacketFault.{PacketFault}
use Rattle.traffic.specs.declared.fault.PacketFault.TheVariants.{Esp}
use Rattle.deliveries.specs.Arrivals.{ComesTo, IsFirstArrival, IsToBeJudged, Unforged}
use Rattle.deliveries.specs.Numbers.{AreNumbersOf, IsJudgedAs, seen_before, taken_at_first, taken_before}
use Rattle.deliveries.specs.Passages.{Passage, Reception}

-- the packet has contents, and this is the verdict on them by the SA pair's selectors (RFC 4301 section 5.2,
-- step 4)
pub record HasVerdict (pair : Pair) (packet : Octets) (verdict : Verdict) : Type 0 where
  pub next : ℕ
  pub payload : Octets
  pub contents : IsContents packet next payload
  pub verdict_is : IsVerdict next payload pair.remote pair.local verdict

-- The answer to a packet that was judged as this sequence number of the Child SA's: the verdict on its
-- contents, or bad padding where it has none.
abbrev pub IsAnswerDue : ℕ → ℕ → Pair → Octets → Outcome → Type 0
IsAnswerDue child number pair packet (Up by under inner) = (by ≡ child) × (under ≡ number) × HasVerdict pair packet (Packet inner)
IsAnswerDue child number pair packet (Dummy by under) = (by ≡ child) × (under ≡ number) × HasVerdict pair packet Nothing
IsAnswerDue child number pair packet (Dropped (Esp BadPadding)) = (next : ℕ) (payload : Octets) → ¬ IsContents packet next payload
IsAnswerDue child number pair packet (Dropped fault) = HasVerdict pair packet (Refused fault)
IsAnswerDue child number pair packet (Sealed by under octets) = ⊥
IsAnswerDue child number pair packet (Clear octets) = ⊥
IsAnswerDue child number pair packet Discarded = ⊥

-- the packet is dropped for a fault that is found before it is judged, and the table is as it was
pub record IsTurnedAway (outcome : Outcome) (p : Passage) : Type 0 where
  pub fault : PacketFault
  pub dropped : outcome ≡ Dropped fault
  pub before_judging : is_after_judging fault ≡ false
  pub unchanged : p.after ≡ p.before

-- it is dropped because it reaches no SA pair: it ends before its SPI, or no pair has the SPI
pub record ReachesNone (reception : Reception) (p : Passage) : Type 0 where
  pub fault : PacketFault
  pub dropped : reception.outcome ≡ Dropped fault
  pub why : IsAddressedToNone p.before reception.packet fault

-- it is dropped because the SA pair's SA refuses it, at the sequence numbers that this window holds taken
pub record IsRefusedBy (pair : Pair) (w : Seen) (reception : Reception) : Type 0 where
  pub fault : EspFault
  pub dropped : reception.outcome ≡ Dropped (Esp fault)
  pub why : IsOpeningRefusal pair.inbound.association w reception.packet fault

-- one end of one SA, whatever its window took since: its SPI, key and length of sequence numbers, the
-- window's size, and the selectors
pub record IsSameEnd (was is : Pair) : Type 0 where
  pub association : is.inbound.association ≡ was.inbound.association
  pub size : is.inbound.window.size ≡ was.inbound.window.size
  pub local : is.local ≡ was.local
  pub remote : is.remote ≡ was.remote

-- A Child SA is what it was as long as its SA pair stands, and once gone it never comes back: neither in the
-- list, nor where it went before it.
pub record StaysSame (child : ℕ) (passages : List Passage) : Type 0 where
  pub kept : (first place : ℕ) (p q : Passage) (was is : Pair) → first ≤ place → slice_get passages first ≡ Some p
      → slice_get passages place ≡ Some q → pair_at p.before.pairs child ≡ Some was → pair_at q.after.pairs child ≡ Some is
      → IsSameEnd was is
  pub gone : (first place : ℕ) (p q : Passage) → first ≤ place → slice_get passages first ≡ Some p → slice_get passages place ≡ Some q
      → IsThere p.before.pairs child → pair_at p.after.pairs child ≡ None → pair_at q.after.pairs child ≡ None
  -- its serial was given, and no SA pair is there
  pub absent : (first place : ℕ) (p q : Passage) → first ≤ place → slice_get passages first ≡ Some p → slice_get passages place ≡ Some q
      → child < p.before.next → pair_at p.before.pairs child ≡ None
      → (pair_at q.before.pairs child ≡ None) × (pair_at q.after.pairs child ≡ None)

-- What is promised of one Child SA.
pub record ChildIsJudged (child : ℕ) (passages : List Passage) : Type 0 where
  -- how its packets were judged: there is one such list
  pub numbers : List (Option ℕ)
  pub numbers_are : AreNumbersOf child passages numbers
  -- exactly what the rule judges at all sequence numbers taken before
  pub judged : (place n : ℕ) (p : Passage) → slice_get passages place ≡ Some p
      → IsJudgedAs child n p ↔ IsToBeJudged child passages numbers place n p
  -- and it is answered by what it holds
  pub answered : (place n : ℕ) (p : Passage) (reception : Reception) (pair : Pair) → slice_get passages place ≡ Some p
      → IsJudgedAs child n p → p.received ≡ Some reception → pair_at p.before.pairs child ≡ Some pair
      → IsAnswerDue child n pair reception.packet reception.outcome
  -- any other that comes to it is refused for the first fault that the rule finds at all sequence numbers
  -- taken before
  pub refused : (place : ℕ) (p : Passage) (reception : Reception) (pair : Pair) → slice_get passages place ≡ Some p
      → p.received ≡ Some reception → ComesTo child pair reception.packet p → ((n : ℕ) → ¬ IsJudgedAs child n p)
      → IsRefusedBy pair (seen_before child pair passages numbers place) reception
  -- no sequence number is judged twice, nor one that was taken before the list, whatever came
  pub once : (place other n : ℕ) (p q : Passage) → slice_get passages place ≡ Some p → slice_get passages other ≡ Some q
      → IsJudgedAs child n p → IsJudgedAs child n q → place ≡ other
  pub new : (place n : ℕ) (p : Passage) → slice_get passages place ≡ Some p → IsJudgedAs child n p
      → set.contains (taken_at_first child passages) n ≡ false
  -- of a Child SA that is gone, before the list or in it, no packet is judged any more: its serial is not
  -- given again
  pub gone : (first place n : ℕ) (p q : Passage) → first ≤ place → slice_get passages first ≡ Some p → slice_get passages place ≡ Some q
      → child < p.before.next → pair_at p.before.pairs child ≡ None → ¬ IsJudgedAs child n q
  -- and where no ICV was forged, each at the first arrival of what was sent
  pub exactly_at_first : (sent : map.FinMap nat_cmp Octets) → Unforged child passages numbers sent
      → (place n : ℕ) (p : Passage) → slice_get passages place ≡ Some p
      → IsJudgedAs child n p ↔ IsFirstArrival child passages numbers sent n place
  -- and answered by the verdict on the very octets sent
  pub as_sent : (sent : map.FinMap nat_cmp Octets) → Unforged child passages numbers sent
      → (place n : ℕ) (p : Passage) (reception : Reception) (pair : Pair) (packet : Octets) → slice_get passages place ≡ Some p
      → IsJudgedAs child n p → p.received ≡ Some reception → pair_at p.before.pairs child ≡ Some pair
      → map.get sent n ≡ Some packet → IsAnswerDue child n pair packet reception.outcome
  -- its window holds what it spans of all sequence numbers taken
  pub window : (place : ℕ) (p : Passage) (pair : Pair) → slice_get passages place ≡ Some p → pair_at p.before.pairs child ≡ Some pair
      → Shows pair.inbound.window pair.inbound.window.size (taken_before child passages numbers place)
  pub same : StaysSame child passages

-- What is promised of a list of steps.
pub record PacketsAreJudged (passages : List Passage) : Type 0 where
  pub children : (child : ℕ) → ChildIsJudged child passages
  -- a packet is judged as one number of one Child SA at most
  pub one : (place child other n m : ℕ) (p : Passage) → slice_get passages place ≡ Some p → IsJudgedAs child n p → IsJudgedAs other m p
      → (child ≡ other) × (n ≡ m)
  -- at every other packet no payload is delivered and no sequence number is taken
  pub otherwise : (place : ℕ) (p : Passage) (reception : Reception) → slice_get passages place ≡ Some p → p.received ≡ Some reception
      → ((child n : ℕ) → ¬ IsJudgedAs child n p) → IsTurnedAway reception.outcome p
  -- and one that comes to no Child SA reaches no SA pair
  pub nowhere : (place : ℕ) (p : Passage) (reception : Reception) → slice_get passages place ≡ Some p → p.received ≡ Some reception
      → ((child : ℕ) (pair : Pair) → ¬ ComesTo child pair reception.packet p) → ReachesNone reception p
