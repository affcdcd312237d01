-- For whom packets are carried: each Child SA belongs to an IKE SA whose peer proved itself, and was made by
-- it (RFC 7296 sections 1.2, 1.3.1 and 2.15; RFC 4301 sections 4.4.2 and 4.4.3).
use Rattle.std.specs.Prelude.{◌≡◌, ◌<◌, ◌≤◌, ◌⊎◌, ℕ, suc, Some, None, Option, List, slice_get}
use Rattle.base.specs.Octets.{Octets}
use Rattle.policy.specs.declared.entry.Entry.{Entry}
use Rattle.suite.specs.declared.fresh.Fresh.{Fresh}
use Rattle.suite.specs.declared.key_record.KeyRecord.{KeyRecord}
use Rattle.sadb.specs.Database.{pair_at}
use Rattle.sadb.specs.declared.pair.Pair.{Pair}
use Rattle.traffic.specs.Outcomes as traffic
use Rattle.traffic.specs.Sending.{IsProtected}
use Rattle.setup.specs.declared.config.Config.{Config}
use Rattle.effects.specs.Taking.{Meaning}
use Rattle.ike.specs.Children.{MakesChildOf}
use Rattle.ike.specs.Machines.{setup_at}
use Rattle.ike.specs.declared.output.MadeChild.{MadeChild}
use Rattle.ike.specs.declared.output.Stepped.{Stepped}
use Rattle.gateway.specs.Authentication.{IsEstablishedWith, ProvesItselfAt}
use Rattle.gateway.specs.Histories.{Passage}
use Rattle.gateway.specs.Inputs as input
use Rattle.gateway.specs.Outputs.{view_of_ike, OutputView, Clear, Counted, Discarded, Done, Dropped, Dummy, Refused, Repeat, Reply, Request, Sealed, Ticked, Up}
use Rattle.gateway.specs.Packets.{JudgesOne}
use Rattle.gateway.specs.States.{new_gateway, State}

-- the IKE SA with this serial is held, and established
pub record IsEstablishedNow {C : Type 0} (s : State C) (serial : ℕ) : Type 0 where
  pub keys : KeyRecord
  pub established : IsEstablishedWith s serial keys

-- each SA pair in the table is of one
pub record EachPairIsOfAnEstablished {C : Type 0} (s : State C) : Type 0 where
  pub each : (child : ℕ) (pair : Pair) → pair_at s.table.pairs child ≡ Some pair → IsEstablishedNow s pair.ike

-- the Child SA that an output names, whose packet is delivered, called a dummy, or sealed
abbrev pub child_said : OutputView → Option ℕ
child_said (Up child number packet) = Some child
child_said (Dummy child number) = Some child
child_said (Sealed child number octets) = Some child
child_said (Reply octets closed) = None
child_said (Repeat octets) = None
child_said (Request ike octets) = None
child_said (Counted ike child closed) = None
child_said (Ticked requests closed) = None
child_said Done = None
child_said (Clear packet) = None
child_said Discarded = None
child_said (Dropped why) = None
child_said (Refused why) = None

-- ---- who is known

-- before each of these steps the IKE SA with this serial is established under these keys
pub record StoodFrom {C : Type 0} (passages : List (Passage C)) (from place serial : ℕ) (keys : KeyRecord) : Type 0 where
  pub each : (between : ℕ) (q : Passage C) → from ≤ between → between ≤ place → slice_get passages between ≡ Some q → IsEstablishedWith q.before serial keys

-- with an earlier step its peer proved itself, and it has been established ever since, under the same keys
pub record ProvedItselfBefore {C : Type 0} (meaning_of : C → Meaning) (passages : List (Passage C)) (place serial : ℕ) (keys : KeyRecord) : Type 0 where
  pub by : ℕ
  pub before : by < place
  pub proves : ProvesItselfAt meaning_of passages by serial keys
  pub since : StoodFrom passages (suc by) place serial keys

-- or it was so before the first step, and ever since
abbrev pub IsKnownAt : {C : Type 0} → (C → Meaning) → List (Passage C) → ℕ → ℕ → KeyRecord → Type 0
IsKnownAt {C} meaning_of passages place serial keys = StoodFrom passages 0 place serial keys ⊎ ProvedItselfBefore meaning_of passages place serial keys

-- ---- who made a Child SA

-- the same SA pair, whatever was accepted and sealed by it since
pub record KeepsItself (was is : Pair) : Type 0 where
  pub ike : is.ike ≡ was.ike
  pub inbound : is.inbound.association ≡ was.inbound.association
  pub outbound : is.outbound.association ≡ was.outbound.association
  pub local : is.local ≡ was.local
  pub remote : is.remote ≡ was.remote

-- At this step a datagram made the Child SA, of the IKE SA that its pair names and under these keys of it:
-- out of what the datagram opened to, and of what this step answers or the IKE SA had asked for.
pub record MakesItAt {C : Type 0} (meaning_of : C → Meaning) (passages : List (Passage C)) (place child : ℕ) (keys : KeyRecord) (pair : Pair) : Type 0 where
  pub passage : Passage C
  pub there : slice_get passages place ≡ Some passage
  pub from : Octets
  pub octets : Octets
  pub fresh : Fresh
  pub given : passage.given ≡ input.Ike from octets fresh
  pub stepped : Stepped
  pub output : passage.said ≡ view_of_ike stepped.output
  pub made : MadeChild
  pub named : stepped.trace.child ≡ Some made
  pub serial : made.serial ≡ child
  pub ike : made.ike ≡ pair.ike
  pub makes : MakesChildOf (meaning_of passage.before.caller) (setup_at passage.before.machine passage.before.entries fresh) octets
      passage.before.machine.held passage.before.table stepped made passage.after.machine.held passage.after.table
  pub under : makes.makes.keys ≡ keys
  pub same : KeepsItself makes.makes.pair pair

-- it was made at an earlier step, and its IKE SA has been established ever since
pub record WasMadeBefore {C : Type 0} (meaning_of : C → Meaning) (passages : List (Passage C)) (place child : ℕ) (keys : KeyRecord) (pair : Pair) : Type 0 where
  pub by : ℕ
  pub before : by < place
  pub makes : MakesItAt meaning_of passages by child keys pair
  pub since : StoodFrom passages (suc by) place pair.ike keys

-- or its pair stood before the first step, and its IKE SA has been established ever since
pub record WasThere {C : Type 0} (passages : List (Passage C)) (place child : ℕ) (keys : KeyRecord) (pair : Pair) : Type 0 where
  pub first : Passage C
  pub there : slice_get passages 0 ≡ Some first
  pub was : Pair
  pub stood : pair_at first.before.table.pairs child ≡ Some was
  pub same : KeepsItself was pair
  pub since : StoodFrom passages 0 place pair.ike keys

-- ---- for whom packets are carried

-- Before this step the Child SA's pair stands. Its IKE SA is established under keys of which both of these
-- are so: who is known by them, and that the Child SA was made under them.
pub record IsOfAPeer {C : Type 0} (Known : ℕ → KeyRecord → Type 0) (Made : KeyRecord → Pair → Type 0) (child : ℕ) (p : Passage C) : Type 0 where
  pub pair : Pair
  pub there : pair_at p.before.table.pairs child ≡ Some pair
  pub keys : KeyRecord
  pub established : IsEstablishedWith p.before pair.ike keys
  pub known : Known pair.ike keys
  pub made : Made keys pair

-- known and made at a step of this list, or before it
abbrev pub IsOfAKnownPeer : {C : Type 0} → (C → Meaning) → List (Passage C) → ℕ → ℕ → Passage C → Type 0
IsOfAKnownPeer {C} meaning_of passages place child p =
    IsOfAPeer (IsKnownAt meaning_of passages place) (λ keys pair. WasThere passages place child keys pair ⊎ WasMadeBefore meaning_of passages place child keys pair) child p

-- known and made at a step of this list
abbrev pub IsOfAProvedPeer : {C : Type 0} → (C → Meaning) → List (Passage C) → ℕ → ℕ → Passage C → Type 0
IsOfAProvedPeer {C} meaning_of passages place child p =
    IsOfAPeer (ProvedItselfBefore meaning_of passages place) (λ keys pair. WasMadeBefore meaning_of passages place child keys pair) child p

-- So it is with each Child SA in the table before a step, with the one as whose a packet is accepted,
-- whatever becomes of what it holds, and with the one that an output names.
pub record AllAreOf {C : Type 0} (Peer : ℕ → ℕ → Passage C → Type 0) (passages : List (Passage C)) : Type 0 where
  pub held : (place child : ℕ) (p : Passage C) (pair : Pair) → slice_get passages place ≡ Some p → pair_at p.before.table.pairs child ≡ Some pair → Peer place child p
  pub accepted : (place child number : ℕ) (p : Passage C) → slice_get passages place ≡ Some p → JudgesOne child number p → Peer place child p
  pub said : (place child : ℕ) (p : Passage C) → slice_get passages place ≡ Some p → child_said p.said ≡ Some child → Peer place child p

abbrev pub OnlyTheKnownCarry : {C : Type 0} → (C → Meaning) → List (Passage C) → Type 0
OnlyTheKnownCarry {C} meaning_of passages = AllAreOf (IsOfAKnownPeer meaning_of passages) passages

abbrev pub OnlyTheProvedCarry : {C : Type 0} → (C → Meaning) → List (Passage C) → Type 0
OnlyTheProvedCarry {C} meaning_of passages = AllAreOf (IsOfAProvedPeer meaning_of passages) passages

-- before this step configuration, policy and provider are those of the beginning
pub record KeepsSettings {C : Type 0} (old : State C) (p : Passage C) : Type 0 where
  pub config : p.before.machine.config ≡ old.machine.config
  pub entries : p.before.entries ≡ old.entries
  pub caller : p.before.caller ≡ old.caller

-- A packet is sealed only for one that was given to go out, and that the policy protects: the whole of it,
-- by a pair that stood before the step, is Live, and whose selectors hold its flow.
pub record SealsWhatIsProtected {C : Type 0} (child number : ℕ) (octets : Octets) (p : Passage C) : Type 0 where
  pub packet : Octets
  pub given : p.given ≡ input.Outward packet
  pub protects : IsProtected p.before.table p.before.entries packet (traffic.Sealed child number octets) p.after.table

-- ---- what is promised of a list

-- Over these steps, from this state on to that one, packets are carried for the authenticated alone. The
-- first asks that each SA pair is of an established IKE SA before the list, as in every gateway, and it is
-- so after it: calls in a row keep it. Of a new gateway each peer proved itself at a step of the list, and
-- each Child SA was made at one.
pub record OnlyTheAuthenticatedCarry {C : Type 0} (meaning_of : C → Meaning) (old : State C) (passages : List (Passage C)) (new : State C) : Type 0 where
  pub known : EachPairIsOfAnEstablished old → OnlyTheKnownCarry meaning_of passages
  pub stays : EachPairIsOfAnEstablished old → EachPairIsOfAnEstablished new
  pub proved : (config : Config) (entries : List Entry) (start : ℕ) (caller : C) → old ≡ new_gateway config entries start caller → OnlyTheProvedCarry meaning_of passages
  pub settings : (place : ℕ) (p : Passage C) → slice_get passages place ≡ Some p → KeepsSettings old p
  pub sealed : (place child number : ℕ) (octets : Octets) (p : Passage C) → slice_get passages place ≡ Some p → p.said ≡ Sealed child number octets
      → SealsWhatIsProtected child number octets p
