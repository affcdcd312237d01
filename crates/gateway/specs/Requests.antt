-- The peer's requests over a run: which are processed and when, and how a retransmission is answered (RFC
-- 7296 sections 2.1 to 2.3). A place in the list of transitions is that of its input in the list that was
-- given. A request that was processed is *in effect* from then on.
use Rattle.std.specs.Prelude.{◌≡◌, ◌⊎◌, ◌↔◌, ◌<◌, ◌≤◌, ℕ, suc, true, false, Option, Some, None, List, slice_get}
use Rattle.std.specs.FinMap as map
use Rattle.base.specs.Octets.{Octets}
use Rattle.requests.specs.Incoming.{IsLeftBehind}
use Rattle.requests.specs.Numbers.{HasNumber}
use Rattle.association.specs.declared.fault.MessageFault.TheVariants.{Forgotten}
use Rattle.association.specs.declared.phase.Association.{Association}
use Rattle.association.specs.declared.phase.HalfOpen.{HalfOpen}
use Rattle.association.specs.declared.phase.Phase.TheVariants as phase
use Rattle.sadb.specs.Database.{IsAsBefore}
use Rattle.effects.specs.Requests.{KeepsWindow}
use Rattle.effects.specs.Taking.{Meaning}
use Rattle.ike.specs.Machines.{Machine}
use Rattle.ike.specs.Requests.{first_requests, ComesIntoEffect, IsGivenUp, IsHeldThrough, IsInitialDatagram, IsNewRequest, IsOfOctets, OpensAsRequest}
use Rattle.ike.specs.Steps as ike
use Rattle.ike.specs.Orders as orders
use Rattle.ike.specs.declared.fault.IkeFault.TheVariants.{Message}
use Rattle.gateway.specs.Histories.{Passage}
use Rattle.gateway.specs.Inputs.{Input}
use Rattle.gateway.specs.Inputs as input
use Rattle.gateway.specs.Outputs.{wants_memory, Dropped, IsQuiet, Repeat, Reply, OutputView}
use Rattle.gateway.specs.States.{association_in}
use Rattle.gateway.specs.declared.fault.Reason.TheVariants.{Ike}

-- the input of the IKE machine, if this is one
abbrev pub for_ike : Input → Option ike.InputView
for_ike (input.Ike from octets fresh) = Some (ike.Message from octets fresh)
for_ike (input.Start serial entry fresh) = Some (ike.Start serial entry fresh)
for_ike (input.Probe serial fresh) = Some (ike.Order (orders.Probe serial) fresh)
for_ike (input.DeleteChild serial fresh) = Some (ike.Order (orders.DeleteChild serial) fresh)
for_ike (input.DeleteIke serial fresh) = Some (ike.Order (orders.DeleteIke serial) fresh)
for_ike (input.Secret secret) = Some (ike.Secret secret)
for_ike (input.Tick moment) = Some (ike.Tick moment)
for_ike (input.Esp octets) = None
for_ike (input.Outward packet) = None
for_ike (input.Inward packet) = None

-- the input is a datagram that opens as this request of the IKE SA
abbrev pub Opens : Meaning → Option ike.InputView → Association → ℕ → Type 0
Opens meaning None a number = ⊥
Opens meaning (Some given) a number = OpensAsRequest meaning given a number

-- and the request is new: its number is not in effect and lies in the window, and its exchange belongs to
-- the phase
abbrev pub IsNew : Meaning → Option ike.InputView → Association → ℕ → Type 0
IsNew meaning None a number = ⊥
IsNew meaning (Some given) a number = IsNewRequest meaning given a number

-- the input is a datagram of these octets
abbrev pub IsDatagram : Option ike.InputView → Octets → Type 0
IsDatagram None octets = ⊥
IsDatagram (Some given) octets = IsOfOctets given octets

-- at this step the request with this Message ID is processed under an IKE SA
pub record TakesEffect {C : Type 0} (serial number : ℕ) (p : Passage C) : Type 0 where
  pub old : Association
  pub new : Association
  pub held : IsHeldThrough serial p.before.machine.held p.after.machine.held old new
  pub comes : ComesIntoEffect number old new

-- and this is its response
pub record AnswersBy {C : Type 0} (p : Passage C) (reply : Octets) : Type 0 where
  pub closed : Option ℕ
  pub said : p.said ≡ Reply reply closed

-- the step has this output, and changes nothing
pub record OnlySays {C : Type 0} (s : OutputView) (p : Passage C) : Type 0 where
  pub said : p.said ≡ s
  pub unchanged : p.after ≡ p.before

-- it is processed at one of these steps, from the first place to before the second
pub record TookEffect {C : Type 0} (passages : List (Passage C)) (serial number from until : ℕ) : Type 0 where
  pub place : ℕ
  pub least : from ≤ place
  pub before : place < until
  pub passage : Passage C
  pub there : slice_get passages place ≡ Some passage
  pub takes : TakesEffect serial number passage

-- it was answered, and the response is kept
pub record IsReplied {C : Type 0} (serial number : ℕ) (p : Passage C) : Type 0 where
  pub reply : Octets
  pub answers : AnswersBy p reply
  pub association : Association
  pub there : association_in p.after serial ≡ Some association
  pub kept : map.get association.incoming.kept number ≡ Some reply

-- the input is a request of IKE_SA_INIT
abbrev pub IsInitial : Option ike.InputView → Type 0
IsInitial None = ⊥
IsInitial (Some given) = IsInitialDatagram given

-- some request was processed at this step
pub record TakesOne {C : Type 0} (p : Passage C) : Type 0 where
  pub serial : ℕ
  pub number : ℕ
  pub takes : TakesEffect serial number p

-- A request of an IKE SA with keys is processed at most once, exactly where it is delivered new. It opens
-- as a request whose number is not in effect and lies below the least such number plus the window, and its
-- exchange belongs to the phase. An input that is refused on allocation failure counts as lost.
pub record RequestsTakeEffect {C : Type 0} (meaning_of : C → Meaning) (passages : List (Passage C)) : Type 0 where
  pub exactly : (place serial number : ℕ) (p : Passage C) (a : Association) → slice_get passages place ≡ Some p → association_in p.before serial ≡ Some a
      → TakesEffect serial number p ↔ ((wants_memory p.said ≡ false) × IsNew (meaning_of p.before.caller) (for_ike p.given) a number)
  pub answered : (place serial number : ℕ) (p : Passage C) → slice_get passages place ≡ Some p → TakesEffect serial number p → IsReplied serial number p
  pub once : (place other serial number : ℕ) (p q : Passage C) → slice_get passages place ≡ Some p → slice_get passages other ≡ Some q
      → TakesEffect serial number p → TakesEffect serial number q → place ≡ other
  -- what is in effect after a step was in effect before that step or an earlier one, or was processed
  -- between
  pub in_effect : (first place serial number : ℕ) (p q : Passage C) (a b : Association) → first ≤ place → slice_get passages first ≡ Some p
      → slice_get passages place ≡ Some q → association_in p.before serial ≡ Some a → association_in q.after serial ≡ Some b
      → HasNumber b.incoming.in_effect number ↔ (HasNumber a.incoming.in_effect number ⊎ TookEffect passages serial number first (suc place))
  -- a new IKE SA has no request in effect, or at the responder that of IKE_SA_INIT
  pub begun : (place serial : ℕ) (p : Passage C) (a : Association) → slice_get passages place ≡ Some p → association_in p.before serial ≡ None
      → association_in p.after serial ≡ Some a → a.incoming ≡ first_requests a.role
  -- its window changes only where IKE_AUTH establishes it, to the one that this end announces (`Steps` says
  -- that it does)
  pub window : (place serial : ℕ) (p : Passage C) (a b : Association) → slice_get passages place ≡ Some p → association_in p.before serial ≡ Some a
      → association_in p.after serial ≡ Some b → KeepsWindow p.before.machine.config.window a b
  -- what opens and is not new is dropped, or gets the cached response, and changes nothing
  pub otherwise : (place serial number : ℕ) (p : Passage C) (a : Association) → slice_get passages place ≡ Some p → wants_memory p.said ≡ false
      → association_in p.before serial ≡ Some a → Opens (meaning_of p.before.caller) (for_ike p.given) a number
      → ¬ IsNew (meaning_of p.before.caller) (for_ike p.given) a number → IsQuiet p.said × (p.after ≡ p.before)
  pub undelivered : (place : ℕ) (p : Passage C) → slice_get passages place ≡ Some p → wants_memory p.said ≡ true
      → (p.after ≡ record p.before { table = p.after.table }) × IsAsBefore p.before.table p.after.table
  -- nothing else gets a response, but requests of IKE_SA_INIT
  pub replies : (place : ℕ) (p : Passage C) (reply : Octets) (closed : Option ℕ) → slice_get passages place ≡ Some p → p.said ≡ Reply reply closed
      → TakesOne p ⊎ IsInitial (for_ike p.given)

-- this response was sent first at this step, or was kept before it
abbrev pub IsFirstReply : {C : Type 0} → ℕ → ℕ → Octets → Passage C → Type 0
IsFirstReply {C} serial number reply p =
    (TakesEffect serial number p × AnswersBy p reply)
    ⊎ ((a : Association) × (association_in p.before serial ≡ Some a) × (map.get a.incoming.kept number ≡ Some reply))

-- at this step this request of IKE_SA_INIT made a half-open IKE SA, and this response was sent
pub record MakesHalfOpen {C : Type 0} (serial : ℕ) (request reply : Octets) (p : Passage C) : Type 0 where
  pub none : association_in p.before serial ≡ None
  pub a : Association
  pub there : association_in p.after serial ≡ Some a
  pub opened : HalfOpen
  pub half_open : a.phase ≡ phase.HalfOpen opened
  pub delivered : IsDatagram (for_ike p.given) request
  pub answered : p.said ≡ Reply reply None

-- before this step an IKE SA is half open, made by this request, with this response
pub record KeepsHalfOpen {C : Type 0} (serial : ℕ) (request reply : Octets) (p : Passage C) : Type 0 where
  pub a : Association
  pub there : association_in p.before serial ≡ Some a
  pub opened : HalfOpen
  pub half_open : a.phase ≡ phase.HalfOpen opened
  pub same_request : opened.request ≡ request
  pub same_reply : opened.reply ≡ reply

-- the cached response is sent to a retransmitted request: one under keys, or one of IKE_SA_INIT
pub record RepeatsRequest {C : Type 0} (meaning_of : C → Meaning) (reply : Octets) (p : Passage C) : Type 0 where
  pub serial : ℕ
  pub number : ℕ
  pub association : Association
  pub there : association_in p.before serial ≡ Some association
  pub kept : map.get association.incoming.kept number ≡ Some reply
  pub opens : Opens (meaning_of p.before.caller) (for_ike p.given) association number

pub record RepeatsInitial {C : Type 0} (reply : Octets) (p : Passage C) : Type 0 where
  pub serial : ℕ
  pub request : Octets
  pub kept : KeepsHalfOpen serial request reply p
  pub delivered : IsDatagram (for_ike p.given) request

-- the input is a `Tick` with a time at which the IKE SA expires
abbrev pub IsOverAt : Option ike.InputView → Machine → Association → Type 0
IsOverAt None machine a = ⊥
IsOverAt (Some given) machine a = IsGivenUp given machine a

-- A retransmission of a request that is still remembered gets the octets of the first response, and changes
-- nothing. One under keys that is remembered no more is dropped (E30). A request is remembered while its
-- IKE SA is held and no number at least a window above its own is in effect; that of IKE_SA_INIT while the
-- IKE SA that it made is half open.
pub record RepeatsAreAnswered {C : Type 0} (meaning_of : C → Meaning) (passages : List (Passage C)) : Type 0 where
  pub remembered : (first place serial number : ℕ) (reply : Octets) (p q : Passage C) (a : Association) → first < place → slice_get passages first ≡ Some p
      → slice_get passages place ≡ Some q → wants_memory q.said ≡ false → IsFirstReply serial number reply p → association_in q.before serial ≡ Some a
      → ¬ IsLeftBehind a.incoming number → Opens (meaning_of q.before.caller) (for_ike q.given) a number → OnlySays (Repeat reply) q
  pub kept : (place serial number : ℕ) (reply : Octets) (q : Passage C) (a : Association) → slice_get passages place ≡ Some q → wants_memory q.said ≡ false
      → association_in q.before serial ≡ Some a → map.get a.incoming.kept number ≡ Some reply → Opens (meaning_of q.before.caller) (for_ike q.given) a number
      → OnlySays (Repeat reply) q
  pub forgotten : (place serial number : ℕ) (q : Passage C) (a : Association) → slice_get passages place ≡ Some q → wants_memory q.said ≡ false
      → association_in q.before serial ≡ Some a → HasNumber a.incoming.in_effect number → IsLeftBehind a.incoming number ⊎ (map.get a.incoming.kept number ≡ None)
      → Opens (meaning_of q.before.caller) (for_ike q.given) a number → OnlySays (Dropped (Ike (Message Forgotten))) q
  pub initial : (first place serial : ℕ) (request reply : Octets) (p q : Passage C) (a : Association) (opened : HalfOpen) → first < place
      → slice_get passages first ≡ Some p → slice_get passages place ≡ Some q → wants_memory q.said ≡ false
      → MakesHalfOpen serial request reply p ⊎ KeepsHalfOpen serial request reply p → association_in q.before serial ≡ Some a → a.phase ≡ phase.HalfOpen opened
      → IsDatagram (for_ike q.given) request → OnlySays (Repeat reply) q
  pub initial_kept : (place serial : ℕ) (request reply : Octets) (q : Passage C) → slice_get passages place ≡ Some q → wants_memory q.said ≡ false
      → KeepsHalfOpen serial request reply q → IsDatagram (for_ike q.given) request → OnlySays (Repeat reply) q
  -- nothing else gets a cached response
  pub only : (place : ℕ) (reply : Octets) (q : Passage C) → slice_get passages place ≡ Some q → q.said ≡ Repeat reply → RepeatsRequest meaning_of reply q ⊎ RepeatsInitial reply q
  -- an IKE SA is held until a `Tick` at which it expires
  pub held : (place serial : ℕ) (q : Passage C) (a : Association) → slice_get passages place ≡ Some q → association_in q.before serial ≡ Some a
      → association_in q.after serial ≡ None → IsOverAt (for_ike q.given) q.before.machine a
