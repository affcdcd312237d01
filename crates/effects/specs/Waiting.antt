-- What an end waits for in each phase, and which requests of the peer it took before IKE_AUTH is done (RFC
-- 7296 sections 1.2, 1.4 and 2.2).
use Rattle.std.specs.Prelude.{◌≡◌, ◌⊎◌, ◌<◌, ◌+◌, ℕ, true, Option, Some, None}
use Rattle.std.specs.FinMap as map
use Rattle.std.specs.FinSet as set
use Rattle.std.specs.Ordering.{nat_cmp}
use Rattle.base.specs.Octets.{Octets}
use Rattle.wire.specs.Numbers.{CREATE_CHILD_SA, INFORMATIONAL}
use Rattle.exchange.specs.declared.headers.Role.TheVariants.{Initiator, Responder}
use Rattle.requests.specs.Incoming.{no_requests, after_number_0}
use Rattle.requests.specs.Outgoing.{OwnRequests}
use Rattle.association.specs.Purposes.{exchange_of}
use Rattle.association.specs.declared.phase.Association.{Association}
use Rattle.association.specs.declared.phase.InitSent as phase
use Rattle.association.specs.declared.phase.Phase.{Phase}
use Rattle.association.specs.declared.phase.Phase.TheVariants.{InitSent, AuthSent, HalfOpen, Established, Closed}
use Rattle.association.specs.declared.phase.Request.{Request}
use Rattle.association.specs.declared.purpose.Purpose.{Purpose}
use Rattle.association.specs.declared.purpose.Purpose.TheVariants.{Begin, Identify}
use Rattle.effects.specs.declared.taking.Effect.{Effect}
use Rattle.effects.specs.declared.taking.Effect.TheVariants as effect
use Rattle.association.specs.Outcomes.{closed_by}

-- by an exchange of an established IKE SA: INFORMATIONAL, or CREATE_CHILD_SA
abbrev pub IsAskedLater : Purpose → Type 0
IsAskedLater asked = (exchange_of asked ≡ INFORMATIONAL) ⊎ (exchange_of asked ≡ CREATE_CHILD_SA)

-- a request with this Message ID, which asks this, may be outstanding in the phase
abbrev pub MayBeOutstanding : Phase → ℕ → Purpose → Type 0
MayBeOutstanding (InitSent sent) number asked = (number ≡ 0) × (asked ≡ Begin)
MayBeOutstanding (AuthSent sent) number asked = (number ≡ 1) × (asked ≡ Identify)
MayBeOutstanding (HalfOpen opened) number asked = ⊥
MayBeOutstanding (Established keys) number asked = IsAskedLater asked
MayBeOutstanding (Closed keys at) number asked = ⊥

-- no other is outstanding
abbrev pub SuitPhase : Phase → map.FinMap nat_cmp Request → Type 0
SuitPhase p outstanding = (number : ℕ) (request : Request) → map.get outstanding number ≡ Some request → MayBeOutstanding p number request.purpose

-- this end began the IKE SA, took no request under it yet, and sends one at a time
pub record TookNoRequest (a : Association) : Type 0 where
  pub role : a.role ≡ Initiator
  pub incoming : a.incoming ≡ record no_requests { room = a.incoming.room }
  pub window : a.outgoing.window ≡ 1

-- this end answered the request of IKE_SA_INIT, took no other under the IKE SA yet, and sent none
pub record TookFirstRequest (a : Association) : Type 0 where
  pub role : a.role ≡ Responder
  pub incoming : a.incoming ≡ record after_number_0 { room = a.incoming.room }
  pub next : a.outgoing.next ≡ 0
  pub answered : a.outgoing.answered ≡ set.empty
  pub window : a.outgoing.window ≡ 1

-- the request that an effect sends: again with a cookie, or for the first time
abbrev pub asked_by : Effect → Option Octets
asked_by (effect.Again octets) = Some octets
asked_by (effect.AsksAuth octets) = Some octets
asked_by _ = None

-- what is outstanding was issued
abbrev pub AreIssued : OwnRequests Request → Type 0
AreIssued r = (number : ℕ) (request : Request) → map.get r.outstanding number ≡ Some request → number < r.next

-- this end takes one more cookie for its request of IKE_SA_INIT (section 2.6)
pub record TakesCookie (old new : Association) : Type 0 where
  pub before : phase.InitSent
  pub was : old.phase ≡ InitSent before
  pub after : phase.InitSent
  pub is : new.phase ≡ InitSent after
  pub taken : after.cookies_taken ≡ before.cookies_taken + 1

-- It is sent at this time, and waits from then on: for the first time, or anew with a cookie.
pub record StartsWaiting (moment : ℕ) (sent : Option Octets) (old new : Association) (number : ℕ) (request : Request) : Type 0 where
  pub said : sent ≡ Some request.octets
  pub timer : request.timer ≡ record { sent = moment; repeats = 0 }
  pub fresh : (map.get old.outgoing.outstanding number ≡ None) ⊎ TakesCookie old new

-- What is outstanding was so before, since the same time and sent as often; or it is sent now.
abbrev pub KeepTimers : ℕ → Option Octets → Association → Association → Type 0
KeepTimers moment sent old new =
    (number : ℕ) (request : Request) → map.get new.outgoing.outstanding number ≡ Some request → (map.get old.outgoing.outstanding number ≡ Some request) ⊎ StartsWaiting moment sent old new number request

-- this ends the IKE SA
abbrev pub ClosesAssociation : Effect → Type 0
ClosesAssociation (effect.Replied answered) = closed_by answered.fate ≡ true
ClosesAssociation (effect.Counted ended) = closed_by ended.fate ≡ true
ClosesAssociation _ = ⊥

-- A request with this Message ID waits no more, by a message with that one. It is answered, or the IKE SA
-- ends. Or it is the request of IKE_SA_INIT, which is sent anew with a cookie, or whose answer brought the
-- keys.
abbrev pub WaitsNoMore : ℕ → Effect → ℕ → Type 0
WaitsNoMore id (effect.Refused fault) number = ⊥
WaitsNoMore id (effect.Repeated octets) number = ⊥
WaitsNoMore id (effect.Replied answered) number = closed_by answered.fate ≡ true
WaitsNoMore id (effect.Again octets) number = number ≡ 0
WaitsNoMore id (effect.AsksAuth octets) number = number ≡ 0
WaitsNoMore id (effect.Counted ended) number = (number ≡ id) ⊎ (closed_by ended.fate ≡ true)

-- what was outstanding still is, unless it stops so
abbrev pub WaitUntil : ℕ → Effect → OwnRequests Request → OwnRequests Request → Type 0
WaitUntil id e old new = (number : ℕ) (request : Request) → map.get old.outstanding number ≡ Some request → (map.get new.outstanding number ≡ Some request) ⊎ WaitsNoMore id e number
