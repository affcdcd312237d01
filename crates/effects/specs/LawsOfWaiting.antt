-- Which requests are outstanding, and since when.
use Rattle.std.specs.FinMap as map
use Rattle.std.specs.Prelude.{◌≡◌, ◌⊎◌, ℕ, Option, Some}
use Rattle.suite.specs.declared.key_record.KeyRecord.{KeyRecord}
use Rattle.association.specs.declared.phase.Phase.TheVariants as phase
use Rattle.association.specs.declared.phase.Request.{Request}
use Rattle.moments.specs.Held.{IsInTime}
use Rattle.effects.specs.LawCases.{begun_by, EachAdmission, EachBeginning, EachMessage, EachRequest, IsAdmission, IsBegun, IsSent, IsTaken}
use Rattle.effects.specs.Requests.{IsSoundlyHeld}
use Rattle.effects.specs.Waiting.{asked_by, ClosesAssociation, KeepTimers, WaitUntil}

-- ---- nothing_comes_due
abbrev pub NothingComesDueByAMessage : Type 0
NothingComesDueByAMessage = EachMessage (λ it.
    IsInTime it.setup.moment it.old
    → IsTaken it
    → IsInTime it.setup.moment it.new)

abbrev pub NothingIsDueAsOneBegins : Type 0
NothingIsDueAsOneBegins = EachBeginning (λ it.
    IsBegun it
    → IsInTime it.moment (begun_by it))

abbrev pub NothingIsDueAsOneIsAdmitted : Type 0
NothingIsDueAsOneIsAdmitted = EachAdmission (λ it.
    IsAdmission it
    → IsInTime it.moment it.admitted.association)

abbrev pub NothingComesDueByARequest : Type 0
NothingComesDueByARequest = EachRequest (λ it.
    IsInTime it.setup.moment it.old
    → IsSent it
    → IsInTime it.setup.moment it.new)

-- ---- requests_wait_on
abbrev pub WhatWaitsWaitedOrGoesOutNow : Type 0
WhatWaitsWaitedOrGoesOutNow = EachMessage (λ it.
    IsSoundlyHeld it.old
    → IsTaken it
    → KeepTimers it.setup.moment (asked_by it.effect) it.old it.new)

abbrev pub RequestsWaitUntilAnswered : Type 0
RequestsWaitUntilAnswered = EachMessage (λ it.
    IsSoundlyHeld it.old
    → IsTaken it
    → WaitUntil it.message.header.id it.effect it.old.outgoing it.new.outgoing)

abbrev pub TheClosedWereSoOrEndNow : Type 0
TheClosedWereSoOrEndNow = EachMessage (λ it. (keys : Option KeyRecord) (at : ℕ)
    → IsTaken it
    → it.new.phase ≡ phase.Closed keys at
    → (it.old.phase ≡ phase.Closed keys at) ⊎ ((at ≡ it.setup.moment) × ClosesAssociation it.effect))

abbrev pub FirstRequestsWaitFromNow : Type 0
FirstRequestsWaitFromNow = EachBeginning (λ it. (number : ℕ) (request : Request)
    → IsBegun it
    → map.get (begun_by it).outgoing.outstanding number ≡ Some request
    → (it.beginning.octets ≡ request.octets) × (request.timer ≡ record { sent = it.moment; repeats = 0 }))

abbrev pub NewRequestsWaitFromNow : Type 0
NewRequestsWaitFromNow = EachRequest (λ it.
    IsSoundlyHeld it.old
    → IsSent it
    → KeepTimers it.setup.moment (Some it.octets) it.old it.new)

abbrev pub OtherRequestsWaitOn : Type 0
OtherRequestsWaitOn = EachRequest (λ it. (number : ℕ) (request : Request)
    → IsSoundlyHeld it.old
    → IsSent it
    → map.get it.old.outgoing.outstanding number ≡ Some request
    → map.get it.new.outgoing.outstanding number ≡ Some request)

abbrev pub OneRequestGoesOutUnderTheNextNumber : Type 0
OneRequestGoesOutUnderTheNextNumber = EachRequest (λ it. (number : ℕ) (request : Request)
    → IsSent it
    → map.get it.new.outgoing.outstanding number ≡ Some request
    → (map.get it.old.outgoing.outstanding number ≡ Some request) ⊎ (number ≡ it.old.outgoing.next))
