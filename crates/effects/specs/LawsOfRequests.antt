-- The requests of either end: which are processed, what is remembered of them, and how retransmissions are
-- answered.
use Rattle.std.specs.FinMap as map
use Rattle.std.specs.Prelude.{◌≡◌, ◌⊎◌, false, true, ℕ, None, Some}
use Rattle.base.specs.Octets.{Octets}
use Rattle.base.specs.declared.selector.Selector.{Selector}
use Rattle.suite.specs.declared.keys.Keys.{Keys}
use Rattle.exchange.specs.declared.sealed.Plain.{Plain}
use Rattle.sadb.specs.Database.{Database}
use Rattle.requests.specs.Following.{FollowsIncoming}
use Rattle.requests.specs.Incoming.{IsFreshRequest}
use Rattle.requests.specs.Numbers.{HasNumber, LacksNumber}
use Rattle.association.specs.Receiving.{admits, opened_by, IsRepeating}
use Rattle.association.specs.declared.fault.MessageFault.TheVariants as why
use Rattle.association.specs.declared.phase.Association.{Association}
use Rattle.association.specs.declared.phase.HalfOpen.{HalfOpen}
use Rattle.association.specs.declared.phase.Phase.TheVariants as phase
use Rattle.setup.specs.Configs.{Setup}
use Rattle.association.specs.Phases.{IsEstablished}
use Rattle.create_child.specs.Asking.{AsksForFurther}
use Rattle.effects.specs.LawCases.{begun_by, EachAdmission, EachBeginning, EachMessage, EachMessageWith, EachOrder, EachRequest, IsAdmission, IsBegun, IsOrdered, IsSent, IsTaken}
use Rattle.effects.specs.Requests.{is_concluded, IsPassing, IsSoundlyHeld, KeepsPeersWindow, KeepsWindow, PutsIntoEffect, StaysConcluded, WidensPeersWindow, WidensWindow}
use Rattle.effects.specs.Sending.{SendsRequest}
use Rattle.effects.specs.declared.taking.Effect.TheVariants.{Refused, Repeated, Replied}

-- ---- orders_send_requests
abbrev pub OrdersSendRequests : Type 0
OrdersSendRequests = EachOrder (λ it.
    IsOrdered it
    → SendsRequest it.body_of it.setup it.old it.octets it.new)

abbrev pub FurtherOrdersSendRequests : Type 0
FurtherOrdersSendRequests = (body_of : Keys → Octets → Octets → Octets → Octets) (setup : Setup)
    (local remote : Selector) (old : Association) (table : Database) (octets : Octets) (new : Association)
    (new_table : Database)
    → AsksForFurther body_of setup local remote old table octets new new_table
    → SendsRequest body_of setup old octets new

-- ---- requests_take_effect
abbrev pub NumbersTakeEffectByTheirRequestAlone : Type 0
NumbersTakeEffectByTheirRequestAlone = EachMessage (λ it. (number : ℕ)
    → IsTaken it
    → LacksNumber it.old.incoming.in_effect number
    → HasNumber it.new.incoming.in_effect number
    → PutsIntoEffect it.meaning.plain_of it.old it.octets it.message it.effect it.new number)

abbrev pub NewRequestsTakeEffect : Type 0
NewRequestsTakeEffect = EachMessage (λ it. (plain : Plain)
    → IsTaken it
    → it.message.header.flags.response ≡ false
    → IsFreshRequest it.old.incoming it.message.header.id
    → admits it.old.phase it.message.header.exchange ≡ true
    → opened_by it.meaning.plain_of it.old it.octets it.message.payloads ≡ Some plain
    → HasNumber it.new.incoming.in_effect it.message.header.id)

abbrev pub RequestsPassOrTakeEffect : Type 0
RequestsPassOrTakeEffect = EachMessage (λ it.
    IsTaken it
    → it.message.header.flags.response ≡ false
    → IsPassing it.effect
    ⊎ PutsIntoEffect it.meaning.plain_of it.old it.octets it.message it.effect it.new it.message.header.id)

abbrev pub WhatIsRepliedToTakesEffect : Type 0
WhatIsRepliedToTakesEffect = EachMessageWith Replied (λ answered it.
    IsTaken it
    → PutsIntoEffect it.meaning.plain_of it.old it.octets it.message it.effect it.new it.message.header.id)

-- ---- requests_are_remembered
abbrev pub RequestsFollowThoseBefore : Type 0
RequestsFollowThoseBefore = EachMessage (λ it.
    IsTaken it
    → FollowsIncoming it.old.incoming it.new.incoming)

abbrev pub TheConcludedStaysConcluded : Type 0
TheConcludedStaysConcluded = EachMessage (λ it.
    IsTaken it
    → is_concluded it.old.phase ≡ true
    → StaysConcluded it.old it.new)

abbrev pub TheWindowStaysOrIsWidened : Type 0
TheWindowStaysOrIsWidened = EachMessage (λ it.
    IsTaken it
    → KeepsWindow it.setup.config.window it.old it.new)

abbrev pub ThePeersWindowStaysOrIsWidened : Type 0
ThePeersWindowStaysOrIsWidened = EachMessage (λ it.
    IsSoundlyHeld it.old
    → IsTaken it
    → KeepsPeersWindow it.meaning.plain_of it.octets it.message it.old it.new)

abbrev pub WhoIsEstablishedWidensBothWindows : Type 0
WhoIsEstablishedWidensBothWindows = EachMessage (λ it.
    is_concluded it.old.phase ≡ false
    → IsEstablished it.new.phase
    → IsTaken it
    → WidensWindow it.setup.config.window it.old it.new
    × WidensPeersWindow it.meaning.plain_of it.octets it.message it.old it.new)

abbrev pub TheHalfOpenWereSoBefore : Type 0
TheHalfOpenWereSoBefore = EachMessage (λ it. (opened : HalfOpen)
    → IsTaken it
    → it.new.phase ≡ phase.HalfOpen opened
    → it.old.phase ≡ phase.HalfOpen opened)

abbrev pub WhatIsHeldStaysSound : Type 0
WhatIsHeldStaysSound = EachMessage (λ it.
    IsSoundlyHeld it.old
    → IsTaken it
    → IsSoundlyHeld it.new)

abbrev pub WhatBeginsIsSound : Type 0
WhatBeginsIsSound = EachBeginning (λ it.
    IsBegun it
    → IsSoundlyHeld (begun_by it))

abbrev pub WhatIsAdmittedIsSound : Type 0
WhatIsAdmittedIsSound = EachAdmission (λ it.
    IsAdmission it
    → IsSoundlyHeld it.admitted.association)

abbrev pub RequestsLeaveItSound : Type 0
RequestsLeaveItSound = EachRequest (λ it.
    IsSoundlyHeld it.old
    → IsSent it
    → IsSoundlyHeld it.new)

-- ---- repeats_are_answered
abbrev pub RepeatsAreAnswered : Type 0
RepeatsAreAnswered = EachMessage (λ it. (plain : Plain) (reply : Octets)
    → IsTaken it
    → it.message.header.flags.response ≡ false
    → HasNumber it.old.incoming.in_effect it.message.header.id
    → map.get it.old.incoming.kept it.message.header.id ≡ Some reply
    → opened_by it.meaning.plain_of it.old it.octets it.message.payloads ≡ Some plain
    → it.effect ≡ Repeated reply)

abbrev pub TheForgottenIsRefused : Type 0
TheForgottenIsRefused = EachMessage (λ it.
    IsTaken it
    → it.message.header.flags.response ≡ false
    → HasNumber it.old.incoming.in_effect it.message.header.id
    → map.get it.old.incoming.kept it.message.header.id ≡ None
    → it.effect ≡ Refused why.Forgotten)

abbrev pub OnlyRepeatsAreAnsweredAgain : Type 0
OnlyRepeatsAreAnsweredAgain = EachMessageWith Repeated (λ reply it.
    IsTaken it
    → IsRepeating it.meaning.plain_of it.old it.octets it.message reply)
