-- What a message is to an IKE SA is determined.
use Rattle.std.proofs.Common.{◌≡◌, ◌==◌, ◌||◌, ℕ, Bool, true, false, if◌then◌else◌, Option, Some, None, refl, ap, ◌∙◌, sym}
use Rattle.std.specs.FinMap as map
use Rattle.base.specs.Octets.{Octets}
use Rattle.wire.specs.Numbers.{CREATE_CHILD_SA, IKE_AUTH, INFORMATIONAL}
use Rattle.wire.specs.declared.message.Message.{Message}
use Rattle.exchange.specs.declared.sealed.Plain.{Plain}
use Rattle.requests.specs.Incoming.{IsJudgement, IsSameJudgement, PeerRequests}
use Rattle.requests.specs.declared.incoming.Judgement.{Judgement}
use Rattle.requests.specs.declared.incoming.Judgement.TheVariants as judged
use Rattle.association.specs.Purposes.{exchange_of}
use Rattle.association.specs.Receiving.{admits, answering_reception, fresh_reception, is_closed, judged_reception, opened_by, reception_by, repeated_reception, Answers, AnswersInitial, IsAnswering, IsAnsweringInitial, IsAwaited, IsEffective, IsReceived, IsReceivedBy, Opening, Reception, Refused, TakesEffect}
use Rattle.association.specs.Finding.{is_waiting}
use Rattle.association.specs.declared.phase.Association.{Association}
use Rattle.association.specs.declared.fault.MessageFault.TheVariants.{WrongPhase}
use Rattle.association.specs.declared.phase.Phase.{Phase}
use Rattle.association.specs.declared.phase.Phase.TheVariants as phase
use Rattle.association.specs.declared.phase.Request.{Request}

-- two judgements that say the same make the same of a request
pub same_reception : (phase : Phase) (exchange : ℕ) (plain : Option Plain) (one other : Judgement) → IsSameJudgement one other
    → judged_reception phase exchange plain one ≡ judged_reception phase exchange plain other
same_reception phase exchange plain judged.Fresh judged.Fresh same = refl
same_reception phase exchange plain (judged.Repeat one) (judged.Repeat other) same = ap (λ reply. repeated_reception reply plain) same
same_reception phase exchange plain judged.Forgotten judged.Forgotten same = refl
same_reception phase exchange plain judged.Outside judged.Outside same = refl
same_reception phase exchange plain judged.Fresh (judged.Repeat other) same = elim same [ ]
same_reception phase exchange plain judged.Fresh judged.Forgotten same = elim same [ ]
same_reception phase exchange plain judged.Fresh judged.Outside same = elim same [ ]
same_reception phase exchange plain (judged.Repeat one) judged.Fresh same = elim same [ ]
same_reception phase exchange plain (judged.Repeat one) judged.Forgotten same = elim same [ ]
same_reception phase exchange plain (judged.Repeat one) judged.Outside same = elim same [ ]
same_reception phase exchange plain judged.Forgotten judged.Fresh same = elim same [ ]
same_reception phase exchange plain judged.Forgotten (judged.Repeat other) same = elim same [ ]
same_reception phase exchange plain judged.Forgotten judged.Outside same = elim same [ ]
same_reception phase exchange plain judged.Outside judged.Fresh same = elim same [ ]
same_reception phase exchange plain judged.Outside (judged.Repeat other) same = elim same [ ]
same_reception phase exchange plain judged.Outside judged.Forgotten same = elim same [ ]

-- what is judged in one way is received in one way
abbrev pub JudgesInOneWay : Type 0
JudgesInOneWay = (r : PeerRequests) (n : ℕ) (a b : Judgement) → IsJudgement r n a → IsJudgement r n b → IsSameJudgement a b

pub one_reception : JudgesInOneWay → (response : Bool) (plain_of : Opening) (a : Association) (octets : Octets) (m : Message) (one other : Reception)
    → IsReceivedBy response plain_of a octets m one → IsReceivedBy response plain_of a octets m other → one ≡ other
one_reception judges true plain_of a octets m one other first second = first ∙ sym second
one_reception judges false plain_of a octets m one other first second =
    first.whole
    ∙ same_reception a.phase m.header.exchange (opened_by plain_of a octets m.payloads) first.judgement second.judgement
    (judges a.incoming m.header.id first.judgement second.judgement first.number second.number)
    ∙ sym second.whole

-- ---- what is asked of the IKE SA

in_effect_if : (b : Bool) (p plain : Plain) → TakesEffect plain ≡ (if b then TakesEffect p else Refused WrongPhase) → (b ≡ true) × (Some p ≡ Some plain)
in_effect_if true p plain is = (refl, cc)
in_effect_if false p plain is = absurd (cc)

-- a fresh request that is processed
fresh_takes : (p : Phase) (exchange : ℕ) (opened : Option Plain) (plain : Plain) → TakesEffect plain ≡ fresh_reception p exchange opened
    → (admits p exchange ≡ true) × (opened ≡ Some plain)
fresh_takes (phase.Closed keys at) exchange opened plain is = absurd (cc)
fresh_takes (phase.InitSent sent) exchange None plain is = absurd (cc)
fresh_takes (phase.InitSent sent) exchange (Some p) plain is = absurd (cc)
fresh_takes (phase.AuthSent sent) exchange None plain is = absurd (cc)
fresh_takes (phase.AuthSent sent) exchange (Some p) plain is = absurd (cc)
fresh_takes (phase.HalfOpen opened) exchange None plain is = absurd (cc)
fresh_takes (phase.HalfOpen opened) exchange (Some p) plain is = in_effect_if (exchange == IKE_AUTH) p plain is
fresh_takes (phase.Established keys) exchange None plain is = absurd (cc)
fresh_takes (phase.Established keys) exchange (Some p) plain is = in_effect_if (exchange == CREATE_CHILD_SA || exchange == INFORMATIONAL) p plain is

repeated_takes : (reply : Octets) (opened : Option Plain) (plain : Plain) → TakesEffect plain ≡ repeated_reception reply opened → ⊥
repeated_takes reply None plain is = cc
repeated_takes reply (Some p) plain is = cc

effective : (plain_of : Opening) (a : Association) (octets : Octets) (m : Message) (plain : Plain) (judgement : Judgement) → m.header.flags.response ≡ false
    → IsJudgement a.incoming m.header.id judgement
    → TakesEffect plain ≡ judged_reception a.phase m.header.exchange (opened_by plain_of a octets m.payloads) judgement
    → IsEffective plain_of a octets m plain
effective plain_of a octets m plain judged.Fresh request number is =
    let takes = fresh_takes a.phase m.header.exchange (opened_by plain_of a octets m.payloads) plain is in
    record { request = request; fresh = number; admitted = takes.0; opened = takes.1 }
effective plain_of a octets m plain (judged.Repeat reply) request number is = absurd (repeated_takes reply.now (opened_by plain_of a octets m.payloads) plain is)
effective plain_of a octets m plain judged.Forgotten request number is = absurd (cc)
effective plain_of a octets m plain judged.Outside request number is = absurd (cc)

answering_effect : (p : Phase) (same : Bool) (opened : Option Plain) (plain : Plain) → TakesEffect plain ≡ answering_reception p same opened → ⊥
answering_effect (phase.InitSent sent) false opened plain is = cc
answering_effect (phase.AuthSent sent) false opened plain is = cc
answering_effect (phase.HalfOpen held) false opened plain is = cc
answering_effect (phase.Established keys) false opened plain is = cc
answering_effect (phase.Closed keys at) false opened plain is = cc
answering_effect (phase.InitSent sent) true opened plain is = cc
answering_effect (phase.AuthSent sent) true None plain is = cc
answering_effect (phase.AuthSent sent) true (Some q) plain is = cc
answering_effect (phase.HalfOpen o) true None plain is = cc
answering_effect (phase.HalfOpen o) true (Some q) plain is = cc
answering_effect (phase.Established keys) true None plain is = cc
answering_effect (phase.Established keys) true (Some q) plain is = cc
answering_effect (phase.Closed keys at) true None plain is = cc
answering_effect (phase.Closed keys at) true (Some q) plain is = cc

response_effect : (p : Phase) (exchange : ℕ) (request : Option Request) (opened : Option Plain) (plain : Plain) → TakesEffect plain ≡ reception_by p exchange request opened → ⊥
response_effect (phase.Closed keys at) exchange request opened plain is = cc
response_effect (phase.InitSent sent) exchange None opened plain is = cc
response_effect (phase.InitSent sent) exchange (Some r) opened plain is = answering_effect (phase.InitSent sent) (exchange_of r.purpose == exchange) opened plain is
response_effect (phase.AuthSent sent) exchange None opened plain is = cc
response_effect (phase.AuthSent sent) exchange (Some r) opened plain is = answering_effect (phase.AuthSent sent) (exchange_of r.purpose == exchange) opened plain is
response_effect (phase.HalfOpen o) exchange None opened plain is = cc
response_effect (phase.HalfOpen o) exchange (Some r) opened plain is = answering_effect (phase.HalfOpen o) (exchange_of r.purpose == exchange) opened plain is
response_effect (phase.Established keys) exchange None opened plain is = cc
response_effect (phase.Established keys) exchange (Some r) opened plain is = answering_effect (phase.Established keys) (exchange_of r.purpose == exchange) opened plain is

effective_by : (plain_of : Opening) (a : Association) (octets : Octets) (m : Message) (plain : Plain) (response : Bool) → m.header.flags.response ≡ response
    → IsReceivedBy response plain_of a octets m (TakesEffect plain) → IsEffective plain_of a octets m plain
effective_by plain_of a octets m plain true flag is =
    absurd (response_effect a.phase m.header.exchange (map.get a.outgoing.outstanding m.header.id) (opened_by plain_of a octets m.payloads) plain is)
effective_by plain_of a octets m plain false flag is = effective plain_of a octets m plain is.judgement flag is.number is.whole

pub effects_say_why : (plain_of : Opening) (a : Association) (octets : Octets) (m : Message) (plain : Plain)
    → IsReceived plain_of a octets m (TakesEffect plain) → IsEffective plain_of a octets m plain
effects_say_why plain_of a octets m plain is = effective_by plain_of a octets m plain m.header.flags.response refl is

-- ---- what a response answers

-- the request that a response is due to
record Due (p : Phase) (exchange : ℕ) (request : Option Request) : Type 0 where
  open_yet : is_closed p ≡ false
  r : Request
  is : request ≡ Some r
  same : (exchange_of r.purpose == exchange) ≡ true

answered_if : (p : Phase) (b : Bool) (opened : Option Plain) (plain : Plain) → Answers plain ≡ answering_reception p b opened → (b ≡ true) × (opened ≡ Some plain)
answered_if (phase.InitSent sent) false opened plain is = absurd (cc)
answered_if (phase.InitSent sent) true opened plain is = absurd (cc)
answered_if (phase.AuthSent sent) false opened plain is = absurd (cc)
answered_if (phase.AuthSent sent) true None plain is = absurd (cc)
answered_if (phase.AuthSent sent) true (Some q) plain is = (refl, cc)
answered_if (phase.HalfOpen held) false opened plain is = absurd (cc)
answered_if (phase.HalfOpen held) true None plain is = absurd (cc)
answered_if (phase.HalfOpen held) true (Some q) plain is = (refl, cc)
answered_if (phase.Established keys) false opened plain is = absurd (cc)
answered_if (phase.Established keys) true None plain is = absurd (cc)
answered_if (phase.Established keys) true (Some q) plain is = (refl, cc)
answered_if (phase.Closed keys at) false opened plain is = absurd (cc)
answered_if (phase.Closed keys at) true None plain is = absurd (cc)
answered_if (phase.Closed keys at) true (Some q) plain is = (refl, cc)

answers_due : (p : Phase) (exchange : ℕ) (request : Option Request) (opened : Option Plain) (plain : Plain) → Answers plain ≡ reception_by p exchange request opened → Due p exchange request × (opened ≡ Some plain)
answers_due (phase.InitSent sent) exchange None opened plain is = absurd (cc)
answers_due (phase.InitSent sent) exchange (Some r) opened plain is =
    let answered = answered_if (phase.InitSent sent) (exchange_of r.purpose == exchange) opened plain is in
    (record { open_yet = refl; r = r; is = refl; same = answered.0 }, answered.1)
answers_due (phase.AuthSent sent) exchange None opened plain is = absurd (cc)
answers_due (phase.AuthSent sent) exchange (Some r) opened plain is =
    let answered = answered_if (phase.AuthSent sent) (exchange_of r.purpose == exchange) opened plain is in
    (record { open_yet = refl; r = r; is = refl; same = answered.0 }, answered.1)
answers_due (phase.HalfOpen held) exchange None opened plain is = absurd (cc)
answers_due (phase.HalfOpen held) exchange (Some r) opened plain is =
    let answered = answered_if (phase.HalfOpen held) (exchange_of r.purpose == exchange) opened plain is in
    (record { open_yet = refl; r = r; is = refl; same = answered.0 }, answered.1)
answers_due (phase.Established keys) exchange None opened plain is = absurd (cc)
answers_due (phase.Established keys) exchange (Some r) opened plain is =
    let answered = answered_if (phase.Established keys) (exchange_of r.purpose == exchange) opened plain is in
    (record { open_yet = refl; r = r; is = refl; same = answered.0 }, answered.1)
answers_due (phase.Closed keys at) exchange request opened plain is = absurd (cc)

initial_if : (p : Phase) (b : Bool) (opened : Option Plain) → AnswersInitial ≡ answering_reception p b opened → (b ≡ true) × (is_waiting p ≡ true)
initial_if (phase.InitSent sent) false opened is = absurd (cc)
initial_if (phase.InitSent sent) true opened is = (refl, refl)
initial_if (phase.AuthSent sent) false opened is = absurd (cc)
initial_if (phase.AuthSent sent) true None is = absurd (cc)
initial_if (phase.AuthSent sent) true (Some q) is = absurd (cc)
initial_if (phase.HalfOpen held) false opened is = absurd (cc)
initial_if (phase.HalfOpen held) true None is = absurd (cc)
initial_if (phase.HalfOpen held) true (Some q) is = absurd (cc)
initial_if (phase.Established keys) false opened is = absurd (cc)
initial_if (phase.Established keys) true None is = absurd (cc)
initial_if (phase.Established keys) true (Some q) is = absurd (cc)
initial_if (phase.Closed keys at) false opened is = absurd (cc)
initial_if (phase.Closed keys at) true None is = absurd (cc)
initial_if (phase.Closed keys at) true (Some q) is = absurd (cc)

initial_due : (p : Phase) (exchange : ℕ) (request : Option Request) (opened : Option Plain) → AnswersInitial ≡ reception_by p exchange request opened → Due p exchange request × (is_waiting p ≡ true)
initial_due (phase.InitSent sent) exchange None opened is = absurd (cc)
initial_due (phase.InitSent sent) exchange (Some r) opened is =
    let answered = initial_if (phase.InitSent sent) (exchange_of r.purpose == exchange) opened is in
    (record { open_yet = refl; r = r; is = refl; same = answered.0 }, answered.1)
initial_due (phase.AuthSent sent) exchange None opened is = absurd (cc)
initial_due (phase.AuthSent sent) exchange (Some r) opened is =
    let answered = initial_if (phase.AuthSent sent) (exchange_of r.purpose == exchange) opened is in
    (record { open_yet = refl; r = r; is = refl; same = answered.0 }, answered.1)
initial_due (phase.HalfOpen held) exchange None opened is = absurd (cc)
initial_due (phase.HalfOpen held) exchange (Some r) opened is =
    let answered = initial_if (phase.HalfOpen held) (exchange_of r.purpose == exchange) opened is in
    (record { open_yet = refl; r = r; is = refl; same = answered.0 }, answered.1)
initial_due (phase.Established keys) exchange None opened is = absurd (cc)
initial_due (phase.Established keys) exchange (Some r) opened is =
    let answered = initial_if (phase.Established keys) (exchange_of r.purpose == exchange) opened is in
    (record { open_yet = refl; r = r; is = refl; same = answered.0 }, answered.1)
initial_due (phase.Closed keys at) exchange request opened is = absurd (cc)

-- a request answers nothing
answers_none : (b : Bool) (p plain : Plain) → Answers plain ≡ (if b then TakesEffect p else Refused WrongPhase) → ⊥
answers_none true p plain is = cc
answers_none false p plain is = cc

initial_none : (b : Bool) (p : Plain) → AnswersInitial ≡ (if b then TakesEffect p else Refused WrongPhase) → ⊥
initial_none true p is = cc
initial_none false p is = cc

request_answers : (p : Phase) (exchange : ℕ) (opened : Option Plain) (judgement : Judgement) (plain : Plain) → Answers plain ≡ judged_reception p exchange opened judgement → ⊥
request_answers (phase.InitSent sent) exchange None judged.Fresh plain is = cc
request_answers (phase.InitSent sent) exchange (Some q) judged.Fresh plain is = answers_none false q plain is
request_answers (phase.AuthSent sent) exchange None judged.Fresh plain is = cc
request_answers (phase.AuthSent sent) exchange (Some q) judged.Fresh plain is = answers_none false q plain is
request_answers (phase.HalfOpen held) exchange None judged.Fresh plain is = cc
request_answers (phase.HalfOpen held) exchange (Some q) judged.Fresh plain is = answers_none (exchange == IKE_AUTH) q plain is
request_answers (phase.Established keys) exchange None judged.Fresh plain is = cc
request_answers (phase.Established keys) exchange (Some q) judged.Fresh plain is = answers_none (exchange == CREATE_CHILD_SA || exchange == INFORMATIONAL) q plain is
request_answers (phase.Closed keys at) exchange opened judged.Fresh plain is = cc
request_answers p exchange None (judged.Repeat reply) plain is = cc
request_answers p exchange (Some q) (judged.Repeat reply) plain is = cc
request_answers p exchange opened judged.Forgotten plain is = cc
request_answers p exchange opened judged.Outside plain is = cc

request_answers_initial : (p : Phase) (exchange : ℕ) (opened : Option Plain) (judgement : Judgement) → AnswersInitial ≡ judged_reception p exchange opened judgement → ⊥
request_answers_initial (phase.InitSent sent) exchange None judged.Fresh is = cc
request_answers_initial (phase.InitSent sent) exchange (Some q) judged.Fresh is = initial_none false q is
request_answers_initial (phase.AuthSent sent) exchange None judged.Fresh is = cc
request_answers_initial (phase.AuthSent sent) exchange (Some q) judged.Fresh is = initial_none false q is
request_answers_initial (phase.HalfOpen held) exchange None judged.Fresh is = cc
request_answers_initial (phase.HalfOpen held) exchange (Some q) judged.Fresh is = initial_none (exchange == IKE_AUTH) q is
request_answers_initial (phase.Established keys) exchange None judged.Fresh is = cc
request_answers_initial (phase.Established keys) exchange (Some q) judged.Fresh is = initial_none (exchange == CREATE_CHILD_SA || exchange == INFORMATIONAL) q is
request_answers_initial (phase.Closed keys at) exchange opened judged.Fresh is = cc
request_answers_initial p exchange None (judged.Repeat reply) is = cc
request_answers_initial p exchange (Some q) (judged.Repeat reply) is = cc
request_answers_initial p exchange opened judged.Forgotten is = cc
request_answers_initial p exchange opened judged.Outside is = cc

due_at : (a : Association) (m : Message) → m.header.flags.response ≡ true → Due a.phase m.header.exchange (map.get a.outgoing.outstanding m.header.id) → IsAwaited a m
due_at a m flag due = record { response = flag; open_yet = due.open_yet; request = due.r; outstanding = due.is; exchange_is = due.same }

answering_by : (plain_of : Opening) (a : Association) (octets : Octets) (m : Message) (plain : Plain) (response : Bool) → m.header.flags.response ≡ response
    → IsReceivedBy response plain_of a octets m (Answers plain) → IsAnswering plain_of a octets m plain
answering_by plain_of a octets m plain true flag is =
    let due = answers_due a.phase m.header.exchange (map.get a.outgoing.outstanding m.header.id) (opened_by plain_of a octets m.payloads) plain is in
    record { due = due_at a m flag due.0; opened = due.1 }
answering_by plain_of a octets m plain false flag is =
    absurd (request_answers a.phase m.header.exchange (opened_by plain_of a octets m.payloads) is.judgement plain is.whole)

pub answers_say_why : (plain_of : Opening) (a : Association) (octets : Octets) (m : Message) (plain : Plain)
    → IsReceived plain_of a octets m (Answers plain) → IsAnswering plain_of a octets m plain
answers_say_why plain_of a octets m plain is = answering_by plain_of a octets m plain m.header.flags.response refl is

initial_by : (plain_of : Opening) (a : Association) (octets : Octets) (m : Message) (response : Bool) → m.header.flags.response ≡ response
    → IsReceivedBy response plain_of a octets m AnswersInitial → IsAnsweringInitial a m
initial_by plain_of a octets m true flag is =
    let due = initial_due a.phase m.header.exchange (map.get a.outgoing.outstanding m.header.id) (opened_by plain_of a octets m.payloads) is in
    record { due = due_at a m flag due.0; waiting = due.1 }
initial_by plain_of a octets m false flag is =
    absurd (request_answers_initial a.phase m.header.exchange (opened_by plain_of a octets m.payloads) is.judgement is.whole)

pub initials_say_why : (plain_of : Opening) (a : Association) (octets : Octets) (m : Message)
    → IsReceived plain_of a octets m AnswersInitial → IsAnsweringInitial a m
initials_say_why plain_of a octets m is = initial_by plain_of a octets m m.header.flags.response refl is

-- ---- the other way round: what is fresh, belongs to the phase and opens is processed

takes_fresh : (p : Phase) (exchange : ℕ) (opened : Option Plain) (plain : Plain) → admits p exchange ≡ true → opened ≡ Some plain → TakesEffect plain ≡ fresh_reception p exchange opened
takes_fresh (phase.InitSent sent) exchange opened plain admitted is = absurd (cc)
takes_fresh (phase.AuthSent sent) exchange opened plain admitted is = absurd (cc)
takes_fresh (phase.HalfOpen held) exchange None plain admitted is = absurd (cc)
takes_fresh (phase.HalfOpen held) exchange (Some q) plain admitted is =
    let same : q ≡ plain = cc in
    ap TakesEffect (sym same) ∙ ap (λ b. if b then TakesEffect q else Refused WrongPhase) (sym admitted)
takes_fresh (phase.Established keys) exchange None plain admitted is = absurd (cc)
takes_fresh (phase.Established keys) exchange (Some q) plain admitted is =
    let same : q ≡ plain = cc in
    ap TakesEffect (sym same) ∙ ap (λ b. if b then TakesEffect q else Refused WrongPhase) (sym admitted)
takes_fresh (phase.Closed keys at) exchange opened plain admitted is = absurd (cc)

received_by : (plain_of : Opening) (a : Association) (octets : Octets) (m : Message) (plain : Plain) (response : Bool) → response ≡ false
    → IsEffective plain_of a octets m plain → IsReceivedBy response plain_of a octets m (TakesEffect plain)
received_by plain_of a octets m plain true flag due = absurd (cc)
received_by plain_of a octets m plain false flag due =
    record {
      judgement = judged.Fresh;
      number = due.fresh;
      whole = takes_fresh a.phase m.header.exchange (opened_by plain_of a octets m.payloads) plain due.admitted due.opened;
    }

pub effective_is_received : (plain_of : Opening) (a : Association) (octets : Octets) (m : Message) (plain : Plain)
    → IsEffective plain_of a octets m plain → IsReceived plain_of a octets m (TakesEffect plain)
effective_is_received plain_of a octets m plain due = received_by plain_of a octets m plain m.header.flags.response due.request due
