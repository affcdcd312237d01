-- What the payloads of a message bring: a Child SA, an answer to an offer, a proof of the peer's identity.
use Rattle.std.specs.FinMap as map
use Rattle.std.specs.Prelude.{◌≡◌, ◌⊎◌, true, ℕ, List, Option, Some}
use Rattle.base.specs.Octets.{Octets}
use Rattle.base.specs.declared.selector.Selector.{Selector}
use Rattle.wire.specs.Numbers.{CREATE_CHILD_SA, IKE_AUTH}
use Rattle.wire.specs.declared.message.Message.{Message}
use Rattle.wire.specs.declared.payload.Payload.{Payload}
use Rattle.suite.specs.declared.fresh.Fresh.{Fresh}
use Rattle.suite.specs.declared.key_record.KeyRecord.{KeyRecord}
use Rattle.suite.specs.declared.keys.Keys.{Keys}
use Rattle.suite.specs.declared.sealer.Cipher.{Cipher}
use Rattle.exchange.specs.declared.sealed.Plain.{Plain}
use Rattle.sadb.specs.Database.{Database, IsSoundTable}
use Rattle.sa_init.specs.Cookies.{CookieSecrets}
use Rattle.sa_init.specs.Judging.{Accepted, IsJudgement, OfferView}
use Rattle.sa_init.specs.declared.judging.Sender.{Sender}
use Rattle.association.specs.AskedChildren.{AskedChildView}
use Rattle.association.specs.Closing.{HoldsReserved}
use Rattle.association.specs.Purposes.{asks_for_child}
use Rattle.association.specs.declared.phase.Association.{Association}
use Rattle.association.specs.declared.phase.AuthSent.{AuthSent}
use Rattle.association.specs.declared.phase.Phase.TheVariants as phase
use Rattle.association.specs.declared.phase.Phase.TheVariants.{Established}
use Rattle.association.specs.declared.phase.Request.{Request}
use Rattle.auth.specs.Proofs.{Accepts}
use Rattle.initial.specs.Answering.{AnswersAuth, Prover}
use Rattle.association.specs.Admitting.{Admits}
use Rattle.setup.specs.Configs.{Setup}
use Rattle.initial.specs.Ending.{EndsAuth}
use Rattle.association.specs.declared.outcome.Answered.{Answered}
use Rattle.association.specs.declared.admitting.Admitted.{Admitted}
use Rattle.association.specs.declared.outcome.Ended.{Ended}
use Rattle.create_child.specs.Answering.{AnswersFurther}
use Rattle.create_child.specs.Asking.{AsksForFurther}
use Rattle.effects.specs.Children.{first_asked, AsksForChild, AsksForFurtherChild, IsAsking, MakesChild}
use Rattle.effects.specs.Keeping.{child_in}
use Rattle.effects.specs.LawCases.{EachMessage, EachMessageWith, EachOrder, IsOrdered, IsTaken}
use Rattle.effects.specs.Offers.{AnswersInitialSa, AnswersMessageSa, AnswersSealedSa}
use Rattle.effects.specs.Proving.{ProvesByMessage, ProvesByRequest, ProvesByResponse}
use Rattle.effects.specs.Requests.{IsSoundlyHeld}
use Rattle.effects.specs.Taking.{Meaning, TakesMessage}
use Rattle.effects.specs.declared.taking.Effect.{Effect}
use Rattle.effects.specs.declared.taking.Effect.TheVariants.{AsksAuth, Replied}

-- ---- children_are_made_of_their_messages
abbrev pub ChildrenAreMadeOfTheirMessages : Type 0
ChildrenAreMadeOfTheirMessages = (meaning : Meaning) (setup : Setup) (old : Association) (table : Database)
    (octets : Octets) (m : Message) (effect : Effect) (serial : ℕ) (new : Association) (new_table : Database)
    → IsSoundTable table
    → IsSoundlyHeld old
    → HoldsReserved old table
    → child_in effect ≡ Some serial
    → TakesMessage meaning setup old table octets m effect new new_table
    → MakesChild meaning setup old table octets m effect serial new new_table

abbrev pub TheRequestAsksForTheFirstChild : Type 0
TheRequestAsksForTheFirstChild = EachMessageWith AsksAuth (λ next it.
    IsTaken it
    → AsksForChild it.meaning it.setup next it.new)

abbrev pub WhoWaitsWaitedOrAsksNow : Type 0
WhoWaitsWaitedOrAsksNow = EachMessage (λ it. (sent : AuthSent)
    → it.new.phase ≡ phase.AuthSent sent
    → IsTaken it
    → (it.old.phase ≡ phase.AuthSent sent) ⊎ IsAsking it.effect)

abbrev pub TheFirstChildIsTheOneAskedFor : Type 0
TheFirstChildIsTheOneAskedFor = EachMessage (λ it. (child : AskedChildView)
    → first_asked it.new.phase ≡ Some child
    → IsTaken it
    → first_asked it.old.phase ≡ Some child)

abbrev pub FurtherOrdersAskForTheirChild : Type 0
FurtherOrdersAskForTheirChild = (body_of : Keys → Octets → Octets → Octets → Octets) (setup : Setup)
    (local remote : Selector) (old : Association) (table : Database) (octets : Octets) (new : Association)
    (new_table : Database)
    → AsksForFurther body_of setup local remote old table octets new new_table
    → AsksForFurtherChild body_of setup old.outgoing.next octets new

abbrev pub NoMessageAsksForAFurtherChild : Type 0
NoMessageAsksForAFurtherChild = EachMessage (λ it. (number : ℕ) (request : Request)
    → IsSoundlyHeld it.old
    → map.get it.new.outgoing.outstanding number ≡ Some request
    → asks_for_child request.purpose ≡ true
    → IsTaken it
    → map.get it.old.outgoing.outstanding number ≡ Some request)

abbrev pub NoOtherOrderAsksForAFurtherChild : Type 0
NoOtherOrderAsksForAFurtherChild = EachOrder (λ it. (number : ℕ) (request : Request)
    → IsOrdered it
    → map.get it.new.outgoing.outstanding number ≡ Some request
    → asks_for_child request.purpose ≡ true
    → map.get it.old.outgoing.outstanding number ≡ Some request)

-- ---- answers_keep_to_their_offers
abbrev pub InitialAnswersKeepToTheirOffers : Type 0
InitialAnswersKeepToTheirOffers = (cipher : Cipher) (group : ℕ) (public_value : Octets → Octets)
    (shared_secret : Octets → Octets → Option Octets) (secrets : CookieSecrets) (sender : Sender)
    (half_open held : ℕ) (payloads : List Payload) (fresh : Fresh) (moment serial : ℕ) (offer : OfferView)
    (spi_i : ℕ) (request : Octets) (admitted : Admitted)
    → IsJudgement cipher group secrets sender half_open held payloads (Accepted offer)
    → Admits cipher group public_value shared_secret fresh moment serial offer spi_i request admitted
    → AnswersInitialSa payloads admitted.octets

abbrev pub AuthAnswersKeepToTheirOffers : Type 0
AuthAnswersKeepToTheirOffers = (prover : Prover) (setup : Setup) (old : Association) (table : Database)
    (number : ℕ) (plain : Plain) (answered : Answered) (new : Association) (new_table : Database)
    → AnswersAuth prover setup old table number plain answered new new_table
    → AnswersSealedSa IKE_AUTH prover.body_of setup old number plain answered.octets

abbrev pub FurtherAnswersKeepToTheirOffers : Type 0
FurtherAnswersKeepToTheirOffers = (body_of : Keys → Octets → Octets → Octets → Octets) (setup : Setup)
    (old : Association) (table : Database) (number : ℕ) (plain : Plain) (answered : Answered)
    (new : Association) (new_table : Database)
    → AnswersFurther body_of setup old table number plain answered new new_table
    → AnswersSealedSa CREATE_CHILD_SA body_of setup old number plain answered.octets

abbrev pub AnswersKeepToTheirOffers : Type 0
AnswersKeepToTheirOffers = EachMessageWith Replied (λ answered it.
    IsTaken it
    → AnswersMessageSa it.meaning it.setup it.old it.octets it.message answered.octets)

-- ---- the_established_proved_themselves
abbrev pub WhoARequestEstablishesProvedItself : Type 0
WhoARequestEstablishesProvedItself = (prover : Prover) (setup : Setup) (old : Association) (table : Database)
    (number : ℕ) (plain : Plain) (answered : Answered) (new : Association) (new_table : Database)
    (keys : KeyRecord)
    → AnswersAuth prover setup old table number plain answered new new_table
    → new.phase ≡ Established keys
    → ProvesByRequest prover.accepts setup old.phase plain

abbrev pub WhoAResponseEstablishesProvedItself : Type 0
WhoAResponseEstablishesProvedItself = (accepts : Accepts) (setup : Setup) (old : Association)
    (table : Database) (number : ℕ) (plain : Plain) (ended : Ended) (new : Association) (new_table : Database)
    (keys : KeyRecord)
    → EndsAuth accepts setup old table number plain ended new new_table
    → new.phase ≡ Established keys
    → ProvesByResponse accepts setup old.phase plain

abbrev pub TheEstablishedProvedThemselves : Type 0
TheEstablishedProvedThemselves = EachMessage (λ it. (keys : KeyRecord)
    → IsTaken it
    → it.new.phase ≡ Established keys
    → (it.old.phase ≡ Established keys) ⊎ ProvesByMessage it.meaning it.setup it.old it.octets it.message)
