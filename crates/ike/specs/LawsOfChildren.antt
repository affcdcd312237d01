-- The Child SAs that a step makes, and the answers to offers of IKE SAs and of children.
use Rattle.std.specs.FinMap as map
use Rattle.std.specs.Prelude.{◌≡◌, ◌⊎◌, true, ℕ, List, None, Option, Some}
use Rattle.base.specs.Octets.{Octets}
use Rattle.policy.specs.declared.entry.Entry.{Entry}
use Rattle.wire.specs.declared.payload.Payload.{Payload}
use Rattle.suite.specs.declared.fresh.Fresh.{Fresh}
use Rattle.suite.specs.declared.key_record.KeyRecord.{KeyRecord}
use Rattle.sadb.specs.Database.{pair_at, Database, IsSoundTable}
use Rattle.sadb.specs.Mirrors.{Mirrors}
use Rattle.sadb.specs.declared.pair.Pair.{Pair}
use Rattle.association.specs.AskedChildren.{asked_of, AskedChildView}
use Rattle.association.specs.Purposes.{asks_for_child}
use Rattle.association.specs.declared.phase.Association.{Association}
use Rattle.association.specs.declared.phase.AuthSent.{AuthSent}
use Rattle.association.specs.declared.phase.Phase.TheVariants as phase
use Rattle.association.specs.declared.phase.Request.{Request}
use Rattle.association.specs.declared.purpose.FurtherChild.{FurtherChild}
use Rattle.children.specs.Asking.{child_request, HasChildPayloads}
use Rattle.children.specs.Pairs.{HasFewSelectors}
use Rattle.setup.specs.Configs.{Setup}
use Rattle.further.specs.Payloads.{further_payloads}
use Rattle.effects.specs.Children.{First, Further, IsAnsweredChild, IsAskedChild, IsAskedFurther}
use Rattle.effects.specs.Taking.{Meaning}
use Rattle.ike.specs.Children.{AsksFirstChild, AsksForFurtherNow, AsksNow, FurtherOrdered, FurtherWaited, MakesChildOf, WaitedBefore}
use Rattle.ike.specs.LawCases.{EachDatagram, EachStep, IsStep}
use Rattle.ike.specs.Machines.{association_of, setup_at, Machine}
use Rattle.ike.specs.Offers.{AnswersFirstOffer, AnswersNoOffer, AnswersSealedOffer}
use Rattle.ike.specs.Soundness.{IsSoundMachine}
use Rattle.ike.specs.Steps.{Message, Start, Steps}
use Rattle.ike.specs.declared.output.IkeOutput.TheVariants as output
use Rattle.ike.specs.declared.output.MadeChild.{MadeChild}
use Rattle.ike.specs.declared.output.Mark.{Mark}
use Rattle.ike.specs.declared.output.Stepped.{Stepped}

-- ---- children_are_made_of_their_messages
abbrev pub ChildrenAreMadeOfTheirMessages : Type 0
ChildrenAreMadeOfTheirMessages = (meaning : Meaning) (entries : List Entry) (from octets : Octets)
    (fresh : Fresh) (old : Machine) (table : Database) (stepped : Stepped) (made : MadeChild) (new : Machine)
    (new_table : Database)
    → IsSoundTable table
    → IsSoundMachine old table
    → Steps meaning entries (Message from octets fresh) old table stepped new new_table
    → stepped.trace.child ≡ Some made
    → MakesChildOf meaning (setup_at old entries fresh) octets old.held table stepped made new.held new_table

abbrev pub WhoComesToKeysAsksForItsFirstChild : Type 0
WhoComesToKeysAsksForItsFirstChild = (meaning : Meaning) (entries : List Entry) (from octets : Octets)
    (fresh : Fresh) (old : Machine) (table : Database) (stepped : Stepped) (ike : ℕ) (next : Octets)
    (new : Machine) (new_table : Database)
    → IsSoundTable table
    → IsSoundMachine old table
    → Steps meaning entries (Message from octets fresh) old table stepped new new_table
    → stepped.output ≡ output.Request ike next
    → stepped.trace.keyed ≡ Some ike
    → AsksFirstChild meaning (setup_at old entries fresh) ike next new.held

abbrev pub WhoWaitsWaitedOrAsksNow : Type 0
WhoWaitsWaitedOrAsksNow = EachStep (λ it. (ike : ℕ) (a : Association) (sent : AuthSent)
    → IsSoundTable it.table
    → IsSoundMachine it.old it.table
    → IsStep it
    → association_of ike it.new.held.associations ≡ Some a
    → a.phase ≡ phase.AuthSent sent
    → WaitedBefore ike sent it.old.held ⊎ AsksNow ike it.stepped)

abbrev pub OrdersAskForTheFurtherChild : Type 0
OrdersAskForTheFurtherChild = (meaning : Meaning) (entries : List Entry) (ike place : ℕ) (fresh : Fresh)
    (old : Machine) (table : Database) (stepped : Stepped) (new : Machine) (new_table : Database)
    → IsSoundMachine old table
    → Steps meaning entries (Start (Some ike) place fresh) old table stepped new new_table
    → AsksForFurtherNow meaning.body_of (setup_at old entries fresh) ike stepped new.held

abbrev pub WhoWaitsFurtherWaitedOrIsOrdered : Type 0
WhoWaitsFurtherWaitedOrIsOrdered = EachStep (λ it. (ike number : ℕ) (a : Association) (request : Request)
    → IsSoundMachine it.old it.table
    → IsStep it
    → association_of ike it.new.held.associations ≡ Some a
    → map.get a.outgoing.outstanding number ≡ Some request
    → asks_for_child request.purpose ≡ true
    → FurtherWaited ike number request it.old.held
    ⊎ FurtherOrdered it.input it.old.held ike number request it.stepped)

-- ---- answers_keep_to_their_offers
abbrev pub FirstAnswersKeepToTheirOffers : Type 0
FirstAnswersKeepToTheirOffers = EachDatagram (λ from octets fresh it. (reply : Octets) (closed : Option ℕ)
    (ike : ℕ)
    → IsStep it
    → it.stepped.output ≡ output.Reply reply closed
    → it.stepped.trace.keyed ≡ Some ike
    → AnswersFirstOffer octets reply)

abbrev pub SealedAnswersKeepToTheirOffers : Type 0
SealedAnswersKeepToTheirOffers = EachDatagram (λ from octets fresh it. (reply : Octets) (closed : Option ℕ)
    (mark : Mark)
    → IsSoundMachine it.old it.table
    → IsStep it
    → it.stepped.output ≡ output.Reply reply closed
    → it.stepped.trace.sent ≡ Some mark
    → AnswersSealedOffer it.meaning (setup_at it.old it.entries fresh) mark.ike octets reply it.old.held)

abbrev pub OtherAnswersHaveNoSa : Type 0
OtherAnswersHaveNoSa = EachDatagram (λ from octets fresh it. (reply : Octets) (closed : Option ℕ)
    → IsStep it
    → it.stepped.output ≡ output.Reply reply closed
    → it.stepped.trace.sent ≡ None
    → it.stepped.trace.keyed ≡ None
    → AnswersNoOffer reply)

-- ---- children_have_few_selectors
abbrev pub ChildrenHaveFewSelectors : Type 0
ChildrenHaveFewSelectors = EachStep (λ it. (made : MadeChild) (pair : Pair)
    → IsSoundTable it.table
    → IsSoundMachine it.old it.table
    → IsStep it
    → it.stepped.trace.child ≡ Some made
    → pair_at it.new_table.pairs made.serial ≡ Some pair
    → HasFewSelectors pair)

-- ---- children_are_extended_where_allowed
abbrev pub ChildrenAreExtendedWhereAllowed : Type 0
ChildrenAreExtendedWhereAllowed = EachDatagram (λ from octets fresh it. (made : MadeChild) (pair : Pair)
    → IsSoundTable it.table
    → IsSoundMachine it.old it.table
    → IsStep it
    → it.stepped.trace.child ≡ Some made
    → pair_at it.new_table.pairs made.serial ≡ Some pair
    → pair.inbound.association.extended ≡ true
    → it.old.config.extended ≡ true)

-- ---- first_children_mirror
abbrev pub FirstChildrenMirror : Type 0
FirstChildrenMirror = (setup : Setup) (keys others : KeyRecord) (child : AskedChildView)
    (request reply : List Payload) (a b : Pair)
    → keys ≡ others
    → HasChildPayloads request (child_request (asked_of child))
    → IsAskedChild child keys reply a
    → IsAnsweredChild First setup others request reply b
    → Mirrors a b

-- ---- further_children_mirror
abbrev pub FurtherChildrenMirror : Type 0
FurtherChildrenMirror = (setup : Setup) (keys others : KeyRecord) (further : FurtherChild)
    (reply : List Payload) (a b : Pair)
    → keys ≡ others
    → IsAskedFurther further keys reply a
    → IsAnsweredChild Further setup others
    (further_payloads (child_request (asked_of further.child)) further.nonce) reply b
    → Mirrors a b
