-- The two ends' pairs of one Child SA.
use Rattle.std.proofs.Common.{◌≡◌, ℕ, ◌∷◌, [], List, Some, refl, subst, sym}
use Rattle.wire.specs.declared.payload.Payload.{Payload}
use Rattle.wire.specs.declared.proposal.Proposal.{Proposal}
use Rattle.suite.specs.Keys.{first_child_keys}
use Rattle.suite.specs.declared.key_record.KeyRecord.{KeyRecord}
use Rattle.exchange.specs.Counting.{only_sa}
use Rattle.exchange.specs.declared.headers.Role.TheVariants.{Initiator, Responder}
use Rattle.sadb.specs.Mirrors.{Mirrors}
use Rattle.sadb.specs.declared.pair.Pair.{Pair}
use Rattle.association.specs.AskedChildren.{asked_of, AskedChildView}
use Rattle.association.specs.declared.purpose.FurtherChild.{FurtherChild}
use Rattle.children.specs.Asking.{asked_proposal, child_request, HasChildPayloads}
use Rattle.children.specs.Pairs.{IsChild}
use Rattle.further.specs.Pairs.{IsFurtherChild}
use Rattle.further.specs.Payloads.{further_payloads}
use Rattle.effects.specs.Children.{First, Further, IsAnsweredChild, IsAskedChild, IsAskedFurther}
use Rattle.setup.specs.Configs.{Setup}

-- what is known of the two ends' pairs of a Child SA
pub record MirrorFacts : Type 0 where
  pub mirror : (keys : List (List ℕ)) (request reply : List Payload) (proposal : Proposal) (a b : Pair)
      → only_sa request ≡ Some (proposal ∷ []) → IsChild Initiator keys request reply a → IsChild Responder keys request reply b → Mirrors a b

pub first_mirror : MirrorFacts → (setup : Setup) (keys others : KeyRecord) (child : AskedChildView) (request reply : List Payload) (a b : Pair)
    → keys ≡ others → HasChildPayloads request (child_request (asked_of child)) → IsAskedChild child keys reply a → IsAnsweredChild First setup others request reply b → Mirrors a b
first_mirror facts setup keys others child request reply a b same asks asked answered =
    facts.mirror (first_child_keys keys) request reply (asked_proposal (asked_of child)) a b asks.sa (asked.made request asks)
    (subst (λ (k : KeyRecord). IsChild Responder (first_child_keys k) request reply b) (sym same) answered.child)

pub record FurtherFacts : Type 0 where
  pub mirror : (keys : KeyRecord) (request reply : List Payload) (proposal : Proposal) (a b : Pair)
      → only_sa request ≡ Some (proposal ∷ []) → IsFurtherChild Initiator keys request reply a → IsFurtherChild Responder keys request reply b → Mirrors a b

pub further_mirror : FurtherFacts → (setup : Setup) (keys others : KeyRecord) (further : FurtherChild) (reply : List Payload) (a b : Pair)
    → keys ≡ others → IsAskedFurther further keys reply a → IsAnsweredChild Further setup others (further_payloads (child_request (asked_of further.child)) further.nonce) reply b → Mirrors a b
further_mirror facts setup keys others further reply a b same asked answered =
    let request : List Payload = further_payloads (child_request (asked_of further.child)) further.nonce in
    facts.mirror keys request reply (asked_proposal (asked_of further.child)) a b refl asked.made
    (subst (λ (k : KeyRecord). IsFurtherChild Responder k request reply b) (sym same) answered.child)
