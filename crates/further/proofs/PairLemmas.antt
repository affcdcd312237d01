-- What each end makes is its SA pair of the additional Child SA, and the two mirror each other.
use Rattle.std.proofs.Common.{◌≡◌, ◌<◌, ◌^◌, ◌||◌, ℕ, Bool, true, false, List, [], ◌∷◌, Option, Some, refl, sym, subst, ◌∙◌}
use Rattle.std.proofs.lemmas.Option.{same_Some}
use Rattle.std.specs.List.{list_any}
use Rattle.base.specs.Octets.{Octets}
use Rattle.wire.specs.Numbers.{IKE_PROTOCOL}
use Rattle.wire.specs.Payloads.{SpellsChain}
use Rattle.wire.specs.declared.payload.Payload.{Payload}
use Rattle.wire.specs.declared.proposal.Proposal.{Proposal}
use Rattle.suite.specs.Keys.{child_keys}
use Rattle.suite.specs.declared.key_record.KeyRecord.{KeyRecord}
use Rattle.exchange.specs.Counting.{has_ke, offers_protocol, only_sa}
use Rattle.exchange.specs.declared.child.ChildPayloads.{ChildPayloads}
use Rattle.exchange.specs.declared.headers.Role.TheVariants.{Initiator, Responder}
use Rattle.exchange.specs.declared.sealed.Plain.{Plain}
use Rattle.policy.specs.declared.entry.Entry.{Entry}
use Rattle.sadb.specs.Database.{Database}
use Rattle.sadb.specs.Mirrors.{Mirrors}
use Rattle.sadb.specs.declared.pair.Pair.{Pair}
use Rattle.children.specs.Accepting.{IsAcceptedChild}
use Rattle.children.specs.Asking.{asked_proposal, child_request, HasChildPayloads}
use Rattle.children.specs.Pairs.{IsChild}
use Rattle.children.specs.Responding.{IsMadeChild}
use Rattle.children.specs.declared.asking.Asked.{Asked}
use Rattle.children.specs.declared.responding.Made.{Made}
use Rattle.children.specs.declared.setting.Setting.{Setting}
use Rattle.setup.specs.Configs.{Setup}
use Rattle.further.specs.Concluding.{AcceptsFurtherChild, Concludes, IsConclusion}
use Rattle.further.specs.Deciding.{further_setting, responder_setting, DecidesFurther, DecidesFurtherBy, DecidesFurtherOn, IsFurtherDecision}
use Rattle.further.specs.Judging.{Admitted, AsksFor, FurtherJudgement, FurtherRequestView, IsFurtherJudgement, Refused}
use Rattle.further.specs.Pairs.{IsFurtherChild}
use Rattle.further.specs.Payloads.{further_payloads}
use Rattle.further.specs.declared.concluding.Conclusion.TheVariants as conclusion
use Rattle.further.specs.declared.deciding.Decision.TheVariants as decision
use Rattle.further.proofs.ReadingLemmas.{one_read, OneChain}

-- where a Child SA is made, it was asked for
pub record MakesFurther (setup : Setup) (ike : ℕ) (keys : KeyRecord) (table : Database) (deleting : Bool) (payloads : List Payload) (made : Made) : Type 0 where
  pub request : FurtherRequestView
  pub asks : AsksFor payloads deleting request
  pub child : IsMadeChild (responder_setting setup ike keys request) setup.config.extended setup.entries table request.child made

made_by : (setup : Setup) (ike : ℕ) (keys : KeyRecord) (table : Database) (deleting : Bool) (payloads : List Payload) (made : Made) (j : FurtherJudgement)
    → IsFurtherJudgement payloads deleting j → DecidesFurtherBy setup ike keys table j (decision.Made made) → MakesFurther setup ike keys table deleting payloads made
made_by setup ike keys table deleting payloads made (Refused notice) judged due = absurd due
made_by setup ike keys table deleting payloads made (Admitted request) judged due = record { request = request; asks = judged; child = due }

pub made_on : (setup : Setup) (ike : ℕ) (keys : KeyRecord) (table : Database) (deleting : Bool) (payloads : List Payload) (made : Made)
    → DecidesFurtherOn setup ike keys table deleting payloads (decision.Made made) → MakesFurther setup ike keys table deleting payloads made
made_on setup ike keys table deleting payloads made is = made_by setup ike keys table deleting payloads made is.judgement is.judged is.due

-- the laws of the crate below
abbrev pub MadeAreChildren : Type 0
MadeAreChildren = (setting : Setting) (extended : Bool) (entries : List Entry) (table : Database) (offer : ChildPayloads) (made : Made) (request reply : List Payload)
    → IsMadeChild setting extended entries table offer made → only_sa request ≡ Some offer.proposals → HasChildPayloads reply made.payloads
    → IsChild Responder setting.keys request reply made.pair

abbrev pub AcceptedAreChildren : Type 0
AcceptedAreChildren = (setting : Setting) (asked : Asked) (request answer : List Payload) (pair : Pair)
    → IsAcceptedChild setting asked answer pair → asked.spi < 2 ^ 32 → only_sa request ≡ Some (asked_proposal asked ∷ [])
    → IsChild Initiator setting.keys request answer pair

abbrev pub ChildrenMirror : Type 0
ChildrenMirror = (keys : List (List ℕ)) (request reply : List Payload) (proposal : Proposal) (a b : Pair) → only_sa request ≡ Some (proposal ∷ [])
    → IsChild Initiator keys request reply a → IsChild Responder keys request reply b → Mirrors a b

pub sent_child : (child : ChildPayloads) (nonce : Octets) → HasChildPayloads (further_payloads child nonce) child
sent_child child nonce = record { sa = refl; ts_i = refl; ts_r = refl }

or_left : (a b : Bool) → (a || b) ≡ false → a ≡ false
or_left true b is = cc
or_left false b is = refl

pub made_is_further : MadeAreChildren → (setup : Setup) (ike : ℕ) (keys : KeyRecord) (table : Database) (deleting : Bool) (payloads : List Payload) (made : Made)
    → DecidesFurtherOn setup ike keys table deleting payloads (decision.Made made)
    → IsFurtherChild Responder keys payloads (further_payloads made.payloads setup.fresh.nonce) made.pair
made_is_further law setup ike keys table deleting payloads made is =
    let m = made_on setup ike keys table deleting payloads made is in
    let nonce : Octets = setup.fresh.nonce in
    record {
      no_exchange = or_left (has_ke payloads) (list_any (offers_protocol IKE_PROTOCOL) payloads)
          (or_left (has_ke payloads || list_any (offers_protocol IKE_PROTOCOL) payloads) deleting m.asks.admitted);
      nonce_i = m.request.nonce;
      nonce_r = nonce;
      asked = m.asks.nonce;
      answered = refl;
      child = law (responder_setting setup ike keys m.request) setup.config.extended setup.entries table m.request.child made payloads (further_payloads made.payloads nonce)
          m.child m.asks.sa (sent_child made.payloads nonce);
    }

pub accepted_is_further : AcceptedAreChildren → (blocks ike : ℕ) (keys : KeyRecord) (asked : Asked) (own_nonce : Octets) (answer : List Payload) (pair : Pair)
    → asked.spi < 2 ^ 32 → AcceptsFurtherChild blocks ike keys asked own_nonce answer pair
    → IsFurtherChild Initiator keys (further_payloads (child_request asked) own_nonce) answer pair
accepted_is_further law blocks ike keys asked own_nonce answer pair small is = record {
  no_exchange = refl;
  nonce_i = own_nonce;
  nonce_r = is.nonce;
  asked = refl;
  answered = is.alone;
  child = law (further_setting blocks ike keys own_nonce is.nonce) asked (further_payloads (child_request asked) own_nonce) answer pair is.child small refl;
}

pub further_mirrored : ChildrenMirror → (keys : KeyRecord) (request reply : List Payload) (proposal : Proposal) (a b : Pair) → only_sa request ≡ Some (proposal ∷ [])
    → IsFurtherChild Initiator keys request reply a → IsFurtherChild Responder keys request reply b → Mirrors a b
further_mirrored law keys request reply proposal a b one is also =
    let same_i : is.nonce_i ≡ also.nonce_i = same_Some is.nonce_i also.nonce_i (sym is.asked ∙ also.asked) in
    let same_r : is.nonce_r ≡ also.nonce_r = same_Some is.nonce_r also.nonce_r (sym is.answered ∙ also.answered) in
    let child : IsChild Initiator (child_keys keys.sk_d also.nonce_i also.nonce_r) request reply a =
    subst (λ (n : Octets). IsChild Initiator (child_keys keys.sk_d n also.nonce_r) request reply a) same_i
    (subst (λ (n : Octets). IsChild Initiator (child_keys keys.sk_d is.nonce_i n) request reply a) same_r is.child) in
    law (child_keys keys.sk_d also.nonce_i also.nonce_r) request reply proposal a b one child also.child

-- what was decided about octets that spell these payloads was decided about them; so it is with what was
-- concluded
pub decided_as_sent : OneChain → (setup : Setup) (ike : ℕ) (keys : KeyRecord) (table : Database) (deleting : Bool) (plain : Plain) (payloads : List Payload) (made : Made)
    → SpellsChain plain.first payloads plain.octets → DecidesFurther setup ike keys table deleting plain (decision.Made made)
    → DecidesFurtherOn setup ike keys table deleting payloads (decision.Made made)
decided_as_sent law setup ike keys table deleting plain payloads made spelled is =
    let same : is.payloads ≡ Some payloads = one_read law plain is.payloads (Some payloads) is.read spelled in
    subst (λ (p : Option (List Payload)). IsFurtherDecision setup ike keys table deleting p (decision.Made made)) same is.due

pub accepted_as_sent : OneChain → (blocks ike : ℕ) (keys : KeyRecord) (asked : Asked) (own_nonce : Octets) (plain : Plain) (payloads : List Payload) (pair : Pair)
    → SpellsChain plain.first payloads plain.octets → Concludes blocks ike keys asked own_nonce plain (conclusion.Made pair)
    → AcceptsFurtherChild blocks ike keys asked own_nonce payloads pair
accepted_as_sent law blocks ike keys asked own_nonce plain payloads pair spelled is =
    let same : is.payloads ≡ Some payloads = one_read law plain is.payloads (Some payloads) is.read spelled in
    subst (λ (p : Option (List Payload)). IsConclusion blocks ike keys asked own_nonce p (conclusion.Made pair)) same is.due

pub plain_is_further : OneChain → MadeAreChildren → (setup : Setup) (ike : ℕ) (keys : KeyRecord) (table : Database) (deleting : Bool) (plain : Plain) (made : Made) (request : List Payload)
    → DecidesFurther setup ike keys table deleting plain (decision.Made made) → SpellsChain plain.first request plain.octets
    → IsFurtherChild Responder keys request (further_payloads made.payloads setup.fresh.nonce) made.pair
plain_is_further chain law setup ike keys table deleting plain made request is spelled =
    made_is_further law setup ike keys table deleting request made (decided_as_sent chain setup ike keys table deleting plain request made spelled is)

pub plain_accepted_is_further : OneChain → AcceptedAreChildren → (blocks ike : ℕ) (keys : KeyRecord) (asked : Asked) (own_nonce : Octets) (plain : Plain) (pair : Pair) (answer : List Payload)
    → asked.spi < 2 ^ 32 → Concludes blocks ike keys asked own_nonce plain (conclusion.Made pair) → SpellsChain plain.first answer plain.octets
    → IsFurtherChild Initiator keys (further_payloads (child_request asked) own_nonce) answer pair
plain_accepted_is_further chain law blocks ike keys asked own_nonce plain pair answer small is spelled =
    accepted_is_further law blocks ike keys asked own_nonce answer pair small (accepted_as_sent chain blocks ike keys asked own_nonce plain answer pair spelled is)

-- what the laws of this crate and of the format say of both ends
pub record PairLaws : Type 0 where
  pub chain : OneChain
  pub mirror : ChildrenMirror
  pub made : MadeAreChildren
  pub accepted : AcceptedAreChildren

pub ends_mirrored : (laws : PairLaws) (asked : Asked) (own_nonce : Octets) (keys : KeyRecord) (setup : Setup) (blocks ike other_ike : ℕ) (table : Database) (deleting : Bool) (request answer : Plain) (made : Made) (pair : Pair)
    → asked.spi < 2 ^ 32 → SpellsChain request.first (further_payloads (child_request asked) own_nonce) request.octets
    → DecidesFurther setup other_ike keys table deleting request (decision.Made made)
    → SpellsChain answer.first (further_payloads made.payloads setup.fresh.nonce) answer.octets
    → Concludes blocks ike keys asked own_nonce answer (conclusion.Made pair) → Mirrors pair made.pair
ends_mirrored laws asked own_nonce keys setup blocks ike other_ike table deleting request answer made pair small asks decided answers concluded =
    let sent : List Payload = further_payloads (child_request asked) own_nonce in
    let reply : List Payload = further_payloads made.payloads setup.fresh.nonce in
    let responders = made_is_further laws.made setup other_ike keys table deleting sent made
    (decided_as_sent laws.chain setup other_ike keys table deleting request sent made asks decided) in
    let initiators = accepted_is_further laws.accepted blocks ike keys asked own_nonce reply pair small
    (accepted_as_sent laws.chain blocks ike keys asked own_nonce answer reply pair answers concluded) in
    further_mirrored laws.mirror keys sent reply (asked_proposal asked) pair made.pair refl initiators responders
