-- What is decided about a request, and what is made of an answer, is determined.
use Rattle.std.proofs.Common.{◌≡◌, ℕ, Bool, List, Option, Some, None, inl, inr, refl, sym, ap, subst, ◌∙◌}
use Rattle.std.proofs.lemmas.Option.{same_Some}
use Rattle.base.specs.Octets.{Octets}
use Rattle.wire.specs.declared.payload.Payload.{Payload}
use Rattle.suite.specs.declared.key_record.KeyRecord.{KeyRecord}
use Rattle.exchange.specs.declared.child.ChildPayloads.{ChildPayloads}
use Rattle.exchange.specs.declared.notices.Notice.{Notice}
use Rattle.exchange.specs.declared.sealed.Plain.{Plain}
use Rattle.policy.specs.declared.entry.Entry.{Entry}
use Rattle.sadb.specs.Contents.{table_content}
use Rattle.sadb.specs.Database.{Database}
use Rattle.sadb.specs.declared.pair.Pair.{Pair}
use Rattle.children.specs.Accepting.{IsAcceptedChild, IsUnacceptable}
use Rattle.children.specs.Responding.{IsChildResponse}
use Rattle.children.specs.declared.asking.Asked.{Asked}
use Rattle.children.specs.declared.responding.Response.{Response}
use Rattle.children.specs.declared.responding.Response.TheVariants as response
use Rattle.children.specs.declared.setting.Setting.{Setting}
use Rattle.setup.specs.Configs.{Setup}
use Rattle.further.specs.Concluding.{AcceptsFurtherChild, Concludes, HasNoChild, IsConclusion}
use Rattle.further.specs.Deciding.{further_setting, responder_setting, DecidesFurther, DecidesFurtherBy, DecidesFurtherOn, IsFurtherDecision}
use Rattle.further.specs.Judging.{Admitted, FurtherJudgement, FurtherRequestView, Refused}
use Rattle.further.specs.declared.concluding.Conclusion.{Conclusion}
use Rattle.further.specs.declared.concluding.Conclusion.TheVariants as conclusion
use Rattle.further.specs.declared.deciding.Decision.{Decision}
use Rattle.further.specs.declared.deciding.Decision.TheVariants as decision
use Rattle.further.proofs.JudgementLemmas.{judged_once}
use Rattle.further.proofs.ReadingLemmas.{one_read, OneChain}

-- what the laws of the crates below say
pub record AnswerLaws : Type 0 where
  pub chain : OneChain
  pub response : (setting : Setting) (extended : Bool) (entries : List Entry) (table : Database) (offer : ChildPayloads) (a b : Response)
      → IsChildResponse setting extended entries table offer a → IsChildResponse setting extended entries table offer b → a ≡ b
  pub moved : (setting : Setting) (extended : Bool) (entries : List Entry) (table other : Database) (offer : ChildPayloads) (answer : Response) → table_content table ≡ table_content other
      → IsChildResponse setting extended entries table offer answer → IsChildResponse setting extended entries other offer answer
  pub accepted : (setting : Setting) (asked : Asked) (answer : List Payload) (a b : Pair) → IsAcceptedChild setting asked answer a → IsAcceptedChild setting asked answer b → a ≡ b
  pub acceptable : (setting : Setting) (asked : Asked) (answer : List Payload) (pair : Pair) → IsAcceptedChild setting asked answer pair → ¬ IsUnacceptable asked answer

abbrev decision_by : Response → Decision
decision_by (response.Made made) = decision.Made made
decision_by (response.Refused notice) = decision.Refused notice

-- ---- at the responder

module _ (laws : AnswerLaws) (setup : Setup) (ike : ℕ) (keys : KeyRecord) (table other : Database) (same : table_content table ≡ table_content other) where
  by_response : (request : FurtherRequestView) (a b : Response)
      → IsChildResponse (responder_setting setup ike keys request) setup.config.extended setup.entries table request.child a
      → IsChildResponse (responder_setting setup ike keys request) setup.config.extended setup.entries other request.child b → decision_by a ≡ decision_by b
  by_response request a b is also =
      let setting : Setting = responder_setting setup ike keys request in
      let here = laws.moved setting setup.config.extended setup.entries other table request.child b (sym same) also in
      ap decision_by (laws.response setting setup.config.extended setup.entries table request.child a b is here)

  by_judgement : (j : FurtherJudgement) (a b : Decision) → DecidesFurtherBy setup ike keys table j a → DecidesFurtherBy setup ike keys other j b → a ≡ b
  by_judgement (Refused notice) (decision.Refused n) (decision.Refused k) is also = ap (λ (x : Notice). decision.Refused x) (is ∙ sym also)
  by_judgement (Refused notice) (decision.Refused n) (decision.Made k) is also = absurd also
  by_judgement (Refused notice) (decision.Made n) b is also = absurd is
  by_judgement (Admitted request) (decision.Refused n) (decision.Refused k) is also = by_response request (response.Refused n) (response.Refused k) is also
  by_judgement (Admitted request) (decision.Refused n) (decision.Made k) is also = by_response request (response.Refused n) (response.Made k) is also
  by_judgement (Admitted request) (decision.Made n) (decision.Refused k) is also = by_response request (response.Made n) (response.Refused k) is also
  by_judgement (Admitted request) (decision.Made n) (decision.Made k) is also = by_response request (response.Made n) (response.Made k) is also

  on_payloads : (deleting : Bool) (payloads : List Payload) (a b : Decision) → DecidesFurtherOn setup ike keys table deleting payloads a → DecidesFurtherOn setup ike keys other deleting payloads b → a ≡ b
  on_payloads deleting payloads a b is also =
      let judged : also.judgement ≡ is.judgement = judged_once payloads deleting also.judgement is.judgement also.judged is.judged in
      by_judgement is.judgement a b is.due (subst (λ (j : FurtherJudgement). DecidesFurtherBy setup ike keys other j b) judged also.due)

  by_reading : (deleting : Bool) (payloads : Option (List Payload)) (a b : Decision) → IsFurtherDecision setup ike keys table deleting payloads a → IsFurtherDecision setup ike keys other deleting payloads b → a ≡ b
  by_reading deleting None (decision.Refused n) (decision.Refused k) is also = ap (λ (x : Notice). decision.Refused x) (is ∙ sym also)
  by_reading deleting None (decision.Refused n) (decision.Made k) is also = absurd also
  by_reading deleting None (decision.Made n) b is also = absurd is
  by_reading deleting (Some payloads) a b is also = on_payloads deleting payloads a b is also

  pub one_decision : (deleting : Bool) (plain : Plain) (a b : Decision) → DecidesFurther setup ike keys table deleting plain a → DecidesFurther setup ike keys other deleting plain b → a ≡ b
  one_decision deleting plain a b is also =
      let read : also.payloads ≡ is.payloads = one_read laws.chain plain also.payloads is.payloads also.read is.read in
      by_reading deleting is.payloads a b is.due (subst (λ (p : Option (List Payload)). IsFurtherDecision setup ike keys other deleting p b) read also.due)

-- ---- at the initiator

module _ (laws : AnswerLaws) (blocks ike : ℕ) (keys : KeyRecord) (asked : Asked) (own_nonce : Octets) where
  one_pair : (answer : List Payload) (a b : Pair) → AcceptsFurtherChild blocks ike keys asked own_nonce answer a → AcceptsFurtherChild blocks ike keys asked own_nonce answer b → a ≡ b
  one_pair answer a b is also =
      let nonce : also.nonce ≡ is.nonce = same_Some also.nonce is.nonce (sym also.alone ∙ is.alone) in
      laws.accepted (further_setting blocks ike keys own_nonce is.nonce) asked answer a b is.child
      (subst (λ (n : Octets). IsAcceptedChild (further_setting blocks ike keys own_nonce n) asked answer b) nonce also.child)

  made_or_none : (answer : List Payload) (pair : Pair) → AcceptsFurtherChild blocks ike keys asked own_nonce answer pair → HasNoChild asked answer → ⊥
  made_or_none answer pair is none =
      elim none.none [
        | inl missing ↦ cc (missing, is.alone)
        | inr unacceptable ↦ laws.acceptable (further_setting blocks ike keys own_nonce is.nonce) asked answer pair is.child unacceptable
      ]

  by_answer : (payloads : Option (List Payload)) (a b : Conclusion) → IsConclusion blocks ike keys asked own_nonce payloads a → IsConclusion blocks ike keys asked own_nonce payloads b → a ≡ b
  by_answer None conclusion.Closes b is also = absurd is
  by_answer None (conclusion.Made p) b is also = absurd is
  by_answer None conclusion.NoChild conclusion.Closes is also = absurd also
  by_answer None conclusion.NoChild (conclusion.Made q) is also = absurd also
  by_answer None conclusion.NoChild conclusion.NoChild is also = refl
  by_answer (Some answer) conclusion.Closes conclusion.Closes is also = refl
  by_answer (Some answer) conclusion.Closes (conclusion.Made q) is also = absurd (cc (is, also.stands))
  by_answer (Some answer) conclusion.Closes conclusion.NoChild is also = absurd (cc (is, also.stands))
  by_answer (Some answer) (conclusion.Made p) conclusion.Closes is also = absurd (cc (also, is.stands))
  by_answer (Some answer) (conclusion.Made p) (conclusion.Made q) is also = ap (λ (x : Pair). conclusion.Made x) (one_pair answer p q is also)
  by_answer (Some answer) (conclusion.Made p) conclusion.NoChild is also = absurd (made_or_none answer p is also)
  by_answer (Some answer) conclusion.NoChild conclusion.Closes is also = absurd (cc (also, is.stands))
  by_answer (Some answer) conclusion.NoChild (conclusion.Made q) is also = absurd (made_or_none answer q also is)
  by_answer (Some answer) conclusion.NoChild conclusion.NoChild is also = refl

  pub one_conclusion : (plain : Plain) (a b : Conclusion) → Concludes blocks ike keys asked own_nonce plain a → Concludes blocks ike keys asked own_nonce plain b → a ≡ b
  one_conclusion plain a b is also =
      let read : also.payloads ≡ is.payloads = one_read laws.chain plain also.payloads is.payloads also.read is.read in
      by_answer is.payloads a b is.due (subst (λ (p : Option (List Payload)). IsConclusion blocks ike keys asked own_nonce p b) read also.due)
