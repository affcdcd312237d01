-- What is decided about IKE_AUTH, and what is made of its response, is determined.
use Rattle.std.proofs.Common.{◌≡◌, ℕ, List, Option, Some, None, refl, sym, ap, subst, ◌∙◌}
use Rattle.wire.specs.declared.payload.Payload.{Payload}
use Rattle.exchange.specs.declared.notices.Notice.{Notice}
use Rattle.exchange.specs.declared.sealed.Plain.{Plain}
use Rattle.sadb.specs.Contents.{table_content}
use Rattle.sadb.specs.Database.{Database}
use Rattle.sadb.specs.declared.pair.Pair.{Pair}
use Rattle.association.specs.AskedChildren.{asked_of}
use Rattle.association.specs.declared.phase.AuthSent.{AuthSent}
use Rattle.association.specs.declared.phase.HalfOpen.{HalfOpen}
use Rattle.auth.specs.Proofs.{Accepts}
use Rattle.auth.specs.Requests.{Accepted, AskedView, Refused}
use Rattle.children.specs.Responding.{IsChildResponse}
use Rattle.children.specs.declared.responding.Response.{Response}
use Rattle.setup.specs.Configs.{first_setting, Setup}
use Rattle.initial.specs.Deciding.{peer_proving, AcceptsAuth, Decides, IsDecision}
use Rattle.exchange.specs.Chains.{IsRead}
use Rattle.initial.specs.Ending.{IsFirstChild, IsVerdict, Judges}
use Rattle.initial.specs.declared.concluding.Outcome.{Outcome}
use Rattle.initial.specs.declared.concluding.Outcome.TheVariants as outcome
use Rattle.initial.specs.declared.deciding.Decision.{Decision}
use Rattle.initial.specs.declared.deciding.Decision.TheVariants as decision
use Rattle.effects.proofs.DeterminedLaws.{AuthLaws, MessageLaws}

pub one_read : MessageLaws → (plain : Plain) (p q : Option (List Payload)) → IsRead plain p → IsRead plain q → p ≡ q
one_read laws plain None None is also = refl
one_read laws plain None (Some qs) is also = absurd (is qs also)
one_read laws plain (Some ps) None is also = absurd (also ps is)
one_read laws plain (Some ps) (Some qs) is also = ap Some (laws.chain plain.first ps qs plain.octets is also)

-- ---- at the responder

same_notice : (a b : Notice) → Refused a ≡ Refused b → a ≡ b
same_notice a b same = cc

refused_or_accepted : (notice : Notice) (asked : AskedView) → Refused notice ≡ Accepted asked → ⊥
refused_or_accepted notice asked same = cc

same_asked : (a b : AskedView) → Accepted a ≡ Accepted b → a ≡ b
same_asked a b same = cc

same_acceptance : (a b : Response) (v w : ℕ) → a ≡ b → v ≡ w → decision.Accepted a v ≡ decision.Accepted b w
same_acceptance a b v w same told = ap (λ (x : Response). decision.Accepted x v) same ∙ ap (λ (n : ℕ). decision.Accepted b n) told

module _ (laws : AuthLaws) (accepts : Accepts) (setup : Setup) (ike : ℕ) (opened : HalfOpen) (table other : Database) (same : table_content table ≡ table_content other) where
  one_acceptance : (payloads : List Payload) (a b : Response) (v w : ℕ) → AcceptsAuth accepts setup ike opened table payloads a v → AcceptsAuth accepts setup ike opened other payloads b w
      → decision.Accepted a v ≡ decision.Accepted b w
  one_acceptance payloads a b v w is also =
      let asked : is.asked ≡ also.asked = same_asked is.asked also.asked (laws.judgement accepts setup.config.peer.identity (peer_proving opened) payloads (Accepted is.asked) (Accepted also.asked) is.judged also.judged) in
      let setting = first_setting setup.config ike opened.keys in
      let here : IsChildResponse setting setup.config.extended setup.entries table also.asked.child b = laws.answered setting setup.config.extended setup.entries other table also.asked.child b (sym same) also.child in
      let moved : IsChildResponse setting setup.config.extended setup.entries table is.asked.child b =
      subst (λ (x : AskedView). IsChildResponse setting setup.config.extended setup.entries table x.child b) (sym asked) here in
      same_acceptance a b v w (laws.response setting setup.config.extended setup.entries table is.asked.child a b is.child moved) (is.told ∙ ap (λ (x : AskedView). x.window) asked ∙ sym also.told)

  one_decision_by : (payloads : Option (List Payload)) (a b : Decision) → IsDecision accepts setup ike opened table payloads a → IsDecision accepts setup ike opened other payloads b → a ≡ b
  one_decision_by None (decision.Refused n) (decision.Refused k) is also = ap (λ (x : Notice). decision.Refused x) (is ∙ sym also)
  one_decision_by None (decision.Refused n) (decision.Accepted b w) is also = absurd also
  one_decision_by None (decision.Accepted a v) d is also = absurd is
  one_decision_by (Some payloads) (decision.Refused n) (decision.Refused k) is also =
      ap (λ (x : Notice). decision.Refused x) (same_notice n k (laws.judgement accepts setup.config.peer.identity (peer_proving opened) payloads (Refused n) (Refused k) is also))
  one_decision_by (Some payloads) (decision.Refused n) (decision.Accepted b w) is also =
      absurd (refused_or_accepted n also.asked (laws.judgement accepts setup.config.peer.identity (peer_proving opened) payloads (Refused n) (Accepted also.asked) is also.judged))
  one_decision_by (Some payloads) (decision.Accepted a v) (decision.Refused k) is also =
      absurd (refused_or_accepted k is.asked (laws.judgement accepts setup.config.peer.identity (peer_proving opened) payloads (Refused k) (Accepted is.asked) also is.judged))
  one_decision_by (Some payloads) (decision.Accepted a v) (decision.Accepted b w) is also = one_acceptance payloads a b v w is also

  pub one_decision : MessageLaws → (plain : Plain) (a b : Decision) → Decides accepts setup ike opened table plain a → Decides accepts setup ike opened other plain b → a ≡ b
  one_decision reads plain a b is also =
      let payloads = one_read reads plain is.payloads also.payloads is.read also.read in
      one_decision_by is.payloads a b is.due (subst (λ (p : Option (List Payload)). IsDecision accepts setup ike opened other p b) (sym payloads) also.due)

-- ---- at the initiator

same_outcome : (a b : Option Pair) (v w : ℕ) → a ≡ b → v ≡ w → outcome.Establishes a v ≡ outcome.Establishes b w
same_outcome a b v w same told = ap (λ (x : Option Pair). outcome.Establishes x v) same ∙ ap (λ (n : ℕ). outcome.Establishes b n) told

module _ (laws : AuthLaws) (accepts : Accepts) (setup : Setup) (ike : ℕ) (sent : AuthSent) where
  one_child : (payloads : List Payload) (a b : Option Pair) → IsFirstChild setup ike sent payloads a → IsFirstChild setup ike sent payloads b → a ≡ b
  one_child payloads None None is also = refl
  one_child payloads None (Some q) is also = absurd (laws.acceptable (first_setting setup.config ike sent.keys) (asked_of sent.child) payloads q also is)
  one_child payloads (Some p) None is also = absurd (laws.acceptable (first_setting setup.config ike sent.keys) (asked_of sent.child) payloads p is also)
  one_child payloads (Some p) (Some q) is also = ap Some (laws.accepted (first_setting setup.config ike sent.keys) (asked_of sent.child) payloads p q is also)

  one_verdict_by : (payloads : Option (List Payload)) (a b : Outcome) → IsVerdict accepts setup ike sent payloads a → IsVerdict accepts setup ike sent payloads b → a ≡ b
  one_verdict_by None outcome.Closes outcome.Closes is also = refl
  one_verdict_by None outcome.Closes (outcome.Establishes q w) is also = absurd also
  one_verdict_by None (outcome.Establishes p v) b is also = absurd is
  one_verdict_by (Some payloads) outcome.Closes outcome.Closes is also = refl
  one_verdict_by (Some payloads) outcome.Closes (outcome.Establishes q w) is also = absurd (cc (is, also.proved))
  one_verdict_by (Some payloads) (outcome.Establishes p v) outcome.Closes is also = absurd (cc (is.proved, also))
  one_verdict_by (Some payloads) (outcome.Establishes p v) (outcome.Establishes q w) is also =
      same_outcome p q v w (one_child payloads p q is.child also.child) (is.told ∙ sym also.told)

  pub one_verdict : MessageLaws → (plain : Plain) (a b : Outcome) → Judges accepts setup ike sent plain a → Judges accepts setup ike sent plain b → a ≡ b
  one_verdict reads plain a b is also =
      let payloads = one_read reads plain is.payloads also.payloads is.read also.read in
      one_verdict_by is.payloads a b is.due (subst (λ (p : Option (List Payload)). IsVerdict accepts setup ike sent p b) (sym payloads) also.due)
