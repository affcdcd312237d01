-- An initiator takes the response to IKE_AUTH of a peer that proves its identity: the IKE SA is established,
-- with the Child SA of the answer, where that has one.
use Rattle.std.proofs.Common.{◌≡◌, ◌∷◌, ℕ, true, List, [], Option, Some, None, ap, refl, subst, sym, ◌∙◌}
use Rattle.std.proofs.lemmas.Bool.{true≢false}
use Rattle.std.specs.FinMap as map
use Rattle.wire.specs.Payloads.{SpellsChain}
use Rattle.wire.specs.declared.payload.Payload.{Payload}
use Rattle.wire.specs.declared.proposal.Proposal.{Proposal}
use Rattle.exchange.specs.Counting.{only_sa}
use Rattle.exchange.specs.declared.headers.Role.TheVariants.{Initiator}
use Rattle.exchange.specs.declared.sealed.Plain.{Plain}
use Rattle.requests.specs.Outgoing.{OwnRequests}
use Rattle.sadb.specs.Database.{Database}
use Rattle.sadb.specs.declared.pair.Pair.{Pair}
use Rattle.association.specs.AskedChildren.{asked_of}
use Rattle.association.specs.Issuing.{with_outgoing}
use Rattle.association.specs.declared.outcome.Ended.{Ended}
use Rattle.association.specs.declared.phase.Association.{Association}
use Rattle.association.specs.declared.phase.AuthSent.{AuthSent}
use Rattle.association.specs.declared.phase.Phase.TheVariants as phase
use Rattle.association.specs.declared.phase.Request.{Request}
use Rattle.auth.specs.Answers.{is_accepted}
use Rattle.auth.specs.Proofs.{Accepts}
use Rattle.auth.specs.Windows.{peer_window}
use Rattle.children.specs.Accepting.{AreAcceptedTerms, IsAcceptedChild}
use Rattle.children.specs.Pairs.{new_pair}
use Rattle.children.specs.Terms.{Terms}
use Rattle.children.specs.declared.asking.Asked.{Asked}
use Rattle.children.specs.declared.setting.Setting.{Setting}
use Rattle.setup.specs.Configs.{first_setting, Setup}
use Rattle.initial.specs.Concluding.{ConcludesBy, EstablishesBy}
use Rattle.initial.specs.Ending.{responder_proving, EndsAuth, IsFirstChild, IsVerdict, Judges}
use Rattle.initial.specs.declared.concluding.Outcome.{Outcome}
use Rattle.initial.specs.declared.concluding.Outcome.TheVariants as outcome
use Rattle.laws_coming_up.proofs.SealedLemmas.{read_is, OneChain}

-- ---- the verdict

-- the IKE SA stands, with this pair or without one
record StandsWith (setup : Setup) (ike : ℕ) (sent : AuthSent) (payloads : List Payload) (verdict : Outcome) : Type 0 where
  pair : Option Pair
  is : verdict ≡ outcome.Establishes pair (peer_window payloads)
  child : IsFirstChild setup ike sent payloads pair

module _ (accepts : Accepts) (setup : Setup) (ike : ℕ) (sent : AuthSent) (payloads : List Payload)
    (accepted : is_accepted accepts setup.config.peer.identity (responder_proving sent) payloads ≡ true) where
  stands_with : (verdict : Outcome) → IsVerdict accepts setup ike sent (Some payloads) verdict → StandsWith setup ike sent payloads verdict
  stands_with outcome.Closes due = absurd (true≢false (sym accepted ∙ due))
  stands_with (outcome.Establishes pair window) due = record { pair = pair; is = ap (λ (w : ℕ). outcome.Establishes pair w) due.told; child = due.child }

  judged_as : OneChain → (plain : Plain) (verdict : Outcome) → SpellsChain plain.first payloads plain.octets → Judges accepts setup ike sent plain verdict
      → StandsWith setup ike sent payloads verdict
  judged_as one_chain plain verdict chain d =
      stands_with verdict (subst (λ (o : Option (List Payload)). IsVerdict accepts setup ike sent o verdict) (read_is one_chain plain payloads d.payloads chain d.read) d.due)

-- ---- the end

-- the IKE SA is established, with this pair or without one
pub record EndsAs (setup : Setup) (old : Association) (sent : AuthSent) (table : Database) (number : ℕ) (payloads : List Payload) (ended : Ended) (new : Association) (new_table : Database) : Type 0 where
  pub pair : Option Pair
  pub child : IsFirstChild setup old.serial sent payloads pair
  pub outgoing : OwnRequests Request
  pub window : outgoing.window ≡ old.outgoing.window
  pub outstanding : outgoing.outstanding ≡ map.remove old.outgoing.outstanding number
  pub concluded : EstablishesBy setup (with_outgoing old outgoing) table pair (peer_window payloads) ended.fate new new_table

same_sent : (one other : AuthSent) → phase.AuthSent one ≡ phase.AuthSent other → one ≡ other
same_sent one other is = cc

module _ (one_chain : OneChain) (accepts : Accepts) (setup : Setup) (old : Association) (sent : AuthSent) (was : old.phase ≡ phase.AuthSent sent) (table : Database)
    (number : ℕ) (plain : Plain) (payloads : List Payload) (chain : SpellsChain plain.first payloads plain.octets)
    (accepted : is_accepted accepts setup.config.peer.identity (responder_proving sent) payloads ≡ true) where
  pub ends_as : (ended : Ended) (new : Association) (new_table : Database) → EndsAuth accepts setup old table number plain ended new new_table
      → EndsAs setup old sent table number payloads ended new new_table
  ends_as ended new new_table e =
      let same : e.sent ≡ sent = same_sent e.sent sent (sym e.was ∙ was) in
      let judges : Judges accepts setup old.serial sent plain e.verdict =
      subst (λ (x : AuthSent). Judges accepts setup old.serial x plain e.verdict) same e.judged in
      let so = judged_as accepts setup old.serial sent payloads accepted one_chain plain e.verdict chain judges in
      record {
        pair = so.pair;
        child = so.child;
        outgoing = e.outgoing;
        window = ap (λ (r : OwnRequests Request). r.window) e.counted.content;
        outstanding = ap (λ (r : OwnRequests Request). r.outstanding) e.counted.content;
        concluded = subst (λ (x : Outcome). ConcludesBy setup (with_outgoing old e.outgoing) table x ended.fate new new_table) so.is e.concluded;
      }

-- ---- the pair

-- the law of a lower crate that this goes by
abbrev pub AcceptsOnce : Type 0
AcceptsOnce = (setting : Setting) (asked : Asked) (answer : List Payload) (a b : Pair) → IsAcceptedChild setting asked answer a → IsAcceptedChild setting asked answer b
    → a ≡ b

module _ (setup : Setup) (ike : ℕ) (sent : AuthSent) (payloads : List Payload) where
  pub pair_is : AcceptsOnce → (terms : Terms) → AreAcceptedTerms (asked_of sent.child) payloads terms → (pair : Option Pair) → IsFirstChild setup ike sent payloads pair
      → pair ≡ Some (new_pair Initiator (first_setting setup.config ike sent.keys) terms)
  pair_is once terms acceptable None child = absurd (child terms acceptable)
  pair_is once terms acceptable (Some pair) child =
      let setting : Setting = first_setting setup.config ike sent.keys in
      ap (λ (p : Pair). Some p)
      (once setting (asked_of sent.child) payloads pair (new_pair Initiator setting terms) child (record { terms = terms; due = acceptable; made = refl }))

  no_proposals : (proposals : List Proposal) → only_sa payloads ≡ None → only_sa payloads ≡ Some proposals → ⊥
  no_proposals proposals none some = let is : None ≡ Some proposals = sym none ∙ some in cc

  pub no_pair : only_sa payloads ≡ None → (pair : Option Pair) → IsFirstChild setup ike sent payloads pair → pair ≡ None
  no_pair none None child = refl
  no_pair none (Some pair) child = absurd (no_proposals (child.due.proposal ∷ []) none child.due.sa)
