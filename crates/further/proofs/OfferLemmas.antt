-- What is made keeps to its offer, and is accepted by who asked for it.
use Rattle.std.proofs.Common.{◌≡◌, ◌<◌, ◌^◌, ℕ, Bool, true, List, Option, None, Some, inl, inr, refl, sym, subst, ◌∙◌}
use Rattle.std.proofs.lemmas.Option.{same_Some}
use Rattle.base.specs.Octets.{Octets}
use Rattle.base.specs.declared.selector.Selector.{Selector}
use Rattle.wire.specs.Payloads.{SpellsChain}
use Rattle.wire.specs.declared.payload.Payload.{Payload}
use Rattle.wire.specs.declared.proposal.Proposal.{Proposal}
use Rattle.suite.specs.declared.key_record.KeyRecord.{KeyRecord}
use Rattle.exchange.specs.Counting.{only_sa, only_ts_i, only_ts_r}
use Rattle.exchange.specs.declared.child.ChildPayloads.{ChildPayloads}
use Rattle.exchange.specs.declared.sealed.Plain.{Plain}
use Rattle.policy.specs.Narrowing.{AnswersOffer, IsNarrowing, LieInsidePolicy}
use Rattle.policy.specs.declared.entry.Entry.{Entry}
use Rattle.sadb.specs.Database.{Database}
use Rattle.sadb.specs.declared.pair.Pair.{Pair}
use Rattle.children.specs.Accepting.{AreAcceptedTerms, IsAcceptedChild, KeepsToRequest}
use Rattle.children.specs.Asking.{child_request, HasChildPayloads}
use Rattle.children.specs.Responding.{IsMadeChild, TakesProposal}
use Rattle.children.specs.declared.asking.Asked.{Asked}
use Rattle.children.specs.declared.responding.Made.{Made}
use Rattle.children.specs.declared.setting.Setting.{Setting}
use Rattle.setup.specs.Configs.{Setup}
use Rattle.further.specs.Concluding.{Concludes, IsConclusion}
use Rattle.further.specs.Deciding.{further_setting, responder_setting, DecidesFurther, DecidesFurtherOn, IsFurtherDecision}
use Rattle.further.specs.Judging.{FurtherRequestView}
use Rattle.further.specs.Payloads.{further_payloads}
use Rattle.further.specs.declared.concluding.Conclusion.{Conclusion}
use Rattle.further.specs.declared.concluding.Conclusion.TheVariants as conclusion
use Rattle.further.specs.declared.deciding.Decision.TheVariants as decision
use Rattle.further.proofs.PairLemmas.{decided_as_sent, made_on, sent_child, MakesFurther}
use Rattle.further.proofs.ReadingLemmas.{one_read, OneChain}

-- what is said of each Child SA that is made
abbrev pub AnswersIts : Type 0
AnswersIts = (setting : Setting) (extended : Bool) (entries : List Entry) (table : Database) (offer : ChildPayloads) (made : Made)
    → IsMadeChild setting extended entries table offer made → AnswersOffer made.pair.remote offer.ts_i × AnswersOffer made.pair.local offer.ts_r

abbrev pub NarrowsIts : Type 0
NarrowsIts = (setting : Setting) (extended : Bool) (entries : List Entry) (table : Database) (offer : ChildPayloads) (made : Made)
    → IsMadeChild setting extended entries table offer made → IsNarrowing entries offer.ts_i offer.ts_r made.pair.remote made.pair.local

abbrev pub ObeysPolicy : Type 0
ObeysPolicy = (setting : Setting) (extended : Bool) (entries : List Entry) (table : Database) (offer : ChildPayloads) (made : Made)
    → IsMadeChild setting extended entries table offer made → LieInsidePolicy entries made.pair.remote made.pair.local

abbrev pub ExtendsAllowed : Type 0
ExtendsAllowed = (setting : Setting) (extended : Bool) (entries : List Entry) (table : Database) (offer : ChildPayloads) (made : Made)
    → IsMadeChild setting extended entries table offer made → made.pair.inbound.association.extended ≡ true → extended ≡ true

abbrev pub TakesIts : Type 0
TakesIts = (setting : Setting) (extended : Bool) (entries : List Entry) (table : Database) (offer : ChildPayloads) (made : Made)
    → IsMadeChild setting extended entries table offer made → TakesProposal offer.proposals made.payloads.proposals

module _ (setup : Setup) (ike : ℕ) (keys : KeyRecord) (table : Database) (deleting : Bool) (payloads : List Payload) (made : Made) where
  pub offer_kept : AnswersIts → (ts_i ts_r : List Selector) → DecidesFurtherOn setup ike keys table deleting payloads (decision.Made made)
      → only_ts_i payloads ≡ Some ts_i → only_ts_r payloads ≡ Some ts_r → AnswersOffer made.pair.remote ts_i × AnswersOffer made.pair.local ts_r
  offer_kept law ts_i ts_r is there_i there_r =
      let m : MakesFurther setup ike keys table deleting payloads made = made_on setup ike keys table deleting payloads made is in
      let kept = law (responder_setting setup ike keys m.request) setup.config.extended setup.entries table m.request.child made m.child in
      let same_i : m.request.child.ts_i ≡ ts_i = same_Some m.request.child.ts_i ts_i (sym m.asks.ts_i ∙ there_i) in
      let same_r : m.request.child.ts_r ≡ ts_r = same_Some m.request.child.ts_r ts_r (sym m.asks.ts_r ∙ there_r) in
      (subst (λ (s : List Selector). AnswersOffer made.pair.remote s) same_i kept.0, subst (λ (s : List Selector). AnswersOffer made.pair.local s) same_r kept.1)

  pub offer_narrowed : NarrowsIts → (ts_i ts_r : List Selector) → DecidesFurtherOn setup ike keys table deleting payloads (decision.Made made)
      → only_ts_i payloads ≡ Some ts_i → only_ts_r payloads ≡ Some ts_r → IsNarrowing setup.entries ts_i ts_r made.pair.remote made.pair.local
  offer_narrowed law ts_i ts_r is there_i there_r =
      let m : MakesFurther setup ike keys table deleting payloads made = made_on setup ike keys table deleting payloads made is in
      let narrowed = law (responder_setting setup ike keys m.request) setup.config.extended setup.entries table m.request.child made m.child in
      let same_i : m.request.child.ts_i ≡ ts_i = same_Some m.request.child.ts_i ts_i (sym m.asks.ts_i ∙ there_i) in
      let same_r : m.request.child.ts_r ≡ ts_r = same_Some m.request.child.ts_r ts_r (sym m.asks.ts_r ∙ there_r) in
      subst (λ (s : List Selector). IsNarrowing setup.entries s ts_r made.pair.remote made.pair.local) same_i
      (subst (λ (s : List Selector). IsNarrowing setup.entries m.request.child.ts_i s made.pair.remote made.pair.local) same_r narrowed)

  pub policy_obeyed : ObeysPolicy → DecidesFurtherOn setup ike keys table deleting payloads (decision.Made made) → LieInsidePolicy setup.entries made.pair.remote made.pair.local
  policy_obeyed law is =
      let m : MakesFurther setup ike keys table deleting payloads made = made_on setup ike keys table deleting payloads made is in
      law (responder_setting setup ike keys m.request) setup.config.extended setup.entries table m.request.child made m.child

  pub extension_allowed : ExtendsAllowed → DecidesFurtherOn setup ike keys table deleting payloads (decision.Made made)
      → made.pair.inbound.association.extended ≡ true → setup.config.extended ≡ true
  extension_allowed law is =
      let m : MakesFurther setup ike keys table deleting payloads made = made_on setup ike keys table deleting payloads made is in
      law (responder_setting setup ike keys m.request) setup.config.extended setup.entries table m.request.child made m.child

  pub proposal_taken : TakesIts → (proposals : List Proposal) → DecidesFurtherOn setup ike keys table deleting payloads (decision.Made made)
      → only_sa payloads ≡ Some proposals → TakesProposal proposals made.payloads.proposals
  proposal_taken law proposals is there =
      let m : MakesFurther setup ike keys table deleting payloads made = made_on setup ike keys table deleting payloads made is in
      let same : m.request.child.proposals ≡ proposals = same_Some m.request.child.proposals proposals (sym m.asks.sa ∙ there) in
      subst (λ (ps : List Proposal). TakesProposal ps made.payloads.proposals) same
      (law (responder_setting setup ike keys m.request) setup.config.extended setup.entries table m.request.child made m.child)

-- The same of what was decided about octets.

module _ (setup : Setup) (ike : ℕ) (keys : KeyRecord) (table : Database) (deleting : Bool) (plain : Plain) (made : Made) where
  pub plain_offer_kept : OneChain → AnswersIts → (request : List Payload) (ts_i ts_r : List Selector) → DecidesFurther setup ike keys table deleting plain (decision.Made made)
      → SpellsChain plain.first request plain.octets → only_ts_i request ≡ Some ts_i → only_ts_r request ≡ Some ts_r
      → AnswersOffer made.pair.remote ts_i × AnswersOffer made.pair.local ts_r
  plain_offer_kept chain law request ts_i ts_r is spelled there_i there_r =
      offer_kept setup ike keys table deleting request made law ts_i ts_r (decided_as_sent chain setup ike keys table deleting plain request made spelled is) there_i there_r

  pub plain_offer_narrowed : OneChain → NarrowsIts → (request : List Payload) (ts_i ts_r : List Selector) → DecidesFurther setup ike keys table deleting plain (decision.Made made)
      → SpellsChain plain.first request plain.octets → only_ts_i request ≡ Some ts_i → only_ts_r request ≡ Some ts_r
      → IsNarrowing setup.entries ts_i ts_r made.pair.remote made.pair.local
  plain_offer_narrowed chain law request ts_i ts_r is spelled there_i there_r =
      offer_narrowed setup ike keys table deleting request made law ts_i ts_r (decided_as_sent chain setup ike keys table deleting plain request made spelled is) there_i there_r

  pub plain_proposal_taken : OneChain → TakesIts → (request : List Payload) (proposals : List Proposal) → DecidesFurther setup ike keys table deleting plain (decision.Made made)
      → SpellsChain plain.first request plain.octets → only_sa request ≡ Some proposals → TakesProposal proposals made.payloads.proposals
  plain_proposal_taken chain law request proposals is spelled there =
      proposal_taken setup ike keys table deleting request made law proposals (decided_as_sent chain setup ike keys table deleting plain request made spelled is) there

  policy_by : ObeysPolicy → (payloads : Option (List Payload)) → IsFurtherDecision setup ike keys table deleting payloads (decision.Made made) → LieInsidePolicy setup.entries made.pair.remote made.pair.local
  policy_by law None due = absurd due
  policy_by law (Some payloads) due = policy_obeyed setup ike keys table deleting payloads made law due

  pub plain_policy_obeyed : ObeysPolicy → DecidesFurther setup ike keys table deleting plain (decision.Made made) → LieInsidePolicy setup.entries made.pair.remote made.pair.local
  plain_policy_obeyed law is = policy_by law is.payloads is.due

  extension_by : ExtendsAllowed → (payloads : Option (List Payload)) → IsFurtherDecision setup ike keys table deleting payloads (decision.Made made)
      → made.pair.inbound.association.extended ≡ true → setup.config.extended ≡ true
  extension_by law None due = absurd due
  extension_by law (Some payloads) due = extension_allowed setup ike keys table deleting payloads made law due

  pub plain_extension_allowed : ExtendsAllowed → DecidesFurther setup ike keys table deleting plain (decision.Made made)
      → made.pair.inbound.association.extended ≡ true → setup.config.extended ≡ true
  plain_extension_allowed law is = extension_by law is.payloads is.due

-- what is said of each SA pair that is accepted
abbrev pub KeepsRequests : Type 0
KeepsRequests = (setting : Setting) (asked : Asked) (answer : List Payload) (pair : Pair) → IsAcceptedChild setting asked answer pair → KeepsToRequest asked pair

kept_by : KeepsRequests → (blocks ike : ℕ) (keys : KeyRecord) (asked : Asked) (own_nonce : Octets) (pair : Pair) (payloads : Option (List Payload))
    → IsConclusion blocks ike keys asked own_nonce payloads (conclusion.Made pair) → KeepsToRequest asked pair
kept_by law blocks ike keys asked own_nonce pair None due = absurd due
kept_by law blocks ike keys asked own_nonce pair (Some answer) due = law (further_setting blocks ike keys own_nonce due.nonce) asked answer pair due.child

pub plain_request_kept : KeepsRequests → (blocks ike : ℕ) (keys : KeyRecord) (asked : Asked) (own_nonce : Octets) (plain : Plain) (pair : Pair)
    → Concludes blocks ike keys asked own_nonce plain (conclusion.Made pair) → KeepsToRequest asked pair
plain_request_kept law blocks ike keys asked own_nonce plain pair is = kept_by law blocks ike keys asked own_nonce pair is.payloads is.due

-- An answer is accepted.

abbrev pub AnswersAreAcceptable : Type 0
AnswersAreAcceptable = (asked : Asked) (setting : Setting) (extended : Bool) (entries : List Entry) (table : Database) (made : Made) (reply : List Payload) → asked.spi < 2 ^ 32
    → (m : IsMadeChild setting extended entries table (child_request asked) made) → HasChildPayloads reply made.payloads → AreAcceptedTerms asked reply m.terms

-- what is asked for is what was asked
asked_back : (asked : Asked) (nonce : Octets) (request : FurtherRequestView) → only_sa (further_payloads (child_request asked) nonce) ≡ Some request.child.proposals
    → only_ts_i (further_payloads (child_request asked) nonce) ≡ Some request.child.ts_i → only_ts_r (further_payloads (child_request asked) nonce) ≡ Some request.child.ts_r
    → request.child ≡ child_request asked
asked_back asked nonce request sa ts_i ts_r =
    let whole : ChildPayloads = child_request asked in
    let p : whole.proposals ≡ request.child.proposals = same_Some whole.proposals request.child.proposals sa in
    let q : whole.ts_i ≡ request.child.ts_i = same_Some whole.ts_i request.child.ts_i ts_i in
    let r : whole.ts_r ≡ request.child.ts_r = same_Some whole.ts_r request.child.ts_r ts_r in
    λ i. record { proposals = sym p i; ts_i = sym q i; ts_r = sym r i }

concluded_well : AnswersAreAcceptable → (blocks ike : ℕ) (keys : KeyRecord) (asked : Asked) (own_nonce nonce : Octets) (setting : Setting) (extended : Bool) (entries : List Entry) (table : Database) (made : Made) (concluded : Conclusion)
    → asked.spi < 2 ^ 32 → IsMadeChild setting extended entries table (child_request asked) made
    → IsConclusion blocks ike keys asked own_nonce (Some (further_payloads made.payloads nonce)) concluded → (pair : Pair) × (concluded ≡ conclusion.Made pair)
concluded_well law blocks ike keys asked own_nonce nonce setting extended entries table made conclusion.Closes small m is = absurd (cc is)
concluded_well law blocks ike keys asked own_nonce nonce setting extended entries table made (conclusion.Made pair) small m is = (pair, refl)
concluded_well law blocks ike keys asked own_nonce nonce setting extended entries table made conclusion.NoChild small m is =
    elim is.none [
      | inl missing ↦ absurd (cc missing)
      | inr unacceptable ↦ absurd (unacceptable m.terms (law asked setting extended entries table made (further_payloads made.payloads nonce) small m (sent_child made.payloads nonce)))
    ]

pub accepted_by_who_asked : OneChain → AnswersAreAcceptable → (asked : Asked) (own_nonce : Octets) (keys : KeyRecord) (setup : Setup) (blocks ike other_ike : ℕ) (table : Database) (deleting : Bool) (request answer : Plain) (made : Made) (concluded : Conclusion)
    → asked.spi < 2 ^ 32 → SpellsChain request.first (further_payloads (child_request asked) own_nonce) request.octets
    → DecidesFurther setup other_ike keys table deleting request (decision.Made made)
    → SpellsChain answer.first (further_payloads made.payloads setup.fresh.nonce) answer.octets
    → Concludes blocks ike keys asked own_nonce answer concluded → (pair : Pair) × (concluded ≡ conclusion.Made pair)
accepted_by_who_asked chain law asked own_nonce keys setup blocks ike other_ike table deleting request answer made concluded small asks decided answers is =
    let sent : List Payload = further_payloads (child_request asked) own_nonce in
    let reply : List Payload = further_payloads made.payloads setup.fresh.nonce in
    let m : MakesFurther setup other_ike keys table deleting sent made =
    made_on setup other_ike keys table deleting sent made (decided_as_sent chain setup other_ike keys table deleting request sent made asks decided) in
    let setting : Setting = responder_setting setup other_ike keys m.request in
    let back : m.request.child ≡ child_request asked = asked_back asked own_nonce m.request m.asks.sa m.asks.ts_i m.asks.ts_r in
    let child : IsMadeChild setting setup.config.extended setup.entries table (child_request asked) made =
    subst (λ (c : ChildPayloads). IsMadeChild setting setup.config.extended setup.entries table c made) back m.child in
    let read : is.payloads ≡ Some reply = one_read chain answer is.payloads (Some reply) is.read answers in
    concluded_well law blocks ike keys asked own_nonce setup.fresh.nonce setting setup.config.extended setup.entries table made concluded small child
    (subst (λ (p : Option (List Payload)). IsConclusion blocks ike keys asked own_nonce p concluded) read is.due)
