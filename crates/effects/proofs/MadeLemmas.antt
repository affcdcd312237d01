-- Which Child SA comes of IKE_AUTH or CREATE_CHILD_SA, and of which payloads.
use Rattle.std.proofs.Common.{◌≡◌, ◌≤◌, length, inl, inr, ◌<◌, ◌^◌, ◌∷◌, [], ℕ, cond, Bool, true, false, List, Option, Some, None, ap, refl, subst, sym, ◌∙◌, arith, ◌⊎◌, ◌+◌}
use Rattle.std.specs.Cmp.{nat_cmp_total, unsigned_tied}
use Rattle.std.specs.FinMap as map
use Rattle.std.specs.List.{AllByRecursion}
use Rattle.std.specs.Ordering.{nat_cmp}
use Rattle.std.proofs.lemmas.Bool.{eq-eqb}
use Rattle.base.specs.Octets.{Octets}
use Rattle.base.specs.declared.selector.Selector.{Selector}
use Rattle.wire.specs.Numbers.{CREATE_CHILD_SA, IKE_AUTH, SELECTOR_LIMIT}
use Rattle.wire.specs.Payloads.{SpellsChain}
use Rattle.wire.specs.Sizes.{FitsFields}
use Rattle.wire.specs.declared.message.Message.{Message}
use Rattle.wire.specs.declared.payload.Payload.{Payload}
use Rattle.wire.specs.declared.payload.Payload.TheVariants.{TsI, TsR}
use Rattle.suite.specs.Keys.{child_keys, first_child_keys}
use Rattle.suite.specs.declared.key_record.KeyRecord.{KeyRecord}
use Rattle.suite.specs.declared.keys.Keys.{Keys}
use Rattle.exchange.specs.Counting.{only_sa, only_ts_i, only_ts_r}
use Rattle.exchange.specs.Headers.{keys_of, sent_header}
use Rattle.exchange.specs.Sealed.{IsSealed}
use Rattle.exchange.specs.declared.child.ChildPayloads.{ChildPayloads}
use Rattle.exchange.specs.declared.headers.Role.{Role}
use Rattle.exchange.specs.declared.headers.Role.TheVariants.{Initiator, Responder}
use Rattle.exchange.specs.declared.sealed.Plain.{Plain}
use Rattle.policy.specs.Narrowing.{AnswersOffer, IsNarrowing, LieInsidePolicy}
use Rattle.policy.specs.declared.entry.Entry.{Entry}
use Rattle.requests.specs.Outgoing.{number_0_answered, OwnRequests}
use Rattle.sadb.specs.Database.{pair_at, Database, Installs, IsReserved, IsSoundTable}
use Rattle.sadb.specs.declared.pair.Pair.{Pair}
use Rattle.association.specs.Closing.{HoldsReserved}
use Rattle.association.specs.AskedChildren.{asked_of, AskedChildView}
use Rattle.association.specs.Phases.{established_of, established_spi, keys_in, spi_in}
use Rattle.association.specs.Purposes.{spi_asked}
use Rattle.association.specs.Receiving.{Answers, IsAnswering, IsEffective, IsReceived, Opening, TakesEffect}
use Rattle.association.specs.declared.phase.Association.{Association}
use Rattle.association.specs.declared.phase.AuthSent.{AuthSent}
use Rattle.association.specs.declared.phase.HalfOpen.{HalfOpen}
use Rattle.association.specs.declared.phase.InitSent.{InitSent}
use Rattle.association.specs.declared.phase.Phase.{Phase}
use Rattle.association.specs.declared.phase.Phase.TheVariants as phase
use Rattle.association.specs.declared.phase.Request.{Request}
use Rattle.association.specs.declared.purpose.Purpose.TheVariants.{CreateChild, Identify}
use Rattle.auth.specs.Proofs.{proving_of, Accepts}
use Rattle.auth.specs.Requests.{auth_request}
use Rattle.children.specs.Accepting.{IsAcceptedChild, KeepsToRequest}
use Rattle.children.specs.Asking.{asked_proposal, child_request, HasChildPayloads}
use Rattle.children.specs.Pairs.{HasFewSelectors, IsChild}
use Rattle.children.specs.Responding.{AddsNext, IsMadeChild}
use Rattle.children.specs.declared.asking.Asked.{Asked}
use Rattle.children.specs.declared.responding.Made.{Made}
use Rattle.children.specs.declared.responding.Response.TheVariants as response
use Rattle.children.specs.declared.setting.Setting.{Setting}
use Rattle.initial.specs.Answering.{outcome_of, reply_payloads}
use Rattle.further.specs.Answering.{answer_to_further, further_answer, further_pair}
use Rattle.further.specs.Concluding.{Concludes, IsConclusion}
use Rattle.further.specs.Deciding.{is_closing_decision, DecidesFurther, DecidesFurtherBy, IsFurtherDecision}
use Rattle.further.specs.Judging.{Admitted, AsksFor, FurtherJudgement, FurtherRequestView, IsFurtherJudgement, Refused}
use Rattle.further.specs.Pairs.{IsFurtherChild}
use Rattle.further.specs.Payloads.{further_payloads}
use Rattle.further.specs.declared.concluding.Conclusion.{Conclusion}
use Rattle.further.specs.declared.concluding.Conclusion.TheVariants as conclusion
use Rattle.further.specs.declared.deciding.Decision as further
use Rattle.further.specs.declared.deciding.Decision.TheVariants as decided
use Rattle.create_child.specs.Asking.{wanted, AsksForFurther}
use Rattle.create_child.specs.Counting.{is_closing_conclusion}
use Rattle.effects.specs.Children.{first_asked, AsksForChild, AsksForFurtherChild, BringsChild, First, Further, IsAnsweredChild, IsAskedChild, IsAsking, MakesChild, MayAnswer}
use Rattle.initial.specs.Concluding.{AddsChild, ConcludesBy}
use Rattle.association.specs.Issuing.{with_incoming, with_outgoing, new_request, IssuesNext}
use Rattle.setup.specs.Configs.{first_setting, Setup}
use Rattle.initial.specs.Deciding.{own_proving, AcceptsAuth, IsDecision}
use Rattle.exchange.specs.Chains.{IsRead}
use Rattle.initial.specs.Ending.{IsVerdict}
use Rattle.association.specs.Sending.{request_message}
use Rattle.deletions.specs.Deciding.{is_closing_verdict, verdict_on}
use Rattle.informational.specs.Counting.{is_ended}
use Rattle.informational.specs.Orders.{ClosesIf}
use Rattle.effects.specs.Keeping.{child_in}
use Rattle.effects.specs.Pairs.{IsUnused, LeavesPairs}
use Rattle.effects.specs.Requests.{is_concluded, IsSoundlyHeld}
use Rattle.effects.specs.Taking.{Meaning, TakesMessage}
use Rattle.association.specs.declared.outcome.Answered.{Answered}
use Rattle.initial.specs.declared.concluding.Outcome.{Outcome}
use Rattle.initial.specs.declared.concluding.Outcome.TheVariants as outcome
use Rattle.initial.specs.declared.deciding.Decision.{Decision}
use Rattle.initial.specs.declared.deciding.Decision.TheVariants as decision
use Rattle.association.specs.declared.outcome.Ended.{Ended}
use Rattle.effects.specs.declared.taking.Effect.{Effect}
use Rattle.effects.specs.declared.taking.Effect.TheVariants as effect
use Rattle.effects.proofs.ExchangeLemmas.{asked_exchange, auth_exchange, further_exchange, identity_asked, identity_exchange}
use Rattle.effects.proofs.PairLemmas.{answer_unused, end_unused, further_unused, made_unused, UnusedBy, UnusedIn}
use Rattle.effects.proofs.PayloadLemmas.{answer_has, request_has}
use Rattle.effects.proofs.SpiLemmas.{pairs_left}
use Rattle.effects.proofs.WayLemmas.{answered_further, answered_later, counted_further, counted_later, pair_made, way_of, AnsweredAuth, AnsweredFurther, CountedAuth, CountedFurther, FurtherIf, WasIdentified, Way}
use Rattle.association.specs.Outcomes.{closed_by, made_by}
use Rattle.association.specs.declared.outcome.Fate.{Fate}
use Rattle.effects.proofs.FateLemmas.{childless_made}

-- what the crates below say of Child SAs, and of what a message is
pub record ChildFacts : Type 0 where
  pub made : (setting : Setting) (extended : Bool) (entries : List Entry) (table : Database) (offer : ChildPayloads) (made : Made) (request reply : List Payload)
      → IsMadeChild setting extended entries table offer made → only_sa request ≡ Some offer.proposals → HasChildPayloads reply made.payloads → IsChild Responder setting.keys request reply made.pair
  pub accepted : (setting : Setting) (asked : Asked) (request answer : List Payload) (pair : Pair)
      → IsAcceptedChild setting asked answer pair → asked.spi < 2 ^ 32 → only_sa request ≡ Some (asked_proposal asked ∷ []) → IsChild Initiator setting.keys request answer pair
  pub asked : (setting : Setting) (asked : Asked) (answer : List Payload) (pair : Pair) → IsAcceptedChild setting asked answer pair → KeepsToRequest asked pair
  pub offer : (setting : Setting) (extended : Bool) (entries : List Entry) (table : Database) (offer : ChildPayloads) (made : Made)
      → IsMadeChild setting extended entries table offer made → AnswersOffer made.pair.remote offer.ts_i × AnswersOffer made.pair.local offer.ts_r
  pub policy : (setting : Setting) (extended : Bool) (entries : List Entry) (table : Database) (offer : ChildPayloads) (made : Made)
      → IsMadeChild setting extended entries table offer made → LieInsidePolicy entries made.pair.remote made.pair.local
  pub narrowed : (setting : Setting) (extended : Bool) (entries : List Entry) (table : Database) (offer : ChildPayloads) (made : Made)
      → IsMadeChild setting extended entries table offer made → IsNarrowing entries offer.ts_i offer.ts_r made.pair.remote made.pair.local
  pub extension : (setting : Setting) (extended : Bool) (entries : List Entry) (table : Database) (offer : ChildPayloads) (made : Made)
      → IsMadeChild setting extended entries table offer made → made.pair.inbound.association.extended ≡ true → extended ≡ true
  pub few_made : (setting : Setting) (extended : Bool) (entries : List Entry) (table : Database) (offer : ChildPayloads) (made : Made)
      → length offer.ts_i ≤ SELECTOR_LIMIT → length offer.ts_r ≤ SELECTOR_LIMIT → IsMadeChild setting extended entries table offer made → HasFewSelectors made.pair
  pub few_accepted : (setting : Setting) (asked : Asked) (answer : List Payload) (pair : Pair) → AllByRecursion FitsFields answer → IsAcceptedChild setting asked answer pair → HasFewSelectors pair
  pub fit : (first : ℕ) (ps : List Payload) (b : Octets) → SpellsChain first ps b → AllByRecursion FitsFields ps
  pub ts_i : (payloads : List Payload) (selectors : List Selector) → AllByRecursion FitsFields payloads → only_ts_i payloads ≡ Some selectors → FitsFields (TsI selectors)
  pub ts_r : (payloads : List Payload) (selectors : List Selector) → AllByRecursion FitsFields payloads → only_ts_r payloads ≡ Some selectors → FitsFields (TsR selectors)
  pub effective : (plain_of : Opening) (a : Association) (octets : Octets) (m : Message) (plain : Plain) → IsReceived plain_of a octets m (TakesEffect plain) → IsEffective plain_of a octets m plain
  pub answering : (plain_of : Opening) (a : Association) (octets : Octets) (m : Message) (plain : Plain) → IsReceived plain_of a octets m (Answers plain) → IsAnswering plain_of a octets m plain

-- what is known of additional Child SAs
pub record FurtherFacts : Type 0 where
  pub made : (setup : Setup) (ike : ℕ) (keys : KeyRecord) (table : Database) (deleting : Bool) (plain : Plain) (made : Made) (request : List Payload)
      → DecidesFurther setup ike keys table deleting plain (decided.Made made) → SpellsChain plain.first request plain.octets
      → IsFurtherChild Responder keys request (further_answer (answer_to_further (decided.Made made)) setup.fresh.nonce) made.pair
  pub accepted : (blocks ike : ℕ) (keys : KeyRecord) (asked : Asked) (own_nonce : Octets) (plain : Plain) (pair : Pair) (answer : List Payload)
      → asked.spi < 2 ^ 32 → Concludes blocks ike keys asked own_nonce plain (conclusion.Made pair) → SpellsChain plain.first answer plain.octets
      → IsFurtherChild Initiator keys (further_payloads (child_request asked) own_nonce) answer pair
  pub offer : (setup : Setup) (ike : ℕ) (keys : KeyRecord) (table : Database) (deleting : Bool) (plain : Plain) (made : Made) (request : List Payload) (ts_i ts_r : List Selector)
      → DecidesFurther setup ike keys table deleting plain (decided.Made made) → SpellsChain plain.first request plain.octets → only_ts_i request ≡ Some ts_i → only_ts_r request ≡ Some ts_r
      → AnswersOffer made.pair.remote ts_i × AnswersOffer made.pair.local ts_r
  pub policy : (setup : Setup) (ike : ℕ) (keys : KeyRecord) (table : Database) (deleting : Bool) (plain : Plain) (made : Made)
      → DecidesFurther setup ike keys table deleting plain (decided.Made made) → LieInsidePolicy setup.entries made.pair.remote made.pair.local
  pub narrowed : (setup : Setup) (ike : ℕ) (keys : KeyRecord) (table : Database) (deleting : Bool) (plain : Plain) (made : Made) (request : List Payload) (ts_i ts_r : List Selector)
      → DecidesFurther setup ike keys table deleting plain (decided.Made made) → SpellsChain plain.first request plain.octets → only_ts_i request ≡ Some ts_i → only_ts_r request ≡ Some ts_r
      → IsNarrowing setup.entries ts_i ts_r made.pair.remote made.pair.local
  pub extension : (setup : Setup) (ike : ℕ) (keys : KeyRecord) (table : Database) (deleting : Bool) (plain : Plain) (made : Made)
      → DecidesFurther setup ike keys table deleting plain (decided.Made made) → made.pair.inbound.association.extended ≡ true → setup.config.extended ≡ true
  pub asked : (blocks ike : ℕ) (keys : KeyRecord) (asked : Asked) (own_nonce : Octets) (plain : Plain) (pair : Pair)
      → Concludes blocks ike keys asked own_nonce plain (conclusion.Made pair) → KeepsToRequest asked pair
  pub few_made : (setup : Setup) (ike : ℕ) (keys : KeyRecord) (table : Database) (deleting : Bool) (plain : Plain) (made : Made)
      → DecidesFurther setup ike keys table deleting plain (decided.Made made) → HasFewSelectors made.pair
  pub few_accepted : (blocks ike : ℕ) (keys : KeyRecord) (asked : Asked) (own_nonce : Octets) (plain : Plain) (pair : Pair)
      → Concludes blocks ike keys asked own_nonce plain (conclusion.Made pair) → HasFewSelectors pair

-- ---- the table's change

inserted_here : {T : Type 0} (m : map.FinMap nat_cmp T) (k : ℕ) (v : T) → map.get (map.insert m k v) k ≡ Some v
inserted_here m k v = map.get-insert nat_cmp_total m k v k ∙ ap (λ b. cond b (Some v) (map.get m k)) (unsigned_tied k k ∙ eq-eqb k k refl)

-- an SA pair came under the next serial
record HasAdded (old : Database) (pair : Option Pair) (serial : ℕ) (new : Database) : Type 0 where
  one : Pair
  is : pair ≡ Some one
  in_order : serial ≡ old.next
  there : pair_at new.pairs serial ≡ Some (record one { serial = serial })

installed_adds : (old : Database) (spi : ℕ) (pair : Pair) (serial : ℕ) (new : Database) → Installs old spi pair serial new → HasAdded old (Some pair) serial new
installed_adds old spi pair serial new is =
    record {
      one = pair;
      is = refl;
      in_order = is.in_order;
      there = ap (λ (d : Database). pair_at d.pairs serial) is.content ∙ inserted_here old.pairs serial (record pair { serial = serial });
    }

next_adds : (old : Database) (pair : Pair) (serial : ℕ) (new : Database) → AddsNext old pair serial new → HasAdded old (Some pair) serial new
next_adds old pair serial new is =
    let added = installed_adds is.between is.spi pair serial new is.installed in
    record { one = added.one; is = added.is; in_order = added.in_order ∙ ap (λ (d : Database). d.next) is.reserved.content; there = added.there }

none_some : (serial : ℕ) → None ≡ Some serial → ⊥
none_some serial e = cc

same_pair : (a b : Pair) → Some a ≡ Some b → a ≡ b
same_pair a b e = cc

same_number : (a b : ℕ) → Some a ≡ Some b → a ≡ b
same_number a b e = cc

child_adds : (old : Database) (spi : Option ℕ) (pair : Option Pair) (child : Option ℕ) (serial : ℕ) (new : Database) → child ≡ Some serial → AddsChild old spi pair child new → HasAdded old pair serial new
child_adds old None None None serial new e is = absurd (none_some serial e)
child_adds old None (Some pair) (Some other) serial new e is = subst (λ n. HasAdded old (Some pair) n new) (same_number other serial e) (next_adds old pair other new is)
child_adds old (Some spi) None None serial new e is = absurd (none_some serial e)
child_adds old (Some spi) (Some pair) (Some other) serial new e is = subst (λ n. HasAdded old (Some pair) n new) (same_number other serial e) (installed_adds old spi pair other new is)
child_adds old spi pair child serial new e is = absurd is

-- ---- what IKE_AUTH comes to

-- the IKE SA is established, with a Child SA
record HasChild (a : Association) (table : Database) (o : Outcome) (serial : ℕ) (new : Association) (new_table : Database) : Type 0 where
  pair : Pair
  window : ℕ
  outcome_is : o ≡ outcome.Establishes (Some pair) window
  phase_is : new.phase ≡ established_of a.phase
  in_order : serial ≡ table.next
  there : pair_at new_table.pairs serial ≡ Some (record pair { serial = serial })

concluded_child : (setup : Setup) (a : Association) (table : Database) (o : Outcome) (came : Fate) (serial : ℕ) (new : Association) (new_table : Database) → made_by came ≡ Some serial
    → ConcludesBy setup a table o came new new_table → HasChild a table o serial new new_table
concluded_child setup a table outcome.Closes came serial new new_table e c = absurd (none_some serial (sym (ap made_by c.closed) ∙ e))
concluded_child setup a table (outcome.Establishes pair window) came serial new new_table e c =
    let added = child_adds table (established_spi a.phase) pair (made_by came) serial new_table e c.added in
    record {
      pair = added.one;
      window = window;
      outcome_is = ap (λ (p : Option Pair). outcome.Establishes p window) added.is;
      phase_is = ap (λ (x : Association). x.phase) c.content;
      in_order = added.in_order;
      there = added.there;
    }

-- the SA pair under its serial
abbrev pub with_serial : ℕ → Pair → Pair
with_serial serial pair = record pair { serial = serial }

still_unused : (ike serial : ℕ) (pair : Pair) → IsUnused ike pair → IsUnused ike (with_serial serial pair)
still_unused ike serial pair is = record { its = is.its; live = is.live; last = is.last; blocks = is.blocks; window = is.window }

still_child : (role : Role) (keys : List (List ℕ)) (request reply : List Payload) (serial : ℕ) (pair : Pair) → IsChild role keys request reply pair → IsChild role keys request reply (with_serial serial pair)
still_child role keys request reply serial pair is =
    record { terms = is.terms; agreed = is.agreed; inbound = is.inbound; outbound = is.outbound; local = is.local; remote = is.remote }

child_brought : (meaning : Meaning) (setup : Setup) (old : Association) (table : Database) (octets : Octets) (m : Message) (e : Effect) (serial : ℕ) (keys : KeyRecord) (pair : Pair) (new : Association) (new_table : Database)
    → TakesMessage meaning setup old table octets m e new new_table → new.phase ≡ phase.Established keys → serial ≡ table.next → IsUnused old.serial pair
    → pair_at new_table.pairs serial ≡ Some (with_serial serial pair)
    → BringsChild old.serial serial table keys (with_serial serial pair) new new_table
child_brought meaning setup old table octets m e serial keys pair new new_table is established in_order unused there =
    let left : LeavesPairs table old.serial new_table = pairs_left meaning setup old table octets m e new new_table is in
    record {
      established = established;
      in_order = in_order;
      there = there;
      unused = still_unused old.serial serial pair unused;
      alone = λ other p stands.
          elim (left.each other p stands) [
            | inl before ↦ inl before
            | inr comes ↦ inr (comes.in_order ∙ sym in_order)
          ];
    }

-- ---- at the responder

-- the decision makes this Child SA
record DecidesChild (accepts : Accepts) (setup : Setup) (ike : ℕ) (opened : HalfOpen) (table : Database) (plain : Plain) (d : Decision) (pair : Pair) : Type 0 where
  request : List Payload
  read : SpellsChain plain.first request plain.octets
  made : Made
  window : ℕ
  is : d ≡ decision.Accepted (response.Made made) window
  same : made.pair ≡ pair
  accepted : AcceptsAuth accepts setup ike opened table request (response.Made made) window

decided_child : (accepts : Accepts) (setup : Setup) (ike : ℕ) (opened : HalfOpen) (table : Database) (plain : Plain) (payloads : Option (List Payload)) (d : Decision) (pair : Pair) (window : ℕ)
    → outcome_of d ≡ outcome.Establishes (Some pair) window → IsRead plain payloads → IsDecision accepts setup ike opened table payloads d → DecidesChild accepts setup ike opened table plain d pair
decided_child accepts setup ike opened table plain payloads (decision.Refused notice) pair window e read due = absurd cc
decided_child accepts setup ike opened table plain None (decision.Accepted answer told) pair window e read due = absurd due
decided_child accepts setup ike opened table plain (Some payloads) (decision.Accepted (response.Refused notice) told) pair window e read due = absurd cc
decided_child accepts setup ike opened table plain (Some payloads) (decision.Accepted (response.Made made) told) pair window e read due =
    record { request = payloads; read = read; made = made; window = told; is = refl; same = cc; accepted = due }

answered_child : (facts : ChildFacts) (own_method : ℕ) (proof_of : Octets → Octets) (accepts : Accepts) (setup : Setup) (ike : ℕ) (opened : HalfOpen) (table : Database) (plain : Plain) (d : Decision) (pair : Pair) (serial : ℕ)
    → (is : DecidesChild accepts setup ike opened table plain d pair)
    → IsAnsweredChild First setup opened.keys is.request (reply_payloads own_method proof_of setup opened d) (with_serial serial pair)
answered_child facts own_method proof_of accepts setup ike opened table plain d pair serial is =
    let setting : Setting = first_setting setup.config ike opened.keys in
    let asked = is.accepted.asked in
    let judged = is.accepted.judged in
    let child : IsMadeChild setting setup.config.extended setup.entries table asked.child is.made = is.accepted.child in
    let reply : List Payload = reply_payloads own_method proof_of setup opened (decision.Accepted (response.Made is.made) is.window) in
    let has : HasChildPayloads reply is.made.payloads = answer_has own_method proof_of setup.config.own.identity (own_proving opened) is.made.payloads setup.config.window in
    let fit = facts.fit plain.first is.request plain.octets is.read in
    let few_i = facts.ts_i is.request asked.child.ts_i fit judged.ts_i in
    let few_r = facts.ts_r is.request asked.child.ts_r fit judged.ts_r in
    let few = facts.few_made setting setup.config.extended setup.entries table asked.child is.made few_i.few few_r.few child in
    let lie = facts.offer setting setup.config.extended setup.entries table asked.child is.made child in
    let made : IsAnsweredChild First setup opened.keys is.request reply (with_serial serial is.made.pair) = record {
      child = still_child Responder (first_child_keys opened.keys) is.request reply serial is.made.pair
          (facts.made setting setup.config.extended setup.entries table asked.child is.made is.request reply child judged.sa has);
      offer = asked.child;
      offered = record { sa = judged.sa; ts_i = judged.ts_i; ts_r = judged.ts_r };
      remote = lie.0;
      local = lie.1;
      protected = facts.policy setting setup.config.extended setup.entries table asked.child is.made child;
      narrowed = facts.narrowed setting setup.config.extended setup.entries table asked.child is.made child;
      extension = facts.extension setting setup.config.extended setup.entries table asked.child is.made child;
      few = record { local = few.local; remote = few.remote };
    } in
    subst (λ (x : Decision). IsAnsweredChild First setup opened.keys is.request (reply_payloads own_method proof_of setup opened x) (with_serial serial pair)) (sym is.is)
    (subst (λ (p : Pair). IsAnsweredChild First setup opened.keys is.request reply (with_serial serial p)) is.same made)

replied_makes : (facts : ChildFacts) (meaning : Meaning) (setup : Setup) (old : Association) (table : Database) (octets : Octets) (m : Message) (answered : Answered) (serial : ℕ) (new : Association) (new_table : Database)
    → made_by answered.fate ≡ Some serial → TakesMessage meaning setup old table octets m (effect.Replied answered) new new_table → AnsweredAuth meaning setup old table octets m answered new new_table
    → MakesChild meaning setup old table octets m (effect.Replied answered) serial new new_table
replied_makes facts meaning setup old table octets m answered serial new new_table e takes is =
    let d = is.done in
    let c : HasChild (record old { incoming = d.incoming }) d.between (outcome_of d.decision) serial new new_table =
    concluded_child setup (record old { incoming = d.incoming }) d.between (outcome_of d.decision) answered.fate serial new new_table e d.concluded in
    let decides : DecidesChild meaning.accepts setup old.serial d.opened table is.plain d.decision c.pair =
    decided_child meaning.accepts setup old.serial d.opened table is.plain d.decided.payloads d.decision c.pair c.window c.outcome_is d.decided.read d.decided.due in
    let unused : UnusedBy old.serial (outcome.Establishes (Some c.pair) c.window) =
    subst (λ (o : Outcome). UnusedBy old.serial o) c.outcome_is (answer_unused meaning.accepts setup old.serial d.opened table is.plain d.decision d.decided) in
    let in_order : serial ≡ table.next = c.in_order ∙ ap (λ (x : Database). x.next) d.room.content in
    record {
      keys = d.opened.keys;
      pair = with_serial serial c.pair;
      brings = child_brought meaning setup old table octets m (effect.Replied answered) serial d.opened.keys c.pair new new_table takes (c.phase_is ∙ ap established_of d.was) in_order unused c.there;
      made = (
        First,
        record {
          exchange = auth_exchange old.phase d.opened m.header.exchange d.was (facts.effective meaning.plain_of old octets m is.plain is.received).admitted;
          asked = (facts.effective meaning.plain_of old octets m is.plain is.received).request;
          was = subst (λ (p : Phase). MayAnswer First p d.opened.keys) (sym d.was) refl;
          plain = is.plain;
          opened = (facts.effective meaning.plain_of old octets m is.plain is.received).opened;
          request = decides.request;
          read = decides.read;
          reply = reply_payloads meaning.own_method meaning.proof_of setup d.opened d.decision;
          sealed = d.sealed;
          is = answered_child facts meaning.own_method meaning.proof_of meaning.accepts setup old.serial d.opened table is.plain d.decision c.pair serial decides;
        },
      );
    }

-- ---- at the initiator

-- the payloads that were read make this Child SA
record AcceptsChild (setup : Setup) (ike : ℕ) (sent : AuthSent) (plain : Plain) (pair : Pair) : Type 0 where
  reply : List Payload
  read : SpellsChain plain.first reply plain.octets
  accepted : IsAcceptedChild (first_setting setup.config ike sent.keys) (asked_of sent.child) reply pair

accepted_child : (accepts : Accepts) (setup : Setup) (ike : ℕ) (sent : AuthSent) (plain : Plain) (payloads : Option (List Payload)) (pair : Pair) (window : ℕ)
    → IsRead plain payloads → IsVerdict accepts setup ike sent payloads (outcome.Establishes (Some pair) window) → AcceptsChild setup ike sent plain pair
accepted_child accepts setup ike sent plain None pair window read due = absurd due
accepted_child accepts setup ike sent plain (Some payloads) pair window read due = record { reply = payloads; read = read; accepted = due.child }

-- an SPI that is reserved has 32 bits
reserved_fits : (table : Database) (spi : ℕ) → IsSoundTable table → IsReserved table spi → spi < 2 ^ 32
reserved_fits table spi sound there =
    let given = sound.reserved_given spi there in
    let most = sound.start.most in
    let few = sound.given in
    omega (arith, given.before_next, most, few)

asked_child : (facts : ChildFacts) (setup : Setup) (ike : ℕ) (sent : AuthSent) (plain : Plain) (pair : Pair) (serial : ℕ) → sent.child.spi < 2 ^ 32
    → (is : AcceptsChild setup ike sent plain pair) → IsAskedChild sent.child sent.keys is.reply (with_serial serial pair)
asked_child facts setup ike sent plain pair serial small is =
    let setting : Setting = first_setting setup.config ike sent.keys in
    let keeps = facts.asked setting (asked_of sent.child) is.reply pair is.accepted in
    let few = facts.few_accepted setting (asked_of sent.child) is.reply pair (facts.fit plain.first is.reply plain.octets is.read) is.accepted in
    record {
      made = λ request has. still_child Initiator (first_child_keys sent.keys) request is.reply serial pair
          (facts.accepted setting (asked_of sent.child) request is.reply pair is.accepted small has.sa);
      keeps = record { spi = keeps.spi; local = keeps.local; remote = keeps.remote; extension = keeps.extension };
      few = record { local = few.local; remote = few.remote };
    }

counted_makes : (facts : ChildFacts) (meaning : Meaning) (setup : Setup) (old : Association) (table : Database) (octets : Octets) (m : Message) (ended : Ended) (serial : ℕ) (new : Association) (new_table : Database)
    → IsSoundTable table → IsSoundlyHeld old → HoldsReserved old table
    → made_by ended.fate ≡ Some serial → TakesMessage meaning setup old table octets m (effect.Counted ended) new new_table → CountedAuth meaning setup old table octets m ended new new_table
    → MakesChild meaning setup old table octets m (effect.Counted ended) serial new new_table
counted_makes facts meaning setup old table octets m ended serial new new_table sound held holds e takes is =
    let d = is.done in
    let c : HasChild (record old { outgoing = d.outgoing }) table d.verdict serial new new_table =
    concluded_child setup (record old { outgoing = d.outgoing }) table d.verdict ended.fate serial new new_table e d.concluded in
    let accepts : AcceptsChild setup old.serial d.sent is.plain c.pair =
    accepted_child meaning.accepts setup old.serial d.sent is.plain d.judged.payloads c.pair c.window d.judged.read
    (subst (λ (o : Outcome). IsVerdict meaning.accepts setup old.serial d.sent d.judged.payloads o) c.outcome_is d.judged.due) in
    let unused : UnusedBy old.serial (outcome.Establishes (Some c.pair) c.window) =
    subst (λ (o : Outcome). UnusedBy old.serial o) c.outcome_is (end_unused meaning.accepts setup old.serial d.sent is.plain d.verdict d.judged) in
    let reserved : IsReserved table d.sent.child.spi = holds.reserved d.sent.child.spi (inl (ap spi_in d.was)) in
    record {
      keys = d.sent.keys;
      pair = with_serial serial c.pair;
      brings = child_brought meaning setup old table octets m (effect.Counted ended) serial d.sent.keys c.pair new new_table takes (c.phase_is ∙ ap established_of d.was) c.in_order unused c.there;
      made = inl (record {
        exchange = identity_exchange old d.sent m d.was (facts.answering meaning.plain_of old octets m is.plain is.received).due held.waits;
        response = (facts.answering meaning.plain_of old octets m is.plain is.received).due.response;
        request = d.request;
        outstanding = d.counted.there;
        asked = identity_asked old d.sent m.header.id d.request d.was held.waits d.counted.there;
        sent = d.sent;
        was = d.was;
        same_keys = refl;
        plain = is.plain;
        opened = (facts.answering meaning.plain_of old octets m is.plain is.received).opened;
        reply = accepts.reply;
        read = accepts.read;
        is = asked_child facts setup old.serial d.sent is.plain c.pair serial (reserved_fits table d.sent.child.spi sound reserved) accepts;
      });
    }

-- ---- what CREATE_CHILD_SA comes to

still_further : (role : Role) (keys : KeyRecord) (request reply : List Payload) (serial : ℕ) (pair : Pair) → IsFurtherChild role keys request reply pair → IsFurtherChild role keys request reply (with_serial serial pair)
still_further role keys request reply serial pair is =
    record {
      no_exchange = is.no_exchange;
      nonce_i = is.nonce_i;
      nonce_r = is.nonce_r;
      asked = is.asked;
      answered = is.answered;
      child = still_child role (child_keys keys.sk_d is.nonce_i is.nonce_r) request reply serial pair is.child;
    }

-- the IKE SA stays as it is, with a Child SA
record GivesChild (pair : Option Pair) (a : Association) (table : Database) (serial : ℕ) (new : Association) (new_table : Database) : Type 0 where
  one : Pair
  is : pair ≡ Some one
  same : new ≡ a
  in_order : serial ≡ table.next
  there : pair_at new_table.pairs serial ≡ Some (with_serial serial one)

gives_child : (closing : Bool) (spi : Option ℕ) (pair : Option Pair) (a : Association) (table : Database) (moment : ℕ) (child : Option ℕ) (serial : ℕ) (new : Association) (new_table : Database)
    → child ≡ Some serial → FurtherIf closing spi pair a table moment child new new_table → GivesChild pair a table serial new new_table
gives_child true spi pair a table moment child serial new new_table e is = absurd (none_some serial (sym is.none ∙ e))
gives_child false spi pair a table moment child serial new new_table e is =
    let added = child_adds table spi pair child serial new_table e is.added in
    record { one = added.one; is = added.is; same = is.same; in_order = added.in_order; there = added.there }

record MadeByDecision (d : further.Decision) (pair : Pair) : Type 0 where
  made : Made
  is : d ≡ decided.Made made
  same : made.pair ≡ pair

made_by_decision : (d : further.Decision) (pair : Pair) → further_pair d ≡ Some pair → MadeByDecision d pair
made_by_decision (decided.Refused notice) pair e = absurd cc
made_by_decision (decided.Made made) pair e = record { made = made; is = refl; same = cc }

made_by_conclusion : (c : Conclusion) (pair : Pair) → pair_made c ≡ Some pair → c ≡ conclusion.Made pair
made_by_conclusion conclusion.Closes pair e = absurd cc
made_by_conclusion (conclusion.Made made) pair e = ap (λ (p : Pair). conclusion.Made p) (same_pair made pair e)
made_by_conclusion conclusion.NoChild pair e = absurd cc

-- what a request asked for, of which a Child SA is made
record AsksForMade (plain : Plain) (deleting : Bool) : Type 0 where
  request : List Payload
  read : SpellsChain plain.first request plain.octets
  view : FurtherRequestView
  asks : AsksFor request deleting view

judged_asks : (setup : Setup) (ike : ℕ) (keys : KeyRecord) (table : Database) (deleting : Bool) (plain : Plain) (request : List Payload) (j : FurtherJudgement) (made : Made)
    → SpellsChain plain.first request plain.octets → IsFurtherJudgement request deleting j → DecidesFurtherBy setup ike keys table j (decided.Made made) → AsksForMade plain deleting
judged_asks setup ike keys table deleting plain request (Refused notice) made read judged due = absurd due
judged_asks setup ike keys table deleting plain request (Admitted view) made read judged due = record { request = request; read = read; view = view; asks = judged }

decided_asks : (setup : Setup) (ike : ℕ) (keys : KeyRecord) (table : Database) (deleting : Bool) (plain : Plain) (payloads : Option (List Payload)) (made : Made)
    → IsRead plain payloads → IsFurtherDecision setup ike keys table deleting payloads (decided.Made made) → AsksForMade plain deleting
decided_asks setup ike keys table deleting plain None made read due = absurd due
decided_asks setup ike keys table deleting plain (Some request) made read due = judged_asks setup ike keys table deleting plain request due.judgement made read due.judged due.due

further_replied_makes : (facts : ChildFacts) (laws : FurtherFacts) (meaning : Meaning) (setup : Setup) (old : Association) (table : Database) (octets : Octets) (m : Message) (answered : Answered) (serial : ℕ) (new : Association) (new_table : Database)
    → made_by answered.fate ≡ Some serial → TakesMessage meaning setup old table octets m (effect.Replied answered) new new_table → AnsweredFurther meaning setup old table octets m answered new new_table
    → MakesChild meaning setup old table octets m (effect.Replied answered) serial new new_table
further_replied_makes facts laws meaning setup old table octets m answered serial new new_table e takes is =
    let d = is.done in
    let taken : Association = record old { incoming = d.incoming } in
    let c : GivesChild (further_pair d.decision) taken d.between serial new new_table =
    gives_child (is_closing_decision d.decision) None (further_pair d.decision) taken d.between setup.moment (made_by answered.fate) serial new new_table e
    (answered_further (is_closing_decision d.decision) (further_pair d.decision) taken d.between setup.moment answered.fate new new_table d.concluded) in
    let by = made_by_decision d.decision c.one c.is in
    let made : DecidesFurther setup old.serial d.keys table d.deleting is.plain (decided.Made by.made) =
    subst (λ (x : further.Decision). DecidesFurther setup old.serial d.keys table d.deleting is.plain x) by.is d.decided in
    let asks = decided_asks setup old.serial d.keys table d.deleting is.plain made.payloads by.made made.read made.due in
    let lie = laws.offer setup old.serial d.keys table d.deleting is.plain by.made asks.request asks.view.child.ts_i asks.view.child.ts_r made asks.read asks.asks.ts_i asks.asks.ts_r in
    let few = laws.few_made setup old.serial d.keys table d.deleting is.plain by.made made in
    let answer = λ (x : further.Decision). further_answer (answer_to_further x) setup.fresh.nonce in
    let child : IsAnsweredChild Further setup d.keys asks.request (answer (decided.Made by.made)) (with_serial serial by.made.pair) = record {
      child = still_further Responder d.keys asks.request (answer (decided.Made by.made)) serial by.made.pair
          (laws.made setup old.serial d.keys table d.deleting is.plain by.made asks.request made asks.read);
      offer = asks.view.child;
      offered = record { sa = asks.asks.sa; ts_i = asks.asks.ts_i; ts_r = asks.asks.ts_r };
      remote = lie.0;
      local = lie.1;
      protected = laws.policy setup old.serial d.keys table d.deleting is.plain by.made made;
      narrowed = laws.narrowed setup old.serial d.keys table d.deleting is.plain by.made asks.request asks.view.child.ts_i asks.view.child.ts_r made asks.read asks.asks.ts_i asks.asks.ts_r;
      extension = laws.extension setup old.serial d.keys table d.deleting is.plain by.made made;
      few = record { local = few.local; remote = few.remote };
    } in
    let unused : UnusedIn old.serial (Some c.one) = subst (λ (p : Option Pair). UnusedIn old.serial p) c.is (further_unused setup old.serial d.keys table d.deleting is.plain d.decision d.decided) in
    record {
      keys = d.keys;
      pair = with_serial serial c.one;
      brings = child_brought meaning setup old table octets m (effect.Replied answered) serial d.keys c.one new new_table takes (ap (λ (x : Association). x.phase) c.same ∙ d.established)
          (c.in_order ∙ ap (λ (x : Database). x.next) d.room.content) unused c.there;
      made = (
        Further,
        record {
          exchange = further_exchange old.phase d.keys m.header.exchange d.established (facts.effective meaning.plain_of old octets m is.plain is.received).admitted is.other;
          asked = (facts.effective meaning.plain_of old octets m is.plain is.received).request;
          was = subst (λ (p : Phase). MayAnswer Further p d.keys) (sym d.established) refl;
          plain = is.plain;
          opened = (facts.effective meaning.plain_of old octets m is.plain is.received).opened;
          request = asks.request;
          read = asks.read;
          reply = answer d.decision;
          sealed = d.sealed;
          is = subst (λ (x : further.Decision). IsAnsweredChild Further setup d.keys asks.request (answer x) (with_serial serial c.one)) (sym by.is)
              (subst (λ (p : Pair). IsAnsweredChild Further setup d.keys asks.request (answer (decided.Made by.made)) (with_serial serial p)) by.same child);
        },
      );
    }

-- the payloads that were read make it
record AcceptsFurther (blocks ike : ℕ) (keys : KeyRecord) (asked : Asked) (own_nonce : Octets) (plain : Plain) : Type 0 where
  reply : List Payload
  read : SpellsChain plain.first reply plain.octets

accepts_further : (blocks ike : ℕ) (keys : KeyRecord) (asked : Asked) (own_nonce : Octets) (plain : Plain) (payloads : Option (List Payload)) (pair : Pair)
    → IsRead plain payloads → IsConclusion blocks ike keys asked own_nonce payloads (conclusion.Made pair) → AcceptsFurther blocks ike keys asked own_nonce plain
accepts_further blocks ike keys asked own_nonce plain None pair read due = absurd due
accepts_further blocks ike keys asked own_nonce plain (Some reply) pair read due = record { reply = reply; read = read }

further_counted_makes : (facts : ChildFacts) (laws : FurtherFacts) (meaning : Meaning) (setup : Setup) (old : Association) (table : Database) (octets : Octets) (m : Message) (ended : Ended) (serial : ℕ) (new : Association) (new_table : Database)
    → IsSoundTable table → IsSoundlyHeld old → HoldsReserved old table
    → made_by ended.fate ≡ Some serial → TakesMessage meaning setup old table octets m (effect.Counted ended) new new_table → CountedFurther meaning setup old table octets m ended new new_table
    → MakesChild meaning setup old table octets m (effect.Counted ended) serial new new_table
further_counted_makes facts laws meaning setup old table octets m ended serial new new_table sound held holds e takes is =
    let d = is.done in
    let spi : ℕ = d.further.child.spi in
    let asked : Asked = asked_of d.further.child in
    let counted : Association = record old { outgoing = d.outgoing } in
    let c : GivesChild (pair_made d.conclusion) counted table serial new new_table =
    gives_child (is_closing_conclusion d.conclusion) (Some spi) (pair_made d.conclusion) counted table setup.moment (made_by ended.fate) serial new new_table e
    (counted_further d.conclusion spi counted table setup.moment ended.fate new new_table d.ends) in
    let made : Concludes setup.config.blocks old.serial d.keys asked d.further.nonce is.plain (conclusion.Made c.one) =
    subst (λ (x : Conclusion). Concludes setup.config.blocks old.serial d.keys asked d.further.nonce is.plain x) (made_by_conclusion d.conclusion c.one c.is) d.concluded in
    let accepts = accepts_further setup.config.blocks old.serial d.keys asked d.further.nonce is.plain made.payloads c.one made.read made.due in
    let reserved : IsReserved table spi =
    holds.reserved spi (inr (record { number = m.header.id; awaits = record { request = d.request; outstanding = d.counted.there; reserved = ap spi_asked d.asked } })) in
    let keeps = laws.asked setup.config.blocks old.serial d.keys asked d.further.nonce is.plain c.one made in
    let few = laws.few_accepted setup.config.blocks old.serial d.keys asked d.further.nonce is.plain c.one made in
    let unused : UnusedIn old.serial (Some c.one) =
    subst (λ (p : Option Pair). UnusedIn old.serial p) c.is (made_unused setup.config.blocks old.serial d.keys asked d.further.nonce is.plain d.conclusion d.concluded) in
    record {
      keys = d.keys;
      pair = with_serial serial c.one;
      brings = child_brought meaning setup old table octets m (effect.Counted ended) serial d.keys c.one new new_table takes (ap (λ (x : Association). x.phase) c.same ∙ d.established) c.in_order unused c.there;
      made = inr (record {
        exchange = asked_exchange old d.request d.further m d.counted.there d.asked (facts.answering meaning.plain_of old octets m is.plain is.received).due;
        response = (facts.answering meaning.plain_of old octets m is.plain is.received).due.response;
        was = d.established;
        request = d.request;
        outstanding = d.counted.there;
        further = d.further;
        asked = d.asked;
        plain = is.plain;
        opened = (facts.answering meaning.plain_of old octets m is.plain is.received).opened;
        reply = accepts.reply;
        read = accepts.read;
        is = record {
          made = still_further Initiator d.keys (further_payloads (child_request asked) d.further.nonce) accepts.reply serial c.one
              (laws.accepted setup.config.blocks old.serial d.keys asked d.further.nonce is.plain c.one accepts.reply (reserved_fits table spi sound reserved) made accepts.read);
          keeps = record { spi = keeps.spi; local = keeps.local; remote = keeps.remote; extension = keeps.extension };
          few = record { local = few.local; remote = few.remote };
        };
      });
    }

way_makes : (facts : ChildFacts) (laws : FurtherFacts) (meaning : Meaning) (setup : Setup) (old : Association) (table : Database) (octets : Octets) (m : Message) (e : Effect) (serial : ℕ) (new : Association) (new_table : Database)
    → IsSoundTable table → IsSoundlyHeld old → HoldsReserved old table → child_in e ≡ Some serial → TakesMessage meaning setup old table octets m e new new_table
    → Way meaning setup old table octets m e new new_table → MakesChild meaning setup old table octets m e serial new new_table
way_makes facts laws meaning setup old table octets m (effect.Refused fault) serial new new_table sound held holds named takes is = absurd (none_some serial named)
way_makes facts laws meaning setup old table octets m (effect.Repeated reply) serial new new_table sound held holds named takes is = absurd (none_some serial named)
way_makes facts laws meaning setup old table octets m (effect.Replied answered) serial new new_table sound held holds named takes (inl is) = replied_makes facts meaning setup old table octets m answered serial new new_table named takes is
way_makes facts laws meaning setup old table octets m (effect.Replied answered) serial new new_table sound held holds named takes (inr (inl is)) = absurd (none_some serial (sym (ap made_by is.done.fate ∙ childless_made (is_closing_verdict (verdict_on table.pairs old.serial is.done.payloads))) ∙ named))
way_makes facts laws meaning setup old table octets m (effect.Again next) serial new new_table sound held holds named takes is = absurd (none_some serial named)
way_makes facts laws meaning setup old table octets m (effect.AsksAuth next) serial new new_table sound held holds named takes is = absurd (none_some serial named)
way_makes facts laws meaning setup old table octets m (effect.Counted ended) serial new new_table sound held holds named takes (inl is) = counted_makes facts meaning setup old table octets m ended serial new new_table sound held holds named takes is
way_makes facts laws meaning setup old table octets m (effect.Counted ended) serial new new_table sound held holds named takes (inr (inl is)) = absurd (none_some serial (sym (ap made_by is.done.fate ∙ childless_made (is_ended is.done.payloads is.done.request.purpose)) ∙ named))
way_makes facts laws meaning setup old table octets m (effect.Replied answered) serial new new_table sound held holds named takes (inr (inr is)) = further_replied_makes facts laws meaning setup old table octets m answered serial new new_table named takes is
way_makes facts laws meaning setup old table octets m (effect.Counted ended) serial new new_table sound held holds named takes (inr (inr is)) = further_counted_makes facts laws meaning setup old table octets m ended serial new new_table sound held holds named takes is

pub makes_child : ChildFacts → FurtherFacts → (meaning : Meaning) (setup : Setup) (old : Association) (table : Database) (octets : Octets) (m : Message) (e : Effect) (serial : ℕ) (new : Association) (new_table : Database)
    → IsSoundTable table → IsSoundlyHeld old → HoldsReserved old table → child_in e ≡ Some serial → TakesMessage meaning setup old table octets m e new new_table
    → MakesChild meaning setup old table octets m e serial new new_table
makes_child facts laws meaning setup old table octets m e serial new new_table sound held holds named is =
    way_makes facts laws meaning setup old table octets m e serial new new_table sound held holds named is (way_of meaning setup old table octets m e new new_table is)

-- ---- what an initiator asks for

issued_kept : (old : OwnRequests Request) (request : Request) (new : OwnRequests Request) → IssuesNext old request new → map.get new.outstanding old.next ≡ Some request
issued_kept old request new is = ap (λ (r : OwnRequests Request). map.get r.outstanding old.next) is.issued.content ∙ inserted_here is.ready.outstanding old.next request

identified_asks : (meaning : Meaning) (setup : Setup) (old : Association) (table : Database) (octets : Octets) (m : Message) (next : Octets) (new : Association) (new_table : Database)
    → WasIdentified meaning setup old table octets m next new new_table → AsksForChild meaning setup next new
identified_asks meaning setup old table octets m next new new_table is =
    let d = is.done in
    let request : List Payload = auth_request meaning.own_method meaning.proof_of setup.config.own.identity (proving_of Initiator is.keys d.request.octets) (child_request (asked_of is.sent.child)) setup.config.window in
    record {
      sent = record { keys = is.keys; first = octets; child = is.sent.child };
      waits = ap (λ (x : Association). x.phase) d.content;
      request = request;
      asks = request_has meaning.own_method meaning.proof_of setup.config.own.identity (proving_of Initiator is.keys d.request.octets) (child_request (asked_of is.sent.child)) setup.config.window;
      sealed = subst (λ (x : Association). IsSealed meaning.body_of (keys_of x.role is.keys) setup.fresh.seal (record { header = sent_header x.spi_i x.spi_r IKE_AUTH x.role false 1; payloads = request }) next) (sym d.content) d.sealed;
      kept = issued_kept number_0_answered (new_request next Identify setup.moment) new.outgoing d.issued;
    }

pub asks_for_child : (meaning : Meaning) (setup : Setup) (old : Association) (table : Database) (octets : Octets) (m : Message) (next : Octets) (new : Association) (new_table : Database)
    → TakesMessage meaning setup old table octets m (effect.AsksAuth next) new new_table → AsksForChild meaning setup next new
asks_for_child meaning setup old table octets m next new new_table is =
    identified_asks meaning setup old table octets m next new new_table (way_of meaning setup old table octets m (effect.AsksAuth next) new new_table is)

-- so does an end for an additional one
pub asks_further : (body_of : Keys → Octets → Octets → Octets → Octets) (setup : Setup) (local remote : Selector) (old : Association) (table : Database) (octets : Octets) (new : Association) (new_table : Database)
    → AsksForFurther body_of setup local remote old table octets new new_table → AsksForFurtherChild body_of setup old.outgoing.next octets new
asks_further body_of setup local remote old table octets new new_table is =
    let further = wanted setup is.spi local remote in
    record {
      keys = is.keys;
      established = ap (λ (x : Association). x.phase) is.content ∙ is.established;
      further = further;
      sealed = subst (λ (x : Association). IsSealed body_of (keys_of x.role is.keys) setup.fresh.seal (request_message x CREATE_CHILD_SA old.outgoing.next (further_payloads (child_request (asked_of further.child)) further.nonce)) octets) (sym is.content) is.sealed;
      kept = ap (λ (x : Association). map.get x.outgoing.outstanding old.outgoing.next) is.content ∙ issued_kept old.outgoing (new_request octets (CreateChild further) setup.moment) is.outgoing is.issued;
      spi = is.spi;
      local = local;
      remote = remote;
      is = refl;
    }

-- ---- who waits for a Child SA waited for it before, or asks for it now

closed_waits : (keys : Option KeyRecord) (at : ℕ) (sent : AuthSent) → phase.Closed keys at ≡ phase.AuthSent sent → ⊥
closed_waits keys at sent e = cc

established_waits : (keys : KeyRecord) (sent : AuthSent) → phase.Established keys ≡ phase.AuthSent sent → ⊥
established_waits keys sent e = cc

initial_waits : (waiting : InitSent) (sent : AuthSent) → phase.InitSent waiting ≡ phase.AuthSent sent → ⊥
initial_waits waiting sent e = cc

concluded_waits : (setup : Setup) (a : Association) (table : Database) (o : Outcome) (came : Fate) (new : Association) (new_table : Database) (keys : KeyRecord) (sent : AuthSent)
    → established_of a.phase ≡ phase.Established keys → ConcludesBy setup a table o came new new_table → new.phase ≡ phase.AuthSent sent → ⊥
concluded_waits setup a table outcome.Closes came new new_table keys sent was c waits =
    closed_waits (keys_in a.phase) setup.moment sent (sym (ap (λ (x : Association). x.phase) c.over.content) ∙ waits)
concluded_waits setup a table (outcome.Establishes pair window) came new new_table keys sent was c waits =
    established_waits keys sent (sym was ∙ sym (ap (λ (x : Association). x.phase) c.content) ∙ waits)

closed_if_waits : (ending : Bool) (serials : List ℕ) (a : Association) (table : Database) (moment : ℕ) (new : Association) (new_table : Database) (keys : KeyRecord) (sent : AuthSent)
    → a.phase ≡ phase.Established keys → ClosesIf ending serials a table moment new new_table → new.phase ≡ phase.AuthSent sent → ⊥
closed_if_waits true serials a table moment new new_table keys sent was is waits =
    closed_waits (keys_in a.phase) moment sent (sym (ap (λ (x : Association). x.phase) is.content) ∙ waits)
closed_if_waits false serials a table moment new new_table keys sent was is waits =
    established_waits keys sent (sym was ∙ sym (ap (λ (x : Association). x.phase) is.0) ∙ waits)

abbrev pub Waits : Association → Effect → AuthSent → Type 0
Waits old e sent = (old.phase ≡ phase.AuthSent sent) ⊎ IsAsking e

way_waits : (meaning : Meaning) (setup : Setup) (old : Association) (table : Database) (octets : Octets) (m : Message) (e : Effect) (new : Association) (new_table : Database) (sent : AuthSent)
    → new.phase ≡ phase.AuthSent sent → Way meaning setup old table octets m e new new_table → Waits old e sent
way_waits meaning setup old table octets m (effect.Refused fault) new new_table sent waits is = inl (sym (ap (λ (x : Association). x.phase) is.association) ∙ waits)
way_waits meaning setup old table octets m (effect.Repeated reply) new new_table sent waits is = inl (sym (ap (λ (x : Association). x.phase) is.same.association) ∙ waits)
way_waits meaning setup old table octets m (effect.Replied answered) new new_table sent waits (inl is) =
    let d = is.done in
    absurd (concluded_waits setup (record old { incoming = d.incoming }) d.between (outcome_of d.decision) answered.fate new new_table d.opened.keys sent (ap established_of d.was) d.concluded waits)
way_waits meaning setup old table octets m (effect.Replied answered) new new_table sent waits (inr is) =
    let d = answered_later meaning setup old table octets m answered new new_table is in
    absurd (closed_if_waits (closed_by answered.fate) d.ends.serials (with_incoming old d.incoming) d.ends.before setup.moment new d.ends.after d.keys sent d.was d.ends.is waits)
way_waits meaning setup old table octets m (effect.Again next) new new_table sent waits is =
    absurd (initial_waits (record is.sent { cookie = Some is.cookie; cookies_taken = is.sent.cookies_taken + 1 }) sent (sym (ap (λ (x : Association). x.phase) is.done.content) ∙ waits))
way_waits meaning setup old table octets m (effect.AsksAuth next) new new_table sent waits is = inr (record { octets = next; is = refl })
way_waits meaning setup old table octets m (effect.Counted ended) new new_table sent waits (inl is) =
    let d = is.done in
    absurd (concluded_waits setup (record old { outgoing = d.outgoing }) table d.verdict ended.fate new new_table d.sent.keys sent (ap established_of d.was) d.concluded waits)
way_waits meaning setup old table octets m (effect.Counted ended) new new_table sent waits (inr is) =
    let d = counted_later meaning setup old table octets m ended new new_table is in
    absurd (closed_if_waits (closed_by ended.fate) d.ends.serials (with_outgoing old d.outgoing) d.ends.before setup.moment new d.ends.after d.keys sent d.was d.ends.is waits)

pub waits_for_child : (meaning : Meaning) (setup : Setup) (old : Association) (table : Database) (octets : Octets) (m : Message) (e : Effect) (new : Association) (new_table : Database) (sent : AuthSent)
    → new.phase ≡ phase.AuthSent sent → TakesMessage meaning setup old table octets m e new new_table → (old.phase ≡ phase.AuthSent sent) ⊎ IsAsking e
waits_for_child meaning setup old table octets m e new new_table sent waits is =
    way_waits meaning setup old table octets m e new new_table sent waits (way_of meaning setup old table octets m e new new_table is)

-- ---- and no message changes which Child SA it asked for

concluded_asks : (p : Phase) (child : AskedChildView) → is_concluded p ≡ true → first_asked p ≡ Some child → ⊥
concluded_asks (phase.InitSent sent) child is asks = absurd cc
concluded_asks (phase.AuthSent sent) child is asks = absurd cc
concluded_asks (phase.HalfOpen opened) child is asks = absurd cc
concluded_asks (phase.Established keys) child is asks = absurd cc
concluded_asks (phase.Closed keys at) child is asks = absurd cc

concluded_by : (setup : Setup) (a : Association) (table : Database) (o : Outcome) (came : Fate) (new : Association) (new_table : Database) (keys : KeyRecord)
    → established_of a.phase ≡ phase.Established keys → ConcludesBy setup a table o came new new_table → is_concluded new.phase ≡ true
concluded_by setup a table outcome.Closes came new new_table keys was c = ap (λ (x : Association). is_concluded x.phase) c.over.content
concluded_by setup a table (outcome.Establishes pair window) came new new_table keys was c = ap (λ (x : Association). is_concluded x.phase) c.content ∙ ap is_concluded was

concluded_if : (ending : Bool) (serials : List ℕ) (a : Association) (table : Database) (moment : ℕ) (new : Association) (new_table : Database) (keys : KeyRecord)
    → a.phase ≡ phase.Established keys → ClosesIf ending serials a table moment new new_table → is_concluded new.phase ≡ true
concluded_if true serials a table moment new new_table keys was is = ap (λ (x : Association). is_concluded x.phase) is.content
concluded_if false serials a table moment new new_table keys was is = ap (λ (x : Association). is_concluded x.phase) is.0 ∙ ap is_concluded was

way_asked : (meaning : Meaning) (setup : Setup) (old : Association) (table : Database) (octets : Octets) (m : Message) (e : Effect) (new : Association) (new_table : Database) (child : AskedChildView)
    → first_asked new.phase ≡ Some child → Way meaning setup old table octets m e new new_table → first_asked old.phase ≡ Some child
way_asked meaning setup old table octets m (effect.Refused fault) new new_table child asks is = sym (ap (λ (x : Association). first_asked x.phase) is.association) ∙ asks
way_asked meaning setup old table octets m (effect.Repeated reply) new new_table child asks is = sym (ap (λ (x : Association). first_asked x.phase) is.same.association) ∙ asks
way_asked meaning setup old table octets m (effect.Replied answered) new new_table child asks (inl is) =
    let d = is.done in
    absurd (concluded_asks new.phase child (concluded_by setup (with_incoming old d.incoming) d.between (outcome_of d.decision) answered.fate new new_table d.opened.keys (ap established_of d.was) d.concluded) asks)
way_asked meaning setup old table octets m (effect.Replied answered) new new_table child asks (inr is) =
    let d = answered_later meaning setup old table octets m answered new new_table is in
    absurd (concluded_asks new.phase child (concluded_if (closed_by answered.fate) d.ends.serials (with_incoming old d.incoming) d.ends.before setup.moment new d.ends.after d.keys d.was d.ends.is) asks)
way_asked meaning setup old table octets m (effect.Again next) new new_table child asks is =
    ap first_asked is.was ∙ sym (ap (λ (x : Association). first_asked x.phase) is.done.content) ∙ asks
way_asked meaning setup old table octets m (effect.AsksAuth next) new new_table child asks is =
    ap first_asked is.was ∙ sym (ap (λ (x : Association). first_asked x.phase) is.done.content) ∙ asks
way_asked meaning setup old table octets m (effect.Counted ended) new new_table child asks (inl is) =
    let d = is.done in
    absurd (concluded_asks new.phase child (concluded_by setup (with_outgoing old d.outgoing) table d.verdict ended.fate new new_table d.sent.keys (ap established_of d.was) d.concluded) asks)
way_asked meaning setup old table octets m (effect.Counted ended) new new_table child asks (inr is) =
    let d = counted_later meaning setup old table octets m ended new new_table is in
    absurd (concluded_asks new.phase child (concluded_if (closed_by ended.fate) d.ends.serials (with_outgoing old d.outgoing) d.ends.before setup.moment new d.ends.after d.keys d.was d.ends.is) asks)

pub asked_before : (meaning : Meaning) (setup : Setup) (old : Association) (table : Database) (octets : Octets) (m : Message) (e : Effect) (new : Association) (new_table : Database) (child : AskedChildView)
    → first_asked new.phase ≡ Some child → TakesMessage meaning setup old table octets m e new new_table → first_asked old.phase ≡ Some child
asked_before meaning setup old table octets m e new new_table child asks is =
    way_asked meaning setup old table octets m e new new_table child asks (way_of meaning setup old table octets m e new new_table is)
