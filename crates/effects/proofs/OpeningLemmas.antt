-- What is sealed under an IKE SA's keys opens as the message that it is.
use Rattle.std.proofs.Common.{◌≡◌, ◌⊎◌, inl, inr, ◌==◌, ◌&&◌, ◌||◌, ◌++◌, ◌∷◌, [], ℕ, Bool, true, false, cond, not, List, Option, Some, None, arith, ap, refl, subst, sym, ◌∙◌}
use Rattle.std.proofs.lemmas.Bool.{eq-eqb}
use Rattle.std.specs.List.{AllByRecursion}
use Rattle.std.specs.Prelude.{nat_lt}
use Rattle.base.specs.Octets.{Octets}
use Rattle.wire.specs.Messages.{Spells}
use Rattle.wire.specs.Numbers.{CREATE_CHILD_SA, IKE_AUTH, IKE_SA_INIT, INFORMATIONAL}
use Rattle.wire.specs.Payloads.{IsClear}
use Rattle.wire.specs.declared.message.Header.{Header}
use Rattle.wire.specs.declared.message.Message.{Message}
use Rattle.wire.specs.declared.payload.Payload.{Payload}
use Rattle.suite.specs.declared.key_record.KeyRecord.{KeyRecord}
use Rattle.suite.specs.declared.keys.Keys.{Keys}
use Rattle.exchange.specs.Children.{child_payloads, answering_payloads}
use Rattle.exchange.specs.Headers.{is_initiator, keys_of, other_role, sent_header}
use Rattle.exchange.specs.Notices.{payload_of_notice}
use Rattle.exchange.specs.Sealed.{IsSealed}
use Rattle.exchange.specs.declared.child.ChildPayloads.{ChildPayloads}
use Rattle.exchange.specs.declared.headers.Role.{Role}
use Rattle.exchange.specs.declared.headers.Role.TheVariants.{Initiator, Responder}
use Rattle.exchange.specs.declared.notices.Notice.{Notice}
use Rattle.exchange.specs.declared.sealed.Plain.{Plain}
use Rattle.sadb.specs.Database.{Database}
use Rattle.auth.specs.Proofs.{proved_identity, proving_of, ProvingView}
use Rattle.auth.specs.Requests.{auth_request}
use Rattle.auth.specs.Windows.{window_notices, window_payload, WINDOW_LEAST}
use Rattle.exchange.specs.declared.child.ChildAnswer.{ChildAnswer}
use Rattle.exchange.specs.declared.child.ChildAnswer.TheVariants as answered
use Rattle.auth.specs.declared.identity.Identity.{Identity}
use Rattle.association.specs.Finding.{has_pair, is_meant, is_waiting, sent_by_other}
use Rattle.association.specs.AskedChildren.{asked_of}
use Rattle.association.specs.Phases.{keys_in}
use Rattle.association.specs.Purposes.{exchange_of}
use Rattle.association.specs.Receiving.{opened_by, opened_under, Answers, AnswersInitial, IsAnswering, IsReceived, Opening, Reception, Refused, Repeat, TakesEffect}
use Rattle.association.specs.declared.phase.Association.{Association}
use Rattle.association.specs.declared.phase.HalfOpen.{HalfOpen}
use Rattle.association.specs.declared.phase.Phase.{Phase}
use Rattle.association.specs.declared.phase.Phase.TheVariants as phase
use Rattle.children.specs.Asking.{child_request}
use Rattle.initial.specs.Answering.{child_answer, reply_payloads}
use Rattle.association.specs.Issuing.{with_outgoing}
use Rattle.setup.specs.Configs.{Setup}
use Rattle.initial.specs.Deciding.{own_proving}
use Rattle.initial.specs.Reading.{identity_message}
use Rattle.association.specs.declared.outcome.Answered.{Answered}
use Rattle.association.specs.declared.outcome.Ended.{Ended}
use Rattle.initial.specs.declared.deciding.Decision.{Decision}
use Rattle.initial.specs.declared.deciding.Decision.TheVariants as decision
use Rattle.deletions.specs.Answering.{deletion_if_any, payloads_of_verdict}
use Rattle.deletions.specs.Deciding.{verdict_on}
use Rattle.deletions.specs.declared.deciding.Verdict.{Verdict}
use Rattle.deletions.specs.declared.deciding.Verdict.TheVariants as verdict
use Rattle.informational.specs.Ordering.{payloads_of_order}
use Rattle.further.specs.Answering.{answer_to_further, further_answer}
use Rattle.further.specs.Payloads.{further_payloads}
use Rattle.informational.specs.declared.ordering.Order.{Order}
use Rattle.informational.specs.declared.ordering.Order.TheVariants as order
use Rattle.effects.specs.Lengths.{AreWholeKeys, HoldsWholeKeys}
use Rattle.effects.specs.Openings.{OpensAsMessage, OpensWhatItSeals}
use Rattle.effects.specs.Requests.{PutsIntoEffect}
use Rattle.effects.specs.Sending.{SendsRequest}
use Rattle.effects.specs.Taking.{Does, DoesAtEstablished, DoesRequest, Meaning, TakesMessage}
use Rattle.effects.specs.declared.taking.Effect.{Effect}
use Rattle.effects.specs.declared.taking.Effect.TheVariants as effect
use Rattle.effects.proofs.DeterminedReadings.{keys_by_role}
use Rattle.effects.proofs.WayLemmas.{counted_later, way_of, Way}

-- ---- none of the payloads that go out is encrypted itself

abbrev AreClear : List Payload → Type 0
AreClear payloads = AllByRecursion IsClear payloads

both_clear : (xs ys : List Payload) → AreClear xs → AreClear ys → AreClear (xs ++ ys)
both_clear [] ys first rest = rest
both_clear (x ∷ xs) ys first rest = (first.0, both_clear xs ys first.1 rest)

notice_clear : (notice : Notice) → AreClear (payload_of_notice notice ∷ [])
notice_clear notice = (λ same. omega (arith, same), tt)

child_clear : (child : ChildPayloads) → AreClear (child_payloads child)
child_clear child = (λ same. omega (arith, same), (λ same. omega (arith, same), (λ same. omega (arith, same), tt)))

window_clear : (wide : Bool) (window : ℕ) → AreClear (cond wide (window_payload window ∷ []) [])
window_clear true window = (λ same. omega (arith, same), tt)
window_clear false window = tt

answering_clear : (answer : ChildAnswer) → AreClear (answering_payloads answer)
answering_clear (answered.Payloads child) = child_clear child
answering_clear (answered.Notice notice) = notice_clear notice

named_clear : (spis : List ℕ) → AreClear (deletion_if_any spis)
named_clear [] = tt
named_clear (spi ∷ spis) = (λ same. omega (arith, same), tt)

verdict_clear : (made : Verdict) → AreClear (payloads_of_verdict made)
verdict_clear verdict.BadSyntax = (λ same. omega (arith, same), tt)
verdict_clear (verdict.Unsupported kind) = (λ same. omega (arith, same), tt)
verdict_clear verdict.Closes = tt
verdict_clear (verdict.Deletes deleted) = named_clear deleted.inbound_spis

pub order_clear : (order : Order) → AreClear (payloads_of_order order)
order_clear order.Probe = tt
order_clear (order.DeleteChild child spi) = (λ same. omega (arith, same), tt)
order_clear order.DeleteAssociation = (λ same. omega (arith, same), tt)

pub further_clear : (child : ChildPayloads) (nonce : Octets) → AreClear (further_payloads child nonce)
further_clear child nonce = (λ same. omega (arith, same), (λ same. omega (arith, same), (λ same. omega (arith, same), (λ same. omega (arith, same), tt))))

further_answer_clear : (answer : ChildAnswer) (nonce : Octets) → AreClear (further_answer answer nonce)
further_answer_clear (answered.Payloads child) nonce = further_clear child nonce
further_answer_clear (answered.Notice notice) nonce = notice_clear notice

reply_clear : (own_method : ℕ) (proof_of : Octets → Octets) (setup : Setup) (opened : HalfOpen) (d : Decision) → AreClear (reply_payloads own_method proof_of setup opened d)
reply_clear own_method proof_of setup opened (decision.Refused notice) = notice_clear notice
reply_clear own_method proof_of setup opened (decision.Accepted answer window) =
    both_clear (proved_identity Responder own_method proof_of setup.config.own.identity (own_proving opened)) (answering_payloads (child_answer answer) ++ window_notices setup.config.window)
    (λ same. omega (arith, same), (λ same. omega (arith, same), tt))
    (both_clear (answering_payloads (child_answer answer)) (window_notices setup.config.window) (answering_clear (child_answer answer))
    (window_clear (nat_lt WINDOW_LEAST setup.config.window) setup.config.window))

request_clear : (own_method : ℕ) (proof_of : Octets → Octets) (own : Identity) (what : ProvingView) (child : ChildPayloads) (window : ℕ) → AreClear (auth_request own_method proof_of own what child window)
request_clear own_method proof_of own what child window =
    both_clear (proved_identity Initiator own_method proof_of own what) (child_payloads child ++ window_notices window)
    (λ same. omega (arith, same), (λ same. omega (arith, same), tt))
    (both_clear (child_payloads child) (window_notices window) (child_clear child) (window_clear (nat_lt WINDOW_LEAST window) window))

-- ---- what this end sends

own_spis : (spi_i spi_r : ℕ) → (spi_i == spi_i && spi_r == spi_r) ≡ true
own_spis spi_i spi_r = ap (λ b. b && (spi_r == spi_r)) (eq-eqb spi_i spi_i refl) ∙ eq-eqb spi_r spi_r refl

own_opens : (body_of : Keys → Octets → Octets → Octets → Octets) (plain_of : Opening) (fresh : Octets) (a : Association) (keys : KeyRecord) (exchange number : ℕ) (response : Bool) (payloads : List Payload) (octets : Octets)
    → OpensWhatItSeals body_of plain_of fresh → keys_in a.phase ≡ Some keys → AreWholeKeys keys → AreClear payloads
    → IsSealed body_of (keys_of a.role keys) fresh (record { header = sent_header a.spi_i a.spi_r exchange a.role response number; payloads = payloads }) octets
    → OpensAsMessage plain_of a a.role response number octets
own_opens body_of plain_of fresh a keys exchange number response payloads octets opens are whole clear sealed =
    let m : Message = record { header = sent_header a.spi_i a.spi_r exchange a.role response number; payloads = payloads } in
    let o = opens.again (keys_of a.role keys) m octets (keys_by_role a.role keys whole) clear sealed in
    record {
      message = record { header = m.header; payloads = o.sealed ∷ [] };
      spelled = o.spelled;
      spis = own_spis a.spi_i a.spi_r;
      from_sender = refl;
      is_response = refl;
      number_is = refl;
      keys = keys;
      keyed = are;
      plain = o.plain;
      opened = o.opens;
    }

way_replies : (meaning : Meaning) (setup : Setup) (old : Association) (table : Database) (octets : Octets) (m : Message) (answered : Answered) (new : Association) (new_table : Database)
    → OpensWhatItSeals meaning.body_of meaning.plain_of setup.fresh.seal → HoldsWholeKeys old.phase → Way meaning setup old table octets m (effect.Replied answered) new new_table
    → OpensAsMessage meaning.plain_of old old.role true m.header.id answered.octets
way_replies meaning setup old table octets m answered new new_table opens whole (inl is) =
    let d = is.done in
    let are : keys_in old.phase ≡ Some d.opened.keys = ap keys_in d.was in
    own_opens meaning.body_of meaning.plain_of setup.fresh.seal old d.opened.keys IKE_AUTH m.header.id true (reply_payloads meaning.own_method meaning.proof_of setup d.opened d.decision) answered.octets opens are (whole d.opened.keys are)
    (reply_clear meaning.own_method meaning.proof_of setup d.opened d.decision) d.sealed
way_replies meaning setup old table octets m answered new new_table opens whole (inr (inr is)) =
    let d = is.done in
    let are : keys_in old.phase ≡ Some d.keys = ap keys_in d.established in
    own_opens meaning.body_of meaning.plain_of setup.fresh.seal old d.keys CREATE_CHILD_SA m.header.id true (further_answer (answer_to_further d.decision) setup.fresh.nonce) answered.octets opens are (whole d.keys are)
    (further_answer_clear (answer_to_further d.decision) setup.fresh.nonce) d.sealed
way_replies meaning setup old table octets m answered new new_table opens whole (inr (inl is)) =
    let d = is.done in
    let are : keys_in old.phase ≡ Some d.keys = ap keys_in d.established in
    own_opens meaning.body_of meaning.plain_of setup.fresh.seal old d.keys INFORMATIONAL m.header.id true (payloads_of_verdict (verdict_on table.pairs old.serial d.payloads)) answered.octets opens are (whole d.keys are)
    (verdict_clear (verdict_on table.pairs old.serial d.payloads)) d.sealed

pub replies_open : (meaning : Meaning) (setup : Setup) (old : Association) (table : Database) (octets : Octets) (m : Message) (answered : Answered) (new : Association) (new_table : Database)
    → OpensWhatItSeals meaning.body_of meaning.plain_of setup.fresh.seal → HoldsWholeKeys old.phase → TakesMessage meaning setup old table octets m (effect.Replied answered) new new_table
    → OpensAsMessage meaning.plain_of old old.role true m.header.id answered.octets
replies_open meaning setup old table octets m answered new new_table opens whole is =
    way_replies meaning setup old table octets m answered new new_table opens whole (way_of meaning setup old table octets m (effect.Replied answered) new new_table is)

-- the request of IKE_AUTH: this end knows the responder's SPI from then on
way_identifies : (meaning : Meaning) (setup : Setup) (old : Association) (table : Database) (octets : Octets) (m : Message) (next : Octets) (new : Association) (new_table : Database)
    → OpensWhatItSeals meaning.body_of meaning.plain_of setup.fresh.seal → HoldsWholeKeys new.phase → Way meaning setup old table octets m (effect.AsksAuth next) new new_table
    → OpensAsMessage meaning.plain_of new new.role false 1 next
way_identifies meaning setup old table octets m next new new_table opens whole is =
    let d = is.done in
    let are : keys_in new.phase ≡ Some is.keys = ap (λ (x : Association). keys_in x.phase) d.content in
    let payloads = (identity_message meaning.own_method meaning.proof_of setup old is.sent m.header.spi_r is.keys d.request.octets).payloads in
    let sealed : IsSealed meaning.body_of (keys_of new.role is.keys) setup.fresh.seal (record { header = sent_header new.spi_i new.spi_r IKE_AUTH new.role false 1; payloads = payloads }) next =
    subst (λ (x : Association). IsSealed meaning.body_of (keys_of x.role is.keys) setup.fresh.seal (record { header = sent_header x.spi_i x.spi_r IKE_AUTH x.role false 1; payloads = payloads }) next) (sym d.content) d.sealed in
    own_opens meaning.body_of meaning.plain_of setup.fresh.seal new is.keys IKE_AUTH 1 false payloads next opens are (whole is.keys are)
    (request_clear meaning.own_method meaning.proof_of setup.config.own.identity (proving_of Initiator is.keys d.request.octets) (child_request (asked_of is.sent.child)) setup.config.window) sealed

pub identities_open : (meaning : Meaning) (setup : Setup) (old : Association) (table : Database) (octets : Octets) (m : Message) (next : Octets) (new : Association) (new_table : Database)
    → OpensWhatItSeals meaning.body_of meaning.plain_of setup.fresh.seal → HoldsWholeKeys new.phase → TakesMessage meaning setup old table octets m (effect.AsksAuth next) new new_table
    → OpensAsMessage meaning.plain_of new new.role false 1 next
identities_open meaning setup old table octets m next new new_table opens whole is =
    way_identifies meaning setup old table octets m next new new_table opens whole (way_of meaning setup old table octets m (effect.AsksAuth next) new new_table is)

pub requests_open : (body_of : Keys → Octets → Octets → Octets → Octets) (plain_of : Opening) (setup : Setup) (old : Association) (octets : Octets) (new : Association)
    → OpensWhatItSeals body_of plain_of setup.fresh.seal → HoldsWholeKeys old.phase → SendsRequest body_of setup old octets new
    → OpensAsMessage plain_of new new.role false old.outgoing.next octets
requests_open body_of plain_of setup old octets new opens whole is =
    let are : keys_in old.phase ≡ Some is.keys = ap keys_in is.established in
    let asked = with_outgoing old is.outgoing in
    subst (λ (a : Association). OpensAsMessage plain_of a a.role false old.outgoing.next octets) (sym is.content)
    (own_opens body_of plain_of setup.fresh.seal asked is.keys (exchange_of is.purpose) old.outgoing.next false is.payloads octets opens are (whole is.keys are) is.clear is.sealed)

-- ---- what comes from the peer

not_swapped : (b : Bool) → not b ≡ true → b ≡ false
not_swapped false is = refl
not_swapped true is = absurd cc

peers_flag : (role : Role) (flag : Bool) → sent_by_other role flag ≡ true → flag ≡ is_initiator (other_role role)
peers_flag Initiator flag is = not_swapped flag is
peers_flag Responder flag is = is

-- what opens, under whatever keys there are
opened_keyed : (plain_of : Opening) (a : Association) (keys : Option KeyRecord) (octets : Octets) (m : Message) (plain : Plain) → keys_in a.phase ≡ keys → Spells m octets → has_pair m.header a ≡ true
    → sent_by_other a.role m.header.flags.initiator ≡ true → opened_under plain_of a.role keys octets m.payloads ≡ Some plain
    → OpensAsMessage plain_of a (other_role a.role) m.header.flags.response m.header.id octets
opened_keyed plain_of a None octets m plain are spelled spis from opened = absurd cc
opened_keyed plain_of a (Some keys) octets m plain are spelled spis from opened =
    record {
      message = m;
      spelled = spelled;
      spis = spis;
      from_sender = peers_flag a.role m.header.flags.initiator from;
      is_response = refl;
      number_is = refl;
      keys = keys;
      keyed = are;
      plain = plain;
      opened = opened;
    }

-- one that is no first response has both SPIs
meant_pair : (sent pair response initial spi waiting : Bool) → (sent && (pair || (response && initial && spi && waiting))) ≡ true → (response ≡ false) ⊎ (waiting ≡ false) → (sent ≡ true) × (pair ≡ true)
meant_pair true true response initial spi waiting is not_first = (refl, refl)
meant_pair true false true true true true is (inl less) = absurd cc
meant_pair true false true true true true is (inr less) = absurd cc
meant_pair sent pair response initial spi waiting is not_first = absurd cc

of_meant : (h : Header) (a : Association) → is_meant h a ≡ true → (h.flags.response ≡ false) ⊎ (is_waiting a.phase ≡ false) → (sent_by_other a.role h.flags.initiator ≡ true) × (has_pair h a ≡ true)
of_meant h a meant not_first = meant_pair (sent_by_other a.role h.flags.initiator) (has_pair h a) h.flags.response (h.exchange == IKE_SA_INIT) (a.spi_i == h.spi_i) (is_waiting a.phase) meant not_first

peers_opens : (plain_of : Opening) (a : Association) (octets : Octets) (m : Message) (plain : Plain) (response : Bool) → Spells m octets → is_meant m.header a ≡ true → m.header.flags.response ≡ response
    → (m.header.flags.response ≡ false) ⊎ (is_waiting a.phase ≡ false) → opened_by plain_of a octets m.payloads ≡ Some plain → OpensAsMessage plain_of a (other_role a.role) response m.header.id octets
peers_opens plain_of a octets m plain response spelled meant is not_first opened =
    let both = of_meant m.header a meant not_first in
    subst (λ (b : Bool). OpensAsMessage plain_of a (other_role a.role) b m.header.id octets) is (opened_keyed plain_of a (keys_in a.phase) octets m plain refl spelled both.1 both.0 opened)

pub taken_opens : (meaning : Meaning) (old : Association) (octets : Octets) (m : Message) (e : Effect) (new : Association) → Spells m octets → is_meant m.header old ≡ true
    → PutsIntoEffect meaning.plain_of old octets m e new m.header.id → OpensAsMessage meaning.plain_of old (other_role old.role) false m.header.id octets
taken_opens meaning old octets m e new spelled meant is = peers_opens meaning.plain_of old octets m is.plain false spelled meant is.request (inl is.request) is.opened

-- what a response is that is matched
abbrev pub AnsweringLaw : Type 0
AnsweringLaw = (plain_of : Opening) (a : Association) (octets : Octets) (m : Message) (plain : Plain) → IsReceived plain_of a octets m (Answers plain) → IsAnswering plain_of a octets m plain

answering_opens : (plain_of : Opening) (a : Association) (octets : Octets) (m : Message) (plain : Plain) → Spells m octets → is_meant m.header a ≡ true → is_waiting a.phase ≡ false → IsAnswering plain_of a octets m plain
    → OpensAsMessage plain_of a (other_role a.role) true m.header.id octets
answering_opens plain_of a octets m plain spelled meant not_first is = peers_opens plain_of a octets m plain true spelled meant is.due.response (inr not_first) is.opened

-- only a response is matched
no_further : (informational : Bool) (meaning : Meaning) (setup : Setup) (old : Association) (table : Database) (number : ℕ) (plain : Plain) (ended : Ended) (new : Association) (new_table : Database)
    → DoesAtEstablished informational meaning setup old table number plain (effect.Counted ended) new new_table → ⊥
no_further true meaning setup old table number plain ended new new_table is = is
no_further false meaning setup old table number plain ended new new_table is = is

no_request : (meaning : Meaning) (setup : Setup) (p : Phase) (exchange : ℕ) (old : Association) (table : Database) (number : ℕ) (plain : Plain) (ended : Ended) (new : Association) (new_table : Database)
    → DoesRequest meaning setup p exchange old table number plain (effect.Counted ended) new new_table → ⊥
no_request meaning setup (phase.InitSent sent) exchange old table number plain ended new new_table is = is
no_request meaning setup (phase.AuthSent sent) exchange old table number plain ended new new_table is = is
no_request meaning setup (phase.HalfOpen opened) exchange old table number plain ended new new_table is = is
no_request meaning setup (phase.Established keys) exchange old table number plain ended new new_table is = no_further (exchange == INFORMATIONAL) meaning setup old table number plain ended new new_table is
no_request meaning setup (phase.Closed keys at) exchange old table number plain ended new new_table is = is

record IsCounted (plain_of : Opening) (old : Association) (octets : Octets) (m : Message) : Type 0 where
  plain : Plain
  received : IsReceived plain_of old octets m (Answers plain)

counted_by : (meaning : Meaning) (setup : Setup) (old : Association) (table : Database) (octets : Octets) (m : Message) (r : Reception) (ended : Ended) (new : Association) (new_table : Database)
    → IsReceived meaning.plain_of old octets m r → Does meaning setup old table octets m r (effect.Counted ended) new new_table → IsCounted meaning.plain_of old octets m
counted_by meaning setup old table octets m (Refused fault) ended new new_table received is = absurd is
counted_by meaning setup old table octets m (Repeat reply) ended new new_table received is = absurd is
counted_by meaning setup old table octets m (TakesEffect plain) ended new new_table received is =
    absurd (no_request meaning setup old.phase m.header.exchange old table m.header.id plain ended new new_table is)
counted_by meaning setup old table octets m (Answers plain) ended new new_table received is = record { plain = plain; received = received }
counted_by meaning setup old table octets m AnswersInitial ended new new_table received is = absurd is.0.said

-- no response to IKE_SA_INIT is
way_open : (meaning : Meaning) (setup : Setup) (old : Association) (table : Database) (octets : Octets) (m : Message) (ended : Ended) (new : Association) (new_table : Database)
    → Way meaning setup old table octets m (effect.Counted ended) new new_table → is_waiting old.phase ≡ false
way_open meaning setup old table octets m ended new new_table (inl is) = ap is_waiting is.done.was
way_open meaning setup old table octets m ended new new_table (inr is) = ap is_waiting (counted_later meaning setup old table octets m ended new new_table is).was

pub counted_opens : AnsweringLaw → (meaning : Meaning) (setup : Setup) (old : Association) (table : Database) (octets : Octets) (m : Message) (ended : Ended) (new : Association) (new_table : Database) → Spells m octets → is_meant m.header old ≡ true
    → TakesMessage meaning setup old table octets m (effect.Counted ended) new new_table → OpensAsMessage meaning.plain_of old (other_role old.role) true m.header.id octets
counted_opens law meaning setup old table octets m ended new new_table spelled meant is =
    let c = counted_by meaning setup old table octets m is.reception ended new new_table is.received is.done in
    answering_opens meaning.plain_of old octets m c.plain spelled meant
    (way_open meaning setup old table octets m ended new new_table (way_of meaning setup old table octets m (effect.Counted ended) new new_table is))
    (law meaning.plain_of old octets m c.plain c.received)
