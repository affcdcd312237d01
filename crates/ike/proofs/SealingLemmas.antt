-- What a step sends under keys it seals, and tells no wider window than this end is set to; and at which
-- IKE SA a message was taken.
use Rattle.std.proofs.Common.{◌≡◌, ◌⊎◌, ◌<◌, ◌≤◌, ◌==◌, ℕ, zero, suc, Bool, true, false, List, [], ◌∷◌, Option, Some, None, Result, Ok, Err, length, slice_get, slice_set, cond, inl, inr, refl, sym, ap, subst, ◌∙◌, arith}
use Rattle.std.specs.Prelude.{option_and_then}
use Rattle.std.specs.List.{find, position}
use Rattle.std.proofs.lemmas.Bool.{eq-eqb, ne_eqb}
use Rattle.std.proofs.lemmas.List.Quantifiers.{position-Some}
use Rattle.std.proofs.lemmas.Option.{slice_get-get_or}
use Rattle.base.specs.Octets.{Octets}
use Rattle.wire.specs.Messages.{Spells}
use Rattle.wire.specs.Numbers.{CREATE_CHILD_SA, IKE_AUTH, INFORMATIONAL}
use Rattle.wire.specs.declared.fault.WireFault.{WireFault}
use Rattle.wire.specs.declared.message.Message.{Message}
use Rattle.wire.specs.declared.payload.Payload.{Payload}
use Rattle.policy.specs.declared.entry.Entry.{Entry}
use Rattle.suite.specs.declared.key_record.KeyRecord.{KeyRecord}
use Rattle.suite.specs.declared.keys.Keys.{Keys}
use Rattle.exchange.specs.Headers.{keys_of, sent_header}
use Rattle.exchange.specs.Notices.{payload_of_notice}
use Rattle.exchange.specs.Sealed.{IsSealed}
use Rattle.exchange.specs.declared.notices.Notice.{Notice}
use Rattle.exchange.specs.declared.notices.Notice.TheVariants as notice
use Rattle.exchange.specs.declared.sealed.Plain.{Plain}
use Rattle.sadb.specs.Database.{Database}
use Rattle.sa_init.specs.Cookies.{CookieSecrets}
use Rattle.sa_init.specs.Judging.{Accepted, Answered, Full, Incomplete, JudgementView}
use Rattle.sa_init.specs.declared.response.Response.{Response}
use Rattle.sa_init.specs.declared.response.Response.TheVariants as answer
use Rattle.association.specs.Finding.{place_meant}
use Rattle.association.specs.Phases.{keys_in}
use Rattle.association.specs.Receiving.{AnswersInitial, Answers, Reception, Refused, Repeat, TakesEffect}
use Rattle.association.specs.declared.fault.MessageFault.{MessageFault}
use Rattle.association.specs.declared.phase.Association.{Association}
use Rattle.association.specs.declared.phase.Phase.{Phase}
use Rattle.association.specs.declared.phase.Phase.TheVariants as phase
use Rattle.association.specs.AskedChildren.{asked_of}
use Rattle.association.specs.declared.phase.HalfOpen.{HalfOpen}
use Rattle.association.specs.declared.phase.InitSent.{InitSent}
use Rattle.auth.specs.Answers.{auth_answer}
use Rattle.auth.specs.Proofs.{proving_of, ProvingView}
use Rattle.auth.specs.Requests.{auth_request}
use Rattle.auth.specs.Windows.{peer_window, window_notices, IsWindow}
use Rattle.exchange.specs.declared.child.ChildAnswer.{ChildAnswer}
use Rattle.exchange.specs.declared.child.ChildAnswer.TheVariants as child
use Rattle.base.specs.declared.selector.Selector.{Selector}
use Rattle.create_child.specs.Asking.{wanted}
use Rattle.deletions.specs.Answering.{deletion_if_any, payloads_of_verdict}
use Rattle.deletions.specs.Deciding.{verdict_on}
use Rattle.deletions.specs.declared.deciding.Verdict.{Verdict}
use Rattle.deletions.specs.declared.deciding.Verdict.TheVariants as verdict
use Rattle.further.specs.Answering.{answer_to_further, further_answer}
use Rattle.further.specs.Payloads.{further_payloads}
use Rattle.association.specs.Sending.{request_message, reply_message}
use Rattle.informational.specs.Ordering.{payloads_of_order}
use Rattle.informational.specs.declared.ordering.Order.{Order}
use Rattle.informational.specs.declared.ordering.Order.TheVariants as asked
use Rattle.auth.specs.declared.identity.Identity.{Identity}
use Rattle.children.specs.Asking.{child_request}
use Rattle.exchange.specs.declared.child.ChildPayloads.{ChildPayloads}
use Rattle.exchange.specs.declared.headers.Role.TheVariants.{Initiator}
use Rattle.initial.specs.Answering.{child_answer, reply_payloads}
use Rattle.setup.specs.Configs.{Setup}
use Rattle.initial.specs.Deciding.{own_proving}
use Rattle.initial.specs.Reading.{identity_message, Continues}
use Rattle.association.specs.declared.outcome.Answered as answering
use Rattle.initial.specs.declared.deciding.Decision.{Decision}
use Rattle.initial.specs.declared.deciding.Decision.TheVariants as decision
use Rattle.initial.specs.declared.reading.Continued.{Continued}
use Rattle.initial.specs.declared.reading.Continued.TheVariants as continued
use Rattle.effects.specs.Taking.{asked_further, asker_of, Does, DoesAnswer, DoesAtEstablished, DoesRequest, DoesResponse, Meaning, Says, TakesMessage}
use Rattle.effects.specs.declared.taking.Effect.{Effect}
use Rattle.effects.specs.declared.taking.Effect.TheVariants as effect
use Rattle.ike.specs.Asking.{AsksAt, AsksFor, AsksFurther, AsksThat}
use Rattle.ike.specs.Machines.{association_of, has_serial, keys_of_serial, setup_at, Held, Machine}
use Rattle.ike.specs.Outputs.{closed_serial, octets_in, passed_over, plain_step, stepped_of}
use Rattle.ike.specs.Receiving.{is_answered, is_initial_request, is_sound_initial, DoesJudgement, TakesDatagram, TakesFound, TakesRead, TakesRequestAt, TakesSound}
use Rattle.ike.specs.Sealing.{GoesOutUnderKeys, IsRepeatedOrSealed, SealsNow, TakenBy, TellsOfMessageAt}
use Rattle.ike.specs.Soundness.{AreSound, IsSoundMachine}
use Rattle.ike.specs.Steps as ike
use Rattle.ike.specs.Orders.{OrderView}
use Rattle.ike.specs.Orders as orders
use Rattle.ike.specs.declared.fault.IkeFault.TheVariants as fault
use Rattle.ike.specs.declared.output.IkeOutput.{IkeOutput}
use Rattle.ike.specs.declared.output.IkeOutput.TheVariants as output
use Rattle.ike.specs.declared.output.Mark as marks
use Rattle.ike.specs.declared.output.Stepped.{Stepped}
use Rattle.association.specs.Outcomes.{closed_by, made_by}

some_is : {T : Type 0} (x y : T) → Some x ≡ Some y → x ≡ y
some_is {T} x y is = cc

none_some : {T : Type 0} (x : T) → None ≡ Some x → ⊥
none_some {T} x is = cc

-- ---- the IKE SA at a place is that of its serial

module _ (serial : ℕ) where
  found_there : (xs : List Association) (place : ℕ) (a : Association) → slice_get xs place ≡ Some a → has_serial serial a ≡ true
      → ((k : ℕ) (b : Association) → k < place → slice_get xs k ≡ Some b → has_serial serial b ≡ false) → find (has_serial serial) xs ≡ Some a
  found_there [] place a there is before = absurd cc
  found_there (x ∷ xs) zero a there is before =
      let same : x ≡ a = some_is x a there in
      ap (λ (b : Bool). cond b (Some x) (find (has_serial serial) xs)) (ap (has_serial serial) same ∙ is) ∙ there
  found_there (x ∷ xs) (suc place) a there is before =
      ap (λ (b : Bool). cond b (Some x) (find (has_serial serial) xs)) (before 0 x (omega arith) refl)
      ∙ found_there xs place a there is (λ k b less at. before (suc k) b (omega (arith, less)) at)

  found_set : (xs : List Association) (place : ℕ) (a b : Association) → slice_get xs place ≡ Some a → has_serial serial b ≡ true
      → ((k : ℕ) (c : Association) → k < place → slice_get xs k ≡ Some c → has_serial serial c ≡ false) → find (has_serial serial) (slice_set xs place b) ≡ Some b
  found_set [] place a b there is before = absurd cc
  found_set (x ∷ xs) zero a b there is before = ap (λ (t : Bool). cond t (Some b) (find (has_serial serial) xs)) is
  found_set (x ∷ xs) (suc place) a b there is before =
      ap (λ (t : Bool). cond t (Some x) (find (has_serial serial) (slice_set xs place b))) (before 0 x (omega arith) refl)
      ∙ found_set xs place a b there is (λ k c less at. before (suc k) c (omega (arith, less)) at)

none_before : (held : Held) (table : Database) (place : ℕ) (a : Association) → AreSound held table → slice_get held.associations place ≡ Some a
    → (k : ℕ) (b : Association) → k < place → slice_get held.associations k ≡ Some b → has_serial a.serial b ≡ false
none_before held table place a sound there k b less at =
    let rising = (sound.apart k place b a less at there).rising in
    ne_eqb b.serial a.serial (λ same. absurd (omega (arith, rising, same)))

at_serial : (held : Held) (table : Database) (place : ℕ) (a : Association) → AreSound held table → slice_get held.associations place ≡ Some a → association_of a.serial held.associations ≡ Some a
at_serial held table place a sound there = found_there a.serial held.associations place a there (eq-eqb a.serial a.serial refl) (none_before held table place a sound there)

set_serial : (held : Held) (table : Database) (place : ℕ) (a b : Association) → AreSound held table → slice_get held.associations place ≡ Some a → b.serial ≡ a.serial
    → association_of a.serial (slice_set held.associations place b) ≡ Some b
set_serial held table place a b sound there same = found_set a.serial held.associations place a b there (eq-eqb b.serial a.serial same) (none_before held table place a sound there)

first_there : (serial : ℕ) (xs : List Association) (place : ℕ) (a : Association) → position (has_serial serial) xs ≡ Some place → slice_get xs place ≡ Some a → association_of serial xs ≡ Some a
first_there serial xs place a first there =
    let by = position-Some (has_serial serial) xs place a first in
    found_there serial xs place a there
    (ap (has_serial serial) (some_is a _ (sym there ∙ slice_get-get_or xs place a by.0)) ∙ by.1)
    (λ k b less at.
    let within : k < length xs = (let most = by.0 in omega (arith, less, most)) in
    ap (has_serial serial) (some_is b _ (sym at ∙ slice_get-get_or xs k a within)) ∙ by.2 k less)

-- ---- the window that payloads tell

notice_tells : (n : Notice) → peer_window (payload_of_notice n ∷ []) ≡ 1
notice_tells (notice.UnsupportedCriticalPayload kind) = refl
notice_tells notice.InvalidSyntax = refl
notice_tells notice.NoProposalChosen = refl
notice_tells notice.AuthenticationFailed = refl
notice_tells notice.NoAdditionalSas = refl
notice_tells notice.TsUnacceptable = refl
notice_tells (notice.Cookie octets) = refl

-- what is known of windows that are told
pub record WindowLaws : Type 0 where
  pub told : (window : ℕ) → IsWindow window → peer_window (window_notices window) ≡ window
  pub answer : (own_method : ℕ) (proof_of : Octets → Octets) (own : Identity) (what : ProvingView) (child : ChildAnswer) (window : ℕ) → IsWindow window
      → peer_window (auth_answer own_method proof_of own what child window) ≡ window
  pub bounds : (payloads : List Payload) → IsWindow (peer_window payloads)

reply_tells : WindowLaws → (own_method : ℕ) (proof_of : Octets → Octets) (setup : Setup) (opened : HalfOpen) (d : Decision) → IsWindow setup.config.window
    → peer_window (reply_payloads own_method proof_of setup opened d) ≤ setup.config.window
reply_tells laws own_method proof_of setup opened (decision.Refused n) is =
    let one = notice_tells n in
    let least = is.least in
    omega (arith, one, least)
reply_tells laws own_method proof_of setup opened (decision.Accepted response window) is =
    let own = laws.answer own_method proof_of setup.config.own.identity (own_proving opened) (child_answer response) setup.config.window is in
    omega (arith, own)

request_tells : WindowLaws → (own_method : ℕ) (proof_of : Octets → Octets) (own : Identity) (what : ProvingView) (child : ChildPayloads) (window : ℕ) → IsWindow window
    → peer_window (auth_request own_method proof_of own what child window) ≤ window
request_tells laws own_method proof_of own what child window is =
    let same : peer_window (auth_request own_method proof_of own what child window) ≡ peer_window (window_notices window) = refl in
    let own_is = laws.told window is in
    omega (arith, same, own_is)

-- ---- what a step seals

keys_there : (serial : ℕ) (associations : List Association) (a : Association) (keys : KeyRecord) → association_of serial associations ≡ Some a → keys_in a.phase ≡ Some keys → keys_of_serial serial associations ≡ Some keys
keys_there serial associations a keys there keyed = ap (λ (o : Option Association). option_and_then (λ x. keys_in x.phase) o) there ∙ keyed

-- a request at an established IKE SA
order_seals : (body_of : Keys → Octets → Octets → Octets → Octets) (setup : Setup) (serial : ℕ) (old : Held) (stepped : Stepped) (new : Held) (m : marks.Mark) (octets : Octets)
    → (is : AsksAt body_of setup serial old stepped new) (keys : KeyRecord) → is.association.phase ≡ phase.Established keys → (exchange : ℕ) (payloads : List Payload)
    → IsSealed body_of (keys_of is.association.role keys) setup.fresh.seal (request_message is.association exchange is.association.outgoing.next payloads) is.octets → peer_window payloads ≤ setup.config.window
    → stepped.trace.sent ≡ Some m → octets_in stepped.output ≡ Some octets → SealsNow body_of old new setup.config.window setup.fresh m octets
order_seals body_of setup serial old stepped new m octets is keys established exchange payloads sealed tells named said =
    let a = is.association in
    let own : marks.Mark = record { ike = serial; response = false; number = a.outgoing.next } in
    let mark_is : own ≡ m = some_is own m (sym (ap (λ (x : Stepped). x.trace.sent) is.said) ∙ named) in
    let octets_is : is.octets ≡ octets = some_is is.octets octets (sym (ap (λ (x : Stepped). octets_in x.output) is.said) ∙ said) in
    let sealing : SealsNow body_of old new setup.config.window setup.fresh own is.octets = record {
      keys = keys;
      keyed = inl (keys_there serial old.associations a keys (first_there serial old.associations is.place a is.first is.there) (ap keys_in established));
      role = a.role;
      spi_i = a.spi_i;
      spi_r = a.spi_r;
      exchange = exchange;
      payloads = payloads;
      sealed = sealed;
      tells = tells;
    } in
    subst (λ (x : marks.Mark). SealsNow body_of old new setup.config.window setup.fresh x octets) mark_is
    (subst (λ (o : Octets). SealsNow body_of old new setup.config.window setup.fresh own o) octets_is sealing)

order_tells : (order : Order) → peer_window (payloads_of_order order) ≡ 1
order_tells asked.Probe = refl
order_tells (asked.DeleteChild child spi) = refl
order_tells asked.DeleteAssociation = refl

deletion_tells : (spis : List ℕ) → peer_window (deletion_if_any spis) ≡ 1
deletion_tells [] = refl
deletion_tells (spi ∷ others) = refl

verdict_tells : (v : Verdict) → peer_window (payloads_of_verdict v) ≡ 1
verdict_tells verdict.BadSyntax = refl
verdict_tells (verdict.Unsupported kind) = refl
verdict_tells verdict.Closes = refl
verdict_tells (verdict.Deletes deleted) = deletion_tells deleted.inbound_spis

further_tells : (child : ChildAnswer) (nonce : Octets) → peer_window (further_answer child nonce) ≡ 1
further_tells (child.Payloads payloads) nonce = refl
further_tells (child.Notice n) nonce = notice_tells n

one_within : (payloads : List Payload) (window : ℕ) → IsWindow window → peer_window payloads ≡ 1 → peer_window payloads ≤ window
one_within payloads window is one = (let least = is.least in omega (arith, one, least))

that_seals : (body_of : Keys → Octets → Octets → Octets → Octets) (setup : Setup) (serial : ℕ) (order : Order) (old : Held) (table : Database) (stepped : Stepped) (new : Held) (new_table : Database) (m : marks.Mark) (octets : Octets)
    → IsWindow setup.config.window → AsksThat body_of setup serial order old table stepped new new_table → stepped.trace.sent ≡ Some m → octets_in stepped.output ≡ Some octets → SealsNow body_of old new setup.config.window setup.fresh m octets
that_seals body_of setup serial order old table stepped new new_table m octets window is named said =
    order_seals body_of setup serial old stepped new m octets is.asks is.ordered.keys is.ordered.established INFORMATIONAL (payloads_of_order order) is.ordered.sealed
    (one_within (payloads_of_order order) setup.config.window window (order_tells order)) named said

ordered_seals : (body_of : Keys → Octets → Octets → Octets → Octets) (setup : Setup) (what : OrderView) (old : Held) (table : Database) (stepped : Stepped) (new : Held) (new_table : Database) (m : marks.Mark) (octets : Octets)
    → IsWindow setup.config.window → AsksFor body_of setup what old table stepped new new_table → stepped.trace.sent ≡ Some m → octets_in stepped.output ≡ Some octets → SealsNow body_of old new setup.config.window setup.fresh m octets
ordered_seals body_of setup (orders.Probe serial) old table stepped new new_table m octets window is named said = that_seals body_of setup serial _ old table stepped new new_table m octets window is named said
ordered_seals body_of setup (orders.DeleteChild child) old table stepped new new_table m octets window is named said = that_seals body_of setup is.pair.ike _ old table stepped new new_table m octets window is.asks named said
ordered_seals body_of setup (orders.DeleteIke serial) old table stepped new new_table m octets window is named said = that_seals body_of setup serial _ old table stepped new new_table m octets window is named said

further_seals : (body_of : Keys → Octets → Octets → Octets → Octets) (setup : Setup) (serial : ℕ) (local remote : Selector) (old : Held) (table : Database) (stepped : Stepped) (new : Held) (new_table : Database) (m : marks.Mark) (octets : Octets)
    → IsWindow setup.config.window → AsksFurther body_of setup serial local remote old table stepped new new_table → stepped.trace.sent ≡ Some m → octets_in stepped.output ≡ Some octets
    → SealsNow body_of old new setup.config.window setup.fresh m octets
further_seals body_of setup serial local remote old table stepped new new_table m octets window is named said =
    let payloads = further_payloads (child_request (asked_of (wanted setup is.further.spi local remote).child)) setup.fresh.nonce in
    order_seals body_of setup serial old stepped new m octets is.asks is.further.keys is.further.established CREATE_CHILD_SA payloads is.further.sealed (one_within payloads setup.config.window window refl) named said

-- a reply to a message, which puts its request into effect
module _ (laws : WindowLaws) (meaning : Meaning) (setup : Setup) (window_is : IsWindow setup.config.window) (a : Association) (table : Database) (octets : Octets) (m : Message) (new : Association) (new_table : Database) where
  record RepliesSealed (reply : Octets) : Type 0 where
    keys : KeyRecord
    keyed : keys_in a.phase ≡ Some keys
    exchange : ℕ
    payloads : List Payload
    sealed : IsSealed meaning.body_of (keys_of a.role keys) setup.fresh.seal (reply_message a exchange m.header.id payloads) reply
    tells : peer_window payloads ≤ setup.config.window

  established_seals : (informational : Bool) (plain : Plain) (answered : answering.Answered) → DoesAtEstablished informational meaning setup a table m.header.id plain (effect.Replied answered) new new_table → RepliesSealed answered.octets
  established_seals true plain answered is = record {
    keys = is.keys;
    keyed = ap keys_in is.established;
    exchange = INFORMATIONAL;
    payloads = payloads_of_verdict (verdict_on table.pairs a.serial is.payloads);
    sealed = is.sealed;
    tells = one_within (payloads_of_verdict (verdict_on table.pairs a.serial is.payloads)) setup.config.window window_is (verdict_tells (verdict_on table.pairs a.serial is.payloads));
  }
  established_seals false plain answered is = record {
    keys = is.keys;
    keyed = ap keys_in is.established;
    exchange = CREATE_CHILD_SA;
    payloads = further_answer (answer_to_further is.decision) setup.fresh.nonce;
    sealed = is.sealed;
    tells = one_within (further_answer (answer_to_further is.decision) setup.fresh.nonce) setup.config.window window_is (further_tells (answer_to_further is.decision) setup.fresh.nonce);
  }

  request_seals : (p : Phase) (plain : Plain) (answered : answering.Answered) → DoesRequest meaning setup p m.header.exchange a table m.header.id plain (effect.Replied answered) new new_table → RepliesSealed answered.octets
  request_seals (phase.HalfOpen opened) plain answered is = record {
    keys = is.opened.keys;
    keyed = ap keys_in is.was;
    exchange = IKE_AUTH;
    payloads = reply_payloads meaning.own_method meaning.proof_of setup is.opened is.decision;
    sealed = is.sealed;
    tells = reply_tells laws meaning.own_method meaning.proof_of setup is.opened is.decision window_is;
  }
  request_seals (phase.Established keys) plain answered is = established_seals (m.header.exchange == INFORMATIONAL) plain answered is
  request_seals (phase.InitSent sent) plain answered is = absurd is
  request_seals (phase.AuthSent sent) plain answered is = absurd is
  request_seals (phase.Closed keys at) plain answered is = absurd is

  answer_not : (asked : Bool) (plain : Plain) (answered : answering.Answered) → DoesAnswer asked setup a table m.header.id plain (effect.Replied answered) new new_table → ⊥
  answer_not true plain answered is = is
  answer_not false plain answered is = is

  response_not : (p : Phase) (plain : Plain) (answered : answering.Answered) → DoesResponse meaning setup p a table m.header.id plain (effect.Replied answered) new new_table → ⊥
  response_not (phase.AuthSent sent) plain answered is = is
  response_not (phase.Established keys) plain answered is = answer_not (asked_further a m.header.id) plain answered is
  response_not (phase.InitSent sent) plain answered is = is
  response_not (phase.HalfOpen opened) plain answered is = is
  response_not (phase.Closed keys at) plain answered is = is

  initial_not : (c : Continued) (answered : answering.Answered) → Says (effect.Replied answered) c → ⊥
  initial_not (continued.Again next) answered is = is
  initial_not (continued.AsksAuth next) answered is = is
  initial_not continued.Unfit answered is = is

  reply_seals : (r : Reception) (answered : answering.Answered) → Does meaning setup a table octets m r (effect.Replied answered) new new_table → RepliesSealed answered.octets
  reply_seals (Refused fault) answered is = absurd is
  reply_seals (Repeat reply) answered is = absurd is
  reply_seals (TakesEffect plain) answered is = request_seals a.phase plain answered is
  reply_seals (Answers plain) answered is = absurd (response_not a.phase plain answered is)
  reply_seals AnswersInitial answered is = absurd (initial_not is.0.continued answered is.0.said)

  -- ---- the request of IKE_AUTH, which goes out as the keys come

  record AsksSealed (next : Octets) : Type 0 where
    keys : KeyRecord
    serial_is : new.serial ≡ a.serial
    keyed : keys_in new.phase ≡ Some keys
    payloads : List Payload
    sealed : IsSealed meaning.body_of (keys_of a.role keys) setup.fresh.seal (record { header = sent_header a.spi_i m.header.spi_r IKE_AUTH a.role false 1; payloads = payloads }) next
    tells : peer_window payloads ≤ setup.config.window

  continues_seals : (sent : InitSent) (r : Response) (c : Continued) (next : Octets) → Says (effect.AsksAuth next) c → Continues (asker_of meaning) setup a sent m.header.id m octets r c new → AsksSealed next
  continues_seals sent (answer.Keys keys) (continued.AsksAuth given) next same is = record {
    keys = keys;
    serial_is = ap (λ (x : Association). x.serial) is.content;
    keyed = ap (λ (x : Association). keys_in x.phase) is.content;
    payloads = auth_request meaning.own_method meaning.proof_of setup.config.own.identity (proving_of Initiator keys is.request.octets) (child_request (asked_of sent.child)) setup.config.window;
    sealed = subst (λ (o : Octets). IsSealed meaning.body_of (keys_of a.role keys) setup.fresh.seal (identity_message meaning.own_method meaning.proof_of setup a sent m.header.spi_r keys is.request.octets) o) (sym same) is.sealed;
    tells = request_tells laws meaning.own_method meaning.proof_of setup.config.own.identity (proving_of Initiator keys is.request.octets) (child_request (asked_of sent.child)) setup.config.window window_is;
  }
  continues_seals sent (answer.Cookie cookie) (continued.AsksAuth given) next same is = absurd is
  continues_seals sent answer.Unfit (continued.AsksAuth given) next same is = absurd is
  continues_seals sent r (continued.Again given) next same is = absurd same
  continues_seals sent r continued.Unfit next same is = absurd same

  asks_not_established : (informational : Bool) (plain : Plain) (next : Octets) → DoesAtEstablished informational meaning setup a table m.header.id plain (effect.AsksAuth next) new new_table → ⊥
  asks_not_established true plain next is = is
  asks_not_established false plain next is = is

  asks_not_request : (p : Phase) (plain : Plain) (next : Octets) → DoesRequest meaning setup p m.header.exchange a table m.header.id plain (effect.AsksAuth next) new new_table → ⊥
  asks_not_request (phase.HalfOpen opened) plain next is = is
  asks_not_request (phase.Established keys) plain next is = asks_not_established (m.header.exchange == INFORMATIONAL) plain next is
  asks_not_request (phase.InitSent sent) plain next is = is
  asks_not_request (phase.AuthSent sent) plain next is = is
  asks_not_request (phase.Closed keys at) plain next is = is

  asks_not_answer : (asked : Bool) (plain : Plain) (next : Octets) → DoesAnswer asked setup a table m.header.id plain (effect.AsksAuth next) new new_table → ⊥
  asks_not_answer true plain next is = is
  asks_not_answer false plain next is = is

  asks_not_response : (p : Phase) (plain : Plain) (next : Octets) → DoesResponse meaning setup p a table m.header.id plain (effect.AsksAuth next) new new_table → ⊥
  asks_not_response (phase.AuthSent sent) plain next is = is
  asks_not_response (phase.Established keys) plain next is = asks_not_answer (asked_further a m.header.id) plain next is
  asks_not_response (phase.InitSent sent) plain next is = is
  asks_not_response (phase.HalfOpen opened) plain next is = is
  asks_not_response (phase.Closed keys at) plain next is = is

  auth_seals : (r : Reception) (next : Octets) → Does meaning setup a table octets m r (effect.AsksAuth next) new new_table → AsksSealed next
  auth_seals (Refused fault) next is = absurd is
  auth_seals (Repeat reply) next is = absurd is
  auth_seals (TakesEffect plain) next is = absurd (asks_not_request a.phase plain next is)
  auth_seals (Answers plain) next is = absurd (asks_not_response a.phase plain next is)
  auth_seals AnswersInitial next is = continues_seals is.0.read.sent is.0.read.response is.0.continued next is.0.said is.0.read.continues

-- ---- by a datagram

module _ (laws : WindowLaws) (meaning : Meaning) (setup : Setup) (window_is : IsWindow setup.config.window) (cookies : CookieSecrets) (from octets : Octets) (m : Message) (old : Held) (table : Database) (sound : AreSound old table)
    (stepped : Stepped) (new : Held) (new_table : Database) (mark : marks.Mark) (sent : Octets) (named : stepped.trace.sent ≡ Some mark) (said : octets_in stepped.output ≡ Some sent) where
  abbrev IsSent : Type 0
  IsSent = IsRepeatedOrSealed meaning.body_of old new setup.config.window setup.fresh mark stepped.output sent

  none_sent : (o : IkeOutput) → stepped ≡ plain_step o → IsSent
  none_sent o is = absurd (none_some mark (sym (ap (λ (x : Stepped). x.trace.sent) is) ∙ named))

  unmarked : stepped.trace.sent ≡ None → IsSent
  unmarked none = absurd (none_some mark (sym none ∙ named))

  effect_goes : (at : Association) (place : ℕ) (there : slice_get old.associations place ≡ Some at) (changed : Association) (e : Effect) (r : Reception) → stepped ≡ stepped_of at.serial m.header.id e
      → Does meaning setup at table octets m r e changed new_table → new ≡ record old { associations = slice_set old.associations place changed } → IsSent
  effect_goes at place there changed (effect.Refused f) r is does content = none_sent _ is
  effect_goes at place there changed (effect.Again next) r is does content = none_sent _ is
  effect_goes at place there changed (effect.Counted ended) r is does content = unmarked (ap (λ (x : Stepped). x.trace.sent) is)
  effect_goes at place there changed (effect.Repeated reply) r is does content =
      let same : reply ≡ sent = some_is reply sent (sym (ap (λ (x : Stepped). octets_in x.output) is) ∙ said) in
      inl (ap (λ (x : Stepped). x.output) is ∙ ap (λ (o : Octets). output.Repeat o) same)
  effect_goes at place there changed (effect.Replied answered) r is does content =
      let by = reply_seals laws meaning setup window_is at table octets m changed new_table r answered does in
      let mark_is : record { ike = at.serial; response = true; number = m.header.id } ≡ mark = some_is _ mark (sym (ap (λ (x : Stepped). x.trace.sent) is) ∙ named) in
      let same : answered.octets ≡ sent = some_is answered.octets sent (sym (ap (λ (x : Stepped). octets_in x.output) is) ∙ said) in
      inr (subst (λ (x : marks.Mark). SealsNow meaning.body_of old new setup.config.window setup.fresh x sent) mark_is
      (subst (λ (o : Octets). SealsNow meaning.body_of old new setup.config.window setup.fresh (record { ike = at.serial; response = true; number = m.header.id }) o) same (record {
        keys = by.keys;
        keyed = inl (keys_there at.serial old.associations at by.keys (at_serial old table place at sound there) by.keyed);
        role = at.role;
        spi_i = at.spi_i;
        spi_r = at.spi_r;
        exchange = by.exchange;
        payloads = by.payloads;
        sealed = by.sealed;
        tells = by.tells;
      })))
  effect_goes at place there changed (effect.AsksAuth next) r is does content =
      let by = auth_seals laws meaning setup window_is at table octets m changed new_table r next does in
      let mark_is : record { ike = at.serial; response = false; number = 1 } ≡ mark = some_is _ mark (sym (ap (λ (x : Stepped). x.trace.sent) is) ∙ named) in
      let same : next ≡ sent = some_is next sent (sym (ap (λ (x : Stepped). octets_in x.output) is) ∙ said) in
      let stands : association_of at.serial new.associations ≡ Some changed =
      ap (λ (h : Held). association_of at.serial h.associations) content ∙ set_serial old table place at changed sound there by.serial_is in
      inr (subst (λ (x : marks.Mark). SealsNow meaning.body_of old new setup.config.window setup.fresh x sent) mark_is
      (subst (λ (o : Octets). SealsNow meaning.body_of old new setup.config.window setup.fresh (record { ike = at.serial; response = false; number = 1 }) o) same (record {
        keys = by.keys;
        keyed = inr (keys_there at.serial new.associations changed by.keys stands by.keyed);
        role = at.role;
        spi_i = at.spi_i;
        spi_r = m.header.spi_r;
        exchange = IKE_AUTH;
        payloads = by.payloads;
        sealed = by.sealed;
        tells = by.tells;
      })))

  judgement_goes : (j : JudgementView) → DoesJudgement meaning setup m.header.spi_i octets j old stepped new → IsSent
  judgement_goes (Answered n) is = none_sent _ is.0.said
  judgement_goes Incomplete is = none_sent _ is.said
  judgement_goes Full is = none_sent _ is.said
  judgement_goes (Accepted offer) is = elim is.done [
    | inl refused ↦ none_sent _ refused.1.said
    | inr admits ↦ unmarked (ap (λ (x : Stepped). x.trace.sent) admits.said)
  ]

  initial_goes : (o : Option ℕ) → TakesRequestAt o meaning setup cookies from octets m old stepped new → IsSent
  initial_goes (Some place) is = none_sent _ is.0.said
  initial_goes None is = judgement_goes is.judgement is.done

  sound_goes : (b : Bool) → TakesSound b meaning setup cookies from octets m old stepped new → IsSent
  sound_goes true is = initial_goes (position (is_answered octets) old.associations) is
  sound_goes false is = none_sent _ is.said

  found_goes : (r : Result ℕ MessageFault) → TakesFound r meaning setup octets m old table stepped new new_table → IsSent
  found_goes (Ok place) is = effect_goes is.association place is.there is.changed is.effect is.takes.reception is.said is.takes.done is.content
  found_goes (Err f) is = none_sent _ is.0.said

  read_goes : (b : Bool) → TakesRead b meaning setup cookies from octets m old table stepped new new_table → IsSent
  read_goes true is = sound_goes (is_sound_initial m.header) is.0
  read_goes false is = found_goes (place_meant m.header old.associations) is

-- ---- by any step

pub step_goes : (laws : WindowLaws) (meaning : Meaning) (entries : List Entry) (view : ike.InputView) (old : Machine) (table : Database) (stepped : Stepped) (new : Machine) (new_table : Database)
    → IsSoundMachine old table → ike.Steps meaning entries view old table stepped new new_table → (mark : marks.Mark) (sent : Octets) → stepped.trace.sent ≡ Some mark → octets_in stepped.output ≡ Some sent
    → GoesOutUnderKeys meaning.body_of view old.held new.held old.config.window mark stepped.output sent
step_goes laws meaning entries (ike.Message from octets fresh) old table stepped new new_table sound steps mark sent named said = record {
  fresh = fresh;
  own = refl;
  goes = elim steps.1 [
    | inl fails ↦ absurd (none_some mark (sym (ap (λ (x : Stepped). x.trace.sent) fails.passed.said) ∙ named))
    | inr reads ↦ read_goes laws meaning (setup_at old entries fresh) sound.config.window old.cookies from octets reads.message old.held table sound.held stepped new.held new_table mark sent named said
        (is_initial_request reads.message.header) reads.done
  ];
}
step_goes laws meaning entries (ike.Start None place fresh) old table stepped new new_table sound steps mark sent named said =
    absurd (none_some mark (sym (ap (λ (x : Stepped). x.trace.sent) steps.1.done.said) ∙ named))
step_goes laws meaning entries (ike.Start (Some serial) place fresh) old table stepped new new_table sound steps mark sent named said =
    record { fresh = fresh; own = refl; goes = inr (further_seals meaning.body_of (setup_at old entries fresh) serial _ _ old.held table stepped new.held new_table mark sent sound.config.window steps.1.asks named said) }
step_goes laws meaning entries (ike.Order what fresh) old table stepped new new_table sound steps mark sent named said =
    record { fresh = fresh; own = refl; goes = inr (ordered_seals meaning.body_of (setup_at old entries fresh) what old.held table stepped new.held new_table mark sent sound.config.window steps.1 named said) }
step_goes laws meaning entries (ike.Secret secret) old table stepped new new_table sound steps mark sent named said =
    absurd (none_some mark (sym (ap (λ (x : Stepped). x.trace.sent) steps.said) ∙ named))
step_goes laws meaning entries (ike.Tick moment) old table stepped new new_table sound steps mark sent named said =
    absurd (none_some mark (sym (ap (λ (x : Stepped). x.trace.sent) steps.takes.said) ∙ named))

-- ---- the IKE SA that a message was taken by

module _ (meaning : Meaning) (setup : Setup) (cookies : CookieSecrets) (from octets : Octets) (m : Message) (spelled : Spells m octets) (old : Held) (table : Database) (sound : AreSound old table)
    (stepped : Stepped) (new : Held) (new_table : Database) (serial : ℕ) (told : TellsOfMessageAt stepped serial) where
  abbrev IsTaken : Type 0
  IsTaken = TakenBy meaning setup octets old table new new_table serial

  -- of what is matched, or marked, nothing else is said
  abbrev SaysOther : IkeOutput → Type 0
  SaysOther (output.Counted serial child closed) = ⊥
  SaysOther o = Unit {0}

  counted_not : (o : IkeOutput) (child closed : Option ℕ) → SaysOther o → o ≡ output.Counted serial child closed → ⊥
  counted_not (output.Reply reply closed) child over other is = cc
  counted_not (output.Repeat reply) child over other is = cc
  counted_not (output.Request asker next) child over other is = cc
  counted_not (output.Counted own made closed) child over other is = other
  counted_not (output.Ticked ticked) child over other is = cc
  counted_not output.Done child over other is = cc
  counted_not (output.Dropped why) child over other is = cc

  not_marked : (o : IkeOutput) → SaysOther o → stepped.output ≡ o → stepped.trace.sent ≡ None → ⊥
  not_marked o other is none = elim told [
    | inl counted ↦ counted_not o counted.0 counted.1 other (sym is ∙ counted.2)
    | inr replied ↦ none_some _ (sym none ∙ replied.4)
  ]

  plain_none : (o : IkeOutput) → SaysOther o → stepped ≡ plain_step o → ⊥
  plain_none o other is = not_marked o other (ap (λ (x : Stepped). x.output) is) (ap (λ (x : Stepped). x.trace.sent) is)

  -- the serial that the effect tells is the one
  effect_serial : (own number : ℕ) (e : Effect) → stepped ≡ stepped_of own number e → own ≡ serial
  effect_serial own number (effect.Refused f) is = absurd (plain_none _ tt is)
  effect_serial own number (effect.Again next) is = absurd (plain_none _ tt is)
  effect_serial own number (effect.Repeated reply) is = elim told [
    | inl counted ↦ absurd (counted_not (output.Repeat reply) counted.0 counted.1 tt (sym (ap (λ (x : Stepped). x.output) is) ∙ counted.2))
    | inr replied ↦ absurd (let no : output.Repeat reply ≡ output.Reply replied.1 replied.2 = sym (ap (λ (x : Stepped). x.output) is) ∙ replied.3 in cc)
  ]
  effect_serial own number (effect.Replied answered) is = elim told [
    | inl counted ↦ absurd (counted_not (output.Reply answered.octets (closed_serial own (closed_by answered.fate))) counted.0 counted.1 tt (sym (ap (λ (x : Stepped). x.output) is) ∙ counted.2))
    | inr replied ↦
        let same = some_is _ _ (sym (ap (λ (x : Stepped). x.trace.sent) is) ∙ replied.4) in
        ap (λ (x : marks.Mark). x.ike) same
  ]
  effect_serial own number (effect.AsksAuth next) is = elim told [
    | inl counted ↦ absurd (counted_not (output.Request own next) counted.0 counted.1 tt (sym (ap (λ (x : Stepped). x.output) is) ∙ counted.2))
    | inr replied ↦ absurd (let no : output.Request own next ≡ output.Reply replied.1 replied.2 = sym (ap (λ (x : Stepped). x.output) is) ∙ replied.3 in cc)
  ]
  effect_serial own number (effect.Counted ended) is = elim told [
    | inl counted ↦ (
        let same : output.Counted own (made_by ended.fate) (closed_serial own (closed_by ended.fate)) ≡ output.Counted serial counted.0 counted.1 = sym (ap (λ (x : Stepped). x.output) is) ∙ counted.2 in
        cc)
    | inr replied ↦ absurd (none_some _ (sym (ap (λ (x : Stepped). x.trace.sent) is) ∙ replied.4))
  ]

  taken_at : (at : Association) (place : ℕ) → slice_get old.associations place ≡ Some at → (changed : Association) (e : Effect) → stepped ≡ stepped_of at.serial m.header.id e
      → TakesMessage meaning setup at table octets m e changed new_table → new ≡ record old { associations = slice_set old.associations place changed } → IsTaken
  taken_at at place there changed e is takes content =
      let own = effect_serial at.serial m.header.id e is in
      record {
        message = m;
        spelled = spelled;
        was = at;
        is = changed;
        effect = e;
        takes = takes;
        stood = subst (λ (k : ℕ). association_of k old.associations ≡ Some at) own (at_serial old table place at sound there);
        stands = λ same.
            ap (λ (h : Held). association_of serial h.associations) content
            ∙ subst (λ (k : ℕ). association_of k (slice_set old.associations place changed) ≡ Some changed) own (set_serial old table place at changed sound there same);
      }

  taken_judgement : (j : JudgementView) → DoesJudgement meaning setup m.header.spi_i octets j old stepped new → IsTaken
  taken_judgement (Answered n) is = absurd (plain_none _ tt is.0.said)
  taken_judgement Incomplete is = absurd (plain_none _ tt is.said)
  taken_judgement Full is = absurd (plain_none _ tt is.said)
  taken_judgement (Accepted offer) is = elim is.done [
    | inl refused ↦ absurd (plain_none _ tt refused.1.said)
    | inr admits ↦ absurd (not_marked (output.Reply admits.admitted.octets None) tt (ap (λ (x : Stepped). x.output) admits.said) (ap (λ (x : Stepped). x.trace.sent) admits.said))
  ]

  taken_initial : (o : Option ℕ) → TakesRequestAt o meaning setup cookies from octets m old stepped new → IsTaken
  taken_initial (Some place) is = absurd (plain_none _ tt is.0.said)
  taken_initial None is = taken_judgement is.judgement is.done

  taken_sound : (b : Bool) → TakesSound b meaning setup cookies from octets m old stepped new → IsTaken
  taken_sound true is = taken_initial (position (is_answered octets) old.associations) is
  taken_sound false is = absurd (plain_none _ tt is.said)

  taken_found : (r : Result ℕ MessageFault) → TakesFound r meaning setup octets m old table stepped new new_table → IsTaken
  taken_found (Ok place) is = taken_at is.association place is.there is.changed is.effect is.said is.takes is.content
  taken_found (Err f) is = absurd (plain_none _ tt is.0.said)

  taken_read : (b : Bool) → TakesRead b meaning setup cookies from octets m old table stepped new new_table → IsTaken
  taken_read true is = taken_sound (is_sound_initial m.header) is.0
  taken_read false is = taken_found (place_meant m.header old.associations) is

failed_not : (stepped : Stepped) (serial : ℕ) (f : WireFault) → stepped ≡ passed_over (fault.Unread f) → TellsOfMessageAt stepped serial → ⊥
failed_not stepped serial f is (inl counted) = (let no : output.Dropped (fault.Unread f) ≡ output.Counted serial counted.0 counted.1 = sym (ap (λ (x : Stepped). x.output) is) ∙ counted.2 in cc)
failed_not stepped serial f is (inr replied) = none_some _ (sym (ap (λ (x : Stepped). x.trace.sent) is) ∙ replied.4)

pub taken_by : (meaning : Meaning) (setup : Setup) (cookies : CookieSecrets) (from octets : Octets) (old : Held) (table : Database) → AreSound old table → (stepped : Stepped) (new : Held) (new_table : Database) (serial : ℕ)
    → TellsOfMessageAt stepped serial → TakesDatagram meaning setup cookies from octets old table stepped new new_table → TakenBy meaning setup octets old table new new_table serial
taken_by meaning setup cookies from octets old table sound stepped new new_table serial told (inl fails) = absurd (failed_not stepped serial fails.reason fails.passed.said told)
taken_by meaning setup cookies from octets old table sound stepped new new_table serial told (inr reads) =
    taken_read meaning setup cookies from octets reads.message reads.spelled old table sound stepped new new_table serial told (is_initial_request reads.message.header) reads.done
