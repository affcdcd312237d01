-- An IKE SA that asks by IKE_AUTH has read the response of IKE_SA_INIT; one that is half-open was so.
use Rattle.std.proofs.Common.{◌≡◌, inl, inr, ℕ, zero, suc, Bool, true, false, List, [], ◌∷◌, Option, Some, None, slice_get, refl, sym, ap, subst, ◌∙◌}
use Rattle.std.specs.Prelude.{if◌then◌else◌, option_and_then}
use Rattle.base.specs.Octets.{Octets}
use Rattle.wire.specs.Messages.{Spells}
use Rattle.wire.specs.declared.message.Message.{Message}
use Rattle.suite.specs.declared.fresh.Fresh.{Fresh}
use Rattle.exchange.specs.declared.sealed.Plain.{Plain}
use Rattle.policy.specs.declared.entry.Entry.{Entry}
use Rattle.suite.specs.declared.key_record.KeyRecord.{KeyRecord}
use Rattle.sadb.specs.Database.{Database}
use Rattle.sa_init.specs.Reading.{IsResponse}
use Rattle.sa_init.specs.declared.response.Response.{Response}
use Rattle.sa_init.specs.declared.response.Response.TheVariants as response
use Rattle.association.specs.Phases.{keys_in}
use Rattle.association.specs.Receiving.{admits, fresh_reception, judged_reception, opened_by, repeated_reception, Answers, AnswersInitial, IsReceivedBy, Opening, Reception, Refused, Repeat, TakesEffect}
use Rattle.association.specs.declared.fault.MessageFault.{MessageFault}
use Rattle.association.specs.declared.fault.MessageFault.TheVariants.{WrongPhase}
use Rattle.association.specs.declared.phase.Association.{Association}
use Rattle.association.specs.declared.phase.AuthSent.{AuthSent}
use Rattle.association.specs.declared.phase.HalfOpen.{HalfOpen}
use Rattle.association.specs.declared.phase.InitSent.{InitSent}
use Rattle.association.specs.declared.phase.Phase.{Phase}
use Rattle.association.specs.declared.phase.Phase.TheVariants as phase
use Rattle.setup.specs.Configs.{Setup}
use Rattle.initial.specs.Reading.{waiting_of, Continues, IsInitSent}
use Rattle.initial.specs.declared.reading.Continued.{Continued}
use Rattle.initial.specs.declared.reading.Continued.TheVariants as continued
use Rattle.requests.specs.declared.incoming.Judgement.{Judgement}
use Rattle.requests.specs.declared.incoming.Judgement.TheVariants as judged
use Rattle.effects.specs.LawsOfRequests.{TheHalfOpenWereSoBefore}
use Rattle.effects.specs.Taking.{asker_of, Does, DoesInitial, DoesRequest, DoesResponse, Meaning}
use Rattle.effects.specs.declared.taking.Effect.{Effect}
use Rattle.effects.specs.declared.taking.Effect.TheVariants as effect
use Rattle.ike.specs.Before.{ByMessage, ByOrder, ByTick, How, ReadsNow, Same}
use Rattle.ike.specs.Machines.{setup_at, Held, Machine}
use Rattle.ike.specs.Steps as ike
use Rattle.ike.proofs.BeforeLemmas.{BeforeLaws}
use Rattle.ike.proofs.RequestLemmas.{some_none}
use Rattle.ike.proofs.TickLemmas.{on_half_open}

pub half_open_on : TheHalfOpenWereSoBefore → (meaning : Meaning) (entries : List Entry) (view : ike.InputView) (old : Machine) (table : Database) (new : Held) (new_table : Database) (was is : Association) (opened : HalfOpen) → How meaning entries view old table new new_table was is → is.phase ≡ phase.HalfOpen opened → was.phase ≡ phase.HalfOpen opened
half_open_on before meaning entries view old table new new_table was is opened (Same same) waits = ap (λ (a : Association). a.phase) (sym same) ∙ waits
half_open_on before meaning entries view old table new new_table was is opened (ByMessage t) waits = before meaning (setup_at old entries t.fresh) was table t.octets t.message t.effect is new_table opened t.takes waits
half_open_on before meaning entries view old table new new_table was is opened (ByOrder keys established phase_is spi) waits = sym phase_is ∙ waits
half_open_on before meaning entries view old table new new_table was is opened (ByTick now on) waits = on_half_open now was is on opened waits

-- ---- how a message comes to be the response of IKE_SA_INIT

same_told : (one other : AuthSent) → phase.AuthSent one ≡ phase.AuthSent other → one ≡ other
same_told one other is = cc

not_fresh_by : (b : Bool) (plain : Plain) → AnswersInitial ≡ (if b then TakesEffect plain else Refused WrongPhase) → ⊥
not_fresh_by true plain is = cc
not_fresh_by false plain is = cc

not_fresh : (p : Phase) (exchange : ℕ) (plain : Option Plain) → AnswersInitial ≡ fresh_reception p exchange plain → ⊥
not_fresh (phase.Closed keys at) exchange plain is = cc
not_fresh (phase.InitSent sent) exchange None is = cc
not_fresh (phase.InitSent sent) exchange (Some plain) is = not_fresh_by (admits (phase.InitSent sent) exchange) plain is
not_fresh (phase.AuthSent sent) exchange None is = cc
not_fresh (phase.AuthSent sent) exchange (Some plain) is = not_fresh_by (admits (phase.AuthSent sent) exchange) plain is
not_fresh (phase.HalfOpen opened) exchange None is = cc
not_fresh (phase.HalfOpen opened) exchange (Some plain) is = not_fresh_by (admits (phase.HalfOpen opened) exchange) plain is
not_fresh (phase.Established keys) exchange None is = cc
not_fresh (phase.Established keys) exchange (Some plain) is = not_fresh_by (admits (phase.Established keys) exchange) plain is

not_repeated : (reply : Octets) (plain : Option Plain) → AnswersInitial ≡ repeated_reception reply plain → ⊥
not_repeated reply None is = cc
not_repeated reply (Some plain) is = cc

not_judged : (p : Phase) (exchange : ℕ) (plain : Option Plain) (j : Judgement) → AnswersInitial ≡ judged_reception p exchange plain j → ⊥
not_judged p exchange plain judged.Fresh is = not_fresh p exchange plain is
not_judged p exchange plain (judged.Repeat reply) is = not_repeated reply.now plain is
not_judged p exchange plain judged.Forgotten is = cc
not_judged p exchange plain judged.Outside is = cc

response_by : (b : Bool) (plain_of : Opening) (a : Association) (octets : Octets) (m : Message) → IsReceivedBy b plain_of a octets m AnswersInitial → b ≡ true
response_by true plain_of a octets m is = refl
response_by false plain_of a octets m is = absurd (not_judged a.phase m.header.exchange (opened_by plain_of a octets m.payloads) is.judgement is.whole)

module _ (meaning : Meaning) (setup : Setup) (octets : Octets) (m : Message) (was is : Association) (before : InitSent) (told : AuthSent) (waited : was.phase ≡ phase.InitSent before) (waits : is.phase ≡ phase.AuthSent told) where
  not_same : is ≡ was → ⊥
  not_same same = let no = sym waited ∙ ap (λ (a : Association). a.phase) (sym same) ∙ waits in cc

  same_before : (one other : InitSent) → phase.InitSent one ≡ phase.InitSent other → one ≡ other
  same_before one other is_same = cc

  -- it holds what came, and keys with its own nonce
  record HoldsIt : Type 0 where
    first : told.first ≡ octets
    nonce : told.keys.nonce_i ≡ before.nonce

  continues_told : (read : InitSent) → was.phase ≡ phase.InitSent read → (r : Response) (c : Continued) → IsResponse meaning.cipher meaning.group meaning.shared_secret (waiting_of was.spi_i read) m r
      → Continues (asker_of meaning) setup was read m.header.id m octets r c is → HoldsIt
  continues_told read stood (response.Keys keys) (continued.AsksAuth next) gives tells =
      let now = same_told told _ (sym waits ∙ ap (λ (a : Association). a.phase) tells.content) in
      record {
        first = ap (λ (t : AuthSent). t.first) now;
        nonce = ap (λ (t : AuthSent). t.keys.nonce_i) now ∙ ap (λ (k : KeyRecord). k.nonce_i) gives.made ∙ ap (λ (x : InitSent). x.nonce) (same_before read before (sym stood ∙ waited));
      }
  continues_told read stood (response.Cookie cookie) (continued.Again again) means brings = absurd (let no = sym waits ∙ ap (λ (a : Association). a.phase) brings.content in cc)
  continues_told read stood response.Unfit continued.Unfit means same = absurd (not_same same)
  continues_told read stood (response.Cookie cookie) (continued.AsksAuth next) means c = absurd c
  continues_told read stood (response.Cookie cookie) continued.Unfit means c = absurd c
  continues_told read stood (response.Keys keys) (continued.Again again) means c = absurd c
  continues_told read stood (response.Keys keys) continued.Unfit means c = absurd c
  continues_told read stood response.Unfit (continued.Again again) means c = absurd c
  continues_told read stood response.Unfit (continued.AsksAuth next) means c = absurd c

  request_not : (exchange number : ℕ) (table new_table : Database) (plain : Plain) (e : Effect) → DoesRequest meaning setup (phase.InitSent before) exchange was table number plain e is new_table → ⊥
  request_not exchange number table new_table plain (effect.Refused fault) d = not_same d.1.association
  request_not exchange number table new_table plain (effect.Repeated reply) d = d
  request_not exchange number table new_table plain (effect.Replied answered) d = d
  request_not exchange number table new_table plain (effect.Again again) d = d
  request_not exchange number table new_table plain (effect.AsksAuth next) d = d
  request_not exchange number table new_table plain (effect.Counted ended) d = d

  response_not : (number : ℕ) (table new_table : Database) (plain : Plain) (e : Effect) → DoesResponse meaning setup (phase.InitSent before) was table number plain e is new_table → ⊥
  response_not number table new_table plain (effect.Refused fault) d = not_same d.1.association
  response_not number table new_table plain (effect.Repeated reply) d = d
  response_not number table new_table plain (effect.Replied answered) d = d
  response_not number table new_table plain (effect.Again again) d = d
  response_not number table new_table plain (effect.AsksAuth next) d = d
  response_not number table new_table plain (effect.Counted ended) d = d

  refused_not : (table new_table : Database) (fault : MessageFault) (e : Effect) → Does meaning setup was table octets m (Refused fault) e is new_table → ⊥
  refused_not table new_table fault (effect.Refused said) d = not_same d.1.association
  refused_not table new_table fault (effect.Repeated reply) d = d
  refused_not table new_table fault (effect.Replied answered) d = d
  refused_not table new_table fault (effect.Again again) d = d
  refused_not table new_table fault (effect.AsksAuth next) d = d
  refused_not table new_table fault (effect.Counted ended) d = d

  repeated_not : (table new_table : Database) (kept : Octets) (e : Effect) → Does meaning setup was table octets m (Repeat kept) e is new_table → ⊥
  repeated_not table new_table kept (effect.Refused said) d = d
  repeated_not table new_table kept (effect.Repeated reply) d = not_same d.1.association
  repeated_not table new_table kept (effect.Replied answered) d = d
  repeated_not table new_table kept (effect.Again again) d = d
  repeated_not table new_table kept (effect.AsksAuth next) d = d
  repeated_not table new_table kept (effect.Counted ended) d = d

  record FirstIs : Type 0 where
    holds : HoldsIt
    answers : m.header.flags.response ≡ true

  does_told : (table new_table : Database) (r : Reception) (e : Effect) → IsReceivedBy m.header.flags.response meaning.plain_of was octets m r → Does meaning setup was table octets m r e is new_table → FirstIs
  does_told table new_table (Refused fault) e received d = absurd (refused_not table new_table fault e d)
  does_told table new_table (Repeat kept) e received d = absurd (repeated_not table new_table kept e d)
  does_told table new_table (TakesEffect plain) e received d =
      absurd (request_not m.header.exchange m.header.id table new_table plain e (subst (λ (p : Phase). DoesRequest meaning setup p m.header.exchange was table m.header.id plain e is new_table) waited d))
  does_told table new_table (Answers plain) e received d =
      absurd (response_not m.header.id table new_table plain e (subst (λ (p : Phase). DoesResponse meaning setup p was table m.header.id plain e is new_table) waited d))
  does_told table new_table AnswersInitial e received d =
      let initial : DoesInitial meaning setup was octets m e is = d.0 in
      record {
        holds = continues_told initial.read.sent initial.read.was initial.read.response initial.continued initial.read.means initial.read.continues;
        answers = response_by m.header.flags.response meaning.plain_of was octets m received;
      }

pub reads_now : (meaning : Meaning) (entries : List Entry) (view : ike.InputView) (old : Machine) (table : Database) (new : Held) (new_table : Database) (was is : Association) (before : InitSent) (told : AuthSent) → How meaning entries view old table new new_table was is → was.phase ≡ phase.InitSent before → is.phase ≡ phase.AuthSent told → ReadsNow view before told
reads_now meaning entries view old table new new_table was is before told (Same same) waited waits = absurd (let no = sym waited ∙ ap (λ (a : Association). a.phase) (sym same) ∙ waits in cc)
reads_now meaning entries view old table new new_table was is before told (ByMessage t) waited waits =
    let f = does_told meaning (setup_at old entries t.fresh) t.octets t.message was is before told waited waits table new_table t.takes.reception t.effect t.takes.received t.takes.done in
    record {
      from = t.from;
      fresh = t.fresh;
      came = t.came ∙ ap (λ (o : Octets). ike.Message t.from o t.fresh) (sym f.holds.first);
      message = t.message;
      spelled = subst (λ (o : Octets). Spells t.message o) (sym f.holds.first) t.spelled;
      response = f.answers;
      nonce = f.holds.nonce;
    }
reads_now meaning entries view old table new new_table was is before told (ByOrder keys established phase_is spi) waited waits = absurd (let no = sym waited ∙ established in cc)
reads_now meaning entries view old table new new_table was is before told (ByTick now on) waited waits = elim on.phase [
  | inl stays ↦ absurd (let no = sym waited ∙ sym stays.1 ∙ waits in cc)
  | inr closes ↦ absurd (let no = sym waits ∙ ap (λ (a : Association). a.phase) closes.content in cc)
]

-- who had no keys, and waits for the response of IKE_AUTH now, waited for that of IKE_SA_INIT
pub was_waiting : BeforeLaws → (meaning : Meaning) (entries : List Entry) (view : ike.InputView) (old : Machine) (table : Database) (new : Held) (new_table : Database) (was is : Association) (told : AuthSent) → How meaning entries view old table new new_table was is → is.phase ≡ phase.AuthSent told → keys_in was.phase ≡ None → IsInitSent was.phase
was_waiting laws meaning entries view old table new new_table was is told (Same same) waits none = absurd (some_none told.keys (sym none ∙ ap keys_in (ap (λ (a : Association). a.phase) (sym same) ∙ waits)))
was_waiting laws meaning entries view old table new new_table was is told (ByMessage t) waits none =
    elim ((laws.itself meaning (setup_at old entries t.fresh) was table t.octets t.message t.effect is new_table t.takes).asking (record { sent = told; is = waits })) [
      | inl first ↦ first
      | inr asks ↦ absurd (some_none asks.sent.keys (sym none ∙ ap keys_in asks.is))
    ]
was_waiting laws meaning entries view old table new new_table was is told (ByOrder keys established phase_is spi) waits none = absurd (let no = sym established ∙ sym phase_is ∙ waits in cc)
was_waiting laws meaning entries view old table new new_table was is told (ByTick now on) waits none = elim on.phase [
  | inl stays ↦ absurd (some_none told.keys (sym none ∙ ap keys_in (sym stays.1 ∙ waits)))
  | inr closes ↦ absurd (let no = sym waits ∙ ap (λ (a : Association). a.phase) closes.content in cc)
]
