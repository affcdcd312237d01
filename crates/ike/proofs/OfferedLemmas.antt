-- An IKE SA that waits for the response of IKE_SA_INIT keeps its SPI, its secret and its nonce.
use Rattle.std.proofs.Common.{◌≡◌, ◌+◌, inl, inr, ℕ, List, Some, refl, sym, ap, subst, ◌∙◌}
use Rattle.base.specs.Octets.{Octets}
use Rattle.wire.specs.declared.message.Message.{Message}
use Rattle.exchange.specs.declared.sealed.Plain.{Plain}
use Rattle.policy.specs.declared.entry.Entry.{Entry}
use Rattle.sadb.specs.Database.{Database}
use Rattle.sa_init.specs.declared.response.Response.{Response}
use Rattle.sa_init.specs.declared.response.Response.TheVariants as response
use Rattle.association.specs.Receiving.{Answers, AnswersInitial, Reception, Refused, Repeat, TakesEffect}
use Rattle.association.specs.declared.fault.MessageFault.{MessageFault}
use Rattle.association.specs.declared.phase.Association.{Association}
use Rattle.association.specs.declared.phase.InitSent.{InitSent}
use Rattle.association.specs.declared.phase.Phase.{Phase}
use Rattle.association.specs.declared.phase.Phase.TheVariants as phase
use Rattle.setup.specs.Configs.{Setup}
use Rattle.initial.specs.Reading.{Continues}
use Rattle.initial.specs.declared.reading.Continued.{Continued}
use Rattle.initial.specs.declared.reading.Continued.TheVariants as continued
use Rattle.moments.specs.Holding.{HoldsOn}
use Rattle.effects.specs.Taking.{asker_of, Does, DoesInitial, DoesRequest, DoesResponse, Meaning, TakesMessage}
use Rattle.effects.specs.declared.taking.Effect.{Effect}
use Rattle.effects.specs.declared.taking.Effect.TheVariants as effect
use Rattle.ike.specs.Machines.{setup_at, Held, Machine}
use Rattle.ike.specs.Steps as ike
use Rattle.ike.specs.Before.{ByMessage, ByOrder, ByTick, How, Same, WaitedBefore}
use Rattle.ike.proofs.BeforeLemmas.{BeforeLaws}

-- what it holds of itself
record Offered : Type 0 where
  pub spi : ℕ
  pub secret : Octets
  pub nonce : Octets

abbrev offered : Association → InitSent → Offered
offered a sent = record { spi = a.spi_i; secret = sent.secret; nonce = sent.nonce }

-- it waited, and holds the same
record Waited (was is : Association) (sent : InitSent) : Type 0 where
  pub before : InitSent
  pub waits : was.phase ≡ phase.InitSent before
  pub same : offered is sent ≡ offered was before

same_sent : (one other : InitSent) → phase.InitSent one ≡ phase.InitSent other → one ≡ other
same_sent one other is = cc

itself : (was is : Association) (sent : InitSent) → is ≡ was → is.phase ≡ phase.InitSent sent → Waited was is sent
itself was is sent same waits = record {
  before = sent;
  waits = ap (λ (a : Association). a.phase) (sym same) ∙ waits;
  same = ap (λ (a : Association). offered a sent) same;
}

module _ (meaning : Meaning) (setup : Setup) (octets : Octets) (m : Message) (was is : Association) (sent before : InitSent) (waits : is.phase ≡ phase.InitSent sent) (waited : was.phase ≡ phase.InitSent before)
    (spi : is.spi_i ≡ was.spi_i) where
  by_cookie : (read : InitSent) → was.phase ≡ phase.InitSent read → (cookie : Octets) → is.phase ≡ phase.InitSent (record read { cookie = Some cookie; cookies_taken = read.cookies_taken + 1 }) → Waited was is sent
  by_cookie read stood cookie content =
      let now : sent ≡ record read { cookie = Some cookie; cookies_taken = read.cookies_taken + 1 } = same_sent sent _ (sym waits ∙ content) in
      record {
        before = read;
        waits = stood;
        same = (λ i. record { spi = spi i; secret = (now i).secret; nonce = (now i).nonce });
      }

  by_keys : (p : Phase) → is.phase ≡ p → (phase.InitSent sent ≡ p → ⊥) → ⊥
  by_keys p content apart = apart (sym waits ∙ content)

  continues_so : (read : InitSent) → was.phase ≡ phase.InitSent read → (r : Response) (c : Continued) → Continues (asker_of meaning) setup was read m.header.id m octets r c is → Waited was is sent
  continues_so read stood (response.Cookie cookie) (continued.Again again) brings = by_cookie read stood cookie.now (ap (λ (a : Association). a.phase) brings.content)
  continues_so read stood (response.Keys keys) (continued.AsksAuth next) tells = absurd (by_keys _ (ap (λ (a : Association). a.phase) tells.content) (λ no. cc))
  continues_so read stood response.Unfit continued.Unfit same = itself was is sent same waits
  continues_so read stood (response.Cookie cookie) (continued.AsksAuth next) c = absurd c
  continues_so read stood (response.Cookie cookie) continued.Unfit c = absurd c
  continues_so read stood (response.Keys keys) (continued.Again again) c = absurd c
  continues_so read stood (response.Keys keys) continued.Unfit c = absurd c
  continues_so read stood response.Unfit (continued.Again again) c = absurd c
  continues_so read stood response.Unfit (continued.AsksAuth next) c = absurd c

  request_so : (exchange number : ℕ) (table new_table : Database) (plain : Plain) (e : Effect) → DoesRequest meaning setup (phase.InitSent before) exchange was table number plain e is new_table → Waited was is sent
  request_so exchange number table new_table plain (effect.Refused fault) d = itself was is sent d.1.association waits
  request_so exchange number table new_table plain (effect.Repeated reply) d = absurd d
  request_so exchange number table new_table plain (effect.Replied answered) d = absurd d
  request_so exchange number table new_table plain (effect.Again again) d = absurd d
  request_so exchange number table new_table plain (effect.AsksAuth next) d = absurd d
  request_so exchange number table new_table plain (effect.Counted ended) d = absurd d

  response_so : (number : ℕ) (table new_table : Database) (plain : Plain) (e : Effect) → DoesResponse meaning setup (phase.InitSent before) was table number plain e is new_table → Waited was is sent
  response_so number table new_table plain (effect.Refused fault) d = itself was is sent d.1.association waits
  response_so number table new_table plain (effect.Repeated reply) d = absurd d
  response_so number table new_table plain (effect.Replied answered) d = absurd d
  response_so number table new_table plain (effect.Again again) d = absurd d
  response_so number table new_table plain (effect.AsksAuth next) d = absurd d
  response_so number table new_table plain (effect.Counted ended) d = absurd d

  refused_so : (table new_table : Database) (fault : MessageFault) (e : Effect) → Does meaning setup was table octets m (Refused fault) e is new_table → Waited was is sent
  refused_so table new_table fault (effect.Refused said) d = itself was is sent d.1.association waits
  refused_so table new_table fault (effect.Repeated reply) d = absurd d
  refused_so table new_table fault (effect.Replied answered) d = absurd d
  refused_so table new_table fault (effect.Again again) d = absurd d
  refused_so table new_table fault (effect.AsksAuth next) d = absurd d
  refused_so table new_table fault (effect.Counted ended) d = absurd d

  repeated_so : (table new_table : Database) (kept : Octets) (e : Effect) → Does meaning setup was table octets m (Repeat kept) e is new_table → Waited was is sent
  repeated_so table new_table kept (effect.Refused said) d = absurd d
  repeated_so table new_table kept (effect.Repeated reply) d = itself was is sent d.1.association waits
  repeated_so table new_table kept (effect.Replied answered) d = absurd d
  repeated_so table new_table kept (effect.Again again) d = absurd d
  repeated_so table new_table kept (effect.AsksAuth next) d = absurd d
  repeated_so table new_table kept (effect.Counted ended) d = absurd d

  does_so : (table new_table : Database) (r : Reception) (e : Effect) → Does meaning setup was table octets m r e is new_table → Waited was is sent
  does_so table new_table (Refused fault) e d = refused_so table new_table fault e d
  does_so table new_table (Repeat kept) e d = repeated_so table new_table kept e d
  does_so table new_table (TakesEffect plain) e d =
      request_so m.header.exchange m.header.id table new_table plain e (subst (λ (p : Phase). DoesRequest meaning setup p m.header.exchange was table m.header.id plain e is new_table) waited d)
  does_so table new_table (Answers plain) e d =
      response_so m.header.id table new_table plain e (subst (λ (p : Phase). DoesResponse meaning setup p was table m.header.id plain e is new_table) waited d)
  does_so table new_table AnswersInitial e d =
      let initial : DoesInitial meaning setup was octets m e is = d.0 in
      continues_so initial.read.sent initial.read.was initial.read.response initial.continued initial.read.continues

by_message : (laws : BeforeLaws) (meaning : Meaning) (setup : Setup) (was : Association) (table : Database) (octets : Octets) (m : Message) (e : Effect) (is : Association) (new_table : Database)
    → TakesMessage meaning setup was table octets m e is new_table → (sent : InitSent) → is.phase ≡ phase.InitSent sent → Waited was is sent
by_message laws meaning setup was table octets m e is new_table takes sent waits =
    let keeps = laws.itself meaning setup was table octets m e is new_table takes in
    let before = keeps.waiting (record { sent = sent; is = waits }) in
    does_so meaning setup octets m was is sent before.sent waits before.is keeps.spi_i table new_table takes.reception e takes.done

by_tick : (now : ℕ) (was is : Association) → HoldsOn now was is → (sent : InitSent) → is.phase ≡ phase.InitSent sent → Waited was is sent
by_tick now was is on sent waits = elim on.phase [
  | inl stays ↦ record { before = sent; waits = sym stays.1 ∙ waits; same = (λ i. record { spi = on.spi_i i; secret = sent.secret; nonce = sent.nonce }) }
  | inr closes ↦ absurd (let no = sym waits ∙ ap (λ (a : Association). a.phase) closes.content in cc)
]

waited_so : (laws : BeforeLaws) (meaning : Meaning) (entries : List Entry) (view : ike.InputView) (old : Machine) (table : Database) (new : Held) (new_table : Database) (was is : Association)
    → How meaning entries view old table new new_table was is → (sent : InitSent) → is.phase ≡ phase.InitSent sent → Waited was is sent
waited_so laws meaning entries view old table new new_table was is (Same same) sent waits = itself was is sent same waits
waited_so laws meaning entries view old table new new_table was is (ByMessage t) sent waits =
    by_message laws meaning (setup_at old entries t.fresh) was table t.octets t.message t.effect is new_table t.takes sent waits
waited_so laws meaning entries view old table new new_table was is (ByOrder keys established phase_is spi) sent waits = record { before = sent; waits = sym phase_is ∙ waits; same = (λ i. record { spi = spi i; secret = sent.secret; nonce = sent.nonce }) }
waited_so laws meaning entries view old table new new_table was is (ByTick now on) sent waits = by_tick now was is on sent waits

pub waits_on : (laws : BeforeLaws) (meaning : Meaning) (entries : List Entry) (view : ike.InputView) (old : Machine) (table : Database) (new : Held) (new_table : Database) (was is : Association) (sent : InitSent)
    → How meaning entries view old table new new_table was is → is.phase ≡ phase.InitSent sent → WaitedBefore was is sent
waits_on laws meaning entries view old table new new_table was is sent how waits =
    let it = waited_so laws meaning entries view old table new new_table was is how sent waits in
    record {
      before = it.before;
      waited = it.waits;
      spi_i = ap (λ (o : Offered). o.spi) it.same;
      secret = ap (λ (o : Offered). o.secret) it.same;
      nonce = ap (λ (o : Offered). o.nonce) it.same;
    }
