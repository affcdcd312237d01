-- What goes out of an IKE SA that waits for the response of IKE_SA_INIT tells what it holds of itself.
use Rattle.std.proofs.Common.{◌≡◌, ◌+◌, inl, inr, ℕ, List, Option, Some, None, refl, sym, ap, subst, ◌∙◌}
use Rattle.base.specs.Octets.{Octets}
use Rattle.wire.specs.Messages.{SpellsPlainly}
use Rattle.wire.specs.declared.message.Message.{Message}
use Rattle.policy.specs.declared.entry.Entry.{Entry}
use Rattle.exchange.specs.declared.sealed.Plain.{Plain}
use Rattle.sadb.specs.Database.{Database}
use Rattle.sa_init.specs.Messages.{request_message}
use Rattle.sa_init.specs.declared.response.Response.{Response}
use Rattle.sa_init.specs.declared.response.Response.TheVariants as response
use Rattle.association.specs.Receiving.{Answers, AnswersInitial, Reception, Refused, Repeat, TakesEffect}
use Rattle.association.specs.declared.phase.Association.{Association}
use Rattle.association.specs.declared.phase.InitSent.{InitSent}
use Rattle.association.specs.declared.phase.Phase.{Phase}
use Rattle.association.specs.declared.phase.Phase.TheVariants as phase
use Rattle.setup.specs.Configs.{Setup}
use Rattle.initial.specs.Reading.{Continues}
use Rattle.initial.specs.declared.reading.Continued.{Continued}
use Rattle.initial.specs.declared.reading.Continued.TheVariants as continued
use Rattle.effects.specs.Taking.{asker_of, Does, DoesInitial, DoesRequest, DoesResponse, Meaning, Says, TakesMessage}
use Rattle.effects.specs.declared.taking.Effect.{Effect}
use Rattle.effects.specs.declared.taking.Effect.TheVariants as effect
use Rattle.ike.specs.Before.{IsFirstRequest}
use Rattle.ike.specs.Machines.{association_of, Held, Machine}
use Rattle.ike.specs.Outputs.{stepped_of}
use Rattle.ike.specs.Soundness.{AreSound}
use Rattle.ike.specs.Steps.{InputView, Steps}
use Rattle.ike.specs.declared.output.IkeOutput.{IkeOutput}
use Rattle.ike.specs.declared.output.IkeOutput.TheVariants as output
use Rattle.ike.specs.declared.output.Stepped.{Stepped}
use Rattle.ike.proofs.AskingLemmas.{changed_phase, probed_stands}
use Rattle.ike.proofs.BeforeLemmas.{BeforeLaws}
use Rattle.ike.proofs.MoveLemmas.{at_changed, at_grown}
use Rattle.ike.proofs.SerialLemmas.{same_one}
use Rattle.ike.proofs.WayLemmas.{admitted, probed, rested, started, step_way, took, GoesOut, Way}

same_sent : (one other : InitSent) → phase.InitSent one ≡ phase.InitSent other → one ≡ other
same_sent one other is = cc

requests_as : (meaning : Meaning) (spi_i : ℕ) (sent read : InitSent) (cookie : Option Octets) (octets : Octets) → sent.secret ≡ read.secret → sent.nonce ≡ read.nonce
    → SpellsPlainly (request_message meaning.cipher meaning.group (meaning.public_value read.secret) spi_i cookie read.nonce) octets → IsFirstRequest meaning spi_i sent.secret sent.nonce octets
requests_as meaning spi_i sent read cookie octets secret nonce spelled = record {
  cookie = cookie;
  spelled = subst (λ (s : Octets). SpellsPlainly (request_message meaning.cipher meaning.group (meaning.public_value s) spi_i cookie sent.nonce) octets) (sym secret)
      (subst (λ (n : Octets). SpellsPlainly (request_message meaning.cipher meaning.group (meaning.public_value read.secret) spi_i cookie n) octets) (sym nonce) spelled);
}

-- an IKE SA takes a response, waits on, and sends this
module _ (meaning : Meaning) (setup : Setup) (octets : Octets) (m : Message) (was is : Association) (sent before : InitSent) (waits : is.phase ≡ phase.InitSent sent) (waited : was.phase ≡ phase.InitSent before)
    (spi : is.spi_i ≡ was.spi_i) where
  cookie_goes : (read : InitSent) (cookie again next : Octets) → next ≡ again
      → SpellsPlainly (request_message meaning.cipher meaning.group (meaning.public_value read.secret) was.spi_i (Some cookie) read.nonce) again
      → is.phase ≡ phase.InitSent (record read { cookie = Some cookie; cookies_taken = read.cookies_taken + 1 }) → IsFirstRequest meaning is.spi_i sent.secret sent.nonce next
  cookie_goes read cookie again next same spelled content =
      let now : sent ≡ record read { cookie = Some cookie; cookies_taken = read.cookies_taken + 1 } = same_sent sent _ (sym waits ∙ content) in
      subst (λ (o : Octets). IsFirstRequest meaning is.spi_i sent.secret sent.nonce o) (sym same)
      (subst (λ (n : ℕ). IsFirstRequest meaning n sent.secret sent.nonce again) (sym spi)
      (requests_as meaning was.spi_i sent read (Some cookie) again (ap (λ (s : InitSent). s.secret) now) (ap (λ (s : InitSent). s.nonce) now) spelled))

  continues_goes : (read : InitSent) (r : Response) (c : Continued) (next : Octets) → Says (effect.Again next) c → Continues (asker_of meaning) setup was read m.header.id m octets r c is
      → IsFirstRequest meaning is.spi_i sent.secret sent.nonce next
  continues_goes read (response.Cookie cookie) (continued.Again again) next same brings = cookie_goes read cookie.now again next same brings.spelled (ap (λ (a : Association). a.phase) brings.content)
  continues_goes read (response.Keys keys) (continued.Again again) next same c = absurd c
  continues_goes read response.Unfit (continued.Again again) next same c = absurd c
  continues_goes read r (continued.AsksAuth given) next same c = absurd same
  continues_goes read r continued.Unfit next same c = absurd same

  again_request : (exchange number : ℕ) (table new_table : Database) (plain : Plain) (next : Octets) → DoesRequest meaning setup (phase.InitSent before) exchange was table number plain (effect.Again next) is new_table → ⊥
  again_request exchange number table new_table plain next d = d

  again_response : (number : ℕ) (table new_table : Database) (plain : Plain) (next : Octets) → DoesResponse meaning setup (phase.InitSent before) was table number plain (effect.Again next) is new_table → ⊥
  again_response number table new_table plain next d = d

  again_goes : (table new_table : Database) (r : Reception) (next : Octets) → Does meaning setup was table octets m r (effect.Again next) is new_table → IsFirstRequest meaning is.spi_i sent.secret sent.nonce next
  again_goes table new_table (Refused fault) next d = absurd d
  again_goes table new_table (Repeat kept) next d = absurd d
  again_goes table new_table (TakesEffect plain) next d =
      absurd (again_request m.header.exchange m.header.id table new_table plain next (subst (λ (p : Phase). DoesRequest meaning setup p m.header.exchange was table m.header.id plain (effect.Again next) is new_table) waited d))
  again_goes table new_table (Answers plain) next d =
      absurd (again_response m.header.id table new_table plain next (subst (λ (p : Phase). DoesResponse meaning setup p was table m.header.id plain (effect.Again next) is new_table) waited d))
  again_goes table new_table AnswersInitial next d =
      let initial : DoesInitial meaning setup was octets m (effect.Again next) is = d.0 in
      continues_goes initial.read.sent initial.read.response initial.continued next initial.said initial.read.continues

  -- where it asks who the other is, it waits for that response no more
  tells_not : (read : InitSent) (r : Response) (c : Continued) (next : Octets) → Says (effect.AsksAuth next) c → Continues (asker_of meaning) setup was read m.header.id m octets r c is → ⊥
  tells_not read (response.Keys keys) (continued.AsksAuth given) next same tells = let no = sym waits ∙ ap (λ (a : Association). a.phase) tells.content in cc
  tells_not read (response.Cookie cookie) (continued.AsksAuth given) next same c = c
  tells_not read response.Unfit (continued.AsksAuth given) next same c = c
  tells_not read r (continued.Again given) next same c = same
  tells_not read r continued.Unfit next same c = same

  asks_request : (exchange number : ℕ) (table new_table : Database) (plain : Plain) (next : Octets) → DoesRequest meaning setup (phase.InitSent before) exchange was table number plain (effect.AsksAuth next) is new_table → ⊥
  asks_request exchange number table new_table plain next d = d

  asks_response : (number : ℕ) (table new_table : Database) (plain : Plain) (next : Octets) → DoesResponse meaning setup (phase.InitSent before) was table number plain (effect.AsksAuth next) is new_table → ⊥
  asks_response number table new_table plain next d = d

  asks_not : (table new_table : Database) (r : Reception) (next : Octets) → Does meaning setup was table octets m r (effect.AsksAuth next) is new_table → ⊥
  asks_not table new_table (Refused fault) next d = d
  asks_not table new_table (Repeat kept) next d = d
  asks_not table new_table (TakesEffect plain) next d =
      asks_request m.header.exchange m.header.id table new_table plain next (subst (λ (p : Phase). DoesRequest meaning setup p m.header.exchange was table m.header.id plain (effect.AsksAuth next) is new_table) waited d)
  asks_not table new_table (Answers plain) next d =
      asks_response m.header.id table new_table plain next (subst (λ (p : Phase). DoesResponse meaning setup p was table m.header.id plain (effect.AsksAuth next) is new_table) waited d)
  asks_not table new_table AnswersInitial next d =
      let initial : DoesInitial meaning setup was octets m (effect.AsksAuth next) is = d.0 in
      tells_not initial.read.sent initial.read.response initial.continued next initial.said initial.read.continues

-- who is asked for, and what goes out
record SameRequest (serial other : ℕ) (octets given : Octets) : Type 0 where
  serial_is : serial ≡ other
  octets_are : octets ≡ given

same_request : (serial other : ℕ) (octets given : Octets) → output.Request serial octets ≡ output.Request other given → SameRequest serial other octets given
same_request serial other octets given is = record { serial_is = cc; octets_are = cc }

module _ (laws : BeforeLaws) (meaning : Meaning) (old : Held) (table : Database) (stepped : Stepped) (new : Held) (new_table : Database) (sound : AreSound old table)
    (serial : ℕ) (octets : Octets) (said : stepped.output ≡ output.Request serial octets) (is : Association) (there : association_of serial new.associations ≡ Some is)
    (sent : InitSent) (waits : is.phase ≡ phase.InitSent sent) where
  by_effect : (setup : Setup) (came : Octets) (m : Message) (place : ℕ) (was changed : Association) (e : Effect) → stepped ≡ stepped_of was.serial m.header.id e
      → (was.serial ≡ serial → changed ≡ is) → TakesMessage meaning setup was table came m e changed new_table → IsFirstRequest meaning is.spi_i sent.secret sent.nonce octets
  by_effect setup came m place was changed (effect.Refused f) by itself takes = absurd (let no = sym (ap (λ (x : Stepped). x.output) by) ∙ said in cc)
  by_effect setup came m place was changed (effect.Repeated reply) by itself takes = absurd (let no = sym (ap (λ (x : Stepped). x.output) by) ∙ said in cc)
  by_effect setup came m place was changed (effect.Replied answered) by itself takes = absurd (let no = sym (ap (λ (x : Stepped). x.output) by) ∙ said in cc)
  by_effect setup came m place was changed (effect.Counted ended) by itself takes = absurd (let no = sym (ap (λ (x : Stepped). x.output) by) ∙ said in cc)
  by_effect setup came m place was changed (effect.Again next) by itself takes =
      let same = same_request was.serial serial next octets (sym (ap (λ (x : Stepped). x.output) by) ∙ said) in
      let now = itself same.serial_is in
      let taken : TakesMessage meaning setup was table came m (effect.Again next) is new_table = subst (λ (a : Association). TakesMessage meaning setup was table came m (effect.Again next) a new_table) now takes in
      let keeps = laws.itself meaning setup was table came m (effect.Again next) is new_table taken in
      let before = keeps.waiting (record { sent = sent; is = waits }) in
      subst (λ (o : Octets). IsFirstRequest meaning is.spi_i sent.secret sent.nonce o) same.octets_are
      (again_goes meaning setup came m was is sent before.sent waits before.is keeps.spi_i table new_table taken.reception next taken.done)
  by_effect setup came m place was changed (effect.AsksAuth next) by itself takes =
      let same = same_request was.serial serial next octets (sym (ap (λ (x : Stepped). x.output) by) ∙ said) in
      let now = itself same.serial_is in
      let taken : TakesMessage meaning setup was table came m (effect.AsksAuth next) is new_table = subst (λ (a : Association). TakesMessage meaning setup was table came m (effect.AsksAuth next) a new_table) now takes in
      let keeps = laws.itself meaning setup was table came m (effect.AsksAuth next) is new_table taken in
      let before = keeps.waiting (record { sent = sent; is = waits }) in
      absurd (asks_not meaning setup came m was is sent before.sent waits before.is keeps.spi_i table new_table taken.reception next taken.done)

  goes_by : (setup : Setup) (came : Octets) → Way meaning setup came old table stepped new new_table → IsFirstRequest meaning is.spi_i sent.secret sent.nonce octets
  goes_by setup came (rested r) =
      let goes : GoesOut old (output.Request serial octets) = subst (λ (o : IkeOutput). GoesOut old o) (sym (ap (λ (x : Stepped). x.output) r.is) ∙ said) r.goes in
      absurd goes
  goes_by setup came (took t) =
      let was = t.takes.association in
      let keeps = laws.itself meaning setup was table came t.message t.takes.effect t.takes.changed new_table t.takes.takes in
      by_effect setup came t.message t.place was t.takes.changed t.takes.effect t.takes.said (λ same.
      elim (at_changed old table t.place was t.takes.changed new serial sound t.takes.there keeps.serial t.takes.content) [
        | inl (here, stood, after) ↦ same_one t.takes.changed is (sym after ∙ there)
        | inr (apart, stays) ↦ absurd (apart (sym same))
      ]) t.takes.takes
  goes_by setup came (admitted a) = absurd (let no = sym (ap (λ (x : Stepped). x.output) a.admits.said) ∙ said in cc)
  goes_by setup came (started s) =
      let begins = s.starts.begins in
      let beginning = s.starts.beginning in
      let same = same_request old.next serial beginning.octets octets (sym (ap (λ (x : Stepped). x.output) s.starts.done.said) ∙ said) in
      elim (at_grown old table _ new serial sound refl s.starts.done.content) [
        | inl (here, stood, after) ↦
            let now = same_one _ is (sym after ∙ there) in
            let holds = same_sent _ sent (ap (λ (a : Association). a.phase) now ∙ waits) in
            let spi : is.spi_i ≡ setup.fresh.spi = ap (λ (a : Association). a.spi_i) (sym now) ∙ begins.spi in
            let secret : sent.secret ≡ setup.fresh.secret = ap (λ (x : InitSent). x.secret) (sym holds) ∙ begins.secret in
            let nonce : sent.nonce ≡ setup.fresh.nonce = ap (λ (x : InitSent). x.nonce) (sym holds) ∙ begins.nonce_is in
            subst (λ (o : Octets). IsFirstRequest meaning is.spi_i sent.secret sent.nonce o) same.octets_are (record {
              cookie = None;
              spelled = subst (λ (n : ℕ). SpellsPlainly (request_message meaning.cipher meaning.group (meaning.public_value sent.secret) n None sent.nonce) beginning.octets) (sym spi)
                  (subst (λ (x : Octets). SpellsPlainly (request_message meaning.cipher meaning.group (meaning.public_value x) setup.fresh.spi None sent.nonce) beginning.octets) (sym secret)
                  (subst (λ (x : Octets). SpellsPlainly (request_message meaning.cipher meaning.group (meaning.public_value setup.fresh.secret) setup.fresh.spi None x) beginning.octets) (sym nonce) begins.spelled));
            })
        | inr (apart, stays) ↦ absurd (apart (sym same.serial_is))
      ]
  goes_by setup came (probed p) =
      let asks = p.probes in
      let same = same_request p.ike serial asks.octets octets (sym (ap (λ (x : Stepped). x.output) asks.said) ∙ said) in
      let after = subst (λ (n : ℕ). association_of n new.associations ≡ Some asks.changed) same.serial_is (probed_stands meaning.body_of setup p.ike old stepped new asks table sound) in
      let now = same_one asks.changed is (sym after ∙ there) in
      absurd (let no = sym asks.sends.established ∙ sym (changed_phase meaning.body_of setup p.ike old stepped new asks) ∙ ap (λ (a : Association). a.phase) now ∙ waits in cc)

-- what goes out of an IKE SA that waits for the response of IKE_SA_INIT is its request, and tells what it holds of itself
pub step_requests : (laws : BeforeLaws) (meaning : Meaning) (entries : List Entry) (view : InputView) (old : Machine) (table : Database) (stepped : Stepped) (new : Machine) (new_table : Database)
    → AreSound old.held table → Steps meaning entries view old table stepped new new_table → (serial : ℕ) (octets : Octets) → stepped.output ≡ output.Request serial octets
    → (is : Association) → association_of serial new.held.associations ≡ Some is → (sent : InitSent) → is.phase ≡ phase.InitSent sent → IsFirstRequest meaning is.spi_i sent.secret sent.nonce octets
step_requests laws meaning entries view old table stepped new new_table sound steps serial octets said is there sent waits = elim (step_way meaning entries view old table stepped new new_table steps) [
  | inl some ↦ goes_by laws meaning old.held table stepped new.held new_table sound serial octets said is there sent waits some.setup some.octets some.way
  | inr ticks ↦ absurd (let no = sym (ap (λ (x : Stepped). x.output) ticks.takes.said) ∙ said in cc)
]
