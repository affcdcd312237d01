-- The notification that asks for a cookie comes to the gateway that waits for the response: no case is left
-- but that its request goes out again, with the cookie.
use Rattle.std.proofs.Common.{◌≡◌, ◌+◌, ◌∷◌, ◌==◌, inl, inr, ℕ, zero, suc, Bool, List, true, false, cond, Option, Some, [], Result, ap, refl, subst, sym, ◌∙◌}
use Rattle.std.proofs.lemmas.Bool.{eq-eqb, true≢false}
use Rattle.std.proofs.lemmas.Option.{same_Some}
use Rattle.std.specs.Cmp.{nat_cmp_total, unsigned_tied}
use Rattle.std.specs.FinMap as map
use Rattle.std.specs.List.{slice_get, slice_set}
use Rattle.std.specs.Ordering.{nat_cmp}
use Rattle.base.specs.Octets.{Octets}
use Rattle.wire.specs.Messages.{Spells, SpellsPlainly}
use Rattle.wire.specs.declared.message.Message.{Message}
use Rattle.suite.specs.declared.fresh.Fresh.{Fresh}
use Rattle.requests.specs.Outgoing.{OwnRequests}
use Rattle.sadb.specs.Database.{Database}
use Rattle.sa_init.specs.Cookies.{CookieSecrets}
use Rattle.sa_init.specs.Reading.{AsksCookie, IsResponse}
use Rattle.sa_init.specs.declared.response.Response.{Response}
use Rattle.sa_init.specs.declared.response.Response.TheVariants as meant_as
use Rattle.association.specs.AskedChildren.{AskedChildView}
use Rattle.association.specs.Finding.{place_meant}
use Rattle.association.specs.Purposes.{exchange_of}
use Rattle.association.specs.Issuing.{new_request}
use Rattle.association.specs.Receiving.{answering_reception, opened_by, reception_by, AnswersInitial, Reception}
use Rattle.association.specs.declared.fault.MessageFault.{MessageFault}
use Rattle.association.specs.declared.phase.Association.{Association}
use Rattle.association.specs.declared.phase.InitSent.{InitSent}
use Rattle.association.specs.declared.phase.Phase.TheVariants as phase
use Rattle.association.specs.declared.phase.Request.{Request}
use Rattle.association.specs.declared.purpose.Purpose.{Purpose}
use Rattle.association.specs.declared.purpose.Purpose.TheVariants.{Begin}
use Rattle.setup.specs.Configs.{Setup}
use Rattle.initial.specs.Reading.{waiting_of, BringsCookie, Continues}
use Rattle.initial.specs.declared.reading.Continued.{Continued}
use Rattle.initial.specs.declared.reading.Continued.TheVariants as continued
use Rattle.effects.specs.Taking.{asker_of, Does, DoesInitial, Meaning, Says, TakesMessage}
use Rattle.effects.specs.declared.taking.Effect.{Effect}
use Rattle.effects.specs.declared.taking.Effect.TheVariants as effect
use Rattle.ike.specs.Faults.{is_want_of_memory}
use Rattle.ike.specs.Machines.{setup_at, Held}
use Rattle.ike.specs.Soundness.{AreSound, At}
use Rattle.ike.specs.Outputs.{stepped_of}
use Rattle.ike.specs.Receiving.{is_initial_request, RefusesDatagram, TakesAt, TakesDatagram, TakesFound, TakesRead}
use Rattle.ike.specs.declared.fault.IkeFault.{IkeFault}
use Rattle.ike.specs.declared.fault.IkeFault.TheVariants as fault
use Rattle.ike.specs.declared.output.Stepped.{Stepped}
use Rattle.gateway.specs.Histories.{IsPassage, Passage}
use Rattle.gateway.specs.Inputs as input
use Rattle.gateway.specs.Outputs.{wants_memory}
use Rattle.gateway.specs.States.{State}
use Rattle.laws_opening.specs.Beside.{with_at, StillWaits}
use Rattle.laws_opening.specs.UnderLoad.{asking_with, bringing, cookie_message, BringsBeside, CanBring, HasCookieLength}
use Rattle.laws_opening.proofs.AnsweringLemmas.{HasNoFault, OneMessage, PlainIsSpelled}
use Rattle.laws_opening.proofs.CookieLemmas.{is_cookie}
use Rattle.laws_opening.proofs.ReadingLemmas.{not_initial, place_is, replaced, same_sent, sent_as, sent_so, taken_by, waits_as, waits_so, TakenBy}
use Rattle.laws_opening.proofs.StepLemmas.{answered, leads_to, said_is, step_from}

module _ (one : OneMessage) (plain : PlainIsSpelled) (faultless : HasNoFault) (meaning : Meaning) (asking : Fresh) (notice octets : Octets)
    (spelled : SpellsPlainly (cookie_message asking octets) notice) (long : HasCookieLength octets) (base : Association) (base_sent : InitSent) (child : AskedChildView)
    (can : CanBring base_sent octets) (waiting : Request) (outstanding : map.get base.outgoing.outstanding 0 ≡ Some waiting) (purpose : waiting.purpose ≡ Begin) where
  abbrev message : Message
  message = cookie_message asking octets

  abbrev sent : InitSent
  sent = sent_as base_sent asking child

  abbrev waiting_now : Association
  waiting_now = waits_as base base_sent asking child

  read : Spells message notice
  read = plain message notice spelled

  -- ---- what the notification means

  asks : AsksCookie (waiting_of asking.spi sent) message octets
  asks = record { asked = is_cookie octets long; unnamed = refl; other = can.other; few = can.few }

  -- the request goes out again, by these octets
  record Repeats (setup : Setup) (e : Effect) (new : Association) : Type 0 where
    again : Octets
    brings : BringsCookie (asker_of meaning) setup.moment waiting_now sent 0 octets again new
    said : e ≡ effect.Again again

  says : (setup : Setup) (e : Effect) (next : Octets) (new : Association) → BringsCookie (asker_of meaning) setup.moment waiting_now sent 0 octets next new
      → Says e (continued.Again next) → Repeats setup e new
  says setup (effect.Again again) next new brings said = record { again = next; brings = brings; said = ap effect.Again said }
  says setup e next new brings said = absurd said

  continues_by : (setup : Setup) (means : Response) (c : Continued) (e : Effect) (new : Association)
      → IsResponse meaning.cipher meaning.group meaning.shared_secret (waiting_of asking.spi sent) message means
      → Continues (asker_of meaning) setup waiting_now sent 0 message notice means c new → Says e c → Repeats setup e new
  continues_by setup (meant_as.Cookie found) (continued.Again next) e new is continues said =
      let same : found.now ≡ octets = same_Some found.now octets (sym is.asked ∙ asks.asked) in
      says setup e next new (subst (λ (o : Octets). BringsCookie (asker_of meaning) setup.moment waiting_now sent 0 o next new) same continues) said
  continues_by setup (meant_as.Cookie found) c e new is continues said = absurd continues
  continues_by setup (meant_as.Keys keys) c e new is continues said = absurd (is.acceptance.named refl)
  continues_by setup meant_as.Unfit c e new is continues said = absurd (is.0 octets asks)

  module _ (setup : Setup) (table : Database) where
    goes_on : (e : Effect) (new : Association) → DoesInitial meaning setup waiting_now notice message e new → Repeats setup e new
    goes_on e new does =
        let same : does.read.sent ≡ sent = sym (same_sent sent does.read.sent does.read.was) in
        let means : IsResponse meaning.cipher meaning.group meaning.shared_secret (waiting_of asking.spi sent) message does.read.response =
        subst (λ (s : InitSent). IsResponse meaning.cipher meaning.group meaning.shared_secret (waiting_of asking.spi s) message does.read.response) same does.read.means in
        let continues : Continues (asker_of meaning) setup waiting_now sent 0 message notice does.read.response does.continued new =
        subst (λ (s : InitSent). Continues (asker_of meaning) setup waiting_now s 0 message notice does.read.response does.continued new) same does.read.continues in
        continues_by setup does.read.response does.continued e new means continues does.said

    -- it is the response that is waited for
    does : (e : Effect) (new : Association) (new_table : Database) → TakesMessage meaning setup waiting_now table notice message e new new_table
        → DoesInitial meaning setup waiting_now notice message e new × (new_table ≡ table)
    does e new new_table takes =
        let waits_for : takes.reception ≡ AnswersInitial =
        takes.received
        ∙ ap (λ (r : Option Request). reception_by waiting_now.phase 34 r (opened_by meaning.plain_of waiting_now notice message.payloads)) outstanding
        ∙ ap (λ (x : Purpose). answering_reception waiting_now.phase (exchange_of x == 34) (opened_by meaning.plain_of waiting_now notice message.payloads)) purpose in
        subst (λ (r : Reception). Does meaning setup waiting_now table notice message r e new new_table) waits_for takes.done

    module _ (held : Held) (sound : AreSound held table) (place : ℕ) (there : At held place waiting_now) where
      found : (cookies : CookieSecrets) (address : Octets) (stepped : Stepped) (new : Held) (new_table : Database)
          → TakesDatagram meaning setup cookies address notice held table stepped new new_table
          → TakenBy meaning setup place waiting_now held table notice message stepped new new_table
      found cookies address stepped new new_table (inl fails) = absurd (faultless message notice fails.reason read fails.is)
      found cookies address stepped new new_table (inr reads) =
          let known : reads.message ≡ message = one reads.message message notice reads.spelled read in
          let done : TakesRead (is_initial_request message.header) meaning setup cookies address notice message held table stepped new new_table =
          subst (λ (m : Message). TakesRead (is_initial_request m.header) meaning setup cookies address notice m held table stepped new new_table)
          known reads.done in
          let later : TakesFound (place_meant message.header held.associations) meaning setup notice message held table stepped new new_table =
          subst (λ (b : Bool). TakesRead b meaning setup cookies address notice message held table stepped new new_table)
          (not_initial asking 0 base base_sent child) done in
          let at : TakesAt place meaning setup notice message held table stepped new new_table =
          subst (λ (p : Result ℕ MessageFault). TakesFound p meaning setup notice message held table stepped new new_table)
          (place_is asking 0 base base_sent child held table sound place there) later in
          taken_by meaning setup place waiting_now held table notice message stepped new new_table there at

      -- it can't be refused but for memory
      for_memory : (cookies : CookieSecrets) (address : Octets) (f : IkeFault) → RefusesDatagram meaning setup cookies address notice held table f
          → is_want_of_memory f ≡ true
      for_memory cookies address (fault.Memory f) refuses = refl
      for_memory cookies address f refuses =
          let known : refuses.message ≡ message = one refuses.message message notice refuses.spelled read in
          let initial : is_initial_request message.header ≡ true = ap (λ (m : Message). is_initial_request m.header) (sym known) ∙ refuses.initial in
          absurd (true≢false (sym initial ∙ not_initial asking 0 base base_sent child))

  -- ---- what such a datagram does

  record Taken (setup : Setup) (held : Held) (place : ℕ) (table : Database) (stepped : Stepped) (new : Held) (new_table : Database) : Type 0 where
    again : Octets
    respelled : SpellsPlainly (asking_with meaning asking (Some octets)) again
    says_so : stepped ≡ stepped_of base.serial 0 (effect.Again again)
    leads : new ≡ record held { associations = slice_set held.associations place (bringing waiting_now sent octets again setup.moment) }
    table_is : new_table ≡ table

  changed_is : (setup : Setup) (again : Octets) (new : Association) → BringsCookie (asker_of meaning) setup.moment waiting_now sent 0 octets again new
      → new ≡ bringing waiting_now sent octets again setup.moment
  changed_is setup again new brings =
      brings.content
      ∙ ap (λ (out : OwnRequests Request). record waiting_now {
        outgoing = out;
        phase = phase.InitSent (record sent { cookie = Some octets; cookies_taken = sent.cookies_taken + 1 });
      }) brings.replaced.content

  taken : (setup : Setup) (table : Database) (held : Held) (sound : AreSound held table) (place : ℕ) (there : At held place waiting_now) (cookies : CookieSecrets) (address : Octets)
      (stepped : Stepped) (new : Held) (new_table : Database) → TakesDatagram meaning setup cookies address notice held table stepped new new_table
      → Taken setup held place table stepped new new_table
  taken setup table held sound place there cookies address stepped new new_table takes =
      let by = found setup table held sound place there cookies address stepped new new_table takes in
      let initial = does setup table by.effect by.changed new_table by.takes in
      let repeats = goes_on setup table by.effect by.changed initial.0 in
      record {
        again = repeats.again;
        respelled = repeats.brings.spelled;
        says_so = by.said ∙ ap (λ (x : Effect). stepped_of base.serial 0 x) repeats.said;
        leads = by.content
            ∙ ap (λ (x : Association). record held { associations = slice_set held.associations place x }) (changed_is setup repeats.again by.changed repeats.brings);
        table_is = initial.1;
      }

-- ---- the step

module _ (one : OneMessage) (plain : PlainIsSpelled) (faultless : HasNoFault) where
  pub brings_beside : {C : Type 0} (meaning_of : C → Meaning) (asking bringing_fresh : Fresh) (address request notice octets : Octets) (child : AskedChildView) (r : Passage C)
      → IsPassage meaning_of r → r.given ≡ input.Ike address notice bringing_fresh → wants_memory r.said ≡ false
      → (waits : StillWaits asking request child r.before.machine.held) → SpellsPlainly (cookie_message asking octets) notice → HasCookieLength octets
      → CanBring waits.sent octets → BringsBeside (meaning_of r.before.caller) asking request octets child r waits
  brings_beside {C} meaning_of asking bringing_fresh address request notice octets child r is given memory waits spelled long can =
      let meaning = meaning_of r.before.caller in
      let machine = r.before.machine in
      let setup = setup_at machine r.before.entries bringing_fresh in
      let held = machine.held in
      let base = waits.association in
      let so : base ≡ waits_as base waits.sent asking child = waits_so asking request child held waits in
      let sent_is : waits.sent ≡ sent_as waits.sent asking child = sent_so asking request child held waits in
      let there : At held waits.place (waits_as base waits.sent asking child) = waits.there ∙ ap Some so in
      let traces = (step_from meaning_of r r.before (input.Ike address notice bringing_fresh) is refl given).traces in
      let step = answered traces.does memory
      (for_memory one plain faultless meaning asking notice octets spelled long base waits.sent child can waits.asked waits.outstanding waits.purpose setup
      r.before.table held is.sound.machine.held waits.place there machine.cookies address) in
      let now = taken one plain faultless meaning asking notice octets spelled long base waits.sent child can waits.asked waits.outstanding waits.purpose setup
      r.before.table held is.sound.machine.held waits.place there machine.cookies address
      step.stepped r.after.machine.held r.after.table step.steps.1 in
      let brought : bringing (waits_as base waits.sent asking child) (sent_as waits.sent asking child) octets now.again machine.moment
      ≡ bringing base waits.sent octets now.again machine.moment =
      (λ i. bringing (sym so i) (sym sent_is i) octets now.again machine.moment) in
      let machine_is : r.after.machine ≡ with_at machine waits.place (bringing base waits.sent octets now.again machine.moment) =
      replaced machine r.after.machine waits.place (bringing (waits_as base waits.sent asking child) (sent_as waits.sent asking child) octets now.again machine.moment)
      (bringing base waits.sent octets now.again machine.moment) step.steps.0 now.leads brought in
      record {
        again = now.again;
        said = said_is r.said step.stepped (stepped_of base.serial 0 (effect.Again now.again)) step.output now.says_so;
        spelled = now.respelled;
        after = leads_to r.before r.after (with_at machine waits.place (bringing base waits.sent octets now.again machine.moment)) r.before.table traces.kept machine_is now.table_is;
      }

-- ---- it still waits

set_there : (xs : List Association) (place : ℕ) (a b : Association) → slice_get xs place ≡ Some a → slice_get (slice_set xs place b) place ≡ Some b
set_there [] place a b there = absurd cc
set_there (x ∷ xs) zero a b there = refl
set_there (x ∷ xs) (suc place) a b there = set_there xs place a b there

insert_waits : (m : map.FinMap nat_cmp Request) (request : Request) → map.get (map.insert m 0 request) 0 ≡ Some request
insert_waits m request =
    map.get-insert nat_cmp_total m 0 request 0 ∙ ap (λ (b : Bool). cond b (Some request) (map.get m 0)) (unsigned_tied 0 0 ∙ eq-eqb 0 0 refl)

pub waits_again : {C : Type 0} (meaning : Meaning) (asking : Fresh) (request octets : Octets) (child : AskedChildView) (r : Passage C)
    (waits : StillWaits asking request child r.before.machine.held) (brings : BringsBeside meaning asking request octets child r waits)
    → StillWaits asking brings.again child r.after.machine.held
waits_again {C} meaning asking request octets child r waits brings =
    let a = bringing waits.association waits.sent octets brings.again r.before.machine.moment in
    let asked = new_request brings.again Begin r.before.machine.moment in
    record {
      place = waits.place;
      association = a;
      there = ap (λ (s : State C). slice_get s.machine.held.associations waits.place) brings.after
          ∙ set_there r.before.machine.held.associations waits.place waits.association a waits.there;
      role = waits.role;
      spi = waits.spi;
      sent = record waits.sent { cookie = Some octets; cookies_taken = waits.sent.cookies_taken + 1 };
      phase_is = refl;
      secret = waits.secret;
      nonce = waits.nonce;
      child_is = waits.child_is;
      asked = asked;
      outstanding = insert_waits waits.association.outgoing.outstanding asked;
      octets = refl;
      purpose = refl;
    }
