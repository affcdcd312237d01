-- What an initiator holds that took the response to IKE_SA_INIT up, where it is known which keys it has then:
-- it waits for the response to IKE_AUTH. So it is of what any caller means, for the worked run.
use Rattle.std.proofs.Common.{◌≡◌, ◌+◌, ◌&&◌, ◌||◌, ℕ, Bool, true, false, Some, None, Ok, cond, ap, arith, refl, subst, sym, ◌∙◌}
use Rattle.std.specs.Prelude.{◌==◌}
use Rattle.std.proofs.lemmas.Bool.{eq-eqb, eqb-true}
use Rattle.std.specs.Cmp.{nat_cmp_total, unsigned_tied}
use Rattle.std.specs.FinMap as map
use Rattle.std.specs.List.{slice_get, slice_set}
use Rattle.std.specs.Ordering.{nat_cmp}
use Rattle.base.specs.Octets.{Octets}
use Rattle.wire.specs.Messages.{Spells, SpellsPlainly}
use Rattle.wire.specs.Numbers.{IKE_SA_INIT}
use Rattle.wire.specs.declared.message.Message.{Message}
use Rattle.policy.specs.declared.entry.Entry.{Entry}
use Rattle.suite.specs.declared.fresh.Fresh.{Fresh}
use Rattle.suite.specs.declared.key_record.KeyRecord.{KeyRecord}
use Rattle.exchange.specs.declared.headers.Role.{Role}
use Rattle.exchange.specs.declared.headers.Role.TheVariants.{Initiator, Responder}
use Rattle.requests.specs.Outgoing.{number_0_answered, OwnRequests}
use Rattle.sadb.specs.Database.{empty_table, Database}
use Rattle.sa_init.specs.declared.response.Response.{Response}
use Rattle.sa_init.specs.declared.response.Response.TheVariants as meant_as
use Rattle.association.specs.AskedChildren.{AskedChildView}
use Rattle.association.specs.Finding.{is_meant, is_waiting, place_meant, sent_by_other}
use Rattle.association.specs.Issuing.{new_request, IssuesNext}
use Rattle.association.specs.Phases.{keys_in}
use Rattle.association.specs.Purposes.{exchange_of}
use Rattle.association.specs.Receiving.{answering_reception, opened_by, reception_by, AnswersInitial, Reception}
use Rattle.association.specs.declared.phase.Association.{Association}
use Rattle.association.specs.declared.phase.InitSent.{InitSent}
use Rattle.association.specs.declared.phase.Phase.{Phase}
use Rattle.association.specs.declared.phase.Phase.TheVariants as phase
use Rattle.association.specs.declared.phase.Request.{Request}
use Rattle.association.specs.declared.purpose.Purpose.{Purpose}
use Rattle.association.specs.declared.purpose.Purpose.TheVariants.{Begin, Identify}
use Rattle.setup.specs.Configs.{Setup}
use Rattle.setup.specs.declared.config.Config.{Config}
use Rattle.association.specs.Admitting.{half_open}
use Rattle.initial.specs.Reading.{Continues, TellsIdentity}
use Rattle.initial.specs.declared.reading.Continued.{Continued}
use Rattle.initial.specs.declared.reading.Continued.TheVariants as continued
use Rattle.effects.specs.Taking.{asker_of, Does, DoesInitial, Meaning, TakesMessage}
use Rattle.effects.specs.declared.taking.Effect.{Effect}
use Rattle.ike.specs.Machines.{own_spi, setup_at, spi_by_role, Held}
use Rattle.ike.specs.Soundness.{AreSound}
use Rattle.ike.specs.Starting.{child_by}
use Rattle.gateway.specs.Histories.{IsPassage, Passage}
use Rattle.gateway.specs.Outputs.{OutputView}
use Rattle.gateway.specs.States.{State}
use Rattle.laws_opening.specs.Beside.{next_child, CanAnswer, CanBegin, IsExchangeBeside, StillWaits}
use Rattle.laws_opening.specs.Exchanged.{answering_message, keys_from}
use Rattle.laws_opening.specs.Opened.{after, first_child, holding, reserved_table, waiting, Side}
use Rattle.laws_opening.specs.Opening.{Answers, Asks, CanOpen, PutsOut}
use Rattle.laws_coming_up.specs.ComingUp.{Brings}
use Rattle.laws_coming_up.specs.ComingUpBeside.{becoming, meeting_by, AwaitsAnswer, AwaitsIdentity, HasPlace, Meeting}
use Rattle.laws_coming_up.specs.BringingUp.{AreSetUp, CanProveItself}
use Rattle.laws_coming_up.specs.BringingUpBeside.{AreSetUpBeside, CanBeKnown}
use Rattle.laws_coming_up.proofs.BesideLemmas.{identity_waits, set_there}
use Rattle.laws_coming_up.proofs.ChildLemmas.{empty_not_full, empty_not_spent}
use Rattle.laws_coming_up.proofs.SetUpLemmas.{new_can_answer, new_can_begin}
use Rattle.laws_coming_up.proofs.StepLemmas.{place_is, step_at, NoFault, OneMessage}

-- ---- the response is for the IKE SA that waits

right_in : (q : Bool) → (q || true) ≡ true
right_in true = refl
right_in false = refl

either_of : (p q b : Bool) → ((p && q) || (p && b)) ≡ true → p ≡ true
either_of true q b is = refl
either_of false q b is = absurd cc

owner : (r : Role) (spi_i spi_r x y : ℕ) (waits : Bool) → (sent_by_other r false && ((spi_i == x && spi_r == y) || (spi_i == x && waits))) ≡ true
    → spi_by_role r spi_i spi_r ≡ x
owner Initiator spi_i spi_r x y waits is = eqb-true spi_i x (either_of (spi_i == x) (spi_r == y) waits is)
owner Responder spi_i spi_r x y waits is = absurd cc

same_sent : (one other : InitSent) → phase.InitSent one ≡ phase.InitSent other → one ≡ other
same_sent one other is = cc

same_keys : (one other : KeyRecord) → Some one ≡ Some other → one ≡ other
same_keys one other is = cc

no_keys : (keys : KeyRecord) → None ≡ Some keys → ⊥
no_keys keys is = cc

no_first : (b : Bool) → (b && false && true) ≡ false
no_first true = refl
no_first false = refl

issued_is : (old new : OwnRequests Request) (request : Request) → IssuesNext old request new → new ≡ after old request new.room
issued_is old new request issued =
    issued.issued.content
    ∙ ap (λ (ready : OwnRequests Request). record ready { next = ready.next + 1; outstanding = map.insert ready.outstanding old.next request; room = new.room })
    issued.prepared.content

module _ (meaning : Meaning) (asking answering : Fresh) (request response : Octets) (child : AskedChildView) where
  abbrev message : Message
  message = answering_message meaning asking answering

  abbrev met : KeyRecord → Meeting
  met keys = record { asking = asking; answering = answering; keys = keys; request = request; response = response; child = child }

  module _ (held : Held) (table : Database) (sound : AreSound held table) (waits : StillWaits asking request child held) where
    abbrev old : Association
    old = waits.association

    is_for_it : is_meant message.header old ≡ true
    is_for_it =
        (λ i. is_meant message.header (record old { role = waits.role i; spi_i = waits.spi i; phase = waits.phase_is i }))
        ∙ ap (λ (b : Bool). (b && (old.spi_r == answering.spi)) || (b && true)) (eq-eqb asking.spi asking.spi refl)
        ∙ right_in (old.spi_r == answering.spi)

    own_is : own_spi old ≡ asking.spi
    own_is = (λ i. spi_by_role (waits.role i) (waits.spi i) old.spi_r)

    found : place_meant message.header held.associations ≡ Ok waits.place
    found =
        place_is message.header held table sound waits.place old waits.there is_for_it
        (λ c is. owner c.role c.spi_i c.spi_r asking.spi answering.spi (is_waiting c.phase) is ∙ sym own_is)

    -- it is the one that is waited for
    initial : (setup : Setup) (e : Effect) (new : Association) (new_table : Database) → TakesMessage meaning setup old table response message e new new_table
        → DoesInitial meaning setup old response message e new
    initial setup e new new_table t =
        let plain = opened_by meaning.plain_of old response message.payloads in
        let is : t.reception ≡ AnswersInitial =
        t.received ∙ (λ i. reception_by (waits.phase_is i) IKE_SA_INIT (waits.outstanding i) plain)
        ∙ ap (λ (p : Purpose). answering_reception (phase.InitSent waits.sent) (exchange_of p == IKE_SA_INIT) plain) waits.purpose in
        (subst (λ (r : Reception). Does meaning setup old table response message r e new new_table) is t.done).0

    -- it has keys then, so that it told who it is
    record Tells (setup : Setup) (sent : InitSent) (keys : KeyRecord) (new : Association) : Type 0 where
      auth : Octets
      is : TellsIdentity (asker_of meaning) setup old sent 0 message response keys auth new

    told : (setup : Setup) (sent : InitSent) (means : Response) (c : Continued) (keys : KeyRecord) (new : Association) → old.phase ≡ phase.InitSent sent
        → keys_in new.phase ≡ Some keys
        → Continues (asker_of meaning) setup old sent 0 message response means c new → Tells setup sent keys new
    told setup sent (meant_as.Cookie cookie) (continued.Again again) keys new was keyed brings =
        absurd (no_keys keys (sym (ap (λ (a : Association). keys_in a.phase) brings.content) ∙ keyed))
    told setup sent (meant_as.Keys own) (continued.AsksAuth next) keys new was keyed tells =
        let same : own ≡ keys = same_keys own keys (sym (ap (λ (a : Association). keys_in a.phase) tells.content) ∙ keyed) in
        record {
          auth = next;
          is = subst (λ (k : KeyRecord). TellsIdentity (asker_of meaning) setup old sent 0 message response k next new) same tells;
        }
    told setup sent meant_as.Unfit continued.Unfit keys new was keyed same =
        absurd (no_keys keys (sym (ap (λ (a : Association). keys_in a.phase) same ∙ ap (λ (p : Phase). keys_in p) was) ∙ keyed))
    told setup sent means c keys new was keyed none = absurd none

-- ---- the step

-- it waits for the response to IKE_AUTH, and the gateway is set as it was
pub record HasTold {C : Type 0} (d : Meeting) (r : Passage C) : Type 0 where
  pub waits : AwaitsAnswer d r.after.machine.held
  pub config : r.after.machine.config ≡ r.before.machine.config
  pub caller : r.after.caller ≡ r.before.caller

-- the IKE SA that is there afterwards told who it is
told_so_by : {C : Type 0} (meaning : Meaning) (asking answering : Fresh) (keys : KeyRecord) (request response : Octets) (child : AskedChildView) (r : Passage C)
    (waits : StillWaits asking request child r.before.machine.held) (sound : AreSound r.before.machine.held r.before.table) (setup : Setup) (sent : InitSent)
    → waits.association.phase ≡ phase.InitSent sent → (changed : Association) (table : Database) → r.after ≡ becoming r.before waits.place changed table
    → Tells meaning asking answering request response child r.before.machine.held r.before.table sound waits setup sent keys changed
    → HasTold (met meaning asking answering request response child keys) r
told_so_by {C} meaning asking answering keys request response child r waits sound setup sent was changed table after_is tells =
    let content = tells.is.content in
    let same : sent ≡ waits.sent = same_sent sent waits.sent (sym was ∙ waits.phase_is) in
    let asked : Request = new_request tells.auth Identify setup.moment in
    record {
      waits = record {
        place = waits.place;
        association = changed;
        there = ap (λ (s : State C). slice_get s.machine.held.associations waits.place) after_is
            ∙ set_there r.before.machine.held.associations waits.place waits.association changed waits.there;
        spi_i = ap (λ (x : Association). x.spi_i) content ∙ waits.spi;
        spi_r = ap (λ (x : Association). x.spi_r) content;
        phase_is = ap (λ (x : Association). x.phase) content
            ∙ ap (λ (x : InitSent). phase.AuthSent (record { keys = keys; first = response; child = x.child })) same
            ∙ ap (λ (x : AskedChildView). phase.AuthSent (record { keys = keys; first = response; child = x })) waits.child_is;
        asked = asked;
        outstanding = ap (λ (out : OwnRequests Request). map.get out.outstanding 1) (issued_is number_0_answered changed.outgoing asked tells.is.issued) ∙ identity_waits asked;
      };
      config = ap (λ (s : State C). s.machine.config) after_is;
      caller = ap (λ (s : State C). s.caller) after_is;
    }

-- so it is where that has these keys
pub has_told : {C : Type 0} (one_message : OneMessage) (no_fault : NoFault) (meaning_of : C → Meaning) (asking answering : Fresh) (keys : KeyRecord) (request response : Octets)
    (child : AskedChildView) (r : Passage C) (waits : StillWaits asking request child r.before.machine.held) → IsPassage meaning_of r → Brings response r
    → Spells (answering_message (meaning_of r.before.caller) asking answering) response
    → ((a : Association) → r.after.machine.held.associations ≡ slice_set r.before.machine.held.associations waits.place a → keys_in a.phase ≡ Some keys)
    → HasTold (met (meaning_of r.before.caller) asking answering request response child keys) r
has_told {C} one_message no_fault meaning_of asking answering keys request response child r waits is brings spelled keyed =
    let meaning = meaning_of r.before.caller in
    let held = r.before.machine.held in
    let sound = is.sound.machine.held in
    let setup = setup_at r.before.machine r.before.entries brings.fresh in
    let m = answering_message meaning asking answering in
    let meant = found meaning asking answering request response child held r.before.table sound waits in
    let step = step_at one_message no_fault r response m spelled (no_first (answering.spi == 0)) waits.place waits.association waits.there meant meaning_of is brings in
    let does = initial meaning asking answering request response child held r.before.table sound waits setup step.effect step.changed step.new_table step.takes in
    let has_keys : keys_in step.changed.phase ≡ Some keys = keyed step.changed (ap (λ (s : State C). s.machine.held.associations) step.after) in
    let tells = told meaning asking answering request response child held r.before.table sound waits setup does.read.sent does.read.response does.continued keys
    step.changed does.read.was has_keys does.read.continues in
    told_so_by meaning asking answering keys request response child r waits sound setup does.read.sent does.read.was step.changed step.new_table step.after tells

-- the first request of all waits for its answer
abbrev none_out : map.FinMap nat_cmp Request
none_out = map.empty

pub first_waits : (request : Request) → map.get (map.insert none_out 0 request) 0 ≡ Some request
first_waits request =
    map.get-insert nat_cmp_total none_out 0 request 0 ∙ ap (λ (b : Bool). cond b (Some request) (map.get none_out 0)) (unsigned_tied 0 0 ∙ eq-eqb 0 0 refl)

-- ---- both exchanges, of two new gateways, where it is known which keys the one has

module _ {C : Type 0} (one_message : OneMessage) (no_fault : NoFault) (plain : (m : Message) (b : Octets) → SpellsPlainly m b → Spells m b) (meaning : Meaning) (one other : Side)
    (a b : C) (place : ℕ) (entry : Entry) (asking answering reading : Fresh) (shared : Octets) (p q r s t : Passage C)
    (can : CanOpen meaning one place entry asking answering shared) (one_can : CanProveItself one other meaning meaning) (other_can : CanProveItself other one meaning meaning)
    (are : AreSetUp (λ _. meaning) one other a b place asking answering reading p q r s t)
    (asks : Asks meaning one a asking entry p) (answers : Answers meaning other b asking answering shared are.opens.request q)
    (keyed : (x : Association) → r.after.machine.held.associations ≡ slice_set r.before.machine.held.associations 0 x → keys_in x.phase ≡ Some (keys_from shared asking answering)) where
  abbrev pub child : AskedChildView
  child = next_child entry p.before

  abbrev pub keys : KeyRecord
  keys = keys_from shared asking answering

  pub request_is : asks.request ≡ are.opens.request
  request_is = subst (λ (said : OutputView). PutsOut said are.opens.request) asks.said are.opens.sent

  response_is : answers.response ≡ are.opens.response
  response_is = subst (λ (said : OutputView). PutsOut said are.opens.response) answers.said are.opens.sent_back

  pub was : r.before ≡ holding one (waiting one asking entry asks.request asks.spare) (reserved_table one.start asks.room) a
  was = are.opens.waits ∙ asks.after

  pub child_is : first_child one entry ≡ child
  child_is =
      let first : one.start ≡ one.start + 0 = omega arith in
      ap (λ (spi : ℕ). child_by entry spi one.config.extended) first ∙ ap (λ (x : State C). next_child entry x) (sym are.opens.told.new)

  abbrev pub still_waits : StillWaits asking are.opens.request child r.before.machine.held
  still_waits = record {
    place = 0;
    association = waiting one asking entry asks.request asks.spare;
    there = ap (λ (x : State C). slice_get x.machine.held.associations 0) was;
    role = refl;
    spi = refl;
    sent = record { secret = asking.secret; nonce = asking.nonce; cookie = None; cookies_taken = 0; child = first_child one entry };
    phase_is = refl;
    secret = refl;
    nonce = refl;
    child_is = child_is;
    asked = new_request asks.request Begin 0;
    outstanding = first_waits (new_request asks.request Begin 0);
    octets = request_is;
    purpose = refl;
  }

  abbrev pub opens_beside : IsExchangeBeside (λ (x : C). meaning) place entry asking answering reading p q r
  opens_beside = record {
    begins = are.opens.begins;
    told = are.opens.told.given;
    can_begin = subst (λ (x : State C). CanBegin place entry asking x) (sym are.opens.told.new) (new_can_begin one a place entry asking can.protects can.asking_drawn.nonzero);
    memory = are.opens.told.memory;
    request = are.opens.request;
    sent = are.opens.sent;
    answers = are.opens.answers;
    address = are.opens.asked.address;
    asked = are.opens.asked.given;
    can_answer =
        subst (λ (x : State C). CanAnswer are.opens.request answering.spi x.machine.held) (sym are.opens.asked.new)
        (new_can_answer are.opens.request answering can.answering_drawn.nonzero);
    memory_there = are.opens.asked.memory;
    response = are.opens.response;
    sent_back = are.opens.sent_back;
    reads = are.opens.reads;
    address_back = are.opens.address;
    given = are.opens.given;
    waits = still_waits;
    memory_back = are.opens.memory;
  }

  abbrev d : Meeting
  d = meeting_by asking answering shared are.opens.request are.opens.response child

  told_so : HasTold d r
  told_so =
      has_told one_message no_fault (λ (x : C). meaning) asking answering keys are.opens.request are.opens.response child r still_waits are.opens.reads
      (record { from = are.opens.address; fresh = reading; seal = are.seal; given = are.opens.given; memory = are.opens.memory })
      (plain (answering_message meaning asking answering) are.opens.response
      (subst (λ (octets : Octets). SpellsPlainly (answering_message meaning asking answering) octets) response_is answers.spelled))
      keyed

  abbrev half : Association
  half = half_open 1 asking.spi answering.spi keys are.opens.request answers.response 0

  other_is : s.before ≡ holding other half (empty_table other.start) b
  other_is = are.then_other ∙ answers.after

  one_config : t.before.machine.config ≡ one.config
  one_config = ap (λ (x : State C). x.machine.config) are.then_one ∙ told_so.config ∙ ap (λ (x : State C). x.machine.config) was

  other_config : s.before.machine.config ≡ other.config
  other_config = ap (λ (x : State C). x.machine.config) other_is

  half_open_so : AwaitsIdentity d s.before.machine.held
  half_open_so = record {
    place = 0;
    association = half;
    there = ap (λ (x : State C). slice_get x.machine.held.associations 0) other_is;
    spi_i = refl;
    spi_r = refl;
    made = 0;
    phase_is = ap (λ (octets : Octets). phase.HalfOpen (record { keys = keys; request = are.opens.request; reply = octets; made = 0 })) response_is;
  }

  known_so : (own their : Side) (config theirs : Config) → config ≡ own.config → theirs ≡ their.config → CanProveItself own their meaning meaning
      → CanBeKnown config theirs meaning meaning
  known_so own their config theirs same same_too proves =
      subst (λ (x : Config). CanBeKnown x theirs meaning meaning) (sym same)
      (subst (λ (x : Config). CanBeKnown own.config x meaning meaning) (sym same_too) (record { named = proves.named; proved = proves.proved }))

  pub set_up_told : AreSetUpBeside (λ (x : C). meaning) place entry asking answering reading shared p q r s t
  set_up_told = record {
    opens = opens_beside;
    agrees = can.agrees;
    asking_drawn = can.asking_drawn;
    answering_drawn = can.answering_drawn;
    asking_nonce = are.asking_nonce;
    answering_nonce = are.answering_nonce;
    seal = are.seal;
    accepts = are.accepts;
    asked = are.asked;
    half_open = half_open_so;
    concludes = are.concludes;
    answered = are.answered;
    waits = subst (λ (x : State C). AwaitsAnswer d x.machine.held) (sym are.then_one) told_so.waits;
    config_stays = ap (λ (x : State C). x.machine.config) are.then_one ∙ told_so.config;
    caller_stays = ap (λ (x : State C). x.caller) are.then_one ∙ told_so.caller;
    one_known = known_so one other t.before.machine.config s.before.machine.config one_config other_config one_can;
    other_known = known_so other one s.before.machine.config t.before.machine.config other_config one_config other_can;
  }

  pub has_place_there : HasPlace s.before.table
  has_place_there =
      subst (λ (x : State C). HasPlace x.table) (sym other_is) (record { not_full = empty_not_full other.start; not_spent = empty_not_spent other.start })
