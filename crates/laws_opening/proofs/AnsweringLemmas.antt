-- A gateway to which a request of IKE_SA_INIT comes that it accepts: no case is left but that it answers,
-- and has keys. A new one is such a gateway.
use Rattle.std.proofs.Common.{◌≡◌, ◌≢◌, ◌<◌, ◌∷◌, ◌⊎◌, inl, inr, ℕ, Bool, true, false, not, length, List, None, Option, Some, [], ap, arith, refl, subst, sym, ◌∙◌}
use Rattle.std.proofs.lemmas.Bool.{ne_eqb, true≢false}
use Rattle.std.proofs.lemmas.Option.{none-some, same_Some}
use Rattle.std.specs.List.{position}
use Rattle.base.specs.Octets.{Octets}
use Rattle.wire.specs.Messages.{Spells, SpellsPlainly}
use Rattle.wire.specs.Refusals.{IsFaultOf}
use Rattle.wire.specs.declared.fault.WireFault.{WireFault}
use Rattle.wire.specs.declared.message.Message.{Message}
use Rattle.wire.specs.declared.payload.Payload.{Payload}
use Rattle.suite.specs.Choice.{HasSpi, IsAcceptableProposal, IsChosenProposal}
use Rattle.suite.specs.Offers.{offer_of}
use Rattle.suite.specs.declared.choice.Wanted.{Wanted}
use Rattle.suite.specs.declared.fresh.Fresh.{Fresh}
use Rattle.suite.specs.declared.key_record.KeyRecord.{KeyRecord}
use Rattle.suite.specs.declared.sealer.Cipher.{Cipher}
use Rattle.sadb.specs.Database.{Database}
use Rattle.sa_init.specs.Cookies.{CookieSecrets}
use Rattle.sa_init.specs.Judging.{ASSOCIATION_LIMIT, COOKIE_THRESHOLD, HALF_OPEN_LIMIT, Accepted, BringsRightCookie, IsAccepted, IsJudgement, IsWhole, JudgementView, OfferView}
use Rattle.sa_init.specs.Messages.{ike_wanted}
use Rattle.sa_init.specs.Parts.{PartsView}
use Rattle.sa_init.specs.declared.judging.Sender.{Sender}
use Rattle.association.specs.declared.phase.Association.{Association}
use Rattle.association.specs.Admitting.{half_open}
use Rattle.setup.specs.Configs.{Setup}
use Rattle.effects.specs.Taking.{Meaning}
use Rattle.ike.specs.Faults.{is_want_of_memory}
use Rattle.ike.specs.Machines.{half_open_count, is_bad_spi, none_held, setup_at, Held, SERIAL_END}
use Rattle.ike.specs.Outputs.{half_open_step}
use Rattle.ike.specs.Receiving.{is_answered, is_initial_request, is_sound_initial, sender_of, AdmitsNext, CannotMake, DoesJudgement, IsJudged, RefusesDatagram, TakesDatagram, TakesNew, TakesOffer, TakesRead, TakesRequestAt, TakesSound, with_next}
use Rattle.ike.specs.declared.fault.IkeFault.{IkeFault}
use Rattle.ike.specs.declared.fault.IkeFault.TheVariants as fault
use Rattle.ike.specs.declared.output.Stepped.{Stepped}
use Rattle.gateway.specs.Histories.{IsPassage, Passage}
use Rattle.gateway.specs.Inputs as input
use Rattle.gateway.specs.Outputs.{wants_memory}
use Rattle.gateway.specs.States.{State}
use Rattle.laws_opening.specs.Opened.{made, Side}
use Rattle.laws_opening.specs.Opening.{Answers, IsAsked}
use Rattle.laws_opening.specs.Exchanged.{answering_message, asking_message, keys_from, only_choice}
use Rattle.laws_opening.specs.Beside.{with_half_open, AnswersBeside, CanAnswer}
use Rattle.laws_opening.specs.UnderLoad.{asking_with, CanAnswerUnderLoad}
use Rattle.laws_opening.proofs.StepLemmas.{answered, leads_to, said_is, step_from, usable}

-- the laws of other crates
abbrev pub OneMessage : Type 0
OneMessage = (m n : Message) (b : Octets) → Spells m b → Spells n b → m ≡ n

abbrev pub PlainIsSpelled : Type 0
PlainIsSpelled = (m : Message) (b : Octets) → SpellsPlainly m b → Spells m b

abbrev pub HasNoFault : Type 0
HasNoFault = (m : Message) (b : Octets) (f : WireFault) → Spells m b → ¬ IsFaultOf b f

abbrev pub OffersAreAcceptable : Type 0
OffersAreAcceptable = (wanted : Wanted) (spi : List ℕ) → HasSpi wanted spi → IsAcceptableProposal wanted (offer_of wanted spi)

abbrev pub OneJudgement : Type 0
OneJudgement =
    (cipher : Cipher) (group : ℕ) (secrets : CookieSecrets) (sender : Sender) (half_open held : ℕ) (payloads : List Payload) (one other : JudgementView)
    → IsJudgement cipher group secrets sender half_open held payloads one → IsJudgement cipher group secrets sender half_open held payloads other → one ≡ other

-- ---- the one proposal is chosen

abbrev wanted_by : Meaning → Wanted
wanted_by meaning = ike_wanted meaning.cipher meaning.group

pub chosen : OffersAreAcceptable → (meaning : Meaning) → IsChosenProposal (wanted_by meaning) (offer_of (wanted_by meaning) [] ∷ []) only_choice
chosen acceptable meaning = record {
  proposal = offer_of (wanted_by meaning) [];
  here = refl;
  acceptable = acceptable (wanted_by meaning) [] refl;
  first = λ k other below. absurd (omega (arith, below));
  number = refl;
  numbers = refl;
}

-- what the request offers
abbrev pub offered : Meaning → Fresh → OfferView
offered meaning asking = record { chosen = only_choice; public = meaning.public_value asking.secret; nonce = asking.nonce }

abbrev pub asked_parts : Meaning → Fresh → PartsView
asked_parts meaning asking = record { proposals = offer_of (wanted_by meaning) [] ∷ []; group = meaning.group; public = meaning.public_value asking.secret; nonce = asking.nonce }

-- the request is whole, with a cookie or none
pub asked_whole : (meaning : Meaning) (asking : Fresh) (cookie : Option Octets) → IsWhole (asking_with meaning asking cookie).payloads (asked_parts meaning asking)
asked_whole meaning asking None = record { known = refl; complete = record { sa = refl; ke = refl; ni = refl } }
asked_whole meaning asking (Some octets) = record { known = refl; complete = record { sa = refl; ke = refl; ni = refl } }

-- it is accepted, where it needs no cookie or brings a right one, and there is room
pub accepted : OffersAreAcceptable → (meaning : Meaning) (asking : Fresh) (cookie : Option Octets) (secrets : CookieSecrets) (sender : Sender) (half_open held : ℕ)
    → (half_open < COOKIE_THRESHOLD) ⊎ BringsRightCookie secrets sender (asking_with meaning asking cookie).payloads asking.nonce
    → half_open < HALF_OPEN_LIMIT → held < ASSOCIATION_LIMIT
    → IsAccepted meaning.cipher meaning.group secrets sender half_open held (asking_with meaning asking cookie).payloads (offered meaning asking)
accepted acceptable meaning asking cookie secrets sender half_open held reached few place = record {
  parts = asked_parts meaning asking;
  considered = record {
    heard = record { whole = asked_whole meaning asking cookie; reached = reached };
    opening = few;
    holding = place;
  };
  suited = record { same_group = refl; choice = chosen acceptable meaning };
  value = refl;
  ni = refl;
}

sound_initial : (meaning : Meaning) (asking : Fresh) → asking.spi ≢ 0 → is_sound_initial (asking_message meaning asking).header ≡ true
sound_initial meaning asking named = ap not (ne_eqb asking.spi 0 named)

-- ---- the step, of a machine to which these octets are new

module _ (one : OneMessage) (plain : PlainIsSpelled) (faultless : HasNoFault) (judged_once : OneJudgement) (meaning : Meaning) (asking : Fresh) (cookie : Option Octets)
    (request : Octets) (spelled : SpellsPlainly (asking_with meaning asking cookie) request) (asking_named : asking.spi ≢ 0) (setup : Setup) (old : Held)
    (first : position (is_answered request) old.associations ≡ None) where
  abbrev message : Message
  message = asking_with meaning asking cookie

  known : (m : Message) → Spells m request → m ≡ message
  known m read = one m message request read (plain message request spelled)

  -- the judgement of it
  abbrev pub IsJudgedAs : CookieSecrets → Octets → JudgementView → Type 0
  IsJudgedAs cookies address judgement = IsJudged meaning cookies old address message judgement

  module _ (cookies : CookieSecrets) (address : Octets) (table : Database) (stepped : Stepped) (new : Held) (new_table : Database) where
    takes_sound : (b : Bool) → b ≡ true → TakesSound b meaning setup cookies address request message old stepped new
        → TakesNew meaning setup cookies address request message old stepped new
    takes_sound true is takes =
        subst (λ (place : Option ℕ). TakesRequestAt place meaning setup cookies address request message old stepped new) first takes
    takes_sound false is takes = absurd (true≢false (sym is))

    takes_new : TakesDatagram meaning setup cookies address request old table stepped new new_table
        → TakesNew meaning setup cookies address request message old stepped new × (new_table ≡ table)
    takes_new (inl fails) = absurd (faultless message request fails.reason (plain message request spelled) fails.is)
    takes_new (inr reads) =
        let done : TakesRead true meaning setup cookies address request message old table stepped new new_table =
        subst (λ (m : Message). TakesRead (is_initial_request m.header) meaning setup cookies address request m old table stepped new new_table)
        (known reads.message reads.spelled) reads.done in
        (takes_sound (is_sound_initial message.header) (sound_initial meaning asking asking_named) done.0, done.1)

    does_judgement : (judgement : JudgementView) → IsJudgedAs cookies address judgement
        → TakesNew meaning setup cookies address request message old stepped new
        → DoesJudgement meaning setup asking.spi request judgement old stepped new
    does_judgement judgement judged takes =
        let same : takes.judgement ≡ judgement =
        judged_once meaning.cipher meaning.group cookies (sender_of address message.header) (half_open_count old.associations) (length old.associations) message.payloads
        takes.judgement judgement takes.judged judged in
        subst (λ (j : JudgementView). DoesJudgement meaning setup asking.spi request j old stepped new) same takes.done

    -- what such a datagram does, by how it is judged
    pub does : (judgement : JudgementView) → IsJudgedAs cookies address judgement
        → TakesDatagram meaning setup cookies address request old table stepped new new_table
        → DoesJudgement meaning setup asking.spi request judgement old stepped new × (new_table ≡ table)
    does judgement judged takes =
        let is = takes_new takes in
        (does_judgement judgement judged is.0, is.1)

    -- it answers, and an IKE SA is half open then
    record HalfOpens (shared : Octets) : Type 0 where
      response : Octets
      answer_spelled : SpellsPlainly (answering_message meaning asking setup.fresh) response
      says : stepped ≡ half_open_step old.next response
      leads : new ≡ with_next old (half_open old.next asking.spi setup.fresh.spi (keys_from shared asking setup.fresh) request response setup.moment)

    half_opens : (shared : Octets) → meaning.shared_secret setup.fresh.secret (meaning.public_value asking.secret) ≡ Some shared
        → AdmitsNext meaning setup (offered meaning asking) asking.spi request old stepped new → HalfOpens shared
    half_opens shared agrees next =
        let agreed = next.admits.agreed in
        let answer = next.admits.answer in
        let same : answer.shared ≡ shared = same_Some answer.shared shared (sym answer.agrees ∙ agrees) in
        let keys : agreed.record ≡ keys_from shared asking setup.fresh = answer.keys ∙ ap (λ (s : Octets). keys_from s asking setup.fresh) same in
        record {
          response = agreed.octets;
          answer_spelled = answer.spelled;
          says = next.said ∙ ap (λ (o : Octets). half_open_step old.next o) next.admits.octets;
          leads = next.content
              ∙ ap (λ (a : Association). with_next old a)
              (next.admits.content ∙ ap (λ (k : KeyRecord). half_open old.next asking.spi setup.fresh.spi k request agreed.octets setup.moment) keys);
        }

    opens : (shared : Octets) → meaning.shared_secret setup.fresh.secret (meaning.public_value asking.secret) ≡ Some shared
        → TakesOffer meaning setup (offered meaning asking) asking.spi request old stepped new → HalfOpens shared
    opens shared agrees takes = elim takes.done [
      | inl (none, _) ↦ absurd (none-some shared (sym none ∙ agrees))
      | inr next ↦ half_opens shared agrees next
    ]

    -- what such a datagram does
    record Taken (shared : Octets) : Type 0 where
      open_now : HalfOpens shared
      table_is : new_table ≡ table

    taken : (shared : Octets) → meaning.shared_secret setup.fresh.secret (meaning.public_value asking.secret) ≡ Some shared
        → IsJudgedAs cookies address (Accepted (offered meaning asking))
        → TakesDatagram meaning setup cookies address request old table stepped new new_table → Taken shared
    taken shared agrees judged takes =
        let is = does (Accepted (offered meaning asking)) judged takes in
        record { open_now = opens shared agrees is.0; table_is = is.1 }

  -- ---- it can't be refused but for memory

  module _ (serial : old.next < SERIAL_END) (can_be : is_bad_spi setup.fresh.spi old.associations ≡ false) where
    cannot : (f : IkeFault) → CannotMake old setup.fresh.spi f → is_want_of_memory f ≡ true
    cannot fault.NumbersSpent spent = absurd (omega (arith, spent, serial))
    cannot fault.BadFresh bad = absurd (true≢false (sym bad.1 ∙ can_be))
    cannot (fault.Memory f) none = refl
    cannot f none = absurd none

    for_memory : (cookies : CookieSecrets) (address : Octets) (table : Database) (f : IkeFault) → RefusesDatagram meaning setup cookies address request old table f
        → is_want_of_memory f ≡ true
    for_memory cookies address table (fault.Memory f) refuses = refl
    for_memory cookies address table f refuses = cannot f refuses.refused.why

-- a new gateway has room
pub new_can_answer : (request : Octets) (answering : Fresh) → answering.spi ≢ 0 → CanAnswer request answering.spi none_held
new_can_answer request answering named = record {
  few = omega arith;
  place = omega arith;
  serial = omega arith;
  usable = usable answering.spi named;
  first = refl;
}

-- ---- the step

module _ (one : OneMessage) (plain : PlainIsSpelled) (faultless : HasNoFault) (acceptable : OffersAreAcceptable) (judged_once : OneJudgement) where
  -- a request that is accepted is answered, whether it brings a cookie or not
  pub answers_with : {C : Type 0} (meaning_of : C → Meaning) (asking answering : Fresh) (cookie : Option Octets) (shared address request : Octets) (q : Passage C)
      → IsPassage meaning_of q → q.given ≡ input.Ike address request answering → wants_memory q.said ≡ false
      → CanAnswerUnderLoad request answering.spi q.before.machine.held
      → (half_open_count q.before.machine.held.associations < COOKIE_THRESHOLD)
      ⊎ BringsRightCookie q.before.machine.cookies (record { address = address; spi_i = asking.spi }) (asking_with (meaning_of q.before.caller) asking cookie).payloads asking.nonce
      → SpellsPlainly (asking_with (meaning_of q.before.caller) asking cookie) request → asking.spi ≢ 0
      → (meaning_of q.before.caller).shared_secret answering.secret ((meaning_of q.before.caller).public_value asking.secret) ≡ Some shared
      → AnswersBeside (meaning_of q.before.caller) asking answering shared request q
  answers_with {C} meaning_of asking answering cookie shared address request q is given memory can reached spelled named agrees =
      let meaning = meaning_of q.before.caller in
      let machine = q.before.machine in
      let held = machine.held in
      let setup = setup_at machine q.before.entries answering in
      let traces = (step_from meaning_of q q.before (input.Ike address request answering) is refl given).traces in
      let step = answered traces.does memory
      (for_memory one plain faultless judged_once meaning asking cookie request spelled named setup held can.first can.serial can.usable machine.cookies address q.before.table) in
      let judged = accepted acceptable meaning asking cookie machine.cookies (record { address = address; spi_i = asking.spi })
      (half_open_count held.associations) (length held.associations) reached can.few can.place in
      let is_taken = taken one plain faultless judged_once meaning asking cookie request spelled named setup held can.first machine.cookies address q.before.table
      step.stepped q.after.machine.held q.after.table shared agrees judged step.steps.1 in
      let now = is_taken.open_now in
      let machine_is : q.after.machine ≡ record machine {
        held = with_next held (half_open held.next asking.spi answering.spi (keys_from shared asking answering) request now.response machine.moment);
      } = step.steps.0 ∙ ap (λ (h : Held). record machine { held = h }) now.leads in
      record {
        response = now.response;
        said = said_is q.said step.stepped (half_open_step held.next now.response) step.output now.says;
        spelled = now.answer_spelled;
        after = leads_to q.before q.after (with_half_open machine asking.spi answering.spi (keys_from shared asking answering) request now.response) q.before.table traces.kept
            machine_is is_taken.table_is;
      }

  pub answers_beside : {C : Type 0} (meaning_of : C → Meaning) (asking answering : Fresh) (shared address request : Octets) (q : Passage C) → IsPassage meaning_of q
      → q.given ≡ input.Ike address request answering → wants_memory q.said ≡ false → CanAnswer request answering.spi q.before.machine.held
      → SpellsPlainly (asking_message (meaning_of q.before.caller) asking) request → asking.spi ≢ 0
      → (meaning_of q.before.caller).shared_secret answering.secret ((meaning_of q.before.caller).public_value asking.secret) ≡ Some shared
      → AnswersBeside (meaning_of q.before.caller) asking answering shared request q
  answers_beside {C} meaning_of asking answering shared address request q is given memory can spelled named agrees =
      let few = can.few in
      answers_with meaning_of asking answering None shared address request q is given memory
      (record { few = omega (arith, few); place = can.place; serial = can.serial; usable = can.usable; first = can.first }) (inl few) spelled named agrees

  -- so does a new one
  pub answers : {C : Type 0} (meaning_of : C → Meaning) (side : Side) (caller : C) (asking answering : Fresh) (shared request : Octets) (q : Passage C)
      → IsPassage meaning_of q → IsAsked side caller request answering q → SpellsPlainly (asking_message (meaning_of caller) asking) request → asking.spi ≢ 0
      → answering.spi ≢ 0
      → (meaning_of caller).shared_secret answering.secret ((meaning_of caller).public_value asking.secret) ≡ Some shared
      → Answers (meaning_of caller) side caller asking answering shared request q
  answers {C} meaning_of side caller asking answering shared request q is asked spelled asking_named answering_named agrees =
      let was : made side caller ≡ q.before = sym asked.new in
      let can = new_can_answer request answering answering_named in
      let beside = answers_beside meaning_of asking answering shared asked.address request q is asked.given asked.memory
      (subst (λ (s : State C). CanAnswer request answering.spi s.machine.held) was can)
      (subst (λ (s : State C). SpellsPlainly (asking_message (meaning_of s.caller) asking) request) was spelled) asking_named
      (subst (λ (s : State C). (meaning_of s.caller).shared_secret answering.secret ((meaning_of s.caller).public_value asking.secret) ≡ Some shared) was agrees) in
      record {
        response = beside.response;
        said = beside.said;
        spelled = subst (λ (s : State C). SpellsPlainly (answering_message (meaning_of s.caller) asking answering) beside.response) asked.new beside.spelled;
        after = beside.after
            ∙ ap (λ (s : State C). record s { machine = with_half_open s.machine asking.spi answering.spi (keys_from shared asking answering) request beside.response }) asked.new;
      }
