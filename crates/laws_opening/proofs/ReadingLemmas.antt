-- The response comes to the gateway that waits for it: no case is left but that it takes the keys, and tells
-- who it is.
use Rattle.std.proofs.Common.{◌≡◌, ◌≢◌, ◌∷◌, ◌&&◌, ◌||◌, inl, inr, ℕ, zero, suc, Bool, List, arith, true, false, None, Option, Some, [], Result, Ok, ap, refl, subst, sym, ◌∙◌}
use Rattle.std.specs.Prelude.{◌==◌}
use Rattle.std.proofs.lemmas.Bool.{cases_order, eq-eqb, eqb-true, true≢false}
use Rattle.std.proofs.lemmas.Grind.{common_steps}
use Rattle.std.proofs.lemmas.List.Quantifiers.{position-Some}
use Rattle.std.proofs.lemmas.Option.{same_Some, slice_get-get_or}
use Rattle.std.specs.FinMap as map
use Rattle.std.specs.List.{position, slice_get, slice_index_or, slice_set}
use Rattle.base.specs.Octets.{Octets}
use Rattle.wire.specs.Messages.{Spells, SpellsPlainly}
use Rattle.wire.specs.Numbers.{IKE_SA_INIT}
use Rattle.wire.specs.declared.message.Header.{Header}
use Rattle.wire.specs.declared.message.Message.{Message}
use Rattle.suite.specs.Callers.{IsSecret}
use Rattle.suite.specs.declared.fresh.Fresh.{Fresh}
use Rattle.suite.specs.declared.key_record.KeyRecord.{KeyRecord}
use Rattle.suite.specs.declared.sealer.Cipher.{Cipher}
use Rattle.exchange.specs.Headers.{keys_of, sent_header}
use Rattle.exchange.specs.Sealed.{IsSealed}
use Rattle.exchange.specs.declared.headers.Role.{Role}
use Rattle.exchange.specs.declared.headers.Role.TheVariants.{Initiator, Responder}
use Rattle.requests.specs.Outgoing.{number_0_answered, OwnRequests}
use Rattle.sadb.specs.Database.{Database}
use Rattle.sa_init.specs.Agreement.{IsAnswer}
use Rattle.sa_init.specs.Cookies.{CookieSecrets}
use Rattle.sa_init.specs.Judging.{OfferView}
use Rattle.sa_init.specs.Messages.{ike_wanted}
use Rattle.sa_init.specs.Reading.{GivesKeys, IsResponse, IsSameResponse, WaitingView}
use Rattle.sa_init.specs.declared.answers.Agreed.{Agreed}
use Rattle.sa_init.specs.declared.response.Response.{Response}
use Rattle.sa_init.specs.declared.response.Response.TheVariants as meant_as
use Rattle.suite.specs.Choice.{IsChosenProposal}
use Rattle.suite.specs.Offers.{offer_of}
use Rattle.association.specs.AskedChildren.{AskedChildView}
use Rattle.association.specs.Finding.{is_meant, is_waiting, place_meant, place_or, missing, sent_by_other}
use Rattle.association.specs.Purposes.{exchange_of}
use Rattle.association.specs.Issuing.{new_request}
use Rattle.association.specs.Receiving.{answering_reception, opened_by, reception_by, AnswersInitial, Reception}
use Rattle.association.specs.declared.fault.MessageFault.{MessageFault}
use Rattle.association.specs.declared.phase.Association.{Association}
use Rattle.association.specs.declared.phase.InitSent.{InitSent}
use Rattle.association.specs.declared.phase.Phase.TheVariants as phase
use Rattle.association.specs.declared.phase.Request.{Request}
use Rattle.association.specs.declared.purpose.Purpose.{Purpose}
use Rattle.association.specs.declared.purpose.Purpose.TheVariants.{Begin, Identify}
use Rattle.setup.specs.Configs.{Setup}
use Rattle.initial.specs.Reading.{identity_message, waiting_of, Asker, Continues, TellsIdentity}
use Rattle.initial.specs.declared.reading.Continued.{Continued}
use Rattle.initial.specs.declared.reading.Continued.TheVariants as continued
use Rattle.effects.specs.Taking.{asker_of, Does, DoesInitial, Meaning, Says, TakesMessage}
use Rattle.effects.specs.declared.taking.Effect.{Effect}
use Rattle.effects.specs.declared.taking.Effect.TheVariants as effect
use Rattle.ike.specs.Faults.{is_want_of_memory}
use Rattle.ike.specs.Machines.{own_spi, setup_at, spi_by_role, Held, Machine}
use Rattle.ike.specs.Steps as ike
use Rattle.ike.specs.Soundness.{AreSound, At}
use Rattle.ike.specs.Outputs.{stepped_of}
use Rattle.ike.specs.Receiving.{is_initial_request, RefusesDatagram, TakesAt, TakesDatagram, TakesFound, TakesRead}
use Rattle.ike.specs.declared.fault.IkeFault.{IkeFault}
use Rattle.ike.specs.declared.fault.IkeFault.TheVariants as fault
use Rattle.ike.specs.declared.output.Stepped.{Stepped}
use Rattle.gateway.specs.Histories.{IsPassage, Passage}
use Rattle.gateway.specs.Inputs as input
use Rattle.gateway.specs.Outputs.{wants_memory}
use Rattle.gateway.specs.States.{State}
use Rattle.laws_opening.specs.Beside.{told_by, with_at, StillWaits, TakesUpBeside}
use Rattle.laws_opening.specs.Opened.{asked_child, holding, reserved_table, telling_message, waiting, Opening, Side}
use Rattle.laws_opening.specs.Opening.{IsAnswered, TakesUp}
use Rattle.laws_opening.specs.Exchanged.{answering_message, keys_from, IsDrawn}
use Rattle.laws_opening.proofs.AnsweringLemmas.{chosen, offered, HasNoFault, OffersAreAcceptable, OneMessage, PlainIsSpelled}
use Rattle.laws_opening.proofs.StepLemmas.{answered, first_waits, issued_is, leads_to, said_is, step_from}

-- the laws of other crates, of one agreement
abbrev pub ReadsKeys : (Octets → Octets) → (Octets → Octets → Option Octets) → Type 0
ReadsKeys public_value shared_secret =
    (cipher : Cipher) (group : ℕ) (sent : WaitingView) (offer : OfferView) (fresh : Fresh) (agreed : Agreed) (m : Message)
    → IsSecret sent.secret → IsSecret fresh.secret → offer.public ≡ public_value sent.secret → offer.nonce ≡ sent.nonce
    → IsChosenProposal (ike_wanted cipher group) (offer_of (ike_wanted cipher group) [] ∷ []) offer.chosen → fresh.spi ≢ 0
    → IsAnswer cipher group public_value shared_secret offer sent.spi_i fresh agreed → Spells m agreed.octets
    → GivesKeys cipher group shared_secret sent m agreed.record

abbrev pub OneResponse : Type 0
OneResponse =
    (cipher : Cipher) (group : ℕ) (shared_secret : Octets → Octets → Option Octets) (sent : WaitingView) (m : Message) (one other : Response)
    → IsResponse cipher group shared_secret sent m one → IsResponse cipher group shared_secret sent m other → IsSameResponse one other

-- ---- which IKE SA the response is for

-- where none is found, none passes
none_after : (p : Association → Bool) (x : Association) (xs : List Association) → position p (x ∷ xs) ≡ None → (p x ≡ false) × (position p xs ≡ None)
none_after p x xs none = grind (arith, common_steps)

none_passes : (p : Association → Bool) (xs : List Association) → position p xs ≡ None → (k : ℕ) (c : Association) → slice_get xs k ≡ Some c → p c ≡ false
none_passes p [] none k c there = absurd cc
none_passes p (x ∷ xs) none zero c there = ap p (sym (same_Some x c there)) ∙ (none_after p x xs none).0
none_passes p (x ∷ xs) none (suc k) c there = none_passes p xs (none_after p x xs none).1 k c there

-- two that stand at different places have not one SPI
one_owner : (held : Held) (table : Database) (k place : ℕ) (c a : Association) → AreSound held table → At held k c → At held place a → own_spi c ≡ own_spi a → k ≡ place
one_owner held table k place c a sound there here same = elim (cases_order k place) [
  | inl is ↦ is
  | inr (inl under) ↦ absurd ((sound.apart k place c a under there here).own same)
  | inr (inr above) ↦ absurd ((sound.apart place k a c above here there).own (sym same))
]

-- a response of the responder's is for an initiator with this SPI
left_of : (p q b : Bool) → ((p && q) || (p && b)) ≡ true → p ≡ true
left_of true q b is = refl
left_of false q b is = absurd cc

right_in : (q : Bool) → (q || true) ≡ true
right_in true = refl
right_in false = refl

owner : (r : Role) (spi_i spi_r x y : ℕ) (waits : Bool) → (sent_by_other r false && ((spi_i == x && spi_r == y) || (spi_i == x && waits))) ≡ true
    → spi_by_role r spi_i spi_r ≡ x
owner Initiator spi_i spi_r x y waits is = eqb-true spi_i x (left_of (spi_i == x) (spi_r == y) waits is)
owner Responder spi_i spi_r x y waits is = absurd cc

-- ---- an IKE SA that waits, with all that is known of it

-- what it remembers of its request
abbrev pub sent_as : InitSent → Fresh → AskedChildView → InitSent
sent_as sent asking child = record sent { secret = asking.secret; nonce = asking.nonce; child = child }

abbrev pub waits_as : Association → InitSent → Fresh → AskedChildView → Association
waits_as a sent asking child = record a { role = Initiator; spi_i = asking.spi; phase = phase.InitSent (sent_as sent asking child) }

pub sent_so : (asking : Fresh) (request : Octets) (child : AskedChildView) (held : Held) (waits : StillWaits asking request child held)
    → waits.sent ≡ sent_as waits.sent asking child
sent_so asking request child held waits = (λ i. record waits.sent { secret = waits.secret i; nonce = waits.nonce i; child = waits.child_is i })

pub waits_so : (asking : Fresh) (request : Octets) (child : AskedChildView) (held : Held) (waits : StillWaits asking request child held)
    → waits.association ≡ waits_as waits.association waits.sent asking child
waits_so asking request child held waits =
    let phase_is : waits.association.phase ≡ phase.InitSent (sent_as waits.sent asking child) =
    waits.phase_is ∙ ap phase.InitSent (sent_so asking request child held waits) in
    (λ i. record waits.association { role = waits.role i; spi_i = waits.spi i; phase = phase_is i })

-- by the header of a response to IKE_SA_INIT that names this SPI of the responder
module _ (asking : Fresh) (spi_r : ℕ) (base : Association) (sent : InitSent) (child : AskedChildView) where
  abbrev head : Header
  head = sent_header asking.spi spi_r IKE_SA_INIT Responder true 0

  abbrev it : Association
  it = waits_as base sent asking child

  pub not_initial : is_initial_request head ≡ false
  not_initial = grind (arith, common_steps)

  meant : is_meant head it ≡ true
  meant =
      ap (λ (b : Bool). (b && (base.spi_r == spi_r)) || (b && true)) (eq-eqb asking.spi asking.spi refl)
      ∙ right_in (base.spi_r == spi_r)

  module _ (held : Held) (table : Database) (sound : AreSound held table) (place : ℕ) (there : At held place it) where
    first_meant : (o : Option ℕ) → position (is_meant head) held.associations ≡ o → o ≡ Some place
    first_meant None found = absurd (true≢false (sym meant ∙ none_passes (is_meant head) held.associations found place it there))
    first_meant (Some k) found =
        let by = position-Some (is_meant head) held.associations k it found in
        let c : Association = slice_index_or held.associations k it in
        let stands : At held k c = slice_get-get_or held.associations k it by.0 in
        let same : own_spi c ≡ own_spi it = owner c.role c.spi_i c.spi_r asking.spi spi_r (is_waiting c.phase) by.1 in
        ap Some (one_owner held table k place c it sound stands there same)

    pub place_is : place_meant head held.associations ≡ Ok place
    place_is = ap (λ (o : Option ℕ). place_or o (missing head held.associations)) (first_meant (position (is_meant head) held.associations) refl)

-- ---- what that IKE SA does about it

-- what is said of the IKE SA that is found, where it is this one
pub record TakenBy (meaning : Meaning) (setup : Setup) (place : ℕ) (a : Association) (held : Held) (table : Database) (octets : Octets) (m : Message) (stepped : Stepped) (new : Held) (new_table : Database) : Type 0 where
  pub effect : Effect
  pub changed : Association
  pub takes : TakesMessage meaning setup a table octets m effect changed new_table
  pub said : stepped ≡ stepped_of a.serial m.header.id effect
  pub content : new ≡ record held { associations = slice_set held.associations place changed }

pub taken_by : (meaning : Meaning) (setup : Setup) (place : ℕ) (a : Association) (held : Held) (table : Database) (octets : Octets) (m : Message) (stepped : Stepped) (new : Held) (new_table : Database)
    → At held place a → TakesAt place meaning setup octets m held table stepped new new_table → TakenBy meaning setup place a held table octets m stepped new new_table
taken_by meaning setup place a held table octets m stepped new new_table there takes =
    let same : takes.association ≡ a = sym (same_Some a takes.association (sym there ∙ takes.there)) in
    record {
      effect = takes.effect;
      changed = takes.changed;
      takes = subst (λ (x : Association). TakesMessage meaning setup x table octets m takes.effect takes.changed new_table) same takes.takes;
      said = takes.said ∙ ap (λ (x : Association). stepped_of x.serial m.header.id takes.effect) same;
      content = takes.content;
    }

-- it asks for IKE_AUTH by these octets
record GoesOn (asker : Asker) (setup : Setup) (old : Association) (sent : InitSent) (m : Message) (octets : Octets) (keys : KeyRecord) (e : Effect) (new : Association) : Type 0 where
  auth : Octets
  tells : TellsIdentity asker setup old sent m.header.id m octets keys auth new
  said : e ≡ effect.AsksAuth auth

-- the case of keys is the only one, by what the response means
module _ (asker : Asker) (setup : Setup) (old : Association) (sent : InitSent) (m : Message) (octets : Octets) (keys : KeyRecord) where
  says : (e : Effect) (next : Octets) (new : Association) → TellsIdentity asker setup old sent m.header.id m octets keys next new → Says e (continued.AsksAuth next)
      → GoesOn asker setup old sent m octets keys e new
  says (effect.AsksAuth auth) next new tells said = record { auth = next; tells = tells; said = ap effect.AsksAuth said }
  says e next new tells said = absurd said

  continues_with : (c : Continued) (e : Effect) (new : Association) → Continues asker setup old sent m.header.id m octets (meant_as.Keys keys) c new → Says e c
      → GoesOn asker setup old sent m octets keys e new
  continues_with (continued.AsksAuth next) e new continues said = says e next new continues said
  continues_with c e new continues said = absurd continues

  continues_by : (means : Response) (c : Continued) (e : Effect) (new : Association) → IsSameResponse means (meant_as.Keys keys)
      → Continues asker setup old sent m.header.id m octets means c new → Says e c → GoesOn asker setup old sent m octets keys e new
  continues_by (meant_as.Keys made) c e new same continues said =
      continues_with c e new (subst (λ (k : KeyRecord). Continues asker setup old sent m.header.id m octets (meant_as.Keys k) c new) same continues) said
  continues_by means c e new same continues said = absurd same

pub same_sent : (one other : InitSent) → phase.InitSent one ≡ phase.InitSent other → one ≡ other
same_sent one other is = cc

-- ---- the step, of a machine that holds the IKE SA which waits

module _ (one : OneMessage) (plain : PlainIsSpelled) (faultless : HasNoFault) (acceptable : OffersAreAcceptable) (one_response : OneResponse) (meaning : Meaning)
    (reads_keys : ReadsKeys meaning.public_value meaning.shared_secret) (asking answering : Fresh) (asking_drawn : IsDrawn asking) (answering_drawn : IsDrawn answering)
    (shared : Octets) (agrees : meaning.shared_secret answering.secret (meaning.public_value asking.secret) ≡ Some shared) (request response : Octets)
    (spelled : SpellsPlainly (answering_message meaning asking answering) response) (base : Association) (base_sent : InitSent) (child : AskedChildView)
    (waiting : Request) (outstanding : map.get base.outgoing.outstanding 0 ≡ Some waiting) (octets_are : waiting.octets ≡ request) (purpose : waiting.purpose ≡ Begin) where
  abbrev message : Message
  message = answering_message meaning asking answering

  abbrev keys : KeyRecord
  keys = keys_from shared asking answering

  abbrev sent : InitSent
  sent = sent_as base_sent asking child

  abbrev waiting_now : Association
  waiting_now = waits_as base base_sent asking child

  read : Spells message response
  read = plain message response spelled

  -- the keys are read
  gives : GivesKeys meaning.cipher meaning.group meaning.shared_secret (waiting_of asking.spi sent) message keys
  gives =
      reads_keys meaning.cipher meaning.group (waiting_of asking.spi sent) (offered meaning asking) answering (record { «record» = keys; octets = response })
      message asking_drawn.secret answering_drawn.secret refl refl (chosen acceptable meaning) answering_drawn.nonzero
      (record { shared = shared; agrees = agrees; keys = refl; spelled = spelled }) read

  module _ (setup : Setup) (table : Database) where
    goes_on : (e : Effect) (new : Association) → DoesInitial meaning setup waiting_now response message e new
        → GoesOn (asker_of meaning) setup waiting_now sent message response keys e new
    goes_on e new does =
        let same : does.read.sent ≡ sent = sym (same_sent sent does.read.sent does.read.was) in
        let means : IsResponse meaning.cipher meaning.group meaning.shared_secret (waiting_of asking.spi sent) message does.read.response =
        subst (λ (s : InitSent). IsResponse meaning.cipher meaning.group meaning.shared_secret (waiting_of asking.spi s) message does.read.response) same does.read.means in
        let continues : Continues (asker_of meaning) setup waiting_now sent 0 message response does.read.response does.continued new =
        subst (λ (s : InitSent). Continues (asker_of meaning) setup waiting_now s 0 message response does.read.response does.continued new) same does.read.continues in
        continues_by (asker_of meaning) setup waiting_now sent message response keys does.read.response does.continued e new
        (one_response meaning.cipher meaning.group meaning.shared_secret (waiting_of asking.spi sent) message does.read.response (meant_as.Keys keys) means gives)
        continues does.said

    -- it is the response that is waited for
    does : (e : Effect) (new : Association) (new_table : Database) → TakesMessage meaning setup waiting_now table response message e new new_table
        → DoesInitial meaning setup waiting_now response message e new × (new_table ≡ table)
    does e new new_table takes =
        let waits_for : takes.reception ≡ AnswersInitial =
        takes.received
        ∙ ap (λ (r : Option Request). reception_by waiting_now.phase 34 r (opened_by meaning.plain_of waiting_now response message.payloads)) outstanding
        ∙ ap (λ (x : Purpose). answering_reception waiting_now.phase (exchange_of x == 34) (opened_by meaning.plain_of waiting_now response message.payloads)) purpose in
        subst (λ (r : Reception). Does meaning setup waiting_now table response message r e new new_table) waits_for takes.done

    module _ (held : Held) (sound : AreSound held table) (place : ℕ) (there : At held place waiting_now) where
      found : (cookies : CookieSecrets) (address : Octets) (stepped : Stepped) (new : Held) (new_table : Database)
          → TakesDatagram meaning setup cookies address response held table stepped new new_table
          → TakenBy meaning setup place waiting_now held table response message stepped new new_table
      found cookies address stepped new new_table (inl fails) = absurd (faultless message response fails.reason read fails.is)
      found cookies address stepped new new_table (inr reads) =
          let known : reads.message ≡ message = one reads.message message response reads.spelled read in
          let done : TakesRead (is_initial_request message.header) meaning setup cookies address response message held table stepped new new_table =
          subst (λ (m : Message). TakesRead (is_initial_request m.header) meaning setup cookies address response m held table stepped new new_table)
          known reads.done in
          let later : TakesFound (place_meant message.header held.associations) meaning setup response message held table stepped new new_table =
          subst (λ (b : Bool). TakesRead b meaning setup cookies address response message held table stepped new new_table)
          (not_initial asking answering.spi base base_sent child) done in
          let at : TakesAt place meaning setup response message held table stepped new new_table =
          subst (λ (p : Result ℕ MessageFault). TakesFound p meaning setup response message held table stepped new new_table)
          (place_is asking answering.spi base base_sent child held table sound place there) later in
          taken_by meaning setup place waiting_now held table response message stepped new new_table there at

      -- it can't be refused but for memory
      for_memory : (cookies : CookieSecrets) (address : Octets) (f : IkeFault) → RefusesDatagram meaning setup cookies address response held table f
          → is_want_of_memory f ≡ true
      for_memory cookies address (fault.Memory f) refuses = refl
      for_memory cookies address f refuses =
          let known : refuses.message ≡ message = one refuses.message message response refuses.spelled read in
          let initial : is_initial_request message.header ≡ true = ap (λ (m : Message). is_initial_request m.header) (sym known) ∙ refuses.initial in
          absurd (true≢false (sym initial ∙ not_initial asking answering.spi base base_sent child))

  -- it tells who it is, and waits for the response to that
  record Leaves (setup : Setup) (held : Held) (place : ℕ) (stepped : Stepped) (new : Held) : Type 0 where
    auth : Octets
    room : ℕ
    sealed : IsSealed meaning.body_of (keys_of Initiator keys) setup.fresh.seal (telling_message meaning setup.config asking answering keys request child) auth
    says : stepped ≡ stepped_of base.serial 0 (effect.AsksAuth auth)
    leads : new ≡ record held { associations = slice_set held.associations place (told_by waiting_now answering keys response child auth setup.moment room) }

  leaves : (setup : Setup) (held : Held) (place : ℕ) (stepped : Stepped) (new : Held) (e : Effect) (changed : Association)
      → GoesOn (asker_of meaning) setup waiting_now sent message response keys e changed → stepped ≡ stepped_of base.serial 0 e
      → new ≡ record held { associations = slice_set held.associations place changed } → Leaves setup held place stepped new
  leaves setup held place stepped new e changed goes said content =
      let tells = goes.tells in
      let first : tells.request ≡ waiting = sym (same_Some waiting tells.request (sym outstanding ∙ tells.outstanding)) in
      let request_is : tells.request.octets ≡ request = ap (λ (x : Request). x.octets) first ∙ octets_are in
      let changed_is : changed ≡ told_by waiting_now answering keys response child goes.auth setup.moment changed.outgoing.room = tells.content
      ∙ ap (λ (out : OwnRequests Request). record waiting_now {
        spi_r = answering.spi;
        outgoing = out;
        phase = phase.AuthSent (record { keys = keys; first = response; child = child });
      })
      (issued_is number_0_answered changed.outgoing (new_request goes.auth Identify setup.moment) tells.issued) in
      record {
        auth = goes.auth;
        room = changed.outgoing.room;
        sealed = subst
            (λ (x : Octets). IsSealed meaning.body_of (keys_of Initiator keys) setup.fresh.seal
            (identity_message meaning.own_method meaning.proof_of setup waiting_now sent answering.spi keys x) goes.auth)
            request_is tells.sealed;
        says = said ∙ ap (λ (x : Effect). stepped_of base.serial 0 x) goes.said;
        leads = content ∙ ap (λ (x : Association). record held { associations = slice_set held.associations place x }) changed_is;
      }

  -- what such a datagram does
  record Taken (setup : Setup) (held : Held) (place : ℕ) (table : Database) (stepped : Stepped) (new : Held) (new_table : Database) : Type 0 where
    leaves_now : Leaves setup held place stepped new
    table_is : new_table ≡ table

  taken : (setup : Setup) (table : Database) (held : Held) (sound : AreSound held table) (place : ℕ) (there : At held place waiting_now) (cookies : CookieSecrets) (address : Octets)
      (stepped : Stepped) (new : Held) (new_table : Database) → TakesDatagram meaning setup cookies address response held table stepped new new_table
      → Taken setup held place table stepped new new_table
  taken setup table held sound place there cookies address stepped new new_table takes =
      let by = found setup table held sound place there cookies address stepped new new_table takes in
      let initial = does setup table by.effect by.changed new_table by.takes in
      record {
        leaves_now = leaves setup held place stepped new by.effect by.changed (goes_on setup table by.effect by.changed initial.0) by.said by.content;
        table_is = initial.1;
      }

-- ---- the step

-- the machine has this IKE SA at this place then, by whatever name
pub replaced : (machine new : Machine) (place : ℕ) (x y : Association) → ike.KeepsRest machine new
    → new.held ≡ record machine.held { associations = slice_set machine.held.associations place x } → x ≡ y → new ≡ with_at machine place y
replaced machine new place x y rest leads same =
    rest ∙ ap (λ (h : Held). record machine { held = h }) leads ∙ ap (λ (z : Association). with_at machine place z) same

module _ (one : OneMessage) (plain : PlainIsSpelled) (faultless : HasNoFault) (acceptable : OffersAreAcceptable) (one_response : OneResponse) where
  pub takes_up_beside : {C : Type 0} (meaning_of : C → Meaning) (asking answering reading : Fresh) (shared address request response : Octets) (child : AskedChildView) (r : Passage C)
      → ReadsKeys (meaning_of r.before.caller).public_value (meaning_of r.before.caller).shared_secret → IsPassage meaning_of r
      → r.given ≡ input.Ike address response reading → wants_memory r.said ≡ false → (waits : StillWaits asking request child r.before.machine.held)
      → SpellsPlainly (answering_message (meaning_of r.before.caller) asking answering) response → IsDrawn asking → IsDrawn answering
      → (meaning_of r.before.caller).shared_secret answering.secret ((meaning_of r.before.caller).public_value asking.secret) ≡ Some shared
      → TakesUpBeside (meaning_of r.before.caller) asking answering reading (keys_from shared asking answering) request response child r waits
  takes_up_beside {C} meaning_of asking answering reading shared address request response child r reads_keys is given memory waits spelled asking_drawn answering_drawn agrees =
      let meaning = meaning_of r.before.caller in
      let machine = r.before.machine in
      let setup = setup_at machine r.before.entries reading in
      let held = machine.held in
      let base = waits.association in
      let so : base ≡ waits_as base waits.sent asking child = waits_so asking request child held waits in
      let there : At held waits.place (waits_as base waits.sent asking child) = waits.there ∙ ap Some so in
      let traces = (step_from meaning_of r r.before (input.Ike address response reading) is refl given).traces in
      let step = answered traces.does memory
      (for_memory one plain faultless acceptable one_response meaning reads_keys asking answering asking_drawn answering_drawn shared agrees request response spelled base
      waits.sent child waits.asked waits.outstanding waits.octets waits.purpose setup r.before.table held is.sound.machine.held waits.place there machine.cookies address) in
      let is_taken = taken one plain faultless acceptable one_response meaning reads_keys asking answering asking_drawn answering_drawn shared agrees request response spelled base
      waits.sent child waits.asked waits.outstanding waits.octets waits.purpose setup r.before.table held is.sound.machine.held waits.place there machine.cookies address
      step.stepped r.after.machine.held r.after.table step.steps.1 in
      let left = is_taken.leaves_now in
      let told = (λ (a : Association). told_by a answering (keys_from shared asking answering) response child left.auth machine.moment left.room) in
      let machine_is : r.after.machine ≡ with_at machine waits.place (told base) =
      replaced machine r.after.machine waits.place (told (waits_as base waits.sent asking child)) (told base) step.steps.0 left.leads (ap told (sym so)) in
      record {
        auth = left.auth;
        said = said_is r.said step.stepped (stepped_of base.serial 0 (effect.AsksAuth left.auth)) step.output left.says;
        sealed = left.sealed;
        spare = left.room;
        after = leads_to r.before r.after (with_at machine waits.place (told base)) r.before.table traces.kept machine_is is_taken.table_is;
      }

  -- so does one that was just made, once its request was sent
  pub takes_up : {C : Type 0} (meaning_of : C → Meaning) (side : Side) (caller : C) (o : Opening) (shared : Octets) (room : ℕ) (reading : Fresh) (r : Passage C)
      → ReadsKeys (meaning_of caller).public_value (meaning_of caller).shared_secret → IsPassage meaning_of r → IsAnswered side caller o room reading r
      → SpellsPlainly (answering_message (meaning_of caller) o.asking o.answering) o.response → IsDrawn o.asking → IsDrawn o.answering
      → (meaning_of caller).shared_secret o.answering.secret ((meaning_of caller).public_value o.asking.secret) ≡ Some shared
      → o.keys ≡ keys_from shared o.asking o.answering → TakesUp (meaning_of caller) side caller o room reading r
  takes_up {C} meaning_of side caller o shared room reading r reads_keys is answered_by spelled asking_drawn answering_drawn agrees keyed =
      let child = asked_child side o in
      let first_request = new_request o.request Begin 0 in
      let a = waiting side o.asking o.entry o.request answered_by.spare in
      let table = reserved_table side.start room in
      let was : r.before ≡ holding side a table caller = answered_by.waits in
      let waits : StillWaits o.asking o.request child r.before.machine.held = record {
        place = 0;
        association = a;
        there = ap (λ (s : State C). slice_get s.machine.held.associations 0) was;
        role = refl;
        spi = refl;
        sent = record { secret = o.asking.secret; nonce = o.asking.nonce; cookie = None; cookies_taken = 0; child = child };
        phase_is = refl;
        secret = refl;
        nonce = refl;
        child_is = refl;
        asked = first_request;
        outstanding = first_waits first_request;
        octets = refl;
        purpose = refl;
      } in
      let beside = takes_up_beside meaning_of o.asking o.answering reading shared answered_by.address o.request o.response child r
      (subst (λ (s : State C). ReadsKeys (meaning_of s.caller).public_value (meaning_of s.caller).shared_secret) (sym was) reads_keys) is answered_by.given
      answered_by.memory waits (subst (λ (s : State C). SpellsPlainly (answering_message (meaning_of s.caller) o.asking o.answering) o.response) (sym was) spelled)
      asking_drawn answering_drawn
      (subst (λ (s : State C). (meaning_of s.caller).shared_secret o.answering.secret ((meaning_of s.caller).public_value o.asking.secret) ≡ Some shared) (sym was) agrees) in
      record {
        auth = beside.auth;
        said = beside.said;
        sealed = subst
            (λ (k : KeyRecord). IsSealed (meaning_of caller).body_of (keys_of Initiator k) reading.seal
            (telling_message (meaning_of caller) side.config o.asking o.answering k o.request child) beside.auth) (sym keyed)
            (subst
            (λ (s : State C). IsSealed (meaning_of s.caller).body_of (keys_of Initiator (keys_from shared o.asking o.answering)) reading.seal
            (telling_message (meaning_of s.caller) s.machine.config o.asking o.answering (keys_from shared o.asking o.answering) o.request child) beside.auth) was
            beside.sealed);
        spare = beside.spare;
        after = beside.after
            ∙ ap (λ (s : State C). record s {
              machine = with_at s.machine 0 (told_by a o.answering (keys_from shared o.asking o.answering) o.response child beside.auth s.machine.moment beside.spare);
            }) was
            ∙ ap (λ (k : KeyRecord). holding side (told_by a o.answering k o.response child beside.auth 0 beside.spare) table caller) (sym keyed);
      }
