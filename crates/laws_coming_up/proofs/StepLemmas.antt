-- A message of IKE_AUTH comes to a gateway: the step is that of the one IKE SA for which it is meant, and all
-- else that the gateway holds stays as it is.
use Rattle.std.proofs.Common.{◌≡◌, ◌∷◌, ◌&&◌, ◌||◌, inl, inr, ℕ, zero, suc, Bool, List, true, false, [], Option, Some, None, Result, Ok, arith, refl, subst, sym, ap, ◌∙◌}
use Rattle.std.specs.Prelude.{◌==◌}
use Rattle.std.proofs.lemmas.Bool.{cases_order, eq-eqb, eqb-true, true≢false}
use Rattle.std.proofs.lemmas.Grind.{common_steps}
use Rattle.std.proofs.lemmas.List.Quantifiers.{position-Some}
use Rattle.std.proofs.lemmas.Option.{same_Some, slice_get-get_or}
use Rattle.std.specs.List.{position, slice_get, slice_index_or, slice_set}
use Rattle.base.specs.Octets.{Octets}
use Rattle.wire.specs.Messages.{Spells}
use Rattle.wire.specs.Numbers.{IKE_AUTH}
use Rattle.wire.specs.Refusals.{IsFaultOf}
use Rattle.wire.specs.declared.fault.WireFault.{WireFault}
use Rattle.wire.specs.declared.message.Header.{Header}
use Rattle.wire.specs.declared.message.Message.{Message}
use Rattle.suite.specs.declared.fresh.Fresh.{Fresh}
use Rattle.exchange.specs.Headers.{sent_header}
use Rattle.exchange.specs.declared.headers.Role.{Role}
use Rattle.exchange.specs.declared.headers.Role.TheVariants.{Initiator, Responder}
use Rattle.sadb.specs.Database.{Database}
use Rattle.sa_init.specs.Cookies.{CookieSecrets}
use Rattle.association.specs.Finding.{is_meant, missing, place_meant, place_or, sent_by_other}
use Rattle.association.specs.declared.fault.MessageFault.{MessageFault}
use Rattle.association.specs.declared.phase.Association.{Association}
use Rattle.setup.specs.Configs.{Setup}
use Rattle.effects.specs.Taking.{Meaning, TakesMessage}
use Rattle.effects.specs.declared.taking.Effect.{Effect}
use Rattle.ike.specs.Machines.{own_spi, setup_at, spi_by_role, Held, Machine}
use Rattle.ike.specs.Outputs.{stepped_of}
use Rattle.ike.specs.Receiving.{is_initial_request, ReadsDatagram, RefusesDatagram, RefusesInitial, TakesAt, TakesDatagram, TakesFound, TakesRead}
use Rattle.ike.specs.Soundness.{AreSound, At}
use Rattle.ike.specs.Steps as ike
use Rattle.ike.specs.declared.fault.IkeFault.{IkeFault}
use Rattle.ike.specs.declared.fault.IkeFault.TheVariants as fault
use Rattle.ike.specs.declared.output.Stepped.{Stepped}
use Rattle.ike.specs.declared.output.Trace.{Trace}
use Rattle.gateway.specs.Faults.{is_want_of_memory}
use Rattle.gateway.specs.Histories.{IsPassage, Passage}
use Rattle.gateway.specs.Inputs.{Ike, Input}
use Rattle.gateway.specs.Outputs.{view_of_ike, wants_memory}
use Rattle.gateway.specs.Steps.{Steps, StepsIke}
use Rattle.gateway.specs.declared.fault.Reason.TheVariants as reason
use Rattle.laws_coming_up.specs.ComingUp.{Brings}
use Rattle.laws_coming_up.specs.ComingUpBeside.{becoming, Meeting}

-- the laws of the crates below that this goes by
abbrev pub OneMessage : Type 0
OneMessage = (m n : Message) (b : Octets) → Spells m b → Spells n b → m ≡ n

abbrev pub NoFault : Type 0
NoFault = (m : Message) (b : Octets) (f : WireFault) → Spells m b → ¬ IsFaultOf b f

-- ---- which IKE SA the message is for

-- where none is found, none passes
none_after : (p : Association → Bool) (x : Association) (xs : List Association) → position p (x ∷ xs) ≡ None → (p x ≡ false) × (position p xs ≡ None)
none_after p x xs none = grind (arith, common_steps)

none_passes : (p : Association → Bool) (xs : List Association) → position p xs ≡ None → (k : ℕ) (c : Association) → slice_get xs k ≡ Some c → p c ≡ false
none_passes p [] none k c there = absurd cc
none_passes p (x ∷ xs) none zero c there = ap p (sym (same_Some x c there)) ∙ (none_after p x xs none).0
none_passes p (x ∷ xs) none (suc k) c there = none_passes p xs (none_after p x xs none).1 k c there

-- two that stand at different places have not one SPI
one_owner : (held : Held) (table : Database) (k place : ℕ) (c a : Association) → AreSound held table → At held k c → At held place a → own_spi c ≡ own_spi a → k ≡ place
one_owner held table k place c a sound there here same = elim (cases_order k place) [
  | inl is ↦ is
  | inr (inl under) ↦ absurd ((sound.apart k place c a under there here).own same)
  | inr (inr above) ↦ absurd ((sound.apart place k a c above here there).own (sym same))
]

-- it is found where the message is meant for it, and for none that has another SPI
module _ (h : Header) (held : Held) (table : Database) (sound : AreSound held table) (place : ℕ) (a : Association) (there : At held place a) (meant : is_meant h a ≡ true)
    (owned : (c : Association) → is_meant h c ≡ true → own_spi c ≡ own_spi a) where
  first_meant : (o : Option ℕ) → position (is_meant h) held.associations ≡ o → o ≡ Some place
  first_meant None found = absurd (true≢false (sym meant ∙ none_passes (is_meant h) held.associations found place a there))
  first_meant (Some k) found =
      let by = position-Some (is_meant h) held.associations k a found in
      let c : Association = slice_index_or held.associations k a in
      let stands : At held k c = slice_get-get_or held.associations k a by.0 in
      ap Some (one_owner held table k place c a sound stands there (owned c by.1))

  pub place_is : place_meant h held.associations ≡ Ok place
  place_is = ap (λ (o : Option ℕ). place_or o (missing h held.associations)) (first_meant (position (is_meant h) held.associations) refl)

-- ---- by the headers of IKE_AUTH

abbrev pub request_header : Meeting → Header
request_header d = sent_header d.asking.spi d.answering.spi IKE_AUTH Initiator false 1

abbrev pub response_header : Meeting → Header
response_header d = sent_header d.asking.spi d.answering.spi IKE_AUTH Responder true 1

left_of : (p q : Bool) → ((p && q) || false) ≡ true → p ≡ true
left_of true q is = refl
left_of false q is = absurd cc

right_of : (p q : Bool) → ((p && q) || false) ≡ true → q ≡ true
right_of true true is = refl
right_of true false is = absurd cc
right_of false q is = absurd cc

-- the request is for a responder with this SPI, and the response for an initiator with that one
asked_owner : (r : Role) (spi_i spi_r x y : ℕ) → (sent_by_other r true && ((spi_i == x && spi_r == y) || false)) ≡ true → spi_by_role r spi_i spi_r ≡ y
asked_owner Initiator spi_i spi_r x y is = absurd cc
asked_owner Responder spi_i spi_r x y is = eqb-true spi_r y (right_of (spi_i == x) (spi_r == y) is)

answered_owner : (r : Role) (spi_i spi_r x y : ℕ) → (sent_by_other r false && ((spi_i == x && spi_r == y) || false)) ≡ true → spi_by_role r spi_i spi_r ≡ x
answered_owner Initiator spi_i spi_r x y is = eqb-true spi_i x (left_of (spi_i == x) (spi_r == y) is)
answered_owner Responder spi_i spi_r x y is = absurd cc

same_pair : (x y : ℕ) → ((x == x && y == y) || false) ≡ true
same_pair x y = λ i. (eq-eqb x x refl i && eq-eqb y y refl i) || false

-- one that has the role and both SPIs is meant
abbrev pub with_names : Association → Role → Meeting → Association
with_names a role d = record a { role = role; spi_i = d.asking.spi; spi_r = d.answering.spi }

module _ (d : Meeting) (held : Held) (table : Database) (sound : AreSound held table) (place : ℕ) (base : Association) where
  pub request_place : At held place (with_names base Responder d) → place_meant (request_header d) held.associations ≡ Ok place
  request_place there =
      place_is (request_header d) held table sound place (with_names base Responder d) there (same_pair d.asking.spi d.answering.spi)
      (λ c is. asked_owner c.role c.spi_i c.spi_r d.asking.spi d.answering.spi is)

  pub response_place : At held place (with_names base Initiator d) → place_meant (response_header d) held.associations ≡ Ok place
  response_place there =
      place_is (response_header d) held table sound place (with_names base Initiator d) there (same_pair d.asking.spi d.answering.spi)
      (λ c is. answered_owner c.role c.spi_i c.spi_r d.asking.spi d.answering.spi is)

-- neither is a request of IKE_SA_INIT
no_request : (b : Bool) → (b && true && false) ≡ false
no_request true = refl
no_request false = refl

no_response : (b : Bool) → (b && false && false) ≡ false
no_response true = refl
no_response false = refl

pub request_later : (d : Meeting) → is_initial_request (request_header d) ≡ false
request_later d = no_request (d.answering.spi == 0)

pub response_later : (d : Meeting) → is_initial_request (response_header d) ≡ false
response_later d = no_response (d.answering.spi == 0)

-- ---- the machine

-- what that IKE SA does with the message
pub record TakenBy (meaning : Meaning) (setup : Setup) (place : ℕ) (a : Association) (held : Held) (table : Database) (octets : Octets) (m : Message) (stepped : Stepped) (new : Held) (new_table : Database) : Type 0 where
  pub effect : Effect
  pub changed : Association
  pub takes : TakesMessage meaning setup a table octets m effect changed new_table
  pub said : stepped ≡ stepped_of a.serial m.header.id effect
  pub content : new ≡ record held { associations = slice_set held.associations place changed }

module _ (one_message : OneMessage) (no_fault : NoFault) (meaning : Meaning) (setup : Setup) (held : Held) (table : Database) (octets : Octets) (m : Message)
    (spelled : Spells m octets) (later : is_initial_request m.header ≡ false) (place : ℕ) (a : Association) (there : At held place a)
    (meant : place_meant m.header held.associations ≡ Ok place) where
  at_place : (stepped : Stepped) (new : Held) (new_table : Database) → TakesAt place meaning setup octets m held table stepped new new_table
      → TakenBy meaning setup place a held table octets m stepped new new_table
  at_place stepped new new_table t =
      let same : t.association ≡ a = sym (same_Some a t.association (sym there ∙ t.there)) in
      record {
        effect = t.effect;
        changed = t.changed;
        takes = subst (λ (x : Association). TakesMessage meaning setup x table octets m t.effect t.changed new_table) same t.takes;
        said = t.said ∙ ap (λ (x : Association). stepped_of x.serial m.header.id t.effect) same;
        content = t.content;
      }

  module _ (from : Octets) (cookies : CookieSecrets) where
    read : (stepped : Stepped) (new : Held) (new_table : Database) → ReadsDatagram meaning setup cookies from octets held table stepped new new_table
        → TakenBy meaning setup place a held table octets m stepped new new_table
    read stepped new new_table r =
        let same : r.message ≡ m = one_message r.message m octets r.spelled spelled in
        let of_message : TakesRead (is_initial_request m.header) meaning setup cookies from octets m held table stepped new new_table =
        subst (λ (x : Message). TakesRead (is_initial_request x.header) meaning setup cookies from octets x held table stepped new new_table) same r.done in
        let found : TakesFound (place_meant m.header held.associations) meaning setup octets m held table stepped new new_table =
        subst (λ (b : Bool). TakesRead b meaning setup cookies from octets m held table stepped new new_table) later of_message in
        at_place stepped new new_table
        (subst (λ (x : Result ℕ MessageFault). TakesFound x meaning setup octets m held table stepped new new_table) meant found)

    pub taken : (stepped : Stepped) (new : Held) (new_table : Database) → TakesDatagram meaning setup cookies from octets held table stepped new new_table
        → TakenBy meaning setup place a held table octets m stepped new new_table
    taken stepped new new_table t = elim t [
      | inl f ↦ absurd (no_fault m octets f.reason spelled f.is)
      | inr r ↦ read stepped new new_table r
    ]

    -- it refuses the message for memory alone
    not_first : (f : IkeFault) → RefusesInitial meaning setup cookies from octets held f → ⊥
    not_first f r =
        let same : r.message ≡ m = one_message r.message m octets r.spelled spelled in
        true≢false (sym (subst (λ (x : Message). is_initial_request x.header ≡ true) same r.initial) ∙ later)

    pub not_refused : (f : IkeFault) → RefusesDatagram meaning setup cookies from octets held table f → is_want_of_memory (reason.Ike f) ≡ false → ⊥
    not_refused (fault.Memory g) r short = true≢false short
    not_refused f r short = not_first f r

-- ---- the gateway

pub record TakesInStep {C : Type 0} (meaning : Meaning) (p : Passage C) (place : ℕ) (a : Association) (octets : Octets) (fresh : Fresh) (m : Message) : Type 0 where
  pub effect : Effect
  pub changed : Association
  pub new_table : Database
  pub takes : TakesMessage meaning (setup_at p.before.machine p.before.entries fresh) a p.before.table octets m effect changed new_table
  pub said : p.said ≡ view_of_ike (stepped_of a.serial m.header.id effect).output
  pub after : p.after ≡ becoming p.before place changed new_table

module _ {C : Type 0} (one_message : OneMessage) (no_fault : NoFault) (p : Passage C) (octets : Octets) (m : Message) (spelled : Spells m octets)
    (later : is_initial_request m.header ≡ false) (place : ℕ) (a : Association) (there : At p.before.machine.held place a)
    (meant : place_meant m.header p.before.machine.held.associations ≡ Ok place) where
  does : (meaning : Meaning) (from : Octets) (fresh : Fresh) (trace : Trace) → wants_memory p.said ≡ false
      → p.after ≡ record p.before { machine = p.after.machine; table = p.after.table }
      → StepsIke meaning p.before.entries (ike.Message from octets fresh) p.before.machine p.before.table p.said trace p.after.machine p.after.table
      → TakesInStep meaning p place a octets fresh m
  does meaning from fresh trace memory kept t =
      let machine = p.before.machine in
      let setup = setup_at machine p.before.entries fresh in
      elim t [
        | inl is ↦
            (let by = taken one_message no_fault meaning setup machine.held p.before.table octets m spelled later place a there meant from machine.cookies is.stepped
            p.after.machine.held p.after.table is.steps.1 in
            record {
              effect = by.effect;
              changed = by.changed;
              new_table = p.after.table;
              takes = by.takes;
              said = is.output ∙ ap (λ (x : Stepped). view_of_ike x.output) by.said;
              after = kept ∙ ap (λ (x : Machine). record p.before { machine = x; table = p.after.table })
                  (is.steps.0 ∙ ap (λ (x : Held). record machine { held = x }) by.content);
            })
        | inr is ↦ absurd (not_refused one_message no_fault meaning setup machine.held p.before.table octets m spelled later place a there meant from machine.cookies is.fault
            is.refuses (sym (ap wants_memory is.output) ∙ memory))
      ]

  pub step_at : (meaning_of : C → Meaning) → IsPassage meaning_of p → (brings : Brings octets p)
      → TakesInStep (meaning_of p.before.caller) p place a octets brings.fresh m
  step_at meaning_of is brings =
      let meaning = meaning_of p.before.caller in
      let steps : Steps meaning (Ike brings.from octets brings.fresh) p.before p.said p.after =
      subst (λ (g : Input). Steps meaning g p.before p.said p.after) brings.given is.steps in
      does meaning brings.from brings.fresh steps.trace brings.memory steps.traces.kept steps.traces.does
