-- What a command that asks the peer something leaves of the IKE SA that asks.
use Rattle.std.proofs.Common.{◌≡◌, inl, inr, ℕ, zero, suc, ◌+◌, ◌<◌, ◌≤◌, ◌∷◌, [], Bool, true, false, cond, not, length, List, Option, Some, None, arith, ap, refl, subst, sym, ◌∙◌}
use Rattle.std.specs.List.{find, list_any, position, position_or_len, slice_get}
use Rattle.std.specs.Prelude.{◌==◌, ◌||◌, slice_index_or, IfErr, IfOk, IsErrAnd, Result, Ok, Err}
use Rattle.std.proofs.lemmas.Bool.Decides.{eqb_tells}
use Rattle.std.proofs.lemmas.Grind.{common_steps}
use Rattle.std.proofs.lemmas.List.Quantifiers.{position-Some}
use Rattle.std.proofs.lemmas.Option.{slice_get-get_or}
use Rattle.base.specs.Octets.{Octets}
use Rattle.suite.specs.declared.keys.Keys.{Keys}
use Rattle.requests.specs.Outgoing.{OwnRequests}
use Rattle.sadb.specs.Database.{Database}
use Rattle.association.specs.Phases.{keys_in}
use Rattle.association.specs.declared.fault.MessageFault.TheVariants.{UnknownAssociation}
use Rattle.association.specs.declared.phase.Association.{Association}
use Rattle.association.specs.declared.phase.Request.{Request}
use Rattle.association.specs.Issuing.{with_outgoing}
use Rattle.setup.specs.Configs.{Setup}
use Rattle.association.specs.declared.fault.OrderFault.{OrderFault}
use Rattle.effects.specs.Taking.{KeepsIdentity}
use Rattle.effects.specs.Sending.{SendsRequest}
use Rattle.ike.specs.Machines.{association_of, has_serial, Held}
use Rattle.ike.specs.Asking.{fault_of_order, fault_of_order, AsksAt, RefusesAskingAt, RefusesFurtherAt, RefusesFurtherThere, RefusesThere}
use Rattle.ike.specs.declared.fault.IkeFault.{IkeFault}
use Rattle.ike.specs.declared.fault.IkeFault.TheVariants as fault
use Rattle.ike.specs.Soundness.{AreSound}
use Rattle.ike.specs.declared.output.Stepped.{Stepped}
use Rattle.ike.proofs.SerialLemmas.{replaced_found, replaced_stands, same_one, sound_found}

itself : (a : Association) (outgoing : OwnRequests Request) → KeepsIdentity a (with_outgoing a outgoing)
itself a outgoing = record { serial = refl; role = refl; spi_i = refl; spi_r = inl refl; waiting = λ w. w; asking = λ s. inr s; half_open = λ h. h }

module _ (body_of : Keys → Octets → Octets → Octets → Octets) (setup : Setup) (a : Association) (octets : Octets) (b : Association) (is : SendsRequest body_of setup a octets b) where
  pub probed_itself : KeepsIdentity a b
  probed_itself = subst (λ x. KeepsIdentity a x) (sym is.content) (itself a is.outgoing)

  pub probed_phase : b.phase ≡ a.phase
  probed_phase = ap (λ (x : Association). x.phase) is.content

or_left : (b c : Bool) → (b || c) ≡ false → b ≡ false
or_left true c is = absurd cc
or_left false c is = refl

or_right : (b c : Bool) → (b || c) ≡ false → c ≡ false
or_right true c is = absurd cc
or_right false c is = is

-- what is found is what stands at the first place
found_at : (p : Association → Bool) (xs : List Association) (place : ℕ) (a d : Association) → slice_get xs place ≡ Some a → p a ≡ true → ((k : ℕ) → k < place → p (slice_index_or xs k d) ≡ false) → find p xs ≡ Some a
found_at p [] place a d there passes before = absurd cc
found_at p (x ∷ xs) zero a d there passes before = ap (λ b. cond b (Some x) (find p xs)) (ap p (same_one x a there) ∙ passes) ∙ there
found_at p (x ∷ xs) (suc place) a d there passes before =
    ap (λ b. cond b (Some x) (find p xs)) (before 0 (omega arith)) ∙ found_at p xs place a d there passes (λ k less. before (suc k) (omega (arith, less)))

tested : (n m : ℕ) → (n == m) ≡ true → n ≡ m
tested n m is = elim (eqb_tells n m) [
  | inl (yes_it_is, same) ↦ same
  | inr (no_it_is_not, apart) ↦ let clash : true ≡ false = sym is ∙ no_it_is_not in cc
]

module _ (body_of : Keys → Octets → Octets → Octets → Octets) (setup : Setup) (ike : ℕ) (old : Held) (stepped : Stepped) (new : Held) (is : AsksAt body_of setup ike old stepped new) where
  first_one : Some (slice_index_or old.associations is.place is.association) ≡ Some is.association
  first_one = sym (slice_get-get_or old.associations is.place is.association (position-Some (has_serial ike) old.associations is.place is.association is.first).0) ∙ is.there

  -- it is the one with the serial
  pub probed_serial : is.association.serial ≡ ike
  probed_serial =
      tested is.association.serial ike
      (ap (has_serial ike) (sym (same_one (slice_index_or old.associations is.place is.association) is.association first_one))
      ∙ (position-Some (has_serial ike) old.associations is.place is.association is.first).1)

  pub changed_itself : KeepsIdentity is.association is.changed
  changed_itself = probed_itself body_of setup is.association is.octets is.changed is.sends

  pub changed_phase : is.changed.phase ≡ is.association.phase
  changed_phase = probed_phase body_of setup is.association is.octets is.changed is.sends

  -- the first with the serial
  pub probed_first : association_of ike old.associations ≡ Some is.association
  probed_first =
      found_at (has_serial ike) old.associations is.place is.association is.association is.there
      (ap (has_serial ike) (sym (same_one (slice_index_or old.associations is.place is.association) is.association first_one)) ∙ (position-Some (has_serial ike) old.associations is.place is.association is.first).1)
      (position-Some (has_serial ike) old.associations is.place is.association is.first).2

  -- the IKE SA with a serial was held under it before, in the same phase
  pub record WasInPhase (serial : ℕ) (b : Association) : Type 0 where
    pub was : Association
    pub stood : association_of serial old.associations ≡ Some was
    pub phase_is : b.phase ≡ was.phase

  pub probed_stood : (table : Database) (serial : ℕ) (b : Association) → AreSound old table → association_of serial new.associations ≡ Some b → WasInPhase serial b
  probed_stood table serial b sound stands = elim (eqb_tells serial is.association.serial) [
    | inl (one, same) ↦
        let stood : association_of serial old.associations ≡ Some is.association = subst (λ n. association_of n old.associations ≡ Some is.association) (sym same) (sound_found old table is.place is.association sound is.there) in
        let here : association_of is.association.serial new.associations ≡ Some is.changed = ap (λ (h : Held). association_of is.association.serial h.associations) is.content
        ∙ replaced_stands old table is.place is.association is.changed sound is.there changed_itself.serial in
        let found : association_of serial new.associations ≡ Some is.changed = subst (λ n. association_of n new.associations ≡ Some is.changed) (sym same) here in
        record { was = is.association; stood = stood; phase_is = ap (λ (x : Association). x.phase) (sym (same_one is.changed b (sym found ∙ stands))) ∙ changed_phase }
    | inr (none, apart) ↦ record {
      was = b;
      stood = sym (ap (λ (h : Held). association_of serial h.associations) is.content ∙ replaced_found old.associations is.place is.association is.changed serial is.there apart changed_itself.serial) ∙ stands;
      phase_is = refl;
    }
  ]

  -- it stands under its serial from then on
  pub probed_stands : (table : Database) → AreSound old table → association_of ike new.associations ≡ Some is.changed
  probed_stands table sound =
      subst (λ n. association_of n new.associations ≡ Some is.changed) probed_serial
      (ap (λ (h : Held). association_of is.association.serial h.associations) is.content
      ∙ replaced_stands old table is.place is.association is.changed sound is.there changed_itself.serial)

  -- the keys of each IKE SA are those that it had
  pub probed_keys : (table : Database) (serial : ℕ) (b was : Association) → AreSound old table → association_of serial new.associations ≡ Some b → association_of serial old.associations ≡ Some was → keys_in b.phase ≡ keys_in was.phase
  probed_keys table serial b was sound stands stood =
      let before = probed_stood table serial b sound stands in
      ap keys_in (before.phase_is ∙ ap (λ (x : Association). x.phase) (same_one before.was was (sym before.stood ∙ stood)))

-- ---- which IKE SA a command is for

pub found_first : (ike : ℕ) (xs : List Association) (place : ℕ) (a : Association) → position (has_serial ike) xs ≡ Some place → slice_get xs place ≡ Some a → association_of ike xs ≡ Some a
found_first ike xs place a first there =
    let by = position-Some (has_serial ike) xs place a first in
    let same : slice_index_or xs place a ≡ a = same_one (slice_index_or xs place a) a (sym (slice_get-get_or xs place a by.0) ∙ there) in
    found_at (has_serial ike) xs place a a there (ap (has_serial ike) (sym same) ∙ by.1) by.2

none_found : (p : Association → Bool) (xs : List Association) → list_any p xs ≡ false → find p xs ≡ None
none_found p [] none = refl
none_found p (x ∷ xs) none = ap (λ b. cond b (Some x) (find p xs)) (or_left (p x) (list_any p xs) none) ∙ none_found p xs (or_right (p x) (list_any p xs) none)

past_end : (p : Association → Bool) (xs : List Association) → position p xs ≡ None → length xs ≤ position_or_len p xs
past_end p xs none = grind (arith, common_steps)

first_fails : (b : Bool) (m n : ℕ) → suc n ≤ cond (not b) (1 + m) 0 → (b ≡ false) × (n ≤ m)
first_fails true m n less = absurd (omega (arith, less))
first_fails false m n less = (refl, omega (arith, less))

none_first : (p : Association → Bool) (xs : List Association) → length xs ≤ position_or_len p xs → list_any p xs ≡ false
none_first p [] less = refl
none_first p (x ∷ xs) less =
    let first = first_fails (p x) (position_or_len p xs) (length xs) less in
    ap (λ b. b || list_any p xs) first.0 ∙ none_first p xs first.1

pub found_none : (ike : ℕ) (xs : List Association) → position (has_serial ike) xs ≡ None → association_of ike xs ≡ None
found_none ike xs none = none_found (has_serial ike) xs (none_first (has_serial ike) xs (past_end (has_serial ike) xs none))

-- what an error is, and what follows of it
pub err_and : {T E : Type 0} (r : Result T E) (P Q : E → Type 0) → IsErrAnd r P → ((e : E) → P e → Q e) → IfErr r Q
err_and {T} {E} (Ok x) P Q is more = tt
err_and {T} {E} (Err e) P Q is more = more e is

-- and so of what an answer is
pub ok_and : {T E : Type 0} (r : Result T E) (P Q : T → Type 0) → IfOk r P → ((x : T) → P x → Q x) → IfOk r Q
ok_and {T} {E} (Ok x) P Q is more = more x is
ok_and {T} {E} (Err e) P Q is more = tt

pub refused_order : (ike place : ℕ) (held : Held) (o : OrderFault) (reason : IkeFault) → position (has_serial ike) held.associations ≡ Some place → RefusesThere place held o → reason ≡ fault_of_order o → RefusesAskingAt (association_of ike held.associations) reason
refused_order ike place held o reason first is same =
    subst (λ (x : Option Association). RefusesAskingAt x reason) (sym (found_first ike held.associations place is.association first is.there)) (o, is.refuses, same)

pub refused_none : (ike : ℕ) (held : Held) (reason : IkeFault) → position (has_serial ike) held.associations ≡ None → reason ≡ fault.Message UnknownAssociation → RefusesAskingAt (association_of ike held.associations) reason
refused_none ike held reason none same = subst (λ (x : Option Association). RefusesAskingAt x reason) (sym (found_none ike held.associations none)) same

pub refused_further : (ike place : ℕ) (held : Held) (table : Database) (f : OrderFault) (reason : IkeFault) → position (has_serial ike) held.associations ≡ Some place → RefusesFurtherThere place held table f → reason ≡ fault_of_order f → RefusesFurtherAt (association_of ike held.associations) table reason
refused_further ike place held table f reason first is same =
    subst (λ (x : Option Association). RefusesFurtherAt x table reason) (sym (found_first ike held.associations place is.association first is.there)) (f, is.refuses, same)

pub refused_nowhere : (ike : ℕ) (held : Held) (table : Database) (reason : IkeFault) → position (has_serial ike) held.associations ≡ None → reason ≡ fault.Message UnknownAssociation → RefusesFurtherAt (association_of ike held.associations) table reason
refused_nowhere ike held table reason none same = subst (λ (x : Option Association). RefusesFurtherAt x table reason) (sym (found_none ike held.associations none)) same

pub none_of : (o : Option ℕ) → ((x : ℕ) → o ≡ Some x → ⊥) → o ≡ None
none_of None never = refl
none_of (Some x) never = absurd (never x refl)
