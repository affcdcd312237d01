-- IKE SAs by their serials.
use Rattle.std.proofs.Common.{◌≡◌, ◌≢◌, inl, inr, ℕ, zero, suc, ◌<◌, ◌++◌, ◌∷◌, [], Bool, true, false, cond, not, List, length, Option, Some, None, ap, refl, subst, sym, ◌∙◌, arith}
use Rattle.std.specs.List.{slice_get}
use Rattle.std.specs.Prelude.{option_and_then, slice_set}
use Rattle.std.proofs.lemmas.Bool.{eq-eqb, ne_eqb}
use Rattle.suite.specs.declared.key_record.KeyRecord.{KeyRecord}
use Rattle.sadb.specs.Database.{Database}
use Rattle.association.specs.Phases.{keys_in}
use Rattle.association.specs.declared.phase.Association.{Association}
use Rattle.ike.specs.Machines.{association_of, has_serial, keys_of_serial, others_than, Held}
use Rattle.ike.specs.Soundness.{AreSound, At}
use Rattle.ike.proofs.ListLemmas.{grown, replaced}

pub same_one : (x a : Association) → Some x ≡ Some a → x ≡ a
same_one x a e = cc

-- ---- what stands at a place

pub set_there : (xs : List Association) (place : ℕ) (a b : Association) → slice_get xs place ≡ Some a → slice_get (slice_set xs place b) place ≡ Some b
set_there [] place a b there = absurd cc
set_there (x ∷ xs) zero a b there = refl
set_there (x ∷ xs) (suc place) a b there = set_there xs place a b there

pub last_there : (xs : List Association) (b : Association) → slice_get (xs ++ b ∷ []) (length xs) ≡ Some b
last_there [] b = refl
last_there (x ∷ xs) b = last_there xs b

-- ---- the one with a serial

found_first : (xs : List Association) (place : ℕ) (a : Association) → slice_get xs place ≡ Some a
    → ((k : ℕ) (c : Association) → k < place → slice_get xs k ≡ Some c → c.serial < a.serial) → association_of a.serial xs ≡ Some a
found_first [] place a there below = absurd cc
found_first (x ∷ xs) zero a there below =
    let same : x ≡ a = same_one x a there in
    ap (λ b. cond b (Some x) (association_of a.serial xs)) (eq-eqb x.serial a.serial (ap (λ (c : Association). c.serial) same)) ∙ ap Some same
found_first (x ∷ xs) (suc place) a there below =
    let less : x.serial < a.serial = below 0 x (omega arith) refl in
    ap (λ b. cond b (Some x) (association_of a.serial xs)) (ne_eqb x.serial a.serial (λ e. omega (arith, less, e)))
    ∙ found_first xs place a there (λ k c before is. below (suc k) c (omega (arith, before)) is)

-- of IKE SAs that are sound each is the one with its serial
pub sound_found : (held : Held) (table : Database) (place : ℕ) (a : Association) → AreSound held table → At held place a → association_of a.serial held.associations ≡ Some a
sound_found held table place a sound there =
    found_first held.associations place a there (λ k c before is. (sound.apart k place c a before is there).rising)

-- so is one that changed, and one that came with the next serial
pub replaced_stands : (held : Held) (table : Database) (place : ℕ) (a b : Association) → AreSound held table → At held place a → b.serial ≡ a.serial
    → association_of a.serial (slice_set held.associations place b) ≡ Some b
replaced_stands held table place a b sound there same =
    subst (λ n. association_of n (slice_set held.associations place b) ≡ Some b) same
    (found_first (slice_set held.associations place b) place b (set_there held.associations place a b there)
    (λ k c before is.
    elim (replaced held.associations place b k c is) [
      | inl (here, new) ↦ absurd (omega (arith, before, here))
      | inr (other, stood) ↦ let less = (sound.apart k place c a before stood there).rising in omega (arith, less, same)
    ]))

pub grown_stands : (held : Held) (table : Database) (b : Association) → AreSound held table → b.serial ≡ held.next → association_of b.serial (held.associations ++ b ∷ []) ≡ Some b
grown_stands held table b sound serial =
    found_first (held.associations ++ b ∷ []) (length held.associations) b (last_there held.associations b)
    (λ k c before is.
    elim (grown held.associations b k c is) [
      | inl (here, new) ↦ absurd (omega (arith, before, here))
      | inr (other, stood) ↦ let given = (sound.each k c stood).serial_given in omega (arith, given, serial)
    ])

none_found : (xs : List Association) (n : ℕ) → ((k : ℕ) (c : Association) → slice_get xs k ≡ Some c → c.serial < n) → association_of n xs ≡ None
none_found [] n below = refl
none_found (x ∷ xs) n below =
    let less : x.serial < n = below 0 x refl in
    ap (λ b. cond b (Some x) (association_of n xs)) (ne_eqb x.serial n (λ e. omega (arith, less, e))) ∙ none_found xs n (λ k c is. below (suc k) c is)

-- none has the next serial
pub none_next : (held : Held) (table : Database) → AreSound held table → association_of held.next held.associations ≡ None
none_next held table sound = none_found held.associations held.next (λ k c is. (sound.each k c is).serial_given)

-- ---- what stays

-- who has another serial is not the one that is looked for
passed : (other : ℕ) (x : Association) (o : Option Association) → other ≢ x.serial → cond (has_serial other x) (Some x) o ≡ o
passed other x o apart = ap (λ b. cond b (Some x) o) (ne_eqb x.serial other (λ e. apart (sym e)))

pub replaced_found : (xs : List Association) (place : ℕ) (a b : Association) (other : ℕ) → slice_get xs place ≡ Some a → other ≢ a.serial → b.serial ≡ a.serial
    → association_of other (slice_set xs place b) ≡ association_of other xs
replaced_found [] place a b other there apart same = absurd cc
replaced_found (x ∷ xs) zero a b other there apart same =
    let is : x ≡ a = same_one x a there in
    passed other b (association_of other xs) (λ e. apart (e ∙ same))
    ∙ sym (passed other x (association_of other xs) (λ e. apart (e ∙ ap (λ (c : Association). c.serial) is)))
replaced_found (x ∷ xs) (suc place) a b other there apart same = ap (λ o. cond (has_serial other x) (Some x) o) (replaced_found xs place a b other there apart same)

pub grown_found : (xs : List Association) (b : Association) (other : ℕ) → other ≢ b.serial → association_of other (xs ++ b ∷ []) ≡ association_of other xs
grown_found [] b other apart = passed other b None apart
grown_found (x ∷ xs) b other apart = ap (λ o. cond (has_serial other x) (Some x) o) (grown_found xs b other apart)

-- who has the serial is none of the others
left_out : (serial : ℕ) (x : Association) (xs : List Association) → x.serial ≡ serial → others_than serial (x ∷ xs) ≡ others_than serial xs
left_out serial x xs same = ap (λ b. cond (not b) (x ∷ others_than serial xs) (others_than serial xs)) (eq-eqb x.serial serial same)

pub replaced_others : (xs : List Association) (place : ℕ) (a b : Association) (serial : ℕ) → slice_get xs place ≡ Some a → a.serial ≡ serial → b.serial ≡ serial
    → others_than serial (slice_set xs place b) ≡ others_than serial xs
replaced_others [] place a b serial there was is = absurd cc
replaced_others (x ∷ xs) zero a b serial there was is =
    left_out serial b xs is ∙ sym (left_out serial x xs (ap (λ (c : Association). c.serial) (same_one x a there) ∙ was))
replaced_others (x ∷ xs) (suc place) a b serial there was is =
    ap (λ ys. cond (not (has_serial serial x)) (x ∷ ys) ys) (replaced_others xs place a b serial there was is)

pub grown_others : (xs : List Association) (b : Association) (serial : ℕ) → b.serial ≡ serial → others_than serial (xs ++ b ∷ []) ≡ others_than serial xs
grown_others [] b serial is = left_out serial b [] is
grown_others (x ∷ xs) b serial is = ap (λ ys. cond (not (has_serial serial x)) (x ∷ ys) ys) (grown_others xs b serial is)

-- ---- keys

abbrev pub keys_of : Option Association → Option KeyRecord
keys_of o = option_and_then (λ (a : Association). keys_in a.phase) o

picked_keys : (b : Bool) (x : Association) (o more : Option Association) (keys : KeyRecord) → (keys_of o ≡ Some keys → keys_of more ≡ Some keys)
    → keys_of (cond b (Some x) o) ≡ Some keys → keys_of (cond b (Some x) more) ≡ Some keys
picked_keys true x o more keys stay is = is
picked_keys false x o more keys stay is = stay is

-- one more IKE SA leaves the others their keys
pub grown_keys : (xs : List Association) (b : Association) (serial : ℕ) (keys : KeyRecord) → keys_of_serial serial xs ≡ Some keys → keys_of_serial serial (xs ++ b ∷ []) ≡ Some keys
grown_keys [] b serial keys is = absurd cc
grown_keys (x ∷ xs) b serial keys is =
    picked_keys (has_serial serial x) x (association_of serial xs) (association_of serial (xs ++ b ∷ [])) keys (grown_keys xs b serial keys) is
