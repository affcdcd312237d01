-- What is asked of the IKE SAs that are held goes by no serial, but for what asks for one.
use Rattle.std.proofs.Common.{◌≡◌, ◌||◌, inl, inr, ℕ, ◌+◌, ◌<◌, ◌∷◌, [], Bool, true, false, cond, List, length, map, Option, Some, None, ap, refl, subst, sym, ◌∙◌, arith}
use Rattle.std.specs.List.{count_by, find, list_any, position, position_or_len, slice_get}
use Rattle.std.specs.Prelude.{◌==◌, Contains, nat_lt, not, option_map, slice_set, if◌then◌else◌}
use Rattle.std.proofs.lemmas.Bool.{eq-eqb, ne_eqb}
use Rattle.std.proofs.lemmas.Bool.Decides.{eqb_tells}
use Rattle.std.proofs.lemmas.List.{get_or-map, length-map, map-append, map-set}
use Rattle.std.proofs.lemmas.List.Sums.{sum_by-cons}
use Rattle.std.proofs.lemmas.Option.{slice_get-map}
use Rattle.base.specs.Octets.{Octets}
use Rattle.wire.specs.declared.message.Header.{Header}
use Rattle.association.specs.Finding.{is_meant, is_of_other_role, missing, place_meant, place_or}
use Rattle.association.specs.Outcomes.{closed_by, made_by}
use Rattle.association.specs.declared.fault.MessageFault.TheVariants.{UnknownAssociation, WrongRole}
use Rattle.association.specs.declared.phase.Association.{Association}
use Rattle.effects.specs.declared.taking.Effect.{Effect}
use Rattle.effects.specs.declared.taking.Effect.TheVariants as effect
use Rattle.ike.specs.Machines.{association_of, half_open_count, has_own_spi, has_serial, is_bad_spi, is_half_open, Held}
use Rattle.ike.specs.Outputs.{child_of, closed_serial, reply_mark, stepped_of}
use Rattle.ike.specs.Receiving.{is_answered, with_next}
use Rattle.ike.specs.declared.output.IkeOutput.TheVariants.{Counted, Reply}
use Rattle.gateway.specs.Renaming.{renamed_association, renamed_held, renamed_made, renamed_stepped, IsRenaming}

-- ---- tests of a mapped list

-- the test of what a map makes of an element is another test of that element
abbrev IsAlike : {A : Type 0} → (A → Bool) → (A → Bool) → (A → A) → Type 0
IsAlike {A} p q g = (x : A) → p (g x) ≡ q x

any_alike : {A : Type 0} (p q : A → Bool) (g : A → A) → IsAlike p q g → (xs : List A) → list_any p (map g xs) ≡ list_any q xs
any_alike p q g alike [] = refl
any_alike p q g alike (x ∷ xs) = ap (λ b. b || list_any p (map g xs)) (alike x) ∙ ap (λ b. q x || b) (any_alike p q g alike xs)

count_alike : {A : Type 0} (p q : A → Bool) (g : A → A) → IsAlike p q g → (xs : List A) → count_by p (map g xs) ≡ count_by q xs
count_alike p q g alike [] = refl
count_alike p q g alike (x ∷ xs) =
    sum_by-cons (λ y. cond (p y) 1 0) (g x) (map g xs)
    ∙ ap (λ b. cond b 1 0 + count_by p (map g xs)) (alike x)
    ∙ ap (λ n. cond (q x) 1 0 + n) (count_alike p q g alike xs)
    ∙ sym (sum_by-cons (λ y. cond (q y) 1 0) x xs)

front_alike : {A : Type 0} (p q : A → Bool) (g : A → A) → IsAlike p q g → (xs : List A) → position_or_len p (map g xs) ≡ position_or_len q xs
front_alike p q g alike [] = refl
front_alike p q g alike (x ∷ xs) =
    ap (λ b. cond (not b) (1 + position_or_len p (map g xs)) 0) (alike x) ∙ ap (λ n. cond (not (q x)) (1 + n) 0) (front_alike p q g alike xs)

abbrev first_within : ℕ → ℕ → Option ℕ
first_within n len = cond (nat_lt n len) (Some n) None

place_alike : {A : Type 0} (p q : A → Bool) (g : A → A) → IsAlike p q g → (xs : List A) → position p (map g xs) ≡ position q xs
place_alike p q g alike xs =
    ap (λ n. first_within n (length (map g xs))) (front_alike p q g alike xs) ∙ ap (first_within (position_or_len q xs)) (length-map xs g)

chosen : {A : Type 0} (g : A → A) (b : Bool) (x : A) (o : Option A) → cond b (Some (g x)) (option_map g o) ≡ option_map g (cond b (Some x) o)
chosen g true x o = refl
chosen g false x o = refl

found_alike : {A : Type 0} (p q : A → Bool) (g : A → A) → IsAlike p q g → (xs : List A) → find p (map g xs) ≡ option_map g (find q xs)
found_alike p q g alike [] = refl
found_alike p q g alike (x ∷ xs) =
    ap (λ b. cond b (Some (g x)) (find p (map g xs))) (alike x)
    ∙ ap (λ o. cond (q x) (Some (g x)) o) (found_alike p q g alike xs)
    ∙ chosen g (q x) x (find q xs)

pub mapped : {A B : Type 0} (g : A → B) (xs : List A) (x : A) → Contains xs x → Contains (map g xs) (g x)
mapped g xs x is = (is.0, subst (λ n. is.0 < n) (sym (length-map xs g)) is.1, get_or-map g xs is.0 x (g x) is.1 ∙ ap g is.2)

-- ---- lists of IKE SAs

module _ (r : ℕ → ℕ) (xs : List Association) where
  pub same_count : half_open_count (map (renamed_association r) xs) ≡ half_open_count xs
  same_count = count_alike is_half_open is_half_open (renamed_association r) (λ x. refl) xs

  pub same_length : length (map (renamed_association r) xs) ≡ length xs
  same_length = length-map xs (renamed_association r)

  pub same_answered : (octets : Octets) → position (is_answered octets) (map (renamed_association r) xs) ≡ position (is_answered octets) xs
  same_answered octets = place_alike (is_answered octets) (is_answered octets) (renamed_association r) (λ x. refl) xs

  pub same_found : (h : Header) → place_meant h (map (renamed_association r) xs) ≡ place_meant h xs
  same_found h =
      ap (λ (o : Option ℕ). place_or o (missing h (map (renamed_association r) xs))) (place_alike (is_meant h) (is_meant h) (renamed_association r) (λ x. refl) xs)
      ∙ ap (λ b. place_or (position (is_meant h) xs) (if b then WrongRole else UnknownAssociation)) (any_alike (is_of_other_role h) (is_of_other_role h) (renamed_association r) (λ x. refl) xs)

  pub same_bad : (spi : ℕ) → is_bad_spi spi (map (renamed_association r) xs) ≡ is_bad_spi spi xs
  same_bad spi = ap (λ b. spi == 0 || b) (any_alike (has_own_spi spi) (has_own_spi spi) (renamed_association r) (λ x. refl) xs)

  pub stands_renamed : (place : ℕ) (a : Association) → slice_get xs place ≡ Some a → slice_get (map (renamed_association r) xs) place ≡ Some (renamed_association r a)
  stands_renamed place a there = slice_get-map (renamed_association r) xs place ∙ ap (option_map (renamed_association r)) there

-- ---- by a serial

pub same_test : (r : ℕ → ℕ) → ((one other : ℕ) → r one ≡ r other → one ≡ other) → (one other : ℕ) → (r one == r other) ≡ (one == other)
same_test r apart one other = elim (eqb_tells one other) [
  | inl (equal, same) ↦ eq-eqb (r one) (r other) (ap r same) ∙ sym equal
  | inr (unequal, differ) ↦ ne_eqb (r one) (r other) (λ e. differ (apart one other e)) ∙ sym unequal
]

module _ (r : ℕ → ℕ) (apart : (one other : ℕ) → r one ≡ r other → one ≡ other) (serial : ℕ) (xs : List Association) where
  pub same_first : position (has_serial (r serial)) (map (renamed_association r) xs) ≡ position (has_serial serial) xs
  same_first = place_alike (has_serial (r serial)) (has_serial serial) (renamed_association r) (λ x. same_test r apart x.serial serial) xs

  pub found_renamed : association_of (r serial) (map (renamed_association r) xs) ≡ option_map (renamed_association r) (association_of serial xs)
  found_renamed = found_alike (has_serial (r serial)) (has_serial serial) (renamed_association r) (λ x. same_test r apart x.serial serial) xs

-- ---- what is held

pub renamed_after_next : (r : ℕ → ℕ) (old : Held) → IsRenaming r old.next → (a : Association) → renamed_held r (with_next old a) ≡ with_next (renamed_held r old) (renamed_association r a)
renamed_after_next r old renaming a =
    let next : r (old.next + 1) ≡ r old.next + 1 = renaming.goes_on old.next (omega arith) in
    let list = map-append (renamed_association r) old.associations (a ∷ []) in
    λ i. record { next = next i; associations = list i }

pub renamed_after_change : (r : ℕ → ℕ) (old : Held) (place : ℕ) (a : Association)
    → renamed_held r (record old { associations = slice_set old.associations place a }) ≡ record (renamed_held r old) { associations = slice_set (map (renamed_association r) old.associations) place (renamed_association r a) }
renamed_after_change r old place a = ap (λ (l : List Association). record (renamed_held r old) { associations = l }) (map-set (renamed_association r) old.associations place a)

-- ---- what comes of a message

renamed_closed : (r : ℕ → ℕ) (ike : ℕ) (closed : Bool) → option_map r (closed_serial ike closed) ≡ closed_serial (r ike) closed
renamed_closed r ike true = refl
renamed_closed r ike false = refl

renamed_child : (r : ℕ → ℕ) (ike number : ℕ) (asked : Bool) (made : Option ℕ) → option_map (renamed_made r) (child_of ike number asked made) ≡ child_of (r ike) number asked made
renamed_child r ike number asked (Some serial) = refl
renamed_child r ike number asked None = refl

pub renamed_effect : (r : ℕ → ℕ) (ike number : ℕ) (e : Effect) → renamed_stepped r (stepped_of ike number e) ≡ stepped_of (r ike) number e
renamed_effect r ike number (effect.Refused f) = refl
renamed_effect r ike number (effect.Repeated octets) = refl
renamed_effect r ike number (effect.Replied answered) =
    let closed = renamed_closed r ike (closed_by answered.fate) in
    let child = renamed_child r ike number false (made_by answered.fate) in
    λ i. record { output = Reply answered.octets (closed i); trace = record { sent = reply_mark (r ike) number; keyed = None; child = child i; declined = None } }
renamed_effect r ike number (effect.Again octets) = refl
renamed_effect r ike number (effect.AsksAuth octets) = refl
renamed_effect r ike number (effect.Counted ended) =
    let closed = renamed_closed r ike (closed_by ended.fate) in
    let child = renamed_child r ike number true (made_by ended.fate) in
    λ i. record { output = Counted (r ike) (made_by ended.fate) (closed i); trace = record { sent = None; keyed = None; child = child i; declined = ended.declined } }
