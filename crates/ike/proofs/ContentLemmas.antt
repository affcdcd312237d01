-- What is asked of a list of IKE SAs goes by what is held of each.
use Rattle.std.proofs.Common.{◌≡◌, ◌||◌, ℕ, ◌+◌, ◌++◌, ◌∷◌, [], Bool, cond, List, length, Option, Some, None, ap, refl, sym, ◌∙◌}
use Rattle.std.specs.List.{count_by, list_any, position, position_or_len, slice_get}
use Rattle.std.specs.Prelude.{map, nat_lt, not, option_map, slice_set}
use Rattle.std.proofs.lemmas.List.{length-map, map-append, map-set}
use Rattle.std.proofs.lemmas.List.Sums.{sum_by-cons}
use Rattle.std.proofs.lemmas.Option.{slice_get-map}
use Rattle.wire.specs.declared.message.Header.{Header}
use Rattle.base.specs.Octets.{Octets}
use Rattle.association.specs.Contents.{association_content}
use Rattle.association.specs.Finding.{place_meant, is_meant, is_of_other_role, place_or, missing}
use Rattle.association.specs.declared.fault.MessageFault.TheVariants.{UnknownAssociation, WrongRole}
use Rattle.association.specs.declared.phase.Association.{Association}
use Rattle.ike.specs.Contents.{held_content}
use Rattle.ike.specs.Machines.{half_open_count, has_own_spi, has_serial, is_bad_spi, is_half_open, Held}
use Rattle.ike.specs.Receiving.{is_answered, with_next}
use Rattle.std.specs.Prelude.{◌==◌, if◌then◌else◌}

-- ---- tests that go by what a map leaves

abbrev IsKept : {A : Type 0} → (A → Bool) → (A → A) → Type 0
IsKept {A} p g = (x : A) → p (g x) ≡ p x

any_kept : {A : Type 0} (p : A → Bool) (g : A → A) → IsKept p g → (xs : List A) → list_any p (map g xs) ≡ list_any p xs
any_kept p g kept [] = refl
any_kept p g kept (x ∷ xs) = ap (λ b. b || list_any p (map g xs)) (kept x) ∙ ap (λ b. p x || b) (any_kept p g kept xs)

count_kept : {A : Type 0} (p : A → Bool) (g : A → A) → IsKept p g → (xs : List A) → count_by p (map g xs) ≡ count_by p xs
count_kept p g kept [] = refl
count_kept p g kept (x ∷ xs) =
    sum_by-cons (λ y. cond (p y) 1 0) (g x) (map g xs)
    ∙ ap (λ b. cond b 1 0 + count_by p (map g xs)) (kept x)
    ∙ ap (λ n. cond (p x) 1 0 + n) (count_kept p g kept xs)
    ∙ sym (sum_by-cons (λ y. cond (p y) 1 0) x xs)

front_kept : {A : Type 0} (p : A → Bool) (g : A → A) → IsKept p g → (xs : List A) → position_or_len p (map g xs) ≡ position_or_len p xs
front_kept p g kept [] = refl
front_kept p g kept (x ∷ xs) =
    ap (λ b. cond (not b) (1 + position_or_len p (map g xs)) 0) (kept x) ∙ ap (λ n. cond (not (p x)) (1 + n) 0) (front_kept p g kept xs)

abbrev first_within : ℕ → ℕ → Option ℕ
first_within n len = cond (nat_lt n len) (Some n) None

place_kept : {A : Type 0} (p : A → Bool) (g : A → A) → IsKept p g → (xs : List A) → position p (map g xs) ≡ position p xs
place_kept p g kept xs =
    ap (λ n. first_within n (length (map g xs))) (front_kept p g kept xs) ∙ ap (first_within (position_or_len p xs)) (length-map xs g)

-- ---- lists of IKE SAs with one content

module _ (xs ys : List Association) (same : map association_content xs ≡ map association_content ys) where
  pub same_any : (p : Association → Bool) → IsKept p association_content → list_any p xs ≡ list_any p ys
  same_any p kept = sym (any_kept p association_content kept xs) ∙ ap (list_any p) same ∙ any_kept p association_content kept ys

  pub same_count : half_open_count xs ≡ half_open_count ys
  same_count =
      sym (count_kept is_half_open association_content (λ x. refl) xs) ∙ ap half_open_count same ∙ count_kept is_half_open association_content (λ x. refl) ys

  pub same_length : length xs ≡ length ys
  same_length = sym (length-map xs association_content) ∙ ap length same ∙ length-map ys association_content

  same_place : (p : Association → Bool) → IsKept p association_content → position p xs ≡ position p ys
  same_place p kept = sym (place_kept p association_content kept xs) ∙ ap (position p) same ∙ place_kept p association_content kept ys

  pub same_answered : (octets : Octets) → position (is_answered octets) xs ≡ position (is_answered octets) ys
  same_answered octets = same_place (is_answered octets) (λ x. refl)

  pub same_found : (h : Header) → place_meant h xs ≡ place_meant h ys
  same_found h =
      ap (λ (o : Option ℕ). place_or o (missing h xs)) (same_place (is_meant h) (λ x. refl))
      ∙ ap (λ b. place_or (position (is_meant h) ys) (if b then WrongRole else UnknownAssociation)) (same_any (is_of_other_role h) (λ x. refl))

  pub same_bad : (spi : ℕ) → is_bad_spi spi xs ≡ is_bad_spi spi ys
  same_bad spi = ap (λ b. spi == 0 || b) (same_any (has_own_spi spi) (λ x. refl))

  pub same_first : (serial : ℕ) → position (has_serial serial) xs ≡ position (has_serial serial) ys
  same_first serial = same_place (has_serial serial) (λ x. refl)

  pub same_serials : (serial : ℕ) → list_any (has_serial serial) xs ≡ list_any (has_serial serial) ys
  same_serials serial = same_any (has_serial serial) (λ x. refl)

  pub same_there : (place : ℕ) (a b : Association) → slice_get xs place ≡ Some a → slice_get ys place ≡ Some b → association_content a ≡ association_content b
  same_there place a b here there =
      let both : Some (association_content a) ≡ Some (association_content b) =
      sym (ap (option_map association_content) here)
      ∙ sym (slice_get-map association_content xs place)
      ∙ ap (λ (l : List Association). slice_get l place) same
      ∙ slice_get-map association_content ys place
      ∙ ap (option_map association_content) there in
      cc

  pub same_replaced : (place : ℕ) (a b : Association) → association_content a ≡ association_content b → map association_content (slice_set xs place a) ≡ map association_content (slice_set ys place b)
  same_replaced place a b alike =
      map-set association_content xs place a
      ∙ ap (λ (l : List Association). slice_set l place (association_content a)) same
      ∙ ap (λ (x : Association). slice_set (map association_content ys) place x) alike
      ∙ sym (map-set association_content ys place b)

  pub same_grown : (a b : Association) → association_content a ≡ association_content b → map association_content (xs ++ a ∷ []) ≡ map association_content (ys ++ b ∷ [])
  same_grown a b alike =
      map-append association_content xs (a ∷ [])
      ∙ ap (λ (l : List Association). l ++ association_content a ∷ []) same
      ∙ ap (λ (x : Association). map association_content ys ++ x ∷ []) alike
      ∙ sym (map-append association_content ys (b ∷ []))

-- ---- what is held

module _ (old other : Held) (same : held_content old ≡ held_content other) where
  pub same_next : old.next ≡ other.next
  same_next = ap (λ (h : Held). h.next) same

  pub same_list : map association_content old.associations ≡ map association_content other.associations
  same_list = ap (λ (h : Held). h.associations) same

  pub same_after_next : (a b : Association) → association_content a ≡ association_content b → held_content (with_next old a) ≡ held_content (with_next other b)
  same_after_next a b alike =
      let next = same_next in
      let list = same_grown old.associations other.associations same_list a b alike in
      λ i. record { next = next i + 1; associations = list i }

  pub same_after_change : (place : ℕ) (a b : Association) → association_content a ≡ association_content b
      → held_content (record old { associations = slice_set old.associations place a }) ≡ held_content (record other { associations = slice_set other.associations place b })
  same_after_change place a b alike =
      let next = same_next in
      let list = same_replaced old.associations other.associations same_list place a b alike in
      λ i. record { next = next i; associations = list i }
