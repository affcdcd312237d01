-- Lists of which some items are left out, by a test of each.
use Rattle.std.proofs.Common.{◌≡◌, inl, inr, ℕ, zero, suc, ◌+◌, ◌≤◌, ◌++◌, ◌∷◌, [], ◌||◌, Bool, true, false, cond, not, List, length, Option, Some, None, ap, refl, sym, ◌∙◌, subst, arith}
use Rattle.std.specs.List.{count_by, filter, find, list_any, position, position_or_len, slice_get}
use Rattle.std.specs.Prelude.{nat_lt, option_map, slice_set}
use Rattle.std.proofs.lemmas.Bool.{cases_lt, le-ltb, lt-ltb}
use Rattle.std.proofs.lemmas.List.Elements.{filter-append}
use Rattle.std.proofs.lemmas.List.Sums.{sum_by-cons}
use Rattle.std.proofs.lemmas.Option.{none-some}

pub same_one : {X : Type 0} (x y : X) → Some x ≡ Some y → x ≡ y
same_one x y is = cc

-- ---- what holds of each item

abbrev pub EachOf : {X : Type 0} → (X → Type 0) → List X → Type 0
EachOf {X} P xs = (place : ℕ) (x : X) → slice_get xs place ≡ Some x → P x

pub first_of : {X : Type 0} (P : X → Type 0) (x : X) (xs : List X) → EachOf P (x ∷ xs) → P x
first_of P x xs each = each zero x refl

pub rest_of : {X : Type 0} (P : X → Type 0) (x : X) (xs : List X) → EachOf P (x ∷ xs) → EachOf P xs
rest_of P x xs each place y there = each (suc place) y there

pub each_of_none : {X : Type 0} (P : X → Type 0) → EachOf P []
each_of_none P place x there = absurd (none-some x there)

pub each_of_one : {X : Type 0} (P : X → Type 0) (x : X) → P x → EachOf P (x ∷ [])
each_of_one P x holds zero y there = subst P (same_one x y there) holds
each_of_one P x holds (suc place) y there = absurd (none-some y there)

pub each_of_both : {X : Type 0} (P : X → Type 0) (xs ys : List X) → EachOf P xs → EachOf P ys → EachOf P (xs ++ ys)
each_of_both P [] ys each others place y there = others place y there
each_of_both P (x ∷ xs) ys each others zero y there = each zero y there
each_of_both P (x ∷ xs) ys each others (suc place) y there = each_of_both P xs ys (rest_of P x xs each) others place y there

pub each_of_replaced : {X : Type 0} (P : X → Type 0) (xs : List X) (i : ℕ) (y : X) → EachOf P xs → P y → EachOf P (slice_set xs i y)
each_of_replaced P [] i y each holds place z there = absurd (none-some z there)
each_of_replaced P (x ∷ xs) zero y each holds zero z there = subst P (same_one y z there) holds
each_of_replaced P (x ∷ xs) zero y each holds (suc place) z there = each (suc place) z there
each_of_replaced P (x ∷ xs) (suc i) y each holds zero z there = each zero z there
each_of_replaced P (x ∷ xs) (suc i) y each holds (suc place) z there = each_of_replaced P xs i y (rest_of P x xs each) holds place z there

-- ---- the first item that passes a test

abbrev first_within : ℕ → ℕ → Option ℕ
first_within n len = cond (nat_lt n len) (Some n) None

less_next : (n len : ℕ) → nat_lt (1 + n) (suc len) ≡ nat_lt n len
less_next n len = elim (cases_lt n len) [
  | inl less ↦ lt-ltb (1 + n) (suc len) (omega arith) ∙ sym (lt-ltb n len less)
  | inr more ↦ le-ltb (1 + n) (suc len) (omega arith) ∙ sym (le-ltb n len more)
]

more_if : (t : Bool) (n : ℕ) → cond t (Some (1 + n)) None ≡ option_map suc (cond t (Some n) None)
more_if true n = ap Some (omega arith)
more_if false n = refl

first_by : (t : Bool) (n len : ℕ) → first_within (cond (not t) (1 + n) 0) (suc len) ≡ cond t (Some 0) (option_map suc (first_within n len))
first_by true n len = ap (λ b. cond b (Some 0) None) (lt-ltb 0 (suc len) (omega arith))
first_by false n len = ap (λ b. cond b (Some (1 + n)) None) (less_next n len) ∙ more_if (nat_lt n len) n

pub position_next : {X : Type 0} (p : X → Bool) (x : X) (xs : List X) → position p (x ∷ xs) ≡ cond (p x) (Some 0) (option_map suc (position p xs))
position_next p x xs = first_by (p x) (position_or_len p xs) (length xs)

pub position_none : {X : Type 0} (p : X → Bool) → position p [] ≡ None
position_none p = refl

passes_by : {X : Type 0} (p : X → Bool) (t : Bool) (x : X) (xs : List X) (o : Option ℕ) (place : ℕ) (y : X) → p x ≡ t → ((k : ℕ) (z : X) → o ≡ Some k → slice_get xs k ≡ Some z → p z ≡ true) → cond t (Some 0) (option_map suc o) ≡ Some place
    → slice_get (x ∷ xs) place ≡ Some y → p y ≡ true
passes_by p true x xs o zero y test later first there = ap p (sym (same_one x y there)) ∙ test
passes_by p true x xs o (suc place) y test later first there = absurd (let no : zero ≡ suc place = cc in omega arith)
passes_by p false x xs None place y test later first there = absurd cc
passes_by p false x xs (Some k) zero y test later first there = absurd (let no : suc k ≡ zero = cc in omega arith)
passes_by p false x xs (Some k) (suc place) y test later first there =
    let same : suc k ≡ suc place = cc in
    let one : k ≡ place = omega arith in
    later k y refl (ap (slice_get xs) one ∙ there)

-- what stands at the first place passes
pub position_passes : {X : Type 0} (p : X → Bool) (xs : List X) (place : ℕ) (y : X) → position p xs ≡ Some place → slice_get xs place ≡ Some y → p y ≡ true
position_passes p [] place y first there = absurd (none-some y there)
position_passes p (x ∷ xs) place y first there =
    passes_by p (p x) x xs (position p xs) place y refl (λ k z. position_passes p xs k z) (sym (position_next p x xs) ∙ first) there

-- ---- what is left

-- the place of an item in the list that is left
abbrev pub place_left : {X : Type 0} → (X → Bool) → List X → ℕ → ℕ
place_left keep [] place = zero
place_left keep (x ∷ xs) zero = zero
place_left keep (x ∷ xs) (suc place) = cond (keep x) (suc (place_left keep xs place)) (place_left keep xs place)

clash : (b : Bool) → b ≡ true → b ≡ false → ⊥
clash true one other = absurd cc
clash false one other = absurd cc

later_there : {X : Type 0} (k : Bool) (x : X) (ys : List X) (place : ℕ) (y : X) → slice_get ys place ≡ Some y → slice_get (cond k (x ∷ ys) ys) (cond k (suc place) place) ≡ Some y
later_there true x ys place y there = there
later_there false x ys place y there = there

first_there : {X : Type 0} (k : Bool) (x : X) (ys : List X) → k ≡ true → slice_get (cond k (x ∷ ys) ys) zero ≡ Some x
first_there true x ys kept = refl
first_there false x ys kept = absurd cc

later_set : {X : Type 0} (k : Bool) (x : X) (ys : List X) (place : ℕ) (y : X) → cond k (x ∷ slice_set ys place y) (slice_set ys place y) ≡ slice_set (cond k (x ∷ ys) ys) (cond k (suc place) place) y
later_set true x ys place y = refl
later_set false x ys place y = refl

first_set : {X : Type 0} (k l : Bool) (x y : X) (ys : List X) → k ≡ true → l ≡ true → cond l (y ∷ ys) ys ≡ slice_set (cond k (x ∷ ys) ys) zero y
first_set true true x y ys kept also = refl
first_set true false x y ys kept also = absurd cc
first_set false l x y ys kept also = absurd cc

moved_more : (o : Option ℕ) (f g : ℕ → ℕ) → ((n : ℕ) → g (suc n) ≡ suc (f n)) → option_map suc (option_map f o) ≡ option_map g (option_map suc o)
moved_more None f g next = refl
moved_more (Some n) f g next = ap Some (sym (next n))

moved_same : (o : Option ℕ) (f g : ℕ → ℕ) → ((n : ℕ) → g (suc n) ≡ f n) → option_map f o ≡ option_map g (option_map suc o)
moved_same None f g next = refl
moved_same (Some n) f g next = ap Some (sym (next n))

place_by : {X : Type 0} (p : X → Bool) (k t : Bool) (x : X) (ys : List X) (o : Option ℕ) (f g : ℕ → ℕ) → p x ≡ t → (k ≡ false → t ≡ false) → position p ys ≡ option_map f o
    → g zero ≡ zero → ((n : ℕ) → g (suc n) ≡ cond k (suc (f n)) (f n)) → position p (cond k (x ∷ ys) ys) ≡ option_map g (cond t (Some 0) (option_map suc o))
place_by p true true x ys o f g test only rest first next = position_next p x ys ∙ ap (λ b. cond b (Some 0) (option_map suc (position p ys))) test ∙ ap Some (sym first)
place_by p true false x ys o f g test only rest first next =
    position_next p x ys ∙ ap (λ b. cond b (Some 0) (option_map suc (position p ys))) test ∙ ap (option_map suc) rest ∙ moved_more o f g next
place_by p false true x ys o f g test only rest first next = let no : true ≡ false = only refl in absurd cc
place_by p false false x ys o f g test only rest first next = rest ∙ moved_same o f g next

any_by : {X : Type 0} (p : X → Bool) (k : Bool) (x : X) (ys : List X) → (k ≡ false → p x ≡ false) → list_any p (cond k (x ∷ ys) ys) ≡ (p x || list_any p ys)
any_by p true x ys only = refl
any_by p false x ys only = sym (ap (λ b. b || list_any p ys) (only refl))

find_by : {X : Type 0} (p : X → Bool) (k : Bool) (x : X) (ys : List X) → (k ≡ false → p x ≡ false) → find p (cond k (x ∷ ys) ys) ≡ cond (p x) (Some x) (find p ys)
find_by p true x ys only = refl
find_by p false x ys only = sym (ap (λ b. cond b (Some x) (find p ys)) (only refl))

length_by : {X : Type 0} (k : Bool) (x : X) (ys : List X) (n : ℕ) → length ys ≤ n → length (cond k (x ∷ ys) ys) ≤ suc n
length_by true x ys n less = omega arith
length_by false x ys n less = omega arith

weight_more : (b : Bool) (n m : ℕ) → n ≤ m → n ≤ cond b 1 0 + m
weight_more true n m less = omega arith
weight_more false n m less = omega arith

count_by_kept : {X : Type 0} (p : X → Bool) (k : Bool) (x : X) (xs ys : List X) → count_by p ys ≤ count_by p xs → count_by p (cond k (x ∷ ys) ys) ≤ count_by p (x ∷ xs)
count_by_kept p true x xs ys less =
    let one = sum_by-cons (λ y. cond (p y) 1 0) x ys in
    let two = sum_by-cons (λ y. cond (p y) 1 0) x xs in
    omega (arith, one, two, less)
count_by_kept p false x xs ys less =
    let two = sum_by-cons (λ y. cond (p y) 1 0) x xs in
    let more = weight_more (p x) (count_by p ys) (count_by p xs) less in
    omega (arith, two, more)

module _ {X : Type 0} (keep : X → Bool) where
  pub left_there : (xs : List X) (place : ℕ) (y : X) → slice_get xs place ≡ Some y → keep y ≡ true → slice_get (filter keep xs) (place_left keep xs place) ≡ Some y
  left_there [] place y there kept = absurd (none-some y there)
  left_there (x ∷ xs) zero y there kept =
      first_there (keep x) x (filter keep xs) (ap keep (same_one x y there) ∙ kept) ∙ there
  left_there (x ∷ xs) (suc place) y there kept = later_there (keep x) x (filter keep xs) (place_left keep xs place) y (left_there xs place y there kept)

  pub left_replaced : (xs : List X) (place : ℕ) (y z : X) → slice_get xs place ≡ Some y → keep y ≡ true → keep z ≡ true → filter keep (slice_set xs place z) ≡ slice_set (filter keep xs) (place_left keep xs place) z
  left_replaced [] place y z there kept also = absurd (none-some y there)
  left_replaced (x ∷ xs) zero y z there kept also = first_set (keep x) (keep z) x z (filter keep xs) (ap keep (same_one x y there) ∙ kept) also
  left_replaced (x ∷ xs) (suc place) y z there kept also =
      ap (λ l. cond (keep x) (x ∷ l) l) (left_replaced xs place y z there kept also) ∙ later_set (keep x) x (filter keep xs) (place_left keep xs place) z

  pub left_grown : (xs : List X) (y : X) → keep y ≡ true → filter keep (xs ++ y ∷ []) ≡ filter keep xs ++ y ∷ []
  left_grown xs y kept = filter-append keep xs (y ∷ []) ∙ ap (λ b. filter keep xs ++ cond b (y ∷ []) []) kept

  pub left_length : (xs : List X) → length (filter keep xs) ≤ length xs
  left_length [] = omega arith
  left_length (x ∷ xs) = length_by (keep x) x (filter keep xs) (length xs) (left_length xs)

  pub left_count : (p : X → Bool) (xs : List X) → count_by p (filter keep xs) ≤ count_by p xs
  left_count p [] = omega arith
  left_count p (x ∷ xs) = count_by_kept p (keep x) x xs (filter keep xs) (left_count p xs)

  -- a test that none passes of those that are left out
  abbrev pub FailsOthers : (X → Bool) → List X → Type 0
  FailsOthers p xs = EachOf (λ x. keep x ≡ false → p x ≡ false) xs

  module _ (p : X → Bool) where
    pub left_position : (xs : List X) → FailsOthers p xs → position p (filter keep xs) ≡ option_map (place_left keep xs) (position p xs)
    left_position [] fails = refl
    left_position (x ∷ xs) fails =
        place_by p (keep x) (p x) x (filter keep xs) (position p xs) (place_left keep xs) (place_left keep (x ∷ xs)) refl (first_of (λ y. keep y ≡ false → p y ≡ false) x xs fails)
        (left_position xs (rest_of (λ y. keep y ≡ false → p y ≡ false) x xs fails)) refl (λ n. refl)
        ∙ ap (option_map (place_left keep (x ∷ xs))) (sym (position_next p x xs))

    pub left_any : (xs : List X) → FailsOthers p xs → list_any p (filter keep xs) ≡ list_any p xs
    left_any [] fails = refl
    left_any (x ∷ xs) fails =
        any_by p (keep x) x (filter keep xs) (first_of (λ y. keep y ≡ false → p y ≡ false) x xs fails)
        ∙ ap (λ b. p x || b) (left_any xs (rest_of (λ y. keep y ≡ false → p y ≡ false) x xs fails))

    pub left_found : (xs : List X) → FailsOthers p xs → find p (filter keep xs) ≡ find p xs
    left_found [] fails = refl
    left_found (x ∷ xs) fails =
        find_by p (keep x) x (filter keep xs) (first_of (λ y. keep y ≡ false → p y ≡ false) x xs fails)
        ∙ ap (λ o. cond (p x) (Some x) o) (left_found xs (rest_of (λ y. keep y ≡ false → p y ≡ false) x xs fails))

    kept_by : (b : Bool) (y : X) → keep y ≡ b → (keep y ≡ false → p y ≡ false) → p y ≡ true → b ≡ true
    kept_by true y is fails passes = refl
    kept_by false y is fails passes = absurd (clash (p y) passes (fails is))

    -- so the first that passes is left
    pub first_is_left : (xs : List X) (place : ℕ) (y : X) → FailsOthers p xs → position p xs ≡ Some place → slice_get xs place ≡ Some y → keep y ≡ true
    first_is_left xs place y fails first there = kept_by (keep y) y refl (fails place y there) (position_passes p xs place y first there)
