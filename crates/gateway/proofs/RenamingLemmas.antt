-- Renamings of serials: no two serials become one, none becomes less, and what it is to pass one over.
use Rattle.std.proofs.Common.{◌≡◌, ◌<◌, ◌≤◌, ◌+◌, ℕ, zero, suc, Bool, true, false, nat_lt, if◌then◌else◌, refl, sym, ap, subst, ◌∙◌, arith}
use Rattle.std.proofs.lemmas.Bool.{lt-ltb, ltb-true, le-ltb, ltb-false}
use Rattle.gateway.specs.Beside.{itself, passing_over}
use Rattle.gateway.specs.Renaming.{IsRenaming}

module _ (r : ℕ → ℕ) (next : ℕ) (is : IsRenaming r next) where
  apart_by : (a b : ℕ) (less more : Bool) → nat_lt a b ≡ less → nat_lt b a ≡ more → r a ≡ r b → a ≡ b
  apart_by a b true more lt gt same = let below : r a < r b = is.in_order a b (ltb-true a b lt) in absurd (omega arith)
  apart_by a b false true lt gt same = let above : r b < r a = is.in_order b a (ltb-true b a gt) in absurd (omega arith)
  apart_by a b false false lt gt same =
      let below : b ≤ a = ltb-false a b lt in
      let above : a ≤ b = ltb-false b a gt in
      omega arith

  pub apart_of : (a b : ℕ) → r a ≡ r b → a ≡ b
  apart_of a b same = apart_by a b (nat_lt a b) (nat_lt b a) refl refl same

  above_not : (a b : ℕ) (more : Bool) → nat_lt b a ≡ more → b ≤ a → r a < r b → ⊥
  above_not a b true gt from below = let above : r b < r a = is.in_order b a (ltb-true b a gt) in omega arith
  above_not a b false gt from below =
      let same : a ≡ b = (let other : a ≤ b = ltb-false b a gt in omega arith) in
      let equal : r a ≡ r b = ap r same in
      omega arith

  back_by : (a b : ℕ) (less : Bool) → nat_lt a b ≡ less → r a < r b → a < b
  back_by a b true lt below = ltb-true a b lt
  back_by a b false lt below = absurd (above_not a b (nat_lt b a) refl (ltb-false a b lt) below)

  pub less_back : (a b : ℕ) → r a < r b → a < b
  less_back a b below = back_by a b (nat_lt a b) refl below

  pub rises : (n : ℕ) → n ≤ r n
  rises zero = omega arith
  rises (suc n) =
      let before : n ≤ r n = rises n in
      let more : r n < r (suc n) = is.in_order n (suc n) (omega arith) in
      omega arith

  -- it stays one where more serials were given
  pub later : (more : ℕ) → next ≤ more → IsRenaming r more
  later more above = record { in_order = is.in_order; goes_on = λ n from. is.goes_on n (omega arith) }

-- ---- to pass a serial over

pub passed_below : (s n : ℕ) → n < s → passing_over s n ≡ n
passed_below s n below = ap (λ b. if b then n else n + 1) (lt-ltb n s below)

pub passed_above : (s n : ℕ) → s ≤ n → passing_over s n ≡ n + 1
passed_above s n above = ap (λ b. if b then n else n + 1) (le-ltb n s above)

pass_by : (s x y : ℕ) (one two : Bool) → nat_lt x s ≡ one → nat_lt y s ≡ two → x < y → passing_over s x < passing_over s y
pass_by s x y true true lt also less = subst (λ z. z < passing_over s y) (sym (passed_below s x (ltb-true x s lt))) (subst (λ z. x < z) (sym (passed_below s y (ltb-true y s also))) less)
pass_by s x y true false lt also less =
    let more : x < y + 1 = omega arith in
    subst (λ z. z < passing_over s y) (sym (passed_below s x (ltb-true x s lt))) (subst (λ z. x < z) (sym (passed_above s y (ltb-false y s also))) more)
pass_by s x y false true lt also less =
    let above : s ≤ x = ltb-false x s lt in
    let below : y < s = ltb-true y s also in
    absurd (omega arith)
pass_by s x y false false lt also less =
    let more : x + 1 < y + 1 = omega arith in
    subst (λ z. z < passing_over s y) (sym (passed_above s x (ltb-false x s lt))) (subst (λ z. x + 1 < z) (sym (passed_above s y (ltb-false y s also))) more)

pub pass_rises : (s x y : ℕ) → x < y → passing_over s x < passing_over s y
pass_rises s x y less = pass_by s x y (nat_lt x s) (nat_lt y s) refl refl less

module _ (r : ℕ → ℕ) (next s : ℕ) (is : IsRenaming r next) (at : r next ≡ s) where
  pub below_next : (n : ℕ) → n < next → r n < s
  below_next n less = subst (λ z. r n < z) at (is.in_order n next less)

  from_by : (n : ℕ) (b : Bool) → nat_lt next n ≡ b → next ≤ n → s ≤ r n
  from_by n true lt from = let more : s < r n = subst (λ z. z < r n) at (is.in_order next n (ltb-true next n lt)) in omega arith
  from_by n false lt from =
      let same : next ≡ n = (let below : n ≤ next = ltb-false next n lt in omega arith) in
      let equal : s ≡ r n = sym at ∙ ap r same in
      omega arith

  pub from_next : (n : ℕ) → next ≤ n → s ≤ r n
  from_next n from = from_by n (nat_lt next n) refl from

  pub passed_is : IsRenaming (λ n. passing_over s (r n)) next
  passed_is = record {
    in_order = λ a b less. pass_rises s (r a) (r b) (is.in_order a b less);
    goes_on = λ n from.
        let more : s ≤ r n = from_next n from in
        let further : s ≤ r (n + 1) = from_next (n + 1) (omega arith) in
        passed_above s (r (n + 1)) further ∙ ap (λ z. z + 1) (is.goes_on n from ∙ sym (passed_above s (r n) more));
  }

pub itself_is : (next : ℕ) → IsRenaming itself next
itself_is next = record { in_order = λ one later less. less; goes_on = λ serial from. refl }
