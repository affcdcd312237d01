-- How sets of numbers and what is kept by number are stored. No public clause speaks of these.
use Rattle.std.specs.Prelude.{◌≡◌, ◌+◌, ◌-◌, ◌^◌, ◌<◌, ◌≤◌, ◌||◌, ℕ, zero, suc, Bool, true, false, List, [], ◌∷◌, Option, Some, None, IsSome, nat_eq, nat_lt, min, unwrap_or, if◌then◌else◌, refl}
use Rattle.std.specs.Ordering.{nat_cmp}
use Rattle.std.specs.Int.{bit_at}
use Rattle.std.specs.Coded.{Coded, code_by, coded×, coded_ℕ}
use Rattle.std.specs.FinMap as map
use Rattle.std.specs.FinSet as set
use Rattle.base.specs.Octets.{Octets}
use Rattle.requests.specs.Outgoing.{IsAbove, is_above}
use Rattle.requests.specs.Numbers.{NumberSet, HasNumber, LacksNumber, IsGap}

-- the set with this member, if it is to be one
abbrev pub with_member : NumberSet → ℕ → Bool → NumberSet
with_member s n true = set.insert s n
with_member s n false = s

-- the numbers below an end that pass a test
unfoldable pub passing : (ℕ → Bool) → ℕ → NumberSet
passing p zero = set.empty
passing p (suc n) = with_member (passing p n) n (p n)

-- whether a number lies below the gap or is marked: bit i stands for the number gap + i
abbrev pub is_counted : ℕ → ℕ → ℕ → Bool
is_counted gap marks n = nat_lt n gap || nat_eq (bit_at marks (n - gap)) 1

abbrev pub counted : ℕ → ℕ → NumberSet
counted gap marks = passing (is_counted gap marks) (gap + 16)

-- what holds of a gap and its marks
pub record AreMarks (gap marks : ℕ) : Type 0 where
  pub width : marks < 2 ^ 16
  -- the gap itself is not marked
  pub lowest : bit_at marks 0 ≡ 0
  pub fits : (n : ℕ) → is_counted gap marks n ≡ true → n < 2 ^ 32

-- What is kept by number: the items, and for how many more there is room without memory.
pub record Held (T : Type 0) : Type 0 where
  pub items : map.FinMap nat_cmp T
  pub room : ℕ

abbrev pub held_code : {T : Type 0} → Coded T → Coded (Held T)
held_code {T} code =
    code_by (map.FinMap nat_cmp T × ℕ) (coded× (map.code coded_ℕ code) coded_ℕ) (λ h. (h.items, h.room)) (λ c. record { items = c.0; room = c.1 }) (λ _. refl)

-- what a change makes of an item stands in its place
pub record ChangesItem {T : Type 0} (Makes : T → T → Type 0) (old : Held T) (number : ℕ) (new : Held T) : Type 0 where
  pub was : T
  pub is : T
  pub made : Makes was is
  pub there : map.get old.items number ≡ Some was
  pub content : new ≡ record old { items = map.insert old.items number is }

-- each number stands once
abbrev pub StandOnce : {T : Type 0} → List (ℕ × T) → Type 0
StandOnce [] = Unit {0}
StandOnce (e ∷ es) = (map.find nat_cmp e.0 es ≡ None) × StandOnce es

-- the item of the least number above another one, or of all
pub record IsNextItem {T : Type 0} (items : map.FinMap nat_cmp T) (low : Option ℕ) (number : ℕ) (item : T) : Type 0 where
  pub there : map.get items number ≡ Some item
  pub above : IsAbove low number
  pub least : (other : ℕ) → IsAbove low other → other < number → map.get items other ≡ None

abbrev pub HasNoneAbove : {T : Type 0} → map.FinMap nat_cmp T → Option ℕ → Type 0
HasNoneAbove items low = (other : ℕ) → IsAbove low other → map.get items other ≡ None

-- the least number above another one, or of all, where this one was found before
abbrev pub next_above : {T : Type 0} → Option ℕ → Option ℕ → List (ℕ × T) → Option ℕ
next_above low first [] = first
next_above low first (e ∷ es) = next_above low (if is_above low e.0 then Some (min (unwrap_or first e.0) e.0) else first) es

-- what holds of the parts of the peer's requests together
pub record AreIncoming (in_effect : NumberSet) (size : ℕ) (kept : map.FinMap nat_cmp Octets) : Type 0 where
  pub some : 1 ≤ size
  pub most : size ≤ 16
  pub none_above : (gap n : ℕ) → IsGap in_effect gap → gap + size ≤ n → LacksNumber in_effect n
  pub kept_in_effect : (n : ℕ) → IsSome (map.get kept n) → HasNumber in_effect n
  pub kept_near : (n later : ℕ) → IsSome (map.get kept n) → HasNumber in_effect later → later < n + size

-- what holds of the parts of the own requests together
pub record AreOutgoing {T : Type 0} (next window : ℕ) (numbers : NumberSet) (outstanding : map.FinMap nat_cmp T) : Type 0 where
  pub some : 1 ≤ window
  pub most : window ≤ 16
  pub next_fits : next ≤ 2 ^ 32
  pub issued : (n : ℕ) → HasNumber numbers n → n < next
  pub few : (gap : ℕ) → IsGap numbers gap → next ≤ gap + window
  pub waits : (n : ℕ) → IsSome (map.get outstanding n) → (n < next) × LacksNumber numbers n
