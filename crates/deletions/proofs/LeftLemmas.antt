-- The SA pairs that are left where some are taken out.
use Rattle.std.proofs.Common.{◌≡◌, ◌≢◌, ◌==◌, ◌↔◌, ◌<◌, ◌≤◌, ◌∷◌, [], ◌||◌, ℕ, List, Bool, true, false, Some, None, IsTrue, arith, sym, ap, ◌∙◌, refl, inl, inr, subst, suc, zero}
use Rattle.std.specs.Prelude.{nat_eq, Contains}
use Rattle.std.specs.FinMap as map
use Rattle.std.specs.List.{list_any}
use Rattle.std.proofs.lemmas.Bool.{both_ways, cases_Bool, eq-eqb, eqb-false, eqb-true, or_left, or_parts, or_right}
use Rattle.std.proofs.lemmas.Bool.Decides.{eqb_tells, leb_tells}
use Rattle.std.proofs.lemmas.Option.{none-some, same_Some}
use Rattle.sadb.specs.Database.{pair_at, BelongsTo, IsLive, IsNextOf, IsSenderUnder, PairMap, SendsUnder}
use Rattle.sadb.specs.declared.pair.Pair.{Pair}
use Rattle.deletions.specs.Naming.{without}
use Rattle.deletions.proofs.RemovingLemmas.{removed_apart, removed_here}

-- whether a number stands in a list
abbrev pub stands : ℕ → List ℕ → Bool
stands n xs = list_any (λ m. m == n) xs

pub stands_if : (n : ℕ) (xs : List ℕ) → Contains xs n → stands n xs ≡ true
stands_if n [] (k, short, is) = absurd (omega arith)
stands_if n (x ∷ xs) (zero, short, is) = or_left (x == n) (stands n xs) (eq-eqb x n is)
stands_if n (x ∷ xs) (suc k, short, is) = or_right (x == n) (stands n xs) (stands_if n xs (k, omega (arith, short), is))

pub stands_then : (n : ℕ) (xs : List ℕ) → stands n xs ≡ true → Contains xs n
stands_then n [] is = absurd (both_ways false refl is)
stands_then n (x ∷ xs) is = elim (eqb_tells x n) [
  | inl (_, same) ↦ (0, omega arith, same)
  | inr (apart, _) ↦
      (let rest = stands_then n xs (sym (ap (λ b. b || stands n xs) apart) ∙ is) in
      (suc rest.0, omega (arith, rest.1), rest.2))
]

-- ---- one is taken out

pub was_there : (m : PairMap) (n serial : ℕ) (pair : Pair) → pair_at (map.remove m n) serial ≡ Some pair → (serial ≢ n) × (pair_at m serial ≡ Some pair)
was_there m n serial pair there = elim (eqb_tells serial n) [
  | inl (_, same) ↦ absurd (none-some pair (sym (removed_here m n serial same) ∙ there))
  | inr (_, apart) ↦ (apart, sym (removed_apart m n serial apart) ∙ there)
]

pub sent_before : (m : PairMap) (n ike spi serial : ℕ) → SendsUnder (map.remove m n) ike spi serial → SendsUnder m ike spi serial
sent_before m n ike spi serial s = record { pair = s.pair; there = (was_there m n serial s.pair s.there).1; its = s.its; under = s.under }

-- the first that sends is so still, and Live, where another is taken out
pub sends_first : (m : PairMap) (n ike spi serial : ℕ) → serial ≢ n → IsSenderUnder m ike spi serial → IsSenderUnder (map.remove m n) ike spi serial
sends_first m n ike spi serial apart first = record {
  sends = record { pair = first.sends.pair; there = removed_apart m n serial apart ∙ first.sends.there; its = first.sends.its; under = first.sends.under };
  least = λ other less s. first.least other less (sent_before m n ike spi other s);
}

pub live_yet : (m : PairMap) (n serial : ℕ) → serial ≢ n → IsLive m serial → IsLive (map.remove m n) serial
live_yet m n serial apart live = record { pair = live.pair; there = removed_apart m n serial apart ∙ live.there; live = live.live }

-- ---- many are taken out

pub gets_kept : (m : PairMap) (ns : List ℕ) (serial : ℕ) → stands serial ns ≡ false → pair_at (without m ns) serial ≡ pair_at m serial
gets_kept m [] serial missing = refl
gets_kept m (n ∷ ns) serial missing =
    let told = or_parts (n == serial) (stands serial ns) missing in
    gets_kept (map.remove m n) ns serial told.1 ∙ removed_apart m n serial (λ same. eqb-false n serial told.0 (sym same))

pub gets_none : (m : PairMap) (ns : List ℕ) (serial : ℕ) → stands serial ns ≡ true → pair_at (without m ns) serial ≡ None
gets_none m [] serial there = absurd (both_ways false refl there)
gets_none m (n ∷ ns) serial there = elim (cases_Bool (stands serial ns)) [
  | inl later ↦ gets_none (map.remove m n) ns serial later
  | inr missing ↦ elim (eqb_tells n serial) [
    | inl (_, same) ↦ gets_kept (map.remove m n) ns serial missing ∙ removed_here m n serial (sym same)
    | inr (other, _) ↦ absurd (both_ways _ missing (sym (ap (λ b. b || stands serial ns) other) ∙ there))
  ]
]

pub left_told : (m : PairMap) (ns : List ℕ) (serial : ℕ) (pair : Pair) → pair_at (without m ns) serial ≡ Some pair → (pair_at m serial ≡ Some pair) × (stands serial ns ≡ false)
left_told m ns serial pair there = elim (cases_Bool (stands serial ns)) [
  | inl gone ↦ absurd (none-some pair (sym (gets_none m ns serial gone) ∙ there))
  | inr missing ↦ (sym (gets_kept m ns serial missing) ∙ there, missing)
]

pub left_over : (m : PairMap) (ns : List ℕ) (serial : ℕ) (pair : Pair) → (pair_at (without m ns) serial ≡ Some pair) ↔ ((pair_at m serial ≡ Some pair) × (¬ Contains ns serial))
left_over m ns serial pair = (
  λ there. (let told = left_told m ns serial pair there in (told.0, λ gone. both_ways _ told.1 (stands_if serial ns gone))),
  λ both. elim (cases_Bool (stands serial ns)) [
    | inl gone ↦ absurd (both.1 (stands_then serial ns gone))
    | inr missing ↦ gets_kept m ns serial missing ∙ both.0
  ],
)

-- ---- whether an SA pair that is looked at sends still

pub gone_sends : (m : PairMap) (ns : List ℕ) (ike spi serial : ℕ) → stands serial ns ≡ true → ¬ SendsUnder (without m ns) ike spi serial
gone_sends m ns ike spi serial gone s = both_ways _ (left_told m ns serial s.pair s.there).1 gone

pub none_sends : (m : PairMap) (ns : List ℕ) (ike spi serial : ℕ) → None ≡ pair_at m serial → ¬ SendsUnder (without m ns) ike spi serial
none_sends m ns ike spi serial none s = none-some s.pair (none ∙ (left_told m ns serial s.pair s.there).0)

pub sends_by : (m : PairMap) (ns : List ℕ) (ike spi serial under : ℕ) (pair : Pair) → Some pair ≡ pair_at m serial → stands serial ns ≡ false → BelongsTo m ike serial
    → under ≡ pair.outbound.association.spi → IsTrue (nat_eq under spi) ↔ SendsUnder (without m ns) ike spi serial
sends_by m ns ike spi serial under pair here missing belongs is =
    let its : pair.ike ≡ ike = ap (λ (p : Pair). p.ike) (same_Some pair belongs.pair (here ∙ belongs.there)) ∙ belongs.its in (
      λ equal. record { pair = pair; there = gets_kept m ns serial missing ∙ sym here; its = its; under = sym is ∙ eqb-true under spi equal },
      λ s.
          let one : pair ≡ s.pair = same_Some pair s.pair (here ∙ (left_told m ns serial s.pair s.there).0) in
          eq-eqb under spi (is ∙ ap (λ (p : Pair). p.outbound.association.spi) one ∙ s.under),
    )

-- ---- a walk over the SA pairs of an IKE SA

module _ (m : PairMap) (ns : List ℕ) (ike spi passed : ℕ) where
  abbrev NoneUpTo : ℕ → Type 0
  NoneUpTo last = (other : ℕ) → other ≤ last → ¬ SendsUnder (without m ns) ike spi other

  belonged : (serial : ℕ) → SendsUnder (without m ns) ike spi serial → BelongsTo m ike serial
  belonged serial s = record { pair = s.pair; there = (left_told m ns serial s.pair s.there).0; its = s.its }

  pub none_below : (serial : ℕ) → NoneUpTo passed → IsNextOf m ike passed serial → (other : ℕ) → other < serial → ¬ SendsUnder (without m ns) ike spi other
  none_below serial none next other below s = elim (leb_tells other passed) [
    | inl (_, before) ↦ none other before s
    | inr (_, behind) ↦ next.least other behind below (belonged other s)
  ]

  pub none_yet : (serial : ℕ) → NoneUpTo passed → IsNextOf m ike passed serial → ¬ SendsUnder (without m ns) ike spi serial → NoneUpTo serial
  none_yet serial none next not other below s = elim (leb_tells serial other) [
    | inl (_, upward) ↦ (let same : other ≡ serial = omega arith in not (subst (SendsUnder (without m ns) ike spi) same s))
    | inr (_, less) ↦ none_below serial none next other less s
  ]

  pub none_left : NoneUpTo passed → ((other : ℕ) → passed < other → ¬ BelongsTo m ike other) → (other : ℕ) → ¬ SendsUnder (without m ns) ike spi other
  none_left none last other s = elim (leb_tells other passed) [
    | inl (_, before) ↦ none other before s
    | inr (_, behind) ↦ last other behind (belonged other s)
  ]

-- serials begin at 1
pub none_at_first : (m : PairMap) (ns : List ℕ) (ike spi next : ℕ) → ((serial : ℕ) (pair : Pair) → pair_at m serial ≡ Some pair → (1 ≤ serial) × (serial < next))
    → (other : ℕ) → other ≤ 0 → ¬ SendsUnder (without m ns) ike spi other
none_at_first m ns ike spi next given other first s = (let from = (given other s.pair (left_told m ns other s.pair s.there).0).0 in omega arith)
