-- The SA pair that goes for an SPI, by the relations of the table of SA pairs.
use Rattle.std.proofs.Common.{◌≡◌, ℕ, true, Option, Some, None, option_and_then, sym, ap, ◌∙◌, refl, inl, inr, subst}
use Rattle.std.specs.Prelude.{◌⊎◌}
use Rattle.std.proofs.lemmas.Bool.{and_from, and_parts, both_ways, cases_order, eq-eqb, eqb-true}
use Rattle.std.proofs.lemmas.Option.{none-some, same_Some}
use Rattle.sadb.specs.Database.{pair_at, IsSenderUnder, PairMap, SendsUnder}
use Rattle.sadb.specs.declared.pair.Pair.{Pair}
use Rattle.sadb.specs.declared.pair.State.{State}
use Rattle.sadb.specs.declared.pair.State.TheVariants.{Live, Deleting}
use Rattle.deletions.specs.Naming.{deleted_for, if_live, is_sender, sender}
use Rattle.deletions.proofs.EntryLemmas.{first_entry, no_entry, IsFirst}

sends_of : (pairs : PairMap) (ike spi serial : ℕ) (pair : Pair) → pair_at pairs serial ≡ Some pair → is_sender ike spi pair ≡ true → SendsUnder pairs ike spi serial
sends_of pairs ike spi serial pair there passes =
    let both = and_parts _ _ passes in
    record {
      pair = pair;
      there = there;
      its = eqb-true pair.ike ike both.0;
      under = eqb-true pair.outbound.association.spi spi both.1;
    }

tested : (pairs : PairMap) (ike spi serial : ℕ) (s : SendsUnder pairs ike spi serial) → is_sender ike spi s.pair ≡ true
tested pairs ike spi serial s = and_from _ _ (eq-eqb s.pair.ike ike s.its) (eq-eqb s.pair.outbound.association.spi spi s.under)

-- what a search for the sender gives
record Finds (pairs : PairMap) (ike spi : ℕ) (e : ℕ × Pair) : Type 0 where
  is : sender pairs ike spi ≡ Some e
  there : pair_at pairs e.0 ≡ Some e.1
  sends : IsSenderUnder pairs ike spi e.0

record FindsNone (pairs : PairMap) (ike spi : ℕ) : Type 0 where
  is : sender pairs ike spi ≡ None
  none : (serial : ℕ) → ¬ SendsUnder pairs ike spi serial

finds : (pairs : PairMap) (ike spi : ℕ) (e : ℕ × Pair) → sender pairs ike spi ≡ Some e → Finds pairs ike spi e
finds pairs ike spi e is =
    let first : IsFirst (is_sender ike spi) (pair_at pairs) e = first_entry pairs (is_sender ike spi) e is in
    record {
      is = is;
      there = first.there;
      sends = record {
        sends = sends_of pairs ike spi e.0 e.1 first.there first.passes;
        least = λ other less s. both_ways _ (first.least other s.pair less s.there) (tested pairs ike spi other s);
      };
    }

finds_none : (pairs : PairMap) (ike spi : ℕ) → sender pairs ike spi ≡ None → FindsNone pairs ike spi
finds_none pairs ike spi is = record {
  is = is;
  none = λ serial s. both_ways _ (no_entry pairs (is_sender ike spi) is serial s.pair s.there) (tested pairs ike spi serial s);
}

look : (pairs : PairMap) (ike spi : ℕ) → FindsNone pairs ike spi ⊎ ((e : ℕ × Pair) × Finds pairs ike spi e)
look pairs ike spi =
    elim (sender pairs ike spi) as (λ o. sender pairs ike spi ≡ o → FindsNone pairs ike spi ⊎ ((e : ℕ × Pair) × Finds pairs ike spi e)) [
      | None ↦ λ is. inl (finds_none pairs ike spi is)
      | Some e ↦ λ is. inr (e, finds pairs ike spi e is)
    ] refl

one_sender : (pairs : PairMap) (ike spi a b : ℕ) → IsSenderUnder pairs ike spi a → IsSenderUnder pairs ike spi b → a ≡ b
one_sender pairs ike spi a b one two = elim (cases_order a b) [
  | inl same ↦ same
  | inr (inl less) ↦ absurd (two.least a less one.sends)
  | inr (inr more) ↦ absurd (one.least b more two.sends)
]

abbrev deleted_if : Option (ℕ × Pair) → Option (ℕ × Pair)
deleted_if found = option_and_then (λ (e : ℕ × Pair). if_live e.1.state e) found

pub deleted_none : (pairs : PairMap) (ike spi : ℕ) → ((serial : ℕ) → ¬ SendsUnder pairs ike spi serial) → deleted_for pairs ike spi ≡ None
deleted_none pairs ike spi none = elim (look pairs ike spi) [
  | inl found ↦ ap deleted_if found.is
  | inr (e, found) ↦ absurd (none e.0 found.sends.sends)
]

-- an SA pair under its serial
abbrev pub under : ℕ → Pair → ℕ × Pair
under serial pair = (serial, pair)

pub deleted_as : (pairs : PairMap) (ike spi serial : ℕ) (pair : Pair) → IsSenderUnder pairs ike spi serial → pair_at pairs serial ≡ Some pair
    → deleted_for pairs ike spi ≡ if_live pair.state (serial, pair)
deleted_as pairs ike spi serial pair sends there = elim (look pairs ike spi) [
  | inl found ↦ absurd (found.none serial sends.sends)
  | inr (e, found) ↦
      (let number : e.0 ≡ serial = one_sender pairs ike spi e.0 serial found.sends sends in
      let held : e.1 ≡ pair = same_Some e.1 pair (sym found.there ∙ ap (pair_at pairs) number ∙ there) in
      ap deleted_if found.is ∙ ap (λ (p : Pair). if_live p.state (under e.0 p)) held ∙ ap (λ (n : ℕ). if_live pair.state (under n pair)) number)
]

-- the SA pair that goes is there, Live, and the first that sends under the SPI
pub record IsFirstLive (pairs : PairMap) (ike spi : ℕ) (e : ℕ × Pair) : Type 0 where
  pub sends : IsSenderUnder pairs ike spi e.0
  pub there : pair_at pairs e.0 ≡ Some e.1
  pub live : e.1.state ≡ Live

live_told : (s : State) (d e : ℕ × Pair) → if_live s d ≡ Some e → (s ≡ Live) × (d ≡ e)
live_told Live d e is = (refl, same_Some d e is)
live_told Deleting d e is = absurd (none-some e is)

pub deleted_told : (pairs : PairMap) (ike spi : ℕ) (e : ℕ × Pair) → deleted_for pairs ike spi ≡ Some e → IsFirstLive pairs ike spi e
deleted_told pairs ike spi e is = elim (look pairs ike spi) [
  | inl found ↦ absurd (none-some e (sym (ap deleted_if found.is) ∙ is))
  | inr (d, found) ↦
      (let told = live_told d.1.state d e (sym (ap deleted_if found.is) ∙ is) in
      subst (IsFirstLive pairs ike spi) told.1 (record { sends = found.sends; there = found.there; live = told.0 }))
]

pub deleted_live : (pairs : PairMap) (ike spi serial : ℕ) (pair : Pair) → IsSenderUnder pairs ike spi serial → pair_at pairs serial ≡ Some pair → pair.state ≡ Live
    → deleted_for pairs ike spi ≡ Some (serial, pair)
deleted_live pairs ike spi serial pair sends there live = deleted_as pairs ike spi serial pair sends there ∙ ap (λ (s : State). if_live s (under serial pair)) live

pub deleted_not : (pairs : PairMap) (ike spi serial : ℕ) (pair : Pair) → IsSenderUnder pairs ike spi serial → pair_at pairs serial ≡ Some pair → pair.state ≡ Deleting
    → deleted_for pairs ike spi ≡ None
deleted_not pairs ike spi serial pair sends there deleting = deleted_as pairs ike spi serial pair sends there ∙ ap (λ (s : State). if_live s (under serial pair)) deleting
