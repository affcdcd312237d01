-- There is one list of the sequence numbers of a Child SA.
use Rattle.std.proofs.Common.{◌≡◌, ℕ, suc, Option, Some, None, List, [], ◌∷◌, length, refl, sym, ap, ◌∙◌, arith, inl, inr}
use Rattle.std.specs.Prelude.{slice_get}
use Rattle.std.proofs.lemmas.Option.{slice_get_cases, slice_get_within}
use Rattle.deliveries.specs.Numbers.{AreNumbersOf}
use Rattle.deliveries.specs.Passages.{Passage}

-- two lists of one length that have the same sequence numbers at each place
one_number : (o q : Option ℕ) → ((n : ℕ) → o ≡ Some n → q ≡ Some n) → ((n : ℕ) → q ≡ Some n → o ≡ Some n) → o ≡ q
one_number None None f g = refl
one_number (Some n) q f g = sym (f n refl)
one_number None (Some n) f g = g n refl

here : (m n : Option ℕ) → Some m ≡ Some n → m ≡ n
here m n is = cc

one_by_places : (ns ms : List (Option ℕ)) → length ns ≡ length ms
    → ((place n : ℕ) → slice_get ns place ≡ Some (Some n) → slice_get ms place ≡ Some (Some n))
    → ((place n : ℕ) → slice_get ms place ≡ Some (Some n) → slice_get ns place ≡ Some (Some n)) → ns ≡ ms
one_by_places [] [] each f g = refl
one_by_places [] (m ∷ ms) each f g = absurd (omega arith)
one_by_places (n ∷ ns) [] each f g = absurd (omega arith)
one_by_places (n ∷ ns) (m ∷ ms) each f g =
    let first : n ≡ m = one_number n m
    (λ k is. here m (Some k) (f 0 k (ap (λ (o : Option ℕ). Some o) is)))
    (λ k is. here n (Some k) (g 0 k (ap (λ (o : Option ℕ). Some o) is))) in
    let others : ns ≡ ms = one_by_places ns ms (omega arith) (λ place k. f (suc place) k) (λ place k. g (suc place) k) in
    λ i. first i ∷ others i

module _ (child : ℕ) (ps : List Passage) where
  -- a sequence number of one list is one of the other
  there : (ns ms : List (Option ℕ)) → AreNumbersOf child ps ns → AreNumbersOf child ps ms → (place n : ℕ) → slice_get ns place ≡ Some (Some n)
      → slice_get ms place ≡ Some (Some n)
  there ns ms one other place n is =
      let within = slice_get_within ns place (Some n) is in
      let each = one.each in
      elim (slice_get_cases ps place).1 [
        | inl found ↦ (other.exactly place n found.0 found.2).1 ((one.exactly place n found.0 found.2).0 is)
        | inr past ↦ (let end = past.0 in absurd (omega arith))
      ]

  pub one_list : (ns ms : List (Option ℕ)) → AreNumbersOf child ps ns → AreNumbersOf child ps ms → ns ≡ ms
  one_list ns ms one other = one_by_places ns ms (one.each ∙ sym other.each) (there ns ms one other) (there ms ns other one)
