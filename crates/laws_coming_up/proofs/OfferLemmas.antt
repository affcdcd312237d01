-- What an initiator offers for its first Child SA, and what is chosen of it: extended sequence numbers where
-- both ends allow them (RFC 7296 section 3.3).
use Rattle.std.proofs.Common.{◌≡◌, ◌&&◌, ◌<◌, ℕ, zero, suc, Bool, true, false, List, [], ◌∷◌, Some, Contains, slice_get, refl, ap, arith, subst, sym, ◌∙◌}
use Rattle.wire.specs.declared.proposal.Proposal.{Proposal}
use Rattle.wire.specs.declared.proposal.Transform.{Transform}
use Rattle.suite.specs.Choice.{acceptable_transforms, sequence_numbers, without_attributes, HasSpi, IsAcceptableProposal, IsAcceptableTransform, IsChosenProposal, IsFirstAcceptable}
use Rattle.suite.specs.Offers.{offer_of, offered_transforms}
use Rattle.suite.specs.declared.choice.Chosen.{Chosen}
use Rattle.suite.specs.declared.choice.Wanted.{Wanted}
use Rattle.suite.specs.declared.choice.Wanted.TheVariants.{Esp}

-- ---- which transform of sequence numbers is the first acceptable one

abbrev encryption : Transform
encryption = without_attributes 1 11

abbrev integrity : Transform
integrity = without_attributes 3 12

same_transform : (one other : Transform) → Some one ≡ Some other → one ≡ other
same_transform one other is = cc

not_before : (allowed : Bool) (rest : List Transform) (k : ℕ) (other : Transform) → k < 2 → slice_get (encryption ∷ integrity ∷ rest) k ≡ Some other
    → ¬ IsAcceptableTransform (Esp allowed) 5 other
not_before allowed rest zero other below at is =
    let kind : 1 ≡ 5 = ap (λ (t : Transform). t.kind) (same_transform encryption other at) ∙ is.0 in absurd (omega (arith, kind))
not_before allowed rest (suc zero) other below at is =
    let kind : 3 ≡ 5 = ap (λ (t : Transform). t.kind) (same_transform integrity other at) ∙ is.0 in absurd (omega (arith, kind))
not_before allowed rest (suc (suc k)) other below at is = absurd (omega (arith, below))

not_allowed : Contains (acceptable_transforms (Esp false)) (sequence_numbers true) → ⊥
not_allowed (zero, within, at) = let k : 1 ≡ 5 = ap (λ (t : Transform). t.kind) at in absurd (omega (arith, k))
not_allowed (suc zero, within, at) = let k : 3 ≡ 5 = ap (λ (t : Transform). t.kind) at in absurd (omega (arith, k))
not_allowed (suc (suc zero), within, at) = let k : 0 ≡ 1 = ap (λ (t : Transform). t.id) at in absurd (omega (arith, k))
not_allowed (suc (suc (suc k)), within, at) = absurd (omega (arith, within))

-- nor the first of those offered, at an end that doesn't allow it
not_before_plain : (k : ℕ) (other : Transform) → k < 3 → slice_get (offered_transforms (Esp true)) k ≡ Some other → ¬ IsAcceptableTransform (Esp false) 5 other
not_before_plain zero other below at is = not_before false (sequence_numbers true ∷ sequence_numbers false ∷ []) 0 other (omega arith) at is
not_before_plain (suc zero) other below at is = not_before false (sequence_numbers true ∷ sequence_numbers false ∷ []) 1 other (omega arith) at is
not_before_plain (suc (suc zero)) other below at is =
    not_allowed (subst (λ (t : Transform). Contains (acceptable_transforms (Esp false)) t) (sym (same_transform (sequence_numbers true) other at)) is.1)
not_before_plain (suc (suc (suc k))) other below at is = absurd (omega (arith, below))

pub numbers : (ours theirs : Bool) → IsFirstAcceptable (Esp theirs) 5 (offered_transforms (Esp ours)) (sequence_numbers (ours && theirs))
numbers true true = record {
  place = 2;
  here = refl;
  acceptable = (refl, (3, omega arith, refl));
  first = not_before true (sequence_numbers true ∷ sequence_numbers false ∷ []);
}
numbers true false = record { place = 3; here = refl; acceptable = (refl, (2, omega arith, refl)); first = not_before_plain }
numbers false true = record { place = 2; here = refl; acceptable = (refl, (2, omega arith, refl)); first = not_before true (sequence_numbers false ∷ []) }
numbers false false = record { place = 2; here = refl; acceptable = (refl, (2, omega arith, refl)); first = not_before false (sequence_numbers false ∷ []) }

-- ---- what is chosen

-- the laws of a lower crate that this goes by
abbrev pub OffersAreAcceptable : Type 0
OffersAreAcceptable = (ours theirs : Bool) (spi : List ℕ) → HasSpi (Esp ours) spi → IsAcceptableProposal (Esp theirs) (offer_of (Esp ours) spi)

abbrev pub ChoosesOnce : Type 0
ChoosesOnce = (wanted : Wanted) (proposals : List Proposal) (one other : Chosen) → IsChosenProposal wanted proposals one → IsChosenProposal wanted proposals other
    → one ≡ other

-- the one proposal, with extended sequence numbers where both ends allow them
abbrev pub chosen_by : Bool → Bool → Chosen
chosen_by ours theirs = record { place = 0; number = 1; extended = ours && theirs }

module _ (acceptable : OffersAreAcceptable) (ours theirs : Bool) (spi : List ℕ) (form : HasSpi (Esp ours) spi) where
  abbrev pub chosen_with : (extended : Bool) → extended ≡ (ours && theirs)
      → IsChosenProposal (Esp theirs) (offer_of (Esp ours) spi ∷ []) (record { place = 0; number = 1; extended = extended })
  chosen_with extended is = record {
    proposal = offer_of (Esp ours) spi;
    here = refl;
    acceptable = acceptable ours theirs spi form;
    first = λ k other below. absurd (omega (arith, below));
    number = refl;
    numbers = subst (λ (b : Bool). IsFirstAcceptable (Esp theirs) 5 (offered_transforms (Esp ours)) (sequence_numbers b)) (sym is) (numbers ours theirs);
  }

  pub chosen_so : ChoosesOnce → (chosen : Chosen) → IsChosenProposal (Esp theirs) (offer_of (Esp ours) spi ∷ []) chosen → chosen ≡ chosen_by ours theirs
  chosen_so once chosen is = once (Esp theirs) (offer_of (Esp ours) spi ∷ []) chosen (chosen_by ours theirs) is (chosen_with (ours && theirs) refl)
