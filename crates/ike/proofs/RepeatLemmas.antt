-- The IKE SA that answered a request is half open.
use Rattle.std.proofs.Common.{◌≡◌, ℕ, zero, suc, ◌∷◌, [], Bool, true, false, List, Some, None, ap, arith, refl, sym, ◌∙◌}
use Rattle.std.specs.List.{position, slice_get}
use Rattle.std.proofs.lemmas.Bool.{eq-eqb}
use Rattle.std.proofs.lemmas.Grind.{common_steps}
use Rattle.std.specs.Prelude.{slice_index_or}
use Rattle.std.proofs.lemmas.List.Quantifiers.{position-Some}
use Rattle.std.proofs.lemmas.Option.{slice_get-get_or}
use Rattle.base.specs.Octets.{Octets}
use Rattle.association.specs.declared.phase.Association.{Association}
use Rattle.association.specs.declared.phase.HalfOpen.{HalfOpen}
use Rattle.association.specs.declared.phase.Phase.{Phase}
use Rattle.association.specs.declared.phase.Phase.TheVariants as phase
use Rattle.ike.specs.Receiving.{is_answered, is_answered_phase, same_octets}
use Rattle.ike.proofs.SerialLemmas.{same_one}

pub opened_of : (octets : Octets) (p : Phase) → is_answered_phase octets p ≡ true → (opened : HalfOpen) × (p ≡ phase.HalfOpen opened)
opened_of octets (phase.InitSent sent) is = absurd cc
opened_of octets (phase.AuthSent sent) is = absurd cc
opened_of octets (phase.HalfOpen opened) is = (opened, refl)
opened_of octets (phase.Established keys) is = absurd cc
opened_of octets (phase.Closed keys at) is = absurd cc

pub answered_there : (octets : Octets) (associations : List Association) (place : ℕ) (a : Association) → position (is_answered octets) associations ≡ Some place
    → is_answered octets (slice_index_or associations place a) ≡ true
answered_there octets associations place a is = (position-Some (is_answered octets) associations place a is).1

pub first_there : (octets : Octets) (associations : List Association) (place : ℕ) (a : Association) → position (is_answered octets) associations ≡ Some place
    → slice_get associations place ≡ Some (slice_index_or associations place a)
first_there octets associations place a is = slice_get-get_or associations place a (position-Some (is_answered octets) associations place a is).0

-- octets are the same as themselves
pub same_octets_itself : (xs : Octets) → same_octets xs xs ≡ true
same_octets_itself [] = refl
same_octets_itself (x ∷ xs) = rw (eq-eqb x x refl) (same_octets_itself xs)

-- where none is found, none passes
none_after : (p : Association → Bool) (x : Association) (xs : List Association) → position p (x ∷ xs) ≡ None → (p x ≡ false) × (position p xs ≡ None)
none_after p x xs none = grind (arith, common_steps)

pub none_passes : (p : Association → Bool) (xs : List Association) → position p xs ≡ None → (k : ℕ) (c : Association) → slice_get xs k ≡ Some c → p c ≡ false
none_passes p [] none k c there = absurd cc
none_passes p (x ∷ xs) none zero c there = ap p (sym (same_one x c there)) ∙ (none_after p x xs none).0
none_passes p (x ∷ xs) none (suc k) c there = none_passes p xs (none_after p x xs none).1 k c there
