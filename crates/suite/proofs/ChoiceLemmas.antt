-- Which transforms are acceptable, type by type.
use Rattle.std.proofs.Common.{◌≡◌, ◌⊎◌, ℕ, zero, suc, Bool, true, false, Option, Some, None, is_some, MatchOption, List, [], ◌∷◌, inl, inr, sym, ap, ◌∙◌, arith, Contains, Any}
use Rattle.std.proofs.lemmas.Option.{get_or_from_slice_get, slice_get_within}
use Rattle.wire.specs.declared.proposal.Transform.{Transform}
use Rattle.suite.specs.declared.choice.Wanted.{Wanted}
use Rattle.suite.specs.declared.choice.Wanted.TheVariants.{Ike, Esp}
use Rattle.suite.specs.Choice.{acceptable_transforms, without_attributes, IsAcceptableTransform, IsFirstAcceptable}

-- an element of a list is its first or one of the others
first_or_later : {X : Type 0} (y : X) (ys : List X) (x : X) → Contains (y ∷ ys) x → (y ≡ x) ⊎ Contains ys x
first_or_later y ys x (zero, within, is) = inl is
first_or_later y ys x (suc k, within, is) = inr (k, omega arith, is)

none_in_nil : {X : Type 0} (x : X) → Contains [] x → ⊥
none_in_nil x (k, within, is) = omega arith

-- in four, or three and those behind them
in_four : {X : Type 0} (a b c d x : X) → Contains (a ∷ b ∷ c ∷ d ∷ []) x → (a ≡ x) ⊎ ((b ≡ x) ⊎ ((c ≡ x) ⊎ (d ≡ x)))
in_four a b c d x has =
    elim (first_or_later a (b ∷ c ∷ d ∷ []) x has) [
      | inl e ↦ inl e
      | inr more ↦ elim (first_or_later b (c ∷ d ∷ []) x more) [
        | inl e ↦ inr (inl e)
        | inr more' ↦ elim (first_or_later c (d ∷ []) x more') [
          | inl e ↦ inr (inr (inl e))
          | inr last ↦ elim (first_or_later d [] x last) [ inl e ↦ inr (inr (inr e)) | inr none ↦ absurd (none_in_nil x none) ]
        ]
      ]
    ]

-- for IKE the integrity transform is the one of its type
pub ike_integrity : (encr : ℕ) (key_length : Option ℕ) (group : ℕ) (t : Transform) → t.kind ≡ 3 →
    Contains (acceptable_transforms (Ike encr key_length group)) t → t ≡ without_attributes t.kind 12
ike_integrity encr key_length group t kind has =
    elim (in_four _ _ _ _ t has) [
      | inl e ↦ absurd (let k : 1 ≡ t.kind = ap (λ (x : Transform). x.kind) e in omega arith)
      | inr (inl e) ↦ absurd (let k : 2 ≡ t.kind = ap (λ (x : Transform). x.kind) e in omega arith)
      | inr (inr (inl e)) ↦ sym e ∙ ap (λ (k : ℕ). without_attributes k 12) (sym kind)
      | inr (inr (inr e)) ↦ absurd (let k : 4 ≡ t.kind = ap (λ (x : Transform). x.kind) e in omega arith)
    ]

pub ike_integrity_is_in : (encr : ℕ) (key_length : Option ℕ) (group : ℕ) (t : Transform) → t.kind ≡ 3 →
    t ≡ without_attributes t.kind 12 → Contains (acceptable_transforms (Ike encr key_length group)) t
ike_integrity_is_in encr key_length group t kind is = (2, omega arith, ap (λ (k : ℕ). without_attributes k 12) (sym kind) ∙ sym is)

pub esp_numbers_are_in : (extended : Bool) (t : Transform) → t.kind ≡ 5 →
    t ≡ without_attributes t.kind 0 → Contains (acceptable_transforms (Esp extended)) t
esp_numbers_are_in extended t kind is = (2, omega arith, ap (λ (k : ℕ). without_attributes k 0) (sym kind) ∙ sym is)

-- the first acceptable transform of a type is one
pub first_is_one : (wanted : Wanted) (kind : ℕ) (ts : List Transform) (t : Transform) → IsFirstAcceptable wanted kind ts t → Any (IsAcceptableTransform wanted kind) ts
first_is_one wanted kind ts t is =
    (is.place, t, slice_get_within ts is.place t is.here, get_or_from_slice_get ts is.place t t is.here, is.acceptable)

-- what is said of nothing, and of something
pub said_of_none : {X : Type 0} (o : Option X) (P : Type 0) (Q : X → Type 0) → is_some o ≡ false → MatchOption o P Q → P
said_of_none None P Q none says = says
said_of_none (Some x) P Q none says = cc

pub said_of_some : {X : Type 0} (o : Option X) (P : Type 0) (Q : X → Type 0) → is_some o ≡ true → MatchOption o P Q → (x : X) × Q x
said_of_some None P Q some says = cc
said_of_some (Some x) P Q some says = (x, says)
