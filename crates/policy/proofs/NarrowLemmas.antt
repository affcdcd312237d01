-- The entry that is chosen, and lists narrowed to it.
use Rattle.std.proofs.Common.{◌≡◌, ◌⊎◌, inl, inr, ℕ, zero, suc, ◌+◌, ◌<◌, ◌≤◌, List, [], ◌∷◌, ◌++◌, length, get_or, drop, Option, Some, None, refl, sym, ◌∙◌, ap, subst, append_assoc, add-one, drop-cons}
use Rattle.std.specs.Prelude.{MatchOption}
use Rattle.std.specs.Borrow.{Bor}
use Rattle.std.specs.List.{slice_get}
use Rattle.std.proofs.lemmas.List.{append-nil, drop_all}
use Rattle.base.specs.declared.selector.Selector.{Selector}
use Rattle.policy.specs.declared.point.Point.{Point}
use Rattle.policy.specs.declared.entry.Entry.{Entry}
use Rattle.policy.specs.Points.{HoldsPoint, HoldsAny, Meets, IsCommonPart}
use Rattle.base.specs.Lists.{IsFirst, HoldsOfNone}
use Rattle.policy.specs.Decisions.{local_side, remote_side}
use Rattle.policy.specs.Narrowing.{FitsFirst, FitsSome, IsChosenEntry, IsAcceptableOffer, IsNarrowed, IsNarrowing, HasAllCommonPoints}

-- where no entry fits both first selectors, the first that fits something is chosen
pub chosen_some : (entries : List Entry) (i r : List Selector) (found : Option (Bor Entry)) → HoldsOfNone (FitsFirst i r) entries
    → MatchOption found (HoldsOfNone (FitsSome i r) entries) (λ e. (k : ℕ) × IsFirst (FitsSome i r) entries k e.now)
    → MatchOption found (¬ IsAcceptableOffer entries i r) (λ e. (k : ℕ) × IsChosenEntry entries i r k e.now)
chosen_some entries i r None none_first none_some = λ accepted.
    elim accepted.chosen [
      | inl first ↦ none_first accepted.place accepted.entry first.there first.holds
      | inr some ↦ none_some accepted.place accepted.entry some.1.there some.1.holds
    ]
chosen_some entries i r (Some e) none_first some = (some.0, inr (none_first, some.1))

-- what the rest is narrowed to follows what the selectors so far were narrowed to
abbrev pub IsNarrowedSoFar : Selector → List Selector → ℕ → List Selector → Type 0
IsNarrowedSoFar side offered place so_far = (rest : List Selector) → IsNarrowed side (drop place offered) rest → IsNarrowed side offered (so_far ++ rest)

next_of : (offered : List Selector) (place : ℕ) (d : Selector) → place < length offered → drop place offered ≡ get_or offered place d ∷ drop (place + 1) offered
next_of offered place d within = rw add-one (drop-cons offered place d within)

pub narrowed_keep : (side : Selector) (offered : List Selector) (place : ℕ) (d : Selector) (so_far narrowed : List Selector) (part : Selector) → place < length offered
    → IsCommonPart (HoldsPoint (get_or offered place d)) (HoldsPoint side) part → narrowed ≡ so_far ++ part ∷ [] → IsNarrowedSoFar side offered place so_far → IsNarrowedSoFar side offered (place + 1) narrowed
narrowed_keep side offered place d so_far narrowed part within common is before = λ rest next.
    let kept : IsNarrowed side (get_or offered place d ∷ drop (place + 1) offered) (part ∷ rest) = inl (record { part = part; others = rest; begins = refl; common = common; rest = next }) in
    let all : IsNarrowed side offered (so_far ++ part ∷ rest) = before (part ∷ rest) (subst (λ (xs : List Selector). IsNarrowed side xs (part ∷ rest)) (sym (next_of offered place d within)) kept) in
    subst (IsNarrowed side offered) (sym (ap (λ (xs : List Selector). xs ++ rest) is ∙ append_assoc so_far (part ∷ []) rest)) all

pub narrowed_skip : (side : Selector) (offered : List Selector) (place : ℕ) (d : Selector) (so_far narrowed : List Selector) → place < length offered
    → ¬ Meets (HoldsPoint (get_or offered place d)) (HoldsPoint side) → narrowed ≡ so_far → IsNarrowedSoFar side offered place so_far → IsNarrowedSoFar side offered (place + 1) narrowed
narrowed_skip side offered place d so_far narrowed within apart is before = λ rest next.
    let skipped : IsNarrowed side (get_or offered place d ∷ drop (place + 1) offered) rest = inr (apart, next) in
    let all : IsNarrowed side offered (so_far ++ rest) = before rest (subst (λ (xs : List Selector). IsNarrowed side xs rest) (sym (next_of offered place d within)) skipped) in
    subst (λ (xs : List Selector). IsNarrowed side offered (xs ++ rest)) (sym is) all

pub narrowed_all : (side : Selector) (offered : List Selector) (place : ℕ) (so_far : List Selector) → length offered ≤ place → IsNarrowedSoFar side offered place so_far → IsNarrowed side offered so_far
narrowed_all side offered place so_far end before =
    let nothing : drop place offered ≡ [] = drop_all place offered end in
    subst (IsNarrowed side offered) (append-nil so_far) (before [] (subst (λ (xs : List Selector). IsNarrowed side xs []) (sym nothing) refl))

-- points of a list, by its first selector and the others

nothing_held : (p : Point) → ¬ HoldsAny [] p
nothing_held p held = let there = held.there in absurd (cc)

held_cases : (s : Selector) (ss : List Selector) (p : Point) → HoldsAny (s ∷ ss) p → HoldsPoint s p ⊎ HoldsAny ss p
held_cases s ss p held = go held.place held.selector held.there held.held where
  go : (place : ℕ) (selector : Selector) → slice_get (s ∷ ss) place ≡ Some selector → HoldsPoint selector p → HoldsPoint s p ⊎ HoldsAny ss p
  go zero selector there here = inl (subst (λ (x : Selector). HoldsPoint x p) (let e : selector ≡ s = cc in e) here)
  go (suc place) selector there here = inr (record { place = place; selector = selector; there = there; held = here })

held_here : (s : Selector) (ss : List Selector) (p : Point) → HoldsPoint s p → HoldsAny (s ∷ ss) p
held_here s ss p here = record { place = zero; selector = s; there = refl; held = here }

held_later : (s : Selector) (ss : List Selector) (p : Point) → HoldsAny ss p → HoldsAny (s ∷ ss) p
held_later s ss p held = record { place = suc held.place; selector = held.selector; there = held.there; held = held.held }

-- the points of a narrowed list are those of the offer that lie inside the side
pub common_points : (side : Selector) (offered answer : List Selector) → IsNarrowed side offered answer → HasAllCommonPoints side offered answer
common_points side [] answer is = λ p. (λ held. absurd (nothing_held p (subst (λ (xs : List Selector). HoldsAny xs p) is held)), λ both. absurd (nothing_held p both.0))
common_points side (s ∷ others) answer (inl kept) = λ p.
    let later = common_points side others kept.others kept.rest p in
    let here = kept.common.points p in (
      λ held.
          elim (held_cases kept.part kept.others p (subst (λ (xs : List Selector). HoldsAny xs p) kept.begins held)) [
            | inl first ↦ (held_here s others p (here.0 first).0, (here.0 first).1)
            | inr rest ↦ (held_later s others p (later.0 rest).0, (later.0 rest).1)
          ],
      λ both.
          subst (λ (xs : List Selector). HoldsAny xs p) (sym kept.begins)
          (elim (held_cases s others p both.0) [
            | inl first ↦ held_here kept.part kept.others p (here.1 (first, both.1))
            | inr rest ↦ held_later kept.part kept.others p (later.1 (rest, both.1))
          ]),
    )
common_points side (s ∷ others) answer (inr (apart, rest)) = λ p.
    let later = common_points side others answer rest p in (
      λ held. (held_later s others p (later.0 held).0, (later.0 held).1),
      λ both.
          elim (held_cases s others p both.0) [
            | inl first ↦ absurd (apart (record { point = p; in_one = first; in_other = both.1 }))
            | inr more ↦ later.1 (more, both.1)
          ],
    )

pub narrowing : (entries items : List Entry) (i r answer_i answer_r : List Selector) (e : Entry) (remote local : Selector) → items ≡ entries → ((k : ℕ) × IsChosenEntry items i r k e)
    → remote ≡ remote_side e → local ≡ local_side e → IsNarrowed remote i answer_i → IsNarrowed local r answer_r → IsNarrowing entries i r answer_i answer_r
narrowing entries items i r answer_i answer_r e remote local same chosen is_remote is_local narrowed_i narrowed_r =
    let by_remote : IsNarrowed (remote_side e) i answer_i = subst (λ (s : Selector). IsNarrowed s i answer_i) is_remote narrowed_i in
    let by_local : IsNarrowed (local_side e) r answer_r = subst (λ (s : Selector). IsNarrowed s r answer_r) is_local narrowed_r in
    record {
      place = chosen.0;
      entry = e;
      chosen = subst (λ (xs : List Entry). IsChosenEntry xs i r chosen.0 e) same chosen.1;
      narrowed_i = by_remote;
      narrowed_r = by_local;
      points_i = common_points (remote_side e) i answer_i by_remote;
      points_r = common_points (local_side e) r answer_r by_local;
    }

pub acceptable : (entries items : List Entry) (i r : List Selector) (e : Entry) → items ≡ entries → ((k : ℕ) × IsChosenEntry items i r k e) → IsAcceptableOffer entries i r
acceptable entries items i r e same chosen = record { place = chosen.0; entry = e; chosen = subst (λ (xs : List Entry). IsChosenEntry xs i r chosen.0 e) same chosen.1 }
