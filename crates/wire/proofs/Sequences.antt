-- Items and parts one after the other: what is read is spelled, and what is spelled is read.
use Rattle.std.proofs.Common.{◌≡◌, ℕ, zero, suc, ◌+◌, ◌<◌, ◌≤◌, Bool, true, false, cond, eqb, List, [], ◌∷◌, ◌++◌, length, Option, Some, refl, sym, ap, subst, ◌∙◌, inl, inr, arith}
use Rattle.std.proofs.lemmas.Bool.{eqb-true}
use Rattle.std.proofs.lemmas.List.{length-append, append-nil, nil_from_length}
use Rattle.byteorder.specs.Endian.{big_bytes}
use Rattle.base.specs.Octets.{IsOctet, AreOctets}
use Rattle.wire.specs.Parts.{IsPart, SpellsEach, IsMarked, SpellsMarked}
use Rattle.wire.specs.Reading.{◌>>=◌, part_at, Piece, each_of, goes_on, marked_of}
use Rattle.wire.proofs.Options.{some_is, with_some, with_test, pick}
use Rattle.wire.proofs.Loops.{positive}
use Rattle.base.proofs.OctetLemmas.{octets_front, octets_back}
use Rattle.wire.proofs.Takes.{part_takes, part_again, TakesPart}

-- ---- one item after the other

-- what a reader of items takes is spelled at the front
pub record TakesItem {A : Type 0} (Spelled : A → List ℕ → Type 0) (xs : List ℕ) (x : A × List ℕ) : Type 0 where
  pub front : List ℕ
  pub joined : xs ≡ front ++ x.1
  pub spelled : Spelled x.0 front

abbrev pub ItemTakes : {A : Type 0} → (List ℕ → Option (A × List ℕ)) → (A → List ℕ → Type 0) → Type 0
ItemTakes {A} item Spelled = (xs : List ℕ) (x : A × List ℕ) → AreOctets xs → item xs ≡ Some x → TakesItem Spelled xs x

abbrev pub ItemAgain : {A : Type 0} → (List ℕ → Option (A × List ℕ)) → (A → List ℕ → Type 0) → Type 0
ItemAgain {A} item Spelled = (a : A) (front rest : List ℕ) → Spelled a front → (item (front ++ rest) ≡ Some (a, rest)) × (0 < length front)

module _ {A : Type 0} (item : List ℕ → Option (A × List ℕ)) (Spelled : A → List ℕ → Type 0) where
  none_spelled : (xs : List ℕ) (found : List A) → length xs ≡ 0 → Some [] ≡ Some found → SpellsEach Spelled found xs
  none_spelled xs found none e = subst (λ (as' : List A). SpellsEach Spelled as' xs) (some_is [] found e) (nil_from_length xs none)

  pub each_takes : ItemTakes item Spelled → (steps : ℕ) (xs : List ℕ) (found : List A) → AreOctets xs → each_of item steps xs ≡ Some found → SpellsEach Spelled found xs
  unfolding each_of
  each_takes takes zero xs found fits e =
      with_test (eqb (length xs) 0) (Some []) found e (λ none r. none_spelled xs found (eqb-true _ _ none) r)
  each_takes takes (suc steps) xs found fits e =
      elim (pick (eqb (length xs) 0) _ _ _ e) [
        | inl none ↦ none_spelled xs found (eqb-true _ _ none.0) none.1
        | inr some ↦
            with_some (item xs) _ found some.1 (λ a e1 r1.
            with_some (each_of item steps a.1) _ found r1 (λ others e2 r2.
            let t = takes xs a fits e1 in
            let rest_fits : AreOctets a.1 = octets_back t.front a.1 (subst AreOctets t.joined fits) in
            let rest = each_takes takes steps a.1 others rest_fits e2 in
            subst (λ (as' : List A). SpellsEach Spelled as' xs) (some_is (a.0 ∷ others) found r2) (record { front = t.front; rest = a.1; joined = t.joined; first = t.spelled; others = rest })))
      ]

  pub each_again : ItemAgain item Spelled → (found : List A) (xs : List ℕ) (steps : ℕ) → length xs ≤ steps → SpellsEach Spelled found xs → each_of item steps xs ≡ Some found
  unfolding each_of
  each_again again [] xs zero enough s = rw s refl
  each_again again [] xs (suc steps) enough s = rw s refl
  each_again again (a ∷ found) xs zero enough s =
      let one = again a s.front s.rest s.first in
      absurd (omega (arith, one.1, length-append s.front s.rest, ap length s.joined, enough))
  each_again again (a ∷ found) xs (suc steps) enough s =
      let one = again a s.front s.rest s.first in
      let some : eqb (length xs) 0 ≡ false = positive (length xs) (omega (arith, one.1, length-append s.front s.rest, ap length s.joined)) in
      let left : length s.rest ≤ steps = omega (arith, one.1, length-append s.front s.rest, ap length s.joined, enough) in
      ap (λ b. cond b (Some []) (item xs >>= λ x. each_of item steps x.1 >>= λ others. Some (x.0 ∷ others))) some
      ∙ ap (λ (ys : List ℕ). item ys >>= λ x. each_of item steps x.1 >>= λ others. Some (x.0 ∷ others)) s.joined
      ∙ ap (λ o. o >>= λ x. each_of item steps x.1 >>= λ others. Some (x.0 ∷ others)) one.0
      ∙ ap (λ o. o >>= λ others. Some (a ∷ others)) (each_again again found s.rest steps left s.others)

-- ---- parts

abbrev pub InsideTakes : {A : Type 0} → (List ℕ → Option A) → (A → List ℕ → Type 0) → Type 0
InsideTakes {A} item Spelled = (xs : List ℕ) (a : A) → AreOctets xs → item xs ≡ Some a → Spelled a xs

abbrev pub InsideAgain : {A : Type 0} → (List ℕ → Option A) → (A → List ℕ → Type 0) → Type 0
InsideAgain {A} item Spelled = (a : A) (xs : List ℕ) → Spelled a xs → item xs ≡ Some a

-- a mark tells whether another part follows
mark_is : (more mark : ℕ) (another : Bool) → goes_on more mark ≡ Some another → mark ≡ cond another more 0
mark_is more mark another e =
    elim (pick (eqb mark 0) _ _ _ e) [
      | inl last ↦ eqb-true _ _ last.0 ∙ ap (λ b. cond b more 0) (some_is false another last.1)
      | inr other ↦ with_test (eqb mark more) (Some true) another other.1 (λ is r. eqb-true _ _ is ∙ ap (λ b. cond b more 0) (some_is true another r))
    ]

-- the part of a piece
part_fits : (xs : List ℕ) (x : Piece × List ℕ) → AreOctets xs → TakesPart xs x → AreOctets x.0.inside × (x.0.second < 256) × AreOctets x.1
part_fits xs x fits t =
    let whole : AreOctets (t.front ++ x.1) = subst AreOctets t.joined fits in
    let front : AreOctets (x.0.first ∷ x.0.second ∷ big_bytes 2 (4 + length x.0.inside) ++ x.0.inside) = subst AreOctets t.part.spelled (octets_front t.front x.1 whole) in
    (octets_back (big_bytes 2 (4 + length x.0.inside)) x.0.inside front.1.1, front.1.0, octets_back t.front x.1 whole)

module _ {A : Type 0} (more : ℕ) (item : List ℕ → Option A) (Spelled : A → List ℕ → Type 0) where
  -- what is spelled where another part has to follow, or none
  abbrev pub SpellsRest : Bool → List A → List ℕ → Type 0
  SpellsRest true found xs = SpellsMarked IsOctet more Spelled found xs
  SpellsRest false found xs = (found ≡ []) × (xs ≡ [])

  -- one more part in front
  marked_cons : (another : Bool) (a : A) (found : List A) (xs front rest : List ℕ) → xs ≡ front ++ rest → IsMarked IsOctet (cond another more 0) (Spelled a) front → SpellsRest another found rest
      → SpellsMarked IsOctet more Spelled (a ∷ found) xs
  marked_cons false a [] xs front rest joined first none = subst (λ (y : List ℕ). IsMarked IsOctet 0 (Spelled a) y) (sym (joined ∙ ap (λ (r : List ℕ). front ++ r) none.1 ∙ append-nil front)) first
  marked_cons false a (b ∷ found) xs front rest joined first none = absurd (cc (none.0))
  marked_cons true a [] xs front rest joined first none = absurd none
  marked_cons true a (b ∷ found) xs front rest joined first others = record { front = front; rest = rest; joined = joined; first = first; others = others }

  pub rest_takes : InsideTakes item Spelled → (steps : ℕ) (another : Bool) (xs : List ℕ) (found : List A) → AreOctets xs → marked_of more item steps another xs ≡ Some found → SpellsRest another found xs
  unfolding marked_of
  rest_takes takes zero false xs found fits e =
      with_test (eqb (length xs) 0) (Some []) found e (λ none r. (sym (some_is [] found r), nil_from_length xs (eqb-true _ _ none)))
  rest_takes takes (suc steps) false xs found fits e =
      with_test (eqb (length xs) 0) (Some []) found e (λ none r. (sym (some_is [] found r), nil_from_length xs (eqb-true _ _ none)))
  rest_takes takes zero true xs found fits e = absurd cc
  rest_takes takes (suc steps) true xs found fits e =
      with_some (part_at xs) _ found e (λ part e1 r1.
      with_some (goes_on more part.0.first) _ found r1 (λ another e2 r2.
      with_some (item part.0.inside) _ found r2 (λ a e3 r3.
      with_some (marked_of more item steps another part.1) _ found r3 (λ others e4 r4.
      let t = part_takes xs part fits e1 in
      let f = part_fits xs part fits t in
      let first : IsMarked IsOctet (cond another more 0) (Spelled a) t.front = record {
        reserved = part.0.second;
        inside = part.0.inside;
        free = f.1;
        part = subst (λ (m : ℕ). IsPart m part.0.second part.0.inside t.front) (mark_is more part.0.first another e2) t.part;
        content = takes part.0.inside a f.0 e3;
      } in
      let rest = rest_takes takes steps another part.1 others f.2 e4 in
      subst (λ (as' : List A). SpellsMarked IsOctet more Spelled as' xs) (some_is (a ∷ others) found r4) (marked_cons another a others xs t.front part.1 t.joined first rest)))))

  pub marked_takes : InsideTakes item Spelled → (steps : ℕ) (xs : List ℕ) (found : List A) → AreOctets xs → marked_of more item steps true xs ≡ Some found → SpellsMarked IsOctet more Spelled found xs
  marked_takes takes steps xs found fits e = rest_takes takes steps true xs found fits e

pub part_long : (first second : ℕ) (inside x : List ℕ) → IsPart first second inside x → 4 ≤ length x
part_long first second inside x p = omega (arith, ap length p.spelled)

module _ {A : Type 0} (Free : ℕ → Type 0) (more : ℕ) (item : List ℕ → Option A) (Spelled : A → List ℕ → Type 0) where
  -- a part at the front, with what it marks
  marked_step : (steps : ℕ) (another : Bool) (mark : ℕ) (a : A) (front rest : List ℕ) → goes_on more mark ≡ Some another → InsideAgain item Spelled → IsMarked Free mark (Spelled a) front
      → marked_of more item (suc steps) true (front ++ rest) ≡ (marked_of more item steps another rest >>= λ others. Some (a ∷ others))
  unfolding marked_of
  marked_step steps another mark a front rest goes again first =
      ap (λ o. o >>= λ p. goes_on more p.0.first >>= λ b. item p.0.inside >>= λ x. marked_of more item steps b p.1 >>= λ others. Some (x ∷ others)) (part_again mark first.reserved first.inside front rest first.part)
      ∙ ap (λ o. o >>= λ b. item first.inside >>= λ x. marked_of more item steps b rest >>= λ others. Some (x ∷ others)) goes
      ∙ ap (λ o. o >>= λ x. marked_of more item steps another rest >>= λ others. Some (x ∷ others)) (again a first.inside first.content)

  nothing_left : (steps : ℕ) → marked_of more item steps false [] ≡ Some []
  unfolding marked_of
  nothing_left zero = refl
  nothing_left (suc steps) = refl

  pub marked_again : goes_on more more ≡ Some true → InsideAgain item Spelled → (found : List A) (xs : List ℕ) (steps : ℕ) → length xs ≤ steps → SpellsMarked Free more Spelled found xs
      → marked_of more item steps true xs ≡ Some found
  marked_again goes again [] xs steps enough s = absurd s
  marked_again goes again (a ∷ []) xs zero enough s = absurd (omega (arith, part_long 0 s.reserved s.inside xs s.part, enough))
  marked_again goes again (a ∷ []) xs (suc steps) enough s =
      ap (marked_of more item (suc steps) true) (sym (append-nil xs))
      ∙ marked_step steps false 0 a xs [] refl again s
      ∙ ap (λ o. o >>= λ others. Some (a ∷ others)) (nothing_left steps)
  marked_again goes again (a ∷ b ∷ found) xs zero enough s =
      absurd (omega (arith, part_long more s.first.reserved s.first.inside s.front s.first.part, length-append s.front s.rest, ap length s.joined, enough))
  marked_again goes again (a ∷ b ∷ found) xs (suc steps) enough s =
      let left : length s.rest ≤ steps = omega (arith, part_long more s.first.reserved s.first.inside s.front s.first.part, length-append s.front s.rest, ap length s.joined, enough) in
      ap (marked_of more item (suc steps) true) s.joined
      ∙ marked_step steps true more a s.front s.rest goes again s.first
      ∙ ap (λ o. o >>= λ others. Some (a ∷ others)) (marked_again goes again (b ∷ found) s.rest steps left s.others)
