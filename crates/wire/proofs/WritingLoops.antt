-- The steps of the loops that write.
use Rattle.std.proofs.Common.{◌≡◌, ◌≢◌, ℕ, zero, suc, ◌+◌, ◌-◌, ◌<◌, ◌≤◌, cond, eqb, List, [], ◌∷◌, ◌++◌, length, get_or, take, drop, Option, Some, None, Result, Ok, Err, refl, sym, ap, ◌∙◌, arith}
use Rattle.std.proofs.lemmas.List.{length-append, length-drop, take_all}
use Rattle.std.proofs.lemmas.Bool.Decides.{nat_tests}
use Rattle.wire.specs.declared.payload.Payload.{Payload}
use Rattle.wire.specs.declared.fault.WireFault.{WireFault}
use Rattle.wire.specs.declared.fault.WireFault.TheVariants as faults
use Rattle.wire.specs.Reading.{◌>>=◌, ◌>>>◌}
use Rattle.wire.specs.Writing.{Fails, open_onto, close_onto, part_onto, each_onto, marked_from, link_onto, payloads_onto}
use Rattle.wire.specs.declared.writer.Unwritten.{Unwritten}
use Rattle.wire.specs.declared.writer.Unwritten.TheVariants.{Unspelled, Memory}
use Rattle.wire.proofs.Written.{AppendsAll, split_at, past_all}

module _ {A : Type 0} (item : A → List ℕ → Option (List ℕ)) where
  each_here : (xs : List A) (i : ℕ) (a : A) (old : List ℕ) → i < length xs → a ≡ get_or xs i a → each_onto item (drop i xs) old ≡ (item a old >>= λ mid. each_onto item (drop (i + 1) xs) mid)
  unfolding each_onto
  each_here xs i a old lt is = ap (λ ys. each_onto item ys old) (split_at xs i a lt is)

  pub each_next : (xs : List A) (i : ℕ) (a : A) (old mid : List ℕ) (total : Option (List ℕ)) → i < length xs → a ≡ get_or xs i a → each_onto item (drop i xs) old ≡ total → item a old ≡ Some mid → each_onto item (drop (i + 1) xs) mid ≡ total
  each_next xs i a old mid total lt is so_far e = ap (λ o. o >>= λ x. each_onto item (drop (i + 1) xs) x) (sym e) ∙ sym (each_here xs i a old lt is) ∙ so_far

  pub each_stops : (f : Unwritten) (xs : List A) (i : ℕ) (a : A) (old : List ℕ) (total : Option (List ℕ)) → i < length xs → a ≡ get_or xs i a → each_onto item (drop i xs) old ≡ total
      → Fails f (item a old) → Fails f total
  each_stops Memory xs i a old total lt is so_far e = tt
  each_stops Unspelled xs i a old total lt is so_far e = sym so_far ∙ each_here xs i a old lt is ∙ ap (λ o. o >>= λ x. each_onto item (drop (i + 1) xs) x) e

  pub each_done : (xs : List A) (i : ℕ) (old : List ℕ) (total : Option (List ℕ)) → length xs ≤ i → each_onto item (drop i xs) old ≡ total → total ≡ Some old
  unfolding each_onto
  each_done xs i old total le so_far = sym so_far ∙ ap (λ ys. each_onto item ys old) (past_all xs i le)

module _ {A : Type 0} (more : ℕ) (item : A → List ℕ → Option (List ℕ)) where
  marked_here : (xs : List A) (i : ℕ) (a : A) (old : List ℕ) → i < length xs → a ≡ get_or xs i a
      → marked_from more item (drop i xs) old ≡ (part_onto (cond (eqb (i + 1) (length xs)) 0 more) 0 (item a) old >>= λ mid. marked_from more item (drop (i + 1) xs) mid)
  unfolding marked_from
  marked_here xs i a old lt is =
      let last : eqb (length (drop (i + 1) xs)) 0 ≡ eqb (i + 1) (length xs) = rw length-drop (grind (arith, nat_tests)) in
      ap (λ ys. marked_from more item ys old) (split_at xs i a lt is)
      ∙ ap (λ t. part_onto (cond t 0 more) 0 (item a) old >>= λ mid. marked_from more item (drop (i + 1) xs) mid) last

  pub marked_next : (xs : List A) (i : ℕ) (a : A) (mark : ℕ) (old opened full mid : List ℕ) (total : Option (List ℕ)) → i < length xs → a ≡ get_or xs i a → mark ≡ cond (eqb (i + 1) (length xs)) 0 more → marked_from more item (drop i xs) old ≡ total
      → open_onto mark 0 old ≡ Some opened → item a opened ≡ Some full → close_onto (length old) full ≡ Some mid → marked_from more item (drop (i + 1) xs) mid ≡ total
  marked_next xs i a mark old opened full mid total lt is mark_is so_far e1 e2 e3 =
      let part : part_onto mark 0 (item a) old ≡ Some mid =
      ap (λ o. o >>= λ x. item a x >>= λ y. close_onto (length old) y) e1 ∙ ap (λ o. o >>= λ y. close_onto (length old) y) e2 ∙ e3 in
      ap (λ o. o >>= λ x. marked_from more item (drop (i + 1) xs) x) (sym part) ∙ ap (λ (m : ℕ). part_onto m 0 (item a) old >>= λ x. marked_from more item (drop (i + 1) xs) x) mark_is ∙ sym (marked_here xs i a old lt is) ∙ so_far

  pub marked_stops : (f : Unwritten) (xs : List A) (i : ℕ) (a : A) (mark : ℕ) (old opened : List ℕ) (total : Option (List ℕ)) → i < length xs → a ≡ get_or xs i a → mark ≡ cond (eqb (i + 1) (length xs)) 0 more → marked_from more item (drop i xs) old ≡ total
      → open_onto mark 0 old ≡ Some opened → Fails f (item a opened) → Fails f total
  marked_stops Memory xs i a mark old opened total lt is mark_is so_far e1 e2 = tt
  marked_stops Unspelled xs i a mark old opened total lt is mark_is so_far e1 e2 =
      let part : part_onto mark 0 (item a) old ≡ None = ap (λ o. o >>= λ x. item a x >>= λ y. close_onto (length old) y) e1 ∙ ap (λ o. o >>= λ y. close_onto (length old) y) e2 in
      sym so_far ∙ marked_here xs i a old lt is ∙ ap (λ (m : ℕ). part_onto m 0 (item a) old >>= λ x. marked_from more item (drop (i + 1) xs) x) (sym mark_is) ∙ ap (λ o. o >>= λ x. marked_from more item (drop (i + 1) xs) x) part

  pub marked_shuts : (f : Unwritten) (xs : List A) (i : ℕ) (a : A) (mark : ℕ) (old opened full : List ℕ) (total : Option (List ℕ)) → i < length xs → a ≡ get_or xs i a → mark ≡ cond (eqb (i + 1) (length xs)) 0 more → marked_from more item (drop i xs) old ≡ total
      → open_onto mark 0 old ≡ Some opened → item a opened ≡ Some full → Fails f (close_onto (length old) full) → Fails f total
  marked_shuts Memory xs i a mark old opened full total lt is mark_is so_far e1 e2 e3 = tt
  marked_shuts Unspelled xs i a mark old opened full total lt is mark_is so_far e1 e2 e3 =
      let part : part_onto mark 0 (item a) old ≡ None = ap (λ o. o >>= λ x. item a x >>= λ y. close_onto (length old) y) e1 ∙ ap (λ o. o >>= λ y. close_onto (length old) y) e2 ∙ e3 in
      sym so_far ∙ marked_here xs i a old lt is ∙ ap (λ (m : ℕ). part_onto m 0 (item a) old >>= λ x. marked_from more item (drop (i + 1) xs) x) (sym mark_is) ∙ ap (λ o. o >>= λ x. marked_from more item (drop (i + 1) xs) x) part

  pub marked_done : (xs : List A) (i : ℕ) (old : List ℕ) (total : Option (List ℕ)) → length xs ≤ i → marked_from more item (drop i xs) old ≡ total → total ≡ Some old
  unfolding marked_from
  marked_done xs i old total le so_far = sym so_far ∙ ap (λ ys. marked_from more item ys old) (past_all xs i le)

-- there is room for the length of a part that was filled
pub part_room : (mark second : ℕ) (write : List ℕ → Option (List ℕ)) (Spelled : List ℕ → Type 0) (old opened full : List ℕ) → AppendsAll write Spelled → open_onto mark second old ≡ Some opened → write opened ≡ Some full → length old + 4 ≤ length full
part_room mark second write Spelled old opened full appends e1 e2 =
    let one = appends opened full e2 in
    let opened_is : old ++ mark ∷ second ∷ 0 ∷ 0 ∷ [] ≡ opened = some_eq e1 in
    omega (arith, ap length one.appended, length-append opened one.added, ap length opened_is, length-append old (mark ∷ second ∷ 0 ∷ 0 ∷ [])) where
      some_eq : {B : Type 0} {x y : B} → Some x ≡ Some y → x ≡ y
      some_eq q = cc

-- the default of a look-up does not matter where there is an item
pub any_default : {A : Type 0} (xs : List A) (i : ℕ) (d : A) → i < length xs → get_or xs i d ≡ get_or xs i (get_or xs i d)
any_default {A = A} xs i d lt = same xs i d (get_or xs i d) lt where
  same : (ys : List A) (k : ℕ) (x y : A) → k < length ys → get_or ys k x ≡ get_or ys k y
  same [] k x y h = absurd (omega arith)
  same (z ∷ ys) zero x y h = refl
  same (z ∷ ys) (suc k) x y h = same ys k x y (omega arith)

-- ---- payloads

links_here : (ps : List Payload) (i : ℕ) (p : Payload) (old : List ℕ) → i < length ps → p ≡ get_or ps i p → payloads_onto (drop i ps) old ≡ (link_onto p (drop (i + 1) ps) old >>> λ mid. payloads_onto (drop (i + 1) ps) mid)
unfolding payloads_onto
links_here ps i p old lt is = ap (λ qs. payloads_onto qs old) (split_at ps i p lt is)

pub links_next : (ps : List Payload) (i : ℕ) (p : Payload) (old mid : List ℕ) (total : Result (List ℕ) WireFault) → i < length ps → p ≡ get_or ps i p → payloads_onto (drop i ps) old ≡ total → link_onto p (drop (i + 1) ps) old ≡ Ok mid → payloads_onto (drop (i + 1) ps) mid ≡ total
links_next ps i p old mid total lt is so_far e = ap (λ r. r >>> λ x. payloads_onto (drop (i + 1) ps) x) (sym e) ∙ sym (links_here ps i p old lt is) ∙ so_far

pub links_stop : (f : WireFault) (ps : List Payload) (i : ℕ) (p : Payload) (old : List ℕ) (total : Result (List ℕ) WireFault) → i < length ps → p ≡ get_or ps i p → payloads_onto (drop i ps) old ≡ total
    → (f ≢ faults.Memory → link_onto p (drop (i + 1) ps) old ≡ Err f) → f ≢ faults.Memory → total ≡ Err f
links_stop f ps i p old total lt is so_far e = λ other. sym so_far ∙ links_here ps i p old lt is ∙ ap (λ r. r >>> λ x. payloads_onto (drop (i + 1) ps) x) (e other)

pub links_done : (ps : List Payload) (i : ℕ) (old : List ℕ) (total : Result (List ℕ) WireFault) → length ps ≤ i → payloads_onto (drop i ps) old ≡ total → total ≡ Ok old
unfolding payloads_onto
links_done ps i old total le so_far = sym so_far ∙ ap (λ qs. payloads_onto qs old) (past_all ps i le)

-- the rest of a slice
pub rest_is : {A : Type 0} (xs : List A) (n : ℕ) → take (length xs - n) (drop n xs) ≡ drop n xs
rest_is xs n = take_all (length xs - n) (drop n xs) (omega (arith, length-drop n xs))
