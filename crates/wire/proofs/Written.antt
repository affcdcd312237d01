-- What writers append is spelled, and what they refuse has no spelling: parts, and one item after the other.
use Rattle.std.proofs.Common.{◌≡◌, ℕ, zero, suc, ◌+◌, ◌-◌, ◌^◌, ◌<◌, ◌≤◌, Bool, true, false, cond, eqb, ltb, List, [], ◌∷◌, ◌++◌, length, get_or, take, drop, Option, Some, None, refl, sym, ap, subst, ◌∙◌, append_assoc, inl, inr, ◌⊎◌, arith}
use Rattle.std.proofs.lemmas.Bool.{ltb-false, ltb-true}
use Rattle.std.proofs.lemmas.List.{length-append, append-nil, take_at, drop_at}
use Rattle.byteorder.specs.Endian.{big_bytes}
use Rattle.base.specs.Octets.{IsOctet}
use Rattle.wire.specs.Parts.{IsZero, IsPart, SpellsEach, IsMarked, SpellsMarked}
use Rattle.wire.specs.Reading.{◌>>=◌}
use Rattle.wire.specs.Writing.{number_onto, close_onto, part_onto, each_onto, marked_from}
use Rattle.wire.proofs.Options.{some_is, with_some, with_test}
use Rattle.wire.proofs.Loops.{positive}

pub record Appends (Spelled : List ℕ → Type 0) (old new : List ℕ) : Type 0 where
  pub added : List ℕ
  pub appended : new ≡ old ++ added
  pub spelled : Spelled added

abbrev pub AppendsAll : (List ℕ → Option (List ℕ)) → (List ℕ → Type 0) → Type 0
AppendsAll write Spelled = (old new : List ℕ) → write old ≡ Some new → Appends Spelled old new

abbrev pub Refuses : (List ℕ → Option (List ℕ)) → (List ℕ → Type 0) → Type 0
Refuses write Spelled = (old : List ℕ) → write old ≡ None → (x : List ℕ) → Spelled x → ⊥

-- two ways of spelling have the same length
abbrev pub SameLength : (List ℕ → Type 0) → (List ℕ → Type 0) → Type 0
SameLength First Second = (x y : List ℕ) → First x → Second y → length x ≡ length y

pub bind_none : {A B : Type 0} (o : Option A) (f : A → Option B) → (o >>= f) ≡ None → (o ≡ None) ⊎ ((x : A) × (o ≡ Some x) × (f x ≡ None))
bind_none None f e = inl refl
bind_none (Some x) f e = inr (x, refl, e)

pub none_some : {A : Type 0} {x : A} → Some x ≡ None → ⊥
none_some e = cc

pub test_none : {A : Type 0} (b : Bool) (o : Option A) → cond b o None ≡ None → (b ≡ false) ⊎ ((b ≡ true) × (o ≡ None))
test_none true o e = inr (refl, e)
test_none false o e = inl refl

pub guard_none : {A : Type 0} (b : Bool) (o : Option A) → cond b None o ≡ None → (b ≡ true) ⊎ ((b ≡ false) × (o ≡ None))
guard_none true o e = inl refl
guard_none false o e = inr (refl, e)

-- ---- a number

pub number_appends : (count n : ℕ) (old new : List ℕ) → number_onto count n old ≡ Some new → (new ≡ old ++ big_bytes count n) × (n < 256 ^ count)
number_appends count n old new e = with_test (ltb n (256 ^ count)) (Some (old ++ big_bytes count n)) new e (λ fits r. (sym (some_is (old ++ big_bytes count n) new r), ltb-true _ _ fits))

pub number_refused : (count n : ℕ) (old : List ℕ) → number_onto count n old ≡ None → n < 256 ^ count → ⊥
number_refused count n old e fits = elim (test_none (ltb n (256 ^ count)) (Some (old ++ big_bytes count n)) e) [
  | inl over ↦ absurd (omega (arith, ltb-false _ _ over, fits))
  | inr some ↦ none_some some.1
]

-- ---- one item after the other

module _ {A : Type 0} (item : A → List ℕ → Option (List ℕ)) where
  pub each_appends : (Plain : A → List ℕ → Type 0) → ((a : A) → AppendsAll (item a) (Plain a)) → (found : List A) → AppendsAll (each_onto item found) (SpellsEach Plain found)
  unfolding each_onto
  each_appends Plain appends [] old new e = record { added = []; appended = sym (some_is old new e) ∙ sym (append-nil old); spelled = refl }
  each_appends Plain appends (a ∷ found) old new e =
      with_some (item a old) (λ mid. each_onto item found mid) new e (λ mid e1 r1.
      let one = appends a old mid e1 in
      let rest = each_appends Plain appends found mid new r1 in
      record {
        added = one.added ++ rest.added;
        appended = rest.appended ∙ ap (λ (y : List ℕ). y ++ rest.added) one.appended ∙ append_assoc old one.added rest.added;
        spelled = record { front = one.added; rest = rest.added; joined = refl; first = one.spelled; others = rest.spelled };
      })

  pub each_refuses : (Any : A → List ℕ → Type 0) → ((a : A) → Refuses (item a) (Any a)) → (found : List A) → Refuses (each_onto item found) (SpellsEach Any found)
  unfolding each_onto
  each_refuses Any refuses [] old e x s = none_some e
  each_refuses Any refuses (a ∷ found) old e x s = elim (bind_none (item a old) (λ mid. each_onto item found mid) e) [
    | inl none ↦ refuses a old none s.front s.first
    | inr some ↦ each_refuses Any refuses found some.0 some.2 s.rest s.others
  ]

pub each_same : {A : Type 0} (First Second : A → List ℕ → Type 0) → ((a : A) → SameLength (First a) (Second a)) → (found : List A) → SameLength (SpellsEach First found) (SpellsEach Second found)
each_same First Second same [] x y s t = ap length s ∙ sym (ap length t)
each_same First Second same (a ∷ found) x y s t =
    omega (arith, ap length s.joined, ap length t.joined, length-append s.front s.rest, length-append t.front t.rest, same a s.front t.front s.first t.first, each_same First Second same found s.rest t.rest s.others t.others)

-- ---- parts

-- what a part is filled with
pub record IsFilled (first second : ℕ) (Inside : List ℕ → Type 0) (x : List ℕ) : Type 0 where
  pub inside : List ℕ
  pub part : IsPart first second inside x
  pub content : Inside inside

abbrev head_of : ℕ → ℕ → List ℕ
head_of first second = first ∷ second ∷ 0 ∷ 0 ∷ []

-- the octets of a part that is open
opened_length : (first second : ℕ) (old inside : List ℕ) → length ((old ++ head_of first second) ++ inside) ≡ length old + (4 + length inside)
opened_length first second old inside = omega (arith, length-append (old ++ head_of first second) inside, length-append old (head_of first second))

closed : (first second : ℕ) (old inside full : List ℕ) → full ≡ (old ++ head_of first second) ++ inside
    → take (length old + 2) full ++ big_bytes 2 (length full - length old) ++ drop (length old + 4) full ≡ old ++ (first ∷ second ∷ big_bytes 2 (4 + length inside) ++ inside)
closed first second old inside full e =
    let n : ℕ = 4 + length inside in
    let size : length full - length old ≡ n = omega (arith, ap length e, opened_length first second old inside) in
    let split2 : full ≡ (old ++ (first ∷ second ∷ [])) ++ (0 ∷ 0 ∷ inside) = e ∙ ap (λ (y : List ℕ). y ++ inside) (sym (append_assoc old (first ∷ second ∷ []) (0 ∷ 0 ∷ []))) ∙ append_assoc (old ++ (first ∷ second ∷ [])) (0 ∷ 0 ∷ []) inside in
    let front : take (length old + 2) full ≡ old ++ (first ∷ second ∷ []) = ap (take (length old + 2)) split2 ∙ take_at (old ++ (first ∷ second ∷ [])) (0 ∷ 0 ∷ inside) (length old + 2) (omega (arith, length-append old (first ∷ second ∷ []))) in
    let back : drop (length old + 4) full ≡ inside = ap (drop (length old + 4)) e ∙ drop_at (old ++ head_of first second) inside (length old + 4) (omega (arith, length-append old (head_of first second))) in
    ap (λ (y : List ℕ). y ++ big_bytes 2 (length full - length old) ++ drop (length old + 4) full) front
    ∙ ap (λ (m : ℕ). (old ++ (first ∷ second ∷ [])) ++ big_bytes 2 m ++ drop (length old + 4) full) size
    ∙ ap (λ (y : List ℕ). (old ++ (first ∷ second ∷ [])) ++ big_bytes 2 n ++ y) back
    ∙ append_assoc (old ++ (first ∷ second ∷ [])) (big_bytes 2 n) inside
    ∙ append_assoc old (first ∷ second ∷ []) (big_bytes 2 n ++ inside)

pub part_appends : (first second : ℕ) (write : List ℕ → Option (List ℕ)) (Plain : List ℕ → Type 0) → AppendsAll write Plain → AppendsAll (part_onto first second write) (IsFilled first second Plain)
part_appends first second write Plain appends old new e =
    with_some (write (old ++ head_of first second)) (λ full. close_onto (length old) full) new e (λ full e1 r1.
    let one = appends (old ++ head_of first second) full e1 in
    let made : List ℕ = take (length old + 2) full ++ big_bytes 2 (length full - length old) ++ drop (length old + 4) full in
    with_test (ltb (length full - length old) (2 ^ 16)) (Some made) new r1 (λ fits r2.
    let small : length full - length old < 2 ^ 16 = ltb-true _ _ fits in
    record {
      added = first ∷ second ∷ big_bytes 2 (4 + length one.added) ++ one.added;
      appended = sym (some_is made new r2) ∙ closed first second old one.added full one.appended;
      spelled = record { inside = one.added; part = record { spelled = refl; fits = omega (arith, small, ap length one.appended, opened_length first second old one.added) }; content = one.spelled };
    }))

pub part_refuses : (first second : ℕ) (write : List ℕ → Option (List ℕ)) (Plain Any : List ℕ → Type 0) → AppendsAll write Plain → Refuses write Any → SameLength Plain Any
    → (old : List ℕ) → part_onto first second write old ≡ None → (head tail : ℕ) (inside x : List ℕ) → IsPart head tail inside x → Any inside → ⊥
part_refuses first second write Plain Any appends refuses same old e head tail inside x part content =
    elim (bind_none (write (old ++ head_of first second)) (λ full. close_onto (length old) full) e) [
      | inl none ↦ refuses (old ++ head_of first second) none inside content
      | inr some ↦
          let one = appends (old ++ head_of first second) some.0 some.1 in
          let made : List ℕ = take (length old + 2) some.0 ++ big_bytes 2 (length some.0 - length old) ++ drop (length old + 4) some.0 in
          elim (test_none (ltb (length some.0 - length old) (2 ^ 16)) (Some made) some.2) [
            | inl over ↦ absurd (omega (arith, ltb-false _ _ over, ap length one.appended, opened_length first second old one.added, same one.added inside one.spelled content, part.fits))
            | inr fits ↦ none_some fits.1
          ]
    ]

pub part_length : (first second : ℕ) (inside x : List ℕ) → IsPart first second inside x → length x ≡ 4 + length inside
part_length first second inside x p = omega (arith, ap length p.spelled)

-- ---- parts one after the other

module _ {A : Type 0} (more : ℕ) (item : A → List ℕ → Option (List ℕ)) (Plain Any : A → List ℕ → Type 0) (appends : (a : A) → AppendsAll (item a) (Plain a)) (refuses : (a : A) → Refuses (item a) (Any a)) (same : (a : A) → SameLength (Plain a) (Any a)) where
  marked_one : (mark : ℕ) (a : A) (x : List ℕ) → IsFilled mark 0 (Plain a) x → IsMarked IsZero mark (Plain a) x
  marked_one mark a x f = record { reserved = 0; inside = f.inside; free = refl; part = f.part; content = f.content }

  not_last : (b : A) (found : List A) → cond (eqb (length (b ∷ found)) 0) 0 more ≡ more
  not_last b found = ap (λ t. cond t 0 more) (positive (length (b ∷ found)) (omega arith))

  pub marked_appends : (a : A) (found : List A) → AppendsAll (marked_from more item (a ∷ found)) (SpellsMarked IsZero more Plain (a ∷ found))
  unfolding marked_from
  marked_appends a [] old new e =
      with_some (part_onto 0 0 (item a) old) (λ mid. marked_from more item [] mid) new e (λ mid e1 r1.
      let one = part_appends 0 0 (item a) (Plain a) (appends a) old mid e1 in
      record { added = one.added; appended = sym (some_is mid new r1) ∙ one.appended; spelled = marked_one 0 a one.added one.spelled })
  marked_appends a (b ∷ found) old new e =
      let mark : ℕ = cond (eqb (length (b ∷ found)) 0) 0 more in
      with_some (part_onto mark 0 (item a) old) (λ mid. marked_from more item (b ∷ found) mid) new e (λ mid e1 r1.
      let one = part_appends mark 0 (item a) (Plain a) (appends a) old mid e1 in
      let rest = marked_appends b found mid new r1 in
      record {
        added = one.added ++ rest.added;
        appended = rest.appended ∙ ap (λ (y : List ℕ). y ++ rest.added) one.appended ∙ append_assoc old one.added rest.added;
        spelled = record { front = one.added; rest = rest.added; joined = refl; first = subst (λ (m : ℕ). IsMarked IsZero m (Plain a) one.added) (not_last b found) (marked_one mark a one.added one.spelled); others = rest.spelled };
      })

  pub marked_refuses : (found : List A) → Refuses (marked_from more item found) (SpellsMarked IsOctet more Any found)
  unfolding marked_from
  marked_refuses [] old e x s = s
  marked_refuses (a ∷ []) old e x s = elim (bind_none (part_onto 0 0 (item a) old) (λ mid. marked_from more item [] mid) e) [
    | inl none ↦ part_refuses 0 0 (item a) (Plain a) (Any a) (appends a) (refuses a) (same a) old none 0 s.reserved s.inside x s.part s.content
    | inr some ↦ none_some some.2
  ]
  marked_refuses (a ∷ b ∷ found) old e x s = elim (bind_none (part_onto (cond (eqb (length (b ∷ found)) 0) 0 more) 0 (item a) old) (λ mid. marked_from more item (b ∷ found) mid) e) [
    | inl none ↦ part_refuses (cond (eqb (length (b ∷ found)) 0) 0 more) 0 (item a) (Plain a) (Any a) (appends a) (refuses a) (same a) old none more s.first.reserved s.first.inside s.front s.first.part s.first.content
    | inr some ↦ marked_refuses (b ∷ found) some.0 some.2 s.rest s.others
  ]

  pub marked_same : (found : List A) → SameLength (SpellsMarked IsZero more Plain found) (SpellsMarked IsOctet more Any found)
  marked_same [] x y s t = absurd s
  marked_same (a ∷ []) x y s t =
      omega (arith, part_length 0 s.reserved s.inside x s.part, part_length 0 t.reserved t.inside y t.part, same a s.inside t.inside s.content t.content)
  marked_same (a ∷ b ∷ found) x y s t =
      omega (
        arith,
        ap length s.joined,
        ap length t.joined,
        length-append s.front s.rest,
        length-append t.front t.rest,
        part_length more s.first.reserved s.first.inside s.front s.first.part,
        part_length more t.first.reserved t.first.inside t.front t.first.part,
        same a s.first.inside t.first.inside s.first.content t.first.content,
        marked_same (b ∷ found) s.rest t.rest s.others t.others,
      )

-- ---- the steps of loops

pub split_at : {A : Type 0} (xs : List A) (i : ℕ) (a : A) → i < length xs → a ≡ get_or xs i a → drop i xs ≡ a ∷ drop (i + 1) xs
split_at [] i a lt is = absurd (omega arith)
split_at (x ∷ xs) zero a lt is = ap (λ y. y ∷ xs) (sym is)
split_at (x ∷ xs) (suc i) a lt is = split_at xs i a (omega arith) is ∙ ap (λ (n : ℕ). a ∷ drop n (x ∷ xs)) (next i) where
  next : (n : ℕ) → suc (n + 1) ≡ suc n + 1
  next n = omega arith

drop_nothing : (A : Type 0) (n : ℕ) → drop {A = A} n [] ≡ []
drop_nothing A zero = refl
drop_nothing A (suc n) = refl

pub past_all : {A : Type 0} (xs : List A) (i : ℕ) → length xs ≤ i → drop i xs ≡ []
past_all {A = A} [] i le = drop_nothing A i
past_all (x ∷ xs) zero le = absurd (omega arith)
past_all (x ∷ xs) (suc i) le = past_all xs i (omega arith)
