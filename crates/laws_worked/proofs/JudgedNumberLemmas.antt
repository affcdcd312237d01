-- As which numbers of a Child SA packets are accepted over a list of steps, one step after the other.
use Rattle.std.proofs.Common.{◌≡◌, ◌↔◌, ◌∷◌, ℕ, zero, suc, List, [], Option, Some, None, length, ap, refl, subst, sym, ◌∙◌}
use Rattle.std.specs.Prelude.{slice_get}
use Rattle.deliveries.specs.Numbers.{AreNumbersOf, IsJudgedAs}
use Rattle.deliveries.specs.Passages.{Passage, Reception}

-- step by step, the number as which a packet is accepted
abbrev pub AreJudgedAs : ℕ → List Passage → List (Option ℕ) → Type 0
AreJudgedAs child [] [] = Unit {0}
AreJudgedAs child (p ∷ ps) (number ∷ numbers) = ((n : ℕ) → (number ≡ Some n) ↔ IsJudgedAs child n p) × AreJudgedAs child ps numbers
AreJudgedAs child [] (number ∷ numbers) = ⊥
AreJudgedAs child (p ∷ ps) [] = ⊥

each_numbered : (child : ℕ) (ps : List Passage) (ns : List (Option ℕ)) → AreJudgedAs child ps ns → length ns ≡ length ps
each_numbered child [] [] are = refl
each_numbered child (p ∷ ps) (n ∷ ns) are = ap suc (each_numbered child ps ns are.1)
each_numbered child [] (n ∷ ns) are = absurd are
each_numbered child (p ∷ ps) [] are = absurd are

numbered_there : (child : ℕ) (ps : List Passage) (ns : List (Option ℕ)) (place n : ℕ) (p : Passage) → AreJudgedAs child ps ns → slice_get ps place ≡ Some p
    → slice_get ns place ≡ Some (Some n) → IsJudgedAs child n p
numbered_there child [] ns place n p are there is = absurd cc
numbered_there child (q ∷ ps) [] place n p are there is = absurd are
numbered_there child (q ∷ ps) (m ∷ ns) zero n p are there is =
    let same : q ≡ p = cc in
    let number : m ≡ Some n = cc in
    subst (λ (r : Passage). IsJudgedAs child n r) same ((are.0 n).0 number)
numbered_there child (q ∷ ps) (m ∷ ns) (suc place) n p are there is = numbered_there child ps ns place n p are.1 there is

there_numbered : (child : ℕ) (ps : List Passage) (ns : List (Option ℕ)) (place n : ℕ) (p : Passage) → AreJudgedAs child ps ns → slice_get ps place ≡ Some p
    → IsJudgedAs child n p → slice_get ns place ≡ Some (Some n)
there_numbered child [] ns place n p are there j = absurd cc
there_numbered child (q ∷ ps) [] place n p are there j = absurd are
there_numbered child (q ∷ ps) (m ∷ ns) zero n p are there j =
    let same : p ≡ q = cc in
    ap (λ (o : Option ℕ). Some o) ((are.0 n).1 (subst (λ (r : Passage). IsJudgedAs child n r) same j))
there_numbered child (q ∷ ps) (m ∷ ns) (suc place) n p are there j = there_numbered child ps ns place n p are.1 there j

pub are_numbers : (child : ℕ) (ps : List Passage) (ns : List (Option ℕ)) → AreJudgedAs child ps ns → AreNumbersOf child ps ns
are_numbers child ps ns are = record {
  each = each_numbered child ps ns are;
  exactly = λ place n p there. (numbered_there child ps ns place n p are there, there_numbered child ps ns place n p are there);
}

none_number : (n : ℕ) → None ≡ Some n → ⊥
none_number n is = cc

none_came : (r : Reception) → None ≡ Some r → ⊥
none_came r is = cc

-- where no packet came, there is none
pub nothing_came : (child : ℕ) (p : Passage) → p.received ≡ None → (n : ℕ) → (None ≡ Some n) ↔ IsJudgedAs child n p
nothing_came child p none n =
    (λ is. absurd (none_number n is), λ judges. absurd (none_came judges.reception (sym none ∙ judges.received)))

-- nor where one came that was accepted as none
pub none_judged : (child : ℕ) (p : Passage) → ((n : ℕ) → ¬ IsJudgedAs child n p) → (n : ℕ) → (None ≡ Some n) ↔ IsJudgedAs child n p
none_judged child p none n = (λ is. absurd (none_number n is), λ judges. absurd (none n judges))

same_packet : (one other : Reception) → Some one ≡ Some other → one.packet ≡ other.packet
same_packet one other is = let same : one ≡ other = cc in ap (λ (r : Reception). r.packet) same

-- the packet that came at a step is one only
pub packet_came : (one r : Reception) (p : Passage) → p.received ≡ Some one → p.received ≡ Some r → one.packet ≡ r.packet
packet_came one r p here there = same_packet one r (sym here ∙ there)
