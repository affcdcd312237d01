-- Numbers of proposals.
use Rattle.std.proofs.Common.{◌≡◌, ℕ, zero, suc, ◌+◌, ◌*◌, ◌<◌, ◌≤◌, Bool, true, false, leb, eqb, ltb, List, [], ◌∷◌, ◌++◌, length, take, drop, get_or, Some, refl, ap, ◌∙◌, arith}
use Rattle.std.specs.Prelude.{◌&&◌}
use Rattle.std.proofs.lemmas.List.{length-append, length-drop}
use Rattle.byteorder.specs.Endian.{big_number}
use Rattle.wire.specs.declared.checking.Numbers.{Numbers}
use Rattle.wire.specs.declared.proposal.Proposal.{Proposal}
use Rattle.wire.specs.Reading.{◌>>=◌, are_numbered, each_of, last_number, number_at, numbered_from, numbers_of}
use Rattle.wire.proofs.Loops.{each_more, each_none}

pub none_numbered : (ps : List Proposal) → length ps < 1 → false ≡ are_numbered ps
unfolding are_numbered
none_numbered [] h = refl
none_numbered (p ∷ ps) h = absurd (omega arith)

pub lone_numbered : (ps : List Proposal) (p : Proposal) → 1 ≤ length ps → length ps < 2 → p ≡ get_or ps 0 p → leb 1 p.number ≡ are_numbered ps
unfolding are_numbered
lone_numbered [] p some few is = absurd (omega arith)
lone_numbered (q ∷ []) p some few is = ap (λ (x : Proposal). leb 1 x.number) is
lone_numbered (q ∷ r ∷ ps) p some few is = absurd (omega arith)

pub more_numbered : (ps : List Proposal) → 2 ≤ length ps → numbered_from 1 ps ≡ are_numbered ps
unfolding are_numbered
more_numbered [] h = absurd (omega arith)
more_numbered (p ∷ []) h = absurd (omega arith)
more_numbered (p ∷ q ∷ ps) h = refl

-- the last number decides of a lone proposal
pub last_decides : (ps : List Proposal) → length ps ≡ 1 → leb 1 (last_number ps) ≡ are_numbered ps
unfolding last_number are_numbered
last_decides [] one = absurd (omega arith)
last_decides (p ∷ []) one = refl
last_decides (p ∷ q ∷ ps) one = absurd (omega arith)

last_more : (ps : List Proposal) (p : Proposal) → last_number (ps ++ p ∷ []) ≡ p.number
unfolding last_number
last_more [] p = refl
last_more (q ∷ []) p = refl
last_more (q ∷ r ∷ ps) p = last_more (r ∷ ps) p

both_again : (a b c : Bool) → (a && (b && c)) ≡ ((a && b) && c)
both_again true b c = refl
both_again false b c = refl

numbered_more : (n : ℕ) (ps : List Proposal) (p : Proposal) → numbered_from n (ps ++ p ∷ []) ≡ (numbered_from n ps && eqb p.number (n + length ps))
numbered_more n [] p = last (eqb p.number n) ∙ ap (λ (m : ℕ). eqb p.number m) (omega arith) where
  last : (b : Bool) → (b && true) ≡ b
  last true = refl
  last false = refl
numbered_more n (q ∷ ps) p =
    ap (λ (b : Bool). eqb q.number n && b) (numbered_more (n + 1) ps p)
    ∙ both_again (eqb q.number n) (numbered_from (n + 1) ps) (eqb p.number (n + 1 + length ps))
    ∙ ap (λ (m : ℕ). (eqb q.number n && numbered_from (n + 1) ps) && eqb p.number m) (omega arith)

abbrev one_more : Numbers → ℕ → Numbers
one_more n number = record { count = n.count + 1; last = number; in_order = n.in_order && eqb number (n.count + 1) }

more_of : (ps : List Proposal) (p : Proposal) → numbers_of (ps ++ p ∷ []) ≡ one_more (numbers_of ps) p.number
more_of ps p = rw (length-append ps (p ∷ []), last_more ps p, numbered_more 1 ps p) (ap (λ (m : ℕ). record { count = length ps + 1; last = p.number; in_order = numbered_from 1 ps && eqb p.number m }) (omega arith))

-- what is kept of the numbers of one proposal more
pub numbers_more : (n : Numbers) (number : ℕ) (ps : List Proposal) (p : Proposal) → numbers_of ps ≡ n → p.number ≡ number → numbers_of (ps ++ p ∷ []) ≡ one_more n number
numbers_more n number ps p e is = more_of ps p ∙ ap (λ (m : Numbers). one_more m p.number) e ∙ ap (one_more n) is

-- ---- SPIs

-- octets for so many numbers of four octets are read as these
pub four_by_four : (n steps : ℕ) (xs : List ℕ) → length xs ≡ 4 * n → length xs ≤ steps → (found : List ℕ) × (each_of (number_at 4) steps xs ≡ Some found)
four_by_four zero steps xs many enough = ([], each_none (number_at 4) steps xs (omega arith))
four_by_four (suc n) steps xs many enough =
    let m = each_more (number_at 4) steps xs (omega arith) enough in
    let others = four_by_four n m.0 (drop 4 xs) (omega (arith, length-drop 4 xs)) (omega (arith, length-drop 4 xs, m.1)) in
    let long : ltb (length xs) 4 ≡ false = grind (arith) in
    let first : number_at 4 xs ≡ Some (big_number 4 (take 4 xs), drop 4 xs) = rw long refl in (
      big_number 4 (take 4 xs) ∷ others.0,
      m.2 ∙ ap (λ o. o >>= λ a. each_of (number_at 4) m.0 a.1 >>= λ rest. Some (a.0 ∷ rest)) first ∙ ap (λ o. o >>= λ rest. Some (big_number 4 (take 4 xs) ∷ rest)) others.1,
    )
