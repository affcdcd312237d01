-- Step after step: the sequence numbers of a Child SA that are judged, and that its window shows what it
-- spans of all numbers taken.
use Rattle.std.proofs.Common.{◌≡◌, ◌↔◌, ◌≤◌, ℕ, zero, suc, false, Option, Some, None, List, [], ◌∷◌, length, take, refl, sym, ap, ◌∙◌, subst, arith, inl, inr}
use Rattle.std.specs.Prelude.{slice_get}
use Rattle.std.specs.Ordering.{nat_cmp}
use Rattle.std.specs.FinSet as set
use Rattle.std.proofs.lemmas.Bool.Decides.{leb_tells}
use Rattle.replay.specs.Window.{Takes}
use Rattle.esp.specs.Delivery.{Shows, taken_after}
use Rattle.esp.specs.Views.{Receiving}
use Rattle.sadb.specs.Database.{Database, IsSoundTable, pair_at}
use Rattle.sadb.specs.declared.pair.Pair.{Pair}
use Rattle.deliveries.specs.Numbers.{AreNumbersOf, IsJudgedAs, taken_at_first, taken_by}
use Rattle.deliveries.specs.Passages.{IsPassage, IsTrail, Passage}
use Rattle.deliveries.proofs.StepLemmas.{came_unused, judged_stands, next_grows, number_at, PacketFacts, stood_before, Stood}
use Rattle.deliveries.proofs.TableLemmas.{held_or_not, one_held}
use Rattle.deliveries.proofs.WindowLemmas.{none_shown}

-- step by step, the sequence number that is judged
abbrev pub AreJudgedAs : ℕ → List Passage → List (Option ℕ) → Type 0
AreJudgedAs child [] [] = Unit {0}
AreJudgedAs child (p ∷ ps) (number ∷ numbers) = ((n : ℕ) → (number ≡ Some n) ↔ IsJudgedAs child n p) × AreJudgedAs child ps numbers
AreJudgedAs child [] (number ∷ numbers) = ⊥
AreJudgedAs child (p ∷ ps) [] = ⊥

pub record Numbered (child : ℕ) (ps : List Passage) : Type 0 where
  pub numbers : List (Option ℕ)
  pub are : AreJudgedAs child ps numbers

pub numbered : PacketFacts → (child : ℕ) (old : Database) (ps : List Passage) (new : Database) → IsTrail old ps new → Numbered child ps
numbered facts child old [] new trail = record { numbers = []; are = tt }
numbered facts child old (p ∷ ps) new trail =
    let here = number_at facts child p trail.1 in
    let rest = numbered facts child p.after ps new trail.2 in
    record { numbers = here.number ∷ rest.numbers; are = (here.exactly, rest.are) }

each_numbered : (child : ℕ) (ps : List Passage) (ns : List (Option ℕ)) → AreJudgedAs child ps ns → length ns ≡ length ps
each_numbered child [] [] are = refl
each_numbered child (p ∷ ps) (n ∷ ns) are = ap suc (each_numbered child ps ns are.1)
each_numbered child [] (n ∷ ns) are = absurd are
each_numbered child (p ∷ ps) [] are = absurd are

numbered_there : (child : ℕ) (ps : List Passage) (ns : List (Option ℕ)) (place n : ℕ) (p : Passage) → AreJudgedAs child ps ns → slice_get ps place ≡ Some p
    → slice_get ns place ≡ Some (Some n) → IsJudgedAs child n p
numbered_there child [] ns place n p are there is = absurd (cc)
numbered_there child (q ∷ ps) [] place n p are there is = absurd are
numbered_there child (q ∷ ps) (m ∷ ns) zero n p are there is =
    let same : q ≡ p = cc in
    let number : m ≡ Some n = cc in
    subst (λ (r : Passage). IsJudgedAs child n r) same ((are.0 n).0 number)
numbered_there child (q ∷ ps) (m ∷ ns) (suc place) n p are there is = numbered_there child ps ns place n p are.1 there is

there_numbered : (child : ℕ) (ps : List Passage) (ns : List (Option ℕ)) (place n : ℕ) (p : Passage) → AreJudgedAs child ps ns → slice_get ps place ≡ Some p
    → IsJudgedAs child n p → slice_get ns place ≡ Some (Some n)
there_numbered child [] ns place n p are there j = absurd (cc)
there_numbered child (q ∷ ps) [] place n p are there j = absurd are
there_numbered child (q ∷ ps) (m ∷ ns) zero n p are there j =
    let same : p ≡ q = cc in
    ap (λ (o : Option ℕ). Some o) ((are.0 n).1 (subst (λ (r : Passage). IsJudgedAs child n r) same j))
there_numbered child (q ∷ ps) (m ∷ ns) (suc place) n p are there j = there_numbered child ps ns place n p are.1 there j

pub are_numbers : (child : ℕ) (ps : List Passage) (ns : List (Option ℕ)) → AreJudgedAs child ps ns → AreNumbersOf child ps ns
are_numbers child ps ns are = record {
  each = each_numbered child ps ns are;
  exactly = λ place n p there. (numbered_there child ps ns place n p are there, there_numbered child ps ns place n p are there);
}

-- The Child SA's window shows these sequence numbers, where its SA pair stands; and where its pair is still
-- to come, none was taken.
pub record Holds (table : Database) (child : ℕ) (taken : set.FinSet nat_cmp) : Type 0 where
  pub shown : (pair : Pair) → pair_at table.pairs child ≡ Some pair → Shows pair.inbound.window pair.inbound.window.size taken
  pub unborn : table.next ≤ child → (n : ℕ) → set.contains taken n ≡ false

none_judged : (number : Option ℕ) → ((n : ℕ) → ¬ (number ≡ Some n)) → number ≡ None
none_judged None none = refl
none_judged (Some n) none = absurd (none n refl)

-- what is taken after a step at which this sequence number is judged, or none
after_none : (taken : set.FinSet nat_cmp) (number : Option ℕ) → number ≡ None → taken ≡ taken_after taken (number ∷ [])
after_none taken number is = ap (λ (o : Option ℕ). taken_after taken (o ∷ [])) (sym is)

after_one : (taken : set.FinSet nat_cmp) (number : Option ℕ) (n : ℕ) → number ≡ Some n → set.insert taken n ≡ taken_after taken (number ∷ [])
after_one taken number n is = ap (λ (o : Option ℕ). taken_after taken (o ∷ [])) (sym is)

module _ (facts : PacketFacts) (child : ℕ) (p : Passage) (is : IsPassage p) (taken : set.FinSet nat_cmp) (holds : Holds p.before child taken)
    (number : Option ℕ) (exactly : (n : ℕ) → (number ≡ Some n) ↔ IsJudgedAs child n p) where
  abbrev afterwards : set.FinSet nat_cmp
  afterwards = taken_after taken (number ∷ [])

  positive : (n : ℕ) → IsJudgedAs child n p → 1 ≤ n
  positive n j = facts.positive j.takes.pair.inbound.association j.takes.pair.inbound.window j.reception.packet n j.takes.judged

  -- an SA pair that stood
  shown_of_old : (pair : Pair) → Stood child p pair → Shows pair.inbound.window pair.inbound.window.size afterwards
  shown_of_old pair stood =
      let before : Shows stood.was.inbound.window stood.was.inbound.window.size taken = holds.shown stood.was stood.there in
      elim stood.moves [
        | inl took ↦
            let n = took.number in
            let takes : Takes stood.was.inbound.window n pair.inbound.window = took.takes.window in
            let inserted : Shows pair.inbound.window stood.was.inbound.window.size (set.insert taken n) =
            facts.taking stood.was.inbound.window pair.inbound.window n stood.was.inbound.window.size taken (positive n took.judged) before takes in
            let sized : Shows pair.inbound.window pair.inbound.window.size (set.insert taken n) =
            subst (λ (size : ℕ). Shows pair.inbound.window size (set.insert taken n)) (sym takes.size) inserted in
            subst (λ (s : set.FinSet nat_cmp). Shows pair.inbound.window pair.inbound.window.size s) (after_one taken number n ((exactly n).1 took.judged)) sized
        | inr rests ↦
            let still : Shows pair.inbound.window pair.inbound.window.size taken =
            subst (λ (r : Receiving). Shows r.window r.window.size taken) (sym rests.inbound) before in
            let none : number ≡ None = none_judged number (λ n e. rests.none n ((exactly n).0 e)) in
            subst (λ (s : set.FinSet nat_cmp). Shows pair.inbound.window pair.inbound.window.size s) (after_none taken number none) still
      ]

  -- where the SA pair is still to come, none is judged
  none_yet : p.before.next ≤ child → (n : ℕ) → set.contains afterwards n ≡ false
  none_yet above n =
      let none : number ≡ None = none_judged number (λ m e. (let below = judged_stands facts child p is m ((exactly m).0 e) in omega arith)) in
      sym (ap (λ (s : set.FinSet nat_cmp). set.contains s n) (after_none taken number none)) ∙ holds.unborn above n

  pub holds_after : IsSoundTable p.after → Holds p.after child afterwards
  holds_after sound = record {
    shown = λ pair there. elim (leb_tells p.before.next child) [
      | inl (_, above) ↦
          none_shown facts pair.inbound.window afterwards (sound.window child pair there) (came_unused facts child p is pair above there) (none_yet above)
      | inr (_, below) ↦ shown_of_old pair (stood_before facts child p is pair below there)
    ];
    unborn = λ above. (let grows = next_grows facts child p is in none_yet (omega arith));
  }

-- what is taken after one more sequence number in front
taken_one_more : (taken : set.FinSet nat_cmp) (n : Option ℕ) (ns : List (Option ℕ)) → taken_after (taken_after taken (n ∷ [])) ns ≡ taken_after taken (n ∷ ns)
taken_one_more taken None ns = refl
taken_one_more taken (Some n) ns = refl

-- at every place
pub held_at : PacketFacts → (child : ℕ) (taken : set.FinSet nat_cmp) (q : Passage) (ps : List Passage) (ns : List (Option ℕ)) (new : Database) (place : ℕ) (p : Passage)
    → IsPassage q → IsTrail q.after ps new → AreJudgedAs child (q ∷ ps) ns → Holds q.before child taken → slice_get (q ∷ ps) place ≡ Some p
    → Holds p.before child (taken_after taken (take place ns))
held_at facts child taken q ps [] new place p is trail are holds there = absurd are
held_at facts child taken q ps (n ∷ ns) new zero p is trail are holds there =
    let same : q ≡ p = cc in
    subst (λ (r : Passage). Holds r.before child taken) same holds
held_at facts child taken q [] (n ∷ ns) new (suc place) p is trail are holds there = absurd (cc)
held_at facts child taken q (r ∷ ps) (n ∷ ns) new (suc place) p is trail are holds there =
    let sound : IsSoundTable q.after = subst IsSoundTable trail.0 trail.1.sound in
    let next : Holds q.after child (taken_after taken (n ∷ [])) = holds_after facts child q is taken holds n are.0 sound in
    let next_is : Holds r.before child (taken_after taken (n ∷ [])) =
    subst (λ (d : Database). Holds d child (taken_after taken (n ∷ []))) (sym trail.0) next in
    subst (λ (s : set.FinSet nat_cmp). Holds p.before child s) (taken_one_more taken n (take place ns))
    (held_at facts child (taken_after taken (n ∷ [])) r ps ns new place p trail.1 trail.2 are.1 next_is there)

-- at the first
pub held_at_first : PacketFacts → (child : ℕ) (table : Database) → IsSoundTable table → Holds table child (taken_by (pair_at table.pairs child))
held_at_first facts child table sound = elim (held_or_not Pair (pair_at table.pairs child)) [
  | inl none ↦ record {
    shown = λ pair there. absurd (cc);
    unborn = λ above n. ap (λ (o : Option Pair). set.contains (taken_by o) n) none ∙ set.contains-empty nat_cmp n;
  }
  | inr held ↦ record {
    shown = λ pair there.
        let same : held.value ≡ pair = one_held held.value pair (sym held.is ∙ there) in
        let first : taken_by (pair_at table.pairs child) ≡ pair.inbound.window.taken = ap taken_by there in
        subst (λ (s : set.FinSet nat_cmp). Shows pair.inbound.window pair.inbound.window.size s) (sym first) (facts.sound pair.inbound.window (sound.window child pair there));
    unborn = λ above n. (let below = (sound.serial_given child held.value held.is).1 in absurd (omega arith));
  }
]

pub held : PacketFacts → (child : ℕ) (old : Database) (ps : List Passage) (ns : List (Option ℕ)) (new : Database) (place : ℕ) (p : Passage)
    → IsTrail old ps new → AreJudgedAs child ps ns → slice_get ps place ≡ Some p → Holds p.before child (taken_after (taken_at_first child ps) (take place ns))
held facts child old [] ns new place p trail are there = absurd (cc)
held facts child old (q ∷ ps) ns new place p trail are there =
    held_at facts child (taken_at_first child (q ∷ ps)) q ps ns new place p trail.1 trail.2 are (held_at_first facts child q.before trail.1.sound) there

-- each step of a trail is a passage
pub passage_at : (old : Database) (ps : List Passage) (new : Database) (place : ℕ) (p : Passage) → IsTrail old ps new → slice_get ps place ≡ Some p → IsPassage p
passage_at old [] new place p trail there = absurd (cc)
passage_at old (q ∷ ps) new zero p trail there = let same : q ≡ p = cc in subst IsPassage same trail.1
passage_at old (q ∷ ps) new (suc place) p trail there = passage_at q.after ps new place p trail.2 there
