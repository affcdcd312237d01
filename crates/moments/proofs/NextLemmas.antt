-- The least time at which something is due.
use Rattle.std.proofs.Common.{◌≡◌, ◌⊎◌, ◌+◌, ◌<◌, ◌≤◌, ◌^◌, ◌&&◌, ℕ, List, Bool, true, false, Option, Some, None, All, [], ◌∷◌, min, nat_le, nat_lt, arith, sym, ap, ◌∙◌, refl, inl, inr, subst, length, IfSome}
use Rattle.std.proofs.lemmas.Bool.{true≢false}
use Rattle.std.proofs.lemmas.Bool.Decides.{eqb_tells, leb_tells, nat_tests}
use Rattle.std.proofs.lemmas.Option.{none-some, same_Some, IfSome_then}
use Rattle.std.proofs.lemmas.List.Elements.{All-contains, AllWithin-more, at_read}
use Rattle.std.specs.FinMap as numbers
use Rattle.std.specs.List.{slice_index_or, AllWithin}
use Rattle.std.specs.Option.{SomeIff}
use Rattle.requests.proofs.OrderLemmas.{find, found_further, found_here, found_later, in_order_after, IsInOrder}
use Rattle.requests.specs.Timers.{due_from, waits}
use Rattle.association.specs.declared.phase.Association.{Association}
use Rattle.association.specs.declared.phase.Phase.{Phase}
use Rattle.association.specs.declared.phase.Phase.TheVariants.{AuthSent, Closed, Established, HalfOpen, InitSent}
use Rattle.association.specs.declared.phase.Request.{Request}
use Rattle.moments.specs.Due.{is_due, is_over, is_unanswered}
use Rattle.moments.specs.Held.{HasNothingDue}
use Rattle.moments.specs.Next.{earlier, HasSomethingDue, IsBefore, NothingIsDueBefore, SomeRequestIsDue, SomethingIsDue}

-- ---- the earlier one of two

pub before_both : (one other : Option ℕ) (now : ℕ) → IsBefore now (earlier one other) → IsBefore now one × IsBefore now other
before_both None other now is = (tt, is)
before_both (Some m) None now is = (is, tt)
before_both (Some m) (Some n) now is = (omega arith, omega arith)

pub one_is : (P : ℕ → Type 0) (one other : Option ℕ) → IfSome one P → IfSome other P → IfSome (earlier one other) P
one_is P None other first second = second
one_is P (Some m) None first second = first
one_is P (Some m) (Some n) first second =
    elim (leb_tells m n) [
      | inl (_, less) ↦ (let same : m ≡ min m n = omega arith in subst P same first)
      | inr (_, more) ↦ (let same : n ≡ min m n = omega arith in subst P same second)
    ]

-- ---- from a time on, where that is one of 64 bits

pub early_by : (o : Option ℕ) (from now : ℕ) → SomeIff o (from < 2 ^ 64) from → now < 2 ^ 64 → IsBefore now o → now < from
early_by None from now is fits before = elim (leb_tells from now) [ inl (_, less) ↦ absurd (is (omega arith)) | inr (_, more) ↦ more ]
early_by (Some m) from now is fits before = omega (arith, is.1)

pub due_by : (o : Option ℕ) (from : ℕ) → SomeIff o (from < 2 ^ 64) from → IfSome o (λ m. m ≡ from)
due_by None from is = tt
due_by (Some m) from is = is.1

not_reached : (from now : ℕ) → now < from → nat_le from now ≡ false
not_reached from now less = grind (arith, nat_tests, less)

reached : (from now : ℕ) → now ≡ from → nat_le from now ≡ true
reached from now same = grind (arith, nat_tests, same)

pub not_over_by : (o : Option ℕ) (from now : ℕ) → SomeIff o (from < 2 ^ 64) from → now < 2 ^ 64 → IsBefore now o → nat_le from now ≡ false
not_over_by o from now is fits before = not_reached from now (early_by o from now is fits before)

pub over_by : (o : Option ℕ) (from : ℕ) → SomeIff o (from < 2 ^ 64) from → IfSome o (λ m. nat_le from m ≡ true)
over_by o from is = IfSome_then o (due_by o from is) (λ m same. reached from m same)

-- ---- the requests up to a Message ID

both_true : (a b c d : ℕ) → a ≤ b → c < d → (nat_le a b && nat_lt c d) ≡ true
both_true a b c d less more = grind (arith, nat_tests, less, more)

all_true : (a b c d : ℕ) → a ≤ b → d ≤ c → (nat_le a b && nat_le d c) ≡ true
all_true a b c d less more = grind (arith, nat_tests, less, more)

request_due : (now : ℕ) (r : Request) → due_from r.timer ≤ now → (is_due now r ≡ true) ⊎ (is_unanswered now r ≡ true)
request_due now r come =
    elim (leb_tells (length waits) r.timer.repeats) [
      | inl (_, most) ↦ inr (all_true (due_from r.timer) now r.timer.repeats (length waits) come most)
      | inr (_, fewer) ↦ inl (both_true (due_from r.timer) now r.timer.repeats (length waits) come fewer)
    ]

-- none but those that are left is due before the first time found, at which one is
pub record WalkedTo (left : List (ℕ × Request)) (first : Option ℕ) (a : Association) : Type 0 where
  pub order : IsInOrder left
  pub there : (n : ℕ) (r : Request) → find n left ≡ Some r → numbers.get a.outgoing.outstanding n ≡ Some r
  pub early : (now : ℕ) → now < 2 ^ 64 → IsBefore now first → (n : ℕ) (r : Request) → numbers.get a.outgoing.outstanding n ≡ Some r → find n left ≡ None → now < due_from r.timer
  pub due : IfSome first (λ m. SomeRequestIsDue m a)

pub none_walked : (a : Association) (left : List (ℕ × Request)) → left ≡ numbers.entries a.outgoing.outstanding → WalkedTo left None a
none_walked a left is =
    subst (λ (l : List (ℕ × Request)). WalkedTo l None a) (sym is)
    (record {
      order = numbers.entries_sorted a.outgoing.outstanding;
      there = λ n r found. numbers.get-entries a.outgoing.outstanding n ∙ found;
      early = λ now fits before n r there lost. absurd (none-some r (sym (numbers.get-entries a.outgoing.outstanding n ∙ lost) ∙ there));
      due = tt;
    })

pub walked_one : (left rest : List (ℕ × Request)) (first o later : Option ℕ) (a : Association) (n : ℕ) (r : Request) → left ≡ (n, r) ∷ rest → WalkedTo left first a → SomeIff o (due_from r.timer < 2 ^ 64) (due_from r.timer)
    → later ≡ earlier first o → WalkedTo rest later a
walked_one left rest first o later a n r next so_far is found =
    let walked : WalkedTo ((n, r) ∷ rest) first a = subst (λ (l : List (ℕ × Request)). WalkedTo l first a) next so_far in
    let its : numbers.get a.outgoing.outstanding n ≡ Some r = walked.there n r (found_here n (n, r) rest refl) in
    let come : IfSome o (λ m. SomeRequestIsDue m a) =
    IfSome_then o (due_by o (due_from r.timer) is) (λ m same. record { number = n; request = r; there = its; due = request_due m r (omega arith) }) in
    record {
      order = in_order_after (n, r) rest walked.order;
      there = λ q s later. walked.there q s (found_later (n, r) rest q s walked.order later);
      early = λ now fits before q s there lost.
          (let both = before_both first o now (subst (IsBefore now) found before) in
          elim (eqb_tells q n) [
            | inl (_, same) ↦
                (let one : r ≡ s = same_Some r s (sym its ∙ ap (numbers.get a.outgoing.outstanding) (sym same) ∙ there) in
                subst (λ (x : Request). now < due_from x.timer) one (early_by o (due_from r.timer) now is fits both.1))
            | inr (_, apart) ↦ walked.early now fits both.0 q s there (found_further q (n, r) rest (λ same. apart (sym same)) ∙ lost)
          ]);
      due = subst (λ (x : Option ℕ). IfSome x (λ m. SomeRequestIsDue m a)) (sym found) (one_is (λ m. SomeRequestIsDue m a) first o walked.due come);
    }

pub walked_all : (left : List (ℕ × Request)) (first : Option ℕ) (a : Association) → left ≡ [] → WalkedTo left first a
    → (now : ℕ) → now < 2 ^ 64 → IsBefore now first → (n : ℕ) (r : Request) → numbers.get a.outgoing.outstanding n ≡ Some r → now < due_from r.timer
walked_all left first a none walked now fits before n r there = walked.early now fits before n r there (ap (find n) none)

-- ---- one IKE SA

pub quiet_before : (over next whole : Option ℕ) (a : Association) → whole ≡ earlier over next → ((now : ℕ) → now < 2 ^ 64 → IsBefore now over → is_over now a.phase ≡ false)
    → ((now : ℕ) → now < 2 ^ 64 → IsBefore now next → (n : ℕ) (r : Request) → numbers.get a.outgoing.outstanding n ≡ Some r → now < due_from r.timer)
    → (now : ℕ) → now < 2 ^ 64 → IsBefore now whole → HasNothingDue now a
quiet_before over next whole a is held none now fits before =
    let both = before_both over next now (subst (IsBefore now) is before) in
    record { held = held now fits both.0; none_due = λ n r there. none now fits both.1 n r there }

pub something_at : (over next whole : Option ℕ) (a : Association) → whole ≡ earlier over next → IfSome over (λ m. is_over m a.phase ≡ true) → IfSome next (λ m. SomeRequestIsDue m a) → IfSome whole (λ m. HasSomethingDue m a)
something_at over next whole a is ends due =
    subst (λ (x : Option ℕ). IfSome x (λ m. HasSomethingDue m a)) (sym is)
    (one_is (λ m. HasSomethingDue m a) over next (IfSome_then over ends (λ m its. inl its)) (IfSome_then next due (λ m its. inr its)))

-- ---- several

-- nothing is due of those below a place before the first time found, at which something is
pub record LookedTo (place : ℕ) (first : Option ℕ) (associations : List Association) : Type 0 where
  pub early : (now : ℕ) → now < 2 ^ 64 → IsBefore now first → AllWithin (HasNothingDue now) associations 0 place
  pub due : IfSome first (λ m. SomethingIsDue m associations)

pub none_looked : (associations : List Association) → LookedTo 0 None associations
none_looked associations = record { early = λ now fits before k d low less. absurd (omega arith); due = tt }

pub looked_one : (place : ℕ) (first o later : Option ℕ) (associations : List Association) (a : Association) → LookedTo place first associations → place < length associations → a ≡ slice_index_or associations place a
    → ((now : ℕ) → now < 2 ^ 64 → IsBefore now o → HasNothingDue now a) → IfSome o (λ m. HasSomethingDue m a) → later ≡ earlier first o → LookedTo (place + 1) later associations
looked_one place first o later associations a looked inside is none some found =
    let come : IfSome o (λ m. SomethingIsDue m associations) = IfSome_then o some (λ m its. record { association = a; held = (place, inside, sym is); due = its }) in
    record {
      early = λ now fits before.
          (let both = before_both first o now (subst (IsBefore now) found before) in
          AllWithin-more (HasNothingDue now) associations 0 place (looked.early now fits both.0) (at_read associations (HasNothingDue now) place a inside is (none now fits both.1)));
      due = subst (λ (x : Option ℕ). IfSome x (λ m. SomethingIsDue m associations)) (sym found) (one_is (λ m. SomethingIsDue m associations) first o looked.due come);
    }

pub looked_all : (place : ℕ) (first : Option ℕ) (associations : List Association) → LookedTo place first associations → length associations ≤ place → NothingIsDueBefore first associations
looked_all place first associations looked past now fits before = λ k d less. looked.early now fits before k d (omega arith) (omega arith)

-- ---- what follows

over_on : (now later : ℕ) (p : Phase) → later ≤ now → is_over later p ≡ true → is_over now p ≡ true
over_on now later (InitSent sent) less is = is
over_on now later (AuthSent sent) less is = is
over_on now later (HalfOpen opened) less is = grind (arith, nat_tests, less, is)
over_on now later (Established keys) less is = is
over_on now later (Closed keys at) less is = grind (arith, nat_tests, less, is)

from_then : (a b : ℕ) (c : Bool) → (nat_le a b && c) ≡ true → a ≤ b
from_then a b c is = elim (leb_tells a b) [ inl (_, less) ↦ less | inr (not, more) ↦ absurd (true≢false (sym is ∙ ap (λ t. t && c) not)) ]

nothing_or_something : (now later : ℕ) (a : Association) → later ≤ now → HasNothingDue now a → HasSomethingDue later a → ⊥
nothing_or_something now later a less none (inl over) = true≢false (sym (over_on now later a.phase less over) ∙ none.held)
nothing_or_something now later a less none (inr some) =
    let later_on = none.none_due some.number some.request some.there in
    let come : due_from some.request.timer ≤ later =
    elim some.due [
      | inl again ↦ from_then (due_from some.request.timer) later (nat_lt some.request.timer.repeats (length waits)) again
      | inr failed ↦ from_then (due_from some.request.timer) later (nat_le (length waits) some.request.timer.repeats) failed
    ] in
    omega arith

pub lies_ahead : (now later : ℕ) (associations : List Association) → All (HasNothingDue now) associations → SomethingIsDue later associations → now < later
lies_ahead now later associations none some =
    elim (leb_tells later now) [
      | inl (_, less) ↦ absurd (nothing_or_something now later some.association less (All-contains (HasNothingDue now) associations some.association none some.held) some.due)
      | inr (_, more) ↦ more
    ]
