-- A tick does all that it has reached, and nothing of it is due afterwards.
use Rattle.std.proofs.Common.{◌≡◌, ◌+◌, ◌<◌, ◌≤◌, ◌++◌, ◌∷◌, ◌&&◌, [], ℕ, zero, suc, List, nat_le, nat_lt, length, Bool, true, false, cond, Option, Some, None, All, Contains, inl, inr, arith, sym, ap, ◌∙◌, refl, subst, slice_index_or}
use Rattle.std.proofs.lemmas.Bool.Decides.{nat_tests}
use Rattle.std.proofs.lemmas.List.Elements.{All-from_recursion, recursion_from_All, Contains-append_cases, Contains-append_left, Contains-append_right}
use Rattle.std.proofs.lemmas.Option.{none-some}
use Rattle.std.specs.FinMap as numbers
use Rattle.std.specs.List.{flat_map, list_any, AllByRecursion}
use Rattle.std.specs.Option.{option_map}
use Rattle.std.specs.Ordering.{nat_cmp}
use Rattle.requests.specs.Outgoing.{SomeOutstanding}
use Rattle.requests.specs.Timers.{due_from, last_wait, waits}
use Rattle.sadb.specs.Database.{pair_at, Database, RemovesAllOf}
use Rattle.association.specs.Closing.{Closes, GivesUpSpis, HoldsSpi}
use Rattle.association.specs.declared.phase.Association.{Association}
use Rattle.association.specs.declared.phase.Request.{Request}
use Rattle.moments.specs.Due.{after_sending, closed_by, closed_of, has_failed, is_due, is_over, is_unanswered, outstanding_of, sent_by, sent_of, SendsAgain}
use Rattle.moments.specs.Held.{began, HasBegun, IsInTime, LeavesPairsBut}
use Rattle.moments.specs.Ticking.{PassAll, PassesBy, Ticks}
use Rattle.moments.specs.declared.resent.Resent.{Resent}
use Rattle.moments.specs.declared.ticking.Ticked.{Ticked}
use Rattle.requests.proofs.OrderLemmas.{any_found, find, found_any}
use Rattle.moments.proofs.PassingLemmas.{closed_now}

-- ---- all that is due comes

by_passing : (over failed : Bool) (now : ℕ) (a : Association) (table : Database) (sent : List Resent) (closed : List ℕ) (held : List Association) (after : Database) → PassesBy over failed now a table sent closed held after
    → (sent ≡ sent_by over failed now a) × (closed ≡ closed_by over failed a)
by_passing true failed now a table sent closed held after is = (is.0, is.1)
by_passing false true now a table sent closed held after is = (is.2, is.3)
by_passing false false now a table sent closed held after is = (is.2, is.3)

all_comes : (now : ℕ) (old : List Association) (table : Database) (sent : List Resent) (closed : List ℕ) (new : List Association) (after : Database) → PassAll now old table sent closed new after
    → (sent ≡ flat_map (sent_of now) old) × (closed ≡ flat_map (closed_of now) old)
all_comes now [] table sent closed new after is = (is.0, is.1)
all_comes now (a ∷ rest) table sent closed new after is =
    let here = by_passing (is_over now a.phase) (has_failed now a) now a table is.sent_first is.closed_first is.held_first is.between is.passes.done in
    let others = all_comes now rest is.between is.sent_rest is.closed_rest is.held_rest after is.others in
    (is.sent_all ∙ (λ i. here.0 i ++ others.0 i), is.closed_all ∙ (λ i. here.1 i ++ others.1 i))

pub what_comes : (now : ℕ) (old : List Association) (table : Database) (ticked : Ticked) (new : List Association) (new_table : Database) → Ticks now old table ticked new new_table
    → (ticked.requests ≡ flat_map (sent_of now) old) × (ticked.closed ≡ flat_map (closed_of now) old)
what_comes now old table ticked new new_table is = all_comes now old table ticked.requests ticked.closed new new_table is

-- ---- nothing is due afterwards

some_wait : (repeats : ℕ) → 1 ≤ slice_index_or waits repeats last_wait
some_wait zero = omega arith
some_wait (suc zero) = omega arith
some_wait (suc (suc zero)) = omega arith
some_wait (suc (suc (suc zero))) = omega arith
some_wait (suc (suc (suc (suc zero)))) = omega arith
some_wait (suc (suc (suc (suc (suc n))))) = omega arith

-- whoever has sent at a time waits longer than that
pub waits_on : (now repeats : ℕ) → now < due_from (record { sent = now; repeats = repeats })
waits_on now repeats = let longer = some_wait repeats in omega arith

pub later_than : (now from count sent : ℕ) → (nat_le from now && nat_lt count sent) ≡ false → (nat_le from now && nat_le sent count) ≡ false → now < from
later_than now from count sent not_due not_over = grind (arith, nat_tests, not_due, not_over)

one_left : (b : Bool) (count most : ℕ) → (b && nat_lt count most) ≡ true → count + 1 ≤ most
one_left true count most is = grind (arith, nat_tests, is)
one_left false count most is = absurd cc

-- a request waits, since this time or an earlier one
abbrev InTime : ℕ → Request → Type 0
InTime now r = (now < due_from r.timer) × (r.timer.sent ≤ now) × (r.timer.repeats ≤ length waits)

after_this : (earlier now : ℕ) (r : Request) (due : Bool) → earlier ≤ now → r.timer.sent ≤ earlier → r.timer.repeats ≤ length waits → is_due now r ≡ due → is_unanswered now r ≡ false
    → InTime now (cond due (record r { timer = record { sent = now; repeats = r.timer.repeats + 1 } }) r)
after_this earlier now r true less sent often is answered = (waits_on now (r.timer.repeats + 1), omega arith, one_left (nat_le (due_from r.timer) now) r.timer.repeats (length waits) is)
after_this earlier now r false less sent often is answered = (later_than now (due_from r.timer) r.timer.repeats (length waits) is answered, omega (arith, less, sent), often)

pub not_passed : (p : Request → Bool) (es : List (ℕ × Request)) (n : ℕ) (r : Request) (b : Bool) → find n es ≡ Some r → p r ≡ b → list_any (λ e. p e.1) es ≡ false → b ≡ false
not_passed p es n r true there passes none = sym (found_any p es n r there passes) ∙ none
not_passed p es n r false there passes none = refl

waits_still : (earlier now : ℕ) (a : Association) (n : ℕ) (o : Option Request) (r : Request) → earlier ≤ now → HasBegun earlier a → has_failed now a ≡ false → numbers.get a.outgoing.outstanding n ≡ o
    → option_map (after_sending now) o ≡ Some r → InTime now r
waits_still earlier now a n None r less begun answered there same = absurd (none-some r same)
waits_still earlier now a n (Some q) r less begun answered there same =
    let unfailed : is_unanswered now q ≡ false = not_passed (is_unanswered now) (outstanding_of a) n q (is_unanswered now q) (sym (numbers.get-entries a.outgoing.outstanding n) ∙ there) refl answered in
    let is : after_sending now q ≡ r = cc in
    subst (λ (x : Request). InTime now x) is (after_this earlier now q (is_due now q) less (begun.sent n q there) (begun.often n q there) refl unfailed)

sent_on : (earlier now : ℕ) (a b : Association) → earlier ≤ now → HasBegun earlier a → is_over now a.phase ≡ false → has_failed now a ≡ false → SendsAgain now a b → IsInTime now b
sent_on earlier now a b less begun held answered is =
    let waits = λ (n : ℕ) (r : Request) (there : numbers.get b.outgoing.outstanding n ≡ Some r).
    waits_still earlier now a n (numbers.get a.outgoing.outstanding n) r less begun answered refl (sym (is.each n) ∙ there) in
    let since : began b.phase ≡ began a.phase = ap (λ (x : Association). began x.phase) is.content in
    record {
      nothing_due = record { held = ap (λ (x : Association). is_over now x.phase) is.content ∙ held; none_due = λ n r there. (waits n r there).0 };
      begun = record { since = omega (arith, since, begun.since, less); sent = λ n r there. (waits n r there).1; often = λ n r there. (waits n r there).2 };
    }

pub closed_on : (now : ℕ) (a b : Association) (table after : Database) → Closes a table now b after → IsInTime now b
closed_on now a b table after is =
    let none = λ (n : ℕ) (r : Request) (there : numbers.get b.outgoing.outstanding n ≡ Some r).
    none-some r (sym (ap (λ (x : Association). numbers.get x.outgoing.outstanding n) is.content ∙ ap (λ o. numbers.get o.outstanding n) is.requests.content ∙ numbers.get-empty {X = Request} nat_cmp n) ∙ there) in
    let since : began b.phase ≡ now = ap (λ (x : Association). began x.phase) is.content in
    record {
      nothing_due = record { held = ap (λ (x : Association). is_over now x.phase) is.content ∙ closed_now now; none_due = λ n r there. absurd (none n r there) };
      begun = record { since = omega (arith, since); sent = λ n r there. absurd (none n r there); often = λ n r there. absurd (none n r there) };
    }

one_timely : (over failed : Bool) (earlier now : ℕ) (a : Association) (table : Database) (sent : List Resent) (closed : List ℕ) (held : List Association) (after : Database) → earlier ≤ now → HasBegun earlier a → is_over now a.phase ≡ over
    → has_failed now a ≡ failed → PassesBy over failed now a table sent closed held after → AllByRecursion (IsInTime now) held
one_timely true failed earlier now a table sent closed held after less begun holds fails is = subst (AllByRecursion (IsInTime now)) (sym is.2) tt
one_timely false true earlier now a table sent closed held after less begun holds fails is = subst (AllByRecursion (IsInTime now)) (sym is.4) (closed_on now a is.0 table after is.1, tt)
one_timely false false earlier now a table sent closed held after less begun holds fails is = subst (AllByRecursion (IsInTime now)) (sym is.4) (sent_on earlier now a is.0 less begun holds fails is.1, tt)

all_both : {X : Type 0} (P : X → Type 0) (xs ys : List X) → AllByRecursion P xs → AllByRecursion P ys → AllByRecursion P (xs ++ ys)
all_both P [] ys one other = other
all_both P (x ∷ xs) ys one other = (one.0, all_both P xs ys one.1 other)

all_timely : (earlier now : ℕ) (old : List Association) (table : Database) (sent : List Resent) (closed : List ℕ) (new : List Association) (after : Database) → earlier ≤ now → AllByRecursion (HasBegun earlier) old
    → PassAll now old table sent closed new after → AllByRecursion (IsInTime now) new
all_timely earlier now [] table sent closed new after less begun is = subst (AllByRecursion (IsInTime now)) (sym is.2) tt
all_timely earlier now (a ∷ rest) table sent closed new after less begun is =
    subst (AllByRecursion (IsInTime now)) (sym is.held_all)
    (all_both (IsInTime now) is.held_first is.held_rest
    (one_timely (is_over now a.phase) (has_failed now a) earlier now a table is.sent_first is.closed_first is.held_first is.between less begun.0 refl refl is.passes.done)
    (all_timely earlier now rest is.between is.sent_rest is.closed_rest is.held_rest after less begun.1 is.others))

pub nothing_left : (earlier now : ℕ) (old : List Association) (table : Database) (ticked : Ticked) (new : List Association) (new_table : Database) → earlier ≤ now → All (HasBegun earlier) old → Ticks now old table ticked new new_table
    → All (IsInTime now) new
nothing_left earlier now old table ticked new new_table less begun is =
    All-from_recursion (IsInTime now) new (all_timely earlier now old table ticked.requests ticked.closed new new_table less (recursion_from_All (HasBegun earlier) old begun) is)

-- ---- whose SA pairs go

spi_pairs : (Held : ℕ → Type 0) (old new : Database) → GivesUpSpis Held old new → new.pairs ≡ old.pairs
spi_pairs Held old new is = ap (λ (d : Database). d.pairs) is.content

none_in : (x : ℕ) → Contains [] x → ⊥
none_in x is = omega (arith, is.1)

one_in : (serial x i : ℕ) → i < 1 → slice_index_or (serial ∷ []) i x ≡ x → x ≡ serial
one_in serial x zero less is = sym is
one_in serial x (suc i) less is = absurd (omega arith)

only_in : (serial x : ℕ) → Contains (serial ∷ []) x → x ≡ serial
only_in serial x is = one_in serial x is.0 is.1 is.2

in_only : (serial x : ℕ) → x ≡ serial → Contains (serial ∷ []) x
in_only serial x same = subst (λ (y : ℕ). Contains (serial ∷ []) y) (sym same) (0, omega arith, refl)

none_goes : (closed : List ℕ) (old new : Database) → closed ≡ [] → new ≡ old → LeavesPairsBut closed old new
none_goes closed old new none same serial pair = (
  λ there. (subst (λ (d : Database). pair_at d.pairs serial ≡ Some pair) same there, λ is. none_in pair.ike (subst (λ (xs : List ℕ). Contains xs pair.ike) none is)),
  λ both. subst (λ (d : Database). pair_at d.pairs serial ≡ Some pair) (sym same) both.0,
)

its_go : (closed : List ℕ) (ike : ℕ) (Held : ℕ → Type 0) (old between new : Database) → closed ≡ ike ∷ [] → GivesUpSpis Held old between → RemovesAllOf between ike new → LeavesPairsBut closed old new
its_go closed ike Held old between new one released removed serial pair =
    let same = spi_pairs Held old between released in (
      λ there.
          (let both = (removed.kept serial pair).0 there in
          (sym (ap (λ m. pair_at m serial) same) ∙ both.0, λ is. both.1 (only_in ike pair.ike (subst (λ (xs : List ℕ). Contains xs pair.ike) one is)))),
      λ both. (removed.kept serial pair).1
          (ap (λ m. pair_at m serial) same ∙ both.0, λ is. both.1 (subst (λ (xs : List ℕ). Contains xs pair.ike) (sym one) (in_only ike pair.ike is))),
    )

one_goes : (over failed : Bool) (now : ℕ) (a : Association) (table : Database) (sent : List Resent) (closed : List ℕ) (held : List Association) (after : Database) → PassesBy over failed now a table sent closed held after
    → LeavesPairsBut closed table after
one_goes true failed now a table sent closed held after is = none_goes closed table after is.1 is.3
one_goes false true now a table sent closed held after is = its_go closed a.serial (HoldsSpi a) table is.1.between after is.3 is.1.released is.1.removed
one_goes false false now a table sent closed held after is = none_goes closed table after is.3 is.5

both_go : (one other all : List ℕ) (a b c : Database) → all ≡ one ++ other → LeavesPairsBut one a b → LeavesPairsBut other b c → LeavesPairsBut all a c
both_go one other all a b c is first second serial pair = (
  λ there.
      (let late = (second serial pair).0 there in
      let early = (first serial pair).0 late.0 in
      (early.0, λ has. elim (Contains-append_cases one other pair.ike (subst (λ (xs : List ℕ). Contains xs pair.ike) is has)) [ inl before ↦ early.1 before | inr after ↦ late.1 after ])),
  λ both.
      (second serial pair).1 (
        (first serial pair).1 (both.0, λ has. both.1 (subst (λ (xs : List ℕ). Contains xs pair.ike) (sym is) (Contains-append_left one other pair.ike has))),
        λ has. both.1 (subst (λ (xs : List ℕ). Contains xs pair.ike) (sym is) (Contains-append_right one other pair.ike has)),
      ),
)

all_go : (now : ℕ) (old : List Association) (table : Database) (sent : List Resent) (closed : List ℕ) (new : List Association) (after : Database) → PassAll now old table sent closed new after → LeavesPairsBut closed table after
all_go now [] table sent closed new after is = none_goes closed table after is.1 is.3
all_go now (a ∷ rest) table sent closed new after is =
    both_go is.closed_first is.closed_rest closed table is.between after is.closed_all
    (one_goes (is_over now a.phase) (has_failed now a) now a table is.sent_first is.closed_first is.held_first is.between is.passes.done)
    (all_go now rest is.between is.sent_rest is.closed_rest is.held_rest after is.others)

pub pairs_go : (now : ℕ) (old : List Association) (table : Database) (ticked : Ticked) (new : List Association) (new_table : Database) → Ticks now old table ticked new new_table → LeavesPairsBut ticked.closed table new_table
pairs_go now old table ticked new new_table is = all_go now old table ticked.requests ticked.closed new new_table is

-- who is gone was asked
pub gone_was_asked : (now : ℕ) (a : Association) → has_failed now a ≡ true → SomeOutstanding a.outgoing.outstanding (λ (r : Request) (b : Bool). is_unanswered now r ≡ b)
gone_was_asked now a is =
    let found = any_found (is_unanswered now) (outstanding_of a) (numbers.entries_sorted a.outgoing.outstanding) is in
    record { number = found.number; request = found.value; there = numbers.get-entries a.outgoing.outstanding found.number ∙ found.there; passes = found.passes }
