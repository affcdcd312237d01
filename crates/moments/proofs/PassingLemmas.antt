-- One IKE SA after the other, each in its place.
use Rattle.std.proofs.Common.{◌≡◌, ◌+◌, ◌<◌, ◌≤◌, ◌++◌, ◌∷◌, [], ℕ, suc, List, length, take, drop, get_or, Bool, true, false, not, cond, arith, sym, ap, ◌∙◌, refl, subst, add-one, drop-cons, nat_le, set}
use Rattle.std.proofs.lemmas.List.{drop-set-lt, get_or-drop, take_all, take_more, take_more_set}
use Rattle.std.specs.List.{flat_map}
use Rattle.std.proofs.lemmas.Bool.Decides.{nat_tests}
use Rattle.sadb.specs.Database.{Database, IsReserved, RemovesAllOf}
use Rattle.association.specs.Closing.{Closes, HoldsReserved, HoldsSpi}
use Rattle.association.specs.declared.phase.Association.{Association}
use Rattle.moments.specs.Due.{closed_by, closed_of, has_failed, held_of, is_over, sent_by, sent_of, CLOSED_TIME}
use Rattle.moments.specs.Passing.{BecomeAll, Becomes, BecomesBy}
use Rattle.moments.specs.declared.resent.Resent.{Resent}
use Rattle.moments.specs.Ticking.{HoldTheirSpis, PassAll, PassesBy}

-- ---- what the others hold

removal_keeps : (old : Database) (ike : ℕ) (new : Database) (q : ℕ) → RemovesAllOf old ike new → IsReserved old q → IsReserved new q
removal_keeps old ike new q is there = subst (λ d. IsReserved d q) (sym is.content) there

closing_keeps : (old : Association) (table : Database) (now : ℕ) (new : Association) (new_table : Database) (q : ℕ) → ¬ HoldsSpi old q → Closes old table now new new_table → IsReserved table q → IsReserved new_table q
closing_keeps old table now new new_table q apart is there = removal_keeps is.between old.serial new_table q is.removed ((is.released.reserved q).1 (there, apart))

becoming_keeps : (over failed : Bool) (now : ℕ) (old : Association) (table : Database) (new : Association) (new_table : Database) (q : ℕ) → ¬ HoldsSpi old q → BecomesBy over failed now old table new new_table
    → IsReserved table q → IsReserved new_table q
becoming_keeps true failed now old table new new_table q apart is there = subst (λ d. IsReserved d q) (sym is.1) there
becoming_keeps false true now old table new new_table q apart is there = closing_keeps old table now new new_table q apart is there
becoming_keeps false false now old table new new_table q apart is there = subst (λ d. IsReserved d q) (sym is.1) there

still_held : (other : Association) (now : ℕ) (old : Association) (table : Database) (new : Association) (new_table : Database) → ((q : ℕ) → HoldsSpi other q → ¬ HoldsSpi old q) → Becomes now old table new new_table
    → HoldsReserved other table → HoldsReserved other new_table
still_held other now old table new new_table apart is holds = record {
  reserved = λ q its. becoming_keeps (is_over now old.phase) (has_failed now old) now old table new new_table q (apart q its) is.done (holds.reserved q its);
  first = holds.first;
  one = holds.one;
}

others_hold : (now : ℕ) (old : Association) (others : List Association) (table : Database) (new : Association) (new_table : Database) → HoldTheirSpis (old ∷ others) table → Becomes now old table new new_table → HoldTheirSpis others new_table
others_hold now old others table new new_table hold is =
    record {
      reserved = λ place a there. still_held a now old table new new_table (λ q its same. hold.apart 0 (suc place) old a q (omega arith) refl there same its) is (hold.reserved (suc place) a there);
      apart = λ place later a other spi less there further its. hold.apart (suc place) (suc later) a other spi (omega arith) there further its;
    }

-- ---- one more

become_more : (now : ℕ) (xs : List Association) (first : Database) (ys : List Association) (table : Database) (a b : Association) (after : Database) → BecomeAll now xs first ys table → Becomes now a table b after
    → BecomeAll now (xs ++ a ∷ []) first (ys ++ b ∷ []) after
become_more now [] first [] table a b after so_far is = record { between = after; first = subst (λ (d : Database). Becomes now a d b after) so_far is; others = refl }
become_more now [] first (y ∷ ys) table a b after so_far is = absurd so_far
become_more now (x ∷ xs) first [] table a b after so_far is = absurd so_far
become_more now (x ∷ xs) first (y ∷ ys) table a b after so_far is = record { between = so_far.between; first = so_far.first; others = become_more now xs so_far.between ys table a b after so_far.others is }

pub record PassedTo (now i : ℕ) (first : List Association) (first_table : Database) (current : List Association) (table : Database) : Type 0 where
  pub passed : BecomeAll now (take i first) first_table (take i current) table
  pub rest : drop i current ≡ drop i first
  pub hold : HoldTheirSpis (drop i first) table

pub none_passed : (now : ℕ) (first : List Association) (table : Database) → HoldTheirSpis first table → PassedTo now 0 first table first table
none_passed now first table hold = record { passed = refl; rest = refl; hold = hold }

same_at : (first current : List Association) (i : ℕ) (d : Association) → drop i current ≡ drop i first → get_or first i d ≡ get_or current i d
same_at first current i d same =
    let end : i ≡ i + 0 = omega arith in
    ap (λ (n : ℕ). get_or first n d) end ∙ sym (get_or-drop i first 0 d) ∙ ap (λ (xs : List Association). get_or xs 0 d) (sym same) ∙ get_or-drop i current 0 d ∙ ap (λ (n : ℕ). get_or current n d) (sym end)

from_here : (first current : List Association) (i : ℕ) (d : Association) → i < length current → drop i current ≡ drop i first → drop i first ≡ get_or current i d ∷ drop (i + 1) current
from_here first current i d inside same = sym same ∙ rw add-one (drop-cons current i d inside)

tail_of : List Association → List Association
tail_of [] = []
tail_of (x ∷ xs) = xs

rest_behind : (first current : List Association) (i : ℕ) (d : Association) → i < length first → i < length current → drop i current ≡ drop i first → drop (i + 1) current ≡ drop (i + 1) first
unfolding tail_of
rest_behind first current i d inside within same = rw add-one (ap tail_of (sym (drop-cons current i d within) ∙ same ∙ drop-cons first i d inside))

-- the next one holds its SPIs
pub next_holds : (now i : ℕ) (first : List Association) (first_table : Database) (current : List Association) (table : Database) (d : Association) → i < length current → PassedTo now i first first_table current table
    → HoldsReserved (get_or current i d) table
next_holds now i first first_table current table d inside so_far =
    let hold : HoldTheirSpis (get_or current i d ∷ drop (i + 1) current) table = subst (λ (xs : List Association). HoldTheirSpis xs table) (from_here first current i d inside so_far.rest) so_far.hold in
    hold.reserved 0 (get_or current i d) refl

pub one_passed : (now i : ℕ) (first : List Association) (first_table : Database) (current : List Association) (table : Database) (d b : Association) (after : Database) → i < length first → i < length current
    → PassedTo now i first first_table current table → Becomes now (get_or current i d) table b after → PassedTo now (i + 1) first first_table (set current i b) after
one_passed now i first first_table current table d b after inside within so_far is =
    let here = from_here first current i d within so_far.rest in
    let hold : HoldTheirSpis (get_or current i d ∷ drop (i + 1) current) table = subst (λ (xs : List Association). HoldTheirSpis xs table) here so_far.hold in
    let behind : drop (i + 1) current ≡ drop (i + 1) first = rest_behind first current i d inside within so_far.rest in
    let was : take (i + 1) first ≡ take i first ++ get_or current i d ∷ [] = take_more first i d inside ∙ ap (λ (a : Association). take i first ++ a ∷ []) (same_at first current i d so_far.rest) in
    let more = become_more now (take i first) first_table (take i current) table (get_or current i d) b after so_far.passed is in
    record {
      passed = subst (λ (xs : List Association). BecomeAll now xs first_table (take (i + 1) (set current i b)) after) (sym was)
          (subst (λ (ys : List Association). BecomeAll now (take i first ++ get_or current i d ∷ []) first_table ys after) (sym (take_more_set current i b within)) more);
      rest = drop-set-lt (i + 1) current i b (omega arith) ∙ behind;
      hold = subst (λ (xs : List Association). HoldTheirSpis xs after) behind (others_hold now (get_or current i d) (drop (i + 1) current) table b after hold is);
    }

pub all_passed : (now i : ℕ) (first : List Association) (first_table : Database) (current : List Association) (table : Database) → length current ≡ length first → length first ≤ i
    → PassedTo now i first first_table current table → BecomeAll now first first_table current table
all_passed now i first first_table current table long past so_far =
    subst (λ (xs : List Association). BecomeAll now xs first_table current table) (take_all i first past)
    (subst (λ (ys : List Association). BecomeAll now (take i first) first_table ys table) (take_all i current (omega arith)) so_far.passed)

-- ---- what comes of all of them, with those taken out that are over

kept_by : Bool → Association → List Association
kept_by true a = []
kept_by false a = a ∷ []

abbrev pub if_held : Association → List Association → Bool → List Association
if_held a others over = cond (not over) (a ∷ others) others

kept_joins : (over : Bool) (a : Association) (others : List Association) → if_held a others over ≡ kept_by over a ++ others
unfolding kept_by
kept_joins true a others = refl
kept_joins false a others = refl

pub closed_now : (now : ℕ) → nat_le (now + CLOSED_TIME) now ≡ false
closed_now now = grind (arith, nat_tests)

over_stays : (over failed : Bool) (now : ℕ) (old : Association) (table : Database) (new : Association) (new_table : Database) → is_over now old.phase ≡ over → BecomesBy over failed now old table new new_table → is_over now new.phase ≡ over
over_stays true failed now old table new new_table was is = ap (λ (a : Association). is_over now a.phase) is.0 ∙ was
over_stays false true now old table new new_table was is = ap (λ (a : Association). is_over now a.phase) is.content ∙ closed_now now
over_stays false false now old table new new_table was is = ap (λ (a : Association). is_over now a.phase) is.0.content ∙ was

passes_by : (over failed : Bool) (now : ℕ) (old : Association) (table : Database) (new : Association) (new_table : Database) → BecomesBy over failed now old table new new_table
    → PassesBy over failed now old table (sent_by over failed now old) (closed_by over failed old) (kept_by over new) new_table
unfolding kept_by
passes_by true failed now old table new new_table is = (refl, refl, refl, is.1)
passes_by false true now old table new new_table is = (new, is, refl, refl, refl)
passes_by false false now old table new new_table is = (new, is.0, refl, refl, refl, is.1)

pub gathered : (now : ℕ) (old : List Association) (table : Database) (mid : List Association) (new_table : Database) → BecomeAll now old table mid new_table
    → PassAll now old table (flat_map (sent_of now) old) (flat_map (closed_of now) old) (held_of now mid) new_table
gathered now [] table [] new_table is = (refl, refl, refl, is)
gathered now [] table (b ∷ later) new_table is = absurd is
gathered now (a ∷ rest) table [] new_table is = absurd is
gathered now (a ∷ rest) table (b ∷ later) new_table is =
    record {
      sent_first = sent_of now a;
      sent_rest = flat_map (sent_of now) rest;
      closed_first = closed_of now a;
      closed_rest = flat_map (closed_of now) rest;
      held_first = kept_by (is_over now a.phase) b;
      held_rest = held_of now later;
      between = is.between;
      passes = record { done = passes_by (is_over now a.phase) (has_failed now a) now a table b is.between is.first.done };
      others = gathered now rest is.between later new_table is.others;
      sent_all = refl;
      closed_all = refl;
      held_all = ap (if_held b (held_of now later)) (over_stays (is_over now a.phase) (has_failed now a) now a table b is.between refl is.first.done) ∙ kept_joins (is_over now a.phase) b (held_of now later);
    }

pub all_told : (now : ℕ) (old : List Association) (table : Database) (sent : List Resent) (closed : List ℕ) (mid new : List Association) (new_table : Database) → BecomeAll now old table mid new_table
    → sent ≡ flat_map (sent_of now) old → closed ≡ flat_map (closed_of now) old → new ≡ held_of now mid → PassAll now old table sent closed new new_table
all_told now old table sent closed mid new new_table is sends closes holds =
    subst (λ (s : List Resent). PassAll now old table s closed new new_table) (sym sends)
    (subst (λ (c : List ℕ). PassAll now old table (flat_map (sent_of now) old) c new new_table) (sym closes)
    (subst (λ (h : List Association). PassAll now old table (flat_map (sent_of now) old) (flat_map (closed_of now) old) h new_table) (sym holds) (gathered now old table mid new_table is)))
