-- Where something is due, a tick sends, closes or removes something.
use Rattle.std.proofs.Common.{◌≡◌, ◌<◌, ◌≤◌, ◌++◌, ◌∷◌, [], ℕ, List, map, Bool, true, false, cond, Some, arith, sym, ap, ◌∙◌, refl, inl, inr, length, length-append}
use Rattle.std.proofs.lemmas.Bool.Decides.{eqb_tells}
use Rattle.std.proofs.lemmas.Option.{none-some, same_Some}
use Rattle.std.proofs.lemmas.List.Elements.{All-from_recursion}
use Rattle.std.specs.FinMap as numbers
use Rattle.std.specs.List.{filter, AllByRecursion}
use Rattle.requests.specs.Timers.{due_from, waits}
use Rattle.sadb.specs.Database.{Database}
use Rattle.association.specs.declared.phase.Association.{Association}
use Rattle.association.specs.declared.phase.Request.{Request}
use Rattle.moments.specs.Due.{due_of, has_failed, is_due, is_over, is_unanswered, outstanding_of, resent}
use Rattle.moments.specs.Held.{HasNothingDue}
use Rattle.moments.specs.Next.{SomethingIsDue}
use Rattle.moments.specs.Ticking.{PassAll, PassesBy, Ticks}
use Rattle.moments.specs.declared.resent.Resent.{Resent}
use Rattle.moments.specs.declared.ticking.Ticked.{Ticked}
use Rattle.requests.proofs.OrderLemmas.{find, found_further, found_here}
use Rattle.moments.proofs.NextLemmas.{lies_ahead}
use Rattle.moments.proofs.TimelyLemmas.{later_than, not_passed}

no_item : {X : Type 0} (x : X) (xs : List X) → x ∷ xs ≡ [] → ⊥
no_item x xs is = cc

first_empty : {X : Type 0} (xs ys : List X) → xs ++ ys ≡ [] → xs ≡ []
first_empty [] ys is = refl
first_empty (x ∷ xs) ys is = absurd (no_item x (xs ++ ys) is)

rest_empty : {X : Type 0} (xs ys : List X) → xs ++ ys ≡ [] → ys ≡ []
rest_empty [] ys is = is
rest_empty (x ∷ xs) ys is = absurd (no_item x (xs ++ ys) is)

-- where none passes, one that is found does not
none_sent : (f : ℕ × Request → Resent) (p : Request → Bool) (es : List (ℕ × Request)) (n : ℕ) (r : Request) → find n es ≡ Some r → map f (filter (λ e. p e.1) es) ≡ [] → p r ≡ false
none_sent f p [] n r there none = absurd (none-some r there)
none_sent f p (e ∷ es) n r there none =
    elim (p e.1) as (λ b. p e.1 ≡ b → map f (cond b (e ∷ filter (λ e. p e.1) es) (filter (λ e. p e.1) es)) ≡ [] → p r ≡ false) [
      | true ↦ λ its sent. absurd (no_item (f e) (map f (filter (λ e. p e.1) es)) sent)
      | false ↦ λ its sent. elim (eqb_tells e.0 n) [
        | inl (_, same) ↦ (let one : e.1 ≡ r = same_Some e.1 r (sym (found_here n e es same) ∙ there) in sym (ap p one) ∙ its)
        | inr (_, apart) ↦ none_sent f p es n r (sym (found_further n e es apart) ∙ there) sent
      ]
    ] refl none

request_waits : (now : ℕ) (a : Association) → has_failed now a ≡ false → due_of now a ≡ [] → (n : ℕ) (r : Request) → numbers.get a.outgoing.outstanding n ≡ Some r → now < due_from r.timer
request_waits now a answered none n r there =
    let found = sym (numbers.get-entries a.outgoing.outstanding n) ∙ there in
    later_than now (due_from r.timer) r.timer.repeats (length waits)
    (none_sent (resent a) (is_due now) (outstanding_of a) n r found none)
    (not_passed (is_unanswered now) (outstanding_of a) n r (is_unanswered now r) found refl answered)

one_waits : (over failed : Bool) (now : ℕ) (a : Association) (table : Database) (sent : List Resent) (closed : List ℕ) (held : List Association) (after : Database) → is_over now a.phase ≡ over → has_failed now a ≡ failed
    → PassesBy over failed now a table sent closed held after → sent ≡ [] → closed ≡ [] → 1 ≤ length held → HasNothingDue now a
one_waits true failed now a table sent closed held after holds fails is none unclosed some = absurd (let empty = ap length is.2 in omega arith)
one_waits false true now a table sent closed held after holds fails is none unclosed some = absurd (no_item a.serial [] (sym is.3 ∙ unclosed))
one_waits false false now a table sent closed held after holds fails is none unclosed some = record { held = holds; none_due = request_waits now a fails (sym is.2 ∙ none) }

one_at_most : (over failed : Bool) (now : ℕ) (a : Association) (table : Database) (sent : List Resent) (closed : List ℕ) (held : List Association) (after : Database) → PassesBy over failed now a table sent closed held after → length held ≤ 1
one_at_most true failed now a table sent closed held after is = let those = ap length is.2 in omega arith
one_at_most false true now a table sent closed held after is = let those = ap length is.4 in omega arith
one_at_most false false now a table sent closed held after is = let those = ap length is.4 in omega arith

as_many_at_most : (now : ℕ) (old : List Association) (table : Database) (sent : List Resent) (closed : List ℕ) (new : List Association) (after : Database) → PassAll now old table sent closed new after → length new ≤ length old
as_many_at_most now [] table sent closed new after is = let those = ap length is.2 in omega arith
as_many_at_most now (a ∷ rest) table sent closed new after is =
    let here = one_at_most (is_over now a.phase) (has_failed now a) now a table is.sent_first is.closed_first is.held_first is.between is.passes.done in
    let others = as_many_at_most now rest is.between is.sent_rest is.closed_rest is.held_rest after is.others in
    let both = ap length is.held_all ∙ length-append is.held_first is.held_rest in
    omega arith

all_wait : (now : ℕ) (old : List Association) (table : Database) (sent : List Resent) (closed : List ℕ) (new : List Association) (after : Database) → PassAll now old table sent closed new after → sent ≡ [] → closed ≡ [] → length old ≤ length new
    → AllByRecursion (HasNothingDue now) old
all_wait now [] table sent closed new after is none unclosed many = tt
all_wait now (a ∷ rest) table sent closed new after is none unclosed many =
    let here = one_at_most (is_over now a.phase) (has_failed now a) now a table is.sent_first is.closed_first is.held_first is.between is.passes.done in
    let others = as_many_at_most now rest is.between is.sent_rest is.closed_rest is.held_rest after is.others in
    let both = ap length is.held_all ∙ length-append is.held_first is.held_rest in
    let unsent = sym is.sent_all ∙ none in
    let open_yet = sym is.closed_all ∙ unclosed in
    let one : 1 ≤ length is.held_first = omega arith in
    let more : length rest ≤ length is.held_rest = omega arith in (
      one_waits (is_over now a.phase) (has_failed now a) now a table is.sent_first is.closed_first is.held_first is.between refl refl is.passes.done
          (first_empty is.sent_first is.sent_rest unsent) (first_empty is.closed_first is.closed_rest open_yet) one,
      all_wait now rest is.between is.sent_rest is.closed_rest is.held_rest after is.others (rest_empty is.sent_first is.sent_rest unsent) (rest_empty is.closed_first is.closed_rest open_yet) more,
    )

never_before_itself : (now : ℕ) → now < now → ⊥
never_before_itself now less = omega arith

pub something_comes : (now : ℕ) (old new : List Association) (table new_table : Database) (ticked : Ticked) → SomethingIsDue now old → Ticks now old table ticked new new_table
    → (ticked.requests ≡ []) × (ticked.closed ≡ []) × (length new ≡ length old) → ⊥
something_comes now old new table new_table ticked some is nothing =
    let many : length old ≤ length new = let same = nothing.2 in omega arith in
    never_before_itself now (lies_ahead now now old (All-from_recursion (HasNothingDue now) old (all_wait now old table ticked.requests ticked.closed new new_table is nothing.0 nothing.1 many)) some)
