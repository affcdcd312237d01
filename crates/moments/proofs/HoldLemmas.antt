-- What a tick leaves of the IKE SAs and of the table.
use Rattle.std.proofs.Common.{◌≡◌, inl, inr, ℕ, suc, ◌+◌, ◌++◌, ◌∷◌, [], Bool, true, false, List, Option, Some, None, ap, refl, subst, sym, ◌∙◌}
use Rattle.std.specs.FinMap as map
use Rattle.std.specs.Option.{option_map}
use Rattle.std.specs.Ordering.{nat_cmp}
use Rattle.std.specs.Prelude.{if◌then◌else◌}
use Rattle.sadb.specs.Database.{Database, IsReserved, RemovesAllOf}
use Rattle.association.specs.Closing.{Closes, GivesUpSpis, HoldsSpi}
use Rattle.association.specs.declared.phase.Association.{Association}
use Rattle.association.specs.declared.phase.Request.{Request}
use Rattle.moments.specs.Due.{after_sending, has_failed, is_due, is_over, SendsAgain}
use Rattle.moments.specs.Holding.{HoldSome, HoldsNone, HoldsOn, LeavesFewer, WasOutstanding}
use Rattle.moments.specs.Ticking.{PassAll, PassesBy}
use Rattle.moments.specs.declared.resent.Resent.{Resent}

-- ---- one IKE SA

same_octets : (now : ℕ) (due : Bool) (r : Request) → (if due then record r { timer = record { sent = now; repeats = r.timer.repeats + 1 } } else r).octets ≡ r.octets
same_octets now true r = refl
same_octets now false r = refl

same_purpose : (now : ℕ) (due : Bool) (r : Request) → (if due then record r { timer = record { sent = now; repeats = r.timer.repeats + 1 } } else r).purpose ≡ r.purpose
same_purpose now true r = refl
same_purpose now false r = refl

sent_was : (now number : ℕ) (a : Association) (request : Request) (o : Option Request) → map.get a.outgoing.outstanding number ≡ o → option_map (after_sending now) o ≡ Some request → WasOutstanding a number request
sent_was now number a request None there e = absurd cc
sent_was now number a request (Some was) there e =
    let is : after_sending now was ≡ request = cc in
    record {
      was = was;
      there = there;
      octets = ap (λ (r : Request). r.octets) (sym is) ∙ same_octets now (is_due now was) was;
      purpose = ap (λ (r : Request). r.purpose) (sym is) ∙ same_purpose now (is_due now was) was;
    }

sends_on : (now : ℕ) (a b : Association) → has_failed now a ≡ false → SendsAgain now a b → HoldsOn now a b
sends_on now a b alive is =
    record {
      serial = ap (λ (x : Association). x.serial) is.content;
      role = ap (λ (x : Association). x.role) is.content;
      spi_i = ap (λ (x : Association). x.spi_i) is.content;
      spi_r = ap (λ (x : Association). x.spi_r) is.content;
      incoming = ap (λ (x : Association). x.incoming) is.content;
      next = ap (λ (x : Association). x.outgoing.next) is.content;
      answered = ap (λ (x : Association). x.outgoing.answered) is.content;
      window = ap (λ (x : Association). x.outgoing.window) is.content;
      requests = λ number request there. sent_was now number a request (map.get a.outgoing.outstanding number) refl (sym (is.each number) ∙ there);
      phase = inl (alive, ap (λ (x : Association). x.phase) is.content);
    }

none_there : (number : ℕ) (request : Request) → map.get {R = nat_cmp} (map.empty {X = Request}) number ≡ Some request → ⊥
none_there number request there = let none : map.get {R = nat_cmp} (map.empty {X = Request}) number ≡ None = map.get-empty nat_cmp number in cc

closes_on : (now : ℕ) (a b : Association) (table new_table : Database) → has_failed now a ≡ true → Closes a table now b new_table → HoldsOn now a b
closes_on now a b table new_table failed is =
    record {
      serial = ap (λ (x : Association). x.serial) is.content;
      role = ap (λ (x : Association). x.role) is.content;
      spi_i = ap (λ (x : Association). x.spi_i) is.content;
      spi_r = ap (λ (x : Association). x.spi_r) is.content;
      incoming = ap (λ (x : Association). x.incoming) is.content;
      next = ap (λ r. r.next) is.requests.content;
      answered = ap (λ r. r.answered) is.requests.content;
      window = ap (λ r. r.window) is.requests.content;
      requests = λ number request there. absurd (none_there number request (sym (ap (λ o. map.get o number) (ap (λ r. r.outstanding) is.requests.content)) ∙ there));
      phase = inr (record { failed = failed; requests = is.requests; content = is.content });
    }

-- what becomes of the first, before others that are held
first_held : (over failed : Bool) (now : ℕ) (a : Association) (rest : List Association) (table : Database) (sent : List Resent) (closed : List ℕ) (held others : List Association) (between : Database)
    → has_failed now a ≡ failed → PassesBy over failed now a table sent closed held between → HoldSome now rest others → HoldSome now (a ∷ rest) (held ++ others)
first_held true failed now a rest table sent closed held others between is passes some =
    inl (subst (λ xs. HoldSome now rest (xs ++ others)) (sym passes.2) some)
first_held false true now a rest table sent closed held others between is passes some =
    subst (λ xs. HoldSome now (a ∷ rest) (xs ++ others)) (sym passes.4) (inr (closes_on now a passes.0 table between is passes.1, some))
first_held false false now a rest table sent closed held others between is passes some =
    subst (λ xs. HoldSome now (a ∷ rest) (xs ++ others)) (sym passes.4) (inr (sends_on now a passes.0 is passes.1, some))

pub some_held : (now : ℕ) (old : List Association) (table : Database) (sent : List Resent) (closed : List ℕ) (new : List Association) (new_table : Database)
    → PassAll now old table sent closed new new_table → HoldSome now old new
some_held now [] table sent closed new new_table is = is.2
some_held now (a ∷ rest) table sent closed new new_table is =
    subst (λ xs. HoldSome now (a ∷ rest) xs) (sym is.held_all)
    (first_held (is_over now a.phase) (has_failed now a) now a rest table is.sent_first is.closed_first is.held_first is.held_rest is.between refl is.passes.done
    (some_held now rest is.between is.sent_rest is.closed_rest is.held_rest new_table is.others))

-- ---- the table

all_left : (table : Database) → LeavesFewer table table
all_left table = record { start = refl; given = refl; next = refl; each = λ serial pair there. there }

left_twice : (old between new : Database) → LeavesFewer old between → LeavesFewer between new → LeavesFewer old new
left_twice old between new first second =
    record {
      start = second.start ∙ first.start;
      given = second.given ∙ first.given;
      next = second.next ∙ first.next;
      each = λ serial pair there. first.each serial pair (second.each serial pair there);
    }

given_up_left : (Held : ℕ → Type 0) (old new : Database) → GivesUpSpis Held old new → LeavesFewer old new
given_up_left Held old new is =
    subst (λ (d : Database). LeavesFewer old d) (sym is.content) (record { start = refl; given = refl; next = refl; each = λ serial pair there. there })

removed_left : (old : Database) (ike : ℕ) (new : Database) → RemovesAllOf old ike new → LeavesFewer old new
removed_left old ike new is =
    record {
      start = ap (λ (d : Database). d.start) is.content;
      given = ap (λ (d : Database). d.given) is.content;
      next = ap (λ (d : Database). d.next) is.content;
      each = λ serial pair there. ((is.kept serial pair).0 there).0;
    }

closed_left : (a : Association) (old : Database) (now : ℕ) (b : Association) (new : Database) → Closes a old now b new → LeavesFewer old new
closed_left a old now b new is =
    left_twice old is.between new (given_up_left (HoldsSpi a) old is.between is.released) (removed_left is.between a.serial new is.removed)

same_left : (old new : Database) → new ≡ old → LeavesFewer old new
same_left old new same = subst (λ (d : Database). LeavesFewer old d) (sym same) (all_left old)

first_left : (over failed : Bool) (now : ℕ) (a : Association) (table : Database) (sent : List Resent) (closed : List ℕ) (held : List Association) (new_table : Database)
    → PassesBy over failed now a table sent closed held new_table → LeavesFewer table new_table
first_left true failed now a table sent closed held new_table is = same_left table new_table is.3
first_left false true now a table sent closed held new_table is = closed_left a table now is.0 new_table is.1
first_left false false now a table sent closed held new_table is = same_left table new_table is.5

pub fewer_left : (now : ℕ) (old : List Association) (table : Database) (sent : List Resent) (closed : List ℕ) (new : List Association) (new_table : Database)
    → PassAll now old table sent closed new new_table → LeavesFewer table new_table
fewer_left now [] table sent closed new new_table is = same_left table new_table is.3
fewer_left now (a ∷ rest) table sent closed new new_table is =
    left_twice table is.between new_table
    (first_left (is_over now a.phase) (has_failed now a) now a table is.sent_first is.closed_first is.held_first is.between is.passes.done)
    (fewer_left now rest is.between is.sent_rest is.closed_rest is.held_rest new_table is.others)

-- ---- what is reserved

clash : (b : Bool) → b ≡ true → b ≡ false → ⊥
clash true one other = cc
clash false one other = cc

first_reserved : (over failed : Bool) (now : ℕ) (a : Association) (table : Database) (sent : List Resent) (closed : List ℕ) (held : List Association) (new_table : Database) (spi : ℕ)
    → (failed ≡ true → ¬ HoldsSpi a spi) → PassesBy over failed now a table sent closed held new_table → IsReserved table spi → IsReserved new_table spi
first_reserved true failed now a table sent closed held new_table spi apart is kept = subst (λ (d : Database). IsReserved d spi) (sym is.3) kept
first_reserved false true now a table sent closed held new_table spi apart is kept =
    let over = is.1 in
    subst (λ (d : Database). IsReserved d spi) (sym over.removed.content) ((over.released.reserved spi).1 (kept, apart refl))
first_reserved false false now a table sent closed held new_table spi apart is kept = subst (λ (d : Database). IsReserved d spi) (sym is.5) kept

pub still_reserved : (now : ℕ) (old : List Association) (table : Database) (sent : List Resent) (closed : List ℕ) (new : List Association) (new_table : Database) (spi : ℕ)
    → HoldsNone now old spi → IsReserved table spi → PassAll now old table sent closed new new_table → IsReserved new_table spi
still_reserved now [] table sent closed new new_table spi none kept is = subst (λ (d : Database). IsReserved d spi) (sym is.3) kept
still_reserved now (a ∷ rest) table sent closed new new_table spi none kept is =
    still_reserved now rest is.between is.sent_rest is.closed_rest is.held_rest new_table spi
    (λ place other there holds. none (suc place) other there holds)
    (first_reserved (is_over now a.phase) (has_failed now a) now a table is.sent_first is.closed_first is.held_first is.between spi
    (λ failed holds. clash (has_failed now a) failed (none 0 a refl holds)) is.passes.done kept)
    is.others
