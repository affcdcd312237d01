-- What a tick leaves of what is held, and whose requests go out again.
use Rattle.std.proofs.Common.{◌≡◌, ◌+◌, ◌<◌, ◌++◌, ◌∷◌, ◌&&◌, [], ℕ, List, map, nat_le, Bool, true, false, cond, Option, Some, None, All, Contains, arith, sym, ap, ◌∙◌, refl, inl, inr, subst, ◌≤◌, length, length-append}
use Rattle.std.proofs.lemmas.Bool.Decides.{nat_tests}
use Rattle.std.proofs.lemmas.List.{length-map}
use Rattle.std.proofs.lemmas.List.Sums.{sum_by-cons}
use Rattle.std.proofs.lemmas.List.Elements.{All-contains, All-from_recursion, recursion_from_All, Contains-append_left, Contains-append_right}
use Rattle.std.specs.FinMap as numbers
use Rattle.std.specs.List.{filter, AllByRecursion, AllZip}
use Rattle.std.specs.Option.{option_map}
use Rattle.std.specs.Ordering.{nat_cmp}
use Rattle.requests.specs.Timers.{due_from}
use Rattle.sadb.specs.Database.{Database}
use Rattle.association.specs.Phases.{keys_in}
use Rattle.association.specs.declared.phase.Association.{Association}
use Rattle.association.specs.declared.phase.Request.{Request}
use Rattle.moments.specs.Due.{after_sending, closed_by, closed_of, due_of, has_failed, held_of, is_due, is_over, is_unanswered, outstanding_count, outstanding_of, resent, sent_by, sent_of, SendsAgain, SomethingComes}
use Rattle.moments.specs.Held.{HasNothingDue, IsOutstandingOf, StaysItself}
use Rattle.moments.specs.Ticking.{PassAll, Passes, PassesBy, Ticks}
use Rattle.moments.specs.declared.resent.Resent.{Resent}
use Rattle.moments.specs.declared.ticking.Ticked.{Ticked}
use Rattle.moments.proofs.DueLemmas.{due_among}
use Rattle.requests.proofs.EntryLemmas.{same_map}
use Rattle.requests.proofs.OrderLemmas.{filtered_none, find, found_here, found_later, found_none, in_order_after, IsInOrder}
use Rattle.moments.proofs.PassingLemmas.{if_held}

-- ---- what is held

abbrev pub AreAmong : {X : Type 0} → List X → List X → Type 0
AreAmong {X} some all = (x : X) → Contains some x → Contains all x

among_first : {X : Type 0} (some others both all : List X) → both ≡ some ++ others → AreAmong both all → AreAmong some all
among_first some others both all is among = λ x there. among x (subst (λ xs. Contains xs x) (sym is) (Contains-append_left some others x there))

among_others : {X : Type 0} (some others both all : List X) → both ≡ some ++ others → AreAmong both all → AreAmong others all
among_others some others both all is among = λ x there. among x (subst (λ xs. Contains xs x) (sym is) (Contains-append_right some others x there))

only_one : {X : Type 0} (some all : List X) (x : X) → some ≡ x ∷ [] → AreAmong some all → Contains all x
only_one some all x is among = among x (subst (λ xs. Contains xs x) (sym is) (0, omega arith, refl))

one_stays : (now : ℕ) (all : List ℕ) (over failed : Bool) (a : Association) (table : Database) (sent : List Resent) (closed : List ℕ) (held : List Association) (after : Database) (others later : List Association)
    → has_failed now a ≡ failed → AreAmong closed all → PassesBy over failed now a table sent closed held after → AllZip (StaysItself now all) others later → AllZip (StaysItself now all) (if_held a others over) (held ++ later)
one_stays now all true failed a table sent closed held after others later was among is rest = subst (λ (h : List Association). AllZip (StaysItself now all) others (h ++ later)) (sym is.2) rest
one_stays now all false true a table sent closed held after others later was among is rest =
    subst (λ (h : List Association). AllZip (StaysItself now all) (a ∷ others) (h ++ later)) (sym is.4) (
      record {
        serial = ap (λ (x : Association). x.serial) is.1.content;
        role = ap (λ (x : Association). x.role) is.1.content;
        spi_i = ap (λ (x : Association). x.spi_i) is.1.content;
        spi_r = ap (λ (x : Association). x.spi_r) is.1.content;
        keys = ap (λ (x : Association). keys_in x.phase) is.1.content;
        stays = inr (record { failed = was; requests = is.1.requests; content = is.1.content }, only_one closed all a.serial is.3 among);
      },
      rest,
    )
one_stays now all false false a table sent closed held after others later was among is rest =
    subst (λ (h : List Association). AllZip (StaysItself now all) (a ∷ others) (h ++ later)) (sym is.4) (
      record {
        serial = ap (λ (x : Association). x.serial) is.1.content;
        role = ap (λ (x : Association). x.role) is.1.content;
        spi_i = ap (λ (x : Association). x.spi_i) is.1.content;
        spi_r = ap (λ (x : Association). x.spi_r) is.1.content;
        keys = ap (λ (x : Association). keys_in x.phase) is.1.content;
        stays = inl (was, is.1);
      },
      rest,
    )

all_stay : (now : ℕ) (all : List ℕ) (old : List Association) (table : Database) (sent : List Resent) (closed : List ℕ) (new : List Association) (after : Database) → AreAmong closed all → PassAll now old table sent closed new after
    → AllZip (StaysItself now all) (held_of now old) new
all_stay now all [] table sent closed new after among is = subst (λ (h : List Association). AllZip (StaysItself now all) [] h) (sym is.2) tt
all_stay now all (a ∷ rest) table sent closed new after among is =
    subst (λ (h : List Association). AllZip (StaysItself now all) (held_of now (a ∷ rest)) h) (sym is.held_all)
    (one_stays now all (is_over now a.phase) (has_failed now a) a table is.sent_first is.closed_first is.held_first is.between (held_of now rest) is.held_rest refl
    (among_first is.closed_first is.closed_rest closed all is.closed_all among) is.passes.done
    (all_stay now all rest is.between is.sent_rest is.closed_rest is.held_rest after (among_others is.closed_first is.closed_rest closed all is.closed_all among) is.others))

pub held_stay : (now : ℕ) (old new : List Association) (table new_table : Database) (ticked : Ticked) → Ticks now old table ticked new new_table → AllZip (StaysItself now ticked.closed) (held_of now old) new
held_stay now old new table new_table ticked is = all_stay now ticked.closed old table ticked.requests ticked.closed new new_table (λ x there. there) is

-- ---- what goes out again

all_append : {X : Type 0} (P : X → Type 0) (xs ys : List X) → AllByRecursion P xs → AllByRecursion P ys → AllByRecursion P (xs ++ ys)
all_append P [] ys one other = other
all_append P (x ∷ xs) ys one other = (one.0, all_append P xs ys one.1 other)

each_due : (P : Resent → Type 0) (now : ℕ) (a : Association) (es : List (ℕ × Request)) → IsInOrder es → ((n : ℕ) (r : Request) → find n es ≡ Some r → is_due now r ≡ true → P (resent a (n, r))) → AllByRecursion P (due_among now a es)
each_due P now a [] order holds = tt
each_due P now a (e ∷ es) order holds =
    let rest = each_due P now a es (in_order_after e es order) (λ n r there. holds n r (found_later e es n r order there)) in
    elim (is_due now e.1) as (λ b. is_due now e.1 ≡ b → AllByRecursion P (map (resent a) (cond b (e ∷ filter (λ e. is_due now e.1) es) (filter (λ e. is_due now e.1) es)))) [
      | true ↦ λ its. (holds e.0 e.1 (found_here e.0 e es refl) its, rest)
      | false ↦ λ its. rest
    ] refl

first_due : (now : ℕ) (all_old all_new : List Association) (over failed : Bool) (a : Association) (table : Database) (sent : List Resent) (closed : List ℕ) (held : List Association) (after : Database)
    → Contains all_old a → AreAmong held all_new → PassesBy over failed now a table sent closed held after → AllByRecursion (IsOutstandingOf now all_old all_new) sent
first_due now all_old all_new true failed a table sent closed held after there among is = subst (AllByRecursion (IsOutstandingOf now all_old all_new)) (sym is.0) tt
first_due now all_old all_new false true a table sent closed held after there among is = subst (AllByRecursion (IsOutstandingOf now all_old all_new)) (sym is.2) tt
first_due now all_old all_new false false a table sent closed held after there among is =
    subst (AllByRecursion (IsOutstandingOf now all_old all_new)) (sym is.2)
    (each_due (IsOutstandingOf now all_old all_new) now a (outstanding_of a) (numbers.entries_sorted a.outgoing.outstanding) (λ n r found due.
    (let stands = numbers.get-entries a.outgoing.outstanding n ∙ found in
    record {
      before = a;
      after = is.0;
      request = r;
      held_before = there;
      held_after = only_one held all_new is.0 is.4 among;
      same = is.1;
      there = stands;
      due = due;
      resent = refl;
      still_there = is.1.each n ∙ ap (option_map (after_sending now)) stands;
    })))

all_due : (now : ℕ) (all_old all_new : List Association) (old : List Association) (table : Database) (sent : List Resent) (closed : List ℕ) (new : List Association) (after : Database) → AreAmong old all_old → AreAmong new all_new
    → PassAll now old table sent closed new after → AllByRecursion (IsOutstandingOf now all_old all_new) sent
all_due now all_old all_new [] table sent closed new after from into is = subst (AllByRecursion (IsOutstandingOf now all_old all_new)) (sym is.0) tt
all_due now all_old all_new (a ∷ rest) table sent closed new after from into is =
    subst (AllByRecursion (IsOutstandingOf now all_old all_new)) (sym is.sent_all)
    (all_append (IsOutstandingOf now all_old all_new) is.sent_first is.sent_rest
    (first_due now all_old all_new (is_over now a.phase) (has_failed now a) a table is.sent_first is.closed_first is.held_first is.between (from a (0, omega arith, refl))
    (among_first is.held_first is.held_rest new all_new is.held_all into) is.passes.done)
    (all_due now all_old all_new rest is.between is.sent_rest is.closed_rest is.held_rest after (among_others (a ∷ []) rest (a ∷ rest) all_old refl from)
    (among_others is.held_first is.held_rest new all_new is.held_all into) is.others))

pub sent_outstanding : (now : ℕ) (old new : List Association) (table new_table : Database) (ticked : Ticked) → Ticks now old table ticked new new_table → All (IsOutstandingOf now old new) ticked.requests
sent_outstanding now old new table new_table ticked is =
    All-from_recursion (IsOutstandingOf now old new) ticked.requests (all_due now old new old table ticked.requests ticked.closed new new_table (λ x there. there) (λ x there. there) is)

-- ---- before anything is due

not_yet : (now from : ℕ) (b : Bool) → now < from → (nat_le from now && b) ≡ false
not_yet now from b less = ap (λ c. c && b) (let late : nat_le from now ≡ false = grind (arith, nat_tests, less) in late)

none_found : (now : ℕ) (a : Association) → HasNothingDue now a → (n : ℕ) (r : Request) → find n (outstanding_of a) ≡ Some r → now < due_from r.timer
none_found now a nothing n r there = nothing.none_due n r (numbers.get-entries a.outgoing.outstanding n ∙ there)

has_not_failed : (now : ℕ) (a : Association) → HasNothingDue now a → has_failed now a ≡ false
has_not_failed now a nothing = found_none (is_unanswered now) (outstanding_of a) (numbers.entries_sorted a.outgoing.outstanding) (λ n r there. not_yet now (due_from r.timer) _ (none_found now a nothing n r there))

sends_nothing : (now : ℕ) (a : Association) → HasNothingDue now a → due_of now a ≡ []
sends_nothing now a nothing =
    ap (map (resent a)) (filtered_none (is_due now) (outstanding_of a) (numbers.entries_sorted a.outgoing.outstanding) (λ n r there. not_yet now (due_from r.timer) _ (none_found now a nothing n r there)))

request_stays : (now : ℕ) (r : Option Request) → ((x : Request) → r ≡ Some x → now < due_from x.timer) → option_map (after_sending now) r ≡ r
request_stays now None before = refl
request_stays now (Some x) before = ap Some (ap (λ b. cond b (record x { timer = record { sent = now; repeats = x.timer.repeats + 1 } }) x) (not_yet now (due_from x.timer) _ (before x refl)))

stays_whole : (now : ℕ) (a b : Association) → HasNothingDue now a → SendsAgain now a b → b ≡ a
stays_whole now a b nothing is =
    let outstanding : b.outgoing.outstanding ≡ a.outgoing.outstanding = same_map _ _ (λ q. is.each q ∙ request_stays now (numbers.get a.outgoing.outstanding q) (λ x there. nothing.none_due q x there)) in
    is.content ∙ ap (λ (m : numbers.FinMap nat_cmp Request). record a { outgoing = record a.outgoing { outstanding = m } }) outstanding

abbrev NothingComes : List Association → Database → List Resent → List ℕ → List Association → Database → Type 0
NothingComes old table sent closed new after = (sent ≡ []) × (closed ≡ []) × (new ≡ old) × (after ≡ table)

one_untouched : (now : ℕ) (a : Association) (table : Database) (sent : List Resent) (closed : List ℕ) (held : List Association) (after : Database) → HasNothingDue now a → Passes now a table sent closed held after
    → NothingComes (a ∷ []) table sent closed held after
one_untouched now a table sent closed held after nothing is =
    let done : PassesBy false false now a table sent closed held after =
    subst (λ (v : Bool). PassesBy v false now a table sent closed held after) nothing.held
    (subst (λ (w : Bool). PassesBy (is_over now a.phase) w now a table sent closed held after) (has_not_failed now a nothing) is.done) in
    (done.2 ∙ sends_nothing now a nothing, done.3, done.4 ∙ ap (λ (x : Association). x ∷ []) (stays_whole now a done.0 nothing done.1), done.5)

all_untouched : (now : ℕ) (old : List Association) (table : Database) (sent : List Resent) (closed : List ℕ) (new : List Association) (after : Database) → AllByRecursion (HasNothingDue now) old
    → PassAll now old table sent closed new after → NothingComes old table sent closed new after
all_untouched now [] table sent closed new after nothing is = is
all_untouched now (a ∷ rest) table sent closed new after nothing is =
    let here = one_untouched now a table is.sent_first is.closed_first is.held_first is.between nothing.0 is.passes in
    let others = all_untouched now rest is.between is.sent_rest is.closed_rest is.held_rest after nothing.1 is.others in (
      is.sent_all ∙ (λ i. here.0 i ++ others.0 i),
      is.closed_all ∙ (λ i. here.1 i ++ others.1 i),
      is.held_all ∙ (λ i. here.2 i ++ others.2 i),
      others.3 ∙ here.3,
    )

pub untouched : (now : ℕ) (old new : List Association) (table new_table : Database) (ticked : Ticked) → All (HasNothingDue now) old → Ticks now old table ticked new new_table
    → (ticked ≡ record { requests = []; closed = [] }) × (new ≡ old) × (new_table ≡ table)
untouched now old new table new_table ticked nothing is =
    let none = all_untouched now old table ticked.requests ticked.closed new new_table (recursion_from_All (HasNothingDue now) old nothing) is in
    (λ i. record { requests = none.0 i; closed = none.1 i }, none.2, none.3)

-- of an IKE SA of which nothing is due nothing comes
sends_none : (now : ℕ) (a : Association) → HasNothingDue now a → sent_of now a ≡ []
sends_none now a nothing = ap (λ (over : Bool). sent_by over (has_failed now a) now a) nothing.held ∙ ap (λ (failed : Bool). sent_by false failed now a) (has_not_failed now a nothing) ∙ sends_nothing now a nothing

closes_none : (now : ℕ) (a : Association) → HasNothingDue now a → closed_of now a ≡ []
closes_none now a nothing = ap (λ (over : Bool). closed_by over (has_failed now a) a) nothing.held ∙ ap (λ (failed : Bool). closed_by false failed a) (has_not_failed now a nothing)

pub none_comes : (now : ℕ) (associations : List Association) → All (HasNothingDue now) associations → SomethingComes now associations → ⊥
none_comes now associations nothing some =
    let none = All-contains (HasNothingDue now) associations some.association nothing some.held in
    some.comes (sends_none now some.association none, closes_none now some.association none)

-- ---- how many go out again

few_pass : {X : Type 0} (p : X → Bool) (xs : List X) → length (filter p xs) ≤ length xs
few_pass p [] = omega arith
few_pass p (x ∷ xs) =
    let rest = few_pass p xs in
    elim (p x) as (λ b. length (cond b (x ∷ filter p xs) (filter p xs)) ≤ length (x ∷ xs)) [ true ↦ omega arith | false ↦ omega arith ]

few_of_one : (over failed : Bool) (now : ℕ) (a : Association) (table : Database) (sent : List Resent) (closed : List ℕ) (held : List Association) (after : Database) → PassesBy over failed now a table sent closed held after → length sent ≤ length (outstanding_of a)
few_of_one true failed now a table sent closed held after is = let none = ap length is.0 in omega arith
few_of_one false true now a table sent closed held after is = let none = ap length is.2 in omega arith
few_of_one false false now a table sent closed held after is =
    let those = ap length is.2 in
    let as_many = length-map (filter (λ e. is_due now e.1) (outstanding_of a)) (resent a) in
    let few = few_pass (λ e. is_due now e.1) (outstanding_of a) in
    omega arith

few_of_all : (now : ℕ) (old : List Association) (table : Database) (sent : List Resent) (closed : List ℕ) (new : List Association) (after : Database) → PassAll now old table sent closed new after → length sent ≤ outstanding_count old
few_of_all now [] table sent closed new after is = let none = ap length is.0 in omega arith
few_of_all now (a ∷ rest) table sent closed new after is =
    let here = few_of_one (is_over now a.phase) (has_failed now a) now a table is.sent_first is.closed_first is.held_first is.between is.passes.done in
    let others = few_of_all now rest is.between is.sent_rest is.closed_rest is.held_rest after is.others in
    let both = ap length is.sent_all ∙ length-append is.sent_first is.sent_rest in
    let count = sum_by-cons (λ (x : Association). length (outstanding_of x)) a rest in
    omega arith

pub few_sent : (now : ℕ) (old new : List Association) (table new_table : Database) (ticked : Ticked) → Ticks now old table ticked new new_table → length ticked.requests ≤ outstanding_count old
few_sent now old new table new_table ticked is = few_of_all now old table ticked.requests ticked.closed new new_table is
