-- What a tick brings of a request that waits.
use Rattle.std.proofs.Common.{◌≡◌, ◌⊎◌, ◌++◌, ◌∷◌, ◌&&◌, [], ℕ, List, map, Bool, true, false, cond, not, Some, Contains, length, ap, arith, refl, subst, sym, ◌∙◌, inl, inr}
use Rattle.std.proofs.lemmas.Bool.{eqb-true, le-leb, leb-true, lt-ltb}
use Rattle.std.proofs.lemmas.Bool.Decides.{eqb_tells}
use Rattle.std.proofs.lemmas.List.Elements.{Contains-append_cases, Contains-append_left, Contains-append_right, Contains-push, Contains-push_cases}
use Rattle.std.proofs.lemmas.List.Folds.{find_at}
use Rattle.std.proofs.lemmas.Option.{none-some, same_Some}
use Rattle.std.specs.FinMap as numbers
use Rattle.std.specs.List.{filter, flat_map, position_or_len, AllZip}
use Rattle.std.specs.Option.{option_map}
use Rattle.std.specs.Ordering.{nat_cmp}
use Rattle.requests.specs.Outgoing.{OwnRequests}
use Rattle.requests.specs.Timers.{due_from, waits, IsDue}
use Rattle.requests.specs.declared.timer.Due.TheVariants.{Again, Nothing, Over}
use Rattle.requests.proofs.OrderLemmas.{any_found, find, found_any, found_further, found_here}
use Rattle.sadb.specs.Database.{Database}
use Rattle.association.specs.declared.phase.Association.{Association}
use Rattle.association.specs.declared.phase.Phase.{Phase}
use Rattle.association.specs.declared.phase.Phase.TheVariants as phase
use Rattle.association.specs.declared.phase.Request.{Request}
use Rattle.moments.specs.Due.{after_sending, closed_by, closed_of, due_of, has_failed, held_of, is_due, is_over, is_unanswered, outstanding_of, resent, sent_by, sent_of}
use Rattle.moments.specs.Held.{StaysItself}
use Rattle.moments.specs.declared.resent.Resent.{Resent}
use Rattle.moments.specs.declared.ticking.Ticked.{Ticked}
use Rattle.effects.specs.Taking.{Meaning}
use Rattle.effects.specs.Waiting.{SuitPhase}
use Rattle.ike.specs.Machines.{association_of, has_serial, Held}
use Rattle.ike.specs.Moments.{BringsDue, WaitsAt}
use Rattle.ike.specs.Soundness.{AreSound}
use Rattle.ike.specs.LawsOfTimes.{MomentsAreRefusedForMemoryAlone, WhatIsDueComes}
use Rattle.ike.specs.Steps as ike
use Rattle.gateway.specs.Histories.{IsPassage, Passage}
use Rattle.gateway.specs.Inputs.{Input}
use Rattle.gateway.specs.Outputs as output
use Rattle.gateway.specs.Outputs.{view_of_ike, wants_memory}
use Rattle.gateway.specs.Steps.{DoesInput, StepsIke}
use Rattle.gateway.specs.Worlds.{requests_in}
use Rattle.laws_recovery.specs.Waiting.{sent_again, GoesOutAgain, IsGivenUp, IsTold, WaitsAfter, WaitsBefore}

-- ---- lists

pub none_there : {X : Type 0} (x : X) → Contains [] x → ⊥
none_there {X} x there = (let less = there.1 in absurd (omega arith))

pub at_head : {X : Type 0} (x : X) (xs : List X) → Contains (x ∷ xs) x
at_head {X} x xs = Contains-append_left (x ∷ []) xs x (Contains-push [] x)

pub further_on : {X : Type 0} (y : X) (xs : List X) (x : X) → Contains xs x → Contains (y ∷ xs) x
further_on {X} y xs x there = Contains-append_right (y ∷ []) xs x there

pub single : {X : Type 0} (y x : X) → Contains (y ∷ []) x → y ≡ x
single {X} y x there = elim (Contains-push_cases [] y x there) [
  | inl none ↦ absurd (none_there x none)
  | inr same ↦ same
]

flat_cons : {X Y : Type 0} (f : X → List Y) (a : X) (xs : List X) (x : X) (y : Y) → (Contains xs x → Contains (flat_map f xs) y) → Contains (a ∷ xs) x → Contains (f x) y → Contains (f a ++ flat_map f xs) y
flat_cons {X} {Y} f a xs x y more there within = elim (Contains-append_cases (a ∷ []) xs x there) [
  | inl here ↦ Contains-append_left (f a) (flat_map f xs) y (subst (λ (z : X). Contains (f z) y) (sym (single a x here)) within)
  | inr further ↦ Contains-append_right (f a) (flat_map f xs) y (more further)
]

flat_in : {X Y : Type 0} (f : X → List Y) (xs : List X) (x : X) (y : Y) → Contains xs x → Contains (f x) y → Contains (flat_map f xs) y
flat_in {X} {Y} f [] x y there within = absurd (none_there x there)
flat_in {X} {Y} f (a ∷ xs) x y there within = flat_cons f a xs x y (λ further. flat_in f xs x y further within) there within

pub same_one : (x a : Association) → Some x ≡ Some a → x ≡ a
same_one x a is = cc

pub both : (b c : Bool) → b ≡ true → c ≡ true → (b && c) ≡ true
both b c one other = ap (λ d. d && c) one ∙ other

-- ---- the IKE SA

-- what is found by its serial stands in the list
pub record Found (serial : ℕ) (xs : List Association) (a : Association) : Type 0 where
  pub among : Contains xs a
  pub named : has_serial serial a ≡ true

found_cons : (serial : ℕ) (here : Bool) (x : Association) (xs : List Association) (a : Association) → has_serial serial x ≡ here → (association_of serial xs ≡ Some a → Found serial xs a)
    → cond here (Some x) (association_of serial xs) ≡ Some a → Found serial (x ∷ xs) a
found_cons serial true x xs a its more is = subst (λ (y : Association). Found serial (x ∷ xs) y) (same_one x a is) (record { among = at_head x xs; named = its })
found_cons serial false x xs a its more is = let rest = more is in record { among = further_on x xs a rest.among; named = rest.named }

pub found : (serial : ℕ) (xs : List Association) (a : Association) → association_of serial xs ≡ Some a → Found serial xs a
found serial [] a is = absurd cc
found serial (x ∷ xs) a is = found_cons serial (has_serial serial x) x xs a refl (found serial xs a) is

-- one that is held on is found among those that are
held_cons : (now serial : ℕ) (over here : Bool) (x : Association) (xs held : List Association) (a : Association) → is_over now x.phase ≡ over → has_serial serial x ≡ here → is_over now a.phase ≡ false
    → (association_of serial xs ≡ Some a → association_of serial held ≡ Some a) → cond here (Some x) (association_of serial xs) ≡ Some a
    → association_of serial (cond (not over) (x ∷ held) held) ≡ Some a
held_cons now serial true true x xs held a over its alive more is =
    let wrong : true ≡ false = sym over ∙ ap (λ (y : Association). is_over now y.phase) (same_one x a is) ∙ alive in absurd cc
held_cons now serial false true x xs held a over its alive more is = ap (λ b. cond b (Some x) (association_of serial held)) its ∙ is
held_cons now serial true false x xs held a over its alive more is = more is
held_cons now serial false false x xs held a over its alive more is = ap (λ b. cond b (Some x) (association_of serial held)) its ∙ more is

pub stays_held : (now serial : ℕ) (xs : List Association) (a : Association) → is_over now a.phase ≡ false → association_of serial xs ≡ Some a → association_of serial (held_of now xs) ≡ Some a
stays_held now serial [] a alive is = is
stays_held now serial (x ∷ xs) a alive is =
    held_cons now serial (is_over now x.phase) (has_serial serial x) x xs (held_of now xs) a refl refl alive (stays_held now serial xs a alive) is

pub record Zipped (now serial : ℕ) (closed : List ℕ) (a : Association) (ys : List Association) : Type 0 where
  pub held : Association
  pub there : association_of serial ys ≡ Some held
  pub stays : StaysItself now closed a held

zip_cons : (now serial : ℕ) (closed : List ℕ) (here : Bool) (x y : Association) (xs ys : List Association) (a : Association) → has_serial serial x ≡ here → StaysItself now closed x y
    → (association_of serial xs ≡ Some a → Zipped now serial closed a ys) → cond here (Some x) (association_of serial xs) ≡ Some a → Zipped now serial closed a (y ∷ ys)
zip_cons now serial closed true x y xs ys a is stays more stands =
    record {
      held = y;
      there = ap (λ b. cond b (Some y) (association_of serial ys)) (ap (λ n. has_serial serial (record y { serial = n })) stays.serial ∙ is);
      stays = subst (λ (c : Association). StaysItself now closed c y) (same_one x a stands) stays;
    }
zip_cons now serial closed false x y xs ys a is stays more stands =
    let rest = more stands in
    record {
      held = rest.held;
      there = ap (λ b. cond b (Some y) (association_of serial ys)) (ap (λ n. has_serial serial (record y { serial = n })) stays.serial ∙ is) ∙ rest.there;
      stays = rest.stays;
    }

pub zipped : (now serial : ℕ) (closed : List ℕ) (xs ys : List Association) (a : Association) → AllZip (StaysItself now closed) xs ys → association_of serial xs ≡ Some a → Zipped now serial closed a ys
zipped now serial closed [] ys a zip stands = absurd cc
zipped now serial closed (x ∷ xs) [] a zip stands = absurd zip
zipped now serial closed (x ∷ xs) (y ∷ ys) a zip stands = zip_cons now serial closed (has_serial serial x) x y xs ys a refl zip.0 (zipped now serial closed xs ys a zip.1) stands

-- nothing waits in a phase that ends by itself
pub over_phase : (now : ℕ) (p : Phase) (outstanding : numbers.FinMap nat_cmp Request) (number : ℕ) (request : Request) → SuitPhase p outstanding → numbers.get outstanding number ≡ Some request → is_over now p ≡ false
over_phase now (phase.InitSent sent) outstanding number request suits there = refl
over_phase now (phase.AuthSent sent) outstanding number request suits there = refl
over_phase now (phase.HalfOpen opened) outstanding number request suits there = absurd (suits number request there)
over_phase now (phase.Established keys) outstanding number request suits there = refl
over_phase now (phase.Closed keys at) outstanding number request suits there = absurd (suits number request there)

-- ---- the request

kept_further : (a : Association) (b : Bool) (e : ℕ × Request) (es : List (ℕ × Request)) (r : Resent) → Contains (map (resent a) es) r → Contains (map (resent a) (cond b (e ∷ es) es)) r
kept_further a true e es r there = further_on (resent a e) (map (resent a) es) r there
kept_further a false e es r there = there

-- one that is found and passes a test is among those that go out again by it
sent_in : (a : Association) (p : Request → Bool) (es : List (ℕ × Request)) (n : ℕ) (r : Request) → find n es ≡ Some r → p r ≡ true → Contains (map (resent a) (filter (λ e. p e.1) es)) (resent a (n, r))
sent_in a p [] n r there passes = absurd (none-some r there)
sent_in a p (e ∷ es) n r there passes = elim (eqb_tells e.0 n) [
  | inl (_, same) ↦
      (let rest = filter (λ e. p e.1) es in
      let one : e.1 ≡ r = same_Some e.1 r (sym (found_here n e es same) ∙ there) in
      subst (λ b. Contains (map (resent a) (cond b (e ∷ rest) rest)) (resent a (n, r))) (sym (ap p one ∙ passes))
      (subst (λ (m : ℕ). Contains (resent a e ∷ map (resent a) rest) (resent a (m, r))) same
      (subst (λ (q : Request). Contains (resent a e ∷ map (resent a) rest) (resent a (e.0, q))) one
      (at_head (resent a e) (map (resent a) rest)))))
  | inr (_, apart) ↦ kept_further a (p e.1) e (filter (λ e. p e.1) es) (resent a (n, r)) (sent_in a p es n r (sym (found_further n e es apart) ∙ there) passes)
]

pub due_true : (now : ℕ) (r : Request) → IsDue r.timer now Again → is_due now r ≡ true
due_true now r is = both _ _ (le-leb (due_from r.timer) now is.0) (lt-ltb r.timer.repeats (length waits) is.1)

over_true : (now : ℕ) (r : Request) → IsDue r.timer now Over → is_unanswered now r ≡ true
over_true now r is = both _ _ (le-leb (due_from r.timer) now is.0) (le-leb (length waits) r.timer.repeats is.1)

pub first_true : (b c : Bool) → (b && c) ≡ true → b ≡ true
first_true true c is = refl
first_true false c is = is

pub second_true : (b c : Bool) → (b && c) ≡ true → c ≡ true
second_true true c is = is
second_true false c is = absurd cc

true_over : (now : ℕ) (r : Request) → is_unanswered now r ≡ true → IsDue r.timer now Over
true_over now r is = (leb-true (due_from r.timer) now (first_true _ _ is), leb-true (length waits) r.timer.repeats (second_true _ _ is))

-- it is sent again where it is due, else it is as it was
pub sent_where_due : (b : Bool) (now : ℕ) (r : Request) → is_due now r ≡ b → b ≡ true → after_sending now r ≡ sent_again now r
sent_where_due true now r is due = ap (λ c. cond c (sent_again now r) r) is
sent_where_due false now r is due = absurd cc

pub same_where_not : (now : ℕ) (r : Request) → is_due now r ≡ false → after_sending now r ≡ r
same_where_not now r is = ap (λ c. cond c (sent_again now r) r) is

not_due_by : (b : Bool) (now : ℕ) (r : Request) → is_due now r ≡ b → IsDue r.timer now Nothing → is_due now r ≡ false
not_due_by true now r is later = let reached = leb-true (due_from r.timer) now (first_true _ _ is) in absurd (omega (arith, reached, later))
not_due_by false now r is later = is

pub closed_here : (over failed : Bool) (a : Association) → over ≡ false → failed ≡ true → Contains (closed_by over failed a) a.serial
closed_here true failed a alive fails = absurd cc
closed_here false true a alive fails = at_head a.serial []
closed_here false false a alive fails = absurd cc

sent_here : (over failed : Bool) (now : ℕ) (a : Association) (r : Resent) → over ≡ false → failed ≡ false → Contains (due_of now a) r → Contains (sent_by over failed now a) r
sent_here true failed now a r alive answered there = absurd cc
sent_here false true now a r alive answered there = absurd cc
sent_here false false now a r alive answered there = there

-- what waits belongs to the phase
pub suits_at : (held : Held) (table : Database) (serial number : ℕ) (request : Request) → AreSound held table → (waiting : WaitsAt held serial number request) → SuitPhase waiting.association.phase waiting.association.outgoing.outstanding
suits_at held table serial number request sound waiting =
    (sound.each (position_or_len (has_serial serial) held.associations) waiting.association (sym (find_at (has_serial serial) held.associations) ∙ waiting.there)).soundly.waits

-- ---- what a tick brings of it

module _ (now : ℕ) (old : Held) (table : Database) (ticked : Ticked) (new : Held) (new_table : Database) (is : BringsDue now old table ticked new new_table) (sound : AreSound old table)
    (serial number : ℕ) (request : Request) (waiting : WaitsAt old serial number request) where
  its : Found serial old.associations waiting.association
  its = found serial old.associations waiting.association waiting.there

  alive : is_over now waiting.association.phase ≡ false
  alive = over_phase now waiting.association.phase waiting.association.outgoing.outstanding number request (suits_at old table serial number request sound waiting) waiting.waits

  pub named : waiting.association.serial ≡ serial
  named = eqb-true waiting.association.serial serial its.named

  found_request : find number (outstanding_of waiting.association) ≡ Some request
  found_request = sym (numbers.get-entries waiting.association.outgoing.outstanding number) ∙ waiting.waits

  pub closes : has_failed now waiting.association ≡ true → Contains ticked.closed serial
  closes failed =
      subst (λ (xs : List ℕ). Contains xs serial) (sym is.closed)
      (flat_in (closed_of now) old.associations waiting.association serial its.among
      (subst (λ (n : ℕ). Contains (closed_of now waiting.association) n) named (closed_here (is_over now waiting.association.phase) (has_failed now waiting.association) waiting.association alive failed)))

  pub goes_out : has_failed now waiting.association ≡ false → is_due now request ≡ true → Contains ticked.requests (resent waiting.association (number, request))
  goes_out answered due =
      subst (λ (xs : List Resent). Contains xs (resent waiting.association (number, request))) (sym is.requests)
      (flat_in (sent_of now) old.associations waiting.association (resent waiting.association (number, request)) its.among
      (sent_here (is_over now waiting.association.phase) (has_failed now waiting.association) now waiting.association (resent waiting.association (number, request)) alive answered
      (sent_in waiting.association (is_due now) (outstanding_of waiting.association) number request found_request due)))

  pub waits_on : has_failed now waiting.association ≡ false → WaitsAt new serial number (after_sending now request)
  waits_on answered =
      let z = zipped now serial ticked.closed (held_of now old.associations) new.associations waiting.association is.held (stays_held now serial old.associations waiting.association alive waiting.there) in
      record {
        association = z.held;
        there = z.there;
        waits = elim z.stays.stays [
          | inl (_, again) ↦ again.each number ∙ ap (option_map (after_sending now)) waiting.waits
          | inr (over, _) ↦ (let wrong : true ≡ false = sym over.failed ∙ answered in absurd cc)
        ];
      }

  -- once its IKE SA is closed it waits no more
  pub waits_no_more : has_failed now waiting.association ≡ true → (asked : Request) → WaitsAt new serial number asked → ⊥
  waits_no_more failed asked after =
      let z = zipped now serial ticked.closed (held_of now old.associations) new.associations waiting.association is.held (stays_held now serial old.associations waiting.association alive waiting.there) in
      elim z.stays.stays [
        | inl (answered, _) ↦ (let wrong : true ≡ false = sym failed ∙ answered in absurd cc)
        | inr (over, _) ↦
            (let same : after.association ≡ z.held = same_one after.association z.held (sym after.there ∙ z.there) in
            none-some asked
            (sym (ap (λ (o : OwnRequests Request). numbers.get o.outstanding number) over.requests.content ∙ numbers.get-empty nat_cmp number)
            ∙ ap (λ (a : Association). numbers.get a.outgoing.outstanding number) (sym same) ∙ after.waits))
      ]

  pub fails : IsDue request.timer now Over → has_failed now waiting.association ≡ true
  fails over = found_any (is_unanswered now) (outstanding_of waiting.association) number request found_request (over_true now request over)

  -- a request of its IKE SA went out for the last time
  pub record InVain : Type 0 where
    pub last : ℕ
    pub asked : Request
    pub waits : WaitsAt old serial last asked
    pub over : IsDue asked.timer now Over

  pub in_vain : has_failed now waiting.association ≡ true → InVain
  in_vain failed =
      let passing = any_found (is_unanswered now) (outstanding_of waiting.association) (numbers.entries_sorted waiting.association.outgoing.outstanding) failed in
      record {
        last = passing.number;
        asked = passing.value;
        waits = record { association = waiting.association; there = waiting.there; waits = numbers.get-entries waiting.association.outgoing.outstanding passing.number ∙ passing.there };
        over = true_over now passing.value passing.passes;
      }

-- ---- a step of a gateway

module _ {C : Type 0} where
  -- the step brings all that is due
  pub record Brought (now : ℕ) (p : Passage C) : Type 0 where
    pub ticked : Ticked
    pub said : p.said ≡ output.Ticked ticked.requests ticked.closed
    pub due : BringsDue now p.before.machine.held p.before.table ticked p.after.machine.held p.after.table

module _ {C : Type 0} (comes : WhatIsDueComes) (unrefused : MomentsAreRefusedForMemoryAlone) (meaning_of : C → Meaning) (now : ℕ) (p : Passage C) (is : IsPassage meaning_of p) (told : IsTold now p) where
  -- a time is an input of IKE
  pub for_ike : StepsIke (meaning_of p.before.caller) p.before.entries (ike.Tick told.moment) p.before.machine p.before.table p.said is.steps.trace p.after.machine p.after.table
  for_ike =
      subst (λ (given : Input). DoesInput (meaning_of p.before.caller) p.before.entries given p.before.machine p.before.table p.said is.steps.trace p.after.machine p.after.table) told.given is.steps.traces.does

  contradicts : (b : Bool) → b ≡ true → b ≡ false → ⊥
  contradicts b one other = let wrong : true ≡ false = sym one ∙ other in absurd cc

  pub brought : wants_memory p.said ≡ false → Brought now p
  brought taken = elim for_ike [
    | inl answers ↦
        (let all = comes (meaning_of p.before.caller) p.before.entries told.moment p.before.machine p.before.table answers.stepped p.after.machine p.after.table answers.steps in
        record {
          ticked = all.ticked;
          said = answers.output ∙ ap view_of_ike all.said;
          due = subst (λ (n : ℕ). BringsDue n p.before.machine.held p.before.table all.ticked p.after.machine.held p.after.table) told.greatest all.brings;
        })
    | inr refuses ↦
        absurd (contradicts (wants_memory p.said)
        (ap wants_memory refuses.output ∙ unrefused (meaning_of p.before.caller) p.before.entries told.moment p.before.machine p.before.table refuses.fault refuses.refuses) taken)
  ]

  pub stands_still : wants_memory p.said ≡ true → p.after.machine ≡ p.before.machine
  stands_still short = elim for_ike [
    | inl answers ↦
        (let all = comes (meaning_of p.before.caller) p.before.entries told.moment p.before.machine p.before.table answers.stepped p.after.machine p.after.table answers.steps in
        absurd (contradicts (wants_memory p.said) short (ap wants_memory (answers.output ∙ ap view_of_ike all.said))))
    | inr refuses ↦ refuses.machine
  ]

  pub says_nothing : wants_memory p.said ≡ true → requests_in p.said ≡ []
  says_nothing short = elim for_ike [
    | inl answers ↦
        (let all = comes (meaning_of p.before.caller) p.before.entries told.moment p.before.machine p.before.table answers.stepped p.after.machine p.after.table answers.steps in
        absurd (contradicts (wants_memory p.said) short (ap wants_memory (answers.output ∙ ap view_of_ike all.said))))
    | inr refuses ↦ ap requests_in refuses.output
  ]

module _ {C : Type 0} (now serial number : ℕ) (request : Request) (p : Passage C) (b : Brought now p) (sound : AreSound p.before.machine.held p.before.table) (waiting : WaitsBefore serial number request p) where
  pub given_up : has_failed now waiting.association ≡ true → IsGivenUp serial now p
  given_up failed =
      let vain = in_vain now p.before.machine.held p.before.table b.ticked p.after.machine.held p.after.table b.due sound serial number request waiting failed in
      record {
        number = vain.last;
        request = vain.asked;
        waits = vain.waits;
        over = vain.over;
        requests = b.ticked.requests;
        closed = b.ticked.closed;
        said = b.said;
        among = closes now p.before.machine.held p.before.table b.ticked p.after.machine.held p.after.table b.due sound serial number request waiting failed;
      }

  its_name : waiting.association.serial ≡ serial
  its_name = named now p.before.machine.held p.before.table b.ticked p.after.machine.held p.after.table b.due sound serial number request waiting

  again_by : (failed : Bool) → has_failed now waiting.association ≡ failed → IsDue request.timer now Again
      → (GoesOutAgain serial number request p × WaitsAfter serial number (sent_again now request) p) ⊎ IsGivenUp serial now p
  again_by true failed due = inr (given_up failed)
  again_by false answered due =
      inl (
        record {
          requests = b.ticked.requests;
          closed = b.ticked.closed;
          said = b.said;
          encrypted = (resent waiting.association (number, request)).encrypted;
          among = subst (λ (n : ℕ). Contains b.ticked.requests (record (resent waiting.association (number, request)) { ike = n })) its_name
              (goes_out now p.before.machine.held p.before.table b.ticked p.after.machine.held p.after.table b.due sound serial number request waiting answered (due_true now request due));
        },
        subst (λ (r : Request). WaitsAfter serial number r p) (sent_where_due (is_due now request) now request refl (due_true now request due))
            (waits_on now p.before.machine.held p.before.table b.ticked p.after.machine.held p.after.table b.due sound serial number request waiting answered),
      )

  pub again : IsDue request.timer now Again → (GoesOutAgain serial number request p × WaitsAfter serial number (sent_again now request) p) ⊎ IsGivenUp serial now p
  again due = again_by (has_failed now waiting.association) refl due

  later_by : (failed : Bool) → has_failed now waiting.association ≡ failed → IsDue request.timer now Nothing → WaitsAfter serial number request p ⊎ IsGivenUp serial now p
  later_by true failed ahead = inr (given_up failed)
  later_by false answered ahead =
      inl (subst (λ (r : Request). WaitsAfter serial number r p) (same_where_not now request (not_due_by (is_due now request) now request refl ahead))
      (waits_on now p.before.machine.held p.before.table b.ticked p.after.machine.held p.after.table b.due sound serial number request waiting answered))

  pub later : IsDue request.timer now Nothing → WaitsAfter serial number request p ⊎ IsGivenUp serial now p
  later ahead = later_by (has_failed now waiting.association) refl ahead

  pub over : IsDue request.timer now Over → IsGivenUp serial now p
  over last = given_up (fails now p.before.machine.held p.before.table b.ticked p.after.machine.held p.after.table b.due sound serial number request waiting last)
