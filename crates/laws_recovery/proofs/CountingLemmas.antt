-- How often a request went out again.
use Rattle.std.proofs.Common.{◌≡◌, ◌≢◌, ◌+◌, ◌<◌, ◌∷◌, ◌||◌, [], ℕ, List, map, Bool, true, false, cond, Some, All, Contains, ap, arith, length, max, nat_cmp, refl, subst, sym, ◌∙◌, inl, inr, suc, zero}
use Rattle.std.proofs.lemmas.Bool.{eq-eqb, eqb-true, ne_eqb}
use Rattle.std.proofs.lemmas.List.Elements.{All-contains, Contains-append_cases}
use Rattle.std.proofs.lemmas.Option.{none-some, same_Some}
use Rattle.std.specs.FinMap as numbers
use Rattle.std.specs.List.{filter, flat_map, list_any, slice_get}
use Rattle.requests.specs.Timers.{waits, IsDue}
use Rattle.requests.specs.declared.timer.Due.TheVariants.{Over}
use Rattle.requests.proofs.OrderLemmas.{find, found_here, found_later, in_order_after, IsInOrder}
use Rattle.sadb.specs.Database.{Database}
use Rattle.wire.specs.Numbers.{IKE_SA_INIT}
use Rattle.association.specs.Purposes.{exchange_of}
use Rattle.association.specs.declared.phase.Association.{Association}
use Rattle.association.specs.declared.phase.InitSent.{InitSent}
use Rattle.association.specs.declared.phase.Phase.{Phase}
use Rattle.association.specs.declared.phase.Phase.TheVariants as phase
use Rattle.association.specs.declared.phase.Request.{Request}
use Rattle.effects.specs.Taking.{Meaning}
use Rattle.effects.specs.Waiting.{SuitPhase}
use Rattle.moments.specs.Due.{after_sending, due_of, has_failed, is_due, is_over, outstanding_of, resent, sent_by, sent_of}
use Rattle.moments.specs.Held.{IsInTime}
use Rattle.moments.specs.declared.resent.Resent.{Resent}
use Rattle.ike.specs.Machines.{association_of, Held, Machine}
use Rattle.ike.specs.Soundness.{AreSound}
use Rattle.ike.specs.LawsOfTimes.{MomentsAreRefusedForMemoryAlone, TheTimeStandsStill, WhatIsDueComes}
use Rattle.ike.specs.Moments.{tells_moment, StaysAt, WaitsAt}
use Rattle.ike.specs.Orders as orders
use Rattle.ike.specs.Steps as ike
use Rattle.ike.specs.declared.output.IkeOutput.{IkeOutput}
use Rattle.ike.specs.declared.output.IkeOutput.TheVariants as ike_output
use Rattle.ike.specs.declared.output.Stepped.{Stepped}
use Rattle.traffic.specs.Outcomes.{Outcome}
use Rattle.traffic.specs.Outcomes as outcome
use Rattle.gateway.specs.Histories.{IsPassage, IsTrail, Passage}
use Rattle.gateway.specs.Inputs.{Input}
use Rattle.gateway.specs.Inputs as input
use Rattle.gateway.specs.Outputs.{view_of_ike, view_of_outcome, wants_memory, OutputView}
use Rattle.gateway.specs.States.{State}
use Rattle.gateway.specs.Steps.{DoesInput, StepsIke}
use Rattle.gateway.specs.Worlds.{requests_in}
use Rattle.laws_recovery.specs.Waiting.{goes_again, is_named, sent_again, times_again, IsTold, WaitsAfter, WaitsBefore, WaitsThroughout}
use Rattle.laws_recovery.proofs.WaitingLemmas.{at_head, both, brought, first_true, found, further_on, goes_out, named, none_there, same_one, same_where_not, says_nothing, second_true, sent_where_due, single, stands_still, suits_at, waits_no_more, waits_on, Brought}

-- ---- lists

or_right : (b c : Bool) → c ≡ true → (b || c) ≡ true
or_right true c is = refl
or_right false c is = is

pub any_there : {X : Type 0} (test : X → Bool) (xs : List X) (x : X) → Contains xs x → test x ≡ true → list_any test xs ≡ true
any_there {X} test [] x there passes = absurd (none_there x there)
any_there {X} test (y ∷ ys) x there passes = elim (Contains-append_cases (y ∷ []) ys x there) [
  | inl here ↦ ap (λ b. b || list_any test ys) (ap test (single y x here) ∙ passes)
  | inr further ↦ or_right (test y) (list_any test ys) (any_there test ys x further passes)
]

pub record Among {X : Type 0} (test : X → Bool) (xs : List X) : Type 0 where
  pub item : X
  pub there : Contains xs item
  pub passes : test item ≡ true

among_cons : {X : Type 0} (test : X → Bool) (b : Bool) (x : X) (xs : List X) → test x ≡ b → (list_any test xs ≡ true → Among test xs) → (b || list_any test xs) ≡ true → Among test (x ∷ xs)
among_cons {X} test true x xs its more is = record { item = x; there = at_head x xs; passes = its }
among_cons {X} test false x xs its more is = let rest = more is in record { item = rest.item; there = further_on x xs rest.item rest.there; passes = rest.passes }

pub among : {X : Type 0} (test : X → Bool) (xs : List X) → list_any test xs ≡ true → Among test xs
among {X} test [] is = absurd cc
among {X} test (x ∷ xs) is = among_cons test (test x) x xs refl (among test xs) is

record InSome {X Y : Type 0} (f : X → List Y) (xs : List X) (y : Y) : Type 0 where
  item : X
  place : ℕ
  there : slice_get xs place ≡ Some item
  within : Contains (f item) y

in_flat : {X Y : Type 0} (f : X → List Y) (xs : List X) (y : Y) → Contains (flat_map f xs) y → InSome f xs y
in_flat {X} {Y} f [] y there = absurd (none_there y there)
in_flat {X} {Y} f (x ∷ xs) y there = elim (Contains-append_cases (f x) (flat_map f xs) y there) [
  | inl here ↦ record { item = x; place = zero; there = refl; within = here }
  | inr further ↦ (let rest = in_flat f xs y further in record { item = rest.item; place = suc rest.place; there = rest.there; within = rest.within })
]

-- what goes out again of an IKE SA is an entry of its requests that is due
record SentOf (a : Association) (p : Request → Bool) (es : List (ℕ × Request)) (x : Resent) : Type 0 where
  entry : ℕ × Request
  there : Contains es entry
  passes : p entry.1 ≡ true
  is : resent a entry ≡ x

sent_cons : (a : Association) (p : Request → Bool) (b : Bool) (e : ℕ × Request) (es : List (ℕ × Request)) (x : Resent) → p e.1 ≡ b
    → (Contains (map (resent a) (filter (λ e. p e.1) es)) x → SentOf a p es x)
    → Contains (map (resent a) (cond b (e ∷ filter (λ e. p e.1) es) (filter (λ e. p e.1) es))) x → SentOf a p (e ∷ es) x
sent_cons a p true e es x its more there = elim (Contains-append_cases (resent a e ∷ []) (map (resent a) (filter (λ e. p e.1) es)) x there) [
  | inl here ↦ record { entry = e; there = at_head e es; passes = its; is = single (resent a e) x here }
  | inr further ↦ (let rest = more further in record { entry = rest.entry; there = further_on e es rest.entry rest.there; passes = rest.passes; is = rest.is })
]
sent_cons a p false e es x its more there = let rest = more there in record { entry = rest.entry; there = further_on e es rest.entry rest.there; passes = rest.passes; is = rest.is }

sent_entry : (a : Association) (p : Request → Bool) (es : List (ℕ × Request)) (x : Resent) → Contains (map (resent a) (filter (λ e. p e.1) es)) x → SentOf a p es x
sent_entry a p [] x there = absurd (none_there x there)
sent_entry a p (e ∷ es) x there = sent_cons a p (p e.1) e es x refl (sent_entry a p es x) there

entry_found : (es : List (ℕ × Request)) (e : ℕ × Request) → IsInOrder es → Contains es e → find e.0 es ≡ Some e.1
entry_found [] e order there = absurd (none_there e there)
entry_found (x ∷ xs) e order there = elim (Contains-append_cases (x ∷ []) xs e there) [
  | inl here ↦ found_here e.0 x xs (ap (λ (y : ℕ × Request). y.0) (single x e here)) ∙ ap (λ (y : ℕ × Request). Some y.1) (single x e here)
  | inr further ↦ found_later x xs e.0 e.1 order (entry_found xs e (in_order_after x xs order) further)
]

sent_cases : (over failed : Bool) (now : ℕ) (a : Association) (x : Resent) → Contains (sent_by over failed now a) x → Contains (due_of now a) x
sent_cases true failed now a x there = absurd (none_there x there)
sent_cases false true now a x there = absurd (none_there x there)
sent_cases false false now a x there = there

-- each IKE SA is found by its serial
found_first : (xs : List Association) (place : ℕ) (a : Association) → slice_get xs place ≡ Some a → ((k : ℕ) (c : Association) → k < place → slice_get xs k ≡ Some c → c.serial ≢ a.serial) → association_of a.serial xs ≡ Some a
found_first [] place a there before = absurd (none-some a there)
found_first (x ∷ xs) zero a there before = ap (λ b. cond b (Some x) (association_of a.serial xs)) (eq-eqb x.serial a.serial (ap (λ (y : Association). y.serial) (same_Some x a there))) ∙ there
found_first (x ∷ xs) (suc k) a there before =
    ap (λ b. cond b (Some x) (association_of a.serial xs)) (ne_eqb x.serial a.serial (before zero x (omega arith) refl))
    ∙ found_first xs k a there (λ j c less at. before (suc j) c (omega (arith, less)) at)

pub sound_found : (held : Held) (table : Database) (place : ℕ) (a : Association) → AreSound held table → slice_get held.associations place ≡ Some a → association_of a.serial held.associations ≡ Some a
sound_found held table place a sound there =
    found_first held.associations place a there (λ k c less at. let rising = (sound.apart k place c a less at there).rising in λ same. omega (arith, rising, same))

-- ---- what goes out under a Message ID is due

module _ (now : ℕ) (held : Held) (table : Database) (sound : AreSound held table) (serial number : ℕ) (request : Request) (waiting : WaitsAt held serial number request) where
  its_due : (c : Association) (e : ℕ × Request) → association_of c.serial held.associations ≡ Some c → c.serial ≡ serial → e.0 ≡ number → Contains (outstanding_of c) e → is_due now e.1 ≡ true → is_due now request ≡ true
  its_due c e stands name named there due =
      let same : c ≡ waiting.association = same_one c waiting.association (sym stands ∙ ap (λ (n : ℕ). association_of n held.associations) name ∙ waiting.there) in
      let found : find number (outstanding_of waiting.association) ≡ Some e.1 =
      subst (λ (a : Association). find number (outstanding_of a) ≡ Some e.1) same
      (subst (λ (n : ℕ). find n (outstanding_of c) ≡ Some e.1) named (entry_found (outstanding_of c) e (numbers.entries_sorted c.outgoing.outstanding) there)) in
      let one : e.1 ≡ request = same_Some e.1 request (sym found ∙ sym (numbers.get-entries waiting.association.outgoing.outstanding number) ∙ waiting.waits) in
      sym (ap (is_due now) one) ∙ due

  pub due_if_sent : list_any (is_named serial number) (flat_map (sent_of now) held.associations) ≡ true → is_due now request ≡ true
  due_if_sent is =
      let x = among (is_named serial number) (flat_map (sent_of now) held.associations) is in
      let c = in_flat (sent_of now) held.associations x.item x.there in
      let e = sent_entry c.item (is_due now) (outstanding_of c.item) x.item (sent_cases (is_over now c.item.phase) (has_failed now c.item) now c.item x.item c.within) in
      its_due c.item e.entry
      (sound_found held table c.place c.item sound c.there)
      (ap (λ (r : Resent). r.ike) e.is ∙ eqb-true x.item.ike serial (first_true _ _ x.passes))
      (ap (λ (r : Resent). r.number) e.is ∙ eqb-true x.item.number number (second_true _ _ x.passes))
      e.there e.passes

-- ---- a step

plus_none : (n : ℕ) (b : Bool) → b ≡ false → n ≡ n + cond b 1 0
plus_none n true is = absurd cc
plus_none n false is = omega arith

plus_one : (n : ℕ) (b : Bool) → b ≡ true → n + 1 ≡ n + cond b 1 0
plus_one n true is = refl
plus_one n false is = absurd cc

module _ {C : Type 0} where
  -- what a step leaves of a request that waits, by whether it went out again
  pub record IsCounted (serial number : ℕ) (p : Passage C) (before after : Request) : Type 0 where
    pub repeats : after.timer.repeats ≡ before.timer.repeats + cond (goes_again serial number p) 1 0
    pub octets : after.octets ≡ before.octets
    pub purpose : after.purpose ≡ before.purpose

  as_before : (serial number : ℕ) (p : Passage C) (before after : Request) → after ≡ before → goes_again serial number p ≡ false → IsCounted serial number p before after
  as_before serial number p before after same silent = record {
    repeats = ap (λ (r : Request). r.timer.repeats) same ∙ plus_none before.timer.repeats (goes_again serial number p) silent;
    octets = ap (λ (r : Request). r.octets) same;
    purpose = ap (λ (r : Request). r.purpose) same;
  }

  once_more : (now serial number : ℕ) (p : Passage C) (before after : Request) → after ≡ sent_again now before → goes_again serial number p ≡ true → IsCounted serial number p before after
  once_more now serial number p before after same sent = record {
    repeats = ap (λ (r : Request). r.timer.repeats) same ∙ plus_one before.timer.repeats (goes_again serial number p) sent;
    octets = ap (λ (r : Request). r.octets) same;
    purpose = ap (λ (r : Request). r.purpose) same;
  }

pub one_waiting : (held : Held) (serial number : ℕ) (a b : Request) → WaitsAt held serial number a → WaitsAt held serial number b → a ≡ b
one_waiting held serial number a b one other =
    same_Some a b (sym one.waits ∙ ap (λ (x : Association). numbers.get x.outgoing.outstanding number) (same_one one.association other.association (sym one.there ∙ other.there)) ∙ other.waits)

silent_ike : (o : IkeOutput) → tells_moment o ≡ false → requests_in (view_of_ike o) ≡ []
silent_ike (ike_output.Reply octets closed) is = refl
silent_ike (ike_output.Repeat octets) is = refl
silent_ike (ike_output.Request serial octets) is = refl
silent_ike (ike_output.Counted serial child closed) is = refl
silent_ike (ike_output.Ticked ticked) is = absurd cc
silent_ike ike_output.Done is = refl
silent_ike (ike_output.Dropped fault) is = refl

silent_outcome : (o : Outcome) → requests_in (view_of_outcome o) ≡ []
silent_outcome (outcome.Up child number packet) = refl
silent_outcome (outcome.Dummy child number) = refl
silent_outcome (outcome.Sealed child number octets) = refl
silent_outcome (outcome.Clear packet) = refl
silent_outcome outcome.Discarded = refl
silent_outcome (outcome.Dropped fault) = refl

-- at most one request is begun by exchange of IKE_SA_INIT, and none under keys
not_begin : (p : Phase) (sent : InitSent) (outstanding : numbers.FinMap nat_cmp Request) (number : ℕ) (request : Request) → p ≡ phase.InitSent sent → SuitPhase p outstanding
    → numbers.get outstanding number ≡ Some request → exchange_of request.purpose ≡ IKE_SA_INIT
not_begin p sent outstanding number request is suits there =
    ap exchange_of (subst (λ (q : Phase). SuitPhase q outstanding) is suits number request there).1

module _ {C : Type 0} (comes : WhatIsDueComes) (unrefused : MomentsAreRefusedForMemoryAlone) (still : TheTimeStandsStill) (meaning_of : C → Meaning) (serial number : ℕ) (p : Passage C) (is : IsPassage meaning_of p)
    (request : Request) (waiting : WaitsBefore serial number request p) (keyed : exchange_of request.purpose ≢ IKE_SA_INIT) (asked : Request) (after : WaitsAfter serial number asked p) where
  silent : requests_in p.said ≡ [] → goes_again serial number p ≡ false
  silent none = ap (list_any (is_named serial number)) none

  unchanged : p.after.machine ≡ p.before.machine → requests_in p.said ≡ [] → IsCounted serial number p request asked
  unchanged same none =
      as_before serial number p request asked
      (one_waiting p.before.machine.held serial number asked request (subst (λ (m : Machine). WaitsAt m.held serial number asked) same after) waiting)
      (silent none)

  -- ---- a moment

  module _ (now : ℕ) (b : Brought now p) where
    sent : list_any (is_named serial number) (flat_map (sent_of now) p.before.machine.held.associations) ≡ goes_again serial number p
    sent = sym (ap (λ (s : OutputView). list_any (is_named serial number) (requests_in s)) b.said ∙ ap (list_any (is_named serial number)) b.due.requests)

    by_due : (due : Bool) → is_due now request ≡ due → (sends : Bool) → goes_again serial number p ≡ sends → has_failed now waiting.association ≡ false → IsCounted serial number p request asked
    by_due true is_so sends told answered =
        once_more now serial number p request asked
        (one_waiting p.after.machine.held serial number asked (after_sending now request) after
        (waits_on now p.before.machine.held p.before.table b.ticked p.after.machine.held p.after.table b.due is.sound.machine.held serial number request waiting answered)
        ∙ sent_where_due (is_due now request) now request refl is_so)
        (ap (λ (s : OutputView). list_any (is_named serial number) (requests_in s)) b.said
        ∙ any_there (is_named serial number) b.ticked.requests (resent waiting.association (number, request))
        (goes_out now p.before.machine.held p.before.table b.ticked p.after.machine.held p.after.table b.due is.sound.machine.held serial number request waiting answered is_so)
        (both _ _
        (eq-eqb waiting.association.serial serial (named now p.before.machine.held p.before.table b.ticked p.after.machine.held p.after.table b.due is.sound.machine.held serial number request waiting))
        (eq-eqb number number refl)))
    by_due false is_so true told answered =
        let due = due_if_sent now p.before.machine.held p.before.table is.sound.machine.held serial number request waiting (sent ∙ told) in
        absurd (let wrong : true ≡ false = sym due ∙ is_so in cc)
    by_due false is_so false told answered =
        as_before serial number p request asked
        (one_waiting p.after.machine.held serial number asked (after_sending now request) after
        (waits_on now p.before.machine.held p.before.table b.ticked p.after.machine.held p.after.table b.due is.sound.machine.held serial number request waiting answered)
        ∙ same_where_not now request is_so)
        told

    by_failed : (failed : Bool) → has_failed now waiting.association ≡ failed → IsCounted serial number p request asked
    by_failed true failed =
        absurd (waits_no_more now p.before.machine.held p.before.table b.ticked p.after.machine.held p.after.table b.due is.sound.machine.held serial number request waiting failed asked after)
    by_failed false answered = by_due (is_due now request) refl (goes_again serial number p) refl answered

  by_memory : (short : Bool) → wants_memory p.said ≡ short → (now : ℕ) (told : IsTold now p) → IsCounted serial number p request asked
  by_memory false taken now told = by_failed now (brought comes unrefused meaning_of now p is told taken) (has_failed now waiting.association) refl
  by_memory true short now told = unchanged (stands_still comes unrefused meaning_of now p is told short) (says_nothing comes unrefused meaning_of now p is told short)

  -- ---- any other input

  at_rest : (stepped : Stepped) → StaysAt p.before.machine stepped p.after.machine → requests_in p.said ≡ [] → IsCounted serial number p request asked
  at_rest stepped stays none = elim (stays.waits serial number asked after) [
    | inl before ↦ as_before serial number p request asked (one_waiting p.before.machine.held serial number asked request before waiting) (silent none)
    | inr starts ↦ (elim starts.fresh [
      | inl new ↦ absurd (new request waiting)
      | inr cookie ↦
          (let same : cookie.before ≡ waiting.association = same_one cookie.before waiting.association (sym cookie.stood ∙ waiting.there) in
          absurd (keyed (not_begin waiting.association.phase cookie.takes.before waiting.association.outgoing.outstanding number request
          (ap (λ (a : Association). a.phase) (sym same) ∙ cookie.takes.was)
          (suits_at p.before.machine.held p.before.table serial number request is.sound.machine.held waiting) waiting.waits)))
    ])
  ]

  by_ike : (given : ike.InputView) → ike.is_tick given ≡ false
      → StepsIke (meaning_of p.before.caller) p.before.entries given p.before.machine p.before.table p.said is.steps.trace p.after.machine p.after.table
      → IsCounted serial number p request asked
  by_ike given other (inl answers) =
      let stays : StaysAt p.before.machine answers.stepped p.after.machine =
      still (meaning_of p.before.caller) p.before.entries given p.before.machine p.before.table answers.stepped p.after.machine p.after.table other is.sound.machine answers.steps in
      at_rest answers.stepped stays (ap requests_in answers.output ∙ silent_ike answers.stepped.output stays.said)
  by_ike given other (inr refuses) = unchanged refuses.machine (ap requests_in refuses.output)

  by_input : (given : Input) → p.given ≡ given
      → DoesInput (meaning_of p.before.caller) p.before.entries given p.before.machine p.before.table p.said is.steps.trace p.after.machine p.after.table
      → IsCounted serial number p request asked
  by_input (input.Ike from octets fresh) same does = by_ike (ike.Message from octets fresh) refl does
  by_input (input.Start ike_serial entry fresh) same does = by_ike (ike.Start ike_serial entry fresh) refl does
  by_input (input.Probe ike_serial fresh) same does = by_ike (ike.Order (orders.Probe ike_serial) fresh) refl does
  by_input (input.DeleteChild child fresh) same does = by_ike (ike.Order (orders.DeleteChild child) fresh) refl does
  by_input (input.DeleteIke ike_serial fresh) same does = by_ike (ike.Order (orders.DeleteIke ike_serial) fresh) refl does
  by_input (input.Secret secret) same does = by_ike (ike.Secret secret) refl does
  by_input (input.Tick moment) same does = by_memory (wants_memory p.said) refl (max p.before.machine.moment moment) (record { moment = moment; given = same; greatest = refl })
  by_input (input.Esp octets) same (leaves, receives) = unchanged leaves.machine (ap requests_in receives.output ∙ silent_outcome receives.outcome)
  by_input (input.Outward packet) same (leaves, inl sends) = unchanged leaves.machine (ap requests_in sends.output ∙ silent_outcome sends.outcome)
  by_input (input.Outward packet) same (leaves, inr lacks) = unchanged leaves.machine (ap requests_in lacks.output)
  by_input (input.Inward packet) same (leaves, admits, table) = unchanged leaves.machine (ap requests_in admits.output ∙ silent_outcome admits.outcome)

  pub counted_once : IsCounted serial number p request asked
  counted_once = by_input p.given refl is.steps.traces.does

-- ---- all steps

module _ {C : Type 0} (comes : WhatIsDueComes) (unrefused : MomentsAreRefusedForMemoryAlone) (still : TheTimeStandsStill) (meaning_of : C → Meaning) (serial number : ℕ) where
  -- it waits before the next step, or at the end
  waits_next : (ps : List (Passage C)) (s new : State C) (asked : Request) → IsTrail meaning_of s ps new → WaitsThroughout serial number ps → WaitsAt new.machine.held serial number asked
      → (r : Request) × WaitsAt s.machine.held serial number r
  waits_next [] s new asked trail through ends = (asked, subst (λ (x : State C). WaitsAt x.machine.held serial number asked) trail ends)
  waits_next (q ∷ qs) s new asked trail through ends = (through.0.0, subst (λ (x : State C). WaitsAt x.machine.held serial number through.0.0) trail.0 through.0.1)

  pub counted : (ps : List (Passage C)) (old new : State C) (request asked : Request) → IsTrail meaning_of old ps new → WaitsAt old.machine.held serial number request → exchange_of request.purpose ≢ IKE_SA_INIT
      → WaitsThroughout serial number ps → WaitsAt new.machine.held serial number asked
      → (asked.octets ≡ request.octets) × (asked.timer.repeats ≡ request.timer.repeats + times_again serial number ps) × (asked.purpose ≡ request.purpose)
  counted [] old new request asked trail waiting keyed through ends =
      let same : asked ≡ request = one_waiting old.machine.held serial number asked request (subst (λ (x : State C). WaitsAt x.machine.held serial number asked) trail ends) waiting in
      (ap (λ (r : Request). r.octets) same, (let repeats = ap (λ (r : Request). r.timer.repeats) same in omega (arith, repeats)), ap (λ (r : Request). r.purpose) same)
  counted (p ∷ ps) old new request asked trail waiting keyed through ends =
      let then = waits_next ps p.after new asked trail.2 through.1 ends in
      let one : IsCounted serial number p request then.0 =
      counted_once comes unrefused still meaning_of serial number p trail.1 request (subst (λ (x : State C). WaitsAt x.machine.held serial number request) (sym trail.0) waiting) keyed then.0 then.1 in
      let rest = counted ps p.after new then.0 asked trail.2 then.1 (λ is. keyed (ap exchange_of (sym one.purpose) ∙ is)) through.1 ends in
      (rest.0 ∙ one.octets, (let here = one.repeats in let further = rest.1 in omega (arith, here, further)), rest.2 ∙ one.purpose)

-- no request went out more often than it may
pub often_enough : (moment now : ℕ) (held : Held) (serial number : ℕ) (asked : Request) (times : ℕ) → All (IsInTime moment) held.associations → WaitsAt held serial number asked → IsDue asked.timer now Over
    → asked.timer.repeats ≡ times → times ≡ length waits
often_enough moment now held serial number asked times timely waiting over same =
    let in_time : IsInTime moment waiting.association = All-contains (IsInTime moment) held.associations waiting.association timely (found serial held.associations waiting.association waiting.there).among in
    let most = in_time.begun.often number asked waiting.waits in
    let least = over.1 in
    omega (arith, most, least, same)
