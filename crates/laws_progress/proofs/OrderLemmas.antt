-- What comes in order lies above the window, and little enough above it.
use Rattle.std.proofs.Common.{◌≡◌, ◌↔◌, ◌⊎◌, ◌^◌, ◌+◌, ◌<◌, ◌≤◌, ◌&&◌, Bool, true, false, ℕ, List, [], ◌∷◌, length, take, Option, Some, None, inl, inr, refl, sym, ap, ◌∙◌, subst, arith}
use Rattle.std.specs.FinSet as set
use Rattle.std.specs.List.{slice_get}
use Rattle.std.specs.Option.{option_map}
use Rattle.std.specs.Ordering.{nat_cmp}
use Rattle.std.specs.Prelude.{nat_lt}
use Rattle.std.proofs.lemmas.Bool.{and_from, both_ways, cases_lt, false_from_ne_true, lt-ltb}
use Rattle.std.proofs.lemmas.Option.{slice_get-map, slice_get_within}
use Rattle.base.specs.Octets.{Octets}
use Rattle.replay.specs.Window.{IsSoundWindow}
use Rattle.esp.specs.Delivery.{greatest, Shows}
use Rattle.esp.proofs.NumberLemmas.{contained-le, greatest-contained}
use Rattle.sadb.specs.Database.{pair_at, Database}
use Rattle.sadb.specs.declared.pair.Pair.{Pair}
use Rattle.effects.specs.Taking.{Meaning}
use Rattle.deliveries.specs.Numbers.{taken_at_first, taken_before, taken_by}
use Rattle.deliveries.specs.Promises.{ChildIsJudged}
use Rattle.gateway.specs.Histories.{IsHistory, IsTrail, Passage}
use Rattle.gateway.specs.LawsOfRuns.{EveryRunKeepsItsPromises}
use Rattle.gateway.specs.LawsOfWorlds.{EachEndHasItsHistory}
use Rattle.gateway.specs.Outputs.{Up}
use Rattle.gateway.specs.Packets.{table_passage, table_passages, JudgesOne, PacketsAreDelivered}
use Rattle.gateway.specs.States.{IsSoundState, State}
use Rattle.gateway.specs.WorldHistories.{passage_at, passages_at, Happening, IsWorldTrail}
use Rattle.gateway.specs.WorldRuns.{inputs_at, outputs_at}
use Rattle.gateway.specs.Worlds.{gateway_at, WorldState}
use Rattle.gateway.specs.declared.world.stored.End.{End}
use Rattle.gateway.proofs.HistoryLemmas.{exists, Exists}
use Rattle.laws_progress.specs.Delivering.{ComesTo, MayBeAccepted, WasSealedFor}
use Rattle.laws_progress.specs.InOrder.{ComesInOrder, ComesInTime, FollowsClosely, WasAccepted, WasAcceptedBefore, WasGreatestAtFirst}
use Rattle.laws_progress.proofs.CrossingLemmas.{HandsUpLaw}
use Rattle.laws_progress.proofs.DeliveringLemmas.{above_goes_up, goes_up, sealed_positive}
use Rattle.laws_progress.proofs.PlaceLemmas.{events_of, history_of, located, outputs_of, run_of, ComesFrom, Located, StandsAt}
use Rattle.laws_progress.proofs.TakenLemmas.{stays_taken, taken_from, taken_later}

there_too : {C : Type 0} (ps : List (Passage C)) (place : ℕ) (p : Passage C) → slice_get ps place ≡ Some p → slice_get (table_passages ps) place ≡ Some (table_passage p)
there_too {C} ps place p there = slice_get-map table_passage ps place ∙ ap (option_map table_passage) there

none_there : {X : Type 0} (xs : List X) (place : ℕ) (x : X) → xs ≡ [] → slice_get xs place ≡ Some x → ⊥
none_there {X} xs place x is there = let fits = slice_get_within xs place x there in let none : length xs ≡ 0 = ap length is in omega (arith, fits, none)

-- the pair that the first of some steps finds
record FirstHas (s : Database) (child number : ℕ) : Type 0 where
  pair : Pair
  held : pair_at s.pairs child ≡ Some pair
  taken : set.contains pair.inbound.window.taken number ≡ true

nothing_taken : (number : ℕ) → set.contains (set.empty {R = nat_cmp}) number ≡ true → ⊥
nothing_taken number is = let none = set.contains-empty nat_cmp number in cc

taken_of : (found : Option Pair) (s : Database) (child number : ℕ) → pair_at s.pairs child ≡ found → set.contains (taken_by found) number ≡ true → FirstHas s child number
taken_of None s child number is taken = absurd (nothing_taken number taken)
taken_of (Some pair) s child number is taken = record { pair = pair; held = is; taken = taken }

both_first : (x y : Bool) → (x && y) ≡ true → x ≡ true
both_first true y is = refl
both_first false y is = absurd cc

-- the gateway judged a packet as this number at an earlier step of its own
record JudgedEarlier {C : Type 0} (ps : List (Passage C)) (place child number : ℕ) : Type 0 where
  earlier : ℕ
  before : earlier < place
  passage : Passage C
  there : slice_get ps earlier ≡ Some passage
  accepts : JudgesOne child number passage

-- ---- one end

module _ {C : Type 0} (meaning_of : C → Meaning) (first new : State C) (ps : List (Passage C)) (trail : IsTrail meaning_of first ps new) (packets : PacketsAreDelivered ps) (child : ℕ) where
  child_judged : ChildIsJudged child (table_passages ps)
  child_judged = packets.judged.children child

  at_first_is : (qs : List (Passage C)) → IsTrail meaning_of first qs new → (p : Passage C) (place number : ℕ) → slice_get qs place ≡ Some p
      → set.contains (taken_at_first child (table_passages qs)) number ≡ true → FirstHas first.table child number
  at_first_is [] is p place number there taken = absurd (none_there [] place p refl there)
  at_first_is (q ∷ qs) is p place number there taken =
      taken_of (pair_at q.before.table.pairs child) first.table child number (ap (λ (s : State C). pair_at s.table.pairs child) (sym is.0)) taken

  at_first_has : (qs : List (Passage C)) → IsTrail meaning_of first qs new → (p : Passage C) (place number : ℕ) → slice_get qs place ≡ Some p → (pair : Pair) → pair_at first.table.pairs child ≡ Some pair
      → set.contains pair.inbound.window.taken number ≡ true → set.contains (taken_at_first child (table_passages qs)) number ≡ true
  at_first_has [] is p place number there pair held taken = absurd (none_there [] place p refl there)
  at_first_has (q ∷ qs) is p place number there pair held taken =
      let found : pair_at q.before.table.pairs child ≡ Some pair = ap (λ (s : State C). pair_at s.table.pairs child) is.0 ∙ held in
      ap (λ (o : Option Pair). set.contains (taken_by o) number) found ∙ taken

  first_sound : (qs : List (Passage C)) → IsTrail meaning_of first qs new → (p : Passage C) (place : ℕ) → slice_get qs place ≡ Some p → IsSoundState first
  first_sound [] is p place there = absurd (none_there [] place p refl there)
  first_sound (q ∷ qs) is p place there = subst IsSoundState is.0 is.1.sound

  module _ (place : ℕ) (p : Passage C) (pair : Pair) (there : slice_get ps place ≡ Some p) (held : pair_at p.before.table.pairs child ≡ Some pair) where
    shown : Shows pair.inbound.window pair.inbound.window.size (taken_before child (table_passages ps) child_judged.numbers place)
    shown = child_judged.window place (table_passage p) pair (there_too ps place p there) held

    sound_at_first : (was : Pair) → pair_at first.table.pairs child ≡ Some was → IsSoundWindow was.inbound.window
    sound_at_first was stood = (first_sound ps trail p place there).table.window child was stood

    -- what was taken before is what the first window had, and what was judged since
    taken_so : (number : ℕ) → set.contains (taken_before child (table_passages ps) child_judged.numbers place) number ≡ true → FirstHas first.table child number ⊎ JudgedEarlier ps place child number
    taken_so number taken = elim (taken_from (taken_at_first child (table_passages ps)) child_judged.numbers place number taken) [
      | inl at_first ↦ inl (at_first_is ps trail p place number there at_first)
      | inr judged ↦
          let within = slice_get_within ps place p there in
          let less = judged.earlier in
          let at : Exists ps judged.place = exists ps judged.place (omega (arith, within, less)) in
          inr (record {
            earlier = judged.place;
            before = judged.earlier;
            passage = at.passage;
            there = at.there;
            accepts = (packets.judges judged.place child number at.passage at.there).0
                ((child_judged.numbers_are.exactly judged.place number (table_passage at.passage) (there_too ps judged.place at.passage at.there)).0 judged.judged);
          })
    ]

    first_taken : (was : Pair) (number : ℕ) → pair_at first.table.pairs child ≡ Some was → set.contains was.inbound.window.taken number ≡ true
        → set.contains (taken_before child (table_passages ps) child_judged.numbers place) number ≡ true
    first_taken was number stood taken =
        stays_taken (taken_at_first child (table_passages ps)) (take place child_judged.numbers) number (at_first_has ps trail p place number there was stood taken)

    judged_taken : (number : ℕ) → JudgedEarlier ps place child number → set.contains (taken_before child (table_passages ps) child_judged.numbers place) number ≡ true
    judged_taken number is =
        taken_later (taken_at_first child (table_passages ps)) child_judged.numbers place is.earlier number
        ((child_judged.numbers_are.exactly is.earlier number (table_passage is.passage) (there_too ps is.earlier is.passage is.there)).1
        ((packets.judges is.earlier child number is.passage is.there).1 is.accepts)) is.before

    -- ---- the top of the window

    taken_below_top : (number : ℕ) → set.contains (taken_before child (table_passages ps) child_judged.numbers place) number ≡ true → number ≤ pair.inbound.window.top
    taken_below_top number taken =
        let under = contained-le (taken_before child (table_passages ps) child_judged.numbers place) number taken in
        let top = shown.top in
        omega (arith, under, top)

    greatest_below_top : (was : Pair) → pair_at first.table.pairs child ≡ Some was → was.inbound.window.top ≤ pair.inbound.window.top
    greatest_below_top was stood =
        elim (cases_lt 0 was.inbound.window.top) [
          | inl some ↦ taken_below_top was.inbound.window.top (first_taken was was.inbound.window.top stood ((sound_at_first was stood).top_taken (omega (arith, some))))
          | inr none ↦ omega (arith, none)
        ]

    judged_below_top : (number : ℕ) → JudgedEarlier ps place child number → number ≤ pair.inbound.window.top
    judged_below_top number is = taken_below_top number (judged_taken number is)

    top_from : (pair.inbound.window.top ≡ 0) ⊎ (WasGreatestAtFirst child pair.inbound.window.top first ⊎ JudgedEarlier ps place child pair.inbound.window.top)
    top_from = elim (cases_lt 0 pair.inbound.window.top) [
      | inl some ↦
          let top : pair.inbound.window.top ≡ greatest (taken_before child (table_passages ps) child_judged.numbers place) = shown.top in
          let taken : set.contains (taken_before child (table_passages ps) child_judged.numbers place) pair.inbound.window.top ≡ true =
          ap (λ (n : ℕ). set.contains (taken_before child (table_passages ps) child_judged.numbers place) n) top
          ∙ greatest-contained (taken_before child (table_passages ps) child_judged.numbers place) (omega (arith, some, top)) in
          inr (elim (taken_so pair.inbound.window.top taken) [
            | inl has ↦
                let up_to = (sound_at_first has.pair has.held).up_to_top pair.inbound.window.top has.taken in
                let under = greatest_below_top has.pair has.held in
                inl (record { pair = has.pair; held = has.held; greatest = omega (arith, up_to, under) })
            | inr judged ↦ inr judged
          ])
      | inr none ↦ inl (omega (arith, none))
    ]

    -- ---- what the window has taken

    in_window : (number : ℕ) → set.contains pair.inbound.window.taken number ≡ true → FirstHas first.table child number ⊎ JudgedEarlier ps place child number
    in_window number is = taken_so number (both_first _ _ (sym (shown.in_span number) ∙ is))

    spanned : (number : ℕ) → pair.inbound.window.top < number + pair.inbound.window.size → set.contains (taken_before child (table_passages ps) child_judged.numbers place) number ≡ true
        → set.contains pair.inbound.window.taken number ≡ true
    spanned number reach taken =
        shown.in_span number
        ∙ and_from (set.contains (taken_before child (table_passages ps) child_judged.numbers place) number) (nat_lt pair.inbound.window.top (number + pair.inbound.window.size)) taken
        (lt-ltb pair.inbound.window.top (number + pair.inbound.window.size) reach)

    first_in_window : (was : Pair) (number : ℕ) → pair.inbound.window.top < number + pair.inbound.window.size → pair_at first.table.pairs child ≡ Some was
        → set.contains was.inbound.window.taken number ≡ true → set.contains pair.inbound.window.taken number ≡ true
    first_in_window was number reach stood taken = spanned number reach (first_taken was number stood taken)

    judged_in_window : (number : ℕ) → pair.inbound.window.top < number + pair.inbound.window.size → JudgedEarlier ps place child number → set.contains pair.inbound.window.taken number ≡ true
    judged_in_window number reach is = spanned number reach (judged_taken number is)

-- ---- a world

module _ {C : Type 0} (runs : EveryRunKeepsItsPromises C) (ends : EachEndHasItsHistory C) (meaning_of : C → Meaning) (old new : WorldState C)
    (happenings : List (Happening C)) (trail : IsWorldTrail meaning_of old happenings new) where
  own_history : (end : End) → IsHistory meaning_of (inputs_at end (events_of happenings)) (outputs_at end (events_of happenings) (outputs_of happenings)) (gateway_at end old) (gateway_at end new) (passages_at end happenings)
  own_history end = ends meaning_of end (events_of happenings) (outputs_of happenings) old new happenings (history_of meaning_of happenings old new trail)

  pub own_packets : (end : End) → PacketsAreDelivered (passages_at end happenings)
  own_packets end =
      let own = own_history end in
      let promises = runs meaning_of (inputs_at end (events_of happenings)) (outputs_at end (events_of happenings) (outputs_of happenings)) (gateway_at end old) (gateway_at end new)
      (run_of meaning_of (passages_at end happenings) (inputs_at end (events_of happenings)) (outputs_at end (events_of happenings) (outputs_of happenings)) (gateway_at end old) (gateway_at end new) own.takes own.says own.trail) in
      (promises.every (passages_at end happenings) own).packets

  module _ (place : ℕ) (pair : Pair) (h : Happening C) (there : slice_get happenings place ≡ Some h) (held : pair_at (gateway_at h.event.end h.before).table.pairs pair.serial ≡ Some pair) where
    stands : Located h.event.end happenings place h
    stands = located h.event.end happenings place h there refl

    -- steps of the world and steps of the end
    accepted : (number : ℕ) → JudgedEarlier (passages_at h.event.end happenings) stands.at pair.serial number → WasAcceptedBefore h.event.end happenings place pair.serial number
    accepted number is =
        let from : ComesFrom h.event.end happenings place is.passage = stands.back is.earlier is.passage is.before is.there in
        record {
          earlier = from.earlier;
          before = from.before;
          happening = from.happening;
          there = from.there;
          end_is = from.end_is;
          accepts = subst (λ (x : Passage C). JudgesOne pair.serial number x) from.is is.accepts;
        }

    judged : (number : ℕ) → WasAcceptedBefore h.event.end happenings place pair.serial number → JudgedEarlier (passages_at h.event.end happenings) stands.at pair.serial number
    judged number was =
        let at : StandsAt h.event.end happenings stands.at was.happening = stands.on was.earlier was.happening was.before was.there was.end_is in
        record { earlier = at.earlier; before = at.before; passage = passage_at h.event.end was.happening; there = at.there; accepts = was.accepts }

    -- the lemmas above, at this end and step
    pub top_was : (pair.inbound.window.top ≡ 0) ⊎ WasAccepted h.event.end old happenings place pair.serial pair.inbound.window.top
    top_was = elim (top_from meaning_of (gateway_at h.event.end old) (gateway_at h.event.end new) (passages_at h.event.end happenings) (own_history h.event.end).trail (own_packets h.event.end) pair.serial
        stands.at (passage_at h.event.end h) pair stands.there held) [
          | inl nothing ↦ inl nothing
          | inr (inl first) ↦ inr (inl first)
          | inr (inr was) ↦ inr (inr (accepted pair.inbound.window.top was))
        ]

    below_top : (number : ℕ) → WasAccepted h.event.end old happenings place pair.serial number → number ≤ pair.inbound.window.top
    below_top number (inl first) =
        let under = greatest_below_top meaning_of (gateway_at h.event.end old) (gateway_at h.event.end new) (passages_at h.event.end happenings) (own_history h.event.end).trail (own_packets h.event.end) pair.serial
        stands.at (passage_at h.event.end h) pair stands.there held first.pair first.held in
        let is = first.greatest in
        omega (arith, under, is)
    below_top number (inr was) =
        judged_below_top meaning_of (gateway_at h.event.end old) (gateway_at h.event.end new) (passages_at h.event.end happenings) (own_history h.event.end).trail (own_packets h.event.end) pair.serial
        stands.at (passage_at h.event.end h) pair stands.there held number (judged number was)

    -- ---- a bound on all that was accepted

    top_below : (bound : ℕ) → 1 ≤ bound → ((taken : ℕ) → WasAccepted h.event.end old happenings place pair.serial taken → taken < bound) → pair.inbound.window.top < bound
    top_below bound positive lower = elim top_was [
      | inl nothing ↦ omega (arith, nothing, positive)
      | inr was ↦ lower pair.inbound.window.top was
    ]

    recovered : (number : ℕ) → FollowsClosely h.event.end old happenings place pair number → number + pair.inbound.window.size ≤ pair.inbound.window.top + 2 ^ 32
    recovered number close =
        let within = close.within in
        elim close.was [
          | inl nothing ↦ omega (arith, within, nothing)
          | inr was ↦ let under = below_top close.last was in omega (arith, under, within)
        ]

    -- ---- the window and the list

    in_time_may : (number : ℕ) → 1 ≤ number → ComesInTime h.event.end old happenings place pair number → MayBeAccepted pair.inbound.association.extended pair.inbound.window number
    in_time_may number positive time = record {
      new = false_from_ne_true (set.contains pair.inbound.window.taken number) (λ is.
          elim (in_window meaning_of (gateway_at h.event.end old) (gateway_at h.event.end new) (passages_at h.event.end happenings) (own_history h.event.end).trail (own_packets h.event.end) pair.serial
          stands.at (passage_at h.event.end h) pair stands.there held number is) [
            | inl has ↦ both_ways _ (time.new_at_first has.pair has.held) has.taken
            | inr was ↦ time.new (accepted number was)
          ]);
      in_reach = top_below (number + pair.inbound.window.size) (omega (arith, positive)) time.in_reach;
      recovered = λ extended. recovered number (time.close extended);
    }

    may_in_time : (number : ℕ) → MayBeAccepted pair.inbound.association.extended pair.inbound.window number → ComesInTime h.event.end old happenings place pair number
    may_in_time number may = record {
      new = λ was.
          both_ways _ may.new
          (judged_in_window meaning_of (gateway_at h.event.end old) (gateway_at h.event.end new) (passages_at h.event.end happenings) (own_history h.event.end).trail (own_packets h.event.end) pair.serial
          stands.at (passage_at h.event.end h) pair stands.there held number may.in_reach (judged number was));
      new_at_first = λ was stood. false_from_ne_true (set.contains was.inbound.window.taken number) (λ is.
          both_ways _ may.new
          (first_in_window meaning_of (gateway_at h.event.end old) (gateway_at h.event.end new) (passages_at h.event.end happenings) (own_history h.event.end).trail (own_packets h.event.end) pair.serial
          stands.at (passage_at h.event.end h) pair stands.there held was number may.in_reach stood is));
      in_reach = λ taken was. (let under = below_top taken was in let reach = may.in_reach in omega (arith, under, reach));
      close = λ extended. record { last = pair.inbound.window.top; was = top_was; within = may.recovered extended };
    }

  module _ (law : HandsUpLaw) where
    pub in_time_goes_up : (place number : ℕ) (packet octets : Octets) (pair : Pair) (h : Happening C) → slice_get happenings place ≡ Some h
        → WasSealedFor pair number packet octets happenings → ComesTo pair octets h
        → (h.said ≡ Up pair.serial number packet) ↔ ComesInTime h.event.end old happenings place pair number
    in_time_goes_up place number packet octets pair h there was comes =
        let either = goes_up law meaning_of happenings old new trail place number packet octets pair h there was comes in
        let positive = sealed_positive meaning_of happenings old new trail number packet octets pair was in (
          λ is. may_in_time place pair h there comes.held number (either.0 is),
          λ time. either.1 (in_time_may place pair h there comes.held number positive time),
        )

    pub in_order_goes_up : (place number : ℕ) (packet octets : Octets) (pair : Pair) (h : Happening C) → slice_get happenings place ≡ Some h
        → WasSealedFor pair number packet octets happenings → ComesTo pair octets h → ComesInOrder h.event.end old happenings place pair number
        → h.said ≡ Up pair.serial number packet
    in_order_goes_up place number packet octets pair h there was comes order =
        above_goes_up law meaning_of happenings old new trail place number packet octets pair h there was comes
        (top_below place pair h there comes.held number (sealed_positive meaning_of happenings old new trail number packet octets pair was) order.above)
        (λ extended. recovered place pair h there comes.held number (order.close extended))
