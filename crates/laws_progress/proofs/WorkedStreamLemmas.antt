-- The packet of the run from two new gateways is a stream that comes in order.
use Rattle.std.proofs.Common.{◌≡◌, ◌⊎◌, ◌+◌, ◌^◌, ◌<◌, ◌≤◌, ℕ, zero, suc, true, List, map, Option, None, Some, inl, inr, refl, sym, ap, ◌∙◌, subst, arith}
use Rattle.std.specs.FinMap as finite
use Rattle.std.specs.List.{slice_get}
use Rattle.std.specs.Option.{option_map}
use Rattle.std.specs.Ordering.{nat_cmp}
use Rattle.std.proofs.lemmas.Option.{slice_get-map}
use Rattle.base.specs.Octets.{Octets}
use Rattle.esp.specs.Judging.{low_half, Judges}
use Rattle.esp.specs.Worked.{worked_payload}
use Rattle.esp.proofs.NumberLemmas.{judged_as_one}
use Rattle.sadb.specs.Database.{pair_at, IsOutbound}
use Rattle.sadb.specs.declared.pair.Pair.{Pair}
use Rattle.traffic.specs.Outcomes as traffic
use Rattle.traffic.specs.Sending.{Sends}
use Rattle.gateway.specs.Inputs.{Event, Input}
use Rattle.gateway.specs.Inputs as input
use Rattle.gateway.specs.LawsOfRuns.{EveryRunKeepsItsPromises}
use Rattle.gateway.specs.LawsOfWorlds.{EachEndHasItsHistory, WhatIsUnforgedByThenIsUnforged}
use Rattle.gateway.specs.Outputs.{OutputView, Sealed}
use Rattle.gateway.specs.Packets.{JudgesPacket}
use Rattle.gateway.specs.WorldHistories.{passage_at, Happening}
use Rattle.gateway.specs.Worlds.{gateway_at, TakesEvent}
use Rattle.gateway.specs.declared.world.stored.End.{End}
use Rattle.gateway.specs.declared.world.stored.End.TheVariants.{A, B}
use Rattle.laws_two_ends.specs.WorkedRecords.{worked_record}
use Rattle.laws_two_ends.specs.WorkedRuns.{events_of, new_ends, outputs_of, run_meaning, Exchanged, IsRunFromNewGateways}
use Rattle.laws_progress.specs.Delivering.{IsSealedBy, IsToGoBy}
use Rattle.laws_progress.specs.InOrder.{FollowsClosely, WasAccepted}
use Rattle.laws_progress.specs.Streams.{AcceptsNothingElse, ArriveInOrder, ArrivesAs, LeavesSmallGap}
use Rattle.laws_progress.specs.WorkedStreams.{IsProgressFromNewGateways, IsStreamFromNewGateways}
use Rattle.laws_progress.proofs.DeliveringLemmas as delivering
use Rattle.laws_progress.proofs.DeliveringLemmas.{step_at}
use Rattle.laws_progress.proofs.CrossingLemmas.{is_recovered}
use Rattle.laws_progress.proofs.OrderLemmas.{top_was}

-- ---- what stands in a list

record Found {X Y : Type 0} (f : X → Y) (xs : List X) (k : ℕ) (y : Y) : Type 0 where
  item : X
  there : slice_get xs k ≡ Some item
  is : f item ≡ y

same_item : {X : Type 0} (x y : X) → Some x ≡ Some y → x ≡ y
same_item {X} x y is = cc

none_some : {X : Type 0} (x : X) → None ≡ Some x → ⊥
none_some {X} x is = cc

found_in : {X Y : Type 0} (f : X → Y) (xs : List X) (k : ℕ) (y : Y) (o : Option X) → slice_get xs k ≡ o → option_map f o ≡ Some y → Found f xs k y
found_in {X} {Y} f xs k y None is mapped = absurd (none_some y mapped)
found_in {X} {Y} f xs k y (Some x) is mapped = record { item = x; there = is; is = same_item (f x) y mapped }

found : {X Y : Type 0} (f : X → Y) (xs : List X) (ys : List Y) (k : ℕ) (y : Y) → map f xs ≡ ys → slice_get ys k ≡ Some y → Found f xs k y
found {X} {Y} f xs ys k y all there = found_in f xs k y (slice_get xs k) refl (sym (slice_get-map f xs k) ∙ ap (λ (zs : List Y). slice_get zs k) all ∙ there)

stands : {X Y : Type 0} (f : X → Y) (xs : List X) (ys : List Y) (k : ℕ) (x : X) → map f xs ≡ ys → slice_get xs k ≡ Some x → slice_get ys k ≡ Some (f x)
stands {X} {Y} f xs ys k x all there = ap (λ (zs : List Y). slice_get zs k) (sym all) ∙ slice_get-map f xs k ∙ ap (option_map f) there

-- ---- the events of the run

-- an ESP packet comes at the seventh alone, and a packet goes out at the sixth alone
abbrev esp_place : ℕ → Input → Type 0
esp_place place (input.Esp octets) = place ≡ 6
esp_place place (input.Outward packet) = place ≡ 5
esp_place place (input.Ike from octets fresh) = Unit {0}
esp_place place (input.Inward packet) = Unit {0}
esp_place place (input.Start serial entry fresh) = Unit {0}
esp_place place (input.Probe serial fresh) = Unit {0}
esp_place place (input.DeleteChild child fresh) = Unit {0}
esp_place place (input.DeleteIke serial fresh) = Unit {0}
esp_place place (input.Secret secret) = Unit {0}
esp_place place (input.Tick moment) = Unit {0}

placed : (place : ℕ) (one other : Event) → Some one ≡ Some other → esp_place place one.input → esp_place place other.input
placed place one other same is = subst (λ (e : Event). esp_place place e.input) (same_item one other same) is

where_it_is : (e : Exchanged) (place : ℕ) (event : Event) → slice_get (events_of e) place ≡ Some event → esp_place place event.input
where_it_is e zero event there = placed 0 _ event there tt
where_it_is e (suc zero) event there = placed 1 _ event there tt
where_it_is e (suc (suc zero)) event there = placed 2 _ event there tt
where_it_is e (suc (suc (suc zero))) event there = placed 3 _ event there tt
where_it_is e (suc (suc (suc (suc zero)))) event there = placed 4 _ event there tt
where_it_is e (suc (suc (suc (suc (suc zero))))) event there = placed 5 _ event there refl
where_it_is e (suc (suc (suc (suc (suc (suc zero)))))) event there = placed 6 _ event there refl
where_it_is e (suc (suc (suc (suc (suc (suc (suc zero))))))) event there = placed 7 _ event there tt
where_it_is e (suc (suc (suc (suc (suc (suc (suc (suc zero)))))))) event there = placed 8 _ event there tt
where_it_is e (suc (suc (suc (suc (suc (suc (suc (suc (suc zero))))))))) event there = placed 9 _ event there tt
where_it_is e (suc (suc (suc (suc (suc (suc (suc (suc (suc (suc place)))))))))) event there = absurd (none_some event there)

-- ---- what is told by an input or an output

abbrev octets_in : Input → Octets
octets_in (input.Esp octets) = octets
octets_in (input.Outward packet) = packet
octets_in _ = worked_payload

abbrev number_in : OutputView → ℕ
number_in (Sealed child number octets) = number
number_in _ = 0

nothing_held : {C : Type 0} (a b : C) (end : End) (serial : ℕ) (pair : Pair) → pair_at (gateway_at end (new_ends a b)).table.pairs serial ≡ Some pair → ⊥
nothing_held {C} a b A serial pair held = none_some pair (sym (finite.get-empty nat_cmp serial) ∙ held)
nothing_held {C} a b B serial pair held = none_some pair (sym (finite.get-empty nat_cmp serial) ∙ held)

module _ {C : Type 0} (a b : C) (run : IsRunFromNewGateways a b) (runs : EveryRunKeepsItsPromises C) (histories : EachEndHasItsHistory C) where
  event_of : (place : ℕ) (h : Happening C) → slice_get run.happenings place ≡ Some h → slice_get (events_of run.exchanged) place ≡ Some h.event
  event_of place h there = stands (λ (g : Happening C). g.event) run.happenings (events_of run.exchanged) place h run.takes there

  comes_at_six : (place : ℕ) (h : Happening C) (octets : Octets) → slice_get run.happenings place ≡ Some h → h.event.input ≡ input.Esp octets → place ≡ 6
  comes_at_six place h octets there given = subst (λ (i : Input). esp_place place i) given (where_it_is run.exchanged place h.event (event_of place h there))

  goes_at_five : (place : ℕ) (h : Happening C) (packet : Octets) → slice_get run.happenings place ≡ Some h → h.event.input ≡ input.Outward packet → place ≡ 5
  goes_at_five place h packet there given = subst (λ (i : Input). esp_place place i) given (where_it_is run.exchanged place h.event (event_of place h there))

  is_the_step : (place : ℕ) (h : Happening C) (octets : Octets) → slice_get run.happenings place ≡ Some h → h.event.input ≡ input.Esp octets → h ≡ run.packet_step
  is_the_step place h octets there given =
      same_item h run.packet_step (sym there ∙ ap (slice_get run.happenings) (comes_at_six place h octets there given) ∙ run.delivers)

  -- ---- the packet is sealed

  seals : Found (λ (g : Happening C). g.event) run.happenings 5 (record { end = A; input = input.Outward worked_payload })
  seals = found (λ (g : Happening C). g.event) run.happenings (events_of run.exchanged) 5 (record { end = A; input = input.Outward worked_payload }) run.takes refl

  said_at_five : (h : Happening C) → slice_get run.happenings 5 ≡ Some h → Sealed 1 1 run.exchanged.packet ≡ h.said
  said_at_five h there = same_item (Sealed 1 1 run.exchanged.packet) h.said (stands (λ (g : Happening C). g.said) run.happenings (outputs_of run.exchanged) 5 h run.says there)

  -- ---- the pair to which it comes

  abbrev pair_is : Pair
  pair_is = run.packet_comes.pair

  held : pair_at (gateway_at run.answered.end run.packet_step.before).table.pairs run.answered.serial ≡ Some run.packet_comes.pair
  held =
      subst (λ (s : ℕ). pair_at (gateway_at run.answered.end run.packet_step.before).table.pairs s ≡ Some run.packet_comes.pair) run.packet_comes.own run.packet_comes.addressed.inbound.there

  arrives : ArrivesAs run.asked run.answered run.happenings 6 1 worked_payload
  arrives = record {
    happening = run.packet_step;
    here = run.delivers;
    octets = run.exchanged.packet;
    pair = run.packet_comes.pair;
    comes = record { end_is = run.packet_comes.end_is; given = run.packet_comes.given; held = held };
    sealing = 5;
    sealed_at = seals.item;
    there = seals.there;
    sealed = record {
      end_is = ap (λ (e : Event). e.end) seals.is ∙ sym run.asked_end;
      given = ap (λ (e : Event). e.input) seals.is;
      said = sym (said_at_five seals.item seals.there) ∙ ap (λ (s : ℕ). Sealed s 1 run.exchanged.packet) (sym run.asked_serial);
    };
  }

  -- ---- nothing else is accepted

  judged_one : (number : ℕ) (octets : Octets) → JudgesPacket run.answered.serial number octets (passage_at run.answered.end run.packet_step) → number ≡ 1
  judged_one number octets is =
      let same_octets : octets ≡ run.exchanged.packet = ap octets_in (sym is.given ∙ run.packet_comes.given) in
      let there : pair_at (gateway_at run.answered.end run.packet_step.before).table.pairs run.answered.serial ≡ Some is.takes.pair =
      subst (λ (s : ℕ). pair_at (gateway_at run.answered.end run.packet_step.before).table.pairs s ≡ Some is.takes.pair) (sym is.takes.child_is) is.takes.addressed.inbound.there in
      let same : is.takes.pair ≡ run.packet_comes.pair = same_item is.takes.pair run.packet_comes.pair (sym there ∙ held) in
      let judged : Judges run.packet_comes.pair.inbound.association run.packet_comes.pair.inbound.window run.exchanged.packet number =
      subst (λ (o : Octets). Judges run.packet_comes.pair.inbound.association run.packet_comes.pair.inbound.window o number) same_octets
      (subst (λ (p : Pair). Judges p.inbound.association p.inbound.window octets number) same is.takes.judged) in
      judged_as_one run.packet_comes.pair.inbound.association run.packet_comes.pair.inbound.window run.exchanged.packet number 1 judged run.packet_comes.judged

  nothing_else : AcceptsNothingElse run.asked run.answered run.happenings
  nothing_else place number octets h there end_is is =
      let six : place ≡ 6 = comes_at_six place h octets there is.given in
      let step : h ≡ run.packet_step = is_the_step place h octets there is.given in
      let one : number ≡ 1 = judged_one number octets (subst (λ (g : Happening C). JudgesPacket run.answered.serial number octets (passage_at run.answered.end g)) step is) in
      record {
        packet = worked_payload;
        arrives = subst (λ (k : ℕ). ArrivesAs run.asked run.answered run.happenings k number worked_payload) (sym six)
            (subst (λ (n : ℕ). ArrivesAs run.asked run.answered run.happenings 6 n worked_payload) (sym one) arrives);
      }

  -- ---- it comes in order

  arrives_at_six : (place number : ℕ) (packet : Octets) → ArrivesAs run.asked run.answered run.happenings place number packet → place ≡ 6
  arrives_at_six place number packet arrival = comes_at_six place arrival.happening arrival.octets arrival.here arrival.comes.given

  number_is_one : (place number : ℕ) (packet : Octets) → ArrivesAs run.asked run.answered run.happenings place number packet → number ≡ 1
  number_is_one place number packet arrival =
      let five : arrival.sealing ≡ 5 = goes_at_five arrival.sealing arrival.sealed_at packet arrival.there arrival.sealed.given in
      let there : slice_get run.happenings 5 ≡ Some arrival.sealed_at = ap (slice_get run.happenings) (sym five) ∙ arrival.there in
      ap number_in (sym arrival.sealed.said ∙ sym (said_at_five arrival.sealed_at there))

  none_before : (last : ℕ) → (last ≡ 0) ⊎ WasAccepted run.packet_step.event.end (new_ends a b) run.happenings 6 run.packet_comes.pair.serial last → last ≡ 0
  none_before last (inl nothing) = nothing
  none_before last (inr (inl first)) = absurd (nothing_held a b run.packet_step.event.end run.packet_comes.pair.serial first.pair first.held)
  none_before last (inr (inr was)) =
      let six : was.earlier ≡ 6 = comes_at_six was.earlier was.happening was.accepts.octets was.there was.accepts.judges.given in
      let before = was.before in
      absurd (omega (arith, six, before))

  nothing_taken : run.packet_comes.pair.inbound.window.top ≡ 0
  nothing_taken =
      none_before run.packet_comes.pair.inbound.window.top
      (top_was runs histories (λ _. run_meaning) (new_ends a b) run.last run.happenings run.trail 6 run.packet_comes.pair run.packet_step run.delivers
      (subst (λ (e : End). pair_at (gateway_at e run.packet_step.before).table.pairs run.packet_comes.pair.serial ≡ Some run.packet_comes.pair) (sym run.packet_comes.end_is)
      run.packet_comes.addressed.inbound.there))

  small_gap : (place number : ℕ) (packet : Octets) → (arrival : ArrivesAs run.asked run.answered run.happenings place number packet) → arrival.pair.inbound.association.extended ≡ true
      → LeavesSmallGap run.asked run.answered (new_ends a b) run.happenings place arrival.pair number
  small_gap place number packet arrival extended =
      let step : arrival.happening ≡ run.packet_step = is_the_step place arrival.happening arrival.octets arrival.here arrival.comes.given in
      let there : pair_at (gateway_at run.answered.end run.packet_step.before).table.pairs run.answered.serial ≡ Some arrival.pair =
      subst (λ (g : Happening C). pair_at (gateway_at run.answered.end g.before).table.pairs run.answered.serial ≡ Some arrival.pair) step arrival.comes.held in
      let same : run.packet_comes.pair ≡ arrival.pair = same_item run.packet_comes.pair arrival.pair (sym held ∙ there) in
      let one : number ≡ 1 = number_is_one place number packet arrival in
      let top : arrival.pair.inbound.window.top ≡ 0 = ap (λ (p : Pair). p.inbound.window.top) (sym same) ∙ nothing_taken in
      let judged : Judges arrival.pair.inbound.association arrival.pair.inbound.window run.exchanged.packet 1 =
      subst (λ (p : Pair). Judges p.inbound.association p.inbound.window run.exchanged.packet 1) same run.packet_comes.judged in
      let within : 1 + arrival.pair.inbound.window.size ≤ arrival.pair.inbound.window.top + 2 ^ 32 =
      is_recovered arrival.pair.inbound.association.extended arrival.pair.inbound.window (low_half run.exchanged.packet) 1 judged.number extended in
      record { last = 0; was = inl refl; within = omega (arith, within, top, one) }

  in_order : ArriveInOrder run.asked run.answered (new_ends a b) run.happenings
  in_order = record {
    ordered = λ place later number greater packet other less first second.
        let six = arrives_at_six place number packet first in
        let again = arrives_at_six later greater other second in
        absurd (omega (arith, less, six, again));
    above = λ place number taken packet arrival first. absurd (nothing_held a b run.answered.end run.answered.serial first.pair first.held);
    close = small_gap;
  }

  pub worked_stream : WhatIsUnforgedByThenIsUnforged C → IsStreamFromNewGateways a b
  worked_stream by_then = record {
    run = run;
    sound = run.sound worked_record;
    unforged = by_then (λ _. run_meaning) worked_record run.happenings (new_ends a b) run.last run.trail run.unforged;
    ends = inl run.of_one;
    arrives = arrives;
    nothing_else = nothing_else;
    in_order = in_order;
  }

  -- ---- the packet's way

  abbrev takes_at_five : TakesEvent (λ _. run_meaning) seals.item.event seals.item.before seals.item.said seals.item.after
  takes_at_five = step_at (λ _. run_meaning) run.happenings (new_ends a b) run.last run.trail 5 seals.item seals.there

  given_at_five : seals.item.event.input ≡ input.Outward worked_payload
  given_at_five = ap (λ (e : Event). e.input) seals.is

  abbrev sends : Sends (gateway_at seals.item.event.end seals.item.before).table (gateway_at seals.item.event.end seals.item.before).entries worked_payload (traffic.Sealed 1 1 run.exchanged.packet) takes_at_five.gateway.table
  sends = delivering.seals (λ _. run_meaning) seals.item takes_at_five 1 1 worked_payload run.exchanged.packet given_at_five (sym (said_at_five seals.item seals.there))

  abbrev near : Pair
  near = sends.protects.sealed.pair

  near_there : pair_at (gateway_at seals.item.event.end seals.item.before).table.pairs 1 ≡ Some near
  near_there = sends.protects.sealed.changed.there

  near_serial : near.serial ≡ 1
  near_serial = takes_at_five.sound.table.serial 1 near near_there

  near_held : pair_at (gateway_at seals.item.event.end seals.item.before).table.pairs near.serial ≡ Some near
  near_held = subst (λ (s : ℕ). pair_at (gateway_at seals.item.event.end seals.item.before).table.pairs s ≡ Some near) (sym near_serial) near_there

  goes : IsToGoBy near worked_payload seals.item
  goes = record {
    given = given_at_five;
    flow = sends.flow;
    protected = sends.decided;
    held = near_held;
    carries = subst (λ (s : ℕ). IsOutbound (gateway_at seals.item.event.end seals.item.before).table.pairs sends.flow s) (sym near_serial) sends.protects.carrier;
    number_left = sends.protects.sealed.sealed.has_number;
  }

  sealed : IsSealedBy near near.serial 1 worked_payload run.exchanged.packet seals.item
  sealed = record {
    given = given_at_five;
    said = sym (said_at_five seals.item seals.there) ∙ ap (λ (s : ℕ). Sealed s 1 run.exchanged.packet) (sym near_serial);
    stood = near_held;
  }

  -- ---- it comes to the other pair

  far_held : pair_at (gateway_at run.packet_step.event.end run.packet_step.before).table.pairs pair_is.serial ≡ Some pair_is
  far_held =
      subst (λ (e : End). pair_at (gateway_at e run.packet_step.before).table.pairs pair_is.serial ≡ Some pair_is) (sym run.packet_comes.end_is)
      run.packet_comes.addressed.inbound.there

  recovered : pair_is.inbound.association.extended ≡ true → 1 + pair_is.inbound.window.size ≤ pair_is.inbound.window.top + 2 ^ 32
  recovered extended =
      is_recovered pair_is.inbound.association.extended pair_is.inbound.window (low_half run.exchanged.packet) 1 run.packet_comes.judged.number extended

  close : pair_is.inbound.association.extended ≡ true → FollowsClosely run.packet_step.event.end (new_ends a b) run.happenings 6 pair_is 1
  close extended =
      let within = recovered extended in
      let top = nothing_taken in
      record { last = 0; was = inl refl; within = omega (arith, within, top) }

  nothing_before : (taken : ℕ) → WasAccepted run.packet_step.event.end (new_ends a b) run.happenings 6 pair_is.serial taken → taken < 1
  nothing_before taken was = let none = none_before taken (inr was) in omega (arith, none)

  pub worked_progress : IsProgressFromNewGateways a b
  worked_progress = record {
    run = run;
    sealing = seals.item;
    seals = seals.there;
    pair = near;
    goes = goes;
    sealed = sealed;
    mirror = pair_is;
    comes = record { given = run.packet_comes.given; held = far_held };
    may = record { new = run.packet_comes.judged.new; in_reach = run.packet_comes.judged.in_reach; recovered = recovered };
    in_time = record {
      new = λ was.
          let six : was.earlier ≡ 6 = comes_at_six was.earlier was.happening was.accepts.octets was.there was.accepts.judges.given in
          let before = was.before in
          omega (arith, six, before);
      new_at_first = λ was there. absurd (nothing_held a b run.packet_step.event.end pair_is.serial was there);
      in_reach = λ taken was. let less = nothing_before taken was in omega (arith, less);
      close = close;
    };
    in_order = record { above = nothing_before; close = close };
  }
