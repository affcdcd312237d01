-- In the run with extended sequence numbers no ICV is forged: what comes has the number that it has by the
-- numbers taken before it.
use Rattle.std.proofs.Common.{◌≡◌, ◌↔◌, ◌∷◌, ℕ, zero, suc, true, List, [], Option, Some, None, length, ap, arith, refl, subst, sym, ◌∙◌}
use Rattle.std.specs.FinMap as map
use Rattle.std.specs.FinSet as set
use Rattle.std.specs.Ordering.{nat_cmp}
use Rattle.std.specs.Prelude.{slice_get, take}
use Rattle.std.proofs.lemmas.Bool.{both_ways}
use Rattle.base.specs.Octets.{Octets}
use Rattle.replay.specs.Window.{unused_window}
use Rattle.esp.specs.Delivery.{greatest, taken_after}
use Rattle.esp.specs.Judging.{low_half, IsJudgedLength, IsNumber}
use Rattle.esp.specs.Packet.{PassesIntegrity}
use Rattle.esp.specs.Worked.{worked_payload}
use Rattle.esp.specs.declared.sa.Sa as esp
use Rattle.esp.proofs.NumberLemmas.{greatest-is}
use Rattle.sadb.specs.Database.{pair_at}
use Rattle.sadb.specs.declared.pair.Pair.{Pair}
use Rattle.exchange.specs.declared.headers.Role.TheVariants.{Responder}
use Rattle.children.specs.Pairs.{inbound_of}
use Rattle.traffic.specs.Outcomes as traffic
use Rattle.deliveries.specs.Arrivals.{ComesTo, Unforged}
use Rattle.deliveries.specs.Numbers.{seen_before, taken_at_first, taken_by, AreNumbersOf, IsJudgedAs}
use Rattle.deliveries.specs.Passages as tables
use Rattle.gateway.specs.Packets.{table_passage, table_passages}
use Rattle.gateway.specs.WorldHistories.{passage_at, passages_at}
use Rattle.gateway.specs.declared.world.stored.End.TheVariants.{B}
use Rattle.gateway.proofs.PartyLemmas.{some_is}
use Rattle.laws_two_ends.proofs.MapLemmas.{none_found, only_there, put_again, put_there}
use Rattle.laws_two_ends.proofs.TableLemmas.{lone_in, none_taken}
use Rattle.laws_worked.specs.ExtendedRuns.{extended_numbers_of_it}
use Rattle.laws_worked.specs.Replays.{sent_to_it}
use Rattle.laws_worked.proofs.ExtendedCarriedLemmas.{is_taken, judged, low_half_is, number_is_one}
use Rattle.laws_worked.proofs.JudgedNumberLemmas.{are_numbers, nothing_came, packet_came}
use Rattle.laws_worked.proofs.ExtendedStages.{accepts, all_steps, answering_table, answers, carried_octets, hands_up, later_table, pair_of, terms}
use Rattle.laws_two_ends.proofs.LastLemmas.{answering_key, asking_key}
use Rattle.laws_two_ends.proofs.Stages.{agreed_keys, one_taken}

-- where nothing was judged at the first two places, nothing is taken before the third
first_two_none : (before : set.FinSet nat_cmp) (numbers : List (Option ℕ)) → ((n : ℕ) → slice_get numbers 0 ≡ Some (Some n) → ⊥)
    → ((n : ℕ) → slice_get numbers 1 ≡ Some (Some n) → ⊥) → taken_after before (take 2 numbers) ≡ before
first_two_none before [] zeroth first = refl
first_two_none before (Some n ∷ others) zeroth first = absurd (zeroth n refl)
first_two_none before (None ∷ []) zeroth first = refl
first_two_none before (None ∷ (Some n ∷ others)) zeroth first = absurd (first n refl)
first_two_none before (None ∷ (None ∷ others)) zeroth first = refl

greatest-empty : greatest set.empty ≡ 0
greatest-empty = sym (greatest-is set.empty 0 (λ n e. absurd (both_ways _ (none_taken n) e)) (λ h. absurd (omega (arith, h))))

none_came : (r : tables.Reception) → None ≡ Some r → ⊥
none_came r is = cc

same_reception : (one other : tables.Reception) → Some one ≡ Some other → other.packet ≡ one.packet
same_reception one other is = ap (λ (r : tables.Reception). r.packet) (sym (some_is one other is))

-- what B receives by
abbrev by : esp.Sa
by = inbound_of Responder agreed_keys terms

module _ {C : Type 0} (a b : C) where
  abbrev arrivals : List tables.Passage
  arrivals = table_passages (passages_at B (all_steps a b))

  abbrev zeroth : tables.Passage
  zeroth = table_passage (passage_at B (answers a b))

  abbrev first : tables.Passage
  first = table_passage (passage_at B (accepts a b))

  abbrev second : tables.Passage
  second = table_passage (passage_at B (hands_up a b))

  no_pair : (pair : Pair) → pair_at map.empty 1 ≡ Some pair → ⊥
  no_pair pair there = none_found map.empty refl 1 pair there

  association_at : (pair : Pair) → pair_at second.before.pairs 1 ≡ Some pair → pair.inbound.association ≡ by
  association_at pair there = ap (λ (p : Pair). p.inbound.association) ((lone_in (pair_of Responder 0 (unused_window 2))).only 1 pair there).content

  -- it is so wherever the pair stands
  association_in : (place : ℕ) (p : tables.Passage) → slice_get arrivals place ≡ Some p → (pair : Pair) → pair_at p.before.pairs 1 ≡ Some pair
      → pair.inbound.association ≡ by
  association_in zero p here pair there =
      absurd (no_pair pair (ap (λ (q : tables.Passage). pair_at q.before.pairs 1) (some_is zeroth p here) ∙ there))
  association_in (suc zero) p here pair there =
      absurd (no_pair pair (ap (λ (q : tables.Passage). pair_at q.before.pairs 1) (some_is first p here) ∙ there))
  association_in (suc (suc zero)) p here pair there =
      association_at pair (ap (λ (q : tables.Passage). pair_at q.before.pairs 1) (some_is second p here) ∙ there)
  association_in (suc (suc (suc place))) p here pair there = absurd cc

  -- ---- as which numbers packets are accepted

  number_there : (n : ℕ) → (Some 1 ≡ Some n) ↔ IsJudgedAs 1 n second
  number_there n = (
    λ is. subst (λ (k : ℕ). IsJudgedAs 1 k second) (some_is 1 n is) (record {
      reception = record { packet = carried_octets; outcome = traffic.Up 1 1 worked_payload };
      received = refl;
      takes = is_taken 512 256 (omega arith) asking_key answering_key answering_table later_table.pairs
          (sym (put_again map.empty 1 (pair_of Responder 0 (unused_window 2)) (pair_of Responder 0 one_taken)));
    }),
    λ judges.
        let one : n ≡ 1 =
        number_is_one 512 256 (omega arith) asking_key answering_key answering_table judges.reception.packet 1 n later_table
        (packet_came (record { packet = carried_octets; outcome = traffic.Up 1 1 worked_payload }) judges.reception second refl judges.received) judges.takes in
        ap (λ (k : ℕ). Some k) (sym one),
  )

  pub numbers_are : AreNumbersOf 1 arrivals extended_numbers_of_it
  numbers_are =
      are_numbers 1 arrivals extended_numbers_of_it (nothing_came 1 zeroth refl, (nothing_came 1 first refl, (number_there, tt)))

  module _ (numbers : List (Option ℕ)) (are : AreNumbersOf 1 arrivals numbers) where
    none_judged : (n : ℕ) (p : tables.Passage) → p.received ≡ None → IsJudgedAs 1 n p → ⊥
    none_judged n p none is = none_came is.reception (sym none ∙ is.received)

    none_before : taken_after (taken_at_first 1 arrivals) (take 2 numbers) ≡ set.empty
    none_before =
        first_two_none (taken_at_first 1 arrivals) numbers (λ n is. none_judged n zeroth refl ((are.exactly 0 n zeroth refl).0 is))
        (λ n is. none_judged n first refl ((are.exactly 1 n first refl).0 is))
        ∙ ap taken_by (map.get-empty nat_cmp 1)

    top_is : (pair : Pair) → (seen_before 1 pair arrivals numbers 2).top ≡ 0
    top_is pair = ap greatest none_before ∙ greatest-empty

    no_other : (place n : ℕ) (packet : Octets) (p : tables.Passage) (pair : Pair) → slice_get arrivals place ≡ Some p → ComesTo 1 pair packet p
        → IsNumber pair.inbound.association.extended (seen_before 1 pair arrivals numbers place) (low_half packet) n
        → map.get (sent_to_it carried_octets) n ≡ Some packet
    no_other zero n packet p pair here comes number =
        absurd (none_came comes.reception (ap (λ (q : tables.Passage). q.received) (some_is zeroth p here) ∙ comes.received))
    no_other (suc zero) n packet p pair here comes number =
        absurd (none_came comes.reception (ap (λ (q : tables.Passage). q.received) (some_is first p here) ∙ comes.received))
    no_other (suc (suc zero)) n packet p pair here comes number =
        let association : pair.inbound.association ≡ by = association_in 2 p here pair comes.stands in
        let came : carried_octets ≡ packet =
        sym (comes.packet_is
        ∙ same_reception (record { packet = carried_octets; outcome = traffic.Up 1 1 worked_payload }) comes.reception
        (ap (λ (q : tables.Passage). q.received) (some_is second p here) ∙ comes.received)) in
        let long : IsNumber true (seen_before 1 pair arrivals numbers 2) (low_half packet) n =
        subst (λ (s : esp.Sa). IsNumber s.extended (seen_before 1 pair arrivals numbers 2) (low_half packet) n) association number in
        let low = long.low_half in
        let cycle = long.one_cycle in
        let top = top_is pair in
        let one : low_half packet ≡ 1 = ap low_half (sym came) ∙ low_half_is 512 256 (omega arith) asking_key answering_key in
        let number_is : n ≡ 1 = omega (arith, low, cycle, top, one) in
        put_there map.empty 1 n carried_octets number_is ∙ ap (λ (o : Octets). Some o) came
    no_other (suc (suc (suc place))) n packet p pair here comes number = absurd cc

    pub is_unforged : Unforged 1 arrivals numbers (sent_to_it carried_octets)
    is_unforged = record {
      whole = λ n packet sent.
          subst (λ (o : Octets). IsJudgedLength (length o)) (sym (only_there map.empty refl 1 carried_octets n packet sent).content)
          (judged 512 256 (omega arith) asking_key answering_key).whole;
      intact = λ place n packet p pair here stands sent.
          let it = only_there map.empty refl 1 carried_octets n packet sent in
          let association : pair.inbound.association ≡ by = association_in place p here pair stands in
          subst (λ (s : esp.Sa). PassesIntegrity s n packet) (sym association)
          (subst (λ (k : ℕ). PassesIntegrity by k packet) (sym it.number)
          (subst (λ (o : Octets). PassesIntegrity by 1 o) (sym it.content) (judged 512 256 (omega arith) asking_key answering_key).intact));
      no_other = λ place n packet p pair here comes whole number intact. no_other place n packet p pair here comes number;
    }
