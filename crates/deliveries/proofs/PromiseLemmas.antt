-- Every list of steps keeps what is promised of its packets.
use Rattle.std.proofs.Common.{◌≡◌, ◌↔◌, ◌<◌, ◌≤◌, ℕ, Option, Some, None, List, refl, sym, ap, ◌∙◌, subst, inl, inr}
use Rattle.std.specs.Prelude.{slice_get}
use Rattle.std.specs.Ordering.{nat_cmp}
use Rattle.std.specs.FinMap as finite_map
use Rattle.base.specs.Octets.{Octets}
use Rattle.esp.specs.Delivery.{AtMostOnce, Shows}
use Rattle.esp.specs.Judging.{Judges}
use Rattle.sadb.specs.Database.{Database, pair_at}
use Rattle.sadb.specs.declared.pair.Pair.{Pair}
use Rattle.traffic.specs.Outcomes.{Dropped, Outcome}
use Rattle.traffic.specs.Receiving.{IsAddressedTo, Receives, TakesNumberAt, TakesOneNumber}
use Rattle.traffic.specs.declared.fault.PacketFault.{PacketFault}
use Rattle.deliveries.specs.Arrivals.{ComesTo, IsFirstArrival, IsToBeJudged, Unforged}
use Rattle.deliveries.specs.Numbers.{AreNumbersOf, IsJudgedAs, seen_before, taken_before}
use Rattle.deliveries.specs.Passages.{IsPassage, IsTrail, Leads, Passage, Reception}
use Rattle.deliveries.specs.Promises.{ChildIsJudged, IsAnswerDue, IsRefusedBy, IsTurnedAway, PacketsAreJudged, ReachesNone}
use Rattle.deliveries.proofs.AnswerLemmas.{due, judged_so, lost, shut}
use Rattle.deliveries.proofs.HistoryLemmas.{child_history, first_in, first_out, history_judged, unforged_in}
use Rattle.deliveries.proofs.SameLemmas.{has_end, stays_same}
use Rattle.deliveries.proofs.StepLemmas.{judged_or_away, of_reception, one_reception, one_taking, PacketFacts}
use Rattle.deliveries.proofs.TrailLemmas.{are_numbers, held, Numbered, numbered, passage_at}
use Rattle.deliveries.proofs.WindowLemmas.{judged_by_all, judged_by_shown, refused_by_all}

-- a packet that came was received
received_so : (p : Passage) (r : Reception) → IsPassage p → p.received ≡ Some r → Receives p.before r.packet r.outcome p.after
received_so p r is received = subst (λ (o : Option Reception). Leads p.before o p.after) received is.leads

-- what is judged comes to the Child SA
record JudgedComes (child n : ℕ) (p : Passage) : Type 0 where
  pair : Pair
  packet : Octets
  comes : ComesTo child pair packet p
  judged : Judges pair.inbound.association pair.inbound.window packet n

judged_comes : (child n : ℕ) (p : Passage) → IsJudgedAs child n p → JudgedComes child n p
judged_comes child n p j = record {
  pair = j.takes.pair;
  packet = j.reception.packet;
  comes = record {
    reception = j.reception;
    received = j.received;
    packet_is = refl;
    has_spi = j.takes.addressed.has_spi;
    stands = ap (pair_at p.before.pairs) j.takes.child_is ∙ j.takes.addressed.inbound.there;
    its_own = sym j.takes.addressed.inbound.its_own;
  };
  judged = j.takes.judged;
}

one_packet : (a b : Octets) → Some a ≡ Some b → a ≡ b
one_packet a b is = cc

-- what takes a sequence number at the step is the Child SA that the packet comes to
none_comes : (child : ℕ) (p : Passage) (r : Reception) (pair : Pair) → p.received ≡ Some r → ComesTo child pair r.packet p → ((n : ℕ) → ¬ IsJudgedAs child n p)
    → TakesOneNumber p.before r.packet p.after → ⊥
none_comes child p r pair received comes none t =
    let serial : child ≡ t.child =
    t.takes.addressed.inbound.only child (record { pair = pair; there = comes.stands; its_own = sym comes.its_own }) ∙ sym t.takes.child_is in
    none t.number (record {
      reception = r;
      received = received;
      takes = subst (λ (c : ℕ). TakesNumberAt p.before r.packet c t.number p.after) (sym serial) t.takes;
    })

module _ (facts : PacketFacts) (old : Database) (ps : List Passage) (new : Database) (trail : IsTrail old ps new) (child : ℕ) where
  abbrev all : Numbered child ps
  all = numbered facts child old ps new trail

  are : AreNumbersOf child ps all.numbers
  are = are_numbers child ps all.numbers all.are

  shown : (place : ℕ) (p : Passage) (pair : Pair) → slice_get ps place ≡ Some p → pair_at p.before.pairs child ≡ Some pair
      → Shows pair.inbound.window pair.inbound.window.size (taken_before child ps all.numbers place)
  shown place p pair here stands = (held facts child old ps all.numbers new place p trail all.are here).shown pair stands

  is_due : (place n : ℕ) (p : Passage) → slice_get ps place ≡ Some p → IsJudgedAs child n p → IsToBeJudged child ps all.numbers place n p
  is_due place n p here j =
      let c = judged_comes child n p j in
      record {
        pair = c.pair;
        packet = c.packet;
        comes = c.comes;
        judged = judged_by_all c.pair.inbound.window (taken_before child ps all.numbers place) (shown place p c.pair here c.comes.stands) c.pair.inbound.association c.packet n c.judged;
      }

  is_judged : (place n : ℕ) (p : Passage) → slice_get ps place ≡ Some p → IsToBeJudged child ps all.numbers place n p → IsJudgedAs child n p
  is_judged place n p here t =
      let passage = passage_at old ps new place p trail here in
      let r = t.comes.reception in
      let judged = judged_by_shown t.pair.inbound.window (taken_before child ps all.numbers place) (shown place p t.pair here t.comes.stands) t.pair.inbound.association t.packet n t.judged in
      let receives : Receives p.before t.packet r.outcome p.after =
      subst (λ (b : Octets). Receives p.before b r.outcome p.after) (sym t.comes.packet_is) (received_so p r passage t.comes.received) in
      let takes = judged_so p.before t.packet child t.pair t.comes.stands t.comes.its_own facts n judged r.outcome p.after receives in
      record {
        reception = r;
        received = t.comes.received;
        takes = subst (λ (b : Octets). TakesNumberAt p.before b child n p.after) t.comes.packet_is takes;
      }

  judged : (place n : ℕ) (p : Passage) → slice_get ps place ≡ Some p → IsJudgedAs child n p ↔ IsToBeJudged child ps all.numbers place n p
  judged place n p here = (is_due place n p here, is_judged place n p here)

  answered : (place n : ℕ) (p : Passage) (r : Reception) (pair : Pair) → slice_get ps place ≡ Some p → IsJudgedAs child n p → p.received ≡ Some r
      → pair_at p.before.pairs child ≡ Some pair → IsAnswerDue child n pair r.packet r.outcome
  answered place n p r pair here j received stands =
      due facts p.before r.packet child n p.after (of_reception child n p r received j) pair stands r.outcome
      (received_so p r (passage_at old ps new place p trail here) received)

  refused : (place : ℕ) (p : Passage) (r : Reception) (pair : Pair) → slice_get ps place ≡ Some p → p.received ≡ Some r → ComesTo child pair r.packet p
      → ((n : ℕ) → ¬ IsJudgedAs child n p) → IsRefusedBy pair (seen_before child pair ps all.numbers place) r
  refused place p r pair here received comes none =
      let receives = received_so p r (passage_at old ps new place p trail here) received in
      elim (judged_or_away facts p.before r.packet r.outcome p.after receives) [
        | inl t ↦ absurd (none_comes child p r pair received comes none t)
        | inr away ↦
            let s = shut p.before r.packet child pair comes.stands comes.its_own away.fault p.after away.before_judging
            (subst (λ (o : Outcome). Receives p.before r.packet o p.after) away.dropped receives) in
            record {
              fault = s.refusal;
              dropped = away.dropped ∙ ap (λ (f : PacketFault). Dropped f) s.fault_is;
              why =
                  refused_by_all pair.inbound.window (taken_before child ps all.numbers place) (shown place p pair here comes.stands)
                  pair.inbound.association r.packet s.refusal s.why;
            }
      ]

  at_first : (sent : finite_map.FinMap nat_cmp Octets) → Unforged child ps all.numbers sent → (place n : ℕ) (p : Passage) → slice_get ps place ≡ Some p
      → IsJudgedAs child n p ↔ IsFirstArrival child ps all.numbers sent n place
  at_first sent u place n p here =
      let end = has_end facts child old ps new trail in
      let is = history_judged child ps all.numbers end are judged in (
        λ j.
            let c = judged_comes child n p j in
            let unforged = unforged_in child ps all.numbers end sent u place p c.pair here c.comes.stands in
            first_out child ps all.numbers end sent u n place
            ((facts.exactly (child_history child ps all.numbers end) is sent unforged place n).0 ((are.exactly place n p here).1 j)),
        λ f.
            let a = f.arrives in
            let unforged = unforged_in child ps all.numbers end sent u place a.passage a.pair a.here a.comes.stands in
            (are.exactly place n p here).0
            ((facts.exactly (child_history child ps all.numbers end) is sent unforged place n).1 (first_in child ps all.numbers end sent u n place f)),
      )

  -- the packet that is judged as what was sent is what was sent
  as_sent : (sent : finite_map.FinMap nat_cmp Octets) → Unforged child ps all.numbers sent → (place n : ℕ) (p : Passage) (r : Reception) (pair : Pair) (packet : Octets)
      → slice_get ps place ≡ Some p → IsJudgedAs child n p → p.received ≡ Some r → pair_at p.before.pairs child ≡ Some pair
      → finite_map.get sent n ≡ Some packet → IsAnswerDue child n pair packet r.outcome
  as_sent sent u place n p r pair packet here j received stands is =
      let t = is_due place n p here j in
      let found : finite_map.get sent n ≡ Some t.packet =
      u.no_other place n t.packet p t.pair here t.comes t.judged.whole t.judged.number t.judged.intact in
      let same : t.packet ≡ packet = one_packet t.packet packet (sym found ∙ is) in
      let came : r.packet ≡ t.packet = ap (λ (q : Reception). q.packet) (one_reception r t.comes.reception (sym received ∙ t.comes.received)) ∙ sym t.comes.packet_is in
      subst (λ (b : Octets). IsAnswerDue child n pair b r.outcome) (came ∙ same) (answered place n p r pair here j received stands)

  at_most : AtMostOnce (child_history child ps all.numbers (has_end facts child old ps new trail))
  at_most =
      let end = has_end facts child old ps new trail in
      facts.once (child_history child ps all.numbers end) (history_judged child ps all.numbers end are judged)

  gone : (first place n : ℕ) (p q : Passage) → first ≤ place → slice_get ps first ≡ Some p → slice_get ps place ≡ Some q
      → child < p.before.next → pair_at p.before.pairs child ≡ None → ¬ IsJudgedAs child n q
  gone first place n p q order at_first at_place below none j =
      let absent = (stays_same facts child old ps new trail).absent first place p q order at_first at_place below none in
      let stands : pair_at q.before.pairs child ≡ Some j.takes.pair = ap (pair_at q.before.pairs) j.takes.child_is ∙ j.takes.changed.there in
      let is_none = absent.0 in
      absurd (cc)

  child_is_judged : ChildIsJudged child ps
  child_is_judged = record {
    numbers = all.numbers;
    numbers_are = are;
    judged = judged;
    answered = answered;
    refused = refused;
    as_sent = as_sent;
    once = λ place other n p q here there one two. at_most.once place other n ((are.exactly place n p here).1 one) ((are.exactly other n q there).1 two);
    new = λ place n p here j. at_most.new place n ((are.exactly place n p here).1 j);
    gone = gone;
    exactly_at_first = at_first;
    window = shown;
    same = stays_same facts child old ps new trail;
  }

turned_away : PacketFacts → (p : Passage) (r : Reception) → IsPassage p → p.received ≡ Some r → ((child n : ℕ) → ¬ IsJudgedAs child n p) → IsTurnedAway r.outcome p
turned_away facts p r is received none = elim (judged_or_away facts p.before r.packet r.outcome p.after (received_so p r is received)) [
  | inl t ↦ absurd (none t.child t.number (record { reception = r; received = received; takes = t.takes }))
  | inr away ↦ record { fault = away.fault; dropped = away.dropped; before_judging = away.before_judging; unchanged = away.unchanged }
]

-- a packet that is addressed to an SA pair comes to it
reaches_none : PacketFacts → (p : Passage) (r : Reception) → IsPassage p → p.received ≡ Some r → ((child : ℕ) (pair : Pair) → ¬ ComesTo child pair r.packet p) → ReachesNone r p
reaches_none facts p r is received none =
    let comes_to : (pair : Pair) → ¬ IsAddressedTo p.before r.packet pair =
    λ pair addressed.
    none pair.serial pair (record {
      reception = r;
      received = received;
      packet_is = refl;
      has_spi = addressed.has_spi;
      stands = addressed.inbound.there;
      its_own = sym addressed.inbound.its_own;
    })
    in
    let receives = received_so p r is received in
    elim (judged_or_away facts p.before r.packet r.outcome p.after receives) [
      | inl t ↦ absurd (comes_to t.takes.pair t.takes.addressed)
      | inr away ↦ record {
        fault = away.fault;
        dropped = away.dropped;
        why =
            lost p.before r.packet away.fault p.after away.before_judging
            (subst (λ (o : Outcome). Receives p.before r.packet o p.after) away.dropped receives) comes_to;
      }
    ]

one_judged : PacketFacts → (child other n m : ℕ) (p : Passage) → IsJudgedAs child n p → IsJudgedAs other m p → (child ≡ other) × (n ≡ m)
one_judged facts child other n m p first second =
    let one = one_taking facts p.before second.reception.packet child other n m p.after p.after (of_reception child n p second.reception second.received first) second.takes in
    (one.child_is, one.number_is)

pub packets_are_judged : PacketFacts → (old new : Database) (ps : List Passage) → IsTrail old ps new → PacketsAreJudged ps
packets_are_judged facts old new ps trail = record {
  children = λ child. child_is_judged facts old ps new trail child;
  one = λ place child other n m p here first second. one_judged facts child other n m p first second;
  otherwise = λ place p r here received none. turned_away facts p r (passage_at old ps new place p trail here) received none;
  nowhere = λ place p r here received none. reaches_none facts p r (passage_at old ps new place p trail here) received none;
}
