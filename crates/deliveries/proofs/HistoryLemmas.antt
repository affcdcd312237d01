-- The steps of a list as deliveries to one Child SA: what holds of the deliveries to one SA holds of the
-- child.
use Rattle.std.proofs.Common.{◌≡◌, ◌↔◌, ◌≤◌, ℕ, zero, suc, Bool, cond, Option, Some, None, List, [], ◌∷◌, length, map, refl, sym, ap, ◌∙◌, subst, arith, inl, inr}
use Rattle.std.specs.Prelude.{nat_eq, slice_get}
use Rattle.std.specs.Ordering.{nat_cmp}
use Rattle.std.specs.FinMap as finite_map
use Rattle.std.proofs.lemmas.Bool.{eq-eqb}
use Rattle.std.proofs.lemmas.Bool.Decides.{eqb_tells}
use Rattle.std.proofs.lemmas.List.{length-map}
use Rattle.base.specs.Octets.{Octets}
use Rattle.esp.specs.declared.sa.Sa.{Sa}
use Rattle.esp.specs.Delivery as esp
use Rattle.esp.specs.Delivery.{all_taken, History, taken_at, IsJudged}
use Rattle.esp.specs.Judging.{IsJudgedLength, IsNumber, Judges, low_half}
use Rattle.esp.specs.Packet.{PassesIntegrity}
use Rattle.sadb.specs.Database.{pair_at}
use Rattle.sadb.specs.declared.pair.Pair.{Pair}
use Rattle.traffic.specs.Receiving.{spi_of}
use Rattle.deliveries.specs.Arrivals.{Arrives, ComesTo, IsFirstArrival, IsToBeJudged, Unforged}
use Rattle.deliveries.specs.Numbers.{AreNumbersOf, IsJudgedAs, seen_before, taken_at_first, taken_before}
use Rattle.deliveries.specs.Passages.{Passage, Reception}
use Rattle.deliveries.proofs.SameLemmas.{HasEnd}

-- the packet that comes to a Child SA at a step, and else one of no octets, which is never judged
abbrev delivered : Option Pair → Option Reception → Octets
delivered None received = []
delivered (Some pair) None = []
delivered (Some pair) (Some r) = cond (nat_eq (spi_of r.packet) pair.inbound.association.spi) r.packet []

abbrev delivered_to : ℕ → Passage → Octets
delivered_to child p = delivered (pair_at p.before.pairs child) p.received

-- whatever comes is delivered
delivered_is : (child : ℕ) (pair : Pair) (packet : Octets) (p : Passage) → ComesTo child pair packet p → delivered_to child p ≡ packet
delivered_is child pair packet p comes =
    ap (λ (o : Option Pair). delivered o p.received) comes.stands
    ∙ ap (delivered (Some pair)) comes.received
    ∙ ap (λ (b : Bool). cond b comes.reception.packet [])
    (eq-eqb (spi_of comes.reception.packet) pair.inbound.association.spi (ap spi_of (sym comes.packet_is) ∙ comes.its_own))
    ∙ sym comes.packet_is

-- and what is delivered and has octets comes
record Comes (child : ℕ) (p : Passage) : Type 0 where
  pair : Pair
  comes : ComesTo child pair (delivered_to child p) p

record Came (child : ℕ) (o : Option Pair) (received : Option Reception) : Type 0 where
  pair : Pair
  stands : o ≡ Some pair
  reception : Reception
  received_is : received ≡ Some reception
  packet_is : delivered o received ≡ reception.packet
  its_own : spi_of reception.packet ≡ pair.inbound.association.spi

no_octets : 28 ≤ length {A = ℕ} [] → ⊥
no_octets long = omega arith

came : (child : ℕ) (o : Option Pair) (received : Option Reception) → 28 ≤ length (delivered o received) → Came child o received
came child None received long = absurd (no_octets long)
came child (Some pair) None long = absurd (no_octets long)
came child (Some pair) (Some r) long = elim (eqb_tells (spi_of r.packet) pair.inbound.association.spi) [
  | inl (test, same) ↦ record {
    pair = pair;
    stands = refl;
    reception = r;
    received_is = refl;
    packet_is = ap (λ (b : Bool). cond b r.packet []) test;
    its_own = same;
  }
  | inr (test, apart) ↦
      let none : cond (nat_eq (spi_of r.packet) pair.inbound.association.spi) r.packet [] ≡ [] = ap (λ (b : Bool). cond b r.packet []) test in
      absurd (no_octets (subst (λ (b : Octets). 28 ≤ length b) none long))
]

comes_by : (child : ℕ) (p : Passage) → 28 ≤ length (delivered_to child p) → Comes child p
comes_by child p long =
    let c = came child (pair_at p.before.pairs child) p.received long in
    record {
      pair = c.pair;
      comes = record {
        reception = c.reception;
        received = c.received_is;
        packet_is = c.packet_is;
        has_spi = omega arith;
        stands = c.stands;
        its_own = ap spi_of c.packet_is ∙ c.its_own;
      };
    }

-- what stands at a place of the deliveries
record IsDelivery (child : ℕ) (ps : List Passage) (place : ℕ) (b : Octets) : Type 0 where
  passage : Passage
  here : slice_get ps place ≡ Some passage
  octets : delivered_to child passage ≡ b

delivery_at : (child : ℕ) (ps : List Passage) (place : ℕ) (b : Octets) → slice_get (map (delivered_to child) ps) place ≡ Some b → IsDelivery child ps place b
delivery_at child [] place b is = absurd (cc)
delivery_at child (p ∷ ps) zero b is = record { passage = p; here = refl; octets = cc }
delivery_at child (p ∷ ps) (suc place) b is =
    let rest = delivery_at child ps place b is in
    record { passage = rest.passage; here = rest.here; octets = rest.octets }

at_delivery : (child : ℕ) (ps : List Passage) (place : ℕ) (p : Passage) → slice_get ps place ≡ Some p → slice_get (map (delivered_to child) ps) place ≡ Some (delivered_to child p)
at_delivery child [] place p is = absurd (cc)
at_delivery child (q ∷ ps) zero p is = let same : q ≡ p = cc in ap (λ (r : Passage). Some (delivered_to child r)) same
at_delivery child (q ∷ ps) (suc place) p is = at_delivery child ps place p is

module _ (child : ℕ) (ps : List Passage) (ns : List (Option ℕ)) (end : HasEnd child ps) where
  abbrev pub child_history : History
  child_history = record {
    association = end.association;
    size = end.size;
    before = taken_at_first child ps;
    packets = map (delivered_to child) ps;
    numbers = ns;
  }

  -- what the rule says of the Child SA's SA pair it says of the history
  module _ (place : ℕ) (p : Passage) (pair : Pair) (here : slice_get ps place ≡ Some p) (stands : pair_at p.before.pairs child ≡ Some pair) where
    association_same : pair.inbound.association ≡ end.association
    association_same = end.association_is place p pair here stands

    size_same : pair.inbound.window.size ≡ end.size
    size_same = end.size_is place p pair here stands

    judges_in : (b : Octets) (n : ℕ) → Judges pair.inbound.association (seen_before child pair ps ns place) b n → Judges end.association (taken_at child_history place) b n
    judges_in b n j =
        subst (λ (size : ℕ). Judges end.association (all_taken size (taken_before child ps ns place)) b n) size_same
        (subst (λ (a : Sa). Judges a (seen_before child pair ps ns place) b n) association_same j)

    judges_out : (b : Octets) (n : ℕ) → Judges end.association (taken_at child_history place) b n → Judges pair.inbound.association (seen_before child pair ps ns place) b n
    judges_out b n j =
        subst (λ (a : Sa). Judges a (seen_before child pair ps ns place) b n) (sym association_same)
        (subst (λ (size : ℕ). Judges end.association (all_taken size (taken_before child ps ns place)) b n) (sym size_same) j)

    number_in : (low n : ℕ) → IsNumber pair.inbound.association.extended (seen_before child pair ps ns place) low n → IsNumber end.association.extended (taken_at child_history place) low n
    number_in low n is =
        subst (λ (size : ℕ). IsNumber end.association.extended (all_taken size (taken_before child ps ns place)) low n) size_same
        (subst (λ (a : Sa). IsNumber a.extended (seen_before child pair ps ns place) low n) association_same is)

    number_out : (low n : ℕ) → IsNumber end.association.extended (taken_at child_history place) low n → IsNumber pair.inbound.association.extended (seen_before child pair ps ns place) low n
    number_out low n is =
        subst (λ (a : Sa). IsNumber a.extended (seen_before child pair ps ns place) low n) (sym association_same)
        (subst (λ (size : ℕ). IsNumber end.association.extended (all_taken size (taken_before child ps ns place)) low n) (sym size_same) is)

  module _ (are : AreNumbersOf child ps ns) (judged : (place n : ℕ) (p : Passage) → slice_get ps place ≡ Some p → IsJudgedAs child n p ↔ IsToBeJudged child ps ns place n p) where
    numbered_judged : (place n : ℕ) (b : Octets) → slice_get (map (delivered_to child) ps) place ≡ Some b → slice_get ns place ≡ Some (Some n)
        → Judges end.association (taken_at child_history place) b n
    numbered_judged place n b at is =
        let d = delivery_at child ps place b at in
        let t = (judged place n d.passage d.here).0 ((are.exactly place n d.passage d.here).0 is) in
        let same : t.packet ≡ b = sym (delivered_is child t.pair t.packet d.passage t.comes) ∙ d.octets in
        subst (λ (octets : Octets). Judges end.association (taken_at child_history place) octets n) same
        (judges_in place d.passage t.pair d.here t.comes.stands t.packet n t.judged)

    judged_numbered : (place n : ℕ) (b : Octets) → slice_get (map (delivered_to child) ps) place ≡ Some b → Judges end.association (taken_at child_history place) b n
        → slice_get ns place ≡ Some (Some n)
    judged_numbered place n b at j =
        let d = delivery_at child ps place b at in
        let long : 28 ≤ length (delivered_to child d.passage) = subst (λ (octets : Octets). 28 ≤ length octets) (sym d.octets) j.whole.least in
        let c = comes_by child d.passage long in
        let j_there : Judges end.association (taken_at child_history place) (delivered_to child d.passage) n =
        subst (λ (octets : Octets). Judges end.association (taken_at child_history place) octets n) (sym d.octets) j in
        (are.exactly place n d.passage d.here).1 ((judged place n d.passage d.here).1 (record {
          pair = c.pair;
          packet = delivered_to child d.passage;
          comes = c.comes;
          judged = judges_out place d.passage c.pair d.here c.comes.stands (delivered_to child d.passage) n j_there;
        }))

    pub history_judged : IsJudged child_history
    history_judged = record {
      each = are.each ∙ sym (length-map ps (delivered_to child));
      judged = λ place n b at. (numbered_judged place n b at, judged_numbered place n b at);
    }

  -- the assumption, and the arrivals
  module _ (sent : finite_map.FinMap nat_cmp Octets) (u : Unforged child ps ns sent) where
    other_sent : (place n : ℕ) (b : Octets) → slice_get (map (delivered_to child) ps) place ≡ Some b → IsJudgedLength (length b)
        → IsNumber end.association.extended (taken_at child_history place) (low_half b) n → PassesIntegrity end.association n b → finite_map.get sent n ≡ Some b
    other_sent place n b at whole number intact =
        let d = delivery_at child ps place b at in
        let long : 28 ≤ length (delivered_to child d.passage) = subst (λ (octets : Octets). 28 ≤ length octets) (sym d.octets) whole.least in
        let c = comes_by child d.passage long in
        let comes : ComesTo child c.pair b d.passage = subst (λ (octets : Octets). ComesTo child c.pair octets d.passage) d.octets c.comes in
        u.no_other place n b d.passage c.pair d.here comes whole (number_out place d.passage c.pair d.here comes.stands (low_half b) n number)
        (subst (λ (a : Sa). PassesIntegrity a n b) (sym (association_same place d.passage c.pair d.here comes.stands)) intact)

    -- where the SA pair stands anywhere
    pub unforged_in : (place : ℕ) (p : Passage) (pair : Pair) → slice_get ps place ≡ Some p → pair_at p.before.pairs child ≡ Some pair
        → esp.Unforged child_history sent
    unforged_in place p pair here stands = record {
      whole = u.whole;
      intact = λ n b is. subst (λ (a : Sa). PassesIntegrity a n b) (association_same place p pair here stands) (u.intact place n b p pair here stands is);
      no_other = λ at n b is whole number intact. other_sent at n b is whole number intact;
    }

    arrival_in : (n place : ℕ) → Arrives child ps ns sent n place → esp.Arrives child_history sent n place
    arrival_in n place a =
        let size = size_same place a.passage a.pair a.here a.comes.stands in
        let reach = a.in_reach in
        record {
          packet = a.packet;
          delivered_here = at_delivery child ps place a.passage a.here ∙ ap (λ (b : Octets). Some b) (delivered_is child a.pair a.packet a.passage a.comes);
          sent_so = a.sent_so;
          number = number_in place a.passage a.pair a.here a.comes.stands (low_half a.packet) n a.number;
          in_reach = omega arith;
        }

    arrival_out : (n place : ℕ) → esp.Arrives child_history sent n place → Arrives child ps ns sent n place
    arrival_out n place a =
        let d = delivery_at child ps place a.packet a.delivered_here in
        let whole = u.whole n a.packet a.sent_so in
        let long : 28 ≤ length (delivered_to child d.passage) = subst (λ (octets : Octets). 28 ≤ length octets) (sym d.octets) whole.least in
        let c = comes_by child d.passage long in
        let comes : ComesTo child c.pair a.packet d.passage = subst (λ (octets : Octets). ComesTo child c.pair octets d.passage) d.octets c.comes in
        let size = size_same place d.passage c.pair d.here comes.stands in
        let reach = a.in_reach in
        record {
          passage = d.passage;
          here = d.here;
          pair = c.pair;
          packet = a.packet;
          comes = comes;
          sent_so = a.sent_so;
          number = number_out place d.passage c.pair d.here comes.stands (low_half a.packet) n a.number;
          in_reach = omega arith;
        }

    pub first_in : (n place : ℕ) → IsFirstArrival child ps ns sent n place → esp.IsFirstArrival child_history sent n place
    first_in n place f = record {
      new = f.new;
      arrives = arrival_in n place f.arrives;
      first = λ earlier before a. f.first earlier before (arrival_out n earlier a);
    }

    pub first_out : (n place : ℕ) → esp.IsFirstArrival child_history sent n place → IsFirstArrival child ps ns sent n place
    first_out n place f = record {
      new = f.new;
      arrives = arrival_out n place f.arrives;
      first = λ earlier before a. f.first earlier before (arrival_in n earlier a);
    }
