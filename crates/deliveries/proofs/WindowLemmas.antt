-- What a window that shows some sequence numbers says of a packet, they all say; and what is judged is not
-- refused.
use Rattle.std.proofs.Common.{◌≡◌, ◌+◌, ◌<◌, ℕ, Bool, true, false, List, refl, sym, ap, ◌∙◌, subst, arith, inl, inr}
use Rattle.std.specs.Prelude.{nat_lt}
use Rattle.std.specs.Cmp.{nat_cmp_total}
use Rattle.std.specs.Ordering.{nat_cmp}
use Rattle.std.specs.FinSet as set
use Rattle.std.proofs.lemmas.Bool.{and_cases, and_left, and_parts, both_ways, lt-ltb}
use Rattle.replay.specs.Window.{IsSoundWindow, Seen}
use Rattle.esp.specs.declared.sa.Sa.{Sa}
use Rattle.esp.specs.declared.fault.EspFault.{EspFault}
use Rattle.esp.specs.declared.fault.EspFault.TheVariants.{Exhausted, PayloadSize, BadLength, Old, Replayed, BadNumber, BadIcv, BadPadding, Memory}
use Rattle.esp.specs.Delivery.{all_taken, greatest, Shows}
use Rattle.esp.specs.Judging.{IsNumber, Judges, low_half}
use Rattle.esp.specs.Opening.{IsOpeningRefusal}
use Rattle.esp.specs.Packet.{PassesIntegrity}
use Rattle.deliveries.proofs.StepLemmas.{PacketFacts}

-- a sequence number at one window is that at another with the same top and size
number_seen : (e : Bool) (w v : Seen) (low n : ℕ) → w.top ≡ v.top → w.size ≡ v.size → IsNumber e w low n → IsNumber e v low n
number_seen false w v low n top size h = h
number_seen true w v low n top size h = record {
  low_half = h.low_half;
  from_the_edge = let edge = h.from_the_edge in omega arith;
  one_cycle = let cycle = h.one_cycle in omega arith;
  not_zero = h.not_zero;
  fits = h.fits;
}

module _ (w : Seen) (taken : set.FinSet nat_cmp) (shows : Shows w w.size taken) where
  reach : (n : ℕ) → w.top < n + w.size → greatest taken < n + w.size
  reach n h = let top = shows.top in omega arith

  absent : (n : ℕ) → w.top < n + w.size → set.contains w.taken n ≡ false → set.contains taken n ≡ false
  absent n h none = elim (and_cases (set.contains taken n) (nat_lt w.top (n + w.size)) (sym (shows.in_span n) ∙ none)) [
    | inl not_taken ↦ not_taken
    | inr below ↦ absurd (both_ways _ below (lt-ltb w.top (n + w.size) h))
  ]

  number_all : (e : Bool) (low n : ℕ) → IsNumber e w low n → IsNumber e (all_taken w.size taken) low n
  number_all e low n h = number_seen e w (all_taken w.size taken) low n shows.top refl h

  pub judged_by_all : (a : Sa) (b : List ℕ) (n : ℕ) → Judges a w b n → Judges a (all_taken w.size taken) b n
  judged_by_all a b n j =
      record {
        whole = j.whole;
        number = number_all a.extended (low_half b) n j.number;
        in_reach = reach n j.in_reach;
        new = absent n j.in_reach j.new;
        intact = j.intact;
      }

  pub judged_by_shown : (a : Sa) (b : List ℕ) (n : ℕ) → Judges a (all_taken w.size taken) b n → Judges a w b n
  judged_by_shown a b n j =
      let top = shows.top in
      let reachable = j.in_reach in
      record {
        whole = j.whole;
        number = number_seen a.extended (all_taken w.size taken) w (low_half b) n (sym shows.top) refl j.number;
        in_reach = omega arith;
        new = shows.in_span n ∙ and_left _ _ j.new;
        intact = j.intact;
      }

  pub refused_by_all : (a : Sa) (b : List ℕ) (e : EspFault) → IsOpeningRefusal a w b e → IsOpeningRefusal a (all_taken w.size taken) b e
  refused_by_all a b BadLength h = h
  refused_by_all a b BadNumber h = (h.0, λ n is. h.1 n (number_seen a.extended (all_taken w.size taken) w (low_half b) n (sym shows.top) refl is))
  refused_by_all a b Old h = (h.0, (h.1.0, number_all a.extended (low_half b) h.1.0 h.1.1, (let below = h.1.2 in let top = shows.top in omega arith)))
  refused_by_all a b Replayed h =
      (h.0, (h.1.0, number_all a.extended (low_half b) h.1.0 h.1.1, reach h.1.0 h.1.2, (and_parts (set.contains taken h.1.0) _ (sym (shows.in_span h.1.0) ∙ h.1.3)).0))
  refused_by_all a b BadIcv h =
      (h.0, (h.1.0, number_all a.extended (low_half b) h.1.0 h.1.1, reach h.1.0 h.1.2, absent h.1.0 h.1.2 h.1.3, h.1.4))
  refused_by_all a b Exhausted h = h
  refused_by_all a b PayloadSize h = h
  refused_by_all a b BadPadding h = h
  refused_by_all a b Memory h = h

-- a sound window in which no sequence number is taken shows any numbers that are none
pub none_shown : PacketFacts → (w : Seen) (taken : set.FinSet nat_cmp) → IsSoundWindow w → ((n : ℕ) → set.contains w.taken n ≡ false)
    → ((n : ℕ) → set.contains taken n ≡ false) → Shows w w.size taken
none_shown facts w taken sound none none_taken =
    let same : w.taken ≡ taken = set.same_set nat_cmp_total set.nat_cmp-IsAntisymmetric w.taken taken (λ n. none n ∙ sym (none_taken n)) in
    subst (λ (s : set.FinSet nat_cmp). Shows w w.size s) same (facts.sound w sound)

-- a packet that is judged isn't refused before
pub judged_anyway : PacketFacts → (a : Sa) (w : Seen) (b : List ℕ) (n : ℕ) (e : EspFault) → Judges a w b n → IsOpeningRefusal a w b e → ⊥
judged_anyway facts a w b n BadLength j is = is j.whole
judged_anyway facts a w b n BadNumber j is = is.1 n j.number
judged_anyway facts a w b n Old j is =
    let same = facts.number a.extended w (low_half b) is.1.0 n is.1.1 j.number in
    let below = is.1.2 in
    let reach = j.in_reach in
    omega arith
judged_anyway facts a w b n Replayed j is =
    let same = facts.number a.extended w (low_half b) n is.1.0 j.number is.1.1 in
    both_ways _ j.new (ap (set.contains w.taken) same ∙ is.1.3)
judged_anyway facts a w b n BadIcv j is =
    let same = facts.number a.extended w (low_half b) n is.1.0 j.number is.1.1 in
    is.1.4 (subst (λ (k : ℕ). PassesIntegrity a k b) same j.intact)
judged_anyway facts a w b n Exhausted j is = is
judged_anyway facts a w b n PayloadSize j is = is
judged_anyway facts a w b n BadPadding j is = is
judged_anyway facts a w b n Memory j is = is
