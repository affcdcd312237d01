-- The worked lists are judged as they say, and no ICV in them is forged.
use Rattle.std.proofs.Common.{◌≡◌, ℕ, zero, suc, ◌+◌, ◌%◌, ◌^◌, ◌<◌, Bool, true, false, cond, List, length, take, refl, sym, ap, ◌∙◌, subst, arith, inl, inr, ◌⊎◌, ◌↔◌, Some, None, Option}
use Rattle.std.specs.Prelude.{slice_get, nat_eq}
use Rattle.std.specs.Ordering.{nat_cmp}
use Rattle.std.specs.Cmp.{nat_cmp_total, unsigned_tied}
use Rattle.std.specs.FinSet as set
use Rattle.std.specs.FinMap as map
use Rattle.std.proofs.lemmas.Bool.{eqb-true, eq-eqb, both_ways, false≢true, or_left}
use Rattle.replay.specs.Window.{Seen}
use Rattle.esp.specs.Packet.{IsPacket, PassesIntegrity}
use Rattle.esp.specs.Judging.{low_half, IsNumber, Judges, IsJudgedLength}
use Rattle.esp.specs.Delivery.{greatest, all_taken, taken_after, taken_at}
use Rattle.esp.specs.Worked.{worked, worked_payload, worked_packet, repeated, repeated_sent, crossing, crossing_sent, IsWorked}
use Rattle.esp.proofs.NumberLemmas.{one_number_of, judged_as_one, contains-insert_nat, greatest-insert, greatest-is}
use Rattle.esp.proofs.PacketLemmas.{packet_passes, packet_whole, packet_low_half}

-- no sequence number was taken at first
none_taken : (n : ℕ) → set.contains (set.empty {R = nat_cmp}) n ≡ false
none_taken n = set.contains-empty nat_cmp n

greatest-empty : greatest set.empty ≡ 0
greatest-empty = sym (greatest-is set.empty 0 (λ n e. absurd (both_ways _ (none_taken n) e)) (λ h. absurd (omega arith)))

get-insert_nat : (m : map.FinMap nat_cmp (List ℕ)) (k q : ℕ) (b : List ℕ) → map.get (map.insert m k b) q ≡ cond (nat_eq q k) (Some b) (map.get m q)
get-insert_nat m k q b = map.get-insert nat_cmp_total m k b q ∙ ap (λ (t : Bool). cond t (Some b) (map.get m q)) (unsigned_tied q k)

-- nothing was sent at first
abbrev nothing : map.FinMap nat_cmp (List ℕ)
nothing = map.empty

-- what is found after an insert was inserted, or was there
pub record Inserted (k : ℕ) (p : List ℕ) (n : ℕ) (b : List ℕ) : Type 0 where
  pub number : n ≡ k
  pub octets : b ≡ p

found : (t : Bool) (p b : List ℕ) (rest : Option (List ℕ)) → cond t (Some p) rest ≡ Some b → ((t ≡ true) × (b ≡ p)) ⊎ (rest ≡ Some b)
found true p b rest e = inl (refl, (cc))
found false p b rest e = inr e

inserted : (m : map.FinMap nat_cmp (List ℕ)) (k n : ℕ) (p b : List ℕ) → map.get (map.insert m k p) n ≡ Some b → Inserted k p n b ⊎ (map.get m n ≡ Some b)
inserted m k n p b e = elim (found (nat_eq n k) p b (map.get m n) (sym (get-insert_nat m k n p) ∙ e)) [
  | inl here ↦ inl (record { number = eqb-true n k here.0; octets = here.1 })
  | inr before ↦ inr before
]

not_in_empty : (n : ℕ) (b : List ℕ) → map.get nothing n ≡ Some b → ⊥
not_in_empty n b e = let none : map.get nothing n ≡ None = map.get-empty nat_cmp n in cc

-- the packets are packets of their SA
packet_is : (e : Bool) (n : ℕ) → (e ≡ true) ⊎ (n < 2 ^ 32) → n < 2 ^ 64 → IsPacket (worked e) n 4 worked_payload 2 (worked_packet e n)
packet_is true n h small = record { octets = refl; aligned = refl; one_octet = omega arith; fits = small }
packet_is false n h small = record { octets = refl; aligned = refl; one_octet = omega arith; fits = elim h [ inl wrong ↦ absurd (false≢true wrong) | inr below ↦ below ] }

-- such a packet is judged wherever its sequence number is the one that it was sealed with, in reach and not
-- taken
judged_at : (e : Bool) (n : ℕ) (w : Seen) (is : IsPacket (worked e) n 4 worked_payload 2 (worked_packet e n)) → IsNumber e w (n % 2 ^ 32) n → w.top < n + w.size → set.contains w.taken n ≡ false
    → Judges (worked e) w (worked_packet e n) n
judged_at e n w is number reach new = record {
  whole = packet_whole (worked e) n 4 worked_payload 2 (worked_packet e n) is (omega arith);
  number = subst (λ (low : ℕ). IsNumber e w low n) (sym (packet_low_half (worked e) n 4 worked_payload 2 (worked_packet e n) is)) number;
  in_reach = reach;
  new = new;
  intact = packet_passes (worked e) n 4 worked_payload 2 (worked_packet e n) is;
}

abbrev first_seen : Seen
first_seen = all_taken 64 set.empty

seven_is : IsPacket (worked false) 7 4 worked_payload 2 (worked_packet false 7)
seven_is = packet_is false 7 (inr (omega arith)) (omega arith)

seven : Judges (worked false) first_seen (worked_packet false 7) 7
seven = judged_at false 7 first_seen seven_is (refl, omega arith) (let g = greatest-empty in omega arith) (none_taken 7)

-- its sequence number is 7 wherever it comes
seven_only : (w : Seen) (n : ℕ) → IsNumber false w (low_half (worked_packet false 7)) n → n ≡ 7
seven_only w n h = h.0 ∙ packet_low_half (worked false) 7 4 worked_payload 2 (worked_packet false 7) seven_is

repeated_judged : (i n : ℕ) (b : List ℕ) → slice_get repeated.packets i ≡ Some b
    → (slice_get repeated.numbers i ≡ Some (Some n)) ↔ Judges (worked false) (all_taken 64 (taken_after set.empty (take i repeated.numbers))) b n
repeated_judged zero n b e =
    let same : worked_packet false 7 ≡ b = cc in (
      λ at. (let is : 7 ≡ n = cc in subst (λ (p : List ℕ). Judges (worked false) first_seen p n) same (subst (λ (k : ℕ). Judges (worked false) first_seen (worked_packet false 7) k) is seven)),
      λ j. ap (λ (k : ℕ). Some (Some k)) (judged_as_one (worked false) first_seen (worked_packet false 7) 7 n seven (subst (λ (p : List ℕ). Judges (worked false) first_seen p n) (sym same) j)),
    )
repeated_judged (suc zero) n b e =
    let same : b ≡ worked_packet false 7 = cc in (
      λ at. absurd (cc),
      λ j.
          let number : IsNumber false (all_taken 64 (set.insert set.empty 7)) (low_half (worked_packet false 7)) n = subst (λ (p : List ℕ). IsNumber false (all_taken 64 (set.insert set.empty 7)) (low_half p) n) same j.number in
          let is : n ≡ 7 = seven_only (all_taken 64 (set.insert set.empty 7)) n number in
          absurd (both_ways _ j.new (contains-insert_nat set.empty 7 n ∙ or_left (nat_eq n 7) (set.contains set.empty n) (eq-eqb n 7 is))),
    )
repeated_judged (suc (suc i)) n b e = absurd (cc)

repeated_here : (i : ℕ) (b : List ℕ) → slice_get repeated.packets i ≡ Some b → b ≡ worked_packet false 7
repeated_here zero b e = cc
repeated_here (suc zero) b e = cc
repeated_here (suc (suc i)) b e = absurd (cc)

repeated_entry : (n : ℕ) (b : List ℕ) → map.get repeated_sent n ≡ Some b → Inserted 7 (worked_packet false 7) n b
repeated_entry n b e = elim (inserted nothing 7 n (worked_packet false 7) b e) [ inl here ↦ here | inr before ↦ absurd (not_in_empty n b before) ]

pub repeated_is_worked : IsWorked repeated repeated_sent
repeated_is_worked = record {
  judged = record { each = refl; judged = repeated_judged };
  unforged = record {
    whole = λ n b e. (let h = repeated_entry n b e in subst (λ (p : List ℕ). IsJudgedLength (length p)) (sym h.octets) seven.whole);
    intact = λ n b e.
        let h = repeated_entry n b e in
        subst (λ (p : List ℕ). PassesIntegrity (worked false) n p) (sym h.octets) (subst (λ (k : ℕ). PassesIntegrity (worked false) k (worked_packet false 7)) (sym h.number) seven.intact);
    no_other = λ i n b here whole number intact.
        let same = repeated_here i b here in
        let is : n ≡ 7 = seven_only (taken_at repeated i) n (subst (λ (p : List ℕ). IsNumber false (taken_at repeated i) (low_half p) n) same number) in
        get-insert_nat nothing 7 n (worked_packet false 7) ∙ ap (λ (t : Bool). cond t (Some (worked_packet false 7)) (map.get nothing n)) (eq-eqb n 7 is) ∙ ap (λ (p : List ℕ). Some p) (sym same);
  };
}

-- with extension, across 2 ^ 32
below_is : IsPacket (worked true) 4294967232 4 worked_payload 2 (worked_packet true 4294967232)
below_is = packet_is true 4294967232 (inl refl) (omega arith)

above_is : IsPacket (worked true) 4294967296 4 worked_payload 2 (worked_packet true 4294967296)
above_is = packet_is true 4294967296 (inl refl) (omega arith)

abbrev second_seen : Seen
second_seen = all_taken 64 (set.insert set.empty 4294967232)

top_second : greatest (set.insert set.empty 4294967232) ≡ 4294967232
top_second = greatest-insert set.empty 4294967232 (omega arith) ∙ (let g = greatest-empty in omega arith)

below : Judges (worked true) first_seen (worked_packet true 4294967232) 4294967232
below =
    let g = greatest-empty in
    judged_at true 4294967232 first_seen below_is (record { low_half = refl; from_the_edge = omega arith; one_cycle = omega arith; not_zero = omega arith; fits = omega arith }) (omega arith) (none_taken 4294967232)

above : Judges (worked true) second_seen (worked_packet true 4294967296) 4294967296
above =
    let g = top_second in
    judged_at true 4294967296 second_seen above_is (record { low_half = refl; from_the_edge = omega arith; one_cycle = omega arith; not_zero = omega arith; fits = omega arith }) (omega arith)
    (contains-insert_nat set.empty 4294967232 4294967296 ∙ none_taken 4294967296)

crossing_judged : (i n : ℕ) (b : List ℕ) → slice_get crossing.packets i ≡ Some b → (slice_get crossing.numbers i ≡ Some (Some n)) ↔ Judges (worked true) (taken_at crossing i) b n
crossing_judged zero n b e =
    let same : worked_packet true 4294967232 ≡ b = cc in (
      λ at. (let is : 4294967232 ≡ n = cc in subst (λ (p : List ℕ). Judges (worked true) first_seen p n) same (subst (λ (k : ℕ). Judges (worked true) first_seen (worked_packet true 4294967232) k) is below)),
      λ j. ap (λ (k : ℕ). Some (Some k)) (judged_as_one (worked true) first_seen (worked_packet true 4294967232) 4294967232 n below (subst (λ (p : List ℕ). Judges (worked true) first_seen p n) (sym same) j)),
    )
crossing_judged (suc zero) n b e =
    let same : worked_packet true 4294967296 ≡ b = cc in (
      λ at. (let is : 4294967296 ≡ n = cc in subst (λ (p : List ℕ). Judges (worked true) second_seen p n) same (subst (λ (k : ℕ). Judges (worked true) second_seen (worked_packet true 4294967296) k) is above)),
      λ j. ap (λ (k : ℕ). Some (Some k)) (judged_as_one (worked true) second_seen (worked_packet true 4294967296) 4294967296 n above (subst (λ (p : List ℕ). Judges (worked true) second_seen p n) (sym same) j)),
    )
crossing_judged (suc (suc i)) n b e = absurd (cc)

crossing_entry : (n : ℕ) (b : List ℕ) → map.get crossing_sent n ≡ Some b → Inserted 4294967296 (worked_packet true 4294967296) n b ⊎ Inserted 4294967232 (worked_packet true 4294967232) n b
crossing_entry n b e = elim (inserted (map.insert nothing 4294967232 (worked_packet true 4294967232)) 4294967296 n (worked_packet true 4294967296) b e) [
  | inl here ↦ inl here
  | inr before ↦ elim (inserted nothing 4294967232 n (worked_packet true 4294967232) b before) [ inl here ↦ inr here | inr none ↦ absurd (not_in_empty n b none) ]
]

crossing_other : (i n : ℕ) (b : List ℕ) → slice_get crossing.packets i ≡ Some b → IsNumber true (taken_at crossing i) (low_half b) n → map.get crossing_sent n ≡ Some b
crossing_other zero n b here number =
    let same : b ≡ worked_packet true 4294967232 = cc in
    let is : n ≡ 4294967232 = one_number_of true first_seen (low_half (worked_packet true 4294967232)) n 4294967232 (subst (λ (p : List ℕ). IsNumber true first_seen (low_half p) n) same number) below.number in
    let one = map.insert nothing 4294967232 (worked_packet true 4294967232) in
    ap (map.get crossing_sent) is
    ∙ get-insert_nat one 4294967296 4294967232 (worked_packet true 4294967296)
    ∙ get-insert_nat nothing 4294967232 4294967232 (worked_packet true 4294967232)
    ∙ ap (λ (p : List ℕ). Some p) (sym same)
crossing_other (suc zero) n b here number =
    let same : b ≡ worked_packet true 4294967296 = cc in
    let is : n ≡ 4294967296 = one_number_of true second_seen (low_half (worked_packet true 4294967296)) n 4294967296 (subst (λ (p : List ℕ). IsNumber true second_seen (low_half p) n) same number) above.number in
    let one = map.insert nothing 4294967232 (worked_packet true 4294967232) in
    ap (map.get crossing_sent) is
    ∙ get-insert_nat one 4294967296 4294967296 (worked_packet true 4294967296)
    ∙ ap (λ (p : List ℕ). Some p) (sym same)
crossing_other (suc (suc i)) n b here number = absurd (cc)

pub crossing_is_worked : IsWorked crossing crossing_sent
crossing_is_worked = record {
  judged = record { each = refl; judged = crossing_judged };
  unforged = record {
    whole = λ n b e. elim (crossing_entry n b e) [
      | inl h ↦ subst (λ (p : List ℕ). IsJudgedLength (length p)) (sym h.octets) above.whole
      | inr h ↦ subst (λ (p : List ℕ). IsJudgedLength (length p)) (sym h.octets) below.whole
    ];
    intact = λ n b e. elim (crossing_entry n b e) [
      | inl h ↦ subst (λ (p : List ℕ). PassesIntegrity (worked true) n p) (sym h.octets) (subst (λ (k : ℕ). PassesIntegrity (worked true) k (worked_packet true 4294967296)) (sym h.number) above.intact)
      | inr h ↦ subst (λ (p : List ℕ). PassesIntegrity (worked true) n p) (sym h.octets) (subst (λ (k : ℕ). PassesIntegrity (worked true) k (worked_packet true 4294967232)) (sym h.number) below.intact)
    ];
    no_other = λ i n b here whole number intact. crossing_other i n b here number;
  };
}
