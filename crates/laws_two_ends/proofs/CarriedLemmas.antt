-- The worked packet is sealed by A's pair, and judged, opened and delivered by B's, whatever the SPIs and
-- the keys of the Child SA are.
use Rattle.std.proofs.Common.{inl, inr, ◌≡◌, ◌<◌, ◌+◌, ◌^◌, ◌||◌, ◌&&◌, ◌++◌, ℕ, Bool, true, false, [], Contains, refl, sym, ap, ◌∙◌, subst, arith}
use Rattle.std.specs.Prelude.{nat_eq, nat_lt}
use Rattle.std.specs.FinMap as map
use Rattle.std.specs.FinSet as set
use Rattle.std.specs.Ordering.{nat_cmp}
use Rattle.std.proofs.lemmas.Bool.{both_ways, lt-ltb, ne_eqb}
use Rattle.std.proofs.lemmas.Bool.Decides.{eqb_tells}
use Rattle.std.proofs.lemmas.List.{append_assoc}
use Rattle.byteorder.specs.Endian.{big_bytes}
use Rattle.byteorder.specs.Numbers.{big_number-reads_back}
use Rattle.base.specs.Octets.{Octets}
use Rattle.replay.specs.Window.{unused_window, IsSoundWindow, Seen, Takes}
use Rattle.esp.specs.Judging.{low_half, Judges}
use Rattle.esp.specs.Packet.{check_value, head, packet, trailer, IsContents, IsPacket}
use Rattle.esp.specs.Sealing.{IsShortestPacket}
use Rattle.esp.specs.Worked.{worked_payload}
use Rattle.esp.specs.declared.sa.Sa as esp
use Rattle.esp.proofs.NumberLemmas.{contains-insert_nat}
use Rattle.esp.proofs.PacketLemmas.{packet_contents, packet_low_half, packet_passes, packet_whole}
use Rattle.sadb.specs.Database.{Database, IsInbound, PairMap}
use Rattle.sadb.specs.declared.pair.Pair.{Pair}
use Rattle.sadb.specs.declared.pair.State.TheVariants.{Live}
use Rattle.traffic.specs.Outcomes.{Sealed, Up}
use Rattle.traffic.specs.Receiving.{spi_of, IsAddressedTo, Receives}
use Rattle.traffic.specs.Sending.{Sends}
use Rattle.deliveries.specs.Worked.{any_traffic}
use Rattle.gateway.specs.Inputs.{Input}
use Rattle.gateway.specs.Inputs as input
use Rattle.gateway.specs.WorldPackets.{HasSentPacket}
use Rattle.gateway.specs.Worlds.{datagram_of, simplex_of, Stored}
use Rattle.gateway.specs.declared.world.stored.Datagram.{Datagram}
use Rattle.gateway.specs.declared.world.stored.End.TheVariants.{A}
use Rattle.gateway.specs.declared.world.stored.Protection.TheVariants as mark
use Rattle.laws_two_ends.specs.WorkedChildren.{all_protected, lone_pair, one_taken}
use Rattle.laws_two_ends.proofs.FlowLemmas.{worked_covered, worked_decided, worked_flow, worked_traffic}
use Rattle.laws_two_ends.proofs.TableLemmas.{lone_in, lone_inbound, none_taken, unused_sound, HasLone}

with_true : (x m : Bool) → m ≡ true → x ≡ (x && m)
with_true true m is = sym is
with_true false m is = refl

one_is_taken : Takes (unused_window 2) 1 one_taken
one_is_taken = record {
  top = refl;
  size = refl;
  taken = λ q. contains-insert_nat set.empty 1 q ∙ with_true (nat_eq q 1 || set.contains set.empty q) (nat_lt 1 (q + 64)) (lt-ltb 1 (q + 64) (omega arith));
}

is_one : (n : ℕ) → set.contains one_taken.taken n ≡ true → n ≡ 1
is_one n is = elim (eqb_tells n 1) [
  | inl (_, same) ↦ same
  | inr (_, apart) ↦
      let beside = contains-insert_nat set.empty 1 n ∙ ap (λ (b : Bool). b || set.contains {R = nat_cmp} set.empty n) (ne_eqb n 1 apart) in
      absurd (both_ways _ (beside ∙ none_taken n) is)
]

pub one_sound : IsSoundWindow one_taken
one_sound = record {
  spans = omega arith;
  not_zero = λ n is. let same = is_one n is in omega (arith, same);
  up_to_top = λ n is. let same = is_one n is in omega (arith, same);
  in_span = λ n is. let same = is_one n is in omega (arith, same);
  top_taken = λ h. contains-insert_nat set.empty 1 1;
  fits = omega arith;
}

-- the octets of an ESP packet
abbrev esp_octets : Input → Octets
esp_octets (input.Esp octets) = octets
esp_octets _ = []

-- by the SPI of what A sends and that of what B sends, and by the keys of both
module _ (spi other : ℕ) (small : spi < 2 ^ 32) (first second : Octets) where
  abbrev by : esp.Sa
  by = record { spi = spi; key = first; extended = false }

  abbrev back : esp.Sa
  back = record { spi = other; key = second; extended = false }

  abbrev carried : Octets
  carried = packet by 1 4 worked_payload 2

  abbrev sender : ℕ → Pair
  sender last = record {
    serial = 1;
    ike = 1;
    inbound = record { association = back; window = unused_window 2 };
    outbound = record { association = by; last = last };
    local = any_traffic;
    remote = any_traffic;
    state = Live;
  }

  abbrev receiver : Seen → Pair
  receiver window = record {
    serial = 1;
    ike = 1;
    inbound = record { association = by; window = window };
    outbound = record { association = back; last = 0 };
    local = any_traffic;
    remote = any_traffic;
    state = Live;
  }

  -- ---- the packet

  carried_is : IsPacket by 1 4 worked_payload 2 carried
  carried_is = record { octets = refl; aligned = refl; one_octet = omega arith; fits = omega arith }

  low_half_is : low_half carried ≡ 1
  low_half_is = packet_low_half by 1 4 worked_payload 2 carried carried_is

  pub judged : Judges by (unused_window 2) carried 1
  judged = record {
    whole = packet_whole by 1 4 worked_payload 2 carried carried_is (omega arith);
    number = (sym low_half_is, omega arith);
    in_reach = omega arith;
    new = none_taken 1;
    intact = packet_passes by 1 4 worked_payload 2 carried carried_is;
  }

  contents : IsContents carried 4 worked_payload
  contents = packet_contents by 1 4 worked_payload 2 carried carried_is

  carried_spi : spi_of carried ≡ spi
  carried_spi =
      let begins : Octets = head by 1 in
      let ends : Octets = trailer 2 4 in
      let check : Octets = check_value by 1 (begins ++ worked_payload ++ ends) in
      let low : Octets = big_bytes 4 1 in
      let split : carried ≡ big_bytes 4 spi ++ (low ++ (worked_payload ++ (ends ++ check))) =
      append_assoc (begins ++ worked_payload) ends check
      ∙ append_assoc begins worked_payload (ends ++ check)
      ∙ append_assoc (big_bytes 4 spi) low (worked_payload ++ (ends ++ check)) in
      ap spi_of split ∙ big_number-reads_back 4 spi (low ++ (worked_payload ++ (ends ++ check))) (omega (arith, small))

  -- in any table, given these pairs
  module _ (table : Database) where
    abbrev with_pairs : PairMap → Database
    with_pairs pairs = record table { pairs = pairs }

    -- ---- it is sealed

    shortest : IsShortestPacket by 1 4 worked_payload carried
    shortest = record { p = 2; packet = carried_is; shortest = λ q other is. (let aligned = is.aligned in omega (arith, aligned)) }

    alone : HasLone (sender 0) (lone_pair (sender 0))
    alone = lone_in (sender 0)

    pub it_is_sealed : (after : PairMap) → after ≡ map.insert (lone_pair (sender 0)) 1 (sender 1)
        → Sends (with_pairs (lone_pair (sender 0))) all_protected worked_payload (Sealed 1 1 carried) (with_pairs after)
    it_is_sealed after is = record {
      flow = worked_flow;
      decided = worked_decided;
      protects = record {
        carrier = record {
          carries = record { pair = sender 0; there = alone.there; live = refl; covered = worked_covered };
          greatest = λ other above carries. (let same = (alone.only other carries.pair carries.there).number in absurd (omega (arith, above, same)));
        };
        sealed = record {
          pair = sender 0;
          outbound = (sender 1).outbound;
          sealed = record {
            has_number = omega arith;
            fits = omega arith;
            number = refl;
            last = refl;
            packet = carried;
            appended = refl;
            shortest = shortest;
          };
          changed = record { there = alone.there; content = ap with_pairs is };
        };
      };
    }

    -- ---- it is received

    abbrev unused : Pair
    unused = receiver (unused_window 2)

    lone : HasLone unused (lone_pair unused)
    lone = lone_in unused

    pub addressed : IsAddressedTo (with_pairs (lone_pair unused)) carried unused
    addressed = record {
      has_spi = let least = judged.whole.least in omega (arith, least);
      inbound = subst (λ (n : ℕ). IsInbound (lone_pair unused) n unused) (sym carried_spi)
          (lone_inbound unused (lone_pair unused) spi lone (record { serial = refl; inbound = refl; window = unused_sound }));
    }

    pub it_is_received : (after : PairMap) → after ≡ map.insert (lone_pair unused) 1 (receiver one_taken)
        → Receives (with_pairs (lone_pair unused)) carried (Up 1 1 worked_payload) (with_pairs after)
    it_is_received after is = record {
      pair = unused;
      addressed = addressed;
      child_is = refl;
      next = 4;
      payload = worked_payload;
      opened = record {
        pair = unused;
        inbound = record { association = by; window = one_taken };
        opened = record { judged = judged; taken = record { association = refl; window = one_is_taken }; contents = contents };
        changed = record { there = lone.there; content = ap with_pairs is };
      };
      verdict_is = (refl, worked_traffic);
    }

    -- What comes as the same octets is judged as number 1, so it had been sent where that packet had.
    pub packet_was_sent : (stored : Stored) → Contains stored.sent (datagram_of A (mark.Esp (simplex_of by) 1) carried)
        → (pair : Pair) (number : ℕ) (octets : Octets) → input.Esp carried ≡ input.Esp octets → IsAddressedTo (with_pairs (lone_pair unused)) octets pair
        → Judges pair.inbound.association pair.inbound.window octets number → HasSentPacket A spi first number octets stored
    packet_was_sent stored sent pair number octets given there is =
        let same : carried ≡ octets = ap esp_octets given in
        let found : pair ≡ unused = (lone.only pair.serial pair there.inbound.there).content in
        let of_found : Judges by (unused_window 2) octets number = subst (λ (p : Pair). Judges p.inbound.association p.inbound.window octets number) found is in
        let number_is : number ≡ 1 = of_found.number.0 ∙ ap low_half (sym same) ∙ low_half_is in
        record {
          by = simplex_of by;
          spi_is = refl;
          key_is = refl;
          sent = subst (λ (d : Datagram). Contains stored.sent d) (λ i. datagram_of A (mark.Esp (simplex_of by) (sym number_is i)) (same i)) sent;
        }
