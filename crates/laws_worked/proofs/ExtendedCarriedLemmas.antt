-- The worked packet is sealed by A's pair and delivered by B's, with extended sequence numbers, whatever the
-- SPIs and the keys of the Child SA are.
use Rattle.std.proofs.Common.{◌≡◌, ◌<◌, ◌^◌, ◌++◌, ℕ, true, refl, sym, ap, ◌∙◌, subst, arith}
use Rattle.std.specs.FinMap as map
use Rattle.std.proofs.lemmas.List.{append_assoc}
use Rattle.byteorder.specs.Endian.{big_bytes}
use Rattle.byteorder.specs.Numbers.{big_number-reads_back}
use Rattle.base.specs.Octets.{Octets}
use Rattle.replay.specs.Window.{unused_window, Seen}
use Rattle.esp.specs.Judging.{low_half, Judges}
use Rattle.esp.specs.Packet.{check_value, head, packet, trailer, IsContents, IsPacket}
use Rattle.esp.specs.Sealing.{IsShortestPacket}
use Rattle.esp.specs.Worked.{worked_payload}
use Rattle.esp.specs.declared.sa.Sa as esp
use Rattle.esp.proofs.PacketLemmas.{packet_contents, packet_low_half, packet_passes, packet_whole}
use Rattle.sadb.specs.Database.{Database, IsInbound, PairMap}
use Rattle.sadb.specs.declared.pair.Pair.{Pair}
use Rattle.sadb.specs.declared.pair.State.TheVariants.{Live}
use Rattle.traffic.specs.Outcomes.{Sealed, Up}
use Rattle.traffic.specs.Receiving.{spi_of, IsAddressedTo, Receives, TakesNumberAt}
use Rattle.traffic.specs.Sending.{Sends}
use Rattle.deliveries.specs.Worked.{any_traffic}
use Rattle.laws_two_ends.specs.WorkedChildren.{all_protected, lone_pair, one_taken}
use Rattle.laws_two_ends.proofs.FlowLemmas.{worked_covered, worked_decided, worked_flow, worked_traffic}
use Rattle.laws_two_ends.proofs.TableLemmas.{lone_in, lone_inbound, none_taken, unused_sound}
use Rattle.laws_worked.proofs.ReplayLemmas.{one_is_taken}

-- by the SPI of what A sends and that of what B sends, and by the keys of both
module _ (spi other : ℕ) (small : spi < 2 ^ 32) (first second : Octets) where
  abbrev by : esp.Sa
  by = record { spi = spi; key = first; extended = true }

  abbrev back : esp.Sa
  back = record { spi = other; key = second; extended = true }

  abbrev carried : Octets
  carried = packet by 1 4 worked_payload 2

  abbrev sender : ℕ → Pair
  sender last = record {
    serial = 1;
    ike = 1;
    inbound = record { association = back; window = unused_window 2 };
    outbound = record { association = by; last = last };
    local = any_traffic;
    remote = any_traffic;
    state = Live;
  }

  abbrev receiver : Seen → Pair
  receiver window = record {
    serial = 1;
    ike = 1;
    inbound = record { association = by; window = window };
    outbound = record { association = back; last = 0 };
    local = any_traffic;
    remote = any_traffic;
    state = Live;
  }

  -- ---- the packet

  carried_is : IsPacket by 1 4 worked_payload 2 carried
  carried_is = record { octets = refl; aligned = refl; one_octet = omega arith; fits = omega arith }

  pub low_half_is : low_half carried ≡ 1
  low_half_is = packet_low_half by 1 4 worked_payload 2 carried carried_is

  pub judged : Judges by (unused_window 2) carried 1
  judged = record {
    whole = packet_whole by 1 4 worked_payload 2 carried carried_is (omega arith);
    number = record { low_half = sym low_half_is; from_the_edge = omega arith; one_cycle = omega arith; not_zero = omega arith; fits = omega arith };
    in_reach = omega arith;
    new = none_taken 1;
    intact = packet_passes by 1 4 worked_payload 2 carried carried_is;
  }

  contents : IsContents carried 4 worked_payload
  contents = packet_contents by 1 4 worked_payload 2 carried carried_is

  carried_spi : spi_of carried ≡ spi
  carried_spi =
      let begins : Octets = head by 1 in
      let ends : Octets = trailer 2 4 in
      let check : Octets = check_value by 1 (begins ++ worked_payload ++ ends) in
      let low : Octets = big_bytes 4 1 in
      let split : carried ≡ big_bytes 4 spi ++ (low ++ (worked_payload ++ (ends ++ check))) =
      append_assoc (begins ++ worked_payload) ends check
      ∙ append_assoc begins worked_payload (ends ++ check)
      ∙ append_assoc (big_bytes 4 spi) low (worked_payload ++ (ends ++ check)) in
      ap spi_of split ∙ big_number-reads_back 4 spi (low ++ (worked_payload ++ (ends ++ check))) (omega (arith, small))

  shortest : IsShortestPacket by 1 4 worked_payload carried
  shortest = record { p = 2; packet = carried_is; shortest = λ q others is. (let aligned = is.aligned in omega (arith, aligned)) }

  -- in any table, given these pairs
  module _ (table : Database) where
    abbrev with_pairs : PairMap → Database
    with_pairs pairs = record table { pairs = pairs }

    pub it_is_sealed : (after : PairMap) → after ≡ map.insert (lone_pair (sender 0)) 1 (sender 1)
        → Sends (with_pairs (lone_pair (sender 0))) all_protected worked_payload (Sealed 1 1 carried) (with_pairs after)
    it_is_sealed after is = record {
      flow = worked_flow;
      decided = worked_decided;
      protects = record {
        carrier = record {
          carries = record { pair = sender 0; there = (lone_in (sender 0)).there; live = refl; covered = worked_covered };
          greatest = λ serial above carries. (let same = ((lone_in (sender 0)).only serial carries.pair carries.there).number in absurd (omega (arith, above, same)));
        };
        sealed = record {
          pair = sender 0;
          outbound = (sender 1).outbound;
          sealed = record {
            has_number = omega arith;
            fits = omega arith;
            number = refl;
            last = refl;
            packet = carried;
            appended = refl;
            shortest = shortest;
          };
          changed = record { there = (lone_in (sender 0)).there; content = ap with_pairs is };
        };
      };
    }

    abbrev unused : Pair
    unused = receiver (unused_window 2)

    pub addressed : IsAddressedTo (with_pairs (lone_pair unused)) carried unused
    addressed = record {
      has_spi = let least = judged.whole.least in omega (arith, least);
      inbound = subst (λ (n : ℕ). IsInbound (lone_pair unused) n unused) (sym carried_spi)
          (lone_inbound unused (lone_pair unused) spi (lone_in unused) (record { serial = refl; inbound = refl; window = unused_sound }));
    }

    pub it_is_received : (after : PairMap) → after ≡ map.insert (lone_pair unused) 1 (receiver one_taken)
        → Receives (with_pairs (lone_pair unused)) carried (Up 1 1 worked_payload) (with_pairs after)
    it_is_received after is = record {
      pair = unused;
      addressed = addressed;
      child_is = refl;
      next = 4;
      payload = worked_payload;
      opened = record {
        pair = unused;
        inbound = record { association = by; window = one_taken };
        opened = record { judged = judged; taken = record { association = refl; window = one_is_taken }; contents = contents };
        changed = record { there = (lone_in unused).there; content = ap with_pairs is };
      };
      verdict_is = (refl, worked_traffic);
    }

    pub is_taken : (after : PairMap) → after ≡ map.insert (lone_pair unused) 1 (receiver one_taken)
        → TakesNumberAt (with_pairs (lone_pair unused)) carried 1 1 (with_pairs after)
    is_taken after is = record {
      pair = unused;
      addressed = addressed;
      child_is = refl;
      judged = judged;
      inbound = record { association = by; window = one_taken };
      taken = record { association = refl; window = one_is_taken };
      changed = record { there = (lone_in unused).there; content = ap with_pairs is };
    }

    -- by no other number
    pub number_is_one : (octets : Octets) (child number : ℕ) (new : Database) → carried ≡ octets
        → TakesNumberAt (with_pairs (lone_pair unused)) octets child number new → number ≡ 1
    number_is_one octets child number new same takes =
        let found : takes.pair ≡ unused = ((lone_in unused).only takes.pair.serial takes.pair takes.addressed.inbound.there).content in
        let judges : Judges by (unused_window 2) octets number = subst (λ (p : Pair). Judges p.inbound.association p.inbound.window octets number) found takes.judged in
        let low = judges.number.low_half in
        let cycle = judges.number.one_cycle in
        let one : low_half octets ≡ 1 = ap low_half (sym same) ∙ low_half_is in
        omega (arith, low, cycle, one)
