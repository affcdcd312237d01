-- A table of two pairs: what is found in it, that it is sound, and that a packet is sealed, delivered and
-- accepted by the second.
use Rattle.std.proofs.Common.{inl, inr, ◌≡◌, ◌⊎◌, ◌<◌, ◌≤◌, ◌+◌, ◌^◌, ℕ, Bool, true, false, cond, [], Some, Contains, length, refl, sym, ap, ◌∙◌, subst, arith}
use Rattle.std.specs.Cmp.{nat_cmp_total}
use Rattle.std.specs.FinMap as map
use Rattle.std.specs.FinSet as set
use Rattle.std.specs.Ordering.{nat_cmp}
use Rattle.std.proofs.lemmas.Bool.{both_ways}
use Rattle.std.proofs.lemmas.Bool.Decides.{eqb_tells}
use Rattle.base.specs.Octets.{Octets}
use Rattle.replay.specs.Window.{unused_window, IsSoundWindow, Seen}
use Rattle.esp.specs.Judging.{low_half, Judges}
use Rattle.esp.specs.Packet.{packet, IsContents, IsPacket}
use Rattle.esp.specs.Sealing.{IsShortestPacket}
use Rattle.esp.specs.Worked.{worked_payload}
use Rattle.esp.specs.declared.sa.Sa as esp
use Rattle.esp.proofs.PacketLemmas.{packet_contents}
use Rattle.sadb.specs.Database.{pair_at, Database, HasInbound, IsSoundTable, PairMap}
use Rattle.sadb.specs.declared.pair.Pair.{Pair}
use Rattle.sadb.specs.declared.pair.State.TheVariants.{Live}
use Rattle.traffic.specs.Outcomes.{Sealed, Up}
use Rattle.traffic.specs.Receiving.{spi_of, IsAddressedTo, Receives}
use Rattle.traffic.specs.Sending.{Sends}
use Rattle.deliveries.specs.Worked.{any_traffic}
use Rattle.gateway.specs.Inputs.{Input}
use Rattle.gateway.specs.Inputs as input
use Rattle.gateway.specs.WorldPackets.{HasSentPacket}
use Rattle.gateway.specs.Worlds.{datagram_of, simplex_of, Stored}
use Rattle.gateway.specs.declared.world.stored.Datagram.{Datagram}
use Rattle.gateway.specs.declared.world.stored.End.TheVariants.{A}
use Rattle.gateway.specs.declared.world.stored.Protection.TheVariants as mark
use Rattle.laws_two_ends.specs.WorkedChildren.{all_protected, lone_pair, one_taken}
use Rattle.laws_two_ends.proofs.CarriedLemmas.{addressed as first_addressed, judged}
use Rattle.laws_two_ends.proofs.FlowLemmas.{worked_covered, worked_decided, worked_flow, worked_traffic}
use Rattle.laws_two_ends.proofs.MapLemmas.{put_beside, put_there}
use Rattle.laws_two_ends.proofs.TableLemmas.{few_pairs, lone_in, none_taken}
use Rattle.laws_two_ends.proofs.MapLemmas.{IsOnly}
use Rattle.laws_worked.proofs.ReplayLemmas.{low_half_is, one_is_taken}

-- ---- what is found

abbrev pub two_pairs : Pair → Pair → PairMap
two_pairs first second = map.insert (lone_pair first) 2 second

module _ (first second : Pair) where
  pub second_there : pair_at (two_pairs first second) 2 ≡ Some second
  second_there = put_there (lone_pair first) 2 2 second refl

  pub first_there : pair_at (two_pairs first second) 1 ≡ Some first
  first_there = put_beside (lone_pair first) 2 1 second (λ is. absurd (omega (arith, is))) ∙ (lone_in first).there

  same_pair : (one other : Pair) → Some one ≡ Some other → other ≡ one
  same_pair one other is = cc

  pub one_of_both : (serial : ℕ) (pair : Pair) → pair_at (two_pairs first second) serial ≡ Some pair → IsOnly 2 second serial pair ⊎ IsOnly 1 first serial pair
  one_of_both serial pair there = elim (eqb_tells serial 2) [
    | inl (_, same) ↦ inl (record { number = same; content = same_pair second pair (sym (put_there (lone_pair first) 2 serial second same) ∙ there) })
    | inr (_, apart) ↦ inr ((lone_in first).only serial pair (sym (put_beside (lone_pair first) 2 serial second apart) ∙ there))
  ]

  one_more_at_most : (b : Bool) (n : ℕ) → cond b n (n + 1) ≤ n + 1
  one_more_at_most true n = omega arith
  one_more_at_most false n = omega arith

  few : map.len (two_pairs first second) ≤ 2
  few =
      let len = map.len-insert nat_cmp_total (lone_pair first) 2 second in
      let most = one_more_at_most (map.contains_key (lone_pair first) 2) (map.len (lone_pair first)) in
      let one = few_pairs first in
      omega (arith, len, most, one)

-- ---- the table is sound

-- of an end that began at this SPI
abbrev pub table_of_two : ℕ → Pair → Pair → Database
table_of_two start first second = record { start = start; given = 2; reserved = set.empty; next = 3; pairs = two_pairs first second; room = 0 }

-- the pair has this serial, this inbound SPI and a sound window
pub record IsFitAt (serial spi : ℕ) (pair : Pair) : Type 0 where
  pub serial_is : pair.serial ≡ serial
  pub inbound : pair.inbound.association.spi ≡ spi
  pub window : IsSoundWindow pair.inbound.window

module _ (start : ℕ) (first second : Pair) (one : IsFitAt 1 start first) (two : IsFitAt 2 (start + 1) second) (least : 256 ≤ start) (most : start + 65536 ≤ 2 ^ 32) where
  abbrev pairs : PairMap
  pairs = two_pairs first second

  -- by whether it is the second or the first
  of_inbound : (serial spi : ℕ) → HasInbound pairs spi serial → ((serial ≡ 2) × (spi ≡ start + 1)) ⊎ ((serial ≡ 1) × (spi ≡ start))
  of_inbound serial spi is = elim (one_of_both first second serial is.pair is.there) [
    | inl found ↦ inl (found.number, sym is.its_own ∙ ap (λ (p : Pair). p.inbound.association.spi) found.content ∙ two.inbound)
    | inr found ↦ inr (found.number, sym is.its_own ∙ ap (λ (p : Pair). p.inbound.association.spi) found.content ∙ one.inbound)
  ]

  none_reserved : (spi : ℕ) → set.contains {R = nat_cmp} set.empty spi ≡ true → ⊥
  none_reserved spi is = both_ways _ (none_taken spi) is

  pub two_are_sound : IsSoundTable (table_of_two start first second)
  two_are_sound = record {
    start = record { least = least; most = most };
    given = omega arith;
    first = omega arith;
    next = let none = set.len-empty nat_cmp in omega (arith, none);
    few = let none = set.len-empty nat_cmp in let many = few first second in omega (arith, none, many);
    reserved_given = λ spi is. absurd (none_reserved spi is);
    serial = λ serial pair there. elim (one_of_both first second serial pair there) [
      | inl found ↦ ap (λ (p : Pair). p.serial) found.content ∙ two.serial_is ∙ sym found.number
      | inr found ↦ ap (λ (p : Pair). p.serial) found.content ∙ one.serial_is ∙ sym found.number
    ];
    serial_given = λ serial pair there. elim (one_of_both first second serial pair there) [
      | inl found ↦ (let is = found.number in (omega (arith, is), omega (arith, is)))
      | inr found ↦ (let is = found.number in (omega (arith, is), omega (arith, is)))
    ];
    window = λ serial pair there. elim (one_of_both first second serial pair there) [
      | inl found ↦ subst (λ (p : Pair). IsSoundWindow p.inbound.window) (sym found.content) two.window
      | inr found ↦ subst (λ (p : Pair). IsSoundWindow p.inbound.window) (sym found.content) one.window
    ];
    spi_given = λ serial spi is. elim (of_inbound serial spi is) [
      | inl (_, same) ↦ record { from_start = omega (arith, same); before_next = omega (arith, same) }
      | inr (_, same) ↦ record { from_start = omega (arith, same); before_next = omega (arith, same) }
    ];
    spi_taken = λ serial spi is reserved. none_reserved spi reserved;
    apart = λ serial other spi here there. elim (of_inbound serial spi here) [
      | inl (here_is, here_spi) ↦ elim (of_inbound other spi there) [
        | inl (there_is, there_spi) ↦ here_is ∙ sym there_is
        | inr (there_is, there_spi) ↦ absurd (omega (arith, here_spi, there_spi))
      ]
      | inr (here_is, here_spi) ↦ elim (of_inbound other spi there) [
        | inl (there_is, there_spi) ↦ absurd (omega (arith, here_spi, there_spi))
        | inr (there_is, there_spi) ↦ here_is ∙ sym there_is
      ]
    ];
  }

-- ---- a packet of the second pair

abbrev esp_octets : Input → Octets
esp_octets (input.Esp octets) = octets
esp_octets _ = []

-- by the SPI of what A sends and that of what B sends, and by the keys of both; B's first pair has another SPI
module _ (spi other : ℕ) (small : spi < 2 ^ 32) (by_key back_key : Octets) where
  abbrev by : esp.Sa
  by = record { spi = spi; key = by_key; extended = false }

  abbrev back : esp.Sa
  back = record { spi = other; key = back_key; extended = false }

  abbrev pub carried : Octets
  carried = packet by 1 4 worked_payload 2

  abbrev sender : ℕ → Pair
  sender last = record {
    serial = 2;
    ike = 1;
    inbound = record { association = back; window = unused_window 2 };
    outbound = record { association = by; last = last };
    local = any_traffic;
    remote = any_traffic;
    state = Live;
  }

  abbrev receiver : Seen → Pair
  receiver window = record {
    serial = 2;
    ike = 1;
    inbound = record { association = by; window = window };
    outbound = record { association = back; last = 0 };
    local = any_traffic;
    remote = any_traffic;
    state = Live;
  }

  carried_is : IsPacket by 1 4 worked_payload 2 carried
  carried_is = record { octets = refl; aligned = refl; one_octet = omega arith; fits = omega arith }

  shortest : IsShortestPacket by 1 4 worked_payload carried
  shortest = record { p = 2; packet = carried_is; shortest = λ q others is. (let aligned = is.aligned in omega (arith, aligned)) }

  contents : IsContents carried 4 worked_payload
  contents = packet_contents by 1 4 worked_payload 2 carried carried_is

  is_judged : Judges by (unused_window 2) carried 1
  is_judged = judged spi other small by_key back_key

  module _ (table : Database) (first : Pair) where
    abbrev with_pairs : PairMap → Database
    with_pairs pairs = record table { pairs = pairs }

    pub it_is_sealed : Sends (with_pairs (two_pairs first (sender 0))) all_protected worked_payload (Sealed 2 1 carried)
        (with_pairs (map.insert (two_pairs first (sender 0)) 2 (sender 1)))
    it_is_sealed = record {
      flow = worked_flow;
      decided = worked_decided;
      protects = record {
        carrier = record {
          carries = record { pair = sender 0; there = second_there first (sender 0); live = refl; covered = worked_covered };
          greatest = λ serial above carries. elim (one_of_both first (sender 0) serial carries.pair carries.there) [
            | inl found ↦ (let same = found.number in absurd (omega (arith, above, same)))
            | inr found ↦ (let same = found.number in absurd (omega (arith, above, same)))
          ];
        };
        sealed = record {
          pair = sender 0;
          outbound = (sender 1).outbound;
          sealed = record {
            has_number = omega arith;
            fits = omega arith;
            number = refl;
            last = refl;
            packet = carried;
            appended = refl;
            shortest = shortest;
          };
          changed = record { there = second_there first (sender 0); content = refl };
        };
      };
    }

    -- where the first pair has another SPI
    module _ (apart : first.inbound.association.spi ≡ spi → ⊥) where
      abbrev unused : Pair
      unused = receiver (unused_window 2)

      its_spi : spi ≡ spi_of carried
      its_spi = (first_addressed spi other small by_key back_key table).inbound.its_own

      has_spi : 4 ≤ length carried
      has_spi = (first_addressed spi other small by_key back_key table).has_spi

      pub addressed : IsAddressedTo (with_pairs (two_pairs first unused)) carried unused
      addressed = record {
        has_spi = has_spi;
        inbound = record {
          there = second_there first unused;
          its_own = its_spi;
          only = λ serial is. elim (one_of_both first unused serial is.pair is.there) [
            | inl found ↦ found.number
            | inr found ↦ absurd (apart (sym (ap (λ (p : Pair). p.inbound.association.spi) found.content) ∙ is.its_own ∙ sym its_spi))
          ];
        };
      }

      pub it_is_received : Receives (with_pairs (two_pairs first unused)) carried (Up 2 1 worked_payload)
          (with_pairs (map.insert (two_pairs first unused) 2 (receiver one_taken)))
      it_is_received = record {
        pair = unused;
        addressed = addressed;
        child_is = refl;
        next = 4;
        payload = worked_payload;
        opened = record {
          pair = unused;
          inbound = record { association = by; window = one_taken };
          opened = record { judged = is_judged; taken = record { association = refl; window = one_is_taken }; contents = contents };
          changed = record { there = second_there first unused; content = refl };
        };
        verdict_is = (refl, worked_traffic);
      }

      -- What is judged as a number of the second pair had been sent where that packet had.
      pub packet_was_sent : (stored : Stored) → Contains stored.sent (datagram_of A (mark.Esp (simplex_of by) 1) carried)
          → (pair : Pair) (number : ℕ) (octets : Octets) → input.Esp carried ≡ input.Esp octets → IsAddressedTo (with_pairs (two_pairs first unused)) octets pair
          → pair.serial ≡ 2 → Judges pair.inbound.association pair.inbound.window octets number → HasSentPacket A spi by_key number octets stored
      packet_was_sent stored sent pair number octets given there own is =
          let same : carried ≡ octets = ap esp_octets given in
          let found : pair ≡ unused = elim (one_of_both first unused pair.serial pair there.inbound.there) [
            | inl found ↦ found.content
            | inr found ↦ (let number = found.number in absurd (omega (arith, own, number)))
          ] in
          let of_found : Judges by (unused_window 2) octets number = subst (λ (p : Pair). Judges p.inbound.association p.inbound.window octets number) found is in
          let number_is : number ≡ 1 = of_found.number.0 ∙ ap low_half (sym same) ∙ low_half_is spi other small by_key back_key in
          record {
            by = simplex_of by;
            spi_is = refl;
            key_is = refl;
            sent = subst (λ (d : Datagram). Contains stored.sent d) (λ i. datagram_of A (mark.Esp (simplex_of by) (sym number_is i)) (same i)) sent;
          }
