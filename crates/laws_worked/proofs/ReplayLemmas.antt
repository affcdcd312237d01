-- The worked packet comes once more where it was taken: it is dropped, whatever the SPIs and the keys of the
-- Child SA are.
use Rattle.std.proofs.Common.{inl, inr, ◌≡◌, ◌<◌, ◌+◌, ◌^◌, ◌||◌, ◌&&◌, ℕ, Bool, true, false, refl, sym, ap, ◌∙◌, subst, arith}
use Rattle.std.specs.Prelude.{nat_eq, nat_lt}
use Rattle.std.specs.FinMap as map
use Rattle.std.specs.FinSet as set
use Rattle.std.specs.Ordering.{nat_cmp}
use Rattle.std.proofs.lemmas.Bool.{eq-eqb, lt-ltb, or_left, true≢false}
use Rattle.base.specs.Octets.{Octets}
use Rattle.replay.specs.Window.{unused_window, Seen, Takes}
use Rattle.esp.specs.Judging.{low_half, Judges}
use Rattle.esp.specs.Packet.{packet, PassesIntegrity}
use Rattle.esp.specs.Worked.{worked_payload}
use Rattle.esp.specs.declared.fault.EspFault.TheVariants.{Replayed}
use Rattle.esp.specs.declared.sa.Sa as esp
use Rattle.esp.proofs.NumberLemmas.{contains-insert_nat}
use Rattle.sadb.specs.Database.{Database, IsInbound, PairMap}
use Rattle.sadb.specs.declared.pair.Pair.{Pair}
use Rattle.sadb.specs.declared.pair.State.TheVariants.{Live}
use Rattle.traffic.specs.Outcomes.{Dropped}
use Rattle.traffic.specs.Receiving.{IsAddressedTo, Receives, TakesNumberAt}
use Rattle.traffic.specs.declared.fault.PacketFault.TheVariants.{Esp}
use Rattle.deliveries.specs.Worked.{any_traffic}
use Rattle.laws_two_ends.specs.WorkedChildren.{lone_pair, one_taken}
use Rattle.laws_two_ends.proofs.CarriedLemmas.{addressed, judged, one_sound}
use Rattle.laws_two_ends.proofs.MapLemmas.{put_again}
use Rattle.laws_two_ends.proofs.TableLemmas.{lone_in, lone_inbound, HasLone}

-- ---- the window

with_true : (x m : Bool) → m ≡ true → x ≡ (x && m)
with_true true m is = sym is
with_true false m is = refl

pub one_is_taken : Takes (unused_window 2) 1 one_taken
one_is_taken = record {
  top = refl;
  size = refl;
  taken = λ q. contains-insert_nat set.empty 1 q ∙ with_true (nat_eq q 1 || set.contains set.empty q) (nat_lt 1 (q + 64)) (lt-ltb 1 (q + 64) (omega arith));
}

one_there : set.contains one_taken.taken 1 ≡ true
one_there = contains-insert_nat set.empty 1 1 ∙ or_left (nat_eq 1 1) (set.contains (set.empty {R = nat_cmp}) 1) (eq-eqb 1 1 refl)

-- by the SPI of what A sends and that of what B sends, and by the keys of both
module _ (spi other : ℕ) (small : spi < 2 ^ 32) (first second : Octets) where
  abbrev by : esp.Sa
  by = record { spi = spi; key = first; extended = false }

  abbrev back : esp.Sa
  back = record { spi = other; key = second; extended = false }

  abbrev carried : Octets
  carried = packet by 1 4 worked_payload 2

  abbrev receiver : Seen → Pair
  receiver window = record {
    serial = 1;
    ike = 1;
    inbound = record { association = by; window = window };
    outbound = record { association = back; last = 0 };
    local = any_traffic;
    remote = any_traffic;
    state = Live;
  }

  abbrev unused : Pair
  unused = receiver (unused_window 2)

  abbrev taken : Pair
  taken = receiver one_taken

  first_judged : Judges by (unused_window 2) carried 1
  first_judged = judged spi other small first second

  pub passes : PassesIntegrity by 1 carried
  passes = first_judged.intact

  pub low_half_is : low_half carried ≡ 1
  low_half_is = sym first_judged.number.0

  -- in any table, given these pairs
  module _ (table : Database) where
    abbrev with_pairs : PairMap → Database
    with_pairs pairs = record table { pairs = pairs }

    first_addressed : IsAddressedTo (with_pairs (lone_pair unused)) carried unused
    first_addressed = addressed spi other small first second table

    -- ---- at first

    pub is_taken : (after : PairMap) → after ≡ map.insert (lone_pair unused) 1 taken
        → TakesNumberAt (with_pairs (lone_pair unused)) carried 1 1 (with_pairs after)
    is_taken after is = record {
      pair = unused;
      addressed = first_addressed;
      child_is = refl;
      judged = first_judged;
      inbound = record { association = by; window = one_taken };
      taken = record { association = refl; window = one_is_taken };
      changed = record { there = (lone_in unused).there; content = ap with_pairs is };
    }

    -- by no other number
    pub number_is_one : (octets : Octets) (child number : ℕ) (new : Database) → carried ≡ octets
        → TakesNumberAt (with_pairs (lone_pair unused)) octets child number new → number ≡ 1
    number_is_one octets child number new same takes =
        let found : takes.pair ≡ unused = ((lone_in unused).only takes.pair.serial takes.pair takes.addressed.inbound.there).content in
        let judges : Judges by (unused_window 2) octets number = subst (λ (p : Pair). Judges p.inbound.association p.inbound.window octets number) found takes.judged in
        judges.number.0 ∙ ap low_half (sym same) ∙ low_half_is

    -- ---- and again

    lone : HasLone taken (lone_pair taken)
    lone = lone_in taken

    addressed_again : IsAddressedTo (with_pairs (lone_pair taken)) carried taken
    addressed_again = record {
      has_spi = first_addressed.has_spi;
      inbound = subst (λ (n : ℕ). IsInbound (lone_pair taken) n taken) first_addressed.inbound.its_own
          (lone_inbound taken (lone_pair taken) spi lone (record { serial = refl; inbound = refl; window = one_sound }));
    }

    pub is_dropped : Receives (with_pairs (lone_pair taken)) carried (Dropped (Esp Replayed)) (with_pairs (lone_pair taken))
    is_dropped = inr (inl (record {
      pair = taken;
      addressed = addressed_again;
      refused = record {
        pair = taken;
        inbound = taken.inbound;
        refused = ((first_judged.whole, (1, first_judged.number, omega arith, one_there)), refl);
        changed = record { there = lone.there; content = ap with_pairs (sym (put_again map.empty 1 taken taken)) };
      };
      unchanged = λ other. refl;
    }))

    -- no number of it is new
    pub is_not_taken : (octets : Octets) (child number : ℕ) (new : Database) → carried ≡ octets → ¬ TakesNumberAt (with_pairs (lone_pair taken)) octets child number new
    is_not_taken octets child number new same takes =
        let found : takes.pair ≡ taken = (lone.only takes.pair.serial takes.pair takes.addressed.inbound.there).content in
        let judges : Judges by one_taken octets number = subst (λ (p : Pair). Judges p.inbound.association p.inbound.window octets number) found takes.judged in
        let number_is : number ≡ 1 = judges.number.0 ∙ ap low_half (sym same) ∙ low_half_is in
        true≢false (sym one_there ∙ sym (ap (set.contains one_taken.taken) number_is) ∙ judges.new)
