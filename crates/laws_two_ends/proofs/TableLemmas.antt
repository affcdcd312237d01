-- A table of one pair is sound, and that pair is all that is found in it.
use Rattle.std.proofs.Common.{◌≡◌, ◌+◌, ◌≤◌, ◌^◌, ℕ, Bool, true, false, cond, Some, refl, sym, ap, ◌∙◌, subst, arith}
use Rattle.std.specs.Cmp.{nat_cmp_total}
use Rattle.std.specs.FinMap as map
use Rattle.std.specs.FinSet as set
use Rattle.std.specs.Ordering.{nat_cmp}
use Rattle.std.proofs.lemmas.Bool.{both_ways}
use Rattle.replay.specs.Window.{unused_window, IsSoundWindow}
use Rattle.sadb.specs.Database.{pair_at, HasInbound, IsInbound, IsSoundTable, PairMap}
use Rattle.sadb.specs.declared.pair.Pair.{Pair}
use Rattle.laws_two_ends.specs.WorkedChildren.{lone_pair, table_with}
use Rattle.laws_two_ends.proofs.MapLemmas.{only_there, put_there, IsOnly}

pub none_taken : (n : ℕ) → set.contains (set.empty {R = nat_cmp}) n ≡ false
none_taken n = set.contains-empty nat_cmp n

pub unused_sound : IsSoundWindow (unused_window 2)
unused_sound = record {
  spans = omega arith;
  not_zero = λ n is. absurd (both_ways _ (none_taken n) is);
  up_to_top = λ n is. absurd (both_ways _ (none_taken n) is);
  in_span = λ n is. absurd (both_ways _ (none_taken n) is);
  top_taken = λ h. absurd (omega arith);
  fits = omega arith;
}

abbrev no_pairs : PairMap
no_pairs = map.empty

-- the map has the one pair, under the serial 1
pub record HasLone (lone : Pair) (pairs : PairMap) : Type 0 where
  pub there : pair_at pairs 1 ≡ Some lone
  pub only : (serial : ℕ) (pair : Pair) → pair_at pairs serial ≡ Some pair → IsOnly 1 lone serial pair

pub lone_in : (lone : Pair) → HasLone lone (lone_pair lone)
lone_in lone = record { there = put_there no_pairs 1 1 lone refl; only = only_there no_pairs refl 1 lone }

one_more_at_most : (b : Bool) (n : ℕ) → cond b n (n + 1) ≤ n + 1
one_more_at_most true n = omega arith
one_more_at_most false n = omega arith

pub few_pairs : (lone : Pair) → map.len (lone_pair lone) ≤ 1
few_pairs lone =
    let len = map.len-insert nat_cmp_total no_pairs 1 lone in
    let most = one_more_at_most (map.contains_key no_pairs 1) (map.len no_pairs) in
    let none = map.len-empty nat_cmp Pair in
    omega arith

-- a pair with the serial 1, this inbound SPI and a sound window
pub record IsFit (lone : Pair) (spi : ℕ) : Type 0 where
  pub serial : lone.serial ≡ 1
  pub inbound : lone.inbound.association.spi ≡ spi
  pub window : IsSoundWindow lone.inbound.window

of_inbound : (lone : Pair) (pairs : PairMap) (own : ℕ) → HasLone lone pairs → IsFit lone own → (serial spi : ℕ) → HasInbound pairs spi serial → (serial ≡ 1) × (spi ≡ own)
of_inbound lone pairs own has fit serial spi is =
    let found = has.only serial is.pair is.there in
    (found.number, sym is.its_own ∙ ap (λ (p : Pair). p.inbound.association.spi) found.content ∙ fit.inbound)

-- it is the one with this SPI
pub lone_inbound : (lone : Pair) (pairs : PairMap) (own : ℕ) → HasLone lone pairs → IsFit lone own → IsInbound pairs own lone
lone_inbound lone pairs own has fit = record {
  there = subst (λ (n : ℕ). pair_at pairs n ≡ Some lone) (sym fit.serial) has.there;
  its_own = fit.inbound;
  only = λ serial is. (of_inbound lone pairs own has fit serial own is).0 ∙ sym fit.serial;
}

pub sound_table : (lone : Pair) (pairs : PairMap) (spi : ℕ) → HasLone lone pairs → map.len pairs ≤ 1 → IsFit lone spi
    → 256 ≤ spi → spi + 65536 ≤ 2 ^ 32 → IsSoundTable (table_with spi pairs)
sound_table lone pairs spi has few fit least most =
    record {
      start = record { least = least; most = most };
      given = omega arith;
      first = omega arith;
      next = let none = set.len-empty nat_cmp in omega arith;
      few = let none = set.len-empty nat_cmp in omega (arith, none, few);
      reserved_given = λ other is. absurd (both_ways _ (none_taken other) is);
      serial = λ serial pair there. (let found = has.only serial pair there in ap (λ (p : Pair). p.serial) found.content ∙ fit.serial ∙ sym found.number);
      serial_given = λ serial pair there. (let is = (has.only serial pair there).number in (omega (arith, is), omega (arith, is)));
      window = λ serial pair there. subst (λ (p : Pair). IsSoundWindow p.inbound.window) (sym (has.only serial pair there).content) fit.window;
      spi_given = λ serial other is. (let same = (of_inbound lone pairs spi has fit serial other is).1 in record { from_start = omega (arith, same); before_next = omega (arith, same) });
      spi_taken = λ serial other is reserved. both_ways _ (none_taken other) reserved;
      apart = λ serial other spi first second. (of_inbound lone pairs _ has fit serial spi first).0 ∙ sym (of_inbound lone pairs _ has fit other spi second).0;
    }
