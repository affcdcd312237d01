-- The tables of both ends where the additional Child SA is made: they give a second SPI, and the pair comes
-- for it.
use Rattle.std.proofs.Common.{◌≡◌, ◌+◌, ◌≤◌, ◌^◌, ◌||◌, inl, inr, ℕ, Bool, true, false, cond, ap, arith, refl, subst, sym, ◌∙◌}
use Rattle.std.proofs.lemmas.Bool.{ne_eqb}
use Rattle.std.proofs.lemmas.Bool.Decides.{eqb_tells}
use Rattle.std.specs.Cmp.{nat_cmp_total}
use Rattle.std.specs.FinMap as map
use Rattle.std.specs.FinSet as set
use Rattle.std.specs.Ordering.{nat_cmp}
use Rattle.esp.proofs.NumberLemmas.{contains-insert_nat}
use Rattle.replay.specs.Window.{unused_window}
use Rattle.exchange.specs.declared.headers.Role.TheVariants.{Initiator, Responder}
use Rattle.sadb.specs.Database.{Database, Installs, IsFull, IsSoundTable, WasGiven}
use Rattle.sadb.specs.declared.pair.Pair.{Pair}
use Rattle.children.specs.Pairs.{new_pair}
use Rattle.children.specs.Responding.{AddsNext}
use Rattle.further.specs.Deciding.{further_setting}
use Rattle.laws_two_ends.specs.WorkedRecords.{worked_record}
use Rattle.laws_two_ends.proofs.TableLemmas.{few_pairs, unused_sound}
use Rattle.laws_two_ends.proofs.CarriedLemmas.{one_sound}
use Rattle.laws_worked.proofs.FurtherMessageLemmas.{nonce_of}
use Rattle.laws_worked.proofs.FurtherStages.{answering_two, asked_table, asking_two, further_pair, further_terms, with_reserved}
use Rattle.laws_two_ends.proofs.HeldLemmas.{asking_table_is_sound, later_table_is_sound, unreserved}
use Rattle.laws_two_ends.proofs.Stages.{asking_table, later_table, one_taken, pair_of}
use Rattle.laws_worked.proofs.TwoPairLemmas.{table_of_two, two_are_sound, IsFitAt}

-- ---- before

asking_few : map.len (asking_table 1).pairs ≤ 1
asking_few = few_pairs (pair_of Initiator 1 (unused_window 2))

later_few : map.len later_table.pairs ≤ 1
later_few = few_pairs (pair_of Responder 0 one_taken)

-- none is reserved, and there are few pairs
not_full_if : (table : Database) → IsSoundTable table → table.next ≡ 2 → table.given ≡ 1 → map.len table.pairs ≤ 1 → ¬ IsFull table
not_full_if table sound next given few full =
    let free = sound.next in
    absurd (omega (arith, full, few, free, next, given))

pub asking_not_full : ¬ IsFull (asking_table 1)
asking_not_full = not_full_if (asking_table 1) (asking_table_is_sound 1) refl refl asking_few

pub later_not_full : ¬ IsFull later_table
later_not_full = not_full_if later_table later_table_is_sound refl refl later_few

-- ---- an SPI more is reserved

one_more_at_most : (b : Bool) (n : ℕ) → cond b n (n + 1) ≤ n + 1
one_more_at_most true n = omega arith
one_more_at_most false n = omega arith

module _ (table : Database) (sound : IsSoundTable table) (next : table.next ≡ 2) (given : table.given ≡ 1) (few : map.len table.pairs ≤ 1) (spi : ℕ)
    (own : spi ≡ table.start + 1) where
  abbrev after : Database
  after = with_reserved table spi

  reserved_few : set.len after.reserved ≤ 1
  reserved_few =
      let many = set.len-insert nat_cmp_total table.reserved spi in
      let most = one_more_at_most (set.contains table.reserved spi) (set.len table.reserved) in
      let free = sound.next in
      omega (arith, many, most, free, next, given)

  beside : (other : ℕ) → (other ≡ spi → ⊥) → set.contains after.reserved other ≡ set.contains table.reserved other
  beside other apart = contains-insert_nat table.reserved spi other ∙ ap (λ (b : Bool). b || set.contains table.reserved other) (ne_eqb other spi apart)

  given_so : (other : ℕ) → WasGiven table other → WasGiven after other
  given_so other was =
      let least = was.from_start in
      let less = was.before_next in
      record { from_start = omega (arith, least); before_next = omega (arith, less, given) }

  reserved_given : (other : ℕ) → set.contains after.reserved other ≡ true → WasGiven after other
  reserved_given other is = elim (eqb_tells other spi) [
    | inl (_, same) ↦ record { from_start = omega (arith, same, own); before_next = omega (arith, same, own) }
    | inr (_, apart) ↦ given_so other (sound.reserved_given other (sym (beside other apart) ∙ is))
  ]

  pub reserved_is_sound : IsSoundTable after
  reserved_is_sound = record {
    start = sound.start;
    given = omega arith;
    first = sound.first;
    next = let most = reserved_few in omega (arith, most, next);
    few = let most = reserved_few in omega (arith, most, few);
    reserved_given = reserved_given;
    serial = sound.serial;
    serial_given = sound.serial_given;
    window = sound.window;
    spi_given = λ serial other is. given_so other (sound.spi_given serial other is);
    spi_taken = λ serial other is reserved. elim (eqb_tells other spi) [
      | inl (_, same) ↦ (let less = (sound.spi_given serial other is).before_next in absurd (omega (arith, less, same, own, given)))
      | inr (_, apart) ↦ sound.spi_taken serial other is (sym (beside other apart) ∙ reserved)
    ];
    apart = sound.apart;
  }

pub asked_table_is_sound : IsSoundTable asked_table
asked_table_is_sound = reserved_is_sound (asking_table 1) (asking_table_is_sound 1) refl refl asking_few 257 refl

-- ---- the pair comes

abbrev pub made_by_a : Pair
made_by_a = new_pair Initiator (further_setting 2 1 worked_record (nonce_of 13) (nonce_of 14)) further_terms

abbrev pub made_by_b : Pair
made_by_b = new_pair Responder (further_setting 2 1 worked_record (nonce_of 13) (nonce_of 14)) further_terms

pub installs : Installs asked_table 257 made_by_a 2 asking_two
installs = record {
  reserved = contains-insert_nat (asking_table 1).reserved 257 257;
  its_own = refl;
  in_order = refl;
  content = refl;
  room = omega arith;
  no_more = omega arith;
}

pub adds : AddsNext later_table made_by_b 2 answering_two
adds = record {
  spi = 513;
  between = with_reserved later_table 513;
  reserved = record { in_order = refl; content = refl; room = omega arith };
  installed = record {
    reserved = contains-insert_nat later_table.reserved 513 513;
    its_own = refl;
    in_order = refl;
    content = refl;
    room = omega arith;
    no_more = omega arith;
  };
}

-- ---- the tables of two pairs are sound

abbrev none : set.FinSet nat_cmp
none = set.empty

-- where both pairs came, no SPI is reserved
unreserved_twice : (first second : ℕ) → set.remove (set.insert (set.remove (set.insert none first) first) second) second ≡ none
unreserved_twice first second = ap (λ (r : set.FinSet nat_cmp). set.remove (set.insert r second) second) (unreserved first) ∙ unreserved second

two_sound : (start : ℕ) (table : Database) (first second : Pair) → table ≡ table_of_two start first second → IsFitAt 1 start first → IsFitAt 2 (start + 1) second
    → 256 ≤ start → start + 65536 ≤ 2 ^ 32 → IsSoundTable table
two_sound start table first second is one two least most =
    subst (λ (d : Database). IsSoundTable d) (sym is) (two_are_sound start first second one two least most)

pub asking_two_is_sound : IsSoundTable asking_two
asking_two_is_sound =
    two_sound 256 asking_two (pair_of Initiator 1 (unused_window 2)) (further_pair Initiator 0 (unused_window 2))
    (λ i. record { start = 256; given = 2; reserved = unreserved_twice 256 257 i; next = 3; pairs = asking_two.pairs; room = 0 })
    (record { serial_is = refl; inbound = refl; window = unused_sound }) (record { serial_is = refl; inbound = refl; window = unused_sound }) (omega arith) (omega arith)

pub answering_two_is_sound : IsSoundTable answering_two
answering_two_is_sound =
    two_sound 512 answering_two (pair_of Responder 0 one_taken) (further_pair Responder 0 (unused_window 2))
    (λ i. record { start = 512; given = 2; reserved = unreserved_twice 512 513 i; next = 3; pairs = answering_two.pairs; room = 0 })
    (record { serial_is = refl; inbound = refl; window = one_sound }) (record { serial_is = refl; inbound = refl; window = unused_sound }) (omega arith) (omega arith)
