-- What IKE_AUTH leaves of the table at either end, whatever that holds.
use Rattle.std.proofs.Common.{◌≡◌, ◌+◌, ◌||◌, ◌&&◌, ℕ, Bool, true, false, not, Option, Some, None, refl, ap, arith, subst, sym, ◌∙◌}
use Rattle.std.proofs.lemmas.Bool.{eqb-true}
use Rattle.std.specs.Cmp.{nat_cmp_total, unsigned_tied}
use Rattle.std.specs.FinMap as map
use Rattle.std.specs.FinSet as set
use Rattle.std.specs.Ordering.{eq_by_cmp, nat_cmp}
use Rattle.sadb.specs.Database.{Database, Installs, IsAsBefore, IsSoundTable}
use Rattle.sadb.specs.declared.pair.Pair.{Pair}
use Rattle.children.specs.Responding.{AddsNext}
use Rattle.initial.specs.Concluding.{AddsChild}
use Rattle.laws_opening.specs.Beside.{next_spi}
use Rattle.laws_coming_up.specs.ComingUpBeside.{adding, as_before, installing, releasing}

-- ---- what is put into a set, and was not in it, is taken out

is_false : (b : Bool) → (b ≡ true → ⊥) → b ≡ false
is_false true never = absurd (never refl)
is_false false never = refl

put_back : (same b : Bool) → (same ≡ true → b ≡ false) → (not same && (same || b)) ≡ b
put_back true b absent = sym (absent refl)
put_back false b absent = refl

pub taken_out : (s : set.FinSet nat_cmp) (k : ℕ) → set.contains s k ≡ false → set.remove (set.insert s k) k ≡ s
taken_out s k absent = set.same_set nat_cmp_total set.nat_cmp-IsAntisymmetric (set.remove (set.insert s k) k) s (λ q.
    set.contains-remove nat_cmp_total (set.insert s k) k q
    ∙ ap (λ (b : Bool). not (eq_by_cmp nat_cmp q k) && b) (set.contains-insert nat_cmp_total s k q)
    ∙ put_back (eq_by_cmp nat_cmp q k) (set.contains s q)
    (λ same. ap (λ (x : ℕ). set.contains s x) (eqb-true q k (sym (unsigned_tied q k) ∙ same)) ∙ absent))

-- the next SPI is not reserved yet
not_reserved : (table : Database) → IsSoundTable table → set.contains table.reserved (next_spi table) ≡ false
not_reserved table sound =
    is_false (set.contains table.reserved (next_spi table))
    (λ is. let given = sound.reserved_given (next_spi table) is in let before = given.before_next in absurd (omega (arith, before)))

-- ---- the responder

-- the pair came under the next SPI and the next serial
pub record HasAdded (table : Database) (pair : Pair) (child : Option ℕ) (new : Database) : Type 0 where
  pub serial : child ≡ Some table.next
  pub content : new ≡ adding table pair new.room

added_next : (table : Database) → IsSoundTable table → (room : ℕ) (pair : Pair) (serial : ℕ) (new : Database) → AddsNext (as_before table room) pair serial new
    → HasAdded table pair (Some serial) new
added_next table sound room pair serial new a =
    let reserved = a.reserved.content in
    let spi : a.spi ≡ next_spi table = a.reserved.in_order in
    let back : set.remove (set.insert table.reserved a.spi) a.spi ≡ table.reserved =
    taken_out table.reserved a.spi (ap (λ (x : ℕ). set.contains table.reserved x) spi ∙ not_reserved table sound) in
    let first : serial ≡ table.next = a.installed.in_order ∙ ap (λ (t : Database). t.next) reserved in
    record {
      serial = ap (λ (n : ℕ). Some n) first;
      content =
          a.installed.content
          ∙ ap (λ (t : Database). record t {
            reserved = set.remove t.reserved a.spi;
            next = t.next + 1;
            pairs = map.insert t.pairs serial (record pair { serial = serial });
            room = new.room;
          }) reserved
          ∙ (λ i. record (adding table pair new.room) { reserved = back i; pairs = map.insert table.pairs (first i) (record pair { serial = first i }) });
    }

-- or none came
pub record HasStayed (table : Database) (child : Option ℕ) (new : Database) : Type 0 where
  pub none : child ≡ None
  pub content : new ≡ as_before table new.room

module _ (table between new : Database) (before : IsAsBefore table between) where
  pub responder_adds : IsSoundTable table → (pair : Pair) (child : Option ℕ) → AddsChild between None (Some pair) child new → HasAdded table pair child new
  responder_adds sound pair None added = absurd added
  responder_adds sound pair (Some serial) added =
      added_next table sound between.room pair serial new (subst (λ (t : Database). AddsNext t pair serial new) before.content added)

  pub responder_adds_none : (child : Option ℕ) → AddsChild between None None child new → HasStayed table child new
  responder_adds_none None added = record {
    none = refl;
    content = added ∙ before.content ∙ ap (λ (t : Database). as_before table t.room) (sym added);
  }
  responder_adds_none (Some serial) added = absurd added

-- ---- the initiator

-- the pair came for the SPI
pub record HasInstalled (table : Database) (spi : ℕ) (pair : Pair) (child : Option ℕ) (new : Database) : Type 0 where
  pub serial : child ≡ Some table.next
  pub content : new ≡ installing table spi pair new.room

-- or that was given up
pub record HasReleased (table : Database) (spi : ℕ) (child : Option ℕ) (new : Database) : Type 0 where
  pub none : child ≡ None
  pub content : new ≡ releasing table spi new.room

module _ (table new : Database) (spi : ℕ) where
  installed : (pair : Pair) (serial : ℕ) → Installs table spi pair serial new → HasInstalled table spi pair (Some serial) new
  installed pair serial t =
      let first : serial ≡ table.next = t.in_order in
      record {
        serial = ap (λ (n : ℕ). Some n) first;
        content = t.content
            ∙ (λ i. record (installing table spi pair new.room) { pairs = map.insert table.pairs (first i) (record pair { serial = first i }) });
      }

  pub initiator_adds : (pair : Pair) (child : Option ℕ) → AddsChild table (Some spi) (Some pair) child new → HasInstalled table spi pair child new
  initiator_adds pair None added = absurd added
  initiator_adds pair (Some serial) added = installed pair serial added

  pub initiator_adds_none : (child : Option ℕ) → AddsChild table (Some spi) None child new → HasReleased table spi child new
  initiator_adds_none None added = record { none = refl; content = added.content }
  initiator_adds_none (Some serial) added = absurd added
