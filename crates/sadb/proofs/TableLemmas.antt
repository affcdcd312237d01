-- Each change of a table: what holds of it still, and what its content is then.
use Rattle.std.proofs.Common.{◌≡◌, ◌≢◌, ◌+◌, ◌-◌, ◌<◌, ◌≤◌, ℕ, List, true, false, cond, Option, Some, None, IsSome, IfSome, IfNone, IfOk, IfErr, is_some, option_copied, Bor, Result, Ok, Err, min, arith, sym, ap, ◌∙◌, refl, inl, inr, subst}
use Rattle.std.proofs.lemmas.Bool.Decides.{eqb_tells, leb_tells}
use Rattle.std.proofs.lemmas.Option.{none-some}
use Rattle.std.specs.Option.{unwrap_or}
use Rattle.std.specs.Ordering.{nat_cmp}
use Rattle.std.specs.Cmp.{nat_cmp_total}
use Rattle.std.specs.FinMap as map
use Rattle.std.specs.FinSet as set
use Rattle.esp.specs.Opening.{Refuses}
use Rattle.esp.specs.Views.{Receiving}
use Rattle.esp.specs.declared.inbound.Opened.{Opened}
use Rattle.esp.specs.declared.fault.EspFault.{EspFault}
use Rattle.esp.specs.declared.fault.EspFault.TheVariants.{Exhausted, PayloadSize, BadLength, Old, Replayed, BadNumber, BadIcv, BadPadding, Memory}
use Rattle.replay.specs.Window as window
use Rattle.sadb.specs.declared.pair.Pair.{Pair}
use Rattle.sadb.specs.declared.pair.State.TheVariants.{Deleting}
use Rattle.sadb.specs.Database.{Database, IsFull, IsSpent, IsAsBefore, IsReserved, Reserves, Releases, Installs, Removes, HasInbound, IsInbound, IsSoundTable, IsStart, PairMap, SealRefusalAt, ChangesAt, Marks, OpensAt, RefusesAt, SealsAt}
use Rattle.sadb.specs.Storage.{GivenSpis, PairsBySerial, IsTable, spi_of, MarksPair, OpensPair, RefusesPair, SealsPair}
use Rattle.sadb.proofs.NumberedLemmas.{member_here, inserted_here, inserted_apart, inserted_same, removed_here, removed_apart}
use Rattle.sadb.proofs.GivenLemmas.{some_member, removed_len, inserted_len}

abbrev pub table_of : GivenSpis → PairsBySerial → Database
table_of x s = record {
  start = x.start;
  given = x.given;
  reserved = x.reserved;
  next = s.next;
  pairs = s.pairs;
  room = min x.room (s.room - set.len x.reserved);
}

not_below : (a b : ℕ) → ¬ (a ≤ b) → b < a
not_below a b is =
    elim (leb_tells a b) [
      | inl (_, upward) ↦ absurd (is upward)
      | inr (_, downward) ↦ omega arith
    ]

same_some : (a b : ℕ) → Some a ≡ Some b → a ≡ b
same_some a b is = ap (λ o. unwrap_or o a) is

-- an empty table
pub new_table : (x : GivenSpis) (s : PairsBySerial) (start : ℕ)
    → x ≡ record { start = start; given = 0; reserved = set.empty; serials = map.empty; room = 0 }
    → s ≡ record { next = 1; pairs = map.empty; room = 0 } → IsTable x s
new_table x s start x_is s_is =
    let none : set.len x.reserved ≡ 0 = ap (λ y. set.len y.reserved) x_is ∙ set.len-empty nat_cmp in
    let no_pair : map.len s.pairs ≡ 0 = ap (λ y. map.len y.pairs) s_is ∙ map.len-empty nat_cmp Pair in
    let given : x.given ≡ 0 = ap (λ y. y.given) x_is in
    let next : s.next ≡ 1 = ap (λ y. y.next) s_is in
    record {
      given = omega arith;
      room = omega arith;
      few = omega arith;
      serials = omega arith;
      there = λ spi serial is. absurd (none-some serial (sym (ap (λ y. map.get y.serials spi) x_is ∙ map.get-empty nat_cmp spi) ∙ is));
      back = λ serial spi is. absurd (none-some spi (sym (ap (λ y. spi_of (map.get y.pairs serial)) s_is ∙ ap spi_of (map.get-empty nat_cmp serial)) ∙ is));
    }

-- one more SPI is reserved, in a table that was made ready for it
pub record ReservedIn (now : Database) (x : GivenSpis) (s : PairsBySerial) (spi : ℕ) : Type 0 where
  pub sound : IsTable x s
  pub reserves : Reserves now spi (table_of x s)

pub reserved_in : (now ready : Database) (x new : GivenSpis) (s : PairsBySerial) (spi : ℕ)
    → table_of x s ≡ ready → IsAsBefore now ready → ¬ IsFull now → ¬ IsSpent now → 1 ≤ ready.room → IsTable x s
    → spi ≡ x.start + x.given → set.contains x.reserved spi ≡ false
    → new ≡ record x { given = x.given + 1; reserved = set.insert x.reserved spi; room = new.room } → x.room ≤ new.room + 1
    → ReservedIn now new s spi
reserved_in now ready x new s spi shown before not_full not_spent some sound spi_is fresh new_is new_room =
    let start : x.start ≡ now.start = ap (λ d. d.start) shown ∙ ap (λ d. d.start) before.content in
    let given : x.given ≡ now.given = ap (λ d. d.given) shown ∙ ap (λ d. d.given) before.content in
    let reserved : x.reserved ≡ now.reserved = ap (λ d. d.reserved) shown ∙ ap (λ d. d.reserved) before.content in
    let next : s.next ≡ now.next = ap (λ d. d.next) shown ∙ ap (λ d. d.next) before.content in
    let pairs : s.pairs ≡ now.pairs = ap (λ d. d.pairs) shown ∙ ap (λ d. d.pairs) before.content in
    let room : min x.room (s.room - set.len x.reserved) ≡ ready.room = ap (λ d. d.room) shown in
    let more : now.room ≤ ready.room = before.room in
    let few : map.len now.pairs + set.len now.reserved < 1024 = not_below _ _ not_full in
    let unspent : now.given < 65536 = not_below _ _ not_spent in
    let same_len : set.len x.reserved ≡ set.len now.reserved = ap set.len reserved in
    let same_pairs : map.len s.pairs ≡ map.len now.pairs = ap map.len pairs in
    let new_start : new.start ≡ x.start = ap (λ y. y.start) new_is in
    let new_given : new.given ≡ x.given + 1 = ap (λ y. y.given) new_is in
    let new_reserved : new.reserved ≡ set.insert x.reserved spi = ap (λ y. y.reserved) new_is in
    let new_serials : new.serials ≡ x.serials = ap (λ y. y.serials) new_is in
    let longer : set.len new.reserved ≡ set.len x.reserved + 1 = ap set.len new_reserved ∙ inserted_len x.reserved spi fresh in
    let serials = sound.serials in
    let reserved_now : new.reserved ≡ set.insert now.reserved spi = new_reserved ∙ ap (λ t. set.insert t spi) reserved in
    let given_now : new.given ≡ now.given + 1 = new_given ∙ ap (λ n. n + 1) given in
    let start_now : new.start ≡ now.start = new_start ∙ start in
    record {
      sound = record {
        given = omega arith;
        room = omega arith;
        few = omega arith;
        serials = omega arith;
        there = λ q serial is. sound.there q serial (ap (λ m. map.get m q) (sym new_serials) ∙ is);
        back = λ serial q is. ap (λ m. map.get m q) new_serials ∙ sound.back serial q is;
      };
      reserves = record {
        in_order = omega arith;
        content = λ i. record {
          start = start_now i;
          given = given_now i;
          reserved = reserved_now i;
          next = next i;
          pairs = pairs i;
          room = min new.room (s.room - set.len new.reserved);
        };
        room = omega arith;
      };
    }

pub is_reserved : (old new : Database) (spi : ℕ) → Reserves old spi new → IsReserved new spi
is_reserved old new spi is = ap (λ d. set.contains d.reserved spi) is.content ∙ member_here old.reserved spi spi refl

-- a reserved SPI is given up
pub record ReleasedIn (now : Database) (x : GivenSpis) (s : PairsBySerial) (spi : ℕ) : Type 0 where
  pub sound : IsTable x s
  pub releases : Releases now spi (table_of x s)

pub released_in : (now : Database) (x new : GivenSpis) (s : PairsBySerial) (spi : ℕ)
    → table_of x s ≡ now → IsTable x s → IsReserved now spi → new ≡ record x { reserved = set.remove x.reserved spi }
    → ReleasedIn now new s spi
released_in now x new s spi shown sound is_reserved new_is =
    let is : set.contains x.reserved spi ≡ true = ap (λ d. set.contains d.reserved spi) shown ∙ is_reserved in
    let some : 1 ≤ set.len x.reserved = some_member x.reserved spi is in
    let new_given : new.given ≡ x.given = ap (λ y. y.given) new_is in
    let new_room : new.room ≡ x.room = ap (λ y. y.room) new_is in
    let new_reserved : new.reserved ≡ set.remove x.reserved spi = ap (λ y. y.reserved) new_is in
    let new_serials : new.serials ≡ x.serials = ap (λ y. y.serials) new_is in
    let shorter : set.len new.reserved ≡ set.len x.reserved - 1 = ap set.len new_reserved ∙ removed_len x.reserved spi is in
    let room : min x.room (s.room - set.len x.reserved) ≡ now.room = ap (λ d. d.room) shown in
    let given = sound.given in
    let old_room = sound.room in
    let few = sound.few in
    let serials = sound.serials in
    record {
      sound = record {
        given = omega arith;
        room = omega arith;
        few = omega arith;
        serials = omega arith;
        there = λ q serial held. sound.there q serial (ap (λ m. map.get m q) (sym new_serials) ∙ held);
        back = λ serial q held. ap (λ m. map.get m q) new_serials ∙ sound.back serial q held;
      };
      releases = record {
        reserved = is_reserved;
        content = λ i. record {
          start = (ap (λ y. y.start) new_is ∙ ap (λ d. d.start) shown) i;
          given = (new_given ∙ ap (λ d. d.given) shown) i;
          reserved = (new_reserved ∙ ap (λ d. set.remove d.reserved spi) shown) i;
          next = (shown i).next;
          pairs = (shown i).pairs;
          room = min new.room (s.room - set.len new.reserved);
        };
        room = omega arith;
        no_more = omega arith;
      };
    }

-- at one serial a map of SA pairs is what was put there, elsewhere it is as it was
spi_here : (pairs : PairMap) (serial n : ℕ) (pair : Pair) → n ≡ serial → spi_of (map.get (map.insert pairs serial pair) n) ≡ Some pair.inbound.association.spi
spi_here pairs serial n pair same = ap spi_of (inserted_here pairs serial n pair same)

spi_apart : (pairs : PairMap) (serial n : ℕ) (pair : Pair) → n ≢ serial → spi_of (map.get (map.insert pairs serial pair) n) ≡ spi_of (map.get pairs n)
spi_apart pairs serial n pair apart = ap spi_of (inserted_apart pairs serial n pair apart)

inserted_pairs : (pairs : PairMap) (serial : ℕ) (pair : Pair) → map.get pairs serial ≡ None → map.len (map.insert pairs serial pair) ≡ map.len pairs + 1
inserted_pairs pairs serial pair none =
    map.len-insert nat_cmp_total pairs serial pair ∙ ap (λ o. cond (is_some o) (map.len pairs) (map.len pairs + 1)) none

changed_pairs : (pairs : PairMap) (serial : ℕ) (old pair : Pair) → map.get pairs serial ≡ Some old → map.len (map.insert pairs serial pair) ≡ map.len pairs
changed_pairs pairs serial old pair there =
    map.len-insert nat_cmp_total pairs serial pair ∙ ap (λ o. cond (is_some o) (map.len pairs) (map.len pairs + 1)) there

removed_pairs : (pairs : PairMap) (serial : ℕ) (old : Pair) → map.get pairs serial ≡ Some old → map.len (map.remove pairs serial) ≡ map.len pairs - 1
removed_pairs pairs serial old there =
    map.len-remove nat_cmp_total pairs serial ∙ ap (λ o. cond (is_some o) (map.len pairs - 1) (map.len pairs)) there

-- an SA pair comes to the SPI that was reserved for it
pub record InstalledIn (now : Database) (x : GivenSpis) (s : PairsBySerial) (spi : ℕ) (pair : Pair) (serial : ℕ) : Type 0 where
  pub sound : IsTable x s
  pub installs : Installs now spi pair serial (table_of x s)

abbrev numbered_as : ℕ → Pair → Pair
numbered_as serial pair = record pair { serial = serial }

-- there is room for the SA pair of a reserved SPI
pub has_room : (now : Database) (x : GivenSpis) (s : PairsBySerial) (spi : ℕ) → table_of x s ≡ now → IsTable x s → IsReserved now spi → 1 ≤ s.room
has_room now x s spi shown sound is_reserved =
    let is : set.contains x.reserved spi ≡ true = ap (λ d. set.contains d.reserved spi) shown ∙ is_reserved in
    let some : 1 ≤ set.len x.reserved = some_member x.reserved spi is in
    let room = sound.room in
    omega arith

module _ (x : GivenSpis) (s : PairsBySerial) (sound : IsTable x s) (spi serial : ℕ) (pair : Pair) (its_own : pair.inbound.association.spi ≡ spi) (no_pair : map.get s.pairs serial ≡ None) (no_serial : map.get x.serials spi ≡ None) where
  installed_there : (q n : ℕ) → map.get (map.insert x.serials spi serial) q ≡ Some n → spi_of (map.get (map.insert s.pairs serial pair) n) ≡ Some q
  installed_there q n is =
      elim (eqb_tells q spi) [
        | inl (_, same) ↦
            (let n_is : n ≡ serial = same_some n serial (sym is ∙ inserted_here x.serials spi q serial same) in
            spi_here s.pairs serial n pair n_is ∙ ap Some (its_own ∙ sym same))
        | inr (_, apart) ↦
            (let held : map.get x.serials q ≡ Some n = sym (inserted_apart x.serials spi q serial apart) ∙ is in
            let old : spi_of (map.get s.pairs n) ≡ Some q = sound.there q n held in
            let not_new : n ≢ serial = λ same. none-some q (sym (ap (λ k. spi_of (map.get s.pairs k)) same ∙ ap spi_of no_pair) ∙ old) in
            spi_apart s.pairs serial n pair not_new ∙ old)
      ]

  installed_back : (n q : ℕ) → spi_of (map.get (map.insert s.pairs serial pair) n) ≡ Some q → map.get (map.insert x.serials spi serial) q ≡ Some n
  installed_back n q is =
      elim (eqb_tells n serial) [
        | inl (_, same) ↦
            (let q_is : q ≡ spi = same_some q spi (sym is ∙ spi_here s.pairs serial n pair same ∙ ap Some its_own) in
            inserted_here x.serials spi q serial q_is ∙ ap Some (sym same))
        | inr (_, apart) ↦
            (let held : map.get x.serials q ≡ Some n = sound.back n q (sym (spi_apart s.pairs serial n pair apart) ∙ is) in
            let not_new : q ≢ spi = λ same. none-some n (sym (ap (map.get x.serials) same ∙ no_serial) ∙ held) in
            inserted_apart x.serials spi q serial not_new ∙ held)
      ]

pub installed_in : (now : Database) (x new : GivenSpis) (s more : PairsBySerial) (spi : ℕ) (pair : Pair) (serial : ℕ)
    → table_of x s ≡ now → IsTable x s → IsReserved now spi → pair.inbound.association.spi ≡ spi
    → serial ≡ s.next → map.get s.pairs serial ≡ None
    → more ≡ record { next = s.next + 1; pairs = map.insert s.pairs serial (numbered_as serial pair); room = more.room } → s.room ≤ more.room + 1 → more.room ≤ s.room
    → new ≡ record x { reserved = set.remove x.reserved spi; serials = map.insert x.serials spi serial } → map.get x.serials spi ≡ None
    → InstalledIn now new more spi pair serial
installed_in now x new s more spi pair serial shown sound is_reserved its_own next no_pair more_is more_room no_more new_is no_serial =
    let is : set.contains x.reserved spi ≡ true = ap (λ d. set.contains d.reserved spi) shown ∙ is_reserved in
    let some : 1 ≤ set.len x.reserved = some_member x.reserved spi is in
    let new_given : new.given ≡ x.given = ap (λ y. y.given) new_is in
    let new_room : new.room ≡ x.room = ap (λ y. y.room) new_is in
    let new_reserved : new.reserved ≡ set.remove x.reserved spi = ap (λ y. y.reserved) new_is in
    let new_serials : new.serials ≡ map.insert x.serials spi serial = ap (λ y. y.serials) new_is in
    let shorter : set.len new.reserved ≡ set.len x.reserved - 1 = ap set.len new_reserved ∙ removed_len x.reserved spi is in
    let new_next : more.next ≡ s.next + 1 = ap (λ y. y.next) more_is in
    let new_pairs : more.pairs ≡ map.insert s.pairs serial (numbered_as serial pair) = ap (λ y. y.pairs) more_is in
    let longer : map.len more.pairs ≡ map.len s.pairs + 1 = ap map.len new_pairs ∙ inserted_pairs s.pairs serial (numbered_as serial pair) no_pair in
    let room : min x.room (s.room - set.len x.reserved) ≡ now.room = ap (λ d. d.room) shown in
    let given = sound.given in
    let old_room = sound.room in
    let few = sound.few in
    let serials = sound.serials in
    record {
      sound = record {
        given = omega arith;
        room = omega arith;
        few = omega arith;
        serials = omega arith;
        there = λ q n held.
            ap (λ m. spi_of (map.get m n)) new_pairs
            ∙ installed_there x s sound spi serial (numbered_as serial pair) its_own no_pair no_serial q n (ap (λ m. map.get m q) (sym new_serials) ∙ held);
        back = λ n q held.
            ap (λ m. map.get m q) new_serials
            ∙ installed_back x s sound spi serial (numbered_as serial pair) its_own no_pair no_serial n q (ap (λ m. spi_of (map.get m n)) (sym new_pairs) ∙ held);
      };
      installs = record {
        reserved = is_reserved;
        its_own = its_own;
        in_order = next ∙ ap (λ d. d.next) shown;
        content = λ i. record {
          start = (ap (λ y. y.start) new_is ∙ ap (λ d. d.start) shown) i;
          given = (new_given ∙ ap (λ d. d.given) shown) i;
          reserved = (new_reserved ∙ ap (λ d. set.remove d.reserved spi) shown) i;
          next = (new_next ∙ ap (λ d. d.next + 1) shown) i;
          pairs = (new_pairs ∙ ap (λ d. map.insert d.pairs serial (numbered_as serial pair)) shown) i;
          room = min new.room (more.room - set.len new.reserved);
        };
        room = omega arith;
        no_more = omega arith;
      };
    }

-- an SA pair is taken out
pub record RemovedIn (now : Database) (x : GivenSpis) (s : PairsBySerial) (serial : ℕ) : Type 0 where
  pub sound : IsTable x s
  pub removes : Removes now serial (table_of x s)

-- the SPI of an SA pair that is there
pub spi_held : (x : GivenSpis) (s : PairsBySerial) (serial : ℕ) (pair : Pair) → IsTable x s → map.get s.pairs serial ≡ Some pair → map.get x.serials pair.inbound.association.spi ≡ Some serial
spi_held x s serial pair sound there = sound.back serial pair.inbound.association.spi (ap spi_of there)

module _ (x : GivenSpis) (s : PairsBySerial) (sound : IsTable x s) (serial : ℕ) (pair : Pair) (there : map.get s.pairs serial ≡ Some pair) where
  removed_there : (q n : ℕ) → map.get (map.remove x.serials pair.inbound.association.spi) q ≡ Some n → spi_of (map.get (map.remove s.pairs serial) n) ≡ Some q
  removed_there q n is =
      elim (eqb_tells q pair.inbound.association.spi) [
        | inl (_, same) ↦ absurd (none-some n (sym (removed_here x.serials pair.inbound.association.spi q same) ∙ is))
        | inr (_, apart) ↦
            (let old : spi_of (map.get s.pairs n) ≡ Some q = sound.there q n (sym (removed_apart x.serials pair.inbound.association.spi q apart) ∙ is) in
            let other : n ≢ serial = λ same. apart (same_some q pair.inbound.association.spi (sym old ∙ ap (λ k. spi_of (map.get s.pairs k)) same ∙ ap spi_of there)) in
            ap spi_of (removed_apart s.pairs serial n other) ∙ old)
      ]

  removed_back : (n q : ℕ) → spi_of (map.get (map.remove s.pairs serial) n) ≡ Some q → map.get (map.remove x.serials pair.inbound.association.spi) q ≡ Some n
  removed_back n q is =
      elim (eqb_tells n serial) [
        | inl (_, same) ↦ absurd (none-some q (sym (ap spi_of (removed_here s.pairs serial n same)) ∙ is))
        | inr (_, apart) ↦
            (let old : map.get x.serials q ≡ Some n = sound.back n q (sym (ap spi_of (removed_apart s.pairs serial n apart)) ∙ is) in
            let other : q ≢ pair.inbound.association.spi = λ same. apart (same_some n serial (sym old ∙ ap (map.get x.serials) same ∙ spi_held x s serial pair sound there)) in
            removed_apart x.serials pair.inbound.association.spi q other ∙ old)
      ]

pub removed_in : (now : Database) (x new : GivenSpis) (s less : PairsBySerial) (serial : ℕ) (pair : Pair)
    → table_of x s ≡ now → IsTable x s → map.get s.pairs serial ≡ Some pair
    → less ≡ record s { pairs = map.remove s.pairs serial; room = less.room } → s.room ≤ less.room → less.room ≤ s.room + 1
    → new ≡ record x { serials = map.remove x.serials pair.inbound.association.spi }
    → RemovedIn now new less serial
removed_in now x new s less serial pair shown sound there less_is less_room no_more new_is =
    let new_given : new.given ≡ x.given = ap (λ y. y.given) new_is in
    let new_room : new.room ≡ x.room = ap (λ y. y.room) new_is in
    let new_reserved : new.reserved ≡ x.reserved = ap (λ y. y.reserved) new_is in
    let new_serials : new.serials ≡ map.remove x.serials pair.inbound.association.spi = ap (λ y. y.serials) new_is in
    let same_len : set.len new.reserved ≡ set.len x.reserved = ap set.len new_reserved in
    let new_next : less.next ≡ s.next = ap (λ y. y.next) less_is in
    let new_pairs : less.pairs ≡ map.remove s.pairs serial = ap (λ y. y.pairs) less_is in
    let shorter : map.len less.pairs ≡ map.len s.pairs - 1 = ap map.len new_pairs ∙ removed_pairs s.pairs serial pair there in
    let room : min x.room (s.room - set.len x.reserved) ≡ now.room = ap (λ d. d.room) shown in
    let given = sound.given in
    let old_room = sound.room in
    let few = sound.few in
    let serials = sound.serials in
    record {
      sound = record {
        given = omega arith;
        room = omega arith;
        few = omega arith;
        serials = omega arith;
        there = λ q n held.
            ap (λ m. spi_of (map.get m n)) new_pairs ∙ removed_there x s sound serial pair there q n (ap (λ m. map.get m q) (sym new_serials) ∙ held);
        back = λ n q held.
            ap (λ m. map.get m q) new_serials ∙ removed_back x s sound serial pair there n q (ap (λ m. spi_of (map.get m n)) (sym new_pairs) ∙ held);
      };
      removes = record {
        pair = pair;
        there = ap (λ d. map.get d.pairs serial) (sym shown) ∙ there;
        content = λ i. record {
          start = (ap (λ y. y.start) new_is ∙ ap (λ d. d.start) shown) i;
          given = (new_given ∙ ap (λ d. d.given) shown) i;
          reserved = (new_reserved ∙ ap (λ d. d.reserved) shown) i;
          next = (new_next ∙ ap (λ d. d.next) shown) i;
          pairs = (new_pairs ∙ ap (λ d. map.remove d.pairs serial) shown) i;
          room = min new.room (less.room - set.len new.reserved);
        };
        room = omega arith;
        no_more = omega arith;
      };
    }

-- an SA pair that changed and kept its inbound SPI
pub changed_in : (x : GivenSpis) (s new : PairsBySerial) (serial : ℕ) (old pair : Pair)
    → IsTable x s → map.get s.pairs serial ≡ Some old → pair.inbound.association.spi ≡ old.inbound.association.spi
    → new ≡ record s { pairs = new.pairs } → new.pairs ≡ map.insert s.pairs serial pair
    → IsTable x new
changed_in x s new serial old pair sound there same_spi new_is new_pairs =
    let new_next : new.next ≡ s.next = ap (λ y. y.next) new_is in
    let new_room : new.room ≡ s.room = ap (λ y. y.room) new_is in
    let same_len : map.len new.pairs ≡ map.len s.pairs = ap map.len new_pairs ∙ changed_pairs s.pairs serial old pair there in
    let same : (n : ℕ) → spi_of (map.get new.pairs n) ≡ spi_of (map.get s.pairs n) =
    λ n. ap (λ m. spi_of (map.get m n)) new_pairs ∙ elim (eqb_tells n serial) [
      | inl (_, here) ↦ spi_here s.pairs serial n pair here ∙ ap Some same_spi ∙ sym (ap (λ k. spi_of (map.get s.pairs k)) here ∙ ap spi_of there)
      | inr (_, apart) ↦ spi_apart s.pairs serial n pair apart
    ]
    in
    let given = sound.given in
    let room = sound.room in
    let few = sound.few in
    let serials = sound.serials in
    record {
      given = given;
      room = omega arith;
      few = omega arith;
      serials = omega arith;
      there = λ q n held. same n ∙ sound.there q n held;
      back = λ n q held. sound.back n q (sym (same n) ∙ held);
    }

-- the SPI of an SA pair leads to its serial
pub held_by : (x : GivenSpis) (s : PairsBySerial) (spi serial : ℕ) → IsTable x s → HasInbound s.pairs spi serial → map.get x.serials spi ≡ Some serial
held_by x s spi serial sound held = sound.back serial spi (ap spi_of held.there ∙ ap Some held.its_own)

pub none_inbound : (now : Database) (x : GivenSpis) (s : PairsBySerial) (spi : ℕ) → table_of x s ≡ now → IsTable x s → map.get x.serials spi ≡ None → (serial : ℕ) → ¬ HasInbound now.pairs spi serial
none_inbound now x s spi shown sound none serial =
    subst (λ d. ¬ HasInbound d.pairs spi serial) shown (λ held. none-some serial (sym none ∙ held_by x s spi serial sound held))

some_spi : (o : Option Pair) (spi : ℕ) → spi_of o ≡ Some spi → o ≡ None → ⊥
some_spi None spi is none = none-some spi is
some_spi (Some pair) spi is none = cc

pub some_inbound : (x : GivenSpis) (s : PairsBySerial) (spi serial : ℕ) → IsTable x s → map.get x.serials spi ≡ Some serial → map.get s.pairs serial ≡ None → ⊥
some_inbound x s spi serial sound held none = some_spi (map.get s.pairs serial) spi (sound.there spi serial held) none

pub is_inbound : (now : Database) (x : GivenSpis) (s : PairsBySerial) (spi serial : ℕ) (pair : Pair) → table_of x s ≡ now → IsTable x s → map.get x.serials spi ≡ Some serial → map.get s.pairs serial ≡ Some pair → pair.serial ≡ serial → IsInbound now.pairs spi pair
is_inbound now x s spi serial pair shown sound held there own =
    subst (λ d. IsInbound d.pairs spi pair) shown
    (record {
      there = ap (map.get s.pairs) own ∙ there;
      its_own = same_some pair.inbound.association.spi spi (sym (ap spi_of there) ∙ sound.there spi serial held);
      only = λ other is. same_some other serial (sym (held_by x s spi other sound is) ∙ held) ∙ sym own;
    })

-- a refused packet leaves the SA as it was, but for bad padding
pub refused_unchanged : (old new : Receiving) (packet : List ℕ) (fault : EspFault) → fault ≢ BadPadding → Refuses ⊥ old packet fault new → new ≡ old
refused_unchanged old new packet Exhausted not is = is.1
refused_unchanged old new packet PayloadSize not is = is.1
refused_unchanged old new packet BadLength not is = is.1
refused_unchanged old new packet Old not is = is.1
refused_unchanged old new packet Replayed not is = is.1
refused_unchanged old new packet BadNumber not is = is.1
refused_unchanged old new packet BadIcv not is = is.1
refused_unchanged old new packet BadPadding not is = absurd (not refl)
refused_unchanged old new packet Memory not is = absurd is.0

pub pairs_unchanged : (old new : PairMap) (serial : ℕ) (packet : List ℕ) (fault : EspFault) → fault ≢ BadPadding → RefusesPair old serial packet fault new → new ≡ old
pairs_unchanged old new serial packet fault not is =
    let same : is.inbound ≡ is.pair.inbound = refused_unchanged is.pair.inbound is.inbound packet fault not is.refused in
    is.changed ∙ ap (λ inbound. map.insert old serial (record is.pair { inbound = inbound })) same ∙ inserted_same old serial is.pair is.there

pub same_association : (old new : Receiving) (packet : List ℕ) (fault : EspFault) → Refuses ⊥ old packet fault new → new.association ≡ old.association
same_association old new packet Exhausted is = ap (λ r. r.association) is.1
same_association old new packet PayloadSize is = ap (λ r. r.association) is.1
same_association old new packet BadLength is = ap (λ r. r.association) is.1
same_association old new packet Old is = ap (λ r. r.association) is.1
same_association old new packet Replayed is = ap (λ r. r.association) is.1
same_association old new packet BadNumber is = ap (λ r. r.association) is.1
same_association old new packet BadIcv is = ap (λ r. r.association) is.1
same_association old new packet BadPadding is = is.1.taken.association
same_association old new packet Memory is = absurd is.0

-- what is found at the serial that an SPI leads to
pub found_inbound : (now : Database) (x : GivenSpis) (s : PairsBySerial) (spi serial : ℕ) (found : Option (Bor Pair)) → table_of x s ≡ now → IsTable x s → map.get x.serials spi ≡ Some serial
    → option_copied found ≡ map.get s.pairs serial → IfSome found (λ p. p.now.serial ≡ serial)
    → IfSome found (λ p. IsInbound now.pairs spi p.now) × IfNone found ((n : ℕ) → ¬ HasInbound now.pairs spi n)
found_inbound now x s spi serial None shown sound held value own = (tt, λ _. absurd (some_inbound x s spi serial sound held (sym value)))
found_inbound now x s spi serial (Some p) shown sound held value own = (is_inbound now x s spi serial p.now shown sound held (sym value) own, tt)

-- after an opening, whatever came of it
pub opened_in : (x : GivenSpis) (s new : PairsBySerial) (serial : ℕ) (packet : List ℕ) → (result : Result Opened EspFault)
    → IsTable x s → new ≡ record s { pairs = new.pairs }
    → IfOk result (λ o. OpensPair s.pairs serial packet o.number o.next o.payload.now new.pairs) → IfErr result (λ fault. RefusesPair s.pairs serial packet fault new.pairs)
    → IsTable x new
opened_in x s new serial packet (Ok o) sound rest up refused =
    changed_in x s new serial up.pair (record up.pair { inbound = up.inbound }) sound up.there (ap (λ a. a.spi) up.opened.taken.association) rest up.changed
opened_in x s new serial packet (Err fault) sound rest up refused =
    changed_in x s new serial refused.pair (record refused.pair { inbound = refused.inbound }) sound refused.there (ap (λ a. a.spi) (same_association refused.pair.inbound refused.inbound packet fault refused.refused)) rest refused.changed

-- a refused packet leaves the whole table as it was, but for bad padding
pub opened_unchanged : (now : Database) (x : GivenSpis) (s new : PairsBySerial) (serial : ℕ) (packet : List ℕ) → (result : Result Opened EspFault)
    → table_of x s ≡ now → new ≡ record s { pairs = new.pairs } → IfErr result (λ fault. RefusesPair s.pairs serial packet fault new.pairs)
    → IfErr result (λ fault. fault ≢ BadPadding → table_of x new ≡ now)
opened_unchanged now x s new serial packet (Ok o) shown rest refused = tt
opened_unchanged now x s new serial packet (Err fault) shown rest refused =
    λ not. (let same : new.pairs ≡ s.pairs = pairs_unchanged s.pairs new.pairs serial packet fault not refused in
    ap (table_of x) (rest ∙ (λ i. record s { pairs = same i })) ∙ shown)

-- after sealing, whatever came of it; C is what else a refusal says
pub sealed_in : (C : Type 0) (x : GivenSpis) (s new : PairsBySerial) (serial next : ℕ) (payload before : List ℕ) (after : ℕ → List ℕ) (result : Result ℕ EspFault)
    → IsTable x s → new ≡ record s { pairs = new.pairs }
    → IfOk result (λ number. SealsPair s.pairs serial next payload before number new.pairs (after number)) → IfErr result (λ fault. SealRefusalAt s.pairs serial payload fault × (new ≡ s) × C)
    → IsTable x new
sealed_in C x s new serial next payload before after (Ok number) sound rest sealed refused =
    changed_in x s new serial sealed.pair (record sealed.pair { outbound = sealed.outbound }) sound sealed.there refl rest sealed.changed
sealed_in C x s new serial next payload before after (Err fault) sound rest sealed refused = subst (IsTable x) (sym refused.1) sound

-- what a table owes to its callers, from what its parts owe it
pub all_sound : (now : Database) (x : GivenSpis) (s : PairsBySerial) → table_of x s ≡ now → IsTable x s → 1 ≤ s.next
    → IsStart x.start
    → ((spi : ℕ) → set.contains x.reserved spi ≡ true → (x.start ≤ spi) × (spi < x.start + x.given) × (map.get x.serials spi ≡ None))
    → ((spi : ℕ) → IsSome (map.get x.serials spi) → (x.start ≤ spi) × (spi < x.start + x.given))
    → ((serial : ℕ) (pair : Pair) → map.get s.pairs serial ≡ Some pair → pair.serial ≡ serial)
    → ((serial : ℕ) (pair : Pair) → map.get s.pairs serial ≡ Some pair → window.IsSoundWindow pair.inbound.window)
    → ((serial : ℕ) → IsSome (map.get s.pairs serial) → (1 ≤ serial) × (serial < s.next))
    → IsSoundTable now
all_sound now x s shown sound first start reserved held serial windows given =
    subst IsSoundTable shown
    (record {
      start = start;
      given = sound.given;
      first = first;
      next = sound.serials;
      few = sound.few;
      reserved_given = λ spi is. (let facts = reserved spi is in record { from_start = facts.0; before_next = facts.1 });
      serial = serial;
      serial_given = λ n pair is. given n (subst IsSome (sym is) refl);
      window = windows;
      spi_given = λ n spi is. (let facts = held spi (subst IsSome (sym (held_by x s spi n sound is)) refl) in record { from_start = facts.0; before_next = facts.1 });
      spi_taken = λ n spi is not. none-some n (sym (reserved spi not).2 ∙ held_by x s spi n sound is);
      apart = λ n other spi one two. same_some n other (sym (held_by x s spi n sound one) ∙ held_by x s spi other sound two);
    })

-- ---- one SA pair changed, as the whole table shows it

pub changes_at : (now : Database) (x : GivenSpis) (s new : PairsBySerial) (serial : ℕ) (was is : Pair) → table_of x s ≡ now → map.get s.pairs serial ≡ Some was
    → new ≡ record s { pairs = new.pairs } → new.pairs ≡ map.insert s.pairs serial is → ChangesAt now serial was is (table_of x new)
changes_at now x s new serial was is shown there rest changed =
    subst (λ (d : Database). ChangesAt d serial was is (table_of x new)) shown
    (record { there = there; content = ap (table_of x) (rest ∙ ap (λ ps. record s { pairs = ps }) changed) })

pub marks_at : (now : Database) (x : GivenSpis) (s new : PairsBySerial) (serial : ℕ) → table_of x s ≡ now → new ≡ record s { pairs = new.pairs }
    → MarksPair s.pairs serial new.pairs → Marks now serial (table_of x new)
marks_at now x s new serial shown rest m = record {
  pair = m.pair;
  changed = changes_at now x s new serial m.pair (record m.pair { state = Deleting }) shown m.there rest m.changed;
}

pub opens_at : (now : Database) (x : GivenSpis) (s new : PairsBySerial) (serial : ℕ) (packet : List ℕ) (result : Result Opened EspFault) → table_of x s ≡ now
    → new ≡ record s { pairs = new.pairs } → IfOk result (λ o. OpensPair s.pairs serial packet o.number o.next o.payload.now new.pairs)
    → IfOk result (λ o. OpensAt now serial packet o.number o.next o.payload.now (table_of x new))
opens_at now x s new serial packet (Ok o) shown rest up = record {
  pair = up.pair;
  inbound = up.inbound;
  opened = up.opened;
  changed = changes_at now x s new serial up.pair (record up.pair { inbound = up.inbound }) shown up.there rest up.changed;
}
opens_at now x s new serial packet (Err fault) shown rest up = tt

pub refuses_at : (now : Database) (x : GivenSpis) (s new : PairsBySerial) (serial : ℕ) (packet : List ℕ) (result : Result Opened EspFault) → table_of x s ≡ now
    → new ≡ record s { pairs = new.pairs } → IfErr result (λ fault. RefusesPair s.pairs serial packet fault new.pairs)
    → IfErr result (λ fault. RefusesAt now serial packet fault (table_of x new))
refuses_at now x s new serial packet (Ok o) shown rest refused = tt
refuses_at now x s new serial packet (Err fault) shown rest refused = record {
  pair = refused.pair;
  inbound = refused.inbound;
  refused = refused.refused;
  changed = changes_at now x s new serial refused.pair (record refused.pair { inbound = refused.inbound }) shown refused.there rest refused.changed;
}

pub seals_at : (now : Database) (x : GivenSpis) (s new : PairsBySerial) (serial next : ℕ) (payload before : List ℕ) (after : ℕ → List ℕ) (result : Result ℕ EspFault) → table_of x s ≡ now
    → new ≡ record s { pairs = new.pairs } → IfOk result (λ number. SealsPair s.pairs serial next payload before number new.pairs (after number))
    → IfOk result (λ number. SealsAt now serial next payload before number (table_of x new) (after number))
seals_at now x s new serial next payload before after (Ok number) shown rest sealed = record {
  pair = sealed.pair;
  outbound = sealed.outbound;
  sealed = sealed.sealed;
  changed = changes_at now x s new serial sealed.pair (record sealed.pair { outbound = sealed.outbound }) shown sealed.there rest sealed.changed;
}
seals_at now x s new serial next payload before after (Err fault) shown rest sealed = tt
