-- What a command does where some half-open IKE SAs are left out that have nothing to do with it.
use Rattle.std.proofs.Common.{◌≡◌, inl, inr, ℕ, ◌≤◌, ◌<◌, Bool, true, false, not, List, length, Option, Some, None, ap, refl, sym, ◌∙◌, subst, arith}
use Rattle.std.specs.Prelude.{◌==◌, if◌then◌else◌, nat_le, option_map}
use Rattle.std.proofs.lemmas.Bool.{lt-leb, ne_eqb}
use Rattle.base.specs.Octets.{Octets}
use Rattle.base.specs.declared.selector.Selector.{Selector}
use Rattle.policy.specs.Decisions.{local_side, remote_side}
use Rattle.policy.specs.declared.entry.Entry.{Entry}
use Rattle.suite.specs.declared.fresh.Fresh.{Fresh}
use Rattle.suite.specs.declared.keys.Keys.{Keys}
use Rattle.sadb.specs.Database.{pair_at, Database}
use Rattle.sadb.specs.declared.pair.Pair.{Pair}
use Rattle.sa_init.specs.Judging.{ASSOCIATION_LIMIT}
use Rattle.association.specs.declared.phase.Association.{Association}
use Rattle.initial.specs.Beginning.{begun}
use Rattle.setup.specs.Configs.{Setup}
use Rattle.informational.specs.declared.ordering.Order.{Order}
use Rattle.informational.specs.declared.ordering.Order.TheVariants as asked
use Rattle.effects.specs.Taking.{Meaning}
use Rattle.ike.specs.Asking.{AsksAt, AsksFor, AsksFurther, AsksThat, RefusesAsking, RefusesAskingAt, RefusesChild, RefusesChildBy, RefusesFurtherAt}
use Rattle.ike.specs.Machines.{association_of, has_serial, is_bad_spi, Held, SERIAL_END}
use Rattle.ike.specs.Orders.{OrderView}
use Rattle.ike.specs.Orders as orders
use Rattle.ike.specs.Starting.{beginning_fault, beginning_fault_of, child_by, protecting_entry, RefusesFurtherBy, RefusesStart, Starts}
use Rattle.ike.specs.declared.fault.IkeFault.{IkeFault}
use Rattle.ike.specs.declared.fault.IkeFault.TheVariants as fault
use Rattle.ike.specs.declared.output.Stepped.{Stepped}
use Rattle.gateway.specs.Others.{held_without, stays, AreHalfOpen, HasRoom, HaveNoPairs, HaveNotTheSpi}
use Rattle.gateway.proofs.ListRemoval.{first_is_left, left_found, left_length, left_position, left_there, place_left, FailsOthers}
use Rattle.gateway.proofs.DatagramRemoval.{fails_others, half_grown, half_replaced, opposite, same_bad_spi, stepped_without, without_grown, without_replaced, FailsOfStrange}

-- the command is about none of them
abbrev pub IsOfOthers : (ℕ → Bool) → Database → OrderView → Type 0
IsOfOthers strange table (orders.Probe ike) = strange ike ≡ false
IsOfOthers strange table (orders.DeleteChild child) = HaveNoPairs strange table
IsOfOthers strange table (orders.DeleteIke ike) = strange ike ≡ false

-- the command has room for a new IKE SA, or is about none of them
abbrev pub IsStartOfOthers : (ℕ → Bool) → Held → Option ℕ → Fresh → Type 0
IsStartOfOthers strange old None fresh = HasRoom old × HaveNotTheSpi strange old fresh.spi
IsStartOfOthers strange old (Some ike) fresh = strange ike ≡ false

module _ (strange : ℕ → Bool) (old : Held) where
  -- what is held without them
  abbrev left : Held
  left = held_without strange old

  abbrev to : ℕ → ℕ
  to place = place_left (stays strange) old.associations place

  -- ---- by serials

  other_serial : (ike : ℕ) → strange ike ≡ false → FailsOfStrange strange (has_serial ike) old
  other_serial ike own place a there out = ne_eqb a.serial ike (λ same. opposite (strange a.serial) out (ap strange same ∙ own))

  others_fail : (ike : ℕ) → strange ike ≡ false → FailsOthers (stays strange) (has_serial ike) old.associations
  others_fail ike own = fails_others strange (has_serial ike) old (other_serial ike own)

  pub same_association : (ike : ℕ) → strange ike ≡ false → association_of ike left.associations ≡ association_of ike old.associations
  same_association ike own = left_found (stays strange) (has_serial ike) old.associations (others_fail ike own)

  module _ (half : AreHalfOpen strange old) (body_of : Keys → Octets → Octets → Octets → Octets) (setup : Setup) where
    asker_stays : (ike : ℕ) (stepped : Stepped) (new : Held) → strange ike ≡ false → (is : AsksAt body_of setup ike old stepped new) → stays strange is.association ≡ true
    asker_stays ike stepped new own is = first_is_left (stays strange) (has_serial ike) old.associations is.place is.association (others_fail ike own) is.first is.there

    changed_stays : (ike : ℕ) (stepped : Stepped) (new : Held) → strange ike ≡ false → (is : AsksAt body_of setup ike old stepped new) → stays strange is.changed ≡ true
    changed_stays ike stepped new own is =
        let serial : is.changed.serial ≡ is.association.serial = ap (λ (a : Association). a.serial) is.sends.content in
        ap (λ n. not (strange n)) serial ∙ asker_stays ike stepped new own is

    abbrev asks_left : (ike : ℕ) (stepped : Stepped) (new : Held) → strange ike ≡ false → AsksAt body_of setup ike old stepped new → AsksAt body_of setup ike left (stepped_without strange stepped) (held_without strange new)
    asks_left ike stepped new own is = record {
      place = to is.place;
      first = left_position (stays strange) (has_serial ike) old.associations (others_fail ike own) ∙ ap (option_map to) is.first;
      association = is.association;
      there = left_there (stays strange) old.associations is.place is.association is.there (asker_stays ike stepped new own is);
      octets = is.octets;
      changed = is.changed;
      sends = is.sends;
      said = ap (stepped_without strange) is.said;
      content = ap (held_without strange) is.content ∙ without_replaced strange old is.place is.association is.changed is.there (asker_stays ike stepped new own is) (changed_stays ike stepped new own is);
    }

    half_asked : (ike : ℕ) (stepped : Stepped) (new : Held) → strange ike ≡ false → AsksAt body_of setup ike old stepped new → AreHalfOpen strange new
    half_asked ike stepped new own is =
        subst (λ (h : Held). AreHalfOpen strange h) (sym is.content) (half_replaced strange old is.place is.changed half (changed_stays ike stepped new own is))

    that_left : (ike : ℕ) (order : Order) (table : Database) (stepped : Stepped) (new : Held) (new_table : Database) → strange ike ≡ false → AsksThat body_of setup ike order old table stepped new new_table
        → AsksThat body_of setup ike order left table (stepped_without strange stepped) (held_without strange new) new_table × AreHalfOpen strange new
    that_left ike order table stepped new new_table own is =
        (record { asks = asks_left ike stepped new own is.asks; ordered = is.ordered; marked = is.marked }, half_asked ike stepped new own is.asks)

    further_left : (ike : ℕ) (local remote : Selector) (table : Database) (stepped : Stepped) (new : Held) (new_table : Database) → strange ike ≡ false → AsksFurther body_of setup ike local remote old table stepped new new_table
        → AsksFurther body_of setup ike local remote left table (stepped_without strange stepped) (held_without strange new) new_table × AreHalfOpen strange new
    further_left ike local remote table stepped new new_table own is =
        (record { asks = asks_left ike stepped new own is.asks; further = is.further }, half_asked ike stepped new own is.asks)

    pub order_left : (what : OrderView) (table : Database) (stepped : Stepped) (new : Held) (new_table : Database) → IsOfOthers strange table what → AsksFor body_of setup what old table stepped new new_table
        → AsksFor body_of setup what left table (stepped_without strange stepped) (held_without strange new) new_table × AreHalfOpen strange new
    order_left (orders.Probe ike) table stepped new new_table others is = that_left ike asked.Probe table stepped new new_table others is
    order_left (orders.DeleteChild serial) table stepped new new_table others is =
        let done = that_left is.pair.ike (asked.DeleteChild serial is.pair.inbound.association.spi) table stepped new new_table (others serial is.pair is.there) is.asks in
        (record { pair = is.pair; there = is.there; live = is.live; asks = done.0 }, done.1)
    order_left (orders.DeleteIke ike) table stepped new new_table others is = that_left ike asked.DeleteAssociation table stepped new new_table others is

    child_refused_left : (o : Option Pair) (reason : IkeFault) → ((pair : Pair) → o ≡ Some pair → strange pair.ike ≡ false) → RefusesChild o old reason → RefusesChild o left reason
    child_refused_left None reason own is = is
    child_refused_left (Some pair) reason own is = subst (λ (a : Option Association). RefusesChildBy pair.state a reason) (sym (same_association pair.ike (own pair refl))) is

    pub order_refused_left : (what : OrderView) (table : Database) (reason : IkeFault) → IsOfOthers strange table what → RefusesAsking what old table reason → RefusesAsking what left table reason
    order_refused_left (orders.Probe ike) table reason others is = subst (λ (a : Option Association). RefusesAskingAt a reason) (sym (same_association ike others)) is
    order_refused_left (orders.DeleteChild serial) table reason others is = child_refused_left (pair_at table.pairs serial) reason (λ pair there. others serial pair there) is
    order_refused_left (orders.DeleteIke ike) table reason others is = subst (λ (a : Option Association). RefusesAskingAt a reason) (sym (same_association ike others)) is

  -- ---- a new IKE SA

  module _ (fresh : Fresh) (room : HasRoom old) (spi : HaveNotTheSpi strange old fresh.spi) where
    not_crowded : nat_le ASSOCIATION_LIMIT (length left.associations) ≡ nat_le ASSOCIATION_LIMIT (length old.associations)
    not_crowded =
        let below : length old.associations < ASSOCIATION_LIMIT = room.holding in
        let less : length left.associations ≤ length old.associations = left_length (stays strange) old.associations in
        let also : length left.associations < ASSOCIATION_LIMIT = omega arith in
        lt-leb ASSOCIATION_LIMIT (length left.associations) also ∙ sym (lt-leb ASSOCIATION_LIMIT (length old.associations) below)

    same_fault_by : (o : Option Entry) → beginning_fault_of o left fresh.spi ≡ beginning_fault_of o old fresh.spi
    same_fault_by None = refl
    same_fault_by (Some entry) =
        ap (λ (b : Bool). if b then Some fault.Crowded else if old.next == SERIAL_END then Some fault.NumbersSpent else if is_bad_spi fresh.spi left.associations then Some fault.BadFresh else None) not_crowded
        ∙ ap (λ (b : Bool). if nat_le ASSOCIATION_LIMIT (length old.associations) then Some fault.Crowded else if old.next == SERIAL_END then Some fault.NumbersSpent else if b then Some fault.BadFresh else None) (same_bad_spi strange old fresh.spi spi)

    pub same_beginning_fault : (entries : List Entry) (place : ℕ) → beginning_fault entries place fresh left ≡ beginning_fault entries place fresh old
    same_beginning_fault entries place = same_fault_by (protecting_entry entries place)

  -- ---- to ask for a Child SA

  pub start_left : (half : AreHalfOpen strange old) (given_before : (n : ℕ) → old.next ≤ n → strange n ≡ false) (meaning : Meaning) (setup : Setup) (serial : Option ℕ) (place : ℕ) (table : Database) (stepped : Stepped) (new : Held) (new_table : Database)
      → IsStartOfOthers strange old serial setup.fresh → Starts meaning setup serial place old table stepped new new_table
      → Starts meaning setup serial place left table (stepped_without strange stepped) (held_without strange new) new_table × AreHalfOpen strange new
  start_left half given_before meaning setup None place table stepped new new_table others is =
      let made : Association = begun old.next is.beginning (child_by is.entry is.done.spi setup.config.extended) in
      let kept : stays strange made ≡ true = ap not (given_before old.next (omega arith)) in (
        record {
          entry = is.entry;
          allowed = record {
            none = same_beginning_fault setup.fresh others.0 others.1 setup.entries place ∙ is.allowed.none;
            protects = is.allowed.protects;
            next = refl;
            left = is.allowed.left;
          };
          beginning = is.beginning;
          begins = is.begins;
          between = is.between;
          room = is.room;
          done = record {
            not_full = is.done.not_full;
            not_spent = is.done.not_spent;
            spi = is.done.spi;
            reserved = is.done.reserved;
            said = ap (stepped_without strange) is.done.said;
            content = ap (held_without strange) is.done.content ∙ without_grown strange old made kept;
          };
        },
        subst (λ (h : Held). AreHalfOpen strange h) (sym is.done.content) (half_grown strange old made half kept),
      )
  start_left half given_before meaning setup (Some ike) place table stepped new new_table others is =
      let done = further_left half meaning.body_of setup ike (local_side is.entry) (remote_side is.entry) table stepped new new_table others is.asks in
      (record { entry = is.entry; protects = is.protects; asks = done.0 }, done.1)

  further_refused_left : (o : Option Entry) (ike : ℕ) (table : Database) (reason : IkeFault) → strange ike ≡ false → RefusesFurtherBy o ike old table reason → RefusesFurtherBy o ike left table reason
  further_refused_left None ike table reason own is = is
  further_refused_left (Some entry) ike table reason own is = subst (λ (a : Option Association). RefusesFurtherAt a table reason) (sym (same_association ike own)) is

  pub start_refused_left : (entries : List Entry) (fresh : Fresh) (serial : Option ℕ) (place : ℕ) (table : Database) (reason : IkeFault)
      → IsStartOfOthers strange old serial fresh → RefusesStart entries fresh serial place old table reason → RefusesStart entries fresh serial place left table reason
  start_refused_left entries fresh None place table reason others (inl is) = inl (same_beginning_fault fresh others.0 others.1 entries place ∙ is)
  start_refused_left entries fresh None place table reason others (inr is) = inr (same_beginning_fault fresh others.0 others.1 entries place ∙ is.0, is.1)
  start_refused_left entries fresh (Some ike) place table reason others is = further_refused_left (protecting_entry entries place) ike table reason others is
