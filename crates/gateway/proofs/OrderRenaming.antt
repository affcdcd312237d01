-- A command does the same, whatever the serials of the IKE SAs.
use Rattle.std.proofs.Common.{◌≡◌, ◌<◌, inl, inr, ℕ, Bool, List, length, map, Option, Some, None, refl, ap, subst, sym, ◌∙◌, arith}
use Rattle.std.specs.Prelude.{◌==◌, nat_le, option_map, if◌then◌else◌}
use Rattle.std.proofs.lemmas.Bool.{ne_eqb}
use Rattle.base.specs.Octets.{Octets}
use Rattle.base.specs.declared.selector.Selector.{Selector}
use Rattle.policy.specs.Decisions.{local_side, remote_side}
use Rattle.policy.specs.declared.entry.Entry.{Entry}
use Rattle.suite.specs.declared.fresh.Fresh.{Fresh}
use Rattle.suite.specs.declared.keys.Keys.{Keys}
use Rattle.sadb.specs.Database.{pair_at, Database, IsAsBefore, Reserves}
use Rattle.sadb.specs.declared.pair.Pair.{Pair}
use Rattle.sadb.specs.declared.pair.State.{State}
use Rattle.sadb.specs.declared.pair.State.TheVariants.{Live, Deleting}
use Rattle.sa_init.specs.Judging.{ASSOCIATION_LIMIT}
use Rattle.association.specs.Ordering.{RefusesOrder}
use Rattle.association.specs.declared.fault.OrderFault.{OrderFault}
use Rattle.association.specs.declared.fault.OrderFault.TheVariants as order
use Rattle.association.specs.declared.phase.Association.{Association}
use Rattle.setup.specs.Configs.{Setup}
use Rattle.initial.specs.Beginning.{begun}
use Rattle.informational.specs.Ordering.{MarksFor}
use Rattle.informational.specs.declared.ordering.Order.{Order}
use Rattle.informational.specs.declared.ordering.Order.TheVariants as asked
use Rattle.create_child.specs.Asking.{MayAsk, RefusesFurther}
use Rattle.effects.specs.Sending.{SendsRequest}
use Rattle.effects.specs.Taking.{Meaning}
use Rattle.ike.specs.Asking.{AsksAt, AsksFor, AsksFurther, AsksThat, RefusesAsking, RefusesAskingAt, RefusesChild, RefusesChildBy, RefusesFurtherAt}
use Rattle.ike.specs.Machines.{association_of, is_bad_spi, Held, SERIAL_END}
use Rattle.ike.specs.Orders.{OrderView}
use Rattle.ike.specs.Orders as orders
use Rattle.ike.specs.Starting.{beginning_fault, beginning_fault_of, child_by, protecting_entry, BeginsBy, GivesNoSpi, RefusesFurtherBy, RefusesStart, Starts}
use Rattle.ike.specs.declared.fault.IkeFault.{IkeFault}
use Rattle.ike.specs.declared.fault.IkeFault.TheVariants as fault
use Rattle.ike.specs.declared.output.Stepped.{Stepped}
use Rattle.gateway.specs.Renaming.{renamed_association, renamed_held, renamed_order, renamed_pair, renamed_stepped, renamed_table, IsRenaming}
use Rattle.gateway.proofs.RenamedLaws.{RenamedLaws}
use Rattle.gateway.proofs.HeldRenaming.{found_renamed, renamed_after_change, renamed_after_next, same_bad, same_first, same_length, stands_renamed}
use Rattle.gateway.proofs.PacketRenaming.{renamed_marks, renamed_there}
use Rattle.gateway.proofs.RenamingLemmas.{apart_of}
use Rattle.gateway.proofs.ReceivingRenaming.{renamed_full, renamed_not_full}

-- ---- the table

pub renamed_before : (r : ℕ → ℕ) (old new : Database) → IsAsBefore old new → IsAsBefore (renamed_table r old) (renamed_table r new)
renamed_before r old new is = record { content = ap (renamed_table r) is.content; room = is.room }

renamed_reserves : (r : ℕ → ℕ) (old : Database) (spi : ℕ) (new : Database) → Reserves old spi new → Reserves (renamed_table r old) spi (renamed_table r new)
renamed_reserves r old spi new is = record { in_order = is.in_order; content = ap (renamed_table r) is.content; room = is.room }

renamed_marked : (r : ℕ → ℕ) → RenamedLaws r → (what : Order) (table new : Database) → MarksFor what table new → MarksFor what (renamed_table r table) (renamed_table r new)
renamed_marked r laws asked.Probe table new is = ap (renamed_table r) is
renamed_marked r laws (asked.DeleteChild child spi) table new is = renamed_marks r laws table child new is
renamed_marked r laws asked.DeleteAssociation table new is = ap (renamed_table r) is

-- ---- an IKE SA asks

renamed_request : (r : ℕ → ℕ) (body_of : Keys → Octets → Octets → Octets → Octets) (setup : Setup) (old : Association) (octets : Octets) (new : Association) → SendsRequest body_of setup old octets new
    → SendsRequest body_of setup (renamed_association r old) octets (renamed_association r new)
renamed_request r body_of setup old octets new is = record {
  keys = is.keys;
  established = is.established;
  purpose = is.purpose;
  later = is.later;
  payloads = is.payloads;
  clear = is.clear;
  sealed = is.sealed;
  outgoing = is.outgoing;
  issued = is.issued;
  content = ap (renamed_association r) is.content;
}

module _ (r : ℕ → ℕ) (laws : RenamedLaws r) (apart : (one other : ℕ) → r one ≡ r other → one ≡ other) (body_of : Keys → Octets → Octets → Octets → Octets) (setup : Setup) (old : Held) (stepped : Stepped) (new : Held) where
  abbrev renamed_asks_at : (ike : ℕ) → AsksAt body_of setup ike old stepped new → AsksAt body_of setup (r ike) (renamed_held r old) (renamed_stepped r stepped) (renamed_held r new)
  renamed_asks_at ike is = record {
    place = is.place;
    first = same_first r apart ike old.associations ∙ is.first;
    association = renamed_association r is.association;
    there = stands_renamed r old.associations is.place is.association is.there;
    octets = is.octets;
    changed = renamed_association r is.changed;
    sends = renamed_request r body_of setup is.association is.octets is.changed is.sends;
    said = ap (renamed_stepped r) is.said;
    content = ap (renamed_held r) is.content ∙ renamed_after_change r old is.place is.changed;
  }

  renamed_asks_that : (ike : ℕ) (what : Order) (table new_table : Database) → AsksThat body_of setup ike what old table stepped new new_table
      → AsksThat body_of setup (r ike) what (renamed_held r old) (renamed_table r table) (renamed_stepped r stepped) (renamed_held r new) (renamed_table r new_table)
  renamed_asks_that ike what table new_table is = record {
    asks = renamed_asks_at ike is.asks;
    ordered = laws.associations.asks body_of setup what is.asks.association is.asks.changed is.asks.octets is.ordered;
    marked = renamed_marked r laws what table new_table is.marked;
  }

  renamed_asks_further : (ike : ℕ) (local remote : Selector) (table new_table : Database) → AsksFurther body_of setup ike local remote old table stepped new new_table
      → AsksFurther body_of setup (r ike) local remote (renamed_held r old) (renamed_table r table) (renamed_stepped r stepped) (renamed_held r new) (renamed_table r new_table)
  renamed_asks_further ike local remote table new_table is = record {
    asks = renamed_asks_at ike is.asks;
    further = laws.associations.further body_of setup local remote is.asks.association is.asks.changed table new_table is.asks.octets is.further;
  }

  pub renamed_asking : (what : OrderView) (table new_table : Database) → AsksFor body_of setup what old table stepped new new_table
      → AsksFor body_of setup (renamed_order r what) (renamed_held r old) (renamed_table r table) (renamed_stepped r stepped) (renamed_held r new) (renamed_table r new_table)
  renamed_asking (orders.Probe ike) table new_table is = renamed_asks_that ike asked.Probe table new_table is
  renamed_asking (orders.DeleteChild serial) table new_table is = record {
    pair = renamed_pair r is.pair;
    there = renamed_there r laws table.pairs serial is.pair is.there;
    live = is.live;
    asks = renamed_asks_that is.pair.ike (asked.DeleteChild serial is.pair.inbound.association.spi) table new_table is.asks;
  }
  renamed_asking (orders.DeleteIke ike) table new_table is = renamed_asks_that ike asked.DeleteAssociation table new_table is

-- ---- an IKE SA begins

abbrev fault_by : ℕ → Bool → Bool → Option IkeFault
fault_by held spent bad =
    if nat_le ASSOCIATION_LIMIT held then Some fault.Crowded
    else if spent then Some fault.NumbersSpent
    else if bad then Some fault.BadFresh
    else None

module _ (r : ℕ → ℕ) (old : Held) (before : old.next < SERIAL_END) (left : r old.next < SERIAL_END) where
  same_spent : (r old.next == SERIAL_END) ≡ (old.next == SERIAL_END)
  same_spent = ne_eqb (r old.next) SERIAL_END (λ e. omega (arith, left, e)) ∙ sym (ne_eqb old.next SERIAL_END (λ e. omega (arith, before, e)))

  same_fault_of : (entry : Option Entry) (spi : ℕ) → beginning_fault_of entry (renamed_held r old) spi ≡ beginning_fault_of entry old spi
  same_fault_of None spi = refl
  same_fault_of (Some entry) spi =
      ap (λ (n : ℕ). fault_by n (r old.next == SERIAL_END) (is_bad_spi spi (map (renamed_association r) old.associations))) (same_length r old.associations)
      ∙ ap (λ (b : Bool). fault_by (length old.associations) b (is_bad_spi spi (map (renamed_association r) old.associations))) same_spent
      ∙ ap (λ (b : Bool). fault_by (length old.associations) (old.next == SERIAL_END) b) (same_bad r old.associations spi)

  same_beginning : (entries : List Entry) (place : ℕ) (fresh : Fresh) → beginning_fault entries place fresh (renamed_held r old) ≡ beginning_fault entries place fresh old
  same_beginning entries place fresh = same_fault_of (protecting_entry entries place) fresh.spi

module _ (r : ℕ → ℕ) (laws : RenamedLaws r) (meaning : Meaning) (setup : Setup) (old : Held) (renaming : IsRenaming r old.next) (before : old.next < SERIAL_END) (left : r old.next < SERIAL_END) (table : Database) (stepped : Stepped) (new : Held) (new_table : Database) where
  renamed_begins : (place : ℕ) → BeginsBy meaning setup place old table stepped new new_table
      → BeginsBy meaning setup place (renamed_held r old) (renamed_table r table) (renamed_stepped r stepped) (renamed_held r new) (renamed_table r new_table)
  renamed_begins place is = record {
    entry = is.entry;
    allowed = record { none = same_beginning r old before left setup.entries place setup.fresh ∙ is.allowed.none; protects = is.allowed.protects; next = refl; left = left };
    beginning = is.beginning;
    begins = is.begins;
    between = renamed_table r is.between;
    room = renamed_before r table is.between is.room;
    done = record {
      not_full = renamed_not_full r laws is.between is.done.not_full;
      not_spent = is.done.not_spent;
      spi = is.done.spi;
      reserved = renamed_reserves r is.between is.done.spi new_table is.done.reserved;
      said = ap (renamed_stepped r) is.done.said;
      content = ap (renamed_held r) is.done.content ∙ renamed_after_next r old renaming (begun old.next is.beginning (child_by is.entry is.done.spi setup.config.extended));
    };
  }

  pub renamed_starts : (serial : Option ℕ) (place : ℕ) → Starts meaning setup serial place old table stepped new new_table
      → Starts meaning setup (option_map r serial) place (renamed_held r old) (renamed_table r table) (renamed_stepped r stepped) (renamed_held r new) (renamed_table r new_table)
  renamed_starts None place is = renamed_begins place is
  renamed_starts (Some ike) place is = record {
    entry = is.entry;
    protects = is.protects;
    asks = renamed_asks_further r laws (apart_of r old.next renaming) meaning.body_of setup old stepped new ike (local_side is.entry) (remote_side is.entry) table new_table is.asks;
  }

-- ---- why a command is refused

renamed_order_fault : (r : ℕ → ℕ) (a : Association) (o : OrderFault) → RefusesOrder a o → RefusesOrder (renamed_association r a) o
renamed_order_fault r a order.WrongPhase is = is
renamed_order_fault r a order.Busy is = is
renamed_order_fault r a order.NumbersSpent is = is
renamed_order_fault r a order.Memory is = is
renamed_order_fault r a order.TableFull is = is
renamed_order_fault r a order.SpisSpent is = is
renamed_order_fault r a order.TableMemory is = is

renamed_refused_at : (r : ℕ → ℕ) (o : Option Association) (reason : IkeFault) → RefusesAskingAt o reason → RefusesAskingAt (option_map (renamed_association r) o) reason
renamed_refused_at r None reason is = is
renamed_refused_at r (Some a) reason is = (is.0, renamed_order_fault r a is.0 is.1, is.2)

renamed_child_refusal : (r : ℕ → ℕ) (s : State) (o : Option Association) (reason : IkeFault) → RefusesChildBy s o reason → RefusesChildBy s (option_map (renamed_association r) o) reason
renamed_child_refusal r Live o reason is = renamed_refused_at r o reason is
renamed_child_refusal r Deleting o reason is = is

renamed_may : (r : ℕ → ℕ) (a : Association) → MayAsk a → MayAsk (renamed_association r a)
renamed_may r a is = record { established = is.established; not_deleting = is.not_deleting; allowed = is.allowed }

renamed_further_fault : (r : ℕ → ℕ) → RenamedLaws r → (a : Association) (table : Database) (o : OrderFault) → RefusesFurther a table o → RefusesFurther (renamed_association r a) (renamed_table r table) o
renamed_further_fault r laws a table order.WrongPhase is = is
renamed_further_fault r laws a table order.Busy is = is
renamed_further_fault r laws a table order.NumbersSpent is = is
renamed_further_fault r laws a table order.TableFull is = (renamed_may r a is.0, renamed_full r laws table is.1)
renamed_further_fault r laws a table order.SpisSpent is = (renamed_may r a is.0, renamed_not_full r laws table is.1, is.2)
renamed_further_fault r laws a table order.TableMemory is = (renamed_may r a is.0, renamed_not_full r laws table is.1, is.2, is.3)
renamed_further_fault r laws a table order.Memory is = (renamed_may r a is.0, renamed_not_full r laws table is.1, is.2)

renamed_further_at : (r : ℕ → ℕ) → RenamedLaws r → (o : Option Association) (table : Database) (reason : IkeFault) → RefusesFurtherAt o table reason
    → RefusesFurtherAt (option_map (renamed_association r) o) (renamed_table r table) reason
renamed_further_at r laws None table reason is = is
renamed_further_at r laws (Some a) table reason is = (is.0, renamed_further_fault r laws a table is.0 is.1, is.2)

renamed_no_spi : (r : ℕ → ℕ) → RenamedLaws r → (table : Database) (reason : IkeFault) → GivesNoSpi table reason → GivesNoSpi (renamed_table r table) reason
renamed_no_spi r laws table fault.TableFull is = renamed_full r laws table is
renamed_no_spi r laws table fault.SpisSpent is = (renamed_not_full r laws table is.0, is.1)
renamed_no_spi r laws table (fault.Memory f) is = (renamed_not_full r laws table is.0, is.1, is.2)
renamed_no_spi r laws table (fault.Unread f) is = absurd is
renamed_no_spi r laws table (fault.Message f) is = absurd is
renamed_no_spi r laws table fault.Unprotected is = absurd is
renamed_no_spi r laws table fault.Crowded is = absurd is
renamed_no_spi r laws table fault.HalfOpenFull is = absurd is
renamed_no_spi r laws table fault.Busy is = absurd is
renamed_no_spi r laws table fault.NumbersSpent is = absurd is
renamed_no_spi r laws table fault.BadFresh is = absurd is

module _ (r : ℕ → ℕ) (laws : RenamedLaws r) (old : Held) (renaming : IsRenaming r old.next) (before : old.next < SERIAL_END) (left : r old.next < SERIAL_END) (table : Database) where
  renamed_further_refusal : (entry : Option Entry) (ike : ℕ) (reason : IkeFault) → RefusesFurtherBy entry ike old table reason → RefusesFurtherBy entry (r ike) (renamed_held r old) (renamed_table r table) reason
  renamed_further_refusal None ike reason is = is
  renamed_further_refusal (Some entry) ike reason is =
      subst (λ (o : Option Association). RefusesFurtherAt o (renamed_table r table) reason) (sym (found_renamed r (apart_of r old.next renaming) ike old.associations))
      (renamed_further_at r laws (association_of ike old.associations) table reason is)

  pub renamed_start_refusal : (entries : List Entry) (fresh : Fresh) (serial : Option ℕ) (place : ℕ) (reason : IkeFault) → RefusesStart entries fresh serial place old table reason
      → RefusesStart entries fresh (option_map r serial) place (renamed_held r old) (renamed_table r table) reason
  renamed_start_refusal entries fresh None place reason (inl is) = inl (same_beginning r old before left entries place fresh ∙ is)
  renamed_start_refusal entries fresh None place reason (inr is) = inr (same_beginning r old before left entries place fresh ∙ is.0, renamed_no_spi r laws table reason is.1)
  renamed_start_refusal entries fresh (Some ike) place reason is = renamed_further_refusal (protecting_entry entries place) ike reason is

  renamed_asked_refusal : (ike : ℕ) (reason : IkeFault) → RefusesAskingAt (association_of ike old.associations) reason → RefusesAskingAt (association_of (r ike) (map (renamed_association r) old.associations)) reason
  renamed_asked_refusal ike reason is =
      subst (λ (o : Option Association). RefusesAskingAt o reason) (sym (found_renamed r (apart_of r old.next renaming) ike old.associations)) (renamed_refused_at r (association_of ike old.associations) reason is)

  renamed_pair_refusal : (o : Option Pair) (reason : IkeFault) → RefusesChild o old reason → RefusesChild (option_map (renamed_pair r) o) (renamed_held r old) reason
  renamed_pair_refusal None reason is = is
  renamed_pair_refusal (Some pair) reason is =
      subst (λ (o : Option Association). RefusesChildBy pair.state o reason) (sym (found_renamed r (apart_of r old.next renaming) pair.ike old.associations))
      (renamed_child_refusal r pair.state (association_of pair.ike old.associations) reason is)

  pub renamed_asking_refusal : (what : OrderView) (reason : IkeFault) → RefusesAsking what old table reason → RefusesAsking (renamed_order r what) (renamed_held r old) (renamed_table r table) reason
  renamed_asking_refusal (orders.Probe ike) reason is = renamed_asked_refusal ike reason is
  renamed_asking_refusal (orders.DeleteChild serial) reason is =
      subst (λ (o : Option Pair). RefusesChild o (renamed_held r old) reason) (sym (laws.pairs.at table.pairs serial)) (renamed_pair_refusal (pair_at table.pairs serial) reason is)
  renamed_asking_refusal (orders.DeleteIke ike) reason is = renamed_asked_refusal ike reason is
