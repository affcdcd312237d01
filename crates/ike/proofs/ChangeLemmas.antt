-- A step changes one IKE SA at most, and pairs of that one alone.
use Rattle.std.proofs.Common.{◌⊎◌, ◌≡◌, inl, inr, ℕ, Bool, true, false, ◌+◌, List, Some, ap, refl, subst, sym, ◌∙◌, arith}
use Rattle.base.specs.Octets.{Octets}
use Rattle.wire.specs.declared.message.Message.{Message}
use Rattle.policy.specs.declared.entry.Entry.{Entry}
use Rattle.sadb.specs.Database.{pair_at, Database, IsAsBefore, PairMap, Reserves}
use Rattle.association.specs.declared.phase.Association.{Association}
use Rattle.initial.specs.Beginning.{begun}
use Rattle.setup.specs.Configs.{Setup}
use Rattle.effects.specs.Pairs.{LeavesPairs}
use Rattle.effects.specs.Taking.{Meaning, KeepsIdentity, TakesMessage}
use Rattle.effects.specs.declared.taking.Effect.{Effect}
use Rattle.informational.specs.Ordering.{MarksFor}
use Rattle.informational.specs.declared.ordering.Order.{Order}
use Rattle.informational.specs.declared.ordering.Order.TheVariants as order
use Rattle.ike.specs.Machines.{association_of, others_than, Held, Machine}
use Rattle.ike.specs.Pairs.{ChangesOne, MarksOne}
use Rattle.ike.specs.Receiving.{with_next}
use Rattle.ike.specs.Starting.{child_by}
use Rattle.ike.specs.Steps.{is_tick, InputView, Steps}
use Rattle.ike.specs.declared.output.Stepped.{Stepped}
use Rattle.ike.proofs.SerialLemmas.{grown_found, grown_others, replaced_found, replaced_others}
use Rattle.ike.proofs.AskingLemmas.{changed_itself, probed_serial}
use Rattle.ike.proofs.WayLemmas.{admitted, probed, rested, started, step_way, took, IsOwnFor, LeavesOrdered, LeavesReserved, Takes, Way}

-- what is known of a message's effect
pub record ChangeFacts : Type 0 where
  pub itself : (meaning : Meaning) (setup : Setup) (old : Association) (table : Database) (octets : Octets) (m : Message) (effect : Effect) (new : Association) (new_table : Database)
      → TakesMessage meaning setup old table octets m effect new new_table → KeepsIdentity old new
  pub leaves : (meaning : Meaning) (setup : Setup) (old : Association) (table : Database) (octets : Octets) (m : Message) (effect : Effect) (new : Association) (new_table : Database)
      → TakesMessage meaning setup old table octets m effect new new_table → LeavesPairs table old.serial new_table

all_left : (table : Database) (ike : ℕ) → LeavesPairs table ike table
all_left table ike =
    record { start = refl; given = omega arith; next = omega arith; each = λ q p there. inl there; others = λ q p below there other. there }

left_as : (table new_table : Database) (ike : ℕ) → new_table ≡ table → LeavesPairs table ike new_table
left_as table new_table ike same = subst (λ (d : Database). LeavesPairs table ike d) (sym same) (all_left table ike)

-- what a command leaves
order_leaves : (o : Order) (table : Database) (ike : ℕ) (new : Database) → IsOwnFor o table.pairs ike → MarksFor o table new → LeavesPairs table ike new ⊎ MarksOne table ike new
order_leaves order.Probe table ike new own is = inl (left_as table new ike is)
order_leaves (order.DeleteChild child spi) table ike new own is = inr (record { serial = child; own = own; marked = is })
order_leaves order.DeleteAssociation table ike new own is = inl (left_as table new ike is)

reserved_left : (old between : Database) (ike spi : ℕ) (new : Database) → IsAsBefore old between → Reserves between spi new → LeavesPairs old ike new
reserved_left old between ike spi new room is =
    let given : new.given ≡ between.given + 1 = ap (λ (d : Database). d.given) is.content in
    let before : between.given ≡ old.given = ap (λ (d : Database). d.given) room.content in
    let next : new.next ≡ old.next = ap (λ (d : Database). d.next) is.content ∙ ap (λ (d : Database). d.next) room.content in
    let pairs : new.pairs ≡ old.pairs = ap (λ (d : Database). d.pairs) is.content ∙ ap (λ (d : Database). d.pairs) room.content in
    record {
      start = ap (λ (d : Database). d.start) is.content ∙ ap (λ (d : Database). d.start) room.content;
      given = omega (arith, given, before);
      next = omega (arith, next);
      each = λ q p there. inl (subst (λ (m : PairMap). pair_at m q ≡ Some p) pairs there);
      others = λ q p below there other. subst (λ (m : PairMap). pair_at m q ≡ Some p) (sym pairs) there;
    }

one_leaves : (table : Database) (ike : ℕ) (new : Database) → LeavesOrdered ike table new ⊎ LeavesReserved table new → LeavesPairs table ike new ⊎ MarksOne table ike new
one_leaves table ike new (inl is) = order_leaves is.order table ike new is.own is.marked
one_leaves table ike new (inr is) = inl (reserved_left table is.between ike is.spi new is.room is.reserved)

took_changes : (facts : ChangeFacts) (meaning : Meaning) (setup : Setup) (octets : Octets) (old : Held) (table : Database) (stepped : Stepped) (new : Held) (new_table : Database)
    → Takes meaning setup octets old table stepped new new_table → ChangesOne old new table new_table
took_changes facts meaning setup octets old table stepped new new_table is =
    let t = is.takes in
    let stays : KeepsIdentity t.association t.changed = facts.itself meaning setup t.association table octets is.message t.effect t.changed new_table t.takes in
    record {
      serial = t.association.serial;
      others = ap (λ (h : Held). others_than t.association.serial h.associations) t.content
          ∙ replaced_others old.associations is.place t.association t.changed t.association.serial t.there refl stays.serial;
      each = λ other apart. ap (λ (h : Held). association_of other h.associations) t.content
          ∙ replaced_found old.associations is.place t.association t.changed other t.there apart stays.serial;
      pairs = inl (facts.leaves meaning setup t.association table octets is.message t.effect t.changed new_table t.takes);
    }

-- one more came, with the next serial
came_changes : (old : Held) (b : Association) (new : Held) (table new_table : Database) → b.serial ≡ old.next → new ≡ with_next old b → LeavesPairs table old.next new_table → ChangesOne old new table new_table
came_changes old b new table new_table serial content pairs =
    record {
      serial = old.next;
      others = ap (λ (h : Held). others_than old.next h.associations) content ∙ grown_others old.associations b old.next serial;
      each = λ other apart. ap (λ (h : Held). association_of other h.associations) content ∙ grown_found old.associations b other (λ e. apart (e ∙ serial));
      pairs = inl pairs;
    }

clash : (b : Bool) → b ≡ true → b ≡ false → ⊥
clash true one other = cc
clash false one other = cc

way_changes : (facts : ChangeFacts) (meaning : Meaning) (setup : Setup) (octets : Octets) (old : Held) (table : Database) (stepped : Stepped) (new : Held) (new_table : Database)
    → Way meaning setup octets old table stepped new new_table → ChangesOne old new table new_table
way_changes facts meaning setup octets old table stepped new new_table (rested is) =
    record {
      serial = 0;
      others = ap (λ (h : Held). others_than 0 h.associations) is.same;
      each = λ other apart. ap (λ (h : Held). association_of other h.associations) is.same;
      pairs = inl (left_as table new_table 0 is.pairs);
    }
way_changes facts meaning setup octets old table stepped new new_table (took is) = took_changes facts meaning setup octets old table stepped new new_table is
way_changes facts meaning setup octets old table stepped new new_table (admitted is) =
    came_changes old is.admits.admitted.association new table new_table (ap (λ (a : Association). a.serial) is.admits.admits.content) is.admits.content (left_as table new_table old.next is.pairs)
way_changes facts meaning setup octets old table stepped new new_table (probed is) =
    let p = is.probes in
    let stays = changed_itself meaning.body_of setup is.ike old stepped new p in
    record {
      serial = p.association.serial;
      others = ap (λ (h : Held). others_than p.association.serial h.associations) p.content
          ∙ replaced_others old.associations p.place p.association p.changed p.association.serial p.there refl stays.serial;
      each = λ other apart. ap (λ (h : Held). association_of other h.associations) p.content
          ∙ replaced_found old.associations p.place p.association p.changed other p.there apart stays.serial;
      pairs = subst (λ n. LeavesPairs table n new_table ⊎ MarksOne table n new_table) (sym (probed_serial meaning.body_of setup is.ike old stepped new p)) (one_leaves table is.ike new_table is.leaves);
    }
way_changes facts meaning setup octets old table stepped new new_table (started is) =
    let s = is.starts in
    came_changes old (begun old.next s.beginning (child_by s.entry s.done.spi setup.config.extended)) new table new_table refl s.done.content
    (reserved_left table s.between old.next s.done.spi new_table s.room s.done.reserved)

pub step_changes : ChangeFacts → (meaning : Meaning) (entries : List Entry) (input : InputView) (old : Machine) (table : Database) (stepped : Stepped) (new : Machine) (new_table : Database)
    → is_tick input ≡ false → Steps meaning entries input old table stepped new new_table → ChangesOne old.held new.held table new_table
step_changes facts meaning entries input old table stepped new new_table still is = elim (step_way meaning entries input old table stepped new new_table is) [
  | inl w ↦ way_changes facts meaning w.setup w.octets old.held table stepped new.held new_table w.way
  | inr passes ↦ absurd (clash (is_tick input) passes.ticks still)
]
