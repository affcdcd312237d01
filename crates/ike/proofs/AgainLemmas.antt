-- What goes out again with a tick does so under keys that its IKE SA holds.
use Rattle.std.proofs.Common.{◌≡◌, inl, inr, ℕ, true, List, length, Option, Some, None, Contains, ap, refl, subst, sym, ◌∙◌}
use Rattle.std.proofs.lemmas.List.Elements.{All-contains}
use Rattle.std.proofs.lemmas.Option.{slice_get_read}
use Rattle.std.specs.Option.{option_map}
use Rattle.base.specs.Octets.{Octets}
use Rattle.policy.specs.declared.entry.Entry.{Entry}
use Rattle.suite.specs.declared.key_record.KeyRecord.{KeyRecord}
use Rattle.sadb.specs.Database.{Database, IsSoundTable}
use Rattle.association.specs.Phases.{keys_in}
use Rattle.association.specs.declared.phase.Association.{Association}
use Rattle.moments.specs.Held.{IsOutstandingOf}
use Rattle.moments.specs.declared.resent.Resent.{Resent}
use Rattle.moments.specs.declared.ticking.Ticked.{Ticked}
use Rattle.effects.specs.Moves.{ledger, ledger_of, Ledger, WaitsWith}
use Rattle.effects.specs.Taking.{Meaning}
use Rattle.ike.specs.Machines.{association_of, Held, Machine}
use Rattle.ike.specs.Soundness.{AreSound, IsSoundMachine}
use Rattle.ike.specs.Steps.{InputView, Steps}
use Rattle.ike.specs.Tracing.{HoldsKeys}
use Rattle.ike.specs.declared.output.IkeOutput.TheVariants as output
use Rattle.ike.specs.declared.output.Stepped.{Stepped}
use Rattle.ike.proofs.SerialLemmas.{sound_found}
use Rattle.ike.proofs.TellingLemmas.{resent_waits, same_ticked, TickFacts}
use Rattle.ike.proofs.TraceLemmas.{way_not_ticked}
use Rattle.ike.proofs.WayLemmas.{step_way, PassesMoment}

keyed_so : (a : Association) (keys : Option KeyRecord) (number : ℕ) (octets : Octets) → keys_in a.phase ≡ keys → WaitsWith (ledger a) number octets → (k : KeyRecord) × (keys_in a.phase ≡ Some k)
keyed_so a None number octets are waits = absurd (subst (λ (l : Option Ledger). WaitsWith l number octets) (ap (option_map (ledger_of a)) are) waits)
keyed_so a (Some k) number octets are waits = (k, are)

again_keyed : (facts : TickFacts) (input : InputView) (old new : Held) (table new_table : Database) (stepped : Stepped) (ticked : Ticked) (r : Resent) → AreSound old table → AreSound new new_table
    → PassesMoment input old table stepped new new_table → stepped.output ≡ output.Ticked ticked → Contains ticked.requests r → r.encrypted ≡ true → HoldsKeys new r.ike
again_keyed facts input old new table new_table stepped ticked r sound now passes said there sealed =
    let t = passes.takes in
    let same : t.ticked ≡ ticked = same_ticked t.ticked ticked (sym (ap (λ (s : Stepped). s.output) t.said) ∙ said) in
    let o = All-contains (IsOutstandingOf passes.now old.associations new.associations) t.ticked.requests r (facts.again passes.now old.associations new.associations table new_table t.ticked t.ticks) (subst (λ (x : Ticked). Contains x.requests r) (sym same) there) in
    let place = o.held_after in
    let held = slice_get_read new.associations (length new.associations) place.0 o.after refl place.1 (sym place.2) in
    let keys = keyed_so o.before (keys_in o.before.phase) r.number o.request.octets refl (resent_waits facts passes.now old new.associations table r sound o sealed) in
    record {
      association = o.after;
      there = subst (λ (n : ℕ). association_of n new.associations ≡ Some o.after) (ap (λ (x : Association). x.serial) o.same.content ∙ sym (ap (λ (x : Resent). x.ike) o.resent)) (sound_found new new_table place.0 o.after now held);
      keys = keys.0;
      are = ap (λ (x : Association). keys_in x.phase) o.same.content ∙ keys.1;
    }

-- what is known of each step
abbrev pub StaysSound : Type 0
StaysSound = (meaning : Meaning) (entries : List Entry) (input : InputView) (old : Machine) (table : Database) (stepped : Stepped) (new : Machine) (new_table : Database) → IsSoundTable table → IsSoundMachine old table
    → Steps meaning entries input old table stepped new new_table → IsSoundMachine new new_table

pub step_again_keyed : TickFacts → StaysSound → (meaning : Meaning) (entries : List Entry) (input : InputView) (old : Machine) (table : Database) (stepped : Stepped) (new : Machine) (new_table : Database) (ticked : Ticked) (r : Resent)
    → IsSoundTable table → IsSoundMachine old table → Steps meaning entries input old table stepped new new_table → stepped.output ≡ output.Ticked ticked → Contains ticked.requests r → r.encrypted ≡ true → HoldsKeys new.held r.ike
step_again_keyed facts stays meaning entries input old table stepped new new_table ticked r sound_table sound is said there sealed = elim (step_way meaning entries input old table stepped new new_table is) [
  | inl w ↦ absurd (way_not_ticked meaning w.setup w.octets old.held table stepped new.held new_table ticked w.way said)
  | inr passes ↦ again_keyed facts input old.held new.held table new_table stepped ticked r sound.held (stays meaning entries input old table stepped new new_table sound_table sound is).held passes said there sealed
]
