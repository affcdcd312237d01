-- An SA pair that comes by a message is the Child SA that its effect tells.
use Rattle.std.proofs.Common.{◌≡◌, ◌⊎◌, inl, inr, ℕ, Some, None}
use Rattle.base.specs.Octets.{Octets}
use Rattle.wire.specs.declared.message.Message.{Message}
use Rattle.sadb.specs.Database.{pair_at, Database}
use Rattle.sadb.specs.declared.pair.Pair.{Pair}
use Rattle.association.specs.declared.phase.Association.{Association}
use Rattle.initial.specs.Answering.{outcome_of}
use Rattle.association.specs.Issuing.{with_incoming, with_outgoing}
use Rattle.setup.specs.Configs.{Setup}
use Rattle.deletions.specs.Deciding.{is_closing_verdict, verdict_on}
use Rattle.informational.specs.Answering.{gone_by}
use Rattle.informational.specs.Counting.{gone_with, is_ended}
use Rattle.further.specs.Answering.{further_pair}
use Rattle.further.specs.Deciding.{is_closing_decision}
use Rattle.create_child.specs.Counting.{is_closing_conclusion}
use Rattle.effects.specs.Keeping.{child_in}
use Rattle.effects.specs.Taking.{Meaning, TakesMessage}
use Rattle.effects.specs.declared.taking.Effect.{Effect}
use Rattle.effects.specs.declared.taking.Effect.TheVariants as effect
use Rattle.effects.proofs.PairLemmas.{closed_if_told, concluded_told, further_if_told, itself_same, room_same, unchanged_told, ComesTold}
use Rattle.effects.proofs.WayLemmas.{answered_further, counted_further, pair_made, way_of, Way}
use Rattle.association.specs.Outcomes.{made_by}

way_told : (meaning : Meaning) (setup : Setup) (old : Association) (table : Database) (octets : Octets) (m : Message) (e : Effect) (new : Association) (new_table : Database)
    → Way meaning setup old table octets m e new new_table → ComesTold table (child_in e) new_table
way_told meaning setup old table octets m (effect.Refused fault) new new_table is = unchanged_told table None new_table is.pairs
way_told meaning setup old table octets m (effect.Repeated reply) new new_table is = unchanged_told table None new_table is.same.pairs
way_told meaning setup old table octets m (effect.Replied answered) new new_table (inl is) =
    concluded_told setup (with_incoming old is.done.incoming) table is.done.between (outcome_of is.done.decision) answered.fate new new_table
    (room_same table is.done.between is.done.room) is.done.concluded
way_told meaning setup old table octets m (effect.Replied answered) new new_table (inr (inr is)) =
    let d = is.done in
    further_if_told (is_closing_decision d.decision) None (further_pair d.decision) (with_incoming old d.incoming) table d.between setup.moment (made_by answered.fate) new new_table (room_same table d.between d.room)
    (answered_further (is_closing_decision d.decision) (further_pair d.decision) (with_incoming old d.incoming) d.between setup.moment answered.fate new new_table d.concluded)
way_told meaning setup old table octets m (effect.Replied answered) new new_table (inr (inl is)) =
    closed_if_told (is_closing_verdict (verdict_on table.pairs old.serial is.done.payloads)) (gone_by (verdict_on table.pairs old.serial is.done.payloads)) (with_incoming old is.done.incoming) table setup.moment (made_by answered.fate) new new_table is.done.concluded
way_told meaning setup old table octets m (effect.Again next) new new_table is = unchanged_told table None new_table is.pairs
way_told meaning setup old table octets m (effect.AsksAuth next) new new_table is = unchanged_told table None new_table is.pairs
way_told meaning setup old table octets m (effect.Counted ended) new new_table (inl is) =
    concluded_told setup (with_outgoing old is.done.outgoing) table table is.done.verdict ended.fate new new_table (itself_same table) is.done.concluded
way_told meaning setup old table octets m (effect.Counted ended) new new_table (inr (inr is)) =
    let d = is.done in
    further_if_told (is_closing_conclusion d.conclusion) (Some d.further.child.spi) (pair_made d.conclusion) (with_outgoing old d.outgoing) table table setup.moment (made_by ended.fate) new new_table (itself_same table)
    (counted_further d.conclusion d.further.child.spi (with_outgoing old d.outgoing) table setup.moment ended.fate new new_table d.ends)
way_told meaning setup old table octets m (effect.Counted ended) new new_table (inr (inl is)) =
    closed_if_told (is_ended is.done.payloads is.done.request.purpose) (gone_with table.pairs old.serial is.done.request.purpose) (with_outgoing old is.done.outgoing) table setup.moment (made_by ended.fate) new new_table is.done.concluded

pub pairs_told : (meaning : Meaning) (setup : Setup) (old : Association) (table : Database) (octets : Octets) (m : Message) (e : Effect) (new : Association) (new_table : Database) (serial : ℕ) (pair : Pair)
    → TakesMessage meaning setup old table octets m e new new_table → pair_at new_table.pairs serial ≡ Some pair → (pair_at table.pairs serial ≡ Some pair) ⊎ (child_in e ≡ Some serial)
pairs_told meaning setup old table octets m e new new_table serial pair is there =
    way_told meaning setup old table octets m e new new_table (way_of meaning setup old table octets m e new new_table is) serial pair there
