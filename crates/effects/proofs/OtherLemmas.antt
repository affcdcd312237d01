-- An SPI that another IKE SA holds stays reserved.
use Rattle.std.proofs.Common.{◌≡◌, ◌≢◌, inl, inr, ◌+◌, ◌<◌, ◌||◌, ◌&&◌, ℕ, Bool, true, false, not, Option, Some, None, ap, refl, subst, sym, ◌∙◌, arith, List}
use Rattle.std.specs.Cmp.{nat_cmp_total, unsigned_tied}
use Rattle.std.specs.FinSet as set
use Rattle.std.specs.Ordering.{nat_cmp}
use Rattle.std.proofs.lemmas.Bool.{ne_eqb}
use Rattle.base.specs.Octets.{Octets}
use Rattle.wire.specs.declared.message.Message.{Message}
use Rattle.exchange.specs.declared.sealed.Plain.{Plain}
use Rattle.sadb.specs.Database.{Database, Installs, IsAsBefore, IsReserved, Releases, RemovesAllOf, Reserves}
use Rattle.sadb.specs.declared.pair.Pair.{Pair}
use Rattle.association.specs.Closing.{Closes, GivesUpSpi, HoldsSpi}
use Rattle.association.specs.Phases.{established_spi, spi_in}
use Rattle.association.specs.Purposes.{spi_asked}
use Rattle.association.specs.declared.phase.Association.{Association}
use Rattle.association.specs.declared.phase.Phase.{Phase}
use Rattle.association.specs.declared.phase.Phase.TheVariants as phase
use Rattle.auth.specs.Proofs.{Accepts}
use Rattle.children.specs.Responding.{AddsNext}
use Rattle.initial.specs.Answering.{outcome_of, AnswersAuth, Prover}
use Rattle.initial.specs.Concluding.{AddsChild, ConcludesBy}
use Rattle.setup.specs.Configs.{Setup}
use Rattle.initial.specs.Ending.{EndsAuth}
use Rattle.deletions.specs.Deciding.{is_closing_verdict, verdict_on}
use Rattle.informational.specs.Answering.{gone_by}
use Rattle.informational.specs.Counting.{gone_with, is_ended}
use Rattle.informational.specs.Orders.{ClosesIf}
use Rattle.further.specs.Answering.{further_pair}
use Rattle.further.specs.Deciding.{is_closing_decision}
use Rattle.create_child.specs.Counting.{is_closing_conclusion}
use Rattle.effects.specs.Taking.{prover_of, Meaning, TakesMessage}
use Rattle.association.specs.declared.outcome.Answered.{Answered}
use Rattle.initial.specs.declared.concluding.Outcome.{Outcome}
use Rattle.initial.specs.declared.concluding.Outcome.TheVariants as outcome
use Rattle.association.specs.declared.outcome.Ended.{Ended}
use Rattle.effects.specs.declared.taking.Effect.{Effect}
use Rattle.effects.specs.declared.taking.Effect.TheVariants as effect
use Rattle.effects.proofs.HeldFacts.{counted_before, HeldFacts}
use Rattle.effects.proofs.WayLemmas.{answered_further, counted_further, pair_made, way_of, CountedFurther, FurtherIf, Way}
use Rattle.association.specs.Outcomes.{made_by}
use Rattle.association.specs.declared.outcome.Fate.{Fate}

-- ---- sets

or_true : (b c : Bool) → c ≡ true → (b || c) ≡ true
or_true true c is = refl
or_true false c is = is

still_in : (s : set.FinSet nat_cmp) (k q : ℕ) → set.contains s q ≡ true → set.contains (set.insert s k) q ≡ true
still_in s k q there = set.contains-insert nat_cmp_total s k q ∙ or_true _ (set.contains s q) there

still_there : (s : set.FinSet nat_cmp) (k q : ℕ) → q ≢ k → set.contains s q ≡ true → set.contains (set.remove s k) q ≡ true
still_there s k q apart there = set.contains-remove nat_cmp_total s k q ∙ ap (λ b. not b && set.contains s q) (unsigned_tied q k ∙ ne_eqb q k apart) ∙ there

-- ---- the table's changes

-- an SPI that is reserved, and was given
pub record IsKept (table : Database) (q : ℕ) : Type 0 where
  pub there : IsReserved table q
  pub given : q < table.start + table.given

pub room_keeps : (old new : Database) (q : ℕ) → IsAsBefore old new → IsKept old q → IsKept new q
room_keeps old new q same kept = subst (λ d. IsKept d q) (sym same.content) (record { there = kept.there; given = kept.given })

release_keeps : (old : Database) (spi : ℕ) (new : Database) (q : ℕ) → q ≢ spi → Releases old spi new → IsKept old q → IsKept new q
release_keeps old spi new q apart is kept = subst (λ d. IsKept d q) (sym is.content) (record { there = still_there old.reserved spi q apart kept.there; given = kept.given })

install_keeps : (old : Database) (spi : ℕ) (pair : Pair) (serial : ℕ) (new : Database) (q : ℕ) → q ≢ spi → Installs old spi pair serial new → IsKept old q → IsKept new q
install_keeps old spi pair serial new q apart is kept = subst (λ d. IsKept d q) (sym is.content) (record { there = still_there old.reserved spi q apart kept.there; given = kept.given })

reserve_keeps : (old : Database) (spi : ℕ) (new : Database) (q : ℕ) → Reserves old spi new → IsKept old q → IsKept new q
reserve_keeps old spi new q is kept = subst (λ d. IsKept d q) (sym is.content) (record { there = still_in old.reserved spi q kept.there; given = omega (arith, kept.given) })

next_keeps : (old : Database) (pair : Pair) (serial : ℕ) (new : Database) (q : ℕ) → AddsNext old pair serial new → IsKept old q → IsKept new q
next_keeps old pair serial new q is kept =
    install_keeps is.between is.spi pair serial new q (λ same. omega (arith, kept.given, is.reserved.in_order, same)) is.installed (reserve_keeps old is.spi is.between q is.reserved kept)

removal_keeps : (old : Database) (ike : ℕ) (new : Database) (q : ℕ) → RemovesAllOf old ike new → IsKept old q → IsKept new q
removal_keeps old ike new q is kept = subst (λ d. IsKept d q) (sym is.content) (record { there = kept.there; given = kept.given })

other_spi : (spi q : ℕ) → Some spi ≢ Some q → q ≢ spi
other_spi spi q apart = λ same. apart (ap Some (sym same))

pub child_keeps : (old : Database) (spi : Option ℕ) (pair : Option Pair) (child : Option ℕ) (new : Database) (q : ℕ) → spi ≢ Some q → AddsChild old spi pair child new → IsKept old q → IsKept new q
child_keeps old None None None new q apart is kept = subst (λ d. IsKept d q) (sym is) kept
child_keeps old None (Some pair) (Some serial) new q apart is kept = next_keeps old pair serial new q is kept
child_keeps old (Some spi) None None new q apart is kept = release_keeps old spi new q (other_spi spi q apart) is kept
child_keeps old (Some spi) (Some pair) (Some serial) new q apart is kept = install_keeps old spi pair serial new q (other_spi spi q apart) is kept
child_keeps old None None (Some serial) new q apart is kept = absurd is
child_keeps old None (Some pair) None new q apart is kept = absurd is
child_keeps old (Some spi) None (Some serial) new q apart is kept = absurd is
child_keeps old (Some spi) (Some pair) None new q apart is kept = absurd is

-- ---- what a message does

-- an SPI is another one than what the phase holds, and so than what it gives back
pub established_apart : (p : Phase) (q : ℕ) → spi_in p ≢ Some q → established_spi p ≢ Some q
established_apart (phase.InitSent sent) q apart = λ same. cc
established_apart (phase.AuthSent sent) q apart = apart
established_apart (phase.HalfOpen held) q apart = λ same. cc
established_apart (phase.Established keys) q apart = λ same. cc
established_apart (phase.Closed keys at) q apart = λ same. cc

over_keeps : (old : Association) (table : Database) (moment : ℕ) (new : Association) (new_table : Database) (q : ℕ)
    → ¬ HoldsSpi old q → Closes old table moment new new_table → IsKept table q → IsKept new_table q
over_keeps old table moment new new_table q apart is kept =
    removal_keeps is.between old.serial new_table q is.removed
    (subst (λ d. IsKept d q) (sym is.released.content) (record { there = (is.released.reserved q).1 (kept.there, apart); given = kept.given }))

conclusion_keeps : (setup : Setup) (old : Association) (table : Database) (o : Outcome) (came : Fate) (new : Association) (new_table : Database) (q : ℕ)
    → ¬ HoldsSpi old q → ConcludesBy setup old table o came new new_table → IsKept table q → IsKept new_table q
conclusion_keeps setup old table outcome.Closes came new new_table q apart is kept = over_keeps old table setup.moment new new_table q apart is.over kept
conclusion_keeps setup old table (outcome.Establishes pair window) came new new_table q apart is kept =
    child_keeps table (established_spi old.phase) pair (made_by came) new_table q (established_apart old.phase q (λ its. apart (inl its))) is.added kept

closed_if_keeps : (ending : Bool) (serials : List ℕ) (old : Association) (table : Database) (moment : ℕ) (new : Association) (new_table : Database) (q : ℕ)
    → ¬ HoldsSpi old q → ClosesIf ending serials old table moment new new_table → IsKept table q → IsKept new_table q
closed_if_keeps true serials old table moment new new_table q apart is kept = over_keeps old table moment new new_table q apart is kept
closed_if_keeps false serials old table moment new new_table q apart is kept = subst (λ d. IsKept d q) (sym is.1.removed.content) (record { there = kept.there; given = kept.given })

given_up_keeps : (spi : Option ℕ) (old new : Database) (q : ℕ) → spi ≢ Some q → GivesUpSpi spi old new → IsKept old q → IsKept new q
given_up_keeps None old new q apart is kept = subst (λ d. IsKept d q) (sym is) kept
given_up_keeps (Some spi) old new q apart is kept = release_keeps old spi new q (other_spi spi q apart) is kept

further_if_keeps : (closing : Bool) (spi : Option ℕ) (pair : Option Pair) (a : Association) (table : Database) (moment : ℕ) (child : Option ℕ) (new : Association) (new_table : Database) (q : ℕ)
    → ¬ HoldsSpi a q → spi ≢ Some q → FurtherIf closing spi pair a table moment child new new_table → IsKept table q → IsKept new_table q
further_if_keeps true spi pair a table moment child new new_table q apart other is kept =
    over_keeps a is.between moment new new_table q apart is.over (given_up_keeps spi table is.between q other is.given_up kept)
further_if_keeps false spi pair a table moment child new new_table q apart other is kept = child_keeps table spi pair child new_table q other is.added kept

further_counted_keeps : HeldFacts → (meaning : Meaning) (setup : Setup) (old : Association) (table : Database) (octets : Octets) (m : Message) (e : Ended) (new : Association) (new_table : Database) (q : ℕ)
    → ¬ HoldsSpi old q → CountedFurther meaning setup old table octets m e new new_table → IsKept table q → IsKept new_table q
further_counted_keeps facts meaning setup old table octets m e new new_table q apart is kept =
    let d = is.done in
    let counted : Association = record old { outgoing = d.outgoing } in
    further_if_keeps (is_closing_conclusion d.conclusion) (Some d.further.child.spi) (pair_made d.conclusion) counted table setup.moment (made_by e.fate) new new_table q
    (λ held. apart (counted_before facts old d.outgoing d.request m.header.id q d.counted held))
    (λ same. apart (inr (record { number = m.header.id; awaits = record { request = d.request; outstanding = d.counted.there; reserved = ap spi_asked d.asked ∙ same } })))
    (counted_further d.conclusion d.further.child.spi counted table setup.moment e.fate new new_table d.ends) kept

answer_keeps : (prover : Prover) (setup : Setup) (old : Association) (table : Database) (number : ℕ) (plain : Plain) (a : Answered) (new : Association) (new_table : Database) (q : ℕ)
    → ¬ HoldsSpi old q → AnswersAuth prover setup old table number plain a new new_table → IsKept table q → IsKept new_table q
answer_keeps prover setup old table number plain a new new_table q apart is kept =
    conclusion_keeps setup (record old { incoming = is.incoming }) is.between (outcome_of is.decision) a.fate new new_table q apart is.concluded (room_keeps table is.between q is.room kept)

end_keeps : HeldFacts → (accepts : Accepts) (setup : Setup) (old : Association) (table : Database) (number : ℕ) (plain : Plain) (e : Ended) (new : Association) (new_table : Database) (q : ℕ)
    → ¬ HoldsSpi old q → EndsAuth accepts setup old table number plain e new new_table → IsKept table q → IsKept new_table q
end_keeps facts accepts setup old table number plain e new new_table q apart is kept =
    conclusion_keeps setup (record old { outgoing = is.outgoing }) table is.verdict e.fate new new_table q (λ held. apart (counted_before facts old is.outgoing is.request number q is.counted held)) is.concluded kept

unchanged_keeps : (table new_table : Database) (q : ℕ) → new_table ≡ table → IsKept table q → IsKept new_table q
unchanged_keeps table new_table q same kept = subst (λ d. IsKept d q) (sym same) kept

way_keeps : HeldFacts → (meaning : Meaning) (setup : Setup) (old : Association) (table : Database) (octets : Octets) (m : Message) (e : Effect) (new : Association) (new_table : Database) (q : ℕ)
    → ¬ HoldsSpi old q → Way meaning setup old table octets m e new new_table → IsKept table q → IsKept new_table q
way_keeps facts meaning setup old table octets m (effect.Refused fault) new new_table q apart is kept = unchanged_keeps table new_table q is.pairs kept
way_keeps facts meaning setup old table octets m (effect.Repeated reply) new new_table q apart is kept = unchanged_keeps table new_table q is.same.pairs kept
way_keeps facts meaning setup old table octets m (effect.Replied answered) new new_table q apart (inl is) kept =
    answer_keeps (prover_of meaning) setup old table m.header.id is.plain answered new new_table q apart is.done kept
way_keeps facts meaning setup old table octets m (effect.Replied answered) new new_table q apart (inr (inr is)) kept =
    let d = is.done in
    let taken : Association = record old { incoming = d.incoming } in
    further_if_keeps (is_closing_decision d.decision) None (further_pair d.decision) taken d.between setup.moment (made_by answered.fate) new new_table q apart (λ same. cc)
    (answered_further (is_closing_decision d.decision) (further_pair d.decision) taken d.between setup.moment answered.fate new new_table d.concluded) (room_keeps table d.between q d.room kept)
way_keeps facts meaning setup old table octets m (effect.Replied answered) new new_table q apart (inr (inl is)) kept =
    closed_if_keeps (is_closing_verdict (verdict_on table.pairs old.serial is.done.payloads)) (gone_by (verdict_on table.pairs old.serial is.done.payloads)) (record old { incoming = is.done.incoming }) table setup.moment new new_table q apart is.done.concluded kept
way_keeps facts meaning setup old table octets m (effect.Again next) new new_table q apart is kept = unchanged_keeps table new_table q is.pairs kept
way_keeps facts meaning setup old table octets m (effect.AsksAuth next) new new_table q apart is kept = unchanged_keeps table new_table q is.pairs kept
way_keeps facts meaning setup old table octets m (effect.Counted ended) new new_table q apart (inl is) kept =
    end_keeps facts meaning.accepts setup old table m.header.id is.plain ended new new_table q apart is.done kept
way_keeps facts meaning setup old table octets m (effect.Counted ended) new new_table q apart (inr (inr is)) kept =
    further_counted_keeps facts meaning setup old table octets m ended new new_table q apart is kept
way_keeps facts meaning setup old table octets m (effect.Counted ended) new new_table q apart (inr (inl is)) kept =
    closed_if_keeps (is_ended is.done.payloads is.done.request.purpose) (gone_with table.pairs old.serial is.done.request.purpose) (record old { outgoing = is.done.outgoing }) table setup.moment new new_table q (λ held. apart (counted_before facts old is.done.outgoing is.done.request m.header.id q is.done.counted held)) is.done.concluded kept

pub others_keep : HeldFacts → (meaning : Meaning) (setup : Setup) (old : Association) (table : Database) (octets : Octets) (m : Message) (e : Effect) (new : Association) (new_table : Database) (q : ℕ)
    → ¬ HoldsSpi old q → IsReserved table q → q < table.start + table.given → TakesMessage meaning setup old table octets m e new new_table → IsReserved new_table q
others_keep facts meaning setup old table octets m e new new_table q apart there given is =
    (way_keeps facts meaning setup old table octets m e new new_table q apart (way_of meaning setup old table octets m e new new_table is) (record { there = there; given = given })).there
