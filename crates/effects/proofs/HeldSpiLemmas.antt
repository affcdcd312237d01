-- The SPIs that an IKE SA holds stay reserved, or are held no more.
use Rattle.std.specs.FinMap as map
use Rattle.std.specs.Ordering.{nat_cmp}
use Rattle.std.proofs.lemmas.Option.{none-some}
use Rattle.std.proofs.Common.{◌≡◌, ◌≢◌, inl, inr, ℕ, Bool, true, false, Option, Some, None, ap, refl, subst, sym, ◌∙◌, List}
use Rattle.base.specs.Octets.{Octets}
use Rattle.wire.specs.declared.message.Message.{Message}
use Rattle.suite.specs.declared.keys.Keys.{Keys}
use Rattle.exchange.specs.declared.sealed.Plain.{Plain}
use Rattle.requests.specs.Outgoing.{number_0_answered}
use Rattle.sadb.specs.Database.{Database, IsReserved, IsSoundTable}
use Rattle.sadb.specs.declared.pair.Pair.{Pair}
use Rattle.association.specs.Closing.{HoldsReserved, HoldsSpi}
use Rattle.association.specs.Phases.{established_of, established_spi, spi_in}
use Rattle.association.specs.Purposes.{spi_asked, AwaitsChild}
use Rattle.association.specs.declared.purpose.Purpose.TheVariants.{Begin, Identify}
use Rattle.association.specs.Issuing.{new_request}
use Rattle.association.specs.declared.phase.Association.{Association}
use Rattle.auth.specs.Proofs.{Accepts}
use Rattle.initial.specs.Answering.{outcome_of, AnswersAuth, Prover}
use Rattle.initial.specs.Concluding.{ConcludesBy}
use Rattle.setup.specs.Configs.{Setup}
use Rattle.initial.specs.Ending.{EndsAuth}
use Rattle.deletions.specs.Deciding.{is_closing_verdict, verdict_on}
use Rattle.informational.specs.Answering.{gone_by, AnswersInformational}
use Rattle.informational.specs.Counting.{gone_with, is_ended}
use Rattle.informational.specs.Orders.{ClosesIf}
use Rattle.further.specs.Answering.{further_pair}
use Rattle.further.specs.Deciding.{is_closing_decision}
use Rattle.create_child.specs.Counting.{is_closing_conclusion}
use Rattle.effects.specs.Taking.{prover_of, IsPassedOver, Meaning, TakesMessage}
use Rattle.association.specs.declared.outcome.Answered.{Answered}
use Rattle.initial.specs.declared.concluding.Outcome.{Outcome}
use Rattle.initial.specs.declared.concluding.Outcome.TheVariants as outcome
use Rattle.association.specs.declared.outcome.Ended.{Ended}
use Rattle.effects.specs.declared.taking.Effect.{Effect}
use Rattle.effects.specs.declared.taking.Effect.TheVariants as effect
use Rattle.effects.proofs.OtherLemmas.{child_keeps, established_apart, room_keeps, IsKept}
use Rattle.effects.proofs.WayLemmas.{answered_further, answered_later, counted_further, counted_later, pair_made, way_of, AnsweredFurther, CountedFurther, CountedInformational, FurtherIf, WasAsked, WasIdentified, Way}
use Rattle.effects.proofs.HeldFacts.{GivenBack, HeldFacts}
use Rattle.association.specs.Outcomes.{closed_by, made_by}
use Rattle.association.specs.declared.outcome.Fate.{Fate}

abbrev pub held_by : Association → Option ℕ
held_by a = spi_in a.phase

concluded_none : (setup : Setup) (old : Association) (table : Database) (o : Outcome) (came : Fate) (new : Association) (new_table : Database)
    → spi_in (established_of old.phase) ≡ None → ConcludesBy setup old table o came new new_table → held_by new ≡ None
concluded_none setup old table outcome.Closes came new new_table none c = ap held_by c.over.content
concluded_none setup old table (outcome.Establishes pair window) came new new_table none c = ap held_by c.content ∙ none

answered_none : (prover : Prover) (setup : Setup) (old : Association) (table : Database) (number : ℕ) (plain : Plain) (a : Answered) (new : Association) (new_table : Database)
    → AnswersAuth prover setup old table number plain a new new_table → held_by new ≡ None
answered_none prover setup old table number plain a new new_table is =
    concluded_none setup (record old { incoming = is.incoming }) is.between (outcome_of is.decision) a.fate new new_table (ap (λ p. spi_in (established_of p)) is.was) is.concluded

ended_none : (accepts : Accepts) (setup : Setup) (old : Association) (table : Database) (number : ℕ) (plain : Plain) (e : Ended) (new : Association) (new_table : Database)
    → EndsAuth accepts setup old table number plain e new new_table → held_by new ≡ None
ended_none accepts setup old table number plain e new new_table is =
    concluded_none setup (record old { outgoing = is.outgoing }) table is.verdict e.fate new new_table (ap (λ p. spi_in (established_of p)) is.was) is.concluded

none_at_first : (number spi : ℕ) → AwaitsChild number_0_answered number spi → ⊥
none_at_first number spi awaits = none-some awaits.request (sym (map.get-empty nat_cmp number) ∙ awaits.outstanding)

closed_if_none : (ending : Bool) (serials : List ℕ) (a : Association) (table : Database) (moment : ℕ) (new : Association) (new_table : Database) → held_by a ≡ None → ClosesIf ending serials a table moment new new_table → held_by new ≡ None
closed_if_none true serials a table moment new new_table none is = ap held_by is.content
closed_if_none false serials a table moment new new_table none is = ap held_by is.0 ∙ none

-- no SPI of the first Child SA comes
abbrev pub KeepsFirst : Association → Association → Type 0
KeepsFirst old new = (spi : ℕ) → spi_in new.phase ≡ Some spi → spi_in old.phase ≡ Some spi

first_none : (old new : Association) → held_by new ≡ None → KeepsFirst old new
first_none old new none spi its = absurd (none-some spi (sym none ∙ its))

-- no additional Child SA comes to be awaited
abbrev pub KeepsAwaited : Association → Association → Type 0
KeepsAwaited old new = (number spi : ℕ) → AwaitsChild new.outgoing number spi → AwaitsChild old.outgoing number spi

awaited_by : (old new : Association) → ((number : ℕ) → map.get new.outgoing.outstanding number ≡ map.get old.outgoing.outstanding number) → KeepsAwaited old new
awaited_by old new same number spi awaits = record { request = awaits.request; outstanding = sym (same number) ∙ awaits.outstanding; reserved = awaits.reserved }

concluded_awaited : HeldFacts → (setup : Setup) (a : Association) (table : Database) (o : Outcome) (came : Fate) (new : Association) (new_table : Database) → ConcludesBy setup a table o came new new_table → KeepsAwaited a new
concluded_awaited facts setup a table outcome.Closes came new new_table c number spi awaits = absurd (facts.closed a table setup.moment new new_table spi c.over (inr (record { number = number; awaits = awaits })))
concluded_awaited facts setup a table (outcome.Establishes pair window) came new new_table c number spi awaits =
    awaited_by a new (λ n. ap (λ (x : Association). map.get x.outgoing.outstanding n) c.content) number spi awaits

closed_if_awaited : HeldFacts → (ending : Bool) (serials : List ℕ) (a : Association) (table : Database) (moment : ℕ) (new : Association) (new_table : Database) → ClosesIf ending serials a table moment new new_table → KeepsAwaited a new
closed_if_awaited facts true serials a table moment new new_table is number spi awaits = absurd (facts.closed a table moment new new_table spi is (inr (record { number = number; awaits = awaits })))
closed_if_awaited facts false serials a table moment new new_table is number spi awaits = awaited_by a new (λ n. ap (λ (x : Association). map.get x.outgoing.outstanding n) is.0) number spi awaits

-- what is held then stays reserved
abbrev pub KeepsReserved : Association → Database → Association → Database → Type 0
KeepsReserved old table new new_table = HoldsReserved old table → IsSoundTable table → (spi : ℕ) → HoldsSpi new spi → IsReserved table spi → IsReserved new_table spi

kept_same : (old : Association) (table : Database) (new : Association) (new_table : Database) → new_table ≡ table → KeepsReserved old table new new_table
kept_same old table new new_table same holds sound spi held there = subst (λ (d : Database). IsReserved d spi) (sym same) there

-- what is held without a first Child SA is no first child's
apart_from_first : (old : Association) (table : Database) (new : Association) (spi : ℕ) → held_by new ≡ None → KeepsAwaited old new → HoldsReserved old table → HoldsSpi new spi → spi_in old.phase ≢ Some spi
apart_from_first old table new spi none awaited holds (inl its) e = none-some spi (sym none ∙ its)
apart_from_first old table new spi none awaited holds (inr awaits) e = holds.first spi e (record { number = awaits.number; awaits = awaited awaits.number spi awaits.awaits })

concluded_reserved : HeldFacts → (setup : Setup) (a : Association) (table : Database) (o : Outcome) (came : Fate) (new : Association) (new_table : Database) (spi : ℕ)
    → ConcludesBy setup a table o came new new_table → HoldsSpi new spi → spi_in a.phase ≢ Some spi → IsKept table spi → IsReserved new_table spi
concluded_reserved facts setup a table outcome.Closes came new new_table spi c held apart kept = absurd (facts.closed a table setup.moment new new_table spi c.over held)
concluded_reserved facts setup a table (outcome.Establishes pair window) came new new_table spi c held apart kept =
    (child_keeps table (established_spi a.phase) pair (made_by came) new_table spi (established_apart a.phase spi apart) c.added kept).there

closed_if_reserved : HeldFacts → (ending : Bool) (serials : List ℕ) (old a : Association) (table : Database) (moment : ℕ) (new : Association) (new_table : Database)
    → ClosesIf ending serials a table moment new new_table → KeepsReserved old table new new_table
closed_if_reserved facts true serials old a table moment new new_table is holds sound spi held there = absurd (facts.closed a table moment new new_table spi is held)
closed_if_reserved facts false serials old a table moment new new_table is holds sound spi held there = subst (λ (d : Database). IsReserved d spi) (sym is.1.removed.content) there

was_kept : (table : Database) (spi : ℕ) → IsSoundTable table → IsReserved table spi → IsKept table spi
was_kept table spi sound there = record { there = there; given = (sound.reserved_given spi there).before_next }

-- ---- what a message leaves of the SPIs that its IKE SA holds

record LeavesSpis (old : Association) (table : Database) (new : Association) (new_table : Database) : Type 0 where
  first : KeepsFirst old new
  awaited : KeepsAwaited old new
  reserved : GivenBack → KeepsReserved old table new new_table

all_spis : (old new : Association) (table new_table : Database) → IsPassedOver old table new new_table → LeavesSpis old table new new_table
all_spis old new table new_table same = record {
  first = λ spi its. sym (ap held_by same.association) ∙ its;
  awaited = awaited_by old new (λ number. ap (λ (x : Association). map.get x.outgoing.outstanding number) same.association);
  reserved = λ given. kept_same old table new new_table same.pairs;
}

answered_spis : HeldFacts → (prover : Prover) (setup : Setup) (old : Association) (table : Database) (number : ℕ) (plain : Plain) (a : Answered) (new : Association) (new_table : Database)
    → AnswersAuth prover setup old table number plain a new new_table → LeavesSpis old table new new_table
answered_spis facts prover setup old table number plain a new new_table is =
    let taken : Association = record old { incoming = is.incoming } in
    record {
      first = first_none old new (answered_none prover setup old table number plain a new new_table is);
      awaited = concluded_awaited facts setup taken is.between (outcome_of is.decision) a.fate new new_table is.concluded;
      reserved = λ given holds sound spi held there. concluded_reserved facts setup taken is.between (outcome_of is.decision) a.fate new new_table spi is.concluded held
          (λ e. none-some spi (sym (ap spi_in is.was) ∙ e)) (room_keeps table is.between spi is.room (was_kept table spi sound there));
    }

ended_spis : HeldFacts → (accepts : Accepts) (setup : Setup) (old : Association) (table : Database) (number : ℕ) (plain : Plain) (e : Ended) (new : Association) (new_table : Database)
    → EndsAuth accepts setup old table number plain e new new_table → LeavesSpis old table new new_table
ended_spis facts accepts setup old table number plain e new new_table is =
    let counted : Association = record old { outgoing = is.outgoing } in
    let none : held_by new ≡ None = ended_none accepts setup old table number plain e new new_table is in
    let awaited : KeepsAwaited old new = λ n spi awaits. facts.counting old.outgoing is.outgoing is.request number n spi is.counted
    (concluded_awaited facts setup counted table is.verdict e.fate new new_table is.concluded n spi awaits) in
    record {
      first = first_none old new none;
      awaited = awaited;
      reserved = λ given holds sound spi held there. concluded_reserved facts setup counted table is.verdict e.fate new new_table spi is.concluded held
          (apart_from_first old table new spi none awaited holds held) (was_kept table spi sound there);
    }

informed_spis : HeldFacts → (body_of : Keys → Octets → Octets → Octets → Octets) (setup : Setup) (old : Association) (table : Database) (number : ℕ) (plain : Plain) (a : Answered) (new : Association) (new_table : Database)
    → AnswersInformational body_of setup old table number plain a new new_table → LeavesSpis old table new new_table
informed_spis facts body_of setup old table number plain a new new_table is =
    let ending = is_closing_verdict (verdict_on table.pairs old.serial is.payloads) in
    let serials = gone_by (verdict_on table.pairs old.serial is.payloads) in
    let taken : Association = record old { incoming = is.incoming } in
    record {
      first = first_none old new (closed_if_none ending serials taken table setup.moment new new_table (ap spi_in is.established) is.concluded);
      awaited = closed_if_awaited facts ending serials taken table setup.moment new new_table is.concluded;
      reserved = λ given. closed_if_reserved facts ending serials old taken table setup.moment new new_table is.concluded;
    }

counted_spis : HeldFacts → (setup : Setup) (old : Association) (table : Database) (m : Message) (e : Ended) (new : Association) (new_table : Database)
    → CountedInformational setup old table m e new new_table → LeavesSpis old table new new_table
counted_spis facts setup old table m e new new_table is =
    let ending = is_ended is.done.payloads is.done.request.purpose in
    let serials = gone_with table.pairs old.serial is.done.request.purpose in
    let counted : Association = record old { outgoing = is.done.outgoing } in
    record {
      first = first_none old new (closed_if_none ending serials counted table setup.moment new new_table (ap spi_in is.was) is.done.concluded);
      awaited = λ n spi awaits. facts.counting old.outgoing is.done.outgoing is.done.request m.header.id n spi is.done.counted
          (closed_if_awaited facts ending serials counted table setup.moment new new_table is.done.concluded n spi awaits);
      reserved = λ given. closed_if_reserved facts ending serials old counted table setup.moment new new_table is.done.concluded;
    }

further_if_reserved : HeldFacts → (closing : Bool) (spi : Option ℕ) (pair : Option Pair) (a : Association) (table : Database) (moment : ℕ) (child : Option ℕ) (new : Association) (new_table : Database) (q : ℕ)
    → FurtherIf closing spi pair a table moment child new new_table → HoldsSpi new q → (HoldsSpi a q → spi ≢ Some q) → IsKept table q → IsReserved new_table q
further_if_reserved facts true spi pair a table moment child new new_table q is held apart kept = absurd (facts.closed a is.between moment new new_table q is.over held)
further_if_reserved facts false spi pair a table moment child new new_table q is held apart kept =
    (child_keeps table spi pair child new_table q (apart (subst (λ (x : Association). HoldsSpi x q) is.same held)) is.added kept).there

further_answered_spis : HeldFacts → (meaning : Meaning) (setup : Setup) (old : Association) (table : Database) (octets : Octets) (m : Message) (a : Answered) (new : Association) (new_table : Database)
    → AnsweredFurther meaning setup old table octets m a new new_table → LeavesSpis old table new new_table
further_answered_spis facts meaning setup old table octets m a new new_table is =
    let d = is.done in
    let later = answered_later meaning setup old table octets m a new new_table (inr is) in
    let taken : Association = record old { incoming = later.incoming } in
    record {
      first = first_none old new (closed_if_none (closed_by a.fate) later.ends.serials taken later.ends.before setup.moment new later.ends.after (ap spi_in later.was) later.ends.is);
      awaited = closed_if_awaited facts (closed_by a.fate) later.ends.serials taken later.ends.before setup.moment new later.ends.after later.ends.is;
      reserved = λ given holds sound q held there.
          further_if_reserved facts (is_closing_decision d.decision) None (further_pair d.decision) (record old { incoming = d.incoming }) d.between setup.moment (made_by a.fate) new new_table q
          (answered_further (is_closing_decision d.decision) (further_pair d.decision) (record old { incoming = d.incoming }) d.between setup.moment a.fate new new_table d.concluded)
          held (λ own e. none-some q e) (room_keeps table d.between q d.room (was_kept table q sound there));
    }

further_counted_spis : HeldFacts → (meaning : Meaning) (setup : Setup) (old : Association) (table : Database) (octets : Octets) (m : Message) (e : Ended) (new : Association) (new_table : Database)
    → CountedFurther meaning setup old table octets m e new new_table → LeavesSpis old table new new_table
further_counted_spis facts meaning setup old table octets m e new new_table is =
    let d = is.done in
    let later = counted_later meaning setup old table octets m e new new_table (inr is) in
    let counted : Association = record old { outgoing = later.outgoing } in
    record {
      first = first_none old new (closed_if_none (closed_by e.fate) later.ends.serials counted later.ends.before setup.moment new later.ends.after (ap spi_in later.was) later.ends.is);
      awaited = λ n spi awaits. facts.counting old.outgoing later.outgoing later.request m.header.id n spi later.counted
          (closed_if_awaited facts (closed_by e.fate) later.ends.serials counted later.ends.before setup.moment new later.ends.after later.ends.is n spi awaits);
      reserved = λ given holds sound q held there.
          further_if_reserved facts (is_closing_conclusion d.conclusion) (Some d.further.child.spi) (pair_made d.conclusion) (record old { outgoing = d.outgoing }) table setup.moment (made_by e.fate) new new_table q
          (counted_further d.conclusion d.further.child.spi (record old { outgoing = d.outgoing }) table setup.moment e.fate new new_table d.ends)
          held (λ own same. given old table m.header.id d.request d.outgoing q holds d.counted (ap spi_asked d.asked ∙ same) own) (was_kept table q sound there);
    }

asked_spis : HeldFacts → (meaning : Meaning) (setup : Setup) (old : Association) (table : Database) (m : Message) (next : Octets) (new : Association) (new_table : Database)
    → WasAsked meaning setup old table m next new new_table → LeavesSpis old table new new_table
asked_spis facts meaning setup old table m next new new_table is = record {
  first = λ spi its. ap spi_in is.was ∙ sym (ap held_by is.done.content) ∙ its;
  awaited = λ n spi awaits. facts.replacing old.outgoing new.outgoing is.done.was (new_request next Begin setup.moment) m.header.id n spi refl is.done.replaced awaits;
  reserved = λ given. kept_same old table new new_table is.pairs;
}

identified_spis : HeldFacts → (meaning : Meaning) (setup : Setup) (old : Association) (table : Database) (octets : Octets) (m : Message) (next : Octets) (new : Association) (new_table : Database)
    → WasIdentified meaning setup old table octets m next new new_table → LeavesSpis old table new new_table
identified_spis facts meaning setup old table octets m next new new_table is = record {
  first = λ spi its. ap spi_in is.was ∙ sym (ap held_by is.done.content) ∙ its;
  awaited = λ n spi awaits. absurd (none_at_first n spi
      (facts.preparing number_0_answered is.done.issued.ready n spi is.done.issued.prepared
      (facts.issuing is.done.issued.ready new.outgoing (new_request next Identify setup.moment) 1 n spi refl is.done.issued.issued awaits)));
  reserved = λ given. kept_same old table new new_table is.pairs;
}

way_spis : HeldFacts → (meaning : Meaning) (setup : Setup) (old : Association) (table : Database) (octets : Octets) (m : Message) (e : Effect) (new : Association) (new_table : Database)
    → Way meaning setup old table octets m e new new_table → LeavesSpis old table new new_table
way_spis facts meaning setup old table octets m (effect.Refused fault) new new_table is = all_spis old new table new_table is
way_spis facts meaning setup old table octets m (effect.Repeated reply) new new_table is = all_spis old new table new_table is.same
way_spis facts meaning setup old table octets m (effect.Replied answered) new new_table (inl is) = answered_spis facts (prover_of meaning) setup old table m.header.id is.plain answered new new_table is.done
way_spis facts meaning setup old table octets m (effect.Replied answered) new new_table (inr (inr is)) = further_answered_spis facts meaning setup old table octets m answered new new_table is
way_spis facts meaning setup old table octets m (effect.Replied answered) new new_table (inr (inl is)) = informed_spis facts meaning.body_of setup old table m.header.id is.plain answered new new_table is.done
way_spis facts meaning setup old table octets m (effect.Again next) new new_table is = asked_spis facts meaning setup old table m next new new_table is
way_spis facts meaning setup old table octets m (effect.AsksAuth next) new new_table is = identified_spis facts meaning setup old table octets m next new new_table is
way_spis facts meaning setup old table octets m (effect.Counted ended) new new_table (inl is) = ended_spis facts meaning.accepts setup old table m.header.id is.plain ended new new_table is.done
way_spis facts meaning setup old table octets m (effect.Counted ended) new new_table (inr (inr is)) = further_counted_spis facts meaning setup old table octets m ended new new_table is
way_spis facts meaning setup old table octets m (effect.Counted ended) new new_table (inr (inl is)) = counted_spis facts setup old table m ended new new_table is

leaves_spis : HeldFacts → (meaning : Meaning) (setup : Setup) (old : Association) (table : Database) (octets : Octets) (m : Message) (e : Effect) (new : Association) (new_table : Database)
    → TakesMessage meaning setup old table octets m e new new_table → LeavesSpis old table new new_table
leaves_spis facts meaning setup old table octets m e new new_table is = way_spis facts meaning setup old table octets m e new new_table (way_of meaning setup old table octets m e new new_table is)

pub spis_stay : HeldFacts → GivenBack → (meaning : Meaning) (setup : Setup) (old : Association) (table : Database) (octets : Octets) (m : Message) (e : Effect) (new : Association) (new_table : Database)
    → IsSoundTable table → HoldsReserved old table → TakesMessage meaning setup old table octets m e new new_table → HoldsReserved new new_table
spis_stay facts given meaning setup old table octets m e new new_table sound holds is =
    let left = leaves_spis facts meaning setup old table octets m e new new_table is in
    facts.fewer old new table new_table left.first left.awaited (left.reserved given holds sound) holds

some_held : (old new : Association) (spi : ℕ) → KeepsFirst old new → KeepsAwaited old new → HoldsSpi new spi → HoldsSpi old spi
some_held old new spi first awaited (inl its) = inl (first spi its)
some_held old new spi first awaited (inr awaits) = inr (record { number = awaits.number; awaits = awaited awaits.number spi awaits.awaits })

pub none_comes : HeldFacts → (meaning : Meaning) (setup : Setup) (old : Association) (table : Database) (octets : Octets) (m : Message) (e : Effect) (new : Association) (new_table : Database) (spi : ℕ)
    → HoldsSpi new spi → TakesMessage meaning setup old table octets m e new new_table → HoldsSpi old spi
none_comes facts meaning setup old table octets m e new new_table spi held is =
    let left = leaves_spis facts meaning setup old table octets m e new new_table is in
    some_held old new spi left.first left.awaited held
