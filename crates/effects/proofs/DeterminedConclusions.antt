-- What becomes of an IKE SA and of the table when an exchange is done is determined, but for spare capacity.
use Rattle.std.proofs.Common.{◌≡◌, ℕ, Bool, true, false, Option, Some, None, refl, sym, ap, subst, ◌∙◌, List}
use Rattle.sadb.specs.Contents.{table_content}
use Rattle.sadb.specs.Database.{Database}
use Rattle.sadb.specs.declared.pair.Pair.{Pair}
use Rattle.association.specs.Closing.{GivesUpSpi}
use Rattle.association.specs.Contents.{association_content}
use Rattle.association.specs.Phases.{established_spi}
use Rattle.association.specs.declared.phase.Association.{Association}
use Rattle.initial.specs.Concluding.{established, widened, AddsChild, ConcludesBy}
use Rattle.setup.specs.Configs.{Setup}
use Rattle.initial.specs.declared.concluding.Outcome.{Outcome}
use Rattle.initial.specs.declared.concluding.Outcome.TheVariants as outcome
use Rattle.informational.specs.Orders.{ClosesIf}
use Rattle.effects.proofs.DeterminedLaws.{TableLaws}
use Rattle.effects.proofs.WayLemmas.{FurtherIf}
use Rattle.association.specs.Outcomes.{made_by}
use Rattle.association.specs.declared.outcome.Fate.{Fate}

-- the Child SA and the table
pub record SameChild (child other : Option ℕ) (a b : Database) : Type 0 where
  pub child_is : child ≡ other
  pub table : table_content a ≡ table_content b

one_added : TableLaws → (spi : Option ℕ) (pair : Option Pair) (child number : Option ℕ) (old other a b : Database) → table_content old ≡ table_content other
    → AddsChild old spi pair child a → AddsChild other spi pair number b → SameChild child number a b
one_added laws None None None None old other a b same is also = record { child_is = refl; table = ap table_content is ∙ same ∙ sym (ap table_content also) }
one_added laws None None None (Some n) old other a b same is also = absurd also
one_added laws None None (Some m) number old other a b same is also = absurd is
one_added laws None (Some pair) None number old other a b same is also = absurd is
one_added laws None (Some pair) (Some m) None old other a b same is also = absurd also
one_added laws None (Some pair) (Some m) (Some n) old other a b same is also =
    let both = laws.added old other a b pair m n same is also in
    record { child_is = ap Some both.0; table = both.1 }
one_added laws (Some spi) None None None old other a b same is also = record { child_is = refl; table = laws.released old other a b spi same is also }
one_added laws (Some spi) None None (Some n) old other a b same is also = absurd also
one_added laws (Some spi) None (Some m) number old other a b same is also = absurd is
one_added laws (Some spi) (Some pair) None number old other a b same is also = absurd is
one_added laws (Some spi) (Some pair) (Some m) None old other a b same is also = absurd also
one_added laws (Some spi) (Some pair) (Some m) (Some n) old other a b same is also =
    let both = laws.installed old other a b spi spi pair m n same is also in
    record { child_is = ap Some both.0; table = both.1 }

pub record SameConclusion (child other : Option ℕ) (a b : Association) (a_table b_table : Database) : Type 0 where
  pub child_is : child ≡ other
  pub association : association_content a ≡ association_content b
  pub table : table_content a_table ≡ table_content b_table

pub one_conclusion : TableLaws → (setup : Setup) (o : Outcome) (came other_came : Fate) (old other a b : Association) (table another a_table b_table : Database)
    → association_content old ≡ association_content other → table_content table ≡ table_content another
    → ConcludesBy setup old table o came a a_table → ConcludesBy setup other another o other_came b b_table → SameConclusion (made_by came) (made_by other_came) a b a_table b_table
one_conclusion laws setup outcome.Closes came other_came old other a b table another a_table b_table same alike is also =
    let over = laws.ended old other a b table another a_table b_table setup.moment same alike is.over also.over in
    record { child_is = ap made_by is.closed ∙ sym (ap made_by also.closed); association = over.0; table = over.1 }
one_conclusion laws setup (outcome.Establishes pair window) came other_came old other a b table another a_table b_table same alike is also =
    let spis : established_spi other.phase ≡ established_spi old.phase = sym (ap (λ (x : Association). established_spi x.phase) same) in
    let moved : AddsChild another (established_spi old.phase) pair (made_by other_came) b_table = subst (λ (spi : Option ℕ). AddsChild another spi pair (made_by other_came) b_table) spis also.added in
    let added = one_added laws (established_spi old.phase) pair (made_by came) (made_by other_came) table another a_table b_table alike is.added moved in
    record {
      child_is = added.child_is;
      association =
          ap association_content is.content
          ∙ ap (λ (x : Association). widened setup.config.window window (established x)) same
          ∙ sym (ap association_content also.content);
      table = added.table;
    }

-- an end after an exchange of INFORMATIONAL, or none
pub one_closing : TableLaws → (ending : Bool) (serials : List ℕ) (moment : ℕ) (old other a b : Association) (table another a_table b_table : Database)
    → association_content old ≡ association_content other → table_content table ≡ table_content another
    → ClosesIf ending serials old table moment a a_table → ClosesIf ending serials other another moment b b_table
    → (association_content a ≡ association_content b) × (table_content a_table ≡ table_content b_table)
one_closing laws true serials moment old other a b table another a_table b_table same alike is also = laws.ended old other a b table another a_table b_table moment same alike is also
one_closing laws false serials moment old other a b table another a_table b_table same alike is also = (
  ap association_content is.0 ∙ same ∙ sym (ap association_content also.0),
  laws.gone table another a_table b_table serials alike is.1.removed also.1.removed,
)

given_up_alike : TableLaws → (spi : Option ℕ) (old other a b : Database) → table_content old ≡ table_content other → GivesUpSpi spi old a → GivesUpSpi spi other b → table_content a ≡ table_content b
given_up_alike laws None old other a b same is also = ap table_content is ∙ same ∙ sym (ap table_content also)
given_up_alike laws (Some spi) old other a b same is also = laws.released old other a b spi same is also

-- an end after an exchange of CREATE_CHILD_SA, or a Child SA, or neither
pub one_further_end : TableLaws → (closing : Bool) (spi : Option ℕ) (pair : Option Pair) (moment : ℕ) (child number : Option ℕ) (old other a b : Association) (table another a_table b_table : Database)
    → association_content old ≡ association_content other → table_content table ≡ table_content another
    → FurtherIf closing spi pair old table moment child a a_table → FurtherIf closing spi pair other another moment number b b_table → SameConclusion child number a b a_table b_table
one_further_end laws true spi pair moment child number old other a b table another a_table b_table same alike is also =
    let over = laws.ended old other a b is.between also.between a_table b_table moment same (given_up_alike laws spi table another is.between also.between alike is.given_up also.given_up) is.over also.over in
    record { child_is = is.none ∙ sym also.none; association = over.0; table = over.1 }
one_further_end laws false spi pair moment child number old other a b table another a_table b_table same alike is also =
    let added = one_added laws spi pair child number table another a_table b_table alike is.added also.added in
    record { child_is = added.child_is; association = ap association_content is.same ∙ same ∙ sym (ap association_content also.same); table = added.table }
