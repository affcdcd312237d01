-- An SPI that an IKE SA gives up is reserved no more.
use Rattle.std.proofs.Common.{◌≡◌, ◌≢◌, ◌⊎◌, ◌<◌, ◌||◌, ◌&&◌, inl, inr, ℕ, Bool, true, false, cond, not, Option, Some, None, ap, arith, refl, subst, sym, ◌∙◌, List}
use Rattle.std.proofs.lemmas.Bool.Decides.{eqb_tells}
use Rattle.std.proofs.lemmas.Option.{none-some}
use Rattle.std.specs.Cmp.{nat_cmp_total, unsigned_tied}
use Rattle.std.specs.FinMap as map
use Rattle.std.specs.FinSet as set
use Rattle.std.specs.Ordering.{nat_cmp}
use Rattle.base.specs.Octets.{Octets}
use Rattle.wire.specs.declared.message.Message.{Message}
use Rattle.suite.specs.declared.keys.Keys.{Keys}
use Rattle.requests.specs.Outgoing.{CountsAnswer, OwnRequests}
use Rattle.sadb.specs.Database.{Database, Installs, IsAsBefore, IsReserved, Releases, RemovesAllOf, Reserves}
use Rattle.sadb.specs.declared.pair.Pair.{Pair}
use Rattle.association.specs.Closing.{Closes, GivesUpSpi, HoldsSpi}
use Rattle.association.specs.Phases.{established_spi, spi_in}
use Rattle.association.specs.Purposes.{asks_for_child, spi_asked, AwaitsSpi}
use Rattle.association.specs.declared.phase.Association.{Association}
use Rattle.association.specs.declared.phase.AuthSent.{AuthSent}
use Rattle.association.specs.declared.phase.InitSent.{InitSent}
use Rattle.association.specs.declared.phase.Phase.{Phase}
use Rattle.association.specs.declared.phase.Phase.TheVariants as phase
use Rattle.association.specs.declared.phase.Request.{Request}
use Rattle.association.specs.declared.purpose.Purpose.{Purpose}
use Rattle.association.specs.declared.purpose.Purpose.TheVariants as purpose
use Rattle.children.specs.Responding.{AddsNext}
use Rattle.initial.specs.Answering.{outcome_of}
use Rattle.initial.specs.Concluding.{AddsChild, ConcludesBy}
use Rattle.setup.specs.Configs.{Setup}
use Rattle.association.specs.Issuing.{new_request, IssuesNext}
use Rattle.association.specs.declared.outcome.Answered.{Answered}
use Rattle.initial.specs.declared.concluding.Outcome.{Outcome}
use Rattle.initial.specs.declared.concluding.Outcome.TheVariants as outcome
use Rattle.association.specs.declared.outcome.Ended.{Ended}
use Rattle.deletions.specs.Deciding.{is_closing_verdict, verdict_on}
use Rattle.informational.specs.Answering.{gone_by}
use Rattle.informational.specs.Counting.{gone_with, is_ended}
use Rattle.informational.specs.Orders.{ClosesIf}
use Rattle.further.specs.Answering.{further_pair}
use Rattle.further.specs.Deciding.{is_closing_decision}
use Rattle.create_child.specs.Counting.{is_closing_conclusion}
use Rattle.moments.specs.Due.{is_over}
use Rattle.effects.specs.Requests.{IsSoundlyHeld}
use Rattle.effects.specs.Sending.{SendsRequest}
use Rattle.effects.specs.Taking.{has_asked, IsPassedOver, Meaning, TakesMessage}
use Rattle.effects.specs.Waiting.{AreIssued, MayBeOutstanding, SuitPhase}
use Rattle.effects.specs.declared.taking.Effect.{Effect}
use Rattle.effects.specs.declared.taking.Effect.TheVariants as effect
use Rattle.effects.proofs.MapLemmas.{same_item}
use Rattle.effects.proofs.WayLemmas.{answered_further, counted_further, pair_made, way_of, AnsweredAuth, AnsweredFurther, AnsweredInformational, CountedAuth, CountedFurther, CountedInformational, FurtherIf, WasAsked, WasIdentified, Way}
use Rattle.association.specs.Outcomes.{made_by}
use Rattle.association.specs.declared.outcome.Fate.{Fate}

-- ---- sets

false_true : false ≡ true → ⊥
false_true e = cc

-- what is in a set without another item is not that item
left_in : (s : set.FinSet nat_cmp) (k q : ℕ) → set.contains (set.remove s k) q ≡ true → (q ≢ k) × (set.contains s q ≡ true)
left_in s k q there = elim (eqb_tells q k) [
  | inl (one, same) ↦ absurd (false_true (sym (ap (λ b. not b && set.contains s q) (unsigned_tied q k ∙ one)) ∙ sym (set.contains-remove nat_cmp_total s k q) ∙ there))
  | inr (none, apart) ↦ (apart, sym (ap (λ b. not b && set.contains s q) (unsigned_tied q k ∙ none)) ∙ sym (set.contains-remove nat_cmp_total s k q) ∙ there)
]

was_in : (s : set.FinSet nat_cmp) (k q : ℕ) → set.contains (set.insert s k) q ≡ true → (q ≡ k) ⊎ (set.contains s q ≡ true)
was_in s k q there = elim (eqb_tells q k) [
  | inl (one, same) ↦ inl same
  | inr (none, apart) ↦ inr (sym (ap (λ b. b || set.contains s q) (unsigned_tied q k ∙ none)) ∙ sym (set.contains-insert nat_cmp_total s k q) ∙ there)
]

-- ---- the table's changes, backwards

reserved_by : (old new : Database) (q : ℕ) → IsReserved new q → new.reserved ≡ old.reserved → IsReserved old q
reserved_by old new q there same = subst (λ (s : set.FinSet nat_cmp). set.contains s q ≡ true) same there

room_was : (old new : Database) (q : ℕ) → IsAsBefore old new → IsReserved new q → IsReserved old q
room_was old new q is there = reserved_by old new q there (ap (λ (d : Database). d.reserved) is.content)

release_was : (old : Database) (spi : ℕ) (new : Database) (q : ℕ) → Releases old spi new → IsReserved new q → (q ≢ spi) × IsReserved old q
release_was old spi new q is there = left_in old.reserved spi q (subst (λ (s : set.FinSet nat_cmp). set.contains s q ≡ true) (ap (λ (d : Database). d.reserved) is.content) there)

install_was : (old : Database) (spi : ℕ) (pair : Pair) (serial : ℕ) (new : Database) (q : ℕ) → Installs old spi pair serial new → IsReserved new q → (q ≢ spi) × IsReserved old q
install_was old spi pair serial new q is there = left_in old.reserved spi q (subst (λ (s : set.FinSet nat_cmp). set.contains s q ≡ true) (ap (λ (d : Database). d.reserved) is.content) there)

reserve_was : (old : Database) (spi : ℕ) (new : Database) (q : ℕ) → Reserves old spi new → IsReserved new q → (q ≡ spi) ⊎ IsReserved old q
reserve_was old spi new q is there = was_in old.reserved spi q (subst (λ (s : set.FinSet nat_cmp). set.contains s q ≡ true) (ap (λ (d : Database). d.reserved) is.content) there)

next_was : (old : Database) (pair : Pair) (serial : ℕ) (new : Database) (q : ℕ) → AddsNext old pair serial new → IsReserved new q → IsReserved old q
next_was old pair serial new q is there =
    let left = install_was is.between is.spi pair serial new q is.installed there in
    elim (reserve_was old is.spi is.between q is.reserved left.1) [
      | inl same ↦ absurd (left.0 same)
      | inr before ↦ before
    ]

removal_was : (old : Database) (ike : ℕ) (new : Database) (q : ℕ) → RemovesAllOf old ike new → IsReserved new q → IsReserved old q
removal_was old ike new q is there = reserved_by old new q there (ap (λ (d : Database). d.reserved) is.content)

apart_some : (spi q : ℕ) → q ≢ spi → Some spi ≢ Some q
apart_some spi q apart = λ same. apart (sym (same_item spi q same))

apart_none : (q : ℕ) → None ≢ Some q
apart_none q = λ same. none-some q same

child_was : (old : Database) (spi : Option ℕ) (pair : Option Pair) (child : Option ℕ) (new : Database) (q : ℕ) → AddsChild old spi pair child new → IsReserved new q → (spi ≢ Some q) × IsReserved old q
child_was old None None None new q is there = (apart_none q, subst (λ (d : Database). IsReserved d q) is there)
child_was old None (Some pair) (Some serial) new q is there = (apart_none q, next_was old pair serial new q is there)
child_was old (Some spi) None None new q is there = (let left = release_was old spi new q is there in (apart_some spi q left.0, left.1))
child_was old (Some spi) (Some pair) (Some serial) new q is there = (let left = install_was old spi pair serial new q is there in (apart_some spi q left.0, left.1))
child_was old None None (Some serial) new q is there = absurd is
child_was old None (Some pair) None new q is there = absurd is
child_was old (Some spi) None (Some serial) new q is there = absurd is
child_was old (Some spi) (Some pair) None new q is there = absurd is

given_up_was : (spi : Option ℕ) (old new : Database) (q : ℕ) → GivesUpSpi spi old new → IsReserved new q → (spi ≢ Some q) × IsReserved old q
given_up_was None old new q is there = (apart_none q, subst (λ (d : Database). IsReserved d q) is there)
given_up_was (Some spi) old new q is there = (let left = release_was old spi new q is there in (apart_some spi q left.0, left.1))

-- what is reserved once an IKE SA is closed is none of what it held
over_was : (old : Association) (table : Database) (moment : ℕ) (new : Association) (new_table : Database) (q : ℕ)
    → Closes old table moment new new_table → IsReserved new_table q → IsReserved table q × (HoldsSpi old q → ⊥)
over_was old table moment new new_table q is there = (is.released.reserved q).0 (removal_was is.between old.serial new_table q is.removed there)

-- ---- what waits for an answer

child_asked : (p : Purpose) (q : ℕ) → asks_for_child p ≡ false → spi_asked p ≡ Some q → ⊥
child_asked (purpose.CreateChild further) q none asked = false_true (sym none)
child_asked purpose.Begin q none asked = none-some q asked
child_asked purpose.Identify q none asked = none-some q asked
child_asked purpose.Probe q none asked = none-some q asked
child_asked (purpose.DeleteChild child) q none asked = none-some q asked
child_asked purpose.DeleteAssociation q none asked = none-some q asked

-- a Child SA is awaited on as another request is answered
stays_awaited : (old new : OwnRequests Request) (number : ℕ) (request : Request) (q : ℕ) → CountsAnswer old number request new → spi_asked request.purpose ≢ Some q → AwaitsSpi old q → AwaitsSpi new q
stays_awaited old new number request q is other awaits =
    let here = awaits.awaits in
    elim (eqb_tells awaits.number number) [
      | inl (one, same) ↦ absurd (other (ap (λ (r : Request). spi_asked r.purpose)
          (same_item request here.request (sym is.there ∙ sym (ap (map.get old.outstanding) same) ∙ here.outstanding)) ∙ here.reserved))
      | inr (none, apart) ↦ record {
        number = awaits.number;
        awaits = record {
          request = here.request;
          outstanding = ap (λ (r : OwnRequests Request). map.get r.outstanding awaits.number) is.content
              ∙ map.get-remove nat_cmp_total old.outstanding number awaits.number
              ∙ ap (λ b. cond b None (map.get old.outstanding awaits.number)) (unsigned_tied awaits.number number ∙ none)
              ∙ here.outstanding;
          reserved = here.reserved;
        };
      }
    ]

-- and as another one goes out
issued_awaited : (old new : OwnRequests Request) (request : Request) (q : ℕ) → AreIssued old → IssuesNext old request new → AwaitsSpi old q → AwaitsSpi new q
issued_awaited old new request q issued is awaits =
    let here = awaits.awaits in
    let below : awaits.number < old.next = issued awaits.number here.request here.outstanding in
    elim (eqb_tells awaits.number old.next) [
      | inl (one, same) ↦ absurd (omega (arith, below, same))
      | inr (none, apart) ↦ record {
        number = awaits.number;
        awaits = record {
          request = here.request;
          outstanding = ap (λ (r : OwnRequests Request). map.get r.outstanding awaits.number) is.issued.content
              ∙ map.get-insert nat_cmp_total is.ready.outstanding old.next request awaits.number
              ∙ ap (λ b. cond b (Some request) (map.get is.ready.outstanding awaits.number)) (unsigned_tied awaits.number old.next ∙ none)
              ∙ ap (λ (r : OwnRequests Request). map.get r.outstanding awaits.number) is.prepared.content
              ∙ here.outstanding;
          reserved = here.reserved;
        };
      }
    ]

-- before IKE_AUTH is done no additional Child SA is awaited
asked_apart : (p : Purpose) (is : Purpose) (q : ℕ) → p ≡ is → spi_asked is ≡ None → spi_asked p ≡ Some q → ⊥
asked_apart p is q same none asked = none-some q (sym none ∙ sym (ap spi_asked same) ∙ asked)

first_awaits_none : (a : Association) (sent : InitSent) (q : ℕ) → a.phase ≡ phase.InitSent sent → SuitPhase a.phase a.outgoing.outstanding → AwaitsSpi a.outgoing q → ⊥
first_awaits_none a sent q was waits awaits =
    let here = awaits.awaits in
    let may = subst (λ p. MayBeOutstanding p awaits.number here.request.purpose) was (waits awaits.number here.request here.outstanding) in
    asked_apart here.request.purpose purpose.Begin q may.1 refl here.reserved

second_awaits_none : (a : Association) (sent : AuthSent) (q : ℕ) → a.phase ≡ phase.AuthSent sent → SuitPhase a.phase a.outgoing.outstanding → AwaitsSpi a.outgoing q → ⊥
second_awaits_none a sent q was waits awaits =
    let here = awaits.awaits in
    let may = subst (λ p. MayBeOutstanding p awaits.number here.request.purpose) was (waits awaits.number here.request here.outstanding) in
    asked_apart here.request.purpose purpose.Identify q may.1 refl here.reserved

-- ---- what becomes of an IKE SA

-- what is reserved then was so before, and is held still by the one that held it
pub record Keeps (a : Association) (table : Database) (new : Association) (new_table : Database) (q : ℕ) : Type 0 where
  pub before : IsReserved table q
  pub still : HoldsSpi a q → HoldsSpi new q

over_keeps : (old : Association) (table : Database) (moment : ℕ) (new : Association) (new_table : Database) (q : ℕ) → Closes old table moment new new_table → IsReserved new_table q → Keeps old table new new_table q
over_keeps old table moment new new_table q is there = (let was = over_was old table moment new new_table q is there in record { before = was.0; still = λ held. absurd (was.1 held) })

closed_if_keeps : (ending : Bool) (serials : List ℕ) (a : Association) (table : Database) (moment : ℕ) (new : Association) (new_table : Database) (q : ℕ)
    → ClosesIf ending serials a table moment new new_table → IsReserved new_table q → Keeps a table new new_table q
closed_if_keeps true serials a table moment new new_table q is there = over_keeps a table moment new new_table q is there
closed_if_keeps false serials a table moment new new_table q is there = record {
  before = reserved_by table new_table q there (ap (λ (d : Database). d.reserved) is.1.removed.content);
  still = λ held. subst (λ (x : Association). HoldsSpi x q) (sym is.0) held;
}

same_outstanding : (a new : Association) (q : ℕ) → ((number : ℕ) → map.get new.outgoing.outstanding number ≡ map.get a.outgoing.outstanding number) → AwaitsSpi a.outgoing q → AwaitsSpi new.outgoing q
same_outstanding a new q same awaits = record {
  number = awaits.number;
  awaits = record { request = awaits.awaits.request; outstanding = same awaits.number ∙ awaits.awaits.outstanding; reserved = awaits.awaits.reserved };
}

conclusion_keeps : (setup : Setup) (a : Association) (table : Database) (o : Outcome) (came : Fate) (new : Association) (new_table : Database) (q : ℕ)
    → (spi_in a.phase ≡ Some q → established_spi a.phase ≡ Some q) → ConcludesBy setup a table o came new new_table → IsReserved new_table q → Keeps a table new new_table q
conclusion_keeps setup a table outcome.Closes came new new_table q first is there = over_keeps a table setup.moment new new_table q is.over there
conclusion_keeps setup a table (outcome.Establishes pair window) came new new_table q first is there =
    let was = child_was table (established_spi a.phase) pair (made_by came) new_table q is.added there in
    record {
      before = was.1;
      still = λ held. elim held [
        | inl its ↦ absurd (was.0 (first its))
        | inr awaits ↦ inr (same_outstanding a new q (λ n. ap (λ (x : Association). map.get x.outgoing.outstanding n) is.content) awaits)
      ];
    }

-- so, and another SPI is given up
pub record KeepsOther (spi : Option ℕ) (a : Association) (table : Database) (new : Association) (new_table : Database) (q : ℕ) : Type 0 where
  pub other : spi ≢ Some q
  pub keeps : Keeps a table new new_table q

further_keeps : (closing : Bool) (spi : Option ℕ) (pair : Option Pair) (a : Association) (table : Database) (moment : ℕ) (child : Option ℕ) (new : Association) (new_table : Database) (q : ℕ)
    → FurtherIf closing spi pair a table moment child new new_table → IsReserved new_table q → KeepsOther spi a table new new_table q
further_keeps true spi pair a table moment child new new_table q is there =
    let over = over_was a is.between moment new new_table q is.over there in
    let was = given_up_was spi table is.between q is.given_up over.0 in
    record { other = was.0; keeps = record { before = was.1; still = λ held. absurd (over.1 held) } }
further_keeps false spi pair a table moment child new new_table q is there =
    let was = child_was table spi pair child new_table q is.added there in
    record { other = was.0; keeps = record { before = was.1; still = λ held. subst (λ (x : Association). HoldsSpi x q) (sym is.same) held } }

-- ---- what a message does

passed_keeps : (old : Association) (table : Database) (new : Association) (new_table : Database) (q : ℕ) → IsPassedOver old table new new_table → IsReserved new_table q → Keeps old table new new_table q
passed_keeps old table new new_table q is there = record {
  before = subst (λ (d : Database). IsReserved d q) is.pairs there;
  still = λ held. subst (λ (x : Association). HoldsSpi x q) (sym is.association) held;
}

module _ (meaning : Meaning) (setup : Setup) (old : Association) (table : Database) (octets : Octets) (m : Message) (new : Association) (new_table : Database) (q : ℕ) (there : IsReserved new_table q) where
  answered_keeps : (a : Answered) → AnsweredAuth meaning setup old table octets m a new new_table → Keeps old table new new_table q
  answered_keeps a is =
      let d = is.done in
      let taken : Association = record old { incoming = d.incoming } in
      let done = conclusion_keeps setup taken d.between (outcome_of d.decision) a.fate new new_table q (λ its. absurd (none-some q (sym (ap spi_in d.was) ∙ its))) d.concluded there in
      record { before = room_was table d.between q d.room done.before; still = done.still }

  informed_keeps : (a : Answered) → AnsweredInformational meaning setup old table octets m a new new_table → Keeps old table new new_table q
  informed_keeps a is =
      let d = is.done in
      let done = closed_if_keeps (is_closing_verdict (verdict_on table.pairs old.serial d.payloads)) (gone_by (verdict_on table.pairs old.serial d.payloads)) (record old { incoming = d.incoming })
      table setup.moment new new_table q d.concluded there in
      record { before = done.before; still = done.still }

  further_answered_keeps : (a : Answered) → AnsweredFurther meaning setup old table octets m a new new_table → Keeps old table new new_table q
  further_answered_keeps a is =
      let d = is.done in
      let taken : Association = record old { incoming = d.incoming } in
      let done = (further_keeps (is_closing_decision d.decision) None (further_pair d.decision) taken d.between setup.moment (made_by a.fate) new new_table q
      (answered_further (is_closing_decision d.decision) (further_pair d.decision) taken d.between setup.moment a.fate new new_table d.concluded) there).keeps in
      record { before = room_was table d.between q d.room done.before; still = done.still }

  ended_keeps : (e : Ended) → SuitPhase old.phase old.outgoing.outstanding → CountedAuth meaning setup old table octets m e new new_table → Keeps old table new new_table q
  ended_keeps e waits is =
      let d = is.done in
      let counted : Association = record old { outgoing = d.outgoing } in
      let done = conclusion_keeps setup counted table d.verdict e.fate new new_table q (λ its. ap established_spi d.was ∙ sym (ap spi_in d.was) ∙ its) d.concluded there in
      record {
        before = done.before;
        still = λ held. elim held [
          | inl its ↦ done.still (inl its)
          | inr awaits ↦ absurd (second_awaits_none old d.sent q d.was waits awaits)
        ];
      }

  counted_keeps : (e : Ended) → CountedInformational setup old table m e new new_table → Keeps old table new new_table q
  counted_keeps e is =
      let d = is.done in
      let counted : Association = record old { outgoing = d.outgoing } in
      let done = closed_if_keeps (is_ended d.payloads d.request.purpose) (gone_with table.pairs old.serial d.request.purpose) counted table setup.moment new new_table q d.concluded there in
      let none : asks_for_child d.request.purpose ≡ false = sym (ap has_asked d.counted.there) ∙ is.other in
      record {
        before = done.before;
        still = λ held. elim held [
          | inl its ↦ done.still (inl its)
          | inr awaits ↦ done.still (inr (stays_awaited old.outgoing d.outgoing m.header.id d.request q d.counted (child_asked d.request.purpose q none) awaits))
        ];
      }

  further_counted_keeps : (e : Ended) → CountedFurther meaning setup old table octets m e new new_table → Keeps old table new new_table q
  further_counted_keeps e is =
      let d = is.done in
      let counted : Association = record old { outgoing = d.outgoing } in
      let done = further_keeps (is_closing_conclusion d.conclusion) (Some d.further.child.spi) (pair_made d.conclusion) counted table setup.moment (made_by e.fate) new new_table q
      (counted_further d.conclusion d.further.child.spi counted table setup.moment e.fate new new_table d.ends) there in
      record {
        before = done.keeps.before;
        still = λ held. elim held [
          | inl its ↦ done.keeps.still (inl its)
          | inr awaits ↦ done.keeps.still (inr (stays_awaited old.outgoing d.outgoing m.header.id d.request q d.counted (λ same. done.other (sym (ap spi_asked d.asked) ∙ same)) awaits))
        ];
      }

  asked_keeps : (next : Octets) → SuitPhase old.phase old.outgoing.outstanding → WasAsked meaning setup old table m next new new_table → Keeps old table new new_table q
  asked_keeps next waits is = record {
    before = subst (λ (d : Database). IsReserved d q) is.pairs there;
    still = λ held. elim held [
      | inl its ↦ inl (ap (λ (x : Association). spi_in x.phase) is.done.content ∙ sym (ap spi_in is.was) ∙ its)
      | inr awaits ↦ absurd (first_awaits_none old is.sent q is.was waits awaits)
    ];
  }

  identified_keeps : (next : Octets) → SuitPhase old.phase old.outgoing.outstanding → WasIdentified meaning setup old table octets m next new new_table → Keeps old table new new_table q
  identified_keeps next waits is = record {
    before = subst (λ (d : Database). IsReserved d q) is.pairs there;
    still = λ held. elim held [
      | inl its ↦ inl (ap (λ (x : Association). spi_in x.phase) is.done.content ∙ sym (ap spi_in is.was) ∙ its)
      | inr awaits ↦ absurd (first_awaits_none old is.sent q is.was waits awaits)
    ];
  }

  way_keeps : (e : Effect) → SuitPhase old.phase old.outgoing.outstanding → Way meaning setup old table octets m e new new_table → Keeps old table new new_table q
  way_keeps (effect.Refused fault) waits is = passed_keeps old table new new_table q is there
  way_keeps (effect.Repeated reply) waits is = passed_keeps old table new new_table q is.same there
  way_keeps (effect.Replied answered) waits (inl is) = answered_keeps answered is
  way_keeps (effect.Replied answered) waits (inr (inl is)) = informed_keeps answered is
  way_keeps (effect.Replied answered) waits (inr (inr is)) = further_answered_keeps answered is
  way_keeps (effect.Again next) waits is = asked_keeps next waits is
  way_keeps (effect.AsksAuth next) waits is = identified_keeps next waits is
  way_keeps (effect.Counted ended) waits (inl is) = ended_keeps ended waits is
  way_keeps (effect.Counted ended) waits (inr (inl is)) = counted_keeps ended is
  way_keeps (effect.Counted ended) waits (inr (inr is)) = further_counted_keeps ended is

pub message_keeps : (meaning : Meaning) (setup : Setup) (old : Association) (table : Database) (octets : Octets) (m : Message) (e : Effect) (new : Association) (new_table : Database) (q : ℕ)
    → IsSoundlyHeld old → TakesMessage meaning setup old table octets m e new new_table → IsReserved new_table q → IsReserved table q × (HoldsSpi old q → HoldsSpi new q)
message_keeps meaning setup old table octets m e new new_table q sound is there =
    let done = way_keeps meaning setup old table octets m new new_table q there e sound.waits (way_of meaning setup old table octets m e new new_table is) in
    (done.before, done.still)

-- ---- what a request of this end does

pub request_keeps : (body_of : Keys → Octets → Octets → Octets → Octets) (setup : Setup) (old : Association) (octets : Octets) (new : Association) (q : ℕ)
    → IsSoundlyHeld old → SendsRequest body_of setup old octets new → HoldsSpi old q → HoldsSpi new q
request_keeps body_of setup old octets new q sound is held =
    subst (λ (x : Association). HoldsSpi x q) (sym is.content) (elim held [
      | inl its ↦ inl its
      | inr awaits ↦ inr (issued_awaited old.outgoing is.outgoing (new_request octets is.purpose setup.moment) q sound.issued is.issued awaits)
    ])

pub given_was : (table between new_table : Database) (next q : ℕ) → IsAsBefore table between → Reserves between next new_table → IsReserved new_table q → IsReserved table q ⊎ (q ≡ next)
given_was table between new_table next q room is there =
    elim (reserve_was between next new_table q is there) [
      | inl same ↦ inr same
      | inr before ↦ inl (room_was table between q room before)
    ]

-- ---- who is held no longer

over_holds : (now : ℕ) (p : Phase) (outgoing : OwnRequests Request) (q : ℕ) → is_over now p ≡ true → SuitPhase p outgoing.outstanding → (spi_in p ≡ Some q) ⊎ AwaitsSpi outgoing q → ⊥
over_holds now (phase.InitSent sent) outgoing q over waits held = false_true over
over_holds now (phase.AuthSent sent) outgoing q over waits held = false_true over
over_holds now (phase.Established keys) outgoing q over waits held = false_true over
over_holds now (phase.HalfOpen opened) outgoing q over waits (inl its) = none-some q its
over_holds now (phase.HalfOpen opened) outgoing q over waits (inr awaits) = waits awaits.number awaits.awaits.request awaits.awaits.outstanding
over_holds now (phase.Closed keys at) outgoing q over waits (inl its) = none-some q its
over_holds now (phase.Closed keys at) outgoing q over waits (inr awaits) = waits awaits.number awaits.awaits.request awaits.awaits.outstanding

pub who_is_over_holds_none : (now : ℕ) (a : Association) (q : ℕ) → IsSoundlyHeld a → is_over now a.phase ≡ true → HoldsSpi a q → ⊥
who_is_over_holds_none now a q sound over held = over_holds now a.phase a.outgoing q over sound.waits held
