-- A new gateway that is told to begin: no case is left but that its request goes out.
use Rattle.std.proofs.Common.{◌≡◌, ◌≢◌, ◌<◌, ◌+◌, ◌++◌, ◌∷◌, [], inl, inr, ℕ, Bool, true, false, length, None, List, Option, Some, ap, arith, refl, subst, sym, ◌∙◌}
use Rattle.std.specs.Prelude.{◌==◌, if◌then◌else◌}
use Rattle.std.proofs.lemmas.Bool.{lt-leb, ne_eqb}
use Rattle.std.proofs.lemmas.Option.{none-some, same_Some}
use Rattle.std.specs.FinMap as map
use Rattle.std.specs.FinSet as set
use Rattle.std.specs.List.{slice_get}
use Rattle.std.specs.Ordering.{nat_cmp}
use Rattle.base.specs.Octets.{Octets}
use Rattle.wire.specs.Messages.{SpellsPlainly}
use Rattle.policy.specs.declared.entry.Entry.{Entry}
use Rattle.suite.specs.declared.fresh.Fresh.{Fresh}
use Rattle.requests.specs.Incoming.{no_requests}
use Rattle.requests.specs.Outgoing.{none_issued}
use Rattle.exchange.specs.declared.headers.Role.TheVariants.{Initiator}
use Rattle.sadb.specs.Database.{empty_table, Database, IsAsBefore, IsFull, IsSpent, Reserves}
use Rattle.sa_init.specs.Judging.{ASSOCIATION_LIMIT}
use Rattle.sadb.specs.declared.pair.Pair.{Pair}
use Rattle.association.specs.Issuing.{new_request}
use Rattle.association.specs.declared.phase.Association.{Association}
use Rattle.association.specs.declared.phase.Phase.TheVariants.{InitSent}
use Rattle.association.specs.declared.purpose.Purpose.TheVariants.{Begin}
use Rattle.initial.specs.Beginning.{begun, Begins}
use Rattle.initial.specs.declared.beginning.Beginning.{Beginning}
use Rattle.effects.specs.Taking.{Meaning}
use Rattle.ike.specs.Faults.{is_want_of_memory}
use Rattle.ike.specs.Machines.{is_bad_spi, setup_at, Held, SERIAL_END}
use Rattle.ike.specs.Receiving.{with_next}
use Rattle.ike.specs.Outputs.{plain_step}
use Rattle.ike.specs.Starting.{beginning_fault, beginning_fault_of, child_by, protecting_entry, BeginsBy, GivesNoSpi, RefusesBeginning}
use Rattle.ike.specs.declared.fault.IkeFault.{IkeFault}
use Rattle.ike.specs.declared.fault.IkeFault.TheVariants as fault
use Rattle.ike.specs.declared.output.IkeOutput.TheVariants.{Request}
use Rattle.ike.specs.declared.output.Stepped.{Stepped}
use Rattle.gateway.specs.Histories.{IsPassage, Passage}
use Rattle.gateway.specs.Inputs as input
use Rattle.gateway.specs.Outputs as output
use Rattle.gateway.specs.Outputs.{wants_memory}
use Rattle.gateway.specs.States.{State}
use Rattle.laws_opening.specs.Opened.{after, holding, made, waiting_as, Side}
use Rattle.laws_opening.specs.Opening.{Asks, IsToldToBegin}
use Rattle.laws_opening.specs.Exchanged.{asking_message}
use Rattle.laws_opening.specs.Beside.{giving, next_child, next_spi, with_waiting, AsksBeside, CanBegin, StillWaits}
use Rattle.laws_opening.proofs.StepLemmas.{answered, first_waits, issued_is, leads_to, said_is, step_from, usable}

-- ---- it can't be refused but for memory

no_fault : (entries : List Entry) (place : ℕ) (asking : Fresh) (entry : Entry) (held : Held) → protecting_entry entries place ≡ Some entry
    → length held.associations < ASSOCIATION_LIMIT → held.next < SERIAL_END → is_bad_spi asking.spi held.associations ≡ false
    → beginning_fault entries place asking held ≡ None
no_fault entries place asking entry held protects few serial usable =
    ap (λ (o : Option Entry). beginning_fault_of o held asking.spi) protects
    ∙ ap (λ (b : Bool). if b then Some fault.Crowded else
    (if held.next == SERIAL_END then Some fault.NumbersSpent else (if is_bad_spi asking.spi held.associations then Some fault.BadFresh else None)))
    (lt-leb ASSOCIATION_LIMIT (length held.associations) few)
    ∙ ap (λ (b : Bool). if b then Some fault.NumbersSpent else (if is_bad_spi asking.spi held.associations then Some fault.BadFresh else None))
    (ne_eqb held.next SERIAL_END (λ is. absurd (omega (arith, is, serial))))
    ∙ ap (λ (b : Bool). if b then Some fault.BadFresh else None) usable

spi_is_given : (table : Database) → ¬ IsFull table → ¬ IsSpent table → (f : IkeFault) → GivesNoSpi table f → is_want_of_memory f ≡ true
spi_is_given table not_full not_spent fault.TableFull full = absurd (not_full full)
spi_is_given table not_full not_spent fault.SpisSpent none = absurd (not_spent none.1)
spi_is_given table not_full not_spent (fault.Memory f) none = refl
spi_is_given table not_full not_spent f none = absurd none

for_memory : {C : Type 0} (place : ℕ) (asking : Fresh) (entry : Entry) (s : State C) → CanBegin place entry asking s → (f : IkeFault)
    → RefusesBeginning s.entries asking place s.machine.held s.table f → is_want_of_memory f ≡ true
for_memory {C} place asking entry s can f (inl found) =
    absurd (none-some f (sym (no_fault s.entries place asking entry s.machine.held can.protects can.few can.serial can.usable) ∙ found))
for_memory {C} place asking entry s can f (inr (_, none)) = spi_is_given s.table can.not_full can.not_spent f none

-- ---- what it leaves

module _ (table : Database) (spi : ℕ) (between new : Database) (room : IsAsBefore table between) (reserved : Reserves between spi new) where
  pub spi_is : spi ≡ next_spi table
  spi_is = reserved.in_order ∙ ap (λ (d : Database). d.start + d.given) room.content

  pub table_is : new ≡ giving table new.room
  table_is =
      reserved.content
      ∙ ap (λ (d : Database). record d { given = d.given + 1; reserved = set.insert d.reserved spi; room = new.room }) room.content
      ∙ ap (λ (s : ℕ). record table { given = table.given + 1; reserved = set.insert table.reserved s; room = new.room }) spi_is

waits : (meaning : Meaning) (asking : Fresh) (moment serial : ℕ) (extended : Bool) (entry by : Entry) (spi next : ℕ) (beginning : Beginning)
    → Begins meaning.cipher meaning.group meaning.public_value asking moment beginning → by ≡ entry → spi ≡ next
    → begun serial beginning (child_by by spi extended)
    ≡ waiting_as serial asking (child_by entry next extended) beginning.octets moment beginning.outgoing.room
waits meaning asking moment serial extended entry by spi next beginning begins same first =
    let outgoing : beginning.outgoing ≡ after none_issued (new_request beginning.octets Begin moment) beginning.outgoing.room =
    issued_is none_issued beginning.outgoing (new_request beginning.octets Begin moment) begins.issued in
    (λ i. record {
      serial = serial;
      role = Initiator;
      spi_i = begins.spi i;
      spi_r = 0;
      incoming = no_requests;
      outgoing = outgoing i;
      phase = InitSent (record { secret = begins.secret i; nonce = begins.nonce_is i; cookie = None; cookies_taken = 0; child = child_by (same i) (first i) extended });
    })

-- ---- the step

-- it waits for the response to its request
record Begun {C : Type 0} (meaning : Meaning) (s : State C) (entry : Entry) (asking : Fresh) (stepped : Stepped) (new : Held) (new_table : Database) : Type 0 where
  request : Octets
  spare : ℕ
  spelled : SpellsPlainly (asking_message meaning asking) request
  says : stepped ≡ plain_step (Request s.machine.held.next request)
  held : new ≡ with_next s.machine.held (waiting_as s.machine.held.next asking (next_child entry s) request s.machine.moment spare)
  tables : new_table ≡ giving s.table new_table.room

has_begun : {C : Type 0} (meaning : Meaning) (s : State C) (place : ℕ) (entry : Entry) (asking : Fresh) (stepped : Stepped) (new : Held) (new_table : Database)
    → protecting_entry s.entries place ≡ Some entry
    → BeginsBy meaning (setup_at s.machine s.entries asking) place s.machine.held s.table stepped new new_table
    → Begun meaning s entry asking stepped new new_table
has_begun {C} meaning s place entry asking stepped new new_table protects begins =
    let same : begins.entry ≡ entry = same_Some begins.entry entry (sym begins.allowed.protects ∙ protects) in
    let first : begins.done.spi ≡ next_spi s.table = spi_is s.table begins.done.spi begins.between new_table begins.room begins.done.reserved in
    record {
      request = begins.beginning.octets;
      spare = begins.beginning.outgoing.room;
      spelled = begins.begins.spelled;
      says = begins.done.said;
      held = begins.done.content
          ∙ ap (λ (a : Association). with_next s.machine.held a)
          (waits meaning asking s.machine.moment s.machine.held.next s.machine.config.extended entry begins.entry begins.done.spi (next_spi s.table) begins.beginning
          begins.begins same first);
      tables = table_is s.table begins.done.spi begins.between new_table begins.room begins.done.reserved;
    }

pub asks_beside : {C : Type 0} (meaning_of : C → Meaning) (place : ℕ) (entry : Entry) (asking : Fresh) (p : Passage C) → IsPassage meaning_of p
    → p.given ≡ input.Start None place asking → wants_memory p.said ≡ false → CanBegin place entry asking p.before
    → AsksBeside (meaning_of p.before.caller) entry asking p
asks_beside {C} meaning_of place entry asking p is given memory can =
    let traces = (step_from meaning_of p p.before (input.Start None place asking) is refl given).traces in
    let step = answered traces.does memory (for_memory place asking entry p.before can) in
    let begun = has_begun (meaning_of p.before.caller) p.before place entry asking step.stepped p.after.machine.held p.after.table can.protects step.steps.1 in
    let machine_is : p.after.machine ≡ with_waiting p.before.machine asking (next_child entry p.before) begun.request begun.spare =
    step.steps.0 ∙ ap (λ (h : Held). record p.before.machine { held = h }) begun.held in
    record {
      request = begun.request;
      said = said_is p.said step.stepped (plain_step (Request p.before.machine.held.next begun.request)) step.output begun.says;
      spelled = begun.spelled;
      spare = begun.spare;
      room = p.after.table.room;
      after = leads_to p.before p.after (with_waiting p.before.machine asking (next_child entry p.before) begun.request begun.spare) (giving p.before.table p.after.table.room)
          traces.kept machine_is begun.tables;
    }

-- it waits for the response from then on
last_there : (xs : List Association) (a : Association) → slice_get (xs ++ a ∷ []) (length xs) ≡ Some a
last_there [] a = refl
last_there (x ∷ xs) a = last_there xs a

pub still_waits : {C : Type 0} (meaning : Meaning) (entry : Entry) (asking : Fresh) (p : Passage C) (asks : AsksBeside meaning entry asking p)
    → StillWaits asking asks.request (next_child entry p.before) p.after.machine.held
still_waits {C} meaning entry asking p asks =
    let held = p.before.machine.held in
    let a = waiting_as held.next asking (next_child entry p.before) asks.request p.before.machine.moment asks.spare in
    let request = new_request asks.request Begin p.before.machine.moment in
    record {
      place = length held.associations;
      association = a;
      there = ap (λ (s : State C). slice_get s.machine.held.associations (length held.associations)) asks.after ∙ last_there held.associations a;
      role = refl;
      spi = refl;
      sent = record { secret = asking.secret; nonce = asking.nonce; cookie = None; cookies_taken = 0; child = next_child entry p.before };
      phase_is = refl;
      secret = refl;
      nonce = refl;
      child_is = refl;
      asked = request;
      outstanding = first_waits request;
      octets = refl;
      purpose = refl;
    }

-- ---- so does a new one

not_full : (start : ℕ) → ¬ IsFull (empty_table start)
not_full start full =
    let no_pairs = map.len-empty nat_cmp Pair in
    let none_reserved = set.len-empty nat_cmp in
    absurd (omega (arith, full, no_pairs, none_reserved))

pub new_can_begin : {C : Type 0} (side : Side) (caller : C) (place : ℕ) (entry : Entry) (asking : Fresh) → protecting_entry side.entries place ≡ Some entry
    → asking.spi ≢ 0 → CanBegin place entry asking (made side caller)
new_can_begin {C} side caller place entry asking protects named = record {
  protects = protects;
  few = omega arith;
  serial = omega arith;
  usable = usable asking.spi named;
  not_full = not_full side.start;
  not_spent = λ spent. absurd (omega (arith, spent));
}

pub asks : {C : Type 0} (meaning_of : C → Meaning) (side : Side) (caller : C) (place : ℕ) (entry : Entry) (asking : Fresh) (p : Passage C)
    → IsPassage meaning_of p → IsToldToBegin side caller place asking p → protecting_entry side.entries place ≡ Some entry → asking.spi ≢ 0
    → Asks (meaning_of caller) side caller asking entry p
asks {C} meaning_of side caller place entry asking p is told protects named =
    let can = new_can_begin side caller place entry asking protects named in
    let beside = asks_beside meaning_of place entry asking p is told.given told.memory (subst (λ (s : State C). CanBegin place entry asking s) (sym told.new) can) in
    let first : side.start + 0 ≡ side.start = omega arith in
    record {
      request = beside.request;
      said = beside.said ∙ ap (λ (s : State C). output.Request s.machine.held.next beside.request) told.new;
      spelled = subst (λ (s : State C). SpellsPlainly (asking_message (meaning_of s.caller) asking) beside.request) told.new beside.spelled;
      spare = beside.spare;
      room = beside.room;
      after = beside.after
          ∙ ap (λ (s : State C). record s { machine = with_waiting s.machine asking (next_child entry s) beside.request beside.spare; table = giving s.table beside.room })
          told.new
          ∙ ap (λ (spi : ℕ). holding side (waiting_as 1 asking (child_by entry spi side.config.extended) beside.request 0 beside.spare)
          (record (empty_table side.start) { given = 1; reserved = set.insert set.empty spi; room = beside.room }) caller) first;
    }
