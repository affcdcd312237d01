-- Before the next time at which something is due nothing comes of a gateway, and at it something does.
use Rattle.std.proofs.Common.{◌≡◌, ◌<◌, ◌≤◌, ◌^◌, [], ℕ, Bool, true, false, List, Option, length, max, ap, ◌∙◌, arith, inl, inr, subst, sym}
use Rattle.policy.specs.declared.entry.Entry.{Entry}
use Rattle.sadb.specs.Database.{Database}
use Rattle.effects.specs.Taking.{Meaning}
use Rattle.moments.specs.Next.{IsBefore, NothingIsDueBefore, SomethingIsDue}
use Rattle.moments.specs.declared.resent.Resent.{Resent}
use Rattle.ike.specs.Faults as faults
use Rattle.ike.specs.Machines.{Machine}
use Rattle.ike.specs.Moments.{IsTimely}
use Rattle.ike.specs.Outputs.{plain_step}
use Rattle.ike.specs.Steps as ike
use Rattle.ike.specs.Ticking.{TakesMoment}
use Rattle.ike.specs.declared.fault.IkeFault.{IkeFault}
use Rattle.ike.specs.declared.output.IkeOutput.TheVariants as made
use Rattle.ike.specs.declared.output.Stepped.{Stepped}
use Rattle.ike.specs.declared.output.Trace.{Trace}
use Rattle.gateway.specs.Inputs as input
use Rattle.gateway.specs.Outputs.{view_of_ike, wants_memory, OutputView, Ticked}
use Rattle.gateway.specs.States.{State}
use Rattle.gateway.specs.Steps.{Steps, StepsIke}

-- what is known of a machine before the next time
abbrev pub NothingBefore : Type 0
NothingBefore = (next : Option ℕ) (moment : ℕ) (old : Machine) (table : Database) (stepped : Stepped) (new : Machine) (new_table : Database) → IsTimely old → NothingIsDueBefore next old.held.associations → moment < 2 ^ 64 → IsBefore moment next
    → TakesMoment moment old table stepped new new_table → (stepped ≡ plain_step (made.Ticked (record { requests = []; closed = [] }))) × (new ≡ record old { moment = max old.moment moment }) × (new_table ≡ table)

-- and that it refuses none
abbrev pub NoneRefused : Type 0
NoneRefused = (meaning : Meaning) (entries : List Entry) (next : Option ℕ) (moment : ℕ) (machine : Machine) (table : Database) (reason : IkeFault) → IsTimely machine → NothingIsDueBefore next machine.held.associations → moment < 2 ^ 64 → IsBefore moment next
    → ike.Refuses meaning entries (ike.Tick moment) machine table reason → ⊥

module _ {C : Type 0} (law : NothingBefore) (unrefused : NoneRefused) where
  abbrev StaysBut : ℕ → State C → OutputView → State C → Type 0
  StaysBut now old said new = (said ≡ Ticked [] []) × (new ≡ record old { machine = record old.machine { moment = now } })

  stays_by : (meaning : Meaning) (next : Option ℕ) (moment : ℕ) (old new : State C) (said : OutputView) (trace : Trace) → IsTimely old.machine → NothingIsDueBefore next old.machine.held.associations → moment < 2 ^ 64 → IsBefore moment next
      → new ≡ record old { machine = new.machine; table = new.table } → StepsIke meaning old.entries (ike.Tick moment) old.machine old.table said trace new.machine new.table → StaysBut (max old.machine.moment moment) old said new
  stays_by meaning next moment old new said trace timely quiet fits before kept (inl a) =
      let same = law next moment old.machine old.table a.stepped new.machine new.table timely quiet fits before a.steps in (
        a.output ∙ ap (λ (s : Stepped). view_of_ike s.output) same.0,
        kept ∙ ap (λ (m : Machine). record old { machine = m; table = new.table }) same.1
            ∙ ap (λ (d : Database). record old { machine = record old.machine { moment = max old.machine.moment moment }; table = d }) same.2,
      )
  stays_by meaning next moment old new said trace timely quiet fits before kept (inr r) =
      absurd (unrefused meaning old.entries next moment old.machine old.table r.fault timely quiet fits before r.refuses)

  pub stays : (meaning : Meaning) (next : Option ℕ) (moment : ℕ) (old new : State C) (said : OutputView) → IsTimely old.machine → NothingIsDueBefore next old.machine.held.associations → moment < 2 ^ 64 → IsBefore moment next
      → Steps meaning (input.Tick moment) old said new → StaysBut (max old.machine.moment moment) old said new
  stays meaning next moment old new said timely quiet fits before is = stays_by meaning next moment old new said is.trace timely quiet fits before is.traces.kept is.traces.does

-- what is known of a machine at a time at which something is due
abbrev pub SomethingThen : Type 0
SomethingThen = (moment : ℕ) (old : Machine) (table : Database) (stepped : Stepped) (new : Machine) (new_table : Database) → SomethingIsDue (max old.moment moment) old.held.associations → TakesMoment moment old table stepped new new_table
    → (stepped ≡ plain_step (made.Ticked (record { requests = []; closed = [] }))) × (length new.held.associations ≡ length old.held.associations) → ⊥

-- and of a tick that is refused
abbrev pub Unrefused : Type 0
Unrefused = (meaning : Meaning) (entries : List Entry) (moment : ℕ) (machine : Machine) (table : Database) (reason : IkeFault) → ike.Refuses meaning entries (ike.Tick moment) machine table reason → faults.is_want_of_memory reason ≡ true

abbrev requests_of : OutputView → List Resent
requests_of (Ticked requests closed) = requests
requests_of _ = []

abbrev closed_of : OutputView → List ℕ
closed_of (Ticked requests closed) = closed
closed_of _ = []

yes_no : (b : Bool) → b ≡ true → b ≡ false → ⊥
yes_no b one other = cc

-- what a step of the machine says, where the gateway says that nothing came
said_nothing : (old new : Machine) (table new_table : Database) (moment : ℕ) (stepped : Stepped) → TakesMoment moment old table stepped new new_table → view_of_ike stepped.output ≡ Ticked [] []
    → stepped ≡ plain_step (made.Ticked (record { requests = []; closed = [] }))
said_nothing old new table new_table moment stepped is says =
    let told : Ticked is.takes.ticked.requests is.takes.ticked.closed ≡ Ticked [] [] = sym (ap (λ (s : Stepped). view_of_ike s.output) is.takes.said) ∙ says in
    is.takes.said ∙ (λ i. plain_step (made.Ticked (record { requests = requests_of (told i); closed = closed_of (told i) })))

module _ {C : Type 0} (law : SomethingThen) (unrefused : Unrefused) where
  brings_by : (meaning : Meaning) (moment : ℕ) (old new : State C) (said : OutputView) (trace : Trace) → old.machine.moment ≤ moment → SomethingIsDue moment old.machine.held.associations
      → StepsIke meaning old.entries (ike.Tick moment) old.machine old.table said trace new.machine new.table → wants_memory said ≡ false
      → (said ≡ Ticked [] []) × (length new.machine.held.associations ≡ length old.machine.held.associations) → ⊥
  brings_by meaning moment old new said trace later due (inl a) had nothing =
      let same : moment ≡ max old.machine.moment moment = omega arith in
      law moment old.machine old.table a.stepped new.machine new.table (subst (λ (now : ℕ). SomethingIsDue now old.machine.held.associations) same due) a.steps
      (said_nothing old.machine new.machine old.table new.table moment a.stepped a.steps (sym a.output ∙ nothing.0), nothing.1)
  brings_by meaning moment old new said trace later due (inr r) had nothing =
      yes_no (faults.is_want_of_memory r.fault) (unrefused meaning old.entries moment old.machine old.table r.fault r.refuses) (sym (ap wants_memory r.output) ∙ had)

  pub brings : (meaning : Meaning) (moment : ℕ) (old new : State C) (said : OutputView) → old.machine.moment ≤ moment → SomethingIsDue moment old.machine.held.associations → Steps meaning (input.Tick moment) old said new → wants_memory said ≡ false
      → (said ≡ Ticked [] []) × (length new.machine.held.associations ≡ length old.machine.held.associations) → ⊥
  brings meaning moment old new said later due is had nothing = brings_by meaning moment old new said is.trace later due is.traces.does had nothing
