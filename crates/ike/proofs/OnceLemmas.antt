-- A call does one thing, by the laws that steps and refusals are determined.
use Rattle.std.proofs.Common.{◌≡◌, List, Result, Ok, Err, sym}
use Rattle.std.specs.Prelude.{IfErr, IfOk}
use Rattle.policy.specs.declared.entry.Entry.{Entry}
use Rattle.sadb.specs.Database.{Database, IsAsBefore}
use Rattle.effects.specs.Taking.{Meaning}
use Rattle.ike.specs.Lengths.{HoldWholeKeys, IsTold}
use Rattle.ike.specs.LawsOfSteps.{RefusalsAreDetermined, StepsAreDetermined, WhatIsDoneIsNotRefused}
use Rattle.ike.specs.Machines.{Machine}
use Rattle.ike.specs.Once.{IsRefusedAlike, IsTakenAlike}
use Rattle.ike.specs.Steps.{InputView, Refuses, Steps}
use Rattle.ike.specs.declared.fault.IkeFault.{IkeFault}
use Rattle.ike.specs.declared.output.Stepped.{Stepped}

pub taken_alike : StepsAreDetermined → WhatIsDoneIsNotRefused → (meaning : Meaning) (entries : List Entry) (given : InputView) (old : Machine) (table : Database) (r : Result Stepped IkeFault) (new : Machine) (new_table : Database)
    → IsTold meaning given → HoldWholeKeys old.held → IfOk r (λ stepped. Steps meaning entries given old table stepped new new_table)
    → IfOk r (λ stepped. IsTakenAlike meaning entries given old table stepped new new_table)
taken_alike determined done meaning entries given old table (Ok stepped) new new_table told whole is = record {
  taken = λ other after another after_table also same same_table steps.
      let one = determined meaning entries given old other new after table another new_table after_table stepped also told whole (sym same) (sym same_table) is steps in
      (sym one.0, sym one.1, sym one.2);
  refused = λ other another reason same same_table refuses.
      done meaning entries given old other new table another new_table stepped reason (sym same) (sym same_table) is refuses;
}
taken_alike determined done meaning entries given old table (Err reason) new new_table told whole is = is

pub refused_alike : RefusalsAreDetermined → WhatIsDoneIsNotRefused → (meaning : Meaning) (entries : List Entry) (given : InputView) (old : Machine) (table : Database) (r : Result Stepped IkeFault) (new : Machine) (new_table : Database)
    → IfErr r (λ reason. Refuses meaning entries given old table reason × (new ≡ old) × IsAsBefore table new_table)
    → IfErr r (λ reason. IsRefusedAlike meaning entries given old table reason)
refused_alike determined done meaning entries given old table (Ok stepped) new new_table is = is
refused_alike determined done meaning entries given old table (Err reason) new new_table is = record {
  refused = λ other another also same same_table some other_some refuses.
      sym (determined meaning entries given old other table another reason also (sym same) (sym same_table) some other_some is.0 refuses);
  taken = λ other after another after_table also same same_table steps.
      done meaning entries given other old after another table after_table also reason same same_table steps is.0;
}
