-- The laws of a step, gathered in the one record that its call promises.
use Rattle.std.proofs.Common.{◌≡◌, ℕ, List, Option, Some, Result, Ok, Err, subst}
use Rattle.std.specs.Prelude.{IfOk}
use Rattle.base.specs.Octets.{Octets}
use Rattle.policy.specs.declared.entry.Entry.{Entry}
use Rattle.suite.specs.declared.fresh.Fresh.{Fresh}
use Rattle.sadb.specs.Database.{Database, IsSoundTable}
use Rattle.effects.specs.Taking.{Meaning}
use Rattle.ike.specs.LawsOfChildren.{ChildrenAreExtendedWhereAllowed, ChildrenAreMadeOfTheirMessages, ChildrenHaveFewSelectors, FirstAnswersKeepToTheirOffers, OtherAnswersHaveNoSa, SealedAnswersKeepToTheirOffers}
use Rattle.ike.specs.LawsOfOutputs.{TracesNameWhatIsHeld, WhatIsNotNamedIsInClear}
use Rattle.ike.specs.LawsOfPeers.{NoAssociationWithoutACookie, TheEstablishedProvedThemselves}
use Rattle.ike.specs.LawsOfRequests.{NumbersTakeEffectByTheirDatagramAlone}
use Rattle.ike.specs.LawsOfSteps.{OneAssociationIsChanged, StepsAreMoves, StepsKeepTheirLaws}
use Rattle.ike.specs.Machines.{Machine}
use Rattle.ike.specs.Soundness.{IsSoundMachine}
use Rattle.ike.specs.StepLaws.{KeepsLawsOfDatagrams, StepsByLaws}
use Rattle.ike.specs.Steps.{InputView, Message, Steps}
use Rattle.ike.specs.declared.fault.IkeFault.{IkeFault}
use Rattle.ike.specs.declared.output.Stepped.{Stepped}
use Rattle.ike.proofs.UndeletedLemmas.{command_asks}

pub record Laws : Type 0 where
  pub moves : StepsAreMoves
  pub in_effect : NumbersTakeEffectByTheirDatagramAlone
  pub established : TheEstablishedProvedThemselves
  pub traced : TracesNameWhatIsHeld
  pub clear : WhatIsNotNamedIsInClear
  pub one : OneAssociationIsChanged
  pub few : ChildrenHaveFewSelectors
  pub made : ChildrenAreMadeOfTheirMessages
  pub extended : ChildrenAreExtendedWhereAllowed
  pub initial : FirstAnswersKeepToTheirOffers
  pub sealed : SealedAnswersKeepToTheirOffers
  pub other : OtherAnswersHaveNoSa
  pub cookie : NoAssociationWithoutACookie

datagram_lawful : Laws → (meaning : Meaning) (entries : List Entry) (from octets : Octets) (fresh : Fresh) (old : Machine) (table : Database)
    (stepped : Stepped) (new : Machine) (new_table : Database)
    → IsSoundTable table → IsSoundMachine old table
    → Steps meaning entries (Message from octets fresh) old table stepped new new_table
    → (input : InputView)
    → KeepsLawsOfDatagrams from octets fresh (record { meaning = meaning; entries = entries; input = input; old = old; table = table; stepped = stepped; new = new; new_table = new_table })
datagram_lawful laws meaning entries from octets fresh old table stepped new new_table sound_table sound is input = record {
  made = λ made told. laws.made meaning entries from octets fresh old table stepped made new new_table sound_table sound is told;
  extended = λ made pair told there. laws.extended meaning entries from octets fresh old table stepped new new_table made pair sound_table sound is told there;
  answers = λ reply closed said. record {
    initial = λ ike keyed. laws.initial meaning entries from octets fresh old table stepped new new_table reply closed ike is said keyed;
    sealed = λ mark sent. laws.sealed meaning entries from octets fresh old table stepped new new_table reply closed mark sound is said sent;
    other = λ unsent unkeyed. laws.other meaning entries from octets fresh old table stepped new new_table reply closed is said unsent unkeyed;
  };
  cookie = λ many more. laws.cookie meaning entries from octets fresh old table stepped new new_table is many more;
}

pub step_lawful : Laws → StepsKeepTheirLaws
step_lawful laws meaning entries input old table stepped new new_table sound_table sound is = record {
  moves = λ serial. laws.moves meaning entries input old table stepped new new_table serial sound is;
  in_effect = λ serial a b number through comes. laws.in_effect meaning entries input old table stepped new new_table serial a b number sound is through comes;
  undeleted = command_asks meaning entries input old table stepped new new_table sound.held is;
  established = λ ike a keys there established. laws.established meaning entries input old table stepped new new_table ike a keys sound is there established;
  traced = laws.traced meaning entries input old table stepped new new_table sound_table sound is;
  clear = λ octets unnamed goes. laws.clear meaning entries input old table stepped new new_table octets sound is unnamed goes;
  one = λ untimed. laws.one meaning entries input old table stepped new new_table untimed is;
  few_selectors = λ made pair told there. laws.few meaning entries input old table stepped new new_table made pair sound_table sound is told there;
  datagram = λ from octets fresh same. datagram_lawful laws meaning entries from octets fresh old table stepped new new_table sound_table sound
      (subst (λ (i : InputView). Steps meaning entries i old table stepped new new_table) same is) input;
}

-- so is the step of a call, where it is done
pub result_lawful : StepsKeepTheirLaws → (meaning : Meaning) (entries : List Entry) (input : InputView) (old : Machine) (table : Database)
    (r : Result Stepped IkeFault) (new : Machine) (new_table : Database)
    → IsSoundTable table → IsSoundMachine old table
    → IfOk r (λ stepped. Steps meaning entries input old table stepped new new_table)
    → IfOk r (λ stepped. StepsByLaws meaning entries input old table stepped new new_table)
result_lawful laws meaning entries input old table (Ok stepped) new new_table sound_table sound is = laws meaning entries input old table stepped new new_table sound_table sound is
result_lawful laws meaning entries input old table (Err reason) new new_table sound_table sound is = is
