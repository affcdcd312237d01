-- What the lemmas quantify over. A case is one record of all that a lemma speaks of: what the provider
-- means, the policy's entries, the input, the state before and after, and the output. `EachStep P` says P
-- of every case, possible or not: that the step takes place is an assumption of its own, `IsStep it`. The
-- record's fields are quantified one by one, so a proof applies a lemma to them one by one. `EachDatagram
-- P` says P of each case whose input is a datagram, and also gives its address, its octets and the fresh
-- octets. The words of each lemma stand above the function of its name in src/laws/.
use Rattle.std.specs.Prelude.{List}
use Rattle.base.specs.Octets.{Octets}
use Rattle.policy.specs.declared.entry.Entry.{Entry}
use Rattle.suite.specs.declared.fresh.Fresh.{Fresh}
use Rattle.sadb.specs.Database.{Database}
use Rattle.effects.specs.Taking.{Meaning}
use Rattle.ike.specs.Machines.{Machine}
use Rattle.ike.specs.Steps.{InputView, Message, Steps}
use Rattle.ike.specs.declared.output.Stepped.{Stepped}

pub record StepCase : Type 0 where
  pub meaning : Meaning
  pub entries : List Entry
  pub input : InputView
  pub old : Machine
  pub table : Database
  pub stepped : Stepped
  pub new : Machine
  pub new_table : Database

abbrev pub IsStep : StepCase → Type 0
IsStep it = Steps it.meaning it.entries it.input it.old it.table it.stepped it.new it.new_table

abbrev pub EachStep : (StepCase → Type 0) → Type 0
EachStep P =
    (meaning : Meaning) (entries : List Entry) (input : InputView) (old : Machine) (table : Database)
    (stepped : Stepped) (new : Machine) (new_table : Database)
    → P (record {
      meaning = meaning;
      entries = entries;
      input = input;
      old = old;
      table = table;
      stepped = stepped;
      new = new;
      new_table = new_table;
    })

abbrev pub EachDatagram : (Octets → Octets → Fresh → StepCase → Type 0) → Type 0
EachDatagram P =
    (meaning : Meaning) (entries : List Entry) (from octets : Octets) (fresh : Fresh) (old : Machine)
    (table : Database) (stepped : Stepped) (new : Machine) (new_table : Database)
    → P from octets fresh (record {
      meaning = meaning;
      entries = entries;
      input = Message from octets fresh;
      old = old;
      table = table;
      stepped = stepped;
      new = new;
      new_table = new_table;
    })
