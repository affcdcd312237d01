-- A step of the IKE machine does the same, whatever the serials of the IKE SAs.
use Rattle.std.proofs.Common.{◌<◌, ℕ, List, max, ap}
use Rattle.policy.specs.declared.entry.Entry.{Entry}
use Rattle.sadb.specs.Database.{Database}
use Rattle.effects.specs.Taking.{Meaning}
use Rattle.ike.specs.Machines.{setup_at, Machine, SERIAL_END}
use Rattle.ike.specs.Steps as steps
use Rattle.ike.specs.Steps.{InputView, KeepsRest, Refuses, RefusesSecret, Steps}
use Rattle.ike.specs.declared.fault.IkeFault.{IkeFault}
use Rattle.ike.specs.declared.fault.IkeFault.TheVariants as fault
use Rattle.ike.specs.declared.output.Stepped.{Stepped}
use Rattle.gateway.specs.Renaming.{renamed_machine, renamed_stepped, renamed_table, renamed_view, IsRenaming}
use Rattle.gateway.proofs.RenamedLaws.{RenamedLaws}
use Rattle.gateway.proofs.ReceivingRenaming.{renamed_datagram, renamed_datagram_refusal}
use Rattle.gateway.proofs.OrderRenaming.{renamed_asking, renamed_asking_refusal, renamed_start_refusal, renamed_starts}
use Rattle.gateway.proofs.RenamingLemmas.{apart_of}
use Rattle.gateway.proofs.TickRenaming.{renamed_moment, renamed_moment_refusal}

renamed_secret_refusal : (r : ℕ → ℕ) (old : Machine) (reason : IkeFault) → RefusesSecret old reason → RefusesSecret (renamed_machine r old) reason
renamed_secret_refusal r old fault.NumbersSpent is = is
renamed_secret_refusal r old (fault.Memory f) is = absurd is
renamed_secret_refusal r old (fault.Unread f) is = absurd is
renamed_secret_refusal r old (fault.Message f) is = absurd is
renamed_secret_refusal r old fault.Unprotected is = absurd is
renamed_secret_refusal r old fault.Crowded is = absurd is
renamed_secret_refusal r old fault.TableFull is = absurd is
renamed_secret_refusal r old fault.SpisSpent is = absurd is
renamed_secret_refusal r old fault.HalfOpenFull is = absurd is
renamed_secret_refusal r old fault.Busy is = absurd is
renamed_secret_refusal r old fault.BadFresh is = absurd is

renamed_rest : (r : ℕ → ℕ) (old new : Machine) → KeepsRest old new → KeepsRest (renamed_machine r old) (renamed_machine r new)
renamed_rest r old new is = ap (renamed_machine r) is

module _ (r : ℕ → ℕ) (laws : RenamedLaws r) (meaning : Meaning) (entries : List Entry) (old : Machine) (renaming : IsRenaming r old.held.next) (before : old.held.next < SERIAL_END) (left : r old.held.next < SERIAL_END) (table : Database) where
  pub renamed_step : (given : InputView) (stepped : Stepped) (new : Machine) (new_table : Database) → Steps meaning entries given old table stepped new new_table
      → Steps meaning entries (renamed_view r given) (renamed_machine r old) (renamed_table r table) (renamed_stepped r stepped) (renamed_machine r new) (renamed_table r new_table)
  renamed_step (steps.Message from octets fresh) stepped new new_table is =
      (renamed_rest r old new is.0, renamed_datagram r laws meaning (setup_at old entries fresh) old.held renaming before left old.cookies from octets table stepped new.held new_table is.1)
  renamed_step (steps.Start serial place fresh) stepped new new_table is =
      (renamed_rest r old new is.0, renamed_starts r laws meaning (setup_at old entries fresh) old.held renaming before left table stepped new.held new_table serial place is.1)
  renamed_step (steps.Order what fresh) stepped new new_table is =
      (renamed_rest r old new is.0, renamed_asking r laws (apart_of r old.held.next renaming) meaning.body_of (setup_at old entries fresh) old.held stepped new.held what table new_table is.1)
  renamed_step (steps.Secret secret) stepped new new_table is = record {
    left = is.left;
    said = ap (renamed_stepped r) is.said;
    content = ap (renamed_machine r) is.content;
    unchanged = ap (renamed_table r) is.unchanged;
  }
  renamed_step (steps.Tick moment) stepped new new_table is = renamed_moment r laws moment old table stepped new new_table is

  pub renamed_refusal : (given : InputView) (reason : IkeFault) → Refuses meaning entries given old table reason
      → Refuses meaning entries (renamed_view r given) (renamed_machine r old) (renamed_table r table) reason
  renamed_refusal (steps.Message from octets fresh) reason is =
      renamed_datagram_refusal r laws meaning (setup_at old entries fresh) old.held renaming before left old.cookies from octets table reason is
  renamed_refusal (steps.Start serial place fresh) reason is = renamed_start_refusal r laws old.held renaming before left table entries fresh serial place reason is
  renamed_refusal (steps.Order what fresh) reason is = renamed_asking_refusal r laws old.held renaming before left table what reason is
  renamed_refusal (steps.Secret secret) reason is = renamed_secret_refusal r old reason is
  renamed_refusal (steps.Tick moment) reason is = renamed_moment_refusal r (max old.moment moment) old.held.associations reason is
