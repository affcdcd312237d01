-- The numbers of this crate's refusals.
use Rattle.std.specs.Prelude.{ℕ}
use Rattle.replay.specs.declared.fault.ReplayFault.{ReplayFault}
use Rattle.replay.specs.declared.fault.ReplayFault.TheVariants.{Memory}

abbrev pub code_of_replay_fault : ReplayFault → ℕ
code_of_replay_fault Memory = 20
