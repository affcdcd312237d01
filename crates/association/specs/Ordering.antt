-- Why a command on an IKE SA is refused (RFC 7296 sections 2.2 and 2.3).
use Rattle.std.specs.Prelude.{◌⊎◌}
use Rattle.requests.specs.Outgoing.{AreNumbersSpent, IsBusy, MayIssue}
use Rattle.association.specs.Phases.{IsEstablished}
use Rattle.association.specs.Purposes.{AwaitsDeletion}
use Rattle.association.specs.declared.fault.OrderFault.{OrderFault}
use Rattle.association.specs.declared.fault.OrderFault.TheVariants.{WrongPhase, Busy, NumbersSpent, Memory, TableFull, SpisSpent, TableMemory}
use Rattle.association.specs.declared.phase.Association.{Association}

-- why a command on an IKE SA is refused, each where those before it don't apply; none is taken while a
-- request of this end to delete the IKE SA waits for its answer
abbrev pub RefusesOrder : Association → OrderFault → Type 0
RefusesOrder a WrongPhase = ¬ IsEstablished a.phase
RefusesOrder a Busy = IsEstablished a.phase × (AwaitsDeletion a.outgoing ⊎ IsBusy a.outgoing)
RefusesOrder a NumbersSpent = IsEstablished a.phase × (¬ AwaitsDeletion a.outgoing) × (¬ IsBusy a.outgoing) × AreNumbersSpent a.outgoing
RefusesOrder a Memory = IsEstablished a.phase × (¬ AwaitsDeletion a.outgoing) × MayIssue a.outgoing
RefusesOrder a TableFull = ⊥
RefusesOrder a SpisSpent = ⊥
RefusesOrder a TableMemory = ⊥
