use Rattle.gateway.proofs.RenamedAll.{renamed_laws}
use Rattle.gateway.proofs.RenamingLemmas.{apart_of}
use Rattle.gateway.proofs.StepRenaming.{renamed_traces}
use Rattle.gateway.proofs.laws.beside.steps_go_by_no_serial.Goals as goal

pub returns : goal.returns
returns g c = λ r meaning given old new said trace renaming before left is.
    renamed_traces r (renamed_laws r (apart_of r old.machine.held.next renaming)) meaning given old said trace new renaming before left is
