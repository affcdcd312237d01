use Rattle.ike.specs.Machines.{setup_at}
use Rattle.ike.proofs.SealingLemmas.{taken_by}
use Rattle.ike.proofs.laws.sealing.what_is_told_was_taken.Goals as goal

pub returns : goal.returns
returns c = λ meaning entries from octets fresh old table stepped new new_table serial sound steps told.
    taken_by meaning (setup_at old entries fresh) old.cookies from octets old.held table sound.held stepped new.held new_table serial told steps.1
