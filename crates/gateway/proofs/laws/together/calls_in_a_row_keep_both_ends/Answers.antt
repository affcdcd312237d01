use Rattle.effects.specs.Taking.{meaning_of}
use Rattle.gateway.proofs.CarryLemmas.{calls_keep_both_ends}
use Rattle.gateway.proofs.laws.together.calls_in_a_row_keep_both_ends.Goals as goal

pub returns : goal.returns
returns g c = λ lists outputs old new calls.
    calls_keep_both_ends (meaning_of g.C.Sealer g.C.Agreement g.C.Proof) g.C.Sealer.body_of g.C.Sealer.plain_of c.both_ends_keep_their_promises.ensures lists outputs old new calls
