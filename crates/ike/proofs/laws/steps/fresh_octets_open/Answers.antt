use Rattle.ike.proofs.MoveLemmas.{fresh_opens}
use Rattle.ike.proofs.laws.steps.fresh_octets_open.Goals as goal

pub returns : goal.returns
returns g c = λ meaning input body plain fresh. fresh_opens g.S.Sealer.body_of g.S.Sealer.plain_of c.what_is_sealed_opens.ensures meaning input body plain fresh
