use Rattle.gateway.proofs.FittingLemmas.{step_fits, SentLaws}
use Rattle.gateway.proofs.laws.outputs.what_is_sent_fits.Goals as goal

pub returns : goal.returns
returns g c =
    let laws : SentLaws = record { short = c.what_is_sent_is_short.ensures.sent; again = c.what_is_sent_is_short.ensures.again; openable = c.sealed_packets_open.ensures } in
    λ meaning given said trace old new sound is. step_fits laws meaning given said trace old new sound is
