use Rattle.gateway.proofs.DatagramRemoval.{RemovalLaws}
use Rattle.gateway.proofs.Removal.{removed_traces}
use Rattle.gateway.proofs.laws.beside.others_step_as_without.Goals as goal

pub returns : goal.returns
returns g c =
    let laws : RemovalLaws = record { itself = c.associations_stay_themselves.ensures } in
    λ strange meaning given old new said trace sound half none given_before apart enough is.
    removed_traces laws strange meaning old sound half none given_before given said trace new apart enough is
