use Rattle.std.proofs.Common.{refl}
use Rattle.flows.proofs.StayingLemmas.{none_comes}
use Rattle.flows.proofs.laws.no_pair_comes.Goals as goal

pub returns-clause-opening : goal.returns-clause-opening
returns-clause-opening c = λ old new serial packet number next payload is. none_comes old serial is.pair _ new is.changed refl refl refl

pub returns-clause-refusing : goal.returns-clause-refusing
returns-clause-refusing c = λ old new serial packet fault is. none_comes old serial is.pair _ new is.changed refl refl refl

pub returns-clause-sealing : goal.returns-clause-sealing
returns-clause-sealing c = λ old new serial next payload before number after is. none_comes old serial is.pair _ new is.changed refl refl refl
