use Rattle.std.proofs.Common.{ap, refl}
use Rattle.esp.specs.Views.{Sending}
use Rattle.sadb.specs.Database.{Database}
use Rattle.sadb.proofs.SenderLemmas.{senders_kept}
use Rattle.sadb.proofs.laws.senders_stay.Goals as goal

pub returns-clause-opening : goal.returns-clause-opening
returns-clause-opening c = λ old new serial packet number next payload is.
    senders_kept old.pairs new.pairs serial is.pair _ is.changed.there (ap (λ (d : Database). d.pairs) is.changed.content) refl

pub returns-clause-refusing : goal.returns-clause-refusing
returns-clause-refusing c = λ old new serial packet fault is.
    senders_kept old.pairs new.pairs serial is.pair _ is.changed.there (ap (λ (d : Database). d.pairs) is.changed.content) refl

pub returns-clause-sealing : goal.returns-clause-sealing
returns-clause-sealing c = λ old new serial next payload before number after is.
    senders_kept old.pairs new.pairs serial is.pair _ is.changed.there (ap (λ (d : Database). d.pairs) is.changed.content) (ap (λ (s : Sending). s.association) is.sealed.last)
