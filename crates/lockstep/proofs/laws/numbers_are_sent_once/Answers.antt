use Rattle.lockstep.proofs.PromiseLemmas.{always_sound}
use Rattle.lockstep.proofs.laws.numbers_are_sent_once.Goals as goal

pub returns-clause-request : goal.returns-clause-request
returns-clause-request c = λ e others n a b sound first second. sound.once.request n a b first second

pub returns-clause-response : goal.returns-clause-response
returns-clause-response c = λ e others n a b sound first second. sound.once.response n a b first second

pub returns-clause-always : goal.returns-clause-always
returns-clause-always c = λ old new steps begun is. let sound = always_sound old new steps begun is in (sound.one.once, sound.other.once)
