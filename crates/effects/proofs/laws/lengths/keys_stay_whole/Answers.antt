use Rattle.effects.proofs.WholeKeyLemmas.{admitted_whole, taken_whole}
use Rattle.effects.proofs.laws.lengths.keys_stay_whole.Goals as goal

pub returns-clause-admitted : goal.returns-clause-admitted
returns-clause-admitted c = admitted_whole (record { initiator = c.derived_keys_are_keys.ensures.initiator; responder = c.derived_keys_are_keys.ensures.responder })

pub returns-clause-taken : goal.returns-clause-taken
returns-clause-taken c = taken_whole (record { initiator = c.derived_keys_are_keys.ensures.initiator; responder = c.derived_keys_are_keys.ensures.responder })
