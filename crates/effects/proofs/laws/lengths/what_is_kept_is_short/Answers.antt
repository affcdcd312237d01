use Rattle.effects.proofs.KeepingLemmas.{admitted_short, begun_short, sent_is_short, short_stays}
use Rattle.effects.proofs.laws.lengths.what_is_kept_is_short.Goals as goal

pub returns-clause-stays : goal.returns-clause-stays
returns-clause-stays c = short_stays (record { why = c.repeats_say_why.ensures })

pub returns-clause-sent : goal.returns-clause-sent
returns-clause-sent c = sent_is_short (record { why = c.repeats_say_why.ensures })

pub returns-clause-begun : goal.returns-clause-begun
returns-clause-begun c = begun_short

pub returns-clause-admitted : goal.returns-clause-admitted
returns-clause-admitted c = admitted_short
