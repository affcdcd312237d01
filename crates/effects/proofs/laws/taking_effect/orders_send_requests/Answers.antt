use Rattle.effects.proofs.SendingLemmas.{further_sends, order_sends}
use Rattle.effects.proofs.laws.taking_effect.orders_send_requests.Goals as goal

pub returns-clause-ordered : goal.returns-clause-ordered
returns-clause-ordered c = order_sends

pub returns-clause-further : goal.returns-clause-further
returns-clause-further c = further_sends
