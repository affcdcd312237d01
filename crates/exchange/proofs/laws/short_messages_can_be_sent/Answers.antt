use Rattle.std.proofs.Common.{arith}
use Rattle.exchange.proofs.laws.short_messages_can_be_sent.Goals as goal

pub returns : goal.returns
returns c = λ m header fields few.
    (let fits = c.messages_that_fit_are_spelled.ensures m header fields (omega (arith, few)) in
    record { clear = fits.octets; spelled = fits.spelled; few = omega (arith, fits.long, few) })
