use Rattle.std.proofs.Common.{arith}
use Rattle.std.proofs.lemmas.List.{take_rest}
use Rattle.policy.proofs.ipv6.content_of.Goals as goal

pub returns-then-payload-octets : goal.returns-then-payload-octets
returns-then-payload-octets c =
    let read = rw (take_rest c.args.octets.now 4) at c.read_u16.ensures in
    (record { least = omega arith; most = omega arith; version = c.requires; payload = omega (arith, read, c.from-payload.ensures) }, take_rest c.args.octets.now 40)
