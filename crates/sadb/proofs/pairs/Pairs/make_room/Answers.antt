use Rattle.sadb.proofs.PairsLemmas.{by_serial_grown}
use Rattle.sadb.proofs.pairs.Pairs.make_room.Goals as goal

pub invariant_of-self-2 : goal.invariant_of-self-2
invariant_of-self-2 c = by_serial_grown c.self.inside.keys.items c.reserve.new.self.items c.self.inside.slab c.reserve-2.new.self c.reserve.ensures.items c.reserve-2.ensures.rest_kept c.self.invariant
