use Rattle.std.proofs.Common.{ap}
use Rattle.sadb.specs.Storage.{PairsBySerial}
use Rattle.sadb.proofs.PairsLemmas.{sound_serial, sound_given, sound_window}
use Rattle.sadb.proofs.pairs.Pairs.invariants_hold.Goals as goal

pub returns-clause-serial : goal.returns-clause-serial
returns-clause-serial c =
    sound_serial c.self.inside.keys.items c.self.inside.slab c.args.self.now.pairs (ap (λ (s : PairsBySerial). s.pairs) c.self.view_is) c.self.invariant

pub returns-clause-given : goal.returns-clause-given
returns-clause-given c =
    sound_given c.self.inside.keys.items c.self.inside.slab c.args.self.now.pairs (ap (λ (s : PairsBySerial). s.pairs) c.self.view_is) c.args.self.now.next (ap (λ (s : PairsBySerial). s.next) c.self.view_is)

pub returns-clause-windows : goal.returns-clause-windows
returns-clause-windows c =
    sound_window c.self.inside.keys.items c.self.inside.slab c.args.self.now.pairs (ap (λ (s : PairsBySerial). s.pairs) c.self.view_is) c.self.invariant
