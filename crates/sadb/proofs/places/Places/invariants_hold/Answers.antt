use Rattle.std.specs.Vec.{vec_capacity}
use Rattle.sadb.proofs.GivenLemmas.{holds}
use Rattle.sadb.proofs.places.Places.invariants_hold.Goals as goal

pub returns-clause-start : goal.returns-clause-start
returns-clause-start c = (holds c.args.self.now c.self.inside.start c.self.inside.places.items (vec_capacity c.self.inside.places) c.self.inside.reserved c.self.view_is c.self.invariant).start

pub returns-clause-reserved : goal.returns-clause-reserved
returns-clause-reserved c = (holds c.args.self.now c.self.inside.start c.self.inside.places.items (vec_capacity c.self.inside.places) c.self.inside.reserved c.self.view_is c.self.invariant).reserved

pub returns-clause-held : goal.returns-clause-held
returns-clause-held c = (holds c.args.self.now c.self.inside.start c.self.inside.places.items (vec_capacity c.self.inside.places) c.self.inside.reserved c.self.view_is c.self.invariant).held
