use Rattle.std.proofs.Common.{arith}
use Rattle.std.specs.Vec.{vec_capacity}
use Rattle.sadb.proofs.GivenLemmas.{freed}
use Rattle.sadb.proofs.places.Places.retire.Goals as goal

pub overflow_sub-held : goal.overflow_sub-held
overflow_sub-held c = (freed c.args.self.now c.self.inside.start c.self.inside.places.items (vec_capacity c.self.inside.places) c.self.inside.reserved c.args.spi c.self.view_is c.self.invariant c.requires).place.from_start

pub index_mut-requires : goal.index_mut-requires
index_mut-requires c =
    let inside = (freed c.args.self.now c.self.inside.start c.self.inside.places.items (vec_capacity c.self.inside.places) c.self.inside.reserved c.args.spi c.self.view_is c.self.invariant c.requires).place.inside in
    let whole = c.self.inside.places.ok in
    omega arith

pub invariant_of-self : goal.invariant_of-self
invariant_of-self c = (freed c.args.self.now c.self.inside.start c.self.inside.places.items (vec_capacity c.self.inside.places) c.self.inside.reserved c.args.spi c.self.view_is c.self.invariant c.requires).sound

pub returns : goal.returns
returns c = (freed c.args.self.now c.self.inside.start c.self.inside.places.items (vec_capacity c.self.inside.places) c.self.inside.reserved c.args.spi c.self.view_is c.self.invariant c.requires).shown
