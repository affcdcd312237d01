use Rattle.std.proofs.Common.{arith}
use Rattle.std.specs.Vec.{vec_capacity}
use Rattle.sadb.proofs.GivenLemmas.{taken}
use Rattle.sadb.proofs.places.Places.hold.Goals as goal

pub overflow_sub-place : goal.overflow_sub-place
overflow_sub-place c = (taken c.args.self.now c.self.inside.start c.self.inside.places.items (vec_capacity c.self.inside.places) c.self.inside.reserved c.args.spi c.args.serial c.self.view_is c.self.invariant c.requires).place.from_start

pub index_mut-requires : goal.index_mut-requires
index_mut-requires c =
    let inside = (taken c.args.self.now c.self.inside.start c.self.inside.places.items (vec_capacity c.self.inside.places) c.self.inside.reserved c.args.spi c.args.serial c.self.view_is c.self.invariant c.requires).place.inside in
    let whole = c.self.inside.places.ok in
    omega arith

pub invariant_of-self : goal.invariant_of-self
invariant_of-self c = (taken c.args.self.now c.self.inside.start c.self.inside.places.items (vec_capacity c.self.inside.places) c.self.inside.reserved c.args.spi c.args.serial c.self.view_is c.self.invariant c.requires).sound

pub returns-clause-content : goal.returns-clause-content
returns-clause-content c = (taken c.args.self.now c.self.inside.start c.self.inside.places.items (vec_capacity c.self.inside.places) c.self.inside.reserved c.args.spi c.args.serial c.self.view_is c.self.invariant c.requires).shown

pub overflow_sub-self : goal.overflow_sub-self
overflow_sub-self c = (taken c.args.self.now c.self.inside.start c.self.inside.places.items (vec_capacity c.self.inside.places) c.self.inside.reserved c.args.spi c.args.serial c.self.view_is c.self.invariant c.requires).some

pub returns-clause-new_serial : goal.returns-clause-new_serial
returns-clause-new_serial c = (taken c.args.self.now c.self.inside.start c.self.inside.places.items (vec_capacity c.self.inside.places) c.self.inside.reserved c.args.spi c.args.serial c.self.view_is c.self.invariant c.requires).new_serial
