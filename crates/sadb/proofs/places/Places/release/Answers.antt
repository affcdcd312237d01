use Rattle.std.proofs.Common.{arith}
use Rattle.std.specs.Vec.{vec_capacity}
use Rattle.sadb.proofs.GivenLemmas.{released}
use Rattle.sadb.proofs.places.Places.release.Goals as goal

pub overflow_sub-place : goal.overflow_sub-place
overflow_sub-place c = (released c.args.self.now c.self.inside.start c.self.inside.places.items (vec_capacity c.self.inside.places) c.self.inside.reserved c.args.spi c.self.view_is c.self.invariant c.requires).place.from_start

pub index_mut-requires : goal.index_mut-requires
index_mut-requires c =
    let inside = (released c.args.self.now c.self.inside.start c.self.inside.places.items (vec_capacity c.self.inside.places) c.self.inside.reserved c.args.spi c.self.view_is c.self.invariant c.requires).place.inside in
    let whole = c.self.inside.places.ok in
    omega arith

pub invariant_of-self : goal.invariant_of-self
invariant_of-self c = (released c.args.self.now c.self.inside.start c.self.inside.places.items (vec_capacity c.self.inside.places) c.self.inside.reserved c.args.spi c.self.view_is c.self.invariant c.requires).sound

pub returns : goal.returns
returns c = (released c.args.self.now c.self.inside.start c.self.inside.places.items (vec_capacity c.self.inside.places) c.self.inside.reserved c.args.spi c.self.view_is c.self.invariant c.requires).shown

pub overflow_sub-self : goal.overflow_sub-self
overflow_sub-self c = (released c.args.self.now c.self.inside.start c.self.inside.places.items (vec_capacity c.self.inside.places) c.self.inside.reserved c.args.spi c.self.view_is c.self.invariant c.requires).some
