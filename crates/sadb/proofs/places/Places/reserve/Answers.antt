use Rattle.std.proofs.Common.{◌≤◌, ◌+◌, ◌-◌, ◌∙◌, arith, rules, sym, ap, subst, length}
use Rattle.std.specs.FinSet as set
use Rattle.std.specs.Vec.{vec_capacity}
use Rattle.sadb.specs.Storage.{AreGiven}
use Rattle.sadb.proofs.GivenLemmas.{given, given_of}
use Rattle.sadb.proofs.places.Places.reserve.Goals as goal

pub overflow_add-self : goal.overflow_add-self
overflow_add-self c =
    let few = (given c.args.self.now c.self.inside.start c.self.inside.places.items (vec_capacity c.self.inside.places) (vec_capacity c.push_reserved.new.self) c.self.inside.reserved (let same = c.push_reserved.ensures.capacity in omega arith) c.self.view_is c.self.invariant c.requires.unspent).few in
    search rules

pub invariant_of-self : goal.invariant_of-self
invariant_of-self c =
    let pushed = c.push_reserved.ensures.items in
    subst (λ places. AreGiven c.self.inside.start places (c.self.inside.reserved + 1)) (sym pushed)
    (given c.args.self.now c.self.inside.start c.self.inside.places.items (vec_capacity c.self.inside.places) (vec_capacity c.push_reserved.new.self) c.self.inside.reserved (let same = c.push_reserved.ensures.capacity in omega arith) c.self.view_is c.self.invariant c.requires.unspent).sound

pub returns-clause-new_spi : goal.returns-clause-new_spi
returns-clause-new_spi c =
    ap (set.contains c.args.self.now.reserved) c.next-spi.ensures
    ∙ (given c.args.self.now c.self.inside.start c.self.inside.places.items (vec_capacity c.self.inside.places) (vec_capacity c.push_reserved.new.self) c.self.inside.reserved (let same = c.push_reserved.ensures.capacity in omega arith) c.self.view_is c.self.invariant c.requires.unspent).new_spi

pub returns-clause-content : goal.returns-clause-content
returns-clause-content c =
    let pushed = c.push_reserved.ensures.items in
    let spi = c.next-spi.ensures in
    let is = (given c.args.self.now c.self.inside.start c.self.inside.places.items (vec_capacity c.self.inside.places) (vec_capacity c.push_reserved.new.self) c.self.inside.reserved (let same = c.push_reserved.ensures.capacity in omega arith) c.self.view_is c.self.invariant c.requires.unspent).shown in
    ap (λ places. given_of c.self.inside.start places (vec_capacity c.push_reserved.new.self)) pushed ∙ is ∙ (λ i. record { start = c.args.self.now.start; given = c.args.self.now.given + 1; reserved = set.insert c.args.self.now.reserved (sym spi i); serials = c.args.self.now.serials; room = vec_capacity c.push_reserved.new.self - length (sym pushed i) })

pub returns-clause-room : goal.returns-clause-room
returns-clause-room c =
    let pushed = c.push_reserved.ensures.items in
    let room = (given c.args.self.now c.self.inside.start c.self.inside.places.items (vec_capacity c.self.inside.places) (vec_capacity c.push_reserved.new.self) c.self.inside.reserved (let same = c.push_reserved.ensures.capacity in omega arith) c.self.view_is c.self.invariant c.requires.unspent).room in
    subst (λ places. c.args.self.now.room ≤ (vec_capacity c.push_reserved.new.self - length places) + 1) (sym pushed) room
