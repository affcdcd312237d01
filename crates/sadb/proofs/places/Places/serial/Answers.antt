use Rattle.std.proofs.Common.{◌≤◌, ◌<◌, ◌∙◌, ◌-◌, arith, sym, ap}
use Rattle.std.proofs.lemmas.Bool.Decides.{nat_tests}
use Rattle.std.specs.Vec.{vec_capacity}
use Rattle.sadb.specs.Storage.{serial_at, place_at}
use Rattle.sadb.proofs.GivenLemmas.{shown_at, shown_below}
use Rattle.sadb.proofs.places.Places.serial.Goals as goal

pub returns-then-spi-self : goal.returns-then-spi-self
returns-then-spi-self c =
    let below : c.args.spi < c.self.inside.start = let is = c.if-spi-self.true in grind (arith, nat_tests) in
    sym (shown_below c.args.self.now c.self.inside.start c.self.inside.places.items (vec_capacity c.self.inside.places) c.args.spi c.self.view_is below)

pub returns : goal.returns
returns c =
    let upward : c.self.inside.start ≤ c.args.spi = let is = c.if-spi-self.false in grind (arith, nat_tests) in
    c.serial_at.ensures ∙ ap (λ places. serial_at (place_at places (c.args.spi - c.self.inside.start))) c.deref.ensures.value
    ∙ sym (shown_at c.args.self.now c.self.inside.start c.self.inside.places.items (vec_capacity c.self.inside.places) c.args.spi c.self.view_is upward)
