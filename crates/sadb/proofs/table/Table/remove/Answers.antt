use Rattle.std.proofs.Common.{◌∙◌, IsSome, sym, ap, subst}
use Rattle.std.specs.FinMap as map
use Rattle.sadb.specs.Storage.{GivenSpis}
use Rattle.sadb.proofs.TableLemmas.{removed_in, spi_held}
use Rattle.sadb.proofs.table.Table.remove.Goals as goal

pub retire-requires : goal.retire-requires
retire-requires c =
    let spi = c.spi.ensures in
    let there = c.remove-pair.ensures.there in
    let held = spi_held c.self.inside.places c.self.inside.pairs c.args.serial c.remove-pair.result c.self.invariant there in
    subst IsSome (sym (ap (map.get c.self.inside.places.serials) spi ∙ held)) search

pub invariant_of-self : goal.invariant_of-self
invariant_of-self c =
    let spi = c.spi.ensures in
    let held : GivenSpis = c.self.inside.places in
    (removed_in c.args.self.now c.self.inside.places c.retire.new.self c.self.inside.pairs c.remove-pair.new.self c.args.serial c.remove-pair.result c.self.view_is c.self.invariant c.remove-pair.ensures.there c.remove-pair.ensures.content c.remove-pair.ensures.room c.remove-pair.ensures.no_more (c.retire.ensures ∙ ap (λ q. record held { serials = map.remove held.serials q }) spi)).sound

pub returns : goal.returns
returns c =
    let spi = c.spi.ensures in
    let held : GivenSpis = c.self.inside.places in
    (removed_in c.args.self.now c.self.inside.places c.retire.new.self c.self.inside.pairs c.remove-pair.new.self c.args.serial c.remove-pair.result c.self.view_is c.self.invariant c.remove-pair.ensures.there c.remove-pair.ensures.content c.remove-pair.ensures.room c.remove-pair.ensures.no_more (c.retire.ensures ∙ ap (λ q. record held { serials = map.remove held.serials q }) spi)).removes
