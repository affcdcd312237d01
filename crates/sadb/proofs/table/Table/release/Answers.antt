use Rattle.std.proofs.Common.{◌∙◌, ap}
use Rattle.std.specs.FinSet as set
use Rattle.sadb.specs.Storage.{GivenSpis}
use Rattle.sadb.proofs.TableLemmas.{released_in}
use Rattle.sadb.proofs.table.Table.release.Goals as goal

pub invariant_of-self : goal.invariant_of-self
invariant_of-self c =
    let held : GivenSpis = c.self.inside.places in
    (released_in c.args.self.now c.self.inside.places c.release.new.self c.self.inside.pairs c.args.spi c.self.view_is c.self.invariant c.requires (c.release.ensures ∙ ap (λ q. record held { reserved = set.remove held.reserved q }) c.number.ensures)).sound

pub returns : goal.returns
returns c =
    let held : GivenSpis = c.self.inside.places in
    (released_in c.args.self.now c.self.inside.places c.release.new.self c.self.inside.pairs c.args.spi c.self.view_is c.self.invariant c.requires (c.release.ensures ∙ ap (λ q. record held { reserved = set.remove held.reserved q }) c.number.ensures)).releases
