use Rattle.std.proofs.Common.{◌∙◌, ap, sym}
use Rattle.std.specs.FinMap as map
use Rattle.std.specs.FinSet as set
use Rattle.sadb.specs.Storage.{GivenSpis}
use Rattle.sadb.proofs.TableLemmas.{installed_in, has_room}
use Rattle.sadb.proofs.table.Table.install.Goals as goal

pub add-serial-requires-clause-room : goal.add-serial-requires-clause-room
add-serial-requires-clause-room c = has_room c.args.self.now c.self.inside.places c.self.inside.pairs c.args.spi c.self.view_is c.self.invariant c.requires.reserved

pub invariant_of-self : goal.invariant_of-self
invariant_of-self c =
    let spi = c.number.ensures in
    let held : GivenSpis = c.self.inside.places in
    (installed_in c.args.self.now c.self.inside.places c.hold.new.self c.self.inside.pairs c.add-serial.new.self c.args.spi c.args.pair c.add-serial.result
    c.self.view_is c.self.invariant c.requires.reserved c.requires.its_own c.add-serial.ensures.next c.add-serial.ensures.new_serial c.add-serial.ensures.content c.add-serial.ensures.room c.add-serial.ensures.no_more
    (c.hold.ensures.content ∙ ap (λ q. record held { reserved = set.remove held.reserved q; serials = map.insert held.serials q c.add-serial.result }) spi)
    (ap (map.get held.serials) (sym spi) ∙ c.hold.ensures.new_serial)).sound

pub returns : goal.returns
returns c =
    let spi = c.number.ensures in
    let held : GivenSpis = c.self.inside.places in
    (installed_in c.args.self.now c.self.inside.places c.hold.new.self c.self.inside.pairs c.add-serial.new.self c.args.spi c.args.pair c.add-serial.result
    c.self.view_is c.self.invariant c.requires.reserved c.requires.its_own c.add-serial.ensures.next c.add-serial.ensures.new_serial c.add-serial.ensures.content c.add-serial.ensures.room c.add-serial.ensures.no_more
    (c.hold.ensures.content ∙ ap (λ q. record held { reserved = set.remove held.reserved q; serials = map.insert held.serials q c.add-serial.result }) spi)
    (ap (map.get held.serials) (sym spi) ∙ c.hold.ensures.new_serial)).installs
