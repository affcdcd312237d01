use Rattle.std.proofs.Common.{ap, sym, subst, ◌∙◌}
use Rattle.std.specs.Option.{option_copied}
use Rattle.sadb.specs.Database.{Database}
use Rattle.sadb.specs.declared.pair.Pair.{Pair}
use Rattle.setup.specs.Configs.{setup_of}
use Rattle.informational.specs.declared.ordering.Order.TheVariants as asked
use Rattle.ike.specs.Asking.{AsksFor, AsksThat}
use Rattle.ike.specs.Orders as orders
use Rattle.ike.specs.declared.output.Stepped.{Stepped}
use Rattle.ike.proofs.AskingLemmas.{ok_and}
use Rattle.ike.proofs.asking.delete_child.Goals as goal

pub ask_by-requires : goal.ask_by-requires
ask_by-requires g c = record { live = record { pair = c.in-Some.pair.now; there = sym c.get.ensures ∙ ap option_copied c.in-Some.is; live = c.in-Live.is } }

pub returns-in-Live-clause-asked : goal.returns-in-Live-clause-asked
returns-in-Live-clause-asked g c =
    let body_of = g.C.Sealer.body_of in
    let setup = setup_of c.args.setup.now in
    let table : Database = c.args.table.now in
    let pair : Pair = c.in-Some.pair.now in
    ok_and c.ask_by.result (λ (s : Stepped). AsksThat body_of setup pair.ike (asked.DeleteChild c.args.child c.spi-spi.result) c.args.held.now table s c.ask_by.new.held c.ask_by.new.table)
    (λ (s : Stepped). AsksFor body_of setup (orders.DeleteChild c.args.child) c.args.held.now table s c.ask_by.new.held c.ask_by.new.table) c.ask_by.ensures.asked (λ s is. record {
      pair = pair;
      there = sym c.get.ensures ∙ ap option_copied c.in-Some.is;
      live = c.in-Live.is;
      asks = subst (λ n. AsksThat body_of setup pair.ike (asked.DeleteChild c.args.child n) c.args.held.now table s c.ask_by.new.held c.ask_by.new.table) c.spi-spi.ensures is;
    })
