use Rattle.std.proofs.Common.{rules, ◌==◌, ◌+◌}
use Rattle.std.proofs.lemmas.Iterator.{YieldsList-from_map_by}
use Rattle.std.proofs.lemmas.Iterator.Adapters.{YieldsList-from_skip}
use Rattle.std.proofs.lemmas.Iterator.Consumers.{map_from_collect, YieldsList-at, YieldsList-from_enumerate, YieldsList-from_filter}
use Rattle.std.proofs.lemmas.Iterator.Splits.{YieldsList-from_slice_split}
use Rattle.gw_script.specs.Lines.{is_directive, told_by}
use Rattle.gw_script.proofs.lines.directives.Goals as goal

pub returns : goal.returns
returns c =
    map_from_collect c.collect.result c.collect.ensures.ran
    (YieldsList-from_map_by _ told_by (λ line. (line.0 + 1, line.1))
    (YieldsList-at c.map.ensures.source
    (YieldsList-from_filter _ (λ line. is_directive line.1)
    (YieldsList-at c.filter.ensures.source
    (YieldsList-from_skip 1
    (YieldsList-at c.skip.ensures.source
    (YieldsList-from_enumerate
    (YieldsList-at c.enumerate.ensures.source
    (YieldsList-from_slice_split _ (λ octet. octet == 10) c.args.script.now c.split.ensures.rest c.split.ensures.done c.split.ensures.closure (λ x r q k. search (rules, k))))
    c.enumerate.ensures.count))
    c.skip.ensures.count))
    c.filter.ensures.closure (λ x r q k. search (rules, k))))
    c.map.ensures.closure (λ x r q k. search (rules, k)))
