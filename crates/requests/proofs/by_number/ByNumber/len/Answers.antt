use Rattle.std.proofs.Common.{◌≡◌, ap, arith, rules, length}
use Rattle.std.specs.FinMap as map
use Rattle.requests.specs.Storage.{Held}
use Rattle.requests.proofs.EntryLemmas.{as_many}
use Rattle.requests.proofs.by_number.ByNumber.len.Goals as goal

pub returns : goal.returns
returns g c =
    let counted : c.len.result ≡ length c.self.inside.entries.items = search rules in
    let many = as_many c.self.inside.entries.items c.self.invariant in
    let shown = ap (λ (h : Held _). map.len h.items) c.self.view_is in
    omega arith
