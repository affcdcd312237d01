use Rattle.std.proofs.Common.{◌∙◌, sym, ap, Some}
use Rattle.std.specs.FinMap as map
use Rattle.std.specs.List.{position}
use Rattle.requests.specs.Storage.{Held}
use Rattle.requests.proofs.EntryLemmas.{placed, unplaced, is_under}
use Rattle.requests.proofs.by_number.ByNumber.get.Goals as goal

pub returns-in_err-place : goal.returns-in_err-place
returns-in_err-place g c =
    let lost = sym (ap (position (is_under c.args.number)) c.deref.ensures.value) ∙ sym c.place.ensures ∙ c.in_err-place.was in
    rw c.from_residual.ensures (sym (sym (ap (λ (h : Held _). map.get h.items c.args.number) c.self.view_is) ∙ unplaced c.self.inside.entries.items c.args.number lost))

pub returns : goal.returns
returns g c =
    let found = sym (ap (position (is_under c.args.number)) c.deref.ensures.value) ∙ sym c.place.ensures ∙ c.in_ok-place.was in
    ap (λ e. Some e.1) c.index.ensures
    ∙ sym (sym (ap (λ (h : Held _). map.get h.items c.args.number) c.self.view_is) ∙ (placed c.self.inside.entries.items c.args.number c.in_ok-place.place c.index.result.now c.self.invariant found).item c.index.result.now)
