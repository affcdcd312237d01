use Rattle.std.proofs.Common.{◌∙◌, ◌≡◌, sym, ap, subst, Some, None, IsSome, is_some}
use Rattle.std.proofs.lemmas.Bool.{true≢false}
use Rattle.std.specs.FinMap as map
use Rattle.std.specs.Option.{option_copied}
use Rattle.requests.specs.Storage.{Held, HasNoneAbove, IsNextItem, next_above}
use Rattle.requests.proofs.EntryLemmas.{next_item, no_item, next_there}
use Rattle.requests.proofs.by_number.ByNumber.after.Goals as goal

pub returns-in_err-next-clause-none : goal.returns-in_err-next-clause-none
returns-in_err-next-clause-none g c =
    let next : next_above c.args.number None c.self.inside.entries.items ≡ None = sym (c.next_number.ensures ∙ ap (next_above c.args.number None) c.deref.ensures.value) ∙ c.in_err-next.was in
    rw c.from_residual.ensures (subst (λ (h : Held _). HasNoneAbove h.items c.args.number) c.self.view_is (no_item c.self.inside.entries.items c.args.number next))

pub returns-in_err-get-clause-none : goal.returns-in_err-get-clause-none
returns-in_err-get-clause-none g c =
    let next : next_above c.args.number None c.self.inside.entries.items ≡ Some c.in_ok-next.next = sym (c.next_number.ensures ∙ ap (next_above c.args.number None) c.deref.ensures.value) ∙ c.in_ok-next.was in
    absurd (let there = subst (λ (h : Held _). IsSome (map.get h.items c.in_ok-next.next)) c.self.view_is (next_there c.self.inside.entries.items c.args.number c.in_ok-next.next next) in
    let none = sym c.get.ensures ∙ ap option_copied c.in_err-get.was in
    true≢false (sym there ∙ ap is_some none))

pub returns-clause-some : goal.returns-clause-some
returns-clause-some g c =
    let next : next_above c.args.number None c.self.inside.entries.items ≡ Some c.in_ok-next.next = sym (c.next_number.ensures ∙ ap (next_above c.args.number None) c.deref.ensures.value) ∙ c.in_ok-next.was in
    subst (λ (h : Held _). IsNextItem h.items c.args.number c.in_ok-next.next c.in_ok-get.field-0.now) c.self.view_is
    (next_item c.self.inside.entries.items c.args.number c.in_ok-next.next c.in_ok-get.field-0.now next
    (ap option_copied (sym c.in_ok-get.was) ∙ c.get.ensures ∙ ap (λ (h : Held _). map.get h.items c.in_ok-next.next) (sym c.self.view_is)))
