use Rattle.std.proofs.Common.{◌∙◌, ◌+◌, ◌-◌, sym, ap, subst, length}
use Rattle.std.specs.FinMap as map
use Rattle.std.specs.Vec.{vec_capacity}
use Rattle.requests.specs.Storage.{Held, StandOnce}
use Rattle.requests.proofs.EntryLemmas.{one_item_more, pushed, pushed_once, get_is}
use Rattle.requests.proofs.by_number.ByNumber.add.Goals as goal

pub invariant_of-self : goal.invariant_of-self
invariant_of-self g c =
    subst StandOnce (sym c.push_reserved.ensures.items)
    (pushed_once c.self.inside.entries.items c.args.number c.args.item c.self.invariant
    (sym (get_is c.self.inside.entries.items c.args.number) ∙ ap (λ (h : Held _). map.get h.items c.args.number) c.self.view_is ∙ c.requires.new_number))

pub returns-clause-content : goal.returns-clause-content
returns-clause-content g c =
    let shown =
    ap map.from_entries c.push_reserved.ensures.items
    ∙ pushed c.self.inside.entries.items c.args.number c.args.item
    (sym (get_is c.self.inside.entries.items c.args.number) ∙ ap (λ (h : Held _). map.get h.items c.args.number) c.self.view_is ∙ c.requires.new_number)
    ∙ ap (λ (h : Held _). map.insert h.items c.args.number c.args.item) c.self.view_is in
    λ i. record { items = shown i; room = vec_capacity c.push_reserved.new.self - length c.push_reserved.new.self.items }

pub returns-clause-len : goal.returns-clause-len
returns-clause-len g c =
    let absent = sym (get_is c.self.inside.entries.items c.args.number) ∙ ap (λ (h : Held _). map.get h.items c.args.number) c.self.view_is ∙ c.requires.new_number in
    ap map.len (ap map.from_entries c.push_reserved.ensures.items ∙ pushed c.self.inside.entries.items c.args.number c.args.item absent)
    ∙ one_item_more (map.from_entries c.self.inside.entries.items) c.args.number c.args.item (get_is c.self.inside.entries.items c.args.number ∙ absent)
    ∙ ap (λ (h : Held _). map.len h.items + 1) c.self.view_is
