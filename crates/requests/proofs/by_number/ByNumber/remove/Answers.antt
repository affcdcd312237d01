use Rattle.std.proofs.Common.{◌∙◌, ◌≡◌, ◌-◌, ◌+◌, sym, ap, subst, Some, IsSome, length, arith}
use Rattle.std.specs.FinMap as map
use Rattle.std.specs.List.{position}
use Rattle.std.specs.Vec.{vec_capacity}
use Rattle.requests.specs.Storage.{Held, StandOnce}
use Rattle.requests.proofs.EntryLemmas.{placed, has_place, is_under}
use Rattle.requests.proofs.by_number.ByNumber.remove.Goals as goal

pub unwrap-place-requires : goal.unwrap-place-requires
unwrap-place-requires g c =
    let there = subst (λ (h : Held _). IsSome (map.get h.items c.args.number)) (sym c.self.view_is) c.requires in
    has_place c.self.inside.entries.items c.args.number there c.place.result (c.place.ensures ∙ ap (position (is_under c.args.number)) c.deref.ensures.value)

pub invariant_of-self : goal.invariant_of-self
invariant_of-self g c =
    let found = sym (ap (position (is_under c.args.number)) c.deref.ensures.value) ∙ sym c.place.ensures ∙ c.unwrap-place.ensures in
    subst StandOnce (sym c.remove.ensures.items)
    (placed c.self.inside.entries.items c.args.number c.unwrap-place.result c.remove.result c.self.invariant found).once

pub returns-clause-there : goal.returns-clause-there
returns-clause-there g c =
    let found = sym (ap (position (is_under c.args.number)) c.deref.ensures.value) ∙ sym c.place.ensures ∙ c.unwrap-place.ensures in
    sym (ap (λ (h : Held _). map.get h.items c.args.number) c.self.view_is)
    ∙ (placed c.self.inside.entries.items c.args.number c.unwrap-place.result c.remove.result c.self.invariant found).item c.remove.result
    ∙ ap (λ e. Some e.1) (sym c.remove.ensures.value)

pub returns-clause-content : goal.returns-clause-content
returns-clause-content g c =
    let found = sym (ap (position (is_under c.args.number)) c.deref.ensures.value) ∙ sym c.place.ensures ∙ c.unwrap-place.ensures in
    let shown =
    ap map.from_entries c.remove.ensures.items
    ∙ (placed c.self.inside.entries.items c.args.number c.unwrap-place.result c.remove.result c.self.invariant found).left
    ∙ ap (λ (h : Held _). map.remove h.items c.args.number) c.self.view_is in
    let room : vec_capacity c.remove.new.self - length c.remove.new.self.items ≡ c.args.self.now.room + 1 =
    (let was : vec_capacity c.self.inside.entries - length c.self.inside.entries.items ≡ c.args.self.now.room = ap (λ (h : Held _). h.room) c.self.view_is in
    let whole = c.self.inside.entries.ok in
    let still = c.remove.new.self.ok in
    let less = c.remove.ensures.len in
    let same = c.remove.ensures.capacity in
    omega arith) in
    λ i. record { items = shown i; room = room i }
