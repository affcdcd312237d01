use Rattle.std.proofs.Common.{◌∙◌, ◌≡◌, ◌-◌, sym, ap, subst, nat_le, length, rules, arith}
use Rattle.std.proofs.lemmas.Fn.{filter_same}
use Rattle.std.specs.FinMap as map
use Rattle.std.specs.List.{filter}
use Rattle.std.specs.Vec.{vec_capacity}
use Rattle.requests.specs.Storage.{Held, StandOnce}
use Rattle.requests.proofs.EntryLemmas.{as_many, passing_map, passing_once}
use Rattle.requests.proofs.by_number.ByNumber.keep_from.Goals as goal

pub invariant_of-self : goal.invariant_of-self
invariant_of-self g c =
    let left : c.retain.new.self.items ≡ filter (λ e. nat_le c.args.first e.0) c.self.inside.entries.items = filter_same _ (λ e. nat_le c.args.first e.0) _ (λ x b f k. search rules) _ _ c.retain.ensures.filtered in
    subst StandOnce (sym left) (passing_once (nat_le c.args.first) c.self.inside.entries.items c.self.invariant)

pub returns-clause-content : goal.returns-clause-content
returns-clause-content g c =
    let left : c.retain.new.self.items ≡ filter (λ e. nat_le c.args.first e.0) c.self.inside.entries.items = filter_same _ (λ e. nat_le c.args.first e.0) _ (λ x b f k. search rules) _ _ c.retain.ensures.filtered in
    let shown =
    ap map.from_entries left ∙ passing_map (nat_le c.args.first) c.self.inside.entries.items
    ∙ ap (λ (h : Held _). map.retain_keys h.items (nat_le c.args.first)) c.self.view_is in
    λ i. record { items = shown i; room = vec_capacity c.retain.new.self - length c.retain.new.self.items }

pub returns-clause-room : goal.returns-clause-room
returns-clause-room g c =
    let left : c.retain.new.self.items ≡ filter (λ e. nat_le c.args.first e.0) c.self.inside.entries.items = filter_same _ (λ e. nat_le c.args.first e.0) _ (λ x b f k. search rules) _ _ c.retain.ensures.filtered in
    let once = subst StandOnce (sym left) (passing_once (nat_le c.args.first) c.self.inside.entries.items c.self.invariant) in
    let before : map.len c.args.self.now.items ≡ length c.self.inside.entries.items = sym (ap (λ (h : Held _). map.len h.items) c.self.view_is) ∙ as_many c.self.inside.entries.items c.self.invariant in
    let after = as_many c.retain.new.self.items once in
    let room : vec_capacity c.self.inside.entries - length c.self.inside.entries.items ≡ c.args.self.now.room = ap (λ (h : Held _). h.room) c.self.view_is in
    let same = c.retain.ensures.capacity in
    let fewer = c.retain.ensures.bound in
    let within = c.self.ranges in
    omega arith
