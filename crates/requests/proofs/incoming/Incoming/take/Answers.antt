use Rattle.std.proofs.Common.{◌≡◌, ◌+◌, ◌-◌, ◌∙◌, sym, ap, subst, arith, nat_le}
use Rattle.std.specs.FinMap as map
use Rattle.std.specs.FinSet as set
use Rattle.requests.specs.Incoming.{IsFreshRequest, TakesRequest}
use Rattle.requests.specs.Numbers.{NumberSet}
use Rattle.requests.specs.Storage.{Held, AreIncoming}
use Rattle.requests.proofs.IncomingLemmas.{Replies, are_after, takes}
use Rattle.requests.proofs.incoming.Incoming.take.Goals as goal

pub invariant_of-self : goal.invariant_of-self
invariant_of-self c =
    let from : c.saturating_sub-first.result ≡ c.args.number + 1 - c.self.inside.size = c.saturating_sub-first.ensures ∙ (λ i. c.from-end.ensures i + 1 - c.from.ensures i) in
    let kept : c.keep_from.new.self.items ≡ map.retain_keys (map.insert c.self.inside.kept.items c.args.number c.args.reply) (nat_le c.saturating_sub-first.result) =
    ap (λ (h : Held _). h.items) c.keep_from.ensures.content ∙ ap (λ (h : Held _). map.retain_keys h.items (nat_le c.saturating_sub-first.result)) c.add.ensures.content in
    let fresh = subst (λ r. IsFreshRequest r c.args.number) (sym c.self.view_is) c.requires.fresh in
    subst (λ (s : NumberSet). AreIncoming s c.self.inside.size c.keep_from.new.self.items) (sym c.insert.ensures)
    (subst (λ (m : Replies). AreIncoming (set.insert c.self.inside.in_effect c.args.number) c.self.inside.size m) (sym kept)
    (are_after c.self.inside.in_effect c.self.inside.size c.self.inside.kept.room c.args.number c.saturating_sub-first.result c.self.inside.kept.items c.args.reply c.self.invariant fresh from))

pub returns : goal.returns
returns c =
    let from : c.saturating_sub-first.result ≡ c.args.number + 1 - c.self.inside.size = c.saturating_sub-first.ensures ∙ (λ i. c.from-end.ensures i + 1 - c.from.ensures i) in
    let kept : c.keep_from.new.self.items ≡ map.retain_keys (map.insert c.self.inside.kept.items c.args.number c.args.reply) (nat_le c.saturating_sub-first.result) =
    ap (λ (h : Held _). h.items) c.keep_from.ensures.content ∙ ap (λ (h : Held _). map.retain_keys h.items (nat_le c.saturating_sub-first.result)) c.add.ensures.content in
    let fresh = subst (λ r. IsFreshRequest r c.args.number) (sym c.self.view_is) c.requires.fresh in
    let room : c.keep_from.new.self.room + map.len (map.retain_keys (map.insert c.self.inside.kept.items c.args.number c.args.reply) (nat_le c.saturating_sub-first.result)) ≡ c.self.inside.kept.room + map.len c.self.inside.kept.items =
    (let added = c.add.ensures.room in let more = c.add.ensures.len in let left = c.keep_from.ensures.room in let same = ap map.len kept in omega arith) in
    let is =
    takes c.self.inside.in_effect c.self.inside.size c.self.inside.kept.room c.args.number c.saturating_sub-first.result c.self.inside.kept.items c.args.reply c.self.invariant fresh from c.keep_from.new.self.room room in
    subst (λ r. TakesRequest r c.args.number c.args.reply (record { in_effect = c.insert.new.self; size = c.self.inside.size; kept = c.keep_from.new.self.items; room = c.keep_from.new.self.room })) c.self.view_is
    (subst (λ (s : NumberSet). TakesRequest (record { in_effect = c.self.inside.in_effect; size = c.self.inside.size; kept = c.self.inside.kept.items; room = c.self.inside.kept.room }) c.args.number c.args.reply (record { in_effect = s; size = c.self.inside.size; kept = c.keep_from.new.self.items; room = c.keep_from.new.self.room })) (sym c.insert.ensures)
    (subst (λ (m : Replies). TakesRequest (record { in_effect = c.self.inside.in_effect; size = c.self.inside.size; kept = c.self.inside.kept.items; room = c.self.inside.kept.room }) c.args.number c.args.reply (record { in_effect = set.insert c.self.inside.in_effect c.args.number; size = c.self.inside.size; kept = m; room = c.keep_from.new.self.room })) (sym kept) is))
