use Rattle.std.proofs.Common.{rules, ◌≡◌, ◌++◌, ◌-◌, ◌∙◌, List, ℕ, length, take, drop, ap}
use Rattle.std.proofs.lemmas.List.{take_rest}
use Rattle.exchange.proofs.SealedLemmas.{is_wrapped}
use Rattle.exchange.proofs.sealed.sealed_octets.Goals as goal

pub returns-clause-made : goal.returns-clause-made
returns-clause-made g c =
    let keys = c.args.keys.now in
    let clear = c.args.clear.now in
    let fresh = c.args.fresh.now in
    let plain = take (length clear - 28) (drop 28 clear) in
    let head = c.in_ok-whole.whole.items in
    let made : c.seal.new.out.items ≡ g.S.Sealer.body_of keys head plain fresh =
    c.in_ok-seal.ensures.appended
    ∙ ap (λ (xs : List ℕ). xs ++ g.S.Sealer.body_of keys c.deref.result.now plain fresh) c.new-body.ensures.items
    ∙ ap (λ (xs : List ℕ). g.S.Sealer.body_of keys xs plain fresh) c.deref.ensures.value in
    is_wrapped g.S.Sealer.body_of g.S.Sealer.sealed_size keys fresh clear c.sealed_len-length.result head plain c.seal.new.out.items c.extend_from_slice.new.self.items (search rules) (search rules) (take_rest clear 28) made (search rules)
