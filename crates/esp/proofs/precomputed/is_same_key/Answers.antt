use Rattle.std.proofs.Common.{rules, ◌≡◌, sym, ◌∙◌}
use Rattle.esp.proofs.CheckLemmas.{same_key}
use Rattle.esp.proofs.precomputed.is_same_key.Goals as goal

pub returns-then-half_of : goal.returns-then-half_of
returns-then-half_of c = λ same.
    let first : c.half_of.result ≡ c.half_of-2.result = search rules in
    let last : c.half_of-then-half_of.result ≡ c.half_of-then-half_of-2.result = search rules in
    same_key c.args.one.now c.args.other.now (search rules) (search rules) (λ k. search rules) (λ k. search rules)
    (sym c.half_of.ensures ∙ first ∙ c.half_of-2.ensures) (sym c.half_of-then-half_of.ensures ∙ last ∙ c.half_of-then-half_of-2.ensures)
