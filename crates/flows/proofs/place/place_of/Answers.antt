use Rattle.std.proofs.Common.{◌≡◌, ◌∙◌, ℕ, ◌/◌, ◌^◌, ap}
use Rattle.flows.specs.Places.{mix_both, place_of, scatter, spread}
use Rattle.flows.proofs.place.place_of.Goals as goal

pub returns-clause-is : goal.returns-clause-is
unfolding place_of
returns-clause-is c =
    ap (λ (mixed : ℕ). spread mixed / 2 ^ 52) (c.mix_both-mixed.ensures ∙ ap (λ (start : ℕ). mix_both start c.args.flow.now.source c.args.flow.now.target)
    (c.scatter-start.ensures ∙ ap (scatter 0) c.first_word.ensures))
