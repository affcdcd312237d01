use Rattle.std.proofs.Common.{rules}
use Rattle.std.proofs.lemmas.Fn.{filter_same}
use Rattle.std.specs.Prelude.{◌-◌, nat_lt}
use Rattle.replay.proofs.plain.forget_below.Goals as goal

pub returns : goal.returns
returns c = filter_same _ (λ n. nat_lt (c.args.top - n) c.args.size) _ (λ x b f k. search rules) _ _ c.retain.ensures.filtered
