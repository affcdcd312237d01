use Rattle.std.proofs.Common.{◌≡◌, ◌∙◌, ℕ, List, Option, ap, arith, cond, length, subst, sym}
use Rattle.std.specs.Prelude.{map, is_ok}
use Rattle.std.proofs.lemmas.Bool.Decides.{nat_tests}
use Rattle.flows.specs.declared.memory.Answer.{Answer}
use Rattle.flows.specs.Memory.{answer_in, HoldsNoMore}
use Rattle.flows.proofs.MemoryLemmas.{holds_no_more, made_empty, made_kept, IsMade}
use Rattle.flows.proofs.memory.FlowMemory.make_places.Goals as goal

is_made : (c : goal.After-resize) → IsMade (is_ok c.resize.result) 4096 c.self.inside.places.items c.resize.new.self.items
is_made c =
    let none : length c.self.inside.places.items ≡ 0 = grind (arith, nat_tests) in
    record {
      none = none;
      all = sym c.resize.new.self.ok.0 ∙ c.resize.ensures.len ∙ ap (λ (n : ℕ). cond (is_ok c.resize.result) 4096 n) c.self.inside.places.ok.0;
      empty = λ k d made below. c.resize.ensures.by_index.1 k d (sym made) (omega arith) below;
    }

pub invariant_of-self : goal.invariant_of-self
invariant_of-self c = made_kept c.self.inside.epoch (is_ok c.resize.result) 4096 c.self.inside.places.items c.resize.new.self.items (omega arith) (is_made c) c.self.invariant

pub returns-then-is_empty-clause-no_more : goal.returns-then-is_empty-clause-no_more
returns-then-is_empty-clause-no_more c =
    subst (λ (old : List (Option Answer)). HoldsNoMore old (map (answer_in c.self.inside.epoch) c.resize.new.self.items)) c.self.view_is
    (holds_no_more c.self.inside.epoch c.self.inside.places.items c.resize.new.self.items
    (made_empty (is_ok c.resize.result) 4096 c.self.inside.places.items c.resize.new.self.items (is_made c)))
