use Rattle.std.proofs.Common.{ℕ, subst, sym}
use Rattle.std.specs.Prelude.{map}
use Rattle.flows.specs.Memory.{answer_in, HoldsNone}
use Rattle.flows.proofs.MemoryLemmas.{emptied, forgotten, none_alone}
use Rattle.flows.proofs.memory.FlowMemory.forget.Goals as goal

pub returns-in-Some-clause-none : goal.returns-in-Some-clause-none
returns-in-Some-clause-none c =
    subst (λ (epoch : ℕ). HoldsNone (map (answer_in epoch) c.self.inside.places.items)) (sym c.in-Some.ensures.1)
    (forgotten c.self.inside.epoch c.self.inside.places.items c.self.invariant)

pub returns-in-None-clause-none : goal.returns-in-None-clause-none
returns-in-None-clause-none c = emptied c.self.inside.epoch c.self.inside.places.len c.fill.new.self.items (c.fill.ensures.items (none_alone _ (λ note some. some)))
