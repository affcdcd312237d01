use Rattle.std.proofs.Common.{List, Option, Some, arith, subst}
use Rattle.std.specs.Prelude.{map}
use Rattle.std.proofs.Math.ListN.{set}
use Rattle.flows.specs.declared.memory.Answer.{Answer}
use Rattle.flows.specs.Memory.{answer_in, Notes, StaysButAt}
use Rattle.flows.proofs.MemoryLemmas.{noted_here, notes, others_stay}
use Rattle.flows.proofs.memory.FlowMemory.note.Goals as goal

pub returns-then-place-len-clause-notes : goal.returns-then-place-len-clause-notes
returns-then-place-len-clause-notes c =
    subst (λ (old : List (Option Answer)). Notes old c.args.answer
    (map (answer_in c.self.inside.epoch) (set c.self.inside.places.items c.args.place (Some (record { epoch = c.self.inside.epoch; answer = c.args.answer }))))) c.self.view_is
    (notes c.self.inside.epoch c.self.inside.places.items c.args.place c.args.answer)

pub returns-then-place-len-clause-noted : goal.returns-then-place-len-clause-noted
returns-then-place-len-clause-noted c = λ _. noted_here c.self.inside.epoch c.self.inside.places.items c.args.place c.args.answer (omega arith)

pub returns-then-place-len-clause-others : goal.returns-then-place-len-clause-others
returns-then-place-len-clause-others c =
    subst (λ (old : List (Option Answer)). StaysButAt c.args.place old
    (map (answer_in c.self.inside.epoch) (set c.self.inside.places.items c.args.place (Some (record { epoch = c.self.inside.epoch; answer = c.args.answer }))))) c.self.view_is
    (others_stay c.self.inside.epoch c.self.inside.places.items c.args.place (Some (record { epoch = c.self.inside.epoch; answer = c.args.answer })))
