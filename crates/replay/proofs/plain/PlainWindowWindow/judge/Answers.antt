use Rattle.std.proofs.Common.{arith, ◌<◌, ◌+◌, sym, ◌∙◌, ap}
use Rattle.std.specs.Prelude.{if◌then◌else◌}
use Rattle.replay.specs.declared.window.Judgement.TheVariants.{Taken, Fresh}
use Rattle.replay.proofs.PlainLemmas.{judged_by_list}
use Rattle.replay.proofs.plain.PlainWindowWindow.judge.Goals as goal
use Rattle.replay.proofs.plain.PlainWindowWindow.judge.Goals.{else-n-self-via-then-n-self+else-self-n, else-n-self-via-else-n-self}

pub returns-then-contains : goal.returns-then-contains
returns-then-contains c =
    let in_span : c.args.self.now.top < c.args.n + c.args.self.now.size =
    elim c.else-n-self.branch [ else-n-self-via-then-n-self+else-self-n w ↦ omega arith | else-n-self-via-else-n-self w ↦ omega arith ]
    in sym (judged_by_list c.args.self.now.top c.args.self.now.size c.args.n c.args.self.now.taken.items c.contains.result (omega arith) in_span (rw c.deref.ensures.value at c.contains.ensures.value) ∙ ap (λ b. if b then Taken else Fresh) c.if-contains.true)

pub returns-else-contains : goal.returns-else-contains
returns-else-contains c =
    let in_span : c.args.self.now.top < c.args.n + c.args.self.now.size =
    elim c.else-n-self.branch [ else-n-self-via-then-n-self+else-self-n w ↦ omega arith | else-n-self-via-else-n-self w ↦ omega arith ]
    in sym (judged_by_list c.args.self.now.top c.args.self.now.size c.args.n c.args.self.now.taken.items c.contains.result (omega arith) in_span (rw c.deref.ensures.value at c.contains.ensures.value) ∙ ap (λ b. if b then Taken else Fresh) c.if-contains.false)
