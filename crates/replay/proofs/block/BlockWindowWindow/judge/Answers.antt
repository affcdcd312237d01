use Rattle.std.proofs.Common.{◌+◌, ◌<◌, length, sym, ◌∙◌, ap, subst, arith}
use Rattle.std.specs.Prelude.{if◌then◌else◌}
use Rattle.replay.specs.declared.window.Judgement.TheVariants.{Taken, Fresh}
use Rattle.replay.specs.Blocks.{is_marked, span_of}
use Rattle.replay.specs.Window.{IsBlockCount}
use Rattle.replay.proofs.BlockCountLemmas.{power_count}
use Rattle.replay.proofs.BlockLemmas.{judged_by_bit}
use Rattle.replay.proofs.block.BlockWindowWindow.judge.Goals as goal

pub is_set-requires : goal.is_set-requires
is_set-requires c = subst IsBlockCount (ap length (sym c.deref.ensures.value)) (power_count _ c.args.self.now.ring.power)

pub returns-then-is_set : goal.returns-then-is_set
returns-then-is_set c =
    let in_span : c.args.self.now.top < c.args.n + span_of c.args.self.now.blocks.items = let size = c.size.ensures in let inside = c.if-self-n.false in omega arith in
    sym (judged_by_bit c.args.self.now.top c.args.self.now.blocks.items c.args.n c.is_set.result (omega arith) c.if-n-self.false in_span (c.is_set.ensures ∙ ap (λ blocks. is_marked blocks c.args.n) c.deref.ensures.value) ∙ ap (λ b. if b then Taken else Fresh) c.if-is_set.true)

pub returns-else-is_set : goal.returns-else-is_set
returns-else-is_set c =
    let in_span : c.args.self.now.top < c.args.n + span_of c.args.self.now.blocks.items = let size = c.size.ensures in let inside = c.if-self-n.false in omega arith in
    sym (judged_by_bit c.args.self.now.top c.args.self.now.blocks.items c.args.n c.is_set.result (omega arith) c.if-n-self.false in_span (c.is_set.ensures ∙ ap (λ blocks. is_marked blocks c.args.n) c.deref.ensures.value) ∙ ap (λ b. if b then Taken else Fresh) c.if-is_set.false)
