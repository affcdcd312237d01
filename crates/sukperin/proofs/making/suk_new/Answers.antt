use Rattle.std.proofs.Common.{Option, sym, subst, ◌∙◌, true≢false}
use Rattle.sukperin.proofs.HeldLemmas.{is_none}
use Rattle.sukperin.specs.Terms.{IsMakingRefusal}
use Rattle.sukperin.specs.declared.end.End.{End}
use Rattle.sukperin.specs.declared.refusal.Refusal.TheVariants.{Memory}
use Rattle.sukperin.proofs.making.suk_new.Goals as goal

-- src/making.rt:21:1
pub returns-in-Ok-clause-made : goal.returns-in-Ok-clause-made
returns-in-Ok-clause-made c done = record {
  none =
      is_none c.args.handle.now.held.state (λ some. true≢false (sym (c.is_live.ensures.1 some) ∙ c.if-is_live.false));
  hosted = c.in-Ok.hosted;
  spelled = c.in-Ok.ensures.made;
  made = c.make.ensures.made done;
}

-- src/making.rt:21:1
pub returns-in-Ok-clause-refused : goal.returns-in-Ok-clause-refused
returns-in-Ok-clause-refused c some =
    let refused = c.make.ensures.refused some in
    let none =
    is_none c.args.handle.now.held.state (λ some. true≢false (sym (c.is_live.ensures.1 some) ∙ c.if-is_live.false))
    in (
      subst
          (λ (state : Option End). IsMakingRefusal c.args.terms.now c.args.own_id.now c.args.peer_id.now c.args.entries.now state c.make.result)
          (sym none)
          (Memory, refused.0, c.in-Ok.ensures.made.start),
      refused.1,
    )
