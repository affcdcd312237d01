use Rattle.std.proofs.Common.{rules, refl, sym, subst, Option}
use Rattle.std.specs.Prelude.{IsNone}
use Rattle.sukperin.specs.declared.end.End.{End}
use Rattle.sukperin.proofs.OutwardLemmas.{none_is, sends_none, sends_of}
use Rattle.sukperin.proofs.inputs.suk_outward.Goals as goal

pub put_back-requires : goal.put_back-requires
put_back-requires c = subst (λ (s : Option End). IsNone s) (sym c.take.ensures.left) refl

pub returns-in_default : goal.returns-in_default
returns-in_default c = sends_none c.args.packet.now c.args.room.now c.args.handle.now.held.state c.take.new.self.held.state c.code.result c.args.out.now (none_is c.args.handle.now.held.state (search rules)) c.take.ensures.left c.code.ensures.value

pub returns : goal.returns
returns c =
    sends_of c.args.packet.now c.args.room.now c.outward-code.new.room c.args.handle.now.held.state c.put_back.new.self.held.state _ c.outward-code.new.end c.outward-code.result c.args.out.now c.outward-code.new.out (search rules) (search rules)
    c.outward-code.ensures
