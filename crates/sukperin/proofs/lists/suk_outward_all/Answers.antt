use Rattle.std.proofs.Common.{rules, refl, sym, subst, Option}
use Rattle.std.specs.Prelude.{IsNone}
use Rattle.sukperin.specs.declared.end.End.{End}
use Rattle.sukperin.proofs.OutwardLemmas.{none_is}
use Rattle.sukperin.proofs.SealLemmas.{seals_none, seals_of}
use Rattle.sukperin.proofs.lists.suk_outward_all.Goals as goal

pub put_back-requires : goal.put_back-requires
put_back-requires c = subst (λ (s : Option End). IsNone s) (sym c.take.ensures.left) refl

pub returns-in_default : goal.returns-in_default
returns-in_default c =
    seals_none c.args.octets.now c.args.places.now c.args.handle.now.held.state c.take.new.self.held.state c.code.result c.args.outs.now c.args.room.now (none_is c.args.handle.now.held.state (search rules)) c.take.ensures.left c.code.ensures.value

pub returns : goal.returns
returns c =
    seals_of c.args.octets.now c.args.places.now c.args.handle.now.held.state c.put_back.new.self.held.state _ c.seal_all-code.new.end c.seal_all-code.result c.args.outs.now c.seal_all-code.new.outs c.args.room.now c.seal_all-code.new.room
    (search rules) (search rules) c.seal_all-code.ensures
