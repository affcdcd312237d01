use Rattle.std.proofs.Common.{rules, refl, sym, subst, Option}
use Rattle.std.specs.Prelude.{IsNone}
use Rattle.sukperin.specs.declared.end.End.{End}
use Rattle.sukperin.proofs.OutwardLemmas.{none_is}
use Rattle.sukperin.proofs.ListLemmas.{opens_none, opens_of}
use Rattle.sukperin.proofs.lists.suk_esp_all.Goals as goal

pub put_back-requires : goal.put_back-requires
put_back-requires c = subst (λ (s : Option End). IsNone s) (sym c.take.ensures.left) refl

pub returns-in_default : goal.returns-in_default
returns-in_default c = opens_none c.args.octets.now c.args.places.now c.args.handle.now.held.state c.take.new.self.held.state c.code.result c.args.outs.now (none_is c.args.handle.now.held.state (search rules)) c.take.ensures.left c.code.ensures.value

pub returns : goal.returns
returns c = opens_of c.args.octets.now c.args.places.now c.args.handle.now.held.state c.put_back.new.self.held.state _ c.open_all-code.new.end c.open_all-code.result c.args.outs.now c.open_all-code.new.outs (search rules) (search rules) c.open_all-code.ensures
