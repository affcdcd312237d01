use Rattle.std.proofs.Common.{[], refl}
use Rattle.lanes.proofs.MessageLemmas.{ending-is}
use Rattle.lanes.proofs.padding.ending.Goals as goal

pub returns : goal.returns
returns c = ending-is c.args.rest.now c.args.more.now c.args.size c.args.bits _ _ _ _ _ c.requires.room c.requires.most
    (c.put.ensures [] refl refl) c.put-2.ensures c.put-3.ensures c.put-4.ensures c.to_be_bytes.ensures
