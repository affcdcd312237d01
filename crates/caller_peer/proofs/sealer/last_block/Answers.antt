use Rattle.std.proofs.Common.{◌-◌, ℕ, List, length, ap, ◌∙◌, arith}
use Rattle.caller_peer.specs.Chaining.{both}
use Rattle.caller_peer.proofs.LastLemmas.{last_of_body}
use Rattle.caller_peer.proofs.sealer.last_block.Goals as goal

pub returns : goal.returns
returns c =
    let body = c.args.body.now in
    let enough = c.requires.long in
    c.both.ensures
    ∙ ap (λ (block : List ℕ). both block c.block_of-before.result) c.decrypt_block.ensures
    ∙ last_of_body c.args.keys.now body c.new.result c.block_of-before.result c.block_of-last.result (length body - 16 - 32)
    (length body - 16 - 16 - (length body - 16 - 32)) (length body - 16 - 16) (length body - 16 - (length body - 16 - 16)) enough c.requires.whole
    c.new.ensures c.block_of-before.ensures c.block_of-last.ensures (omega arith) (omega arith) (omega arith) (omega arith)
