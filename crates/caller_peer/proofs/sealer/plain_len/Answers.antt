use Rattle.std.proofs.Common.{◌-◌, length, ◌∙◌, arith}
use Rattle.caller_peer.specs.Bodies.{decrypted_part}
use Rattle.caller_peer.proofs.LastLemmas.{decrypted_part_long, plain_counted}
use Rattle.caller_peer.proofs.sealer.plain_len.Goals as goal

pub returns-clause-plain : goal.returns-clause-plain
returns-clause-plain c =
    let body = c.args.body.now in
    let enough = c.requires.long in
    plain_counted (decrypted_part c.args.keys.now body) c.last_block.result (length body - 48) (length body - 16 - 16 - 1) c.from.result _
    (decrypted_part_long c.args.keys.now body enough c.requires.whole ∙ omega arith) c.last_block.ensures (omega arith) c.from.ensures c.checked_sub.ensures
