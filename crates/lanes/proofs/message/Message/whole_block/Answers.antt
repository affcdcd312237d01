use Rattle.std.proofs.Common.{◌≡◌, ◌+◌, ◌*◌, ◌-◌, arith}
use Rattle.lanes.proofs.MessageLemmas.{block_in_octets}
use Rattle.lanes.proofs.message.Message.whole_block.Goals as goal

pub returns-clause-block : goal.returns-clause-block
returns-clause-block c = λ octets has.
    let m = c.args.self.now in
    let size : (c.args.index + 1) * 64 - c.args.index * 64 ≡ 64 = omega arith in
    rw size (block_in_octets m.octets.now m.end octets m.count c.args.index has.blocks (omega (arith, m.front)) c.requires)
