use Rattle.std.proofs.Common.{◌≡◌, ◌+◌, ◌*◌, ◌-◌, arith}
use Rattle.lanes.proofs.MessageLemmas.{block_after_end, block_at_end, block_in_octets}
use Rattle.lanes.proofs.message.Message.block.Goals as goal

pub returns-then-index-whole-clause-block : goal.returns-then-index-whole-clause-block
returns-then-index-whole-clause-block c = λ octets has below.
    let size : (c.args.index + 1) * 64 - c.args.index * 64 ≡ 64 = omega arith in
    rw size (block_in_octets c.args.self.now.octets.now c.args.self.now.end octets c.args.self.now.count c.args.index has.blocks below c.if-index-whole.true)

pub returns-then-index-whole-2-clause-block : goal.returns-then-index-whole-2-clause-block
returns-then-index-whole-2-clause-block c = λ octets has below.
    block_at_end c.args.self.now.octets.now c.args.self.now.end octets c.args.self.now.count c.args.index has.blocks below c.if-index-whole-2.true

pub returns-else-index-whole-2-clause-block : goal.returns-else-index-whole-2-clause-block
returns-else-index-whole-2-clause-block c = λ octets has below.
    block_after_end c.args.self.now.octets.now c.args.self.now.end octets c.args.self.now.count c.args.index c.args.self.now.room has.whole has.blocks below (omega arith)
