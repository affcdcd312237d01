use Rattle.std.proofs.Common.{rules, ◌≡◌, ℕ, List, take, sym, ap, ◌∙◌}
use Rattle.byteorder.specs.Endian.{big_bytes}
use Rattle.sadb.specs.Database.{IsForPair, IsInbound, PairMap}
use Rattle.sadb.specs.declared.pair.Pair.{Pair}
use Rattle.test_message_calls.proofs.tests.of_children.runs.serial_for.Goals as goal

for : (pairs : PairMap) (spi : ℕ) (pair : Pair) (packet : List ℕ) → IsInbound pairs spi pair → take 4 packet ≡ big_bytes 4 spi → IsForPair pairs pair.serial packet
for pairs spi pair packet found begins = record {
  pair = pair;
  there = found.there;
  addressed = λ long. begins ∙ ap (big_bytes 4) (sym found.its_own);
}

pub returns-then-eq : goal.returns-then-eq
returns-then-eq c = for c.args.table.now.pairs c.args.spi c.in_ok-pair.pair.now c.args.packet.now c.in_ok-pair.ensures.some (search rules)
