use Rattle.std.proofs.Common.{◌≡◌, ℕ, ◌+◌, ◌*◌, ◌%◌, ◌^◌, ◌<◌, List, take, drop, slice_index, ap, ◌∙◌, arith, subst}
use Rattle.std.proofs.lemmas.Option.{get_or_from_slice_get}
use Rattle.lanes.specs.Message.{HasBlocks}
use Rattle.lanes.specs.declared.message.Message.{Message}
use Rattle.lanes.proofs.absorbing.block.Goals as goal

pub returns-clause-block : goal.returns-clause-block
returns-clause-block c = λ m octets given has below.
    let at = slice_index c.args.taken.now c.args.j + c.args.ahead in
    let few = m.few in
    let small : at % 2 ^ 64 ≡ at = omega arith in
    let same = c.index-messages-j.is ∙ get_or_from_slice_get c.args.messages.now c.args.j m c.index-messages-j.result given in
    let block : (octets : List ℕ) → HasBlocks m octets → at % 2 ^ 64 < m.count → c.block.result.now ≡ take 64 (drop (at % 2 ^ 64 * 64) octets) =
    subst (λ (m : Message). (octets : List ℕ) → HasBlocks m octets → at % 2 ^ 64 < m.count → c.block.result.now ≡ take 64 (drop (at % 2 ^ 64 * 64) octets)) same c.block.ensures.block in
    block octets has (omega arith) ∙ ap (λ n. take 64 (drop (n * 64) octets)) small
