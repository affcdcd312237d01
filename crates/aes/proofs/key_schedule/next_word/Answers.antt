use Rattle.std.proofs.Common.{◌-◌, ◌/◌, length, bit_xor, rules}
use Rattle.std.proofs.lemmas.List.FromFn.{fill_by_all}
use Rattle.aes.specs.KeyExpansion.{added_octet, next_word, word_octet}
use Rattle.aes.proofs.key_schedule.next_word.Goals as goal

pub returns : goal.returns
unfolding next_word
returns c =
    fill_by_all (λ k. bit_xor (word_octet c.args.words.now (length c.args.words.now / 4 - 8) k) (added_octet c.args.words.now (length c.args.words.now / 4) k))
    c.loop-r.word 4 0 c.loop-r.invariant.0 (search rules)
