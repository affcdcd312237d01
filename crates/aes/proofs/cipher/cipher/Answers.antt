use Rattle.std.proofs.Common.{◌≡◌, rules, arith}
use Rattle.aes.specs.Cipher.{cipher, rounds}
use Rattle.aes.proofs.CipherLemmas.{round_more}
use Rattle.aes.proofs.cipher.cipher.Goals as goal

pub loop-round-init : goal.loop-round-init
unfolding rounds
loop-round-init c = search rules

pub loop-round-preserved : goal.loop-round-preserved
loop-round-preserved c =
    round_more _ _ _ _ _ _ _ c.loop-round.round c.loop-round.auto.round c.loop-round.invariant
    c.sub_bytes.ensures c.shift_rows.ensures c.mix_columns-state.ensures c.add_round_key-state-in-loop-round.ensures

pub returns : goal.returns
unfolding cipher
returns c =
    let last : c.loop-round.round ≡ 14 = omega arith in
    let state = rw last at c.loop-round.invariant in
    cc
