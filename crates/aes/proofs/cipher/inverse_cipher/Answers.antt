use Rattle.std.proofs.Common.{◌≡◌, rules, arith}
use Rattle.aes.specs.Cipher.{inv_cipher, inv_rounds}
use Rattle.aes.proofs.CipherLemmas.{inv_round_more}
use Rattle.aes.proofs.cipher.inverse_cipher.Goals as goal

pub loop-done-init : goal.loop-done-init
unfolding inv_rounds
loop-done-init c = search rules

pub loop-done-preserved : goal.loop-done-preserved
loop-done-preserved c =
    inv_round_more _ _ _ _ _ _ _ c.loop-done.done c.loop-done.auto.done c.loop-done.invariant
    c.inverse_shift_rows.ensures c.inverse_sub_bytes-state.ensures c.add_round_key.ensures c.inverse_mix_columns-state.ensures

pub returns : goal.returns
unfolding inv_cipher
returns c =
    let last : c.loop-done.done ≡ 14 = omega arith in
    let state = rw last at c.loop-done.invariant in
    cc
