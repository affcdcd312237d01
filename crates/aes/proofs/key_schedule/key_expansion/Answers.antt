use Rattle.std.proofs.Common.{◌≡◌, length, take, replicate, arith, rules, refl, sym, ap, ◌∙◌}
use Rattle.std.proofs.lemmas.List.{length-append, take_at}
use Rattle.aes.proofs.KeyLemmas.{expanded-zero, words_more, written_length, schedule_done}
use Rattle.aes.proofs.key_schedule.key_expansion.Goals as goal

pub loop-i-init : goal.loop-i-init
loop-i-init c =
    let key : length c.args.key.now ≡ 32 = c.told-key in
    let is = c.begun-schedule.ensures in (
      ap length is ∙ length-append c.args.key.now (replicate 208 0) ∙ omega arith,
      ap (take 32) is ∙ take_at c.args.key.now (replicate 208 0) 32 key ∙ sym (expanded-zero c.args.key.now),
    )

pub loop-i-preserved : goal.loop-i-preserved
loop-i-preserved c =
    let i = c.loop-i.i in
    let after = c.copy_from_slice.ensures.after in
    let word : length c.next_word-word.result ≡ 4 = search rules in
    let long : length c.copy_from_slice.new.self ≡ 4 = ap length after ∙ word in (
      written_length c.loop-i.schedule c.copy_from_slice.new.self i (omega arith) c.loop-i.invariant.0 long,
      words_more c.args.key.now c.loop-i.schedule _ c.next_word-word.result c.copy_from_slice.new.self i (omega arith) (omega arith)
          c.loop-i.invariant.0 long c.loop-i.invariant.1 refl c.next_word-word.ensures after,
    )

pub returns : goal.returns
returns c = schedule_done _ _ c.loop-i.i (omega arith) c.loop-i.invariant.0 c.loop-i.invariant.1
