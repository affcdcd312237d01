use Rattle.std.proofs.Common.{◌≡◌, ◌%◌, ◌+◌, refl, arith}
use Rattle.lanes.proofs.LaneLemmas.{lane_at, lane_set}
use Rattle.lanes.proofs.rounds.next_word.Goals as goal

pub returns-clause-value : goal.returns-clause-value
returns-clause-value c = λ j fits.
    let at : c.args.place % 16 ≡ c.args.place = omega arith in
    rw (
      c.add-word.ensures j fits,
      c.add-2.ensures j fits,
      c.add.ensures j fits,
      c.small_sigma1.ensures j fits,
      c.small_sigma0.ensures j fits,
      lane_at j c.args.w.now ((c.args.place + 14) % 16),
      lane_at j c.args.w.now ((c.args.place + 9) % 16),
      lane_at j c.args.w.now ((c.args.place + 1) % 16),
      lane_at j c.args.w.now c.args.place,
      at,
    ) refl

pub returns-clause-window : goal.returns-clause-window
returns-clause-window c = λ j fits. lane_set j c.args.w.now c.args.place c.add-word.result
