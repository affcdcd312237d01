use Rattle.std.proofs.Common.{◌≡◌, ◌/◌, length, max, arith, sym, subst}
use Rattle.replay.specs.Window.{IsBlockCount}
use Rattle.replay.proofs.BlockCountLemmas.{power_count}
use Rattle.replay.proofs.WindowFacts.{fresh}
use Rattle.replay.proofs.BlockLemmas.{IsSet, IsCleared, ring_inside, ring_above, takes_bit_inside, takes_bit_above}
use Rattle.replay.proofs.block.mark.Goals as goal
use Rattle.replay.proofs.block.mark.Goals.{then-n-top, else-n-top}

pub clear_passed-requires-clause-count : goal.clear_passed-requires-clause-count
clear_passed-requires-clause-count c = power_count _ c.requires.ring.power

pub set_bit-requires : goal.set_bit-requires
set_bit-requires c =
    let count : IsBlockCount (length c.args.blocks.now) = power_count _ c.requires.ring.power in
    elim c.if-n-top.branch [
      | then-n-top w ↦ rw w.blocks-is (subst IsBlockCount (sym w.clear_passed.ensures.length) count)
      | else-n-top w ↦ rw w.blocks-is count
    ]

pub returns-clause-ring : goal.returns-clause-ring
returns-clause-ring c =
    let is_set : IsSet c.if-n-top.blocks c.args.n c.set_bit.new.blocks = record { count = c.set_bit.ensures.length; marked = c.set_bit.ensures.marked } in
    let is_fresh = fresh _ _ c.requires.is_fresh in
    elim c.if-n-top.branch [
      | then-n-top w ↦
          let is_cleared : IsCleared c.args.blocks.now (c.args.top / 64) (c.args.n / 64) c.if-n-top.blocks = rw w.blocks-is (record { count = w.clear_passed.ensures.length; cleared = w.clear_passed.ensures.cleared; kept = w.clear_passed.ensures.kept }) in
          let greater : max c.args.top c.args.n ≡ c.args.n = let above = w.if-n-top.true in omega arith in
          rw greater (ring_above _ _ _ _ _ c.requires.ring w.if-n-top.true c.ranges.n.fits is_cleared is_set)
      | else-n-top w ↦
          let greater : max c.args.top c.args.n ≡ c.args.top = let below = w.if-n-top.false in omega arith in
          rw greater (ring_inside _ _ _ _ c.requires.ring w.if-n-top.false is_fresh.not_old (rw w.blocks-is at is_set))
    ]

pub returns-clause-taken : goal.returns-clause-taken
returns-clause-taken c =
    let is_set : IsSet c.if-n-top.blocks c.args.n c.set_bit.new.blocks = record { count = c.set_bit.ensures.length; marked = c.set_bit.ensures.marked } in
    let is_fresh = fresh _ _ c.requires.is_fresh in
    elim c.if-n-top.branch [
      | then-n-top w ↦
          let is_cleared : IsCleared c.args.blocks.now (c.args.top / 64) (c.args.n / 64) c.if-n-top.blocks = rw w.blocks-is (record { count = w.clear_passed.ensures.length; cleared = w.clear_passed.ensures.cleared; kept = w.clear_passed.ensures.kept }) in
          let greater : max c.args.top c.args.n ≡ c.args.n = let above = w.if-n-top.true in omega arith in
          rw greater (takes_bit_above _ _ _ _ _ c.requires.ring w.if-n-top.true is_cleared is_set)
      | else-n-top w ↦
          let greater : max c.args.top c.args.n ≡ c.args.top = let below = w.if-n-top.false in omega arith in
          rw greater (takes_bit_inside _ _ _ _ c.requires.ring is_fresh w.if-n-top.false (rw w.blocks-is at is_set))
    ]
