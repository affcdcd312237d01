use Rattle.std.proofs.Common.{◌≡◌, ◌+◌, ◌-◌, ◌%◌, ◌^◌, ◌*◌, ◌<◌, ℕ, ap, arith, sym, subst, ◌∙◌}
use Rattle.base.proofs.PrefixLemmas.{last_fits, rest_is, size_is, size_some, start_is}
use Rattle.base.proofs.address.last_of_block.Goals as goal

pub returns-then-start-eq0 : goal.returns-then-start-eq0
returns-then-start-eq0 c =
    let all : c.args.free ≡ 128 = c.if-free-eq-V6_WIDTH.true in
    let zero_start : c.args.start ≡ 0 = c.if-start-eq0.true in
    let is : c.args.start % 2 ^ c.args.free ≡ c.args.start = start_is c.args.start c.args.free all c.ranges.start.fits in
    let rest : 2 ^ c.args.free - 1 ≡ 2 ^ 128 - 1 = rest_is c.args.free all in
    (is ∙ zero_start, omega arith)

pub returns-else-start-eq0 : goal.returns-else-start-eq0
returns-else-start-eq0 c whole =
    let is : c.args.start % 2 ^ c.args.free ≡ c.args.start = start_is c.args.start c.args.free c.if-free-eq-V6_WIDTH.true c.ranges.start.fits in
    c.if-start-eq0.false (sym is ∙ whole)

pub overflow_shl-size : goal.overflow_shl-size
overflow_shl-size c = omega (arith, c.requires, c.if-free-eq-V6_WIDTH.false)

pub nonzero_rem-start : goal.nonzero_rem-start
nonzero_rem-start c = size_some c.args.free c.requires c.if-free-eq-V6_WIDTH.false

pub returns-then-start-size-ne0 : goal.returns-then-start-size-ne0
returns-then-start-size-ne0 c whole =
    c.if-start-size-ne0.true (subst (λ (n : ℕ). c.args.start % n ≡ 0) (sym (size_is c.args.free c.requires c.if-free-eq-V6_WIDTH.false)) whole)

pub overflow_sub-result : goal.overflow_sub-result
overflow_sub-result c = size_some c.args.free c.requires c.if-free-eq-V6_WIDTH.false

pub overflow_add-result : goal.overflow_add-result
overflow_add-result c = let below : c.args.start + (1 * 2 ^ c.args.free % 2 ^ 128 - 1) < 2 ^ 128 = last_fits c.args.start c.args.free c.requires c.if-free-eq-V6_WIDTH.false c.ranges.start.fits c.if-start-size-ne0.false in omega arith

pub returns : goal.returns
returns c =
    let size : 1 * 2 ^ c.args.free % 2 ^ 128 ≡ 2 ^ c.args.free = size_is c.args.free c.requires c.if-free-eq-V6_WIDTH.false in
    (subst (λ (n : ℕ). c.args.start % n ≡ 0) size c.if-start-size-ne0.false, ap (λ (n : ℕ). c.args.start + (n - 1)) size)
