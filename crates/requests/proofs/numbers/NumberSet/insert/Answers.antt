use Rattle.std.proofs.Common.{◌-◌, ◌*◌, ◌^◌, ◌%◌, arith, sym, subst, rules, ℕ}
use Rattle.std.specs.Int.RustNames.{bit_or}
use Rattle.requests.proofs.SetLemmas.{IsInserted, insertion_begins, passes_within, passes, insertion_ends, inserted_shown}
use Rattle.requests.proofs.numbers.NumberSet.insert.Goals as goal

pub overflow_sub-self : goal.overflow_sub-self
overflow_sub-self c =
    let above = (insertion_begins c.self.inside.gap c.self.inside.marks c.args.number c.args.self.now c.self.invariant c.self.view_is c.requires.new_number c.requires.near c.ranges.number.fits).above in
    let is = c.from.ensures in
    omega arith

pub overflow_cast-self : goal.overflow_cast-self
overflow_cast-self c =
    let near = (insertion_begins c.self.inside.gap c.self.inside.marks c.args.number c.args.self.now c.self.invariant c.self.view_is c.requires.new_number c.requires.near c.ranges.number.fits).near in
    let is = c.from.ensures in
    search rules

pub overflow_shl-self : goal.overflow_shl-self
overflow_shl-self c =
    let near = (insertion_begins c.self.inside.gap c.self.inside.marks c.args.number c.args.self.now c.self.invariant c.self.view_is c.requires.new_number c.requires.near c.ranges.number.fits).near in
    let above = (insertion_begins c.self.inside.gap c.self.inside.marks c.args.number c.args.self.now c.self.invariant c.self.view_is c.requires.new_number c.requires.near c.ranges.number.fits).above in
    let is = c.from.ensures in
    omega arith

pub loop-self-init : goal.loop-self-init
loop-self-init c =
    subst (λ (n : ℕ). IsInserted c.args.self.now c.args.number c.self.inside.gap (bit_or c.self.inside.marks (1 * 2 ^ (n - c.self.inside.gap) % 2 ^ 16))) (sym c.from.ensures)
    (insertion_begins c.self.inside.gap c.self.inside.marks c.args.number c.args.self.now c.self.invariant c.self.view_is c.requires.new_number c.requires.near c.ranges.number.fits).begins

pub overflow_add-self : goal.overflow_add-self
overflow_add-self c =
    let within = passes_within c.args.self.now c.args.number c.loop-self.self-inside.gap c.loop-self.self-inside.marks c.loop-self.invariant c.loop-self-test.true in
    search rules

pub loop-self-preserved : goal.loop-self-preserved
loop-self-preserved c = passes c.args.self.now c.args.number c.loop-self.self-inside.gap c.loop-self.self-inside.marks c.loop-self.invariant c.loop-self-test.true

pub invariant_of-self : goal.invariant_of-self
invariant_of-self c = insertion_ends c.args.self.now c.args.number c.loop-self.self-inside.gap c.loop-self.self-inside.marks c.loop-self.invariant c.loop-self-test.false

pub returns : goal.returns
returns c = inserted_shown c.args.self.now c.args.number c.loop-self.self-inside.gap c.loop-self.self-inside.marks c.loop-self.invariant
