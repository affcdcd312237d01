use Rattle.std.proofs.Common.{rules, ◌≡◌, ◌≤◌, ◌-◌, ◌∙◌, ℕ, List, ◌++◌, length, take, drop, sym, ap, subst, arith}
use Rattle.std.proofs.lemmas.List.{take_rest}
use Rattle.esp.proofs.FinishLemmas.{lent_behind}
use Rattle.sadb.specs.Database.{SealsAt}
use Rattle.sadb.specs.Laying.{finished_at}
use Rattle.sadb.proofs.table.Table.seal.Goals as goal

pub slice_bounds-finish-count : goal.slice_bounds-finish-count
slice_bounds-finish-count c =
    let start : c.len-start.result ≡ length c.args.out.now.items = search rules in
    let behind = c.in_ok-number.ensures.behind in
    let long : length c.deref_mut.result.now ≡ length c.lay.new.out.items = ap length c.deref_mut.ensures.value in
    omega arith

pub slice_bounds-finish-start : goal.slice_bounds-finish-start
slice_bounds-finish-start c =
    let start : c.len-start.result ≡ length c.args.out.now.items = search rules in
    let behind = c.in_ok-number.ensures.behind in
    let long : length c.deref_mut.result.now ≡ length c.lay.new.out.items = ap length c.deref_mut.ensures.value in
    let within : c.len-start.result ≤ length c.deref_mut.result.now = omega arith in
    search rules

pub returns-clause-sealed : goal.returns-clause-sealed
returns-clause-sealed c =
    let before = c.args.out.now.items in
    let middle = c.lay.new.out.items in
    let number = c.in_ok-number.number in
    let xs = c.deref_mut.result.now in
    let start : c.len-start.result ≡ length before = search rules in
    let len : c.lay.new.out.len ≡ length middle = sym c.deref_mut.ensures.len ∙ ap length c.deref_mut.ensures.value in
    let behind = c.in_ok-number.ensures.behind in
    let within : c.len-start.result ≤ length middle = omega arith in
    let part : take (length xs - c.len-start.result) (drop c.len-start.result xs) ≡ drop (length before) middle =
    take_rest xs c.len-start.result ∙ ap (λ (k : ℕ). drop k xs) start ∙ ap (drop (length before)) c.deref_mut.ensures.value
    in
    let whole = lent_behind c.len-start.result c.lay.new.out.len middle xs c.finish.new.packet c.deref_mut.ensures.value len within c.finish.auto.packet
    ∙ ap (λ (k : ℕ). take k middle ++ c.finish.new.packet) start
    ∙ ap (λ (ys : List ℕ). take (length before) middle ++ ys) (c.finish.ensures ∙ ap (λ (ys : List ℕ). finished_at c.lay.new.self.pairs c.args.serial number ys) part)
    in
    subst (λ (ys : List ℕ). SealsAt c.args.self.now c.args.serial c.args.next c.args.payload.now before number c.lay.new.self ys) (sym whole) c.in_ok-number.ensures.sealed
