use Rattle.std.proofs.Common.{rules, ◌≡◌, ◌≤◌, ◌-◌, ◌∙◌, ℕ, List, ◌++◌, length, take, drop, sym, ap, subst, arith, length-append}
use Rattle.std.proofs.lemmas.List.{take_rest}
use Rattle.esp.specs.declared.sa.Sa.{Sa}
use Rattle.esp.specs.Laying.{finished}
use Rattle.esp.specs.Sealing.{Seals}
use Rattle.esp.specs.Views.{Sending}
use Rattle.esp.proofs.FinishLemmas.{lent_behind}
use Rattle.esp.proofs.outbound.Outbound.seal.Goals as goal

pub returns-clause-sealed : goal.returns-clause-sealed
returns-clause-sealed c =
    let old = c.args.self.now in
    let before = c.args.out.now.items in
    let middle = c.lay.new.out.items in
    let number = c.in_ok-number.number in
    let xs = c.deref_mut.result.now in
    let first = c.in_ok-number.ensures.sealed in
    let start : c.len-start.result ≡ length before = search rules in
    let len : c.lay.new.out.len ≡ length middle = sym c.deref_mut.ensures.len ∙ ap length c.deref_mut.ensures.value in
    let ends : c.lay.new.self.association ≡ old.association = ap (λ (s : Sending). s.association) first.last in
    let long = ap length c.in_ok-number.ensures.laid.appended ∙ length-append before _ in
    let within : c.len-start.result ≤ length middle = omega arith in
    let part : take (length xs - c.len-start.result) (drop c.len-start.result xs) ≡ drop (length before) middle =
    take_rest xs c.len-start.result ∙ ap (λ (k : ℕ). drop k xs) start ∙ ap (drop (length before)) c.deref_mut.ensures.value
    in
    let whole = lent_behind c.len-start.result c.lay.new.out.len middle xs c.finish.new.packet c.deref_mut.ensures.value len within c.finish.auto.packet
    ∙ ap (λ (k : ℕ). take k middle ++ c.finish.new.packet) start
    ∙ ap (λ (ys : List ℕ). take (length before) middle ++ ys)
    (c.finish.ensures ∙ ap (λ (ys : List ℕ). finished c.lay.new.self.association number ys) part ∙ ap (λ (a : Sa). finished a number (drop (length before) middle)) ends)
    in
    subst (λ (ys : List ℕ). Seals old c.args.next c.args.payload.now before number c.lay.new.self ys) (sym whole) first
