use Rattle.std.proofs.Common.{rules, ◌≡◌, ◌∙◌, ◌++◌, sym, ap, ℕ, List, length, take, drop, arith}
use Rattle.std.proofs.lemmas.List.{take_rest}
use Rattle.esp.specs.Views.{Sending}
use Rattle.esp.proofs.LayingLemmas.{group_fit, group_numbers, group_size, group_sealed, group_whole}
use Rattle.esp.specs.declared.sa.Sa.{Sa}
use Rattle.esp.specs.Laying.{covered_sizes, values_in, with_values}
use Rattle.esp.proofs.outbound.Outbound.seal_side_by_side.Goals as goal

pub write_check_values-requires-clause-fit : goal.write_check_values-requires-clause-fit
write_check_values-requires-clause-fit c = group_fit _ _ _ _ _ _ _ c.lay_all-progress.ensures.first

pub write_check_values-requires-clause-numbers : goal.write_check_values-requires-clause-numbers
write_check_values-requires-clause-numbers c =
    group_numbers _ _ _ _ _ _ _ c.lay_all-progress.ensures.first c.self.inside.last (ap (λ (s : Sending). s.last) c.self.view_is)

pub write_check_values-requires-clause-size : goal.write_check_values-requires-clause-size
write_check_values-requires-clause-size c =
    let start : c.len-start.result ≡ length c.args.out.now.items = search rules in
    let size = group_size _ _ _ _ _ _ _ c.lay_all-progress.ensures.first in
    let same : length (drop c.len-start.result c.deref_mut.result.now) ≡ length (drop (length c.args.out.now.items) c.lay_all-progress.new.out.items) =
    ap (λ (n : ℕ). length (drop n c.deref_mut.result.now)) start ∙ ap (λ (xs : List ℕ). length (drop (length c.args.out.now.items) xs)) c.deref_mut.ensures.value
    in
    let rest = ap length (take_rest c.deref_mut.result.now c.len-start.result) in
    omega (arith, size, same, rest)

pub returns-clause-first : goal.returns-clause-first
returns-clause-first c =
    let first = c.lay_all-progress.ensures.first in
    let before = c.args.out.now.items in
    let middle = c.lay_all-progress.new.out.items in
    let ss = covered_sizes (take c.lay_all-progress.result.done c.args.payloads.now) in
    let rest = drop (length before) middle in
    let start : c.len-start.result ≡ length before = search rules in
    let len : c.lay_all-progress.new.out.len ≡ length middle = sym c.deref_mut.ensures.len ∙ ap length c.deref_mut.ensures.value in
    let ends : c.self-2.inside.association ≡ c.lay_all-progress.new.self.association = ap (λ (s : Sending). s.association) c.self-2.view_is in
    let last : c.self.inside.last ≡ c.args.self.now.last = ap (λ (s : Sending). s.last) c.self.view_is in
    group_sealed _ _ _ _ _ _ _ first _ (
    group_whole c.len-start.result c.lay_all-progress.new.out.len before middle c.deref_mut.result.now c.write_check_values.new.packets _ ss c.self-2.inside.association c.self.inside.last
    start c.deref_mut.ensures.value len first.appended c.write_check_values.auto.packets c.write_check_values.ensures
    ∙ ap (λ (a : Sa). before ++ with_values ss (values_in a c.self.inside.last ss rest) rest) ends
    ∙ ap (λ (n : ℕ). before ++ with_values ss (values_in c.lay_all-progress.new.self.association n ss rest) rest) last)
