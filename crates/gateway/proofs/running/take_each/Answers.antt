use Rattle.std.proofs.Common.{rules, ◌≡◌, ◌≤◌, ℕ, List, [], ◌∷◌, ◌++◌, length, take, map, refl, sym, ap, ◌∙◌, subst, arith}
use Rattle.std.proofs.lemmas.List.{append-nil, length-map}
use Rattle.effects.specs.Taking.{Meaning}
use Rattle.gateway.specs.Inputs.{Input, input_view}
use Rattle.gateway.specs.Laying.{finished_from}
use Rattle.gateway.specs.Runs.{Runs, StepsAs}
use Rattle.gateway.proofs.GroupLemmas.{value_for}
use Rattle.gateway.proofs.LayingLemmas.{finish_behind, nothing_laid}
use Rattle.gateway.proofs.RunLemmas.{next_in_image, pushed_after, run_more, take_next_image, within_image}
use Rattle.gateway.proofs.running.take_each.Goals as goal

pub loop-done-init : goal.loop-done-init
loop-done-init g c = record {
  answers = [];
  appended = nothing_laid c.args.gateway.now.table.pairs c.args.outputs.now.items c.len-start.result (search rules) ∙ sym (append-nil c.args.outputs.now.items);
  runs = refl;
  length_now = search rules;
  capacity = search rules;
  begins = search rules;
  within = search rules;
}

pub take_next-start-requires-clause-ahead : goal.take_next-start-requires-clause-ahead
take_next-start-requires-clause-ahead g c =
    let inputs = map input_view c.args.inputs.now in
    value_for inputs c.args.ahead.now c.loop-done.done _ c.value_at-value.result c.requires.ahead (within_image input_view c.args.inputs.now c.loop-done.done c.loop-done-test.true)
    (next_in_image input_view c.args.inputs.now c.loop-done.done _ c.loop-done-test.true) c.value_at-value.ensures

pub loop-done-preserved : goal.loop-done-preserved
loop-done-preserved g c =
    let i = c.loop-done.invariant in
    let meaning_of : _ → Meaning = λ caller. record {
      cipher = g.C.Sealer.cipher;
      body_of = g.C.Sealer.body_of;
      plain_of = g.C.Sealer.plain_of;
      group = g.C.Agreement.group_number;
      public_value = g.C.Agreement.public_value;
      shared_secret = g.C.Agreement.shared_secret;
      own_method = g.C.Proof.own_method caller;
      proof_of = g.C.Proof.proof_of caller;
      accepts = g.C.Proof.accepts caller;
    } in
    let next = c.take_next-start.ensures.next in
    let o = next.said in
    let before = ap (finished_from c.loop-done.start c.loop-done.gateway.table.pairs) c.reserve.ensures.items ∙ i.appended in
    record {
      answers = i.answers ++ o ∷ [];
      appended = pushed_after c.args.outputs.now.items i.answers (finished_from c.loop-done.start c.loop-done.gateway.table.pairs c.reserve.new.self.items) _ o next.appended before;
      runs = subst (λ (is : List Input). Runs (StepsAs meaning_of) is (i.answers ++ o ∷ []) c.args.gateway.now c.take_next-start.new.gateway) (sym (take_next_image input_view c.args.inputs.now c.loop-done.done _ c.loop-done-test.true))
          (run_more (StepsAs meaning_of) c.args.gateway.now _ i.answers c.loop-done.gateway _ o c.take_next-start.new.gateway i.runs next.steps);
      length_now = omega (arith, c.take_next-start.ensures.size, c.reserve.ensures.len, i.length_now);
      capacity = omega (arith, i.capacity, c.reserve.ensures.capacity, c.take_next-start.ensures.capacity);
      begins = omega (arith, i.begins, c.take_next-start.ensures.begins);
      within = c.take_next-start.ensures.ends;
    }

pub returns-then-is_err-clause-first : goal.returns-then-is_err-clause-first
returns-then-is_err-clause-first g c =
    let i = c.loop-done.invariant in
    let pairs = c.loop-done.gateway.table.pairs in
    let items = c.reserve.new.self.items in
    let xs = c.deref_mut.result.now in
    let len : c.reserve.new.self.len ≡ length items = sym c.deref_mut.ensures.len ∙ ap length c.deref_mut.ensures.value in
    let within : c.loop-done.start ≤ length items = search rules in
    let whole = finish_behind pairs c.loop-done.start c.reserve.new.self.len items xs c.finish.new.laid c.deref_mut.ensures.value len within c.finish.ensures in
    record {
      within = omega (arith, length-map c.args.inputs.now input_view);
      outputs = i.answers;
      appended = whole ∙ ap (finished_from c.loop-done.start pairs) c.reserve.ensures.items ∙ i.appended;
      runs = i.runs;
    }

pub returns-then-start-len-clause-first : goal.returns-then-start-len-clause-first
returns-then-start-len-clause-first g c =
    let i = c.loop-done.invariant in
    let pairs = c.loop-done.gateway.table.pairs in
    let items = c.loop-done.outputs.items in
    let xs = c.deref_mut-then-start-len.result.now in
    let len : c.loop-done.outputs.len ≡ length items = sym c.deref_mut-then-start-len.ensures.len ∙ ap length c.deref_mut-then-start-len.ensures.value in
    let within : c.loop-done.start ≤ length items = search rules in
    let whole = finish_behind pairs c.loop-done.start c.loop-done.outputs.len items xs c.finish-then-start-len.new.laid c.deref_mut-then-start-len.ensures.value len within c.finish-then-start-len.ensures in
    let h = c.loop-done-test.false in
    let e = c.loop-done.auto.done-end in
    let meaning_of : _ → Meaning = λ caller. record {
      cipher = g.C.Sealer.cipher;
      body_of = g.C.Sealer.body_of;
      plain_of = g.C.Sealer.plain_of;
      group = g.C.Agreement.group_number;
      public_value = g.C.Agreement.public_value;
      shared_secret = g.C.Agreement.shared_secret;
      own_method = g.C.Proof.own_method caller;
      proof_of = g.C.Proof.proof_of caller;
      accepts = g.C.Proof.accepts caller;
    } in
    let all : c.loop-done.done ≡ length c.args.inputs.now = omega arith in
    record {
      within = omega (arith, length-map c.args.inputs.now input_view);
      outputs = i.answers;
      appended = whole ∙ i.appended;
      runs = subst (λ (k : ℕ). Runs (StepsAs meaning_of) (take k (map input_view c.args.inputs.now)) i.answers c.args.gateway.now c.loop-done.gateway) all i.runs;
    }

pub returns-else-start-len-clause-first : goal.returns-else-start-len-clause-first
returns-else-start-len-clause-first g c =
    let i = c.loop-done.invariant in
    let nothing = nothing_laid c.loop-done.gateway.table.pairs c.loop-done.outputs.items c.loop-done.start (omega (arith, i.within, c.if-start-len.false, c.len.ensures)) in
    let h = c.loop-done-test.false in
    let e = c.loop-done.auto.done-end in
    let meaning_of : _ → Meaning = λ caller. record {
      cipher = g.C.Sealer.cipher;
      body_of = g.C.Sealer.body_of;
      plain_of = g.C.Sealer.plain_of;
      group = g.C.Agreement.group_number;
      public_value = g.C.Agreement.public_value;
      shared_secret = g.C.Agreement.shared_secret;
      own_method = g.C.Proof.own_method caller;
      proof_of = g.C.Proof.proof_of caller;
      accepts = g.C.Proof.accepts caller;
    } in
    let all : c.loop-done.done ≡ length c.args.inputs.now = omega arith in
    record {
      within = omega (arith, length-map c.args.inputs.now input_view);
      outputs = i.answers;
      appended = sym nothing ∙ i.appended;
      runs = subst (λ (k : ℕ). Runs (StepsAs meaning_of) (take k (map input_view c.args.inputs.now)) i.answers c.args.gateway.now c.loop-done.gateway) all i.runs;
    }
