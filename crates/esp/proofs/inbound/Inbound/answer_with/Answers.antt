use Rattle.std.proofs.Common.{◌≡◌, ℕ, ◌+◌, List, [], ◌∷◌, ◌++◌, length, get_or, take, sym, ap, ◌∙◌, subst, arith}
use Rattle.std.proofs.lemmas.List.{length_push, length-map, get_or-map}
use Rattle.std.specs.Borrow.{Bor}
use Rattle.esp.specs.declared.sa.Sa.{Sa}
use Rattle.esp.specs.Packet.{BeginsWithItsSpi}
use Rattle.esp.specs.Opening.{Step, Run}
use Rattle.esp.specs.Ahead.{IsAhead}
use Rattle.esp.specs.Delivery.{octets_of}
use Rattle.esp.proofs.AheadLemmas.{if_ahead}
use Rattle.esp.proofs.OpeningLemmas.{step_of}
use Rattle.esp.proofs.Runs.{run_more, step_keeps, take-map_more, pushed}
use Rattle.esp.proofs.inbound.Inbound.answer_with.Goals as goal

-- what stands for a packet behind the last
abbrev none : Bor (List ℕ)
none = record { ref_ptr = (0, 0); now = [] }

pub returns-then-is_err-clause-first : goal.returns-then-is_err-clause-first
returns-then-is_err-clause-first g c =
    let i = c.loop-done.invariant in
    record {
      within = simp length-map (omega arith);
      answers = i.answers;
      appended = c.reserve.ensures.items ∙ i.appended;
      count = i.count;
      run = i.run;
    }

pub open_with-answer-requires-clause-mine : goal.open_with-answer-requires-clause-mine
open_with-answer-requires-clause-mine g c =
    let i = c.loop-done.invariant in
    let packets = c.args.packets.now in
    let k = c.loop-done.done in
    let packet = get_or c.args.packets.now c.loop-done.done none in
    let h = c.loop-done-test.true in
    let here : get_or (octets_of packets) k packet.now ≡ packet.now =
    get_or-map (λ p. p.now) packets k none packet.now h
    in
    let asked : BeginsWithItsSpi c.args.self.now.association packet.now =
    subst (BeginsWithItsSpi c.args.self.now.association) here (c.requires.mine k packet.now (simp length-map h))
    in
    subst (λ (a : Sa). BeginsWithItsSpi a packet.now) (sym i.association) asked

pub open_with-answer-requires-clause-ahead : goal.open_with-answer-requires-clause-ahead
open_with-answer-requires-clause-ahead g c =
    let i = c.loop-done.invariant in
    let packets = c.args.packets.now in
    let k = c.loop-done.done in
    let packet = get_or c.args.packets.now c.loop-done.done none in
    let h = c.loop-done-test.true in
    let here : get_or (octets_of packets) k [] ≡ packet.now =
    get_or-map (λ p. p.now) packets k none [] h
    in
    if_ahead (IsAhead c.loop-done.self.association packet.now) c.ahead_at.result
    (λ found there.
    subst (λ (a : Sa). IsAhead a packet.now found) (sym i.association)
    (subst (λ (b : List ℕ). IsAhead c.args.self.now.association b found) here (c.requires.ahead.each k found (sym c.ahead_at.ensures ∙ there))))

pub loop-done-preserved : goal.loop-done-preserved
loop-done-preserved g c =
    let i = c.loop-done.invariant in
    let packet = get_or c.args.packets.now c.loop-done.done none in
    let answer = c.open_with-answer.result in
    let more = take-map_more (λ p. p.now) c.args.packets.now c.loop-done.done none c.loop-done-test.true in
    let step : Step g.W.Window.may_want c.loop-done.self packet.now answer c.open_with-answer.new.self =
    step_of _ c.loop-done.self packet.now answer c.open_with-answer.new.self c.open_with-answer.ensures.up c.open_with-answer.ensures.refused
    in
    record {
      answers = i.answers ++ answer ∷ [];
      appended = pushed c.args.out.now.items i.answers c.reserve.new.self.items c.push_reserved.new.self.items answer c.push_reserved.ensures.items (c.reserve.ensures.items ∙ i.appended);
      count = length_push i.answers answer ∙ ap (λ (n : ℕ). n + 1) i.count;
      run = subst (λ (bs : List (List ℕ)). Run g.W.Window.may_want c.args.self.now bs (i.answers ++ answer ∷ []) c.open_with-answer.new.self) (sym more)
          (run_more _ c.args.self.now _ i.answers c.loop-done.self packet.now answer c.open_with-answer.new.self i.run step);
      length_now = omega (arith, c.push_reserved.ensures.len, c.reserve.ensures.len, i.length_now);
      capacity = omega (arith, i.capacity, c.reserve.ensures.capacity, c.push_reserved.ensures.capacity);
      association = step_keeps _ _ _ _ _ step ∙ i.association;
    }

pub returns-clause-first : goal.returns-clause-first
returns-clause-first g c =
    let i = c.loop-done.invariant in
    let h = c.loop-done-test.false in
    let e = c.loop-done.auto.done-end in
    let all : c.loop-done.done ≡ length c.args.packets.now = omega arith in
    record {
      within = simp length-map (omega arith);
      answers = i.answers;
      appended = i.appended;
      count = i.count ∙ all;
      run = subst (λ (k : ℕ). Run g.W.Window.may_want c.args.self.now (take k (octets_of c.args.packets.now)) i.answers c.loop-done.self) all i.run;
    }
