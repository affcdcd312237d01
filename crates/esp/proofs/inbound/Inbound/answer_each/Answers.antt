use Rattle.std.proofs.Common.{◌≡◌, ℕ, ◌+◌, ◌-◌, ◌*◌, List, length, take, drop, min, sym, subst, arith, length-drop}
use Rattle.std.proofs.lemmas.List.{length-map, length-take-le}
use Rattle.replay.specs.Window.{IsSoundWindow}
use Rattle.esp.specs.declared.sa.Sa.{Sa}
use Rattle.esp.specs.Packet.{BeginsWithItsSpi}
use Rattle.esp.specs.Views.{Receiving}
use Rattle.esp.specs.Ahead.{RunsFirst}
use Rattle.esp.specs.Delivery.{octets_of}
use Rattle.std.specs.Prelude.{All}
use Rattle.esp.proofs.Runs.{answers_first}
use Rattle.esp.proofs.AheadLemmas.{run_keeps, runs_more, group_part, group_of}
use Rattle.esp.proofs.inbound.Inbound.answer_each.Goals as goal

pub answer_group-answered-requires-clause-mine : goal.answer_group-answered-requires-clause-mine
answer_group-answered-requires-clause-mine g c =
    let i = c.loop-group.invariant in
    let first = i.first in
    let same = run_keeps _ _ _ _ _ first.run in
    let mine : All (BeginsWithItsSpi c.loop-group.self.association) (octets_of c.args.packets.now) =
    subst (λ (a : Sa). All (BeginsWithItsSpi a) (octets_of c.args.packets.now)) (sym same) c.requires
    in
    group_of (BeginsWithItsSpi c.loop-group.self.association) c.args.packets.now (64 * c.loop-group.group) (64 * c.loop-group.group + c.min-count.result - 64 * c.loop-group.group) mine

pub returns-then-answered-count-clause-stopped : goal.returns-then-answered-count-clause-stopped
returns-then-answered-count-clause-stopped g c =
    let i = c.loop-group.invariant in
    let sound : IsSoundWindow c.args.self.now.window = subst (λ (r : Receiving). IsSoundWindow r.window) c.self.view_is (g.met.W.Window.sound c.self.inside.window) in
    let packets = c.args.packets.now in
    let ps = octets_of packets in
    let at = 64 * c.loop-group.group in
    let size = at + c.min-count.result - at in
    let k = c.answer_group-answered.result in
    let done : min at (length packets) ≡ at = omega arith in
    let all : length ps ≡ length packets = length-map packets (λ p. p.now) in
    let first : RunsFirst g.W.Window.may_want at c.args.self.now ps c.args.out.now.items c.loop-group.self c.loop-group.out.items =
    subst (λ (n : ℕ). RunsFirst g.W.Window.may_want n c.args.self.now ps c.args.out.now.items c.loop-group.self c.loop-group.out.items) done i.first
    in
    let second : RunsFirst g.W.Window.may_want k c.loop-group.self (take size (drop at ps)) c.loop-group.out.items c.answer_group-answered.new.self c.answer_group-answered.new.out.items =
    subst (λ (qs : List (List ℕ)). RunsFirst g.W.Window.may_want k c.loop-group.self qs c.loop-group.out.items c.answer_group-answered.new.self c.answer_group-answered.new.out.items) (group_part packets at size) c.answer_group-answered.ensures.first
    in
    let both = runs_more _ at size k c.args.self.now c.loop-group.self c.answer_group-answered.new.self ps c.args.out.now.items c.loop-group.out.items c.answer_group-answered.new.out.items first (omega arith) second in
    record {
      some_left = omega arith;
      first = answers_first _ (at + k) c.args.self.now ps c.args.out.now.items c.answer_group-answered.new.self c.answer_group-answered.new.out.items both.answers sound both.appended both.count both.run;
    }

pub loop-group-preserved : goal.loop-group-preserved
loop-group-preserved g c =
    let i = c.loop-group.invariant in
    let packets = c.args.packets.now in
    let ps = octets_of packets in
    let at = 64 * c.loop-group.group in
    let size = at + c.min-count.result - at in
    let k = c.answer_group-answered.result in
    let done : min at (length packets) ≡ at = omega arith in
    let all : length ps ≡ length packets = length-map packets (λ p. p.now) in
    let first : RunsFirst g.W.Window.may_want at c.args.self.now ps c.args.out.now.items c.loop-group.self c.loop-group.out.items =
    subst (λ (n : ℕ). RunsFirst g.W.Window.may_want n c.args.self.now ps c.args.out.now.items c.loop-group.self c.loop-group.out.items) done i.first
    in
    let second : RunsFirst g.W.Window.may_want k c.loop-group.self (take size (drop at ps)) c.loop-group.out.items c.answer_group-answered.new.self c.answer_group-answered.new.out.items =
    subst (λ (qs : List (List ℕ)). RunsFirst g.W.Window.may_want k c.loop-group.self qs c.loop-group.out.items c.answer_group-answered.new.self c.answer_group-answered.new.out.items) (group_part packets at size) c.answer_group-answered.ensures.first
    in
    let both = runs_more _ at size k c.args.self.now c.loop-group.self c.answer_group-answered.new.self ps c.args.out.now.items c.loop-group.out.items c.answer_group-answered.new.out.items first (omega arith) second in
    let within = second.within in
    let long : length (take size (drop at ps)) ≡ size = length-take-le size (drop at ps) (omega (arith, length-drop at ps)) in
    let after : at + k ≡ min (64 * (c.loop-group.group + 1)) (length packets) = omega arith in
    record {
      first = subst (λ (n : ℕ). RunsFirst g.W.Window.may_want n c.args.self.now ps c.args.out.now.items c.answer_group-answered.new.self c.answer_group-answered.new.out.items) after both;
      length_now = omega (arith, i.length_now, c.answer_group-answered.ensures.size);
      capacity = omega (arith, i.capacity, c.answer_group-answered.ensures.capacity);
    }

pub returns-clause-all : goal.returns-clause-all
returns-clause-all g c =
    let i = c.loop-group.invariant in
    let sound : IsSoundWindow c.args.self.now.window = subst (λ (r : Receiving). IsSoundWindow r.window) c.self.view_is (g.met.W.Window.sound c.self.inside.window) in
    let packets = c.args.packets.now in
    let ps = octets_of packets in
    let all : min (64 * c.loop-group.group) (length packets) ≡ length packets = omega arith in
    let first : RunsFirst g.W.Window.may_want (length packets) c.args.self.now ps c.args.out.now.items c.loop-group.self c.loop-group.out.items =
    subst (λ (n : ℕ). RunsFirst g.W.Window.may_want n c.args.self.now ps c.args.out.now.items c.loop-group.self c.loop-group.out.items) all i.first
    in
    answers_first _ (length packets) c.args.self.now ps c.args.out.now.items c.loop-group.self c.loop-group.out.items first.answers sound first.appended first.count first.run
