use Rattle.std.proofs.Common.{◌≡◌, ℕ, ◌+◌, ◌-◌, ◌*◌, List, length, map, take, drop, min, subst, arith, length-drop}
use Rattle.std.proofs.lemmas.List.{length-map, length-take-le}
use Rattle.effects.specs.Taking.{Meaning}
use Rattle.gateway.specs.Groups.{TakesFirst}
use Rattle.gateway.specs.Inputs.{Input, input_view}
use Rattle.gateway.proofs.AlikeLemmas.{one_result}
use Rattle.gateway.proofs.BesideRuns.{one_result_beside}
use Rattle.gateway.proofs.GroupLemmas.{takes_more}
use Rattle.gateway.proofs.RunLemmas.{part_of_image}
use Rattle.gateway.proofs.running.run.Goals as goal

pub returns-then-taken-count-clause-stopped : goal.returns-then-taken-count-clause-stopped
returns-then-taken-count-clause-stopped g c =
    let i = c.loop-group.invariant in
    let meaning_of : _ → Meaning = λ caller. record {
      cipher = g.C.Sealer.cipher;
      body_of = g.C.Sealer.body_of;
      plain_of = g.C.Sealer.plain_of;
      group = g.C.Agreement.group_number;
      public_value = g.C.Agreement.public_value;
      shared_secret = g.C.Agreement.shared_secret;
      own_method = g.C.Proof.own_method caller;
      proof_of = g.C.Proof.proof_of caller;
      accepts = g.C.Proof.accepts caller;
    } in
    let inputs = c.args.inputs.now in
    let given = map input_view inputs in
    let at = 64 * c.loop-group.group in
    let size = at + c.min-count.result - at in
    let k = c.run_group-taken.result in
    let done : min at (length inputs) ≡ at = omega arith in
    let first : TakesFirst meaning_of at given c.args.gateway.now c.args.outputs.now.items c.loop-group.gateway c.loop-group.outputs.items =
    subst (λ (n : ℕ). TakesFirst meaning_of n given c.args.gateway.now c.args.outputs.now.items c.loop-group.gateway c.loop-group.outputs.items) done i.first
    in
    let second : TakesFirst meaning_of k (take size (drop at given)) c.loop-group.gateway c.loop-group.outputs.items c.run_group-taken.new.gateway c.run_group-taken.new.outputs.items =
    subst (λ (is : List Input). TakesFirst meaning_of k is c.loop-group.gateway c.loop-group.outputs.items c.run_group-taken.new.gateway c.run_group-taken.new.outputs.items) (part_of_image input_view inputs at size)
    c.run_group-taken.ensures.first
    in
    let many : length given ≡ length inputs = length-map inputs input_view in
    let both = takes_more meaning_of at size k c.args.gateway.now c.loop-group.gateway c.run_group-taken.new.gateway given c.args.outputs.now.items c.loop-group.outputs.items c.run_group-taken.new.outputs.items first (omega arith) second in (
      omega arith,
      record {
        outputs = both.outputs;
        appended = both.appended;
        runs = both.runs;
        promises = c.every_run_keeps_its_promises.ensures meaning_of _ both.outputs c.args.gateway.now c.run_group-taken.new.gateway both.runs;
      },
    )

pub loop-group-preserved : goal.loop-group-preserved
loop-group-preserved g c =
    let i = c.loop-group.invariant in
    let meaning_of : _ → Meaning = λ caller. record {
      cipher = g.C.Sealer.cipher;
      body_of = g.C.Sealer.body_of;
      plain_of = g.C.Sealer.plain_of;
      group = g.C.Agreement.group_number;
      public_value = g.C.Agreement.public_value;
      shared_secret = g.C.Agreement.shared_secret;
      own_method = g.C.Proof.own_method caller;
      proof_of = g.C.Proof.proof_of caller;
      accepts = g.C.Proof.accepts caller;
    } in
    let inputs = c.args.inputs.now in
    let given = map input_view inputs in
    let at = 64 * c.loop-group.group in
    let size = at + c.min-count.result - at in
    let k = c.run_group-taken.result in
    let done : min at (length inputs) ≡ at = omega arith in
    let first : TakesFirst meaning_of at given c.args.gateway.now c.args.outputs.now.items c.loop-group.gateway c.loop-group.outputs.items =
    subst (λ (n : ℕ). TakesFirst meaning_of n given c.args.gateway.now c.args.outputs.now.items c.loop-group.gateway c.loop-group.outputs.items) done i.first
    in
    let second : TakesFirst meaning_of k (take size (drop at given)) c.loop-group.gateway c.loop-group.outputs.items c.run_group-taken.new.gateway c.run_group-taken.new.outputs.items =
    subst (λ (is : List Input). TakesFirst meaning_of k is c.loop-group.gateway c.loop-group.outputs.items c.run_group-taken.new.gateway c.run_group-taken.new.outputs.items) (part_of_image input_view inputs at size)
    c.run_group-taken.ensures.first
    in
    let many : length given ≡ length inputs = length-map inputs input_view in
    let both = takes_more meaning_of at size k c.args.gateway.now c.loop-group.gateway c.run_group-taken.new.gateway given c.args.outputs.now.items c.loop-group.outputs.items c.run_group-taken.new.outputs.items first (omega arith) second in
    let within = c.run_group-taken.ensures.first.within in
    let part : length (map input_view (take size (drop at inputs))) ≡ length (take size (drop at inputs)) = length-map (take size (drop at inputs)) input_view in
    let long : length (take size (drop at inputs)) ≡ size = length-take-le size (drop at inputs) (omega (arith, length-drop at inputs)) in
    let after : at + k ≡ min (64 * (c.loop-group.group + 1)) (length inputs) = omega arith in
    record {
      first = subst (λ (n : ℕ). TakesFirst meaning_of n given c.args.gateway.now c.args.outputs.now.items c.run_group-taken.new.gateway c.run_group-taken.new.outputs.items) after both;
      length_now = omega (arith, i.length_now, c.run_group-taken.ensures.size);
      capacity = omega (arith, i.capacity, c.run_group-taken.ensures.capacity);
    }

pub returns-clause-all : goal.returns-clause-all
returns-clause-all g c =
    let i = c.loop-group.invariant in
    let meaning_of : _ → Meaning = λ caller. record {
      cipher = g.C.Sealer.cipher;
      body_of = g.C.Sealer.body_of;
      plain_of = g.C.Sealer.plain_of;
      group = g.C.Agreement.group_number;
      public_value = g.C.Agreement.public_value;
      shared_secret = g.C.Agreement.shared_secret;
      own_method = g.C.Proof.own_method caller;
      proof_of = g.C.Proof.proof_of caller;
      accepts = g.C.Proof.accepts caller;
    } in
    let inputs = c.args.inputs.now in
    let given = map input_view inputs in
    let all : min (64 * c.loop-group.group) (length inputs) ≡ length inputs = omega arith in
    let first : TakesFirst meaning_of (length inputs) given c.args.gateway.now c.args.outputs.now.items c.loop-group.gateway c.loop-group.outputs.items =
    subst (λ (n : ℕ). TakesFirst meaning_of n given c.args.gateway.now c.args.outputs.now.items c.loop-group.gateway c.loop-group.outputs.items) all i.first
    in
    record {
      outputs = first.outputs;
      appended = first.appended;
      runs = first.runs;
      promises = c.every_run_keeps_its_promises.ensures meaning_of _ first.outputs c.args.gateway.now c.loop-group.gateway first.runs;
    }

pub returns-then-taken-count-clause-determined : goal.returns-then-taken-count-clause-determined
returns-then-taken-count-clause-determined g c =
    let meaning_of : _ → Meaning = λ caller. record {
      cipher = g.C.Sealer.cipher;
      body_of = g.C.Sealer.body_of;
      plain_of = g.C.Sealer.plain_of;
      group = g.C.Agreement.group_number;
      public_value = g.C.Agreement.public_value;
      shared_secret = g.C.Agreement.shared_secret;
      own_method = g.C.Proof.own_method caller;
      proof_of = g.C.Proof.proof_of caller;
      accepts = g.C.Proof.accepts caller;
    } in
    one_result meaning_of (map input_view c.args.inputs.now) c.args.gateway.now c.what_has_no_effect_can_be_left_out.ensures c.tell_their_lengths.ensures

pub returns-clause-determined : goal.returns-clause-determined
returns-clause-determined g c =
    let meaning_of : _ → Meaning = λ caller. record {
      cipher = g.C.Sealer.cipher;
      body_of = g.C.Sealer.body_of;
      plain_of = g.C.Sealer.plain_of;
      group = g.C.Agreement.group_number;
      public_value = g.C.Agreement.public_value;
      shared_secret = g.C.Agreement.shared_secret;
      own_method = g.C.Proof.own_method caller;
      proof_of = g.C.Proof.proof_of caller;
      accepts = g.C.Proof.accepts caller;
    } in
    one_result meaning_of (map input_view c.args.inputs.now) c.args.gateway.now c.what_has_no_effect_can_be_left_out.ensures c.tell_their_lengths.ensures

pub returns-then-taken-count-clause-beside : goal.returns-then-taken-count-clause-beside
returns-then-taken-count-clause-beside g c =
    let meaning_of : _ → Meaning = λ caller. record {
      cipher = g.C.Sealer.cipher;
      body_of = g.C.Sealer.body_of;
      plain_of = g.C.Sealer.plain_of;
      group = g.C.Agreement.group_number;
      public_value = g.C.Agreement.public_value;
      shared_secret = g.C.Agreement.shared_secret;
      own_method = g.C.Proof.own_method caller;
      proof_of = g.C.Proof.proof_of caller;
      accepts = g.C.Proof.accepts caller;
    } in
    one_result_beside meaning_of (map input_view c.args.inputs.now) c.args.gateway.now c.strangers_can_be_left_out.ensures.beside c.tell_their_lengths.ensures

pub returns-clause-beside : goal.returns-clause-beside
returns-clause-beside g c =
    let meaning_of : _ → Meaning = λ caller. record {
      cipher = g.C.Sealer.cipher;
      body_of = g.C.Sealer.body_of;
      plain_of = g.C.Sealer.plain_of;
      group = g.C.Agreement.group_number;
      public_value = g.C.Agreement.public_value;
      shared_secret = g.C.Agreement.shared_secret;
      own_method = g.C.Proof.own_method caller;
      proof_of = g.C.Proof.proof_of caller;
      accepts = g.C.Proof.accepts caller;
    } in
    one_result_beside meaning_of (map input_view c.args.inputs.now) c.args.gateway.now c.strangers_can_be_left_out.ensures.beside c.tell_their_lengths.ensures
