use Rattle.std.proofs.Common.{◌≡◌, ℕ, List, [], ◌∷◌, ◌++◌, length, map, refl, sym, ◌∙◌, subst, arith}
use Rattle.std.proofs.lemmas.Option.{slice_get_read}
use Rattle.effects.specs.Taking.{Meaning}
use Rattle.gateway.specs.Inputs.{Event, event_view}
use Rattle.gateway.specs.Runs.{Runs}
use Rattle.gateway.specs.BothEnds.{KeepsBothEnds}
use Rattle.gateway.specs.WorldRuns.{HappensAs, PlaysFirst}
use Rattle.gateway.proofs.RunLemmas.{next_in_image, pushed_after, run_more, take_next_image, within_image}
use Rattle.gateway.proofs.CarryLemmas.{keeps_both_ends}
use Rattle.gateway.proofs.WorldLemmas.{plays}
use Rattle.gateway.proofs.world.running.run_world.Goals as goal

pub returns-then-is_err-clause-stopped : goal.returns-then-is_err-clause-stopped
returns-then-is_err-clause-stopped g c =
    let i = c.loop-done.invariant in
    let meaning_of : _ → Meaning = λ caller. record {
      cipher = g.C.Sealer.cipher;
      body_of = g.C.Sealer.body_of;
      plain_of = g.C.Sealer.plain_of;
      group = g.C.Agreement.group_number;
      public_value = g.C.Agreement.public_value;
      shared_secret = g.C.Agreement.shared_secret;
      own_method = g.C.Proof.own_method caller;
      proof_of = g.C.Proof.proof_of caller;
      accepts = g.C.Proof.accepts caller;
    } in
    (within_image event_view c.args.events.now c.loop-done.done c.loop-done-test.true, plays c.every_run_keeps_its_promises.ensures c.every_world_stays_sound.ensures.run meaning_of c.loop-done.done (map event_view c.args.events.now) c.args.world.now c.args.outputs.now.items i.answers c.loop-done.world c.reserve.new.self.items (c.reserve.ensures.items ∙ i.appended) i.runs)

pub returns-in_default-clause-stopped : goal.returns-in_default-clause-stopped
returns-in_default-clause-stopped g c =
    let i = c.loop-done.invariant in
    let meaning_of : _ → Meaning = λ caller. record {
      cipher = g.C.Sealer.cipher;
      body_of = g.C.Sealer.body_of;
      plain_of = g.C.Sealer.plain_of;
      group = g.C.Agreement.group_number;
      public_value = g.C.Agreement.public_value;
      shared_secret = g.C.Agreement.shared_secret;
      own_method = g.C.Proof.own_method caller;
      proof_of = g.C.Proof.proof_of caller;
      accepts = g.C.Proof.accepts caller;
    } in
    let played = plays c.every_run_keeps_its_promises.ensures c.every_world_stays_sound.ensures.run meaning_of c.loop-done.done (map event_view c.args.events.now) c.args.world.now c.args.outputs.now.items i.answers c.loop-done.world c.reserve.new.self.items (c.reserve.ensures.items ∙ i.appended) i.runs in
    (within_image event_view c.args.events.now c.loop-done.done c.loop-done-test.true, subst (λ w. PlaysFirst meaning_of c.loop-done.done (map event_view c.args.events.now) c.args.world.now c.args.outputs.now.items w c.reserve.new.self.items) (sym c.in_default.ensures.refused) played)

pub loop-done-preserved : goal.loop-done-preserved
loop-done-preserved g c =
    let i = c.loop-done.invariant in
    let meaning_of : _ → Meaning = λ caller. record {
      cipher = g.C.Sealer.cipher;
      body_of = g.C.Sealer.body_of;
      plain_of = g.C.Sealer.plain_of;
      group = g.C.Agreement.group_number;
      public_value = g.C.Agreement.public_value;
      shared_secret = g.C.Agreement.shared_secret;
      own_method = g.C.Proof.own_method caller;
      proof_of = g.C.Proof.proof_of caller;
      accepts = g.C.Proof.accepts caller;
    } in
    let o = c.in-Ok.output in
    record {
      answers = i.answers ++ o ∷ [];
      appended = pushed_after c.args.outputs.now.items i.answers c.reserve.new.self.items c.push_reserved.new.self.items o c.push_reserved.ensures.items (c.reserve.ensures.items ∙ i.appended);
      runs = subst (λ (is : List Event). Runs (HappensAs meaning_of) is (i.answers ++ o ∷ []) c.args.world.now c.happen.new.self) (sym (take_next_image event_view c.args.events.now c.loop-done.done _ c.loop-done-test.true))
          (run_more (HappensAs meaning_of) c.args.world.now _ i.answers c.loop-done.world _ o c.happen.new.self i.runs c.in-Ok.ensures.happened);
      length_now = omega (arith, c.push_reserved.ensures.len, c.reserve.ensures.len, i.length_now);
      capacity = omega (arith, i.capacity, c.reserve.ensures.capacity, c.push_reserved.ensures.capacity);
    }

pub returns-in_default-clause-room : goal.returns-in_default-clause-room
returns-in_default-clause-room g c = λ room. (
  event_view _,
  slice_get_read (map event_view c.args.events.now) _ c.loop-done.done _ refl (within_image event_view c.args.events.now c.loop-done.done c.loop-done-test.true) (next_in_image event_view c.args.events.now c.loop-done.done _ c.loop-done-test.true),
  c.in_default.ensures.sends,
)

pub returns-clause-all : goal.returns-clause-all
returns-clause-all g c =
    let i = c.loop-done.invariant in
    let h = c.loop-done-test.false in
    let e = c.loop-done.auto.done-end in
    let meaning_of : _ → Meaning = λ caller. record {
      cipher = g.C.Sealer.cipher;
      body_of = g.C.Sealer.body_of;
      plain_of = g.C.Sealer.plain_of;
      group = g.C.Agreement.group_number;
      public_value = g.C.Agreement.public_value;
      shared_secret = g.C.Agreement.shared_secret;
      own_method = g.C.Proof.own_method caller;
      proof_of = g.C.Proof.proof_of caller;
      accepts = g.C.Proof.accepts caller;
    } in
    let all : c.loop-done.done ≡ length c.args.events.now = omega arith in
    subst (λ (k : ℕ). PlaysFirst meaning_of k (map event_view c.args.events.now) c.args.world.now c.args.outputs.now.items c.loop-done.world c.loop-done.outputs.items) all
    (plays c.every_run_keeps_its_promises.ensures c.every_world_stays_sound.ensures.run meaning_of c.loop-done.done (map event_view c.args.events.now) c.args.world.now c.args.outputs.now.items i.answers c.loop-done.world c.loop-done.outputs.items i.appended i.runs)

pub returns-then-is_err-clause-both : goal.returns-then-is_err-clause-both
returns-then-is_err-clause-both g c =
    let i = c.loop-done.invariant in
    let meaning_of : _ → Meaning = λ caller. record {
      cipher = g.C.Sealer.cipher;
      body_of = g.C.Sealer.body_of;
      plain_of = g.C.Sealer.plain_of;
      group = g.C.Agreement.group_number;
      public_value = g.C.Agreement.public_value;
      shared_secret = g.C.Agreement.shared_secret;
      own_method = g.C.Proof.own_method caller;
      proof_of = g.C.Proof.proof_of caller;
      accepts = g.C.Proof.accepts caller;
    } in
    keeps_both_ends meaning_of g.C.Sealer.body_of g.C.Sealer.plain_of c.both_ends_keep_their_promises.ensures c.loop-done.done (map event_view c.args.events.now) c.args.world.now c.args.outputs.now.items i.answers c.loop-done.world c.reserve.new.self.items
    (c.reserve.ensures.items ∙ i.appended) i.runs

pub returns-in_default-clause-both : goal.returns-in_default-clause-both
returns-in_default-clause-both g c =
    let i = c.loop-done.invariant in
    let meaning_of : _ → Meaning = λ caller. record {
      cipher = g.C.Sealer.cipher;
      body_of = g.C.Sealer.body_of;
      plain_of = g.C.Sealer.plain_of;
      group = g.C.Agreement.group_number;
      public_value = g.C.Agreement.public_value;
      shared_secret = g.C.Agreement.shared_secret;
      own_method = g.C.Proof.own_method caller;
      proof_of = g.C.Proof.proof_of caller;
      accepts = g.C.Proof.accepts caller;
    } in
    subst (λ w. KeepsBothEnds g.C.Sealer.body_of g.C.Sealer.plain_of meaning_of (map event_view c.args.events.now) c.args.world.now c.args.outputs.now.items w c.reserve.new.self.items) (sym c.in_default.ensures.refused)
    (keeps_both_ends meaning_of g.C.Sealer.body_of g.C.Sealer.plain_of c.both_ends_keep_their_promises.ensures c.loop-done.done (map event_view c.args.events.now) c.args.world.now c.args.outputs.now.items i.answers c.loop-done.world c.reserve.new.self.items
    (c.reserve.ensures.items ∙ i.appended) i.runs)

pub returns-clause-both : goal.returns-clause-both
returns-clause-both g c =
    let i = c.loop-done.invariant in
    let meaning_of : _ → Meaning = λ caller. record {
      cipher = g.C.Sealer.cipher;
      body_of = g.C.Sealer.body_of;
      plain_of = g.C.Sealer.plain_of;
      group = g.C.Agreement.group_number;
      public_value = g.C.Agreement.public_value;
      shared_secret = g.C.Agreement.shared_secret;
      own_method = g.C.Proof.own_method caller;
      proof_of = g.C.Proof.proof_of caller;
      accepts = g.C.Proof.accepts caller;
    } in
    keeps_both_ends meaning_of g.C.Sealer.body_of g.C.Sealer.plain_of c.both_ends_keep_their_promises.ensures c.loop-done.done (map event_view c.args.events.now) c.args.world.now c.args.outputs.now.items i.answers c.loop-done.world c.loop-done.outputs.items i.appended i.runs

pub returns-then-is_err-clause-partners : goal.returns-then-is_err-clause-partners
returns-then-is_err-clause-partners g c = record {
  each = λ count outputs new happenings history. record {
    initiator = c.an_established_initiator_has_a_partner.ensures happenings c.args.world.now new history.trail;
    responder = c.an_established_responder_has_a_partner.ensures happenings c.args.world.now new history.trail;
    one_partner = c.a_partner_is_the_only_one.ensures.initiator happenings c.args.world.now new history.trail;
    one_asker = c.a_partner_is_the_only_one.ensures.responder happenings c.args.world.now new history.trail;
  };
}

pub returns-in_default-clause-partners : goal.returns-in_default-clause-partners
returns-in_default-clause-partners g c = record {
  each = λ count outputs new happenings history. record {
    initiator = c.an_established_initiator_has_a_partner.ensures happenings c.args.world.now new history.trail;
    responder = c.an_established_responder_has_a_partner.ensures happenings c.args.world.now new history.trail;
    one_partner = c.a_partner_is_the_only_one.ensures.initiator happenings c.args.world.now new history.trail;
    one_asker = c.a_partner_is_the_only_one.ensures.responder happenings c.args.world.now new history.trail;
  };
}

pub returns-clause-partners : goal.returns-clause-partners
returns-clause-partners g c = record {
  each = λ count outputs new happenings history. record {
    initiator = c.an_established_initiator_has_a_partner.ensures happenings c.args.world.now new history.trail;
    responder = c.an_established_responder_has_a_partner.ensures happenings c.args.world.now new history.trail;
    one_partner = c.a_partner_is_the_only_one.ensures.initiator happenings c.args.world.now new history.trail;
    one_asker = c.a_partner_is_the_only_one.ensures.responder happenings c.args.world.now new history.trail;
  };
}
