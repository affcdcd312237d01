use Rattle.std.proofs.Common.{max}
use Rattle.std.proofs.lemmas.List.Elements.{All-nil}
use Rattle.moments.specs.Held.{IsInTime}
use Rattle.ike.proofs.OrderLemmas.{moment_needs, moment_refused}
use Rattle.ike.proofs.MomentLemmas.{step_comes, step_stays, step_timely, TimelyLaws}
use Rattle.ike.proofs.WaitLemmas.{WaitLaws}
use Rattle.ike.proofs.laws.times.what_is_due_comes_in_time.Goals as goal

pub returns : goal.returns
returns c =
    let laws : TimelyLaws = record {
      taken = c.nothing_comes_due.ensures.taken;
      begins = c.nothing_comes_due.ensures.begun;
      admits = c.nothing_comes_due.ensures.admitted;
      requested = c.nothing_comes_due.ensures.requested;
      ticks = c.nothing_is_due_afterwards.ensures.held;
      pairs = c.pairs_go_with_their_associations.ensures;
      comes = c.what_comes_is_due.ensures;
      held_on = c.what_is_held_was_held.ensures;
    } in
    let waits : WaitLaws = record {
      itself = c.associations_stay_themselves.ensures;
      taken = c.requests_wait_on.ensures.taken;
      until = c.requests_wait_on.ensures.until;
      closed = c.requests_wait_on.ensures.closed;
      opened = c.requests_are_remembered.ensures.half_open;
      begun = c.requests_wait_on.ensures.begun;
      requested = c.requests_wait_on.ensures.requested;
      beside = c.requests_wait_on.ensures.beside;
    } in
    record {
      first = λ config. All-nil (IsInTime 0);
      timely = step_timely laws;
      comes = step_comes laws;
      unrefused = λ meaning entries moment machine table reason is. moment_refused (max machine.moment moment) machine.held.associations reason is;
      needed = λ meaning entries moment machine table reason is. moment_needs (max machine.moment moment) machine.held.associations reason is;
      stays = step_stays waits;
    }
