use Rattle.ike.proofs.MoveLemmas.{step_moves, MoveLaws}
use Rattle.ike.proofs.laws.steps.steps_are_moves.Goals as goal

pub returns : goal.returns
returns c =
    let laws : MoveLaws = record {
      itself = c.associations_stay_themselves.ensures;
      message = c.messages_make_moves.ensures.message;
      requested = c.messages_make_moves.ensures.requested;
      admits = c.messages_make_moves.ensures.admitted;
      initial = c.messages_make_moves.ensures.initial;
      sending = c.messages_make_moves.ensures.sending;
      closing = c.messages_make_moves.ensures.closing;
      removal = c.messages_make_moves.ensures.removal;
      few = c.messages_make_moves.ensures.few;
      reply = c.messages_open.ensures.reply;
      identity = c.messages_open.ensures.identity;
      asked = c.messages_open.ensures.requested;
      taken = c.messages_open.ensures.taken;
      counted = c.messages_open.ensures.counted;
      whole = c.keys_stay_whole.ensures.taken;
      keyed = c.keys_stay.ensures.keyed;
      kept = c.what_goes_out_again_is_kept.ensures.reply;
      ticks = record {
        again = c.what_goes_out_again_is_outstanding.ensures;
        closed = λ now old table ticked new new_table is. (c.what_comes_is_due.ensures now old table ticked new new_table is).1;
        sent = λ now old table ticked new new_table is. (c.what_comes_is_due.ensures now old table ticked new new_table is).0;
        waits = c.what_goes_out_again_is_kept.ensures.request;
      };
    } in
    step_moves laws c.what_is_held_was_held.ensures
