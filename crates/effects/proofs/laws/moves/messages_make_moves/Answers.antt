use Rattle.effects.proofs.MoveLemmas.{admitted_moves, begun_none, closing_moves, few_moves, identified_by, message_moves, removal_moves, requested_moves, sending_moves}
use Rattle.effects.proofs.laws.moves.messages_make_moves.Goals as goal

pub returns : goal.returns
returns c =
    record {
      message = message_moves c.windows_are_read_again.ensures.bounds;
      begun = begun_none;
      initial = identified_by c.receptions_say_why.ensures.initial;
      requested = requested_moves;
      admitted = admitted_moves;
      sending = sending_moves;
      closing = closing_moves c.who_is_gone_was_asked.ensures;
      removal = removal_moves;
      few = few_moves;
    }
