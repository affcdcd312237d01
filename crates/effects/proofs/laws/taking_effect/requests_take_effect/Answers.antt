use Rattle.effects.proofs.RequestLemmas.{new_takes_effect, passes_or_takes, put_into_effect, replied_takes, FollowLaws, ReceptionLaws}
use Rattle.effects.proofs.laws.taking_effect.requests_take_effect.Goals as goal

pub returns : goal.returns
returns c =
    let incoming : FollowLaws = record {
      reflexive = c.later_incoming_follow.ensures.reflexive;
      transitive = c.later_incoming_follow.ensures.transitive;
      preparing = c.later_incoming_follow.ensures.preparing;
      taking = c.later_incoming_follow.ensures.taking;
      sizing = c.later_incoming_follow.ensures.sizing;
    } in
    let receiving : ReceptionLaws = record {
      determined = c.receptions_are_determined.ensures;
      effective = c.receptions_say_why.ensures.effective;
      due = c.what_is_due_is_received.ensures;
    } in
    record {
      alone = put_into_effect incoming receiving;
      always = new_takes_effect incoming receiving;
      otherwise = passes_or_takes incoming receiving;
      replied = replied_takes incoming receiving;
    }
