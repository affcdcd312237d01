use Rattle.effects.proofs.RequestLemmas.{admitted_sound, begun_sound, keeps_window, requested_sound, requests_follow, stays_concluded, stays_half_open, stays_sound, FollowLaws}
use Rattle.effects.proofs.WindowLemmas.{keeps_peers, widens}
use Rattle.effects.proofs.laws.taking_effect.requests_are_remembered.Goals as goal

pub returns : goal.returns
returns c =
    let incoming : FollowLaws = record {
      reflexive = c.later_incoming_follow.ensures.reflexive;
      transitive = c.later_incoming_follow.ensures.transitive;
      preparing = c.later_incoming_follow.ensures.preparing;
      taking = c.later_incoming_follow.ensures.taking;
      sizing = c.later_incoming_follow.ensures.sizing;
    } in
    record {
      follows = requests_follow incoming c.windows_are_read_again.ensures.bounds;
      concluded = stays_concluded incoming c.windows_are_read_again.ensures.bounds;
      half_open = stays_half_open incoming c.windows_are_read_again.ensures.bounds;
      sound = stays_sound incoming c.windows_are_read_again.ensures.bounds;
      begun = begun_sound;
      admitted = admitted_sound;
      requested = requested_sound;
      window = keeps_window incoming c.windows_are_read_again.ensures.bounds;
      peers = keeps_peers (record {
        effective = c.receptions_say_why.ensures.effective;
        answering = c.receptions_say_why.ensures.answering;
      });
      widens = widens (record {
        effective = c.receptions_say_why.ensures.effective;
        answering = c.receptions_say_why.ensures.answering;
      });
    }
