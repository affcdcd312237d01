use Rattle.ike.specs.Machines.{Machine}
use Rattle.gateway.specs.Staying.{RepliesAreKept, WindowsAreConfigured}
use Rattle.gateway.proofs.ConfiguredLemmas.{windows_after, WindowFacts}
use Rattle.gateway.proofs.StayingLemmas.{inside_after, machine_stays, stands_after}
use Rattle.gateway.proofs.ReplyLemmas.{replies_after, ReplyFacts}
use Rattle.gateway.proofs.laws.runs.what_every_gateway_has_stays.Goals as goal

pub returns : goal.returns
returns g c =
    let replied : ReplyFacts = record {
      laws = c.steps_keep_their_laws.ensures;
      stay = c.traces_name_what_is_held.ensures.keys;
      follows = c.requests_are_remembered.ensures.follows;
      concluded = c.requests_are_remembered.ensures.concluded;
      alone = c.requests_take_effect.ensures.alone;
      soundly = c.requests_are_remembered.ensures.soundly;
    } in
    let windows : WindowFacts = record {
      laws = c.steps_keep_their_laws.ensures;
      concluded = c.requests_are_remembered.ensures.concluded;
      window = c.requests_are_remembered.ensures.window;
      widens = c.requests_are_remembered.ensures.widens;
      begun = c.requests_are_remembered.ensures.begun;
    } in
    λ meaning_of given said trace old new sound traces was. record {
      standing = stands_after meaning_of c.every_run_keeps_its_promises.ensures given said trace old new sound traces was.standing;
      inside = inside_after meaning_of c.every_run_keeps_its_promises.ensures given said trace old new sound traces was.inside;
      replies = machine_stays (λ (m : Machine). RepliesAreKept m.held) (meaning_of old.caller) old.entries old.machine old.table _ trace new.machine new.table was.replies
          (λ view stepped steps. replies_after replied (meaning_of old.caller) old.entries view old.machine old.table stepped new.machine new.table sound.table sound.machine steps was.replies) given traces.does;
      windows = machine_stays (λ (m : Machine). WindowsAreConfigured m) (meaning_of old.caller) old.entries old.machine old.table _ trace new.machine new.table was.windows
          (λ view stepped steps. windows_after windows (meaning_of old.caller) old.entries view old.machine old.table stepped new.machine new.table sound.table sound.machine steps was.windows) given traces.does;
    }
