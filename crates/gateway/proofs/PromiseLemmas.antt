-- Every run keeps what is promised of it.
use Rattle.std.proofs.Common.{List}
use Rattle.effects.specs.Taking.{Meaning}
use Rattle.gateway.specs.Inputs.{Input}
use Rattle.gateway.specs.Promises.{KeepsPromises}
use Rattle.gateway.specs.Runs.{Runs, StepsAs}
use Rattle.gateway.specs.States.{State}
use Rattle.gateway.specs.declared.output.Output.{Output}
use Rattle.gateway.proofs.AuthenticationLemmas.{only_the_proved, AuthenticationFacts}
use Rattle.gateway.proofs.DeliveryLemmas.{packets_kept, DeliveryFacts}
use Rattle.gateway.proofs.HistoryLemmas.{told}
use Rattle.gateway.proofs.KnownLemmas.{carrying_kept, closing_kept, inside_kept, strangers_kept, KnownFacts}
use Rattle.gateway.proofs.MomentLemmas.{moments_kept, MomentFacts}
use Rattle.gateway.proofs.RequestLemmas.{repeats_kept, requests_kept, RefusalLaw, RequestFacts}
use Rattle.gateway.proofs.SpiLemmas.{spis_kept, SpiFacts}

pub keeps_promises : {C : Type 0} (facts : RequestFacts) (changes_nothing : RefusalLaw C) (moments : MomentFacts) (packets : DeliveryFacts) (proved : AuthenticationFacts) (known : KnownFacts) (spis : SpiFacts) (meaning_of : C → Meaning) (is : List Input) (os : List Output) (old new : State C)
    → Runs (StepsAs meaning_of) is os old new → KeepsPromises meaning_of is os old new
keeps_promises {C} facts changes_nothing moments packets proved known spis meaning_of is os old new run =
    let t = told meaning_of is os old new run in
    record {
      passages = t.passages;
      history = t.history;
      requests = requests_kept facts changes_nothing meaning_of old new t.passages t.history.trail;
      repeats = repeats_kept facts changes_nothing meaning_of old new t.passages t.history.trail;
      moments = moments_kept moments meaning_of old new t.passages t.history.trail;
      packets = packets_kept packets meaning_of old new t.passages t.history.trail;
      authentication = only_the_proved proved meaning_of old new t.passages t.history.trail;
      carrying = carrying_kept known meaning_of old new t.passages t.history.trail;
      closing = closing_kept known meaning_of old new t.passages t.history.trail;
      inside = inside_kept known meaning_of old new t.passages t.history.trail;
      strangers = strangers_kept known meaning_of old new t.passages t.history.trail;
      spis = spis_kept spis meaning_of old new t.passages t.history.trail;
      every = λ others history. record {
        requests = requests_kept facts changes_nothing meaning_of old new others history.trail;
        repeats = repeats_kept facts changes_nothing meaning_of old new others history.trail;
        moments = moments_kept moments meaning_of old new others history.trail;
        packets = packets_kept packets meaning_of old new others history.trail;
        authentication = only_the_proved proved meaning_of old new others history.trail;
        carrying = carrying_kept known meaning_of old new others history.trail;
        closing = closing_kept known meaning_of old new others history.trail;
        inside = inside_kept known meaning_of old new others history.trail;
        strangers = strangers_kept known meaning_of old new others history.trail;
        spis = spis_kept spis meaning_of old new others history.trail;
      };
    }
