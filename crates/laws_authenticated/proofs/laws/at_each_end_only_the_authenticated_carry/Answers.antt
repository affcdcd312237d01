use Rattle.std.proofs.Common.{subst}
use Rattle.gateway.specs.Histories.{IsHistory}
use Rattle.gateway.specs.States.{State}
use Rattle.gateway.specs.WorldHistories.{passages_at}
use Rattle.gateway.specs.WorldRuns.{inputs_at, outputs_at}
use Rattle.gateway.specs.Worlds.{gateway_at}
use Rattle.laws_authenticated.proofs.laws.at_each_end_only_the_authenticated_carry.Goals as goal

pub returns : goal.returns
returns g c = record {
  known = λ meaning_of end events outputs old new happenings history all.
      c.only_the_authenticated_carry.ensures.known meaning_of (inputs_at end events) (outputs_at end events outputs) (gateway_at end old) (gateway_at end new) (passages_at end happenings)
      (c.each_end_has_its_events.ensures.history meaning_of end events outputs old new happenings history) all;
  proved = λ meaning_of end config entries start caller events outputs old new happenings begins history.
      c.only_the_authenticated_carry.ensures.proved meaning_of config entries start caller (inputs_at end events) (outputs_at end events outputs) (gateway_at end new) (passages_at end happenings)
      (subst (λ (s : State _). IsHistory meaning_of (inputs_at end events) (outputs_at end events outputs) s (gateway_at end new) (passages_at end happenings)) begins
      (c.each_end_has_its_events.ensures.history meaning_of end events outputs old new happenings history));
}
