-- For whom packets are carried, and what strangers change, over a whole list.
use Rattle.std.proofs.Common.{List, subst}
use Rattle.effects.specs.Taking.{Meaning}
use Rattle.gateway.specs.Carrying.{OnlyTheAuthenticatedCarry}
use Rattle.gateway.specs.Closing.{TheClosedCarryNothing}
use Rattle.gateway.specs.Histories.{IsTrail, Passage}
use Rattle.gateway.specs.Inside.{ChildrenStayInside}
use Rattle.gateway.specs.States.{State}
use Rattle.gateway.specs.Strangers.{StrangersChangeNothing}
use Rattle.gateway.proofs.CarryingLemmas.{ended, only_the_known, only_the_proved, sealed_is_protected, settings_kept}
use Rattle.gateway.proofs.ClosingLemmas.{nothing_is_carried, SerialFacts}
use Rattle.gateway.proofs.HistoryLemmas.{at_place}
use Rattle.gateway.proofs.InsideLemmas.{InsideFacts}
use Rattle.gateway.proofs.InsideRunLemmas as within
use Rattle.gateway.proofs.KeylessLemmas.{first_requests_add, keyless_change, strangers_change_nothing}
use Rattle.gateway.proofs.StrangerLemmas.{OneSpelling, StrangerFacts}

-- what is known of steps
pub record KnownFacts : Type 0 where
  pub serials : SerialFacts
  pub inside : InsideFacts
  pub strangers : StrangerFacts
  pub one : OneSpelling

module _ {C : Type 0} (facts : KnownFacts) (meaning_of : C → Meaning) (old new : State C) (ps : List (Passage C)) (trail : IsTrail meaning_of old ps new) where
  pub carrying_kept : OnlyTheAuthenticatedCarry meaning_of old ps new
  carrying_kept = record {
    known = λ all. only_the_known facts.serials.steps meaning_of old new ps trail all;
    stays = λ all. ended facts.serials.steps meaning_of old new ps trail all;
    proved = λ config entries start caller begins.
        only_the_proved meaning_of config entries start caller new ps (subst (λ (s : State C). IsTrail meaning_of s ps new) begins trail) facts.serials.steps;
    settings = λ place p there. settings_kept meaning_of old new ps place p trail there;
    sealed = λ place child number octets p there says. sealed_is_protected meaning_of p child number octets (at_place meaning_of old new ps place p trail there).passage says;
  }

  pub closing_kept : TheClosedCarryNothing old ps new
  closing_kept = record { after = λ all place serial is. nothing_is_carried facts.serials meaning_of old new ps trail all place serial is }

  pub inside_kept : ChildrenStayInside old ps new
  inside_kept = record {
    each = λ all place p there. within.before_each facts.serials.steps facts.inside meaning_of old new ps place p trail all there;
    last = λ all. within.ended facts.serials.steps facts.inside meaning_of old new ps trail all;
  }

  pub strangers_kept : StrangersChangeNothing meaning_of ps
  strangers_kept = record {
    strange = λ place p there strange. strangers_change_nothing facts.strangers meaning_of p (at_place meaning_of old new ps place p trail there).passage strange;
    first = λ place from octets fresh p there given initial.
        first_requests_add facts.one meaning_of from octets fresh p (at_place meaning_of old new ps place p trail there).passage given initial;
    answer = λ place from octets fresh p there given sealed first.
        keyless_change facts.strangers meaning_of from octets fresh p (at_place meaning_of old new ps place p trail there).passage given sealed first;
  }
