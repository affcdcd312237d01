-- A copy of a request that arrives later is what the first would have been.
use Rattle.std.proofs.Common.{◌≡◌, ◌≢◌, ◌⊎◌, ◌+◌, ◌↔◌, ◌||◌, ℕ, List, true, false, ap, subst, sym, ◌∙◌, inl, inr}
use Rattle.std.proofs.lemmas.Bool.{eq-eqb, or_left, or_right}
use Rattle.std.specs.Prelude.{◌==◌}
use Rattle.base.specs.Octets.{Octets}
use Rattle.suite.specs.declared.fresh.Fresh.{Fresh}
use Rattle.wire.specs.Numbers.{CREATE_CHILD_SA, IKE_SA_INIT, INFORMATIONAL}
use Rattle.requests.specs.Incoming.{IsFreshRequest, IsLeftBehind}
use Rattle.association.specs.Phases.{IsEstablished}
use Rattle.association.specs.Purposes.{exchange_of}
use Rattle.association.specs.Receiving.{admits}
use Rattle.association.specs.declared.phase.Association.{Association}
use Rattle.association.specs.declared.phase.Phase.{Phase}
use Rattle.association.specs.declared.purpose.Purpose.{Purpose}
use Rattle.effects.specs.Openings.{OpensWhatItSeals}
use Rattle.effects.specs.Requests.{OpensAs}
use Rattle.effects.specs.Taking.{Meaning}
use Rattle.effects.specs.Waiting.{IsAskedLater}
use Rattle.ike.specs.LawsOfTimes.{MomentsAreRefusedForMemoryAlone, TheTimeStandsStill, WhatIsDueComes}
use Rattle.ike.specs.Moves.{HasSeal}
use Rattle.gateway.specs.Histories.{IsPassage, IsTrail, Passage}
use Rattle.gateway.specs.Outputs as output
use Rattle.gateway.specs.Outputs.{wants_memory, Repeat}
use Rattle.gateway.specs.Requests.{AnswersBy, OnlySays, TakesEffect}
use Rattle.laws_recovery.proofs.HeldLemmas.{sound_at}
use Rattle.laws_recovery.specs.Copies.{AreEndsOfOne, ArrivesAt, WaitsUntil}
use Rattle.laws_recovery.specs.Waiting.{times_again}
use Rattle.laws_recovery.proofs.AskingLemmas.{not_initial, opens_there, sends, Sends}
use Rattle.laws_recovery.proofs.CountingLemmas.{counted}
use Rattle.laws_recovery.proofs.TakingLemmas.{exactly, kept_since, repeats, TakingFacts}
use Rattle.laws_recovery.proofs.WaitingLemmas.{same_one}

admits_later : (exchange : ℕ) → (exchange ≡ INFORMATIONAL) ⊎ (exchange ≡ CREATE_CHILD_SA) → (exchange == CREATE_CHILD_SA || exchange == INFORMATIONAL) ≡ true
admits_later exchange (inl is) = or_right (exchange == CREATE_CHILD_SA) (exchange == INFORMATIONAL) (eq-eqb exchange INFORMATIONAL is)
admits_later exchange (inr is) = or_left (exchange == CREATE_CHILD_SA) (exchange == INFORMATIONAL) (eq-eqb exchange CREATE_CHILD_SA is)

-- an established IKE SA takes the requests that one sends
pub admits_purpose : (p : Phase) (purpose : Purpose) → IsEstablished p → IsAskedLater purpose → admits p (exchange_of purpose) ≡ true
admits_purpose p purpose established later = ap (λ (q : Phase). admits q (exchange_of purpose)) established.is ∙ admits_later (exchange_of purpose) later

pub record MomentFacts : Type 0 where
  pub comes : WhatIsDueComes
  pub unrefused : MomentsAreRefusedForMemoryAlone
  pub still : TheTimeStandsStill

module _ {C : Type 0} (moments : MomentFacts) (facts : TakingFacts) (meaning_of : C → Meaning)
    (opens : (one other : C) (fresh : Fresh) → HasSeal fresh → OpensWhatItSeals (meaning_of one).body_of (meaning_of other).plain_of fresh.seal)
    (serial number : ℕ) (a : Association) (octets : Octets) (asking : Passage C) (between : List (Passage C)) (last : Passage C)
    (history : WaitsUntil meaning_of serial number a octets asking between last) where
  pub sent : Sends (meaning_of asking.before.caller) serial number history.request asking
  sent = sends meaning_of serial number history.request asking history.asks history.first history.fresh

  keyed : exchange_of history.request.purpose ≢ IKE_SA_INIT
  keyed = subst (λ (x : Purpose). exchange_of x ≢ IKE_SA_INIT) (sym sent.purpose) (not_initial sent.sends.purpose sent.sends.later)

  -- what waits is what went out first
  still : (history.waiting.octets ≡ history.request.octets) × (history.waiting.timer.repeats ≡ history.request.timer.repeats + times_again serial number between) × (history.waiting.purpose ≡ history.request.purpose)
  still =
      counted moments.comes moments.unrefused moments.still meaning_of serial number between asking.after last.before history.request history.waiting history.trail history.first.waits keyed history.through history.waits

  same : octets ≡ history.request.octets
  same = sym history.octets_are ∙ still.0

  pub its_purpose : history.waiting.purpose ≡ sent.sends.purpose
  its_purpose = still.2 ∙ sent.purpose

  pub as_first : asking.said ≡ output.Request serial octets
  as_first = history.first.said ∙ ap (output.Request serial) (sym same)

  pub opens_at : (other : C) (b : Association) → AreEndsOfOne a b → OpensAs (meaning_of other).plain_of b octets (exchange_of sent.sends.purpose) number
  opens_at other b ends =
      let one : a ≡ sent.old = same_one a sent.old (sym history.its ∙ sent.its) in
      let there = opens_there (meaning_of asking.before.caller).body_of (meaning_of other).plain_of sent.setup sent.old sent.new b sent.octets sent.sends
      (opens asking.before.caller other sent.setup.fresh sent.seal)
      (sound_at asking.before.machine asking.before.table serial sent.old history.asks.sound.machine sent.its).whole
      (subst (λ (x : Association). AreEndsOfOne x b) one ends) in
      subst (λ (n : ℕ). OpensAs (meaning_of other).plain_of b octets (exchange_of sent.sends.purpose) n) (sym sent.number_is)
      (subst (λ (o : Octets). OpensAs (meaning_of other).plain_of b o (exchange_of sent.sends.purpose) sent.old.outgoing.next) (sent.octets_are ∙ sym same) there)

  pub processed : (other : ℕ) (b : Association) (arriving : Passage C) → IsPassage meaning_of arriving → ArrivesAt other b octets arriving → AreEndsOfOne a b → IsEstablished b.phase
      → TakesEffect other number arriving ↔ ((wants_memory arriving.said ≡ false) × IsFreshRequest b.incoming number)
  processed other b arriving is arrives ends established =
      exactly facts meaning_of arriving is other b octets (exchange_of sent.sends.purpose) number arrives.its arrives.datagram (opens_at arriving.before.caller b ends)
      (admits_purpose b.phase sent.sends.purpose established sent.sends.later)

  pub comes_again : (other : ℕ) (b : Association) (reply : Octets) (taking : Passage C) (since : List (Passage C)) (arriving : Passage C) → IsPassage meaning_of taking → TakesEffect other number taking → AnswersBy taking reply
      → IsTrail meaning_of taking.after since arriving.before → IsPassage meaning_of arriving → ArrivesAt other b octets arriving → AreEndsOfOne a b → ¬ IsLeftBehind b.incoming number → wants_memory arriving.said ≡ false
      → OnlySays (Repeat reply) arriving
  comes_again other b reply taking since arriving took takes answers trail is arrives ends near memory =
      repeats facts meaning_of arriving is other b octets (exchange_of sent.sends.purpose) number reply memory arrives.its arrives.datagram (opens_at arriving.before.caller b ends)
      (kept_since facts meaning_of taking took arriving.before since other number reply b takes answers trail is.sound arrives.its near)
