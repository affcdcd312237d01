-- What a datagram that opens as a request does at a step of a gateway: it is processed where it is new, and
-- gets the first response where that is kept.
use Rattle.std.proofs.Common.{◌≡◌, ◌+◌, ◌↔◌, ◌≤◌, ◌∷◌, [], ℕ, List, true, false, Option, Some, None, length, ap, arith, refl, subst, sym, ◌∙◌}
use Rattle.std.proofs.lemmas.Bool.{both_ways}
use Rattle.std.specs.FinMap as map
use Rattle.std.specs.FinSet as set
use Rattle.base.specs.Octets.{Octets}
use Rattle.requests.specs.Incoming.{IsFreshRequest, IsLeftBehind}
use Rattle.association.specs.Receiving.{admits}
use Rattle.association.specs.declared.phase.Association.{Association}
use Rattle.effects.specs.Requests.{IsSoundlyHeld, OpensAs}
use Rattle.effects.specs.Taking.{Meaning}
use Rattle.ike.specs.Faults as faults
use Rattle.ike.specs.LawsOfRequests.{NewRequestsTakeEffect, NumbersTakeEffectByTheirDatagramAlone, RepeatsAreAnswered, RequestsAreRefusedForMemoryAlone, WhatIsHeldIsSound}
use Rattle.ike.specs.Machines.{association_of, Machine}
use Rattle.ike.specs.Requests as asked
use Rattle.ike.specs.Requests.{ComesIntoEffect, IsHeldThrough, IsNewRequest, OpensAsRequest}
use Rattle.ike.specs.Steps as ike
use Rattle.ike.specs.declared.fault.IkeFault.{IkeFault}
use Rattle.ike.specs.declared.output.IkeOutput.{IkeOutput}
use Rattle.ike.specs.declared.output.IkeOutput.TheVariants as made
use Rattle.ike.specs.declared.output.Stepped.{Stepped}
use Rattle.gateway.specs.Histories.{IsPassage, IsTrail, Passage}
use Rattle.gateway.specs.Outputs.{view_of_ike, wants_memory, OutputView, Refused, Repeat, Reply}
use Rattle.gateway.specs.Requests.{for_ike, AnswersBy, IsDatagram, IsNew, IsReplied, OnlySays, Opens, TakesEffect}
use Rattle.gateway.specs.States.{association_in, IsSoundState, State}
use Rattle.gateway.specs.declared.fault.Reason.TheVariants as reason
use Rattle.gateway.proofs.HistoryLemmas.{answered, elsewhere, passage_way, refused, state_at, through, Facts, IkeWay, Through}
use Rattle.laws_recovery.proofs.WaitingLemmas.{same_one}

-- ---- a datagram of these octets

opens_of : (meaning : Meaning) (given : Option ike.InputView) (b : Association) (octets : Octets) (exchange number : ℕ) → IsDatagram given octets → OpensAs meaning.plain_of b octets exchange number → Opens meaning given b number
opens_of meaning None b octets exchange number datagram opens = absurd datagram
opens_of meaning (Some (ike.Message from came fresh)) b octets exchange number datagram opens = (exchange, subst (λ (o : Octets). OpensAs meaning.plain_of b o exchange number) (sym datagram) opens)
opens_of meaning (Some (ike.Start serial entry fresh)) b octets exchange number datagram opens = absurd datagram
opens_of meaning (Some (ike.Order what fresh)) b octets exchange number datagram opens = absurd datagram
opens_of meaning (Some (ike.Secret secret)) b octets exchange number datagram opens = absurd datagram
opens_of meaning (Some (ike.Tick moment)) b octets exchange number datagram opens = absurd datagram

new_of : (meaning : Meaning) (given : Option ike.InputView) (b : Association) (octets : Octets) (exchange number : ℕ) → IsDatagram given octets → OpensAs meaning.plain_of b octets exchange number
    → IsFreshRequest b.incoming number → admits b.phase exchange ≡ true → IsNew meaning given b number
new_of meaning None b octets exchange number datagram opens fresh admitted = absurd datagram
new_of meaning (Some (ike.Message from came fresh)) b octets exchange number datagram opens new admitted =
    record { exchange = exchange; opens = subst (λ (o : Octets). OpensAs meaning.plain_of b o exchange number) (sym datagram) opens; fresh = new; admitted = admitted }
new_of meaning (Some (ike.Start serial entry fresh)) b octets exchange number datagram opens new admitted = absurd datagram
new_of meaning (Some (ike.Order what fresh)) b octets exchange number datagram opens new admitted = absurd datagram
new_of meaning (Some (ike.Secret secret)) b octets exchange number datagram opens new admitted = absurd datagram
new_of meaning (Some (ike.Tick moment)) b octets exchange number datagram opens new admitted = absurd datagram

is_fresh : (meaning : Meaning) (given : Option ike.InputView) (b : Association) (number : ℕ) → IsNew meaning given b number → IsFreshRequest b.incoming number
is_fresh meaning None b number new = absurd new
is_fresh meaning (Some (ike.Message from came fresh)) b number new = new.fresh
is_fresh meaning (Some (ike.Start serial entry fresh)) b number new = absurd new
is_fresh meaning (Some (ike.Order what fresh)) b number new = absurd new
is_fresh meaning (Some (ike.Secret secret)) b number new = absurd new
is_fresh meaning (Some (ike.Tick moment)) b number new = absurd new

none_opens : (meaning : Meaning) (given : Option ike.InputView) (b : Association) (number : ℕ) → given ≡ None → Opens meaning given b number → ⊥
none_opens meaning given b number none is = subst (λ (g : Option ike.InputView). Opens meaning g b number) none is

none_new : (meaning : Meaning) (given : Option ike.InputView) (b : Association) (number : ℕ) → given ≡ None → IsNew meaning given b number → ⊥
none_new meaning given b number none is = subst (λ (g : Option ike.InputView). IsNew meaning g b number) none is

-- a new request opens
new_opens : (meaning : Meaning) (view : ike.InputView) (b : Association) (number : ℕ) → IsNewRequest meaning view b number → OpensAsRequest meaning view b number
new_opens meaning (ike.Message from octets fresh) b number is = (is.exchange, is.opens)
new_opens meaning (ike.Start serial entry fresh) b number is = absurd is
new_opens meaning (ike.Order what fresh) b number is = absurd is
new_opens meaning (ike.Secret secret) b number is = absurd is
new_opens meaning (ike.Tick moment) b number is = absurd is

new_lacks : (meaning : Meaning) (view : ike.InputView) (b : Association) (number : ℕ) → IsNewRequest meaning view b number → set.contains b.incoming.in_effect number ≡ false
new_lacks meaning (ike.Message from octets fresh) b number is = is.fresh.not_in_effect
new_lacks meaning (ike.Start serial entry fresh) b number is = absurd is
new_lacks meaning (ike.Order what fresh) b number is = absurd is
new_lacks meaning (ike.Secret secret) b number is = absurd is
new_lacks meaning (ike.Tick moment) b number is = absurd is

memory_only : (s : OutputView) (why : IkeFault) → s ≡ Refused (reason.Ike why) → wants_memory s ≡ false → faults.is_want_of_memory why ≡ true → ⊥
memory_only s why is no_want want = both_ways (faults.is_want_of_memory why) (sym (ap wants_memory is) ∙ no_want) want

no_want : (o : IkeOutput) → wants_memory (view_of_ike o) ≡ false
no_want (made.Reply octets closed) = refl
no_want (made.Repeat octets) = refl
no_want (made.Request serial octets) = refl
no_want (made.Counted serial child closed) = refl
no_want (made.Ticked ticked) = refl
no_want made.Done = refl
no_want (made.Dropped fault) = refl

-- ---- what is known of a step of the machine

pub record TakingFacts : Type 0 where
  pub steps : Facts
  pub alone : NumbersTakeEffectByTheirDatagramAlone
  pub always : NewRequestsTakeEffect
  pub unrefused : RequestsAreRefusedForMemoryAlone
  pub repeated : RepeatsAreAnswered
  pub soundly : WhatIsHeldIsSound

module _ {C : Type 0} (facts : TakingFacts) (meaning_of : C → Meaning) (p : Passage C) (is : IsPassage meaning_of p) where
  abbrev Ways : Type 0
  Ways = IkeWay (meaning_of p.before.caller) (for_ike p.given) p.before p.said p.after

  way : Ways
  way = passage_way meaning_of p is

  unmoved : (serial : ℕ) (a b : Association) (number : ℕ) → p.after.machine ≡ p.before.machine → IsHeldThrough serial p.before.machine.held p.after.machine.held a b → ComesIntoEffect number a b → ⊥
  unmoved serial a b number same held comes =
      let one : b ≡ a = same_one b a (sym held.after ∙ ap (λ (m : Machine). association_of serial m.held.associations) same ∙ held.before) in
      both_ways (set.contains a.incoming.in_effect number) comes.before (ap (λ (x : Association). set.contains x.incoming.in_effect number) (sym one) ∙ comes.after)

  -- what came into effect, and how it was answered
  pub record Brought (b a : Association) (number : ℕ) : Type 0 where
    pub new_one : IsNew (meaning_of p.before.caller) (for_ike p.given) a number
    pub memory : wants_memory p.said ≡ false
    pub reply : Octets
    pub answered_by : AnswersBy p reply
    pub kept : map.get b.incoming.kept number ≡ Some reply

  brings_by : (serial : ℕ) (a b : Association) (number : ℕ) → Ways → IsHeldThrough serial p.before.machine.held p.after.machine.held a b → ComesIntoEffect number a b → Brought b a number
  brings_by serial a b number (answered w) held comes =
      let by = facts.alone (meaning_of p.before.caller) p.before.entries w.view p.before.machine p.before.table w.stepped p.after.machine p.after.table serial a b number is.sound.machine w.steps held comes in
      record {
        new_one = subst (λ (g : Option ike.InputView). IsNew (meaning_of p.before.caller) g a number) (sym w.is) by.0;
        memory = ap wants_memory w.output ∙ no_want w.stepped.output;
        reply = by.1.reply;
        answered_by = record { closed = by.1.closed; said = w.output ∙ ap view_of_ike by.1.said };
        kept = by.1.kept;
      }
  brings_by serial a b number (refused w) held comes = absurd (unmoved serial a b number w.same held comes)
  brings_by serial a b number (elsewhere w) held comes = absurd (unmoved serial a b number w.same held comes)

  pub brings : (serial : ℕ) (a b : Association) (number : ℕ) → IsHeldThrough serial p.before.machine.held p.after.machine.held a b → ComesIntoEffect number a b → Brought b a number
  brings serial a b number held comes = brings_by serial a b number way held comes

  takes_by : (serial : ℕ) (a : Association) (number : ℕ) → Ways → wants_memory p.said ≡ false → association_in p.before serial ≡ Some a → IsNew (meaning_of p.before.caller) (for_ike p.given) a number → TakesEffect serial number p
  takes_by serial a number (answered w) memory stands new_one =
      let one : IsNewRequest (meaning_of p.before.caller) w.view a number = subst (λ (g : Option ike.InputView). IsNew (meaning_of p.before.caller) g a number) w.is new_one in
      let holds = facts.always (meaning_of p.before.caller) p.before.entries w.view p.before.machine p.before.table w.stepped p.after.machine p.after.table serial a number is.sound.machine w.steps stands one in
      record {
        old = a;
        new = holds.association;
        held = record { before = stands; after = holds.there };
        comes = record { before = new_lacks (meaning_of p.before.caller) w.view a number one; after = holds.in_effect };
      }
  takes_by serial a number (refused w) memory stands new_one =
      let one : IsNewRequest (meaning_of p.before.caller) w.view a number = subst (λ (g : Option ike.InputView). IsNew (meaning_of p.before.caller) g a number) w.is new_one in
      absurd (memory_only p.said w.fault w.output memory
      (facts.unrefused (meaning_of p.before.caller) p.before.entries w.view p.before.machine p.before.table w.fault serial a number is.sound.machine stands (new_opens (meaning_of p.before.caller) w.view a number one) w.refuses))
  takes_by serial a number (elsewhere w) memory stands new_one = absurd (none_new (meaning_of p.before.caller) (for_ike p.given) a number w.is new_one)

  -- the request is processed exactly where it is new and there is memory
  pub exactly : (serial : ℕ) (b : Association) (octets : Octets) (exchange number : ℕ) → association_in p.before serial ≡ Some b → IsDatagram (for_ike p.given) octets
      → OpensAs (meaning_of p.before.caller).plain_of b octets exchange number → admits b.phase exchange ≡ true
      → TakesEffect serial number p ↔ ((wants_memory p.said ≡ false) × IsFreshRequest b.incoming number)
  exactly serial b octets exchange number stands datagram opens admitted = (
    (λ t.
        let by = brings serial t.old t.new number t.held t.comes in
        (by.memory, subst (λ (x : Association). IsFreshRequest x.incoming number) (same_one t.old b (sym t.held.before ∙ stands)) (is_fresh (meaning_of p.before.caller) (for_ike p.given) t.old number by.new_one))),
    (λ both. takes_by serial b number way both.0 stands (new_of (meaning_of p.before.caller) (for_ike p.given) b octets exchange number datagram opens both.1 admitted)),
  )

  pub replied : (serial number : ℕ) → TakesEffect serial number p → IsReplied serial number p
  replied serial number t =
      let by = brings serial t.old t.new number t.held t.comes in
      record { reply = by.reply; answers = by.answered_by; association = t.new; there = t.held.after; kept = by.kept }

  only_says : (o : IkeOutput) (stepped : Stepped) → p.said ≡ view_of_ike stepped.output → asked.OnlySays o p.before.machine p.before.table stepped p.after.machine p.after.table → OnlySays (view_of_ike o) p
  only_says o stepped output only = record {
    said = output ∙ ap view_of_ike only.said;
    unchanged = is.steps.traces.kept ∙ (λ i. record (p.before) { machine = only.machine i; table = only.pairs i });
  }

  repeats_by : (serial : ℕ) (a : Association) (number : ℕ) (reply : Octets) → Ways → wants_memory p.said ≡ false → association_in p.before serial ≡ Some a → map.get a.incoming.kept number ≡ Some reply
      → Opens (meaning_of p.before.caller) (for_ike p.given) a number → OnlySays (Repeat reply) p
  repeats_by serial a number reply (answered w) memory stands kept opens =
      let one : OpensAsRequest (meaning_of p.before.caller) w.view a number = subst (λ (g : Option ike.InputView). Opens (meaning_of p.before.caller) g a number) w.is opens in
      only_says (made.Repeat reply) w.stepped w.output
      (facts.repeated (meaning_of p.before.caller) p.before.entries w.view p.before.machine p.before.table w.stepped p.after.machine p.after.table serial a number reply is.sound.machine w.steps stands one kept)
  repeats_by serial a number reply (refused w) memory stands kept opens =
      let one : OpensAsRequest (meaning_of p.before.caller) w.view a number = subst (λ (g : Option ike.InputView). Opens (meaning_of p.before.caller) g a number) w.is opens in
      absurd (memory_only p.said w.fault w.output memory (facts.unrefused (meaning_of p.before.caller) p.before.entries w.view p.before.machine p.before.table w.fault serial a number is.sound.machine stands one w.refuses))
  repeats_by serial a number reply (elsewhere w) memory stands kept opens = absurd (none_opens (meaning_of p.before.caller) (for_ike p.given) a number w.is opens)

  pub repeats : (serial : ℕ) (b : Association) (octets : Octets) (exchange number : ℕ) (reply : Octets) → wants_memory p.said ≡ false → association_in p.before serial ≡ Some b → IsDatagram (for_ike p.given) octets
      → OpensAs (meaning_of p.before.caller).plain_of b octets exchange number → map.get b.incoming.kept number ≡ Some reply → OnlySays (Repeat reply) p
  repeats serial b octets exchange number reply memory stands datagram opens kept =
      repeats_by serial b number reply way memory stands kept (opens_of (meaning_of p.before.caller) (for_ike p.given) b octets exchange number datagram opens)

-- ---- the response is kept over the steps that follow, unless it is left behind

module _ {C : Type 0} (facts : TakingFacts) (meaning_of : C → Meaning) where
  first_state : (old new : State C) (ps : List (Passage C)) → IsTrail meaning_of old ps new → IsSoundState new → IsSoundState old
  first_state old new [] trail sound = subst (λ (s : State C). IsSoundState s) trail sound
  first_state old new (p ∷ ps) trail sound = subst (λ (s : State C). IsSoundState s) trail.0 trail.1.sound

  state_first : (old : State C) (ps : List (Passage C)) → state_at old ps 0 ≡ old
  state_first old [] = refl
  state_first old (p ∷ ps) = refl

  state_last : (old new : State C) (ps : List (Passage C)) → IsTrail meaning_of old ps new → state_at old ps (length ps) ≡ new
  state_last old new [] trail = sym trail
  state_last old new (p ∷ ps) trail = state_last p.after new ps trail.2

  along : (old new : State C) (ps : List (Passage C)) (serial : ℕ) (x b : Association) → IsTrail meaning_of old ps new → IsSoundState new → association_in old serial ≡ Some x → association_in new serial ≡ Some b → Through x b
  along old new ps serial x b trail sound before after =
      let first = first_state old new ps trail sound in
      through facts.steps meaning_of old new ps trail 0 (length ps) serial x b (omega arith) (omega arith)
      (subst (λ (s : State C). IsSoundState s) (sym (state_first old ps)) first).machine
      (ap (λ (s : State C). association_in s serial) (state_first old ps) ∙ before)
      (ap (λ (s : State C). association_in s serial) (state_last old new ps trail) ∙ after)

  still_kept : (x b : Association) (number : ℕ) (reply : Octets) → Through x b → IsSoundlyHeld x → map.get x.incoming.kept number ≡ Some reply → ¬ IsLeftBehind b.incoming number → map.get b.incoming.kept number ≡ Some reply
  still_kept x b number reply t held kept near =
      let size = (t.concluded (held.concluded number reply kept)).size in
      t.follows.remembered number reply (held.in_effect number reply kept) kept
      (λ passed. near (record { later = passed.later; in_effect = passed.in_effect; far = subst (λ n. number + n ≤ passed.later) (sym size) passed.far }))

  same_reply : (one two : Octets) (c d : Option ℕ) → Reply one c ≡ Reply two d → one ≡ two
  same_reply one two c d is = cc

  pub kept_since : (taking : Passage C) (is : IsPassage meaning_of taking) (new : State C) (since : List (Passage C)) (serial number : ℕ) (reply : Octets) (b : Association) → TakesEffect serial number taking → AnswersBy taking reply
      → IsTrail meaning_of taking.after since new → IsSoundState new → association_in new serial ≡ Some b → ¬ IsLeftBehind b.incoming number → map.get b.incoming.kept number ≡ Some reply
  kept_since taking is new since serial number reply b t by trail sound stands near =
      let brought = brings facts meaning_of taking is serial t.old t.new number t.held t.comes in
      let same : brought.reply ≡ reply = same_reply brought.reply reply brought.answered_by.closed by.closed (sym brought.answered_by.said ∙ by.said) in
      let first = first_state taking.after new since trail sound in
      still_kept t.new b number reply (along taking.after new since serial t.new b trail sound t.held.after stands)
      (facts.soundly taking.after.machine taking.after.table serial t.new first.machine t.held.after) (brought.kept ∙ ap Some same) near
