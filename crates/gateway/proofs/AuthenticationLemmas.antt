-- Who is established over a run proved itself, or was so before it.
use Rattle.std.proofs.Common.{◌≡◌, ◌⊎◌, inl, inr, ℕ, zero, suc, ◌<◌, ◌∷◌, [], List, length, Option, Some, None, ap, refl, subst, sym, ◌∙◌, arith}
use Rattle.std.specs.List.{slice_get}
use Rattle.std.specs.Prelude.{option_and_then}
use Rattle.base.specs.Octets.{Octets}
use Rattle.wire.specs.declared.payload.Payload.{Payload}
use Rattle.policy.specs.declared.entry.Entry.{Entry}
use Rattle.suite.specs.declared.key_record.KeyRecord.{KeyRecord}
use Rattle.exchange.specs.declared.headers.Role.{Role}
use Rattle.exchange.specs.declared.sealed.Plain.{Plain}
use Rattle.setup.specs.declared.config.Config.{Config}
use Rattle.association.specs.Phases.{keys_in}
use Rattle.association.specs.Receiving.{opened_under, Opening}
use Rattle.association.specs.declared.phase.Association.{Association}
use Rattle.association.specs.declared.phase.Phase.{Phase}
use Rattle.effects.specs.Taking.{Meaning}
use Rattle.ike.specs.LawsOfOutputs.{KeysStay}
use Rattle.ike.specs.LawsOfPeers.{TheEstablishedProvedThemselves}
use Rattle.ike.specs.Machines.{association_of, keys_of_serial, Machine}
use Rattle.ike.specs.Proving.{ProvedBy, WasKnown}
use Rattle.ike.specs.Steps as ike
use Rattle.gateway.specs.Authentication.{IsEstablishedWith, OnlyTheProvedAreEstablished, ProvedItselfUpTo, ProvesItselfAt, WasEstablished}
use Rattle.gateway.specs.Histories.{IsPassage, IsTrail, Passage}
use Rattle.gateway.specs.Requests.{for_ike}
use Rattle.gateway.specs.States.{new_gateway, State}
use Rattle.gateway.proofs.HistoryLemmas.{answered, at_place, elsewhere, exists, passage_way, refused, state_at, IkeStep, IkeWay}

-- what is known of a step of the machine
pub record AuthenticationFacts : Type 0 where
  pub proved : TheEstablishedProvedThemselves
  pub keys : KeysStay

at_zero : {C : Type 0} (old : State C) (ps : List (Passage C)) → state_at old ps 0 ≡ old
at_zero {C} old [] = refl
at_zero {C} old (p ∷ ps) = refl

within : {C : Type 0} (ps : List (Passage C)) (k : ℕ) (p : Passage C) → slice_get ps k ≡ Some p → k < length ps
within {C} [] k p there = absurd cc
within {C} (q ∷ ps) zero p there = omega arith
within {C} (q ∷ ps) (suc k) p there = let rest = within ps k p there in omega (arith, rest)

none_some : {X : Type 0} (x : X) → None ≡ Some x → ⊥
none_some x is = cc

same_some : {X : Type 0} (x y : X) → Some x ≡ Some y → x ≡ y
same_some x y is = cc

-- ---- a message that opens, opens under keys

pub record HasKeys (p : Phase) : Type 0 where
  pub keys : KeyRecord
  pub are : keys_in p ≡ Some keys

opened_keys : (plain_of : Opening) (role : Role) (octets : Octets) (payloads : List Payload) (plain : Plain) (p : Phase) (o : Option KeyRecord) → keys_in p ≡ o → opened_under plain_of role o octets payloads ≡ Some plain → HasKeys p
opened_keys plain_of role octets payloads plain p None is opens = absurd (none_some plain opens)
opened_keys plain_of role octets payloads plain p (Some keys) is opens = record { keys = keys; are = is }

proved_keys : (meaning : Meaning) (entries : List Entry) (view : ike.InputView) (old : Machine) (was : Association) → ProvedBy meaning entries view old was → HasKeys was.phase
proved_keys meaning entries (ike.Message from octets fresh) old was is = opened_keys meaning.plain_of was.role octets is.message.payloads is.plain was.phase (keys_in was.phase) refl is.opened
proved_keys meaning entries (ike.Start serial place fresh) old was is = absurd is
proved_keys meaning entries (ike.Order what fresh) old was is = absurd is
proved_keys meaning entries (ike.Secret secret) old was is = absurd is
proved_keys meaning entries (ike.Tick moment) old was is = absurd is

keys_held : (serial : ℕ) (m : Machine) (was : Association) (keys : KeyRecord) → association_of serial m.held.associations ≡ Some was → keys_in was.phase ≡ Some keys → keys_of_serial serial m.held.associations ≡ Some keys
keys_held serial m was keys stood are = ap (λ (o : Option Association). option_and_then (λ (a : Association). keys_in a.phase) o) stood ∙ are

module _ {C : Type 0} (facts : AuthenticationFacts) (meaning_of : C → Meaning) where
  -- established before the step, or the step proves it
  abbrev IsKnown : List (Passage C) → ℕ → Passage C → ℕ → KeyRecord → Type 0
  IsKnown ps k p serial keys = IsEstablishedWith p.before serial keys ⊎ ProvesItselfAt meaning_of ps k serial keys

  machine_stays : (p : Passage C) (serial : ℕ) (keys : KeyRecord) → p.after.machine ≡ p.before.machine → IsEstablishedWith p.after serial keys → IsEstablishedWith p.before serial keys
  machine_stays p serial keys same is = record {
    association = is.association;
    there = ap (λ (m : Machine). association_of serial m.held.associations) (sym same) ∙ is.there;
    established = is.established;
  }

  -- the keys under which the peer proves itself are those that the IKE SA is established under
  keys_are : (p : Passage C) (serial : ℕ) (keys : KeyRecord) (s : IkeStep (meaning_of p.before.caller) (for_ike p.given) p.before p.said p.after) → IsPassage meaning_of p → IsEstablishedWith p.after serial keys
      → (was : Association) → association_of serial p.before.machine.held.associations ≡ Some was → HasKeys was.phase → keys_in was.phase ≡ Some keys
  keys_are p serial keys s passage is was stood has =
      let held : keys_of_serial serial p.before.machine.held.associations ≡ Some has.keys = keys_held serial p.before.machine was has.keys stood has.are in
      let stay : keys_in is.association.phase ≡ Some has.keys =
      facts.keys (meaning_of p.before.caller) p.before.entries s.view p.before.machine p.before.table s.stepped p.after.machine p.after.table serial has.keys is.association passage.sound.table passage.sound.machine s.steps held is.there in
      let same : has.keys ≡ keys = same_some has.keys keys (sym stay ∙ ap keys_in is.established) in
      has.are ∙ ap Some same

  known_by : (ps : List (Passage C)) (k : ℕ) (p : Passage C) (serial : ℕ) (keys : KeyRecord) → slice_get ps k ≡ Some p → IsPassage meaning_of p → IsEstablishedWith p.after serial keys
      → IkeWay (meaning_of p.before.caller) (for_ike p.given) p.before p.said p.after → IsKnown ps k p serial keys
  known_by ps k p serial keys there passage is (answered s) =
      let known : WasKnown (meaning_of p.before.caller) p.before.entries s.view p.before.machine serial keys =
      facts.proved (meaning_of p.before.caller) p.before.entries s.view p.before.machine p.before.table s.stepped p.after.machine p.after.table serial is.association keys passage.sound.machine s.steps is.there is.established in
      elim known.known [
        | inl before ↦ inl (record { association = known.was; there = known.stood; established = before })
        | inr proved ↦ inr (record {
          passage = p;
          there = there;
          view = s.view;
          given = s.is;
          was = known.was;
          stood = known.stood;
          under = keys_are p serial keys s passage is known.was known.stood (proved_keys (meaning_of p.before.caller) p.before.entries s.view p.before.machine known.was proved);
          proved = proved;
        })
      ]
  known_by ps k p serial keys there passage is (refused r) = inl (machine_stays p serial keys r.same is)
  known_by ps k p serial keys there passage is (elsewhere e) = inl (machine_stays p serial keys e.same is)

  module _ (old new : State C) (ps : List (Passage C)) (trail : IsTrail meaning_of old ps new) where
    abbrev IsExplained : ℕ → ℕ → KeyRecord → Type 0
    IsExplained k serial keys = IsEstablishedWith old serial keys ⊎ ProvedItselfUpTo meaning_of ps k serial keys

    later : (k serial : ℕ) (keys : KeyRecord) → IsExplained k serial keys → IsExplained (suc k) serial keys
    later k serial keys (inl was) = inl was
    later k serial keys (inr proved) = inr (record { by = proved.by; before = (let less = proved.before in omega (arith, less)); proves = proved.proves })

    proved_now : (k serial : ℕ) (keys : KeyRecord) → ProvesItselfAt meaning_of ps k serial keys → IsExplained k serial keys
    proved_now k serial keys is = inr (record { by = k; before = omega arith; proves = is })

    -- by the state after the step at this place
    explained : (k serial : ℕ) (keys : KeyRecord) → k < length ps → IsEstablishedWith (state_at old ps (suc k)) serial keys → IsExplained k serial keys
    explained zero serial keys less is =
        let e = exists ps 0 less in
        let p = at_place meaning_of old new ps 0 e.passage trail e.there in
        let there = subst (λ (s : State C). IsEstablishedWith s serial keys) (sym p.after) is in
        elim (known_by ps 0 e.passage serial keys e.there p.passage there (passage_way meaning_of e.passage p.passage)) [
          | inl before ↦ inl (subst (λ (s : State C). IsEstablishedWith s serial keys) (p.before ∙ at_zero old ps) before)
          | inr proved ↦ proved_now 0 serial keys proved
        ]
    explained (suc k) serial keys less is =
        let e = exists ps (suc k) less in
        let p = at_place meaning_of old new ps (suc k) e.passage trail e.there in
        let there = subst (λ (s : State C). IsEstablishedWith s serial keys) (sym p.after) is in
        elim (known_by ps (suc k) e.passage serial keys e.there p.passage there (passage_way meaning_of e.passage p.passage)) [
          | inl before ↦ later k serial keys (explained k serial keys (omega (arith, less)) (subst (λ (s : State C). IsEstablishedWith s serial keys) p.before before))
          | inr proved ↦ proved_now (suc k) serial keys proved
        ]

    explained_at : (k serial : ℕ) (keys : KeyRecord) (p : Passage C) → slice_get ps k ≡ Some p → IsEstablishedWith p.after serial keys → IsExplained k serial keys
    explained_at k serial keys p there is =
        let at = at_place meaning_of old new ps k p trail there in
        explained k serial keys (within ps k p there) (subst (λ (s : State C). IsEstablishedWith s serial keys) at.after is)

    from_first : (k serial : ℕ) (keys : KeyRecord) (p : Passage C) → slice_get ps k ≡ Some p → IsEstablishedWith old serial keys → WasEstablished ps serial keys
    from_first k serial keys p there was =
        let some = within ps k p there in
        let e = exists ps 0 (omega (arith, some)) in
        let first = at_place meaning_of old new ps 0 e.passage trail e.there in
        record { first = e.passage; there = e.there; established = subst (λ (s : State C). IsEstablishedWith s serial keys) (sym (first.before ∙ at_zero old ps)) was }

    pub only_the_proved : OnlyTheProvedAreEstablished meaning_of ps
    only_the_proved = record {
      each = λ k serial keys p there is. elim (explained_at k serial keys p there is) [
        | inl was ↦ inl (from_first k serial keys p there was)
        | inr proved ↦ inr proved
      ];
    }

  no_association : (config : Config) (entries : List Entry) (start : ℕ) (caller : C) (serial : ℕ) (keys : KeyRecord) → IsEstablishedWith (new_gateway config entries start caller) serial keys → ⊥
  no_association config entries start caller serial keys is = none_some is.association is.there

  -- from a new gateway on, none was established before
  pub all_proved : (config : Config) (entries : List Entry) (start : ℕ) (caller : C) (new : State C) (ps : List (Passage C)) → IsTrail meaning_of (new_gateway config entries start caller) ps new
      → (k serial : ℕ) (keys : KeyRecord) (p : Passage C) → slice_get ps k ≡ Some p → IsEstablishedWith p.after serial keys → ProvedItselfUpTo meaning_of ps k serial keys
  all_proved config entries start caller new ps trail k serial keys p there is = elim (explained_at (new_gateway config entries start caller) new ps trail k serial keys p there is) [
    | inl was ↦ absurd (no_association config entries start caller serial keys was)
    | inr proved ↦ proved
  ]
