-- The window of each established IKE SA is the one that the configuration has.
use Rattle.std.proofs.Common.{◌≡◌, ◌⊎◌, ◌≤◌, inl, inr, ℕ, Bool, true, false, List, Option, Some, None, max, refl, ap, subst, sym, ◌∙◌, arith}
use Rattle.policy.specs.declared.entry.Entry.{Entry}
use Rattle.exchange.specs.declared.headers.Role.{Role}
use Rattle.exchange.specs.declared.headers.Role.TheVariants.{Initiator, Responder}
use Rattle.sadb.specs.Database.{Database, IsSoundTable}
use Rattle.requests.specs.Incoming.{PeerRequests}
use Rattle.association.specs.Phases.{IsEstablished}
use Rattle.association.specs.declared.phase.Association.{Association}
use Rattle.setup.specs.declared.config.Config.{Config}
use Rattle.effects.specs.Requests.{is_concluded}
use Rattle.effects.specs.Taking.{Meaning}
use Rattle.ike.specs.LawsOfRequests.{TheConcludedStaysConcluded, TheWindowStaysOrIsWidened, WhatComesHasTheNextSerial, TheEstablishedHaveTheirWindowWidened}
use Rattle.ike.specs.LawsOfSteps.{StepsKeepTheirLaws}
use Rattle.ike.specs.Machines.{association_of, Machine}
use Rattle.ike.specs.Proving.{ProvedBy}
use Rattle.ike.specs.Requests.{first_requests, IsHeldThrough}
use Rattle.ike.specs.Soundness.{IsSoundMachine}
use Rattle.ike.specs.Steps.{InputView, Message, Order, Secret, Start, Steps, Tick}
use Rattle.ike.specs.declared.output.Stepped.{Stepped}
use Rattle.gateway.specs.Staying.{WindowsAreConfigured}
use Rattle.gateway.proofs.CarryingLemmas.{machine_config}

-- what is known of a step
pub record WindowFacts : Type 0 where
  pub laws : StepsKeepTheirLaws
  pub concluded : TheConcludedStaysConcluded
  pub window : TheWindowStaysOrIsWidened
  pub widens : TheEstablishedHaveTheirWindowWidened
  pub begun : WhatComesHasTheNextSerial

both : (b : Bool) → b ≡ true → b ≡ false → ⊥
both true one other = cc
both false one other = cc

same_some : {T : Type 0} (x y : T) → Some x ≡ Some y → x ≡ y
same_some x y e = cc

first_size : (r : Role) → (first_requests r).size ≡ 1
first_size Initiator = refl
first_size Responder = refl

-- whose peer proves itself now is not established yet
proves_open : (meaning : Meaning) (entries : List Entry) (given : InputView) (old : Machine) (was : Association) → ProvedBy meaning entries given old was → is_concluded was.phase ≡ false
proves_open meaning entries (Message from octets fresh) old was is = elim is.proved [
  | inl request ↦ ap is_concluded request.was
  | inr response ↦ ap is_concluded response.was
]
proves_open meaning entries (Start ike place fresh) old was is = absurd is
proves_open meaning entries (Order what fresh) old was is = absurd is
proves_open meaning entries (Secret secret) old was is = absurd is
proves_open meaning entries (Tick moment) old was is = absurd is

module _ (facts : WindowFacts) (meaning : Meaning) (entries : List Entry) (given : InputView) (old : Machine) (table : Database) (stepped : Stepped) (new : Machine) (new_table : Database)
    (sound_table : IsSoundTable table) (sound : IsSoundMachine old table) (steps : Steps meaning entries given old table stepped new new_table) (were : WindowsAreConfigured old)
    (serial : ℕ) (b : Association) (there : association_of serial new.held.associations ≡ Some b) where
  config_stays : new.config ≡ old.config
  config_stays = machine_config meaning entries given old table stepped new new_table steps

  established_so : IsEstablished b.phase → b.incoming.size ≡ new.config.window
  established_so stands =
      let known = (facts.laws meaning entries given old table stepped new new_table sound_table sound steps).established serial b stands.keys there stands.is in
      let a = known.was in
      let through : IsHeldThrough serial old.held new.held a b = record { before = known.stood; after = there } in
      let least = sound.config.window.least in
      elim known.known [
        | inl before ↦
            (facts.concluded meaning entries given old table stepped new new_table serial a b sound steps through (ap is_concluded before)).size
            ∙ were.established serial a known.stood (record { keys = stands.keys; is = before })
            ∙ sym (ap (λ (c : Config). c.window) config_stays)
        | inr proved ↦
            let open_yet = proves_open meaning entries given old a proved in
            let wide = (facts.widens meaning entries given old table stepped new new_table serial a b sound steps through open_yet stands).size in
            let one = were.not_yet serial a known.stood open_yet in
            let own : max old.config.window 1 ≡ old.config.window = omega arith in
            wide ∙ ap (max old.config.window) one ∙ own ∙ sym (ap (λ (c : Config). c.window) config_stays)
      ]

  open_still : (a : Association) → association_of serial old.held.associations ≡ Some a → is_concluded b.phase ≡ false → (v : Bool) → is_concluded a.phase ≡ v → b.incoming.size ≡ 1
  open_still a stood open_yet true concluded =
      absurd (both (is_concluded b.phase)
      (facts.concluded meaning entries given old table stepped new new_table serial a b sound steps (record { before = stood; after = there }) concluded).concluded
      open_yet)
  open_still a stood open_yet false was = elim (facts.window meaning entries given old table stepped new new_table serial a b sound steps (record { before = stood; after = there })) [
    | inl same ↦ same ∙ were.not_yet serial a stood was
    | inr widens ↦ absurd (both (is_concluded b.phase) (ap is_concluded widens.after.is) open_yet)
  ]

  not_yet_so : is_concluded b.phase ≡ false → (o : Option Association) → association_of serial old.held.associations ≡ o → b.incoming.size ≡ 1
  not_yet_so open_yet None none =
      ap (λ (r : PeerRequests). r.size) (facts.begun meaning entries given old table stepped new new_table serial b sound steps none there).1 ∙ first_size b.role
  not_yet_so open_yet (Some a) stood = open_still a stood open_yet (is_concluded a.phase) refl

pub windows_after : (facts : WindowFacts) (meaning : Meaning) (entries : List Entry) (given : InputView) (old : Machine) (table : Database) (stepped : Stepped) (new : Machine) (new_table : Database)
    → IsSoundTable table → IsSoundMachine old table → Steps meaning entries given old table stepped new new_table → WindowsAreConfigured old → WindowsAreConfigured new
windows_after facts meaning entries given old table stepped new new_table sound_table sound steps were = record {
  established = λ serial b there stands. established_so facts meaning entries given old table stepped new new_table sound_table sound steps were serial b there stands;
  not_yet = λ serial b there open_yet.
      not_yet_so facts meaning entries given old table stepped new new_table sound_table sound steps were serial b there open_yet (association_of serial old.held.associations) refl;
}
