-- Both ends of a world come to one record, by the steps at which they come to it.
use Rattle.std.proofs.Common.{◌≡◌, ◌⊎◌, inl, inr, ℕ, List, Some, None, slice_get, ap, refl, subst, sym, ◌∙◌}
use Rattle.base.specs.Octets.{Octets}
use Rattle.policy.specs.declared.entry.Entry.{Entry}
use Rattle.suite.specs.declared.fresh.Fresh.{Fresh}
use Rattle.suite.specs.declared.key_record.KeyRecord.{KeyRecord}
use Rattle.sadb.specs.Database.{Database}
use Rattle.association.specs.Phases.{keys_in}
use Rattle.association.specs.declared.phase.Association.{Association}
use Rattle.effects.specs.Taking.{asker_of, Meaning}
use Rattle.ike.specs.LawsOfRecords.{KeysComeToTheInitiator, KeysComeToTheResponder}
use Rattle.ike.specs.Machines.{Machine}
use Rattle.ike.specs.Records.{ComesToKeysAsInitiator, ComesToKeysAsResponder, Introduction}
use Rattle.ike.specs.Steps as ike
use Rattle.ike.specs.declared.output.Stepped.{Stepped}
use Rattle.gateway.specs.Inputs.{Input}
use Rattle.gateway.specs.Inputs as input
use Rattle.gateway.specs.States.{State}
use Rattle.gateway.specs.Steps.{DoesInput, StepsIke}
use Rattle.gateway.specs.WorldHistories.{Happening, IsWorldTrail}
use Rattle.gateway.specs.Worlds.{gateway_at, with_gateway, Stored, TakesEvent, WorldState}
use Rattle.gateway.specs.declared.world.stored.End.{End}
use Rattle.gateway.specs.declared.world.stored.End.TheVariants.{A, B}
use Rattle.gateway.proofs.AlongLemmas.{after_here, each_step}
use Rattle.gateway.proofs.PartyLemmas.{some_is}
use Rattle.laws_two_ends.specs.WorldRecords.{CameToKeysAsInitiator, CameToKeysAsResponder}

pub gateway_then : {C : Type 0} (end : End) (gateway : State C) (stored : Stored) (w : WorldState C) → gateway_at end (with_gateway end gateway stored w) ≡ gateway
gateway_then {C} A gateway stored w = refl
gateway_then {C} B gateway stored w = refl

-- a datagram came: so the machine of IKE stepped, or is as it was
record StepsOn (meaning : Meaning) (entries : List Entry) (from octets : Octets) (fresh : Fresh) (old : Machine) (table : Database) (new : Machine) (new_table : Database) : Type 0 where
  pub stepped : Stepped
  pub steps : ike.Steps meaning entries (ike.Message from octets fresh) old table stepped new new_table

module _ {C : Type 0} (initiator_comes : KeysComeToTheInitiator) (responder_comes : KeysComeToTheResponder) (meaning_of : C → Meaning) (h : Happening C) (happens : TakesEvent meaning_of h.event h.before h.said h.after)
    (own other : Introduction) (keys : KeyRecord) where
  abbrev before : State C
  before = gateway_at h.event.end h.before

  abbrev at_hand : Meaning
  at_hand = meaning_of before.caller

  stepped_or_same : (from octets : Octets) (fresh : Fresh) → h.event.input ≡ input.Ike from octets fresh
      → StepsOn at_hand before.entries from octets fresh before.machine before.table happens.gateway.machine happens.gateway.table ⊎ (happens.gateway.machine ≡ before.machine)
  stepped_or_same from octets fresh came =
      let does : StepsIke at_hand before.entries (ike.Message from octets fresh) before.machine before.table h.said happens.trace happens.gateway.machine happens.gateway.table =
      subst (λ (i : Input). DoesInput at_hand before.entries i before.machine before.table h.said happens.trace happens.gateway.machine happens.gateway.table) came happens.traces.does in
      elim does [
        | inl answers ↦ inl (record { stepped = answers.stepped; steps = answers.steps })
        | inr refuses ↦ inr refuses.machine
      ]

  -- who stands at a place afterwards
  stands_there : (place : ℕ) (a : Association) → slice_get (gateway_at h.event.end h.after).machine.held.associations place ≡ Some a → slice_get happens.gateway.machine.held.associations place ≡ Some a
  stands_there place a there = sym (ap (λ (s : State C). slice_get s.machine.held.associations place) (after_here meaning_of h happens)) ∙ there

  pub comes_as_initiator : CameToKeysAsInitiator at_hand.public_value h own other keys → ComesToKeysAsInitiator (asker_of at_hand) own other keys
  comes_as_initiator c =
      let stands = stands_there c.place c.new c.stands in
      elim (stepped_or_same c.from c.octets c.fresh c.came) [
        | inl on ↦ initiator_comes at_hand before.entries c.from c.octets c.fresh before.machine before.table on.stepped happens.gateway.machine happens.gateway.table c.place c.old c.new c.sent keys own other
            on.steps c.stood c.waited stands c.keyed c.secret c.own_is c.other_is
        | inr same ↦
            let one = some_is c.old c.new (sym c.stood ∙ ap (λ (m : Machine). slice_get m.held.associations c.place) (sym same) ∙ stands) in
            let none : None ≡ Some keys = sym (ap keys_in c.waited) ∙ ap (λ (a : Association). keys_in a.phase) one ∙ c.keyed in
            absurd cc
      ]

  pub comes_as_responder : CameToKeysAsResponder at_hand.public_value h own other keys
      → ComesToKeysAsResponder at_hand.cipher at_hand.group at_hand.public_value at_hand.shared_secret own other keys
  comes_as_responder c =
      let stands = stands_there c.place c.new c.stands in
      elim (stepped_or_same c.from c.octets c.fresh c.came) [
        | inl on ↦ responder_comes at_hand before.entries c.from c.octets c.fresh before.machine before.table on.stepped happens.gateway.machine happens.gateway.table c.place c.new keys own other
            on.steps c.none_stood stands c.keyed c.secret c.own_is c.other_is
        | inr same ↦
            let none : None ≡ Some c.new = sym c.none_stood ∙ ap (λ (m : Machine). slice_get m.held.associations c.place) (sym same) ∙ stands in
            absurd cc
      ]

-- ---- whatever the caller means

module _ {C : Type 0} (initiator_comes : KeysComeToTheInitiator) (responder_comes : KeysComeToTheResponder) (meaning_of : C → Meaning) (public_value : Octets → Octets)
    (shares : (caller : C) → (meaning_of caller).public_value ≡ public_value)
    (agree : (caller answerer : C) (initiator responder : Introduction) (one other : KeyRecord) → ComesToKeysAsInitiator (asker_of (meaning_of caller)) initiator responder one
    → ComesToKeysAsResponder (meaning_of answerer).cipher (meaning_of answerer).group (meaning_of answerer).public_value (meaning_of answerer).shared_secret responder initiator other → one ≡ other) where
  pub world_record : (old new : WorldState C) (hs : List (Happening C)) → IsWorldTrail meaning_of old hs new → (place other_place : ℕ) (h g : Happening C)
      → slice_get hs place ≡ Some h → slice_get hs other_place ≡ Some g → (initiator responder : Introduction) (one other : KeyRecord)
      → CameToKeysAsInitiator public_value h initiator responder one → CameToKeysAsResponder public_value g responder initiator other → one ≡ other
  world_record old new hs trail place other_place h g here there initiator responder one other i r =
      let caller = (gateway_at h.event.end h.before).caller in
      let answerer = (gateway_at g.event.end g.before).caller in
      agree caller answerer initiator responder one other
      (comes_as_initiator initiator_comes responder_comes meaning_of h (each_step meaning_of hs old new trail place h here) initiator responder one
      (subst (λ (f : Octets → Octets). CameToKeysAsInitiator f h initiator responder one) (sym (shares caller)) i))
      (comes_as_responder initiator_comes responder_comes meaning_of g (each_step meaning_of hs old new trail other_place g there) responder initiator other
      (subst (λ (f : Octets → Octets). CameToKeysAsResponder f g responder initiator other) (sym (shares answerer)) r))
