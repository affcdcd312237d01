-- What is promised of the partners of IKE SAs that are established, over an execution of two ends (RFC 7296
-- sections 1.2, 2.10 and 2.15).
use Rattle.std.specs.Prelude.{◌≡◌, ℕ, List, Some, slice_get, take}
use Rattle.suite.specs.declared.key_record.KeyRecord.{KeyRecord}
use Rattle.association.specs.declared.phase.HalfOpen.{HalfOpen}
use Rattle.effects.specs.Taking.{Meaning}
use Rattle.gateway.specs.Agreeing.{HasAsker, HasPartner, IsEstablishedAsInitiator, IsEstablishedAsResponder, NoProofIsForged, NoTwoRecordsProveAlike}
use Rattle.gateway.specs.DrawnNonces.{EachAnswerDrawsItsNonce, EachNonceIsDrawnOnce}
use Rattle.gateway.specs.Inputs.{Event}
use Rattle.gateway.specs.WorldHistories.{Happening, IsWorldHistory}
use Rattle.gateway.specs.Worlds.{gateway_at, HoldsNothing, WorldState}
use Rattle.gateway.specs.declared.output.Output.{Output}
use Rattle.gateway.specs.declared.world.stored.End.{End}

-- Two ends begin with nothing. Where no proof is forged, who is established has a partner at the other end; each
-- field names what else it asks. And a partner is the only one, whatever is forged.
pub record HaveOnePartner {C : Type 0} (meaning_of : C → Meaning) (old : WorldState C) (happenings : List (Happening C)) : Type 0 where
  pub initiator : ((end : End) → HoldsNothing (gateway_at end old)) → NoProofIsForged meaning_of happenings → EachNonceIsDrawnOnce happenings
      → (place serial : ℕ) (h : Happening C) (end : End) (keys : KeyRecord) → slice_get happenings place ≡ Some h
      → IsEstablishedAsInitiator h end serial keys → HasPartner happenings place end serial keys
  pub responder : ((end : End) → HoldsNothing (gateway_at end old)) → NoProofIsForged meaning_of happenings → NoTwoRecordsProveAlike happenings
      → (place serial : ℕ) (h : Happening C) (end : End) (keys : KeyRecord) → slice_get happenings place ≡ Some h
      → (is : IsEstablishedAsResponder h end serial keys) → HasAsker happenings place end is.opened keys
  pub one_partner : EachAnswerDrawsItsNonce happenings
      → (place other : ℕ) (end : End) (serial another : ℕ) (keys : KeyRecord)
      → (one : HasPartner happenings place end serial keys) → (two : HasPartner happenings other end another keys) → one.partner ≡ two.partner
  pub one_asker : ((end : End) → HoldsNothing (gateway_at end old)) → EachNonceIsDrawnOnce happenings
      → (place other : ℕ) (end : End) (opened another : HalfOpen) (keys : KeyRecord)
      → (one : HasAsker happenings place end opened keys) → (two : HasAsker happenings other end another keys) → one.partner ≡ two.partner

-- so it is of each history of these events, as far as they take place
pub record HavePartners {C : Type 0} (meaning_of : C → Meaning) (events : List Event) (old : WorldState C) : Type 0 where
  pub each : (count : ℕ) (outputs : List Output) (new : WorldState C) (happenings : List (Happening C))
      → IsWorldHistory meaning_of (take count events) outputs old new happenings → HaveOnePartner meaning_of old happenings
