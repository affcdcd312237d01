-- A worked run in which an IKE SA that is established as initiator has a partner at the other end (RFC 7296
-- sections 1.2, 2.10 and 2.15), and which meets the premises of that.
use Rattle.std.specs.Prelude.{◌≡◌, ℕ, List, Some, map, slice_get}
use Rattle.base.specs.Octets.{Octets}
use Rattle.suite.specs.declared.key_record.KeyRecord.{KeyRecord}
use Rattle.association.specs.declared.phase.Association.{Association}
use Rattle.association.specs.declared.phase.Phase.TheVariants.{Established}
use Rattle.effects.specs.Taking.{asker_of}
use Rattle.ike.specs.Proving.{ProvedBy}
use Rattle.ike.specs.Steps.{InputView}
use Rattle.gateway.specs.Requests.{for_ike}
use Rattle.gateway.specs.States.{association_in}
use Rattle.gateway.specs.WorldHistories.{Happening, IsWorldTrail}
use Rattle.gateway.specs.Worlds.{gateway_at, HoldsNothing, WorldState}
use Rattle.gateway.specs.declared.world.stored.End.{End}
use Rattle.gateway.specs.declared.world.stored.End.TheVariants.{A, B}
use Rattle.laws_two_ends.specs.WorkedRecords.{worked_record, CanBeMeant}
use Rattle.laws_two_ends.specs.WorkedRuns.{events_of, new_ends, outputs_of, run_meaning, Exchanged}
use Rattle.gateway.specs.DrawnNonces.{EachAnswerDrawsItsNonce, EachNonceIsDrawnOnce}
use Rattle.gateway.specs.Agreeing.{HasAsker, HasPartner, IsEstablishedAsInitiator, IsEstablishedAsResponder, IsToBeProved, NoProofIsForged, NoTwoRecordsProveAlike}

-- With this step the check of an end accepts a proof of its peer over these octets, and its IKE SA with this
-- serial is established by it. Of each such step the premise that no proof is forged asks something.
pub record AcceptsProof {C : Type 0} (h : Happening C) (end : End) (serial : ℕ) (keys : KeyRecord) (octets : Octets) : Type 0 where
  pub at : h.event.end ≡ end
  pub was : Association
  pub stood : association_in (gateway_at end h.before) serial ≡ Some was
  pub view : InputView
  pub came : for_ike h.event.input ≡ Some view
  pub proved : ProvedBy run_meaning (gateway_at end h.before).entries view (gateway_at end h.before).machine was
  pub due : IsToBeProved was.phase (gateway_at end h.before).machine.config.peer.identity octets
  pub is : Association
  pub there : association_in (gateway_at end h.after) serial ≡ Some is
  pub established : is.phase ≡ Established keys

-- There is such a run, for a caller that there can be, of two new gateways that hold nothing: the one in
-- which they set up an IKE SA, and all comes as it was sent. No proof is forged in it, no nonce is drawn
-- twice, and no two records of keys prove alike. With the fourth step B accepts what A proved as initiator:
-- its IKE SA is established as responder, and has its partner at A. With the fifth A accepts what B proved as
-- responder: its IKE SA is established as initiator, and has its partner at B.
pub record IsWorkedPartner {C : Type 0} (a b : C) : Type 0 where
  pub exchanged : Exchanged
  pub happenings : List (Happening C)
  pub last : WorldState C
  pub takes : map (λ h. h.event) happenings ≡ events_of exchanged
  pub says : map (λ h. h.said) happenings ≡ outputs_of exchanged
  pub can_be : CanBeMeant (asker_of run_meaning) run_meaning.plain_of
  -- the premises
  pub trail : IsWorldTrail (λ _. run_meaning) (new_ends a b) happenings last
  pub holds_nothing : (end : End) → HoldsNothing (gateway_at end (new_ends a b))
  pub unforged : NoProofIsForged (λ _. run_meaning) happenings
  pub drawn_once : EachNonceIsDrawnOnce happenings
  pub answered_once : EachAnswerDrawsItsNonce happenings
  pub apart : NoTwoRecordsProveAlike happenings
  -- where a proof is accepted
  pub accepting : Happening C
  pub accepts : slice_get happenings 3 ≡ Some accepting
  pub asked : Octets
  pub accepts_initiator : AcceptsProof accepting B 1 worked_record asked
  pub concluding : Happening C
  pub concludes : slice_get happenings 4 ≡ Some concluding
  pub answered : Octets
  pub accepts_responder : AcceptsProof concluding A 1 worked_record answered
  -- who is established then, and has a partner
  pub established : IsEstablishedAsInitiator concluding A 1 worked_record
  pub partner : HasPartner happenings 4 A 1 worked_record
  pub responds : IsEstablishedAsResponder accepting B 1 worked_record
  pub asker : HasAsker happenings 3 B responds.opened worked_record
