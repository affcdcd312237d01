-- Who proved what, and the partner of an IKE SA that is established (RFC 7296 sections 1.2, 2.10 and 2.15).
use Rattle.std.specs.Prelude.{◌≡◌, ◌⊎◌, ◌<◌, ℕ, List, Some, slice_get}
use Rattle.base.specs.Octets.{Octets}
use Rattle.mac.specs.Hmac.{hmac_sha256}
use Rattle.suite.specs.SignedOctets.{rest_of_id}
use Rattle.suite.specs.declared.key_record.KeyRecord.{KeyRecord}
use Rattle.exchange.specs.declared.headers.Role.TheVariants.{Initiator, Responder}
use Rattle.association.specs.declared.phase.Association.{Association}
use Rattle.association.specs.declared.phase.AuthSent.{AuthSent}
use Rattle.association.specs.declared.phase.HalfOpen.{HalfOpen}
use Rattle.association.specs.declared.phase.Phase.{Phase}
use Rattle.association.specs.declared.phase.Phase.TheVariants as phase
use Rattle.auth.specs.Proofs.{octets_to_prove, proving_of}
use Rattle.auth.specs.declared.identity.Identity.{Identity}
use Rattle.effects.specs.Taking.{Meaning}
use Rattle.ike.specs.Proving.{ProvedBy}
use Rattle.ike.specs.Steps.{InputView}
use Rattle.gateway.specs.Requests.{for_ike}
use Rattle.gateway.specs.States.{association_in}
use Rattle.gateway.specs.WorldHistories.{Happening}
use Rattle.gateway.specs.Worlds.{gateway_at, other_end}
use Rattle.gateway.specs.declared.world.stored.End.{End}
use Rattle.gateway.specs.Exchanges.{AnswersRequest, HaveExchanged, HoldsWith, ReadsResponse, SendsRequest}

-- ---- what is proved

-- With the step at this place an end proves these octets as initiator. It reads the response of IKE_SA_INIT
-- and asks by IKE_AUTH, with a proof over a request of IKE_SA_INIT that it had sent at an earlier step.
pub record ProvesAsInitiator {C : Type 0} (happenings : List (Happening C)) (place : ℕ) (h : Happening C) (end : End) (octets : Octets) : Type 0 where
  pub serial : ℕ
  pub response : Octets
  pub reads : ReadsResponse h end serial response
  pub told : AuthSent
  pub tells : reads.is.phase ≡ phase.AuthSent told
  pub request : Octets
  pub asked : ℕ
  pub asks : Happening C
  pub asks_there : slice_get happenings asked ≡ Some asks
  pub earlier : asked < place
  pub sends : SendsRequest asks end serial request
  pub proved : octets ≡ octets_to_prove (proving_of Initiator told.keys request) (gateway_at end h.before).machine.config.own.identity

-- With the step at this place an end proves these octets as responder. Its IKE SA is half-open before and
-- established after it, and the proof is over the response that it had answered the first message by.
pub record ProvesAsResponder {C : Type 0} (happenings : List (Happening C)) (place : ℕ) (h : Happening C) (end : End) (octets : Octets) : Type 0 where
  pub at : h.event.end ≡ end
  pub serial : ℕ
  pub was : Association
  pub stood : association_in (gateway_at end h.before) serial ≡ Some was
  pub opened : HalfOpen
  pub waited : was.phase ≡ phase.HalfOpen opened
  pub is : Association
  pub there : association_in (gateway_at end h.after) serial ≡ Some is
  pub established : is.phase ≡ phase.Established opened.keys
  pub request : Octets
  pub response : Octets
  pub answered : ℕ
  pub replies : Happening C
  pub replies_there : slice_get happenings answered ≡ Some replies
  pub earlier : answered < place
  pub answers : AnswersRequest replies end serial request response
  pub proved : octets ≡ octets_to_prove (proving_of Responder opened.keys response) (gateway_at end h.before).machine.config.own.identity

-- before this place this end proved these octets
pub record HasProved {C : Type 0} (happenings : List (Happening C)) (place : ℕ) (end : End) (octets : Octets) : Type 0 where
  pub by : ℕ
  pub earlier : by < place
  pub prover : Happening C
  pub there : slice_get happenings by ≡ Some prover
  pub proves : ProvesAsInitiator happenings by prover end octets ⊎ ProvesAsResponder happenings by prover end octets

-- ---- what is checked

-- what the peer of an IKE SA has to prove, by how far that has come
abbrev pub IsToBeProved : Phase → Identity → Octets → Type 0
IsToBeProved (phase.HalfOpen opened) peer octets = octets ≡ octets_to_prove (proving_of Initiator opened.keys opened.request) peer
IsToBeProved (phase.AuthSent sent) peer octets = octets ≡ octets_to_prove (proving_of Responder sent.keys sent.first) peer
IsToBeProved (phase.InitSent sent) peer octets = ⊥
IsToBeProved (phase.Established keys) peer octets = ⊥
IsToBeProved (phase.Closed keys at) peer octets = ⊥

-- No proof is forged: where a datagram comes to an end, what it proves is accepted by the caller's check as the
-- configured peer's, over what that had to prove, and an IKE SA is established by it, then the other end had
-- proved these octets before. So where both ends share an identity and a secret, none answers itself.
pub record NoProofIsForged {C : Type 0} (meaning_of : C → Meaning) (happenings : List (Happening C)) : Type 0 where
  pub each : (place serial : ℕ) (h : Happening C) (was is : Association) (keys : KeyRecord) (view : InputView) (octets : Octets)
      → slice_get happenings place ≡ Some h
      → association_in (gateway_at h.event.end h.before) serial ≡ Some was
      → for_ike h.event.input ≡ Some view
      → ProvedBy (meaning_of (gateway_at h.event.end h.before).caller) (gateway_at h.event.end h.before).entries view (gateway_at h.event.end h.before).machine was
      → IsToBeProved was.phase (gateway_at h.event.end h.before).machine.config.peer.identity octets
      → association_in (gateway_at h.event.end h.after) serial ≡ Some is
      → is.phase ≡ phase.Established keys
      → HasProved happenings place (other_end h.event.end) octets

-- ---- who agrees

-- With this step an IKE SA of an end is established, whose request of IKE_AUTH is answered by it.
pub record IsEstablishedAsInitiator {C : Type 0} (h : Happening C) (end : End) (serial : ℕ) (keys : KeyRecord) : Type 0 where
  pub at : h.event.end ≡ end
  pub was : Association
  pub stood : association_in (gateway_at end h.before) serial ≡ Some was
  pub told : AuthSent
  pub waited : was.phase ≡ phase.AuthSent told
  pub is : Association
  pub there : association_in (gateway_at end h.after) serial ≡ Some is
  pub established : is.phase ≡ phase.Established keys

-- A partner of it is the other end's IKE SA with this serial. That one was made of the very request that this
-- one sent, and this one read the very response that it answered. It was half-open then, and was established
-- between that step and this one. Both have one record of keys, with both nonces and SPIs. That it has no
-- second partner isn't said.
pub record HasPartner {C : Type 0} (happenings : List (Happening C)) (place : ℕ) (end : End) (serial : ℕ) (keys : KeyRecord) : Type 0 where
  pub partner : ℕ
  pub exchanged : HaveExchanged happenings end serial partner
  pub by : ℕ
  pub earlier : by < place
  pub after_it : exchanged.taken < by
  pub read : exchanged.reads.keys ≡ keys
  pub accepts : Happening C
  pub accepts_there : slice_get happenings by ≡ Some accepts
  pub at : accepts.event.end ≡ other_end end
  pub was : Association
  pub stood : association_in (gateway_at (other_end end) accepts.before) partner ≡ Some was
  pub opened : HalfOpen
  pub half_open : was.phase ≡ phase.HalfOpen opened
  pub association : Association
  pub there : association_in (gateway_at (other_end end) accepts.after) partner ≡ Some association
  pub established : association.phase ≡ phase.Established keys

-- ---- the partner of a responder

-- what an initiator proves of its identity (RestOfInitIDPayload) and of the keys
abbrev pub mac_of : KeyRecord → Identity → Octets
mac_of keys identity = hmac_sha256 keys.sk_pi (rest_of_id identity.kind identity.data)

-- With this step an IKE SA of an end is established, which was half-open before it.
pub record IsEstablishedAsResponder {C : Type 0} (h : Happening C) (end : End) (serial : ℕ) (keys : KeyRecord) : Type 0 where
  pub at : h.event.end ≡ end
  pub was : Association
  pub stood : association_in (gateway_at end h.before) serial ≡ Some was
  pub opened : HalfOpen
  pub waited : was.phase ≡ phase.HalfOpen opened
  pub is : Association
  pub there : association_in (gateway_at end h.after) serial ≡ Some is
  pub established : is.phase ≡ phase.Established keys

-- No two records of keys prove alike. Where an end holds an IKE SA under one after a step, and an end one under
-- another before a step, prf (SK_pi, RestOfInitIDPayload) is another, of the one's own identity and of the identity
-- that the other has configured for its peer (section 2.15).
pub record NoTwoRecordsProveAlike {C : Type 0} (happenings : List (Happening C)) : Type 0 where
  pub each : (place other : ℕ) (h g : Happening C) (end another : End) (serial number : ℕ) (one two : KeyRecord)
      → slice_get happenings place ≡ Some h
      → slice_get happenings other ≡ Some g
      → HoldsWith h.after end serial one
      → HoldsWith g.before another number two
      → mac_of one (gateway_at end h.before).machine.config.own.identity ≡ mac_of two (gateway_at another g.before).machine.config.peer.identity
      → one ≡ two

-- A partner of a responder is the other end's IKE SA with this serial. That one sent the very request of
-- IKE_SA_INIT that this one keeps as what it was made of. It read a response at a later step, before this
-- place, and asked by IKE_AUTH then, under the same record of keys, with both nonces and SPIs. Whether it is
-- established, or will be, isn't said; nor that it read the very response that this end answered.
pub record HasAsker {C : Type 0} (happenings : List (Happening C)) (place : ℕ) (end : End) (opened : HalfOpen) (keys : KeyRecord) : Type 0 where
  pub partner : ℕ
  pub asked : ℕ
  pub asks : Happening C
  pub asks_there : slice_get happenings asked ≡ Some asks
  pub sends : SendsRequest asks (other_end end) partner opened.request
  pub by : ℕ
  pub earlier : by < place
  pub first : asked < by
  pub reader : Happening C
  pub reader_there : slice_get happenings by ≡ Some reader
  pub response : Octets
  pub reads : ReadsResponse reader (other_end end) partner response
  pub told : AuthSent
  pub tells : reads.is.phase ≡ phase.AuthSent told
  pub same_keys : told.keys ≡ keys
