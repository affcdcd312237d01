-- How each end of a world comes to its keys in IKE_SA_INIT, by its steps (RFC 7296 sections 1.2 and 2.14).
use Rattle.std.specs.Prelude.{◌≡◌, ℕ, List, Some, None, slice_get}
use Rattle.base.specs.Octets.{Octets}
use Rattle.suite.specs.Callers.{IsSecret}
use Rattle.suite.specs.declared.fresh.Fresh.{Fresh}
use Rattle.suite.specs.declared.key_record.KeyRecord.{KeyRecord}
use Rattle.association.specs.Phases.{keys_in}
use Rattle.association.specs.declared.phase.Association.{Association}
use Rattle.association.specs.declared.phase.InitSent.{InitSent}
use Rattle.association.specs.declared.phase.Phase.TheVariants as phase
use Rattle.gateway.specs.Inputs as input
use Rattle.gateway.specs.WorldHistories.{Happening}
use Rattle.gateway.specs.Worlds.{gateway_at, WorldState}
use Rattle.gateway.specs.declared.world.stored.End.{End}
use Rattle.ike.specs.Records.{Introduction, SaysOfSender}

-- all IKE SAs of an end, in the order in which they were made
abbrev pub associations_at : {C : Type 0} → End → WorldState C → List Association
associations_at {C} end w = (gateway_at end w).machine.held.associations

-- A datagram came to an end, and an IKE SA that waited for the response to IKE_SA_INIT has these keys
-- from then on: this is what the IKE SA held of itself, and what the datagram says of its sender. A
-- datagram leaves each IKE SA at its place.
pub record CameToKeysAsInitiator {C : Type 0} (public_value : Octets → Octets) (h : Happening C) (own other : Introduction) (keys : KeyRecord) : Type 0 where
  pub from : Octets
  pub octets : Octets
  pub fresh : Fresh
  pub came : h.event.input ≡ input.Ike from octets fresh
  pub place : ℕ
  pub old : Association
  pub stood : slice_get (associations_at h.event.end h.before) place ≡ Some old
  pub sent : InitSent
  pub waited : old.phase ≡ phase.InitSent sent
  pub new : Association
  pub stands : slice_get (associations_at h.event.end h.after) place ≡ Some new
  pub keyed : keys_in new.phase ≡ Some keys
  pub secret : IsSecret sent.secret
  pub own_is : own ≡ record { spi = old.spi_i; public = public_value sent.secret; nonce = sent.nonce }
  pub other_is : SaysOfSender (λ header. header.spi_r) octets other

-- A datagram came to an end, and made an IKE SA that has these keys: this is what it holds of itself,
-- which is fresh, and what the datagram says of its sender.
pub record CameToKeysAsResponder {C : Type 0} (public_value : Octets → Octets) (h : Happening C) (own other : Introduction) (keys : KeyRecord) : Type 0 where
  pub from : Octets
  pub octets : Octets
  pub fresh : Fresh
  pub came : h.event.input ≡ input.Ike from octets fresh
  pub place : ℕ
  pub none_stood : slice_get (associations_at h.event.end h.before) place ≡ None
  pub new : Association
  pub stands : slice_get (associations_at h.event.end h.after) place ≡ Some new
  pub keyed : keys_in new.phase ≡ Some keys
  pub secret : IsSecret fresh.secret
  pub own_is : own ≡ record { spi = fresh.spi; public = public_value fresh.secret; nonce = fresh.nonce }
  pub other_is : SaysOfSender (λ header. header.spi_i) octets other
