-- That each nonce is of one IKE SA, by what the ends hold. It follows where no end draws a nonce twice.
use Rattle.std.specs.Prelude.{◌≡◌, ℕ, List, Some, slice_get}
use Rattle.base.specs.Octets.{Octets}
use Rattle.association.specs.declared.phase.Association.{Association}
use Rattle.association.specs.declared.phase.AuthSent.{AuthSent}
use Rattle.association.specs.declared.phase.Phase.TheVariants as phase
use Rattle.gateway.specs.States.{association_in}
use Rattle.gateway.specs.WorldHistories.{Happening}
use Rattle.gateway.specs.Worlds.{gateway_at, WorldState}
use Rattle.gateway.specs.declared.world.stored.End.{End}

-- an IKE SA of this end, which waits for the response of IKE_AUTH, has keys with this nonce of its own
pub record HasNonce {C : Type 0} (w : WorldState C) (end : End) (serial : ℕ) (nonce : Octets) : Type 0 where
  pub association : Association
  pub there : association_in (gateway_at end w) serial ≡ Some association
  pub told : AuthSent
  pub tells : association.phase ≡ phase.AuthSent told
  pub is : told.keys.nonce_i ≡ nonce

-- No nonce is drawn twice: of two IKE SAs that an end began, one that waits for the response of IKE_AUTH after
-- a step and one that waits for it before a step have each its own (section 2.10).
pub record EachNonceIsOfOne {C : Type 0} (happenings : List (Happening C)) : Type 0 where
  pub each : (place other : ℕ) (h g : Happening C) (end : End) (serial another : ℕ) (nonce : Octets)
      → slice_get happenings place ≡ Some h → slice_get happenings other ≡ Some g
      → HasNonce h.after end serial nonce → HasNonce g.before end another nonce → serial ≡ another
