-- That no end draws a nonce twice, by what is fresh at its inputs (RFC 7296 section 2.10).
use Rattle.std.specs.Prelude.{◌≡◌, ℕ, List, None, Some, slice_get}
use Rattle.base.specs.Octets.{Octets}
use Rattle.suite.specs.declared.fresh.Fresh.{Fresh}
use Rattle.gateway.specs.Exchanges.{AnswersRequest}
use Rattle.gateway.specs.Inputs as input
use Rattle.gateway.specs.Outputs as output
use Rattle.gateway.specs.WorldHistories.{Happening}
use Rattle.gateway.specs.declared.world.stored.End.{End}

-- With this step an end is told to begin an IKE SA, and does: with this serial, and with this nonce, which was
-- fresh at the input.
pub record DrawsNonce {C : Type 0} (h : Happening C) (end : End) (serial : ℕ) (nonce : Octets) : Type 0 where
  pub at : h.event.end ≡ end
  pub entry : ℕ
  pub fresh : Fresh
  pub told : h.event.input ≡ input.Start None entry fresh
  pub request : Octets
  pub said : h.said ≡ output.Request serial request
  pub is : fresh.nonce ≡ nonce

-- No end draws a nonce twice: of all steps with which it begins an IKE SA, each has its own.
pub record EachNonceIsDrawnOnce {C : Type 0} (happenings : List (Happening C)) : Type 0 where
  pub each : (place other : ℕ) (h g : Happening C) (end : End) (serial another : ℕ) (nonce : Octets)
      → slice_get happenings place ≡ Some h → slice_get happenings other ≡ Some g
      → DrawsNonce h end serial nonce → DrawsNonce g end another nonce → place ≡ other

-- No end answers with one nonce twice: of all steps with which a request of IKE_SA_INIT makes an IKE SA of it,
-- each has its own, as it was fresh at the input.
pub record EachAnswerDrawsItsNonce {C : Type 0} (happenings : List (Happening C)) : Type 0 where
  pub each : (place other : ℕ) (h g : Happening C) (end : End) (serial another : ℕ) (request response asked answered : Octets)
      → slice_get happenings place ≡ Some h → slice_get happenings other ≡ Some g
      → (one : AnswersRequest h end serial request response) → (two : AnswersRequest g end another asked answered)
      → one.fresh.nonce ≡ two.fresh.nonce → place ≡ other
