-- A request whose first copy is lost, and its response (RFC 7296 sections 2.1 to 2.3).
use Rattle.std.specs.Prelude.{◌≡◌, ℕ, Bool, true, false, List, Option, Some}
use Rattle.base.specs.Octets.{Octets}
use Rattle.suite.specs.declared.key_record.KeyRecord.{KeyRecord}
use Rattle.exchange.specs.Headers.{other_role}
use Rattle.association.specs.Phases.{keys_in}
use Rattle.association.specs.declared.phase.Association.{Association}
use Rattle.association.specs.declared.phase.Request.{Request}
use Rattle.effects.specs.Taking.{Meaning}
use Rattle.gateway.specs.Histories.{IsPassage, IsTrail, Passage}
use Rattle.gateway.specs.Inputs.{Input}
use Rattle.gateway.specs.Inputs as input
use Rattle.gateway.specs.Outputs as output
use Rattle.gateway.specs.Requests.{for_ike, IsDatagram}
use Rattle.gateway.specs.States.{association_in}
use Rattle.gateway.specs.Worlds.{IsFreshlyGiven}
use Rattle.laws_recovery.specs.Waiting.{GoesOutAgain, WaitsAfter, WaitsBefore, WaitsThroughout}

-- the command asks the peer something under an established IKE SA: an additional Child SA, whether it is
-- there, or that a Child SA or the IKE SA be deleted (sections 1.3.1, 1.4 and 1.4.1)
abbrev pub is_asking : Input → Bool
is_asking (input.Start (Some serial) place fresh) = true
is_asking (input.Probe serial fresh) = true
is_asking (input.DeleteChild child fresh) = true
is_asking (input.DeleteIke serial fresh) = true
is_asking _ = false

-- By such a command a request goes out at this step for the first time, of the IKE SA with this serial. It
-- waits from now on under this Message ID, and none did before.
pub record GoesOutFirst {C : Type 0} (serial number : ℕ) (request : Request) (p : Passage C) : Type 0 where
  pub asked : is_asking p.given ≡ true
  pub said : p.said ≡ output.Request serial request.octets
  pub waits : WaitsAfter serial number request p
  pub first : (before : Request) → ¬ WaitsBefore serial number before p

-- A history of an end up to a step. Under its IKE SA, which is this one at first, a request goes out
-- (`asking`), and waits before each of the steps that follow and before this last one. These octets are what
-- waits then. The fresh octets for sealing are 16, as for every value of their type.
pub record WaitsUntil {C : Type 0} (meaning_of : C → Meaning) (serial number : ℕ) (a : Association) (octets : Octets) (asking : Passage C) (between : List (Passage C)) (p : Passage C) : Type 0 where
  pub asks : IsPassage meaning_of asking
  pub fresh : IsFreshlyGiven (for_ike asking.given)
  pub its : association_in asking.before serial ≡ Some a
  pub request : Request
  pub first : GoesOutFirst serial number request asking
  pub trail : IsTrail meaning_of asking.after between p.before
  pub through : WaitsThroughout serial number between
  pub step : IsPassage meaning_of p
  pub waiting : Request
  pub waits : WaitsBefore serial number waiting p
  pub octets_are : waiting.octets ≡ octets

-- and at that step it goes out again
pub record IsRepeated {C : Type 0} (meaning_of : C → Meaning) (serial number : ℕ) (a : Association) (octets : Octets) (asking : Passage C) (between : List (Passage C)) (p : Passage C) : Type 0 where
  pub until : WaitsUntil meaning_of serial number a octets asking between p
  pub again : GoesOutAgain serial number until.waiting p

-- both are ends of one IKE SA: they have its SPIs and its keys, in opposite roles
pub record AreEndsOfOne (a b : Association) : Type 0 where
  pub keys : KeyRecord
  pub one_keyed : keys_in a.phase ≡ Some keys
  pub other_keyed : keys_in b.phase ≡ Some keys
  pub spi_i : b.spi_i ≡ a.spi_i
  pub spi_r : b.spi_r ≡ a.spi_r
  pub roles : b.role ≡ other_role a.role

-- at this step these octets come as a datagram of IKE to the IKE SA with this serial
pub record ArrivesAt {C : Type 0} (serial : ℕ) (b : Association) (octets : Octets) (p : Passage C) : Type 0 where
  pub its : association_in p.before serial ≡ Some b
  pub datagram : IsDatagram (for_ike p.given) octets

-- At this step the request is answered, and that is told: it waits no more.
pub record IsMatched {C : Type 0} (serial number : ℕ) (p : Passage C) : Type 0 where
  pub child : Option ℕ
  pub closed : Option ℕ
  pub said : p.said ≡ output.Counted serial child closed
  pub waits_no_more : (request : Request) → ¬ WaitsAfter serial number request p
