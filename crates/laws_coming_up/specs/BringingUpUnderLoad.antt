-- A tunnel between two gateways of which the other is under load, by IKE_SA_INIT, which takes one round more
-- then, and IKE_AUTH (RFC 7296 sections 1.2 and 2.6). Both may hold other IKE SAs and other pairs.
use Rattle.std.specs.Prelude.{◌≡◌, ℕ, None, Some}
use Rattle.base.specs.Octets.{AreOctets, Octets}
use Rattle.policy.specs.declared.entry.Entry.{Entry}
use Rattle.suite.specs.declared.fresh.Fresh.{Fresh}
use Rattle.exchange.specs.declared.notices.Notice.{Notice}
use Rattle.effects.specs.Taking.{Meaning}
use Rattle.ike.specs.Moves.{HasSeal}
use Rattle.gateway.specs.Histories.{IsPassage, Passage}
use Rattle.gateway.specs.Outputs.{Reply, Request}
use Rattle.laws_opening.specs.Beside.{next_child}
use Rattle.laws_opening.specs.Exchanged.{IsDrawn}
use Rattle.laws_opening.specs.UnderLoad.{IsExchangeUnderLoad, OpensUnderLoad}
use Rattle.laws_coming_up.specs.BringingUpBeside.{CanBeKnown}
use Rattle.laws_coming_up.specs.ComingUp.{Brings}
use Rattle.laws_coming_up.specs.ComingUpBeside.{meeting_by, AwaitsAnswer, AwaitsIdentity, ComesUpBeside, ComesUpWithoutChildBeside}

-- Both exchanges, in seven steps. The one can begin an IKE SA, and the other, which asks for a cookie, has
-- room for it as the request comes again with that. Each datagram that goes out comes to the other end as it
-- was sent, whatever else came to either in between. It is presumed that the IKE SA is still half open as the
-- request of IKE_AUTH comes to the other, and that the one still waits as the response comes. Memory runs out
-- at neither.
pub record AreSetUpUnderLoad {C : Type 0} (meaning_of : C → Meaning) (place : ℕ) (entry : Entry) (asking delaying bringing answering reading : Fresh) (shared : Octets) (p l b q r s t : Passage C) : Type 0 where
  -- IKE_SA_INIT
  pub opens : IsExchangeUnderLoad meaning_of place entry asking delaying bringing answering reading p l b q r
  -- the responder comes to a secret by what the initiator sends (section 2.14)
  pub agrees : (meaning_of q.before.caller).shared_secret answering.secret ((meaning_of q.before.caller).public_value asking.secret) ≡ Some shared
  -- what is fresh is drawn rightly, and octets, as the code's types have it
  pub asking_drawn : IsDrawn asking
  pub answering_drawn : IsDrawn answering
  pub asking_nonce : AreOctets asking.nonce
  pub answering_nonce : AreOctets answering.nonce
  pub seal : HasSeal reading
  -- the request of IKE_AUTH comes; the one proves itself over its request with the cookie (section 2.15)
  pub accepts : IsPassage meaning_of s
  pub asked : (octets : Octets) → r.said ≡ Request opens.waits_again.association.serial octets → Brings octets s
  pub half_open : AwaitsIdentity (meeting_by asking answering shared opens.again opens.response (next_child entry p.before)) s.before.machine.held
  -- the response comes
  pub concludes : IsPassage meaning_of t
  pub answered : (octets : Octets) → s.said ≡ Reply octets None → Brings octets t
  pub waits : AwaitsAnswer (meeting_by asking answering shared opens.again opens.response (next_child entry p.before)) t.before.machine.held
  -- the one is set as it was when it told who it is, and has the same caller; no step changes either
  pub config_stays : t.before.machine.config ≡ r.before.machine.config
  pub caller_stays : t.before.caller ≡ r.before.caller
  -- each can prove to the other who it is
  pub one_known : CanBeKnown t.before.machine.config s.before.machine.config (meaning_of t.before.caller) (meaning_of s.before.caller)
  pub other_known : CanBeKnown s.before.machine.config t.before.machine.config (meaning_of s.before.caller) (meaning_of t.before.caller)

-- By its last step each establishes the new IKE SA, under one record of keys, and makes its pair of the first
-- Child SA; the pairs mirror each other. No step of these seven changes anything else that either holds.
pub record HaveTunnelUnderLoad {C : Type 0} (meaning_of : C → Meaning) (place : ℕ) (entry : Entry) (asking delaying bringing answering reading : Fresh) (shared : Octets) (p l b q r s t : Passage C)
    (are : AreSetUpUnderLoad meaning_of place entry asking delaying bringing answering reading shared p l b q r s t) : Type 0 where
  pub opened : OpensUnderLoad meaning_of place entry asking delaying bringing answering reading shared p l b q r are.opens
  pub up : ComesUpBeside (meaning_of s.before.caller) (meeting_by asking answering shared are.opens.again are.opens.response (next_child entry p.before)) s t
      are.half_open are.waits

-- Each establishes the new IKE SA by its last step, and makes no pair. The response had this notification. No
-- step of these seven changes anything else that either holds.
pub record HaveNoChildUnderLoad {C : Type 0} (meaning_of : C → Meaning) (place : ℕ) (entry : Entry) (asking delaying bringing answering reading : Fresh) (shared : Octets) (notice : Notice) (p l b q r s t : Passage C)
    (are : AreSetUpUnderLoad meaning_of place entry asking delaying bringing answering reading shared p l b q r s t) : Type 0 where
  pub opened : OpensUnderLoad meaning_of place entry asking delaying bringing answering reading shared p l b q r are.opens
  pub up : ComesUpWithoutChildBeside (meaning_of s.before.caller) (meeting_by asking answering shared are.opens.again are.opens.response (next_child entry p.before)) notice s t
      are.half_open are.waits
