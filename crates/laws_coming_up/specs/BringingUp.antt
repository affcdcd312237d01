-- A tunnel between two new gateways, by IKE_SA_INIT and IKE_AUTH (RFC 7296 section 1.2).
use Rattle.std.specs.Prelude.{◌≡◌, ℕ, None, IsTrue}
use Rattle.base.specs.Octets.{AreOctets, Octets}
use Rattle.policy.specs.declared.entry.Entry.{Entry}
use Rattle.suite.specs.declared.fresh.Fresh.{Fresh}
use Rattle.effects.specs.Taking.{Meaning}
use Rattle.ike.specs.Moves.{HasSeal}
use Rattle.gateway.specs.Histories.{IsPassage, Passage}
use Rattle.gateway.specs.Outputs.{Reply, Request}
use Rattle.laws_opening.specs.Opened.{Side}
use Rattle.laws_opening.specs.Opening.{HasOpened, IsExchange}
use Rattle.laws_coming_up.specs.ComingUp.{Brings, ComesUp, ComesUpWithoutChild}

-- An end can prove to another who it is, whatever octets it has to prove: the other is configured for its
-- identity, and the other's caller accepts what its own caller makes as a proof of it (section 2.15).
pub record CanProveItself (own other : Side) (meaning theirs : Meaning) : Type 0 where
  pub named : other.config.peer.identity ≡ own.config.own.identity
  pub proved : (octets : Octets) → AreOctets octets
      → IsTrue (theirs.accepts own.config.own.identity.kind own.config.own.identity.data meaning.own_method octets (meaning.proof_of octets))

-- Both exchanges between two new gateways, in five steps. The initiator is told to begin. From then on each
-- datagram that goes out comes to the other end as it was sent. Nothing else comes to either, and no time
-- above 0 is told. Memory runs out at neither.
pub record AreSetUp {C : Type 0} (meaning_of : C → Meaning) (one other : Side) (a b : C) (place : ℕ) (asking answering reading : Fresh) (p q r s t : Passage C) : Type 0 where
  -- IKE_SA_INIT
  pub opens : IsExchange meaning_of one other a b place asking answering reading p q r
  -- what is fresh is octets, as the code's types have it
  pub asking_nonce : AreOctets asking.nonce
  pub answering_nonce : AreOctets answering.nonce
  pub seal : HasSeal reading
  -- the request of IKE_AUTH comes
  pub accepts : IsPassage meaning_of s
  pub then_other : s.before ≡ q.after
  pub asked : (octets : Octets) → r.said ≡ Request 1 octets → Brings octets s
  -- the response comes
  pub concludes : IsPassage meaning_of t
  pub then_one : t.before ≡ r.after
  pub answered : (octets : Octets) → s.said ≡ Reply octets None → Brings octets t

-- Both hold one IKE SA, which they opened and established under one record of keys, and mirrored pairs of
-- its first Child SA.
pub record HaveTunnel {C : Type 0} (meaning_of : C → Meaning) (one other : Side) (a b : C) (entry : Entry) (asking answering reading : Fresh) (shared : Octets) (p q r s t : Passage C) : Type 0 where
  pub opened : HasOpened (meaning_of a) one other a b entry asking answering reading shared p q r
  pub up : ComesUp (meaning_of b) one other a b opened.opening s t

-- both hold the IKE SA, but no pair, and the response had TS_UNACCEPTABLE
pub record HaveNoChild {C : Type 0} (meaning_of : C → Meaning) (one other : Side) (a b : C) (entry : Entry) (asking answering reading : Fresh) (shared : Octets) (p q r s t : Passage C) : Type 0 where
  pub opened : HasOpened (meaning_of a) one other a b entry asking answering reading shared p q r
  pub up : ComesUpWithoutChild (meaning_of b) one other a b opened.opening s t
