-- How a peer was authenticated (RFC 7296 sections 1.2 and 2.15).
use Rattle.std.specs.Prelude.{◌≡◌, ◌⊎◌, List, Some}
use Rattle.base.specs.Octets.{Octets}
use Rattle.wire.specs.Payloads.{SpellsChain}
use Rattle.wire.specs.declared.message.Message.{Message}
use Rattle.wire.specs.declared.payload.Payload.{Payload}
use Rattle.exchange.specs.Counting.{only_auth, only_id_i, only_id_r}
use Rattle.exchange.specs.declared.sealed.Plain.{Plain}
use Rattle.association.specs.Receiving.{opened_by}
use Rattle.association.specs.declared.phase.Association.{Association}
use Rattle.association.specs.declared.phase.AuthSent.{AuthSent}
use Rattle.association.specs.declared.phase.HalfOpen.{HalfOpen}
use Rattle.association.specs.declared.phase.Phase.{Phase}
use Rattle.association.specs.declared.phase.Phase.TheVariants as phase
use Rattle.auth.specs.Proofs.{Accepts, ProvesItself}
use Rattle.setup.specs.Configs.{Setup}
use Rattle.initial.specs.Deciding.{peer_proving}
use Rattle.initial.specs.Ending.{responder_proving}
use Rattle.effects.specs.Taking.{Meaning}

-- the payloads of a request prove the configured peer, over what the initiator of this half-open IKE SA has
-- to prove
pub record ProvesByRequest (accepts : Accepts) (setup : Setup) (p : Phase) (plain : Plain) : Type 0 where
  pub opened : HalfOpen
  pub was : p ≡ phase.HalfOpen opened
  pub payloads : List Payload
  pub read : SpellsChain plain.first payloads plain.octets
  pub proved : ProvesItself accepts setup.config.peer.identity (peer_proving opened) (only_id_i payloads) (only_auth payloads)

-- those of a response, over what the responder has to prove
pub record ProvesByResponse (accepts : Accepts) (setup : Setup) (p : Phase) (plain : Plain) : Type 0 where
  pub sent : AuthSent
  pub was : p ≡ phase.AuthSent sent
  pub payloads : List Payload
  pub read : SpellsChain plain.first payloads plain.octets
  pub proved : ProvesItself accepts setup.config.peer.identity (responder_proving sent) (only_id_r payloads) (only_auth payloads)

-- what a message opens to under the IKE SA's keys proves the configured peer, by a request or by a response
pub record ProvesByMessage (meaning : Meaning) (setup : Setup) (old : Association) (octets : Octets) (m : Message) : Type 0 where
  pub plain : Plain
  pub opened : opened_by meaning.plain_of old octets m.payloads ≡ Some plain
  pub proved : ProvesByRequest meaning.accepts setup old.phase plain ⊎ ProvesByResponse meaning.accepts setup old.phase plain
