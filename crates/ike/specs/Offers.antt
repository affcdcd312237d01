-- What an answer takes of the offer in a datagram (RFC 7296 sections 2.7 and 3.3.1).
use Rattle.std.specs.Prelude.{◌≡◌, ℕ, true, Some, List, Contains}
use Rattle.base.specs.Octets.{Octets}
use Rattle.wire.specs.Messages.{Spells, SpellsPlainly}
use Rattle.wire.specs.declared.message.Message.{Message}
use Rattle.wire.specs.declared.payload.Payload.TheVariants.{Sa}
use Rattle.wire.specs.declared.proposal.Proposal.{Proposal}
use Rattle.association.specs.Finding.{is_meant}
use Rattle.association.specs.declared.phase.Association.{Association}
use Rattle.setup.specs.Configs.{Setup}
use Rattle.effects.specs.Offers.{AnswersInitialSa, AnswersMessageSa}
use Rattle.effects.specs.Taking.{Meaning}
use Rattle.ike.specs.Machines.{association_of, Held}

-- the octets are a message, and these proposals answer its SA payload
pub record AnswersFirstOffer (octets reply : Octets) : Type 0 where
  pub message : Message
  pub spelled : Spells message octets
  pub answers : AnswersInitialSa message.payloads reply

-- the octets are a message for the IKE SA with this serial, and each SA payload in these answers that of
-- what it opens to
pub record AnswersSealedOffer (meaning : Meaning) (setup : Setup) (ike : ℕ) (octets reply : Octets) (old : Held) : Type 0 where
  pub message : Message
  pub spelled : Spells message octets
  pub was : Association
  pub stood : association_of ike old.associations ≡ Some was
  pub meant : is_meant message.header was ≡ true
  pub answers : AnswersMessageSa meaning setup was octets message reply

-- these octets are a message without an SA payload
pub record AnswersNoOffer (reply : Octets) : Type 0 where
  pub message : Message
  pub spelled : SpellsPlainly message reply
  pub none : (proposals : List Proposal) → ¬ Contains message.payloads (Sa proposals)
