-- How a peer was authenticated, by the input of a step (RFC 7296 sections 1.2 and 2.15).
use Rattle.std.specs.Prelude.{◌≡◌, ◌⊎◌, ℕ, Some, List}
use Rattle.base.specs.Octets.{Octets}
use Rattle.wire.specs.Messages.{Spells}
use Rattle.wire.specs.declared.message.Message.{Message as WireMessage}
use Rattle.policy.specs.declared.entry.Entry.{Entry}
use Rattle.suite.specs.declared.key_record.KeyRecord.{KeyRecord}
use Rattle.exchange.specs.declared.sealed.Plain.{Plain}
use Rattle.association.specs.Receiving.{opened_by}
use Rattle.association.specs.declared.phase.Association.{Association}
use Rattle.association.specs.declared.phase.Phase.TheVariants.{Established}
use Rattle.setup.specs.Configs.{Setup}
use Rattle.effects.specs.Proving.{ProvesByRequest, ProvesByResponse}
use Rattle.effects.specs.Taking.{Meaning}
use Rattle.ike.specs.Machines.{association_of, setup_at, Machine}
use Rattle.ike.specs.Steps.{InputView, Message, Start, Order, Secret, Tick}

-- the datagram is a message that opens under the IKE SA's keys, and what it opens to proves the configured
-- peer
pub record ProvedItself (meaning : Meaning) (setup : Setup) (octets : Octets) (was : Association) : Type 0 where
  pub message : WireMessage
  pub spelled : Spells message octets
  pub plain : Plain
  pub opened : opened_by meaning.plain_of was octets message.payloads ≡ Some plain
  pub proved : ProvesByRequest meaning.accepts setup was.phase plain ⊎ ProvesByResponse meaning.accepts setup was.phase plain

-- by a datagram alone, and by no command
abbrev pub ProvedBy : Meaning → List Entry → InputView → Machine → Association → Type 0
ProvedBy meaning entries (Message from octets fresh) old was = ProvedItself meaning (setup_at old entries fresh) octets was
ProvedBy meaning entries (Start ike place fresh) old was = ⊥
ProvedBy meaning entries (Order what fresh) old was = ⊥
ProvedBy meaning entries (Secret secret) old was = ⊥
ProvedBy meaning entries (Tick moment) old was = ⊥

-- the IKE SA was held before, and was established under these keys, or its peer proves itself now
pub record WasKnown (meaning : Meaning) (entries : List Entry) (input : InputView) (old : Machine) (ike : ℕ) (keys : KeyRecord) : Type 0 where
  pub was : Association
  pub stood : association_of ike old.held.associations ≡ Some was
  pub known : (was.phase ≡ Established keys) ⊎ ProvedBy meaning entries input old was
