-- What the trace of a step names (RFC 7296 section 2.14, RFC 4301 section 4.4.2).
use Rattle.std.specs.Prelude.{◌≡◌, ◌⊎◌, true, ℕ, Option, Some, None, IsSome, slice_get}
use Rattle.base.specs.Octets.{Octets}
use Rattle.wire.specs.Messages.{SpellsPlainly}
use Rattle.wire.specs.Numbers.{IKE_SA_INIT}
use Rattle.wire.specs.declared.message.Message.{Message}
use Rattle.suite.specs.declared.key_record.KeyRecord.{KeyRecord}
use Rattle.sadb.specs.Database.{pair_at, Database}
use Rattle.sadb.specs.declared.pair.Pair.{Pair}
use Rattle.association.specs.Phases.{keys_in}
use Rattle.association.specs.declared.phase.Association.{Association}
use Rattle.effects.specs.Pairs.{IsUnused}
use Rattle.effects.specs.Keeping.{kept_reply}
use Rattle.ike.specs.Machines.{association_of, keys_of_serial, Held}
use Rattle.ike.specs.Outputs.{octets_in}
use Rattle.ike.specs.Pairs.{BecameDeleting}
use Rattle.ike.specs.declared.output.IkeOutput.{IkeOutput}
use Rattle.ike.specs.declared.output.IkeOutput.TheVariants.{Reply, Repeat, Request}
use Rattle.ike.specs.declared.output.MadeChild.{MadeChild}
use Rattle.ike.specs.declared.output.Mark.{Mark}
use Rattle.ike.specs.declared.output.Stepped.{Stepped}

-- an IKE SA with this serial is held, and has keys
pub record HoldsKeys (held : Held) (serial : ℕ) : Type 0 where
  pub association : Association
  pub there : association_of serial held.associations ≡ Some association
  pub keys : KeyRecord
  pub are : keys_in association.phase ≡ Some keys

-- keys are new: the IKE SA had none, and has these from then on
pub record GetsKeys (old new : Held) (serial : ℕ) : Type 0 where
  pub none : keys_of_serial serial old.associations ≡ None
  pub holds : HoldsKeys new serial

-- a Child SA is new, of an IKE SA that is held and has keys: its pair, with no number sent or taken, has the
-- next serial
pub record HoldsChild (table : Database) (made : MadeChild) (held : Held) (new_table : Database) : Type 0 where
  pub keyed : HoldsKeys held made.ike
  pub pair : Pair
  pub in_order : made.serial ≡ table.next
  pub was_none : pair_at table.pairs made.serial ≡ None
  pub there : pair_at new_table.pairs made.serial ≡ Some pair
  pub unused : IsUnused made.ike pair

-- the trace names the Child SA with this serial
pub record NamesChild (stepped : Stepped) (serial : ℕ) : Type 0 where
  pub made : MadeChild
  pub named : stepped.trace.child ≡ Some made
  pub same : made.serial ≡ serial

-- The trace is right and complete. What was sent under keys has octets, and is of an IKE SA that has them.
-- The keys and the Child SA that are named are new. All that is new is named: keys that an IKE SA did not
-- have, and a pair that was not in the table. A pair that was there may be Deleting now.
pub record IsTraced (old : Held) (table : Database) (stepped : Stepped) (new : Held) (new_table : Database) : Type 0 where
  pub octets : (mark : Mark) → stepped.trace.sent ≡ Some mark → IsSome (octets_in stepped.output)
  pub sent : (mark : Mark) → stepped.trace.sent ≡ Some mark → HoldsKeys new mark.ike
  pub keyed : (ike : ℕ) → stepped.trace.keyed ≡ Some ike → GetsKeys old new ike
  pub child : (made : MadeChild) → stepped.trace.child ≡ Some made → HoldsChild table made new new_table
  pub keys : (serial : ℕ) (keys : KeyRecord) → keys_of_serial serial new.associations ≡ Some keys → (keys_of_serial serial old.associations ≡ Some keys) ⊎ (stepped.trace.keyed ≡ Some serial)
  pub pairs : (serial : ℕ) (pair : Pair) → pair_at new_table.pairs serial ≡ Some pair → (pair_at table.pairs serial ≡ Some pair) ⊎ NamesChild stepped serial ⊎ BecameDeleting table serial pair

-- a half-open IKE SA keeps this response
pub record KeepsFirstReply (held : Held) (octets : Octets) : Type 0 where
  pub place : ℕ
  pub association : Association
  pub there : slice_get held.associations place ≡ Some association
  pub kept : kept_reply association.phase ≡ Some octets

-- the octets are a response of IKE_SA_INIT
pub record IsFirstResponse (octets : Octets) : Type 0 where
  pub message : Message
  pub spelled : SpellsPlainly message octets
  pub exchange : message.header.exchange ≡ IKE_SA_INIT
  pub response : message.header.flags.response ≡ true

-- What is sent in clear: a request of an IKE SA that has no keys yet, the response that a half-open one
-- keeps, or a new response of IKE_SA_INIT. With the last keys are made, or nothing changes (RFC 7296
-- sections 1.2 and 2.6).
abbrev pub IsInClear : Held → Option ℕ → Held → IkeOutput → Type 0
IsInClear old keyed new (Reply octets closed) = IsFirstResponse octets × (closed ≡ None) × ((new ≡ old) ⊎ IsSome keyed)
IsInClear old keyed new (Repeat octets) = KeepsFirstReply old octets
IsInClear old keyed new (Request ike octets) = keys_of_serial ike new.associations ≡ None
IsInClear old keyed new o = ⊥
