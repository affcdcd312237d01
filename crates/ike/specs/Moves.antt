-- What a step does to each IKE SA with keys as moves (events of its Message IDs), which outputs name them,
-- and as what their octets open (RFC 7296 sections 2.1 to 2.4, 3.1 and 3.14).
use Rattle.std.specs.Prelude.{◌≡◌, ◌≤◌, ◌⊎◌, ℕ, Bool, true, false, Option, Some, None, List, [], Contains, length, option_and_then}
use Rattle.std.specs.List.{AllByRecursion}
use Rattle.base.specs.Octets.{AreOctets, Octets}
use Rattle.wire.specs.Messages.{Spells}
use Rattle.wire.specs.Numbers.{IKE_SA_INIT}
use Rattle.wire.specs.declared.message.Message as wire
use Rattle.suite.specs.declared.fresh.Fresh.{Fresh}
use Rattle.suite.specs.declared.key_record.KeyRecord.{KeyRecord}
use Rattle.exchange.specs.Headers.{other_role}
use Rattle.association.specs.Phases.{keys_in}
use Rattle.association.specs.declared.phase.Association.{Association}
use Rattle.moments.specs.declared.resent.Resent.{Resent}
use Rattle.moments.specs.declared.ticking.Ticked.{Ticked}
use Rattle.effects.specs.Moves.{ledger, Close, Count, Issue, KeepsReply, Lead, Ledger, Make, Move, Remove, TakeEffect, WaitsWith}
use Rattle.effects.specs.Openings.{OpensAsMessage, OpensWhatItSeals}
use Rattle.effects.specs.Taking.{Meaning}
use Rattle.ike.specs.Machines.{association_of, Held}
use Rattle.ike.specs.Outputs.{octets_in, reply_mark, request_mark}
use Rattle.ike.specs.Steps.{is_tick, InputView, Message, Order, Secret, Start, Tick}
use Rattle.ike.specs.Requests.{IsInitialDatagram}
use Rattle.ike.specs.declared.output.IkeOutput.{IkeOutput}
use Rattle.ike.specs.declared.output.IkeOutput.TheVariants as output
use Rattle.ike.specs.declared.output.MadeChild.{MadeChild}
use Rattle.ike.specs.declared.output.Mark.{Mark}
use Rattle.ike.specs.declared.output.Stepped.{Stepped}

-- the ledger of the IKE SA with this serial: none where it is not held, or has no keys
abbrev pub ledger_at : Held → ℕ → Option Ledger
ledger_at held serial = option_and_then ledger (association_of serial held.associations)

-- the output says that the IKE SA with this serial is closed
abbrev pub TellsClosed : ℕ → IkeOutput → Type 0
TellsClosed serial (output.Reply octets (Some closed)) = closed ≡ serial
TellsClosed serial (output.Counted ike child (Some closed)) = closed ≡ serial
TellsClosed serial (output.Ticked ticked) = Contains ticked.closed serial
TellsClosed serial o = ⊥

-- a request of the IKE SA with this serial is retransmitted
abbrev pub TellsAgain : ℕ → IkeOutput → Type 0
TellsAgain serial (output.Ticked ticked) = (r : Resent) × Contains ticked.requests r × (r.ike ≡ serial)
TellsAgain serial o = ⊥

-- What names a move: new keys the trace; a request or a response the output, with its Message ID in the
-- trace; and so on. An IKE SA is removed by a `Tick` alone.
abbrev pub Tells : InputView → Stepped → ℕ → Move → Type 0
Tells input stepped serial (Make keys) = (stepped.trace.keyed ≡ Some serial) × (is_tick input ≡ false)
Tells input stepped serial (Issue number octets) = (stepped.output ≡ output.Request serial octets) × (stepped.trace.sent ≡ request_mark serial number)
Tells input stepped serial (Count number) = (child : Option ℕ) × (closed : Option ℕ) × (stepped.output ≡ output.Counted serial child closed)
Tells input stepped serial (TakeEffect number reply) =
    (closed : Option ℕ) × (stepped.output ≡ output.Reply reply closed) × (stepped.trace.sent ≡ reply_mark serial number)
Tells input stepped serial Close = TellsClosed serial stepped.output
Tells input stepped serial Remove = is_tick input ≡ true

-- a response is sent again: it is kept of a request that was processed before, and there is no move beside it
pub record RepeatsReply (moves : List Move) (old : Option Ledger) (said : IkeOutput) (number : ℕ) (octets : Octets) : Type 0 where
  pub kept : KeepsReply old number octets
  pub repeated : said ≡ output.Repeat octets
  pub none : moves ≡ []

-- What is sent under this mark is a request that is issued, a response by which a request is processed, or
-- a response that is sent again.
abbrev pub IsSentBy : List Move → Option Ledger → IkeOutput → Mark → Octets → Type 0
IsSentBy moves old said mark octets =
    ((mark.response ≡ false) × Contains moves (Issue mark.number octets))
    ⊎ ((mark.response ≡ true) × (Contains moves (TakeEffect mark.number octets) ⊎ RepeatsReply moves old said mark.number octets))

-- this end asked for the Child SA, and matches the response; or the peer did, and its request is processed
abbrev pub IsMadeBy : List Move → MadeChild → Type 0
IsMadeBy moves made = ((made.asked ≡ true) × Contains moves (Count made.number)) ⊎ ((made.asked ≡ false) × ((reply : Octets) × Contains moves (TakeEffect made.number reply)))

-- it is held, and has no keys
abbrev pub IsKeyless : Option Association → Type 0
IsKeyless None = ⊥
IsKeyless (Some a) = keys_in a.phase ≡ None

-- These moves are complete: they have all that output and trace say of an IKE SA, as it was before the
-- step. That is what is sent under its keys, new keys, a matched response, a Child SA that is made, and its
-- end unless it has no keys yet. Beside retransmissions there are no moves, and what is retransmitted under
-- keys was outstanding.
pub record SaysNoMore (old : Option Association) (stepped : Stepped) (serial : ℕ) (moves : List Move) : Type 0 where
  pub sent : (mark : Mark) (octets : Octets) → stepped.trace.sent ≡ Some mark → mark.ike ≡ serial → octets_in stepped.output ≡ Some octets
      → IsSentBy moves (option_and_then ledger old) stepped.output mark octets
  pub again : (ticked : Ticked) (r : Resent) → stepped.output ≡ output.Ticked ticked → Contains ticked.requests r → r.ike ≡ serial → r.encrypted ≡ true
      → WaitsWith (option_and_then ledger old) r.number r.octets
  pub none_beside : TellsAgain serial stepped.output → moves ≡ []
  pub keyed : stepped.trace.keyed ≡ Some serial → (keys : KeyRecord) × Contains moves (Make keys)
  pub counted : (child closed : Option ℕ) → stepped.output ≡ output.Counted serial child closed → (number : ℕ) × Contains moves (Count number)
  pub closed : TellsClosed serial stepped.output → IsKeyless old ⊎ Contains moves Close
  -- a Child SA is made with the response that is matched, or with the request that is processed
  pub child : (made : MadeChild) → stepped.trace.child ≡ Some made → made.ike ≡ serial → IsMadeBy moves made

-- What is asked of a cipher: it opens what it seals with 16 fresh octets, as its law says.
abbrev pub OpensFresh : Meaning → InputView → Type 0
OpensFresh meaning (Message from octets fresh) = OpensWhatItSeals meaning.body_of meaning.plain_of fresh.seal
OpensFresh meaning (Start ike place fresh) = OpensWhatItSeals meaning.body_of meaning.plain_of fresh.seal
OpensFresh meaning (Order what fresh) = OpensWhatItSeals meaning.body_of meaning.plain_of fresh.seal
OpensFresh meaning (Secret secret) = Unit {0}
OpensFresh meaning (Tick moment) = Unit {0}

-- the fresh octets are 16, as for every value of their type
pub record HasSeal (fresh : Fresh) : Type 0 where
  pub octets : AreOctets fresh.seal
  pub many : length fresh.seal ≡ 16

abbrev pub HasFresh : InputView → Type 0
HasFresh (Message from octets fresh) = HasSeal fresh
HasFresh (Start ike place fresh) = HasSeal fresh
HasFresh (Order what fresh) = HasSeal fresh
HasFresh (Secret secret) = Unit {0}
HasFresh (Tick moment) = Unit {0}

-- the input is a datagram that opens as this request or response of the IKE SA's peer
abbrev pub Comes : Meaning → InputView → Association → Bool → ℕ → Type 0
Comes meaning (Message from octets fresh) a response number = OpensAsMessage meaning.plain_of a (other_role a.role) response number octets
Comes meaning input a response number = ⊥

-- the same, at this IKE SA as it was before the step
pub record ComesFor (meaning : Meaning) (input : InputView) (old : Held) (serial : ℕ) (response : Bool) (number : ℕ) : Type 0 where
  pub association : Association
  pub there : association_of serial old.associations ≡ Some association
  pub comes : Comes meaning input association response number

-- the octets are a response of IKE_SA_INIT
pub record IsInitialResponse (octets : Octets) : Type 0 where
  pub message : wire.Message
  pub spelled : Spells message octets
  pub response : message.header.flags.response ≡ true
  pub exchange_is : message.header.exchange ≡ IKE_SA_INIT

abbrev pub IsResponseDatagram : InputView → Type 0
IsResponseDatagram (Message from octets fresh) = IsInitialResponse octets
IsResponseDatagram input = ⊥

-- Keys come by a datagram of IKE_SA_INIT: to the initiator by the response, to a new IKE SA by the request.
abbrev pub KeysCome : InputView → Option Association → Type 0
KeysCome input (Some a) = IsResponseDatagram input
KeysCome input None = IsInitialDatagram input

-- what is matched came as the peer's response, what is processed as its request, and keys come by
-- IKE_SA_INIT
abbrev pub MoveComes : Meaning → InputView → Held → ℕ → Move → Type 0
MoveComes meaning input old serial (Make keys) = KeysCome input (association_of serial old.associations)
MoveComes meaning input old serial (Count number) = ComesFor meaning input old serial true number
MoveComes meaning input old serial (TakeEffect number reply) = ComesFor meaning input old serial false number
MoveComes meaning input old serial move = Unit {0}

-- what is issued opens as this end's request
pub record IssuesOpenly (meaning : Meaning) (new : Held) (serial number : ℕ) (octets : Octets) : Type 0 where
  pub association : Association
  pub there : association_of serial new.associations ≡ Some association
  pub opens : OpensAsMessage meaning.plain_of association association.role false number octets

-- a reply opens as this end's response
pub record RepliesOpenly (meaning : Meaning) (old : Held) (serial number : ℕ) (reply : Octets) : Type 0 where
  pub association : Association
  pub there : association_of serial old.associations ≡ Some association
  pub opens : OpensAsMessage meaning.plain_of association association.role true number reply

abbrev pub MoveOpens : Meaning → Held → Held → ℕ → Move → Type 0
MoveOpens meaning old new serial (Issue number octets) = IssuesOpenly meaning new serial number octets
MoveOpens meaning old new serial (TakeEffect number reply) = RepliesOpenly meaning old serial number reply
MoveOpens meaning old new serial move = Unit {0}

-- The moves of one step at the IKE SA with this serial: two at most, which lead from the ledger before to
-- the ledger after. Each is named, and nothing else is. What it takes from the peer came as that message.
-- Where the cipher opens what it seals, what is sent opens as what it is.
pub record MovesAt (meaning : Meaning) (input : InputView) (old : Held) (stepped : Stepped) (new : Held) (serial : ℕ) : Type 0 where
  pub moves : List Move
  pub few : length moves ≤ 2
  pub lead : Lead moves (ledger_at old serial) (ledger_at new serial)
  pub told : AllByRecursion (Tells input stepped serial) moves
  pub no_more : SaysNoMore (association_of serial old.associations) stepped serial moves
  pub came : AllByRecursion (MoveComes meaning input old serial) moves
  pub opened : OpensFresh meaning input → AllByRecursion (MoveOpens meaning old new serial) moves
