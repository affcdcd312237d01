-- What a message is to the IKE SA that it is for (RFC 7296 sections 2.1 to 2.3 and 3.14): by its Message ID,
-- its exchange, the phase, and what it opens to.
use Rattle.std.specs.Prelude.{◌≡◌, ◌==◌, ◌≢◌, ◌||◌, ℕ, Bool, true, false, not, Option, Some, None, List, if◌then◌else◌}
use Rattle.std.specs.FinMap as map
use Rattle.base.specs.Octets.{Octets}
use Rattle.wire.specs.Numbers.{CREATE_CHILD_SA, IKE_AUTH, INFORMATIONAL}
use Rattle.wire.specs.declared.message.Header.{Header}
use Rattle.wire.specs.declared.message.Message.{Message}
use Rattle.wire.specs.declared.payload.Payload.{Payload}
use Rattle.suite.specs.declared.key_record.KeyRecord.{KeyRecord}
use Rattle.suite.specs.declared.keys.Keys.{Keys}
use Rattle.exchange.specs.Headers.{keys_of, other_role}
use Rattle.exchange.specs.Sealed.{lone_body, plain_of_message}
use Rattle.exchange.specs.declared.headers.Role.{Role}
use Rattle.exchange.specs.declared.sealed.Plain.{Plain}
use Rattle.requests.specs.Incoming.{IsFreshRequest, IsJudgement}
use Rattle.requests.specs.Numbers.{HasNumber}
use Rattle.requests.specs.Outgoing.{OwnRequests}
use Rattle.requests.specs.declared.incoming.Judgement.{Judgement}
use Rattle.requests.specs.declared.incoming.Judgement.TheVariants as judged
use Rattle.association.specs.Finding.{is_waiting}
use Rattle.association.specs.Phases.{keys_in}
use Rattle.association.specs.Purposes.{exchange_of, SeeksAt}
use Rattle.association.specs.declared.fault.MessageFault.{MessageFault}
use Rattle.association.specs.declared.fault.MessageFault.TheVariants.{NotOpened, Forgotten, OutsideWindow, WrongPhase}
use Rattle.association.specs.declared.phase.Association.{Association}
use Rattle.association.specs.declared.phase.Phase.{Phase}
use Rattle.association.specs.declared.phase.Phase.TheVariants.{InitSent, HalfOpen, Established, Closed}
use Rattle.association.specs.declared.phase.Request.{Request}
use Rattle.association.specs.declared.receiving.Received.{Received}
use Rattle.association.specs.declared.receiving.Received.TheVariants as received

-- what a message is, as plain data
pub data Reception : Type 0 where
  Refused : MessageFault → Reception
  Repeat : Octets → Reception
  TakesEffect : Plain → Reception
  Answers : Plain → Reception
  AnswersInitial : Reception

abbrev pub received_view : Received → Reception
received_view (received.Refused fault) = Refused fault
received_view (received.Repeat reply) = Repeat reply
received_view (received.Request plain) = TakesEffect plain
received_view (received.Response sought plain) = Answers plain
received_view received.InitialResponse = AnswersInitial

-- a response tells what its request asked for
abbrev pub TellsSought : OwnRequests Request → ℕ → Received → Type 0
TellsSought requests number (received.Response sought plain) = SeeksAt requests number sought
TellsSought requests number r = Unit {0}

-- what a cipher opens bodies to, by keys and head
abbrev pub Opening : Type 0
Opening = Keys → Octets → Octets → Option Octets

-- what the peer sealed opens to under these keys, if there are any
abbrev pub opened_under : Opening → Role → Option KeyRecord → Octets → List Payload → Option Plain
opened_under plain_of role None octets payloads = None
opened_under plain_of role (Some keys) octets payloads = plain_of_message plain_of (keys_of (other_role role) keys) octets payloads

abbrev pub opened_by : Opening → Association → Octets → List Payload → Option Plain
opened_by plain_of a octets payloads = opened_under plain_of a.role (keys_in a.phase) octets payloads

-- the exchanges whose requests belong to a phase (section 1)
abbrev pub admits : Phase → ℕ → Bool
admits (HalfOpen opened) exchange = exchange == IKE_AUTH
admits (Established keys) exchange = exchange == CREATE_CHILD_SA || exchange == INFORMATIONAL
admits _ exchange = false

-- a request that was not processed yet, by what it opens to
abbrev pub fresh_reception : Phase → ℕ → Option Plain → Reception
fresh_reception (Closed keys at) exchange plain = Refused WrongPhase
fresh_reception phase exchange None = Refused NotOpened
fresh_reception phase exchange (Some plain) = if admits phase exchange then TakesEffect plain else Refused WrongPhase

-- a request that was processed, and whose response is cached
abbrev pub repeated_reception : Octets → Option Plain → Reception
repeated_reception reply None = Refused NotOpened
repeated_reception reply (Some plain) = Repeat reply

-- a request, by what its Message ID is judged to be
abbrev pub judged_reception : Phase → ℕ → Option Plain → Judgement → Reception
judged_reception phase exchange plain judged.Fresh = fresh_reception phase exchange plain
judged_reception phase exchange plain (judged.Repeat reply) = repeated_reception reply.now plain
judged_reception phase exchange plain judged.Forgotten = Refused Forgotten
judged_reception phase exchange plain judged.Outside = Refused OutsideWindow

pub record IsReceivedRequest (plain_of : Opening) (a : Association) (octets : Octets) (m : Message) (reception : Reception) : Type 0 where
  pub judgement : Judgement
  pub number : IsJudgement a.incoming m.header.id judgement
  pub whole : reception ≡ judged_reception a.phase m.header.exchange (opened_by plain_of a octets m.payloads) judgement

-- the response to a request, whose exchange it has or has not
abbrev pub answering_reception : Phase → Bool → Option Plain → Reception
answering_reception phase false plain = Refused WrongPhase
answering_reception (InitSent sent) true plain = AnswersInitial
answering_reception phase true None = Refused NotOpened
answering_reception phase true (Some plain) = Answers plain

-- a response, by the outstanding request with its Message ID
abbrev pub reception_by : Phase → ℕ → Option Request → Option Plain → Reception
reception_by (Closed keys at) exchange request plain = Refused WrongPhase
reception_by phase exchange None plain = Refused OutsideWindow
reception_by phase exchange (Some request) plain = answering_reception phase (exchange_of request.purpose == exchange) plain

abbrev pub reception_of_response : Opening → Association → Octets → Message → Reception
reception_of_response plain_of a octets m =
    reception_by a.phase m.header.exchange (map.get a.outgoing.outstanding m.header.id) (opened_by plain_of a octets m.payloads)

-- as the flag R says (section 3.1)
abbrev pub IsReceivedBy : Bool → Opening → Association → Octets → Message → Reception → Type 0
IsReceivedBy true plain_of a octets m reception = reception ≡ reception_of_response plain_of a octets m
IsReceivedBy false plain_of a octets m reception = IsReceivedRequest plain_of a octets m reception

abbrev pub IsReceived : Opening → Association → Octets → Message → Reception → Type 0
IsReceived plain_of a octets m reception = IsReceivedBy m.header.flags.response plain_of a octets m reception

abbrev pub is_closed : Phase → Bool
is_closed (Closed keys at) = true
is_closed _ = false

-- the reply to a request depends on what the request opens to
abbrev pub is_undecided_judgement : Phase → Judgement → Bool
is_undecided_judgement phase judged.Fresh = not (is_closed phase)
is_undecided_judgement phase (judged.Repeat reply) = true
is_undecided_judgement phase judged.Forgotten = false
is_undecided_judgement phase judged.Outside = false

pub record IsUndecidedRequest (a : Association) (h : Header) : Type 0 where
  pub judgement : Judgement
  pub number : IsJudgement a.incoming h.id judgement
  pub undecided : is_undecided_judgement a.phase judgement ≡ true

-- so does what a response is, where the outstanding request has its exchange, and is no IKE_SA_INIT
abbrev pub awaits : Phase → ℕ → Option Request → Bool
awaits (InitSent sent) exchange request = false
awaits (Closed keys at) exchange request = false
awaits phase exchange None = false
awaits phase exchange (Some request) = exchange_of request.purpose == exchange

abbrev pub is_undecided_response : Association → Header → Bool
is_undecided_response a h = awaits a.phase h.exchange (map.get a.outgoing.outstanding h.id)

abbrev pub IsUndecidedBy : Bool → Association → Header → Type 0
IsUndecidedBy true a h = is_undecided_response a h ≡ true
IsUndecidedBy false a h = IsUndecidedRequest a h

-- what the message is depends on what it opens to, it has an encrypted payload alone, and there are keys to
-- open it under
pub record IsUndecided (a : Association) (m : Message) : Type 0 where
  pub undecided : IsUndecidedBy m.header.flags.response a m.header
  pub encrypted : lone_body m.payloads ≢ None
  pub keyed : keys_in a.phase ≢ None

-- A request that is processed: its Message ID is not in effect yet and lies in the window, its exchange
-- belongs to the phase, and it opens under the peer's keys.
pub record IsEffective (plain_of : Opening) (a : Association) (octets : Octets) (m : Message) (plain : Plain) : Type 0 where
  pub request : m.header.flags.response ≡ false
  pub fresh : IsFreshRequest a.incoming m.header.id
  pub admitted : admits a.phase m.header.exchange ≡ true
  pub opened : opened_by plain_of a octets m.payloads ≡ Some plain

-- A retransmission: the request was processed, its response is cached, and it opens under the peer's keys.
pub record IsRepeating (plain_of : Opening) (a : Association) (octets : Octets) (m : Message) (reply : Octets) : Type 0 where
  pub request : m.header.flags.response ≡ false
  pub in_effect : HasNumber a.incoming.in_effect m.header.id
  pub kept : map.get a.incoming.kept m.header.id ≡ Some reply
  pub plain : Plain
  pub opened : opened_by plain_of a octets m.payloads ≡ Some plain

-- The response to an outstanding request with its Message ID and its exchange.
pub record IsAwaited (a : Association) (m : Message) : Type 0 where
  pub response : m.header.flags.response ≡ true
  pub open_yet : is_closed a.phase ≡ false
  pub request : Request
  pub outstanding : map.get a.outgoing.outstanding m.header.id ≡ Some request
  pub exchange_is : (exchange_of request.purpose == m.header.exchange) ≡ true

-- one that opens under the peer's keys
pub record IsAnswering (plain_of : Opening) (a : Association) (octets : Octets) (m : Message) (plain : Plain) : Type 0 where
  pub due : IsAwaited a m
  pub opened : opened_by plain_of a octets m.payloads ≡ Some plain

-- that of IKE_SA_INIT, which this end waits for
pub record IsAnsweringInitial (a : Association) (m : Message) : Type 0 where
  pub due : IsAwaited a m
  pub waiting : is_waiting a.phase ≡ true
