-- The peer's requests over one step: which datagram puts one into effect, and what is sent by it (RFC 7296
-- sections 2.1 to 2.3).
use Rattle.std.specs.Prelude.{◌≡◌, ℕ, true, Option, Some, None, max}
use Rattle.std.specs.FinMap as map
use Rattle.base.specs.Octets.{Octets}
use Rattle.exchange.specs.declared.headers.Role.{Role}
use Rattle.exchange.specs.declared.headers.Role.TheVariants.{Initiator, Responder}
use Rattle.requests.specs.Incoming.{after_number_0, no_requests, PeerRequests}
use Rattle.requests.specs.Numbers.{HasNumber, LacksNumber}
use Rattle.sadb.specs.Database.{Database}
use Rattle.association.specs.declared.phase.Association.{Association}
use Rattle.association.specs.declared.phase.HalfOpen.{HalfOpen}
use Rattle.association.specs.declared.phase.Phase.TheVariants as phase
use Rattle.moments.specs.Due.{is_over}
use Rattle.effects.specs.Requests.{IsNew, OpensAs}
use Rattle.effects.specs.Taking.{Meaning}
use Rattle.ike.specs.Machines.{association_of, Held, Machine}
use Rattle.ike.specs.Receiving.{IsInitialRequest}
use Rattle.ike.specs.Steps.{InputView, Message as Datagram, Tick}
use Rattle.ike.specs.declared.output.IkeOutput.{IkeOutput}
use Rattle.ike.specs.declared.output.IkeOutput.TheVariants.{Reply}
use Rattle.ike.specs.declared.output.Stepped.{Stepped}

-- an IKE SA is held before a step and after it, under this serial
pub record IsHeldThrough (serial : ℕ) (old new : Held) (a b : Association) : Type 0 where
  pub before : association_of serial old.associations ≡ Some a
  pub after : association_of serial new.associations ≡ Some b

-- a request of the peer with this Message ID comes into effect
pub record ComesIntoEffect (number : ℕ) (a b : Association) : Type 0 where
  pub before : LacksNumber a.incoming.in_effect number
  pub after : HasNumber b.incoming.in_effect number

-- the input is a datagram that opens as this request of the IKE SA, of whatever exchange
abbrev pub OpensAsRequest : Meaning → InputView → Association → ℕ → Type 0
OpensAsRequest meaning (Datagram from octets fresh) a number = (exchange : ℕ) × OpensAs meaning.plain_of a octets exchange number
OpensAsRequest meaning input a number = ⊥

-- it is a new one, which is processed if it comes
abbrev pub IsNewRequest : Meaning → InputView → Association → ℕ → Type 0
IsNewRequest meaning (Datagram from octets fresh) a number = IsNew meaning.plain_of a octets number
IsNewRequest meaning input a number = ⊥

-- the input is a datagram of these octets
abbrev pub IsOfOctets : InputView → Octets → Type 0
IsOfOctets (Datagram from octets fresh) other = octets ≡ other
IsOfOctets input other = ⊥

-- a request is answered for the first time, and its response is kept
pub record IsAnswered (stepped : Stepped) (number : ℕ) (b : Association) : Type 0 where
  pub reply : Octets
  pub closed : Option ℕ
  pub said : stepped.output ≡ Reply reply closed
  pub kept : map.get b.incoming.kept number ≡ Some reply

-- the IKE SA with this serial is held, with this request in effect
pub record HoldsInEffect (new : Held) (serial number : ℕ) : Type 0 where
  pub association : Association
  pub there : association_of serial new.associations ≡ Some association
  pub in_effect : HasNumber association.incoming.in_effect number

-- the step has this output, and changes nothing
pub record OnlySays (output : IkeOutput) (old : Machine) (table : Database) (stepped : Stepped) (new : Machine) (new_table : Database) : Type 0 where
  pub said : stepped.output ≡ output
  pub machine : new ≡ old
  pub pairs : new_table ≡ table

-- an IKE SA became half open, by the request and with the response that it remembers
pub record IsAdmitted (input : InputView) (opened : HalfOpen) (stepped : Stepped) : Type 0 where
  pub request : IsOfOctets input opened.request
  pub said : stepped.output ≡ Reply opened.reply None

-- at some IKE SA some request was processed at this step
pub record PutsOneIntoEffect (old new : Held) : Type 0 where
  pub serial : ℕ
  pub number : ℕ
  pub before : Association
  pub after : Association
  pub held : IsHeldThrough serial old new before after
  pub comes : ComesIntoEffect number before after

-- the input is a datagram that is a request of IKE_SA_INIT
abbrev pub IsInitialDatagram : InputView → Type 0
IsInitialDatagram (Datagram from octets fresh) = IsInitialRequest octets
IsInitialDatagram input = ⊥

-- the response is kept of a request in effect, which is retransmitted
pub record IsReplyKept (meaning : Meaning) (input : InputView) (old : Held) (reply : Octets) : Type 0 where
  pub serial : ℕ
  pub number : ℕ
  pub association : Association
  pub there : association_of serial old.associations ≡ Some association
  pub kept : map.get association.incoming.kept number ≡ Some reply
  pub opens : OpensAsRequest meaning input association number

-- or of the request of IKE_SA_INIT that made a half-open IKE SA, and is retransmitted
pub record IsFirstReplyKept (input : InputView) (old : Held) (reply : Octets) : Type 0 where
  pub serial : ℕ
  pub association : Association
  pub there : association_of serial old.associations ≡ Some association
  pub opened : HalfOpen
  pub half_open : association.phase ≡ phase.HalfOpen opened
  pub same : opened.reply ≡ reply
  pub request : IsOfOctets input opened.request

-- a `Tick` removes an IKE SA that expires
abbrev pub IsGivenUp : InputView → Machine → Association → Type 0
IsGivenUp (Tick moment) old a = is_over (max old.moment moment) a.phase ≡ true
IsGivenUp input old a = ⊥

-- the peer's requests as an IKE SA begins: at the responder that of IKE_SA_INIT is in effect
abbrev pub first_requests : Role → PeerRequests
first_requests Initiator = no_requests
first_requests Responder = after_number_0
