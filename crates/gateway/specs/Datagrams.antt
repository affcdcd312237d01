-- The datagrams that an output says to send.
use Rattle.std.specs.Prelude.{Option, Some, None, List, [], ◌∷◌, ◌++◌, map}
use Rattle.std.specs.Option.{option_to_list}
use Rattle.base.specs.Octets.{Octets}
use Rattle.moments.specs.declared.resent.Resent.{Resent}
use Rattle.gateway.specs.Outputs as output
use Rattle.gateway.specs.declared.fault.Reason.{Reason}
use Rattle.gateway.specs.declared.transmit.Datagrams.{Datagrams}
use Rattle.gateway.specs.declared.transmit.Transmit as declared
use Rattle.gateway.specs.declared.transmit.Transmit.TheVariants as transmit

-- a message of IKE, or an ESP packet, as plain data
pub data TransmitView : Type 0 where
  Ike : Octets → TransmitView
  Esp : Octets → TransmitView

abbrev pub transmit_view : declared.Transmit → TransmitView
transmit_view (transmit.Ike octets) = Ike octets.now
transmit_view (transmit.Esp octets) = Esp octets.now

-- a request that is retransmitted
abbrev pub again : Resent → TransmitView
again request = Ike request.octets

-- the datagrams of an output, in the order in which they are to be sent
abbrev pub datagrams_of : output.OutputView → List TransmitView
datagrams_of (output.Reply octets closed) = Ike octets ∷ []
datagrams_of (output.Repeat octets) = Ike octets ∷ []
datagrams_of (output.Request ike octets) = Ike octets ∷ []
datagrams_of (output.Counted ike child closed) = []
datagrams_of (output.Ticked requests closed) = map again requests
datagrams_of output.Done = []
datagrams_of (output.Up child number packet) = []
datagrams_of (output.Dummy child number) = []
datagrams_of (output.Sealed child number octets) = Esp octets ∷ []
datagrams_of (output.Clear packet) = []
datagrams_of output.Discarded = []
datagrams_of (output.Dropped why) = []
datagrams_of (output.Refused why) = []

-- what the iterator yields from here on
abbrev pub datagrams_left : Datagrams → List TransmitView
datagrams_left left = map transmit_view (option_to_list left.first) ++ map again left.again.now

-- why the input was dropped or refused
abbrev pub reason_of : output.OutputView → Option Reason
reason_of (output.Dropped why) = Some why
reason_of (output.Refused why) = Some why
reason_of _ = None
