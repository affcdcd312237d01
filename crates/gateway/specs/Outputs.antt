-- The outputs as plain data.
use Rattle.std.specs.Prelude.{◌≤◌, ℕ, Option, Some, None, All, List, length, Bool, false}
use Rattle.base.specs.Octets.{Octets}
use Rattle.wire.specs.Numbers.{MESSAGE_LIMIT}
use Rattle.sadb.specs.Database.{pair_at, PairMap}
use Rattle.sadb.specs.declared.pair.Pair.{Pair}
use Rattle.children.specs.Pairs.{HasFewSelectors}
use Rattle.moments.specs.declared.resent.Resent.{Resent}
use Rattle.ike.specs.declared.output.IkeOutput.{IkeOutput}
use Rattle.ike.specs.declared.output.MadeChild.{MadeChild}
use Rattle.ike.specs.declared.output.IkeOutput.TheVariants as ike
use Rattle.traffic.specs.Outcomes as traffic
use Rattle.gateway.specs.Faults.{is_want_of_memory}
use Rattle.gateway.specs.declared.fault.Reason.{Reason}
use Rattle.gateway.specs.declared.fault.Reason.TheVariants as reason
use Rattle.gateway.specs.declared.output.Output.{Output}
use Rattle.gateway.specs.declared.output.Output.TheVariants as output

-- IKE SAs and Child SAs are named by their serials
pub data OutputView : Type 0 where
  -- a response to the peer, and the IKE SA that its request closed
  Reply : Octets → Option ℕ → OutputView
  Repeat : Octets → OutputView
  Request : (ike : ℕ) → Octets → OutputView
  -- a response under this IKE SA was matched; the Child SA that it made, and the IKE SA that it closed
  Counted : (ike : ℕ) → Option ℕ → Option ℕ → OutputView
  -- the requests to retransmit, and the IKE SAs that were closed
  Ticked : List Resent → List ℕ → OutputView
  Done : OutputView
  Up : (child number : ℕ) → Octets → OutputView
  Dummy : (child number : ℕ) → OutputView
  Sealed : (child number : ℕ) → Octets → OutputView
  Clear : Octets → OutputView
  Discarded : OutputView
  Dropped : Reason → OutputView
  Refused : Reason → OutputView

abbrev pub output_view : Output → OutputView
output_view (output.Reply octets closed) = Reply octets closed
output_view (output.Repeat octets) = Repeat octets
output_view (output.Request serial octets) = Request serial octets
output_view (output.Counted serial child closed) = Counted serial child closed
output_view (output.Ticked requests closed) = Ticked requests closed
output_view output.Done = Done
output_view (output.Up child number packet) = Up child number packet.now
output_view (output.Dummy child number) = Dummy child number
output_view (output.Sealed child number octets) = Sealed child number octets
output_view (output.Clear packet) = Clear packet.now
output_view output.Discarded = Discarded
output_view (output.Dropped why) = Dropped why
output_view (output.Refused why) = Refused why

-- an output of the IKE machine
abbrev pub view_of_ike : IkeOutput → OutputView
view_of_ike (ike.Reply octets closed) = Reply octets closed
view_of_ike (ike.Repeat octets) = Repeat octets
view_of_ike (ike.Request serial octets) = Request serial octets
view_of_ike (ike.Counted serial child closed) = Counted serial child closed
view_of_ike (ike.Ticked ticked) = Ticked ticked.requests ticked.closed
view_of_ike ike.Done = Done
view_of_ike (ike.Dropped fault) = Dropped (reason.Ike fault)

-- the output for a packet
abbrev pub view_of_outcome : traffic.Outcome → OutputView
view_of_outcome (traffic.Up child number packet) = Up child number packet
view_of_outcome (traffic.Dummy child number) = Dummy child number
view_of_outcome (traffic.Sealed child number octets) = Sealed child number octets
view_of_outcome (traffic.Clear packet) = Clear packet
view_of_outcome traffic.Discarded = Discarded
view_of_outcome (traffic.Dropped fault) = Dropped (reason.Packet fault)

-- the output for a datagram of IKE that is dropped, or that is a retransmission
abbrev pub IsQuiet : OutputView → Type 0
IsQuiet (Dropped why) = Unit {0}
IsQuiet (Repeat octets) = Unit {0}
IsQuiet _ = ⊥

-- the longest datagram: the longest ESP packet, since messages of IKE are shorter (a limit of this
-- implementation)
abbrev pub DATAGRAM_LIMIT : ℕ
DATAGRAM_LIMIT = 16664

-- what is sent fits that limit
abbrev pub FitsDatagram : OutputView → Type 0
FitsDatagram (Reply octets closed) = length octets ≤ DATAGRAM_LIMIT
FitsDatagram (Repeat octets) = length octets ≤ DATAGRAM_LIMIT
FitsDatagram (Request serial octets) = length octets ≤ DATAGRAM_LIMIT
FitsDatagram (Sealed child number octets) = length octets ≤ DATAGRAM_LIMIT
FitsDatagram (Counted serial child closed) = Unit {0}
FitsDatagram (Ticked requests closed) = All (λ r. length r.octets ≤ MESSAGE_LIMIT) requests
FitsDatagram Done = Unit {0}
FitsDatagram (Up child number packet) = Unit {0}
FitsDatagram (Dummy child number) = Unit {0}
FitsDatagram (Clear packet) = Unit {0}
FitsDatagram Discarded = Unit {0}
FitsDatagram (Dropped why) = Unit {0}
FitsDatagram (Refused why) = Unit {0}

-- at most so many requests are retransmitted
abbrev pub FewAgain : OutputView → ℕ → Type 0
FewAgain (Ticked requests closed) most = length requests ≤ most
FewAgain _ most = Unit {0}

-- the input was refused on allocation failure
abbrev pub wants_memory : OutputView → Bool
wants_memory (Refused why) = is_want_of_memory why
wants_memory _ = false

-- at most as many selectors on either side as a payload may carry
abbrev pub FewSelectors : Option Pair → Type 0
FewSelectors None = Unit {0}
FewSelectors (Some pair) = HasFewSelectors pair

-- the Child SA that is made has few enough selectors on either side
abbrev pub FitsChild : Option MadeChild → PairMap → Type 0
FitsChild None pairs = Unit {0}
FitsChild (Some made) pairs = FewSelectors (pair_at pairs made.serial)
