-- What goes out at a step of a world, and that it is stored.
use Rattle.std.specs.Prelude.{◌≡◌, List, Contains}
use Rattle.base.specs.Octets.{Octets}
use Rattle.moments.specs.declared.resent.Resent.{Resent}
use Rattle.gateway.specs.Outputs.{OutputView, Repeat, Reply, Request, Sealed, Ticked}
use Rattle.gateway.specs.Worlds.{datagram_of, Stored}
use Rattle.gateway.specs.declared.world.stored.End.{End}
use Rattle.gateway.specs.declared.world.stored.Protection.{Protection}

-- one of these requests goes out again, with these octets
pub record IsAmong (requests : List Resent) (octets : Octets) : Type 0 where
  pub request : Resent
  pub there : Contains requests request
  pub is : request.octets ≡ octets

-- the output tells these octets to be sent, by themselves or as one of the requests that go out again
abbrev pub GoesOut : OutputView → Octets → Type 0
GoesOut (Reply octets closed) sent = octets ≡ sent
GoesOut (Repeat octets) sent = octets ≡ sent
GoesOut (Request serial octets) sent = octets ≡ sent
GoesOut (Sealed child number octets) sent = octets ≡ sent
GoesOut (Ticked requests closed) sent = IsAmong requests sent
GoesOut said sent = ⊥

-- these octets are stored as sent by this end, under whatever mark
pub record IsStoredAsSent (end : End) (octets : Octets) (stored : Stored) : Type 0 where
  pub mark : Protection
  pub there : Contains stored.sent (datagram_of end mark octets)
