-- A request that is lost in a world, and its copy that arrives (RFC 7296 sections 2.1 to 2.3).
use Rattle.std.specs.Prelude.{◌≡◌, ◌++◌, ◌∷◌, ℕ, List, Some, slice_get}
use Rattle.base.specs.Octets.{Octets}
use Rattle.association.specs.Phases.{IsEstablished}
use Rattle.association.specs.declared.phase.Association.{Association}
use Rattle.association.specs.declared.phase.Request.{Request}
use Rattle.gateway.specs.Requests.{for_ike, AnswersBy, IsDatagram, TakesEffect}
use Rattle.gateway.specs.States.{association_in}
use Rattle.gateway.specs.WorldHistories.{passage_at, passages_at, Happening}
use Rattle.gateway.specs.Worlds.{gateway_at, other_end}
use Rattle.gateway.specs.declared.world.stored.End.{End}
use Rattle.laws_recovery.specs.Copies.{AreEndsOfOne, GoesOutFirst}
use Rattle.laws_recovery.specs.Waiting.{GoesOutAgain, WaitsBefore, WaitsThroughout}

-- In what took place a request went out at this end for the first time, under an established IKE SA. It
-- waited there throughout, and went out again. Later these octets arrive at the other end, where the IKE
-- SA's other end stands under this other serial. Whatever else took place is left open.
pub record CopyArrives {C : Type 0} (end : End) (serial other number : ℕ) (b : Association) (happenings : List (Happening C)) (arriving : Happening C) : Type 0 where
  pub before : List (Happening C)
  pub asking : Happening C
  pub between : List (Happening C)
  pub repeating : Happening C
  pub since : List (Happening C)
  pub after : List (Happening C)
  pub all : happenings ≡ before ++ (asking ∷ (between ++ (repeating ∷ (since ++ (arriving ∷ after)))))
  pub asks_here : asking.event.end ≡ end
  pub repeats_here : repeating.event.end ≡ end
  pub arrives_there : arriving.event.end ≡ other_end end
  pub request : Request
  pub first : GoesOutFirst serial number request (passage_at end asking)
  pub through : WaitsThroughout serial number (passages_at end between)
  pub waiting : Request
  pub waits : WaitsBefore serial number waiting (passage_at end repeating)
  pub again : GoesOutAgain serial number waiting (passage_at end repeating)
  pub datagram : IsDatagram (for_ike arriving.event.input) waiting.octets
  pub a : Association
  pub its : association_in (gateway_at end asking.before) serial ≡ Some a
  pub stands : association_in (gateway_at (other_end end) arriving.before) other ≡ Some b
  pub ends : AreEndsOfOne a b

-- at an earlier event the request was processed at this end, and answered so
pub record WasTaken {C : Type 0} (end : End) (serial number : ℕ) (reply : Octets) (happenings : List (Happening C)) (arriving : Happening C) : Type 0 where
  pub before : List (Happening C)
  pub taking : Happening C
  pub since : List (Happening C)
  pub after : List (Happening C)
  pub all : happenings ≡ before ++ (taking ∷ (since ++ (arriving ∷ after)))
  pub takes_here : taking.event.end ≡ end
  pub takes : TakesEffect serial number (passage_at end taking)
  pub answers : AnswersBy (passage_at end taking) reply

-- In what took place a request went out at this end, under an established IKE SA, and waited there
-- throughout. At some event its octets came to the other end, which was established and answered so, and that
-- response arrives while the request waits.
pub record ResponseArrives {C : Type 0} (end : End) (serial number : ℕ) (happenings : List (Happening C)) (arriving : Happening C) : Type 0 where
  pub before : List (Happening C)
  pub asking : Happening C
  pub between : List (Happening C)
  pub after : List (Happening C)
  pub all : happenings ≡ before ++ (asking ∷ (between ++ (arriving ∷ after)))
  pub asks_here : asking.event.end ≡ end
  pub arrives_here : arriving.event.end ≡ end
  pub request : Request
  pub first : GoesOutFirst serial number request (passage_at end asking)
  pub through : WaitsThroughout serial number (passages_at end between)
  pub waiting : Request
  pub waits : WaitsBefore serial number waiting (passage_at end arriving)
  pub a : Association
  pub its : association_in (gateway_at end asking.before) serial ≡ Some a
  pub place : ℕ
  pub taking : Happening C
  pub among : slice_get happenings place ≡ Some taking
  pub takes_there : taking.event.end ≡ other_end end
  pub other : ℕ
  pub b : Association
  pub stands : association_in (gateway_at (other_end end) taking.before) other ≡ Some b
  pub ends : AreEndsOfOne a b
  pub established : IsEstablished b.phase
  pub taken : IsDatagram (for_ike taking.event.input) waiting.octets
  pub reply : Octets
  pub answers : AnswersBy (passage_at (other_end end) taking) reply
  pub datagram : IsDatagram (for_ike arriving.event.input) reply
  pub d : Association
  pub held : association_in (gateway_at end arriving.before) serial ≡ Some d
  pub ends_then : AreEndsOfOne d b
