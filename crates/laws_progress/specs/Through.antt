-- A packet's whole way, from where it is given to go out to where it goes up (RFC 4301 sections 5.1 and
-- 5.2).
use Rattle.std.specs.Prelude.{◌≡◌, ◌↔◌, ◌+◌, ℕ, List, Some, slice_get}
use Rattle.base.specs.Octets.{Octets}
use Rattle.sadb.specs.Mirrors.{Mirrors}
use Rattle.sadb.specs.declared.pair.Pair.{Pair}
use Rattle.gateway.specs.Outputs.{Up}
use Rattle.gateway.specs.WorldHistories.{Happening}
use Rattle.gateway.specs.Worlds.{WorldState}
use Rattle.laws_progress.specs.Delivering.{ComesTo, IsSealedBy}
use Rattle.laws_progress.specs.InOrder.{ComesInTime}

-- This pair sealed the packet at this step, as its next number. Wherever the octets come to a pair that
-- mirrors it the packet goes up, exactly if it comes in time there.
pub record GoesThrough {C : Type 0} (old : WorldState C) (happenings : List (Happening C)) (pair : Pair) (packet : Octets) (h : Happening C) : Type 0 where
  pub octets : Octets
  pub sealed : IsSealedBy pair pair.serial (pair.outbound.last + 1) packet octets h
  pub goes_up : (place : ℕ) (mirror : Pair) (g : Happening C) → slice_get happenings place ≡ Some g → Mirrors pair mirror → ComesTo mirror octets g
      → (g.said ≡ Up mirror.serial (pair.outbound.last + 1) packet) ↔ ComesInTime g.event.end old happenings place mirror (pair.outbound.last + 1)
