-- What goes up had been sealed before it came, and what is assumed of a history up to that step (RFC 7296
-- section 3.14; RFC 4301 sections 5.1 and 5.2; RFC 4303 sections 3.3 and 3.4).
use Rattle.std.specs.Prelude.{◌≡◌, ◌≤◌, ℕ, Bool, Contains, List, Some, slice_get}
use Rattle.base.specs.Octets.{Octets}
use Rattle.suite.specs.declared.key_record.KeyRecord.{KeyRecord}
use Rattle.effects.specs.Taking.{Meaning}
use Rattle.gateway.specs.WorldHistories.{Happening}
use Rattle.gateway.specs.WorldPackets.{HasOneSender, HasSentPacket, IsJudgedAt}
use Rattle.gateway.specs.WorldParties.{HasSent, IsNeverMadeTwice}
use Rattle.gateway.specs.WorldPromises.{ComesUnder}
use Rattle.gateway.specs.Worlds.{other_end}
use Rattle.gateway.specs.declared.world.stored.Child.{Child}

-- What opened under these keys at a step up to this place, the other end had sent before that step. So it had
-- each packet that was accepted of the Child SA, under the child's inbound SPI and key, with its number. The
-- Child SA was made under these keys before this step. By then neither end came to them twice, and no other
-- Child SA of the other end sends under that SPI and key.
pub record IsUnforgedUpTo {C : Type 0} (meaning_of : C → Meaning) (keys : KeyRecord) (child : Child) (happenings : List (Happening C)) (place : ℕ) (h : Happening C) : Type 0 where
  pub messages : (early : ℕ) (g : Happening C) (response : Bool) (number : ℕ) (octets : Octets) → early ≤ place → slice_get happenings early ≡ Some g
      → ComesUnder meaning_of keys response number octets g → HasSent (other_end g.event.end) keys response number octets g.before.stored
  pub packets : (early number : ℕ) (octets : Octets) (g : Happening C) → early ≤ place → slice_get happenings early ≡ Some g
      → IsJudgedAt child number octets g → HasSentPacket (other_end child.end) child.inbound.spi child.inbound.key number octets g.before.stored
  pub made : Contains h.before.stored.children child
  pub keyed : child.keys ≡ keys
  pub once : IsNeverMadeTwice keys h.after.stored
  pub one_sender : HasOneSender child h.after.stored
