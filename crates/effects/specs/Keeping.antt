-- What an IKE SA keeps to send again, what it sends, and under which keys (RFC 7296 sections 2.1 and 2.14).
use Rattle.std.specs.Prelude.{◌≡◌, ◌≤◌, ℕ, Option, Some, None, length}
use Rattle.std.specs.FinMap as map
use Rattle.base.specs.Octets.{Octets}
use Rattle.wire.specs.Numbers.{MESSAGE_LIMIT}
use Rattle.suite.specs.declared.key_record.KeyRecord.{KeyRecord}
use Rattle.association.specs.Phases.{keys_in}
use Rattle.association.specs.declared.phase.Association.{Association}
use Rattle.association.specs.declared.phase.Phase.{Phase}
use Rattle.association.specs.declared.phase.Phase.TheVariants as phase
use Rattle.association.specs.declared.phase.Request.{Request}
use Rattle.effects.specs.declared.taking.Effect.{Effect}
use Rattle.effects.specs.declared.taking.Effect.TheVariants as effect
use Rattle.association.specs.Outcomes.{made_by}

-- a message can have so many octets
abbrev pub IsShort : Octets → Type 0
IsShort octets = length octets ≤ MESSAGE_LIMIT

-- the response that a half-open IKE SA keeps
abbrev pub kept_reply : Phase → Option Octets
kept_reply (phase.HalfOpen opened) = Some opened.reply
kept_reply _ = None

-- all that can be sent again is short: the cached responses, the outstanding requests, and the response to
-- IKE_SA_INIT
pub record KeepsShort (a : Association) : Type 0 where
  pub replies : (number : ℕ) (reply : Octets) → map.get a.incoming.kept number ≡ Some reply → IsShort reply
  pub requests : (number : ℕ) (request : Request) → map.get a.outgoing.outstanding number ≡ Some request → IsShort request.octets
  pub first : (reply : Octets) → kept_reply a.phase ≡ Some reply → IsShort reply

-- the octets that an effect sends
abbrev pub octets_of_effect : Effect → Option Octets
octets_of_effect (effect.Refused fault) = None
octets_of_effect (effect.Repeated octets) = Some octets
octets_of_effect (effect.Replied answered) = Some answered.octets
octets_of_effect (effect.Again octets) = Some octets
octets_of_effect (effect.AsksAuth octets) = Some octets
octets_of_effect (effect.Counted ended) = None

-- the serial of the Child SA that was made
abbrev pub child_in : Effect → Option ℕ
child_in (effect.Refused fault) = None
child_in (effect.Repeated octets) = None
child_in (effect.Replied answered) = made_by answered.fate
child_in (effect.Again octets) = None
child_in (effect.AsksAuth octets) = None
child_in (effect.Counted ended) = made_by ended.fate

-- both ends have come to keys
pub record HasKeys (p : Phase) : Type 0 where
  pub keys : KeyRecord
  pub are : keys_in p ≡ Some keys

-- what is sent under an IKE SA's keys supposes that it has them
abbrev pub KeyedBy : Effect → Phase → Type 0
KeyedBy (effect.Refused fault) p = Unit {0}
KeyedBy (effect.Repeated octets) p = HasKeys p
KeyedBy (effect.Replied answered) p = HasKeys p
KeyedBy (effect.Again octets) p = Unit {0}
KeyedBy (effect.AsksAuth octets) p = HasKeys p
KeyedBy (effect.Counted ended) p = HasKeys p
