-- A message that the peer sealed opens again, to the payloads that were sealed, and to no others.
use Rattle.std.proofs.Common.{◌≡◌, ℕ, List, Option, Some, None, length, ap}
use Rattle.std.specs.List.{AllByRecursion}
use Rattle.base.specs.Octets.{AreOctets, Octets}
use Rattle.wire.specs.Payloads.{IsClear, SpellsChain}
use Rattle.wire.specs.declared.message.Message.{Message}
use Rattle.wire.specs.declared.payload.Payload.{Payload}
use Rattle.suite.specs.Sealing.{AreKeys}
use Rattle.suite.specs.declared.keys.Keys.{Keys}
use Rattle.exchange.specs.Chains.{IsRead}
use Rattle.exchange.specs.Sealed.{IsSealed, OpensAgain}
use Rattle.exchange.specs.declared.sealed.Plain.{Plain}

-- the laws of the crates below that this goes by
abbrev pub OneChain : Type 0
OneChain = (first : ℕ) (ps qs : List Payload) (b : Octets) → SpellsChain first ps b → SpellsChain first qs b → ps ≡ qs

abbrev pub OpensWhatIsSealed : (Keys → Octets → Octets → Octets → Octets) → (Keys → Octets → Octets → Option Octets) → Type 0
OpensWhatIsSealed body_of plain_of = (keys : Keys) (fresh : Octets) (m : Message) (b : Octets) → AreKeys keys → AreOctets fresh → length fresh ≡ 16
    → AllByRecursion IsClear m.payloads → IsSealed body_of keys fresh m b → OpensAgain plain_of keys m b

-- what is read is what was sealed
pub read_is : OneChain → (plain : Plain) (ps : List Payload) (read : Option (List Payload)) → SpellsChain plain.first ps plain.octets → IsRead plain read → read ≡ Some ps
read_is one_chain plain ps None chain is = absurd (is ps chain)
read_is one_chain plain ps (Some qs) chain is = ap (λ (x : List Payload). Some x) (one_chain plain.first qs ps plain.octets is chain)
