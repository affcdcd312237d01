-- Octets spell one list of payloads.
use Rattle.std.proofs.Common.{◌≡◌, ℕ, List, Option, Some, None, refl, ap}
use Rattle.base.specs.Octets.{Octets}
use Rattle.wire.specs.Payloads.{SpellsChain}
use Rattle.wire.specs.declared.payload.Payload.{Payload}
use Rattle.exchange.specs.declared.sealed.Plain.{Plain}
use Rattle.exchange.specs.Chains.{IsRead}

-- what the law of the format says
abbrev pub OneChain : Type 0
OneChain = (first : ℕ) (ps qs : List Payload) (b : Octets) → SpellsChain first ps b → SpellsChain first qs b → ps ≡ qs

pub one_read : OneChain → (plain : Plain) (p q : Option (List Payload)) → IsRead plain p → IsRead plain q → p ≡ q
one_read law plain None None is also = refl
one_read law plain None (Some qs) is also = absurd (is qs also)
one_read law plain (Some ps) None is also = absurd (also ps is)
one_read law plain (Some ps) (Some qs) is also = ap (λ (x : List Payload). Some x) (law plain.first ps qs plain.octets is also)
