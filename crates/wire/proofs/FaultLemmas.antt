-- The faults of payloads have an offset.
use Rattle.std.proofs.Common.{ℕ, Bool, true, false, cond, eqb, List, sym, subst, inl, inr}
use Rattle.std.specs.Prelude.{◌||◌}
use Rattle.wire.specs.Payloads.{type_of}
use Rattle.wire.specs.Refusals.{fault_of_type, fault_in, IsChainFault}
use Rattle.wire.specs.declared.payload.Payload.{Payload}
use Rattle.wire.specs.declared.payload.Payload.TheVariants as payloads
use Rattle.wire.specs.declared.fault.WireFault.{WireFault}
use Rattle.wire.specs.declared.fault.WireFault.TheVariants as faults

-- a fault with an offset
abbrev pub InPayload : WireFault → Type 0
InPayload faults.Short = ⊥
InPayload faults.BadLength = ⊥
InPayload faults.BadVersion = ⊥
InPayload faults.TooLong = ⊥
InPayload faults.Memory = ⊥
InPayload f = Unit {0}

either_in : (b : Bool) (f g : WireFault) → InPayload f → InPayload g → InPayload (cond b f g)
either_in true f g one other = one
either_in false f g one other = other

type_in_payload : (kind n : ℕ) → InPayload (fault_of_type kind n)
type_in_payload kind n =
    either_in (eqb kind 33) _ _ tt
    (either_in (eqb kind 44 || eqb kind 45) _ _ tt
    (either_in (eqb kind 40) _ _ tt
    (either_in (eqb kind 34 || eqb kind 35 || eqb kind 36 || eqb kind 39 || eqb kind 41 || eqb kind 42) _ _ tt tt)))

pub fault_in_payload : (p : Payload) (n : ℕ) → InPayload (fault_in p n)
fault_in_payload (payloads.Unknown x y z) n = tt
fault_in_payload (payloads.Sa x) n = type_in_payload 33 n
fault_in_payload (payloads.Ke x y) n = type_in_payload 34 n
fault_in_payload (payloads.IdI x y) n = type_in_payload 35 n
fault_in_payload (payloads.IdR x y) n = type_in_payload 36 n
fault_in_payload (payloads.Auth x y) n = type_in_payload 39 n
fault_in_payload (payloads.Nonce x) n = type_in_payload 40 n
fault_in_payload (payloads.Notify x y z w) n = type_in_payload 41 n
fault_in_payload (payloads.Delete x y) n = type_in_payload 42 n
fault_in_payload (payloads.TsI x) n = type_in_payload 44 n
fault_in_payload (payloads.TsR x) n = type_in_payload 45 n
fault_in_payload (payloads.Sealed x y) n = type_in_payload 46 n
fault_in_payload (payloads.Skipped x y) n = type_in_payload (type_of (payloads.Skipped x y)) n

-- so has that of a chain
pub chain_in_payload : (encrypted : Bool) (start first : ℕ) (x : List ℕ) (f : WireFault) → IsChainFault encrypted start first x f → InPayload f
chain_in_payload encrypted start first x f c = elim c.here [
  | inl broken ↦ subst InPayload (sym broken.1) tt
  | inr bad ↦ subst InPayload (sym bad.2) (type_in_payload c.kind _)
]
