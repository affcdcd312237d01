-- The messages of the worked world are spelled so, and seal their payloads; the two that made the Child SA
-- open to these.
use Rattle.std.proofs.Common.{◌∷◌, ℕ, [], arith, refl}
use Rattle.base.specs.Octets.{AreOctets}
use Rattle.wire.specs.Messages.{SpellsHeader, SpellsWith}
use Rattle.wire.specs.declared.message.Header.{Header}
use Rattle.wire.specs.declared.payload.Payload.TheVariants.{Sealed}
use Rattle.laws_two_ends.proofs.SealedLemmas.{sealed_is}
use Rattle.laws_two_ends.specs.WorkedMessages.{bare_octets, header_octets}

-- ---- the payloads, with whatever may stand in reserved octets

module _ (Free : ℕ → Type 0) (free : Free 0) where
  -- the message with this header, whose encrypted payload is empty
  pub bare_is : (exchange flags number : ℕ) (h : Header) → SpellsHeader Free h 46 (header_octets exchange flags number)
      → AreOctets (bare_octets exchange flags number)
      → SpellsWith Free (record { header = h; payloads = Sealed 0 [] ∷ [] }) (bare_octets exchange flags number)
  bare_is exchange flags number h head octets =
      sealed_is Free free 0 (header_octets exchange flags number) [] (0 ∷ 0 ∷ 0 ∷ 4 ∷ []) (bare_octets exchange flags number) h head
      (record { spelled = refl; fits = omega arith }) refl (omega arith) octets
