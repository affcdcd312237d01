-- The keys of an IKE SA are keys: the material has 224 octets, and each key 32 of them.
use Rattle.std.proofs.Common.{◌≡◌, ℕ, zero, suc, ◌≤◌, ◌+◌, ◌*◌, List, [], ◌∷◌, length, take, drop, arith}
use Rattle.std.proofs.lemmas.List.{length-drop, length-take-le}
use Rattle.base.specs.Octets.{AreOctets}
use Rattle.base.proofs.OctetLemmas.{octets_drop}
use Rattle.mac.specs.KeyMaterial.{prf_plus}
use Rattle.suite.specs.Keys.{ike_keys, ike_material, initiator_keys, key_at, responder_keys}
use Rattle.suite.specs.Sealing.{AreKeys}

-- what the law of the keyed hash says of key material
pub record IsMaterial : Type 0 where
  pub long : (key seed : List ℕ) (count : ℕ) → count ≤ 8160 → length (prf_plus key seed count) ≡ count
  pub octets : (key seed : List ℕ) (count : ℕ) → AreOctets (prf_plus key seed count)

material_long : IsMaterial → (shared ni nr : List ℕ) (spi_i spi_r : ℕ) → length (ike_material shared ni nr spi_i spi_r) ≡ 224
unfolding ike_material
material_long is shared ni nr spi_i spi_r = is.long _ _ 224 (omega arith)

material_octets : IsMaterial → (shared ni nr : List ℕ) (spi_i spi_r : ℕ) → AreOctets (ike_material shared ni nr spi_i spi_r)
unfolding ike_material
material_octets is shared ni nr spi_i spi_r = is.octets _ _ 224

octets_take : (n : ℕ) (xs : List ℕ) → AreOctets xs → AreOctets (take n xs)
octets_take zero xs fits = tt
octets_take (suc n) [] fits = tt
octets_take (suc n) (x ∷ xs) fits = (fits.0, octets_take n xs fits.1)

key_long : (place : ℕ) (material : List ℕ) → 32 * place + 32 ≤ length material → length (key_at place material) ≡ 32
key_long place material enough = length-take-le 32 (drop (32 * place) material) (omega (arith, length-drop (32 * place) material))

key_octets : (place : ℕ) (material : List ℕ) → AreOctets material → AreOctets (key_at place material)
key_octets place material fits = octets_take 32 (drop (32 * place) material) (octets_drop (32 * place) material fits)

pub initiator_whole : IsMaterial → (shared ni nr : List ℕ) (spi_i spi_r : ℕ) → AreKeys (initiator_keys (ike_keys shared ni nr spi_i spi_r))
initiator_whole is shared ni nr spi_i spi_r =
    let material = ike_material shared ni nr spi_i spi_r in
    let long = material_long is shared ni nr spi_i spi_r in
    let fits = material_octets is shared ni nr spi_i spi_r in
    record {
      encryption_long = key_long 3 material (omega (arith, long));
      integrity_long = key_long 1 material (omega (arith, long));
      encryption_octets = key_octets 3 material fits;
      integrity_octets = key_octets 1 material fits;
    }

pub responder_whole : IsMaterial → (shared ni nr : List ℕ) (spi_i spi_r : ℕ) → AreKeys (responder_keys (ike_keys shared ni nr spi_i spi_r))
responder_whole is shared ni nr spi_i spi_r =
    let material = ike_material shared ni nr spi_i spi_r in
    let long = material_long is shared ni nr spi_i spi_r in
    let fits = material_octets is shared ni nr spi_i spi_r in
    record {
      encryption_long = key_long 4 material (omega (arith, long));
      integrity_long = key_long 2 material (omega (arith, long));
      encryption_octets = key_octets 4 material fits;
      integrity_octets = key_octets 2 material fits;
    }
