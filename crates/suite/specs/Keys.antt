-- The keys of an IKE SA and of its Child SAs (RFC 7296, sections 2.14 and 2.17), with HMAC-SHA-256 as the
-- pseudorandom function. Every key has 32 octets, that of the cipher too, which is a rule of this
-- implementation.
use Rattle.std.specs.Prelude.{ℕ, ◌*◌, List, [], ◌∷◌, ◌++◌, take, drop}
use Rattle.byteorder.specs.Endian.{big_bytes}
use Rattle.mac.specs.Hmac.{hmac_sha256}
use Rattle.mac.specs.KeyMaterial.{prf_plus}
use Rattle.suite.specs.declared.key_record.KeyRecord.{KeyRecord}
use Rattle.suite.specs.declared.keys.Keys.{Keys}

-- the key that stands behind so many others in the material
abbrev pub key_at : ℕ → List ℕ → List ℕ
key_at place material = take 32 (drop (32 * place) material)

-- section 2.14: SKEYSEED = prf (Ni | Nr, g^ir)
unfoldable pub seed_key : List ℕ → List ℕ → List ℕ → List ℕ
seed_key shared ni nr = hmac_sha256 (ni ++ nr) shared

-- section 2.14: prf+ (SKEYSEED, Ni | Nr | SPIi | SPIr)
unfoldable pub ike_material : List ℕ → List ℕ → List ℕ → ℕ → ℕ → List ℕ
ike_material shared ni nr spi_i spi_r =
    prf_plus (seed_key shared ni nr) (ni ++ nr ++ big_bytes 8 spi_i ++ big_bytes 8 spi_r) 224

-- section 2.14: that is SK_d | SK_ai | SK_ar | SK_ei | SK_er | SK_pi | SK_pr
abbrev pub ike_keys : List ℕ → List ℕ → List ℕ → ℕ → ℕ → KeyRecord
ike_keys shared ni nr spi_i spi_r =
    let material = ike_material shared ni nr spi_i spi_r in
    record {
      spi_i = spi_i;
      spi_r = spi_r;
      nonce_i = ni;
      nonce_r = nr;
      sk_d = key_at 0 material;
      sk_ai = key_at 1 material;
      sk_ar = key_at 2 material;
      sk_ei = key_at 3 material;
      sk_er = key_at 4 material;
      sk_pi = key_at 5 material;
      sk_pr = key_at 6 material;
    }

-- section 2.17: KEYMAT = prf+ (SK_d, Ni | Nr)
unfoldable pub child_material : List ℕ → List ℕ → List ℕ → List ℕ
child_material sk_d ni nr = prf_plus sk_d (ni ++ nr) 64

-- section 2.17: the integrity key of what the exchange's initiator sends, then that of what its responder
-- sends; NULL encryption has no key
abbrev pub child_keys : List ℕ → List ℕ → List ℕ → List (List ℕ)
child_keys sk_d ni nr = key_at 0 (child_material sk_d ni nr) ∷ key_at 1 (child_material sk_d ni nr) ∷ []

-- section 2.17: the first Child SA is made with the IKE SA, whose nonces are those of its keys
abbrev pub first_child_keys : KeyRecord → List (List ℕ)
first_child_keys r = child_keys r.sk_d r.nonce_i r.nonce_r

-- section 2.14: SK_ei and SK_ai protect what the original initiator sends, SK_er and SK_ar what the
-- responder sends
abbrev pub initiator_keys : KeyRecord → Keys
initiator_keys r = record { encryption = r.sk_ei; integrity = r.sk_ai }

abbrev pub responder_keys : KeyRecord → Keys
responder_keys r = record { encryption = r.sk_er; integrity = r.sk_ar }
