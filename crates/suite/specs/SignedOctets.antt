-- What an end proves with its AUTH payload (RFC 7296, section 2.15).
use Rattle.std.specs.Prelude.{ℕ, List, ◌∷◌, ◌++◌}
use Rattle.mac.specs.Hmac.{hmac_sha256}

-- RestOfIDPayload: the payload's type, three reserved octets, which are zeros, and the identity's data
-- (section 3.5)
abbrev pub rest_of_id : ℕ → List ℕ → List ℕ
rest_of_id kind id = kind ∷ 0 ∷ 0 ∷ 0 ∷ id

-- the end's first message, the other end's nonce, and prf (SK_p, RestOfIDPayload)
abbrev pub proved_octets : List ℕ → List ℕ → List ℕ → ℕ → List ℕ → List ℕ
proved_octets first nonce sk_p kind id = first ++ nonce ++ hmac_sha256 sk_p (rest_of_id kind id)
