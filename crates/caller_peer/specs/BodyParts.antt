-- What a body that opens is made of (RFC 7296, section 3.14; RFC 3602, section 2).
use Rattle.std.specs.Prelude.{◌≡◌, ◌%◌, ◌<◌, ℕ, List, [], ◌∷◌, ◌++◌, length, replicate}
use Rattle.base.specs.Octets.{AreOctets}
use Rattle.mac.specs.Hmac.{icv_sha256}
use Rattle.suite.specs.declared.keys.Keys.{Keys}
use Rattle.caller_peer.specs.Chaining.{AreChained}

-- plain text, padding of whatever octets, and one octet that tells how many these are, so fewer than 256,
-- fill whole blocks
pub record IsPadded (plain text : List ℕ) : Type 0 where
  pub padding : List ℕ
  pub is : text ≡ plain ++ padding ++ length padding ∷ []
  pub octets : AreOctets text
  pub filled : length text % 16 ≡ 0

-- a vector, the padded text encrypted behind it, and the ICV over head, vector and blocks
pub record IsBodyOf (keys : Keys) (head plain body : List ℕ) : Type 0 where
  pub vector : List ℕ
  pub text : List ℕ
  pub blocks : List ℕ
  pub is : body ≡ vector ++ blocks ++ icv_sha256 keys.integrity (head ++ vector ++ blocks)
  pub vector_long : length vector ≡ 16
  pub padded : IsPadded plain text
  pub chained : AreChained keys.encryption vector text blocks

-- what is made: the plain text, as few zeros as fill a block, and an octet that tells how many, encrypted
-- behind the fresh octets
pub record IsSealedBody (keys : Keys) (head plain fresh body : List ℕ) : Type 0 where
  pub blocks : List ℕ
  pub text : List ℕ
  pub pad : ℕ
  pub is : body ≡ fresh ++ blocks ++ icv_sha256 keys.integrity (head ++ fresh ++ blocks)
  pub text_is : text ≡ plain ++ replicate pad 0 ++ pad ∷ []
  pub few : pad < 16
  pub filled : length text % 16 ≡ 0
  pub chained : AreChained keys.encryption fresh text blocks
