-- The SA pair that an end has of an additional Child SA (RFC 7296 sections 1.3.1 and 2.17).
use Rattle.std.specs.Prelude.{◌≡◌, false, Some, List}
use Rattle.base.specs.Octets.{Octets}
use Rattle.wire.specs.declared.payload.Payload.{Payload}
use Rattle.suite.specs.Keys.{child_keys}
use Rattle.suite.specs.declared.key_record.KeyRecord.{KeyRecord}
use Rattle.exchange.specs.Counting.{has_ke, only_nonce}
use Rattle.exchange.specs.declared.headers.Role.{Role}
use Rattle.sadb.specs.declared.pair.Pair.{Pair}
use Rattle.children.specs.Pairs.{IsChild}

-- The SA pair is what the end of this role in the exchange has of the Child SA that a request and its reply
-- made. Its keys come from the IKE SA's SK_d and the only nonce in each, since no key exchange took place
-- (section 2.17).
pub record IsFurtherChild (role : Role) (keys : KeyRecord) (request reply : List Payload) (pair : Pair) : Type 0 where
  pub no_exchange : has_ke request ≡ false
  pub nonce_i : Octets
  pub nonce_r : Octets
  pub asked : only_nonce request ≡ Some nonce_i
  pub answered : only_nonce reply ≡ Some nonce_r
  pub child : IsChild role (child_keys keys.sk_d nonce_i nonce_r) request reply pair
