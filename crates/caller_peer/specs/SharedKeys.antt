-- Proofs of identity under shared keys (RFC 7296, sections 2.15 and 3.8).
use Rattle.std.specs.Prelude.{◌≡◌, ◌≢◌, ◌≤◌, ℕ, Bool, false, ◌&&◌, nat_eq, nat_le, List, [], ◌∷◌, ◌++◌, length, codes, if◌then◌else◌}
use Rattle.std.specs.List.{AllByRecursion}
use Rattle.std.specs.Cmp.Lexicographic.{pointwise}
use Rattle.mac.specs.Hmac.{hmac_sha256}
use Rattle.caller_peer.specs.declared.shared_key.Peer.{Peer}

-- Shared Key Message Integrity Code (section 3.8)
abbrev pub shared_key_method : ℕ
shared_key_method = 2

-- prf (prf (Shared Secret, "Key Pad for IKEv2"), octets)
unfoldable pub proof_under : List ℕ → List ℕ → List ℕ
proof_under secret octets = hmac_sha256 (hmac_sha256 secret (codes "Key Pad for IKEv2")) octets

-- under a secret of one octet or more: by an empty one anybody could
unfoldable pub proves_under : List ℕ → List ℕ → List ℕ → Bool
proves_under secret octets given = nat_le 1 (length secret) && pointwise nat_eq given (proof_under secret octets)

-- the first of the peers that has this identity proves under its own secret
abbrev pub proved_by : List Peer → ℕ → List ℕ → List ℕ → List ℕ → Bool
proved_by [] kind id octets given = false
proved_by (peer ∷ peers) kind id octets given =
    if nat_eq peer.kind kind && pointwise nat_eq peer.id id then proves_under peer.secret octets given
    else proved_by peers kind id octets given

-- and by no other method
unfoldable pub is_accepted : List Peer → ℕ → List ℕ → ℕ → List ℕ → List ℕ → Bool
is_accepted peers kind id method octets given = nat_eq method shared_key_method && proved_by peers kind id octets given

-- a peer has an identity, and none before it has the same
pub record IsFirst (peers : List Peer) (kind : ℕ) (id : List ℕ) (peer : Peer) : Type 0 where
  pub before : List Peer
  pub behind : List Peer
  pub there : peers ≡ before ++ peer ∷ behind
  pub kind_is : peer.kind ≡ kind
  pub id_is : peer.id ≡ id
  pub others : AllByRecursion (λ other. other.kind ≡ kind → other.id ≢ id) before

-- what is given is what section 2.15 has such a peer give, by its own secret, which is not empty
pub record IsProved (peers : List Peer) (kind : ℕ) (id : List ℕ) (method : ℕ) (octets given : List ℕ) : Type 0 where
  pub by_shared_key : method ≡ 2
  pub peer : Peer
  pub known : IsFirst peers kind id peer
  pub some : 1 ≤ length peer.secret
  pub is : given ≡ hmac_sha256 (hmac_sha256 peer.secret (codes "Key Pad for IKEv2")) octets
