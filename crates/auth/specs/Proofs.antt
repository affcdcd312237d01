-- Identities and their proofs (RFC 7296 sections 2.15, 3.5 and 3.8). The caller enters by what its traits
-- mean: its method, what it proves octets with, and what it accepts of an identity by type and data, a
-- method, octets and a proof.
use Rattle.std.specs.Prelude.{◌≡◌, ◌<◌, ◌==◌, ◌&&◌, ℕ, Bool, false, IsTrue, nat_eq}
use Rattle.std.specs.Prelude.{List, [], ◌∷◌, Option, Some, None}
use Rattle.std.specs.Cmp.Lexicographic.{pointwise}
use Rattle.base.specs.Octets.{Octets}
use Rattle.suite.specs.SignedOctets.{proved_octets}
use Rattle.suite.specs.declared.key_record.KeyRecord.{KeyRecord}
use Rattle.wire.specs.Numbers.{IDENTITY_LIMIT}
use Rattle.wire.specs.Sizes.{FitsData}
use Rattle.wire.specs.declared.payload.Payload.{Payload}
use Rattle.wire.specs.declared.payload.Payload.TheVariants.{Auth, IdI, IdR}
use Rattle.exchange.specs.declared.headers.Role.{Role}
use Rattle.exchange.specs.declared.headers.Role.TheVariants.{Initiator, Responder}
use Rattle.auth.specs.declared.identity.Identity.{Identity}
use Rattle.auth.specs.declared.proving.Proving.{Proving}

-- an identity as an ID payload carries it here (section 3.5)
pub record IsIdentity (identity : Identity) : Type 0 where
  pub kind : identity.kind < 256
  pub octets : FitsData 1 IDENTITY_LIMIT identity.data

abbrev pub is_identity : Identity → ℕ → Octets → Bool
is_identity identity kind octets = kind == identity.kind && pointwise nat_eq octets identity.data

-- what goes into a proof beside the identity, as plain data
pub record ProvingView : Type 0 where
  pub first : Octets
  pub nonce : Octets
  pub sk_p : Octets

abbrev pub proving_view : Proving → ProvingView
proving_view what = record { first = what.first.now; nonce = what.nonce.now; sk_p = what.sk_p.now }

-- What the end of this role proves over, with the keys of its IKE SA and the first message that it sent: an
-- initiator proves over the responder's nonce with SK_pi, a responder over the initiator's with SK_pr
-- (section 2.15).
abbrev pub proving_of : Role → KeyRecord → Octets → ProvingView
proving_of Initiator keys first = record { first = first; nonce = keys.nonce_r; sk_p = keys.sk_pi }
proving_of Responder keys first = record { first = first; nonce = keys.nonce_i; sk_p = keys.sk_pr }

-- what an end of this identity proves (section 2.15)
abbrev pub octets_to_prove : ProvingView → Identity → Octets
octets_to_prove what identity = proved_octets what.first what.nonce what.sk_p identity.kind identity.data

-- the AUTH payload of an end (section 3.8)
abbrev pub auth_payload : ℕ → (Octets → Octets) → Identity → ProvingView → Payload
auth_payload own_method proof_of own what = Auth own_method (proof_of (octets_to_prove what own))

-- the ID payload of the end of this role (section 3.5)
abbrev pub id_payload : Role → Identity → Payload
id_payload Initiator own = IdI own.kind own.data
id_payload Responder own = IdR own.kind own.data

-- the identity and its proof, with which the messages of both ends begin (section 1.2)
abbrev pub proved_identity : Role → ℕ → (Octets → Octets) → Identity → ProvingView → List Payload
proved_identity role own_method proof_of own what =
    id_payload role own ∷ auth_payload own_method proof_of own what ∷ []

-- what a caller accepts: the type and the data of an identity, a method, the octets to be proved, the proof
abbrev pub Accepts : Type 0
Accepts = ℕ → Octets → ℕ → Octets → Octets → Bool

-- the identity that is named is the peer's, and it is proved
abbrev pub is_proved : Accepts → Identity → ProvingView → ℕ → Octets → ℕ → Octets → Bool
is_proved accepts peer what kind id method proof =
    is_identity peer kind id && accepts kind id method (octets_to_prove what peer) proof

-- the peer is who it is to be, by an ID payload and an AUTH payload
abbrev pub is_peer : Accepts → Identity → ProvingView → Option (ℕ × Octets) → Option (ℕ × Octets) → Bool
is_peer accepts peer what (Some id) (Some auth) = is_proved accepts peer what id.0 id.1 auth.0 auth.1
is_peer accepts peer what (Some id) None = false
is_peer accepts peer what None auth = false

-- an ID payload that names this identity, and an AUTH payload, are there
abbrev pub names : Identity → Option (ℕ × Octets) → Option (ℕ × Octets) → Bool
names peer (Some id) (Some auth) = is_identity peer id.0 id.1
names peer (Some id) None = false
names peer None auth = false

-- the peer's identity is named, and a proof of it that the caller accepts of just that identity, over just
-- what the peer has to prove
pub record ProvesItself (accepts : Accepts) (peer : Identity) (what : ProvingView)
    (id auth : Option (ℕ × Octets)) : Type 0 where
  pub method : ℕ
  pub proof : Octets
  pub identity : id ≡ Some (peer.kind, peer.data)
  pub alone : auth ≡ Some (method, proof)
  pub checked : IsTrue (accepts peer.kind peer.data method (octets_to_prove what peer) proof)
