-- The answer of IKE_AUTH to an accepted peer (RFC 7296 section 1.2), and what an initiator makes of one.
use Rattle.std.specs.Prelude.{ℕ, Bool, List, [], ◌∷◌, ◌++◌}
use Rattle.base.specs.Octets.{Octets}
use Rattle.wire.specs.declared.payload.Payload.{Payload}
use Rattle.exchange.specs.Children.{child_payloads, answering_payloads}
use Rattle.exchange.specs.Counting.{only_auth, only_id_r}
use Rattle.exchange.specs.Notices.{payload_of_notice}
use Rattle.exchange.specs.declared.headers.Role.TheVariants.{Responder}
use Rattle.auth.specs.Proofs.{is_peer, proved_identity, Accepts, ProvingView}
use Rattle.auth.specs.Windows.{window_notices}
use Rattle.exchange.specs.declared.child.ChildAnswer.{ChildAnswer}
use Rattle.exchange.specs.declared.child.ChildAnswer.TheVariants as answered
use Rattle.auth.specs.declared.identity.Identity.{Identity}

-- the responder's identity, its proof, what answers the Child SA, and its window
abbrev pub auth_answer : ℕ → (Octets → Octets) → Identity → ProvingView → ChildAnswer → ℕ → List Payload
auth_answer own_method proof_of own what answer window =
    proved_identity Responder own_method proof_of own what
    ++ answering_payloads answer ++ window_notices window

-- The answer's sender has proved that it is the peer. Nothing else is looked at. That a critical payload is
-- passed over is a rule of this implementation against section 2.5, which has the initiator ignore such an
-- answer.
abbrev pub is_accepted : Accepts → Identity → ProvingView → List Payload → Bool
is_accepted accepts peer what payloads = is_peer accepts peer what (only_id_r payloads) (only_auth payloads)
