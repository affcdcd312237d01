-- An initiator's IKE SA as it begins (RFC 7296 sections 1.2 and 2.6).
use Rattle.std.specs.Prelude.{◌≡◌, ℕ, None}
use Rattle.base.specs.Octets.{Octets}
use Rattle.wire.specs.Messages.{SpellsPlainly}
use Rattle.suite.specs.declared.fresh.Fresh.{Fresh}
use Rattle.suite.specs.declared.sealer.Cipher.{Cipher}
use Rattle.exchange.specs.declared.headers.Role.TheVariants.{Initiator}
use Rattle.requests.specs.Incoming.{no_requests}
use Rattle.requests.specs.Outgoing.{none_issued}
use Rattle.sa_init.specs.Messages.{request_message}
use Rattle.association.specs.AskedChildren.{AskedChildView}
use Rattle.association.specs.declared.phase.Association.{Association}
use Rattle.association.specs.declared.phase.Phase.TheVariants as phase
use Rattle.association.specs.declared.purpose.Purpose.TheVariants.{Begin}
use Rattle.association.specs.Issuing.{new_request, IssuesNext}
use Rattle.initial.specs.declared.beginning.Beginning.{Beginning}

-- The first request of an initiator, with what is fresh, and kept under Message ID 0.
pub record Begins (cipher : Cipher) (group : ℕ) (public_value : Octets → Octets) (fresh : Fresh) (moment : ℕ) (beginning : Beginning) : Type 0 where
  pub spelled : SpellsPlainly (request_message cipher group (public_value fresh.secret) fresh.spi None fresh.nonce) beginning.octets
  pub issued : IssuesNext none_issued (new_request beginning.octets Begin moment) beginning.outgoing
  pub spi : beginning.spi_i ≡ fresh.spi
  pub secret : beginning.secret ≡ fresh.secret
  pub nonce_is : beginning.nonce ≡ fresh.nonce

-- an initiator's IKE SA, when its first request goes out
abbrev pub begun : ℕ → Beginning → AskedChildView → Association
begun serial beginning child = record {
  serial = serial;
  role = Initiator;
  spi_i = beginning.spi_i;
  spi_r = 0;
  incoming = no_requests;
  outgoing = beginning.outgoing;
  phase = phase.InitSent (record { secret = beginning.secret; nonce = beginning.nonce; cookie = None; cookies_taken = 0; child = child });
}
