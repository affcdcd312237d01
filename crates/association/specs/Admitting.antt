-- A responder's IKE SA as it begins, half open (RFC 7296 sections 1.2 and 2.14).
use Rattle.std.specs.Prelude.{◌≡◌, ℕ, Option}
use Rattle.base.specs.Octets.{Octets}
use Rattle.suite.specs.declared.fresh.Fresh.{Fresh}
use Rattle.suite.specs.declared.key_record.KeyRecord.{KeyRecord}
use Rattle.suite.specs.declared.sealer.Cipher.{Cipher}
use Rattle.exchange.specs.declared.headers.Role.TheVariants.{Responder}
use Rattle.requests.specs.Incoming.{after_number_0}
use Rattle.requests.specs.Outgoing.{none_issued}
use Rattle.sa_init.specs.Agreement.{IsAnswer}
use Rattle.sa_init.specs.Judging.{OfferView}
use Rattle.sa_init.specs.declared.answers.Agreed.{Agreed}
use Rattle.association.specs.declared.admitting.Admitted.{Admitted}
use Rattle.association.specs.declared.phase.Association.{Association}
use Rattle.association.specs.declared.phase.Phase.TheVariants as phase

-- a responder's IKE SA, when its answer goes out: the request with Message ID 0 was processed
abbrev pub half_open : ℕ → ℕ → ℕ → KeyRecord → Octets → Octets → ℕ → Association
half_open serial spi_i spi_r keys request reply moment = record {
  serial = serial;
  role = Responder;
  spi_i = spi_i;
  spi_r = spi_r;
  incoming = after_number_0;
  outgoing = none_issued;
  phase = phase.HalfOpen (record { keys = keys; request = request; reply = reply; made = moment });
}

-- The offer is answered, and the IKE SA has the keys.
pub record Admits (cipher : Cipher) (group : ℕ) (public_value : Octets → Octets) (shared_secret : Octets → Octets → Option Octets) (fresh : Fresh) (moment serial : ℕ) (offer : OfferView) (spi_i : ℕ) (request : Octets) (admitted : Admitted) : Type 0 where
  pub agreed : Agreed
  pub answer : IsAnswer cipher group public_value shared_secret offer spi_i fresh agreed
  pub octets : admitted.octets ≡ agreed.octets
  pub content : admitted.association ≡ half_open serial spi_i fresh.spi agreed.record request agreed.octets moment
