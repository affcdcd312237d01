-- There can be the worked caller, and the worked words, and the initiator is rightly set up.
use Rattle.std.proofs.Common.{◌∷◌, [], arith, refl}
use Rattle.std.specs.Prelude.{false, replicate}
use Rattle.setup.specs.Configs.{IsConfig, Setup}
use Rattle.setup.specs.declared.config.Config.{Config}
use Rattle.laws_two_ends.specs.WorkedRecords.{answering_fresh, beginning_fresh, reading_fresh, worked_asker, worked_plain_of, CanBeMeant, IsFresh}
use Rattle.laws_two_ends.proofs.OctetLemmas.{octets_if}

pub can_be : CanBeMeant worked_asker worked_plain_of
can_be = record {
  transforms = record { id = omega arith; key_length = tt; number = omega arith };
  method = omega arith;
  opens_again = λ keys head plain fresh are. refl;
  sealed_size = λ n. n;
  length_told = λ keys head plain fresh are. refl;
  size_bounded = λ n. (omega arith, omega arith);
  symmetric = λ a b one other. refl;
  public_fits = λ a is. let whole = is.whole in record { some = omega (arith, whole); few = omega (arith, whole) };
  proof_fits = λ octets are. record { some = omega arith; few = omega arith };
}

pub beginning_is : IsFresh beginning_fresh
beginning_is = record {
  named = λ is. absurd (omega (arith, is));
  spi_fits = omega arith;
  nonce_long = refl;
  nonce_octets = octets_if beginning_fresh.nonce refl;
  secret = record { whole = refl; octets = octets_if beginning_fresh.secret refl };
  seal_long = refl;
  seal_octets = octets_if beginning_fresh.seal refl;
}

pub answering_is : IsFresh answering_fresh
answering_is = record {
  named = λ is. absurd (omega (arith, is));
  spi_fits = omega arith;
  nonce_long = refl;
  nonce_octets = octets_if answering_fresh.nonce refl;
  secret = record { whole = refl; octets = octets_if answering_fresh.secret refl };
  seal_long = refl;
  seal_octets = octets_if answering_fresh.seal refl;
}

pub reading_is : IsFresh reading_fresh
reading_is = record {
  named = λ is. absurd (omega (arith, is));
  spi_fits = omega arith;
  nonce_long = refl;
  nonce_octets = octets_if reading_fresh.nonce refl;
  secret = record { whole = refl; octets = octets_if reading_fresh.secret refl };
  seal_long = refl;
  seal_octets = octets_if reading_fresh.seal refl;
}

-- each identity is one octet, by the type of those that are opaque to others (RFC 7296 section 3.5)
abbrev worked_config : Config
worked_config = record {
  own = record { identity = record { kind = 11; «data» = 1 ∷ [] }; address = replicate 4 1 };
  peer = record { identity = record { kind = 11; «data» = 2 ∷ [] }; address = replicate 4 2 };
  extended = false;
  blocks = 2;
  cookie_secret = replicate 32 0;
  window = 1;
}

abbrev pub worked_setup : Setup
worked_setup = record { config = worked_config; entries = []; fresh = reading_fresh; moment = 2 }

pub set_up : IsConfig worked_setup.config
set_up = record {
  own = record { kind = omega arith; octets = record { some = omega arith; few = omega arith; fits = octets_if (1 ∷ []) refl } };
  peer = record { kind = omega arith; octets = record { some = omega arith; few = omega arith; fits = octets_if (2 ∷ []) refl } };
  blocks = (1, omega arith, omega arith, refl);
  window = record { least = omega arith; widest = omega arith };
}
