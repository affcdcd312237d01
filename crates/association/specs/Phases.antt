-- What an end holds of one IKE SA, by its phase.
use Rattle.std.specs.Prelude.{◌≡◌, ℕ, Option, Some, None}
use Rattle.suite.specs.declared.key_record.KeyRecord.{KeyRecord}
use Rattle.association.specs.declared.phase.Phase.{Phase}
use Rattle.association.specs.declared.phase.Phase.TheVariants.{InitSent, AuthSent, HalfOpen, Established, Closed}

-- the keys, where both ends have come to them
abbrev pub keys_in : Phase → Option KeyRecord
keys_in (InitSent sent) = None
keys_in (AuthSent sent) = Some sent.keys
keys_in (HalfOpen opened) = Some opened.keys
keys_in (Established keys) = Some keys
keys_in (Closed keys at) = keys

-- the inbound SPI that was reserved for the first Child SA
abbrev pub spi_in : Phase → Option ℕ
spi_in (InitSent sent) = Some sent.child.spi
spi_in (AuthSent sent) = Some sent.child.spi
spi_in _ = None

-- that of the Child SA which IKE_AUTH asked for
abbrev pub established_spi : Phase → Option ℕ
established_spi (AuthSent sent) = Some sent.child.spi
established_spi _ = None

-- both ends know who the other is; the keys stay
abbrev pub established_of : Phase → Phase
established_of (AuthSent sent) = Established sent.keys
established_of (HalfOpen opened) = Established opened.keys
established_of phase = phase

-- both ends know who the other is
pub record IsEstablished (p : Phase) : Type 0 where
  pub keys : KeyRecord
  pub is : p ≡ Established keys
