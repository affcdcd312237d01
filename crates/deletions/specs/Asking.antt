-- What is sent to delete (RFC 7296 sections 1.4.1 and 3.11).
use Rattle.std.specs.Prelude.{◌≤◌, ℕ, List, [], ◌∷◌}
use Rattle.std.specs.List.{AllByRecursion, sum_by}
use Rattle.wire.specs.Numbers.{ESP_PROTOCOL, IKE_PROTOCOL}
use Rattle.wire.specs.Sizes.{size_of, FitsFields}
use Rattle.wire.specs.declared.payload.Payload.{Payload}
use Rattle.wire.specs.declared.payload.Payload.TheVariants.{Delete}
use Rattle.exchange.specs.Sealed.{PAYLOADS_LIMIT}

-- ESP SAs are named by the SPIs under which their sender receives (section 3.11)
abbrev pub esp_deletion : List ℕ → List Payload
esp_deletion spis = Delete ESP_PROTOCOL spis ∷ []

-- a Child SA goes by its SPI, and takes the SPI of the other direction with it (section 1.4.1)
abbrev pub child_deletion : ℕ → List Payload
child_deletion spi = esp_deletion (spi ∷ [])

-- the IKE SA has no SPI to be named: it is the one under which the message comes (section 3.11)
abbrev pub association_deletion : List Payload
association_deletion = Delete IKE_PROTOCOL [] ∷ []

-- payloads that have what their fields allow, and few enough octets for a message that is sealed (section
-- 3.14)
pub record CanBeSent (payloads : List Payload) : Type 0 where
  pub fields : AllByRecursion FitsFields payloads
  pub short : sum_by size_of payloads ≤ PAYLOADS_LIMIT
