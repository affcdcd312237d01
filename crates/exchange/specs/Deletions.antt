-- Deletions (RFC 7296 sections 1.4.1 and 3.11).
use Rattle.std.specs.Prelude.{◌==◌, ℕ, Bool, false, List, [], length, if◌then◌else◌}
use Rattle.std.specs.List.{flat_map, list_any, sum_by}
use Rattle.wire.specs.Numbers.{ESP_PROTOCOL, IKE_PROTOCOL}
use Rattle.wire.specs.declared.payload.Payload.{Payload}
use Rattle.wire.specs.declared.payload.Payload.TheVariants.{Delete}

-- the SPIs that a payload names to be deleted
abbrev pub spis_in : Payload → List ℕ
spis_in (Delete protocol spis) = spis
spis_in _ = []

-- a deletion for the protocol: IKE is 1, ESP is 3 (section 3.3.1)
abbrev pub is_deletion : ℕ → Payload → Bool
is_deletion wanted (Delete protocol spis) = protocol == wanted
is_deletion wanted _ = false

-- the IKE SA itself is to be deleted
abbrev pub deletes_association : List Payload → Bool
deletes_association payloads = list_any (is_deletion IKE_PROTOCOL) payloads

-- how many SPIs are named in all, each as often as it is named, whatever the protocol
abbrev pub count_of_spis : List Payload → ℕ
count_of_spis payloads = sum_by (λ p. length (spis_in p)) payloads

-- the SPIs of ESP that are to be deleted, in the order in which they are named
abbrev pub esp_spis : List Payload → List ℕ
esp_spis payloads = flat_map (λ p. if is_deletion ESP_PROTOCOL p then spis_in p else []) payloads
