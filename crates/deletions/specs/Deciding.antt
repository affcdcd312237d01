-- What is made of a request of INFORMATIONAL (RFC 7296 sections 1.4, 1.4.1, 2.5 and 3.11).
use Rattle.std.specs.Prelude.{◌≡◌, ◌≤◌, ℕ, Bool, true, false, Option, Some, None, List, All, length, nat_lt, if◌then◌else◌}
use Rattle.std.specs.List.{AllZip}
use Rattle.wire.specs.declared.payload.Payload.{Payload}
use Rattle.exchange.specs.Counting.{unknown_critical}
use Rattle.exchange.specs.Deletions.{count_of_spis, deletes_association, esp_spis}
use Rattle.exchange.specs.declared.sealed.Plain.{Plain}
use Rattle.sadb.specs.Database.{BelongsTo, HasInbound, IsLive, PairMap}
use Rattle.exchange.specs.Chains.{IsRead}
use Rattle.deletions.specs.Naming.{deleted_by, named_limit}
use Rattle.deletions.specs.Removing.{AreDistinct}
use Rattle.deletions.specs.declared.deciding.Verdict.{Verdict}
use Rattle.deletions.specs.declared.deciding.Verdict.TheVariants as verdict
use Rattle.deletions.specs.declared.naming.DeletedPairs.{DeletedPairs}

-- what its deletions ask for: with the IKE SA all its Child SAs end (section 1.4.1), so those named beside it
-- are not looked at
abbrev pub deletions_in : PairMap → ℕ → List Payload → Verdict
deletions_in pairs ike payloads = if deletes_association payloads then verdict.Closes else verdict.Deletes (deleted_by pairs ike (esp_spis payloads))

-- more SPIs than one message may name are refused, a limit of this implementation
abbrev pub within_limit : PairMap → ℕ → List Payload → Verdict
within_limit pairs ike payloads = if nat_lt named_limit (count_of_spis payloads) then verdict.BadSyntax else deletions_in pairs ike payloads

-- the first unknown payload that is marked as critical, if there is one, comes before all that is asked for
-- (section 2.5)
abbrev pub verdict_by : Option ℕ → Verdict → Verdict
verdict_by (Some kind) understood = verdict.Unsupported kind
verdict_by None understood = understood

abbrev pub verdict_of : PairMap → ℕ → List Payload → Verdict
verdict_of pairs ike payloads = verdict_by (unknown_critical payloads) (within_limit pairs ike payloads)

-- what is not in the grammar is refused (section 2.21.3)
abbrev pub verdict_on : PairMap → ℕ → Option (List Payload) → Verdict
verdict_on pairs ike None = verdict.BadSyntax
verdict_on pairs ike (Some payloads) = verdict_of pairs ike payloads

-- the verdict on what is read
pub record IsVerdictOn (pairs : PairMap) (ike : ℕ) (plain : Plain) (made : Verdict) : Type 0 where
  pub payloads : Option (List Payload)
  pub read : IsRead plain payloads
  pub due : made ≡ verdict_on pairs ike payloads

-- the IKE SA ends: INVALID_SYNTAX ends it too (section 2.21.3)
abbrev pub is_closing_verdict : Verdict → Bool
is_closing_verdict verdict.BadSyntax = true
is_closing_verdict (verdict.Unsupported kind) = false
is_closing_verdict verdict.Closes = true
is_closing_verdict (verdict.Deletes deleted) = false

-- Live SA pairs of this IKE SA, none twice, each with the SPI under which it receives, and no more than a
-- message may name
pub record AreLivePairs (pairs : PairMap) (ike : ℕ) (deleted : DeletedPairs) : Type 0 where
  pub live : All (IsLive pairs) deleted.serials
  pub its_own : All (BelongsTo pairs ike) deleted.serials
  pub distinct : AreDistinct deleted.serials
  pub inbound : AllZip (λ serial spi. HasInbound pairs spi serial) deleted.serials deleted.inbound_spis
  pub few : length deleted.inbound_spis ≤ named_limit

abbrev pub IsSoundVerdict : PairMap → ℕ → Verdict → Type 0
IsSoundVerdict pairs ike verdict.BadSyntax = Unit {0}
IsSoundVerdict pairs ike (verdict.Unsupported kind) = Unit {0}
IsSoundVerdict pairs ike verdict.Closes = Unit {0}
IsSoundVerdict pairs ike (verdict.Deletes deleted) = AreLivePairs pairs ike deleted
