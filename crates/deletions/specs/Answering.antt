-- What answers a request of INFORMATIONAL (RFC 7296 sections 1.4.1, 2.5 and 2.21.3).
use Rattle.std.specs.Prelude.{◌≤◌, ℕ, List, [], ◌∷◌, length}
use Rattle.wire.specs.declared.payload.Payload.{Payload}
use Rattle.exchange.specs.Notices.{payload_of_notice}
use Rattle.exchange.specs.declared.notices.Notice.TheVariants.{InvalidSyntax, UnsupportedCriticalPayload}
use Rattle.deletions.specs.Asking.{esp_deletion}
use Rattle.deletions.specs.Naming.{named_limit}
use Rattle.deletions.specs.declared.deciding.Verdict.{Verdict}
use Rattle.deletions.specs.declared.deciding.Verdict.TheVariants as verdict

-- one Delete of ESP, or none where there is nothing to name (section 1.4.1)
abbrev pub deletion_if_any : List ℕ → List Payload
deletion_if_any [] = []
deletion_if_any (spi ∷ others) = esp_deletion (spi ∷ others)

abbrev pub payloads_of_verdict : Verdict → List Payload
payloads_of_verdict verdict.BadSyntax = payload_of_notice InvalidSyntax ∷ []
payloads_of_verdict (verdict.Unsupported kind) = payload_of_notice (UnsupportedCriticalPayload kind) ∷ []
payloads_of_verdict verdict.Closes = []
payloads_of_verdict (verdict.Deletes deleted) = deletion_if_any deleted.inbound_spis

-- no more SPIs are to be named than one message may
abbrev pub FewAreNamed : Verdict → Type 0
FewAreNamed verdict.BadSyntax = Unit {0}
FewAreNamed (verdict.Unsupported kind) = Unit {0}
FewAreNamed verdict.Closes = Unit {0}
FewAreNamed (verdict.Deletes deleted) = length deleted.inbound_spis ≤ named_limit
