-- What is sent fits its payloads (RFC 7296 section 3).
use Rattle.std.specs.Prelude.{◌+◌, ◌≤◌, ℕ, List}
use Rattle.std.specs.List.{AllByRecursion, sum_by}
use Rattle.wire.specs.Sizes.{size_of, FitsFields}
use Rattle.wire.specs.declared.payload.Payload.{Payload}

-- octets of an ID payload, an AUTH payload and the notification of a window, at most
abbrev pub OWN_LIMIT : ℕ
OWN_LIMIT = 264 + 1032 + 12

-- payloads that have what their fields allow, with so many octets at most
pub record FitWithin (most : ℕ) (payloads : List Payload) : Type 0 where
  pub fields : AllByRecursion FitsFields payloads
  pub short : sum_by size_of payloads ≤ most
