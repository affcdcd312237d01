-- Payloads counted from the front of a list.
use Rattle.std.proofs.Common.{ℕ, ◌==◌, ◌∷◌, [], List, Option, Some, None}
use Rattle.std.specs.List.{filter}
use Rattle.wire.specs.Payloads.{type_of}
use Rattle.wire.specs.declared.payload.Payload.{Payload}
use Rattle.exchange.specs.Counting.{lone_item}

-- what is only, once one was found or none
abbrev alone_after : Option Payload → List Payload → Option Payload
alone_after None ps = lone_item ps
alone_after (Some p) [] = Some p
alone_after (Some p) (q ∷ ps) = None

abbrev pub only_after : Option Payload → ℕ → List Payload → Option Payload
only_after found kind ps = alone_after found (filter (λ p. type_of p == kind) ps)
