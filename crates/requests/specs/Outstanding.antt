-- The outstanding requests of one IKE SA, one after the other by rising Message ID.
use Rattle.std.specs.Prelude.{ℕ, List, Option}
use Rattle.std.specs.Borrow.{Bor}
use Rattle.std.specs.FinMap as map
use Rattle.std.specs.List.{filter}
use Rattle.requests.specs.Outgoing.{OwnRequests, is_above}
use Rattle.requests.specs.declared.outstanding.Outstanding.{Outstanding}

-- those above a Message ID, or all
abbrev pub outstanding_above : {T : Type 0} → OwnRequests T → Option ℕ → List (ℕ × T)
outstanding_above r low = filter (λ e. is_above low e.0) (map.entries r.outstanding)

-- what an iterator has still to yield
abbrev pub requests_left : {T : Type 0} → Outstanding T → List (ℕ × T)
requests_left left = outstanding_above left.requests.now left.low

-- what it yields: a Message ID and what is kept under it
abbrev pub numbered : {T : Type 0} → ℕ × Bor T → ℕ × T
numbered item = (item.0, item.1.now)
