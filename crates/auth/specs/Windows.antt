-- How many requests an end takes at once (RFC 7296 section 2.3).
use Rattle.std.specs.Prelude.{◌≤◌, ◌==◌, ◌&&◌, ℕ, max, min, nat_lt, if◌then◌else◌}
use Rattle.std.specs.Prelude.{Option, Some, None, List, [], ◌∷◌, length, unwrap_or}
use Rattle.std.specs.Int.{from_be_bytes, to_be_bytes, w32}
use Rattle.base.specs.Octets.{Octets}
use Rattle.wire.specs.Numbers.{SET_WINDOW_SIZE}
use Rattle.wire.specs.declared.payload.Payload.{Payload}
use Rattle.wire.specs.declared.payload.Payload.TheVariants.{Notify}
use Rattle.exchange.specs.Counting.{first_some}

-- the window of an end that tells none
abbrev pub WINDOW_LEAST : ℕ
WINDOW_LEAST = 1

-- the widest window that counts, a limit of this implementation
abbrev pub WINDOW_LIMIT : ℕ
WINDOW_LIMIT = 16

-- a window that counts as it is
pub record IsWindow (window : ℕ) : Type 0 where
  pub least : WINDOW_LEAST ≤ window
  pub widest : window ≤ WINDOW_LIMIT

-- an end tells its window by a notification with no protocol and no SPI (section 3.10), and a number of four
-- octets
abbrev pub window_payload : ℕ → Payload
window_payload window = Notify 0 [] SET_WINDOW_SIZE (to_be_bytes w32 window)

-- where its window is not the one that it has untold
abbrev pub window_notices : ℕ → List Payload
window_notices window = if nat_lt WINDOW_LEAST window then window_payload window ∷ [] else []

-- 0 counts as 1, and more than 16 as 16
abbrev pub window_within : ℕ → ℕ
window_within number = min (max number WINDOW_LEAST) WINDOW_LIMIT

-- the window that a notification tells: of this type, with four octets
abbrev pub told_window : ℕ → Octets → Option ℕ
told_window kind octets =
    if kind == SET_WINDOW_SIZE && length octets == 4
    then Some (window_within (from_be_bytes w32 octets)) else None

abbrev pub window_in : Payload → Option ℕ
window_in (Notify protocol spi kind octets) = told_window kind octets
window_in _ = None

-- the first notification that tells a window counts
abbrev pub peer_window : List Payload → ℕ
peer_window payloads = unwrap_or (first_some window_in payloads) WINDOW_LEAST
