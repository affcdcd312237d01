-- When a request goes out again (RFC 7296 sections 2.1 and 2.4). Times and waits are in milliseconds.
use Rattle.std.specs.Prelude.{◌+◌, ◌<◌, ◌≤◌, ℕ, List, [], ◌∷◌, length, slice_index_or}
use Rattle.requests.specs.declared.timer.Due.{Due}
use Rattle.requests.specs.declared.timer.Due.TheVariants.{Nothing, Again, Over}
use Rattle.requests.specs.declared.timer.Timer.{Timer}

-- how long an answer is waited for before each time that a request goes out again
abbrev pub waits : List ℕ
waits = 1000 ∷ 2000 ∷ 4000 ∷ 8000 ∷ 16000 ∷ []

-- how long it is waited for after the last time
abbrev pub last_wait : ℕ
last_wait = 16000

-- the time from which on something is due: the last sending and the wait that stands next
abbrev pub due_from : Timer → ℕ
due_from timer = timer.sent + slice_index_or waits timer.repeats last_wait

abbrev pub IsDue : Timer → ℕ → Due → Type 0
IsDue timer now Nothing = now < due_from timer
IsDue timer now Again = (due_from timer ≤ now) × (timer.repeats < length waits)
IsDue timer now Over = (due_from timer ≤ now) × (length waits ≤ timer.repeats)
