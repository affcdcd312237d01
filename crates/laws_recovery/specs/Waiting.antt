-- A request that waits for its answer, and what a time brings of it (RFC 7296 sections 2.1 and 2.4). Times
-- are in milliseconds.
use Rattle.std.specs.Prelude.{◌≡◌, ◌==◌, ◌+◌, ◌&&◌, ◌∷◌, ℕ, Bool, false, List, [], Contains, max, if◌then◌else◌}
use Rattle.std.specs.List.{list_any, AllByRecursion}
use Rattle.requests.specs.Timers.{IsDue}
use Rattle.requests.specs.declared.timer.Due.TheVariants.{Over}
use Rattle.association.specs.declared.phase.Request.{Request}
use Rattle.moments.specs.declared.resent.Resent.{Resent}
use Rattle.ike.specs.Moments.{WaitsAt}
use Rattle.gateway.specs.Histories.{Passage}
use Rattle.gateway.specs.Inputs as input
use Rattle.gateway.specs.Outputs.{wants_memory, Ticked}
use Rattle.gateway.specs.Worlds.{requests_in}

-- before this step, and after it, a request with this Message ID waits, of the IKE SA with this serial
abbrev pub WaitsBefore : {C : Type 0} → ℕ → ℕ → Request → Passage C → Type 0
WaitsBefore {C} serial number request p = WaitsAt p.before.machine.held serial number request

abbrev pub WaitsAfter : {C : Type 0} → ℕ → ℕ → Request → Passage C → Type 0
WaitsAfter {C} serial number request p = WaitsAt p.after.machine.held serial number request

-- the gateway is told a time at this step, and the greatest that it was told is this one then
pub record IsTold {C : Type 0} (now : ℕ) (p : Passage C) : Type 0 where
  pub moment : ℕ
  pub given : p.given ≡ input.Tick moment
  pub greatest : max p.before.machine.moment moment ≡ now

-- and isn't short of memory
pub record Brings {C : Type 0} (now : ℕ) (p : Passage C) : Type 0 where
  pub told : IsTold now p
  pub taken : wants_memory p.said ≡ false

-- it goes out again at this step: the same octets, under its Message ID
pub record GoesOutAgain {C : Type 0} (serial number : ℕ) (request : Request) (p : Passage C) : Type 0 where
  pub requests : List Resent
  pub closed : List ℕ
  pub said : p.said ≡ Ticked requests closed
  pub encrypted : Bool
  pub among : Contains requests (record { ike = serial; number = number; encrypted = encrypted; octets = request.octets })

-- how it waits once it went out again
abbrev pub sent_again : ℕ → Request → Request
sent_again now request = record request { timer = record { sent = now; repeats = request.timer.repeats + 1 } }

-- The IKE SA is closed at this step, and told so: a request of it was sent for the last time, and no answer
-- came in time.
pub record IsGivenUp {C : Type 0} (serial now : ℕ) (p : Passage C) : Type 0 where
  pub number : ℕ
  pub request : Request
  pub waits : WaitsBefore serial number request p
  pub over : IsDue request.timer now Over
  pub requests : List Resent
  pub closed : List ℕ
  pub said : p.said ≡ Ticked requests closed
  pub among : Contains closed serial

-- a request that goes out again has this Message ID, of the IKE SA with this serial
abbrev pub is_named : ℕ → ℕ → Resent → Bool
is_named serial number r = (r.ike == serial) && (r.number == number)

-- whether such a one goes out again at this step, and at how many of these steps
abbrev pub goes_again : {C : Type 0} → ℕ → ℕ → Passage C → Bool
goes_again {C} serial number p = list_any (is_named serial number) (requests_in p.said)

abbrev pub times_again : {C : Type 0} → ℕ → ℕ → List (Passage C) → ℕ
times_again {C} serial number [] = 0
times_again {C} serial number (p ∷ ps) = (if goes_again serial number p then 1 else 0) + times_again serial number ps

-- it waits before each of these steps
abbrev pub WaitsThroughout : {C : Type 0} → ℕ → ℕ → List (Passage C) → Type 0
WaitsThroughout {C} serial number passages = AllByRecursion (λ p. (request : Request) × WaitsBefore serial number request p) passages
