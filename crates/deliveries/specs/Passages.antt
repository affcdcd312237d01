-- A table of SA pairs over steps in a row, of which some are ESP packets that came (RFC 4301 sections 4.4.2
-- and 5.2).
use Rattle.std.specs.Prelude.{◌≡◌, ◌⊎◌, ◌<◌, ◌≤◌, ℕ, false, Option, Some, None, List, [], ◌∷◌}
use Rattle.std.specs.FinSet as set
use Rattle.base.specs.Octets.{Octets}
use Rattle.sadb.specs.Database.{Database, IsSoundTable, pair_at}
use Rattle.sadb.specs.declared.pair.Pair.{Pair}
use Rattle.traffic.specs.Outcomes.{Outcome}
use Rattle.traffic.specs.Receiving.{Receives}

-- an ESP packet that came, and what became of it
pub record Reception : Type 0 where
  pub packet : Octets
  pub outcome : Outcome

-- the table before a step, the packet that came, if the step is one, and the table after
pub record Passage : Type 0 where
  pub before : Database
  pub received : Option Reception
  pub after : Database

-- an SA pair stood under this serial with the same inbound SA and window, and the same selectors
pub record StoodSo (old : Database) (serial : ℕ) (is : Pair) : Type 0 where
  pub was : Pair
  pub there : pair_at old.pairs serial ≡ Some was
  pub inbound : is.inbound ≡ was.inbound
  pub local : is.local ≡ was.local
  pub remote : is.remote ≡ was.remote

-- What does not come from a packet: SA pairs go, begin to be deleted, seal, and come, and no sequence number
-- is taken. A pair comes under a serial that was not used yet, with a window in which none is taken (RFC 4303
-- section 3.4.3).
pub record LeavesWindows (old new : Database) : Type 0 where
  pub next : old.next ≤ new.next
  pub old_pairs : (serial : ℕ) (pair : Pair) → serial < old.next → pair_at new.pairs serial ≡ Some pair → StoodSo old serial pair
  pub new_pairs : (serial n : ℕ) (pair : Pair) → old.next ≤ serial → pair_at new.pairs serial ≡ Some pair
      → set.contains pair.inbound.window.taken n ≡ false

-- A change of this kind: each SA pair is as it was, or comes so.
pub record ComesUnused (old : Database) (serial : ℕ) (pair : Pair) : Type 0 where
  pub new : old.next ≤ serial
  pub unused : (n : ℕ) → set.contains pair.inbound.window.taken n ≡ false

pub record BringsUnused (old new : Database) : Type 0 where
  pub next : old.next ≤ new.next
  pub each : (serial : ℕ) (pair : Pair) → pair_at new.pairs serial ≡ Some pair → (pair_at old.pairs serial ≡ Some pair) ⊎ ComesUnused old serial pair

abbrev pub Leads : Database → Option Reception → Database → Type 0
Leads old (Some reception) new = Receives old reception.packet reception.outcome new
Leads old None new = LeavesWindows old new

pub record IsPassage (p : Passage) : Type 0 where
  pub sound : IsSoundTable p.before
  pub leads : Leads p.before p.received p.after

-- steps in a row, each from where the one before ended
abbrev pub IsTrail : Database → List Passage → Database → Type 0
IsTrail old [] new = new ≡ old
IsTrail old (p ∷ ps) new = (p.before ≡ old) × IsPassage p × IsTrail p.after ps new
