-- The entries that a policy may have (RFC 4301 section 4.4.1).
use Rattle.std.specs.Prelude.{◌≡◌, ◌<◌, ◌≤◌, ◌⊎◌, ℕ, List, Some, length, slice_get}
use Rattle.base.specs.Addresses.{IsOrdered, family_of_range}
use Rattle.base.specs.declared.address.Range.{Range}
use Rattle.policy.specs.declared.entry.Action.{Action}
use Rattle.policy.specs.declared.entry.Entry.{Entry}
use Rattle.policy.specs.Points.{IsPortRange}

-- no range of the entry ends before it starts, and the addresses of both sides are of one family
pub record IsSoundEntry (e : Entry) : Type 0 where
  pub local : IsOrdered e.local
  pub remote : IsOrdered e.remote
  pub local_ports : IsPortRange e.local_ports.0 e.local_ports.1
  pub remote_ports : IsPortRange e.remote_ports.0 e.remote_ports.1
  pub family : family_of_range e.local ≡ family_of_range e.remote

-- the entry at this place is at fault: it is not sound, or it comes after 256 others, a limit of this
-- implementation
pub record IsEntryAtFault (entries : List Entry) (place : ℕ) : Type 0 where
  pub entry : Entry
  pub there : slice_get entries place ≡ Some entry
  pub fault : (¬ IsSoundEntry entry) ⊎ (256 ≤ place)

-- at most 256 entries, each of them sound
pub record IsSoundPolicy (entries : List Entry) : Type 0 where
  pub few : length entries ≤ 256
  pub each : (place : ℕ) (e : Entry) → slice_get entries place ≡ Some e → IsSoundEntry e

-- the first place that is at fault
pub record IsFirstEntryAtFault (entries : List Entry) (place : ℕ) : Type 0 where
  pub here : IsEntryAtFault entries place
  pub before : (k : ℕ) → k < place → ¬ IsEntryAtFault entries k

-- the entry for the flows of all protocols and all ports between two ranges
abbrev pub entry_for : Action → Range → Range → Entry
entry_for does here there = record {
  protocol = 0;
  local = here;
  remote = there;
  local_ports = (0, 65535);
  remote_ports = (0, 65535);
  action = does;
}

abbrev pub with_protocol : ℕ → Entry → Entry
with_protocol number e = record e { protocol = number }

abbrev pub with_local_ports : ℕ → ℕ → Entry → Entry
with_local_ports start end e = record e { local_ports = (start, end) }

abbrev pub with_remote_ports : ℕ → ℕ → Entry → Entry
with_remote_ports start end e = record e { remote_ports = (start, end) }
