-- Packets that are laid by the outbound SA of an SA pair, and get their ICVs afterwards.
use Rattle.std.specs.Prelude.{◌≡◌, ℕ, List, ◌++◌, Option, Some, None, take, drop}
use Rattle.esp.specs.declared.sa.Sa.{Sa}
use Rattle.esp.specs.Laying.{finished}
use Rattle.sadb.specs.Database.{PairMap, pair_at}
use Rattle.sadb.specs.declared.pair.Pair.{Pair}

abbrev pub sender_of : Option Pair → Option Sa
sender_of None = None
sender_of (Some pair) = Some pair.outbound.association

-- the outbound SA of the SA pair with this serial, if there is one
abbrev pub sender_at : PairMap → ℕ → Option Sa
sender_at pairs serial = sender_of (pair_at pairs serial)

-- no SA pair comes or goes, and none gets another outbound SA
pub record KeepsSenders (old new : PairMap) : Type 0 where
  pub each : (serial : ℕ) → sender_at new serial ≡ sender_at old serial

abbrev pub finished_by : Option Sa → ℕ → List ℕ → List ℕ
finished_by None number octets = octets
finished_by (Some a) number octets = finished a number octets

-- a packet that the SA pair with this serial laid under a sequence number, with its ICV; as it is where there
-- is no such pair
abbrev pub finished_at : PairMap → ℕ → ℕ → List ℕ → List ℕ
finished_at pairs serial number octets = finished_by (sender_at pairs serial) number octets

-- the same, where so many octets stand before the packet
abbrev pub finished_at_behind : ℕ → PairMap → ℕ → ℕ → List ℕ → List ℕ
finished_at_behind start pairs serial number octets = take start octets ++ finished_at pairs serial number (drop start octets)
