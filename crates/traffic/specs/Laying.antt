-- Packets on their way out that are laid first, and get their ICVs afterwards.
use Rattle.sadb.specs.Database.{PairMap}
use Rattle.sadb.specs.Laying.{finished_at}
use Rattle.traffic.specs.Outcomes.{Outcome, Up, Dummy, Sealed, Clear, Discarded, Dropped}

-- what becomes of a packet once its ESP packet has its ICV
abbrev pub finished_outcome : PairMap → Outcome → Outcome
finished_outcome pairs (Sealed child number octets) = Sealed child number (finished_at pairs child number octets)
finished_outcome pairs (Up child number inner) = Up child number inner
finished_outcome pairs (Dummy child number) = Dummy child number
finished_outcome pairs (Clear octets) = Clear octets
finished_outcome pairs Discarded = Discarded
finished_outcome pairs (Dropped fault) = Dropped fault
