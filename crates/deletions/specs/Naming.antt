-- Which SA pairs of an IKE SA go where its peer names SPIs to be deleted (RFC 7296 section 1.4.1).
use Rattle.std.specs.Prelude.{◌==◌, ◌&&◌, ℕ, Bool, Option, Some, None, List, [], ◌∷◌, map, option_and_then}
use Rattle.std.specs.List.{cons_option, find}
use Rattle.std.specs.FinMap.{entries, remove}
use Rattle.sadb.specs.Database.{PairMap}
use Rattle.sadb.specs.declared.pair.Pair.{Pair}
use Rattle.sadb.specs.declared.pair.State.{State}
use Rattle.sadb.specs.declared.pair.State.TheVariants.{Live, Deleting}
use Rattle.deletions.specs.declared.naming.DeletedPairs.{DeletedPairs}

-- the most SPIs that one message may name, a limit of this implementation
abbrev pub named_limit : ℕ
named_limit = 512

-- an SA pair of this IKE SA that sends under this SPI; the peer receives under it and names it so (section
-- 3.11)
abbrev pub is_sender : ℕ → ℕ → Pair → Bool
is_sender ike spi pair = pair.ike == ike && pair.outbound.association.spi == spi

-- such an SA pair with its serial: where a peer gave one SPI to several, the oldest, which has the least
-- serial
abbrev pub sender : PairMap → ℕ → ℕ → Option (ℕ × Pair)
sender pairs ike spi = find (λ e. is_sender ike spi e.1) (entries pairs)

-- A Live SA pair goes. A Deleting one carries nothing outward any more, since this end asked for that itself,
-- and its inward half stays until that is answered (section 1.4.1).
abbrev pub if_live : State → ℕ × Pair → Option (ℕ × Pair)
if_live Live e = Some e
if_live Deleting e = None

-- the SA pair that goes for an SPI, if one does, with its serial
abbrev pub deleted_for : PairMap → ℕ → ℕ → Option (ℕ × Pair)
deleted_for pairs ike spi = option_and_then (λ e. if_live e.1.state e) (sender pairs ike spi)

-- the SA pairs that are left where one goes, or none
abbrev pub left_by : PairMap → Option (ℕ × Pair) → PairMap
left_by pairs None = pairs
left_by pairs (Some e) = remove pairs e.0

-- The SA pairs that go for these SPIs, with their serials. The SPIs are worked through in order, a choice of
-- this implementation: a pair that went for one is there no more for those named after it. So an SPI that is
-- named twice takes two pairs, where a peer gave it to two.
abbrev pub deleted_pairs : PairMap → ℕ → List ℕ → List (ℕ × Pair)
deleted_pairs pairs ike [] = []
deleted_pairs pairs ike (spi ∷ others) = cons_option (deleted_for pairs ike spi) (deleted_pairs (left_by pairs (deleted_for pairs ike spi)) ike others)

abbrev pub serials_of : List (ℕ × Pair) → List ℕ
serials_of es = map (λ (e : ℕ × Pair). e.0) es

-- the SPIs under which this end receives by them
abbrev pub inbound_spis_of : List (ℕ × Pair) → List ℕ
inbound_spis_of es = map (λ (e : ℕ × Pair). e.1.inbound.association.spi) es

-- the SA pairs that go, and the SPIs of the other direction, which the answer names (section 1.4.1)
abbrev pub deleted_by : PairMap → ℕ → List ℕ → DeletedPairs
deleted_by pairs ike spis = record {
  serials = serials_of (deleted_pairs pairs ike spis);
  inbound_spis = inbound_spis_of (deleted_pairs pairs ike spis);
}

-- the SA pairs but those with these serials
abbrev pub without : PairMap → List ℕ → PairMap
without pairs [] = pairs
without pairs (serial ∷ others) = without (remove pairs serial) others
