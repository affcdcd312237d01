-- How a table keeps its content: what came of each SPI given, and the SA pairs in a slab with an index from
-- serials to keys. No public clause speaks of these.
use Rattle.std.specs.Prelude.{◌≡◌, ◌⊎◌, ◌+◌, ◌≤◌, ℕ, zero, suc, Bool, true, false, List, Option, Some, None, length, slice_index_or, refl}
use Rattle.std.specs.Ordering.{nat_cmp}
use Rattle.std.specs.Coded.{Coded, code_by, coded×, coded_ℕ}
use Rattle.std.specs.FinMap as map
use Rattle.std.specs.FinSet as set
use Rattle.esp.specs.Opening.{HandsUp, Refuses}
use Rattle.esp.specs.Sealing.{Seals}
use Rattle.esp.specs.Views.{Receiving, Sending}
use Rattle.esp.specs.declared.fault.EspFault.{EspFault}
use Rattle.slab.specs.Slab.{Slab, get, slab_len}
use Rattle.replay.specs.Window.{IsSoundWindow}
use Rattle.sadb.specs.declared.pair.Pair.{Pair}
use Rattle.sadb.specs.declared.pair.State.TheVariants.{Deleting}
use Rattle.sadb.specs.declared.places.Place.{Place}
use Rattle.sadb.specs.declared.places.Place.TheVariants.{Reserved, Held, Gone}
use Rattle.sadb.specs.Database.{Database, BelongsTo, IsStart, PairMap, Removes, pair_at}
use Rattle.sadb.specs.Numbered.{numbered, passing}
use Rattle.sadb.specs.Views.{pair_code}

-- The SA pairs: the serial of the next one, each under its serial, and for how many more there is room
-- without memory.
pub record PairsBySerial : Type 0 where
  pub next : ℕ
  pub pairs : map.FinMap nat_cmp Pair
  pub room : ℕ

abbrev pub by_serial_code : Coded PairsBySerial
by_serial_code =
    code_by (ℕ × (map.FinMap nat_cmp Pair × ℕ)) (coded× coded_ℕ (coded× (map.code coded_ℕ pair_code) coded_ℕ)) (λ s. (s.next, (s.pairs, s.room))) (λ c. record { next = c.0; pairs = c.1.0; room = c.1.1 }) (λ _. refl)

-- the slab's key of the SA pair of the serial i + 1
abbrev pub slab_key_at : List (Option ℕ) → ℕ → Option ℕ
slab_key_at keys i = slice_index_or keys i None

abbrev pub key_of : List (Option ℕ) → ℕ → Option ℕ
key_of keys zero = None
key_of keys (suc i) = slab_key_at keys i

abbrev pub at_key : Slab Pair → Option ℕ → Option Pair
at_key slab None = None
at_key slab (Some key) = get slab key

abbrev pub serial_of : Option Pair → Option ℕ
serial_of None = None
serial_of (Some pair) = Some pair.serial

abbrev pub spi_of : Option Pair → Option ℕ
spi_of None = None
spi_of (Some pair) = Some pair.inbound.association.spi

-- the SA pairs of a slab by their serials
abbrev pub shown_pairs : List (Option ℕ) → Slab Pair → map.FinMap nat_cmp Pair
shown_pairs keys slab = numbered 1 (λ i. at_key slab (slab_key_at keys i)) (length keys)

-- what holds of the slab and the index by serial: each leads to the other
pub record IsIndexed (keys : List (Option ℕ)) (slab : Slab Pair) : Type 0 where
  pub there : (i key : ℕ) → slab_key_at keys i ≡ Some key → serial_of (get slab key) ≡ Some (i + 1)
  pub back : (key serial : ℕ) → serial_of (get slab key) ≡ Some serial → key_of keys serial ≡ Some key
  pub counted : slab_len slab ≡ map.len (shown_pairs keys slab)
  pub windows : (key : ℕ) (pair : Pair) → get slab key ≡ Some pair → IsSoundWindow pair.inbound.window

-- The SPIs given: the first one, how many there are, those reserved, the serials of the SA pairs of others,
-- and how many more fit without memory.
pub record GivenSpis : Type 0 where
  pub start : ℕ
  pub given : ℕ
  pub reserved : set.FinSet nat_cmp
  pub serials : map.FinMap nat_cmp ℕ
  pub room : ℕ

abbrev pub given_spis_code : Coded GivenSpis
given_spis_code =
    code_by
    (ℕ × (ℕ × (set.FinSet nat_cmp × (map.FinMap nat_cmp ℕ × ℕ))))
    (coded× coded_ℕ (coded× coded_ℕ (coded× (set.code coded_ℕ) (coded× (map.code coded_ℕ coded_ℕ) coded_ℕ))))
    (λ x. (x.start, (x.given, (x.reserved, (x.serials, x.room)))))
    (λ c. record { start = c.0; given = c.1.0; reserved = c.1.1.0; serials = c.1.1.1.0; room = c.1.1.1.1 })
    (λ _. refl)

abbrev pub place_at : List Place → ℕ → Place
place_at places i = slice_index_or places i Gone

abbrev pub is_reserved : Place → Bool
is_reserved Reserved = true
is_reserved (Held serial) = false
is_reserved Gone = false

abbrev pub serial_at : Place → Option ℕ
serial_at Reserved = None
serial_at (Held serial) = Some serial
serial_at Gone = None

abbrev pub shown_reserved : ℕ → List Place → set.FinSet nat_cmp
shown_reserved start places = passing start (λ i. is_reserved (place_at places i)) (length places)

abbrev pub shown_serials : ℕ → List Place → map.FinMap nat_cmp ℕ
shown_serials start places = numbered start (λ i. serial_at (place_at places i)) (length places)

pub record AreGiven (start : ℕ) (places : List Place) (reserved : ℕ) : Type 0 where
  pub begins : IsStart start
  pub few : length places ≤ 65536
  pub within : reserved ≤ length places
  pub counted : reserved ≡ set.len (shown_reserved start places)

-- what holds of the SPIs given and the SA pairs by serial that belong together
pub record IsTable (x : GivenSpis) (s : PairsBySerial) : Type 0 where
  pub given : x.given ≤ 65536
  -- there is room for the SA pair of each reserved SPI
  pub room : set.len x.reserved ≤ s.room
  pub few : map.len s.pairs + set.len x.reserved ≤ 1024
  -- a serial is given for an SPI that was given
  pub serials : s.next + set.len x.reserved ≤ x.given + 1
  -- the serial of an SPI's SA pair, and the SPI of a serial's pair
  pub there : (spi serial : ℕ) → map.get x.serials spi ≡ Some serial → spi_of (map.get s.pairs serial) ≡ Some spi
  pub back : (serial spi : ℕ) → spi_of (map.get s.pairs serial) ≡ Some spi → map.get x.serials spi ≡ Some serial

-- What a call does to one SA pair of the map, and to no other.

-- the SA pair with this serial is Deleting from then on
pub record MarksPair (old : PairMap) (serial : ℕ) (new : PairMap) : Type 0 where
  pub pair : Pair
  pub there : pair_at old serial ≡ Some pair
  pub changed : new ≡ map.insert old serial (record pair { state = Deleting })

-- the inbound SA of the SA pair with this serial delivers the packet's payload, and no other pair is changed
pub record OpensPair (old : PairMap) (serial : ℕ) (packet : List ℕ) (number next : ℕ) (payload : List ℕ) (new : PairMap) : Type 0 where
  pub pair : Pair
  pub there : pair_at old serial ≡ Some pair
  pub inbound : Receiving
  pub opened : HandsUp pair.inbound packet number next payload inbound
  pub changed : new ≡ map.insert old serial (record pair { inbound = inbound })

-- it refuses the packet, never because of an allocation failure, and no other SA pair is changed
pub record RefusesPair (old : PairMap) (serial : ℕ) (packet : List ℕ) (fault : EspFault) (new : PairMap) : Type 0 where
  pub pair : Pair
  pub there : pair_at old serial ≡ Some pair
  pub inbound : Receiving
  pub refused : Refuses ⊥ pair.inbound packet fault inbound
  pub changed : new ≡ map.insert old serial (record pair { inbound = inbound })

-- the outbound SA of the SA pair with this serial seals a packet, and no other pair is changed
pub record SealsPair (old : PairMap) (serial next : ℕ) (payload before : List ℕ) (number : ℕ) (new : PairMap) (after : List ℕ) : Type 0 where
  pub pair : Pair
  pub there : pair_at old serial ≡ Some pair
  pub outbound : Sending
  pub sealed : Seals pair.outbound next payload before number outbound after
  pub changed : new ≡ map.insert old serial (record pair { outbound = outbound })

-- an SA pair is removed, if it belongs to this IKE SA
abbrev pub RemovesIfOf : Database → ℕ → ℕ → Database → Type 0
RemovesIfOf old ike serial new =
    (BelongsTo old.pairs ike serial × Removes old serial new) ⊎ ((¬ BelongsTo old.pairs ike serial) × (new ≡ old))
