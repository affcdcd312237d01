-- Sealing a list in steps: packets are laid one after the other with zeros in the place of their ICVs, and
-- then each gets its own.
use Rattle.std.specs.Prelude.{◌≡◌, ℕ, ◌+◌, ◌-◌, ◌/◌, ◌%◌, ◌^◌, ◌<◌, ◌≤◌, List, [], ◌∷◌, ◌++◌, length, map, get_or, take, drop, replicate, nat_le, if◌then◌else◌}
use Rattle.std.specs.Borrow.{Bor}
use Rattle.esp.specs.declared.sa.Sa.{Sa}
use Rattle.byteorder.specs.Endian.{big_bytes}
use Rattle.esp.specs.Packet.{head, trailer, check_value, number_limit}
use Rattle.esp.specs.Sealing.{HasNumber, FitsPacket}
use Rattle.esp.specs.Views.{Sending}

-- the least padding of a payload of so many octets
abbrev pub pad_of : ℕ → ℕ
pad_of octets = (4 - (octets + 2) % 4) % 4

-- the octets of its packet that the ICV covers
abbrev pub covered_size : ℕ → ℕ
covered_size octets = 8 + octets + pad_of octets + 2

-- the octets of its packet
abbrev pub packet_size : ℕ → ℕ
packet_size octets = covered_size octets + 16

abbrev pub covered : Sa → ℕ → ℕ → List ℕ → List ℕ
covered a n next payload = head a n ++ payload ++ trailer (pad_of (length payload)) next

-- the end has a sequence number for the payload, which a packet can carry: this number, and this padding
pub record IsReady (s : Sending) (payload : List ℕ) (n pad : ℕ) : Type 0 where
  pub has_number : HasNumber s
  pub fits : FitsPacket payload
  pub number : n ≡ s.last + 1
  pub least : pad ≡ pad_of (length payload)

-- the packet with the sequence number after the last is appended, with zeros in the place of its ICV
pub record Lays (old : Sending) (next : ℕ) (payload before : List ℕ) (new : Sending) (after : List ℕ) : Type 0 where
  pub has_number : HasNumber old
  pub fits : FitsPacket payload
  pub last : new ≡ record old { last = old.last + 1 }
  pub appended : after ≡ before ++ (covered old.association (old.last + 1) next payload ++ replicate 16 0)

-- of a room so many octets may have changed, and what is behind them stands there still
pub record StaysBehind (octets : ℕ) (room filled : List ℕ) : Type 0 where
  pub size : length filled ≡ length room
  pub rest : drop octets filled ≡ drop octets room

-- the packet with the sequence number after the last stands at a room's beginning, with zeros in the place of
-- its ICV; what is behind it stands there still
pub record LaysIn (old : Sending) (next : ℕ) (payload room : List ℕ) (new : Sending) (filled : List ℕ) : Type 0 where
  pub lays : Lays old next payload [] new (take (packet_size (length payload)) filled)
  pub behind : StaysBehind (packet_size (length payload)) room filled

-- the packets of these payloads, with the sequence numbers after this one
abbrev pub laid : Sa → ℕ → ℕ → List (List ℕ) → List ℕ
laid a last next [] = []
laid a last next (p ∷ ps) = (covered a (last + 1) next p ++ replicate 16 0) ++ laid a (last + 1) next ps

-- the first k of these payloads are laid
pub record LaysFirst (k : ℕ) (old : Sending) (next : ℕ) (payloads : List (List ℕ)) (before : List ℕ) (new : Sending) (after : List ℕ) : Type 0 where
  pub within : k ≤ length payloads
  pub fit : (i : ℕ) → i < k → FitsPacket (get_or payloads i [])
  pub have_numbers : 1 ≤ k → old.last + k < number_limit old.association.extended
  pub last : new ≡ record old { last = old.last + k }
  pub appended : after ≡ before ++ laid old.association old.last next (take k payloads)

-- the octets of each packet that its ICV covers
abbrev pub covered_sizes : List (Bor (List ℕ)) → List ℕ
covered_sizes payloads = map (λ payload. covered_size (length payload.now)) payloads

-- the high halves of the sequence numbers after this one
pub record AreHighHalves (last count : ℕ) (halves : List (List ℕ)) : Type 0 where
  pub each : (i : ℕ) → i < count → get_or halves i [] ≡ big_bytes 4 ((last + 1 + i) / 2 ^ 32)

-- the octets of packets of which so many are covered
abbrev pub packets_size : List ℕ → ℕ
packets_size [] = 0
packets_size (size ∷ sizes) = size + 16 + packets_size sizes

-- the ICVs of packets that lie one after the other, with the sequence numbers after this one
abbrev pub values_in : Sa → ℕ → List ℕ → List ℕ → List (List ℕ)
values_in a last [] octets = []
values_in a last (size ∷ sizes) octets =
    check_value a (last + 1) (take size octets) ∷ values_in a (last + 1) sizes (drop (size + 16) octets)

-- packets that lie one after the other, with these ICVs
abbrev pub with_values : List ℕ → List (List ℕ) → List ℕ → List ℕ
with_values (size ∷ sizes) (value ∷ values) octets =
    (take size octets ++ value) ++ with_values sizes values (drop (size + 16) octets)
with_values sizes values octets = octets

-- a packet that was laid, with its ICV under this sequence number in place of its last 16 octets; fewer
-- octets are no packet, and stay as they are
unfoldable pub finished : Sa → ℕ → List ℕ → List ℕ
finished a n octets =
    if nat_le 16 (length octets) then take (length octets - 16) octets ++ check_value a n (take (length octets - 16) octets) else octets

-- the same, where so many octets stand before the packet
abbrev pub finished_behind : ℕ → Sa → ℕ → List ℕ → List ℕ
finished_behind start a n octets = take start octets ++ finished a n (drop start octets)
