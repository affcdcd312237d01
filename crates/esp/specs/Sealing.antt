-- What sealing one packet does (RFC 4303 section 3.3).
use Rattle.std.specs.Prelude.{◌≡◌, ℕ, ◌+◌, ◌<◌, ◌≤◌, List, [], ◌∷◌, ◌++◌, Some, length, map, slice_get, take}
use Rattle.std.specs.Borrow.{Bor}
use Rattle.esp.specs.declared.sa.Sa.{Sa}
use Rattle.esp.specs.Packet.{IsPacket, number_limit}
use Rattle.esp.specs.Views.{Sending}
use Rattle.esp.specs.declared.fault.EspFault.{EspFault}
use Rattle.esp.specs.declared.fault.ListStop.{ListStop}
use Rattle.esp.specs.declared.fault.EspFault.TheVariants.{Exhausted, PayloadSize, Memory}

-- b is a packet with sequence number n that carries the payload, with no more padding than any such packet
pub record IsShortestPacket (a : Sa) (n next : ℕ) (payload b : List ℕ) : Type 0 where
  pub p : ℕ
  pub packet : IsPacket a n next payload p b
  pub shortest : (q : ℕ) (c : List ℕ) → IsPacket a n next payload q c → p ≤ q

-- there is a sequence number for one more packet
abbrev pub HasNumber : Sending → Type 0
HasNumber s = s.last + 1 < number_limit s.association.extended

-- the payload is no longer than a packet may carry, in octets
abbrev pub FitsPacket : List ℕ → Type 0
FitsPacket payload = length payload ≤ 16384

-- the packet with sequence number n is appended, and n is the last number from then on
pub record Seals (old : Sending) (next : ℕ) (payload before : List ℕ) (n : ℕ) (new : Sending) (after : List ℕ) : Type 0 where
  pub has_number : HasNumber old
  pub fits : FitsPacket payload
  pub number : n ≡ old.last + 1
  pub last : new ≡ record old { last = n }
  pub packet : List ℕ
  pub appended : after ≡ before ++ packet
  pub shortest : IsShortestPacket old.association n next payload packet

-- why no packet was sealed, each where those before it don't apply: no sequence number is left, the payload
-- is too long, memory
abbrev pub IsSealRefusal : Sending → List ℕ → EspFault → Type 0
IsSealRefusal s payload Exhausted = ¬ HasNumber s
IsSealRefusal s payload PayloadSize = HasNumber s × (¬ FitsPacket payload)
IsSealRefusal s payload Memory = HasNumber s × FitsPacket payload
IsSealRefusal s payload _ = ⊥

-- several payloads, sealed one after the other
abbrev pub SealRun : Sending → ℕ → List (List ℕ) → List ℕ → Sending → List ℕ → Type 0
SealRun old next [] before new after = (new ≡ old) × (after ≡ before)
SealRun old next (p ∷ ps) before new after =
    (n : ℕ) × (mid : Sending) × (between : List ℕ) × Seals old next p before n mid between × SealRun mid next ps between new after

-- the octets of each payload of a list
abbrev pub payloads_of : List (Bor (List ℕ)) → List (List ℕ)
payloads_of payloads = map (λ payload. payload.now) payloads

-- The first k of these payloads were sealed in order, under consecutive sequence numbers, and their packets
-- appended.
pub record SealsFirst (k : ℕ) (old : Sending) (next : ℕ) (payloads : List (List ℕ)) (before : List ℕ) (new : Sending) (after : List ℕ) : Type 0 where
  pub within : k ≤ length payloads
  -- payload by payload, as so many calls one after the other seal them
  pub run : SealRun old next (take k payloads) before new after
  pub last : new ≡ record old { last = old.last + k }

-- The list was left after some of its payloads, and not at its end: sealing the next one is refused so.
pub record IsSealStop (old : Sending) (next : ℕ) (payloads : List (List ℕ)) (before : List ℕ) (stop : ListStop EspFault) (new : Sending) (after : List ℕ) : Type 0 where
  pub some_left : stop.done < length payloads
  pub first : SealsFirst stop.done old next payloads before new after
  pub refused : (payload : List ℕ) → slice_get payloads stop.done ≡ Some payload → IsSealRefusal new payload stop.fault

-- at least as many octets as the packets of these payloads have: a packet is its payload and 26 to 29 octets
-- more
abbrev pub most_octets : List (List ℕ) → ℕ
most_octets [] = 0
most_octets (payload ∷ payloads) = length payload + 29 + most_octets payloads
