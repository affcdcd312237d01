-- What the calls for one ESP SA by itself do.
use Rattle.std.specs.Prelude.{◌≡◌, ◌⊎◌, ℕ, ◌+◌, ◌<◌, ◌≤◌, Option, None, Some, List, [], ◌++◌, length, take, drop}
use Rattle.esp.specs.Faults.{code_of_esp_fault}
use Rattle.esp.specs.Opening.{HandsUp, Refuses}
use Rattle.esp.specs.Packet.{BeginsWithItsSpi}
use Rattle.esp.specs.Sealing.{IsSealRefusal, Seals}
use Rattle.esp.specs.Views.{Receiving, Sending}
use Rattle.esp.specs.declared.fault.EspFault.{EspFault}
use Rattle.replay.specs.Window.{IsBlockCount, unused_window}
use Rattle.sukperin.specs.declared.simplex.SukOpened.{SukOpened}
use Rattle.sukperin.specs.declared.simplex.SukSealed.{SukSealed}
use Rattle.sukperin.specs.declared.end.End.{End}
use Rattle.sukperin.specs.declared.end.End.TheVariants.{Sender, Receiver}
use Rattle.sukperin.specs.declared.refusal.Refusal as refused
use Rattle.sukperin.specs.declared.refusal.Refusal.TheVariants as refusal
use Rattle.sukperin.specs.Codes.{code_of_refusal}
use Rattle.sukperin.specs.Flags.{is_set}

abbrev pub sender_of : ℕ → List ℕ → ℕ → ℕ → End
sender_of spi key extended last =
    Sender (record { association = record { spi = spi; key = key; extended = is_set extended }; last = last })

abbrev pub receiver_of : ℕ → List ℕ → ℕ → ℕ → End
receiver_of spi key extended blocks =
    Receiver (record { association = record { spi = spi; key = key; extended = is_set extended }; window = unused_window blocks })

-- Why no end was made, each where those before it don't apply: the handle is in use, the SPI is reserved,
-- memory.
abbrev pub IsSenderRefusal : Option End → ℕ → ℕ → Type 0
IsSenderRefusal (Some end) spi code = code ≡ 102
IsSenderRefusal None spi code = ((spi < 256) × (code ≡ 107)) ⊎ ((256 ≤ spi) × (code ≡ 20))

-- a receiver's blocks may be none that a window has
abbrev pub IsReceiverRefusal : Option End → ℕ → ℕ → ℕ → Type 0
IsReceiverRefusal (Some end) spi blocks code = code ≡ 102
IsReceiverRefusal None spi blocks code =
    ((spi < 256) × (code ≡ 107)) ⊎ (((256 ≤ spi) × (¬ IsBlockCount blocks) × (code ≡ 104)) ⊎ ((256 ≤ spi) × IsBlockCount blocks × (code ≡ 20)))

-- One packet is sealed at the beginning of a room that had enough octets for any packet with the payload.
-- What is behind stays.
pub record SealsIntoRoom (old : Sending) (next : ℕ) (payload room : List ℕ) (new : Sending) (told : SukSealed) (filled : List ℕ) : Type 0 where
  pub enough : length payload + 29 ≤ length room
  pub packet : List ℕ
  pub seals : Seals old next payload [] told.number new packet
  pub length_told : told.length ≡ length packet
  pub written : filled ≡ packet ++ drop (length packet) room

-- why no packet was sealed: the room is too short for some packet with the payload, or else as the
-- SA says
abbrev pub IsSealingRefusalAt : Sending → List ℕ → List ℕ → refused.Refusal → Type 0
IsSealingRefusalAt old payload room (refusal.ShortRoom) = length room < length payload + 29
IsSealingRefusalAt old payload room (refusal.Esp fault) = (length payload + 29 ≤ length room) × IsSealRefusal old payload fault
IsSealingRefusalAt old payload room _ = ⊥

-- the sender that the handle leads to seals, and the handle leads to it still
pub record SealsInto (old : Option End) (next : ℕ) (payload room : List ℕ) (new : Option End) (told : SukSealed) (filled : List ℕ) : Type 0 where
  pub sender : Sending
  pub after : Sending
  pub had : old ≡ Some (Sender sender)
  pub has : new ≡ Some (Sender after)
  pub seals : SealsIntoRoom sender next payload room after told filled

-- the code tells why: there is no sender, or it refuses
abbrev pub IsSealingRefusal : Option End → List ℕ → List ℕ → ℕ → Type 0
IsSealingRefusal (Some (Sender sender)) payload room code =
    (why : refused.Refusal) × (code ≡ code_of_refusal why) × IsSealingRefusalAt sender payload room why
IsSealingRefusal _ payload room code = code ≡ 101

-- The packet is judged, its number taken, and what it carries is told as a part of it.
pub record OpensAt (old : Receiving) (packet : List ℕ) (new : Receiving) (told : SukOpened) : Type 0 where
  pub within : told.offset + told.length ≤ length packet
  pub hands_up : HandsUp old packet told.number told.next (take told.length (drop told.offset packet)) new
  -- the payload stands behind SPI and sequence number
  pub behind_head : told.offset ≡ 8
  pub reserved : told.reserved ≡ 0

-- why it was not opened: it is for another SA, or as the SA says
abbrev pub IsOpeningRefusalAt : Receiving → List ℕ → refused.Refusal → Receiving → Type 0
IsOpeningRefusalAt old packet (refusal.OtherSpi) new = (¬ BeginsWithItsSpi old.association packet) × (new ≡ old)
IsOpeningRefusalAt old packet (refusal.Esp fault) new = BeginsWithItsSpi old.association packet × Refuses ⊥ old packet fault new
IsOpeningRefusalAt old packet _ new = ⊥

-- the receiver that the handle leads to opens, and the handle leads to it still
pub record OpensTo (old : Option End) (packet : List ℕ) (new : Option End) (told : SukOpened) : Type 0 where
  pub receiver : Receiving
  pub after : Receiving
  pub had : old ≡ Some (Receiver receiver)
  pub has : new ≡ Some (Receiver after)
  pub opens : OpensAt receiver packet after told

-- the code tells why: there is no receiver, or it refuses
abbrev pub IsOpeningRefusal : Option End → List ℕ → ℕ → Option End → Type 0
IsOpeningRefusal (Some (Receiver receiver)) packet code new =
    (why : refused.Refusal) × (after : Receiving) × (code ≡ code_of_refusal why) × (new ≡ Some (Receiver after))
    × IsOpeningRefusalAt receiver packet why after
IsOpeningRefusal old packet code new = (code ≡ 101) × (new ≡ old)
