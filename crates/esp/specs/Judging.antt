-- When a delivered packet is judged as a sequence number (RFC 4303 sections 3.4.3 and 3.4.4).
use Rattle.std.specs.Prelude.{◌≡◌, ℕ, ◌+◌, ◌%◌, ◌<◌, ◌≤◌, Bool, true, false, List, length, drop}
use Rattle.std.specs.FinSet as set
use Rattle.byteorder.specs.Endian.{big_number}
use Rattle.replay.specs.Recovery.{IsRecovered}
use Rattle.replay.specs.Window.{Seen}
use Rattle.esp.specs.declared.sa.Sa.{Sa}
use Rattle.esp.specs.Packet.{PassesIntegrity}

-- a packet's length in octets: whole words, from an empty payload up to one of 16,384 octets under the
-- longest padding
pub record IsJudgedLength (octets : ℕ) : Type 0 where
  pub words : octets % 4 ≡ 0
  pub least : 28 ≤ octets
  pub most : octets ≤ 16664

-- the low half of the sequence number, as the packet has it in octets 4 to 7
abbrev pub low_half : List ℕ → ℕ
low_half b = big_number 4 (drop 4 b)

-- n is the sequence number of a packet with this low half: the low half itself, or with ESN what is recovered
-- from it at this window. No packet has the number 0.
abbrev pub IsNumber : Bool → Seen → ℕ → ℕ → Type 0
IsNumber false w low n = (n ≡ low) × (1 ≤ n)
IsNumber true w low n = IsRecovered w.top w.size low n

-- the packet b is judged as sequence number n, where the window is this one
pub record Judges (a : Sa) (w : Seen) (b : List ℕ) (n : ℕ) : Type 0 where
  pub whole : IsJudgedLength (length b)
  pub number : IsNumber a.extended w (low_half b) n
  pub in_reach : w.top < n + w.size
  pub new : set.contains w.taken n ≡ false
  pub intact : PassesIntegrity a n b
