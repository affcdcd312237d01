-- A worked list of deliveries, for which the assumption of the theorem is shown to hold.
use Rattle.std.specs.Prelude.{◌≡◌, ℕ, Bool, true, false, List, [], ◌∷◌, Some, None, replicate, length}
use Rattle.std.specs.FinSet as set
use Rattle.std.specs.FinMap as map
use Rattle.std.specs.Ordering.{nat_cmp}
use Rattle.esp.specs.declared.sa.Sa.{Sa}
use Rattle.esp.specs.Packet.{packet, PassesIntegrity, IsContents}
use Rattle.esp.specs.Judging.{IsJudgedLength}
use Rattle.esp.specs.Delivery.{History, IsJudged, Unforged}

-- SPI 256, a key of 32 octets 0b
abbrev pub worked : Bool → Sa
worked extended = record { spi = 256; key = replicate 32 11; extended = extended }

-- an IPv4 header of 20 octets, from 10.0.0.1 to 10.1.0.1
abbrev pub worked_payload : List ℕ
worked_payload =
    0x45 ∷ 0 ∷ 0 ∷ 0x14 ∷ 0 ∷ 0 ∷ 0 ∷ 0 ∷ 0x40 ∷ 1 ∷ 0 ∷ 0 ∷ 0x0a ∷ 0 ∷ 0 ∷ 1 ∷ 0x0a ∷ 1 ∷ 0 ∷ 1 ∷ []

-- the packet with sequence number n that carries it
abbrev pub worked_packet : Bool → ℕ → List ℕ
worked_packet extended n = packet (worked extended) n 4 worked_payload 2

-- without extension: sequence number 7 is delivered, and delivered again
abbrev pub repeated : History
repeated = record {
  association = worked false;
  size = 64;
  before = set.empty;
  packets = worked_packet false 7 ∷ worked_packet false 7 ∷ [];
  numbers = Some 7 ∷ None ∷ [];
}

abbrev pub repeated_sent : map.FinMap nat_cmp (List ℕ)
repeated_sent = map.insert map.empty 7 (worked_packet false 7)

-- with extension: the last sequence number that 64 numbers below 2 ^ 32 leave in reach, and then 2 ^ 32
-- itself
abbrev pub crossing : History
crossing = record {
  association = worked true;
  size = 64;
  before = set.empty;
  packets = worked_packet true 4294967232 ∷ worked_packet true 4294967296 ∷ [];
  numbers = Some 4294967232 ∷ Some 4294967296 ∷ [];
}

abbrev pub crossing_sent : map.FinMap nat_cmp (List ℕ)
crossing_sent = map.insert (map.insert map.empty 4294967232 (worked_packet true 4294967232)) 4294967296 (worked_packet true 4294967296)

-- the packets were judged so, and the assumption holds of them
pub record IsWorked (h : History) (sent : map.FinMap nat_cmp (List ℕ)) : Type 0 where
  pub judged : IsJudged h
  pub unforged : Unforged h sent

-- what a sealed packet is to its receiver: it has a length that is judged, passes the integrity check under
-- its sequence number, and carries its payload and no other
pub record IsOpenable (a : Sa) (n next : ℕ) (payload b : List ℕ) : Type 0 where
  pub whole : IsJudgedLength (length b)
  pub intact : PassesIntegrity a n b
  pub contents : IsContents b next payload
  pub no_other : (next' : ℕ) (payload' : List ℕ) → IsContents b next' payload' → (next' ≡ next) × (payload' ≡ payload)
