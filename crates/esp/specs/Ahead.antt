-- Opening a list in steps: ICVs are computed before their packets are judged, and packets are opened in
-- groups.
use Rattle.std.specs.Prelude.{◌≡◌, ℕ, ◌-◌, ◌/◌, ◌^◌, ◌<◌, ◌≤◌, List, [], ◌++◌, Option, Some, None, IsSome, length, take, get_or}
use Rattle.byteorder.specs.Endian.{big_bytes}
use Rattle.esp.specs.declared.sa.Sa.{Sa}
use Rattle.esp.specs.declared.ahead.Asked.{Asked}
use Rattle.esp.specs.declared.ahead.Ahead.{Ahead}
use Rattle.esp.specs.Packet.{check_value}
use Rattle.esp.specs.Opening.{Answer, IsFreshNumber, Run}
use Rattle.esp.specs.Views.{Receiving}

-- what the ICV of this packet is under this sequence number
abbrev pub value_of : Sa → ℕ → List ℕ → List ℕ
value_of a n b = check_value a n (take (length b - 16) b)

-- one of these packets is asked for, which is long enough for an ICV, with the high half of its sequence
-- number
pub record IsAsked (packets : List (List ℕ)) (one : Asked) : Type 0 where
  pub within : one.place < length packets
  pub long : 16 ≤ length (get_or packets one.place [])
  pub half : one.half ≡ big_bytes 4 (one.number / 2 ^ 32)

-- its sequence number is that of the packet, as the receiver is, and was not taken
abbrev pub HasFreshNumber : Receiving → List (List ℕ) → Asked → Type 0
HasFreshNumber r packets one = IsFreshNumber r (get_or packets one.place []) one.number

-- the ICV that is asked for
abbrev pub value_asked : Sa → List (List ℕ) → Asked → List ℕ
value_asked a packets one = value_of a one.number (get_or packets one.place [])

-- the value is that of the packet under the sequence number
pub record IsAhead (a : Sa) (b : List ℕ) (found : Ahead) : Type 0 where
  pub right : found.value ≡ value_of a found.number b

-- each value that was computed ahead is that of the packet at its place
pub record AreAhead (a : Sa) (packets : List (List ℕ)) (ahead : List (Option Ahead)) : Type 0 where
  pub each : (i : ℕ) (found : Ahead) → get_or ahead i None ≡ Some found → IsAhead a (get_or packets i []) found

-- a value stands at the place of the packet that is asked for
abbrev pub HasAhead : List (Option Ahead) → Asked → Type 0
HasAhead ahead one = IsSome (get_or ahead one.place None)

-- The first k of these packets were delivered in order, and their answers were appended.
pub record RunsFirst (want : Type 0) (k : ℕ) (old : Receiving) (packets : List (List ℕ)) (before : List Answer) (new : Receiving) (after : List Answer) : Type 0 where
  pub within : k ≤ length packets
  pub answers : List Answer
  pub appended : after ≡ before ++ answers
  pub count : length answers ≡ k
  pub run : Run want old (take k packets) answers new
