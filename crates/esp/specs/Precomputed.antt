-- ICVs that are computed before their packets are opened, for packets of one SA or of several.
use Rattle.std.specs.Prelude.{◌≡◌, ℕ, ◌-◌, ◌/◌, ◌^◌, ◌<◌, List, [], ◌++◌, if◌then◌else◌, Option, Some, None, length, take, get_or}
use Rattle.byteorder.specs.Endian.{big_bytes}
use Rattle.mac.specs.Hmac.{icv_sha256}
use Rattle.esp.specs.declared.precomputed.Asked.{Asked}
use Rattle.esp.specs.declared.precomputed.Precomputed.{Precomputed}
use Rattle.esp.specs.declared.precomputed.Question.{Question}
use Rattle.esp.specs.Packet.{unsent_half}

-- the question is about this packet: the octets that its ICV covers, and the half of its sequence number that
-- is not sent
pub record IsQuestion (b : List ℕ) (question : Question) : Type 0 where
  pub covered : question.covered.now ≡ take (length b - 16) b
  pub half : question.half ≡ big_bytes 4 (question.number / 2 ^ 32)

-- the ICV that is asked for
abbrev pub asked_value : Question → List ℕ
asked_value question =
    icv_sha256 question.association.now.key (question.covered.now ++ (if question.association.now.extended then question.half else []))

abbrev pub value_of_asked : Asked → List ℕ
value_of_asked one = asked_value one.question.now

-- the value is the packet's ICV under the key and the sequence number that stand beside it
pub record IsPrecomputed (b : List ℕ) (found : Precomputed) : Type 0 where
  pub right : found.value ≡ icv_sha256 found.key (take (length b - 16) b ++ unsent_half found.extended found.number)

-- each question is about the packet at its place
pub record AreQuestions (packets : ℕ → List ℕ) (questions : List (Option Question)) : Type 0 where
  pub each : (i : ℕ) (question : Question) → get_or questions i None ≡ Some question → IsQuestion (packets i) question

-- each value is that of the packet at its place
pub record ArePrecomputed (packets : ℕ → List ℕ) (values : List (Option Precomputed)) : Type 0 where
  pub each : (i : ℕ) (found : Precomputed) → get_or values i None ≡ Some found → IsPrecomputed (packets i) found

-- it is the question at its place
pub record IsAskedIn (questions : List (Option Question)) (one : Asked) : Type 0 where
  pub within : one.place < length questions
  pub there : get_or questions one.place None ≡ Some one.question.now
