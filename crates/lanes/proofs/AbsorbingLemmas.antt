-- One block more in a lane, or none.
use Rattle.std.proofs.Common.{◌≡◌, ℕ, ◌+◌, ◌*◌, ◌<◌, List, take, drop, min, nat_eq, if◌then◌else◌, ap, sym, ◌∙◌, inl, inr, arith}
use Rattle.std.proofs.lemmas.Bool.{cases_lt}
use Rattle.sha2.specs.Sha256.{compress, hash_after}
use Rattle.sha2.proofs.Absorbing256.{hash_after_next}
use Rattle.lanes.specs.Lane.{IsLive}

pub next-is : (start octets state next : List ℕ) (index count : ℕ) → index < count → state ≡ hash_after start octets (min index count)
    → next ≡ compress state (take 64 (drop (index * 64) octets)) → next ≡ hash_after start octets (min (index + 1) count)
next-is start octets state next index count below held is =
    let before : min index count ≡ index = omega arith in
    let after : min (index + 1) count ≡ index + 1 = omega arith in
    let now : state ≡ hash_after start octets index = held ∙ ap (hash_after start octets) before in
    is ∙ ap (λ (s : List ℕ). compress s (take 64 (drop (index * 64) octets))) now
    ∙ sym (hash_after_next start octets index) ∙ ap (hash_after start octets) (sym after)

pub step-is : (start octets state next chosen : List ℕ) (flag index count : ℕ) → state ≡ hash_after start octets (min index count)
    → (index < count → next ≡ compress state (take 64 (drop (index * 64) octets))) → IsLive index count flag
    → chosen ≡ (if nat_eq flag 0 then state else next) → chosen ≡ hash_after start octets (min (index + 1) count)
step-is start octets state next chosen flag index count held is flagged chosen_is = elim (cases_lt index count) [
  | inl below ↦
      chosen_is ∙ ap (λ (f : ℕ). if nat_eq f 0 then state else next) (flagged.live below) ∙ next-is start octets state next index count below held (is below)
  | inr past ↦
      let same : min index count ≡ min (index + 1) count = omega arith in
      chosen_is ∙ ap (λ (f : ℕ). if nat_eq f 0 then state else next) (flagged.ended past) ∙ held ∙ ap (hash_after start octets) same
]
