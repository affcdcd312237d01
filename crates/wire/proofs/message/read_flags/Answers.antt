use Rattle.std.proofs.Common.{◌≡◌, ℕ, zero, suc, ◌*◌, ◌/◌, ◌%◌, ◌^◌, ◌<◌, Bool, eqb, bit_and, sym, ap, ◌∙◌, refl, arith}
use Rattle.std.specs.Prelude.{not}
use Rattle.std.proofs.lemmas.Nat.Bits.{and_pow}
use Rattle.std.proofs.Math.Nat.{zero-mul, one-mul, mod-lt}
use Rattle.wire.proofs.Loops.{positive}
use Rattle.wire.specs.declared.message.Flags.{Flags}
use Rattle.wire.specs.Reading.{bit_of}
use Rattle.wire.proofs.message.read_flags.Goals as goal

-- a bit that is not 0 is 1
one_bit : (b m : ℕ) → b < 2 → 0 < m → not (eqb (b * m) 0) ≡ eqb b 1
one_bit zero m small some = rw zero-mul refl
one_bit (suc zero) m small some = rw (one-mul, positive m some) refl
one_bit (suc (suc b)) m small some = absurd (omega arith)

tests_bit : (n k m : ℕ) → 0 < m → m ≡ 2 ^ k → not (eqb (bit_and n m) 0) ≡ bit_of k n
tests_bit n k m some e =
    let and_is : bit_and n m ≡ (n / 2 ^ k % 2) * m = ap (λ (x : ℕ). bit_and n x) e ∙ and_pow n k ∙ ap (λ (x : ℕ). (n / 2 ^ k % 2) * x) (sym e) in
    ap (λ (x : ℕ). not (eqb x 0)) and_is ∙ one_bit (n / 2 ^ k % 2) m (mod-lt (n / 2 ^ k) (omega arith)) some

pub returns : goal.returns
returns c =
    let x = c.args.octet in
    let flags : Bool → Bool → Bool → Flags = λ i v r. record { initiator = i; version = v; response = r } in
    ap (λ b. flags b (not (eqb (bit_and x 16) 0)) (not (eqb (bit_and x 32) 0))) (tests_bit x 3 8 (omega arith) refl)
    ∙ ap (λ b. flags (bit_of 3 x) b (not (eqb (bit_and x 32) 0))) (tests_bit x 4 16 (omega arith) refl)
    ∙ ap (λ b. flags (bit_of 3 x) (bit_of 4 x) b) (tests_bit x 5 32 (omega arith) refl)
