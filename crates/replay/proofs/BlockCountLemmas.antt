-- The powers of two from 2 to 128, one by one.
use Rattle.std.proofs.Common.{rules, ◌≡◌, ℕ, ◌≤◌, ◌^◌, ◌⊎◌, inl, inr, zero, suc, lit≤, arith, Bool, true, false, nat_eq, refl, sym, subst}
use Rattle.std.specs.Prelude.{◌||◌}
use Rattle.replay.specs.Window.{IsBlockCount}
use Rattle.replay.specs.Blocks.{is_power}

abbrev pub IsOneOfSeven : ℕ → Type 0
IsOneOfSeven m = (m ≡ 2) ⊎ ((m ≡ 4) ⊎ ((m ≡ 8) ⊎ ((m ≡ 16) ⊎ ((m ≡ 32) ⊎ ((m ≡ 64) ⊎ (m ≡ 128))))))

powers : (m k : ℕ) → 1 ≤ k → k ≤ 7 → m ≡ 2 ^ k → IsOneOfSeven m
powers m zero least most e = absurd (omega arith)
powers m (suc zero) least most e = inl e
powers m (suc (suc zero)) least most e = inr (inl e)
powers m (suc (suc (suc zero))) least most e = inr (inr (inl e))
powers m (suc (suc (suc (suc zero)))) least most e = inr (inr (inr (inl e)))
powers m (suc (suc (suc (suc (suc zero))))) least most e = inr (inr (inr (inr (inl e))))
powers m (suc (suc (suc (suc (suc (suc zero)))))) least most e = inr (inr (inr (inr (inr (inl e)))))
powers m (suc (suc (suc (suc (suc (suc (suc zero))))))) least most e = inr (inr (inr (inr (inr (inr e)))))
powers m (suc (suc (suc (suc (suc (suc (suc (suc k)))))))) least most e = absurd (omega arith)

pub one_of_seven : (m : ℕ) → IsBlockCount m → IsOneOfSeven m
one_of_seven m (k, least, most, e) = powers m k least most e

pub block_count : (m : ℕ) → IsOneOfSeven m → IsBlockCount m
block_count m one =
    elim one [
      | inl e ↦ (1, lit≤ tt, lit≤ tt, e)
      | inr a ↦ elim a [
        | inl e ↦ (2, lit≤ tt, lit≤ tt, e)
        | inr b ↦ elim b [
          | inl e ↦ (3, lit≤ tt, lit≤ tt, e)
          | inr c ↦ elim c [
            | inl e ↦ (4, lit≤ tt, lit≤ tt, e)
            | inr d ↦ elim d [
              | inl e ↦ (5, lit≤ tt, lit≤ tt, e)
              | inr f ↦ elim f [ inl e ↦ (6, lit≤ tt, lit≤ tt, e) | inr e ↦ (7, lit≤ tt, lit≤ tt, e) ]
            ]
          ]
        ]
      ]
    ]

pub at_least_two : (m : ℕ) → IsBlockCount m → 2 ≤ m
at_least_two m count = let one : IsOneOfSeven m = one_of_seven m count in grind arith

pub at_most_128 : (m : ℕ) → IsBlockCount m → m ≤ 128
at_most_128 m count = let one : IsOneOfSeven m = one_of_seven m count in grind arith

either_of : (a b : Bool) → (a || b) ≡ true → (a ≡ true) ⊎ (b ≡ true)
either_of true b is = inl refl
either_of false b is = inr is

same : (m n : ℕ) → nat_eq m n ≡ true → m ≡ n
same m n is = search rules

pub power_count : (m : ℕ) → is_power m ≡ true → IsBlockCount m
unfolding is_power
power_count m power =
    block_count m (
    elim (either_of _ _ power) [
      | inl e ↦ inl (same m 2 e)
      | inr a ↦ inr (elim (either_of _ _ a) [
        | inl e ↦ inl (same m 4 e)
        | inr b ↦ inr (elim (either_of _ _ b) [
          | inl e ↦ inl (same m 8 e)
          | inr c ↦ inr (elim (either_of _ _ c) [
            | inl e ↦ inl (same m 16 e)
            | inr d ↦ inr (elim (either_of _ _ d) [
              | inl e ↦ inl (same m 32 e)
              | inr f ↦ inr (elim (either_of _ _ f) [ inl e ↦ inl (same m 64 e) | inr e ↦ inr (same m 128 e) ])
            ])
          ])
        ])
      ])
    ]
    )

is_one : (m n : ℕ) → m ≡ n → is_power n ≡ true → is_power m ≡ true
is_one m n e power = subst (λ (k : ℕ). is_power k ≡ true) (sym e) power

pub count_power : (m : ℕ) → IsBlockCount m → is_power m ≡ true
unfolding is_power
count_power m count =
    elim (one_of_seven m count) [
      | inl e ↦ is_one m 2 e refl
      | inr a ↦ elim a [
        | inl e ↦ is_one m 4 e refl
        | inr b ↦ elim b [
          | inl e ↦ is_one m 8 e refl
          | inr c ↦ elim c [
            | inl e ↦ is_one m 16 e refl
            | inr d ↦ elim d [
              | inl e ↦ is_one m 32 e refl
              | inr f ↦ elim f [ inl e ↦ is_one m 64 e refl | inr e ↦ is_one m 128 e refl ]
            ]
          ]
        ]
      ]
    ]
