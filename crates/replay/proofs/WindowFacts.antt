-- What follows of every window, for those who prove something about one.
use Rattle.std.specs.Prelude.{◌≡◌, ℕ, ◌+◌, ◌^◌, ◌<◌, ◌≤◌, Bool, true, false, if◌then◌else◌, ◌&&◌, ◌||◌, nat_eq, nat_lt, nat_le, ◌⊎◌, refl}
use Rattle.std.specs.FinSet as set
use Rattle.std.proofs.Common.{arith, sym, ◌∙◌, ap, inl, inr, eq-eqb}
use Rattle.std.proofs.lemmas.Bool.Decides.{nat_tests, leb_tells}
use Rattle.replay.specs.declared.window.Judgement.TheVariants.{Zero, Old, Taken, Fresh}
use Rattle.replay.specs.Window.{Seen, IsSoundWindow, judgement, Takes}

-- what it means that a sequence number is fresh
pub record IsFresh (w : Seen) (n : ℕ) : Type 0 where
  pub not_zero : 1 ≤ n
  pub not_old : w.top < n + w.size
  pub not_taken : set.contains w.taken n ≡ false

fresh_cases : (zero old taken : Bool) → (if zero then Zero else if old then Old else if taken then Taken else Fresh) ≡ Fresh → (zero ≡ false) × (old ≡ false) × (taken ≡ false)
fresh_cases true old taken is = cc
fresh_cases false true taken is = cc
fresh_cases false false true is = cc
fresh_cases false false false is = (refl, refl, refl)

pub fresh : (w : Seen) (n : ℕ) → judgement w n ≡ Fresh → IsFresh w n
fresh w n is =
    let parts : (nat_eq n 0 ≡ false) × (nat_le (n + w.size) w.top ≡ false) × (set.contains w.taken n ≡ false) = fresh_cases _ _ _ is in
    let zero : nat_eq n 0 ≡ false = parts.0 in
    let old : nat_le (n + w.size) w.top ≡ false = parts.1 in
    record { not_zero = grind (arith, nat_tests, zero); not_old = grind (arith, nat_tests, old); not_taken = parts.2 }

-- a sequence number of the new window was in the old one or is the new one, and lies in the new span
record IsKept (old new : Seen) (n q : ℕ) : Type 0 where
  from : (q ≡ n) ⊎ (set.contains old.taken q ≡ true)
  in_span : new.top < q + new.size

kept_cases : (is_new was_taken in_span : Bool) → ((is_new || was_taken) && in_span) ≡ true → ((is_new ≡ true) ⊎ (was_taken ≡ true)) × (in_span ≡ true)
kept_cases true was_taken true is = (inl refl, refl)
kept_cases true was_taken false is = cc
kept_cases false true true is = (inr refl, refl)
kept_cases false true false is = cc
kept_cases false false in_span is = cc

kept : (old new : Seen) (n q : ℕ) → Takes old n new → set.contains new.taken q ≡ true → IsKept old new n q
kept old new n q takes is =
    let parts : ((nat_eq q n ≡ true) ⊎ (set.contains old.taken q ≡ true)) × (nat_lt new.top (q + new.size) ≡ true) = kept_cases _ _ _ (sym (takes.taken q) ∙ is) in
    record {
      from = elim parts.0 [ inl e ↦ inl (grind (arith, nat_tests, e)) | inr e ↦ inr e ];
      in_span = let e : nat_lt new.top (q + new.size) ≡ true = parts.1 in grind (arith, nat_tests, e);
    }

is_kept : (is_new was_taken in_span : Bool) → (is_new || was_taken) ≡ true → in_span ≡ true → ((is_new || was_taken) && in_span) ≡ true
is_kept is_new was_taken in_span one span = cc

or_true : (a b : Bool) → b ≡ true → (a || b) ≡ true
or_true true b is = refl
or_true false b is = is

top_taken : (old new : Seen) (n : ℕ) → IsSoundWindow old → IsFresh old n → Takes old n new → set.contains new.taken new.top ≡ true
top_taken old new n sound is_fresh takes =
    let span : nat_lt new.top (new.top + new.size) ≡ true = let spans = sound.spans in let size = takes.size in grind (arith, nat_tests) in
    let one : (nat_eq new.top n || set.contains old.taken new.top) ≡ true =
    elim (leb_tells n old.top) [
      | inl (_, below) ↦
          let same : new.top ≡ old.top = takes.top ∙ omega arith in
          or_true (nat_eq new.top n) _ (ap (set.contains old.taken) same ∙ sound.top_taken (let least = is_fresh.not_zero in omega arith))
      | inr (_, above) ↦
          let same : new.top ≡ n = takes.top ∙ omega arith in
          ap (λ b. b || set.contains old.taken new.top) (eq-eqb new.top n same)
    ]
    in takes.taken new.top ∙ is_kept (nat_eq new.top n) (set.contains old.taken new.top) _ one span

-- taking a fresh sequence number leaves a sound window sound
pub takes_sound : (old new : Seen) (n : ℕ) → IsSoundWindow old → IsFresh old n → n < 2 ^ 64 → Takes old n new → IsSoundWindow new
takes_sound old new n sound is_fresh fits takes =
    record {
      spans = let spans = sound.spans in let size = takes.size in omega arith;
      not_zero = λ q is. elim (kept old new n q takes is).from [ inl e ↦ (let least = is_fresh.not_zero in omega arith) | inr e ↦ sound.not_zero q e ];
      up_to_top = λ q is.
          let top = takes.top in
          elim (kept old new n q takes is).from [ inl e ↦ omega arith | inr e ↦ (let below = sound.up_to_top q e in omega arith) ];
      in_span = λ q is. (kept old new n q takes is).in_span;
      top_taken = λ _. top_taken old new n sound is_fresh takes;
      fits = let top = takes.top in let old_fits = sound.fits in omega arith;
    }

judgement_of_fresh : (zero old taken : Bool) → zero ≡ false → old ≡ false → taken ≡ false → (if zero then Zero else if old then Old else if taken then Taken else Fresh) ≡ Fresh
judgement_of_fresh zero old taken not_zero not_old not_taken = cc

pub judged_fresh : (w : Seen) (n : ℕ) → IsFresh w n → judgement w n ≡ Fresh
judged_fresh w n is_fresh =
    let not_zero = is_fresh.not_zero in
    let not_old = is_fresh.not_old in
    judgement_of_fresh _ _ _ (grind (arith, nat_tests)) (grind (arith, nat_tests)) is_fresh.not_taken
