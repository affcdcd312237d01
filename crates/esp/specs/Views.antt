-- SAs as contracts see them: plain data.
use Rattle.std.specs.Prelude.{ℕ, Bool, List, refl}
use Rattle.std.specs.Ordering.{nat_cmp}
use Rattle.std.specs.FinSet as set
use Rattle.std.specs.Coded.{Coded, code_by, coded×, coded_ℕ, coded_bool, coded_list}
use Rattle.replay.specs.Window.{Seen}
use Rattle.esp.specs.declared.sa.Sa.{Sa}

-- the sender's end: the SA, and the last sequence number that it sealed a packet with
pub record Sending : Type 0 where
  pub association : Sa
  pub last : ℕ

-- the receiver's end: the SA, and the replay window
pub record Receiving : Type 0 where
  pub association : Sa
  pub window : Seen

abbrev pub sa_code : Coded Sa
sa_code = code_by (ℕ × (List ℕ × Bool)) (coded× coded_ℕ (coded× (coded_list coded_ℕ) coded_bool)) (λ a. (a.spi, (a.key, a.extended))) (λ p. record { spi = p.0; key = p.1.0; extended = p.1.1 }) (λ _. refl)

abbrev pub seen_code : Coded Seen
seen_code = code_by (ℕ × (ℕ × set.FinSet nat_cmp)) (coded× coded_ℕ (coded× coded_ℕ (set.code coded_ℕ))) (λ w. (w.top, (w.size, w.taken))) (λ p. record { top = p.0; size = p.1.0; taken = p.1.1 }) (λ _. refl)

abbrev pub sending_code : Coded Sending
sending_code = code_by (Sa × ℕ) (coded× sa_code coded_ℕ) (λ s. (s.association, s.last)) (λ p. record { association = p.0; last = p.1 }) (λ _. refl)

abbrev pub receiving_code : Coded Receiving
receiving_code = code_by (Sa × Seen) (coded× sa_code seen_code) (λ r. (r.association, r.window)) (λ p. record { association = p.0; window = p.1 }) (λ _. refl)
