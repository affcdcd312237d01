-- From what the steps of sealing append to the packet.
use Rattle.std.proofs.Common.{◌≡◌, ℕ, zero, suc, ◌+◌, ◌%◌, ◌<◌, ◌≤◌, List, [], ◌∷◌, ◌++◌, length, take, drop, refl, sym, ap, ◌∙◌, subst, arith}
use Rattle.std.proofs.lemmas.List.{append_assoc, append-nil, drop_at}
use Rattle.esp.specs.declared.sa.Sa.{Sa}
use Rattle.esp.specs.Packet.{padding, packet, IsPacket, number_limit}
use Rattle.esp.specs.Views.{Sending}
use Rattle.esp.specs.Sealing.{IsShortestPacket, FitsPacket, Seals}

-- the first octets of padding
pub padding_first : (p : ℕ) → p < 4 → take p (1 ∷ 2 ∷ 3 ∷ []) ≡ padding p
padding_first zero h = refl
padding_first (suc zero) h = refl
padding_first (suc (suc zero)) h = refl
padding_first (suc (suc (suc zero))) h = refl
padding_first (suc (suc (suc (suc p)))) h = absurd (omega arith)

-- parts that were appended, and then what is computed from them
pub appended : (value : List ℕ → List ℕ) (before front payload pads tail check mid after : List ℕ)
    → mid ≡ before ++ (front ++ (payload ++ (pads ++ (tail ++ [])))) → check ≡ value (drop (length before) mid) → after ≡ mid ++ (check ++ [])
    → after ≡ before ++ ((front ++ payload ++ (pads ++ tail)) ++ value (front ++ payload ++ (pads ++ tail)))
appended value before front payload pads tail check mid after e_mid e_check e_after =
    let covered : List ℕ = front ++ payload ++ (pads ++ tail) in
    let parts : front ++ (payload ++ (pads ++ (tail ++ []))) ≡ front ++ payload ++ (pads ++ tail) =
    ap (λ (xs : List ℕ). front ++ (payload ++ (pads ++ xs))) (append-nil tail) ∙ sym (append_assoc front payload (pads ++ tail))
    in
    let whole : mid ≡ before ++ covered = e_mid ∙ ap (λ (xs : List ℕ). before ++ xs) parts in
    let behind : drop (length before) mid ≡ covered = ap (drop (length before)) whole ∙ drop_at before covered (length before) refl in
    e_after
    ∙ ap (λ (xs : List ℕ). mid ++ xs) (append-nil check ∙ e_check ∙ ap value behind)
    ∙ ap (λ (xs : List ℕ). xs ++ value covered) whole
    ∙ append_assoc before covered (value covered)

-- less than a word of padding is the least
least_padding : (len p q : ℕ) → (len + p + 2) % 4 ≡ 0 → p < 4 → (len + q + 2) % 4 ≡ 0 → p ≤ q
least_padding len p q h small g = omega arith

pub sealed : (old : Sending) (next : ℕ) (payload before : List ℕ) (n p : ℕ) (a : Sa) (last : ℕ) (after : List ℕ)
    → record { association = a; last = last } ≡ old → n ≡ last + 1 → n < number_limit a.extended → FitsPacket payload → (length payload + p + 2) % 4 ≡ 0 → p < 4
    → after ≡ before ++ packet a n next payload p → Seals old next payload before n (record { association = a; last = n }) after
sealed old next payload before n p a last after is number fits short aligned small e =
    let same_last : last ≡ old.last = ap (λ (s : Sending). s.last) is in
    let same : a ≡ old.association = ap (λ (s : Sending). s.association) is in
    let made : IsPacket a n next payload p (packet a n next payload p) = record { octets = refl; aligned = aligned; one_octet = omega arith; fits = fits } in
    let shortest : IsShortestPacket a n next payload (packet a n next payload p) = record {
      p = p;
      packet = made;
      shortest = λ q c is_q. least_padding (length payload) p q aligned small is_q.aligned;
    } in
    record {
      has_number = subst (λ (x : Sa). old.last + 1 < number_limit x.extended) same (omega arith);
      fits = short;
      number = omega arith;
      last = ap (λ (x : Sa). record { association = x; last = n }) same;
      packet = packet a n next payload p;
      appended = e;
      shortest = subst (λ (x : Sa). IsShortestPacket x n next payload (packet a n next payload p)) same shortest;
    }
