-- The parts of a packet, by their places.
use Rattle.std.proofs.Common.{◌≡◌, ℕ, zero, suc, ◌+◌, ◌-◌, ◌<◌, ◌≤◌, List, [], ◌∷◌, ◌++◌, length, take, drop, get_or, refl, sym, ap, ◌∙◌, arith, inl, inr, add-one, length-append, length-drop}
use Rattle.std.proofs.lemmas.List.{append_assoc, take-append-drop, drop-drop, drop_more, take_more, take_at, drop_at, get_or_at, get_or_append_left, length-take-le, get_or_push}
use Rattle.std.proofs.lemmas.Bool.{cases_lt}
use Rattle.esp.specs.Packet.{padding, trailer, IsContents}

pub length-padding : (p : ℕ) → length (padding p) ≡ p
length-padding zero = refl
length-padding (suc p) = length-append (padding p) (suc p ∷ []) ∙ (let h = length-padding p in omega arith)

-- each octet of padding is its place, from 1
pub padding_at : (p i : ℕ) → i < p → get_or (padding p) i 0 ≡ i + 1
padding_at zero i h = absurd (omega arith)
padding_at (suc p) i h = elim (cases_lt i p) [
  | inl before ↦ get_or_append_left (padding p) (suc p ∷ []) 0 i (omega (arith, length-padding p)) ∙ padding_at p i before
  | inr last ↦ get_or_push (padding p) (suc p) 0 i (omega (arith, length-padding p)) ∙ omega arith
]

-- one octet more is padding too
pub padding_more : (xs : List ℕ) (i : ℕ) → i < length xs → take i xs ≡ padding i → get_or xs i 0 ≡ i + 1 → take (i + 1) xs ≡ padding (i + 1)
padding_more xs i h before here =
    let e : i + 1 ≡ suc i = add-one i in
    take_more xs i 0 h ∙ ap (λ (ys : List ℕ). ys ++ get_or xs i 0 ∷ []) before ∙ ap (λ (x : ℕ). padding i ++ x ∷ []) (here ∙ e) ∙ ap padding (sym e)

pub not_padding : (xs : List ℕ) (i : ℕ) → i < length xs → (get_or xs i 0 ≡ i + 1 → ⊥) → xs ≡ padding (length xs) → ⊥
not_padding xs i h other e = other (ap (λ (ys : List ℕ). get_or ys i 0) e ∙ padding_at (length xs) i h)

-- what stands behind the payload, by its places: e is where the padding ends
trailer_at : (b : List ℕ) (e pad next : ℕ) → length b ≡ e + 18 → pad ≤ e → get_or b e 0 ≡ pad → get_or b (e + 1) 0 ≡ next
    → take pad (drop (e - pad) b) ≡ padding pad → drop (e - pad) b ≡ trailer pad next ++ drop (e + 2) b
trailer_at b e pad next len small at_pad at_next padded =
    let back : e - pad + pad ≡ e = omega arith in
    let after : e + 1 + 1 ≡ e + 2 = omega arith in
    let tail : drop pad (drop (e - pad) b) ≡ pad ∷ next ∷ drop (e + 2) b =
    drop-drop pad (e - pad) b
    ∙ ap (λ (n : ℕ). drop n b) back
    ∙ drop_more b e 0 (omega arith)
    ∙ ap (λ (x : ℕ). x ∷ drop (e + 1) b) at_pad
    ∙ ap (λ (xs : List ℕ). pad ∷ xs) (drop_more b (e + 1) 0 (omega arith) ∙ ap (λ (x : ℕ). x ∷ drop (e + 1 + 1) b) at_next)
    ∙ ap (λ (n : ℕ). pad ∷ next ∷ drop n b) after
    in
    sym (take-append-drop pad (drop (e - pad) b))
    ∙ ap (λ (xs : List ℕ). xs ++ drop pad (drop (e - pad) b)) padded
    ∙ ap (λ (xs : List ℕ). padding pad ++ xs) tail
    ∙ sym (append_assoc (padding pad) (pad ∷ next ∷ []) (drop (e + 2) b))

-- octets padded so have contents
pub found_contents : (b : List ℕ) (e pad next : ℕ) → length b ≡ e + 18 → 8 + pad ≤ e → get_or b e 0 ≡ pad → get_or b (e + 1) 0 ≡ next
    → take pad (drop (e - pad) b) ≡ padding pad → IsContents b next (take (e - pad - 8) (drop 8 b))
found_contents b e pad next len small at_pad at_next padded =
    let n : ℕ = e - pad - 8 in
    let behind : 8 + (e - pad - 8) ≡ e - pad = omega arith in
    let rest = trailer_at b e pad next len (omega arith) at_pad at_next padded in
    record {
      front = take 8 b;
      p = pad;
      check = drop (e + 2) b;
      octets =
          sym (take-append-drop 8 b)
          ∙ ap (λ (xs : List ℕ). take 8 b ++ xs) (
          sym (take-append-drop n (drop 8 b))
          ∙ ap (λ (xs : List ℕ). take n (drop 8 b) ++ xs) (drop-drop n 8 b ∙ ap (λ (m : ℕ). drop m b) behind ∙ rest))
          ∙ sym (append_assoc (take 8 b) (take n (drop 8 b)) (trailer pad next ++ drop (e + 2) b))
          ∙ sym (append_assoc (take 8 b ++ take n (drop 8 b)) (trailer pad next) (drop (e + 2) b));
      eight = length-take-le 8 b (omega arith);
      sixteen = omega (arith, length-drop (e + 2) b);
    }

-- where octets with contents have their padding
pub record Padded (b : List ℕ) : Type 0 where
  pub pad : ℕ
  pub room : pad + 26 ≤ length b
  pub at_pad : get_or b (length b - 18) 0 ≡ pad
  pub padded : take pad (drop (length b - 18 - pad) b) ≡ padding pad

pub contents_padded : (b : List ℕ) (next : ℕ) (payload : List ℕ) → IsContents b next payload → Padded b
contents_padded b next payload c =
    let a : List ℕ = c.front ++ payload in
    let pads : List ℕ = padding c.p in
    let rest : List ℕ = c.p ∷ next ∷ c.check in
    let la = length-append c.front payload in
    let lp = length-padding c.p in
    let split : b ≡ a ++ (pads ++ rest) =
    c.octets
    ∙ append_assoc a (trailer c.p next) c.check
    ∙ ap (λ (xs : List ℕ). a ++ xs) (append_assoc pads (c.p ∷ next ∷ []) c.check)
    in
    let len : length b ≡ 8 + length payload + c.p + 18 =
    ap length split ∙ length-append a (pads ++ rest) ∙ (let l = length-append pads rest in let e8 = c.eight in let e16 = c.sixteen in omega arith)
    in
    let at : length (a ++ pads) ≡ length b - 18 = length-append a pads ∙ (let e8 = c.eight in omega arith) in
    let la8 : length a ≡ length b - 18 - c.p = let e8 = c.eight in omega arith in
    record {
      pad = c.p;
      room = omega arith;
      at_pad =
          ap (λ (xs : List ℕ). get_or xs (length b - 18) 0) (split ∙ sym (append_assoc a pads rest))
          ∙ get_or_at (a ++ pads) c.p (next ∷ c.check) 0 (length b - 18) at;
      padded =
          ap (λ (xs : List ℕ). take c.p (drop (length b - 18 - c.p) xs)) split
          ∙ ap (take c.p) (drop_at a (pads ++ rest) (length b - 18 - c.p) la8)
          ∙ take_at pads rest c.p lp;
    }

-- the octets before e, as the code slices them
pub slice-before : (b : List ℕ) (e pad : ℕ) → e ≤ length b → pad ≤ e → take (e - (e - pad)) (drop (e - pad) b) ≡ take pad (drop (e - pad) b)
slice-before b e pad in_b small = let same : e - (e - pad) ≡ pad = omega arith in ap (λ (n : ℕ). take n (drop (e - pad) b)) same

length-before : (b : List ℕ) (e pad : ℕ) → e ≤ length b → pad ≤ e → length (take pad (drop (e - pad) b)) ≡ pad
length-before b e pad in_b small = length-take-le pad (drop (e - pad) b) (omega (arith, length-drop (e - pad) b))

pub sliced_contents : (b : List ℕ) (e pad : ℕ) → length b ≡ e + 18 → 8 + pad ≤ e → pad ≡ get_or b e 0
    → take (e - (e - pad)) (drop (e - pad) b) ≡ padding (length (take (e - (e - pad)) (drop (e - pad) b)))
    → IsContents b (get_or b (e + 1) 0) (take (e - pad - 8) (drop 8 b))
sliced_contents b e pad len small at_pad padded =
    let same = slice-before b e pad (omega arith) (omega arith) in
    let is : take pad (drop (e - pad) b) ≡ padding pad =
    sym same ∙ padded ∙ ap (λ (xs : List ℕ). padding (length xs)) same ∙ ap padding (length-before b e pad (omega arith) (omega arith))
    in
    found_contents b e pad (get_or b (e + 1) 0) len small (sym at_pad) refl is

pub sliced_padding : (b : List ℕ) (e pad : ℕ) → length b ≡ e + 18 → pad ≤ e → pad ≡ get_or b e 0 → Padded b
    → take (e - (e - pad)) (drop (e - pad) b) ≡ padding (length (take (e - (e - pad)) (drop (e - pad) b)))
sliced_padding b e pad len small at_pad p =
    let place : length b - 18 ≡ e = omega arith in
    let same_pad : p.pad ≡ pad = sym p.at_pad ∙ ap (λ (n : ℕ). get_or b n 0) place ∙ sym at_pad in
    let from : length b - 18 - p.pad ≡ e - pad = omega arith in
    let same = slice-before b e pad (omega arith) small in
    let is : take pad (drop (e - pad) b) ≡ padding pad =
    ap (λ (n : ℕ). take n (drop (e - pad) b)) (sym same_pad) ∙ ap (λ (n : ℕ). take p.pad (drop n b)) (sym from) ∙ p.padded ∙ ap padding same_pad
    in
    same ∙ is ∙ ap padding (sym (ap length same ∙ length-before b e pad (omega arith) small))

-- where the payload stands
pub payload_at : (b : List ℕ) (next : ℕ) (payload : List ℕ) → IsContents b next payload → (8 + length payload ≤ length b) × (payload ≡ take (length payload) (drop 8 b))
payload_at b next payload c =
    let rest : List ℕ = trailer c.p next ++ c.check in
    let split : b ≡ c.front ++ (payload ++ rest) =
    c.octets ∙ append_assoc (c.front ++ payload) (trailer c.p next) c.check ∙ append_assoc c.front payload rest
    in
    let len : length b ≡ 8 + length payload + length rest =
    ap length split ∙ length-append c.front (payload ++ rest) ∙ (let l = length-append payload rest in let e8 = c.eight in omega arith)
    in (
      omega arith,
      sym (take_at payload rest (length payload) refl)
          ∙ ap (take (length payload)) (sym (ap (drop 8) split ∙ drop_at c.front (payload ++ rest) 8 c.eight)),
    )
