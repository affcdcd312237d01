-- Packets that are laid first, and get their ICVs afterwards.
use Rattle.std.proofs.Common.{◌≡◌, ℕ, ◌+◌, ◌-◌, ◌<◌, ◌≤◌, List, ◌++◌, length, take, drop, refl, sym, ap, ◌∙◌, subst, arith, inl, inr, length-append, length-drop}
use Rattle.std.specs.Prelude.{Bool, replicate, if◌then◌else◌}
use Rattle.std.proofs.lemmas.Bool.{le-leb}
use Rattle.std.proofs.lemmas.Bool.Decides.{leb_tells}
use Rattle.std.proofs.lemmas.List.{append-nil, take_at, drop_at, length-replicate, take-append-drop, take_all, drop_all, take_rest, length-take-le}
use Rattle.std.proofs.lemmas.Slice.{take-put_mid, drop-put_mid}
use borrow.Rule.Slice.PartMut.{put_mid}
use Rattle.esp.specs.declared.sa.Sa.{Sa}
use Rattle.esp.specs.Ahead.{value_of}
use Rattle.esp.specs.Packet.{check_value}
use Rattle.esp.specs.Views.{Sending}
use Rattle.esp.specs.Sealing.{Seals}
use Rattle.esp.specs.Laying.{pad_of, covered, Lays, finished, finished_behind}
use Rattle.esp.proofs.LayingLemmas.{pad_small, pad_fills}
use Rattle.esp.proofs.SealingLemmas.{sealed}

-- what is written over all that stands behind a place
pub written_behind : {A : Type 0} (start : ℕ) (xs ys : List A) → start ≤ length xs → length ys ≡ length xs - start → put_mid start (length xs - start) xs ys ≡ take start xs ++ ys
written_behind {A} start xs ys within long =
    let n : ℕ = start + length ys in
    let whole : List A = put_mid start (length xs - start) xs ys in
    sym (take-append-drop n whole)
    ∙ ap (λ (zs : List A). zs ++ drop n whole) (take-put_mid start (length xs - start) xs ys n refl within)
    ∙ ap (λ (zs : List A). (take start xs ++ ys) ++ zs) (drop-put_mid start (length xs - start) xs ys n (omega arith) within long ∙ drop_all n xs (omega arith))
    ∙ append-nil (take start xs ++ ys)

-- the same, as a vector shows it of which a part was lent
pub lent_behind : {A : Type 0} (start len : ℕ) (middle xs ys : List A) → xs ≡ middle → len ≡ length middle → start ≤ length middle → length ys ≡ length (take (length xs - start) (drop start xs))
    → take len (put_mid start (length xs - start) xs ys ++ drop (length (put_mid start (length xs - start) xs ys)) middle) ≡ take start middle ++ ys
lent_behind {A} start len middle xs ys e_xs e_len within e_size =
    let whole : List A = put_mid start (length xs - start) xs ys in
    let long_xs : length xs ≡ length middle = ap length e_xs in
    let long_ys : length ys ≡ length xs - start = e_size ∙ ap length (take_rest xs start) ∙ length-drop start xs in
    let is_whole : whole ≡ take start middle ++ ys = written_behind start xs ys (omega arith) long_ys ∙ ap (λ (zs : List A). take start zs ++ ys) e_xs in
    let front : length (take start xs) ≡ start = length-take-le start xs (omega arith) in
    let long : length whole ≡ length middle = ap length (written_behind start xs ys (omega arith) long_ys) ∙ length-append (take start xs) ys ∙ omega arith in
    ap (λ (zs : List A). take len (whole ++ zs)) (drop_all (length whole) middle (omega arith))
    ∙ ap (take len) (append-nil whole)
    ∙ take_all len whole (omega arith)
    ∙ is_whole

-- a packet that is long enough gets its ICV
pub finished_long : (a : Sa) (n : ℕ) (octets : List ℕ) → 16 ≤ length octets
    → finished a n octets ≡ take (length octets - 16) octets ++ check_value a n (take (length octets - 16) octets)
unfolding finished
finished_long a n octets long =
    ap (λ (b : Bool). if b then take (length octets - 16) octets ++ check_value a n (take (length octets - 16) octets) else octets) (le-leb 16 (length octets) long)

pub finished_short : (a : Sa) (n : ℕ) (octets : List ℕ) → length octets < 16 → octets ≡ finished a n octets
unfolding finished
finished_short a n octets short =
    elim (leb_tells 16 (length octets)) [
      | inl enough ↦ absurd (let h = enough.1 in omega arith)
      | inr few ↦ sym (ap (λ (b : Bool). if b then take (length octets - 16) octets ++ check_value a n (take (length octets - 16) octets) else octets) few.0)
    ]

-- the value is written over the last 16 octets
pub value_put : (a : Sa) (n start : ℕ) (octets value : List ℕ) → start + 16 ≡ length octets → length value ≡ 16 → value ≡ value_of a n octets
    → put_mid start (length octets - start) octets value ≡ finished a n octets
value_put a n start octets value at long is =
    let same : start ≡ length octets - 16 = omega arith in
    written_behind start octets value (omega arith) (omega arith)
    ∙ ap (λ (k : ℕ). take k octets ++ value) same
    ∙ ap (λ (v : List ℕ). take (length octets - 16) octets ++ v) is
    ∙ sym (finished_long a n octets (omega arith))

-- a packet that is laid is, once it has its ICV, the one that sealing gives
pub lays_seals : (old : Sending) (next : ℕ) (payload before : List ℕ) (new : Sending) (after : List ℕ) → Lays old next payload before new after
    → Seals old next payload before (old.last + 1) new (finished_behind (length before) old.association (old.last + 1) after)
lays_seals old next payload before new after lays =
    let a = old.association in
    let n : ℕ = old.last + 1 in
    let cover : List ℕ = covered a n next payload in
    let zeros : List ℕ = replicate 16 0 in
    let sixteen : length zeros ≡ 16 = length-replicate {A = ℕ} 16 0 in
    let packet : List ℕ = cover ++ zeros in
    let size : length packet ≡ length cover + 16 = length-append cover zeros ∙ ap (λ (k : ℕ). length cover + k) sixteen in
    let front : take (length packet - 16) packet ≡ cover = take_at cover zeros (length packet - 16) (omega arith) in
    let whole : finished a n packet ≡ cover ++ check_value a n cover =
    finished_long a n packet (omega arith) ∙ ap (λ (xs : List ℕ). xs ++ check_value a n xs) front
    in
    let is : finished_behind (length before) a n after ≡ before ++ (cover ++ check_value a n cover) =
    ap (λ (xs : List ℕ). take (length before) xs ++ finished a n (drop (length before) xs)) lays.appended
    ∙ ap (λ (xs : List ℕ). xs ++ finished a n (drop (length before) (before ++ packet))) (take_at before packet (length before) refl)
    ∙ ap (λ (xs : List ℕ). before ++ finished a n xs) (drop_at before packet (length before) refl)
    ∙ ap (λ (xs : List ℕ). before ++ xs) whole
    in
    subst (λ (s : Sending). Seals old next payload before n s (finished_behind (length before) a n after)) (sym lays.last)
    (sealed old next payload before n (pad_of (length payload)) a old.last (finished_behind (length before) a n after) refl refl lays.has_number lays.fits (pad_fills (length payload)) (pad_small (length payload)) is)
