-- From what the steps of opening find to what is said of the whole.
use Rattle.std.proofs.Common.{◌≡◌, ◌≢◌, ℕ, ◌+◌, ◌-◌, ◌%◌, ◌^◌, ◌<◌, ◌≤◌, Bool, true, false, List, ◌++◌, length, take, drop, get_or, sym, ap, ◌∙◌, subst, arith, inl, inr, Result, Ok, Err, length-append, length-drop}
use Rattle.std.specs.Prelude.{OnOk, OnErr, IfOk, IfErr}
use Rattle.std.specs.Result.{is_err}
use Rattle.std.proofs.lemmas.List.{take_all, take-append-drop, take-take, drop-take, take_at, drop_at, get_or-take, get_or-drop, get_or_past, length-take-le}
use Rattle.std.proofs.lemmas.Nat.{be_bytes_4}
use Rattle.std.proofs.lemmas.Bool.{cases_lt}
use Rattle.byteorder.specs.Endian.{big_bytes}
use Rattle.replay.specs.Window.{Seen, Takes}
use Rattle.replay.proofs.WindowFacts.{fresh}
use Rattle.esp.specs.declared.sa.Sa.{Sa}
use Rattle.esp.specs.Packet.{number_limit, head, check_value, PassesIntegrity}
use Rattle.esp.specs.Judging.{low_half, IsNumber, Judges}
use Rattle.esp.specs.Ahead.{value_of}
use Rattle.esp.specs.Views.{Receiving}
use Rattle.esp.specs.Opening.{Answer, IsFreshNumber, TakesNumber, HandsUp, Refuses, Step}
use Rattle.esp.specs.declared.fault.EspFault.{EspFault}
use Rattle.esp.specs.declared.fault.EspFault.TheVariants.{Memory}

pub on_err : {T E : Type 0} (r : Result T E) (P : Type 0) → is_err r ≡ true → OnErr r P → P
on_err (Ok x) P e h = absurd (cc)
on_err (Err x) P e h = h

pub on_ok : {T E : Type 0} (r : Result T E) (P : Type 0) → is_err r ≡ false → OnOk r P → P
on_ok (Ok x) P e h = h
on_ok (Err x) P e h = absurd (cc)

-- a list of octets
abbrev AreOctets : List ℕ → Type 0
AreOctets b = (i : ℕ) → get_or b i 0 < 256

-- the low half is what four octets spell
low_half_octet : (b : List ℕ) (i : ℕ) → i < 4 → get_or (take 4 (drop 4 b)) i 0 ≡ get_or (drop 4 b) i 0
low_half_octet b i h = get_or-take 4 (drop 4 b) i 0 h

pub low_half_below : (b : List ℕ) → AreOctets b → low_half b < 2 ^ 32
low_half_below b octets =
    let o0 = octets 4 in let o1 = octets 5 in let o2 = octets 6 in let o3 = octets 7 in
    let e0 = get_or-drop 4 b 0 0 in let e1 = get_or-drop 4 b 1 0 in let e2 = get_or-drop 4 b 2 0 in let e3 = get_or-drop 4 b 3 0 in
    omega arith

four_octets : (b : List ℕ) (i : ℕ) → length (take 4 (drop 4 b)) ≡ 4 → AreOctets b → get_or (take 4 (drop 4 b)) i 0 < 256
four_octets b i len octets = elim (cases_lt i 4) [
  | inl within ↦
      let e = low_half_octet b i within in
      let d = get_or-drop 4 b i 0 in
      let o = octets (4 + i) in
      omega arith
  | inr past ↦ let e = get_or_past (take 4 (drop 4 b)) i 0 (omega arith) in omega arith
]

pub low_half_spells : (b : List ℕ) → 8 ≤ length b → AreOctets b → big_bytes 4 (low_half b) ≡ take 4 (drop 4 b)
low_half_spells b long octets =
    let four : List ℕ = take 4 (drop 4 b) in
    let e0 = low_half_octet b 0 (omega arith) in let e1 = low_half_octet b 1 (omega arith) in let e2 = low_half_octet b 2 (omega arith) in let e3 = low_half_octet b 3 (omega arith) in
    let len : length (take 4 (drop 4 b)) ≡ 4 = length-take-le 4 (drop 4 b) (omega (arith, length-drop 4 b)) in
    be_bytes_4 (take 4 (drop 4 b)) (low_half b) len (λ i. four_octets b i len octets) (omega arith)

-- a packet's head, where its first four octets are the SPI
head_is : (a : Sa) (b : List ℕ) (n : ℕ) → 8 ≤ length b → AreOctets b → take 4 b ≡ big_bytes 4 a.spi → n % 2 ^ 32 ≡ low_half b → take 8 b ≡ head a n
head_is a b n long octets spi low =
    sym (take-append-drop 4 (take 8 b))
    ∙ ap (λ (xs : List ℕ). xs ++ drop 4 (take 8 b)) (take-take 4 8 b (omega arith) ∙ spi)
    ∙ ap (λ (xs : List ℕ). big_bytes 4 a.spi ++ xs) (drop-take 4 4 b ∙ sym (low_half_spells b long octets) ∙ ap (big_bytes 4) (sym low))

-- octets whose ICV is right pass the integrity check
pub intact : (a : Sa) (b : List ℕ) (n : ℕ) → 24 ≤ length b → AreOctets b → take 4 b ≡ big_bytes 4 a.spi → n % 2 ^ 32 ≡ low_half b → n < number_limit a.extended
    → drop (length b - 16) b ≡ check_value a n (take (length b - 16) b) → PassesIntegrity a n b
intact a b n long octets spi low fits right = record {
  rest = take (length b - 16) b;
  check = drop (length b - 16) b;
  octets = sym (take-append-drop (length b - 16) b);
  sixteen = omega (arith, length-drop (length b - 16) b);
  begins = take-take 8 (length b - 16) b (omega arith) ∙ head_is a b n (omega arith) octets spi low;
  fits = fits;
  right = right;
}

-- and those that pass have the right one
pub right_check : (a : Sa) (b : List ℕ) (n : ℕ) → PassesIntegrity a n b → drop (length b - 16) b ≡ check_value a n (take (length b - 16) b)
right_check a b n p =
    let len : length b ≡ length p.rest + 16 = ap length p.octets ∙ length-append p.rest p.check ∙ ap (λ (k : ℕ). length p.rest + k) p.sixteen in
    let at : length p.rest ≡ length b - 16 = omega arith in
    let tail : drop (length b - 16) b ≡ p.check = ap (drop (length b - 16)) p.octets ∙ drop_at p.rest p.check (length b - 16) at in
    let front : take (length b - 16) b ≡ p.rest = ap (take (length b - 16)) p.octets ∙ take_at p.rest p.check (length b - 16) at in
    tail ∙ p.right ∙ ap (check_value a n) (sym front)

-- the low half and the bound of a packet's sequence number
number_low : (e : Bool) (w : Seen) (low n : ℕ) → low < 2 ^ 32 → IsNumber e w low n → n % 2 ^ 32 ≡ low
number_low false w low n small h = let same = h.0 in omega arith
number_low true w low n small h = h.low_half

number_fits : (e : Bool) (w : Seen) (low n : ℕ) → low < 2 ^ 32 → IsNumber e w low n → n < number_limit e
number_fits false w low n small h = let same = h.0 in omega arith
number_fits true w low n small h = h.fits

-- a packet whose sequence number is fresh and whose ICV is right is judged as that number
pub judged : (r : Receiving) (b : List ℕ) (n : ℕ) → (4 ≤ length b → take 4 b ≡ big_bytes 4 r.association.spi) → AreOctets b → IsFreshNumber r b n
    → drop (length b - 16) b ≡ check_value r.association n (take (length b - 16) b) → Judges r.association r.window b n
judged r b n spi octets f right =
    let is_fresh = fresh r.window n f.fresh in
    let long = f.whole.least in
    let e = r.association.extended in
    let small = low_half_below b octets in
    record {
      whole = f.whole;
      number = f.number;
      in_reach = is_fresh.not_old;
      new = is_fresh.not_taken;
      intact = intact r.association b n (omega arith) octets (spi (omega arith))
          (number_low e r.window (low_half b) n small f.number) (number_fits e r.window (low_half b) n small f.number) right;
    }

-- the receiver, from its parts
abbrev pub receiving : Sa → Seen → Receiving
receiving a w = record { association = a; window = w }

pub takes_number : (a : Sa) (w w' : Seen) (old : Receiving) (n : ℕ) → receiving a w ≡ old → Takes w n w' → TakesNumber old n (receiving a w')
takes_number a w w' old n is takes = record {
  association = ap (λ (r : Receiving). r.association) is;
  window = subst (λ (r : Receiving). Takes r.window n w') is takes;
}

pub unchanged : (a : Sa) (w w' : Seen) (old : Receiving) → receiving a w ≡ old → w' ≡ w → receiving a w' ≡ old
unchanged a w w' old is same = ap (receiving a) same ∙ is

-- the packet's last octets are its ICV, where they are the value that was computed
pub is_intact : (a : Sa) (w : Seen) (old : Receiving) (n : ℕ) (b value : List ℕ) → receiving a w ≡ old
    → take (length b - (length b - 16)) (drop (length b - 16) b) ≡ value → value ≡ value_of a n b
    → drop (length b - 16) b ≡ check_value old.association n (take (length b - 16) b)
is_intact a w old n b value is same right =
    let whole : take (length b - (length b - 16)) (drop (length b - 16) b) ≡ drop (length b - 16) b =
    take_all (length b - (length b - 16)) (drop (length b - 16) b) (omega (arith, length-drop (length b - 16) b)) in
    sym whole ∙ same ∙ right ∙ ap (λ (r : Receiving). check_value r.association n (take (length b - 16) b)) is

-- what a call for one packet answers is its step
pub step_of : (want : Type 0) (old : Receiving) (b : List ℕ) (r : Answer) (new : Receiving)
    → IfOk r (λ o. HandsUp old b o.number o.next o.payload.now new) → IfErr r (λ e. Refuses want old b e new) → Step want old b r new
step_of want old b (Ok o) new up refused = up
step_of want old b (Err e) new up refused = refused

-- where no window wants memory, no packet is refused for it
pub never_for_memory : (r s : Receiving) (b : List ℕ) (e : EspFault) → Refuses ⊥ r b e s → e ≢ Memory
never_for_memory r s b e refused is = (subst (λ x. Refuses ⊥ r b x s) is refused).0

pub never_answered_for_memory : (r s : Receiving) (b : List ℕ) (x : Answer) → Step ⊥ r b x s → x ≢ Err Memory
never_answered_for_memory r s b x step is = (subst (λ y. Step ⊥ r b y s) is step).0
