-- Messages: what is read is spelled, what is spelled is read, and the fault is the first one.
use Rattle.std.proofs.Common.{◌≡◌, ℕ, zero, suc, ◌+◌, ◌-◌, ◌*◌, ◌/◌, ◌%◌, ◌^◌, ◌<◌, ◌≤◌, Bool, true, false, cond, eqb, ltb, List, ◌∷◌, ◌++◌, length, get_or, take, drop, slice_index, Some, Result, Ok, Err, refl, sym, ap, subst, ◌∙◌, append_assoc, inl, inr, arith}
use Rattle.std.specs.Prelude.{ok_or, not, IsOk}
use Rattle.std.proofs.lemmas.Bool.{eqb-true, eqb-false, ne_eqb, ltb-false, le-ltb, ltb-true, lt-ltb}
use Rattle.std.proofs.lemmas.List.{length-append, length-drop, get_or-take, get_or-drop, drop-drop}
use Rattle.byteorder.specs.Endian.{big_bytes, big_number}
use Rattle.byteorder.specs.Numbers.{big_from-take}
use Rattle.base.specs.Octets.{IsOctet, AreOctets}
use Rattle.wire.specs.Messages.{bit, HasFlags, SpellsHeader, SpellsWith, Spells}
use Rattle.wire.specs.Refusals.{IsFaultAt, IsChainFault, IsFaultOf, HasLength, HasVersion, length_field}
use Rattle.wire.specs.Reading.{◌>>=◌, ◌>>>◌, octets_at, octet_at, number_at, flags_of, head_at, headed_of, message_of, chain_at}
use Rattle.wire.specs.declared.message.Message.{Message}
use Rattle.wire.specs.declared.message.Header.{Header}
use Rattle.wire.specs.declared.message.Head.{Head}
use Rattle.wire.specs.declared.message.Flags.{Flags}
use Rattle.wire.specs.declared.payload.Payload.{Payload}
use Rattle.wire.specs.declared.fault.WireFault.{WireFault}
use Rattle.wire.specs.declared.fault.WireFault.TheVariants as faults
use Rattle.wire.proofs.FaultLemmas.{chain_in_payload}
use Rattle.wire.proofs.Options.{some_is, with_some, pick}
use Rattle.wire.proofs.Links.{with_ok, with_value, ok_is, err_is}
use Rattle.base.proofs.OctetLemmas.{octets_back, octets_drop, octet_in}
use Rattle.wire.proofs.Takes.{octet_takes, octet_again, wide4, wide8, number_takes, number_again}
use Rattle.wire.proofs.Bodies.{same_numbers}
use Rattle.wire.proofs.ChainReading.{chain_takes, chain_again, chain_fault, fault_again, FaultyChain}

-- ---- flags

bit_is : (x : ℕ) → x < 2 → bit (eqb x 1) ≡ x
bit_is zero h = refl
bit_is (suc zero) h = refl
bit_is (suc (suc x)) h = absurd (omega arith)

half : (n : ℕ) → n % 2 < 2
half n = omega arith

flags_takes : (octet : ℕ) → octet < 256 → HasFlags IsOctet (flags_of octet) octet
flags_takes octet small =
    let i = bit_is (octet / 2 ^ 3 % 2) (half (octet / 2 ^ 3)) in
    let v = bit_is (octet / 2 ^ 4 % 2) (half (octet / 2 ^ 4)) in
    let r = bit_is (octet / 2 ^ 5 % 2) (half (octet / 2 ^ 5)) in
    let value : octet ≡ octet % 8 + 8 * (octet / 2 ^ 3 % 2) + 16 * (octet / 2 ^ 4 % 2) + 32 * (octet / 2 ^ 5 % 2) + 64 * (octet / 64) = omega arith in
    record {
      low = octet % 8;
      high = octet / 64;
      value = rw (i, v, r) value;
      low_bits = omega arith;
      high_bits = omega arith;
      free = (omega arith, omega arith);
    }

bit_again : (b : Bool) (x : ℕ) → x ≡ bit b → eqb x 1 ≡ b
bit_again true x e = rw e refl
bit_again false x e = rw e refl

bit_below : (b : Bool) → bit b < 2
bit_below true = omega arith
bit_below false = omega arith

flags_again : (Free : ℕ → Type 0) (f : Flags) (octet : ℕ) → HasFlags Free f octet → flags_of octet ≡ f
flags_again Free f octet h =
    let bi = bit_below f.initiator in
    let bv = bit_below f.version in
    let br = bit_below f.response in
    let i = bit_again f.initiator (octet / 2 ^ 3 % 2) (omega (arith, h.value, h.low_bits, h.high_bits)) in
    let v = bit_again f.version (octet / 2 ^ 4 % 2) (omega (arith, h.value, h.low_bits, h.high_bits)) in
    let r = bit_again f.response (octet / 2 ^ 5 % 2) (omega (arith, h.value, h.low_bits, h.high_bits)) in
    rw (i, v, r) refl

-- ---- the header

abbrev head_made : ℕ → ℕ → ℕ → ℕ → ℕ → ℕ → ℕ → ℕ → Head
head_made spi_i spi_r first version exchange flags id size =
    record { header = record { spi_i = spi_i; spi_r = spi_r; minor = version % 16; exchange = exchange; flags = flags_of flags; id = id }; major = version / 16; first = first; length = size }

abbrev header_list : ℕ → ℕ → ℕ → ℕ → ℕ → ℕ → ℕ → List ℕ
header_list spi_i spi_r first version exchange flags id = big_bytes 8 spi_i ++ big_bytes 8 spi_r ++ (first ∷ version ∷ exchange ∷ flags ∷ big_bytes 4 id)

-- what a header that was read is spelled by
record TakesHead (xs : List ℕ) (x : Head × List ℕ) : Type 0 where
  header : List ℕ
  joined : xs ≡ header ++ big_bytes 4 x.0.length ++ x.1
  spelled : x.0.major ≡ 2 → SpellsHeader IsOctet x.0.header x.0.first header
  first : x.0.first < 256
  rest : AreOctets x.1

two_halves : (version : ℕ) → version / 16 ≡ 2 → version ≡ 32 + version % 16
two_halves version e = omega (arith, e)

small_half : (version : ℕ) → version % 16 < 16
small_half version = omega arith

head_takes : (xs : List ℕ) (x : Head × List ℕ) → AreOctets xs → head_at xs ≡ Some x → TakesHead xs x
unfolding head_at
head_takes xs x fits e =
    with_some (number_at 8 xs) _ x e (λ spi_i e1 r1.
    with_some (number_at 8 spi_i.1) _ x r1 (λ spi_r e2 r2.
    with_some (octet_at spi_r.1) _ x r2 (λ first e3 r3.
    with_some (octet_at first.1) _ x r3 (λ version e4 r4.
    with_some (octet_at version.1) _ x r4 (λ exchange e5 r5.
    with_some (octet_at exchange.1) _ x r5 (λ flags e6 r6.
    with_some (number_at 4 flags.1) _ x r6 (λ id e7 r7.
    with_some (number_at 4 id.1) _ x r7 (λ size e8 r8.
    let t1 = number_takes 8 (2 ^ 64) wide8 xs spi_i fits e1 in
    let f1 : AreOctets spi_i.1 = octets_back (big_bytes 8 spi_i.0) spi_i.1 (subst AreOctets t1.0 fits) in
    let t2 = number_takes 8 (2 ^ 64) wide8 spi_i.1 spi_r f1 e2 in
    let f2 : AreOctets spi_r.1 = octets_back (big_bytes 8 spi_r.0) spi_r.1 (subst AreOctets t2.0 f1) in
    let t3 = octet_takes spi_r.1 first e3 in
    let b3 : AreOctets (first.0 ∷ first.1) = subst AreOctets t3 f2 in
    let t4 = octet_takes first.1 version e4 in
    let b4 : AreOctets (version.0 ∷ version.1) = subst AreOctets t4 b3.1 in
    let t5 = octet_takes version.1 exchange e5 in
    let b5 : AreOctets (exchange.0 ∷ exchange.1) = subst AreOctets t5 b4.1 in
    let t6 = octet_takes exchange.1 flags e6 in
    let b6 : AreOctets (flags.0 ∷ flags.1) = subst AreOctets t6 b5.1 in
    let t7 = number_takes 4 (2 ^ 32) wide4 flags.1 id b6.1 e7 in
    let f7 : AreOctets id.1 = octets_back (big_bytes 4 id.0) id.1 (subst AreOctets t7.0 b6.1) in
    let t8 = number_takes 4 (2 ^ 32) wide4 id.1 size f7 e8 in
    let f8 : AreOctets size.1 = octets_back (big_bytes 4 size.0) size.1 (subst AreOctets t8.0 f7) in
    let made : Head = head_made spi_i.0 spi_r.0 first.0 version.0 exchange.0 flags.0 id.0 size.0 in
    let header : List ℕ = header_list spi_i.0 spi_r.0 first.0 version.0 exchange.0 flags.0 id.0 in
    let inner : spi_r.1 ≡ (first.0 ∷ version.0 ∷ exchange.0 ∷ flags.0 ∷ big_bytes 4 id.0) ++ (big_bytes 4 size.0 ++ size.1) =
    t3 ∙ ap (λ (r : List ℕ). first.0 ∷ r) (t4 ∙ ap (λ (r : List ℕ). version.0 ∷ r) (t5 ∙ ap (λ (r : List ℕ). exchange.0 ∷ r) (t6 ∙ ap (λ (r : List ℕ). flags.0 ∷ r) (t7.0 ∙ ap (λ (r : List ℕ). big_bytes 4 id.0 ++ r) t8.0)))) in
    let joined : xs ≡ header ++ big_bytes 4 size.0 ++ size.1 =
    t1.0 ∙ ap (λ (r : List ℕ). big_bytes 8 spi_i.0 ++ r) (t2.0 ∙ ap (λ (r : List ℕ). big_bytes 8 spi_r.0 ++ r) inner) in
    subst (TakesHead xs) (some_is (made, size.1) x r8) (record {
      header = header;
      joined = joined;
      spelled = λ two. record {
        flags = flags.0;
        has_flags = flags_takes flags.0 b6.0;
        spelled = ap (λ (v : ℕ). header_list spi_i.0 spi_r.0 first.0 v exchange.0 flags.0 id.0) (two_halves version.0 two);
        spi_i = t1.1;
        spi_r = t2.1;
        minor = small_half version.0;
        id = t7.1;
      };
      first = b3.0;
      rest = f8;
    })))))))))

head_again : (Free : ℕ → Type 0) (h : Header) (first size : ℕ) (header rest : List ℕ) → SpellsHeader Free h first header → size < 2 ^ 32
    → head_at (header ++ big_bytes 4 size ++ rest) ≡ Some (record { header = h; major = 2; first = first; length = size }, rest)
unfolding head_at
head_again Free h first size header rest s small =
    let t7 : List ℕ = big_bytes 4 size ++ rest in
    let t6 : List ℕ = big_bytes 4 h.id ++ t7 in
    let t2 : List ℕ = first ∷ (32 + h.minor) ∷ h.exchange ∷ s.flags ∷ t6 in
    let t1 : List ℕ = big_bytes 8 h.spi_r ++ t2 in
    let version : ℕ = 32 + h.minor in
    let minor_is : version % 16 ≡ h.minor = omega (arith, s.minor) in
    let major_is : version / 16 ≡ 2 = omega (arith, s.minor) in
    ap head_at (append_assoc header (big_bytes 4 size) rest)
    ∙ ap (λ (y : List ℕ). head_at (y ++ t7)) s.spelled
    ∙ ap (λ o. o >>= λ a. number_at 8 a.1 >>= λ b. octet_at b.1 >>= λ c. octet_at c.1 >>= λ d. octet_at d.1 >>= λ e. octet_at e.1 >>= λ f. number_at 4 f.1 >>= λ i. number_at 4 i.1 >>= λ z. Some (head_made a.0 b.0 c.0 d.0 e.0 f.0 i.0 z.0, z.1)) (number_again 8 (2 ^ 64) wide8 h.spi_i t1 s.spi_i)
    ∙ ap (λ o. o >>= λ b. octet_at b.1 >>= λ c. octet_at c.1 >>= λ d. octet_at d.1 >>= λ e. octet_at e.1 >>= λ f. number_at 4 f.1 >>= λ i. number_at 4 i.1 >>= λ z. Some (head_made h.spi_i b.0 c.0 d.0 e.0 f.0 i.0 z.0, z.1)) (number_again 8 (2 ^ 64) wide8 h.spi_r t2 s.spi_r)
    ∙ ap (λ o. o >>= λ c. octet_at c.1 >>= λ d. octet_at d.1 >>= λ e. octet_at e.1 >>= λ f. number_at 4 f.1 >>= λ i. number_at 4 i.1 >>= λ z. Some (head_made h.spi_i h.spi_r c.0 d.0 e.0 f.0 i.0 z.0, z.1)) (octet_again first (version ∷ h.exchange ∷ s.flags ∷ t6))
    ∙ ap (λ o. o >>= λ d. octet_at d.1 >>= λ e. octet_at e.1 >>= λ f. number_at 4 f.1 >>= λ i. number_at 4 i.1 >>= λ z. Some (head_made h.spi_i h.spi_r first d.0 e.0 f.0 i.0 z.0, z.1)) (octet_again version (h.exchange ∷ s.flags ∷ t6))
    ∙ ap (λ o. o >>= λ e. octet_at e.1 >>= λ f. number_at 4 f.1 >>= λ i. number_at 4 i.1 >>= λ z. Some (head_made h.spi_i h.spi_r first version e.0 f.0 i.0 z.0, z.1)) (octet_again h.exchange (s.flags ∷ t6))
    ∙ ap (λ o. o >>= λ f. number_at 4 f.1 >>= λ i. number_at 4 i.1 >>= λ z. Some (head_made h.spi_i h.spi_r first version h.exchange f.0 i.0 z.0, z.1)) (octet_again s.flags t6)
    ∙ ap (λ o. o >>= λ i. number_at 4 i.1 >>= λ z. Some (head_made h.spi_i h.spi_r first version h.exchange s.flags i.0 z.0, z.1)) (number_again 4 (2 ^ 32) wide4 h.id t7 s.id)
    ∙ ap (λ o. o >>= λ z. Some (head_made h.spi_i h.spi_r first version h.exchange s.flags h.id z.0, z.1)) (number_again 4 (2 ^ 32) wide4 size rest small)
    ∙ ap (λ (m : ℕ). Some (record { header = record { spi_i = h.spi_i; spi_r = h.spi_r; minor = m; exchange = h.exchange; flags = flags_of s.flags; id = h.id }; major = version / 16; first = first; length = size }, rest)) minor_is
    ∙ ap (λ (f : Flags). Some (record { header = record { spi_i = h.spi_i; spi_r = h.spi_r; minor = h.minor; exchange = h.exchange; flags = f; id = h.id }; major = version / 16; first = first; length = size }, rest)) (flags_again Free h.flags s.flags s.has_flags)
    ∙ ap (λ (m : ℕ). Some (record { header = h; major = m; first = first; length = size }, rest)) major_is

-- ---- the header of enough octets

octets_are : (count : ℕ) (xs : List ℕ) → count ≤ length xs → octets_at count xs ≡ Some (take count xs, drop count xs)
octets_are count xs long = let t : ltb (length xs) count ≡ false = le-ltb _ _ long in rw t refl

number_is : (count at : ℕ) (b : List ℕ) → at + count ≤ length b → number_at count (drop at b) ≡ Some (big_number count (drop at b), drop (at + count) b)
number_is count at b long =
    let enough : count ≤ length (drop at b) = omega (arith, length-drop at b) in
    ap (λ o. o >>= λ x. Some (big_number count x.0, x.1)) (octets_are count (drop at b) enough)
    ∙ ap (λ (n : ℕ). Some (n, drop count (drop at b))) (big_from-take 0 count count (drop at b) (omega arith))
    ∙ ap (λ (y : List ℕ). Some (big_number count (drop at b), y)) (drop-drop count at b)

octet_is : (at : ℕ) (b : List ℕ) → at + 1 ≤ length b → octet_at (drop at b) ≡ Some (slice_index b at, drop (at + 1) b)
octet_is at b long =
    let enough : 1 ≤ length (drop at b) = omega (arith, length-drop at b) in
    let first : get_or (take 1 (drop at b)) 0 0 ≡ get_or b at 0 = get_or-take 1 (drop at b) 0 0 (omega arith) ∙ get_or-drop at b 0 0 ∙ ap (λ (n : ℕ). get_or b n 0) (at_zero at) in
    ap (λ o. o >>= λ x. Some (slice_index x.0 0, x.1)) (octets_are 1 (drop at b) enough)
    ∙ ap (λ (n : ℕ). Some (n, drop 1 (drop at b))) first
    ∙ ap (λ (y : List ℕ). Some (slice_index b at, y)) (drop-drop 1 at b) where
      at_zero : (n : ℕ) → n + 0 ≡ n
      at_zero n = omega arith

abbrev head_in : List ℕ → Head
head_in b = head_made (big_number 8 (drop 0 b)) (big_number 8 (drop 8 b)) (slice_index b 16) (slice_index b 17) (slice_index b 18) (slice_index b 19) (big_number 4 (drop 20 b)) (big_number 4 (drop 24 b))

head_is : (b : List ℕ) → 28 ≤ length b → head_at b ≡ Some (head_in b, drop 28 b)
unfolding head_at
head_is b long =
    let a : ℕ = big_number 8 (drop 0 b) in
    let r : ℕ = big_number 8 (drop 8 b) in
    ap (λ o. o >>= λ a. number_at 8 a.1 >>= λ b'. octet_at b'.1 >>= λ c. octet_at c.1 >>= λ d. octet_at d.1 >>= λ e. octet_at e.1 >>= λ f. number_at 4 f.1 >>= λ i. number_at 4 i.1 >>= λ z. Some (head_made a.0 b'.0 c.0 d.0 e.0 f.0 i.0 z.0, z.1)) (number_is 8 0 b (omega arith))
    ∙ ap (λ o. o >>= λ b'. octet_at b'.1 >>= λ c. octet_at c.1 >>= λ d. octet_at d.1 >>= λ e. octet_at e.1 >>= λ f. number_at 4 f.1 >>= λ i. number_at 4 i.1 >>= λ z. Some (head_made a b'.0 c.0 d.0 e.0 f.0 i.0 z.0, z.1)) (number_is 8 8 b (omega arith))
    ∙ ap (λ o. o >>= λ c. octet_at c.1 >>= λ d. octet_at d.1 >>= λ e. octet_at e.1 >>= λ f. number_at 4 f.1 >>= λ i. number_at 4 i.1 >>= λ z. Some (head_made a r c.0 d.0 e.0 f.0 i.0 z.0, z.1)) (octet_is 16 b (omega arith))
    ∙ ap (λ o. o >>= λ d. octet_at d.1 >>= λ e. octet_at e.1 >>= λ f. number_at 4 f.1 >>= λ i. number_at 4 i.1 >>= λ z. Some (head_made a r (slice_index b 16) d.0 e.0 f.0 i.0 z.0, z.1)) (octet_is 17 b (omega arith))
    ∙ ap (λ o. o >>= λ e. octet_at e.1 >>= λ f. number_at 4 f.1 >>= λ i. number_at 4 i.1 >>= λ z. Some (head_made a r (slice_index b 16) (slice_index b 17) e.0 f.0 i.0 z.0, z.1)) (octet_is 18 b (omega arith))
    ∙ ap (λ o. o >>= λ f. number_at 4 f.1 >>= λ i. number_at 4 i.1 >>= λ z. Some (head_made a r (slice_index b 16) (slice_index b 17) (slice_index b 18) f.0 i.0 z.0, z.1)) (octet_is 19 b (omega arith))
    ∙ ap (λ o. o >>= λ i. number_at 4 i.1 >>= λ z. Some (head_made a r (slice_index b 16) (slice_index b 17) (slice_index b 18) (slice_index b 19) i.0 z.0, z.1)) (number_is 4 20 b (omega arith))
    ∙ ap (λ o. o >>= λ z. Some (head_made a r (slice_index b 16) (slice_index b 17) (slice_index b 18) (slice_index b 19) (big_number 4 (drop 20 b)) z.0, z.1)) (number_is 4 24 b (omega arith))

-- ---- whole messages

abbrev refused : {A : Type 0} → WireFault → Result A WireFault
refused f = Err f

with_else : {A : Type 0} {P : Type 0} (t : Bool) (d : WireFault) (r : Result A WireFault) (y : A) → cond t (refused d) r ≡ Ok y → (t ≡ false → r ≡ Ok y → P) → P
with_else true d r y e go = absurd cc
with_else false d r y e go = go refl e

not_false : (t : Bool) → not t ≡ false → t ≡ true
not_false true e = refl
not_false false e = absurd cc

not_true : (t : Bool) → not t ≡ true → t ≡ false
not_true true e = absurd cc
not_true false e = refl

pub message_takes : (b : List ℕ) (m : Message) → AreOctets b → message_of b ≡ Ok m → Spells m b
unfolding message_of headed_of
message_takes b m fits e =
    with_else (ltb (length b) 28) faults.Short _ m e (λ long r1.
    with_else (ltb 3000 (length b)) faults.TooLong _ m r1 (λ short r2.
    with_value (head_at b) faults.Short (λ head. headed_of b head.0 head.1) m r2 (λ head e3 r3.
    with_else (not (eqb head.0.length (length b))) faults.BadLength _ m r3 (λ same r4.
    with_else (not (eqb head.0.major 2)) faults.BadVersion _ m r4 (λ two r5.
    with_ok (chain_at true (length b) (length head.1) head.0.first head.1) (λ ps. Ok (record { header = head.0.header; payloads = ps })) m r5 (λ ps e6 r6.
    let t = head_takes b head fits e3 in
    let c = chain_takes true (length b) (length head.1) head.0.first head.1 ps t.first t.rest e6 in
    let length_is : head.0.length ≡ length b = eqb-true _ _ (not_false _ same) in
    let P : Message → Type 0 = λ n. Spells n b in
    subst P (ok_is (record { header = head.0.header; payloads = ps }) m r6) (record {
      first = head.0.first;
      header = t.header;
      payloads = head.1;
      whole = t.joined ∙ ap (λ (n : ℕ). t.header ++ big_bytes 4 n ++ head.1) length_is;
      head = t.spelled (eqb-true _ _ (not_false _ two));
      chain = c.0;
      limit = ltb-false _ _ short;
      octets = fits;
    })))))))

header_length : (Free : ℕ → Type 0) (h : Header) (first : ℕ) (x : List ℕ) → SpellsHeader Free h first x → length x ≡ 24
header_length Free h first x s = omega (arith, ap length s.spelled)

whole_length : (Free : ℕ → Type 0) (m : Message) (b : List ℕ) (s : SpellsWith Free m b) → length b ≡ 28 + length s.payloads
whole_length Free m b s =
    omega (arith, ap length s.whole, length-append (s.header ++ big_bytes 4 (length b)) s.payloads, length-append s.header (big_bytes 4 (length b)), header_length Free m.header s.first s.header s.head)

pub message_again : (m : Message) (b : List ℕ) → Spells m b → message_of b ≡ Ok m
unfolding message_of headed_of
message_again m b s =
    let n : ℕ = length b in
    let len = whole_length IsOctet m b s in
    let long : ltb n 28 ≡ false = le-ltb _ _ (omega arith) in
    let short : ltb 3000 n ≡ false = le-ltb _ _ s.limit in
    let head : Head = record { header = m.header; major = 2; first = s.first; length = n } in
    let read : head_at b ≡ Some (head, s.payloads) = ap head_at s.whole ∙ head_again IsOctet m.header s.first n s.header s.payloads s.head (omega (arith, s.limit)) in
    ap (λ t. cond t (refused faults.Short) (cond (ltb 3000 n) (Err faults.TooLong) (ok_or (head_at b) faults.Short >>> λ h. headed_of b h.0 h.1))) long
    ∙ ap (λ t. cond t (refused faults.TooLong) (ok_or (head_at b) faults.Short >>> λ h. headed_of b h.0 h.1)) short
    ∙ ap (λ o. ok_or o faults.Short >>> λ h. headed_of b h.0 h.1) read
    ∙ ap (λ t. cond (not t) (refused faults.BadLength) (chain_at true n (length s.payloads) s.first s.payloads >>> λ ps. Ok (record { header = m.header; payloads = ps }))) (same_numbers n n refl)
    ∙ ap (λ r. r >>> λ ps. Ok (record { header = m.header; payloads = ps })) (chain_again true n (length s.payloads) s.first m.payloads s.payloads (omega arith) tt s.chain)

-- the fault of what has this head
abbrev after_head : List ℕ → Result Message WireFault
after_head b = headed_of b (head_in b) (drop 28 b)

-- one test of the datagram after the other
long_enough : (b : List ℕ) → 28 ≤ length b → ltb (length b) 28 ≡ false
long_enough b h = le-ltb _ _ h

message_is : (b : List ℕ) → HasLength b → message_of b ≡ after_head b
unfolding message_of
message_is b h =
    ap (λ t. cond t (refused faults.Short) (cond (ltb 3000 (length b)) (Err faults.TooLong) (ok_or (head_at b) faults.Short >>> λ x. headed_of b x.0 x.1))) (le-ltb _ _ h.0)
    ∙ ap (λ t. cond t (refused faults.TooLong) (ok_or (head_at b) faults.Short >>> λ x. headed_of b x.0 x.1)) (le-ltb _ _ h.1)
    ∙ ap (λ o. ok_or o faults.Short >>> λ x. headed_of b x.0 x.1) (head_is b h.0)

abbrev chain_in : List ℕ → Result (List Payload) WireFault
chain_in b = chain_at true (length b) (length (drop 28 b)) (slice_index b 16) (drop 28 b)

abbrev made_of : List ℕ → List Payload → Message
made_of b ps = record { header = (head_in b).header; payloads = ps }

headed_is : (b : List ℕ) → HasVersion b → after_head b ≡ (chain_in b >>> λ ps. Ok (made_of b ps))
unfolding headed_of
headed_is b h =
    ap (λ t. cond (not t) (refused faults.BadLength) (cond (not (eqb (slice_index b 17 / 16) 2)) (refused faults.BadVersion) (chain_in b >>> λ ps. Ok (made_of b ps)))) (same_numbers (length_field b) (length b) h.1)
    ∙ ap (λ t. cond (not t) (refused faults.BadVersion) (chain_in b >>> λ ps. Ok (made_of b ps))) (same_numbers (slice_index b 17 / 16) 2 h.2)

-- a chain's fault, seen from its first octet
chain_faulty : (b : List ℕ) (f : WireFault) → HasVersion b → FaultyChain true (length b) (slice_index b 16) (drop 28 b) f → IsChainFault true 28 (slice_index b 16) (drop 28 b) f
chain_faulty b f h c =
    let at : length b - length c.rest ≡ 28 + length c.front = omega (arith, ap length c.joined, length-append c.front c.rest, length-drop 28 b, h.0.0) in
    record { payloads = c.payloads; kind = c.named; front = c.front; rest = c.rest; joined = c.joined; leads = c.leads; here = subst (λ (n : ℕ). IsFaultAt true c.named c.rest n f) at c.here }

chain_reads_fault : (b : List ℕ) (f : WireFault) → HasVersion b → AreOctets b → IsChainFault true 28 (slice_index b 16) (drop 28 b) f → message_of b ≡ Err f
chain_reads_fault b f h fits c =
    let at : 28 + length c.front ≡ length b - length c.rest = omega (arith, ap length c.joined, length-append c.front c.rest, length-drop 28 b, h.0.0) in
    let there : IsFaultAt true c.kind c.rest (length b - length c.rest) f = subst (λ (n : ℕ). IsFaultAt true c.kind c.rest n f) at c.here in
    let read = fault_again true (length b) (length (drop 28 b)) (slice_index b 16) c.payloads c.kind c.front c.rest (drop 28 b) f (omega arith) (octet_in b 16 fits) (octets_drop 28 b fits) c.joined c.leads there in
    message_is b h.0 ∙ headed_is b h ∙ ap (λ r. r >>> λ ps. Ok (made_of b ps)) read

pub fault_message : (b : List ℕ) (f : WireFault) → AreOctets b → IsFaultOf b f → message_of b ≡ Err f
unfolding message_of headed_of
fault_message b faults.Short fits h = let t : ltb (length b) 28 ≡ true = lt-ltb _ _ h in rw t refl
fault_message b faults.TooLong fits h =
    let s : ltb (length b) 28 ≡ false = le-ltb _ _ (omega arith) in
    let t : ltb 3000 (length b) ≡ true = lt-ltb _ _ h in
    rw (s, t) refl
fault_message b faults.BadLength fits h =
    let t : eqb (length_field b) (length b) ≡ false = ne_eqb _ _ h.1 in
    message_is b h.0 ∙ ap (λ x. cond (not x) (refused faults.BadLength) (cond (not (eqb (slice_index b 17 / 16) 2)) (refused faults.BadVersion) (chain_in b >>> λ ps. Ok (made_of b ps)))) t
fault_message b faults.BadVersion fits h =
    let t : eqb (slice_index b 17 / 16) 2 ≡ false = ne_eqb _ _ h.2 in
    message_is b h.0
    ∙ ap (λ x. cond (not x) (refused faults.BadLength) (cond (not (eqb (slice_index b 17 / 16) 2)) (refused faults.BadVersion) (chain_in b >>> λ ps. Ok (made_of b ps)))) (same_numbers (length_field b) (length b) h.1)
    ∙ ap (λ x. cond (not x) (refused faults.BadVersion) (chain_in b >>> λ ps. Ok (made_of b ps))) t
fault_message b (faults.BadChain at) fits h = chain_reads_fault b (faults.BadChain at) h.0 fits h.1
fault_message b (faults.BadProposal at) fits h = chain_reads_fault b (faults.BadProposal at) h.0 fits h.1
fault_message b (faults.BadSelector at) fits h = chain_reads_fault b (faults.BadSelector at) h.0 fits h.1
fault_message b (faults.BadNonce at) fits h = chain_reads_fault b (faults.BadNonce at) h.0 fits h.1
fault_message b (faults.BadField at) fits h = chain_reads_fault b (faults.BadField at) h.0 fits h.1
fault_message b faults.Memory fits h = absurd h

-- the fault of a chain is a fault of the message
of_chain : (b : List ℕ) (f : WireFault) → HasVersion b → IsChainFault true 28 (slice_index b 16) (drop 28 b) f → IsFaultOf b f
of_chain b faults.Short h c = absurd (chain_in_payload true 28 (slice_index b 16) (drop 28 b) faults.Short c)
of_chain b faults.BadLength h c = absurd (chain_in_payload true 28 (slice_index b 16) (drop 28 b) faults.BadLength c)
of_chain b faults.BadVersion h c = absurd (chain_in_payload true 28 (slice_index b 16) (drop 28 b) faults.BadVersion c)
of_chain b (faults.BadChain at) h c = (h, c)
of_chain b (faults.BadProposal at) h c = (h, c)
of_chain b (faults.BadSelector at) h c = (h, c)
of_chain b (faults.BadNonce at) h c = (h, c)
of_chain b (faults.BadField at) h c = (h, c)
of_chain b faults.TooLong h c = absurd (chain_in_payload true 28 (slice_index b 16) (drop 28 b) faults.TooLong c)
of_chain b faults.Memory h c = absurd (chain_in_payload true 28 (slice_index b 16) (drop 28 b) faults.Memory c)

bind_refused : {A B : Type 0} (r : Result A WireFault) (g : A → B) (f : WireFault) → (r >>> λ x. Ok (g x)) ≡ Err f → r ≡ Err f
bind_refused (Ok x) g f e = absurd cc
bind_refused {A = A} {B = B} (Err d) g f e = ap (λ (h : WireFault). Err h) (err_is {A = B} d f e)

pub message_fault : (b : List ℕ) (f : WireFault) → AreOctets b → message_of b ≡ Err f → IsFaultOf b f
unfolding message_of headed_of
message_fault b f fits e =
    elim (pick (ltb (length b) 28) _ _ _ e) [
      | inl short ↦ subst (IsFaultOf b) (err_is {A = Message} faults.Short f short.1) (ltb-true _ _ short.0)
      | inr long ↦
          elim (pick (ltb 3000 (length b)) _ _ _ long.1) [
            | inl over ↦ subst (IsFaultOf b) (err_is {A = Message} faults.TooLong f over.1) (ltb-true _ _ over.0)
            | inr within ↦
                let has : HasLength b = (ltb-false _ _ long.0, ltb-false _ _ within.0) in
                after b f fits has (sym (message_is b has) ∙ e)
          ]
    ] where
      after : (xs : List ℕ) (g : WireFault) → AreOctets xs → HasLength xs → after_head xs ≡ Err g → IsFaultOf xs g
      after xs g octets has e' =
          elim (pick (not (eqb (length_field xs) (length xs))) _ _ _ e') [
            | inl wrong ↦ subst (IsFaultOf xs) (err_is {A = Message} faults.BadLength g wrong.1) (has, eqb-false _ _ (not_true _ wrong.0))
            | inr right ↦
                let length_is : length_field xs ≡ length xs = eqb-true _ _ (not_false _ right.0) in
                elim (pick (not (eqb (slice_index xs 17 / 16) 2)) _ _ _ right.1) [
                  | inl other ↦ subst (IsFaultOf xs) (err_is {A = Message} faults.BadVersion g other.1) (has, length_is, eqb-false _ _ (not_true _ other.0))
                  | inr two ↦
                      let version : HasVersion xs = (has, length_is, eqb-true _ _ (not_false _ two.0)) in
                      let bad : chain_in xs ≡ Err g = bind_refused (chain_in xs) (made_of xs) g two.1 in
                      of_chain xs g version (chain_faulty xs g version (chain_fault true (length xs) (length (drop 28 xs)) (slice_index xs 16) (drop 28 xs) g (omega arith) (octet_in xs 16 octets) (octets_drop 28 xs octets) bad))
                ]
          ]

pub version_from : (b : List ℕ) (h : Head) (left : List ℕ) → 28 ≤ length b → length b ≤ 3000 → head_at b ≡ Some (h, left) → h.length ≡ length b → h.major ≡ 2 → HasVersion b
version_from b h left long short read same two =
    let is : (head_in b, drop 28 b) ≡ (h, left) = some_is (head_in b, drop 28 b) (h, left) (sym (head_is b long) ∙ read) in
    ((long, short), ap (λ (x : Head × List ℕ). x.0.length) is ∙ same, ap (λ (x : Head × List ℕ). x.0.major) is ∙ two)

-- what is behind a right header is read where its chain is
pub message_allowed : (b : List ℕ) (h : Head) (left : List ℕ) → 28 ≤ length b → length b ≤ 3000 → head_at b ≡ Some (h, left) → h.length ≡ length b → h.major ≡ 2 → IsOk (chain_at true (length b) (length left) h.first left) → IsOk (message_of b)
message_allowed b h left long short read same two chain =
    let v = version_from b h left long short read same two in
    let is : (head_in b, drop 28 b) ≡ (h, left) = some_is (head_in b, drop 28 b) (h, left) (sym (head_is b long) ∙ read) in
    let there : IsOk (chain_in b) = subst (λ (x : Head × List ℕ). IsOk (chain_at true (length b) (length x.1) x.0.first x.1)) (sym is) chain in
    subst (λ (r : Result Message WireFault). IsOk r) (sym (message_is b v.0 ∙ headed_is b v)) (still (chain_in b) there) where
      still : (r : Result (List Payload) WireFault) → IsOk r → IsOk (r >>> λ ps. Ok (made_of b ps))
      still (Ok ps) ok = refl
      still (Err f) ok = absurd cc

pub first_from : (b : List ℕ) (h : Head) (left : List ℕ) → 28 ≤ length b → head_at b ≡ Some (h, left) → slice_index b 16 ≡ h.first
first_from b h left long read = ap (λ (x : Head × List ℕ). x.0.first) (some_is (head_in b, drop 28 b) (h, left) (sym (head_is b long) ∙ read))
