-- Messages: what is encoded is spelled with zeros in reserved octets, and what is refused has no spelling.
use Rattle.std.proofs.Common.{◌≡◌, ◌≢◌, ℕ, ◌+◌, ◌^◌, ◌<◌, ◌≤◌, Bool, true, false, cond, leb, ltb, List, [], ◌∷◌, ◌++◌, length, take, drop, Option, Some, Result, Ok, Err, refl, sym, ap, subst, ◌∙◌, append_assoc, inl, inr, ◌⊎◌, arith}
use Rattle.std.specs.Prelude.{ok_or}
use Rattle.std.proofs.lemmas.Bool.{ltb-true, ltb-false, lt-ltb, le-ltb, leb-true, leb-false, le-leb, lt-leb}
use Rattle.std.proofs.lemmas.List.{length-append, take_at, drop_at}
use Rattle.byteorder.specs.Endian.{big_bytes}
use Rattle.base.specs.Octets.{AreOctets}
use Rattle.wire.specs.Parts.{IsZero}
use Rattle.wire.specs.Messages.{HasFlags, SpellsHeader, Spells, SpellsPlainly}
use Rattle.wire.specs.Refusals.{fault_in, IsPayloadFault, PassesLimit, IsEncodingFaultOf, IsUnlessMemory}
use Rattle.wire.specs.Reading.{◌>>=◌, ◌>>>◌}
use Rattle.wire.specs.Writing.{Fails, number_onto, first_type, payloads_onto, flags_octet, FitsHeader, header_onto, with_length, encoding_of}
use Rattle.wire.specs.declared.writer.Unwritten.{Unwritten}
use Rattle.wire.specs.declared.writer.Unwritten.TheVariants.{Unspelled, Memory}
use Rattle.wire.specs.declared.message.Message.{Message}
use Rattle.wire.specs.declared.message.Header.{Header}
use Rattle.wire.specs.declared.message.Flags.{Flags}
use Rattle.wire.specs.declared.payload.Payload.{Payload}
use Rattle.wire.specs.declared.fault.WireFault.{WireFault}
use Rattle.wire.specs.declared.fault.WireFault.TheVariants as faults
use Rattle.wire.proofs.FaultLemmas.{InPayload, fault_in_payload}
use Rattle.wire.proofs.Options.{some_is, with_some, pick}
use Rattle.wire.proofs.Links.{ok_is, err_is}
use Rattle.wire.proofs.Promises.{memory_or}
use Rattle.wire.proofs.Written.{number_appends}
use Rattle.wire.proofs.WrittenPayloads.{payloads_append, payloads_refuse, payloads_fault, fault_payloads, payloads_weaken, payloads_same, Faulty}

-- ---- the header

flags_plain : (f : Flags) → HasFlags IsZero f (flags_octet f)
flags_plain f = record { low = 0; high = 0; value = omega arith; low_bits = omega arith; high_bits = omega arith; free = (refl, refl) }

pub record MadeHeader (h : Header) (first : ℕ) (head : List ℕ) : Type 0 where
  pub front : List ℕ
  pub whole : head ≡ front ++ (0 ∷ 0 ∷ 0 ∷ 0 ∷ [])
  pub spelled : SpellsHeader IsZero h first front
  pub size : length front ≡ 24

abbrev four_of : Header → ℕ → List ℕ
four_of h first = first ∷ (32 + h.minor) ∷ h.exchange ∷ flags_octet h.flags ∷ []

pub header_made : (h : Header) (first : ℕ) (head : List ℕ) → h.minor < 16 → header_onto h first [] ≡ Some head → MadeHeader h first head
unfolding header_onto
header_made h first head low e =
    with_some (number_onto 8 h.spi_i []) (λ a. number_onto 8 h.spi_r a >>= λ b. number_onto 4 h.id (b ++ four_of h first) >>= λ d. Some (d ++ 0 ∷ 0 ∷ 0 ∷ 0 ∷ [])) head e (λ a e1 r1.
    with_some (number_onto 8 h.spi_r a) (λ b. number_onto 4 h.id (b ++ four_of h first) >>= λ d. Some (d ++ 0 ∷ 0 ∷ 0 ∷ 0 ∷ [])) head r1 (λ b e2 r2.
    with_some (number_onto 4 h.id (b ++ four_of h first)) (λ d. Some (d ++ 0 ∷ 0 ∷ 0 ∷ 0 ∷ [])) head r2 (λ d e3 r3.
    let n1 = number_appends 8 h.spi_i [] a e1 in
    let n2 = number_appends 8 h.spi_r a b e2 in
    let n3 = number_appends 4 h.id (b ++ four_of h first) d e3 in
    let front : List ℕ = big_bytes 8 h.spi_i ++ big_bytes 8 h.spi_r ++ (first ∷ (32 + h.minor) ∷ h.exchange ∷ flags_octet h.flags ∷ big_bytes 4 h.id) in
    let b_is : b ≡ big_bytes 8 h.spi_i ++ big_bytes 8 h.spi_r = n2.0 ∙ ap (λ (y : List ℕ). y ++ big_bytes 8 h.spi_r) n1.0 in
    let d_is : d ≡ front = n3.0 ∙ ap (λ (y : List ℕ). (y ++ four_of h first) ++ big_bytes 4 h.id) b_is ∙ append_assoc (big_bytes 8 h.spi_i ++ big_bytes 8 h.spi_r) (four_of h first) (big_bytes 4 h.id) in
    record {
      front = front;
      whole = sym (some_is (d ++ 0 ∷ 0 ∷ 0 ∷ 0 ∷ []) head r3) ∙ ap (λ (y : List ℕ). y ++ 0 ∷ 0 ∷ 0 ∷ 0 ∷ []) d_is;
      spelled = record { flags = flags_octet h.flags; has_flags = flags_plain h.flags; spelled = refl; spi_i = n1.1; spi_r = n2.1; minor = low; id = n3.1 };
      size = refl;
    })))

number_some : (count n : ℕ) (old : List ℕ) → n < 256 ^ count → number_onto count n old ≡ Some (old ++ big_bytes count n)
number_some count n old fits = let t : ltb n (256 ^ count) ≡ true = lt-ltb _ _ fits in rw t refl

header_some : (h : Header) (first : ℕ) → FitsHeader h → (head : List ℕ) × (header_onto h first [] ≡ Some head)
unfolding header_onto
header_some h first fits =
    let a : List ℕ = [] ++ big_bytes 8 h.spi_i in
    let b : List ℕ = a ++ big_bytes 8 h.spi_r in
    let d : List ℕ = (b ++ four_of h first) ++ big_bytes 4 h.id in (
      d ++ 0 ∷ 0 ∷ 0 ∷ 0 ∷ [],
      ap (λ o. o >>= λ x. number_onto 8 h.spi_r x >>= λ y. number_onto 4 h.id (y ++ four_of h first) >>= λ z. Some (z ++ 0 ∷ 0 ∷ 0 ∷ 0 ∷ [])) (number_some 8 h.spi_i [] fits.spi_i)
          ∙ ap (λ o. o >>= λ y. number_onto 4 h.id (y ++ four_of h first) >>= λ z. Some (z ++ 0 ∷ 0 ∷ 0 ∷ 0 ∷ [])) (number_some 8 h.spi_r a fits.spi_r)
          ∙ ap (λ o. o >>= λ z. Some (z ++ 0 ∷ 0 ∷ 0 ∷ 0 ∷ [])) (number_some 4 h.id (b ++ four_of h first) fits.id),
    )

header_length : (h : Header) (first : ℕ) (head : List ℕ) → MadeHeader h first head → length head ≡ 28
header_length h first head m = omega (arith, ap length m.whole, length-append m.front (0 ∷ 0 ∷ 0 ∷ 0 ∷ []), m.size)

-- ---- the whole

abbrev head_of : Message → Option (List ℕ)
head_of m = header_onto m.header (first_type m.payloads) []

abbrev ended : List ℕ → Result (List ℕ) WireFault
ended whole = cond (ltb 3000 (length whole)) (Err faults.TooLong) (Ok (with_length whole))

pub encoded_late : (m : Message) → 16 ≤ m.header.minor → encoding_of m ≡ Err faults.BadVersion
unfolding encoding_of
encoded_late m high = let t : leb 16 m.header.minor ≡ true = le-leb _ _ high in rw t refl

encoded_is : (m : Message) (head : List ℕ) → m.header.minor < 16 → head_of m ≡ Some head → encoding_of m ≡ (payloads_onto m.payloads head >>> λ whole. ended whole)
unfolding encoding_of
encoded_is m head low e =
    let t : leb 16 m.header.minor ≡ false = lt-leb _ _ low in
    ap (λ b. cond b (Err faults.BadVersion) (ok_or (head_of m) faults.BadVersion >>> λ x. payloads_onto m.payloads x >>> λ whole. ended whole)) t
    ∙ ap (λ o. ok_or o faults.BadVersion >>> λ x. payloads_onto m.payloads x >>> λ whole. ended whole) e

-- the exits of the code
pub head_exits : (m : Message) (u : Unwritten) (r : WireFault) → m.header.minor < 16 → (u ≡ Unspelled → r ≡ faults.BadVersion) → (u ≡ Memory → r ≡ faults.Memory) → Fails u (head_of m) → r ≢ faults.Memory → encoding_of m ≡ Err r
unfolding encoding_of
head_exits m Memory r low spelled memory fails other = absurd (other (memory refl))
head_exits m Unspelled r low spelled memory fails other =
    let t : leb 16 m.header.minor ≡ false = lt-leb _ _ low in
    ap (λ b. cond b (Err faults.BadVersion) (ok_or (head_of m) faults.BadVersion >>> λ x. payloads_onto m.payloads x >>> λ whole. ended whole)) t
    ∙ ap (λ o. ok_or o faults.BadVersion >>> λ x. payloads_onto m.payloads x >>> λ whole. ended whole) fails
    ∙ ap (λ (f : WireFault). Err f) (sym (spelled refl))

pub payloads_exit : (m : Message) (head : List ℕ) (f : WireFault) → m.header.minor < 16 → head_of m ≡ Some head → (f ≢ faults.Memory → payloads_onto m.payloads head ≡ Err f) → f ≢ faults.Memory → encoding_of m ≡ Err f
payloads_exit m head f low e refused other = encoded_is m head low e ∙ ap (λ r. r >>> λ whole. ended whole) (refused other)

pub encoded_long : (m : Message) (head whole : List ℕ) → m.header.minor < 16 → head_of m ≡ Some head → payloads_onto m.payloads head ≡ Ok whole → 3000 < length whole → encoding_of m ≡ Err faults.TooLong
encoded_long m head whole low e made long =
    let t : ltb 3000 (length whole) ≡ true = lt-ltb _ _ long in
    encoded_is m head low e ∙ ap (λ r. r >>> λ x. ended x) made ∙ ap (λ b. cond b (Err faults.TooLong) (Ok (with_length whole))) t

pub encoded_ok : (m : Message) (head whole : List ℕ) → m.header.minor < 16 → head_of m ≡ Some head → payloads_onto m.payloads head ≡ Ok whole → length whole ≤ 3000 → encoding_of m ≡ Ok (with_length whole)
encoded_ok m head whole low e made short =
    let t : ltb 3000 (length whole) ≡ false = le-ltb _ _ short in
    encoded_is m head low e ∙ ap (λ r. r >>> λ x. ended x) made ∙ ap (λ b. cond b (Err faults.TooLong) (Ok (with_length whole))) t

pub whole_room : (m : Message) (head whole : List ℕ) → m.header.minor < 16 → head_of m ≡ Some head → payloads_onto m.payloads head ≡ Ok whole → 28 ≤ length whole
whole_room m head whole low e made =
    let a = payloads_append m.payloads head whole made in
    omega (arith, header_length m.header (first_type m.payloads) head (header_made m.header (first_type m.payloads) head low e), ap length a.appended, length-append head a.added)

-- ---- what is encoded is spelled

sized_is : (front behind whole : List ℕ) → length front ≡ 24 → whole ≡ (front ++ (0 ∷ 0 ∷ 0 ∷ 0 ∷ [])) ++ behind → with_length whole ≡ front ++ big_bytes 4 (length whole) ++ behind
sized_is front behind whole size e =
    let split : whole ≡ front ++ (0 ∷ 0 ∷ 0 ∷ 0 ∷ behind) = e ∙ append_assoc front (0 ∷ 0 ∷ 0 ∷ 0 ∷ []) behind in
    let head : take 24 whole ≡ front = ap (take 24) split ∙ take_at front (0 ∷ 0 ∷ 0 ∷ 0 ∷ behind) 24 size in
    let tail : drop 28 whole ≡ behind = ap (drop 28) e ∙ drop_at (front ++ (0 ∷ 0 ∷ 0 ∷ 0 ∷ [])) behind 28 (omega (arith, length-append front (0 ∷ 0 ∷ 0 ∷ 0 ∷ []), size)) in
    ap (λ (y : List ℕ). y ++ big_bytes 4 (length whole) ++ drop 28 whole) head ∙ ap (λ (y : List ℕ). front ++ big_bytes 4 (length whole) ++ y) tail

plain_of : (m : Message) (head whole : List ℕ) → m.header.minor < 16 → head_of m ≡ Some head → payloads_onto m.payloads head ≡ Ok whole → length whole ≤ 3000 → AreOctets (with_length whole) → SpellsPlainly m (with_length whole)
plain_of m head whole low e made short octets =
    let h = header_made m.header (first_type m.payloads) head low e in
    let a = payloads_append m.payloads head whole made in
    let whole_is : whole ≡ (h.front ++ (0 ∷ 0 ∷ 0 ∷ 0 ∷ [])) ++ a.added = a.appended ∙ ap (λ (y : List ℕ). y ++ a.added) h.whole in
    let is = sized_is h.front a.added whole h.size whole_is in
    let same : length (with_length whole) ≡ length whole =
    omega (arith, ap length is, length-append (h.front ++ big_bytes 4 (length whole)) a.added, length-append h.front (big_bytes 4 (length whole)), ap length whole_is, length-append (h.front ++ (0 ∷ 0 ∷ 0 ∷ 0 ∷ [])) a.added, length-append h.front (0 ∷ 0 ∷ 0 ∷ 0 ∷ [])) in
    record {
      first = first_type m.payloads;
      header = h.front;
      payloads = a.added;
      whole = is ∙ ap (λ (n : ℕ). h.front ++ big_bytes 4 n ++ a.added) (sym same);
      head = h.spelled;
      chain = a.spelled;
      limit = omega (arith, same, short);
      octets = octets;
    }

-- zeros are octets
pub plain_is_spelled : (m : Message) (b : List ℕ) → SpellsPlainly m b → Spells m b
plain_is_spelled m b s =
    let h = s.head in
    let f = h.has_flags in
    record {
      first = s.first;
      header = s.header;
      payloads = s.payloads;
      whole = s.whole;
      head = record { flags = h.flags; has_flags = record { low = f.low; high = f.high; value = f.value; low_bits = f.low_bits; high_bits = f.high_bits; free = (omega (arith, f.free.0), omega (arith, f.free.1)) }; spelled = h.spelled; spi_i = h.spi_i; spi_r = h.spi_r; minor = h.minor; id = h.id };
      chain = payloads_weaken s.first m.payloads s.payloads s.chain;
      limit = s.limit;
      octets = s.octets;
    }

abbrev FitsIf : Message → Type 0
FitsIf m = m.header.minor < 16 → FitsHeader m.header

-- the encoding is by cases on the version, the payloads and the length
record Encoded (m : Message) : Type 0 where
  head : List ℕ
  made : head_of m ≡ Some head
  low : m.header.minor < 16

version_cases : (m : Message) → FitsIf m → (16 ≤ m.header.minor) ⊎ Encoded m
version_cases m fits = go (leb 16 m.header.minor) refl where
  go : (t : Bool) → leb 16 m.header.minor ≡ t → (16 ≤ m.header.minor) ⊎ Encoded m
  go true e = inl (leb-true _ _ e)
  go false e =
      let low : m.header.minor < 16 = leb-false _ _ e in
      let h = header_some m.header (first_type m.payloads) (fits low) in
      inr (record { head = h.0; made = h.1; low = low })

clash_ok : {A : Type 0} {x : A} {f : WireFault} → Ok x ≡ Err f → ⊥
clash_ok q = cc

pub encoded_plain : (m : Message) (b : List ℕ) → FitsIf m → encoding_of m ≡ Ok b → AreOctets b → SpellsPlainly m b
encoded_plain m b fits e octets = elim (version_cases m fits) [
  | inl high ↦ absurd (clash_ok (sym e ∙ encoded_late m high))
  | inr v ↦ go v (payloads_onto m.payloads v.head) refl
] where
  go : (v : Encoded m) → (r : Result (List ℕ) WireFault) → payloads_onto m.payloads v.head ≡ r → SpellsPlainly m b
  go v (Err g) q = absurd (clash_ok (sym e ∙ encoded_is m v.head v.low v.made ∙ ap (λ r. r >>> λ x. ended x) q))
  go v (Ok whole) q = elim (pick (ltb 3000 (length whole)) (Err faults.TooLong) (Ok (with_length whole)) (Ok b) (ap (λ r. r >>> λ x. ended x) (sym q) ∙ sym (encoded_is m v.head v.low v.made) ∙ e)) [
    | inl long ↦ absurd (clash_ok (sym long.1))
    | inr short ↦
        let is : with_length whole ≡ b = ok_is (with_length whole) b short.1 in
        subst (λ (x : List ℕ). SpellsPlainly m x) is (plain_of m v.head whole v.low v.made q (ltb-false _ _ short.0) (subst AreOctets (sym is) octets))
  ]

-- ---- what is refused

of_payload : (m : Message) (f : WireFault) → m.header.minor < 16 → InPayload f → IsPayloadFault 28 m.payloads f → IsEncodingFaultOf m f
of_payload m faults.Short low i p = i
of_payload m faults.BadLength low i p = i
of_payload m faults.BadVersion low i p = absurd i
of_payload m (faults.BadChain at) low i p = (low, p)
of_payload m (faults.BadProposal at) low i p = (low, p)
of_payload m (faults.BadSelector at) low i p = (low, p)
of_payload m (faults.BadNonce at) low i p = (low, p)
of_payload m (faults.BadField at) low i p = (low, p)
of_payload m faults.TooLong low i p = absurd i
of_payload m faults.Memory low i p = i

payload_faulty : (m : Message) (head : List ℕ) (f : WireFault) → m.header.minor < 16 → length head ≡ 28 → Faulty head m.payloads f → IsEncodingFaultOf m f
payload_faulty m head f low size p =
    let at : f ≡ fault_in p.payload (28 + length p.octets) = p.fault ∙ ap (λ (n : ℕ). fault_in p.payload (n + length p.octets)) size in
    of_payload m f low (subst InPayload (sym p.fault) (fault_in_payload p.payload (length head + length p.octets)))
    (record { before = p.before; payload = p.payload; after = p.after; split = p.split; first = first_type m.payloads; octets = p.octets; leads = p.leads; unspelled = p.unspelled; fault = at })

pub encoded_fault : (m : Message) (f : WireFault) → FitsIf m → encoding_of m ≡ Err f → IsEncodingFaultOf m f
encoded_fault m f fits e = elim (version_cases m fits) [
  | inl high ↦ subst (IsEncodingFaultOf m) (err_is {A = List ℕ} faults.BadVersion f (sym (encoded_late m high) ∙ e)) high
  | inr v ↦ go v (payloads_onto m.payloads v.head) refl
] where
  go : (v : Encoded m) → (r : Result (List ℕ) WireFault) → payloads_onto m.payloads v.head ≡ r → IsEncodingFaultOf m f
  go v (Err g) q =
      let is : g ≡ f = err_is {A = List ℕ} g f (sym (encoded_is m v.head v.low v.made ∙ ap (λ r. r >>> λ x. ended x) q) ∙ e) in
      let size = header_length m.header (first_type m.payloads) v.head (header_made m.header (first_type m.payloads) v.head v.low v.made) in
      subst (IsEncodingFaultOf m) is (payload_faulty m v.head g v.low size (payloads_fault m.payloads v.head g q))
  go v (Ok whole) q = elim (pick (ltb 3000 (length whole)) (Err faults.TooLong) (Ok (with_length whole)) (Err f) (ap (λ r. r >>> λ x. ended x) (sym q) ∙ sym (encoded_is m v.head v.low v.made) ∙ e)) [
    | inl long ↦
        let a = payloads_append m.payloads v.head whole q in
        let size = header_length m.header (first_type m.payloads) v.head (header_made m.header (first_type m.payloads) v.head v.low v.made) in
        let over : 3000 < 28 + length a.added = omega (arith, ltb-true _ _ long.0, ap length a.appended, length-append v.head a.added, size) in
        subst (IsEncodingFaultOf m) (err_is {A = List ℕ} faults.TooLong f long.1) (v.low, (first_type m.payloads, a.added, payloads_weaken (first_type m.payloads) m.payloads a.added a.spelled, over))
    | inr short ↦ absurd (clash_ok short.1)
  ]

payload_fault_encoded : (m : Message) (f : WireFault) → FitsIf m → m.header.minor < 16 → IsPayloadFault 28 m.payloads f → encoding_of m ≡ Err f
payload_fault_encoded m f fits low p =
    let h = header_some m.header (first_type m.payloads) (fits low) in
    let size = header_length m.header (first_type m.payloads) h.0 (header_made m.header (first_type m.payloads) h.0 low h.1) in
    let bad : payloads_onto m.payloads h.0 ≡ Err f =
    ap (λ (ps : List Payload). payloads_onto ps h.0) p.split ∙ fault_payloads p.before p.payload p.after h.0 p.first p.octets p.leads p.unspelled
    ∙ ap (λ (n : ℕ). Err (fault_in p.payload (n + length p.octets))) size ∙ ap (λ (d : WireFault). Err d) (sym p.fault) in
    encoded_is m h.0 low h.1 ∙ ap (λ r. r >>> λ x. ended x) bad

long_encoded : (m : Message) → FitsIf m → m.header.minor < 16 → PassesLimit m.payloads → encoding_of m ≡ Err faults.TooLong
long_encoded m fits low long = go (payloads_onto m.payloads h.0) refl where
  h : (head : List ℕ) × (head_of m ≡ Some head)
  h = header_some m.header (first_type m.payloads) (fits low)

  go : (r : Result (List ℕ) WireFault) → payloads_onto m.payloads h.0 ≡ r → encoding_of m ≡ Err faults.TooLong
  go (Err g) q = absurd (payloads_refuse m.payloads h.0 g q long.0 long.1 long.2)
  go (Ok whole) q =
      let a = payloads_append m.payloads h.0 whole q in
      let size = header_length m.header (first_type m.payloads) h.0 (header_made m.header (first_type m.payloads) h.0 low h.1) in
      let same = payloads_same (first_type m.payloads) long.0 m.payloads a.added long.1 a.spelled long.2 in
      encoded_long m h.0 whole low h.1 q (omega (arith, long.3, same, ap length a.appended, length-append h.0 a.added, size))

pub fault_encoded : (m : Message) (f : WireFault) → FitsIf m → IsEncodingFaultOf m f → encoding_of m ≡ Err f
fault_encoded m faults.Short fits h = absurd h
fault_encoded m faults.BadLength fits h = absurd h
fault_encoded m faults.BadVersion fits h = encoded_late m h
fault_encoded m (faults.BadChain at) fits h = payload_fault_encoded m (faults.BadChain at) fits h.0 h.1
fault_encoded m (faults.BadProposal at) fits h = payload_fault_encoded m (faults.BadProposal at) fits h.0 h.1
fault_encoded m (faults.BadSelector at) fits h = payload_fault_encoded m (faults.BadSelector at) fits h.0 h.1
fault_encoded m (faults.BadNonce at) fits h = payload_fault_encoded m (faults.BadNonce at) fits h.0 h.1
fault_encoded m (faults.BadField at) fits h = payload_fault_encoded m (faults.BadField at) fits h.0 h.1
fault_encoded m faults.TooLong fits h = long_encoded m fits h.0 h.1
fault_encoded m faults.Memory fits h = absurd h

pub encoded_unspelled : (m : Message) (f : WireFault) → FitsIf m → encoding_of m ≡ Err f → (b : List ℕ) → Spells m b → ⊥
encoded_unspelled m f fits e b s = elim (version_cases m fits) [
  | inl high ↦ omega (arith, high, s.head.minor)
  | inr v ↦ go v (payloads_onto m.payloads v.head) refl
] where
  go : (v : Encoded m) → (r : Result (List ℕ) WireFault) → payloads_onto m.payloads v.head ≡ r → ⊥
  go v (Err g) q = payloads_refuse m.payloads v.head g q s.first s.payloads s.chain
  go v (Ok whole) q = elim (pick (ltb 3000 (length whole)) (Err faults.TooLong) (Ok (with_length whole)) (Err f) (ap (λ r. r >>> λ x. ended x) (sym q) ∙ sym (encoded_is m v.head v.low v.made) ∙ e)) [
    | inl long ↦
        let a = payloads_append m.payloads v.head whole q in
        let size = header_length m.header (first_type m.payloads) v.head (header_made m.header (first_type m.payloads) v.head v.low v.made) in
        let same = payloads_same (first_type m.payloads) s.first m.payloads a.added s.payloads a.spelled s.chain in
        let front : length s.header ≡ 24 = ap length s.head.spelled in
        omega (arith, ltb-true _ _ long.0, ap length a.appended, length-append v.head a.added, size, same, s.limit, ap length s.whole, length-append (s.header ++ big_bytes 4 (length b)) s.payloads, length-append s.header (big_bytes 4 (length b)), front)
    | inr short ↦ clash_ok short.1
  ]

-- ---- the promises of the call

pub refused_unless : (m : Message) (g f : WireFault) → FitsIf m → (g ≢ faults.Memory → encoding_of m ≡ Err g) → IsEncodingFaultOf m f → {U : Type 0} → IsUnlessMemory {T = U} (Err g) (Err f)
refused_unless m g f fits e h = elim (memory_or g) [
  | inl is ↦ inr (ap (λ (d : WireFault). Err d) is)
  | inr other ↦ inl (ap (λ (d : WireFault). Err d) (err_is {A = List ℕ} g f (sym (e other) ∙ fault_encoded m f fits h)))
]

pub encoded_no_fault : (m : Message) (b : List ℕ) (f : WireFault) → FitsIf m → encoding_of m ≡ Ok b → IsEncodingFaultOf m f → ⊥
encoded_no_fault m b f fits e h = clash_ok (sym e ∙ fault_encoded m f fits h)
