-- What a sealed packet is to its receiver.
use Rattle.std.proofs.Common.{◌≡◌, ℕ, ◌+◌, ◌-◌, ◌%◌, ◌^◌, List, [], ◌∷◌, ◌++◌, length, take, drop, get_or, refl, sym, ap, ◌∙◌, arith, length-append}
use Rattle.std.proofs.lemmas.List.{append_assoc, take_at, drop_at, get_or_at}
use Rattle.byteorder.specs.Endian.{big_bytes, big_number}
use Rattle.byteorder.specs.Numbers.{length-bytes_high_first, big_number-reads_back}
use Rattle.mac.proofs.HmacLemmas.{length-icv_sha256}
use Rattle.esp.specs.declared.sa.Sa.{Sa}
use Rattle.esp.specs.Packet.{head, padding, trailer, check_value, IsPacket, PassesIntegrity, IsContents}
use Rattle.esp.specs.Judging.{IsJudgedLength, low_half}
use Rattle.esp.specs.Sealing.{IsShortestPacket, FitsPacket}
use Rattle.esp.specs.Worked.{IsOpenable}
use Rattle.esp.proofs.ContentsLemmas.{length-padding, payload_at}

pub length-head : (a : Sa) (n : ℕ) → length (head a n) ≡ 8
length-head a n = length-append (big_bytes 4 a.spi) (big_bytes 4 (n % 2 ^ 32)) ∙ (let l = length-bytes_high_first 4 a.spi in let k = length-bytes_high_first 4 (n % 2 ^ 32) in omega arith)

module _ (a : Sa) (n next : ℕ) (payload : List ℕ) (p : ℕ) (b : List ℕ) (is : IsPacket a n next payload p b) where
  abbrev covered : List ℕ
  covered = head a n ++ payload ++ trailer p next

  abbrev check : List ℕ
  check = check_value a n covered

  sixteen : length check ≡ 16
  sixteen = length-icv_sha256 a.key _

  length-covered : length covered ≡ 8 + length payload + p + 2
  length-covered =
      length-append (head a n ++ payload) (trailer p next)
      ∙ (let l = length-append (head a n) payload in
      let h = length-head a n in
      let t = length-append (padding p) (p ∷ next ∷ []) in
      let q = length-padding p in
      omega arith)

  length-packet : length b ≡ 8 + length payload + p + 18
  length-packet = ap length is.octets ∙ length-append covered check ∙ (let c = length-covered in let s = sixteen in omega arith)

  pub packet_passes : PassesIntegrity a n b
  packet_passes = record {
    rest = covered;
    check = check;
    octets = is.octets;
    sixteen = sixteen;
    begins =
        ap (take 8) (append_assoc (head a n) payload (trailer p next))
        ∙ take_at (head a n) (payload ++ trailer p next) 8 (length-head a n);
    fits = is.fits;
    right = refl;
  }

  pub packet_whole : FitsPacket payload → IsJudgedLength (length b)
  packet_whole small =
      let len = length-packet in
      let words = is.aligned in
      let pad = is.one_octet in
      record { words = omega arith; least = omega arith; most = omega arith }

  pub packet_contents : IsContents b next payload
  packet_contents = record {
    front = head a n;
    p = p;
    check = check;
    octets = is.octets;
    eight = length-head a n;
    sixteen = sixteen;
  }

  pub packet_low_half : low_half b ≡ n % 2 ^ 32
  packet_low_half =
      let spi : List ℕ = big_bytes 4 a.spi in
      let low : List ℕ = big_bytes 4 (n % 2 ^ 32) in
      let rest : List ℕ = payload ++ (trailer p next ++ check) in
      let split : b ≡ spi ++ (low ++ rest) =
      is.octets
      ∙ append_assoc (head a n ++ payload) (trailer p next) check
      ∙ append_assoc (head a n) payload (trailer p next ++ check)
      ∙ append_assoc spi low rest
      in
      ap (λ (xs : List ℕ). big_number 4 (drop 4 xs)) split
      ∙ ap (big_number 4) (drop_at spi (low ++ rest) 4 (length-bytes_high_first 4 a.spi))
      ∙ big_number-reads_back 4 (n % 2 ^ 32) rest (omega arith)

-- where the next header stands
next_at : (b : List ℕ) (next : ℕ) (payload : List ℕ) (c : IsContents b next payload) → get_or b (length b - 17) 0 ≡ next
next_at b next payload c =
    let front : List ℕ = c.front ++ payload ++ padding c.p ++ c.p ∷ [] in
    let split : b ≡ front ++ next ∷ c.check =
    c.octets
    ∙ append_assoc (c.front ++ payload) (trailer c.p next) c.check
    ∙ ap (λ (xs : List ℕ). (c.front ++ payload) ++ xs) (append_assoc (padding c.p) (c.p ∷ next ∷ []) c.check)
    ∙ sym (append_assoc (c.front ++ payload) (padding c.p) (c.p ∷ next ∷ c.check))
    ∙ sym (append_assoc (c.front ++ payload ++ padding c.p) (c.p ∷ []) (next ∷ c.check))
    in
    let len : length b ≡ length front + 17 = ap length split ∙ length-append front (next ∷ c.check) ∙ (let s = c.sixteen in omega arith) in
    ap (λ (xs : List ℕ). get_or xs (length b - 17) 0) split ∙ get_or_at front next c.check 0 (length b - 17) (omega arith)

length-contents : (b : List ℕ) (next : ℕ) (payload : List ℕ) (c : IsContents b next payload) → length b ≡ 8 + length payload + c.p + 18
length-contents b next payload c =
    ap length c.octets
    ∙ length-append (c.front ++ payload ++ trailer c.p next) c.check
    ∙ (let k = length-append (c.front ++ payload) (trailer c.p next) in
    let l = length-append c.front payload in
    let t = length-append (padding c.p) (c.p ∷ next ∷ []) in
    let q = length-padding c.p in
    let e = c.eight in
    let s = c.sixteen in
    omega arith)

pad_at : (b : List ℕ) (next : ℕ) (payload : List ℕ) (c : IsContents b next payload) → get_or b (length b - 18) 0 ≡ c.p
pad_at b next payload c =
    let front : List ℕ = c.front ++ payload ++ padding c.p in
    let split : b ≡ front ++ c.p ∷ next ∷ c.check =
    c.octets
    ∙ append_assoc (c.front ++ payload) (trailer c.p next) c.check
    ∙ ap (λ (xs : List ℕ). (c.front ++ payload) ++ xs) (append_assoc (padding c.p) (c.p ∷ next ∷ []) c.check)
    ∙ sym (append_assoc (c.front ++ payload) (padding c.p) (c.p ∷ next ∷ c.check))
    in
    let len : length b ≡ length front + 18 = ap length split ∙ length-append front (c.p ∷ next ∷ c.check) ∙ (let s = c.sixteen in omega arith) in
    ap (λ (xs : List ℕ). get_or xs (length b - 18) 0) split ∙ get_or_at front c.p (next ∷ c.check) 0 (length b - 18) (omega arith)

-- a packet carries one payload
pub one_contents : (b : List ℕ) (next next' : ℕ) (payload payload' : List ℕ) → IsContents b next payload → IsContents b next' payload' → (next' ≡ next) × (payload' ≡ payload)
one_contents b next next' payload payload' c d =
    let same_pad : d.p ≡ c.p = sym (pad_at b next' payload' d) ∙ pad_at b next payload c in
    let len : length payload' ≡ length payload = let l = length-contents b next payload c in let k = length-contents b next' payload' d in omega arith in (
      sym (next_at b next' payload' d) ∙ next_at b next payload c,
      (payload_at b next' payload' d).1 ∙ ap (λ (k : ℕ). take k (drop 8 b)) len ∙ sym (payload_at b next payload c).1,
    )

pub openable : (a : Sa) (n next : ℕ) (payload b : List ℕ) → IsShortestPacket a n next payload b → FitsPacket payload → IsOpenable a n next payload b
openable a n next payload b s small =
    let has = packet_contents a n next payload s.p b s.packet in
    record {
      whole = packet_whole a n next payload s.p b s.packet small;
      intact = packet_passes a n next payload s.p b s.packet;
      contents = has;
      no_other = λ next' payload' other. one_contents b next next' payload payload' has other;
    }
