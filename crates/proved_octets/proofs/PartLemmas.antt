-- Octets that are proved tell the first message, the nonce, and the MAC of the identity.
use Rattle.std.proofs.Common.{◌≡◌, ◌+◌, ◌++◌, ◌∷◌, ℕ, length, take, drop, refl, sym, ap, ◌∙◌, arith, append_assoc}
use Rattle.std.proofs.lemmas.List.{drop_at, length-append, take_at}
use Rattle.byteorder.specs.Endian.{big_bytes, big_number}
use Rattle.byteorder.specs.Numbers.{big_number-reads_back, length-bytes_high_first}
use Rattle.base.specs.Octets.{Octets}
use Rattle.mac.specs.Hmac.{hmac_sha256}
use Rattle.mac.proofs.HmacLemmas.{length-hmac_sha256}
use Rattle.wire.specs.Messages.{Spells}
use Rattle.wire.specs.declared.message.Message.{Message}
use Rattle.proved_octets.specs.Parts.{HaveTheSameParts}

-- a message's own length stands in it
header_long : (m : Message) (b : Octets) (s : Spells m b) → length s.header ≡ 24
header_long m b s =
    let h = s.head in
    let one = length-bytes_high_first 8 m.header.spi_i in
    let two = length-bytes_high_first 8 m.header.spi_r in
    let four = length-bytes_high_first 4 m.header.id in
    let last = s.first ∷ (32 + m.header.minor) ∷ m.header.exchange ∷ h.flags ∷ big_bytes 4 m.header.id in
    let rest = length-append (big_bytes 8 m.header.spi_r) last in
    let whole = ap length h.spelled ∙ length-append (big_bytes 8 m.header.spi_i) (big_bytes 8 m.header.spi_r ++ last) in
    omega (arith, one, two, four, rest, whole)

length_there : (m : Message) (b rest : Octets) → Spells m b → big_number 4 (drop 24 (b ++ rest)) ≡ length b
length_there m b rest s =
    let short = s.limit in
    let tail = s.payloads ++ rest in
    let whole : b ++ rest ≡ s.header ++ (big_bytes 4 (length b) ++ tail) =
    ap (λ (x : Octets). x ++ rest) s.whole
    ∙ append_assoc (s.header ++ big_bytes 4 (length b)) s.payloads rest
    ∙ append_assoc s.header (big_bytes 4 (length b)) tail in
    ap (λ (x : Octets). big_number 4 (drop 24 x)) whole
    ∙ ap (big_number 4) (drop_at s.header (big_bytes 4 (length b) ++ tail) 24 (header_long m b s))
    ∙ big_number-reads_back 4 (length b) tail (omega (arith, short))

record SameFront (one other rest left : Octets) : Type 0 where
  pub front : one ≡ other
  pub behind : rest ≡ left

-- two messages at the front of one list are one
same_message : (m n : Message) (one other rest left : Octets) → Spells m one → Spells n other → one ++ rest ≡ other ++ left → SameFront one other rest left
same_message m n one other rest left s t same =
    let long : length one ≡ length other = sym (length_there m one rest s) ∙ ap (λ (x : Octets). big_number 4 (drop 24 x)) same ∙ length_there n other left t in
    record {
      front = sym (take_at one rest (length one) refl) ∙ ap (take (length one)) same ∙ ap (λ (k : ℕ). take k (other ++ left)) long ∙ take_at other left (length other) refl;
      behind = sym (drop_at one rest (length one) refl) ∙ ap (drop (length one)) same ∙ ap (λ (k : ℕ). drop k (other ++ left)) long ∙ drop_at other left (length other) refl;
    }

pub proved_tells : (m n : Message) (first nonce sk_p text other another key content : Octets) → Spells m first → Spells n other
    → first ++ nonce ++ hmac_sha256 sk_p text ≡ other ++ another ++ hmac_sha256 key content → HaveTheSameParts first nonce sk_p text other another key content
proved_tells m n first nonce sk_p text other another key content s t same =
    let front = same_message m n first other (nonce ++ hmac_sha256 sk_p text) (another ++ hmac_sha256 key content) s t (sym (append_assoc first nonce (hmac_sha256 sk_p text)) ∙ same ∙ append_assoc other another (hmac_sha256 key content)) in
    let lengths = sym (length-append nonce (hmac_sha256 sk_p text)) ∙ ap length front.behind ∙ length-append another (hmac_sha256 key content) in
    let one = length-hmac_sha256 sk_p text in
    let two = length-hmac_sha256 key content in
    let long : length nonce ≡ length another = omega (arith, lengths, one, two) in
    record {
      firsts = front.front;
      nonces = sym (take_at nonce _ (length nonce) refl) ∙ ap (take (length nonce)) front.behind ∙ ap (λ (k : ℕ). take k (another ++ hmac_sha256 key content)) long ∙ take_at another _ (length another) refl;
      macs = sym (drop_at nonce _ (length nonce) refl) ∙ ap (drop (length nonce)) front.behind ∙ ap (λ (k : ℕ). drop k (another ++ hmac_sha256 key content)) long ∙ drop_at another _ (length another) refl;
    }
