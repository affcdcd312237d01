-- The message in clear, taken apart, and put together again round an encrypted payload.
use Rattle.std.proofs.Common.{◌≡◌, ℕ, ◌+◌, ◌<◌, ◌≤◌, List, [], ◌∷◌, ◌++◌, length, take, drop, slice_index, Option, Some, refl, sym, ap, subst, ◌-◌, ◌≢◌, inl, inr, ◌∙◌, append_assoc, arith}
use Rattle.std.specs.Prelude.{◌⊎◌}
use Rattle.std.specs.List.{AllByRecursion, sum_by}
use Rattle.std.proofs.lemmas.List.{length-append, take_at, drop_at, take-append-drop}
use Rattle.std.proofs.Math.Seq.{get_or-append_seam}
use Rattle.byteorder.specs.Endian.{big_bytes}
use Rattle.byteorder.specs.Numbers.{length-bytes_high_first}
use Rattle.wire.specs.Parts.{IsZero}
use Rattle.base.specs.Octets.{IsOctet, AreOctets}
use Rattle.wire.specs.Messages.{Spells, SpellsPlainly}
use Rattle.wire.specs.Payloads.{SpellsPayloads, IsClear}
use Rattle.wire.specs.declared.message.Message.{Message}
use Rattle.wire.specs.declared.message.Header.{Header}
use Rattle.wire.specs.Sizes.{size_of}
use Rattle.wire.specs.declared.payload.Payload.{Payload}
use Rattle.wire.specs.declared.payload.Payload.TheVariants.{Sealed}
use Rattle.suite.specs.declared.keys.Keys.{Keys}
use Rattle.suite.specs.Sealing.{AreKeys, AreSealable}
use Rattle.wire.specs.declared.fault.WireFault.{WireFault}
use Rattle.wire.specs.declared.fault.WireFault.TheVariants.{Short, TooLong, BadLength, BadVersion, BadChain, BadProposal, BadSelector, BadNonce, BadField, Memory}
use Rattle.base.proofs.OctetLemmas.{octets_front, octets_drop}
use Rattle.exchange.specs.Sealed.{head_of, sealed_head, sealed_octets, plain_behind, IsSealed, CanBeSealed, OpensAgain}

length-big : (n x : ℕ) → length (big_bytes n x) ≡ n
length-big n x = length-bytes_high_first n x

-- sixteen octets, one, seven, four, and the rest
pub record Cut (clear a t p : List ℕ) (first : ℕ) : Type 0 where
  pub ids : take 16 clear ≡ a
  pub first_type : slice_index clear 16 ≡ first
  pub middle : take 7 (drop 17 clear) ≡ t
  pub rest : drop 28 clear ≡ p
  pub long : length clear ≡ 28 + length p

cut : (a t l p : List ℕ) (first : ℕ) → length a ≡ 16 → length t ≡ 7 → length l ≡ 4 → Cut ((a ++ first ∷ t) ++ (l ++ p)) a t p first
cut a t l p first sixteen seven four =
    let flat : (a ++ first ∷ t) ++ (l ++ p) ≡ a ++ first ∷ (t ++ (l ++ p)) = append_assoc a (first ∷ t) (l ++ p) in
    let begins : (a ++ first ∷ []) ++ (t ++ (l ++ p)) ≡ a ++ first ∷ (t ++ (l ++ p)) = append_assoc a (first ∷ []) (t ++ (l ++ p)) in
    let front : ((a ++ first ∷ t) ++ l) ++ p ≡ (a ++ first ∷ t) ++ (l ++ p) = append_assoc (a ++ first ∷ t) l p in
    let head : length (a ++ first ∷ t) ≡ 24 = omega (arith, length-append a (first ∷ t)) in
    record {
      ids = ap (take 16) flat ∙ take_at a (first ∷ (t ++ (l ++ p))) 16 sixteen;
      first_type = ap (λ (x : List ℕ). slice_index x 16) flat ∙ ap (λ (n : ℕ). slice_index (a ++ first ∷ (t ++ (l ++ p))) n) (sym sixteen) ∙ get_or-append_seam a first (t ++ (l ++ p)) 0;
      middle = ap (λ (x : List ℕ). take 7 (drop 17 x)) (flat ∙ sym begins) ∙ ap (take 7) (drop_at (a ++ first ∷ []) (t ++ (l ++ p)) 17 (omega (arith, length-append a (first ∷ [])))) ∙ take_at t (l ++ p) 7 seven;
      rest = ap (drop 28) (sym front) ∙ drop_at ((a ++ first ∷ t) ++ l) p 28 (omega (arith, length-append (a ++ first ∷ t) l));
      long = omega (arith, length-append (a ++ first ∷ t) (l ++ p), length-append l p);
    }

abbrev pub ids_of : Header → List ℕ
ids_of h = big_bytes 8 h.spi_i ++ big_bytes 8 h.spi_r

abbrev pub middle_of : Header → ℕ → List ℕ
middle_of h flags = (32 + h.minor) ∷ h.exchange ∷ flags ∷ big_bytes 4 h.id

length-ids : (h : Header) → length (ids_of h) ≡ 16
length-ids h = omega (arith, length-append (big_bytes 8 h.spi_i) (big_bytes 8 h.spi_r), length-big 8 h.spi_i, length-big 8 h.spi_r)

length-middle : (h : Header) (flags : ℕ) → length (middle_of h flags) ≡ 7
length-middle h flags = omega (arith, length-big 4 h.id)

pub clear_is : (m : Message) (clear : List ℕ) → (s : SpellsPlainly m clear) → clear ≡ (ids_of m.header ++ s.first ∷ middle_of m.header s.head.flags) ++ (big_bytes 4 (length clear) ++ s.payloads)
clear_is m clear s =
    s.whole ∙ ap (λ (x : List ℕ). x ++ big_bytes 4 (length clear) ++ s.payloads) (s.head.spelled ∙ sym (append_assoc (big_bytes 8 m.header.spi_i) (big_bytes 8 m.header.spi_r) (s.first ∷ middle_of m.header s.head.flags)))

pub clear_cut : (m : Message) (clear : List ℕ) → (s : SpellsPlainly m clear) → Cut clear (ids_of m.header) (middle_of m.header s.head.flags) s.payloads s.first
clear_cut m clear s =
    subst (λ (x : List ℕ). Cut x (ids_of m.header) (middle_of m.header s.head.flags) s.payloads s.first) (sym (clear_is m clear s))
    (cut (ids_of m.header) (middle_of m.header s.head.flags) (big_bytes 4 (length clear)) s.payloads s.first (length-ids m.header) (length-middle m.header s.head.flags) (length-big 4 (length clear)))

pub regroup : (a t l x body : List ℕ) (k : ℕ) → (a ++ k ∷ (t ++ (l ++ x))) ++ body ≡ (a ++ k ∷ t) ++ (l ++ (x ++ body))
regroup a t l x body k =
    append_assoc a (k ∷ (t ++ (l ++ x))) body
    ∙ ap (λ (y : List ℕ). a ++ k ∷ y) (append_assoc t (l ++ x) body ∙ ap (λ (y : List ℕ). t ++ y) (append_assoc l x body))
    ∙ sym (append_assoc a (k ∷ t) (l ++ (x ++ body)))

-- the head before a body of n octets, in the words of the message
abbrev pub head_with : Header → ℕ → ℕ → ℕ → List ℕ
head_with h flags first n = ids_of h ++ 46 ∷ (middle_of h flags ++ (big_bytes 4 (32 + n) ++ (first ∷ 0 ∷ big_bytes 2 (4 + n))))

head_is : (m : Message) (clear : List ℕ) (n : ℕ) → (s : SpellsPlainly m clear) → sealed_head clear n ≡ head_with m.header s.head.flags s.first n
head_is m clear n s =
    let c = clear_cut m clear s in
    ap (λ (x : List ℕ). x ++ 46 ∷ take 7 (drop 17 clear) ++ big_bytes 4 (32 + n) ++ slice_index clear 16 ∷ 0 ∷ big_bytes 2 (4 + n)) c.ids
    ∙ ap (λ (x : List ℕ). ids_of m.header ++ 46 ∷ x ++ big_bytes 4 (32 + n) ++ slice_index clear 16 ∷ 0 ∷ big_bytes 2 (4 + n)) c.middle
    ∙ ap (λ (k : ℕ). ids_of m.header ++ 46 ∷ middle_of m.header s.head.flags ++ big_bytes 4 (32 + n) ++ k ∷ 0 ∷ big_bytes 2 (4 + n)) c.first_type

pub length-head : (h : Header) (flags first n : ℕ) → length (head_with h flags first n) ≡ 32
length-head h flags first n =
    omega (arith, length-append (ids_of h) (46 ∷ (middle_of h flags ++ (big_bytes 4 (32 + n) ++ (first ∷ 0 ∷ big_bytes 2 (4 + n))))), length-ids h, length-append (middle_of h flags) (big_bytes 4 (32 + n) ++ (first ∷ 0 ∷ big_bytes 2 (4 + n))), length-middle h flags, length-append (big_bytes 4 (32 + n)) (first ∷ 0 ∷ big_bytes 2 (4 + n)), length-big 4 (32 + n), length-big 2 (4 + n))

append_nil : (xs : List ℕ) → xs ≡ xs ++ []
append_nil [] = refl
append_nil (x ∷ xs) = ap (λ (ys : List ℕ). x ∷ ys) (append_nil xs)

-- the message of one encrypted payload
abbrev holding : Message → ℕ → List ℕ → Message
holding m first body = record { header = m.header; payloads = Sealed first body ∷ [] }

enclosed_with : (m : Message) (clear body : List ℕ) → (s : SpellsPlainly m clear) → 32 + length body ≤ 3000 → AreOctets (head_with m.header s.head.flags s.first (length body) ++ body) → SpellsPlainly (holding m s.first body) (head_with m.header s.head.flags s.first (length body) ++ body)
enclosed_with m clear body s few octets =
    let n = length body in
    let h = m.header in
    let flags = s.head.flags in
    let behind = s.first ∷ 0 ∷ big_bytes 2 (4 + n) in
    let long : length (head_with h flags s.first n ++ body) ≡ 32 + n = omega (arith, length-append (head_with h flags s.first n) body, length-head h flags s.first n) in
    record {
      first = 46;
      header = ids_of h ++ 46 ∷ middle_of h flags;
      payloads = behind ++ body;
      whole = regroup (ids_of h) (middle_of h flags) (big_bytes 4 (32 + n)) behind body 46 ∙ ap (λ (k : ℕ). (ids_of h ++ 46 ∷ middle_of h flags) ++ (big_bytes 4 k ++ (behind ++ body))) (sym long);
      head = record { flags = flags; has_flags = s.head.has_flags; spelled = append_assoc (big_bytes 8 h.spi_i) (big_bytes 8 h.spi_r) (46 ∷ middle_of h flags); spi_i = s.head.spi_i; spi_r = s.head.spi_r; minor = s.head.minor; id = s.head.id };
      chain = (refl, s.first, record { front = behind ++ body; rest = []; joined = append_nil (behind ++ body); first = record { second = 0; body = body; part = record { spelled = refl; fits = omega arith }; header = (refl, refl); inside = refl }; others = (refl, refl) });
      limit = omega (arith, long);
      octets = octets;
    }

enclosed : (m : Message) (clear body : List ℕ) → SpellsPlainly m clear → 32 + length body ≤ 3000 → AreOctets (sealed_head clear (length body) ++ body) → SpellsPlainly (holding m (slice_index clear 16) body) (sealed_head clear (length body) ++ body)
enclosed m clear body s few octets =
    let is = head_is m clear (length body) s in
    let first_is = (clear_cut m clear s).first_type in
    subst (λ (k : ℕ). SpellsPlainly (holding m k body) (sealed_head clear (length body) ++ body)) (sym first_is)
    (subst (λ (x : List ℕ). SpellsPlainly (holding m s.first body) (x ++ body)) (sym is) (enclosed_with m clear body s few (subst (λ (x : List ℕ). AreOctets (x ++ body)) is octets)))

-- what the calls make is the message wrapped
pub is_wrapped : (body_of : Keys → List ℕ → List ℕ → List ℕ → List ℕ) (sealed_size : ℕ → ℕ) (keys : Keys) (fresh clear : List ℕ) (size : ℕ) (head plain body whole : List ℕ) → size ≡ sealed_size (length clear - 28) → head ≡ sealed_head clear size → plain ≡ drop 28 clear → body ≡ body_of keys head plain fresh → whole ≡ head ++ body → whole ≡ sealed_octets body_of sealed_size keys fresh clear
is_wrapped body_of sealed_size keys fresh clear size head plain body whole sized head_made plain_made body_made made =
    let head_told : head ≡ sealed_head clear (sealed_size (length clear - 28)) = head_made ∙ ap (sealed_head clear) sized in
    made ∙ ap (λ (x : List ℕ). head ++ x) (body_made ∙ ap (λ (x : List ℕ). body_of keys head x fresh) plain_made) ∙ ap (λ (x : List ℕ). x ++ body_of keys x (drop 28 clear) fresh) head_told

-- the cipher's body has the length that was told
pub is_sealed : (body_of : Keys → List ℕ → List ℕ → List ℕ → List ℕ) (sealed_size : ℕ → ℕ) → ((keys : Keys) (head plain fresh : List ℕ) → AreSealable keys head plain fresh → length (body_of keys head plain fresh) ≡ sealed_size (length plain)) → (keys : Keys) (fresh : List ℕ) (m : Message) (clear whole : List ℕ) → SpellsPlainly m clear → AreKeys keys → AreOctets fresh → length fresh ≡ 16 → 32 + sealed_size (length clear - 28) ≤ 3000 → whole ≡ sealed_octets body_of sealed_size keys fresh clear → AreOctets whole → IsSealed body_of keys fresh m whole
is_sealed body_of sealed_size told keys fresh m clear whole s keyed fresh_octets sixteen few made octets =
    let size = sealed_size (length clear - 28) in
    let c = clear_cut m clear s in
    let head = sealed_head clear size in
    let plain = drop 28 clear in
    let body = body_of keys head plain fresh in
    let plain_octets = octets_drop 28 clear s.octets in
    let both : AreOctets (head ++ body) = subst AreOctets made octets in
    let sealable : AreSealable keys head plain fresh = record { keyed = keyed; head_octets = octets_front head body both; plain_octets = plain_octets; fresh_octets = fresh_octets; fresh_long = sixteen } in
    let plain_long : length plain ≡ length clear - 28 = omega (arith, ap length c.rest, c.long) in
    let long : length body ≡ size = told keys head plain fresh sealable ∙ ap sealed_size plain_long in
    let head_long : length head ≡ 32 = ap length (head_is m clear size s) ∙ length-head m.header s.head.flags s.first size in
    let front : take 32 whole ≡ head = ap (take 32) made ∙ take_at head body 32 head_long in
    let spelled : SpellsPlainly (holding m (slice_index clear 16) body) (head ++ body) =
    subst (λ (k : ℕ). SpellsPlainly (holding m (slice_index clear 16) body) (sealed_head clear k ++ body)) long
    (enclosed m clear body s (omega (arith, long)) (subst (λ (k : ℕ). AreOctets (sealed_head clear k ++ body)) (sym long) both)) in
    record {
      first = slice_index clear 16;
      plain = plain;
      spelled = subst (λ (k : ℕ). SpellsPayloads IsZero k m.payloads plain) (sym c.first_type) (subst (λ (x : List ℕ). SpellsPayloads IsZero s.first m.payloads x) (sym c.rest) s.chain);
      octets = plain_octets;
      whole =
          subst (λ (x : List ℕ). SpellsPlainly (holding m (slice_index clear 16) (body_of keys x plain fresh)) whole) (sym front)
          (subst (λ (x : List ℕ). SpellsPlainly (holding m (slice_index clear 16) body) x) (sym made) spelled);
    }

-- two spellings of one message are equally long what the laws of the format say of messages: what is
-- spelled with zeros is spelled, and lengths follow from sizes
abbrev pub WeakensMessages : Type 0
WeakensMessages = (m : Message) (b : List ℕ) → SpellsPlainly m b → Spells m b

abbrev pub WeakensPayloads : Type 0
WeakensPayloads = (first : ℕ) (ps : List Payload) (x : List ℕ) → SpellsPayloads IsZero first ps x → SpellsPayloads IsOctet first ps x

abbrev pub HaveTheirSize : Type 0
HaveTheirSize = (m : Message) (b : List ℕ) → Spells m b → length b ≡ 28 + sum_by size_of m.payloads

memory_or : (f : WireFault) → (f ≡ Memory) ⊎ (f ≢ Memory)
memory_or Memory = inl refl
memory_or Short = inr (λ e. cc)
memory_or BadLength = inr (λ e. cc)
memory_or BadVersion = inr (λ e. cc)
memory_or (BadChain at) = inr (λ e. cc)
memory_or (BadProposal at) = inr (λ e. cc)
memory_or (BadSelector at) = inr (λ e. cc)
memory_or (BadNonce at) = inr (λ e. cc)
memory_or (BadField at) = inr (λ e. cc)
memory_or TooLong = inr (λ e. cc)

-- what can be sent is refused for memory alone
pub sendable_encodes : WeakensMessages → (m : Message) (f : WireFault) → CanBeSealed m → (f ≢ Memory → (b : List ℕ) → Spells m b → ⊥) → f ≡ Memory
sendable_encodes weaken m f sendable unspelled = elim (memory_or f) [
  | inl is ↦ is
  | inr other ↦ absurd (unspelled other sendable.clear (weaken m sendable.clear sendable.spelled))
]

pub sendable_fits : WeakensMessages → HaveTheirSize → (m : Message) (f : WireFault) (clear : List ℕ) (size : ℕ) → SpellsPlainly m clear → CanBeSealed m → size ≤ length clear - 28 + 128 → (f ≢ Memory → (f ≡ TooLong) × (3000 < 32 + size)) → f ≡ Memory
sendable_fits weaken sized m f clear size s sendable bounded long = elim (memory_or f) [
  | inl is ↦ is
  | inr other ↦ absurd (omega (arith, (long other).1, sized m clear (weaken m clear s), sized m sendable.clear (weaken m sendable.clear sendable.spelled), sendable.few))
]

pub at_least_a_header : (m : Message) (clear : List ℕ) → SpellsPlainly m clear → 28 ≤ length clear
at_least_a_header m clear s = omega (arith, (clear_cut m clear s).long)

-- what was sealed opens
pub opens_again : WeakensMessages → WeakensPayloads → (body_of : Keys → List ℕ → List ℕ → List ℕ → List ℕ) (plain_of : Keys → List ℕ → List ℕ → Option (List ℕ)) → ((keys : Keys) (head plain fresh : List ℕ) → AreSealable keys head plain fresh → plain_of keys head (body_of keys head plain fresh) ≡ Some plain) → (keys : Keys) (fresh : List ℕ) (m : Message) (b : List ℕ) → AreKeys keys → AreOctets fresh → length fresh ≡ 16 → AllByRecursion IsClear m.payloads → IsSealed body_of keys fresh m b → OpensAgain plain_of keys m b
opens_again weaken weaken_payloads body_of plain_of again keys fresh m b keyed fresh_octets sixteen clear s =
    let head_octets : AreOctets (take 32 b) = octets_front (take 32 b) (drop 32 b) (subst AreOctets (sym (take-append-drop 32 b)) s.whole.octets) in
    record {
      sealed = Sealed s.first (body_of keys (head_of b) s.plain fresh);
      plain = record { first = s.first; octets = s.plain };
      spelled = weaken (holding m s.first (body_of keys (head_of b) s.plain fresh)) b s.whole;
      opens = ap (plain_behind s.first) (again keys (head_of b) s.plain fresh (record { keyed = keyed; head_octets = head_octets; plain_octets = s.octets; fresh_octets = fresh_octets; fresh_long = sixteen }));
      payloads = record { clear = clear; payloads = weaken_payloads s.first m.payloads s.plain s.spelled; octets = s.octets };
    }
