-- A message is sealed in one way: the head of its octets follows from the length of the body, and the body
-- from that head.
use Rattle.std.proofs.Common.{◌≡◌, ℕ, ◌+◌, ◌*◌, List, [], ◌∷◌, ◌++◌, length, take, drop, sym, ap, subst, ◌∙◌, arith}
use Rattle.std.proofs.lemmas.List.{length-append, append-nil, take_at, take-append-drop}
use Rattle.byteorder.specs.Endian.{big_bytes}
use Rattle.base.specs.Octets.{AreOctets}
use Rattle.base.proofs.OctetLemmas.{octets_front}
use Rattle.wire.specs.Messages.{bit, SpellsPlainly}
use Rattle.wire.specs.Parts.{IsZero}
use Rattle.wire.specs.Payloads.{SpellsPayloads}
use Rattle.wire.specs.declared.message.Flags.{Flags}
use Rattle.wire.specs.declared.message.Header.{Header}
use Rattle.wire.specs.declared.message.Message.{Message}
use Rattle.wire.specs.declared.payload.Payload.{Payload}
use Rattle.wire.specs.declared.payload.Payload.TheVariants.{Sealed}
use Rattle.suite.specs.Sealing.{AreKeys, AreSealable}
use Rattle.suite.specs.declared.keys.Keys.{Keys}
use Rattle.exchange.specs.Sealed.{head_of, IsSealed, TellsLength}
use Rattle.exchange.proofs.SealedLemmas.{head_with, ids_of, middle_of, length-head, clear_is, regroup}

-- what the law of the format says of chains that are spelled with zeros
abbrev pub OneChain : Type 0
OneChain = (first other : ℕ) (ps : List Payload) (a b : List ℕ) → SpellsPayloads IsZero first ps a → SpellsPayloads IsZero other ps b → (first ≡ other) × (a ≡ b)

-- the message of one encrypted payload
abbrev around : Header → ℕ → List ℕ → Message
around h first body = record { header = h; payloads = Sealed first body ∷ [] }

payload_is : (first t : ℕ) (body x : List ℕ) → SpellsPayloads IsZero t (Sealed first body ∷ []) x → x ≡ (first ∷ 0 ∷ big_bytes 2 (4 + length body)) ++ body
payload_is first t body x s =
    let j = s.2 in
    let p = j.first in
    let front : j.front ≡ (first ∷ 0 ∷ big_bytes 2 (4 + length body)) ++ body =
    p.part.spelled
    ∙ ap (λ (o : ℕ). o ∷ p.second ∷ big_bytes 2 (4 + length p.body) ++ p.body) p.header.0
    ∙ ap (λ (o : ℕ). first ∷ o ∷ big_bytes 2 (4 + length p.body) ++ p.body) p.header.1
    ∙ ap (λ (within : List ℕ). first ∷ 0 ∷ big_bytes 2 (4 + length within) ++ within) p.inside in
    j.joined ∙ ap (λ (rest : List ℕ). j.front ++ rest) j.others.1 ∙ append-nil j.front ∙ front

-- the flags as they are spelled with zeros
abbrev flags_octet : Flags → ℕ
flags_octet f = 8 * bit f.initiator + 16 * bit f.version + 32 * bit f.response

flags_are : (h : Header) (first : ℕ) (body b : List ℕ) (s : SpellsPlainly (around h first body) b) → s.head.flags ≡ flags_octet h.flags
flags_are h first body b s = omega (arith, s.head.has_flags.value, s.head.has_flags.free.0, s.head.has_flags.free.1)

-- the octets: a head that has the body's length, and the body
whole_is : (h : Header) (first : ℕ) (body b : List ℕ) → SpellsPlainly (around h first body) b → b ≡ head_with h (flags_octet h.flags) first (length body) ++ body
whole_is h first body b s =
    let n = length body in
    let behind : List ℕ = first ∷ 0 ∷ big_bytes 2 (4 + n) in
    let payloads : s.payloads ≡ behind ++ body = payload_is first s.first body s.payloads s.chain in
    let head : length s.header ≡ 24 = ap length s.head.spelled in
    let long : length b ≡ 32 + n = omega (arith, ap length s.whole, length-append (s.header ++ big_bytes 4 (length b)) s.payloads, length-append s.header (big_bytes 4 (length b)), ap length payloads) in
    clear_is (around h first body) b s
    ∙ ap (λ (t : ℕ). (ids_of h ++ t ∷ middle_of h s.head.flags) ++ (big_bytes 4 (length b) ++ s.payloads)) s.chain.0
    ∙ ap (λ (f : ℕ). (ids_of h ++ 46 ∷ middle_of h f) ++ (big_bytes 4 (length b) ++ s.payloads)) (flags_are h first body b s)
    ∙ ap (λ (k : ℕ). (ids_of h ++ 46 ∷ middle_of h (flags_octet h.flags)) ++ (big_bytes 4 k ++ s.payloads)) long
    ∙ ap (λ (x : List ℕ). (ids_of h ++ 46 ∷ middle_of h (flags_octet h.flags)) ++ (big_bytes 4 (32 + n) ++ x)) payloads
    ∙ sym (regroup (ids_of h) (middle_of h (flags_octet h.flags)) (big_bytes 4 (32 + n)) behind body 46)

head_is : (h : Header) (first : ℕ) (body b : List ℕ) → SpellsPlainly (around h first body) b → head_of b ≡ head_with h (flags_octet h.flags) first (length body)
head_is h first body b s =
    ap (take 32) (whole_is h first body b s)
    ∙ take_at (head_with h (flags_octet h.flags) first (length body)) body 32 (length-head h (flags_octet h.flags) first (length body))

head_octets : (b : List ℕ) → AreOctets b → AreOctets (head_of b)
head_octets b fits = octets_front (take 32 b) (drop 32 b) (subst AreOctets (sym (take-append-drop 32 b)) fits)

pub one_sealed : OneChain → (body_of : Keys → List ℕ → List ℕ → List ℕ → List ℕ) (keys : Keys) (fresh : List ℕ) (m : Message) (a b : List ℕ) → TellsLength body_of keys fresh → IsSealed body_of keys fresh m a → IsSealed body_of keys fresh m b → a ≡ b
one_sealed one body_of keys fresh m a b tells s t =
    let h = m.header in
    let f = flags_octet h.flags in
    let chain = one s.first t.first m.payloads s.plain t.plain s.spelled t.spelled in
    let body : List ℕ = body_of keys (head_of a) s.plain fresh in
    let content : List ℕ = body_of keys (head_of b) t.plain fresh in
    let long : length body ≡ length content =
    tells.told (head_of a) (head_of b) s.plain (head_octets a s.whole.octets) (head_octets b t.whole.octets) s.octets
    ∙ ap (λ (plain : List ℕ). length (body_of keys (head_of b) plain fresh)) chain.1 in
    let heads : head_with h f s.first (length body) ≡ head_with h f t.first (length content) =
    ap (λ (k : ℕ). head_with h f k (length body)) chain.0 ∙ ap (λ (n : ℕ). head_with h f t.first n) long in
    let head : head_of a ≡ head_of b = head_is h s.first body a s.whole ∙ heads ∙ sym (head_is h t.first content b t.whole) in
    let bodies : body ≡ content =
    ap (λ (x : List ℕ). body_of keys x s.plain fresh) head ∙ ap (λ (plain : List ℕ). body_of keys (head_of b) plain fresh) chain.1 in
    whole_is h s.first body a s.whole
    ∙ ap (λ (x : List ℕ). x ++ body) heads
    ∙ ap (λ (x : List ℕ). head_with h f t.first (length content) ++ x) bodies
    ∙ sym (whole_is h t.first content b t.whole)

pub tells_length : (body_of : Keys → List ℕ → List ℕ → List ℕ → List ℕ) (sealed_size : ℕ → ℕ)
    → ((keys : Keys) (head plain fresh : List ℕ) → AreSealable keys head plain fresh → length (body_of keys head plain fresh) ≡ sealed_size (length plain))
    → (keys : Keys) (fresh : List ℕ) → AreKeys keys → AreOctets fresh → length fresh ≡ 16 → TellsLength body_of keys fresh
tells_length body_of sealed_size told keys fresh keyed fits long = record { told = same } where
  sealable : (head plain : List ℕ) → AreOctets head → AreOctets plain → AreSealable keys head plain fresh
  sealable head plain octets plain_octets = record { keyed = keyed; head_octets = octets; plain_octets = plain_octets; fresh_octets = fits; fresh_long = long }

  same : (head other plain : List ℕ) → AreOctets head → AreOctets other → AreOctets plain → length (body_of keys head plain fresh) ≡ length (body_of keys other plain fresh)
  same head other plain octets others plain_octets =
      told keys head plain fresh (sealable head plain octets plain_octets) ∙ sym (told keys other plain fresh (sealable other plain others plain_octets))
