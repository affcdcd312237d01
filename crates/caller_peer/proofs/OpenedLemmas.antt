-- A body opens to a plain text exactly if it is made of it.
use Rattle.std.proofs.Common.{◌≡◌, ℕ, ◌+◌, ◌-◌, ◌*◌, ◌/◌, ◌%◌, ◌<◌, ◌↔◌, Bool, true, false, ◌&&◌, if◌then◌else◌, nat_eq, nat_le, nat_lt, Option, Some, None, List, [], ◌∷◌, ◌++◌, length, get_or, take, drop, refl, sym, ap, ◌∙◌, subst, arith}
use Rattle.std.specs.Cmp.Lexicographic.{pointwise, same_text}
use Rattle.std.proofs.lemmas.Bool.{and_parts, lt-ltb, ltb-true}
use Rattle.std.proofs.lemmas.List.{length-append, length-take-le, length-drop, append_assoc, take-append-drop, take-take, take_at, drop_all, drop_more, get_or_at}
use Rattle.base.specs.Octets.{AreOctets}
use Rattle.mac.specs.Hmac.{icv_sha256}
use Rattle.aes.specs.Laws.{IsKey, IsBlock}
use Rattle.suite.specs.declared.keys.Keys.{Keys}
use Rattle.suite.specs.Sealing.{AreKeys}
use Rattle.caller_peer.specs.Chaining.{AreChained, cbc_encrypted, cbc_decrypted}
use Rattle.caller_peer.specs.Bodies.{check_value, unpadded, is_intact, decrypted_part, opened_body}
use Rattle.caller_peer.specs.BodyParts.{IsPadded, IsBodyOf}
use Rattle.caller_peer.specs.BodyLaws.{take_octets, drop_octets, cbc_back, length-check_value, opens_parts}
use Rattle.caller_peer.proofs.BodyLemmas.{intact_long, intact_whole}
use Rattle.caller_peer.proofs.ChainedLemmas.{only_chain, chained, decrypted_octets, decrypted_long, cbc_again}

-- ---- an answer that is chosen
same_plain : (xs ys : List ℕ) → Some xs ≡ Some ys → xs ≡ ys
same_plain xs ys is = cc

chosen : (t : Bool) (answer : Option (List ℕ)) (plain : List ℕ) → (if t then answer else None) ≡ Some plain → (t ≡ true) × (answer ≡ Some plain)
chosen true answer plain is = (refl, is)
chosen false answer plain is = cc

-- ---- padding
-- the pad length stands last
pub unpadded_of : (plain text : List ℕ) → IsPadded plain text → unpadded text ≡ Some plain
unfolding unpadded
unpadded_of plain text is =
    let pad = length is.padding in
    let split : text ≡ (plain ++ is.padding) ++ (pad ∷ []) = is.is in
    let front : length (plain ++ is.padding) ≡ length plain + pad = length-append plain is.padding in
    let long : length text ≡ length plain + pad + 1 =
    ap length split ∙ length-append (plain ++ is.padding) (pad ∷ []) ∙ ap (λ (n : ℕ). n + 1) front in
    let place : length (plain ++ is.padding) ≡ length text - 1 = omega arith in
    let last : get_or text (length text - 1) 0 ≡ pad =
    ap (λ (xs : List ℕ). get_or xs (length text - 1) 0) split ∙ get_or_at (plain ++ is.padding) pad [] 0 (length text - 1) place in
    let enough : nat_lt (get_or text (length text - 1) 0) (length text) ≡ true = lt-ltb (get_or text (length text - 1) 0) (length text) (omega arith) in
    let count : length text - 1 - get_or text (length text - 1) 0 ≡ length plain = omega arith in
    taken (nat_lt (get_or text (length text - 1) 0) (length text)) _ plain enough
    ((λ i. take (count i) ((split ∙ append_assoc plain is.padding (pad ∷ [])) i)) ∙ take_at plain (is.padding ++ (pad ∷ [])) (length plain) refl)
  where
    taken : (t : Bool) (xs ys : List ℕ) → t ≡ true → xs ≡ ys → (if t then Some xs else None) ≡ Some ys
    taken t xs ys holds same = rw holds (ap (λ (zs : List ℕ). Some zs) same)

pub padded_by : (plain text : List ℕ) → AreOctets text → length text % 16 ≡ 0 → unpadded text ≡ Some plain → IsPadded plain text
unfolding unpadded
padded_by plain text octets filled is =
    let pad = get_or text (length text - 1) 0 in
    let parts = chosen (nat_lt pad (length text)) (Some (take (length text - 1 - pad) text)) plain is in
    let few : pad < length text = ltb-true pad (length text) parts.0 in
    let plain_is : take (length text - 1 - pad) text ≡ plain = same_plain _ _ parts.1 in
    let front = take (length text - 1) text in
    let padding = drop (length text - 1 - pad) front in
    let front_long : length front ≡ length text - 1 = length-take-le (length text - 1) text (omega arith) in
    let padding_long : length padding ≡ pad = length-drop (length text - 1 - pad) front ∙ omega arith in
    let next : length text - 1 + 1 ≡ length text = omega arith in
    let last : drop (length text - 1) text ≡ pad ∷ [] =
    drop_more text (length text - 1) 0 (omega arith)
    ∙ ap (λ (xs : List ℕ). pad ∷ xs) (drop_all (length text - 1 + 1) text (omega arith)) in
    let before : take (length text - 1 - pad) front ≡ plain =
    take-take (length text - 1 - pad) (length text - 1) text (omega arith) ∙ plain_is in
    let front_is : front ≡ plain ++ padding =
    sym (take-append-drop (length text - 1 - pad) front) ∙ ap (λ (xs : List ℕ). xs ++ padding) before in
    record {
      padding = padding;
      is = sym (take-append-drop (length text - 1) text)
          ∙ (λ i. front_is i ++ last i)
          ∙ ap (λ (n : ℕ). plain ++ padding ++ n ∷ []) (sym padding_long);
      octets = octets;
      filled = filled;
    }

-- ---- bodies
key_of : (keys : Keys) → AreKeys keys → IsKey keys.encryption
key_of keys are = record { whole = are.encryption_long; octets = are.encryption_octets }

intact_value : (keys : Keys) (head body : List ℕ) → is_intact keys head body ≡ true →
    drop (length body - 16) body ≡ check_value keys head (take (length body - 16) body)
unfolding is_intact
intact_value keys head body is =
    same_text _ _ (sym (and_parts (nat_le 48 (length body) && nat_eq (length body % 16) 0) (pointwise nat_eq (drop (length body - 16) body) (check_value keys head (take (length body - 16) body))) is).1)

pub value_of : (keys : Keys) (head vector blocks : List ℕ) → check_value keys head (vector ++ blocks) ≡ icv_sha256 keys.integrity (head ++ vector ++ blocks)
unfolding check_value
value_of keys head vector blocks = ap (icv_sha256 keys.integrity) (sym (append_assoc head vector blocks))

opened_parts : (keys : Keys) (head plain body : List ℕ) → opened_body keys head body ≡ Some plain →
    (is_intact keys head body ≡ true) × (unpadded (decrypted_part keys body) ≡ Some plain)
unfolding opened_body
opened_parts keys head plain body is = chosen (is_intact keys head body) (unpadded (decrypted_part keys body)) plain is

made_of : (keys : Keys) (head plain body : List ℕ) → AreKeys keys → AreOctets body → opened_body keys head body ≡ Some plain → IsBodyOf keys head plain body
unfolding decrypted_part
made_of keys head plain body are octets is =
    let parts = opened_parts keys head plain body is in
    let long = intact_long keys head body parts.0 in
    let whole = intact_whole keys head body parts.0 in
    let sealed = take (length body - 16) body in
    let vector = take 16 body in
    let blocks = drop 16 sealed in
    let n = length blocks / 16 in
    let sealed_long : length sealed ≡ length body - 16 = length-take-le (length body - 16) body (omega arith) in
    let vector_long : length vector ≡ 16 = length-take-le 16 body (omega arith) in
    let blocks_long : length blocks ≡ 16 * n = omega (arith, length-drop 16 sealed) in
    let is_vector : IsBlock vector = record { whole = vector_long; octets = take_octets 16 body octets } in
    let blocks_octets = drop_octets 16 sealed (take_octets (length body - 16) body octets) in
    let text = cbc_decrypted keys.encryption vector n blocks in
    let text_octets = decrypted_octets keys.encryption (key_of keys are) n vector blocks is_vector blocks_octets blocks_long in
    let text_long : length text ≡ 16 * n = decrypted_long keys.encryption (key_of keys are) n vector blocks is_vector blocks_octets blocks_long in
    let again = cbc_again keys.encryption (key_of keys are) n vector blocks is_vector blocks_octets blocks_long in
    let sealed_is : sealed ≡ vector ++ blocks =
    sym (take-append-drop 16 sealed) ∙ ap (λ (xs : List ℕ). xs ++ blocks) (take-take 16 (length body - 16) body (omega arith)) in
    record {
      vector = vector;
      text = text;
      blocks = blocks;
      is = sym (take-append-drop (length body - 16) body)
          ∙ ap (λ (xs : List ℕ). sealed ++ xs) (intact_value keys head body parts.0)
          ∙ ap (λ (xs : List ℕ). xs ++ check_value keys head xs) sealed_is
          ∙ ap (λ (xs : List ℕ). vector ++ blocks ++ xs) (value_of keys head vector blocks);
      vector_long = vector_long;
      padded = padded_by plain text text_octets (omega arith) parts.1;
      chained = subst (λ (xs : List ℕ). AreChained keys.encryption vector text xs) again
          (chained keys.encryption (key_of keys are) n vector text is_vector text_octets text_long);
    }

front_octets : (xs ys : List ℕ) → AreOctets (xs ++ ys) → AreOctets xs
front_octets [] ys octets = tt
front_octets (x ∷ xs) ys octets = (octets.0, front_octets xs ys octets.1)

opens_to : (keys : Keys) (head plain body : List ℕ) → AreKeys keys → AreOctets body → IsBodyOf keys head plain body → opened_body keys head body ≡ Some plain
opens_to keys head plain body are octets is =
    let padded = is.padded in
    let n = length is.text / 16 in
    let some : length is.text ≡ length (plain ++ padded.padding) + 1 =
    ap length padded.is ∙ length-append (plain ++ padded.padding) (length padded.padding ∷ []) in
    let filled : length is.text % 16 ≡ 0 = padded.filled in
    let text_long : length is.text ≡ 16 * n = omega arith in
    let number : n ≡ (n - 1) + 1 = omega arith in
    let blocks_long : length is.blocks ≡ 16 * ((n - 1) + 1) = is.chained.as_long ∙ omega arith in
    let value = icv_sha256 keys.integrity (head ++ is.vector ++ is.blocks) in
    let is_vector : IsBlock is.vector =
    record { whole = is.vector_long; octets = front_octets is.vector is.blocks (front_octets (is.vector ++ is.blocks) value (subst AreOctets is.is octets)) } in
    let made : is.blocks ≡ cbc_encrypted keys.encryption is.vector n is.text =
    only_chain keys.encryption n is.vector is.text is.blocks is.vector_long text_long is.chained in
    let back : cbc_decrypted keys.encryption is.vector ((n - 1) + 1) is.blocks ≡ is.text =
    (λ i. cbc_decrypted keys.encryption is.vector (sym number i) (made i))
    ∙ cbc_back keys.encryption (key_of keys are) n is.vector is.text is_vector padded.octets text_long in
    let value_is : value ≡ check_value keys head (is.vector ++ is.blocks) = sym (value_of keys head is.vector is.blocks) in
    let value_long : length value ≡ 16 = ap length value_is ∙ length-check_value keys head (is.vector ++ is.blocks) in
    ap (opened_body keys head) is.is
    ∙ opens_parts keys head is.vector is.blocks value plain (n - 1) is.vector_long blocks_long value_long value_is
    (ap unpadded back ∙ unpadded_of plain is.text padded)

pub opens_exactly : (keys : Keys) (head plain body : List ℕ) → AreKeys keys → AreOctets body → (opened_body keys head body ≡ Some plain) ↔ IsBodyOf keys head plain body
opens_exactly keys head plain body are octets = (made_of keys head plain body are octets, opens_to keys head plain body are octets)
