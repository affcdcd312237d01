-- What is made of a plain text is the one body that section 3.14 of RFC 7296 has, with the least padding,
-- of zeros.
use Rattle.std.proofs.Common.{◌≡◌, ◌↔◌, ℕ, ◌+◌, ◌*◌, ◌%◌, ◌<◌, List, [], ◌∷◌, ◌++◌, length, replicate, sym, ap, ◌∙◌, subst, arith}
use Rattle.std.proofs.lemmas.List.{length-append, length-replicate, append_assoc}
use Rattle.mac.specs.Hmac.{icv_sha256}
use Rattle.suite.specs.declared.keys.Keys.{Keys}
use Rattle.suite.specs.Sealing.{AreSealable}
use Rattle.caller_peer.specs.Chaining.{cbc_encrypted}
use Rattle.caller_peer.specs.Bodies.{blocks_of, encrypted_part, pad_length, padding, sealed_body}
use Rattle.caller_peer.specs.BodyParts.{IsSealedBody}
use Rattle.caller_peer.specs.BodyLaws.{key_of, padded_long, padded_octets, vector_of}
use Rattle.caller_peer.proofs.ChainedLemmas.{chained, only_chain}
use Rattle.caller_peer.proofs.OpenedLemmas.{value_of}

padded_is : (plain : List ℕ) → plain ++ padding (length plain) ≡ plain ++ replicate (pad_length (length plain)) 0 ++ pad_length (length plain) ∷ []
unfolding padding
padded_is plain = sym (append_assoc plain (replicate (pad_length (length plain)) 0) (pad_length (length plain) ∷ []))

abbrev blocks_from : Keys → List ℕ → List ℕ → List ℕ
blocks_from keys plain fresh = cbc_encrypted keys.encryption fresh (blocks_of (length plain)) (plain ++ padding (length plain))

body_is : (keys : Keys) (head plain fresh : List ℕ) → sealed_body keys head plain fresh
    ≡ fresh ++ blocks_from keys plain fresh ++ icv_sha256 keys.integrity (head ++ fresh ++ blocks_from keys plain fresh)
unfolding sealed_body encrypted_part
body_is keys head plain fresh =
    ap (λ (xs : List ℕ). fresh ++ blocks_from keys plain fresh ++ xs) (value_of keys head fresh (blocks_from keys plain fresh))

made_so : (keys : Keys) (head plain fresh : List ℕ) → AreSealable keys head plain fresh → IsSealedBody keys head plain fresh (sealed_body keys head plain fresh)
made_so keys head plain fresh are =
    let text = plain ++ padding (length plain) in
    let long = padded_long plain in
    record {
      blocks = blocks_from keys plain fresh;
      text = text;
      pad = pad_length (length plain);
      is = body_is keys head plain fresh;
      text_is = padded_is plain;
      few = omega arith;
      filled = omega arith;
      chained = chained keys.encryption (key_of keys head plain fresh are) (blocks_of (length plain)) fresh text (vector_of keys head plain fresh are)
          (padded_octets plain are.plain_octets) long;
    }

-- a text that is filled up by few octets
text_long : (plain text : List ℕ) (pad : ℕ) → text ≡ plain ++ replicate pad 0 ++ pad ∷ [] → length text ≡ length plain + pad + 1
text_long plain text pad is =
    let zeros : length (replicate {A = ℕ} pad 0) ≡ pad = length-replicate {A = ℕ} pad 0 in
    ap length is ∙ length-append (plain ++ replicate pad 0) (pad ∷ []) ∙ ap (λ (n : ℕ). n + 1) (length-append plain (replicate pad 0) ∙ ap (λ (n : ℕ). length plain + n) zeros)

only_one : (keys : Keys) (head plain fresh body : List ℕ) → AreSealable keys head plain fresh → IsSealedBody keys head plain fresh body →
    body ≡ sealed_body keys head plain fresh
only_one keys head plain fresh body are is =
    let long = text_long plain is.text is.pad is.text_is in
    let few : is.pad < 16 = is.few in
    let filled : length is.text % 16 ≡ 0 = is.filled in
    let pad_is : is.pad ≡ pad_length (length plain) = omega arith in
    let text_is : is.text ≡ plain ++ padding (length plain) =
    is.text_is ∙ ap (λ (n : ℕ). plain ++ replicate n 0 ++ n ∷ []) pad_is ∙ sym (padded_is plain) in
    let whole : length is.text ≡ 16 * blocks_of (length plain) = ap length text_is ∙ padded_long plain in
    let blocks_are : is.blocks ≡ blocks_from keys plain fresh =
    only_chain keys.encryption (blocks_of (length plain)) fresh is.text is.blocks are.fresh_long whole is.chained
    ∙ ap (cbc_encrypted keys.encryption fresh (blocks_of (length plain))) text_is in
    is.is ∙ ap (λ (xs : List ℕ). fresh ++ xs ++ icv_sha256 keys.integrity (head ++ fresh ++ xs)) blocks_are ∙ sym (body_is keys head plain fresh)

pub sealed_exactly : (keys : Keys) (head plain fresh body : List ℕ) → AreSealable keys head plain fresh →
    (body ≡ sealed_body keys head plain fresh) ↔ IsSealedBody keys head plain fresh body
sealed_exactly keys head plain fresh body are = (
  λ same. subst (λ (xs : List ℕ). IsSealedBody keys head plain fresh xs) (sym same) (made_so keys head plain fresh are),
  only_one keys head plain fresh body are,
)
