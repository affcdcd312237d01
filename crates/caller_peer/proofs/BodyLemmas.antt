-- What is appended, sealed and opened behind what stood there.
use Rattle.std.proofs.Common.{◌≡◌, ℕ, ◌+◌, ◌-◌, ◌/◌, ◌%◌, ◌≤◌, Bool, true, false, ◌&&◌, if◌then◌else◌, nat_eq, nat_le, Option, Some, None, List, [], ◌++◌, length, take, drop, refl, sym, ap, ◌∙◌, subst, arith}
use Rattle.std.specs.Cmp.Lexicographic.{pointwise}
use Rattle.std.proofs.lemmas.Bool.{and_parts, leb-true, eqb-true}
use Rattle.std.proofs.lemmas.List.{length-append, take_at, drop_at, take_all, drop_all, take_rest, append_assoc, append-nil, length-drop, drop-take}
use Rattle.std.proofs.Math.Seq.{take-append-add}
use borrow.Rule.Slice.PartMut.{put_mid}
use Rattle.suite.specs.declared.keys.Keys.{Keys}
use Rattle.suite.specs.Sealing.{Opens}
use Rattle.caller_peer.specs.Chaining.{cbc_encrypted, cbc_decrypted}
use Rattle.caller_peer.specs.Bodies.{blocks_of, padding, encrypted_part, check_value, sealed_body, unpadded, is_intact, decrypted_part, opened_body}
use Rattle.caller_peer.specs.BodyLaws.{padded_long}

-- what stands from a place on is replaced by as much
replaced : (front back now items text : List ℕ) (start len : ℕ) → items ≡ front ++ back → now ≡ items → start ≡ length front → len ≡ length items →
    length text ≡ length back →
    (let after = put_mid start (length now - start) now text in take len (after ++ drop (length after) items)) ≡ front ++ text
replaced front back now items text start len is same at whole long =
    let items_long : length items ≡ length front + length back = ap length is ∙ length-append front back in
    let now_is : now ≡ front ++ back = same ∙ is in
    let now_long : length now ≡ length front + length back = ap length now_is ∙ length-append front back in
    let kept : take start now ≡ front = (λ i. take (at i) (now_is i)) ∙ take_at front back (length front) refl in
    let rest : drop (length now - start) (drop start now) ≡ [] =
    drop_all (length now - start) (drop start now) (omega (arith, length-drop start now)) in
    let after_is : put_mid start (length now - start) now text ≡ front ++ text =
    (λ i. kept i ++ (text ++ rest i)) ∙ ap (λ (xs : List ℕ). front ++ xs) (append-nil text) in
    let after_long : length (put_mid start (length now - start) now text) ≡ length items =
    ap length after_is ∙ length-append front text ∙ omega arith in
    let nothing : drop (length (put_mid start (length now - start) now text)) items ≡ [] = drop_all _ items (omega arith) in
    (λ i. take (whole i) (after_is i ++ nothing i))
    ∙ ap (take (length items)) (append-nil (front ++ text))
    ∙ take_all (length items) (front ++ text) (omega (arith, length-append front text))

from_place : (front back now : List ℕ) (start : ℕ) → now ≡ front ++ back → start ≡ length front → take (length now - start) (drop start now) ≡ back
from_place front back now start is at =
    take_rest now start ∙ (λ i. drop (at i) (is i)) ∙ drop_at front back (length front) refl

drop_front : (body : List ℕ) → 32 ≤ length body → drop 16 (take (length body - 16) body) ≡ take (length body - 16 - 16) (drop 16 body)
drop_front body enough =
    let split : length body - 16 ≡ 16 + (length body - 16 - 16) = omega arith in
    ap (λ (n : ℕ). drop 16 (take n body)) split ∙ drop-take 16 (length body - 16 - 16) body

pub encrypted_behind : (keys : Keys) (key old vector plain pad items now part text : List ℕ) (start len : ℕ) → start ≡ length old → length vector ≡ 16 →
    pad ≡ padding (length plain) → items ≡ old ++ (vector ++ (plain ++ (pad ++ []))) → now ≡ items → len ≡ length items →
    part ≡ take (length now - (start + 16)) (drop (start + 16) now) → length text ≡ length part →
    key ≡ keys.encryption → text ≡ cbc_encrypted key vector (length part / 16) part →
    (let after = put_mid (start + 16) (length now - (start + 16)) now text in take len (after ++ drop (length after) items))
    ≡ old ++ encrypted_part keys plain vector
unfolding encrypted_part
encrypted_behind keys key old vector plain pad items now part text start len at vector_long is_pad is same whole is_part long is_key encrypts =
    let back = plain ++ padding (length plain) in
    let padded : plain ++ (pad ++ []) ≡ back = ap (λ (xs : List ℕ). plain ++ xs) (append-nil pad ∙ is_pad) in
    let items_is : items ≡ (old ++ vector) ++ back =
    is ∙ ap (λ (xs : List ℕ). old ++ (vector ++ xs)) padded ∙ sym (append_assoc old vector back) in
    let front_long : start + 16 ≡ length (old ++ vector) = sym (length-append old vector ∙ (λ i. sym at i + vector_long i)) in
    let part_of : part ≡ back = is_part ∙ from_place (old ++ vector) back now (start + 16) (same ∙ items_is) front_long in
    let count : length part / 16 ≡ blocks_of (length plain) =
    ap (λ (xs : List ℕ). length xs / 16) part_of ∙ ap (λ (n : ℕ). n / 16) (padded_long plain) ∙ omega arith in
    replaced (old ++ vector) back now items text (start + 16) len items_is same front_long whole (long ∙ ap length part_of)
    ∙ ap (λ (xs : List ℕ). (old ++ vector) ++ xs) (encrypts ∙ (λ i. cbc_encrypted (is_key i) vector (count i) (part_of i)))
    ∙ append_assoc old vector (cbc_encrypted keys.encryption vector (blocks_of (length plain)) back)

pub decrypted_behind : (keys : Keys) (key old body vector copied items now part text : List ℕ) (start len : ℕ) → start ≡ length old →
    32 ≤ length body → vector ≡ take 16 body → copied ≡ take (length body - 16 - 16) (drop 16 body) → items ≡ old ++ copied → now ≡ items → len ≡ length items →
    part ≡ take (length now - start) (drop start now) → length text ≡ length part →
    key ≡ keys.encryption → text ≡ cbc_decrypted key vector (length part / 16) part →
    (let after = put_mid start (length now - start) now text in take len (after ++ drop (length after) items))
    ≡ old ++ decrypted_part keys body
unfolding decrypted_part
decrypted_behind keys key old body vector copied items now part text start len at enough is_vector is_copied is same whole is_part long is_key decrypts =
    let part_of : part ≡ copied = is_part ∙ from_place old copied now start (same ∙ is) at in
    let blocks : copied ≡ drop 16 (take (length body - 16) body) = is_copied ∙ sym (drop_front body enough) in
    replaced old copied now items text start len is same at whole (long ∙ ap length part_of)
    ∙ ap (λ (xs : List ℕ). old ++ xs)
    (decrypts ∙ (λ i. cbc_decrypted (is_key i) (is_vector i) (length ((part_of ∙ blocks) i) / 16) ((part_of ∙ blocks) i)))

pub sealed_behind : (keys : Keys) (old head plain vector items part value after : List ℕ) (start : ℕ) → start ≡ length old →
    items ≡ old ++ encrypted_part keys plain vector → part ≡ take (length items - start) (drop start items) →
    value ≡ check_value keys head part → after ≡ items ++ value → after ≡ old ++ sealed_body keys head plain vector
unfolding sealed_body
sealed_behind keys old head plain vector items part value after start at is is_part is_value is_after =
    let sealed = encrypted_part keys plain vector in
    let part_of : part ≡ sealed = is_part ∙ from_place old sealed items start is at in
    is_after ∙ (λ i. is i ++ (is_value ∙ ap (check_value keys head) part_of) i) ∙ append_assoc old sealed (check_value keys head sealed)

-- ---- opening
pub intact_long : (keys : Keys) (head body : List ℕ) → is_intact keys head body ≡ true → 48 ≤ length body
unfolding is_intact
intact_long keys head body is =
    let both = and_parts (nat_le 48 (length body) && nat_eq (length body % 16) 0) (pointwise nat_eq (drop (length body - 16) body) (check_value keys head (take (length body - 16) body))) is in
    leb-true 48 (length body) (and_parts (nat_le 48 (length body)) (nat_eq (length body % 16) 0) both.0).0

pub intact_whole : (keys : Keys) (head body : List ℕ) → is_intact keys head body ≡ true → length body % 16 ≡ 0
unfolding is_intact
intact_whole keys head body is =
    let both = and_parts (nat_le 48 (length body) && nat_eq (length body % 16) 0) (pointwise nat_eq (drop (length body - 16) body) (check_value keys head (take (length body - 16) body))) is in
    eqb-true (length body % 16) 0 (and_parts (nat_le 48 (length body)) (nat_eq (length body % 16) 0) both.0).1

if_true : (t : Bool) (x y : Option (List ℕ)) → t ≡ true → (if t then x else y) ≡ x
if_true t x y is = rw is refl

if_false : (t : Bool) (x y : Option (List ℕ)) → t ≡ false → (if t then x else y) ≡ y
if_false t x y is = rw is refl

opened_when : (keys : Keys) (head body : List ℕ) → is_intact keys head body ≡ true → opened_body keys head body ≡ unpadded (decrypted_part keys body)
unfolding opened_body
opened_when keys head body is = if_true (is_intact keys head body) (unpadded (decrypted_part keys body)) None is

not_opened : (keys : Keys) (head body : List ℕ) → is_intact keys head body ≡ false → opened_body keys head body ≡ None
unfolding opened_body
not_opened keys head body is = if_false (is_intact keys head body) (unpadded (decrypted_part keys body)) None is

pub opens_not : (keys : Keys) (head body old after : List ℕ) → is_intact keys head body ≡ false → after ≡ old → Opens (opened_body keys head body) false old after
opens_not keys head body old after is same =
    subst (λ (o : Option (List ℕ)). Opens o false old after) (sym (not_opened keys head body is)) (refl, same)

opens_to : (keys : Keys) (head body plain : List ℕ) → is_intact keys head body ≡ true → Some plain ≡ unpadded (decrypted_part keys body) →
    opened_body keys head body ≡ Some plain
opens_to keys head body plain is found = opened_when keys head body is ∙ sym found

-- no body that opens is one that doesn't
pub opens_after_all : {X : Type 0} (keys : Keys) (head body plain : List ℕ) → is_intact keys head body ≡ true →
    Some plain ≡ unpadded (decrypted_part keys body) → opened_body keys head body ≡ None → X
opens_after_all keys head body plain is found none = let both : Some plain ≡ None = sym (opens_to keys head body plain is found) ∙ none in absurd cc

pub opens_plain : (keys : Keys) (head body old items after : List ℕ) (start plain : ℕ) → is_intact keys head body ≡ true →
    Some (take plain (decrypted_part keys body)) ≡ unpadded (decrypted_part keys body) → start ≡ length old →
    items ≡ old ++ decrypted_part keys body → after ≡ take (start + plain) items → Opens (opened_body keys head body) true old after
opens_plain keys head body old items after start plain is found at items_is is_after =
    let text = decrypted_part keys body in
    let made : after ≡ old ++ take plain text =
    is_after ∙ (λ i. take (at i + plain) (items_is i)) ∙ take-append-add old text plain in
    subst (λ (o : Option (List ℕ)). Opens o true old after) (sym (opens_to keys head body (take plain text) is found)) (refl, made)

pub opens_nothing : (keys : Keys) (head body old after : List ℕ) → is_intact keys head body ≡ true → None ≡ unpadded (decrypted_part keys body) → after ≡ old →
    Opens (opened_body keys head body) false old after
opens_nothing keys head body old after is found same =
    subst (λ (o : Option (List ℕ)). Opens o false old after) (found ∙ sym (opened_when keys head body is)) (refl, same)
