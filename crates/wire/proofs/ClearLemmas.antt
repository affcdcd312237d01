-- Payloads that are spelled by what clear payloads are spelled by are clear themselves.
use Rattle.std.proofs.Common.{◌≡◌, ℕ, ◌+◌, List, [], ◌∷◌, ◌++◌, length, drop, slice_index, refl, sym, ap, subst, ◌∙◌, arith, append_assoc}
use Rattle.std.specs.List.{AllByRecursion}
use Rattle.std.proofs.lemmas.List.{length-append, drop_at}
use Rattle.byteorder.specs.Endian.{big_bytes, big_number}
use Rattle.byteorder.specs.Numbers.{big_number-reads_back, length-bytes_high_first}
use Rattle.base.specs.Octets.{IsOctet}
use Rattle.wire.specs.Parts.{IsPart, IsZero}
use Rattle.wire.specs.Payloads.{following, type_of, IsClear, SpellsChain, SpellsPayloads}
use Rattle.wire.specs.declared.payload.Payload.{Payload}
use Rattle.wire.specs.declared.payload.Payload.TheVariants.{Sa, Ke, IdI, IdR, Auth, Nonce, Notify, Delete, TsI, TsR, Sealed, Skipped, Unknown}
use Rattle.wire.proofs.LawLemmas.{one_chain}
use Rattle.wire.proofs.WrittenPayloads.{payloads_weaken}

-- two parts at the front of one list name the same type, and the same stands behind them
record AreOne (next other : ℕ) (rest left : List ℕ) : Type 0 where
  type_is : next ≡ other
  rest_is : rest ≡ left

module _ (next other second third : ℕ) (body inside front ahead rest left : List ℕ) (p : IsPart next second body front) (q : IsPart other third inside ahead) (same : front ++ rest ≡ ahead ++ left) where
  whole : (next ∷ second ∷ big_bytes 2 (4 + length body) ++ body) ++ rest ≡ (other ∷ third ∷ big_bytes 2 (4 + length inside) ++ inside) ++ left
  whole = sym (ap (λ (x : List ℕ). x ++ rest) p.spelled) ∙ same ∙ ap (λ (x : List ℕ). x ++ left) q.spelled

  lengths : big_bytes 2 (4 + length body) ++ (body ++ rest) ≡ big_bytes 2 (4 + length inside) ++ (inside ++ left)
  lengths = sym (append_assoc (big_bytes 2 (4 + length body)) body rest) ∙ ap (drop 2) whole ∙ append_assoc (big_bytes 2 (4 + length inside)) inside left

  as_long : 4 + length body ≡ 4 + length inside
  as_long =
      sym (big_number-reads_back 2 (4 + length body) (body ++ rest) (omega (arith, p.fits)))
      ∙ ap (big_number 2) lengths
      ∙ big_number-reads_back 2 (4 + length inside) (inside ++ left) (omega (arith, q.fits))

  length_of : (a b : ℕ) (content part : List ℕ) → part ≡ a ∷ b ∷ big_bytes 2 (4 + length content) ++ content → length part ≡ 4 + length content
  length_of a b content part is =
      ap length is ∙ omega (arith, length-append (big_bytes 2 (4 + length content)) content, length-bytes_high_first 2 (4 + length content))

  parted : AreOne next other rest left
  parted = record {
    type_is = ap (λ (x : List ℕ). slice_index x 0) whole;
    rest_is =
        sym (drop_at front rest (4 + length body) (length_of next second body front p.spelled))
        ∙ ap (drop (4 + length body)) same
        ∙ ap (λ (n : ℕ). drop n (ahead ++ left)) as_long
        ∙ drop_at ahead left (4 + length inside) (length_of other third inside ahead q.spelled);
  }

following_clear : (p : Payload) (next : ℕ) → IsClear p → following p next ≡ next
following_clear (Sealed first body) next clear = absurd (clear refl)
following_clear (Sa proposals) next clear = refl
following_clear (Ke group octets) next clear = refl
following_clear (IdI kind octets) next clear = refl
following_clear (IdR kind octets) next clear = refl
following_clear (Auth method octets) next clear = refl
following_clear (Nonce octets) next clear = refl
following_clear (Notify protocol spi kind octets) next clear = refl
following_clear (Delete protocol spis) next clear = refl
following_clear (TsI selectors) next clear = refl
following_clear (TsR selectors) next clear = refl
following_clear (Skipped kind octets) next clear = refl
following_clear (Unknown kind critical octets) next clear = refl

some_front : (next second : ℕ) (body front rest : List ℕ) → IsPart next second body front → front ++ rest ≡ [] → ⊥
some_front next second body front rest p none = (
    let empty : (next ∷ second ∷ big_bytes 2 (4 + length body) ++ body) ++ rest ≡ [] = sym (ap (λ (x : List ℕ). x ++ rest) p.spelled) ∙ none in
    let no : length ((next ∷ second ∷ big_bytes 2 (4 + length body) ++ body) ++ rest) ≡ 0 = ap length empty in
    absurd (omega (arith, no)))

clear_so : (first : ℕ) (ps qs : List Payload) (x : List ℕ) → SpellsPayloads IsZero first ps x → SpellsPayloads IsOctet first qs x → AllByRecursion IsClear qs → AllByRecursion IsClear ps
clear_so first [] qs x s t clear = tt
clear_so first (p ∷ ps) [] x s t clear =
    let j = s.2 in
    absurd (some_front s.1 j.first.second j.first.body j.front j.rest j.first.part (sym j.joined ∙ t.1))
clear_so first (p ∷ ps) (q ∷ qs) x s t clear =
    let j = s.2 in
    let k = t.2 in
    let one = parted s.1 t.1 j.first.second k.first.second j.first.body k.first.body j.front k.front j.rest k.rest j.first.part k.first.part (sym j.joined ∙ k.joined) in
    let types : type_of p ≡ type_of q = sym s.0 ∙ t.0 in
    let own : IsClear p = λ is. clear.0 (sym types ∙ is) in
    let behind : SpellsPayloads IsZero s.1 ps j.rest = subst (λ (n : ℕ). SpellsPayloads IsZero n ps j.rest) (following_clear p s.1 own) j.others in
    let others : SpellsPayloads IsOctet t.1 qs k.rest = subst (λ (n : ℕ). SpellsPayloads IsOctet n qs k.rest) (following_clear q t.1 clear.0) k.others in
    let moved : SpellsPayloads IsOctet s.1 qs j.rest =
    subst (λ (n : ℕ). SpellsPayloads IsOctet n qs j.rest) (sym one.type_is) (subst (λ (r : List ℕ). SpellsPayloads IsOctet t.1 qs r) (sym one.rest_is) others) in
    (own, clear_so s.1 ps qs j.rest behind moved clear.1)

-- so they are the same payloads
pub plain_chain : (first : ℕ) (ps qs : List Payload) (x : List ℕ) → SpellsPayloads IsZero first ps x → SpellsChain first qs x → ps ≡ qs
plain_chain first ps qs x spelled chain =
    one_chain first ps qs x (record {
      clear = clear_so first ps qs x spelled chain.payloads chain.clear;
      payloads = payloads_weaken first ps x spelled;
      octets = chain.octets;
    }) chain
