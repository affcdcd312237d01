-- The insides of payloads: what is read is spelled, and what is spelled is read.
use Rattle.std.proofs.Common.{◌≡◌, ℕ, ◌+◌, ◌-◌, ◌^◌, ◌<◌, ◌≤◌, true, false, cond, eqb, leb, List, [], ◌∷◌, ◌++◌, length, Some, None, refl, sym, ap, subst, ◌∙◌, append_assoc, inl, inr, arith, rules, tests}
use Rattle.std.proofs.lemmas.Bool.{eqb-true, leb-true, leb-false, le-leb, lt-leb}
use Rattle.byteorder.specs.Endian.{big_bytes}
use Rattle.base.specs.Octets.{IsOctet, AreOctets}
use Rattle.wire.specs.Proposals.{SpellsAttribute, SpellsTransform, SpellsProposal, SpellsProposals, NumberedFrom, AreNumbered}
use Rattle.wire.specs.Reading.{◌>>=◌, octets_at, octet_at, number_at, each_of, marked_of, attribute_at, transform_of, proposal_of, proposals_of, numbered_from, are_numbered}
use Rattle.wire.specs.declared.proposal.Attribute.{Attribute}
use Rattle.wire.specs.declared.proposal.Attribute.TheVariants.{Short, Long}
use Rattle.wire.specs.declared.proposal.Transform.{Transform}
use Rattle.wire.specs.declared.proposal.Proposal.{Proposal}
use Rattle.wire.proofs.Options.{some_is, with_some, with_test, pick, both_true}
use Rattle.base.proofs.OctetLemmas.{octets_back}
use Rattle.wire.proofs.Takes.{octets_takes, octets_again, octet_takes, octet_again, wide2, number_takes, number_again}
use Rattle.wire.proofs.Sequences.{TakesItem, ItemTakes, ItemAgain, InsideTakes, InsideAgain, each_takes, each_again, marked_takes, marked_again}

-- ---- attributes

pub attribute_takes : ItemTakes attribute_at SpellsAttribute
unfolding attribute_at
attribute_takes xs x fits e =
    with_some (number_at 2 xs) _ x e (λ kind e1 r1.
    with_some (number_at 2 kind.1) _ x r1 (λ value e2 r2.
    let t1 = number_takes 2 (2 ^ 16) wide2 xs kind fits e1 in
    let fits1 : AreOctets kind.1 = octets_back (big_bytes 2 kind.0) kind.1 (subst AreOctets t1.0 fits) in
    let t2 = number_takes 2 (2 ^ 16) wide2 kind.1 value fits1 e2 in
    elim (pick (leb (2 ^ 15) kind.0) _ _ _ r2) [
      | inl short ↦
          let top : 2 ^ 15 ≤ kind.0 = leb-true _ _ short.0 in
          let whole : 2 ^ 15 + (kind.0 - 2 ^ 15) ≡ kind.0 = omega arith in
          let made : Attribute = Short (kind.0 - 2 ^ 15) value.0 in
          let front : List ℕ = big_bytes 2 (2 ^ 15 + (kind.0 - 2 ^ 15)) ++ big_bytes 2 value.0 in
          let joined : xs ≡ front ++ value.1 =
          t1.0 ∙ ap (λ (r : List ℕ). big_bytes 2 kind.0 ++ r) t2.0 ∙ sym (append_assoc (big_bytes 2 kind.0) (big_bytes 2 value.0) value.1)
          ∙ ap (λ (n : ℕ). (big_bytes 2 n ++ big_bytes 2 value.0) ++ value.1) (sym whole) in
          subst (TakesItem SpellsAttribute xs) (some_is (made, value.1) x short.1)
          (record { front = front; joined = joined; spelled = (refl, omega (arith, t1.1), t2.1) })
      | inr long ↦
          with_some (octets_at value.0 value.1) _ x long.1 (λ octets e3 r3.
          let low : kind.0 < 2 ^ 15 = leb-false _ _ long.0 in
          let t3 = octets_takes value.0 value.1 octets e3 in
          let made : Attribute = Long kind.0 octets.0 in
          let front : List ℕ = big_bytes 2 kind.0 ++ big_bytes 2 (length octets.0) ++ octets.0 in
          let joined : xs ≡ front ++ octets.1 =
          t1.0 ∙ ap (λ (r : List ℕ). big_bytes 2 kind.0 ++ r) (t2.0 ∙ ap (λ (r : List ℕ). big_bytes 2 value.0 ++ r) t3.0 ∙ ap (λ (n : ℕ). big_bytes 2 n ++ (octets.0 ++ octets.1)) (sym t3.1))
          ∙ sym (append_assoc (big_bytes 2 kind.0) (big_bytes 2 (length octets.0)) (octets.0 ++ octets.1))
          ∙ sym (append_assoc (big_bytes 2 kind.0 ++ big_bytes 2 (length octets.0)) octets.0 octets.1) in
          subst (TakesItem SpellsAttribute xs) (some_is (made, octets.1) x r3)
          (record { front = front; joined = joined; spelled = (refl, low, rw t3.1 t2.1) }))
    ]))

pub attribute_again : ItemAgain attribute_at SpellsAttribute
unfolding attribute_at
attribute_again (Short kind value) front rest s =
    let whole : front ++ rest ≡ big_bytes 2 (2 ^ 15 + kind) ++ (big_bytes 2 value ++ rest) = ap (λ (y : List ℕ). y ++ rest) s.0 ∙ append_assoc (big_bytes 2 (2 ^ 15 + kind)) (big_bytes 2 value) rest in
    let top : leb (2 ^ 15) (2 ^ 15 + kind) ≡ true = le-leb _ _ (omega arith) in
    let less : (2 ^ 15 + kind) - 2 ^ 15 ≡ kind = omega arith in (
      ap attribute_at whole
          ∙ ap (λ o. o >>= λ k. number_at 2 k.1 >>= λ v. cond (leb (2 ^ 15) k.0) (Some (Short (k.0 - 2 ^ 15) v.0, v.1)) (octets_at v.0 v.1 >>= λ x. Some (Long k.0 x.0, x.1))) (number_again 2 (2 ^ 16) wide2 (2 ^ 15 + kind) (big_bytes 2 value ++ rest) (omega (arith, s.1)))
          ∙ ap (λ o. o >>= λ v. cond (leb (2 ^ 15) (2 ^ 15 + kind)) (Some (Short ((2 ^ 15 + kind) - 2 ^ 15) v.0, v.1)) (octets_at v.0 v.1 >>= λ x. Some (Long (2 ^ 15 + kind) x.0, x.1))) (number_again 2 (2 ^ 16) wide2 value rest s.2)
          ∙ ap (λ b. cond b (Some (Short ((2 ^ 15 + kind) - 2 ^ 15) value, rest)) (octets_at value rest >>= λ x. Some (Long (2 ^ 15 + kind) x.0, x.1))) top
          ∙ ap (λ (n : ℕ). Some (Short n value, rest)) less,
      omega (arith, ap length s.0),
    )
attribute_again (Long kind value) front rest s =
    let n : ℕ = length value in
    let whole : front ++ rest ≡ big_bytes 2 kind ++ (big_bytes 2 n ++ (value ++ rest)) =
    ap (λ (y : List ℕ). y ++ rest) s.0 ∙ append_assoc (big_bytes 2 kind ++ big_bytes 2 n) value rest ∙ append_assoc (big_bytes 2 kind) (big_bytes 2 n) (value ++ rest) in
    let low : leb (2 ^ 15) kind ≡ false = lt-leb _ _ s.1 in (
      ap attribute_at whole
          ∙ ap (λ o. o >>= λ k. number_at 2 k.1 >>= λ v. cond (leb (2 ^ 15) k.0) (Some (Short (k.0 - 2 ^ 15) v.0, v.1)) (octets_at v.0 v.1 >>= λ x. Some (Long k.0 x.0, x.1))) (number_again 2 (2 ^ 16) wide2 kind (big_bytes 2 n ++ (value ++ rest)) (omega (arith, s.1)))
          ∙ ap (λ o. o >>= λ v. cond (leb (2 ^ 15) kind) (Some (Short (kind - 2 ^ 15) v.0, v.1)) (octets_at v.0 v.1 >>= λ x. Some (Long kind x.0, x.1))) (number_again 2 (2 ^ 16) wide2 n (value ++ rest) s.2)
          ∙ ap (λ b. cond b (Some (Short (kind - 2 ^ 15) n, value ++ rest)) (octets_at n (value ++ rest) >>= λ x. Some (Long kind x.0, x.1))) low
          ∙ ap (λ o. o >>= λ x. Some (Long kind x.0, x.1)) (octets_again value rest n refl),
      omega (arith, ap length s.0),
    )

-- ---- transforms

pub transform_takes : InsideTakes transform_of (SpellsTransform IsOctet)
unfolding transform_of
transform_takes xs a fits e =
    with_some (octet_at xs) _ a e (λ kind e1 r1.
    with_some (octet_at kind.1) _ a r1 (λ reserved e2 r2.
    with_some (number_at 2 reserved.1) _ a r2 (λ id e3 r3.
    with_some (each_of attribute_at (length id.1) id.1) _ a r3 (λ attributes e4 r4.
    let t1 = octet_takes xs kind e1 in
    let t2 = octet_takes kind.1 reserved e2 in
    let fits1 : AreOctets kind.1 = (subst AreOctets t1 fits).1 in
    let both2 : AreOctets (reserved.0 ∷ reserved.1) = subst AreOctets t2 fits1 in
    let t3 = number_takes 2 (2 ^ 16) wide2 reserved.1 id both2.1 e3 in
    let fits3 : AreOctets id.1 = octets_back (big_bytes 2 id.0) id.1 (subst AreOctets t3.0 both2.1) in
    let t4 = each_takes attribute_at SpellsAttribute attribute_takes (length id.1) id.1 attributes fits3 e4 in
    let made : Transform = record { kind = kind.0; id = id.0; attributes = attributes } in
    let P : Transform → Type 0 = λ t. SpellsTransform IsOctet t xs in
    subst P (some_is made a r4) (record {
      reserved = reserved.0;
      attributes = id.1;
      free = both2.0;
      spelled = t1 ∙ ap (λ (r : List ℕ). kind.0 ∷ r) (t2 ∙ ap (λ (r : List ℕ). reserved.0 ∷ r) t3.0);
      id = t3.1;
      each = t4;
    })))))

pub transform_again : (Free : ℕ → Type 0) → InsideAgain transform_of (SpellsTransform Free)
unfolding transform_of
transform_again Free a xs s =
    let behind : List ℕ = big_bytes 2 a.id ++ s.attributes in
    ap transform_of s.spelled
    ∙ ap (λ o. o >>= λ k. octet_at k.1 >>= λ r. number_at 2 r.1 >>= λ i. each_of attribute_at (length i.1) i.1 >>= λ as'. Some (record { kind = k.0; id = i.0; attributes = as' })) (octet_again a.kind (s.reserved ∷ behind))
    ∙ ap (λ o. o >>= λ r. number_at 2 r.1 >>= λ i. each_of attribute_at (length i.1) i.1 >>= λ as'. Some (record { kind = a.kind; id = i.0; attributes = as' })) (octet_again s.reserved behind)
    ∙ ap (λ o. o >>= λ i. each_of attribute_at (length i.1) i.1 >>= λ as'. Some (record { kind = a.kind; id = i.0; attributes = as' })) (number_again 2 (2 ^ 16) wide2 a.id s.attributes s.id)
    ∙ ap (λ o. o >>= λ as'. Some (record { kind = a.kind; id = a.id; attributes = as' })) (each_again attribute_at SpellsAttribute attribute_again a.attributes s.attributes (length s.attributes) (omega arith) s.each)

-- ---- proposals

pub proposal_takes : InsideTakes proposal_of (SpellsProposal IsOctet)
unfolding proposal_of
proposal_takes xs a fits e =
    with_some (octet_at xs) _ a e (λ number e1 r1.
    with_some (octet_at number.1) _ a r1 (λ protocol e2 r2.
    with_some (octet_at protocol.1) _ a r2 (λ size e3 r3.
    with_some (octet_at size.1) _ a r3 (λ count e4 r4.
    with_some (octets_at size.0 count.1) _ a r4 (λ spi e5 r5.
    with_some (marked_of 3 transform_of (length spi.1) true spi.1) _ a r5 (λ transforms e6 r6.
    with_test (eqb (length transforms) count.0) (Some (record { number = number.0; protocol = protocol.0; spi = spi.0; transforms = transforms })) a r6 (λ counted r7.
    let t1 = octet_takes xs number e1 in
    let t2 = octet_takes number.1 protocol e2 in
    let t3 = octet_takes protocol.1 size e3 in
    let t4 = octet_takes size.1 count e4 in
    let t5 = octets_takes size.0 count.1 spi e5 in
    let fits1 : AreOctets number.1 = (subst AreOctets t1 fits).1 in
    let fits2 : AreOctets protocol.1 = (subst AreOctets t2 fits1).1 in
    let both3 : AreOctets (size.0 ∷ size.1) = subst AreOctets t3 fits2 in
    let both4 : AreOctets (count.0 ∷ count.1) = subst AreOctets t4 both3.1 in
    let fits5 : AreOctets spi.1 = octets_back spi.0 spi.1 (subst AreOctets t5.0 both4.1) in
    let t6 = marked_takes 3 transform_of (SpellsTransform IsOctet) transform_takes (length spi.1) spi.1 transforms fits5 e6 in
    let count_is : length transforms ≡ count.0 = eqb-true _ _ counted in
    let made : Proposal = record { number = number.0; protocol = protocol.0; spi = spi.0; transforms = transforms } in
    let head : (m n : ℕ) → List ℕ = λ m n. number.0 ∷ protocol.0 ∷ m ∷ n ∷ spi.0 ++ spi.1 in
    let P : Proposal → Type 0 = λ p. SpellsProposal IsOctet p xs in
    subst P (some_is made a r7) (record {
      transforms = spi.1;
      spelled =
          t1 ∙ ap (λ (r : List ℕ). number.0 ∷ r) (t2 ∙ ap (λ (r : List ℕ). protocol.0 ∷ r) (t3 ∙ ap (λ (r : List ℕ). size.0 ∷ r) (t4 ∙ ap (λ (r : List ℕ). count.0 ∷ r) t5.0)))
          ∙ ap (λ (m : ℕ). head m count.0) (sym t5.1) ∙ ap (λ (n : ℕ). head (length spi.0) n) (sym count_is);
      spi = omega (arith, t5.1, both3.0);
      count = omega (arith, count_is, both4.0);
      each = t6;
    }))))))))

pub same_numbers : (m n : ℕ) → m ≡ n → eqb m n ≡ true
same_numbers m n e = rw e (eqb_self n) where
  eqb_self : (k : ℕ) → eqb k k ≡ true
  eqb_self k = search (rules, tests)

pub proposal_again : (Free : ℕ → Type 0) → InsideAgain proposal_of (SpellsProposal Free)
unfolding proposal_of
proposal_again Free a xs s =
    let m : ℕ = length a.spi in
    let n : ℕ = length a.transforms in
    let behind : List ℕ = a.spi ++ s.transforms in
    ap proposal_of s.spelled
    ∙ ap (λ o. o >>= λ u. octet_at u.1 >>= λ v. octet_at v.1 >>= λ w. octet_at w.1 >>= λ x. octets_at w.0 x.1 >>= λ y. marked_of 3 transform_of (length y.1) true y.1 >>= λ ts. cond (eqb (length ts) x.0) (Some (record { number = u.0; protocol = v.0; spi = y.0; transforms = ts })) None) (octet_again a.number (a.protocol ∷ m ∷ n ∷ behind))
    ∙ ap (λ o. o >>= λ v. octet_at v.1 >>= λ w. octet_at w.1 >>= λ x. octets_at w.0 x.1 >>= λ y. marked_of 3 transform_of (length y.1) true y.1 >>= λ ts. cond (eqb (length ts) x.0) (Some (record { number = a.number; protocol = v.0; spi = y.0; transforms = ts })) None) (octet_again a.protocol (m ∷ n ∷ behind))
    ∙ ap (λ o. o >>= λ w. octet_at w.1 >>= λ x. octets_at w.0 x.1 >>= λ y. marked_of 3 transform_of (length y.1) true y.1 >>= λ ts. cond (eqb (length ts) x.0) (Some (record { number = a.number; protocol = a.protocol; spi = y.0; transforms = ts })) None) (octet_again m (n ∷ behind))
    ∙ ap (λ o. o >>= λ x. octets_at m x.1 >>= λ y. marked_of 3 transform_of (length y.1) true y.1 >>= λ ts. cond (eqb (length ts) x.0) (Some (record { number = a.number; protocol = a.protocol; spi = y.0; transforms = ts })) None) (octet_again n behind)
    ∙ ap (λ o. o >>= λ y. marked_of 3 transform_of (length y.1) true y.1 >>= λ ts. cond (eqb (length ts) n) (Some (record { number = a.number; protocol = a.protocol; spi = y.0; transforms = ts })) None) (octets_again a.spi s.transforms m refl)
    ∙ ap (λ o. o >>= λ ts. cond (eqb (length ts) n) (Some (record { number = a.number; protocol = a.protocol; spi = a.spi; transforms = ts })) None) (marked_again Free 3 transform_of (SpellsTransform Free) refl (transform_again Free) a.transforms s.transforms (length s.transforms) (omega arith) s.each)
    ∙ ap (λ b. cond b (Some a) None) (same_numbers n n refl)

numbered_takes : (n : ℕ) (ps : List Proposal) → numbered_from n ps ≡ true → NumberedFrom n ps
numbered_takes n [] e = tt
numbered_takes n (p ∷ ps) e = let b = both_true (eqb p.number n) (numbered_from (n + 1) ps) e in (eqb-true _ _ b.0, numbered_takes (n + 1) ps b.1)

numbered_again : (n : ℕ) (ps : List Proposal) → NumberedFrom n ps → numbered_from n ps ≡ true
numbered_again n [] h = refl
numbered_again n (p ∷ ps) h = rw (same_numbers p.number n h.0, numbered_again (n + 1) ps h.1) refl

pub are_numbered_takes : (ps : List Proposal) → are_numbered ps ≡ true → AreNumbered ps
unfolding are_numbered
are_numbered_takes [] e = absurd cc
are_numbered_takes (p ∷ []) e = leb-true _ _ e
are_numbered_takes (p ∷ q ∷ ps) e = numbered_takes 1 (p ∷ q ∷ ps) e

pub are_numbered_again : (ps : List Proposal) → AreNumbered ps → are_numbered ps ≡ true
unfolding are_numbered
are_numbered_again [] h = absurd h
are_numbered_again (p ∷ []) h = le-leb _ _ h
are_numbered_again (p ∷ q ∷ ps) h = numbered_again 1 (p ∷ q ∷ ps) h

pub proposals_takes : InsideTakes proposals_of (SpellsProposals IsOctet)
unfolding proposals_of
proposals_takes xs a fits e =
    with_some (marked_of 2 proposal_of (length xs) true xs) _ a e (λ ps e1 r1.
    with_test (are_numbered ps) (Some ps) a r1 (λ numbered r2.
    let P : List Proposal → Type 0 = λ as'. SpellsProposals IsOctet as' xs in
    subst P (some_is ps a r2) (record {
      each = marked_takes 2 proposal_of (SpellsProposal IsOctet) proposal_takes (length xs) xs ps fits e1;
      numbered = are_numbered_takes ps numbered;
    })))

pub proposals_again : (Free : ℕ → Type 0) → InsideAgain proposals_of (SpellsProposals Free)
unfolding proposals_of
proposals_again Free a xs s =
    ap (λ o. o >>= λ ps. cond (are_numbered ps) (Some ps) None) (marked_again Free 2 proposal_of (SpellsProposal Free) refl (proposal_again Free) a xs (length xs) (omega arith) s.each)
    ∙ ap (λ b. cond b (Some a) None) (are_numbered_again a s.numbered)
