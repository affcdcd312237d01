-- The insides of payloads: what is appended is spelled, what is refused has no spelling, and all spellings
-- are as long.
use Rattle.std.proofs.Common.{◌≡◌, ℕ, ◌+◌, ◌^◌, Bool, true, false, eqb, ltb, List, [], ◌∷◌, ◌++◌, length, Option, refl, sym, ap, ◌∙◌, append_assoc, inl, inr, arith}
use Rattle.std.specs.Prelude.{◌&&◌}
use Rattle.std.proofs.lemmas.Bool.{eqb-true, ltb-false, ltb-true, lt-ltb}
use Rattle.std.proofs.lemmas.List.{length-append}
use Rattle.byteorder.specs.Endian.{big_bytes}
use Rattle.base.specs.Octets.{IsOctet}
use Rattle.wire.specs.Parts.{IsZero, SpellsMarked}
use Rattle.wire.specs.Proposals.{SpellsAttribute, SpellsTransform, SpellsProposal, SpellsProposals}
use Rattle.wire.specs.Reading.{◌>>=◌, are_numbered}
use Rattle.wire.specs.Writing.{octets_onto, number_onto, each_onto, marked_from, marked_onto, attribute_onto, transform_onto, proposal_onto, proposals_onto}
use Rattle.wire.specs.declared.proposal.Attribute.{Attribute}
use Rattle.wire.specs.declared.proposal.Attribute.TheVariants.{Short, Long}
use Rattle.wire.specs.declared.proposal.Transform.{Transform}
use Rattle.wire.specs.declared.proposal.Proposal.{Proposal}
use Rattle.wire.proofs.Options.{some_is, with_some, with_test, with_guard, both_true}
use Rattle.wire.proofs.Bodies.{are_numbered_takes, are_numbered_again}
use Rattle.wire.proofs.Written.{AppendsAll, Refuses, SameLength, bind_none, none_some, test_none, guard_none, number_appends, number_refused, each_appends, each_refuses, each_same, marked_appends, marked_refuses, marked_same}

-- one list behind another
pub joins : (old a b mid new : List ℕ) → mid ≡ old ++ a → new ≡ mid ++ b → new ≡ old ++ (a ++ b)
joins old a b mid new e f = f ∙ ap (λ (y : List ℕ). y ++ b) e ∙ append_assoc old a b

pub both_of : (a b : Bool) → (a && b) ≡ false → a ≡ true → b ≡ true → ⊥
both_of true true e f g = bad e where
  bad : true ≡ false → ⊥
  bad q = cc
both_of true false e f g = bad g where
  bad : false ≡ true → ⊥
  bad q = cc
both_of false b e f g = bad f where
  bad : false ≡ true → ⊥
  bad q = cc

-- ---- attributes

pub attribute_appends : (a : Attribute) → AppendsAll (attribute_onto a) (SpellsAttribute a)
unfolding attribute_onto
attribute_appends (Short kind value) old new e =
    with_test (ltb kind (2 ^ 15)) (number_onto 2 (2 ^ 15 + kind) old >>= λ mid. number_onto 2 value mid) new e (λ low r.
    with_some (number_onto 2 (2 ^ 15 + kind) old) (λ mid. number_onto 2 value mid) new r (λ mid e1 r1.
    let a = number_appends 2 (2 ^ 15 + kind) old mid e1 in
    let b = number_appends 2 value mid new r1 in
    record { added = big_bytes 2 (2 ^ 15 + kind) ++ big_bytes 2 value; appended = joins old (big_bytes 2 (2 ^ 15 + kind)) (big_bytes 2 value) mid new a.0 b.0; spelled = (refl, ltb-true _ _ low, b.1) }))
attribute_appends (Long kind value) old new e =
    with_test (ltb kind (2 ^ 15) && ltb (length value) (2 ^ 16)) (number_onto 2 kind old >>= λ mid. number_onto 2 (length value) mid >>= λ next. octets_onto value next) new e (λ good r.
    let g = both_true (ltb kind (2 ^ 15)) (ltb (length value) (2 ^ 16)) good in
    with_some (number_onto 2 kind old) (λ mid. number_onto 2 (length value) mid >>= λ next. octets_onto value next) new r (λ mid e1 r1.
    with_some (number_onto 2 (length value) mid) (λ next. octets_onto value next) new r1 (λ next e2 r2.
    let a = number_appends 2 kind old mid e1 in
    let b = number_appends 2 (length value) mid next e2 in
    let ab = joins old (big_bytes 2 kind) (big_bytes 2 (length value)) mid next a.0 b.0 in
    record {
      added = big_bytes 2 kind ++ big_bytes 2 (length value) ++ value;
      appended = sym (some_is (next ++ value) new r2) ∙ ap (λ (y : List ℕ). y ++ value) ab ∙ append_assoc old (big_bytes 2 kind ++ big_bytes 2 (length value)) value;
      spelled = (refl, ltb-true _ _ g.0, ltb-true _ _ g.1);
    })))

pub attribute_refuses : (a : Attribute) → Refuses (attribute_onto a) (SpellsAttribute a)
unfolding attribute_onto
attribute_refuses (Short kind value) old e x s = elim (test_none (ltb kind (2 ^ 15)) (number_onto 2 (2 ^ 15 + kind) old >>= λ mid. number_onto 2 value mid) e) [
  | inl high ↦ absurd (omega (arith, ltb-false _ _ high, s.1))
  | inr low ↦ elim (bind_none (number_onto 2 (2 ^ 15 + kind) old) (λ mid. number_onto 2 value mid) low.1) [
    | inl none ↦ number_refused 2 (2 ^ 15 + kind) old none (omega (arith, s.1))
    | inr some ↦ number_refused 2 value some.0 some.2 s.2
  ]
]
attribute_refuses (Long kind value) old e x s = elim (test_none (ltb kind (2 ^ 15) && ltb (length value) (2 ^ 16)) (number_onto 2 kind old >>= λ mid. number_onto 2 (length value) mid >>= λ next. octets_onto value next) e) [
  | inl bad ↦ both_of (ltb kind (2 ^ 15)) (ltb (length value) (2 ^ 16)) bad (lt-ltb _ _ s.1) (lt-ltb _ _ s.2)
  | inr good ↦ elim (bind_none (number_onto 2 kind old) (λ mid. number_onto 2 (length value) mid >>= λ next. octets_onto value next) good.1) [
    | inl none ↦ number_refused 2 kind old none (omega (arith, s.1))
    | inr some ↦ elim (bind_none (number_onto 2 (length value) some.0) (λ next. octets_onto value next) some.2) [
      | inl none ↦ number_refused 2 (length value) some.0 none s.2
      | inr more ↦ none_some more.2
    ]
  ]
]

attribute_same : (a : Attribute) → SameLength (SpellsAttribute a) (SpellsAttribute a)
attribute_same (Short kind value) x y s t = ap length s.0 ∙ sym (ap length t.0)
attribute_same (Long kind value) x y s t = ap length s.0 ∙ sym (ap length t.0)

-- ---- transforms

pub transform_appends : (a : Transform) → AppendsAll (transform_onto a) (SpellsTransform IsZero a)
unfolding transform_onto
transform_appends a old new e =
    let first : List ℕ = old ++ a.kind ∷ 0 ∷ [] in
    with_some (number_onto 2 a.id first) (λ next. each_onto attribute_onto a.attributes next) new e (λ next e1 r1.
    let b = number_appends 2 a.id first next e1 in
    let c = each_appends attribute_onto SpellsAttribute attribute_appends a.attributes next new r1 in
    record {
      added = (a.kind ∷ 0 ∷ big_bytes 2 a.id) ++ c.added;
      appended = joins old (a.kind ∷ 0 ∷ big_bytes 2 a.id) c.added next new (joins old (a.kind ∷ 0 ∷ []) (big_bytes 2 a.id) first next refl b.0) c.appended;
      spelled = record { reserved = 0; attributes = c.added; free = refl; spelled = refl; id = b.1; each = c.spelled };
    })

pub transform_refuses : (a : Transform) → Refuses (transform_onto a) (SpellsTransform IsOctet a)
unfolding transform_onto
transform_refuses a old e x s =
    let first : List ℕ = old ++ a.kind ∷ 0 ∷ [] in
    elim (bind_none (number_onto 2 a.id first) (λ next. each_onto attribute_onto a.attributes next) e) [
      | inl none ↦ number_refused 2 a.id first none s.id
      | inr some ↦ each_refuses attribute_onto SpellsAttribute attribute_refuses a.attributes some.0 some.2 s.attributes s.each
    ]

transform_same : (a : Transform) → SameLength (SpellsTransform IsZero a) (SpellsTransform IsOctet a)
transform_same a x y s t = omega (arith, ap length s.spelled, ap length t.spelled, each_same SpellsAttribute SpellsAttribute attribute_same a.attributes s.attributes t.attributes s.each t.each)

-- ---- proposals

list_appends : {A : Type 0} (more : ℕ) (item : A → List ℕ → Option (List ℕ)) (Plain Any : A → List ℕ → Type 0) → ((a : A) → AppendsAll (item a) (Plain a)) → ((a : A) → Refuses (item a) (Any a)) → ((a : A) → SameLength (Plain a) (Any a))
    → (found : List A) → AppendsAll (marked_onto more item found) (SpellsMarked IsZero more Plain found)
list_appends more item Plain Any appends refuses same [] old new e = absurd (none_some (sym e))
list_appends more item Plain Any appends refuses same (a ∷ found) old new e =
    with_guard (eqb (length (a ∷ found)) 0) (marked_from more item (a ∷ found) old) new e (λ _ r. marked_appends more item Plain Any appends refuses same a found old new r)

list_refuses : {A : Type 0} (more : ℕ) (item : A → List ℕ → Option (List ℕ)) (Plain Any : A → List ℕ → Type 0) → ((a : A) → AppendsAll (item a) (Plain a)) → ((a : A) → Refuses (item a) (Any a)) → ((a : A) → SameLength (Plain a) (Any a))
    → (found : List A) → Refuses (marked_onto more item found) (SpellsMarked IsOctet more Any found)
list_refuses {A = A} more item Plain Any appends refuses same found old e x s = elim (guard_none (eqb (length found) 0) (marked_from more item found old) e) [
  | inl none ↦ empty found (eqb-true _ _ none) s
  | inr some ↦ marked_refuses more item Plain Any appends refuses same found old some.1 x s
] where
  empty : (xs : List A) → length xs ≡ 0 → SpellsMarked IsOctet more Any xs x → ⊥
  empty [] q t = t
  empty (a ∷ xs) q t = absurd (omega (arith, q))

pub proposal_appends : (a : Proposal) → AppendsAll (proposal_onto a) (SpellsProposal IsZero a)
unfolding proposal_onto
proposal_appends a old new e =
    let head : List ℕ = a.number ∷ a.protocol ∷ length a.spi ∷ length a.transforms ∷ [] in
    let next : List ℕ = (old ++ head) ++ a.spi in
    with_test (ltb (length a.spi) 256 && ltb (length a.transforms) 256) (marked_onto 3 transform_onto a.transforms next) new e (λ good r.
    let g = both_true (ltb (length a.spi) 256) (ltb (length a.transforms) 256) good in
    let c = list_appends 3 transform_onto (SpellsTransform IsZero) (SpellsTransform IsOctet) transform_appends transform_refuses transform_same a.transforms next new r in
    record {
      added = (head ++ a.spi) ++ c.added;
      appended = joins old (head ++ a.spi) c.added next new (append_assoc old head a.spi) c.appended;
      spelled = record { transforms = c.added; spelled = refl; spi = ltb-true _ _ g.0; count = ltb-true _ _ g.1; each = c.spelled };
    })

pub proposal_refuses : (a : Proposal) → Refuses (proposal_onto a) (SpellsProposal IsOctet a)
unfolding proposal_onto
proposal_refuses a old e x s =
    let head : List ℕ = a.number ∷ a.protocol ∷ length a.spi ∷ length a.transforms ∷ [] in
    let next : List ℕ = (old ++ head) ++ a.spi in
    elim (test_none (ltb (length a.spi) 256 && ltb (length a.transforms) 256) (marked_onto 3 transform_onto a.transforms next) e) [
      | inl bad ↦ both_of (ltb (length a.spi) 256) (ltb (length a.transforms) 256) bad (lt-ltb _ _ s.spi) (lt-ltb _ _ s.count)
      | inr good ↦ list_refuses 3 transform_onto (SpellsTransform IsZero) (SpellsTransform IsOctet) transform_appends transform_refuses transform_same a.transforms next good.1 s.transforms s.each
    ]

proposal_same : (a : Proposal) → SameLength (SpellsProposal IsZero a) (SpellsProposal IsOctet a)
proposal_same a x y s t =
    omega (
      arith,
      ap length s.spelled,
      ap length t.spelled,
      length-append a.spi s.transforms,
      length-append a.spi t.transforms,
      marked_same 3 transform_onto (SpellsTransform IsZero) (SpellsTransform IsOctet) transform_appends transform_refuses transform_same a.transforms s.transforms t.transforms s.each t.each,
    )

pub proposals_appends : (a : List Proposal) → AppendsAll (proposals_onto a) (SpellsProposals IsZero a)
unfolding proposals_onto
proposals_appends a old new e =
    with_test (are_numbered a) (marked_onto 2 proposal_onto a old) new e (λ numbered r.
    let c = list_appends 2 proposal_onto (SpellsProposal IsZero) (SpellsProposal IsOctet) proposal_appends proposal_refuses proposal_same a old new r in
    record { added = c.added; appended = c.appended; spelled = record { each = c.spelled; numbered = are_numbered_takes a numbered } })

pub proposals_refuses : (a : List Proposal) → Refuses (proposals_onto a) (SpellsProposals IsOctet a)
unfolding proposals_onto
proposals_refuses a old e x s = elim (test_none (are_numbered a) (marked_onto 2 proposal_onto a old) e) [
  | inl bad ↦ absurd (clash (sym bad ∙ are_numbered_again a s.numbered))
  | inr good ↦ list_refuses 2 proposal_onto (SpellsProposal IsZero) (SpellsProposal IsOctet) proposal_appends proposal_refuses proposal_same a old good.1 x s.each
] where
  clash : false ≡ true → ⊥
  clash q = cc

pub proposals_same : (a : List Proposal) → SameLength (SpellsProposals IsZero a) (SpellsProposals IsOctet a)
proposals_same a x y s t = marked_same 2 proposal_onto (SpellsProposal IsZero) (SpellsProposal IsOctet) proposal_appends proposal_refuses proposal_same a x y s.each t.each
