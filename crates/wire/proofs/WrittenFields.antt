-- The same of selectors, of the payloads of a few fields, of notifications and deletions.
use Rattle.std.proofs.Common.{◌≡◌, ℕ, ◌^◌, ◌<◌, ◌≤◌, Bool, true, false, eqb, leb, ltb, List, [], ◌∷◌, ◌++◌, length, Some, None, refl, sym, ap, subst, ◌∙◌, inl, inr, ◌⊎◌, arith}
use Rattle.std.specs.Prelude.{◌&&◌, ◌||◌}
use Rattle.std.proofs.lemmas.Bool.{eqb-true, ne_eqb, ltb-false, le-ltb, ltb-true, leb-true, le-leb}
use Rattle.std.proofs.lemmas.List.{nil_from_length}
use Rattle.byteorder.specs.Endian.{big_bytes}
use Rattle.base.specs.Octets.{IsOctet}
use Rattle.wire.specs.Parts.{IsZero, IsPart}
use Rattle.base.specs.Addresses.{FitsRange}
use Rattle.base.specs.declared.address.Range.{Range}
use Rattle.base.specs.declared.address.Range.TheVariants as range
use Rattle.wire.specs.Selectors.{SpellsSelector, SpellsSelectors, selector_type, ends_octets}
use Rattle.wire.specs.Fields.{SpellsKe, SpellsTyped, SpellsNonce, SpellsNotify, SpellsDelete, SpellsSpi, HasSpiSize}
use Rattle.wire.specs.Reading.{◌>>=◌, is_ordered, is_in_order}
use Rattle.wire.specs.Writing.{number_onto, part_onto, each_onto, range_onto, inside_onto, selector_onto, selectors_onto, data_onto, ke_onto, typed_onto, nonce_onto, notify_onto, delete_onto, spi_size}
use Rattle.base.specs.declared.selector.Selector.{Selector}
use Rattle.wire.proofs.Options.{some_is, with_some, with_test, with_guard, pick, both_true}
use Rattle.wire.proofs.FieldBodies.{neither, not_empty, ordered_true, ordered_again}
use Rattle.wire.proofs.Written.{AppendsAll, Refuses, SameLength, bind_none, none_some, test_none, number_appends, number_refused, each_appends, each_refuses, each_same, part_length, part_appends, part_refuses}
use Rattle.wire.proofs.WrittenBodies.{joins, both_of}

-- ---- selectors

abbrev inside_of : Selector → List ℕ
inside_of a = big_bytes 2 a.start_port ++ big_bytes 2 a.end_port ++ ends_octets a.addresses

-- both ends of a range
range_appends : (r : Range) (old new : List ℕ) → range_onto r old ≡ Some new → (new ≡ old ++ ends_octets r) × FitsRange r
unfolding range_onto
range_appends (range.V4 start end) old new e =
    with_some (number_onto 4 start old) (λ mid. number_onto 4 end mid) new e (λ mid e1 r1.
    let n1 = number_appends 4 start old mid e1 in
    let n2 = number_appends 4 end mid new r1 in
    (joins old (big_bytes 4 start) (big_bytes 4 end) mid new n1.0 n2.0, (n1.1, n2.1)))
range_appends (range.V6 start end) old new e =
    with_some (number_onto 16 start old) (λ mid. number_onto 16 end mid) new e (λ mid e1 r1.
    let n1 = number_appends 16 start old mid e1 in
    let n2 = number_appends 16 end mid new r1 in
    (joins old (big_bytes 16 start) (big_bytes 16 end) mid new n1.0 n2.0, (n1.1, n2.1)))

range_refused : (r : Range) (old : List ℕ) → range_onto r old ≡ None → FitsRange r → ⊥
unfolding range_onto
range_refused (range.V4 start end) old e fits = elim (bind_none (number_onto 4 start old) (λ mid. number_onto 4 end mid) e) [
  | inl none ↦ number_refused 4 start old none fits.0
  | inr mid ↦ number_refused 4 end mid.0 mid.2 fits.1
]
range_refused (range.V6 start end) old e fits = elim (bind_none (number_onto 16 start old) (λ mid. number_onto 16 end mid) e) [
  | inl none ↦ number_refused 16 start old none fits.0
  | inr mid ↦ number_refused 16 end mid.0 mid.2 fits.1
]

-- what stands behind a selector's header
pub record IsInside (a : Selector) (x : List ℕ) : Type 0 where
  spelled : x ≡ inside_of a
  port : a.end_port < 2 ^ 16
  fits : FitsRange a.addresses

pub inside_appends : (a : Selector) → AppendsAll (inside_onto a) (IsInside a)
unfolding inside_onto
inside_appends a old new e =
    with_some (number_onto 2 a.start_port old) (λ b. number_onto 2 a.end_port b >>= λ c. range_onto a.addresses c) new e (λ m2 e2 r2.
    with_some (number_onto 2 a.end_port m2) (λ c. range_onto a.addresses c) new r2 (λ m3 e3 r3.
    let n2 = number_appends 2 a.start_port old m2 e2 in
    let n3 = number_appends 2 a.end_port m2 m3 e3 in
    let n4 = range_appends a.addresses m3 new r3 in
    let j3 = joins old (big_bytes 2 a.start_port) (big_bytes 2 a.end_port) m2 m3 n2.0 n3.0 in
    record {
      added = inside_of a;
      appended = joins old (big_bytes 2 a.start_port ++ big_bytes 2 a.end_port) (ends_octets a.addresses) m3 new j3 n4.0;
      spelled = record { spelled = refl; port = n3.1; fits = n4.1 };
    }))

-- the same of a selector that is in order
record IsOrderedInside (a : Selector) (x : List ℕ) : Type 0 where
  inside : IsInside a x
  ports : a.start_port ≤ a.end_port

inside_refuses : (a : Selector) → Refuses (inside_onto a) (IsOrderedInside a)
unfolding inside_onto
inside_refuses a old e x s = elim (bind_none (number_onto 2 a.start_port old) (λ b. number_onto 2 a.end_port b >>= λ c. range_onto a.addresses c) e) [
  | inl none ↦ number_refused 2 a.start_port old none (omega (arith, s.ports, s.inside.port))
  | inr m2 ↦ elim (bind_none (number_onto 2 a.end_port m2.0) (λ c. range_onto a.addresses c) m2.2) [
    | inl none ↦ number_refused 2 a.end_port m2.0 none s.inside.port
    | inr m3 ↦ range_refused a.addresses m3.0 m3.2 s.inside.fits
  ]
]

selector_appends : (a : Selector) → AppendsAll (selector_onto a) (SpellsSelector a)
unfolding selector_onto
selector_appends a old new e =
    with_test (is_in_order a) (part_onto (selector_type a.addresses) a.protocol (inside_onto a) old) new e (λ good r.
    let g = both_true (leb a.start_port a.end_port) (is_ordered a.addresses) good in
    let c = part_appends (selector_type a.addresses) a.protocol (inside_onto a) (IsInside a) (inside_appends a) old new r in
    record {
      added = c.added;
      appended = c.appended;
      spelled = record {
        part = subst (λ (y : List ℕ). IsPart (selector_type a.addresses) a.protocol y c.added) c.spelled.content.spelled c.spelled.part;
        ports = leb-true _ _ g.0;
        port = c.spelled.content.port;
        addresses = ordered_true a.addresses g.1;
        fits = c.spelled.content.fits;
      };
    })

selector_refuses : (a : Selector) → Refuses (selector_onto a) (SpellsSelector a)
unfolding selector_onto
selector_refuses a old e x s =
    let kind : ℕ = selector_type a.addresses in
    elim (test_none (is_in_order a) (part_onto kind a.protocol (inside_onto a) old) e) [
      | inl bad ↦ none_true (sym bad ∙ ordered_again a s.ports s.addresses)
      | inr good ↦ part_refuses kind a.protocol (inside_onto a) (IsInside a) (IsOrderedInside a) (inside_appends a) (inside_refuses a) (λ y z u v. ap length u.spelled ∙ sym (ap length v.inside.spelled)) old good.1 kind a.protocol (inside_of a) x s.part
          (record { inside = record { spelled = refl; port = s.port; fits = s.fits }; ports = s.ports })
    ] where
      none_true : false ≡ true → ⊥
      none_true q = cc

selector_same : (a : Selector) → SameLength (SpellsSelector a) (SpellsSelector a)
selector_same a x y s t = part_length (selector_type a.addresses) a.protocol (inside_of a) x s.part ∙ sym (part_length (selector_type a.addresses) a.protocol (inside_of a) y t.part)

pub selectors_appends : (a : List Selector) → AppendsAll (selectors_onto a) (SpellsSelectors IsZero a)
unfolding selectors_onto
selectors_appends a old new e =
    let head : List ℕ = length a ∷ 0 ∷ 0 ∷ 0 ∷ [] in
    with_test (leb 1 (length a) && leb (length a) 16) (each_onto selector_onto a (old ++ head)) new e (λ good r.
    let g = both_true (leb 1 (length a)) (leb (length a) 16) good in
    let c = each_appends selector_onto SpellsSelector selector_appends a (old ++ head) new r in
    record {
      added = head ++ c.added;
      appended = joins old head c.added (old ++ head) new refl c.appended;
      spelled = record { reserved_1 = 0; reserved_2 = 0; reserved_3 = 0; free = (refl, refl, refl); selectors = c.added; spelled = refl; some = leb-true _ _ g.0; few = leb-true _ _ g.1; each = c.spelled };
    })

pub selectors_refuses : (a : List Selector) → Refuses (selectors_onto a) (SpellsSelectors IsOctet a)
unfolding selectors_onto
selectors_refuses a old e x s = elim (test_none (leb 1 (length a) && leb (length a) 16) (each_onto selector_onto a (old ++ length a ∷ 0 ∷ 0 ∷ 0 ∷ [])) e) [
  | inl bad ↦ both_of (leb 1 (length a)) (leb (length a) 16) bad (le-leb _ _ s.some) (le-leb _ _ s.few)
  | inr good ↦ each_refuses selector_onto SpellsSelector selector_refuses a (old ++ length a ∷ 0 ∷ 0 ∷ 0 ∷ []) good.1 s.selectors s.each
]

pub selectors_same : (a : List Selector) → SameLength (SpellsSelectors IsZero a) (SpellsSelectors IsOctet a)
selectors_same a x y s t = omega (arith, ap length s.spelled, ap length t.spelled, each_same SpellsSelector SpellsSelector selector_same a s.selectors t.selectors s.each t.each)

-- ---- data of a few octets

data_appends : (limit : ℕ) (xs old new : List ℕ) → data_onto limit xs old ≡ Some new → (new ≡ old ++ xs) × (1 ≤ length xs) × (length xs ≤ limit)
data_appends limit xs old new e =
    with_guard ((eqb (length xs) 0) || ltb limit (length xs)) (Some (old ++ xs)) new e (λ good r.
    let g = neither (eqb (length xs) 0) (ltb limit (length xs)) good in
    (sym (some_is (old ++ xs) new r), not_empty (length xs) g.0, ltb-false _ _ g.1))

data_refused : (limit : ℕ) (xs old : List ℕ) → data_onto limit xs old ≡ None → 1 ≤ length xs → length xs ≤ limit → ⊥
data_refused limit xs old e some few =
    let a : eqb (length xs) 0 ≡ false = ne_eqb _ _ (λ none. absurd (omega arith)) in
    let b : ltb limit (length xs) ≡ false = le-ltb _ _ few in
    none_some (sym (made a b) ∙ e) where
      made : eqb (length xs) 0 ≡ false → ltb limit (length xs) ≡ false → data_onto limit xs old ≡ Some (old ++ xs)
      made a b = rw (a, b) refl

pub ke_appends : (group : ℕ) (xs : List ℕ) → AppendsAll (ke_onto group xs) (SpellsKe IsZero group xs)
unfolding ke_onto
ke_appends group xs old new e =
    with_some (number_onto 2 group old) (λ mid. data_onto 1024 xs (mid ++ 0 ∷ 0 ∷ [])) new e (λ mid e1 r1.
    let n = number_appends 2 group old mid e1 in
    let d = data_appends 1024 xs (mid ++ 0 ∷ 0 ∷ []) new r1 in
    let j = joins old (big_bytes 2 group) (0 ∷ 0 ∷ []) mid (mid ++ 0 ∷ 0 ∷ []) n.0 refl in
    record {
      added = (big_bytes 2 group ++ (0 ∷ 0 ∷ [])) ++ xs;
      appended = joins old (big_bytes 2 group ++ (0 ∷ 0 ∷ [])) xs (mid ++ 0 ∷ 0 ∷ []) new j d.0;
      spelled = record { reserved_1 = 0; reserved_2 = 0; free = (refl, refl); spelled = refl; group_fits = n.1; some = d.1; few = d.2 };
    })

pub ke_refuses : (group : ℕ) (xs : List ℕ) → Refuses (ke_onto group xs) (SpellsKe IsOctet group xs)
unfolding ke_onto
ke_refuses group xs old e x s = elim (bind_none (number_onto 2 group old) (λ mid. data_onto 1024 xs (mid ++ 0 ∷ 0 ∷ [])) e) [
  | inl none ↦ number_refused 2 group old none s.group_fits
  | inr mid ↦ data_refused 1024 xs (mid.0 ++ 0 ∷ 0 ∷ []) mid.2 s.some s.few
]

pub ke_same : (group : ℕ) (xs : List ℕ) → SameLength (SpellsKe IsZero group xs) (SpellsKe IsOctet group xs)
ke_same group xs x y s t = omega (arith, ap length s.spelled, ap length t.spelled)

pub typed_appends : (limit kind : ℕ) (xs : List ℕ) → AppendsAll (typed_onto limit kind xs) (SpellsTyped IsZero limit kind xs)
unfolding typed_onto
typed_appends limit kind xs old new e =
    let head : List ℕ = kind ∷ 0 ∷ 0 ∷ 0 ∷ [] in
    let d = data_appends limit xs (old ++ head) new e in
    record { added = head ++ xs; appended = joins old head xs (old ++ head) new refl d.0; spelled = record { reserved_1 = 0; reserved_2 = 0; reserved_3 = 0; free = (refl, refl, refl); spelled = refl; some = d.1; few = d.2 } }

pub typed_refuses : (limit kind : ℕ) (xs : List ℕ) → Refuses (typed_onto limit kind xs) (SpellsTyped IsOctet limit kind xs)
unfolding typed_onto
typed_refuses limit kind xs old e x s = data_refused limit xs (old ++ kind ∷ 0 ∷ 0 ∷ 0 ∷ []) e s.some s.few

pub typed_same : (limit kind : ℕ) (xs : List ℕ) → SameLength (SpellsTyped IsZero limit kind xs) (SpellsTyped IsOctet limit kind xs)
typed_same limit kind xs x y s t = omega (arith, ap length s.spelled, ap length t.spelled)

pub nonce_appends : (xs : List ℕ) → AppendsAll (nonce_onto xs) (SpellsNonce xs)
unfolding nonce_onto
nonce_appends xs old new e =
    with_test (leb 16 (length xs) && leb (length xs) 256) (Some (old ++ xs)) new e (λ good r.
    let g = both_true (leb 16 (length xs)) (leb (length xs) 256) good in
    record { added = xs; appended = sym (some_is (old ++ xs) new r); spelled = record { spelled = refl; some = leb-true _ _ g.0; few = leb-true _ _ g.1 } })

pub nonce_refuses : (xs : List ℕ) → Refuses (nonce_onto xs) (SpellsNonce xs)
unfolding nonce_onto
nonce_refuses xs old e x s = elim (test_none (leb 16 (length xs) && leb (length xs) 256) (Some (old ++ xs)) e) [
  | inl bad ↦ both_of (leb 16 (length xs)) (leb (length xs) 256) bad (le-leb _ _ s.some) (le-leb _ _ s.few)
  | inr good ↦ none_some good.1
]

-- ---- notifications and deletions

pub notify_appends : (protocol : ℕ) (spi : List ℕ) (kind : ℕ) (xs : List ℕ) → AppendsAll (notify_onto protocol spi kind xs) (SpellsNotify protocol spi kind xs)
unfolding notify_onto
notify_appends protocol spi kind xs old new e =
    let head : List ℕ = protocol ∷ length spi ∷ [] in
    with_test (ltb (length spi) 256) (number_onto 2 kind (old ++ head) >>= λ b. Some ((b ++ spi) ++ xs)) new e (λ good r.
    with_some (number_onto 2 kind (old ++ head)) (λ b. Some ((b ++ spi) ++ xs)) new r (λ b e1 r1.
    let n = number_appends 2 kind (old ++ head) b e1 in
    let j1 = joins old head (big_bytes 2 kind) (old ++ head) b refl n.0 in
    let j2 = joins old (head ++ big_bytes 2 kind) spi b (b ++ spi) j1 refl in
    record {
      added = ((head ++ big_bytes 2 kind) ++ spi) ++ xs;
      appended = joins old ((head ++ big_bytes 2 kind) ++ spi) xs (b ++ spi) new j2 (sym (some_is ((b ++ spi) ++ xs) new r1));
      spelled = record { spelled = refl; spi_fits = ltb-true _ _ good; kind_fits = n.1 };
    }))

pub notify_refuses : (protocol : ℕ) (spi : List ℕ) (kind : ℕ) (xs : List ℕ) → Refuses (notify_onto protocol spi kind xs) (SpellsNotify protocol spi kind xs)
unfolding notify_onto
notify_refuses protocol spi kind xs old e x s =
    let head : List ℕ = protocol ∷ length spi ∷ [] in
    elim (test_none (ltb (length spi) 256) (number_onto 2 kind (old ++ head) >>= λ b. Some ((b ++ spi) ++ xs)) e) [
      | inl bad ↦ absurd (omega (arith, ltb-false _ _ bad, s.spi_fits))
      | inr good ↦ elim (bind_none (number_onto 2 kind (old ++ head)) (λ b. Some ((b ++ spi) ++ xs)) good.1) [
        | inl none ↦ number_refused 2 kind (old ++ head) none s.kind_fits
        | inr b ↦ none_some b.2
      ]
    ]

pub notify_same : (protocol : ℕ) (spi : List ℕ) (kind : ℕ) (xs : List ℕ) → SameLength (SpellsNotify protocol spi kind xs) (SpellsNotify protocol spi kind xs)
notify_same protocol spi kind xs x y s t = ap length s.spelled ∙ sym (ap length t.spelled)

spi_appends : (spi : ℕ) → AppendsAll (number_onto 4 spi) (SpellsSpi spi)
spi_appends spi old new e = let n = number_appends 4 spi old new e in record { added = big_bytes 4 spi; appended = n.0; spelled = (refl, n.1) }

spi_refuses : (spi : ℕ) → Refuses (number_onto 4 spi) (SpellsSpi spi)
spi_refuses spi old e x s = number_refused 4 spi old e s.1

spi_same : (spi : ℕ) → SameLength (SpellsSpi spi) (SpellsSpi spi)
spi_same spi x y s t = ap length s.0 ∙ sym (ap length t.0)

false_true : false ≡ true → ⊥
false_true q = cc

true_false : true ≡ false → ⊥
true_false q = cc

size_has : (protocol : ℕ) (spis : List ℕ) (size : ℕ) → spi_size protocol (length spis) ≡ Some size → HasSpiSize protocol size spis
size_has protocol spis size e = elim (pick (eqb protocol 1) _ _ _ e) [
  | inl own ↦ with_test (eqb (length spis) 0) (Some 0) size own.1 (λ none r. inl (eqb-true _ _ own.0, sym (some_is 0 size r), nil_from_length spis (eqb-true _ _ none)))
  | inr other ↦ with_test ((eqb protocol 2) || (eqb protocol 3)) (Some 4) size other.1 (λ known r. inr (either known, sym (some_is 4 size r)))
] where
  either : ((eqb protocol 2) || (eqb protocol 3)) ≡ true → (protocol ≡ 2) ⊎ (protocol ≡ 3)
  either h = elim (pick_or (eqb protocol 2) (eqb protocol 3) h) [ inl a ↦ inl (eqb-true _ _ a) | inr b ↦ inr (eqb-true _ _ b) ] where
    pick_or : (a b : Bool) → (a || b) ≡ true → (a ≡ true) ⊎ (b ≡ true)
    pick_or true b q = inl refl
    pick_or false b q = inr q

size_none : (protocol : ℕ) (spis : List ℕ) (size : ℕ) → spi_size protocol (length spis) ≡ None → HasSpiSize protocol size spis → ⊥
size_none protocol spis size e (inl own) = none_some (sym (made own.0 own.2) ∙ e) where
  made : protocol ≡ 1 → spis ≡ [] → spi_size protocol (length spis) ≡ Some 0
  made p q = rw (p, q) refl
size_none protocol spis size e (inr (inl is, four)) = none_some (sym (made is) ∙ e) where
  made : protocol ≡ 2 → spi_size protocol (length spis) ≡ Some 4
  made p = rw p refl
size_none protocol spis size e (inr (inr is, four)) = none_some (sym (made is) ∙ e) where
  made : protocol ≡ 3 → spi_size protocol (length spis) ≡ Some 4
  made p = rw p refl

pub delete_appends : (protocol : ℕ) (spis : List ℕ) → AppendsAll (delete_onto protocol spis) (SpellsDelete protocol spis)
unfolding delete_onto
delete_appends protocol spis old new e =
    with_some (spi_size protocol (length spis)) (λ size. number_onto 2 (length spis) (old ++ protocol ∷ size ∷ []) >>= λ next. each_onto (number_onto 4) spis next) new e (λ size e1 r1.
    let head : List ℕ = protocol ∷ size ∷ [] in
    with_some (number_onto 2 (length spis) (old ++ head)) (λ next. each_onto (number_onto 4) spis next) new r1 (λ next e2 r2.
    let n = number_appends 2 (length spis) (old ++ head) next e2 in
    let c = each_appends (number_onto 4) SpellsSpi spi_appends spis next new r2 in
    let j = joins old head (big_bytes 2 (length spis)) (old ++ head) next refl n.0 in
    record {
      added = (head ++ big_bytes 2 (length spis)) ++ c.added;
      appended = joins old (head ++ big_bytes 2 (length spis)) c.added next new j c.appended;
      spelled = record { size = size; list = c.added; spelled = refl; count = n.1; sized = size_has protocol spis size e1; each = c.spelled };
    }))

pub delete_refuses : (protocol : ℕ) (spis : List ℕ) → Refuses (delete_onto protocol spis) (SpellsDelete protocol spis)
unfolding delete_onto
delete_refuses protocol spis old e x s = elim (bind_none (spi_size protocol (length spis)) (λ size. number_onto 2 (length spis) (old ++ protocol ∷ size ∷ []) >>= λ next. each_onto (number_onto 4) spis next) e) [
  | inl none ↦ size_none protocol spis s.size none s.sized
  | inr size ↦ elim (bind_none (number_onto 2 (length spis) (old ++ protocol ∷ size.0 ∷ [])) (λ next. each_onto (number_onto 4) spis next) size.2) [
    | inl none ↦ number_refused 2 (length spis) (old ++ protocol ∷ size.0 ∷ []) none s.count
    | inr next ↦ each_refuses (number_onto 4) SpellsSpi spi_refuses spis next.0 next.2 s.list s.each
  ]
]

pub delete_same : (protocol : ℕ) (spis : List ℕ) → SameLength (SpellsDelete protocol spis) (SpellsDelete protocol spis)
delete_same protocol spis x y s t = omega (arith, ap length s.spelled, ap length t.spelled, each_same SpellsSpi SpellsSpi spi_same spis s.list t.list s.each t.each)
