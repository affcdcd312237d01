-- What a call leaves of a table is determined by its arguments and by what was there, but for room.
use Rattle.std.proofs.Common.{◌≡◌, ◌+◌, ℕ, Option, Some, None, sym, ap, ◌∙◌, refl}
use Rattle.std.specs.Cmp.{nat_cmp_total}
use Rattle.std.specs.FinMap as map
use Rattle.std.specs.FinSet as set
use Rattle.sadb.specs.Contents.{table_content}
use Rattle.sadb.specs.Database.{Database, Installs, IsAsBefore, PairMap, pair_at, Releases, RemovesAllOf, Reserves}
use Rattle.sadb.specs.declared.pair.Pair.{Pair}

same_option : {X : Type 0} (o p : Option X) → ((x : X) → o ≡ Some x → p ≡ Some x) → ((x : X) → p ≡ Some x → o ≡ Some x) → o ≡ p
same_option None None there back = refl
same_option None (Some x) there back = back x refl
same_option (Some x) p there back = sym (there x refl)

same_pairs : (m n : PairMap) → ((serial : ℕ) → pair_at m serial ≡ pair_at n serial) → m ≡ n
same_pairs m n is = map.same_map nat_cmp_total map.nat_cmp-IsAntisymmetric m n is

pub same_after_preparing : (old new : Database) → IsAsBefore old new → table_content new ≡ table_content old
same_after_preparing old new is = ap table_content is.content

module _ (old other a b : Database) (same : table_content old ≡ table_content other) where
  pub same_after_reserving : (spi mark : ℕ) → Reserves old spi a → Reserves other mark b → (spi ≡ mark) × (table_content a ≡ table_content b)
  same_after_reserving spi mark one two =
      let spis : spi ≡ mark = one.in_order ∙ ap (λ (d : Database). d.start + d.given) same ∙ sym two.in_order in (
        spis,
        ap table_content one.content
            ∙ ap (λ (d : Database). record d { given = d.given + 1; reserved = set.insert d.reserved spi; room = 0 }) same
            ∙ ap (λ (s : ℕ). record other { given = other.given + 1; reserved = set.insert other.reserved s; room = 0 }) spis
            ∙ sym (ap table_content two.content),
      )

  pub same_after_releasing : (spi : ℕ) → Releases old spi a → Releases other spi b → table_content a ≡ table_content b
  same_after_releasing spi one two =
      ap table_content one.content
      ∙ ap (λ (d : Database). record d { reserved = set.remove d.reserved spi; room = 0 }) same
      ∙ sym (ap table_content two.content)

  pub same_after_installing : (spi mark : ℕ) (pair : Pair) (serial number : ℕ) → Installs old spi pair serial a → Installs other mark pair number b → (serial ≡ number) × (table_content a ≡ table_content b)
  same_after_installing spi mark pair serial number one two =
      let spis : spi ≡ mark = sym one.its_own ∙ two.its_own in
      let serials : serial ≡ number = one.in_order ∙ ap (λ (d : Database). d.next) same ∙ sym two.in_order in (
        serials,
        ap table_content one.content
            ∙ ap (λ (d : Database). record d { reserved = set.remove d.reserved spi; next = d.next + 1; pairs = map.insert d.pairs serial (record pair { serial = serial }); room = 0 }) same
            ∙ ap (λ (s : ℕ). record other { reserved = set.remove other.reserved s; next = other.next + 1; pairs = map.insert other.pairs serial (record pair { serial = serial }); room = 0 }) spis
            ∙ ap (λ (n : ℕ). record other { reserved = set.remove other.reserved mark; next = other.next + 1; pairs = map.insert other.pairs n (record pair { serial = n }); room = 0 }) serials
            ∙ sym (ap table_content two.content),
      )

kept_by_both : (old other a b : Database) (ike serial : ℕ) (pair : Pair) → table_content old ≡ table_content other → RemovesAllOf old ike a → RemovesAllOf other ike b → pair_at a.pairs serial ≡ Some pair → pair_at b.pairs serial ≡ Some pair
kept_by_both old other a b ike serial pair same one two is =
    let was = (one.kept serial pair).0 is in
    (two.kept serial pair).1 (ap (λ (d : Database). pair_at d.pairs serial) (sym same) ∙ was.0, was.1)

pub same_after_emptying : (old other a b : Database) (ike : ℕ) → table_content old ≡ table_content other → RemovesAllOf old ike a → RemovesAllOf other ike b → table_content a ≡ table_content b
same_after_emptying old other a b ike same one two =
    let pairs : a.pairs ≡ b.pairs = same_pairs a.pairs b.pairs (λ serial. same_option (pair_at a.pairs serial) (pair_at b.pairs serial)
    (λ pair is. kept_by_both old other a b ike serial pair same one two is)
    (λ pair is. kept_by_both other old b a ike serial pair (sym same) two one is)) in
    ap table_content one.content
    ∙ ap (λ (d : Database). record d { pairs = a.pairs; room = 0 }) same
    ∙ ap (λ (m : PairMap). record other { pairs = m; room = 0 }) pairs
    ∙ sym (ap table_content two.content)
