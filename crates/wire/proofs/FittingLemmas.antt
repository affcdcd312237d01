-- What octets spell has what its fields allow, from attributes up to a chain of payloads.
use Rattle.std.proofs.Common.{ℕ, ◌+◌, ◌^◌, ◌<◌, ◌≤◌, List, [], ◌∷◌, ◌++◌, length, refl, subst, inl, inr, arith}
use Rattle.std.specs.List.{AllByRecursion}
use Rattle.byteorder.specs.Endian.{big_bytes}
use Rattle.base.specs.Octets.{IsOctet, AreOctets}
use Rattle.base.specs.declared.selector.Selector.{Selector}
use Rattle.wire.specs.Parts.{IsPart, IsMarked, SpellsEach, SpellsMarked}
use Rattle.wire.specs.Proposals.{SpellsAttribute, SpellsTransform, SpellsProposal}
use Rattle.wire.specs.Selectors.{SpellsSelector, SpellsSelectors}
use Rattle.wire.specs.Fields.{SpellsTyped, SpellsSpi, HasSpiSize}
use Rattle.wire.specs.Payloads.{IsClear, SpellsBody, SpellsPayloads, SpellsChain, HasHeader, following}
use Rattle.wire.specs.Sizes.{FitsAttribute, FitsTransform, FitsProposal, FitsSelector, FitsSelectors, FitsData, NamesSpis, FitsFields}
use Rattle.wire.specs.declared.payload.Payload.{Payload}
use Rattle.wire.specs.declared.payload.Payload.TheVariants.{Sa, Ke, IdI, IdR, Auth, Nonce, Notify, Delete, TsI, TsR, Sealed, Skipped, Unknown}
use Rattle.wire.specs.declared.proposal.Proposal.{Proposal}
use Rattle.wire.specs.declared.proposal.Transform.{Transform}
use Rattle.wire.specs.declared.proposal.Attribute.{Attribute}
use Rattle.wire.specs.declared.proposal.Attribute.TheVariants.{Short, Long}
use Rattle.base.proofs.OctetLemmas.{octets_front, octets_back}

-- one item after the other
each_fits : {A : Type 0} (Fits : A → Type 0) (Spelled : A → List ℕ → Type 0) → ((a : A) (x : List ℕ) → AreOctets x → Spelled a x → Fits a)
    → (found : List A) (x : List ℕ) → AreOctets x → SpellsEach Spelled found x → AllByRecursion Fits found
each_fits Fits Spelled one [] x octets s = tt
each_fits Fits Spelled one (a ∷ found) x octets s =
    let both = subst AreOctets s.joined octets in
    (one a s.front (octets_front s.front s.rest both) s.first, each_fits Fits Spelled one found s.rest (octets_back s.front s.rest both) s.others)

-- what a part heads
inside_octets : (first second : ℕ) (inside x : List ℕ) → IsPart first second inside x → AreOctets x → AreOctets inside
inside_octets first second inside x part octets = octets_back (big_bytes 2 (4 + length inside)) inside (subst AreOctets part.spelled octets).1.1

marked_fits : (Fits : Type 0) (mark : ℕ) (Inside : List ℕ → Type 0) → ((x : List ℕ) → AreOctets x → Inside x → Fits) → (x : List ℕ) → AreOctets x → IsMarked IsOctet mark Inside x → Fits
marked_fits Fits mark Inside one x octets m = one m.inside (inside_octets mark m.reserved m.inside x m.part octets) m.content

all_marked_fit : {A : Type 0} (Fits : A → Type 0) (Spelled : A → List ℕ → Type 0) (more : ℕ) → ((a : A) (x : List ℕ) → AreOctets x → Spelled a x → Fits a)
    → (found : List A) (x : List ℕ) → AreOctets x → SpellsMarked IsOctet more Spelled found x → AllByRecursion Fits found
all_marked_fit Fits Spelled more one [] x octets s = tt
all_marked_fit Fits Spelled more one (a ∷ []) x octets s = (marked_fits (Fits a) 0 (Spelled a) (one a) x octets s, tt)
all_marked_fit Fits Spelled more one (a ∷ b ∷ found) x octets s =
    let both = subst AreOctets s.joined octets in (
      marked_fits (Fits a) more (Spelled a) (one a) s.front (octets_front s.front s.rest both) s.first,
      all_marked_fit Fits Spelled more one (b ∷ found) s.rest (octets_back s.front s.rest both) s.others,
    )

some_marked : {A : Type 0} (Spelled : A → List ℕ → Type 0) (more : ℕ) (found : List A) (x : List ℕ) → SpellsMarked IsOctet more Spelled found x → 1 ≤ length found
some_marked Spelled more [] x s = absurd s
some_marked Spelled more (a ∷ found) x s = omega arith

attribute_fits : (a : Attribute) (x : List ℕ) → AreOctets x → SpellsAttribute a x → FitsAttribute a
attribute_fits (Short kind value) x octets s = (s.1, s.2)
attribute_fits (Long kind value) x octets s =
    let behind = octets_back (big_bytes 2 kind) (big_bytes 2 (length value) ++ value) (subst AreOctets s.0 octets) in
    (s.1, s.2, octets_back (big_bytes 2 (length value)) value behind)

transform_fits : (t : Transform) (x : List ℕ) → AreOctets x → SpellsTransform IsOctet t x → FitsTransform t
transform_fits t x octets s =
    let whole = subst AreOctets s.spelled octets in
    record {
      kind = whole.0;
      id = s.id;
      attributes = each_fits FitsAttribute SpellsAttribute attribute_fits t.attributes s.attributes (octets_back (big_bytes 2 t.id) s.attributes whole.1.1) s.each;
    }

proposal_fits : (p : Proposal) (x : List ℕ) → AreOctets x → SpellsProposal IsOctet p x → FitsProposal p
proposal_fits p x octets s =
    let whole = subst AreOctets s.spelled octets in
    let behind : AreOctets (p.spi ++ s.transforms) = whole.1.1.1.1 in
    record {
      number = whole.0;
      protocol = whole.1.0;
      spi = octets_front p.spi s.transforms behind;
      short = s.spi;
      some = some_marked (SpellsTransform IsOctet) 3 p.transforms s.transforms s.each;
      few = s.count;
      transforms = all_marked_fit FitsTransform (SpellsTransform IsOctet) 3 transform_fits p.transforms s.transforms (octets_back p.spi s.transforms behind) s.each;
    }

selector_fits : (s : Selector) (x : List ℕ) → AreOctets x → SpellsSelector s x → FitsSelector s
selector_fits s x octets spelled = record {
  protocol = (subst AreOctets spelled.part.spelled octets).1.0;
  ports = spelled.ports;
  port = spelled.port;
  addresses = spelled.addresses;
  fits = spelled.fits;
}

selectors_fit : (found : List Selector) (x : List ℕ) → AreOctets x → SpellsSelectors IsOctet found x → FitsSelectors found
selectors_fit found x octets s = record {
  some = s.some;
  few = s.few;
  each = each_fits FitsSelector SpellsSelector selector_fits found s.selectors (subst AreOctets s.spelled octets).1.1.1.1 s.each;
}

spi_fits : (spi : ℕ) (x : List ℕ) → AreOctets x → SpellsSpi spi x → spi < 2 ^ 32
spi_fits spi x octets s = s.1

names_spis : (protocol size : ℕ) (spis : List ℕ) → HasSpiSize protocol size spis → NamesSpis protocol spis
names_spis protocol size spis (inl s) = inl (s.0, s.2)
names_spis protocol size spis (inr s) = inr s.0

typed_fits : (limit kind : ℕ) (octets x : List ℕ) → AreOctets x → SpellsTyped IsOctet limit kind octets x → (kind < 256) × FitsData 1 limit octets
typed_fits limit kind octets x are s =
    let whole = subst AreOctets s.spelled are in
    (whole.0, record { some = s.some; few = s.few; fits = whole.1.1.1.1 })

-- the payload, whose type is that of an encrypted one only if it is one
fields_fit : (p : Payload) (next second : ℕ) (x : List ℕ) → IsClear p → AreOctets x → HasHeader IsOctet p next second → SpellsBody IsOctet p x → FitsFields p
fields_fit (Sa proposals) next second x clear octets header s = (s.numbered, all_marked_fit FitsProposal (SpellsProposal IsOctet) 2 proposal_fits proposals x octets s.each)
fields_fit (Ke group value) next second x clear octets header s =
    let whole = octets_back (big_bytes 2 group) (s.reserved_1 ∷ s.reserved_2 ∷ value) (subst AreOctets s.spelled octets) in
    (s.group_fits, record { some = s.some; few = s.few; fits = whole.1.1 })
fields_fit (IdI kind value) next second x clear octets header s = typed_fits 256 kind value x octets s
fields_fit (IdR kind value) next second x clear octets header s = typed_fits 256 kind value x octets s
fields_fit (Auth method value) next second x clear octets header s = typed_fits 1024 method value x octets s
fields_fit (Nonce value) next second x clear octets header s = record { some = s.some; few = s.few; fits = subst AreOctets s.spelled octets }
fields_fit (Notify protocol spi kind value) next second x clear octets header s =
    let whole = subst AreOctets s.spelled octets in
    let behind = octets_back (big_bytes 2 kind) (spi ++ value) whole.1.1 in
    record {
      protocol_fits = whole.0;
      kind_fits = s.kind_fits;
      spi_fits = record { some = omega arith; few = omega (arith, s.spi_fits); fits = octets_front spi value behind };
      octets_fit = octets_back spi value behind;
    }
fields_fit (Delete protocol spis) next second x clear octets header s =
    let whole = subst AreOctets s.spelled octets in
    (names_spis protocol s.size spis s.sized, each_fits (λ spi. spi < 2 ^ 32) SpellsSpi spi_fits spis s.list (octets_back (big_bytes 2 (length spis)) s.list whole.1.1) s.each)
fields_fit (TsI selectors) next second x clear octets header s = selectors_fit selectors x octets s
fields_fit (TsR selectors) next second x clear octets header s = selectors_fit selectors x octets s
fields_fit (Sealed first body) next second x clear octets header s = absurd (clear refl)
fields_fit (Skipped kind value) next second x clear octets header s = subst AreOctets s octets
fields_fit (Unknown kind critical value) next second x clear octets header s = (header.0, subst AreOctets s octets)

payloads_fit : (first : ℕ) (ps : List Payload) (x : List ℕ) → AllByRecursion IsClear ps → AreOctets x → SpellsPayloads IsOctet first ps x → AllByRecursion FitsFields ps
payloads_fit first [] x clear octets s = tt
payloads_fit first (p ∷ ps) x clear octets s =
    let j = s.2 in
    let both = subst AreOctets j.joined octets in
    let front = octets_front j.front j.rest both in (
      fields_fit p s.1 j.first.second j.first.body clear.0 (inside_octets s.1 j.first.second j.first.body j.front j.first.part front) j.first.header j.first.inside,
      payloads_fit (following p s.1) ps j.rest clear.1 (octets_back j.front j.rest both) j.others,
    )

pub chain_fits : (first : ℕ) (ps : List Payload) (b : List ℕ) → SpellsChain first ps b → AllByRecursion FitsFields ps
chain_fits first ps b s = payloads_fit first ps b s.clear s.octets s.payloads
