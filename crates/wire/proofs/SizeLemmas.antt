-- What fits its fields has a spelling of a known length, from attributes up to messages.
use Rattle.std.proofs.Common.{◌≡◌, ℕ, ◌+◌, ◌*◌, ◌^◌, ◌<◌, ◌≤◌, Bool, true, false, cond, List, [], ◌∷◌, ◌++◌, length, drop, refl, sym, ap, subst, ◌∙◌, inl, inr, arith}
use Rattle.std.specs.List.{AllByRecursion, sum_by}
use Rattle.std.proofs.lemmas.List.{length-append}
use Rattle.std.proofs.lemmas.List.Sums.{sum_by-cons}
use Rattle.byteorder.specs.Endian.{big_bytes}
use Rattle.base.specs.Octets.{AreOctets}
use Rattle.base.specs.declared.address.Range.{Range}
use Rattle.base.specs.declared.address.Range.TheVariants as range
use Rattle.base.specs.declared.selector.Selector.{Selector}
use Rattle.wire.specs.Parts.{IsZero, IsPart, IsMarked, Joins, SpellsEach, SpellsMarked}
use Rattle.wire.specs.Proposals.{SpellsAttribute, SpellsTransform, SpellsProposal, SpellsProposals, AreNumbered}
use Rattle.wire.specs.Selectors.{SpellsSelector, SpellsSelectors, selector_type, ends_octets}
use Rattle.wire.specs.Fields.{SpellsKe, SpellsTyped, SpellsNotify, SpellsDelete, SpellsSpi, HasSpiSize}
use Rattle.wire.specs.Payloads.{SpellsPayloads, SpellsPayload, SpellsBody, HasHeader, HasCriticalBit, IsUnknownType, type_of, type_of_skipped, following}
use Rattle.wire.specs.Messages.{SpellsHeader, SpellsWith, bit}
use Rattle.wire.specs.Writing.{flags_octet, first_type}
use Rattle.wire.specs.declared.message.Message.{Message}
use Rattle.wire.specs.declared.message.Header.{Header}
use Rattle.wire.specs.declared.payload.Payload.{Payload}
use Rattle.wire.specs.declared.payload.Payload.TheVariants.{Sa, Ke, IdI, IdR, Auth, Nonce, Notify, Delete, TsI, TsR, Sealed, Skipped, Unknown}
use Rattle.wire.specs.declared.payload.SkippedKind.{SkippedKind}
use Rattle.wire.specs.declared.payload.SkippedKind.TheVariants as skipped
use Rattle.wire.specs.declared.proposal.Proposal.{Proposal}
use Rattle.wire.specs.declared.proposal.Transform.{Transform}
use Rattle.wire.specs.declared.proposal.Attribute.{Attribute}
use Rattle.wire.specs.declared.proposal.Attribute.TheVariants.{Short, Long}
use Rattle.wire.specs.Sizes.{attribute_size, transform_size, proposal_size, range_size, selector_size, body_size, size_of, FitsAttribute, FitsTransform, FitsProposal, FitsSelector, FitsData, FitsSelectors, FitsNotify, NamesSpis, FitsFields, FitsHeaderFields, HasSpelling, usize_of}
use Rattle.wire.proofs.Takes.{number_octets}
use Rattle.wire.proofs.Written.{part_length, past_all}

-- octets that spell something, and how many they are
pub record Made (Spelled : List ℕ → Type 0) (size : ℕ) : Type 0 where
  pub octets : List ℕ
  pub spelled : Spelled octets
  pub long : length octets ≡ size
  pub fits : AreOctets octets

octets_append : (a b : List ℕ) → AreOctets a → AreOctets b → AreOctets (a ++ b)
octets_append [] b fits more = more
octets_append (x ∷ a) b fits more = (fits.0, octets_append a b fits.1 more)

octets_2 : (n : ℕ) → AreOctets (big_bytes 2 n)
octets_2 n = number_octets 2 n

octets_4 : (n : ℕ) → AreOctets (big_bytes 4 n)
octets_4 n = number_octets 4 n

octets_16 : (n : ℕ) → AreOctets (big_bytes 16 n)
octets_16 n = number_octets 16 n

-- ---- parts, and what stands in a row

part_made : (first second : ℕ) (inside : List ℕ) → first < 256 → second < 256 → AreOctets inside → 4 + length inside < 2 ^ 16 → Made (IsPart first second inside) (4 + length inside)
part_made first second inside one two fits short = record {
  octets = first ∷ second ∷ big_bytes 2 (4 + length inside) ++ inside;
  spelled = record { spelled = refl; fits = short };
  long = omega arith;
  fits = (one, (two, octets_append (big_bytes 2 (4 + length inside)) inside (octets_2 (4 + length inside)) fits));
}

marked_made : (Spelled : List ℕ → Type 0) (mark size : ℕ) → mark < 256 → size ≤ 2972 → Made Spelled size → Made (IsMarked IsZero mark Spelled) (4 + size)
marked_made Spelled mark size low short inner =
    let long = inner.long in
    let part = part_made mark 0 inner.octets low (omega arith) inner.fits (omega arith) in
    record {
      octets = part.octets;
      spelled = record { reserved = 0; inside = inner.octets; free = refl; part = part.spelled; content = inner.spelled };
      long = omega (arith, part.long, long);
      fits = part.fits;
    }

joined_made : (Front Rest : List ℕ → Type 0) (m n : ℕ) → Made Front m → Made Rest n → Made (Joins Front Rest) (m + n)
joined_made Front Rest m n one other = record {
  octets = one.octets ++ other.octets;
  spelled = record { front = one.octets; rest = other.octets; joined = refl; first = one.spelled; others = other.spelled };
  long = omega (arith, length-append one.octets other.octets, one.long, other.long);
  fits = octets_append one.octets other.octets one.fits other.fits;
}

resized : (Spelled : List ℕ → Type 0) (m n : ℕ) → m ≡ n → Made Spelled m → Made Spelled n
resized Spelled m n same made = record { octets = made.octets; spelled = made.spelled; long = made.long ∙ same; fits = made.fits }

each_made : {A : Type 0} (Fits : A → Type 0) (Spelled : A → List ℕ → Type 0) (size : A → ℕ) → ((a : A) → Fits a → size a ≤ 2972 → Made (Spelled a) (size a))
    → (found : List A) → AllByRecursion Fits found → sum_by size found ≤ 2972 → Made (SpellsEach Spelled found) (sum_by size found)
each_made Fits Spelled size one [] fits short = record { octets = []; spelled = refl; long = refl; fits = tt }
each_made Fits Spelled size one (a ∷ found) fits short =
    let sum = sum_by-cons size a found in
    resized (SpellsEach Spelled (a ∷ found)) (size a + sum_by size found) (sum_by size (a ∷ found)) (sym sum)
    (joined_made (Spelled a) (SpellsEach Spelled found) (size a) (sum_by size found)
    (one a fits.0 (omega arith))
    (each_made Fits Spelled size one found fits.1 (omega arith)))

all_marked : {A : Type 0} (Fits : A → Type 0) (Spelled : A → List ℕ → Type 0) (size : A → ℕ) (more : ℕ) → more < 256
    → ((mark : ℕ) → mark < 256 → (a : A) → Fits a → size a ≤ 2972 → Made (IsMarked IsZero mark (Spelled a)) (size a))
    → (found : List A) → 1 ≤ length found → AllByRecursion Fits found → sum_by size found ≤ 2972 → Made (SpellsMarked IsZero more Spelled found) (sum_by size found)
all_marked Fits Spelled size more low one [] some fits short = absurd (omega arith)
all_marked Fits Spelled size more low one (a ∷ []) some fits short =
    let sum : sum_by size (a ∷ []) ≡ size a + 0 = sum_by-cons size a [] in
    resized (IsMarked IsZero 0 (Spelled a)) (size a) (sum_by size (a ∷ [])) (omega arith) (one 0 (omega arith) a fits.0 (omega arith))
all_marked Fits Spelled size more low one (a ∷ b ∷ found) some fits short =
    let sum = sum_by-cons size a (b ∷ found) in
    resized (SpellsMarked IsZero more Spelled (a ∷ b ∷ found)) (size a + sum_by size (b ∷ found)) (sum_by size (a ∷ b ∷ found)) (sym sum)
    (joined_made (IsMarked IsZero more (Spelled a)) (SpellsMarked IsZero more Spelled (b ∷ found)) (size a) (sum_by size (b ∷ found))
    (one more low a fits.0 (omega arith))
    (all_marked Fits Spelled size more low one (b ∷ found) (omega arith) fits.1 (omega arith)))

-- ---- security associations

attribute_made : (a : Attribute) → FitsAttribute a → attribute_size a ≤ 2972 → Made (SpellsAttribute a) (attribute_size a)
attribute_made (Short kind value) fits short = record {
  octets = big_bytes 2 (2 ^ 15 + kind) ++ big_bytes 2 value;
  spelled = (refl, fits.0, fits.1);
  long = refl;
  fits = octets_append (big_bytes 2 (2 ^ 15 + kind)) (big_bytes 2 value) (octets_2 (2 ^ 15 + kind)) (octets_2 value);
}
attribute_made (Long kind value) fits short = record {
  octets = big_bytes 2 kind ++ big_bytes 2 (length value) ++ value;
  spelled = (refl, fits.0, fits.1);
  long = omega arith;
  fits = octets_append (big_bytes 2 kind) (big_bytes 2 (length value) ++ value) (octets_2 kind) (octets_append (big_bytes 2 (length value)) value (octets_2 (length value)) fits.2);
}

transform_made : (t : Transform) → FitsTransform t → transform_size t ≤ 2972 → Made (SpellsTransform IsZero t) (4 + sum_by attribute_size t.attributes)
transform_made t fits short =
    let each = each_made FitsAttribute SpellsAttribute attribute_size attribute_made t.attributes fits.attributes (omega arith) in
    record {
      octets = t.kind ∷ 0 ∷ big_bytes 2 t.id ++ each.octets;
      spelled = record { reserved = 0; attributes = each.octets; free = refl; spelled = refl; id = fits.id; each = each.spelled };
      long = omega (arith, each.long);
      fits = (fits.kind, (omega arith, octets_append (big_bytes 2 t.id) each.octets (octets_2 t.id) each.fits));
    }

marked_transform : (mark : ℕ) → mark < 256 → (t : Transform) → FitsTransform t → transform_size t ≤ 2972 → Made (IsMarked IsZero mark (SpellsTransform IsZero t)) (transform_size t)
marked_transform mark low t fits short =
    resized (IsMarked IsZero mark (SpellsTransform IsZero t)) (4 + (4 + sum_by attribute_size t.attributes)) (transform_size t) (omega arith)
    (marked_made (SpellsTransform IsZero t) mark (4 + sum_by attribute_size t.attributes) low (omega arith) (transform_made t fits short))

proposal_made : (p : Proposal) → FitsProposal p → proposal_size p ≤ 2972 → Made (SpellsProposal IsZero p) (4 + (length p.spi + sum_by transform_size p.transforms))
proposal_made p fits short =
    let each = all_marked FitsTransform (SpellsTransform IsZero) transform_size 3 (omega arith) marked_transform p.transforms fits.some fits.transforms (omega arith) in
    record {
      octets = p.number ∷ p.protocol ∷ length p.spi ∷ length p.transforms ∷ p.spi ++ each.octets;
      spelled = record { transforms = each.octets; spelled = refl; spi = fits.short; count = fits.few; each = each.spelled };
      long = omega (arith, each.long, length-append p.spi each.octets);
      fits = (fits.number, (fits.protocol, (fits.short, (fits.few, octets_append p.spi each.octets fits.spi each.fits))));
    }

marked_proposal : (mark : ℕ) → mark < 256 → (p : Proposal) → FitsProposal p → proposal_size p ≤ 2972 → Made (IsMarked IsZero mark (SpellsProposal IsZero p)) (proposal_size p)
marked_proposal mark low p fits short =
    resized (IsMarked IsZero mark (SpellsProposal IsZero p)) (4 + (4 + (length p.spi + sum_by transform_size p.transforms))) (proposal_size p) (omega arith)
    (marked_made (SpellsProposal IsZero p) mark (4 + (length p.spi + sum_by transform_size p.transforms)) low (omega arith) (proposal_made p fits short))

numbered_some : (ps : List Proposal) → AreNumbered ps → 1 ≤ length ps
numbered_some [] numbered = absurd numbered
numbered_some (p ∷ ps) numbered = omega arith

proposals_made : (ps : List Proposal) → AreNumbered ps → AllByRecursion FitsProposal ps → sum_by proposal_size ps ≤ 2972 → Made (SpellsProposals IsZero ps) (sum_by proposal_size ps)
proposals_made ps numbered fits short =
    let each = all_marked FitsProposal (SpellsProposal IsZero) proposal_size 2 (omega arith) marked_proposal ps (numbered_some ps numbered) fits short in
    record { octets = each.octets; spelled = record { each = each.spelled; numbered = numbered }; long = each.long; fits = each.fits }

-- ---- traffic selectors

ends_fit : (r : Range) → AreOctets (ends_octets r)
ends_fit (range.V4 start end) = octets_append (big_bytes 4 start) (big_bytes 4 end) (octets_4 start) (octets_4 end)
ends_fit (range.V6 start end) = octets_append (big_bytes 16 start) (big_bytes 16 end) (octets_16 start) (octets_16 end)

ends_long : (r : Range) → length (ends_octets r) ≡ range_size r
ends_long (range.V4 start end) = refl
ends_long (range.V6 start end) = refl

type_low : (r : Range) → selector_type r < 256
type_low (range.V4 start end) = omega arith
type_low (range.V6 start end) = omega arith

range_low : (r : Range) → range_size r ≤ 32
range_low (range.V4 start end) = omega arith
range_low (range.V6 start end) = omega arith

selector_made : (s : Selector) → FitsSelector s → selector_size s ≤ 2972 → Made (SpellsSelector s) (selector_size s)
selector_made s fits short =
    let ends : List ℕ = ends_octets s.addresses in
    let inside : List ℕ = big_bytes 2 s.start_port ++ big_bytes 2 s.end_port ++ ends in
    let long : length inside ≡ 4 + range_size s.addresses = omega (arith, ends_long s.addresses) in
    let octets : AreOctets inside = octets_append (big_bytes 2 s.start_port) (big_bytes 2 s.end_port ++ ends) (octets_2 s.start_port) (octets_append (big_bytes 2 s.end_port) ends (octets_2 s.end_port) (ends_fit s.addresses)) in
    let part = part_made (selector_type s.addresses) s.protocol inside (type_low s.addresses) fits.protocol octets (omega (arith, long, range_low s.addresses)) in
    record {
      octets = part.octets;
      spelled = record { part = part.spelled; ports = fits.ports; port = fits.port; addresses = fits.addresses; fits = fits.fits };
      long = omega (arith, part.long, long);
      fits = part.fits;
    }

selectors_made : (ss : List Selector) → FitsSelectors ss → 4 + sum_by selector_size ss ≤ 2972 → Made (SpellsSelectors IsZero ss) (4 + sum_by selector_size ss)
selectors_made ss fits short =
    let each = each_made FitsSelector SpellsSelector selector_size selector_made ss fits.each (omega arith) in
    record {
      octets = length ss ∷ 0 ∷ 0 ∷ 0 ∷ each.octets;
      spelled = record { reserved_1 = 0; reserved_2 = 0; reserved_3 = 0; free = (refl, refl, refl); selectors = each.octets; spelled = refl; some = fits.some; few = fits.few; each = each.spelled };
      long = omega (arith, each.long);
      fits = (omega (arith, fits.few), (omega arith, (omega arith, (omega arith, each.fits))));
    }

-- ---- the other payloads

ke_made : (group : ℕ) (octets : List ℕ) → group < 2 ^ 16 → FitsData 1 1024 octets → Made (SpellsKe IsZero group octets) (4 + length octets)
ke_made group octets low fits = record {
  octets = big_bytes 2 group ++ (0 ∷ 0 ∷ octets);
  spelled = record { reserved_1 = 0; reserved_2 = 0; free = (refl, refl); spelled = refl; group_fits = low; some = fits.some; few = fits.few };
  long = omega arith;
  fits = octets_append (big_bytes 2 group) (0 ∷ 0 ∷ octets) (octets_2 group) (omega arith, (omega arith, fits.fits));
}

typed_made : (most kind : ℕ) (octets : List ℕ) → kind < 256 → FitsData 1 most octets → Made (SpellsTyped IsZero most kind octets) (4 + length octets)
typed_made most kind octets low fits = record {
  octets = kind ∷ 0 ∷ 0 ∷ 0 ∷ octets;
  spelled = record { reserved_1 = 0; reserved_2 = 0; reserved_3 = 0; free = (refl, refl, refl); spelled = refl; some = fits.some; few = fits.few };
  long = omega arith;
  fits = (low, (omega arith, (omega arith, (omega arith, fits.fits))));
}

notify_made : (protocol : ℕ) (spi : List ℕ) (kind : ℕ) (octets : List ℕ) → FitsNotify protocol spi kind octets → Made (SpellsNotify protocol spi kind octets) (4 + (length spi + length octets))
notify_made protocol spi kind octets fits =
    let small : length spi < 256 = omega (arith, fits.spi_fits.few) in
    record {
      octets = protocol ∷ length spi ∷ big_bytes 2 kind ++ spi ++ octets;
      spelled = record { spelled = refl; spi_fits = small; kind_fits = fits.kind_fits };
      long = omega (arith, length-append spi octets);
      fits = (fits.protocol_fits, (small, octets_append (big_bytes 2 kind) (spi ++ octets) (octets_2 kind) (octets_append spi octets fits.spi_fits.fits fits.octets_fit)));
    }

each_spi : (spis : List ℕ) → AllByRecursion (λ (spi : ℕ). spi < 2 ^ 32) spis → Made (SpellsEach SpellsSpi spis) (4 * length spis)
each_spi [] fits = record { octets = []; spelled = refl; long = refl; fits = tt }
each_spi (s ∷ spis) fits =
    resized (SpellsEach SpellsSpi (s ∷ spis)) (4 + 4 * length spis) (4 * length (s ∷ spis)) (omega arith)
    (joined_made (SpellsSpi s) (SpellsEach SpellsSpi spis) 4 (4 * length spis) (record { octets = big_bytes 4 s; spelled = (refl, fits.0); long = refl; fits = octets_4 s }) (each_spi spis fits.1))

-- the size of each SPI that is named
record Sized (protocol : ℕ) (spis : List ℕ) : Type 0 where
  size : ℕ
  low : size < 256
  protocol_low : protocol < 256
  sized : HasSpiSize protocol size spis

spi_size : (protocol : ℕ) (spis : List ℕ) → NamesSpis protocol spis → Sized protocol spis
spi_size protocol spis (inl none) = record { size = 0; low = omega arith; protocol_low = omega (arith, none.0); sized = inl (none.0, refl, none.1) }
spi_size protocol spis (inr (inl two)) = record { size = 4; low = omega arith; protocol_low = omega (arith, two); sized = inr (inl two, refl) }
spi_size protocol spis (inr (inr three)) = record { size = 4; low = omega arith; protocol_low = omega (arith, three); sized = inr (inr three, refl) }

delete_made : (protocol : ℕ) (spis : List ℕ) → NamesSpis protocol spis → AllByRecursion (λ (spi : ℕ). spi < 2 ^ 32) spis → 4 + 4 * length spis ≤ 2972 → Made (SpellsDelete protocol spis) (4 + 4 * length spis)
delete_made protocol spis names fits short =
    let each = each_spi spis fits in
    let size = spi_size protocol spis names in
    record {
      octets = protocol ∷ size.size ∷ big_bytes 2 (length spis) ++ each.octets;
      spelled = record { size = size.size; list = each.octets; spelled = refl; count = omega arith; sized = size.sized; each = each.spelled };
      long = omega (arith, each.long);
      fits = (size.protocol_low, (size.low, octets_append (big_bytes 2 (length spis)) each.octets (octets_2 (length spis)) each.fits));
    }

body_made : (p : Payload) → FitsFields p → body_size p ≤ 2972 → Made (SpellsBody IsZero p) (body_size p)
body_made (Sa proposals) fits short = proposals_made proposals fits.0 fits.1 short
body_made (Ke group octets) fits short = ke_made group octets fits.0 fits.1
body_made (IdI kind octets) fits short = typed_made 256 kind octets fits.0 fits.1
body_made (IdR kind octets) fits short = typed_made 256 kind octets fits.0 fits.1
body_made (Auth method octets) fits short = typed_made 1024 method octets fits.0 fits.1
body_made (Nonce octets) fits short = record { octets = octets; spelled = record { spelled = refl; some = fits.some; few = fits.few }; long = refl; fits = fits.fits }
body_made (Notify protocol spi kind octets) fits short = notify_made protocol spi kind octets fits
body_made (Delete protocol spis) fits short = delete_made protocol spis fits.0 fits.1 short
body_made (TsI selectors) fits short = selectors_made selectors fits short
body_made (TsR selectors) fits short = selectors_made selectors fits short
body_made (Sealed first body) fits short = absurd fits
body_made (Skipped kind octets) fits short = record { octets = octets; spelled = refl; long = refl; fits = fits }
body_made (Unknown kind critical octets) fits short = record { octets = octets; spelled = refl; long = refl; fits = fits.1 }

-- what the chain takes of a payload that fits: a type of an octet, and a header that is followed by the
-- next type
record Chained (p : Payload) (next : ℕ) : Type 0 where
  low : type_of p < 256
  second : ℕ
  small : second < 256
  header : HasHeader IsZero p next second
  follows : following p next ≡ next

skipped_low : (s : SkippedKind) → type_of_skipped s < 256
skipped_low skipped.Certificate = omega arith
skipped_low skipped.CertificateRequest = omega arith
skipped_low skipped.VendorId = omega arith
skipped_low skipped.Configuration = omega arith
skipped_low skipped.Eap = omega arith

unknown_low : (kind : ℕ) → IsUnknownType kind → kind < 256
unknown_low kind (inl low) = omega (arith, low.1)
unknown_low kind (inr high) = high.1

critical_made : (critical : Bool) → HasCriticalBit IsZero critical (cond critical 128 0)
critical_made true = record { reserved = 0; low = omega arith; free = refl; value = refl }
critical_made false = record { reserved = 0; low = omega arith; free = refl; value = refl }

critical_low : (critical : Bool) → cond critical 128 0 < 256
critical_low true = omega arith
critical_low false = omega arith

chained : (p : Payload) (next : ℕ) → FitsFields p → Chained p next
chained (Sa proposals) next fits = record { low = omega arith; second = 0; small = omega arith; header = refl; follows = refl }
chained (Ke group octets) next fits = record { low = omega arith; second = 0; small = omega arith; header = refl; follows = refl }
chained (IdI kind octets) next fits = record { low = omega arith; second = 0; small = omega arith; header = refl; follows = refl }
chained (IdR kind octets) next fits = record { low = omega arith; second = 0; small = omega arith; header = refl; follows = refl }
chained (Auth method octets) next fits = record { low = omega arith; second = 0; small = omega arith; header = refl; follows = refl }
chained (Nonce octets) next fits = record { low = omega arith; second = 0; small = omega arith; header = refl; follows = refl }
chained (Notify protocol spi kind octets) next fits = record { low = omega arith; second = 0; small = omega arith; header = refl; follows = refl }
chained (Delete protocol spis) next fits = record { low = omega arith; second = 0; small = omega arith; header = refl; follows = refl }
chained (TsI selectors) next fits = record { low = omega arith; second = 0; small = omega arith; header = refl; follows = refl }
chained (TsR selectors) next fits = record { low = omega arith; second = 0; small = omega arith; header = refl; follows = refl }
chained (Skipped kind octets) next fits = record { low = skipped_low kind; second = 0; small = omega arith; header = refl; follows = refl }
chained (Unknown kind critical octets) next fits =
    record { low = unknown_low kind fits.0; second = cond critical 128 0; small = critical_low critical; header = (fits.0, critical_made critical); follows = refl }
chained (Sealed first body) next fits = absurd fits

payload_made : (p : Payload) (next : ℕ) → next < 256 → FitsFields p → size_of p ≤ 2972 → Made (SpellsPayload IsZero p next) (size_of p)
payload_made p next low fits short =
    let inner = body_made p fits (omega arith) in
    let long = inner.long in
    let head = chained p next fits in
    let part = part_made next head.second inner.octets low head.small inner.fits (omega arith) in
    record {
      octets = part.octets;
      spelled = record { second = head.second; body = inner.octets; part = part.spelled; header = head.header; inside = inner.spelled };
      long = omega (arith, part.long, long);
      fits = part.fits;
    }

first_low : (ps : List Payload) → AllByRecursion FitsFields ps → first_type ps < 256
first_low [] fits = omega arith
first_low (p ∷ ps) fits = (chained p 0 fits.0).low

payloads_made : (ps : List Payload) → AllByRecursion FitsFields ps → sum_by size_of ps ≤ 2972 → Made (SpellsPayloads IsZero (first_type ps) ps) (sum_by size_of ps)
payloads_made [] fits short = record { octets = []; spelled = (refl, refl); long = refl; fits = tt }
payloads_made (p ∷ ps) fits short =
    let sum = sum_by-cons size_of p ps in
    let next : ℕ = first_type ps in
    let rest = payloads_made ps fits.1 (omega arith) in
    let behind = subst (λ (t : ℕ). Made (SpellsPayloads IsZero t ps) (sum_by size_of ps)) (sym (chained p next fits.0).follows) rest in
    let one = payload_made p next (first_low ps fits.1) fits.0 (omega arith) in
    let both = joined_made (SpellsPayload IsZero p next) (SpellsPayloads IsZero (following p next) ps) (size_of p) (sum_by size_of ps) one behind in
    record { octets = both.octets; spelled = (refl, next, both.spelled); long = both.long ∙ sym sum; fits = both.fits }

-- ---- messages

octets_8 : (n : ℕ) → AreOctets (big_bytes 8 n)
octets_8 n = number_octets 8 n

bit_low : (b : Bool) → bit b ≤ 1
bit_low true = omega arith
bit_low false = omega arith

header_made : (h : Header) (first : ℕ) → first < 256 → FitsHeaderFields h → Made (SpellsHeader IsZero h first) 24
header_made h first low fits = record {
  octets = big_bytes 8 h.spi_i ++ big_bytes 8 h.spi_r ++ (first ∷ (32 + h.minor) ∷ h.exchange ∷ flags_octet h.flags ∷ big_bytes 4 h.id);
  spelled = record {
    flags = flags_octet h.flags;
    has_flags = record { low = 0; high = 0; value = omega arith; low_bits = omega arith; high_bits = omega arith; free = (refl, refl) };
    spelled = refl;
    spi_i = fits.spi_i;
    spi_r = fits.spi_r;
    minor = fits.minor;
    id = fits.id;
  };
  long = refl;
  fits =
      octets_append (big_bytes 8 h.spi_i) (big_bytes 8 h.spi_r ++ (first ∷ (32 + h.minor) ∷ h.exchange ∷ flags_octet h.flags ∷ big_bytes 4 h.id)) (octets_8 h.spi_i)
      (octets_append (big_bytes 8 h.spi_r) (first ∷ (32 + h.minor) ∷ h.exchange ∷ flags_octet h.flags ∷ big_bytes 4 h.id) (octets_8 h.spi_r)
      (low, (omega (arith, fits.minor), (fits.exchange, (omega (arith, bit_low h.flags.initiator, bit_low h.flags.version, bit_low h.flags.response), octets_4 h.id)))));
}

pub message_made : (m : Message) → FitsHeaderFields m.header → AllByRecursion FitsFields m.payloads → 28 + sum_by size_of m.payloads ≤ 3000 → HasSpelling m (28 + sum_by size_of m.payloads)
message_made m header payloads short =
    let first : ℕ = first_type m.payloads in
    let head = header_made m.header first (first_low m.payloads payloads) header in
    let chain = payloads_made m.payloads payloads (omega arith) in
    let total : ℕ = 28 + sum_by size_of m.payloads in
    let clear : List ℕ = head.octets ++ big_bytes 4 total ++ chain.octets in
    let long : length clear ≡ total = omega (arith, head.long, chain.long, length-append (head.octets ++ big_bytes 4 total) chain.octets, length-append head.octets (big_bytes 4 total)) in
    record {
      octets = clear;
      long = long;
      spelled = record {
        first = first;
        header = head.octets;
        payloads = chain.octets;
        whole = ap (λ (n : ℕ). head.octets ++ big_bytes 4 n ++ chain.octets) (sym long);
        head = head.spelled;
        chain = chain.spelled;
        limit = omega (arith, long);
        octets = octets_append (head.octets ++ big_bytes 4 total) chain.octets (octets_append head.octets (big_bytes 4 total) head.fits (octets_4 total)) chain.fits;
      };
    }

-- ---- every spelling has this size

each_long : {A : Type 0} (Spelled : A → List ℕ → Type 0) (size : A → ℕ) → ((a : A) (x : List ℕ) → Spelled a x → length x ≡ size a) → (found : List A) (x : List ℕ) → SpellsEach Spelled found x → length x ≡ sum_by size found
each_long Spelled size one [] x s = ap length s
each_long Spelled size one (a ∷ found) x s =
    let sum = sum_by-cons size a found in
    omega (arith, ap length s.joined, length-append s.front s.rest, one a s.front s.first, each_long Spelled size one found s.rest s.others, sum)

marked_long : {A : Type 0} (Free : ℕ → Type 0) (more : ℕ) (Spelled : A → List ℕ → Type 0) (size : A → ℕ) → ((a : A) (x : List ℕ) → Spelled a x → 4 + length x ≡ size a) → (found : List A) (x : List ℕ) → SpellsMarked Free more Spelled found x → length x ≡ sum_by size found
marked_long Free more Spelled size one [] x s = absurd s
marked_long Free more Spelled size one (a ∷ []) x s =
    let sum : sum_by size (a ∷ []) ≡ size a + 0 = sum_by-cons size a [] in
    omega (arith, part_length 0 s.reserved s.inside x s.part, one a s.inside s.content, sum)
marked_long Free more Spelled size one (a ∷ b ∷ found) x s =
    let sum = sum_by-cons size a (b ∷ found) in
    omega (arith, ap length s.joined, length-append s.front s.rest, part_length more s.first.reserved s.first.inside s.front s.first.part, one a s.first.inside s.first.content, marked_long Free more Spelled size one (b ∷ found) s.rest s.others, sum)

attribute_long : (a : Attribute) (x : List ℕ) → SpellsAttribute a x → length x ≡ attribute_size a
attribute_long (Short kind value) x s = ap length s.0
attribute_long (Long kind value) x s = omega (arith, ap length s.0)

transform_long : (Free : ℕ → Type 0) (t : Transform) (x : List ℕ) → SpellsTransform Free t x → 4 + length x ≡ transform_size t
transform_long Free t x s = omega (arith, ap length s.spelled, each_long SpellsAttribute attribute_size attribute_long t.attributes s.attributes s.each)

proposal_long : (Free : ℕ → Type 0) (p : Proposal) (x : List ℕ) → SpellsProposal Free p x → 4 + length x ≡ proposal_size p
proposal_long Free p x s = omega (arith, ap length s.spelled, length-append p.spi s.transforms, marked_long Free 3 (SpellsTransform Free) transform_size (transform_long Free) p.transforms s.transforms s.each)

selector_long : (s : Selector) (x : List ℕ) → SpellsSelector s x → length x ≡ selector_size s
selector_long s x spelled =
    let inside : List ℕ = big_bytes 2 s.start_port ++ big_bytes 2 s.end_port ++ ends_octets s.addresses in
    let long : length inside ≡ 4 + range_size s.addresses = omega (arith, ends_long s.addresses) in
    omega (arith, part_length (selector_type s.addresses) s.protocol inside x spelled.part, long)

spis_long : (spis x : List ℕ) → SpellsEach SpellsSpi spis x → length x ≡ 4 * length spis
spis_long [] x s = ap length s
spis_long (spi ∷ spis) x s = omega (arith, ap length s.joined, length-append s.front s.rest, ap length s.first.0, spis_long spis s.rest s.others)

body_long : (Free : ℕ → Type 0) (p : Payload) (x : List ℕ) → SpellsBody Free p x → length x ≡ body_size p
body_long Free (Sa proposals) x s = marked_long Free 2 (SpellsProposal Free) proposal_size (proposal_long Free) proposals x s.each
body_long Free (Ke group octets) x s = omega (arith, ap length s.spelled)
body_long Free (IdI kind octets) x s = omega (arith, ap length s.spelled)
body_long Free (IdR kind octets) x s = omega (arith, ap length s.spelled)
body_long Free (Auth method octets) x s = omega (arith, ap length s.spelled)
body_long Free (Nonce octets) x s = ap length s.spelled
body_long Free (Notify protocol spi kind octets) x s = omega (arith, ap length s.spelled, length-append spi octets)
body_long Free (Delete protocol spis) x s = omega (arith, ap length s.spelled, spis_long spis s.list s.each)
body_long Free (TsI selectors) x s = omega (arith, ap length s.spelled, each_long SpellsSelector selector_size selector_long selectors s.selectors s.each)
body_long Free (TsR selectors) x s = omega (arith, ap length s.spelled, each_long SpellsSelector selector_size selector_long selectors s.selectors s.each)
body_long Free (Sealed first body) x s = ap length s
body_long Free (Skipped kind octets) x s = ap length s
body_long Free (Unknown kind critical octets) x s = ap length s

pub payload_long : (Free : ℕ → Type 0) (p : Payload) (next : ℕ) (x : List ℕ) → SpellsPayload Free p next x → length x ≡ size_of p
payload_long Free p next x s = omega (arith, part_length next s.second s.body x s.part, body_long Free p s.body s.inside)

pub payloads_long : (Free : ℕ → Type 0) (first : ℕ) (ps : List Payload) (x : List ℕ) → SpellsPayloads Free first ps x → length x ≡ sum_by size_of ps
payloads_long Free first [] x s = ap length s.1
payloads_long Free first (p ∷ ps) x s =
    let sum = sum_by-cons size_of p ps in
    let j = s.2 in
    omega (arith, ap length j.joined, length-append j.front j.rest, payload_long Free p s.1 j.front j.first, payloads_long Free (following p s.1) ps j.rest j.others, sum)

pub message_long : (Free : ℕ → Type 0) (m : Message) (b : List ℕ) → SpellsWith Free m b → length b ≡ 28 + sum_by size_of m.payloads
message_long Free m b s =
    let head : length s.header ≡ 24 = ap length s.head.spelled in
    omega (arith, ap length s.whole, length-append (s.header ++ big_bytes 4 (length b)) s.payloads, length-append s.header (big_bytes 4 (length b)), head, payloads_long Free s.first m.payloads s.payloads s.chain)

-- ---- sizes as machine words

-- at the end of a list nothing is left to be counted
pub counted_whole : {A : Type 0} (size : A → ℕ) (xs : List A) (n i : ℕ) → length xs ≤ i → n < 2 ^ 64 → usize_of (n + sum_by size (drop i xs)) ≡ usize_of (sum_by size xs) → n ≡ usize_of (sum_by size xs)
counted_whole {A = A} size xs n i past small e =
    let nothing : sum_by size (drop i xs) ≡ 0 = ap (λ (ys : List A). sum_by size ys) (past_all xs i past) in
    omega (arith, e, small, nothing)
