-- Finding the SA pair of a packet, and finding it again once it was opened.
use Rattle.std.proofs.Common.{◌≡◌, ◌≢◌, ℕ, ◌<◌, ◌≤◌, Bool, cond, length, take, get_or, Option, Some, Bor, Result, Ok, Err, IsErr, IsErrAnd, IsSome, None, refl, sym, ap, ◌∙◌, subst, arith, inl, inr}
use Rattle.std.proofs.lemmas.List.{get_or-take, get_or_past, length-take-le}
use Rattle.std.proofs.lemmas.Nat.{be_bytes_4}
use Rattle.std.proofs.lemmas.Bool.{cases_lt, eq-eqb}
use Rattle.std.specs.Cmp.{nat_cmp_total, unsigned_tied}
use Rattle.std.specs.FinMap as map
use Rattle.std.specs.Option.{option_copied}
use Rattle.byteorder.specs.Endian.{big_bytes}
use Rattle.base.specs.Octets.{Octets}
use Rattle.esp.specs.Views.{Receiving}
use Rattle.sadb.specs.Database.{Database, IsForPair, IsInbound, OpensAt, PairMap, RefusesAt, pair_at}
use Rattle.sadb.specs.declared.pair.Pair.{Pair}
use Rattle.traffic.specs.Receiving.{HasAddressee, HasPair, IsAddressedTo, IsAddressedToNone, IsNotOpened, IsOpened, IsVerdictAt, Receives, reception_of, spi_of}
use Rattle.traffic.specs.Verdicts.{IsVerdict, Verdict}
use Rattle.traffic.proofs.OpeningLemmas.{same_pair}
use Rattle.traffic.specs.Outcomes.{Dropped}
use Rattle.traffic.specs.declared.arrival.Arrival.{Arrival}
use Rattle.traffic.specs.declared.fault.PacketFault.{PacketFault}
use Rattle.traffic.specs.declared.fault.PacketFault.TheVariants.{UnknownAssociation, Esp, Inner, OutsideSelectors}
use Rattle.esp.specs.declared.fault.EspFault.{EspFault}
use Rattle.esp.specs.declared.fault.EspFault.TheVariants.{BadLength, BadPadding}

-- a list of octets
abbrev HasOctets : Octets → Type 0
HasOctets b = (i : ℕ) → get_or b i 0 < 256

four_octets : (b : Octets) (i : ℕ) → length (take 4 b) ≡ 4 → HasOctets b → get_or (take 4 b) i 0 < 256
four_octets b i len octets = elim (cases_lt i 4) [
  | inl within ↦ let e = get_or-take 4 b i 0 within in let o = octets i in omega arith
  | inr past ↦ let e = get_or_past (take 4 b) i 0 (omega arith) in omega arith
]

-- the first four octets spell the SPI
spi_spells : (b : Octets) → 4 ≤ length b → HasOctets b → big_bytes 4 (spi_of b) ≡ take 4 b
spi_spells b long octets =
    let e0 = get_or-take 4 b 0 0 (omega arith) in let e1 = get_or-take 4 b 1 0 (omega arith) in
    let e2 = get_or-take 4 b 2 0 (omega arith) in let e3 = get_or-take 4 b 3 0 (omega arith) in
    let len : length (take 4 b) ≡ 4 = length-take-le 4 b long in
    be_bytes_4 (take 4 b) (spi_of b) len (λ i. four_octets b i len octets) (omega arith)

-- the SA pair of a packet's SPI may be asked to open it
pub asked_for : (pairs : PairMap) (packet : Octets) (pair : Pair) → 4 ≤ length packet → HasOctets packet → IsInbound pairs (spi_of packet) pair
    → IsForPair pairs pair.serial packet
asked_for pairs packet pair long octets found = record {
  pair = pair;
  there = found.there;
  addressed = λ _. sym (spi_spells packet long octets) ∙ ap (big_bytes 4) (sym found.its_own);
}

abbrev choice : Option Pair → Option Pair → Bool → Option Pair
choice here there b = cond b here there

-- what is found where an SA pair was changed
inserted : (pairs : PairMap) (serial : ℕ) (pair : Pair) → map.get (map.insert pairs serial pair) serial ≡ Some pair
inserted pairs serial pair =
    map.get-insert nat_cmp_total pairs serial pair serial
    ∙ ap (choice (Some pair) (map.get pairs serial)) (unsigned_tied serial serial ∙ eq-eqb serial serial refl)

-- what a packet that is opened leaves under the SA pair's serial: the same pair with another window
record IsKept (old : Pair) (pairs : PairMap) : Type 0 where
  inbound : Receiving
  there : map.get pairs old.serial ≡ Some (record old { inbound = inbound })
  association : inbound.association ≡ old.inbound.association

kept : (old : Database) (pair : Pair) (packet : Octets) (number next : ℕ) (payload : Octets) (new : Database)
    → pair_at old.pairs pair.serial ≡ Some pair → OpensAt old pair.serial packet number next payload new → IsKept pair new.pairs
kept old pair packet number next payload new there opened =
    let same : opened.pair ≡ pair = same_pair opened.pair pair (sym opened.changed.there ∙ there) in
    record {
      inbound = opened.inbound;
      there =
          ap (λ (d : Database). map.get d.pairs pair.serial) opened.changed.content
          ∙ inserted old.pairs pair.serial (record opened.pair { inbound = opened.inbound })
          ∙ ap (λ (p : Pair). Some (record p { inbound = opened.inbound })) same;
      association = opened.opened.taken.association ∙ ap (λ (p : Pair). p.inbound.association) same;
    }

-- the SA pair is there still
pub pair_stays : (old : Database) (pair : Pair) (packet : Octets) (number next : ℕ) (payload : Octets) (new : Database)
    → IsAddressedTo old packet pair → OpensAt old pair.serial packet number next payload new → HasPair new pair.serial
pair_stays old pair packet number next payload new addressed opened =
    let is = kept old pair packet number next payload new addressed.inbound.there opened in
    record { pair = record pair { inbound = is.inbound }; there = is.there }

-- and the verdict by its selectors is the verdict by those that the SA pair had
pub opened_so : (old : Database) (pair : Pair) (packet : Octets) (number next : ℕ) (payload : Octets) (new : Database) (verdict : Verdict)
    → IsAddressedTo old packet pair → OpensAt old pair.serial packet number next payload new → IsVerdictAt new pair.serial next payload verdict
    → IsOpened old packet pair.serial number verdict new
opened_so old pair packet number next payload new verdict addressed opened judged =
    let is = kept old pair packet number next payload new addressed.inbound.there opened in
    let again : judged.pair ≡ record pair { inbound = is.inbound } =
    same_pair judged.pair (record pair { inbound = is.inbound }) (sym judged.there ∙ is.there) in
    record {
      pair = pair;
      addressed = addressed;
      child_is = refl;
      next = next;
      payload = payload;
      opened = opened;
      verdict_is = subst (λ (p : Pair). IsVerdict next payload p.remote p.local verdict) again judged.verdict_is;
    }

-- where a packet is addressed to an SA pair, it is not addressed to none
pub addressed_anyway : (table : Database) (packet : Octets) (fault : PacketFault) → HasAddressee table packet → IsAddressedToNone table packet fault → ⊥
addressed_anyway table packet (Esp BadLength) has is = let long = has.has_spi in absurd (omega arith)
addressed_anyway table packet (Esp fault) has is = is
addressed_anyway table packet UnknownAssociation has is = is.1 has.serial has.inbound
addressed_anyway table packet (Inner fault) has is = is
addressed_anyway table packet OutsideSelectors has is = is

pub is_there : (found : Option (Bor Pair)) (pair : Pair) → option_copied found ≡ Some pair → IsSome found
is_there (Some lent) pair there = refl
is_there None pair there = absurd cc

-- what a refusal passed on by `?` says
pub passed_on : (old : Database) (packet : Octets) (new : Database) (P : PacketFault → Type 0) (answer : Result Arrival PacketFault)
    → IsErr answer → IsErrAnd answer P → ((fault : PacketFault) → P fault → Receives old packet (Dropped fault) new)
    → Receives old packet (reception_of answer) new
passed_on old packet new P (Ok arrival) is also receives = absurd (cc)
passed_on old packet new P (Err fault) is also receives = receives fault also

-- an SA pair that refuses a packet
pub not_opened : (old : Database) (pair : Pair) (packet : Octets) (fault : EspFault) (new : Database)
    → IsAddressedTo old packet pair → RefusesAt old pair.serial packet fault new → (fault ≢ BadPadding → new ≡ old) → IsNotOpened old packet fault new
not_opened old pair packet fault new addressed refused unchanged = record { pair = pair; addressed = addressed; refused = refused; unchanged = unchanged }
