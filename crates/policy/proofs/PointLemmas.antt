-- The points of a selector and the ends of its ranges.
use Rattle.std.proofs.Common.{◌≡◌, ◌≢◌, ◌⊎◌, ℕ, zero, suc, Bool, true, false, List, [], ◌∷◌, length, get_or, ◌^◌, ◌<◌, ◌≤◌, Option, Some, None, refl, sym, ◌∙◌, subst, inl, inr, min, max, arith}
use Rattle.std.specs.Bool.{then_some}
use Rattle.std.specs.Prelude.{IsTrue, ◌↔◌, MatchOption, is_some}
use Rattle.base.specs.declared.selector.Selector.{Selector}
use Rattle.base.specs.Addresses.{AreApart, HoldsAddress, IsAddress, IsCommonRange, IsOrdered, LiesWithin, family_of_range}
use Rattle.base.specs.declared.address.Address.{Address}
use Rattle.base.specs.declared.address.Range.{Range}
use Rattle.policy.specs.declared.point.Point.{Point}
use Rattle.policy.specs.Points.{FitsSelectorFields, HasPorts, IsPortOf, FitsProtocol, FitsPort, HoldsPoint, IsNonempty, LiesIn, Meets, IsCommonPart}
use Rattle.policy.specs.Narrowing.{HoldsFirst}
use Rattle.policy.specs.Ends.{HasFittingPort, IsCommonProtocol, HaveNoCommonProtocol}
use Rattle.policy.proofs.RangeLemmas.{end_fits, end_held, end_of, family_held, ordered_by, same_range, start_fits, start_held, start_of, within_by_ends, within_holds}

-- a point of the selector with this protocol, address and port
pub record CanHave (s : Selector) (protocol : ℕ) (port : Option ℕ) : Type 0 where
  pub small : protocol < 2 ^ 8
  pub wanted : FitsProtocol s.protocol protocol
  pub kind : IsPortOf protocol port
  pub range : FitsPort s.start_port s.end_port port

pub held_at : (s : Selector) (protocol : ℕ) (address : Address) (port : Option ℕ) → IsAddress address → HoldsAddress s.addresses address → CanHave s protocol port
    → HoldsPoint s (record { protocol = protocol; address = address; port = port })
held_at s protocol address port small held can = record {
  point = record { protocol = can.small; address = small; port = can.kind };
  protocol = can.wanted;
  address = held;
  port = can.range;
}

-- the protocols and ports that points of a selector may have, by cases: some port, or none
pub some_port : (s : Selector) → FitsSelectorFields s → HasFittingPort s.protocol s.start_port s.end_port → (protocol : ℕ) × (port : Option ℕ) × CanHave s protocol port
some_port s fits (inl (inl any, ordered)) = let small = fits.start_port in (6, Some s.start_port, record { small = omega arith; wanted = inl any; kind = (inl refl, small); range = (omega arith, ordered) })
some_port s fits (inl (inr ports, ordered)) = let small = fits.start_port in (s.protocol, Some s.start_port, record { small = fits.protocol; wanted = inr refl; kind = (ports, small); range = (omega arith, ordered) })
some_port s fits (inr (other, none, start, end)) = (s.protocol, None, record { small = fits.protocol; wanted = inr refl; kind = none; range = (start, end) })

pub has_point : (s : Selector) → FitsSelectorFields s → IsOrdered s.addresses → HasFittingPort s.protocol s.start_port s.end_port → IsNonempty (HoldsPoint s)
has_point s fits ordered port =
    let some = some_port s fits port in
    record {
      point = record { protocol = some.0; address = start_of s.addresses; port = some.1 };
      inside = held_at s some.0 (start_of s.addresses) some.1 (start_fits s.addresses fits.addresses) (start_held s.addresses ordered) some.2;
    }

pub any_or_one : (protocol : ℕ) → (protocol ≡ 0) ⊎ (protocol ≢ 0)
any_or_one zero = inl refl
any_or_one (suc protocol) = inr (λ e. omega arith)

fitting_port : (s : Selector) (protocol : ℕ) (port : Option ℕ) → FitsProtocol s.protocol protocol → IsPortOf protocol port → FitsPort s.start_port s.end_port port → HasFittingPort s.protocol s.start_port s.end_port
fitting_port s protocol (Some port) (inl any) kind range = inl (inl any, omega (arith, range.0, range.1))
fitting_port s protocol (Some port) (inr same) kind range = inl (inr (subst HasPorts (sym same) kind.0), omega (arith, range.0, range.1))
fitting_port s protocol None (inl any) kind range = inl (inl any, omega (arith, range.0, range.1))
fitting_port s protocol None (inr same) kind range =
    elim (any_or_one s.protocol) [
      | inl any ↦ inl (inl any, omega (arith, range.0, range.1))
      | inr one ↦ inr (one, λ ports. kind (subst HasPorts same ports), range.0, range.1)
    ]

pub ends_of_point : (s : Selector) (p : Point) → HoldsPoint s p → IsOrdered s.addresses × HasFittingPort s.protocol s.start_port s.end_port
ends_of_point s p held = (ordered_by s.addresses p.address held.address, fitting_port s p.protocol p.port held.protocol held.point.port held.port)

-- one selector in another

fits_through : (s t protocol : ℕ) → FitsProtocol t s → FitsProtocol s protocol → FitsProtocol t protocol
fits_through s t protocol (inl any) inside = inl any
fits_through s t protocol (inr same) (inl any) = inl (same ∙ any)
fits_through s t protocol (inr same) (inr here) = inr (same ∙ here)

wider : (a b x y : ℕ) (port : Option ℕ) → x ≤ a → b ≤ y → y < 2 ^ 16 → FitsPort a b port → FitsPort x y port
wider a b x y (Some port) start end small range = (omega (arith, range.0), omega (arith, range.1))
wider a b x y None start end small range = (omega (arith, range.0), omega (arith, range.1))

-- the ends of one selector lie in those of another
pub record EndsLieIn (s t : Selector) : Type 0 where
  pub protocol : FitsProtocol t.protocol s.protocol
  pub addresses : LiesWithin s.addresses t.addresses
  pub start_port : t.start_port ≤ s.start_port
  pub end_port : s.end_port ≤ t.end_port

pub lies_in : (s t : Selector) → t.end_port < 2 ^ 16 → EndsLieIn s t → LiesIn (HoldsPoint s) (HoldsPoint t)
lies_in s t small ends = λ p held. record {
  point = held.point;
  protocol = fits_through s.protocol t.protocol p.protocol ends.protocol held.protocol;
  address = within_holds s.addresses t.addresses p.address ends.addresses held.address;
  port = wider s.start_port s.end_port t.start_port t.end_port p.port ends.start_port ends.end_port small held.port;
}

both_ports : (t : ℕ) → FitsProtocol t 6 → FitsProtocol t 17 → t ≡ 0
both_ports t (inl any) other = any
both_ports t (inr six) (inl any) = any
both_ports t (inr six) (inr seventeen) = absurd (omega arith)

-- a protocol of ports that a selector may have, and what its points of any fitting port say
module _ (s t : Selector) (fits : FitsSelectorFields s) (inside : LiesIn (HoldsPoint s) (HoldsPoint t)) (ordered : IsOrdered s.addresses) where
  held_first : (protocol : ℕ) (port : Option ℕ) → CanHave s protocol port → HoldsPoint t (record { protocol = protocol; address = start_of s.addresses; port = port })
  held_first protocol port can = inside _ (held_at s protocol (start_of s.addresses) port (start_fits s.addresses fits.addresses) (start_held s.addresses ordered) can)

  held_last : (protocol : ℕ) (port : Option ℕ) → CanHave s protocol port → HoldsPoint t (record { protocol = protocol; address = end_of s.addresses; port = port })
  held_last protocol port can = inside _ (held_at s protocol (end_of s.addresses) port (end_fits s.addresses fits.addresses) (end_held s.addresses ordered) can)

  addresses_inside : (protocol : ℕ) (port : Option ℕ) → CanHave s protocol port → LiesWithin s.addresses t.addresses
  addresses_inside protocol port can = within_by_ends s.addresses t.addresses (held_first protocol port can).address (held_last protocol port can).address

  protocol_at : (protocol port : ℕ) → HasPorts protocol → protocol < 2 ^ 8 → FitsProtocol s.protocol protocol → port < 2 ^ 16 → s.start_port ≤ port → port ≤ s.end_port → HoldsPoint t (record { protocol = protocol; address = start_of s.addresses; port = Some port })
  protocol_at protocol port ports byte wanted small from to = held_first protocol (Some port) (record { small = byte; wanted = wanted; kind = (ports, small); range = (from, to) })

  ends_lie_in : HasFittingPort s.protocol s.start_port s.end_port → EndsLieIn s t
  ends_lie_in (inl (inl any, range)) =
      let start = protocol_at 6 s.start_port (inl refl) (omega arith) (inl any) fits.start_port (omega arith) range in
      let end = protocol_at 6 s.end_port (inl refl) (omega arith) (inl any) fits.end_port range (omega arith) in
      let other = protocol_at 17 s.start_port (inr refl) (omega arith) (inl any) fits.start_port (omega arith) range in
      let some = some_port s fits (inl (inl any, range)) in
      record {
        protocol = inl (both_ports t.protocol start.protocol other.protocol);
        addresses = addresses_inside some.0 some.1 some.2;
        start_port = start.port.0;
        end_port = end.port.1;
      }
  ends_lie_in (inl (inr ports, range)) =
      let start = protocol_at s.protocol s.start_port ports fits.protocol (inr refl) fits.start_port (omega arith) range in
      let end = protocol_at s.protocol s.end_port ports fits.protocol (inr refl) fits.end_port range (omega arith) in
      let some = some_port s fits (inl (inr ports, range)) in
      record {
        protocol = start.protocol;
        addresses = addresses_inside some.0 some.1 some.2;
        start_port = start.port.0;
        end_port = end.port.1;
      }
  ends_lie_in (inr (one, none, start, end)) =
      let can : CanHave s s.protocol None = record { small = fits.protocol; wanted = inr refl; kind = none; range = (start, end) } in
      let here = held_first s.protocol None can in
      record {
        protocol = here.protocol;
        addresses = addresses_inside s.protocol None can;
        start_port = omega (arith, here.port.0);
        end_port = omega (arith, here.port.1);
      }

pub lies_in_ends : (s t : Selector) → FitsSelectorFields s → IsNonempty (HoldsPoint s) → LiesIn (HoldsPoint s) (HoldsPoint t) → EndsLieIn s t
lies_in_ends s t fits some inside =
    let ends = ends_of_point s some.point some.inside in
    ends_lie_in s t fits inside ends.0 ends.1

-- the common part of two selectors

-- the part between the greater start and the lesser end of the ports, and of these addresses
pub part_of : Selector → Selector → ℕ → Range → Selector
part_of s t protocol addresses = record {
  protocol = protocol;
  start_port = max s.start_port t.start_port;
  end_port = min s.end_port t.end_port;
  addresses = addresses;
}

-- the ports of a selector are those that its fields can have
pub record FitsPorts (s : Selector) : Type 0 where
  pub start : s.start_port < 2 ^ 16
  pub end : s.end_port < 2 ^ 16

ports_in_both : (a b x y : ℕ) (port : Option ℕ) → b < 2 ^ 16 → y < 2 ^ 16 → FitsPort (max a x) (min b y) port → FitsPort a b port × FitsPort x y port
ports_in_both a b x y (Some port) small other range = ((omega (arith, range.0), omega (arith, range.1)), (omega (arith, range.0), omega (arith, range.1)))
ports_in_both a b x y None small other range = ((omega (arith, range.0), omega (arith, range.1)), (omega (arith, range.0), omega (arith, range.1)))

ports_from_both : (a b x y : ℕ) (port : Option ℕ) → FitsPort a b port → FitsPort x y port → FitsPort (max a x) (min b y) port
ports_from_both a b x y (Some port) one other = (omega (arith, one.0, other.0), omega (arith, one.1, other.1))
ports_from_both a b x y None one other = (omega (arith, one.0, other.0), omega (arith, one.1, other.1))

module _ (s t : Selector) (protocol : ℕ) (addresses : Range) (byte : protocol < 2 ^ 8) (fits : FitsPorts s) (fits_t : FitsPorts t) (common : IsCommonProtocol s.protocol t.protocol protocol) (range : IsCommonRange s.addresses t.addresses addresses) where
  in_both : (p : Point) → HoldsPoint (part_of s t protocol addresses) p → HoldsPoint s p × HoldsPoint t p
  unfolding part_of
  in_both p held =
      let protocols = (common p.protocol).0 held.protocol in
      let ports = ports_in_both s.start_port s.end_port t.start_port t.end_port p.port fits.end fits_t.end held.port in
      let address = (range.addresses p.address).0 held.address in (
        record { point = held.point; protocol = protocols.0; address = address.0; port = ports.0 },
        record { point = held.point; protocol = protocols.1; address = address.1; port = ports.1 },
      )

  from_both : (p : Point) → HoldsPoint s p × HoldsPoint t p → HoldsPoint (part_of s t protocol addresses) p
  unfolding part_of
  from_both p (one, two) =
      record {
        point = one.point;
        protocol = (common p.protocol).1 (one.protocol, two.protocol);
        address = (range.addresses p.address).1 (one.address, two.address);
        port = ports_from_both s.start_port s.end_port t.start_port t.end_port p.port one.port two.port;
      }

  part_fits : FitsSelectorFields (part_of s t protocol addresses)
  unfolding part_of
  part_fits =
      let start_port = fits.start in
      let start_port_t = fits_t.start in
      let end_port = fits.end in
      record { protocol = byte; start_port = omega arith; end_port = omega arith; addresses = range.fits }

  pub common_part : IsNonempty (HoldsPoint (part_of s t protocol addresses)) → IsCommonPart (HoldsPoint s) (HoldsPoint t) (part_of s t protocol addresses)
  common_part some = record { points = λ p. (in_both p, from_both p); some = some; fields = part_fits }

  pub nothing_common : ¬ IsNonempty (HoldsPoint (part_of s t protocol addresses)) → ¬ Meets (HoldsPoint s) (HoldsPoint t)
  nothing_common none meeting = none (record { point = meeting.point; inside = from_both meeting.point (meeting.in_one, meeting.in_other) })

pub no_common_protocol : (s t : Selector) → HaveNoCommonProtocol s.protocol t.protocol → ¬ Meets (HoldsPoint s) (HoldsPoint t)
no_common_protocol s t none meeting = none meeting.point.protocol meeting.in_one.protocol meeting.in_other.protocol

pub no_common_address : (s t : Selector) → AreApart s.addresses t.addresses → ¬ Meets (HoldsPoint s) (HoldsPoint t)
no_common_address s t apart meeting = apart meeting.point.address meeting.in_one.address meeting.in_other.address

-- selectors of two families
pub families_apart : (s t : Selector) → family_of_range s.addresses ≢ family_of_range t.addresses → ¬ Meets (HoldsPoint s) (HoldsPoint t)
families_apart s t differ meeting =
    differ (family_held s.addresses meeting.point.address meeting.in_one.address ∙ sym (family_held t.addresses meeting.point.address meeting.in_other.address))

pub any_and_other : (other : ℕ) → (one : ℕ) → one ≡ 0 → IsCommonProtocol one other other
any_and_other other one any protocol = (λ fits. (inl any, fits), λ fits. fits.1)

pub one_and_any : (one other : ℕ) → other ≡ 0 → IsCommonProtocol one other one
one_and_any one other any protocol = (λ fits. (fits, inl any), λ fits. fits.0)

pub one_and_same : (one other : ℕ) → one ≡ other → IsCommonProtocol one other one
one_and_same one other same protocol = (λ fits. (fits, subst (λ (wanted : ℕ). FitsProtocol wanted protocol) same fits), λ fits. fits.0)

pub different : (one other : ℕ) → one ≢ 0 → other ≢ 0 → one ≢ other → HaveNoCommonProtocol one other
different one other first second apart protocol (inl any) fits = first any
different one other first second apart protocol (inr here) (inl any) = second any
different one other first second apart protocol (inr here) (inr there) = apart (here ∙ sym there)

-- whether two selectors meet, told by their common part
pub part_meets : (s t : Selector) (part : Option Selector) → MatchOption part (¬ Meets (HoldsPoint s) (HoldsPoint t)) (IsCommonPart (HoldsPoint s) (HoldsPoint t)) → IsTrue (is_some part) ↔ Meets (HoldsPoint s) (HoldsPoint t)
part_meets s t None none = (λ is. absurd (cc), λ some. absurd (none some))
part_meets s t (Some part) common = (λ is. let both = (common.points common.some.point).0 common.some.inside in record { point = common.some.point; in_one = both.0; in_other = both.1 }, λ some. refl)

pub same_part : (s t : Selector) (protocol start_port end_port : ℕ) (addresses : Range) → start_port ≡ max s.start_port t.start_port → end_port ≡ min s.end_port t.end_port
    → ◌≡◌ {A = Selector} (record { protocol = protocol; start_port = start_port; end_port = end_port; addresses = addresses }) (part_of s t protocol addresses)
unfolding part_of
same_part s t protocol start_port end_port addresses a b = λ i. record { protocol = protocol; start_port = a i; end_port = b i; addresses = addresses }

-- the common part, where it has a point
pub some_part : (s t part : Selector) (protocol : ℕ) (addresses : Range) (b : Bool) → protocol < 2 ^ 8 → FitsPorts s → FitsPorts t → IsCommonProtocol s.protocol t.protocol protocol
    → IsCommonRange s.addresses t.addresses addresses → part ≡ part_of s t protocol addresses → (IsTrue b ↔ IsNonempty (HoldsPoint part))
    → MatchOption (then_some b part) (¬ Meets (HoldsPoint s) (HoldsPoint t)) (IsCommonPart (HoldsPoint s) (HoldsPoint t))
some_part s t part protocol addresses true byte fits fits_t common range is tells = subst (λ (c : Selector). IsCommonPart (HoldsPoint s) (HoldsPoint t) c) (sym is) (common_part s t protocol addresses byte fits fits_t common range (subst (λ (c : Selector). IsNonempty (HoldsPoint c)) is (tells.0 refl)))
some_part s t part protocol addresses false byte fits fits_t common range is tells = nothing_common s t protocol addresses byte fits fits_t common range (λ some. absurd (let yes = tells.1 (subst (λ (c : Selector). IsNonempty (HoldsPoint c)) (sym is) some) in cc))

-- the first of a list, as it is read
pub first_to : (side : Selector) (offered : List Selector) (d : Selector) → 0 < length offered → IsNonempty (HoldsPoint (get_or offered 0 d)) → LiesIn (HoldsPoint (get_or offered 0 d)) (HoldsPoint side) → HoldsFirst side offered
first_to side [] d some point inside = absurd (omega arith)
first_to side (first ∷ others) d some point inside = (point, inside)

pub first_from : (side : Selector) (offered : List Selector) (d : Selector) → 0 < length offered → HoldsFirst side offered → IsNonempty (HoldsPoint (get_or offered 0 d)) × LiesIn (HoldsPoint (get_or offered 0 d)) (HoldsPoint side)
first_from side [] d some holds = absurd holds
first_from side (first ∷ others) d some holds = holds

-- selectors of the same points are the same, where they have points

fits_both : (s t : ℕ) → FitsProtocol t s → FitsProtocol s t → s ≡ t
fits_both s t (inl any) (inl other) = other ∙ sym any
fits_both s t (inl any) (inr same) = same
fits_both s t (inr same) back = sym same

pub same_selector : (s t : Selector) → FitsSelectorFields s → FitsSelectorFields t → IsNonempty (HoldsPoint s) → LiesIn (HoldsPoint s) (HoldsPoint t) → LiesIn (HoldsPoint t) (HoldsPoint s) → s ≡ t
same_selector s t fits fits_t some inside back =
    let ends = lies_in_ends s t fits some inside in
    let other = lies_in_ends t s fits_t (record { point = some.point; inside = inside some.point some.inside }) back in
    let protocol = fits_both s.protocol t.protocol ends.protocol other.protocol in
    let start_port : s.start_port ≡ t.start_port = (let a = ends.start_port in let b = other.start_port in omega arith) in
    let end_port : s.end_port ≡ t.end_port = (let a = ends.end_port in let b = other.end_port in omega arith) in
    let addresses : s.addresses ≡ t.addresses = same_range s.addresses t.addresses ends.addresses other.addresses in
    λ i. record { protocol = protocol i; start_port = start_port i; end_port = end_port i; addresses = addresses i }

pub ordered_ports : (s : Selector) (p : Point) → HoldsPoint s p → s.start_port ≤ s.end_port
ordered_ports s p held =
    elim (ends_of_point s p held).1 [
      | inl (_, range) ↦ range
      | inr (_, none, start, end) ↦ omega arith
    ]
