-- Decisions, flows and answers are determined, and answers can be sent.
use Rattle.std.proofs.Common.{◌≡◌, ◌≢◌, inl, inr, ℕ, zero, suc, ◌≤◌, List, [], ◌∷◌, length, Option, Some, None, refl, sym, ◌∙◌, ap, subst, arith}
use Rattle.std.specs.List.{slice_get}
use Rattle.std.proofs.lemmas.Bool.Decides.{leb_tells}
use Rattle.std.proofs.lemmas.Option.{none-some, slice_get_within}
use Rattle.base.specs.Addresses.{family_of}
use Rattle.base.specs.Lists.{IsFirst}
use Rattle.base.specs.Octets.{Octets}
use Rattle.base.specs.declared.selector.Selector.{Selector}
use Rattle.policy.specs.declared.point.Point.{Point}
use Rattle.policy.specs.declared.flow.Flow.{Flow}
use Rattle.policy.specs.declared.flow.Ports.{Ports}
use Rattle.policy.specs.declared.entry.Entry.{Entry}
use Rattle.policy.specs.declared.entry.Action.{Action}
use Rattle.policy.specs.declared.entry.Action.TheVariants.{Protect, Discard}
use Rattle.policy.specs.declared.policy.Direction.{Direction}
use Rattle.policy.specs.declared.policy.Direction.TheVariants.{Outward, Inward}
use Rattle.policy.specs.Points.{FitsSelectorFields, HoldsPoint, IsNonempty, Meets, IsCommonPart}
use Rattle.policy.specs.Decisions.{HoldsFlow, IsDecision, local_side, remote_side}
use Rattle.policy.specs.Packets.{ArePorts, IsFlowOf, IsInnerRefusal, IsIpv4Packet, IsIpv6Packet, LacksPorts, ipv4_content, ipv4_protocol, ipv6_content, next_header}
use Rattle.policy.specs.Entries.{IsFirstEntryAtFault, IsSoundEntry, IsSoundPolicy}
use Rattle.policy.specs.declared.fault.InnerFault.{InnerFault}
use Rattle.policy.specs.declared.fault.InnerFault.TheVariants.{BadInner, Fragment, ExtensionHeader}
use Rattle.policy.specs.declared.fault.NarrowFault.TheVariants.{Unacceptable}
use Rattle.policy.specs.Narrowing.{AnswersOffer, AreSendable, HoldsFirst, MeetsOffer, FitsFirst, FitsSome, IsChosenEntry, IsNarrowed, IsNarrowing, HasAllCommonPoints, IsNarrowRefusal, IsSendableSelector, LieInsidePolicy, LieInSide}
use Rattle.policy.proofs.RangeLemmas.{family_held}
use Rattle.policy.proofs.Scanning.{same_item}
use Rattle.policy.proofs.PointLemmas.{same_selector, ends_of_point, ordered_ports}

-- there is one first item of a kind
pub one_first : {A : Type 0} (P : A → Type 0) (xs : List A) (k l : ℕ) (x y : A) → IsFirst P xs k x → IsFirst P xs l y → (k ≡ l) × (x ≡ y)
one_first P xs k l x y first second =
    let same : k ≡ l =
    elim (leb_tells k l) [
      | inl (_, below) ↦
          elim (leb_tells l k) [
            | inl (_, above) ↦ omega arith
            | inr (_, less) ↦ absurd (second.before k x less first.there first.holds)
          ]
      | inr (_, less) ↦ absurd (first.before l y less second.there second.holds)
    ]
    in (same, same_item x y (sym first.there ∙ ap (slice_get xs) same ∙ second.there))

pub one_decision : (entries : List Entry) (f : Flow) (d : Direction) (a b : Action) → IsDecision entries f d a → IsDecision entries f d b → a ≡ b
one_decision entries f d a b (inl one) (inl other) = one.decides ∙ ap (λ (e : Entry). e.action) (one_first (HoldsFlow d f) entries one.place other.place one.entry other.entry one.first other.first).1 ∙ sym other.decides
one_decision entries f d a b (inl one) (inr (none, _)) = absurd (none one.place one.entry one.first.there one.first.holds)
one_decision entries f d a b (inr (none, _)) (inl other) = absurd (none other.place other.entry other.first.there other.first.holds)
one_decision entries f d a b (inr (_, one)) (inr (_, other)) = one ∙ sym other

one_port_pair : (protocol : ℕ) (octets : Octets) (a b : Option Ports) → ArePorts protocol octets a → ArePorts protocol octets b → a ≡ b
one_port_pair protocol octets None None one other = refl
one_port_pair protocol octets None (Some b) one other = absurd (one other.0)
one_port_pair protocol octets (Some a) None one other = absurd (other one.0)
one_port_pair protocol octets (Some a) (Some b) one other =
    let source : a.source ≡ b.source = one.2 ∙ sym other.2 in
    let target : a.target ≡ b.target = one.3 ∙ sym other.3 in
    λ i. Some (record { source = source i; target = target i })

same_flow : (f g : Flow) → f.protocol ≡ g.protocol → f.source ≡ g.source → f.target ≡ g.target → f.ports ≡ g.ports → f ≡ g
same_flow f g protocol source target ports = λ i. record { protocol = protocol i; source = source i; target = target i; ports = ports i }

-- a packet is of one version
one_version : (b : Octets) → IsIpv4Packet b → ¬ IsIpv6Packet b
one_version b four six = let version = four.version in let other = six.version in omega arith

pub one_flow : (b : Octets) (f g : Flow) → IsFlowOf b f → IsFlowOf b g → f ≡ g
one_flow b f g (inl one) (inl other) =
    same_flow f g (one.protocol ∙ sym other.protocol) (one.source ∙ sym other.source) (one.target ∙ sym other.target) (one_port_pair (ipv4_protocol b) (ipv4_content b) f.ports g.ports one.ports other.ports)
one_flow b f g (inr one) (inr other) =
    same_flow f g (one.protocol ∙ sym other.protocol) (one.source ∙ sym other.source) (one.target ∙ sym other.target) (one_port_pair (next_header b) (ipv6_content b) f.ports g.ports one.ports other.ports)
one_flow b f g (inl one) (inr other) = absurd (one_version b one.packet other.packet)
one_flow b f g (inr one) (inl other) = absurd (one_version b other.packet one.packet)

pub one_family : (b : Octets) (f : Flow) → IsFlowOf b f → family_of f.source ≡ family_of f.target
one_family b f (inl four) = ap family_of four.source ∙ sym (ap family_of four.target)
one_family b f (inr six) = ap family_of six.source ∙ sym (ap family_of six.target)

pub one_chosen : (entries : List Entry) (i r : List Selector) (k l : ℕ) (e d : Entry) → IsChosenEntry entries i r k e → IsChosenEntry entries i r l d → e ≡ d
one_chosen entries i r k l e d (inl one) (inl other) = (one_first (FitsFirst i r) entries k l e d one other).1
one_chosen entries i r k l e d (inl one) (inr (none, _)) = absurd (none k e one.there one.holds)
one_chosen entries i r k l e d (inr (none, _)) (inl other) = absurd (none l d other.there other.holds)
one_chosen entries i r k l e d (inr (_, one)) (inr (_, other)) = (one_first (FitsSome i r) entries k l e d one other).1

-- two common parts of the same selectors
same_part : (A B : Point → Type 0) (s t : Selector) → IsCommonPart A B s → IsCommonPart A B t → s ≡ t
same_part A B s t one other =
    same_selector s t one.fields other.fields one.some
    (λ p held. (other.points p).1 ((one.points p).0 held))
    (λ p held. (one.points p).1 ((other.points p).0 held))

meets_by_part : (A B : Point → Type 0) (s : Selector) → IsCommonPart A B s → Meets A B
meets_by_part A B s common = let both = (common.points common.some.point).0 common.some.inside in record { point = common.some.point; in_one = both.0; in_other = both.1 }

pub one_narrowed : (side : Selector) (offered answer other : List Selector) → IsNarrowed side offered answer → IsNarrowed side offered other → answer ≡ other
one_narrowed side [] answer other is also = is ∙ sym also
one_narrowed side (s ∷ ss) answer other (inl one) (inl two) =
    let part : one.part ≡ two.part = same_part (HoldsPoint s) (HoldsPoint side) one.part two.part one.common two.common in
    let rest : one.others ≡ two.others = one_narrowed side ss one.others two.others one.rest two.rest in
    one.begins ∙ (λ i. part i ∷ rest i) ∙ sym two.begins
one_narrowed side (s ∷ ss) answer other (inl one) (inr (apart, _)) = absurd (apart (meets_by_part (HoldsPoint s) (HoldsPoint side) one.part one.common))
one_narrowed side (s ∷ ss) answer other (inr (apart, _)) (inl two) = absurd (apart (meets_by_part (HoldsPoint s) (HoldsPoint side) two.part two.common))
one_narrowed side (s ∷ ss) answer other (inr (_, one)) (inr (_, two)) = one_narrowed side ss answer other one two

pub one_narrowing : (entries : List Entry) (i r answer_i answer_r other_i other_r : List Selector)
    → IsNarrowing entries i r answer_i answer_r → IsNarrowing entries i r other_i other_r → (answer_i ≡ other_i) × (answer_r ≡ other_r)
one_narrowing entries i r answer_i answer_r other_i other_r one two =
    let same : one.entry ≡ two.entry = one_chosen entries i r one.place two.place one.entry two.entry one.chosen two.chosen in (
      one_narrowed (remote_side two.entry) i answer_i other_i (subst (λ (e : Entry). IsNarrowed (remote_side e) i answer_i) same one.narrowed_i) two.narrowed_i,
      one_narrowed (local_side two.entry) r answer_r other_r (subst (λ (e : Entry). IsNarrowed (local_side e) r answer_r) same one.narrowed_r) two.narrowed_r,
    )

-- refusals exclude answers and one another

ports_or_lacking : (protocol : ℕ) (content : Octets) (ports : Option Ports) → ArePorts protocol content ports → ¬ LacksPorts protocol content
ports_or_lacking protocol content None none lacks = none lacks.0
ports_or_lacking protocol content (Some ports) some lacks = omega (arith, some.1, lacks.1)

-- the flow of a packet of one version, and what the other version's rules say of the packet
not_bad : (b : Octets) (f : Flow) → IsFlowOf b f → ¬ IsInnerRefusal b BadInner
not_bad b f (inl four) (inl none, six) = none four.packet
not_bad b f (inl four) (inr short, six) = ports_or_lacking (ipv4_protocol b) (ipv4_content b) f.ports four.ports short.short
not_bad b f (inr six) (four, inl none) = none six.packet
not_bad b f (inr six) (four, inr short) = ports_or_lacking (next_header b) (ipv6_content b) f.ports six.ports short.short

pub flow_or_refusal : (b : Octets) (f : Flow) (e : InnerFault) → IsFlowOf b f → ¬ IsInnerRefusal b e
flow_or_refusal b f BadInner is refusal = not_bad b f is refusal
flow_or_refusal b f Fragment (inl four) fragment = four.whole fragment.1
flow_or_refusal b f Fragment (inr six) fragment = one_version b fragment.0 six.packet
flow_or_refusal b f ExtensionHeader (inl four) extension = one_version b four.packet extension.0
flow_or_refusal b f ExtensionHeader (inr six) extension = six.plain extension.1

bad_or_fragment : (b : Octets) → IsInnerRefusal b BadInner → ¬ IsInnerRefusal b Fragment
bad_or_fragment b (inl none, six) fragment = none fragment.0
bad_or_fragment b (inr short, six) fragment = short.whole fragment.1

bad_or_extension : (b : Octets) → IsInnerRefusal b BadInner → ¬ IsInnerRefusal b ExtensionHeader
bad_or_extension b (four, inl none) extension = none extension.0
bad_or_extension b (four, inr short) extension = short.plain extension.1

pub one_refusal : (b : Octets) (one other : InnerFault) → IsInnerRefusal b one → IsInnerRefusal b other → one ≡ other
one_refusal b BadInner BadInner first second = refl
one_refusal b Fragment Fragment first second = refl
one_refusal b ExtensionHeader ExtensionHeader first second = refl
one_refusal b BadInner Fragment first second = absurd (bad_or_fragment b first second)
one_refusal b Fragment BadInner first second = absurd (bad_or_fragment b second first)
one_refusal b BadInner ExtensionHeader first second = absurd (bad_or_extension b first second)
one_refusal b ExtensionHeader BadInner first second = absurd (bad_or_extension b second first)
one_refusal b Fragment ExtensionHeader first second = absurd (one_version b first.0 second.0)
one_refusal b ExtensionHeader Fragment first second = absurd (one_version b second.0 first.0)

pub sound_or_fault : (entries : List Entry) (place : ℕ) → IsSoundPolicy entries → ¬ IsFirstEntryAtFault entries place
sound_or_fault entries place sound first =
    let here = first.here in
    elim here.fault [
      | inl bad ↦ bad (sound.each place here.entry here.there)
      | inr late ↦ (let few = sound.few in let within = slice_get_within entries place here.entry here.there in omega arith)
    ]

pub one_fault : (entries : List Entry) (k l : ℕ) → IsFirstEntryAtFault entries k → IsFirstEntryAtFault entries l → k ≡ l
one_fault entries k l first second =
    elim (leb_tells k l) [
      | inl (_, below) ↦
          elim (leb_tells l k) [
            | inl (_, above) ↦ omega arith
            | inr (_, less) ↦ absurd (second.before k less first.here)
          ]
      | inr (_, less) ↦ absurd (first.before l less second.here)
    ]

pub narrowed_or_refused : (entries : List Entry) (i r answer_i answer_r : List Selector) → IsNarrowing entries i r answer_i answer_r → ¬ IsNarrowRefusal entries i r Unacceptable
narrowed_or_refused entries i r answer_i answer_r n none = none (record { place = n.place; entry = n.entry; chosen = n.chosen })

-- answers that can be sent

-- an answered selector is the part of an offered one inside a side
record IsPartOf (side : Selector) (offered : List Selector) (part : Selector) : Type 0 where
  place : ℕ
  selector : Selector
  there : slice_get offered place ≡ Some selector
  common : IsCommonPart (HoldsPoint selector) (HoldsPoint side) part

later_part : (side s : Selector) (ss : List Selector) (part : Selector) → IsPartOf side ss part → IsPartOf side (s ∷ ss) part
later_part side s ss part is = record { place = suc is.place; selector = is.selector; there = is.there; common = is.common }

part_kept : (side : Selector) (offered answer : List Selector) → IsNarrowed side offered answer → (k : ℕ) (part : Selector) → slice_get answer k ≡ Some part → IsPartOf side offered part
part_kept side [] answer is k part there = absurd (none-some part (sym (ap (λ (xs : List Selector). slice_get xs k) is) ∙ there))
part_kept side (s ∷ ss) answer (inr (_, rest)) k part there = later_part side s ss part (part_kept side ss answer rest k part there)
part_kept side (s ∷ ss) answer (inl kept) zero part there =
    let same : kept.part ≡ part = same_item kept.part part (sym (ap (λ (xs : List Selector). slice_get xs 0) kept.begins) ∙ there) in
    subst (IsPartOf side (s ∷ ss)) same (record { place = 0; selector = s; there = refl; common = kept.common })
part_kept side (s ∷ ss) answer (inl kept) (suc k) part there =
    later_part side s ss part (part_kept side ss kept.others kept.rest k part (sym (ap (λ (xs : List Selector). slice_get xs (suc k)) kept.begins) ∙ there))

no_more : (side : Selector) (offered answer : List Selector) → IsNarrowed side offered answer → length answer ≤ length offered
no_more side [] answer is = let e : length answer ≡ 0 = ap length is in omega arith
no_more side (s ∷ ss) answer (inl kept) =
    let rest = no_more side ss kept.others kept.rest in
    let e : length answer ≡ suc (length kept.others) = ap length kept.begins in
    omega arith
no_more side (s ∷ ss) answer (inr (_, rest)) = let fewer = no_more side ss answer rest in omega arith

some_answer : (offered answer : List Selector) (side : Selector) → HasAllCommonPoints side offered answer → MeetsOffer side offered → 1 ≤ length answer
some_answer offered answer side points meeting =
    let held = (points meeting.point).1 (meeting.in_one, meeting.in_other) in
    let within = slice_get_within answer held.place held.selector held.there in
    omega arith

first_meets : (side : Selector) (offered : List Selector) → HoldsFirst side offered → MeetsOffer side offered
first_meets side [] holds = absurd holds
first_meets side (s ∷ ss) (some, inside) = record { point = some.point; in_one = record { place = zero; selector = s; there = refl; held = some.inside }; in_other = inside some.point some.inside }

chosen_meets : (entries : List Entry) (i r : List Selector) (k : ℕ) (e : Entry) → IsChosenEntry entries i r k e → MeetsOffer (remote_side e) i × MeetsOffer (local_side e) r
chosen_meets entries i r k e (inl first) = (first_meets (remote_side e) i first.holds.remote, first_meets (local_side e) r first.holds.local)
chosen_meets entries i r k e (inr (_, some)) = (some.holds.remote, some.holds.local)

-- a selector that has a point and whose numbers fit
sendable_one : (s : Selector) → FitsSelectorFields s → IsNonempty (HoldsPoint s) → IsSendableSelector s
sendable_one s fits some = record { fields = fits; ports = ordered_ports s some.point some.inside; addresses = (ends_of_point s some.point some.inside).0 }

sendable_each : (side : Selector) (offered answer : List Selector) → IsNarrowed side offered answer → (k : ℕ) (s : Selector) → slice_get answer k ≡ Some s → IsSendableSelector s
sendable_each side offered answer is k s there = let kept = part_kept side offered answer is k s there in sendable_one s kept.common.fields kept.common.some

sendable : (side : Selector) (offered answer : List Selector) → length offered ≤ 16 → IsNarrowed side offered answer → HasAllCommonPoints side offered answer → MeetsOffer side offered → AreSendable answer
sendable side offered answer few narrowed points meeting = record {
  some = some_answer offered answer side points meeting;
  few = let fewer = no_more side offered answer narrowed in omega arith;
  each = sendable_each side offered answer narrowed;
}

pub answers_sendable : (entries : List Entry) (i r answer_i answer_r : List Selector) → length i ≤ 16 → length r ≤ 16 → IsNarrowing entries i r answer_i answer_r → AreSendable answer_i × AreSendable answer_r
answers_sendable entries i r answer_i answer_r few_i few_r n =
    let meeting = chosen_meets entries i r n.place n.entry n.chosen in
    (sendable (remote_side n.entry) i answer_i few_i n.narrowed_i n.points_i meeting.0, sendable (local_side n.entry) r answer_r few_r n.narrowed_r n.points_r meeting.1)

-- first selectors that some entry protects whole

first_kept : (side first : Selector) (others answer : List Selector) → FitsSelectorFields first → HoldsFirst side (first ∷ others) → IsNarrowed side (first ∷ others) answer → slice_get answer 0 ≡ Some first
first_kept side first others answer fits holds (inl kept) =
    let same : first ≡ kept.part = same_selector first kept.part fits kept.common.fields holds.0
    (λ p held. (kept.common.points p).1 (held, holds.1 p held))
    (λ p held. ((kept.common.points p).0 held).0) in
    ap (λ (xs : List Selector). slice_get xs 0) kept.begins ∙ ap (λ (s : Selector). Some s) (sym same)
first_kept side first others answer fits holds (inr (apart, _)) =
    absurd (apart (record { point = holds.0.point; in_one = holds.0.inside; in_other = holds.1 holds.0.point holds.0.inside }))

chosen_first : (entries : List Entry) (i r : List Selector) (k l : ℕ) (e d : Entry) → slice_get entries l ≡ Some d → FitsFirst i r d → IsChosenEntry entries i r k e → FitsFirst i r e
chosen_first entries i r k l e d there fits (inl first) = first.holds
chosen_first entries i r k l e d there fits (inr (none, _)) = absurd (none l d there fits)

pub first_choices : (entries : List Entry) (place : ℕ) (e : Entry) (first_i first_r : Selector) (i r answer_i answer_r : List Selector)
    → slice_get entries place ≡ Some e → FitsFirst (first_i ∷ i) (first_r ∷ r) e → FitsSelectorFields first_i → FitsSelectorFields first_r
    → IsNarrowing entries (first_i ∷ i) (first_r ∷ r) answer_i answer_r → (slice_get answer_i 0 ≡ Some first_i) × (slice_get answer_r 0 ≡ Some first_r)
first_choices entries place e first_i first_r i r answer_i answer_r there fits fields_i fields_r n =
    let chosen = chosen_first entries (first_i ∷ i) (first_r ∷ r) n.place place n.entry e there fits n.chosen in
    (first_kept (remote_side n.entry) first_i i answer_i fields_i chosen.remote n.narrowed_i, first_kept (local_side n.entry) first_r r answer_r fields_r chosen.local n.narrowed_r)

-- answers lie inside their offer and the policy

protects_chosen : (entries : List Entry) (i r : List Selector) (k : ℕ) (e : Entry) → IsChosenEntry entries i r k e → (slice_get entries k ≡ Some e) × (e.action ≡ Protect)
protects_chosen entries i r k e (inl one) = (one.there, one.holds.protects)
protects_chosen entries i r k e (inr (_, one)) = (one.there, one.holds.protects)

answers_offer : (side : Selector) (offered answer : List Selector) → IsNarrowed side offered answer → HasAllCommonPoints side offered answer → MeetsOffer side offered → AnswersOffer answer offered
answers_offer side offered answer narrowed points meeting = record {
  some = some_answer offered answer side points meeting;
  each = λ k s there.
      let kept = part_kept side offered answer narrowed k s there in
      record { some = kept.common.some; place = kept.place; selector = kept.selector; there = kept.there; inside = λ p held. ((kept.common.points p).0 held).0 };
}

pub answer_offers : (entries : List Entry) (i r answer_i answer_r : List Selector) → IsNarrowing entries i r answer_i answer_r → AnswersOffer answer_i i × AnswersOffer answer_r r
answer_offers entries i r answer_i answer_r n =
    let meeting = chosen_meets entries i r n.place n.entry n.chosen in
    (answers_offer (remote_side n.entry) i answer_i n.narrowed_i n.points_i meeting.0, answers_offer (local_side n.entry) r answer_r n.narrowed_r n.points_r meeting.1)

in_side : (side : Selector) (offered answer : List Selector) → IsNarrowed side offered answer → LieInSide answer side
in_side side offered answer narrowed = λ k s there p held. (((part_kept side offered answer narrowed k s there).common.points p).0 held).1

pub lie_inside_policy : (entries : List Entry) (i r answer_i answer_r : List Selector) → IsNarrowing entries i r answer_i answer_r → LieInsidePolicy entries answer_i answer_r
lie_inside_policy entries i r answer_i answer_r is =
    let chosen = protects_chosen entries i r is.place is.entry is.chosen in
    record {
      place = is.place;
      entry = is.entry;
      there = chosen.0;
      protects = chosen.1;
      side_i = in_side (remote_side is.entry) i answer_i is.narrowed_i;
      side_r = in_side (local_side is.entry) r answer_r is.narrowed_r;
    }

-- flows between two families

no_mixed : (e : Entry) (f : Flow) (d : Direction) → IsSoundEntry e → HoldsFlow d f e → family_of f.source ≡ family_of f.target
no_mixed e f Outward sound held = sym (family_held e.local f.source held.0.address) ∙ sound.family ∙ family_held e.remote f.target held.1.address
no_mixed e f Inward sound held = sym (family_held e.remote f.source held.0.address) ∙ sym sound.family ∙ family_held e.local f.target held.1.address

pub mixed_discarded : (entries : List Entry) (f : Flow) (d : Direction) (a : Action) → IsSoundPolicy entries → family_of f.source ≢ family_of f.target → IsDecision entries f d a → a ≡ Discard
mixed_discarded entries f d a sound mixed (inl one) = absurd (mixed (no_mixed one.entry f d (sound.each one.place one.entry one.first.there) one.first.holds))
mixed_discarded entries f d a sound mixed (inr (_, discard)) = discard
