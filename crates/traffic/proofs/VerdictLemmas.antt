-- What a next header names, and that there is one verdict on what was opened.
use Rattle.std.proofs.Common.{◌≡◌, ◌≢◌, ◌⊎◌, ◌==◌, ℕ, Bool, true, false, List, Some, None, if◌then◌else◌, refl, sym, ap, ◌∙◌, subst, arith, inl, inr}
use Rattle.std.proofs.lemmas.Bool.{eqb-true}
use Rattle.base.specs.declared.address.Family.{Family}
use Rattle.base.specs.declared.address.Family.TheVariants.{V4, V6}
use Rattle.base.specs.Octets.{Octets}
use Rattle.base.specs.declared.selector.Selector.{Selector}
use Rattle.policy.specs.Decisions.{Covers}
use Rattle.policy.specs.Packets.{IsFlowOf, IsInnerRefusal}
use Rattle.policy.specs.declared.fault.InnerFault.{InnerFault}
use Rattle.policy.specs.declared.fault.InnerFault.TheVariants.{BadInner, Fragment, ExtensionHeader}
use Rattle.policy.specs.declared.flow.Flow.{Flow}
use Rattle.traffic.specs.NextHeaders.{family_under, next_header_of, no_next_header}
use Rattle.traffic.specs.Verdicts.{IsContentRefusal, IsNamedPacket, IsOtherTraffic, IsTraffic, IsVerdict, Verdict, Packet, Nothing, Refused}
use Rattle.traffic.specs.declared.fault.PacketFault.{PacketFault}
use Rattle.traffic.specs.declared.fault.PacketFault.TheVariants.{UnknownAssociation, Esp, Inner, OutsideSelectors}

named_by : (next : ℕ) (four six : Bool) → (four ≡ true → next ≡ 4) → (six ≡ true → next ≡ 41) → (family : Family)
    → (if four then Some V4 else if six then Some V6 else None) ≡ Some family → next ≡ next_header_of family
named_by next true six is_4 is_41 V4 is = is_4 refl
named_by next true six is_4 is_41 V6 is = absurd (cc)
named_by next false true is_4 is_41 V4 is = absurd (cc)
named_by next false true is_4 is_41 V6 is = is_41 refl
named_by next false false is_4 is_41 V4 is = absurd (cc)
named_by next false false is_4 is_41 V6 is = absurd (cc)

-- a next header under which packets of a family come is the family's own
pub named : (next : ℕ) (family : Family) → family_under next ≡ Some family → next ≡ next_header_of family
named next family is = named_by next (next == 4) (next == 41) (eqb-true next 4) (eqb-true next 41) family is

-- ---- a verdict is determined

-- what policy's law on flows says
pub record FlowFacts : Type 0 where
  pub flow : (b : Octets) (f g : Flow) → IsFlowOf b f → IsFlowOf b g → f ≡ g
  pub refusal : (b : Octets) (one other : InnerFault) → IsInnerRefusal b one → IsInnerRefusal b other → one ≡ other
  pub apart : (b : Octets) (f : Flow) (fault : InnerFault) → IsFlowOf b f → ¬ IsInnerRefusal b fault

header_of_a_packet : (family : Family) → next_header_of family ≢ no_next_header
header_of_a_packet V4 is = absurd (omega (arith, is))
header_of_a_packet V6 is = absurd (omega (arith, is))

no_dummy : (next : ℕ) (payload : Octets) → IsNamedPacket next payload → next ≢ no_next_header
no_dummy next payload named is = header_of_a_packet named.family (sym named.named ∙ is)

module _ (facts : FlowFacts) (next : ℕ) (payload : Octets) (remote local : List Selector) where
  taken_not_refused : (fault : PacketFault) → IsTraffic next payload remote local → IsContentRefusal next payload remote local fault → ⊥
  taken_not_refused (Inner BadInner) traffic (_, inl not_named) = not_named traffic.packet.named
  taken_not_refused (Inner BadInner) traffic (_, inr refused) = facts.apart payload traffic.flow BadInner traffic.packet.flow_is refused
  taken_not_refused (Inner Fragment) traffic refused = facts.apart payload traffic.flow Fragment traffic.packet.flow_is refused.1
  taken_not_refused (Inner ExtensionHeader) traffic refused = facts.apart payload traffic.flow ExtensionHeader traffic.packet.flow_is refused.1
  taken_not_refused OutsideSelectors traffic other =
      let same = facts.flow payload traffic.flow other.flow traffic.packet.flow_is other.packet.flow_is in
      other.not_covered (subst (λ (f : Flow). Covers remote local f) same traffic.covered)
  taken_not_refused UnknownAssociation traffic refused = refused
  taken_not_refused (Esp fault) traffic refused = refused

  dummy_not_refused : (fault : PacketFault) → next ≡ no_next_header → IsContentRefusal next payload remote local fault → ⊥
  dummy_not_refused (Inner BadInner) is refused = refused.0 is
  dummy_not_refused (Inner Fragment) is refused = no_dummy next payload refused.0 is
  dummy_not_refused (Inner ExtensionHeader) is refused = no_dummy next payload refused.0 is
  dummy_not_refused OutsideSelectors is other = no_dummy next payload other.packet.named is
  dummy_not_refused UnknownAssociation is refused = refused
  dummy_not_refused (Esp fault) is refused = refused

  -- a payload that is not whole, and one that is refused for another reason
  not_whole : (fault : InnerFault) → (¬ IsNamedPacket next payload) ⊎ IsInnerRefusal payload BadInner → IsNamedPacket next payload
      → IsInnerRefusal payload fault → BadInner ≡ fault
  not_whole fault (inl not_named) named refused = absurd (not_named named)
  not_whole fault (inr whole) named refused = facts.refusal payload BadInner fault whole refused

  inner_not_other : (fault : InnerFault) → IsContentRefusal next payload remote local (Inner fault) → IsOtherTraffic next payload remote local → ⊥
  inner_not_other BadInner (_, inl not_named) other = not_named other.packet.named
  inner_not_other BadInner (_, inr refused) other = facts.apart payload other.flow BadInner other.packet.flow_is refused
  inner_not_other Fragment refused other = facts.apart payload other.flow Fragment other.packet.flow_is refused.1
  inner_not_other ExtensionHeader refused other = facts.apart payload other.flow ExtensionHeader other.packet.flow_is refused.1

  one_inner_refusal : (a b : InnerFault) → IsContentRefusal next payload remote local (Inner a) → IsContentRefusal next payload remote local (Inner b) → a ≡ b
  one_inner_refusal BadInner BadInner x y = refl
  one_inner_refusal BadInner Fragment x y = not_whole Fragment x.1 y.0 y.1
  one_inner_refusal BadInner ExtensionHeader x y = not_whole ExtensionHeader x.1 y.0 y.1
  one_inner_refusal Fragment BadInner x y = sym (not_whole Fragment y.1 x.0 x.1)
  one_inner_refusal Fragment Fragment x y = refl
  one_inner_refusal Fragment ExtensionHeader x y = facts.refusal payload Fragment ExtensionHeader x.1 y.1
  one_inner_refusal ExtensionHeader BadInner x y = sym (not_whole ExtensionHeader y.1 x.0 x.1)
  one_inner_refusal ExtensionHeader Fragment x y = facts.refusal payload ExtensionHeader Fragment x.1 y.1
  one_inner_refusal ExtensionHeader ExtensionHeader x y = refl

  one_content_refusal : (a b : PacketFault) → IsContentRefusal next payload remote local a → IsContentRefusal next payload remote local b → a ≡ b
  one_content_refusal (Inner a) (Inner b) x y = ap Inner (one_inner_refusal a b x y)
  one_content_refusal (Inner a) OutsideSelectors x y = absurd (inner_not_other a x y)
  one_content_refusal (Inner a) UnknownAssociation x y = absurd y
  one_content_refusal (Inner a) (Esp fault) x y = absurd y
  one_content_refusal OutsideSelectors (Inner b) x y = absurd (inner_not_other b y x)
  one_content_refusal OutsideSelectors OutsideSelectors x y = refl
  one_content_refusal OutsideSelectors UnknownAssociation x y = absurd y
  one_content_refusal OutsideSelectors (Esp fault) x y = absurd y
  one_content_refusal UnknownAssociation b x y = absurd x
  one_content_refusal (Esp fault) b x y = absurd x

  pub one_verdict : (a b : Verdict) → IsVerdict next payload remote local a → IsVerdict next payload remote local b → a ≡ b
  one_verdict (Packet a) (Packet b) x y = ap Packet (x.0 ∙ sym y.0)
  one_verdict (Packet a) Nothing x y = absurd (no_dummy next payload x.1.packet.named y)
  one_verdict (Packet a) (Refused fault) x y = absurd (taken_not_refused fault x.1 y)
  one_verdict Nothing (Packet b) x y = absurd (no_dummy next payload y.1.packet.named x)
  one_verdict Nothing Nothing x y = refl
  one_verdict Nothing (Refused fault) x y = absurd (dummy_not_refused fault x y)
  one_verdict (Refused fault) (Packet b) x y = absurd (taken_not_refused fault y.1 x)
  one_verdict (Refused fault) Nothing x y = absurd (dummy_not_refused fault y x)
  one_verdict (Refused a) (Refused b) x y = ap Refused (one_content_refusal a b x y)
