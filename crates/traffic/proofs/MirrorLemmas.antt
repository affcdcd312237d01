-- What one end seals the end with the mirrored SA pair delivers.
use Rattle.std.proofs.Common.{◌≡◌, ℕ, ◌%◌, ◌^◌, ◌<◌, ◌≤◌, List, [], ◌∷◌, ◌++◌, length, Some, refl, sym, ap, ◌∙◌, subst, arith, inl, inr}
use Rattle.std.proofs.lemmas.List.{append_assoc}
use Rattle.byteorder.specs.Endian.{big_bytes}
use Rattle.byteorder.specs.Numbers.{big_number-reads_back}
use Rattle.base.specs.Addresses.{family_of}
use Rattle.base.specs.Octets.{Octets}
use Rattle.esp.specs.declared.sa.Sa.{Sa}
use Rattle.esp.specs.Judging.{Judges}
use Rattle.esp.specs.Packet.{check_value, head, IsContents, packet, trailer}
use Rattle.esp.specs.Opening.{HandsUp, Refuses}
use Rattle.esp.specs.Sealing.{FitsPacket, IsShortestPacket, Seals}
use Rattle.esp.specs.Worked.{IsOpenable}
use Rattle.policy.specs.Decisions.{Covers}
use Rattle.policy.specs.Packets.{family_of_packet, family_of_version, IsFlowOf, version_of}
use Rattle.policy.specs.declared.entry.Entry.{Entry}
use Rattle.policy.specs.declared.flow.Flow.{Flow}
use Rattle.sadb.specs.Database.{Database, IsInbound, IsSoundTable, OpensAt, SealsAt, pair_at}
use Rattle.sadb.specs.Mirrors.{Mirrors}
use Rattle.sadb.specs.declared.pair.Pair.{Pair}
use Rattle.traffic.specs.Due.{IsDueAtPair}
use Rattle.traffic.specs.NextHeaders.{next_header_of}
use Rattle.traffic.specs.Outcomes.{Outcome, Up, Sealed}
use Rattle.traffic.specs.Receiving.{IsAddressedTo, Receives, spi_of}
use Rattle.traffic.specs.Sending.{Sends}
use Rattle.traffic.specs.Verdicts.{IsTraffic, IsVerdict, Packet}
use Rattle.traffic.proofs.OpeningLemmas.{before_or_wasted, judged_anyway, PacketFacts, same_pair}
use Rattle.traffic.proofs.ReceivingLemmas.{addressed_anyway}
use Rattle.traffic.proofs.ReceptionLemmas.{has_addressee, one_pair, outcome_by, way_of, Ways}
use Rattle.traffic.proofs.VerdictLemmas.{FlowFacts, one_verdict}

-- what the crates below say of flows, of a packet that came, and of a sealed one
pub record MirrorFacts : Type 0 where
  pub flows : FlowFacts
  pub packets : PacketFacts
  pub openable : (a : Sa) (n next : ℕ) (payload b : Octets) → IsShortestPacket a n next payload b → FitsPacket payload → IsOpenable a n next payload b

-- ---- the SPI of a sealed packet

spi_first : (a : Sa) (n next : ℕ) (payload : Octets) (p : ℕ) → a.spi < 2 ^ 32 → spi_of (packet a n next payload p) ≡ a.spi
spi_first a n next payload p small =
    let low : Octets = big_bytes 4 (n % 2 ^ 32) in
    let check : Octets = check_value a n (head a n ++ payload ++ trailer p next) in
    let split : packet a n next payload p ≡ big_bytes 4 a.spi ++ (low ++ (payload ++ (trailer p next ++ check))) =
    append_assoc (head a n ++ payload) (trailer p next) check
    ∙ append_assoc (head a n) payload (trailer p next ++ check)
    ∙ append_assoc (big_bytes 4 a.spi) low (payload ++ (trailer p next ++ check)) in
    ap spi_of split ∙ big_number-reads_back 4 a.spi (low ++ (payload ++ (trailer p next ++ check))) (omega (arith, small))

-- ---- the family of a packet with a flow

version_is : (b : Octets) (version : ℕ) → 1 ≤ length b → version_of b ≡ version → family_of_packet b ≡ family_of_version version
version_is [] version long is = absurd (omega arith)
version_is (first ∷ others) version long is = ap family_of_version is

family_is : (b : Octets) (f : Flow) → IsFlowOf b f → family_of_packet b ≡ Some (family_of f.source)
family_is b f (inl is) = let long = is.packet.least in version_is b 4 (omega arith) is.packet.version ∙ ap (λ a. Some (family_of a)) (sym is.source)
family_is b f (inr is) = let long = is.packet.least in version_is b 6 (omega arith) is.packet.version ∙ ap (λ a. Some (family_of a)) (sym is.source)

-- ---- the far end

module _ (facts : MirrorFacts) (far : Database) (mirror : Pair) (octets : Octets) (number next : ℕ) (payload : Octets) where
  -- whatever comes of such a packet at an SA pair that judges it
  hands_up : IsAddressedTo far octets mirror → Judges mirror.inbound.association mirror.inbound.window octets number → IsContents octets next payload
      → ((next' : ℕ) (payload' : Octets) → IsContents octets next' payload' → (next' ≡ next) × (payload' ≡ payload))
      → IsVerdict next payload mirror.remote mirror.local (Packet payload)
      → (outcome : Outcome) (new : Database) → Ways far octets outcome new → outcome ≡ Up mirror.serial number payload
  hands_up addressed judged contents no_other verdict outcome new (inl missed) =
      absurd (addressed_anyway far octets missed.fault (has_addressee far octets mirror addressed) missed.missed)
  hands_up addressed judged contents no_other verdict outcome new (inr (inl shut)) =
      let is : shut.shut.refused.pair ≡ mirror =
      same_pair shut.shut.refused.pair shut.shut.pair (sym shut.shut.refused.changed.there ∙ shut.shut.addressed.inbound.there)
      ∙ one_pair far octets shut.shut.pair mirror shut.shut.addressed addressed in
      absurd (elim (before_or_wasted mirror.inbound octets shut.fault shut.shut.refused.inbound
      (subst (λ (p : Pair). Refuses ⊥ p.inbound octets shut.fault shut.shut.refused.inbound) is shut.shut.refused.refused)) [
        | inl before ↦ judged_anyway facts.packets mirror.inbound.association mirror.inbound.window octets number shut.fault judged before.refusal
        | inr wasted ↦ wasted.wasted.contents next payload contents
      ])
  hands_up addressed judged contents no_other verdict outcome new (inr (inr is)) =
      let pair : is.opened.pair ≡ mirror = one_pair far octets is.opened.pair mirror is.opened.addressed addressed in
      let child : is.child ≡ mirror.serial = is.opened.child_is ∙ ap (λ (p : Pair). p.serial) pair in
      let opened : OpensAt far mirror.serial octets is.number is.opened.next is.opened.payload new =
      subst (λ serial. OpensAt far serial octets is.number is.opened.next is.opened.payload new) child is.opened.opened in
      let at : opened.pair ≡ mirror = same_pair opened.pair mirror (sym opened.changed.there ∙ addressed.inbound.there) in
      let up : HandsUp mirror.inbound octets is.number is.opened.next is.opened.payload opened.inbound =
      subst (λ (p : Pair). HandsUp p.inbound octets is.number is.opened.next is.opened.payload opened.inbound) at opened.opened in
      let same_number : is.number ≡ number =
      facts.packets.judged mirror.inbound.association mirror.inbound.window octets is.number number up.judged judged in
      let same = no_other is.opened.next is.opened.payload up.contents in
      let judged_so : IsVerdict next payload mirror.remote mirror.local is.verdict =
      subst (λ (x : Octets). IsVerdict next x mirror.remote mirror.local is.verdict) same.1
      (subst (λ (x : ℕ). IsVerdict x is.opened.payload mirror.remote mirror.local is.verdict) same.0
      (subst (λ (p : Pair). IsVerdict is.opened.next is.opened.payload p.remote p.local is.verdict) pair is.opened.verdict_is)) in
      is.outcome_is
      ∙ (λ i. outcome_by (child i) (same_number i) (one_verdict facts.flows next payload mirror.remote mirror.local is.verdict (Packet payload) judged_so verdict i))

-- ---- both ends

module _ (facts : MirrorFacts) (near near_new : Database) (policy : List Entry) (packet : Octets) (child number : ℕ) (octets : Octets)
    (pair mirror : Pair) (far far_new : Database) (outcome : Outcome) where
  pub mirrored : pair_at near.pairs child ≡ Some pair → Sends near policy packet (Sealed child number octets) near_new → Mirrors pair mirror
      → IsSoundTable far → IsDueAtPair far mirror octets number → Receives far octets outcome far_new → outcome ≡ Up mirror.serial number packet
  mirrored there sends mirrors sound due receives =
      let sealed : SealsAt near child (next_header_of (family_of sends.flow.source)) packet [] number near_new octets = sends.protects.sealed in
      let same : sealed.pair ≡ pair = same_pair sealed.pair pair (sym sealed.changed.there ∙ there) in
      let seals : Seals pair.outbound (next_header_of (family_of sends.flow.source)) packet [] number sealed.outbound octets =
      subst (λ (p : Pair). Seals p.outbound (next_header_of (family_of sends.flow.source)) packet [] number sealed.outbound octets) same sealed.sealed in
      let shortest : IsShortestPacket mirror.inbound.association number (next_header_of (family_of sends.flow.source)) packet octets =
      subst (λ a. IsShortestPacket a number (next_header_of (family_of sends.flow.source)) packet octets) mirrors.outward
      (subst (λ b. IsShortestPacket pair.outbound.association number (next_header_of (family_of sends.flow.source)) packet b) (sym seals.appended) seals.shortest) in
      let is : IsOpenable mirror.inbound.association number (next_header_of (family_of sends.flow.source)) packet octets =
      facts.openable mirror.inbound.association number (next_header_of (family_of sends.flow.source)) packet octets shortest seals.fits in
      let given = sound.spi_given mirror.serial mirror.inbound.association.spi (record { pair = mirror; there = due.found.there; its_own = refl }) in
      let below = given.before_next in let most = sound.start.most in let few = sound.given in
      let spi : spi_of octets ≡ mirror.inbound.association.spi =
      ap spi_of shortest.packet.octets
      ∙ spi_first mirror.inbound.association number (next_header_of (family_of sends.flow.source)) packet shortest.p (omega arith) in
      let long = is.whole.least in
      let addressed : IsAddressedTo far octets mirror = record {
        has_spi = omega arith;
        inbound = subst (λ s. IsInbound far.pairs s mirror) (sym spi) due.found;
      } in
      let carrier = sends.protects.carrier.carries in
      let carries : carrier.pair ≡ pair = same_pair carrier.pair pair (sym carrier.there ∙ there) in
      let covered : Covers mirror.remote mirror.local sends.flow =
      subst (λ ss. Covers ss mirror.local sends.flow) mirrors.local
      (subst (λ ss. Covers pair.local ss sends.flow) mirrors.remote
      (subst (λ (p : Pair). Covers p.local p.remote sends.flow) carries carrier.covered)) in
      let traffic : IsTraffic (next_header_of (family_of sends.flow.source)) packet mirror.remote mirror.local = record {
        flow = sends.flow;
        packet = record {
          named = record { family = family_of sends.flow.source; named = refl; version = family_is packet sends.flow sends.decided.flow_is };
          flow_is = sends.decided.flow_is;
        };
        covered = covered;
      } in
      hands_up facts far mirror octets number (next_header_of (family_of sends.flow.source)) packet addressed
      (record { whole = is.whole; number = due.number_is; in_reach = due.in_reach; new = due.new; intact = is.intact })
      is.contents is.no_other (refl, traffic) outcome far_new (way_of far octets outcome far_new receives)
