-- How a packet that came is answered, and that one that the rule judges is judged.
use Rattle.std.proofs.Common.{◌≡◌, ◌≢◌, ◌⊎◌, ◌<◌, ℕ, false, Some, length, refl, sym, ap, ◌∙◌, subst, arith, inl, inr}
use Rattle.base.specs.Octets.{Octets}
use Rattle.esp.specs.Judging.{IsJudgedLength, Judges}
use Rattle.esp.specs.Opening.{IsOpeningRefusal, Refuses}
use Rattle.esp.specs.Views.{Receiving}
use Rattle.esp.specs.declared.fault.EspFault.{EspFault}
use Rattle.esp.specs.declared.fault.EspFault.TheVariants.{Exhausted, PayloadSize, BadLength, Old, Replayed, BadNumber, BadIcv, BadPadding, Memory}
use Rattle.sadb.specs.Database.{Database, HasInbound, pair_at}
use Rattle.sadb.specs.declared.pair.Pair.{Pair}
use Rattle.traffic.specs.Faults.{is_after_judging}
use Rattle.traffic.specs.Outcomes.{Outcome, Up, Dummy, Sealed, Clear, Discarded, Dropped}
use Rattle.traffic.specs.Receiving.{IsAddressedTo, IsAddressedToNone, IsNotOpened, IsOpened, IsRejected, IsUnopened, Receives, TakesNumberAt, TakesOneNumber, spi_of}
use Rattle.traffic.specs.Verdicts.{IsVerdict, Verdict, Packet, Nothing, Refused}
use Rattle.traffic.specs.declared.fault.PacketFault.{PacketFault}
use Rattle.traffic.specs.declared.fault.PacketFault.TheVariants.{UnknownAssociation, Esp, Inner, OutsideSelectors}
use Rattle.deliveries.specs.Promises.{HasVerdict, IsAnswerDue}
use Rattle.deliveries.proofs.StepLemmas.{judged_or_away, one_taking, PacketFacts, taking_changes}
use Rattle.deliveries.proofs.TableLemmas.{one_held}
use Rattle.deliveries.proofs.WindowLemmas.{judged_anyway}

-- the SA pair that stands under the serial is the one that a packet is addressed to
addressee : (old : Database) (packet : Octets) (child n : ℕ) (new : Database) (pair : Pair) → TakesNumberAt old packet child n new → pair_at old.pairs child ≡ Some pair
    → IsAddressedTo old packet pair
addressee old packet child n new pair takes stands =
    let same : takes.pair ≡ pair = one_held takes.pair pair (sym takes.addressed.inbound.there ∙ sym (ap (pair_at old.pairs) takes.child_is) ∙ stands) in
    subst (λ (p : Pair). IsAddressedTo old packet p) same takes.addressed

module _ (facts : PacketFacts) (old : Database) (packet : Octets) (child n : ℕ) (new : Database) (takes : TakesNumberAt old packet child n new)
    (pair : Pair) (stands : pair_at old.pairs child ≡ Some pair) where
  one_pair : (other : Pair) → IsAddressedTo old packet other → other ≡ pair
  one_pair other is = facts.inbound old.pairs (spi_of packet) other pair is.inbound (addressee old packet child n new pair takes stands).inbound

  verdict_of_opened : (by under : ℕ) (verdict : Verdict) → IsOpened old packet by under verdict new → HasVerdict pair packet verdict
  verdict_of_opened by under verdict is = record {
    next = is.next;
    payload = is.payload;
    contents = is.opened.opened.contents;
    verdict_is = subst (λ (p : Pair). IsVerdict is.next is.payload p.remote p.local verdict) (one_pair is.pair is.addressed) is.verdict_is;
  }

  reached : (fault : PacketFault) → IsAddressedToNone old packet fault → ⊥
  reached (Esp BadLength) is = let long = takes.addressed.has_spi in let short = is in absurd (omega arith)
  reached (Esp fault) is = is
  reached UnknownAssociation is =
      is.1 takes.pair.serial (record { pair = takes.pair; there = takes.addressed.inbound.there; its_own = takes.addressed.inbound.its_own })
  reached (Inner fault) is = is
  reached OutsideSelectors is = is

  due_unopened : (fault : EspFault) → IsNotOpened old packet fault new → (fault ≢ BadPadding → ⊥) → IsAnswerDue child n pair packet (Dropped (Esp fault))
  due_unopened BadPadding is not = is.refused.refused.1.contents
  due_unopened Exhausted is not = absurd (not (λ e. absurd (cc)))
  due_unopened PayloadSize is not = absurd (not (λ e. absurd (cc)))
  due_unopened BadLength is not = absurd (not (λ e. absurd (cc)))
  due_unopened Old is not = absurd (not (λ e. absurd (cc)))
  due_unopened Replayed is not = absurd (not (λ e. absurd (cc)))
  due_unopened BadNumber is not = absurd (not (λ e. absurd (cc)))
  due_unopened BadIcv is not = absurd (not (λ e. absurd (cc)))
  due_unopened Memory is not = absurd (not (λ e. absurd (cc)))

  due_dropped : (fault : PacketFault) → IsUnopened old packet fault new ⊎ IsRejected old packet fault new → IsAnswerDue child n pair packet (Dropped fault)
  due_dropped (Esp fault) (inl is) = due_unopened fault is (λ other. taking_changes old packet child n new takes (is.unchanged other))
  due_dropped (Inner fault) (inl is) = absurd is
  due_dropped UnknownAssociation (inl is) = absurd is
  due_dropped OutsideSelectors (inl is) = absurd is
  due_dropped (Esp fault) (inr is) = absurd is.opened.verdict_is
  due_dropped UnknownAssociation (inr is) = absurd is.opened.verdict_is
  due_dropped (Inner fault) (inr is) = verdict_of_opened is.child is.number (Refused (Inner fault)) is.opened
  due_dropped OutsideSelectors (inr is) = verdict_of_opened is.child is.number (Refused OutsideSelectors) is.opened

  pub due : (outcome : Outcome) → Receives old packet outcome new → IsAnswerDue child n pair packet outcome
  due (Up by under inner) is =
      let one = one_taking facts old packet by child under n new new (facts.up old new packet inner by under is) takes in
      (one.child_is, one.number_is, verdict_of_opened by under (Packet inner) is)
  due (Dummy by under) is =
      let one = one_taking facts old packet by child under n new new (facts.dummy old new packet by under is) takes in
      (one.child_is, one.number_is, verdict_of_opened by under Nothing is)
  due (Dropped fault) (inl is) = absurd (reached fault is.0)
  due (Dropped fault) (inr is) = due_dropped fault is
  due (Sealed by under octets) is = is
  due (Clear octets) is = is
  due Discarded is = is

-- the refusal of a packet that comes to an SA pair
pub record IsShut (pair : Pair) (packet : Octets) (fault : PacketFault) : Type 0 where
  pub refusal : EspFault
  pub fault_is : fault ≡ Esp refusal
  pub why : IsOpeningRefusal pair.inbound.association pair.inbound.window packet refusal

module _ (old : Database) (packet : Octets) (child : ℕ) (pair : Pair) (stands : pair_at old.pairs child ≡ Some pair)
    (its_own : spi_of packet ≡ pair.inbound.association.spi) where
  inbound_there : HasInbound old.pairs (spi_of packet) child
  inbound_there = record { pair = pair; there = stands; its_own = sym its_own }

  same_addressee : (other : Pair) → IsAddressedTo old packet other → other ≡ pair
  same_addressee other is =
      let serial : child ≡ other.serial = is.inbound.only child inbound_there in
      one_held other pair (sym is.inbound.there ∙ sym (ap (pair_at old.pairs) serial) ∙ stands)

  too_short : length packet < 4 → ¬ IsJudgedLength (length packet)
  too_short short whole = let long = whole.least in omega arith

  unreached : (fault : PacketFault) → IsAddressedToNone old packet fault → IsShut pair packet fault
  unreached (Esp BadLength) is = record { refusal = BadLength; fault_is = refl; why = too_short is }
  unreached (Esp fault) is = absurd is
  unreached UnknownAssociation is = absurd (is.1 child inbound_there)
  unreached (Inner fault) is = absurd is
  unreached OutsideSelectors is = absurd is

  refusal_of : (r : Receiving) (fault : EspFault) (new : Receiving) → is_after_judging (Esp fault) ≡ false → Refuses ⊥ r packet fault new
      → IsOpeningRefusal r.association r.window packet fault
  refusal_of r BadPadding new before is = absurd (cc)
  refusal_of r Memory new before is = absurd is.0
  refusal_of r BadLength new before is = is.0
  refusal_of r BadNumber new before is = is.0
  refusal_of r Old new before is = is.0
  refusal_of r Replayed new before is = is.0
  refusal_of r BadIcv new before is = is.0
  refusal_of r Exhausted new before is = is.0
  refusal_of r PayloadSize new before is = is.0

  unopened : (fault : PacketFault) (new : Database) → is_after_judging fault ≡ false → IsUnopened old packet fault new → IsShut pair packet fault
  unopened (Esp fault) new before is =
      let addressed : is.pair ≡ pair = same_addressee is.pair is.addressed in
      let refusing : is.refused.pair ≡ pair = one_held is.refused.pair is.pair (sym is.refused.changed.there ∙ is.addressed.inbound.there) ∙ addressed in
      record {
        refusal = fault;
        fault_is = refl;
        why =
            subst (λ (p : Pair). IsOpeningRefusal p.inbound.association p.inbound.window packet fault) refusing
            (refusal_of is.refused.pair.inbound fault is.refused.inbound before is.refused.refused);
      }
  unopened (Inner fault) new before is = absurd is
  unopened UnknownAssociation new before is = absurd is
  unopened OutsideSelectors new before is = absurd is

  rejected : (fault : PacketFault) (new : Database) → is_after_judging fault ≡ false → IsRejected old packet fault new → ⊥
  rejected (Esp fault) new before is = is.opened.verdict_is
  rejected UnknownAssociation new before is = is.opened.verdict_is
  rejected (Inner fault) new before is = cc
  rejected OutsideSelectors new before is = cc

  pub shut : (fault : PacketFault) (new : Database) → is_after_judging fault ≡ false → Receives old packet (Dropped fault) new → IsShut pair packet fault
  shut fault new before (inl is) = unreached fault is.0
  shut fault new before (inr (inl is)) = unopened fault new before is
  shut fault new before (inr (inr is)) = absurd (rejected fault new before is)

  -- one that its window would judge is judged, as this number of this Child SA
  module _ (facts : PacketFacts) (n : ℕ) (judged : Judges pair.inbound.association pair.inbound.window packet n) where
    so_taken : (new : Database) → TakesOneNumber old packet new → TakesNumberAt old packet child n new
    so_taken new t =
        let same : t.takes.pair ≡ pair = same_addressee t.takes.pair t.takes.addressed in
        let serial : t.child ≡ child = t.takes.child_is ∙ sym (t.takes.addressed.inbound.only child inbound_there) in
        let number : t.number ≡ n =
        facts.judged pair.inbound.association pair.inbound.window packet t.number n
        (subst (λ (p : Pair). Judges p.inbound.association p.inbound.window packet t.number) same t.takes.judged) judged in
        subst (λ (k : ℕ). TakesNumberAt old packet child k new) number (subst (λ (c : ℕ). TakesNumberAt old packet c t.number new) serial t.takes)

    pub judged_so : (outcome : Outcome) (new : Database) → Receives old packet outcome new → TakesNumberAt old packet child n new
    judged_so outcome new is = elim (judged_or_away facts old packet outcome new is) [
      | inl t ↦ so_taken new t
      | inr away ↦
          let s = shut away.fault new away.before_judging (subst (λ (o : Outcome). Receives old packet o new) away.dropped is) in
          absurd (judged_anyway facts pair.inbound.association pair.inbound.window packet n s.refusal judged s.why)
    ]

lost_unopened : (old : Database) (packet : Octets) (fault : PacketFault) (new : Database) → IsUnopened old packet fault new
    → ((pair : Pair) → ¬ IsAddressedTo old packet pair) → ⊥
lost_unopened old packet (Esp fault) new is none = none is.pair is.addressed
lost_unopened old packet (Inner fault) new is none = is
lost_unopened old packet UnknownAssociation new is none = is
lost_unopened old packet OutsideSelectors new is none = is

-- a packet that is dropped unjudged and is for no SA pair reaches none
pub lost : (old : Database) (packet : Octets) (fault : PacketFault) (new : Database) → is_after_judging fault ≡ false → Receives old packet (Dropped fault) new
    → ((pair : Pair) → ¬ IsAddressedTo old packet pair) → IsAddressedToNone old packet fault
lost old packet fault new before (inl is) none = is.0
lost old packet fault new before (inr (inl is)) none = absurd (lost_unopened old packet fault new is none)
lost old packet fault new before (inr (inr is)) none = absurd (none is.opened.pair is.opened.addressed)
