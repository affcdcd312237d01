-- What becomes of a packet that came is determined, and what a refusal leaves behind.
use Rattle.std.proofs.Common.{◌≡◌, ◌≢◌, ◌⊎◌, ℕ, true, false, refl, sym, ap, ◌∙◌, subst, arith, inl, inr}
use Rattle.base.specs.Octets.{Octets}
use Rattle.esp.specs.declared.fault.EspFault.{EspFault}
use Rattle.esp.specs.declared.fault.EspFault.TheVariants.{Exhausted, PayloadSize, BadLength, Old, Replayed, BadNumber, BadIcv, BadPadding, Memory}
use Rattle.std.proofs.lemmas.Bool.{both_ways}
use Rattle.sadb.specs.Database.{ChangesAt, Database, HasInbound, IsInbound, OpensAt, PairMap, RefusesAt, pair_at}
use Rattle.sadb.specs.declared.pair.Pair.{Pair}
use Rattle.traffic.specs.Faults.{is_after_judging}
use Rattle.traffic.specs.Outcomes.{Outcome, Up, Dummy, Sealed, Clear, Discarded, Dropped}
use Rattle.traffic.specs.Receiving.{HasAddressee, IsAddressedTo, IsAddressedToNone, IsNotOpened, IsOpened, IsRejected, IsUnopened, Receives, TakesNumberAt, TakesOneNumber, spi_of}
use Rattle.traffic.specs.Verdicts.{IsVerdict, Verdict, Packet, Nothing, Refused}
use Rattle.traffic.specs.declared.fault.PacketFault.{PacketFault}
use Rattle.traffic.specs.declared.fault.PacketFault.TheVariants.{UnknownAssociation, Esp, Inner, OutsideSelectors}
use Rattle.traffic.proofs.OpeningLemmas.{not_both, one_opened, one_refused, PacketFacts, same_pair}
use Rattle.traffic.proofs.ReceivingLemmas.{addressed_anyway}
use Rattle.traffic.proofs.VerdictLemmas.{one_verdict, FlowFacts}

-- what an outcome is by the verdict
abbrev pub outcome_by : ℕ → ℕ → Verdict → Outcome
outcome_by child number (Packet packet) = Up child number packet
outcome_by child number Nothing = Dummy child number
outcome_by child number (Refused fault) = Dropped fault

-- the three ways of a packet that came: it reaches no SA pair, is not opened, or is opened
pub record IsMissed (old : Database) (packet : Octets) (outcome : Outcome) (new : Database) : Type 0 where
  pub fault : PacketFault
  pub outcome_is : outcome ≡ Dropped fault
  pub missed : IsAddressedToNone old packet fault
  pub unchanged : new ≡ old

pub record IsShut (old : Database) (packet : Octets) (outcome : Outcome) (new : Database) : Type 0 where
  pub fault : EspFault
  pub outcome_is : outcome ≡ Dropped (Esp fault)
  pub shut : IsNotOpened old packet fault new

pub record IsJudgedSo (old : Database) (packet : Octets) (outcome : Outcome) (new : Database) : Type 0 where
  pub child : ℕ
  pub number : ℕ
  pub verdict : Verdict
  pub outcome_is : outcome ≡ outcome_by child number verdict
  pub opened : IsOpened old packet child number verdict new

abbrev pub Ways : Database → Octets → Outcome → Database → Type 0
Ways old packet outcome new = IsMissed old packet outcome new ⊎ (IsShut old packet outcome new ⊎ IsJudgedSo old packet outcome new)

way_unopened : (old : Database) (packet : Octets) (fault : PacketFault) (new : Database) → IsUnopened old packet fault new → IsShut old packet (Dropped fault) new
way_unopened old packet (Esp fault) new is = record { fault = fault; outcome_is = refl; shut = is }
way_unopened old packet (Inner fault) new is = absurd is
way_unopened old packet UnknownAssociation new is = absurd is
way_unopened old packet OutsideSelectors new is = absurd is

pub way_of : (old : Database) (packet : Octets) (outcome : Outcome) (new : Database) → Receives old packet outcome new → Ways old packet outcome new
way_of old packet (Up child number inner) new is = inr (inr (record { child = child; number = number; verdict = Packet inner; outcome_is = refl; opened = is }))
way_of old packet (Dummy child number) new is = inr (inr (record { child = child; number = number; verdict = Nothing; outcome_is = refl; opened = is }))
way_of old packet (Sealed child number octets) new is = absurd is
way_of old packet (Clear octets) new is = absurd is
way_of old packet Discarded new is = absurd is
way_of old packet (Dropped fault) new (inl is) = inl (record { fault = fault; outcome_is = refl; missed = is.0; unchanged = is.1 })
way_of old packet (Dropped fault) new (inr (inl is)) = inr (inl (way_unopened old packet fault new is))
way_of old packet (Dropped fault) new (inr (inr is)) =
    inr (inr (record { child = is.child; number = is.number; verdict = Refused fault; outcome_is = refl; opened = is.opened }))

has_inbound : (pairs : PairMap) (spi : ℕ) (pair : Pair) → IsInbound pairs spi pair → HasInbound pairs spi pair.serial
has_inbound pairs spi pair is = record { pair = pair; there = is.there; its_own = is.its_own }

pub has_addressee : (old : Database) (packet : Octets) (pair : Pair) → IsAddressedTo old packet pair → HasAddressee old packet
has_addressee old packet pair is = record {
  has_spi = is.has_spi;
  serial = pair.serial;
  inbound = has_inbound old.pairs (spi_of packet) pair is.inbound;
}

pub one_pair : (old : Database) (packet : Octets) (a b : Pair) → IsAddressedTo old packet a → IsAddressedTo old packet b → a ≡ b
one_pair old packet a b first second =
    let serial : a.serial ≡ b.serial = second.inbound.only a.serial (has_inbound old.pairs (spi_of packet) a first.inbound) in
    same_pair a b (sym first.inbound.there ∙ ap (pair_at old.pairs) serial ∙ second.inbound.there)

-- a packet that reaches no SA pair has one refusal
one_miss : (old : Database) (packet : Octets) (a b : PacketFault) → IsAddressedToNone old packet a → IsAddressedToNone old packet b → a ≡ b
one_miss old packet (Esp BadLength) (Esp BadLength) x y = refl
one_miss old packet (Esp BadLength) UnknownAssociation x y = let long = y.0 in absurd (omega arith)
one_miss old packet UnknownAssociation (Esp BadLength) x y = let long = x.0 in absurd (omega arith)
one_miss old packet UnknownAssociation UnknownAssociation x y = refl
one_miss old packet (Esp BadLength) (Esp f) x y = absurd y
one_miss old packet UnknownAssociation (Esp f) x y = absurd y
one_miss old packet (Inner a) b x y = absurd x
one_miss old packet OutsideSelectors b x y = absurd x
one_miss old packet a (Inner b) x y = absurd y
one_miss old packet a OutsideSelectors x y = absurd y
one_miss old packet (Esp e) b x y = absurd x

module _ (facts : FlowFacts) (packets : PacketFacts) (old : Database) (packet : Octets) where
  one_judged : (a b : Outcome) (new other : Database) → IsJudgedSo old packet a new → IsJudgedSo old packet b other → (a ≡ b) × (new ≡ other)
  one_judged a b new other x y =
      let pair : y.opened.pair ≡ x.opened.pair = one_pair old packet y.opened.pair x.opened.pair y.opened.addressed x.opened.addressed in
      let child : y.child ≡ x.child = y.opened.child_is ∙ ap (λ (p : Pair). p.serial) pair ∙ sym x.opened.child_is in
      let same = one_opened packets old x.child packet x.number y.number x.opened.next y.opened.next x.opened.payload y.opened.payload new other x.opened.opened
      (subst (λ serial. OpensAt old serial packet y.number y.opened.next y.opened.payload other) child y.opened.opened) in
      let judged : IsVerdict x.opened.next x.opened.payload x.opened.pair.remote x.opened.pair.local y.verdict =
      subst (λ (p : Pair). IsVerdict x.opened.next x.opened.payload p.remote p.local y.verdict) pair
      (subst (λ next. IsVerdict next x.opened.payload y.opened.pair.remote y.opened.pair.local y.verdict) (sym same.next_is)
      (subst (λ payload. IsVerdict y.opened.next payload y.opened.pair.remote y.opened.pair.local y.verdict) (sym same.payload_is) y.opened.verdict_is)) in
      let verdict : x.verdict ≡ y.verdict =
      one_verdict facts x.opened.next x.opened.payload x.opened.pair.remote x.opened.pair.local x.verdict y.verdict x.opened.verdict_is judged in
      (x.outcome_is ∙ (λ i. outcome_by (sym child i) (same.number i) (verdict i)) ∙ sym y.outcome_is, same.table)

  one_shut : (a b : Outcome) (new other : Database) → IsShut old packet a new → IsShut old packet b other → (a ≡ b) × (new ≡ other)
  one_shut a b new other x y =
      let pair : y.shut.pair ≡ x.shut.pair = one_pair old packet y.shut.pair x.shut.pair y.shut.addressed x.shut.addressed in
      let same = one_refused packets old x.shut.pair.serial packet x.fault y.fault new other x.shut.refused
      (subst (λ (p : Pair). RefusesAt old p.serial packet y.fault other) pair y.shut.refused) in
      (x.outcome_is ∙ ap (λ fault. Dropped (Esp fault)) same.0 ∙ sym y.outcome_is, same.1)

  shut_not_judged : (a b : Outcome) (new other : Database) → IsShut old packet a new → IsJudgedSo old packet b other → ⊥
  shut_not_judged a b new other x y =
      let pair : y.opened.pair ≡ x.shut.pair = one_pair old packet y.opened.pair x.shut.pair y.opened.addressed x.shut.addressed in
      let child : y.child ≡ x.shut.pair.serial = y.opened.child_is ∙ ap (λ (p : Pair). p.serial) pair in
      not_both packets old x.shut.pair.serial packet y.number y.opened.next y.opened.payload x.fault other new
      (subst (λ serial. OpensAt old serial packet y.number y.opened.next y.opened.payload other) child y.opened.opened) x.shut.refused

  missed_anyway : (fault : PacketFault) (pair : Pair) → IsAddressedTo old packet pair → IsAddressedToNone old packet fault → ⊥
  missed_anyway fault pair is none = addressed_anyway old packet fault (has_addressee old packet pair is) none

  one_way : (a b : Outcome) (new other : Database) → Ways old packet a new → Ways old packet b other → (a ≡ b) × (new ≡ other)
  one_way a b new other (inl x) (inl y) =
      (x.outcome_is ∙ ap Dropped (one_miss old packet x.fault y.fault x.missed y.missed) ∙ sym y.outcome_is, x.unchanged ∙ sym y.unchanged)
  one_way a b new other (inl x) (inr (inl y)) = absurd (missed_anyway x.fault y.shut.pair y.shut.addressed x.missed)
  one_way a b new other (inl x) (inr (inr y)) = absurd (missed_anyway x.fault y.opened.pair y.opened.addressed x.missed)
  one_way a b new other (inr (inl x)) (inl y) = absurd (missed_anyway y.fault x.shut.pair x.shut.addressed y.missed)
  one_way a b new other (inr (inr x)) (inl y) = absurd (missed_anyway y.fault x.opened.pair x.opened.addressed y.missed)
  one_way a b new other (inr (inl x)) (inr (inl y)) = one_shut a b new other x y
  one_way a b new other (inr (inl x)) (inr (inr y)) = absurd (shut_not_judged a b new other x y)
  one_way a b new other (inr (inr x)) (inr (inl y)) = absurd (shut_not_judged b a other new y x)
  one_way a b new other (inr (inr x)) (inr (inr y)) = one_judged a b new other x y

  pub one_reception : (a b : Outcome) (new other : Database) → Receives old packet a new → Receives old packet b other → (a ≡ b) × (new ≡ other)
  one_reception a b new other x y = one_way a b new other (way_of old packet a new x) (way_of old packet b other y)

-- ---- what a refusal leaves behind

-- a packet that is opened takes its sequence number
opening_takes_one : (old : Database) (packet : Octets) (child number : ℕ) (verdict : Verdict) (new : Database)
    → IsOpened old packet child number verdict new → TakesNumberAt old packet child number new
opening_takes_one old packet child number verdict new is =
    let opened : OpensAt old is.pair.serial packet number is.next is.payload new =
    subst (λ serial. OpensAt old serial packet number is.next is.payload new) is.child_is is.opened in
    let pair : opened.pair ≡ is.pair = same_pair opened.pair is.pair (sym opened.changed.there ∙ is.addressed.inbound.there) in
    record {
      pair = opened.pair;
      addressed = subst (λ (p : Pair). IsAddressedTo old packet p) (sym pair) is.addressed;
      child_is = is.child_is ∙ ap (λ (p : Pair). p.serial) (sym pair);
      judged = opened.opened.judged;
      inbound = opened.inbound;
      taken = opened.opened.taken;
      changed = subst (λ (p : Pair). ChangesAt old p.serial opened.pair (record opened.pair { inbound = opened.inbound }) new) (sym pair) opened.changed;
    }

-- so does one whose padding is wrong
padding_takes_one : (old : Database) (packet : Octets) (new : Database) → IsNotOpened old packet BadPadding new → TakesOneNumber old packet new
padding_takes_one old packet new is =
    let pair : is.refused.pair ≡ is.pair = same_pair is.refused.pair is.pair (sym is.refused.changed.there ∙ is.addressed.inbound.there) in
    record {
      child = is.refused.pair.serial;
      number = is.refused.refused.0;
      takes = record {
        pair = is.refused.pair;
        addressed = subst (λ (p : Pair). IsAddressedTo old packet p) (sym pair) is.addressed;
        child_is = refl;
        judged = is.refused.refused.1.judged;
        inbound = is.refused.inbound;
        taken = is.refused.refused.1.taken;
        changed = subst (λ (p : Pair). ChangesAt old p.serial is.refused.pair (record is.refused.pair { inbound = is.refused.inbound }) new) (sym pair) is.refused.changed;
      };
    }

pub carrying_takes_one : (old : Database) (packet : Octets) (child number : ℕ) (inner : Octets) (new : Database)
    → Receives old packet (Up child number inner) new → TakesNumberAt old packet child number new
carrying_takes_one old packet child number inner new is = opening_takes_one old packet child number (Packet inner) new is

pub dummies_take_one : (old : Database) (packet : Octets) (child number : ℕ) (new : Database)
    → Receives old packet (Dummy child number) new → TakesNumberAt old packet child number new
dummies_take_one old packet child number new is = opening_takes_one old packet child number Nothing new is

rejected_after : (old : Database) (packet : Octets) (fault : PacketFault) (new : Database) → IsRejected old packet fault new → is_after_judging fault ≡ true
rejected_after old packet (Inner fault) new is = refl
rejected_after old packet OutsideSelectors new is = refl
rejected_after old packet UnknownAssociation new is = absurd is.opened.verdict_is
rejected_after old packet (Esp fault) new is = absurd is.opened.verdict_is

missed_before : (old : Database) (packet : Octets) (fault : PacketFault) → IsAddressedToNone old packet fault → is_after_judging fault ≡ false
missed_before old packet (Esp BadLength) is = refl
missed_before old packet UnknownAssociation is = refl
missed_before old packet (Esp fault) is = absurd is
missed_before old packet (Inner fault) is = absurd is
missed_before old packet OutsideSelectors is = absurd is

not_padding : (fault : EspFault) → is_after_judging (Esp fault) ≡ false → fault ≢ BadPadding
not_padding fault before is = let after : is_after_judging (Esp fault) ≡ true = ap (λ f. is_after_judging (Esp f)) is in both_ways _ before after

unopened_before : (old : Database) (packet : Octets) (fault : PacketFault) (new : Database) → IsUnopened old packet fault new → is_after_judging fault ≡ false → new ≡ old
unopened_before old packet (Esp fault) new is before = is.unchanged (not_padding fault before)
unopened_before old packet (Inner fault) new is before = absurd is
unopened_before old packet UnknownAssociation new is before = absurd is
unopened_before old packet OutsideSelectors new is before = absurd is

pub refused_before : (old : Database) (packet : Octets) (fault : PacketFault) (new : Database)
    → Receives old packet (Dropped fault) new → is_after_judging fault ≡ false → new ≡ old
refused_before old packet fault new (inl is) before = is.1
refused_before old packet fault new (inr (inl is)) before = unopened_before old packet fault new is before
refused_before old packet fault new (inr (inr is)) before = absurd (both_ways _ before (rejected_after old packet fault new is))

padding_by : (fault : EspFault) → is_after_judging (Esp fault) ≡ true → fault ≡ BadPadding
padding_by BadPadding is = refl
padding_by Exhausted is = absurd (cc)
padding_by PayloadSize is = absurd (cc)
padding_by BadLength is = absurd (cc)
padding_by Old is = absurd (cc)
padding_by Replayed is = absurd (cc)
padding_by BadNumber is = absurd (cc)
padding_by BadIcv is = absurd (cc)
padding_by Memory is = absurd (cc)

unopened_after : (old : Database) (packet : Octets) (fault : PacketFault) (new : Database) → IsUnopened old packet fault new → is_after_judging fault ≡ true
    → TakesOneNumber old packet new
unopened_after old packet (Esp fault) new is after = padding_takes_one old packet new (subst (λ f. IsNotOpened old packet f new) (padding_by fault after) is)
unopened_after old packet (Inner fault) new is after = absurd is
unopened_after old packet UnknownAssociation new is after = absurd is
unopened_after old packet OutsideSelectors new is after = absurd is

pub refused_after : (old : Database) (packet : Octets) (fault : PacketFault) (new : Database)
    → Receives old packet (Dropped fault) new → is_after_judging fault ≡ true → TakesOneNumber old packet new
refused_after old packet fault new (inl is) after = absurd (both_ways _ (missed_before old packet fault is.0) after)
refused_after old packet fault new (inr (inl is)) after = unopened_after old packet fault new is after
refused_after old packet fault new (inr (inr is)) after =
    record { child = is.child; number = is.number; takes = opening_takes_one old packet is.child is.number (Refused fault) new is.opened }
