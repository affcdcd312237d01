-- Packets on their way out whose ESP packets are appended to a buffer.
use Rattle.std.proofs.Common.{◌≡◌, ◌≤◌, ℕ, ◌++◌, List, [], length, take, drop, refl, sym, ap, ◌∙◌, subst, take-append-drop}
use Rattle.std.proofs.lemmas.List.{append-nil, drop_at, length-take-le, take_at}
use Rattle.std.specs.Borrow.{Bor}
use Rattle.std.specs.Prelude.{Result, Ok, Err, IfErr, IfOk}
use Rattle.base.specs.Addresses.{family_of}
use Rattle.base.specs.Octets.{Octets}
use Rattle.esp.specs.Sealing.{IsSealRefusal}
use Rattle.esp.specs.declared.fault.EspFault.{EspFault}
use Rattle.esp.specs.declared.fault.EspFault.TheVariants as refusals
use Rattle.flows.specs.Treatments.{action_of, IsCarriedSo}
use Rattle.flows.specs.declared.treatment.Treatment.{Treatment}
use Rattle.flows.specs.declared.treatment.Treatment.TheVariants as treatments
use Rattle.policy.specs.Decisions.{IsDecision}
use Rattle.policy.specs.Packets.{IsFlowOf}
use Rattle.policy.specs.declared.entry.Entry.{Entry}
use Rattle.policy.specs.declared.flow.Flow.{Flow}
use Rattle.policy.specs.declared.policy.Direction.TheVariants.{Outward}
use Rattle.sadb.specs.Database.{Database, IsOutbound, PairMap, SealRefusalAt, SealsAt}
use Rattle.sadb.specs.Laying.{finished_at, finished_at_behind}
use Rattle.traffic.specs.Behind.{DepartsBehind, LaysBehind, ProtectsBehind, SendsBehind}
use Rattle.traffic.specs.Laying.{finished_outcome}
use Rattle.traffic.specs.NextHeaders.{next_header_of}
use Rattle.traffic.specs.Outcomes.{Outcome, outcome_of_laid}
use Rattle.traffic.specs.Outcomes as outcomes
use Rattle.traffic.specs.Sending.{Departs, HasNumberAt}
use Rattle.traffic.specs.declared.departure.Laid.{Laid}
use Rattle.traffic.specs.declared.departure.Laid.TheVariants as laid
use Rattle.traffic.specs.declared.fault.PacketFault.{PacketFault}
use Rattle.traffic.specs.declared.fault.PacketFault.TheVariants.{UnknownAssociation}
use Rattle.traffic.proofs.FollowingLemmas.{Keeps, sent}
use Rattle.traffic.proofs.SendingLemmas.{departs}

-- ---- a packet that is sealed behind other octets

-- it is what was appended, and sealed as it would be by itself
record IsSealedAlone (old : Database) (serial next : ℕ) (payload before : Octets) (number : ℕ) (new : Database) (after : Octets) : Type 0 where
  after_is : after ≡ before ++ drop (length before) after
  sealed : SealsAt old serial next payload [] number new (finished_at new.pairs serial number (drop (length before) after))

sealed_alone : (old : Database) (serial next : ℕ) (payload before : Octets) (number : ℕ) (new : Database) (after : Octets) → length before ≤ length after
    → SealsAt old serial next payload before number new (finished_at_behind (length before) new.pairs serial number after) → IsSealedAlone old serial next payload before number new after
sealed_alone old serial next payload before number new after within is =
    let n : ℕ = length before in
    let s = is.sealed in
    let first : Octets = take n after in
    let rest : Octets = finished_at new.pairs serial number (drop n after) in
    let long : length first ≡ n = length-take-le n after within in
    let whole : first ++ rest ≡ before ++ s.packet = s.appended in
    let front : first ≡ before = sym (take_at first rest n long) ∙ ap (take n) whole ∙ take_at before s.packet n refl in
    let back : rest ≡ s.packet = sym (drop_at first rest n long) ∙ ap (drop n) whole ∙ drop_at before s.packet n refl in
    record {
      after_is = sym (take-append-drop n after) ∙ ap (λ (xs : Octets). xs ++ drop n after) front;
      sealed = record {
        pair = is.pair;
        outbound = is.outbound;
        sealed = record { has_number = s.has_number; fits = s.fits; number = s.number; last = s.last; packet = s.packet; appended = back; shortest = s.shortest };
        changed = is.changed;
      };
    }

pub protects_sealed : (old : Database) (flow : Flow) (packet before : Octets) (child next number : ℕ) (new : Database) (after : Octets)
    → IsOutbound old.pairs flow child → next ≡ next_header_of (family_of flow.source) → length before ≤ length after
    → SealsAt old child next packet before number new (finished_at_behind (length before) new.pairs child number after)
    → ProtectsBehind old flow packet before (laid.Sealed child number) new after
protects_sealed old flow packet before child next number new after carrier next_is within is =
    let alone = sealed_alone old child next packet before number new after within is in
    record {
      appended = drop (length before) after;
      after_is = alone.after_is;
      is_appended = tt;
      became = record {
        carrier = carrier;
        sealed = subst (λ (k : ℕ). SealsAt old child k packet [] number new (finished_at new.pairs child number (drop (length before) after))) next_is alone.sealed;
      };
    }

-- ---- where there is no memory for it

-- an SA pair asks for memory only where it has a number left
pub number_left : (pairs : PairMap) (child : ℕ) (packet : Octets) (fault : EspFault) → fault ≡ refusals.Memory → SealRefusalAt pairs child packet fault → HasNumberAt pairs child
number_left pairs child packet fault is refused = record {
  pair = refused.pair;
  there = refused.there;
  has_number = (subst (IsSealRefusal refused.pair.outbound packet) is refused.refused).0;
}

-- ---- where nothing is appended

nothing_more : (before after : Octets) → after ≡ before → after ≡ before ++ []
nothing_more before after is = is ∙ sym (append-nil before)

-- of a packet that doesn't go protected this becomes
pub lays_nothing : (becomes : Outcome → Type 0) (before : Octets) (fault : PacketFault) (new : Database) → becomes (outcomes.Dropped fault) → LaysBehind becomes before (laid.Dropped fault) new before
lays_nothing becomes before fault new became = record { appended = []; after_is = nothing_more before before refl; is_appended = refl; became = became }

pub lays_clear : (becomes : Outcome → Type 0) (before : Octets) (packet : Bor Octets) (new : Database) → becomes (outcomes.Clear packet.now) → LaysBehind becomes before (laid.Clear packet) new before
lays_clear becomes before packet new became = record { appended = []; after_is = nothing_more before before refl; is_appended = refl; became = became }

pub lays_discarded : (becomes : Outcome → Type 0) (before : Octets) (new : Database) → becomes outcomes.Discarded → LaysBehind becomes before laid.Discarded new before
lays_discarded becomes before new became = record { appended = []; after_is = nothing_more before before refl; is_appended = refl; became = became }

-- ---- what a packet that departs comes to

pub departs_behind : {E : Type 0} (old : Database) (policy : List Entry) (treatment : Treatment) (flow : Flow) (packet before : Octets) (result : Result Laid E) (new : Database) (after : Octets) → IsFlowOf packet flow
    → IsDecision policy flow Outward (action_of treatment) → IfOk result (λ what. DepartsBehind old treatment flow packet before what new after)
    → IfOk result (λ what. SendsBehind old policy packet before what new after)
departs_behind old policy treatment flow packet before (Ok what) new after flow_is decision is = record {
  appended = is.appended;
  after_is = is.after_is;
  is_appended = is.is_appended;
  became = departs old policy treatment flow packet (finished_outcome new.pairs (outcome_of_laid what is.appended)) new flow_is decision is.became;
}
departs_behind old policy treatment flow packet before (Err e) new after flow_is decision is = tt

pub sent_behind : {E : Type 0} (P : Database → Database → Type 0) → Keeps P → (A B C : Type 0) (old : Database) (policy : List Entry) (packet before : Octets) (result : Result Laid E) (new : Database) (after : Octets)
    → IfOk result (λ what. SendsBehind old policy packet before what new after) → IfErr result (λ _. A × B × (new ≡ old) × C) → P old new
sent_behind P keeps A B C old policy packet before (Ok what) new after sends is = sent P keeps old new policy packet (finished_outcome new.pairs (outcome_of_laid what sends.appended)) sends.became
sent_behind P keeps A B C old policy packet before (Err e) new after sends is = subst (P old) (sym is.2) (keeps.same old)

-- ---- a packet in a buffer of its own

pub became_alone : (becomes : Outcome → Type 0) (before : Octets) (what : Laid) (new : Database) (after : Octets) (said : Outcome) → before ≡ [] → said ≡ outcome_of_laid what after
    → LaysBehind becomes before what new after → becomes (finished_outcome new.pairs said)
became_alone becomes before what new after said empty said_is lays =
    let all : after ≡ lays.appended = lays.after_is ∙ ap (λ (xs : Octets). xs ++ lays.appended) empty in
    subst becomes (ap (finished_outcome new.pairs) (ap (outcome_of_laid what) (sym all) ∙ sym said_is)) lays.became

-- ---- each treatment

pub carried_behind : {E : Type 0} (old : Database) (treatment : Treatment) (child : ℕ) (flow : Flow) (packet before : Octets) (result : Result Laid E) (new : Database) (after : Octets) → treatment ≡ treatments.Carried child
    → IfOk result (λ what. ProtectsBehind old flow packet before what new after) → IfOk result (λ what. DepartsBehind old treatment flow packet before what new after)
carried_behind old treatment child flow packet before result new after is protects =
    subst (λ (t : Treatment). IfOk result (λ what. DepartsBehind old t flow packet before what new after)) (sym is) protects

pub uncarried_behind : (old : Database) (treatment : Treatment) (flow : Flow) (packet before : Octets) → treatment ≡ treatments.Uncarried → IsCarriedSo old.pairs flow treatment
    → DepartsBehind old treatment flow packet before (laid.Dropped UnknownAssociation) old before
uncarried_behind old treatment flow packet before is carried =
    let none : IsCarriedSo old.pairs flow treatments.Uncarried = subst (λ (t : Treatment). IsCarriedSo old.pairs flow t) is carried in
    subst (λ (t : Treatment). DepartsBehind old t flow packet before (laid.Dropped UnknownAssociation) old before) (sym is)
    (lays_nothing (λ (o : Outcome). Departs old treatments.Uncarried flow packet o old) before UnknownAssociation old (none, refl))

pub bypassed_behind : (old : Database) (treatment : Treatment) (flow : Flow) (packet : Bor Octets) (before : Octets) → treatment ≡ treatments.Bypassed
    → DepartsBehind old treatment flow packet.now before (laid.Clear packet) old before
bypassed_behind old treatment flow packet before is =
    subst (λ (t : Treatment). DepartsBehind old t flow packet.now before (laid.Clear packet) old before) (sym is)
    (lays_clear (λ (o : Outcome). Departs old treatments.Bypassed flow packet.now o old) before packet old (refl, refl))

pub discarded_behind : (old : Database) (treatment : Treatment) (flow : Flow) (packet before : Octets) → treatment ≡ treatments.Discarded → DepartsBehind old treatment flow packet before laid.Discarded old before
discarded_behind old treatment flow packet before is =
    subst (λ (t : Treatment). DepartsBehind old t flow packet before laid.Discarded old before) (sym is)
    (lays_discarded (λ (o : Outcome). Departs old treatments.Discarded flow packet o old) before old (refl, refl))
