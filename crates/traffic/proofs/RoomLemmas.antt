-- Packets on their way out whose ESP packets stand at the beginning of a room.
use Rattle.std.proofs.Common.{◌≡◌, ℕ, List, [], length, take, refl, sym, subst}
use Rattle.std.specs.Borrow.{Bor}
use Rattle.base.specs.Addresses.{family_of}
use Rattle.base.specs.Octets.{Octets}
use Rattle.esp.specs.Laying.{StaysBehind, packet_size}
use Rattle.flows.specs.Treatments.{action_of, IsCarriedSo}
use Rattle.flows.specs.declared.treatment.Treatment.{Treatment}
use Rattle.flows.specs.declared.treatment.Treatment.TheVariants as treatments
use Rattle.policy.specs.Decisions.{IsDecision}
use Rattle.policy.specs.Packets.{IsFlowOf}
use Rattle.policy.specs.declared.entry.Entry.{Entry}
use Rattle.policy.specs.declared.flow.Flow.{Flow}
use Rattle.policy.specs.declared.policy.Direction.TheVariants.{Outward}
use Rattle.sadb.specs.Database.{Database, IsOutbound, SealsAt}
use Rattle.sadb.specs.Laying.{finished_at}
use Rattle.traffic.specs.Behind.{DepartsIn, ProtectsIn, SendsIn, laid_size}
use Rattle.traffic.specs.Laying.{finished_outcome}
use Rattle.traffic.specs.NextHeaders.{next_header_of}
use Rattle.traffic.specs.Outcomes.{outcome_of_laid}
use Rattle.traffic.specs.declared.departure.Laid.{Laid}
use Rattle.traffic.specs.declared.departure.Laid.TheVariants as laid
use Rattle.traffic.specs.declared.fault.PacketFault.TheVariants.{UnknownAssociation}
use Rattle.traffic.proofs.FollowingLemmas.{Keeps, sent}
use Rattle.traffic.proofs.SendingLemmas.{departs}

-- ---- a packet that is sealed in a room

pub protects_in : (old : Database) (flow : Flow) (packet room : Octets) (child next number : ℕ) (new : Database) (filled : Octets)
    → IsOutbound old.pairs flow child → next ≡ next_header_of (family_of flow.source)
    → SealsAt old child next packet [] number new (finished_at new.pairs child number (take (packet_size (length packet)) filled)) → StaysBehind (packet_size (length packet)) room filled
    → ProtectsIn old flow packet room (laid.Sealed child number) new filled
protects_in old flow packet room child next number new filled carrier next_is is behind = record {
  became = record {
    carrier = carrier;
    sealed = subst (λ (k : ℕ). SealsAt old child k packet [] number new (finished_at new.pairs child number (take (packet_size (length packet)) filled))) next_is is;
  };
  behind = behind;
}

-- ---- where nothing is written

untouched : (room : Octets) → StaysBehind 0 room room
untouched room = record { size = refl; rest = refl }

-- ---- what a packet that departs comes to

pub departs_in : (old : Database) (policy : List Entry) (treatment : Treatment) (flow : Flow) (packet room : Octets) (what : Laid) (new : Database) (filled : Octets) → IsFlowOf packet flow
    → IsDecision policy flow Outward (action_of treatment) → DepartsIn old treatment flow packet room what new filled → SendsIn old policy packet room what new filled
departs_in old policy treatment flow packet room what new filled flow_is decision is = record {
  became = departs old policy treatment flow packet (finished_outcome new.pairs (outcome_of_laid what (take (laid_size what (length packet)) filled))) new flow_is decision is.became;
  behind = is.behind;
}

pub sent_in : (P : Database → Database → Type 0) → Keeps P → (old : Database) (policy : List Entry) (packet room : Octets) (what : Laid) (new : Database) (filled : Octets)
    → SendsIn old policy packet room what new filled → P old new
sent_in P keeps old policy packet room what new filled is = sent P keeps old new policy packet (finished_outcome new.pairs (outcome_of_laid what (take (laid_size what (length packet)) filled))) is.became

-- ---- each treatment

pub carried_in : (old : Database) (treatment : Treatment) (child : ℕ) (flow : Flow) (packet room : Octets) (what : Laid) (new : Database) (filled : Octets) → treatment ≡ treatments.Carried child
    → ProtectsIn old flow packet room what new filled → DepartsIn old treatment flow packet room what new filled
carried_in old treatment child flow packet room what new filled is protects = subst (λ (t : Treatment). DepartsIn old t flow packet room what new filled) (sym is) protects

pub uncarried_in : (old : Database) (treatment : Treatment) (flow : Flow) (packet room : Octets) → treatment ≡ treatments.Uncarried → IsCarriedSo old.pairs flow treatment
    → DepartsIn old treatment flow packet room (laid.Dropped UnknownAssociation) old room
uncarried_in old treatment flow packet room is carried =
    let none : IsCarriedSo old.pairs flow treatments.Uncarried = subst (λ (t : Treatment). IsCarriedSo old.pairs flow t) is carried in
    subst (λ (t : Treatment). DepartsIn old t flow packet room (laid.Dropped UnknownAssociation) old room) (sym is) (record { became = (none, refl); behind = untouched room })

pub bypassed_in : (old : Database) (treatment : Treatment) (flow : Flow) (packet : Bor Octets) (room : Octets) → treatment ≡ treatments.Bypassed → DepartsIn old treatment flow packet.now room (laid.Clear packet) old room
bypassed_in old treatment flow packet room is =
    subst (λ (t : Treatment). DepartsIn old t flow packet.now room (laid.Clear packet) old room) (sym is) (record { became = (refl, refl); behind = untouched room })

pub discarded_in : (old : Database) (treatment : Treatment) (flow : Flow) (packet room : Octets) → treatment ≡ treatments.Discarded → DepartsIn old treatment flow packet room laid.Discarded old room
discarded_in old treatment flow packet room is =
    subst (λ (t : Treatment). DepartsIn old t flow packet room laid.Discarded old room) (sym is) (record { became = (refl, refl); behind = untouched room })
