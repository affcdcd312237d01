-- What becomes of a packet on its way out (RFC 4301 section 5.1).
use Rattle.std.specs.Prelude.{◌≡◌, ℕ, List, [], Some}
use Rattle.base.specs.Addresses.{family_of}
use Rattle.base.specs.Octets.{Octets}
use Rattle.esp.specs.Sealing.{HasNumber}
use Rattle.esp.specs.declared.fault.EspFault.TheVariants.{Exhausted}
use Rattle.flows.specs.declared.treatment.Treatment.{Treatment}
use Rattle.flows.specs.declared.treatment.Treatment.TheVariants as treatments
use Rattle.policy.specs.Decisions.{IsDecision}
use Rattle.policy.specs.Packets.{IsFlowOf, IsInnerRefusal}
use Rattle.policy.specs.declared.entry.Action.{Action}
use Rattle.policy.specs.declared.entry.Action.TheVariants.{Protect, Bypass, Discard}
use Rattle.policy.specs.declared.entry.Entry.{Entry}
use Rattle.policy.specs.declared.flow.Flow.{Flow}
use Rattle.policy.specs.declared.policy.Direction.{Direction}
use Rattle.policy.specs.declared.policy.Direction.TheVariants.{Outward}
use Rattle.sadb.specs.Database.{Carries, Database, IsOutbound, PairMap, SealRefusalAt, SealsAt, pair_at}
use Rattle.sadb.specs.declared.pair.Pair.{Pair}
use Rattle.traffic.specs.NextHeaders.{next_header_of}
use Rattle.traffic.specs.Outcomes.{Outcome, Up, Dummy, Sealed, Clear, Discarded, Dropped}
use Rattle.traffic.specs.declared.fault.PacketFault.TheVariants.{UnknownAssociation, Esp, Inner, OutsideSelectors}

-- the packet has this flow, and this is what the policy does with it
pub record IsDecided (policy : List Entry) (direction : Direction) (packet : Octets) (flow : Flow) (action : Action) : Type 0 where
  pub flow_is : IsFlowOf packet flow
  pub decision : IsDecision policy flow direction action

-- the packet is treated so
pub record IsTreated (policy : List Entry) (direction : Direction) (packet : Octets) (action : Action) : Type 0 where
  pub flow : Flow
  pub decided : IsDecided policy direction packet flow action

-- of the SA pairs that carry the flow one seals the whole packet, and nothing else, as the payload of a
-- packet of its family
pub record IsSealed (old : Database) (flow : Flow) (packet : Octets) (child number : ℕ) (octets : Octets) (new : Database) : Type 0 where
  pub carrier : IsOutbound old.pairs flow child
  pub sealed : SealsAt old child (next_header_of (family_of flow.source)) packet [] number new octets

-- the SA pair that carries the flow has no sequence number left
pub record IsExhausted (old : Database) (flow : Flow) (packet : Octets) : Type 0 where
  pub child : ℕ
  pub carrier : IsOutbound old.pairs flow child
  pub refused : SealRefusalAt old.pairs child packet Exhausted

-- a packet with a flow that is to be protected, where there is memory: it goes sealed or not at all
abbrev pub Protects : Database → Flow → Octets → Outcome → Database → Type 0
Protects old flow packet (Sealed child number octets) new = IsSealed old flow packet child number octets new
Protects old flow packet (Dropped UnknownAssociation) new = ((serial : ℕ) → ¬ Carries old.pairs flow serial) × (new ≡ old)
Protects old flow packet (Dropped (Esp Exhausted)) new = IsExhausted old flow packet × (new ≡ old)
Protects old flow packet (Dropped (Esp fault)) new = ⊥
Protects old flow packet (Dropped (Inner fault)) new = ⊥
Protects old flow packet (Dropped OutsideSelectors) new = ⊥
Protects old flow packet (Clear octets) new = ⊥
Protects old flow packet Discarded new = ⊥
Protects old flow packet (Up child number inner) new = ⊥
Protects old flow packet (Dummy child number) new = ⊥

-- a packet is sent as its flow is to be treated
abbrev pub Departs : Database → Treatment → Flow → Octets → Outcome → Database → Type 0
Departs old (treatments.Carried child) flow packet outcome new = Protects old flow packet outcome new
Departs old treatments.Uncarried flow packet outcome new = Protects old flow packet outcome new
Departs old treatments.Bypassed flow packet outcome new = (outcome ≡ Clear packet) × (new ≡ old)
Departs old treatments.Discarded flow packet outcome new = (outcome ≡ Discarded) × (new ≡ old)

pub record IsProtected (old : Database) (policy : List Entry) (packet : Octets) (outcome : Outcome) (new : Database) : Type 0 where
  pub flow : Flow
  pub decided : IsDecided policy Outward packet flow Protect
  pub protects : Protects old flow packet outcome new

-- What becomes of a packet on its way out, and of the table.
abbrev pub Sends : Database → List Entry → Octets → Outcome → Database → Type 0
Sends old policy packet (Sealed child number octets) new = IsProtected old policy packet (Sealed child number octets) new
Sends old policy packet (Clear octets) new = (octets ≡ packet) × IsTreated policy Outward packet Bypass × (new ≡ old)
Sends old policy packet Discarded new = IsTreated policy Outward packet Discard × (new ≡ old)
Sends old policy packet (Dropped (Inner fault)) new = IsInnerRefusal packet fault × (new ≡ old)
Sends old policy packet (Dropped fault) new = IsProtected old policy packet (Dropped fault) new
Sends old policy packet (Up child number inner) new = ⊥
Sends old policy packet (Dummy child number) new = ⊥

-- the SA pair with this serial has a sequence number left
pub record HasNumberAt (pairs : PairMap) (serial : ℕ) : Type 0 where
  pub pair : Pair
  pub there : pair_at pairs serial ≡ Some pair
  pub has_number : HasNumber pair.outbound

-- an SA pair carries the flow, and has a sequence number left
pub record HasUnspentCarrier (table : Database) (flow : Flow) : Type 0 where
  pub child : ℕ
  pub carrier : IsOutbound table.pairs flow child
  pub number : HasNumberAt table.pairs child

-- the packet is to be protected, and there is an SA pair for it that has a sequence number left: only then
-- memory is asked for
pub record IsToBeSealed (table : Database) (policy : List Entry) (packet : Octets) : Type 0 where
  pub flow : Flow
  pub decided : IsDecided policy Outward packet flow Protect
  pub carrier : HasUnspentCarrier table flow
