-- What becomes of a packet on its way out, and of one that came in unprotected, is determined.
use Rattle.std.proofs.Common.{◌≡◌, ◌⊎◌, ℕ, ◌++◌, List, [], refl, sym, ap, ◌∙◌, subst, arith, inl, inr}
use Rattle.base.specs.Addresses.{family_of}
use Rattle.base.specs.Octets.{Octets}
use Rattle.std.specs.FinMap as map
use Rattle.esp.specs.Sealing.{HasNumber, IsShortestPacket, Seals}
use Rattle.esp.specs.Packet.{packet}
use Rattle.esp.specs.Views.{Sending}
use Rattle.esp.specs.declared.sa.Sa.{Sa}
use Rattle.esp.specs.declared.fault.EspFault.TheVariants.{Exhausted}
use Rattle.policy.specs.Decisions.{IsDecision}
use Rattle.flows.specs.Treatments.{action_of}
use Rattle.flows.specs.declared.treatment.Treatment.{Treatment}
use Rattle.flows.specs.declared.treatment.Treatment.TheVariants as treatments
use Rattle.policy.specs.Packets.{IsFlowOf, IsInnerRefusal}
use Rattle.policy.specs.declared.entry.Action.{Action}
use Rattle.policy.specs.declared.entry.Action.TheVariants.{Protect, Bypass, Discard}
use Rattle.policy.specs.declared.entry.Entry.{Entry}
use Rattle.policy.specs.declared.fault.InnerFault.{InnerFault}
use Rattle.policy.specs.declared.flow.Flow.{Flow}
use Rattle.policy.specs.declared.policy.Direction.{Direction}
use Rattle.policy.specs.declared.policy.Direction.TheVariants.{Outward, Inward}
use Rattle.sadb.specs.Database.{Carries, Database, IsOutbound, PairMap, SealRefusalAt, SealsAt}
use Rattle.sadb.specs.declared.pair.Pair.{Pair}
use Rattle.traffic.specs.Admitting.{Admits}
use Rattle.traffic.specs.NextHeaders.{next_header_of}
use Rattle.std.specs.Prelude.{Result, Ok, Err, IfErr, IfOk}
use Rattle.traffic.specs.declared.departure.Departure.{Departure}
use Rattle.traffic.specs.Outcomes.{Outcome, Up, Dummy, Sealed, Clear, Discarded, Dropped}
use Rattle.traffic.specs.Sending.{Departs, IsDecided, IsExhausted, IsProtected, IsSealed, IsTreated, Protects, Sends}
use Rattle.traffic.specs.declared.fault.PacketFault.TheVariants.{UnknownAssociation, Esp, Inner, OutsideSelectors}
use Rattle.traffic.proofs.FollowingLemmas.{Keeps, sent}
use Rattle.traffic.proofs.OpeningLemmas.{same_pair}
use Rattle.traffic.proofs.VerdictLemmas.{FlowFacts}

-- what the laws of policy say of decisions, and that of sadb of SA pairs
pub record DecisionFacts : Type 0 where
  pub flows : FlowFacts
  pub decision : (entries : List Entry) (f : Flow) (d : Direction) (a b : Action) → IsDecision entries f d a → IsDecision entries f d b → a ≡ b

abbrev pub OneCarrier : Type 0
OneCarrier = (pairs : PairMap) (flow : Flow) (a b : ℕ) → IsOutbound pairs flow a → IsOutbound pairs flow b → a ≡ b

-- ---- one packet is sealed in one way

one_packet : (a : Sa) (n next : ℕ) (payload b c : Octets) → IsShortestPacket a n next payload b → IsShortestPacket a n next payload c → b ≡ c
one_packet a n next payload b c first second =
    let below = first.shortest second.p c second.packet in
    let above = second.shortest first.p b first.packet in
    let same : first.p ≡ second.p = omega arith in
    first.packet.octets ∙ ap (packet a n next payload) same ∙ sym second.packet.octets

record IsSameSealing (n m : ℕ) (new other : Sending) (after after' : Octets) : Type 0 where
  number : n ≡ m
  new_is : new ≡ other
  octets : after ≡ after'

one_sealing : (s : Sending) (next : ℕ) (payload before : Octets) (n m : ℕ) (new other : Sending) (after after' : Octets)
    → Seals s next payload before n new after → Seals s next payload before m other after' → IsSameSealing n m new other after after'
one_sealing s next payload before n m new other after after' first second =
    let number : n ≡ m = first.number ∙ sym second.number in
    record {
      number = number;
      new_is = first.last ∙ ap (λ (k : ℕ). record s { last = k }) number ∙ sym second.last;
      octets = first.appended
          ∙ ap (λ (b : Octets). before ++ b) (one_packet s.association n next payload first.packet second.packet first.shortest
          (subst (λ k. IsShortestPacket s.association k next payload second.packet) (sym number) second.shortest))
          ∙ sym second.appended;
    }

abbrev sealed_table : Database → ℕ → Pair → Sending → Database
sealed_table old serial pair outbound = record old { pairs = map.insert old.pairs serial (record pair { outbound = outbound }) }

record IsOneSealing (n m : ℕ) (new other : Database) (after after' : Octets) : Type 0 where
  number : n ≡ m
  table : new ≡ other
  octets : after ≡ after'

one_sealed : (old : Database) (serial next : ℕ) (payload before : Octets) (n m : ℕ) (new other : Database) (after after' : Octets)
    → SealsAt old serial next payload before n new after → SealsAt old serial next payload before m other after' → IsOneSealing n m new other after after'
one_sealed old serial next payload before n m new other after after' first second =
    let pair : second.pair ≡ first.pair = same_pair second.pair first.pair (sym second.changed.there ∙ first.changed.there) in
    let same = one_sealing first.pair.outbound next payload before n m first.outbound second.outbound after after' first.sealed
    (subst (λ (p : Pair). Seals p.outbound next payload before m second.outbound after') pair second.sealed) in
    record {
      number = same.number;
      table = first.changed.content ∙ (λ i. sealed_table old serial (sym pair i) (same.new_is i)) ∙ sym second.changed.content;
      octets = same.octets;
    }

-- an SA pair that seals is not exhausted
not_exhausted : (old : Database) (serial next : ℕ) (payload before : Octets) (n : ℕ) (new : Database) (after : Octets)
    → SealsAt old serial next payload before n new after → SealRefusalAt old.pairs serial payload Exhausted → ⊥
not_exhausted old serial next payload before n new after is refused =
    let pair : is.pair ≡ refused.pair = same_pair is.pair refused.pair (sym is.changed.there ∙ refused.there) in
    refused.refused (subst (λ (p : Pair). HasNumber p.outbound) pair is.sealed.has_number)

module _ (one_carrier : OneCarrier) (old : Database) (flow : Flow) (packet : Octets) where
  one_seal : (child other_child number other_number : ℕ) (octets other_octets : Octets) (new other : Database)
      → IsSealed old flow packet child number octets new → IsSealed old flow packet other_child other_number other_octets other
      → (Sealed child number octets ≡ Sealed other_child other_number other_octets) × (new ≡ other)
  one_seal child other_child number other_number octets other_octets new other first second =
      let same_child : child ≡ other_child = one_carrier old.pairs flow child other_child first.carrier second.carrier in
      let same = one_sealed old child (next_header_of (family_of flow.source)) packet [] number other_number new other octets other_octets first.sealed
      (subst (λ serial. SealsAt old serial (next_header_of (family_of flow.source)) packet [] other_number other other_octets) (sym same_child) second.sealed) in
      ((λ i. Sealed (same_child i) (same.number i) (same.octets i)), same.table)

  seals_or_not : (child number : ℕ) (octets : Octets) (new : Database) → IsSealed old flow packet child number octets new → IsExhausted old flow packet → ⊥
  seals_or_not child number octets new is exhausted =
      not_exhausted old exhausted.child (next_header_of (family_of flow.source)) packet [] number new octets
      (subst (λ serial. SealsAt old serial (next_header_of (family_of flow.source)) packet [] number new octets)
      (one_carrier old.pairs flow child exhausted.child is.carrier exhausted.carrier) is.sealed) exhausted.refused

  -- the three ways of a packet that is to be protected
  pub record Goes (outcome : Outcome) (new : Database) : Type 0 where
    pub child : ℕ
    pub number : ℕ
    pub octets : Octets
    pub outcome_is : outcome ≡ Sealed child number octets
    pub sealed : IsSealed old flow packet child number octets new

  pub record Lacks (outcome : Outcome) (new : Database) : Type 0 where
    pub outcome_is : outcome ≡ Dropped UnknownAssociation
    pub none : (serial : ℕ) → ¬ Carries old.pairs flow serial
    pub unchanged : new ≡ old

  pub record Spent (outcome : Outcome) (new : Database) : Type 0 where
    pub outcome_is : outcome ≡ Dropped (Esp Exhausted)
    pub exhausted : IsExhausted old flow packet
    pub unchanged : new ≡ old

  protected_way : (outcome : Outcome) (new : Database) → Protects old flow packet outcome new → Goes outcome new ⊎ (Lacks outcome new ⊎ Spent outcome new)
  protected_way (Sealed child number octets) new is = inl (record { child = child; number = number; octets = octets; outcome_is = refl; sealed = is })
  protected_way (Dropped UnknownAssociation) new is = inr (inl (record { outcome_is = refl; none = is.0; unchanged = is.1 }))
  protected_way (Dropped (Esp Exhausted)) new is = inr (inr (record { outcome_is = refl; exhausted = is.0; unchanged = is.1 }))
  protected_way (Dropped (Esp fault)) new is = absurd is
  protected_way (Dropped (Inner fault)) new is = absurd is
  protected_way (Dropped OutsideSelectors) new is = absurd is
  protected_way (Clear octets) new is = absurd is
  protected_way Discarded new is = absurd is
  protected_way (Up child number inner) new is = absurd is
  protected_way (Dummy child number) new is = absurd is

  one_way : (a b : Outcome) (new other : Database) → Goes a new ⊎ (Lacks a new ⊎ Spent a new) → Goes b other ⊎ (Lacks b other ⊎ Spent b other)
      → (a ≡ b) × (new ≡ other)
  one_way a b new other (inl x) (inl y) =
      let same = one_seal x.child y.child x.number y.number x.octets y.octets new other x.sealed y.sealed in
      (x.outcome_is ∙ same.0 ∙ sym y.outcome_is, same.1)
  one_way a b new other (inl x) (inr (inl y)) = absurd (y.none x.child x.sealed.carrier.carries)
  one_way a b new other (inl x) (inr (inr y)) = absurd (seals_or_not x.child x.number x.octets new x.sealed y.exhausted)
  one_way a b new other (inr (inl x)) (inl y) = absurd (x.none y.child y.sealed.carrier.carries)
  one_way a b new other (inr (inl x)) (inr (inl y)) = (x.outcome_is ∙ sym y.outcome_is, x.unchanged ∙ sym y.unchanged)
  one_way a b new other (inr (inl x)) (inr (inr y)) = absurd (x.none y.exhausted.child y.exhausted.carrier.carries)
  one_way a b new other (inr (inr x)) (inl y) = absurd (seals_or_not y.child y.number y.octets other y.sealed x.exhausted)
  one_way a b new other (inr (inr x)) (inr (inl y)) = absurd (y.none x.exhausted.child x.exhausted.carrier.carries)
  one_way a b new other (inr (inr x)) (inr (inr y)) = (x.outcome_is ∙ sym y.outcome_is, x.unchanged ∙ sym y.unchanged)

  pub one_protection : (a b : Outcome) (new other : Database) → Protects old flow packet a new → Protects old flow packet b other → (a ≡ b) × (new ≡ other)
  one_protection a b new other x y = one_way a b new other (protected_way a new x) (protected_way b other y)

-- ---- by the decision

-- the packet is refused, or treated by a decision
record IsRefusedOut (old : Database) (packet : Octets) (outcome : Outcome) (new : Database) : Type 0 where
  fault : InnerFault
  outcome_is : outcome ≡ Dropped (Inner fault)
  refusal : IsInnerRefusal packet fault
  unchanged : new ≡ old

-- what is done with a flow
abbrev Does : Action → Database → Flow → Octets → Outcome → Database → Type 0
Does Protect old flow packet outcome new = Protects old flow packet outcome new
Does Bypass old flow packet outcome new = (outcome ≡ Clear packet) × (new ≡ old)
Does Discard old flow packet outcome new = (outcome ≡ Discarded) × (new ≡ old)

record IsDone (old : Database) (policy : List Entry) (packet : Octets) (outcome : Outcome) (new : Database) : Type 0 where
  flow : Flow
  action : Action
  decided : IsDecided policy Outward packet flow action
  does : Does action old flow packet outcome new

protected_done : (old : Database) (policy : List Entry) (packet : Octets) (outcome : Outcome) (new : Database)
    → IsProtected old policy packet outcome new → IsDone old policy packet outcome new
protected_done old policy packet outcome new is = record { flow = is.flow; action = Protect; decided = is.decided; does = is.protects }

sent_way : (old : Database) (policy : List Entry) (packet : Octets) (outcome : Outcome) (new : Database)
    → Sends old policy packet outcome new → IsRefusedOut old packet outcome new ⊎ IsDone old policy packet outcome new
sent_way old policy packet (Sealed child number octets) new is = inr (protected_done old policy packet (Sealed child number octets) new is)
sent_way old policy packet (Clear octets) new is =
    inr (record { flow = is.1.flow; action = Bypass; decided = is.1.decided; does = (ap Clear is.0, is.2) })
sent_way old policy packet Discarded new is = inr (record { flow = is.0.flow; action = Discard; decided = is.0.decided; does = (refl, is.1) })
sent_way old policy packet (Dropped (Inner fault)) new is = inl (record { fault = fault; outcome_is = refl; refusal = is.0; unchanged = is.1 })
sent_way old policy packet (Dropped UnknownAssociation) new is = inr (protected_done old policy packet (Dropped UnknownAssociation) new is)
sent_way old policy packet (Dropped (Esp fault)) new is = inr (protected_done old policy packet (Dropped (Esp fault)) new is)
sent_way old policy packet (Dropped OutsideSelectors) new is = inr (protected_done old policy packet (Dropped OutsideSelectors) new is)
sent_way old policy packet (Up child number inner) new is = absurd is
sent_way old policy packet (Dummy child number) new is = absurd is

one_deed : (one_carrier : OneCarrier) (action : Action) (old : Database) (flow : Flow) (packet : Octets) (a b : Outcome) (new other : Database)
    → Does action old flow packet a new → Does action old flow packet b other → (a ≡ b) × (new ≡ other)
one_deed one_carrier Protect old flow packet a b new other x y = one_protection one_carrier old flow packet a b new other x y
one_deed one_carrier Bypass old flow packet a b new other x y = (x.0 ∙ sym y.0, x.1 ∙ sym y.1)
one_deed one_carrier Discard old flow packet a b new other x y = (x.0 ∙ sym y.0, x.1 ∙ sym y.1)

one_sent : (facts : DecisionFacts) (one_carrier : OneCarrier) (old : Database) (policy : List Entry) (packet : Octets) (a b : Outcome) (new other : Database)
    → IsRefusedOut old packet a new ⊎ IsDone old policy packet a new → IsRefusedOut old packet b other ⊎ IsDone old policy packet b other
    → (a ≡ b) × (new ≡ other)
one_sent facts one_carrier old policy packet a b new other (inl x) (inl y) =
    (x.outcome_is ∙ ap (λ fault. Dropped (Inner fault)) (facts.flows.refusal packet x.fault y.fault x.refusal y.refusal) ∙ sym y.outcome_is, x.unchanged ∙ sym y.unchanged)
one_sent facts one_carrier old policy packet a b new other (inl x) (inr y) = absurd (facts.flows.apart packet y.flow x.fault y.decided.flow_is x.refusal)
one_sent facts one_carrier old policy packet a b new other (inr x) (inl y) = absurd (facts.flows.apart packet x.flow y.fault x.decided.flow_is y.refusal)
one_sent facts one_carrier old policy packet a b new other (inr x) (inr y) =
    let flow : y.flow ≡ x.flow = facts.flows.flow packet y.flow x.flow y.decided.flow_is x.decided.flow_is in
    let action : y.action ≡ x.action =
    facts.decision policy x.flow Outward y.action x.action (subst (λ (f : Flow). IsDecision policy f Outward y.action) flow y.decided.decision) x.decided.decision in
    one_deed one_carrier x.action old x.flow packet a b new other x.does
    (subst (λ (action : Action). Does action old x.flow packet b other) action (subst (λ (f : Flow). Does y.action old f packet b other) flow y.does))

pub one_sending : (facts : DecisionFacts) (one_carrier : OneCarrier) (old : Database) (policy : List Entry) (packet : Octets) (a b : Outcome) (new other : Database)
    → Sends old policy packet a new → Sends old policy packet b other → (a ≡ b) × (new ≡ other)
one_sending facts one_carrier old policy packet a b new other x y = one_sent facts one_carrier old policy packet a b new other (sent_way old policy packet a new x) (sent_way old policy packet b other y)

-- ---- a packet that came in unprotected

abbrev Lets : Action → Octets → Outcome → Type 0
Lets Protect packet outcome = outcome ≡ Discarded
Lets Bypass packet outcome = outcome ≡ Clear packet
Lets Discard packet outcome = outcome ≡ Discarded

record IsTurnedAway (packet : Octets) (outcome : Outcome) : Type 0 where
  fault : InnerFault
  outcome_is : outcome ≡ Dropped (Inner fault)
  refusal : IsInnerRefusal packet fault

record IsJudgedIn (policy : List Entry) (packet : Octets) (outcome : Outcome) : Type 0 where
  flow : Flow
  action : Action
  decided : IsDecided policy Inward packet flow action
  lets : Lets action packet outcome

admitted_way : (policy : List Entry) (packet : Octets) (outcome : Outcome) → Admits policy packet outcome → IsTurnedAway packet outcome ⊎ IsJudgedIn policy packet outcome
admitted_way policy packet (Clear octets) is = inr (record { flow = is.1.flow; action = Bypass; decided = is.1.decided; lets = ap Clear is.0 })
admitted_way policy packet Discarded (inl is) = inr (record { flow = is.flow; action = Protect; decided = is.decided; lets = refl })
admitted_way policy packet Discarded (inr is) = inr (record { flow = is.flow; action = Discard; decided = is.decided; lets = refl })
admitted_way policy packet (Dropped (Inner fault)) is = inl (record { fault = fault; outcome_is = refl; refusal = is })
admitted_way policy packet (Dropped UnknownAssociation) is = absurd is
admitted_way policy packet (Dropped (Esp fault)) is = absurd is
admitted_way policy packet (Dropped OutsideSelectors) is = absurd is
admitted_way policy packet (Sealed child number octets) is = absurd is
admitted_way policy packet (Up child number inner) is = absurd is
admitted_way policy packet (Dummy child number) is = absurd is

one_let : (action : Action) (packet : Octets) (a b : Outcome) → Lets action packet a → Lets action packet b → a ≡ b
one_let Protect packet a b x y = x ∙ sym y
one_let Bypass packet a b x y = x ∙ sym y
one_let Discard packet a b x y = x ∙ sym y

one_admitted : (facts : DecisionFacts) (policy : List Entry) (packet : Octets) (a b : Outcome)
    → IsTurnedAway packet a ⊎ IsJudgedIn policy packet a → IsTurnedAway packet b ⊎ IsJudgedIn policy packet b → a ≡ b
one_admitted facts policy packet a b (inl x) (inl y) =
    x.outcome_is ∙ ap (λ fault. Dropped (Inner fault)) (facts.flows.refusal packet x.fault y.fault x.refusal y.refusal) ∙ sym y.outcome_is
one_admitted facts policy packet a b (inl x) (inr y) = absurd (facts.flows.apart packet y.flow x.fault y.decided.flow_is x.refusal)
one_admitted facts policy packet a b (inr x) (inl y) = absurd (facts.flows.apart packet x.flow y.fault x.decided.flow_is y.refusal)
one_admitted facts policy packet a b (inr x) (inr y) =
    let flow : y.flow ≡ x.flow = facts.flows.flow packet y.flow x.flow y.decided.flow_is x.decided.flow_is in
    let action : y.action ≡ x.action =
    facts.decision policy x.flow Inward y.action x.action (subst (λ (f : Flow). IsDecision policy f Inward y.action) flow y.decided.decision) x.decided.decision in
    one_let x.action packet a b x.lets (subst (λ (action : Action). Lets action packet b) action y.lets)

pub one_admission : (facts : DecisionFacts) (policy : List Entry) (packet : Octets) (a b : Outcome) → Admits policy packet a → Admits policy packet b → a ≡ b
one_admission facts policy packet a b x y = one_admitted facts policy packet a b (admitted_way policy packet a x) (admitted_way policy packet b y)

-- ---- only what is bypassed goes in the clear

same_treatment : (facts : DecisionFacts) (policy : List Entry) (direction : Direction) (packet : Octets) (flow : Flow) (action : Action) (other : Action)
    → IsDecided policy direction packet flow action → IsTreated policy direction packet other → action ≡ other
same_treatment facts policy direction packet flow action other decided treated =
    facts.decision policy flow direction action other decided.decision
    (subst (λ (f : Flow). IsDecision policy f direction other) (facts.flows.flow packet treated.flow flow treated.decided.flow_is decided.flow_is) treated.decided.decision)

pub clear_outward : (facts : DecisionFacts) (old new : Database) (policy : List Entry) (packet : Octets) (flow : Flow) (action : Action) (octets : Octets)
    → IsDecided policy Outward packet flow action → Sends old policy packet (Clear octets) new → (action ≡ Bypass) × (octets ≡ packet)
clear_outward facts old new policy packet flow action octets decided is = (same_treatment facts policy Outward packet flow action Bypass decided is.1, is.0)

pub clear_inward : (facts : DecisionFacts) (policy : List Entry) (packet : Octets) (flow : Flow) (action : Action) (octets : Octets)
    → IsDecided policy Inward packet flow action → Admits policy packet (Clear octets) → (action ≡ Bypass) × (octets ≡ packet)
clear_inward facts policy packet flow action octets decided is = (same_treatment facts policy Inward packet flow action Bypass decided is.1, is.0)

protected_by : (facts : DecisionFacts) (old new : Database) (policy : List Entry) (packet : Octets) (flow : Flow) (outcome : Outcome)
    → IsDecided policy Outward packet flow Protect → IsRefusedOut old packet outcome new ⊎ IsDone old policy packet outcome new → Protects old flow packet outcome new
protected_by facts old new policy packet flow outcome decided (inl is) = absurd (facts.flows.apart packet flow is.fault decided.flow_is is.refusal)
protected_by facts old new policy packet flow outcome decided (inr is) =
    let same : is.flow ≡ flow = facts.flows.flow packet is.flow flow is.decided.flow_is decided.flow_is in
    let action : is.action ≡ Protect =
    facts.decision policy flow Outward is.action Protect (subst (λ (f : Flow). IsDecision policy f Outward is.action) same is.decided.decision) decided.decision in
    subst (λ (action : Action). Does action old flow packet outcome new) action (subst (λ (f : Flow). Does is.action old f packet outcome new) same is.does)

pub protected_outward : (facts : DecisionFacts) (old new : Database) (policy : List Entry) (packet : Octets) (flow : Flow) (outcome : Outcome)
    → IsDecided policy Outward packet flow Protect → Sends old policy packet outcome new → Protects old flow packet outcome new
protected_outward facts old new policy packet flow outcome decided is = protected_by facts old new policy packet flow outcome decided (sent_way old policy packet outcome new is)

-- ---- a flow's treatment is found before

protected_sends : (old : Database) (policy : List Entry) (flow : Flow) (packet : Octets) (outcome : Outcome) (new : Database) → IsDecided policy Outward packet flow Protect
    → Protects old flow packet outcome new → Sends old policy packet outcome new
protected_sends old policy flow packet (Sealed child number octets) new decided is = record { flow = flow; decided = decided; protects = is }
protected_sends old policy flow packet (Dropped UnknownAssociation) new decided is = record { flow = flow; decided = decided; protects = is }
protected_sends old policy flow packet (Dropped (Esp fault)) new decided is = record { flow = flow; decided = decided; protects = is }
protected_sends old policy flow packet (Dropped (Inner fault)) new decided is = absurd is
protected_sends old policy flow packet (Dropped OutsideSelectors) new decided is = absurd is
protected_sends old policy flow packet (Clear octets) new decided is = absurd is
protected_sends old policy flow packet Discarded new decided is = absurd is
protected_sends old policy flow packet (Up child number inner) new decided is = absurd is
protected_sends old policy flow packet (Dummy child number) new decided is = absurd is

-- a packet that is sent as its flow is to be treated
pub departs : (old : Database) (policy : List Entry) (treatment : Treatment) (flow : Flow) (packet : Octets) (outcome : Outcome) (new : Database) → IsFlowOf packet flow
    → IsDecision policy flow Outward (action_of treatment) → Departs old treatment flow packet outcome new → Sends old policy packet outcome new
departs old policy (treatments.Carried child) flow packet outcome new flow_is decision is =
    protected_sends old policy flow packet outcome new (record { flow_is = flow_is; decision = decision }) is
departs old policy treatments.Uncarried flow packet outcome new flow_is decision is =
    protected_sends old policy flow packet outcome new (record { flow_is = flow_is; decision = decision }) is
departs old policy treatments.Bypassed flow packet outcome new flow_is decision is =
    subst (λ (o : Outcome). Sends old policy packet o new) (sym is.0) (refl, record { flow = flow; decided = record { flow_is = flow_is; decision = decision } }, is.1)
departs old policy treatments.Discarded flow packet outcome new flow_is decision is =
    subst (λ (o : Outcome). Sends old policy packet o new) (sym is.0) (record { flow = flow; decided = record { flow_is = flow_is; decision = decision } }, is.1)

-- a call departs, or asks for memory in vain
pub departs_if : {E : Type 0} (old : Database) (policy : List Entry) (treatment : Treatment) (flow : Flow) (packet : Octets) (said : Departure → Outcome) (result : Result Departure E) (new : Database) → IsFlowOf packet flow
    → IsDecision policy flow Outward (action_of treatment) → IfOk result (λ departure. Departs old treatment flow packet (said departure) new)
    → IfOk result (λ departure. Sends old policy packet (said departure) new)
departs_if old policy treatment flow packet said (Ok departure) new flow_is decision is = departs old policy treatment flow packet (said departure) new flow_is decision is
departs_if old policy treatment flow packet said (Err e) new flow_is decision is = tt

pub sent_if : {E : Type 0} (P : Database → Database → Type 0) → Keeps P → (A B : Type 0) (old : Database) (policy : List Entry) (packet : Octets) (said : Departure → Outcome) (result : Result Departure E) (new : Database)
    → IfOk result (λ departure. Sends old policy packet (said departure) new) → IfErr result (λ _. A × B × (new ≡ old)) → P old new
sent_if P keeps A B old policy packet said (Ok departure) new sends is = sent P keeps old new policy packet (said departure) sends
sent_if P keeps A B old policy packet said (Err e) new sends is = subst (P old) (sym is.2) (keeps.same old)
