-- The window for this end's requests stays, or is widened to the one that the message tells by which
-- IKE_AUTH is done.
use Rattle.std.proofs.Common.{◌≡◌, inl, inr, ℕ, Bool, true, false, List, Option, Some, None, ap, refl, sym, ◌∙◌, max}
use Rattle.base.specs.Octets.{Octets}
use Rattle.wire.specs.declared.message.Message.{Message}
use Rattle.wire.specs.declared.payload.Payload.{Payload}
use Rattle.suite.specs.declared.key_record.KeyRecord.{KeyRecord}
use Rattle.exchange.specs.declared.sealed.Plain.{Plain}
use Rattle.requests.specs.Outgoing.{OwnRequests}
use Rattle.sadb.specs.Database.{Database}
use Rattle.association.specs.Phases.{established_of, IsEstablished}
use Rattle.association.specs.Receiving.{opened_by, Answers, IsAnswering, IsEffective, IsReceived, Opening, TakesEffect}
use Rattle.association.specs.declared.phase.Association.{Association}
use Rattle.association.specs.declared.phase.AuthSent.{AuthSent}
use Rattle.association.specs.declared.phase.HalfOpen.{HalfOpen}
use Rattle.association.specs.declared.phase.InitSent.{InitSent}
use Rattle.association.specs.declared.phase.Phase.TheVariants as phase
use Rattle.association.specs.declared.phase.Request.{Request}
use Rattle.auth.specs.Proofs.{Accepts}
use Rattle.auth.specs.Windows.{peer_window}
use Rattle.initial.specs.Answering.{outcome_of}
use Rattle.initial.specs.Concluding.{ConcludesBy}
use Rattle.association.specs.Issuing.{with_incoming, with_outgoing, new_request}
use Rattle.setup.specs.Configs.{Setup}
use Rattle.initial.specs.Deciding.{IsDecision}
use Rattle.exchange.specs.Chains.{IsRead}
use Rattle.initial.specs.Ending.{IsVerdict}
use Rattle.initial.specs.declared.concluding.Outcome.{Outcome}
use Rattle.initial.specs.declared.concluding.Outcome.TheVariants as outcome
use Rattle.initial.specs.declared.deciding.Decision.{Decision}
use Rattle.initial.specs.declared.deciding.Decision.TheVariants as decision
use Rattle.informational.specs.Orders.{ClosesIf}
use Rattle.requests.specs.Outgoing.{number_0_answered}
use Rattle.association.specs.declared.purpose.Purpose.TheVariants.{Identify}
use Rattle.effects.specs.Requests.{is_concluded, IsSoundlyHeld, KeepsPeersWindow, WidensPeersWindow, WidensWindow}
use Rattle.effects.specs.Taking.{Meaning, TakesMessage}
use Rattle.effects.specs.declared.taking.Effect.{Effect}
use Rattle.effects.specs.declared.taking.Effect.TheVariants as effect
use Rattle.effects.proofs.RequestLemmas.{counted_window, issued_window, taken_size, yes_no}
use Rattle.effects.proofs.WayLemmas.{answered_later, counted_later, way_of, Way}
use Rattle.association.specs.Outcomes.{closed_by}
use Rattle.association.specs.declared.outcome.Fate.{Fate}

-- what is known of what a message is
pub record OpeningLaws : Type 0 where
  pub effective : (plain_of : Opening) (a : Association) (octets : Octets) (m : Message) (plain : Plain) → IsReceived plain_of a octets m (TakesEffect plain) → IsEffective plain_of a octets m plain
  pub answering : (plain_of : Opening) (a : Association) (octets : Octets) (m : Message) (plain : Plain) → IsReceived plain_of a octets m (Answers plain) → IsAnswering plain_of a octets m plain

-- where IKE_AUTH establishes the IKE SA, the window is that of the payloads that were read
abbrev TellsBy : Option (List Payload) → Outcome → Type 0
TellsBy payloads outcome.Closes = Unit {0}
TellsBy None (outcome.Establishes pair window) = ⊥
TellsBy (Some payloads) (outcome.Establishes pair window) = window ≡ peer_window payloads

decided_tells : (accepts : Accepts) (setup : Setup) (ike : ℕ) (opened : HalfOpen) (table : Database) (payloads : Option (List Payload)) (d : Decision)
    → IsDecision accepts setup ike opened table payloads d → TellsBy payloads (outcome_of d)
decided_tells accepts setup ike opened table None (decision.Refused notice) is = tt
decided_tells accepts setup ike opened table None (decision.Accepted answer window) is = absurd is
decided_tells accepts setup ike opened table (Some payloads) (decision.Refused notice) is = tt
decided_tells accepts setup ike opened table (Some payloads) (decision.Accepted answer window) is = is.told ∙ is.judged.told

judged_tells : (accepts : Accepts) (setup : Setup) (ike : ℕ) (sent : AuthSent) (payloads : Option (List Payload)) (o : Outcome)
    → IsVerdict accepts setup ike sent payloads o → TellsBy payloads o
judged_tells accepts setup ike sent None outcome.Closes is = tt
judged_tells accepts setup ike sent None (outcome.Establishes pair window) is = absurd is
judged_tells accepts setup ike sent (Some payloads) outcome.Closes is = tt
judged_tells accepts setup ike sent (Some payloads) (outcome.Establishes pair window) is = is.told

auth_peers : (plain_of : Opening) (setup : Setup) (octets : Octets) (m : Message) (old a : Association) (table : Database) (o : Outcome) (came : Fate) (new : Association) (new_table : Database)
    (keys : KeyRecord) (plain : Plain) (payloads : Option (List Payload))
    → is_concluded old.phase ≡ false → a.outgoing.window ≡ old.outgoing.window → established_of a.phase ≡ phase.Established keys → opened_by plain_of old octets m.payloads ≡ Some plain → IsRead plain payloads
    → TellsBy payloads o → ConcludesBy setup a table o came new new_table → KeepsPeersWindow plain_of octets m old new
auth_peers plain_of setup octets m old a table outcome.Closes came new new_table keys plain payloads open_yet same was opened read tells is =
    inl (ap (λ (r : OwnRequests Request). r.window) is.over.requests.content ∙ same)
auth_peers plain_of setup octets m old a table (outcome.Establishes pair window) came new new_table keys plain None open_yet same was opened read tells is = absurd tells
auth_peers plain_of setup octets m old a table (outcome.Establishes pair window) came new new_table keys plain (Some payloads) open_yet same was opened read tells is =
    inr (record {
      before = open_yet;
      after = record { keys = keys; is = ap (λ (x : Association). x.phase) is.content ∙ was };
      payloads = payloads;
      told = record { plain = plain; opened = opened; read = read };
      window = ap (λ (x : Association). x.outgoing.window) is.content ∙ ap (λ n. max n a.outgoing.window) tells ∙ ap (max (peer_window payloads)) same;
    })

-- a closing or a deletion leaves the window
window_if : (ending : Bool) (serials : List ℕ) (a : Association) (table : Database) (moment : ℕ) (new : Association) (new_table : Database) → ClosesIf ending serials a table moment new new_table
    → new.outgoing.window ≡ a.outgoing.window
window_if true serials a table moment new new_table is = ap (λ (r : OwnRequests Request). r.window) is.requests.content
window_if false serials a table moment new new_table is = ap (λ (x : Association). x.outgoing.window) is.0

way_peers : (laws : OpeningLaws) (meaning : Meaning) (setup : Setup) (old : Association) (table : Database) (octets : Octets) (m : Message) (e : Effect) (new : Association) (new_table : Database)
    → IsSoundlyHeld old → Way meaning setup old table octets m e new new_table → KeepsPeersWindow meaning.plain_of octets m old new
way_peers laws meaning setup old table octets m (effect.Refused fault) new new_table held is = inl (ap (λ (x : Association). x.outgoing.window) is.association)
way_peers laws meaning setup old table octets m (effect.Repeated reply) new new_table held is = inl (ap (λ (x : Association). x.outgoing.window) is.same.association)
way_peers laws meaning setup old table octets m (effect.Replied answered) new new_table held (inl is) =
    let d = is.done in
    auth_peers meaning.plain_of setup octets m old (with_incoming old d.incoming) d.between (outcome_of d.decision) answered.fate new new_table d.opened.keys is.plain d.decided.payloads
    (ap is_concluded d.was) refl (ap established_of d.was) (laws.effective meaning.plain_of old octets m is.plain is.received).opened d.decided.read
    (decided_tells meaning.accepts setup old.serial d.opened table d.decided.payloads d.decision d.decided.due) d.concluded
way_peers laws meaning setup old table octets m (effect.Replied answered) new new_table held (inr is) =
    let d = answered_later meaning setup old table octets m answered new new_table is in
    inl (window_if (closed_by answered.fate) d.ends.serials (with_incoming old d.incoming) d.ends.before setup.moment new d.ends.after d.ends.is)
way_peers laws meaning setup old table octets m (effect.Again next) new new_table held is = inl (ap (λ (r : OwnRequests Request). r.window) is.done.replaced.content)
way_peers laws meaning setup old table octets m (effect.AsksAuth next) new new_table held is =
    inl (issued_window number_0_answered (new_request next Identify setup.moment) new.outgoing is.done.issued ∙ sym (held.took_none (inl (record { sent = is.sent; is = is.was }))).window)
way_peers laws meaning setup old table octets m (effect.Counted ended) new new_table held (inl is) =
    let d = is.done in
    auth_peers meaning.plain_of setup octets m old (with_outgoing old d.outgoing) table d.verdict ended.fate new new_table d.sent.keys is.plain d.judged.payloads
    (ap is_concluded d.was) (counted_window old.outgoing m.header.id d.request d.outgoing d.counted) (ap established_of d.was) (laws.answering meaning.plain_of old octets m is.plain is.received).opened d.judged.read
    (judged_tells meaning.accepts setup old.serial d.sent d.judged.payloads d.verdict d.judged.due) d.concluded
way_peers laws meaning setup old table octets m (effect.Counted ended) new new_table held (inr is) =
    let d = counted_later meaning setup old table octets m ended new new_table is in
    inl (window_if (closed_by ended.fate) d.ends.serials (with_outgoing old d.outgoing) d.ends.before setup.moment new d.ends.after d.ends.is ∙ counted_window old.outgoing m.header.id d.request d.outgoing d.counted)

pub keeps_peers : OpeningLaws → (meaning : Meaning) (setup : Setup) (old : Association) (table : Database) (octets : Octets) (m : Message) (e : Effect) (new : Association) (new_table : Database)
    → IsSoundlyHeld old → TakesMessage meaning setup old table octets m e new new_table → KeepsPeersWindow meaning.plain_of octets m old new
keeps_peers laws meaning setup old table octets m e new new_table held is =
    way_peers laws meaning setup old table octets m e new new_table held (way_of meaning setup old table octets m e new new_table is)

-- ---- where an IKE SA comes to be established both windows are widened

closed_established : (keys : Option KeyRecord) (at : ℕ) (known : KeyRecord) → phase.Closed keys at ≡ phase.Established known → ⊥
closed_established keys at known e = cc

initial_established : (sent : InitSent) (known : KeyRecord) → phase.InitSent sent ≡ phase.Established known → ⊥
initial_established sent known e = cc

sent_established : (sent : AuthSent) (known : KeyRecord) → phase.AuthSent sent ≡ phase.Established known → ⊥
sent_established sent known e = cc

-- both are
abbrev Widens : Opening → ℕ → Octets → Message → Association → Association → Type 0
Widens plain_of own octets m old new = WidensWindow own old new × WidensPeersWindow plain_of octets m old new

auth_widens : (plain_of : Opening) (setup : Setup) (octets : Octets) (m : Message) (old a : Association) (table : Database) (o : Outcome) (came : Fate) (new : Association) (new_table : Database)
    (plain : Plain) (payloads : Option (List Payload))
    → is_concluded old.phase ≡ false → IsEstablished new.phase → a.incoming.size ≡ old.incoming.size → a.outgoing.window ≡ old.outgoing.window → opened_by plain_of old octets m.payloads ≡ Some plain → IsRead plain payloads
    → TellsBy payloads o → ConcludesBy setup a table o came new new_table → Widens plain_of setup.config.window octets m old new
auth_widens plain_of setup octets m old a table outcome.Closes came new new_table plain payloads open_yet stands same_in same opened read tells is =
    absurd (closed_established _ setup.moment stands.keys (sym (ap (λ (x : Association). x.phase) is.over.content) ∙ stands.is))
auth_widens plain_of setup octets m old a table (outcome.Establishes pair window) came new new_table plain None open_yet stands same_in same opened read tells is = absurd tells
auth_widens plain_of setup octets m old a table (outcome.Establishes pair window) came new new_table plain (Some payloads) open_yet stands same_in same opened read tells is = (
  record { before = open_yet; after = stands; size = ap (λ (x : Association). x.incoming.size) is.content ∙ ap (max setup.config.window) same_in },
  record {
    before = open_yet;
    after = stands;
    payloads = payloads;
    told = record { plain = plain; opened = opened; read = read };
    window = ap (λ (x : Association). x.outgoing.window) is.content ∙ ap (λ n. max n a.outgoing.window) tells ∙ ap (max (peer_window payloads)) same;
  },
)

-- it was established before
still_established : (old new : Association) → new ≡ old → IsEstablished new.phase → is_concluded old.phase ≡ false → ⊥
still_established old new same stands open_yet = yes_no (is_concluded old.phase) (ap (λ (x : Association). is_concluded x.phase) (sym same) ∙ ap is_concluded stands.is) open_yet

way_widens : (laws : OpeningLaws) (meaning : Meaning) (setup : Setup) (old : Association) (table : Database) (octets : Octets) (m : Message) (e : Effect) (new : Association) (new_table : Database)
    → is_concluded old.phase ≡ false → IsEstablished new.phase → Way meaning setup old table octets m e new new_table → Widens meaning.plain_of setup.config.window octets m old new
way_widens laws meaning setup old table octets m (effect.Refused fault) new new_table open_yet stands is = absurd (still_established old new is.association stands open_yet)
way_widens laws meaning setup old table octets m (effect.Repeated reply) new new_table open_yet stands is = absurd (still_established old new is.same.association stands open_yet)
way_widens laws meaning setup old table octets m (effect.Replied answered) new new_table open_yet stands (inl is) =
    let d = is.done in
    auth_widens meaning.plain_of setup octets m old (with_incoming old d.incoming) d.between (outcome_of d.decision) answered.fate new new_table is.plain d.decided.payloads
    open_yet stands (taken_size old.incoming d.ready m.header.id answered.octets d.incoming d.prepared d.taken) refl (laws.effective meaning.plain_of old octets m is.plain is.received).opened d.decided.read
    (decided_tells meaning.accepts setup old.serial d.opened table d.decided.payloads d.decision d.decided.due) d.concluded
way_widens laws meaning setup old table octets m (effect.Replied answered) new new_table open_yet stands (inr is) =
    let d = answered_later meaning setup old table octets m answered new new_table is in
    absurd (yes_no (is_concluded old.phase) (ap is_concluded d.was) open_yet)
way_widens laws meaning setup old table octets m (effect.Again next) new new_table open_yet stands is =
    absurd (initial_established _ stands.keys (sym (ap (λ (x : Association). x.phase) is.done.content) ∙ stands.is))
way_widens laws meaning setup old table octets m (effect.AsksAuth next) new new_table open_yet stands is =
    absurd (sent_established _ stands.keys (sym (ap (λ (x : Association). x.phase) is.done.content) ∙ stands.is))
way_widens laws meaning setup old table octets m (effect.Counted ended) new new_table open_yet stands (inl is) =
    let d = is.done in
    auth_widens meaning.plain_of setup octets m old (with_outgoing old d.outgoing) table d.verdict ended.fate new new_table is.plain d.judged.payloads
    open_yet stands refl (counted_window old.outgoing m.header.id d.request d.outgoing d.counted) (laws.answering meaning.plain_of old octets m is.plain is.received).opened d.judged.read
    (judged_tells meaning.accepts setup old.serial d.sent d.judged.payloads d.verdict d.judged.due) d.concluded
way_widens laws meaning setup old table octets m (effect.Counted ended) new new_table open_yet stands (inr is) =
    let d = counted_later meaning setup old table octets m ended new new_table is in
    absurd (yes_no (is_concluded old.phase) (ap is_concluded d.was) open_yet)

pub widens : OpeningLaws → (meaning : Meaning) (setup : Setup) (old : Association) (table : Database) (octets : Octets) (m : Message) (e : Effect) (new : Association) (new_table : Database)
    → is_concluded old.phase ≡ false → IsEstablished new.phase → TakesMessage meaning setup old table octets m e new new_table
    → WidensWindow setup.config.window old new × WidensPeersWindow meaning.plain_of octets m old new
widens laws meaning setup old table octets m e new new_table open_yet stands is =
    way_widens laws meaning setup old table octets m e new new_table open_yet stands (way_of meaning setup old table octets m e new new_table is)
