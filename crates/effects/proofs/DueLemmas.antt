-- A message leaves nothing of its IKE SA due that was not due before: what it makes is of its own time.
use Rattle.std.proofs.Common.{◌≡◌, ◌+◌, ◌<◌, ◌≤◌, ℕ, nat_le, length, Bool, true, false, Option, arith, ap, inl, inr, refl, subst, sym, ◌∙◌, List}
use Rattle.std.proofs.lemmas.Bool.Decides.{nat_tests}
use Rattle.std.specs.FinMap as map
use Rattle.base.specs.Octets.{Octets}
use Rattle.wire.specs.declared.message.Message.{Message}
use Rattle.suite.specs.declared.fresh.Fresh.{Fresh}
use Rattle.suite.specs.declared.key_record.KeyRecord.{KeyRecord}
use Rattle.suite.specs.declared.keys.Keys.{Keys}
use Rattle.suite.specs.declared.sealer.Cipher.{Cipher}
use Rattle.requests.specs.Outgoing.{none_issued, number_0_answered, CountsAnswer, OwnRequests}
use Rattle.requests.specs.Timers.{due_from, waits}
use Rattle.sadb.specs.Database.{Database}
use Rattle.sa_init.specs.Judging.{OfferView}
use Rattle.association.specs.Closing.{Closes}
use Rattle.association.specs.AskedChildren.{AskedChildView}
use Rattle.association.specs.Phases.{established_of}
use Rattle.association.specs.declared.phase.Association.{Association}
use Rattle.association.specs.declared.phase.Phase.{Phase}
use Rattle.association.specs.declared.phase.Phase.TheVariants as phase
use Rattle.association.specs.declared.phase.Request.{Request}
use Rattle.association.specs.declared.purpose.Purpose.{Purpose}
use Rattle.association.specs.declared.purpose.Purpose.TheVariants.{Begin, Identify}
use Rattle.initial.specs.Answering.{outcome_of}
use Rattle.association.specs.Admitting.{Admits}
use Rattle.initial.specs.Beginning.{begun, Begins}
use Rattle.initial.specs.Concluding.{ConcludesBy}
use Rattle.association.specs.Issuing.{with_incoming, with_outgoing, new_request, IssuesNext}
use Rattle.setup.specs.Configs.{Setup}
use Rattle.association.specs.declared.admitting.Admitted.{Admitted}
use Rattle.initial.specs.declared.beginning.Beginning.{Beginning}
use Rattle.initial.specs.declared.concluding.Outcome.{Outcome}
use Rattle.initial.specs.declared.concluding.Outcome.TheVariants as outcome
use Rattle.informational.specs.Orders.{ClosesIf}
use Rattle.moments.specs.Due.{is_over, HALF_OPEN_TIME}
use Rattle.moments.specs.Held.{began, IsInTime}
use Rattle.effects.specs.Sending.{SendsRequest}
use Rattle.effects.specs.Taking.{Meaning, TakesMessage}
use Rattle.effects.specs.declared.taking.Effect.{Effect}
use Rattle.effects.specs.declared.taking.Effect.TheVariants as effect
use Rattle.effects.proofs.MapLemmas.{empty_has, insert_has, remove_has, same_has, EachHas}
use Rattle.effects.proofs.WayLemmas.{answered_later, counted_later, way_of, Way}
use Rattle.association.specs.Outcomes.{closed_by}
use Rattle.association.specs.declared.outcome.Fate.{Fate}

-- what is known of closings
abbrev pub ClosingLaw : Type 0
ClosingLaw = (now : ℕ) (old new : Association) (table new_table : Database) → Closes old table now new new_table → IsInTime now new

-- a request waits still
abbrev Waits : ℕ → Request → Type 0
Waits now r = (now < due_from r.timer) × (r.timer.sent ≤ now) × (r.timer.repeats ≤ length waits)

abbrev AllWait : ℕ → OwnRequests Request → Type 0
AllWait now r = EachHas (Waits now) r.outstanding

new_waits : (octets : Octets) (asked : Purpose) (now : ℕ) → Waits now (new_request octets asked now)
new_waits octets asked now = (omega arith, omega arith, omega arith)

all_wait : (now : ℕ) (a : Association) → IsInTime now a → AllWait now a.outgoing
all_wait now a is = λ number r there. (is.nothing_due.none_due number r there, is.begun.sent number r there, is.begun.often number r there)

-- of what an IKE SA is made, as far as times go
by_parts : (now : ℕ) (a : Association) → is_over now a.phase ≡ false → began a.phase ≤ now → AllWait now a.outgoing → IsInTime now a
by_parts now a held since waits =
    record {
      nothing_due = record { held = held; none_due = λ number r there. (waits number r there).0 };
      begun = record { since = since; sent = λ number r there. (waits number r there).1; often = λ number r there. (waits number r there).2 };
    }

timely_as : (now : ℕ) (a b : Association) → b ≡ a → IsInTime now a → IsInTime now b
timely_as now a b same is = subst (λ (x : Association). IsInTime now x) (sym same) is

counted_wait : (now : ℕ) (old : OwnRequests Request) (number : ℕ) (request : Request) (new : OwnRequests Request) → CountsAnswer old number request new → AllWait now old → AllWait now new
counted_wait now old number request new is waits =
    same_has (Waits now) (map.remove old.outstanding number) new.outstanding (ap (λ (r : OwnRequests Request). r.outstanding) is.content) (remove_has (Waits now) old.outstanding number waits)

issued_wait : (now : ℕ) (old : OwnRequests Request) (octets : Octets) (asked : Purpose) (new : OwnRequests Request) → IssuesNext old (new_request octets asked now) new → AllWait now old → AllWait now new
issued_wait now old octets asked new is waits =
    same_has (Waits now) (map.insert is.ready.outstanding old.next (new_request octets asked now)) new.outstanding (ap (λ (r : OwnRequests Request). r.outstanding) is.issued.content)
    (insert_has (Waits now) is.ready.outstanding old.next (new_request octets asked now) (new_waits octets asked now)
    (same_has (Waits now) old.outstanding is.ready.outstanding (ap (λ (r : OwnRequests Request). r.outstanding) is.prepared.content) waits))

-- ---- when an exchange is done

established_on : (now : ℕ) (p : Phase) (keys : KeyRecord) → p ≡ phase.Established keys → is_over now p ≡ false
established_on now p keys is = ap (is_over now) is

established_since : (now : ℕ) (p : Phase) (keys : KeyRecord) → p ≡ phase.Established keys → began p ≤ now
established_since now p keys is = subst (λ (q : Phase). began q ≤ now) (sym is) (omega arith)

begun_by : (now : ℕ) (p q : Phase) → p ≡ q → began q ≤ now → began p ≤ now
begun_by now p q same is = subst (λ (x : Phase). began x ≤ now) (sym same) is

concluded_timely : ClosingLaw → (setup : Setup) (a : Association) (table : Database) (o : Outcome) (came : Fate) (new : Association) (new_table : Database) (keys : KeyRecord)
    → established_of a.phase ≡ phase.Established keys → ConcludesBy setup a table o came new new_table → AllWait setup.moment a.outgoing → IsInTime setup.moment new
concluded_timely closing setup a table outcome.Closes came new new_table keys was is waits = closing setup.moment a new table new_table is.over
concluded_timely closing setup a table (outcome.Establishes pair window) came new new_table keys was is waits =
    by_parts setup.moment new
    (ap (λ (x : Association). is_over setup.moment x.phase) is.content ∙ established_on setup.moment (established_of a.phase) keys was)
    (begun_by setup.moment new.phase (established_of a.phase) (ap (λ (x : Association). x.phase) is.content) (established_since setup.moment (established_of a.phase) keys was))
    (same_has (Waits setup.moment) a.outgoing.outstanding new.outgoing.outstanding (ap (λ (x : Association). x.outgoing.outstanding) is.content) waits)

closed_if_timely : ClosingLaw → (ending : Bool) (serials : List ℕ) (a : Association) (table : Database) (moment : ℕ) (new : Association) (new_table : Database)
    → IsInTime moment a → ClosesIf ending serials a table moment new new_table → IsInTime moment new
closed_if_timely closing true serials a table moment new new_table timely is = closing moment a new table new_table is
closed_if_timely closing false serials a table moment new new_table timely is = timely_as moment a new is.0 timely

way_timely : ClosingLaw → (meaning : Meaning) (setup : Setup) (old : Association) (table : Database) (octets : Octets) (m : Message) (e : Effect) (new : Association) (new_table : Database)
    → IsInTime setup.moment old → Way meaning setup old table octets m e new new_table → IsInTime setup.moment new
way_timely closing meaning setup old table octets m (effect.Refused fault) new new_table timely is = timely_as setup.moment old new is.association timely
way_timely closing meaning setup old table octets m (effect.Repeated reply) new new_table timely is = timely_as setup.moment old new is.same.association timely
way_timely closing meaning setup old table octets m (effect.Replied answered) new new_table timely (inl is) =
    let d = is.done in
    concluded_timely closing setup (with_incoming old d.incoming) d.between (outcome_of d.decision) answered.fate new new_table d.opened.keys (ap established_of d.was) d.concluded (all_wait setup.moment old timely)
way_timely closing meaning setup old table octets m (effect.Replied answered) new new_table timely (inr is) =
    let d = answered_later meaning setup old table octets m answered new new_table is in
    closed_if_timely closing (closed_by answered.fate) d.ends.serials (with_incoming old d.incoming) d.ends.before setup.moment new d.ends.after
    (by_parts setup.moment (with_incoming old d.incoming) timely.nothing_due.held timely.begun.since (all_wait setup.moment old timely)) d.ends.is
way_timely closing meaning setup old table octets m (effect.Counted ended) new new_table timely (inl is) =
    let d = is.done in
    concluded_timely closing setup (with_outgoing old d.outgoing) table d.verdict ended.fate new new_table d.sent.keys (ap established_of d.was) d.concluded
    (counted_wait setup.moment old.outgoing m.header.id d.request d.outgoing d.counted (all_wait setup.moment old timely))
way_timely closing meaning setup old table octets m (effect.Counted ended) new new_table timely (inr is) =
    let d = counted_later meaning setup old table octets m ended new new_table is in
    closed_if_timely closing (closed_by ended.fate) d.ends.serials (with_outgoing old d.outgoing) d.ends.before setup.moment new d.ends.after
    (by_parts setup.moment (with_outgoing old d.outgoing) timely.nothing_due.held timely.begun.since (counted_wait setup.moment old.outgoing m.header.id d.request d.outgoing d.counted (all_wait setup.moment old timely))) d.ends.is
way_timely closing meaning setup old table octets m (effect.Again next) new new_table timely is =
    let d = is.done in
    by_parts setup.moment new (ap (λ (x : Association). is_over setup.moment x.phase) d.content) (begun_by setup.moment new.phase _ (ap (λ (x : Association). x.phase) d.content) (omega arith))
    (same_has (Waits setup.moment) (map.insert old.outgoing.outstanding m.header.id (new_request next Begin setup.moment)) new.outgoing.outstanding
    (ap (λ (r : OwnRequests Request). r.outstanding) d.replaced.content)
    (insert_has (Waits setup.moment) old.outgoing.outstanding m.header.id (new_request next Begin setup.moment) (new_waits next Begin setup.moment) (all_wait setup.moment old timely)))
way_timely closing meaning setup old table octets m (effect.AsksAuth next) new new_table timely is =
    let d = is.done in
    by_parts setup.moment new (ap (λ (x : Association). is_over setup.moment x.phase) d.content) (begun_by setup.moment new.phase _ (ap (λ (x : Association). x.phase) d.content) (omega arith))
    (issued_wait setup.moment number_0_answered next Identify new.outgoing d.issued (empty_has (Waits setup.moment)))

pub taken_timely : ClosingLaw → (meaning : Meaning) (setup : Setup) (old : Association) (table : Database) (octets : Octets) (m : Message) (e : Effect) (new : Association) (new_table : Database)
    → IsInTime setup.moment old → TakesMessage meaning setup old table octets m e new new_table → IsInTime setup.moment new
taken_timely closing meaning setup old table octets m e new new_table timely is =
    way_timely closing meaning setup old table octets m e new new_table timely (way_of meaning setup old table octets m e new new_table is)

-- ---- as an IKE SA begins, and asks

pub begun_timely : (cipher : Cipher) (group : ℕ) (public_value : Octets → Octets) (fresh : Fresh) (moment serial : ℕ) (beginning : Beginning) (child : AskedChildView)
    → Begins cipher group public_value fresh moment beginning → IsInTime moment (begun serial beginning child)
begun_timely cipher group public_value fresh moment serial beginning child is =
    by_parts moment (begun serial beginning child) refl (omega arith) (issued_wait moment none_issued beginning.octets Begin beginning.outgoing is.issued (empty_has (Waits moment)))

half_open_now : (now : ℕ) → nat_le (now + HALF_OPEN_TIME) now ≡ false
half_open_now now = grind (arith, nat_tests)

pub admitted_timely : (cipher : Cipher) (group : ℕ) (public_value : Octets → Octets) (shared_secret : Octets → Octets → Option Octets) (fresh : Fresh) (moment serial : ℕ) (offer : OfferView) (spi_i : ℕ) (request : Octets) (admitted : Admitted)
    → Admits cipher group public_value shared_secret fresh moment serial offer spi_i request admitted → IsInTime moment admitted.association
admitted_timely cipher group public_value shared_secret fresh moment serial offer spi_i request admitted is =
    by_parts moment admitted.association (ap (λ (x : Association). is_over moment x.phase) is.content ∙ half_open_now moment)
    (begun_by moment admitted.association.phase _ (ap (λ (x : Association). x.phase) is.content) (omega arith))
    (same_has (Waits moment) map.empty admitted.association.outgoing.outstanding (ap (λ (x : Association). x.outgoing.outstanding) is.content) (empty_has (Waits moment)))

pub requested_timely : (body_of : Keys → Octets → Octets → Octets → Octets) (setup : Setup) (old : Association) (octets : Octets) (new : Association)
    → IsInTime setup.moment old → SendsRequest body_of setup old octets new → IsInTime setup.moment new
requested_timely body_of setup old octets new timely is =
    timely_as setup.moment (with_outgoing old is.outgoing) new is.content
    (by_parts setup.moment (with_outgoing old is.outgoing) timely.nothing_due.held timely.begun.since (issued_wait setup.moment old.outgoing octets is.purpose is.outgoing is.issued (all_wait setup.moment old timely)))
