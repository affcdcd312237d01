-- What a message leaves of an IKE SA.
use Rattle.std.proofs.Common.{◌≡◌, ◌⊎◌, inl, inr, ℕ, ◌+◌, Bool, true, false, Option, Some, None, ap, refl, subst, sym, ◌∙◌, List}
use Rattle.base.specs.Octets.{Octets}
use Rattle.wire.specs.declared.message.Message.{Message}
use Rattle.suite.specs.declared.key_record.KeyRecord.{KeyRecord}
use Rattle.suite.specs.declared.keys.Keys.{Keys}
use Rattle.exchange.specs.declared.sealed.Plain.{Plain}
use Rattle.sadb.specs.Database.{Database}
use Rattle.association.specs.Closing.{Closes}
use Rattle.association.specs.Phases.{established_of, keys_in}
use Rattle.association.specs.declared.fault.MessageFault.{MessageFault}
use Rattle.association.specs.declared.phase.Association.{Association}
use Rattle.association.specs.declared.phase.AuthSent.{AuthSent}
use Rattle.association.specs.declared.phase.HalfOpen.{HalfOpen}
use Rattle.association.specs.declared.phase.InitSent.{InitSent}
use Rattle.association.specs.declared.phase.Phase.{Phase}
use Rattle.association.specs.declared.phase.Phase.TheVariants as phase
use Rattle.auth.specs.Proofs.{Accepts}
use Rattle.initial.specs.Answering.{outcome_of, AnswersAuth, IsHalfOpen, Prover}
use Rattle.initial.specs.Concluding.{established, widened, ConcludesBy}
use Rattle.setup.specs.Configs.{Setup}
use Rattle.initial.specs.Ending.{EndsAuth, IsAuthSent}
use Rattle.effects.specs.Pairs.{LeavesPairs}
use Rattle.initial.specs.Reading.{IsInitSent}
use Rattle.deletions.specs.Deciding.{is_closing_verdict, verdict_on}
use Rattle.informational.specs.Answering.{gone_by, AnswersInformational}
use Rattle.informational.specs.Counting.{gone_with, is_ended}
use Rattle.informational.specs.Orders.{ClosesIf}
use Rattle.further.specs.Answering.{further_pair}
use Rattle.further.specs.Deciding.{is_closing_decision}
use Rattle.create_child.specs.Counting.{is_closing_conclusion}
use Rattle.association.specs.AskedChildren.{asked_of}
use Rattle.effects.specs.Taking.{prover_of, IsPassedOver, Meaning, KeepsIdentity, TakesMessage}
use Rattle.association.specs.declared.outcome.Answered.{Answered}
use Rattle.initial.specs.declared.concluding.Outcome.{Outcome}
use Rattle.initial.specs.declared.concluding.Outcome.TheVariants as outcome
use Rattle.association.specs.declared.outcome.Ended.{Ended}
use Rattle.effects.specs.declared.taking.Effect.{Effect}
use Rattle.effects.specs.declared.taking.Effect.TheVariants as effect
use Rattle.effects.proofs.PairLemmas.{answer_unused, closed_if_leaves, concluded_leaves, end_unused, further_if_leaves, further_unused, itself_same, made_unused, room_same, same_leaves, HasSamePairs}
use Rattle.effects.proofs.WayLemmas.{answered_further, answered_later, counted_further, counted_later, pair_made, way_of, AnsweredFurther, CountedFurther, CountedInformational, EndsOrStays, WasAsked, WasIdentified, Way}
use Rattle.association.specs.Outcomes.{closed_by, made_by}
use Rattle.association.specs.declared.outcome.Fate.{Fate}

-- a message that is dropped, or comes again, changes nothing
abbrev pub Idle : Effect → Association → Database → Association → Database → Type 0
Idle (effect.Refused fault) old table new new_table = IsPassedOver old table new new_table
Idle (effect.Repeated octets) old table new new_table = IsPassedOver old table new new_table
Idle (effect.Replied answered) old table new new_table = Unit {0}
Idle (effect.Again octets) old table new new_table = Unit {0}
Idle (effect.AsksAuth octets) old table new new_table = Unit {0}
Idle (effect.Counted ended) old table new new_table = Unit {0}

idle_by : (e : Effect) (old new : Association) (table new_table : Database) → IsPassedOver old table new new_table → Idle e old table new new_table
idle_by (effect.Refused fault) old new table new_table same = same
idle_by (effect.Repeated octets) old new table new_table same = same
idle_by (effect.Replied answered) old new table new_table same = tt
idle_by (effect.Again octets) old new table new_table same = tt
idle_by (effect.AsksAuth octets) old new table new_table same = tt
idle_by (effect.Counted ended) old new table new_table same = tt

-- It stays itself.
record Leaves (e : Effect) (old : Association) (table : Database) (new : Association) (new_table : Database) : Type 0 where
  idle : Idle e old table new new_table
  itself : KeepsIdentity old new
  pairs : LeavesPairs table old.serial new_table

itself_by : (old is new : Association) → new ≡ is → KeepsIdentity old is → KeepsIdentity old new
itself_by old is new same itself = subst (λ (a : Association). KeepsIdentity old a) (sym same) itself

all_itself : (old : Association) → KeepsIdentity old old
all_itself old = record { serial = refl; role = refl; spi_i = refl; spi_r = inl refl; waiting = λ w. w; asking = λ s. inr s; half_open = λ h. h }

unchanged_leaves : (table : Database) (ike : ℕ) (new_table : Database) → new_table ≡ table → LeavesPairs table ike new_table
unchanged_leaves table ike new_table same = same_leaves table ike new_table (subst (λ (d : Database). HasSamePairs table d) (sym same) (itself_same table))

leaves_all : (e : Effect) (old new : Association) (table new_table : Database) → IsPassedOver old table new new_table → Leaves e old table new new_table
leaves_all e old new table new_table same = record { idle = idle_by e old new table new_table same; itself = itself_by old old new same.association (all_itself old); pairs = unchanged_leaves table old.serial new_table same.pairs }

closed_waits : (keys : Option KeyRecord) (at : ℕ) (sent : InitSent) → phase.Closed keys at ≡ phase.InitSent sent → ⊥
closed_waits keys at sent is = cc

closed_asks : (keys : Option KeyRecord) (at : ℕ) (sent : AuthSent) → phase.Closed keys at ≡ phase.AuthSent sent → ⊥
closed_asks keys at sent is = cc

established_asks : (keys : KeyRecord) (sent : AuthSent) → phase.Established keys ≡ phase.AuthSent sent → ⊥
established_asks keys sent is = cc

closed_opens : (keys : Option KeyRecord) (at : ℕ) (opened : HalfOpen) → phase.Closed keys at ≡ phase.HalfOpen opened → ⊥
closed_opens keys at opened is = cc

established_waits : (keys : KeyRecord) (sent : InitSent) → phase.Established keys ≡ phase.InitSent sent → ⊥
established_waits keys sent is = cc

established_opens : (keys : KeyRecord) (opened : HalfOpen) → phase.Established keys ≡ phase.HalfOpen opened → ⊥
established_opens keys opened is = cc

sent_opens : (sent : AuthSent) (opened : HalfOpen) → phase.AuthSent sent ≡ phase.HalfOpen opened → ⊥
sent_opens sent opened is = cc

waiting_opens : (sent : InitSent) (opened : HalfOpen) → phase.InitSent sent ≡ phase.HalfOpen opened → ⊥
waiting_opens sent opened is = cc

-- when it is over
over_itself : (old : Association) (table : Database) (moment : ℕ) (new : Association) (new_table : Database) → Closes old table moment new new_table → KeepsIdentity old new
over_itself old table moment new new_table is =
    itself_by old (record old { outgoing = new.outgoing; phase = phase.Closed (keys_in old.phase) moment }) new is.content
    (record {
      serial = refl;
      role = refl;
      spi_i = refl;
      spi_r = inl refl;
      waiting = λ w. absurd (closed_waits (keys_in old.phase) moment w.sent w.is);
      asking = λ s. absurd (closed_asks (keys_in old.phase) moment s.sent s.is);
      half_open = λ h. absurd (closed_opens (keys_in old.phase) moment h.opened h.is);
    })

closed_if_itself : (ending : Bool) (serials : List ℕ) (old : Association) (table : Database) (moment : ℕ) (new : Association) (new_table : Database) → ClosesIf ending serials old table moment new new_table → KeepsIdentity old new
closed_if_itself true serials old table moment new new_table is = over_itself old table moment new new_table is
closed_if_itself false serials old table moment new new_table is = itself_by old old new is.0 (all_itself old)

-- when IKE_AUTH is done
concluded_itself : (setup : Setup) (old : Association) (table : Database) (o : Outcome) (came : Fate) (new : Association) (new_table : Database) (keys : KeyRecord)
    → established_of old.phase ≡ phase.Established keys → ConcludesBy setup old table o came new new_table → KeepsIdentity old new
concluded_itself setup old table outcome.Closes came new new_table keys was c = over_itself old table setup.moment new new_table c.over
concluded_itself setup old table (outcome.Establishes pair window) came new new_table keys was c =
    itself_by old (widened setup.config.window window (established old)) new c.content
    (record {
      serial = refl;
      role = refl;
      spi_i = refl;
      spi_r = inl refl;
      waiting = λ w. absurd (established_waits keys w.sent (sym was ∙ w.is));
      asking = λ s. absurd (established_asks keys s.sent (sym was ∙ s.is));
      half_open = λ h. absurd (established_opens keys h.opened (sym was ∙ h.is));
    })

-- what has the same names and phase
like : (is old new : Association) → is.serial ≡ old.serial → is.role ≡ old.role → is.spi_i ≡ old.spi_i → is.spi_r ≡ old.spi_r → is.phase ≡ old.phase
    → KeepsIdentity is new → KeepsIdentity old new
like is old new serial role spi_i spi_r phase_is stays =
    record {
      serial = stays.serial ∙ serial;
      role = stays.role ∙ role;
      spi_i = stays.spi_i ∙ spi_i;
      spi_r = subst (λ (p : Phase). (new.spi_r ≡ old.spi_r) ⊎ IsInitSent p) phase_is (subst (λ n. (new.spi_r ≡ n) ⊎ IsInitSent is.phase) spi_r stays.spi_r);
      waiting = λ w. subst IsInitSent phase_is (stays.waiting w);
      asking = λ s. subst (λ (p : Phase). IsInitSent p ⊎ IsAuthSent p) phase_is (stays.asking s);
      half_open = λ h. subst IsHalfOpen phase_is (stays.half_open h);
    }

answered_leaves : (prover : Prover) (setup : Setup) (old : Association) (table : Database) (number : ℕ) (plain : Plain) (a : Answered) (new : Association) (new_table : Database)
    → AnswersAuth prover setup old table number plain a new new_table → Leaves (effect.Replied a) old table new new_table
answered_leaves prover setup old table number plain a new new_table is =
    record {
      idle = tt;
      itself = like (record old { incoming = is.incoming }) old new refl refl refl refl refl
          (concluded_itself setup (record old { incoming = is.incoming }) is.between (outcome_of is.decision) a.fate new new_table is.opened.keys (ap established_of is.was) is.concluded);
      pairs = concluded_leaves setup (record old { incoming = is.incoming }) table is.between (outcome_of is.decision) a.fate new new_table (room_same table is.between is.room)
          (answer_unused prover.accepts setup old.serial is.opened table plain is.decision is.decided) is.concluded;
    }

ended_leaves : (accepts : Accepts) (setup : Setup) (old : Association) (table : Database) (number : ℕ) (plain : Plain) (e : Ended) (new : Association) (new_table : Database)
    → EndsAuth accepts setup old table number plain e new new_table → Leaves (effect.Counted e) old table new new_table
ended_leaves accepts setup old table number plain e new new_table is =
    record {
      idle = tt;
      itself = like (record old { outgoing = is.outgoing }) old new refl refl refl refl refl
          (concluded_itself setup (record old { outgoing = is.outgoing }) table is.verdict e.fate new new_table is.sent.keys (ap established_of is.was) is.concluded);
      pairs = concluded_leaves setup (record old { outgoing = is.outgoing }) table table is.verdict e.fate new new_table (itself_same table)
          (end_unused accepts setup old.serial is.sent plain is.verdict is.judged) is.concluded;
    }

informed_leaves : (body_of : Keys → Octets → Octets → Octets → Octets) (setup : Setup) (old : Association) (table : Database) (number : ℕ) (plain : Plain) (a : Answered) (new : Association) (new_table : Database)
    → AnswersInformational body_of setup old table number plain a new new_table → Leaves (effect.Replied a) old table new new_table
informed_leaves body_of setup old table number plain a new new_table is =
    let ending = is_closing_verdict (verdict_on table.pairs old.serial is.payloads) in
    let serials = gone_by (verdict_on table.pairs old.serial is.payloads) in
    let taken : Association = record old { incoming = is.incoming } in
    record {
      idle = tt;
      itself = like taken old new refl refl refl refl refl (closed_if_itself ending serials taken table setup.moment new new_table is.concluded);
      pairs = closed_if_leaves ending serials taken table setup.moment new new_table is.concluded;
    }

counted_leaves : (setup : Setup) (old : Association) (table : Database) (m : Message) (e : Ended) (new : Association) (new_table : Database)
    → CountedInformational setup old table m e new new_table → Leaves (effect.Counted e) old table new new_table
counted_leaves setup old table m e new new_table is =
    let ending = is_ended is.done.payloads is.done.request.purpose in
    let serials = gone_with table.pairs old.serial is.done.request.purpose in
    let counted : Association = record old { outgoing = is.done.outgoing } in
    record {
      idle = tt;
      itself = like counted old new refl refl refl refl refl (closed_if_itself ending serials counted table setup.moment new new_table is.done.concluded);
      pairs = closed_if_leaves ending serials counted table setup.moment new new_table is.done.concluded;
    }

ends_itself : (closing : Bool) (a : Association) (moment : ℕ) (new : Association) → EndsOrStays closing a moment new → KeepsIdentity a new
ends_itself closing a moment new is = closed_if_itself closing is.serials a is.before moment new is.after is.is

further_answered_leaves : (meaning : Meaning) (setup : Setup) (old : Association) (table : Database) (octets : Octets) (m : Message) (a : Answered) (new : Association) (new_table : Database)
    → AnsweredFurther meaning setup old table octets m a new new_table → Leaves (effect.Replied a) old table new new_table
further_answered_leaves meaning setup old table octets m a new new_table is =
    let d = is.done in
    let later = answered_later meaning setup old table octets m a new new_table (inr is) in
    let taken : Association = record old { incoming = d.incoming } in
    record {
      idle = tt;
      itself = like (record old { incoming = later.incoming }) old new refl refl refl refl refl (ends_itself (closed_by a.fate) (record old { incoming = later.incoming }) setup.moment new later.ends);
      pairs = further_if_leaves (is_closing_decision d.decision) None (further_pair d.decision) taken table d.between setup.moment (made_by a.fate) new new_table (room_same table d.between d.room)
          (further_unused setup old.serial d.keys table d.deleting is.plain d.decision d.decided)
          (answered_further (is_closing_decision d.decision) (further_pair d.decision) taken d.between setup.moment a.fate new new_table d.concluded);
    }

further_counted_leaves : (meaning : Meaning) (setup : Setup) (old : Association) (table : Database) (octets : Octets) (m : Message) (e : Ended) (new : Association) (new_table : Database)
    → CountedFurther meaning setup old table octets m e new new_table → Leaves (effect.Counted e) old table new new_table
further_counted_leaves meaning setup old table octets m e new new_table is =
    let d = is.done in
    let later = counted_later meaning setup old table octets m e new new_table (inr is) in
    let counted : Association = record old { outgoing = d.outgoing } in
    record {
      idle = tt;
      itself = like (record old { outgoing = later.outgoing }) old new refl refl refl refl refl (ends_itself (closed_by e.fate) (record old { outgoing = later.outgoing }) setup.moment new later.ends);
      pairs = further_if_leaves (is_closing_conclusion d.conclusion) (Some d.further.child.spi) (pair_made d.conclusion) counted table table setup.moment (made_by e.fate) new new_table (itself_same table)
          (made_unused setup.config.blocks old.serial d.keys (asked_of d.further.child) d.further.nonce is.plain d.conclusion d.concluded)
          (counted_further d.conclusion d.further.child.spi counted table setup.moment e.fate new new_table d.ends);
    }

asked_leaves : (meaning : Meaning) (setup : Setup) (old : Association) (table : Database) (m : Message) (next : Octets) (new : Association) (new_table : Database)
    → WasAsked meaning setup old table m next new new_table → Leaves (effect.Again next) old table new new_table
asked_leaves meaning setup old table m next new new_table is =
    let waiting : InitSent = record is.sent { cookie = Some is.cookie; cookies_taken = is.sent.cookies_taken + 1 } in
    record {
      idle = tt;
      itself =
          itself_by old (record old { outgoing = new.outgoing; phase = phase.InitSent waiting }) new is.done.content
          (record {
            serial = refl;
            role = refl;
            spi_i = refl;
            spi_r = inl refl;
            waiting = λ w. record { sent = is.sent; is = is.was };
            asking = λ s. inl (record { sent = is.sent; is = is.was });
            half_open = λ h. absurd (waiting_opens waiting h.opened h.is);
          });
      pairs = unchanged_leaves table old.serial new_table is.pairs;
    }

identified_leaves : (meaning : Meaning) (setup : Setup) (old : Association) (table : Database) (octets : Octets) (m : Message) (next : Octets) (new : Association) (new_table : Database)
    → WasIdentified meaning setup old table octets m next new new_table → Leaves (effect.AsksAuth next) old table new new_table
identified_leaves meaning setup old table octets m next new new_table is =
    let asking : AuthSent = record { keys = is.keys; first = octets; child = is.sent.child } in
    record {
      idle = tt;
      itself =
          itself_by old (record old { spi_r = m.header.spi_r; outgoing = new.outgoing; phase = phase.AuthSent asking }) new is.done.content
          (record {
            serial = refl;
            role = refl;
            spi_i = refl;
            spi_r = inr (record { sent = is.sent; is = is.was });
            waiting = λ w. record { sent = is.sent; is = is.was };
            asking = λ s. inl (record { sent = is.sent; is = is.was });
            half_open = λ h. absurd (sent_opens asking h.opened h.is);
          });
      pairs = unchanged_leaves table old.serial new_table is.pairs;
    }

way_leaves : (meaning : Meaning) (setup : Setup) (old : Association) (table : Database) (octets : Octets) (m : Message) (e : Effect) (new : Association) (new_table : Database)
    → Way meaning setup old table octets m e new new_table → Leaves e old table new new_table
way_leaves meaning setup old table octets m (effect.Refused fault) new new_table is = leaves_all (effect.Refused fault) old new table new_table is
way_leaves meaning setup old table octets m (effect.Repeated reply) new new_table is = leaves_all (effect.Repeated reply) old new table new_table is.same
way_leaves meaning setup old table octets m (effect.Replied answered) new new_table (inl is) = answered_leaves (prover_of meaning) setup old table m.header.id is.plain answered new new_table is.done
way_leaves meaning setup old table octets m (effect.Replied answered) new new_table (inr (inr is)) = further_answered_leaves meaning setup old table octets m answered new new_table is
way_leaves meaning setup old table octets m (effect.Replied answered) new new_table (inr (inl is)) = informed_leaves meaning.body_of setup old table m.header.id is.plain answered new new_table is.done
way_leaves meaning setup old table octets m (effect.Again next) new new_table is = asked_leaves meaning setup old table m next new new_table is
way_leaves meaning setup old table octets m (effect.AsksAuth next) new new_table is = identified_leaves meaning setup old table octets m next new new_table is
way_leaves meaning setup old table octets m (effect.Counted ended) new new_table (inl is) = ended_leaves meaning.accepts setup old table m.header.id is.plain ended new new_table is.done
way_leaves meaning setup old table octets m (effect.Counted ended) new new_table (inr (inr is)) = further_counted_leaves meaning setup old table octets m ended new new_table is
way_leaves meaning setup old table octets m (effect.Counted ended) new new_table (inr (inl is)) = counted_leaves setup old table m ended new new_table is

leaves : (meaning : Meaning) (setup : Setup) (old : Association) (table : Database) (octets : Octets) (m : Message) (e : Effect) (new : Association) (new_table : Database)
    → TakesMessage meaning setup old table octets m e new new_table → Leaves e old table new new_table
leaves meaning setup old table octets m e new new_table is = way_leaves meaning setup old table octets m e new new_table (way_of meaning setup old table octets m e new new_table is)

pub stays_itself : (meaning : Meaning) (setup : Setup) (old : Association) (table : Database) (octets : Octets) (m : Message) (e : Effect) (new : Association) (new_table : Database)
    → TakesMessage meaning setup old table octets m e new new_table → KeepsIdentity old new
stays_itself meaning setup old table octets m e new new_table is = (leaves meaning setup old table octets m e new new_table is).itself

pub passed_over : (meaning : Meaning) (setup : Setup) (old : Association) (table : Database) (octets : Octets) (m : Message) (fault : MessageFault) (new : Association) (new_table : Database)
    → TakesMessage meaning setup old table octets m (effect.Refused fault) new new_table → (new ≡ old) × (new_table ≡ table)
passed_over meaning setup old table octets m fault new new_table is =
    let idle = (leaves meaning setup old table octets m (effect.Refused fault) new new_table is).idle in (idle.association, idle.pairs)

pub repeated : (meaning : Meaning) (setup : Setup) (old : Association) (table : Database) (octets : Octets) (m : Message) (reply : Octets) (new : Association) (new_table : Database)
    → TakesMessage meaning setup old table octets m (effect.Repeated reply) new new_table → (new ≡ old) × (new_table ≡ table)
repeated meaning setup old table octets m reply new new_table is =
    let idle = (leaves meaning setup old table octets m (effect.Repeated reply) new new_table is).idle in (idle.association, idle.pairs)

pub pairs_left : (meaning : Meaning) (setup : Setup) (old : Association) (table : Database) (octets : Octets) (m : Message) (e : Effect) (new : Association) (new_table : Database)
    → TakesMessage meaning setup old table octets m e new new_table → LeavesPairs table old.serial new_table
pairs_left meaning setup old table octets m e new new_table is = (leaves meaning setup old table octets m e new new_table is).pairs
