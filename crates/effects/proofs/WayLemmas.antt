-- What a message did to an IKE SA, by what came of it.
use Rattle.std.proofs.Common.{◌≡◌, ◌≢◌, ◌==◌, ◌⊎◌, inl, inr, ℕ, Bool, true, false, List, [], Option, Some, None, arith, ap, refl, subst, sym, ◌∙◌}
use Rattle.base.specs.Octets.{Octets}
use Rattle.wire.specs.Numbers.{CREATE_CHILD_SA, INFORMATIONAL}
use Rattle.wire.specs.declared.message.Message.{Message}
use Rattle.wire.specs.declared.payload.Payload.{Payload}
use Rattle.suite.specs.declared.key_record.KeyRecord.{KeyRecord}
use Rattle.exchange.specs.Headers.{keys_of}
use Rattle.exchange.specs.Sealed.{IsSealed}
use Rattle.exchange.specs.declared.sealed.Plain.{Plain}
use Rattle.requests.specs.Incoming.{HasSameRequests, PeerRequests, TakesRequest}
use Rattle.requests.specs.Outgoing.{CountsAnswer, OwnRequests}
use Rattle.sadb.specs.Database.{Database}
use Rattle.sadb.specs.declared.pair.Pair.{Pair}
use Rattle.sa_init.specs.Reading.{IsResponse}
use Rattle.sa_init.specs.declared.response.Response.{Response}
use Rattle.sa_init.specs.declared.response.Response.TheVariants as response
use Rattle.association.specs.Closing.{Closes, GivesUpSpi}
use Rattle.association.specs.Receiving.{Answers, AnswersInitial, IsReceived, Reception, Refused, Repeat, TakesEffect}
use Rattle.association.specs.declared.phase.Association.{Association}
use Rattle.association.specs.declared.phase.InitSent.{InitSent}
use Rattle.association.specs.declared.phase.Phase.{Phase}
use Rattle.association.specs.declared.phase.Phase.TheVariants as phase
use Rattle.association.specs.declared.phase.Request.{Request}
use Rattle.initial.specs.Answering.{AnswersAuth}
use Rattle.association.specs.Sending.{reply_message}
use Rattle.initial.specs.Concluding.{AddsChild}
use Rattle.association.specs.Issuing.{with_incoming, with_outgoing}
use Rattle.setup.specs.Configs.{Setup}
use Rattle.initial.specs.Ending.{EndsAuth}
use Rattle.initial.specs.Reading.{waiting_of, BringsCookie, Continues, TellsIdentity}
use Rattle.deletions.specs.Answering.{payloads_of_verdict}
use Rattle.deletions.specs.Deciding.{is_closing_verdict, verdict_on}
use Rattle.informational.specs.Answering.{gone_by, AnswersInformational}
use Rattle.informational.specs.Counting.{gone_with, is_ended, CountsInformational}
use Rattle.informational.specs.Orders.{ClosesIf, RemovesOwn}
use Rattle.further.specs.Answering.{answer_to_further, further_answer, further_pair}
use Rattle.further.specs.Deciding.{is_closing_decision}
use Rattle.further.specs.declared.concluding.Conclusion.{Conclusion}
use Rattle.further.specs.declared.concluding.Conclusion.TheVariants as conclusion
use Rattle.create_child.specs.Answering.{AnswersFurther, ConcludesFurther}
use Rattle.create_child.specs.Counting.{is_closing_conclusion, CountsFurther, EndsFurther}
use Rattle.effects.specs.Taking.{asked_further, asker_of, prover_of, Does, DoesAnswer, DoesAtEstablished, DoesRequest, DoesResponse, IsPassedOver, Meaning, Says, TakesMessage}
use Rattle.association.specs.declared.outcome.Answered.{Answered}
use Rattle.association.specs.declared.outcome.Ended.{Ended}
use Rattle.initial.specs.declared.reading.Continued.{Continued}
use Rattle.initial.specs.declared.reading.Continued.TheVariants as continued
use Rattle.effects.specs.declared.taking.Effect.{Effect}
use Rattle.effects.specs.declared.taking.Effect.TheVariants as effect
use Rattle.association.specs.Outcomes.{closed_by, made_by}
use Rattle.association.specs.declared.outcome.Fate.{Fate}
use Rattle.association.specs.declared.outcome.Fate.TheVariants as fate
use Rattle.effects.proofs.FateLemmas.{answered_fate, childless_closed, counted_fate}

pub record WasRepeated (meaning : Meaning) (old : Association) (table : Database) (octets : Octets) (m : Message) (reply : Octets) (new : Association) (new_table : Database) : Type 0 where
  pub received : IsReceived meaning.plain_of old octets m (Repeat reply)
  pub same : IsPassedOver old table new new_table

-- a request was processed: of IKE_AUTH, of INFORMATIONAL, or of CREATE_CHILD_SA
pub record AnsweredAuth (meaning : Meaning) (setup : Setup) (old : Association) (table : Database) (octets : Octets) (m : Message) (answered : Answered) (new : Association) (new_table : Database) : Type 0 where
  pub plain : Plain
  pub received : IsReceived meaning.plain_of old octets m (TakesEffect plain)
  pub done : AnswersAuth (prover_of meaning) setup old table m.header.id plain answered new new_table

pub record AnsweredInformational (meaning : Meaning) (setup : Setup) (old : Association) (table : Database) (octets : Octets) (m : Message) (answered : Answered) (new : Association) (new_table : Database) : Type 0 where
  pub one : (m.header.exchange == INFORMATIONAL) ≡ true
  pub plain : Plain
  pub received : IsReceived meaning.plain_of old octets m (TakesEffect plain)
  pub done : AnswersInformational meaning.body_of setup old table m.header.id plain answered new new_table

pub record AnsweredFurther (meaning : Meaning) (setup : Setup) (old : Association) (table : Database) (octets : Octets) (m : Message) (answered : Answered) (new : Association) (new_table : Database) : Type 0 where
  pub plain : Plain
  pub received : IsReceived meaning.plain_of old octets m (TakesEffect plain)
  pub other : (m.header.exchange == INFORMATIONAL) ≡ false
  pub done : AnswersFurther meaning.body_of setup old table m.header.id plain answered new new_table

-- a response was matched: to IKE_AUTH, to INFORMATIONAL, or to CREATE_CHILD_SA
pub record CountedAuth (meaning : Meaning) (setup : Setup) (old : Association) (table : Database) (octets : Octets) (m : Message) (ended : Ended) (new : Association) (new_table : Database) : Type 0 where
  pub plain : Plain
  pub received : IsReceived meaning.plain_of old octets m (Answers plain)
  pub done : EndsAuth meaning.accepts setup old table m.header.id plain ended new new_table

pub record CountedInformational (setup : Setup) (old : Association) (table : Database) (m : Message) (ended : Ended) (new : Association) (new_table : Database) : Type 0 where
  pub keys : KeyRecord
  pub was : old.phase ≡ phase.Established keys
  pub other : asked_further old m.header.id ≡ false
  pub plain : Plain
  pub done : CountsInformational setup old table m.header.id plain ended new new_table

pub record CountedFurther (meaning : Meaning) (setup : Setup) (old : Association) (table : Database) (octets : Octets) (m : Message) (ended : Ended) (new : Association) (new_table : Database) : Type 0 where
  pub plain : Plain
  pub received : IsReceived meaning.plain_of old octets m (Answers plain)
  pub done : CountsFurther setup old table m.header.id plain ended new new_table

pub record WasAsked (meaning : Meaning) (setup : Setup) (old : Association) (table : Database) (m : Message) (next : Octets) (new : Association) (new_table : Database) : Type 0 where
  pub sent : InitSent
  pub was : old.phase ≡ phase.InitSent sent
  pub cookie : Octets
  pub done : BringsCookie (asker_of meaning) setup.moment old sent m.header.id cookie next new
  pub pairs : new_table ≡ table

pub record WasIdentified (meaning : Meaning) (setup : Setup) (old : Association) (table : Database) (octets : Octets) (m : Message) (next : Octets) (new : Association) (new_table : Database) : Type 0 where
  pub sent : InitSent
  pub was : old.phase ≡ phase.InitSent sent
  pub keys : KeyRecord
  pub named : m.header.spi_r ≢ 0
  pub done : TellsIdentity (asker_of meaning) setup old sent m.header.id m octets keys next new
  pub pairs : new_table ≡ table

abbrev pub Way : Meaning → Setup → Association → Database → Octets → Message → Effect → Association → Database → Type 0
Way meaning setup old table octets m (effect.Refused fault) new new_table = IsPassedOver old table new new_table
Way meaning setup old table octets m (effect.Repeated reply) new new_table = WasRepeated meaning old table octets m reply new new_table
Way meaning setup old table octets m (effect.Replied answered) new new_table =
    AnsweredAuth meaning setup old table octets m answered new new_table
    ⊎ (AnsweredInformational meaning setup old table octets m answered new new_table ⊎ AnsweredFurther meaning setup old table octets m answered new new_table)
Way meaning setup old table octets m (effect.Again next) new new_table = WasAsked meaning setup old table m next new new_table
Way meaning setup old table octets m (effect.AsksAuth next) new new_table = WasIdentified meaning setup old table octets m next new new_table
Way meaning setup old table octets m (effect.Counted ended) new new_table =
    CountedAuth meaning setup old table octets m ended new new_table
    ⊎ (CountedInformational setup old table m ended new new_table ⊎ CountedFurther meaning setup old table octets m ended new new_table)

further_way : (meaning : Meaning) (setup : Setup) (informational : Bool) (old : Association) (table : Database) (octets : Octets) (m : Message) (plain : Plain) (e : Effect) (new : Association) (new_table : Database)
    → (m.header.exchange == INFORMATIONAL) ≡ informational → IsReceived meaning.plain_of old octets m (TakesEffect plain)
    → DoesAtEstablished informational meaning setup old table m.header.id plain e new new_table → Way meaning setup old table octets m e new new_table
further_way meaning setup true old table octets m plain (effect.Replied answered) new new_table one received is = inr (inl (record { one = one; plain = plain; received = received; done = is }))
further_way meaning setup true old table octets m plain e new new_table one received is = absurd is
further_way meaning setup false old table octets m plain (effect.Replied answered) new new_table other received is = inr (inr (record { plain = plain; received = received; other = other; done = is }))
further_way meaning setup false old table octets m plain e new new_table other received is = absurd is

request_way : (meaning : Meaning) (setup : Setup) (p : Phase) (old : Association) (table : Database) (octets : Octets) (m : Message) (plain : Plain) (e : Effect) (new : Association) (new_table : Database)
    → IsReceived meaning.plain_of old octets m (TakesEffect plain) → DoesRequest meaning setup p m.header.exchange old table m.header.id plain e new new_table → Way meaning setup old table octets m e new new_table
request_way meaning setup (phase.HalfOpen opened) old table octets m plain (effect.Replied answered) new new_table received is = inl (record { plain = plain; received = received; done = is })
request_way meaning setup (phase.HalfOpen opened) old table octets m plain e new new_table received is = absurd is
request_way meaning setup (phase.Established keys) old table octets m plain e new new_table received is =
    further_way meaning setup (m.header.exchange == INFORMATIONAL) old table octets m plain e new new_table refl received is
request_way meaning setup p old table octets m plain (effect.Refused fault) new new_table received is = is.1
request_way meaning setup p old table octets m plain e new new_table received is = absurd is

answer_way : (meaning : Meaning) (setup : Setup) (further : Bool) (keys : KeyRecord) (old : Association) (table : Database) (octets : Octets) (m : Message) (plain : Plain) (e : Effect) (new : Association) (new_table : Database)
    → old.phase ≡ phase.Established keys → asked_further old m.header.id ≡ further → IsReceived meaning.plain_of old octets m (Answers plain) → DoesAnswer further setup old table m.header.id plain e new new_table
    → Way meaning setup old table octets m e new new_table
answer_way meaning setup true keys old table octets m plain (effect.Counted ended) new new_table was further received is = inr (inr (record { plain = plain; received = received; done = is }))
answer_way meaning setup true keys old table octets m plain e new new_table was further received is = absurd is
answer_way meaning setup false keys old table octets m plain (effect.Counted ended) new new_table was other received is = inr (inl (record { keys = keys; was = was; other = other; plain = plain; done = is }))
answer_way meaning setup false keys old table octets m plain e new new_table was other received is = absurd is

response_way : (meaning : Meaning) (setup : Setup) (p : Phase) (old : Association) (table : Database) (octets : Octets) (m : Message) (plain : Plain) (e : Effect) (new : Association) (new_table : Database)
    → old.phase ≡ p → IsReceived meaning.plain_of old octets m (Answers plain) → DoesResponse meaning setup p old table m.header.id plain e new new_table → Way meaning setup old table octets m e new new_table
response_way meaning setup (phase.AuthSent sent) old table octets m plain (effect.Counted ended) new new_table was received is = inl (record { plain = plain; received = received; done = is })
response_way meaning setup (phase.AuthSent sent) old table octets m plain e new new_table was received is = absurd is
response_way meaning setup (phase.Established keys) old table octets m plain e new new_table was received is =
    answer_way meaning setup (asked_further old m.header.id) keys old table octets m plain e new new_table was refl received is
response_way meaning setup p old table octets m plain (effect.Refused fault) new new_table was received is = is.1
response_way meaning setup p old table octets m plain e new new_table was received is = absurd is

initial_way : (meaning : Meaning) (setup : Setup) (old : Association) (sent : InitSent) (table : Database) (octets : Octets) (m : Message) (e : Effect) (c : Continued) (r : Response) (new : Association) (new_table : Database)
    → old.phase ≡ phase.InitSent sent → IsResponse (asker_of meaning).cipher (asker_of meaning).group (asker_of meaning).shared_secret (waiting_of old.spi_i sent) m r → Continues (asker_of meaning) setup old sent m.header.id m octets r c new → Says e c → new_table ≡ table
    → Way meaning setup old table octets m e new new_table
initial_way meaning setup old sent table octets m (effect.Again said) (continued.Again next) (response.Cookie cookie) new new_table was means is says same =
    record {
      sent = sent;
      was = was;
      cookie = cookie.now;
      done = subst (λ (o : Octets). BringsCookie (asker_of meaning) setup.moment old sent m.header.id cookie.now o new) (sym says) is;
      pairs = same;
    }
initial_way meaning setup old sent table octets m (effect.Again said) (continued.Again next) r new new_table was means is says same = absurd is
initial_way meaning setup old sent table octets m (effect.AsksAuth said) (continued.AsksAuth next) (response.Keys keys) new new_table was means is says same =
    record {
      sent = sent;
      was = was;
      keys = keys;
      named = means.acceptance.named;
      done = subst (λ (o : Octets). TellsIdentity (asker_of meaning) setup old sent m.header.id m octets keys o new) (sym says) is;
      pairs = same;
    }
initial_way meaning setup old sent table octets m (effect.AsksAuth said) (continued.AsksAuth next) r new new_table was means is says same = absurd is
initial_way meaning setup old sent table octets m (effect.Refused fault) continued.Unfit response.Unfit new new_table was means is says same = record { association = is; pairs = same }
initial_way meaning setup old sent table octets m (effect.Refused fault) continued.Unfit r new new_table was means is says same = absurd is
initial_way meaning setup old sent table octets m e c r new new_table was means is says same = absurd says

does_way : (meaning : Meaning) (setup : Setup) (old : Association) (table : Database) (octets : Octets) (m : Message) (r : Reception) (e : Effect) (new : Association) (new_table : Database)
    → IsReceived meaning.plain_of old octets m r → Does meaning setup old table octets m r e new new_table → Way meaning setup old table octets m e new new_table
does_way meaning setup old table octets m (Refused f) (effect.Refused fault) new new_table received is = is.1
does_way meaning setup old table octets m (Repeat reply) (effect.Repeated said) new new_table received is =
    record { received = subst (λ (o : Octets). IsReceived meaning.plain_of old octets m (Repeat o)) (sym is.0) received; same = is.1 }
does_way meaning setup old table octets m (TakesEffect plain) e new new_table received is = request_way meaning setup old.phase old table octets m plain e new new_table received is
does_way meaning setup old table octets m (Answers plain) e new new_table received is = response_way meaning setup old.phase old table octets m plain e new new_table refl received is
does_way meaning setup old table octets m AnswersInitial e new new_table received is =
    initial_way meaning setup old is.0.read.sent table octets m e is.0.continued is.0.read.response new new_table is.0.read.was is.0.read.means is.0.read.continues is.0.said is.1
does_way meaning setup old table octets m r e new new_table received is = absurd is

pub way_of : (meaning : Meaning) (setup : Setup) (old : Association) (table : Database) (octets : Octets) (m : Message) (e : Effect) (new : Association) (new_table : Database)
    → TakesMessage meaning setup old table octets m e new new_table → Way meaning setup old table octets m e new new_table
way_of meaning setup old table octets m e new new_table is = does_way meaning setup old table octets m is.reception e new new_table is.received is.done

-- ---- what an exchange of CREATE_CHILD_SA comes to

-- The IKE SA ends, and an SPI is given up with those that it holds; or it stays as it is, and a Child SA is
-- added or none.
pub record EndsHolding (spi : Option ℕ) (a : Association) (table : Database) (moment : ℕ) (child : Option ℕ) (new : Association) (new_table : Database) : Type 0 where
  pub none : child ≡ None
  pub between : Database
  pub given_up : GivesUpSpi spi table between
  pub over : Closes a between moment new new_table

pub record StaysWith (spi : Option ℕ) (pair : Option Pair) (a : Association) (table : Database) (child : Option ℕ) (new : Association) (new_table : Database) : Type 0 where
  pub same : new ≡ a
  pub added : AddsChild table spi pair child new_table

abbrev pub FurtherIf : Bool → Option ℕ → Option Pair → Association → Database → ℕ → Option ℕ → Association → Database → Type 0
FurtherIf true spi pair a table moment child new new_table = EndsHolding spi a table moment child new new_table
FurtherIf false spi pair a table moment child new new_table = StaysWith spi pair a table child new new_table

pub answered_further : (closing : Bool) (pair : Option Pair) (a : Association) (table : Database) (moment : ℕ) (came : Fate) (new : Association) (new_table : Database)
    → ConcludesFurther closing pair a table moment came new new_table → FurtherIf closing None pair a table moment (made_by came) new new_table
answered_further true pair a table moment came new new_table is = record { none = ap made_by is.0; between = table; given_up = refl; over = is.1 }
answered_further false None a table moment fate.Stands new new_table is = record { same = is.0; added = is.1 }
answered_further false None a table moment (fate.Made serial) new new_table is = absurd is.1
answered_further false None a table moment fate.Closed new new_table is = absurd is.1
answered_further false (Some pair) a table moment fate.Stands new new_table is = absurd is.1
answered_further false (Some pair) a table moment (fate.Made serial) new new_table is = record { same = is.0; added = is.1 }
answered_further false (Some pair) a table moment fate.Closed new new_table is = absurd is.1

-- the SA pair that is made of a response
abbrev pub pair_made : Conclusion → Option Pair
pair_made conclusion.Closes = None
pair_made (conclusion.Made pair) = Some pair
pair_made conclusion.NoChild = None

pub counted_further : (c : Conclusion) (spi : ℕ) (a : Association) (table : Database) (moment : ℕ) (came : Fate) (new : Association) (new_table : Database)
    → EndsFurther c spi a table moment came new new_table → FurtherIf (is_closing_conclusion c) (Some spi) (pair_made c) a table moment (made_by came) new new_table
counted_further conclusion.Closes spi a table moment came new new_table is = record { none = ap made_by is.closed; between = is.between; given_up = is.released; over = is.over }
counted_further (conclusion.Made pair) spi a table moment came new new_table is =
    subst (λ (c : Option ℕ). StaysWith (Some spi) (Some pair) a table c new new_table) (sym (ap made_by is.told)) (record { same = is.same; added = is.installed })
counted_further conclusion.NoChild spi a table moment came new new_table is =
    subst (λ (c : Option ℕ). StaysWith (Some spi) None a table c new new_table) (sym (ap made_by is.stands)) (record { same = is.same; added = is.released })

-- ---- what an exchange at an established IKE SA comes to, as far as the IKE SA goes

pub record EndsOrStays (closing : Bool) (a : Association) (moment : ℕ) (new : Association) : Type 0 where
  pub serials : List ℕ
  pub before : Database
  pub after : Database
  pub is : ClosesIf closing serials a before moment new after

removes_none : (ike : ℕ) (table : Database) → RemovesOwn ike [] table table
removes_none ike table = record {
  its_own = λ k d below. absurd (omega (arith, below));
  removed = record {
    kept = λ serial pair. (λ there. (there, λ named. absurd (omega (arith, named.1))), λ both. both.0);
    content = refl;
    room = omega arith;
    no_more = omega arith;
  };
}

pub further_ends : (closing : Bool) (spi : Option ℕ) (pair : Option Pair) (a : Association) (table : Database) (moment : ℕ) (child : Option ℕ) (new : Association) (new_table : Database)
    → FurtherIf closing spi pair a table moment child new new_table → EndsOrStays closing a moment new
further_ends true spi pair a table moment child new new_table is = record { serials = []; before = is.between; after = new_table; is = is.over }
further_ends false spi pair a table moment child new new_table is = record { serials = []; before = new_table; after = new_table; is = (is.same, removes_none a.serial new_table) }

pub record AnsweredLater (meaning : Meaning) (setup : Setup) (old : Association) (m : Message) (answered : Answered) (new : Association) : Type 0 where
  pub keys : KeyRecord
  pub was : old.phase ≡ phase.Established keys
  pub exchange : ℕ
  pub payloads : List Payload
  pub sealed : IsSealed meaning.body_of (keys_of old.role keys) setup.fresh.seal (reply_message old exchange m.header.id payloads) answered.octets
  pub incoming : PeerRequests
  pub ready : PeerRequests
  pub prepared : HasSameRequests old.incoming ready
  pub taken : TakesRequest ready m.header.id answered.octets incoming
  pub ends : EndsOrStays (closed_by answered.fate) (with_incoming old incoming) setup.moment new

pub informed_later : (meaning : Meaning) (setup : Setup) (old : Association) (table : Database) (m : Message) (plain : Plain) (answered : Answered) (new : Association) (new_table : Database)
    → AnswersInformational meaning.body_of setup old table m.header.id plain answered new new_table → AnsweredLater meaning setup old m answered new
informed_later meaning setup old table m plain answered new new_table d =
    record {
      keys = d.keys;
      was = d.established;
      exchange = INFORMATIONAL;
      payloads = payloads_of_verdict (verdict_on table.pairs old.serial d.payloads);
      sealed = d.sealed;
      incoming = d.incoming;
      ready = d.ready;
      prepared = d.prepared;
      taken = d.taken;
      ends = subst (λ (b : Bool). EndsOrStays b (with_incoming old d.incoming) setup.moment new) (sym (ap closed_by d.fate ∙ childless_closed (is_closing_verdict (verdict_on table.pairs old.serial d.payloads))))
          (record { serials = gone_by (verdict_on table.pairs old.serial d.payloads); before = table; after = new_table; is = d.concluded });
    }

pub further_later : (meaning : Meaning) (setup : Setup) (old : Association) (table : Database) (m : Message) (plain : Plain) (answered : Answered) (new : Association) (new_table : Database)
    → AnswersFurther meaning.body_of setup old table m.header.id plain answered new new_table → AnsweredLater meaning setup old m answered new
further_later meaning setup old table m plain answered new new_table d =
    record {
      keys = d.keys;
      was = d.established;
      exchange = CREATE_CHILD_SA;
      payloads = further_answer (answer_to_further d.decision) setup.fresh.nonce;
      sealed = d.sealed;
      incoming = d.incoming;
      ready = d.ready;
      prepared = d.prepared;
      taken = d.taken;
      ends = subst (λ (b : Bool). EndsOrStays b (with_incoming old d.incoming) setup.moment new) (sym (answered_fate (is_closing_decision d.decision) (further_pair d.decision) (with_incoming old d.incoming) d.between setup.moment answered.fate new new_table d.concluded))
          (further_ends (is_closing_decision d.decision) None (further_pair d.decision) (with_incoming old d.incoming) d.between setup.moment (made_by answered.fate) new new_table
          (answered_further (is_closing_decision d.decision) (further_pair d.decision) (with_incoming old d.incoming) d.between setup.moment answered.fate new new_table d.concluded));
    }

pub answered_later : (meaning : Meaning) (setup : Setup) (old : Association) (table : Database) (octets : Octets) (m : Message) (answered : Answered) (new : Association) (new_table : Database)
    → AnsweredInformational meaning setup old table octets m answered new new_table ⊎ AnsweredFurther meaning setup old table octets m answered new new_table → AnsweredLater meaning setup old m answered new
answered_later meaning setup old table octets m answered new new_table (inl is) = informed_later meaning setup old table m is.plain answered new new_table is.done
answered_later meaning setup old table octets m answered new new_table (inr is) = further_later meaning setup old table m is.plain answered new new_table is.done

pub record CountedLater (setup : Setup) (old : Association) (m : Message) (ended : Ended) (new : Association) : Type 0 where
  pub keys : KeyRecord
  pub was : old.phase ≡ phase.Established keys
  pub request : Request
  pub outgoing : OwnRequests Request
  pub counted : CountsAnswer old.outgoing m.header.id request outgoing
  pub ends : EndsOrStays (closed_by ended.fate) (with_outgoing old outgoing) setup.moment new

pub counted_later : (meaning : Meaning) (setup : Setup) (old : Association) (table : Database) (octets : Octets) (m : Message) (ended : Ended) (new : Association) (new_table : Database)
    → CountedInformational setup old table m ended new new_table ⊎ CountedFurther meaning setup old table octets m ended new new_table → CountedLater setup old m ended new
counted_later meaning setup old table octets m ended new new_table (inl is) =
    let d = is.done in
    record {
      keys = is.keys;
      was = is.was;
      request = d.request;
      outgoing = d.outgoing;
      counted = d.counted;
      ends = subst (λ (b : Bool). EndsOrStays b (with_outgoing old d.outgoing) setup.moment new) (sym (ap closed_by d.fate ∙ childless_closed (is_ended d.payloads d.request.purpose)))
          (record { serials = gone_with table.pairs old.serial d.request.purpose; before = table; after = new_table; is = d.concluded });
    }
counted_later meaning setup old table octets m ended new new_table (inr is) =
    let d = is.done in
    record {
      keys = d.keys;
      was = d.established;
      request = d.request;
      outgoing = d.outgoing;
      counted = d.counted;
      ends = subst (λ (b : Bool). EndsOrStays b (with_outgoing old d.outgoing) setup.moment new) (sym (counted_fate d.conclusion d.further.child.spi (with_outgoing old d.outgoing) table setup.moment ended.fate new new_table d.ends))
          (further_ends (is_closing_conclusion d.conclusion) (Some d.further.child.spi) (pair_made d.conclusion) (with_outgoing old d.outgoing) table setup.moment (made_by ended.fate) new new_table
          (counted_further d.conclusion d.further.child.spi (with_outgoing old d.outgoing) table setup.moment ended.fate new new_table d.ends));
    }
