-- What an IKE SA keeps is short, and its keys stay.
use Rattle.std.proofs.Common.{◌≡◌, ◌⊎◌, inl, inr, ℕ, ◌+◌, Bool, true, false, List, Option, Some, None, ap, refl, subst, sym, ◌∙◌}
use Rattle.std.specs.FinMap as map
use Rattle.std.specs.Ordering.{nat_cmp}
use Rattle.base.specs.Octets.{Octets}
use Rattle.wire.specs.declared.message.Message.{Message}
use Rattle.wire.specs.declared.payload.Payload.{Payload}
use Rattle.suite.specs.declared.fresh.Fresh.{Fresh}
use Rattle.suite.specs.declared.key_record.KeyRecord.{KeyRecord}
use Rattle.suite.specs.declared.sealer.Cipher.{Cipher}
use Rattle.exchange.specs.declared.headers.Role.{Role}
use Rattle.exchange.specs.declared.sealed.Plain.{Plain}
use Rattle.requests.specs.Incoming.{HasSameRequests, PeerRequests, TakesRequest}
use Rattle.requests.specs.Outgoing.{none_issued, number_0_answered, CountsAnswer, OwnRequests}
use Rattle.sadb.specs.Database.{Database}
use Rattle.sa_init.specs.Judging.{OfferView}
use Rattle.association.specs.Closing.{Closes}
use Rattle.association.specs.AskedChildren.{AskedChildView}
use Rattle.association.specs.Phases.{established_of, keys_in}
use Rattle.association.specs.Receiving.{opened_under, IsReceived, IsRepeating, Opening, Repeat}
use Rattle.association.specs.declared.phase.Association.{Association}
use Rattle.association.specs.declared.phase.InitSent.{InitSent}
use Rattle.association.specs.declared.phase.Phase.{Phase}
use Rattle.association.specs.declared.phase.Phase.TheVariants as phase
use Rattle.association.specs.declared.phase.Request.{Request}
use Rattle.association.specs.declared.purpose.Purpose.TheVariants.{Begin, Identify}
use Rattle.initial.specs.Answering.{outcome_of}
use Rattle.association.specs.Admitting.{half_open, Admits}
use Rattle.initial.specs.Beginning.{begun, Begins}
use Rattle.effects.specs.Children.{IsAsking}
use Rattle.initial.specs.Concluding.{established, widened, ConcludesBy}
use Rattle.setup.specs.Configs.{Setup}
use Rattle.association.specs.Issuing.{new_request, IssuesNext}
use Rattle.informational.specs.Orders.{ClosesIf}
use Rattle.effects.specs.Keeping.{kept_reply, octets_of_effect, HasKeys, IsShort, KeepsShort, KeyedBy}
use Rattle.effects.specs.Taking.{Meaning, TakesMessage}
use Rattle.association.specs.declared.outcome.Answered.{Answered}
use Rattle.association.specs.declared.admitting.Admitted.{Admitted}
use Rattle.initial.specs.declared.beginning.Beginning.{Beginning}
use Rattle.initial.specs.declared.concluding.Outcome.{Outcome}
use Rattle.initial.specs.declared.concluding.Outcome.TheVariants as outcome
use Rattle.association.specs.declared.outcome.Ended.{Ended}
use Rattle.effects.specs.declared.taking.Effect.{Effect}
use Rattle.effects.specs.declared.taking.Effect.TheVariants as effect
use Rattle.effects.proofs.MapLemmas.{empty_has, insert_has, remove_has, same_has, same_item, some_none, EachHas}
use Rattle.effects.proofs.WayLemmas.{answered_later, counted_later, way_of, AnsweredAuth, AnsweredLater, CountedAuth, CountedLater, WasAsked, WasIdentified, WasRepeated, Way}
use Rattle.association.specs.Outcomes.{closed_by}
use Rattle.association.specs.declared.outcome.Fate.{Fate}

-- what is known of a request that comes again
pub record RepeatFacts : Type 0 where
  pub why : (plain_of : Opening) (a : Association) (octets : Octets) (m : Message) (reply : Octets) → IsReceived plain_of a octets m (Repeat reply) → IsRepeating plain_of a octets m reply

-- ---- maps of what is short

abbrev pub AllShort : {T : Type 0} → (T → Octets) → map.FinMap nat_cmp T → Type 0
AllShort {T} octets_in m = EachHas (λ (x : T). IsShort (octets_in x)) m

empty_short : {T : Type 0} (octets_in : T → Octets) → AllShort octets_in map.empty
empty_short {T} octets_in = empty_has (λ (x : T). IsShort (octets_in x))

same_short : {T : Type 0} (octets_in : T → Octets) (m n : map.FinMap nat_cmp T) → n ≡ m → AllShort octets_in m → AllShort octets_in n
same_short {T} octets_in = same_has (λ (x : T). IsShort (octets_in x))

insert_short : {T : Type 0} (octets_in : T → Octets) (m : map.FinMap nat_cmp T) (k : ℕ) (v : T) → IsShort (octets_in v) → AllShort octets_in m → AllShort octets_in (map.insert m k v)
insert_short {T} octets_in = insert_has (λ (x : T). IsShort (octets_in x))

remove_short : {T : Type 0} (octets_in : T → Octets) (m : map.FinMap nat_cmp T) (k : ℕ) → AllShort octets_in m → AllShort octets_in (map.remove m k)
remove_short {T} octets_in = remove_has (λ (x : T). IsShort (octets_in x))

abbrev pub itself : Octets → Octets
itself octets = octets

abbrev pub octets_of : Request → Octets
octets_of request = request.octets

-- ---- one IKE SA

short_as : (a b : Association) → b ≡ a → KeepsShort a → KeepsShort b
short_as a b same short = subst (λ (x : Association). KeepsShort x) (sym same) short

keys_as : (a b : Association) → b ≡ a → keys_in b.phase ≡ keys_in a.phase
keys_as a b same = ap (λ (x : Association). keys_in x.phase) same

pub established_keys : (p : Phase) → keys_in (established_of p) ≡ keys_in p
established_keys (phase.InitSent sent) = refl
established_keys (phase.AuthSent sent) = refl
established_keys (phase.HalfOpen opened) = refl
established_keys (phase.Established keys) = refl
established_keys (phase.Closed keys at) = refl

-- an IKE SA that IKE_AUTH established keeps no reply beside those by Message ID
none_first : (p : Phase) (keys : KeyRecord) → established_of p ≡ phase.Established keys → (reply : Octets) → kept_reply (established_of p) ≡ Some reply → IsShort reply
none_first p keys was reply is = absurd (some_none reply (sym (ap kept_reply was) ∙ is))

closed_first : (keys : Option KeyRecord) (at : ℕ) (reply : Octets) → kept_reply (phase.Closed keys at) ≡ Some reply → IsShort reply
closed_first keys at reply is = absurd (some_none reply is)

-- what is left of an IKE SA when IKE_AUTH is done
record IsDone (a : Association) (new : Association) : Type 0 where
  short : AllShort itself a.incoming.kept → AllShort octets_of a.outgoing.outstanding → KeepsShort new
  keys : keys_in new.phase ≡ keys_in a.phase

over_done : (a : Association) (table : Database) (moment : ℕ) (new : Association) (new_table : Database) → Closes a table moment new new_table → IsDone a new
over_done a table moment new new_table is =
    record {
      short = λ replies requests.
          short_as (record a { outgoing = new.outgoing; phase = phase.Closed (keys_in a.phase) moment }) new is.content
          (record {
            replies = replies;
            requests = same_short octets_of map.empty new.outgoing.outstanding (ap (λ (r : OwnRequests Request). r.outstanding) is.requests.content) (empty_short octets_of);
            first = closed_first (keys_in a.phase) moment;
          });
      keys = ap (λ (x : Association). keys_in x.phase) is.content;
    }

concluded_done : (setup : Setup) (a : Association) (table : Database) (o : Outcome) (came : Fate) (new : Association) (new_table : Database) (keys : KeyRecord)
    → established_of a.phase ≡ phase.Established keys → ConcludesBy setup a table o came new new_table → IsDone a new
concluded_done setup a table outcome.Closes came new new_table keys was c = over_done a table setup.moment new new_table c.over
concluded_done setup a table (outcome.Establishes pair window) came new new_table keys was c =
    record {
      short = λ replies requests.
          short_as (widened setup.config.window window (established a)) new c.content
          (record { replies = replies; requests = requests; first = none_first a.phase keys was });
      keys = ap (λ (x : Association). keys_in x.phase) c.content ∙ established_keys a.phase;
    }

closed_if_done : (ending : Bool) (serials : List ℕ) (a : Association) (table : Database) (moment : ℕ) (new : Association) (new_table : Database) (keys : KeyRecord)
    → a.phase ≡ phase.Established keys → ClosesIf ending serials a table moment new new_table → IsDone a new
closed_if_done true serials a table moment new new_table keys was is = over_done a table moment new new_table is
closed_if_done false serials a table moment new new_table keys was is =
    record {
      short = λ replies requests.
          short_as a new is.0
          (record { replies = replies; requests = requests; first = λ reply there. absurd (some_none reply (sym (ap kept_reply was) ∙ there)) });
      keys = ap (λ (x : Association). keys_in x.phase) is.0;
    }

-- ---- what a message leaves

record Leaves (e : Effect) (old new : Association) : Type 0 where
  short : KeepsShort old → KeepsShort new
  sent : KeepsShort old → (octets : Octets) → octets_of_effect e ≡ Some octets → IsShort octets
  keys : (keys : KeyRecord) → keys_in old.phase ≡ Some keys → keys_in new.phase ≡ Some keys
  come : (keys : KeyRecord) → keys_in new.phase ≡ Some keys → (keys_in old.phase ≡ Some keys) ⊎ IsAsking e
  keyed : KeyedBy e new.phase

same_keys : (old new : Association) → keys_in new.phase ≡ keys_in old.phase → (keys : KeyRecord) → keys_in old.phase ≡ Some keys → keys_in new.phase ≡ Some keys
same_keys old new same keys is = same ∙ is

none_come : (e : Effect) (old new : Association) → keys_in new.phase ≡ keys_in old.phase → (keys : KeyRecord) → keys_in new.phase ≡ Some keys → (keys_in old.phase ≡ Some keys) ⊎ IsAsking e
none_come e old new same keys is = inl (sym same ∙ is)

none_sent : (octets : Octets) → None ≡ Some octets → IsShort octets
none_sent octets is = absurd (some_none octets is)

sent_short : (said octets : Octets) → IsShort said → Some said ≡ Some octets → IsShort octets
sent_short said octets short is = subst (λ (o : Octets). IsShort o) (same_item said octets is) short

opened_keys : (plain_of : Opening) (role : Role) (keys : Option KeyRecord) (octets : Octets) (payloads : List Payload) (plain : Plain)
    → opened_under plain_of role keys octets payloads ≡ Some plain → (k : KeyRecord) × (keys ≡ Some k)
opened_keys plain_of role None octets payloads plain is = absurd (some_none plain is)
opened_keys plain_of role (Some keys) octets payloads plain is = (keys, refl)

keys_from : (p : Phase) (k : KeyRecord) → keys_in p ≡ Some k → HasKeys p
keys_from p k are = record { keys = k; are = are }

repeated_leaves : (facts : RepeatFacts) (meaning : Meaning) (old : Association) (table : Database) (octets : Octets) (m : Message) (reply : Octets) (new : Association) (new_table : Database)
    → WasRepeated meaning old table octets m reply new new_table → Leaves (effect.Repeated reply) old new
repeated_leaves facts meaning old table octets m reply new new_table is =
    let why : IsRepeating meaning.plain_of old octets m reply = facts.why meaning.plain_of old octets m reply is.received in
    let keyed = opened_keys meaning.plain_of old.role (keys_in old.phase) octets m.payloads why.plain why.opened in
    let same = keys_as old new is.same.association in
    record {
      short = λ short. short_as old new is.same.association short;
      sent = λ short said e. sent_short reply said (short.replies m.header.id reply why.kept) e;
      keys = same_keys old new same;
      come = none_come (effect.Repeated reply) old new same;
      keyed = keys_from new.phase keyed.0 (same ∙ keyed.1);
    }

-- one more response is cached
taken_short : (old ready new : PeerRequests) (number : ℕ) (reply : Octets) → IsShort reply → HasSameRequests old ready → TakesRequest ready number reply new
    → AllShort itself old.kept → AllShort itself new.kept
taken_short old ready new number reply short prepared taken before = λ n kept there.
    insert_short itself ready.kept number reply short
    (same_short itself old.kept ready.kept (ap (λ (r : PeerRequests). r.kept) prepared.content) before) n kept ((taken.kept n kept).0 there).0

-- one request waits no more
counted_short : (old : OwnRequests Request) (number : ℕ) (request : Request) (new : OwnRequests Request) → CountsAnswer old number request new → AllShort octets_of old.outstanding → AllShort octets_of new.outstanding
counted_short old number request new is before =
    same_short octets_of (map.remove old.outstanding number) new.outstanding (ap (λ (r : OwnRequests Request). r.outstanding) is.content)
    (remove_short octets_of old.outstanding number before)

-- a request that is processed
replied_leaves : (old : Association) (ready incoming : PeerRequests) (number : ℕ) (answered : Answered) (new : Association) (keys : KeyRecord) → keys_in old.phase ≡ Some keys → IsShort answered.octets
    → HasSameRequests old.incoming ready → TakesRequest ready number answered.octets incoming → IsDone (record old { incoming = incoming }) new → Leaves (effect.Replied answered) old new
replied_leaves old ready incoming number answered new keys are limit prepared taken done =
    record {
      short = λ short. done.short (taken_short old.incoming ready incoming number answered.octets limit prepared taken short.replies) short.requests;
      sent = λ short said e. sent_short answered.octets said limit e;
      keys = same_keys old new done.keys;
      come = none_come (effect.Replied answered) old new done.keys;
      keyed = keys_from new.phase keys (done.keys ∙ are);
    }

-- a response that is matched
counted_leaves : (old : Association) (number : ℕ) (request : Request) (outgoing : OwnRequests Request) (ended : Ended) (new : Association) (keys : KeyRecord) → keys_in old.phase ≡ Some keys
    → CountsAnswer old.outgoing number request outgoing → IsDone (record old { outgoing = outgoing }) new → Leaves (effect.Counted ended) old new
counted_leaves old number request outgoing ended new keys are counted done =
    record {
      short = λ short. done.short short.replies (counted_short old.outgoing number request outgoing counted short.requests);
      sent = λ short. none_sent;
      keys = same_keys old new done.keys;
      come = none_come (effect.Counted ended) old new done.keys;
      keyed = keys_from new.phase keys (done.keys ∙ are);
    }

auth_answered_leaves : (meaning : Meaning) (setup : Setup) (old : Association) (table : Database) (octets : Octets) (m : Message) (answered : Answered) (new : Association) (new_table : Database)
    → AnsweredAuth meaning setup old table octets m answered new new_table → Leaves (effect.Replied answered) old new
auth_answered_leaves meaning setup old table octets m answered new new_table is =
    let d = is.done in
    replied_leaves old d.ready d.incoming m.header.id answered new d.opened.keys (ap keys_in d.was) d.sealed.whole.limit d.prepared d.taken
    (concluded_done setup (record old { incoming = d.incoming }) d.between (outcome_of d.decision) answered.fate new new_table d.opened.keys (ap established_of d.was) d.concluded)

later_answered_leaves : (meaning : Meaning) (setup : Setup) (old : Association) (m : Message) (answered : Answered) (new : Association)
    → AnsweredLater meaning setup old m answered new → Leaves (effect.Replied answered) old new
later_answered_leaves meaning setup old m answered new d =
    replied_leaves old d.ready d.incoming m.header.id answered new d.keys (ap keys_in d.was) d.sealed.whole.limit d.prepared d.taken
    (closed_if_done (closed_by answered.fate) d.ends.serials (record old { incoming = d.incoming }) d.ends.before setup.moment new d.ends.after d.keys d.was d.ends.is)

auth_counted_leaves : (meaning : Meaning) (setup : Setup) (old : Association) (table : Database) (octets : Octets) (m : Message) (ended : Ended) (new : Association) (new_table : Database)
    → CountedAuth meaning setup old table octets m ended new new_table → Leaves (effect.Counted ended) old new
auth_counted_leaves meaning setup old table octets m ended new new_table is =
    let d = is.done in
    counted_leaves old m.header.id d.request d.outgoing ended new d.sent.keys (ap keys_in d.was) d.counted
    (concluded_done setup (record old { outgoing = d.outgoing }) table d.verdict ended.fate new new_table d.sent.keys (ap established_of d.was) d.concluded)

later_counted_leaves : (setup : Setup) (old : Association) (m : Message) (ended : Ended) (new : Association)
    → CountedLater setup old m ended new → Leaves (effect.Counted ended) old new
later_counted_leaves setup old m ended new d =
    counted_leaves old m.header.id d.request d.outgoing ended new d.keys (ap keys_in d.was) d.counted
    (closed_if_done (closed_by ended.fate) d.ends.serials (record old { outgoing = d.outgoing }) d.ends.before setup.moment new d.ends.after d.keys d.was d.ends.is)

-- an IKE SA that waits for the response to IKE_SA_INIT has no keys
no_keys : (old : Association) (p : Phase) (sent : InitSent) (keys : KeyRecord) → old.phase ≡ phase.InitSent sent → keys_in old.phase ≡ Some keys → keys_in p ≡ Some keys
no_keys old p sent keys was is = absurd (some_none keys (sym (ap keys_in was) ∙ is))

asked_leaves : (meaning : Meaning) (setup : Setup) (old : Association) (table : Database) (m : Message) (next : Octets) (new : Association) (new_table : Database)
    → WasAsked meaning setup old table m next new new_table → Leaves (effect.Again next) old new
asked_leaves meaning setup old table m next new new_table is =
    let d = is.done in
    record {
      short = λ short.
          short_as (record old { outgoing = new.outgoing; phase = phase.InitSent (record is.sent { cookie = Some is.cookie; cookies_taken = is.sent.cookies_taken + 1 }) }) new d.content
          (record {
            replies = short.replies;
            requests = same_short octets_of (map.insert old.outgoing.outstanding m.header.id (new_request next Begin setup.moment)) new.outgoing.outstanding
                (ap (λ (r : OwnRequests Request). r.outstanding) d.replaced.content)
                (insert_short octets_of old.outgoing.outstanding m.header.id (new_request next Begin setup.moment) d.spelled.limit short.requests);
            first = none_sent;
          });
      sent = λ short said e. sent_short next said d.spelled.limit e;
      keys = λ keys are. no_keys old new.phase is.sent keys is.was are;
      come = λ keys are. absurd (some_none keys (sym (ap (λ (x : Association). keys_in x.phase) d.content) ∙ are));
      keyed = tt;
    }

pub issued_short : (old : OwnRequests Request) (request : Request) (new : OwnRequests Request) → AllShort octets_of old.outstanding → IsShort request.octets → IssuesNext old request new → AllShort octets_of new.outstanding
issued_short old request new before short is =
    same_short octets_of (map.insert is.ready.outstanding old.next request) new.outstanding (ap (λ (r : OwnRequests Request). r.outstanding) is.issued.content)
    (insert_short octets_of is.ready.outstanding old.next request short
    (same_short octets_of old.outstanding is.ready.outstanding (ap (λ (r : OwnRequests Request). r.outstanding) is.prepared.content) before))

identified_leaves : (meaning : Meaning) (setup : Setup) (old : Association) (table : Database) (octets : Octets) (m : Message) (next : Octets) (new : Association) (new_table : Database)
    → WasIdentified meaning setup old table octets m next new new_table → Leaves (effect.AsksAuth next) old new
identified_leaves meaning setup old table octets m next new new_table is =
    let d = is.done in
    record {
      short = λ short.
          short_as (record old { spi_r = m.header.spi_r; outgoing = new.outgoing; phase = phase.AuthSent (record { keys = is.keys; first = octets; child = is.sent.child }) }) new d.content
          (record {
            replies = short.replies;
            requests = issued_short number_0_answered (new_request next Identify setup.moment) new.outgoing (empty_short octets_of) d.sealed.whole.limit d.issued;
            first = none_sent;
          });
      sent = λ short said e. sent_short next said d.sealed.whole.limit e;
      keys = λ keys are. no_keys old new.phase is.sent keys is.was are;
      come = λ keys are. inr (record { octets = next; is = refl });
      keyed = keys_from new.phase is.keys (ap (λ (x : Association). keys_in x.phase) d.content);
    }

way_leaves : (facts : RepeatFacts) (meaning : Meaning) (setup : Setup) (old : Association) (table : Database) (octets : Octets) (m : Message) (e : Effect) (new : Association) (new_table : Database)
    → Way meaning setup old table octets m e new new_table → Leaves e old new
way_leaves facts meaning setup old table octets m (effect.Refused fault) new new_table is =
    record {
      short = λ short. short_as old new is.association short;
      sent = λ short. none_sent;
      keys = same_keys old new (keys_as old new is.association);
      come = none_come (effect.Refused fault) old new (keys_as old new is.association);
      keyed = tt;
    }
way_leaves facts meaning setup old table octets m (effect.Repeated reply) new new_table is = repeated_leaves facts meaning old table octets m reply new new_table is
way_leaves facts meaning setup old table octets m (effect.Replied answered) new new_table (inl is) = auth_answered_leaves meaning setup old table octets m answered new new_table is
way_leaves facts meaning setup old table octets m (effect.Replied answered) new new_table (inr is) = later_answered_leaves meaning setup old m answered new (answered_later meaning setup old table octets m answered new new_table is)
way_leaves facts meaning setup old table octets m (effect.Again next) new new_table is = asked_leaves meaning setup old table m next new new_table is
way_leaves facts meaning setup old table octets m (effect.AsksAuth next) new new_table is = identified_leaves meaning setup old table octets m next new new_table is
way_leaves facts meaning setup old table octets m (effect.Counted ended) new new_table (inl is) = auth_counted_leaves meaning setup old table octets m ended new new_table is
way_leaves facts meaning setup old table octets m (effect.Counted ended) new new_table (inr is) = later_counted_leaves setup old m ended new (counted_later meaning setup old table octets m ended new new_table is)

leaves : (facts : RepeatFacts) (meaning : Meaning) (setup : Setup) (old : Association) (table : Database) (octets : Octets) (m : Message) (e : Effect) (new : Association) (new_table : Database)
    → TakesMessage meaning setup old table octets m e new new_table → Leaves e old new
leaves facts meaning setup old table octets m e new new_table is =
    way_leaves facts meaning setup old table octets m e new new_table (way_of meaning setup old table octets m e new new_table is)

-- ---- the laws

pub short_stays : RepeatFacts → (meaning : Meaning) (setup : Setup) (old : Association) (table : Database) (octets : Octets) (m : Message) (e : Effect) (new : Association) (new_table : Database)
    → KeepsShort old → TakesMessage meaning setup old table octets m e new new_table → KeepsShort new
short_stays facts meaning setup old table octets m e new new_table short is = (leaves facts meaning setup old table octets m e new new_table is).short short

pub sent_is_short : RepeatFacts → (meaning : Meaning) (setup : Setup) (old : Association) (table : Database) (octets : Octets) (m : Message) (e : Effect) (new : Association) (new_table : Database) (said : Octets)
    → KeepsShort old → TakesMessage meaning setup old table octets m e new new_table → octets_of_effect e ≡ Some said → IsShort said
sent_is_short facts meaning setup old table octets m e new new_table said short is named = (leaves facts meaning setup old table octets m e new new_table is).sent short said named

pub keys_remain : RepeatFacts → (meaning : Meaning) (setup : Setup) (old : Association) (table : Database) (octets : Octets) (m : Message) (e : Effect) (new : Association) (new_table : Database) (keys : KeyRecord)
    → keys_in old.phase ≡ Some keys → TakesMessage meaning setup old table octets m e new new_table → keys_in new.phase ≡ Some keys
keys_remain facts meaning setup old table octets m e new new_table keys are is = (leaves facts meaning setup old table octets m e new new_table is).keys keys are

pub keys_there : RepeatFacts → (meaning : Meaning) (setup : Setup) (old : Association) (table : Database) (octets : Octets) (m : Message) (e : Effect) (new : Association) (new_table : Database)
    → TakesMessage meaning setup old table octets m e new new_table → KeyedBy e new.phase
keys_there facts meaning setup old table octets m e new new_table is = (leaves facts meaning setup old table octets m e new new_table is).keyed

pub keys_come : RepeatFacts → (meaning : Meaning) (setup : Setup) (old : Association) (table : Database) (octets : Octets) (m : Message) (e : Effect) (new : Association) (new_table : Database) (keys : KeyRecord)
    → keys_in new.phase ≡ Some keys → TakesMessage meaning setup old table octets m e new new_table → (keys_in old.phase ≡ Some keys) ⊎ IsAsking e
keys_come facts meaning setup old table octets m e new new_table keys are is = (leaves facts meaning setup old table octets m e new new_table is).come keys are

pub none_before : (meaning : Meaning) (setup : Setup) (old : Association) (table : Database) (octets : Octets) (m : Message) (next : Octets) (new : Association) (new_table : Database)
    → TakesMessage meaning setup old table octets m (effect.AsksAuth next) new new_table → keys_in old.phase ≡ None
none_before meaning setup old table octets m next new new_table is = ap keys_in (way_of meaning setup old table octets m (effect.AsksAuth next) new new_table is).was

pub none_again : (meaning : Meaning) (setup : Setup) (old : Association) (table : Database) (octets : Octets) (m : Message) (next : Octets) (new : Association) (new_table : Database)
    → TakesMessage meaning setup old table octets m (effect.Again next) new new_table → keys_in new.phase ≡ None
none_again meaning setup old table octets m next new new_table is = ap (λ (x : Association). keys_in x.phase) (way_of meaning setup old table octets m (effect.Again next) new new_table is).done.content

pub begun_short : (cipher : Cipher) (group : ℕ) (public_value : Octets → Octets) (fresh : Fresh) (moment serial : ℕ) (beginning : Beginning) (child : AskedChildView)
    → Begins cipher group public_value fresh moment beginning → KeepsShort (begun serial beginning child) × IsShort beginning.octets
begun_short cipher group public_value fresh moment serial beginning child is = (
  record {
    replies = empty_short itself;
    requests = issued_short none_issued (new_request beginning.octets Begin moment) beginning.outgoing (empty_short octets_of) is.spelled.limit is.issued;
    first = none_sent;
  },
  is.spelled.limit,
)

pub admitted_short : (cipher : Cipher) (group : ℕ) (public_value : Octets → Octets) (shared_secret : Octets → Octets → Option Octets) (fresh : Fresh) (moment serial : ℕ) (offer : OfferView) (spi_i : ℕ) (request : Octets) (admitted : Admitted)
    → Admits cipher group public_value shared_secret fresh moment serial offer spi_i request admitted → KeepsShort admitted.association × IsShort admitted.octets
admitted_short cipher group public_value shared_secret fresh moment serial offer spi_i request admitted is = (
  short_as (half_open serial spi_i fresh.spi is.agreed.record request is.agreed.octets moment) admitted.association is.content
      (record {
        replies = empty_short itself;
        requests = empty_short octets_of;
        first = λ reply e. sent_short is.agreed.octets reply is.answer.spelled.limit e;
      }),
  subst (λ (o : Octets). IsShort o) (sym is.octets) is.answer.spelled.limit,
)
