-- A step keeps IKE SAs and table sound, by what a message does to one IKE SA.
use Rattle.std.proofs.Common.{◌≡◌, ◌≢◌, ◌||◌, ◌⊎◌, inl, inr, ℕ, ◌+◌, ◌<◌, ◌≤◌, Bool, true, false, List, length, Option, Some, None, Result, Ok, Err, ap, refl, subst, sym, ◌∙◌, arith, max}
use Rattle.std.specs.Cmp.{nat_cmp_total, unsigned_tied}
use Rattle.std.specs.FinSet as set
use Rattle.std.specs.Prelude.{◌==◌, if◌then◌else◌, nat_le, IfErr, IfOk}
use Rattle.std.proofs.lemmas.Option.{slice_get_within}
use Rattle.std.proofs.lemmas.Bool.{eq-eqb}
use Rattle.std.proofs.lemmas.Bool.Decides.{leb_tells}
use Rattle.base.specs.Octets.{Octets}
use Rattle.base.specs.declared.selector.Selector.{Selector}
use Rattle.wire.specs.Messages.{Spells}
use Rattle.wire.specs.declared.message.Message.{Message}
use Rattle.wire.specs.declared.payload.Payload.{Payload}
use Rattle.policy.specs.Decisions.{local_side, remote_side}
use Rattle.policy.specs.declared.entry.Entry.{Entry}
use Rattle.suite.specs.declared.fresh.Fresh.{Fresh}
use Rattle.suite.specs.declared.key_record.KeyRecord.{KeyRecord}
use Rattle.suite.specs.declared.keys.Keys.{Keys}
use Rattle.suite.specs.declared.sealer.Cipher.{Cipher}
use Rattle.sadb.specs.Database.{Database, IsAsBefore, IsReserved, IsSoundTable, Reserves}
use Rattle.sa_init.specs.Cookies.{CookieSecrets}
use Rattle.sa_init.specs.Judging.{Accepted, Answered, Full, Incomplete, ASSOCIATION_LIMIT, HALF_OPEN_LIMIT, IsJudgement, JudgementView, OfferView}
use Rattle.sa_init.specs.declared.judging.Sender.{Sender}
use Rattle.association.specs.Closing.{HoldsReserved, HoldsSpi}
use Rattle.association.specs.AskedChildren.{AskedChildView}
use Rattle.association.specs.declared.fault.MessageFault.{MessageFault}
use Rattle.association.specs.declared.phase.Association.{Association}
use Rattle.association.specs.declared.phase.AuthSent.{AuthSent}
use Rattle.association.specs.declared.phase.HalfOpen.{HalfOpen}
use Rattle.association.specs.declared.phase.InitSent.{InitSent}
use Rattle.association.specs.declared.phase.Phase.TheVariants as phase
use Rattle.exchange.specs.declared.headers.Role.TheVariants.{Initiator, Responder}
use Rattle.setup.specs.Configs.{Setup}
use Rattle.initial.specs.Answering.{IsHalfOpen}
use Rattle.initial.specs.Ending.{IsAuthSent}
use Rattle.initial.specs.Reading.{IsInitSent}
use Rattle.informational.specs.Asking.{Asks}
use Rattle.create_child.specs.Asking.{AsksForFurther}
use Rattle.moments.specs.Holding.{HoldSome, HoldsNone}
use Rattle.moments.specs.Ticking.{Ticks}
use Rattle.moments.specs.declared.ticking.Ticked.{Ticked}
use Rattle.effects.specs.Taking.{Meaning, KeepsIdentity, TakesMessage}
use Rattle.effects.specs.declared.taking.Effect.{Effect}
use Rattle.association.specs.Finding.{place_meant}
use Rattle.association.specs.Admitting.{half_open as half_open_association, Admits}
use Rattle.initial.specs.Beginning.{begun, Begins}
use Rattle.effects.specs.Keeping.{IsShort, KeepsShort}
use Rattle.effects.specs.Lengths.{HoldsWholeKeys}
use Rattle.effects.specs.Requests.{IsSoundlyHeld}
use Rattle.effects.specs.Sending.{SendsRequest}
use Rattle.association.specs.declared.admitting.Admitted.{Admitted}
use Rattle.initial.specs.declared.beginning.Beginning.{Beginning}
use Rattle.informational.specs.declared.ordering.Order.{Order}
use Rattle.informational.specs.declared.ordering.Order.TheVariants as asked
use Rattle.informational.specs.Ordering.{MarksFor}
use Rattle.ike.proofs.MarkLemmas.{marked_reserved}
use Rattle.ike.specs.Machines.{half_open_count, is_bad_spi, own_spi, setup_at, Held, Machine, SERIAL_END}
use Rattle.ike.specs.Receiving.{is_initial_request, is_sound_initial, is_answered, is_answered_phase, same_octets, with_next, AdmitsNext, CanMake, DoesJudgement, IsInitialRequest, TakesAt, TakesDatagram, TakesFound, TakesOffer, TakesRead, TakesRequestAt, TakesSound}
use Rattle.ike.specs.Asking.{AsksAt, AsksFor, AsksThat}
use Rattle.ike.specs.Orders.{OrderView}
use Rattle.ike.specs.Orders as orders
use Rattle.ike.specs.Soundness.{AreSound, At, IsSound, IsSoundMachine}
use Rattle.ike.specs.Ticking.{TakesHeld}
use Rattle.ike.specs.Starting.{child_by, new_association_fault, beginning_fault_of, protecting_entry, BeginsBy, FurthersBy}
use Rattle.ike.specs.Steps.{InputView, Refuses, Steps}
use Rattle.ike.specs.Steps as steps
use Rattle.ike.specs.declared.fault.IkeFault.{IkeFault}
use Rattle.ike.specs.declared.output.Stepped.{Stepped}
use Rattle.ike.proofs.AskingLemmas.{changed_itself, changed_phase}
use Rattle.ike.proofs.RepeatLemmas.{none_passes, same_octets_itself}
use Rattle.ike.proofs.TickLemmas.{ticked_sound}
use Rattle.ike.proofs.CountLemmas.{count_grown, count_replaced, not_used, not_zero, weight_most}
use Rattle.ike.proofs.SoundLemmas.{StaysOpened, alone, apart_after, apart_before, other_holds, own_stays, sound_grown, sound_replaced, sound_with, waited_before, Joins}
use Rattle.std.specs.List.{position}

-- what is known of a message's effect, and of offers that are accepted
pub record Laws : Type 0 where
  pub stays : (meaning : Meaning) (setup : Setup) (old : Association) (table : Database) (octets : Octets) (m : Message) (effect : Effect) (new : Association) (new_table : Database)
      → IsSoundTable table → HoldsReserved old table → TakesMessage meaning setup old table octets m effect new new_table → HoldsReserved new new_table
  pub others : (meaning : Meaning) (setup : Setup) (old : Association) (table : Database) (octets : Octets) (m : Message) (effect : Effect) (new : Association) (new_table : Database) (spi : ℕ)
      → ¬ HoldsSpi old spi → IsReserved table spi → spi < table.start + table.given → TakesMessage meaning setup old table octets m effect new new_table → IsReserved new_table spi
  pub none : (meaning : Meaning) (setup : Setup) (old : Association) (table : Database) (octets : Octets) (m : Message) (effect : Effect) (new : Association) (new_table : Database) (spi : ℕ)
      → HoldsSpi new spi → TakesMessage meaning setup old table octets m effect new new_table → HoldsSpi old spi
  pub itself : (meaning : Meaning) (setup : Setup) (old : Association) (table : Database) (octets : Octets) (m : Message) (effect : Effect) (new : Association) (new_table : Database)
      → TakesMessage meaning setup old table octets m effect new new_table → KeepsIdentity old new
  pub short : (meaning : Meaning) (setup : Setup) (old : Association) (table : Database) (octets : Octets) (m : Message) (effect : Effect) (new : Association) (new_table : Database)
      → KeepsShort old → TakesMessage meaning setup old table octets m effect new new_table → KeepsShort new
  pub begins : (cipher : Cipher) (group : ℕ) (public_value : Octets → Octets) (fresh : Fresh) (moment serial : ℕ) (beginning : Beginning) (child : AskedChildView)
      → Begins cipher group public_value fresh moment beginning → KeepsShort (begun serial beginning child) × IsShort beginning.octets
  pub admits : (cipher : Cipher) (group : ℕ) (public_value : Octets → Octets) (shared_secret : Octets → Octets → Option Octets) (fresh : Fresh) (moment serial : ℕ) (offer : OfferView) (spi_i : ℕ) (request : Octets) (admitted : Admitted)
      → Admits cipher group public_value shared_secret fresh moment serial offer spi_i request admitted → KeepsShort admitted.association × IsShort admitted.octets
  pub soundly : (meaning : Meaning) (setup : Setup) (old : Association) (table : Database) (octets : Octets) (m : Message) (effect : Effect) (new : Association) (new_table : Database)
      → IsSoundlyHeld old → TakesMessage meaning setup old table octets m effect new new_table → IsSoundlyHeld new
  pub opened : (meaning : Meaning) (setup : Setup) (old : Association) (table : Database) (octets : Octets) (m : Message) (effect : Effect) (new : Association) (new_table : Database) (opened : HalfOpen)
      → TakesMessage meaning setup old table octets m effect new new_table → new.phase ≡ phase.HalfOpen opened → old.phase ≡ phase.HalfOpen opened
  pub begins_soundly : (cipher : Cipher) (group : ℕ) (public_value : Octets → Octets) (fresh : Fresh) (moment serial : ℕ) (beginning : Beginning) (child : AskedChildView)
      → Begins cipher group public_value fresh moment beginning → IsSoundlyHeld (begun serial beginning child)
  pub admits_soundly : (cipher : Cipher) (group : ℕ) (public_value : Octets → Octets) (shared_secret : Octets → Octets → Option Octets) (fresh : Fresh) (moment serial : ℕ) (offer : OfferView) (spi_i : ℕ) (request : Octets) (admitted : Admitted)
      → Admits cipher group public_value shared_secret fresh moment serial offer spi_i request admitted → IsSoundlyHeld admitted.association
  pub whole : (meaning : Meaning) (setup : Setup) (old : Association) (table : Database) (octets : Octets) (m : Message) (effect : Effect) (new : Association) (new_table : Database)
      → HoldsWholeKeys old.phase → TakesMessage meaning setup old table octets m effect new new_table → HoldsWholeKeys new.phase
  pub admits_whole : (cipher : Cipher) (group : ℕ) (public_value : Octets → Octets) (shared_secret : Octets → Octets → Option Octets) (fresh : Fresh) (moment serial : ℕ) (offer : OfferView) (spi_i : ℕ) (request : Octets) (admitted : Admitted)
      → Admits cipher group public_value shared_secret fresh moment serial offer spi_i request admitted → HoldsWholeKeys admitted.association.phase
  pub begins_one : (cipher : Cipher) (group : ℕ) (public_value : Octets → Octets) (fresh : Fresh) (moment serial : ℕ) (beginning : Beginning) (child : AskedChildView) (spi : ℕ)
      → Begins cipher group public_value fresh moment beginning → HoldsSpi (begun serial beginning child) spi → spi ≡ child.spi
  pub begins_held : (cipher : Cipher) (group : ℕ) (public_value : Octets → Octets) (fresh : Fresh) (moment serial : ℕ) (beginning : Beginning) (child : AskedChildView) (table : Database)
      → Begins cipher group public_value fresh moment beginning → IsReserved table child.spi → HoldsReserved (begun serial beginning child) table
  pub admits_none : (serial spi_i spi_r : ℕ) (keys : KeyRecord) (request reply : Octets) (moment spi : ℕ) → HoldsSpi (half_open_association serial spi_i spi_r keys request reply moment) spi → ⊥
  pub room : (cipher : Cipher) (group : ℕ) (secrets : CookieSecrets) (sender : Sender) (half_open held : ℕ) (payloads : List Payload) (offer : OfferView)
      → IsJudgement cipher group secrets sender half_open held payloads (Accepted offer) → (half_open < HALF_OPEN_LIMIT) × (held < ASSOCIATION_LIMIT)

-- what is known of requests that go out, and of a tick
pub record OrderLaws : Type 0 where
  pub requested : (body_of : Keys → Octets → Octets → Octets → Octets) (setup : Setup) (old : Association) (octets : Octets) (new : Association) → KeepsShort old → SendsRequest body_of setup old octets new → KeepsShort new × IsShort octets
  pub requested_soundly : (body_of : Keys → Octets → Octets → Octets → Octets) (setup : Setup) (old : Association) (octets : Octets) (new : Association) → IsSoundlyHeld old → SendsRequest body_of setup old octets new → IsSoundlyHeld new
  pub asked : (body_of : Keys → Octets → Octets → Octets → Octets) (setup : Setup) (order : Order) (old : Association) (octets : Octets) (new : Association) (spi : ℕ) → Asks body_of setup order old octets new → HoldsSpi new spi → HoldsSpi old spi
  pub asking : (body_of : Keys → Octets → Octets → Octets → Octets) (setup : Setup) (order : Order) (old : Association) (octets : Octets) (new : Association) (table : Database) → Asks body_of setup order old octets new → HoldsReserved old table → HoldsReserved new table
  pub further_held : (body_of : Keys → Octets → Octets → Octets → Octets) (setup : Setup) (local remote : Selector) (old : Association) (table : Database) (octets : Octets) (new : Association) (new_table : Database) (spi : ℕ)
      → AsksForFurther body_of setup local remote old table octets new new_table → HoldsSpi new spi → HoldsSpi old spi ⊎ (spi ≡ table.start + table.given)
  pub further_reserved : (body_of : Keys → Octets → Octets → Octets → Octets) (setup : Setup) (local remote : Selector) (old : Association) (table : Database) (octets : Octets) (new : Association) (new_table : Database)
      → IsSoundTable table → HoldsReserved old table → AsksForFurther body_of setup local remote old table octets new new_table → HoldsReserved new new_table
  pub further_others : (body_of : Keys → Octets → Octets → Octets → Octets) (setup : Setup) (local remote : Selector) (old : Association) (table : Database) (octets : Octets) (new : Association) (new_table : Database) (spi : ℕ)
      → AsksForFurther body_of setup local remote old table octets new new_table → IsReserved table spi → IsReserved new_table spi
  pub held : (now : ℕ) (old : List Association) (table : Database) (ticked : Ticked) (new : List Association) (new_table : Database) → Ticks now old table ticked new new_table → HoldSome now old new
  pub reserved : (now : ℕ) (old : List Association) (table : Database) (ticked : Ticked) (new : List Association) (new_table : Database) (spi : ℕ)
      → HoldsNone now old spi → IsReserved table spi → Ticks now old table ticked new new_table → IsReserved new_table spi

-- nothing changed
same_sound : (old new : Held) (table new_table : Database) → AreSound old table → new ≡ old → new_table ≡ table → AreSound new new_table
same_sound old new table new_table sound same unchanged =
    subst (λ (d : Database). AreSound new d) (sym unchanged) (subst (λ (h : Held). AreSound h table) (sym same) sound)

-- ---- a message for an IKE SA that is held

taken_joins : (laws : Laws) (place : ℕ) (meaning : Meaning) (setup : Setup) (octets : Octets) (m : Message) (old : Held) (table : Database) (stepped : Stepped) (new : Held) (new_table : Database)
    → IsSoundTable table → AreSound old table → (is : TakesAt place meaning setup octets m old table stepped new new_table)
    → Joins old place is.changed old.next table new_table
taken_joins laws place meaning setup octets m old table stepped new new_table sound_table sound is =
    let was = sound.each place is.association is.there in
    let stays : KeepsIdentity is.association is.changed = laws.itself meaning setup is.association table octets m is.effect is.changed new_table is.takes in
    let own : own_spi is.changed ≡ own_spi is.association = own_stays is.association is.changed (λ w. was.initiator (inl w)) stays in
    let none : (spi : ℕ) → HoldsSpi is.changed spi → HoldsSpi is.association spi =
    λ spi e. laws.none meaning setup is.association table octets m is.effect is.changed new_table spi e is.takes in
    let opens : StaysOpened is.association is.changed = λ opened here. laws.opened meaning setup is.association table octets m is.effect is.changed new_table opened is.takes here in
    record {
      sound = record {
        serial_least = subst (λ n. 1 ≤ n) (sym stays.serial) was.serial_least;
        serial_given = subst (λ n. n < old.next) (sym stays.serial) was.serial_given;
        own = λ e. was.own (sym own ∙ e);
        initiator = λ w. stays.role ∙ was.initiator (waited_before is.association is.changed stays w);
        responder = λ h. stays.role ∙ was.responder (stays.half_open h);
        reserved = laws.stays meaning setup is.association table octets m is.effect is.changed new_table sound_table was.reserved is.takes;
        short = laws.short meaning setup is.association table octets m is.effect is.changed new_table was.short is.takes;
        soundly = laws.soundly meaning setup is.association table octets m is.effect is.changed new_table was.soundly is.takes;
        asked = λ opened here. was.asked opened (opens opened here);
        whole = laws.whole meaning setup is.association table octets m is.effect is.changed new_table was.whole is.takes;
      };
      more = omega arith;
      others = λ k c spi other there held reserved.
          laws.others meaning setup is.association table octets m is.effect is.changed new_table spi
          (alone old table k place c is.association spi sound other there is.there held) reserved (sound_table.reserved_given spi reserved).before_next is.takes;
      before = λ k c less there. apart_before is.association is.changed c own stays opens none (sound.apart k place c is.association less there is.there);
      after = λ k c less there. apart_after is.association is.changed c own stays opens none (sound.apart place k is.association c less is.there there);
    }

taken_sound : (laws : Laws) (place : ℕ) (meaning : Meaning) (setup : Setup) (octets : Octets) (m : Message) (old : Held) (table : Database) (stepped : Stepped) (new : Held) (new_table : Database)
    → IsSoundTable table → AreSound old table → TakesAt place meaning setup octets m old table stepped new new_table → AreSound new new_table
taken_sound laws place meaning setup octets m old table stepped new new_table sound_table sound is =
    subst (λ (h : Held). AreSound h new_table) (sym is.content)
    (sound_replaced old place is.changed table new_table
    (count_replaced old.associations place is.association is.changed is.there (laws.itself meaning setup is.association table octets m is.effect is.changed new_table is.takes).half_open)
    sound (taken_joins laws place meaning setup octets m old table stepped new new_table sound_table sound is))

found_sound : (laws : Laws) (r : Result ℕ MessageFault) (meaning : Meaning) (setup : Setup) (octets : Octets) (m : Message) (old : Held) (table : Database) (stepped : Stepped) (new : Held) (new_table : Database)
    → IsSoundTable table → AreSound old table → TakesFound r meaning setup octets m old table stepped new new_table → AreSound new new_table
found_sound laws (Ok place) meaning setup octets m old table stepped new new_table sound_table sound is =
    taken_sound laws place meaning setup octets m old table stepped new new_table sound_table sound is
found_sound laws (Err f) meaning setup octets m old table stepped new new_table sound_table sound is = same_sound old new table new_table sound is.0.unchanged is.1

-- ---- a request of IKE_SA_INIT

-- what comes last has the next serial, and an SPI that isn't in use
last_joins : (old : Held) (b : Association) (table new_table : Database) → AreSound old table → is_bad_spi (own_spi b) old.associations ≡ false → b.serial ≡ old.next
    → (IsInitSent b.phase ⊎ IsAuthSent b.phase → b.role ≡ Initiator) → (IsHalfOpen b.phase → b.role ≡ Responder) → KeepsShort b → IsSoundlyHeld b → HoldsWholeKeys b.phase
    → ((opened : HalfOpen) → b.phase ≡ phase.HalfOpen opened → IsInitialRequest opened.request)
    → ((k : ℕ) (c : Association) (one two : HalfOpen) → At old k c → c.phase ≡ phase.HalfOpen one → b.phase ≡ phase.HalfOpen two → one.request ≢ two.request) → HoldsReserved b new_table
    → ((spi : ℕ) → IsReserved table spi → IsReserved new_table spi) → ((spi : ℕ) → IsReserved table spi → ¬ HoldsSpi b spi)
    → Joins old (length old.associations) b (old.next + 1) table new_table
last_joins old b table new_table sound usable serial initiator responder short soundly whole asked others_asked holds stays apart =
    record {
      sound = record {
        serial_least = subst (λ n. 1 ≤ n) (sym serial) sound.first;
        serial_given = omega (arith, serial);
        own = not_zero (own_spi b) old.associations usable;
        initiator = initiator;
        responder = responder;
        reserved = holds;
        short = short;
        soundly = soundly;
        asked = asked;
        whole = whole;
      };
      more = omega arith;
      others = λ k c spi other there held reserved. stays spi reserved;
      before = λ k c less there.
          record {
            rising = let given = (sound.each k c there).serial_given in omega (arith, given, serial);
            own = not_used (own_spi b) old.associations k c usable there;
            held = λ spi held. apart spi ((sound.each k c there).reserved.reserved spi held);
            asked = λ one two is also. others_asked k c one two there is also;
          };
      after = λ k c more there. let within = slice_get_within old.associations k c there in absurd (omega (arith, more, within));
    }

-- a half-open IKE SA waits for no response
opened_initial : (opened : HalfOpen) (sent : InitSent) → phase.HalfOpen opened ≡ phase.InitSent sent → ⊥
opened_initial opened sent is = cc

opened_asks : (opened : HalfOpen) (sent : AuthSent) → phase.HalfOpen opened ≡ phase.AuthSent sent → ⊥
opened_asks opened sent is = cc

opened_waits : (opened : HalfOpen) → IsInitSent (phase.HalfOpen opened) ⊎ IsAuthSent (phase.HalfOpen opened) → ⊥
opened_waits opened (inl waits) = opened_initial opened waits.sent waits.is
opened_waits opened (inr asks) = opened_asks opened asks.sent asks.is

begun_opens : (sent : InitSent) (opened : HalfOpen) → phase.InitSent sent ≡ phase.HalfOpen opened → ⊥
begun_opens sent opened is = cc

some_none : (spi : ℕ) → Some spi ≡ None → ⊥
some_none spi e = cc

no_keys : (keys : KeyRecord) → None ≡ Some keys → ⊥
no_keys keys e = cc

-- who holds none
holds_none : (a : Association) (table : Database) → ((spi : ℕ) → HoldsSpi a spi → ⊥) → HoldsReserved a table
holds_none a table none = record {
  reserved = λ spi held. absurd (none spi held);
  first = λ spi its awaits. none spi (inl its);
  one = λ number other spi one two. absurd (none spi (inr (record { number = number; awaits = one })));
}

many_clash : (b : Bool) → b ≡ true → b ≡ false → ⊥
many_clash true positive negative = absurd cc
many_clash false positive negative = absurd cc

-- a request of IKE_SA_INIT that no half-open IKE SA answered before
record IsAnew (octets : Octets) (old : Held) : Type 0 where
  asked : IsInitialRequest octets
  first : position (is_answered octets) old.associations ≡ None

-- it is none of those that were answered
other_request : (octets : Octets) (old : Held) (k : ℕ) (c : Association) (one : HalfOpen) → IsAnew octets old → At old k c → c.phase ≡ phase.HalfOpen one → one.request ≢ octets
other_request octets old k c one anew there opened same =
    many_clash (is_answered octets c)
    (ap (is_answered_phase octets) opened ∙ ap (λ o. same_octets o octets) same ∙ same_octets_itself octets)
    (none_passes (is_answered octets) old.associations anew.first k c there)

opened_as : (opened other : HalfOpen) → phase.HalfOpen opened ≡ phase.HalfOpen other → opened ≡ other
opened_as opened other is = cc

begun_asks : (sent : InitSent) (opened : HalfOpen) → phase.InitSent sent ≡ phase.HalfOpen opened → ⊥
begun_asks sent opened is = cc

admitted_sound : (laws : Laws) (meaning : Meaning) (setup : Setup) (offer : OfferView) (spi_i : ℕ) (octets : Octets) (old : Held) (stepped : Stepped) (new : Held) (table : Database)
    → half_open_count old.associations < HALF_OPEN_LIMIT → length old.associations < ASSOCIATION_LIMIT → AreSound old table → IsAnew octets old → CanMake old setup.fresh.spi
    → AdmitsNext meaning setup offer spi_i octets old stepped new → AreSound new table
admitted_sound laws meaning setup offer spi_i octets old stepped new table half_open few sound anew can made =
    let b : Association = half_open_association old.next spi_i setup.fresh.spi made.admits.agreed.record octets made.admits.agreed.octets setup.moment in
    let short : KeepsShort b = subst (λ (a : Association). KeepsShort a) made.admits.content
    (laws.admits meaning.cipher meaning.group meaning.public_value meaning.shared_secret setup.fresh setup.moment old.next offer spi_i octets made.admitted made.admits).0 in
    let soundly : IsSoundlyHeld b = subst (λ (a : Association). IsSoundlyHeld a) made.admits.content
    (laws.admits_soundly meaning.cipher meaning.group meaning.public_value meaning.shared_secret setup.fresh setup.moment old.next offer spi_i octets made.admitted made.admits) in
    let whole : HoldsWholeKeys b.phase = subst (λ (a : Association). HoldsWholeKeys a.phase) made.admits.content
    (laws.admits_whole meaning.cipher meaning.group meaning.public_value meaning.shared_secret setup.fresh setup.moment old.next offer spi_i octets made.admitted made.admits) in
    let none : (spi : ℕ) → HoldsSpi b spi → ⊥ = laws.admits_none old.next spi_i setup.fresh.spi made.admits.agreed.record octets made.admits.agreed.octets setup.moment in
    subst (λ (h : Held). AreSound h table) (sym made.content)
    (subst (λ (a : Association). AreSound (with_next old a) table) (sym made.admits.content)
    (sound_grown old b table table few can.serial
    (let more = count_grown old.associations b in let one = weight_most b in omega (arith, more, one, half_open))
    sound
    (last_joins old b table table sound can.usable refl (λ w. absurd (opened_waits _ w)) (λ h. refl) short soundly whole
    (λ opened here. subst (λ (o : HalfOpen). IsInitialRequest o.request) (opened_as _ opened here) anew.asked)
    (λ k c one two there is also. subst (λ (o : HalfOpen). one.request ≢ o.request) (opened_as _ two also) (other_request octets old k c one anew there is))
    (holds_none b table none) (λ spi there. there) (λ spi there. none spi))))

offer_sound : (laws : Laws) (meaning : Meaning) (setup : Setup) (offer : OfferView) (spi_i : ℕ) (octets : Octets) (old : Held) (stepped : Stepped) (new : Held) (table : Database)
    → half_open_count old.associations < HALF_OPEN_LIMIT → length old.associations < ASSOCIATION_LIMIT → AreSound old table → IsAnew octets old → TakesOffer meaning setup offer spi_i octets old stepped new → AreSound new table
offer_sound laws meaning setup offer spi_i octets old stepped new table half_open few sound anew is =
    elim is.done [
      | inl refused ↦ same_sound old new table table sound refused.1.unchanged refl
      | inr made ↦ admitted_sound laws meaning setup offer spi_i octets old stepped new table half_open few sound anew is.can made
    ]

judged_sound : (laws : Laws) (meaning : Meaning) (setup : Setup) (cookies : CookieSecrets) (from octets : Octets) (m : Message) (j : JudgementView) (old : Held) (stepped : Stepped) (new : Held) (table : Database)
    → IsJudgement meaning.cipher meaning.group cookies (record { address = from; spi_i = m.header.spi_i }) (half_open_count old.associations) (length old.associations) m.payloads j
    → AreSound old table → IsAnew octets old → DoesJudgement meaning setup m.header.spi_i octets j old stepped new → AreSound new table
judged_sound laws meaning setup cookies from octets m (Answered notice) old stepped new table judged sound anew is = same_sound old new table table sound is.1 refl
judged_sound laws meaning setup cookies from octets m Incomplete old stepped new table judged sound anew is = same_sound old new table table sound is.unchanged refl
judged_sound laws meaning setup cookies from octets m Full old stepped new table judged sound anew is = same_sound old new table table sound is.unchanged refl
judged_sound laws meaning setup cookies from octets m (Accepted offer) old stepped new table judged sound anew is =
    let room = laws.room meaning.cipher meaning.group cookies (record { address = from; spi_i = m.header.spi_i }) (half_open_count old.associations) (length old.associations) m.payloads offer judged in
    offer_sound laws meaning setup offer m.header.spi_i octets old stepped new table room.0 room.1 sound anew is

request_sound : (laws : Laws) (o : Option ℕ) (meaning : Meaning) (setup : Setup) (cookies : CookieSecrets) (from octets : Octets) (m : Message) (old : Held) (stepped : Stepped) (new : Held) (table : Database)
    → AreSound old table → IsInitialRequest octets → position (is_answered octets) old.associations ≡ o → TakesRequestAt o meaning setup cookies from octets m old stepped new → AreSound new table
request_sound laws (Some place) meaning setup cookies from octets m old stepped new table sound asked first is = same_sound old new table table sound is.1 refl
request_sound laws None meaning setup cookies from octets m old stepped new table sound asked first is =
    judged_sound laws meaning setup cookies from octets m is.judgement old stepped new table is.judged sound (record { asked = asked; first = first }) is.done

initial_sound : (laws : Laws) (b : Bool) (meaning : Meaning) (setup : Setup) (cookies : CookieSecrets) (from octets : Octets) (m : Message) (old : Held) (stepped : Stepped) (new : Held) (table : Database)
    → AreSound old table → (b ≡ true → IsInitialRequest octets) → TakesSound b meaning setup cookies from octets m old stepped new → AreSound new table
initial_sound laws true meaning setup cookies from octets m old stepped new table sound asked is =
    request_sound laws (position (is_answered octets) old.associations) meaning setup cookies from octets m old stepped new table sound (asked refl) refl is
initial_sound laws false meaning setup cookies from octets m old stepped new table sound asked is = same_sound old new table table sound is.unchanged refl

read_sound : (laws : Laws) (b : Bool) (meaning : Meaning) (setup : Setup) (cookies : CookieSecrets) (from octets : Octets) (m : Message) (old : Held) (table : Database) (stepped : Stepped) (new : Held) (new_table : Database)
    → IsSoundTable table → AreSound old table → Spells m octets → is_initial_request m.header ≡ b → TakesRead b meaning setup cookies from octets m old table stepped new new_table → AreSound new new_table
read_sound laws true meaning setup cookies from octets m old table stepped new new_table sound_table sound spelled initial is =
    subst (λ (d : Database). AreSound new d) (sym is.1)
    (initial_sound laws (is_sound_initial m.header) meaning setup cookies from octets m old stepped new table sound
    (λ sound_header. record { message = m; spelled = spelled; initial = initial; sound = sound_header }) is.0)
read_sound laws false meaning setup cookies from octets m old table stepped new new_table sound_table sound spelled initial is =
    found_sound laws (place_meant m.header old.associations) meaning setup octets m old table stepped new new_table sound_table sound is

datagram_sound : (laws : Laws) (meaning : Meaning) (setup : Setup) (cookies : CookieSecrets) (from octets : Octets) (old : Held) (table : Database) (stepped : Stepped) (new : Held) (new_table : Database)
    → IsSoundTable table → AreSound old table → TakesDatagram meaning setup cookies from octets old table stepped new new_table → AreSound new new_table
datagram_sound laws meaning setup cookies from octets old table stepped new new_table sound_table sound is =
    elim is [
      | inl unread ↦ same_sound old new table new_table sound unread.passed.unchanged unread.unchanged
      | inr read ↦ read_sound laws (is_initial_request read.message.header) meaning setup cookies from octets read.message old table stepped new new_table sound_table sound read.spelled refl read.done
    ]

-- ---- a command to start

same_spi : (spi q : ℕ) → Some spi ≡ Some q → spi ≡ q
same_spi spi q e = cc

same_number : (n : ℕ) → (n == n) ≡ true
same_number n = eq-eqb n n refl

no_fault : (b : Bool) (f : IkeFault) (rest : Option IkeFault) → (if b then Some f else rest) ≡ None → b ≡ false
no_fault true f rest is = absurd cc
no_fault false f rest is = refl

-- a command that nothing is said against
record IsFree (old : Held) (spi : ℕ) : Type 0 where
  few : length old.associations < ASSOCIATION_LIMIT
  usable : is_bad_spi spi old.associations ≡ false

after_fault : (b : Bool) (f : IkeFault) (rest : Option IkeFault) → (if b then Some f else rest) ≡ None → rest ≡ None
after_fault true f rest is = absurd cc
after_fault false f rest is = is

free_of : (old : Held) (spi : ℕ) → new_association_fault old spi ≡ None → IsFree old spi
free_of old spi none =
    let after_few = after_fault (nat_le ASSOCIATION_LIMIT (length old.associations)) _ _ none in
    let after_spent = after_fault (old.next == SERIAL_END) _ _ after_few in
    record {
      few = elim (leb_tells ASSOCIATION_LIMIT (length old.associations)) [
        | inl (many, above) ↦ absurd (many_clash (nat_le ASSOCIATION_LIMIT (length old.associations)) many (no_fault (nat_le ASSOCIATION_LIMIT (length old.associations)) _ _ none))
        | inr (few, below) ↦ below
      ];
      usable = no_fault (is_bad_spi spi old.associations) _ _ after_spent;
    }

order_free : (entry : Option Entry) (old : Held) (spi : ℕ) → beginning_fault_of entry old spi ≡ None → IsFree old spi
order_free None old spi none = absurd cc
order_free (Some entry) old spi none = free_of old spi none

or_true : (b c : Bool) → c ≡ true → (b || c) ≡ true
or_true true c is = refl
or_true false c is = is

true_or : (b c : Bool) → b ≡ true → (b || c) ≡ true
true_or true c is = refl
true_or false c is = absurd cc

-- the SPI that is given is reserved, and so is what was
now_reserved : (old : Database) (spi : ℕ) (new : Database) → Reserves old spi new → IsReserved new spi
now_reserved old spi new is =
    subst (λ (d : Database). IsReserved d spi) (sym is.content)
    (set.contains-insert nat_cmp_total old.reserved spi spi ∙ true_or _ (set.contains old.reserved spi) (unsigned_tied spi spi ∙ same_number spi))

still_reserved : (old : Database) (spi : ℕ) (new : Database) (q : ℕ) → Reserves old spi new → IsReserved old q → IsReserved new q
still_reserved old spi new q is there =
    subst (λ (d : Database). IsReserved d q) (sym is.content)
    (set.contains-insert nat_cmp_total old.reserved spi q ∙ or_true _ (set.contains old.reserved q) there)

start_sound : (laws : Laws) (meaning : Meaning) (setup : Setup) (place : ℕ) (old : Held) (table : Database) (stepped : Stepped) (new : Held) (new_table : Database)
    → IsSoundTable table → AreSound old table → BeginsBy meaning setup place old table stepped new new_table → AreSound new new_table
start_sound laws meaning setup place old table stepped new new_table sound_table sound is =
    let b : Association = begun old.next is.beginning (child_by is.entry is.done.spi setup.config.extended) in
    let free = order_free (protecting_entry setup.entries place) old setup.fresh.spi is.allowed.none in
    let between_reserved : (q : ℕ) → IsReserved table q → IsReserved is.between q = λ q there. subst (λ (d : Database). IsReserved d q) (sym is.room.content) there in
    let same_next : is.between.start + is.between.given ≡ table.start + table.given = ap (λ (d : Database). d.start + d.given) is.room.content in
    subst (λ (h : Held). AreSound h new_table) (sym is.done.content)
    (sound_grown old b table new_table free.few is.allowed.left
    (let more = count_grown old.associations b in omega (arith, more, sound.few_half_open))
    sound
    (last_joins old b table new_table sound (subst (λ n. is_bad_spi n old.associations ≡ false) (sym is.begins.spi) free.usable) refl (λ w. refl) (λ h. absurd (begun_opens _ h.opened h.is))
    (laws.begins meaning.cipher meaning.group meaning.public_value setup.fresh setup.moment old.next is.beginning (child_by is.entry is.done.spi setup.config.extended) is.begins).0
    (laws.begins_soundly meaning.cipher meaning.group meaning.public_value setup.fresh setup.moment old.next is.beginning (child_by is.entry is.done.spi setup.config.extended) is.begins)
    (λ keys are. absurd (no_keys keys are))
    (λ opened here. absurd (begun_asks _ opened here))
    (λ k c one two there is_one is_two. absurd (begun_asks _ two is_two))
    (laws.begins_held meaning.cipher meaning.group meaning.public_value setup.fresh setup.moment old.next is.beginning (child_by is.entry is.done.spi setup.config.extended) new_table is.begins
    (now_reserved is.between is.done.spi new_table is.done.reserved))
    (λ spi there. still_reserved is.between is.done.spi new_table spi is.done.reserved (between_reserved spi there))
    (λ spi there e.
    let given = (sound_table.reserved_given spi there).before_next in
    let is_new : spi ≡ is.done.spi = laws.begins_one meaning.cipher meaning.group meaning.public_value setup.fresh setup.moment old.next is.beginning (child_by is.entry is.done.spi setup.config.extended) spi is.begins e in
    absurd (omega (arith, given, is_new, same_next, is.done.reserved.in_order)))))

-- ---- a request of an IKE SA that stands

-- what becomes of the SPIs that an IKE SA holds as it asks: each stays reserved, and those that come
-- were not
record AskedSpis (a : Association) (table : Database) (b : Association) (new_table : Database) : Type 0 where
  reserved : HoldsReserved b new_table
  others : (spi : ℕ) → IsReserved table spi → IsReserved new_table spi
  come : (spi : ℕ) → HoldsSpi b spi → HoldsSpi a spi ⊎ (¬ IsReserved table spi)

ordered_spis : (laws : OrderLaws) (body_of : Keys → Octets → Octets → Octets → Octets) (setup : Setup) (order : Order) (a : Association) (octets : Octets) (b : Association) (table new_table : Database)
    → HoldsReserved a table → Asks body_of setup order a octets b → MarksFor order table new_table → AskedSpis a table b new_table
ordered_spis laws body_of setup order a octets b table new_table was asks marked =
    record {
      reserved = other_holds table new_table b (λ spi held there. marked_reserved order table new_table spi marked there) (laws.asking body_of setup order a octets b table asks was);
      others = λ spi there. marked_reserved order table new_table spi marked there;
      come = λ spi held. inl (laws.asked body_of setup order a octets b spi asks held);
    }

further_spis : (laws : OrderLaws) (body_of : Keys → Octets → Octets → Octets → Octets) (setup : Setup) (local remote : Selector) (a : Association) (octets : Octets) (b : Association) (table new_table : Database)
    → IsSoundTable table → HoldsReserved a table → AsksForFurther body_of setup local remote a table octets b new_table → AskedSpis a table b new_table
further_spis laws body_of setup local remote a octets b table new_table sound_table was asks =
    record {
      reserved = laws.further_reserved body_of setup local remote a table octets b new_table sound_table was asks;
      others = λ spi there. laws.further_others body_of setup local remote a table octets b new_table spi asks there;
      come = λ spi held.
          elim (laws.further_held body_of setup local remote a table octets b new_table spi asks held) [
            | inl before ↦ inl before
            | inr next ↦ inr (λ there. let given = (sound_table.reserved_given spi there).before_next in omega (arith, given, next))
          ];
    }

-- no other holds what comes
none_shared : (a b c : Association) (table new_table : Database) (next : ℕ) → AskedSpis a table b new_table → IsSound c next table → ((spi : ℕ) → HoldsSpi c spi → ¬ HoldsSpi a spi) → (spi : ℕ) → HoldsSpi c spi → ¬ HoldsSpi b spi
none_shared a b c table new_table next spis sound apart spi held its = elim (spis.come spi its) [
  | inl before ↦ apart spi held before
  | inr none ↦ none (sound.reserved.reserved spi held)
]

probed_joins : (laws : OrderLaws) (body_of : Keys → Octets → Octets → Octets → Octets) (setup : Setup) (ike : ℕ) (old : Held) (table new_table : Database) (stepped : Stepped) (new : Held)
    → AreSound old table → (is : AsksAt body_of setup ike old stepped new) → AskedSpis is.association table is.changed new_table → Joins old is.place is.changed old.next table new_table
probed_joins laws body_of setup ike old table new_table stepped new sound is spis =
    let was = sound.each is.place is.association is.there in
    let stays = changed_itself body_of setup ike old stepped new is in
    let phase_is = changed_phase body_of setup ike old stepped new is in
    let own : own_spi is.changed ≡ own_spi is.association = own_stays is.association is.changed (λ w. was.initiator (inl w)) stays in
    let opens : StaysOpened is.association is.changed = λ opened here. sym phase_is ∙ here in
    record {
      sound = record {
        serial_least = subst (λ n. 1 ≤ n) (sym stays.serial) was.serial_least;
        serial_given = subst (λ n. n < old.next) (sym stays.serial) was.serial_given;
        own = λ e. was.own (sym own ∙ e);
        initiator = λ w. stays.role ∙ was.initiator (waited_before is.association is.changed stays w);
        responder = λ h. stays.role ∙ was.responder (stays.half_open h);
        reserved = spis.reserved;
        short = (laws.requested body_of setup is.association is.octets is.changed was.short is.sends).0;
        soundly = laws.requested_soundly body_of setup is.association is.octets is.changed was.soundly is.sends;
        asked = λ opened here. was.asked opened (opens opened here);
        whole = subst HoldsWholeKeys (sym phase_is) was.whole;
      };
      more = omega arith;
      others = λ k c spi other there held reserved. spis.others spi reserved;
      before = λ k c less there.
          let apart = sound.apart k is.place c is.association less there is.there in
          record {
            rising = subst (λ n. c.serial < n) (sym stays.serial) apart.rising;
            own = λ e. apart.own (e ∙ own);
            held = none_shared is.association is.changed c table new_table old.next spis (sound.each k c there) apart.held;
            asked = λ one two is_one also. apart.asked one two is_one (opens two also);
          };
      after = λ k c less there.
          let apart = sound.apart is.place k is.association c less is.there there in
          record {
            rising = subst (λ n. n < c.serial) (sym stays.serial) apart.rising;
            own = λ e. apart.own (sym own ∙ e);
            held = λ spi its held. none_shared is.association is.changed c table new_table old.next spis (sound.each k c there) (λ q there_too before. apart.held q before there_too) spi held its;
            asked = λ one two is_one also. apart.asked one two (opens one is_one) also;
          };
    }

probed_sound : (laws : OrderLaws) (body_of : Keys → Octets → Octets → Octets → Octets) (setup : Setup) (ike : ℕ) (old : Held) (table new_table : Database) (stepped : Stepped) (new : Held)
    → AreSound old table → (is : AsksAt body_of setup ike old stepped new) → AskedSpis is.association table is.changed new_table → AreSound new new_table
probed_sound laws body_of setup ike old table new_table stepped new sound is spis =
    subst (λ (h : Held). AreSound h new_table) (sym is.content)
    (sound_replaced old is.place is.changed table new_table
    (count_replaced old.associations is.place is.association is.changed is.there (changed_itself body_of setup ike old stepped new is).half_open)
    sound (probed_joins laws body_of setup ike old table new_table stepped new sound is spis))

that_sound : (laws : OrderLaws) (body_of : Keys → Octets → Octets → Octets → Octets) (setup : Setup) (ike : ℕ) (order : Order) (old : Held) (table : Database) (stepped : Stepped) (new : Held) (new_table : Database)
    → AreSound old table → AsksThat body_of setup ike order old table stepped new new_table → AreSound new new_table
that_sound laws body_of setup ike order old table stepped new new_table sound is =
    let a = is.asks in
    probed_sound laws body_of setup ike old table new_table stepped new sound a
    (ordered_spis laws body_of setup order a.association a.octets a.changed table new_table (sound.each a.place a.association a.there).reserved is.ordered is.marked)

order_sound : (laws : OrderLaws) (body_of : Keys → Octets → Octets → Octets → Octets) (setup : Setup) (what : OrderView) (old : Held) (table : Database) (stepped : Stepped) (new : Held) (new_table : Database)
    → AreSound old table → AsksFor body_of setup what old table stepped new new_table → AreSound new new_table
order_sound laws body_of setup (orders.Probe ike) old table stepped new new_table sound is = that_sound laws body_of setup ike asked.Probe old table stepped new new_table sound is
order_sound laws body_of setup (orders.DeleteChild child) old table stepped new new_table sound is =
    that_sound laws body_of setup is.pair.ike (asked.DeleteChild child is.pair.inbound.association.spi) old table stepped new new_table sound is.asks
order_sound laws body_of setup (orders.DeleteIke ike) old table stepped new new_table sound is = that_sound laws body_of setup ike asked.DeleteAssociation old table stepped new new_table sound is

further_sound : (laws : OrderLaws) (meaning : Meaning) (setup : Setup) (ike place : ℕ) (old : Held) (table : Database) (stepped : Stepped) (new : Held) (new_table : Database)
    → IsSoundTable table → AreSound old table → FurthersBy meaning setup ike place old table stepped new new_table → AreSound new new_table
further_sound laws meaning setup ike place old table stepped new new_table sound_table sound is =
    let a = is.asks.asks in
    probed_sound laws meaning.body_of setup ike old table new_table stepped new sound a
    (further_spis laws meaning.body_of setup (local_side is.entry) (remote_side is.entry) a.association a.octets a.changed table new_table sound_table (sound.each a.place a.association a.there).reserved is.asks.further)

-- ---- a tick

passed_sound : (laws : OrderLaws) (now : ℕ) (old : Held) (table : Database) (new : Held) (new_table : Database) (stepped : Stepped) → AreSound old table → TakesHeld now old table new new_table stepped → AreSound new new_table
passed_sound laws now old table new new_table stepped sound is =
    ticked_sound now old new table new_table sound (laws.held now old.associations table is.ticked new.associations new_table is.ticks) is.next
    (λ spi none kept. laws.reserved now old.associations table is.ticked new.associations new_table spi none kept is.ticks)

-- ---- a step

pub step_held : (laws : Laws) (orders : OrderLaws) (meaning : Meaning) (entries : List Entry) (input : InputView) (old : Machine) (table : Database) (stepped : Stepped) (new : Machine) (new_table : Database)
    → IsSoundTable table → AreSound old.held table → Steps meaning entries input old table stepped new new_table → AreSound new.held new_table
step_held laws orders meaning entries (steps.Message from octets fresh) old table stepped new new_table sound_table sound is =
    datagram_sound laws meaning (setup_at old entries fresh) old.cookies from octets old.held table stepped new.held new_table sound_table sound is.1
step_held laws orders meaning entries (steps.Start None place fresh) old table stepped new new_table sound_table sound is =
    start_sound laws meaning (setup_at old entries fresh) place old.held table stepped new.held new_table sound_table sound is.1
step_held laws orders meaning entries (steps.Start (Some ike) place fresh) old table stepped new new_table sound_table sound is =
    further_sound orders meaning (setup_at old entries fresh) ike place old.held table stepped new.held new_table sound_table sound is.1
step_held laws orders meaning entries (steps.Order what fresh) old table stepped new new_table sound_table sound is =
    order_sound orders meaning.body_of (setup_at old entries fresh) what old.held table stepped new.held new_table sound is.1
step_held laws orders meaning entries (steps.Tick moment) old table stepped new new_table sound_table sound is =
    passed_sound orders (max old.moment moment) old.held table new.held new_table stepped sound is.takes
step_held laws orders meaning entries (steps.Secret secret) old table stepped new new_table sound_table sound is =
    same_sound old.held new.held table new_table sound (ap (λ (m : Machine). m.held) is.content) is.unchanged

pub step_config : (meaning : Meaning) (entries : List Entry) (input : InputView) (old : Machine) (table : Database) (stepped : Stepped) (new : Machine) (new_table : Database)
    → Steps meaning entries input old table stepped new new_table → new.config ≡ old.config
step_config meaning entries (steps.Message from octets fresh) old table stepped new new_table is = ap (λ (m : Machine). m.config) is.0
step_config meaning entries (steps.Start ike place fresh) old table stepped new new_table is = ap (λ (m : Machine). m.config) is.0
step_config meaning entries (steps.Order what fresh) old table stepped new new_table is = ap (λ (m : Machine). m.config) is.0
step_config meaning entries (steps.Tick moment) old table stepped new new_table is = ap (λ (m : Machine). m.config) is.content
step_config meaning entries (steps.Secret secret) old table stepped new new_table is = ap (λ (m : Machine). m.config) is.content

-- what is refused changes the table's room alone
refused_sound : (old new : Machine) (table new_table : Database) → IsSoundMachine old table → new ≡ old → IsAsBefore table new_table → IsSoundMachine new new_table
refused_sound old new table new_table sound same room =
    subst (λ (m : Machine). IsSoundMachine m new_table) (sym same)
    (record { held = sound_with old.held table new_table (λ spi there. subst (λ (d : Database). IsReserved d spi) (sym room.content) there) sound.held; config = sound.config; asks = sound.asks })

pub result_sound : (entries : List Entry) (meaning : Meaning) (input : InputView) (old : Machine) (table : Database) (r : Result Stepped IkeFault) (new : Machine) (new_table : Database)
    → ((stepped : Stepped) → Steps meaning entries input old table stepped new new_table → IsSoundMachine new new_table) → IsSoundMachine old table
    → IfOk r (λ stepped. Steps meaning entries input old table stepped new new_table)
    → IfErr r (λ reason. Refuses meaning entries input old table reason × (new ≡ old) × IsAsBefore table new_table)
    → IsSoundMachine new new_table
result_sound entries meaning input old table (Ok stepped) new new_table stays sound ok err = stays stepped ok
result_sound entries meaning input old table (Err reason) new new_table stays sound ok err = refused_sound old new table new_table sound err.1 err.2
