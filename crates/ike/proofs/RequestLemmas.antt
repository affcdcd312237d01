-- What a step does to the peer's requests, and what it answers to those that come again.
use Rattle.std.proofs.Common.{◌≡◌, ◌≢◌, ◌==◌, ◌&&◌, ◌||◌, ◌⊎◌, inl, inr, ℕ, zero, suc, ◌<◌, ◌∷◌, [], Bool, true, false, not, max, List, Option, Some, None, Ok, ap, refl, subst, sym, ◌∙◌, arith}
use Rattle.std.specs.FinMap as map
use Rattle.std.specs.FinSet as set
use Rattle.std.specs.List.{position, slice_get}
use Rattle.std.specs.Prelude.{slice_index_or, slice_set}
use Rattle.std.proofs.lemmas.Bool.{eqb-true, ne_eqb}
use Rattle.std.proofs.lemmas.Bool.Decides.{eqb_tells, leb_tells}
use Rattle.std.proofs.lemmas.List.Quantifiers.{position-Some}
use Rattle.std.proofs.lemmas.Option.{slice_get-get_or}
use Rattle.base.specs.Octets.{Octets}
use Rattle.wire.specs.Messages.{Spells}
use Rattle.wire.specs.Numbers.{IKE_SA_INIT}
use Rattle.wire.specs.Refusals.{IsFaultOf}
use Rattle.wire.specs.declared.fault.WireFault.{WireFault}
use Rattle.wire.specs.declared.message.Header.{Header}
use Rattle.wire.specs.declared.message.Message.{Message}
use Rattle.wire.specs.declared.payload.Payload.{Payload}
use Rattle.policy.specs.declared.entry.Entry.{Entry}
use Rattle.suite.specs.declared.key_record.KeyRecord.{KeyRecord}
use Rattle.exchange.specs.declared.headers.Role.{Role}
use Rattle.exchange.specs.declared.headers.Role.TheVariants.{Initiator, Responder}
use Rattle.exchange.specs.declared.sealed.Plain.{Plain}
use Rattle.requests.specs.Following.{FollowsIncoming}
use Rattle.requests.specs.Incoming.{IsFreshRequest, PeerRequests}
use Rattle.requests.specs.Numbers.{HasNumber, LacksNumber}
use Rattle.sadb.specs.Database.{Database}
use Rattle.sa_init.specs.Cookies.{CookieSecrets}
use Rattle.association.specs.Finding.{answers_initial, place_meant, has_pair, is_meant, is_waiting, missing, place_or, sent_by_other}
use Rattle.association.specs.Phases.{keys_in}
use Rattle.association.specs.Receiving.{admits, opened_by, opened_under, Opening}
use Rattle.association.specs.declared.fault.MessageFault.{MessageFault}
use Rattle.association.specs.declared.fault.MessageFault.TheVariants as why
use Rattle.association.specs.declared.phase.Association.{Association}
use Rattle.association.specs.declared.phase.HalfOpen.{HalfOpen}
use Rattle.association.specs.declared.phase.Phase.TheVariants as phase
use Rattle.setup.specs.Configs.{Setup}
use Rattle.moments.specs.Holding.{HoldsOn}
use Rattle.effects.specs.Keeping.{HasKeys}
use Rattle.effects.specs.Requests.{is_concluded, IsNew, IsSoundlyHeld, OpensAs, PutsIntoEffect, StaysConcluded}
use Rattle.effects.specs.Taking.{Meaning, KeepsIdentity, TakesMessage}
use Rattle.effects.specs.declared.taking.Effect.{Effect}
use Rattle.effects.specs.declared.taking.Effect.TheVariants as effect
use Rattle.ike.specs.Machines.{association_of, own_spi, setup_at, spi_by_role, Held, Machine}
use Rattle.ike.specs.Outputs.{closed_serial, stepped_of, IsQuiet}
use Rattle.ike.specs.Receiving.{is_initial_request, with_next, TakesAt, TakesDatagram, TakesFound, TakesRead}
use Rattle.ike.specs.Requests.{ComesIntoEffect, HoldsInEffect, IsAnswered, IsHeldThrough, IsNewRequest, OnlySays, OpensAsRequest}
use Rattle.ike.specs.Soundness.{AreSound, At, IsSound, IsSoundMachine}
use Rattle.ike.specs.Steps.{InputView, Steps}
use Rattle.ike.specs.Steps as steps
use Rattle.ike.specs.Asking.{AsksAt}
use Rattle.ike.specs.Ticking.{TakesHeld}
use Rattle.ike.specs.declared.fault.IkeFault.TheVariants as fault
use Rattle.ike.specs.declared.output.IkeOutput.{IkeOutput}
use Rattle.ike.specs.declared.output.IkeOutput.TheVariants as output
use Rattle.ike.specs.declared.output.Stepped.{Stepped}
use Rattle.ike.proofs.AskingLemmas.{changed_itself, changed_phase}
use Rattle.ike.proofs.RepeatLemmas.{none_passes}
use Rattle.ike.proofs.SerialLemmas.{grown_found, replaced_found, replaced_stands, same_one, sound_found}
use Rattle.ike.proofs.TickLemmas.{found_at, on_concluded, on_half_open, ticked_stood, TicksHold}
use Rattle.ike.proofs.WayLemmas.{admitted, asked_one, datagram_way, further_one, probed, rested, started, step_way, took, Takes, Way}
use Rattle.association.specs.Outcomes.{closed_by}

-- what is known of one message's effect on one IKE SA
pub record Laws : Type 0 where
  pub itself : (meaning : Meaning) (setup : Setup) (old : Association) (table : Database) (octets : Octets) (m : Message) (effect : Effect) (new : Association) (new_table : Database)
      → TakesMessage meaning setup old table octets m effect new new_table → KeepsIdentity old new
  pub alone : (meaning : Meaning) (setup : Setup) (old : Association) (table : Database) (octets : Octets) (m : Message) (effect : Effect) (new : Association) (new_table : Database) (number : ℕ)
      → TakesMessage meaning setup old table octets m effect new new_table → LacksNumber old.incoming.in_effect number → HasNumber new.incoming.in_effect number
      → PutsIntoEffect meaning.plain_of old octets m effect new number
  pub always : (meaning : Meaning) (setup : Setup) (old : Association) (table : Database) (octets : Octets) (m : Message) (effect : Effect) (new : Association) (new_table : Database) (plain : Plain)
      → TakesMessage meaning setup old table octets m effect new new_table → m.header.flags.response ≡ false → IsFreshRequest old.incoming m.header.id
      → admits old.phase m.header.exchange ≡ true → opened_by meaning.plain_of old octets m.payloads ≡ Some plain → HasNumber new.incoming.in_effect m.header.id
  pub follows : (meaning : Meaning) (setup : Setup) (old : Association) (table : Database) (octets : Octets) (m : Message) (effect : Effect) (new : Association) (new_table : Database)
      → TakesMessage meaning setup old table octets m effect new new_table → FollowsIncoming old.incoming new.incoming
  pub concluded : (meaning : Meaning) (setup : Setup) (old : Association) (table : Database) (octets : Octets) (m : Message) (effect : Effect) (new : Association) (new_table : Database)
      → TakesMessage meaning setup old table octets m effect new new_table → is_concluded old.phase ≡ true → StaysConcluded old new
  pub opened : (meaning : Meaning) (setup : Setup) (old : Association) (table : Database) (octets : Octets) (m : Message) (effect : Effect) (new : Association) (new_table : Database) (opened : HalfOpen)
      → TakesMessage meaning setup old table octets m effect new new_table → new.phase ≡ phase.HalfOpen opened → old.phase ≡ phase.HalfOpen opened
  pub repeated : (meaning : Meaning) (setup : Setup) (old : Association) (table : Database) (octets : Octets) (m : Message) (e : Effect) (new : Association) (new_table : Database) (plain : Plain) (reply : Octets)
      → TakesMessage meaning setup old table octets m e new new_table → m.header.flags.response ≡ false → HasNumber old.incoming.in_effect m.header.id
      → map.get old.incoming.kept m.header.id ≡ Some reply → opened_by meaning.plain_of old octets m.payloads ≡ Some plain → e ≡ effect.Repeated reply
  pub forgotten : (meaning : Meaning) (setup : Setup) (old : Association) (table : Database) (octets : Octets) (m : Message) (e : Effect) (new : Association) (new_table : Database)
      → TakesMessage meaning setup old table octets m e new new_table → m.header.flags.response ≡ false → HasNumber old.incoming.in_effect m.header.id
      → map.get old.incoming.kept m.header.id ≡ None → e ≡ effect.Refused why.Forgotten
  pub reflexive : (a : PeerRequests) → FollowsIncoming a a
  -- octets spell one message, and none where they are at fault
  pub message : (m n : Message) (b : Octets) → Spells m b → Spells n b → m ≡ n
  pub faultless : (m : Message) (b : Octets) (f : WireFault) → Spells m b → ¬ IsFaultOf b f

pub yes_no : (b : Bool) → b ≡ true → b ≡ false → ⊥
yes_no true one other = cc
yes_no false one other = cc

pub some_none : {T : Type 0} (x : T) → None ≡ Some x → ⊥
some_none x is = cc

-- ---- what became of an IKE SA that is held through a step

-- it took a message
pub record Took (meaning : Meaning) (setup : Setup) (octets : Octets) (stepped : Stepped) (table : Database) (a b : Association) : Type 0 where
  pub message : Message
  pub spelled : Spells message octets
  pub meant : is_meant message.header a ≡ true
  pub effect : Effect
  pub new_table : Database
  pub takes : TakesMessage meaning setup a table octets message effect b new_table
  pub said : stepped ≡ stepped_of a.serial message.header.id effect

pub data Change (meaning : Meaning) (setup : Setup) (octets : Octets) (stepped : Stepped) (table : Database) (a b : Association) : Type 0 where
  unchanged : b ≡ a → Change meaning setup octets stepped table a b
  took_it : Took meaning setup octets stepped table a b → Change meaning setup octets stepped table a b
  asked : b.incoming ≡ a.incoming → b.phase ≡ a.phase → Change meaning setup octets stepped table a b

pub below : (held : Held) (table : Database) (serial : ℕ) (a : Association) → AreSound held table → association_of serial held.associations ≡ Some a → serial < held.next
below held table serial a sound stands =
    let f = found_at held.associations serial a stands in
    let given = (sound.each f.place a f.there).serial_given in
    omega (arith, given, f.serial_is)

pub held_soundly : (held : Held) (table : Database) (serial : ℕ) (a : Association) → AreSound held table → association_of serial held.associations ≡ Some a → IsSoundlyHeld a
held_soundly held table serial a sound stands =
    let f = found_at held.associations serial a stands in
    (sound.each f.place a f.there).soundly

-- ---- what is found

one_place : (o : Option ℕ) (f : MessageFault) (place : ℕ) → place_or o f ≡ Ok place → o ≡ Some place
one_place None f place is = absurd cc
one_place (Some other) f place is = cc

-- what stands at the first place passes, and none before it does
pub record IsFirst (p : Association → Bool) (xs : List Association) (place : ℕ) (a : Association) : Type 0 where
  pub passes : p a ≡ true
  pub before : (k : ℕ) (c : Association) → k < place → slice_get xs k ≡ Some c → p c ≡ false

get_as : (xs : List Association) (k : ℕ) (c d : Association) → slice_get xs k ≡ Some c → slice_index_or xs k d ≡ c
get_as [] k c d there = absurd cc
get_as (x ∷ xs) zero c d there = same_one x c there
get_as (x ∷ xs) (suc k) c d there = get_as xs k c d there

pub first_of : (p : Association → Bool) (xs : List Association) (place : ℕ) (a : Association) → position p xs ≡ Some place → slice_get xs place ≡ Some a → IsFirst p xs place a
first_of p xs place a first there =
    let by = position-Some p xs place a first in
    record {
      passes = ap p (sym (get_as xs place a a there)) ∙ by.1;
      before = λ k c less is. ap p (sym (get_as xs k c a is)) ∙ by.2 k less;
    }

pub found_first : (h : Header) (xs : List Association) (place : ℕ) (a : Association) → place_meant h xs ≡ Ok place → slice_get xs place ≡ Some a → IsFirst (is_meant h) xs place a
found_first h xs place a finds there = first_of (is_meant h) xs place a (one_place (position (is_meant h) xs) (missing h xs) place finds) there

grown_same : (old : Held) (table : Database) (serial : ℕ) (b c : Association) (new : Held) → AreSound old table → b.serial ≡ old.next → new ≡ with_next old b
    → (a : Association) → association_of serial old.associations ≡ Some a → association_of serial new.associations ≡ Some c → c ≡ a
grown_same old table serial b c new sound next content a stood stands =
    let less = below old table serial a sound stood in
    sym (same_one a c (sym stood ∙ sym (grown_found old.associations b serial (λ e. omega (arith, less, e, next))) ∙ sym (ap (λ (h : Held). association_of serial h.associations) content) ∙ stands))

-- the IKE SA at a place is changed
replaced_same : (old : Held) (table : Database) (place : ℕ) (a b : Association) (new : Held) (serial : ℕ) (was is : Association) → AreSound old table → At old place a → b.serial ≡ a.serial
    → new ≡ record old { associations = slice_set old.associations place b } → association_of serial old.associations ≡ Some was → association_of serial new.associations ≡ Some is
    → (is ≡ was) ⊎ ((was ≡ a) × (is ≡ b))
replaced_same old table place a b new serial was is sound there same content stood stands = elim (eqb_tells serial a.serial) [
  | inl (one, here) ↦
      let stood_here : association_of serial old.associations ≡ Some a = subst (λ n. association_of n old.associations ≡ Some a) (sym here) (sound_found old table place a sound there) in
      let stands_here : association_of serial new.associations ≡ Some b =
      ap (λ (h : Held). association_of serial h.associations) content
      ∙ subst (λ n. association_of n (slice_set old.associations place b) ≡ Some b) (sym here) (replaced_stands old table place a b sound there same) in
      inr (same_one was a (sym stood ∙ stood_here), same_one is b (sym stands ∙ stands_here))
  | inr (none, apart) ↦
      let stands_here : association_of serial old.associations ≡ Some is =
      sym (ap (λ (h : Held). association_of serial h.associations) content ∙ replaced_found old.associations place a b serial there apart same) ∙ stands in
      inl (same_one is was (sym stands_here ∙ stood))
]

pub still_same : (old new : Held) (serial : ℕ) (a b : Association) → new ≡ old → association_of serial old.associations ≡ Some a → association_of serial new.associations ≡ Some b → b ≡ a
still_same old new serial a b same stood stands = same_one b a (sym stands ∙ ap (λ (h : Held). association_of serial h.associations) same ∙ stood)

took_change : (laws : Laws) (meaning : Meaning) (setup : Setup) (octets : Octets) (old : Held) (table : Database) (stepped : Stepped) (new : Held) (new_table : Database) (serial : ℕ) (a b : Association)
    → AreSound old table → IsHeldThrough serial old new a b → Takes meaning setup octets old table stepped new new_table → Change meaning setup octets stepped table a b
took_change laws meaning setup octets old table stepped new new_table serial a b sound held is =
    let t = is.takes in
    let stays = laws.itself meaning setup t.association table octets is.message t.effect t.changed new_table t.takes in
    elim (replaced_same old table is.place t.association t.changed new serial a b sound t.there stays.serial t.content held.before held.after) [
      | inl is_same ↦ unchanged is_same
      | inr (was, is_now) ↦ took_it (record {
        message = is.message;
        spelled = is.spelled;
        meant = subst (λ (x : Association). is_meant is.message.header x ≡ true) (sym was) (found_first is.message.header old.associations is.place t.association is.found_there t.there).passes;
        effect = t.effect;
        new_table = new_table;
        takes = subst (λ (x : Association). TakesMessage meaning setup x table octets is.message t.effect b new_table) (sym was)
            (subst (λ (x : Association). TakesMessage meaning setup t.association table octets is.message t.effect x new_table) (sym is_now) t.takes);
        said = subst (λ (x : Association). stepped ≡ stepped_of x.serial is.message.header.id t.effect) (sym was) t.said;
      })
    ]

pub way_change : (laws : Laws) (meaning : Meaning) (setup : Setup) (octets : Octets) (old : Held) (table : Database) (stepped : Stepped) (new : Held) (new_table : Database) (serial : ℕ) (a b : Association)
    → AreSound old table → IsHeldThrough serial old new a b → Way meaning setup octets old table stepped new new_table → Change meaning setup octets stepped table a b
way_change laws meaning setup octets old table stepped new new_table serial a b sound held (rested is) = unchanged (still_same old new serial a b is.same held.before held.after)
way_change laws meaning setup octets old table stepped new new_table serial a b sound held (took is) = took_change laws meaning setup octets old table stepped new new_table serial a b sound held is
way_change laws meaning setup octets old table stepped new new_table serial a b sound held (admitted is) =
    unchanged (grown_same old table serial is.admits.admitted.association b new sound (ap (λ (x : Association). x.serial) is.admits.admits.content) is.admits.content a held.before held.after)
way_change laws meaning setup octets old table stepped new new_table serial a b sound held (started is) =
    unchanged (grown_same old table serial _ b new sound refl is.starts.done.content a held.before held.after)
way_change laws meaning setup octets old table stepped new new_table serial a b sound held (probed is) =
    let p = is.probes in
    let stays = changed_itself meaning.body_of setup is.ike old stepped new p in
    elim (replaced_same old table p.place p.association p.changed new serial a b sound p.there stays.serial p.content held.before held.after) [
      | inl is_same ↦ unchanged is_same
      | inr (was, is_now) ↦ asked
          (ap (λ (x : Association). x.incoming) is_now ∙ ap (λ (x : Association). x.incoming) p.sends.content ∙ ap (λ (x : Association). x.incoming) (sym was))
          (ap (λ (x : Association). x.phase) is_now ∙ changed_phase meaning.body_of setup is.ike old stepped new p ∙ ap (λ (x : Association). x.phase) (sym was))
    ]

-- ---- what a step leaves of the peer's requests of one IKE SA

record Leaves (a b : Association) : Type 0 where
  follows : FollowsIncoming a.incoming b.incoming
  concluded : is_concluded a.phase ≡ true → StaysConcluded a b
  opened : (opened : HalfOpen) → b.phase ≡ phase.HalfOpen opened → a.phase ≡ phase.HalfOpen opened

asked_leaves : (laws : Laws) (a b : Association) → b.incoming ≡ a.incoming → b.phase ≡ a.phase → Leaves a b
asked_leaves laws a b same same_phase = record {
  follows = subst (λ (r : PeerRequests). FollowsIncoming a.incoming r) (sym same) (laws.reflexive a.incoming);
  concluded = λ is. record { concluded = ap is_concluded same_phase ∙ is; size = ap (λ (r : PeerRequests). r.size) same };
  opened = λ opened is. sym same_phase ∙ is;
}

change_leaves : (laws : Laws) (meaning : Meaning) (setup : Setup) (octets : Octets) (stepped : Stepped) (table : Database) (a b : Association) → Change meaning setup octets stepped table a b → Leaves a b
change_leaves laws meaning setup octets stepped table a b (unchanged is) = asked_leaves laws a b (ap (λ (x : Association). x.incoming) is) (ap (λ (x : Association). x.phase) is)
change_leaves laws meaning setup octets stepped table a b (took_it t) = record {
  follows = laws.follows meaning setup a table octets t.message t.effect b t.new_table t.takes;
  concluded = laws.concluded meaning setup a table octets t.message t.effect b t.new_table t.takes;
  opened = λ opened is. laws.opened meaning setup a table octets t.message t.effect b t.new_table opened t.takes is;
}
change_leaves laws meaning setup octets stepped table a b (asked is same_phase) = asked_leaves laws a b is same_phase

ticked_leaves : (laws : Laws) (now : ℕ) (a b : Association) → HoldsOn now a b → Leaves a b
ticked_leaves laws now a b on = record {
  follows = subst (λ (r : PeerRequests). FollowsIncoming a.incoming r) (sym on.incoming) (laws.reflexive a.incoming);
  concluded = λ is. record { concluded = on_concluded now a b on is; size = ap (λ (r : PeerRequests). r.size) on.incoming };
  opened = on_half_open now a b on;
}

-- ---- the message that an IKE SA is found for

pub and_left : (b c : Bool) → (b && c) ≡ true → b ≡ true
and_left true c is = refl
and_left false c is = absurd cc

and_right : (b c : Bool) → (b && c) ≡ true → c ≡ true
and_right true c is = is
and_right false c is = absurd cc

and_both : (b c : Bool) → b ≡ true → c ≡ true → (b && c) ≡ true
and_both true c one other = other
and_both false c one other = absurd cc

true_or : (b c : Bool) → b ≡ true → (b || c) ≡ true
true_or true c is = refl
true_or false c is = absurd cc

or_false : (b c : Bool) → c ≡ false → (b || c) ≡ true → b ≡ true
or_false true c none is = refl
or_false false c none is = absurd (yes_no c is none)

no_response : (b c d e : Bool) → b ≡ false → (b && c && d && e) ≡ false
no_response true c d e is = absurd cc
no_response false c d e is = refl

no_first : (b c d : Bool) → b ≡ false → (b && c && d) ≡ false
no_first true c d is = absurd cc
no_first false c d is = refl

-- a request is for an IKE SA that has its SPIs
pub request_pair : (h : Header) (a : Association) → h.flags.response ≡ false → is_meant h a ≡ true → has_pair h a ≡ true
request_pair h a request meant =
    or_false (has_pair h a) (answers_initial h a) (no_response h.flags.response (h.exchange == IKE_SA_INIT) (a.spi_i == h.spi_i) (is_waiting a.phase) request) (and_right (sent_by_other a.role h.flags.initiator) (has_pair h a || answers_initial h a) meant)

one_role : (a b : Role) (initiator : Bool) → sent_by_other a initiator ≡ true → sent_by_other b initiator ≡ true → a ≡ b
one_role Initiator Initiator initiator one other = refl
one_role Responder Responder initiator one other = refl
one_role Initiator Responder true one other = absurd cc
one_role Initiator Responder false one other = absurd cc
one_role Responder Initiator true one other = absurd cc
one_role Responder Initiator false one other = absurd cc

same_owner : (h : Header) (a b : Association) → has_pair h a ≡ true → has_pair h b ≡ true → a.role ≡ b.role → own_spi a ≡ own_spi b
same_owner h a b one other roles =
    ap (λ r. spi_by_role r a.spi_i a.spi_r) roles
    ∙ ap (λ n. spi_by_role b.role n a.spi_r) (eqb-true a.spi_i h.spi_i (and_left (a.spi_i == h.spi_i) _ one) ∙ sym (eqb-true b.spi_i h.spi_i (and_left (b.spi_i == h.spi_i) _ other)))
    ∙ ap (λ n. spi_by_role b.role b.spi_i n) (eqb-true a.spi_r h.spi_r (and_right (a.spi_i == h.spi_i) _ one) ∙ sym (eqb-true b.spi_r h.spi_r (and_right (b.spi_i == h.spi_i) _ other)))

-- two that stand at different places have not one SPI
one_owner : (held : Held) (table : Database) (k place : ℕ) (c a : Association) → AreSound held table → At held k c → At held place a → own_spi c ≡ own_spi a → k ≡ place
one_owner held table k place c a sound there here same = elim (eqb_tells k place) [
  | inl (one, is) ↦ is
  | inr (none, apart) ↦ elim (leb_tells place k) [
    | inl (above, at_least) ↦ absurd ((sound.apart place k a c (omega (arith, apart, at_least)) here there).own (sym same))
    | inr (under, less) ↦ absurd ((sound.apart k place c a less there here).own same)
  ]
]

-- an IKE SA that a message opens under has keys
has_keys : (plain_of : Opening) (role : Role) (keys : Option KeyRecord) (octets : Octets) (payloads : List Payload) (plain : Plain) → opened_under plain_of role keys octets payloads ≡ Some plain → (k : KeyRecord) × (keys ≡ Some k)
has_keys plain_of role None octets payloads plain is = absurd (some_none plain is)
has_keys plain_of role (Some keys) octets payloads plain is = (keys, refl)

named_by : (r : Role) (a : Association) (next : ℕ) (table : Database) → a.role ≡ r → IsSound a next table → HasKeys a.phase → a.spi_r ≢ 0
named_by Initiator a next table role sound keyed = sound.soundly.named keyed role
named_by Responder a next table role sound keyed = λ zero. sound.own (ap (λ r. spi_by_role r a.spi_i a.spi_r) role ∙ zero)

-- where an IKE SA stands that a datagram opens under, and that it is found for it
pub record Finds (held : Held) (a : Association) (h : Header) : Type 0 where
  pub place : ℕ
  pub there : At held place a
  pub found_there : place_meant h held.associations ≡ Ok place
  pub not_initial : is_initial_request h ≡ false

finds_first : (held : Held) (table : Database) (place : ℕ) (a : Association) (h : Header) (o : Option ℕ) → AreSound held table → At held place a → h.flags.response ≡ false
    → has_pair h a ≡ true → sent_by_other a.role h.flags.initiator ≡ true → position (is_meant h) held.associations ≡ o → o ≡ Some place
finds_first held table place a h None sound there request spis from_peer first =
    absurd (yes_no (is_meant h a) (and_both (sent_by_other a.role h.flags.initiator) (has_pair h a || answers_initial h a) from_peer (true_or (has_pair h a) (answers_initial h a) spis))
    (none_passes (is_meant h) held.associations first place a there))
finds_first held table place a h (Some k) sound there request spis from_peer first =
    let by = position-Some (is_meant h) held.associations k a first in
    let c : Association = slice_index_or held.associations k a in
    let stands : At held k c = slice_get-get_or held.associations k a by.0 in
    let meant : is_meant h c ≡ true = by.1 in
    let roles : c.role ≡ a.role = one_role c.role a.role h.flags.initiator (and_left (sent_by_other c.role h.flags.initiator) _ meant) from_peer in
    ap Some (one_owner held table k place c a sound stands there (same_owner h c a (request_pair h c request meant) spis roles))

pub finds_of : (held : Held) (table : Database) (serial : ℕ) (a : Association) (plain_of : Opening) (octets : Octets) (exchange number : ℕ) → AreSound held table
    → association_of serial held.associations ≡ Some a → (o : OpensAs plain_of a octets exchange number) → Finds held a o.message.header
finds_of held table serial a plain_of octets exchange number sound stands o =
    let f = found_at held.associations serial a stands in
    let h : Header = o.message.header in
    let keys = has_keys plain_of a.role (keys_in a.phase) octets o.message.payloads o.plain o.opened in
    let named : a.spi_r ≢ 0 = named_by a.role a held.next table refl (sound.each f.place a f.there) (record { keys = keys.0; are = keys.1 }) in
    let same : a.spi_r ≡ h.spi_r = eqb-true a.spi_r h.spi_r (and_right (a.spi_i == h.spi_i) _ o.spis) in
    record {
      place = f.place;
      there = f.there;
      found_there = ap (λ x. place_or x (missing h held.associations))
          (finds_first held table f.place a h (position (is_meant h) held.associations) sound f.there o.request o.spis o.from_peer refl);
      not_initial = no_first (h.spi_r == 0) (not h.flags.response) (h.exchange == IKE_SA_INIT) (ne_eqb h.spi_r 0 (λ zero. named (same ∙ zero)));
    }

-- it takes the message
pub record TakesIt (meaning : Meaning) (setup : Setup) (octets : Octets) (table : Database) (stepped : Stepped) (new : Held) (new_table : Database) (place : ℕ) (old : Held) (a : Association) (m : Message) : Type 0 where
  pub takes : TakesAt place meaning setup octets m old table stepped new new_table
  pub is : takes.association ≡ a

pub takes_there : (laws : Laws) (meaning : Meaning) (setup : Setup) (cookies : CookieSecrets) (from octets : Octets) (old : Held) (table : Database) (stepped : Stepped) (new : Held) (new_table : Database)
    (a : Association) (m : Message) → Spells m octets → (f : Finds old a m.header) → TakesDatagram meaning setup cookies from octets old table stepped new new_table
    → TakesIt meaning setup octets table stepped new new_table f.place old a m
takes_there laws meaning setup cookies from octets old table stepped new new_table a m spelled f is = elim is [
  | inl unread ↦ absurd (laws.faultless m octets unread.reason spelled unread.is)
  | inr read ↦
      let same : read.message ≡ m = laws.message read.message m octets read.spelled spelled in
      let taken : TakesRead (is_initial_request m.header) meaning setup cookies from octets m old table stepped new new_table =
      subst (λ (x : Message). TakesRead (is_initial_request x.header) meaning setup cookies from octets x old table stepped new new_table) same read.done in
      let found_one : TakesFound (place_meant m.header old.associations) meaning setup octets m old table stepped new new_table =
      subst (λ b. TakesRead b meaning setup cookies from octets m old table stepped new new_table) f.not_initial taken in
      let t : TakesAt f.place meaning setup octets m old table stepped new new_table =
      subst (λ r. TakesFound r meaning setup octets m old table stepped new new_table) f.found_there found_one in
      record { takes = t; is = same_one t.association a (sym t.there ∙ f.there) }
]

-- ---- the step

held_leaves : (laws : Laws) (ticks : TicksHold) (meaning : Meaning) (entries : List Entry) (input : InputView) (old : Machine) (table : Database) (stepped : Stepped) (new : Machine) (new_table : Database)
    (serial : ℕ) (a b : Association) → IsSoundMachine old table → Steps meaning entries input old table stepped new new_table → IsHeldThrough serial old.held new.held a b → Leaves a b
held_leaves laws ticks meaning entries input old table stepped new new_table serial a b sound is held = elim (step_way meaning entries input old table stepped new new_table is) [
  | inl w ↦ change_leaves laws meaning w.setup w.octets stepped table a b (way_change laws meaning w.setup w.octets old.held table stepped new.held new_table serial a b sound.held held w.way)
  | inr passes ↦
      let t = passes.takes in
      let was = ticked_stood passes.now old.held new.held table serial b sound.held (ticks passes.now old.held.associations table t.ticked new.held.associations new_table t.ticks) held.after in
      ticked_leaves laws passes.now a b (subst (λ (x : Association). HoldsOn passes.now x b) (same_one was.was a (sym was.stood ∙ held.before)) was.on)
]

pub step_follows : Laws → TicksHold → (meaning : Meaning) (entries : List Entry) (input : InputView) (old : Machine) (table : Database) (stepped : Stepped) (new : Machine) (new_table : Database)
    (serial : ℕ) (a b : Association) → IsSoundMachine old table → Steps meaning entries input old table stepped new new_table → IsHeldThrough serial old.held new.held a b → FollowsIncoming a.incoming b.incoming
step_follows laws ticks meaning entries input old table stepped new new_table serial a b sound is held = (held_leaves laws ticks meaning entries input old table stepped new new_table serial a b sound is held).follows

pub step_concludes : Laws → TicksHold → (meaning : Meaning) (entries : List Entry) (input : InputView) (old : Machine) (table : Database) (stepped : Stepped) (new : Machine) (new_table : Database)
    (serial : ℕ) (a b : Association) → IsSoundMachine old table → Steps meaning entries input old table stepped new new_table → IsHeldThrough serial old.held new.held a b
    → is_concluded a.phase ≡ true → StaysConcluded a b
step_concludes laws ticks meaning entries input old table stepped new new_table serial a b sound is held = (held_leaves laws ticks meaning entries input old table stepped new new_table serial a b sound is held).concluded

pub step_opened : Laws → TicksHold → (meaning : Meaning) (entries : List Entry) (input : InputView) (old : Machine) (table : Database) (stepped : Stepped) (new : Machine) (new_table : Database)
    (serial : ℕ) (a b : Association) (opened : HalfOpen) → IsSoundMachine old table → Steps meaning entries input old table stepped new new_table → IsHeldThrough serial old.held new.held a b
    → b.phase ≡ phase.HalfOpen opened → a.phase ≡ phase.HalfOpen opened
step_opened laws ticks meaning entries input old table stepped new new_table serial a b opened sound is held = (held_leaves laws ticks meaning entries input old table stepped new new_table serial a b sound is held).opened opened

-- ---- a number comes into effect by a datagram alone

never : (a b : Association) (number : ℕ) → b.incoming ≡ a.incoming → ComesIntoEffect number a b → ⊥
never a b number same comes = yes_no (set.contains a.incoming.in_effect number) (ap (λ (r : PeerRequests). set.contains r.in_effect number) (sym same) ∙ comes.after) comes.before

-- what comes into effect, and its answer
record ByRequest (meaning : Meaning) (octets : Octets) (stepped : Stepped) (a b : Association) (number : ℕ) : Type 0 where
  new_one : IsNew meaning.plain_of a octets number
  answered : IsAnswered stepped number b

change_brings : (laws : Laws) (meaning : Meaning) (setup : Setup) (octets : Octets) (stepped : Stepped) (table : Database) (a b : Association) (number : ℕ)
    → ComesIntoEffect number a b → Change meaning setup octets stepped table a b → ByRequest meaning octets stepped a b number
change_brings laws meaning setup octets stepped table a b number comes (unchanged is) = absurd (never a b number (ap (λ (x : Association). x.incoming) is) comes)
change_brings laws meaning setup octets stepped table a b number comes (asked is same_phase) = absurd (never a b number is comes)
change_brings laws meaning setup octets stepped table a b number comes (took_it t) =
    let put = laws.alone meaning setup a table octets t.message t.effect b t.new_table number t.takes comes.before comes.after in
    record {
      new_one = record {
        exchange = t.message.header.exchange;
        opens = record {
          message = t.message;
          spelled = t.spelled;
          spis = request_pair t.message.header a put.request t.meant;
          from_peer = and_left (sent_by_other a.role t.message.header.flags.initiator) _ t.meant;
          request = put.request;
          exchange_is = refl;
          number_is = put.number_is;
          plain = put.plain;
          opened = put.opened;
        };
        fresh = put.fresh;
        admitted = put.admitted;
      };
      answered = record {
        reply = put.answered.octets;
        closed = closed_serial a.serial (closed_by put.answered.fate);
        said = ap (λ (s : Stepped). s.output) (t.said ∙ ap (stepped_of a.serial t.message.header.id) put.said);
        kept = put.kept;
      };
    }

-- what the step brought, by its input
abbrev pub Brings : Meaning → InputView → Stepped → Association → Association → ℕ → Type 0
Brings meaning input stepped a b number = IsNewRequest meaning input a number × IsAnswered stepped number b

ticked_never : (ticks : TicksHold) (now : ℕ) (old : Held) (table : Database) (new : Held) (new_table : Database) (stepped : Stepped) (serial : ℕ) (a b : Association) (number : ℕ) → AreSound old table
    → TakesHeld now old table new new_table stepped → IsHeldThrough serial old new a b → ComesIntoEffect number a b → ⊥
ticked_never ticks now old table new new_table stepped serial a b number sound t held comes =
    let was = ticked_stood now old new table serial b sound (ticks now old.associations table t.ticked new.associations new_table t.ticks) held.after in
    never a b number (was.on.incoming ∙ ap (λ (x : Association). x.incoming) (same_one was.was a (sym was.stood ∙ held.before))) comes

probed_never : (meaning : Meaning) (setup : Setup) (ike : ℕ) (old : Held) (table : Database) (stepped : Stepped) (new : Held) (serial : ℕ) (a b : Association) (number : ℕ) → AreSound old table
    → AsksAt meaning.body_of setup ike old stepped new → IsHeldThrough serial old new a b → ComesIntoEffect number a b → ⊥
probed_never meaning setup ike old table stepped new serial a b number sound p held comes =
    let stays = changed_itself meaning.body_of setup ike old stepped new p in
    elim (replaced_same old table p.place p.association p.changed new serial a b sound p.there stays.serial p.content held.before held.after) [
      | inl is_same ↦ never a b number (ap (λ (x : Association). x.incoming) is_same) comes
      | inr (was, is_now) ↦ never a b number (ap (λ (x : Association). x.incoming) is_now ∙ ap (λ (x : Association). x.incoming) p.sends.content ∙ ap (λ (x : Association). x.incoming) (sym was)) comes
    ]

pub step_brings : Laws → TicksHold → (meaning : Meaning) (entries : List Entry) (input : InputView) (old : Machine) (table : Database) (stepped : Stepped) (new : Machine) (new_table : Database)
    (serial : ℕ) (a b : Association) (number : ℕ) → IsSoundMachine old table → Steps meaning entries input old table stepped new new_table → IsHeldThrough serial old.held new.held a b
    → ComesIntoEffect number a b → Brings meaning input stepped a b number
step_brings laws ticks meaning entries (steps.Message from octets fresh) old table stepped new new_table serial a b number sound is held comes =
    let setup = setup_at old entries fresh in
    let by = change_brings laws meaning setup octets stepped table a b number comes
    (way_change laws meaning setup octets old.held table stepped new.held new_table serial a b sound.held held (datagram_way meaning setup old.cookies from octets old.held table stepped new.held new_table is.1)) in
    (by.new_one, by.answered)
step_brings laws ticks meaning entries (steps.Start None place fresh) old table stepped new new_table serial a b number sound is held comes =
    absurd (never a b number (ap (λ (x : Association). x.incoming) (grown_same old.held table serial _ b new.held sound.held refl is.1.done.content a held.before held.after)) comes)
step_brings laws ticks meaning entries (steps.Start (Some asker) place fresh) old table stepped new new_table serial a b number sound is held comes =
    let one = further_one meaning (setup_at old entries fresh) asker place old.held table stepped new.held new_table is.1 in
    absurd (probed_never meaning (setup_at old entries fresh) one.ike old.held table stepped new.held serial a b number sound.held one.probes held comes)
step_brings laws ticks meaning entries (steps.Order what fresh) old table stepped new new_table serial a b number sound is held comes =
    let one = asked_one meaning (setup_at old entries fresh) what old.held table stepped new.held new_table is.1 in
    absurd (probed_never meaning (setup_at old entries fresh) one.ike old.held table stepped new.held serial a b number sound.held one.probes held comes)
step_brings laws ticks meaning entries (steps.Secret secret) old table stepped new new_table serial a b number sound is held comes =
    absurd (never a b number (ap (λ (x : Association). x.incoming) (still_same old.held new.held serial a b (ap (λ (m : Machine). m.held) is.content) held.before held.after)) comes)
step_brings laws ticks meaning entries (steps.Tick moment) old table stepped new new_table serial a b number sound is held comes =
    absurd (ticked_never ticks (max old.moment moment) old.held table new.held new_table stepped serial a b number sound.held is.takes held comes)

-- ---- a new request always does

pub step_takes : Laws → (meaning : Meaning) (entries : List Entry) (input : InputView) (old : Machine) (table : Database) (stepped : Stepped) (new : Machine) (new_table : Database)
    (serial : ℕ) (a : Association) (number : ℕ) → IsSoundMachine old table → Steps meaning entries input old table stepped new new_table → association_of serial old.held.associations ≡ Some a
    → IsNewRequest meaning input a number → HoldsInEffect new.held serial number
step_takes laws meaning entries (steps.Message from octets fresh) old table stepped new new_table serial a number sound is stands new_one =
    let o = new_one.opens in
    let h : Header = o.message.header in
    let setup = setup_at old entries fresh in
    let f = finds_of old.held table serial a meaning.plain_of octets new_one.exchange number sound.held stands o in
    let it = takes_there laws meaning setup old.cookies from octets old.held table stepped new.held new_table a o.message o.spelled f is.1 in
    let t = it.takes in
    let takes : TakesMessage meaning setup a table octets o.message t.effect t.changed new_table = subst (λ (x : Association). TakesMessage meaning setup x table octets o.message t.effect t.changed new_table) it.is t.takes in
    let stays = laws.itself meaning setup t.association table octets o.message t.effect t.changed new_table t.takes in
    let has : HasNumber t.changed.incoming.in_effect h.id = laws.always meaning setup a table octets o.message t.effect t.changed new_table o.plain takes o.request
    (subst (λ n. IsFreshRequest a.incoming n) (sym o.number_is) new_one.fresh) (ap (admits a.phase) o.exchange_is ∙ new_one.admitted) o.opened in
    let serial_is : t.association.serial ≡ serial = ap (λ (x : Association). x.serial) it.is ∙ (found_at old.held.associations serial a stands).serial_is in
    record {
      association = t.changed;
      there = subst (λ n. association_of n new.held.associations ≡ Some t.changed) serial_is
          (ap (λ (x : Held). association_of t.association.serial x.associations) t.content ∙ replaced_stands old.held table f.place t.association t.changed sound.held t.there stays.serial);
      in_effect = subst (λ n. HasNumber t.changed.incoming.in_effect n) o.number_is has;
    }
step_takes laws meaning entries (steps.Start ike place fresh) old table stepped new new_table serial a number sound is stands new_one = absurd new_one
step_takes laws meaning entries (steps.Order what fresh) old table stepped new new_table serial a number sound is stands new_one = absurd new_one
step_takes laws meaning entries (steps.Secret secret) old table stepped new new_table serial a number sound is stands new_one = absurd new_one
step_takes laws meaning entries (steps.Tick moment) old table stepped new new_table serial a number sound is stands new_one = absurd new_one

-- ---- what comes again

-- what is quiet changes nothing
abbrev pub Quiet : Type 0
Quiet = (meaning : Meaning) (entries : List Entry) (input : InputView) (old : Machine) (table : Database) (stepped : Stepped) (new : Machine) (new_table : Database)
    → Steps meaning entries input old table stepped new new_table → IsQuiet stepped.output → (new ≡ old) × (new_table ≡ table)

pub only_says : (quiet : Quiet) (meaning : Meaning) (entries : List Entry) (input : InputView) (old : Machine) (table : Database) (stepped : Stepped) (new : Machine) (new_table : Database) (o : IkeOutput)
    → Steps meaning entries input old table stepped new new_table → stepped.output ≡ o → IsQuiet o → OnlySays o old table stepped new new_table
only_says quiet meaning entries input old table stepped new new_table o is said still =
    let same = quiet meaning entries input old table stepped new new_table is (subst (λ (x : IkeOutput). IsQuiet x) (sym said) still) in
    record { said = said; machine = same.0; pairs = same.1 }

pub step_repeats : Laws → Quiet → (meaning : Meaning) (entries : List Entry) (input : InputView) (old : Machine) (table : Database) (stepped : Stepped) (new : Machine) (new_table : Database)
    (serial : ℕ) (a : Association) (number : ℕ) (reply : Octets) → IsSoundMachine old table → Steps meaning entries input old table stepped new new_table → association_of serial old.held.associations ≡ Some a
    → OpensAsRequest meaning input a number → map.get a.incoming.kept number ≡ Some reply → OnlySays (output.Repeat reply) old table stepped new new_table
step_repeats laws quiet meaning entries (steps.Message from octets fresh) old table stepped new new_table serial a number reply sound is stands opens kept =
    let o = opens.1 in
    let setup = setup_at old entries fresh in
    let f = finds_of old.held table serial a meaning.plain_of octets opens.0 number sound.held stands o in
    let it = takes_there laws meaning setup old.cookies from octets old.held table stepped new.held new_table a o.message o.spelled f is.1 in
    let t = it.takes in
    let takes : TakesMessage meaning setup a table octets o.message t.effect t.changed new_table = subst (λ (x : Association). TakesMessage meaning setup x table octets o.message t.effect t.changed new_table) it.is t.takes in
    let kept_here : map.get a.incoming.kept o.message.header.id ≡ Some reply = ap (map.get a.incoming.kept) o.number_is ∙ kept in
    let soundly : IsSoundlyHeld a = (sound.held.each f.place a f.there).soundly in
    let repeated = laws.repeated meaning setup a table octets o.message t.effect t.changed new_table o.plain reply takes o.request (soundly.in_effect o.message.header.id reply kept_here) kept_here o.opened in
    only_says quiet meaning entries (steps.Message from octets fresh) old table stepped new new_table (output.Repeat reply) is
    (ap (λ (s : Stepped). s.output) (t.said ∙ ap (stepped_of t.association.serial o.message.header.id) repeated)) tt
step_repeats laws quiet meaning entries (steps.Start ike place fresh) old table stepped new new_table serial a number reply sound is stands opens kept = absurd opens
step_repeats laws quiet meaning entries (steps.Order what fresh) old table stepped new new_table serial a number reply sound is stands opens kept = absurd opens
step_repeats laws quiet meaning entries (steps.Secret secret) old table stepped new new_table serial a number reply sound is stands opens kept = absurd opens
step_repeats laws quiet meaning entries (steps.Tick moment) old table stepped new new_table serial a number reply sound is stands opens kept = absurd opens

pub step_forgets : Laws → Quiet → (meaning : Meaning) (entries : List Entry) (input : InputView) (old : Machine) (table : Database) (stepped : Stepped) (new : Machine) (new_table : Database)
    (serial : ℕ) (a : Association) (number : ℕ) → IsSoundMachine old table → Steps meaning entries input old table stepped new new_table → association_of serial old.held.associations ≡ Some a
    → OpensAsRequest meaning input a number → HasNumber a.incoming.in_effect number → map.get a.incoming.kept number ≡ None
    → OnlySays (output.Dropped (fault.Message why.Forgotten)) old table stepped new new_table
step_forgets laws quiet meaning entries (steps.Message from octets fresh) old table stepped new new_table serial a number sound is stands opens has none =
    let o = opens.1 in
    let setup = setup_at old entries fresh in
    let f = finds_of old.held table serial a meaning.plain_of octets opens.0 number sound.held stands o in
    let it = takes_there laws meaning setup old.cookies from octets old.held table stepped new.held new_table a o.message o.spelled f is.1 in
    let t = it.takes in
    let takes : TakesMessage meaning setup a table octets o.message t.effect t.changed new_table = subst (λ (x : Association). TakesMessage meaning setup x table octets o.message t.effect t.changed new_table) it.is t.takes in
    let refused = laws.forgotten meaning setup a table octets o.message t.effect t.changed new_table takes o.request (subst (λ n. HasNumber a.incoming.in_effect n) (sym o.number_is) has)
    (ap (map.get a.incoming.kept) o.number_is ∙ none) in
    only_says quiet meaning entries (steps.Message from octets fresh) old table stepped new new_table (output.Dropped (fault.Message why.Forgotten)) is
    (ap (λ (s : Stepped). s.output) (t.said ∙ ap (stepped_of t.association.serial o.message.header.id) refused)) tt
step_forgets laws quiet meaning entries (steps.Start ike place fresh) old table stepped new new_table serial a number sound is stands opens has none = absurd opens
step_forgets laws quiet meaning entries (steps.Order what fresh) old table stepped new new_table serial a number sound is stands opens has none = absurd opens
step_forgets laws quiet meaning entries (steps.Secret secret) old table stepped new new_table serial a number sound is stands opens has none = absurd opens
step_forgets laws quiet meaning entries (steps.Tick moment) old table stepped new new_table serial a number sound is stands opens has none = absurd opens
