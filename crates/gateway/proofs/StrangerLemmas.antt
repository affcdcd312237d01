-- Who has no keys changes nothing.
use Rattle.std.proofs.Common.{◌≡◌, ◌≢◌, ◌⊎◌, ℕ, Bool, true, false, List, Option, Some, None, Result, Ok, Err, refl, ap, subst, sym, ◌∙◌, inl, inr}
use Rattle.std.specs.List.{position, slice_get}
use Rattle.std.specs.Prelude.{slice_set}
use Rattle.base.specs.Octets.{Octets}
use Rattle.wire.specs.Messages.{Spells}
use Rattle.wire.specs.declared.message.Message.{Message}
use Rattle.exchange.specs.declared.sealed.Plain.{Plain}
use Rattle.suite.specs.declared.fresh.Fresh.{Fresh}
use Rattle.policy.specs.declared.entry.Entry.{Entry}
use Rattle.esp.specs.Judging.{Judges}
use Rattle.esp.specs.declared.fault.EspFault.{EspFault}
use Rattle.esp.specs.declared.fault.EspFault.TheVariants as esp
use Rattle.sadb.specs.Database.{pair_at, Database, RefusesAt}
use Rattle.sadb.specs.declared.pair.Pair.{Pair}
use Rattle.requests.specs.Outgoing.{none_issued}
use Rattle.sa_init.specs.Cookies.{CookieSecrets}
use Rattle.sa_init.specs.Judging.{Accepted, Answered, Full, Incomplete, JudgementView}
use Rattle.association.specs.Finding.{place_meant}
use Rattle.association.specs.Receiving.{IsAnswering, IsAnsweringInitial, IsEffective, IsReceived, Opening, Reception, Refused, Repeat, TakesEffect, Answers, AnswersInitial}
use Rattle.association.specs.declared.fault.MessageFault.{MessageFault}
use Rattle.association.specs.declared.phase.Association.{Association}
use Rattle.initial.specs.Answering.{IsHalfOpen}
use Rattle.initial.specs.Ending.{IsAuthSent}
use Rattle.initial.specs.Reading.{Asker, Continues, IsInitSent}
use Rattle.initial.specs.declared.reading.Continued.{Continued}
use Rattle.initial.specs.declared.reading.Continued.TheVariants as continued
use Rattle.association.specs.declared.phase.InitSent.{InitSent}
use Rattle.association.specs.declared.phase.Phase.TheVariants as phase
use Rattle.sa_init.specs.declared.response.Response.{Response}
use Rattle.sa_init.specs.declared.response.Response.TheVariants as response
use Rattle.setup.specs.Configs.{Setup}
use Rattle.effects.specs.LawsOfStaying.{AssociationsStayThemselves}
use Rattle.effects.specs.Taking.{asker_of, Does, HasItsEffect, KeepsIdentity, Meaning, TakesMessage}
use Rattle.effects.specs.declared.taking.Effect.{Effect}
use Rattle.effects.specs.declared.taking.Effect.TheVariants as effect
use Rattle.ike.specs.LawsOfSteps.{WhatIsQuietChangesNothing}
use Rattle.ike.specs.Machines.{setup_at, Held, Machine}
use Rattle.ike.specs.Outputs.{passed_over, stepped_of, IsQuiet}
use Rattle.ike.specs.Receiving.{is_answered, is_initial_request, is_sound_initial, with_next, DoesJudgement, IsInitialRequest, PassesOver, TakesDatagram, TakesFound, TakesRead, TakesRequestAt, TakesSound}
use Rattle.ike.specs.Steps as ike
use Rattle.ike.specs.declared.fault.IkeFault.{IkeFault}
use Rattle.ike.specs.declared.output.Stepped.{Stepped}
use Rattle.traffic.specs.Outcomes.{Outcome, Up, Dummy, Sealed, Clear, Discarded, Dropped}
use Rattle.traffic.specs.Receiving.{IsUnopened, Receives}
use Rattle.traffic.specs.declared.fault.PacketFault.{PacketFault}
use Rattle.traffic.specs.declared.fault.PacketFault.TheVariants.{UnknownAssociation, Esp, Inner, OutsideSelectors}
use Rattle.gateway.specs.Strangers.{AnswersInClear, CountsForOne, IsAccepted, IsStrangeDatagram}

-- what is known of what a message is to an IKE SA, and of a step that says nothing
pub record StrangerFacts : Type 0 where
  pub effective : (plain_of : Opening) (a : Association) (octets : Octets) (m : Message) (plain : Plain) → IsReceived plain_of a octets m (TakesEffect plain) → IsEffective plain_of a octets m plain
  pub answering : (plain_of : Opening) (a : Association) (octets : Octets) (m : Message) (plain : Plain) → IsReceived plain_of a octets m (Answers plain) → IsAnswering plain_of a octets m plain
  pub initial : (plain_of : Opening) (a : Association) (octets : Octets) (m : Message) → IsReceived plain_of a octets m AnswersInitial → IsAnsweringInitial a m
  pub quiet : WhatIsQuietChangesNothing
  pub itself : AssociationsStayThemselves

-- what a step says, by what it is
quiet_as : (s t : Stepped) → s ≡ t → IsQuiet t.output → IsQuiet s.output
quiet_as s t same is = subst (λ (x : Stepped). IsQuiet x.output) (sym same) is

passed_quiet : (why : IkeFault) (old : Held) (stepped : Stepped) (new : Held) → PassesOver why old stepped new → IsQuiet stepped.output
passed_quiet why old stepped new is = quiet_as stepped (passed_over why) is.said tt

-- ---- a strange datagram is dropped, or its answer is sent again

refused_quiet : (ike number : ℕ) (meaning : Meaning) (setup : Setup) (old : Association) (table : Database) (octets : Octets) (m : Message) (fault : MessageFault) (e : Effect) (new : Association) (new_table : Database)
    → Does meaning setup old table octets m (Refused fault) e new new_table → IsQuiet (stepped_of ike number e).output
refused_quiet ike number meaning setup old table octets m fault (effect.Refused said) new new_table is = tt
refused_quiet ike number meaning setup old table octets m fault (effect.Repeated said) new new_table is = tt
refused_quiet ike number meaning setup old table octets m fault (effect.Replied answered) new new_table is = absurd is
refused_quiet ike number meaning setup old table octets m fault (effect.Again next) new new_table is = absurd is
refused_quiet ike number meaning setup old table octets m fault (effect.AsksAuth next) new new_table is = absurd is
refused_quiet ike number meaning setup old table octets m fault (effect.Counted ended) new new_table is = absurd is

repeated_quiet : (ike number : ℕ) (meaning : Meaning) (setup : Setup) (old : Association) (table : Database) (octets : Octets) (m : Message) (reply : Octets) (e : Effect) (new : Association) (new_table : Database)
    → Does meaning setup old table octets m (Repeat reply) e new new_table → IsQuiet (stepped_of ike number e).output
repeated_quiet ike number meaning setup old table octets m reply (effect.Refused said) new new_table is = tt
repeated_quiet ike number meaning setup old table octets m reply (effect.Repeated said) new new_table is = tt
repeated_quiet ike number meaning setup old table octets m reply (effect.Replied answered) new new_table is = absurd is
repeated_quiet ike number meaning setup old table octets m reply (effect.Again next) new new_table is = absurd is
repeated_quiet ike number meaning setup old table octets m reply (effect.AsksAuth next) new new_table is = absurd is
repeated_quiet ike number meaning setup old table octets m reply (effect.Counted ended) new new_table is = absurd is

counts_request : (plain_of : Opening) (a : Association) (octets : Octets) (m : Message) (plain : Plain) → IsEffective plain_of a octets m plain → HasItsEffect m.header.flags.response plain_of a octets m plain
counts_request plain_of a octets m plain is = subst (λ b. HasItsEffect b plain_of a octets m plain) (sym is.request) is

counts_response : (plain_of : Opening) (a : Association) (octets : Octets) (m : Message) (plain : Plain) → IsAnswering plain_of a octets m plain → HasItsEffect m.header.flags.response plain_of a octets m plain
counts_response plain_of a octets m plain is = subst (λ b. HasItsEffect b plain_of a octets m plain) (sym is.due.response) is

module _ (facts : StrangerFacts) (meaning : Meaning) (setup : Setup) (octets : Octets) (old : Held) (m : Message) (spelled : Spells m octets) (place : ℕ) (meant : place_meant m.header old.associations ≡ Ok place)
    (a : Association) (there : slice_get old.associations place ≡ Some a) where
  counts_now : (plain : Plain) → HasItsEffect m.header.flags.response meaning.plain_of a octets m plain → CountsForOne meaning.plain_of old octets
  counts_now plain counts = record { message = m; spelled = spelled; place = place; meant = meant; association = a; there = there; plain = plain; counts = counts }

  takes_counts : (plain : Plain) → IsReceived meaning.plain_of a octets m (TakesEffect plain) → CountsForOne meaning.plain_of old octets
  takes_counts plain received = counts_now plain (counts_request meaning.plain_of a octets m plain (facts.effective meaning.plain_of a octets m plain received))

  answers_count : (plain : Plain) → IsReceived meaning.plain_of a octets m (Answers plain) → CountsForOne meaning.plain_of old octets
  answers_count plain received = counts_now plain (counts_response meaning.plain_of a octets m plain (facts.answering meaning.plain_of a octets m plain received))

  abbrev awaited_now : IsReceived meaning.plain_of a octets m AnswersInitial → AnswersInClear old octets
  awaited_now received =
      record { message = m; spelled = spelled; place = place; meant = meant; association = a; there = there; due = facts.initial meaning.plain_of a octets m received }

module _ (facts : StrangerFacts) (meaning : Meaning) (setup : Setup) (octets : Octets) (old : Held) (strange : IsStrangeDatagram meaning old octets) where
  received_quiet : (m : Message) → Spells m octets → (place : ℕ) → place_meant m.header old.associations ≡ Ok place → (a : Association) → slice_get old.associations place ≡ Some a
      → (table : Database) (r : Reception) (e : Effect) (new : Association) (new_table : Database) → IsReceived meaning.plain_of a octets m r → Does meaning setup a table octets m r e new new_table
      → IsQuiet (stepped_of a.serial m.header.id e).output
  received_quiet m spelled place meant a there table (Refused fault) e new new_table received does = refused_quiet a.serial m.header.id meaning setup a table octets m fault e new new_table does
  received_quiet m spelled place meant a there table (Repeat reply) e new new_table received does = repeated_quiet a.serial m.header.id meaning setup a table octets m reply e new new_table does
  received_quiet m spelled place meant a there table (TakesEffect plain) e new new_table received does =
      absurd (strange.uncounted (takes_counts facts meaning setup octets old m spelled place meant a there plain received))
  received_quiet m spelled place meant a there table (Answers plain) e new new_table received does =
      absurd (strange.uncounted (answers_count facts meaning setup octets old m spelled place meant a there plain received))
  received_quiet m spelled place meant a there table AnswersInitial e new new_table received does =
      absurd (strange.not_awaited (awaited_now facts meaning setup octets old m spelled place meant a there received))

  found_quiet : (m : Message) → Spells m octets → (found : Result ℕ MessageFault) → place_meant m.header old.associations ≡ found
      → (table : Database) (stepped : Stepped) (new : Held) (new_table : Database) → TakesFound found meaning setup octets m old table stepped new new_table → IsQuiet stepped.output
  found_quiet m spelled (Ok place) meant table stepped new new_table is =
      quiet_as stepped _ is.said (received_quiet m spelled place meant is.association is.there table is.takes.reception is.effect is.changed new_table is.takes.received is.takes.done)
  found_quiet m spelled (Err fault) meant table stepped new new_table is = passed_quiet _ old stepped new is.0

  sound_quiet : (m : Message) → Spells m octets → is_initial_request m.header ≡ true → (b : Bool) → is_sound_initial m.header ≡ b
      → (cookies : CookieSecrets) (from : Octets) (stepped : Stepped) (new : Held) → TakesSound b meaning setup cookies from octets m old stepped new → IsQuiet stepped.output
  sound_quiet m spelled initial true sound cookies from stepped new is = absurd (strange.not_first (record { message = m; spelled = spelled; initial = initial; sound = sound }))
  sound_quiet m spelled initial false sound cookies from stepped new is = passed_quiet _ old stepped new is

  read_quiet : (m : Message) → Spells m octets → (b : Bool) → is_initial_request m.header ≡ b
      → (cookies : CookieSecrets) (from : Octets) (table : Database) (stepped : Stepped) (new : Held) (new_table : Database)
      → TakesRead b meaning setup cookies from octets m old table stepped new new_table → IsQuiet stepped.output
  read_quiet m spelled true initial cookies from table stepped new new_table is = sound_quiet m spelled initial (is_sound_initial m.header) refl cookies from stepped new is.0
  read_quiet m spelled false initial cookies from table stepped new new_table is = found_quiet m spelled (place_meant m.header old.associations) refl table stepped new new_table is

  datagram_quiet : (cookies : CookieSecrets) (from : Octets) (table : Database) (stepped : Stepped) (new : Held) (new_table : Database)
      → TakesDatagram meaning setup cookies from octets old table stepped new new_table → IsQuiet stepped.output
  datagram_quiet cookies from table stepped new new_table (inl fails) = passed_quiet _ old stepped new fails.passed
  datagram_quiet cookies from table stepped new new_table (inr reads) =
      read_quiet reads.message reads.spelled (is_initial_request reads.message.header) refl cookies from table stepped new new_table reads.done

-- so it changes nothing
pub strange_still : (facts : StrangerFacts) (meaning : Meaning) (entries : List Entry) (from octets : Octets) (fresh : Fresh) (old : Machine) (table : Database) (stepped : Stepped) (new : Machine) (new_table : Database)
    → IsStrangeDatagram meaning old.held octets → ike.Steps meaning entries (ike.Message from octets fresh) old table stepped new new_table → (new ≡ old) × (new_table ≡ table)
strange_still facts meaning entries from octets fresh old table stepped new new_table strange is =
    facts.quiet meaning entries (ike.Message from octets fresh) old table stepped new new_table is
    (datagram_quiet facts meaning (setup_at old entries fresh) octets old.held strange old.cookies from table stepped new.held new_table is.1)

-- ---- a packet that is not accepted

accepted_by : (table : Database) (octets : Octets) (child : ℕ) (pair : Pair) (number : ℕ) → pair_at table.pairs child ≡ Some pair → Judges pair.inbound.association pair.inbound.window octets number → IsAccepted table octets
accepted_by table octets child pair number there judged = record { child = child; pair = pair; there = there; number = number; judged = judged }

padding_or_not : (old : Database) (serial : ℕ) (packet : Octets) (fault : EspFault) (new : Database) → RefusesAt old serial packet fault new → (IsAccepted old packet → ⊥) → (fault ≢ esp.BadPadding → new ≡ old) → new ≡ old
padding_or_not old serial packet esp.BadPadding new is never still = absurd (never (accepted_by old packet serial is.pair is.refused.0 is.changed.there is.refused.1.judged))
padding_or_not old serial packet esp.Exhausted new is never still = still (λ e. cc)
padding_or_not old serial packet esp.PayloadSize new is never still = still (λ e. cc)
padding_or_not old serial packet esp.BadLength new is never still = still (λ e. cc)
padding_or_not old serial packet esp.Old new is never still = still (λ e. cc)
padding_or_not old serial packet esp.Replayed new is never still = still (λ e. cc)
padding_or_not old serial packet esp.BadNumber new is never still = still (λ e. cc)
padding_or_not old serial packet esp.BadIcv new is never still = still (λ e. cc)
padding_or_not old serial packet esp.Memory new is never still = still (λ e. cc)

unopened_still : (old : Database) (packet : Octets) (fault : PacketFault) (new : Database) → (IsAccepted old packet → ⊥) → IsUnopened old packet fault new → new ≡ old
unopened_still old packet (Esp fault) new never is = padding_or_not old is.pair.serial packet fault new is.refused never is.unchanged
unopened_still old packet (Inner fault) new never is = absurd is
unopened_still old packet UnknownAssociation new never is = absurd is
unopened_still old packet OutsideSelectors new never is = absurd is

pub packet_still : (old : Database) (packet : Octets) (o : Outcome) (new : Database) → (IsAccepted old packet → ⊥) → Receives old packet o new → new ≡ old
packet_still old packet (Up child number inner) new never is =
    absurd (never (accepted_by old packet child is.opened.pair number is.opened.changed.there is.opened.opened.judged))
packet_still old packet (Dummy child number) new never is =
    absurd (never (accepted_by old packet child is.opened.pair number is.opened.changed.there is.opened.opened.judged))
packet_still old packet (Dropped fault) new never is = elim is [
  | inl none ↦ none.1
  | inr some ↦ elim some [
    | inl unopened ↦ unopened_still old packet fault new never unopened
    | inr rejected ↦
        let o = rejected.opened.opened in
        absurd (never (accepted_by old packet rejected.child o.pair rejected.number o.changed.there o.opened.judged))
  ]
]
packet_still old packet (Sealed child number octets) new never is = absurd is
packet_still old packet (Clear octets) new never is = absurd is
packet_still old packet Discarded new never is = absurd is

-- ---- a request of IKE_SA_INIT adds a half-open IKE SA, or nothing

abbrev pub OneSpelling : Type 0
OneSpelling = (one other : Message) (octets : Octets) → Spells one octets → Spells other octets → one ≡ other

pub record AddsOne (old new : Held) : Type 0 where
  pub association : Association
  pub serial : association.serial ≡ old.next
  pub half_open : IsHalfOpen association.phase
  pub outgoing : association.outgoing ≡ none_issued
  pub content : new ≡ with_next old association

abbrev pub Adds : Held → Held → Type 0
Adds old new = (new ≡ old) ⊎ AddsOne old new

judged_adds : (meaning : Meaning) (setup : Setup) (spi_i : ℕ) (octets : Octets) (j : JudgementView) (old : Held) (stepped : Stepped) (new : Held)
    → DoesJudgement meaning setup spi_i octets j old stepped new → Adds old new
judged_adds meaning setup spi_i octets (Answered notice) old stepped new is = inl is.1
judged_adds meaning setup spi_i octets Incomplete old stepped new is = inl is.unchanged
judged_adds meaning setup spi_i octets Full old stepped new is = inl is.unchanged
judged_adds meaning setup spi_i octets (Accepted offer) old stepped new is = elim is.done [
  | inl refused ↦ inl refused.1.unchanged
  | inr admits ↦ inr (record {
    association = admits.admitted.association;
    serial = ap (λ (a : Association). a.serial) admits.admits.content;
    half_open = record { opened = _; is = ap (λ (a : Association). a.phase) admits.admits.content };
    outgoing = ap (λ (a : Association). a.outgoing) admits.admits.content;
    content = admits.content;
  })
]

first_adds : (place : Option ℕ) (meaning : Meaning) (setup : Setup) (cookies : CookieSecrets) (from octets : Octets) (m : Message) (old : Held) (stepped : Stepped) (new : Held)
    → TakesRequestAt place meaning setup cookies from octets m old stepped new → Adds old new
first_adds (Some place) meaning setup cookies from octets m old stepped new is = inl is.1
first_adds None meaning setup cookies from octets m old stepped new is = judged_adds meaning setup m.header.spi_i octets is.judgement old stepped new is.done

pub sound_adds : (b : Bool) (meaning : Meaning) (setup : Setup) (cookies : CookieSecrets) (from octets : Octets) (m : Message) (old : Held) (stepped : Stepped) (new : Held)
    → TakesSound b meaning setup cookies from octets m old stepped new → Adds old new
sound_adds true meaning setup cookies from octets m old stepped new is =
    first_adds (position (is_answered octets) old.associations) meaning setup cookies from octets m old stepped new is
sound_adds false meaning setup cookies from octets m old stepped new is = inl is.unchanged

read_adds : (b : Bool) (meaning : Meaning) (setup : Setup) (cookies : CookieSecrets) (from octets : Octets) (m : Message) (old : Held) (table : Database) (stepped : Stepped) (new : Held) (new_table : Database)
    → b ≡ true → TakesRead b meaning setup cookies from octets m old table stepped new new_table → Adds old new × (new_table ≡ table)
read_adds true meaning setup cookies from octets m old table stepped new new_table initial is = (sound_adds (is_sound_initial m.header) meaning setup cookies from octets m old stepped new is.0, is.1)
read_adds false meaning setup cookies from octets m old table stepped new new_table initial is = absurd cc

pub initial_adds : (one : OneSpelling) (meaning : Meaning) (setup : Setup) (cookies : CookieSecrets) (from octets : Octets) (old : Held) (table : Database) (stepped : Stepped) (new : Held) (new_table : Database)
    → IsInitialRequest octets → TakesDatagram meaning setup cookies from octets old table stepped new new_table → Adds old new × (new_table ≡ table)
initial_adds one meaning setup cookies from octets old table stepped new new_table initial (inl fails) = (inl fails.passed.unchanged, fails.unchanged)
initial_adds one meaning setup cookies from octets old table stepped new new_table initial (inr reads) =
    let same = one reads.message initial.message octets reads.spelled initial.spelled in
    read_adds (is_initial_request reads.message.header) meaning setup cookies from octets reads.message old table stepped new new_table
    (ap (λ (m : Message). is_initial_request m.header) same ∙ initial.initial) reads.done

-- ---- what counts for none changes one IKE SA that waits, or nothing

continues_waiting : (asker : Asker) (setup : Setup) (old : Association) (sent : InitSent) (number : ℕ) (m : Message) (octets : Octets) (r : Response) (c : Continued) (new : Association) → old.phase ≡ phase.InitSent sent
    → Continues asker setup old sent number m octets r c new → IsInitSent new.phase ⊎ IsAuthSent new.phase
continues_waiting asker setup old sent number m octets (response.Cookie cookie) (continued.Again next) new was is = inl (record { sent = _; is = ap (λ (a : Association). a.phase) is.content })
continues_waiting asker setup old sent number m octets (response.Cookie cookie) (continued.AsksAuth next) new was is = absurd is
continues_waiting asker setup old sent number m octets (response.Cookie cookie) continued.Unfit new was is = absurd is
continues_waiting asker setup old sent number m octets (response.Keys keys) (continued.Again next) new was is = absurd is
continues_waiting asker setup old sent number m octets (response.Keys keys) (continued.AsksAuth next) new was is = inr (record { sent = _; is = ap (λ (a : Association). a.phase) is.content })
continues_waiting asker setup old sent number m octets (response.Keys keys) continued.Unfit new was is = absurd is
continues_waiting asker setup old sent number m octets response.Unfit (continued.Again next) new was is = absurd is
continues_waiting asker setup old sent number m octets response.Unfit (continued.AsksAuth next) new was is = absurd is
continues_waiting asker setup old sent number m octets response.Unfit continued.Unfit new was is = inl (record { sent = sent; is = ap (λ (a : Association). a.phase) is ∙ was })

pub record ChangesOneHeld (octets : Octets) (old new : Held) : Type 0 where
  pub awaited : AnswersInClear old octets
  pub is : Association
  pub identity : KeepsIdentity awaited.association is
  pub phase : IsInitSent is.phase ⊎ IsAuthSent is.phase
  pub content : new ≡ record old { associations = slice_set old.associations awaited.place is }

abbrev pub WaitingOrQuiet : Octets → Stepped → Held → Held → Database → Database → Type 0
WaitingOrQuiet octets stepped old new table new_table = IsQuiet stepped.output ⊎ (ChangesOneHeld octets old new × (new_table ≡ table))

module _ (facts : StrangerFacts) (meaning : Meaning) (setup : Setup) (octets : Octets) (old : Held) (uncounted : CountsForOne meaning.plain_of old octets → ⊥) where
  received_waiting : (m : Message) → Spells m octets → (place : ℕ) → place_meant m.header old.associations ≡ Ok place → (a : Association) → slice_get old.associations place ≡ Some a
      → (table : Database) (r : Reception) (e : Effect) (changed : Association) (new_table : Database) → TakesMessage meaning setup a table octets m e changed new_table
      → IsReceived meaning.plain_of a octets m r → Does meaning setup a table octets m r e changed new_table
      → (stepped : Stepped) (new : Held) → stepped ≡ stepped_of a.serial m.header.id e → new ≡ record old { associations = slice_set old.associations place changed } → WaitingOrQuiet octets stepped old new table new_table
  received_waiting m spelled place meant a there table (Refused fault) e changed new_table takes received does stepped new said content =
      inl (quiet_as stepped _ said (refused_quiet a.serial m.header.id meaning setup a table octets m fault e changed new_table does))
  received_waiting m spelled place meant a there table (Repeat reply) e changed new_table takes received does stepped new said content =
      inl (quiet_as stepped _ said (repeated_quiet a.serial m.header.id meaning setup a table octets m reply e changed new_table does))
  received_waiting m spelled place meant a there table (TakesEffect plain) e changed new_table takes received does stepped new said content =
      absurd (uncounted (takes_counts facts meaning setup octets old m spelled place meant a there plain received))
  received_waiting m spelled place meant a there table (Answers plain) e changed new_table takes received does stepped new said content =
      absurd (uncounted (answers_count facts meaning setup octets old m spelled place meant a there plain received))
  received_waiting m spelled place meant a there table AnswersInitial e changed new_table takes received does stepped new said content =
      let read = does.0.read in
      inr (
        record {
          awaited = awaited_now facts meaning setup octets old m spelled place meant a there received;
          is = changed;
          identity = facts.itself meaning setup a table octets m e changed new_table takes;
          phase = continues_waiting (asker_of meaning) setup a read.sent m.header.id m octets read.response does.0.continued changed read.was read.continues;
          content = content;
        },
        does.1,
      )

  found_waiting : (m : Message) → Spells m octets → (found : Result ℕ MessageFault) → place_meant m.header old.associations ≡ found → (table : Database) (stepped : Stepped) (new : Held) (new_table : Database)
      → TakesFound found meaning setup octets m old table stepped new new_table → WaitingOrQuiet octets stepped old new table new_table
  found_waiting m spelled (Ok place) meant table stepped new new_table is =
      received_waiting m spelled place meant is.association is.there table is.takes.reception is.effect is.changed new_table is.takes is.takes.received is.takes.done stepped new is.said is.content
  found_waiting m spelled (Err fault) meant table stepped new new_table is = inl (passed_quiet _ old stepped new is.0)

  sound_waiting : (m : Message) → Spells m octets → is_initial_request m.header ≡ true → (IsInitialRequest octets → ⊥) → (b : Bool) → is_sound_initial m.header ≡ b
      → (cookies : CookieSecrets) (from : Octets) (stepped : Stepped) (new : Held) → TakesSound b meaning setup cookies from octets m old stepped new → IsQuiet stepped.output
  sound_waiting m spelled initial first true sound cookies from stepped new is = absurd (first (record { message = m; spelled = spelled; initial = initial; sound = sound }))
  sound_waiting m spelled initial first false sound cookies from stepped new is = passed_quiet _ old stepped new is

  read_waiting : (m : Message) → Spells m octets → (IsInitialRequest octets → ⊥) → (b : Bool) → is_initial_request m.header ≡ b
      → (cookies : CookieSecrets) (from : Octets) (table : Database) (stepped : Stepped) (new : Held) (new_table : Database)
      → TakesRead b meaning setup cookies from octets m old table stepped new new_table → WaitingOrQuiet octets stepped old new table new_table
  read_waiting m spelled first true initial cookies from table stepped new new_table is = inl (sound_waiting m spelled initial first (is_sound_initial m.header) refl cookies from stepped new is.0)
  read_waiting m spelled first false initial cookies from table stepped new new_table is = found_waiting m spelled (place_meant m.header old.associations) refl table stepped new new_table is

  datagram_waiting : (IsInitialRequest octets → ⊥) → (cookies : CookieSecrets) (from : Octets) (table : Database) (stepped : Stepped) (new : Held) (new_table : Database)
      → TakesDatagram meaning setup cookies from octets old table stepped new new_table → WaitingOrQuiet octets stepped old new table new_table
  datagram_waiting first cookies from table stepped new new_table (inl fails) = inl (passed_quiet _ old stepped new fails.passed)
  datagram_waiting first cookies from table stepped new new_table (inr reads) =
      read_waiting reads.message reads.spelled first (is_initial_request reads.message.header) refl cookies from table stepped new new_table reads.done

-- so at most one IKE SA that waits is changed
pub keyless_changes : (facts : StrangerFacts) (meaning : Meaning) (entries : List Entry) (from octets : Octets) (fresh : Fresh) (old : Machine) (table : Database) (stepped : Stepped) (new : Machine) (new_table : Database)
    → (CountsForOne meaning.plain_of old.held octets → ⊥) → (IsInitialRequest octets → ⊥) → ike.Steps meaning entries (ike.Message from octets fresh) old table stepped new new_table
    → ((new ≡ old) ⊎ ChangesOneHeld octets old.held new.held) × (new_table ≡ table)
keyless_changes facts meaning entries from octets fresh old table stepped new new_table uncounted first is =
    elim (datagram_waiting facts meaning (setup_at old entries fresh) octets old.held uncounted first old.cookies from table stepped new.held new_table is.1) [
      | inl quiet ↦ (let still = facts.quiet meaning entries (ike.Message from octets fresh) old table stepped new new_table is quiet in (inl still.0, still.1))
      | inr changes ↦ (inr changes.0, changes.1)
    ]
