-- What is done is not refused but on allocation failure, and a refusal has one reason.
use Rattle.std.proofs.Common.{◌≡◌, ◌⊎◌, inl, inr, ◌<◌, ◌+◌, ◌^◌, ℕ, Bool, true, false, List, length, Option, Some, None, refl, sym, ap, subst, ◌∙◌, arith, max}
use Rattle.std.specs.List.{position}
use Rattle.std.specs.Prelude.{◌==◌, nat_le, if◌then◌else◌}
use Rattle.base.specs.Octets.{Octets}
use Rattle.wire.specs.declared.message.Message.{Message}
use Rattle.policy.specs.declared.entry.Entry.{Entry}
use Rattle.suite.specs.declared.fresh.Fresh.{Fresh}
use Rattle.sadb.specs.Contents.{table_content}
use Rattle.sadb.specs.Database.{Database, IsFull, IsSpent}
use Rattle.sa_init.specs.Cookies.{CookieSecrets}
use Rattle.sa_init.specs.Judging.{Accepted, ASSOCIATION_LIMIT, JudgementView, OfferView}
use Rattle.setup.specs.Configs.{Setup}
use Rattle.effects.specs.Taking.{Meaning}
use Rattle.ike.specs.Contents.{held_content, machine_content}
use Rattle.ike.specs.Faults.{is_want_of_memory}
use Rattle.ike.specs.Machines.{is_bad_spi, setup_at, Held, Machine, SERIAL_END}
use Rattle.ike.specs.Receiving.{is_answered, is_initial_request, is_sound_initial, CanMake, CannotMake, DoesJudgement, IsJudged, RefusesDatagram, RefusesInitial, TakesDatagram, TakesNew, TakesRead, TakesRequestAt, TakesSound}
use Rattle.policy.specs.Decisions.{local_side, remote_side}
use Rattle.ike.specs.Starting.{new_association_fault, beginning_fault_of, protecting_entry, BeginsBy, GivesNoSpi, RefusesBeginning, RefusesFurtherBy, RefusesStart, Starts}
use Rattle.ike.specs.Steps as steps
use Rattle.ike.specs.Steps.{InputView, Start, Secret, Refuses, RefusesSecret, Steps}
use Rattle.ike.specs.declared.fault.IkeFault.{IkeFault}
use Rattle.ike.specs.declared.fault.IkeFault.TheVariants as fault
use Rattle.ike.specs.declared.output.Stepped.{Stepped}
use Rattle.ike.proofs.ContentLemmas.{same_answered, same_bad, same_length, same_list, same_next}
use Rattle.ike.proofs.DeterminedLaws.{Laws}
use Rattle.ike.proofs.DeterminedSteps.{one_judgement, same_setup}
use Rattle.ike.proofs.OrderLemmas.{asked_or_refused, further_or_refused, moment_refused, one_asking_refusal, one_further_refusal}

-- ---- requests of IKE_SA_INIT

can_or_cannot : (old : Held) (spi : ℕ) (reason : IkeFault) → CanMake old spi → CannotMake old spi reason → is_want_of_memory reason ≡ true
can_or_cannot old spi (fault.Unread f) can cannot = absurd cannot
can_or_cannot old spi (fault.Message f) can cannot = absurd cannot
can_or_cannot old spi fault.Unprotected can cannot = absurd cannot
can_or_cannot old spi fault.Crowded can cannot = absurd cannot
can_or_cannot old spi fault.TableFull can cannot = absurd cannot
can_or_cannot old spi fault.SpisSpent can cannot = absurd cannot
can_or_cannot old spi fault.HalfOpenFull can cannot = absurd cannot
can_or_cannot old spi fault.Busy can cannot = absurd cannot
can_or_cannot old spi fault.NumbersSpent can cannot = absurd (omega (arith, can.serial, cannot))
can_or_cannot old spi fault.BadFresh can cannot = absurd (cc (can.usable, cannot.1))
can_or_cannot old spi (fault.Memory f) can cannot = refl

-- why no IKE SA can be made: no serial is left, or one is and the SPI can't be used
abbrev Hinders : Held → ℕ → IkeFault → Type 0
Hinders old spi reason = ((reason ≡ fault.NumbersSpent) × (old.next ≡ SERIAL_END)) ⊎ ((reason ≡ fault.BadFresh) × (old.next < SERIAL_END))

hinders : (old : Held) (spi : ℕ) (reason : IkeFault) → is_want_of_memory reason ≡ false → CannotMake old spi reason → Hinders old spi reason
hinders old spi (fault.Unread f) other cannot = absurd cannot
hinders old spi (fault.Message f) other cannot = absurd cannot
hinders old spi fault.Unprotected other cannot = absurd cannot
hinders old spi fault.Crowded other cannot = absurd cannot
hinders old spi fault.TableFull other cannot = absurd cannot
hinders old spi fault.SpisSpent other cannot = absurd cannot
hinders old spi fault.HalfOpenFull other cannot = absurd cannot
hinders old spi fault.Busy other cannot = absurd cannot
hinders old spi fault.NumbersSpent other cannot = inl (refl, cannot)
hinders old spi fault.BadFresh other cannot = inr (refl, cannot.0)
hinders old spi (fault.Memory f) other cannot = absurd (cc)

one_hindrance : (old : Held) (spi : ℕ) (one two : IkeFault) → Hinders old spi one → Hinders old spi two → one ≡ two
one_hindrance old spi one two (inl is) (inl also) = is.0 ∙ sym also.0
one_hindrance old spi one two (inl is) (inr also) = absurd (omega (arith, is.1, also.1))
one_hindrance old spi one two (inr is) (inl also) = absurd (omega (arith, is.1, also.1))
one_hindrance old spi one two (inr is) (inr also) = is.0 ∙ sym also.0

-- on allocation failure, or as an offer
pub refused_is : (meaning : Meaning) (setup : Setup) (cookies : CookieSecrets) (from octets : Octets) (old : Held) (table : Database) (reason : IkeFault) → RefusesDatagram meaning setup cookies from octets old table reason
    → (is_want_of_memory reason ≡ true) ⊎ RefusesInitial meaning setup cookies from octets old reason
refused_is meaning setup cookies from octets old table (fault.Unread f) is = inr is
refused_is meaning setup cookies from octets old table (fault.Message f) is = inr is
refused_is meaning setup cookies from octets old table fault.Unprotected is = inr is
refused_is meaning setup cookies from octets old table fault.Crowded is = inr is
refused_is meaning setup cookies from octets old table fault.TableFull is = inr is
refused_is meaning setup cookies from octets old table fault.SpisSpent is = inr is
refused_is meaning setup cookies from octets old table fault.HalfOpenFull is = inr is
refused_is meaning setup cookies from octets old table fault.Busy is = inr is
refused_is meaning setup cookies from octets old table fault.NumbersSpent is = inr is
refused_is meaning setup cookies from octets old table fault.BadFresh is = inr is
refused_is meaning setup cookies from octets old table (fault.Memory f) is = inl refl

clash : (b : Bool) → b ≡ true → b ≡ false → ⊥
clash true one other = cc
clash false one other = cc

initial_refused : (meaning : Meaning) (setup : Setup) (cookies : CookieSecrets) (from octets : Octets) (old : Held) (table : Database) (reason : IkeFault) → is_want_of_memory reason ≡ false → RefusesDatagram meaning setup cookies from octets old table reason
    → RefusesInitial meaning setup cookies from octets old reason
initial_refused meaning setup cookies from octets old table reason other is = elim (refused_is meaning setup cookies from octets old table reason is) [
  | inl memory ↦ absurd (clash (is_want_of_memory reason) memory other)
  | inr initial ↦ initial
]

module _ (laws : Laws) (meaning : Meaning) (setup : Setup) (cookies : CookieSecrets) (from octets : Octets) (old other : Held) (same : held_content old ≡ held_content other) where
  cannot_here : (spi : ℕ) (reason : IkeFault) → CannotMake other spi reason → CannotMake old spi reason
  cannot_here spi (fault.Unread f) cannot = absurd cannot
  cannot_here spi (fault.Message f) cannot = absurd cannot
  cannot_here spi fault.Unprotected cannot = absurd cannot
  cannot_here spi fault.Crowded cannot = absurd cannot
  cannot_here spi fault.TableFull cannot = absurd cannot
  cannot_here spi fault.SpisSpent cannot = absurd cannot
  cannot_here spi fault.HalfOpenFull cannot = absurd cannot
  cannot_here spi fault.Busy cannot = absurd cannot
  cannot_here spi fault.NumbersSpent cannot = same_next old other same ∙ cannot
  cannot_here spi fault.BadFresh cannot = (subst (λ (n : ℕ). n < SERIAL_END) (sym (same_next old other same)) cannot.0, same_bad old.associations other.associations (same_list old other same) spi ∙ cannot.1)
  cannot_here spi (fault.Memory f) cannot = cannot

  -- an offer that is accepted is taken where an IKE SA can be made of it, and refused where it can't
  new_or_refused : (m : Message) (stepped : Stepped) (new : Held) (reason : IkeFault) (offer : OfferView) → TakesNew meaning setup cookies from octets m old stepped new → IsJudged meaning cookies other from m (Accepted offer)
      → CannotMake other setup.fresh.spi reason → is_want_of_memory reason ≡ true
  new_or_refused m stepped new reason offer is judged why =
      let judgement : is.judgement ≡ Accepted offer = one_judgement laws meaning setup old other same cookies from m is.judgement (Accepted offer) is.judged judged in
      let done : DoesJudgement meaning setup m.header.spi_i octets (Accepted offer) old stepped new = subst (λ (j : JudgementView). DoesJudgement meaning setup m.header.spi_i octets j old stepped new) judgement is.done in
      can_or_cannot old setup.fresh.spi reason done.can (cannot_here setup.fresh.spi reason why)

  at_or_refused : (m : Message) (o : Option ℕ) → o ≡ None → (stepped : Stepped) (new : Held) (reason : IkeFault) (offer : OfferView) → TakesRequestAt o meaning setup cookies from octets m old stepped new
      → IsJudged meaning cookies other from m (Accepted offer) → CannotMake other setup.fresh.spi reason → is_want_of_memory reason ≡ true
  at_or_refused m None first stepped new reason offer is judged why = new_or_refused m stepped new reason offer is judged why
  at_or_refused m (Some place) first stepped new reason offer is judged why = absurd (cc)

  sound_or_refused : (m : Message) (sound : Bool) → sound ≡ true → (stepped : Stepped) (new : Held) (reason : IkeFault) → TakesSound sound meaning setup cookies from octets m old stepped new
      → position (is_answered octets) other.associations ≡ None → (offer : OfferView) → IsJudged meaning cookies other from m (Accepted offer) → CannotMake other setup.fresh.spi reason → is_want_of_memory reason ≡ true
  sound_or_refused m true is_sound stepped new reason is first offer judged why =
      at_or_refused m (position (is_answered octets) old.associations) (same_answered old.associations other.associations (same_list old other same) octets ∙ first) stepped new reason offer is judged why
  sound_or_refused m false is_sound stepped new reason is first offer judged why = absurd (cc)

  read_or_refused : (table : Database) (m : Message) (initial : Bool) → initial ≡ true → (stepped : Stepped) (new : Held) (new_table : Database) (reason : IkeFault) → TakesRead initial meaning setup cookies from octets m old table stepped new new_table
      → is_sound_initial m.header ≡ true → position (is_answered octets) other.associations ≡ None → (offer : OfferView) → IsJudged meaning cookies other from m (Accepted offer) → CannotMake other setup.fresh.spi reason
      → is_want_of_memory reason ≡ true
  read_or_refused table m true is_initial stepped new new_table reason is sound first offer judged why =
      sound_or_refused m (is_sound_initial m.header) sound stepped new reason is.0 first offer judged why
  read_or_refused table m false is_initial stepped new new_table reason is sound first offer judged why = absurd (cc)

  initial_or_taken : (table : Database) (stepped : Stepped) (new : Held) (new_table : Database) (reason : IkeFault) → TakesDatagram meaning setup cookies from octets old table stepped new new_table
      → RefusesInitial meaning setup cookies from octets other reason → is_want_of_memory reason ≡ true
  initial_or_taken table stepped new new_table reason takes refuses = elim takes [
    | inl fails ↦ absurd (laws.messages.faultless refuses.message octets fails.reason refuses.spelled fails.is)
    | inr reads ↦
        let message : reads.message ≡ refuses.message = laws.messages.message reads.message refuses.message octets reads.spelled refuses.spelled in
        let done : TakesRead (is_initial_request refuses.message.header) meaning setup cookies from octets refuses.message old table stepped new new_table =
        subst (λ (m : Message). TakesRead (is_initial_request m.header) meaning setup cookies from octets m old table stepped new new_table) message reads.done in
        read_or_refused table refuses.message (is_initial_request refuses.message.header) refuses.initial stepped new new_table reason done refuses.sound refuses.first refuses.refused.offer refuses.refused.judged refuses.refused.why
  ]

  datagram_or_refused : (table another : Database) (stepped : Stepped) (new : Held) (new_table : Database) (reason : IkeFault) → TakesDatagram meaning setup cookies from octets old table stepped new new_table
      → RefusesDatagram meaning setup cookies from octets other another reason → is_want_of_memory reason ≡ true
  datagram_or_refused table another stepped new new_table reason takes refuses = elim (refused_is meaning setup cookies from octets other another reason refuses) [
    | inl memory ↦ memory
    | inr initial ↦ initial_or_taken table stepped new new_table reason takes initial
  ]

  one_datagram_refusal : (table another : Database) (one two : IkeFault) → is_want_of_memory one ≡ false → is_want_of_memory two ≡ false
      → RefusesDatagram meaning setup cookies from octets old table one → RefusesDatagram meaning setup cookies from octets other another two → one ≡ two
  one_datagram_refusal table another one two not_one not_two is also =
      let first = initial_refused meaning setup cookies from octets old table one not_one is in
      let second = initial_refused meaning setup cookies from octets other another two not_two also in
      one_hindrance old setup.fresh.spi one two (hinders old setup.fresh.spi one not_one first.refused.why) (hinders old setup.fresh.spi two not_two (cannot_here setup.fresh.spi two second.refused.why))

-- ---- orders

abbrev new_fault : ℕ → ℕ → Bool → Option IkeFault
new_fault held next bad =
    if nat_le ASSOCIATION_LIMIT held then Some fault.Crowded
    else if next == SERIAL_END then Some fault.NumbersSpent
    else if bad then Some fault.BadFresh
    else None

same_new_fault : (old other : Held) (spi : ℕ) → held_content old ≡ held_content other → new_association_fault old spi ≡ new_association_fault other spi
same_new_fault old other spi same =
    ap (λ (n : ℕ). new_fault n old.next (is_bad_spi spi old.associations)) (same_length old.associations other.associations (same_list old other same))
    ∙ ap (λ (n : ℕ). new_fault (length other.associations) n (is_bad_spi spi old.associations)) (same_next old other same)
    ∙ ap (new_fault (length other.associations) other.next) (same_bad old.associations other.associations (same_list old other same) spi)

same_beginning_fault : (o : Option Entry) (old other : Held) (spi : ℕ) → held_content old ≡ held_content other → beginning_fault_of o old spi ≡ beginning_fault_of o other spi
same_beginning_fault None old other spi same = refl
same_beginning_fault (Some entry) old other spi same = same_new_fault old other spi same

-- why the table gives no SPI
abbrev Withholds : Database → IkeFault → Type 0
Withholds table reason = ((reason ≡ fault.TableFull) × IsFull table) ⊎ ((reason ≡ fault.SpisSpent) × (¬ IsFull table) × IsSpent table)

withholds : (table : Database) (reason : IkeFault) → is_want_of_memory reason ≡ false → GivesNoSpi table reason → Withholds table reason
withholds table (fault.Unread f) other is = absurd is
withholds table (fault.Message f) other is = absurd is
withholds table fault.Unprotected other is = absurd is
withholds table fault.Crowded other is = absurd is
withholds table fault.TableFull other is = inl (refl, is)
withholds table fault.SpisSpent other is = inr (refl, is.0, is.1)
withholds table fault.HalfOpenFull other is = absurd is
withholds table fault.Busy other is = absurd is
withholds table fault.NumbersSpent other is = absurd is
withholds table fault.BadFresh other is = absurd is
withholds table (fault.Memory f) other is = absurd (cc)

one_withholding : (table another : Database) (one two : IkeFault) → table_content table ≡ table_content another → Withholds table one → Withholds another two → one ≡ two
one_withholding table another one two alike (inl is) (inl also) = is.0 ∙ sym also.0
one_withholding table another one two alike (inl is) (inr also) = absurd (also.1 (subst (λ (d : Database). IsFull d) alike is.1))
one_withholding table another one two alike (inr is) (inl also) = absurd (is.1 (subst (λ (d : Database). IsFull d) (sym alike) also.1))
one_withholding table another one two alike (inr is) (inr also) = is.0 ∙ sym also.0

given_or_not : (table another : Database) (reason : IkeFault) → table_content table ≡ table_content another → ¬ IsFull table → ¬ IsSpent table → GivesNoSpi another reason → is_want_of_memory reason ≡ true
given_or_not table another (fault.Unread f) alike not_full not_spent is = absurd is
given_or_not table another (fault.Message f) alike not_full not_spent is = absurd is
given_or_not table another fault.Unprotected alike not_full not_spent is = absurd is
given_or_not table another fault.Crowded alike not_full not_spent is = absurd is
given_or_not table another fault.TableFull alike not_full not_spent is = absurd (not_full (subst (λ (d : Database). IsFull d) (sym alike) is))
given_or_not table another fault.SpisSpent alike not_full not_spent is = absurd (not_spent (subst (λ (d : Database). IsSpent d) (sym alike) is.1))
given_or_not table another fault.HalfOpenFull alike not_full not_spent is = absurd is
given_or_not table another fault.Busy alike not_full not_spent is = absurd is
given_or_not table another fault.NumbersSpent alike not_full not_spent is = absurd is
given_or_not table another fault.BadFresh alike not_full not_spent is = absurd is
given_or_not table another (fault.Memory f) alike not_full not_spent is = refl

same_reason : (one two : IkeFault) → Some one ≡ Some two → one ≡ two
same_reason one two same = cc

begun_or_refused : Laws → (meaning : Meaning) (setup : Setup) (place : ℕ) (old other : Held) (table another : Database) (stepped : Stepped) (new : Held) (new_table : Database) (reason : IkeFault)
    → held_content old ≡ held_content other → table_content table ≡ table_content another
    → BeginsBy meaning setup place old table stepped new new_table → RefusesBeginning setup.entries setup.fresh place other another reason → is_want_of_memory reason ≡ true
begun_or_refused laws meaning setup place old other table another stepped new new_table reason same alike starts refuses =
    let fault_same = same_beginning_fault (protecting_entry setup.entries place) old other setup.fresh.spi same in
    let between : table_content starts.between ≡ table_content another = laws.tables.prepared table starts.between starts.room ∙ alike in
    elim refuses [
      | inl is ↦ absurd (cc (starts.allowed.none, fault_same, is))
      | inr is ↦ given_or_not starts.between another reason between starts.done.not_full starts.done.not_spent is.1
    ]

start_or_refused : Laws → (meaning : Meaning) (setup : Setup) (ike : Option ℕ) (place : ℕ) (old other : Held) (table another : Database) (stepped : Stepped) (new : Held) (new_table : Database) (reason : IkeFault)
    → held_content old ≡ held_content other → table_content table ≡ table_content another
    → Starts meaning setup ike place old table stepped new new_table → RefusesStart setup.entries setup.fresh ike place other another reason → is_want_of_memory reason ≡ true
start_or_refused laws meaning setup None place old other table another stepped new new_table reason same alike starts refuses =
    begun_or_refused laws meaning setup place old other table another stepped new new_table reason same alike starts refuses
start_or_refused laws meaning setup (Some ike) place old other table another stepped new new_table reason same alike starts refuses =
    further_or_refused meaning.body_of setup ike (local_side starts.entry) (remote_side starts.entry) old other table another stepped new new_table reason same alike starts.asks
    (subst (λ (o : Option Entry). RefusesFurtherBy o ike other another reason) starts.protects refuses)

one_beginning_refusal : (entries : List Entry) (fresh : Fresh) (place : ℕ) (old other : Held) (table another : Database) (one two : IkeFault)
    → held_content old ≡ held_content other → table_content table ≡ table_content another → is_want_of_memory one ≡ false → is_want_of_memory two ≡ false
    → RefusesBeginning entries fresh place old table one → RefusesBeginning entries fresh place other another two → one ≡ two
one_beginning_refusal entries fresh place old other table another one two same alike not_one not_two refuses also =
    let fault_same = same_beginning_fault (protecting_entry entries place) old other fresh.spi same in
    elim refuses [
      | inl is ↦ elim also [
        | inl too ↦ same_reason one two (sym is ∙ fault_same ∙ too)
        | inr too ↦ absurd (cc (is, fault_same, too.0))
      ]
      | inr is ↦ elim also [
        | inl too ↦ absurd (cc (is.0, fault_same, too))
        | inr too ↦ one_withholding table another one two alike (withholds table one not_one is.1) (withholds another two not_two too.1)
      ]
    ]

one_start_refusal : (entries : List Entry) (fresh : Fresh) (ike : Option ℕ) (place : ℕ) (old other : Held) (table another : Database) (one two : IkeFault)
    → held_content old ≡ held_content other → table_content table ≡ table_content another → is_want_of_memory one ≡ false → is_want_of_memory two ≡ false
    → RefusesStart entries fresh ike place old table one → RefusesStart entries fresh ike place other another two → one ≡ two
one_start_refusal entries fresh None place old other table another one two same alike not_one not_two refuses also =
    one_beginning_refusal entries fresh place old other table another one two same alike not_one not_two refuses also
one_start_refusal entries fresh (Some ike) place old other table another one two same alike not_one not_two refuses also =
    one_further_refusal (protecting_entry entries place) ike old other table another one two same alike not_one not_two refuses also

-- ---- secrets

secret_or_refused : (old other : Machine) (reason : IkeFault) → machine_content old ≡ machine_content other → old.cookies.version + 1 < 2 ^ 32 → RefusesSecret other reason → is_want_of_memory reason ≡ true
secret_or_refused old other (fault.Unread f) same left is = absurd is
secret_or_refused old other (fault.Message f) same left is = absurd is
secret_or_refused old other fault.Unprotected same left is = absurd is
secret_or_refused old other fault.Crowded same left is = absurd is
secret_or_refused old other fault.TableFull same left is = absurd is
secret_or_refused old other fault.SpisSpent same left is = absurd is
secret_or_refused old other fault.HalfOpenFull same left is = absurd is
secret_or_refused old other fault.Busy same left is = absurd is
secret_or_refused old other fault.NumbersSpent same left is = absurd (is (subst (λ (m : Machine). m.cookies.version + 1 < 2 ^ 32) same left))
secret_or_refused old other fault.BadFresh same left is = absurd is
secret_or_refused old other (fault.Memory f) same left is = absurd is

secret_refused : (old : Machine) (reason : IkeFault) → RefusesSecret old reason → reason ≡ fault.NumbersSpent
secret_refused old (fault.Unread f) is = absurd is
secret_refused old (fault.Message f) is = absurd is
secret_refused old fault.Unprotected is = absurd is
secret_refused old fault.Crowded is = absurd is
secret_refused old fault.TableFull is = absurd is
secret_refused old fault.SpisSpent is = absurd is
secret_refused old fault.HalfOpenFull is = absurd is
secret_refused old fault.Busy is = absurd is
secret_refused old fault.NumbersSpent is = refl
secret_refused old fault.BadFresh is = absurd is
secret_refused old (fault.Memory f) is = absurd is

-- ---- steps

pub step_or_refused : Laws → (meaning : Meaning) (entries : List Entry) (given : InputView) (old other new : Machine) (table another new_table : Database) (stepped : Stepped) (reason : IkeFault)
    → machine_content old ≡ machine_content other → table_content table ≡ table_content another
    → Steps meaning entries given old table stepped new new_table → Refuses meaning entries given other another reason → is_want_of_memory reason ≡ true
step_or_refused laws meaning entries (steps.Message from octets fresh) old other new table another new_table stepped reason same alike is also =
    let by_setup : RefusesDatagram meaning (setup_at old entries fresh) other.cookies from octets other.held another reason =
    subst (λ (s : Setup). RefusesDatagram meaning s other.cookies from octets other.held another reason) (same_setup old other entries fresh same) also in
    let refuses : RefusesDatagram meaning (setup_at old entries fresh) old.cookies from octets other.held another reason =
    subst (λ (c : CookieSecrets). RefusesDatagram meaning (setup_at old entries fresh) c from octets other.held another reason) (sym (ap (λ (m : Machine). m.cookies) same)) by_setup in
    datagram_or_refused laws meaning (setup_at old entries fresh) old.cookies from octets old.held other.held (ap (λ (m : Machine). m.held) same) table another stepped new.held new_table reason is.1 refuses
step_or_refused laws meaning entries (Start ike place fresh) old other new table another new_table stepped reason same alike is also =
    start_or_refused laws meaning (setup_at old entries fresh) ike place old.held other.held table another stepped new.held new_table reason (ap (λ (m : Machine). m.held) same) alike is.1 also
step_or_refused laws meaning entries (steps.Order what fresh) old other new table another new_table stepped reason same alike is also =
    asked_or_refused meaning.body_of (setup_at old entries fresh) what old.held other.held table another stepped new.held new_table reason (ap (λ (m : Machine). m.held) same) alike is.1 also
step_or_refused laws meaning entries (steps.Tick moment) old other new table another new_table stepped reason same alike is also = moment_refused (max other.moment moment) other.held.associations reason also
step_or_refused laws meaning entries (Secret secret) old other new table another new_table stepped reason same alike is also = secret_or_refused old other reason same is.left also

pub one_refusal : Laws → (meaning : Meaning) (entries : List Entry) (given : InputView) (old other : Machine) (table another : Database) (one two : IkeFault)
    → machine_content old ≡ machine_content other → table_content table ≡ table_content another → is_want_of_memory one ≡ false → is_want_of_memory two ≡ false
    → Refuses meaning entries given old table one → Refuses meaning entries given other another two → one ≡ two
one_refusal laws meaning entries (steps.Message from octets fresh) old other table another one two same alike not_one not_two is also =
    let by_setup : RefusesDatagram meaning (setup_at old entries fresh) other.cookies from octets other.held another two =
    subst (λ (s : Setup). RefusesDatagram meaning s other.cookies from octets other.held another two) (same_setup old other entries fresh same) also in
    let refuses : RefusesDatagram meaning (setup_at old entries fresh) old.cookies from octets other.held another two =
    subst (λ (c : CookieSecrets). RefusesDatagram meaning (setup_at old entries fresh) c from octets other.held another two) (sym (ap (λ (m : Machine). m.cookies) same)) by_setup in
    one_datagram_refusal laws meaning (setup_at old entries fresh) old.cookies from octets old.held other.held (ap (λ (m : Machine). m.held) same) table another one two not_one not_two is refuses
one_refusal laws meaning entries (Start ike place fresh) old other table another one two same alike not_one not_two is also =
    one_start_refusal entries fresh ike place old.held other.held table another one two (ap (λ (m : Machine). m.held) same) alike not_one not_two is also
one_refusal laws meaning entries (steps.Order what fresh) old other table another one two same alike not_one not_two is also =
    one_asking_refusal what old.held other.held table another one two (ap (λ (m : Machine). m.held) same) alike not_one not_two is also
one_refusal laws meaning entries (steps.Tick moment) old other table another one two same alike not_one not_two is also =
    absurd (clash (is_want_of_memory one) (moment_refused (max old.moment moment) old.held.associations one is) not_one)
one_refusal laws meaning entries (Secret secret) old other table another one two same alike not_one not_two is also = secret_refused old one is ∙ sym (secret_refused other two also)
