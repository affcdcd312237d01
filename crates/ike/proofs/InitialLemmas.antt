-- The request of IKE_SA_INIT that comes again, and which one made an IKE SA half open.
use Rattle.std.proofs.Common.{◌≡◌, ◌≤◌, inl, inr, ℕ, true, max, List, Option, Some, None, ap, refl, subst, sym, ◌∙◌, arith}
use Rattle.std.specs.Cmp.Lexicographic.{same_text}
use Rattle.std.specs.List.{position, slice_get}
use Rattle.std.specs.Prelude.{slice_index_or, slice_set}
use Rattle.std.proofs.lemmas.Bool.Decides.{eqb_tells, leb_tells}
use Rattle.std.proofs.lemmas.List.Quantifiers.{position-Some}
use Rattle.std.proofs.lemmas.Option.{slice_get-get_or}
use Rattle.base.specs.Octets.{Octets}
use Rattle.wire.specs.declared.message.Message.{Message}
use Rattle.policy.specs.declared.entry.Entry.{Entry}
use Rattle.sadb.specs.Database.{Database}
use Rattle.sa_init.specs.Cookies.{CookieSecrets}
use Rattle.association.specs.declared.phase.Association.{Association}
use Rattle.association.specs.declared.phase.HalfOpen.{HalfOpen}
use Rattle.association.specs.declared.phase.InitSent.{InitSent}
use Rattle.association.specs.declared.phase.Phase.TheVariants as phase
use Rattle.setup.specs.Configs.{Setup}
use Rattle.effects.specs.Keeping.{kept_reply}
use Rattle.effects.specs.Taking.{Meaning}
use Rattle.ike.specs.Machines.{association_of, setup_at, Held, Machine}
use Rattle.ike.specs.Receiving.{is_answered, is_answered_phase, is_initial_request, same_octets, with_next, IsInitialRequest, TakesDatagram, TakesRead, TakesRequestAt, TakesSound}
use Rattle.ike.specs.Requests.{first_requests, IsAdmitted, IsOfOctets, OnlySays, OpensAsRequest}
use Rattle.ike.specs.Soundness.{AreSound, At, IsSoundMachine}
use Rattle.ike.specs.Faults.{is_want_of_memory}
use Rattle.ike.specs.Steps.{InputView, Refuses, Steps}
use Rattle.ike.specs.Steps as steps
use Rattle.ike.specs.declared.fault.IkeFault.{IkeFault}
use Rattle.ike.specs.declared.output.IkeOutput.TheVariants as output
use Rattle.ike.specs.declared.output.Stepped.{Stepped}
use Rattle.ike.proofs.DeterminedRefusals.{refused_is}
use Rattle.ike.proofs.AskingLemmas.{probed_stood}
use Rattle.ike.proofs.RepeatLemmas.{none_passes, opened_of, same_octets_itself}
use Rattle.ike.proofs.RequestLemmas.{finds_of, only_says, some_none, yes_no, Laws, Quiet}
use Rattle.ike.proofs.SerialLemmas.{grown_found, grown_stands, replaced_found, same_one, sound_found}
use Rattle.ike.proofs.TickLemmas.{found_at, ticked_stood, TicksHold}
use Rattle.ike.proofs.WayLemmas.{admitted, asked_one, datagram_way, further_one, probed, rested, started, step_way, took, Way}

-- ---- it comes again

same_reply : (one other : Octets) → Some one ≡ Some other → one ≡ other
same_reply one other is = cc

opened_same : (one other : HalfOpen) → phase.HalfOpen one ≡ phase.HalfOpen other → one ≡ other
opened_same one other is = cc

-- two half-open IKE SAs of one request are one
one_opened : (held : Held) (table : Database) (k place : ℕ) (c a : Association) (one opened : HalfOpen) → AreSound held table → At held k c → At held place a
    → c.phase ≡ phase.HalfOpen one → a.phase ≡ phase.HalfOpen opened → one.request ≡ opened.request → c ≡ a
one_opened held table k place c a one opened sound there here was is same = elim (eqb_tells k place) [
  | inl (yes_it_is, at_one) ↦ same_one c a (sym there ∙ ap (λ n. slice_get held.associations n) at_one ∙ here)
  | inr (no_it_is_not, apart) ↦ elim (leb_tells place k) [
    | inl (above, at_least) ↦ absurd ((sound.apart place k a c (omega (arith, apart, at_least)) here there).asked opened one is was (sym same))
    | inr (under, less) ↦ absurd ((sound.apart k place c a less there here).asked one opened was is same)
  ]
]

first_repeats : (held : Held) (table : Database) (place : ℕ) (a : Association) (opened : HalfOpen) (stepped : Stepped) (o : Option ℕ) (meaning : Meaning) (setup : Setup) (cookies : CookieSecrets) (from : Octets) (m : Message) (new : Held)
    → AreSound held table → At held place a → a.phase ≡ phase.HalfOpen opened → position (is_answered opened.request) held.associations ≡ o
    → TakesRequestAt o meaning setup cookies from opened.request m held stepped new → stepped.output ≡ output.Repeat opened.reply
first_repeats held table place a opened stepped None meaning setup cookies from m new sound here is first takes =
    absurd (yes_no (is_answered opened.request a) (ap (is_answered_phase opened.request) is ∙ same_octets_itself opened.request)
    (none_passes (is_answered opened.request) held.associations first place a here))
first_repeats held table place a opened stepped (Some k) meaning setup cookies from m new sound here is first takes =
    let r = takes.0 in
    let by = position-Some (is_answered opened.request) held.associations k a first in
    let c : Association = slice_index_or held.associations k a in
    let stands : At held k c = slice_get-get_or held.associations k a by.0 in
    let was = opened_of opened.request c.phase by.1 in
    let same : was.0.request ≡ opened.request = same_text was.0.request opened.request (sym (sym (ap (is_answered_phase opened.request) was.1) ∙ by.1)) in
    let one : c ≡ a = one_opened held table k place c a was.0 opened sound stands here was.1 is same in
    let there : r.association ≡ a = same_one r.association c (sym r.there ∙ stands) ∙ one in
    let reply : r.reply ≡ opened.reply = same_reply r.reply opened.reply (sym r.kept ∙ ap (λ (x : Association). kept_reply x.phase) there ∙ ap kept_reply is) in
    ap (λ (s : Stepped). s.output) r.said ∙ ap output.Repeat reply

pub step_repeats_first : Laws → Quiet → (meaning : Meaning) (entries : List Entry) (input : InputView) (old : Machine) (table : Database) (stepped : Stepped) (new : Machine) (new_table : Database)
    (serial : ℕ) (a : Association) (opened : HalfOpen) → IsSoundMachine old table → Steps meaning entries input old table stepped new new_table → association_of serial old.held.associations ≡ Some a
    → a.phase ≡ phase.HalfOpen opened → IsOfOctets input opened.request → OnlySays (output.Repeat opened.reply) old table stepped new new_table
step_repeats_first laws quiet meaning entries (steps.Message from octets fresh) old table stepped new new_table serial a opened sound is stands half same =
    let f = found_at old.held.associations serial a stands in
    let setup = setup_at old entries fresh in
    let asked : IsInitialRequest opened.request = (sound.held.each f.place a f.there).asked opened half in
    let taken : TakesDatagram meaning setup old.cookies from opened.request old.held table stepped new.held new_table =
    subst (λ (o : Octets). TakesDatagram meaning setup old.cookies from o old.held table stepped new.held new_table) same is.1 in
    only_says quiet meaning entries (steps.Message from octets fresh) old table stepped new new_table (output.Repeat opened.reply) is
    (elim taken [
      | inl unread ↦ absurd (laws.faultless asked.message opened.request unread.reason asked.spelled unread.is)
      | inr read ↦
          let one : read.message ≡ asked.message = laws.message read.message asked.message opened.request read.spelled asked.spelled in
          let by_header : TakesRead (is_initial_request asked.message.header) meaning setup old.cookies from opened.request asked.message old.held table stepped new.held new_table =
          subst (λ (x : Message). TakesRead (is_initial_request x.header) meaning setup old.cookies from opened.request x old.held table stepped new.held new_table) one read.done in
          let initial : TakesRead true meaning setup old.cookies from opened.request asked.message old.held table stepped new.held new_table =
          subst (λ b. TakesRead b meaning setup old.cookies from opened.request asked.message old.held table stepped new.held new_table) asked.initial by_header in
          let sound_one : TakesSound true meaning setup old.cookies from opened.request asked.message old.held stepped new.held =
          subst (λ b. TakesSound b meaning setup old.cookies from opened.request asked.message old.held stepped new.held) asked.sound initial.0 in
          first_repeats old.held table f.place a opened stepped (position (is_answered opened.request) old.held.associations) meaning setup old.cookies from asked.message new.held sound.held f.there half refl sound_one
    ]) tt
step_repeats_first laws quiet meaning entries (steps.Start ike place fresh) old table stepped new new_table serial a opened sound is stands half same = absurd same
step_repeats_first laws quiet meaning entries (steps.Order what fresh) old table stepped new new_table serial a opened sound is stands half same = absurd same
step_repeats_first laws quiet meaning entries (steps.Secret secret) old table stepped new new_table serial a opened sound is stands half same = absurd same
step_repeats_first laws quiet meaning entries (steps.Tick moment) old table stepped new new_table serial a opened sound is stands half same = absurd same

-- ---- which request made it half open

-- an IKE SA came to be held
record Came (serial : ℕ) (old new : Held) (b : Association) : Type 0 where
  none : association_of serial old.associations ≡ None
  there : association_of serial new.associations ≡ Some b

init_opened : (sent : InitSent) (opened : HalfOpen) → phase.InitSent sent ≡ phase.HalfOpen opened → ⊥
init_opened sent opened is = cc

-- a change of one that is held brings none
replaced_none : (old : Held) (table : Database) (place : ℕ) (a c : Association) (new : Held) (serial : ℕ) (b : Association) → AreSound old table → At old place a → c.serial ≡ a.serial
    → new ≡ record old { associations = slice_set old.associations place c } → Came serial old new b → ⊥
replaced_none old table place a c new serial b sound there same content came = elim (eqb_tells serial a.serial) [
  | inl (one, here) ↦
      some_none a (sym came.none ∙ subst (λ n. association_of n old.associations ≡ Some a) (sym here) (sound_found old table place a sound there))
  | inr (none, apart) ↦
      some_none b (sym came.none ∙ sym (ap (λ (h : Held). association_of serial h.associations) content ∙ replaced_found old.associations place a c serial there apart same) ∙ came.there)
]

still_none : (old new : Held) (serial : ℕ) (b : Association) → new ≡ old → Came serial old new b → ⊥
still_none old new serial b same came = some_none b (sym came.none ∙ sym (ap (λ (h : Held). association_of serial h.associations) same) ∙ came.there)

-- the one that came is the one with the next serial
grown_one : (old : Held) (table : Database) (c : Association) (new : Held) (serial : ℕ) (b : Association) → AreSound old table → c.serial ≡ old.next → new ≡ with_next old c → Came serial old new b → b ≡ c
grown_one old table c new serial b sound next content came = elim (eqb_tells serial c.serial) [
  | inl (one, here) ↦
      let stands : association_of serial (with_next old c).associations ≡ Some c = subst (λ n. association_of n (with_next old c).associations ≡ Some c) (sym here) (grown_stands old table c sound next) in
      same_one b c (sym came.there ∙ ap (λ (h : Held). association_of serial h.associations) content ∙ stands)
  | inr (none, apart) ↦
      absurd (some_none b (sym came.none ∙ sym (grown_found old.associations c serial apart) ∙ sym (ap (λ (h : Held). association_of serial h.associations) content) ∙ came.there))
]

begun_opened : (old : Held) (table : Database) (c : Association) (sent : InitSent) (new : Held) (serial : ℕ) (b : Association) (opened : HalfOpen) → AreSound old table → c.serial ≡ old.next → c.phase ≡ phase.InitSent sent
    → new ≡ with_next old c → Came serial old new b → b.phase ≡ phase.HalfOpen opened → ⊥
begun_opened old table c sent new serial b opened sound next was content came half =
    init_opened sent opened (sym was ∙ sym (ap (λ (x : Association). x.phase) (grown_one old table c new serial b sound next content came)) ∙ half)

datagram_admits : (laws : Laws) (meaning : Meaning) (setup : Setup) (octets : Octets) (old : Held) (table : Database) (stepped : Stepped) (new : Held) (new_table : Database) (serial : ℕ) (b : Association) (opened : HalfOpen)
    → AreSound old table → Came serial old new b → b.phase ≡ phase.HalfOpen opened → Way meaning setup octets old table stepped new new_table
    → (octets ≡ opened.request) × (stepped.output ≡ output.Reply opened.reply None)
datagram_admits laws meaning setup octets old table stepped new new_table serial b opened sound came half (rested is) = absurd (still_none old new serial b is.same came)
datagram_admits laws meaning setup octets old table stepped new new_table serial b opened sound came half (took is) =
    let t = is.takes in
    let stays = laws.itself meaning setup t.association table octets is.message t.effect t.changed new_table t.takes in
    absurd (replaced_none old table is.place t.association t.changed new serial b sound t.there stays.serial t.content came)
datagram_admits laws meaning setup octets old table stepped new new_table serial b opened sound came half (admitted is) =
    let a = is.admits in
    let one : b ≡ a.admitted.association = grown_one old table a.admitted.association new serial b sound (ap (λ (x : Association). x.serial) a.admits.content) a.content came in
    let same : record { keys = a.admits.agreed.record; request = octets; reply = a.admits.agreed.octets; made = setup.moment } ≡ opened =
    opened_same _ opened (sym (ap (λ (x : Association). x.phase) (one ∙ a.admits.content)) ∙ half) in (
      ap (λ (x : HalfOpen). x.request) same,
      ap (λ (s : Stepped). s.output) a.said ∙ ap (λ o. output.Reply o None) (a.admits.octets ∙ ap (λ (x : HalfOpen). x.reply) same),
    )
datagram_admits laws meaning setup octets old table stepped new new_table serial b opened sound came half (started is) =
    absurd (begun_opened old table _ _ new serial b opened sound refl refl is.starts.done.content came half)
datagram_admits laws meaning setup octets old table stepped new new_table serial b opened sound came half (probed is) =
    let was = probed_stood meaning.body_of setup is.ike old stepped new is.probes table serial b sound came.there in
    absurd (some_none was.was (sym came.none ∙ was.stood))

pub step_admits : Laws → TicksHold → (meaning : Meaning) (entries : List Entry) (input : InputView) (old : Machine) (table : Database) (stepped : Stepped) (new : Machine) (new_table : Database)
    (serial : ℕ) (b : Association) (opened : HalfOpen) → IsSoundMachine old table → Steps meaning entries input old table stepped new new_table
    → association_of serial old.held.associations ≡ None → association_of serial new.held.associations ≡ Some b → b.phase ≡ phase.HalfOpen opened → IsAdmitted input opened stepped
step_admits laws ticks meaning entries (steps.Message from octets fresh) old table stepped new new_table serial b opened sound is none there half =
    let by = datagram_admits laws meaning (setup_at old entries fresh) octets old.held table stepped new.held new_table serial b opened sound.held (record { none = none; there = there }) half
    (datagram_way meaning (setup_at old entries fresh) old.cookies from octets old.held table stepped new.held new_table is.1) in
    record { request = by.0; said = by.1 }
step_admits laws ticks meaning entries (steps.Start None place fresh) old table stepped new new_table serial b opened sound is none there half =
    absurd (begun_opened old.held table _ _ new.held serial b opened sound.held refl refl is.1.done.content (record { none = none; there = there }) half)
step_admits laws ticks meaning entries (steps.Start (Some asker) place fresh) old table stepped new new_table serial b opened sound is none there half =
    let one = further_one meaning (setup_at old entries fresh) asker place old.held table stepped new.held new_table is.1 in
    let was = probed_stood meaning.body_of (setup_at old entries fresh) one.ike old.held stepped new.held one.probes table serial b sound.held there in
    absurd (some_none was.was (sym none ∙ was.stood))
step_admits laws ticks meaning entries (steps.Order what fresh) old table stepped new new_table serial b opened sound is none there half =
    let one = asked_one meaning (setup_at old entries fresh) what old.held table stepped new.held new_table is.1 in
    let was = probed_stood meaning.body_of (setup_at old entries fresh) one.ike old.held stepped new.held one.probes table serial b sound.held there in
    absurd (some_none was.was (sym none ∙ was.stood))
step_admits laws ticks meaning entries (steps.Secret secret) old table stepped new new_table serial b opened sound is none there half =
    absurd (still_none old.held new.held serial b (ap (λ (m : Machine). m.held) is.content) (record { none = none; there = there }))
step_admits laws ticks meaning entries (steps.Tick moment) old table stepped new new_table serial b opened sound is none there half =
    let t = is.takes in
    let was = ticked_stood (max old.moment moment) old.held new.held table serial b sound.held (ticks (max old.moment moment) old.held.associations table t.ticked new.held.associations new_table t.ticks) there in
    absurd (some_none was.was (sym none ∙ was.stood))

-- ---- what is refused

pub opens_unrefused : Laws → (meaning : Meaning) (entries : List Entry) (input : InputView) (machine : Machine) (table : Database) (reason : IkeFault) (serial : ℕ) (a : Association) (number : ℕ) → IsSoundMachine machine table
    → association_of serial machine.held.associations ≡ Some a → OpensAsRequest meaning input a number → Refuses meaning entries input machine table reason → is_want_of_memory reason ≡ true
opens_unrefused laws meaning entries (steps.Message from octets fresh) machine table reason serial a number sound stands opens is =
    let o = opens.1 in
    let f = finds_of machine.held table serial a meaning.plain_of octets opens.0 number sound.held stands o in
    elim (refused_is meaning (setup_at machine entries fresh) machine.cookies from octets machine.held table reason is) [
      | inl memory ↦ memory
      | inr refused ↦
          let one : refused.message ≡ o.message = laws.message refused.message o.message octets refused.spelled o.spelled in
          absurd (yes_no (is_initial_request o.message.header) (ap (λ (x : Message). is_initial_request x.header) (sym one) ∙ refused.initial) f.not_initial)
    ]
opens_unrefused laws meaning entries (steps.Start ike place fresh) machine table reason serial a number sound stands opens is = absurd opens
opens_unrefused laws meaning entries (steps.Order what fresh) machine table reason serial a number sound stands opens is = absurd opens
opens_unrefused laws meaning entries (steps.Secret secret) machine table reason serial a number sound stands opens is = absurd opens
opens_unrefused laws meaning entries (steps.Tick moment) machine table reason serial a number sound stands opens is = absurd opens

pub first_unrefused : (meaning : Meaning) (entries : List Entry) (input : InputView) (machine : Machine) (table : Database) (reason : IkeFault) (serial : ℕ) (a : Association) (opened : HalfOpen)
    → association_of serial machine.held.associations ≡ Some a → a.phase ≡ phase.HalfOpen opened → IsOfOctets input opened.request → Refuses meaning entries input machine table reason → is_want_of_memory reason ≡ true
first_unrefused meaning entries (steps.Message from octets fresh) machine table reason serial a opened stands half same is =
    let f = found_at machine.held.associations serial a stands in
    elim (refused_is meaning (setup_at machine entries fresh) machine.cookies from octets machine.held table reason is) [
      | inl memory ↦ memory
      | inr refused ↦
          absurd (yes_no (is_answered octets a)
          (ap (is_answered_phase octets) half ∙ ap (λ o. same_octets o octets) (sym same) ∙ same_octets_itself octets)
          (none_passes (is_answered octets) machine.held.associations refused.first f.place a f.there))
    ]
first_unrefused meaning entries (steps.Start ike place fresh) machine table reason serial a opened stands half same is = absurd same
first_unrefused meaning entries (steps.Order what fresh) machine table reason serial a opened stands half same is = absurd same
first_unrefused meaning entries (steps.Secret secret) machine table reason serial a opened stands half same is = absurd same
first_unrefused meaning entries (steps.Tick moment) machine table reason serial a opened stands half same is = absurd same

-- ---- serials

-- one that comes has the next serial, and what is in effect as it begins
record Begins (old : Held) (serial : ℕ) (b : Association) : Type 0 where
  next : serial ≡ old.next
  requests : b.incoming ≡ first_requests b.role

begins_by : (old : Held) (table : Database) (c : Association) (new : Held) (serial : ℕ) (b : Association) → AreSound old table → c.serial ≡ old.next → c.incoming ≡ first_requests c.role → new ≡ with_next old c
    → Came serial old new b → Begins old serial b
begins_by old table c new serial b sound next requests content came =
    let one = grown_one old table c new serial b sound next content came in
    record {
      next = sym (found_at new.associations serial b came.there).serial_is ∙ ap (λ (x : Association). x.serial) one ∙ next;
      requests = subst (λ (x : Association). x.incoming ≡ first_requests x.role) (sym one) requests;
    }

datagram_next : (laws : Laws) (meaning : Meaning) (setup : Setup) (octets : Octets) (old : Held) (table : Database) (stepped : Stepped) (new : Held) (new_table : Database) (serial : ℕ) (b : Association)
    → AreSound old table → Came serial old new b → Way meaning setup octets old table stepped new new_table → Begins old serial b
datagram_next laws meaning setup octets old table stepped new new_table serial b sound came (rested is) = absurd (still_none old new serial b is.same came)
datagram_next laws meaning setup octets old table stepped new new_table serial b sound came (took is) =
    let t = is.takes in
    let stays = laws.itself meaning setup t.association table octets is.message t.effect t.changed new_table t.takes in
    absurd (replaced_none old table is.place t.association t.changed new serial b sound t.there stays.serial t.content came)
datagram_next laws meaning setup octets old table stepped new new_table serial b sound came (admitted is) =
    let a = is.admits in
    begins_by old table a.admitted.association new serial b sound (ap (λ (x : Association). x.serial) a.admits.content)
    (subst (λ (x : Association). x.incoming ≡ first_requests x.role) (sym a.admits.content) refl) a.content came
datagram_next laws meaning setup octets old table stepped new new_table serial b sound came (started is) = begins_by old table _ new serial b sound refl refl is.starts.done.content came
datagram_next laws meaning setup octets old table stepped new new_table serial b sound came (probed is) =
    let was = probed_stood meaning.body_of setup is.ike old stepped new is.probes table serial b sound came.there in
    absurd (some_none was.was (sym came.none ∙ was.stood))

way_rises : (meaning : Meaning) (setup : Setup) (octets : Octets) (old : Held) (table : Database) (stepped : Stepped) (new : Held) (new_table : Database) → Way meaning setup octets old table stepped new new_table → old.next ≤ new.next
way_rises meaning setup octets old table stepped new new_table (rested is) = omega (arith, ap (λ (h : Held). h.next) is.same)
way_rises meaning setup octets old table stepped new new_table (took is) = omega (arith, ap (λ (h : Held). h.next) is.takes.content)
way_rises meaning setup octets old table stepped new new_table (admitted is) = omega (arith, ap (λ (h : Held). h.next) is.admits.content)
way_rises meaning setup octets old table stepped new new_table (started is) = omega (arith, ap (λ (h : Held). h.next) is.starts.done.content)
way_rises meaning setup octets old table stepped new new_table (probed is) = omega (arith, ap (λ (h : Held). h.next) is.probes.content)

pub step_next : Laws → TicksHold → (meaning : Meaning) (entries : List Entry) (input : InputView) (old : Machine) (table : Database) (stepped : Stepped) (new : Machine) (new_table : Database)
    (serial : ℕ) (b : Association) → IsSoundMachine old table → Steps meaning entries input old table stepped new new_table
    → association_of serial old.held.associations ≡ None → association_of serial new.held.associations ≡ Some b → (serial ≡ old.held.next) × (b.incoming ≡ first_requests b.role)
step_next laws ticks meaning entries input old table stepped new new_table serial b sound is none there = elim (step_way meaning entries input old table stepped new new_table is) [
  | inl w ↦
      let begins = datagram_next laws meaning w.setup w.octets old.held table stepped new.held new_table serial b sound.held (record { none = none; there = there }) w.way in
      (begins.next, begins.requests)
  | inr passes ↦
      let t = passes.takes in
      let was = ticked_stood passes.now old.held new.held table serial b sound.held (ticks passes.now old.held.associations table t.ticked new.held.associations new_table t.ticks) there in
      absurd (some_none was.was (sym none ∙ was.stood))
]

pub step_rises : (meaning : Meaning) (entries : List Entry) (input : InputView) (old : Machine) (table : Database) (stepped : Stepped) (new : Machine) (new_table : Database)
    → Steps meaning entries input old table stepped new new_table → old.held.next ≤ new.held.next
step_rises meaning entries input old table stepped new new_table is = elim (step_way meaning entries input old table stepped new new_table is) [
  | inl w ↦ way_rises meaning w.setup w.octets old.held table stepped new.held new_table w.way
  | inr passes ↦ omega (arith, passes.takes.next)
]
