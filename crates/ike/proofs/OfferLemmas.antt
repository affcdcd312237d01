-- What the answer to a datagram takes of the offer in it.
use Rattle.std.proofs.Common.{◌≡◌, inl, inr, ℕ, zero, suc, arith, Bool, true, false, List, Option, Some, None, Contains, Result, Ok, Err, ap, refl, subst, sym, ◌∙◌}
use Rattle.std.specs.List.{position}
use Rattle.base.specs.Octets.{Octets}
use Rattle.policy.specs.declared.entry.Entry.{Entry}
use Rattle.suite.specs.declared.fresh.Fresh.{Fresh}
use Rattle.suite.specs.declared.sealer.Cipher.{Cipher}
use Rattle.wire.specs.Messages.{Spells, SpellsPlainly}
use Rattle.wire.specs.declared.message.Message.{Message}
use Rattle.wire.specs.declared.payload.Payload.{Payload}
use Rattle.wire.specs.declared.payload.Payload.TheVariants.{Sa}
use Rattle.wire.specs.declared.proposal.Proposal.{Proposal}
use Rattle.exchange.specs.declared.notices.Notice.{Notice}
use Rattle.sa_init.specs.Messages.{notice_message}
use Rattle.sadb.specs.Database.{Database}
use Rattle.sa_init.specs.Cookies.{CookieSecrets}
use Rattle.sa_init.specs.Judging.{Accepted, Answered, Full, Incomplete, IsJudgement, JudgementView, OfferView}
use Rattle.sa_init.specs.declared.judging.Sender.{Sender}
use Rattle.association.specs.Finding.{place_meant}
use Rattle.association.specs.declared.fault.MessageFault.{MessageFault}
use Rattle.association.specs.declared.phase.Association.{Association}
use Rattle.association.specs.Admitting.{Admits}
use Rattle.setup.specs.Configs.{Setup}
use Rattle.association.specs.declared.outcome.Answered as answering
use Rattle.association.specs.declared.admitting.Admitted.{Admitted}
use Rattle.effects.specs.Offers.{AnswersInitialSa, AnswersMessageSa}
use Rattle.effects.specs.Taking.{Meaning, TakesMessage}
use Rattle.effects.specs.declared.taking.Effect.{Effect}
use Rattle.effects.specs.declared.taking.Effect.TheVariants as effect
use Rattle.ike.specs.Machines.{association_of, setup_at, Held, Machine}
use Rattle.ike.specs.Offers.{AnswersFirstOffer, AnswersNoOffer, AnswersSealedOffer}
use Rattle.ike.specs.Outputs.{closed_serial, plain_step, stepped_of}
use Rattle.ike.specs.Receiving.{is_answered, is_initial_request, is_sound_initial, DoesJudgement, IsJudged, PassesOver, TakesFound, TakesRead, TakesRequestAt, TakesSound}
use Rattle.ike.specs.Soundness.{AreSound, IsSoundMachine}
use Rattle.ike.specs.Steps as steps
use Rattle.ike.specs.Steps.{Steps}
use Rattle.ike.specs.declared.fault.IkeFault.{IkeFault}
use Rattle.ike.specs.declared.output.IkeOutput.{IkeOutput}
use Rattle.ike.specs.declared.output.IkeOutput.TheVariants as output
use Rattle.ike.specs.declared.output.Mark.{Mark}
use Rattle.ike.specs.declared.output.Stepped.{Stepped}
use Rattle.ike.proofs.RequestLemmas.{found_first}
use Rattle.ike.proofs.SerialLemmas.{sound_found}
use Rattle.ike.proofs.WayLemmas.{datagram_came, joined, stood, taken, Came}
use Rattle.association.specs.Outcomes.{closed_by, made_by}

-- what is known of answers
pub record AnswerLaws : Type 0 where
  pub initial : (cipher : Cipher) (group : ℕ) (public_value : Octets → Octets) (shared_secret : Octets → Octets → Option Octets) (secrets : CookieSecrets) (sender : Sender) (half_open held : ℕ)
      (payloads : List Payload) (fresh : Fresh) (moment serial : ℕ) (offer : OfferView) (spi_i : ℕ) (request : Octets) (admitted : Admitted)
      → IsJudgement cipher group secrets sender half_open held payloads (Accepted offer) → Admits cipher group public_value shared_secret fresh moment serial offer spi_i request admitted
      → AnswersInitialSa payloads admitted.octets
  pub message : (meaning : Meaning) (setup : Setup) (old : Association) (table : Database) (octets : Octets) (m : Message) (answered : answering.Answered) (new : Association) (new_table : Database)
      → TakesMessage meaning setup old table octets m (effect.Replied answered) new new_table → AnswersMessageSa meaning setup old octets m answered.octets

-- ---- IKE_SA_INIT

-- the step answers, and an IKE SA is half open by it
record AnswersNow (stepped : Stepped) (reply : Octets) : Type 0 where
  closed : Option ℕ
  said : stepped.output ≡ output.Reply reply closed
  ike : ℕ
  keyed : stepped.trace.keyed ≡ Some ike

none_some : (ike : ℕ) → None ≡ Some ike → ⊥
none_some ike e = cc

dropped_reply : (f : IkeFault) (reply : Octets) (closed : Option ℕ) → output.Dropped f ≡ output.Reply reply closed → ⊥
dropped_reply f reply closed e = cc

same_reply : (one other : Octets) (a b : Option ℕ) → output.Reply one a ≡ output.Reply other b → one ≡ other
same_reply one other a b e = cc

passed_offers : (reason : IkeFault) (old : Held) (stepped : Stepped) (new : Held) (reply : Octets) → PassesOver reason old stepped new → AnswersNow stepped reply → ⊥
passed_offers reason old stepped new reply is now = dropped_reply reason reply now.closed (sym (ap (λ (s : Stepped). s.output) is.said) ∙ now.said)

plain_offers : (said : IkeOutput) (stepped : Stepped) (reply : Octets) → stepped ≡ plain_step said → AnswersNow stepped reply → ⊥
plain_offers said stepped reply is now = none_some now.ike (sym (ap (λ (s : Stepped). s.trace.keyed) is) ∙ now.keyed)

judged_offers : (laws : AnswerLaws) (meaning : Meaning) (setup : Setup) (cookies : CookieSecrets) (from octets : Octets) (m : Message) (j : JudgementView) (old : Held) (stepped : Stepped) (new : Held) (reply : Octets)
    → Spells m octets → IsJudged meaning cookies old from m j → DoesJudgement meaning setup m.header.spi_i octets j old stepped new → AnswersNow stepped reply → AnswersFirstOffer octets reply
judged_offers laws meaning setup cookies from octets m (Answered notice) old stepped new reply spelled judged is now = absurd (plain_offers _ stepped reply is.0.said now)
judged_offers laws meaning setup cookies from octets m Incomplete old stepped new reply spelled judged is now = absurd (passed_offers _ old stepped new reply is now)
judged_offers laws meaning setup cookies from octets m Full old stepped new reply spelled judged is now = absurd (passed_offers _ old stepped new reply is now)
judged_offers laws meaning setup cookies from octets m (Accepted offer) old stepped new reply spelled judged is now = elim is.done [
  | inl refused ↦ absurd (passed_offers _ old stepped new reply refused.1 now)
  | inr made ↦
      let same : made.admitted.octets ≡ reply = same_reply made.admitted.octets reply None now.closed (sym (ap (λ (s : Stepped). s.output) made.said) ∙ now.said) in
      record {
        message = m;
        spelled = spelled;
        answers = subst (λ (o : Octets). AnswersInitialSa m.payloads o) same
            (laws.initial meaning.cipher meaning.group meaning.public_value meaning.shared_secret cookies _ _ _ m.payloads setup.fresh setup.moment old.next offer m.header.spi_i octets made.admitted judged made.admits);
      }
]

request_offers : (o : Option ℕ) (laws : AnswerLaws) (meaning : Meaning) (setup : Setup) (cookies : CookieSecrets) (from octets : Octets) (m : Message) (old : Held) (stepped : Stepped) (new : Held) (reply : Octets)
    → Spells m octets → TakesRequestAt o meaning setup cookies from octets m old stepped new → AnswersNow stepped reply → AnswersFirstOffer octets reply
request_offers (Some place) laws meaning setup cookies from octets m old stepped new reply spelled is now = absurd (plain_offers _ stepped reply is.0.said now)
request_offers None laws meaning setup cookies from octets m old stepped new reply spelled is now =
    judged_offers laws meaning setup cookies from octets m is.judgement old stepped new reply spelled is.judged is.done now

sound_offers : (b : Bool) (laws : AnswerLaws) (meaning : Meaning) (setup : Setup) (cookies : CookieSecrets) (from octets : Octets) (m : Message) (old : Held) (stepped : Stepped) (new : Held) (reply : Octets)
    → Spells m octets → TakesSound b meaning setup cookies from octets m old stepped new → AnswersNow stepped reply → AnswersFirstOffer octets reply
sound_offers true laws meaning setup cookies from octets m old stepped new reply spelled is now =
    request_offers (position (is_answered octets) old.associations) laws meaning setup cookies from octets m old stepped new reply spelled is now
sound_offers false laws meaning setup cookies from octets m old stepped new reply spelled is now = absurd (passed_offers _ old stepped new reply is now)

-- the effect of a message under keys makes no IKE SA half open
effect_offers : (ike number : ℕ) (e : Effect) (reply : Octets) → AnswersNow (stepped_of ike number e) reply → ⊥
effect_offers ike number (effect.Refused f) reply now = none_some now.ike now.keyed
effect_offers ike number (effect.Repeated octets) reply now = none_some now.ike now.keyed
effect_offers ike number (effect.Replied answered) reply now = none_some now.ike now.keyed
effect_offers ike number (effect.Again octets) reply now = none_some now.ike now.keyed
effect_offers ike number (effect.AsksAuth octets) reply now = let said : output.Request ike octets ≡ output.Reply reply now.closed = now.said in cc
effect_offers ike number (effect.Counted ended) reply now = none_some now.ike now.keyed

found_offers : (r : Result ℕ MessageFault) (meaning : Meaning) (setup : Setup) (octets : Octets) (m : Message) (old : Held) (table : Database) (stepped : Stepped) (new : Held) (new_table : Database) (reply : Octets)
    → TakesFound r meaning setup octets m old table stepped new new_table → AnswersNow stepped reply → ⊥
found_offers (Ok place) meaning setup octets m old table stepped new new_table reply is now =
    effect_offers is.association.serial m.header.id is.effect reply (subst (λ (s : Stepped). AnswersNow s reply) is.said now)
found_offers (Err f) meaning setup octets m old table stepped new new_table reply is now = passed_offers _ old stepped new reply is.0 now

read_offers : (b : Bool) (laws : AnswerLaws) (meaning : Meaning) (setup : Setup) (cookies : CookieSecrets) (from octets : Octets) (m : Message) (old : Held) (table : Database) (stepped : Stepped) (new : Held) (new_table : Database) (reply : Octets)
    → Spells m octets → TakesRead b meaning setup cookies from octets m old table stepped new new_table → AnswersNow stepped reply → AnswersFirstOffer octets reply
read_offers true laws meaning setup cookies from octets m old table stepped new new_table reply spelled is now =
    sound_offers (is_sound_initial m.header) laws meaning setup cookies from octets m old stepped new reply spelled is.0 now
read_offers false laws meaning setup cookies from octets m old table stepped new new_table reply spelled is now =
    absurd (found_offers (place_meant m.header old.associations) meaning setup octets m old table stepped new new_table reply is now)

pub step_first_offer : AnswerLaws → (meaning : Meaning) (entries : List Entry) (from octets : Octets) (fresh : Fresh) (old : Machine) (table : Database) (stepped : Stepped) (new : Machine) (new_table : Database)
    (reply : Octets) (closed : Option ℕ) (ike : ℕ) → Steps meaning entries (steps.Message from octets fresh) old table stepped new new_table
    → stepped.output ≡ output.Reply reply closed → stepped.trace.keyed ≡ Some ike → AnswersFirstOffer octets reply
step_first_offer laws meaning entries from octets fresh old table stepped new new_table reply closed ike is said keyed =
    let now : AnswersNow stepped reply = record { closed = closed; said = said; ike = ike; keyed = keyed } in
    elim is.1 [
      | inl unread ↦ absurd (passed_offers _ old.held stepped new.held reply unread.passed now)
      | inr read ↦ read_offers (is_initial_request read.message.header) laws meaning (setup_at old entries fresh) old.cookies from octets read.message old.held table stepped new.held new_table reply read.spelled read.done now
    ]

-- ---- under keys

-- an effect that answers
record Replies (ike number : ℕ) (e : Effect) (mark : Mark) (reply : Octets) : Type 0 where
  answered : answering.Answered
  is : e ≡ effect.Replied answered
  octets : answered.octets ≡ reply
  its : mark.ike ≡ ike

mark_ike : (one mark : Mark) → Some one ≡ Some mark → mark.ike ≡ one.ike
mark_ike one mark e = cc

replies_by : (ike number : ℕ) (e : Effect) (mark : Mark) (reply : Octets) (closed : Option ℕ) → (stepped_of ike number e).output ≡ output.Reply reply closed → (stepped_of ike number e).trace.sent ≡ Some mark
    → Replies ike number e mark reply
replies_by ike number (effect.Refused f) mark reply closed said sent = absurd cc
replies_by ike number (effect.Repeated octets) mark reply closed said sent = absurd cc
replies_by ike number (effect.Replied answered) mark reply closed said sent =
    record { answered = answered; is = refl; octets = same_reply answered.octets reply _ closed said; its = mark_ike _ mark sent }
replies_by ike number (effect.Again octets) mark reply closed said sent = absurd cc
replies_by ike number (effect.AsksAuth octets) mark reply closed said sent = absurd cc
replies_by ike number (effect.Counted ended) mark reply closed said sent = absurd cc

none_mark : (mark : Mark) → None ≡ Some mark → ⊥
none_mark mark e = cc

came_offers : (laws : AnswerLaws) (meaning : Meaning) (setup : Setup) (octets : Octets) (old : Held) (table : Database) (stepped : Stepped) (new : Held) (new_table : Database) (reply : Octets) (closed : Option ℕ) (mark : Mark)
    → AreSound old table → Came meaning setup octets old table stepped new new_table → stepped.output ≡ output.Reply reply closed → stepped.trace.sent ≡ Some mark
    → AnswersSealedOffer meaning setup mark.ike octets reply old
came_offers laws meaning setup octets old table stepped new new_table reply closed mark sound (stood is) said sent = absurd (none_mark mark (sym (ap (λ (s : Stepped). s.trace.sent) is.is) ∙ sent))
came_offers laws meaning setup octets old table stepped new new_table reply closed mark sound (joined is) said sent = absurd (none_mark mark (sym (ap (λ (s : Stepped). s.trace.sent) is.admits.said) ∙ sent))
came_offers laws meaning setup octets old table stepped new new_table reply closed mark sound (taken is) said sent =
    let t = is.takes in
    let ike = t.association.serial in
    let by = replies_by ike is.message.header.id t.effect mark reply closed (sym (ap (λ (s : Stepped). s.output) t.said) ∙ said) (sym (ap (λ (s : Stepped). s.trace.sent) t.said) ∙ sent) in
    record {
      message = is.message;
      spelled = is.spelled;
      was = t.association;
      stood = subst (λ n. association_of n old.associations ≡ Some t.association) (sym by.its) (sound_found old table is.place t.association sound t.there);
      meant = (found_first is.message.header old.associations is.place t.association is.found_there t.there).passes;
      answers = subst (λ (o : Octets). AnswersMessageSa meaning setup t.association octets is.message o) by.octets
          (laws.message meaning setup t.association table octets is.message by.answered t.changed new_table
          (subst (λ (e : Effect). TakesMessage meaning setup t.association table octets is.message e t.changed new_table) by.is t.takes));
    }

pub step_sealed_offer : AnswerLaws → (meaning : Meaning) (entries : List Entry) (from octets : Octets) (fresh : Fresh) (old : Machine) (table : Database) (stepped : Stepped) (new : Machine) (new_table : Database)
    (reply : Octets) (closed : Option ℕ) (mark : Mark) → IsSoundMachine old table → Steps meaning entries (steps.Message from octets fresh) old table stepped new new_table
    → stepped.output ≡ output.Reply reply closed → stepped.trace.sent ≡ Some mark → AnswersSealedOffer meaning (setup_at old entries fresh) mark.ike octets reply old.held
step_sealed_offer laws meaning entries from octets fresh old table stepped new new_table reply closed mark sound is said sent =
    came_offers laws meaning (setup_at old entries fresh) octets old.held table stepped new.held new_table reply closed mark sound.held
    (datagram_came meaning (setup_at old entries fresh) old.cookies from octets old.held table stepped new.held new_table is.1) said sent

-- ---- what answers in clear and makes nothing

notice_without : (spi_i : ℕ) (notice : Notice) (proposals : List Proposal) → Contains (notice_message spi_i notice).payloads (Sa proposals) → ⊥
notice_without spi_i notice proposals (zero, below, at) = absurd cc
notice_without spi_i notice proposals (suc k, below, at) = absurd (omega (arith, below))

-- the step answers in clear, and no IKE SA comes by it
record AnswersOnly (stepped : Stepped) (reply : Octets) : Type 0 where
  closed : Option ℕ
  said : stepped.output ≡ output.Reply reply closed
  sent : stepped.trace.sent ≡ None
  keyed : stepped.trace.keyed ≡ None

some_none : {T : Type 0} (x : T) → Some x ≡ None → ⊥
some_none x e = cc

judged_notice : (meaning : Meaning) (setup : Setup) (spi_i : ℕ) (octets : Octets) (j : JudgementView) (old : Held) (stepped : Stepped) (new : Held) (reply : Octets)
    → DoesJudgement meaning setup spi_i octets j old stepped new → AnswersOnly stepped reply → AnswersNoOffer reply
judged_notice meaning setup spi_i octets (Answered notice) old stepped new reply is now =
    let same : is.0.octets ≡ reply = same_reply is.0.octets reply None now.closed (sym (ap (λ (s : Stepped). s.output) is.0.said) ∙ now.said) in
    record {
      message = notice_message spi_i notice;
      spelled = subst (λ (o : Octets). SpellsPlainly (notice_message spi_i notice) o) same is.0.spelled;
      none = notice_without spi_i notice;
    }
judged_notice meaning setup spi_i octets Incomplete old stepped new reply is now = absurd (dropped_reply _ reply now.closed (sym (ap (λ (s : Stepped). s.output) is.said) ∙ now.said))
judged_notice meaning setup spi_i octets Full old stepped new reply is now = absurd (dropped_reply _ reply now.closed (sym (ap (λ (s : Stepped). s.output) is.said) ∙ now.said))
judged_notice meaning setup spi_i octets (Accepted offer) old stepped new reply is now = elim is.done [
  | inl refused ↦ absurd (dropped_reply _ reply now.closed (sym (ap (λ (s : Stepped). s.output) refused.1.said) ∙ now.said))
  | inr made ↦ absurd (some_none old.next (sym (ap (λ (s : Stepped). s.trace.keyed) made.said) ∙ now.keyed))
]

counted_reply : (ike : ℕ) (child over : Option ℕ) (reply : Octets) (closed : Option ℕ) → output.Counted ike child over ≡ output.Reply reply closed → ⊥
counted_reply ike child over reply closed e = cc

repeat_reply : (octets reply : Octets) (closed : Option ℕ) → output.Repeat octets ≡ output.Reply reply closed → ⊥
repeat_reply octets reply closed e = cc

request_notice : (o : Option ℕ) (meaning : Meaning) (setup : Setup) (cookies : CookieSecrets) (from octets : Octets) (m : Message) (old : Held) (stepped : Stepped) (new : Held) (reply : Octets)
    → TakesRequestAt o meaning setup cookies from octets m old stepped new → AnswersOnly stepped reply → AnswersNoOffer reply
request_notice (Some place) meaning setup cookies from octets m old stepped new reply is now = absurd (repeat_reply _ reply now.closed (sym (ap (λ (s : Stepped). s.output) is.0.said) ∙ now.said))
request_notice None meaning setup cookies from octets m old stepped new reply is now = judged_notice meaning setup m.header.spi_i octets is.judgement old stepped new reply is.done now

sound_notice : (b : Bool) (meaning : Meaning) (setup : Setup) (cookies : CookieSecrets) (from octets : Octets) (m : Message) (old : Held) (stepped : Stepped) (new : Held) (reply : Octets)
    → TakesSound b meaning setup cookies from octets m old stepped new → AnswersOnly stepped reply → AnswersNoOffer reply
sound_notice true meaning setup cookies from octets m old stepped new reply is now =
    request_notice (position (is_answered octets) old.associations) meaning setup cookies from octets m old stepped new reply is now
sound_notice false meaning setup cookies from octets m old stepped new reply is now = absurd (dropped_reply _ reply now.closed (sym (ap (λ (s : Stepped). s.output) is.said) ∙ now.said))

-- under keys what answers is marked
effect_notice : (ike number : ℕ) (e : Effect) (reply : Octets) → AnswersOnly (stepped_of ike number e) reply → ⊥
effect_notice ike number (effect.Refused f) reply now = dropped_reply _ reply now.closed now.said
effect_notice ike number (effect.Repeated octets) reply now = repeat_reply octets reply now.closed now.said
effect_notice ike number (effect.Replied answered) reply now = some_none _ now.sent
effect_notice ike number (effect.Again octets) reply now = let said : output.Request ike octets ≡ output.Reply reply now.closed = now.said in cc
effect_notice ike number (effect.AsksAuth octets) reply now = let said : output.Request ike octets ≡ output.Reply reply now.closed = now.said in cc
effect_notice ike number (effect.Counted ended) reply now = counted_reply ike (made_by ended.fate) (closed_serial ike (closed_by ended.fate)) reply now.closed now.said

found_notice : (r : Result ℕ MessageFault) (meaning : Meaning) (setup : Setup) (octets : Octets) (m : Message) (old : Held) (table : Database) (stepped : Stepped) (new : Held) (new_table : Database) (reply : Octets)
    → TakesFound r meaning setup octets m old table stepped new new_table → AnswersOnly stepped reply → ⊥
found_notice (Ok place) meaning setup octets m old table stepped new new_table reply is now =
    effect_notice is.association.serial m.header.id is.effect reply (subst (λ (s : Stepped). AnswersOnly s reply) is.said now)
found_notice (Err f) meaning setup octets m old table stepped new new_table reply is now = dropped_reply _ reply now.closed (sym (ap (λ (s : Stepped). s.output) is.0.said) ∙ now.said)

read_notice : (b : Bool) (meaning : Meaning) (setup : Setup) (cookies : CookieSecrets) (from octets : Octets) (m : Message) (old : Held) (table : Database) (stepped : Stepped) (new : Held) (new_table : Database) (reply : Octets)
    → TakesRead b meaning setup cookies from octets m old table stepped new new_table → AnswersOnly stepped reply → AnswersNoOffer reply
read_notice true meaning setup cookies from octets m old table stepped new new_table reply is now = sound_notice (is_sound_initial m.header) meaning setup cookies from octets m old stepped new reply is.0 now
read_notice false meaning setup cookies from octets m old table stepped new new_table reply is now =
    absurd (found_notice (place_meant m.header old.associations) meaning setup octets m old table stepped new new_table reply is now)

pub step_no_offer : (meaning : Meaning) (entries : List Entry) (from octets : Octets) (fresh : Fresh) (old : Machine) (table : Database) (stepped : Stepped) (new : Machine) (new_table : Database)
    (reply : Octets) (closed : Option ℕ) → Steps meaning entries (steps.Message from octets fresh) old table stepped new new_table
    → stepped.output ≡ output.Reply reply closed → stepped.trace.sent ≡ None → stepped.trace.keyed ≡ None → AnswersNoOffer reply
step_no_offer meaning entries from octets fresh old table stepped new new_table reply closed is said sent keyed =
    let now : AnswersOnly stepped reply = record { closed = closed; said = said; sent = sent; keyed = keyed } in
    elim is.1 [
      | inl unread ↦ absurd (dropped_reply _ reply now.closed (sym (ap (λ (s : Stepped). s.output) unread.passed.said) ∙ now.said))
      | inr read ↦ read_notice (is_initial_request read.message.header) meaning (setup_at old entries fresh) old.cookies from octets read.message old.held table stepped new.held new_table reply read.done now
    ]
