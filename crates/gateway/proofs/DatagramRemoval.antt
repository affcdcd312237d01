-- What a datagram does where some half-open IKE SAs are left out that have nothing to do with it.
use Rattle.std.proofs.Common.{◌≡◌, ◌⊎◌, inl, inr, ℕ, ◌+◌, ◌≤◌, ◌<◌, ◌∷◌, [], ◌||◌, ◌&&◌, Bool, true, false, not, List, length, Option, Some, None, Result, Ok, Err, ap, refl, sym, ◌∙◌, subst, arith}
use Rattle.std.specs.List.{position}
use Rattle.std.specs.Prelude.{◌==◌, if◌then◌else◌, option_map, slice_set}
use Rattle.std.proofs.lemmas.Bool.{and_right, or_from}
use Rattle.base.specs.Octets.{Octets}
use Rattle.wire.specs.Messages.{Spells}
use Rattle.wire.specs.Numbers.{IKE_SA_INIT}
use Rattle.wire.specs.declared.message.Message.{Message}
use Rattle.wire.specs.declared.payload.Payload.{Payload}
use Rattle.suite.specs.declared.sealer.Cipher.{Cipher}
use Rattle.exchange.specs.declared.notices.Notice.TheVariants as notice
use Rattle.sadb.specs.Database.{Database}
use Rattle.sa_init.specs.Cookies.{CookieSecrets}
use Rattle.sa_init.specs.Judging.{ASSOCIATION_LIMIT, BringsRightCookie, COOKIE_THRESHOLD, HALF_OPEN_LIMIT, IsConsidered, IsHeard, IsJudgement, JudgementView, OfferView, WantsCookie}
use Rattle.sa_init.specs.Judging as judging
use Rattle.sa_init.specs.Parts.{HasParts, PartsView}
use Rattle.sa_init.specs.declared.judging.Sender.{Sender}
use Rattle.association.specs.Finding.{answers_initial, has_pair, is_meant, is_of_other_role, is_waiting, missing, place_meant, place_or, sent_by_other}
use Rattle.association.specs.declared.fault.MessageFault.{MessageFault}
use Rattle.association.specs.declared.fault.MessageFault.TheVariants.{UnknownAssociation, WrongPhase, WrongRole}
use Rattle.association.specs.declared.phase.Association.{Association}
use Rattle.association.specs.declared.phase.Phase.{Phase}
use Rattle.initial.specs.Answering.{IsHalfOpen}
use Rattle.setup.specs.Configs.{Setup}
use Rattle.effects.specs.LawsOfStaying.{AssociationsStayThemselves}
use Rattle.effects.specs.Taking.{KeepsIdentity, Meaning}
use Rattle.effects.specs.declared.taking.Effect.{Effect}
use Rattle.effects.specs.declared.taking.Effect.TheVariants as effect
use Rattle.ike.specs.Faults.{is_want_of_memory}
use Rattle.ike.specs.Machines.{half_open_count, has_own_spi, is_bad_spi, is_half_open, Held}
use Rattle.ike.specs.Outputs.{stepped_of}
use Rattle.ike.specs.Receiving.{is_answered, is_initial_request, is_sound_initial, sender_of, with_next, AdmitsNext, CanMake, CannotMake, DoesJudgement, IsJudged, PassesOver, RefusesDatagram, RefusesInitial, TakesAt, TakesDatagram, TakesFound, TakesOffer, TakesRead, TakesRequestAt, TakesSound}
use Rattle.ike.specs.Soundness.{At}
use Rattle.ike.specs.declared.fault.IkeFault.{IkeFault}
use Rattle.ike.specs.declared.fault.IkeFault.TheVariants as fault
use Rattle.ike.specs.declared.output.IkeOutput.{IkeOutput}
use Rattle.ike.specs.declared.output.IkeOutput.TheVariants as output
use Rattle.ike.specs.declared.output.Stepped.{Stepped}
use Rattle.gateway.specs.Others.{held_without, stays, AreHalfOpen, HasRoom, HaveNotTheSpi, IsHeardEitherWay}
use Rattle.gateway.proofs.ListRemoval.{each_of_both, each_of_one, each_of_replaced, first_is_left, left_any, left_count, left_grown, left_length, left_position, left_replaced, left_there, place_left, FailsOthers}
use Rattle.gateway.proofs.TickRemoval.{ticked_without}

-- what the laws of lower crates say
pub record RemovalLaws : Type 0 where
  pub itself : AssociationsStayThemselves

-- ---- outputs

-- without what is told of those that are left out
abbrev pub output_without : (ℕ → Bool) → IkeOutput → IkeOutput
output_without strange (output.Reply octets closed) = output.Reply octets closed
output_without strange (output.Repeat octets) = output.Repeat octets
output_without strange (output.Request ike octets) = output.Request ike octets
output_without strange (output.Counted ike child closed) = output.Counted ike child closed
output_without strange (output.Ticked ticked) = output.Ticked (ticked_without strange ticked)
output_without strange output.Done = output.Done
output_without strange (output.Dropped why) = output.Dropped why

abbrev pub stepped_without : (ℕ → Bool) → Stepped → Stepped
stepped_without strange stepped = record { output = output_without strange stepped.output; trace = stepped.trace }

still_effect : (strange : ℕ → Bool) (ike number : ℕ) (e : Effect) → stepped_without strange (stepped_of ike number e) ≡ stepped_of ike number e
still_effect strange ike number (effect.Refused why) = refl
still_effect strange ike number (effect.Repeated octets) = refl
still_effect strange ike number (effect.Replied answered) = refl
still_effect strange ike number (effect.Again octets) = refl
still_effect strange ike number (effect.AsksAuth octets) = refl
still_effect strange ike number (effect.Counted ended) = refl

-- ---- tests

out_if : (b : Bool) → not b ≡ false → b ≡ true
out_if true is = refl
out_if false is = absurd cc

pub not_both : (b : Bool) → not b ≡ true → b ≡ true → ⊥
not_both true one other = absurd cc
not_both false one other = absurd cc

pub opposite : (b : Bool) → b ≡ true → b ≡ false → ⊥
opposite true one other = absurd cc
opposite false one other = absurd cc

never_waits : (p : Phase) → IsHalfOpen p → is_waiting p ≡ false
never_waits p half = ap is_waiting half.is

no_answer : (response exchange spi : Bool) (waiting : Bool) → waiting ≡ false → (response && exchange && spi && waiting) ≡ false
no_answer true true true waiting is = is
no_answer true true false waiting is = refl
no_answer true false spi waiting is = refl
no_answer false exchange spi waiting is = refl

-- ---- judgements: fewer are held, and no limit is reached with the others either

module _ (secrets : CookieSecrets) (sender : Sender) (many few : ℕ) (payloads : List Payload) (fewer : few ≤ many) where
  fewer_reached : (parts : PartsView) → (many < COOKIE_THRESHOLD) ⊎ BringsRightCookie secrets sender payloads parts.nonce → (few < COOKIE_THRESHOLD) ⊎ BringsRightCookie secrets sender payloads parts.nonce
  fewer_reached parts (inl below) = inl (omega arith)
  fewer_reached parts (inr right) = inr right

  fewer_heard : (parts : PartsView) → IsHeard secrets sender many payloads parts → IsHeard secrets sender few payloads parts
  fewer_heard parts heard = record { whole = heard.whole; reached = fewer_reached parts heard.reached }

  fewer_considered : (held shown : ℕ) (parts : PartsView) → shown ≤ held → IsConsidered secrets sender many held payloads parts → IsConsidered secrets sender few shown payloads parts
  fewer_considered held shown parts less is = record {
    heard = fewer_heard parts is.heard;
    opening = let opening = is.opening in omega arith;
    holding = let holding = is.holding in omega arith;
  }

abbrev HeardEitherWay : CookieSecrets → Sender → ℕ → List Payload → Type 0
HeardEitherWay secrets sender many payloads =
    (many < COOKIE_THRESHOLD) ⊎ ((many < HALF_OPEN_LIMIT) × ((parts : PartsView) → HasParts payloads parts → BringsRightCookie secrets sender payloads parts.nonce))

no_cookie : (secrets : CookieSecrets) (sender : Sender) (many : ℕ) (payloads : List Payload) (octets : Octets) → HeardEitherWay secrets sender many payloads → WantsCookie secrets sender many payloads octets → ⊥
no_cookie secrets sender many payloads octets (inl below) wants = let least = wants.many in omega arith
no_cookie secrets sender many payloads octets (inr right) wants = wants.unproved (right.1 wants.parts wants.whole.complete)

few_enough : (secrets : CookieSecrets) (sender : Sender) (many : ℕ) (payloads : List Payload) → HeardEitherWay secrets sender many payloads → many < HALF_OPEN_LIMIT
few_enough secrets sender many payloads (inl below) = omega arith
few_enough secrets sender many payloads (inr right) = right.0

not_full : (many held : ℕ) → many < HALF_OPEN_LIMIT → held < ASSOCIATION_LIMIT → (HALF_OPEN_LIMIT ≤ many) ⊎ (ASSOCIATION_LIMIT ≤ held) → ⊥
not_full many held below room (inl full) = omega arith
not_full many held below room (inr full) = omega arith

module _ (cipher : Cipher) (group : ℕ) (secrets : CookieSecrets) (sender : Sender) (many few held shown : ℕ) (payloads : List Payload) (fewer : few ≤ many) (less : shown ≤ held) (room : held < ASSOCIATION_LIMIT) (heard : HeardEitherWay secrets sender many payloads) where
  fewer_judged : (judgement : JudgementView) → IsJudgement cipher group secrets sender many held payloads judgement → IsJudgement cipher group secrets sender few shown payloads judgement
  fewer_judged (judging.Answered (notice.UnsupportedCriticalPayload kind)) is = is
  fewer_judged (judging.Answered notice.InvalidSyntax) is = absurd is
  fewer_judged (judging.Answered notice.NoProposalChosen) is =
      record { parts = is.parts; considered = fewer_considered secrets sender many few payloads fewer held shown is.parts less is.considered; unsuited = is.unsuited }
  fewer_judged (judging.Answered notice.AuthenticationFailed) is = absurd is
  fewer_judged (judging.Answered notice.NoAdditionalSas) is = absurd is
  fewer_judged (judging.Answered notice.TsUnacceptable) is = absurd is
  fewer_judged (judging.Answered (notice.Cookie octets)) is = absurd (no_cookie secrets sender many payloads octets heard is)
  fewer_judged judging.Incomplete is = is
  fewer_judged judging.Full is = absurd (not_full many held (few_enough secrets sender many payloads heard) room is.full)
  fewer_judged (judging.Accepted offer) is =
      record { parts = is.parts; considered = fewer_considered secrets sender many few payloads fewer held shown is.parts less is.considered; suited = is.suited; value = is.value; ni = is.ni }

-- ---- what is held

module _ (strange : ℕ → Bool) where
  -- none of those that are left out passes a test
  abbrev pub FailsOfStrange : (Association → Bool) → Held → Type 0
  FailsOfStrange p held = (place : ℕ) (a : Association) → At held place a → strange a.serial ≡ true → p a ≡ false

  pub fails_others : (p : Association → Bool) (held : Held) → FailsOfStrange p held → FailsOthers (stays strange) p held.associations
  fails_others p held fails place a there out = fails place a there (out_if (strange a.serial) out)

  pub half_replaced : (held : Held) (place : ℕ) (b : Association) → AreHalfOpen strange held → stays strange b ≡ true → AreHalfOpen strange (record held { associations = slice_set held.associations place b })
  half_replaced held place b half kept =
      each_of_replaced (λ (a : Association). strange a.serial ≡ true → IsHalfOpen a.phase) held.associations place b half (λ out. absurd (not_both (strange b.serial) kept out))

  pub half_grown : (held : Held) (b : Association) → AreHalfOpen strange held → stays strange b ≡ true → AreHalfOpen strange (with_next held b)
  half_grown held b half kept =
      each_of_both (λ (a : Association). strange a.serial ≡ true → IsHalfOpen a.phase) held.associations (b ∷ []) half
      (each_of_one (λ (a : Association). strange a.serial ≡ true → IsHalfOpen a.phase) b (λ out. absurd (not_both (strange b.serial) kept out)))

  pub without_replaced : (held : Held) (place : ℕ) (a b : Association) → At held place a → stays strange a ≡ true → stays strange b ≡ true
      → held_without strange (record held { associations = slice_set held.associations place b }) ≡ record held { associations = slice_set (held_without strange held).associations (place_left (stays strange) held.associations place) b }
  without_replaced held place a b there kept also =
      ap (λ (l : List Association). record held { associations = l }) (left_replaced (stays strange) held.associations place a b there kept also)

  pub without_grown : (held : Held) (b : Association) → stays strange b ≡ true → held_without strange (with_next held b) ≡ with_next (held_without strange held) b
  without_grown held b kept = ap (λ (l : List Association). record { next = held.next + 1; associations = l }) (left_grown (stays strange) held.associations b kept)

  pub same_bad_spi : (held : Held) (spi : ℕ) → HaveNotTheSpi strange held spi → is_bad_spi spi (held_without strange held).associations ≡ is_bad_spi spi held.associations
  same_bad_spi held spi apart =
      ap (λ b. spi == 0 || b) (left_any (stays strange) (has_own_spi spi) held.associations (fails_others (has_own_spi spi) held apart))

-- A datagram is for none of them. Where it is a request of IKE_SA_INIT, no limit is reached, and the SPI is
-- none of theirs.
pub record IsClearOf (strange : ℕ → Bool) (old : Held) (own : ℕ) (cookies : CookieSecrets) (from octets : Octets) : Type 0 where
  pub unnamed : (m : Message) → Spells m octets → FailsOfStrange strange (has_pair m.header) old
  pub unasked : FailsOfStrange strange (is_answered octets) old
  pub heard : (m : Message) → Spells m octets → is_initial_request m.header ≡ true → IsHeardEitherWay cookies old from m
  pub room : (m : Message) → Spells m octets → is_initial_request m.header ≡ true → HasRoom old
  pub spi : (m : Message) → Spells m octets → is_initial_request m.header ≡ true → HaveNotTheSpi strange old own

abbrev result_left : (ℕ → ℕ) → Result ℕ MessageFault → Result ℕ MessageFault
result_left f (Ok place) = Ok (f place)
result_left f (Err why) = Err why

result_by : (f : ℕ → ℕ) (o : Option ℕ) (why : MessageFault) → place_or (option_map f o) why ≡ result_left f (place_or o why)
result_by f None why = refl
result_by f (Some place) why = refl

place_of_ok : (o : Option ℕ) (why : MessageFault) (place : ℕ) → place_or o why ≡ Ok place → o ≡ Some place
place_of_ok None why place is = absurd cc
place_of_ok (Some n) why place is = cc

module _ (strange : ℕ → Bool) (laws : RemovalLaws) (meaning : Meaning) (setup : Setup) (old : Held) (half : AreHalfOpen strange old) (given_before : (n : ℕ) → old.next ≤ n → strange n ≡ false) where
  -- what is held without them
  abbrev left : Held
  left = held_without strange old

  abbrev to : ℕ → ℕ
  to place = place_left (stays strange) old.associations place

  still : (new : Held) → new ≡ old → (held_without strange new ≡ left) × AreHalfOpen strange new
  still new is = (ap (held_without strange) is, subst (λ (h : Held). AreHalfOpen strange h) (sym is) half)

  passed_left : (reason : IkeFault) (stepped : Stepped) (new : Held) → PassesOver reason old stepped new → PassesOver reason left (stepped_without strange stepped) (held_without strange new) × AreHalfOpen strange new
  passed_left reason stepped new is =
      (record { said = ap (stepped_without strange) is.said; unchanged = (still new is.unchanged).0 }, (still new is.unchanged).1)

  -- ---- requests of IKE_SA_INIT

  module _ (cookies : CookieSecrets) (from octets : Octets) (m : Message) (unasked : FailsOfStrange strange (is_answered octets) old) (heard : IsHeardEitherWay cookies old from m) (room : HasRoom old) (spi : HaveNotTheSpi strange old setup.fresh.spi) where
    judged_left : (judgement : JudgementView) → IsJudged meaning cookies old from m judgement → IsJudged meaning cookies left from m judgement
    judged_left judgement is =
        fewer_judged meaning.cipher meaning.group cookies (sender_of from m.header) (half_open_count old.associations) (half_open_count left.associations) (length old.associations) (length left.associations) m.payloads
        (left_count (stays strange) is_half_open old.associations) (left_length (stays strange) old.associations) room.holding heard judgement is

    admitted_left : (offer : OfferView) (spi_i : ℕ) (stepped : Stepped) (new : Held) → AdmitsNext meaning setup offer spi_i octets old stepped new
        → AdmitsNext meaning setup offer spi_i octets left (stepped_without strange stepped) (held_without strange new) × AreHalfOpen strange new
    admitted_left offer spi_i stepped new is =
        let serial : is.admitted.association.serial ≡ old.next = ap (λ (a : Association). a.serial) is.admits.content in
        let kept : stays strange is.admitted.association ≡ true = ap (λ n. not (strange n)) serial ∙ ap not (given_before old.next (omega arith)) in (
          record {
            admitted = is.admitted;
            admits = is.admits;
            said = ap (stepped_without strange) is.said;
            content = ap (held_without strange) is.content ∙ without_grown strange old is.admitted.association kept;
          },
          subst (λ (h : Held). AreHalfOpen strange h) (sym is.content) (half_grown strange old is.admitted.association half kept),
        )

    can_left : CanMake old setup.fresh.spi → CanMake left setup.fresh.spi
    can_left can = record { serial = can.serial; usable = same_bad_spi strange old setup.fresh.spi spi ∙ can.usable }

    offer_left : (offer : OfferView) (spi_i : ℕ) (stepped : Stepped) (new : Held) → TakesOffer meaning setup offer spi_i octets old stepped new
        → TakesOffer meaning setup offer spi_i octets left (stepped_without strange stepped) (held_without strange new) × AreHalfOpen strange new
    offer_left offer spi_i stepped new is = elim is.done [
      | inl refused ↦
          let passed = passed_left (fault.Message WrongPhase) stepped new refused.1 in
          (record { can = can_left is.can; done = inl (refused.0, passed.0) }, passed.1)
      | inr admits ↦
          let admitted = admitted_left offer spi_i stepped new admits in
          (record { can = can_left is.can; done = inr admitted.0 }, admitted.1)
    ]

    judgement_left : (judgement : JudgementView) (spi_i : ℕ) (stepped : Stepped) (new : Held) → DoesJudgement meaning setup spi_i octets judgement old stepped new
        → DoesJudgement meaning setup spi_i octets judgement left (stepped_without strange stepped) (held_without strange new) × AreHalfOpen strange new
    judgement_left (judging.Answered says) spi_i stepped new is =
        ((record { octets = is.0.octets; spelled = is.0.spelled; said = ap (stepped_without strange) is.0.said }, (still new is.1).0), (still new is.1).1)
    judgement_left judging.Incomplete spi_i stepped new is = passed_left (fault.Message WrongPhase) stepped new is
    judgement_left judging.Full spi_i stepped new is = passed_left fault.HalfOpenFull stepped new is
    judgement_left (judging.Accepted offer) spi_i stepped new is = offer_left offer spi_i stepped new is

    request_left : (o : Option ℕ) (stepped : Stepped) (new : Held) → position (is_answered octets) old.associations ≡ o → TakesRequestAt o meaning setup cookies from octets m old stepped new
        → TakesRequestAt (option_map to o) meaning setup cookies from octets m left (stepped_without strange stepped) (held_without strange new) × AreHalfOpen strange new
    request_left None stepped new first is =
        let done = judgement_left is.judgement m.header.spi_i stepped new is.done in
        (record { judgement = is.judgement; judged = judged_left is.judgement is.judged; done = done.0 }, done.1)
    request_left (Some place) stepped new first is =
        let kept = first_is_left (stays strange) (is_answered octets) old.associations place is.0.association (fails_others strange (is_answered octets) old unasked) first is.0.there in (
          (
            record {
              association = is.0.association;
              there = left_there (stays strange) old.associations place is.0.association is.0.there kept;
              reply = is.0.reply;
              kept = is.0.kept;
              said = ap (stepped_without strange) is.0.said;
            },
            (still new is.1).0,
          ),
          (still new is.1).1,
        )

    same_answered : position (is_answered octets) left.associations ≡ option_map to (position (is_answered octets) old.associations)
    same_answered = left_position (stays strange) (is_answered octets) old.associations (fails_others strange (is_answered octets) old unasked)

    sound_left : (sound : Bool) (stepped : Stepped) (new : Held) → TakesSound sound meaning setup cookies from octets m old stepped new
        → TakesSound sound meaning setup cookies from octets m left (stepped_without strange stepped) (held_without strange new) × AreHalfOpen strange new
    sound_left true stepped new is =
        let done = request_left (position (is_answered octets) old.associations) stepped new refl is in
        (subst (λ (o : Option ℕ). TakesRequestAt o meaning setup cookies from octets m left (stepped_without strange stepped) (held_without strange new)) (sym same_answered) done.0, done.1)
    sound_left false stepped new is = passed_left (fault.Message WrongPhase) stepped new is

    cannot_left : (reason : IkeFault) → CannotMake old setup.fresh.spi reason → CannotMake left setup.fresh.spi reason
    cannot_left (fault.Unread f) cannot = absurd cannot
    cannot_left (fault.Message f) cannot = absurd cannot
    cannot_left fault.Unprotected cannot = absurd cannot
    cannot_left fault.Crowded cannot = absurd cannot
    cannot_left fault.TableFull cannot = absurd cannot
    cannot_left fault.SpisSpent cannot = absurd cannot
    cannot_left fault.HalfOpenFull cannot = absurd cannot
    cannot_left fault.Busy cannot = absurd cannot
    cannot_left fault.NumbersSpent cannot = cannot
    cannot_left fault.BadFresh cannot = (cannot.0, same_bad_spi strange old setup.fresh.spi spi ∙ cannot.1)
    cannot_left (fault.Memory f) cannot = cannot

  -- ---- other messages

  at_left : (place : ℕ) (octets : Octets) (m : Message) (table : Database) (stepped : Stepped) (new : Held) (new_table : Database) → (is : TakesAt place meaning setup octets m old table stepped new new_table) → stays strange is.association ≡ true
      → TakesAt (to place) meaning setup octets m left table (stepped_without strange stepped) (held_without strange new) new_table × AreHalfOpen strange new
  at_left place octets m table stepped new new_table is kept =
      let identity : KeepsIdentity is.association is.changed = laws.itself meaning setup is.association table octets m is.effect is.changed new_table is.takes in
      let also : stays strange is.changed ≡ true = ap (λ n. not (strange n)) identity.serial ∙ kept in (
        record {
          association = is.association;
          there = left_there (stays strange) old.associations place is.association is.there kept;
          effect = is.effect;
          changed = is.changed;
          takes = is.takes;
          said = ap (stepped_without strange) is.said ∙ still_effect strange is.association.serial m.header.id is.effect;
          content = ap (held_without strange) is.content ∙ without_replaced strange old place is.association is.changed is.there kept also;
        },
        subst (λ (h : Held). AreHalfOpen strange h) (sym is.content) (half_replaced strange old place is.changed half also),
      )

  module _ (m : Message) (unnamed : FailsOfStrange strange (has_pair m.header) old) where
    not_meant : FailsOfStrange strange (is_meant m.header) old
    not_meant place a there out =
        and_right (sent_by_other a.role m.header.flags.initiator) (has_pair m.header a || answers_initial m.header a)
        (or_from (has_pair m.header a) (answers_initial m.header a) (unnamed place a there out)
        (no_answer m.header.flags.response (m.header.exchange == IKE_SA_INIT) (a.spi_i == m.header.spi_i) (is_waiting a.phase) (never_waits a.phase (half place a there out))))

    not_of_other_role : FailsOfStrange strange (is_of_other_role m.header) old
    not_of_other_role place a there out = and_right (not (sent_by_other a.role m.header.flags.initiator)) (has_pair m.header a) (unnamed place a there out)

    same_meant : place_meant m.header left.associations ≡ result_left to (place_meant m.header old.associations)
    same_meant =
        ap (λ (o : Option ℕ). place_or o (missing m.header left.associations)) (left_position (stays strange) (is_meant m.header) old.associations (fails_others strange (is_meant m.header) old not_meant))
        ∙ ap (λ (b : Bool). place_or (option_map to (position (is_meant m.header) old.associations)) (if b then WrongRole else UnknownAssociation)) (left_any (stays strange) (is_of_other_role m.header) old.associations (fails_others strange (is_of_other_role m.header) old not_of_other_role))
        ∙ result_by to (position (is_meant m.header) old.associations) (missing m.header old.associations)

    found_left : (r : Result ℕ MessageFault) (octets : Octets) (table : Database) (stepped : Stepped) (new : Held) (new_table : Database) → place_meant m.header old.associations ≡ r → TakesFound r meaning setup octets m old table stepped new new_table
        → TakesFound (result_left to r) meaning setup octets m left table (stepped_without strange stepped) (held_without strange new) new_table × AreHalfOpen strange new
    found_left (Ok place) octets table stepped new new_table finds is =
        at_left place octets m table stepped new new_table is
        (first_is_left (stays strange) (is_meant m.header) old.associations place is.association (fails_others strange (is_meant m.header) old not_meant)
        (place_of_ok (position (is_meant m.header) old.associations) (missing m.header old.associations) place finds) is.there)
    found_left (Err why) octets table stepped new new_table finds is =
        let passed = passed_left (fault.Message why) stepped new is.0 in
        ((passed.0, is.1), passed.1)

  -- ---- datagrams

  module _ (cookies : CookieSecrets) (from octets : Octets) (clear : IsClearOf strange old setup.fresh.spi cookies from octets) where
    read_left : (initial : Bool) (m : Message) (table : Database) (stepped : Stepped) (new : Held) (new_table : Database) → Spells m octets → is_initial_request m.header ≡ initial → TakesRead initial meaning setup cookies from octets m old table stepped new new_table
        → TakesRead initial meaning setup cookies from octets m left table (stepped_without strange stepped) (held_without strange new) new_table × AreHalfOpen strange new
    read_left true m table stepped new new_table spelled initial is =
        let done = sound_left cookies from octets m clear.unasked (clear.heard m spelled initial) (clear.room m spelled initial) (clear.spi m spelled initial) (is_sound_initial m.header) stepped new is.0 in
        ((done.0, is.1), done.1)
    read_left false m table stepped new new_table spelled initial is =
        let unnamed = clear.unnamed m spelled in
        let done = found_left m unnamed (place_meant m.header old.associations) octets table stepped new new_table refl is in
        (subst (λ (r : Result ℕ MessageFault). TakesFound r meaning setup octets m left table (stepped_without strange stepped) (held_without strange new) new_table) (sym (same_meant m unnamed)) done.0, done.1)

    pub datagram_left : (table : Database) (stepped : Stepped) (new : Held) (new_table : Database) → TakesDatagram meaning setup cookies from octets old table stepped new new_table
        → TakesDatagram meaning setup cookies from octets left table (stepped_without strange stepped) (held_without strange new) new_table × AreHalfOpen strange new
    datagram_left table stepped new new_table (inl is) =
        let passed = passed_left (fault.Unread is.reason) stepped new is.passed in
        (inl (record { reason = is.reason; is = is.is; passed = passed.0; unchanged = is.unchanged }), passed.1)
    datagram_left table stepped new new_table (inr is) =
        let done = read_left (is_initial_request is.message.header) is.message table stepped new new_table is.spelled refl is.done in
        (inr (record { message = is.message; spelled = is.spelled; done = done.0 }), done.1)

    initial_left : (reason : IkeFault) → RefusesInitial meaning setup cookies from octets old reason → RefusesInitial meaning setup cookies from octets left reason
    initial_left reason is =
        let heard = clear.heard is.message is.spelled is.initial in
        let room = clear.room is.message is.spelled is.initial in
        let spi = clear.spi is.message is.spelled is.initial in
        record {
          message = is.message;
          spelled = is.spelled;
          initial = is.initial;
          sound = is.sound;
          first = same_answered cookies from octets is.message clear.unasked heard room spi ∙ ap (option_map to) is.first;
          refused = record {
            offer = is.refused.offer;
            judged = judged_left cookies from octets is.message clear.unasked heard room spi (judging.Accepted is.refused.offer) is.refused.judged;
            why = cannot_left cookies from octets is.message clear.unasked heard room spi reason is.refused.why;
          };
        }

    pub refused_left : (table : Database) (reason : IkeFault) → is_want_of_memory reason ≡ false → RefusesDatagram meaning setup cookies from octets old table reason → RefusesDatagram meaning setup cookies from octets left table reason
    refused_left table (fault.Unread f) other is = initial_left (fault.Unread f) is
    refused_left table (fault.Message f) other is = initial_left (fault.Message f) is
    refused_left table fault.Unprotected other is = initial_left fault.Unprotected is
    refused_left table fault.Crowded other is = initial_left fault.Crowded is
    refused_left table fault.TableFull other is = initial_left fault.TableFull is
    refused_left table fault.SpisSpent other is = initial_left fault.SpisSpent is
    refused_left table fault.HalfOpenFull other is = initial_left fault.HalfOpenFull is
    refused_left table fault.Busy other is = initial_left fault.Busy is
    refused_left table fault.NumbersSpent other is = initial_left fault.NumbersSpent is
    refused_left table fault.BadFresh other is = initial_left fault.BadFresh is
    refused_left table (fault.Memory f) other is = absurd cc
