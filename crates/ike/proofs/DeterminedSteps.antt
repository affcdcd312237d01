-- A step does one thing: what comes of it, and what is held of IKE SAs and in the table then, but for
-- room.
use Rattle.std.proofs.Common.{◌≡◌, inl, inr, ℕ, Bool, true, false, List, length, Option, Some, None, Result, Ok, Err, sym, ap, subst, ◌∙◌, max}
use Rattle.std.specs.List.{position, slice_get}
use Rattle.std.specs.Prelude.{slice_set}
use Rattle.base.specs.Octets.{AreOctets, Octets}
use Rattle.wire.specs.declared.fault.WireFault.{WireFault}
use Rattle.wire.specs.declared.message.Message.{Message}
use Rattle.policy.specs.declared.entry.Entry.{Entry}
use Rattle.suite.specs.declared.fresh.Fresh.{Fresh}
use Rattle.suite.specs.declared.keys.Keys.{Keys}
use Rattle.exchange.specs.declared.notices.Notice.{Notice}
use Rattle.sadb.specs.Contents.{table_content}
use Rattle.sadb.specs.Database.{Database, pair_at}
use Rattle.sa_init.specs.Cookies.{changed, CookieSecrets}
use Rattle.sa_init.specs.Judging.{Accepted, Answered, Full, Incomplete, IsJudgement, JudgementView, OfferView}
use Rattle.sa_init.specs.Messages.{notice_message}
use Rattle.association.specs.Contents.{association_content}
use Rattle.association.specs.Finding.{place_meant}
use Rattle.association.specs.AskedChildren.{AskedChildView}
use Rattle.association.specs.declared.fault.MessageFault.{MessageFault}
use Rattle.association.specs.declared.fault.MessageFault.TheVariants.{WrongPhase}
use Rattle.association.specs.declared.phase.Association.{Association}
use Rattle.association.specs.Admitting.{Admits}
use Rattle.initial.specs.Beginning.{begun}
use Rattle.setup.specs.Configs.{Setup}
use Rattle.effects.specs.Lengths.{TellsLengths}
use Rattle.moments.specs.Ticking.{Ticks}
use Rattle.moments.specs.declared.ticking.Ticked.{Ticked}
use Rattle.effects.specs.Taking.{Meaning}
use Rattle.association.specs.declared.admitting.Admitted.{Admitted}
use Rattle.initial.specs.declared.beginning.Beginning.{Beginning}
use Rattle.effects.specs.declared.taking.Effect.{Effect}
use Rattle.informational.specs.declared.ordering.Order.{Order}
use Rattle.informational.specs.declared.ordering.Order.TheVariants as asked
use Rattle.ike.specs.Orders.{OrderView}
use Rattle.ike.specs.Orders as orders
use Rattle.sadb.specs.declared.pair.Pair.{Pair}
use Rattle.ike.proofs.MarkLemmas.{marked_alike}
use Rattle.ike.specs.Contents.{held_content, machine_content}
use Rattle.ike.specs.Lengths.{HoldWholeKeys, IsTold}
use Rattle.ike.specs.Machines.{half_open_count, has_serial, setup_at, Held, Machine}
use Rattle.ike.specs.Outputs.{asking_step, half_open_step, plain_step, stepped_of}
use Rattle.base.specs.declared.selector.Selector.{Selector}
use Rattle.policy.specs.Decisions.{local_side, remote_side}
use Rattle.ike.specs.Asking.{AsksAt, AsksFor, AsksFurther, AsksThat}
use Rattle.effects.specs.Keeping.{kept_reply}
use Rattle.ike.specs.Receiving.{is_answered, is_initial_request, is_sound_initial, sender_of, AdmitsNext, DoesJudgement, FailsToRead, IsJudged, PassesOver, ReadsDatagram, Repeats, SaysNotice, TakesAt, TakesDatagram, TakesFound, TakesNew, TakesOffer, TakesRead, TakesRequestAt, TakesSound}
use Rattle.ike.specs.Starting.{child_by, protecting_entry, BeginsBy, FurthersBy}
use Rattle.ike.specs.Steps as steps
use Rattle.ike.specs.Ticking.{TakesMoment}
use Rattle.ike.specs.Steps.{InputView, Start, Secret, Steps}
use Rattle.ike.specs.declared.fault.IkeFault.{IkeFault}
use Rattle.ike.specs.declared.fault.IkeFault.TheVariants as fault
use Rattle.ike.specs.declared.output.IkeOutput.TheVariants as output
use Rattle.ike.specs.declared.output.IkeOutput.TheVariants.{Reply, Repeat, Request}
use Rattle.ike.specs.declared.output.Stepped.{Stepped}
use Rattle.ike.proofs.ContentLemmas.{same_after_change, same_after_next, same_answered, same_count, same_first, same_found, same_length, same_list, same_next, same_there}
use Rattle.ike.proofs.DeterminedLaws.{Laws}

-- what comes of a step, and what is held
pub record SameStep (one two : Stepped) (a b : Held) : Type 0 where
  pub stepped : one ≡ two
  pub held : held_content a ≡ held_content b

-- and the table
pub record SameLeft (one two : Stepped) (a b : Held) (a_table b_table : Database) : Type 0 where
  pub stepped : one ≡ two
  pub held : held_content a ≡ held_content b
  pub table : table_content a_table ≡ table_content b_table

with_table : (one two : Stepped) (a b : Held) (table another a_table b_table : Database) → table_content table ≡ table_content another → SameStep one two a b → a_table ≡ table → b_table ≡ another → SameLeft one two a b a_table b_table
with_table one two a b table another a_table b_table alike same is also = record {
  stepped = same.stepped;
  held = same.held;
  table = ap table_content is ∙ alike ∙ sym (ap table_content also);
}

same_choice : {A : Type 0} (o : Option A) (x y : A) → o ≡ Some x → o ≡ Some y → x ≡ y
same_choice o x y is also = cc

same_offer : (a b : OfferView) → Accepted a ≡ Accepted b → a ≡ b
same_offer a b same = cc

abbrev begun_content : ℕ → Beginning → AskedChildView → Association
begun_content serial beginning child = association_content (begun serial beginning child)

module _ (laws : Laws) (meaning : Meaning) (setup : Setup) (old other : Held) (same : held_content old ≡ held_content other) where
  one_passing : (reason : IkeFault) (one two : Stepped) (a b : Held) → PassesOver reason old one a → PassesOver reason other two b → SameStep one two a b
  one_passing reason one two a b is also = record {
    stepped = is.said ∙ sym also.said;
    held = ap held_content is.unchanged ∙ same ∙ sym (ap held_content also.unchanged);
  }

  one_still : (one two : Stepped) (a b : Held) → one ≡ two → a ≡ old → b ≡ other → SameStep one two a b
  one_still one two a b said is also = record { stepped = said; held = ap held_content is ∙ same ∙ sym (ap held_content also) }

  -- ---- requests of IKE_SA_INIT

  one_repeat : (place : ℕ) (one two : Stepped) → Repeats place old.associations one → Repeats place other.associations two → one ≡ two
  one_repeat place one two is also =
      let there = same_there old.associations other.associations (same_list old other same) place is.association also.association is.there also.there in
      let reply : is.reply ≡ also.reply =
      same_choice (kept_reply also.association.phase) is.reply also.reply (sym (ap (λ (x : Association). kept_reply x.phase) there) ∙ is.kept) also.kept in
      is.said ∙ ap (λ (x : Octets). plain_step (Repeat x)) reply ∙ sym also.said

  one_notice : (spi_i : ℕ) (notice : Notice) (one two : Stepped) → SaysNotice spi_i notice one → SaysNotice spi_i notice two → one ≡ two
  one_notice spi_i notice one two is also =
      is.said
      ∙ ap (λ (x : Octets). plain_step (Reply x None)) (laws.messages.spelling (notice_message spi_i notice) is.octets also.octets is.spelled also.spelled)
      ∙ sym also.said

  one_admission : (offer : OfferView) (spi_i : ℕ) (octets : Octets) (one two : Stepped) (a b : Held) → AdmitsNext meaning setup offer spi_i octets old one a → AdmitsNext meaning setup offer spi_i octets other two b → SameStep one two a b
  one_admission offer spi_i octets one two a b is also =
      let next : other.next ≡ old.next = sym (same_next old other same) in
      let admits : Admits meaning.cipher meaning.group meaning.public_value meaning.shared_secret setup.fresh setup.moment old.next offer spi_i octets also.admitted =
      subst (λ (n : ℕ). Admits meaning.cipher meaning.group meaning.public_value meaning.shared_secret setup.fresh setup.moment n offer spi_i octets also.admitted) next also.admits in
      let admitted : is.admitted ≡ also.admitted =
      laws.associations.admitted meaning.cipher meaning.group meaning.public_value meaning.shared_secret setup.fresh setup.moment old.next offer spi_i octets is.admitted also.admitted is.admits admits in
      record {
        stepped =
            is.said
            ∙ ap (λ (x : Admitted). half_open_step old.next x.octets) admitted
            ∙ ap (λ (n : ℕ). half_open_step n also.admitted.octets) (sym next)
            ∙ sym also.said;
        held =
            ap held_content is.content
            ∙ same_after_next old other same is.admitted.association also.admitted.association (ap (λ (x : Admitted). association_content x.association) admitted)
            ∙ sym (ap held_content also.content);
      }

  one_offer : (offer : OfferView) (spi_i : ℕ) (octets : Octets) (one two : Stepped) (a b : Held) → TakesOffer meaning setup offer spi_i octets old one a → TakesOffer meaning setup offer spi_i octets other two b → SameStep one two a b
  one_offer offer spi_i octets one two a b is also = elim is.done [
    | inl (refused, passed) ↦ elim also.done [
      | inl (too, over) ↦ one_passing (fault.Message WrongPhase) one two a b passed over
      | inr admits ↦ absurd (cc (refused, admits.admits.answer.agrees))
    ]
    | inr admits ↦ elim also.done [
      | inl (too, over) ↦ absurd (cc (too, admits.admits.answer.agrees))
      | inr also_admits ↦ one_admission offer spi_i octets one two a b admits also_admits
    ]
  ]

  one_doing : (spi_i : ℕ) (octets : Octets) (j : JudgementView) (one two : Stepped) (a b : Held) → DoesJudgement meaning setup spi_i octets j old one a → DoesJudgement meaning setup spi_i octets j other two b → SameStep one two a b
  one_doing spi_i octets (Answered notice) one two a b is also = one_still one two a b (one_notice spi_i notice one two is.0 also.0) is.1 also.1
  one_doing spi_i octets Incomplete one two a b is also = one_passing (fault.Message WrongPhase) one two a b is also
  one_doing spi_i octets Full one two a b is also = one_passing fault.HalfOpenFull one two a b is also
  one_doing spi_i octets (Accepted offer) one two a b is also = one_offer offer spi_i octets one two a b is also

  pub judged_here : (cookies : CookieSecrets) (from : Octets) (m : Message) (j : JudgementView) → IsJudged meaning cookies other from m j → IsJudged meaning cookies old from m j
  judged_here cookies from m j is =
      let count : half_open_count other.associations ≡ half_open_count old.associations = sym (same_count old.associations other.associations (same_list old other same)) in
      let long : length other.associations ≡ length old.associations = sym (same_length old.associations other.associations (same_list old other same)) in
      subst (λ (n : ℕ). IsJudgement meaning.cipher meaning.group cookies (sender_of from m.header) (half_open_count old.associations) n m.payloads j) long
      (subst (λ (n : ℕ). IsJudgement meaning.cipher meaning.group cookies (sender_of from m.header) n (length other.associations) m.payloads j) count is)

  pub one_judgement : (cookies : CookieSecrets) (from : Octets) (m : Message) (j k : JudgementView) → IsJudged meaning cookies old from m j → IsJudged meaning cookies other from m k → j ≡ k
  one_judgement cookies from m j k is also =
      laws.judgement meaning.cipher meaning.group cookies (sender_of from m.header) (half_open_count old.associations) (length old.associations) m.payloads j k is (judged_here cookies from m k also)

  one_new : (cookies : CookieSecrets) (from octets : Octets) (m : Message) (one two : Stepped) (a b : Held) → TakesNew meaning setup cookies from octets m old one a → TakesNew meaning setup cookies from octets m other two b → SameStep one two a b
  one_new cookies from octets m one two a b is also =
      let judgement : also.judgement ≡ is.judgement = sym (one_judgement cookies from m is.judgement also.judgement is.judged also.judged) in
      one_doing m.header.spi_i octets is.judgement one two a b is.done (subst (λ (j : JudgementView). DoesJudgement meaning setup m.header.spi_i octets j other two b) judgement also.done)

  one_at : (o : Option ℕ) (cookies : CookieSecrets) (from octets : Octets) (m : Message) (one two : Stepped) (a b : Held)
      → TakesRequestAt o meaning setup cookies from octets m old one a → TakesRequestAt o meaning setup cookies from octets m other two b → SameStep one two a b
  one_at None cookies from octets m one two a b is also = one_new cookies from octets m one two a b is also
  one_at (Some place) cookies from octets m one two a b is also = one_still one two a b (one_repeat place one two is.0 also.0) is.1 also.1

  one_sound : (sound : Bool) (cookies : CookieSecrets) (from octets : Octets) (m : Message) (one two : Stepped) (a b : Held)
      → TakesSound sound meaning setup cookies from octets m old one a → TakesSound sound meaning setup cookies from octets m other two b → SameStep one two a b
  one_sound true cookies from octets m one two a b is also =
      let answered : position (is_answered octets) other.associations ≡ position (is_answered octets) old.associations = sym (same_answered old.associations other.associations (same_list old other same) octets) in
      one_at (position (is_answered octets) old.associations) cookies from octets m one two a b is
      (subst (λ (o : Option ℕ). TakesRequestAt o meaning setup cookies from octets m other two b) answered also)
  one_sound false cookies from octets m one two a b is also = one_passing (fault.Message WrongPhase) one two a b is also

  -- ---- messages for an IKE SA

  module _ (table another : Database) (alike : table_content table ≡ table_content another) (tells : TellsLengths meaning.body_of setup.fresh.seal) (whole : HoldWholeKeys old) where
    one_message : (place : ℕ) (octets : Octets) (m : Message) (one two : Stepped) (a b : Held) (a_table b_table : Database)
        → TakesAt place meaning setup octets m old table one a a_table → TakesAt place meaning setup octets m other another two b b_table → SameLeft one two a b a_table b_table
    one_message place octets m one two a b a_table b_table is also =
        let there = same_there old.associations other.associations (same_list old other same) place is.association also.association is.there also.there in
        let end = laws.associations.effect meaning setup is.association also.association is.changed also.changed table another a_table b_table octets m is.effect also.effect tells (whole place is.association is.there) there alike is.takes also.takes in
        record {
          stepped =
              is.said
              ∙ ap (λ (x : Association). stepped_of x.serial m.header.id is.effect) there
              ∙ ap (λ (e : Effect). stepped_of also.association.serial m.header.id e) end.0
              ∙ sym also.said;
          held = ap held_content is.content ∙ same_after_change old other same place is.changed also.changed end.1 ∙ sym (ap held_content also.content);
          table = end.2;
        }

    one_found : (r : Result ℕ MessageFault) (octets : Octets) (m : Message) (one two : Stepped) (a b : Held) (a_table b_table : Database)
        → TakesFound r meaning setup octets m old table one a a_table → TakesFound r meaning setup octets m other another two b b_table → SameLeft one two a b a_table b_table
    one_found (Ok place) octets m one two a b a_table b_table is also = one_message place octets m one two a b a_table b_table is also
    one_found (Err f) octets m one two a b a_table b_table is also = with_table one two a b table another a_table b_table alike (one_passing (fault.Message f) one two a b is.0 also.0) is.1 also.1

    one_read : (initial : Bool) (cookies : CookieSecrets) (from octets : Octets) (m : Message) (one two : Stepped) (a b : Held) (a_table b_table : Database)
        → TakesRead initial meaning setup cookies from octets m old table one a a_table → TakesRead initial meaning setup cookies from octets m other another two b b_table → SameLeft one two a b a_table b_table
    one_read true cookies from octets m one two a b a_table b_table is also =
        with_table one two a b table another a_table b_table alike (one_sound (is_sound_initial m.header) cookies from octets m one two a b is.0 also.0) is.1 also.1
    one_read false cookies from octets m one two a b a_table b_table is also =
        let place : place_meant m.header other.associations ≡ place_meant m.header old.associations = sym (same_found old.associations other.associations (same_list old other same) m.header) in
        one_found (place_meant m.header old.associations) octets m one two a b a_table b_table is
        (subst (λ (r : Result ℕ MessageFault). TakesFound r meaning setup octets m other another two b b_table) place also)

    one_failure : (octets : Octets) (one two : Stepped) (a b : Held) (a_table b_table : Database) → AreOctets octets
        → FailsToRead octets old table one a a_table → FailsToRead octets other another two b b_table → SameLeft one two a b a_table b_table
    one_failure octets one two a b a_table b_table fits is also =
        let reason : also.reason ≡ is.reason = laws.messages.fault octets also.reason is.reason fits also.is is.is in
        let passed : PassesOver (fault.Unread is.reason) other two b = subst (λ (f : WireFault). PassesOver (fault.Unread f) other two b) reason also.passed in
        with_table one two a b table another a_table b_table alike (one_passing (fault.Unread is.reason) one two a b is.passed passed) is.unchanged also.unchanged

    one_reading : (cookies : CookieSecrets) (from octets : Octets) (one two : Stepped) (a b : Held) (a_table b_table : Database)
        → ReadsDatagram meaning setup cookies from octets old table one a a_table → ReadsDatagram meaning setup cookies from octets other another two b b_table → SameLeft one two a b a_table b_table
    one_reading cookies from octets one two a b a_table b_table is also =
        let message : also.message ≡ is.message = laws.messages.message also.message is.message octets also.spelled is.spelled in
        let done : TakesRead (is_initial_request is.message.header) meaning setup cookies from octets is.message other another two b b_table =
        subst (λ (m : Message). TakesRead (is_initial_request m.header) meaning setup cookies from octets m other another two b b_table) message also.done in
        one_read (is_initial_request is.message.header) cookies from octets is.message one two a b a_table b_table is.done done

    one_datagram : (cookies : CookieSecrets) (from octets : Octets) (one two : Stepped) (a b : Held) (a_table b_table : Database) → AreOctets octets
        → TakesDatagram meaning setup cookies from octets old table one a a_table → TakesDatagram meaning setup cookies from octets other another two b b_table → SameLeft one two a b a_table b_table
    one_datagram cookies from octets one two a b a_table b_table fits is also = elim is [
      | inl fails ↦ elim also [
        | inl too ↦ one_failure octets one two a b a_table b_table fits fails too
        | inr reads ↦ absurd (laws.messages.faultless reads.message octets fails.reason reads.spelled fails.is)
      ]
      | inr reads ↦ elim also [
        | inl fails ↦ absurd (laws.messages.faultless reads.message octets fails.reason reads.spelled fails.is)
        | inr too ↦ one_reading cookies from octets one two a b a_table b_table reads too
      ]
    ]

  -- ---- orders

  one_start : (place : ℕ) (table another : Database) (one two : Stepped) (a b : Held) (a_table b_table : Database) → table_content table ≡ table_content another
      → BeginsBy meaning setup place old table one a a_table → BeginsBy meaning setup place other another two b b_table → SameLeft one two a b a_table b_table
  one_start place table another one two a b a_table b_table alike is also =
      let next : old.next ≡ other.next = same_next old other same in
      let entry : is.entry ≡ also.entry = same_choice (protecting_entry setup.entries place) is.entry also.entry is.allowed.protects also.allowed.protects in
      let between : table_content is.between ≡ table_content also.between = laws.tables.prepared table is.between is.room ∙ alike ∙ sym (laws.tables.prepared another also.between also.room) in
      let reserved = laws.tables.reserved is.between also.between a_table b_table is.done.spi also.done.spi between is.done.reserved also.done.reserved in
      let extended : Bool = setup.config.extended in
      let begins = laws.associations.begun meaning.cipher meaning.group meaning.public_value setup.fresh setup.moment old.next (child_by is.entry is.done.spi extended) is.beginning also.beginning is.begins also.begins in
      let child : begun_content old.next also.beginning (child_by is.entry is.done.spi extended) ≡ begun_content other.next also.beginning (child_by also.entry also.done.spi extended) =
      ap (λ (n : ℕ). begun_content n also.beginning (child_by is.entry is.done.spi extended)) next
      ∙ ap (λ (e : Entry). begun_content other.next also.beginning (child_by e is.done.spi extended)) entry
      ∙ ap (λ (spi : ℕ). begun_content other.next also.beginning (child_by also.entry spi extended)) reserved.0 in
      record {
        stepped =
            is.done.said
            ∙ ap (λ (n : ℕ). plain_step (Request n is.beginning.octets)) next
            ∙ ap (λ (x : Octets). plain_step (Request other.next x)) begins.0
            ∙ sym also.done.said;
        held =
            ap held_content is.done.content
            ∙ same_after_next old other same (begun old.next is.beginning (child_by is.entry is.done.spi extended)) (begun other.next also.beginning (child_by also.entry also.done.spi extended)) (begins.1 ∙ child)
            ∙ sym (ap held_content also.done.content);
        table = reserved.1;
      }

-- ---- commands to ask whether the peer is there, and ticks

same_place_of : (o : Option ℕ) (one two : ℕ) → o ≡ Some one → o ≡ Some two → one ≡ two
same_place_of o one two is also = cc

-- the IKE SA that asks is one, by what is held
record SameAsker (is_place also_place : ℕ) (a b : Association) : Type 0 where
  place : is_place ≡ also_place
  association : association_content a ≡ association_content b

module _ (body_of : Keys → Octets → Octets → Octets → Octets) (setup : Setup) (ike : ℕ) (old other : Held) (same : held_content old ≡ held_content other) (one two : Stepped) (a b : Held) (is : AsksAt body_of setup ike old one a) (also : AsksAt body_of setup ike other two b) where
  same_asker : SameAsker is.place also.place is.association also.association
  same_asker =
      let place : is.place ≡ also.place = same_place_of (position (has_serial ike) other.associations) is.place also.place (sym (same_first old.associations other.associations (same_list old other same) ike) ∙ is.first) also.first in
      let there : slice_get other.associations is.place ≡ Some also.association = subst (λ n. slice_get other.associations n ≡ Some also.association) (sym place) also.there in
      record {
        place = place;
        association = same_there old.associations other.associations (same_list old other same) is.place is.association also.association is.there there;
      }

  left_asked : (a_table b_table : Database) → is.octets ≡ also.octets → association_content is.changed ≡ association_content also.changed → table_content a_table ≡ table_content b_table → SameLeft one two a b a_table b_table
  left_asked a_table b_table octets changed table =
      let number : is.association.outgoing.next ≡ also.association.outgoing.next = ap (λ (z : Association). z.outgoing.next) same_asker.association in
      record {
        stepped = is.said ∙ ap (λ n. asking_step ike n is.octets) number ∙ ap (asking_step ike also.association.outgoing.next) octets ∙ sym also.said;
        held =
            ap held_content is.content
            ∙ same_after_change old other same is.place is.changed also.changed changed
            ∙ ap (λ n. held_content (record other { associations = slice_set other.associations n also.changed })) same_asker.place
            ∙ sym (ap held_content also.content);
        table = table;
      }

one_probing : Laws → (body_of : Keys → Octets → Octets → Octets → Octets) (setup : Setup) (ike : ℕ) (order : Order) (old other : Held) (one two : Stepped) (a b : Held) (table another a_table b_table : Database)
    → TellsLengths body_of setup.fresh.seal → HoldWholeKeys old → held_content old ≡ held_content other → table_content table ≡ table_content another
    → AsksThat body_of setup ike order old table one a a_table → AsksThat body_of setup ike order other another two b b_table → SameLeft one two a b a_table b_table
one_probing laws body_of setup ike order old other one two a b table another a_table b_table tells whole same alike first second =
    let is = first.asks in
    let also = second.asks in
    let asker = same_asker body_of setup ike old other same one two a b is also in
    let did = laws.orders.probe body_of setup order is.association also.association is.changed also.changed is.octets also.octets tells (whole is.place is.association is.there) asker.association first.ordered second.ordered in
    left_asked body_of setup ike old other same one two a b is also a_table b_table did.0 did.1 (marked_alike order table another a_table b_table alike first.marked second.marked)

one_further : Laws → (body_of : Keys → Octets → Octets → Octets → Octets) (setup : Setup) (ike : ℕ) (local remote : Selector) (old other : Held) (one two : Stepped) (a b : Held) (table another a_table b_table : Database)
    → TellsLengths body_of setup.fresh.seal → HoldWholeKeys old → held_content old ≡ held_content other → table_content table ≡ table_content another
    → AsksFurther body_of setup ike local remote old table one a a_table → AsksFurther body_of setup ike local remote other another two b b_table → SameLeft one two a b a_table b_table
one_further laws body_of setup ike local remote old other one two a b table another a_table b_table tells whole same alike first second =
    let is = first.asks in
    let also = second.asks in
    let asker = same_asker body_of setup ike old other same one two a b is also in
    let did = laws.orders.further body_of setup local remote is.association also.association is.changed also.changed table another a_table b_table is.octets also.octets tells (whole is.place is.association is.there) asker.association alike first.further second.further in
    left_asked body_of setup ike old other same one two a b is also a_table b_table did.0 did.1 did.2

same_pair : (one other : Pair) → Some one ≡ Some other → one ≡ other
same_pair one other same = cc

one_asking : Laws → (body_of : Keys → Octets → Octets → Octets → Octets) (setup : Setup) (what : OrderView) (old other : Held) (one two : Stepped) (a b : Held) (table another a_table b_table : Database)
    → TellsLengths body_of setup.fresh.seal → HoldWholeKeys old → held_content old ≡ held_content other → table_content table ≡ table_content another
    → AsksFor body_of setup what old table one a a_table → AsksFor body_of setup what other another two b b_table → SameLeft one two a b a_table b_table
one_asking laws body_of setup (orders.Probe ike) old other one two a b table another a_table b_table tells whole same alike is also =
    one_probing laws body_of setup ike asked.Probe old other one two a b table another a_table b_table tells whole same alike is also
one_asking laws body_of setup (orders.DeleteChild serial) old other one two a b table another a_table b_table tells whole same alike is also =
    let pairs : also.pair ≡ is.pair = same_pair also.pair is.pair (sym also.there ∙ sym (ap (λ (d : Database). pair_at d.pairs serial) alike) ∙ is.there) in
    one_probing laws body_of setup is.pair.ike (asked.DeleteChild serial is.pair.inbound.association.spi) old other one two a b table another a_table b_table tells whole same alike is.asks
    (subst (λ (p : Pair). AsksThat body_of setup p.ike (asked.DeleteChild serial p.inbound.association.spi) other another two b b_table) pairs also.asks)
one_asking laws body_of setup (orders.DeleteIke ike) old other one two a b table another a_table b_table tells whole same alike is also =
    one_probing laws body_of setup ike asked.DeleteAssociation old other one two a b table another a_table b_table tells whole same alike is also

alike_after : (now : ℕ) (old other a b : Machine) → machine_content old ≡ machine_content other → a ≡ record old { moment = now; held = a.held } → b ≡ record other { moment = now; held = b.held } → held_content a.held ≡ held_content b.held
    → machine_content a ≡ machine_content b
alike_after now old other a b same is also held =
    ap machine_content is
    ∙ ap (λ (m : Machine). record m { moment = now; held = held_content a.held }) same
    ∙ ap (λ (h : Held). record (machine_content other) { moment = now; held = h }) held
    ∙ sym (ap machine_content also)

one_moment : Laws → (moment : ℕ) (old other a b : Machine) (table another a_table b_table : Database) (one two : Stepped)
    → machine_content old ≡ machine_content other → table_content table ≡ table_content another
    → TakesMoment moment old table one a a_table → TakesMoment moment other another two b b_table
    → (one ≡ two) × (machine_content a ≡ machine_content b) × (table_content a_table ≡ table_content b_table)
one_moment laws moment old other a b table another a_table b_table one two same alike is also =
    let now = max old.moment moment in
    let moments : old.moment ≡ other.moment = ap (λ (m : Machine). m.moment) same in
    let held : held_content old.held ≡ held_content other.held = ap (λ (m : Machine). m.held) same in
    let ticks : Ticks now other.held.associations another also.takes.ticked b.held.associations b_table =
    subst (λ n. Ticks (max n moment) other.held.associations another also.takes.ticked b.held.associations b_table) (sym moments) also.takes.ticks in
    let content : b ≡ record other { moment = now; held = b.held } = subst (λ n. b ≡ record other { moment = max n moment; held = b.held }) (sym moments) also.content in
    let did = laws.orders.ticks now old.held.associations other.held.associations a.held.associations b.held.associations table another a_table b_table is.takes.ticked also.takes.ticked (same_list old.held other.held held) alike is.takes.ticks ticks in
    let next : a.held.next ≡ b.held.next = is.takes.next ∙ same_next old.held other.held held ∙ sym also.takes.next in (
      is.takes.said ∙ ap (λ (t : Ticked). plain_step (output.Ticked t)) did.0 ∙ sym also.takes.said,
      alike_after now old other a b same is.content content (λ i. record { next = next i; associations = did.1 i }),
      did.2,
    )

-- ---- steps

pub same_setup : (old other : Machine) (entries : List Entry) (fresh : Fresh) → machine_content old ≡ machine_content other → setup_at other entries fresh ≡ setup_at old entries fresh
same_setup old other entries fresh same = sym (ap (λ (m : Machine). setup_at m entries fresh) same)

-- with what is held now
kept_rest : (old other a b : Machine) → machine_content old ≡ machine_content other → a ≡ record old { held = a.held } → b ≡ record other { held = b.held } → held_content a.held ≡ held_content b.held → machine_content a ≡ machine_content b
kept_rest old other a b same is also held =
    ap machine_content is
    ∙ ap (λ (m : Machine). record m { held = held_content a.held }) same
    ∙ ap (λ (h : Held). record (machine_content other) { held = h }) held
    ∙ sym (ap machine_content also)

same_whole : (one two : Stepped) (old other a b : Machine) (a_table b_table : Database) → machine_content old ≡ machine_content other → a ≡ record old { held = a.held } → b ≡ record other { held = b.held } → SameLeft one two a.held b.held a_table b_table
    → (one ≡ two) × (machine_content a ≡ machine_content b) × (table_content a_table ≡ table_content b_table)
same_whole one two old other a b a_table b_table same is also left = (left.stepped, kept_rest old other a b same is also left.held, left.table)

pub one_step : Laws → (meaning : Meaning) (entries : List Entry) (given : InputView) (old other a b : Machine) (table another a_table b_table : Database) (one two : Stepped)
    → IsTold meaning given → HoldWholeKeys old.held → machine_content old ≡ machine_content other → table_content table ≡ table_content another
    → Steps meaning entries given old table one a a_table → Steps meaning entries given other another two b b_table
    → (one ≡ two) × (machine_content a ≡ machine_content b) × (table_content a_table ≡ table_content b_table)
one_step laws meaning entries (steps.Message from octets fresh) old other a b table another a_table b_table one two told whole same alike is also =
    let by_setup : TakesDatagram meaning (setup_at old entries fresh) other.cookies from octets other.held another two b.held b_table =
    subst (λ (s : Setup). TakesDatagram meaning s other.cookies from octets other.held another two b.held b_table) (same_setup old other entries fresh same) also.1 in
    let taken : TakesDatagram meaning (setup_at old entries fresh) old.cookies from octets other.held another two b.held b_table =
    subst (λ (c : CookieSecrets). TakesDatagram meaning (setup_at old entries fresh) c from octets other.held another two b.held b_table) (sym (ap (λ (m : Machine). m.cookies) same)) by_setup in
    same_whole one two old other a b a_table b_table same is.0 also.0
    (one_datagram laws meaning (setup_at old entries fresh) old.held other.held (ap (λ (m : Machine). m.held) same) table another alike told.1 whole old.cookies from octets one two a.held b.held a_table b_table told.0 is.1 taken)
one_step laws meaning entries (Start None place fresh) old other a b table another a_table b_table one two told whole same alike is also =
    let begins : BeginsBy meaning (setup_at old entries fresh) place other.held another two b.held b_table =
    subst (λ (s : Setup). BeginsBy meaning s place other.held another two b.held b_table) (same_setup old other entries fresh same) also.1 in
    same_whole one two old other a b a_table b_table same is.0 also.0
    (one_start laws meaning (setup_at old entries fresh) old.held other.held (ap (λ (m : Machine). m.held) same) place table another one two a.held b.held a_table b_table alike is.1 begins)
one_step laws meaning entries (Start (Some ike) place fresh) old other a b table another a_table b_table one two told whole same alike is also =
    let setup : Setup = setup_at old entries fresh in
    let furthers : FurthersBy meaning setup ike place other.held another two b.held b_table =
    subst (λ (s : Setup). FurthersBy meaning s ike place other.held another two b.held b_table) (same_setup old other entries fresh same) also.1 in
    let entry : furthers.entry ≡ is.1.entry = same_choice (protecting_entry entries place) furthers.entry is.1.entry furthers.protects is.1.protects in
    let asks : AsksFurther meaning.body_of setup ike (local_side is.1.entry) (remote_side is.1.entry) other.held another two b.held b_table =
    subst (λ (e : Entry). AsksFurther meaning.body_of setup ike (local_side e) (remote_side e) other.held another two b.held b_table) entry furthers.asks in
    same_whole one two old other a b a_table b_table same is.0 also.0
    (one_further laws meaning.body_of setup ike (local_side is.1.entry) (remote_side is.1.entry) old.held other.held one two a.held b.held table another a_table b_table told whole (ap (λ (m : Machine). m.held) same) alike is.1.asks asks)
one_step laws meaning entries (steps.Order what fresh) old other a b table another a_table b_table one two told whole same alike is also =
    let asks : AsksFor meaning.body_of (setup_at old entries fresh) what other.held another two b.held b_table =
    subst (λ (s : Setup). AsksFor meaning.body_of s what other.held another two b.held b_table) (same_setup old other entries fresh same) also.1 in
    same_whole one two old other a b a_table b_table same is.0 also.0
    (one_asking laws meaning.body_of (setup_at old entries fresh) what old.held other.held one two a.held b.held table another a_table b_table told whole (ap (λ (m : Machine). m.held) same) alike is.1 asks)
one_step laws meaning entries (steps.Tick moment) old other a b table another a_table b_table one two told whole same alike is also =
    one_moment laws moment old other a b table another a_table b_table one two same alike is also
one_step laws meaning entries (Secret secret) old other a b table another a_table b_table one two told whole same alike is also = (
  is.said ∙ sym also.said,
  ap machine_content is.content ∙ ap (λ (m : Machine). record m { cookies = changed m.cookies secret }) same ∙ sym (ap machine_content also.content),
  ap table_content is.unchanged ∙ alike ∙ sym (ap table_content also.unchanged),
)
