-- How the other end answers a request, and that the response is matched where it is awaited.
use Rattle.std.proofs.Common.{◌≡◌, ◌≢◌, ◌⊎◌, ◌<◌, ◌&&◌, ◌||◌, ℕ, List, Bool, true, false, cond, not, Option, Some, None, Result, Ok, length, get_or, ap, arith, refl, subst, sym, ◌∙◌, inl, inr}
use Rattle.std.proofs.lemmas.Bool.{and_parts, both_ways, eq-eqb, eqb-true, lt-ltb, ne_eqb}
use Rattle.std.proofs.lemmas.List.Folds.{find_at}
use Rattle.std.proofs.lemmas.List.Sums.{position_or_len_is}
use Rattle.std.proofs.lemmas.Option.{get_or_from_slice_get, slice_get-get_or, slice_get_within}
use Rattle.std.specs.Cmp.{nat_cmp_total, unsigned_tied}
use Rattle.std.specs.FinMap as map
use Rattle.std.specs.List.{position_or_len, slice_get}
use Rattle.std.specs.Ordering.{nat_cmp}
use Rattle.std.specs.Prelude.{◌==◌, nat_lt, slice_set}
use Rattle.base.specs.Octets.{Octets}
use Rattle.wire.specs.Messages.{Spells, SpellsPlainly}
use Rattle.wire.specs.Numbers.{CREATE_CHILD_SA, IKE_SA_INIT, INFORMATIONAL}
use Rattle.wire.specs.Refusals.{IsFaultOf}
use Rattle.wire.specs.declared.fault.WireFault.{WireFault}
use Rattle.wire.specs.declared.message.Header.{Header}
use Rattle.wire.specs.declared.message.Message.{Message}
use Rattle.suite.specs.declared.key_record.KeyRecord.{KeyRecord}
use Rattle.suite.specs.declared.keys.Keys.{Keys}
use Rattle.exchange.specs.Sealed.{IsSealed}
use Rattle.exchange.specs.declared.headers.Role.{Role}
use Rattle.exchange.specs.declared.headers.Role.TheVariants.{Initiator, Responder}
use Rattle.exchange.specs.declared.sealed.Plain.{Plain}
use Rattle.requests.specs.Outgoing.{CountsAnswer, OwnRequests}
use Rattle.sadb.specs.Database.{Database}
use Rattle.sa_init.specs.Cookies.{CookieSecrets}
use Rattle.association.specs.Closing.{Closes}
use Rattle.association.specs.Finding.{answers_initial, has_pair, is_meant, missing, place_meant, place_or, sent_by_other}
use Rattle.association.specs.Issuing.{with_outgoing}
use Rattle.association.specs.Purposes.{exchange_of}
use Rattle.association.specs.Receiving as receiving
use Rattle.association.specs.Receiving.{opened_by, reception_by, IsReceivedBy, Opening, Reception}
use Rattle.association.specs.Sending.{reply_message}
use Rattle.association.specs.declared.fault.MessageFault.{MessageFault}
use Rattle.association.specs.declared.outcome.Answered.{Answered}
use Rattle.association.specs.declared.outcome.Ended.{Ended}
use Rattle.association.specs.declared.phase.Association.{Association}
use Rattle.association.specs.declared.phase.Phase.{Phase}
use Rattle.association.specs.declared.phase.Phase.TheVariants as phase
use Rattle.association.specs.declared.phase.Request.{Request}
use Rattle.setup.specs.Configs.{Setup}
use Rattle.informational.specs.Counting.{is_ended}
use Rattle.informational.specs.Orders.{ClosesIf}
use Rattle.create_child.specs.Counting.{EndsFurther}
use Rattle.further.specs.declared.concluding.Conclusion.{Conclusion}
use Rattle.further.specs.declared.concluding.Conclusion.TheVariants as conclusion
use Rattle.initial.specs.declared.reading.Continued.{Continued}
use Rattle.effects.specs.LawsOfKeys.{RepliesOpen}
use Rattle.effects.specs.Lengths.{HoldsWholeKeys}
use Rattle.effects.specs.Openings.{OpensAsMessage, OpensWhatItSeals}
use Rattle.effects.specs.Taking.{asked_further, Does, DoesAnswer, DoesAtEstablished, DoesRequest, DoesResponse, Meaning, Says, TakesMessage}
use Rattle.effects.specs.declared.taking.Effect.{Effect}
use Rattle.effects.specs.declared.taking.Effect.TheVariants as effect
use Rattle.ike.specs.Faults as faults
use Rattle.ike.specs.Machines.{association_of, has_serial, own_spi, spi_by_role, Held}
use Rattle.ike.specs.Outputs.{stepped_of}
use Rattle.ike.specs.Receiving.{is_initial_request, RefusesDatagram, RefusesInitial, TakesAt, TakesDatagram, TakesFound, TakesRead}
use Rattle.ike.specs.Soundness.{AreSound}
use Rattle.ike.specs.declared.fault.IkeFault.{IkeFault}
use Rattle.ike.specs.declared.fault.IkeFault.TheVariants as fault
use Rattle.ike.specs.declared.output.Stepped.{Stepped}
use Rattle.gateway.specs.Outputs as output
use Rattle.gateway.specs.Outputs.{view_of_ike}
use Rattle.laws_recovery.proofs.WaitingLemmas.{same_one}

-- ---- laws of messages

pub record MessageLaws : Type 0 where
  pub plainly : (m : Message) (b : Octets) → SpellsPlainly m b → Spells m b
  pub one_message : (m n : Message) (b : Octets) → Spells m b → Spells n b → m ≡ n
  pub no_fault : (m : Message) (b : Octets) (f : WireFault) → Spells m b → IsFaultOf b f → ⊥
  pub replies : RepliesOpen

-- ---- no request of IKE_SA_INIT

third_false : (a b c : Bool) → c ≡ false → (a && b && c) ≡ false
third_false true true c is = is
third_false true false c is = refl
third_false false b c is = refl

second_false : (a b c : Bool) → b ≡ false → (a && b && c) ≡ false
second_false true true c is = absurd cc
second_false true false c is = refl
second_false false b c is = refl

pub no_initial : (h : Header) → h.exchange ≢ IKE_SA_INIT → is_initial_request h ≡ false
no_initial h apart = third_false (h.spi_r == 0) (not h.flags.response) (h.exchange == IKE_SA_INIT) (ne_eqb h.exchange IKE_SA_INIT apart)

pub no_response : (h : Header) → h.flags.response ≡ true → is_initial_request h ≡ false
no_response h is = second_false (h.spi_r == 0) (not h.flags.response) (h.exchange == IKE_SA_INIT) (ap not is)

-- ---- the IKE SA that a message is for

pub record IsFor (h : Header) (x : Association) : Type 0 where
  pub from_other : sent_by_other x.role h.flags.initiator ≡ true
  pub spis : has_pair h x ≡ true

for_by : (s p i : Bool) (P : Type 0) → (s && (p || i)) ≡ true → i ≡ false → (s ≡ true → p ≡ true → P) → P
for_by true true i P is none then = then refl refl
for_by true false true P is none then = absurd cc
for_by true false false P is none then = absurd cc
for_by false p i P is none then = absurd cc

for_from : (s p i : Bool) → s ≡ true → p ≡ true → (s && (p || i)) ≡ true
for_from s p i one two = ap (λ (b : Bool). b && (p || i)) one ∙ ap (λ (b : Bool). b || i) two

second_of_four : (a b c d : Bool) → b ≡ false → (a && b && c && d) ≡ false
second_of_four true true c d is = absurd cc
second_of_four true false c d is = refl
second_of_four false b c d is = refl

not_initial_answer : (h : Header) (x : Association) → h.exchange ≢ IKE_SA_INIT → answers_initial h x ≡ false
not_initial_answer h x apart = second_of_four h.flags.response (h.exchange == IKE_SA_INIT) _ _ (ne_eqb h.exchange IKE_SA_INIT apart)

is_for : (h : Header) (x : Association) → h.exchange ≢ IKE_SA_INIT → is_meant h x ≡ true → IsFor h x
is_for h x apart meant =
    for_by (sent_by_other x.role h.flags.initiator) (has_pair h x) (answers_initial h x) (IsFor h x) meant (not_initial_answer h x apart)
    (λ from_other spis. record { from_other = from_other; spis = spis })

own_by : (role : Role) (initiator : Bool) (i r : ℕ) → sent_by_other role initiator ≡ true → spi_by_role role i r ≡ cond initiator r i
own_by Initiator true i r is = absurd cc
own_by Initiator false i r is = refl
own_by Responder true i r is = refl
own_by Responder false i r is = absurd cc

own_is : (h : Header) (x : Association) → IsFor h x → own_spi x ≡ cond h.flags.initiator h.spi_r h.spi_i
own_is h x is =
    let both = and_parts (x.spi_i == h.spi_i) (x.spi_r == h.spi_r) is.spis in
    own_by x.role h.flags.initiator x.spi_i x.spi_r is.from_other
    ∙ ap (λ (n : ℕ). cond h.flags.initiator x.spi_r n) (eqb-true x.spi_i h.spi_i both.0)
    ∙ ap (λ (n : ℕ). cond h.flags.initiator n h.spi_i) (eqb-true x.spi_r h.spi_r both.1)

module _ (held : Held) (table : Database) (sound : AreSound held table) (serial : ℕ) (b : Association) (there : association_of serial held.associations ≡ Some b) (h : Header) (apart : h.exchange ≢ IKE_SA_INIT) (meant : IsFor h b) where
  pub place : ℕ
  place = position_or_len (has_serial serial) held.associations

  abbrev xs : List Association
  xs = held.associations

  pub at : slice_get held.associations (position_or_len (has_serial serial) held.associations) ≡ Some b
  at = sym (find_at (has_serial serial) held.associations) ∙ there

  others : (k : ℕ) → k < position_or_len (has_serial serial) xs → (passes : Bool) → is_meant h (get_or xs k b) ≡ passes → passes ≡ false
  others k less true is =
      let within = slice_get_within xs (position_or_len (has_serial serial) xs) b at in
      let c : Association = get_or xs k b in
      let stands : slice_get xs k ≡ Some c = slice_get-get_or xs k b (omega (arith, less, within)) in
      absurd ((sound.apart k (position_or_len (has_serial serial) xs) c b less stands at).own (own_is h c (is_for h c apart is) ∙ sym (own_is h b meant)))
  others k less false is = refl

  its_place : position_or_len (is_meant h) xs ≡ position_or_len (has_serial serial) xs
  its_place =
      let within = slice_get_within xs (position_or_len (has_serial serial) xs) b at in
      position_or_len_is (is_meant h) xs (position_or_len (has_serial serial) xs) b (omega (arith, within))
      (λ k less. others k less (is_meant h (get_or xs k b)) refl)
      (λ inside. ap (is_meant h) (get_or_from_slice_get xs (position_or_len (has_serial serial) xs) b b at)
      ∙ for_from (sent_by_other b.role h.flags.initiator) (has_pair h b) (answers_initial h b) meant.from_other meant.spis)

  pub found_place : place_meant h held.associations ≡ Ok (position_or_len (has_serial serial) held.associations)
  found_place =
      let within = slice_get_within xs (position_or_len (has_serial serial) xs) b at in
      ap (λ (n : ℕ). place_or (cond (nat_lt n (length xs)) (Some n) None) (missing h xs)) its_place
      ∙ ap (λ (c : Bool). place_or (cond c (Some (position_or_len (has_serial serial) xs)) None) (missing h xs)) (lt-ltb (position_or_len (has_serial serial) xs) (length xs) within)

-- ---- that IKE SA takes it

pub record Taken (meaning : Meaning) (setup : Setup) (octets : Octets) (m : Message) (held : Held) (table : Database) (stepped : Stepped) (new : Held) (new_table : Database) (serial : ℕ) (b : Association) : Type 0 where
  pub effect : Effect
  pub changed : Association
  pub takes : TakesMessage meaning setup b table octets m effect changed new_table
  pub said : stepped ≡ stepped_of b.serial m.header.id effect
  pub after : new.associations ≡ slice_set held.associations (position_or_len (has_serial serial) held.associations) changed

module _ (laws : MessageLaws) (meaning : Meaning) (setup : Setup) (cookies : CookieSecrets) (from octets : Octets) (held : Held) (table : Database) (stepped : Stepped) (new : Held) (new_table : Database)
    (sound : AreSound held table) (serial : ℕ) (b : Association) (there : association_of serial held.associations ≡ Some b) (m : Message) (spelled : Spells m octets)
    (apart : m.header.exchange ≢ IKE_SA_INIT) (initial : is_initial_request m.header ≡ false) (meant : IsFor m.header b) where
  abbrev TakenHere : Type 0
  TakenHere = Taken meaning setup octets m held table stepped new new_table serial b

  by_place : TakesAt (position_or_len (has_serial serial) held.associations) meaning setup octets m held table stepped new new_table → TakenHere
  by_place t =
      let same : t.association ≡ b = same_one t.association b (sym t.there ∙ at held table sound serial b there m.header apart meant) in
      record {
        effect = t.effect;
        changed = t.changed;
        takes = subst (λ (a : Association). TakesMessage meaning setup a table octets m t.effect t.changed new_table) same t.takes;
        said = t.said ∙ ap (λ (a : Association). stepped_of a.serial m.header.id t.effect) same;
        after = ap (λ (h : Held). h.associations) t.content;
      }

  by_read : TakesRead (is_initial_request m.header) meaning setup cookies from octets m held table stepped new new_table → TakenHere
  by_read done =
      let finds : TakesFound (place_meant m.header held.associations) meaning setup octets m held table stepped new new_table =
      subst (λ (c : Bool). TakesRead c meaning setup cookies from octets m held table stepped new new_table) initial done in
      by_place (subst (λ (r : Result ℕ MessageFault). TakesFound r meaning setup octets m held table stepped new new_table) (found_place held table sound serial b there m.header apart meant) finds)

  pub takes_it : TakesDatagram meaning setup cookies from octets held table stepped new new_table → TakenHere
  takes_it (inl fails) = absurd (laws.no_fault m octets fails.reason spelled fails.is)
  takes_it (inr reads) =
      let same : reads.message ≡ m = laws.one_message reads.message m octets reads.spelled spelled in
      by_read (subst (λ (n : Message). TakesRead (is_initial_request n.header) meaning setup cookies from octets n held table stepped new new_table) same reads.done)

  not_refused : (why : IkeFault) → RefusesInitial meaning setup cookies from octets held why → ⊥
  not_refused why refuses =
      let same : refuses.message ≡ m = laws.one_message refuses.message m octets refuses.spelled spelled in
      both_ways (is_initial_request m.header) initial (ap (λ (n : Message). is_initial_request n.header) (sym same) ∙ refuses.initial)

  -- it is refused for memory alone
  pub refused_for : (why : IkeFault) → RefusesDatagram meaning setup cookies from octets held table why → faults.is_want_of_memory why ≡ true
  refused_for (fault.Memory f) refuses = refl
  refused_for (fault.Unread f) refuses = absurd (not_refused (fault.Unread f) refuses)
  refused_for (fault.Message f) refuses = absurd (not_refused (fault.Message f) refuses)
  refused_for fault.Unprotected refuses = absurd (not_refused fault.Unprotected refuses)
  refused_for fault.Crowded refuses = absurd (not_refused fault.Crowded refuses)
  refused_for fault.TableFull refuses = absurd (not_refused fault.TableFull refuses)
  refused_for fault.SpisSpent refuses = absurd (not_refused fault.SpisSpent refuses)
  refused_for fault.HalfOpenFull refuses = absurd (not_refused fault.HalfOpenFull refuses)
  refused_for fault.Busy refuses = absurd (not_refused fault.Busy refuses)
  refused_for fault.NumbersSpent refuses = absurd (not_refused fault.NumbersSpent refuses)
  refused_for fault.BadFresh refuses = absurd (not_refused fault.BadFresh refuses)

-- ---- how a request is answered

pub record SaysReply (e : Effect) (reply : Octets) : Type 0 where
  pub answered : Answered
  pub is : e ≡ effect.Replied answered
  pub octets : answered.octets ≡ reply

pub says_reply : (e : Effect) (serial number : ℕ) (reply : Octets) (closed : Option ℕ) → view_of_ike (stepped_of serial number e).output ≡ output.Reply reply closed → SaysReply e reply
says_reply (effect.Refused f) serial number reply closed is = absurd cc
says_reply (effect.Repeated octets) serial number reply closed is = absurd cc
says_reply (effect.Replied answered) serial number reply closed is = record { answered = answered; is = refl; octets = cc }
says_reply (effect.Again octets) serial number reply closed is = absurd cc
says_reply (effect.AsksAuth octets) serial number reply closed is = absurd cc
says_reply (effect.Counted ended) serial number reply closed is = absurd cc

-- what the response says of itself
pub record Answers (plain_of : Opening) (b : Association) (exchange number : ℕ) (reply : Octets) : Type 0 where
  pub opens : OpensAsMessage plain_of b b.role true number reply
  pub exchange_is : opens.message.header.exchange ≡ exchange

module _ (laws : MessageLaws) (meaning : Meaning) (setup : Setup) (b : Association) (table : Database) (octets : Octets) (m : Message) (answered : Answered) (changed : Association) (new_table : Database)
    (keys : KeyRecord) (established : b.phase ≡ phase.Established keys) (later : (m.header.exchange ≡ INFORMATIONAL) ⊎ (m.header.exchange ≡ CREATE_CHILD_SA)) where
  abbrev IsOfExchange : Type 0
  IsOfExchange = (n : Message) → Spells n answered.octets → n.header.exchange ≡ m.header.exchange

  by_sealed : (body : Keys) (fresh : Octets) (exchange : ℕ) (a : Association) (payloads : List _) → exchange ≡ m.header.exchange
      → IsSealed meaning.body_of body fresh (reply_message a exchange m.header.id payloads) answered.octets → IsOfExchange
  by_sealed body fresh exchange a payloads same sealed = λ n spelled.
      ap (λ (x : Message). x.header.exchange) (laws.one_message n _ answered.octets spelled (laws.plainly _ answered.octets sealed.whole)) ∙ same

  by_kind : (c : Bool) (plain : Plain) → (m.header.exchange == INFORMATIONAL) ≡ c → DoesAtEstablished c meaning setup b table m.header.id plain (effect.Replied answered) changed new_table → IsOfExchange
  by_kind true plain is does = by_sealed _ _ INFORMATIONAL b _ (sym (eqb-true m.header.exchange INFORMATIONAL is)) does.sealed
  by_kind false plain is does = by_sealed _ _ CREATE_CHILD_SA b _ (elim later [
    | inl one ↦ absurd (both_ways (m.header.exchange == INFORMATIONAL) is (eq-eqb m.header.exchange INFORMATIONAL one))
    | inr other ↦ sym other
  ]) does.sealed

  no_answer : (c : Bool) (plain : Plain) → DoesAnswer c setup b table m.header.id plain (effect.Replied answered) changed new_table → ⊥
  no_answer true plain does = does
  no_answer false plain does = does

  no_initial_answer : (c : Continued) → Says (effect.Replied answered) c → ⊥
  no_initial_answer c says = says

  by_reception : (r : Reception) → Does meaning setup b table octets m r (effect.Replied answered) changed new_table → IsOfExchange
  by_reception (receiving.Refused f) does = absurd does
  by_reception (receiving.Repeat reply) does = absurd does
  by_reception (receiving.TakesEffect plain) does =
      by_kind (m.header.exchange == INFORMATIONAL) plain refl
      (subst (λ (p : Phase). DoesRequest meaning setup p m.header.exchange b table m.header.id plain (effect.Replied answered) changed new_table) established does)
  by_reception (receiving.Answers plain) does =
      absurd (no_answer (asked_further b m.header.id) plain
      (subst (λ (p : Phase). DoesResponse meaning setup p b table m.header.id plain (effect.Replied answered) changed new_table) established does))
  by_reception receiving.AnswersInitial does = absurd (no_initial_answer does.0.continued does.0.said)

  pub answers_so : OpensWhatItSeals meaning.body_of meaning.plain_of setup.fresh.seal → HoldsWholeKeys b.phase → TakesMessage meaning setup b table octets m (effect.Replied answered) changed new_table
      → Answers meaning.plain_of b m.header.exchange m.header.id answered.octets
  answers_so opens whole takes =
      let opened = laws.replies meaning setup b table octets m answered changed new_table opens whole takes in
      record { opens = opened; exchange_is = by_reception takes.reception takes.done opened.message opened.spelled }

-- ---- how a response is matched

removed : (m : map.FinMap nat_cmp Request) (n : ℕ) → map.get (map.remove m n) n ≡ None
removed m n = map.get-remove nat_cmp_total m n n ∙ ap (λ (b : Bool). cond b None (map.get m n)) (unsigned_tied n n ∙ eq-eqb n n refl)

pub record Matched (serial number : ℕ) (e : Effect) (changed : Association) : Type 0 where
  pub ended : Ended
  pub is : e ≡ effect.Counted ended
  pub gone : map.get changed.outgoing.outstanding number ≡ None
  pub serial_is : changed.serial ≡ serial

module _ (meaning : Meaning) (setup : Setup) (d : Association) (table : Database) (octets : Octets) (m : Message) (changed : Association) (new_table : Database) where
  counted_out : (request : Request) (outgoing : OwnRequests Request) → CountsAnswer d.outgoing m.header.id request outgoing → map.get outgoing.outstanding m.header.id ≡ None
  counted_out request outgoing counts = ap (λ (o : OwnRequests Request). map.get o.outstanding m.header.id) counts.content ∙ removed d.outgoing.outstanding m.header.id

  closed_out : (old : Association) (before : Database) (moment : ℕ) → Closes old before moment changed new_table → map.get changed.outgoing.outstanding m.header.id ≡ None
  closed_out old before moment closes = ap (λ (o : OwnRequests Request). map.get o.outstanding m.header.id) closes.requests.content ∙ map.get-empty nat_cmp m.header.id

  by_closes : (c : Bool) (serials : List ℕ) (moment : ℕ) (request : Request) (outgoing : OwnRequests Request) (ended : Ended) → CountsAnswer d.outgoing m.header.id request outgoing
      → ClosesIf c serials (with_outgoing d outgoing) table moment changed new_table → Matched d.serial m.header.id (effect.Counted ended) changed
  by_closes true serials moment request outgoing ended counts closes = record {
    ended = ended;
    is = refl;
    gone = closed_out (with_outgoing d outgoing) table moment closes;
    serial_is = ap (λ (a : Association). a.serial) closes.content;
  }
  by_closes false serials moment request outgoing ended counts stays = record {
    ended = ended;
    is = refl;
    gone = ap (λ (a : Association). map.get a.outgoing.outstanding m.header.id) stays.0 ∙ counted_out request outgoing counts;
    serial_is = ap (λ (a : Association). a.serial) stays.0;
  }

  by_conclusion : (c : Conclusion) (spi moment : ℕ) (request : Request) (outgoing : OwnRequests Request) (ended : Ended) → CountsAnswer d.outgoing m.header.id request outgoing
      → EndsFurther c spi (with_outgoing d outgoing) table moment ended.fate changed new_table → Matched d.serial m.header.id (effect.Counted ended) changed
  by_conclusion conclusion.Closes spi moment request outgoing ended counts ends = record {
    ended = ended;
    is = refl;
    gone = closed_out (with_outgoing d outgoing) ends.between moment ends.over;
    serial_is = ap (λ (a : Association). a.serial) ends.over.content;
  }
  by_conclusion (conclusion.Made pair) spi moment request outgoing ended counts ends = record {
    ended = ended;
    is = refl;
    gone = ap (λ (a : Association). map.get a.outgoing.outstanding m.header.id) ends.same ∙ counted_out request outgoing counts;
    serial_is = ap (λ (a : Association). a.serial) ends.same;
  }
  by_conclusion conclusion.NoChild spi moment request outgoing ended counts ends = record {
    ended = ended;
    is = refl;
    gone = ap (λ (a : Association). map.get a.outgoing.outstanding m.header.id) ends.same ∙ counted_out request outgoing counts;
    serial_is = ap (λ (a : Association). a.serial) ends.same;
  }

  by_answer : (c : Bool) (plain : Plain) (e : Effect) → DoesAnswer c setup d table m.header.id plain e changed new_table → Matched d.serial m.header.id e changed
  by_answer true plain (effect.Counted ended) does = by_conclusion does.conclusion does.further.child.spi setup.moment does.request does.outgoing ended does.counted does.ends
  by_answer true plain (effect.Refused f) does = absurd does
  by_answer true plain (effect.Repeated o) does = absurd does
  by_answer true plain (effect.Replied answered) does = absurd does
  by_answer true plain (effect.Again o) does = absurd does
  by_answer true plain (effect.AsksAuth o) does = absurd does
  by_answer false plain (effect.Counted ended) does = by_closes (is_ended does.payloads does.request.purpose) _ setup.moment does.request does.outgoing ended does.counted does.concluded
  by_answer false plain (effect.Refused f) does = absurd does
  by_answer false plain (effect.Repeated o) does = absurd does
  by_answer false plain (effect.Replied answered) does = absurd does
  by_answer false plain (effect.Again o) does = absurd does
  by_answer false plain (effect.AsksAuth o) does = absurd does

  -- a response to a request that waits, of its exchange, which opens
  pub matches : (keys : KeyRecord) (request : Request) (plain : Plain) (e : Effect) → d.phase ≡ phase.Established keys → m.header.flags.response ≡ true → map.get d.outgoing.outstanding m.header.id ≡ Some request
      → exchange_of request.purpose ≡ m.header.exchange → opened_by meaning.plain_of d octets m.payloads ≡ Some plain → TakesMessage meaning setup d table octets m e changed new_table
      → Matched d.serial m.header.id e changed
  matches keys request plain e established response waits exchange opened takes =
      let received : takes.reception ≡ reception_by d.phase m.header.exchange (map.get d.outgoing.outstanding m.header.id) (opened_by meaning.plain_of d octets m.payloads) =
      subst (λ (r : Bool). IsReceivedBy r meaning.plain_of d octets m takes.reception) response takes.received in
      let is : takes.reception ≡ receiving.Answers plain =
      received
      ∙ ap (λ (p : Phase). reception_by p m.header.exchange (map.get d.outgoing.outstanding m.header.id) (opened_by meaning.plain_of d octets m.payloads)) established
      ∙ ap (λ (o : Option Request). reception_by (phase.Established keys) m.header.exchange o (opened_by meaning.plain_of d octets m.payloads)) waits
      ∙ ap (λ (c : Bool). receiving.answering_reception (phase.Established keys) c (opened_by meaning.plain_of d octets m.payloads)) (eq-eqb (exchange_of request.purpose) m.header.exchange exchange)
      ∙ ap (λ (o : Option Plain). receiving.answering_reception (phase.Established keys) true o) opened in
      let does : Does meaning setup d table octets m (receiving.Answers plain) e changed new_table = subst (λ (r : Reception). Does meaning setup d table octets m r e changed new_table) is takes.done in
      by_answer (asked_further d m.header.id) plain e (subst (λ (p : Phase). DoesResponse meaning setup p d table m.header.id plain e changed new_table) established does)
