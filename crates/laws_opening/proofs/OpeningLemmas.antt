-- The steps in a row: three, or five under load.
use Rattle.std.proofs.Common.{◌≡◌, ◌≢◌, ℕ, false, None, Some, ap, refl, subst, sym, ◌∙◌}
use Rattle.base.specs.Octets.{Octets}
use Rattle.wire.specs.Messages.{SpellsPlainly}
use Rattle.policy.specs.declared.entry.Entry.{Entry}
use Rattle.suite.specs.declared.agreement.Agreement as Agreement
use Rattle.suite.specs.declared.fresh.Fresh.{Fresh}
use Rattle.suite.specs.declared.proof.Proof as Proof
use Rattle.suite.specs.declared.sealer.Sealer as Sealer
use Rattle.sadb.specs.Database.{empty_table}
use Rattle.sa_init.specs.Cookies.{IsRightCookie}
use Rattle.association.specs.Admitting.{half_open}
use Rattle.association.specs.AskedChildren.{AskedChildView}
use Rattle.effects.specs.Taking.{meaning_of, Meaning}
use Rattle.ike.specs.Starting.{protecting_entry}
use Rattle.gateway.specs.Histories.{IsPassage, Passage}
use Rattle.gateway.specs.Outputs.{wants_memory, OutputView, Reply, Request}
use Rattle.gateway.specs.Inputs as input
use Rattle.gateway.specs.States.{State}
use Rattle.laws_opening.specs.Beside.{next_child, AnswersBeside, AsksBeside, CanAnswer, CanBegin, IsExchangeBeside, OpensBeside, StillWaits, TakesUpBeside}
use Rattle.laws_opening.specs.Opened.{holding, reserved_table, waiting, Opening, Side}
use Rattle.laws_opening.specs.Opening.{Answers, Asks, CanOpen, HasOpened, IsAnswered, IsAsked, IsExchange, IsToldToBegin, PutsOut, TakesUp}
use Rattle.laws_opening.specs.Exchanged.{answering_message, asking_message, keys_from, IsDrawn}
use Rattle.laws_opening.specs.UnderLoad.{asking_with, cookie_for, cookie_message, AsksForCookie, BringsBeside, CanAnswerUnderLoad, CanBring, HasCookieLength, IsExchangeUnderLoad, IsUnderLoad, OpensUnderLoad}
use Rattle.laws_opening.proofs.AnsweringLemmas.{new_can_answer}
use Rattle.laws_opening.proofs.AskingLemmas.{asks_beside, new_can_begin, still_waits}
use Rattle.laws_opening.proofs.CookieLemmas.{still_right}

-- an exchange of two new gateways is one of two gateways
pub is_beside : {C : Type 0} (meaning_of : C → Meaning) (meaning : Meaning) (one other : Side) (a b : C) (place : ℕ) (entry : Entry) (asking answering reading : Fresh)
    (shared : Octets) (p q r : Passage C) → CanOpen meaning one place entry asking answering shared
    → IsExchange meaning_of one other a b place asking answering reading p q r → IsExchangeBeside meaning_of place entry asking answering reading p q r
is_beside {C} meaning_of meaning one other a b place entry asking answering reading shared p q r can is =
    let can_begin : CanBegin place entry asking p.before = subst (λ (s : State C). CanBegin place entry asking s) (sym is.told.new)
    (new_can_begin one a place entry asking can.protects can.asking_drawn.nonzero) in
    let asked = asks_beside meaning_of place entry asking p is.begins is.told.given is.told.memory can_begin in
    let sent : asked.request ≡ is.request = subst (λ (said : OutputView). PutsOut said is.request) asked.said is.sent in
    record {
      begins = is.begins;
      told = is.told.given;
      can_begin = can_begin;
      memory = is.told.memory;
      request = is.request;
      sent = is.sent;
      answers = is.answers;
      address = is.asked.address;
      asked = is.asked.given;
      can_answer = subst (λ (s : State C). CanAnswer is.request answering.spi s.machine.held) (sym is.asked.new)
          (new_can_answer is.request answering can.answering_drawn.nonzero);
      memory_there = is.asked.memory;
      response = is.response;
      sent_back = is.sent_back;
      reads = is.reads;
      address_back = is.address;
      given = is.given;
      waits = subst (λ (s : State C). StillWaits asking is.request (next_child entry p.before) s.machine.held) (sym is.waits)
          (subst (λ (octets : Octets). StillWaits asking octets (next_child entry p.before) p.after.machine.held) sent
          (still_waits (meaning_of p.before.caller) entry asking p asked));
      memory_back = is.memory;
    }

-- what is put out as a request, or as a response, is what was sent
request_sent : (said : OutputView) (serial : ℕ) (octets sent : Octets) → said ≡ Request serial octets → PutsOut said sent → octets ≡ sent
request_sent said serial octets sent is puts = subst (λ (x : OutputView). PutsOut x sent) is puts

reply_sent : (said : OutputView) (octets sent : Octets) → said ≡ Reply octets None → PutsOut said sent → octets ≡ sent
reply_sent said octets sent is puts = subst (λ (x : OutputView). PutsOut x sent) is puts

-- what the laws of the three steps say, of these callers
module _ {C : Type 0} (sealer : Sealer.Ghosts C) (agreement : Agreement.Ghosts C) (proof : Proof.Ghosts C) where
  abbrev means : C → Meaning
  means = meaning_of sealer agreement proof

  abbrev pub EachAsks : Type 0
  EachAsks =
      (side : Side) (caller : C) (place : ℕ) (entry : Entry) (asking : Fresh) (p : Passage C) → IsPassage means p → IsToldToBegin side caller place asking p
      → protecting_entry side.entries place ≡ Some entry → asking.spi ≢ 0 → Asks (means caller) side caller asking entry p

  abbrev pub EachAnswers : Type 0
  EachAnswers =
      (side : Side) (caller : C) (asking answering : Fresh) (shared request : Octets) (q : Passage C) → IsPassage means q
      → IsAsked side caller request answering q → SpellsPlainly (asking_message (means caller) asking) request → asking.spi ≢ 0 → answering.spi ≢ 0
      → agreement.shared_secret answering.secret (agreement.public_value asking.secret) ≡ Some shared
      → Answers (means caller) side caller asking answering shared request q

  abbrev pub EachTakesUp : Type 0
  EachTakesUp =
      (side : Side) (caller : C) (o : Opening) (shared : Octets) (room : ℕ) (reading : Fresh) (r : Passage C) → IsPassage means r
      → IsAnswered side caller o room reading r → SpellsPlainly (answering_message (means caller) o.asking o.answering) o.response → IsDrawn o.asking
      → IsDrawn o.answering → agreement.shared_secret o.answering.secret (agreement.public_value o.asking.secret) ≡ Some shared
      → o.keys ≡ keys_from shared o.asking o.answering → TakesUp (means caller) side caller o room reading r

  module _ (each_asks : EachAsks) (each_answers : EachAnswers) (each_takes_up : EachTakesUp) where
    pub opens : (one other : Side) (a b : C) (place : ℕ) (entry : Entry) (asking answering reading : Fresh) (shared : Octets) (p q r : Passage C)
        → CanOpen (means a) one place entry asking answering shared → IsExchange means one other a b place asking answering reading p q r
        → HasOpened (means a) one other a b entry asking answering reading shared p q r
    opens one other a b place entry asking answering reading shared p q r can is =
        let asked = each_asks one a place entry asking p is.begins is.told can.protects can.asking_drawn.nonzero in
        let sent : asked.request ≡ is.request = subst (λ (said : OutputView). PutsOut said is.request) asked.said is.sent in
        let asked_spelled : SpellsPlainly (asking_message (means a) asking) is.request =
        subst (λ (octets : Octets). SpellsPlainly (asking_message (means a) asking) octets) sent asked.spelled in
        let answered = each_answers other b asking answering shared is.request q is.answers is.asked asked_spelled can.asking_drawn.nonzero can.answering_drawn.nonzero
        can.agrees in
        let sent_back : answered.response ≡ is.response = subst (λ (said : OutputView). PutsOut said is.response) answered.said is.sent_back in
        let answer_spelled : SpellsPlainly (answering_message (means a) asking answering) is.response =
        subst (λ (octets : Octets). SpellsPlainly (answering_message (means a) asking answering) octets) sent_back answered.spelled in
        let o : Opening = record {
          asking = asking;
          answering = answering;
          entry = entry;
          keys = keys_from shared asking answering;
          request = is.request;
          response = is.response;
          spare = 0;
        } in
        let waits : r.before ≡ holding one (waiting one asking entry is.request asked.spare) (reserved_table one.start asked.room) a =
        is.waits ∙ asked.after
        ∙ ap (λ (octets : Octets). holding one (waiting one asking entry octets asked.spare) (reserved_table one.start asked.room) a) sent in
        let told = each_takes_up one a o shared asked.room reading r is.reads
        (record { spare = asked.spare; waits = waits; address = is.address; given = is.given; memory = is.memory }) answer_spelled can.asking_drawn
        can.answering_drawn can.agrees refl in
        record {
          opening = record o { spare = told.spare };
          asking_is = refl;
          answering_is = refl;
          entry_is = refl;
          keys_are = refl;
          asked = asked.said ∙ ap (λ (octets : Octets). Request 1 octets) sent;
          asked_spelled = asked_spelled;
          answered = answered.said ∙ ap (λ (octets : Octets). Reply octets None) sent_back;
          answer_spelled = answer_spelled;
          auth = told.auth;
          told = told.said;
          sealed = told.sealed;
          room = asked.room;
          responder = answered.after
              ∙ ap (λ (octets : Octets). holding other (half_open 1 asking.spi answering.spi (keys_from shared asking answering) is.request octets 0)
              (empty_table other.start) b) sent_back;
          initiator = told.after;
        }

  -- ---- at gateways that may hold other IKE SAs

  abbrev pub EachAsksBeside : Type 0
  EachAsksBeside =
      (place : ℕ) (entry : Entry) (asking : Fresh) (p : Passage C) → IsPassage means p → p.given ≡ input.Start None place asking → wants_memory p.said ≡ false
      → CanBegin place entry asking p.before → AsksBeside (means p.before.caller) entry asking p

  abbrev pub EachAnswersBeside : Type 0
  EachAnswersBeside =
      (asking answering : Fresh) (shared address request : Octets) (q : Passage C) → IsPassage means q → q.given ≡ input.Ike address request answering
      → wants_memory q.said ≡ false → CanAnswer request answering.spi q.before.machine.held
      → SpellsPlainly (asking_message (means q.before.caller) asking) request → asking.spi ≢ 0
      → agreement.shared_secret answering.secret (agreement.public_value asking.secret) ≡ Some shared
      → AnswersBeside (means q.before.caller) asking answering shared request q

  abbrev pub EachTakesUpBeside : Type 0
  EachTakesUpBeside =
      (asking answering reading : Fresh) (shared address request response : Octets) (child : AskedChildView) (r : Passage C) → IsPassage means r
      → r.given ≡ input.Ike address response reading → wants_memory r.said ≡ false → (waits : StillWaits asking request child r.before.machine.held)
      → SpellsPlainly (answering_message (means r.before.caller) asking answering) response → IsDrawn asking → IsDrawn answering
      → agreement.shared_secret answering.secret (agreement.public_value asking.secret) ≡ Some shared
      → TakesUpBeside (means r.before.caller) asking answering reading (keys_from shared asking answering) request response child r waits

  module _ (each_asks : EachAsksBeside) (each_answers : EachAnswersBeside) (each_takes_up : EachTakesUpBeside) where
    pub opens_beside : (place : ℕ) (entry : Entry) (asking answering reading : Fresh) (shared : Octets) (p q r : Passage C)
        → (is : IsExchangeBeside means place entry asking answering reading p q r) → IsDrawn asking → IsDrawn answering
        → agreement.shared_secret answering.secret (agreement.public_value asking.secret) ≡ Some shared
        → OpensBeside means place entry asking answering reading shared p q r is
    opens_beside place entry asking answering reading shared p q r is asking_drawn answering_drawn agrees =
        let asked = each_asks place entry asking p is.begins is.told is.memory is.can_begin in
        let sent : asked.request ≡ is.request = subst (λ (said : OutputView). PutsOut said is.request) asked.said is.sent in
        let answered = each_answers asking answering shared is.address is.request q is.answers is.asked is.memory_there is.can_answer
        (subst (λ (octets : Octets). SpellsPlainly (asking_message (means q.before.caller) asking) octets) sent asked.spelled) asking_drawn.nonzero agrees in
        let sent_back : answered.response ≡ is.response = subst (λ (said : OutputView). PutsOut said is.response) answered.said is.sent_back in
        record {
          asks = asked;
          request_is = sent;
          answers = answered;
          response_is = sent_back;
          takes_up = each_takes_up asking answering reading shared is.address_back is.request is.response (next_child entry p.before) r is.reads is.given is.memory_back
              is.waits (subst (λ (octets : Octets). SpellsPlainly (answering_message (means r.before.caller) asking answering) octets) sent_back answered.spelled)
              asking_drawn answering_drawn agrees;
        }

  -- ---- at a gateway under load

  abbrev pub EachAsksForCookie : Type 0
  EachAsksForCookie =
      (asking delaying : Fresh) (address request : Octets) (q : Passage C) → IsPassage means q → q.given ≡ input.Ike address request delaying
      → wants_memory q.said ≡ false → IsUnderLoad request q.before.machine.held → SpellsPlainly (asking_message (means q.before.caller) asking) request
      → asking.spi ≢ 0 → AsksForCookie asking address q

  abbrev pub EachBrings : Type 0
  EachBrings =
      (asking bringing : Fresh) (address request notice cookie : Octets) (child : AskedChildView) (r : Passage C) → IsPassage means r
      → r.given ≡ input.Ike address notice bringing → wants_memory r.said ≡ false → (waits : StillWaits asking request child r.before.machine.held)
      → SpellsPlainly (cookie_message asking cookie) notice → HasCookieLength cookie → CanBring waits.sent cookie
      → BringsBeside (means r.before.caller) asking request cookie child r waits

  abbrev pub EachAccepts : Type 0
  EachAccepts =
      (asking answering : Fresh) (cookie shared address request : Octets) (q : Passage C) → IsPassage means q → q.given ≡ input.Ike address request answering
      → wants_memory q.said ≡ false → CanAnswerUnderLoad request answering.spi q.before.machine.held
      → IsRightCookie q.before.machine.cookies asking.nonce address asking.spi cookie
      → SpellsPlainly (asking_with (means q.before.caller) asking (Some cookie)) request → asking.spi ≢ 0
      → agreement.shared_secret answering.secret (agreement.public_value asking.secret) ≡ Some shared
      → AnswersBeside (means q.before.caller) asking answering shared request q

  module _ (each_asks : EachAsksBeside) (each_asks_for_cookie : EachAsksForCookie) (each_brings : EachBrings) (each_accepts : EachAccepts)
      (each_takes_up : EachTakesUpBeside) where
    pub opens_under_load : (place : ℕ) (entry : Entry) (asking delaying bringing answering reading : Fresh) (shared : Octets) (p l b q r : Passage C)
        → (is : IsExchangeUnderLoad means place entry asking delaying bringing answering reading p l b q r) → IsDrawn asking → IsDrawn answering
        → agreement.shared_secret answering.secret (agreement.public_value asking.secret) ≡ Some shared
        → OpensUnderLoad means place entry asking delaying bringing answering reading shared p l b q r is
    opens_under_load place entry asking delaying bringing answering reading shared p l b q r is asking_drawn answering_drawn agrees =
        let child = next_child entry p.before in
        let secrets = l.before.machine.cookies in
        let cookie = cookie_for secrets asking is.address in
        let asked = each_asks place entry asking p is.begins is.told is.memory is.can_begin in
        let sent : asked.request ≡ is.request = request_sent p.said p.before.machine.held.next asked.request is.request asked.said is.sent in
        let delayed = each_asks_for_cookie asking delaying is.address is.request l is.delays is.asked is.memory_under_load is.under_load
        (subst (λ (octets : Octets). SpellsPlainly (asking_message (means l.before.caller) asking) octets) sent asked.spelled) asking_drawn.nonzero in
        let noticed : delayed.notice ≡ is.notice = reply_sent l.said delayed.notice is.notice delayed.said is.sent_notice in
        let brought = each_brings asking bringing is.address_of_notice is.request is.notice cookie child b is.brings is.noticed is.memory_again is.waits
        (subst (λ (octets : Octets). SpellsPlainly (cookie_message asking cookie) octets) noticed delayed.spelled) delayed.long is.can_bring in
        let sent_again : brought.again ≡ is.again = request_sent b.said is.waits.association.serial brought.again is.again brought.said is.sent_again in
        let answered = each_accepts asking answering cookie shared is.address is.again q is.answers is.asked_again is.memory_there is.can_answer
        (still_right secrets q.before.machine.cookies asking is.address is.still_known)
        (subst (λ (octets : Octets). SpellsPlainly (asking_with (means q.before.caller) asking (Some cookie)) octets) {x = brought.again} sent_again brought.spelled)
        asking_drawn.nonzero agrees in
        let sent_back : answered.response ≡ is.response = reply_sent q.said answered.response is.response answered.said is.sent_back in
        record {
          asks = asked;
          request_is = sent;
          asks_for_cookie = delayed;
          notice_is = noticed;
          brings = brought;
          again_is = sent_again;
          answers = answered;
          response_is = sent_back;
          takes_up = each_takes_up asking answering reading shared is.address_back is.again is.response child r is.reads is.given is.memory_back is.waits_again
              (subst (λ (octets : Octets). SpellsPlainly (answering_message (means r.before.caller) asking answering) octets) {x = answered.response} sent_back answered.spelled)
              asking_drawn answering_drawn agrees;
        }
