-- IKE_SA_INIT at a gateway under load (RFC 7296 section 2.6): it takes one round more, in which a cookie is
-- asked for and brought. All else that both gateways hold stays as it is.
use Rattle.std.specs.Prelude.{◌≡◌, ◌≢◌, ◌+◌, ◌<◌, ◌≤◌, ℕ, false, length, None, Option, Some}
use Rattle.std.specs.FinMap as map
use Rattle.std.specs.List.{position}
use Rattle.base.specs.Octets.{Octets}
use Rattle.wire.specs.Messages.{SpellsPlainly}
use Rattle.wire.specs.declared.message.Message.{Message}
use Rattle.policy.specs.declared.entry.Entry.{Entry}
use Rattle.suite.specs.declared.fresh.Fresh.{Fresh}
use Rattle.exchange.specs.declared.notices.Notice.TheVariants.{Cookie}
use Rattle.sa_init.specs.Cookies.{new_cookie, secret_of, CookieSecrets}
use Rattle.sa_init.specs.Judging.{ASSOCIATION_LIMIT, COOKIE_THRESHOLD, HALF_OPEN_LIMIT}
use Rattle.sa_init.specs.Messages.{notice_message, request_message}
use Rattle.sa_init.specs.Reading.{COOKIES_TAKEN_LIMIT}
use Rattle.association.specs.AskedChildren.{AskedChildView}
use Rattle.association.specs.Issuing.{new_request}
use Rattle.association.specs.declared.phase.Association.{Association}
use Rattle.association.specs.declared.phase.InitSent.{InitSent}
use Rattle.association.specs.declared.phase.Phase.TheVariants as phase
use Rattle.association.specs.declared.purpose.Purpose.TheVariants.{Begin}
use Rattle.effects.specs.Taking.{Meaning}
use Rattle.ike.specs.Machines.{half_open_count, is_bad_spi, Held, SERIAL_END}
use Rattle.ike.specs.Receiving.{is_answered}
use Rattle.gateway.specs.Histories.{IsPassage, Passage}
use Rattle.gateway.specs.Inputs as input
use Rattle.gateway.specs.Outputs.{wants_memory, Reply, Request}
use Rattle.laws_opening.specs.Beside.{next_child, with_at, AnswersBeside, AsksBeside, CanBegin, StillWaits, TakesUpBeside}
use Rattle.laws_opening.specs.Exchanged.{keys_from}
use Rattle.laws_opening.specs.Opening.{PutsOut}

-- ---- the messages

-- the initiator's request, with the cookie that it brings, if any, as its first payload; with none it is
-- `asking_message`
abbrev pub asking_with : Meaning → Fresh → Option Octets → Message
asking_with meaning asking cookie = request_message meaning.cipher meaning.group (meaning.public_value asking.secret) asking.spi cookie asking.nonce

-- the cookie that a gateway with these secrets asks of the one whose request comes from this address
abbrev pub cookie_for : CookieSecrets → Fresh → Octets → Octets
cookie_for secrets asking address = new_cookie secrets asking.nonce address asking.spi

-- the notification that asks for it, which is the only payload
abbrev pub cookie_message : Fresh → Octets → Message
cookie_message asking cookie = notice_message asking.spi (Cookie cookie)

-- a cookie has 1 to 64 octets
pub record HasCookieLength (cookie : Octets) : Type 0 where
  pub some : 1 ≤ length cookie
  pub few : length cookie ≤ 64

-- ---- the responder asks for a cookie

-- A gateway that holds these IKE SAs is under load: so many are half open that it asks for cookies. None that
-- is half open was made by these very octets.
pub record IsUnderLoad (request : Octets) (held : Held) : Type 0 where
  pub many : COOKIE_THRESHOLD ≤ half_open_count held.associations
  pub first : position (is_answered request) held.associations ≡ None

-- Its notification goes out, with the cookie for this sender under the current secret, and it keeps nothing
-- of the request.
pub record AsksForCookie {C : Type 0} (asking : Fresh) (address : Octets) (q : Passage C) : Type 0 where
  pub notice : Octets
  pub said : q.said ≡ Reply notice None
  pub spelled : SpellsPlainly (cookie_message asking (cookie_for q.before.machine.cookies asking address)) notice
  pub long : HasCookieLength (cookie_for q.before.machine.cookies asking address)
  pub unchanged : q.after ≡ q.before

-- ---- the initiator brings it

-- the request that was sent doesn't carry this cookie already, and few were brought so far
pub record CanBring (sent : InitSent) (cookie : Octets) : Type 0 where
  pub other : sent.cookie ≢ Some cookie
  pub few : sent.cookies_taken < COOKIES_TAKEN_LIMIT

-- The IKE SA that waits, once its request is sent again with this cookie, by these octets and at this time.
-- The timer runs anew.
abbrev pub bringing : Association → InitSent → Octets → Octets → ℕ → Association
bringing a sent cookie request moment = record a {
  outgoing = record a.outgoing { outstanding = map.insert a.outgoing.outstanding 0 (new_request request Begin moment) };
  phase = phase.InitSent (record sent { cookie = Some cookie; cookies_taken = sent.cookies_taken + 1 });
}

-- Its request goes out again with the cookie, and with all else as it was.
pub record BringsBeside {C : Type 0} (meaning : Meaning) (asking : Fresh) (request cookie : Octets) (child : AskedChildView) (r : Passage C)
    (waits : StillWaits asking request child r.before.machine.held) : Type 0 where
  pub again : Octets
  pub said : r.said ≡ Request waits.association.serial again
  pub spelled : SpellsPlainly (asking_with meaning asking (Some cookie)) again
  pub after : r.after ≡ record r.before {
    machine = with_at r.before.machine waits.place (bringing waits.association waits.sent cookie again r.before.machine.moment);
  }

-- ---- the responder accepts it

-- A gateway that holds these IKE SAs has room for one more, where the request brings a right cookie: fewer
-- are half open than there can be at most. All else is as in `CanAnswer`.
pub record CanAnswerUnderLoad (request : Octets) (spi : ℕ) (held : Held) : Type 0 where
  pub few : half_open_count held.associations < HALF_OPEN_LIMIT
  pub place : length held.associations < ASSOCIATION_LIMIT
  pub serial : held.next < SERIAL_END
  pub usable : is_bad_spi spi held.associations ≡ false
  pub first : position (is_answered request) held.associations ≡ None

-- ---- all five steps

-- Five steps of two gateways. The one is told to begin; what it puts out comes to the other, which is under
-- load; what that puts out comes back while the one still waits. What the one then puts out comes to the
-- other from the same address, while that has room and still knows the secret of its cookie. What that puts
-- out comes back while the one still waits. Memory runs out at neither.
pub record IsExchangeUnderLoad {C : Type 0} (meaning_of : C → Meaning) (place : ℕ) (entry : Entry) (asking delaying bringing answering reading : Fresh) (p l b q r : Passage C) : Type 0 where
  pub begins : IsPassage meaning_of p
  pub told : p.given ≡ input.Start None place asking
  pub can_begin : CanBegin place entry asking p.before
  pub memory : wants_memory p.said ≡ false
  -- the request
  pub request : Octets
  pub sent : PutsOut p.said request
  pub address : Octets
  pub delays : IsPassage meaning_of l
  pub asked : l.given ≡ input.Ike address request delaying
  pub under_load : IsUnderLoad request l.before.machine.held
  pub memory_under_load : wants_memory l.said ≡ false
  -- the notification, from whatever address
  pub notice : Octets
  pub sent_notice : PutsOut l.said notice
  pub brings : IsPassage meaning_of b
  pub address_of_notice : Octets
  pub noticed : b.given ≡ input.Ike address_of_notice notice bringing
  pub waits : StillWaits asking request (next_child entry p.before) b.before.machine.held
  pub can_bring : CanBring waits.sent (cookie_for l.before.machine.cookies asking address)
  pub memory_again : wants_memory b.said ≡ false
  -- the request with the cookie, from the address of the first
  pub again : Octets
  pub sent_again : PutsOut b.said again
  pub answers : IsPassage meaning_of q
  pub asked_again : q.given ≡ input.Ike address again answering
  pub can_answer : CanAnswerUnderLoad again answering.spi q.before.machine.held
  pub still_known : secret_of q.before.machine.cookies l.before.machine.cookies.version ≡ Some l.before.machine.cookies.current
  pub memory_there : wants_memory q.said ≡ false
  -- the response, from whatever address
  pub response : Octets
  pub sent_back : PutsOut q.said response
  pub reads : IsPassage meaning_of r
  pub address_back : Octets
  pub given : r.given ≡ input.Ike address_back response reading
  pub waits_again : StillWaits asking again (next_child entry p.before) r.before.machine.held
  pub memory_back : wants_memory r.said ≡ false

-- what each of them leads to: as in `OpensBeside` both have one record of keys, by the secret that they share
pub record OpensUnderLoad {C : Type 0} (meaning_of : C → Meaning) (place : ℕ) (entry : Entry) (asking delaying bringing answering reading : Fresh) (shared : Octets) (p l b q r : Passage C)
    (is : IsExchangeUnderLoad meaning_of place entry asking delaying bringing answering reading p l b q r) : Type 0 where
  pub asks : AsksBeside (meaning_of p.before.caller) entry asking p
  pub request_is : asks.request ≡ is.request
  pub asks_for_cookie : AsksForCookie asking is.address l
  pub notice_is : asks_for_cookie.notice ≡ is.notice
  pub brings : BringsBeside (meaning_of b.before.caller) asking is.request (cookie_for l.before.machine.cookies asking is.address)
      (next_child entry p.before) b is.waits
  pub again_is : brings.again ≡ is.again
  pub answers : AnswersBeside (meaning_of q.before.caller) asking answering shared is.again q
  pub response_is : answers.response ≡ is.response
  pub takes_up : TakesUpBeside (meaning_of r.before.caller) asking answering reading (keys_from shared asking answering) is.again is.response
      (next_child entry p.before) r is.waits_again
