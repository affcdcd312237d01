-- A gateway under load to which a request of IKE_SA_INIT comes: with no cookie, no case is left but that it
-- asks for one; with a right one, none but that it answers.
use Rattle.std.proofs.Common.{◌≡◌, ◌≢◌, ◌≤◌, ◌+◌, ◌++◌, ◌&&◌, inr, ℕ, Bool, true, false, length, None, Option, Some, ap, arith, refl, subst, sym, ◌∙◌}
use Rattle.std.specs.Prelude.{if◌then◌else◌, nat_le}
use Rattle.std.specs.Int.{to_be_bytes, w32, w64}
use Rattle.std.proofs.lemmas.Bool.{le-leb}
use Rattle.std.proofs.lemmas.List.{length-append}
use Rattle.std.proofs.lemmas.Option.{none-some, same_Some}
use Rattle.sha2.proofs.Facts256.{length-sha256}
use Rattle.sha2.specs.Sha256.{sha256}
use Rattle.base.specs.Octets.{Octets}
use Rattle.mac.specs.Cookie.{cookie}
use Rattle.wire.specs.Messages.{SpellsPlainly}
use Rattle.wire.specs.Numbers.{COOKIE}
use Rattle.wire.specs.declared.message.Message.{Message}
use Rattle.suite.specs.declared.fresh.Fresh.{Fresh}
use Rattle.exchange.specs.Notices.{cookie_of}
use Rattle.exchange.specs.declared.notices.Notice.{Notice}
use Rattle.exchange.specs.declared.notices.Notice.TheVariants.{Cookie}
use Rattle.sadb.specs.Database.{Database}
use Rattle.sa_init.specs.Cookies.{CookieSecrets, IsRightCookie, secret_of}
use Rattle.sa_init.specs.Judging.{Accepted, Answered, BringsRightCookie, COOKIE_THRESHOLD, OfferView, WantsCookie}
use Rattle.sa_init.specs.declared.judging.Sender.{Sender}
use Rattle.setup.specs.Configs.{Setup}
use Rattle.effects.specs.Taking.{Meaning}
use Rattle.ike.specs.Faults.{is_want_of_memory}
use Rattle.ike.specs.Machines.{half_open_count, setup_at, Held}
use Rattle.ike.specs.Outputs.{plain_step}
use Rattle.ike.specs.Receiving.{sender_of, IsJudged, RefusesDatagram}
use Rattle.ike.specs.declared.fault.IkeFault.{IkeFault}
use Rattle.ike.specs.declared.fault.IkeFault.TheVariants as fault
use Rattle.ike.specs.declared.output.IkeOutput.TheVariants as output
use Rattle.gateway.specs.Histories.{IsPassage, Passage}
use Rattle.gateway.specs.Inputs as input
use Rattle.gateway.specs.Outputs.{wants_memory}
use Rattle.laws_opening.specs.Beside.{AnswersBeside}
use Rattle.laws_opening.specs.Exchanged.{asking_message}
use Rattle.laws_opening.specs.UnderLoad.{asking_with, cookie_for, AsksForCookie, CanAnswerUnderLoad, HasCookieLength, IsUnderLoad}
use Rattle.laws_opening.proofs.AnsweringLemmas.{answers_with, asked_parts, asked_whole, does, HasNoFault, OffersAreAcceptable, OneJudgement, OneMessage, PlainIsSpelled}
use Rattle.laws_opening.proofs.StepLemmas.{answered, leads_to, said_is, step_from}

-- ---- the lengths of cookies

version_length : (version : ℕ) → length (to_be_bytes w32 version) ≡ 4
version_length version = refl

cookie_has_36 : (version : ℕ) (secret nonce address : Octets) (spi_i : ℕ) → length (cookie version secret nonce address spi_i) ≡ 36
unfolding cookie
cookie_has_36 version secret nonce address spi_i =
    length-append (to_be_bytes w32 version) (sha256 (nonce ++ address ++ to_be_bytes w64 spi_i ++ secret))
    ∙ ap (λ (n : ℕ). n + length (sha256 (nonce ++ address ++ to_be_bytes w64 spi_i ++ secret))) (version_length version)
    ∙ ap (λ (n : ℕ). 4 + n) (length-sha256 (nonce ++ address ++ to_be_bytes w64 spi_i ++ secret))

pub cookie_is_long : (version : ℕ) (secret nonce address : Octets) (spi_i : ℕ) → HasCookieLength (cookie version secret nonce address spi_i)
cookie_is_long version secret nonce address spi_i =
    let long = cookie_has_36 version secret nonce address spi_i in
    record { some = omega (arith, long); few = omega (arith, long) }

-- so what is brought, or asked for, is read as a cookie
pub is_cookie : (octets : Octets) → HasCookieLength octets → cookie_of COOKIE octets ≡ Some octets
is_cookie octets long =
    ap (λ (b : Bool). if b && nat_le (length octets) 64 then Some octets else None) (le-leb 1 (length octets) long.some)
    ∙ ap (λ (b : Bool). if b then Some octets else None) (le-leb (length octets) 64 long.few)

-- ---- a cookie is asked for

module _ (meaning : Meaning) (asking : Fresh) (secrets : CookieSecrets) (address : Octets) (brought : Option Octets) where
  abbrev sender : Sender
  sender = record { address = address; spi_i = asking.spi }

  -- the request brings no right cookie
  abbrev pub BringsNone : Type 0
  BringsNone = ¬ BringsRightCookie secrets sender (asking_with meaning asking brought).payloads asking.nonce

  wants_cookie : (half_open : ℕ) → COOKIE_THRESHOLD ≤ half_open → BringsNone
      → WantsCookie secrets sender half_open (asking_with meaning asking brought).payloads (cookie_for secrets asking address)
  wants_cookie half_open many none = record {
    parts = asked_parts meaning asking;
    whole = asked_whole meaning asking brought;
    many = many;
    unproved = none;
    made = refl;
  }

-- where there is none, or a wrong one
without_cookie : (meaning : Meaning) (asking : Fresh) (secrets : CookieSecrets) (address : Octets) → BringsNone meaning asking secrets address None
without_cookie meaning asking secrets address brings = none-some brings.octets brings.leads

chosen_so : (b : Bool) (octets read : Octets) → (if b then Some octets else None) ≡ Some read → octets ≡ read
chosen_so true octets read is = same_Some octets read is
chosen_so false octets read is = absurd (none-some read is)

with_wrong_cookie : (meaning : Meaning) (asking : Fresh) (secrets : CookieSecrets) (address octets : Octets) → ¬ IsRightCookie secrets asking.nonce address asking.spi octets
    → BringsNone meaning asking secrets address (Some octets)
with_wrong_cookie meaning asking secrets address octets wrong brings =
    let same : octets ≡ brings.octets = chosen_so (nat_le 1 (length octets) && nat_le (length octets) 64) octets brings.octets brings.leads in
    wrong (subst (λ (o : Octets). IsRightCookie secrets asking.nonce address asking.spi o) (sym same) brings.right)

other_judgement : (offer : OfferView) (notice : Notice) → Accepted offer ≡ Answered notice → ⊥
other_judgement offer notice is = absurd cc

-- nothing is refused but for memory, since nothing is accepted
module _ (one : OneMessage) (plain : PlainIsSpelled) (judged_once : OneJudgement) (meaning : Meaning) (asking : Fresh) (brought : Option Octets) (request : Octets) (setup : Setup)
    (held : Held) (cookies : CookieSecrets) (address : Octets) (table : Database) (spelled : SpellsPlainly (asking_with meaning asking brought) request)
    (many : COOKIE_THRESHOLD ≤ half_open_count held.associations) (none : BringsNone meaning asking cookies address brought) where
  for_memory : (f : IkeFault) → RefusesDatagram meaning setup cookies address request held table f → is_want_of_memory f ≡ true
  for_memory (fault.Memory f) refuses = refl
  for_memory f refuses =
      let message = asking_with meaning asking brought in
      let offer = refuses.refused.offer in
      let notice = Cookie (cookie_for cookies asking address) in
      let known : refuses.message ≡ message = one refuses.message message request refuses.spelled (plain message request spelled) in
      let accepted : IsJudged meaning cookies held address message (Accepted offer) =
      subst (λ (m : Message). IsJudged meaning cookies held address m (Accepted offer)) known refuses.refused.judged in
      let same : Accepted offer ≡ Answered notice =
      judged_once meaning.cipher meaning.group cookies (sender_of address message.header) (half_open_count held.associations) (length held.associations) message.payloads
      (Accepted offer) (Answered notice) accepted (wants_cookie meaning asking cookies address brought (half_open_count held.associations) many none) in
      absurd (other_judgement offer notice same)

module _ (one : OneMessage) (plain : PlainIsSpelled) (faultless : HasNoFault) (judged_once : OneJudgement) where
  asks_where_none : {C : Type 0} (meaning_of : C → Meaning) (asking delaying : Fresh) (brought : Option Octets) (address request : Octets) (q : Passage C) → IsPassage meaning_of q
      → q.given ≡ input.Ike address request delaying → wants_memory q.said ≡ false → IsUnderLoad request q.before.machine.held
      → BringsNone (meaning_of q.before.caller) asking q.before.machine.cookies address brought
      → SpellsPlainly (asking_with (meaning_of q.before.caller) asking brought) request → asking.spi ≢ 0 → AsksForCookie asking address q
  asks_where_none {C} meaning_of asking delaying brought address request q is given memory loaded none spelled nonzero =
      let meaning = meaning_of q.before.caller in
      let machine = q.before.machine in
      let held = machine.held in
      let table = q.before.table in
      let setup = setup_at machine q.before.entries delaying in
      let asked = cookie_for machine.cookies asking address in
      let traces = (step_from meaning_of q q.before (input.Ike address request delaying) is refl given).traces in
      let step = answered traces.does memory
      (for_memory one plain judged_once meaning asking brought request setup held machine.cookies address table spelled loaded.many none) in
      let done = does one plain faultless judged_once meaning asking brought request spelled nonzero setup held loaded.first machine.cookies address table
      step.stepped q.after.machine.held q.after.table (Answered (Cookie asked))
      (wants_cookie meaning asking machine.cookies address brought (half_open_count held.associations) loaded.many none) step.steps.1 in
      let says = done.0.0 in
      let machine_is : q.after.machine ≡ machine = step.steps.0 ∙ ap (λ (h : Held). record machine { held = h }) done.0.1 in
      record {
        notice = says.octets;
        said = said_is q.said step.stepped (plain_step (output.Reply says.octets None)) step.output says.said;
        spelled = says.spelled;
        long = cookie_is_long machine.cookies.version machine.cookies.current asking.nonce address asking.spi;
        unchanged = leads_to q.before q.after machine table traces.kept machine_is done.1;
      }

  pub asks_for_cookie : {C : Type 0} (meaning_of : C → Meaning) (asking delaying : Fresh) (address request : Octets) (q : Passage C) → IsPassage meaning_of q
      → q.given ≡ input.Ike address request delaying → wants_memory q.said ≡ false → IsUnderLoad request q.before.machine.held
      → SpellsPlainly (asking_message (meaning_of q.before.caller) asking) request → asking.spi ≢ 0 → AsksForCookie asking address q
  asks_for_cookie {C} meaning_of asking delaying address request q is given memory loaded spelled nonzero =
      asks_where_none meaning_of asking delaying None address request q is given memory loaded
      (without_cookie (meaning_of q.before.caller) asking q.before.machine.cookies address) spelled nonzero

  pub asks_for_another : {C : Type 0} (meaning_of : C → Meaning) (asking delaying : Fresh) (octets address request : Octets) (q : Passage C) → IsPassage meaning_of q
      → q.given ≡ input.Ike address request delaying → wants_memory q.said ≡ false → IsUnderLoad request q.before.machine.held
      → ¬ IsRightCookie q.before.machine.cookies asking.nonce address asking.spi octets
      → SpellsPlainly (asking_with (meaning_of q.before.caller) asking (Some octets)) request → asking.spi ≢ 0 → AsksForCookie asking address q
  asks_for_another {C} meaning_of asking delaying octets address request q is given memory loaded wrong spelled nonzero =
      asks_where_none meaning_of asking delaying (Some octets) address request q is given memory loaded
      (with_wrong_cookie (meaning_of q.before.caller) asking q.before.machine.cookies address octets wrong) spelled nonzero

-- ---- a right cookie is accepted

right_is_long : (secrets : CookieSecrets) (nonce address : Octets) (spi_i : ℕ) (octets : Octets) → IsRightCookie secrets nonce address spi_i octets → HasCookieLength octets
right_is_long secrets nonce address spi_i octets right =
    subst (λ (o : Octets). HasCookieLength o) (sym right.made) (cookie_is_long right.version right.secret nonce address spi_i)

module _ (one : OneMessage) (plain : PlainIsSpelled) (faultless : HasNoFault) (acceptable : OffersAreAcceptable) (judged_once : OneJudgement) where
  pub answers_under_load : {C : Type 0} (meaning_of : C → Meaning) (asking answering : Fresh) (octets shared address request : Octets) (q : Passage C) → IsPassage meaning_of q
      → q.given ≡ input.Ike address request answering → wants_memory q.said ≡ false → CanAnswerUnderLoad request answering.spi q.before.machine.held
      → IsRightCookie q.before.machine.cookies asking.nonce address asking.spi octets
      → SpellsPlainly (asking_with (meaning_of q.before.caller) asking (Some octets)) request → asking.spi ≢ 0
      → (meaning_of q.before.caller).shared_secret answering.secret ((meaning_of q.before.caller).public_value asking.secret) ≡ Some shared
      → AnswersBeside (meaning_of q.before.caller) asking answering shared request q
  answers_under_load {C} meaning_of asking answering octets shared address request q is given memory can right spelled named agrees =
      let long = right_is_long q.before.machine.cookies asking.nonce address asking.spi octets right in
      answers_with one plain faultless acceptable judged_once meaning_of asking answering (Some octets) shared address request q is given memory can
      (inr (record { octets = octets; leads = is_cookie octets long; right = right })) spelled named agrees

-- the cookie that was asked for is right, as long as its secret is known
pub still_right : (at_load now : CookieSecrets) (asking : Fresh) (address : Octets) → secret_of now at_load.version ≡ Some at_load.current
    → IsRightCookie now asking.nonce address asking.spi (cookie_for at_load asking address)
still_right at_load now asking address known = record { version = at_load.version; secret = at_load.current; named = known; made = refl }
