-- While many IKE SAs are half open, nobody is kept for who can't be reached.
use Rattle.std.proofs.Common.{◌≡◌, ◌<◌, ◌≤◌, inl, inr, ℕ, Bool, true, false, List, Option, Some, None, Result, Ok, Err, length, ap, subst, sym, ◌∙◌, arith}
use Rattle.std.specs.List.{position}
use Rattle.base.specs.Octets.{Octets}
use Rattle.wire.specs.Messages.{Spells}
use Rattle.wire.specs.declared.message.Message.{Message}
use Rattle.wire.specs.declared.payload.Payload.{Payload}
use Rattle.policy.specs.declared.entry.Entry.{Entry}
use Rattle.suite.specs.declared.fresh.Fresh.{Fresh}
use Rattle.suite.specs.declared.sealer.Cipher.{Cipher}
use Rattle.sadb.specs.Database.{Database}
use Rattle.sa_init.specs.Cookies.{CookieSecrets}
use Rattle.sa_init.specs.Judging.{Accepted, Answered, Full, Incomplete, BringsRightCookie, COOKIE_THRESHOLD, IsJudgement, JudgementView, OfferView}
use Rattle.sa_init.specs.declared.judging.Sender.{Sender}
use Rattle.association.specs.Finding.{place_meant}
use Rattle.association.specs.declared.fault.MessageFault.{MessageFault}
use Rattle.association.specs.declared.phase.Association.{Association}
use Rattle.setup.specs.Configs.{Setup}
use Rattle.effects.specs.Taking.{Meaning, KeepsIdentity, TakesMessage}
use Rattle.effects.specs.declared.taking.Effect.{Effect}
use Rattle.ike.specs.Machines.{half_open_count, setup_at, Held, Machine}
use Rattle.ike.specs.Reaching.{WasReached}
use Rattle.ike.specs.Receiving.{is_answered, is_initial_request, is_sound_initial, sender_of, DoesJudgement, IsJudged, TakesFound, TakesRead, TakesRequestAt, TakesSound}
use Rattle.ike.specs.Steps.{Steps}
use Rattle.ike.specs.Steps as steps
use Rattle.ike.specs.declared.output.Stepped.{Stepped}
use Rattle.ike.proofs.CountLemmas.{count_replaced}

-- what is known of offers that are accepted, and of a message's effect
pub record CookieFacts : Type 0 where
  pub cookie : (cipher : Cipher) (group : ℕ) (secrets : CookieSecrets) (sender : Sender) (half_open held : ℕ) (payloads : List Payload) (offer : OfferView)
      → COOKIE_THRESHOLD ≤ half_open → IsJudgement cipher group secrets sender half_open held payloads (Accepted offer) → BringsRightCookie secrets sender payloads offer.nonce
  pub itself : (meaning : Meaning) (setup : Setup) (old : Association) (table : Database) (octets : Octets) (m : Message) (effect : Effect) (new : Association) (new_table : Database)
      → TakesMessage meaning setup old table octets m effect new new_table → KeepsIdentity old new

abbrev pub Grows : Held → Held → Type 0
Grows old new = half_open_count old.associations < half_open_count new.associations

no_growth : (old new : Held) → new ≡ old → Grows old new → ⊥
no_growth old new same grows = let as_many : half_open_count new.associations ≡ half_open_count old.associations = ap (λ (h : Held). half_open_count h.associations) same in omega (arith, as_many, grows)

judged_reached : (facts : CookieFacts) (meaning : Meaning) (setup : Setup) (cookies : CookieSecrets) (from octets : Octets) (m : Message) (j : JudgementView) (old : Held) (stepped : Stepped) (new : Held)
    → Spells m octets → COOKIE_THRESHOLD ≤ half_open_count old.associations → Grows old new → IsJudged meaning cookies old from m j
    → DoesJudgement meaning setup m.header.spi_i octets j old stepped new → WasReached cookies from octets
judged_reached facts meaning setup cookies from octets m (Answered notice) old stepped new spelled many grows judged is = absurd (no_growth old new is.1 grows)
judged_reached facts meaning setup cookies from octets m Incomplete old stepped new spelled many grows judged is = absurd (no_growth old new is.unchanged grows)
judged_reached facts meaning setup cookies from octets m Full old stepped new spelled many grows judged is = absurd (no_growth old new is.unchanged grows)
judged_reached facts meaning setup cookies from octets m (Accepted offer) old stepped new spelled many grows judged is =
    record {
      message = m;
      spelled = spelled;
      nonce = offer.nonce;
      nonce_is = judged.considered.heard.whole.complete.ni ∙ ap Some (sym judged.ni);
      cookie = facts.cookie meaning.cipher meaning.group cookies (sender_of from m.header) (half_open_count old.associations) (length old.associations) m.payloads offer many judged;
    }

request_reached : (facts : CookieFacts) (o : Option ℕ) (meaning : Meaning) (setup : Setup) (cookies : CookieSecrets) (from octets : Octets) (m : Message) (old : Held) (stepped : Stepped) (new : Held)
    → Spells m octets → COOKIE_THRESHOLD ≤ half_open_count old.associations → Grows old new → TakesRequestAt o meaning setup cookies from octets m old stepped new → WasReached cookies from octets
request_reached facts (Some place) meaning setup cookies from octets m old stepped new spelled many grows is = absurd (no_growth old new is.1 grows)
request_reached facts None meaning setup cookies from octets m old stepped new spelled many grows is =
    judged_reached facts meaning setup cookies from octets m is.judgement old stepped new spelled many grows is.judged is.done

sound_reached : (facts : CookieFacts) (b : Bool) (meaning : Meaning) (setup : Setup) (cookies : CookieSecrets) (from octets : Octets) (m : Message) (old : Held) (stepped : Stepped) (new : Held)
    → Spells m octets → COOKIE_THRESHOLD ≤ half_open_count old.associations → Grows old new → TakesSound b meaning setup cookies from octets m old stepped new → WasReached cookies from octets
sound_reached facts true meaning setup cookies from octets m old stepped new spelled many grows is =
    request_reached facts (position (is_answered octets) old.associations) meaning setup cookies from octets m old stepped new spelled many grows is
sound_reached facts false meaning setup cookies from octets m old stepped new spelled many grows is = absurd (no_growth old new is.unchanged grows)

found_stays : (facts : CookieFacts) (r : Result ℕ MessageFault) (meaning : Meaning) (setup : Setup) (octets : Octets) (m : Message) (old : Held) (table : Database) (stepped : Stepped) (new : Held) (new_table : Database)
    → TakesFound r meaning setup octets m old table stepped new new_table → half_open_count new.associations ≤ half_open_count old.associations
found_stays facts (Ok place) meaning setup octets m old table stepped new new_table is =
    subst (λ (h : Held). half_open_count h.associations ≤ half_open_count old.associations) (sym is.content)
    (count_replaced old.associations place is.association is.changed is.there (facts.itself meaning setup is.association table octets m is.effect is.changed new_table is.takes).half_open)
found_stays facts (Err f) meaning setup octets m old table stepped new new_table is =
    let as_many : half_open_count new.associations ≡ half_open_count old.associations = ap (λ (h : Held). half_open_count h.associations) is.0.unchanged in omega (arith, as_many)

read_reached : (facts : CookieFacts) (b : Bool) (meaning : Meaning) (setup : Setup) (cookies : CookieSecrets) (from octets : Octets) (m : Message) (old : Held) (table : Database) (stepped : Stepped) (new : Held) (new_table : Database)
    → Spells m octets → COOKIE_THRESHOLD ≤ half_open_count old.associations → Grows old new → TakesRead b meaning setup cookies from octets m old table stepped new new_table → WasReached cookies from octets
read_reached facts true meaning setup cookies from octets m old table stepped new new_table spelled many grows is =
    sound_reached facts (is_sound_initial m.header) meaning setup cookies from octets m old stepped new spelled many grows is.0
read_reached facts false meaning setup cookies from octets m old table stepped new new_table spelled many grows is =
    let as_many = found_stays facts (place_meant m.header old.associations) meaning setup octets m old table stepped new new_table is in absurd (omega (arith, as_many, grows))

pub datagram_reached : (facts : CookieFacts) (meaning : Meaning) (entries : List Entry) (from octets : Octets) (fresh : Fresh) (old : Machine) (table : Database) (stepped : Stepped) (new : Machine) (new_table : Database)
    → Steps meaning entries (steps.Message from octets fresh) old table stepped new new_table → COOKIE_THRESHOLD ≤ half_open_count old.held.associations
    → half_open_count old.held.associations < half_open_count new.held.associations → WasReached old.cookies from octets
datagram_reached facts meaning entries from octets fresh old table stepped new new_table is many grows =
    elim is.1 [
      | inl unread ↦ absurd (no_growth old.held new.held unread.passed.unchanged grows)
      | inr read ↦ read_reached facts (is_initial_request read.message.header) meaning (setup_at old entries fresh) old.cookies from octets read.message old.held table stepped new.held new_table
          read.spelled many grows read.done
    ]
