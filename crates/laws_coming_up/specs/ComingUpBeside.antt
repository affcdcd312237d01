-- What IKE_AUTH makes of two gateways that may hold other IKE SAs and other pairs, as after a loss (RFC 7296
-- sections 1.2, 2.9, 2.15 and 2.21.2): what is asked of its two steps, and what each leads to. All else that
-- they hold stays as it is.
use Rattle.std.specs.Prelude.{◌≡◌, ◌≤◌, ◌<◌, ◌^◌, ◌+◌, ◌∷◌, ◌&&◌, ℕ, Bool, true, Option, Some, None, List, [], IsTrue, slice_get}
use Rattle.std.specs.FinMap as map
use Rattle.std.specs.FinSet as set
use Rattle.base.specs.Octets.{Octets}
use Rattle.wire.specs.Numbers.{IKE_AUTH}
use Rattle.wire.specs.declared.message.Message.{Message}
use Rattle.policy.specs.Narrowing.{IsAcceptableOffer, IsNarrowing}
use Rattle.policy.specs.declared.entry.Entry.{Entry}
use Rattle.suite.specs.declared.choice.Wanted.TheVariants.{Esp}
use Rattle.suite.specs.declared.fresh.Fresh.{Fresh}
use Rattle.suite.specs.declared.key_record.KeyRecord.{KeyRecord}
use Rattle.exchange.specs.Headers.{keys_of, sent_header}
use Rattle.exchange.specs.Sealed.{IsSealed}
use Rattle.exchange.specs.declared.child.ChildAnswer.{ChildAnswer}
use Rattle.exchange.specs.declared.child.ChildAnswer.TheVariants as told
use Rattle.exchange.specs.declared.headers.Role.{Role}
use Rattle.exchange.specs.declared.headers.Role.TheVariants.{Initiator, Responder}
use Rattle.exchange.specs.declared.notices.Notice.{Notice}
use Rattle.sadb.specs.Database.{Database, IsFull, IsSpent}
use Rattle.sadb.specs.Mirrors.{Mirrors}
use Rattle.sadb.specs.declared.pair.Pair.{Pair}
use Rattle.association.specs.AskedChildren.{AskedChildView}
use Rattle.association.specs.declared.phase.Association.{Association}
use Rattle.association.specs.declared.phase.Phase.TheVariants as phase
use Rattle.association.specs.declared.phase.Request.{Request as Asked}
use Rattle.auth.specs.Answers.{auth_answer}
use Rattle.auth.specs.Proofs.{octets_to_prove, proving_of, ProvingView}
use Rattle.children.specs.Pairs.{new_pair}
use Rattle.children.specs.Responding.{child_response}
use Rattle.children.specs.Terms.{Terms}
use Rattle.setup.specs.Configs.{first_setting, IsConfig}
use Rattle.setup.specs.declared.config.Config.{Config}
use Rattle.effects.specs.Taking.{Meaning}
use Rattle.ike.specs.Machines.{Held}
use Rattle.ike.specs.Moves.{HasSeal}
use Rattle.gateway.specs.Histories.{IsPassage, Passage}
use Rattle.gateway.specs.Outputs.{Counted, Reply}
use Rattle.gateway.specs.States.{State}
use Rattle.laws_opening.specs.Beside.{next_spi, with_at}
use Rattle.laws_opening.specs.Exchanged.{keys_from}
use Rattle.laws_opening.specs.Opened.{telling_message}
use Rattle.laws_coming_up.specs.ComingUp.{chosen_on, Brings}

-- ---- what both ends have come to

-- What both ends draw and come to by IKE_SA_INIT, and the Child SA that the initiator asks for.
pub record Meeting : Type 0 where
  -- fresh at the initiator, and at the responder
  pub asking : Fresh
  pub answering : Fresh
  pub keys : KeyRecord
  -- the two messages
  pub request : Octets
  pub response : Octets
  pub child : AskedChildView

-- what two gateways come to by IKE_SA_INIT
abbrev pub meeting_by : Fresh → Fresh → Octets → Octets → Octets → AskedChildView → Meeting
meeting_by asking answering shared request response child = record {
  asking = asking;
  answering = answering;
  keys = keys_from shared asking answering;
  request = request;
  response = response;
  child = child;
}

-- what the end of this role proves itself over (section 2.15)
abbrev pub proved_in : Role → Meeting → ProvingView
proved_in Initiator d = proving_of Initiator d.keys d.request
proved_in Responder d = proving_of Responder d.keys d.response

-- the initiator's request of IKE_AUTH in clear, by what it is set to
abbrev pub identity_in : Meaning → Config → Meeting → Message
identity_in meaning config d = telling_message meaning config d.asking d.answering d.keys d.request d.child

-- the response in clear, by what the responder is set to, with what answers the Child SA
abbrev pub answer_in : Meaning → Config → Meeting → ChildAnswer → Message
answer_in meaning config d answer = record {
  header = sent_header d.asking.spi d.answering.spi IKE_AUTH Responder true 1;
  payloads = auth_answer meaning.own_method meaning.proof_of config.own.identity (proved_in Responder d) answer config.window;
}

-- the octets are the message as the end of this role seals it under the keys, with fresh octets
pub record IsSealedIn (role : Role) (meaning : Meaning) (d : Meeting) (message : Message) (octets : Octets) : Type 0 where
  pub fresh : Fresh
  pub seal : HasSeal fresh
  pub sealed : IsSealed meaning.body_of (keys_of role d.keys) fresh.seal message octets

-- ---- what is presumed

-- An end of this role can prove to the other who it is: the other is configured for this end's identity, and
-- its caller accepts what this end's caller makes as a proof of it (section 2.15).
pub record IsKnownIn (role : Role) (own other : Config) (meaning theirs : Meaning) (d : Meeting) : Type 0 where
  pub named : other.peer.identity ≡ own.own.identity
  pub proved : IsTrue (theirs.accepts own.own.identity.kind own.own.identity.data meaning.own_method (octets_to_prove (proved_in role d) own.own.identity) (meaning.proof_of (octets_to_prove (proved_in role d) own.own.identity)))

-- An IKE SA is half open by these two messages of IKE_SA_INIT: it has the keys, and waits for the request of
-- IKE_AUTH.
pub record AwaitsIdentity (d : Meeting) (held : Held) : Type 0 where
  pub place : ℕ
  pub association : Association
  pub there : slice_get held.associations place ≡ Some association
  pub spi_i : association.spi_i ≡ d.asking.spi
  pub spi_r : association.spi_r ≡ d.answering.spi
  -- the time at which it was made
  pub made : ℕ
  pub phase_is : association.phase ≡ phase.HalfOpen (record { keys = d.keys; request = d.request; reply = d.response; made = made })

-- an IKE SA waits for the response to its request of IKE_AUTH, however often that was sent
pub record AwaitsAnswer (d : Meeting) (held : Held) : Type 0 where
  pub place : ℕ
  pub association : Association
  pub there : slice_get held.associations place ≡ Some association
  pub spi_i : association.spi_i ≡ d.asking.spi
  pub spi_r : association.spi_r ≡ d.answering.spi
  pub phase_is : association.phase ≡ phase.AuthSent (record { keys = d.keys; first = d.response; child = d.child })
  pub asked : Asked
  pub outstanding : map.get association.outgoing.outstanding 1 ≡ Some asked

-- an initiator can be set so, and its table can give the SPI under which it asks for the Child SA
pub record CanAskFor (config : Config) (child : AskedChildView) : Type 0 where
  pub valid : IsConfig config
  pub least : 256 ≤ child.spi
  pub most : child.spi < 2 ^ 32

-- some entry of the policy meets what is asked for: what one end calls its own side the other calls remote
-- (section 2.9)
abbrev pub PolicyMeetsChild : List Entry → AskedChildView → Type 0
PolicyMeetsChild entries child = IsAcceptableOffer entries (child.local ∷ []) (child.remote ∷ [])

-- the table has a place for one more pair, and an SPI
pub record HasPlace (table : Database) : Type 0 where
  pub not_full : ¬ IsFull table
  pub not_spent : ¬ IsSpent table

-- ---- what comes of it

-- The IKE SA is established under the keys, with this serial. Its windows are those that both ends are
-- configured for (section 2.3). Nothing is said here of its Message IDs, nor of the responses that it keeps.
pub record IsStandingIn (role : Role) (own other : Config) (d : Meeting) (number : ℕ) (a : Association) : Type 0 where
  pub serial : a.serial ≡ number
  pub role_is : a.role ≡ role
  pub spi_i : a.spi_i ≡ d.asking.spi
  pub spi_r : a.spi_r ≡ d.answering.spi
  pub established : a.phase ≡ phase.Established d.keys
  pub incoming : a.incoming.size ≡ own.window
  pub outgoing : a.outgoing.window ≡ other.window
  -- no request of this end waits for its answer
  pub quiet : a.outgoing.outstanding ≡ map.empty

-- On these terms both ends make their pairs: under the SPI that the initiator reserved and this one of the
-- responder's, with extended sequence numbers where both allow them, and with the selectors that are asked
-- for, narrowed to the responder's policy.
pub record AreTermsIn (d : Meeting) (extended : Bool) (entries : List Entry) (spi : ℕ) (terms : Terms) : Type 0 where
  pub spi_i : terms.spi_i ≡ d.child.spi
  pub spi_r : terms.spi_r ≡ spi
  -- it is one that a table can give (RFC 4303 section 2.1)
  pub least : 256 ≤ terms.spi_r
  pub most : terms.spi_r < 2 ^ 32
  pub extension : terms.extended ≡ (d.child.extended && extended)
  pub narrowed : IsNarrowing entries (d.child.local ∷ []) (d.child.remote ∷ []) terms.ts_i terms.ts_r

-- what a responder that allows extended sequence numbers, or doesn't, answers on these terms
abbrev pub told_on : Bool → Terms → ChildAnswer
told_on extended terms = told.Payloads (child_response (Esp extended) (chosen_on terms) terms)

-- the pair that an end of this role has then, under the IKE SA with this serial
abbrev pub pair_in : Role → Config → Meeting → ℕ → Terms → Pair
pair_in role config d number terms = new_pair role (first_setting config number d.keys) terms

-- the table, once this pair came under the next SPI and the next serial; `room` is any, as it is below
abbrev pub adding : Database → Pair → ℕ → Database
adding table pair room =
    record table { given = table.given + 1; next = table.next + 1; pairs = map.insert table.pairs table.next (record pair { serial = table.next }); room = room }

-- the table, once this pair came, under the next serial, for the SPI that was reserved
abbrev pub installing : Database → ℕ → Pair → ℕ → Database
installing table spi pair room =
    record table { reserved = set.remove table.reserved spi; next = table.next + 1; pairs = map.insert table.pairs table.next (record pair { serial = table.next }); room = room }

-- the table, once the SPI was given up
abbrev pub releasing : Database → ℕ → ℕ → Database
releasing table spi room = record table { reserved = set.remove table.reserved spi; room = room }

-- the table as it was, but for room
abbrev pub as_before : Database → ℕ → Database
as_before table room = record table { room = room }

-- the gateway with this IKE SA at this place, and with this table; all else is as it was, the time, the
-- cookie secrets and the next serial of an IKE SA too
abbrev pub becoming : {C : Type 0} → State C → ℕ → Association → Database → State C
becoming {C} s place a table = record s { machine = with_at s.machine place a; table = table }

-- ---- the responder's step

-- The IKE SA is established, and the response goes out, with this answer for the Child SA.
pub record AcceptsBeside {C : Type 0} (meaning : Meaning) (one : Config) (d : Meeting) (answer : ChildAnswer) (table : Database) (q : Passage C) (waits : AwaitsIdentity d q.before.machine.held) : Type 0 where
  pub octets : Octets
  pub said : q.said ≡ Reply octets None
  pub sent : IsSealedIn Responder meaning d (answer_in meaning q.before.machine.config d answer) octets
  pub association : Association
  pub standing : IsStandingIn Responder q.before.machine.config one d waits.association.serial association
  pub after : q.after ≡ becoming q.before waits.place association table

-- with the Child SA
pub record AcceptsWithChildBeside {C : Type 0} (meaning : Meaning) (one : Config) (d : Meeting) (q : Passage C) (waits : AwaitsIdentity d q.before.machine.held) : Type 0 where
  pub terms : Terms
  pub agreed : AreTermsIn d q.before.machine.config.extended q.before.entries (next_spi q.before.table) terms
  pub room : ℕ
  pub accepts : AcceptsBeside meaning one d (told_on q.before.machine.config.extended terms)
      (adding q.before.table (pair_in Responder q.before.machine.config d waits.association.serial terms) room) q waits

-- or without it, by this notification in place of it
pub record AcceptsWithoutChildBeside {C : Type 0} (meaning : Meaning) (one : Config) (d : Meeting) (notice : Notice) (q : Passage C) (waits : AwaitsIdentity d q.before.machine.held) : Type 0 where
  pub room : ℕ
  pub accepts : AcceptsBeside meaning one d (told.Notice notice) (as_before q.before.table room) q waits

-- ---- the initiator's step

-- The IKE SA is established, and this is the Child SA that was made.
pub record ConcludesBeside {C : Type 0} (other : Config) (d : Meeting) (child : Option ℕ) (table : Database) (r : Passage C) (waits : AwaitsAnswer d r.before.machine.held) : Type 0 where
  pub said : r.said ≡ Counted waits.association.serial child None
  pub association : Association
  pub standing : IsStandingIn Initiator r.before.machine.config other d waits.association.serial association
  pub after : r.after ≡ becoming r.before waits.place association table

-- with its Child SA, on these terms
pub record ConcludesWithChildBeside {C : Type 0} (other : Config) (d : Meeting) (terms : Terms) (r : Passage C) (waits : AwaitsAnswer d r.before.machine.held) : Type 0 where
  pub room : ℕ
  pub concludes : ConcludesBeside other d (Some r.before.table.next)
      (installing r.before.table d.child.spi (pair_in Initiator r.before.machine.config d waits.association.serial terms) room) r waits

-- or without one: the SPI that was reserved for it is given up
pub record ConcludesWithoutChildBeside {C : Type 0} (other : Config) (d : Meeting) (r : Passage C) (waits : AwaitsAnswer d r.before.machine.held) : Type 0 where
  pub room : ℕ
  pub concludes : ConcludesBeside other d None (releasing r.before.table d.child.spi room) r waits

-- ---- both in a row

-- What is presumed of an exchange of IKE_AUTH between two gateways, whatever else they hold. The responder's
-- IKE SA is half open, the initiator's waits for the response, and both have the keys of this meeting. Each
-- can prove to the other who it is. The request comes to the responder as the initiator sent it; and what
-- the responder answers, if it does, comes to the initiator.
pub record AreInExchangeBeside {C : Type 0} (meaning_of : C → Meaning) (d : Meeting) (auth : Octets) (q r : Passage C) : Type 0 where
  -- the responder's step
  pub answers : IsPassage meaning_of q
  pub half_open : AwaitsIdentity d q.before.machine.held
  pub asked : Brings auth q
  -- the initiator's
  pub ends : IsPassage meaning_of r
  pub waits : AwaitsAnswer d r.before.machine.held
  pub answered : (octets : Octets) → q.said ≡ Reply octets None → Brings octets r
  -- who they are, and what was sent
  pub initiator_known : IsKnownIn Initiator r.before.machine.config q.before.machine.config (meaning_of r.before.caller) (meaning_of q.before.caller) d
  pub responder_known : IsKnownIn Responder q.before.machine.config r.before.machine.config (meaning_of q.before.caller) (meaning_of r.before.caller) d
  pub sent : IsSealedIn Initiator (meaning_of r.before.caller) d (identity_in (meaning_of r.before.caller) r.before.machine.config d) auth

-- Both ends hold the IKE SA, established under one record of keys, and a pair of the Child SA, on the same
-- terms. So the pairs mirror each other.
pub record ComesUpBeside {C : Type 0} (meaning : Meaning) (d : Meeting) (q r : Passage C) (half_open : AwaitsIdentity d q.before.machine.held) (waits : AwaitsAnswer d r.before.machine.held) : Type 0 where
  pub responder : AcceptsWithChildBeside meaning r.before.machine.config d q half_open
  pub initiator : ConcludesWithChildBeside q.before.machine.config d responder.terms r waits
  pub mirrored : Mirrors (pair_in Initiator r.before.machine.config d waits.association.serial responder.terms)
      (pair_in Responder q.before.machine.config d half_open.association.serial responder.terms)

-- Both ends hold the IKE SA, established under one record of keys, and neither has a new pair. The response
-- had this notification.
pub record ComesUpWithoutChildBeside {C : Type 0} (meaning : Meaning) (d : Meeting) (notice : Notice) (q r : Passage C) (half_open : AwaitsIdentity d q.before.machine.held) (waits : AwaitsAnswer d r.before.machine.held) : Type 0 where
  pub responder : AcceptsWithoutChildBeside meaning r.before.machine.config d notice q half_open
  pub initiator : ConcludesWithoutChildBeside q.before.machine.config d r waits
