-- What IKE_AUTH makes of two gateways that IKE_SA_INIT opened: an IKE SA established at both ends, and a
-- Child SA where the policies meet (RFC 7296 sections 1.2, 2.9, 2.15 and 2.21.2).
use Rattle.std.specs.Prelude.{◌≡◌, ◌∷◌, ◌&&◌, ℕ, true, false, Option, Some, None, List, [], IsTrue}
use Rattle.std.specs.FinMap as map
use Rattle.base.specs.Octets.{Octets}
use Rattle.wire.specs.Numbers.{IKE_AUTH}
use Rattle.wire.specs.declared.message.Message.{Message}
use Rattle.suite.specs.declared.choice.Chosen.{Chosen}
use Rattle.suite.specs.declared.choice.Wanted.TheVariants.{Esp}
use Rattle.suite.specs.declared.fresh.Fresh.{Fresh}
use Rattle.exchange.specs.Headers.{keys_of, sent_header}
use Rattle.exchange.specs.Sealed.{IsSealed}
use Rattle.exchange.specs.declared.child.ChildPayloads.{ChildPayloads}
use Rattle.exchange.specs.declared.headers.Role.{Role}
use Rattle.exchange.specs.declared.headers.Role.TheVariants.{Initiator, Responder}
use Rattle.exchange.specs.declared.notices.Notice.TheVariants.{TsUnacceptable}
use Rattle.policy.specs.Decisions.{local_side, remote_side}
use Rattle.policy.specs.Narrowing.{IsAcceptableOffer, IsNarrowing}
use Rattle.policy.specs.declared.entry.Entry.{Entry}
use Rattle.sadb.specs.Database.{empty_table, Database, IsStart}
use Rattle.sadb.specs.Mirrors.{Mirrors}
use Rattle.sadb.specs.declared.pair.Pair.{Pair}
use Rattle.association.specs.AskedChildren.{asked_of}
use Rattle.association.specs.declared.phase.Association.{Association}
use Rattle.association.specs.declared.phase.Phase.TheVariants.{Established}
use Rattle.auth.specs.Answers.{auth_answer}
use Rattle.auth.specs.Proofs.{octets_to_prove, proving_of, ProvingView}
use Rattle.children.specs.Asking.{child_request}
use Rattle.children.specs.Pairs.{new_pair}
use Rattle.children.specs.Responding.{made_of}
use Rattle.children.specs.Terms.{Terms}
use Rattle.children.specs.declared.responding.Response.{Response}
use Rattle.children.specs.declared.responding.Response.TheVariants as response
use Rattle.setup.specs.Configs.{first_setting, IsConfig}
use Rattle.initial.specs.Answering.{child_answer}
use Rattle.effects.specs.Taking.{Meaning}
use Rattle.ike.specs.Moves.{HasSeal}
use Rattle.gateway.specs.Histories.{IsPassage, Passage}
use Rattle.gateway.specs.Inputs.{Ike}
use Rattle.gateway.specs.Outputs.{wants_memory, Counted, Reply}
use Rattle.gateway.specs.States.{State}
use Rattle.laws_opening.specs.Opened.{asked_child, auth_message, holding, initiator_opened, responder_opened, Opening, Side}

-- ---- the two messages

-- what the initiator asks for its first Child SA: its entry's two sides, under the SPI that it reserved
abbrev pub asked_offer : Side → Opening → ChildPayloads
asked_offer one o = child_request (asked_of (asked_child one o))

-- what the initiator proves itself over, and what the responder does (section 2.15)
abbrev pub proved_by : Role → Opening → ProvingView
proved_by Initiator o = proving_of Initiator o.keys o.request
proved_by Responder o = proving_of Responder o.keys o.response

-- the very octets
abbrev pub proved_octets : Role → Side → Opening → Octets
proved_octets role own o = octets_to_prove (proved_by role o) own.config.own.identity

-- the response to the request of IKE_AUTH, in clear, with what answers the Child SA
abbrev pub answer_message : Meaning → Side → Opening → Response → Message
answer_message meaning other o answer = record {
  header = sent_header o.asking.spi o.answering.spi IKE_AUTH Responder true 1;
  payloads = auth_answer meaning.own_method meaning.proof_of other.config.own.identity (proved_by Responder o) (child_answer answer) other.config.window;
}

-- the octets are the message as the end of this role seals it under the keys, with fresh octets
pub record IsSentBy (role : Role) (meaning : Meaning) (o : Opening) (m : Message) (octets : Octets) : Type 0 where
  pub fresh : Fresh
  pub seal : HasSeal fresh
  pub sealed : IsSealed meaning.body_of (keys_of role o.keys) fresh.seal m octets

-- ---- what is presumed

-- An end of this role can prove to the other who it is: the other is configured for this end's identity, and
-- its caller accepts what this end's caller makes as a proof of it (section 2.15).
pub record IsKnownTo (role : Role) (own other : Side) (meaning theirs : Meaning) (o : Opening) : Type 0 where
  pub named : other.config.peer.identity ≡ own.config.own.identity
  pub proved : IsTrue (theirs.accepts own.config.own.identity.kind own.config.own.identity.data meaning.own_method (proved_octets role own o) (meaning.proof_of (proved_octets role own o)))

-- a gateway can be made so
pub record CanBeMade (side : Side) : Type 0 where
  pub config : IsConfig side.config
  pub start : IsStart side.start

-- The step is that this datagram comes, from whatever address. The gateway has 16 fresh octets to hand, and
-- memory doesn't run out.
pub record Brings {C : Type 0} (octets : Octets) (p : Passage C) : Type 0 where
  pub from : Octets
  pub fresh : Fresh
  pub seal : HasSeal fresh
  pub given : p.given ≡ Ike from octets fresh
  pub memory : wants_memory p.said ≡ false

-- some entry of a policy meets what is asked for by this entry: what one end calls its own side the other
-- calls remote (section 2.9)
abbrev pub PoliciesMeet : List Entry → Entry → Type 0
PoliciesMeet entries entry = IsAcceptableOffer entries (local_side entry ∷ []) (remote_side entry ∷ [])

-- ---- what comes of it

-- The IKE SA is established under the keys. Its windows are those that both ends are configured for (section
-- 2.3). Of its Message IDs no more is said here.
pub record IsStanding (role : Role) (own other : Side) (o : Opening) (a : Association) : Type 0 where
  pub serial : a.serial ≡ 1
  pub role_is : a.role ≡ role
  pub spi_i : a.spi_i ≡ o.asking.spi
  pub spi_r : a.spi_r ≡ o.answering.spi
  pub established : a.phase ≡ Established o.keys
  pub incoming : a.incoming.size ≡ own.config.window
  pub outgoing : a.outgoing.window ≡ other.config.window
  -- no request of this end waits for its answer
  pub quiet : a.outgoing.outstanding ≡ map.empty

-- the gateway holds one such IKE SA, and its table is this one; all else of it is as it was made
pub record IsUp {C : Type 0} (role : Role) (own other : Side) (caller : C) (o : Opening) (table : Database) (s : State C) : Type 0 where
  pub association : Association
  pub standing : IsStanding role own other o association
  pub state : s ≡ holding own association table caller

-- On these terms both ends make their pairs: under the first SPIs of both, with extended sequence numbers
-- where both allow them, and with the selectors of the initiator's entry, narrowed to the responder's policy.
pub record AreAgreed (one other : Side) (o : Opening) (terms : Terms) : Type 0 where
  pub spi_i : terms.spi_i ≡ one.start
  pub spi_r : terms.spi_r ≡ other.start
  pub extended : terms.extended ≡ (one.config.extended && other.config.extended)
  pub narrowed : IsNarrowing other.entries (local_side o.entry ∷ []) (remote_side o.entry ∷ []) terms.ts_i terms.ts_r

-- of the one proposal, with its number
abbrev pub chosen_on : Terms → Chosen
chosen_on terms = record { place = 0; number = 1; extended = terms.extended }

-- what the responder answers on these terms
abbrev pub answer_on : Side → Opening → Terms → Response
answer_on other o terms = response.Made (made_of (first_setting other.config 1 o.keys) (Esp other.config.extended) (chosen_on terms) terms)

-- the pair that an end of this role has then, under the IKE SA's first serial
abbrev pub pair_on : Role → Side → Opening → Terms → Pair
pair_on role own o terms = new_pair role (first_setting own.config 1 o.keys) terms

-- a table that gave one SPI, to one pair, which has the serial 1
abbrev pub table_with : ℕ → Pair → ℕ → Database
table_with start pair room = record (empty_table start) { given = 1; next = 2; pairs = map.insert map.empty 1 (record pair { serial = 1 }); room = room }

-- a table that gave one SPI, which was given up
abbrev pub table_without : ℕ → ℕ → Database
table_without start room = record (empty_table start) { given = 1; room = room }

-- a table that gave none yet
abbrev pub table_untouched : ℕ → ℕ → Database
table_untouched start room = record (empty_table start) { room = room }

-- ---- the two steps

-- The responder takes the request: the IKE SA is established, and the response goes out, with this answer for
-- the Child SA.
pub record Accepts {C : Type 0} (meaning : Meaning) (one other : Side) (caller : C) (o : Opening) (answer : Response) (table : Database) (p : Passage C) : Type 0 where
  pub octets : Octets
  pub said : p.said ≡ Reply octets None
  pub sent : IsSentBy Responder meaning o (answer_message meaning other o answer) octets
  pub up : IsUp Responder other one caller o table p.after

-- with the Child SA
pub record AcceptsWithChild {C : Type 0} (meaning : Meaning) (one other : Side) (caller : C) (o : Opening) (p : Passage C) : Type 0 where
  pub terms : Terms
  pub agreed : AreAgreed one other o terms
  pub room : ℕ
  pub accepts : Accepts meaning one other caller o (answer_on other o terms) (table_with other.start (pair_on Responder other o terms) room) p

-- or without it, since the policies don't meet
pub record AcceptsWithoutChild {C : Type 0} (meaning : Meaning) (one other : Side) (caller : C) (o : Opening) (p : Passage C) : Type 0 where
  pub room : ℕ
  pub accepts : Accepts meaning one other caller o (response.Refused TsUnacceptable) (table_untouched other.start room) p

-- The initiator takes the response: the IKE SA is established, and this is the Child SA that was made.
pub record Concludes {C : Type 0} (one other : Side) (caller : C) (o : Opening) (child : Option ℕ) (table : Database) (p : Passage C) : Type 0 where
  pub said : p.said ≡ Counted 1 child None
  pub up : IsUp Initiator one other caller o table p.after

-- with its Child SA, on these terms
pub record ConcludesWithChild {C : Type 0} (one other : Side) (caller : C) (o : Opening) (terms : Terms) (p : Passage C) : Type 0 where
  pub room : ℕ
  pub concludes : Concludes one other caller o (Some 1) (table_with one.start (pair_on Initiator one o terms) room) p

-- or without one
pub record ConcludesWithoutChild {C : Type 0} (one other : Side) (caller : C) (o : Opening) (p : Passage C) : Type 0 where
  pub room : ℕ
  pub concludes : Concludes one other caller o None (table_without one.start room) p

-- ---- both in a row

-- What is presumed of an exchange of IKE_AUTH between two gateways that IKE_SA_INIT opened. Each end can
-- prove to the other who it is. The request comes to the responder as the initiator sent it; and what the
-- responder answers, if it does, comes to the initiator, to which nothing came since its request of IKE_AUTH
-- went out.
pub record AreInExchange {C : Type 0} (meaning_of : C → Meaning) (one other : Side) (a b : C) (o : Opening) (auth : Octets) (room : ℕ) (q r : Passage C) : Type 0 where
  pub initiator_known : IsKnownTo Initiator one other (meaning_of a) (meaning_of b) o
  pub responder_known : IsKnownTo Responder other one (meaning_of b) (meaning_of a) o
  pub sent : IsSentBy Initiator (meaning_of a) o (auth_message (meaning_of a) one o) auth
  -- the responder's step
  pub answers : IsPassage meaning_of q
  pub opened : q.before ≡ responder_opened other o b
  pub asked : Brings auth q
  -- the initiator's
  pub ends : IsPassage meaning_of r
  pub waits : r.before ≡ initiator_opened one o auth room a
  pub answered : (octets : Octets) → q.said ≡ Reply octets None → Brings octets r

-- Both ends hold the IKE SA, established under one record of keys, and a pair of the Child SA, on the same
-- terms. So the pairs mirror each other.
pub record ComesUp {C : Type 0} (meaning : Meaning) (one other : Side) (a b : C) (o : Opening) (q r : Passage C) : Type 0 where
  pub responder : AcceptsWithChild meaning one other b o q
  pub initiator : ConcludesWithChild one other a o responder.terms r
  pub mirrored : Mirrors (pair_on Initiator one o responder.terms) (pair_on Responder other o responder.terms)

-- Both ends hold the IKE SA, established under one record of keys, and no pair. The response had
-- TS_UNACCEPTABLE.
pub record ComesUpWithoutChild {C : Type 0} (meaning : Meaning) (one other : Side) (a b : C) (o : Opening) (q r : Passage C) : Type 0 where
  pub responder : AcceptsWithoutChild meaning one other b o q
  pub initiator : ConcludesWithoutChild one other a o r
