-- What an initiator makes of the response to IKE_AUTH (RFC 7296 sections 1.2, 2.15 and 2.21.2).
use Rattle.std.specs.Prelude.{◌≡◌, ℕ, Bool, true, false, Option, Some, None, List}
use Rattle.std.specs.FinMap as map
use Rattle.wire.specs.declared.payload.Payload.{Payload}
use Rattle.exchange.specs.declared.headers.Role.TheVariants.{Responder}
use Rattle.exchange.specs.declared.sealed.Plain.{Plain}
use Rattle.requests.specs.Outgoing.{CountsAnswer, OwnRequests}
use Rattle.sadb.specs.Database.{Database}
use Rattle.sadb.specs.declared.pair.Pair.{Pair}
use Rattle.association.specs.AskedChildren.{asked_of}
use Rattle.association.specs.Outcomes.{IsDeclinedBy}
use Rattle.association.specs.Purposes.{asks_for_child}
use Rattle.association.specs.declared.phase.Association.{Association}
use Rattle.association.specs.declared.phase.AuthSent.{AuthSent}
use Rattle.association.specs.declared.phase.Phase.{Phase}
use Rattle.association.specs.declared.phase.Phase.TheVariants as phase
use Rattle.association.specs.declared.phase.Request.{Request}
use Rattle.auth.specs.Answers.{is_accepted}
use Rattle.auth.specs.Proofs.{names, proving_of, Accepts, ProvingView}
use Rattle.auth.specs.Windows.{peer_window, IsWindow}
use Rattle.children.specs.Accepting.{IsAcceptedChild, IsUnacceptable}
use Rattle.initial.specs.Concluding.{ConcludesBy}
use Rattle.association.specs.Issuing.{with_outgoing}
use Rattle.setup.specs.Configs.{first_setting, Setup}
use Rattle.exchange.specs.Chains.{IsRead}
use Rattle.exchange.specs.Counting.{only_auth, only_id_r}
use Rattle.association.specs.declared.outcome.Ended.{Ended}
use Rattle.initial.specs.declared.concluding.Outcome.{Outcome}
use Rattle.initial.specs.declared.concluding.Outcome.TheVariants as outcome

-- what the responder has to prove
abbrev pub responder_proving : AuthSent → ProvingView
responder_proving sent = proving_of Responder sent.keys sent.first

-- There is one IDr, which is the peer's, and one AUTH (RFC 7296 section 2.15). Where not, the answer is refused
-- without asking the provider.
abbrev pub names_peer : Setup → List Payload → Bool
names_peer setup payloads = names setup.config.peer.identity (only_id_r payloads) (only_auth payloads)

-- the Child SA, where the answer has an acceptable one
abbrev pub IsFirstChild : Setup → ℕ → AuthSent → List Payload → Option Pair → Type 0
IsFirstChild setup ike sent payloads None = IsUnacceptable (asked_of sent.child) payloads
IsFirstChild setup ike sent payloads (Some pair) = IsAcceptedChild (first_setting setup.config ike sent.keys) (asked_of sent.child) payloads pair

-- The peer proved its identity, so the IKE SA stands, with its Child SA or without it.
pub record ProvesPeer (accepts : Accepts) (setup : Setup) (ike : ℕ) (sent : AuthSent) (payloads : List Payload) (pair : Option Pair) (window : ℕ) : Type 0 where
  pub proved : is_accepted accepts setup.config.peer.identity (responder_proving sent) payloads ≡ true
  pub child : IsFirstChild setup ike sent payloads pair
  pub told : window ≡ peer_window payloads

-- what is not in the grammar, or doesn't prove the peer's identity, ends the IKE SA
abbrev pub IsVerdict : Accepts → Setup → ℕ → AuthSent → Option (List Payload) → Outcome → Type 0
IsVerdict accepts setup ike sent None outcome.Closes = Unit {0}
IsVerdict accepts setup ike sent None (outcome.Establishes pair window) = ⊥
IsVerdict accepts setup ike sent (Some payloads) outcome.Closes = is_accepted accepts setup.config.peer.identity (responder_proving sent) payloads ≡ false
IsVerdict accepts setup ike sent (Some payloads) (outcome.Establishes pair window) = ProvesPeer accepts setup ike sent payloads pair window

pub record Judges (accepts : Accepts) (setup : Setup) (ike : ℕ) (sent : AuthSent) (plain : Plain) (verdict : Outcome) : Type 0 where
  pub payloads : Option (List Payload)
  pub read : IsRead plain payloads
  pub due : IsVerdict accepts setup ike sent payloads verdict

-- The response is matched, and the IKE SA is established or closed.
pub record EndsAuth (accepts : Accepts) (setup : Setup) (old : Association) (table : Database) (number : ℕ) (plain : Plain) (ended : Ended) (new : Association) (new_table : Database) : Type 0 where
  pub sent : AuthSent
  pub was : old.phase ≡ phase.AuthSent sent
  pub verdict : Outcome
  pub judged : Judges accepts setup old.serial sent plain verdict
  pub request : Request
  pub outgoing : OwnRequests Request
  pub counted : CountsAnswer old.outgoing number request outgoing
  pub declined : IsDeclinedBy plain ended.fate ended.declined
  pub concluded : ConcludesBy setup (with_outgoing old outgoing) table verdict ended.fate new new_table

-- this end waits for the response to IKE_AUTH
pub record IsAuthSent (p : Phase) : Type 0 where
  pub sent : AuthSent
  pub is : p ≡ phase.AuthSent sent

-- The response is matched where IKE_AUTH was sent. Elsewhere nothing is done.
abbrev pub EndsWhereSent : Accepts → Setup → Association → Database → ℕ → Plain → Option Ended → Association → Database → Type 0
EndsWhereSent accepts setup old table number plain None new new_table = (¬ IsAuthSent old.phase) × (new ≡ old) × (new_table ≡ table)
EndsWhereSent accepts setup old table number plain (Some ended) new new_table = EndsAuth accepts setup old table number plain ended new new_table

-- the Child SA that is made has the SPI that was reserved for it
abbrev pub HasItsSpi : ℕ → Option Pair → Type 0
HasItsSpi spi None = Unit {0}
HasItsSpi spi (Some pair) = pair.inbound.association.spi ≡ spi

abbrev pub FitsVerdict : AuthSent → Outcome → Type 0
FitsVerdict sent outcome.Closes = Unit {0}
FitsVerdict sent (outcome.Establishes pair window) = IsWindow window × HasItsSpi sent.child.spi pair
