-- What an initiator does about the response to IKE_SA_INIT (RFC 7296 sections 1.2, 2.6, 2.14 and 2.15).
use Rattle.std.specs.Prelude.{◌≡◌, ◌⊎◌, ◌+◌, ◌<◌, ℕ, false, Option, Some}
use Rattle.std.specs.FinMap as map
use Rattle.base.specs.Octets.{Octets}
use Rattle.wire.specs.Messages.{SpellsPlainly}
use Rattle.wire.specs.Numbers.{IKE_AUTH}
use Rattle.wire.specs.declared.message.Message.{Message}
use Rattle.suite.specs.declared.key_record.KeyRecord.{KeyRecord}
use Rattle.suite.specs.declared.keys.Keys.{Keys}
use Rattle.suite.specs.declared.agreement.Agreement as Agreement
use Rattle.suite.specs.declared.proof.Proof as Proof
use Rattle.suite.specs.declared.sealer.Sealer as Sealer
use Rattle.suite.specs.declared.sealer.Cipher.{Cipher}
use Rattle.exchange.specs.Headers.{keys_of, sent_header}
use Rattle.exchange.specs.Sealed.{IsSealed}
use Rattle.exchange.specs.declared.headers.Role.TheVariants.{Initiator}
use Rattle.requests.specs.Outgoing.{number_0_answered, ReplacesRequest}
use Rattle.sa_init.specs.Messages.{request_message}
use Rattle.sa_init.specs.Reading.{AcceptsNothing, AsksCookie, IsResponse, WaitingView}
use Rattle.sa_init.specs.declared.response.Response.{Response}
use Rattle.sa_init.specs.declared.response.Response.TheVariants as response
use Rattle.association.specs.AskedChildren.{asked_of}
use Rattle.association.specs.declared.phase.Association.{Association}
use Rattle.association.specs.declared.phase.InitSent.{InitSent}
use Rattle.association.specs.declared.phase.Phase.{Phase}
use Rattle.association.specs.declared.phase.Phase.TheVariants as phase
use Rattle.association.specs.declared.phase.Request.{Request}
use Rattle.auth.specs.Proofs.{proving_of}
use Rattle.auth.specs.Requests.{auth_request}
use Rattle.children.specs.Asking.{child_request}
use Rattle.setup.specs.Configs.{Setup}
use Rattle.association.specs.declared.purpose.Purpose.TheVariants.{Begin, Identify}
use Rattle.association.specs.Issuing.{new_request, IssuesNext}
use Rattle.initial.specs.declared.reading.Continued.{Continued}
use Rattle.initial.specs.declared.reading.Continued.TheVariants as continued

-- what the caller means by its traits, as far as an initiator asks it before the peer is known
pub record Asker : Type 0 where
  pub cipher : Cipher
  pub body_of : Keys → Octets → Octets → Octets → Octets
  pub group : ℕ
  pub public_value : Octets → Octets
  pub shared_secret : Octets → Octets → Option Octets
  pub own_method : ℕ
  pub proof_of : Octets → Octets

-- what a caller of this type and value means so
abbrev pub asker_by : {C : Type 0} → Sealer.Ghosts C → Agreement.Ghosts C → Proof.Ghosts C → C → Asker
asker_by sealer agreement proof caller = record {
  cipher = sealer.cipher;
  body_of = sealer.body_of;
  group = agreement.group_number;
  public_value = agreement.public_value;
  shared_secret = agreement.shared_secret;
  own_method = proof.own_method caller;
  proof_of = proof.proof_of caller;
}

-- what this end remembers of its request
abbrev pub waiting_of : ℕ → InitSent → WaitingView
waiting_of spi_i sent = record { spi_i = spi_i; secret = sent.secret; nonce = sent.nonce; cookie = sent.cookie; cookies_taken = sent.cookies_taken }

-- It is unfit by what it says: it asks for no cookie that is to be brought, and accepts nothing.
pub record BringsNothing (cipher : Cipher) (group : ℕ) (sent : WaitingView) (m : Message) : Type 0 where
  pub no_cookie : (octets : Octets) → ¬ AsksCookie sent m octets
  pub no_answer : AcceptsNothing cipher group m

-- the message is unfit for this IKE SA without asking the agreement, or the IKE SA waits for no such response
abbrev pub IsUnfitAtOnce : Cipher → ℕ → Association → Message → Type 0
IsUnfitAtOnce cipher group a m = (sent : InitSent) → a.phase ≡ phase.InitSent sent → BringsNothing cipher group (waiting_of a.spi_i sent) m

-- The request goes out again with the cookie, and all else unchanged; its timer runs anew (section 2.6).
pub record BringsCookie (asker : Asker) (moment : ℕ) (old : Association) (sent : InitSent) (number : ℕ) (cookie : Octets) (octets : Octets) (new : Association) : Type 0 where
  pub spelled : SpellsPlainly (request_message asker.cipher asker.group (asker.public_value sent.secret) old.spi_i (Some cookie) sent.nonce) octets
  pub was : Request
  pub replaced : ReplacesRequest old.outgoing number was (new_request octets Begin moment) new.outgoing
  pub content : new ≡ record old {
    outgoing = new.outgoing;
    phase = phase.InitSent (record sent { cookie = Some cookie; cookies_taken = sent.cookies_taken + 1 });
  }

-- the request of IKE_AUTH: under the IKE SA's keys, with the proof over this end's first message
abbrev pub identity_message : ℕ → (Octets → Octets) → Setup → Association → InitSent → ℕ → KeyRecord → Octets → Message
identity_message own_method proof_of setup old sent spi_r keys first = record {
  header = sent_header old.spi_i spi_r IKE_AUTH old.role false 1;
  payloads = auth_request own_method proof_of setup.config.own.identity (proving_of Initiator keys first) (child_request (asked_of sent.child)) setup.config.window;
}

-- The keys are there: the request is answered, and IKE_AUTH goes out as the next one.
pub record TellsIdentity (asker : Asker) (setup : Setup) (old : Association) (sent : InitSent) (number : ℕ) (m : Message) (response : Octets) (keys : KeyRecord) (octets : Octets) (new : Association) : Type 0 where
  -- the request that is answered, this end's first message
  pub request : Request
  pub outstanding : map.get old.outgoing.outstanding number ≡ Some request
  pub sealed : IsSealed asker.body_of (keys_of old.role keys) setup.fresh.seal (identity_message asker.own_method asker.proof_of setup old sent m.header.spi_r keys request.octets) octets
  pub issued : IssuesNext number_0_answered (new_request octets Identify setup.moment) new.outgoing
  pub content : new ≡ record old {
    spi_r = m.header.spi_r;
    outgoing = new.outgoing;
    phase = phase.AuthSent (record { keys = keys; first = response; child = sent.child });
  }

-- by what the response means; what is unfit changes nothing
abbrev pub Continues : Asker → Setup → Association → InitSent → ℕ → Message → Octets → Response → Continued → Association → Type 0
Continues asker setup old sent number m octets (response.Cookie cookie) (continued.Again again) new =
    BringsCookie asker setup.moment old sent number cookie.now again new
Continues asker setup old sent number m octets (response.Keys keys) (continued.AsksAuth next) new =
    TellsIdentity asker setup old sent number m octets keys next new
Continues asker setup old sent number m octets response.Unfit continued.Unfit new = new ≡ old
Continues asker setup old sent number m octets response continued new = ⊥

pub record ReadsResponse (asker : Asker) (setup : Setup) (old : Association) (number : ℕ) (octets : Octets) (m : Message) (continued : Continued) (new : Association) : Type 0 where
  pub sent : InitSent
  pub was : old.phase ≡ phase.InitSent sent
  pub response : Response
  pub means : IsResponse asker.cipher asker.group asker.shared_secret (waiting_of old.spi_i sent) m response
  pub continues : Continues asker setup old sent number m octets response continued new

-- this end waits for the response to IKE_SA_INIT
pub record IsInitSent (p : Phase) : Type 0 where
  pub sent : InitSent
  pub is : p ≡ phase.InitSent sent

-- it doesn't: the response is unfit
pub record IsNotAwaited (old : Association) (said : Continued) (new : Association) : Type 0 where
  pub not_waiting : ¬ IsInitSent old.phase
  pub unfit : said ≡ continued.Unfit
  pub same : new ≡ old

abbrev pub ReadsWhereWaiting : Asker → Setup → Association → ℕ → Octets → Message → Continued → Association → Type 0
ReadsWhereWaiting asker setup old number octets m continued new = ReadsResponse asker setup old number octets m continued new ⊎ IsNotAwaited old continued new

-- the request carries this cookie from then on; only private contracts cite this and the next
abbrev pub carrying : Octets → Phase → Phase
carrying cookie (phase.InitSent sent) = phase.InitSent (record sent { cookie = Some cookie; cookies_taken = sent.cookies_taken + 1 })
carrying cookie p = p

-- so few cookies were taken that one more can be counted
abbrev pub TakesFew : Phase → Type 0
TakesFew (phase.InitSent sent) = sent.cookies_taken < 255
TakesFew p = Unit {0}

-- the keys are derived, and the response to IKE_AUTH is waited for; only private contracts cite this
abbrev pub telling : KeyRecord → Octets → Phase → Phase
telling keys first (phase.InitSent sent) = phase.AuthSent (record { keys = keys; first = first; child = sent.child })
telling keys first p = p
