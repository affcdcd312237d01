-- What the laws of lower crates say is determined.
use Rattle.std.proofs.Common.{◌≡◌, ℕ, Bool, List, Option}
use Rattle.base.specs.Octets.{Octets}
use Rattle.wire.specs.Messages.{SpellsPlainly}
use Rattle.wire.specs.Payloads.{SpellsChain}
use Rattle.wire.specs.declared.message.Message.{Message}
use Rattle.wire.specs.declared.payload.Payload.{Payload}
use Rattle.suite.specs.Keys.{ike_keys, initiator_keys, responder_keys}
use Rattle.suite.specs.Sealing.{AreKeys}
use Rattle.suite.specs.declared.fresh.Fresh.{Fresh}
use Rattle.suite.specs.declared.keys.Keys.{Keys}
use Rattle.suite.specs.declared.sealer.Cipher.{Cipher}
use Rattle.exchange.specs.Sealed.{IsSealed, TellsLength}
use Rattle.suite.specs.declared.key_record.KeyRecord.{KeyRecord}
use Rattle.exchange.specs.declared.child.ChildPayloads.{ChildPayloads}
use Rattle.exchange.specs.declared.sealed.Plain.{Plain}
use Rattle.requests.specs.Contents.{incoming_content, outgoing_content}
use Rattle.requests.specs.Incoming.{HasSameRequests, PeerRequests, TakesRequest}
use Rattle.requests.specs.Outgoing.{CountsAnswer, HasSameOwnRequests, IssuesRequest, OwnRequests, ReplacesRequest}
use Rattle.policy.specs.declared.entry.Entry.{Entry}
use Rattle.sadb.specs.Contents.{table_content}
use Rattle.sadb.specs.Database.{Database, Installs, IsAsBefore, Releases}
use Rattle.sadb.specs.declared.pair.Pair.{Pair}
use Rattle.deletions.specs.Removing.{RemovesNamed}
use Rattle.further.specs.Concluding.{Concludes}
use Rattle.further.specs.Deciding.{DecidesFurther}
use Rattle.further.specs.declared.concluding.Conclusion.{Conclusion}
use Rattle.further.specs.declared.deciding.Decision.{Decision}
use Rattle.setup.specs.Configs.{Setup}
use Rattle.association.specs.Closing.{Closes}
use Rattle.association.specs.Contents.{association_content}
use Rattle.association.specs.Receiving.{IsReceived, Opening, Reception}
use Rattle.association.specs.declared.phase.Association.{Association}
use Rattle.association.specs.declared.phase.Request.{Request}
use Rattle.auth.specs.Proofs.{Accepts, ProvingView}
use Rattle.auth.specs.Requests.{AuthJudgement, IsAuthJudgement}
use Rattle.auth.specs.declared.identity.Identity.{Identity}
use Rattle.children.specs.Accepting.{IsAcceptedChild, IsUnacceptable}
use Rattle.children.specs.Responding.{AddsNext, IsChildResponse}
use Rattle.children.specs.declared.asking.Asked.{Asked}
use Rattle.children.specs.declared.responding.Response as responding
use Rattle.children.specs.declared.setting.Setting.{Setting}
use Rattle.sa_init.specs.Agreement.{IsAnswer}
use Rattle.sa_init.specs.Judging.{OfferView}
use Rattle.sa_init.specs.Reading.{IsResponse, IsSameResponse, WaitingView}
use Rattle.sa_init.specs.declared.answers.Agreed.{Agreed}
use Rattle.sa_init.specs.declared.response.Response as reading

abbrev pub OneSpelling : Type 0
OneSpelling = (m : Message) (a b : Octets) → SpellsPlainly m a → SpellsPlainly m b → a ≡ b

-- of messages and their octets
pub record MessageLaws : Type 0 where
  pub spelling : OneSpelling
  pub chain : (first : ℕ) (ps qs : List Payload) (b : Octets) → SpellsChain first ps b → SpellsChain first qs b → ps ≡ qs
  pub sealing : (body_of : Keys → Octets → Octets → Octets → Octets) (keys : Keys) (fresh : Octets) (m : Message) (a b : Octets)
      → TellsLength body_of keys fresh → IsSealed body_of keys fresh m a → IsSealed body_of keys fresh m b → a ≡ b

-- of keys as they are derived
pub record KeyLaws : Type 0 where
  pub initiator : (shared ni nr : List ℕ) (spi_i spi_r : ℕ) → AreKeys (initiator_keys (ike_keys shared ni nr spi_i spi_r))
  pub responder : (shared ni nr : List ℕ) (spi_i spi_r : ℕ) → AreKeys (responder_keys (ike_keys shared ni nr spi_i spi_r))

-- of IKE_SA_INIT
pub record InitLaws : Type 0 where
  pub response : (cipher : Cipher) (group : ℕ) (shared_secret : Octets → Octets → Option Octets) (sent : WaitingView) (m : Message) (one other : reading.Response)
      → IsResponse cipher group shared_secret sent m one → IsResponse cipher group shared_secret sent m other → IsSameResponse one other
  pub answer : (cipher : Cipher) (group : ℕ) (public_value : Octets → Octets) (shared_secret : Octets → Octets → Option Octets) (offer : OfferView) (spi_i : ℕ) (fresh : Fresh) (a b : Agreed)
      → IsAnswer cipher group public_value shared_secret offer spi_i fresh a → IsAnswer cipher group public_value shared_secret offer spi_i fresh b → a ≡ b

-- of IKE_AUTH and its Child SA
pub record AuthLaws : Type 0 where
  pub judgement : (accepts : Accepts) (peer : Identity) (what : ProvingView) (payloads : List Payload) (one other : AuthJudgement)
      → IsAuthJudgement accepts peer what payloads one → IsAuthJudgement accepts peer what payloads other → one ≡ other
  pub response : (setting : Setting) (extended : Bool) (entries : List Entry) (table : Database) (offer : ChildPayloads) (a b : responding.Response)
      → IsChildResponse setting extended entries table offer a → IsChildResponse setting extended entries table offer b → a ≡ b
  pub answered : (setting : Setting) (extended : Bool) (entries : List Entry) (table other : Database) (offer : ChildPayloads) (answer : responding.Response)
      → table_content table ≡ table_content other → IsChildResponse setting extended entries table offer answer → IsChildResponse setting extended entries other offer answer
  pub accepted : (setting : Setting) (asked : Asked) (answer : List Payload) (a b : Pair) → IsAcceptedChild setting asked answer a → IsAcceptedChild setting asked answer b → a ≡ b
  pub acceptable : (setting : Setting) (asked : Asked) (answer : List Payload) (pair : Pair) → IsAcceptedChild setting asked answer pair → ¬ IsUnacceptable asked answer

-- of the Message IDs of the peer's requests
pub record IncomingLaws : Type 0 where
  pub prepared : (old new : PeerRequests) → HasSameRequests old new → incoming_content new ≡ incoming_content old
  pub taken : (old other a b : PeerRequests) (n : ℕ) (reply : Octets) → incoming_content old ≡ incoming_content other → TakesRequest old n reply a → TakesRequest other n reply b
      → incoming_content a ≡ incoming_content b

-- of this end's
pub record OutgoingLaws : Type 0 where
  pub prepared : (old new : OwnRequests Request) → HasSameOwnRequests old new → outgoing_content new ≡ outgoing_content old
  pub issued : (old other a b : OwnRequests Request) (request : Request) (m n : ℕ) → outgoing_content old ≡ outgoing_content other → IssuesRequest old request m a → IssuesRequest other request n b
      → outgoing_content a ≡ outgoing_content b
  pub counted : (old other a b : OwnRequests Request) (n : ℕ) (one another : Request) → outgoing_content old ≡ outgoing_content other → CountsAnswer old n one a → CountsAnswer other n another b
      → (one ≡ another) × (outgoing_content a ≡ outgoing_content b)
  pub replaced : (old other a b : OwnRequests Request) (n : ℕ) (was were is : Request) → outgoing_content old ≡ outgoing_content other → ReplacesRequest old n was is a → ReplacesRequest other n were is b
      → (was ≡ were) × (outgoing_content a ≡ outgoing_content b)

-- of tables, and of an IKE SA's end
pub record TableLaws : Type 0 where
  pub prepared : (old new : Database) → IsAsBefore old new → table_content new ≡ table_content old
  pub released : (old other a b : Database) (spi : ℕ) → table_content old ≡ table_content other → Releases old spi a → Releases other spi b → table_content a ≡ table_content b
  pub installed : (old other a b : Database) (spi mark : ℕ) (pair : Pair) (serial number : ℕ) → table_content old ≡ table_content other → Installs old spi pair serial a → Installs other mark pair number b
      → (serial ≡ number) × (table_content a ≡ table_content b)
  pub added : (old other a b : Database) (pair : Pair) (serial number : ℕ) → table_content old ≡ table_content other → AddsNext old pair serial a → AddsNext other pair number b
      → (serial ≡ number) × (table_content a ≡ table_content b)
  pub gone : (old other a b : Database) (serials : List ℕ) → table_content old ≡ table_content other → RemovesNamed old serials a → RemovesNamed other serials b → table_content a ≡ table_content b
  pub ended : (old other a b : Association) (old_table other_table a_table b_table : Database) (moment : ℕ)
      → association_content old ≡ association_content other → table_content old_table ≡ table_content other_table
      → Closes old old_table moment a a_table → Closes other other_table moment b b_table
      → (association_content a ≡ association_content b) × (table_content a_table ≡ table_content b_table)

-- of additional Child SAs
pub record FurtherChildLaws : Type 0 where
  pub decided : (setup : Setup) (ike : ℕ) (keys : KeyRecord) (table other_table : Database) (deleting : Bool) (plain : Plain) (one other : Decision)
      → table_content table ≡ table_content other_table → DecidesFurther setup ike keys table deleting plain one → DecidesFurther setup ike keys other_table deleting plain other → one ≡ other
  pub concluded : (blocks ike : ℕ) (keys : KeyRecord) (asked : Asked) (own_nonce : Octets) (plain : Plain) (one other : Conclusion)
      → Concludes blocks ike keys asked own_nonce plain one → Concludes blocks ike keys asked own_nonce plain other → one ≡ other

-- of what a message is to its IKE SA
pub record ReceptionLaws : Type 0 where
  pub one : (plain_of : Opening) (a : Association) (octets : Octets) (m : Message) (one other : Reception) → IsReceived plain_of a octets m one → IsReceived plain_of a octets m other → one ≡ other
  pub by_content : (plain_of : Opening) (a b : Association) (octets : Octets) (m : Message) (reception : Reception) → association_content a ≡ association_content b
      → IsReceived plain_of a octets m reception → IsReceived plain_of b octets m reception

pub record Laws : Type 0 where
  pub messages : MessageLaws
  pub keys : KeyLaws
  pub init : InitLaws
  pub auth : AuthLaws
  pub incoming : IncomingLaws
  pub outgoing : OutgoingLaws
  pub tables : TableLaws
  pub further : FurtherChildLaws
  pub receptions : ReceptionLaws
