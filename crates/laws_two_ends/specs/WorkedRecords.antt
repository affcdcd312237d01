-- A worked pair of calls by which both ends come to one record of keys, for which the premises on such
-- calls are shown to hold.
use Rattle.std.specs.Prelude.{◌≡◌, ◌≢◌, ◌+◌, ◌<◌, ◌≤◌, ◌^◌, ℕ, Option, Some, None, [], ◌∷◌, length, replicate}
use Rattle.std.specs.FinMap as map
use Rattle.base.specs.Octets.{AreOctets, Octets}
use Rattle.wire.specs.Messages.{Spells}
use Rattle.wire.specs.declared.message.Message.{Message}
use Rattle.suite.specs.Callers.{FitsPayload, IsSecret}
use Rattle.suite.specs.Keys.{ike_keys}
use Rattle.suite.specs.Sealing.{AreSealable}
use Rattle.suite.specs.declared.fresh.Fresh.{Fresh}
use Rattle.suite.specs.declared.key_record.KeyRecord.{KeyRecord}
use Rattle.suite.specs.declared.keys.Keys.{Keys}
use Rattle.sa_init.specs.Cookies.{CookieSecrets}
use Rattle.sa_init.specs.Fitting.{FitsTransforms}
use Rattle.sa_init.specs.Judging.{IsAccepted}
use Rattle.sa_init.specs.declared.judging.Sender.{Sender}
use Rattle.association.specs.AskedChildren.{AskedChildView, IsSendableChild}
use Rattle.association.specs.declared.phase.Request.{Request}
use Rattle.initial.specs.Beginning.{begun, Begins}
use Rattle.setup.specs.Configs.{IsConfig}
use Rattle.initial.specs.Reading.{Asker}
use Rattle.initial.specs.declared.beginning.Beginning.{Beginning}
use Rattle.ike.specs.Records.{ComesToKeysAsInitiator, ComesToKeysAsResponder, Introduction}

-- What the types and the laws of the traits say of what a caller means by them: its numbers fit; what is
-- sealed opens again, and is as long as is told, at most 128 octets longer than the plain text; both ends
-- come to one secret, or both to none; and public values and proofs fit payloads.
pub record CanBeMeant (asker : Asker) (plain_of : Keys → Octets → Octets → Option Octets) : Type 0 where
  pub transforms : FitsTransforms asker.cipher asker.group
  pub method : asker.own_method < 256
  pub opens_again : (keys : Keys) (head plain fresh : Octets) → AreSealable keys head plain fresh → plain_of keys head (asker.body_of keys head plain fresh) ≡ Some plain
  pub sealed_size : ℕ → ℕ
  pub length_told : (keys : Keys) (head plain fresh : Octets) → AreSealable keys head plain fresh → length (asker.body_of keys head plain fresh) ≡ sealed_size (length plain)
  pub size_bounded : (n : ℕ) → (n ≤ sealed_size n) × (sealed_size n ≤ n + 128)
  pub symmetric : (a b : Octets) → IsSecret a → IsSecret b → asker.shared_secret a (asker.public_value b) ≡ asker.shared_secret b (asker.public_value a)
  pub public_fits : (a : Octets) → IsSecret a → FitsPayload (asker.public_value a)
  pub proof_fits : (octets : Octets) → AreOctets octets → FitsPayload (asker.proof_of octets)

-- what is fresh at a step, as the code's types have it, and the SPI is one
pub record IsFresh (fresh : Fresh) : Type 0 where
  pub named : fresh.spi ≢ 0
  pub spi_fits : fresh.spi < 2 ^ 64
  pub nonce_long : length fresh.nonce ≡ 32
  pub nonce_octets : AreOctets fresh.nonce
  pub secret : IsSecret fresh.secret
  pub seal_long : length fresh.seal ≡ 16
  pub seal_octets : AreOctets fresh.seal

-- Both calls are of one exchange. The initiator's IKE SA is as it began, and no cookie was asked for.
-- The responder judged the very octets that the IKE SA sent, and accepted what they offer. The
-- initiator reads the very octets with which the responder's call answers.
pub record AreOfOneExchange (asker : Asker) (fresh : Fresh) (own other : Introduction) (keys : KeyRecord) (asks : ComesToKeysAsInitiator asker own other keys)
    (answers : ComesToKeysAsResponder asker.cipher asker.group asker.public_value asker.shared_secret other own keys) : Type 0 where
  pub moment : ℕ
  pub serial : ℕ
  pub child : AskedChildView
  pub sendable : IsSendableChild child.local child.remote
  pub beginning : Beginning
  pub begins : Begins asker.cipher asker.group asker.public_value fresh moment beginning
  pub began : asks.old ≡ begun serial beginning child
  -- the request that goes out, that the IKE SA waits to be answered, and that the responder has
  pub sent : beginning.octets ≡ answers.request
  pub waiting : Request
  pub outstanding : map.get asks.old.outgoing.outstanding asks.number ≡ Some waiting
  pub one_request : waiting.octets ≡ answers.request
  -- what it says, and that this offer is what was accepted of it, by a responder that has no IKE SA yet
  pub asked : Message
  pub asked_spelled : Spells asked answers.request
  pub sender : Sender
  pub from : (sender.spi_i ≡ answers.spi_i) × (asked.header.spi_i ≡ answers.spi_i)
  pub secrets : CookieSecrets
  pub accepted : IsAccepted asker.cipher asker.group secrets sender 0 0 asked.payloads answers.offer
  -- the answer
  pub one_answer : asks.octets ≡ answers.admitted.octets
  pub answer_spelled : Spells asks.response asks.octets

-- A cipher that hides nothing, by the number of NULL. A secret is its own public value, and what is shared
-- is the same for all. A proof is one octet.
abbrev pub worked_asker : Asker
worked_asker = record {
  cipher = record { id = 11; key_length = None };
  body_of = λ keys head plain fresh. plain;
  group = 1;
  public_value = λ secret. secret;
  shared_secret = λ secret public. Some (replicate 32 0);
  own_method = 2;
  proof_of = λ octets. 0 ∷ [];
}

abbrev pub worked_plain_of : Keys → Octets → Octets → Option Octets
worked_plain_of keys head body = Some body

-- all that is fresh at a step, told by one number
abbrev pub fresh_of : ℕ → Fresh
fresh_of number = record { spi = number; nonce = replicate 32 number; secret = replicate 32 (number + 16); seal = replicate 16 number }

-- the initiator begins with the first, the responder answers with the second, and the initiator goes on
-- with the third
abbrev pub beginning_fresh : Fresh
beginning_fresh = fresh_of 1

abbrev pub answering_fresh : Fresh
answering_fresh = fresh_of 2

abbrev pub reading_fresh : Fresh
reading_fresh = fresh_of 3

-- what an end says of itself by what is fresh
abbrev pub introduction_of : Fresh → Introduction
introduction_of fresh = record { spi = fresh.spi; public = worked_asker.public_value fresh.secret; nonce = fresh.nonce }

-- the keys of the IKE SA (RFC 7296 section 2.14)
abbrev pub worked_record : KeyRecord
worked_record = ike_keys (replicate 32 0) beginning_fresh.nonce answering_fresh.nonce beginning_fresh.spi answering_fresh.spi

-- There are both calls by which the ends come to these keys, of one exchange, for a caller that there can
-- be, an initiator that is rightly set up, and words that can be fresh.
pub record IsWorkedRecord : Type 0 where
  pub can_be : CanBeMeant worked_asker worked_plain_of
  pub beginning_is : IsFresh beginning_fresh
  pub answering_is : IsFresh answering_fresh
  pub reading_is : IsFresh reading_fresh
  pub asks : ComesToKeysAsInitiator worked_asker (introduction_of beginning_fresh) (introduction_of answering_fresh) worked_record
  pub asks_with : asks.setup.fresh ≡ reading_fresh
  pub set_up : IsConfig asks.setup.config
  pub answers : ComesToKeysAsResponder worked_asker.cipher worked_asker.group worked_asker.public_value worked_asker.shared_secret (introduction_of answering_fresh) (introduction_of beginning_fresh) worked_record
  pub answers_with : answers.fresh ≡ answering_fresh
  pub one_exchange : AreOfOneExchange worked_asker beginning_fresh (introduction_of beginning_fresh) (introduction_of answering_fresh) worked_record asks answers
