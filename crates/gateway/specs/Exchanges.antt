-- The exchange IKE_SA_INIT between both ends of a world, by what each end sent (RFC 7296 sections 1.2, 2.6
-- and 2.14).
use Rattle.std.specs.Prelude.{◌≡◌, ◌<◌, ℕ, List, None, Some, slice_get}
use Rattle.base.specs.Octets.{Octets}
use Rattle.wire.specs.declared.message.Header.{Header}
use Rattle.suite.specs.Callers.{IsSecret}
use Rattle.suite.specs.declared.fresh.Fresh.{Fresh}
use Rattle.suite.specs.declared.key_record.KeyRecord.{KeyRecord}
use Rattle.association.specs.Phases.{keys_in}
use Rattle.association.specs.declared.phase.Association.{Association}
use Rattle.association.specs.declared.phase.InitSent.{InitSent}
use Rattle.association.specs.declared.phase.Phase.TheVariants as phase
use Rattle.ike.specs.Records.{Introduction, SaysOfSender}
use Rattle.gateway.specs.Inputs as input
use Rattle.gateway.specs.Outputs as output
use Rattle.gateway.specs.States.{association_in}
use Rattle.gateway.specs.WorldHistories.{Happening}
use Rattle.gateway.specs.Worlds.{gateway_at, other_end, WorldState}
use Rattle.gateway.specs.declared.world.stored.End.{End}

-- With this step an end sends these octets as the request of IKE_SA_INIT of its IKE SA with this serial: for
-- the first time, or again with a cookie. The IKE SA waits for the response then. Its secret has 32 octets, as
-- every value of its type.
pub record SendsRequest {C : Type 0} (h : Happening C) (end : End) (serial : ℕ) (octets : Octets) : Type 0 where
  pub at : h.event.end ≡ end
  pub said : h.said ≡ output.Request serial octets
  pub association : Association
  pub there : association_in (gateway_at end h.after) serial ≡ Some association
  pub sent : InitSent
  pub waits : association.phase ≡ phase.InitSent sent
  pub secret : IsSecret sent.secret

-- With this step a datagram of these octets comes to an end and makes its IKE SA with this serial, and this
-- response goes out. The fresh secret has 32 octets, as every value of its type.
pub record AnswersRequest {C : Type 0} (h : Happening C) (end : End) (serial : ℕ) (request response : Octets) : Type 0 where
  pub at : h.event.end ≡ end
  pub from : Octets
  pub fresh : Fresh
  pub came : h.event.input ≡ input.Ike from request fresh
  pub said : h.said ≡ output.Reply response None
  pub none : association_in (gateway_at end h.before) serial ≡ None
  pub association : Association
  pub there : association_in (gateway_at end h.after) serial ≡ Some association
  pub secret : IsSecret fresh.secret

-- With this step a datagram of these octets comes to an end, and its IKE SA with this serial, which waited
-- for the response of IKE_SA_INIT, has keys.
pub record ReadsResponse {C : Type 0} (h : Happening C) (end : End) (serial : ℕ) (response : Octets) : Type 0 where
  pub at : h.event.end ≡ end
  pub from : Octets
  pub fresh : Fresh
  pub came : h.event.input ≡ input.Ike from response fresh
  pub was : Association
  pub stood : association_in (gateway_at end h.before) serial ≡ Some was
  pub sent : InitSent
  pub waited : was.phase ≡ phase.InitSent sent
  pub is : Association
  pub there : association_in (gateway_at end h.after) serial ≡ Some is
  pub keys : KeyRecord
  pub keyed : keys_in is.phase ≡ Some keys

-- What one end's IKE SA sent as its request, the other end's IKE SA was made of, and what that one answered,
-- the first came to its keys by: octet for octet. Nothing is asked of who brought them, or how often.
pub record HaveExchanged {C : Type 0} (happenings : List (Happening C)) (end : End) (asking answering : ℕ) : Type 0 where
  pub request : Octets
  pub response : Octets
  pub asked : ℕ
  pub asks : Happening C
  pub asks_there : slice_get happenings asked ≡ Some asks
  pub sends : SendsRequest asks end asking request
  pub answered : ℕ
  pub replies : Happening C
  pub replies_there : slice_get happenings answered ≡ Some replies
  pub answers : AnswersRequest replies (other_end end) answering request response
  pub taken : ℕ
  pub takes : Happening C
  pub takes_there : slice_get happenings taken ≡ Some takes
  pub reads : ReadsResponse takes end asking response
  pub later : asked < taken

-- What one end's IKE SA tells of itself in the request that it sends, its SPI, the value of its key exchange
-- and its nonce, tells the request as well of which the other end's IKE SA was made. And what that one tells
-- of itself in its answer, tells the response as well by which the first came to its keys. The octets that an
-- end sends and those that come to the other may differ in everything else.
pub record HaveIntroduced {C : Type 0} (happenings : List (Happening C)) (end : End) (asking answering : ℕ) : Type 0 where
  pub initiator : Introduction
  pub responder : Introduction
  pub sent : Octets
  pub came : Octets
  pub answer : Octets
  pub response : Octets
  pub asked : ℕ
  pub asks : Happening C
  pub asks_there : slice_get happenings asked ≡ Some asks
  pub sends : SendsRequest asks end asking sent
  pub sent_says : SaysOfSender (λ (header : Header). header.spi_i) sent initiator
  pub answered : ℕ
  pub replies : Happening C
  pub replies_there : slice_get happenings answered ≡ Some replies
  pub answers : AnswersRequest replies (other_end end) answering came answer
  pub came_says : SaysOfSender (λ (header : Header). header.spi_i) came initiator
  pub answer_says : SaysOfSender (λ (header : Header). header.spi_r) answer responder
  pub taken : ℕ
  pub takes : Happening C
  pub takes_there : slice_get happenings taken ≡ Some takes
  pub reads : ReadsResponse takes end asking response
  pub response_says : SaysOfSender (λ (header : Header). header.spi_r) response responder
  pub later : asked < taken

-- this end holds the IKE SA with this serial, under these keys
pub record HoldsWith {C : Type 0} (w : WorldState C) (end : End) (serial : ℕ) (keys : KeyRecord) : Type 0 where
  pub association : Association
  pub there : association_in (gateway_at end w) serial ≡ Some association
  pub keyed : keys_in association.phase ≡ Some keys

-- Whenever that was so in these happenings, and both are held after them, they are held under one record of
-- keys (section 2.14).
abbrev pub HoldOneRecord : {C : Type 0} → List (Happening C) → WorldState C → Type 0
HoldOneRecord {C} happenings new =
    (end : End) (asking answering : ℕ) → HaveIntroduced happenings end asking answering
    → (one other : KeyRecord) → HoldsWith new end asking one → HoldsWith new (other_end end) answering other
    → one ≡ other
