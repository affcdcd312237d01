-- IKE_SA_INIT between two new gateways (RFC 7296 sections 1.2 and 2.14): what is asked of its three steps,
-- and what each leads to.
use Rattle.std.specs.Prelude.{◌≡◌, ℕ, false, None, Some}
use Rattle.base.specs.Octets.{Octets}
use Rattle.wire.specs.Messages.{SpellsPlainly}
use Rattle.policy.specs.declared.entry.Entry.{Entry}
use Rattle.sadb.specs.Database.{empty_table}
use Rattle.suite.specs.declared.fresh.Fresh.{Fresh}
use Rattle.exchange.specs.Headers.{keys_of}
use Rattle.exchange.specs.Sealed.{IsSealed}
use Rattle.exchange.specs.declared.headers.Role.TheVariants.{Initiator}
use Rattle.association.specs.Admitting.{half_open}
use Rattle.effects.specs.Taking.{Meaning}
use Rattle.ike.specs.Starting.{protecting_entry}
use Rattle.gateway.specs.Histories.{IsPassage, Passage}
use Rattle.gateway.specs.Inputs as input
use Rattle.gateway.specs.Outputs.{wants_memory, OutputView, Repeat, Reply, Request}
use Rattle.laws_opening.specs.Exchanged.{answering_message, asking_message, keys_from, IsDrawn}
use Rattle.laws_opening.specs.Opened.{auth_message, holding, initiator_opened, made, reserved_table, responder_opened, waiting, Opening, Side}

-- ---- the initiator asks

-- A gateway that was just made is told to set up an IKE SA, with a first Child SA by the entry at this place.
-- Memory doesn't run out.
pub record IsToldToBegin {C : Type 0} (side : Side) (caller : C) (place : ℕ) (asking : Fresh) (p : Passage C) : Type 0 where
  pub new : p.before ≡ made side caller
  pub given : p.given ≡ input.Start None place asking
  pub memory : wants_memory p.said ≡ false

-- its request goes out, and it waits for the response; the first SPI is reserved for the Child SA
pub record Asks {C : Type 0} (meaning : Meaning) (side : Side) (caller : C) (asking : Fresh) (entry : Entry) (p : Passage C) : Type 0 where
  pub request : Octets
  pub said : p.said ≡ Request 1 request
  pub spelled : SpellsPlainly (asking_message meaning asking) request
  -- room for more requests, and for more SPIs
  pub spare : ℕ
  pub room : ℕ
  pub after : p.after ≡ holding side (waiting side asking entry request spare) (reserved_table side.start room) caller

-- ---- the responder answers

-- These octets come to a gateway that was just made, from whatever address. Memory doesn't run out.
pub record IsAsked {C : Type 0} (side : Side) (caller : C) (request : Octets) (answering : Fresh) (q : Passage C) : Type 0 where
  pub new : q.before ≡ made side caller
  pub address : Octets
  pub given : q.given ≡ input.Ike address request answering
  pub memory : wants_memory q.said ≡ false

-- Its response goes out, and it holds an IKE SA with these keys, which is half open. No cookie is asked for.
pub record Answers {C : Type 0} (meaning : Meaning) (side : Side) (caller : C) (asking answering : Fresh) (shared request : Octets) (q : Passage C) : Type 0 where
  pub response : Octets
  pub said : q.said ≡ Reply response None
  pub spelled : SpellsPlainly (answering_message meaning asking answering) response
  pub after : q.after ≡ holding side (half_open 1 asking.spi answering.spi (keys_from shared asking answering) request response 0) (empty_table side.start) caller

-- ---- the initiator takes the answer up

-- The response comes, from whatever address, to the gateway that waits for it. Memory doesn't run out.
pub record IsAnswered {C : Type 0} (side : Side) (caller : C) (o : Opening) (room : ℕ) (reading : Fresh) (r : Passage C) : Type 0 where
  pub spare : ℕ
  pub waits : r.before ≡ holding side (waiting side o.asking o.entry o.request spare) (reserved_table side.start room) caller
  pub address : Octets
  pub given : r.given ≡ input.Ike address o.response reading
  pub memory : wants_memory r.said ≡ false

-- It has the keys, and its request of IKE_AUTH goes out, sealed under them.
pub record TakesUp {C : Type 0} (meaning : Meaning) (side : Side) (caller : C) (o : Opening) (room : ℕ) (reading : Fresh) (r : Passage C) : Type 0 where
  pub auth : Octets
  pub said : r.said ≡ Request 1 auth
  pub sealed : IsSealed meaning.body_of (keys_of Initiator o.keys) reading.seal (auth_message meaning side o) auth
  pub spare : ℕ
  pub after : r.after ≡ initiator_opened side (record o { spare = spare }) auth room caller

-- ---- all three

-- the entry at this place protects, what is fresh is rightly drawn, and the responder comes to a secret by
-- what the initiator sends
pub record CanOpen (meaning : Meaning) (side : Side) (place : ℕ) (entry : Entry) (asking answering : Fresh) (shared : Octets) : Type 0 where
  pub protects : protecting_entry side.entries place ≡ Some entry
  pub asking_drawn : IsDrawn asking
  pub answering_drawn : IsDrawn answering
  pub agrees : meaning.shared_secret answering.secret (meaning.public_value asking.secret) ≡ Some shared

-- the octets that one step puts out as a datagram of IKE
abbrev pub PutsOut : OutputView → Octets → Type 0
PutsOut (Request serial octets) sent = octets ≡ sent
PutsOut (Reply octets closed) sent = octets ≡ sent
PutsOut (Repeat octets) sent = octets ≡ sent
PutsOut said sent = ⊥

-- Three steps of two new gateways: the one is told to begin; what it puts out comes to the other; and what
-- that puts out comes back. Nothing comes to the one in between, and memory runs out at neither.
pub record IsExchange {C : Type 0} (meaning_of : C → Meaning) (one other : Side) (a b : C) (place : ℕ) (asking answering reading : Fresh) (p q r : Passage C) : Type 0 where
  pub begins : IsPassage meaning_of p
  pub told : IsToldToBegin one a place asking p
  -- the request, from whatever address
  pub request : Octets
  pub sent : PutsOut p.said request
  pub answers : IsPassage meaning_of q
  pub asked : IsAsked other b request answering q
  -- the response, from whatever address
  pub response : Octets
  pub sent_back : PutsOut q.said response
  pub reads : IsPassage meaning_of r
  pub waits : r.before ≡ p.after
  pub address : Octets
  pub given : r.given ≡ input.Ike address response reading
  pub memory : wants_memory r.said ≡ false

-- Both have one record of keys, by the secret that they share. The responder's IKE SA is half open. The
-- initiator's has sent its request of IKE_AUTH, sealed under these keys.
pub record HasOpened {C : Type 0} (meaning : Meaning) (one other : Side) (a b : C) (entry : Entry) (asking answering reading : Fresh) (shared : Octets) (p q r : Passage C) : Type 0 where
  pub opening : Opening
  -- what it is of
  pub asking_is : opening.asking ≡ asking
  pub answering_is : opening.answering ≡ answering
  pub entry_is : opening.entry ≡ entry
  pub keys_are : opening.keys ≡ keys_from shared asking answering
  -- the two messages
  pub asked : p.said ≡ Request 1 opening.request
  pub asked_spelled : SpellsPlainly (asking_message meaning asking) opening.request
  pub answered : q.said ≡ Reply opening.response None
  pub answer_spelled : SpellsPlainly (answering_message meaning asking answering) opening.response
  -- the request of IKE_AUTH
  pub auth : Octets
  pub told : r.said ≡ Request 1 auth
  pub sealed : IsSealed meaning.body_of (keys_of Initiator opening.keys) reading.seal (auth_message meaning one opening) auth
  -- what both hold then, the initiator with room for so many more SPIs
  pub room : ℕ
  pub responder : q.after ≡ responder_opened other opening b
  pub initiator : r.after ≡ initiator_opened one opening auth room a
