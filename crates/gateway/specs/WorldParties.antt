-- A world as two endpoints (*parties*), each the other's peer: the IKE SAs that have keys, the key records
-- that were made, and the messages that were sent under them (RFC 7296 sections 2.1 to 2.3 and 2.14).
use Rattle.std.specs.Prelude.{◌≡◌, ◌≤◌, ℕ, Bool, List, [], ◌∷◌, Some, Contains, flat_map}
use Rattle.base.specs.Octets.{Octets}
use Rattle.suite.specs.declared.key_record.KeyRecord.{KeyRecord}
use Rattle.exchange.specs.Headers.{other_role}
use Rattle.association.specs.Phases.{keys_in}
use Rattle.association.specs.declared.phase.Association.{Association}
use Rattle.ike.specs.Moves.{ledger_at}
use Rattle.lockstep.specs.Parties.{times, AreSoundParties, Marked, Parties, Party}
use Rattle.gateway.specs.States.{association_in}
use Rattle.gateway.specs.Worlds.{datagram_of, gateway_at, other_end, Stored, WorldState}
use Rattle.gateway.specs.declared.world.stored.Datagram.{Datagram}
use Rattle.gateway.specs.declared.world.stored.End.{End}
use Rattle.gateway.specs.declared.world.stored.End.TheVariants.{A, B}
use Rattle.gateway.specs.declared.world.stored.Keyed.{Keyed}
use Rattle.gateway.specs.declared.world.stored.Protection.{Protection}
use Rattle.gateway.specs.declared.world.stored.Protection.TheVariants as mark

-- the list where both ends are the same, else the empty one
abbrev pub only_at : {X : Type 0} → End → End → List X → List X
only_at {X} A A xs = xs
only_at {X} B B xs = xs
only_at {X} A B xs = []
only_at {X} B A xs = []

-- an encrypted message, by its keys
abbrev pub marked_by : Protection → Octets → List Marked
marked_by mark.Plain octets = []
marked_by (mark.Ike keys response number) octets = record { keys = keys; entry = record { response = response; number = number; octets = octets } } ∷ []
marked_by (mark.Esp by number) octets = []

abbrev pub sent_of : End → Datagram → List Marked
sent_of end d = only_at end d.end (marked_by d.mark d.octets)

-- all encrypted messages that this end sent, in their order
abbrev pub sent_at : End → List Datagram → List Marked
sent_at end sent = flat_map (sent_of end) sent

abbrev pub made_of : End → Keyed → List KeyRecord
made_of end k = only_at end k.end (k.keys ∷ [])

-- all key records that this end made
abbrev pub made_at : End → List Keyed → List KeyRecord
made_at end keyed = flat_map (made_of end) keyed

-- this end's IKE SAs that have keys, by their serials, and what is stored of it
abbrev pub party_at : {C : Type 0} → End → WorldState C → Party
party_at {C} end w = record {
  ledgers = ledger_at (gateway_at end w).machine.held;
  made = made_at end w.stored.keyed;
  sent = sent_at end w.stored.sent;
}

abbrev pub parties_of : {C : Type 0} → WorldState C → Parties
parties_of {C} w = record { one = party_at A w; other = party_at B w }

-- The invariant of a world under a key record (*sound*). Each end holds at most one IKE SA under it, which
-- got the keys at that end, and its Message IDs lie in the windows. What it counts as sent is stored, and
-- what it counts as received is stored as sent by the other end. All requests that an end sent under the
-- record with one Message ID are the same octets, and so are all responses.
abbrev pub IsSoundUnder : {C : Type 0} → KeyRecord → WorldState C → Type 0
IsSoundUnder {C} keys w = AreSoundParties keys (parties_of w)

-- this end sent these octets under these keys, as the request with this Message ID or as a response to it
abbrev pub HasSent : End → KeyRecord → Bool → ℕ → Octets → Stored → Type 0
HasSent end keys response number octets stored = Contains stored.sent (datagram_of end (mark.Ike keys response number) octets)

-- some octets were sent so
pub record HasSentSome (end : End) (keys : KeyRecord) (response : Bool) (number : ℕ) (stored : Stored) : Type 0 where
  pub octets : Octets
  pub sent : HasSent end keys response number octets stored

-- The assumption that neither end came to these keys twice, which fresh nonces ensure (sections 2.10 and
-- 2.14).
abbrev pub IsNeverMadeTwice : KeyRecord → Stored → Type 0
IsNeverMadeTwice keys stored = (end : End) → times keys (made_at end stored.keyed) ≤ 1

-- an end holds an IKE SA under these keys
pub record HoldsUnder {C : Type 0} (keys : KeyRecord) (end : End) (w : WorldState C) (a : Association) : Type 0 where
  pub serial : ℕ
  pub there : association_in (gateway_at end w) serial ≡ Some a
  pub keyed : keys_in a.phase ≡ Some keys

-- Both ends do, one as its initiator and one as its responder. This end is the one that asks, and the other
-- the one that answers.
pub record AreBothHeld {C : Type 0} (keys : KeyRecord) (end : End) (w : WorldState C) (asking answering : Association) : Type 0 where
  pub asks : HoldsUnder keys end w asking
  pub answers : HoldsUnder keys (other_end end) w answering
  pub roles : answering.role ≡ other_role asking.role
