-- The worlds that the worked run goes through where its IKE SA is deleted, and its steps.
use Rattle.std.proofs.Common.{◌+◌, ◌++◌, ◌∷◌, true, false, List, [], Some}
use Rattle.std.specs.FinMap as map
use Rattle.std.specs.FinSet as set
use Rattle.base.specs.Octets.{Octets}
use Rattle.requests.specs.Incoming.{PeerRequests}
use Rattle.requests.specs.Outgoing.{OwnRequests}
use Rattle.sadb.specs.Database.{Database}
use Rattle.association.specs.Issuing.{new_request, with_outgoing}
use Rattle.association.specs.declared.fault.MessageFault.TheVariants.{NotOpened}
use Rattle.association.specs.declared.phase.Association.{Association}
use Rattle.association.specs.declared.phase.Phase.TheVariants.{Closed}
use Rattle.association.specs.declared.phase.Request.{Request}
use Rattle.association.specs.declared.purpose.Purpose.TheVariants.{DeleteAssociation}
use Rattle.ike.specs.declared.fault.IkeFault.TheVariants as fault
use Rattle.gateway.specs.Inputs as input
use Rattle.gateway.specs.Outputs.{Dropped, Reply, Request as Requested}
use Rattle.gateway.specs.WorldHistories.{Happening}
use Rattle.gateway.specs.Worlds.{datagram_of, Stored, WorldState}
use Rattle.gateway.specs.declared.fault.Reason.TheVariants.{Ike}
use Rattle.gateway.specs.declared.world.stored.Datagram.{Datagram}
use Rattle.gateway.specs.declared.world.stored.End.TheVariants.{A, B}
use Rattle.gateway.specs.declared.world.stored.Protection.TheVariants as mark
use Rattle.laws_two_ends.specs.WorkedMessages.{alive_octets, header_octets}
use Rattle.laws_two_ends.specs.WorkedRecords.{fresh_of, worked_record}
use Rattle.laws_two_ends.specs.WorkedRuns.{comes_to}
use Rattle.laws_two_ends.proofs.ResponseLemmas.{response_octets}
use Rattle.laws_two_ends.proofs.Stages.{all_keyed, all_steps, asking_table, both_children, counted, end_with, last_world, later_table, probed, sent_alive, sent_answer, sent_auth, sent_packet, sent_probe, sent_request, sent_response, stored_of, world_of}
use Rattle.laws_authenticated.specs.WorkedDeletions.{clear_deletion, deletion_payload, DeletionDatagrams}

-- the header of the encrypted payload, of which Delete is the first inside
abbrev pub encrypted_octets : Octets
encrypted_octets = 42 ∷ 0 ∷ 0 ∷ 12 ∷ deletion_payload

-- A's request; the length of the whole stands behind the header's other fields
abbrev pub sealed_deletion : Octets
sealed_deletion = header_octets 37 0x08 3 ++ (0 ∷ 0 ∷ 0 ∷ 40 ∷ encrypted_octets)

abbrev pub deleting : DeletionDatagrams
deleting = record { request = sealed_deletion; response = alive_octets }

-- ---- the IKE SAs

abbrev pub deletion_request : Request
deletion_request = new_request sealed_deletion DeleteAssociation 0

-- A's, which asked to delete it, by number 3
abbrev pub ending : Association
ending = with_outgoing counted (record counted.outgoing { next = 4; outstanding = map.insert counted.outgoing.outstanding 3 deletion_request; room = 0 })

-- B's, where that was processed
abbrev pub four_taken : PeerRequests
four_taken = record probed.incoming { in_effect = set.insert probed.incoming.in_effect 3; kept = map.insert map.empty 3 alive_octets; room = 0 }

-- nothing waits for a response any more
abbrev pub nothing_waits : OwnRequests Request → OwnRequests Request
nothing_waits own = record own { outstanding = map.empty; room = own.room + map.len own.outstanding }

abbrev pub ended : Association
ended = record probed { incoming = four_taken; outgoing = nothing_waits probed.outgoing; phase = Closed (Some worked_record) 0 }

-- B's table, where the one pair went
abbrev pub emptied_table : Database
emptied_table = record later_table { pairs = map.empty; room = 1 }

-- ---- what is stored

abbrev pub sent_deletion : Datagram
sent_deletion = datagram_of A (mark.Ike worked_record false 3) sealed_deletion

abbrev pub sent_last : Datagram
sent_last = datagram_of B (mark.Ike worked_record true 3) alive_octets

-- ---- the steps

module _ {C : Type 0} (a b : C) where
  -- where the run that is gone on with ends
  abbrev pub last : WorldState C
  last = last_world a b response_octets

  -- with these sent after the run so far
  abbrev pub stored_with : List Datagram → Stored
  stored_with more =
      stored_of
      (sent_request ∷ sent_answer ∷ sent_auth ∷ sent_response response_octets ∷ sent_packet ∷ sent_probe ∷ sent_alive ∷ more)
      (all_keyed a b response_octets) (both_children a b response_octets)

  -- after A asked to delete the IKE SA
  abbrev pub ending_world : WorldState C
  ending_world = world_of a b (end_with A a ending (asking_table 1)) (end_with B b probed later_table) (stored_with (sent_deletion ∷ []))

  -- after B closed it
  abbrev pub ended_world : WorldState C
  ended_world = world_of a b (end_with A a ending (asking_table 1)) (end_with B b ended emptied_table) (stored_with (sent_deletion ∷ sent_last ∷ []))

  -- the stranger's datagram comes, and changes nothing
  abbrev pub meets : Happening C
  meets = record { before = last; event = comes_to B clear_deletion 9; said = Dropped (Ike (fault.Message NotOpened)); after = last }

  abbrev pub deletes : Happening C
  deletes = record {
    before = last;
    event = record { end = A; input = input.DeleteIke 1 (fresh_of 10) };
    said = Requested 1 sealed_deletion;
    after = ending_world;
  }

  abbrev pub closes : Happening C
  closes = record { before = ending_world; event = comes_to B sealed_deletion 11; said = Reply alive_octets (Some 1); after = ended_world }

  abbrev pub deletion_steps : List (Happening C)
  deletion_steps = all_steps a b response_octets ++ meets ∷ deletes ∷ closes ∷ []
