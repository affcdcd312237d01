-- A run that begins with two new gateways, in which an IKE SA with a Child SA is deleted by its peer. Before
-- that, a stranger asks for the same in clear (RFC 7296 sections 1.4, 1.4.1 and 3.11).
use Rattle.std.specs.Prelude.{◌≡◌, ◌++◌, ◌∷◌, false, true, List, [], Some, map}
use Rattle.base.specs.Octets.{Octets}
use Rattle.wire.specs.declared.message.Message.{Message}
use Rattle.wire.specs.declared.payload.Payload.TheVariants.{Delete, Sealed}
use Rattle.association.specs.declared.fault.MessageFault.TheVariants.{NotOpened}
use Rattle.effects.specs.Taking.{asker_of}
use Rattle.ike.specs.declared.fault.IkeFault.TheVariants as fault
use Rattle.gateway.specs.Inputs.{Event}
use Rattle.gateway.specs.Inputs as input
use Rattle.gateway.specs.Outputs.{Dropped, OutputView, Reply, Request}
use Rattle.gateway.specs.WorldHistories.{Happening, IsWorldTrail}
use Rattle.gateway.specs.Worlds.{WorldState}
use Rattle.gateway.specs.declared.fault.Reason.TheVariants.{Ike}
use Rattle.gateway.specs.declared.world.stored.End.TheVariants.{A, B}
use Rattle.laws_two_ends.specs.WorkedRecords.{fresh_of, CanBeMeant}
use Rattle.laws_two_ends.specs.WorkedRuns.{comes_to, events_of, new_ends, outputs_of, run_meaning, Exchanged}

-- ---- the two requests

-- a Delete payload of the IKE SA, with nothing behind it: its length, protocol 1, and no SPI (section 3.11)
abbrev pub deletion_payload : Octets
deletion_payload = 0 ∷ 0 ∷ 0 ∷ 8 ∷ 1 ∷ 0 ∷ 0 ∷ 0 ∷ []

-- The stranger's: INFORMATIONAL with Message ID 3 and that payload, which isn't encrypted. In order: the SPIs
-- of the IKE SA; next payload Delete, version 2.0, the exchange, flag I, the Message ID, the length.
abbrev pub clear_deletion : Octets
clear_deletion =
    0 ∷ 0 ∷ 0 ∷ 0 ∷ 0 ∷ 0 ∷ 0 ∷ 1 ∷ 0 ∷ 0 ∷ 0 ∷ 0 ∷ 0 ∷ 0 ∷ 0 ∷ 2 ∷ 42 ∷ 0x20 ∷ 37 ∷ 0x08 ∷ 0 ∷ 0 ∷ 0 ∷ 3 ∷ 0 ∷ 0 ∷ 0 ∷ 36
    ∷ deletion_payload

abbrev pub deletion : Message
deletion = record {
  header = record { spi_i = 1; spi_r = 2; minor = 0; exchange = 37; flags = record { initiator = true; version = false; response = false }; id = 3 };
  payloads = Delete 1 [] ∷ [];
}

-- The peer's: the same header, and the same payload inside an encrypted one. The cipher hides nothing.
abbrev pub deletion_under_keys : Message
deletion_under_keys = record deletion { payloads = Sealed 42 deletion_payload ∷ [] }

-- ---- what happens

-- the datagrams of the peer's deletion
pub record DeletionDatagrams : Type 0 where
  pub request : Octets
  pub response : Octets

-- After one packet and one probe the stranger's datagram comes to B. Then A is told to delete the IKE SA, and
-- its request comes to B.
abbrev pub deletion_events : Exchanged → DeletionDatagrams → List Event
deletion_events e d =
    events_of e ++ comes_to B clear_deletion 9
    ∷ record { end = A; input = input.DeleteIke 1 (fresh_of 10) }
    ∷ comes_to B d.request 11
    ∷ []

-- The stranger's datagram is dropped. The peer's is answered, and tells the serial of the IKE SA that it
-- closed.
abbrev pub deletion_outputs : Exchanged → DeletionDatagrams → List OutputView
deletion_outputs e d =
    outputs_of e ++ Dropped (Ike (fault.Message NotOpened))
    ∷ Request 1 d.request
    ∷ Reply d.response (Some 1)
    ∷ []

-- There is such a run, for a caller that there can be. Six of its steps are B's: the stranger is met at the
-- fifth of these, and at the sixth the IKE SA is closed.
pub record IsRunWithDeletion {C : Type 0} (a b : C) : Type 0 where
  pub exchanged : Exchanged
  pub deleting : DeletionDatagrams
  pub happenings : List (Happening C)
  pub last : WorldState C
  pub takes : map (λ h. h.event) happenings ≡ deletion_events exchanged deleting
  pub says : map (λ h. h.said) happenings ≡ deletion_outputs exchanged deleting
  pub trail : IsWorldTrail (λ _. run_meaning) (new_ends a b) happenings last
  pub can_be : CanBeMeant (asker_of run_meaning) run_meaning.plain_of
