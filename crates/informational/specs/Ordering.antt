-- What this end asks of the peer by INFORMATIONAL (RFC 7296 sections 1.4, 1.4.1 and 2.4).
use Rattle.std.specs.Prelude.{◌≡◌, List, []}
use Rattle.wire.specs.declared.payload.Payload.{Payload}
use Rattle.sadb.specs.Database.{Database, IsLive, Marks, PairMap}
use Rattle.association.specs.declared.purpose.Purpose.{Purpose}
use Rattle.association.specs.declared.purpose.Purpose.TheVariants as purpose
use Rattle.deletions.specs.Asking.{association_deletion, child_deletion}
use Rattle.informational.specs.declared.ordering.Order.{Order}
use Rattle.informational.specs.declared.ordering.Order.TheVariants.{Probe, DeleteChild, DeleteAssociation}

-- the payloads of the request; a Child SA is named by the SPI under which this end receives
abbrev pub payloads_of_order : Order → List Payload
payloads_of_order Probe = []
payloads_of_order (DeleteChild child spi) = child_deletion spi
payloads_of_order DeleteAssociation = association_deletion

-- what is kept of it until the answer comes
abbrev pub purpose_of : Order → Purpose
purpose_of Probe = purpose.Probe
purpose_of (DeleteChild child spi) = purpose.DeleteChild child
purpose_of DeleteAssociation = purpose.DeleteAssociation

-- a Child SA that is to be deleted is there, and Live
abbrev pub IsOfLive : Order → PairMap → Type 0
IsOfLive Probe pairs = Unit {0}
IsOfLive (DeleteChild child spi) pairs = IsLive pairs child
IsOfLive DeleteAssociation pairs = Unit {0}

-- it carries nothing outward from then on, and receives until the answer comes (section 1.4.1)
abbrev pub MarksFor : Order → Database → Database → Type 0
MarksFor Probe table new = new ≡ table
MarksFor (DeleteChild child spi) table new = Marks table child new
MarksFor DeleteAssociation table new = new ≡ table
