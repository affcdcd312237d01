-- What a request of this end asks for (RFC 7296 section 1), and by which exchange.
use Rattle.std.specs.Prelude.{◌≡◌, ℕ, Bool, true, false, Option, Some, None}
use Rattle.std.specs.FinMap as map
use Rattle.wire.specs.Numbers.{CREATE_CHILD_SA, IKE_AUTH, IKE_SA_INIT, INFORMATIONAL}
use Rattle.requests.specs.Outgoing.{OwnRequests}
use Rattle.association.specs.AskedChildren.{asked_of}
use Rattle.association.specs.declared.phase.Request.{Request}
use Rattle.association.specs.declared.purpose.Purpose.{Purpose}
use Rattle.association.specs.declared.purpose.Purpose.TheVariants.{Begin, Identify, CreateChild, Probe, DeleteChild, DeleteAssociation}
use Rattle.association.specs.declared.purpose.Sought.{Sought}
use Rattle.association.specs.declared.purpose.Sought.TheVariants as sought

abbrev pub exchange_of : Purpose → ℕ
exchange_of Begin = IKE_SA_INIT
exchange_of Identify = IKE_AUTH
exchange_of (CreateChild further) = CREATE_CHILD_SA
exchange_of Probe = INFORMATIONAL
exchange_of (DeleteChild child) = INFORMATIONAL
exchange_of DeleteAssociation = INFORMATIONAL

-- the IKE SA is to end (section 1.4.1)
abbrev pub asks_to_end : Purpose → Bool
asks_to_end Begin = false
asks_to_end Identify = false
asks_to_end (CreateChild further) = false
asks_to_end Probe = false
asks_to_end (DeleteChild child) = false
asks_to_end DeleteAssociation = true

-- it asks for an additional Child SA (section 1.3.1)
abbrev pub asks_for_child : Purpose → Bool
asks_for_child Begin = false
asks_for_child Identify = false
asks_for_child (CreateChild further) = true
asks_for_child Probe = false
asks_for_child (DeleteChild child) = false
asks_for_child DeleteAssociation = false

-- the inbound SPI that was reserved for that Child SA
abbrev pub spi_asked : Purpose → Option ℕ
spi_asked Begin = None
spi_asked Identify = None
spi_asked (CreateChild further) = Some further.child.spi
spi_asked Probe = None
spi_asked (DeleteChild child) = None
spi_asked DeleteAssociation = None

-- what its answer is read by
abbrev pub sought_of : Purpose → Sought
sought_of Begin = sought.Other
sought_of Identify = sought.Identity
sought_of (CreateChild further) = sought.Child (asked_of further.child) further.nonce
sought_of Probe = sought.Other
sought_of (DeleteChild child) = sought.Other
sought_of DeleteAssociation = sought.Other

-- the request with this Message ID waits for its answer, and this is what that is read by
pub record SeeksAt (requests : OwnRequests Request) (number : ℕ) (seeks : Sought) : Type 0 where
  pub request : Request
  pub outstanding : map.get requests.outstanding number ≡ Some request
  pub is : seeks ≡ sought_of request.purpose

-- a request of this end to end the IKE SA waits for its answer
pub record AwaitsDeletion (requests : OwnRequests Request) : Type 0 where
  pub number : ℕ
  pub request : Request
  pub outstanding : map.get requests.outstanding number ≡ Some request
  pub deletion : asks_to_end request.purpose ≡ true

-- the request with this Message ID waits for its answer, and asks for an additional Child SA under this SPI
pub record AwaitsChild (requests : OwnRequests Request) (number spi : ℕ) : Type 0 where
  pub request : Request
  pub outstanding : map.get requests.outstanding number ≡ Some request
  pub reserved : spi_asked request.purpose ≡ Some spi

-- some request does
pub record AwaitsSpi (requests : OwnRequests Request) (spi : ℕ) : Type 0 where
  pub number : ℕ
  pub awaits : AwaitsChild requests number spi

-- none does
pub record AwaitsNone (requests : OwnRequests Request) : Type 0 where
  pub none : (spi : ℕ) → ¬ AwaitsSpi requests spi

-- some SPI is awaited
pub record AwaitsSome (requests : OwnRequests Request) : Type 0 where
  pub spi : ℕ
  pub awaits : AwaitsSpi requests spi

-- the request with this Message ID asks for no additional Child SA, whose SPI would have to be given up with
-- it
abbrev pub AsksForNoFurtherChild : OwnRequests Request → ℕ → Type 0
AsksForNoFurtherChild requests number = (request : Request) → map.get requests.outstanding number ≡ Some request → asks_for_child request.purpose ≡ false
