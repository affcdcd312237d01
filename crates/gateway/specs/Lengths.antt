-- What is asked of an input and of a cipher, so that a step seals in one way alone (RFC 7296 section 3.14).
use Rattle.std.specs.Prelude.{List}
use Rattle.std.specs.List.{AllByRecursion}
use Rattle.effects.specs.Taking.{Meaning}
use Rattle.ike.specs.Lengths.{IsTold}
use Rattle.ike.specs.Steps as ike
use Rattle.ike.specs.Orders as orders
use Rattle.gateway.specs.Inputs.{Input}
use Rattle.gateway.specs.Inputs as input

-- A datagram of IKE is of octets, and with the fresh octets the length of a sealed body follows from that
-- of its plain text.
abbrev pub IsGiven : Meaning → Input → Type 0
IsGiven meaning (input.Ike from octets fresh) = IsTold meaning (ike.Message from octets fresh)
IsGiven meaning (input.Start serial entry fresh) = IsTold meaning (ike.Start serial entry fresh)
IsGiven meaning (input.Probe serial fresh) = IsTold meaning (ike.Order (orders.Probe serial) fresh)
IsGiven meaning (input.DeleteChild serial fresh) = IsTold meaning (ike.Order (orders.DeleteChild serial) fresh)
IsGiven meaning (input.DeleteIke serial fresh) = IsTold meaning (ike.Order (orders.DeleteIke serial) fresh)
IsGiven meaning _ = Unit {0}

-- so it is of each input of a list
abbrev pub AreGiven : Meaning → List Input → Type 0
AreGiven meaning inputs = AllByRecursion (IsGiven meaning) inputs
