-- The inputs of a gateway as plain data: what is borrowed stands for its octets.
use Rattle.std.specs.Prelude.{ℕ, Option}
use Rattle.base.specs.Octets.{Octets}
use Rattle.suite.specs.declared.fresh.Fresh.{Fresh}
use Rattle.gateway.specs.declared.input.Input as lent
use Rattle.gateway.specs.declared.input.Input.TheVariants as given
use Rattle.gateway.specs.declared.world.stored.End.{End}
use Rattle.gateway.specs.declared.world.stored.Event as happening

pub data Input : Type 0 where
  -- a datagram of IKE, from an IPv4 address
  Ike : Octets → Octets → Fresh → Input
  -- an ESP packet that came
  Esp : Octets → Input
  -- a packet on its way out
  Outward : Octets → Input
  -- a packet that came in unprotected
  Inward : Octets → Input
  -- the command to ask for a Child SA by an entry of the policy, under an IKE SA where its serial is given
  Start : Option ℕ → (entry : ℕ) → Fresh → Input
  -- the commands about an IKE SA or a Child SA
  Probe : (ike : ℕ) → Fresh → Input
  DeleteChild : (child : ℕ) → Fresh → Input
  DeleteIke : (ike : ℕ) → Fresh → Input
  -- a new secret of cookies
  Secret : Octets → Input
  -- the time in milliseconds
  Tick : ℕ → Input

-- an event: an input for one of two ends
pub record Event : Type 0 where
  pub end : End
  pub input : Input

abbrev pub input_view : lent.Input → Input
input_view (given.Ike from octets fresh) = Ike from octets.now fresh.now
input_view (given.Esp octets) = Esp octets.now
input_view (given.Outward packet) = Outward packet.now
input_view (given.Inward packet) = Inward packet.now
input_view (given.Start ike entry fresh) = Start ike entry fresh.now
input_view (given.Probe ike fresh) = Probe ike fresh.now
input_view (given.DeleteChild child fresh) = DeleteChild child fresh.now
input_view (given.DeleteIke ike fresh) = DeleteIke ike fresh.now
input_view (given.Secret secret) = Secret secret.now
input_view (given.Tick moment) = Tick moment

abbrev pub event_view : happening.Event → Event
event_view event = record { end = event.end; input = input_view event.input }
