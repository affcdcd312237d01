-- What becomes of packets.
use Rattle.std.specs.Prelude.{◌≡◌, false, true}
use Rattle.base.specs.Octets.{Octets}
use Rattle.policy.specs.declared.entry.Action.{Action}
use Rattle.policy.specs.declared.entry.Action.TheVariants.{Bypass, Protect}
use Rattle.policy.specs.declared.flow.Flow.{Flow}
use Rattle.policy.specs.declared.policy.Direction.TheVariants as direction
use Rattle.effects.specs.Taking.{Meaning}
use Rattle.traffic.specs.Receiving.{TakesOneNumber}
use Rattle.traffic.specs.Sending.{IsDecided}
use Rattle.gateway.specs.Faults.{is_after_judging_packet}
use Rattle.gateway.specs.Inputs as input
use Rattle.gateway.specs.Outputs.{Clear, Dropped, OutputView}
use Rattle.gateway.specs.States.{State}
use Rattle.gateway.specs.Steps.{GoesSealed, Steps}
use Rattle.gateway.specs.declared.fault.Reason.{Reason}

-- for any type of provider
module _ (C : Type 0) where
  -- ---- the_protected_never_goes_in_the_clear
  abbrev pub OnlyTheBypassedGoesOutInTheClear : Type 0
  OnlyTheBypassedGoesOutInTheClear = (meaning : Meaning) (packet octets : Octets) (flow : Flow)
      (action : Action) (old new : State C)
      → IsDecided old.entries direction.Outward packet flow action
      → Steps meaning (input.Outward packet) old (Clear octets) new
      → (action ≡ Bypass) × (octets ≡ packet)

  abbrev pub TheProtectedGoesSealed : Type 0
  TheProtectedGoesSealed = (meaning : Meaning) (packet : Octets) (flow : Flow) (said : OutputView)
      (old new : State C)
      → IsDecided old.entries direction.Outward packet flow Protect
      → Steps meaning (input.Outward packet) old said new
      → GoesSealed flow packet old said new

  abbrev pub OnlyTheBypassedComesInInTheClear : Type 0
  OnlyTheBypassedComesInInTheClear = (meaning : Meaning) (packet octets : Octets) (flow : Flow)
      (action : Action) (old new : State C)
      → IsDecided old.entries direction.Inward packet flow action
      → Steps meaning (input.Inward packet) old (Clear octets) new
      → (action ≡ Bypass) × (octets ≡ packet)

  -- ---- a_dropped_packet_takes_one_number_at_most
  abbrev pub JudgedPacketsTakeOneNumber : Type 0
  JudgedPacketsTakeOneNumber = (meaning : Meaning) (octets : Octets) (reason : Reason) (old new : State C)
      → Steps meaning (input.Esp octets) old (Dropped reason) new
      → is_after_judging_packet reason ≡ true
      → (new ≡ record old { table = new.table }) × TakesOneNumber old.table octets new.table

  abbrev pub UnjudgedPacketsChangeNothing : Type 0
  UnjudgedPacketsChangeNothing = (meaning : Meaning) (octets : Octets) (reason : Reason) (old new : State C)
      → Steps meaning (input.Esp octets) old (Dropped reason) new
      → is_after_judging_packet reason ≡ false
      → new ≡ old

  abbrev pub DroppedOutwardPacketsChangeNothing : Type 0
  DroppedOutwardPacketsChangeNothing = (meaning : Meaning) (packet : Octets) (reason : Reason)
      (old new : State C)
      → Steps meaning (input.Outward packet) old (Dropped reason) new
      → new ≡ old

  abbrev pub InwardPacketsChangeNothing : Type 0
  InwardPacketsChangeNothing = (meaning : Meaning) (packet : Octets) (said : OutputView) (old new : State C)
      → Steps meaning (input.Inward packet) old said new
      → new ≡ old
