-- What is promised of a list of inputs.
use Rattle.std.specs.Prelude.{List}
use Rattle.effects.specs.Taking.{Meaning}
use Rattle.gateway.specs.Authentication.{OnlyTheProvedAreEstablished}
use Rattle.gateway.specs.Carrying.{OnlyTheAuthenticatedCarry}
use Rattle.gateway.specs.Closing.{TheClosedCarryNothing}
use Rattle.gateway.specs.Histories.{IsHistory, Passage}
use Rattle.gateway.specs.Inputs.{Input}
use Rattle.gateway.specs.Inside.{ChildrenStayInside}
use Rattle.gateway.specs.Moments.{MomentsComeInTime}
use Rattle.gateway.specs.Packets.{PacketsAreDelivered}
use Rattle.gateway.specs.Requests.{RepeatsAreAnswered, RequestsTakeEffect}
use Rattle.gateway.specs.Spis.{AnSpiNamesOnePair}
use Rattle.gateway.specs.States.{State}
use Rattle.gateway.specs.Strangers.{StrangersChangeNothing}
use Rattle.gateway.specs.declared.output.Output.{Output}

-- What is promised over these steps from a state to another: of the peer's requests, of their
-- retransmissions, of ticks, and of ESP packets; of who is established, for whom packets are carried and for
-- whom no more, and inside which selectors; of strangers, and of inbound SPIs.
pub record AreKept {C : Type 0} (meaning_of : C → Meaning) (old : State C) (passages : List (Passage C)) (new : State C) : Type 0 where
  pub requests : RequestsTakeEffect meaning_of passages
  pub repeats : RepeatsAreAnswered meaning_of passages
  pub moments : MomentsComeInTime passages
  pub packets : PacketsAreDelivered passages
  pub authentication : OnlyTheProvedAreEstablished meaning_of passages
  pub carrying : OnlyTheAuthenticatedCarry meaning_of old passages new
  pub closing : TheClosedCarryNothing old passages new
  pub inside : ChildrenStayInside old passages new
  pub strangers : StrangersChangeNothing meaning_of passages
  pub spis : AnSpiNamesOnePair old passages new

-- The inputs that were taken have a history of which that holds, and it holds of every history of them.
pub record KeepsPromises {C : Type 0} (meaning_of : C → Meaning) (inputs : List Input) (outputs : List Output) (old new : State C) : Type 0 where
  pub passages : List (Passage C)
  pub history : IsHistory meaning_of inputs outputs old new passages
  pub requests : RequestsTakeEffect meaning_of passages
  pub repeats : RepeatsAreAnswered meaning_of passages
  pub moments : MomentsComeInTime passages
  pub packets : PacketsAreDelivered passages
  pub authentication : OnlyTheProvedAreEstablished meaning_of passages
  pub carrying : OnlyTheAuthenticatedCarry meaning_of old passages new
  pub closing : TheClosedCarryNothing old passages new
  pub inside : ChildrenStayInside old passages new
  pub strangers : StrangersChangeNothing meaning_of passages
  pub spis : AnSpiNamesOnePair old passages new
  pub every : (others : List (Passage C)) → IsHistory meaning_of inputs outputs old new others → AreKept meaning_of old others new
