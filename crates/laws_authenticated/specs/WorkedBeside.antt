-- A worked pair of runs of one gateway, for which all that is asked of two runs side by side is shown to hold.
use Rattle.std.specs.Prelude.{◌≡◌, ◌∷◌, true, None, List, [], map, replicate}
use Rattle.base.specs.Octets.{Octets}
use Rattle.association.specs.declared.fault.MessageFault.TheVariants.{UnknownAssociation}
use Rattle.esp.specs.declared.fault.EspFault.TheVariants.{BadLength}
use Rattle.ike.specs.declared.fault.IkeFault.TheVariants.{Message}
use Rattle.traffic.specs.declared.fault.PacketFault.TheVariants.{Esp}
use Rattle.gateway.specs.Carrying.{EachPairIsOfAnEstablished}
use Rattle.gateway.specs.Histories.{IsTrail, Passage}
use Rattle.gateway.specs.Inputs as input
use Rattle.gateway.specs.LeavingOut.{IsRightlyGiven}
use Rattle.gateway.specs.Outputs.{Dropped, Reply, Request}
use Rattle.gateway.specs.States.{State}
use Rattle.gateway.specs.declared.fault.Reason.TheVariants.{Ike, Packet}
use Rattle.gateway.specs.declared.world.stored.End.TheVariants.{B}
use Rattle.laws_two_ends.specs.WorkedRecords.{fresh_of}
use Rattle.laws_two_ends.specs.WorkedRuns.{new_end, run_meaning}
use Rattle.gateway.specs.Beside.{itself, none_yet, AreGivenBeside, HoldsBeside}

-- In the first run a new gateway gets a stranger's request for an IKE SA and answers it, and drops an ESP packet
-- of no octets. Then a datagram comes for an IKE SA that there isn't, and this end is told to ask for one of its
-- own: the serial of that is 2. In the second run the first two are left out, so the serial is 1.
pub record LeavesARequestOut {C : Type 0} (caller : C) : Type 0 where
  pub request : Octets
  pub response : Octets
  pub stray : Octets
  pub own : Octets
  pub passages : List (Passage C)
  pub new : State C
  pub trail : IsTrail (λ _. run_meaning) (new_end B caller) passages new
  pub takes : map (λ p. p.given) passages
      ≡ input.Ike (replicate 4 1) request (fresh_of 2) ∷ input.Esp [] ∷ input.Ike (replicate 4 1) stray (fresh_of 3) ∷ input.Start None 0 (fresh_of 1) ∷ []
  pub says : map (λ p. p.said) passages
      ≡ Reply response None ∷ Dropped (Packet (Esp BadLength)) ∷ Dropped (Ike (Message UnknownAssociation)) ∷ Request 2 own ∷ []
  pub others : List (Passage C)
  pub after : State C
  pub trail_too : IsTrail (λ _. run_meaning) (new_end B caller) others after
  pub takes_less : map (λ p. p.given) others ≡ input.Ike (replicate 4 1) stray (fresh_of 3) ∷ input.Start None 0 (fresh_of 1) ∷ []
  pub says_alike : map (λ p. p.said) others ≡ Dropped (Ike (Message UnknownAssociation)) ∷ Request 1 own ∷ []
  -- what is asked of both
  pub begins : HoldsBeside itself none_yet (new_end B caller) (new_end B caller)
  pub standing : EachPairIsOfAnEstablished (new_end B caller)
  pub given : AreGivenBeside (λ _. run_meaning) (IsRightlyGiven (λ _. run_meaning)) (true ∷ true ∷ []) itself none_yet passages others
