-- A worked stream, of one packet: that of a run from two new gateways. Of it the premises on the two ends
-- of a Child SA are shown to hold (RFC 7296 section 1.2; RFC 4301 sections 5.1 and 5.2; RFC 4303 sections
-- 3.3 and 3.4).
use Rattle.std.specs.Prelude.{◌≡◌, Some, slice_get}
use Rattle.esp.specs.Worked.{worked_payload}
use Rattle.sadb.specs.declared.pair.Pair.{Pair}
use Rattle.gateway.specs.BothEnds.{IsWhollySound}
use Rattle.gateway.specs.WorldChildren.{AreEndsOfOneChild}
use Rattle.gateway.specs.WorldHistories.{Happening}
use Rattle.gateway.specs.WorldPromises.{IsUnforged}
use Rattle.laws_two_ends.specs.WorkedRecords.{worked_record}
use Rattle.laws_two_ends.specs.WorkedRuns.{new_ends, run_meaning, IsRunFromNewGateways}
use Rattle.laws_progress.specs.Delivering.{ComesTo, IsSealedBy, IsToGoBy, MayBeAccepted}
use Rattle.laws_progress.specs.InOrder.{ComesInOrder, ComesInTime}
use Rattle.laws_progress.specs.Streams.{AcceptsNothingElse, ArriveInOrder, ArrivesAs}

-- There is such a run, which is a list of steps, in which neither end comes to the record of keys twice,
-- and both ends make a Child SA under it. Its world is wholly sound when it begins, and no message under
-- the record is forged. The packet that is sealed at its sixth step arrives at the seventh; it arrives in
-- order, and nothing else is accepted of the child.
pub record IsStreamFromNewGateways {C : Type 0} (a b : C) : Type 0 where
  pub run : IsRunFromNewGateways a b
  pub sound : IsWhollySound run_meaning.body_of run_meaning.plain_of worked_record (new_ends a b)
  pub unforged : IsUnforged (λ _. run_meaning) worked_record run.happenings run.last.stored
  pub ends : AreEndsOfOneChild run.asked run.answered
  pub arrives : ArrivesAs run.asked run.answered run.happenings 6 1 worked_payload
  pub nothing_else : AcceptsNothingElse run.asked run.answered run.happenings
  pub in_order : ArriveInOrder run.asked run.answered (new_ends a b) run.happenings

-- The packet's way in that run. At the sixth step it is to go by A's pair, which seals it. At the seventh its
-- octets come to B's pair, whose window may accept the number: in time, and in order. That both pairs mirror
-- each other is not said here.
pub record IsProgressFromNewGateways {C : Type 0} (a b : C) : Type 0 where
  pub run : IsRunFromNewGateways a b
  pub sealing : Happening C
  pub seals : slice_get run.happenings 5 ≡ Some sealing
  pub pair : Pair
  pub goes : IsToGoBy pair worked_payload sealing
  pub sealed : IsSealedBy pair pair.serial 1 worked_payload run.exchanged.packet sealing
  pub mirror : Pair
  pub comes : ComesTo mirror run.exchanged.packet run.packet_step
  pub may : MayBeAccepted mirror.inbound.association.extended mirror.inbound.window 1
  pub in_time : ComesInTime run.packet_step.event.end (new_ends a b) run.happenings 6 mirror 1
  pub in_order : ComesInOrder run.packet_step.event.end (new_ends a b) run.happenings 6 mirror 1
