-- A worked step at which a stranger is met, in a run from two new gateways on: a gateway holds keys, and a
-- datagram asks in clear to delete their IKE SA (RFC 7296 sections 1.4, 1.4.1 and 3.11).
use Rattle.std.specs.Prelude.{◌≡◌, None, Ok, Some, slice_get}
use Rattle.wire.specs.Messages.{Spells}
use Rattle.association.specs.Finding.{place_meant}
use Rattle.association.specs.Receiving.{opened_by, Opening}
use Rattle.association.specs.declared.phase.Association.{Association}
use Rattle.gateway.specs.Authentication.{IsEstablishedWith}
use Rattle.gateway.specs.Histories.{IsPassage, Passage}
use Rattle.gateway.specs.Strangers.{CountsForOne, IsAsItWas, IsStrange}
use Rattle.gateway.specs.WorldHistories.{passages_at}
use Rattle.gateway.specs.declared.world.stored.End.TheVariants.{B}
use Rattle.laws_two_ends.specs.WorkedRecords.{worked_record}
use Rattle.laws_two_ends.specs.WorkedRuns.{comes_to, run_meaning}
use Rattle.laws_authenticated.specs.WorkedDeletions.{clear_deletion, deletion, IsRunWithDeletion}

-- At the fifth of B's steps, one of a gateway whose invariant holds, the stranger's datagram comes. B's IKE
-- SA is established then. The datagram spells a request for that one, and opens under no keys, whatever the
-- cipher. So it is strange, and the gateway stays as it was. The request that the peer sends next would
-- count there, with the same SPIs and Message ID.
pub record IsMetByAStranger {C : Type 0} (a b : C) : Type 0 where
  pub run : IsRunWithDeletion a b
  pub meeting : Passage C
  pub there : slice_get (passages_at B run.happenings) 4 ≡ Some meeting
  pub is : IsPassage (λ _. run_meaning) meeting
  pub comes : meeting.given ≡ (comes_to B clear_deletion 9).input
  pub established : IsEstablishedWith meeting.before 1 worked_record
  pub spelled : Spells deletion clear_deletion
  pub meant : place_meant deletion.header meeting.before.machine.held.associations ≡ Ok 0
  pub unopened : (plain_of : Opening) (x : Association) → opened_by plain_of x clear_deletion deletion.payloads ≡ None
  pub strange : IsStrange run_meaning meeting.before meeting.given
  pub as_it_was : IsAsItWas meeting.before meeting.after
  pub counted : CountsForOne run_meaning.plain_of meeting.before.machine.held run.deleting.request
