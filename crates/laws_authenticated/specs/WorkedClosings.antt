-- A worked step with which an IKE SA is closed, in a run from two new gateways on: its peer asks under its
-- keys to delete it (RFC 7296 section 1.4.1). Before that a stranger asked for the same in clear.
use Rattle.std.specs.Prelude.{◌≡◌, ◌∷◌, Bool, false, true, List, [], Some, slice_get}
use Rattle.wire.specs.Messages.{Spells}
use Rattle.wire.specs.Payloads.{SpellsChain}
use Rattle.sadb.specs.Database.{pair_at}
use Rattle.sadb.specs.declared.pair.Pair.{Pair}
use Rattle.gateway.specs.Carrying.{EachPairIsOfAnEstablished}
use Rattle.gateway.specs.Closing.{HasNothingLeft, IsOverBy}
use Rattle.gateway.specs.Histories.{IsTrail, Passage}
use Rattle.gateway.specs.LeavingOut.{without, AreGivenAlike, EachLeftOut, IsRightlyGiven, IsWithoutEffect}
use Rattle.gateway.specs.Outputs.{Reply}
use Rattle.gateway.specs.Strangers.{CountsForOne}
use Rattle.gateway.specs.WorldHistories.{passages_at}
use Rattle.gateway.specs.Worlds.{gateway_at}
use Rattle.gateway.specs.declared.world.stored.End.TheVariants.{B}
use Rattle.laws_two_ends.specs.WorkedRuns.{comes_to, new_ends, run_meaning}
use Rattle.laws_authenticated.specs.WorkedDeletions.{deletion, deletion_payload, deletion_under_keys, IsRunWithDeletion}

-- B's steps are steps of a gateway in a row, from a new one on. At the sixth the peer's request comes. It
-- says under the keys what the stranger said in clear, and counts. Each SA pair is of an established IKE SA
-- before it, and that of the first Child SA names the one that is to be deleted. With this step that IKE SA
-- is over, which was held before. The request is answered, and no SA pair that names the IKE SA is left.
pub record IsClosedByItsPeer {C : Type 0} (a b : C) : Type 0 where
  pub run : IsRunWithDeletion a b
  -- premises: how the list begins, and with which step the IKE SA is over
  pub trail : IsTrail (λ _. run_meaning) (gateway_at B (new_ends a b)) (passages_at B run.happenings) (gateway_at B run.last)
  pub all : EachPairIsOfAnEstablished (gateway_at B (new_ends a b))
  pub over : IsOverBy (passages_at B run.happenings) 5 1
  -- what comes at this step, and what stands before it
  pub closing : Passage C
  pub there : slice_get (passages_at B run.happenings) 5 ≡ Some closing
  pub comes : closing.given ≡ (comes_to B run.deleting.request 11).input
  pub spelled : Spells deletion_under_keys run.deleting.request
  pub inside : SpellsChain 42 deletion.payloads deletion_payload
  pub counted : CountsForOne run_meaning.plain_of closing.before.machine.held run.deleting.request
  pub all_before : EachPairIsOfAnEstablished closing.before
  pub pair : Pair
  pub stood : pair_at closing.before.table.pairs 1 ≡ Some pair
  pub its : pair.ike ≡ 1
  -- what comes of it
  pub answers : closing.said ≡ Reply run.deleting.response (Some 1)
  pub left : HasNothingLeft closing.after 1

-- the fifth step is left out, at which the stranger's datagram comes
abbrev pub the_fifth : List Bool
the_fifth = false ∷ false ∷ false ∷ false ∷ true ∷ []

-- That step of B's is left out. The premises are met: a gateway that isn't given the stranger's datagram is
-- given the rest, and that datagram is without effect. What both are given brings the IKE SA to its end.
pub record CanLeaveAStrangerOut {C : Type 0} (a b : C) : Type 0 where
  pub run : IsRunWithDeletion a b
  pub alike : AreGivenAlike (λ _. run_meaning) (IsRightlyGiven (λ _. run_meaning)) the_fifth [] (passages_at B run.happenings) (without the_fifth (passages_at B run.happenings))
      (gateway_at B (new_ends a b)) (gateway_at B (new_ends a b))
      (gateway_at B run.last) (gateway_at B run.last)
  pub out : EachLeftOut (IsWithoutEffect (λ _. run_meaning)) the_fifth (passages_at B run.happenings)
  pub nothing_out : EachLeftOut (IsWithoutEffect (λ _. run_meaning)) [] (without the_fifth (passages_at B run.happenings))
