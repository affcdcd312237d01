-- All that is asked for and made lies inside the policy (RFC 4301 sections 4.4.1 and 4.4.2; RFC 7296 section
-- 2.9).
use Rattle.std.specs.Prelude.{◌≡◌, ℕ, List, Some, slice_get}
use Rattle.std.specs.FinMap as map
use Rattle.policy.specs.Decisions.{local_side, remote_side}
use Rattle.policy.specs.Narrowing.{LieInsidePolicy}
use Rattle.policy.specs.declared.entry.Action.TheVariants.{Protect}
use Rattle.policy.specs.declared.entry.Entry.{Entry}
use Rattle.sadb.specs.Database.{pair_at}
use Rattle.sadb.specs.declared.pair.Pair.{Pair}
use Rattle.association.specs.AskedChildren.{AskedChildView}
use Rattle.association.specs.declared.phase.Association.{Association}
use Rattle.association.specs.declared.phase.Request.{Request}
use Rattle.association.specs.declared.purpose.FurtherChild.{FurtherChild}
use Rattle.association.specs.declared.purpose.Purpose.TheVariants.{CreateChild}
use Rattle.effects.specs.Children.{first_asked}
use Rattle.gateway.specs.Histories.{Passage}
use Rattle.gateway.specs.States.{State}

-- the selectors of a Child SA that this end asked for are both sides of one entry that protects
pub record IsAskedInside (entries : List Entry) (child : AskedChildView) : Type 0 where
  pub place : ℕ
  pub entry : Entry
  pub there : slice_get entries place ≡ Some entry
  pub protects : entry.action ≡ Protect
  pub remote : child.remote ≡ remote_side entry
  pub local : child.local ≡ local_side entry

-- so do those of each Child SA that an IKE SA waits for, the first one and additional ones
pub record AsksInside (entries : List Entry) (a : Association) : Type 0 where
  pub first : (child : AskedChildView) → first_asked a.phase ≡ Some child → IsAskedInside entries child
  pub further : (number : ℕ) (request : Request) (further : FurtherChild) → map.get a.outgoing.outstanding number ≡ Some request
      → request.purpose ≡ CreateChild further → IsAskedInside entries further.child

-- So it is of each IKE SA. Of each SA pair in the table what is remote to this end lies inside the remote
-- side of one entry that protects, and what is local inside its local side. Which entry that is, is said
-- where a message makes it: to a responder the one that the offer is narrowed to (IsAnsweredChild), to who
-- asked the one whose sides it asked for.
pub record LiesInside {C : Type 0} (s : State C) : Type 0 where
  pub asks : (place : ℕ) (a : Association) → slice_get s.machine.held.associations place ≡ Some a → AsksInside s.entries a
  pub pairs : (child : ℕ) (pair : Pair) → pair_at s.table.pairs child ≡ Some pair → LieInsidePolicy s.entries pair.remote pair.local

-- Over these steps all lies inside the policy before each of them and after the list, where it did before
-- it, as in a new gateway.
pub record ChildrenStayInside {C : Type 0} (old : State C) (passages : List (Passage C)) (new : State C) : Type 0 where
  pub each : LiesInside old → (place : ℕ) (p : Passage C) → slice_get passages place ≡ Some p → LiesInside p.before
  pub last : LiesInside old → LiesInside new
