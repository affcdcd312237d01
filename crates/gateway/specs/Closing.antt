-- Where an IKE SA is closed or held no more, nothing is carried for it from then on (RFC 4301 section 4.4.2;
-- RFC 7296 sections 1.4.1 and 2.4).
use Rattle.std.specs.Prelude.{◌≡◌, ◌≢◌, ◌<◌, ◌≤◌, ℕ, true, Some, None, List, slice_get}
use Rattle.sadb.specs.Database.{pair_at}
use Rattle.sadb.specs.declared.pair.Pair.{Pair}
use Rattle.association.specs.Receiving.{is_closed}
use Rattle.association.specs.declared.phase.Association.{Association}
use Rattle.gateway.specs.Histories.{Passage}
use Rattle.gateway.specs.Packets.{JudgesOne}
use Rattle.gateway.specs.States.{association_in, State}
use Rattle.gateway.specs.Carrying.{child_said, EachPairIsOfAnEstablished}

-- ---- what it is to be over

-- no IKE SA with this serial is held, or it is closed
pub record IsOver {C : Type 0} (s : State C) (serial : ℕ) : Type 0 where
  pub closed : (a : Association) → association_in s serial ≡ Some a → is_closed a.phase ≡ true

-- With the step at this place the IKE SA with this serial is over, or it was so already; and it was held
-- before that step or an earlier one. So a serial that isn't given yet doesn't count.
pub record IsOverBy {C : Type 0} (passages : List (Passage C)) (place serial : ℕ) : Type 0 where
  pub earlier : ℕ
  pub before : earlier ≤ place
  pub first : Passage C
  pub first_there : slice_get passages earlier ≡ Some first
  pub association : Association
  pub held : association_in first.before serial ≡ Some association
  pub passage : Passage C
  pub there : slice_get passages place ≡ Some passage
  pub over : IsOver passage.after serial

-- before this step or an earlier one the Child SA's pair stood, and named this IKE SA
pub record WasOf {C : Type 0} (passages : List (Passage C)) (place serial child : ℕ) : Type 0 where
  pub earlier : ℕ
  pub before : earlier ≤ place
  pub passage : Passage C
  pub there : slice_get passages earlier ≡ Some passage
  pub pair : Pair
  pub stood : pair_at passage.before.table.pairs child ≡ Some pair
  pub its : pair.ike ≡ serial

-- ---- what there is no more

-- the IKE SA is over, and no SA pair in the table names it
pub record HasNothingLeft {C : Type 0} (s : State C) (serial : ℕ) : Type 0 where
  pub over : IsOver s serial
  pub none : (child : ℕ) (pair : Pair) → pair_at s.table.pairs child ≡ Some pair → pair.ike ≢ serial

-- the Child SA's pair stands before this step, and names another IKE SA
pub record IsOfAnother {C : Type 0} (serial child : ℕ) (p : Passage C) : Type 0 where
  pub pair : Pair
  pub there : pair_at p.before.table.pairs child ≡ Some pair
  pub other : pair.ike ≢ serial

-- before this step the Child SA has no pair; no packet is accepted as its own, and no output names it that
-- delivers or seals one or calls one a dummy
pub record CarriesNothing {C : Type 0} (child : ℕ) (p : Passage C) : Type 0 where
  pub none : pair_at p.before.table.pairs child ≡ None
  pub accepted : (number : ℕ) → ¬ JudgesOne child number p
  pub said : child_said p.said ≢ Some child

-- At each later step the IKE SA is still over, and no SA pair in the table names it. Each Child SA as whose
-- a packet is accepted, and each one that an output names, is of another IKE SA. Each one whose pair named
-- this one before a step up to that place carries nothing more. So it is after the list, too.
pub record NothingIsCarriedAfter {C : Type 0} (passages : List (Passage C)) (place serial : ℕ) (new : State C) : Type 0 where
  pub held : (later : ℕ) (p : Passage C) → place < later → slice_get passages later ≡ Some p → HasNothingLeft p.before serial
  pub accepted : (later child number : ℕ) (p : Passage C) → place < later → slice_get passages later ≡ Some p → JudgesOne child number p → IsOfAnother serial child p
  pub said : (later child : ℕ) (p : Passage C) → place < later → slice_get passages later ≡ Some p → child_said p.said ≡ Some child → IsOfAnother serial child p
  pub own : (later child : ℕ) (p : Passage C) → place < later → slice_get passages later ≡ Some p → WasOf passages place serial child → CarriesNothing child p
  pub left : HasNothingLeft new serial

-- Over these steps an IKE SA that is closed carries nothing more, where each SA pair is of an established
-- IKE SA before the list.
pub record TheClosedCarryNothing {C : Type 0} (old : State C) (passages : List (Passage C)) (new : State C) : Type 0 where
  pub after : EachPairIsOfAnEstablished old → (place serial : ℕ) → IsOverBy passages place serial → NothingIsCarriedAfter passages place serial new
