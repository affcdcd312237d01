-- What a responder makes of the selectors that it is offered (RFC 7296 section 2.9): TSi are the
-- initiator's, which is remote to it, TSr its own.
use Rattle.std.specs.Prelude.{◌≡◌, ◌<◌, ◌≤◌, ◌⊎◌, ◌↔◌, ℕ, List, [], ◌∷◌, Some, length, slice_get}
use Rattle.base.specs.Addresses.{IsOrdered}
use Rattle.base.specs.Lists.{HoldsOfNone, IsFirst}
use Rattle.base.specs.declared.selector.Selector.{Selector}
use Rattle.policy.specs.declared.point.Point.{Point}
use Rattle.policy.specs.declared.entry.Entry.{Entry}
use Rattle.policy.specs.declared.entry.Action.TheVariants.{Protect}
use Rattle.policy.specs.declared.fault.NarrowFault.{NarrowFault}
use Rattle.policy.specs.declared.fault.NarrowFault.TheVariants.{Unacceptable, Memory}
use Rattle.policy.specs.Points.{FitsSelectorFields, HoldsPoint, HoldsAny, IsPortRange, IsNonempty, LiesIn, Meets, IsCommonPart}
use Rattle.policy.specs.Decisions.{local_side, remote_side}

-- a side holds the whole of the first selector offered, which has a point
abbrev pub HoldsFirst : Selector → List Selector → Type 0
HoldsFirst side [] = ⊥
HoldsFirst side (first ∷ others) = IsNonempty (HoldsPoint first) × LiesIn (HoldsPoint first) (HoldsPoint side)

-- a side has points that are offered
abbrev pub MeetsOffer : Selector → List Selector → Type 0
MeetsOffer side offered = Meets (HoldsAny offered) (HoldsPoint side)

-- an entry that protects what the first selectors of both lists ask for, which may be a packet's own
-- addresses and ports
pub record FitsFirst (initiator responder : List Selector) (e : Entry) : Type 0 where
  pub protects : e.action ≡ Protect
  pub remote : HoldsFirst (remote_side e) initiator
  pub local : HoldsFirst (local_side e) responder

-- an entry that protects something of what both lists offer
pub record FitsSome (initiator responder : List Selector) (e : Entry) : Type 0 where
  pub protects : e.action ≡ Protect
  pub remote : MeetsOffer (remote_side e) initiator
  pub local : MeetsOffer (local_side e) responder

-- the entry that an offer is narrowed to: the first that fits both first selectors, else the first that
-- fits something
abbrev pub IsChosenEntry : List Entry → List Selector → List Selector → ℕ → Entry → Type 0
IsChosenEntry entries initiator responder place e =
    IsFirst (FitsFirst initiator responder) entries place e
    ⊎ (HoldsOfNone (FitsFirst initiator responder) entries
    × IsFirst (FitsSome initiator responder) entries place e)

-- of an offered selector, the part inside a side, which has points; others follow
pub record IsKeptPart (side offered : Selector) (Others : List Selector → Type 0) (answer : List Selector)
    : Type 0 where
  pub part : Selector
  pub others : List Selector
  pub begins : answer ≡ part ∷ others
  pub common : IsCommonPart (HoldsPoint offered) (HoldsPoint side) part
  pub rest : Others others

-- an offer narrowed to a side: in the offered order the part of each selector inside the side, those
-- without points left out
abbrev pub IsNarrowed : Selector → List Selector → List Selector → Type 0
IsNarrowed side [] answer = answer ≡ []
IsNarrowed side (offered ∷ others) answer =
    IsKeptPart side offered (IsNarrowed side others) answer
    ⊎ ((¬ Meets (HoldsPoint offered) (HoldsPoint side)) × IsNarrowed side others answer)

-- the answer has exactly the points that are offered and inside the side
abbrev pub HasAllCommonPoints : Selector → List Selector → List Selector → Type 0
HasAllCommonPoints side offered answer = (p : Point)
    → HoldsAny answer p ↔ (HoldsAny offered p × HoldsPoint side p)

-- both lists narrowed to the entry that is chosen for them
pub record IsNarrowing (entries : List Entry) (initiator responder answer_i answer_r : List Selector)
    : Type 0 where
  pub place : ℕ
  pub entry : Entry
  pub chosen : IsChosenEntry entries initiator responder place entry
  pub narrowed_i : IsNarrowed (remote_side entry) initiator answer_i
  pub narrowed_r : IsNarrowed (local_side entry) responder answer_r
  pub points_i : HasAllCommonPoints (remote_side entry) initiator answer_i
  pub points_r : HasAllCommonPoints (local_side entry) responder answer_r

-- some entry is chosen for an offer
pub record IsAcceptableOffer (entries : List Entry) (initiator responder : List Selector) : Type 0 where
  pub place : ℕ
  pub entry : Entry
  pub chosen : IsChosenEntry entries initiator responder place entry

-- the refusals of an offer: Unacceptable where no entry is chosen, an allocation failure only where one is
abbrev pub IsNarrowRefusal : List Entry → List Selector → List Selector → NarrowFault → Type 0
IsNarrowRefusal entries initiator responder Unacceptable = ¬ IsAcceptableOffer entries initiator responder
IsNarrowRefusal entries initiator responder Memory = IsAcceptableOffer entries initiator responder

-- a selector has points, all of them inside one offered selector
pub record LiesInOffer (offered : List Selector) (s : Selector) : Type 0 where
  pub some : IsNonempty (HoldsPoint s)
  pub place : ℕ
  pub selector : Selector
  pub there : slice_get offered place ≡ Some selector
  pub inside : LiesIn (HoldsPoint s) (HoldsPoint selector)

-- an answer to an offer: it is not empty, and each of its selectors lies inside the offer
pub record AnswersOffer (answer offered : List Selector) : Type 0 where
  pub some : 0 < length answer
  pub each : (k : ℕ) (s : Selector) → slice_get answer k ≡ Some s → LiesInOffer offered s

-- each selector lies inside a side
abbrev pub LieInSide : List Selector → Selector → Type 0
LieInSide ss side = (k : ℕ) (s : Selector) → slice_get ss k ≡ Some s → LiesIn (HoldsPoint s) (HoldsPoint side)

-- both lists lie inside the sides of one entry that protects
pub record LieInsidePolicy (entries : List Entry) (answer_i answer_r : List Selector) : Type 0 where
  pub place : ℕ
  pub entry : Entry
  pub there : slice_get entries place ≡ Some entry
  pub protects : entry.action ≡ Protect
  pub side_i : LieInSide answer_i (remote_side entry)
  pub side_r : LieInSide answer_r (local_side entry)

-- a payload of traffic selectors can carry it (RFC 7296 section 3.13.1): its fields have room for the
-- numbers, and no range ends before it starts
pub record IsSendableSelector (s : Selector) : Type 0 where
  pub fields : FitsSelectorFields s
  pub ports : IsPortRange s.start_port s.end_port
  pub addresses : IsOrdered s.addresses

-- How many selectors a payload carries at most, a limit of this implementation, which `wire` has too.
abbrev pub SELECTOR_LIMIT : ℕ
SELECTOR_LIMIT = 16

-- a payload of traffic selectors can carry the list (RFC 7296 section 3.13)
pub record AreSendable (ss : List Selector) : Type 0 where
  pub some : 1 ≤ length ss
  pub few : length ss ≤ SELECTOR_LIMIT
  pub each : (k : ℕ) (s : Selector) → slice_get ss k ≡ Some s → IsSendableSelector s
