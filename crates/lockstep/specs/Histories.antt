-- Two ends over a list of steps of either, in any order, and what is asked of it: neither is told what the
-- other did not send.
use Rattle.std.specs.Prelude.{◌≡◌, ◌≤◌, ◌++◌, ◌∷◌, ℕ, List, [], Contains}
use Rattle.base.specs.Octets.{Octets}
use Rattle.effects.specs.Moves.{Close, Count, Issue, Make, Move, Remove, TakeEffect}
use Rattle.lockstep.specs.Ends.{request_of, response_of, sent_in, Deed, Does, End, Entry}

pub record Ends : Type 0 where
  pub one : End
  pub other : End

pub data Step : Type 0 where
  AtOne : Deed → Step
  AtOther : Deed → Step

abbrev pub Takes : Step → Ends → Ends → Type 0
Takes (AtOne deed) old new = Does deed old.one new.one × (new.other ≡ old.other)
Takes (AtOther deed) old new = Does deed old.other new.other × (new.one ≡ old.one)

-- one step after the other
abbrev pub IsRun : Ends → List Step → Ends → Type 0
IsRun old [] new = new ≡ old
IsRun old (step ∷ steps) new = (between : Ends) × Takes step old between × IsRun between steps new

-- a request of this number is there
pub record HasRequest (sent : List Entry) (number : ℕ) : Type 0 where
  pub octets : Octets
  pub there : Contains sent (request_of number octets)

-- a response to the request of this number is there
pub record HasResponse (sent : List Entry) (number : ℕ) : Type 0 where
  pub octets : Octets
  pub there : Contains sent (response_of number octets)

-- What a move takes from the peer is among what the peer sent.
abbrev pub IsGenuineMove : List Entry → Move → Type 0
IsGenuineMove sent (Make keys) = Unit {0}
IsGenuineMove sent (Issue number octets) = Unit {0}
IsGenuineMove sent (Count number) = HasResponse sent number
IsGenuineMove sent (TakeEffect number reply) = HasRequest sent number
IsGenuineMove sent Close = Unit {0}
IsGenuineMove sent Remove = Unit {0}

abbrev pub AreGenuine : List Entry → List Move → Type 0
AreGenuine sent [] = Unit {0}
AreGenuine sent (move ∷ others) = IsGenuineMove sent move × AreGenuine sent others

-- The premise that no message was forged: what is processed or matched at one end was sent by the other.
-- It asks for what was sent till the list ends, which these ends tell.
abbrev pub IsGenuine : Ends → List Step → Type 0
IsGenuine last [] = Unit {0}
IsGenuine last (AtOne deed ∷ steps) = AreGenuine last.other.sent deed.moves × IsGenuine last steps
IsGenuine last (AtOther deed ∷ steps) = AreGenuine last.one.sent deed.moves × IsGenuine last steps

-- The same of what was sent till then alone, from what the two ends had sent before.
abbrev pub IsGenuineAtOnce : List Entry → List Entry → List Step → Type 0
IsGenuineAtOnce one other [] = Unit {0}
IsGenuineAtOnce one other (AtOne deed ∷ steps) = AreGenuine other deed.moves × IsGenuineAtOnce (one ++ sent_in deed.moves ++ deed.again) other steps
IsGenuineAtOnce one other (AtOther deed ∷ steps) = AreGenuine one deed.moves × IsGenuineAtOnce one (other ++ sent_in deed.moves ++ deed.again) steps

-- These steps lead from the old ends to the new ones, no message was forged, and neither end came to keys
-- more than once. (Of many IKE SAs see Parties, which counts by key record.)
pub record IsHistory (old : Ends) (steps : List Step) (new : Ends) : Type 0 where
  pub run : IsRun old steps new
  pub genuine : IsGenuine new steps
  pub one_distinct : new.one.made ≤ 1
  pub other_distinct : new.other.made ≤ 1
