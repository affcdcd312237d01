-- One end of an IKE SA that has keys: its Message IDs, and what it sent under these keys (RFC 7296
-- sections 2.1 to 2.3).
use Rattle.std.specs.Prelude.{◌≡◌, ◌+◌, ◌++◌, ◌∷◌, ℕ, Bool, true, false, Option, Some, None, List, []}
use Rattle.std.specs.List.{AllByRecursion}
use Rattle.base.specs.Octets.{Octets}
use Rattle.suite.specs.declared.key_record.KeyRecord.{KeyRecord}
use Rattle.exchange.specs.declared.headers.Role.{Role}
use Rattle.effects.specs.Moves.{first_ledger, Close, Count, Issue, KeepsReply, Lead, Ledger, Make, Move, Remove, TakeEffect, WaitsWith}

-- a message that was sent under the keys, by the number of the request that it is or answers
pub record Entry : Type 0 where
  pub response : Bool
  pub number : ℕ
  pub octets : Octets

abbrev pub request_of : ℕ → Octets → Entry
request_of number octets = record { response = false; number = number; octets = octets }

abbrev pub response_of : ℕ → Octets → Entry
response_of number octets = record { response = true; number = number; octets = octets }

pub record End : Type 0 where
  -- none before the end has come to the keys, and none once it has let the IKE SA go
  pub ledger : Option Ledger
  -- how often it came to keys
  pub made : ℕ
  -- all that it sent under them, in this order
  pub sent : List Entry

-- an end that never came to the keys
abbrev pub fresh_end : End
fresh_end = record { ledger = None; made = 0; sent = [] }

-- one that came to them just now
abbrev pub made_end : KeyRecord → Role → End
made_end keys role = record { ledger = Some (first_ledger keys role); made = 1; sent = [] }

-- what goes out by a move for the first time
abbrev pub sent_by : Move → List Entry
sent_by (Make keys) = []
sent_by (Issue number octets) = request_of number octets ∷ []
sent_by (Count number) = []
sent_by (TakeEffect number reply) = response_of number reply ∷ []
sent_by Close = []
sent_by Remove = []

abbrev pub sent_in : List Move → List Entry
sent_in [] = []
sent_in (move ∷ others) = sent_by move ++ sent_in others

abbrev pub made_by : Move → ℕ
made_by (Make keys) = 1
made_by (Issue number octets) = 0
made_by (Count number) = 0
made_by (TakeEffect number reply) = 0
made_by Close = 0
made_by Remove = 0

abbrev pub made_in : List Move → ℕ
made_in [] = 0
made_in (move ∷ others) = made_by move + made_in others

-- what an end does in a step: its moves, and what goes out again (section 2.1)
pub record Deed : Type 0 where
  pub moves : List Move
  pub again : List Entry

abbrev pub IsKeptOrWaits : Bool → Option Ledger → ℕ → Octets → Type 0
IsKeptOrWaits true old number octets = KeepsReply old number octets
IsKeptOrWaits false old number octets = WaitsWith old number octets

-- What goes out again is a reply that is kept, or a request that waits for its answer.
abbrev pub GoesOutAgain : Option Ledger → Entry → Type 0
GoesOutAgain old entry = IsKeptOrWaits entry.response old entry.number entry.octets

-- The moves lead from one ledger to the next, and the end remembers what it sent.
pub record Does (deed : Deed) (old new : End) : Type 0 where
  pub lead : Lead deed.moves old.ledger new.ledger
  pub repeats : AllByRecursion (GoesOutAgain old.ledger) deed.again
  pub made : new.made ≡ old.made + made_in deed.moves
  pub sent : new.sent ≡ old.sent ++ sent_in deed.moves ++ deed.again
