-- What holds of two ends after any list of steps.
use Rattle.std.specs.Prelude.{◌≡◌, ◌⊎◌, ◌+◌, ◌<◌, ◌≤◌, ℕ, Option, Some, None, List, Contains}
use Rattle.std.specs.FinMap as map
use Rattle.base.specs.Octets.{Octets}
use Rattle.suite.specs.declared.key_record.KeyRecord.{KeyRecord}
use Rattle.exchange.specs.Headers.{other_role}
use Rattle.exchange.specs.declared.headers.Role.{Role}
use Rattle.exchange.specs.declared.headers.Role.TheVariants.{Initiator}
use Rattle.requests.specs.Numbers.{HasNumber, IsGap, LacksNumber}
use Rattle.effects.specs.Moves.{Ledger}
use Rattle.lockstep.specs.Ends.{fresh_end, made_end, request_of, response_of, End, Entry}
use Rattle.lockstep.specs.Histories.{Ends, HasRequest, HasResponse}

-- IKE_SA_INIT is the initiator's request of number 0. It went out before there were keys (sections 1.2 and
-- 2.2).
pub record IsInitial (asking : Role) (number : ℕ) : Type 0 where
  pub role : asking ≡ Initiator
  pub first : number ≡ 0

-- the end of this role asked so, if this is all that it sent under the keys
abbrev pub HasAsked : Role → List Entry → ℕ → Type 0
HasAsked asking sent number = IsInitial asking number ⊎ HasRequest sent number

-- the peer of the end of this role answered so, if this is all that the peer sent under the keys
abbrev pub HasAnswered : Role → List Entry → ℕ → Type 0
HasAnswered asking sent number = IsInitial asking number ⊎ HasResponse sent number

-- a window has one place at least (section 2.3), and 16 at most, a limit of this implementation
pub record IsWide (size : ℕ) : Type 0 where
  pub some : 1 ≤ size
  pub most : size ≤ 16

-- What one end knows of its own numbers (sections 2.2 and 2.3). The peer's requests: all below the gap are
-- in effect, and none from a window above it on. Its own: what waits or is answered was issued, and not
-- both, and none is issued from the end of the window on that it counts for its peer.
pub record IsWithinWindows (l : Ledger) : Type 0 where
  pub size : IsWide l.size
  pub gap : ℕ
  pub is_gap : IsGap l.in_effect gap
  pub none_above : (n : ℕ) → gap + l.size ≤ n → LacksNumber l.in_effect n
  pub window : IsWide l.window
  pub unanswered : ℕ
  pub is_unanswered : IsGap l.answered unanswered
  pub within : l.next ≤ unanswered + l.window
  pub answered_issued : (n : ℕ) → HasNumber l.answered n → n < l.next
  pub waits_issued : (n : ℕ) (octets : Octets) → l.outstanding n ≡ Some octets → n < l.next
  pub waits_unanswered : (n : ℕ) (octets : Octets) → l.outstanding n ≡ Some octets → LacksNumber l.answered n

-- What this end sent is what its numbers say.
pub record SentSo (l : Ledger) (sent : List Entry) : Type 0 where
  pub asked : (n : ℕ) → HasAsked l.role sent n → n < l.next
  pub answered : (n : ℕ) → HasAnswered (other_role l.role) sent n → HasNumber l.in_effect n
  pub waits : (n : ℕ) (octets : Octets) → l.outstanding n ≡ Some octets → Contains sent (request_of n octets)
  pub kept : (n : ℕ) (octets : Octets) → map.get l.kept n ≡ Some octets → Contains sent (response_of n octets)

-- What it took from the peer the peer sent.
pub record TookSo (l : Ledger) (others : List Entry) : Type 0 where
  pub in_effect : (n : ℕ) → HasNumber l.in_effect n → HasAsked (other_role l.role) others n
  pub answered : (n : ℕ) → HasNumber l.answered n → HasAnswered l.role others n

pub record IsSoundLedger (l : Ledger) (sent others : List Entry) : Type 0 where
  pub windows : IsWithinWindows l
  pub own : SentSo l sent
  pub peers : TookSo l others

-- one request of a number alone was sent, and one response: all with that number are the same octets
pub record SendsOnce (sent : List Entry) : Type 0 where
  pub request : (n : ℕ) (a b : Octets) → Contains sent (request_of n a) → Contains sent (request_of n b) → a ≡ b
  pub response : (n : ℕ) (a b : Octets) → Contains sent (response_of n a) → Contains sent (response_of n b) → a ≡ b

abbrev pub HoldsSoundly : Option Ledger → List Entry → List Entry → Type 0
HoldsSoundly None sent others = Unit {0}
HoldsSoundly (Some l) sent others = IsSoundLedger l sent others

-- an end, if this is what the peer sent till now, or till later
pub record IsSoundEnd (e : End) (others : List Entry) : Type 0 where
  -- nothing is held or sent under keys before there are any
  pub unmade : e.made ≡ 0 → (e.ledger ≡ None) × ((entry : Entry) → ¬ Contains e.sent entry)
  pub once : SendsOnce e.sent
  pub holds : HoldsSoundly e.ledger e.sent others

pub record AreSoundEnds (ends : Ends) : Type 0 where
  pub one : IsSoundEnd ends.one ends.other.sent
  pub other : IsSoundEnd ends.other ends.one.sent

-- An end that never came to keys, or came to them just now.
abbrev pub IsNewEnd : End → Type 0
IsNewEnd e = (e ≡ fresh_end) ⊎ ((keys : KeyRecord) × (role : Role) × (e ≡ made_end keys role))

pub record AreNewEnds (ends : Ends) : Type 0 where
  pub one : IsNewEnd ends.one
  pub other : IsNewEnd ends.other
