-- This end's requests of one IKE SA, as the set of the Message IDs answered and a finite map of the
-- outstanding requests (RFC 7296 sections 2.1 to 2.3).
use Rattle.std.specs.Prelude.{◌≡◌, ◌+◌, ◌^◌, ◌<◌, ◌≤◌, ℕ, Bool, true, false, Option, Some, None, IsSome, nat_lt, refl}
use Rattle.std.specs.Ordering.{nat_cmp}
use Rattle.std.specs.Coded.{Coded, code_by, coded×, coded_ℕ}
use Rattle.std.specs.FinMap as map
use Rattle.std.specs.FinSet as set
use Rattle.requests.specs.declared.fault.RequestFault.{RequestFault}
use Rattle.requests.specs.declared.fault.RequestFault.TheVariants.{Memory, Busy, NumbersSpent}
use Rattle.requests.specs.Numbers.{NumberSet, HasNumber, LacksNumber, IsGap}

pub record OwnRequests (T : Type 0) : Type 0 where
  -- the least Message ID never issued
  pub next : ℕ
  -- the Message IDs whose responses were matched
  pub answered : NumberSet
  -- how many requests the peer allows to be under way (RFC 7296 section 2.3)
  pub window : ℕ
  -- the requests that wait for an answer, by Message ID
  pub outstanding : map.FinMap nat_cmp T
  -- for how many more requests there is room, so that issuing them takes no memory; no part of the content
  pub room : ℕ

abbrev pub own_requests_code : {T : Type 0} → Coded T → Coded (OwnRequests T)
own_requests_code {T} code =
    code_by
    (ℕ × (NumberSet × (ℕ × (map.FinMap nat_cmp T × ℕ))))
    (coded× coded_ℕ (coded× (set.code coded_ℕ) (coded× coded_ℕ (coded× (map.code coded_ℕ code) coded_ℕ))))
    (λ r. (r.next, (r.answered, (r.window, (r.outstanding, r.room)))))
    (λ c. record { next = c.0; answered = c.1.0; window = c.1.1.0; outstanding = c.1.1.1.0; room = c.1.1.1.1 })
    (λ _. refl)

-- none issued yet, and the peer allows one to be under way
abbrev pub none_issued : {T : Type 0} → OwnRequests T
none_issued = record { next = 0; answered = set.empty; window = 1; outstanding = map.empty; room = 0 }

-- Message ID 0 was issued and answered elsewhere
abbrev pub number_0_answered : {T : Type 0} → OwnRequests T
number_0_answered = record { next = 1; answered = set.insert set.empty 0; window = 1; outstanding = map.empty; room = 0 }

-- the request of this Message ID waits for an answer
abbrev pub IsOutstanding : {T : Type 0} → OwnRequests T → ℕ → Type 0
IsOutstanding r number = IsSome (map.get r.outstanding number)

-- the next Message ID lies at the end of the peer's window, which begins at the least unanswered Message ID,
-- or above it
pub record IsBusy {T : Type 0} (r : OwnRequests T) : Type 0 where
  pub gap : ℕ
  pub is_gap : IsGap r.answered gap
  pub full : gap + r.window ≤ r.next

-- no Message ID of 32 bits is left (RFC 7296 section 2.2)
abbrev pub AreNumbersSpent : {T : Type 0} → OwnRequests T → Type 0
AreNumbersSpent r = 2 ^ 32 ≤ r.next

-- why no request is issued, each where those before it don't apply
abbrev pub IsRequestRefusal : {T : Type 0} → OwnRequests T → RequestFault → Type 0
IsRequestRefusal r Busy = IsBusy r
IsRequestRefusal r NumbersSpent = (¬ IsBusy r) × AreNumbersSpent r
IsRequestRefusal r Memory = (¬ IsBusy r) × (¬ AreNumbersSpent r) × (r.room ≡ 0)

-- a request may be issued: its Message ID lies in the peer's window and has 32 bits
pub record MayIssue {T : Type 0} (r : OwnRequests T) : Type 0 where
  pub not_busy : ¬ IsBusy r
  pub not_spent : ¬ AreNumbersSpent r

-- the content is as it was, and there is at least as much room
pub record HasSameOwnRequests {T : Type 0} (old new : OwnRequests T) : Type 0 where
  pub content : new ≡ record old { room = new.room }
  pub room : old.room ≤ new.room

-- the request has the least Message ID never issued, and waits for its answer; room falls by one
pub record IssuesRequest {T : Type 0} (old : OwnRequests T) (request : T) (number : ℕ) (new : OwnRequests T) : Type 0 where
  pub allowed : MayIssue old
  pub least : number ≡ old.next
  pub content : new ≡ record old {
    next = old.next + 1;
    outstanding = map.insert old.outstanding number request;
    room = new.room;
  }
  pub room : old.room ≡ new.room + 1

-- an answer came to an outstanding request, which is answered from then on and outstanding no more; its
-- room is free again
pub record CountsAnswer {T : Type 0} (old : OwnRequests T) (number : ℕ) (request : T) (new : OwnRequests T) : Type 0 where
  pub there : map.get old.outstanding number ≡ Some request
  pub content : new ≡ record old {
    answered = set.insert old.answered number;
    outstanding = map.remove old.outstanding number;
    room = old.room + 1;
  }

-- another value stands for an outstanding request
pub record ReplacesRequest {T : Type 0} (old : OwnRequests T) (number : ℕ) (was is : T) (new : OwnRequests T) : Type 0 where
  pub there : map.get old.outstanding number ≡ Some was
  pub content : new ≡ record old { outstanding = map.insert old.outstanding number is }

-- what a change makes of an outstanding request stands for it, where what is made of one stands in a
-- relation to it
pub record ChangesRequest {T : Type 0} (Makes : T → T → Type 0) (old : OwnRequests T) (number : ℕ) (new : OwnRequests T) : Type 0 where
  pub was : T
  pub is : T
  pub made : Makes was is
  pub replaced : ReplacesRequest old number was is new

-- an outstanding request is given back unanswered, so its Message ID is never answered; its room is free
-- again
pub record WithdrawsRequest {T : Type 0} (old : OwnRequests T) (number : ℕ) (request : T) (new : OwnRequests T) : Type 0 where
  pub there : map.get old.outstanding number ≡ Some request
  pub content : new ≡ record old { outstanding = map.remove old.outstanding number; room = old.room + 1 }

-- nothing is outstanding any more, no Message ID more is answered, and the room of what was outstanding is
-- free
pub record GivesUpRequests {T : Type 0} (old new : OwnRequests T) : Type 0 where
  pub content : new ≡ record old { outstanding = map.empty; room = old.room + map.len old.outstanding }

-- a Message ID lies above another one, or above none
abbrev pub IsAbove : Option ℕ → ℕ → Type 0
IsAbove None number = Unit {0}
IsAbove (Some low) number = low < number

-- whether it does
abbrev pub is_above : Option ℕ → ℕ → Bool
is_above None number = true
is_above (Some low) number = nat_lt low number

-- the next outstanding request by Message ID
pub record IsNextOutstanding {T : Type 0} (r : OwnRequests T) (low : Option ℕ) (number : ℕ) (request : T) : Type 0 where
  pub there : map.get r.outstanding number ≡ Some request
  pub above : IsAbove low number
  pub least : (other : ℕ) → IsAbove low other → other < number → map.get r.outstanding other ≡ None

-- a test that answers so is true of some outstanding request
pub record SomeOutstanding {T : Type 0} (outstanding : map.FinMap nat_cmp T) (Answers : T → Bool → Type 0) : Type 0 where
  pub number : ℕ
  pub request : T
  pub there : map.get outstanding number ≡ Some request
  pub passes : Answers request true

-- it is false of each
abbrev pub NoneOutstanding : {T : Type 0} → map.FinMap nat_cmp T → (T → Bool → Type 0) → Type 0
NoneOutstanding {T} outstanding Answers = (number : ℕ) (request : T) → map.get outstanding number ≡ Some request → Answers request false

-- the Message ID was issued and its response never matched
pub record IsUnanswered {T : Type 0} (r : OwnRequests T) (number : ℕ) : Type 0 where
  pub issued : number < r.next
  pub open_yet : LacksNumber r.answered number

-- What holds of this end's requests, always.
pub record IsSoundOutgoing {T : Type 0} (r : OwnRequests T) : Type 0 where
  pub some : 1 ≤ r.window
  pub most : r.window ≤ 16
  pub next_fits : r.next ≤ 2 ^ 32
  -- what is answered was issued
  pub answered_issued : (n : ℕ) → HasNumber r.answered n → n < r.next
  -- all below the gap are answered, and none is issued from the peer's window above it on
  pub gap : ℕ
  pub is_gap : IsGap r.answered gap
  pub in_window : r.next ≤ gap + r.window
  -- so no more unanswered ones were issued than the peer's window allows
  pub few : (numbers : NumberSet) → ((n : ℕ) → HasNumber numbers n → IsUnanswered r n) → set.len numbers ≤ r.window
  pub outstanding_unanswered : (n : ℕ) → IsOutstanding r n → IsUnanswered r n
  pub few_outstanding : map.len r.outstanding ≤ r.window
