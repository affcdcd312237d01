-- The peer's requests of one IKE SA, as the set of the Message IDs in effect and a finite map of the cached
-- responses (RFC 7296 sections 2.1 to 2.3).
use Rattle.std.specs.Prelude.{◌≡◌, ◌+◌, ◌^◌, ◌<◌, ◌≤◌, ◌↔◌, ℕ, Some, None, IsSome, refl}
use Rattle.std.specs.Ordering.{nat_cmp}
use Rattle.std.specs.Coded.{Coded, code_by, coded×, coded_ℕ, coded_list}
use Rattle.std.specs.FinMap as map
use Rattle.std.specs.FinSet as set
use Rattle.base.specs.Octets.{Octets}
use Rattle.requests.specs.declared.incoming.Judgement.{Judgement}
use Rattle.requests.specs.declared.incoming.Judgement.TheVariants.{Fresh, Repeat, Forgotten, Outside}
use Rattle.requests.specs.Numbers.{NumberSet, HasNumber, LacksNumber, IsGap}

pub record PeerRequests : Type 0 where
  -- the Message IDs of the requests that were processed
  pub in_effect : NumberSet
  -- how many requests the peer may have under way (RFC 7296 section 2.3), and so how many responses are kept
  -- at most
  pub size : ℕ
  -- the cached responses, by the Message IDs of their requests
  pub kept : map.FinMap nat_cmp Octets
  -- for how many more responses there is room, so that keeping them takes no memory; no part of the content
  pub room : ℕ

abbrev pub peer_requests_code : Coded PeerRequests
peer_requests_code =
    code_by
    (NumberSet × (ℕ × (map.FinMap nat_cmp Octets × ℕ)))
    (coded× (set.code coded_ℕ) (coded× coded_ℕ (coded× (map.code coded_ℕ (coded_list coded_ℕ)) coded_ℕ)))
    (λ r. (r.in_effect, (r.size, (r.kept, r.room))))
    (λ c. record { in_effect = c.0; size = c.1.0; kept = c.1.1.0; room = c.1.1.1 })
    (λ _. refl)

-- no request was processed yet, and the peer may have one under way
abbrev pub no_requests : PeerRequests
no_requests = record { in_effect = set.empty; size = 1; kept = map.empty; room = 0 }

-- the request of Message ID 0 was processed, whose response is kept elsewhere
abbrev pub after_number_0 : PeerRequests
after_number_0 = record { in_effect = set.insert set.empty 0; size = 1; kept = map.empty; room = 0 }

-- some Message ID of the set lies at least a window of this size above this Message ID
pub record IsPassed (numbers : NumberSet) (size n : ℕ) : Type 0 where
  pub later : ℕ
  pub in_effect : HasNumber numbers later
  pub far : n + size ≤ later

-- Some request that was processed lies at least a window above this Message ID: the peer had the answer to
-- it, or it would not have sent that one (RFC 7296 section 2.3).
abbrev pub IsLeftBehind : PeerRequests → ℕ → Type 0
IsLeftBehind r n = IsPassed r.in_effect r.size n

-- a request of this Message ID is processed if it comes: it was not yet, and lies in the window, which begins
-- at the gap
pub record IsFreshRequest (r : PeerRequests) (n : ℕ) : Type 0 where
  pub not_in_effect : LacksNumber r.in_effect n
  pub gap : ℕ
  pub is_gap : IsGap r.in_effect gap
  pub inside : n < gap + r.size

-- its Message ID lies at the window's end or above it
pub record IsOutsideWindow (r : PeerRequests) (n : ℕ) : Type 0 where
  pub not_in_effect : LacksNumber r.in_effect n
  pub gap : ℕ
  pub is_gap : IsGap r.in_effect gap
  pub outside : gap + r.size ≤ n

-- what is done about a request of this Message ID
abbrev pub IsJudgement : PeerRequests → ℕ → Judgement → Type 0
IsJudgement r n Fresh = IsFreshRequest r n
IsJudgement r n (Repeat reply) = HasNumber r.in_effect n × (map.get r.kept n ≡ Some reply.now)
IsJudgement r n Forgotten = HasNumber r.in_effect n × (map.get r.kept n ≡ None)
IsJudgement r n Outside = IsOutsideWindow r n

-- two judgements that say the same, a response by its octets
abbrev pub IsSameJudgement : Judgement → Judgement → Type 0
IsSameJudgement Fresh Fresh = Unit {0}
IsSameJudgement (Repeat one) (Repeat other) = one.now ≡ other.now
IsSameJudgement Forgotten Forgotten = Unit {0}
IsSameJudgement Outside Outside = Unit {0}
IsSameJudgement _ _ = ⊥

-- the content is as it was, and there is at least as much room
pub record HasSameRequests (old new : PeerRequests) : Type 0 where
  pub content : new ≡ record old { room = new.room }
  pub room : old.room ≤ new.room

-- the request of this Message ID is processed and its response is kept; the responses of the Message IDs a
-- window or more below one in effect are given up, and no others
pub record TakesRequest (old : PeerRequests) (number : ℕ) (reply : Octets) (new : PeerRequests) : Type 0 where
  pub fresh : IsFreshRequest old number
  pub in_effect : new.in_effect ≡ set.insert old.in_effect number
  pub size : new.size ≡ old.size
  pub kept : (n : ℕ) (octets : Octets) → (map.get new.kept n ≡ Some octets)
      ↔ ((map.get (map.insert old.kept number reply) n ≡ Some octets) × (¬ IsLeftBehind new n))
  pub own_reply : map.get new.kept number ≡ Some reply
  -- room is for as many responses as before, those that are kept counted
  pub room : new.room + map.len new.kept ≡ old.room + map.len old.kept

-- What holds of the peer's requests, always.
pub record IsSoundIncoming (r : PeerRequests) : Type 0 where
  pub some : 1 ≤ r.size
  pub most : r.size ≤ 16
  -- all below the gap are in effect, and none from a window above it on
  pub gap : ℕ
  pub is_gap : IsGap r.in_effect gap
  pub none_above : (n : ℕ) → gap + r.size ≤ n → LacksNumber r.in_effect n
  pub fits : (n : ℕ) → HasNumber r.in_effect n → n < 2 ^ 32
  -- responses are of Message IDs in effect, none of them a window or more below another of these
  pub kept_in_effect : (n : ℕ) → IsSome (map.get r.kept n) → HasNumber r.in_effect n
  pub kept_near : (n : ℕ) → IsSome (map.get r.kept n) → ¬ IsLeftBehind r n
  pub few : map.len r.kept ≤ r.size
