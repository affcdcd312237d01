-- What becomes of the Message IDs of an IKE SA, however often its calls are made.
use Rattle.std.specs.Prelude.{◌≡◌, ◌<◌, ◌≤◌, ℕ, Some, None}
use Rattle.std.specs.FinMap as map
use Rattle.std.specs.FinSet as set
use Rattle.base.specs.Octets.{Octets}
use Rattle.requests.specs.Numbers.{HasNumber}
use Rattle.requests.specs.Incoming.{PeerRequests, IsPassed}
use Rattle.requests.specs.Outgoing.{OwnRequests, IsOutstanding}

-- The peer's requests old may have become new, by any number of calls.
pub record FollowsIncoming (old new : PeerRequests) : Type 0 where
  pub size : old.size ≤ new.size
  -- a Message ID in effect stays in effect
  pub in_effect : (n : ℕ) → HasNumber old.in_effect n → HasNumber new.in_effect n
  -- what is kept of a Message ID that was in effect is the response that was kept then
  pub kept : (n : ℕ) (octets : Octets) → HasNumber old.in_effect n → map.get new.kept n ≡ Some octets → map.get old.kept n ≡ Some octets
  -- and a response that was kept is kept still, unless a request was processed that lies a window above it
  pub remembered : (n : ℕ) (octets : Octets) → HasNumber old.in_effect n → map.get old.kept n ≡ Some octets
      → ¬ IsPassed new.in_effect old.size n → map.get new.kept n ≡ Some octets

-- This end's requests old may have become new, by any number of calls.
pub record FollowsOutgoing {T : Type 0} (old new : OwnRequests T) : Type 0 where
  pub next : old.next ≤ new.next
  pub window : old.window ≤ new.window
  -- an answered Message ID stays answered
  pub answered : (n : ℕ) → HasNumber old.answered n → HasNumber new.answered n
  -- of the Message IDs issued before, those that wait for an answer waited for one then
  pub outstanding : (n : ℕ) → n < old.next → IsOutstanding new n → IsOutstanding old n
  -- and one that did not wait for an answer any more is answered now only if it was then
  pub given_up : (n : ℕ) → n < old.next → map.get old.outstanding n ≡ None → set.contains new.answered n ≡ set.contains old.answered n
