-- What becomes of an IKE SA with keys, as moves: events that know keys, Message IDs and octets, and no
-- payload (RFC 7296 sections 2.1 to 2.4).
use Rattle.std.specs.Prelude.{◌≡◌, ◌==◌, ◌⊎◌, ◌↔◌, ◌+◌, ◌<◌, ◌≤◌, ◌^◌, ◌∷◌, ℕ, Bool, true, false, Option, Some, None, List, [], if◌then◌else◌}
use Rattle.std.specs.FinMap as map
use Rattle.std.specs.FinSet as set
use Rattle.std.specs.Option.{option_map}
use Rattle.std.specs.Ordering.{nat_cmp}
use Rattle.base.specs.Octets.{Octets}
use Rattle.suite.specs.declared.key_record.KeyRecord.{KeyRecord}
use Rattle.exchange.specs.declared.headers.Role.{Role}
use Rattle.exchange.specs.declared.headers.Role.TheVariants.{Initiator, Responder}
use Rattle.requests.specs.Incoming.{after_number_0, no_requests, IsPassed, PeerRequests}
use Rattle.requests.specs.Numbers.{IsGap, LacksNumber, NumberSet}
use Rattle.requests.specs.Outgoing.{none_issued, number_0_answered, OwnRequests}
use Rattle.association.specs.Phases.{keys_in}
use Rattle.association.specs.Receiving.{is_closed}
use Rattle.association.specs.declared.phase.Association.{Association}
use Rattle.association.specs.declared.phase.Request.{Request}
use Rattle.auth.specs.Windows.{WINDOW_LIMIT}
use Rattle.effects.specs.declared.taking.Effect.{Effect}
use Rattle.effects.specs.declared.taking.Effect.TheVariants as effect
use Rattle.association.specs.Outcomes.{closed_by}

pub data Move : Type 0 where
  -- this end has come to these keys (section 2.14)
  Make : KeyRecord → Move
  -- a request with this Message ID is sent for the first time
  Issue : ℕ → Octets → Move
  -- the response to the request with this Message ID is matched
  Count : ℕ → Move
  -- the peer's request with this Message ID is processed, and this is its response
  TakeEffect : ℕ → Octets → Move
  Close : Move
  Remove : Move

-- the Message-ID state of an IKE SA: what moves speak of
pub record Ledger : Type 0 where
  pub keys : KeyRecord
  pub role : Role
  pub is_closed : Bool
  -- the peer's requests: the Message IDs in effect, this end's window, and the cached responses
  pub in_effect : NumberSet
  pub size : ℕ
  pub kept : map.FinMap nat_cmp Octets
  -- this end's: the next Message ID, those answered, the peer's window, and the octets of the outstanding
  -- ones
  pub next : ℕ
  pub answered : NumberSet
  pub window : ℕ
  pub outstanding : ℕ → Option Octets

abbrev pub octets_out : OwnRequests Request → ℕ → Option Octets
octets_out r number = option_map (λ (x : Request). x.octets) (map.get r.outstanding number)

abbrev pub ledger_with : KeyRecord → Role → Bool → PeerRequests → OwnRequests Request → Ledger
ledger_with keys role closed incoming outgoing = record {
  keys = keys;
  role = role;
  is_closed = closed;
  in_effect = incoming.in_effect;
  size = incoming.size;
  kept = incoming.kept;
  next = outgoing.next;
  answered = outgoing.answered;
  window = outgoing.window;
  outstanding = octets_out outgoing;
}

abbrev pub ledger_of : Association → KeyRecord → Ledger
ledger_of a keys = ledger_with keys a.role (is_closed a.phase) a.incoming a.outgoing

-- none before this end has come to keys
abbrev pub ledger : Association → Option Ledger
ledger a = option_map (ledger_of a) (keys_in a.phase)

abbrev pub put : (ℕ → Option Octets) → ℕ → Option Octets → ℕ → Option Octets
put outstanding number value other = if other == number then value else outstanding other

-- As an IKE SA gets its keys, it is open, and only IKE_SA_INIT was done: its request, with Message ID 0, is
-- answered at the initiator, and in effect at the responder.
abbrev pub first_ledger : KeyRecord → Role → Ledger
first_ledger keys Initiator = ledger_with keys Initiator false no_requests number_0_answered
first_ledger keys Responder = ledger_with keys Responder false after_number_0 none_issued

pub record Makes (keys : KeyRecord) (new : Ledger) : Type 0 where
  pub content : new ≡ first_ledger keys new.role

-- An open IKE SA issues the next Message ID, which lies in the peer's window and has 32 bits. (That none is
-- issued while a deletion of the IKE SA is outstanding is not seen here: moves know no payload.)
pub record Issues (number : ℕ) (octets : Octets) (old new : Ledger) : Type 0 where
  pub least : number ≡ old.next
  pub in_window : (gap : ℕ) → IsGap old.answered gap → old.next < gap + old.window
  pub left : old.next < 2 ^ 32
  pub is_open : old.is_closed ≡ false
  pub content : new ≡ record old { next = old.next + 1; outstanding = put old.outstanding number (Some octets) }

-- IKE_AUTH is done, by its Message ID, at the end that has this role: the initiator matches the response,
-- and the responder takes the request. From then on each window is at least as wide as before, and 16 at
-- most (section 2.3).
pub record WidensWindows (role : Role) (number : ℕ) (old new : Ledger) : Type 0 where
  pub role_is : old.role ≡ role
  pub number_is : number ≡ 1
  pub wider : old.size ≤ new.size
  pub most : new.size ≤ WINDOW_LIMIT
  pub peers_wider : old.window ≤ new.window
  pub peers_most : new.window ≤ WINDOW_LIMIT

-- but for that, both windows stay as they are
abbrev pub KeepWindows : Role → ℕ → Ledger → Ledger → Type 0
KeepWindows role number old new = ((new.size ≡ old.size) × (new.window ≡ old.window)) ⊎ WidensWindows role number old new

-- an outstanding request waits no more
pub record Counts (number : ℕ) (old new : Ledger) : Type 0 where
  pub octets : Octets
  pub there : old.outstanding number ≡ Some octets
  pub is_open : old.is_closed ≡ false
  pub windows : KeepWindows Initiator number old new
  pub content : new ≡ record old { answered = set.insert old.answered number; outstanding = put old.outstanding number None; size = new.size; window = new.window }

-- A request is processed that was not yet, inside the window. Its response is cached. Of those kept before,
-- only those a window below a Message ID in effect are given up (section 2.3).
pub record TakesEffectOnce (number : ℕ) (reply : Octets) (old new : Ledger) : Type 0 where
  pub is_open : old.is_closed ≡ false
  pub not_yet : LacksNumber old.in_effect number
  pub gap : ℕ
  pub is_gap : IsGap old.in_effect gap
  pub inside : number < gap + old.size
  pub own_reply : map.get new.kept number ≡ Some reply
  pub kept : (other : ℕ) (octets : Octets) → (map.get new.kept other ≡ Some octets)
      ↔ ((map.get (map.insert old.kept number reply) other ≡ Some octets) × (¬ IsPassed new.in_effect old.size other))
  pub windows : KeepWindows Responder number old new
  pub content : new ≡ record old { in_effect = set.insert old.in_effect number; kept = new.kept; size = new.size; window = new.window }

-- it is closed: it waits for no response and takes no request from now on
pub record ClosesLedger (old new : Ledger) : Type 0 where
  pub is_open : old.is_closed ≡ false
  pub content : new ≡ record old { is_closed = true; outstanding = λ number. None }

-- It is held no longer, and waits for no response: it is closed, or the responder's that is still half-open.
pub record RemovesLedger (old : Ledger) : Type 0 where
  pub waits : (number : ℕ) → old.outstanding number ≡ None
  pub over : (old.is_closed ≡ true) ⊎ (old ≡ first_ledger old.keys Responder)

abbrev pub Moves : Move → Option Ledger → Option Ledger → Type 0
Moves (Make keys) None (Some new) = Makes keys new
Moves (Issue number octets) (Some old) (Some new) = Issues number octets old new
Moves (Count number) (Some old) (Some new) = Counts number old new
Moves (TakeEffect number reply) (Some old) (Some new) = TakesEffectOnce number reply old new
Moves Close (Some old) (Some new) = ClosesLedger old new
Moves Remove (Some old) None = RemovesLedger old
Moves move old new = ⊥

-- one after the other
abbrev pub Lead : List Move → Option Ledger → Option Ledger → Type 0
Lead [] old new = new ≡ old
Lead (move ∷ others) old new = (between : Option Ledger) × Moves move old between × Lead others between new

abbrev pub and_closes : Move → Bool → List Move
and_closes move true = move ∷ Close ∷ []
and_closes move false = move ∷ []

abbrev pub makes_and_issues : Option KeyRecord → Octets → List Move
makes_and_issues (Some keys) octets = Make keys ∷ Issue 1 octets ∷ []
makes_and_issues None octets = []

-- the moves of the effect of a message with this Message ID, by the keys that there are afterwards: two at
-- most
abbrev pub moves_of : ℕ → Option KeyRecord → Effect → List Move
moves_of number keys (effect.Refused fault) = []
moves_of number keys (effect.Repeated octets) = []
moves_of number keys (effect.Again octets) = []
moves_of number keys (effect.AsksAuth octets) = makes_and_issues keys octets
moves_of number keys (effect.Replied answered) = and_closes (TakeEffect number answered.octets) (closed_by answered.fate)
moves_of number keys (effect.Counted ended) = and_closes (Count number) (closed_by ended.fate)

-- a cached response to the request with this Message ID
abbrev pub KeepsReply : Option Ledger → ℕ → Octets → Type 0
KeepsReply None number reply = ⊥
KeepsReply (Some l) number reply = map.get l.kept number ≡ Some reply

-- an outstanding request with this Message ID
abbrev pub WaitsWith : Option Ledger → ℕ → Octets → Type 0
WaitsWith None number request = ⊥
WaitsWith (Some l) number request = l.outstanding number ≡ Some request
