-- What views tell. Each is a function of what the handle leads to, and of what stood where it tells.
use Rattle.std.specs.Prelude.{◌≡◌, ◌⊎◌, ℕ, ◌<◌, ◌≤◌, Bool, if◌then◌else◌, nat_eq, List, ◌++◌, length}
use Rattle.std.specs.Prelude.{drop, replicate, slice_get, Option, None, Some, IfSome, option_and_then}
use Rattle.std.specs.Int.{from_bool, to_be_bytes, w32, w128}
use Rattle.std.specs.List.{AllZip}
use Rattle.std.specs.Option.{option_map}
use Rattle.base.specs.Octets.{Octets}
use Rattle.base.specs.declared.address.Range.{Range}
use Rattle.base.specs.declared.address.Range.TheVariants.{V4, V6}
use Rattle.base.specs.declared.selector.Selector.{Selector}
use Rattle.association.specs.Purposes.{AwaitsDeletion}
use Rattle.association.specs.declared.phase.Association.{Association}
use Rattle.association.specs.declared.phase.Phase.{Phase}
use Rattle.association.specs.declared.phase.Phase.TheVariants.{InitSent, AuthSent, HalfOpen}
use Rattle.association.specs.declared.phase.Phase.TheVariants.{Established, Closed}
use Rattle.exchange.specs.declared.headers.Role.{Role}
use Rattle.exchange.specs.declared.headers.Role.TheVariants.{Initiator, Responder}
use Rattle.ike.specs.Machines.{Machine}
use Rattle.moments.specs.Next.{NothingIsDueBefore, SomethingIsDue}
use Rattle.sadb.specs.Database.{IsAfter, PairMap, pair_at}
use Rattle.sadb.specs.declared.pair.Pair.{Pair}
use Rattle.sadb.specs.declared.pair.State.{State}
use Rattle.sadb.specs.declared.pair.State.TheVariants.{Live, Deleting}
use Rattle.sukperin.specs.Flags.{is_set}
use Rattle.sukperin.specs.declared.end.End.{End}
use Rattle.sukperin.specs.declared.end.End.TheVariants.{Gateway}
use Rattle.sukperin.specs.declared.hosted.Hosted.{Hosted}
use Rattle.sukperin.specs.declared.hosted.Left.{Left}
use Rattle.sukperin.specs.declared.hosted.Left.TheVariants as left
use Rattle.sukperin.specs.declared.views.SukAssociation.{SukAssociation}
use Rattle.sukperin.specs.declared.views.SukChild.{SukChild}
use Rattle.sukperin.specs.declared.views.SukMessage.{SukMessage}
use Rattle.sukperin.specs.declared.views.SukSelector.{SukSelector}

-- what was found is told; 108 where nothing was, and then nothing is told
abbrev pub Tells : {T : Type 0} → Option T → ℕ → T → T → Type 0
Tells (Some found) code before after = (code ≡ 0) × (after ≡ found)
Tells None code before after = (code ≡ 108) × (after ≡ before)

-- What is found in the gateway is told; 101 where there is none, and then nothing is told.
abbrev pub TellsOf : {T : Type 0} → (Hosted → Option T) → Option End → ℕ → T → T → Type 0
TellsOf find (Some (Gateway held)) code before after = Tells (find held) code before after
TellsOf find state code before after = (code ≡ 101) × (after ≡ before)

-- The next moment: before it nothing is due of the IKE SAs, at it something is, and it is still to come.
pub record IsNextMoment (machine : Machine) (moment : Option ℕ) : Type 0 where
  pub early : NothingIsDueBefore moment machine.held.associations
  pub due : IfSome moment (λ at. SomethingIsDue at machine.held.associations)
  pub ahead : IfSome moment (λ at. machine.moment < at)

pub record TellsMoment (machine : Machine) (code before after : ℕ) : Type 0 where
  pub moment : Option ℕ
  pub next : IsNextMoment machine moment
  pub tells : Tells moment code before after

abbrev pub TellsNext : Option End → ℕ → ℕ → ℕ → Type 0
TellsNext (Some (Gateway held)) code before after = TellsMoment held.gateway.machine code before after
TellsNext state code before after = (code ≡ 101) × (after ≡ before)

-- the message at a place of those that are left, with the IKE SA that asks by it
abbrev pub message_at : Left → ℕ → Option (ℕ × Octets)
message_at left.Nothing place = None
message_at (left.Message ike octets) place = if nat_eq place 0 then Some (ike, octets) else None
message_at (left.Ticked requests closed) place =
    option_map (λ request. (request.ike, request.octets)) (slice_get requests place)

-- the closed IKE SA at a place
abbrev pub closing_in : Left → ℕ → Option ℕ
closing_in (left.Ticked requests closed) place = slice_get closed place
closing_in others place = None

abbrev pub closing_at : ℕ → Hosted → Option ℕ
closing_at place held = closing_in held.left place

abbrev pub message_told : ℕ × Octets → SukMessage
message_told message = record { length = length message.1; ike = message.0; reserved = 0 }

-- Octets stand at the beginning of the room, and behind them stands what stood there; 103 where the room is
-- shorter, and then it is as it was.
abbrev pub FillsFront : Octets → Octets → ℕ → Octets → Type 0
FillsFront octets room code filled =
    ((length octets ≤ length room) × (code ≡ 0) × (filled ≡ octets ++ drop (length octets) room))
    ⊎ ((length room < length octets) × (code ≡ 103) × (filled ≡ room))

-- a message is told, and written where there is room for it
abbrev pub HandsOver : Option (ℕ × Octets) → Octets → ℕ → SukMessage → SukMessage → Octets → Type 0
HandsOver (Some message) room code before after filled =
    (after ≡ message_told message) × FillsFront message.1 room code filled
HandsOver None room code before after filled = (code ≡ 108) × (after ≡ before) × (filled ≡ room)

abbrev pub TellsMessage : ℕ → Option End → Octets → ℕ → SukMessage → SukMessage → Octets → Type 0
TellsMessage place (Some (Gateway held)) room code before after filled =
    HandsOver (message_at held.left place) room code before after filled
TellsMessage place state room code before after filled = (code ≡ 101) × (after ≡ before) × (filled ≡ room)

abbrev pub live_told : State → ℕ
live_told Live = 1
live_told Deleting = 0

-- a Child SA, as it is told
abbrev pub child_told : Pair → SukChild
child_told pair = record {
  serial = pair.serial;
  ike = pair.ike;
  spi_in = pair.inbound.association.spi;
  spi_out = pair.outbound.association.spi;
  live = live_told pair.state;
  extended = from_bool pair.inbound.association.extended;
  reserved = 0;
  more = 0;
  locals = length pair.local;
  remotes = length pair.remote;
  sent = pair.outbound.last;
  taken = pair.inbound.window.top;
}

-- the Child SA of the least serial above this one, if there is one
abbrev pub IsNextChild : PairMap → ℕ → Option Pair → Type 0
IsNextChild pairs serial (Some pair) = IsAfter pairs serial pair
IsNextChild pairs serial None = (other : ℕ) → serial < other → pair_at pairs other ≡ None

pub record TellsNextChild (pairs : PairMap) (serial code : ℕ) (before after : SukChild) : Type 0 where
  pub child : Option Pair
  pub next : IsNextChild pairs serial child
  pub tells : Tells (option_map child_told child) code before after

abbrev pub TellsChildAfter : ℕ → Option End → ℕ → SukChild → SukChild → Type 0
TellsChildAfter serial (Some (Gateway held)) code before after =
    TellsNextChild held.gateway.table.pairs serial code before after
TellsChildAfter serial state code before after = (code ≡ 101) × (after ≡ before)

-- four octets, and zeros behind them
abbrev pub sixteen_octets : ℕ → Octets
sixteen_octets number = to_be_bytes w32 number ++ replicate 12 0

abbrev pub selector_between : Selector → ℕ → Octets → Octets → SukSelector
selector_between selector family start end = record {
  family = family;
  protocol = selector.protocol;
  start_port = selector.start_port;
  end_port = selector.end_port;
  start = start;
  end = end;
}

abbrev pub selector_of_range : Selector → Range → SukSelector
selector_of_range selector (V4 start end) =
    selector_between selector 4 (sixteen_octets start) (sixteen_octets end)
selector_of_range selector (V6 start end) =
    selector_between selector 6 (to_be_bytes w128 start) (to_be_bytes w128 end)

-- a selector, as it is told
abbrev pub selector_told : Selector → SukSelector
selector_told selector = selector_of_range selector selector.addresses

-- the peer's side or this end's
abbrev pub side_of : Bool → Pair → List Selector
side_of remote pair = if remote then pair.remote else pair.local

-- the selector at a place on a side of the Child SA with this serial
abbrev pub selector_at : ℕ → ℕ → ℕ → Hosted → Option SukSelector
selector_at child remote place held =
    let on_side : Pair → Option Selector = λ pair. slice_get (side_of (is_set remote) pair) place in
    option_map selector_told (option_and_then on_side (pair_at held.gateway.table.pairs child))

abbrev pub role_told : Role → ℕ
role_told Initiator = 1
role_told Responder = 2

-- how far an IKE SA has come, and the time that goes with it
abbrev pub phase_told : Phase → ℕ × ℕ
phase_told (InitSent sent) = (1, 0)
phase_told (AuthSent sent) = (2, 0)
phase_told (HalfOpen opened) = (3, opened.made)
phase_told (Established keys) = (4, 0)
phase_told (Closed keys at) = (5, at)

-- an IKE SA, as it is told, where `deleting` tells whether a request to delete it waits for its answer
abbrev pub association_told : ℕ → Association → SukAssociation
association_told deleting association = record {
  spi_i = association.spi_i;
  spi_r = association.spi_r;
  moment = (phase_told association.phase).1;
  serial = association.serial;
  role = role_told association.role;
  phase = (phase_told association.phase).0;
  deleting = deleting;
  window = association.outgoing.window;
}

-- 1 where a fact holds, else 0
abbrev pub IsFlag : ℕ → Type 0 → Type 0
IsFlag flag P = ((flag ≡ 1) × P) ⊎ ((flag ≡ 0) × (¬ P))

pub record IsToldAs (association : Association) (told : SukAssociation) : Type 0 where
  pub deleting : IsFlag told.deleting (AwaitsDeletion association.outgoing)
  pub content : told ≡ association_told told.deleting association

-- Each IKE SA is told in its order, from the beginning of the room on. What is behind stays.
pub record FillsRoom (held : List Association) (room filled : List SukAssociation) : Type 0 where
  pub told : List SukAssociation
  pub each : AllZip IsToldAs held told
  pub written : filled ≡ told ++ drop (length held) room

-- they are counted, and told where there is room for all
abbrev pub ListsAll : List Association → List SukAssociation → ℕ → ℕ → List SukAssociation → Type 0
ListsAll held room code count filled =
    (count ≡ length held)
    × (((length held ≤ length room) × (code ≡ 0) × FillsRoom held room filled)
    ⊎ ((length room < length held) × (code ≡ 103) × (filled ≡ room)))

abbrev pub ListsAssociations : Option End → List SukAssociation → ℕ → ℕ → ℕ → List SukAssociation → Type 0
ListsAssociations (Some (Gateway held)) room code before count filled =
    ListsAll held.gateway.machine.held.associations room code count filled
ListsAssociations state room code before count filled = (code ≡ 101) × (count ≡ before) × (filled ≡ room)
