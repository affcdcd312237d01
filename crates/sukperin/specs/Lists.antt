-- What calls with lists of packets do: one step after the other, in the order of the places.
use Rattle.std.specs.Prelude.{◌≡◌, ◌≢◌, ◌⊎◌, ◌+◌, ◌-◌, ◌<◌, ◌≤◌, ◌++◌, ◌∷◌, ℕ, List, Option, Some, None, [], get_or, length, map, take, drop, slice_index_or}
use Rattle.base.specs.Octets.{Octets}
use Rattle.esp.specs.Precomputed.{IsPrecomputed}
use Rattle.esp.specs.declared.precomputed.Precomputed.{Precomputed}
use Rattle.caller_peer.specs.declared.shared_key.PeerCaller.{PeerCaller}
use Rattle.gateway.specs.Groups.{packets_in}
use Rattle.gateway.specs.Inputs.{Esp, Outward, input_view}
use Rattle.gateway.specs.declared.input.Input as lent
use Rattle.gateway.specs.Outputs.{OutputView}
use Rattle.gateway.specs.Outputs as view
use Rattle.gateway.specs.Rows.{finished_row, octets_of}
use Rattle.gateway.specs.Runs.{Runs}
use Rattle.gateway.specs.States.{State}
use Rattle.gateway.specs.Steps.{Traces}
use Rattle.gateway.specs.declared.fault.Reason.TheVariants as reason
use Rattle.gateway.specs.declared.row.Span.{Span}
use Rattle.ike.specs.declared.output.Trace.{Trace}
use Rattle.traffic.specs.declared.departure.Laid.{Laid}
use Rattle.traffic.specs.declared.departure.Laid.TheVariants as laid
use Rattle.sukperin.specs.Meaning.{meaning_for}
use Rattle.sukperin.specs.Outputs.{of_kind, refused_alone, told_of, with_code}
use Rattle.sukperin.specs.Outward.{HasRoom, filled_with, sealed_in}
use Rattle.sukperin.specs.declared.end.End.{End}
use Rattle.sukperin.specs.declared.end.End.TheVariants.{Gateway}
use Rattle.sukperin.specs.declared.hosted.Hosted.{Hosted}
use Rattle.sukperin.specs.declared.hosted.Left.TheVariants as left
use Rattle.sukperin.specs.declared.lists.SukPlace.{SukPlace}
use Rattle.sukperin.specs.declared.output.SukOutput.{SukOutput}
use Rattle.sukperin.specs.declared.refusal.Refusal.{Refusal}
use Rattle.sukperin.specs.declared.refusal.Refusal.TheVariants.{Place, ShortRoom}

-- the place lies in the buffer
abbrev pub LiesIn : Octets → SukPlace → Type 0
LiesIn octets place = place.offset + place.length ≤ length octets

-- the packet at a place of the buffer
abbrev pub packet_at : Octets → SukPlace → Octets
packet_at octets place = take place.length (drop place.offset octets)

-- the place lies in the buffer, and this is the packet there
pub record IsPacketAt (octets : Octets) (place : SukPlace) (packet : Octets) : Type 0 where
  pub within : LiesIn octets place
  pub packet_is : packet ≡ packet_at octets place

-- each of the first so many inputs is the packet at its place, where that lies in the buffer
pub record AreInputsAt (octets : Octets) (places : List SukPlace) (count : ℕ) (inputs : List lent.Input) : Type 0 where
  pub each : (k : ℕ) (place : SukPlace) → k < count → place ≡ slice_index_or places k place → LiesIn octets place → packets_in (map input_view inputs) k ≡ packet_at octets place

-- each value is the ICV of the packet at its place
pub record AreValuesAt (octets : Octets) (places : List SukPlace) (values : List (Option Precomputed)) : Type 0 where
  pub each : (k : ℕ) (place : SukPlace) (found : Precomputed) → k < length places → place ≡ slice_index_or places k place → get_or values k None ≡ Some found → LiesIn octets place
      → IsPrecomputed (packet_at octets place) found

-- a step for each place, in their order, and its record; the records behind them are as they were
pub record RunsOver {S : Type 0} (step : SukPlace → S → SukOutput → S → Type 0) (places : List SukPlace) (old : S) (before : List SukOutput) (new : S) (after : List SukOutput) : Type 0 where
  pub told : List SukOutput
  pub runs : Runs step places told old new
  pub records : after ≡ told ++ drop (length places) before

-- ---- ESP packets that came

-- the gateway takes one step with this ESP packet, which is told
pub record TakesEsp (packet : Octets) (old : State PeerCaller) (told : SukOutput) (new : State PeerCaller) : Type 0 where
  pub said : OutputView
  pub trace : Trace
  pub traces : Traces (meaning_for old.caller) (Esp packet) old said trace new
  pub told_is : told ≡ told_of said trace

-- a packet is refused alone: the record says why, and nothing changes
pub record IsRefusedAlone {S : Type 0} (why : Refusal) (old : S) (told : SukOutput) (new : S) : Type 0 where
  pub told_is : told ≡ refused_alone why
  pub unchanged : new ≡ old

-- the ESP packet at a place is taken, or refused alone since the place doesn't lie in the buffer
abbrev pub TakesEspAt : Octets → SukPlace → State PeerCaller → SukOutput → State PeerCaller → Type 0
TakesEspAt octets place old told new =
    (LiesIn octets place × TakesEsp (packet_at octets place) old told new)
    ⊎ ((¬ LiesIn octets place) × IsRefusedAlone Place old told new)

-- The ESP packets are taken in order. Nothing is left to be taken then.
pub record TakesEspList (octets : Octets) (places : List SukPlace) (old new : Hosted) (before after : List SukOutput) : Type 0 where
  pub runs : RunsOver (TakesEspAt octets) places old.gateway before new.gateway after
  pub left_is : new.left ≡ left.Nothing
  pub tells_keys : new.tells_keys ≡ old.tells_keys

-- The gateway takes them. Or nothing changes, since there are fewer records than places.
abbrev pub OpensBy : Octets → List SukPlace → Hosted → ℕ → Hosted → List SukOutput → List SukOutput → Type 0
OpensBy octets places old code new before told =
    ((length places ≤ length before) × (code ≡ 0) × TakesEspList octets places old new before told)
    ⊎ ((length before < length places) × (code ≡ 103) × (new ≡ old) × (told ≡ before))

-- What a call does with ESP packets that came: a gateway takes them, or there is none and nothing changes.
abbrev pub OpensAll : Octets → List SukPlace → Option End → ℕ → Option End → List SukOutput → List SukOutput → Type 0
OpensAll octets places (Some (Gateway old)) code after before told =
    (new : Hosted) × (after ≡ Some (Gateway new)) × OpensBy octets places old code new before told
OpensAll octets places end code after before told = (code ≡ 101) × (after ≡ end) × (told ≡ before)

-- ---- packets on their way out

-- the gateway, and the ESP packets so far, one behind the other
pub record Sent : Type 0 where
  pub gateway : State PeerCaller
  pub octets : Octets

-- what is told of an output whose ESP packet, if there is one, begins here
abbrev pub told_from : ℕ → OutputView → Trace → SukOutput
told_from begin (view.Sealed child number octets) trace = record (told_of (view.Sealed child number octets) trace) { offset = begin }
told_from begin said trace = told_of said trace

-- The gateway takes one step with this packet, whose ESP packet stands behind those before it. The record
-- says where. The step isn't refused for want of memory.
pub record TakesOut (packet : Octets) (old : Sent) (told : SukOutput) (new : Sent) : Type 0 where
  pub said : OutputView
  pub trace : Trace
  pub traces : Traces (meaning_for old.gateway.caller) (Outward packet) old.gateway said trace new.gateway
  pub octets : new.octets ≡ old.octets ++ sealed_in said
  pub done : said ≢ view.Refused reason.Memory
  pub told_is : told ≡ told_from (length old.octets) said trace

-- there is room for a packet behind those before it
abbrev pub HasRoomBehind : Octets → Octets → ℕ → Type 0
HasRoomBehind packet before room = length before + (length packet + 29) ≤ room

-- The packet at a place is taken. Or it is refused alone: the place doesn't lie in the buffer, or the room that
-- is left may be too short.
abbrev pub TakesOutAt : Octets → ℕ → SukPlace → Sent → SukOutput → Sent → Type 0
TakesOutAt octets room place old told new =
    (LiesIn octets place × HasRoomBehind (packet_at octets place) old.octets room × TakesOut (packet_at octets place) old told new)
    ⊎ (((¬ LiesIn octets place) × IsRefusedAlone Place old told new)
    ⊎ (LiesIn octets place × (¬ HasRoomBehind (packet_at octets place) old.octets room) × IsRefusedAlone ShortRoom old told new))

-- The packets are taken in order. Their ESP packets stand in the room from its beginning on, one behind the
-- other; behind them stands what stood there.
pub record TakesOutOver (octets : Octets) (places : List SukPlace) (old : State PeerCaller) (before : List SukOutput) (room : Octets) (new : State PeerCaller) (after : List SukOutput) (filled : Octets) : Type 0 where
  pub sent : Octets
  pub runs : RunsOver (TakesOutAt octets (length room)) places (record { gateway = old; octets = [] }) before (record { gateway = new; octets = sent }) after
  pub fits : length sent ≤ length room
  pub filled_is : filled ≡ filled_with sent room

-- Nothing is left to be taken then.
pub record TakesOutList (octets : Octets) (places : List SukPlace) (old new : Hosted) (before after : List SukOutput) (room filled : Octets) : Type 0 where
  pub takes : TakesOutOver octets places old.gateway before room new.gateway after filled
  pub left_is : new.left ≡ left.Nothing
  pub tells_keys : new.tells_keys ≡ old.tells_keys

-- The gateway takes them. Or nothing changes, since there are fewer records than places.
abbrev pub SealsBy : Octets → List SukPlace → Hosted → ℕ → Hosted → List SukOutput → List SukOutput → Octets → Octets → Type 0
SealsBy octets places old code new before told room filled =
    ((length places ≤ length before) × (code ≡ 0) × TakesOutList octets places old new before told room filled)
    ⊎ ((length before < length places) × (code ≡ 103) × (new ≡ old) × (told ≡ before) × (filled ≡ room))

-- What a call does with packets on their way out: a gateway takes them, or there is none and nothing changes.
abbrev pub SealsAll : Octets → List SukPlace → Option End → ℕ → Option End → List SukOutput → List SukOutput → Octets → Octets → Type 0
SealsAll octets places (Some (Gateway old)) code after before told room filled =
    (new : Hosted) × (after ≡ Some (Gateway new)) × SealsBy octets places old code new before told room filled
SealsAll octets places end code after before told room filled = (code ≡ 101) × (after ≡ end) × (told ≡ before) × (filled ≡ room)

-- ---- how it goes, a group at a time

-- no part of the room
abbrev pub no_span : Span
no_span = record { child = 0; number = 0; length = 0 }

-- the part of the room that the ESP packet of a packet is, of so many octets
abbrev pub span_of_laid : ℕ → Laid → Span
span_of_laid octets (laid.Sealed child number) = record { child = child; number = number; length = octets }
span_of_laid octets (laid.Clear packet) = no_span
span_of_laid octets laid.Discarded = no_span
span_of_laid octets (laid.Dropped fault) = no_span

-- what is told of a packet whose ESP packet, if it goes protected, begins here and has so many octets
abbrev pub told_of_laid : ℕ → ℕ → Laid → SukOutput
told_of_laid begin octets (laid.Sealed child number) =
    record (of_kind 9) { child = child; number = number; offset = begin; length = octets }
told_of_laid begin octets (laid.Clear packet) = record (of_kind 10) { length = length packet.now }
told_of_laid begin octets laid.Discarded = of_kind 11
told_of_laid begin octets (laid.Dropped fault) = with_code 12 (reason.Packet fault)

-- why a packet isn't taken: its place doesn't lie in the buffer, or there is less room than it may need
abbrev pub IsPlaceRefusal : Octets → SukPlace → ℕ → Refusal → Type 0
IsPlaceRefusal octets place room why =
    ((¬ LiesIn octets place) × (why ≡ Place))
    ⊎ (LiesIn octets place × (¬ HasRoom (packet_at octets place) room) × (why ≡ ShortRoom))

-- the octets of the room from what is used of it up to an end
abbrev pub laid_behind : ℕ → ℕ → Octets → Octets
laid_behind used end room = take (end - used) (drop used room)

-- The packet at a place is taken or refused alone. Up to `used` the room has whole ESP packets. From there to
-- `begin` stand ESP packets without ICVs, whose parts are any spans of that length. The new one stands from
-- `begin` on, and what stood behind it stays. Once all have their ICVs, this is a step of `TakesOutAt`.
pub record LaysNext (octets : Octets) (place : SukPlace) (used begin : ℕ) (old : State PeerCaller) (room : Octets) (told : SukOutput) (span : Span) (new : State PeerCaller) (filled : Octets) : Type 0 where
  pub takes : (spans : List Span) → octets_of spans ≡ begin - used
      → TakesOutAt octets (length room) place (record { gateway = old; octets = take used room ++ finished_row old.table.pairs spans (laid_behind used begin room) }) told (record { gateway = new; octets = take used filled ++ finished_row new.table.pairs (spans ++ span ∷ []) (laid_behind used (begin + span.length) filled) })
  pub fits : begin + span.length ≤ length room
  pub behind : drop (begin + span.length) filled ≡ drop (begin + span.length) room

-- The packets at several places are taken or refused alone, in order, where nothing is laid behind what is
-- used of the room. At the end their ESP packets stand from `used` to `end`, without ICVs.
pub record LaysGroup (octets : Octets) (places : List SukPlace) (used : ℕ) (old : State PeerCaller) (room : Octets) (end : ℕ) (new : State PeerCaller) (told : List SukOutput) (spans : List Span) (filled : Octets) : Type 0 where
  pub runs : Runs (TakesOutAt octets (length room)) places told (record { gateway = old; octets = take used room }) (record { gateway = new; octets = take used filled ++ finished_row new.table.pairs spans (laid_behind used end filled) })
  pub begins : used ≤ end
  pub whole : octets_of spans ≡ end - used
  pub fits : end ≤ length room
  pub behind : drop end filled ≡ drop end room

-- Packets are taken or refused alone, in order. Their ESP packets stand whole in the room from `used` to `end`;
-- behind them stands what stood there.
pub record TakesOutGroup (octets : Octets) (places : List SukPlace) (used : ℕ) (old : State PeerCaller) (room : Octets) (end : ℕ) (new : State PeerCaller) (told : List SukOutput) (filled : Octets) : Type 0 where
  pub runs : Runs (TakesOutAt octets (length room)) places told (record { gateway = old; octets = take used room }) (record { gateway = new; octets = take end filled })
  pub begins : used ≤ end
  pub fits : end ≤ length room
  pub behind : drop end filled ≡ drop end room
