-- Packets on their way out that are laid first, and get their ICVs and their places in the room afterwards.
use Rattle.std.proofs.Common.{◌≡◌, ◌≢◌, ◌+◌, ◌-◌, ◌≤◌, ℕ, List, [], ◌∷◌, ◌++◌, length, take, drop, arith, refl, sym, ap, ◌∙◌, subst, inl, inr, Option, Some, None, append_assoc, length-append, length-drop}
use Rattle.std.proofs.lemmas.Bool.{cases_lt}
use Rattle.std.proofs.Math.Seq.{take-add}
use Rattle.std.proofs.lemmas.List.{append-nil, drop-append-le, drop-drop, drop_all, drop_at, length-take-le, take-append-drop, take-append-le, take_at}
use borrow.Rule.Slice.PartMut.{put_mid}
use Rattle.base.specs.Octets.{Octets}
use Rattle.caller_peer.specs.declared.shared_key.PeerCaller.{PeerCaller}
use Rattle.esp.proofs.FinishLemmas.{finished_long, finished_short}
use Rattle.esp.specs.Laying.{finished}
use Rattle.esp.specs.Packet.{check_value}
use Rattle.esp.specs.declared.sa.Sa.{Sa}
use Rattle.gateway.specs.Inputs.{Outward}
use Rattle.gateway.specs.Outputs.{OutputView}
use Rattle.gateway.specs.Outputs as view
use Rattle.gateway.specs.declared.fault.Reason.TheVariants as reason
use Rattle.gateway.specs.Rows.{LaysIn, finished_row, octets_of, said_of_laid}
use Rattle.gateway.specs.Runs.{Runs}
use Rattle.gateway.specs.States.{State}
use Rattle.gateway.specs.Steps.{Traces}
use Rattle.gateway.specs.declared.row.Span.{Span}
use Rattle.gateway.proofs.RowLemmas.{row_more, row_same}
use Rattle.ike.specs.Outputs.{no_trace}
use Rattle.mac.proofs.HmacLemmas.{length-icv_sha256}
use Rattle.sadb.specs.Database.{PairMap}
use Rattle.sadb.specs.Laying.{KeepsSenders, finished_at, finished_by, sender_at}
use Rattle.traffic.specs.Behind.{IsAppended, laid_size}
use Rattle.traffic.specs.declared.departure.Laid.{Laid}
use Rattle.traffic.specs.declared.departure.Laid.TheVariants as laid
use Rattle.sukperin.proofs.OutwardLemmas.{sealed_fits}
use Rattle.sukperin.specs.Lists.{HasRoomBehind, IsPacketAt, IsPlaceRefusal, LaysGroup, LaysNext, RunsOver, laid_behind, Sent, SealsAll, TakesOut, TakesOutAt, TakesOutGroup, TakesOutOver, no_span, packet_at, span_of_laid, told_from, told_of_laid}
use Rattle.sukperin.specs.Meaning.{meaning_for}
use Rattle.sukperin.specs.Outputs.{of_kind, refused_alone}
use Rattle.sukperin.specs.Outward.{HasRoom, sealed_in}
use Rattle.sukperin.specs.declared.end.End.{End}
use Rattle.sukperin.specs.declared.end.End.TheVariants.{Gateway, Receiver, Sender}
use Rattle.sukperin.specs.declared.hosted.Hosted.{Hosted}
use Rattle.sukperin.specs.declared.lists.SukPlace.{SukPlace}
use Rattle.sukperin.specs.declared.output.SukOutput.{SukOutput}
use Rattle.sukperin.specs.declared.refusal.Refusal.{Refusal}

-- ---- an ICV changes no length

finished_size : (a : Sa) (n : ℕ) (octets : Octets) → length (finished a n octets) ≡ length octets
finished_size a n octets = elim (cases_lt (length octets) 16) [
  | inl short ↦ sym (ap length (finished_short a n octets short))
  | inr long ↦
      let front : Octets = take (length octets - 16) octets in
      let e = ap length (finished_long a n octets long) ∙ length-append front (check_value a n front) in
      let f : length front ≡ length octets - 16 = length-take-le (length octets - 16) octets (omega arith) in
      let g : length (check_value a n front) ≡ 16 = length-icv_sha256 a.key _ in
      omega arith
]

finished_size_by : (sender : Option Sa) (n : ℕ) (octets : Octets) → length (finished_by sender n octets) ≡ length octets
finished_size_by None n octets = refl
finished_size_by (Some a) n octets = finished_size a n octets

-- the same of several in a row
row_size : (pairs : PairMap) (spans : List Span) (octets : Octets) → length (finished_row pairs spans octets) ≡ length octets
row_size pairs [] octets = refl
row_size pairs (s ∷ ss) octets =
    let first : Octets = take s.length octets in
    let rest : Octets = drop s.length octets in
    let whole = length-append (finished_at pairs s.child s.number first) (finished_row pairs ss rest) in
    let one = finished_size_by (sender_at pairs s.child) s.number first in
    let two = row_size pairs ss rest in
    let parts = sym (length-append first rest) ∙ ap length (take-append-drop s.length octets) in
    omega arith

empty_is : (octets : Octets) → length octets ≡ 0 → octets ≡ []
empty_is [] none = refl
empty_is (x ∷ xs) none = absurd (omega arith)

finished_none : (pairs : PairMap) (octets : Octets) → octets ≡ [] → finished_at pairs 0 0 octets ≡ []
finished_none pairs octets none = empty_is (finished_at pairs 0 0 octets) (finished_size_by (sender_at pairs 0) 0 octets ∙ ap length none)

-- the ESP packet of a packet that was laid is its part of the buffer, once it has its ICV
span_sealed : (pairs : PairMap) (n : ℕ) (what : Laid) (octets : Octets) → IsAppended what octets
    → finished_at pairs (span_of_laid n what).child (span_of_laid n what).number octets ≡ sealed_in (said_of_laid pairs what octets)
span_sealed pairs n (laid.Sealed child number) octets is = refl
span_sealed pairs n (laid.Clear packet) octets is = finished_none pairs octets is
span_sealed pairs n laid.Discarded octets is = finished_none pairs octets is
span_sealed pairs n (laid.Dropped fault) octets is = finished_none pairs octets is

span_size : (n : ℕ) (what : Laid) (octets : Octets) → n ≡ length octets → IsAppended what octets → (span_of_laid n what).length ≡ length octets
span_size n (laid.Sealed child number) octets is none = is
span_size n (laid.Clear packet) octets is none = sym (ap length none)
span_size n laid.Discarded octets is none = sym (ap length none)
span_size n (laid.Dropped fault) octets is none = sym (ap length none)

-- what is told of it is told of the packet with its ICV
told_laid : (pairs : PairMap) (begin n : ℕ) (what : Laid) (octets : Octets) → n ≡ length octets → told_of_laid begin n what ≡ told_from begin (said_of_laid pairs what octets) no_trace
told_laid pairs begin n (laid.Sealed child number) octets is =
    ap (λ (k : ℕ). record (of_kind 9) { child = child; number = number; offset = begin; length = k }) (is ∙ sym (finished_size_by (sender_at pairs child) number octets))
told_laid pairs begin n (laid.Clear packet) octets is = refl
told_laid pairs begin n laid.Discarded octets is = refl
told_laid pairs begin n (laid.Dropped fault) octets is = refl

-- what is laid is refused for no want of memory
none_lacking : (pairs : PairMap) (what : Laid) (octets : Octets) → said_of_laid pairs what octets ≢ view.Refused reason.Memory
none_lacking pairs (laid.Sealed child number) octets = λ is. cc
none_lacking pairs (laid.Clear packet) octets = λ is. cc
none_lacking pairs laid.Discarded octets = λ is. cc
none_lacking pairs (laid.Dropped fault) octets = λ is. cc

-- ---- one packet more is laid

abbrev the_sent : State PeerCaller → Octets → Sent
the_sent gateway octets = record { gateway = gateway; octets = octets }

-- A packet is taken, but that its ESP packet has no ICV yet: that stands behind those before it.
pub record LaysBehind (octets : Octets) (room : ℕ) (place : SukPlace) (used : ℕ) (old : State PeerCaller) (buffer : Octets) (told : SukOutput) (span : Span) (new : State PeerCaller) (after : Octets) : Type 0 where
  pub takes : (before : Octets) (spans : List Span) → length before ≡ used → octets_of spans ≡ length buffer
      → TakesOutAt octets room place (the_sent old (before ++ finished_row old.table.pairs spans buffer)) told (the_sent new (before ++ finished_row new.table.pairs (spans ++ span ∷ []) after))
  pub longer : length after ≡ length buffer + span.length
  pub fits : used + length after ≤ room

-- a packet is laid as this part of the buffer
lays_as : (octets : Octets) (room : ℕ) (place : SukPlace) (used begin : ℕ) (packet : Octets) (old new : State PeerCaller) (buffer after appended : Octets) (said : OutputView) (told : SukOutput) (span : Span)
    → begin ≡ used + length buffer → begin ≤ room → IsPacketAt octets place packet → HasRoom packet (room - begin)
    → Traces (meaning_for old.caller) (Outward packet) old said no_trace new → KeepsSenders old.table.pairs new.table.pairs
    → after ≡ buffer ++ appended → span.length ≡ length appended → finished_at new.table.pairs span.child span.number appended ≡ sealed_in said → told ≡ told_from begin said no_trace
    → said ≢ view.Refused reason.Memory → LaysBehind octets room place used old buffer told span new after
lays_as octets room place used begin packet old new buffer after appended said told span begin_is within at enough traces keeps after_is size sealed told_is done =
    let short : length (sealed_in said) ≤ length packet + 29 = sealed_fits (meaning_for old.caller) packet said no_trace old new traces in
    let same_long = sym (finished_size_by (sender_at new.table.pairs span.child) span.number appended) ∙ ap length sealed in
    let whole : length after ≡ length buffer + length appended = ap length after_is ∙ length-append buffer appended in
    record {
      takes = λ before spans here full.
          let row : Octets = finished_row old.table.pairs spans buffer in
          let long : length row ≡ length buffer = row_size old.table.pairs spans buffer in
          let begins : length (before ++ row) ≡ begin = length-append before row ∙ (omega arith) in
          let there : packet ≡ packet_at octets place = at.packet_is in
          let behind : HasRoomBehind (packet_at octets place) (before ++ row) room = subst (λ (p : Octets). HasRoomBehind p (before ++ row) room) there (omega arith) in
          let more : finished_row new.table.pairs (spans ++ span ∷ []) after ≡ row ++ sealed_in said =
          ap (finished_row new.table.pairs (spans ++ span ∷ [])) after_is
          ∙ row_more new.table.pairs spans span buffer appended full size
          ∙ ap (λ (xs : Octets). xs ++ finished_at new.table.pairs span.child span.number appended) (row_same old.table.pairs new.table.pairs keeps spans buffer)
          ∙ ap (λ (xs : Octets). row ++ xs) sealed
          in
          let taken : TakesOut packet (record { gateway = old; octets = before ++ row }) told (record { gateway = new; octets = before ++ finished_row new.table.pairs (spans ++ span ∷ []) after }) = record {
            said = said;
            trace = no_trace;
            traces = traces;
            octets = ap (λ (xs : Octets). before ++ xs) more ∙ sym (append_assoc before row (sealed_in said));
            done = done;
            told_is = told_is ∙ ap (λ (k : ℕ). told_from k said no_trace) (sym begins);
          } in
          inl (at.within, behind, subst (λ (p : Octets). TakesOut p (record { gateway = old; octets = before ++ row }) told (record { gateway = new; octets = before ++ finished_row new.table.pairs (spans ++ span ∷ []) after })) there taken);
      longer = whole ∙ ap (λ (k : ℕ). length buffer + k) (sym size);
      fits = omega arith;
    }

lays_taken : (octets : Octets) (room : ℕ) (place : SukPlace) (used begin : ℕ) (packet : Octets) (old new : State PeerCaller) (buffer appended : Octets) (what : Laid) (told : SukOutput)
    → begin ≡ used + length buffer → begin ≤ room → IsPacketAt octets place packet → HasRoom packet (room - begin)
    → IsAppended what appended → Traces (meaning_for old.caller) (Outward packet) old (said_of_laid new.table.pairs what appended) no_trace new → KeepsSenders old.table.pairs new.table.pairs
    → told ≡ told_of_laid begin (length appended) what
    → LaysBehind octets room place used old buffer told (span_of_laid (length appended) what) new (buffer ++ appended)
lays_taken octets room place used begin packet old new buffer appended what told begin_is within at enough only traces keeps told_is =
    let pairs : PairMap = new.table.pairs in
    let n : ℕ = length appended in
    lays_as octets room place used begin packet old new buffer (buffer ++ appended) appended (said_of_laid pairs what appended) told (span_of_laid n what) begin_is within at enough traces keeps refl
    (span_size n what appended refl only) (span_sealed pairs n what appended only) (told_is ∙ told_laid pairs begin n what appended refl) (none_lacking pairs what appended)

refused_at : (octets : Octets) (room : ℕ) (place : SukPlace) (begin : ℕ) (gateway : State PeerCaller) (sent after : Octets) (told : SukOutput) (why : Refusal) → length sent ≡ begin
    → IsPlaceRefusal octets place (room - begin) why → told ≡ refused_alone why → the_sent gateway after ≡ the_sent gateway sent → TakesOutAt octets room place (the_sent gateway sent) told (the_sent gateway after)
refused_at octets room place begin gateway sent after told why begins (inl away) told_is unchanged =
    inr (inl (away.0, record { told_is = told_is ∙ ap refused_alone away.1; unchanged = unchanged }))
refused_at octets room place begin gateway sent after told why begins (inr short) told_is unchanged =
    let less : HasRoomBehind (packet_at octets place) sent room → ⊥ = λ h. short.1 (omega arith) in
    inr (inr (short.0, less, record { told_is = told_is ∙ ap refused_alone short.2; unchanged = unchanged }))

-- one is refused, so nothing is laid
pub lays_refused : (octets : Octets) (room : ℕ) (place : SukPlace) (used begin : ℕ) (old : State PeerCaller) (buffer : Octets) (told : SukOutput) (span : Span) (why : Refusal)
    → begin ≡ used + length buffer → begin ≤ room → IsPlaceRefusal octets place (room - begin) why → told ≡ refused_alone why → span ≡ no_span → LaysBehind octets room place used old buffer told span old buffer
lays_refused octets room place used begin old buffer told span why begin_is within refused told_is span_is =
    let same : (spans : List Span) → octets_of spans ≡ length buffer → finished_row old.table.pairs (spans ++ no_span ∷ []) buffer ≡ finished_row old.table.pairs spans buffer = λ spans full.
    ap (finished_row old.table.pairs (spans ++ no_span ∷ [])) (sym (append-nil buffer))
    ∙ row_more old.table.pairs spans no_span buffer [] full refl
    ∙ ap (λ (xs : Octets). finished_row old.table.pairs spans buffer ++ xs) (finished_none old.table.pairs [] refl)
    ∙ append-nil (finished_row old.table.pairs spans buffer)
    in
    subst (λ (s : Span). LaysBehind octets room place used old buffer told s old buffer) (sym span_is) (record {
      takes = λ before spans here full.
          let row : Octets = finished_row old.table.pairs spans buffer in
          let long : length row ≡ length buffer = row_size old.table.pairs spans buffer in
          let begins : length (before ++ row) ≡ begin = length-append before row ∙ (omega arith) in
          let unchanged = ap (λ (xs : Octets). the_sent old (before ++ xs)) (same spans full) in
          refused_at octets room place begin old (before ++ row) (before ++ finished_row old.table.pairs (spans ++ no_span ∷ []) buffer) told why begins refused told_is unchanged;
      longer = omega arith;
      fits = omega arith;
    })

-- what stands in the room up to where a packet begins
pub row_long : (used begin : ℕ) (room : Octets) → used ≤ begin → begin ≤ length room → length (laid_behind used begin room) ≡ begin - used
row_long used begin room after within = length-take-le (begin - used) (drop used room) (omega (arith, length-drop used room))

pub row_front : (used begin : ℕ) (room : Octets) → used ≤ begin → take begin room ≡ take used room ++ laid_behind used begin room
row_front used begin room after =
    let n : ℕ = begin - used in
    let sum : begin ≡ used + n = omega arith in
    ap (λ (k : ℕ). take k room) sum ∙ take-add used n room

-- A packet is written behind it.
pub row_grows : (used begin : ℕ) (room filled packet : Octets) → used ≤ begin → begin + length packet ≤ length room → filled ≡ take begin room ++ (packet ++ drop (begin + length packet) room)
    → (take used filled ≡ take used room) × (laid_behind used (begin + length packet) filled ≡ laid_behind used begin room ++ packet)
row_grows used begin room filled packet after fits filled_is =
    let front : Octets = take used room in
    let row : Octets = laid_behind used begin room in
    let rest : Octets = drop (begin + length packet) room in
    let one : length front ≡ used = length-take-le used room (omega arith) in
    let two : length row ≡ begin - used = row_long used begin room after (omega arith) in
    let both : length (row ++ packet) ≡ begin + length packet - used = length-append row packet ∙ omega arith in
    let split : filled ≡ front ++ ((row ++ packet) ++ rest) =
    filled_is
    ∙ ap (λ (xs : Octets). xs ++ (packet ++ rest)) (row_front used begin room after)
    ∙ append_assoc front row (packet ++ rest)
    ∙ ap (λ (xs : Octets). front ++ xs) (sym (append_assoc row packet rest))
    in (
      ap (take used) split ∙ take_at front ((row ++ packet) ++ rest) used one,
      ap (λ (xs : Octets). take (begin + length packet - used) (drop used xs)) split
          ∙ ap (take (begin + length packet - used)) (drop_at front ((row ++ packet) ++ rest) used one)
          ∙ take_at (row ++ packet) rest (begin + length packet - used) both,
    )

-- what stands behind it stays
pub rest_stays : (begin : ℕ) (room filled packet : Octets) → begin + length packet ≤ length room → filled ≡ take begin room ++ (packet ++ drop (begin + length packet) room)
    → drop (begin + length packet) filled ≡ drop (begin + length packet) room
rest_stays begin room filled packet fits filled_is =
    let front : Octets = take begin room in
    let rest : Octets = drop (begin + length packet) room in
    let one : length front ≡ begin = length-take-le begin room (omega arith) in
    let long : length (front ++ packet) ≡ begin + length packet = length-append front packet ∙ omega arith in
    ap (drop (begin + length packet)) (filled_is ∙ sym (append_assoc front packet rest)) ∙ drop_at (front ++ packet) rest (begin + length packet) long

-- So a packet is laid in the room.
pub lays_in : (octets : Octets) (place : SukPlace) (used begin : ℕ) (old new : State PeerCaller) (room filled after : Octets) (told : SukOutput) (span : Span)
    → used ≤ begin → begin ≤ length room → LaysBehind octets (length room) place used old (laid_behind used begin room) told span new after
    → take used filled ≡ take used room → laid_behind used (begin + span.length) filled ≡ after → drop (begin + span.length) filled ≡ drop (begin + span.length) room
    → LaysNext octets place used begin old room told span new filled
lays_in octets place used begin old new room filled after told span behind_used within lays front row_is rest =
    let row : Octets = laid_behind used begin room in
    let long : length row ≡ begin - used = row_long used begin room behind_used within in
    let longer = lays.longer in
    let enough = lays.fits in
    record {
      takes = λ spans full.
          subst (λ (xs : Octets). TakesOutAt octets (length room) place (the_sent old (take used room ++ finished_row old.table.pairs spans row)) told
          (the_sent new (xs ++ finished_row new.table.pairs (spans ++ span ∷ []) (laid_behind used (begin + span.length) filled)))) (sym front)
          (subst (λ (xs : Octets). TakesOutAt octets (length room) place (the_sent old (take used room ++ finished_row old.table.pairs spans row)) told
          (the_sent new (take used room ++ finished_row new.table.pairs (spans ++ span ∷ []) xs))) (sym row_is)
          (lays.takes (take used room) spans (length-take-le used room (omega arith)) (full ∙ sym long)));
      fits = omega arith;
      behind = rest;
    }

-- Nothing is laid, so the room is as it was.
pub lays_none : (octets : Octets) (place : SukPlace) (used begin : ℕ) (old new : State PeerCaller) (room after : Octets) (told : SukOutput) (span : Span)
    → used ≤ begin → begin ≤ length room → span ≡ no_span → LaysBehind octets (length room) place used old (laid_behind used begin room) told no_span new after → after ≡ laid_behind used begin room
    → LaysNext octets place used begin old room told span new room
lays_none octets place used begin old new room after told span behind_used within span_is lays same =
    subst (λ (s : Span). LaysNext octets place used begin old room told s new room) (sym span_is)
    (lays_in octets place used begin old new room room after told no_span behind_used within lays refl (ap (λ (k : ℕ). laid_behind used k room) (omega arith) ∙ sym same) refl)

-- ---- what is written

-- nothing is laid but an ESP packet, which is at most 29 octets longer than its packet
laid_only : (what : Laid) (octets : ℕ) (part : Octets) → IsAppended what (take (laid_size what octets) part)
laid_only (laid.Sealed child number) octets part = tt
laid_only (laid.Clear packet) octets part = refl
laid_only laid.Discarded octets part = refl
laid_only (laid.Dropped fault) octets part = refl

laid_least : (what : Laid) (octets : ℕ) → laid_size what octets ≤ octets + 29
laid_least (laid.Sealed child number) octets = omega arith
laid_least (laid.Clear packet) octets = omega arith
laid_least laid.Discarded octets = omega arith
laid_least (laid.Dropped fault) octets = omega arith

-- a packet is laid in the room, but for its ICV
pub lays_taken_in : (octets : Octets) (place : SukPlace) (used begin : ℕ) (packet : Octets) (old new : State PeerCaller) (room part filled : Octets) (what : Laid) (n : ℕ) (told : SukOutput) (span : Span)
    → used ≤ begin → begin ≤ length room → IsPacketAt octets place packet → HasRoom packet (length room - begin)
    → LaysIn (λ said. Traces (meaning_for old.caller) (Outward packet) old said no_trace new) (length packet) (drop begin room) what new.table.pairs part → KeepsSenders old.table.pairs new.table.pairs
    → n ≡ laid_size what (length packet) → told ≡ told_of_laid begin n what → span ≡ span_of_laid n what → filled ≡ take begin room ++ part
    → LaysNext octets place used begin old room told span new filled
lays_taken_in octets place used begin packet old new room part filled what n told span behind_used within at enough lays keeps n_is told_is span_is filled_is =
    let size : ℕ = laid_size what (length packet) in
    let after : Octets = take size part in
    let row : Octets = laid_behind used begin room in
    let long : length row ≡ begin - used = row_long used begin room behind_used within in
    let least = laid_least what (length packet) in
    let left = lays.behind.size ∙ length-drop begin room in
    let whole : length after ≡ size = length-take-le size part (omega arith) in
    let n_long : n ≡ length after = n_is ∙ sym whole in
    let inside : begin + length after ≤ length room = omega arith in
    let rest : drop size part ≡ drop (begin + length after) room =
    lays.behind.rest ∙ drop-drop size begin room ∙ ap (λ (k : ℕ). drop (begin + k) room) (sym whole) in
    let split : filled ≡ take begin room ++ (after ++ drop (begin + length after) room) =
    filled_is ∙ ap (λ (xs : Octets). take begin room ++ xs) (sym (take-append-drop size part) ∙ ap (λ (xs : Octets). after ++ xs) rest) in
    let told_so : told ≡ told_of_laid begin (length after) what = told_is ∙ ap (λ (k : ℕ). told_of_laid begin k what) n_long in
    let own : Span = span_of_laid (length after) what in
    let laid = lays_taken octets (length room) place used begin packet old new row after what told (omega arith) within at enough (laid_only what (length packet) part) lays.said keeps told_so in
    let spans : own.length ≡ length after = span_size (length after) what after refl (laid_only what (length packet) part) in
    let ends : begin + own.length ≡ begin + length after = ap (λ (k : ℕ). begin + k) spans in
    let grows = row_grows used begin room filled after behind_used inside split in
    subst (λ (s : Span). LaysNext octets place used begin old room told s new filled) (sym (span_is ∙ ap (λ (k : ℕ). span_of_laid k what) n_long))
    (lays_in octets place used begin old new room filled (row ++ after) told own behind_used within laid grows.0
    (ap (λ (k : ℕ). laid_behind used k filled) ends ∙ grows.1)
    (ap (λ (k : ℕ). drop k filled) ends ∙ rest_stays begin room filled after inside split ∙ ap (λ (k : ℕ). drop k room) (sym ends)))

-- it is refused
pub lays_refused_in : (octets : Octets) (place : SukPlace) (used begin : ℕ) (old : State PeerCaller) (room : Octets) (told : SukOutput) (span : Span) (why : Refusal)
    → used ≤ begin → begin ≤ length room → IsPlaceRefusal octets place (length room - begin) why → told ≡ refused_alone why → span ≡ no_span → LaysNext octets place used begin old room told span old room
lays_refused_in octets place used begin old room told span why behind_used within refused told_is span_is =
    let row : Octets = laid_behind used begin room in
    let long : length row ≡ begin - used = row_long used begin room behind_used within in
    lays_none octets place used begin old old room row told span behind_used within span_is (lays_refused octets (length room) place used begin old row told no_span why (omega arith) within refused told_is refl) refl

-- a part from a place to the end is written anew
pub end_written : (room done : Octets) (used : ℕ) → put_mid used (length room - used) room done ≡ take used room ++ done
end_written room done used =
    ap (λ (xs : Octets). take used room ++ (done ++ xs)) (drop_all (length room - used) (drop used room) (omega (arith, length-drop used room)))
    ∙ ap (λ (xs : Octets). take used room ++ xs) (append-nil done)

-- packets in a row get their ICVs, and what stands behind them stays
row_apart : (pairs : PairMap) (spans : List Span) (row rest : Octets) → octets_of spans ≡ length row → finished_row pairs spans (row ++ rest) ≡ finished_row pairs spans row ++ rest
row_apart pairs [] row rest full = refl
row_apart pairs (s ∷ ss) row rest full =
    let first : Octets = finished_at pairs s.child s.number (take s.length row) in
    let left : Octets = drop s.length row in
    let size : length left ≡ length row - s.length = length-drop s.length row in
    ap (λ (ys : Octets). finished_at pairs s.child s.number ys ++ finished_row pairs ss (drop s.length (row ++ rest))) (take-append-le s.length row rest (omega arith))
    ∙ ap (λ (ys : Octets). first ++ finished_row pairs ss ys) (drop-append-le s.length row rest (omega arith))
    ∙ ap (λ (ys : Octets). first ++ ys) (row_apart pairs ss left rest (omega arith))
    ∙ sym (append_assoc first (finished_row pairs ss left) rest)

-- a group's packets are in the room
pub group_written : (octets : Octets) (places : List SukPlace) (room mid filled done : Octets) (used end : ℕ) (old new : State PeerCaller) (told : List SukOutput) (spans : List Span)
    → length mid ≡ length room → LaysGroup octets places used old room end new told spans mid → done ≡ finished_row new.table.pairs spans (drop used mid)
    → filled ≡ take used mid ++ done
    → TakesOutGroup octets places used old room end new told filled
group_written octets places room mid filled done used end old new told spans same_long lays done_is filled_is =
    let pairs : PairMap = new.table.pairs in
    let begins = lays.begins in
    let enough = lays.fits in
    let row : Octets = laid_behind used end mid in
    let rest : Octets = drop end mid in
    let long : length row ≡ end - used = row_long used end mid begins (omega arith) in
    let sum : end ≡ used + (end - used) = omega arith in
    let parts : drop used mid ≡ row ++ rest =
    sym (take-append-drop (end - used) (drop used mid))
    ∙ ap (λ (xs : Octets). row ++ xs) (drop-drop (end - used) used mid ∙ ap (λ (k : ℕ). drop k mid) (sym sum))
    in
    let sealed : Octets = finished_row pairs spans row in
    let apart : done ≡ sealed ++ rest = done_is ∙ ap (finished_row pairs spans) parts ∙ row_apart pairs spans row rest (lays.whole ∙ sym long) in
    let front : Octets = take used mid ++ sealed in
    let one : length (take used mid) ≡ used = length-take-le used mid (omega arith) in
    let size : length sealed ≡ length row = row_size pairs spans row in
    let whole : length front ≡ end = length-append (take used mid) sealed ∙ omega arith in
    let split : filled ≡ front ++ rest = filled_is ∙ ap (λ (xs : Octets). take used mid ++ xs) apart ∙ sym (append_assoc (take used mid) sealed rest) in
    record {
      runs = subst (λ (xs : Octets). Runs (TakesOutAt octets (length room)) places told (the_sent old (take used room)) (the_sent new xs)) (sym (ap (take end) split ∙ take_at front rest end whole)) lays.runs;
      begins = begins;
      fits = enough;
      behind = ap (drop end) split ∙ drop_at front rest end whole ∙ lays.behind;
    }

-- ---- groups

pub none_out : (octets : Octets) (room : Octets) (places : List SukPlace) (old : State PeerCaller) (before : List SukOutput)
    → RunsOver (TakesOutAt octets (length room)) (take 0 places) (record { gateway = old; octets = [] }) before (record { gateway = old; octets = take 0 room }) before
none_out octets room places old before = record { told = []; runs = refl; records = refl }

-- the whole list
pub all_out : (octets : Octets) (places : List SukPlace) (old new : State PeerCaller) (before after : List SukOutput) (room filled : Octets) (used : ℕ)
    → RunsOver (TakesOutAt octets (length room)) places (record { gateway = old; octets = [] }) before (record { gateway = new; octets = take used filled }) after
    → used ≤ length room → length filled ≡ length room → drop used filled ≡ drop used room
    → TakesOutOver octets places old before room new after filled
all_out octets places old new before after room filled used runs within long behind =
    let size : length (take used filled) ≡ used = length-take-le used filled (omega arith) in
    record {
      sent = take used filled;
      runs = runs;
      fits = omega arith;
      filled_is = sym (take-append-drop used filled) ∙ ap (λ (xs : Octets). take used filled ++ xs) (behind ∙ ap (λ (k : ℕ). drop k room) (sym size));
    }

-- what stands behind two groups
pub behind_both : (room mid filled : Octets) (used end : ℕ) → used ≤ end → drop used mid ≡ drop used room → drop end filled ≡ drop end mid → drop end filled ≡ drop end room
behind_both room mid filled used end within first second =
    let n : ℕ = end - used in
    let at : end ≡ used + n = omega arith in
    second
    ∙ ap (λ (k : ℕ). drop k mid) at
    ∙ sym (drop-drop n used mid)
    ∙ ap (drop n) first
    ∙ drop-drop n used room
    ∙ ap (λ (k : ℕ). drop k room) (sym at)

-- ---- what a call answers

pub seals_nothing : (octets : Octets) (places : List SukPlace) (end : End) (code : ℕ) (told : List SukOutput) (room : Octets) → ((hosted : Hosted) → end ≡ Gateway hosted → ⊥) → code ≡ 101
    → SealsAll octets places (Some end) code (Some end) told told room room
seals_nothing octets places (Sender end) code told room other is = (is, refl, refl, refl)
seals_nothing octets places (Receiver end) code told room other is = (is, refl, refl, refl)
seals_nothing octets places (Gateway hosted) code told room other is = absurd (other hosted refl)

pub seals_none : (octets : Octets) (places : List SukPlace) (state after : Option End) (code : ℕ) (told : List SukOutput) (room : Octets) → state ≡ None → after ≡ None → code ≡ 101
    → SealsAll octets places state code after told told room room
seals_none octets places state after code told room none left is =
    subst (λ (s : Option End). SealsAll octets places s code after told told room room) (sym none) (is, left, refl, refl)

pub seals_of : (octets : Octets) (places : List SukPlace) (state after : Option End) (end new : End) (code : ℕ) (before told : List SukOutput) (room filled : Octets) → state ≡ Some end → after ≡ Some new
    → SealsAll octets places (Some end) code (Some new) before told room filled → SealsAll octets places state code after before told room filled
seals_of octets places state after end new code before told room filled was is done =
    subst (λ (s : Option End). SealsAll octets places s code after before told room filled) (sym was)
    (subst (λ (s : Option End). SealsAll octets places (Some end) code s before told room filled) (sym is) done)

-- ---- what the loops keep

-- nothing is laid yet
pub begun : (octets : Octets) (places : List SukPlace) (outs : List SukOutput) (gateway : State PeerCaller) (room : Octets) (used : ℕ) (spans : List Span)
    → Runs (TakesOutAt octets (length room)) (take 0 places) (take 0 outs) (the_sent gateway (take used room)) (the_sent gateway (take used room ++ finished_row gateway.table.pairs (take 0 spans) (laid_behind used used room)))
begun octets places outs gateway room used spans =
    let zero : used - used ≡ 0 = omega arith in
    let none : laid_behind used used room ≡ [] = ap (λ (k : ℕ). take k (drop used room)) zero in
    ap (the_sent gateway) (ap (λ (xs : Octets). take used room ++ xs) none ∙ append-nil (take used room))
