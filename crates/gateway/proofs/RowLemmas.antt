-- ESP packets that stand one behind the other in a buffer, and get their ICVs there.
use Rattle.std.proofs.Common.{◌≡◌, ◌+◌, ◌-◌, ◌<◌, ◌≤◌, ◌++◌, ℕ, zero, suc, List, [], ◌∷◌, length, take, drop, get_or, refl, sym, ap, ◌∙◌, subst, arith, inl, append_assoc, Option, Some, None, length-append, length-drop}
use Rattle.std.specs.Prelude.{IfSome}
use Rattle.std.proofs.lemmas.List.{append-nil, drop-append-le, drop-drop, drop_all, drop_at, length-take-le, take-append-le, take_all, take_at, take_more}
use Rattle.std.proofs.Math.Seq.{take-add}
use borrow.Rule.Slice.PartMut.{put_mid}
use Rattle.base.specs.Octets.{Octets}
use Rattle.esp.specs.Precomputed.{ArePrecomputed, IsPrecomputed}
use Rattle.esp.specs.declared.precomputed.Precomputed.{Precomputed}
use Rattle.policy.specs.declared.entry.Entry.{Entry}
use Rattle.sadb.specs.Database.{Database, PairMap}
use Rattle.sadb.specs.Laying.{KeepsSenders, finished_at, finished_by}
use Rattle.traffic.specs.Behind.{SendsIn, laid_size}
use Rattle.traffic.specs.Laying.{finished_outcome}
use Rattle.traffic.specs.Outcomes.{Outcome, outcome_of_laid}
use Rattle.traffic.specs.Sending.{Sends}
use Rattle.traffic.specs.declared.departure.Laid.{Laid}
use Rattle.traffic.specs.declared.departure.Laid.TheVariants as laid
use Rattle.effects.specs.Taking.{Meaning}
use Rattle.ike.specs.Outputs.{no_trace}
use Rattle.gateway.specs.Inputs.{Outward}
use Rattle.gateway.specs.Outputs.{view_of_outcome}
use Rattle.gateway.specs.Rows.{LaysIn, finished_row, octets_of, packet_in_row, said_of_laid}
use Rattle.gateway.specs.States.{State}
use Rattle.gateway.specs.Steps.{SendsPacket, Traces}
use Rattle.gateway.specs.declared.row.Span.{Span}
use Rattle.gateway.proofs.PacketLemmas.{sending_keeps}

-- ---- how many octets there are

pub octets_more : (xs : List Span) (s : Span) → octets_of (xs ++ s ∷ []) ≡ octets_of xs + s.length
octets_more [] s = omega arith
octets_more (x ∷ xs) s = let h = octets_more xs s in omega arith

-- the octets of the ESP packet at a place lie in the buffer
pub part_fits : (spans : List Span) (k : ℕ) (d : Span) → k < length spans → octets_of (take k spans) + (get_or spans k d).length ≤ octets_of spans
part_fits [] k d within = absurd (omega arith)
part_fits (s ∷ ss) zero d within = omega arith
part_fits (s ∷ ss) (suc k) d within = let h = part_fits ss k d (omega arith) in omega arith

pub octets_next : (spans : List Span) (k : ℕ) (d : Span) → k < length spans → octets_of (take (k + 1) spans) ≡ octets_of (take k spans) + (get_or spans k d).length
octets_next spans k d within = ap octets_of (take_more spans k d within) ∙ octets_more (take k spans) (get_or spans k d)

-- ---- the ESP packet at a place

pub row_here : (spans : List Span) (octets : Octets) (k : ℕ) (d : Span) → k < length spans
    → packet_in_row spans octets k ≡ take (get_or spans k d).length (drop (octets_of (take k spans)) octets)
row_here [] octets k d within = absurd (omega arith)
row_here (s ∷ ss) octets zero d within = refl
row_here (s ∷ ss) octets (suc k) d within =
    row_here ss (drop s.length octets) k d (omega arith)
    ∙ ap (take (get_or ss k d).length) (drop-drop (octets_of (take k ss)) s.length octets)

if_found : (P : Precomputed → Type 0) (o : Option Precomputed) → ((found : Precomputed) → o ≡ Some found → P found) → IfSome o P
if_found P None each = tt
if_found P (Some x) each = each x refl

-- a value that was computed ahead is that of the packet at its place
pub value_in_row : (packets : ℕ → Octets) (ahead : List (Option Precomputed)) (k : ℕ) (value : Option Precomputed) (part : Octets) → ArePrecomputed packets ahead → packets k ≡ part → value ≡ get_or ahead k None
    → IfSome value (IsPrecomputed part)
value_in_row packets ahead k value part all is there =
    if_found (IsPrecomputed part) value (λ found e. subst (λ (b : Octets). IsPrecomputed b found) is (all.each k found (sym there ∙ e)))

-- ---- one packet more

row_first : (pairs : PairMap) (s : Span) (xs p : Octets) → length xs ≡ 0 → s.length ≡ length p → finished_row pairs (s ∷ []) (xs ++ p) ≡ xs ++ finished_at pairs s.child s.number p
row_first pairs s [] p none long =
    ap (λ (ys : Octets). finished_at pairs s.child s.number ys ++ drop s.length p) (take_all s.length p (omega arith))
    ∙ ap (λ (ys : Octets). finished_at pairs s.child s.number p ++ ys) (drop_all s.length p (omega arith))
    ∙ append-nil (finished_at pairs s.child s.number p)
row_first pairs s (x ∷ xs) p none long = absurd (omega arith)

pub row_more : (pairs : PairMap) (ss : List Span) (s : Span) (xs p : Octets) → octets_of ss ≡ length xs → s.length ≡ length p
    → finished_row pairs (ss ++ s ∷ []) (xs ++ p) ≡ finished_row pairs ss xs ++ finished_at pairs s.child s.number p
row_more pairs [] s xs p whole long = row_first pairs s xs p (sym whole) long
row_more pairs (t ∷ ts) s xs p whole long =
    let rest : Octets = drop t.length xs in
    let first : Octets = finished_at pairs t.child t.number (take t.length xs) in
    let size : length rest ≡ length xs - t.length = length-drop t.length xs in
    ap (λ (ys : Octets). finished_at pairs t.child t.number ys ++ finished_row pairs (ts ++ s ∷ []) (drop t.length (xs ++ p))) (take-append-le t.length xs p (omega arith))
    ∙ ap (λ (ys : Octets). first ++ finished_row pairs (ts ++ s ∷ []) ys) (drop-append-le t.length xs p (omega arith))
    ∙ ap (λ (ys : Octets). first ++ ys) (row_more pairs ts s rest p (omega arith) long)
    ∙ sym (append_assoc first (finished_row pairs ts rest) (finished_at pairs s.child s.number p))

-- while no SA pair comes or goes, the packets are finished in the same way
pub row_same : (old new : PairMap) → KeepsSenders old new → (spans : List Span) (octets : Octets) → finished_row new spans octets ≡ finished_row old spans octets
row_same old new keeps [] octets = refl
row_same old new keeps (s ∷ ss) octets =
    ap (λ sender. finished_by sender s.number (take s.length octets) ++ finished_row new ss (drop s.length octets)) (keeps.each s.child)
    ∙ ap (λ (ys : Octets). finished_at old s.child s.number (take s.length octets) ++ ys) (row_same old new keeps ss (drop s.length octets))

-- one ICV more is written in the buffer
pub row_step : (pairs : PairMap) (ss : List Span) (s : Span) (before now part : Octets) (at end : ℕ) → at ≡ octets_of ss → end ≡ at + s.length → end ≤ length before → length now ≡ length before
    → now ≡ finished_row pairs ss (take at before) ++ drop at before → part ≡ finished_at pairs s.child s.number (take (end - at) (drop at now))
    → put_mid at (end - at) now part ≡ finished_row pairs (ss ++ s ∷ []) (take end before) ++ drop end before
row_step pairs ss s before now part at end at_is end_is within same now_is part_is =
    let front : Octets = finished_row pairs ss (take at before) in
    let size : end - at ≡ s.length = omega arith in
    let taken : length (take at before) ≡ at = length-take-le at before (omega arith) in
    let left : length (drop at before) ≡ length before - at = length-drop at before in
    let whole : length now ≡ length front + length (drop at before) = ap length now_is ∙ length-append front (drop at before) in
    let long : length front ≡ at = omega arith in
    let kept : take at now ≡ front = ap (take at) now_is ∙ take_at front (drop at before) at long in
    let rest : drop at now ≡ drop at before = ap (drop at) now_is ∙ drop_at front (drop at before) at long in
    let p : Octets = take s.length (drop at before) in
    let size_p : length p ≡ s.length = length-take-le s.length (drop at before) (omega arith) in
    let part_of : part ≡ finished_at pairs s.child s.number p = part_is ∙ ap (λ (n : ℕ). finished_at pairs s.child s.number (take n (drop at now))) size ∙ ap (λ (ys : Octets). finished_at pairs s.child s.number (take s.length ys)) rest in
    let both : take at before ++ p ≡ take end before = sym (take-add at s.length before) ∙ ap (λ (n : ℕ). take n before) (sym end_is) in
    let behind : drop (end - at) (drop at now) ≡ drop end before =
    ap (λ (n : ℕ). drop n (drop at now)) size ∙ ap (drop s.length) rest ∙ drop-drop s.length at before ∙ ap (λ (n : ℕ). drop n before) (sym end_is)
    in
    ap (λ (ys : Octets). ys ++ (part ++ drop (end - at) (drop at now))) kept
    ∙ ap (λ (ys : Octets). front ++ (ys ++ drop (end - at) (drop at now))) part_of
    ∙ ap (λ (ys : Octets). front ++ (finished_at pairs s.child s.number p ++ ys)) behind
    ∙ sym (append_assoc front (finished_at pairs s.child s.number p) (drop end before))
    ∙ ap (λ (ys : Octets). ys ++ drop end before) (sym (row_more pairs ss s (take at before) p (sym at_is ∙ sym taken) (sym size_p)))
    ∙ ap (λ (ys : Octets). finished_row pairs (ss ++ s ∷ []) ys ++ drop end before) both

-- what stands behind the packets that have their ICVs
row_left : (pairs : PairMap) (ss : List Span) (before now : Octets) (at : ℕ) → at ≤ length before → length now ≡ length before → now ≡ finished_row pairs ss (take at before) ++ drop at before
    → drop at now ≡ drop at before
row_left pairs ss before now at within same now_is =
    let front : Octets = finished_row pairs ss (take at before) in
    let left : length (drop at before) ≡ length before - at = length-drop at before in
    let whole : length now ≡ length front + length (drop at before) = ap length now_is ∙ length-append front (drop at before) in
    let long : length front ≡ at = omega arith in
    ap (drop at) now_is ∙ drop_at front (drop at before) at long

-- the packet at a place, where those before it end
pub part_here : (spans : List Span) (octets : Octets) (k : ℕ) (d : Span) (at : ℕ) → k < length spans → at ≡ octets_of (take k spans)
    → packet_in_row spans octets k ≡ take (at + (get_or spans k d).length - at) (drop at octets)
part_here spans octets k d at within at_is =
    let size : at + (get_or spans k d).length - at ≡ (get_or spans k d).length = omega arith in
    row_here spans octets k d within
    ∙ ap (λ (n : ℕ). take (get_or spans k d).length (drop n octets)) (sym at_is)
    ∙ ap (λ (n : ℕ). take n (drop at octets)) (sym size)

-- the same while the packets before it have their ICVs already
pub part_now : (pairs : PairMap) (spans : List Span) (before now : Octets) (k : ℕ) (d : Span) (at : ℕ) → k < length spans → at ≡ octets_of (take k spans) → octets_of spans ≤ length before → length now ≡ length before
    → now ≡ finished_row pairs (take k spans) (take at before) ++ drop at before → packet_in_row spans before k ≡ take (at + (get_or spans k d).length - at) (drop at now)
part_now pairs spans before now k d at within at_is whole same now_is =
    let fits = part_fits spans k d within in
    part_here spans before k d at within at_is
    ∙ ap (take (at + (get_or spans k d).length - at)) (sym (row_left pairs (take k spans) before now at (omega arith) same now_is))

pub row_next : (pairs : PairMap) (spans : List Span) (before now part : Octets) (k : ℕ) (d : Span) (at : ℕ) → k < length spans → at ≡ octets_of (take k spans) → octets_of spans ≤ length before → length now ≡ length before
    → now ≡ finished_row pairs (take k spans) (take at before) ++ drop at before
    → part ≡ finished_at pairs (get_or spans k d).child (get_or spans k d).number (take (at + (get_or spans k d).length - at) (drop at now))
    → put_mid at (at + (get_or spans k d).length - at) now part ≡ finished_row pairs (take (k + 1) spans) (take (at + (get_or spans k d).length) before) ++ drop (at + (get_or spans k d).length) before
row_next pairs spans before now part k d at within at_is whole same now_is part_is =
    let s : Span = get_or spans k d in
    let end : ℕ = at + s.length in
    let fits = part_fits spans k d within in
    row_step pairs (take k spans) s before now part at end at_is refl (omega arith) same now_is part_is
    ∙ ap (λ (ss : List Span). finished_row pairs ss (take end before) ++ drop end before) (sym (take_more spans k d within))

-- the whole row, as a loop over it ends
rest_kept : (pairs : PairMap) (spans : List Span) (octets : Octets) → octets_of spans ≤ length octets
    → finished_row pairs spans (take (octets_of spans) octets) ++ drop (octets_of spans) octets ≡ finished_row pairs spans octets
rest_kept pairs [] octets within = refl
rest_kept pairs (s ∷ ss) octets within =
    let n : ℕ = octets_of ss in
    let all : Octets = take (s.length + n) octets in
    let first : Octets = finished_at pairs s.child s.number (take s.length octets) in
    let size : length (take s.length octets) ≡ s.length = length-take-le s.length octets (omega arith) in
    let left : length (drop s.length octets) ≡ length octets - s.length = length-drop s.length octets in
    let parts : all ≡ take s.length octets ++ take n (drop s.length octets) = take-add s.length n octets in
    let one : take s.length all ≡ take s.length octets = ap (take s.length) parts ∙ take_at (take s.length octets) (take n (drop s.length octets)) s.length size in
    let two : drop s.length all ≡ take n (drop s.length octets) = ap (drop s.length) parts ∙ drop_at (take s.length octets) (take n (drop s.length octets)) s.length size in
    append_assoc (finished_at pairs s.child s.number (take s.length all)) (finished_row pairs ss (drop s.length all)) (drop (s.length + n) octets)
    ∙ ap (λ (ys : Octets). finished_at pairs s.child s.number ys ++ (finished_row pairs ss (drop s.length all) ++ drop (s.length + n) octets)) one
    ∙ ap (λ (ys : Octets). first ++ (finished_row pairs ss ys ++ drop (s.length + n) octets)) two
    ∙ ap (λ (ys : Octets). first ++ (finished_row pairs ss (take n (drop s.length octets)) ++ ys)) (sym (drop-drop n s.length octets))
    ∙ ap (λ (ys : Octets). first ++ ys) (rest_kept pairs ss (drop s.length octets) (omega arith))

pub row_done : (pairs : PairMap) (spans : List Span) (before now : Octets) (at k : ℕ) → k ≡ length spans → at ≡ octets_of (take k spans) → octets_of spans ≤ length before
    → now ≡ finished_row pairs (take k spans) (take at before) ++ drop at before → now ≡ finished_row pairs spans before
row_done pairs spans before now at k count at_is within is =
    let all : take k spans ≡ spans = take_all k spans (omega arith) in
    let end : at ≡ octets_of spans = at_is ∙ ap octets_of all in
    is
    ∙ ap (λ (ss : List Span). finished_row pairs ss (take at before) ++ drop at before) all
    ∙ ap (λ (n : ℕ). finished_row pairs spans (take n before) ++ drop n before) end
    ∙ rest_kept pairs spans before within

-- ---- what a packet that is laid comes to

said_is : (pairs : PairMap) (what : Laid) (octets : Octets) → said_of_laid pairs what octets ≡ view_of_outcome (finished_outcome pairs (outcome_of_laid what octets))
said_is pairs (laid.Sealed child number) octets = refl
said_is pairs (laid.Clear packet) octets = refl
said_is pairs laid.Discarded octets = refl
said_is pairs (laid.Dropped fault) octets = refl

pub lays_sent : (entries : List Entry) (old : Database) (packet room : Octets) (what : Laid) (new : Database) (filled : Octets)
    → SendsIn old entries packet room what new filled → LaysIn (λ said. SendsPacket entries old packet said new) (length packet) room what new.pairs filled
lays_sent entries old packet room what new filled sends =
    let sealed : Octets = take (laid_size what (length packet)) filled in
    record {
      said = inl (record { outcome = finished_outcome new.pairs (outcome_of_laid what sealed); sends = sends.became; output = said_is new.pairs what sealed });
      behind = sends.behind;
    }

pub reserved_sent : (entries : List Entry) (old : Database) (packet room : Octets) (what : Laid) (new : Database) (filled : Octets)
    → SendsIn old entries packet room what new filled → new.reserved ≡ old.reserved
reserved_sent entries old packet room what new filled sends =
    sending_keeps old entries packet (finished_outcome new.pairs (outcome_of_laid what (take (laid_size what (length packet)) filled))) new sends.became

pub senders_sent : ((old new : Database) (entries : List Entry) (packet : Octets) (outcome : Outcome) → Sends old entries packet outcome new → KeepsSenders old.pairs new.pairs)
    → (entries : List Entry) (old : Database) (packet room : Octets) (what : Laid) (new : Database) (filled : Octets)
    → SendsIn old entries packet room what new filled → KeepsSenders old.pairs new.pairs
senders_sent stay entries old packet room what new filled sends =
    stay old new entries packet (finished_outcome new.pairs (outcome_of_laid what (take (laid_size what (length packet)) filled))) sends.became

-- the packet is all that a step of the gateway takes
pub traces_laid : {C : Type 0} (meaning : Meaning) (old : State C) (packet room : Octets) (what : Laid) (table : Database) (filled : Octets)
    → LaysIn (λ said. SendsPacket old.entries old.table packet said table) (length packet) room what table.pairs filled
    → LaysIn (λ said. Traces meaning (Outward packet) old said no_trace (record old { table = table })) (length packet) room what table.pairs filled
traces_laid {C} meaning old packet room what table filled lays = record {
  said = record { kept = refl; does = (record { machine = refl; traced = refl }, lays.said) };
  behind = lays.behind;
}
