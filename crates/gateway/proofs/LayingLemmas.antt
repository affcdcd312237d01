-- Outbound packets that are laid first, and get their ICVs afterwards.
use Rattle.std.proofs.Common.{◌≡◌, ◌+◌, ◌-◌, ◌<◌, ◌≤◌, ◌++◌, ℕ, List, [], ◌∷◌, length, length-append, length-drop, take, drop, get_or, refl, sym, ap, ◌∙◌, subst, arith, append_assoc, Option, Some, None}
use Rattle.std.specs.Prelude.{IfSome}
use Rattle.std.proofs.lemmas.List.{append-nil, drop_all, drop_at, drop_more, length-map, length-take-le, map-append, take-append-drop, take_all, take_at, take_more, take_more_set, take_rest, take-set, drop-drop, drop-set-lt, length-set}
use Rattle.std.proofs.lemmas.Option.{slice_get-get_or}
use Rattle.std.proofs.lemmas.Slice.{drop-put_mid, take-put_mid}
use Rattle.std.proofs.Math.ListN.{set}
use borrow.Rule.Slice.PartMut.{put_mid}
use Rattle.base.specs.Octets.{Octets}
use Rattle.esp.specs.Precomputed.{ArePrecomputed, IsPrecomputed}
use Rattle.esp.specs.declared.precomputed.Precomputed.{Precomputed}
use Rattle.sadb.specs.Database.{Database, PairMap}
use Rattle.sadb.specs.Laying.{KeepsSenders, finished_at, finished_by, sender_at}
use Rattle.traffic.specs.Laying.{finished_outcome}
use Rattle.traffic.specs.Outcomes.{Outcome}
use Rattle.traffic.specs.Outcomes as traffic
use Rattle.effects.specs.Taking.{Meaning}
use Rattle.ike.specs.Outputs.{no_trace}
use Rattle.ike.specs.declared.output.Trace.{Trace}
use Rattle.gateway.specs.Inputs.{Input}
use Rattle.gateway.specs.Outputs.{OutputView, output_view, view_of_outcome}
use Rattle.gateway.specs.Outputs as view
use Rattle.gateway.specs.States.{IsSoundState, State}
use Rattle.gateway.specs.Steps.{Traces}
use Rattle.gateway.specs.Laying.{TakesNext, finished_from, finished_output, finished_outputs, laid_at, octets_if, octets_in}
use Rattle.gateway.specs.declared.output.Output.{Output}
use Rattle.gateway.specs.declared.output.Output.TheVariants as output

-- ---- outputs once they are finished

-- where nothing is laid
pub nothing_laid : (pairs : PairMap) (outputs : List Output) (n : ℕ) → n ≡ length outputs → finished_from n pairs outputs ≡ outputs
nothing_laid pairs outputs n is =
    ap (λ (xs : List Output). take n outputs ++ finished_outputs pairs xs) (drop_all n outputs (omega arith))
    ∙ append-nil (take n outputs)
    ∙ take_all n outputs (omega arith)

-- while no SA pair comes or goes, an output is finished in the same way
same_output : (old new : PairMap) → KeepsSenders old new → (o : Output) → finished_output new o ≡ finished_output old o
same_output old new keeps (output.Sealed child number octets) = ap (λ s. output.Sealed child number (finished_by s number octets)) (keeps.each child)
same_output old new keeps (output.Reply octets closed) = refl
same_output old new keeps (output.Repeat octets) = refl
same_output old new keeps (output.Request serial octets) = refl
same_output old new keeps (output.Counted serial child closed) = refl
same_output old new keeps (output.Ticked requests closed) = refl
same_output old new keeps output.Done = refl
same_output old new keeps (output.Up child number packet) = refl
same_output old new keeps (output.Dummy child number) = refl
same_output old new keeps (output.Clear packet) = refl
same_output old new keeps output.Discarded = refl
same_output old new keeps (output.Dropped why) = refl
same_output old new keeps (output.Refused why) = refl

same_outputs : (old new : PairMap) → KeepsSenders old new → (os : List Output) → finished_outputs new os ≡ finished_outputs old os
same_outputs old new keeps [] = refl
same_outputs old new keeps (o ∷ os) =
    ap (λ (x : Output). x ∷ finished_outputs new os) (same_output old new keeps o) ∙ ap (λ (xs : List Output). finished_output old o ∷ xs) (same_outputs old new keeps os)

-- one packet more is laid
pub laid_more : (old new : PairMap) (start : ℕ) (outputs : List Output) (o : Output) → KeepsSenders old new → start ≤ length outputs
    → finished_from start new (outputs ++ o ∷ []) ≡ finished_from start old outputs ++ finished_output new o ∷ []
laid_more old new start outputs o keeps within =
    let xs : List Output = take start outputs in
    let ys : List Output = drop start outputs in
    let whole : outputs ++ o ∷ [] ≡ xs ++ (ys ++ o ∷ []) =
    ap (λ (zs : List Output). zs ++ o ∷ []) (sym (take-append-drop start outputs)) ∙ append_assoc xs ys (o ∷ [])
    in
    let long : length xs ≡ start = length-take-le start outputs within in
    ap (λ (zs : List Output). take start zs ++ finished_outputs new (drop start zs)) whole
    ∙ ap (λ (zs : List Output). zs ++ finished_outputs new (drop start (xs ++ (ys ++ o ∷ [])))) (take_at xs (ys ++ o ∷ []) start long)
    ∙ ap (λ (zs : List Output). xs ++ finished_outputs new zs) (drop_at xs (ys ++ o ∷ []) start long)
    ∙ ap (λ (zs : List Output). xs ++ zs) (map-append (finished_output new) ys (o ∷ []))
    ∙ sym (append_assoc xs (finished_outputs new ys) (finished_output new o ∷ []))
    ∙ ap (λ (zs : List Output). (xs ++ zs) ++ finished_output new o ∷ []) (same_outputs old new keeps ys)

-- the same of what contracts see
abbrev finished_view : PairMap → OutputView → OutputView
finished_view pairs (view.Sealed child number octets) = view.Sealed child number (finished_at pairs child number octets)
finished_view pairs (view.Reply octets closed) = view.Reply octets closed
finished_view pairs (view.Repeat octets) = view.Repeat octets
finished_view pairs (view.Request serial octets) = view.Request serial octets
finished_view pairs (view.Counted serial child closed) = view.Counted serial child closed
finished_view pairs (view.Ticked requests closed) = view.Ticked requests closed
finished_view pairs view.Done = view.Done
finished_view pairs (view.Up child number packet) = view.Up child number packet
finished_view pairs (view.Dummy child number) = view.Dummy child number
finished_view pairs (view.Clear packet) = view.Clear packet
finished_view pairs view.Discarded = view.Discarded
finished_view pairs (view.Dropped why) = view.Dropped why
finished_view pairs (view.Refused why) = view.Refused why

view_of_finished : (pairs : PairMap) (o : Output) → output_view (finished_output pairs o) ≡ finished_view pairs (output_view o)
view_of_finished pairs (output.Sealed child number octets) = refl
view_of_finished pairs (output.Reply octets closed) = refl
view_of_finished pairs (output.Repeat octets) = refl
view_of_finished pairs (output.Request serial octets) = refl
view_of_finished pairs (output.Counted serial child closed) = refl
view_of_finished pairs (output.Ticked requests closed) = refl
view_of_finished pairs output.Done = refl
view_of_finished pairs (output.Up child number packet) = refl
view_of_finished pairs (output.Dummy child number) = refl
view_of_finished pairs (output.Clear packet) = refl
view_of_finished pairs output.Discarded = refl
view_of_finished pairs (output.Dropped why) = refl
view_of_finished pairs (output.Refused why) = refl

outcome_finished : (pairs : PairMap) (o : Outcome) → view_of_outcome (finished_outcome pairs o) ≡ finished_view pairs (view_of_outcome o)
outcome_finished pairs (traffic.Sealed child number octets) = refl
outcome_finished pairs (traffic.Up child number inner) = refl
outcome_finished pairs (traffic.Dummy child number) = refl
outcome_finished pairs (traffic.Clear octets) = refl
outcome_finished pairs traffic.Discarded = refl
outcome_finished pairs (traffic.Dropped fault) = refl

-- an output that tells an outcome tells it once both are finished
pub said_finished : (pairs : PairMap) (said : Output) (o : Outcome) → output_view said ≡ view_of_outcome o → output_view (finished_output pairs said) ≡ view_of_outcome (finished_outcome pairs o)
said_finished pairs said o is = view_of_finished pairs said ∙ ap (finished_view pairs) is ∙ sym (outcome_finished pairs o)

-- a table that stays as it is
pub senders_same : (old new : Database) → new ≡ old → KeepsSenders old.pairs new.pairs
senders_same old new is = record { each = λ serial. ap (λ (d : Database). sender_at d.pairs serial) is }

-- ---- ICVs that were computed ahead

if_found : (P : Precomputed → Type 0) (o : Option Precomputed) → ((found : Precomputed) → o ≡ Some found → P found) → IfSome o P
if_found P None each = tt
if_found P (Some x) each = each x refl

-- the packet at the place of an output
pub laid_here : (laid : List Output) (k : ℕ) (d o : Output) → k < length laid → get_or laid k d ≡ o → laid_at laid k ≡ octets_in o
laid_here laid k d o within is = ap octets_if (slice_get-get_or laid k d within) ∙ ap octets_in is

-- the value at an output's place is that of its packet
pub value_laid : (laid : List Output) (ahead : List (Option Precomputed)) (k : ℕ) (d o : Output) (value : Option Precomputed) → ArePrecomputed (laid_at laid) ahead → k < length laid
    → get_or laid k d ≡ o → value ≡ get_or ahead k None → IfSome value (IsPrecomputed (octets_in o))
value_laid laid ahead k d o value all within is there =
    if_found (IsPrecomputed (octets_in o)) value (λ found e. subst (λ (b : Octets). IsPrecomputed b found) (laid_here laid k d o within is) (all.each k found (sym there ∙ e)))

-- ---- loops

drop_one : (xs : List Output) (k : ℕ) → drop 1 (drop k xs) ≡ drop (k + 1) xs
drop_one xs k = drop-drop 1 k xs

-- the first of what is left
pub first_left : (laid before : List Output) (k : ℕ) (d : Output) → drop k laid ≡ drop k before → k < length laid → k < length before → get_or laid k d ≡ get_or before k d
first_left laid before k d rest h within = ap (λ (xs : List Output). get_or xs 0 d) (sym (drop_more laid k d h) ∙ rest ∙ drop_more before k d within)

-- one output more is finished, over something that stood in its place meanwhile
pub finished_more : (pairs : PairMap) (laid before : List Output) (k : ℕ) (x v d : Output) → length laid ≡ length before → k < length before
    → take k laid ≡ finished_outputs pairs (take k before) → v ≡ finished_output pairs (get_or before k d)
    → take (k + 1) (set (set laid k x) k v) ≡ finished_outputs pairs (take (k + 1) before)
finished_more pairs laid before k x v d long within so_far is =
    take_more_set (set laid k x) k v (omega (arith, length-set laid k x))
    ∙ ap (λ (xs : List Output). xs ++ v ∷ []) (take-set laid k x ∙ so_far)
    ∙ ap (λ (y : Output). finished_outputs pairs (take k before) ++ y ∷ []) is
    ∙ sym (map-append (finished_output pairs) (take k before) (get_or before k d ∷ []))
    ∙ sym (ap (finished_outputs pairs) (take_more before k d within))

pub left_still : (laid before : List Output) (k : ℕ) (x v : Output) → drop k laid ≡ drop k before → drop (k + 1) (set (set laid k x) k v) ≡ drop (k + 1) before
left_still laid before k x v rest =
    drop-set-lt (k + 1) (set laid k x) k v (omega arith)
    ∙ drop-set-lt (k + 1) laid k x (omega arith)
    ∙ sym (drop_one laid k)
    ∙ ap (drop 1) rest
    ∙ drop_one before k

-- what a vector holds of which all behind a place was lent and written over
lent_behind : (start len : ℕ) (items xs ys : List Output) → xs ≡ items → len ≡ length items → start ≤ length items → length ys ≡ length (take (length xs - start) (drop start xs))
    → take len (put_mid start (length xs - start) xs ys ++ drop (length (put_mid start (length xs - start) xs ys)) items) ≡ take start items ++ ys
lent_behind start len items xs ys e_xs e_len within e_size =
    let whole : List Output = put_mid start (length xs - start) xs ys in
    let n : ℕ = start + length ys in
    let long_xs : length xs ≡ length items = ap length e_xs in
    let long_ys : length ys ≡ length xs - start = e_size ∙ ap length (take_rest xs start) ∙ length-drop start xs in
    let written : whole ≡ take start xs ++ ys = sym (take-append-drop n whole)
    ∙ ap (λ (zs : List Output). zs ++ drop n whole) (take-put_mid start (length xs - start) xs ys n refl (omega arith))
    ∙ ap (λ (zs : List Output). (take start xs ++ ys) ++ zs) (drop-put_mid start (length xs - start) xs ys n (omega arith) (omega arith) long_ys ∙ drop_all n xs (omega arith))
    ∙ append-nil (take start xs ++ ys) in
    let front : length (take start xs) ≡ start = length-take-le start xs (omega arith) in
    let long : length whole ≡ length items = ap length written ∙ length-append (take start xs) ys ∙ omega arith in
    ap (λ (zs : List Output). take len (whole ++ zs)) (drop_all (length whole) items (omega arith))
    ∙ ap (take len) (append-nil whole)
    ∙ take_all len whole (omega arith)
    ∙ written
    ∙ ap (λ (zs : List Output). take start zs ++ ys) e_xs

-- outputs of which the last ones were lent and finished
pub finish_behind : (pairs : PairMap) (start len : ℕ) (items xs ys : List Output) → xs ≡ items → len ≡ length items → start ≤ length items
    → ys ≡ finished_outputs pairs (take (length xs - start) (drop start xs))
    → take len (put_mid start (length xs - start) xs ys ++ drop (length (put_mid start (length xs - start) xs ys)) items) ≡ finished_from start pairs items
finish_behind pairs start len items xs ys e_xs e_len within is =
    lent_behind start len items xs ys e_xs e_len within (ap length is ∙ length-map (take (length xs - start) (drop start xs)) (finished_output pairs))
    ∙ ap (λ (zs : List Output). take start items ++ zs) (is ∙ ap (finished_outputs pairs) (take_rest xs start ∙ ap (drop start) e_xs))

-- ---- one input more

-- a packet is laid
pub takes_laid : {C : Type 0} (meaning_of : C → Meaning) (given : Input) (old new : State C) (start : ℕ) (items after : List Output) (laid : Output)
    → after ≡ items ++ laid ∷ [] → KeepsSenders old.table.pairs new.table.pairs → start ≤ length items → IsSoundState old
    → Traces (meaning_of old.caller) given old (output_view (finished_output new.table.pairs laid)) no_trace new
    → TakesNext meaning_of given old (finished_from start old.table.pairs items) new (finished_from start new.table.pairs after)
takes_laid {C} meaning_of given old new start items after laid is keeps within sound traces = record {
  said = finished_output new.table.pairs laid;
  appended = ap (finished_from start new.table.pairs) is ∙ laid_more old.table.pairs new.table.pairs start items laid keeps within;
  steps = record { sound = sound; steps = record { trace = no_trace; traces = traces } };
}

-- another input is taken, after what was laid is finished
pub takes_other : {C : Type 0} (meaning_of : C → Meaning) (given : Input) (old new : State C) (start n : ℕ) (items finished after : List Output) (said : Output) (trace : Trace)
    → finished ≡ finished_from start old.table.pairs items → after ≡ finished ++ said ∷ [] → n ≡ length after → IsSoundState old
    → Traces (meaning_of old.caller) given old (output_view said) trace new
    → TakesNext meaning_of given old (finished_from start old.table.pairs items) new (finished_from n new.table.pairs after)
takes_other {C} meaning_of given old new start n items finished after said trace is_finished is_after count sound traces = record {
  said = said;
  appended = nothing_laid new.table.pairs after n count ∙ is_after ∙ ap (λ (xs : List Output). xs ++ said ∷ []) is_finished;
  steps = record { sound = sound; steps = record { trace = trace; traces = traces } };
}
