-- Lists of packets whose ICVs were computed ahead.
use Rattle.std.proofs.Common.{◌≡◌, ◌+◌, ◌<◌, ◌≤◌, ℕ, suc, List, [], ◌∷◌, ◌++◌, length, map, take, drop, set, arith, get_or, refl, sym, ap, ◌∙◌, subst, inl, inr, Option, Some, None, append_assoc, length-drop, length-set}
use Rattle.std.proofs.Math.Seq.{take-add}
use Rattle.std.specs.Prelude.{IfSome}
use Rattle.std.proofs.lemmas.Bool.{cases_lt}
use Rattle.std.proofs.lemmas.List.{drop-drop, drop_at, get_or-map, get_or_default, get_or-set_other, get_or-set_same, length-map, length-take-le, take_at, take_more, take_more_set}
use Rattle.std.proofs.lemmas.Option.{slice_get-get_or}
use Rattle.base.specs.Octets.{Octets}
use Rattle.esp.specs.Precomputed.{ArePrecomputed, IsPrecomputed}
use Rattle.esp.specs.declared.precomputed.Precomputed.{Precomputed}
use Rattle.gateway.specs.Groups.{packet_if, packet_in, packets_in}
use Rattle.gateway.specs.Inputs as view
use Rattle.gateway.specs.Inputs.{input_view}
use Rattle.gateway.specs.Runs.{Runs}
use Rattle.gateway.specs.declared.input.Input.{Input}
use borrow.Rule.Slice.PartMut.{put_mid}
use Rattle.sukperin.specs.Lists.{AreInputsAt, AreValuesAt, LiesIn, OpensAll, RunsOver, packet_at}
use Rattle.sukperin.specs.declared.end.End.{End}
use Rattle.sukperin.specs.declared.end.End.TheVariants.{Gateway, Receiver, Sender}
use Rattle.sukperin.specs.declared.hosted.Hosted.{Hosted}
use Rattle.sukperin.specs.declared.lists.SukPlace.{SukPlace}
use Rattle.sukperin.specs.declared.output.SukOutput.{SukOutput}

-- ---- what was computed ahead

if_found : (P : Precomputed → Type 0) (o : Option Precomputed) → ((found : Precomputed) → o ≡ Some found → P found) → IfSome o P
if_found P None each = tt
if_found P (Some x) each = each x refl

packet_of : (inputs : List Input) (k : ℕ) (d : Input) → k < length inputs → packets_in (map input_view inputs) k ≡ packet_in (input_view (get_or inputs k d))
packet_of inputs k d within =
    ap packet_if (slice_get-get_or (map input_view inputs) k (input_view (get_or inputs k d)) (omega (arith, length-map inputs input_view)))
    ∙ ap packet_in (get_or-map input_view inputs k d (input_view (get_or inputs k d)) within)

-- values that were computed from inputs are those of the packets at their places
pub values_at_places : (octets : Octets) (places : List SukPlace) (inputs : List Input) (values : List (Option Precomputed)) → AreInputsAt octets places (length places) inputs
    → ArePrecomputed (packets_in (map input_view inputs)) values → AreValuesAt octets places values
values_at_places octets places inputs values inputs_are all = record {
  each = λ k place found within is there lies. subst (λ (b : Octets). IsPrecomputed b found) (inputs_are.each k place within is lies) (all.each k found there);
}

-- the ICV at a place is that of the packet there
pub value_at_place : (octets : Octets) (places : List SukPlace) (values : List (Option Precomputed)) (k : ℕ) (place : SukPlace) (value : Option Precomputed)
    → AreValuesAt octets places values → k < length places → place ≡ get_or places k place → value ≡ get_or values k None → LiesIn octets place
    → IfSome value (IsPrecomputed (packet_at octets place))
value_at_place octets places values k place value all within is there lies =
    if_found (IsPrecomputed (packet_at octets place)) value (λ found e. all.each k place found within is (sym there ∙ e) lies)

-- one input more
pub input_more : (octets : Octets) (places : List SukPlace) (inputs : List Input) (turn : ℕ) (place : SukPlace) (v : Input)
    → turn < length inputs → turn < length places → place ≡ get_or places turn place → (LiesIn octets place → input_view v ≡ view.Esp (packet_at octets place))
    → AreInputsAt octets places turn inputs → AreInputsAt octets places (turn + 1) (set inputs turn v)
input_more octets places inputs turn place v within there is here before = record {
  each = λ k other below at lies.
      let long : length (set inputs turn v) ≡ length inputs = length-set inputs turn v in
      let found = packet_of (set inputs turn v) k v (omega arith) in
      elim (cases_lt k turn) [
        | inl less ↦
            let apart : k ≡ turn → ⊥ = λ e. omega arith in
            found
            ∙ ap (λ (i : Input). packet_in (input_view i)) (get_or-set_other inputs turn k v v apart)
            ∙ sym (packet_of inputs k v (omega arith))
            ∙ before.each k other less at lies
        | inr more ↦
            let same : k ≡ turn = omega arith in
            let one : get_or (set inputs turn v) k v ≡ v = ap (λ (n : ℕ). get_or (set inputs turn v) n v) same ∙ get_or-set_same inputs turn v v within in
            let this : other ≡ place = at ∙ ap (λ (n : ℕ). get_or places n other) same ∙ get_or_default places turn other place there ∙ sym is in
            found
            ∙ ap (λ (i : Input). packet_in (input_view i)) one
            ∙ ap packet_in (here (subst (LiesIn octets) this lies))
            ∙ ap (packet_at octets) (sym this)
      ];
}

-- ---- runs

run_more : {I O S : Type 0} (step : I → S → O → S → Type 0) (old : S) (is : List I) (os : List O) (mid : S) (i : I) (o : O) (new : S)
    → Runs step is os old mid → step i mid o new → Runs step (is ++ i ∷ []) (os ++ o ∷ []) old new
run_more {I} {O} {S} step old [] [] mid i o new run taken = (new, subst (λ (s : S). step i s o new) run taken, refl)
run_more {I} {O} {S} step old (x ∷ is) (y ∷ os) mid i o new run taken = (run.0, run.1, run_more step run.0 is os mid i o new run.2 taken)
run_more {I} {O} {S} step old [] (y ∷ os) mid i o new run taken = absurd run
run_more {I} {O} {S} step old (x ∷ is) [] mid i o new run taken = absurd run

runs_joined : {I O S : Type 0} (step : I → S → O → S → Type 0) (is : List I) (os : List O) (js : List I) (ps : List O) (old mid new : S)
    → Runs step is os old mid → Runs step js ps mid new → Runs step (is ++ js) (os ++ ps) old new
runs_joined {I} {O} {S} step [] [] js ps old mid new first second = subst (λ (s : S). Runs step js ps s new) first second
runs_joined {I} {O} {S} step (i ∷ is) (o ∷ os) js ps old mid new first second = (first.0, first.1, runs_joined step is os js ps first.0 mid new first.2 second)
runs_joined {I} {O} {S} step [] (o ∷ os) js ps old mid new first second = absurd first
runs_joined {I} {O} {S} step (i ∷ is) [] js ps old mid new first second = absurd first

runs_long : {I O S : Type 0} (step : I → S → O → S → Type 0) (is : List I) (os : List O) (old new : S) → Runs step is os old new → length os ≡ length is
runs_long {I} {O} {S} step [] [] old new run = refl
runs_long {I} {O} {S} step (i ∷ is) (o ∷ os) old new run = ap suc (runs_long step is os run.0 new run.2)
runs_long {I} {O} {S} step [] (o ∷ os) old new run = absurd run
runs_long {I} {O} {S} step (i ∷ is) [] old new run = absurd run

-- one step more, whose record is written
pub run_next : {S : Type 0} (step : SukPlace → S → SukOutput → S → Type 0) (places : List SukPlace) (outs : List SukOutput) (old mid new : S) (turn : ℕ) (place : SukPlace) (told : SukOutput)
    → turn < length places → turn < length outs → place ≡ get_or places turn place → Runs step (take turn places) (take turn outs) old mid → step place mid told new
    → Runs step (take (turn + 1) places) (take (turn + 1) (set outs turn told)) old new
run_next {S} step places outs old mid new turn place told within long is run taken =
    let next : take (turn + 1) places ≡ take turn places ++ place ∷ [] = take_more places turn place within ∙ ap (λ (x : SukPlace). take turn places ++ x ∷ []) (sym is) in
    let records : take (turn + 1) (set outs turn told) ≡ take turn outs ++ told ∷ [] = take_more_set outs turn told long in
    subst (λ (is : List SukPlace). Runs step is (take (turn + 1) (set outs turn told)) old new) (sym next)
    (subst (λ (os : List SukOutput). Runs step (take turn places ++ place ∷ []) os old new) (sym records) (run_more step old (take turn places) (take turn outs) mid place told new run taken))

-- nothing so far
pub none_over : {S : Type 0} (step : SukPlace → S → SukOutput → S → Type 0) (places : List SukPlace) (old : S) (before : List SukOutput) → RunsOver step (take 0 places) old before old before
none_over {S} step places old before = record { told = []; runs = refl; records = refl }

-- one group more
pub group_over : {S : Type 0} (step : SukPlace → S → SukOutput → S → Type 0) (places : List SukPlace) (old mid new : S) (before between part : List SukOutput) (at size : ℕ)
    → at + size ≤ length places → RunsOver step (take at places) old before mid between → Runs step (take size (drop at places)) part mid new
    → RunsOver step (take (at + size) places) old before new (put_mid at size between part)
group_over {S} step places old mid new before between part at size within first second =
    let one : length (take at places) ≡ at = length-take-le at places (omega arith) in
    let two : length (take size (drop at places)) ≡ size = length-take-le size (drop at places) (omega (arith, length-drop at places)) in
    let both : length (take (at + size) places) ≡ at + size = length-take-le (at + size) places within in
    let long : length first.told ≡ at = runs_long step (take at places) first.told old mid first.runs ∙ one in
    let last : length part ≡ size = runs_long step (take size (drop at places)) part mid new second ∙ two in
    let were : between ≡ first.told ++ drop at before = first.records ∙ ap (λ (n : ℕ). first.told ++ drop n before) one in
    let front : take at between ≡ first.told = ap (take at) were ∙ take_at first.told (drop at before) at long in
    let rest : drop at between ≡ drop at before = ap (drop at) were ∙ drop_at first.told (drop at before) at long in
    record {
      told = first.told ++ part;
      runs = subst (λ (is : List SukPlace). Runs step is (first.told ++ part) old new) (sym (take-add at size places)) (runs_joined step (take at places) first.told (take size (drop at places)) part old mid new first.runs second);
      records =
          ap (λ (xs : List SukOutput). xs ++ (part ++ drop size (drop at between))) front
          ∙ ap (λ (xs : List SukOutput). first.told ++ (part ++ drop size xs)) rest
          ∙ sym (append_assoc first.told part (drop size (drop at before)))
          ∙ ap (λ (xs : List SukOutput). (first.told ++ part) ++ xs) (drop-drop size at before ∙ ap (λ (n : ℕ). drop n before) (sym both));
    }

-- ---- what a call answers

-- an end that is no gateway
pub opens_nothing : (octets : Octets) (places : List SukPlace) (end : End) (code : ℕ) (told : List SukOutput) → ((hosted : Hosted) → end ≡ Gateway hosted → ⊥) → code ≡ 101
    → OpensAll octets places (Some end) code (Some end) told told
opens_nothing octets places (Sender end) code told other is = (is, refl, refl)
opens_nothing octets places (Receiver end) code told other is = (is, refl, refl)
opens_nothing octets places (Gateway hosted) code told other is = absurd (other hosted refl)

-- no end
pub opens_none : (octets : Octets) (places : List SukPlace) (state after : Option End) (code : ℕ) (told : List SukOutput) → state ≡ None → after ≡ None → code ≡ 101
    → OpensAll octets places state code after told told
opens_none octets places state after code told none left is =
    subst (λ (s : Option End). OpensAll octets places s code after told told) (sym none) (is, left, refl)

-- an end that is put back
pub opens_of : (octets : Octets) (places : List SukPlace) (state after : Option End) (end new : End) (code : ℕ) (before told : List SukOutput) → state ≡ Some end → after ≡ Some new
    → OpensAll octets places (Some end) code (Some new) before told → OpensAll octets places state code after before told
opens_of octets places state after end new code before told was is done =
    subst (λ (s : Option End). OpensAll octets places s code after before told) (sym was)
    (subst (λ (s : Option End). OpensAll octets places (Some end) code s before told) (sym is) done)
