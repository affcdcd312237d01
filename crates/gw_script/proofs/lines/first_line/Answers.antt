use Rattle.std.proofs.Common.{rules, ◌≡◌, ◌==◌, ℕ, ◌<◌, ◌∙◌, List, [], ◌∷◌, length, Option, Some, None, Bor, arith, ap, unwrap_or}
use Rattle.std.proofs.lemmas.Iterator.{YieldsList}
use Rattle.std.proofs.lemmas.Iterator.Splits.{YieldsList-from_slice_split}
use Rattle.std.proofs.lemmas.List.Splits.{length-slice_split}
use Rattle.gw_script.specs.Lines.{first_of, lines_of}
use Rattle.gw_script.proofs.lines.first_line.Goals as goal

first_is : {S : Type 0} (steps : S → Option (Bor (List ℕ)) → S → Type 0) (s t : S) (r : Option (Bor (List ℕ))) (d : Bor (List ℕ)) (all : List (List ℕ))
    → 0 < length all → steps s r t → YieldsList steps (λ x. x.now) s all → (unwrap_or r d).now ≡ first_of all
first_is steps s t r d [] some step road = absurd (omega arith)
first_is steps s t None d (line ∷ lines) some step road = absurd (road.runs.0 t step)
first_is steps s t (Some x) d (line ∷ lines) some step road = (road.runs.1 x t step).0

pub returns : goal.returns
returns c =
    let lines : List (List ℕ) = lines_of c.args.script.now in
    let some : 0 < length lines = omega (arith, length-slice_split (λ octet. octet == 10) c.args.script.now) in
    ap (λ x. x.now) c.unwrap_or.ensures
    ∙ first_is _ c.split.result c.next.new.self c.next.result _ lines some c.next.ensures.steps
    (YieldsList-from_slice_split _ (λ octet. octet == 10) c.args.script.now c.split.ensures.rest c.split.ensures.done c.split.ensures.closure (λ x r q k. search (rules, k)))
