use Rattle.std.proofs.Common.{◌≡◌, ℕ, ◌-◌, List, ◌++◌, length, take, drop, sym, ap, ◌∙◌, append_assoc, take-append-drop}
use Rattle.std.proofs.lemmas.List.{take_rest}
use Rattle.std.proofs.KnownBytes.{Appends-trans, Appends-kept}
use Rattle.gw_console.proofs.output.write_whole.Goals as goal
use Rattle.gw_console.proofs.output.write_whole.Goals.{in-Ok, in-Err}

moves_front : (all written left : List ℕ) (n : ℕ) → all ≡ written ++ left → all ≡ (written ++ take n left) ++ take (length left - n) (drop n left)
moves_front all written left n e =
    e ∙ ap (λ l. written ++ l) (sym (take-append-drop n left)) ∙ sym (append_assoc written (take n left) (drop n left)) ∙ ap (λ l. (written ++ take n left) ++ l) (sym (take_rest left n))

pub loop-preserved : goal.loop-preserved
loop-preserved g c =
    let (written, parts, appended) = c.loop.invariant in
    let left = c.loop.rest.now in
    elim c.match-write.branch [
      | in-Ok w ↦
          let count = w.in-Ok.count in (
            written ++ take count left,
            moves_front _ written left count parts ∙ ap (λ l. (written ++ take count left) ++ l) (sym (ap (λ r. r.now) w.rest-is)),
            Appends-trans _ _ _ written _ appended w.in-Ok.ensures.bytes,
          )
      | in-Err w ↦
          (written, parts ∙ ap (λ l. written ++ l) (sym (ap (λ r. r.now) w.rest-is)), Appends-kept _ _ _ written appended w.in-Err.ensures.bytes)
    ]
