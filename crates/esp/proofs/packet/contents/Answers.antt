use Rattle.std.proofs.Common.{◌≡◌, ℕ, ◌-◌, length, get_or, sym, ap, ◌∙◌, arith}
use Rattle.esp.proofs.ContentsLemmas.{contents_padded, sliced_contents, sliced_padding}
use Rattle.esp.proofs.packet.contents.Goals as goal
use Rattle.esp.proofs.packet.contents.Goals.{else-pad-end-via-then-pad-end+else-is_padding, else-pad-end-via-else-pad-end}

pub returns-then-is_padding-clause-found : goal.returns-then-is_padding-clause-found
returns-then-is_padding-clause-found c =
    let b = c.args.packet.now in
    (omega arith, sliced_contents b (length b - 16 - 2) c.from-pad.result (omega arith) (omega arith) c.from-pad.ensures (c.is_padding.ensures.0 c.if-is_padding.true))

pub returns-else-pad-end-clause-none : goal.returns-else-pad-end-clause-none
returns-else-pad-end-clause-none c = λ next payload has.
    let b = c.args.packet.now in
    let p = contents_padded b next payload has in
    elim c.else-pad-end.branch [
      | else-pad-end-via-then-pad-end+else-is_padding w ↦
          let padded = w.is_padding.ensures.1 (sliced_padding b (length b - 16 - 2) c.from-pad.result (omega arith) (omega arith) c.from-pad.ensures p) in
          absurd (let no = w.if-is_padding.false in cc)
      | else-pad-end-via-else-pad-end w ↦
          let over = w.if-pad-end.false in
          let place : length b - 18 ≡ length b - 16 - 2 = omega arith in
          let same : c.from-pad.result ≡ p.pad = c.from-pad.ensures ∙ ap (λ (n : ℕ). get_or b n 0) (sym place) ∙ p.at_pad in
          let room = p.room in
          omega arith
    ]
