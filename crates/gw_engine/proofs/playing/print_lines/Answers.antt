use Rattle.std.proofs.Common.{rules, ◌≡◌, ℕ, ◌+◌, get_or, slice_get, Some, List, [], ◌∷◌, ◌++◌, Err, refl, sym, ap, subst, ◌∙◌, arith}
use Rattle.std.proofs.lemmas.List.{length-append}
use Rattle.std.proofs.KnownBytes.{Appends-trans}
use Rattle.std.specs.Io.KnownBytes.{Appends}
use Rattle.std.specs.String.{string_bytes}
use Rattle.gw_script.specs.declared.lines.Line.{Line}
use Rattle.gw_engine.specs.Printing.{whole_text, Prints, StopsAt}
use Rattle.gw_engine.specs.Ends.{stop_of_line}
use Rattle.gw_engine.specs.declared.stop.Stop.TheVariants as stop
use Rattle.gw_engine.proofs.SayingLemmas.{at_place, ends_at, one_more, whole_with}
use Rattle.gw_engine.proofs.playing.print_lines.Goals as goal

abbrev nothing : Line
nothing = record { number = 0; text = record { ref_ptr = (0, 0); now = [] } }

pub loop-line-preserved : goal.loop-line-preserved
loop-line-preserved g c =
    let before = c.loop-line.invariant in
    let lines = c.args.lines.now in
    let text = string_bytes c.in-Ok.text in
    let is : c.as_bytes.result.now ≡ text = search rules in
    let old = g.W.Write.contents c.args.writer.now in
    let between = g.W.Write.contents c.loop-line.writer in
    let new = g.W.Write.contents c.write_whole.new.writer in
    let more : Appends between new text = subst (λ (t : List ℕ). Appends between new t) is c.in_ok-write_whole-in-Ok.ensures.whole in
    record {
      texts = before.texts ++ text ∷ [];
      count_is = length-append before.texts (text ∷ []) ∙ ap (λ (n : ℕ). n + 1) before.count_is;
      in_turn = one_more g.P.Player.says c.args.player.now lines before.texts c.loop-line.player nothing text c.play.new.self before.in_turn
          (omega (arith, before.count_is, c.loop-line-test.true))
          (subst (λ (k : ℕ). g.P.Player.says c.loop-line.player (get_or lines k nothing).text.now text c.play.new.self) (sym before.count_is) c.in-Ok.ensures.said);
      written = subst (λ (t : List ℕ). Appends old new t) (sym (whole_with before.texts text)) (Appends-trans old between new (whole_text before.texts) text before.written more);
    }

pub returns-in_err-write_whole-in-Ok : goal.returns-in_err-write_whole-in-Ok
returns-in_err-write_whole-in-Ok g c =
    let before = c.loop-line.invariant in
    let lines = c.args.lines.now in
    let text = string_bytes c.in-Ok.text in
    let is : c.as_bytes.result.now ≡ text = search rules in
    let old = g.W.Write.contents c.args.writer.now in
    let between = g.W.Write.contents c.loop-line.writer in
    let new = g.W.Write.contents c.write_whole.new.writer in
    let part = c.in_err-write_whole-in-Ok.ensures.beginning in
    let stopped : c.from_residual.result ≡ Err stop.Output = search rules in
    subst (λ r. Prints g.P.Player.says g.P.Player.refuses c.args.player.now c.play.new.self lines r old new) (sym stopped)
    (record {
      texts = before.texts ++ text ∷ [];
      last = c.play.new.self;
      in_turn = one_more g.P.Player.says c.args.player.now lines before.texts c.loop-line.player nothing text c.play.new.self before.in_turn
          (omega (arith, before.count_is, c.loop-line-test.true))
          (subst (λ (k : ℕ). g.P.Player.says c.loop-line.player (get_or lines k nothing).text.now text c.play.new.self) (sym before.count_is) c.in-Ok.ensures.said);
      ends = record {
        before = before.texts;
        written = part.written;
        left = part.left;
        some = part.some;
        texts_are = ap (λ (t : List ℕ). before.texts ++ t ∷ []) (sym is ∙ part.parts);
        machine = refl;
        appended = Appends-trans old between new (whole_text before.texts) part.written before.written part.appended;
      };
    })

pub returns-in-Err : goal.returns-in-Err
returns-in-Err g c =
    let before = c.loop-line.invariant in
    let lines = c.args.lines.now in
    let index = c.loop-line.line-index in
    let line = get_or lines index nothing in
    let why = c.in-Err.fault in
    let old = g.W.Write.contents c.args.writer.now in
    let new = g.W.Write.contents c.loop-line.writer in
    let stopped : c.stop_of_line.result ≡ stop_of_line line.number why = c.stop_of_line.ensures in
    let stops : StopsAt g.P.Player.refuses lines before.texts c.loop-line.player c.play.new.self why old new = record {
      line = line;
      there = subst (λ (k : ℕ). slice_get lines k ≡ Some line) (sym before.count_is) (at_place lines index nothing (omega (arith, c.loop-line-test.true)));
      refused = c.in-Err.ensures.refused;
      appended = before.written;
    } in
    subst (λ s. Prints g.P.Player.says g.P.Player.refuses c.args.player.now c.play.new.self lines (Err s) old new) (sym stopped)
    (record {
      texts = before.texts;
      last = c.loop-line.player;
      in_turn = before.in_turn;
      ends = ends_at g.P.Player.refuses lines before.texts c.loop-line.player c.play.new.self why old new stops;
    })
