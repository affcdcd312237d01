use Rattle.std.proofs.Common.{◌≡◌, ℕ, List, ap, inl, inr, map, refl, sym, ◌∙◌}
use Rattle.gw_script.specs.declared.lines.Line.{Line}
use Rattle.gw_script.specs.Kinds.{word_of}
use Rattle.gw_script.specs.Lines.{directives_of, first_of, lines_of, told_by}
use Rattle.gw_engine.proofs.playing.play_script.Goals as goal

pub returns-in-Some-One-clause-plays : goal.returns-in-Some-One-clause-plays
returns-in-Some-One-clause-plays g c =
    let octets = c.in_ok-script.script.items in
    let named = ap (λ (s : List ℕ). first_of (lines_of s)) (sym c.deref-2.ensures.value) ∙ sym c.first_line.ensures ∙ c.in-Some-One.ensures ∙ ap word_of c.in-Some-One.field-0-is in
    let lines_are : map told_by c.deref-in-Some-One.result.now ≡ directives_of octets =
    ap (λ (ls : List Line). map told_by ls) c.deref-in-Some-One.ensures.value ∙ c.in_ok-lines.ensures ∙ ap directives_of c.deref.ensures.value in
    inl (
      record {
        lines = c.deref-in-Some-One.result.now;
        script = record { script = octets; whole = c.in_ok-script.ensures; named = named; lines_are = lines_are };
        status = c.play_lines.result;
        code_is = refl;
        plays = c.play_lines.ensures.plays;
      },
      refl,
    )

pub returns-in-Some-Two-clause-plays : goal.returns-in-Some-Two-clause-plays
returns-in-Some-Two-clause-plays g c =
    let octets = c.in_ok-script.script.items in
    let named = ap (λ (s : List ℕ). first_of (lines_of s)) (sym c.deref-2.ensures.value) ∙ sym c.first_line.ensures ∙ c.in-Some-Two.ensures ∙ ap word_of c.in-Some-Two.field-0-is in
    let lines_are : map told_by c.deref-in-Some-Two.result.now ≡ directives_of octets =
    ap (λ (ls : List Line). map told_by ls) c.deref-in-Some-Two.ensures.value ∙ c.in_ok-lines.ensures ∙ ap directives_of c.deref.ensures.value in
    inr (
      record {
        lines = c.deref-in-Some-Two.result.now;
        script = record { script = octets; whole = c.in_ok-script.ensures; named = named; lines_are = lines_are };
        status = c.play_lines-in-Some-Two.result;
        code_is = refl;
        plays = c.play_lines-in-Some-Two.ensures.plays;
      },
      refl,
    )
