use Rattle.std.proofs.Common.{◌≡◌, ◌+◌, ◌-◌, ◌<◌, ◌≤◌, ◌∷◌, ◌++◌, ◌∙◌, [], ℕ, List, length, take, drop, set, get_or, arith, ap, refl, sym, subst}
use Rattle.std.proofs.lemmas.List.{drop-drop, get_or_default, take_all, take_more_set}
use Rattle.gateway.specs.Rows.{finished_row, octets_of}
use Rattle.gateway.specs.Runs.{Runs}
use Rattle.gateway.specs.declared.row.Span.{Span}
use Rattle.gateway.proofs.RowLemmas.{octets_more}
use Rattle.sukperin.specs.Lists.{LaysGroup, Sent, TakesOutAt, laid_behind}
use Rattle.sukperin.specs.declared.lists.SukPlace.{SukPlace}
use Rattle.sukperin.specs.declared.output.SukOutput.{SukOutput}
use Rattle.sukperin.proofs.ListLemmas.{run_next}
use Rattle.sukperin.proofs.SealLemmas.{begun}
use Rattle.sukperin.proofs.lists.lay_group.Goals as goal

pub loop-turn-init : goal.loop-turn-init
loop-turn-init c = record {
  runs = begun c.args.octets.now c.args.places.now c.args.outs.now c.args.gateway.now c.args.room.now c.args.used c.args.spans.now;
  begins = omega arith;
  whole = omega arith;
  fits = c.requires.within;
  behind = refl;
}

pub loop-turn-preserved : goal.loop-turn-preserved
loop-turn-preserved c =
    let i = c.loop-turn.invariant in
    let places = c.args.places.now in
    let room = c.loop-turn.room in
    let used = c.args.used in
    let end = c.loop-turn.end in
    let turn = c.loop-turn.turn in
    let there = c.loop-turn-test.true in
    let place : SukPlace = get_or places turn (record { offset = 0; length = 0 }) in
    let few = c.requires.few in
    let long : turn < length c.loop-turn.outs = omega arith in
    let wide : turn < length c.loop-turn.spans = omega arith in
    let same : length room ≡ length c.args.room.now = c.loop-turn.auto.room in
    let begins = i.begins in
    let next = c.lay_next-span.ensures used begins in
    let new = c.lay_next-span.new.gateway in
    let span : Span = c.lay_next-span.result in
    let filled = c.lay_next-span.new.room in
    let fits = next.fits in
    let spans : List Span = take turn c.loop-turn.spans in
    let more : take (turn + 1) (set c.loop-turn.spans turn span) ≡ spans ++ span ∷ [] = take_more_set c.loop-turn.spans turn span wide in
    let begin : Sent = record { gateway = c.args.gateway.now; octets = take used c.args.room.now } in
    let mid : Sent = record { gateway = c.loop-turn.gateway; octets = take used room ++ finished_row c.loop-turn.gateway.table.pairs spans (laid_behind used end room) } in
    let done : Sent = record { gateway = new; octets = take used filled ++ finished_row new.table.pairs (spans ++ span ∷ []) (laid_behind used (end + span.length) filled) } in
    let step = TakesOutAt c.args.octets.now (length c.args.room.now) in
    let taken : step place mid c.lay_next-span.new.out done =
    subst (λ (n : ℕ). TakesOutAt c.args.octets.now n place mid c.lay_next-span.new.out done) same (next.takes spans i.whole)
    in
    let runs = run_next step places c.loop-turn.outs begin mid done turn place c.lay_next-span.new.out there long
    (get_or_default places turn (record { offset = 0; length = 0 }) place there) i.runs taken
    in
    let counted = ap octets_of more ∙ octets_more spans span in
    let whole = i.whole in
    record {
      runs = subst (λ (ss : List Span). Runs step (take (turn + 1) places) (take (turn + 1) (set c.loop-turn.outs turn c.lay_next-span.new.out)) begin
          (record { gateway = new; octets = take used filled ++ finished_row new.table.pairs ss (laid_behind used (end + span.length) filled) })) (sym more) runs;
      begins = omega arith;
      whole = counted ∙ omega arith;
      fits = omega arith;
      behind =
          next.behind
          ∙ sym (drop-drop span.length end room)
          ∙ ap (drop span.length) i.behind
          ∙ drop-drop span.length end c.args.room.now;
    }

pub returns : goal.returns
returns c =
    let i = c.loop-turn.invariant in
    let places = c.args.places.now in
    let room = c.args.room.now in
    let filled = c.loop-turn.room in
    let used = c.args.used in
    let end = c.loop-turn.end in
    let outs = c.loop-turn.outs in
    let turn = c.loop-turn.turn in
    let state = c.loop-turn.gateway in
    let step = TakesOutAt c.args.octets.now (length room) in
    let old : Sent = record { gateway = c.args.gateway.now; octets = take used room } in
    let new : Sent = record { gateway = state; octets = take used filled ++ finished_row state.table.pairs (take turn c.loop-turn.spans) (laid_behind used end filled) } in
    let count : turn ≡ length places = omega arith in
    let all : take turn places ≡ places = take_all turn places (omega arith) in
    let each : take turn outs ≡ outs = take_all turn outs (omega arith) in
    subst (λ (n : ℕ). LaysGroup c.args.octets.now places used c.args.gateway.now room end state outs (take n c.loop-turn.spans) filled) count (record {
      runs = subst (λ (ps : List SukPlace). Runs step ps outs old new) all (subst (λ (os : List SukOutput). Runs step (take turn places) os old new) each i.runs);
      begins = i.begins;
      whole = i.whole;
      fits = i.fits;
      behind = i.behind;
    })
