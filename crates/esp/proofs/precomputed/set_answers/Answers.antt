use Rattle.std.proofs.Common.{rules, ◌∙◌, ℕ, List, [], get_or, refl, sym, ap, subst}
use Rattle.std.proofs.lemmas.List.{get_or-map}
use Rattle.esp.specs.declared.precomputed.Precomputed.{Precomputed}
use Rattle.esp.specs.Precomputed.{IsAskedIn, value_of_asked}
use Rattle.esp.proofs.PrecomputedLemmas.{precomputed_at, precomputed_more}
use Rattle.esp.proofs.precomputed.set_answers.Goals as goal

pub loop-turn-init : goal.loop-turn-init
loop-turn-init c = record { right = λ packets questions asked all before. before; long = refl }

pub loop-turn-preserved : goal.loop-turn-preserved
loop-turn-preserved c =
    let i = c.loop-turn.invariant in
    let one = c.index-asked-turn.result in
    let is = c.index-asked-turn.is in
    let h = c.loop-turn-test.true in
    let found = c.answered.result in
    let made = c.answered.ensures in
    record {
      right = λ packets questions asked all before. (
          let here : IsAskedIn questions one = subst (IsAskedIn questions) (sym is) (all c.loop-turn.turn one h) in
          let within = c.requires.places c.loop-turn.turn one h in
          precomputed_more packets c.loop-turn.answers one.place found (search rules) (i.right packets questions asked all before)
          (precomputed_at (packets one.place) one.question.now found (asked.each one.place one.question.now here.there)
          (ap (λ (x : Precomputed). x.key) made)
          (ap (λ (x : Precomputed). x.extended) made)
          (ap (λ (x : Precomputed). x.number) made)
          (ap (λ (x : Precomputed). x.value) made
          ∙ ap (λ (vs : List (List ℕ)). get_or vs c.loop-turn.turn []) c.requires.right
          ∙ get_or-map value_of_asked c.args.asked.now c.loop-turn.turn one [] h
          ∙ ap value_of_asked (sym is)))
          );
      long = search rules;
    }
