use Rattle.std.proofs.Common.{List, Option, Some, ℕ, ◌<◌, ◌≡◌, ◌∙◌, ap, get_or, length, refl, subst, sym}
use Rattle.std.specs.Prelude.{map, slice_get}
use Rattle.flows.specs.declared.memory.Answer.{Answer}
use Rattle.flows.specs.declared.memory.Note.{Note}
use Rattle.flows.specs.Memory.{answer_in, IsInPlace}
use Rattle.flows.proofs.MemoryLemmas.{nothing_past, one_note, recalled, Shows, shows_in_place}
use Rattle.flows.proofs.memory.FlowMemory.recalled.Goals as goal

pub returns-in_err-note-clause-found : goal.returns-in_err-note-clause-found
returns-in_err-note-clause-found c = λ treatment is.
    absurd (nothing_past c.self.inside.epoch c.self.inside.places.items c.deref.result.now c.args.self.now (record { flow = c.args.flow.now; treatment = treatment }) c.place_of.result
    c.deref.ensures.value c.self.view_is c.place_of.ensures.is c.in_err-note.ensures.lookup.0 is)

pub returns-in-Some-clause-right : goal.returns-in-Some-clause-right
returns-in-Some-clause-right c =
    subst (λ (memory : List (Option Answer)). IsInPlace memory (record { flow = c.args.flow.now; treatment = c.in-Some.note.answer.treatment })) c.self.view_is
    (subst (λ (place : ℕ). slice_get (map (answer_in c.self.inside.epoch) c.self.inside.places.items) place ≡ Some (Some (record { flow = c.args.flow.now; treatment = c.in-Some.note.answer.treatment }))) c.place_of.ensures.is
    (recalled c.self.inside.epoch c.self.inside.places.items c.place_of.result c.in_ok-note.field-0.now c.in-Some.note c.args.flow.now
    (subst (λ (places : List (Option Note)). c.place_of.result < length places) c.deref.ensures.value c.in_ok-note.ensures.lookup.3.0)
    (subst (λ (places : List (Option Note)). c.in_ok-note.field-0.now ≡ get_or places c.place_of.result c.in_ok-note.field-0.now) c.deref.ensures.value c.in_ok-note.ensures.lookup.1)
    c.in-Some.is c.if-note-self.true (c.if-is_same.ensures.0 refl)))

pub returns-in-Some-clause-found : goal.returns-in-Some-clause-found
returns-in-Some-clause-found c = λ treatment is.
    (let shown = shows_in_place c.self.inside.epoch c.self.inside.places.items c.deref.result.now c.args.self.now c.args.flow.now treatment c.place_of.result c.in_ok-note.field-0.now
    c.deref.ensures.value c.self.view_is c.place_of.ensures.is c.in_ok-note.ensures.lookup.3.0 c.in_ok-note.ensures.lookup.1 is in
    let same_note : shown.note ≡ c.in-Some.note = one_note shown.note c.in-Some.note (sym shown.is ∙ c.in-Some.is) in
    ap Some (ap (λ (n : Note). n.answer.treatment) (sym same_note) ∙ ap (λ (a : Answer). a.treatment) shown.same))

pub returns-in_default-clause-found : goal.returns-in_default-clause-found
returns-in_default-clause-found c = λ treatment is.
    (let shown = shows_in_place c.self.inside.epoch c.self.inside.places.items c.deref.result.now c.args.self.now c.args.flow.now treatment c.place_of.result c.in_ok-note.field-0.now
    c.deref.ensures.value c.self.view_is c.place_of.ensures.is c.in_ok-note.ensures.lookup.3.0 c.in_ok-note.ensures.lookup.1 is in
    let same_note : shown.note ≡ c.in-Some.note = one_note shown.note c.in-Some.note (sym shown.is ∙ c.in-Some.is) in
    let same_flow : c.in-Some.note.answer.flow ≡ c.args.flow.now = ap (λ (n : Note). n.answer.flow) (sym same_note) ∙ ap (λ (a : Answer). a.flow) shown.same in
    let is_true = c.is_same.ensures.1 same_flow in
    let is_false = c.if-is_same.false in
    absurd cc)
