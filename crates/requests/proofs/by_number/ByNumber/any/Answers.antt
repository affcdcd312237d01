use Rattle.std.proofs.Common.{◌∙◌, ◌<◌, ℕ, sym, ap, subst, refl, arith, true, false, inl, inr, length}
use Rattle.std.proofs.lemmas.Bool.Decides.{eqb_tells}
use Rattle.std.proofs.lemmas.Fn.{says_at}
use Rattle.std.specs.Fn.{FnReturnsAt}
use Rattle.std.specs.FinMap as map
use Rattle.std.specs.List.{slice_index_or}
use Rattle.requests.specs.Outgoing.{SomeOutstanding, NoneOutstanding}
use Rattle.requests.specs.Storage.{Held, StandOnce}
use Rattle.requests.proofs.EntryLemmas.{tested, same_entry}
use Rattle.requests.proofs.by_number.ByNumber.any.Goals as goal

pub returns-then-test : goal.returns-then-test
returns-then-test g c =
    let xs = c.deref-entry-items.result.now in
    let shown = ap map.from_entries c.deref-entry-items.ensures.value ∙ ap (λ (h : Held _). h.items) c.self.view_is in
    let once = subst StandOnce (sym c.deref-entry-items.ensures.value) c.self.invariant in
    let inside : c.loop-entry.entry-index < length xs = omega arith in
    let says : FnReturnsAt g.F.Fn c.args.test c.entry-item.result.1 c.test.result = says_at g.F.Fn c.test.ensures refl in
    let passes : FnReturnsAt g.F.Fn c.args.test c.entry-item.result.1 true = subst (FnReturnsAt g.F.Fn c.args.test c.entry-item.result.1) c.if-test.true says in
    subst (λ m. SomeOutstanding m (FnReturnsAt g.F.Fn c.args.test)) shown
    (tested xs (FnReturnsAt g.F.Fn c.args.test) true once (
      c.loop-entry.entry-index,
      inside,
      λ d.
          subst (λ e. FnReturnsAt g.F.Fn c.args.test e.1 true) (c.entry-item.is ∙ same_entry xs c.loop-entry.entry-index c.entry-item.result d inside) passes,
    ))

pub loop-entry-preserved : goal.loop-entry-preserved
loop-entry-preserved g c =
    let xs = c.deref-entry-items.result.now in
    let inside : c.loop-entry.entry-index < length xs = omega arith in
    let says : FnReturnsAt g.F.Fn c.args.test c.entry-item.result.1 c.test.result = says_at g.F.Fn c.test.ensures refl in
    let fails : FnReturnsAt g.F.Fn c.args.test c.entry-item.result.1 false = subst (FnReturnsAt g.F.Fn c.args.test c.entry-item.result.1) c.if-test.false says in
    λ k d low below. elim (eqb_tells k c.loop-entry.entry-index) [
      | inl (_, same) ↦
          subst (λ e. FnReturnsAt g.F.Fn c.args.test e.1 false)
          (c.entry-item.is ∙ same_entry xs c.loop-entry.entry-index c.entry-item.result d inside ∙ ap (λ (i : ℕ). slice_index_or xs i d) (sym same)) fails
      | inr (_, apart) ↦ c.loop-entry.invariant k d low (omega arith)
    ]

pub returns : goal.returns
returns g c =
    let xs = c.deref-entry-items.result.now in
    let shown = ap map.from_entries c.deref-entry-items.ensures.value ∙ ap (λ (h : Held _). h.items) c.self.view_is in
    let once = subst StandOnce (sym c.deref-entry-items.ensures.value) c.self.invariant in
    subst (λ m. NoneOutstanding m (FnReturnsAt g.F.Fn c.args.test)) shown
    (tested xs (FnReturnsAt g.F.Fn c.args.test) false once (λ k d low below. c.loop-entry.invariant k d low (omega arith)))
