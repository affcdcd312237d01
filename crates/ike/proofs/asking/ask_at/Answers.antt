use Rattle.std.proofs.Common.{◌<◌, List, ap, length, refl, subst, sym, slice_set, ◌∙◌}
use Rattle.std.proofs.lemmas.Option.{slice_get_read}
use Rattle.association.specs.declared.phase.Association.{Association}
use Rattle.association.specs.Ordering.{RefusesOrder}
use Rattle.ike.specs.Machines.{Held}
use Rattle.ike.proofs.AskingLemmas.{err_and}
use Rattle.ike.proofs.QuietLemmas.{put_back}
use Rattle.ike.proofs.WantLemmas.{read_there}
use Rattle.ike.proofs.asking.ask_at.Goals as goal

pub returns-in_err-issued-clause-refused : goal.returns-in_err-issued-clause-refused
returns-in_err-issued-clause-refused g c =
    let items = c.held.inside.associations.items in
    let within : c.args.place < length items = subst (λ (h : Held). c.args.place < length h.associations) (sym c.held.view_is) c.requires.within in
    err_and c.from_residual.result _ _ c.from_residual.ensures.1 (λ e is. (
      record {
        association = c.index_mut-association.result.now;
        there = read_there c.held.inside.next items c.args.held.now c.args.place c.index_mut-association.result.now c.held.view_is c.requires.within c.index_mut-association.ensures.value;
        refuses = subst (λ f. RefusesOrder c.index_mut-association.result.now f) (sym is) c.in_err-issued.ensures.refused.0;
      },
      ap (λ (xs : List Association). record { next = c.held.inside.next; associations = xs })
          (put_back items c.args.place c.index_mut-association.result.now c.ask.new.association
          (slice_get_read items (length items) c.args.place c.index_mut-association.result.now refl within c.index_mut-association.ensures.value) c.in_err-issued.ensures.refused.1)
          ∙ c.held.view_is,
      c.in_err-issued.ensures.refused.2,
    ))

pub returns-clause-asked : goal.returns-clause-asked
returns-clause-asked g c =
    let items = c.held.inside.associations.items in
    record {
      association = c.index_mut-association.result.now;
      there = read_there c.held.inside.next items c.args.held.now c.args.place c.index_mut-association.result.now c.held.view_is c.requires.within c.index_mut-association.ensures.value;
      changed = c.ask.new.association;
      asks = c.in_ok-issued.ensures.asked;
      number = c.in_ok-issued.ensures.number;
      content = ap (λ (h : Held). record { next = h.next; associations = slice_set h.associations c.args.place c.ask.new.association }) c.held.view_is;
      marked = c.in_ok-issued.ensures.marked;
    }
