use Rattle.std.proofs.Common.{ap, refl, sym, ◌∙◌}
use Rattle.std.specs.List.{position}
use Rattle.ike.specs.Machines.{has_serial}
use Rattle.ike.specs.Outputs.{asking_step}
use Rattle.ike.proofs.AskingLemmas.{err_and, none_of, refused_none, refused_order}
use Rattle.ike.proofs.asking.ask_by.Goals as goal

pub returns-in_default-clause-refused : goal.returns-in_default-clause-refused
returns-in_default-clause-refused g c =
    (refused_none c.args.ike c.args.held.now _ (sym (ap (position (has_serial c.args.ike)) c.associations.ensures) ∙ sym c.place_of.ensures ∙ none_of c.place_of.result c.in_default.not-Some) refl, refl, refl)

pub returns-in_err-number-clause-refused : goal.returns-in_err-number-clause-refused
returns-in_err-number-clause-refused g c =
    err_and c.from_residual.result _ _ c.from_residual.ensures.1 (λ e is. (
      refused_order c.args.ike c.in-Some.place c.args.held.now c.in_err-number.field-0.0 e (sym (ap (position (has_serial c.args.ike)) c.associations.ensures) ∙ sym c.place_of.ensures ∙ c.in-Some.is) c.in_err-number.ensures.refused.0 is,
      c.in_err-number.ensures.refused.1,
      c.in_err-number.ensures.refused.2,
    ))

pub returns-clause-asked : goal.returns-clause-asked
returns-clause-asked g c =
    let there = c.in_ok-number.ensures.asked in
    record {
      asks = record {
        place = c.in-Some.place;
        first = sym (ap (position (has_serial c.args.ike)) c.associations.ensures) ∙ sym c.place_of.ensures ∙ c.in-Some.is;
        association = there.association;
        there = there.there;
        octets = c.in_ok-number.field-0.octets;
        changed = there.changed;
        sends = c.orders_send_requests.ensures.ordered _ _ c.args.order there.association c.in_ok-number.field-0.octets there.changed there.asks;
        said = c.asking.ensures ∙ ap (λ n. asking_step c.args.ike n c.in_ok-number.field-0.octets) there.number;
        content = there.content;
      };
      ordered = there.asks;
      marked = there.marked;
    }
