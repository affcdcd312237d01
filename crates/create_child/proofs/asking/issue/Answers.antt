use Rattle.std.proofs.Common.{ap, refl, subst, ◌∙◌}
use Rattle.requests.specs.Outgoing.{IssuesRequest, OwnRequests}
use Rattle.association.specs.declared.phase.Request.{Request}
use Rattle.association.specs.declared.purpose.FurtherChild.{FurtherChild}
use Rattle.association.specs.declared.purpose.Purpose.TheVariants.{CreateChild}
use Rattle.association.specs.Issuing.{new_request}
use Rattle.create_child.proofs.asking.issue.Goals as goal

-- Making room changes no Message ID.
pub returns-in-Ok-clause-issued : goal.returns-in-Ok-clause-issued
returns-in-Ok-clause-issued c = record {
  spi = c.reserve.result;
  reserved = c.reserve.ensures;
  issued = record {
    ready = c.prepare.new.self;
    prepared = c.prepare.ensures.content;
    issued = subst (λ (r : Request). IssuesRequest c.prepare.new.self r c.args.association.now.outgoing.next c.issue.new.self)
        (c.new_request.ensures ∙ ap (λ (k : FurtherChild). new_request c.args.octets (CreateChild k) c.args.moment) c.further_child.ensures)
        (subst (λ n. IssuesRequest {T = Request} c.prepare.new.self c.new_request.result n c.issue.new.self)
        (c.issue.ensures.least ∙ ap (λ (r : OwnRequests Request). r.next) c.prepare.ensures.content.content) c.issue.ensures);
  };
  content = refl;
}
