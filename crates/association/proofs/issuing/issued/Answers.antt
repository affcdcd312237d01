use Rattle.std.proofs.Common.{ap, subst, ◌∙◌}
use Rattle.requests.specs.Outgoing.{IssuesRequest, OwnRequests}
use Rattle.association.specs.declared.phase.Request.{Request}
use Rattle.association.proofs.issuing.issued.Goals as goal

-- Making room changes no Message ID.
pub returns-in-Ok : goal.returns-in-Ok
returns-in-Ok c =
    record {
      ready = c.prepare.new.self;
      prepared = c.prepare.ensures.content;
      issued = subst (λ n. IssuesRequest {T = Request} c.prepare.new.self c.args.request n c.issue.new.self)
          (c.issue.ensures.least ∙ ap (λ (r : OwnRequests Request). r.next) c.prepare.ensures.content.content) c.issue.ensures;
    }
