use Rattle.std.proofs.Common.{subst, ◌∙◌}
use Rattle.requests.specs.Incoming.{TakesRequest}
use Rattle.initial.specs.Concluding.{ConcludesBy}
use Rattle.association.specs.Issuing.{with_incoming}
use Rattle.setup.specs.Configs.{setup_of}
use Rattle.initial.proofs.answering.answer_auth.Goals as goal

pub returns-clause-answered : goal.returns-clause-answered
returns-clause-answered g c =
    record {
      opened = c.in-HalfOpen.half_open;
      was = c.in-HalfOpen.is;
      decision = c.in_ok-decision.decision;
      decided = c.in_ok-decision.ensures.decided;
      sealed = c.in_ok-reply.ensures.sealed;
      incoming = c.take.new.self;
      ready = c.prepare.new.self;
      prepared = c.prepare.ensures.content;
      taken = subst (λ reply. TakesRequest c.prepare.new.self c.args.number reply c.take.new.self) (c.in_ok-kept.ensures ∙ c.as_slice.ensures) c.take.ensures;
      between = c.decide.new.table;
      room = c.decide.ensures.table;
      concluded =
          subst (λ o. ConcludesBy (setup_of c.args.setup.now) (with_incoming c.args.association.now c.take.new.self) c.decide.new.table o c.conclude-fate.result c.conclude-fate.new.association c.conclude-fate.new.table)
          c.in_ok-reply.ensures.outcome c.conclude-fate.ensures;
    }
