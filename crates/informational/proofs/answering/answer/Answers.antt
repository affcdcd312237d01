use Rattle.std.proofs.Common.{ap, subst, ◌∙◌}
use Rattle.wire.specs.Numbers.{INFORMATIONAL}
use Rattle.exchange.specs.Headers.{keys_of}
use Rattle.exchange.specs.Sealed.{IsSealed}
use Rattle.requests.specs.Incoming.{TakesRequest}
use Rattle.sadb.specs.Database.{Database}
use Rattle.association.specs.Outcomes.{childless}
use Rattle.association.specs.declared.phase.Association.{Association}
use Rattle.association.specs.Sending.{reply_message}
use Rattle.association.specs.Issuing.{with_incoming}
use Rattle.deletions.specs.Answering.{payloads_of_verdict}
use Rattle.deletions.specs.Deciding.{is_closing_verdict}
use Rattle.deletions.specs.declared.deciding.Verdict.{Verdict}
use Rattle.informational.specs.Answering.{gone_by}
use Rattle.informational.specs.Orders.{ClosesIf}
use Rattle.informational.proofs.answering.answer.Goals as goal

pub returns-clause-answered : goal.returns-clause-answered
returns-clause-answered g c =
    let a : Association = c.args.association.now in
    let table : Database = c.args.table.now in
    let verdict = c.in_ok-verdict.ensures.verdict in
    record {
      keys = c.in-Established.keys;
      established = c.in-Established.is;
      payloads = verdict.payloads;
      read = verdict.read;
      sealed = subst (λ (v : Verdict). IsSealed g.C.Sealer.body_of (keys_of a.role c.in-Established.keys) c.args.setup.now.fresh.now.seal
          (reply_message a INFORMATIONAL c.args.number (payloads_of_verdict v)) c.in_ok-octets.octets) verdict.due c.in_ok-octets.ensures;
      incoming = c.take.new.self;
      ready = c.prepare.new.self;
      prepared = c.prepare.ensures.content;
      taken = subst (λ reply. TakesRequest c.prepare.new.self c.args.number reply c.take.new.self) (c.in_ok-kept.ensures ∙ c.as_slice.ensures) c.take.ensures;
      fate = c.childless.ensures ∙ ap childless (c.is_closing-closed.ensures ∙ ap is_closing_verdict verdict.due);
      concluded = subst (λ (v : Verdict). ClosesIf (is_closing_verdict v) (gone_by v) (with_incoming a c.take.new.self) table c.args.setup.now.moment c.conclude.new.association c.conclude.new.table) verdict.due c.conclude.ensures;
    }
