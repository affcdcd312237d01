use Rattle.std.proofs.Common.{◌≡◌, subst, [], ◌∙◌}
use Rattle.base.specs.Octets.{Octets}
use Rattle.wire.specs.Numbers.{INFORMATIONAL}
use Rattle.wire.specs.declared.message.Message.{Message}
use Rattle.exchange.specs.Headers.{keys_of}
use Rattle.exchange.specs.Sealed.{IsSealed}
use Rattle.association.specs.declared.phase.Association.{Association}
use Rattle.association.specs.declared.purpose.Purpose.{Purpose}
use Rattle.association.specs.Issuing.{new_request, IssuesNext}
use Rattle.association.specs.Sending.{request_message}
use Rattle.informational.specs.Ordering.{payloads_of_order, purpose_of}
use Rattle.informational.proofs.asking.ask.Goals as goal

pub returns-clause-asked : goal.returns-clause-asked
returns-clause-asked g c =
    let a : Association = c.args.association.now in
    let keys = keys_of a.role c.in-Established.keys in
    let seal : Octets = c.args.setup.now.fresh.now.seal in
    let octets : Octets = c.in_ok-octets.octets in
    let made : Message = record { header = c.sent_header.result; payloads = c.in_ok-payloads.payloads } in
    let said : Message = request_message a INFORMATIONAL c.in_ok-number.number (payloads_of_order c.args.order) in
    let same : made ≡ said = (λ i. record { header = c.sent_header.ensures i; payloads = c.in_ok-payloads.ensures.payloads i }) in
    let sealed : IsSealed g.C.Sealer.body_of keys seal said octets = subst (λ (m : Message). IsSealed g.C.Sealer.body_of keys seal m octets) same c.in_ok-octets.ensures in
    record {
      keys = c.in-Established.keys;
      established = c.in-Established.is;
      not_deleting = c.in_ok-number.ensures.not_deleting;
      sealed = subst (λ n. IsSealed g.C.Sealer.body_of keys seal (request_message a INFORMATIONAL n (payloads_of_order c.args.order)) octets) c.in_ok-number.ensures.number sealed;
      outgoing = c.issue.new.association.outgoing;
      issued = subst (λ (o : Octets). IssuesNext a.outgoing (new_request o (purpose_of c.args.order) c.args.setup.now.moment) c.issue.new.association.outgoing)
          (c.in_ok-kept.ensures ∙ c.as_slice.ensures)
          (subst (λ (p : Purpose). IssuesNext a.outgoing (new_request c.in_ok-kept.kept p c.args.setup.now.moment) c.issue.new.association.outgoing) c.purpose.ensures c.in_ok-issue.ensures.issued);
      content = c.in_ok-issue.ensures.content;
    }
