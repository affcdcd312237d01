use Rattle.std.proofs.Common.{◌≡◌, ◌+◌, ℕ, Bool, ap, subst, sym, ◌∙◌}
use Rattle.base.specs.Octets.{Octets}
use Rattle.base.specs.declared.selector.Selector.{Selector}
use Rattle.wire.specs.Numbers.{CREATE_CHILD_SA}
use Rattle.exchange.specs.Headers.{keys_of}
use Rattle.exchange.specs.Sealed.{IsSealed}
use Rattle.sadb.specs.Database.{Database}
use Rattle.association.specs.declared.phase.Association.{Association}
use Rattle.association.specs.declared.purpose.Purpose.TheVariants.{CreateChild}
use Rattle.children.specs.Asking.{child_request}
use Rattle.setup.specs.Configs.{setup_of, Setup}
use Rattle.association.specs.Issuing.{new_request, IssuesNext}
use Rattle.association.specs.Sending.{request_message}
use Rattle.further.specs.Payloads.{further_payloads}
use Rattle.create_child.specs.Asking.{wanted}
use Rattle.create_child.specs.Readying.{kept_child}
use Rattle.create_child.proofs.asking.ask.Goals as goal

pub returns-clause-asked : goal.returns-clause-asked
returns-clause-asked g c =
    let a : Association = c.args.association.now in
    let setup : Setup = setup_of c.args.setup.now in
    let local : Selector = c.args.local.now in
    let remote : Selector = c.args.remote.now in
    let issued = c.in_ok-issue.ensures.issued in
    let same : issued.spi ≡ c.in_ok-spi.spi = issued.reserved.in_order ∙ ap (λ (d : Database). d.start + d.given) c.prepare.ensures.content.content ∙ sym c.in_ok-spi.ensures.next in
    record {
      keys = c.in-Established.keys;
      established = c.in-Established.is;
      not_deleting = c.in_ok-number.ensures.allowed.not_deleting;
      not_full = c.in_ok-spi.ensures.left.0;
      not_spent = c.in_ok-spi.ensures.left.1;
      between = c.prepare.new.table;
      room = c.prepare.ensures.content;
      spi = issued.spi;
      reserved = issued.reserved;
      sealed = subst (λ (x : Bool). IsSealed g.C.Sealer.body_of (keys_of a.role c.in-Established.keys) setup.fresh.seal
          (request_message a CREATE_CHILD_SA a.outgoing.next (further_payloads (child_request (record { spi = issued.spi; local = local; remote = remote; extended = x })) setup.fresh.nonce)) c.in_ok-octets.octets) c.extended.ensures
          (subst (λ (s : ℕ). IsSealed g.C.Sealer.body_of (keys_of a.role c.in-Established.keys) setup.fresh.seal
          (request_message a CREATE_CHILD_SA a.outgoing.next (further_payloads (child_request (record { spi = s; local = local; remote = remote; extended = c.extended.result })) setup.fresh.nonce)) c.in_ok-octets.octets) (sym same)
          (subst (λ (n : ℕ). IsSealed g.C.Sealer.body_of (keys_of a.role c.in-Established.keys) setup.fresh.seal
          (request_message a CREATE_CHILD_SA n (further_payloads (child_request (record { spi = c.in_ok-spi.spi; local = local; remote = remote; extended = c.extended.result })) setup.fresh.nonce)) c.in_ok-octets.octets)
          c.in_ok-number.ensures.number c.in_ok-octets.ensures));
      outgoing = c.issue.new.association.outgoing;
      issued = subst (λ (o : Octets). IssuesNext a.outgoing (new_request o (CreateChild (wanted setup issued.spi local remote)) setup.moment) c.issue.new.association.outgoing) (c.in_ok-kept.ensures ∙ c.as_slice.ensures)
          (subst (λ (x : Bool). IssuesNext a.outgoing (new_request c.in_ok-kept.kept (CreateChild (kept_child issued.spi (record { spi = c.in_ok-spi.spi; local = local; remote = remote; extended = x }) setup.fresh.nonce)) setup.moment) c.issue.new.association.outgoing)
          c.extended.ensures issued.issued);
      content = issued.content;
    }
