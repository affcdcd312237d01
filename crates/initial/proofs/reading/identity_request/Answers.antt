use Rattle.std.proofs.Common.{◌≡◌, IfOk, subst}
use Rattle.wire.specs.declared.message.Message.{Message}
use Rattle.exchange.specs.Headers.{keys_of}
use Rattle.exchange.specs.Sealed.{IsSealed}
use Rattle.setup.specs.Configs.{setup_of}
use Rattle.initial.specs.Reading.{identity_message}
use Rattle.initial.proofs.reading.identity_request.Goals as goal

pub returns : goal.returns
returns g c =
    let a = c.args.association.now in
    let made : Message = record { header = c.sent_header.result; payloads = c.in_ok-payloads.payloads } in
    let said : Message = identity_message (g.C.Proof.own_method c.args.setup.now.caller.now) (g.C.Proof.proof_of c.args.setup.now.caller.now) (setup_of c.args.setup.now) a c.args.sent.now c.args.spi_r c.args.keys.now c.args.first.now in
    let same : made ≡ said = (λ i. record { header = c.sent_header.ensures i; payloads = c.in_ok-payloads.ensures.payloads i }) in
    subst (λ m. IfOk c.sealed_message.result (IsSealed g.C.Sealer.body_of (keys_of a.role c.args.keys.now) c.args.setup.now.fresh.now.seal m)) same c.sealed_message.ensures
