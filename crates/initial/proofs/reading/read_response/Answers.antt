use Rattle.std.proofs.Common.{◌≡◌, ap, inl, refl, subst, sym, ◌∙◌}
use Rattle.std.specs.Option.{option_copied}
use Rattle.base.specs.Octets.{Octets}
use Rattle.suite.specs.declared.key_record.KeyRecord.{KeyRecord}
use Rattle.exchange.specs.Headers.{keys_of}
use Rattle.exchange.specs.Sealed.{IsSealed}
use Rattle.requests.specs.Outgoing.{number_0_answered}
use Rattle.association.specs.declared.phase.Association.{Association}
use Rattle.association.specs.declared.phase.Phase.TheVariants as phase
use Rattle.setup.specs.Configs.{setup_of}
use Rattle.sa_init.specs.Reading.{IsResponse}
use Rattle.sa_init.specs.declared.response.Response.TheVariants as response
use Rattle.association.specs.declared.purpose.Purpose.TheVariants.{Identify}
use Rattle.association.specs.Issuing.{new_request, IssuesNext}
use Rattle.initial.specs.Reading.{identity_message, telling, waiting_of}
use Rattle.initial.proofs.ReadingLemmas.{keys_fit}
use Rattle.initial.proofs.reading.read_response.Goals as goal

pub returns-in-Ok-Unfit-clause-read : goal.returns-in-Ok-Unfit-clause-read
returns-in-Ok-Unfit-clause-read g c =
    let sent = c.in-InitSent.sent in
    let m = c.args.message.now in
    let read = subst (λ w. IsResponse g.C.Sealer.cipher g.C.Agreement.group_number g.C.Agreement.shared_secret w m c.in-Ok-Unfit.field-0) c.waiting-waiting.ensures c.in-Ok-Unfit.ensures.read in
    inl (record {
      sent = sent;
      was = c.in-InitSent.is;
      response = response.Unfit;
      means = subst (λ r. IsResponse g.C.Sealer.cipher g.C.Agreement.group_number g.C.Agreement.shared_secret (waiting_of c.args.association.now.spi_i sent) m r) c.in-Ok-Unfit.field-0-is read;
      continues = refl;
    })

pub returns-in_ok-outgoing-in-Ok-Keys-clause-read : goal.returns-in_ok-outgoing-in-Ok-Keys-clause-read
returns-in_ok-outgoing-in-Ok-Keys-clause-read g c =
    let sent = c.in-InitSent.sent in
    let m = c.args.message.now in
    let old : Association = c.args.association.now in
    let new : Association = c.tell.new.association in
    let keys : KeyRecord = c.in-Ok-Keys.keys in
    let read = subst (λ w. IsResponse g.C.Sealer.cipher g.C.Agreement.group_number g.C.Agreement.shared_secret w m c.in-Ok-Keys.field-0) c.waiting-waiting.ensures c.in-Ok-Keys.ensures.read in
    let next : Octets = c.in_ok-next-in-Ok-Keys.next in
    let kept : c.in_ok-kept-in-Ok-Keys.kept ≡ next = c.in_ok-kept-in-Ok-Keys.ensures ∙ c.as_slice-in-Ok-Keys.ensures in
    let request : c.new_request.result ≡ new_request next Identify c.args.setup.now.moment = c.new_request.ensures ∙ ap (λ o. new_request o Identify c.args.setup.now.moment) kept in
    let outgoing : c.in_ok-outgoing-in-Ok-Keys.outgoing ≡ new.outgoing = sym (ap (λ (a : Association). a.outgoing) c.tell.ensures) in
    let phase : telling keys c.in_ok-response-in-Ok-Keys.response old.phase ≡ phase.AuthSent (record { keys = keys; first = c.args.octets.now; child = sent.child }) =
    ap (telling keys c.in_ok-response-in-Ok-Keys.response) c.in-InitSent.is
    ∙ ap (λ f. phase.AuthSent (record { keys = keys; first = f; child = sent.child })) c.in_ok-response-in-Ok-Keys.ensures in
    inl (record {
      sent = sent;
      was = c.in-InitSent.is;
      response = response.Keys keys;
      means = subst (λ r. IsResponse g.C.Sealer.cipher g.C.Agreement.group_number g.C.Agreement.shared_secret (waiting_of old.spi_i sent) m r) c.in-Ok-Keys.field-0-is read;
      continues = record {
        request = c.unwrap-first.result.now;
        outstanding = sym c.get.ensures ∙ ap option_copied c.unwrap-first.ensures;
        sealed = subst (λ f. IsSealed g.C.Sealer.body_of (keys_of old.role keys) c.args.setup.now.fresh.now.seal
            (identity_message (g.C.Proof.own_method c.args.setup.now.caller.now) (g.C.Proof.proof_of c.args.setup.now.caller.now) (setup_of c.args.setup.now) old sent m.header.spi_r keys f) next)
            c.as_slice.ensures c.in_ok-next-in-Ok-Keys.ensures;
        issued = subst (λ o. IssuesNext number_0_answered (new_request next Identify c.args.setup.now.moment) o) outgoing
            (subst (λ r. IssuesNext number_0_answered r c.in_ok-outgoing-in-Ok-Keys.outgoing) request
            (subst (λ old. IssuesNext old c.new_request.result c.in_ok-outgoing-in-Ok-Keys.outgoing) c.after_initial.ensures c.in_ok-outgoing-in-Ok-Keys.ensures));
        content = c.tell.ensures ∙ (λ i. record old { spi_r = m.header.spi_r; outgoing = outgoing i; phase = phase i });
      };
    })

pub returns-in_err-next-in-Ok-Keys-clause-early : goal.returns-in_err-next-in-Ok-Keys-clause-early
returns-in_err-next-in-Ok-Keys-clause-early g c = λ unfit.
    absurd (keys_fit g.C.Sealer.cipher g.C.Agreement.group_number g.C.Agreement.shared_secret c.args.association.now c.in-InitSent.sent _ c.args.message.now c.in-Ok-Keys.field-0 c.in-Ok-Keys.keys
    c.in-InitSent.is c.in-Ok-Keys.field-0-is c.in-Ok-Keys.ensures.read unfit)

pub returns-in_err-kept-in-Ok-Keys-clause-early : goal.returns-in_err-kept-in-Ok-Keys-clause-early
returns-in_err-kept-in-Ok-Keys-clause-early g c = λ unfit.
    absurd (keys_fit g.C.Sealer.cipher g.C.Agreement.group_number g.C.Agreement.shared_secret c.args.association.now c.in-InitSent.sent _ c.args.message.now c.in-Ok-Keys.field-0 c.in-Ok-Keys.keys
    c.in-InitSent.is c.in-Ok-Keys.field-0-is c.in-Ok-Keys.ensures.read unfit)

pub returns-in_err-response-in-Ok-Keys-clause-early : goal.returns-in_err-response-in-Ok-Keys-clause-early
returns-in_err-response-in-Ok-Keys-clause-early g c = λ unfit.
    absurd (keys_fit g.C.Sealer.cipher g.C.Agreement.group_number g.C.Agreement.shared_secret c.args.association.now c.in-InitSent.sent _ c.args.message.now c.in-Ok-Keys.field-0 c.in-Ok-Keys.keys
    c.in-InitSent.is c.in-Ok-Keys.field-0-is c.in-Ok-Keys.ensures.read unfit)

pub returns-in_err-outgoing-in-Ok-Keys-clause-early : goal.returns-in_err-outgoing-in-Ok-Keys-clause-early
returns-in_err-outgoing-in-Ok-Keys-clause-early g c = λ unfit.
    absurd (keys_fit g.C.Sealer.cipher g.C.Agreement.group_number g.C.Agreement.shared_secret c.args.association.now c.in-InitSent.sent _ c.args.message.now c.in-Ok-Keys.field-0 c.in-Ok-Keys.keys
    c.in-InitSent.is c.in-Ok-Keys.field-0-is c.in-Ok-Keys.ensures.read unfit)
