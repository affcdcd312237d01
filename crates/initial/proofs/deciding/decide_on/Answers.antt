use Rattle.std.proofs.Common.{ap, subst, sym, ◌∙◌}
use Rattle.exchange.specs.declared.headers.Role.TheVariants.{Initiator}
use Rattle.auth.specs.Proofs.{proving_of}
use Rattle.auth.specs.Requests.{judgement_view, IsAcceptedRequest, IsAuthJudgement, asked_view}
use Rattle.auth.specs.Windows.{IsWindow}
use Rattle.initial.specs.Deciding.{peer_proving}
use Rattle.initial.proofs.deciding.decide_on.Goals as goal

-- What was accepted stands in the payloads, which were read.
pub respond_to-requires : goal.respond_to-requires
respond_to-requires g c =
    let payloads = c.args.payloads.now in
    let offer = c.in-Accepted.asked.offer in
    let peer = c.peer.result.now.identity in
    let accepts = g.C.Proof.accepts c.args.setup.now.caller.now in
    let accepted : IsAcceptedRequest accepts peer (peer_proving c.args.half_open.now) payloads (asked_view c.in-Accepted.asked) =
    subst (λ j. IsAuthJudgement accepts peer (peer_proving c.args.half_open.now) payloads (judgement_view j)) c.in-Accepted.is
    (subst (λ w. IsAuthJudgement accepts peer w payloads (judgement_view c.in_ok-notice.field-0)) (c.of-proving.ensures ∙ ap (λ f. proving_of Initiator c.args.half_open.now.keys f) c.as_slice.ensures) c.in_ok-notice.ensures.judged) in
    record {
      fits = record {
        proposals = c.what_counts_fits.ensures.sa payloads offer.proposals.now c.requires.fits accepted.sa;
        ts_i = c.what_counts_fits.ensures.ts_i payloads offer.ts_i.now c.requires.fits accepted.ts_i;
        ts_r = c.what_counts_fits.ensures.ts_r payloads offer.ts_r.now c.requires.fits accepted.ts_r;
      };
    }

pub returns-in_ok-respond_to-in-Accepted-clause-fits : goal.returns-in_ok-respond_to-in-Accepted-clause-fits
returns-in_ok-respond_to-in-Accepted-clause-fits g c =
    let payloads = c.args.payloads.now in
    let peer = c.peer.result.now.identity in
    let accepts = g.C.Proof.accepts c.args.setup.now.caller.now in
    let accepted : IsAcceptedRequest accepts peer (peer_proving c.args.half_open.now) payloads (asked_view c.in-Accepted.asked) =
    subst (λ j. IsAuthJudgement accepts peer (peer_proving c.args.half_open.now) payloads (judgement_view j)) c.in-Accepted.is
    (subst (λ w. IsAuthJudgement accepts peer w payloads (judgement_view c.in_ok-notice.field-0)) (c.of-proving.ensures ∙ ap (λ f. proving_of Initiator c.args.half_open.now.keys f) c.as_slice.ensures) c.in_ok-notice.ensures.judged) in
    (c.in_ok-respond_to-in-Accepted.ensures.fits, subst IsWindow (sym accepted.told) (c.windows_are_read_again.ensures.bounds payloads))
