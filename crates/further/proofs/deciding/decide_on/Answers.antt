use Rattle.std.proofs.Common.{subst}
use Rattle.further.specs.Judging.{further_request_view, judgement_view, AsksFor, IsFurtherJudgement}
use Rattle.further.specs.declared.judging.Judgement.{Judgement}
use Rattle.further.proofs.deciding.decide_on.Goals as goal

-- What is asked for stands in the payloads, which were read.
pub respond_to-requires : goal.respond_to-requires
respond_to-requires g c =
    let payloads = c.args.payloads.now in
    let offer = c.in-Asked.request.offer in
    let asks : AsksFor payloads c.args.deleting (further_request_view c.in-Asked.request) =
    subst (λ (j : Judgement). IsFurtherJudgement payloads c.args.deleting (judgement_view j)) c.in-Asked.is c.judge.ensures in
    record {
      fits = record {
        proposals = c.what_counts_fits.ensures.sa payloads offer.proposals.now c.requires.fits asks.sa;
        ts_i = c.what_counts_fits.ensures.ts_i payloads offer.ts_i.now c.requires.fits asks.ts_i;
        ts_r = c.what_counts_fits.ensures.ts_r payloads offer.ts_r.now c.requires.fits asks.ts_r;
      };
    }
