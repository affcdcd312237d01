use Rattle.std.proofs.Common.{refl, rules, subst, sym}
use Rattle.setup.specs.Configs.{setup_of}
use Rattle.sa_init.specs.Judging.{Accepted, Answered, offer_view}
use Rattle.sa_init.specs.declared.judging.Sender.{Sender}
use Rattle.effects.specs.Taking.{meaning_of}
use Rattle.ike.specs.Receiving.{RefusesNew, SaysNotice, WantsNew}
use Rattle.ike.specs.declared.fault.IkeFault.{IkeFault}
use Rattle.ike.proofs.AskingLemmas.{err_and}
use Rattle.ike.proofs.receiving.take_new.Goals as goal

pub returns-in_ok-decline-in-Answered-clause-taken : goal.returns-in_ok-decline-in-Answered-clause-taken
returns-in_ok-decline-in-Answered-clause-taken g c =
    record { judgement = Answered c.in-Answered.notice; judged = search rules; done = (subst (λ (s : Sender). SaysNotice s.spi_i c.in-Answered.notice c.in_ok-decline-in-Answered.field-0) c.sender-sender.ensures c.in_ok-decline-in-Answered.ensures, refl) }

pub returns-in_err-decline-in-Answered-clause-refused : goal.returns-in_err-decline-in-Answered-clause-refused
returns-in_err-decline-in-Answered-clause-refused g c =
    let d = c.args.datagram.now in
    let meaning = meaning_of g.C.Sealer g.C.Agreement g.C.Proof c.args.setup.now.caller.now in
    let wants : WantsNew meaning c.args.cookies.now d.from d.message c.args.held.now =
    record { judgement = Answered c.in-Answered.notice; judged = search rules; wants = tt } in
    err_and c.from_residual.result _ _ c.from_residual.ensures.1 (λ e is. (
      subst (λ (f : IkeFault). RefusesNew meaning (setup_of c.args.setup.now) c.args.cookies.now d.from d.message c.args.held.now f) (sym is) (refl, wants),
      refl,
    ))

pub returns-in_ok-take_offer-in-Accepted-clause-taken : goal.returns-in_ok-take_offer-in-Accepted-clause-taken
returns-in_ok-take_offer-in-Accepted-clause-taken g c =
    record { judgement = Accepted (offer_view c.in-Accepted.offer); judged = search rules; done = c.in_ok-take_offer-in-Accepted.ensures.taken }
