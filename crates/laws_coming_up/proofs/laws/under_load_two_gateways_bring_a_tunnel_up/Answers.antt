use Rattle.effects.specs.Taking.{meaning_of}
use Rattle.laws_opening.specs.Beside.{next_child}
use Rattle.laws_coming_up.specs.ComingUpBeside.{meeting_by}
use Rattle.laws_coming_up.proofs.BesideLemmas.{in_exchange_under_load}
use Rattle.laws_coming_up.proofs.laws.under_load_two_gateways_bring_a_tunnel_up.Goals as goal

pub returns-clause-child : goal.returns-clause-child
returns-clause-child g c place entry asking delaying bringing answering reading shared p l b q r s t are meets has =
    let m = meaning_of g.C.Sealer g.C.Agreement g.C.Proof in
    let h = c.under_load_a_cookie_takes_one_round_more.ensures place entry asking delaying bringing answering reading shared p l b q r are.opens are.asking_drawn are.answering_drawn are.agrees in
    let d = meeting_by asking answering shared are.opens.again are.opens.response (next_child entry p.before) in
    record {
      opened = h;
      up = c.it_comes_up_beside_all_else.ensures.child d h.takes_up.auth s t (in_exchange_under_load m place entry asking delaying bringing answering reading shared p l b q r s t are h) meets has;
    }

pub returns-clause-childless : goal.returns-clause-childless
returns-clause-childless g c place entry asking delaying bringing answering reading shared p l b q r s t are cannot =
    let m = meaning_of g.C.Sealer g.C.Agreement g.C.Proof in
    let h = c.under_load_a_cookie_takes_one_round_more.ensures place entry asking delaying bringing answering reading shared p l b q r are.opens are.asking_drawn are.answering_drawn are.agrees in
    let d = meeting_by asking answering shared are.opens.again are.opens.response (next_child entry p.before) in
    record {
      opened = h;
      up = c.it_comes_up_beside_all_else.ensures.childless d h.takes_up.auth s t (in_exchange_under_load m place entry asking delaying bringing answering reading shared p l b q r s t are h) cannot;
    }

pub returns-clause-crowded : goal.returns-clause-crowded
returns-clause-crowded g c place entry asking delaying bringing answering reading shared p l b q r s t are meets takes =
    let m = meaning_of g.C.Sealer g.C.Agreement g.C.Proof in
    let h = c.under_load_a_cookie_takes_one_round_more.ensures place entry asking delaying bringing answering reading shared p l b q r are.opens are.asking_drawn are.answering_drawn are.agrees in
    let d = meeting_by asking answering shared are.opens.again are.opens.response (next_child entry p.before) in
    record {
      opened = h;
      up = c.it_comes_up_beside_all_else.ensures.crowded d h.takes_up.auth s t (in_exchange_under_load m place entry asking delaying bringing answering reading shared p l b q r s t are h) meets takes;
    }
