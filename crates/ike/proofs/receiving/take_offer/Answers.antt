use Rattle.std.proofs.Common.{◌≡◌, MatchOption, None, ap, inr, rules, subst, ◌∙◌}
use Rattle.base.specs.Octets.{Octets}
use Rattle.wire.specs.declared.message.Header.{Header}
use Rattle.sa_init.specs.Judging.{offer_view}
use Rattle.association.specs.Admitting.{Admits}
use Rattle.ike.specs.Outputs.{half_open_step}
use Rattle.ike.proofs.receiving.take_offer.Goals as goal

pub returns-in_ok-hold_admitted-in-Some-2-clause-taken : goal.returns-in_ok-hold_admitted-in-Some-2-clause-taken
returns-in_ok-hold_admitted-in-Some-2-clause-taken g c =
    let fresh = c.args.setup.now.fresh.now in
    let offer = offer_view c.args.offer.now in
    let made = Admits g.C.Sealer.cipher g.C.Agreement.group_number g.C.Agreement.public_value g.C.Agreement.shared_secret fresh c.args.setup.now.moment in
    record {
      can = record { serial = c.in-Some.ensures.1; usable = search rules };
      done = inr (record {
        admitted = c.in-Some-2.admitted;
        admits = subst (λ (x : Octets). made c.args.held.now.next offer c.args.datagram.now.message.header.spi_i x c.in-Some-2.admitted) c.octets.ensures
            (subst (λ (h : Header). made c.args.held.now.next offer h.spi_i c.octets.result.now c.in-Some-2.admitted) c.header.ensures
            (subst (λ n. made n offer c.header.result.now.spi_i c.octets.result.now c.in-Some-2.admitted) c.in-Some.ensures.0
            (subst (λ o. MatchOption o (g.C.Agreement.shared_secret fresh.secret c.args.offer.now.public.now ≡ None) (made c.in-Some.serial offer c.header.result.now.spi_i c.octets.result.now)) c.in-Some-2.is c.in_ok-admitted.ensures)));
        said = c.in_ok-hold_admitted-in-Some-2.ensures.held.0 ∙ ap (λ n. half_open_step n c.in-Some-2.admitted.octets) c.in-Some.ensures.0;
        content = c.in_ok-hold_admitted-in-Some-2.ensures.held.1;
      });
    }
