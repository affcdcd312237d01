use Rattle.std.proofs.Common.{rules, ◌≡◌, ◌+◌, get_or, arith, ap, ◌∙◌}
use Rattle.std.proofs.lemmas.Option.{get_or_from_slice_get}
use Rattle.byteorder.specs.Endian.{big_number}
use Rattle.wire.specs.declared.proposal.Proposal.{Proposal}
use Rattle.exchange.specs.Children.{offered}
use Rattle.children.proofs.ChildLemmas.{made_next}
use Rattle.children.proofs.responding.respond.Goals as goal

pub returns-clause-response : goal.returns-clause-response
returns-clause-response c =
    record {
      chosen = c.in-Some.chosen;
      terms = record {
        spi_i = c.spi_of-peer.result;
        spi_r = c.in-Ok-prepare.own;
        extended = c.in-Some.chosen.extended;
        ts_i = c.in-Ok.narrowed.initiator;
        ts_r = c.in-Ok.narrowed.responder;
      };
      due = record {
        choice = c.in-Some.ensures;
        peer =
            let told : c.spi_of-peer.result ≡ big_number 4 (get_or c.args.offer.now.proposals.now c.in-Some.chosen.place c.index-offer-chosen.result).spi = c.spi_of-peer.ensures in
            told
            ∙ ap (λ (p : Proposal). big_number 4 p.spi)
            (get_or_from_slice_get c.args.offer.now.proposals.now c.in-Some.chosen.place c.in-Some.ensures.proposal c.index-offer-chosen.result c.in-Some.ensures.here);
        own = search rules;
        own_least = let own : c.in-Ok-prepare.own ≡ c.args.table.now.start + c.args.table.now.given = search rules in omega (arith, c.invariants_hold.ensures.start.least);
        own_most = search rules;
        extension = search rules;
        narrowed = c.in-Ok.ensures.narrowed;
        not_full = search rules;
        not_spent = search rules;
      };
      whole = search rules;
    }

pub returns-clause-ready : goal.returns-clause-ready
returns-clause-ready c =
    record {
      ready = search rules;
      next = made_next c.args.setting.now c.args.extended c.args.policy.now c.args.table.now (offered c.args.offer.now) c.in_ok-made.made c.prepare.new.self (returns-clause-response c) c.prepare.ensures.content;
    }
