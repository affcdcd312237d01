use Rattle.std.proofs.Common.{Bool, Option, subst, sym, ◌∙◌}
use Rattle.base.specs.Octets.{Octets}
use Rattle.wire.specs.Numbers.{CREATE_CHILD_SA}
use Rattle.exchange.specs.Headers.{keys_of}
use Rattle.exchange.specs.Sealed.{IsSealed}
use Rattle.requests.specs.Incoming.{IsFreshRequest, PeerRequests, TakesRequest}
use Rattle.sadb.specs.declared.pair.Pair.{Pair}
use Rattle.association.specs.declared.phase.Association.{Association}
use Rattle.exchange.specs.declared.child.ChildAnswer.{ChildAnswer}
use Rattle.association.specs.Sending.{reply_message}
use Rattle.association.specs.Issuing.{with_incoming}
use Rattle.further.specs.Answering.{further_answer, further_pair}
use Rattle.create_child.specs.Answering.{ConcludesFurther}
use Rattle.create_child.proofs.answering.answer.Goals as goal

pub take-requires-clause-fresh : goal.take-requires-clause-fresh
take-requires-clause-fresh g c =
    let fresh = c.requires.fresh in
    subst (λ (r : PeerRequests). IsFreshRequest r c.args.number) (sym c.prepare.ensures.content.content)
    (record { not_in_effect = fresh.not_in_effect; gap = fresh.gap; is_gap = fresh.is_gap; inside = fresh.inside })

pub returns-clause-answered : goal.returns-clause-answered
returns-clause-answered g c =
    let a : Association = c.args.association.now in
    let decision = c.in_ok-decision.decision in
    let moment = c.args.setup.now.moment in
    let nonce : Octets = c.args.setup.now.fresh.now.nonce in
    record {
      keys = c.in-Established.keys;
      established = c.in-Established.is;
      deleting = c.is_deleting-deleting.result;
      told = c.is_deleting-deleting.ensures;
      decision = decision;
      decided = c.in_ok-decision.ensures.decided;
      sealed = subst (λ (x : ChildAnswer). IsSealed g.C.Sealer.body_of (keys_of a.role c.in-Established.keys) c.args.setup.now.fresh.now.seal (reply_message a CREATE_CHILD_SA c.args.number (further_answer x nonce)) c.in_ok-octets.octets)
          c.into_parts-answer.ensures.answer c.in_ok-octets.ensures;
      incoming = c.take.new.self;
      ready = c.prepare.new.self;
      prepared = c.prepare.ensures.content;
      taken = subst (λ reply. TakesRequest c.prepare.new.self c.args.number reply c.take.new.self) (c.in_ok-kept.ensures ∙ c.as_slice.ensures) c.take.ensures;
      between = c.decide.new.table;
      room = c.decide.ensures.table;
      concluded = subst (λ (b : Bool). ConcludesFurther b (further_pair decision) (with_incoming a c.take.new.self) c.decide.new.table moment c.conclude-fate.result c.conclude-fate.new.association c.conclude-fate.new.table) c.is_closing-closed.ensures
          (subst (λ (p : Option Pair). ConcludesFurther c.is_closing-closed.result p (with_incoming a c.take.new.self) c.decide.new.table moment c.conclude-fate.result c.conclude-fate.new.association c.conclude-fate.new.table) c.into_parts-answer.ensures.pair c.conclude-fate.ensures);
    }
