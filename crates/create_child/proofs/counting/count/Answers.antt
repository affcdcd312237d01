use Rattle.std.proofs.Common.{◌≡◌, ℕ, ap, subst, sym, ◌∙◌}
use Rattle.base.specs.Octets.{Octets}
use Rattle.association.specs.AskedChildren.{asked_of}
use Rattle.association.specs.Purposes.{sought_of, spi_asked}
use Rattle.association.specs.declared.phase.Association.{Association}
use Rattle.association.specs.declared.phase.Request.{Request}
use Rattle.association.specs.Issuing.{with_outgoing}
use Rattle.children.specs.declared.asking.Asked.{Asked}
use Rattle.further.specs.Concluding.{Concludes}
use Rattle.create_child.specs.Counting.{EndsFurther}
use Rattle.create_child.proofs.CountingLemmas.{given_back, same_request, same_spi, that_child, IsThatChild}
use Rattle.create_child.proofs.counting.count.Goals as goal

pub conclude-fate-requires-clause-held : goal.conclude-fate-requires-clause-held
conclude-fate-requires-clause-held g c =
    c.spis_stay_held.ensures.counting c.args.association.now c.args.table.now c.args.number c.count-request.result c.count-request.new.self c.count-request.ensures c.requires.reserved

pub conclude-fate-requires-clause-apart : goal.conclude-fate-requires-clause-apart
conclude-fate-requires-clause-apart g c =
    given_back c.args.association.now c.args.table.now c.args.number c.count-request.result c.count-request.new.self c.unwrap-spi.result c.children_are_asked_for.ensures.counting c.requires.reserved c.count-request.ensures
    (sym c.into_spi.ensures ∙ c.unwrap-spi.ensures)

pub returns-clause-counted : goal.returns-clause-counted
returns-clause-counted g c =
    let a : Association = c.args.association.now in
    let request : Request = c.count-request.result in
    let that : IsThatChild request.purpose c.args.asked.now c.args.nonce.now =
    that_child request.purpose c.args.asked.now c.args.nonce.now
    (c.requires.sought.is ∙ ap (λ (r : Request). sought_of r.purpose) (same_request c.requires.sought.request request (sym c.requires.sought.outstanding ∙ c.count-request.ensures.there))) in
    let spi : c.unwrap-spi.result ≡ that.further.child.spi = same_spi c.unwrap-spi.result that.further.child.spi (sym c.unwrap-spi.ensures ∙ c.into_spi.ensures ∙ ap spi_asked that.is) in
    record {
      keys = c.in-Established.keys;
      established = c.in-Established.is;
      request = request;
      further = that.further;
      asked = that.is;
      outgoing = c.count-request.new.self;
      counted = c.count-request.ensures;
      conclusion = c.in_ok-concluded.concluded.conclusion;
      concluded =
          subst (λ (n : Octets). Concludes c.args.setup.now.config.now.blocks a.serial c.in-Established.keys (asked_of that.further.child) n c.args.plain.now c.in_ok-concluded.concluded.conclusion) that.nonce_is
          (subst (λ (x : Asked). Concludes c.args.setup.now.config.now.blocks a.serial c.in-Established.keys x c.args.nonce.now c.args.plain.now c.in_ok-concluded.concluded.conclusion) that.asked_is
          (subst (λ (b : ℕ). Concludes b a.serial c.in-Established.keys c.args.asked.now c.args.nonce.now c.args.plain.now c.in_ok-concluded.concluded.conclusion) c.blocks-blocks.ensures.count c.in_ok-concluded.ensures.concluded));
      declined = record { error = c.in_ok-concluded.concluded.error; told = c.in_ok-concluded.ensures.told; due = c.unless_made-declined.ensures };
      ends = subst (λ (s : ℕ). EndsFurther c.in_ok-concluded.concluded.conclusion s (with_outgoing a c.count-request.new.self) c.args.table.now c.args.setup.now.moment c.conclude-fate.result c.conclude-fate.new.association c.conclude-fate.new.table)
          spi c.conclude-fate.ensures;
    }
