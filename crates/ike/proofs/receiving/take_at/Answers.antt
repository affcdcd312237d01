use Rattle.std.proofs.Common.{ap, rules, slice_set, subst, sym, Ok}
use Rattle.children.specs.declared.fault.MemoryFault.{MemoryFault}
use Rattle.effects.specs.Taking.{meaning_of}
use Rattle.setup.specs.Configs.{setup_of}
use Rattle.ike.specs.Machines.{Held}
use Rattle.ike.specs.Receiving.{WantsFound}
use Rattle.ike.proofs.AskingLemmas.{err_and}
use Rattle.ike.proofs.DatagramLemmas.{lent_takes, lent_wants}
use Rattle.ike.proofs.WantLemmas.{read_there, wants_there}
use Rattle.ike.proofs.receiving.take_at.Goals as goal

pub take_message-requires-clause-reserved : goal.take_message-requires-clause-reserved
take_message-requires-clause-reserved g c =
    (c.requires.sound.each c.args.place c.index_mut-association.result.now
    (read_there c.held.inside.next c.held.inside.associations.items c.args.held.now c.args.place c.index_mut-association.result.now c.held.view_is c.requires.there c.index_mut-association.ensures.value)).reserved

pub take_message-requires-clause-waits : goal.take_message-requires-clause-waits
take_message-requires-clause-waits g c =
    (c.requires.sound.each c.args.place c.index_mut-association.result.now
    (read_there c.held.inside.next c.held.inside.associations.items c.args.held.now c.args.place c.index_mut-association.result.now c.held.view_is c.requires.there c.index_mut-association.ensures.value)).soundly.waits

pub returns-in_err-effect-clause-wanted : goal.returns-in_err-effect-clause-wanted
returns-in_err-effect-clause-wanted g c =
    let a = c.index_mut-association.result.now in
    let d = c.args.datagram.now in
    let there = read_there c.held.inside.next c.held.inside.associations.items c.args.held.now c.args.place a c.held.view_is c.requires.there c.index_mut-association.ensures.value in
    err_and c.from_residual.result _ _ c.from_residual.ensures.1 (λ e is.
    subst (λ (f : MemoryFault). WantsFound g.C.Sealer.plain_of (Ok c.args.place) d.octets d.message c.args.held.now c.args.table.now f) (sym is)
    (wants_there g.C.Sealer.plain_of c.args.held.now c.args.table.now c.args.place d.octets d.message a c.in_err-effect.field-0.0 there
    (lent_wants g.C.Sealer.plain_of a c.args.table.now c.octets.result.now d.octets c.message.result.now d.message c.in_err-effect.field-0.0 c.octets.ensures c.message.ensures.same c.in_err-effect.ensures.wanted)))

pub returns-clause-taken : goal.returns-clause-taken
returns-clause-taken g c =
    let d = c.args.datagram.now in
    record {
      association = c.index_mut-association.result.now;
      there = read_there c.held.inside.next c.held.inside.associations.items c.args.held.now c.args.place c.index_mut-association.result.now c.held.view_is c.requires.there c.index_mut-association.ensures.value;
      effect = c.in_ok-effect.effect;
      changed = c.take_message.new.association;
      takes = lent_takes (meaning_of g.C.Sealer g.C.Agreement g.C.Proof c.args.setup.now.caller.now) (setup_of c.args.setup.now) c.index_mut-association.result.now c.args.table.now c.octets.result.now d.octets c.message.result.now d.message
          c.in_ok-effect.effect c.take_message.new.association c.take_message.new.table c.octets.ensures c.message.ensures.same c.in_ok-effect.ensures.taken;
      said = search rules;
      content = ap (λ (h : Held). record { next = h.next; associations = slice_set h.associations c.args.place c.take_message.new.association }) c.held.view_is;
    }
