use Rattle.std.proofs.Common.{◌≡◌, true, subst, sym}
use Rattle.wire.specs.declared.message.Message.{Message}
use Rattle.association.specs.Purposes.{SeeksAt}
use Rattle.association.specs.declared.phase.Association.{Association}
use Rattle.association.specs.declared.purpose.Sought.{Sought}
use Rattle.association.specs.declared.purpose.Sought.TheVariants as sought
use Rattle.children.specs.declared.fault.MemoryFault.{MemoryFault}
use Rattle.setup.specs.Configs.{setup_of}
use Rattle.effects.specs.Taking.{meaning_of, CanWantIn, DoesResponse, Meaning}
use Rattle.effects.specs.declared.taking.Effect.{Effect}
use Rattle.effects.proofs.ExchangeLemmas.{err_and}
use Rattle.effects.proofs.TakingLemmas.{asks_none, auth_ended, auth_wants, further_counted, further_wants, informing_counted, no_place, sought_auth, sought_child, sought_no_auth, sought_no_child, sought_other}
use Rattle.effects.proofs.taking.take_response.Goals as goal

-- what its request asked for, in each arm
at : (old : Association) (m : Message) (one other : Sought) → one ≡ other → SeeksAt old.outgoing m.header.id one → SeeksAt old.outgoing m.header.id other
at old m one other same is = subst (SeeksAt old.outgoing m.header.id) same is

pub end_auth-requires-clause-no_child : goal.end_auth-requires-clause-no_child
end_auth-requires-clause-no_child g c =
    let old : Association = c.args.association.now in
    let m : Message = c.args.message.now in
    asks_none old m c.requires.due (sought_no_child old m c.requires.due (at old m c.args.sought sought.Identity c.in-Identity.is c.requires.sought))

pub count-requires-in-Other-clause-no_child : goal.count-requires-in-Other-clause-no_child
count-requires-in-Other-clause-no_child g c =
    let old : Association = c.args.association.now in
    let m : Message = c.args.message.now in
    asks_none old m c.requires.due (sought_other old m c.requires.due (at old m c.args.sought sought.Other c.in-Other.is c.requires.sought)).1

pub returns-in_err-ended-in-Identity-clause-wanted : goal.returns-in_err-ended-in-Identity-clause-wanted
returns-in_err-ended-in-Identity-clause-wanted g c =
    let old : Association = c.args.association.now in
    let m : Message = c.args.message.now in
    err_and c.from_residual.result _ _ c.from_residual.ensures.1 (λ e is.
    subst (λ (f : MemoryFault). CanWantIn old.phase true m.header.exchange c.args.table.now f) (sym is)
    (auth_wants old m c.args.table.now c.in_err-ended-in-Identity.field-0.0 c.requires.due c.requires.waits
    (sought_auth old m c.requires.due (at old m c.args.sought sought.Identity c.in-Identity.is c.requires.sought)) c.in_err-ended-in-Identity.ensures.wanted))

pub returns-in_err-ended-in-Child-clause-wanted : goal.returns-in_err-ended-in-Child-clause-wanted
returns-in_err-ended-in-Child-clause-wanted g c =
    let old : Association = c.args.association.now in
    let m : Message = c.args.message.now in
    err_and c.from_residual-in_err-ended-in-Child.result _ _ c.from_residual-in_err-ended-in-Child.ensures.1 (λ e is.
    subst (λ (f : MemoryFault). CanWantIn old.phase true m.header.exchange c.args.table.now f) (sym is)
    (further_wants old m c.args.table.now c.in_err-ended-in-Child.field-0.0 c.requires.due c.requires.waits
    (sought_child c.in-Child.asked c.in-Child.nonce old m c.requires.due (at old m c.args.sought (sought.Child c.in-Child.asked c.in-Child.nonce) c.in-Child.is c.requires.sought))
    (no_place c.in-Child.asked c.args.plain.now c.in_err-ended-in-Child.field-0.0 c.in_err-ended-in-Child.ensures.wanted)))

pub returns-in_ok-ended-in-Identity-clause-taken : goal.returns-in_ok-ended-in-Identity-clause-taken
returns-in_ok-ended-in-Identity-clause-taken g c =
    let meaning : Meaning = meaning_of g.C.Sealer g.C.Agreement g.C.Proof c.args.setup.now.caller.now in
    let old : Association = c.args.association.now in
    let m : Message = c.args.message.now in
    subst (λ (e : Effect). DoesResponse meaning (setup_of c.args.setup.now) old.phase old c.args.table.now m.header.id c.args.plain.now e c.end_auth.new.association c.end_auth.new.table) (sym c.counted.ensures)
    (auth_ended meaning (setup_of c.args.setup.now) old c.args.table.now m c.args.plain.now c.in_ok-ended-in-Identity.ended c.end_auth.new.association c.end_auth.new.table
    c.requires.due c.requires.waits (sought_auth old m c.requires.due (at old m c.args.sought sought.Identity c.in-Identity.is c.requires.sought)) c.in_ok-ended-in-Identity.ensures.ended)

pub returns-in_ok-ended-in-Child-clause-taken : goal.returns-in_ok-ended-in-Child-clause-taken
returns-in_ok-ended-in-Child-clause-taken g c =
    let meaning : Meaning = meaning_of g.C.Sealer g.C.Agreement g.C.Proof c.args.setup.now.caller.now in
    let old : Association = c.args.association.now in
    let m : Message = c.args.message.now in
    let here = at old m c.args.sought (sought.Child c.in-Child.asked c.in-Child.nonce) c.in-Child.is c.requires.sought in
    subst (λ (e : Effect). DoesResponse meaning (setup_of c.args.setup.now) old.phase old c.args.table.now m.header.id c.args.plain.now e c.count.new.association c.count.new.table) (sym c.counted-in-Child.ensures)
    (further_counted meaning (setup_of c.args.setup.now) old c.args.table.now m c.args.plain.now c.in_ok-ended-in-Child.ended c.count.new.association c.count.new.table
    c.requires.due c.requires.waits (sought_no_auth c.in-Child.asked c.in-Child.nonce old m c.requires.due here) (sought_child c.in-Child.asked c.in-Child.nonce old m c.requires.due here) c.in_ok-ended-in-Child.ensures.counted)

pub returns-in_ok-ended-in-Other-clause-taken : goal.returns-in_ok-ended-in-Other-clause-taken
returns-in_ok-ended-in-Other-clause-taken g c =
    let meaning : Meaning = meaning_of g.C.Sealer g.C.Agreement g.C.Proof c.args.setup.now.caller.now in
    let old : Association = c.args.association.now in
    let m : Message = c.args.message.now in
    let apart = sought_other old m c.requires.due (at old m c.args.sought sought.Other c.in-Other.is c.requires.sought) in
    subst (λ (e : Effect). DoesResponse meaning (setup_of c.args.setup.now) old.phase old c.args.table.now m.header.id c.args.plain.now e c.count-in-Other.new.association c.count-in-Other.new.table) (sym c.counted-in-Other.ensures)
    (informing_counted meaning (setup_of c.args.setup.now) old c.args.table.now m c.args.plain.now c.in_ok-ended-in-Other.ended c.count-in-Other.new.association c.count-in-Other.new.table
    c.requires.due c.requires.waits apart.0 apart.1 c.in_ok-ended-in-Other.ensures.counted)
