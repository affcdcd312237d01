use Rattle.exchange.specs.declared.headers.Role.TheVariants.{Initiator, Responder}
use Rattle.laws_opening.specs.Beside.{next_child}
use Rattle.laws_coming_up.specs.ComingUpBeside.{meeting_by}
use Rattle.laws_coming_up.proofs.CarryingLemmas.{added_is_new, installed_is_new}
use Rattle.laws_coming_up.proofs.laws.a_new_tunnel_carries_packets.Goals as goal

pub returns-clause-there : goal.returns-clause-there
returns-clause-there g c = λ meaning_of place entry asking answering reading shared p q r s t are tunnel packet u v is before goes comes before_too arrives.
    let d = meeting_by asking answering shared are.opens.request are.opens.response (next_child entry p.before) in
    let up = tunnel.up in
    let terms = up.responder.terms in
    c.the_first_packet_goes_by_the_new_pair.ensures meaning_of Initiator d are.waits.association.serial t.before.table.next are.half_open.association.serial s.before.table.next terms packet u v is
    (installed_is_new Initiator d terms t.before t.after u.before are.waits.association.serial are.waits.place up.initiator.concludes.association (next_child entry p.before).spi up.initiator.room
    up.initiator.concludes.after before) goes comes
    (added_is_new Responder d terms s.before s.after v.before are.half_open.association.serial are.half_open.place up.responder.accepts.association up.responder.room
    up.responder.accepts.after before_too) arrives

pub returns-clause-back : goal.returns-clause-back
returns-clause-back g c = λ meaning_of place entry asking answering reading shared p q r s t are tunnel packet u v is before goes comes before_too arrives.
    let d = meeting_by asking answering shared are.opens.request are.opens.response (next_child entry p.before) in
    let up = tunnel.up in
    let terms = up.responder.terms in
    c.the_first_packet_goes_by_the_new_pair.ensures meaning_of Responder d are.half_open.association.serial s.before.table.next are.waits.association.serial t.before.table.next terms packet u v is
    (added_is_new Responder d terms s.before s.after u.before are.half_open.association.serial are.half_open.place up.responder.accepts.association up.responder.room
    up.responder.accepts.after before) goes comes
    (installed_is_new Initiator d terms t.before t.after v.before are.waits.association.serial are.waits.place up.initiator.concludes.association (next_child entry p.before).spi up.initiator.room
    up.initiator.concludes.after before_too) arrives
