use Rattle.exchange.specs.declared.headers.Role.TheVariants.{Initiator, Responder}
use Rattle.laws_coming_up.proofs.CarryingLemmas.{holds_still}
use Rattle.laws_coming_up.proofs.laws.a_tunnel_carries_packets.Goals as goal

pub returns-clause-there : goal.returns-clause-there
returns-clause-there g c = λ meaning_of one other a b entry asking answering reading shared p q r s t tunnel packet u v is before goes comes before_too arrives.
    let o = tunnel.opened.opening in
    let terms = tunnel.up.responder.terms in
    c.the_first_packet_goes_through.ensures meaning_of Initiator one other a b o terms packet u v is
    (holds_still Initiator one other a o terms tunnel.up.initiator.room t.after u.before tunnel.up.initiator.concludes.up before) goes comes
    (holds_still Responder other one b o terms tunnel.up.responder.room s.after v.before tunnel.up.responder.accepts.up before_too) arrives

pub returns-clause-back : goal.returns-clause-back
returns-clause-back g c = λ meaning_of one other a b entry asking answering reading shared p q r s t tunnel packet u v is before goes comes before_too arrives.
    let o = tunnel.opened.opening in
    let terms = tunnel.up.responder.terms in
    c.the_first_packet_goes_through.ensures meaning_of Responder other one b a o terms packet u v is
    (holds_still Responder other one b o terms tunnel.up.responder.room s.after u.before tunnel.up.responder.accepts.up before) goes comes
    (holds_still Initiator one other a o terms tunnel.up.initiator.room t.after v.before tunnel.up.initiator.concludes.up before_too) arrives
