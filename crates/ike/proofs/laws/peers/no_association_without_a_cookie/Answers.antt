use Rattle.ike.proofs.ReachLemmas.{datagram_reached}
use Rattle.ike.proofs.laws.peers.no_association_without_a_cookie.Goals as goal

pub returns : goal.returns
returns c = datagram_reached (record { cookie = c.acceptance_is_limited.ensures.cookie; itself = c.associations_stay_themselves.ensures })
