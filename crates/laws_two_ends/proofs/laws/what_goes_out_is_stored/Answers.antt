use Rattle.std.proofs.Common.{refl}
use Rattle.gateway.specs.Outputs.{Sealed}
use Rattle.laws_two_ends.proofs.GoingOutLemmas.{stored_if_sent, stored_packet}
use Rattle.laws_two_ends.proofs.laws.what_goes_out_is_stored.Goals as goal

pub returns-clause-sent : goal.returns-clause-sent
returns-clause-sent g c meaning_of event old new said takes octets is = stored_if_sent meaning_of event old said new takes octets is

pub returns-clause-packet : goal.returns-clause-packet
returns-clause-packet g c meaning_of event old new child number octets pair takes stands = stored_packet meaning_of event old (Sealed child number octets) new takes child number octets pair refl stands

pub returns-clause-counted : goal.returns-clause-counted
returns-clause-counted g c first others = (refl, refl)
