use Rattle.ike.specs.Machines.{setup_at}
use Rattle.ike.proofs.FirstRequestLemmas.{datagram_asked}
use Rattle.ike.proofs.SealingLemmas.{step_goes}
use Rattle.ike.proofs.laws.sealing.what_goes_out_under_keys_is_sealed.Goals as goal

pub returns-clause-sealed : goal.returns-clause-sealed
returns-clause-sealed c = λ meaning entries input old table stepped new new_table mark sent sound steps named said.
    step_goes (record {
      told = c.windows_are_read_again.ensures.told;
      answer = c.windows_are_read_again.ensures.answer;
      bounds = c.windows_are_read_again.ensures.bounds;
    }) meaning entries input old table stepped new new_table sound steps mark sent named said

pub returns-clause-first : goal.returns-clause-first
returns-clause-first c = λ meaning entries from octets fresh old table stepped new new_table serial next steps said keyed.
    datagram_asked meaning (setup_at old entries fresh) old.cookies from octets old.held table stepped new.held new_table serial next steps.1 said keyed
