use Rattle.laws_coming_up.proofs.CarryingLemmas.{goes_through_beside}
use Rattle.laws_coming_up.proofs.laws.the_first_packet_goes_by_the_new_pair.Goals as goal

pub returns : goal.returns
returns g c =
    goes_through_beside c.answers_are_determined.ensures.outbound c.the_protected_never_goes_in_the_clear.ensures.protected c.what_one_end_seals_the_other_hands_up.ensures
