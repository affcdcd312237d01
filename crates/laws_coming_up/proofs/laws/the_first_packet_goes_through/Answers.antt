use Rattle.laws_coming_up.proofs.CarryingLemmas.{goes_through}
use Rattle.laws_coming_up.proofs.laws.the_first_packet_goes_through.Goals as goal

pub returns : goal.returns
returns g c =
    λ meaning_of role own other a b o terms packet u v is holds goes comes holds_too arrives.
    goes_through c.answers_are_determined.ensures.outbound c.the_protected_never_goes_in_the_clear.ensures.protected c.what_one_end_seals_the_other_hands_up.ensures meaning_of role
    own other a b o terms packet u v is holds goes comes holds_too arrives
