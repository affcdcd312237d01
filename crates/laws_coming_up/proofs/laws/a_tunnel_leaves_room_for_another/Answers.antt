use Rattle.laws_coming_up.proofs.RoomLemmas.{can_answer_again, can_begin_again, has_place_again}
use Rattle.laws_coming_up.proofs.laws.a_tunnel_leaves_room_for_another.Goals as goal

pub returns-clause-begins : goal.returns-clause-begins
returns-clause-begins g c = can_begin_again

pub returns-clause-answers : goal.returns-clause-answers
returns-clause-answers g c = can_answer_again

pub returns-clause-place : goal.returns-clause-place
returns-clause-place g c = has_place_again
