use Rattle.gateway.proofs.CarryLemmas.{new_wholly_sound}
use Rattle.gateway.proofs.laws.together.new_worlds_are_wholly_sound.Goals as goal

pub returns : goal.returns
returns g c = λ body_of plain_of keys a b first second one other.
    new_wholly_sound body_of plain_of keys a b first second one other (c.every_world_stays_sound.ensures.begun keys a b first second)
