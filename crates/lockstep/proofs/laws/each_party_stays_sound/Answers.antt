use Rattle.lockstep.proofs.PartyLemmas.{party_later, turn_sound}
use Rattle.lockstep.proofs.laws.each_party_stays_sound.Goals as goal

pub returns-clause-kept : goal.returns-clause-kept
returns-clause-kept c = λ keys turn old new others sound takes genuine once. turn_sound keys turn old new takes others sound genuine once

pub returns-clause-later : goal.returns-clause-later
returns-clause-later c = λ keys p others later sound all. party_later keys p others later all sound
