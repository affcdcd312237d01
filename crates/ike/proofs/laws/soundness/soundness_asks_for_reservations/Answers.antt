use Rattle.ike.proofs.SoundLemmas.{sound_with}
use Rattle.ike.proofs.laws.soundness.soundness_asks_for_reservations.Goals as goal

pub returns : goal.returns
returns c = λ machine table other stays sound. record { held = sound_with machine.held table other stays sound.held; config = sound.config; asks = sound.asks }
