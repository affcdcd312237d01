use Rattle.effects.specs.Taking.{meaning_of}
use Rattle.gateway.specs.Worlds.{new_world}
use Rattle.gateway.proofs.OriginLemmas.{sealed_before}
use Rattle.gateway.proofs.laws.together.what_goes_up_had_been_sealed.Goals as goal

pub returns : goal.returns
returns g c =
    let means = meaning_of g.C.Sealer g.C.Agreement g.C.Proof in
    record {
      sound = λ keys child old new happenings place number packet h trail sound there unforged end said.
          sealed_before g.C.Sealer.body_of g.C.Sealer.plain_of means c.both_ends_keep_their_promises.ensures keys child old new happenings place number packet h trail sound there unforged end said;
      begun = λ keys child a b new happenings place number packet h trail nothing none one other there unforged end said.
          sealed_before g.C.Sealer.body_of g.C.Sealer.plain_of means c.both_ends_keep_their_promises.ensures keys child (new_world a b) new happenings place number packet h trail
          (c.new_worlds_are_wholly_sound.ensures g.C.Sealer.body_of g.C.Sealer.plain_of keys a b nothing none one other) there unforged end said;
    }
