use Rattle.std.proofs.Common.{length, refl, arith, inl, inr}
use Rattle.sukperin.specs.Outward.{HasRoom}
use Rattle.sukperin.proofs.inputs.send.Goals as goal

pub returns-then-short : goal.returns-then-short
returns-then-short c = inr (λ h. omega arith, c.code.ensures.value, refl, refl, refl)

pub returns : goal.returns
returns c =
    let enough : HasRoom c.args.packet.now (length c.args.room.now) = omega arith in
    inl (enough, refl, c.take_outward.ensures)
