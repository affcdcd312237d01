use Rattle.std.proofs.Common.{length, refl, arith}
use Rattle.gateway.specs.Outputs.{output_view}
use Rattle.sukperin.specs.Meaning.{meaning_for}
use Rattle.sukperin.specs.Outward.{HasRoom}
use Rattle.sukperin.proofs.OutwardLemmas.{sealed_fits}
use Rattle.sukperin.proofs.hosted.Hosted.take_outward.Goals as goal

pub write_sealed-requires : goal.write_sealed-requires
write_sealed-requires c =
    let fits = sealed_fits (meaning_for c.args.self.now.gateway.caller) c.args.packet.now (output_view c.traced_step-traced.result.output) c.traced_step-traced.result.trace c.args.self.now.gateway c.traced_step-traced.new.self c.traced_step-traced.ensures in
    let room : HasRoom c.args.packet.now (length c.args.room.now) = c.requires in
    omega arith

pub returns : goal.returns
returns c =
    let short = sealed_fits (meaning_for c.args.self.now.gateway.caller) c.args.packet.now (output_view c.traced_step-traced.result.output) c.traced_step-traced.result.trace c.args.self.now.gateway c.traced_step-traced.new.self c.traced_step-traced.ensures in
    let room : HasRoom c.args.packet.now (length c.args.room.now) = c.requires in
    record {
      said = output_view c.traced_step-traced.result.output;
      trace = c.traced_step-traced.result.trace;
      traces = c.traced_step-traced.ensures;
      told_is = c.of.ensures;
      left_is = refl;
      tells_keys = refl;
      fits = omega arith;
      filled_is = c.write_sealed.ensures;
    }
