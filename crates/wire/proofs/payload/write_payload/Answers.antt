use Rattle.std.proofs.Common.{◌≡◌, length, ◌∙◌, arith}
use Rattle.wire.specs.Parts.{IsZero}
use Rattle.wire.specs.Payloads.{SpellsBody}
use Rattle.wire.specs.Writing.{body_onto}
use Rattle.wire.proofs.WritingLoops.{part_room}
use Rattle.wire.proofs.WrittenPayloads.{body_appends}
use Rattle.wire.proofs.payload.write_payload.Goals as goal

pub close_part-requires : goal.close_part-requires
close_part-requires c =
    let at : c.len-start.result ≡ length c.args.out.now.items = c.len-start.ensures ∙ c.args.out.now.ok.0 in
    let room = part_room c.in-Some.first c.in-Some.second (body_onto c.args.payload.now) (SpellsBody IsZero c.args.payload.now) c.args.out.now.items c.open_part.new.out.items c.write_body.new.out.items (body_appends c.args.payload.now) c.in_ok-open_part.ensures c.in_ok-write_body.ensures in
    omega (arith, room, at)
