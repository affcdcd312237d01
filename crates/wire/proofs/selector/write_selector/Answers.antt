use Rattle.std.proofs.Common.{◌≡◌, length, ◌∙◌, arith}
use Rattle.wire.specs.Writing.{inside_onto}
use Rattle.wire.proofs.WritingLoops.{part_room}
use Rattle.wire.proofs.WrittenFields.{IsInside, inside_appends}
use Rattle.wire.proofs.selector.write_selector.Goals as goal

pub close_part-requires : goal.close_part-requires
close_part-requires c =
    let at : c.len-start.result ≡ length c.args.out.now.items = c.len-start.ensures ∙ c.args.out.now.ok.0 in
    let room = part_room c.selector_type.result c.args.selector.now.protocol (inside_onto c.args.selector.now) (IsInside c.args.selector.now) c.args.out.now.items c.open_part.new.out.items c.write_inside.new.out.items (inside_appends c.args.selector.now) c.in_ok-open_part.ensures c.in_ok-write_inside.ensures in
    omega (arith, room, at)
