use Rattle.std.proofs.Common.{rules, ◌≡◌, ◌+◌, ◌-◌, ◌≤◌, ◌∙◌, length, take, drop, arith, ap, length-drop}
use Rattle.std.proofs.lemmas.List.{length-take-le, take_rest}
use borrow.Rule.Slice.PartMut.{put_mid}
use Rattle.gateway.specs.Rows.{finished_row, octets_of}
use Rattle.sukperin.proofs.SealLemmas.{end_written, group_written}
use Rattle.sukperin.proofs.lists.seal_with.Goals as goal

pub finish_behind-requires-whole : goal.finish_behind-requires-whole
finish_behind-requires-whole g c =
    let room = c.lay_group-end.new.room in
    let used = c.args.used in
    let full = c.lay_group-end.ensures.whole in
    let fits = c.lay_group-end.ensures.fits in
    let same : length room ≡ length c.args.room.now = c.lay_group-end.auto.room in
    let long : length (take (length room - used) (drop used room)) ≡ length room - used = length-take-le (length room - used) (drop used room) (omega (arith, length-drop used room)) in
    let whole : octets_of (take (length c.args.places.now) c.lay_group-end.new.spans) ≤ length (take (length room - used) (drop used room)) = omega arith in
    λ κs. (search rules, (search rules, whole))

pub returns : goal.returns
returns g c =
    let mid = c.lay_group-end.new.room in
    let used = c.args.used in
    let spans = take (length c.args.places.now) c.lay_group-end.new.spans in
    let pairs = c.lay_group-end.new.gateway.table.pairs in
    let done = c.finish_behind.new.packets in
    group_written c.args.octets.now c.args.places.now c.args.room.now mid (put_mid used (length mid - used) mid done) done used c.lay_group-end.result c.args.gateway.now c.lay_group-end.new.gateway c.lay_group-end.new.outs spans
    c.lay_group-end.auto.room c.lay_group-end.ensures (c.finish_behind.ensures ∙ ap (finished_row pairs spans) (take_rest mid used)) (end_written mid done used)
