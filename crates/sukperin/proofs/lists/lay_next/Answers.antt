use Rattle.std.proofs.Common.{◌-◌, length, subst}
use Rattle.std.proofs.lemmas.List.{take_rest}
use borrow.Rule.Slice.PartMut.{put_mid}
use Rattle.base.specs.Octets.{Octets}
use Rattle.gateway.specs.Inputs.{Outward}
use Rattle.gateway.specs.Rows.{LaysIn}
use Rattle.gateway.specs.Steps.{Traces}
use Rattle.ike.specs.Outputs.{no_trace}
use Rattle.sukperin.specs.Meaning.{meaning_for}
use Rattle.sukperin.proofs.SealLemmas.{end_written, lays_refused_in, lays_taken_in}
use Rattle.sukperin.proofs.lists.lay_next.Goals as goal

pub returns-in-Err : goal.returns-in-Err
returns-in-Err c = λ used behind.
    lays_refused_in c.args.octets.now c.args.place.now used c.args.begin c.args.gateway.now c.args.room.now c.refused.result c.nothing.result c.in-Err.refusal
    behind c.requires.within c.in-Err.ensures.refused c.refused.ensures c.nothing.ensures

pub returns : goal.returns
returns c = λ used behind.
    let room = c.args.room.now in
    let begin = c.args.begin in
    let packet = c.in-Ok.packet.now in
    let old = c.args.gateway.now in
    let new = c.lay_in-laid.new.self in
    let what = c.lay_in-laid.result in
    let part = c.lay_in-laid.new.room in
    let lays = subst (λ (xs : Octets). LaysIn (λ said. Traces (meaning_for old.caller) (Outward packet) old said no_trace new) (length packet) xs what new.table.pairs part) (take_rest room begin) c.lay_in-laid.ensures.traced in
    lays_taken_in c.args.octets.now c.args.place.now used begin packet old new room part (put_mid begin (length room - begin) room part) what c.laid_length-length.result c.told_at.result c.span_of.result
    behind c.requires.within c.in-Ok.ensures.found.0 c.in-Ok.ensures.found.1 lays c.lay_in-laid.ensures.senders c.laid_length-length.ensures c.told_at.ensures c.span_of.ensures (end_written room part begin)
