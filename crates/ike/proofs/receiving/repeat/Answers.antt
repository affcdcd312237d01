use Rattle.std.proofs.Common.{ap, ◌∙◌, slice_index_or}
use Rattle.effects.specs.Keeping.{kept_reply}
use Rattle.ike.specs.Outputs.{plain_step}
use Rattle.ike.specs.declared.output.IkeOutput.TheVariants.{Repeat}
use Rattle.ike.proofs.RepeatLemmas.{answered_there, first_there, opened_of}
use Rattle.ike.proofs.receiving.repeat.Goals as goal

pub unreachable-requires : goal.unreachable-requires
unreachable-requires c =
    let a = slice_index_or c.args.associations.now c.args.place c.index-associations-place.result in
    let opened = opened_of c.args.request.now a.phase (answered_there c.args.request.now c.args.associations.now c.args.place c.index-associations-place.result c.requires.first) in
    c.in_default.not-HalfOpen opened.0 opened.1

pub returns : goal.returns
returns c =
    record {
      association = slice_index_or c.args.associations.now c.args.place c.index-associations-place.result;
      there = first_there c.args.request.now c.args.associations.now c.args.place c.index-associations-place.result c.requires.first;
      reply = c.in-HalfOpen.half_open.reply;
      kept = ap kept_reply c.in-HalfOpen.is;
      said = c.plain.ensures ∙ ap (λ r. plain_step (Repeat r)) (c.in_ok-reply-in-HalfOpen.ensures ∙ c.as_slice.ensures);
    }
