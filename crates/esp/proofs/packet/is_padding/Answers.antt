use Rattle.std.proofs.Common.{◌∙◌, arith}
use Rattle.esp.proofs.ContentsLemmas.{not_padding}
use Rattle.esp.proofs.packet.is_padding.Goals as goal

pub returns-then-from-place : goal.returns-then-from-place
returns-then-from-place c = (λ e. absurd (cc), λ e. absurd (not_padding c.args.octets.now c.loop-place.place (omega arith) (λ here. c.if-from-place.true (c.from.ensures ∙ here)) e))
