use Rattle.std.proofs.Common.{◌∙◌, ap, ℕ, [], ◌∷◌, ◌++◌, List, take}
use Rattle.std.specs.Prelude.{replicate}
use Rattle.esp.specs.Packet.{head}
use Rattle.esp.proofs.SealingLemmas.{padding_first}
use Rattle.esp.proofs.LayingLemmas.{with_zeros}
use Rattle.esp.proofs.outbound.append_without_check_value.Goals as goal

pub returns-clause-items : goal.returns-clause-items
returns-clause-items c =
    let before = c.args.out.now.items in
    let payload = c.args.payload.now in
    let tail : List ℕ = c.args.pad ∷ c.args.next ∷ [] in
    let zeros : List ℕ = replicate 16 0 in
    let pads : List ℕ = take c.args.pad (1 ∷ 2 ∷ 3 ∷ []) in
    with_zeros before c.head_of-head.result payload pads tail zeros c.append.new.out.items c.append.ensures.items
    ∙ ap (λ (f : List ℕ). before ++ ((f ++ payload ++ (pads ++ tail)) ++ zeros)) c.head_of-head.ensures
    ∙ ap (λ (q : List ℕ). before ++ ((head c.args.association.now c.args.number ++ payload ++ (q ++ tail)) ++ zeros)) (padding_first c.args.pad c.requires.word)
