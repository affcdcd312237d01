use Rattle.std.proofs.Common.{◌≡◌, ◌∙◌, ap, refl, ℕ, [], ◌∷◌, ◌+◌, ◌++◌, List, length, take, drop}
use Rattle.std.specs.Prelude.{replicate}
use Rattle.esp.specs.Packet.{head, padding}
use Rattle.esp.proofs.ContentsLemmas.{length-padding}
use Rattle.esp.proofs.PacketLemmas.{length-head}
use Rattle.esp.proofs.SealingLemmas.{padding_first}
use Rattle.esp.proofs.LayingLemmas.{packet_written}
use Rattle.esp.proofs.outbound.write_without_check_value.Goals as goal

pub returns : goal.returns
returns c =
    let old = c.args.room.now in
    let payload = c.args.payload.now in
    let pad = c.args.pad in
    let tail : List ℕ = pad ∷ c.args.next ∷ [] in
    let zeros : List ℕ = replicate 16 0 in
    let pads : List ℕ = take pad (1 ∷ 2 ∷ 3 ∷ []) in
    let front : List ℕ = c.head_of.result in
    let behind : List ℕ = drop (8 + length payload + pad + 2 + 16) old in
    let are : pads ≡ padding pad = padding_first pad c.requires.word in
    packet_written old front payload pads tail zeros
    c.write_at.new.room c.write_at-2.new.room c.write_at-3.new.room c.write_at-4.new.room c.write_at-5.new.room pad
    (ap length c.head_of.ensures ∙ length-head c.args.association.now c.args.number) (ap length are ∙ length-padding pad) refl refl
    c.write_at.ensures c.write_at-2.ensures c.write_at-3.ensures c.write_at-4.ensures c.write_at-5.ensures
    ∙ ap (λ (f : List ℕ). ((f ++ payload ++ (pads ++ tail)) ++ zeros) ++ behind) c.head_of.ensures
    ∙ ap (λ (q : List ℕ). ((head c.args.association.now c.args.number ++ payload ++ (q ++ tail)) ++ zeros) ++ behind) are
