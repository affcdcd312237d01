use Rattle.std.proofs.Common.{rules, ◌≡◌, sym, ap, ◌∙◌}
use Rattle.std.specs.Int.{from_le_bytes, w128}
use Rattle.esp.proofs.CheckLemmas.{same_octets}
use Rattle.esp.proofs.packet.is_check_value.Goals as goal

pub returns : goal.returns
returns c =
    let found : c.copy_from_slice.new.self ≡ c.args.octets.now = c.copy_from_slice.ensures.after in
    let one : c.from_le_bytes.result ≡ from_le_bytes w128 c.args.octets.now = c.from_le_bytes.ensures ∙ ap (from_le_bytes w128) found in
    let other : c.from_le_bytes-2.result ≡ from_le_bytes w128 c.args.value.now = c.from_le_bytes-2.ensures in (
      λ same. (let is : c.from_le_bytes.result ≡ c.from_le_bytes-2.result = search rules in same_octets c.args.octets.now c.args.value.now c.requires (search rules) (λ i. search rules) (λ i. search rules) (sym one ∙ is ∙ other)),
      λ same. (let e = one ∙ ap (from_le_bytes w128) same ∙ sym other in search rules),
    )
