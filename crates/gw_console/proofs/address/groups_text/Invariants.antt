use Rattle.std.proofs.Common.{◌≡◌, ◌++◌, string_bytes, take, codes, flat_map}
use Rattle.gw_console.specs.Digits.{hexadecimal}
use Rattle.gw_console.proofs.address.groups_text.Given as goal

abbrev pub invariant-loop-group : goal.invariant-loop-group
invariant-loop-group l = string_bytes l.text ≡ string_bytes l.initial.text ++ flat_map (λ group. codes ":" ++ hexadecimal 4 group) (take l.group-index l.group-items)
