use Rattle.std.proofs.Common.{ℕ, List, ◌++◌, take}
use Rattle.std.specs.List.{flat_map}
use Rattle.sha2.specs.Hashers.{Holds256}
use Rattle.mac.proofs.keyed_hash.HmacKey.tag_between.Given as goal

abbrev pub invariant-loop-part : goal.invariant-loop-part
invariant-loop-part l =
    (held : List ℕ) → Holds256 l.initial.hasher held
    → Holds256 l.hasher (held ++ flat_map (λ part. part.now) (take l.part-index l.parts))
