use Rattle.std.proofs.Common.{◌≡◌, ◌≤◌, ℕ, List, ◌++◌, ◌+◌, ◌-◌, ◌*◌, length, take}
use Rattle.std.specs.List.{flat_map}
use Rattle.mac.specs.KeyMaterial.{prf_block, prf_blocks}
use Rattle.mac.proofs.key_material.prf_plus.Given as goal

-- What was filled and the next block are the first blocks, of which that block is the last.
abbrev pub invariant-loop-out : goal.invariant-loop-out
invariant-loop-out l =
    let seed : List ℕ = flat_map (λ part. part.now) l.seed_parts in
    record {
      block : l.block ≡ prf_block l.fn.key seed l.number;
      blocks : take l.filled l.out ++ l.block ≡ prf_blocks l.fn.key seed l.number;
      place : l.filled + 32 ≡ 32 * l.number;
      within : l.filled ≤ length l.out;
    }

abbrev pub decreases-loop-out : goal.decreases-loop-out
decreases-loop-out l = length l.out - l.filled
