use Rattle.std.proofs.Common.{◌≡◌, ◌++◌, take, drop}
use Rattle.std.specs.List.{flat_map}
use Rattle.caller_script.proofs.cipher.ScriptCallerSealer.seal.Given as goal

-- The parts so far were appended, behind what stood there.
abbrev pub invariant-loop-part : goal.invariant-loop-part
invariant-loop-part l = record {
  appended : l.out.items ++ flat_map (λ part. part.now) (drop l.part-index l.part-items) ≡ l.fn.out.items ++ flat_map (λ part. part.now) l.part-items;
  before : take l.start l.out.items ≡ l.fn.out.items;
}
