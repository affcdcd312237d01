use Rattle.std.proofs.Common.{◌≡◌, ◌++◌, take, drop}
use Rattle.mac.specs.Hmac.{pad_with}
use Rattle.lanes.proofs.pads.padded.Given as goal

abbrev pub invariant-loop-octet : goal.invariant-loop-octet
invariant-loop-octet l =
    l.octet-items ≡ pad_with l.pad (take l.octet-index l.block) ++ drop l.octet-index l.block
