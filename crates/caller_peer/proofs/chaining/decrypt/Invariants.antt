use Rattle.std.proofs.Common.{◌/◌, length}
use Rattle.caller_peer.proofs.ChainingLemmas.{IsDecrypted}
use Rattle.caller_peer.proofs.chaining.decrypt.Given as goal

abbrev pub invariant-loop-i : goal.invariant-loop-i
invariant-loop-i l = IsDecrypted l.cipher l.before l.initial.text l.text l.previous (length l.initial.text / 16) l.i
