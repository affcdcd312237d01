use Rattle.std.proofs.Common.{length, ap, inl, inr, arith}
use Rattle.policy.proofs.EntryLemmas.{nothing, sound_more_in, first_fault_in, all_sound}
use Rattle.policy.proofs.policy.Policy.new.Goals as goal
use Rattle.policy.proofs.policy.Policy.new.Goals.{then-index-ge-ENTRY_LIMIT-via-then-index-ge-ENTRY_LIMIT, then-index-ge-ENTRY_LIMIT-via-else-index-ge-ENTRY_LIMIT+then-not-is_sound}

pub returns-then-index-ge-ENTRY_LIMIT-clause-fault : goal.returns-then-index-ge-ENTRY_LIMIT-clause-fault
returns-then-index-ge-ENTRY_LIMIT-clause-fault c =
    elim c.then-index-ge-ENTRY_LIMIT.branch [
      | then-index-ge-ENTRY_LIMIT-via-then-index-ge-ENTRY_LIMIT w ↦
          first_fault_in c.args.entries _ c.loop-index.index nothing c.as_slice-entry-items.ensures c.loop-index-test.true (inr (omega arith)) c.loop-index.invariant
      | then-index-ge-ENTRY_LIMIT-via-else-index-ge-ENTRY_LIMIT+then-not-is_sound w ↦
          first_fault_in c.args.entries _ c.loop-index.index _ c.as_slice-entry-items.ensures c.loop-index-test.true (inl (λ ordered. let yes = w.is_sound.ensures.1 ordered in absurd (cc))) c.loop-index.invariant
    ]

pub loop-index-preserved : goal.loop-index-preserved
loop-index-preserved c = sound_more_in c.args.entries _ c.loop-index.index _ c.as_slice-entry-items.ensures c.loop-index-test.true c.if-index-ge-ENTRY_LIMIT.false (c.is_sound.ensures.0 c.if-not-is_sound.false) c.loop-index.invariant

pub returns-clause-sound : goal.returns-clause-sound
returns-clause-sound c = all_sound c.args.entries c.loop-index.index (omega (arith, ap length c.as_slice-entry-items.ensures)) c.loop-index.invariant
