use Rattle.std.proofs.Common.{◌≡◌, Some, subst, ◌∙◌, sym}
use Rattle.ike.specs.Starting.{protecting_entry}
use Rattle.ike.proofs.EntryLemmas.{protecting_is_sound}
use Rattle.ike.proofs.starting.sound_entry.Goals as goal

pub returns-in-Some-clause-sound : goal.returns-in-Some-clause-sound
returns-in-Some-clause-sound g c =
    protecting_is_sound c.args.setup.now.policy.now c.args.place c.in-Some.entry c.entries.ensures.sound
    (subst (λ entries. protecting_entry entries c.args.place ≡ Some c.in-Some.entry) c.entries.ensures.entries (sym c.protecting_entry.ensures ∙ c.in-Some.is))
