-- An entry that protects is one of the policy, and so it is sound.
use Rattle.std.proofs.Common.{◌≡◌, ℕ, List, Option, None, Some}
use Rattle.std.specs.List.{slice_get}
use Rattle.policy.specs.Entries.{IsSoundEntry, IsSoundPolicy}
use Rattle.policy.specs.declared.entry.Action.{Action}
use Rattle.policy.specs.declared.entry.Action.TheVariants as action
use Rattle.policy.specs.declared.entry.Entry.{Entry}
use Rattle.ike.specs.Starting.{if_protects, protecting, protecting_entry}

same_entry : (a : Action) (x e : Entry) → if_protects a x ≡ Some e → Some x ≡ Some e
same_entry action.Protect x e is = is
same_entry action.Bypass x e is = absurd cc
same_entry action.Discard x e is = absurd cc

protecting_is : (o : Option Entry) (e : Entry) → protecting o ≡ Some e → o ≡ Some e
protecting_is None e is = absurd cc
protecting_is (Some x) e is = same_entry x.action x e is

pub protecting_is_sound : (entries : List Entry) (place : ℕ) (e : Entry) → IsSoundPolicy entries → protecting_entry entries place ≡ Some e → IsSoundEntry e
protecting_is_sound entries place e sound is = sound.each place e (protecting_is (slice_get entries place) e is)
