-- The Child SA that a step makes has few selectors.
use Rattle.std.proofs.Common.{◌≡◌, inl, inr, List, Some, None, ap, subst, sym, ◌∙◌}
use Rattle.base.specs.Octets.{Octets}
use Rattle.wire.specs.declared.message.Message.{Message}
use Rattle.policy.specs.declared.entry.Entry.{Entry}
use Rattle.suite.specs.declared.fresh.Fresh.{Fresh}
use Rattle.suite.specs.declared.key_record.KeyRecord.{KeyRecord}
use Rattle.sadb.specs.Database.{pair_at, Database, IsSoundTable}
use Rattle.sadb.specs.declared.pair.Pair.{Pair}
use Rattle.association.specs.declared.phase.Association.{Association}
use Rattle.children.specs.Pairs.{HasFewSelectors}
use Rattle.effects.specs.Children.{MadeBy}
use Rattle.setup.specs.Configs.{Setup}
use Rattle.effects.specs.Taking.{Meaning}
use Rattle.effects.specs.declared.taking.Effect.{Effect}
use Rattle.effects.specs.declared.taking.Effect.TheVariants as effect
use Rattle.ike.proofs.WayLemmas.{asked_one, further_one}
use Rattle.ike.specs.Children.{MakesChildOf}
use Rattle.ike.specs.Machines.{setup_at, Machine}
use Rattle.ike.specs.Outputs.{plain_step}
use Rattle.ike.specs.Soundness.{IsSoundMachine}
use Rattle.ike.specs.Steps.{InputView, Steps}
use Rattle.ike.specs.Steps as steps
use Rattle.ike.specs.declared.output.IkeOutput.{IkeOutput}
use Rattle.ike.specs.declared.output.MadeChild.{MadeChild}
use Rattle.ike.specs.declared.output.Stepped.{Stepped}

-- what is known of Child SAs
pub record FirstLaw : Type 0 where
  pub made : (meaning : Meaning) (entries : List Entry) (from octets : Octets) (fresh : Fresh) (old : Machine) (table : Database) (stepped : Stepped) (made : MadeChild) (new : Machine) (new_table : Database)
      → IsSoundTable table → IsSoundMachine old table → Steps meaning entries (steps.Message from octets fresh) old table stepped new new_table
      → stepped.trace.child ≡ Some made → MakesChildOf meaning (setup_at old entries fresh) octets old.held table stepped made new.held new_table

no_child : (said : IkeOutput) (stepped : Stepped) (made : MadeChild) → stepped ≡ plain_step said → stepped.trace.child ≡ Some made → ⊥
no_child said stepped made is e = let none : None ≡ Some made = sym (ap (λ (s : Stepped). s.trace.child) is) ∙ e in cc

none_made : (made : MadeChild) → None ≡ Some made → ⊥
none_made made e = cc

few_by : (meaning : Meaning) (setup : Setup) (old : Association) (octets : Octets) (m : Message) (e : Effect) (keys : KeyRecord) (pair : Pair) → MadeBy meaning setup old octets m e keys pair → HasFewSelectors pair
few_by meaning setup old octets m (effect.Refused fault) keys pair is = absurd is
few_by meaning setup old octets m (effect.Repeated said) keys pair is = absurd is
few_by meaning setup old octets m (effect.Replied answered) keys pair is = is.1.is.few
few_by meaning setup old octets m (effect.Again next) keys pair is = absurd is
few_by meaning setup old octets m (effect.AsksAuth next) keys pair is = absurd is
few_by meaning setup old octets m (effect.Counted ended) keys pair (inl is) = is.is.few
few_by meaning setup old octets m (effect.Counted ended) keys pair (inr is) = is.is.few

same_pair : (a b : Pair) → Some a ≡ Some b → a ≡ b
same_pair a b e = cc

pub few_selectors : FirstLaw → (meaning : Meaning) (entries : List Entry) (input : InputView) (old : Machine) (table : Database) (stepped : Stepped) (new : Machine) (new_table : Database) (made : MadeChild) (pair : Pair)
    → IsSoundTable table → IsSoundMachine old table → Steps meaning entries input old table stepped new new_table → stepped.trace.child ≡ Some made
    → pair_at new_table.pairs made.serial ≡ Some pair → HasFewSelectors pair
few_selectors law meaning entries (steps.Message from octets fresh) old table stepped new new_table made pair st sm is e there =
    let first = law.made meaning entries from octets fresh old table stepped made new new_table st sm is e in
    let few = few_by meaning (setup_at old entries fresh) first.was octets first.message first.effect first.makes.keys first.makes.pair first.makes.made in
    subst (λ (p : Pair). HasFewSelectors p) (same_pair first.makes.pair pair (sym first.makes.brings.there ∙ there)) few
few_selectors law meaning entries (steps.Start None place fresh) old table stepped new new_table made pair st sm is e there = absurd (no_child _ stepped made is.1.done.said e)
few_selectors law meaning entries (steps.Start (Some asker) place fresh) old table stepped new new_table made pair st sm is e there =
    let one = further_one meaning (setup_at old entries fresh) asker place old.held table stepped new.held new_table is.1 in
    absurd (none_made made (sym (ap (λ (s : Stepped). s.trace.child) one.probes.said) ∙ e))
few_selectors law meaning entries (steps.Order what fresh) old table stepped new new_table made pair st sm is e there =
    let one = asked_one meaning (setup_at old entries fresh) what old.held table stepped new.held new_table is.1 in
    absurd (none_made made (sym (ap (λ (s : Stepped). s.trace.child) one.probes.said) ∙ e))
few_selectors law meaning entries (steps.Tick moment) old table stepped new new_table made pair st sm is e there = absurd (no_child _ stepped made is.takes.said e)
few_selectors law meaning entries (steps.Secret secret) old table stepped new new_table made pair st sm is e there = absurd (no_child _ stepped made is.said e)
