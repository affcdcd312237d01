-- While an IKE SA waits for the answer to its own deletion no command sends another request under it.
use Rattle.std.proofs.Common.{◌≡◌, ℕ, Option, Some, None, List, ap, subst, sym, ◌∙◌, true}
use Rattle.base.specs.Octets.{Octets}
use Rattle.policy.specs.declared.entry.Entry.{Entry}
use Rattle.suite.specs.declared.keys.Keys.{Keys}
use Rattle.sadb.specs.Database.{Database}
use Rattle.association.specs.Purposes.{AwaitsDeletion}
use Rattle.association.specs.declared.phase.Association.{Association}
use Rattle.setup.specs.Configs.{Setup}
use Rattle.effects.specs.Taking.{Meaning}
use Rattle.ike.specs.Asking.{AsksAt, AsksFor}
use Rattle.ike.specs.Machines.{association_of, setup_at, Held, Machine}
use Rattle.ike.specs.Orders.{OrderView}
use Rattle.ike.specs.Orders as orders
use Rattle.ike.specs.Soundness.{AreSound}
use Rattle.ike.specs.Starting.{BeginsBy, FurthersBy}
use Rattle.ike.specs.StepLaws.{AsksWhileNotDeleting}
use Rattle.ike.specs.Steps.{is_command, InputView, Steps}
use Rattle.ike.specs.Steps as steps
use Rattle.ike.specs.declared.output.IkeOutput.{IkeOutput}
use Rattle.ike.specs.declared.output.IkeOutput.TheVariants as output
use Rattle.ike.specs.declared.output.Stepped.{Stepped}
use Rattle.ike.proofs.AskingLemmas.{probed_first}
use Rattle.ike.proofs.SerialLemmas.{none_next, same_one}

-- the IKE SA that a request is sent under
abbrev asks_under : IkeOutput → ℕ
asks_under (output.Request ike octets) = ike
asks_under o = 0

none_there : (a : Association) → None ≡ Some a → ⊥
none_there a is = cc

module _ (setup : Setup) (old : Held) (table : Database) (stepped : Stepped) (new : Held) (sound : AreSound old table) where
  by_one : (body_of : Keys → Octets → Octets → Octets → Octets) (ike : ℕ) (is : AsksAt body_of setup ike old stepped new) → ¬ AwaitsDeletion is.association.outgoing → AsksWhileNotDeleting old stepped
  by_one body_of ike is none serial octets a said there =
      let one : ike ≡ serial = ap asks_under (sym (ap (λ (s : Stepped). s.output) is.said) ∙ said) in
      let same : is.association ≡ a = same_one is.association a
      (sym (subst (λ (n : ℕ). association_of n old.associations ≡ Some is.association) one (probed_first body_of setup ike old stepped new is)) ∙ there) in
      subst (λ (x : Association). ¬ AwaitsDeletion x.outgoing) same none

  begun_asks : (meaning : Meaning) (place : ℕ) (new_table : Database) → BeginsBy meaning setup place old table stepped new new_table → AsksWhileNotDeleting old stepped
  begun_asks meaning place new_table is serial octets a said there =
      let one : old.next ≡ serial = ap asks_under (sym (ap (λ (s : Stepped). s.output) is.done.said) ∙ said) in
      absurd (none_there a (sym (none_next old table sound) ∙ subst (λ (n : ℕ). association_of n old.associations ≡ Some a) (sym one) there))

  further_asks : (meaning : Meaning) (ike place : ℕ) (new_table : Database) → FurthersBy meaning setup ike place old table stepped new new_table → AsksWhileNotDeleting old stepped
  further_asks meaning ike place new_table is = by_one meaning.body_of ike is.asks.asks is.asks.further.not_deleting

  order_asks : (body_of : Keys → Octets → Octets → Octets → Octets) (what : OrderView) (new_table : Database) → AsksFor body_of setup what old table stepped new new_table → AsksWhileNotDeleting old stepped
  order_asks body_of (orders.Probe ike) new_table is = by_one body_of ike is.asks is.ordered.not_deleting
  order_asks body_of (orders.DeleteChild serial) new_table is = by_one body_of is.pair.ike is.asks.asks is.asks.ordered.not_deleting
  order_asks body_of (orders.DeleteIke ike) new_table is = by_one body_of ike is.asks is.ordered.not_deleting

pub command_asks : (meaning : Meaning) (entries : List Entry) (input : InputView) (old : Machine) (table : Database) (stepped : Stepped) (new : Machine) (new_table : Database)
    → AreSound old.held table → Steps meaning entries input old table stepped new new_table → is_command input ≡ true → AsksWhileNotDeleting old.held stepped
command_asks meaning entries (steps.Message from octets fresh) old table stepped new new_table sound is commands = absurd cc
command_asks meaning entries (steps.Start None place fresh) old table stepped new new_table sound is commands =
    begun_asks (setup_at old entries fresh) old.held table stepped new.held sound meaning place new_table is.1
command_asks meaning entries (steps.Start (Some ike) place fresh) old table stepped new new_table sound is commands =
    further_asks (setup_at old entries fresh) old.held table stepped new.held sound meaning ike place new_table is.1
command_asks meaning entries (steps.Order what fresh) old table stepped new new_table sound is commands =
    order_asks (setup_at old entries fresh) old.held table stepped new.held sound meaning.body_of what new_table is.1
command_asks meaning entries (steps.Secret secret) old table stepped new new_table sound is commands = absurd cc
command_asks meaning entries (steps.Tick moment) old table stepped new new_table sound is commands = absurd cc
