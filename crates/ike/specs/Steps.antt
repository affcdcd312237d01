-- One step: what a datagram or a command does, and why it is refused.
use Rattle.std.specs.Prelude.{◌≡◌, ◌+◌, ◌<◌, ◌^◌, ℕ, Bool, true, false, Option, List, max}
use Rattle.base.specs.Octets.{Octets}
use Rattle.policy.specs.declared.entry.Entry.{Entry}
use Rattle.suite.specs.declared.fresh.Fresh.{Fresh}
use Rattle.sadb.specs.Database.{Database}
use Rattle.sa_init.specs.Cookies.{changed}
use Rattle.effects.specs.Taking.{Meaning}
use Rattle.ike.specs.Machines.{setup_at, Machine}
use Rattle.ike.specs.Outputs.{plain_step}
use Rattle.ike.specs.Asking.{AsksFor, RefusesAsking}
use Rattle.ike.specs.Receiving.{RefusesDatagram, TakesDatagram}
use Rattle.ike.specs.Starting.{RefusesStart, Starts}
use Rattle.ike.specs.Ticking.{RefusesMoment, TakesMoment}
use Rattle.ike.specs.declared.fault.IkeFault.{IkeFault}
use Rattle.ike.specs.declared.fault.IkeFault.TheVariants.{NumbersSpent}
use Rattle.ike.specs.Orders.{OrderView}
use Rattle.ike.specs.Orders as orders
use Rattle.ike.specs.declared.input.IkeInput.{IkeInput}
use Rattle.ike.specs.declared.input.IkeInput.TheVariants as input
use Rattle.ike.specs.declared.output.IkeOutput.TheVariants.{Done}
use Rattle.ike.specs.declared.output.Stepped.{Stepped}

-- an input as plain data
pub data InputView : Type 0 where
  Message : Octets → Octets → Fresh → InputView
  Start : Option ℕ → ℕ → Fresh → InputView
  Order : OrderView → Fresh → InputView
  Secret : Octets → InputView
  Tick : ℕ → InputView

abbrev pub input_view : IkeInput → InputView
input_view (input.Message from octets fresh) = Message from octets.now fresh.now
input_view (input.Start ike entry fresh) = Start ike entry fresh.now
input_view (input.Probe ike fresh) = Order (orders.Probe ike) fresh.now
input_view (input.DeleteChild child fresh) = Order (orders.DeleteChild child) fresh.now
input_view (input.DeleteIke ike fresh) = Order (orders.DeleteIke ike) fresh.now
input_view (input.Secret secret) = Secret secret.now
input_view (input.Tick moment) = Tick moment

-- the input is a `Tick`
abbrev pub is_tick : InputView → Bool
is_tick (Tick moment) = true
is_tick _ = false

-- The input is a command of the caller's: to bring up an IKE SA or a Child SA, for a liveness check, or to
-- delete one.
abbrev pub is_command : InputView → Bool
is_command (Start ike place fresh) = true
is_command (Order what fresh) = true
is_command _ = false

-- the list of IKE SAs may change, and nothing else
abbrev pub KeepsRest : Machine → Machine → Type 0
KeepsRest old new = new ≡ record old { held = new.held }

-- cookies are made under another secret from now on (section 2.6)
pub record ChangesSecret (secret : Octets) (old : Machine) (table : Database) (stepped : Stepped) (new : Machine) (new_table : Database) : Type 0 where
  pub left : old.cookies.version + 1 < 2 ^ 32
  pub said : stepped ≡ plain_step Done
  pub content : new ≡ record old { cookies = changed old.cookies secret }
  pub unchanged : new_table ≡ table

-- no version of the secrets is left
abbrev pub RefusesSecret : Machine → IkeFault → Type 0
RefusesSecret old NumbersSpent = ¬ (old.cookies.version + 1 < 2 ^ 32)
RefusesSecret old reason = ⊥

abbrev pub Steps : Meaning → List Entry → InputView → Machine → Database → Stepped → Machine → Database → Type 0
Steps meaning entries (Message from octets fresh) old table stepped new new_table =
    KeepsRest old new × TakesDatagram meaning (setup_at old entries fresh) old.cookies from octets old.held table stepped new.held new_table
Steps meaning entries (Start ike place fresh) old table stepped new new_table =
    KeepsRest old new × Starts meaning (setup_at old entries fresh) ike place old.held table stepped new.held new_table
Steps meaning entries (Order what fresh) old table stepped new new_table =
    KeepsRest old new × AsksFor meaning.body_of (setup_at old entries fresh) what old.held table stepped new.held new_table
Steps meaning entries (Secret secret) old table stepped new new_table = ChangesSecret secret old table stepped new new_table
Steps meaning entries (Tick moment) old table stepped new new_table = TakesMoment moment old table stepped new new_table

abbrev pub Refuses : Meaning → List Entry → InputView → Machine → Database → IkeFault → Type 0
Refuses meaning entries (Message from octets fresh) old table reason =
    RefusesDatagram meaning (setup_at old entries fresh) old.cookies from octets old.held table reason
Refuses meaning entries (Start ike place fresh) old table reason = RefusesStart entries fresh ike place old.held table reason
Refuses meaning entries (Order what fresh) old table reason = RefusesAsking what old.held table reason
Refuses meaning entries (Secret secret) old table reason = RefusesSecret old reason
Refuses meaning entries (Tick moment) old table reason = RefusesMoment (max old.moment moment) old.held.associations reason
