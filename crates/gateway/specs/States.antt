-- What a gateway holds.
use Rattle.std.specs.Prelude.{ℕ, List, Option, refl}
use Rattle.std.specs.Coded.{Coded, code_by, coded×}
use Rattle.policy.specs.declared.entry.Entry.{Entry}
use Rattle.sadb.specs.Database.{empty_table, Database, IsSoundTable}
use Rattle.association.specs.declared.phase.Association.{Association}
use Rattle.setup.specs.declared.config.Config.{Config}
use Rattle.ike.specs.Machines.{association_of, new_machine, Machine}
use Rattle.ike.specs.Moments.{IsTimely}
use Rattle.ike.specs.Soundness.{AreReservationsHeld, IsSoundMachine}

pub record State (C : Type 0) : Type 0 where
  -- the machine of IKE
  pub machine : Machine
  -- the table of SA pairs for ESP
  pub table : Database
  -- the policy
  pub entries : List Entry
  pub caller : C

abbrev pub state_code : {C : Type 0} → Coded Machine → Coded Database → Coded (List Entry) → Coded C → Coded (State C)
state_code {C} machine table entries caller =
    code_by (Machine × (Database × (List Entry × C))) (coded× machine (coded× table (coded× entries caller)))
    (λ s. (s.machine, (s.table, (s.entries, s.caller))))
    (λ c. record { machine = c.0; table = c.1.0; entries = c.1.1.0; caller = c.1.1.1 })
    (λ _. refl)

-- The invariant of a gateway's parts: the machine and the table satisfy theirs; all that is due by the greatest
-- time so far was done; and each SPI that is reserved is held by an IKE SA, so none is lost. What holds beside it
-- of every gateway is in `Staying`.
pub record IsSoundState {C : Type 0} (s : State C) : Type 0 where
  pub machine : IsSoundMachine s.machine s.table
  pub table : IsSoundTable s.table
  pub timely : IsTimely s.machine
  pub reservations : AreReservationsHeld s.machine.held s.table

-- the IKE SA with this serial, if it is held
abbrev pub association_in : {C : Type 0} → State C → ℕ → Option Association
association_in {C} s serial = association_of serial s.machine.held.associations

-- no IKE SA and no pair, and no SPI given
abbrev pub new_gateway : {C : Type 0} → Config → List Entry → ℕ → C → State C
new_gateway config entries start caller =
    record { machine = new_machine config; table = empty_table start; entries = entries; caller = caller }
