-- What an exchange makes of an IKE SA, and what a matched response tells of what was asked (RFC 7296 sections
-- 1.2, 1.3.1, 1.4.1, 2.21 and 3.10.1).
use Rattle.std.specs.Prelude.{◌≡◌, ℕ, Bool, true, false, Option, Some, None}
use Rattle.exchange.specs.Chains.{TellsError}
use Rattle.exchange.specs.declared.sealed.Plain.{Plain}
use Rattle.association.specs.declared.outcome.Fate.{Fate}
use Rattle.association.specs.declared.outcome.Fate.TheVariants as fate

-- the serial of the Child SA that was made
abbrev pub made_by : Fate → Option ℕ
made_by fate.Stands = None
made_by (fate.Made serial) = Some serial
made_by fate.Closed = None

-- whether the IKE SA is closed
abbrev pub closed_by : Fate → Bool
closed_by fate.Stands = false
closed_by (fate.Made serial) = false
closed_by fate.Closed = true

-- where no Child SA can be made, the IKE SA is closed or stands
abbrev pub childless : Bool → Fate
childless true = fate.Closed
childless false = fate.Stands

-- an error declines where no Child SA was made
abbrev pub unless_made : Fate → Option ℕ → Option ℕ
unless_made fate.Stands error = error
unless_made (fate.Made serial) error = None
unless_made fate.Closed error = error

-- the Notify payload by which the peer declined what was asked: the first error notification of its answer,
-- where no Child SA was made of that
pub record IsDeclinedBy (plain : Plain) (came : Fate) (declined : Option ℕ) : Type 0 where
  pub error : Option ℕ
  pub told : TellsError plain error
  pub due : declined ≡ unless_made came error
