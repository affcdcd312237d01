-- What a call does that gives a gateway an input.
use Rattle.std.specs.Prelude.{◌≡◌, ◌⊎◌, ◌≢◌, ℕ, Option, None, Some, nat_eq, if◌then◌else◌}
use Rattle.gateway.specs.Inputs.{Input}
use Rattle.gateway.specs.Outputs.{OutputView}
use Rattle.gateway.specs.Steps.{Traces}
use Rattle.ike.specs.declared.output.Trace.{Trace}
use Rattle.suite.specs.declared.fresh.Fresh.{Fresh}
use Rattle.sukperin.specs.Meaning.{meaning_for}
use Rattle.sukperin.specs.Outputs.{left_of, told_of}
use Rattle.sukperin.specs.declared.end.End.{End}
use Rattle.sukperin.specs.declared.end.End.TheVariants.{Gateway}
use Rattle.sukperin.specs.declared.hosted.Hosted.{Hosted}
use Rattle.sukperin.specs.declared.inputs.SukFresh.{SukFresh}
use Rattle.sukperin.specs.declared.output.SukOutput.{SukOutput}

abbrev pub fresh_spelled : SukFresh → Fresh
fresh_spelled given = record { spi = given.spi; nonce = given.nonce; secret = given.secret; seal = given.seal }

-- a serial, where it is not 0
abbrev pub serial_named : ℕ → Option ℕ
serial_named serial = if nat_eq serial 0 then None else Some serial

-- The gateway takes one step. What is told and what is left to be taken are those of its output and its
-- trace.
pub record TakesInput (given : Input) (old new : Hosted) (told : SukOutput) : Type 0 where
  pub said : OutputView
  pub trace : Trace
  pub traces : Traces (meaning_for old.gateway.caller) given old.gateway said trace new.gateway
  pub told_is : told ≡ told_of said trace
  pub left_is : new.left ≡ left_of said
  pub tells_keys : new.tells_keys ≡ old.tells_keys

-- What a call does that gives an input: the gateway takes it, or there is none.
abbrev pub Takes : Input → Option End → ℕ → Option End → SukOutput → SukOutput → Type 0
Takes given (Some (Gateway old)) code after before told =
    (new : Hosted) × (code ≡ 0) × (after ≡ Some (Gateway new)) × TakesInput given old new told
Takes given old code after before told = (code ≡ 101) × (after ≡ old) × (told ≡ before)
