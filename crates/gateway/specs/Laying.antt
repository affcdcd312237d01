-- Outbound packets that are laid first, and get their ICVs afterwards.
use Rattle.std.specs.Prelude.{◌≡◌, ◌++◌, ℕ, List, [], ◌∷◌, Option, Some, None, drop, map, slice_get, take}
use Rattle.base.specs.Octets.{Octets}
use Rattle.effects.specs.Taking.{Meaning}
use Rattle.sadb.specs.Database.{PairMap}
use Rattle.sadb.specs.Laying.{finished_at}
use Rattle.gateway.specs.Inputs.{Input}
use Rattle.gateway.specs.Runs.{StepsAs}
use Rattle.gateway.specs.States.{State}
use Rattle.gateway.specs.declared.output.Output.{Output}
use Rattle.gateway.specs.declared.output.Output.TheVariants as output

-- an output once its ESP packet has its ICV; one that is no ESP packet is finished
abbrev pub finished_output : PairMap → Output → Output
finished_output pairs (output.Sealed child number octets) = output.Sealed child number (finished_at pairs child number octets)
finished_output pairs (output.Reply octets closed) = output.Reply octets closed
finished_output pairs (output.Repeat octets) = output.Repeat octets
finished_output pairs (output.Request serial octets) = output.Request serial octets
finished_output pairs (output.Counted serial child closed) = output.Counted serial child closed
finished_output pairs (output.Ticked requests closed) = output.Ticked requests closed
finished_output pairs output.Done = output.Done
finished_output pairs (output.Up child number packet) = output.Up child number packet
finished_output pairs (output.Dummy child number) = output.Dummy child number
finished_output pairs (output.Clear packet) = output.Clear packet
finished_output pairs output.Discarded = output.Discarded
finished_output pairs (output.Dropped why) = output.Dropped why
finished_output pairs (output.Refused why) = output.Refused why

abbrev pub finished_outputs : PairMap → List Output → List Output
finished_outputs pairs outputs = map (finished_output pairs) outputs

-- outputs once those from a place on are finished
abbrev pub finished_from : ℕ → PairMap → List Output → List Output
finished_from start pairs outputs = take start outputs ++ finished_outputs pairs (drop start outputs)

-- the ESP packet in an output, none where there is no such packet
abbrev pub octets_in : Output → Octets
octets_in (output.Sealed child number octets) = octets
octets_in (output.Reply octets closed) = []
octets_in (output.Repeat octets) = []
octets_in (output.Request serial octets) = []
octets_in (output.Counted serial child closed) = []
octets_in (output.Ticked requests closed) = []
octets_in output.Done = []
octets_in (output.Up child number packet) = []
octets_in (output.Dummy child number) = []
octets_in (output.Clear packet) = []
octets_in output.Discarded = []
octets_in (output.Dropped why) = []
octets_in (output.Refused why) = []

abbrev pub octets_if : Option Output → Octets
octets_if None = []
octets_if (Some laid) = octets_in laid

-- the ESP packet at each place of a list of outputs
abbrev pub laid_at : List Output → ℕ → Octets
laid_at outputs i = octets_if (slice_get outputs i)

-- one input was taken, and its output appended
pub record TakesNext {C : Type 0} (meaning_of : C → Meaning) (given : Input) (old : State C) (before : List Output) (new : State C) (after : List Output) : Type 0 where
  pub said : Output
  pub appended : after ≡ before ++ said ∷ []
  pub steps : StepsAs meaning_of given old said new
