-- The response to a request for an additional Child SA, and what comes of it (RFC 7296 sections 1.3.1, 2.17
-- and 2.21.3).
use Rattle.std.specs.Prelude.{◌≡◌, ℕ, Bool, true, false, Option, Some, None}
use Rattle.suite.specs.declared.key_record.KeyRecord.{KeyRecord}
use Rattle.exchange.specs.declared.sealed.Plain.{Plain}
use Rattle.requests.specs.Outgoing.{CountsAnswer, OwnRequests}
use Rattle.sadb.specs.Database.{Database, Installs, Releases}
use Rattle.sadb.specs.declared.pair.Pair.{Pair}
use Rattle.association.specs.AskedChildren.{asked_of}
use Rattle.association.specs.Closing.{Closes}
use Rattle.association.specs.Outcomes.{IsDeclinedBy}
use Rattle.association.specs.Phases.{IsEstablished}
use Rattle.association.specs.declared.phase.Association.{Association}
use Rattle.association.specs.declared.phase.Phase.TheVariants as phase
use Rattle.association.specs.declared.phase.Request.{Request}
use Rattle.association.specs.declared.purpose.FurtherChild.{FurtherChild}
use Rattle.association.specs.declared.purpose.Purpose.TheVariants.{CreateChild}
use Rattle.association.specs.Issuing.{with_outgoing}
use Rattle.setup.specs.Configs.{Setup}
use Rattle.association.specs.declared.outcome.Ended.{Ended}
use Rattle.association.specs.declared.outcome.Fate.{Fate}
use Rattle.association.specs.declared.outcome.Fate.TheVariants as fate
use Rattle.further.specs.Concluding.{Concludes}
use Rattle.further.specs.declared.concluding.Conclusion.{Conclusion}
use Rattle.further.specs.declared.concluding.Conclusion.TheVariants as conclusion

-- a Child SA that is made has the SPI that was reserved for it
abbrev pub HasItsSpi : ℕ → Conclusion → Type 0
HasItsSpi spi conclusion.Closes = Unit {0}
HasItsSpi spi (conclusion.Made pair) = pair.inbound.association.spi ≡ spi
HasItsSpi spi conclusion.NoChild = Unit {0}

abbrev pub is_closing_conclusion : Conclusion → Bool
is_closing_conclusion conclusion.Closes = true
is_closing_conclusion (conclusion.Made pair) = false
is_closing_conclusion conclusion.NoChild = false

-- The IKE SA ends, and the Child SA's SPI is given up with those that it holds.
pub record EndsWithout (spi : ℕ) (old : Association) (table : Database) (moment : ℕ) (came : Fate) (new : Association) (new_table : Database) : Type 0 where
  pub closed : came ≡ fate.Closed
  pub between : Database
  pub released : Releases table spi between
  pub over : Closes old between moment new new_table

-- The Child SA is made, under its SPI.
pub record AddsUnder (spi : ℕ) (pair : Pair) (old : Association) (table : Database) (came : Fate) (new : Association) (new_table : Database) : Type 0 where
  pub serial : ℕ
  pub told : came ≡ fate.Made serial
  pub installed : Installs table spi pair serial new_table
  pub same : new ≡ old

-- No Child SA is made, and its SPI is given up.
pub record GoesOnWithout (spi : ℕ) (old : Association) (table : Database) (came : Fate) (new : Association) (new_table : Database) : Type 0 where
  pub stands : came ≡ fate.Stands
  pub released : Releases table spi new_table
  pub same : new ≡ old

abbrev pub EndsFurther : Conclusion → ℕ → Association → Database → ℕ → Fate → Association → Database → Type 0
EndsFurther conclusion.Closes spi old table moment came new new_table = EndsWithout spi old table moment came new new_table
EndsFurther (conclusion.Made pair) spi old table moment came new new_table = AddsUnder spi pair old table came new new_table
EndsFurther conclusion.NoChild spi old table moment came new new_table = GoesOnWithout spi old table came new new_table

-- The response is matched, and concluded on.
pub record CountsFurther (setup : Setup) (old : Association) (table : Database) (number : ℕ) (plain : Plain) (ended : Ended) (new : Association) (new_table : Database) : Type 0 where
  pub keys : KeyRecord
  pub established : old.phase ≡ phase.Established keys
  pub request : Request
  pub further : FurtherChild
  pub asked : request.purpose ≡ CreateChild further
  pub outgoing : OwnRequests Request
  pub counted : CountsAnswer old.outgoing number request outgoing
  pub conclusion : Conclusion
  pub concluded : Concludes setup.config.blocks old.serial keys (asked_of further.child) further.nonce plain conclusion
  pub declined : IsDeclinedBy plain ended.fate ended.declined
  pub ends : EndsFurther conclusion further.child.spi (with_outgoing old outgoing) table setup.moment ended.fate new new_table

-- It is matched at an established IKE SA. Elsewhere nothing is done.
abbrev pub CountsWhereAwaited : Setup → Association → Database → ℕ → Plain → Option Ended → Association → Database → Type 0
CountsWhereAwaited setup old table number plain None new new_table = (¬ IsEstablished old.phase) × (new ≡ old) × (new_table ≡ table)
CountsWhereAwaited setup old table number plain (Some ended) new new_table = CountsFurther setup old table number plain ended new new_table
