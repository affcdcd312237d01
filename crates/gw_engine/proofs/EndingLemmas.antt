-- The line that tells why goes out, whole or in part.
use Rattle.std.proofs.Common.{◌≢◌, ℕ, List, Option, Result, Ok, Err, OnOk, OnErr, inl, inr, refl}
use Rattle.std.specs.Io.KnownBytes.{Appends}
use Rattle.gw_console.specs.Output.{AppendsBeginning}
use Rattle.gw_engine.specs.Ends.{stop_line, EndsWith}
use Rattle.gw_engine.specs.declared.stop.Stop.{Stop}
use Rattle.gw_engine.specs.declared.stop.Stop.TheVariants as stop

pub either_way : {E : Type 0} (why : Stop) (old new : Option (List ℕ)) (wrote : Result Unit E) → why ≢ stop.Output
    → OnOk wrote (Appends old new (stop_line why)) → OnErr wrote (AppendsBeginning old new (stop_line why)) → EndsWith (Err why) old new
either_way stop.Output old new wrote other whole part = absurd (other refl)
either_way stop.File old new (Ok _) other whole part = inl whole
either_way stop.File old new (Err _) other whole part = inr part
either_way stop.Hex old new (Ok _) other whole part = inl whole
either_way stop.Hex old new (Err _) other whole part = inr part
either_way (stop.Message number) old new (Ok _) other whole part = inl whole
either_way (stop.Message number) old new (Err _) other whole part = inr part
either_way (stop.Payload number offset) old new (Ok _) other whole part = inl whole
either_way (stop.Payload number offset) old new (Err _) other whole part = inr part
either_way (stop.Line number) old new (Ok _) other whole part = inl whole
either_way (stop.Line number) old new (Err _) other whole part = inr part
either_way stop.Memory old new (Ok _) other whole part = inl whole
either_way stop.Memory old new (Err _) other whole part = inr part
