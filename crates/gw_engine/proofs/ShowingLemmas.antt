-- What is shown, and why nothing is.
use Rattle.std.proofs.Common.{rules, ◌≡◌, ◌≢◌, ◌<◌, ◌+◌, ℕ, List, [], ◌++◌, length, take, get_or, flat_map, Option, Ok, Err, refl, sym, ap, ◌∙◌}
use Rattle.std.proofs.lemmas.List.{take_more, flat_map_more}
use Rattle.std.specs.Io.KnownBytes.{Keeps}
use Rattle.hex.specs.Hex.{decode_of}
use Rattle.gw_console.specs.Digits.{digits_of}
use Rattle.gw_console.specs.Input.{IsWholeFile}
use Rattle.wire.specs.Refusals.{IsFaultOf}
use Rattle.wire.specs.declared.fault.WireFault.{WireFault}
use Rattle.wire.specs.declared.fault.WireFault.TheVariants as wire
use Rattle.gw_engine.specs.Ends.{stop_of_fault}
use Rattle.gw_engine.specs.Showing.{IsRefusedBy, ShowsBy}
use Rattle.gw_engine.specs.declared.stop.Stop.{Stop}
use Rattle.gw_engine.specs.declared.stop.Stop.TheVariants as stop

-- the text of one item more
pub one_more : {X : Type 0} (text_of : X → List ℕ) (xs : List X) (i : ℕ) (d : X) (before piece after : List ℕ) → i < length xs
    → before ≡ flat_map text_of (take i xs) → piece ≡ text_of (get_or xs i d) → after ≡ before ++ piece → after ≡ flat_map text_of (take (i + 1) xs)
one_more text_of xs i d before piece after below so_far one both =
    both ∙ ap (λ t. t ++ piece) so_far ∙ ap (λ t. flat_map text_of (take i xs) ++ t) one
    ∙ flat_map_more text_of [] (take i xs) (get_or xs i d) ∙ ap (flat_map text_of) (sym (take_more xs i d below))

pub faulty : (digits octets : List ℕ) (fault : WireFault) → decode_of (digits_of digits) ≡ Ok octets → (fault ≢ wire.Memory → IsFaultOf octets fault)
    → IsRefusedBy digits (stop_of_fault fault)
faulty digits octets wire.Memory decoded first = search rules
faulty digits octets wire.Short decoded first = record { octets = octets; fault = wire.Short; decoded = decoded; first = first (search rules); why_is = refl }
faulty digits octets wire.BadLength decoded first = record { octets = octets; fault = wire.BadLength; decoded = decoded; first = first (search rules); why_is = refl }
faulty digits octets wire.BadVersion decoded first = record { octets = octets; fault = wire.BadVersion; decoded = decoded; first = first (search rules); why_is = refl }
faulty digits octets wire.TooLong decoded first = record { octets = octets; fault = wire.TooLong; decoded = decoded; first = first (search rules); why_is = refl }
faulty digits octets (wire.BadChain offset) decoded first = record { octets = octets; fault = wire.BadChain offset; decoded = decoded; first = first (search rules); why_is = refl }
faulty digits octets (wire.BadProposal offset) decoded first = record { octets = octets; fault = wire.BadProposal offset; decoded = decoded; first = first (search rules); why_is = refl }
faulty digits octets (wire.BadSelector offset) decoded first = record { octets = octets; fault = wire.BadSelector offset; decoded = decoded; first = first (search rules); why_is = refl }
faulty digits octets (wire.BadNonce offset) decoded first = record { octets = octets; fault = wire.BadNonce offset; decoded = decoded; first = first (search rules); why_is = refl }
faulty digits octets (wire.BadField offset) decoded first = record { octets = octets; fault = wire.BadField offset; decoded = decoded; first = first (search rules); why_is = refl }

-- nothing goes out of a file that is refused
pub refused_file : (file : Option (List ℕ)) (digits : List ℕ) (why : Stop) (old new : Option (List ℕ)) → IsWholeFile file digits → IsRefusedBy digits why → Keeps old new
    → ShowsBy file (Err why) old new
refused_file file digits stop.Hex old new whole refused keeps = (record { digits = digits; whole = whole; refused = refused }, keeps)
refused_file file digits (stop.Message number) old new whole refused keeps = (record { digits = digits; whole = whole; refused = refused }, keeps)
refused_file file digits (stop.Payload number offset) old new whole refused keeps = (record { digits = digits; whole = whole; refused = refused }, keeps)
refused_file file digits stop.Memory old new whole refused keeps = keeps
refused_file file digits stop.File old new whole refused keeps = absurd refused
refused_file file digits (stop.Line number) old new whole refused keeps = absurd refused
refused_file file digits stop.Output old new whole refused keeps = absurd refused
