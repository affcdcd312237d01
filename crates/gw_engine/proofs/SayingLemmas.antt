-- What a machine said so far, and at one line more.
use Rattle.std.proofs.Common.{◌≡◌, ℕ, zero, suc, ◌<◌, List, [], ◌∷◌, ◌++◌, length, get_or, slice_get, Option, Some, Err, refl, sym, ap, subst, ◌∙◌, append_assoc, arith}
use Rattle.std.proofs.lemmas.List.{append-nil}
use Rattle.std.specs.Io.KnownBytes.{Appends}
use Rattle.gw_script.specs.declared.fault.LineFault.{LineFault}
use Rattle.gw_script.specs.declared.fault.LineFault.TheVariants as fault
use Rattle.gw_script.specs.declared.lines.Line.{Line}
use Rattle.gw_engine.specs.Ends.{stop_of_line}
use Rattle.gw_engine.specs.Printing.{whole_text, EndsBy, SaysInTurn, StopsAt}

-- the texts of so many lines are written
pub record HasSaid {M : Type 0} (says : M → List ℕ → List ℕ → M → Type 0) (machine : M) (lines : List Line) (count : ℕ) (next : M) (old new : Option (List ℕ)) : Type 0 where
  pub texts : List (List ℕ)
  pub count_is : length texts ≡ count
  pub in_turn : SaysInTurn says machine lines texts next
  pub written : Appends old new (whole_text texts)

pub one_more : {M : Type 0} (says : M → List ℕ → List ℕ → M → Type 0) (machine : M) (lines : List Line) (texts : List (List ℕ)) (before : M) (default : Line) (text : List ℕ) (next : M)
    → SaysInTurn says machine lines texts before → length texts < length lines → says before (get_or lines (length texts) default).text.now text next → SaysInTurn says machine lines (texts ++ text ∷ []) next
one_more says machine [] [] before default text next turn below said = absurd (omega (arith, below))
one_more says machine (first ∷ lines) [] before default text next turn below said = (next, subst (λ m. says m first.text.now text next) (sym turn) said, refl)
one_more says machine [] (t ∷ texts) before default text next turn below said = absurd turn
one_more says machine (first ∷ lines) (t ∷ texts) before default text next turn below said =
    (turn.0, turn.1, one_more says turn.0 lines texts before default text next turn.2 (omega (arith, below)) said)

pub whole_with : (texts : List (List ℕ)) (text : List ℕ) → whole_text (texts ++ text ∷ []) ≡ whole_text texts ++ text
whole_with [] text = append-nil text
whole_with (first ∷ texts) text = ap (λ (t : List ℕ). first ++ t) (whole_with texts text) ∙ sym (append_assoc first (whole_text texts) text)

pub at_place : (lines : List Line) (place : ℕ) (default : Line) → place < length lines → slice_get lines place ≡ Some (get_or lines place default)
at_place [] place default below = absurd (omega (arith, below))
at_place (first ∷ lines) zero default below = refl
at_place (first ∷ lines) (suc place) default below = at_place lines place default (omega (arith, below))

-- a line that is refused ends it by its reason
pub ends_at : {M : Type 0} (refuses : M → List ℕ → LineFault → M → Type 0) (lines : List Line) (texts : List (List ℕ)) (last behind : M) (why : LineFault) (old new : Option (List ℕ))
    → (stops : StopsAt refuses lines texts last behind why old new) → EndsBy refuses lines texts last behind (Err (stop_of_line stops.line.number why)) old new
ends_at refuses lines texts last behind fault.Refused old new stops = (stops, refl)
ends_at refuses lines texts last behind fault.Memory old new stops = stops
