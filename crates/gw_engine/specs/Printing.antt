-- What goes out while a script is played, and how that ends.
use Rattle.std.specs.Prelude.{◌≡◌, ◌⊎◌, ◌≤◌, ⊤, ℕ, List, [], ◌∷◌, ◌++◌, length, map, slice_get, Option, Some, Result, Ok, Err}
use Rattle.std.specs.Io.KnownBytes.{Appends}
use Rattle.gw_script.specs.declared.fault.LineFault.{LineFault}
use Rattle.gw_script.specs.declared.fault.LineFault.TheVariants as fault
use Rattle.gw_script.specs.declared.kind.Kind.{Kind}
use Rattle.gw_script.specs.declared.kind.Kind.TheVariants.{One, Two}
use Rattle.gw_script.specs.declared.lines.Line.{Line}
use Rattle.gw_script.specs.Kinds.{word_of}
use Rattle.gw_script.specs.Lines.{directives_of, first_of, lines_of, told_by}
use Rattle.gw_console.specs.Input.{IsWholeFile}
use Rattle.gw_console.specs.Status.{exit_code}
use Rattle.gw_console.specs.declared.status.Status.{Status}
use Rattle.gw_engine.specs.Ends.{status_of, EndsWith}
use Rattle.gw_engine.specs.declared.stop.Stop.{Stop}
use Rattle.gw_engine.specs.declared.stop.Stop.TheVariants as stop

-- the texts, one after the other
abbrev pub whole_text : List (List ℕ) → List ℕ
whole_text [] = []
whole_text (text ∷ texts) = text ++ whole_text texts

-- in turn, a machine says these texts at the first so many lines, and becomes the last machine
abbrev pub SaysInTurn : {M : Type 0} → (M → List ℕ → List ℕ → M → Type 0) → M → List Line → List (List ℕ) → M → Type 0
SaysInTurn says machine lines [] last = machine ≡ last
SaysInTurn says machine [] (text ∷ texts) last = ⊥
SaysInTurn {M} says machine (line ∷ lines) (text ∷ texts) last = (next : M) × says machine line.text.now text next × SaysInTurn says next lines texts last

-- All lines are played, and all that was said is written.
pub record Completes {M : Type 0} (lines : List Line) (texts : List (List ℕ)) (last behind : M) (old new : Option (List ℕ)) : Type 0 where
  pub all : length texts ≡ length lines
  pub machine : behind ≡ last
  pub appended : Appends old new (whole_text texts)

-- What was said last is written in part, and all before it whole.
pub record BreaksOff {M : Type 0} (texts : List (List ℕ)) (last behind : M) (old new : Option (List ℕ)) : Type 0 where
  pub before : List (List ℕ)
  pub written : List ℕ
  pub left : List ℕ
  pub some : 1 ≤ length left
  pub texts_are : texts ≡ before ++ (written ++ left) ∷ []
  pub machine : behind ≡ last
  pub appended : Appends old new (whole_text before ++ written)

-- The next line is refused for this reason, and all that was said before is written.
pub record StopsAt {M : Type 0} (refuses : M → List ℕ → LineFault → M → Type 0) (lines : List Line) (texts : List (List ℕ)) (last behind : M) (why : LineFault) (old new : Option (List ℕ)) : Type 0 where
  pub line : Line
  pub there : slice_get lines (length texts) ≡ Some line
  pub refused : refuses last line.text.now why behind
  pub appended : Appends old new (whole_text texts)

-- how it ends, after these texts, by the outcome
abbrev pub EndsBy : {M : Type 0} → (M → List ℕ → LineFault → M → Type 0) → List Line → List (List ℕ) → M → M → Result Unit Stop → Option (List ℕ) → Option (List ℕ) → Type 0
EndsBy refuses lines texts last behind (Ok _) old new = Completes lines texts last behind old new
EndsBy refuses lines texts last behind (Err stop.Output) old new = BreaksOff texts last behind old new
EndsBy refuses lines texts last behind (Err (stop.Line number)) old new = (stops : StopsAt refuses lines texts last behind fault.Refused old new) × (number ≡ stops.line.number)
EndsBy refuses lines texts last behind (Err stop.Memory) old new = StopsAt refuses lines texts last behind fault.Memory old new
EndsBy refuses lines texts last behind (Err stop.File) old new = ⊥
EndsBy refuses lines texts last behind (Err stop.Hex) old new = ⊥
EndsBy refuses lines texts last behind (Err (stop.Message number)) old new = ⊥
EndsBy refuses lines texts last behind (Err (stop.Payload number offset)) old new = ⊥

-- What goes out is what the machine says in turn: at all lines, or up to the first that it refuses, or to
-- where it can't be written.
pub record Prints {M : Type 0} (says : M → List ℕ → List ℕ → M → Type 0) (refuses : M → List ℕ → LineFault → M → Type 0) (machine behind : M) (lines : List Line) (outcome : Result Unit Stop) (old new : Option (List ℕ)) : Type 0 where
  pub texts : List (List ℕ)
  pub last : M
  pub in_turn : SaysInTurn says machine lines texts last
  pub ends : EndsBy refuses lines texts last behind outcome old new

-- The status is 0 exactly where all was played and printed. Else the line that tells why goes out, or a
-- beginning of it, unless the output can't be written any more.
pub record Plays {M : Type 0} (says : M → List ℕ → List ℕ → M → Type 0) (refuses : M → List ℕ → LineFault → M → Type 0) (machine behind : M) (lines : List Line) (status : Status) (old new : Option (List ℕ)) : Type 0 where
  pub outcome : Result Unit Stop
  pub printed : Option (List ℕ)
  pub prints : Prints says refuses machine behind lines outcome old printed
  pub status_is : status ≡ status_of outcome
  pub ends : EndsWith outcome printed new

-- The file is a script of this kind, and these lines are its directives, in their order.
pub record IsScript (file : Option (List ℕ)) (kind : Kind) (lines : List Line) : Type 0 where
  pub script : List ℕ
  pub whole : IsWholeFile file script
  pub named : first_of (lines_of script) ≡ word_of kind
  pub lines_are : map told_by lines ≡ directives_of script

-- The script in the file is of this kind, and its machine plays it: all that this says at the directives, in their
-- order, goes out, or a beginning of that, as `Plays` has it.
pub record PlaysItsLines {M : Type 0} (says : M → List ℕ → List ℕ → M → Type 0) (refuses : M → List ℕ → LineFault → M → Type 0) (machine behind : M) (kind : Kind) (file : Option (List ℕ)) (code : ℕ) (old new : Option (List ℕ)) : Type 0 where
  pub lines : List Line
  pub script : IsScript file kind lines
  pub status : Status
  pub code_is : code ≡ exit_code status
  pub plays : Plays says refuses machine behind lines status old new

-- The machine of the script's kind plays it, and the other one stays as it is.
abbrev pub PlaysBy : {A B : Type 0} → (A → List ℕ → List ℕ → A → Type 0) → (A → List ℕ → LineFault → A → Type 0) → (B → List ℕ → List ℕ → B → Type 0) → (B → List ℕ → LineFault → B → Type 0)
    → A → A → B → B → Option (List ℕ) → ℕ → Option (List ℕ) → Option (List ℕ) → Type 0
PlaysBy one_says one_refuses two_says two_refuses one one_behind two two_behind file code old new =
    (PlaysItsLines one_says one_refuses one one_behind One file code old new × (two_behind ≡ two))
    ⊎ (PlaysItsLines two_says two_refuses two two_behind Two file code old new × (one_behind ≡ one))

-- its first line names no kind of script
pub record NamesNoKind (file : Option (List ℕ)) : Type 0 where
  pub script : List ℕ
  pub whole : IsWholeFile file script
  pub unnamed : (kind : Kind) → ¬ (first_of (lines_of script) ≡ word_of kind)

-- why nothing of a file is played: it is not read, or there is no memory, or its first line names no kind
abbrev pub IsNoScript : Option (List ℕ) → Stop → Type 0
IsNoScript file stop.File = ⊤
IsNoScript file stop.Memory = ⊤
IsNoScript file (stop.Line number) = NamesNoKind file × (number ≡ 1)
IsNoScript file stop.Output = ⊥
IsNoScript file stop.Hex = ⊥
IsNoScript file (stop.Message number) = ⊥
IsNoScript file (stop.Payload number offset) = ⊥

-- Nothing is played, and the line that tells why goes out, or a beginning of that.
pub record StopsUnplayed (file : Option (List ℕ)) (code : ℕ) (old new : Option (List ℕ)) : Type 0 where
  pub why : Stop
  pub because : IsNoScript file why
  pub code_is : code ≡ exit_code (status_of (Err why))
  pub ends : EndsWith (Err why) old new

-- What becomes of the script in the file, by two machines. Where it isn't played both stay as they are.
abbrev pub PlaysScriptBy : {A B : Type 0} → (A → List ℕ → List ℕ → A → Type 0) → (A → List ℕ → LineFault → A → Type 0) → (B → List ℕ → List ℕ → B → Type 0) → (B → List ℕ → LineFault → B → Type 0)
    → A → A → B → B → Option (List ℕ) → ℕ → Option (List ℕ) → Option (List ℕ) → Type 0
PlaysScriptBy one_says one_refuses two_says two_refuses one one_behind two two_behind file code old new =
    PlaysBy one_says one_refuses two_says two_refuses one one_behind two two_behind file code old new
    ⊎ (StopsUnplayed file code old new × (one_behind ≡ one) × (two_behind ≡ two))

-- whatever a machine says or refuses
abbrev pub says_anything : ⊤ → List ℕ → List ℕ → ⊤ → Type 0
says_anything machine line text next = ⊤

abbrev pub refuses_anything : ⊤ → List ℕ → LineFault → ⊤ → Type 0
refuses_anything machine line why next = ⊤

-- The same, where nothing is known of what the machines say. So what this tells is which lines there are, which
-- numbers of lines can be told, and when nothing is played.
abbrev pub PlaysScript : Option (List ℕ) → ℕ → Option (List ℕ) → Option (List ℕ) → Type 0
PlaysScript file code old new = PlaysScriptBy says_anything refuses_anything says_anything refuses_anything tt tt tt tt file code old new
