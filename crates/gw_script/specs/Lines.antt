-- The lines of a script.
use Rattle.std.specs.Prelude.{ℕ, ◌+◌, Bool, false, not, ◌==◌, List, [], ◌∷◌, drop, filter, map}
use Rattle.std.specs.List.{enumerate_from, slice_split}
use Rattle.gw_script.specs.declared.lines.Line.{Line}

-- All lines, each without its end. The last may lack its end, so behind an end stands one more, which is empty.
abbrev pub lines_of : List ℕ → List (List ℕ)
lines_of script = slice_split (λ octet. octet == 10) script

abbrev pub first_of : List (List ℕ) → List ℕ
first_of [] = []
first_of (line ∷ lines) = line

-- it is neither empty nor a comment
abbrev pub is_directive : List ℕ → Bool
is_directive [] = false
is_directive (octet ∷ octets) = not (octet == 35)

-- the directives behind the first line, in their order, each with the number of its line, from 1
abbrev pub directives_of : List ℕ → List (ℕ × List ℕ)
directives_of script = map (λ line. (line.0 + 1, line.1)) (filter (λ line. is_directive line.1) (drop 1 (enumerate_from 0 (lines_of script))))

-- the number of a line, and what it says
abbrev pub told_by : Line → ℕ × List ℕ
told_by line = (line.number, line.text.now)
