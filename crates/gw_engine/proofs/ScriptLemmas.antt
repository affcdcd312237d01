-- A script's lines are played, whatever its machine is.
use Rattle.std.proofs.Common.{◌∷◌, ℕ, List, [], Option, Result, Ok, Err, inl, inr, refl}
use Rattle.gw_script.specs.declared.fault.LineFault.{LineFault}
use Rattle.gw_script.specs.declared.kind.Kind.{Kind}
use Rattle.gw_script.specs.declared.kind.Kind.TheVariants.{One, Two}
use Rattle.gw_script.specs.declared.lines.Line.{Line}
use Rattle.gw_engine.specs.Printing.{refuses_anything, says_anything, EndsBy, PlaysItsLines, PlaysScript, PlaysScriptBy, SaysInTurn}
use Rattle.gw_engine.specs.declared.stop.Stop.{Stop}
use Rattle.gw_engine.specs.declared.stop.Stop.TheVariants as stop

module _ {M : Type 0} (says : M → List ℕ → List ℕ → M → Type 0) (refuses : M → List ℕ → LineFault → M → Type 0) where
  in_turn : (machine last : M) (lines : List Line) (texts : List (List ℕ)) → SaysInTurn says machine lines texts last → SaysInTurn says_anything tt lines texts tt
  in_turn machine last lines [] is = refl
  in_turn machine last [] (text ∷ texts) is = absurd is
  in_turn machine last (line ∷ lines) (text ∷ texts) is = (tt, tt, in_turn is.0 last lines texts is.2)

  ends_by : (lines : List Line) (texts : List (List ℕ)) (last behind : M) (outcome : Result Unit Stop) (old printed : Option (List ℕ))
      → EndsBy refuses lines texts last behind outcome old printed → EndsBy refuses_anything lines texts tt tt outcome old printed
  ends_by lines texts last behind (Ok x) old printed is = record { all = is.all; machine = refl; appended = is.appended }
  ends_by lines texts last behind (Err stop.Output) old printed is =
      record { before = is.before; written = is.written; left = is.left; some = is.some; texts_are = is.texts_are; machine = refl; appended = is.appended }
  ends_by lines texts last behind (Err (stop.Line number)) old printed is = (record { line = is.0.line; there = is.0.there; refused = tt; appended = is.0.appended }, is.1)
  ends_by lines texts last behind (Err stop.Memory) old printed is = record { line = is.line; there = is.there; refused = tt; appended = is.appended }
  ends_by lines texts last behind (Err stop.File) old printed is = absurd is
  ends_by lines texts last behind (Err stop.Hex) old printed is = absurd is
  ends_by lines texts last behind (Err (stop.Message number)) old printed is = absurd is
  ends_by lines texts last behind (Err (stop.Payload number offset)) old printed is = absurd is

  played : (kind : Kind) (file : Option (List ℕ)) (code : ℕ) (machine behind : M) (old new : Option (List ℕ))
      → PlaysItsLines says refuses machine behind kind file code old new → PlaysItsLines says_anything refuses_anything tt tt kind file code old new
  played kind file code machine behind old new is =
      let p = is.plays.prints in
      record {
        lines = is.lines;
        script = is.script;
        status = is.status;
        code_is = is.code_is;
        plays = record {
          outcome = is.plays.outcome;
          printed = is.plays.printed;
          prints = record { texts = p.texts; last = tt; in_turn = in_turn machine p.last is.lines p.texts p.in_turn; ends = ends_by is.lines p.texts p.last behind is.plays.outcome old is.plays.printed p.ends };
          status_is = is.plays.status_is;
          ends = is.plays.ends;
        };
      }

module _ {A B : Type 0} (one_says : A → List ℕ → List ℕ → A → Type 0) (one_refuses : A → List ℕ → LineFault → A → Type 0) (two_says : B → List ℕ → List ℕ → B → Type 0) (two_refuses : B → List ℕ → LineFault → B → Type 0) where
  -- the same, whatever the machines are
  pub whatever : (one one_behind : A) (two two_behind : B) (file : Option (List ℕ)) (code : ℕ) (old new : Option (List ℕ))
      → PlaysScriptBy one_says one_refuses two_says two_refuses one one_behind two two_behind file code old new → PlaysScript file code old new
  whatever one one_behind two two_behind file code old new (inl (inl is)) = inl (inl (played one_says one_refuses One file code one one_behind old new is.0, refl))
  whatever one one_behind two two_behind file code old new (inl (inr is)) = inl (inr (played two_says two_refuses Two file code two two_behind old new is.0, refl))
  whatever one one_behind two two_behind file code old new (inr is) = inr (is.0, refl, refl)
