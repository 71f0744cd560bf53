-- The text of an outline: of each function each statement, with the states that stand there.
use Rattle.std.specs.Prelude.{ℕ, suc, List, [], ◌∷◌, ◌++◌, flat_map, codes, Option}
use Rattle.cap_syntax.specs.Place.{place_text}
use Rattle.cap_prog.specs.Program.{Name, Label, PlainStatement, PlainFunction, PlainProgram}
use Rattle.cap_prog.specs.Parts.{all_statements}
use Rattle.cap_goal_spec.specs.Choices.{PlainTree}
use Rattle.cap_outline_spec.specs.Standing.{Standing, standing}
use Rattle.cap_outline_spec.specs.Texts.{state_line}

abbrev pub state_lines : PlainProgram → List Name → List Standing → List ℕ
state_lines p names ss = flat_map (λ s. state_line p names s.state) ss

abbrev pub place_line : Label → List ℕ
place_line l = codes "at " ++ (place_text l.place ++ codes "\n")

-- a statement of function n
abbrev pub statement_text :
    PlainProgram → List (Option PlainTree) → ℕ → List Name → PlainStatement → List ℕ
statement_text p trees n names s =
    place_line s.label ++ state_lines p names (standing p trees n s.label.number)

abbrev pub function_text : PlainProgram → List (Option PlainTree) → ℕ → PlainFunction → List ℕ
function_text p trees n f =
    codes "function " ++ (f.name ++ (codes "\n"
    ++ flat_map (statement_text p trees n f.variables) (all_statements f.body)))

-- functions from number n on
abbrev pub functions_text :
    PlainProgram → List (Option PlainTree) → ℕ → List PlainFunction → List ℕ
functions_text p trees n [] = []
functions_text p trees n (f ∷ fs) =
    function_text p trees n f ++ functions_text p trees (suc n) fs

unfoldable pub outline_text : PlainProgram → List (Option PlainTree) → List ℕ
outline_text p trees = functions_text p trees 0 p.functions
