-- Lines by functions and statements, as they are gathered node by node.
use Rattle.std.specs.Prelude.{ℕ, suc, ◌==◌, ◌&&◌, if◌then◌else◌, List, [], ◌∷◌, ◌++◌, map, flat_map, codes, get_or}
use Rattle.cap_prog.specs.Program.{Name, PlainStatement, PlainFunction, PlainProgram}
use Rattle.cap_prog.specs.Parts.{all_statements}
use Rattle.cap_goal_spec.specs.States.{PlainGoal}
use Rattle.cap_rules_nodes.specs.Nodes.{GoalNode}
use Rattle.cap_outline_spec.specs.Standing.{point_of, standing_if, standing_among}
use Rattle.cap_outline_spec.specs.Outline.{state_lines, place_line}

-- ---- lines by numbers

abbrev pub lines_at : List (List ℕ) → ℕ → List ℕ
lines_at ls k = get_or ls k []

-- by functions, and then by statements
abbrev pub gathered_at : List (List (List ℕ)) → ℕ → ℕ → List ℕ
gathered_at gs f k = lines_at (get_or gs f []) k

-- a line that belongs to one number, or to one statement of one function
abbrev pub line_if : ℕ → ℕ → List ℕ → List ℕ
line_if n k line = if n == k then line else []

abbrev pub line_if_both : ℕ → ℕ → ℕ → ℕ → List ℕ → List ℕ
line_if_both g n f k line = if (g == f) && (n == k) then line else []

-- ---- the lines of nodes

abbrev pub names_of : PlainProgram → ℕ → List Name
names_of p f = get_or (map (λ g. g.variables) p.functions) f []

-- at statement k of function f
abbrev pub goal_lines : PlainProgram → ℕ → ℕ → PlainGoal → List ℕ
goal_lines p f k g = state_lines p (names_of p f) (standing_if f k g.state (point_of g))

abbrev pub nodes_lines : PlainProgram → ℕ → ℕ → List GoalNode → List ℕ
nodes_lines p f k ns = state_lines p (names_of p f) (standing_among f k ns)

-- ---- statements with the lines that were gathered

abbrev pub gathered_text : List (List (List ℕ)) → ℕ → PlainStatement → List ℕ
gathered_text gs f s = place_line s.label ++ gathered_at gs f s.label.number

abbrev pub gathered_texts : List (List (List ℕ)) → ℕ → List PlainStatement → List ℕ
gathered_texts gs f ss = flat_map (gathered_text gs f) ss

-- function n, and functions from number n on
abbrev pub gathered_function : List (List (List ℕ)) → ℕ → PlainFunction → List ℕ
gathered_function gs n f =
    codes "function " ++ (f.name ++ (codes "\n" ++ gathered_texts gs n (all_statements f.body)))

abbrev pub gathered_functions : List (List (List ℕ)) → ℕ → List PlainFunction → List ℕ
gathered_functions gs n [] = []
gathered_functions gs n (f ∷ fs) = gathered_function gs n f ++ gathered_functions gs (suc n) fs
