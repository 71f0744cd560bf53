-- The lines that say which rows the proofs of a unit need.
use Rattle.std.specs.Prelude.{ℕ, suc, List, [], ◌∷◌, ◌++◌, codes, flat_map, Option, Some, None}
use Rattle.std.specs.Fmt.{decimal, signed_decimal}
use Rattle.cap_lin.specs.declared.row.Row.{Row}
use Rattle.cap_farkas.specs.declared.cert.Cert.{Cert}
use Rattle.cap_fm_spec.specs.Events.{Limit, wide, many, first_limit}
use Rattle.cap_prog.specs.Program.{PlainProgram}
use Rattle.cap_goal_spec.specs.Choices.{PlainTree}
use Rattle.cap_goal_spec.specs.Roots.{PlainUnit}
use Rattle.cap_rules.specs.Answers.{Answer, applies, inapplicable, too_wide, proofs}
use Rattle.cap_rules_marks.specs.Proven.{given}
use Rattle.cap_rules_nodes.specs.Nodes.{GoalNode, unit_nodes}
use Rattle.cap_core.specs.Deciding.{core_of}

-- ---- a proof

-- numbers, each behind a space
abbrev pub spaced : List ℕ → List ℕ
spaced ns = flat_map (λ n. codes " " ++ decimal n) ns

-- the numbers of rows, or the limit that was passed before they were found
abbrev pub found_text : Option Limit → List ℕ → List ℕ
found_text None ns = spaced ns
found_text (Some (wide a b)) ns =
    codes " wide " ++ (signed_decimal a ++ (codes " " ++ signed_decimal b))
found_text (Some many) ns = codes " rows 4096"

-- the numbers of the rows of the core, from 0, or the first limit that a decision passes
abbrev pub core_text : List Row → List ℕ
core_text rows = found_text (first_limit (core_of rows).events) (core_of rows).value

-- proof j of node k
abbrev pub proof_line : ℕ → ℕ → List Row → List ℕ
proof_line k j rows =
    codes "node " ++ (decimal k ++ (codes " proof " ++ (decimal j
    ++ (codes ":" ++ (core_text rows ++ codes "\n")))))

-- ---- a node

-- of lists of rows, with what is given to refute them, from number j on; a mark 0 has no line and
-- no number
abbrev pub proof_lines : ℕ → ℕ → List (List Row) → List (Option Cert) → List ℕ
proof_lines k j [] os = []
proof_lines k j (rows ∷ ls) [] = []
proof_lines k j (rows ∷ ls) (None ∷ os) = proof_lines k j ls os
proof_lines k j (rows ∷ ls) (Some c ∷ os) = proof_line k j rows ++ proof_lines k (suc j) ls os

abbrev pub answered_lists : Answer (List (List Row)) → List (List Row)
answered_lists (applies ls) = ls
answered_lists inapplicable = []
answered_lists (too_wide a b) = []

-- the lists of rows that the choice owes at the goal
abbrev pub owed_by : PlainProgram → GoalNode → List (List Row)
owed_by p n = answered_lists (proofs p n.goal n.choice)

-- ---- a unit

-- of nodes, from number k on
abbrev pub node_lines : PlainProgram → ℕ → List GoalNode → List ℕ
node_lines p k [] = []
node_lines p k (n ∷ ns) =
    proof_lines k 1 (owed_by p n) (given n.choice) ++ node_lines p (suc k) ns

-- of the nodes of the trees of a unit, in preorder
abbrev pub core_lines : PlainProgram → PlainUnit → List (Option PlainTree) → List ℕ
core_lines p u ts = node_lines p 1 (unit_nodes p u ts)
