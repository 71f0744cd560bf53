-- The loops of a function by the numbers of their statements.
use Rattle.std.specs.Prelude.{ℕ, List, [], ◌∷◌, flat_map, position, Option}
use Rattle.cap_prog.specs.Program.{loop, done, PlainAct, PlainStatement, PlainFunction}
use Rattle.cap_goal_spec.specs.Roots.{loops_in}
use Rattle.cap_outline_spec.specs.Standing.{first_number}
use Rattle.cap_owners_spec.specs.Steps.{same_statement}

-- the number of a statement that is a loop
abbrev pub number_if_loop : ℕ → PlainAct → List ℕ
number_if_loop n (loop c i a) = n ∷ []
number_if_loop n a = []

abbrev pub loop_numbers : List PlainStatement → List ℕ
loop_numbers ss = flat_map (λ s. number_if_loop s.label.number s.act) ss

-- which loop of a function has a statement of this number
abbrev pub loop_at : PlainFunction → Option ℕ → Option ℕ
loop_at f n = position (λ l. same_statement (first_number l.block) n) (loops_in f.body done)
