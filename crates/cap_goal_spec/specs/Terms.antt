-- Terms with terms in the place of their variables, and the results on the way to them.
use Rattle.std.specs.Prelude.{ℕ, zero, suc, ℤ, pos, List, [], ◌∷◌, ◌++◌, ◌&&◌, if◌then◌else◌, Option, Some, None}
use Rattle.cap_fm_spec.specs.cap_lin.Linear.{Linear, number, variable, plus, times, is_zero, same_number}
use Rattle.cap_fm_spec.specs.cap_lin.Steps.{Step, plus_steps, times_steps}

-- a sum, and to it the multiple of each variable's term, in order: first the multiple is made, and
-- then the sum
abbrev pub with_multiples : (ℕ → Linear) → Linear → List (ℕ × ℤ) → Linear
with_multiples terms sum [] = sum
with_multiples terms sum (p ∷ ps) = with_multiples terms (plus sum (times p.1 (terms p.0))) ps

abbrev pub with_multiples_steps : (ℕ → Linear) → Linear → List (ℕ × ℤ) → List Step
with_multiples_steps terms sum [] = []
with_multiples_steps terms sum (p ∷ ps) =
    times_steps p.1 (terms p.0)
    ++ (plus_steps sum (times p.1 (terms p.0)) ++ with_multiples_steps terms
    (plus sum (times p.1 (terms p.0))) ps)

-- the term with these terms in the place of its variables
abbrev pub term_over : (ℕ → Linear) → Linear → Linear
term_over terms t = with_multiples terms (number t.constant) t.parts

abbrev pub term_over_steps : (ℕ → Linear) → Linear → List Step
term_over_steps terms t = with_multiples_steps terms (number t.constant) t.parts

-- the variable that the term is, alone
abbrev pub lone_part : ℤ → List (ℕ × ℤ) → Option ℕ
lone_part c (p ∷ []) = if is_zero c && same_number p.1 (pos 1) then Some p.0 else None
lone_part c _ = None

abbrev pub lone_variable : Linear → Option ℕ
lone_variable t = lone_part t.constant t.parts

-- variables from `x` on, so many
abbrev pub variables_from : ℕ → ℕ → List Linear
variables_from x zero = []
variables_from x (suc n) = variable x ∷ variables_from (suc x) n
