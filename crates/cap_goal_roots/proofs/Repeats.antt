-- Members that are appended one after the other.
use Rattle.std.proofs.Common.{◌≡◌, ℕ, suc, ◌+◌, ◌-◌, ◌<◌, ◌≤◌, List, [], ◌∷◌, ◌++◌, replicate, sym, ap, ◌∙◌, arith, append_assoc, append-nil, Some, Option}
use Rattle.cap_lin.specs.Linear.{Linear, variable}
use Rattle.cap_goal_spec.specs.Terms.{variables_from}
use Rattle.cap_goal_spec.specs.Environments.{bound}

-- one more member, before what remains
pub moved_on : {A : Type 0} (done : List A) (x : A) (more whole : List A) → done ++ (x ∷ more) ≡ whole → (done ++ (x ∷ [])) ++ more ≡ whole
moved_on done x more whole e = append_assoc done (x ∷ []) more ∙ e

pub nothing_left : {A : Type 0} (done more whole : List A) → more ≡ [] → done ++ more ≡ whole → done ≡ whole
nothing_left done more whole n e = sym (append-nil done) ∙ (ap (λ l. done ++ l) (sym n) ∙ e)

one_less : (i n : ℕ) → i < n → n - i ≡ suc (n - (i + 1))
one_less i n h = omega arith

none_less : (i n : ℕ) → n ≤ i → n - i ≡ 0
none_less i n h = omega arith

variables_next : (x n : ℕ) → x < n → variables_from x (n - x) ≡ variable x ∷ variables_from (x + 1) (n - (x + 1))
variables_next x n h = ap (λ m. variables_from x m) (one_less x n h) ∙ ap (λ y. variable x ∷ variables_from y (n - (x + 1))) (add x)
  where
    add : (x : ℕ) → suc x ≡ x + 1
    add x = omega arith

variables_over : (x n : ℕ) → n ≤ x → variables_from x (n - x) ≡ []
variables_over x n h = ap (λ m. variables_from x m) (none_less x n h)

pub variable_on : (done whole : List Linear) (x n : ℕ) → x < n → done ++ variables_from x (n - x) ≡ whole → (done ++ (variable x ∷ [])) ++ variables_from (x + 1) (n - (x + 1)) ≡ whole
variable_on done whole x n h e = moved_on done (variable x) _ whole (ap (λ l. done ++ l) (sym (variables_next x n h)) ∙ e)

pub variables_done : (done whole : List Linear) (x n : ℕ) → n ≤ x → done ++ variables_from x (n - x) ≡ whole → done ≡ whole
variables_done done whole x n h e = nothing_left done (variables_from x (n - x)) whole (variables_over x n h) e

pub bound_more : (done whole : List (Option Linear)) (x n : ℕ) → x < n → done ++ bound (variables_from x (n - x)) ≡ whole → (done ++ (Some (variable x) ∷ [])) ++ bound (variables_from (x + 1) (n - (x + 1))) ≡ whole
bound_more done whole x n h e = moved_on done (Some (variable x)) _ whole (ap (λ l. done ++ bound l) (sym (variables_next x n h)) ∙ e)

pub bound_done : (done whole : List (Option Linear)) (x n : ℕ) → n ≤ x → done ++ bound (variables_from x (n - x)) ≡ whole → done ≡ whole
bound_done done whole x n h e = nothing_left done (bound (variables_from x (n - x))) whole (ap bound (variables_over x n h)) e

pub repeated_more : {A : Type 0} (a : A) (done whole : List A) (i n : ℕ) → i < n → done ++ replicate (n - i) a ≡ whole → (done ++ (a ∷ [])) ++ replicate (n - (i + 1)) a ≡ whole
repeated_more a done whole i n h e = moved_on done a _ whole (ap (λ m. done ++ replicate m a) (sym (one_less i n h)) ∙ e)

pub repeated_done : {A : Type 0} (a : A) (done whole : List A) (i n : ℕ) → n ≤ i → done ++ replicate (n - i) a ≡ whole → done ≡ whole
repeated_done a done whole i n h e = nothing_left done (replicate (n - i) a) whole (ap (λ m. replicate m a) (none_less i n h)) e
