-- Lists of tasks, whose first one stands last in code.
use Rattle.std.proofs.Common.{◌≡◌, ◌-◌, ◌<◌, List, [], ◌∷◌, ◌++◌, map, take, drop, length, reverse, refl, sym, ap, ◌∙◌, arith}
use Rattle.std.proofs.lemmas.List.{map-append, reverse-append, length-reverse}
use Rattle.cap_goal.specs.declared.task.Task.{Task}
use Rattle.cap_goal.specs.Views.{task_view, tasks_view}

-- a task more
pub pushed : (ts : List Task) (t : Task) → tasks_view (ts ++ t ∷ []) ≡ task_view t ∷ tasks_view ts
pushed ts t = ap reverse (map-append task_view ts (t ∷ [])) ∙ reverse-append (map task_view ts) (task_view t ∷ [])

drop-first : {A : Type 0} (xs ys : List A) → 0 < length xs → drop 1 (xs ++ ys) ≡ drop 1 xs ++ ys
drop-first [] ys h = absurd (omega arith)
drop-first (x ∷ xs) ys h = refl

one-more : {A : Type 0} (x : A) (xs : List A) → reverse (x ∷ xs) ≡ reverse xs ++ x ∷ []
one-more x xs = reverse-append (x ∷ []) xs

some-left : {A : Type 0} (x : A) (xs : List A) → 0 < length (reverse (x ∷ xs))
some-left x xs = rw (length-reverse (x ∷ xs)) (omega arith)

passed-from : {A B : Type 0} (v : A → B) (x : A) (xs : List A) → reverse (map v (take (length xs) (x ∷ xs))) ≡ drop 1 (reverse (map v (x ∷ xs)))
passed-from v x [] = refl
passed-from v x (y ∷ ys) = one-more (v x) (map v (take (length ys) (y ∷ ys))) ∙ ap (λ zs. zs ++ v x ∷ []) (passed-from v y ys) ∙ sym (drop-first (reverse (map v (y ∷ ys))) (v x ∷ []) (some-left (v y) (map v ys))) ∙ ap (drop 1) (sym (one-more (v x) (map v (y ∷ ys))))

-- the tasks behind the first one
pub passed : (ts : List Task) → 0 < length ts → tasks_view (take (length ts - 1) ts) ≡ drop 1 (tasks_view ts)
passed [] h = refl
passed (t ∷ ts) h = ap (λ n. tasks_view (take n (t ∷ ts))) (less ts) ∙ passed-from task_view t ts
  where
    less : (us : List Task) → length (t ∷ us) - 1 ≡ length us
    less us = omega arith
