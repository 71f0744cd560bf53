-- The tasks behind a statement.
use Rattle.std.proofs.Common.{◌≡◌, ℕ, List, [], ◌∷◌, ◌++◌, map, reverse, refl, ap, sym, ◌∙◌, drop, suc, ◌+◌, true, length, ◌<◌, ◌≤◌, add-one, drop-cons}
use Rattle.std.proofs.lemmas.List.{drop_all}
use Rattle.cap_rules_steps.specs.cap_goal_spec.States.{PlainFact, PlainTask, to_close, to_rest}
use Rattle.cap_rules_steps.specs.cap_rules.Closing.{closing}
use Rattle.cap_goal.specs.declared.task.Task.{Task}
use Rattle.cap_goal.specs.declared.task.Task.TheVariants.{Rest, Close}
use Rattle.cap_goal.specs.Views.{task_view, tasks_view}
use Rattle.cap_open_enter.proofs.Tasks.{pushed}

-- equal members in front of a list
pub alike-first : {X Y : Type 0} (xs : List X) (y : Y) (ys : List Y) → map (λ x. y) xs ++ (y ∷ ys) ≡ y ∷ (map (λ x. y) xs ++ ys)
alike-first [] y ys = refl
alike-first (x ∷ xs) y ys = ap (λ l. y ∷ l) (alike-first xs y ys)

-- ---- the opened regions are closed

pub close-first : (n : ℕ) (fs : List PlainFact) (behind copies tasks : List Task) → tasks ≡ copies ++ Rest 0 n ∷ [] → map task_view copies ≡ map task_view behind → map (λ f. to_close true n) fs ++ tasks_view tasks ≡ closing fs n (tasks_view behind)
close-first n fs behind copies tasks e q =
    ap (λ ts. map (λ f. to_close true n) fs ++ ts) (ap tasks_view e ∙ (pushed copies (Rest 0 n) ∙ ap (λ ts. to_rest 0 n ∷ reverse ts) q))

pub close-more : (n : ℕ) (fs : List PlainFact) (i : ℕ) (f : PlainFact) (before tasks : List Task) (all : List PlainTask) → i < length fs → tasks ≡ before ++ Close true n ∷ [] → map (λ f. to_close true n) (drop i fs) ++ tasks_view before ≡ all → map (λ f. to_close true n) (drop (i + 1) fs) ++ tasks_view tasks ≡ all
close-more n fs i f before tasks all h e k =
    rw add-one (ap (λ ts. map (λ f. to_close true n) (drop (suc i) fs) ++ ts) (ap tasks_view e ∙ pushed before (Close true n)) ∙ (alike-first (drop (suc i) fs) (to_close true n) (tasks_view before) ∙ (ap (λ gs. map (λ f. to_close true n) gs ++ tasks_view before) (sym (drop-cons fs i f h)) ∙ k)))

pub close-done : (n : ℕ) (fs : List PlainFact) (i : ℕ) (tasks : List Task) (all : List PlainTask) → length fs ≤ i → map (λ f. to_close true n) (drop i fs) ++ tasks_view tasks ≡ all → tasks_view tasks ≡ all
close-done n fs i tasks all h k = ap (λ gs. map (λ f. to_close true n) gs ++ tasks_view tasks) (sym (drop_all i fs h)) ∙ k
