-- Points of bodies, and lists of tasks.
use Rattle.std.proofs.Common.{◌≡◌, ◌<◌, List, [], ◌∷◌, ◌++◌, map, length, drop, take, get_or, ◌-◌, Some, refl, sym, ap, ◌∙◌, arith}
use Rattle.std.specs.Prelude.{option_to_list}
use Rattle.std.specs.Borrow.{Bor}
use Rattle.std.proofs.lemmas.List.{length-reverse, length-map, map-append, take_all}
use Rattle.cap_prog.specs.declared.function.Statement.{Statement}
use Rattle.cap_prog.specs.Program.{Block, done, first, append}
use Rattle.cap_prog.specs.Views.{statement_view, block_view}
use Rattle.cap_rules.specs.cap_goal_spec.States.{PlainState, PlainTask, goal, goal_of, goals_of}
use Rattle.cap_goal.specs.Views.{block_in, task_view, tasks_view, goal_view}
use Rattle.cap_goal.specs.declared.task.Task.{Task}
use Rattle.cap_goal.specs.declared.goal.Goal.{Goal}
use Rattle.std.proofs.Common.{length-drop}
use Rattle.cap_rules_steps.specs.Goals.{goal_at}
use Rattle.cap_rules_steps.proofs.Walking.{split-at}

pub block-last : (ls : List (Bor (List Statement))) (l : Bor (List Statement)) (after : Block) → block_in (ls ++ l ∷ []) after ≡ append (block_view l.now) (block_in ls after)
block-last [] l after = refl
block-last (k ∷ ls) l after = block-last ls l (append (block_view k.now) after)

empty-view : (ss : List Statement) (b : Block) → length ss < 1 → append (block_view ss) b ≡ b
empty-view [] b h = refl
empty-view (s ∷ ss) b h = absurd (omega arith)

pub none-last : (ls : List (Bor (List Statement))) (l : Bor (List Statement)) → length l.now < 1 → block_in (ls ++ l ∷ []) done ≡ block_in ls done
none-last ls l h = block-last ls l done ∙ empty-view l.now (block_in ls done) h

pub one-last : (ls : List (Bor (List Statement))) (l r : Bor (List Statement)) (s : Statement) → l.now ≡ s ∷ r.now → block_in (ls ++ l ∷ []) done ≡ first (statement_view s).label (statement_view s).act (block_in (ls ++ r ∷ []) done)
one-last ls l r s e = block-last ls l done ∙ (ap (λ ss. append (block_view ss) (block_in ls done)) e ∙ ap (first (statement_view s).label (statement_view s).act) (sym (block-last ls r done)))

tail : {X : Type 0} (xs : List X) → take (length xs - 1) (drop 1 xs) ≡ drop 1 xs
tail xs = take_all (length xs - 1) (drop 1 xs) (omega (arith, length-drop 1 xs))

pub one-pushed : (pushed ls : List (Bor (List Statement))) (l r : Bor (List Statement)) (s : Statement) → pushed ≡ ls ++ r ∷ [] → 0 < length l.now → s ≡ get_or l.now 0 s → r.now ≡ take (length l.now - 1) (drop 1 l.now) → block_in (ls ++ l ∷ []) done ≡ first (statement_view s).label (statement_view s).act (block_in pushed done)
one-pushed pushed ls l r s p h e q =
    let d : l.now ≡ s ∷ r.now = split-at l.now 0 s h e ∙ ap (λ xs. s ∷ xs) (sym (q ∙ tail l.now)) in
    one-last ls l r s d ∙ ap (λ ls. first (statement_view s).label (statement_view s).act (block_in ls done)) (sym p)

some-goal : (s : PlainState) (ts : List PlainTask) → (length ts ≡ 0 → ⊥) → goal_at s ts ≡ Some (goal s ts)
some-goal s [] h = absurd (h refl)
some-goal s (t ∷ ts) h = refl

tasks-length : (ts : List Task) → length (tasks_view ts) ≡ length ts
tasks-length ts = length-reverse (map task_view ts) ∙ length-map ts task_view

pub goal-added : (s : PlainState) (before after : List PlainTask) (ts : List Task) (gs : List Goal) (g : Goal) → tasks_view ts ≡ after → goal_of s before ≡ goal_at s after → (length ts ≡ 0 → ⊥) → goal_view g ≡ goal s after → map goal_view (gs ++ g ∷ []) ≡ map goal_view gs ++ goals_of s before
goal-added s before after ts gs g e q h v =
    let n : length after ≡ 0 → ⊥ = λ z. h (sym (tasks-length ts) ∙ (ap length e ∙ z)) in
    map-append goal_view gs (g ∷ []) ∙ (ap (λ x. map goal_view gs ++ x ∷ []) v ∙ ap (λ o. map goal_view gs ++ option_to_list o) (sym (q ∙ some-goal s after n)))
