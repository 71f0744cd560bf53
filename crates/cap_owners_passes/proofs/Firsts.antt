-- What comes first at a goal, and whether a goal is left.
use Rattle.std.proofs.Common.{◌≡◌, ℕ, Bool, true, false, List, [], ◌∷◌, ◌++◌, map, length, Option, Some, None, refl, sym, ap, ◌∙◌, arith}
use Rattle.std.specs.Prelude.{◌==◌, ◌&&◌, if◌then◌else◌, is_none, reverse, option_to_list}
use Rattle.std.specs.Borrow.{Bor}
use Rattle.std.specs.List.{list_all}
use Rattle.std.proofs.lemmas.Bool.Decides.{nat_tests}
use Rattle.std.proofs.lemmas.List.{reverse-append}
use Rattle.std.proofs.lemmas.List.Folds.{list_all-append, list_all-map}
use Rattle.cap_prog.specs.declared.assertion.Item.{Item}
use Rattle.cap_prog.specs.declared.function.Statement.{Statement}
use Rattle.cap_prog.specs.Program.{PlainItem, Items, none, item, items_of, append_items, PlainStatement, Block, done, first, block_of, append, PlainAct}
use Rattle.cap_prog.specs.Views.{item_view, statement_view, block_view}
use Rattle.cap_goal_spec.specs.States.{PlainState, PlainTask, to_run, to_turn, to_give, to_take, to_make, to_close, to_shift, to_rest, PlainGoal, goal, goal_of, goals_of}
use Rattle.cap_goal.specs.Views.{items_in, block_in, has_no_items, is_done, task_view, tasks_view}
use Rattle.cap_goal.specs.declared.task.Task.{Task}
use Rattle.cap_rules.specs.Making.{is_empty}
use Rattle.cap_owners_spec.specs.Walks.{side_child}
use Rattle.cap_owners_passes.specs.Views.{first_item, first_act, child_of}

-- ---- the first item

-- with the items of one list more in front
abbrev pub first_with : List PlainItem → Option (PlainItem × Bool) → Option (PlainItem × Bool)
first_with [] o = o
first_with (i ∷ []) o = Some (i, is_none o)
first_with (i ∷ (j ∷ is)) o = Some (i, false)

-- with the items of more lists in front, the last of which comes first
abbrev pub first_in : List (Bor (List Item)) → Option (PlainItem × Bool) → Option (PlainItem × Bool)
first_in [] o = o
first_in (l ∷ ls) o = first_in ls (first_with (map item_view l.now) o)

none-behind : (after : Items) → has_no_items after ≡ is_none (first_item after)
none-behind none = refl
none-behind (item i more) = refl

with-first : (is : List PlainItem) (after : Items) → first_item (append_items (items_of is) after) ≡ first_with is (first_item after)
with-first [] after = refl
with-first (i ∷ []) after = ap (λ b. Some (i, b)) (none-behind after)
with-first (i ∷ (j ∷ is)) after = refl

pub firsts : (ls : List (Bor (List Item))) (after : Items) → first_item (items_in ls after) ≡ first_in ls (first_item after)
firsts [] after = refl
firsts (l ∷ ls) after =
    let is : List PlainItem = map item_view l.now in
    firsts ls (append_items (items_of is) after) ∙ ap (first_in ls) (with-first is after)

-- ---- the first statement

abbrev pub act_with : List PlainStatement → Option PlainAct → Option PlainAct
act_with [] o = o
act_with (s ∷ ss) o = Some s.act

abbrev pub act_in : List (Bor (List Statement)) → Option PlainAct → Option PlainAct
act_in [] o = o
act_in (l ∷ ls) o = act_in ls (act_with (map statement_view l.now) o)

with-act : (ss : List PlainStatement) (after : Block) → first_act (append (block_of ss) after) ≡ act_with ss (first_act after)
with-act [] after = refl
with-act (s ∷ ss) after = refl

pub acts : (ls : List (Bor (List Statement))) (after : Block) → first_act (block_in ls after) ≡ act_in ls (first_act after)
acts [] after = refl
acts (l ∷ ls) after =
    acts ls (append (block_view l.now) after) ∙ ap (act_in ls) (with-act (map statement_view l.now) after)

-- ---- goals that are left

and-swap : (a b : Bool) → (a && (b && true)) ≡ (b && a)
and-swap true true = refl
and-swap true false = refl
and-swap false true = refl
and-swap false false = refl

pub all-reversed : {X : Type 0} (p : X → Bool) (xs : List X) → list_all p (reverse xs) ≡ list_all p xs
all-reversed p [] = refl
all-reversed p (x ∷ xs) =
    ap (list_all p) (reverse-append (x ∷ []) xs) ∙ (list_all-append p (reverse xs) (x ∷ []) ∙ (ap (λ b. b && (p x && true)) (all-reversed p xs) ∙ and-swap (list_all p xs) (p x)))

pub none-left : (s : PlainState) (ts : List PlainTask) → is_empty (goals_of s ts) ≡ list_all (is_done (length s.facts)) ts
none-left s [] = refl
none-left s (to_run h b ∷ ts) = refl
none-left s (to_turn h b ∷ ts) = refl
none-left s (to_give none e n ∷ ts) = none-left s ts
none-left s (to_give (item i is) e n ∷ ts) = refl
none-left s (to_take none e left n ∷ ts) = none-left s ts
none-left s (to_take (item i is) e left n ∷ ts) = refl
none-left s (to_make k c e u n ∷ ts) = refl
none-left s (to_close any n ∷ ts) = refl
none-left s (to_shift o c m e n ∷ ts) = refl
none-left s (to_rest j n ∷ ts) =
    elim (j == length s.facts) as (λ b. is_empty (option_to_list (if b then goal_of s ts else Some (goal s (to_rest j n ∷ ts)))) ≡ (b && list_all (is_done (length s.facts)) ts)) [ true ↦ none-left s ts | false ↦ refl ]

-- tasks in code, the last of which comes first
pub tasks_left : (s : PlainState) (ts : List Task) (n : ℕ) (b : Bool) → n ≡ length s.facts → b ≡ list_all (λ t. is_done n (task_view t)) ts → b ≡ is_empty (goals_of s (tasks_view ts))
tasks_left s ts n b e f =
    let p : PlainTask → Bool = is_done (length s.facts) in
    f ∙ (ap (λ k. list_all (λ t. is_done k (task_view t)) ts) e ∙ (sym (list_all-map p task_view ts) ∙ (sym (all-reversed p (map task_view ts)) ∙ sym (none-left s (tasks_view ts)))))

child : (b : Bool) (o : Option PlainGoal) → side_child b (option_to_list o) ≡ child_of b (is_empty (option_to_list o))
child true None = refl
child true (Some g) = refl
child false None = refl
child false (Some g) = refl

-- only whether the side where the comparison holds leaves a goal matters
pub child-of : (b missing : Bool) (s : PlainState) (ts : List PlainTask) → missing ≡ is_empty (goals_of s ts) → side_child b (goals_of s ts) ≡ child_of b missing
child-of b missing s ts e = child b (goal_of s ts) ∙ ap (child_of b) (sym e)

none-appended : (a more : Items) → has_no_items (append_items a more) ≡ (has_no_items a && has_no_items more)
none-appended none more = refl
none-appended (item i a) more = refl

pub none-listed : (is : List Item) → (length is == 0) ≡ has_no_items (items_of (map item_view is))
none-listed [] = refl
none-listed (i ∷ is) = grind (arith, nat_tests)

-- of a conditional that is taken
pub taken-side : (b last empty behind : Bool) (s : PlainState) (a more : Items) (e left n : ℕ) (ts : List PlainTask) → has_no_items more ≡ last → has_no_items a ≡ empty → behind ≡ is_empty (goals_of s ts) → side_child b (goals_of s (to_take (append_items a more) e left n ∷ ts)) ≡ child_of b (last && (empty && behind))
taken-side b last empty behind s a more e left n ts f g h =
    child-of b (last && (empty && behind)) s (to_take (append_items a more) e left n ∷ ts) (sym (none-left s (to_take (append_items a more) e left n ∷ ts) ∙ (ap (λ x. x && list_all (is_done (length s.facts)) ts) (none-appended a more) ∙ (ap (λ x. (has_no_items a && has_no_items more) && x) (sym (none-left s ts) ∙ sym h) ∙ (ap (λ x. (has_no_items a && x) && behind) f ∙ (ap (λ x. (x && last) && behind) g ∙ regroup empty last behind))))))
  where
    regroup : (x y z : Bool) → ((x && y) && z) ≡ (y && (x && z))
    regroup true true z = refl
    regroup true false z = refl
    regroup false true z = refl
    regroup false false z = refl

-- of a conditional that is given
pub given-side : (b empty behind : Bool) (s : PlainState) (a : Items) (e n : ℕ) (ts : List PlainTask) → has_no_items a ≡ empty → behind ≡ is_empty (goals_of s ts) → side_child b (goals_of s (to_give a e n ∷ ts)) ≡ child_of b (empty && behind)
given-side b empty behind s a e n ts f h =
    child-of b (empty && behind) s (to_give a e n ∷ ts) (sym (none-left s (to_give a e n ∷ ts) ∙ (ap (λ x. has_no_items a && x) (sym (none-left s ts) ∙ sym h) ∙ ap (λ x. x && behind) f)))
