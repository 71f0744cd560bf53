-- What a choice makes of a goal.
use Rattle.std.proofs.Common.{◌≡◌, subst, ℕ, zero, suc, ◌+◌, ◌-◌, pos, Bool, List, [], ◌∷◌, ◌++◌, flat_map, drop, take, length, Option, Some, None}
use Rattle.std.specs.Prelude.{slice_get, remove, nat_lt, is_none}
use Rattle.std.specs.List.{AllByRecursion}
use Rattle.cap_lin.specs.Linear.{Linear, variable, number}
use Rattle.cap_lin.specs.declared.row.Sort.TheVariants.{Int}
use Rattle.cap_lin.specs.declared.row.Op.TheVariants.{Ge as AtLeast}
use Rattle.cap_prog.specs.declared.assertion.Comp.{Comp}
use Rattle.cap_prog.specs.declared.assertion.Slot.{Slot}
use Rattle.cap_prog.specs.declared.assertion.Slot.TheVariants.{Is}
use Rattle.cap_prog.specs.declared.assertion.Asked.{Asked}
use Rattle.cap_prog.specs.declared.assertion.Asked.TheVariants.{Tok}
use Rattle.cap_prog.specs.Program.{PlainItem, compare, choose, fact, atom, cell, Items, item, append_items, PlainRegionType, PlainProgram}
use Rattle.cap_rules.specs.cap_goal_spec.States.{PlainFact, PlainEnv, PlainState, PlainTask, to_run, to_turn, to_give, to_take, to_make, to_close, to_shift, to_rest, PlainGoal, goals_of}
use Rattle.cap_rules.specs.cap_goal_spec.Environments.{zero_value, one_value, term_of, bound, unbound}
use Rattle.cap_rules.specs.Attempts.{Attempt, unit, ◌>>=◌, found, need, each, prove}
use Rattle.cap_rules.specs.Making.{sum, value_here, determined, prove_comparisons, prove_equal, opposite, fresh, with_sort, with_row, with_comparison, with_local, with_cell, with_env, env_at, with_env_at, fact_of, with_fact, with_pieces}
use Rattle.cap_rules_ascending.specs.Ascending.{TermAscends, PieceAscends, FactAscends, CellAscends, NameAscends, EnvAscends, StateAscends, TaskAscends, GoalAscends}
use Rattle.cap_rules_ascending.proofs.Lists.{IfSome, all-join, all-last, all-take, all-drop, all-remove, all-filter, all-flat, all-any}
use Rattle.cap_rules_ascending.proofs.Terms.{term-of-ascends, bound-ascends, unbound-ascends}
use Rattle.cap_rules_ascending.proofs.Safe.{IsAny, Safe, chain, of-some, of-none, of-found, found-any, of-get, need-safe, prove-safe, each-safe}
use Rattle.cap_rules_ascending.proofs.Makings.{sum-safe, here-safe, determined-safe, comparisons-safe, equal-safe, fresh-ascends, with-sort-safe, with-row-safe, with-comparison-safe, local-ascends, cells-ascend, with-cell-safe, with-env-safe, env-at-ascends, env-set-ascends, with-fact-safe, guards-ascend, with-pieces-safe}
use Rattle.std.specs.Prelude.{◌==◌, ◌&&◌, not}
use Rattle.cap_prog.specs.Program.{Label, PlainAct, set, alloc, call, fork, branch, loop, check, give_back, Block, first, append, PlainFunction}
use Rattle.cap_rules.specs.cap_goal_spec.States.{Home}
use Rattle.cap_rules.specs.cap_goal_spec.Choices.{PlainChoice, by_absurd, by_clash, by_set, by_alloc, by_assert, by_if, by_loop, by_turn, by_call, by_fork, by_return, by_enter, by_act, by_pick, by_shift, by_settle, by_keep, by_give, by_fact, by_cases, by_cell, by_region, by_guard, by_convert, by_create, by_made, certs_of}
use Rattle.cap_rules.specs.cap_goal_spec.Environments.{callee_env, own_env}
use Rattle.cap_rules.specs.Answers.{marks_of}
use Rattle.cap_rules.proofs.Answering.{answers-succeed}
use Rattle.cap_rules.specs.Making.{values_here, row_here, row_by, determined_slot, match_slot, match_slots, with_destination}
use Rattle.cap_rules.specs.Taking.{cut_form, after_cut, sum_in, given_side, other_side, side_pieces, without_full, with_new_region, case_env}
use Rattle.cap_rules.specs.Closing.{address_of, of_type, prove_other, with_opened, case_goals, rivals, with_marks, acted, closing, may_move, move_target, prove_move, with_closed}
use Rattle.cap_rules.specs.Resting.{settle, keep}
use Rattle.cap_rules.specs.Rules.{leaves, branches, called, own_params, with_new_cells, at_clash, at_alloc, at_enter, at_act, at_statement, at_turn, Remaining, goes, stays, at_fact, at_cases, at_cell, at_region, at_no_tokens, at_piece, at_guard, at_convert, at_create, creates, at_item, creations, at_close, at_shift, args_in, at_made, at_absurd, at_task, at_tasks, rule}
use Rattle.cap_rules_ascending.specs.Laws.{OwedAscend, SubgoalsAscend}
use Rattle.cap_rules_ascending.proofs.Terms.{callee-ascends, own-ascends}
use Rattle.cap_rules_ascending.proofs.Makings.{heres-safe, row-here-safe, slot-safe, row-by-safe, match-safe, matches-safe, destination-ascends}
use Rattle.cap_rules_ascending.proofs.Givings.{goals-ascend, give-safe}
use Rattle.cap_rules_ascending.proofs.Takings.{cut-form-safe, after-cut-ascends, side-ascends, without-full-safe, new-region-safe, case-env-safe}
use Rattle.cap_rules_ascending.proofs.Closings.{other-safe, opened-ascends, case-goals-safe, all-marks-safe, acted-safe, closing-ascends, target-safe, move-safe, closed-safe}
use Rattle.cap_rules_ascending.proofs.Restings.{settle-safe, keep-safe}

abbrev AreOk : List PlainGoal → Type 0
AreOk gs = AllByRecursion GoalAscends gs

leaves-safe : (s : PlainState) (ts : List PlainTask) → StateAscends s → AllByRecursion TaskAscends ts → Safe AreOk (leaves s ts)
leaves-safe s ts h k = of-some AreOk (goals_of s ts) (goals-ascend s ts h k)

two-safe : (s t : PlainState) (xs ys : List PlainTask) → StateAscends s → StateAscends t → AllByRecursion TaskAscends xs → AllByRecursion TaskAscends ys → Safe AreOk (unit (goals_of s xs ++ goals_of t ys))
two-safe s t xs ys h k g e = of-some AreOk (goals_of s xs ++ goals_of t ys) (all-join GoalAscends (goals_of s xs) (goals_of t ys) (goals-ascend s xs h g) (goals-ascend t ys k e))

branches-safe : (s : PlainState) (c : Comp) (xs ys : List PlainTask) → StateAscends s → AllByRecursion TaskAscends xs → AllByRecursion TaskAscends ys → Safe AreOk (branches s c xs ys)
branches-safe s c xs ys h k g =
    chain (row_here s c.op c) (λ q. with_row s q >>= λ t. row_here s (opposite c.op) c >>= λ r. with_row s r >>= λ u. unit (goals_of t xs ++ goals_of u ys)) (row-here-safe s c.op c h)
    (λ q i. chain (with_row s q) (λ t. row_here s (opposite c.op) c >>= λ r. with_row s r >>= λ u. unit (goals_of t xs ++ goals_of u ys)) (with-row-safe s q h i)
    (λ t j. chain (row_here s (opposite c.op) c) (λ r. with_row s r >>= λ u. unit (goals_of t xs ++ goals_of u ys)) (row-here-safe s (opposite c.op) c h)
    (λ r l. chain (with_row s r) (λ u. unit (goals_of t xs ++ goals_of u ys)) (with-row-safe s r h l) (λ u m. two-safe t u xs ys j m k g))))

called-safe : (s : PlainState) (f : PlainFunction) (args : List Linear) (x : Option ℕ) → StateAscends s → Safe StateAscends (called s f args x)
called-safe s f args x h =
    chain (values_here s args) (λ us. with_sort s Int >>= λ t. with_env (with_destination t x (fresh s)) (callee_env f us (fresh s))) (heres-safe s args h)
    (λ us i. chain (with_sort s Int) (λ t. with_env (with_destination t x (fresh s)) (callee_env f us (fresh s))) (with-sort-safe s Int h)
    (λ t j. with-env-safe (with_destination t x (fresh s)) (callee_env f us (fresh s)) (destination-ascends t x (fresh s) j (fresh-ascends s)) (callee-ascends f us (fresh s) i (fresh-ascends s))))

new-cells-safe : (s : PlainState) (b : Linear) (i n : ℕ) → StateAscends s → TermAscends b → Safe StateAscends (with_new_cells s b i n)
new-cells-safe s b i zero h k = of-some StateAscends s h
new-cells-safe s b i (suc n) h k =
    chain (sum b (number (pos i))) (λ a. with_cell s a zero_value >>= λ t. with_new_cells t b (suc i) n) (sum-safe b (number (pos i)) k tt)
    (λ a j. chain (with_cell s a zero_value) (λ t. with_new_cells t b (suc i) n) (with-cell-safe s a zero_value h j tt) (λ t l. new-cells-safe t b (suc i) n l k))

clash-safe : (s : PlainState) (i j : ℕ) (a : PlainAct) → StateAscends s → Safe AreOk (at_clash s i j a)
clash-safe s i j a h =
    chain (found (address_of a)) (λ x. need (nat_lt i j) >>= λ u. found (slice_get s.cells i) >>= λ c. found (slice_get s.cells j) >>= λ d. prove_equal s c.0 d.0 >>= λ v. unit []) (found-any (address_of a))
    (λ x k. chain (need (nat_lt i j)) (λ u. found (slice_get s.cells i) >>= λ c. found (slice_get s.cells j) >>= λ d. prove_equal s c.0 d.0 >>= λ v. unit []) (need-safe (nat_lt i j))
    (λ u l. chain (found (slice_get s.cells i)) (λ c. found (slice_get s.cells j) >>= λ d. prove_equal s c.0 d.0 >>= λ v. unit []) (of-get CellAscends s.cells i h.cells)
    (λ c m. chain (found (slice_get s.cells j)) (λ d. prove_equal s c.0 d.0 >>= λ v. unit []) (of-get CellAscends s.cells j h.cells)
    (λ d n. chain (prove_equal s c.0 d.0) (λ v. unit []) (equal-safe s c.0 d.0 h m.address n.address) (λ v o. of-some AreOk [] tt)))))

alloc-safe : (s : PlainState) (x n : ℕ) (ts : List PlainTask) → StateAscends s → AllByRecursion TaskAscends ts → Safe AreOk (at_alloc s x n ts)
alloc-safe s x n ts h k =
    chain (with_sort s Int) (λ t. with_comparison t (fresh s) AtLeast one_value Int >>= λ u. with_new_cells u (fresh s) 0 n >>= λ v. leaves (with_local v x (fresh s)) ts) (with-sort-safe s Int h)
    (λ t i. chain (with_comparison t (fresh s) AtLeast one_value Int) (λ u. with_new_cells u (fresh s) 0 n >>= λ v. leaves (with_local v x (fresh s)) ts) (with-comparison-safe t (fresh s) AtLeast one_value Int i (fresh-ascends s) tt)
    (λ u j. chain (with_new_cells u (fresh s) 0 n) (λ v. leaves (with_local v x (fresh s)) ts) (new-cells-safe u (fresh s) 0 n j (fresh-ascends s))
    (λ v l. leaves-safe (with_local v x (fresh s)) ts (local-ascends v x (fresh s) l (fresh-ascends s)) k)))

enter-safe : (p : PlainProgram) (s : PlainState) (i : ℕ) (l : Label) (a : PlainAct) (ts : List PlainTask) → StateAscends s → AllByRecursion TaskAscends ts → Safe AreOk (at_enter p s i l a ts)
enter-safe p s i l a ts h k =
    chain (found (address_of a)) (λ x. need (nat_lt (length s.opened) 2) >>= λ u. found (slice_get s.facts i) >>= λ f. found (slice_get p.regions f.kind) >>= λ y. prove_other s f (of_type f.kind s.opened) >>= λ v. case_goals (with_opened s i f) f l.number ts y.cases) (found-any (address_of a))
    (λ x j. chain (need (nat_lt (length s.opened) 2)) (λ u. found (slice_get s.facts i) >>= λ f. found (slice_get p.regions f.kind) >>= λ y. prove_other s f (of_type f.kind s.opened) >>= λ v. case_goals (with_opened s i f) f l.number ts y.cases) (need-safe (nat_lt (length s.opened) 2))
    (λ u j. chain (found (slice_get s.facts i)) (λ f. found (slice_get p.regions f.kind) >>= λ y. prove_other s f (of_type f.kind s.opened) >>= λ v. case_goals (with_opened s i f) f l.number ts y.cases) (of-get FactAscends s.facts i h.facts)
    (λ f m. chain (found (slice_get p.regions f.kind)) (λ y. prove_other s f (of_type f.kind s.opened) >>= λ v. case_goals (with_opened s i f) f l.number ts y.cases) (found-any (slice_get p.regions f.kind))
    (λ y n. chain (prove_other s f (of_type f.kind s.opened)) (λ v. case_goals (with_opened s i f) f l.number ts y.cases) (other-safe s f (of_type f.kind s.opened) h m (all-filter FactAscends (λ g. g.kind == f.kind) s.opened h.opened))
    (λ v o. case-goals-safe (with_opened s i f) f l.number ts y.cases (opened-ascends s i f h m) m k)))))

act-safe : (s : PlainState) (j : ℕ) (marks : List Bool) (l : Label) (a : PlainAct) (ts : List PlainTask) → StateAscends s → AllByRecursion TaskAscends ts → Safe AreOk (at_act s j marks l a ts)
act-safe s j marks l a ts h k =
    chain (found (address_of a)) (λ x. found (slice_get s.cells j) >>= λ c. value_here s x >>= λ t. prove_equal s c.0 t >>= λ u. with_marks s (rivals s) marks >>= λ v. acted v j c a >>= λ states. unit (flat_map (λ w. goals_of w (closing s.opened l.number ts)) states)) (found-any (address_of a))
    (λ x i. chain (found (slice_get s.cells j)) (λ c. value_here s x >>= λ t. prove_equal s c.0 t >>= λ u. with_marks s (rivals s) marks >>= λ v. acted v j c a >>= λ states. unit (flat_map (λ w. goals_of w (closing s.opened l.number ts)) states)) (of-get CellAscends s.cells j h.cells)
    (λ c m. chain (value_here s x) (λ t. prove_equal s c.0 t >>= λ u. with_marks s (rivals s) marks >>= λ v. acted v j c a >>= λ states. unit (flat_map (λ w. goals_of w (closing s.opened l.number ts)) states)) (here-safe s x h)
    (λ t n. chain (prove_equal s c.0 t) (λ u. with_marks s (rivals s) marks >>= λ v. acted v j c a >>= λ states. unit (flat_map (λ w. goals_of w (closing s.opened l.number ts)) states)) (equal-safe s c.0 t h m.address n)
    (λ u o. chain (with_marks s (rivals s) marks) (λ v. acted v j c a >>= λ states. unit (flat_map (λ w. goals_of w (closing s.opened l.number ts)) states)) (all-marks-safe s marks h)
    (λ v q. chain (acted v j c a) (λ states. unit (flat_map (λ w. goals_of w (closing s.opened l.number ts)) states)) (acted-safe v j c a q m)
    (λ states r. of-some AreOk (flat_map (λ w. goals_of w (closing s.opened l.number ts)) states) (all-flat StateAscends GoalAscends (λ w. goals_of w (closing s.opened l.number ts)) (λ w z. goals-ascend w (closing s.opened l.number ts) z (closing-ascends s.opened l.number ts k)) states r)))))))

params-ascend : (s : PlainState) (f : PlainFunction) → StateAscends s → AllByRecursion TermAscends (own_params s f)
params-ascend s f h = all-take TermAscends f.params s.store h.store

statement-safe : (p : PlainProgram) (s : PlainState) (marks : List Bool) (c : PlainChoice) (h : Home) (l : Label) (a : PlainAct) (rest : Block) (ts : List PlainTask) → StateAscends s → AllByRecursion TaskAscends ts → Safe AreOk (at_statement p s marks c h l a rest ts)
statement-safe p s marks (by_clash i j cs) h l a rest ts x y = clash-safe s i j a x
statement-safe p s marks by_set h l (set v t) rest ts x y = chain (value_here s t) (λ u. leaves (with_local s v u) (to_run h rest ∷ ts)) (here-safe s t x) (λ u i. leaves-safe (with_local s v u) (to_run h rest ∷ ts) (local-ascends s v u x i) (tt, y))
statement-safe p s marks by_alloc h l (alloc v n) rest ts x y = alloc-safe s v n (to_run h rest ∷ ts) x (tt, y)
statement-safe p s marks (by_assert cs) h l (check c) rest ts x y = chain (row_here s c.op c) (λ q. prove s.rows q >>= λ u. leaves s (to_run h rest ∷ ts)) (row-here-safe s c.op c x) (λ q i. chain (prove s.rows q) (λ u. leaves s (to_run h rest ∷ ts)) (prove-safe s.rows q x.rows i) (λ u j. leaves-safe s (to_run h rest ∷ ts) x (tt, y)))
statement-safe p s marks by_if h l (branch c a b) rest ts x y = branches-safe s c (to_run h (append a rest) ∷ ts) (to_run h (append b rest) ∷ ts) x (tt, y) (tt, y)
statement-safe p s marks by_loop h l (loop c i a) rest ts x y =
    chain (found (slice_get p.functions h.function)) (λ f. with_env s (own_env f h (own_params s f) (bound (drop f.params s.store)) None (length i.names)) >>= λ t. leaves t (to_take i.items (length s.envs) 3 l.number ∷ [])) (found-any (slice_get p.functions h.function))
    (λ f j. chain (with_env s (own_env f h (own_params s f) (bound (drop f.params s.store)) None (length i.names))) (λ t. leaves t (to_take i.items (length s.envs) 3 l.number ∷ [])) (with-env-safe s (own_env f h (own_params s f) (bound (drop f.params s.store)) None (length i.names)) x (own-ascends f h (own_params s f) (bound (drop f.params s.store)) None (length i.names) (params-ascend s f x) (bound-ascends (drop f.params s.store) (all-drop TermAscends f.params s.store x.store)) tt))
    (λ t m. leaves-safe t (to_take i.items (length s.envs) 3 l.number ∷ []) m (tt, tt)))
statement-safe p s marks by_call h l (call v n args) rest ts x y =
    chain (found (slice_get p.functions n)) (λ f. called s f args v >>= λ t. leaves t (to_take f.requires (length s.envs) 3 l.number ∷ to_rest 0 l.number ∷ to_give f.ensures.items (length s.envs) l.number ∷ to_run h rest ∷ ts)) (found-any (slice_get p.functions n))
    (λ f j. chain (called s f args v) (λ t. leaves t (to_take f.requires (length s.envs) 3 l.number ∷ to_rest 0 l.number ∷ to_give f.ensures.items (length s.envs) l.number ∷ to_run h rest ∷ ts)) (called-safe s f args v x)
    (λ t m. leaves-safe t (to_take f.requires (length s.envs) 3 l.number ∷ to_rest 0 l.number ∷ to_give f.ensures.items (length s.envs) l.number ∷ to_run h rest ∷ ts) m (tt, (tt, (tt, (tt, y))))))
statement-safe p s marks by_fork h l (fork n args) rest ts x y =
    chain (found (slice_get p.functions n)) (λ f. called s f args None >>= λ t. leaves t (to_take f.requires (length s.envs) 3 l.number ∷ to_rest 0 l.number ∷ to_run h rest ∷ ts)) (found-any (slice_get p.functions n))
    (λ f j. chain (called s f args None) (λ t. leaves t (to_take f.requires (length s.envs) 3 l.number ∷ to_rest 0 l.number ∷ to_run h rest ∷ ts)) (called-safe s f args None x)
    (λ t m. leaves-safe t (to_take f.requires (length s.envs) 3 l.number ∷ to_rest 0 l.number ∷ to_run h rest ∷ ts) m (tt, (tt, (tt, y)))))
statement-safe p s marks by_return h l (give_back t) rest ts x y =
    chain (found (slice_get p.functions h.function)) (λ f. value_here s t >>= λ u. with_env s (own_env f h (own_params s f) (unbound f.locals) (Some u) (length f.ensures.names)) >>= λ v. leaves v (to_take f.ensures.items (length s.envs) 3 l.number ∷ [])) (found-any (slice_get p.functions h.function))
    (λ f j. chain (value_here s t) (λ u. with_env s (own_env f h (own_params s f) (unbound f.locals) (Some u) (length f.ensures.names)) >>= λ v. leaves v (to_take f.ensures.items (length s.envs) 3 l.number ∷ [])) (here-safe s t x)
    (λ u i. chain (with_env s (own_env f h (own_params s f) (unbound f.locals) (Some u) (length f.ensures.names))) (λ v. leaves v (to_take f.ensures.items (length s.envs) 3 l.number ∷ [])) (with-env-safe s (own_env f h (own_params s f) (unbound f.locals) (Some u) (length f.ensures.names)) x (own-ascends f h (own_params s f) (unbound f.locals) (Some u) (length f.ensures.names) (params-ascend s f x) (unbound-ascends f.locals) i))
    (λ v m. leaves-safe v (to_take f.ensures.items (length s.envs) 3 l.number ∷ []) m (tt, tt))))
statement-safe p s marks (by_enter i cs) h l a rest ts x y = enter-safe p s i l a (to_run h (first l a rest) ∷ ts) x (tt, y)
statement-safe p s marks (by_act j cs ms) h l a rest ts x y = act-safe s j marks l a (to_run h rest ∷ ts) x (tt, y)
statement-safe p s marks c h l a rest ts x y = of-none AreOk

turn-safe : (s : PlainState) (c : PlainChoice) (h : Home) (l : Label) (a : PlainAct) (rest : Block) (ts : List PlainTask) → StateAscends s → AllByRecursion TaskAscends ts → Safe AreOk (at_turn s c h l a rest ts)
turn-safe s by_turn h l (loop c i a) rest ts x y = branches-safe s c (to_run h (append a (first l (loop c i a) rest)) ∷ ts) (to_run h rest ∷ ts) x (tt, y) (tt, y)
turn-safe s c h l a rest ts x y = of-none AreOk

-- ---- items
goes-safe : (s : PlainState) (r : Remaining) → StateAscends s → AllByRecursion TaskAscends r.tasks → Safe AreOk (goes s r)
goes-safe s r h k = leaves-safe s (to_take r.items r.env r.left r.statement ∷ r.tasks) h (tt, k)

fact-safe : (s : PlainState) (c : Comp) (r : Remaining) → StateAscends s → AllByRecursion TaskAscends r.tasks → Safe AreOk (at_fact s c r)
fact-safe s c r h k = chain (row_by (env_at s r.env) c.op c) (λ q. prove s.rows q >>= λ u. goes s r) (row-by-safe (env_at s r.env) c.op c (env-at-ascends s r.env h)) (λ q i. chain (prove s.rows q) (λ u. goes s r) (prove-safe s.rows q h.rows i) (λ u j. goes-safe s r h k))

cases-safe : (s : PlainState) (c : Comp) (a b : Items) (r : Remaining) → StateAscends s → AllByRecursion TaskAscends r.tasks → Safe AreOk (at_cases s c a b r)
cases-safe s c a b r h k =
    let e = env-at-ascends s r.env h in
    chain (row_by (env_at s r.env) c.op c) (λ q. with_row s q >>= λ t. row_by (env_at s r.env) (opposite c.op) c >>= λ o. with_row s o >>= λ u. goes t (record r { items = append_items a r.items }) >>= λ left. goes u (record r { items = append_items b r.items }) >>= λ right. unit (left ++ right)) (row-by-safe (env_at s r.env) c.op c e)
    (λ q i. chain (with_row s q) (λ t. row_by (env_at s r.env) (opposite c.op) c >>= λ o. with_row s o >>= λ u. goes t (record r { items = append_items a r.items }) >>= λ left. goes u (record r { items = append_items b r.items }) >>= λ right. unit (left ++ right)) (with-row-safe s q h i)
    (λ t j. chain (row_by (env_at s r.env) (opposite c.op) c) (λ o. with_row s o >>= λ u. goes t (record r { items = append_items a r.items }) >>= λ left. goes u (record r { items = append_items b r.items }) >>= λ right. unit (left ++ right)) (row-by-safe (env_at s r.env) (opposite c.op) c e)
    (λ o l. chain (with_row s o) (λ u. goes t (record r { items = append_items a r.items }) >>= λ left. goes u (record r { items = append_items b r.items }) >>= λ right. unit (left ++ right)) (with-row-safe s o h l)
    (λ u m. chain (goes t (record r { items = append_items a r.items })) (λ left. goes u (record r { items = append_items b r.items }) >>= λ right. unit (left ++ right)) (goes-safe t (record r { items = append_items a r.items }) j k)
    (λ left n. chain (goes u (record r { items = append_items b r.items })) (λ right. unit (left ++ right)) (goes-safe u (record r { items = append_items b r.items }) m k) (λ right z. of-some AreOk (left ++ right) (all-join GoalAscends left right n z)))))))

cell-safe : (s : PlainState) (j : ℕ) (a : Linear) (x : Slot) (r : Remaining) → StateAscends s → AllByRecursion TaskAscends r.tasks → Safe AreOk (at_cell s j a x r)
cell-safe s j a x r h k =
    let u : PlainState = record s { cells = remove s.cells j } in
    let w = cells-ascend s (remove s.cells j) h (all-remove CellAscends s.cells j h.cells) in
    chain (found (slice_get s.cells j)) (λ c. determined (env_at s r.env) a >>= λ t. prove_equal s t c.0 >>= λ v. match_slot s.rows (env_at s r.env) x c.1 >>= λ env. goes (with_env_at u r.env env) r) (of-get CellAscends s.cells j h.cells)
    (λ c i. chain (determined (env_at s r.env) a) (λ t. prove_equal s t c.0 >>= λ v. match_slot s.rows (env_at s r.env) x c.1 >>= λ env. goes (with_env_at u r.env env) r) (determined-safe (env_at s r.env) a (env-at-ascends s r.env h))
    (λ t l. chain (prove_equal s t c.0) (λ v. match_slot s.rows (env_at s r.env) x c.1 >>= λ env. goes (with_env_at u r.env env) r) (equal-safe s t c.0 h l i.address)
    (λ v m. chain (match_slot s.rows (env_at s r.env) x c.1) (λ env. goes (with_env_at u r.env env) r) (match-safe s.rows (env_at s r.env) x c.1 h.rows (env-at-ascends s r.env h) i.content)
    (λ env n. goes-safe (with_env_at u r.env env) r (env-set-ascends u r.env env w n) k))))

region-safe : (s : PlainState) (j n k : ℕ) (args : List Slot) (x : Slot) (r : Remaining) → StateAscends s → AllByRecursion TaskAscends r.tasks → Safe AreOk (at_region s j n k args x r)
region-safe s j n k args x r h g =
    chain (found (slice_get s.facts j)) (λ f. need ((f.kind == k) && not f.loose) >>= λ u. match_slots s.rows (env_at s r.env) (Is (variable n) ∷ (args ++ x ∷ [])) (f.region ∷ (f.args ++ f.state ∷ [])) >>= λ env. goes (with_env_at s r.env env) r) (of-get FactAscends s.facts j h.facts)
    (λ f i. chain (need ((f.kind == k) && not f.loose)) (λ u. match_slots s.rows (env_at s r.env) (Is (variable n) ∷ (args ++ x ∷ [])) (f.region ∷ (f.args ++ f.state ∷ [])) >>= λ env. goes (with_env_at s r.env env) r) (need-safe ((f.kind == k) && not f.loose))
    (λ u l. chain (match_slots s.rows (env_at s r.env) (Is (variable n) ∷ (args ++ x ∷ [])) (f.region ∷ (f.args ++ f.state ∷ []))) (λ env. goes (with_env_at s r.env env) r) (matches-safe s.rows (env_at s r.env) (Is (variable n) ∷ (args ++ x ∷ [])) (f.region ∷ (f.args ++ f.state ∷ [])) h.rows (env-at-ascends s r.env h) (i.region, all-last TermAscends f.args f.state i.args i.state))
    (λ env m. goes-safe (with_env_at s r.env env) r (env-set-ascends s r.env env h m) g)))

no-tokens-safe : (s : PlainState) (j : ℕ) (x : Slot) (r : Remaining) → StateAscends s → AllByRecursion TaskAscends r.tasks → Safe AreOk (at_no_tokens s j x r)
no-tokens-safe s j x r h k =
    chain (need (j == 0)) (λ u. determined_slot (env_at s r.env) x >>= λ t. prove_equal s t zero_value >>= λ v. goes s r) (need-safe (j == 0))
    (λ u i. chain (determined_slot (env_at s r.env) x) (λ t. prove_equal s t zero_value >>= λ v. goes s r) (slot-safe (env_at s r.env) x (env-at-ascends s r.env h))
    (λ t l. chain (prove_equal s t zero_value) (λ v. goes s r) (equal-safe s t zero_value h l tt) (λ v m. goes-safe s r h k)))

found-name : (o : Option Linear) → NameAscends o → IfSome TermAscends o
found-name None h = tt
found-name (Some t) h = h

piece-safe : (s : PlainState) (j way n k i : ℕ) (asked : Asked) (r : Remaining) → StateAscends s → AllByRecursion TaskAscends r.tasks → Safe AreOk (at_piece s j way n k i asked r)
piece-safe s j way n k i asked r h g =
    let env = env_at s r.env in
    let e = env-at-ascends s r.env h in
    chain (found (slice_get s.guards j)) (λ q. need ((q.kind == k) && (q.atom == i)) >>= λ u. found (term_of env n) >>= λ t. prove_equal s q.region t >>= λ v. cut_form s env asked q.form way >>= λ c. goes (after_cut r.env j q c) r) (of-get PieceAscends s.guards j h.guards)
    (λ q l. chain (need ((q.kind == k) && (q.atom == i))) (λ u. found (term_of env n) >>= λ t. prove_equal s q.region t >>= λ v. cut_form s env asked q.form way >>= λ c. goes (after_cut r.env j q c) r) (need-safe ((q.kind == k) && (q.atom == i)))
    (λ u m. chain (found (term_of env n)) (λ t. prove_equal s q.region t >>= λ v. cut_form s env asked q.form way >>= λ c. goes (after_cut r.env j q c) r) (of-found TermAscends (term_of env n) (found-name (term_of env n) (term-of-ascends env n e)))
    (λ t o. chain (prove_equal s q.region t) (λ v. cut_form s env asked q.form way >>= λ c. goes (after_cut r.env j q c) r) (equal-safe s q.region t h l.region o)
    (λ v z. chain (cut_form s env asked q.form way) (λ c. goes (after_cut r.env j q c) r) (cut-form-safe s env asked q.form way h e l.form)
    (λ c w. goes-safe (after_cut r.env j q c) r (after-cut-ascends r.env j q c l w) g)))))

guard-safe : (s : PlainState) (j way n k i : ℕ) (asked : Asked) (r : Remaining) → StateAscends s → AllByRecursion TaskAscends r.tasks → Safe AreOk (at_guard s j way n k i asked r)
guard-safe s j (suc (suc zero)) n k i (Tok x) r h g = no-tokens-safe s j x r h g
guard-safe s j way n k i asked r h g = piece-safe s j way n k i asked r h g

convert-safe : (p : PlainProgram) (s : PlainState) (m side n k : ℕ) (i : PlainItem) (r : Remaining) → StateAscends s → AllByRecursion TaskAscends r.tasks → Safe AreOk (at_convert p s m side n k i r)
convert-safe p s m side n k i r h g =
    let env = env_at s r.env in
    chain (found (slice_get p.regions k)) (λ y. found (sum_in y.algebra 0 m) >>= λ sides. found (given_side sides side) >>= λ held. found (term_of env n) >>= λ t. without_full s.rows s.guards (side_pieces held t k) >>= λ guards. with_pieces p (record s { guards = guards }) (side_pieces (other_side sides side) t k) >>= λ u. leaves u (stays s i r.left r ∷ r.tasks)) (found-any (slice_get p.regions k))
    (λ y a. chain (found (sum_in y.algebra 0 m)) (λ sides. found (given_side sides side) >>= λ held. found (term_of env n) >>= λ t. without_full s.rows s.guards (side_pieces held t k) >>= λ guards. with_pieces p (record s { guards = guards }) (side_pieces (other_side sides side) t k) >>= λ u. leaves u (stays s i r.left r ∷ r.tasks)) (found-any (sum_in y.algebra 0 m))
    (λ sides b. chain (found (given_side sides side)) (λ held. found (term_of env n) >>= λ t. without_full s.rows s.guards (side_pieces held t k) >>= λ guards. with_pieces p (record s { guards = guards }) (side_pieces (other_side sides side) t k) >>= λ u. leaves u (stays s i r.left r ∷ r.tasks)) (found-any (given_side sides side))
    (λ held c. chain (found (term_of env n)) (λ t. without_full s.rows s.guards (side_pieces held t k) >>= λ guards. with_pieces p (record s { guards = guards }) (side_pieces (other_side sides side) t k) >>= λ u. leaves u (stays s i r.left r ∷ r.tasks)) (of-found TermAscends (term_of env n) (found-name (term_of env n) (term-of-ascends env n (env-at-ascends s r.env h))))
    (λ t d. chain (without_full s.rows s.guards (side_pieces held t k)) (λ guards. with_pieces p (record s { guards = guards }) (side_pieces (other_side sides side) t k) >>= λ u. leaves u (stays s i r.left r ∷ r.tasks)) (without-full-safe s.rows s.guards (side_pieces held t k) h.rows h.guards)
    (λ guards e. chain (with_pieces p (record s { guards = guards }) (side_pieces (other_side sides side) t k)) (λ u. leaves u (stays s i r.left r ∷ r.tasks)) (with-pieces-safe p (record s { guards = guards }) (side_pieces (other_side sides side) t k) (guards-ascend s guards h e) (side-ascends (other_side sides side) t k d))
    (λ u f. leaves-safe u (stays s i r.left r ∷ r.tasks) f (tt, g)))))))

create-safe : (p : PlainProgram) (s : PlainState) (c n k : ℕ) (args : List Slot) (x : Slot) (i : PlainItem) (left : ℕ) (r : Remaining) → StateAscends s → AllByRecursion TaskAscends r.tasks → Safe AreOk (at_create p s c n k args x i left r)
create-safe p s c n k args x i left r h g =
    let env = env_at s r.env in
    let e = env-at-ascends s r.env h in
    chain (found (slice_get p.regions k)) (λ y. found (slice_get y.cases c) >>= λ z. need (is_none (term_of env n)) >>= λ a. each (determined_slot env) args >>= λ us. with_new_region p s y k >>= λ t. case_env y z (fact_of (fresh s) k us zero_value) (determined_slot env x) >>= λ v. with_env t v >>= λ w. leaves w (to_take z.items (length s.envs) left r.statement ∷ to_make k c (length s.envs) (fresh s) r.statement ∷ stays s i left r ∷ r.tasks)) (found-any (slice_get p.regions k))
    (λ y b1. chain (found (slice_get y.cases c)) (λ z. need (is_none (term_of env n)) >>= λ a. each (determined_slot env) args >>= λ us. with_new_region p s y k >>= λ t. case_env y z (fact_of (fresh s) k us zero_value) (determined_slot env x) >>= λ v. with_env t v >>= λ w. leaves w (to_take z.items (length s.envs) left r.statement ∷ to_make k c (length s.envs) (fresh s) r.statement ∷ stays s i left r ∷ r.tasks)) (found-any (slice_get y.cases c))
    (λ z b2. chain (need (is_none (term_of env n))) (λ a. each (determined_slot env) args >>= λ us. with_new_region p s y k >>= λ t. case_env y z (fact_of (fresh s) k us zero_value) (determined_slot env x) >>= λ v. with_env t v >>= λ w. leaves w (to_take z.items (length s.envs) left r.statement ∷ to_make k c (length s.envs) (fresh s) r.statement ∷ stays s i left r ∷ r.tasks)) (need-safe (is_none (term_of env n)))
    (λ a b3. chain (each (determined_slot env) args) (λ us. with_new_region p s y k >>= λ t. case_env y z (fact_of (fresh s) k us zero_value) (determined_slot env x) >>= λ v. with_env t v >>= λ w. leaves w (to_take z.items (length s.envs) left r.statement ∷ to_make k c (length s.envs) (fresh s) r.statement ∷ stays s i left r ∷ r.tasks)) (each-safe IsAny TermAscends (determined_slot env) (λ q o. slot-safe env q e) args (all-any IsAny (λ q. tt) args))
    (λ us b4. chain (with_new_region p s y k) (λ t. case_env y z (fact_of (fresh s) k us zero_value) (determined_slot env x) >>= λ v. with_env t v >>= λ w. leaves w (to_take z.items (length s.envs) left r.statement ∷ to_make k c (length s.envs) (fresh s) r.statement ∷ stays s i left r ∷ r.tasks)) (new-region-safe p s y k h)
    (λ t b5. chain (case_env y z (fact_of (fresh s) k us zero_value) (determined_slot env x)) (λ v. with_env t v >>= λ w. leaves w (to_take z.items (length s.envs) left r.statement ∷ to_make k c (length s.envs) (fresh s) r.statement ∷ stays s i left r ∷ r.tasks)) (case-env-safe y z (fact_of (fresh s) k us zero_value) (determined_slot env x) (record { region = fresh-ascends s; args = b4; state = tt }) (slot-safe env x e))
    (λ v b6. chain (with_env t v) (λ w. leaves w (to_take z.items (length s.envs) left r.statement ∷ to_make k c (length s.envs) (fresh s) r.statement ∷ stays s i left r ∷ r.tasks)) (with-env-safe t v b5 b6)
    (λ w b7. leaves-safe w (to_take z.items (length s.envs) left r.statement ∷ to_make k c (length s.envs) (fresh s) r.statement ∷ stays s i left r ∷ r.tasks) b7 (tt, (fresh-ascends s, (tt, g))))))))))

creates-safe : (p : PlainProgram) (s : PlainState) (c n k : ℕ) (args : List Slot) (x : Slot) (i : PlainItem) (r : Remaining) (left : ℕ) → StateAscends s → AllByRecursion TaskAscends r.tasks → Safe AreOk (creates p s c n k args x i r left)
creates-safe p s c n k args x i r zero h g = of-none AreOk
creates-safe p s c n k args x i r (suc left) h g = create-safe p s c n k args x i left r h g

item-safe : (p : PlainProgram) (s : PlainState) (c : PlainChoice) (i : PlainItem) (r : Remaining) → StateAscends s → AllByRecursion TaskAscends r.tasks → Safe AreOk (at_item p s c i r)
item-safe p s (by_fact cs) (compare c) r h k = fact-safe s c r h k
item-safe p s by_cases (choose c a b) r h k = cases-safe s c a b r h k
item-safe p s (by_cell j cs) (cell place a x) r h k = cell-safe s j a x r h k
item-safe p s (by_region j cs) (fact place n m args x) r h k = region-safe s j n m args x r h k
item-safe p s (by_guard j way cs) (atom place n m i asked) r h k = guard-safe s j way n m i asked r h k
item-safe p s (by_convert m side cs) (atom place n q i asked) r h k = convert-safe p s m side n q (atom place n q i asked) r h k
item-safe p s (by_create c) (fact place n m args x) r h k = creates-safe p s c n m args x (fact place n m args x) r r.left h k
item-safe p s c i r h k = of-none AreOk

-- ---- the other tasks
close-safe : (p : PlainProgram) (s : PlainState) (o c m : ℕ) (any : Bool) (n : ℕ) (ts : List PlainTask) → StateAscends s → AllByRecursion TaskAscends ts → Safe AreOk (at_close p s o c m any n ts)
close-safe p s o c m any n ts h g =
    chain (found (slice_get s.opened o)) (λ f. found (slice_get p.regions f.kind) >>= λ k. found (slice_get k.cases c) >>= λ x. need (may_move any m k) >>= λ a. case_env k x f (move_target k f m) >>= λ env. with_env s env >>= λ t. leaves t (to_take x.items (length s.envs) (creations any) n ∷ to_shift o c m (length s.envs) n ∷ ts)) (of-get FactAscends s.opened o h.opened)
    (λ f i. chain (found (slice_get p.regions f.kind)) (λ k. found (slice_get k.cases c) >>= λ x. need (may_move any m k) >>= λ a. case_env k x f (move_target k f m) >>= λ env. with_env s env >>= λ t. leaves t (to_take x.items (length s.envs) (creations any) n ∷ to_shift o c m (length s.envs) n ∷ ts)) (found-any (slice_get p.regions f.kind))
    (λ k j. chain (found (slice_get k.cases c)) (λ x. need (may_move any m k) >>= λ a. case_env k x f (move_target k f m) >>= λ env. with_env s env >>= λ t. leaves t (to_take x.items (length s.envs) (creations any) n ∷ to_shift o c m (length s.envs) n ∷ ts)) (found-any (slice_get k.cases c))
    (λ x l. chain (need (may_move any m k)) (λ a. case_env k x f (move_target k f m) >>= λ env. with_env s env >>= λ t. leaves t (to_take x.items (length s.envs) (creations any) n ∷ to_shift o c m (length s.envs) n ∷ ts)) (need-safe (may_move any m k))
    (λ a b. chain (case_env k x f (move_target k f m)) (λ env. with_env s env >>= λ t. leaves t (to_take x.items (length s.envs) (creations any) n ∷ to_shift o c m (length s.envs) n ∷ ts)) (case-env-safe k x f (move_target k f m) i (target-safe k f m i))
    (λ env e. chain (with_env s env) (λ t. leaves t (to_take x.items (length s.envs) (creations any) n ∷ to_shift o c m (length s.envs) n ∷ ts)) (with-env-safe s env h e)
    (λ t z. leaves-safe t (to_take x.items (length s.envs) (creations any) n ∷ to_shift o c m (length s.envs) n ∷ ts) z (tt, (tt, g))))))))

shift-safe : (p : PlainProgram) (s : PlainState) (js : List ℕ) (o c m e : ℕ) (ts : List PlainTask) → StateAscends s → AllByRecursion TaskAscends ts → Safe AreOk (at_shift p s js o c m e ts)
shift-safe p s js o c m e ts h g =
    let env = env_at s e in
    let v = env-at-ascends s e h in
    chain (found (slice_get s.opened o)) (λ f. found (slice_get p.regions f.kind) >>= λ k. found (slice_get k.cases c) >>= λ x. prove_comparisons s.rows env x.when >>= λ a. determined env x.state >>= λ new. prove_move k s f new m js >>= λ b. with_closed s o f new >>= λ t. leaves t ts) (of-get FactAscends s.opened o h.opened)
    (λ f i. chain (found (slice_get p.regions f.kind)) (λ k. found (slice_get k.cases c) >>= λ x. prove_comparisons s.rows env x.when >>= λ a. determined env x.state >>= λ new. prove_move k s f new m js >>= λ b. with_closed s o f new >>= λ t. leaves t ts) (found-any (slice_get p.regions f.kind))
    (λ k j. chain (found (slice_get k.cases c)) (λ x. prove_comparisons s.rows env x.when >>= λ a. determined env x.state >>= λ new. prove_move k s f new m js >>= λ b. with_closed s o f new >>= λ t. leaves t ts) (found-any (slice_get k.cases c))
    (λ x l. chain (prove_comparisons s.rows env x.when) (λ a. determined env x.state >>= λ new. prove_move k s f new m js >>= λ b. with_closed s o f new >>= λ t. leaves t ts) (comparisons-safe s.rows env x.when h.rows v)
    (λ a q. chain (determined env x.state) (λ new. prove_move k s f new m js >>= λ b. with_closed s o f new >>= λ t. leaves t ts) (determined-safe env x.state v)
    (λ new z. chain (prove_move k s f new m js) (λ b. with_closed s o f new >>= λ t. leaves t ts) (move-safe k s f new m js h i z)
    (λ b w. chain (with_closed s o f new) (λ t. leaves t ts) (closed-safe s o f new h i z) (λ t r. leaves-safe t ts r g)))))))

rest-safe : (p : PlainProgram) (s : PlainState) (j n : ℕ) (ts : List PlainTask) (o : PlainFact → PlainRegionType → Attempt PlainState) → StateAscends s → AllByRecursion TaskAscends ts → ((f : PlainFact) (k : PlainRegionType) → FactAscends f → Safe StateAscends (o f k)) → Safe AreOk (found (slice_get s.facts j) >>= λ f. found (slice_get p.regions f.kind) >>= λ k. o f k >>= λ t. leaves t (to_rest (j + 1) n ∷ ts))
rest-safe p s j n ts o h g e =
    chain (found (slice_get s.facts j)) (λ f. found (slice_get p.regions f.kind) >>= λ k. o f k >>= λ t. leaves t (to_rest (j + 1) n ∷ ts)) (of-get FactAscends s.facts j h.facts)
    (λ f i. chain (found (slice_get p.regions f.kind)) (λ k. o f k >>= λ t. leaves t (to_rest (j + 1) n ∷ ts)) (found-any (slice_get p.regions f.kind))
    (λ k l. chain (o f k) (λ t. leaves t (to_rest (j + 1) n ∷ ts)) (e f k i) (λ t m. leaves-safe t (to_rest (j + 1) n ∷ ts) m (tt, g))))

args-safe : (env : PlainEnv) (n : ℕ) → EnvAscends env → Safe (AllByRecursion TermAscends) (args_in env n)
args-safe env n h = each-safe NameAscends TermAscends found (λ o i. of-found TermAscends o (found-name o i)) (take (n - 1) (drop 1 env)) (all-take NameAscends (n - 1) (drop 1 env) (all-drop NameAscends 1 env h))

made-safe : (p : PlainProgram) (s : PlainState) (k c e : ℕ) (t : Linear) (ts : List PlainTask) → StateAscends s → TermAscends t → AllByRecursion TaskAscends ts → Safe AreOk (at_made p s k c e t ts)
made-safe p s k c e t ts h q g =
    let env = env_at s e in
    let v = env-at-ascends s e h in
    chain (found (slice_get p.regions k)) (λ y. found (slice_get y.cases c) >>= λ z. prove_comparisons s.rows env z.when >>= λ a. determined env z.state >>= λ state. args_in env y.params >>= λ args. with_fact s (fact_of t k args state) >>= λ u. leaves u ts) (found-any (slice_get p.regions k))
    (λ y i. chain (found (slice_get y.cases c)) (λ z. prove_comparisons s.rows env z.when >>= λ a. determined env z.state >>= λ state. args_in env y.params >>= λ args. with_fact s (fact_of t k args state) >>= λ u. leaves u ts) (found-any (slice_get y.cases c))
    (λ z j. chain (prove_comparisons s.rows env z.when) (λ a. determined env z.state >>= λ state. args_in env y.params >>= λ args. with_fact s (fact_of t k args state) >>= λ u. leaves u ts) (comparisons-safe s.rows env z.when h.rows v)
    (λ a l. chain (determined env z.state) (λ state. args_in env y.params >>= λ args. with_fact s (fact_of t k args state) >>= λ u. leaves u ts) (determined-safe env z.state v)
    (λ state m. chain (args_in env y.params) (λ args. with_fact s (fact_of t k args state) >>= λ u. leaves u ts) (args-safe env y.params v)
    (λ args n. chain (with_fact s (fact_of t k args state)) (λ u. leaves u ts) (with-fact-safe s (fact_of t k args state) h (record { region = q; args = n; state = m })) (λ u r. leaves-safe u ts r g))))))

absurd-safe : (s : PlainState) → StateAscends s → Safe AreOk (at_absurd s)
absurd-safe s h = record { lists = (h.rows, tt); value = tt }

task-safe : (p : PlainProgram) (s : PlainState) (marks : List Bool) (c : PlainChoice) (t : PlainTask) (ts : List PlainTask) → StateAscends s → TaskAscends t → AllByRecursion TaskAscends ts → Safe AreOk (at_task p s marks c t ts)
task-safe p s marks (by_absurd c) t ts h q k = absurd-safe s h
task-safe p s marks c (to_run x (first l a rest)) ts h q k = run-safe p s marks c x l a rest ts h k
  where
    run-safe : (p : PlainProgram) (s : PlainState) (marks : List Bool) (c : PlainChoice) (x : Home) (l : Label) (a : PlainAct) (rest : Block) (ts : List PlainTask) → StateAscends s → AllByRecursion TaskAscends ts → Safe AreOk (at_statement p s marks c x l a rest ts)
    run-safe p s marks c x l a rest ts h k = statement-safe p s marks c x l a rest ts h k
task-safe p s marks c (to_turn x (first l a rest)) ts h q k = turn-safe s c x l a rest ts h k
task-safe p s marks c (to_take (item i more) e left n) ts h q k = item-safe p s c i (record { items = more; env = e; left = left; statement = n; tasks = ts }) h k
task-safe p s marks by_give (to_give items e n) ts h q k = give-safe p s e n ts items h k
task-safe p s marks (by_pick o c m) (to_close any n) ts h q k = close-safe p s o c m any n ts h k
task-safe p s marks (by_shift cs js) (to_shift o c m e n) ts h q k = shift-safe p s js o c m e ts h k
task-safe p s marks (by_settle list cs) (to_rest j n) ts h q k = rest-safe p s j n ts (λ f y. settle y s j f list) h k (λ f y i. settle-safe y s j f list h i)
task-safe p s marks (by_keep cs) (to_rest j n) ts h q k = rest-safe p s j n ts (λ f y. keep y s j f) h k (λ f y i. keep-safe y s j f h i)
task-safe p s marks (by_made cs) (to_make y c e t n) ts h q k = made-safe p s y c e t ts h q k
task-safe p s marks c t ts h q k = of-none AreOk

tasks-safe : (p : PlainProgram) (s : PlainState) (marks : List Bool) (c : PlainChoice) (ts : List PlainTask) → StateAscends s → AllByRecursion TaskAscends ts → Safe AreOk (at_tasks p s marks c ts)
tasks-safe p s marks c [] h k = of-none AreOk
tasks-safe p s marks c (t ∷ ts) h k = task-safe p s marks c t ts h k.0 k.1

rule-safe : (p : PlainProgram) (g : PlainGoal) (c : PlainChoice) (marks : List Bool) → GoalAscends g → Safe AreOk (rule p g c marks)
rule-safe p g c marks h = tasks-safe p g.state marks c g.tasks h.state h.tasks

pub owed-ascend : OwedAscend
owed-ascend p g c marks h = (rule-safe p g c marks h).lists

value-ascends : (o : Option (List PlainGoal)) (gs : List PlainGoal) → o ≡ Some gs → IfSome AreOk o → AreOk gs
value-ascends None gs e h = absurd (none-some e)
  where
    none-some : None ≡ Some gs → ⊥
    none-some e = cc
value-ascends (Some hs) gs e h = subst AreOk (same-some e) h
  where
    same-some : Some hs ≡ Some gs → hs ≡ gs
    same-some e = cc

pub subgoals-ascend : SubgoalsAscend
subgoals-ascend p g c gs h s = value-ascends (rule p g c (marks_of c)).value gs (answers-succeed (rule p g c (marks_of c)) (certs_of c) gs s).value (rule-safe p g c (marks_of c) h).value
