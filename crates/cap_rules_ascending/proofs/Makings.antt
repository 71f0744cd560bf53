-- Terms, rows and changes of states.
use Rattle.std.proofs.Common.{ℕ, Bool, true, false, List, [], ◌∷◌, ◌++◌, length, Option, Some, None}
use Rattle.std.specs.Prelude.{slice_get, slice_set, find, if◌then◌else◌, option_map, ◌&&◌}
use Rattle.std.specs.List.{AllByRecursion, list_any}
use Rattle.cap_lin.specs.Linear.{Linear, plus, minus}
use Rattle.cap_lin.specs.Rows.{row_of}
use Rattle.cap_lin.specs.Steps.{plus_steps, minus_steps}
use Rattle.cap_lin.specs.declared.row.Row.{Row}
use Rattle.cap_lin.specs.declared.row.Sort.{Sort}
use Rattle.cap_lin.specs.declared.row.Sort.TheVariants.{Int, Perm}
use Rattle.cap_lin.specs.declared.row.Op.{Op}
use Rattle.cap_lin.specs.declared.row.Op.TheVariants.{Eq as Equal, Ne as Unequal, Le as AtMost, Gt as Greater, Ge as AtLeast}
use Rattle.cap_galg.specs.Algebras.{PlainAlgebra}
use Rattle.cap_gsolve.specs.declared.piece.Form.{Form}
use Rattle.cap_gsolve.specs.declared.piece.Form.TheVariants.{One, Share, Src, Tok, Span}
use Rattle.cap_gsolve.specs.declared.piece.Piece.{Piece}
use Rattle.cap_gsolve.specs.Pieces.{same_part, has_indices, is_single}
use Rattle.cap_gsolve.specs.Merge.{false_row, zero_term, one_term, added_rows, combined, combined_rows, lone_rows, end_rows, parted_rows, beside, form_at, there, place, met_rows, clash, clash_rows, joined, merge_rows, merge_steps}
use Rattle.cap_prog.specs.declared.assertion.Comp.{Comp}
use Rattle.cap_prog.specs.declared.assertion.Slot.{Slot}
use Rattle.cap_prog.specs.declared.assertion.Slot.TheVariants.{Any, Is}
use Rattle.cap_prog.specs.Program.{PlainProgram}
use Rattle.cap_rules.specs.cap_goal_spec.Terms.{term_over, term_over_steps}
use Rattle.cap_rules.specs.cap_goal_spec.States.{PlainFact, PlainEnv, PlainState, with_state}
use Rattle.cap_rules.specs.cap_goal_spec.Environments.{is_determined, term_in, term_in_steps, Reading, settled, open_to, stuck, reading}
use Rattle.cap_rules.specs.Attempts.{unit, ◌>>=◌, computed, found, need, appended, comparison_row, prove, prove_that}
use Rattle.cap_rules.specs.Making.{sum, difference, in_store, value_here, values_here, row_here, value_by, determined, determined_slot, row_by, rows_by, prove_comparisons, prove_equal, prove_differ, match_reading, match_slot, match_slots, fresh, with_sort, with_sorts, with_row, with_rows, with_comparison, with_differing, with_local, with_destination, with_cell, with_env, env_at, with_env_at, is_of_region, is_of_other_type, without_first, with_equalities, with_same, with_false, with_fact, guards_with, with_piece, with_pieces}
use Rattle.cap_rules_ascending.specs.Ascending.{TermAscends, NameAscends, RowAscends, FormAscends, PieceAscends, FactAscends, CellAscends, EnvAscends, StateAscends}
use Rattle.cap_rules_ascending.proofs.Lists.{IfSome, all-join, all-get-or, all-set, all-find}
use Rattle.cap_rules_ascending.proofs.Terms.{variable-ascends, plus-ascends, minus-ascends, over-ascends, row-ascends, in-ascends, bind-ascends}
use Rattle.cap_rules_ascending.proofs.Safe.{IsAny, Safe, chain, of-some, of-none, of-computed, found-any, need-safe, appended-safe, comparison-safe, prove-safe, prove-that-safe}

-- ---- terms
pub sum-safe : (s t : Linear) → TermAscends s → TermAscends t → Safe TermAscends (sum s t)
sum-safe s t h k = of-computed TermAscends (plus s t) (plus_steps s t) (plus-ascends s t h k)

pub difference-safe : (s t : Linear) → TermAscends s → TermAscends t → Safe TermAscends (difference s t)
difference-safe s t h k = of-computed TermAscends (minus s t) (minus_steps s t) (minus-ascends s t h k)

pub here-safe : (s : PlainState) (t : Linear) → StateAscends s → Safe TermAscends (value_here s t)
here-safe s t h = of-computed TermAscends (term_over (in_store s) t) (term_over_steps (in_store s) t) (over-ascends (in_store s) t (λ x. all-get-or TermAscends s.store x _ h.store tt))

pub heres-safe : (s : PlainState) (ts : List Linear) → StateAscends s → Safe (AllByRecursion TermAscends) (values_here s ts)
heres-safe s [] h = of-some (AllByRecursion TermAscends) [] tt
heres-safe s (t ∷ ts) h = chain (value_here s t) (λ u. values_here s ts >>= λ us. unit (u ∷ us)) (here-safe s t h) (λ u i. chain (values_here s ts) (λ us. unit (u ∷ us)) (heres-safe s ts h) (λ us j. of-some (AllByRecursion TermAscends) (u ∷ us) (i, j)))

pub row-here-safe : (s : PlainState) (op : Op) (c : Comp) → StateAscends s → Safe RowAscends (row_here s op c)
row-here-safe s op c h = chain (value_here s c.left) (λ l. value_here s c.right >>= λ r. comparison_row l op r c.sort) (here-safe s c.left h) (λ l i. chain (value_here s c.right) (λ r. comparison_row l op r c.sort) (here-safe s c.right h) (λ r j. comparison-safe l op r c.sort i j))

pub by-safe : (env : PlainEnv) (t : Linear) → EnvAscends env → Safe TermAscends (value_by env t)
by-safe env t h = of-computed TermAscends (term_in env t) (term_in_steps env t) (in-ascends env t h)

pub determined-safe : (env : PlainEnv) (t : Linear) → EnvAscends env → Safe TermAscends (determined env t)
determined-safe env t h = chain (need (is_determined env t)) (λ u. value_by env t) (need-safe (is_determined env t)) (λ u i. by-safe env t h)

pub slot-safe : (env : PlainEnv) (x : Slot) → EnvAscends env → Safe TermAscends (determined_slot env x)
slot-safe env Any h = of-none TermAscends
slot-safe env (Is t) h = determined-safe env t h

pub row-by-safe : (env : PlainEnv) (op : Op) (c : Comp) → EnvAscends env → Safe RowAscends (row_by env op c)
row-by-safe env op c h = chain (determined env c.left) (λ l. determined env c.right >>= λ r. comparison_row l op r c.sort) (determined-safe env c.left h) (λ l i. chain (determined env c.right) (λ r. comparison_row l op r c.sort) (determined-safe env c.right h) (λ r j. comparison-safe l op r c.sort i j))

pub rows-by-safe : (env : PlainEnv) (cs : List Comp) → EnvAscends env → Safe (AllByRecursion RowAscends) (rows_by env cs)
rows-by-safe env [] h = of-some (AllByRecursion RowAscends) [] tt
rows-by-safe env (c ∷ cs) h = chain (row_by env c.op c) (λ r. rows_by env cs >>= λ rs. unit (r ∷ rs)) (row-by-safe env c.op c h) (λ r i. chain (rows_by env cs) (λ rs. unit (r ∷ rs)) (rows-by-safe env cs h) (λ rs j. of-some (AllByRecursion RowAscends) (r ∷ rs) (i, j)))

pub comparisons-safe : (rows : List Row) (env : PlainEnv) (cs : List Comp) → AllByRecursion RowAscends rows → EnvAscends env → Safe IsAny (prove_comparisons rows env cs)
comparisons-safe rows env [] h k = of-some IsAny tt tt
comparisons-safe rows env (c ∷ cs) h k = chain (row_by env c.op c) (λ r. prove rows r >>= λ u. prove_comparisons rows env cs) (row-by-safe env c.op c k) (λ r i. chain (prove rows r) (λ u. prove_comparisons rows env cs) (prove-safe rows r h i) (λ u j. comparisons-safe rows env cs h k))

pub equal-safe : (s : PlainState) (a b : Linear) → StateAscends s → TermAscends a → TermAscends b → Safe IsAny (prove_equal s a b)
equal-safe s a b h k g = prove-that-safe s.rows a Equal b Int h.rows k g

pub differ-safe : (s : PlainState) (a b : Linear) → StateAscends s → TermAscends a → TermAscends b → Safe IsAny (prove_differ s a b)
differ-safe s a b h k g = prove-that-safe s.rows a Unequal b Int h.rows k g

pub reading-safe : (rows : List Row) (env : PlainEnv) (t : Linear) (r : Reading) → AllByRecursion RowAscends rows → EnvAscends env → TermAscends t → Safe EnvAscends (match_reading rows env t r)
reading-safe rows env t (settled u) h k g = chain (value_by env u) (λ l. prove_that rows l Equal t Int >>= λ z. unit env) (by-safe env u k) (λ l i. chain (prove_that rows l Equal t Int) (λ z. unit env) (prove-that-safe rows l Equal t Int h i g) (λ z j. of-some EnvAscends env k))
reading-safe rows env t (open_to x) h k g = of-some EnvAscends _ (bind-ascends env x t k g)
reading-safe rows env t stuck h k g = of-none EnvAscends

pub match-safe : (rows : List Row) (env : PlainEnv) (x : Slot) (t : Linear) → AllByRecursion RowAscends rows → EnvAscends env → TermAscends t → Safe EnvAscends (match_slot rows env x t)
match-safe rows env x t h k g = reading-safe rows env t (reading env x) h k g

pub matches-safe : (rows : List Row) (env : PlainEnv) (xs : List Slot) (ts : List Linear) → AllByRecursion RowAscends rows → EnvAscends env → AllByRecursion TermAscends ts → Safe EnvAscends (match_slots rows env xs ts)
matches-safe rows env [] [] h k g = of-some EnvAscends env k
matches-safe rows env [] (t ∷ ts) h k g = of-none EnvAscends
matches-safe rows env (x ∷ xs) [] h k g = of-none EnvAscends
matches-safe rows env (x ∷ xs) (t ∷ ts) h k g = chain (match_slot rows env x t) (λ e. match_slots rows e xs ts) (match-safe rows env x t h k g.0) (λ e i. matches-safe rows e xs ts h i g.1)

-- ---- changes of a state
pub fresh-ascends : (s : PlainState) → TermAscends (fresh s)
fresh-ascends s = variable-ascends (length s.sorts)

pub with-sort-safe : (s : PlainState) (o : Sort) → StateAscends s → Safe StateAscends (with_sort s o)
with-sort-safe s o h = chain (appended s.sorts o) (λ sorts. unit (record s { sorts = sorts })) (appended-safe IsAny s.sorts o (any-all s.sorts) tt) (λ sorts i. of-some StateAscends (record s { sorts = sorts }) (record { rows = h.rows; store = h.store; cells = h.cells; facts = h.facts; guards = h.guards; before = h.before; opened = h.opened; envs = h.envs }))
  where
    any-all : (os : List Sort) → AllByRecursion IsAny os
    any-all [] = tt
    any-all (o ∷ os) = (tt, any-all os)

pub with-sorts-safe : (s : PlainState) (os : List Sort) → StateAscends s → Safe StateAscends (with_sorts s os)
with-sorts-safe s [] h = of-some StateAscends s h
with-sorts-safe s (o ∷ os) h = chain (with_sort s o) (λ t. with_sorts t os) (with-sort-safe s o h) (λ t i. with-sorts-safe t os i)

rows-ascend : (s : PlainState) (rows : List Row) → StateAscends s → AllByRecursion RowAscends rows → StateAscends (record s { rows = rows })
rows-ascend s rows h k = record { rows = k; store = h.store; cells = h.cells; facts = h.facts; guards = h.guards; before = h.before; opened = h.opened; envs = h.envs }

pub with-row-safe : (s : PlainState) (r : Row) → StateAscends s → RowAscends r → Safe StateAscends (with_row s r)
with-row-safe s r h k = chain (appended s.rows r) (λ rows. unit (record s { rows = rows })) (appended-safe RowAscends s.rows r h.rows k) (λ rows i. of-some StateAscends (record s { rows = rows }) (rows-ascend s rows h i))

pub with-rows-safe : (s : PlainState) (rs : List Row) → StateAscends s → AllByRecursion RowAscends rs → Safe StateAscends (with_rows s rs)
with-rows-safe s [] h k = of-some StateAscends s h
with-rows-safe s (r ∷ rs) h k = chain (with_row s r) (λ t. with_rows t rs) (with-row-safe s r h k.0) (λ t i. with-rows-safe t rs i k.1)

pub with-comparison-safe : (s : PlainState) (l : Linear) (op : Op) (r : Linear) (o : Sort) → StateAscends s → TermAscends l → TermAscends r → Safe StateAscends (with_comparison s l op r o)
with-comparison-safe s l op r o h k g = chain (comparison_row l op r o) (λ q. with_row s q) (comparison-safe l op r o k g) (λ q i. with-row-safe s q h i)

pub differing-safe : (s : PlainState) (t : Linear) (fs : List PlainFact) → StateAscends s → TermAscends t → AllByRecursion FactAscends fs → Safe StateAscends (with_differing s t fs)
differing-safe s t [] h k g = of-some StateAscends s h
differing-safe s t (f ∷ fs) h k g = chain (with_comparison s t Unequal f.region Int) (λ u. with_differing u t fs) (with-comparison-safe s t Unequal f.region Int h k g.0.region) (λ u i. differing-safe u t fs i k g.1)

pub local-ascends : (s : PlainState) (x : ℕ) (t : Linear) → StateAscends s → TermAscends t → StateAscends (with_local s x t)
local-ascends s x t h k = record { rows = h.rows; store = all-set TermAscends s.store x t h.store k; cells = h.cells; facts = h.facts; guards = h.guards; before = h.before; opened = h.opened; envs = h.envs }

pub destination-ascends : (s : PlainState) (x : Option ℕ) (t : Linear) → StateAscends s → TermAscends t → StateAscends (with_destination s x t)
destination-ascends s None t h k = h
destination-ascends s (Some x) t h k = local-ascends s x t h k

pub cells-ascend : (s : PlainState) (cells : List (Linear × Linear)) → StateAscends s → AllByRecursion CellAscends cells → StateAscends (record s { cells = cells })
cells-ascend s cells h k = record { rows = h.rows; store = h.store; cells = k; facts = h.facts; guards = h.guards; before = h.before; opened = h.opened; envs = h.envs }

pub with-cell-safe : (s : PlainState) (a t : Linear) → StateAscends s → TermAscends a → TermAscends t → Safe StateAscends (with_cell s a t)
with-cell-safe s a t h k g = chain (appended s.cells (a, t)) (λ cells. unit (record s { cells = cells })) (appended-safe CellAscends s.cells (a, t) h.cells (record { address = k; content = g })) (λ cells i. of-some StateAscends (record s { cells = cells }) (cells-ascend s cells h i))

pub envs-ascend : (s : PlainState) (envs : List PlainEnv) → StateAscends s → AllByRecursion EnvAscends envs → StateAscends (record s { envs = envs })
envs-ascend s envs h k = record { rows = h.rows; store = h.store; cells = h.cells; facts = h.facts; guards = h.guards; before = h.before; opened = h.opened; envs = k }

pub with-env-safe : (s : PlainState) (env : PlainEnv) → StateAscends s → EnvAscends env → Safe StateAscends (with_env s env)
with-env-safe s env h k = chain (appended s.envs env) (λ envs. unit (record s { envs = envs })) (appended-safe EnvAscends s.envs env h.envs k) (λ envs i. of-some StateAscends (record s { envs = envs }) (envs-ascend s envs h i))

pub env-at-ascends : (s : PlainState) (e : ℕ) → StateAscends s → EnvAscends (env_at s e)
env-at-ascends s e h = all-get-or EnvAscends s.envs e [] h.envs tt

pub env-set-ascends : (s : PlainState) (e : ℕ) (env : PlainEnv) → StateAscends s → EnvAscends env → StateAscends (with_env_at s e env)
env-set-ascends s e env h k = envs-ascend s (slice_set s.envs e env) h (all-set EnvAscends s.envs e env h.envs k)

-- ---- facts
pub facts-ascend : (s : PlainState) (facts : List PlainFact) → StateAscends s → AllByRecursion FactAscends facts → StateAscends (record s { facts = facts })
facts-ascend s facts h k = record { rows = h.rows; store = h.store; cells = h.cells; facts = k; guards = h.guards; before = h.before; opened = h.opened; envs = h.envs }

pub state-ascends : (f : PlainFact) (t : Linear) → FactAscends f → TermAscends t → FactAscends (with_state f t)
state-ascends f t h k = record { region = h.region; args = h.args; state = k }

pub without-first-ascends : {A : Type 0} (P : A → Type 0) (test : A → Bool) (xs : List A) → AllByRecursion P xs → AllByRecursion P (without_first test xs)
without-first-ascends P test [] h = tt
without-first-ascends P test (x ∷ xs) h = by_test (test x) h (without-first-ascends P test xs h.1)
  where
    by_test : (b : Bool) → AllByRecursion P (x ∷ xs) → AllByRecursion P (without_first test xs) → AllByRecursion P (if b then xs else x ∷ without_first test xs)
    by_test true h k = h.1
    by_test false h k = (h.0, k)

equalities-safe : (s : PlainState) (xs ys : List Linear) → StateAscends s → AllByRecursion TermAscends xs → AllByRecursion TermAscends ys → Safe StateAscends (with_equalities s xs ys)
equalities-safe s [] ys h k g = of-some StateAscends s h
equalities-safe s (x ∷ xs) [] h k g = of-some StateAscends s h
equalities-safe s (x ∷ xs) (y ∷ ys) h k g = chain (with_comparison s x Equal y Int) (λ t. with_equalities t xs ys) (with-comparison-safe s x Equal y Int h k.0 g.0) (λ t i. equalities-safe t xs ys i k.1 g.1)

same-safe : (s : PlainState) (f : PlainFact) (o : Option PlainFact) → StateAscends s → FactAscends f → IfSome FactAscends o → Safe StateAscends (with_same s f o)
same-safe s f None h k g = of-some StateAscends s h
same-safe s f (Some x) h k g = chain (with_equalities s x.args f.args) (λ t. with_comparison t x.state Equal f.state Int) (equalities-safe s x.args f.args h g.args k.args) (λ t i. with-comparison-safe t x.state Equal f.state Int i g.state k.state)

false-safe : (s : PlainState) (b : Bool) → StateAscends s → Safe StateAscends (with_false s b)
false-safe s true h = with-comparison-safe s _ Equal _ Int h tt tt
false-safe s false h = of-some StateAscends s h

pub with-fact-safe : (s : PlainState) (f : PlainFact) → StateAscends s → FactAscends f → Safe StateAscends (with_fact s f)
with-fact-safe s f h k =
    let facts = without_first (is_of_region f) s.facts in
    let other = list_any (is_of_other_type f) s.facts in
    chain (with_same s f (find (is_of_region f) s.facts)) (λ t. with_false t other >>= λ u. appended facts f >>= λ fs. unit (record u { facts = fs })) (same-safe s f (find (is_of_region f) s.facts) h k (all-find FactAscends (is_of_region f) s.facts h.facts))
    (λ t i. chain (with_false t other) (λ u. appended facts f >>= λ fs. unit (record u { facts = fs })) (false-safe t other i)
    (λ u j. chain (appended facts f) (λ fs. unit (record u { facts = fs })) (appended-safe FactAscends facts f (without-first-ascends FactAscends (is_of_region f) s.facts h.facts) k)
    (λ fs l. of-some StateAscends (record u { facts = fs }) (facts-ascend u fs j l))))

-- ---- pieces
pub guards-ascend : (s : PlainState) (guards : List Piece) → StateAscends s → AllByRecursion PieceAscends guards → StateAscends (record s { guards = guards })
guards-ascend s guards h k = record { rows = h.rows; store = h.store; cells = h.cells; facts = h.facts; guards = k; before = h.before; opened = h.opened; envs = h.envs }

end-ascend : (a : Linear) (e : Option Linear) → TermAscends a → NameAscends e → AllByRecursion RowAscends (end_rows a e)
end-ascend a None h k = tt
end-ascend a (Some e) h k = (row-ascends a AtMost e Int h k, tt)

pub added-ascend : (f : Form) → FormAscends f → AllByRecursion RowAscends (added_rows f)
added-ascend One h = tt
added-ascend (Share a) h = (row-ascends a Greater zero_term Perm h tt, tt)
added-ascend (Src n) h = (row-ascends n AtLeast zero_term Int h tt, tt)
added-ascend (Tok k) h = (row-ascends k AtLeast zero_term Int h tt, tt)
added-ascend (Span a e) h = (row-ascends a AtLeast zero_term Int h.0 tt, end-ascend a e h.0 h.1)

false-row-ascends : RowAscends false_row
false-row-ascends = row-ascends zero_term Equal one_term Int tt tt

lone-ascend : (f : Form) → FormAscends f → AllByRecursion RowAscends (lone_rows f)
lone-ascend One h = tt
lone-ascend (Share a) h = (row-ascends a AtMost one_term Perm h tt, tt)
lone-ascend (Src n) h = tt
lone-ascend (Tok k) h = tt
lone-ascend (Span a e) h = tt

combined-ascends : (f g : Form) → FormAscends f → FormAscends g → FormAscends (combined f g)
combined-ascends (Share a) (Share b) h k = plus-ascends a b h k
combined-ascends (Src n) (Tok k) h g = minus-ascends n k h g
combined-ascends (Tok k) (Src n) h g = minus-ascends n k g h
combined-ascends (Tok j) (Tok k) h g = plus-ascends j k h g
combined-ascends f g h k = h

combined-rows-ascend : (f g : Form) → FormAscends f → FormAscends g → AllByRecursion RowAscends (combined_rows f g)
combined-rows-ascend (Share a) (Share b) h k = (row-ascends (plus a b) AtMost one_term Perm (plus-ascends a b h k) tt, tt)
combined-rows-ascend (Src n) (Tok k) h g = (row-ascends k AtMost n Int g h, tt)
combined-rows-ascend (Tok k) (Src n) h g = (row-ascends k AtMost n Int h g, tt)
combined-rows-ascend (Tok j) (Tok k) h g = tt
combined-rows-ascend f g h k = (false-row-ascends, tt)

form-at-ascends : (ps : List Piece) (q : Piece) (i : ℕ) → AllByRecursion PieceAscends ps → PieceAscends q → FormAscends (form_at ps q i)
form-at-ascends ps q i h k = (all-get-or PieceAscends ps i q h k).form

there-by : (ps : List Piece) (q : Piece) (o : Option ℕ) → AllByRecursion PieceAscends ps → PieceAscends q → IfSome FormAscends (option_map (form_at ps q) o)
there-by ps q None h k = tt
there-by ps q (Some i) h k = form-at-ascends ps q i h k

pub there-ascends : (ps : List Piece) (q : Piece) → AllByRecursion PieceAscends ps → PieceAscends q → IfSome FormAscends (there ps q)
there-ascends ps q h k = there-by ps q (place ps q) h k

met-ascend : (o : Option Form) (f : Form) → IfSome FormAscends o → FormAscends f → AllByRecursion RowAscends (met_rows o f)
met-ascend None f h k = lone-ascend f k
met-ascend (Some g) f h k = combined-rows-ascend g f h k

clash-ascend : (b : Bool) → AllByRecursion RowAscends (clash_rows b)
clash-ascend true = (false-row-ascends, tt)
clash-ascend false = tt

-- of each piece of the part
pub rows-if : (b : Bool) (rows : List Row) → AllByRecursion RowAscends rows → AllByRecursion RowAscends (if b then rows else [])
rows-if true rows h = h
rows-if false rows h = tt

pub beside-ascend : (of : Form → Form → List Row) → ((f g : Form) → FormAscends f → FormAscends g → AllByRecursion RowAscends (of f g)) → (ps : List Piece) (p : Piece) → AllByRecursion PieceAscends ps → PieceAscends p → AllByRecursion RowAscends (beside of ps p)
beside-ascend of k [] p h g = tt
beside-ascend of k (q ∷ ps) p h g = all-join RowAscends (if same_part q p then of q.form p.form else []) (beside of ps p) (rows-if (same_part q p) (of q.form p.form) (k q.form p.form h.0.form g.form)) (beside-ascend of k ps p h.1 g)

parted-ascend : (f g : Form) → FormAscends f → FormAscends g → AllByRecursion RowAscends (parted_rows f g)
parted-ascend (Span a None) (Span b None) h k = (false-row-ascends, tt)
parted-ascend (Span a None) (Span b (Some d)) h k = rows-if (has_indices b (Some d)) (row_of d AtMost a Int ∷ []) (row-ascends d AtMost a Int k.1 h.0, tt)
parted-ascend (Span a (Some e)) (Span b None) h k = rows-if (has_indices a (Some e)) (row_of e AtMost b Int ∷ []) (row-ascends e AtMost b Int h.1 k.0, tt)
parted-ascend (Span a (Some e)) (Span b (Some d)) h k = rows-if (is_single a (Some e) && is_single b (Some d)) (row_of a Unequal b Int ∷ []) (row-ascends a Unequal b Int h.0 k.0, tt)
parted-ascend f g h k = tt

merge-ascend : (a : PlainAlgebra) (ps : List Piece) (q : Piece) → AllByRecursion PieceAscends ps → PieceAscends q → AllByRecursion RowAscends (merge_rows a ps q)
unfolding merge_rows
merge-ascend a ps q h k = all-join RowAscends (added_rows q.form) (met_rows (there ps q) q.form ++ (beside parted_rows ps q ++ clash_rows (clash a ps q))) (added-ascend q.form k.form) (all-join RowAscends (met_rows (there ps q) q.form) (beside parted_rows ps q ++ clash_rows (clash a ps q)) (met-ascend (there ps q) q.form (there-ascends ps q h k) k.form) (all-join RowAscends (beside parted_rows ps q) (clash_rows (clash a ps q)) (beside-ascend parted_rows parted-ascend ps q h k) (clash-ascend (clash a ps q))))

joined-ascend : (ps : List Piece) (q : Piece) (i : ℕ) → AllByRecursion PieceAscends ps → PieceAscends q → AllByRecursion PieceAscends (joined ps q i)
joined-ascend ps q i h k = all-set PieceAscends ps i _ h (record { region = k.region; form = combined-ascends (form_at ps q i) q.form (form-at-ascends ps q i h k) k.form })

guards-with-safe : (ps : List Piece) (q : Piece) (o : Option ℕ) → AllByRecursion PieceAscends ps → PieceAscends q → Safe (AllByRecursion PieceAscends) (guards_with ps q o)
guards-with-safe ps q None h k = appended-safe PieceAscends ps q h k
guards-with-safe ps q (Some i) h k = of-some (AllByRecursion PieceAscends) (joined ps q i) (joined-ascend ps q i h k)

pub with-piece-safe : (p : PlainProgram) (s : PlainState) (q : Piece) → StateAscends s → PieceAscends q → Safe StateAscends (with_piece p s q)
with-piece-safe p s q h k =
    chain (found (slice_get p.regions q.kind)) (λ y. computed (merge_rows y.algebra s.guards q) (merge_steps y.algebra s.guards q) >>= λ rows. guards_with s.guards q (place s.guards q) >>= λ guards. with_rows (record s { guards = guards }) rows) (found-any (slice_get p.regions q.kind))
    (λ y i. chain (computed (merge_rows y.algebra s.guards q) (merge_steps y.algebra s.guards q)) (λ rows. guards_with s.guards q (place s.guards q) >>= λ guards. with_rows (record s { guards = guards }) rows) (of-computed (AllByRecursion RowAscends) (merge_rows y.algebra s.guards q) (merge_steps y.algebra s.guards q) (merge-ascend y.algebra s.guards q h.guards k))
    (λ rows j. chain (guards_with s.guards q (place s.guards q)) (λ guards. with_rows (record s { guards = guards }) rows) (guards-with-safe s.guards q (place s.guards q) h.guards k)
    (λ guards l. with-rows-safe (record s { guards = guards }) rows (guards-ascend s guards h l) j)))

pub with-pieces-safe : (p : PlainProgram) (s : PlainState) (qs : List Piece) → StateAscends s → AllByRecursion PieceAscends qs → Safe StateAscends (with_pieces p s qs)
with-pieces-safe p s [] h k = of-some StateAscends s h
with-pieces-safe p s (q ∷ qs) h k = chain (with_piece p s q) (λ t. with_pieces p t qs) (with-piece-safe p s q h k.0) (λ t i. with-pieces-safe p t qs i k.1)
