-- Regions are opened, a statement acts, and regions are closed.
use Rattle.std.proofs.Common.{ℕ, zero, suc, Bool, true, false, List, [], ◌∷◌, ◌++◌, map, length, Option, Some, None}
use Rattle.std.specs.Prelude.{slice_get, slice_set, remove, find, if◌then◌else◌}
use Rattle.std.specs.List.{AllByRecursion, range_with_len}
use Rattle.cap_lin.specs.Linear.{Linear}
use Rattle.cap_lin.specs.declared.row.Sort.TheVariants.{Int, Perm}
use Rattle.cap_lin.specs.declared.row.Op.TheVariants.{Eq as Equal, Ne as Unequal, Le as AtMost, Gt as Greater, Ge as AtLeast}
use Rattle.cap_gsolve.specs.declared.piece.Form.{Form}
use Rattle.cap_gsolve.specs.declared.piece.Form.TheVariants as form
use Rattle.cap_gsolve.specs.declared.piece.Piece.{Piece}
use Rattle.cap_gsolve.specs.Pieces.{of_atom}
use Rattle.cap_prog.specs.declared.assertion.Slot.TheVariants.{Is}
use Rattle.cap_prog.specs.declared.assertion.Asked.{Asked}
use Rattle.cap_prog.specs.declared.assertion.Asked.TheVariants.{One, Share, Src, Tok, At, From}
use Rattle.cap_prog.specs.Program.{PlainCase, PlainAction, PlainRegionType}
use Rattle.cap_rules.specs.cap_goal_spec.Terms.{lone_variable, variables_from}
use Rattle.cap_rules.specs.cap_goal_spec.States.{PlainFact, PlainEnv, PlainState, PlainTask, to_give, goals_of, with_state}
use Rattle.cap_rules.specs.cap_goal_spec.Environments.{zero_value, one_value, Reading, settled, open_to, stuck, reading, bind_open, asked_slot, bound, unbound, region_env}
use Rattle.cap_rules.specs.Attempts.{unit, ◌>>=◌, found, need, not_applicable, comparison_row, prove_that}
use Rattle.cap_rules.specs.Making.{is_empty, sum, determined_slot, prove_equal, value_here, value_by, determined, rows_by, prove_comparisons, prove_differ, fresh, with_sort, with_sorts, with_rows, with_comparison, with_local, with_env, with_fact}
use Rattle.cap_rules_ascending.specs.Ascending.{TermAscends, FormAscends, PieceAscends, FactAscends, CellAscends, NameAscends, EnvAscends, StateAscends, TaskAscends, GoalAscends}
use Rattle.cap_rules_ascending.proofs.Lists.{all-join, all-last, all-set, all-remove, all-find, all-map, all-flat, all-any}
use Rattle.cap_rules_ascending.proofs.Terms.{bind-ascends, bound-ascends, unbound-ascends, variables-ascend, region-ascends}
use Rattle.cap_rules_ascending.proofs.Safe.{IsAny, Safe, chain, of-some, of-none, of-found, found-any, of-get, need-safe, if-safe, comparison-safe, prove-that-safe}
use Rattle.cap_rules_ascending.proofs.Makings.{sum-safe, here-safe, by-safe, slot-safe, determined-safe, rows-by-safe, comparisons-safe, equal-safe, differ-safe, reading-safe, fresh-ascends, with-sort-safe, with-sorts-safe, with-rows-safe, with-comparison-safe, local-ascends, cells-ascend, with-env-safe, facts-ascend, state-ascends, with-fact-safe}
use Rattle.cap_prog.specs.Program.{PlainAct, read, write, cas, faa, dispose}
use Rattle.cap_rules.specs.Closing.{prove_other, with_opened, case_names, in_case, case_goals, Rival, rivals_from, rivals, loosened, with_mark, with_marks, with_content, acted, closing, source_name, source_env, move_target, MovePart, guard, source, target, waits, match_share, match_source, match_tokens, match_new_tokens, match_form, match_part, Matched, match_ready, match_all, parts_of, indexed_of, prove_below, prove_within, match_spans, prove_action, prove_move, with_closed}
use Rattle.cap_rules_ascending.proofs.Givings.{goals-ascend}

-- ---- opening
pub other-safe : (s : PlainState) (f : PlainFact) (os : List PlainFact) → StateAscends s → FactAscends f → AllByRecursion FactAscends os → Safe IsAny (prove_other s f os)
other-safe s f [] h k g = of-some IsAny tt tt
other-safe s f (o ∷ os) h k g = chain (prove_differ s f.region o.region) (λ u. prove_other s f os) (differ-safe s f.region o.region h k.region g.0.region) (λ u i. other-safe s f os h k g.1)

pieces-if : (b : Bool) (xs ys : List Piece) → AllByRecursion PieceAscends xs → AllByRecursion PieceAscends ys → AllByRecursion PieceAscends (if b then xs else ys)
pieces-if true xs ys h k = h
pieces-if false xs ys h k = k

pub opened-ascends : (s : PlainState) (i : ℕ) (f : PlainFact) → StateAscends s → FactAscends f → StateAscends (with_opened s i f)
opened-ascends s i f h k = record {
  rows = h.rows;
  store = h.store;
  cells = h.cells;
  facts = all-remove FactAscends s.facts i h.facts;
  guards = h.guards;
  before = pieces-if (is_empty s.opened) s.guards s.before h.guards h.before;
  opened = all-last FactAscends s.opened f h.opened k;
  envs = h.envs;
}

names-ascend : (s : PlainState) (f : PlainFact) (c : PlainCase) → FactAscends f → EnvAscends (case_names s f c)
names-ascend s f c h = region-ascends f (bound (variables_from (length s.sorts) (length c.names))) h (bound-ascends (variables_from (length s.sorts) (length c.names)) (variables-ascend (length s.sorts) (length c.names)))

in-case-safe : (s : PlainState) (f : PlainFact) (c : PlainCase) → StateAscends s → FactAscends f → Safe StateAscends (in_case s f c)
in-case-safe s f c h k =
    let env = case_names s f c in
    let e = names-ascend s f c k in
    chain (with_sorts s c.names) (λ s1. determined env c.state >>= λ t. with_comparison s1 f.state Equal t Int >>= λ s2. rows_by env c.when >>= λ rows. with_rows s2 rows >>= λ s3. with_env s3 env) (with-sorts-safe s c.names h)
    (λ s1 i. chain (determined env c.state) (λ t. with_comparison s1 f.state Equal t Int >>= λ s2. rows_by env c.when >>= λ rows. with_rows s2 rows >>= λ s3. with_env s3 env) (determined-safe env c.state e)
    (λ t j. chain (with_comparison s1 f.state Equal t Int) (λ s2. rows_by env c.when >>= λ rows. with_rows s2 rows >>= λ s3. with_env s3 env) (with-comparison-safe s1 f.state Equal t Int i k.state j)
    (λ s2 l. chain (rows_by env c.when) (λ rows. with_rows s2 rows >>= λ s3. with_env s3 env) (rows-by-safe env c.when e)
    (λ rows m. chain (with_rows s2 rows) (λ s3. with_env s3 env) (with-rows-safe s2 rows l m) (λ s3 n. with-env-safe s3 env n e)))))

pub case-goals-safe : (s : PlainState) (f : PlainFact) (n : ℕ) (ts : List PlainTask) (cs : List PlainCase) → StateAscends s → FactAscends f → AllByRecursion TaskAscends ts → Safe (AllByRecursion GoalAscends) (case_goals s f n ts cs)
case-goals-safe s f n ts [] h k g = of-some (AllByRecursion GoalAscends) [] tt
case-goals-safe s f n ts (c ∷ cs) h k g =
    chain (in_case s f c) (λ t. case_goals s f n ts cs >>= λ more. unit (goals_of t (to_give c.items (length s.envs) n ∷ ts) ++ more)) (in-case-safe s f c h k)
    (λ t i. chain (case_goals s f n ts cs) (λ more. unit (goals_of t (to_give c.items (length s.envs) n ∷ ts) ++ more)) (case-goals-safe s f n ts cs h k g)
    (λ more j. of-some (AllByRecursion GoalAscends) (goals_of t (to_give c.items (length s.envs) n ∷ ts) ++ more) (all-join GoalAscends (goals_of t (to_give c.items (length s.envs) n ∷ ts)) more (goals-ascend t (to_give c.items (length s.envs) n ∷ ts) i (tt, g)) j)))

-- ---- acting
record RivalAscends (x : Rival) : Type 0 where
  opened : FactAscends x.opened
  fact : FactAscends x.fact

rivals-if : (b : Bool) (x : Rival) (xs : List Rival) → RivalAscends x → AllByRecursion RivalAscends xs → AllByRecursion RivalAscends (if b then x ∷ xs else xs)
rivals-if true x xs h k = (h, k)
rivals-if false x xs h k = k

rivals-from-ascend : (o : PlainFact) (i : ℕ) (fs : List PlainFact) → FactAscends o → AllByRecursion FactAscends fs → AllByRecursion RivalAscends (rivals_from o i fs)
rivals-from-ascend o i [] h k = tt
rivals-from-ascend o i (f ∷ fs) h k = rivals-if _ (record { opened = o; number = i; fact = f }) (rivals_from o (suc i) fs) (record { opened = h; fact = k.0 }) (rivals-from-ascend o (suc i) fs h k.1)

rivals-ascend : (s : PlainState) → StateAscends s → AllByRecursion RivalAscends (rivals s)
rivals-ascend s h = all-flat FactAscends RivalAscends (λ o. rivals_from o 0 s.facts) (λ o i. rivals-from-ascend o 0 s.facts i h.facts) s.opened h.opened

mark-safe : (s : PlainState) (x : Rival) (b : Bool) → StateAscends s → RivalAscends x → Safe StateAscends (with_mark s x b)
mark-safe s x true h k = chain (prove_differ s x.opened.region x.fact.region) (λ u. unit s) (differ-safe s x.opened.region x.fact.region h k.opened.region k.fact.region) (λ u i. of-some StateAscends s h)
mark-safe s x false h k =
    let f = loosened x.fact (fresh s) in
    let facts = slice_set s.facts x.number f in
    chain (comparison_row x.opened.region Unequal x.fact.region Int) (λ r. with_sort s Int >>= λ t. unit (record t { facts = facts })) (comparison-safe x.opened.region Unequal x.fact.region Int k.opened.region k.fact.region)
    (λ r i. chain (with_sort s Int) (λ t. unit (record t { facts = facts })) (with-sort-safe s Int h)
    (λ t j. of-some StateAscends (record t { facts = facts }) (facts-ascend t facts j (all-set FactAscends s.facts x.number f h.facts (record { region = k.fact.region; args = k.fact.args; state = fresh-ascends s })))))

marks-safe : (s : PlainState) (xs : List Rival) (ms : List Bool) → StateAscends s → AllByRecursion RivalAscends xs → Safe StateAscends (with_marks s xs ms)
marks-safe s [] [] h k = of-some StateAscends s h
marks-safe s [] (m ∷ ms) h k = of-none StateAscends
marks-safe s (x ∷ xs) [] h k = of-none StateAscends
marks-safe s (x ∷ xs) (m ∷ ms) h k = chain (with_mark s x m) (λ t. with_marks t xs ms) (mark-safe s x m h k.0) (λ t i. marks-safe t xs ms i k.1)

pub all-marks-safe : (s : PlainState) (ms : List Bool) → StateAscends s → Safe StateAscends (with_marks s (rivals s) ms)
all-marks-safe s ms h = marks-safe s (rivals s) ms h (rivals-ascend s h)

content-ascends : (s : PlainState) (j : ℕ) (c : Linear × Linear) (t : Linear) → StateAscends s → CellAscends c → TermAscends t → StateAscends (with_content s j c t)
content-ascends s j c t h k g = cells-ascend s (slice_set s.cells j (c.0, t)) h (all-set CellAscends s.cells j (c.0, t) h.cells (record { address = k.address; content = g }))

pub acted-safe : (s : PlainState) (j : ℕ) (c : Linear × Linear) (a : PlainAct) → StateAscends s → CellAscends c → Safe (AllByRecursion StateAscends) (acted s j c a)
acted-safe s j c (read x a) h k = of-some (AllByRecursion StateAscends) (with_local s x c.1 ∷ []) (local-ascends s x c.1 h k.content, tt)
acted-safe s j c (write a t) h k = chain (value_here s t) (λ u. unit (with_content s j c u ∷ [])) (here-safe s t h) (λ u i. of-some (AllByRecursion StateAscends) (with_content s j c u ∷ []) (content-ascends s j c u h k i, tt))
acted-safe s j c (cas x a old new) h k =
    chain (value_here s old) (λ e. with_comparison s c.1 Equal e Int >>= λ t. value_here s new >>= λ u. with_comparison s c.1 Unequal e Int >>= λ v. unit (with_local (with_content t j c u) x one_value ∷ with_local v x zero_value ∷ [])) (here-safe s old h)
    (λ e i. chain (with_comparison s c.1 Equal e Int) (λ t. value_here s new >>= λ u. with_comparison s c.1 Unequal e Int >>= λ v. unit (with_local (with_content t j c u) x one_value ∷ with_local v x zero_value ∷ [])) (with-comparison-safe s c.1 Equal e Int h k.content i)
    (λ t l. chain (value_here s new) (λ u. with_comparison s c.1 Unequal e Int >>= λ v. unit (with_local (with_content t j c u) x one_value ∷ with_local v x zero_value ∷ [])) (here-safe s new h)
    (λ u m. chain (with_comparison s c.1 Unequal e Int) (λ v. unit (with_local (with_content t j c u) x one_value ∷ with_local v x zero_value ∷ [])) (with-comparison-safe s c.1 Unequal e Int h k.content i)
    (λ v n. of-some (AllByRecursion StateAscends) (with_local (with_content t j c u) x one_value ∷ with_local v x zero_value ∷ []) (local-ascends (with_content t j c u) x one_value (content-ascends t j c u l k m) tt, (local-ascends v x zero_value n tt, tt))))))
acted-safe s j c (faa x a t) h k =
    chain (value_here s t) (λ u. sum c.1 u >>= λ v. unit (with_local (with_content s j c v) x c.1 ∷ [])) (here-safe s t h)
    (λ u i. chain (sum c.1 u) (λ v. unit (with_local (with_content s j c v) x c.1 ∷ [])) (sum-safe c.1 u k.content i)
    (λ v l. of-some (AllByRecursion StateAscends) (with_local (with_content s j c v) x c.1 ∷ []) (local-ascends (with_content s j c v) x c.1 (content-ascends s j c v h k l) k.content, tt)))
acted-safe s j c (dispose a) h k = of-some (AllByRecursion StateAscends) (record s { cells = remove s.cells j } ∷ []) (cells-ascend s (remove s.cells j) h (all-remove CellAscends s.cells j h.cells), tt)
acted-safe s j c a h k = of-none (AllByRecursion StateAscends)

pub closing-ascends : (os : List PlainFact) (n : ℕ) (ts : List PlainTask) → AllByRecursion TaskAscends ts → AllByRecursion TaskAscends (closing os n ts)
closing-ascends [] n ts h = (tt, h)
closing-ascends (o ∷ os) n ts h = (tt, closing-ascends os n ts h)

-- ---- moves
source-if : (b : Bool) (t : Linear) → TermAscends t → NameAscends (if b then Some t else None)
source-if true t h = h
source-if false t h = tt

source-name-ascends : (f : PlainFact) (o : Option ℕ) (x : ℕ) → FactAscends f → NameAscends (source_name f o x)
source-name-ascends f None x h = tt
source-name-ascends f (Some y) x h = source-if _ f.state h.state

source-env-ascends : (k : PlainRegionType) (f : PlainFact) (a : PlainAction) → FactAscends f → EnvAscends (source_env k f a)
source-env-ascends k f a h = region-ascends f (map (source_name f (lone_variable a.source)) (range_with_len k.params (length a.names))) h (all-map IsAny NameAscends (source_name f (lone_variable a.source)) (λ x i. source-name-ascends f (lone_variable a.source) x h) (range_with_len k.params (length a.names)) (all-any IsAny (λ x. tt) (range_with_len k.params (length a.names))))

pub target-safe : (k : PlainRegionType) (f : PlainFact) (m : ℕ) → FactAscends f → Safe TermAscends (move_target k f m)
target-safe k f zero h = of-some TermAscends f.state h.state
target-safe k f (suc i) h = chain (found (slice_get k.actions i)) (λ a. determined (source_env k f a) a.target) (found-any (slice_get k.actions i)) (λ a j. determined-safe (source_env k f a) a.target (source-env-ascends k f a h))

share-match : (s : PlainState) (env : PlainEnv) (a : Linear) (r : Reading) → StateAscends s → EnvAscends env → TermAscends a → Safe EnvAscends (match_share s env a r)
share-match s env a (settled t) h k g =
    chain (value_by env t) (λ e. prove_that s.rows e Greater zero_value Perm >>= λ u. prove_that s.rows e AtMost a Perm >>= λ v. unit env) (by-safe env t k)
    (λ e i. chain (prove_that s.rows e Greater zero_value Perm) (λ u. prove_that s.rows e AtMost a Perm >>= λ v. unit env) (prove-that-safe s.rows e Greater zero_value Perm h.rows i tt)
    (λ u j. chain (prove_that s.rows e AtMost a Perm) (λ v. unit env) (prove-that-safe s.rows e AtMost a Perm h.rows i g) (λ v l. of-some EnvAscends env k)))
share-match s env a (open_to x) h k g = of-some EnvAscends (bind_open env x a) (bind-ascends env x a k g)
share-match s env a stuck h k g = of-none EnvAscends

source-match : (s : PlainState) (env : PlainEnv) (m : Linear) (r : Reading) → StateAscends s → EnvAscends env → TermAscends m → Safe EnvAscends (match_source s env m r)
source-match s env m (settled t) h k g =
    chain (value_by env t) (λ e. prove_that s.rows m AtMost e Int >>= λ u. unit env) (by-safe env t k)
    (λ e i. chain (prove_that s.rows m AtMost e Int) (λ u. unit env) (prove-that-safe s.rows m AtMost e Int h.rows g i) (λ v l. of-some EnvAscends env k))
source-match s env m (open_to x) h k g = of-some EnvAscends (bind_open env x m) (bind-ascends env x m k g)
source-match s env m stuck h k g = of-none EnvAscends

tokens-match : (s : PlainState) (env : PlainEnv) (m : Linear) (r : Reading) → StateAscends s → EnvAscends env → TermAscends m → Safe EnvAscends (match_tokens s env m r)
tokens-match s env m (settled t) h k g =
    chain (value_by env t) (λ e. prove_that s.rows e AtLeast zero_value Int >>= λ u. prove_that s.rows e AtMost m Int >>= λ v. unit env) (by-safe env t k)
    (λ e i. chain (prove_that s.rows e AtLeast zero_value Int) (λ u. prove_that s.rows e AtMost m Int >>= λ v. unit env) (prove-that-safe s.rows e AtLeast zero_value Int h.rows i tt)
    (λ u j. chain (prove_that s.rows e AtMost m Int) (λ v. unit env) (prove-that-safe s.rows e AtMost m Int h.rows i g) (λ v l. of-some EnvAscends env k)))
tokens-match s env m (open_to x) h k g = of-some EnvAscends (bind_open env x m) (bind-ascends env x m k g)
tokens-match s env m stuck h k g = of-none EnvAscends

new-tokens-match : (s : PlainState) (env : PlainEnv) (r : Reading) → StateAscends s → EnvAscends env → Safe EnvAscends (match_new_tokens s env r)
new-tokens-match s env (settled t) h k =
    chain (value_by env t) (λ e. prove_that s.rows e AtLeast zero_value Int >>= λ u. unit env) (by-safe env t k)
    (λ e i. chain (prove_that s.rows e AtLeast zero_value Int) (λ u. unit env) (prove-that-safe s.rows e AtLeast zero_value Int h.rows i tt) (λ v l. of-some EnvAscends env k))
new-tokens-match s env (open_to x) h k = of-none EnvAscends
new-tokens-match s env stuck h k = of-none EnvAscends

form-match : (s : PlainState) (env : PlainEnv) (x : Asked) (f : Form) → StateAscends s → EnvAscends env → FormAscends f → Safe EnvAscends (match_form s env x f)
form-match s env One form.One h k g = of-some EnvAscends env k
form-match s env (Share x) (form.Share a) h k g = share-match s env a (reading env x) h k g
form-match s env (Src x) (form.Src m) h k g = source-match s env m (reading env x) h k g
form-match s env (Tok x) (form.Tok m) h k g = tokens-match s env m (reading env x) h k g
form-match s env (Tok x) (form.Src m) h k g = new-tokens-match s env (reading env x) h k
form-match s env x f h k g = of-none EnvAscends

part-match : (s : PlainState) (f : PlainFact) (new : Linear) (a : PlainAction) (env : PlainEnv) (x : MovePart) → StateAscends s → FactAscends f → TermAscends new → EnvAscends env → Safe EnvAscends (match_part s f new a env x)
part-match s f new a env (guard i asked) h k g e = chain (found (find (of_atom f.region f.kind i) s.before)) (λ q. match_form s env asked q.form) (of-found PieceAscends (find (of_atom f.region f.kind i) s.before) (all-find PieceAscends (of_atom f.region f.kind i) s.before h.before)) (λ q j. form-match s env asked q.form h e j.form)
part-match s f new a env source h k g e = reading-safe s.rows env f.state (reading env (Is a.source)) h.rows e k.state
part-match s f new a env target h k g e = reading-safe s.rows env new (reading env (Is a.target)) h.rows e g

record MatchedAscends (m : Matched) : Type 0 where
  env : EnvAscends m.env

ready-match : (s : PlainState) (f : PlainFact) (new : Linear) (a : PlainAction) (env : PlainEnv) (ws xs : List MovePart) → StateAscends s → FactAscends f → TermAscends new → EnvAscends env → Safe MatchedAscends (match_ready s f new a env ws xs)
ready-match s f new a env ws [] h k g e = of-some MatchedAscends (record { env = env; waiting = ws }) (record { env = e })
ready-match s f new a env ws (x ∷ xs) h k g e = if-safe MatchedAscends (waits env a x) (match_ready s f new a env (ws ++ x ∷ []) xs) (match_part s f new a env x >>= λ v. match_ready s f new a v ws xs) (ready-match s f new a env (ws ++ x ∷ []) xs h k g e) (chain (match_part s f new a env x) (λ v. match_ready s f new a v ws xs) (part-match s f new a env x h k g e) (λ v i. ready-match s f new a v ws xs h k g i))

all-match : (s : PlainState) (f : PlainFact) (new : Linear) (a : PlainAction) (env : PlainEnv) (xs : List MovePart) → StateAscends s → FactAscends f → TermAscends new → EnvAscends env → Safe EnvAscends (match_all s f new a env xs)
all-match s f new a env [] h k g e = of-some EnvAscends env e
all-match s f new a env (x ∷ xs) h k g e = chain (match_part s f new a env x) (λ v. match_all s f new a v xs) (part-match s f new a env x h k g e) (λ v i. all-match s f new a v xs h k g i)

below-safe : (s : PlainState) (o : Option Linear) (i : Linear) → StateAscends s → NameAscends o → TermAscends i → Safe IsAny (prove_below s o i)
below-safe s None i h k g = of-some IsAny tt tt
below-safe s (Some e) i h k g = chain (sum i one_value) (λ next. prove_that s.rows next AtMost e Int) (sum-safe i one_value g tt) (λ next j. prove-that-safe s.rows next AtMost e Int h.rows j k)

within-safe : (s : PlainState) (x : Asked) (f : Form) (i : Linear) → StateAscends s → FormAscends f → TermAscends i → Safe IsAny (prove_within s x f i)
within-safe s (At x) (form.Span a o) i h k g = chain (prove_that s.rows a AtMost i Int) (λ u. prove_below s o i) (prove-that-safe s.rows a AtMost i Int h.rows k.0 g) (λ u j. below-safe s o i h k.1 g)
within-safe s (From x) (form.Span a None) i h k g = prove-that-safe s.rows a AtMost i Int h.rows k.0 g
within-safe s x f i h k g = of-none IsAny

spans-safe : (s : PlainState) (f : PlainFact) (env : PlainEnv) (gs : List (ℕ × Asked)) (js : List ℕ) → StateAscends s → EnvAscends env → Safe IsAny (match_spans s f env gs js)
spans-safe s f env [] [] h k = of-some IsAny tt tt
spans-safe s f env [] (j ∷ js) h k = of-none IsAny
spans-safe s f env (g ∷ gs) [] h k = chain (determined_slot env (asked_slot g.1)) (λ i. not_applicable) (slot-safe env (asked_slot g.1) k) (λ i e. of-none IsAny)
spans-safe s f env (g ∷ gs) (j ∷ js) h k =
    chain (determined_slot env (asked_slot g.1)) (λ i. found (slice_get s.before j) >>= λ q. need (of_atom f.region f.kind g.0 q) >>= λ u. prove_within s g.1 q.form i >>= λ v. match_spans s f env gs js) (slot-safe env (asked_slot g.1) k)
    (λ i e. chain (found (slice_get s.before j)) (λ q. need (of_atom f.region f.kind g.0 q) >>= λ u. prove_within s g.1 q.form i >>= λ v. match_spans s f env gs js) (of-get PieceAscends s.before j h.before)
    (λ q l. chain (need (of_atom f.region f.kind g.0 q)) (λ u. prove_within s g.1 q.form i >>= λ v. match_spans s f env gs js) (need-safe (of_atom f.region f.kind g.0 q))
    (λ u m. chain (prove_within s g.1 q.form i) (λ v. match_spans s f env gs js) (within-safe s g.1 q.form i h l.form e) (λ v n. spans-safe s f env gs js h k))))

action-safe : (s : PlainState) (f : PlainFact) (new : Linear) (a : PlainAction) (js : List ℕ) → StateAscends s → FactAscends f → TermAscends new → Safe IsAny (prove_action s f new a js)
action-safe s f new a js h k g =
    chain (match_ready s f new a (region_env f (unbound (length a.names))) [] (parts_of a)) (λ m. match_all s f new a m.env m.waiting >>= λ env. match_spans s f env (indexed_of a) js >>= λ u. prove_comparisons s.rows env a.when) (ready-match s f new a (region_env f (unbound (length a.names))) [] (parts_of a) h k g (region-ascends f (unbound (length a.names)) k (unbound-ascends (length a.names))))
    (λ m i. chain (match_all s f new a m.env m.waiting) (λ env. match_spans s f env (indexed_of a) js >>= λ u. prove_comparisons s.rows env a.when) (all-match s f new a m.env m.waiting h k g i.env)
    (λ env j. chain (match_spans s f env (indexed_of a) js) (λ u. prove_comparisons s.rows env a.when) (spans-safe s f env (indexed_of a) js h j) (λ u l. comparisons-safe s.rows env a.when h.rows j)))

pub move-safe : (k : PlainRegionType) (s : PlainState) (f : PlainFact) (new : Linear) (m : ℕ) (js : List ℕ) → StateAscends s → FactAscends f → TermAscends new → Safe IsAny (prove_move k s f new m js)
move-safe k s f new zero js h g e = chain (need (is_empty js)) (λ u. prove_equal s new f.state) (need-safe (is_empty js)) (λ u j. equal-safe s new f.state h e g.state)
move-safe k s f new (suc i) js h g e = chain (found (slice_get k.actions i)) (λ a. prove_action s f new a js) (found-any (slice_get k.actions i)) (λ a j. action-safe s f new a js h g e)

pub closed-safe : (s : PlainState) (o : ℕ) (f : PlainFact) (new : Linear) → StateAscends s → FactAscends f → TermAscends new → Safe StateAscends (with_closed s o f new)
closed-safe s o f new h k g =
    let t : PlainState = record s { opened = remove s.opened o } in
    chain (with_fact t (with_state f new)) (λ u. unit (record u { before = if is_empty u.opened then [] else u.before })) (with-fact-safe t (with_state f new) (record { rows = h.rows; store = h.store; cells = h.cells; facts = h.facts; guards = h.guards; before = h.before; opened = all-remove FactAscends s.opened o h.opened; envs = h.envs }) (state-ascends f new k g))
    (λ u i. of-some StateAscends (record u { before = if is_empty u.opened then [] else u.before }) (record { rows = i.rows; store = i.store; cells = i.cells; facts = i.facts; guards = i.guards; before = pieces-if (is_empty u.opened) [] u.before tt i.before; opened = i.opened; envs = i.envs }))
