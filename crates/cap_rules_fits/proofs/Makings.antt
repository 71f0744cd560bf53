-- The changes of a state that rules share keep what fits.
use Rattle.std.proofs.Common.{◌≡◌, ◌≤◌, ℕ, pos, zero, suc, ◌+◌, List, [], ◌∷◌, ◌++◌, length, Option, Some, None, Bool, true, false, refl, sym, ap, ◌∙◌, subst, arith}
use Rattle.std.specs.Prelude.{slice_get, slice_set, get_or, find, if◌then◌else◌}
use Rattle.std.specs.List.{AllByRecursion, list_any}
use Rattle.std.proofs.lemmas.List.{length-set}
use Rattle.cap_lin.specs.Linear.{Linear, IsBelow}
use Rattle.cap_lin.specs.Rows.{row_of, row_of_steps}
use Rattle.cap_lin.specs.declared.row.Row.{Row}
use Rattle.cap_lin.specs.declared.row.Sort.{Sort}
use Rattle.cap_lin.specs.declared.row.Sort.TheVariants.{Int}
use Rattle.cap_lin.specs.declared.row.Op.{Op}
use Rattle.cap_lin.specs.declared.row.Op.TheVariants.{Eq as Equal, Ne as Unequal}
use Rattle.cap_prog.specs.declared.assertion.Comp.{Comp}
use Rattle.cap_prog.specs.declared.assertion.Slot.{Slot}
use Rattle.cap_prog.specs.declared.assertion.Slot.TheVariants.{Any, Is}
use Rattle.cap_prog.specs.Program.{PlainProgram}
use Rattle.cap_goal_spec.specs.Terms.{term_over, term_over_steps}
use Rattle.cap_goal_spec.specs.States.{PlainFact, PlainEnv, PlainState}
use Rattle.cap_goal_spec.specs.Environments.{zero_value, one_value, term_in, term_in_steps, Reading, settled, open_to, stuck, reading, bind_open}
use Rattle.cap_goal_spec.specs.Fits.{KnownFactFits, StateFits}
use Rattle.cap_rules.specs.Attempts.{Attempt, unit, ◌>>=◌, need, comparison_row, prove_that}
use Rattle.cap_rules.specs.Making.{value_here, values_here, in_store, row_here, value_by, determined, determined_slot, row_by, rows_by, match_reading, match_slot, match_slots, fresh, with_sort, with_sorts, with_row, with_rows, with_comparison, with_differing, with_local, with_destination, with_cell, with_env, env_at, with_env_at, is_of_region, is_of_other_type, without_first, with_equalities, with_same, with_false, with_fact}
use Rattle.cap_rules_ascending.proofs.Lists.{IfSome, all-join, all-set, all-get-or, all-find}
use Rattle.cap_rules_fits.proofs.Below.{number-below, variable-below}
use Rattle.cap_rules_fits.proofs.Values.{wider-below, row-is-below, over-below, EnvBelow, in-below, EnvKept, env-same, opened-to}
use Rattle.cap_rules_fits.proofs.Growing.{RowsBelow, with-rows-fit, with-store-fits, CellBelow, cells-below, with-cells-fit, with-facts-fit, with-envs-fit, with-sorts-fit, wider-fact, envs-same, EnvsStay, envs-more, envs-set, Next, here, further}
use Rattle.cap_rules_fits.proofs.Reaching.{Reaches, chain, at, nowhere, at-computed, any, one-more}

-- how many variables there are
abbrev pub count : PlainState → ℕ
count s = length s.sorts

pub zero-below : (n : ℕ) → IsBelow n zero_value
zero-below n = number-below n (pos 0)

pub one-below : (n : ℕ) → IsBelow n one_value
one-below n = number-below n (pos 1)

-- ---- terms and rows

pub stored : (p : PlainProgram) (s : PlainState) (x : ℕ) → StateFits p s → IsBelow (count s) (in_store s x)
stored p s x h = all-get-or (IsBelow (count s)) s.store x zero_value h.store (zero-below (count s))

pub here-fits : (p : PlainProgram) (s : PlainState) (t : Linear) → StateFits p s → Reaches (IsBelow (count s)) (value_here s t)
here-fits p s t h = at-computed (IsBelow (count s)) (term_over (in_store s) t) (term_over_steps (in_store s) t) (over-below (count s) (in_store s) t (λ x. stored p s x h))

pub record AreValues (n m : ℕ) (ts : List Linear) : Type 0 where
  pub each : AllByRecursion (IsBelow n) ts
  pub size : length ts ≡ m

pub values-fit : (p : PlainProgram) (s : PlainState) (ts : List Linear) → StateFits p s → Reaches (AreValues (count s) (length ts)) (values_here s ts)
values-fit p s [] h = at (AreValues (count s) 0) [] (record { each = tt; size = refl })
values-fit p s (t ∷ ts) h = chain (value_here s t) (λ u. values_here s ts >>= λ us. unit (u ∷ us)) (here-fits p s t h) (λ u i. chain _ _ (values-fit p s ts h) (λ us j. at (AreValues (count s) (suc (length ts))) (u ∷ us) (record { each = (i, j.each); size = ap suc j.size })))

pub row-fits : (n : ℕ) (l : Linear) (op : Op) (r : Linear) (o : Sort) → IsBelow n l → IsBelow n r → Reaches (λ q. IsBelow n q.term) (comparison_row l op r o)
row-fits n l op r o h k = at-computed (λ q. IsBelow n q.term) (row_of l op r o) (row_of_steps l op r o) (row-is-below n l op r o h k)

pub row-here-fits : (p : PlainProgram) (s : PlainState) (op : Op) (c : Comp) → StateFits p s → Reaches (λ q. IsBelow (count s) q.term) (row_here s op c)
row-here-fits p s op c h = chain (value_here s c.left) (λ l. value_here s c.right >>= λ r. comparison_row l op r c.sort) (here-fits p s c.left h) (λ l i. chain (value_here s c.right) (λ r. comparison_row l op r c.sort) (here-fits p s c.right h) (λ r j. row-fits (count s) l op r c.sort i j))

pub by-fits : (n : ℕ) (env : PlainEnv) (t : Linear) → EnvBelow n env → Reaches (IsBelow n) (value_by env t)
by-fits n env t h = at-computed (IsBelow n) (term_in env t) (term_in_steps env t) (in-below n env t h)

pub determined-fits : (n : ℕ) (env : PlainEnv) (t : Linear) → EnvBelow n env → Reaches (IsBelow n) (determined env t)
determined-fits n env t h = chain _ _ (any (need _)) (λ u i. by-fits n env t h)

pub slot-fits : (n : ℕ) (env : PlainEnv) (x : Slot) → EnvBelow n env → Reaches (IsBelow n) (determined_slot env x)
slot-fits n env Any h = nowhere (IsBelow n)
slot-fits n env (Is t) h = determined-fits n env t h

pub row-by-fits : (n : ℕ) (env : PlainEnv) (op : Op) (c : Comp) → EnvBelow n env → Reaches (λ q. IsBelow n q.term) (row_by env op c)
row-by-fits n env op c h = chain _ _ (determined-fits n env c.left h) (λ l i. chain _ _ (determined-fits n env c.right h) (λ r j. row-fits n l op r c.sort i j))

pub rows-by-fit : (n : ℕ) (env : PlainEnv) (cs : List Comp) → EnvBelow n env → Reaches (RowsBelow n) (rows_by env cs)
rows-by-fit n env [] h = at (RowsBelow n) [] tt
rows-by-fit n env (c ∷ cs) h = chain _ _ (row-by-fits n env c.op c h) (λ r i. chain _ _ (rows-by-fit n env cs h) (λ rs j. at (RowsBelow n) (r ∷ rs) (i, j)))

-- ---- matching

reading-fits : (n : ℕ) (rows : List Row) (env : PlainEnv) (t : Linear) (x : Reading) → EnvBelow n env → IsBelow n t → Reaches (EnvKept n env) (match_reading rows env t x)
reading-fits n rows env t (settled u) h k = chain (value_by env u) (λ l. prove_that rows l Equal t Int >>= λ a. unit env) (any (value_by env u)) (λ l i. chain (prove_that rows l Equal t Int) (λ a. unit env) (any (prove_that rows l Equal t Int)) (λ a j. at (EnvKept n env) env (env-same n env h)))
reading-fits n rows env t (open_to x) h k = at (EnvKept n env) (bind_open env x t) (opened-to n env x t h k)
reading-fits n rows env t stuck h k = nowhere (EnvKept n env)

pub match-fits : (n : ℕ) (rows : List Row) (env : PlainEnv) (x : Slot) (t : Linear) → EnvBelow n env → IsBelow n t → Reaches (EnvKept n env) (match_slot rows env x t)
match-fits n rows env x t h k = reading-fits n rows env t (reading env x) h k

pub matches-fit : (n : ℕ) (rows : List Row) (env : PlainEnv) (xs : List Slot) (ts : List Linear) → EnvBelow n env → AllByRecursion (IsBelow n) ts → Reaches (EnvKept n env) (match_slots rows env xs ts)
matches-fit n rows env [] [] h k = at (EnvKept n env) env (env-same n env h)
matches-fit n rows env [] (t ∷ ts) h k = nowhere (EnvKept n env)
matches-fit n rows env (x ∷ xs) [] h k = nowhere (EnvKept n env)
matches-fit n rows env (x ∷ xs) (t ∷ ts) h k =
    chain _ _ (match-fits n rows env x t h k.0)
    (λ e i. after (matches-fit n rows e xs ts i.names k.1) i)
  where
    more : (o : Option PlainEnv) (e : PlainEnv) → EnvKept n env e → IfSome (EnvKept n e) o → IfSome (EnvKept n env) o
    more None e i j = tt
    more (Some u) e i j = record { names = j.names; size = j.size ∙ i.size }

    after : {o : Attempt PlainEnv} {e : PlainEnv} → Reaches (EnvKept n e) o → EnvKept n env e → Reaches (EnvKept n env) o
    after {o = o} {e = e} j i = record { value = more o.value e i j.value }

-- ---- changes of a state

-- what is reached from a state that is reached from this one
pub on : {p : PlainProgram} {s t : PlainState} {o : Attempt PlainState} → Next p s t → Reaches (Next p t) o → Reaches (Next p s) o
on {p = p} {s = s} {t = t} {o = o} h k = record { value = by o.value k.value }
  where
    by : (v : Option PlainState) → IfSome (Next p t) v → IfSome (Next p s) v
    by None i = tt
    by (Some u) i = further p s t u h i

-- a variable more
pub record Fresh (p : PlainProgram) (s t : PlainState) : Type 0 where
  pub next : Next p s t
  pub more : count t ≡ suc (count s)
  pub facts : t.facts ≡ s.facts
  pub envs : t.envs ≡ s.envs
  pub guards : t.guards ≡ s.guards

pub with-sort-fits : (p : PlainProgram) (s : PlainState) (o : Sort) → StateFits p s → Reaches (Fresh p s) (with_sort s o)
with-sort-fits p s o h =
    chain _ _ (one-more s.sorts o)
    (λ sorts i.
    let m : length s.sorts ≤ length sorts = let e = i.more in omega arith in
    at (Fresh p s) (record s { sorts = sorts }) (record { next = record { fits = with-sorts-fit p s sorts h m i.room; grows = record { sorts = m; store = refl; envs = envs-same s.envs }; opened = refl }; more = i.more; facts = refl; envs = refl; guards = refl }))

pub fresh-below : (p : PlainProgram) (s t : PlainState) → Fresh p s t → IsBelow (count t) (fresh s)
fresh-below p s t h = let e = h.more in variable-below (count t) (count s) (omega arith)

-- the same variables
pub record Same (p : PlainProgram) (s t : PlainState) : Type 0 where
  pub next : Next p s t
  pub sorts : t.sorts ≡ s.sorts

pub with-row-fits : (p : PlainProgram) (s : PlainState) (r : Row) → StateFits p s → IsBelow (count s) r.term → Reaches (Next p s) (with_row s r)
with-row-fits p s r h k =
    chain _ _ (one-more s.rows r)
    (λ rows i. at (Next p s) (record s { rows = rows }) (record {
      fits = with-rows-fit p s rows h (subst (RowsBelow (count s)) (sym i.same) (all-join _ s.rows (r ∷ []) h.rows (k, tt))) i.room;
      grows = record { sorts = omega arith; store = refl; envs = envs-same s.envs };
      opened = refl;
    }))

pub wider-rows : (p : PlainProgram) (s t : PlainState) (rs : List Row) → Next p s t → RowsBelow (count s) rs → RowsBelow (count t) rs
wider-rows p s t [] h k = tt
wider-rows p s t (r ∷ rs) h k = (wider-below (count s) (count t) r.term h.grows.sorts k.0, wider-rows p s t rs h k.1)

pub with-rows-next : (p : PlainProgram) (s : PlainState) (rs : List Row) → StateFits p s → RowsBelow (count s) rs → Reaches (Next p s) (with_rows s rs)
with-rows-next p s [] h k = at (Next p s) s (here p s h)
with-rows-next p s (r ∷ rs) h k = chain _ _ (with-row-fits p s r h k.0) (λ t i. on i (with-rows-next p t rs i.fits (wider-rows p s t rs i k.1)))

pub with-sorts-next : (p : PlainProgram) (s : PlainState) (os : List Sort) → StateFits p s → Reaches (λ t. Next p s t × (count t ≡ count s + length os) × (t.facts ≡ s.facts)) (with_sorts s os)
with-sorts-next p s [] h = at _ s (here p s h, (omega arith), refl)
with-sorts-next p s (o ∷ os) h =
    chain _ _ (with-sort-fits p s o h)
    (λ t i. more t i (with-sorts-next p t os i.next.fits))
  where
    by : (t : PlainState) → Fresh p s t → (v : Option PlainState) → IfSome (λ u. Next p t u × (count u ≡ count t + length os) × (u.facts ≡ t.facts)) v → IfSome (λ u. Next p s u × (count u ≡ count s + suc (length os)) × (u.facts ≡ s.facts)) v
    by t i None j = tt
    by t i (Some u) j = let a = i.more in let b = j.1 in (further p s t u i.next j.0, (omega arith), j.2 ∙ i.facts)

    more : (t : PlainState) → Fresh p s t → {o : Attempt PlainState} → Reaches (λ u. Next p t u × (count u ≡ count t + length os) × (u.facts ≡ t.facts)) o → Reaches (λ u. Next p s u × (count u ≡ count s + suc (length os)) × (u.facts ≡ s.facts)) o
    more t i {o = o} j = record { value = by t i o.value j.value }

pub with-comparison-fits : (p : PlainProgram) (s : PlainState) (l : Linear) (op : Op) (r : Linear) (o : Sort) → StateFits p s → IsBelow (count s) l → IsBelow (count s) r → Reaches (Next p s) (with_comparison s l op r o)
with-comparison-fits p s l op r o h k g = chain (comparison_row l op r o) (λ q. with_row s q) (row-fits (count s) l op r o k g) (λ q i. with-row-fits p s q h i)

-- a term of one state is one of a later one
pub later-term : (p : PlainProgram) (s t : PlainState) (u : Linear) → Next p s t → IsBelow (count s) u → IsBelow (count t) u
later-term p s t u h k = wider-below (count s) (count t) u h.grows.sorts k

pub later-fact : (p : PlainProgram) (s t : PlainState) (f : PlainFact) → Next p s t → KnownFactFits p (count s) f → KnownFactFits p (count t) f
later-fact p s t f h k = wider-fact p (count s) (count t) f h.grows.sorts k

pub later-terms : (p : PlainProgram) (s t : PlainState) (us : List Linear) → Next p s t → AllByRecursion (IsBelow (count s)) us → AllByRecursion (IsBelow (count t)) us
later-terms p s t [] h k = tt
later-terms p s t (u ∷ us) h k = (later-term p s t u h k.0, later-terms p s t us h k.1)

pub later-facts : (p : PlainProgram) (s t : PlainState) (fs : List PlainFact) → Next p s t → AllByRecursion (KnownFactFits p (count s)) fs → AllByRecursion (KnownFactFits p (count t)) fs
later-facts p s t [] h k = tt
later-facts p s t (f ∷ fs) h k = (later-fact p s t f h k.0, later-facts p s t fs h k.1)

pub differing-fits : (p : PlainProgram) (s : PlainState) (t : Linear) (fs : List PlainFact) → StateFits p s → IsBelow (count s) t → AllByRecursion (KnownFactFits p (count s)) fs → Reaches (Next p s) (with_differing s t fs)
differing-fits p s t [] h k g = at (Next p s) s (here p s h)
differing-fits p s t (f ∷ fs) h k g = chain _ _ (with-comparison-fits p s t Unequal f.region Int h k g.0.region) (λ u i. on i (differing-fits p u t fs i.fits (later-term p s u t i k) (later-facts p s u fs i g.1)))

pub local-fits : (p : PlainProgram) (s : PlainState) (x : ℕ) (t : Linear) → StateFits p s → IsBelow (count s) t → Next p s (with_local s x t)
local-fits p s x t h k =
    let e = length-set s.store x t in
    let r = h.room.store in
    record {
      fits = with-store-fits p s (slice_set s.store x t) h (all-set (IsBelow (count s)) s.store x t h.store k) (omega arith);
      grows = record { sorts = omega arith; store = e; envs = envs-same s.envs };
      opened = refl;
    }

pub destination-fits : (p : PlainProgram) (s : PlainState) (x : Option ℕ) (t : Linear) → StateFits p s → IsBelow (count s) t → Next p s (with_destination s x t)
destination-fits p s None t h k = here p s h
destination-fits p s (Some x) t h k = local-fits p s x t h k

pub with-cell-fits : (p : PlainProgram) (s : PlainState) (a t : Linear) → StateFits p s → IsBelow (count s) a → IsBelow (count s) t → Reaches (Next p s) (with_cell s a t)
with-cell-fits p s a t h k g =
    chain _ _ (one-more s.cells (a, t))
    (λ cells i. at (Next p s) (record s { cells = cells }) (record {
      fits = with-cells-fit p s cells h (subst (AllByRecursion (CellBelow (count s))) (sym i.same) (all-join _ s.cells ((a, t) ∷ []) (cells-below p s h) (record { address = k; content = g }, tt))) i.room;
      grows = record { sorts = omega arith; store = refl; envs = envs-same s.envs };
      opened = refl;
    }))

-- the environment is the last one
pub record HasEnv (p : PlainProgram) (s : PlainState) (env : PlainEnv) (t : PlainState) : Type 0 where
  pub next : Next p s t
  pub last : slice_get t.envs (length s.envs) ≡ Some env

get-last : {A : Type 0} (xs : List A) (x : A) → slice_get (xs ++ x ∷ []) (length xs) ≡ Some x
get-last [] x = refl
get-last (y ∷ ys) x = get-last ys x

pub with-env-fits : (p : PlainProgram) (s : PlainState) (env : PlainEnv) → StateFits p s → EnvBelow (count s) env → Reaches (HasEnv p s env) (with_env s env)
with-env-fits p s env h k =
    chain _ _ (one-more s.envs env)
    (λ envs i. at (HasEnv p s env) (record s { envs = envs }) (record {
      next = record {
        fits = with-envs-fit p s envs h (subst (AllByRecursion (EnvBelow (count s))) (sym i.same) (all-join _ s.envs (env ∷ []) h.envs (k, tt))) i.room;
        grows = record { sorts = omega arith; store = refl; envs = subst (λ xs. EnvsStay s.envs xs) (sym i.same) (envs-more s.envs (env ∷ [])) };
        opened = refl;
      };
      last = ap (λ xs. slice_get xs (length s.envs)) i.same ∙ get-last s.envs env;
    }))

pub env-at-fits : (p : PlainProgram) (s : PlainState) (e : ℕ) → StateFits p s → EnvBelow (count s) (env_at s e)
env-at-fits p s e h = all-get-or (EnvBelow (count s)) s.envs e [] h.envs tt

get-is : {A : Type 0} (xs : List A) (e : ℕ) (d x : A) → slice_get xs e ≡ Some x → get_or xs e d ≡ x
get-is [] e d x h = absurd cc
get-is (y ∷ ys) zero d x h = cc
get-is (y ∷ ys) (suc e) d x h = get-is ys e d x h

pub env-set-fits : (p : PlainProgram) (s : PlainState) (e : ℕ) (env : PlainEnv) → StateFits p s → EnvKept (count s) (env_at s e) env → Next p s (with_env_at s e env)
env-set-fits p s e env h k =
    let l = length-set s.envs e env in
    let r = h.room.envs in
    record {
      fits = with-envs-fit p s (slice_set s.envs e env) h (all-set (EnvBelow (count s)) s.envs e env h.envs k.names) (omega arith);
      grows = record { sorts = omega arith; store = refl; envs = envs-set s.envs e env (λ old i. k.size ∙ ap length (get-is s.envs e [] old i)) };
      opened = refl;
    }

-- ---- facts

pub without-first-all : {A : Type 0} (P : A → Type 0) (test : A → Bool) (xs : List A) → AllByRecursion P xs → AllByRecursion P (without_first test xs)
without-first-all P test [] h = tt
without-first-all P test (x ∷ xs) h = by_test (test x) h (without-first-all P test xs h.1)
  where
    by_test : (b : Bool) → AllByRecursion P (x ∷ xs) → AllByRecursion P (without_first test xs) → AllByRecursion P (if b then xs else x ∷ without_first test xs)
    by_test true h k = h.1
    by_test false h k = (h.0, k)

equalities-fit : (p : PlainProgram) (s : PlainState) (xs ys : List Linear) → StateFits p s → AllByRecursion (IsBelow (count s)) xs → AllByRecursion (IsBelow (count s)) ys → Reaches (Next p s) (with_equalities s xs ys)
equalities-fit p s [] ys h k g = at (Next p s) s (here p s h)
equalities-fit p s (x ∷ xs) [] h k g = at (Next p s) s (here p s h)
equalities-fit p s (x ∷ xs) (y ∷ ys) h k g = chain _ _ (with-comparison-fits p s x Equal y Int h k.0 g.0) (λ t i. on i (equalities-fit p t xs ys i.fits (later-terms p s t xs i k.1) (later-terms p s t ys i g.1)))

same-fits : (p : PlainProgram) (s : PlainState) (f : PlainFact) (o : Option PlainFact) → StateFits p s → KnownFactFits p (count s) f → IfSome (KnownFactFits p (count s)) o → Reaches (Next p s) (with_same s f o)
same-fits p s f None h k g = at (Next p s) s (here p s h)
same-fits p s f (Some x) h k g = chain _ _ (equalities-fit p s x.args f.args h g.args k.args) (λ t i. on i (with-comparison-fits p t x.state Equal f.state Int i.fits (later-term p s t x.state i g.state) (later-term p s t f.state i k.state)))

false-fits : (p : PlainProgram) (s : PlainState) (b : Bool) → StateFits p s → Reaches (Next p s) (with_false s b)
false-fits p s true h = with-comparison-fits p s zero_value Equal one_value Int h (zero-below (count s)) (one-below (count s))
false-fits p s false h = at (Next p s) s (here p s h)

pub with-fact-fits : (p : PlainProgram) (s : PlainState) (f : PlainFact) → StateFits p s → KnownFactFits p (count s) f → Reaches (Next p s) (with_fact s f)
with-fact-fits p s f h k =
    let others = without_first (is_of_region f) s.facts in
    chain _ _ (same-fits p s f (find (is_of_region f) s.facts) h k (all-find (KnownFactFits p (count s)) (is_of_region f) s.facts h.facts))
    (λ t i. chain _ _ (false-fits p t (list_any (is_of_other_type f) s.facts) i.fits)
    (λ u j. let n = further p s t u i j in chain _ _ (one-more others f)
    (λ fs l. at (Next p s) (record u { facts = fs }) (record {
      fits = with-facts-fit p u fs j.fits (subst (AllByRecursion (KnownFactFits p (count u))) (sym l.same) (all-join _ others (f ∷ []) (later-facts p s u others n (without-first-all _ (is_of_region f) s.facts h.facts)) (later-fact p s u f n k, tt))) l.room;
      grows = record { sorts = n.grows.sorts; store = n.grows.store; envs = n.grows.envs };
      opened = n.opened;
    }))))
