-- What an attempt comes to, step by step.
use Rattle.std.proofs.Common.{◌≡◌, List, [], ◌∷◌, ◌++◌, length, map, Bool, true, false, Option, Some, None, refl}
use Rattle.std.specs.Prelude.{IsSomeAnd, nat_lt}
use Rattle.cap_lin.specs.Linear.{Linear}
use Rattle.cap_lin.specs.Steps.{Step}
use Rattle.cap_lin.specs.Rows.{row_of, row_of_steps, negations_steps}
use Rattle.cap_lin.specs.Solves.{Proves}
use Rattle.cap_lin.specs.declared.row.Row.{Row}
use Rattle.cap_lin.specs.declared.row.Sort.{Sort}
use Rattle.cap_lin.specs.declared.row.Op.{Op}
use Rattle.cap_prog.specs.declared.assertion.Comp.{Comp}
use Rattle.cap_goal_spec.specs.States.{PlainState, PlainEnv, longest_list}
use Rattle.cap_goal_spec.specs.Terms.{term_over}
use Rattle.cap_goal_spec.specs.Environments.{is_determined, term_in}
use Rattle.cap_rules.specs.Attempts.{Claim, Event, makes, claims, Attempt, unit, go_on, ◌>>=◌, computed, found, need, appended, comparison_row, prove, prove_that}
use Rattle.cap_rules.specs.Making.{value_by, determined, row_by, value_here, values_here, row_here, in_store, with_sort, with_row, with_comparison, with_cell, with_env}
use Rattle.cap_account_states.specs.Nodes.{AreTrue, Comes}

-- ---- true claims

pub true-first : (es fs : List Event) → AreTrue (es ++ fs) → AreTrue es
true-first [] fs h = tt
true-first (makes x ∷ es) fs h = true-first es fs h
true-first (claims c ∷ es) fs h = (h.0, true-first es fs h.1)

pub true-second : (es fs : List Event) → AreTrue (es ++ fs) → AreTrue fs
true-second [] fs h = h
true-second (makes x ∷ es) fs h = true-second es fs h
true-second (claims c ∷ es) fs h = true-second es fs h.1

-- ---- one attempt after another

pub comes-bind :
    {A B : Type 0} (o : Attempt A) (f : A → Attempt B) (P : B → Type 0) → Comes (o >>= f) P →
    Comes o (λ x. Comes (f x) P)
comes-bind {A} {B} o f P h = by o.events o.value h
  where
    by :
        (es : List Event) (m : Option A) → Comes (go_on es m f) P → AreTrue es
        × IsSomeAnd m (λ x. Comes (f x) P)
    by es None h = absurd h.1
    by es (Some x) h = (true-first es (f x).events h.0, (true-second es (f x).events h.0, h.1))

pub comes-more :
    {A : Type 0} (o : Attempt A) (P Q : A → Type 0) → ((x : A) → P x → Q x) → Comes o P → Comes o Q
comes-more {A} o P Q f h = (h.0, by o.value h.1)
  where
    by : (m : Option A) → IsSomeAnd m P → IsSomeAnd m Q
    by None k = absurd k
    by (Some x) k = f x k

pub comes-found :
    {A : Type 0} (o : Option A) (P : A → Type 0) → Comes (found o) P → (x : A) × (o ≡ Some x) × P x
comes-found None P h = absurd h.1
comes-found (Some x) P h = (x, refl, h.1)

pub comes-need : (b : Bool) (P : Unit {0} → Type 0) → Comes (need b) P → (b ≡ true) × P tt
comes-need true P h = (refl, h.1)
comes-need false P h = absurd h.1

-- a value, and then more
pub after-found :
    {A B : Type 0} (o : Option A) (f : A → Attempt B) (P : B → Type 0) → Comes (found o >>= f) P →
    (x : A) × (o ≡ Some x) × Comes (f x) P
after-found o f P h = comes-found o (λ x. Comes (f x) P) (comes-bind (found o) f P h)

pub after-need :
    {B : Type 0} (b : Bool) (f : Unit {0} → Attempt B) (P : B → Type 0) → Comes (need b >>= f) P →
    (b ≡ true) × Comes (f tt) P
after-need b f P h = comes-need b (λ x. Comes (f x) P) (comes-bind (need b) f P h)

pub after-computed :
    {A B : Type 0} (x : A) (steps : List Step) (f : A → Attempt B) (P : B → Type 0) →
    Comes (computed x steps >>= f) P → Comes (f x) P
after-computed x steps f P h = (comes-bind (computed x steps) f P h).1

pub comes-appended :
    {A : Type 0} (xs : List A) (x : A) (P : List A → Type 0) → Comes (appended xs x) P →
    P (xs ++ x ∷ [])
comes-appended xs x P h =
    (after-need (nat_lt (length xs) longest_list) (λ y. unit (xs ++ x ∷ [])) P h).1.1

-- ---- claims

pub comes-prove :
    (rows : List Row) (r : Row) (P : Unit {0} → Type 0) → Comes (prove rows r) P → Proves rows r
    × P tt
comes-prove rows r P h =
    ((true-second (map makes (negations_steps r)) (claims (Claim.proved rows r) ∷ []) h.0).0, h.1)

pub comes-proved :
    (rows : List Row) (l : Linear) (op : Op) (r : Linear) (o : Sort) (P : Unit {0} → Type 0) →
    Comes (prove_that rows l op r o) P → Proves rows (row_of l op r o) × P tt
comes-proved rows l op r o P h =
    comes-prove rows (row_of l op r o) P
    (after-computed (row_of l op r o) (row_of_steps l op r o) (λ q. prove rows q) P h)

pub after-prove :
    {B : Type 0} (rows : List Row) (r : Row) (f : Unit {0} → Attempt B) (P : B → Type 0) →
    Comes (prove rows r >>= f) P → Proves rows r × Comes (f tt) P
after-prove rows r f P h = comes-prove rows r (λ x. Comes (f x) P) (comes-bind (prove rows r) f P h)

pub after-proved :
    {B : Type 0} (rows : List Row) (l : Linear) (op : Op) (r : Linear) (o : Sort)
    (f : Unit {0} → Attempt B) (P : B → Type 0) → Comes (prove_that rows l op r o >>= f) P →
    Proves rows (row_of l op r o) × Comes (f tt) P
after-proved rows l op r o f P h =
    comes-proved rows l op r o (λ x. Comes (f x) P) (comes-bind (prove_that rows l op r o) f P h)

-- ---- terms and rows

-- the row of a comparison over an environment
abbrev pub comp_row : PlainEnv → Op → Comp → Row
comp_row env op c = row_of (term_in env c.left) op (term_in env c.right) c.sort

pub record AreDetermined (env : PlainEnv) (c : Comp) : Type 0 where
  pub left : is_determined env c.left ≡ true
  pub right : is_determined env c.right ≡ true

pub comes-determined :
    (env : PlainEnv) (t : Linear) (P : Linear → Type 0) → Comes (determined env t) P →
    (is_determined env t ≡ true) × P (term_in env t)
comes-determined env t P h =
    let q = after-need (is_determined env t) (λ y. value_by env t) P h in (q.0, q.1.1)

pub after-determined :
    {B : Type 0} (env : PlainEnv) (t : Linear) (f : Linear → Attempt B) (P : B → Type 0) →
    Comes (determined env t >>= f) P → (is_determined env t ≡ true) × Comes (f (term_in env t)) P
after-determined env t f P h =
    comes-determined env t (λ x. Comes (f x) P) (comes-bind (determined env t) f P h)

pub after-row :
    {B : Type 0} (env : PlainEnv) (op : Op) (c : Comp) (f : Row → Attempt B) (P : B → Type 0) →
    Comes (row_by env op c >>= f) P → AreDetermined env c × Comes (f (comp_row env op c)) P
after-row env op c f P h =
    let k = after-determined env c.left
    (λ l. determined env c.right >>= λ r. comparison_row l op r c.sort) (λ x. Comes (f x) P)
    (comes-bind (row_by env op c) f P h) in
    let m = after-determined env c.right (λ r. comparison_row (term_in env c.left) op r c.sort)
    (λ x. Comes (f x) P) k.1 in
    (record { left = k.0; right = m.0 }, m.1.1)

-- the row of a statement's comparison
abbrev pub store_row : PlainState → Op → Comp → Row
store_row s op c = row_of (term_over (in_store s) c.left) op (term_over (in_store s) c.right) c.sort

pub after-here :
    {B : Type 0} (s : PlainState) (t : Linear) (f : Linear → Attempt B) (P : B → Type 0) →
    Comes (value_here s t >>= f) P → Comes (f (term_over (in_store s) t)) P
after-here s t f P h = (comes-bind (value_here s t) f P h).1

pub after-row-here :
    {B : Type 0} (s : PlainState) (op : Op) (c : Comp) (f : Row → Attempt B) (P : B → Type 0) →
    Comes (row_here s op c >>= f) P → Comes (f (store_row s op c)) P
after-row-here s op c f P h =
    let k = after-here s c.left (λ l. value_here s c.right >>= λ r. comparison_row l op r c.sort)
    (λ x. Comes (f x) P) (comes-bind (row_here s op c) f P h) in
    let m = after-here s c.right (λ r. comparison_row (term_over (in_store s) c.left) op r c.sort)
    (λ x. Comes (f x) P) k in
    m.1

pub after-values-here :
    {B : Type 0} (s : PlainState) (ts : List Linear) (f : List Linear → Attempt B)
    (P : B → Type 0) → Comes (values_here s ts >>= f) P →
    Comes (f (map (term_over (in_store s)) ts)) P
after-values-here s ts f P h =
    comes-values ts (λ x. Comes (f x) P) (comes-bind (values_here s ts) f P h)
  where
    comes-values :
        (ts : List Linear) (Q : List Linear → Type 0) → Comes (values_here s ts) Q →
        Q (map (term_over (in_store s)) ts)
    comes-values [] Q h = h.1
    comes-values (t ∷ ts) Q h =
        let k = after-here s t (λ u. values_here s ts >>= λ us. unit (u ∷ us)) Q h in
        (comes-values ts (λ us. Comes (unit (term_over (in_store s) t ∷ us)) Q)
        (comes-bind (values_here s ts) (λ us. unit (term_over (in_store s) t ∷ us)) Q k)).1

-- ---- changes of a state

abbrev pub sort_added : PlainState → Sort → PlainState
sort_added s o = record s { sorts = s.sorts ++ o ∷ [] }

abbrev pub row_added : PlainState → Row → PlainState
row_added s r = record s { rows = s.rows ++ r ∷ [] }

abbrev pub cell_added : PlainState → Linear → Linear → PlainState
cell_added s a t = record s { cells = s.cells ++ (a, t) ∷ [] }

abbrev pub env_added : PlainState → PlainEnv → PlainState
env_added s env = record s { envs = s.envs ++ env ∷ [] }

pub comes-sort :
    (s : PlainState) (o : Sort) (P : PlainState → Type 0) → Comes (with_sort s o) P →
    P (sort_added s o)
comes-sort s o P h =
    (comes-appended s.sorts o (λ x. Comes (unit (record s { sorts = x })) P)
    (comes-bind (appended s.sorts o) (λ sorts. unit (record s { sorts = sorts })) P h)).1

pub after-sort :
    {B : Type 0} (s : PlainState) (o : Sort) (f : PlainState → Attempt B) (P : B → Type 0) →
    Comes (with_sort s o >>= f) P → Comes (f (sort_added s o)) P
after-sort s o f P h = comes-sort s o (λ x. Comes (f x) P) (comes-bind (with_sort s o) f P h)

pub comes-row :
    (s : PlainState) (r : Row) (P : PlainState → Type 0) → Comes (with_row s r) P →
    P (row_added s r)
comes-row s r P h =
    (comes-appended s.rows r (λ x. Comes (unit (record s { rows = x })) P)
    (comes-bind (appended s.rows r) (λ rows. unit (record s { rows = rows })) P h)).1

pub after-with-row :
    {B : Type 0} (s : PlainState) (r : Row) (f : PlainState → Attempt B) (P : B → Type 0) →
    Comes (with_row s r >>= f) P → Comes (f (row_added s r)) P
after-with-row s r f P h = comes-row s r (λ x. Comes (f x) P) (comes-bind (with_row s r) f P h)

pub comes-comparison :
    (s : PlainState) (l : Linear) (op : Op) (r : Linear) (o : Sort) (P : PlainState → Type 0) →
    Comes (with_comparison s l op r o) P → P (row_added s (row_of l op r o))
comes-comparison s l op r o P h =
    comes-row s (row_of l op r o) P
    (after-computed (row_of l op r o) (row_of_steps l op r o) (λ q. with_row s q) P h)

pub after-comparison :
    {B : Type 0} (s : PlainState) (l : Linear) (op : Op) (r : Linear) (o : Sort)
    (f : PlainState → Attempt B) (P : B → Type 0) → Comes (with_comparison s l op r o >>= f) P →
    Comes (f (row_added s (row_of l op r o))) P
after-comparison s l op r o f P h =
    comes-comparison s l op r o (λ x. Comes (f x) P) (comes-bind (with_comparison s l op r o) f P h)

pub after-cell :
    {B : Type 0} (s : PlainState) (a t : Linear) (f : PlainState → Attempt B) (P : B → Type 0) →
    Comes (with_cell s a t >>= f) P → Comes (f (cell_added s a t)) P
after-cell s a t f P h =
    (comes-appended s.cells (a, t) (λ x. Comes (unit (record s { cells = x })) (λ y. Comes (f y) P))
    (comes-bind (appended s.cells (a, t)) (λ cells. unit (record s { cells = cells }))
    (λ y. Comes (f y) P) (comes-bind (with_cell s a t) f P h))).1

pub after-env :
    {B : Type 0} (s : PlainState) (env : PlainEnv) (f : PlainState → Attempt B) (P : B → Type 0) →
    Comes (with_env s env >>= f) P → Comes (f (env_added s env)) P
after-env s env f P h =
    (comes-appended s.envs env (λ x. Comes (unit (record s { envs = x })) (λ y. Comes (f y) P))
    (comes-bind (appended s.envs env) (λ envs. unit (record s { envs = envs }))
    (λ y. Comes (f y) P) (comes-bind (with_env s env) f P h))).1
