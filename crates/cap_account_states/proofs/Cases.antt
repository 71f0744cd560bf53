-- The environment of a region type's case, as `pick` and `create` make it, is placed.
use Rattle.std.proofs.Common.{◌≡◌, ℕ, zero, suc, ◌+◌, ◌≤◌, List, [], ◌∷◌, length, map, Option, Some, None, Bool, true, false, refl, ap, ◌∙◌, arith}
use Rattle.std.specs.Prelude.{slice_get, ◌==◌, if◌then◌else◌}
use Rattle.std.specs.List.{AllByRecursion, range_with_len}
use Rattle.std.proofs.lemmas.List.FromFn.{length-range_with_len}
use Rattle.cap_lin.specs.Linear.{Linear}
use Rattle.cap_lin.specs.declared.row.Sort.{Sort}
use Rattle.cap_lin.specs.declared.row.Sort.TheVariants.{Int}
use Rattle.cap_prog.specs.declared.assertion.Slot.{Slot}
use Rattle.cap_prog.specs.declared.assertion.Slot.TheVariants.{Any, Is}
use Rattle.cap_prog.specs.Program.{PlainCase, PlainAction, PlainRegionType}
use Rattle.cap_prog.specs.Scopes.{Scope, SlotFits, region_scope, whole_numbers, known}
use Rattle.cap_goal_spec.specs.Terms.{lone_variable}
use Rattle.cap_goal_spec.specs.States.{PlainFact, PlainEnv}
use Rattle.cap_goal_spec.specs.Environments.{term_in, bound, unbound, region_env, is_bound_by}
use Rattle.cap_rules.specs.Attempts.{Attempt, unit, ◌>>=◌, each}
use Rattle.cap_rules.specs.Making.{determined, determined_slot}
use Rattle.cap_rules.specs.Closing.{source_name, source_env, move_target}
use Rattle.cap_rules.specs.Taking.{binds_all, names_with, case_env}
use Rattle.cap_account_states.specs.Nodes.{Comes}
use Rattle.cap_account_resources.proofs.Lists.{within, map-length}
use Rattle.cap_account_states.proofs.Terms.{Over, vars-more}
use Rattle.cap_account_states.proofs.Attempts.{comes-bind, after-found, comes-determined}
use Rattle.cap_account_states.proofs.Meets.{Usable, int-usable}
use Rattle.cap_account_states.proofs.Scopes.{rep-length, length-join}
use Rattle.cap_account_states.proofs.Naming.{Placed, bound-of, term-over}
use Rattle.cap_account_states.proofs.Environments.{NameOver, EnvOver, bound-over, in-env-over, none-bound, region-env-over}

-- ---- the other names' term

-- what holds of the value of an attempt holds of a term over such variables
abbrev pub Yields : (ℕ → Type 0) → Attempt Linear → Type 1
Yields P o = (Q : Linear → Type 0) → Comes o Q → (t : Linear) × Over P t × Q t

-- a slot that is determined
pub slot-yields :
    (ks : List ℕ) (sc : Scope) (sorts : List Sort) (env : PlainEnv) (x : Slot) →
    Placed ks sc sorts env → SlotFits sc Int x →
    Yields (Usable ks sorts Int) (determined_slot env x)
slot-yields ks sc sorts env Any p h Q c = absurd c.1
slot-yields ks sc sorts env (Is t) p h Q c =
    let k = comes-determined env t Q c in
    (term_in env t, term-over ks sc sorts env Int t p h (bound-of env t.parts k.0), k.1)

-- and slots of which each is
pub record SlotsGiven (P : ℕ → Type 0) (n : ℕ) (Q : List Linear → Type 0) : Type 0 where
  pub terms : List Linear
  pub size : length terms ≡ n
  pub over : AllByRecursion (Over P) terms
  pub goes : Q terms

pub slots-given :
    (ks : List ℕ) (sc : Scope) (sorts : List Sort) (env : PlainEnv) → Placed ks sc sorts env →
    (xs : List Slot) → AllByRecursion (SlotFits sc Int) xs → (Q : List Linear → Type 0) →
    Comes (each (determined_slot env) xs) Q → SlotsGiven (Usable ks sorts Int) (length xs) Q
slots-given ks sc sorts env p [] h Q c = record { terms = []; size = refl; over = tt; goes = c.1 }
slots-given ks sc sorts env p (x ∷ xs) h Q c =
    let last : Linear → List Linear → Attempt (List Linear) = λ t ts. unit (t ∷ ts) in
    let first : Linear → Attempt (List Linear) =
    λ t. each (determined_slot env) xs >>= last t in
    let k = slot-yields ks sc sorts env x p h.0 (λ t. Comes (first t) Q)
    (comes-bind (determined_slot env x) first Q c) in
    let m = slots-given ks sc sorts env p xs h.1 (λ ts. Comes (last k.0 ts) Q)
    (comes-bind (each (determined_slot env) xs) (last k.0) Q k.2) in
    record {
      terms = k.0 ∷ m.terms;
      size = ap suc m.size;
      over = (k.1, m.over);
      goes = m.goes.1;
    }

module _ (P : ℕ → Type 0) where
  -- names that have a term over such variables, or none
  each-name : (g : ℕ → Option Linear) → ((x : ℕ) → NameOver P (g x)) →
      (xs : List ℕ) → EnvOver P (map g xs)
  each-name g h [] = tt
  each-name g h (x ∷ xs) = (h x, each-name g h xs)

  -- the state to which a move leads, where the fact is over such variables
  module _ (f : PlainFact) (region : Over P f.region) (args : AllByRecursion (Over P) f.args) where
    pub target-yields : (k : PlainRegionType) (m : ℕ) → Over P f.state →
        Yields P (move_target k f m)
    target-yields k zero h Q c = (f.state, h, c.1)
    target-yields k (suc i) h Q c =
        let last : PlainAction → Attempt Linear = λ a. determined (source_env k f a) a.target in
        let k1 = after-found (slice_get k.actions i) last Q c in
        let a = k1.0 in
        let g = source_name f (lone_variable a.source) in
        let xs = range_with_len k.params (length a.names) in (
          term_in (source_env k f a) a.target,
          in-env-over P (source_env k f a)
              (region-env-over P f (map g xs) region args
              (each-name g (named (lone_variable a.source)) xs)) a.target,
          (comes-determined (source_env k f a) a.target Q k1.2).1,
        )
      where
        same : (b : Bool) → NameOver P (if b then Some f.state else None)
        same true = h
        same false = tt

        named : (o : Option ℕ) (x : ℕ) → NameOver P (source_name f o x)
        named None x = tt
        named (Some y) x = same (y == x)

-- ---- the environment of a case

-- the region and its arguments, and then so many names
pub record CaseMade (P : ℕ → Type 0) (f : PlainFact) (n : ℕ) (Q : PlainEnv → Type 0) : Type 0 where
  pub tail : PlainEnv
  pub size : length tail ≡ n
  pub over : EnvOver P tail
  pub made : Q (region_env f tail)

pub comes-case :
    (P : ℕ → Type 0) (k : PlainRegionType) (c : PlainCase) (f : PlainFact) (other : Attempt Linear)
    (Q : PlainEnv → Type 0) → Yields P other → Comes (case_env k c f other) Q →
    CaseMade P f (length c.names) Q
comes-case P k c f other Q yields h = by (binds_all k c) h
  where
    n : ℕ
    n = length c.names

    last : Linear → Attempt PlainEnv
    last t = unit (region_env f (names_with k c t))

    left : (b : Bool) (t : Linear) → Over P t → NameOver P (if b then None else Some t)
    left true t o = tt
    left false t o = o

    by : (b : Bool) → Comes (if b then unit (region_env f (unbound n)) else (other >>= last)) Q →
        CaseMade P f n Q
    by true h = record {
      tail = unbound n;
      size = rep-length n None;
      over = none-bound P n;
      made = h.1;
    }
    by false h =
        let r = yields (λ t. Comes (last t) Q) (comes-bind other last Q h) in
        let g = λ (x : ℕ). if is_bound_by x c.items then None else Some r.0 in
        let xs = range_with_len k.params n in
        record {
          tail = map g xs;
          size = map-length g xs ∙ length-range_with_len k.params n;
          over = each-name P g (λ x. left (is_bound_by x c.items) r.0 r.1) xs;
          made = r.2.1;
        }

-- an environment over whole variables has a place for each name of a scope that isn't longer
pub env-placed :
    (ks : List ℕ) (sc : Scope) (sorts : List Sort) (env : PlainEnv) → length sc ≤ length env →
    EnvOver (Usable ks sorts Int) env → Placed ks sc sorts env
env-placed ks sc sorts env l h = record {
  room = λ x o i. let q = within sc x (Some o) i in omega (arith, l, q);
  over = λ x o i t e.
      vars-more (Usable ks sorts Int) (Usable ks sorts o) (int-usable ks sorts o) t.parts
      (bound-over (Usable ks sorts Int) env h x t e);
}

pub case-placed :
    (ks : List ℕ) (sorts : List Sort) (k : PlainRegionType) (names : List Sort) (f : PlainFact)
    (env : PlainEnv) → length f.args + 1 ≡ k.params → Over (Usable ks sorts Int) f.region →
    AllByRecursion (Over (Usable ks sorts Int)) f.args → length env ≡ length names →
    EnvOver (Usable ks sorts Int) env → Placed ks (region_scope k names) sorts (region_env f env)
case-placed ks sorts k names f env arity region args size h =
    env-placed ks (region_scope k names) sorts (region_env f env) room
    (region-env-over (Usable ks sorts Int) f env region args h)
  where
    room : length (region_scope k names) ≤ length (region_env f env)
    room =
        let a = length-join (whole_numbers k.params) (known names) in
        let b = rep-length k.params (Some Int) in
        let c = map-length Some names in
        let d = length-join (bound f.args) env in
        let e = map-length Some f.args in
        omega (arith, a, b, c, d, e, size, arity)
