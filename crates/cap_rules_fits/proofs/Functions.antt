-- The roots of a function fit.
use Rattle.std.proofs.Common.{◌≡◌, ℕ, suc, ◌+◌, ◌≤◌, List, [], ◌∷◌, ◌++◌, map, replicate, length, Bool, true, false, refl, sym, ap, ◌∙◌, subst, arith, length-append, Option, Some, None}
use Rattle.std.specs.Prelude.{slice_get, IsSomeAnd, if◌then◌else◌, flat_map}
use Rattle.std.specs.List.{AllByRecursion}
use Rattle.std.proofs.lemmas.List.{length-replicate, length-map}
use Rattle.cap_lin.specs.Linear.{Linear, variable, IsBelow}
use Rattle.cap_lin.specs.declared.row.Sort.{Sort}
use Rattle.cap_lin.specs.declared.row.Sort.TheVariants.{Int}
use Rattle.cap_fm_spec.proofs.Lists.{each-map, each-join}
use Rattle.cap_prog.specs.Program.{Items, Block, done, first, append, PlainFunction, PlainProgram}
use Rattle.cap_prog.specs.Parts.{all_items, all_statements}
use Rattle.cap_prog.specs.Scopes.{Scope, fixed_start, requires_scope, ensures_scope, invariant_scope}
use Rattle.cap_prog.specs.WellFormed.{ItemFits, FunctionFits, EndsInReturn}
use Rattle.cap_goal_spec.specs.Terms.{variables_from}
use Rattle.cap_goal_spec.specs.States.{PlainEnv, PlainTask, to_run, to_turn, to_give, to_take, to_rest}
use Rattle.cap_goal_spec.specs.Environments.{bound, unbound, zero_value}
use Rattle.cap_goal_spec.specs.Roots.{Knows, at_entry, at_exit, at_loop, home_of, root_locals, root_result, root_env, root_store, root_state, stability, from_given, LoopPoint, loops_in, loop_roots, function_roots}
use Rattle.cap_goal_spec.specs.Fits.{NameIsBelow, StateFits, RunFits, ItemsFitEnv}
use Rattle.cap_rules_fits.specs.Roots.{RootFits}
use Rattle.cap_rules_fits.proofs.Below.{variable-below, variables-below, bound-below, unbound-below, zeros-below, variables-length, bound-length}
use Rattle.cap_rules_fits.proofs.Wider.{get-append, item-wider}
use Rattle.cap_rules_fits.proofs.Tasks.{Stands, tasks-fit}
use Rattle.cap_rules_fits.proofs.Loops.{Fit, LoopFits, block-loops}

-- how many variables the locals have, and the result
abbrev few : Bool → ℕ → ℕ
few b n = if b then n else 0

abbrev sorts_of : Knows → PlainFunction → List Sort
sorts_of w f = (root_state w f 0 []).sorts

-- ---- lengths

pub sorts-length : (fixed : ℕ) (sorts : List Sort) (b : Bool) → length (replicate fixed Int ++ (sorts ++ (if b then Int ∷ [] else []))) ≡ fixed + (length sorts + few b 1)
sorts-length fixed sorts b =
    length-append (replicate fixed Int) _ ∙ (ap (λ n. n + length (sorts ++ (if b then Int ∷ [] else []))) (length-replicate fixed Int) ∙ ap (λ n. fixed + n) (length-append sorts _ ∙ ap (λ n. length sorts + n) (last b)))
  where
    last : (b : Bool) → length (if b then Int ∷ [] else []) ≡ few b 1
    last true = refl
    last false = refl

locals-length : (b : Bool) (params locals : ℕ) → length (if b then bound (variables_from params locals) else unbound locals) ≡ locals
locals-length true params locals = bound-length (variables_from params locals) ∙ variables-length params locals
locals-length false params locals = length-replicate locals None

pub store-length : (b : Bool) (params locals : ℕ) → length (variables_from 0 params ++ (if b then variables_from params locals else replicate locals zero_value)) ≡ params + locals
store-length b params locals =
    length-append (variables_from 0 params) _ ∙ (ap (λ n. n + length (if b then variables_from params locals else replicate locals zero_value)) (variables-length 0 params) ∙ ap (λ n. params + n) (rest b))
  where
    rest : (b : Bool) → length (if b then variables_from params locals else replicate locals zero_value) ≡ locals
    rest true = variables-length params locals
    rest false = length-replicate locals zero_value

pub env-parts : (ps ls fs : List (Option Linear)) (r : Option Linear) (new : ℕ) → length (ps ++ (ls ++ (fs ++ r ∷ unbound new))) ≡ length ps + (length ls + (length fs + suc new))
env-parts ps ls fs r new =
    length-append ps _ ∙ ap (λ n. length ps + n) (length-append ls _ ∙ ap (λ n. length ls + n) (length-append fs _ ∙ ap (λ n. length fs + suc n) (length-replicate new None)))

pub env-length : (w : Knows) (f : PlainFunction) (n new : ℕ) → length (root_env w f n new) ≡ fixed_start f + (length f.fixed + suc new)
env-length w f n new =
    let home : ℕ = (home_of w f n).fixed in
    let whole = env-parts (bound (variables_from 0 f.params)) (root_locals w f) (bound (variables_from home (length f.fixed))) (root_result w f n) new in
    let a : length (bound (variables_from 0 f.params)) ≡ f.params = bound-length (variables_from 0 f.params) ∙ variables-length 0 f.params in
    let b : length (root_locals w f) ≡ f.locals = locals-length w.locals f.params f.locals in
    let c : length (bound (variables_from home (length f.fixed))) ≡ length f.fixed = bound-length (variables_from home (length f.fixed)) ∙ variables-length home (length f.fixed) in
    omega arith

-- ---- terms

locals-below : (b : Bool) (params locals n : ℕ) → params + few b locals ≤ n → AllByRecursion (NameIsBelow n) (if b then bound (variables_from params locals) else unbound locals)
locals-below true params locals n h = bound-below n _ (variables-below n params locals h)
locals-below false params locals n h = unbound-below n locals

stored-below : (b : Bool) (params locals n : ℕ) → params + few b locals ≤ n → AllByRecursion (IsBelow n) (if b then variables_from params locals else replicate locals zero_value)
stored-below true params locals n h = variables-below n params locals h
stored-below false params locals n h = zeros-below n locals

result-below : (b : Bool) (x n : ℕ) → x + few b 1 ≤ n → NameIsBelow n (if b then Some (variable x) else None)
result-below true x n h = variable-below n x (omega arith)
result-below false x n h = tt

pub store-below : (w : Knows) (f : PlainFunction) (n : ℕ) → f.params + few w.locals f.locals ≤ n → AllByRecursion (IsBelow n) (root_store w f)
store-below w f n h =
    each-join _ (variables_from 0 f.params) _ (variables-below n 0 f.params (omega arith)) (stored-below w.locals f.params f.locals n h)

pub env-below : (w : Knows) (f : PlainFunction) (number new n : ℕ) → f.params + few w.locals f.locals + (length f.fixed + few w.result 1) ≤ n → AllByRecursion (NameIsBelow n) (root_env w f number new)
env-below w f number new n h =
    let home : ℕ = (home_of w f number).fixed in
    each-join _ (bound (variables_from 0 f.params)) _ (bound-below n _ (variables-below n 0 f.params (omega arith)))
    (each-join _ (root_locals w f) _ (locals-below w.locals f.params f.locals n (omega arith))
    (each-join _ (bound (variables_from home (length f.fixed))) _ (bound-below n _ (variables-below n home (length f.fixed) (omega arith)))
    (result-below w.result (home + length f.fixed) n (omega arith), unbound-below n new)))

-- ---- states

-- the function's variables are few
abbrev Few : PlainFunction → Type 0
Few f = fixed_start f + length f.fixed ≤ 64

few-le : (b : Bool) (n : ℕ) → few b n ≤ n
few-le true n = omega arith
few-le false n = omega arith

state-fits : (p : PlainProgram) (w : Knows) (f : PlainFunction) (n : ℕ) (envs : List PlainEnv) → Few f → length envs ≤ 2 → AllByRecursion (AllByRecursion (NameIsBelow (f.params + few w.locals f.locals + (length f.fixed + few w.result 1)))) envs → StateFits p (root_state w f n envs)
state-fits p w f n envs h l e =
    let count : ℕ = f.params + few w.locals f.locals + (length f.fixed + few w.result 1) in
    let size : length (sorts_of w f) ≡ count = sorts-length (f.params + few w.locals f.locals) f.fixed w.result in
    let stored : length (root_store w f) ≡ f.params + f.locals = store-length w.locals f.params f.locals in
    let some : few w.locals f.locals ≤ f.locals = few-le w.locals f.locals in
    let one : few w.result 1 ≤ 1 = few-le w.result 1 in
    record {
      rows = tt;
      store = store-below w f (length (sorts_of w f)) (omega arith);
      addresses = tt;
      contents = tt;
      facts = tt;
      guards = tt;
      guards_parted = tt;
      before = tt;
      before_parted = tt;
      opened = tt;
      envs = subst (λ (m : ℕ). AllByRecursion (AllByRecursion (NameIsBelow m)) envs) (sym size) e;
      room = record {
        sorts = omega arith;
        rows = omega arith;
        store = omega arith;
        cells = omega arith;
        facts = omega arith;
        guards = omega arith;
        before = omega arith;
        opened = omega arith;
        envs = omega arith;
      };
    }

-- ---- goals

-- the items are over a scope of the environment's names
pub record Scoped (p : PlainProgram) (f : PlainFunction) (new : ℕ) (items : Items) : Type 0 where
  pub scope : Scope
  pub names : length scope ≡ fixed_start f + (length f.fixed + suc new)
  pub each : AllByRecursion (ItemFits p scope) (all_items items)

items-fit : (p : PlainProgram) (w : Knows) (f : PlainFunction) (n new : ℕ) (items : Items) → Scoped p f new items → ItemsFitEnv p (root_env w f n new) items
items-fit p w f n new items s = record { scope = s.scope; names = s.names ∙ sym (env-length w f n new); each = s.each }

pub stability-fits : (p : PlainProgram) (w : Knows) (f : PlainFunction) (n new : ℕ) (items : Items) → Few f → Scoped p f new items → RootFits p (stability w f n new items)
stability-fits p w f n new items h s =
    let env : PlainEnv = root_env w f n new in
    let fits : ItemsFitEnv p env items = items-fit p w f n new items s in
    let below = env-below w f n new (f.params + few w.locals f.locals + (length f.fixed + few w.result 1)) (omega arith) in
    tasks-fit p (root_state w f n (env ∷ env ∷ [])) (to_give items 0 0 ∷ to_rest 0 0 ∷ to_take items 1 0 0 ∷ []) (state-fits p w f n (env ∷ env ∷ []) h (omega arith) (below, (below, tt)))
    (record { first = fits; later = fits }, (record { first = omega arith; later = refl }, (record { first = fits; later = fits }, tt)))

pub given-fits : (p : PlainProgram) (w : Knows) (f : PlainFunction) (n new : ℕ) (items : Items) (t : PlainTask) → Few f → Scoped p f new items → Stands p (root_state w f n (root_env w f n new ∷ [])) t → RootFits p (from_given w f n new items t)
given-fits p w f n new items t h s stands =
    let env : PlainEnv = root_env w f n new in
    let fits : ItemsFitEnv p env items = items-fit p w f n new items s in
    let below = env-below w f n new (f.params + few w.locals f.locals + (length f.fixed + few w.result 1)) (omega arith) in
    tasks-fit p (root_state w f n (env ∷ [])) (to_give items 0 0 ∷ t ∷ []) (state-fits p w f n (env ∷ []) h (omega arith) (below, tt)) (record { first = fits; later = fits }, (stands, tt))

run-fits : (p : PlainProgram) (w : Knows) (f : PlainFunction) (n : ℕ) (envs : List PlainEnv) (b : Block) → Fit p f (all_statements b) → EndsInReturn b → RunFits p (root_state w f n envs) (home_of w f n) b f
run-fits p w f n envs b h e =
    let size : length (sorts_of w f) ≡ f.params + few w.locals f.locals + (length f.fixed + few w.result 1) = sorts-length (f.params + few w.locals f.locals) f.fixed w.result in
    record { store = store-length w.locals f.params f.locals; fixed = omega arith; statements = h; closing = e }

there : (p : PlainProgram) (f : PlainFunction) (n : ℕ) (P : PlainFunction → Type 0) → slice_get p.functions n ≡ Some f → P f → IsSomeAnd (slice_get p.functions n) P
there p f n P e h = subst (λ (o : Option PlainFunction). IsSomeAnd o P) (sym e) h

-- ---- scopes

pub requires-length : (f : PlainFunction) → length (requires_scope f) ≡ fixed_start f + length f.fixed
requires-length f =
    let a : length (replicate f.params (Some Int)) ≡ f.params = length-replicate f.params (Some Int) in
    let b : length (replicate {A = Option Sort} f.locals None) ≡ f.locals = length-replicate f.locals None in
    let c : length (map Some f.fixed) ≡ length f.fixed = length-map f.fixed Some in
    omega (arith, length-append (replicate f.params (Some Int)) (replicate f.locals None ++ map Some f.fixed), length-append (replicate f.locals None) (map Some f.fixed))

pub ensures-length : (f : PlainFunction) (names : List Sort) → length (ensures_scope f names) ≡ fixed_start f + (length f.fixed + suc (length names))
ensures-length f names =
    let a : length (replicate f.params (Some Int)) ≡ f.params = length-replicate f.params (Some Int) in
    let b : length (replicate {A = Option Sort} f.locals None) ≡ f.locals = length-replicate f.locals None in
    let c : length (map Some f.fixed) ≡ length f.fixed = length-map f.fixed Some in
    let d : length (map Some names) ≡ length names = length-map names Some in
    omega (arith, length-append (replicate f.params (Some Int)) (replicate f.locals None ++ (map Some f.fixed ++ Some Int ∷ map Some names)), length-append (replicate f.locals None) (map Some f.fixed ++ Some Int ∷ map Some names), length-append (map Some f.fixed) (Some Int ∷ map Some names))

pub invariant-length : (f : PlainFunction) (names : List Sort) → length (invariant_scope f names) ≡ fixed_start f + (length f.fixed + suc (length names))
invariant-length f names =
    let a : length (replicate (fixed_start f) (Some Int)) ≡ fixed_start f = length-replicate (fixed_start f) (Some Int) in
    let c : length (map Some f.fixed) ≡ length f.fixed = length-map f.fixed Some in
    let d : length (map Some names) ≡ length names = length-map names Some in
    omega (arith, length-append (replicate (fixed_start f) (Some Int)) (map Some f.fixed ++ None ∷ map Some names), length-append (map Some f.fixed) (None ∷ map Some names))

-- a name more, which no item of `requires` knows
requires-scoped : (p : PlainProgram) (f : PlainFunction) → FunctionFits p f → Scoped p f 0 f.requires
requires-scoped p f h = record {
  scope = requires_scope f ++ None ∷ [];
  names = length-append (requires_scope f) (None ∷ []) ∙ (ap (λ n. n + 1) (requires-length f) ∙ regroup (fixed_start f) (length f.fixed));
  each = each-map _ _ (all_items f.requires) h.requires.items (λ i k. item-wider p (requires_scope f) (requires_scope f ++ None ∷ []) (λ s x e. get-append (requires_scope f) (None ∷ []) x (Some s) e) i k);
}
  where
    regroup : (a b : ℕ) → a + b + 1 ≡ a + (b + 1)
    regroup a b = omega arith

ensures-scoped : (p : PlainProgram) (f : PlainFunction) → FunctionFits p f → Scoped p f (length f.ensures.names) f.ensures.items
ensures-scoped p f h = record { scope = ensures_scope f f.ensures.names; names = ensures-length f f.ensures.names; each = h.ensures.items.items }

loop-scoped : (p : PlainProgram) (f : PlainFunction) (w : LoopPoint) → LoopFits p f w → Scoped p f (length w.invariant.names) w.invariant.items
loop-scoped p f w h = record { scope = invariant_scope f w.invariant.names; names = invariant-length f w.invariant.names; each = h.invariant.items.items }

-- ---- all roots

loop-fits : (p : PlainProgram) (f : PlainFunction) (n : ℕ) (w : LoopPoint) → slice_get p.functions n ≡ Some f → Few f → LoopFits p f w → AllByRecursion (RootFits p) (loop_roots f n w)
loop-fits p f n w e h l =
    let new : ℕ = length w.invariant.names in
    let run = there p f n (RunFits p (root_state at_loop f n (root_env at_loop f n new ∷ [])) (home_of at_loop f n) w.block) e (run-fits p at_loop f n _ w.block l.statements l.closing) in
    (stability-fits p at_loop f n new w.invariant.items h (loop-scoped p f w l), (given-fits p at_loop f n new w.invariant.items (to_turn (home_of at_loop f n) w.block) h (loop-scoped p f w l) (record { first = (run, l.starts); later = (run, l.starts) }), tt))

loops-fit : (p : PlainProgram) (f : PlainFunction) (n : ℕ) (ws : List LoopPoint) → slice_get p.functions n ≡ Some f → Few f → AllByRecursion (LoopFits p f) ws → AllByRecursion (RootFits p) (flat_map (loop_roots f n) ws)
loops-fit p f n [] e h l = tt
loops-fit p f n (w ∷ ws) e h l = each-join _ (loop_roots f n w) (flat_map (loop_roots f n) ws) (loop-fits p f n w e h l.0) (loops-fit p f n ws e h l.1)

behind-nothing : (b : Block) → append b done ≡ b
behind-nothing done = refl
behind-nothing (first l s b) = ap (first l s) (behind-nothing b)

append-done : (b : Block) → EndsInReturn b → EndsInReturn (append b done)
append-done b h = subst EndsInReturn (sym (behind-nothing b)) h

pub function_loops : (p : PlainProgram) (f : PlainFunction) → FunctionFits p f → AllByRecursion (LoopFits p f) (loops_in f.body done)
function_loops p f h = block-loops p f f.body done h.body.statements tt (append-done f.body h.body.closing)

pub function-fits : (p : PlainProgram) (f : PlainFunction) (n : ℕ) → slice_get p.functions n ≡ Some f → FunctionFits p f → AllByRecursion (RootFits p) (function_roots f n)
function-fits p f n e h =
    let room : fixed_start f + length f.fixed + length f.ensures.names ≤ 64 = h.ensures.variables in
    let small : Few f = omega arith in
    let run = there p f n (RunFits p (root_state at_entry f n (root_env at_entry f n 0 ∷ [])) (home_of at_entry f n) f.body) e (run-fits p at_entry f n _ f.body h.body.statements h.body.closing) in
    (stability-fits p at_entry f n 0 f.requires small (requires-scoped p f h), (stability-fits p at_exit f n (length f.ensures.names) f.ensures.items small (ensures-scoped p f h), (given-fits p at_entry f n 0 f.requires (to_run (home_of at_entry f n) f.body) small (requires-scoped p f h) (record { first = run; later = run }), loops-fit p f n (loops_in f.body done) e small (function_loops p f h))))
