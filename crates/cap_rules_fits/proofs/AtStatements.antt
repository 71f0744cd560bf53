-- The rules at a statement leave goals that are kept.
use Rattle.std.proofs.Common.{◌≡◌, ◌≤◌, ℕ, pos, zero, suc, ◌+◌, List, [], ◌∷◌, ◌++◌, length, take, drop, flat_map, Option, Some, None, Bool, true, false, refl, sym, ap, ◌∙◌, subst, arith, length-append}
use Rattle.std.specs.Prelude.{slice_get, slice_set, remove, ◌==◌, nat_lt, IsSomeAnd, if◌then◌else◌}
use Rattle.std.specs.List.{AllByRecursion}
use Rattle.std.proofs.lemmas.Bool.Decides.{nat_tests}
use Rattle.std.proofs.lemmas.List.{length-set, length-replicate}
use Rattle.cap_lin.specs.Linear.{Linear, number, plus, IsBelow}
use Rattle.cap_lin.specs.declared.row.Sort.TheVariants.{Int}
use Rattle.cap_lin.specs.declared.row.Op.TheVariants.{Eq as Equal, Ne as Unequal, Ge as AtLeast}
use Rattle.cap_fm_spec.proofs.Lists.{each-join, each-left, each-right, each-map}
use Rattle.cap_prog.specs.declared.assertion.Comp.{Comp}
use Rattle.cap_prog.specs.Program.{PlainAssertion, Label, PlainAct, set, read, write, cas, faa, dispose, alloc, call, fork, branch, loop, check, give_back, Block, first, append, PlainFunction, PlainCase, PlainRegionType, PlainProgram}
use Rattle.cap_prog.specs.Parts.{all_items, block_statements, all_statements}
use Rattle.cap_prog.specs.Scopes.{Scope, hidden, fixed_start, requires_scope, ensures_scope, invariant_scope}
use Rattle.cap_prog.specs.WellFormed.{ActFits, IsClosingReturn, FunctionFits, CaseFits, RegionFits, IsWellFormed}
use Rattle.cap_goal_spec.specs.Terms.{variables_from}
use Rattle.cap_goal_spec.specs.States.{PlainFact, PlainEnv, PlainState, Home, PlainTask, to_run, to_give, to_take, to_rest, goals_of}
use Rattle.cap_goal_spec.specs.Choices.{PlainChoice, by_clash, by_set, by_alloc, by_assert, by_if, by_loop, by_turn, by_call, by_fork, by_return, by_enter, by_act}
use Rattle.cap_goal_spec.specs.Environments.{zero_value, one_value, bound, unbound, callee_env, own_env}
use Rattle.cap_goal_spec.specs.Fits.{NameIsBelow, KnownFactFits, StateFits, RunFits, ItemsFitEnv, TaskFits, WaitingFits}
use Rattle.cap_rules.specs.Attempts.{Attempt, unit, ◌>>=◌, found, need, prove, comparison_row}
use Rattle.cap_rules.specs.Making.{is_empty, opposite, sum, value_here, row_here, prove_equal, prove_differ, fresh, with_sort, with_row, with_comparison, with_local, with_destination, with_cell, with_env}
use Rattle.cap_rules.specs.Closing.{address_of, of_type, prove_other, with_opened, case_names, in_case, case_goals, Rival, rivals_from, rivals, loosened, with_mark, with_marks, with_content, acted, closing}
use Rattle.cap_rules.specs.Rules.{leaves, branches, called, own_params, with_new_cells, at_clash, at_alloc, at_enter, at_act, at_statement, at_turn}
use Rattle.cap_rules_ascending.proofs.Lists.{IfSome, all-join, all-remove, all-set, all-take, all-drop}
use Rattle.cap_rules_fits.specs.Kept.{ChecksNoMove}
use Rattle.cap_rules_fits.proofs.Wider.{get-append, some-weaker, item-wider}
use Rattle.cap_rules_fits.proofs.Below.{number-below, variables-below, bound-below, unbound-below, variables-length, bound-length}
use Rattle.cap_rules_fits.proofs.Loops.{Fit, ends-before, ends-behind, fit-append}
use Rattle.cap_rules_fits.proofs.Functions.{env-parts, requires-length, ensures-length, invariant-length}
use Rattle.cap_rules_fits.proofs.Cases.{each-get}
use Rattle.cap_rules_fits.proofs.Values.{EnvBelow, wider-below, wider-env, plus-is-below, region-env-below}
use Rattle.cap_rules_fits.proofs.Growing.{CellBelow, cells-below, with-cells-fit, with-facts-fit, with-before-fits, with-opened-fit, GuardsFit, guards-fit, wider-fact, envs-same, Grows, Next, here, further}
use Rattle.cap_rules_fits.proofs.Makings.{count, zero-below, one-below, here-fits, values-fit, row-here-fits, determined-fits, rows-by-fit, with-sort-fits, fresh-below, later-term, later-facts, with-row-fits, with-rows-next, with-sorts-next, with-comparison-fits, local-fits, destination-fits, with-cell-fits, HasEnv, with-env-fits, on}
use Rattle.cap_rules_fits.proofs.Quiet.{IsQuiet, sort-alike, sorts-alike, rows-alike, comparison-alike, both}
use Rattle.cap_rules_fits.proofs.Reaching.{Reaches, chain, at, nowhere, at-computed, any, needed, there}
use Rattle.cap_rules_fits.proofs.Waiting.{run-stays, no-moves-stay, no-moves-first, AreKept, goals-kept, leaves-kept}
use Rattle.cap_rules_fits.proofs.AtItems.{region-env-length, case-items, some-of}

-- statements are to be run, and the tasks behind them check no move
pub record Running (p : PlainProgram) (s : PlainState) (home : Home) (b : Block) (ts : List PlainTask) : Type 0 where
  pub fits : StateFits p s
  pub run : IsSomeAnd (slice_get p.functions home.function) (RunFits p s home b)
  pub waiting : AllByRecursion (WaitingFits p s) ts
  pub calm : AllByRecursion ChecksNoMove ts

-- ---- what is left of the statements

rest-fits : (p : PlainProgram) (s : PlainState) (home : Home) (l : Label) (a : PlainAct) (rest : Block) (f : PlainFunction) → (IsClosingReturn a → ⊥) → RunFits p s home (first l a rest) f → RunFits p s home rest f
rest-fits p s home l a rest f n h = record { store = h.store; fixed = h.fixed; statements = each-right _ (block_statements a) (all_statements rest) h.statements.1; closing = ends-behind l a rest n h.closing }

before-fits : (p : PlainProgram) (s : PlainState) (home : Home) (a rest : Block) (f : PlainFunction) → Fit p f (all_statements a) → RunFits p s home rest f → RunFits p s home (append a rest) f
before-fits p s home a rest f b h = record { store = h.store; fixed = h.fixed; statements = fit-append p f a rest b h.statements; closing = ends-before a rest h.closing }

run-in : (p : PlainProgram) (s t : PlainState) (home : Home) (b c : Block) → Grows s t → ((f : PlainFunction) → RunFits p s home b f → RunFits p s home c f) → IsSomeAnd (slice_get p.functions home.function) (RunFits p s home b) → TaskFits p t (to_run home c)
run-in p s t home b c g k h = some-weaker (slice_get p.functions home.function) _ _ (λ f i. run-stays p s t home c f g (k f i)) h

-- the statements go on in a state that has grown
goes-on : (p : PlainProgram) (s t : PlainState) (home : Home) (l : Label) (a : PlainAct) (rest : Block) (ts : List PlainTask) → Running p s home (first l a rest) ts → (IsClosingReturn a → ⊥) → Next p s t → Reaches (AreKept p) (leaves t (to_run home rest ∷ ts))
goes-on p s t home l a rest ts h n k =
    leaves-kept p t (to_run home rest ∷ ts) k.fits
    (run-in p s t home (first l a rest) rest k.grows (λ f i. rest-fits p s home l a rest f n i) h.run, no-moves-stay p s t ts k.grows h.calm h.waiting) h.calm

-- two subgoals, of a comparison and of its opposite
branches-kept : (p : PlainProgram) (s : PlainState) (c : Comp) (xs ys : List PlainTask) → StateFits p s → AllByRecursion (WaitingFits p s) xs → AllByRecursion (WaitingFits p s) ys → AllByRecursion ChecksNoMove xs → AllByRecursion ChecksNoMove ys → Reaches (AreKept p) (branches s c xs ys)
branches-kept p s c xs ys h wx wy cx cy =
    chain (row_here s c.op c) (λ q. with_row s q >>= λ s'. row_here s (opposite c.op) c >>= λ r. with_row s r >>= λ s''. unit (goals_of s' xs ++ goals_of s'' ys)) (row-here-fits p s c.op c h)
    (λ q i. chain _ _ (with-row-fits p s q h i)
    (λ t j. chain (row_here s (opposite c.op) c) (λ r. with_row s r >>= λ s''. unit (goals_of t xs ++ goals_of s'' ys)) (row-here-fits p s (opposite c.op) c h)
    (λ r k. chain _ _ (with-row-fits p s r h k)
    (λ u l. at (AreKept p) (goals_of t xs ++ goals_of u ys) (each-join _ (goals_of t xs) (goals_of u ys)
    (goals-kept p t xs j.fits (no-moves-stay p s t xs j.grows cx wx) (no-moves-first xs cx))
    (goals-kept p u ys l.fits (no-moves-stay p s u ys l.grows cy wy) (no-moves-first ys cy)))))))

-- ---- calls

called-fits : (p : PlainProgram) (s : PlainState) (f : PlainFunction) (args : List Linear) (x : Option ℕ) → StateFits p s → Reaches (λ t. Next p s t × IsSomeAnd (slice_get t.envs (length s.envs)) (λ env. length env ≡ length args + (f.locals + length f.fixed + suc (length f.ensures.names)))) (called s f args x)
called-fits p s f args x h =
    chain _ _ (values-fit p s args h)
    (λ us i. chain _ _ (both (with-sort-fits p s Int h) (sort-alike (λ (s : PlainState). s.envs) s Int (record { sorts = λ s x. refl; rows = λ s x. refl })))
    (λ t j.
    let name = fresh-below p s t j.0 in
    let stored = destination-fits p t x (fresh s) j.0.next.fits name in
    let u : PlainState = with_destination t x (fresh s) in
    let same : u.envs ≡ s.envs = same-envs t x ∙ j.1 in
    let wide = later-term p t u (fresh s) stored name in
    let at-u = further p s t u j.0.next stored in
    let values = each-map _ _ us i.each (λ v k. wider-below (count s) (count u) v at-u.grows.sorts k) in
    ending u us i.size at-u same (with-env-fits p u (callee_env f us (fresh s)) stored.fits (all-join (NameIsBelow (count u)) (bound us) _ (bound-below (count u) us values) (all-join (NameIsBelow (count u)) (unbound (f.locals + length f.fixed)) _ (unbound-below (count u) (f.locals + length f.fixed)) (wide, unbound-below (count u) (length f.ensures.names)))))))
  where
    same-envs : (t : PlainState) (x : Option ℕ) → (with_destination t x (fresh s)).envs ≡ t.envs
    same-envs t None = refl
    same-envs t (Some y) = refl

    size : (us : List Linear) → length us ≡ length args → length (callee_env f us (fresh s)) ≡ length args + (f.locals + length f.fixed + suc (length f.ensures.names))
    size us e =
        let a = length-append (bound us) (unbound (f.locals + length f.fixed) ++ Some (fresh s) ∷ unbound (length f.ensures.names)) in
        let b = length-append (unbound (f.locals + length f.fixed)) (Some (fresh s) ∷ unbound (length f.ensures.names)) in
        let c : length (unbound (f.locals + length f.fixed)) ≡ f.locals + length f.fixed = length-replicate (f.locals + length f.fixed) None in
        let d : length (unbound (length f.ensures.names)) ≡ length f.ensures.names = length-replicate (length f.ensures.names) None in
        let g = bound-length us in
        omega arith

    ending : (u : PlainState) (us : List Linear) → length us ≡ length args → Next p s u → u.envs ≡ s.envs → {o : Attempt PlainState} → Reaches (HasEnv p u (callee_env f us (fresh s))) o → Reaches (λ t. Next p s t × IsSomeAnd (slice_get t.envs (length s.envs)) (λ env. length env ≡ length args + (f.locals + length f.fixed + suc (length f.ensures.names)))) o
    ending u us e n q {o = o} r = record { value = by o.value r.value }
      where
        by : (v : Option PlainState) → IfSome (HasEnv p u (callee_env f us (fresh s))) v → IfSome (λ t. Next p s t × IsSomeAnd (slice_get t.envs (length s.envs)) (λ env. length env ≡ length args + (f.locals + length f.fixed + suc (length f.ensures.names)))) v
        by None i = tt
        by (Some t) i = (further p s u t n i.next, some-of _ (slice_get t.envs (length s.envs)) (callee_env f us (fresh s)) (ap (λ envs. slice_get t.envs (length envs)) (sym q) ∙ i.last) (size us e))

-- the assertions of the callee, over the names of its environment
requires-callee : (p : PlainProgram) (f : PlainFunction) (env : PlainEnv) → FunctionFits p f → length env ≡ f.params + (f.locals + length f.fixed + suc (length f.ensures.names)) → ItemsFitEnv p env f.requires
requires-callee p f env h e =
    let more : Scope = hidden (suc (length f.ensures.names)) in
    record {
      scope = requires_scope f ++ more;
      names = (let a = requires-length f in let b : length more ≡ suc (length f.ensures.names) = length-replicate (suc (length f.ensures.names)) None in let c = length-append (requires_scope f) more in omega arith);
      each = each-map _ _ (all_items f.requires) h.requires.items (λ i k. item-wider p (requires_scope f) (requires_scope f ++ more) (λ s x q. get-append (requires_scope f) more x (Some s) q) i k);
    }

ensures-callee : (p : PlainProgram) (f : PlainFunction) (env : PlainEnv) → FunctionFits p f → length env ≡ f.params + (f.locals + length f.fixed + suc (length f.ensures.names)) → ItemsFitEnv p env f.ensures.items
ensures-callee p f env h e = record { scope = ensures_scope f f.ensures.names; names = (let a = ensures-length f f.ensures.names in omega arith); each = h.ensures.items.items }

pub of-some : {A : Type 0} (P : A → Type 0) (o : Option A) (x : A) → o ≡ Some x → IsSomeAnd o P → P x
of-some P None x e h = absurd h
of-some P (Some y) x e h = subst P (let f : y ≡ x = cc in f) h

-- the first statement fits some function
head-act : (p : PlainProgram) (s : PlainState) (home : Home) (l : Label) (a : PlainAct) (rest : Block) (o : Option PlainFunction) → IsSomeAnd o (RunFits p s home (first l a rest)) → (f : PlainFunction) × ActFits p f a
head-act p s home l a rest None h = absurd h
head-act p s home l a rest (Some f) h = (f, h.statements.0)

-- with as many arguments as it has parameters, the callee's assertions fit
record Calls (p : PlainProgram) (f : PlainFunction) (env : PlainEnv) : Type 0 where
  requires : ItemsFitEnv p env f.requires
  ensures : ItemsFitEnv p env f.ensures.items

callee-fits : (p : PlainProgram) (f : PlainFunction) (args : List Linear) (o : Option PlainEnv) → FunctionFits p f → length args ≡ f.params → IsSomeAnd o (λ env. length env ≡ length args + (f.locals + length f.fixed + suc (length f.ensures.names))) → IsSomeAnd o (Calls p f)
callee-fits p f args o h e k = some-weaker o _ _ (λ env i. let size : length env ≡ f.params + (f.locals + length f.fixed + suc (length f.ensures.names)) = (let a = e in omega arith) in record { requires = requires-callee p f env h size; ensures = ensures-callee p f env h size }) k

call-kept : (p : PlainProgram) (s : PlainState) (home : Home) (l : Label) (x : Option ℕ) (n : ℕ) (args : List Linear) (rest : Block) (ts : List PlainTask) → IsWellFormed p → Running p s home (first l (call x n args) rest) ts → Reaches (AreKept p) (found (slice_get p.functions n) >>= λ f. called s f args x >>= λ s'. leaves s' (to_take f.requires (length s.envs) 3 l.number ∷ to_rest 0 l.number ∷ to_give f.ensures.items (length s.envs) l.number ∷ to_run home rest ∷ ts))
call-kept p s home l x n args rest ts formed h =
    let act = head-act p s home l (call x n args) rest (slice_get p.functions home.function) h.run in
    chain _ _ (there (slice_get p.functions n))
    (λ f e. chain _ _ (called-fits p s f args x h.fits)
    (λ t i.
    let calls = callee-fits p f args (slice_get t.envs (length s.envs)) (each-get (FunctionFits p) p.functions n f formed.functions e) (of-some (λ g. length args ≡ g.params) (slice_get p.functions n) f e act.1.1.arity) i.1 in
    leaves-kept p t (to_take f.requires (length s.envs) 3 l.number ∷ to_rest 0 l.number ∷ to_give f.ensures.items (length s.envs) l.number ∷ to_run home rest ∷ ts) i.0.fits (
      some-weaker (slice_get t.envs (length s.envs)) _ _ (λ env j. j.requires) calls,
      (
        refl,
        (
          some-weaker (slice_get t.envs (length s.envs)) _ _ (λ env j. j.ensures) calls,
          (run-in p s t home (first l (call x n args) rest) rest i.0.grows (λ f j. rest-fits p s home l (call x n args) rest f (λ z. z) j) h.run, no-moves-stay p s t ts i.0.grows h.calm h.waiting),
        ),
      ),
    )
    (tt, (tt, h.calm))))

fork-kept : (p : PlainProgram) (s : PlainState) (home : Home) (l : Label) (n : ℕ) (args : List Linear) (rest : Block) (ts : List PlainTask) → IsWellFormed p → Running p s home (first l (fork n args) rest) ts → Reaches (AreKept p) (found (slice_get p.functions n) >>= λ f. called s f args None >>= λ s'. leaves s' (to_take f.requires (length s.envs) 3 l.number ∷ to_rest 0 l.number ∷ to_run home rest ∷ ts))
fork-kept p s home l n args rest ts formed h =
    let act = head-act p s home l (fork n args) rest (slice_get p.functions home.function) h.run in
    chain _ _ (there (slice_get p.functions n))
    (λ f e. chain _ _ (called-fits p s f args None h.fits)
    (λ t i.
    let calls = callee-fits p f args (slice_get t.envs (length s.envs)) (each-get (FunctionFits p) p.functions n f formed.functions e) (of-some (λ g. length args ≡ g.params) (slice_get p.functions n) f e act.1.arity) i.1 in
    leaves-kept p t (to_take f.requires (length s.envs) 3 l.number ∷ to_rest 0 l.number ∷ to_run home rest ∷ ts) i.0.fits (
      some-weaker (slice_get t.envs (length s.envs)) _ _ (λ env j. j.requires) calls,
      (
        refl,
        (run-in p s t home (first l (fork n args) rest) rest i.0.grows (λ f j. rest-fits p s home l (fork n args) rest f (λ z. z) j) h.run, no-moves-stay p s t ts i.0.grows h.calm h.waiting),
      ),
    )
    (tt, h.calm)))

-- ---- what is given up by the function itself

take-length : {A : Type 0} (n : ℕ) (xs : List A) → n ≤ length xs → length (take n xs) ≡ n
take-length zero xs h = refl
take-length (suc n) [] h = absurd (let k : suc n ≤ 0 = h in omega arith)
take-length (suc n) (x ∷ xs) h = ap suc (take-length n xs (omega arith))

drop-length : {A : Type 0} (n : ℕ) (xs : List A) → n ≤ length xs → length xs ≡ n + length (drop n xs)
drop-length zero xs h = omega arith
drop-length (suc n) [] h = absurd (let k : suc n ≤ 0 = h in omega arith)
drop-length (suc n) (x ∷ xs) h = let k = drop-length n xs (omega arith) in omega arith

own-below : (p : PlainProgram) (s : PlainState) (home : Home) (b : Block) (f : PlainFunction) (locals : PlainEnv) (r : Option Linear) (new : ℕ) → StateFits p s → RunFits p s home b f → EnvBelow (count s) locals → NameIsBelow (count s) r → EnvBelow (count s) (own_env f home (own_params s f) locals r new)
own-below p s home b f locals r new h k g e =
    let fixed = k.fixed in
    all-join (NameIsBelow (count s)) (bound (own_params s f)) _ (bound-below (count s) (own_params s f) (all-take (IsBelow (count s)) f.params s.store h.store))
    (all-join (NameIsBelow (count s)) locals _ g
    (all-join (NameIsBelow (count s)) (bound (variables_from home.fixed (length f.fixed))) _ (bound-below (count s) _ (variables-below (count s) home.fixed (length f.fixed) fixed)) (e, unbound-below (count s) new)))

own-length : (p : PlainProgram) (s : PlainState) (home : Home) (b : Block) (f : PlainFunction) (locals : PlainEnv) (r : Option Linear) (new : ℕ) → RunFits p s home b f → length locals ≡ f.locals → length (own_env f home (own_params s f) locals r new) ≡ fixed_start f + (length f.fixed + suc new)
own-length p s home b f locals r new k e =
    let store = k.store in
    let whole = env-parts (bound (own_params s f)) locals (bound (variables_from home.fixed (length f.fixed))) r new in
    let a : length (bound (own_params s f)) ≡ f.params = bound-length (own_params s f) ∙ take-length f.params s.store (omega arith) in
    let c : length (bound (variables_from home.fixed (length f.fixed))) ≡ length f.fixed = bound-length (variables_from home.fixed (length f.fixed)) ∙ variables-length home.fixed (length f.fixed) in
    omega arith

loop-kept : (p : PlainProgram) (s : PlainState) (home : Home) (l : Label) (c : Comp) (i : PlainAssertion) (a rest : Block) (ts : List PlainTask) → Running p s home (first l (loop c i a) rest) ts → Reaches (AreKept p) (found (slice_get p.functions home.function) >>= λ f. with_env s (own_env f home (own_params s f) (bound (drop f.params s.store)) None (length i.names)) >>= λ s'. leaves s' (to_take i.items (length s.envs) 3 l.number ∷ []))
loop-kept p s home l c i a rest ts h =
    chain _ _ (there (slice_get p.functions home.function))
    (λ f e.
    let run : RunFits p s home (first l (loop c i a) rest) f = of-some (RunFits p s home (first l (loop c i a) rest)) (slice_get p.functions home.function) f e h.run in
    let store : length s.store ≡ fixed_start f = run.store in
    let locals : length (bound (drop f.params s.store)) ≡ f.locals = bound-length (drop f.params s.store) ∙ (let d = drop-length f.params s.store (omega arith) in omega arith) in
    let size = own-length p s home (first l (loop c i a) rest) f (bound (drop f.params s.store)) None (length i.names) run locals in
    chain _ _ (with-env-fits p s (own_env f home (own_params s f) (bound (drop f.params s.store)) None (length i.names)) h.fits (own-below p s home (first l (loop c i a) rest) f (bound (drop f.params s.store)) None (length i.names) h.fits run (bound-below (count s) (drop f.params s.store) (all-drop (IsBelow (count s)) f.params s.store h.fits.store)) tt))
    (λ t j. leaves-kept p t (to_take i.items (length s.envs) 3 l.number ∷ []) j.next.fits
    (some-of (λ env. ItemsFitEnv p env i.items) (slice_get t.envs (length s.envs)) _ j.last (record { scope = invariant_scope f i.names; names = invariant-length f i.names ∙ sym size; each = run.statements.0.1.items.items }), tt) tt))

return-kept : (p : PlainProgram) (s : PlainState) (home : Home) (l : Label) (v : Linear) (rest : Block) (ts : List PlainTask) → IsWellFormed p → Running p s home (first l (give_back v) rest) ts → Reaches (AreKept p) (found (slice_get p.functions home.function) >>= λ f. value_here s v >>= λ u. with_env s (own_env f home (own_params s f) (unbound f.locals) (Some u) (length f.ensures.names)) >>= λ s'. leaves s' (to_take f.ensures.items (length s.envs) 3 l.number ∷ []))
return-kept p s home l v rest ts formed h =
    chain _ _ (there (slice_get p.functions home.function))
    (λ f e.
    let run : RunFits p s home (first l (give_back v) rest) f = of-some (RunFits p s home (first l (give_back v) rest)) (slice_get p.functions home.function) f e h.run in
    let fits : FunctionFits p f = each-get (FunctionFits p) p.functions home.function f formed.functions e in
    let locals : length (unbound f.locals) ≡ f.locals = length-replicate f.locals None in
    chain (value_here s v) (λ u. with_env s (own_env f home (own_params s f) (unbound f.locals) (Some u) (length f.ensures.names)) >>= λ s'. leaves s' (to_take f.ensures.items (length s.envs) 3 l.number ∷ [])) (here-fits p s v h.fits)
    (λ u k.
    let size = own-length p s home (first l (give_back v) rest) f (unbound f.locals) (Some u) (length f.ensures.names) run locals in
    chain _ _ (with-env-fits p s (own_env f home (own_params s f) (unbound f.locals) (Some u) (length f.ensures.names)) h.fits (own-below p s home (first l (give_back v) rest) f (unbound f.locals) (Some u) (length f.ensures.names) h.fits run (unbound-below (count s) f.locals) k))
    (λ t j. leaves-kept p t (to_take f.ensures.items (length s.envs) 3 l.number ∷ []) j.next.fits
    (some-of (λ env. ItemsFitEnv p env f.ensures.items) (slice_get t.envs (length s.envs)) _ j.last (record { scope = ensures_scope f f.ensures.names; names = ensures-length f f.ensures.names ∙ sym size; each = fits.ensures.items.items }), tt) tt)))

-- ---- statements by themselves

set-kept : (p : PlainProgram) (s : PlainState) (home : Home) (l : Label) (x : ℕ) (v : Linear) (rest : Block) (ts : List PlainTask) → Running p s home (first l (set x v) rest) ts → Reaches (AreKept p) (value_here s v >>= λ u. leaves (with_local s x u) (to_run home rest ∷ ts))
set-kept p s home l x v rest ts h = chain (value_here s v) (λ u. leaves (with_local s x u) (to_run home rest ∷ ts)) (here-fits p s v h.fits) (λ u i. goes-on p s (with_local s x u) home l (set x v) rest ts h (λ z. z) (local-fits p s x u h.fits i))

assert-kept : (p : PlainProgram) (s : PlainState) (home : Home) (l : Label) (c : Comp) (rest : Block) (ts : List PlainTask) → Running p s home (first l (check c) rest) ts → Reaches (AreKept p) (row_here s c.op c >>= λ q. prove s.rows q >>= λ u. leaves s (to_run home rest ∷ ts))
assert-kept p s home l c rest ts h = chain (row_here s c.op c) (λ q. prove s.rows q >>= λ u. leaves s (to_run home rest ∷ ts)) (any (row_here s c.op c)) (λ q i. chain (prove s.rows q) (λ u. leaves s (to_run home rest ∷ ts)) (any (prove s.rows q)) (λ u j. goes-on p s s home l (check c) rest ts h (λ z. z) (here p s h.fits)))

new-cells-fit : (p : PlainProgram) (s : PlainState) (b : Linear) (i n : ℕ) → StateFits p s → IsBelow (count s) b → Reaches (Next p s) (with_new_cells s b i n)
new-cells-fit p s b i zero h k = at (Next p s) s (here p s h)
new-cells-fit p s b i (suc n) h k =
    chain (sum b (number (pos i))) (λ a. with_cell s a zero_value >>= λ s'. with_new_cells s' b (suc i) n) (at-computed (IsBelow (count s)) (plus b (number (pos i))) _ (plus-is-below (count s) b (number (pos i)) k (number-below (count s) (pos i))))
    (λ a j. chain _ _ (with-cell-fits p s a zero_value h j (zero-below (count s))) (λ t l. on l (new-cells-fit p t b (suc i) n l.fits (later-term p s t b l k))))

alloc-kept : (p : PlainProgram) (s : PlainState) (home : Home) (l : Label) (x n : ℕ) (rest : Block) (ts : List PlainTask) → Running p s home (first l (alloc x n) rest) ts → Reaches (AreKept p) (at_alloc s x n (to_run home rest ∷ ts))
alloc-kept p s home l x n rest ts h =
    chain _ _ (with-sort-fits p s Int h.fits)
    (λ t i. chain _ _ (with-comparison-fits p t (fresh s) AtLeast one_value Int i.next.fits (fresh-below p s t i) (one-below (count t)))
    (λ u j.
    let name = later-term p t u (fresh s) j (fresh-below p s t i) in
    chain _ _ (new-cells-fit p u (fresh s) 0 n j.fits name)
    (λ v k.
    let at-v = further p s u v (further p s t u i.next j) k in
    let w = local-fits p v x (fresh s) k.fits (later-term p u v (fresh s) k name) in
    goes-on p s (with_local v x (fresh s)) home l (alloc x n) rest ts h (λ z. z) (further p s v (with_local v x (fresh s)) at-v w))))

clash-kept : (p : PlainProgram) (s : PlainState) (i j : ℕ) (a : PlainAct) → Reaches (AreKept p) (at_clash s i j a)
clash-kept p s i j a =
    chain _ _ (any (found (address_of a)))
    (λ x b. chain _ _ (any (need (nat_lt i j)))
    (λ u c. chain _ _ (any (found (slice_get s.cells i)))
    (λ v d. chain _ _ (any (found (slice_get s.cells j)))
    (λ w e. chain (prove_equal s v.0 w.0) (λ z. unit []) (any (prove_equal s v.0 w.0)) (λ z f. at (AreKept p) [] tt)))))

if-kept : (p : PlainProgram) (s : PlainState) (home : Home) (l : Label) (c : Comp) (a b rest : Block) (ts : List PlainTask) → Running p s home (first l (branch c a b) rest) ts → Reaches (AreKept p) (branches s c (to_run home (append a rest) ∷ ts) (to_run home (append b rest) ∷ ts))
if-kept p s home l c a b rest ts h =
    branches-kept p s c (to_run home (append a rest) ∷ ts) (to_run home (append b rest) ∷ ts) h.fits
    (some-weaker (slice_get p.functions home.function) _ _ (λ f i. before-fits p s home a rest f (each-left _ (all_statements a) (all_statements b) (each-left _ (all_statements a ++ all_statements b) (all_statements rest) i.statements.1)) (rest-fits p s home l (branch c a b) rest f (λ z. z) i)) h.run, h.waiting)
    (some-weaker (slice_get p.functions home.function) _ _ (λ f i. before-fits p s home b rest f (each-right _ (all_statements a) (all_statements b) (each-left _ (all_statements a ++ all_statements b) (all_statements rest) i.statements.1)) (rest-fits p s home l (branch c a b) rest f (λ z. z) i)) h.run, h.waiting)
    (tt, h.calm) (tt, h.calm)

pub turn-kept : (p : PlainProgram) (s : PlainState) (ch : PlainChoice) (home : Home) (l : Label) (a : PlainAct) (rest : Block) (ts : List PlainTask) → Running p s home (first l a rest) ts → Reaches (AreKept p) (at_turn s ch home l a rest ts)
turn-kept p s by_turn home l (loop c i a) rest ts h =
    branches-kept p s c (to_run home (append a (first l (loop c i a) rest)) ∷ ts) (to_run home rest ∷ ts) h.fits
    (some-weaker (slice_get p.functions home.function) _ _ (λ f j. before-fits p s home a (first l (loop c i a) rest) f (each-left _ (all_statements a) (all_statements rest) j.statements.1) j) h.run, h.waiting)
    (some-weaker (slice_get p.functions home.function) _ _ (λ f j. rest-fits p s home l (loop c i a) rest f (λ z. z) j) h.run, h.waiting)
    (tt, h.calm) (tt, h.calm)
turn-kept p s ch home l a rest ts h = nowhere (AreKept p)

-- ---- opening

others-any : (p : PlainProgram) (s : PlainState) (i : ℕ) (f : PlainFact) → nat_lt (length s.opened) 2 ≡ true → StateFits p s → KnownFactFits p (count s) f → StateFits p (with_opened s i f)
others-any p s i f two h k =
    let less = below-two (length s.opened) two in
    let size = length-append s.opened (f ∷ []) in
    let first : StateFits p (record s { before = if is_empty s.opened then s.guards else s.before }) = with-before-fits p s (if is_empty s.opened then s.guards else s.before) h (by_test (is_empty s.opened)) in
    let second = with-facts-fit p (record s { before = if is_empty s.opened then s.guards else s.before }) (remove s.facts i) first (all-remove (KnownFactFits p (count s)) s.facts i h.facts) (let l = remove-length s.facts i in let m = h.room.facts in omega arith) in
    with-opened-fit p (record s { before = if is_empty s.opened then s.guards else s.before; facts = remove s.facts i }) (s.opened ++ f ∷ []) second (all-join (KnownFactFits p (count s)) s.opened (f ∷ []) h.opened (k, tt)) (omega arith)
  where
    below-two : (n : ℕ) → nat_lt n 2 ≡ true → n ≤ 1
    below-two n e = grind (arith, nat_tests)

    by_test : (b : Bool) → GuardsFit p (count s) (if b then s.guards else s.before)
    by_test true = guards-fit p s h
    by_test false = record { each = h.before; parted = h.before_parted; room = h.room.before }

    take-most : {A : Type 0} (n : ℕ) (xs : List A) → length (take n xs ++ drop (suc n) xs) ≤ length xs
    take-most zero [] = omega arith
    take-most (suc n) [] = omega arith
    take-most zero (x ∷ xs) = omega arith
    take-most (suc n) (x ∷ xs) = let k = take-most n xs in omega arith

    remove-length : {A : Type 0} (xs : List A) (i : ℕ) → length (remove xs i) ≤ length xs
    remove-length xs i = take-most i xs

-- a state in a case, with the environment of its names
record InCase (p : PlainProgram) (s : PlainState) (env : PlainEnv) (t : PlainState) : Type 0 where
  next : Next p s t
  last : slice_get t.envs (length s.envs) ≡ Some env

quiet-envs : IsQuiet (λ (s : PlainState). s.envs)
quiet-envs = record { sorts = λ s x. refl; rows = λ s x. refl }

in-case-fits : (p : PlainProgram) (s : PlainState) (f : PlainFact) (c : PlainCase) → StateFits p s → KnownFactFits p (count s) f → Reaches (InCase p s (case_names s f c)) (in_case s f c)
in-case-fits p s f c h k =
    chain _ _ (both (with-sorts-next p s c.names h) (sorts-alike (λ (s : PlainState). s.envs) s c.names quiet-envs))
    (λ t i.
    let n = i.0.0 in
    let size : count t ≡ count s + length c.names = i.0.1 in
    let region = wider-below (count s) (count t) f.region n.grows.sorts k.region in
    let args = each-map _ _ f.args k.args (λ u j. wider-below (count s) (count t) u n.grows.sorts j) in
    let env : EnvBelow (count t) (case_names s f c) = region-env-below (count t) f (bound (variables_from (count s) (length c.names))) region args (bound-below (count t) (variables_from (count s) (length c.names)) (variables-below (count t) (count s) (length c.names) (omega arith))) in
    chain _ _ (determined-fits (count t) (case_names s f c) c.state env)
    (λ u j. chain _ _ (both (with-comparison-fits p t f.state Equal u Int n.fits (wider-below (count s) (count t) f.state n.grows.sorts k.state) j) (comparison-alike (λ (s : PlainState). s.envs) t f.state Equal u Int quiet-envs))
    (λ v l.
    let env-v = wider-env (count t) (count v) (case_names s f c) l.0.grows.sorts env in
    chain _ _ (rows-by-fit (count v) (case_names s f c) c.when env-v)
    (λ rows m. chain _ _ (both (with-rows-next p v rows l.0.fits m) (rows-alike (λ (s : PlainState). s.envs) v rows quiet-envs))
    (λ w o.
    let at-w = further p s t w n (further p t v w l.0 o.0) in
    let same : w.envs ≡ s.envs = o.1 ∙ (l.1 ∙ i.1) in
    ending w at-w same (with-env-fits p w (case_names s f c) o.0.fits (wider-env (count v) (count w) (case_names s f c) o.0.grows.sorts env-v)))))))
  where
    ending : (w : PlainState) → Next p s w → w.envs ≡ s.envs → {o : Attempt PlainState} → Reaches (HasEnv p w (case_names s f c)) o → Reaches (InCase p s (case_names s f c)) o
    ending w n q {o = o} r = record { value = by o.value r.value }
      where
        by : (v : Option PlainState) → IfSome (HasEnv p w (case_names s f c)) v → IfSome (InCase p s (case_names s f c)) v
        by None i = tt
        by (Some t) i = record { next = further p s w t n i.next; last = ap (λ envs. slice_get t.envs (length envs)) (sym q) ∙ i.last }

case-goals-kept : (p : PlainProgram) (s : PlainState) (f : PlainFact) (k : PlainRegionType) (n : ℕ) (ts : List PlainTask) (cs : List PlainCase) → StateFits p s → KnownFactFits p (count s) f → k.params ≡ suc (length f.args) → AllByRecursion (CaseFits p k) cs → AllByRecursion ChecksNoMove ts → AllByRecursion (WaitingFits p s) ts → Reaches (AreKept p) (case_goals s f n ts cs)
case-goals-kept p s f k n ts [] h g size cases calm w = at (AreKept p) [] tt
case-goals-kept p s f k n ts (c ∷ cs) h g size cases calm w =
    chain _ _ (in-case-fits p s f c h g)
    (λ t i. chain _ _ (case-goals-kept p s f k n ts cs h g size cases.1 calm w)
    (λ more j. at (AreKept p) (goals_of t (to_give c.items (length s.envs) n ∷ ts) ++ more)
    (each-join _ (goals_of t (to_give c.items (length s.envs) n ∷ ts)) more
    (goals-kept p t (to_give c.items (length s.envs) n ∷ ts) i.next.fits
    (some-of (λ env. ItemsFitEnv p env c.items) (slice_get t.envs (length s.envs)) (case_names s f c) i.last (case-items p k c (case_names s f c) cases.0 (names-length c)), no-moves-stay p s t ts i.next.grows calm w)
    calm) j)))
  where
    names-length : (c : PlainCase) → length (case_names s f c) ≡ k.params + length c.names
    names-length c =
        let a = region-env-length f (bound (variables_from (count s) (length c.names))) in
        let b = bound-length (variables_from (count s) (length c.names)) in
        let d = variables-length (count s) (length c.names) in
        omega arith

enter-kept : (p : PlainProgram) (s : PlainState) (i : ℕ) (home : Home) (l : Label) (a : PlainAct) (rest : Block) (ts : List PlainTask) → IsWellFormed p → Running p s home (first l a rest) ts → Reaches (AreKept p) (at_enter p s i l a (to_run home (first l a rest) ∷ ts))
enter-kept p s i home l a rest ts formed h =
    chain _ _ (any (found (address_of a)))
    (λ x b. chain _ _ (needed (nat_lt (length s.opened) 2))
    (λ u two. chain _ _ (there (slice_get s.facts i))
    (λ f e. chain _ _ (there (slice_get p.regions f.kind))
    (λ k ek. chain _ _ (any (prove_other s f (of_type f.kind s.opened)))
    (λ v c.
    let fact = each-get (KnownFactFits p (count s)) s.facts i f h.fits.facts e in
    let type : RegionFits p k = each-get (RegionFits p) p.regions f.kind k formed.regions ek in
    let size : k.params ≡ suc (length f.args) = of-some (λ (k : PlainRegionType). k.params ≡ suc (length f.args)) (slice_get p.regions f.kind) k ek fact.arity in
    let grows : Grows s (with_opened s i f) = record { sorts = omega arith; store = refl; envs = envs-same s.envs } in
    case-goals-kept p (with_opened s i f) f k l.number (to_run home (first l a rest) ∷ ts) k.cases (others-any p s i f two h.fits fact) fact size type.cases (tt, h.calm)
    (run-in p s (with_opened s i f) home (first l a rest) (first l a rest) grows (λ g j. j) h.run, no-moves-stay p s (with_opened s i f) ts grows h.calm h.waiting))))))

-- ---- acting

rivals-fit : (p : PlainProgram) (s : PlainState) (o : PlainFact) (i : ℕ) (fs : List PlainFact) → AllByRecursion (KnownFactFits p (count s)) fs → AllByRecursion (λ x. KnownFactFits p (count s) x.fact) (rivals_from o i fs)
rivals-fit p s o i [] h = tt
rivals-fit p s o i (f ∷ fs) h = by_test (f.kind == o.kind) (rivals-fit p s o (suc i) fs h.1)
  where
    by_test : (b : Bool) → AllByRecursion (λ x. KnownFactFits p (count s) x.fact) (rivals_from o (suc i) fs) → AllByRecursion (λ x. KnownFactFits p (count s) x.fact) (if b then record { opened = o; number = i; fact = f } ∷ rivals_from o (suc i) fs else rivals_from o (suc i) fs)
    by_test true r = (h.0, r)
    by_test false r = r

all-rivals : (p : PlainProgram) (s : PlainState) (os : List PlainFact) → StateFits p s → AllByRecursion (λ x. KnownFactFits p (count s) x.fact) (flat_map (λ o. rivals_from o 0 s.facts) os)
all-rivals p s [] h = tt
all-rivals p s (o ∷ os) h = each-join _ (rivals_from o 0 s.facts) (flat_map (λ o. rivals_from o 0 s.facts) os) (rivals-fit p s o 0 s.facts h.facts) (all-rivals p s os h)

mark-fits : (p : PlainProgram) (s : PlainState) (x : Rival) (m : Bool) → StateFits p s → KnownFactFits p (count s) x.fact → Reaches (Next p s) (with_mark s x m)
mark-fits p s x true h k = chain (prove_differ s x.opened.region x.fact.region) (λ u. unit s) (any (prove_differ s x.opened.region x.fact.region)) (λ u i. at (Next p s) s (here p s h))
mark-fits p s x false h k =
    chain (comparison_row x.opened.region Unequal x.fact.region Int) (λ q. with_sort s Int >>= λ s'. unit (record s' { facts = slice_set s.facts x.number (loosened x.fact (fresh s)) })) (any (comparison_row x.opened.region Unequal x.fact.region Int))
    (λ q a. chain _ _ (with-sort-fits p s Int h)
    (λ t i.
    let name = fresh-below p s t i in
    let facts : List PlainFact = slice_set s.facts x.number (loosened x.fact (fresh s)) in
    let fact : KnownFactFits p (count t) (loosened x.fact (fresh s)) = record { region = wider-below (count s) (count t) x.fact.region i.next.grows.sorts k.region; arity = k.arity; args = each-map _ _ x.fact.args k.args (λ u j. wider-below (count s) (count t) u i.next.grows.sorts j); state = name } in
    let room = h.room.facts in
    let size = length-set s.facts x.number (loosened x.fact (fresh s)) in
    let fits = with-facts-fit p t facts i.next.fits (all-set (KnownFactFits p (count t)) s.facts x.number (loosened x.fact (fresh s)) (later-facts p s t s.facts i.next h.facts) fact) (omega arith) in
    at (Next p s) (record t { facts = facts }) (record { fits = fits; grows = record { sorts = i.next.grows.sorts; store = i.next.grows.store; envs = i.next.grows.envs }; opened = i.next.opened })))

marks-fit : (p : PlainProgram) (s : PlainState) (xs : List Rival) (ms : List Bool) → StateFits p s → AllByRecursion (λ x. KnownFactFits p (count s) x.fact) xs → Reaches (Next p s) (with_marks s xs ms)
marks-fit p s [] [] h k = at (Next p s) s (here p s h)
marks-fit p s [] (m ∷ ms) h k = nowhere (Next p s)
marks-fit p s (x ∷ xs) [] h k = nowhere (Next p s)
marks-fit p s (x ∷ xs) (m ∷ ms) h k = chain _ _ (mark-fits p s x m h k.0) (λ t i. on i (marks-fit p t xs ms i.fits (each-map _ _ xs k.1 (λ y j. wider-fact p (count s) (count t) y.fact i.grows.sorts j))))

content-fits : (p : PlainProgram) (s : PlainState) (j : ℕ) (c : Linear × Linear) (t : Linear) → StateFits p s → IsBelow (count s) c.0 → IsBelow (count s) t → Next p s (with_content s j c t)
content-fits p s j c t h k g =
    let size = length-set s.cells j (c.0, t) in
    let room = h.room.cells in
    record { fits = with-cells-fit p s (slice_set s.cells j (c.0, t)) h (all-set (CellBelow (count s)) s.cells j (c.0, t) (cells-below p s h) (record { address = k; content = g })) (omega arith); grows = record { sorts = omega arith; store = refl; envs = envs-same s.envs }; opened = refl }

fewer : {A : Type 0} (n : ℕ) (xs : List A) → length (take n xs ++ drop (suc n) xs) ≤ length xs
fewer zero [] = omega arith
fewer (suc n) [] = omega arith
fewer zero (x ∷ xs) = omega arith
fewer (suc n) (x ∷ xs) = let k = fewer n xs in omega arith

acted-fits : (p : PlainProgram) (s : PlainState) (j : ℕ) (c : Linear × Linear) (a : PlainAct) → StateFits p s → CellBelow (count s) c → Reaches (AllByRecursion (Next p s)) (acted s j c a)
acted-fits p s j c (read x a) h k = at (AllByRecursion (Next p s)) (with_local s x c.1 ∷ []) (local-fits p s x c.1 h k.content, tt)
acted-fits p s j c (write a t) h k = chain (value_here s t) (λ u. unit (with_content s j c u ∷ [])) (here-fits p s t h) (λ u i. at (AllByRecursion (Next p s)) (with_content s j c u ∷ []) (content-fits p s j c u h k.address i, tt))
acted-fits p s j c (cas x a old new) h k =
    chain (value_here s old) (λ e. with_comparison s c.1 Equal e Int >>= λ s'. value_here s new >>= λ u. with_comparison s c.1 Unequal e Int >>= λ s''. unit (with_local (with_content s' j c u) x one_value ∷ with_local s'' x zero_value ∷ [])) (here-fits p s old h)
    (λ e i. chain _ _ (with-comparison-fits p s c.1 Equal e Int h k.content i)
    (λ t l. chain (value_here s new) (λ u. with_comparison s c.1 Unequal e Int >>= λ s''. unit (with_local (with_content t j c u) x one_value ∷ with_local s'' x zero_value ∷ [])) (here-fits p s new h)
    (λ u m. chain _ _ (with-comparison-fits p s c.1 Unequal e Int h k.content i)
    (λ v n.
    let stored = content-fits p t j c u l.fits (later-term p s t c.0 l k.address) (later-term p s t u l m) in
    let done-t = local-fits p (with_content t j c u) x one_value stored.fits (one-below (count t)) in
    let done-v = local-fits p v x zero_value n.fits (zero-below (count v)) in
    at (AllByRecursion (Next p s)) (with_local (with_content t j c u) x one_value ∷ with_local v x zero_value ∷ [])
    (further p s t (with_local (with_content t j c u) x one_value) l (further p t (with_content t j c u) (with_local (with_content t j c u) x one_value) stored done-t), (further p s v (with_local v x zero_value) n done-v, tt))))))
acted-fits p s j c (faa x a t) h k =
    chain (value_here s t) (λ u. sum c.1 u >>= λ v. unit (with_local (with_content s j c v) x c.1 ∷ [])) (here-fits p s t h)
    (λ u i. chain (sum c.1 u) (λ v. unit (with_local (with_content s j c v) x c.1 ∷ [])) (at-computed (IsBelow (count s)) (plus c.1 u) _ (plus-is-below (count s) c.1 u k.content i))
    (λ v l.
    let stored = content-fits p s j c v h k.address l in
    at (AllByRecursion (Next p s)) (with_local (with_content s j c v) x c.1 ∷ []) (further p s (with_content s j c v) (with_local (with_content s j c v) x c.1) stored (local-fits p (with_content s j c v) x c.1 stored.fits k.content), tt)))
acted-fits p s j c (dispose a) h k =
    let less = fewer j s.cells in
    let room = h.room.cells in
    at (AllByRecursion (Next p s)) (record s { cells = remove s.cells j } ∷ []) (record { fits = with-cells-fit p s (remove s.cells j) h (all-remove (CellBelow (count s)) s.cells j (cells-below p s h)) (omega arith); grows = record { sorts = omega arith; store = refl; envs = envs-same s.envs }; opened = refl }, tt)
acted-fits p s j c (set x t) h k = nowhere (AllByRecursion (Next p s))
acted-fits p s j c (alloc x n) h k = nowhere (AllByRecursion (Next p s))
acted-fits p s j c (call x n args) h k = nowhere (AllByRecursion (Next p s))
acted-fits p s j c (fork n args) h k = nowhere (AllByRecursion (Next p s))
acted-fits p s j c (branch d a b) h k = nowhere (AllByRecursion (Next p s))
acted-fits p s j c (loop d i a) h k = nowhere (AllByRecursion (Next p s))
acted-fits p s j c (check d) h k = nowhere (AllByRecursion (Next p s))
acted-fits p s j c (give_back t) h k = nowhere (AllByRecursion (Next p s))

closing-waits : (p : PlainProgram) (s : PlainState) (os : List PlainFact) (n : ℕ) (ts : List PlainTask) → AllByRecursion (WaitingFits p s) ts → AllByRecursion (WaitingFits p s) (closing os n ts)
closing-waits p s [] n ts h = (refl, h)
closing-waits p s (o ∷ os) n ts h = (tt, closing-waits p s os n ts h)

closing-calm : (os : List PlainFact) (n : ℕ) (ts : List PlainTask) → AllByRecursion ChecksNoMove ts → AllByRecursion ChecksNoMove (closing os n ts)
closing-calm [] n ts h = (tt, h)
closing-calm (o ∷ os) n ts h = (tt, closing-calm os n ts h)

not-closing : (a : PlainAct) (x : Linear) → address_of a ≡ Some x → IsClosingReturn a → ⊥
not-closing (give_back t) x e h = absurd cc
not-closing (set y t) x e h = h
not-closing (read y a) x e h = h
not-closing (write a t) x e h = h
not-closing (cas y a old new) x e h = h
not-closing (faa y a t) x e h = h
not-closing (dispose a) x e h = h
not-closing (alloc y n) x e h = h
not-closing (call y n args) x e h = h
not-closing (fork n args) x e h = h
not-closing (branch c a b) x e h = h
not-closing (loop c i a) x e h = h
not-closing (check c) x e h = h

all-goals : (p : PlainProgram) (s : PlainState) (ts : List PlainTask) (states : List PlainState) → AllByRecursion (Next p s) states → AllByRecursion (WaitingFits p s) ts → AllByRecursion ChecksNoMove ts → AreKept p (flat_map (λ t. goals_of t ts) states)
all-goals p s ts [] h w c = tt
all-goals p s ts (t ∷ states) h w c = each-join _ (goals_of t ts) (flat_map (λ t. goals_of t ts) states) (goals-kept p t ts h.0.fits (no-moves-stay p s t ts h.0.grows c w) (no-moves-first ts c)) (all-goals p s ts states h.1 w c)

act-kept : (p : PlainProgram) (s : PlainState) (j : ℕ) (marks : List Bool) (home : Home) (l : Label) (a : PlainAct) (rest : Block) (ts : List PlainTask) → Running p s home (first l a rest) ts → Reaches (AreKept p) (at_act s j marks l a (to_run home rest ∷ ts))
act-kept p s j marks home l a rest ts h =
    chain _ _ (there (address_of a))
    (λ x ex. chain _ _ (there (slice_get s.cells j))
    (λ c e. chain (value_here s x) (λ t. prove_equal s c.0 t >>= λ u. with_marks s (rivals s) marks >>= λ s'. acted s' j c a >>= λ states. unit (flat_map (λ s''. goals_of s'' (closing s.opened l.number (to_run home rest ∷ ts))) states)) (any (value_here s x))
    (λ t b. chain (prove_equal s c.0 t) (λ u. with_marks s (rivals s) marks >>= λ s'. acted s' j c a >>= λ states. unit (flat_map (λ s''. goals_of s'' (closing s.opened l.number (to_run home rest ∷ ts))) states)) (any (prove_equal s c.0 t))
    (λ u d. chain _ _ (marks-fit p s (rivals s) marks h.fits (all-rivals p s s.opened h.fits))
    (λ v i.
    let cell = each-get (CellBelow (count s)) s.cells j c (cells-below p s h.fits) e in
    chain _ _ (acted-fits p v j c a i.fits (record { address = later-term p s v c.0 i cell.address; content = later-term p s v c.1 i cell.content }))
    (λ states k.
    at (AreKept p) (flat_map (λ s''. goals_of s'' (closing s.opened l.number (to_run home rest ∷ ts))) states)
    (all-goals p v (closing s.opened l.number (to_run home rest ∷ ts)) states k
    (closing-waits p v s.opened l.number (to_run home rest ∷ ts) (run-in p s v home (first l a rest) rest i.grows (λ f m. rest-fits p s home l a rest f (not-closing a x ex) m) h.run, no-moves-stay p s v ts i.grows h.calm h.waiting))
    (closing-calm s.opened l.number (to_run home rest ∷ ts) (tt, h.calm)))))))))

-- ---- all statements

pub statement-kept : (p : PlainProgram) (s : PlainState) (marks : List Bool) (c : PlainChoice) (home : Home) (l : Label) (a : PlainAct) (rest : Block) (ts : List PlainTask) → IsWellFormed p → Running p s home (first l a rest) ts → Reaches (AreKept p) (at_statement p s marks c home l a rest ts)
statement-kept p s marks (by_clash i j cs) home l a rest ts f h = clash-kept p s i j a
statement-kept p s marks by_set home l (set x t) rest ts f h = set-kept p s home l x t rest ts h
statement-kept p s marks by_alloc home l (alloc x n) rest ts f h = alloc-kept p s home l x n rest ts h
statement-kept p s marks (by_assert cs) home l (check c) rest ts f h = assert-kept p s home l c rest ts h
statement-kept p s marks by_if home l (branch c a b) rest ts f h = if-kept p s home l c a b rest ts h
statement-kept p s marks by_loop home l (loop c i a) rest ts f h = loop-kept p s home l c i a rest ts h
statement-kept p s marks by_call home l (call x n args) rest ts f h = call-kept p s home l x n args rest ts f h
statement-kept p s marks by_fork home l (fork n args) rest ts f h = fork-kept p s home l n args rest ts f h
statement-kept p s marks by_return home l (give_back t) rest ts f h = return-kept p s home l t rest ts f h
statement-kept p s marks (by_enter i cs) home l a rest ts f h = enter-kept p s i home l a rest ts f h
statement-kept p s marks (by_act j cs ms) home l a rest ts f h = act-kept p s j marks home l a rest ts h
statement-kept p s marks c home l a rest ts f h = nowhere (AreKept p)
