-- The rules at an item that is to be given up leave goals that are kept.
use Rattle.std.proofs.Common.{◌≡◌, ◌≤◌, ℕ, zero, suc, ◌+◌, List, [], ◌∷◌, ◌++◌, length, map, Option, Some, None, Bool, true, false, refl, sym, ap, ◌∙◌, subst, arith, length-append}
use Rattle.std.specs.Prelude.{slice_get, remove, not, is_none, ◌==◌, ◌&&◌, IsSomeAnd, if◌then◌else◌}
use Rattle.std.specs.List.{AllByRecursion, range_with_len}
use Rattle.std.proofs.lemmas.List.{length-replicate}
use Rattle.std.proofs.lemmas.List.FromFn.{length-map-range_with_len}
use Rattle.cap_lin.specs.Linear.{Linear, variable, IsBelow}
use Rattle.cap_lin.specs.declared.row.Sort.TheVariants.{Int}
use Rattle.cap_gsolve.specs.Pieces.{full_pieces}
use Rattle.cap_fm_spec.proofs.Lists.{each-join, each-map}
use Rattle.cap_syntax.specs.declared.place.Place.{Place}
use Rattle.cap_prog.specs.declared.assertion.Comp.{Comp}
use Rattle.cap_prog.specs.declared.assertion.Slot.{Slot}
use Rattle.cap_prog.specs.declared.assertion.Slot.TheVariants.{Is}
use Rattle.cap_prog.specs.declared.assertion.Asked.{Asked}
use Rattle.cap_prog.specs.declared.assertion.Asked.TheVariants.{One, Share, Src, Tok, At, From}
use Rattle.cap_prog.specs.Program.{PlainItem, compare, choose, fact, atom, cell, Items, item, append_items, PlainCase, PlainRegionType, PlainProgram}
use Rattle.cap_prog.specs.Scopes.{region_scope}
use Rattle.cap_prog.specs.WellFormed.{FactFits, CaseFits, RegionFits, IsWellFormed}
use Rattle.cap_goal_spec.specs.States.{PlainFact, PlainEnv, PlainState, to_take, to_make}
use Rattle.cap_goal_spec.specs.Choices.{PlainChoice, by_fact, by_cases, by_cell, by_region, by_guard, by_convert, by_create}
use Rattle.cap_goal_spec.specs.Environments.{zero_value, term_of, is_bound_by, bound, unbound, region_env}
use Rattle.cap_goal_spec.specs.Fits.{NameIsBelow, KnownFactFits, PieceFits, StateFits, ItemsFitEnv, CaseEnvFits, WaitingFits}
use Rattle.cap_rules.specs.Attempts.{Attempt, unit, ◌>>=◌, found, need, prove}
use Rattle.cap_rules.specs.Making.{opposite, row_by, determined, determined_slot, prove_equal, match_slot, fresh, env_at, with_env_at, fact_of}
use Rattle.cap_rules.specs.Taking.{cut_form, after_cut, sum_in, given_side, other_side, side_pieces, with_new_region, binds_all, names_with, case_env}
use Rattle.cap_rules.specs.Rules.{leaves, Remaining, goes, stays, at_fact, at_cases, at_cell, at_region, at_no_tokens, at_piece, at_guard, at_convert, at_create, creates, at_item}
use Rattle.cap_rules_ascending.proofs.Lists.{IfSome, all-join, all-remove, all-any}
use Rattle.cap_rules_fits.specs.Kept.{ChecksFirst}
use Rattle.cap_rules_fits.proofs.Below.{unbound-below, bound-length}
use Rattle.cap_rules_fits.proofs.Cases.{each-get, scope-length}
use Rattle.cap_rules_fits.proofs.Values.{EnvBelow, term-of-below, wider-below, wider-env, region-env-below}
use Rattle.cap_rules_fits.proofs.Growing.{CellBelow, cells-below, with-cells-fit, with-guards-fit, guards-fit, envs-same, Next, here, further}
use Rattle.cap_rules_fits.proofs.Makings.{count, row-by-fits, slot-fits, match-fits, matches-fit, with-sort-fits, fresh-below, later-term, later-facts, with-row-fits, differing-fits, with-env-fits, env-at-fits, env-set-fits}
use Rattle.cap_rules_fits.proofs.Pieces.{with-pieces-fit}
use Rattle.cap_rules_fits.proofs.Quiet.{IsQuiet, Alike, sort-alike, differing-alike, pieces-alike, both}
use Rattle.cap_rules_fits.proofs.Cutting.{cut-fits, cut-length, after-cut-fits, without-full-fits, within-itself, SidesWithin, sum-within, other-within, side-pieces-fit}
use Rattle.cap_rules_fits.proofs.Reaching.{IsAny, Reaches, chain, at, nowhere, at-found, any, there, choice, each-reaches}
use Rattle.cap_rules_fits.proofs.Waiting.{task-stays, all-stay, AreKept, leaves-kept}
use Rattle.cap_rules_fits.proofs.Givings.{first-item, other-items, left-items, right-items}

-- the item is the first that is to be given up
pub record Taking (p : PlainProgram) (s : PlainState) (i : PlainItem) (r : Remaining) : Type 0 where
  pub fits : StateFits p s
  pub items : IsSomeAnd (slice_get s.envs r.env) (λ env. ItemsFitEnv p env (item i r.items))
  pub waiting : AllByRecursion (WaitingFits p s) r.tasks
  pub checks : ChecksFirst r.tasks

-- these items are left
items-left : (p : PlainProgram) (s t : PlainState) (items : Items) (r : Remaining) → Next p s t → IsSomeAnd (slice_get s.envs r.env) (λ env. ItemsFitEnv p env items) → AllByRecursion (WaitingFits p s) r.tasks → ChecksFirst r.tasks → Reaches (AreKept p) (leaves t (to_take items r.env r.left r.statement ∷ r.tasks))
items-left p s t items r n h w c = leaves-kept p t (to_take items r.env r.left r.statement ∷ r.tasks) n.fits (task-stays p s t (to_take items r.env r.left r.statement) n.grows tt h, all-stay p s t r.tasks n w) c

goes-kept : (p : PlainProgram) (s t : PlainState) (i : PlainItem) (r : Remaining) → Next p s t → Taking p s i r → Reaches (AreKept p) (goes t r)
goes-kept p s t i r n h = items-left p s t r.items r n (other-items p i r.items (slice_get s.envs r.env) h.items) h.waiting h.checks

fact-kept : (p : PlainProgram) (s : PlainState) (c : Comp) (r : Remaining) → Taking p s (compare c) r → Reaches (AreKept p) (at_fact s c r)
fact-kept p s c r h = chain _ _ (any (row_by (env_at s r.env) c.op c)) (λ q i. chain (prove s.rows q) (λ u. goes s r) (any (prove s.rows q)) (λ u j. goes-kept p s s (compare c) r (here p s h.fits) h))

cases-kept : (p : PlainProgram) (s : PlainState) (c : Comp) (a b : Items) (r : Remaining) → Taking p s (choose c a b) r → Reaches (AreKept p) (at_cases s c a b r)
cases-kept p s c a b r h =
    let env = env-at-fits p s r.env h.fits in
    chain _ _ (row-by-fits (count s) (env_at s r.env) c.op c env)
    (λ q i. chain _ _ (with-row-fits p s q h.fits i)
    (λ t j. chain _ _ (row-by-fits (count s) (env_at s r.env) (opposite c.op) c env)
    (λ o k. chain _ _ (with-row-fits p s o h.fits k)
    (λ u l.
    chain (goes t (record r { items = append_items a r.items })) (λ left. goes u (record r { items = append_items b r.items }) >>= λ right. unit (left ++ right)) (items-left p s t (append_items a r.items) r j (left-items p c a b r.items (slice_get s.envs r.env) h.items) h.waiting h.checks)
    (λ left m. chain (goes u (record r { items = append_items b r.items })) (λ right. unit (left ++ right)) (items-left p s u (append_items b r.items) r l (right-items p c a b r.items (slice_get s.envs r.env) h.items) h.waiting h.checks)
    (λ right n. at (AreKept p) (left ++ right) (each-join _ left right m n)))))))

cell-kept : (p : PlainProgram) (s : PlainState) (j : ℕ) (place : Place) (a : Linear) (x : Slot) (r : Remaining) → Taking p s (cell place a x) r → Reaches (AreKept p) (at_cell s j a x r)
cell-kept p s j place a x r h =
    let env = env-at-fits p s r.env h.fits in
    chain _ _ (there (slice_get s.cells j))
    (λ c e. chain _ _ (any (determined (env_at s r.env) a))
    (λ t i. chain (prove_equal s t c.0) (λ u. match_slot s.rows (env_at s r.env) x c.1 >>= λ env. goes (with_env_at (record s { cells = remove s.cells j }) r.env env) r) (any (prove_equal s t c.0))
    (λ u k. chain _ _ (match-fits (count s) s.rows (env_at s r.env) x c.1 env (each-get (CellBelow (count s)) s.cells j c (cells-below p s h.fits) e).content)
    (λ new l.
    let t : PlainState = record s { cells = remove s.cells j } in
    let less : length (remove s.cells j) ≤ length s.cells = cut-length s.cells j c [] e (omega arith) in
    let most = h.fits.room.cells in
    let n : Next p s t = record { fits = with-cells-fit p s (remove s.cells j) h.fits (all-remove (CellBelow (count s)) s.cells j (cells-below p s h.fits)) (omega arith); grows = record { sorts = omega arith; store = refl; envs = envs-same s.envs }; opened = refl } in
    goes-kept p s (with_env_at t r.env new) (cell place a x) r (further p s t (with_env_at t r.env new) n (env-set-fits p t r.env new n.fits l)) h))))

region-kept : (p : PlainProgram) (s : PlainState) (j : ℕ) (place : Place) (n k : ℕ) (args : List Slot) (x : Slot) (r : Remaining) → Taking p s (fact place n k args x) r → Reaches (AreKept p) (at_region s j n k args x r)
region-kept p s j place n k args x r h =
    let env = env-at-fits p s r.env h.fits in
    chain _ _ (there (slice_get s.facts j))
    (λ f e. chain _ _ (any (need ((f.kind == k) && not f.loose)))
    (λ u i.
    let fits = each-get (KnownFactFits p (count s)) s.facts j f h.fits.facts e in
    chain _ _ (matches-fit (count s) s.rows (env_at s r.env) (Is (variable n) ∷ (args ++ x ∷ [])) (f.region ∷ (f.args ++ f.state ∷ [])) env (fits.region, all-join (IsBelow (count s)) f.args (f.state ∷ []) fits.args (fits.state, tt)))
    (λ new l. goes-kept p s (with_env_at s r.env new) (fact place n k args x) r (env-set-fits p s r.env new h.fits l) h)))

no-tokens-kept : (p : PlainProgram) (s : PlainState) (j : ℕ) (i : PlainItem) (x : Slot) (r : Remaining) → Taking p s i r → Reaches (AreKept p) (at_no_tokens s j x r)
no-tokens-kept p s j i x r h = chain _ _ (any (need (j == 0))) (λ u a. chain _ _ (any (determined_slot (env_at s r.env) x)) (λ t b. chain (prove_equal s t zero_value) (λ v. goes s r) (any (prove_equal s t zero_value)) (λ v c. goes-kept p s s i r (here p s h.fits) h)))

piece-kept : (p : PlainProgram) (s : PlainState) (j way n k i : ℕ) (asked : Asked) (it : PlainItem) (r : Remaining) → Taking p s it r → Reaches (AreKept p) (at_piece s j way n k i asked r)
piece-kept p s j way n k i asked it r h =
    chain _ _ (there (slice_get s.guards j))
    (λ q e. chain _ _ (any (need ((q.kind == k) && (q.atom == i))))
    (λ u a. chain _ _ (any (found (term_of (env_at s r.env) n)))
    (λ t b. chain (prove_equal s q.region t) (λ v. cut_form s (env_at s r.env) asked q.form way >>= λ c. goes (after_cut r.env j q c) r) (any (prove_equal s q.region t))
    (λ v c.
    let fits = each-get (PieceFits p (count s)) s.guards j q h.fits.guards e in
    chain _ _ (cut-fits p s (env_at s r.env) asked q.form way h.fits (env-at-fits p s r.env h.fits) fits.form)
    (λ c d. goes-kept p s (after_cut r.env j q c) it r (after-cut-fits p s r.env j q c h.fits e fits d) h)))))

guard-kept : (p : PlainProgram) (s : PlainState) (j way n k i : ℕ) (asked : Asked) (it : PlainItem) (r : Remaining) → Taking p s it r → Reaches (AreKept p) (at_guard s j way n k i asked r)
guard-kept p s j (suc (suc zero)) n k i (Tok x) it r h = no-tokens-kept p s j it x r h
guard-kept p s j zero n k i asked it r h = piece-kept p s j zero n k i asked it r h
guard-kept p s j (suc zero) n k i asked it r h = piece-kept p s j (suc zero) n k i asked it r h
guard-kept p s j (suc (suc (suc way))) n k i asked it r h = piece-kept p s j (suc (suc (suc way))) n k i asked it r h
guard-kept p s j (suc (suc zero)) n k i One it r h = piece-kept p s j (suc (suc zero)) n k i One it r h
guard-kept p s j (suc (suc zero)) n k i (Share x) it r h = piece-kept p s j (suc (suc zero)) n k i (Share x) it r h
guard-kept p s j (suc (suc zero)) n k i (Src x) it r h = piece-kept p s j (suc (suc zero)) n k i (Src x) it r h
guard-kept p s j (suc (suc zero)) n k i (At x) it r h = piece-kept p s j (suc (suc zero)) n k i (At x) it r h
guard-kept p s j (suc (suc zero)) n k i (From x) it r h = piece-kept p s j (suc (suc zero)) n k i (From x) it r h

-- ---- converting

pub name-some : (n : ℕ) (o : Option Linear) → NameIsBelow n o → IfSome (IsBelow n) o
name-some n None h = tt
name-some n (Some t) h = h

convert-kept : (p : PlainProgram) (s : PlainState) (m side n k : ℕ) (i : PlainItem) (r : Remaining) → Taking p s i r → Reaches (AreKept p) (at_convert p s m side n k i r)
convert-kept p s m side n k i r h =
    let env = env-at-fits p s r.env h.fits in
    chain _ _ (there (slice_get p.regions k))
    (λ y e. chain _ _ (at-found (SidesWithin y.algebra) (sum_in y.algebra 0 m) (sum-within y.algebra y.algebra 0 m (within-itself y.algebra)))
    (λ sides a. chain _ _ (any (found (given_side sides side)))
    (λ held b. chain _ _ (at-found (IsBelow (count s)) (term_of (env_at s r.env) n) (name-some (count s) (term_of (env_at s r.env) n) (term-of-below (count s) (env_at s r.env) n env)))
    (λ t c. chain _ _ (without-full-fits p (count s) s.rows s.guards (side_pieces held t k) (guards-fit p s h.fits))
    (λ guards d.
    let u : PlainState = record s { guards = guards } in
    let at-u : Next p s u = record { fits = with-guards-fit p s guards h.fits d; grows = record { sorts = omega arith; store = refl; envs = envs-same s.envs }; opened = refl } in
    chain _ _ (with-pieces-fit p u (side_pieces (other_side sides side) t k) at-u.fits (side-pieces-fit p (count s) y (other_side sides side) t k e (other-within y.algebra sides side a) c))
    (λ v f. items-left p s v (item i r.items) r (further p s u v at-u f) h.items h.waiting h.checks))))))

-- ---- creating

-- an environment of a case's names
pub record IsCaseEnv (n : ℕ) (y : PlainRegionType) (z : PlainCase) (env : PlainEnv) : Type 0 where
  pub names : EnvBelow n env
  pub size : length env ≡ y.params + length z.names

pub region-env-length : (f : PlainFact) (names : PlainEnv) → length (region_env f names) ≡ suc (length f.args + length names)
region-env-length f names = ap suc (length-append (bound f.args) names ∙ ap (λ n. n + length names) (bound-length f.args))

names-below : (n : ℕ) (z : PlainCase) (t : Linear) (xs : List ℕ) → IsBelow n t → EnvBelow n (map (λ x. if is_bound_by x z.items then None else Some t) xs)
names-below n z t [] h = tt
names-below n z t (x ∷ xs) h = (by_test (is_bound_by x z.items), names-below n z t xs h)
  where
    by_test : (b : Bool) → NameIsBelow n (if b then None else Some t)
    by_test true = tt
    by_test false = h

pub case-env-fits : (n : ℕ) (y : PlainRegionType) (z : PlainCase) (f : PlainFact) (other : Attempt Linear) → IsBelow n f.region → AllByRecursion (IsBelow n) f.args → y.params ≡ suc (length f.args) → Reaches (IsBelow n) other → Reaches (IsCaseEnv n y z) (case_env y z f other)
case-env-fits n y z f other h k size g =
    choice (IsCaseEnv n y z) (binds_all y z) (unit (region_env f (unbound (length z.names)))) (other >>= λ t. unit (region_env f (names_with y z t)))
    (at (IsCaseEnv n y z) (region_env f (unbound (length z.names))) (record {
      names = region-env-below n f (unbound (length z.names)) h k (unbound-below n (length z.names));
      size = let l = region-env-length f (unbound (length z.names)) in let m : length (unbound (length z.names)) ≡ length z.names = length-replicate (length z.names) None in omega arith;
    }))
    (chain _ _ g
    (λ t i. at (IsCaseEnv n y z) (region_env f (names_with y z t)) (record {
      names = region-env-below n f (names_with y z t) h k (names-below n z t (range_with_len y.params (length z.names)) i);
      size = let l = region-env-length f (names_with y z t) in let m : length (names_with y z t) ≡ length z.names = length-map-range_with_len _ y.params (length z.names) in omega arith;
    })))

quiet-envs : IsQuiet (λ (s : PlainState). s.envs)
quiet-envs = record { sorts = λ s x. refl; rows = λ s x. refl }

-- the new region, and the environments as they were
record HasRegion (p : PlainProgram) (s t : PlainState) : Type 0 where
  next : Next p s t
  fresh_below : IsBelow (count t) (fresh s)
  envs : t.envs ≡ s.envs

new-region-fits : (p : PlainProgram) (s : PlainState) (y : PlainRegionType) (k : ℕ) → StateFits p s → slice_get p.regions k ≡ Some y → Reaches (HasRegion p s) (with_new_region p s y k)
new-region-fits p s y k h e =
    chain _ _ (both (with-sort-fits p s Int h) (sort-alike (λ (s : PlainState). s.envs) s Int quiet-envs))
    (λ t i.
    let fresh-t = fresh-below p s t i.0 in
    let known = later-facts p s t (s.facts ++ s.opened) i.0.next (all-join (KnownFactFits p (count s)) s.facts s.opened h.facts h.opened) in
    chain _ _ (both (differing-fits p t (fresh s) (s.facts ++ s.opened) i.0.next.fits fresh-t known) (differing-alike (λ (s : PlainState). s.envs) t (fresh s) (s.facts ++ s.opened) quiet-envs))
    (λ u j.
    let fresh-u = later-term p t u (fresh s) j.0 fresh-t in
    let full = side-pieces-fit p (count u) y (record { algebra = y.algebra; atom = 0 }) (fresh s) k e (within-itself y.algebra) fresh-u in
    ending (both (with-pieces-fit p u (full_pieces y.algebra (fresh s) k) j.0.fits full) (pieces-alike (λ (s : PlainState). s.envs) p u (full_pieces y.algebra (fresh s) k) quiet-envs (λ t guards. refl))) (further p s t u i.0.next j.0) fresh-u (j.1 ∙ i.1)))
  where
    ending : {u : PlainState} {o : Attempt PlainState} → Reaches (λ v. Next p u v × Alike (λ (s : PlainState). s.envs) u v) o → Next p s u → IsBelow (count u) (fresh s) → u.envs ≡ s.envs → Reaches (HasRegion p s) o
    ending {u = u} {o = o} r n f q = record { value = by o.value r.value }
      where
        by : (v : Option PlainState) → IfSome (λ v. Next p u v × Alike (λ (s : PlainState). s.envs) u v) v → IfSome (HasRegion p s) v
        by None i = tt
        by (Some v) i = record { next = further p s u v n i.0; fresh_below = later-term p u v (fresh s) i.0 f; envs = i.1 ∙ q }

-- what fits the environment of a case
pub case-items : (p : PlainProgram) (y : PlainRegionType) (z : PlainCase) (env : PlainEnv) → CaseFits p y z → length env ≡ y.params + length z.names → ItemsFitEnv p env z.items
case-items p y z env h e = record { scope = region_scope y z.names; names = scope-length y z.names ∙ sym e; each = h.items.items }

pub some-of : {A : Type 0} (P : A → Type 0) (o : Option A) (x : A) → o ≡ Some x → P x → IsSomeAnd o P
some-of P o x e h = subst (λ o. IsSomeAnd o P) (sym e) h

arity-of : (p : PlainProgram) (y : PlainRegionType) (o : Option PlainRegionType) (P : PlainRegionType → Type 0) → o ≡ Some y → IsSomeAnd o P → P y
arity-of p y None P e h = absurd h
arity-of p y (Some z) P e h = subst P (let f : z ≡ y = cc in f) h

create-kept : (p : PlainProgram) (s : PlainState) (c : ℕ) (place : Place) (n k : ℕ) (args : List Slot) (x : Slot) (left : ℕ) (r : Remaining) → IsWellFormed p → Taking p s (fact place n k args x) r → Reaches (AreKept p) (at_create p s c n k args x (fact place n k args x) left r)
create-kept p s c place n k args x left r formed h =
    let env = env-at-fits p s r.env h.fits in
    let first = first-item p (fact place n k args x) r.items (slice_get s.envs r.env) h.items in
    chain _ _ (there (slice_get p.regions k))
    (λ y ey. chain _ _ (there (slice_get y.cases c))
    (λ z ez. chain _ _ (any (need (is_none (term_of (env_at s r.env) n))))
    (λ u a. chain _ _ (each-reaches IsAny (IsBelow (count s)) (determined_slot (env_at s r.env)) (λ q o. slot-fits (count s) (env_at s r.env) q env) args (all-any IsAny (λ q. tt) args))
    (λ us b. chain _ _ (new-region-fits p s y k h.fits ey)
    (λ t d.
    let type : RegionFits p y = each-get (RegionFits p) p.regions k y formed.regions ey in
    let case : CaseFits p y z = each-get (CaseFits p y) y.cases c z type.cases ez in
    let facts : FactFits first.0 y args x = arity-of p y (slice_get p.regions k) (λ y. FactFits first.0 y args x) ey first.1.1 in
    let size : y.params ≡ suc (length us) = facts.arity ∙ ap suc (sym b.1) in
    let us-t = each-map _ _ us b.0 (λ v i. wider-below (count s) (count t) v d.next.grows.sorts i) in
    let env-t = wider-env (count s) (count t) (env_at s r.env) d.next.grows.sorts env in
    chain _ _ (case-env-fits (count t) y z (fact_of (fresh s) k us zero_value) (determined_slot (env_at s r.env) x) d.fresh_below us-t size (slot-fits (count t) (env_at s r.env) x env-t))
    (λ v f. chain _ _ (with-env-fits p t v d.next.fits f.names)
    (λ w g.
    let at-w = further p s t w d.next g.next in
    let last : slice_get w.envs (length s.envs) ≡ Some v = ap (λ envs. slice_get w.envs (length envs)) (sym d.envs) ∙ g.last in
    leaves-kept p w (to_take z.items (length s.envs) left r.statement ∷ to_make k c (length s.envs) (fresh s) r.statement ∷ stays s (fact place n k args x) left r ∷ r.tasks) g.next.fits (
      some-of (λ env. ItemsFitEnv p env z.items) (slice_get w.envs (length s.envs)) v last (case-items p y z v case f.size),
      (
        (some-of (λ type. CaseEnvFits w type c (length s.envs)) (slice_get p.regions k) y ey (some-of _ (slice_get y.cases c) z ez (some-of _ (slice_get w.envs (length s.envs)) v last f.size)), later-term p t w (fresh s) g.next d.fresh_below),
        (task-stays p s w (to_take (item (fact place n k args x) r.items) r.env left r.statement) at-w.grows tt h.items, all-stay p s w r.tasks at-w h.waiting),
      ),
    )
    h.checks)))))))

creates-kept : (p : PlainProgram) (s : PlainState) (c : ℕ) (place : Place) (n k : ℕ) (args : List Slot) (x : Slot) (r : Remaining) (left : ℕ) → IsWellFormed p → Taking p s (fact place n k args x) r → Reaches (AreKept p) (creates p s c n k args x (fact place n k args x) r left)
creates-kept p s c place n k args x r zero formed h = nowhere (AreKept p)
creates-kept p s c place n k args x r (suc left) formed h = create-kept p s c place n k args x left r formed h

pub item-kept : (p : PlainProgram) (s : PlainState) (c : PlainChoice) (i : PlainItem) (r : Remaining) → IsWellFormed p → Taking p s i r → Reaches (AreKept p) (at_item p s c i r)
item-kept p s (by_fact cs) (compare c) r f h = fact-kept p s c r h
item-kept p s by_cases (choose c a b) r f h = cases-kept p s c a b r h
item-kept p s (by_cell j cs) (cell place a x) r f h = cell-kept p s j place a x r h
item-kept p s (by_region j cs) (fact place n m args x) r f h = region-kept p s j place n m args x r h
item-kept p s (by_guard j way cs) (atom place n m i asked) r f h = guard-kept p s j way n m i asked (atom place n m i asked) r h
item-kept p s (by_convert m side cs) (atom place n q i asked) r f h = convert-kept p s m side n q (atom place n q i asked) r h
item-kept p s (by_create c) (fact place n m args x) r f h = creates-kept p s c place n m args x r r.left f h
item-kept p s c i r f h = nowhere (AreKept p)
