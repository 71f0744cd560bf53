-- Lists of values, and members past the end.
use Rattle.std.proofs.Common.{◌≡◌, ℕ, zero, suc, ◌+◌, ◌<◌, ◌≤◌, List, [], ◌∷◌, ◌++◌, map, length, drop, get_or, add-one, Option, Some, None, refl, sym, ap, subst, ◌∙◌, arith}
use Rattle.std.proofs.lemmas.List.{append_assoc, append-nil, drop_all, length-map}
use Rattle.std.specs.Prelude.{slice_get, Result, Ok, Err}
use Rattle.cap_lin.specs.Exact.{Explains}
use Rattle.cap_lin.specs.Linear.{Linear}
use Rattle.cap_lin.specs.Steps.{first_wide}
use Rattle.cap_lin.specs.declared.error.LinError.{LinError}
use Rattle.cap_rules.specs.cap_goal_spec.Terms.{term_over, term_over_steps}
use Rattle.cap_rules.specs.cap_goal_spec.States.{PlainState, PlainEnv, PlainFact}
use Rattle.cap_rules.specs.Attempts.{Attempt, unit, found, prove, go_on, ◌>>=◌}
use Rattle.cap_rules.specs.Making.{in_store, values_here, row_by, rows_by, prove_comparisons, with_comparison, with_differing}
use Rattle.cap_rules_steps.specs.Errors.{rule_error}
use Rattle.cap_rules_steps.specs.Walks.{Makes, Claims}
use Rattle.cap_lin.specs.declared.row.Row.{Row}
use Rattle.cap_lin.specs.declared.row.Sort.TheVariants.{Int}
use Rattle.cap_lin.specs.declared.row.Op.TheVariants.{Ne as Unequal}
use Rattle.cap_prog.specs.declared.assertion.Comp.{Comp}
use Rattle.cap_rules_steps.specs.declared.error.RuleError.{RuleError}
use Rattle.cap_rules_steps.specs.declared.error.RuleError.TheVariants.{NotApplicable}
use Rattle.cap_rules_steps.proofs.Walking.{LeadsBehind, Goes, made_claims, unmade_claims, claims_value, claims_no_value, weaker, split-at, then_narrow, then_made, unmade, wide, done, done_as, lacking}

past : {X : Type 0} (xs : List X) (i : ℕ) → length xs ≤ i → slice_get xs i ≡ None
past [] i h = refl
past (x ∷ xs) zero h = absurd (omega arith)
past (x ∷ xs) (suc i) h = past xs i (omega arith)

pub none_there : {X Y : Type 0} (f : X → Y) (xs : List X) (i : ℕ) → length xs ≤ i → Makes (Err NotApplicable) (found (slice_get (map f xs) i))
none_there f xs i h = lacking (slice_get (map f xs) i) (past (map f xs) i (rw (length-map xs f) h))

pub values-first : (s : PlainState) (ts : List Linear) → LeadsBehind [] (values_here s ts) (values_here s ts)
values-first s ts = record { ok = λ ys k. k; fails = λ e k. k }

one-more : {X : Type 0} (xs : List X) (x : X) (ys : List X) → xs ++ (x ∷ ys) ≡ (xs ++ x ∷ []) ++ ys
one-more xs x ys = sym (append_assoc xs (x ∷ []) ys)

pub values-next : (s : PlainState) (ts : List Linear) (i : ℕ) (t x : Linear) (xs : List Linear) (whole : Attempt (List Linear)) → i < length ts → t ≡ get_or ts i t → first_wide (term_over_steps (in_store s) t) ≡ None → x ≡ term_over (in_store s) t → LeadsBehind xs (values_here s (drop i ts)) whole → LeadsBehind (xs ++ x ∷ []) (values_here s (drop (i + 1) ts)) whole
values-next s ts i t x xs whole h e n q l =
    let rest = drop (suc i) ts in
    rw add-one (record {
      ok = λ ys k. subst (λ zs. Makes (Ok zs) whole) (one-more xs x ys) (l.ok (x ∷ ys) (rw (split-at ts i t h e) (then_narrow _ (term_over_steps (in_store s) t) _ n (then_made _ (values_here s rest) (λ us. unit (term_over (in_store s) t ∷ us)) ys k (done_as (x ∷ ys) (term_over (in_store s) t ∷ ys) (ap (λ z. z ∷ ys) q))))));
      fails = λ f k. l.fails f (rw (split-at ts i t h e) (then_narrow _ (term_over_steps (in_store s) t) _ n (unmade f (values_here s rest) (λ us. unit (term_over (in_store s) t ∷ us)) k)));
    })

pub values-fail : (s : PlainState) (ts : List Linear) (i : ℕ) (t : Linear) (xs : List Linear) (whole : Attempt (List Linear)) (f : LinError) → i < length ts → t ≡ get_or ts i t → Explains f (term_over_steps (in_store s) t) → LeadsBehind xs (values_here s (drop i ts)) whole → Makes (Err (rule_error f)) whole
values-fail s ts i t xs whole f h e x l = l.fails (rule_error f) (rw (split-at ts i t h e) (wide f (term_over_steps (in_store s) t) _ x))

pub values-end : (s : PlainState) (ts : List Linear) (i : ℕ) (xs : List Linear) (whole : Attempt (List Linear)) → length ts ≤ i → LeadsBehind xs (values_here s (drop i ts)) whole → Makes (Ok xs) whole
values-end s ts i xs whole h l = subst (λ zs. Makes (Ok zs) whole) (append-nil xs) (l.ok [] (rw (drop_all i ts h) (done [])))

-- an attempt that makes a member each
unfoldable pub Gathers : {X Y : Type 0} (G : List X → Attempt (List Y)) (step : X → Attempt Y) → Type 0
Gathers {X} {Y} G step = (x : X) (xs : List X) → G (x ∷ xs) ≡ go_on (step x).events (step x).value (λ y. go_on (G xs).events (G xs).value (λ ys. unit (y ∷ ys)))

pub gather-first : {X Y : Type 0} (G : List X → Attempt (List Y)) (xs : List X) → LeadsBehind [] (G xs) (G xs)
gather-first G xs = record { ok = λ ys k. k; fails = λ e k. k }

pub gather-next : {X Y : Type 0} (G : List X → Attempt (List Y)) (step : X → Attempt Y) → Gathers G step → (xs : List X) (i : ℕ) (x : X) (y : Y) (ys : List Y) (whole : Attempt (List Y)) → i < length xs → x ≡ get_or xs i x → Makes (Ok y) (step x) → LeadsBehind ys (G (drop i xs)) whole → LeadsBehind (ys ++ y ∷ []) (G (drop (i + 1) xs)) whole
unfolding Gathers
gather-next G step g xs i x y ys whole h e m l =
    let rest = drop (suc i) xs in
    rw add-one (record {
      ok = λ zs k. subst (λ us. Makes (Ok us) whole) (one-more ys y zs) (l.ok (y ∷ zs) (rw (split-at xs i x h e, g x rest) (then_made _ (step x) (λ z. go_on (G rest).events (G rest).value (λ us. unit (z ∷ us))) y m (then_made _ (G rest) (λ us. unit (y ∷ us)) zs k (done (y ∷ zs))))));
      fails = λ f k. l.fails f (rw (split-at xs i x h e, g x rest) (then_made _ (step x) (λ z. go_on (G rest).events (G rest).value (λ us. unit (z ∷ us))) y m (unmade f (G rest) (λ us. unit (y ∷ us)) k)));
    })

pub gather-fail : {X Y : Type 0} (G : List X → Attempt (List Y)) (step : X → Attempt Y) → Gathers G step → (xs : List X) (i : ℕ) (x : X) (ys : List Y) (whole : Attempt (List Y)) (f : RuleError) → i < length xs → x ≡ get_or xs i x → Makes (Err f) (step x) → LeadsBehind ys (G (drop i xs)) whole → Makes (Err f) whole
unfolding Gathers
gather-fail G step g xs i x ys whole f h e m l = l.fails f (rw (split-at xs i x h e, g x (drop (suc i) xs)) (unmade f (step x) (λ z. go_on (G (drop (suc i) xs)).events (G (drop (suc i) xs)).value (λ us. unit (z ∷ us))) m))

pub gather-end : {X Y : Type 0} (G : List X → Attempt (List Y)) (xs : List X) (i : ℕ) (ys : List Y) (whole : Attempt (List Y)) → length xs ≤ i → Makes (Ok []) (G []) → LeadsBehind ys (G (drop i xs)) whole → Makes (Ok ys) whole
gather-end G xs i ys whole h m l = subst (λ zs. Makes (Ok zs) whole) (append-nil ys) (l.ok [] (rw (drop_all i xs h) m))

-- the row of a comparison with its own operator
abbrev pub own_row : PlainEnv → Comp → Attempt Row
own_row env c = row_by env c.op c

pub rows_gather : (env : PlainEnv) → Gathers (rows_by env) (own_row env)
unfolding Gathers
rows_gather env c cs = refl

-- what is left of claims answers for the whole
pub record LeadsClaims {A : Type 0} (before middle : List (List Row)) (rest whole : Attempt A) : Type 0 where
  pub leads : (r : Result A RuleError) (after : List (List Row)) → Claims r middle after rest → Claims r before after whole

pub claims-first : {A : Type 0} (before : List (List Row)) (o : Attempt A) → LeadsClaims before before o o
claims-first before o = record { leads = λ r after k. k }

pub comparisons-next : (rows : List Row) (env : PlainEnv) (cs : List Comp) (i : ℕ) (c : Comp) (q : Row) (before middle next : List (List Row)) (whole : Attempt (Unit {0})) → i < length cs → c ≡ get_or cs i c → Makes (Ok q) (own_row env c) → Claims (Ok tt) middle next (prove rows q) → LeadsClaims before middle (prove_comparisons rows env (drop i cs)) whole → LeadsClaims before next (prove_comparisons rows env (drop (i + 1) cs)) whole
comparisons-next rows env cs i c q before middle next whole h e m p l = rw add-one (record { leads = λ r after k. l.leads r after (rw (split-at cs i c h e) (made_claims r (own_row env c) (λ w. prove rows w >>= λ _. prove_comparisons rows env (drop (suc i) cs)) q middle after m (claims_value r (prove rows q) tt (prove_comparisons rows env (drop (suc i) cs)) middle next after p k))) })

pub comparisons-no-row : (rows : List Row) (env : PlainEnv) (cs : List Comp) (i : ℕ) (c : Comp) (before middle : List (List Row)) (whole : Attempt (Unit {0})) (f : RuleError) → i < length cs → c ≡ get_or cs i c → Makes (Err f) (own_row env c) → LeadsClaims before middle (prove_comparisons rows env (drop i cs)) whole → Claims (Err f) before middle whole
comparisons-no-row rows env cs i c before middle whole f h e m l = l.leads (Err f) middle (rw (split-at cs i c h e) (unmade_claims f (own_row env c) (λ w. prove rows w >>= λ _. prove_comparisons rows env (drop (suc i) cs)) middle m))

pub comparisons-no-proof : (rows : List Row) (env : PlainEnv) (cs : List Comp) (i : ℕ) (c : Comp) (q : Row) (before middle next : List (List Row)) (whole : Attempt (Unit {0})) (f : RuleError) → i < length cs → c ≡ get_or cs i c → Makes (Ok q) (own_row env c) → Claims (Err f) middle next (prove rows q) → LeadsClaims before middle (prove_comparisons rows env (drop i cs)) whole → Claims (Err f) before next whole
comparisons-no-proof rows env cs i c q before middle next whole f h e m p l = l.leads (Err f) next (rw (split-at cs i c h e) (made_claims (Err f) (own_row env c) (λ w. prove rows w >>= λ _. prove_comparisons rows env (drop (suc i) cs)) q middle next m (claims_no_value f (prove rows q) tt (prove_comparisons rows env (drop (suc i) cs)) middle next refl p)))

pub comparisons-end : (rows : List Row) (env : PlainEnv) (cs : List Comp) (i : ℕ) (before middle : List (List Row)) (whole : Attempt (Unit {0})) → length cs ≤ i → LeadsClaims before middle (prove_comparisons rows env (drop i cs)) whole → Claims (Ok tt) before middle whole
comparisons-end rows env cs i before middle whole h l = l.leads (Ok tt) middle (rw (drop_all i cs h) (weaker _ _ _ (done tt)))

-- a row each for what a term differs from
abbrev pub differing : Linear → PlainState → List PlainFact → Attempt PlainState
differing t s fs = with_differing s t fs

abbrev pub differs : Linear → PlainState → PlainFact → Attempt PlainState
differs t s f = with_comparison s t Unequal f.region Int

pub differing_goes : (t : Linear) → Goes (differing t) (differs t)
unfolding Goes
differing_goes t s f fs = refl
