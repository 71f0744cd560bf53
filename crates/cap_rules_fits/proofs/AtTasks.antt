-- The subgoals of a goal that is kept are kept.
use Rattle.std.proofs.Common.{◌≡◌, ◌≤◌, ◌<◌, ℕ, zero, suc, ◌+◌, ◌-◌, List, [], ◌∷◌, ◌++◌, length, map, take, drop, flat_map, Option, Some, None, Bool, true, false, refl, sym, ap, ◌∙◌, subst, arith}
use Rattle.std.specs.Prelude.{slice_get, slice_set, get_or, remove, nat_le, ◌==◌, ◌&&◌, ◌||◌, IsSomeAnd, if◌then◌else◌}
use Rattle.std.specs.List.{AllByRecursion, list_any, range_with_len}
use Rattle.std.proofs.lemmas.Bool.Decides.{nat_tests}
use Rattle.std.proofs.lemmas.List.{length-set}
use Rattle.std.proofs.lemmas.Option.{slice_get_within}
use Rattle.cap_lin.specs.Linear.{Linear, IsBelow}
use Rattle.cap_lin.specs.Steps.{Step}
use Rattle.cap_lin.specs.declared.row.Row.{Row}
use Rattle.cap_lin.specs.declared.row.Sort.TheVariants.{Int}
use Rattle.cap_lin.specs.declared.row.Op.TheVariants.{Eq as Equal, Le as AtMost}
use Rattle.cap_gsolve.specs.declared.piece.Form.{Form}
use Rattle.cap_gsolve.specs.declared.piece.Form.TheVariants.{Span}
use Rattle.cap_gsolve.specs.declared.piece.Piece.{Piece}
use Rattle.cap_gsolve.specs.Pieces.{of_guards}
use Rattle.cap_fm_spec.proofs.Lists.{each-map}
use Rattle.cap_prog.specs.Program.{item, Label, PlainAct, Block, first, PlainCase, PlainAction, PlainRegionType, PlainProgram}
use Rattle.cap_prog.specs.WellFormed.{CaseFits, RegionFits, IsWellFormed}
use Rattle.cap_goal_spec.specs.States.{PlainFact, PlainEnv, PlainState, Home, PlainTask, to_run, to_turn, to_give, to_take, to_make, to_close, to_shift, to_rest, PlainGoal, with_state}
use Rattle.cap_goal_spec.specs.Choices.{PlainChoice, by_absurd, by_give, by_pick, by_shift, by_settle, by_keep, by_made, certs_of}
use Rattle.cap_goal_spec.specs.Terms.{lone_variable}
use Rattle.cap_goal_spec.specs.Environments.{region_env, term_in, term_in_steps}
use Rattle.cap_goal_spec.specs.Candidates.{MadeRow, bounds, form_bounds, piece_bounds, is_over_params, bounds_by, action_bounds, all_candidates, is_made, repeats, without_repeats, candidates, later_state}
use Rattle.cap_goal_spec.specs.Fits.{FormIsBelow, PieceFits, NameIsBelow, KnownFactFits, StateFits, ItemsFitEnv, CaseEnvFits, TaskFits, WaitingFits, TasksFit}
use Rattle.cap_rules.specs.Answers.{marks_of}
use Rattle.cap_rules.specs.Attempts.{Attempt, unit, ◌>>=◌, computed, found, need, comparison_row}
use Rattle.cap_rules.specs.Making.{is_empty, env_at, fact_of, prove_comparisons}
use Rattle.cap_rules.specs.Closing.{may_move, source_name, source_env, move_target, prove_move, with_closed}
use Rattle.cap_rules.specs.Resting.{named_candidates, prove_at, prove_stable, with_settled, settle, prove_kept, keep}
use Rattle.cap_rules.specs.Rules.{leaves, creations, at_close, at_shift, args_in, at_made, at_statement, at_task, at_tasks, rule}
use Rattle.cap_rules.proofs.Answering.{answers-succeed}
use Rattle.cap_rules_ascending.proofs.Lists.{IfSome, all-join, all-take, all-drop, all-set, all-get, all-flat, all-any, all-remove}
use Rattle.cap_rules_fits.specs.Kept.{ChecksNoMove, ChecksFirst, IsKept, SubgoalsAreKept}
use Rattle.cap_rules_fits.proofs.Below.{variable-below}
use Rattle.cap_rules_fits.proofs.Cases.{each-get}
use Rattle.cap_rules_fits.proofs.Values.{EnvBelow, wider-below, in-below, row-is-below, region-env-below}
use Rattle.cap_rules_fits.proofs.Growing.{RowsBelow, GuardsFit, with-facts-fit, with-before-fits, with-opened-fit, wider-form, envs-same, Grows, Next, further}
use Rattle.cap_rules_fits.proofs.Makings.{count, determined-fits, with-sort-fits, fresh-below, with-rows-next, with-env-fits, env-at-fits, with-fact-fits, later-facts}
use Rattle.cap_rules_fits.proofs.Quiet.{Alike, rows-alike, both}
use Rattle.cap_rules_fits.proofs.Reaching.{IsAny, Reaches, chain, at, nowhere, at-computed, at-found, any, needed, there, each-reaches}
use Rattle.cap_rules_fits.proofs.Waiting.{no-moves-stay, no-moves-first, all-stay, AreKept, leaves-kept, leaves-first}
use Rattle.cap_rules_fits.proofs.Givings.{give-kept}
use Rattle.cap_rules_fits.proofs.AtItems.{item-kept, case-env-fits, case-items, some-of, name-some}
use Rattle.cap_rules_fits.proofs.AtStatements.{Running, statement-kept, turn-kept, of-some}

-- ---- closing

take-most : {A : Type 0} (n : ℕ) (xs : List A) → length (take n xs ++ drop (suc n) xs) ≤ length xs
take-most zero [] = omega arith
take-most (suc n) [] = omega arith
take-most zero (x ∷ xs) = omega arith
take-most (suc n) (x ∷ xs) = let k = take-most n xs in omega arith

source-below : (n : ℕ) (f : PlainFact) (o : Option ℕ) (xs : List ℕ) → IsBelow n f.state → EnvBelow n (map (source_name f o) xs)
source-below n f o [] h = tt
source-below n f None (x ∷ xs) h = (tt, source-below n f None xs h)
source-below n f (Some y) (x ∷ xs) h = (by_test (y == x), source-below n f (Some y) xs h)
  where
    by_test : (b : Bool) → NameIsBelow n (if b then Some f.state else None)
    by_test true = h
    by_test false = tt

target-fits : (n : ℕ) (p : PlainProgram) (k : PlainRegionType) (f : PlainFact) (m : ℕ) → KnownFactFits p n f → Reaches (IsBelow n) (move_target k f m)
target-fits n p k f zero h = at (IsBelow n) f.state h.state
target-fits n p k f (suc i) h =
    chain _ _ (any (found (slice_get k.actions i)))
    (λ a j. determined-fits n (source_env k f a) a.target (region-env-below n f (map (source_name f (lone_variable a.source)) (range_with_len k.params (length a.names))) h.region h.args (source-below n f (lone_variable a.source) (range_with_len k.params (length a.names)) h.state)))

close-kept : (p : PlainProgram) (s : PlainState) (o c m : ℕ) (all : Bool) (n : ℕ) (ts : List PlainTask) → IsWellFormed p → StateFits p s → AllByRecursion (WaitingFits p s) ts → AllByRecursion ChecksNoMove ts → Reaches (AreKept p) (at_close p s o c m all n ts)
close-kept p s o c m all n ts formed h w calm =
    chain _ _ (there (slice_get s.opened o))
    (λ f ef. chain _ _ (there (slice_get p.regions f.kind))
    (λ k ek. chain _ _ (there (slice_get k.cases c))
    (λ x ex. chain _ _ (needed (may_move all m k))
    (λ u may.
    let fact = each-get (KnownFactFits p (count s)) s.opened o f h.opened ef in
    let type : RegionFits p k = each-get (RegionFits p) p.regions f.kind k formed.regions ek in
    let case : CaseFits p k x = each-get (CaseFits p k) k.cases c x type.cases ex in
    let size : k.params ≡ suc (length f.args) = of-some (λ (k : PlainRegionType). k.params ≡ suc (length f.args)) (slice_get p.regions f.kind) k ek fact.arity in
    chain _ _ (case-env-fits (count s) k x f (move_target k f m) fact.region fact.args size (target-fits (count s) p k f m fact))
    (λ env i. chain _ _ (with-env-fits p s env h i.names)
    (λ t j.
    leaves-kept p t (to_take x.items (length s.envs) (creations all) n ∷ to_shift o c m (length s.envs) n ∷ ts) j.next.fits (
      some-of (λ env. ItemsFitEnv p env x.items) (slice_get t.envs (length s.envs)) env j.last (case-items p k x env case i.size),
      (
        some-of _ (slice_get t.opened o) f (ap (λ fs. slice_get fs o) j.next.opened ∙ ef) (some-of _ (slice_get p.regions f.kind) k ek (record { move = at-most m (length k.actions) (all || (m == 0)) may; env = some-of _ (slice_get k.cases c) x ex (some-of _ (slice_get t.envs (length s.envs)) env j.last i.size) })),
        no-moves-stay p s t ts j.next.grows calm w,
      ),
    )
    calm))))))
  where
    at-most : (a b : ℕ) (q : Bool) → (nat_le a b && q) ≡ true → a ≤ b
    at-most a b q e = from a b (first (nat_le a b) q e)
      where
        first : (x y : Bool) → (x && y) ≡ true → x ≡ true
        first true y e = refl
        first false y e = absurd cc

        from : (a b : ℕ) → nat_le a b ≡ true → a ≤ b
        from a b e = grind (arith, nat_tests)

record After (p : PlainProgram) (s t : PlainState) : Type 0 where
  fits : StateFits p t
  grows : Grows s t

closed-fits : (p : PlainProgram) (s : PlainState) (o : ℕ) (f : PlainFact) (new : Linear) → StateFits p s → KnownFactFits p (count s) f → IsBelow (count s) new → Reaches (After p s) (with_closed s o f new)
closed-fits p s o f new h k g =
    let t : PlainState = record s { opened = remove s.opened o } in
    let less = take-most o s.opened in
    let room = h.room.opened in
    let fits : StateFits p t = with-opened-fit p s (remove s.opened o) h (all-remove (KnownFactFits p (count s)) s.opened o h.opened) (omega arith) in
    chain _ _ (with-fact-fits p t (with_state f new) fits (record { region = k.region; arity = k.arity; args = k.args; state = g }))
    (λ u i. at (After p s) (record u { before = if is_empty u.opened then [] else u.before }) (record {
      fits = with-before-fits p u (if is_empty u.opened then [] else u.before) i.fits (by_test u i.fits (is_empty u.opened));
      grows = record { sorts = i.grows.sorts; store = i.grows.store; envs = i.grows.envs };
    }))
  where
    by_test : (u : PlainState) → StateFits p u → (b : Bool) → GuardsFit p (count u) (if b then [] else u.before)
    by_test u i true = record { each = tt; parted = tt; room = omega arith }
    by_test u i false = record { each = i.before; parted = i.before_parted; room = i.room.before }

shift-kept : (p : PlainProgram) (s : PlainState) (js : List ℕ) (o c m e : ℕ) (ts : List PlainTask) → StateFits p s → AllByRecursion (WaitingFits p s) ts → AllByRecursion ChecksNoMove ts → Reaches (AreKept p) (at_shift p s js o c m e ts)
shift-kept p s js o c m e ts h w calm =
    chain _ _ (there (slice_get s.opened o))
    (λ f ef. chain _ _ (any (found (slice_get p.regions f.kind)))
    (λ k a. chain _ _ (any (found (slice_get k.cases c)))
    (λ x b. chain _ _ (any (prove_comparisons s.rows (env_at s e) x.when))
    (λ u d. chain _ _ (determined-fits (count s) (env_at s e) x.state (env-at-fits p s e h))
    (λ new i. chain _ _ (any (prove_move k s f new m js))
    (λ v j. chain _ _ (closed-fits p s o f new h (each-get (KnownFactFits p (count s)) s.opened o f h.opened ef) i)
    (λ t l. leaves-kept p t ts l.fits (no-moves-stay p s t ts l.grows calm w) (no-moves-first ts calm))))))))

-- ---- settling

abbrev AreMadeBelow : ℕ → List MadeRow → Type 0
AreMadeBelow n ms = AllByRecursion (λ m. IsBelow n m.row.term) ms

bounds-below : (n : ℕ) (u : Linear) (steps : List Step) (e : Linear) → IsBelow n u → IsBelow n e → AreMadeBelow n (bounds u steps e)
bounds-below n u steps e h k = (row-is-below n e AtMost u Int k h, (row-is-below n u AtMost e Int h k, tt))

bounds-by-below : (n : ℕ) (k : PlainRegionType) (f : PlainFact) (u t : Linear) → IsBelow n f.region → AllByRecursion (IsBelow n) f.args → IsBelow n u → AreMadeBelow n (bounds_by k f u t)
bounds-by-below n k f u t h g i = by_test (is_over_params k t)
  where
    by_test : (b : Bool) → AreMadeBelow n (if b then bounds u (term_in_steps (region_env f []) t) (term_in (region_env f []) t) else [])
    by_test true = bounds-below n u (term_in_steps (region_env f []) t) (term_in (region_env f []) t) i (in-below n (region_env f []) t (region-env-below n f [] h g tt))
    by_test false = tt

actions-below : (n : ℕ) (k : PlainRegionType) (f : PlainFact) (u : Linear) (a : PlainAction) → IsBelow n f.region → AllByRecursion (IsBelow n) f.args → IsBelow n u → AreMadeBelow n (action_bounds k f u a)
actions-below n k f u a h g i = all-join _ (bounds_by k f u a.source) (bounds_by k f u a.target) (bounds-by-below n k f u a.source h g i) (bounds-by-below n k f u a.target h g i)

all-below : (n : ℕ) (k : PlainRegionType) (f : PlainFact) (u : Linear) → IsBelow n f.region → AllByRecursion (IsBelow n) f.args → IsBelow n f.state → IsBelow n u → AreMadeBelow n (all_candidates k f u)
all-below n k f u h g s i = (
  row-is-below n u Equal f.state Int i s,
  (
    row-is-below n f.state AtMost u Int s i,
    (
      row-is-below n u AtMost f.state Int i s,
      all-join _ (flat_map (λ (c : PlainCase). bounds_by k f u c.state) k.cases) (flat_map (action_bounds k f u) k.actions)
          (all-flat IsAny _ (λ (c : PlainCase). bounds_by k f u c.state) (λ c j. bounds-by-below n k f u c.state h g i) k.cases (all-any IsAny (λ x. tt) k.cases))
          (all-flat IsAny _ (action_bounds k f u) (λ a j. actions-below n k f u a h g i) k.actions (all-any IsAny (λ x. tt) k.actions)),
    ),
  ),
)

form-bounds-below : (n : ℕ) (u : Linear) (f : Form) → IsBelow n u → FormIsBelow n f → AreMadeBelow n (form_bounds u f)
form-bounds-below n u (Span a None) h k = bounds-below n u [] a h k
form-bounds-below n u (Span a (Some e)) h k = bounds-below n u [] a h k.0
form-bounds-below n u f h k = tt

piece-bounds-below : (n : ℕ) (f : PlainFact) (u : Linear) (q : Piece) → IsBelow n u → FormIsBelow n q.form → AreMadeBelow n (piece_bounds f u q)
piece-bounds-below n f u q h k = by_test (of_guards f.region f.kind q)
  where
    by_test : (b : Bool) → AreMadeBelow n (if b then form_bounds u q.form else [])
    by_test true = form-bounds-below n u q.form h k
    by_test false = tt

without-repeats-below : (n : ℕ) (earlier ms : List MadeRow) → AreMadeBelow n ms → AreMadeBelow n (without_repeats earlier ms)
without-repeats-below n earlier [] h = tt
without-repeats-below n earlier (m ∷ ms) h = by_test (is_made m && list_any (repeats m) earlier) (without-repeats-below n earlier ms h.1) (without-repeats-below n (m ∷ earlier) ms h.1)
  where
    by_test : (b : Bool) → AreMadeBelow n (without_repeats earlier ms) → AreMadeBelow n (without_repeats (m ∷ earlier) ms) → AreMadeBelow n (if b then without_repeats earlier ms else m ∷ without_repeats (m ∷ earlier) ms)
    by_test true k g = k
    by_test false k g = (h.0, g)

named-below : (n low : ℕ) (all : List MadeRow) (is : List ℕ) → AreMadeBelow n all → Reaches (RowsBelow n) (named_candidates low all is)
named-below n low all [] h = at (RowsBelow n) [] tt
named-below n low all (i ∷ is) h =
    chain _ _ (any (need (nat_le low i)))
    (λ u a. chain _ _ (at-found (λ (m : MadeRow). IsBelow n m.row.term) (slice_get all i) (all-get (λ (m : MadeRow). IsBelow n m.row.term) all i h))
    (λ m j. chain (computed m.row m.steps) (λ r. named_candidates (i + 1) all is >>= λ rs. unit (r ∷ rs)) (at-computed (λ (r : Row). IsBelow n r.term) m.row m.steps j)
    (λ r l. chain _ _ (named-below n (i + 1) all is h) (λ rs o. at (RowsBelow n) (r ∷ rs) (l, o)))))

-- the fact of this number has a new state, and there are as many
record Settles (p : PlainProgram) (s : PlainState) (t : PlainState) : Type 0 where
  next : Next p s t
  facts : length t.facts ≡ length s.facts

settled-fits : (p : PlainProgram) (s : PlainState) (j : ℕ) (f : PlainFact) (named : List Row) → StateFits p s → KnownFactFits p (count s) f → RowsBelow (suc (count s)) named → Reaches (Settles p s) (with_settled s j f named)
settled-fits p s j f named h k g =
    chain _ _ (with-sort-fits p s Int h)
    (λ t i.
    let name = fresh-below p s t i in
    let facts : List PlainFact = slice_set s.facts j (with_state f (later_state s)) in
    let size = length-set s.facts j (with_state f (later_state s)) in
    let room = h.room.facts in
    let fact : KnownFactFits p (count t) (with_state f (later_state s)) = record { region = wider-below (count s) (count t) f.region i.next.grows.sorts k.region; arity = k.arity; args = each-map _ _ f.args k.args (λ u j. wider-below (count s) (count t) u i.next.grows.sorts j); state = name } in
    let u : PlainState = record t { facts = facts } in
    let fits : StateFits p u = with-facts-fit p t facts i.next.fits (all-set (KnownFactFits p (count t)) s.facts j (with_state f (later_state s)) (later-facts p s t s.facts i.next h.facts) fact) (omega arith) in
    let at-u : Next p s u = record { fits = fits; grows = record { sorts = i.next.grows.sorts; store = i.next.grows.store; envs = i.next.grows.envs }; opened = i.next.opened } in
    ending u at-u size (both (with-rows-next p u named fits (subst (λ n. RowsBelow n named) (sym i.more) g)) (rows-alike (λ (s : PlainState). s.facts) u named (record { sorts = λ s x. refl; rows = λ s x. refl }))))
  where
    ending : (u : PlainState) → Next p s u → length u.facts ≡ length s.facts → {o : Attempt PlainState} → Reaches (λ v. Next p u v × Alike (λ (s : PlainState). s.facts) u v) o → Reaches (Settles p s) o
    ending u n q {o = o} r = record { value = by o.value r.value }
      where
        by : (v : Option PlainState) → IfSome (λ v. Next p u v × Alike (λ (s : PlainState). s.facts) u v) v → IfSome (Settles p s) v
        by None i = tt
        by (Some v) i = record { next = further p s u v n i.0; facts = ap length i.1 ∙ q }

settle-fits : (p : PlainProgram) (k : PlainRegionType) (s : PlainState) (j : ℕ) (f : PlainFact) (list : List ℕ) → StateFits p s → KnownFactFits p (count s) f → Reaches (Settles p s) (settle k s j f list)
settle-fits p k s j f list h g =
    let more : count s ≤ suc (count s) = omega arith in
    let name = variable-below (suc (count s)) (count s) (omega arith) in
    let wide : (t : Linear) → IsBelow (count s) t → IsBelow (suc (count s)) t = λ t i. wider-below (count s) (suc (count s)) t more i in
    chain _ _ (named-below (suc (count s)) 1 (candidates k s f) list (without-repeats-below (suc (count s)) [] (all_candidates k f (later_state s) ++ flat_map (piece_bounds f (later_state s)) s.guards)
    (all-join _ (all_candidates k f (later_state s)) (flat_map (piece_bounds f (later_state s)) s.guards) (all-below (suc (count s)) k f (later_state s) (wide f.region g.region) (each-map _ _ f.args g.args wide) (wide f.state g.state) name)
    (all-flat (PieceFits p (count s)) _ (piece_bounds f (later_state s)) (λ q i. piece-bounds-below (suc (count s)) f (later_state s) q name (wider-form (count s) (suc (count s)) q.form more i.form)) s.guards h.guards))))
    (λ named i. chain _ _ (any (prove_at s s.rows f.state named))
    (λ u a. chain _ _ (any (prove_stable k s f named k.actions))
    (λ v b. settled-fits p s j f named h g i)))

keep-fits : (p : PlainProgram) (k : PlainRegionType) (s : PlainState) (j : ℕ) (f : PlainFact) → StateFits p s → KnownFactFits p (count s) f → Reaches (Settles p s) (keep k s j f)
keep-fits p k s j f h g =
    chain (comparison_row (later_state s) Equal f.state Int) (λ same. prove_kept k s f same k.actions >>= λ u. unit (record s { facts = slice_set s.facts j (with_state f f.state) })) (any (comparison_row (later_state s) Equal f.state Int))
    (λ same a. chain _ _ (any (prove_kept k s f same k.actions))
    (λ u b.
    let size = length-set s.facts j (with_state f f.state) in
    let room = h.room.facts in
    let fact : KnownFactFits p (count s) (with_state f f.state) = record { region = g.region; arity = g.arity; args = g.args; state = g.state } in
    at (Settles p s) (record s { facts = slice_set s.facts j (with_state f f.state) }) (record { next = record { fits = with-facts-fit p s (slice_set s.facts j (with_state f f.state)) h (all-set (KnownFactFits p (count s)) s.facts j (with_state f f.state) h.facts fact) (omega arith); grows = record { sorts = omega arith; store = refl; envs = envs-same s.envs }; opened = refl }; facts = size })))

rest-kept : (p : PlainProgram) (s : PlainState) (j n : ℕ) (ts : List PlainTask) (o : PlainFact → PlainRegionType → Attempt PlainState) → StateFits p s → AllByRecursion (WaitingFits p s) ts → AllByRecursion ChecksNoMove ts → ((f : PlainFact) (k : PlainRegionType) → KnownFactFits p (count s) f → Reaches (Settles p s) (o f k)) → Reaches (AreKept p) (found (slice_get s.facts j) >>= λ f. found (slice_get p.regions f.kind) >>= λ k. o f k >>= λ t. leaves t (to_rest (j + 1) n ∷ ts))
rest-kept p s j n ts o h w calm f =
    chain _ _ (there (slice_get s.facts j))
    (λ x e. chain _ _ (any (found (slice_get p.regions x.kind)))
    (λ k a. chain _ _ (f x k (each-get (KnownFactFits p (count s)) s.facts j x h.facts e))
    (λ t i.
    let here : j < length s.facts = slice_get_within s.facts j x e in
    let size = i.facts in
    leaves-first p t (to_rest (j + 1) n) ts i.next.fits (let l : j + 1 ≤ length t.facts = omega arith in l) (no-moves-stay p s t ts i.next.grows calm w) calm)))

-- ---- making

take-length : {A : Type 0} (n : ℕ) (xs : List A) → n ≤ length xs → length (take n xs) ≡ n
take-length zero xs h = refl
take-length (suc n) [] h = absurd (let k : suc n ≤ 0 = h in omega arith)
take-length (suc n) (x ∷ xs) h = ap suc (take-length n xs (omega arith))

one-less : {A : Type 0} (xs : List A) → length xs ≤ suc (length (drop 1 xs))
one-less [] = omega arith
one-less (x ∷ xs) = omega arith

args-fit : (n m : ℕ) (env : PlainEnv) → EnvBelow n env → m ≤ length env → Reaches (λ ts. AllByRecursion (IsBelow n) ts × (length ts ≡ m - 1)) (args_in env m)
args-fit n m env h l = sized (each-reaches (NameIsBelow n) (IsBelow n) found (λ o i. at-found (IsBelow n) o (name-some n o i)) (take (m - 1) (drop 1 env)) (all-take (NameIsBelow n) (m - 1) (drop 1 env) (all-drop (NameIsBelow n) 1 env h)))
  where
    size : length (take (m - 1) (drop 1 env)) ≡ m - 1
    size = take-length (m - 1) (drop 1 env) (let k = one-less env in omega arith)

    by : (v : Option (List Linear)) → IfSome (λ ts. AllByRecursion (IsBelow n) ts × (length ts ≡ length (take (m - 1) (drop 1 env)))) v → IfSome (λ ts. AllByRecursion (IsBelow n) ts × (length ts ≡ m - 1)) v
    by None i = tt
    by (Some ts) i = (i.0, i.1 ∙ size)

    sized : {o : Attempt (List Linear)} → Reaches (λ ts. AllByRecursion (IsBelow n) ts × (length ts ≡ length (take (m - 1) (drop 1 env)))) o → Reaches (λ ts. AllByRecursion (IsBelow n) ts × (length ts ≡ m - 1)) o
    sized {o = o} r = record { value = by o.value r.value }

made-kept : (p : PlainProgram) (s : PlainState) (k c e : ℕ) (t : Linear) (n : ℕ) (ts : List PlainTask) → IsWellFormed p → StateFits p s → TaskFits p s (to_make k c e t n) → AllByRecursion (WaitingFits p s) ts → ChecksFirst ts → Reaches (AreKept p) (at_made p s k c e t ts)
made-kept p s k c e t n ts formed h q w checks =
    let env = env-at-fits p s e h in
    chain _ _ (there (slice_get p.regions k))
    (λ y ey. chain _ _ (there (slice_get y.cases c))
    (λ z ez. chain _ _ (any (prove_comparisons s.rows (env_at s e) z.when))
    (λ u a. chain _ _ (determined-fits (count s) (env_at s e) z.state env)
    (λ state i.
    let type : RegionFits p y = each-get (RegionFits p) p.regions k y formed.regions ey in
    let itself : 0 < y.params = type.itself in
    let place : CaseEnvFits s y c e = of-some (λ (y : PlainRegionType). CaseEnvFits s y c e) (slice_get p.regions k) y ey q.0 in
    let names : length (env_at s e) ≡ y.params + length z.names = env-length (slice_get s.envs e) s.envs e (y.params + length z.names) refl (of-some (λ (z : PlainCase). IsSomeAnd (slice_get s.envs e) (λ env. length env ≡ y.params + length z.names)) (slice_get y.cases c) z ez place) in
    chain _ _ (args-fit (count s) y.params (env_at s e) env (omega arith))
    (λ args j.
    let fact : KnownFactFits p (count s) (fact_of t k args state) = record { region = q.1; arity = some-of _ (slice_get p.regions k) y ey (let l = j.1 in let o : y.params ≡ suc (length args) = omega arith in o); args = j.0; state = i } in
    chain _ _ (with-fact-fits p s (fact_of t k args state) h fact)
    (λ v l. leaves-kept p v ts l.fits (all-stay p s v ts l w) checks))))))
  where
    env-length : (o : Option PlainEnv) (envs : List PlainEnv) (e n : ℕ) → slice_get envs e ≡ o → IsSomeAnd o (λ env. length env ≡ n) → length (get_or envs e []) ≡ n
    env-length None envs e n q h = absurd h
    env-length (Some env) [] e n q h = absurd cc
    env-length (Some env) (x ∷ envs) zero n q h = let f : x ≡ env = cc in ap length f ∙ h
    env-length (Some env) (x ∷ envs) (suc e) n q h = env-length (Some env) envs e n q h

-- ---- all tasks

task-kept : (p : PlainProgram) (s : PlainState) (marks : List Bool) (c : PlainChoice) (t : PlainTask) (ts : List PlainTask) → IsWellFormed p → StateFits p s → TaskFits p s t → AllByRecursion (WaitingFits p s) ts → ChecksFirst (t ∷ ts) → Reaches (AreKept p) (at_task p s marks c t ts)
task-kept p s marks (by_absurd c) t ts f h k w d = record { value = tt }
task-kept p s marks c (to_run home (first l a rest)) ts f h k w d = run-kept p s marks c home l a rest ts f (record { fits = h; run = k; waiting = w; calm = d })
  where
    run-kept : (p : PlainProgram) (s : PlainState) (marks : List Bool) (c : PlainChoice) (home : Home) (l : Label) (a : PlainAct) (rest : Block) (ts : List PlainTask) → IsWellFormed p → Running p s home (first l a rest) ts → Reaches (AreKept p) (at_statement p s marks c home l a rest ts)
    run-kept p s marks c home l a rest ts f h = statement-kept p s marks c home l a rest ts f h
task-kept p s marks c (to_turn home (first l a rest)) ts f h k w d = turn-kept p s c home l a rest ts (record { fits = h; run = k.0; waiting = w; calm = d })
task-kept p s marks c (to_take (item i more) e left n) ts f h k w d = item-kept p s c i (record { items = more; env = e; left = left; statement = n; tasks = ts }) f (record { fits = h; items = k; waiting = w; checks = d })
task-kept p s marks by_give (to_give items e n) ts f h k w d = give-kept p s e n ts items h k d w
task-kept p s marks (by_pick o c m) (to_close all n) ts f h k w d = close-kept p s o c m all n ts f h w d
task-kept p s marks (by_shift cs js) (to_shift o c m e n) ts f h k w d = shift-kept p s js o c m e ts h w d
task-kept p s marks (by_settle list cs) (to_rest j n) ts f h k w d = rest-kept p s j n ts (λ x y. settle y s j x list) h w d (λ x y i. settle-fits p y s j x list h i)
task-kept p s marks (by_keep cs) (to_rest j n) ts f h k w d = rest-kept p s j n ts (λ x y. keep y s j x) h w d (λ x y i. keep-fits p y s j x h i)
task-kept p s marks (by_made cs) (to_make y c e t n) ts f h k w d = made-kept p s y c e t n ts f h k w d
task-kept p s marks c t ts f h k w d = nowhere (AreKept p)

tasks-kept : (p : PlainProgram) (s : PlainState) (marks : List Bool) (c : PlainChoice) (ts : List PlainTask) → IsWellFormed p → StateFits p s → TasksFit p s ts → ChecksFirst ts → Reaches (AreKept p) (at_tasks p s marks c ts)
tasks-kept p s marks c [] f h k d = nowhere (AreKept p)
tasks-kept p s marks c (t ∷ ts) f h k d = task-kept p s marks c t ts f h k.0 k.1 d

rule-kept : (p : PlainProgram) (g : PlainGoal) (c : PlainChoice) (marks : List Bool) → IsWellFormed p → IsKept p g → Reaches (AreKept p) (rule p g c marks)
rule-kept p g c marks f h = tasks-kept p g.state marks c g.tasks f h.fits.state h.fits.tasks h.checks

value-kept : (p : PlainProgram) (o : Option (List PlainGoal)) (gs : List PlainGoal) → o ≡ Some gs → IfSome (AreKept p) o → AreKept p gs
value-kept p None gs e h = absurd cc
value-kept p (Some hs) gs e h = subst (AreKept p) (let q : hs ≡ gs = cc in q) h

pub subgoals-kept : SubgoalsAreKept
subgoals-kept p g c gs f h s = value-kept p (rule p g c (marks_of c)).value gs (answers-succeed (rule p g c (marks_of c)) (certs_of c) gs s).value (rule-kept p g c (marks_of c) f h).value
