-- Bounds by terms over a fact's names.
use Rattle.std.proofs.Common.{◌≡◌, ℕ, zero, suc, ℤ, ◌+◌, ◌<◌, ◌≤◌, Bool, true, false, List, [], ◌∷◌, ◌++◌, map, fold, length, drop, get_or, slice_index_or, drop-cons, Some, None, refl, sym, ap, ◌∙◌, arith}
use Rattle.std.specs.Prelude.{if◌then◌else◌, slice_get, unwrap_or, Result, Ok, Err, OnOk}
use Rattle.std.specs.List.{flat_map}
use Rattle.std.proofs.lemmas.List.{drop_all, map-append}
use Rattle.std.proofs.lemmas.Grind.{fold-append}
use Rattle.cap_lin.specs.Linear.{Linear, number, plus, times}
use Rattle.cap_lin.specs.Steps.{Step, first_wide, plus_steps, times_steps}
use Rattle.cap_lin.specs.Rows.{row_of, row_of_steps}
use Rattle.cap_lin.specs.declared.row.Op.{Op}
use Rattle.cap_lin.specs.declared.row.Op.TheVariants.{Le as AtMost}
use Rattle.cap_lin.specs.declared.row.Sort.TheVariants.{Int}
use Rattle.cap_lin.proofs.Results.{first-wide, first-narrow}
use Rattle.cap_gsolve.specs.declared.piece.Piece.{Piece}
use Rattle.cap_gsolve.specs.Pieces.{of_guards}
use Rattle.cap_prog.specs.Program.{PlainCase, PlainAction, PlainRegionType}
use Rattle.cap_goal_spec.specs.Terms.{with_multiples, with_multiples_steps, term_over, term_over_steps}
use Rattle.cap_goal_spec.specs.States.{PlainFact}
use Rattle.cap_goal_spec.specs.Environments.{zero_value, bound, bound_term, region_env, term_in}
use Rattle.cap_goal_spec.specs.Candidates.{MadeRow, made_row, bounds, bounds_by, action_bounds, form_bounds, piece_bounds, PlainCandidate, past, candidate_as, candidate_of}
use Rattle.cap_rules_steps.specs.Places.{term_among}
use Rattle.cap_lin.specs.Exact.{Explains}
use Rattle.cap_lin.specs.declared.error.LinError.{LinError}
use Rattle.cap_lin.specs.declared.error.LinError.TheVariants.{Wide, OutOfMemory}
use Rattle.cap_stab_states.specs.Adding.{IsPast, added, is_over, bounds_among, action_bounds_among}

-- ---- the same terms for the same names

over-same : (a b : ℕ → Linear) → ((x : ℕ) → a x ≡ b x) → (sum : Linear) (ps : List (ℕ × ℤ)) → with_multiples a sum ps ≡ with_multiples b sum ps
over-same a b e sum [] = refl
over-same a b e sum (p ∷ ps) = ap (λ t. with_multiples a (plus sum (times p.1 t)) ps) (e p.0) ∙ over-same a b e (plus sum (times p.1 (b p.0))) ps

steps-same : (a b : ℕ → Linear) → ((x : ℕ) → a x ≡ b x) → (sum : Linear) (ps : List (ℕ × ℤ)) → with_multiples_steps a sum ps ≡ with_multiples_steps b sum ps
steps-same a b e sum [] = refl
steps-same a b e sum (p ∷ ps) =
    ap (λ t. times_steps p.1 t ++ (plus_steps sum (times p.1 t) ++ with_multiples_steps a (plus sum (times p.1 t)) ps)) (e p.0)
    ∙ ap (λ more. times_steps p.1 (b p.0) ++ (plus_steps sum (times p.1 (b p.0)) ++ more)) (steps-same a b e (plus sum (times p.1 (b p.0))) ps)

names-same : (ts : List Linear) (x : ℕ) → unwrap_or (unwrap_or (slice_get (bound ts ++ []) x) None) zero_value ≡ get_or ts x zero_value
names-same [] zero = refl
names-same [] (suc x) = refl
names-same (t ∷ ts) zero = refl
names-same (t ∷ ts) (suc x) = names-same ts x

bound-same : (f : PlainFact) (x : ℕ) → bound_term (region_env f []) x ≡ term_among (f.region ∷ f.args) x
bound-same f zero = refl
bound-same f (suc x) = names-same f.args x

bounds-same : (k : PlainRegionType) (f : PlainFact) (u t : Linear) → bounds_by k f u t ≡ bounds_among k.params (f.region ∷ f.args) u t
bounds-same k f u t =
    ap (λ steps. if is_over k.params t then bounds u steps (term_in (region_env f []) t) else []) (steps-same (bound_term (region_env f [])) (term_among (f.region ∷ f.args)) (bound-same f) (number t.constant) t.parts)
    ∙ ap (λ v. if is_over k.params t then bounds u (term_over_steps (term_among (f.region ∷ f.args)) t) v else []) (over-same (bound_term (region_env f [])) (term_among (f.region ∷ f.args)) (bound-same f) (number t.constant) t.parts)

pub case-bounds : (k : PlainRegionType) (f : PlainFact) (u : Linear) (cs : List PlainCase) → flat_map (λ c. bounds_by k f u c.state) cs ≡ flat_map (λ c. bounds_among k.params (f.region ∷ f.args) u c.state) cs
case-bounds k f u [] = refl
case-bounds k f u (c ∷ cs) = ap (λ l. l ++ flat_map (λ c. bounds_by k f u c.state) cs) (bounds-same k f u c.state) ∙ ap (λ l. bounds_among k.params (f.region ∷ f.args) u c.state ++ l) (case-bounds k f u cs)

one-action : (k : PlainRegionType) (f : PlainFact) (u : Linear) (a : PlainAction) → action_bounds k f u a ≡ action_bounds_among k.params (f.region ∷ f.args) u a
one-action k f u a = ap (λ l. l ++ bounds_by k f u a.target) (bounds-same k f u a.source) ∙ ap (λ l. bounds_among k.params (f.region ∷ f.args) u a.source ++ l) (bounds-same k f u a.target)

pub all-action-bounds : (k : PlainRegionType) (f : PlainFact) (u : Linear) (as' : List PlainAction) → flat_map (action_bounds k f u) as' ≡ flat_map (action_bounds_among k.params (f.region ∷ f.args) u) as'
all-action-bounds k f u [] = refl
all-action-bounds k f u (a ∷ as') = ap (λ l. l ++ flat_map (action_bounds k f u) as') (one-action k f u a) ∙ ap (λ l. action_bounds_among k.params (f.region ∷ f.args) u a ++ l) (all-action-bounds k f u as')

-- ---- bounds by a value, or past 128 bits

known-after : (steps : List Step) (l : Linear) (op : Op) (r : Linear) → first_wide steps ≡ None → candidate_of (made_row steps l op r) ≡ candidate_of (made_row [] l op r)
known-after steps l op r n = ap (candidate_as (row_of l op r Int)) (first-narrow steps (row_of_steps l op r Int) n)

past-after : (steps : List Step) (l : Linear) (op : Op) (r : Linear) (a b : ℤ) → first_wide steps ≡ Some (a, b) → candidate_of (made_row steps l op r) ≡ past a b
past-after steps l op r a b e = ap (candidate_as (row_of l op r Int)) (first-wide steps (row_of_steps l op r Int) (a, b) e)

pub known-bounds : (all : List PlainCandidate) (u v : Linear) (steps : List Step) → first_wide steps ≡ None → fold added all (map candidate_of (bounds u [] v)) ≡ fold added all (map candidate_of (bounds u steps v))
known-bounds all u v steps n = sym (ap (λ c. added (added all c) (candidate_of (made_row steps u AtMost v))) (known-after steps v AtMost u n) ∙ ap (λ c. added (added all (candidate_of (made_row [] v AtMost u))) c) (known-after steps u AtMost v n))

pub past-bounds : (all : List PlainCandidate) (u v : Linear) (steps : List Step) (a b : ℤ) → first_wide steps ≡ Some (a, b) → added (added all (past a b)) (past a b) ≡ fold added all (map candidate_of (bounds u steps v))
past-bounds all u v steps a b e = sym (ap (λ c. added (added all c) (candidate_of (made_row steps u AtMost v))) (past-after steps v AtMost u a b e) ∙ ap (λ c. added (added all (past a b)) c) (past-after steps u AtMost v a b e))

pub bounds-if : (count : ℕ) (names : List Linear) (u t : Linear) (b : Bool) → is_over count t ≡ b → bounds_among count names u t ≡ (if b then bounds u (term_over_steps (term_among names) t) (term_over (term_among names) t) else [])
bounds-if count names u t b e = ap (λ c. if c then bounds u (term_over_steps (term_among names) t) (term_over (term_among names) t) else []) e

-- ---- all of a list

next : {A : Type 0} (xs : List A) (i : ℕ) (x : A) → i < length xs → x ≡ slice_index_or xs i x → drop i xs ≡ x ∷ drop (i + 1) xs
next xs i x h e = drop-cons xs i x h ∙ (ap (λ y. y ∷ drop (suc i) xs) (sym e) ∙ ap (λ j. x ∷ drop j xs) (more i))
  where
    more : (i : ℕ) → suc i ≡ i + 1
    more i = omega arith

pub added-more : {A B : Type 0} (g : B → List MadeRow) (v : A → B) (all all' whole : List PlainCandidate) (xs : List A) (i : ℕ) (x : A) → all' ≡ fold added all (map candidate_of (g (v x))) → i < length xs → x ≡ slice_index_or xs i x → fold added all (map candidate_of (flat_map g (map v (drop i xs)))) ≡ whole → fold added all' (map candidate_of (flat_map g (map v (drop (i + 1) xs)))) ≡ whole
added-more g v all all' whole xs i x e h at inv =
    let rest : List MadeRow = flat_map g (map v (drop (i + 1) xs)) in
    ap (λ l. fold added l (map candidate_of rest)) e
    ∙ (sym (fold-append added all (map candidate_of (g (v x))) (map candidate_of rest))
    ∙ (ap (fold added all) (sym (map-append candidate_of (g (v x)) rest))
    ∙ (ap (λ l. fold added all (map candidate_of (flat_map g (map v l)))) (sym (next xs i x h at)) ∙ inv)))

pub added-done : {A B : Type 0} (g : B → List MadeRow) (v : A → B) (all whole : List PlainCandidate) (xs : List A) (i : ℕ) → length xs ≤ i → fold added all (map candidate_of (flat_map g (map v (drop i xs)))) ≡ whole → all ≡ whole
added-done g v all whole xs i h inv = ap (λ l. fold added all (map candidate_of (flat_map g (map v l)))) (sym (drop_all i xs h)) ∙ inv

-- the same of a list that isn't seen by a view
pub each-more : {A : Type 0} (g : A → List MadeRow) (all all' whole : List PlainCandidate) (xs : List A) (i : ℕ) (x : A) → all' ≡ fold added all (map candidate_of (g x)) → i < length xs → x ≡ slice_index_or xs i x → fold added all (map candidate_of (flat_map g (drop i xs))) ≡ whole → fold added all' (map candidate_of (flat_map g (drop (i + 1) xs))) ≡ whole
each-more g all all' whole xs i x e h at inv =
    let rest : List MadeRow = flat_map g (drop (i + 1) xs) in
    ap (λ l. fold added l (map candidate_of rest)) e
    ∙ (sym (fold-append added all (map candidate_of (g x)) (map candidate_of rest))
    ∙ (ap (fold added all) (sym (map-append candidate_of (g x) rest))
    ∙ (ap (λ l. fold added all (map candidate_of (flat_map g l))) (sym (next xs i x h at)) ∙ inv)))

pub each-done : {A : Type 0} (g : A → List MadeRow) (all whole : List PlainCandidate) (xs : List A) (i : ℕ) → length xs ≤ i → fold added all (map candidate_of (flat_map g (drop i xs))) ≡ whole → all ≡ whole
each-done g all whole xs i h inv = ap (λ l. fold added all (map candidate_of (flat_map g l))) (sym (drop_all i xs h)) ∙ inv

-- bounds by a piece of the region's guards, and of no other one
pub of-region : (f : PlainFact) (u : Linear) (q : Piece) (b : Bool) → b ≡ of_guards f.region f.kind q → b ≡ true → piece_bounds f u q ≡ form_bounds u q.form
of-region f u q b e t = ap (λ (d : Bool). if d then form_bounds u q.form else []) (sym e ∙ t)

pub of-another : (f : PlainFact) (u : Linear) (q : Piece) (b : Bool) → b ≡ of_guards f.region f.kind q → b ≡ false → piece_bounds f u q ≡ []
of-another f u q b e t = ap (λ (d : Bool). if d then form_bounds u q.form else []) (sym e ∙ t)

-- two after each other
pub added-two : (all : List PlainCandidate) (xs ys : List MadeRow) → fold added (fold added all (map candidate_of xs)) (map candidate_of ys) ≡ fold added all (map candidate_of (xs ++ ys))
added-two all xs ys = sym (fold-append added all (map candidate_of xs) (map candidate_of ys)) ∙ ap (fold added all) (sym (map-append candidate_of xs ys))

pub known-among : (all : List PlainCandidate) (count : ℕ) (names : List Linear) (u t v : Linear) → is_over count t ≡ true → first_wide (term_over_steps (term_among names) t) ≡ None → v ≡ term_over (term_among names) t → fold added all (map candidate_of (bounds u [] v)) ≡ fold added all (map candidate_of (bounds_among count names u t))
known-among all count names u t v o n e =
    ap (λ w. fold added all (map candidate_of (bounds u [] w))) e
    ∙ (known-bounds all u (term_over (term_among names) t) (term_over_steps (term_among names) t) n ∙ ap (λ l. fold added all (map candidate_of l)) (sym (bounds-if count names u t true o)))

pub past-among : (all : List PlainCandidate) (count : ℕ) (names : List Linear) (u t : Linear) (a b : ℤ) → is_over count t ≡ true → first_wide (term_over_steps (term_among names) t) ≡ Some (a, b) → added (added all (past a b)) (past a b) ≡ fold added all (map candidate_of (bounds_among count names u t))
past-among all count names u t a b o e =
    past-bounds all u (term_over (term_among names) t) (term_over_steps (term_among names) t) a b e ∙ ap (λ l. fold added all (map candidate_of l)) (sym (bounds-if count names u t true o))

pub ok-then : {T E A : Type 0} (r : Result T E) (x y z : A) → y ≡ z → OnOk r (x ≡ y) → OnOk r (x ≡ z)
ok-then (Ok v) x y z e h = h ∙ e
ok-then (Err f) x y z e h = tt

pub past-either : (all : List PlainCandidate) (count : ℕ) (names : List Linear) (u t : Linear) (e : LinError) (x y : PlainCandidate) → is_over count t ≡ true → Explains e (term_over_steps (term_among names) t) → IsPast e x → IsPast e y → added (added all x) y ≡ fold added all (map candidate_of (bounds_among count names u t))
past-either all count names u t (Wide a b) x y o w p q = ap (λ c. added (added all c) y) p ∙ (ap (λ c. added (added all (past a b)) c) q ∙ past-among all count names u t a b o w)
past-either all count names u t OutOfMemory x y o w p q = absurd p
