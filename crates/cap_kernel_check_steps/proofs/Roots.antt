-- What a walk over the trees of all units tells of their faults.
use Rattle.std.proofs.Common.{◌≡◌, inl, inr, ℕ, suc, ◌+◌, ◌≤◌, ◌<◌, ℤ, Bool, true, false, List, [], ◌∷◌, ◌++◌, length, map, flat_map, Option, Some, None, refl, sym, ap, subst, ◌∙◌, arith, length-append}
use Rattle.std.specs.Prelude.{slice_get}
use Rattle.std.specs.List.{AllByRecursion, AllZip}
use Rattle.std.proofs.lemmas.List.{length-map, map-append}
use Rattle.std.proofs.lemmas.Slice.Zip.{AllZip-long}
use Rattle.cap_lin.specs.Steps.{first_wide}
use Rattle.cap_lin.proofs.Results.{first-narrow, narrow-left, narrow-right}
use Rattle.cap_prog.specs.Program.{PlainProgram, PlainCase, PlainRegionType}
use Rattle.cap_goal_spec.specs.States.{PlainGoal}
use Rattle.cap_goal_spec.specs.Choices.{PlainTree}
use Rattle.cap_goal_spec.specs.Roots.{PlainUnit, region_unit, function_unit, roots, roots_steps, region_roots, region_steps, case_root, case_steps, units, all_roots, all_roots_steps}
use Rattle.cap_rules.specs.Valid.{deepest, Derives, RootDerives, Valid}
use Rattle.cap_kernel_check_steps.specs.Starts.{PlainStart, no_tasks, at_goal, barred, start_of, starts_unless, unit_starts, starts, StartDerives}
use Rattle.cap_kernel_check_steps.specs.Faults.{nodes_of, Fault, failed, left_over, missing, unrooted, HasFault, StartsFault, ShowsFault, TellsNode, TellsShape}
use Rattle.cap_kernel_check_steps.specs.Walks.{PlainWalk, Outcome, goes_on, at_node, at_shape, passed, next_of, After, unless_lacking, unrooted_at, VisitsStarts, ended}
use Rattle.cap_kernel_check_steps.specs.Laws.{FaultyAreInvalid, Tells, WalksTell}
use Rattle.cap_kernel_check_steps.proofs.Telling.{Shows, With, Told, Within, true-false, both-ways, failed-missing, failed-left, failed-unrooted, missing-unrooted, with-above, told-same, told-after, unless-cases}
use Rattle.cap_kernel_check_steps.proofs.Trees.{has-above, some-node, visits-within, tells-left, tells-pending, tells-missing, tells-none, visits-told, derives-fine}

-- ---- derivations by starts

abbrev IsOpen : PlainStart → Type 0
IsOpen no_tasks = Unit {0}
IsOpen (at_goal g) = Unit {0}
IsOpen barred = ⊥

derives-open : (p : PlainProgram) (ts : List (Option PlainTree)) (ss : List PlainStart) → AllZip (StartDerives p) ts ss → AllByRecursion IsOpen ss
derives-open p [] [] z = tt
derives-open p [] (s ∷ ss) z = absurd z
derives-open p (o ∷ ts) [] z = absurd z
derives-open p (o ∷ ts) (barred ∷ ss) z = absurd z.0
derives-open p (o ∷ ts) (no_tasks ∷ ss) z = (tt, derives-open p ts ss z.1)
derives-open p (o ∷ ts) (at_goal g ∷ ss) z = (tt, derives-open p ts ss z.1)

starts-roots : (p : PlainProgram) (ts : List (Option PlainTree)) (rs : List (Option PlainGoal)) → AllZip (StartDerives p) ts (map start_of rs) → AllZip (RootDerives p) ts rs
starts-roots p [] [] z = tt
starts-roots p [] (r ∷ rs) z = absurd z
starts-roots p (o ∷ ts) [] z = absurd z
starts-roots p (None ∷ ts) (None ∷ rs) z = (tt, starts-roots p ts rs z.1)
starts-roots p (Some t ∷ ts) (None ∷ rs) z = absurd z.0
starts-roots p (None ∷ ts) (Some g ∷ rs) z = absurd z.0
starts-roots p (Some t ∷ ts) (Some g ∷ rs) z = (z.0, starts-roots p ts rs z.1)

-- ---- without terms that leave 128 bits the starts are the roots

open-left : (xs ys : List PlainStart) → AllByRecursion IsOpen (xs ++ ys) → AllByRecursion IsOpen xs
open-left [] ys h = tt
open-left (x ∷ xs) ys h = (h.0, open-left xs ys h.1)

open-right : (xs ys : List PlainStart) → AllByRecursion IsOpen (xs ++ ys) → AllByRecursion IsOpen ys
open-right [] ys h = h
open-right (x ∷ xs) ys h = open-right xs ys h.1

pub no-steps : first_wide [] ≡ None
unfolding first_wide
no-steps = refl

no-cases : (k : PlainRegionType) (n : ℕ) (cs : List PlainCase) → map (case_root k n) cs ≡ [] → first_wide (flat_map case_steps cs) ≡ None
no-cases k n [] e = no-steps
no-cases k n (c ∷ cs) e = absurd (let x : case_root k n c ∷ map (case_root k n) cs ≡ [] = e in cc)

region-no-roots : (o : Option PlainRegionType) (n : ℕ) → region_roots o n ≡ [] → first_wide (region_steps o) ≡ None
region-no-roots None n e = no-steps
region-no-roots (Some k) n e = no-cases k n k.cases e

-- a unit without roots makes no results
no-roots : (p : PlainProgram) (u : PlainUnit) → roots p u ≡ [] → first_wide (roots_steps p u) ≡ None
no-roots p (region_unit n) e = region-no-roots (slice_get p.regions n) n e
no-roots p (function_unit n) e = no-steps

unit-open : (w : Option (ℤ × ℤ)) (rs : List (Option PlainGoal)) → (rs ≡ [] → w ≡ None) → AllByRecursion IsOpen (starts_unless w rs) → w ≡ None
unit-open None rs empty h = refl
unit-open (Some w) [] empty h = empty refl
unit-open (Some w) (r ∷ rs) empty h = absurd h.0

open-narrow : (p : PlainProgram) (us : List PlainUnit) → AllByRecursion IsOpen (flat_map (unit_starts p) us) → first_wide (flat_map (roots_steps p) us) ≡ None
unfolding first_wide
open-narrow p [] h = refl
open-narrow p (u ∷ us) h =
    let n : first_wide (roots_steps p u) ≡ None = unit-open (first_wide (roots_steps p u)) (roots p u) (no-roots p u) (open-left (unit_starts p u) (flat_map (unit_starts p) us) h) in
    first-narrow (roots_steps p u) (flat_map (roots_steps p) us) n ∙ open-narrow p us (open-right (unit_starts p u) (flat_map (unit_starts p) us) h)

pub narrow-starts : (p : PlainProgram) (us : List PlainUnit) → first_wide (flat_map (roots_steps p) us) ≡ None → flat_map (unit_starts p) us ≡ map start_of (flat_map (roots p) us)
narrow-starts p [] h = refl
narrow-starts p (u ∷ us) h =
    let n : first_wide (roots_steps p u) ≡ None = narrow-left (roots_steps p u) (flat_map (roots_steps p) us) h in
    let more : flat_map (unit_starts p) us ≡ map start_of (flat_map (roots p) us) = narrow-starts p us (narrow-right (roots_steps p u) (flat_map (roots_steps p) us) h) in
    let here : unit_starts p u ≡ map start_of (roots p u) = ap (λ w. starts_unless w (roots p u)) n in
    ap (λ xs. xs ++ flat_map (unit_starts p) us) here ∙ (ap (λ ys. map start_of (roots p u) ++ ys) more ∙ sym (map-append start_of (roots p u) (flat_map (roots p) us)))

pub derives-valid : (p : PlainProgram) (trees : List (Option PlainTree)) → AllZip (StartDerives p) trees (starts p) → Valid p trees
derives-valid p trees z =
    let n : first_wide (all_roots_steps p) ≡ None = open-narrow p (units p) (derives-open p trees (starts p) z) in
    record {
      narrow = n;
      derivations = starts-roots p trees (all_roots p) (subst (AllZip (StartDerives p) trees) (narrow-starts p (units p) n) z);
    }

-- ---- valid trees have no faults

roots-fine : (p : PlainProgram) (n : ℕ) (ts : List (Option PlainTree)) (rs : List (Option PlainGoal)) (f : Fault) (k : ℕ) → AllZip (RootDerives p) ts rs → ¬ StartsFault p n ts (map start_of rs) f k
roots-fine p n [] rs f k z h = h
roots-fine p n (o ∷ ts) [] f k z h = h
roots-fine p n (None ∷ ts) (None ∷ rs) f k z h = roots-fine p n ts rs f k z.1 h
roots-fine p n (Some t ∷ ts) (None ∷ rs) f k z h = absurd z.0
roots-fine p n (None ∷ ts) (Some g ∷ rs) f k z h = absurd z.0
roots-fine p n (Some t ∷ ts) (Some g ∷ rs) f k z (inl h) = derives-fine t p n 1 g f k z.0 h
roots-fine p n (Some t ∷ ts) (Some g ∷ rs) f k z (inr h) = roots-fine p (n + nodes_of t) ts rs f k z.1 h

valid-fine : (p : PlainProgram) (trees : List (Option PlainTree)) (f : Fault) (k : ℕ) → Valid p trees → ¬ ShowsFault p trees f k
valid-fine p trees f k v h = roots-fine p 0 trees (all_roots p) f k v.derivations (subst (λ ss. StartsFault p 0 trees ss f k) (narrow-starts p (units p) v.narrow) h)

node-invalid : (p : PlainProgram) (trees : List (Option PlainTree)) (k : ℕ) → TellsNode p trees k → ¬ Valid p trees
node-invalid p trees k (same, inl h) v = valid-fine p trees failed k v h.0
node-invalid p trees k (same, inr h) v = valid-fine p trees unrooted k v h.0.0

shape-invalid : (p : PlainProgram) (trees : List (Option PlainTree)) (k : ℕ) → TellsShape p trees k → ¬ Valid p trees
shape-invalid p trees k (inl h) v = h.1 (sym (AllZip-long (RootDerives p) trees (all_roots p) v.derivations))
shape-invalid p trees k (inr (same, (inl h, none))) v = valid-fine p trees left_over k v h.0
shape-invalid p trees k (inr (same, (inr h, none))) v = valid-fine p trees missing k v h.0

pub faulty-invalid : FaultyAreInvalid
faulty-invalid p trees k = (node-invalid p trees k, shape-invalid p trees k)

-- ---- what a walk over all trees tells

starts-above : (p : PlainProgram) (n : ℕ) (ts : List (Option PlainTree)) (ss : List PlainStart) (f : Fault) (k : ℕ) → StartsFault p n ts ss f k → n < k
starts-above p n [] ss f k h = absurd h
starts-above p n (o ∷ ts) [] f k h = absurd h
starts-above p n (o ∷ ts) (barred ∷ ss) f k h = omega (arith, h.1)
starts-above p n (None ∷ ts) (no_tasks ∷ ss) f k h = starts-above p n ts ss f k h
starts-above p n (Some t ∷ ts) (no_tasks ∷ ss) f k (inl h) = omega (arith, h.1)
starts-above p n (Some t ∷ ts) (no_tasks ∷ ss) f k (inr h) = let x : n + nodes_of t < k = starts-above p (n + nodes_of t) ts ss f k h in omega (arith, x)
starts-above p n (None ∷ ts) (at_goal g ∷ ss) f k (inl h) = omega (arith, h.1)
starts-above p n (None ∷ ts) (at_goal g ∷ ss) f k (inr h) = starts-above p n ts ss f k h
starts-above p n (Some t ∷ ts) (at_goal g ∷ ss) f k (inl h) = has-above t p n 1 g f k h
starts-above p n (Some t ∷ ts) (at_goal g ∷ ss) f k (inr h) = let x : n + nodes_of t < k = starts-above p (n + nodes_of t) ts ss f k h in omega (arith, x)

unrooted-told : (p : PlainProgram) (w : PlainWalk) (o : Option PlainTree) (ts : List (Option PlainTree)) (ss : List PlainStart) (D : Type 0) (end : Outcome) (Next : PlainWalk → Outcome → Type 0) → After (unrooted_at w) Next end → Told (With w (StartsFault p w.before (o ∷ ts) (barred ∷ ss))) D end
unrooted-told p w o ts ss D end Next h =
    unless-cases w.lacks (at_node (suc w.before)) end (suc w.before) Next (Told (With w (StartsFault p w.before (o ∷ ts) (barred ∷ ss))) D end)
    (λ l e. tells-pending w (StartsFault p w.before (o ∷ ts) (barred ∷ ss)) D end l (λ x. failed-unrooted x.0) (λ f k x. starts-above p w.before (o ∷ ts) (barred ∷ ss) f k x) e)
    (λ l e. subst (Told (With w (StartsFault p w.before (o ∷ ts) (barred ∷ ss))) D) (sym e) (inr ((inl (refl, refl), with-above w (StartsFault p w.before (o ∷ ts) (barred ∷ ss)) (λ f k x. starts-above p w.before (o ∷ ts) (barred ∷ ss) f k x)), λ x. none l x)))
    h
  where
    none : w.lacks ≡ false → ¬ With w (StartsFault p w.before (o ∷ ts) (barred ∷ ss)) missing (suc w.before)
    none l (inl (e, at)) = missing-unrooted e
    none l (inr (t, m, at)) = both-ways w.lacks t l

abbrev At : Fault → ℕ → Shows
At e n f k = (f ≡ e) × (k ≡ suc n)

starts-told : (ts : List (Option PlainTree)) (ss : List PlainStart) (p : PlainProgram) (w : PlainWalk) (end : Outcome) → length ts ≡ length ss → VisitsStarts p w ts ss end → Told (With w (StartsFault p w.before ts ss)) (AllZip (StartDerives p) ts ss) end
starts-told [] [] p w end same h = tells-none w (StartsFault p w.before [] []) (AllZip (StartDerives p) [] []) end (λ f k x. x) tt h
starts-told [] (s ∷ ss) p w end same h = absurd (omega (arith, same))
starts-told (o ∷ ts) [] p w end same h = absurd (omega (arith, same))
starts-told (o ∷ ts) (barred ∷ ss) p w end same (m, e, a) =
    unrooted-told p w o ts ss (AllZip (StartDerives p) (o ∷ ts) (barred ∷ ss)) end (λ v x. VisitsStarts p v ts ss x) (subst (λ x. After x (λ v y. VisitsStarts p v ts ss y) end) e a)
starts-told (None ∷ ts) (no_tasks ∷ ss) p w end same (m, e, a) =
    told-same (With w (StartsFault p w.before ts ss)) (With w (StartsFault p w.before ts ss)) (AllZip (StartDerives p) ts ss) (AllZip (StartDerives p) (None ∷ ts) (no_tasks ∷ ss)) end (λ f k x. x) (λ f k x. x) (λ none z. (tt, z))
    (starts-told ts ss p w end (omega (arith, same)) (subst (λ x. After x (λ v y. VisitsStarts p v ts ss y) end) e a))
starts-told (Some t ∷ ts) (no_tasks ∷ ss) p w end same (m, e, a) =
    told-after w (At left_over w.before) (StartsFault p (w.before + nodes_of t) ts ss) ⊥ (AllZip (StartDerives p) ts ss) (w.before + nodes_of t) m end (λ v x. VisitsStarts p v ts ss x)
    (λ f k x. starts-above p (w.before + nodes_of t) ts ss f k x)
    (subst (Within (w.before + nodes_of t)) (sym e) (let x : 1 ≤ nodes_of t = some-node t in omega (arith, x)))
    (tells-left w (At left_over w.before) ⊥ m (refl, refl) (λ x. failed-left x.0) (λ f k x. omega (arith, x.1)) e)
    (λ u at x. subst (λ n. Told (With u (StartsFault p n ts ss)) (AllZip (StartDerives p) ts ss) end) at (starts-told ts ss p u end (omega (arith, same)) x)) a
starts-told (None ∷ ts) (at_goal g ∷ ss) p w end same (m, e, a) =
    told-after w (At missing w.before) (StartsFault p w.before ts ss) ⊥ (AllZip (StartDerives p) ts ss) w.before m end (λ v x. VisitsStarts p v ts ss x)
    (λ f k x. starts-above p w.before ts ss f k x)
    (subst (Within w.before) (sym e) refl)
    (tells-missing w (At missing w.before) ⊥ m (λ f k x. x) (refl, refl) e)
    (λ u at x. subst (λ n. Told (With u (StartsFault p n ts ss)) (AllZip (StartDerives p) ts ss) end) at (starts-told ts ss p u end (omega (arith, same)) x)) a
starts-told (Some t ∷ ts) (at_goal g ∷ ss) p w end same (m, v, a) =
    told-after w (HasFault p w.before 1 t g) (StartsFault p (w.before + nodes_of t) ts ss) (Derives p 1 t g) (AllZip (StartDerives p) ts ss) (w.before + nodes_of t) m end (λ u x. VisitsStarts p u ts ss x)
    (λ f k x. starts-above p (w.before + nodes_of t) ts ss f k x)
    (visits-within t p w deepest g m (w.before + nodes_of t) refl v)
    (visits-told t p w deepest 1 g m (omega arith) v)
    (λ u at x. subst (λ n. Told (With u (StartsFault p n ts ss)) (AllZip (StartDerives p) ts ss) end) at (starts-told ts ss p u end (omega (arith, same)) x)) a

-- ---- at the end

length-unless : (w : Option (ℤ × ℤ)) (rs : List (Option PlainGoal)) → length (starts_unless w rs) ≡ length rs
length-unless None rs = length-map rs start_of
length-unless (Some w) rs = length-map rs (λ r. barred)

pub length-starts : (p : PlainProgram) (us : List PlainUnit) → length (flat_map (unit_starts p) us) ≡ length (flat_map (roots p) us)
length-starts p [] = refl
length-starts p (u ∷ us) =
    let here : length (unit_starts p u) ≡ length (roots p u) = length-unless (first_wide (roots_steps p u)) (roots p u) in
    let more : length (flat_map (unit_starts p) us) ≡ length (flat_map (roots p) us) = length-starts p us in
    let a : length (unit_starts p u ++ flat_map (unit_starts p) us) ≡ length (unit_starts p u) + length (flat_map (unit_starts p) us) = length-append (unit_starts p u) (flat_map (unit_starts p) us) in
    let b : length (roots p u ++ flat_map (roots p) us) ≡ length (roots p u) + length (flat_map (roots p) us) = length-append (roots p u) (flat_map (roots p) us) in
    omega (arith, here, more, a, b)

end-told : (p : PlainProgram) (trees : List (Option PlainTree)) (m o : Outcome) → length trees ≡ length (all_roots p) → Told (ShowsFault p trees) (AllZip (StartDerives p) trees (starts p)) m → After m (λ w end. end ≡ ended w) o → Tells p trees o
end-told p trees (goes_on v) o same t a = go v.lacks refl a
  where
    go : (b : Bool) → v.lacks ≡ b → o ≡ unless_lacking b (goes_on v) (next_of v) → Tells p trees o
    go true l e = subst (Tells p trees) (sym e) (inr (same, (inr (t.shown l, λ f j x. let y : j ≡ suc v.before = (t.all f j x).2 in omega (arith, y)), λ x. failed-missing (t.all failed (suc v.before) x).1)))
    go false l e = subst (Tells p trees) (sym e) (derives-valid p trees (t.derived l))
end-told p trees (at_node k) o same t a = subst (Tells p trees) (sym a) (same, t)
end-told p trees (at_shape k) o same t a = subst (Tells p trees) (sym a) (inr (same, t))

pub walks-told : WalksTell
walks-told p trees m o same v a =
    end-told p trees m o same (told-same (With (passed 0) (ShowsFault p trees)) (ShowsFault p trees) (AllZip (StartDerives p) trees (starts p)) (AllZip (StartDerives p) trees (starts p)) m (λ f k x. to f k x) (λ f k x. inl x) (λ none z. z) (starts-told trees (starts p) p (passed 0) m (same ∙ sym (length-starts p (units p))) v)) a
  where
    to : (f : Fault) (k : ℕ) → With (passed 0) (ShowsFault p trees) f k → ShowsFault p trees f k
    to f k (inl h) = h
    to f k (inr (l, m, x)) = true-false (sym l)
