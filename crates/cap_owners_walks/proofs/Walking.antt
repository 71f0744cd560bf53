-- A walk from a node on, by what it does at the node.
use Rattle.std.proofs.Common.{◌≡◌, ℕ, zero, suc, ◌+◌, ◌<◌, Bool, true, false, List, [], ◌∷◌, Option, Some, None, refl, sym, ap, ◌∙◌, subst, rules, arith}
use Rattle.cap_prog.specs.Program.{PlainProgram}
use Rattle.cap_goal_spec.specs.States.{PlainGoal}
use Rattle.cap_owners_spec.specs.Traced.{Traced, traced, past_width, untold}
use Rattle.cap_owners_spec.specs.Walks.{Walk, Descent, descends, Interpreting, Halt, stands, leaves, stops, walk_below, walk_from}
use Rattle.cap_owners_values.specs.declared.error.TraceError.{TraceError}
use Rattle.cap_owners_values.specs.declared.error.TraceError.TheVariants.{PastWidth, Untold, OutOfMemory}
use Rattle.cap_owners_values.specs.Views.{Traces}
use Rattle.std.specs.Prelude.{Result, Err, ℤ, map, drop, slice_get, option_map, option_copied}
use Rattle.std.specs.Borrow.{Bor}
use Rattle.cap_owners_places.specs.Places.{PlainPlaced, placed, PlainPlaces, no_places, places, goal_in, goals_in, trees_in, place_in, place_at, child_in, IsAtGoals, AllAreAtGoals}
use Rattle.cap_owners_places.specs.Places.{places_of}
use Rattle.cap_owners_places.specs.Views.{placed_view, IsPlaced}
use Rattle.cap_owners_places.specs.declared.placed.Placed.{Placed, out-Placed}
use Rattle.cap_owners_places.specs.declared.placed.Placed.TheFolds.{the_lemmas}
use Rattle.cap_goal.specs.Views.{choice_view, goal_view}
use Rattle.cap_goal_spec.specs.States.{PlainFact, PlainState}
use Rattle.cap_prog.specs.Program.{PlainRegionType}
use Rattle.cap_owners_spec.specs.Traced.{◌>>=◌, found, number_in}
use Rattle.cap_owners_spec.specs.Track.{Place, TrackedRegion, tracked_at}
use Rattle.cap_goal_spec.specs.Roots.{region_unit}
use Rattle.cap_machine_accounts.specs.Assertions.{NameValue}
use Rattle.cap_owners_spec.specs.Steps.{Proved, root_at, interpreted_again}
use Rattle.cap_owners_spec.specs.Walks.{on, bringing, pass_enter, Interpreted}
use Rattle.cap_owners_walks.specs.Nodes.{pass_node, Opened, opened_at, interpreted_at, entered, enter_opened, case_walked}
use Rattle.cap_owners_values.proofs.Tracing.{traces_same}
use Rattle.cap_owners_values.proofs.Tracing as tracing

-- ---- how many nodes there are below

abbrev mutual
  pub nodes_in : PlainPlaced → ℕ
  nodes_in (placed g c qs) = suc (nodes_below qs)

  pub nodes_below : PlainPlaces → ℕ
  nodes_below no_places = 0
  nodes_below (places q qs) = nodes_in q + nodes_below qs

fewer-below : (qs : PlainPlaces) (i : ℕ) (q : PlainPlaced) → place_at qs i ≡ Some q → nodes_in q < suc (nodes_below qs)
fewer-below no_places i q e = absurd cc
fewer-below (places r qs) zero q e = let h : nodes_in r ≡ nodes_in q = cc in omega (arith, h)
fewer-below (places r qs) (suc i) q e = let h = fewer-below qs i q e in omega (arith, h)

pub fewer : (r : PlainPlaced) (i : Option ℕ) (q : PlainPlaced) → child_in r i ≡ Some q → nodes_in q < nodes_in r
fewer r None q e = absurd cc
fewer (placed g c qs) (Some i) q e = fewer-below qs i q e

-- ---- children are at goals

below-at : (p : PlainProgram) (qs : PlainPlaces) (i : ℕ) (q : PlainPlaced) → AllAreAtGoals p qs → place_at qs i ≡ Some q → IsAtGoals p q
below-at p no_places i q a e = absurd cc
below-at p (places r qs) zero q a e = let h : r ≡ q = cc in subst (IsAtGoals p) h a.0
below-at p (places r qs) (suc i) q a e = below-at p qs i q a.1 e

pub child-at : (p : PlainProgram) (r : PlainPlaced) (i : Option ℕ) (q : PlainPlaced) → IsAtGoals p r → child_in r i ≡ Some q → IsAtGoals p q
child-at p r None q a e = absurd cc
child-at p (placed g c qs) (Some i) q a e = below-at p qs i q a.1 e

-- ---- a walk

abbrev pub walk_at : Interpreting → PlainProgram → Bool → PlainPlaced → Walk → Traced Halt
walk_at enter p s q w = walk_from enter p s (place_in q) w

pub stopped : (enter : Interpreting) (p : PlainProgram) (s : Bool) (q : PlainPlaced) (w : Walk) → stops s (goal_in q).tasks w ≡ true → walk_at enter p s q w ≡ traced (stands (place_in q) w)
stopped enter p s (placed g c qs) w h = rw h refl

module _ (enter : Interpreting) (p : PlainProgram) (s : Bool) where
  passes : (g : PlainGoal) (c : _) (qs : PlainPlaces) (w : Walk) (d : Traced Descent) → IsAtGoals p (placed g c qs) → stops s g.tasks w ≡ false → pass_node enter p (placed g c qs) w ≡ d → walk_at enter p s (placed g c qs) w ≡ walk_below enter p s (trees_in qs) (goals_in qs) d
  passes g c qs w d a h e = rw (h, sym a.0, e) refl

  below-found : (qs : PlainPlaces) (i : ℕ) (q : PlainPlaced) (w : Walk) → place_at qs i ≡ Some q → walk_below enter p s (trees_in qs) (goals_in qs) (traced (descends (Some i) w)) ≡ walk_at enter p s q w
  below-found no_places i q w e = absurd cc
  below-found (places r qs) zero q w e = let h : r ≡ q = cc in ap (λ z. walk_at enter p s z w) h
  below-found (places r qs) (suc i) q w e = below-found qs i q w e

  below-ends : (qs : PlainPlaces) (i : ℕ) (w : Walk) → place_at qs i ≡ None → walk_below enter p s (trees_in qs) (goals_in qs) (traced (descends (Some i) w)) ≡ traced (leaves w)
  below-ends no_places i w e = refl
  below-ends (places r qs) zero w e = absurd cc
  below-ends (places r qs) (suc i) w e = below-ends qs i w e

  none-ends : (qs : PlainPlaces) (w : Walk) → walk_below enter p s (trees_in qs) (goals_in qs) (traced (descends None w)) ≡ traced (leaves w)
  none-ends no_places w = refl
  none-ends (places r qs) w = refl

  -- on to a child
  pub goes_down : (r : PlainPlaced) (i : Option ℕ) (q : PlainPlaced) (w v : Walk) → IsAtGoals p r → stops s (goal_in r).tasks w ≡ false → pass_node enter p r w ≡ traced (descends i v) → child_in r i ≡ Some q → walk_at enter p s r w ≡ walk_at enter p s q v
  goes_down r None q w v a h e f = absurd cc
  goes_down (placed g c qs) (Some i) q w v a h e f = passes g c qs w (traced (descends (Some i) v)) a h e ∙ below-found qs i q v f

  -- to the end of the tree
  pub goes_out : (r : PlainPlaced) (i : Option ℕ) (w v : Walk) → IsAtGoals p r → stops s (goal_in r).tasks w ≡ false → pass_node enter p r w ≡ traced (descends i v) → child_in r i ≡ None → walk_at enter p s r w ≡ traced (leaves v)
  goes_out (placed g c qs) None w v a h e f = passes g c qs w (traced (descends None v)) a h e ∙ none-ends qs v
  goes_out (placed g c qs) (Some i) w v a h e f = passes g c qs w (traced (descends (Some i) v)) a h e ∙ below-ends qs i v f

  past-ends : (qs : PlainPlaces) → walk_below enter p s (trees_in qs) (goals_in qs) past_width ≡ past_width
  past-ends no_places = refl
  past-ends (places q qs) = refl

  untold-ends : (qs : PlainPlaces) → walk_below enter p s (trees_in qs) (goals_in qs) untold ≡ untold
  untold-ends no_places = refl
  untold-ends (places q qs) = refl

  -- an error at the node is one of the walk
  pub fails : {C D : Type 0} (r : PlainPlaced) (w : Walk) (e : TraceError) (view : C → Descent) (other : D → Halt) → IsAtGoals p r → stops s (goal_in r).tasks w ≡ false → Traces {A = Descent} {B = C} (Err e) view (pass_node enter p r w) → Traces {A = Halt} {B = D} (Err e) other (walk_at enter p s r w)
  fails (placed g c qs) w PastWidth view other a h t = passes g c qs w past_width a h t ∙ past-ends qs
  fails (placed g c qs) w Untold view other a h t = passes g c qs w untold a h t ∙ untold-ends qs
  fails r w OutOfMemory view other a h t = tt

-- so it is for the walk that has come there
pub fails-from : {C D : Type 0} (enter : Interpreting) (p : PlainProgram) (s : Bool) (start : Traced Halt) (r : PlainPlaced) (w : Walk) (e : TraceError) (view : C → Descent) (other : D → Halt) → walk_at enter p s r w ≡ start → IsAtGoals p r → stops s (goal_in r).tasks w ≡ false → Traces {A = Descent} {B = C} (Err e) view (pass_node enter p r w) → Traces {A = Halt} {B = D} (Err e) other start
fails-from enter p s start r w e view other from a h t = traces_same (Err e) other start (walk_at enter p s r w) (sym from) (fails enter p s r w e view other a h t)

-- ---- where a walk has still to go

-- from a node, or it is at the end of the tree
abbrev pub walk_on : Interpreting → PlainProgram → Bool → Option (Bor Placed) → Walk → Traced Halt
walk_on enter p s None w = traced (leaves w)
walk_on enter p s (Some q) w = walk_at enter p s (placed_view q.now) w

abbrev pub nodes_ahead : Option (Bor Placed) → ℕ
nodes_ahead None = 0
nodes_ahead (Some q) = nodes_in (placed_view q.now)

abbrev pub IsPlacedAhead : PlainProgram → Option (Bor Placed) → Type 0
IsPlacedAhead p None = Unit {0}
IsPlacedAhead p (Some q) = IsPlaced p q.now

-- the child to which a walk goes, if there is one
child-found : (q : Placed) (i : Option ℕ) (o : Option (Bor Placed)) (r : Bor Placed) → option_map (λ x. placed_view x.now) o ≡ child_in (placed_view q) i → o ≡ Some r → child_in (placed_view q) i ≡ Some (placed_view r.now)
child-found q i o r e f = sym e ∙ ap (option_map (λ x. placed_view x.now)) f

pub ahead-placed : (p : PlainProgram) (q : Placed) (i : Option ℕ) (o : Option (Bor Placed)) → IsPlaced p q → option_map (λ x. placed_view x.now) o ≡ child_in (placed_view q) i → IsPlacedAhead p o
ahead-placed p q i None a e = tt
ahead-placed p q i (Some r) a e = child-at p (placed_view q) i (placed_view r.now) a (sym e)

pub fewer-ahead : (q : Placed) (i : Option ℕ) (o : Option (Bor Placed)) → option_map (λ x. placed_view x.now) o ≡ child_in (placed_view q) i → nodes_ahead o < nodes_in (placed_view q)
fewer-ahead q i None e = some (placed_view q)
  where
    some : (q : PlainPlaced) → 0 < nodes_in q
    some (placed g c qs) = omega arith
fewer-ahead q i (Some r) e = fewer (placed_view q) i (placed_view r.now) (sym e)

pub walk-ahead : (enter : Interpreting) (p : PlainProgram) (s : Bool) (q : Placed) (i : Option ℕ) (o : Option (Bor Placed)) (w v : Walk) → IsPlaced p q → stops s (goal_in (placed_view q)).tasks w ≡ false → pass_node enter p (placed_view q) w ≡ traced (descends i v) → option_map (λ x. placed_view x.now) o ≡ child_in (placed_view q) i → walk_at enter p s (placed_view q) w ≡ walk_on enter p s o v
walk-ahead enter p s q i None w v a h e f = goes_out enter p s (placed_view q) i w v a h e (sym f)
walk-ahead enter p s q i (Some r) w v a h e f = goes_down enter p s (placed_view q) i (placed_view r.now) w v a h e (sym f)

-- ---- the children of a node

placed-seen : (q : Placed) → placed_view q ≡ placed (goal_view (out-Placed q).goal) (choice_view (out-Placed q).choice.now) (places_of (map placed_view (out-Placed q).children.items))
placed-seen q = search (rules, the_lemmas)

nth-seen : (qs : List Placed) (i : ℕ) → place_at (places_of (map placed_view qs)) i ≡ option_map placed_view (slice_get qs i)
nth-seen [] i = refl
nth-seen (q ∷ qs) zero = refl
nth-seen (q ∷ qs) (suc i) = nth-seen qs i

viewed : (o : Option (Bor Placed)) → option_map (λ x. placed_view x.now) o ≡ option_map placed_view (option_copied o)
viewed None = refl
viewed (Some q) = refl

pub child-seen : (q : Placed) (i : ℕ) (o : Option (Bor Placed)) → option_copied o ≡ slice_get (out-Placed q).children.items i → option_map (λ x. placed_view x.now) o ≡ child_in (placed_view q) (Some i)
child-seen q i o e =
    viewed o
    ∙ (ap (option_map placed_view) e
    ∙ (sym (nth-seen (out-Placed q).children.items i) ∙ ap (λ z. child_in z (Some i)) (sym (placed-seen q))))

-- ---- a region is entered

abbrev then-entered : Walk → ℕ → Traced Interpreted → Traced Descent
then-entered w params t = do
  x ← t
  traced (entered params w x)

pub opened-on : (enter : Interpreting) (w : Walk) (rs : List TrackedRegion) (o : Opened) (x : Interpreted) (d : Descent) → rs ≡ w.regions → interpreted_at enter rs o.number ≡ traced x → d ≡ entered o.params w x → enter_opened enter w o ≡ traced d
opened-on enter w rs o x d from e f =
    ap (λ z. then-entered w o.params (interpreted_at enter z o.number)) (sym from) ∙ (ap (then-entered w o.params) e ∙ ap traced (sym f))

pub opened-stops : {C D : Type 0} (enter : Interpreting) (w : Walk) (rs : List TrackedRegion) (o : Opened) (e : TraceError) (view : C → Interpreted) (other : D → Descent) → rs ≡ w.regions → Traces {A = Interpreted} {B = C} (Err e) view (interpreted_at enter rs o.number) → Traces {A = Descent} {B = D} (Err e) other (enter_opened enter w o)
opened-stops enter w rs o e view other from h =
    tracing.stops e view other (interpreted_at enter w.regions o.number) (λ x. traced (entered o.params w x))
    (subst (λ z. Traces (Err e) view (interpreted_at enter z o.number)) from h)

abbrev again : Proved → List TrackedRegion → TrackedRegion → Option Place → Traced Interpreted
again d rs r o = do
  q ← found o
  case_walked d.program rs r q

pub again-found : {D : Type 0} (d : Proved) (rs : List TrackedRegion) (r seen : TrackedRegion) (q : Place) (res : Result D TraceError) (view : D → Interpreted) → seen ≡ r → root_at d (region_unit seen.owned.region.kind) seen.case ≡ Some q → Traces res view (case_walked d.program rs r q) → Traces res view (interpreted_again d rs r)
again-found d rs r seen q res view e f h =
    let g = subst (λ z. root_at d (region_unit z.owned.region.kind) z.case ≡ Some q) e f in
    traces_same res view (interpreted_again d rs r) (case_walked d.program rs r q) (ap (again d rs r) g) h

pub again-none : (d : Proved) (rs : List TrackedRegion) (r seen : TrackedRegion) → seen ≡ r → root_at d (region_unit seen.owned.region.kind) seen.case ≡ None → interpreted_again d rs r ≡ untold
again-none d rs r seen e f =
    ap (again d rs r) (subst (λ z. root_at d (region_unit z.owned.region.kind) z.case ≡ None) e f)

module _ (enter : Interpreting) (p : PlainProgram) (st : PlainState) (w : Walk) where
  abbrev met-region : Option TrackedRegion → Traced Interpreted
  met-region o = do
    r ← found o
    enter w.regions r

  abbrev with-region : ℕ → Option TrackedRegion → Traced Descent
  with-region params o = do
    r ← found o
    x ← enter w.regions r
    on x.case (record (bringing w (drop params x.fill.names)) { fill = Some x.fill })

  abbrev with-number : ℕ → Traced ℤ → Traced Descent
  with-number params t = do
    n ← t
    with-region params (tracked_at w.regions n)

  abbrev opened-number : ℕ → Traced ℤ → Traced Opened
  opened-number params t = do
    n ← t
    traced (record { params = params; number = n })

  abbrev with-kind : PlainFact → Option PlainRegionType → Traced Descent
  with-kind f o = do
    k ← found o
    with-number k.params (number_in w.values f.region)

  abbrev opened-kind : PlainFact → Option PlainRegionType → Traced Opened
  opened-kind f o = do
    k ← found o
    opened-number k.params (number_in w.values f.region)

  abbrev with-fact : Option PlainFact → Traced Descent
  with-fact o = do
    f ← found o
    with-kind f (slice_get p.regions f.kind)

  abbrev opened-fact : Option PlainFact → Traced Opened
  opened-fact o = do
    f ← found o
    opened-kind f (slice_get p.regions f.kind)

  region-last : (params : ℕ) (o : Option TrackedRegion) → with-region params o ≡ then-entered w params (met-region o)
  region-last params None = refl
  region-last params (Some r) = refl

  number-last : (params : ℕ) (t : Traced ℤ) → with-number params t ≡ opened-number params t >>= enter_opened enter w
  number-last params (traced n) = region-last params (tracked_at w.regions n)
  number-last params past_width = refl
  number-last params untold = refl

  kind-last : (f : PlainFact) (o : Option PlainRegionType) → with-kind f o ≡ opened-kind f o >>= enter_opened enter w
  kind-last f None = refl
  kind-last f (Some k) = number-last k.params (number_in w.values f.region)

  fact-last : (o : Option PlainFact) → with-fact o ≡ opened-fact o >>= enter_opened enter w
  fact-last None = refl
  fact-last (Some f) = kind-last f (slice_get p.regions f.kind)

  -- in parts
  pub enters : (i : ℕ) → pass_enter enter p st i w ≡ opened_at p st i w.values >>= enter_opened enter w
  enters i = fact-last (slice_get st.facts i)

  pub enters-on : {D : Type 0} (i : ℕ) (o : Opened) (r : Result D TraceError) (other : D → Descent) (vs : List NameValue) → vs ≡ w.values → opened_at p st i vs ≡ traced o → Traces r other (enter_opened enter w o) → Traces r other (pass_enter enter p st i w)
  enters-on i o r other vs from e h = subst (λ t. Traces r other t) (sym (enters i ∙ (ap (λ z. opened_at p st i z >>= enter_opened enter w) (sym from) ∙ ap (λ t. t >>= enter_opened enter w) e))) h

  pub enters-stops : {C D : Type 0} (i : ℕ) (e : TraceError) (view : C → Opened) (other : D → Descent) (vs : List NameValue) → vs ≡ w.values → Traces {A = Opened} {B = C} (Err e) view (opened_at p st i vs) → Traces {A = Descent} {B = D} (Err e) other (pass_enter enter p st i w)
  enters-stops i e view other vs from h =
      traces_same (Err e) other (pass_enter enter p st i w) (opened_at p st i w.values >>= enter_opened enter w) (enters i)
      (tracing.stops e view other (opened_at p st i w.values) (enter_opened enter w) (subst (λ z. Traces (Err e) view (opened_at p st i z)) from h))
