-- What the end of a walk over all trees tells.
use Rattle.std.proofs.Common.{◌≡◌, ◌≢◌, inl, List, length, map, Option, refl, sym, ap, subst, ◌∙◌}
use Rattle.std.specs.Prelude.{Result, Ok, Err}
use Rattle.std.proofs.lemmas.List.{length-map}
use Rattle.cap_prog.specs.Program.{PlainProgram}
use Rattle.cap_goal_spec.specs.Choices.{PlainTree}
use Rattle.cap_goal_spec.specs.Roots.{all_roots}
use Rattle.cap_goal.specs.declared.choice.Node.{Node}
use Rattle.cap_kernel_check_steps.specs.declared.error.CheckError.{CheckError}
use Rattle.cap_kernel_check_steps.specs.declared.error.CheckError.TheVariants.{Node as NodeFails, Shape, OutOfMemory}
use Rattle.cap_kernel_check_steps.specs.declared.walk.Walk.{Walk}
use Rattle.cap_kernel_check_steps.specs.declared.start.Start.{Start}
use Rattle.cap_kernel_check_steps.specs.Starts.{PlainStart, starts}
use Rattle.cap_kernel_check_steps.specs.Walks.{PlainWalk, goes_on, at_node, at_shape, passed, ended, VisitsStarts, IsEnd}
use Rattle.cap_kernel_check_steps.specs.Checks.{Concluded, Checked}
use Rattle.cap_kernel_check_steps.specs.Laws.{FaultyAreInvalid, Tells, WalksTell}
use Rattle.cap_kernel_check_steps.specs.Views.{Walked, walk_view, starts_view, tree_view}
use Rattle.cap_kernel_check_steps.proofs.Starting.{starts-many}

pub end-concludes : (p : PlainProgram) (w : PlainWalk) (ts : List (Option PlainTree)) (ss : List PlainStart) (new : Walk) (r : Result (Unit {0}) CheckError) → w ≡ passed 0 → VisitsStarts p w ts ss (goes_on (walk_view new)) → Walked new r (λ o. o ≡ ended (walk_view new)) → Concluded r (IsEnd p ts ss)
end-concludes p w ts ss new (Ok x) e v h = (walk_view new, (goes_on (walk_view new), subst (λ u. VisitsStarts p u ts ss (goes_on (walk_view new))) e v, h))
end-concludes p w ts ss new (Err (NodeFails k)) e v h = (goes_on (walk_view new), subst (λ u. VisitsStarts p u ts ss (goes_on (walk_view new))) e v, h)
end-concludes p w ts ss new (Err (Shape k)) e v h = (goes_on (walk_view new), subst (λ u. VisitsStarts p u ts ss (goes_on (walk_view new))) e v, h)
end-concludes p w ts ss new (Err OutOfMemory) e v h = tt

pub error-concludes : (p : PlainProgram) (w : PlainWalk) (ts : List (Option PlainTree)) (ss : List PlainStart) (new : Walk) (x : CheckError) → w ≡ passed 0 → Walked new (Err x) (VisitsStarts p w ts ss) → Concluded (Err x) (IsEnd p ts ss)
error-concludes p w ts ss new (NodeFails k) e h = (at_node k, subst (λ u. VisitsStarts p u ts ss (at_node k)) e h, refl)
error-concludes p w ts ss new (Shape k) e h = (at_shape k, subst (λ u. VisitsStarts p u ts ss (at_shape k)) e h, refl)
error-concludes p w ts ss new OutOfMemory e h = tt

tells-checked : (p : PlainProgram) (ts : List (Option PlainTree)) (r : Result (Unit {0}) CheckError) → WalksTell → FaultyAreInvalid → length ts ≡ length (all_roots p) → Concluded r (IsEnd p ts (starts p)) → Checked p ts r
tells-checked p ts (Ok x) tell faulty same (w, (m, v, a)) = tell p ts m (goes_on w) same v a
tells-checked p ts (Err (NodeFails k)) tell faulty same (m, v, a) =
    let t : Tells p ts (at_node k) = tell p ts m (at_node k) same v a in
    (t, (faulty p ts k).0 t)
tells-checked p ts (Err (Shape k)) tell faulty same (m, v, a) =
    let t : Tells p ts (at_shape k) = tell p ts m (at_shape k) same v a in
    (t, (faulty p ts k).1 t)
tells-checked p ts (Err OutOfMemory) tell faulty same h = tt

pub concluded-checked : (p : PlainProgram) (ns : List (Option Node)) (ss : List Start) (r : Result (Unit {0}) CheckError) → WalksTell → FaultyAreInvalid → starts_view ss ≡ starts p → length ns ≡ length ss → Concluded r (IsEnd p (map tree_view ns) (starts_view ss)) → Checked p (map tree_view ns) r
concluded-checked p ns ss r tell faulty e same h =
    tells-checked p (map tree_view ns) r tell faulty (length-map ns tree_view ∙ (same ∙ starts-many p ss e)) (subst (λ x. Concluded r (IsEnd p (map tree_view ns) x)) e h)

pub miscounted-checked : (p : PlainProgram) (ns : List (Option Node)) (ss : List Start) → FaultyAreInvalid → starts_view ss ≡ starts p → length ns ≢ length ss → Checked p (map tree_view ns) (Err (Shape 1))
miscounted-checked p ns ss faulty e other =
    (inl (refl, miscounted), (faulty p (map tree_view ns) 1).1 (inl (refl, miscounted)))
  where
    miscounted : length (map tree_view ns) ≢ length (all_roots p)
    miscounted same = other (sym (length-map ns tree_view) ∙ (same ∙ sym (starts-many p ss e)))
