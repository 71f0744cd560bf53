-- The trees of a bundle, by the roots of a unit.
use Rattle.std.proofs.Common.{◌≡◌, ℕ, ◌+◌, List, [], ◌∷◌, length, map, arith, refl, sym, ap, Option, Some, zero, suc, ◌<◌, subst, None, inl, inr}
use Rattle.std.specs.Prelude.{slice_get, option_to_list, flat_map}
use Rattle.cap_prog.specs.Program.{done, PlainCase, PlainRegionType, PlainFunction, PlainProgram}
use Rattle.cap_goal_spec.specs.States.{to_run, to_turn, PlainGoal}
use Rattle.cap_goal_spec.specs.Choices.{PlainTrees, PlainTree, no_trees, tree}
use Rattle.cap_goal_spec.specs.Roots.{PlainUnit, region_unit, function_unit, LoopPoint, loops_in, at_entry, at_exit, at_loop, home_of, stability, from_given, case_root, loop_roots, function_roots, region_roots, optional_roots, roots, units, all_roots}
use Rattle.cap_account_states.specs.Nodes.{NodePredicate, Children, Deriving}
use Rattle.cap_account_resources.proofs.Lists.{Among, within, some-same, none-some, among-left, among-right}
use Rattle.cap_account_states.proofs.Checked.{Checked}
use Rattle.std.specs.List.{AllZip, range_with_len}
use Rattle.cap_rules.specs.Valid.{RootDerives, Valid}

zip-at :
    {X Y : Type 0} (R : X → Y → Type 0) (xs : List X) (ys : List Y) (y : Y) → AllZip R xs ys →
    Among y ys → (x : X) × R x y
zip-at R [] [] y h k = absurd k
zip-at R [] (z ∷ ys) y h k = absurd h
zip-at R (x ∷ xs) [] y h k = absurd h
zip-at R (x ∷ xs) (z ∷ ys) y h (inl e) = (x, subst (R x) e h.0)
zip-at R (x ∷ xs) (z ∷ ys) y h (inr m) = zip-at R xs ys y h.1 m

among-flat :
    {X Y : Type 0} (f : X → List Y) (xs : List X) (x : X) (y : Y) → Among x xs → Among y (f x) →
    Among y (flat_map f xs)
among-flat f [] x y h k = absurd h
among-flat f (z ∷ xs) x y (inl e) k =
    among-left y (f z) (flat_map f xs) (subst (λ w. Among y (f w)) (sym e) k)
among-flat f (z ∷ xs) x y (inr m) k = among-right y (f z) (flat_map f xs) (among-flat f xs x y m k)

among-units :
    (u : ℕ → PlainUnit) (a n k : ℕ) → k < n → Among (u (a + k)) (map u (range_with_len a n))
among-units u a zero k l = absurd (omega (arith, l))
among-units u a (suc n) zero l = let q : a ≡ a + 0 = omega arith in inl (ap u q)
among-units u a (suc n) (suc k) l =
    let q : a + 1 + k ≡ a + suc k = omega arith in
    inr (subst (λ m. Among (u m) (map u (range_with_len (a + 1) n))) q
    (among-units u (a + 1) n k (omega (arith, l))))

among-number :
    (u : ℕ → PlainUnit) (n k : ℕ) → k < n → Among (u k) (map u (range_with_len 0 n))
among-number u n k l =
    let q : 0 + k ≡ k = omega arith in
    subst (λ m. Among (u m) (map u (range_with_len 0 n))) q (among-units u 0 n k l)

-- of each root of the program there are trees of which this holds
abbrev pub RootsHave : PlainProgram → NodePredicate → Type 0
RootsHave p N =
    (g : Option PlainGoal) → Among g (all_roots p) →
    (ks : PlainTrees) × Children N ks (option_to_list g)

root-trees :
    (p : PlainProgram) (t : Option PlainTree) (g : Option PlainGoal) → RootDerives p t g →
    (ks : PlainTrees) × Children (Deriving p) ks (option_to_list g)
root-trees p None None h = (no_trees, tt)
root-trees p None (Some g) h = absurd h
root-trees p (Some t) None h = absurd h
root-trees p (Some t) (Some g) h = (tree t no_trees, ((1, h), tt))

pub valid-roots :
    (p : PlainProgram) (trees : List (Option PlainTree)) → Valid p trees →
    RootsHave p (Deriving p)
valid-roots p trees valid g k =
    let z = zip-at (RootDerives p) trees (all_roots p) g valid.derivations k in
    root-trees p z.0 g z.1

module _ (p : PlainProgram) (N : NodePredicate) (have : RootsHave p N) where
  unit-root :
      (u : PlainUnit) → Among u (units p) → (g : Option PlainGoal) → Among g (roots p u) →
      (ks : PlainTrees) × Children N ks (option_to_list g)
  unit-root u among g k = have g (among-flat (roots p) (units p) u g among k)

  function-root :
      (n : ℕ) (f : PlainFunction) → slice_get p.functions n ≡ Some f →
      (g : Option PlainGoal) → Among g (function_roots f n) →
      (ks : PlainTrees) × Children N ks (option_to_list g)
  function-root n f e g k =
      unit-root (function_unit n)
      (among-right (function_unit n) (map region_unit (range_with_len 0 (length p.regions)))
      (map function_unit (range_with_len 0 (length p.functions)))
      (among-number function_unit (length p.functions) n (within p.functions n f e))) g
      (subst (λ o. Among g (optional_roots o n)) (sym e) k)

  region-root :
      (n : ℕ) (y : PlainRegionType) → slice_get p.regions n ≡ Some y →
      (g : Option PlainGoal) → Among g (map (case_root y n) y.cases) →
      (ks : PlainTrees) × Children N ks (option_to_list g)
  region-root n y e g k =
      unit-root (region_unit n)
      (among-left (region_unit n) (map region_unit (range_with_len 0 (length p.regions)))
      (map function_unit (range_with_len 0 (length p.functions)))
      (among-number region_unit (length p.regions) n (within p.regions n y e))) g
      (subst (λ o. Among g (region_roots o n)) (sym e) k)

-- the roots that bodies and loops begin with have trees
pub record UnitRoots (p : Checked) : Type 0 where
  pub bodies :
      (n : ℕ) (f : PlainFunction) → slice_get p.program.functions n ≡ Some f →
      (ks : PlainTrees) × Children p.N ks
      (option_to_list
      (from_given at_entry f n 0 f.requires (to_run (home_of at_entry f n) f.body)))
  pub loops :
      (n : ℕ) (f : PlainFunction) → slice_get p.program.functions n ≡ Some f →
      (w : LoopPoint) → Among w (loops_in f.body done) →
      (ks : PlainTrees) × Children p.N ks
      (option_to_list
      (from_given at_loop f n (length w.invariant.names) w.invariant.items
      (to_turn (home_of at_loop f n) w.block)))

pub unit-roots : (p : Checked) → RootsHave p.program p.N → UnitRoots p
unit-roots p have = record {
  bodies =
      λ n f e. function-root p.program p.N have n f e
      (from_given at_entry f n 0 f.requires (to_run (home_of at_entry f n) f.body))
      (inr (inr (inl refl)));
  loops = λ n f e w k.
      let g = from_given at_loop f n (length w.invariant.names) w.invariant.items
      (to_turn (home_of at_loop f n) w.block) in
      function-root p.program p.N have n f e g
      (inr (inr
      (inr (among-flat (loop_roots f n) (loops_in f.body done) w g k (inr (inl refl))))));
}

-- those at which contracts, invariants and interpretations are to be stable have trees
pub record StableRoots (p : Checked) : Type 0 where
  pub requires :
      (n : ℕ) (f : PlainFunction) → slice_get p.program.functions n ≡ Some f →
      (ks : PlainTrees) × Children p.N ks (option_to_list (stability at_entry f n 0 f.requires))
  pub ensures :
      (n : ℕ) (f : PlainFunction) → slice_get p.program.functions n ≡ Some f →
      (ks : PlainTrees) × Children p.N ks
      (option_to_list (stability at_exit f n (length f.ensures.names) f.ensures.items))
  pub invariants :
      (n : ℕ) (f : PlainFunction) → slice_get p.program.functions n ≡ Some f →
      (w : LoopPoint) → Among w (loops_in f.body done) →
      (ks : PlainTrees) × Children p.N ks
      (option_to_list (stability at_loop f n (length w.invariant.names) w.invariant.items))
  pub cases :
      (n : ℕ) (y : PlainRegionType) → slice_get p.program.regions n ≡ Some y → (i : ℕ)
      (c : PlainCase) → slice_get y.cases i ≡ Some c →
      (ks : PlainTrees) × Children p.N ks (option_to_list (case_root y n c))

among-map :
    {X Y : Type 0} (g : X → Y) (xs : List X) (i : ℕ) (x : X) → slice_get xs i ≡ Some x →
    Among (g x) (map g xs)
among-map g [] i x e = absurd (none-some e)
among-map g (z ∷ xs) zero x e = inl (ap g (some-same z x e))
among-map g (z ∷ xs) (suc i) x e = inr (among-map g xs i x e)

pub stable-roots : (p : Checked) → RootsHave p.program p.N → StableRoots p
stable-roots p have = record {
  requires =
      λ n f e. function-root p.program p.N have n f e
      (stability at_entry f n 0 f.requires) (inl refl);
  ensures = λ n f e.
      function-root p.program p.N have n f e
      (stability at_exit f n (length f.ensures.names) f.ensures.items) (inr (inl refl));
  invariants = λ n f e w k.
      let g = stability at_loop f n (length w.invariant.names) w.invariant.items in
      function-root p.program p.N have n f e g
      (inr (inr (inr (among-flat (loop_roots f n) (loops_in f.body done) w g k (inl refl)))));
  cases = λ n y e i c is.
      region-root p.program p.N have n y e (case_root y n c) (among-map (case_root y n) y.cases i c is);
}
