-- Roots by the numbers of units.
use Rattle.std.proofs.Common.{◌≡◌, ℕ, zero, suc, ◌+◌, ◌≤◌, List, [], ◌∷◌, length, map, flat_map, option_map, Option, Some, None, refl, sym, ap, ◌∙◌, subst, arith}
use Rattle.std.specs.Prelude.{slice_get, take, unwrap_or, option_copied, MatchOption}
use Rattle.std.specs.Borrow.{Bor}
use Rattle.std.specs.List.{AllByRecursion}
use Rattle.std.proofs.lemmas.List.{length-append}
use Rattle.cap_prog.specs.Program.{PlainProgram}
use Rattle.cap_goal_spec.specs.States.{PlainGoal}
use Rattle.cap_goal_spec.specs.Choices.{PlainTree}
use Rattle.cap_goal_spec.specs.Roots.{PlainUnit, region_unit, function_unit, roots, units, all_roots}
use Rattle.cap_owners_spec.specs.Track.{Place}
use Rattle.cap_owners_spec.specs.Steps.{place_of, root_at, units_before}
use Rattle.cap_owners_places.specs.declared.placed.Placed.{Placed}
use Rattle.cap_owners_places.specs.declared.roots.Roots.{Roots}
use Rattle.cap_owners_places.specs.Places.{root_places, begins_from, unit_number}
use Rattle.cap_owners_places.specs.Views.{proved_of, place_view, IsPlaced, RootIsPlaced, AreRoots}

-- ---- of lists

past : {X : Type 0} (xs : List X) (n : ℕ) → length xs ≤ n → slice_get xs n ≡ None
past [] n h = refl
past (x ∷ xs) zero h = absurd (omega (arith, h))
past (x ∷ xs) (suc n) h = past xs n (omega (arith, h))

mapped : {X Y : Type 0} (f : X → Y) (xs : List X) (n : ℕ) → slice_get (map f xs) n ≡ option_map f (slice_get xs n)
mapped f [] n = refl
mapped f (x ∷ xs) zero = refl
mapped f (x ∷ xs) (suc n) = mapped f xs n

chosen : {X : Type 0} (P : X → Type 0) (xs : List X) (n : ℕ) (x : X) → AllByRecursion P xs → slice_get xs n ≡ Some x → P x
chosen P [] n x h e = absurd cc
chosen P (y ∷ ys) zero x h e = let q : y ≡ x = cc in subst P q h.0
chosen P (y ∷ ys) (suc n) x h e = chosen P ys n x h.1 e

-- ---- places

no-tree : (g : Option PlainGoal) → place_of g None ≡ None
no-tree None = refl
no-tree (Some g) = refl

place-at : (gs : List (Option PlainGoal)) (ts : List (Option PlainTree)) (n : ℕ) → unwrap_or (slice_get (root_places gs ts) n) None ≡ place_of (unwrap_or (slice_get gs n) None) (unwrap_or (slice_get ts n) None)
place-at [] ts n = refl
place-at (g ∷ gs) [] n = sym (no-tree (unwrap_or (slice_get (g ∷ gs) n) None))
place-at (g ∷ gs) (t ∷ ts) zero = refl
place-at (g ∷ gs) (t ∷ ts) (suc n) = place-at gs ts n

-- ---- where the roots of units begin

begin-found : (p : PlainProgram) (n : ℕ) (us : List PlainUnit) (k b : ℕ) → slice_get (begins_from p n us) k ≡ Some b → b ≡ n + length (flat_map (roots p) (take k us))
begin-found p n [] k b e = absurd cc
begin-found p n (u ∷ us) zero b e = let q : n ≡ b = cc in omega (arith, q)
begin-found p n (u ∷ us) (suc k) b e =
    sum (length (roots p u)) (length (flat_map (roots p) (take k us))) (length (flat_map (roots p) (u ∷ take k us))) (length-append (roots p u) (flat_map (roots p) (take k us))) (begin-found p (n + length (roots p u)) us k b e)
  where
    sum : (x y z : ℕ) → z ≡ x + y → b ≡ n + x + y → b ≡ n + z
    sum x y z e f = omega (arith, e, f)

begins-count : (p : PlainProgram) (n : ℕ) (us : List PlainUnit) → length (begins_from p n us) ≡ length us
begins-count p n [] = refl
begins-count p n (u ∷ us) = ap suc (begins-count p (n + length (roots p u)) us)

take-all : {X : Type 0} (xs : List X) (k : ℕ) → length xs ≤ k → take k xs ≡ xs
take-all [] zero h = refl
take-all [] (suc k) h = refl
take-all (x ∷ xs) zero h = absurd (omega (arith, h))
take-all (x ∷ xs) (suc k) h = ap (λ z. x ∷ z) (take-all xs k (omega (arith, h)))

before : (p : PlainProgram) (u : PlainUnit) → units_before p u ≡ take (unit_number (length p.regions) u) (units p)
before p (region_unit n) = refl
before p (function_unit n) = refl

-- the root by its number among all roots
abbrev root_by : PlainProgram → List (Option PlainTree) → ℕ → Option Place
root_by p ts n = place_of (unwrap_or (slice_get (all_roots p) n) None) (unwrap_or (slice_get ts n) None)

by-number : (p : PlainProgram) (ts : List (Option PlainTree)) (u : PlainUnit) (i : ℕ) → root_at (proved_of p ts) u i ≡ root_by p ts (length (flat_map (roots p) (take (unit_number (length p.regions) u) (units p))) + i)
by-number p ts u i = ap (λ us. root_by p ts (length (flat_map (roots p) us) + i)) (before p u)

unwrapped : {X Y : Type 0} (f : X → Y) (o : Option (Option X)) → unwrap_or (option_map (option_map f) o) None ≡ option_map f (unwrap_or o None)
unwrapped f None = refl
unwrapped f (Some x) = refl

module _ (p : PlainProgram) (ts : List (Option PlainTree)) (r : Roots) (are : AreRoots p ts r) where
  root-seen : (n : ℕ) → root_by p ts n ≡ unwrap_or (option_map (option_map place_view) (slice_get r.trees.items n)) None
  root-seen n = sym (place-at (all_roots p) ts n) ∙ ap (λ o. unwrap_or o None) (ap (λ xs. slice_get xs n) (sym are.trees) ∙ mapped (option_map place_view) r.trees.items n)

  -- there is no such unit
  no-unit : (u : PlainUnit) (i : ℕ) → slice_get r.begins.items (unit_number (length p.regions) u) ≡ None → root_at (proved_of p ts) u i ≡ None
  no-unit u i e =
      by-number p ts u i
      ∙ (ap (λ us. root_by p ts (length (flat_map (roots p) us) + i)) (take-all (units p) (unit_number (length p.regions) u) (behind (slice_get r.begins.items (unit_number (length p.regions) u)) refl e))
      ∙ ap (λ o. place_of (unwrap_or o None) (unwrap_or (slice_get ts (length (all_roots p) + i)) None)) (past (all_roots p) (length (all_roots p) + i) (omega arith)))
    where
      none-past : {X : Type 0} (xs : List X) (n : ℕ) → slice_get xs n ≡ None → length xs ≤ n
      none-past [] n e = omega arith
      none-past (x ∷ xs) zero e = absurd cc
      none-past (x ∷ xs) (suc n) e = let h = none-past xs n e in omega (arith, h)

      behind : (o : Option ℕ) → slice_get r.begins.items (unit_number (length p.regions) u) ≡ o → o ≡ None → length (units p) ≤ unit_number (length p.regions) u
      behind o f g =
          let h = none-past r.begins.items (unit_number (length p.regions) u) (f ∙ g) in
          let c : length r.begins.items ≡ length (units p) = ap length are.begins ∙ begins-count p 0 (units p) in
          omega (arith, h, c)

  -- the root by where its unit begins
  at-begin : (u : PlainUnit) (i b : ℕ) → slice_get r.begins.items (unit_number (length p.regions) u) ≡ Some b → root_at (proved_of p ts) u i ≡ unwrap_or (option_map (option_map place_view) (slice_get r.trees.items (b + i))) None
  at-begin u i b e =
      by-number p ts u i
      ∙ (ap (λ n. root_by p ts (n + i)) (sym (from-none b (length (flat_map (roots p) (take (unit_number (length p.regions) u) (units p)))) (begin-found p 0 (units p) (unit_number (length p.regions) u) b (ap (λ xs. slice_get xs (unit_number (length p.regions) u)) (sym are.begins) ∙ e))))
      ∙ root-seen (b + i))
    where
      from-none : (b n : ℕ) → b ≡ 0 + n → b ≡ n
      from-none b n e = omega (arith, e)

  answer : (u : PlainUnit) (i b : ℕ) (o : Option (Bor Placed)) → slice_get r.begins.items (unit_number (length p.regions) u) ≡ Some b → option_copied o ≡ unwrap_or (slice_get r.trees.items (b + i)) None → MatchOption o (root_at (proved_of p ts) u i ≡ None) (λ q. (root_at (proved_of p ts) u i ≡ Some (place_view q.now)) × IsPlaced p q.now)
  answer u i b None e f = at-begin u i b e ∙ (unwrapped place_view (slice_get r.trees.items (b + i)) ∙ ap (option_map place_view) (sym f))
  answer u i b (Some q) e f = (
    at-begin u i b e ∙ (unwrapped place_view (slice_get r.trees.items (b + i)) ∙ ap (option_map place_view) (sym f)),
    there (slice_get r.trees.items (b + i)) q.now refl (sym f),
  )
    where
      there : (x : Option (Option Placed)) (z : Placed) → slice_get r.trees.items (b + i) ≡ x → unwrap_or x None ≡ Some z → IsPlaced p z
      there None z g h = absurd cc
      there (Some y) z g h = chosen (RootIsPlaced p) r.trees.items (b + i) (Some z) are.placed (g ∙ ap Some h)

  -- by the number as the code has it
  pub no-unit-at : (u : PlainUnit) (i : ℕ) → slice_get r.begins.items (unit_number r.regions u) ≡ None → root_at (proved_of p ts) u i ≡ None
  no-unit-at u i e = no-unit u i (ap (λ n. slice_get r.begins.items (unit_number n u)) (sym are.regions) ∙ e)

  pub answer-at : (u : PlainUnit) (i b : ℕ) (o : Option (Bor Placed)) → slice_get r.begins.items (unit_number r.regions u) ≡ Some b → option_copied o ≡ unwrap_or (slice_get r.trees.items (b + i)) None → MatchOption o (root_at (proved_of p ts) u i ≡ None) (λ q. (root_at (proved_of p ts) u i ≡ Some (place_view q.now)) × IsPlaced p q.now)
  answer-at u i b o e f = answer u i b o (ap (λ n. slice_get r.begins.items (unit_number n u)) (sym are.regions) ∙ e) f
