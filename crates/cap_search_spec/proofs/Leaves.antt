-- A tree that isn't found, without a visit that is too deep, has a leaf; and which leaf is kept.
use Rattle.std.proofs.Common.{◌≡◌, inl, inr, ℕ, zero, suc, ◌<◌, ◌≤◌, nat_lt, Bool, true, false, ◌||◌, if◌then◌else◌, is_some, List, [], ◌∷◌, ◌++◌, Option, Some, None, option_map, refl, ap, ◌∙◌, sym, subst, append_assoc, arith}
use Rattle.std.proofs.lemmas.Bool.Decides.{nat_tests}
use Rattle.std.specs.List.{AllByRecursion}
use Rattle.cap_prog.specs.Program.{PlainProgram}
use Rattle.cap_goal_spec.specs.States.{PlainGoal}
use Rattle.cap_goal_spec.specs.Choices.{PlainChoice, PlainTree}
use Rattle.cap_rules.specs.Valid.{deepest}
use Rattle.cap_offer_spec.specs.Members.{IsOneOf}
use Rattle.cap_offer_spec.specs.Offering.{offered}
use Rattle.cap_search_spec.specs.Guided.{IsOffered}
use Rattle.cap_search_spec.specs.Seeking.{Visit, or_else, ◌>>=◌, node_of, left_by, all_trees, first_tree, tree_within, if_found, unless_found, goals_visits, left_visits, choices_visits, visits_within, or_failing, root_tree, root_visits, unit_trees, unit_visits, failing_visits}
use Rattle.cap_search_spec.specs.Leaves.{Leaf}
use Rattle.cap_search_spec.specs.Verdicts.{any_deep, leaves_by, leaves_at, leaves_of, furthest}
use Rattle.cap_search_spec.specs.Laws.{IsFurthest}
use Rattle.cap_search_spec.proofs.Applies.{OffersApply, RootApplies}
use Rattle.cap_search_spec.proofs.Guiding.{left-subgoals}
use Rattle.cap_search_spec.proofs.Counting.{any-deep-append}

abbrev pub IsFull : List Leaf → Type 0
IsFull [] = ⊥
IsFull (x ∷ xs) = Unit {0}

full-left : (xs ys : List Leaf) → IsFull xs → IsFull (xs ++ ys)
full-left [] ys h = absurd h
full-left (x ∷ xs) ys h = tt

full-right : (xs ys : List Leaf) → IsFull ys → IsFull (xs ++ ys)
full-right [] ys h = h
full-right (x ∷ xs) ys h = tt

leaves-of-append : (p : PlainProgram) (xs ys : List Visit) → leaves_of p (xs ++ ys) ≡ leaves_of p xs ++ leaves_of p ys
unfolding leaves_of
leaves-of-append p [] ys = refl
leaves-of-append p (x ∷ xs) ys = ap (λ ls. leaves_at p x.too_deep x.goal ++ ls) (leaves-of-append p xs ys) ∙ sym (append_assoc (leaves_at p x.too_deep x.goal) (leaves_of p xs) (leaves_of p ys))

or-left : (a b : Bool) → (a || b) ≡ false → a ≡ false
or-left true b h = h
or-left false b h = refl

or-right : (a b : Bool) → (a || b) ≡ false → b ≡ false
or-right true b h = absurd cc
or-right false b h = h

not-deep-left : (xs ys : List Visit) → any_deep (xs ++ ys) ≡ false → any_deep xs ≡ false
not-deep-left xs ys h = or-left (any_deep xs) (any_deep ys) (sym (any-deep-append xs ys) ∙ h)

not-deep-right : (xs ys : List Visit) → any_deep (xs ++ ys) ≡ false → any_deep ys ≡ false
not-deep-right xs ys h = or-right (any_deep xs) (any_deep ys) (sym (any-deep-append xs ys) ∙ h)

-- ---- one level
module _ (p : PlainProgram) (room : ℕ) (T : PlainGoal → Option PlainTree) (V : PlainGoal → List Visit) (below : (g : PlainGoal) → OffersApply p room g → T g ≡ None → any_deep (V g) ≡ false → IsFull (leaves_of p (V g))) where
  goals-by : (g : PlainGoal) (gs : List PlainGoal) (o : Option PlainTree) (q : Option (List PlainTree)) → OffersApply p room g → T g ≡ o → all_trees T gs ≡ q → (all_trees T gs ≡ None → any_deep (goals_visits T V gs) ≡ false → IsFull (leaves_of p (goals_visits T V gs))) →
      (o >>= λ t. q >>= λ ts. Some (t ∷ ts)) ≡ None → any_deep (V g ++ if_found (is_some o) (λ _. goals_visits T V gs)) ≡ false → IsFull (leaves_of p (V g ++ if_found (is_some o) (λ _. goals_visits T V gs)))
  goals-by g gs None q s a b f h k = rw (leaves-of-append p (V g) []) (full-left (leaves_of p (V g)) (leaves_of p []) (below g s a (not-deep-left (V g) [] k)))
  goals-by g gs (Some t) None s a b f h k = rw (leaves-of-append p (V g) (goals_visits T V gs)) (full-right (leaves_of p (V g)) (leaves_of p (goals_visits T V gs)) (f b (not-deep-right (V g) (goals_visits T V gs) k)))
  goals-by g gs (Some t) (Some ts) s a b f h k = absurd cc

  goals-leaf : (gs : List PlainGoal) → AllByRecursion (OffersApply p room) gs → all_trees T gs ≡ None → any_deep (goals_visits T V gs) ≡ false → IsFull (leaves_of p (goals_visits T V gs))
  unfolding all_trees goals_visits
  goals-leaf [] s h k = absurd cc
  goals-leaf (g ∷ gs) s h k = goals-by g gs (T g) (all_trees T gs) s.0 refl refl (λ a b. goals-leaf gs s.1 a b) h k

  left-leaf : (o : Option (List PlainGoal)) (gs : List PlainGoal) → o ≡ Some gs → AllByRecursion (OffersApply p room) gs → (o >>= all_trees T) ≡ None → any_deep (left_visits T V o) ≡ false → IsFull (leaves_of p (left_visits T V o))
  left-leaf None gs e s h k = absurd cc
  left-leaf (Some hs) gs e s h k = let q : gs ≡ hs = cc in goals-leaf hs (let P : List PlainGoal → Type 0 = λ x. AllByRecursion (OffersApply p room) x in subst P q s) h k

  first-fails : (o : Option (List PlainTree)) (q : Option PlainTree) (c : PlainChoice) → or_else (option_map (node_of c) o) (λ _. q) ≡ None → o ≡ None
  first-fails None q c h = refl
  first-fails (Some ts) q c h = absurd cc

  choices-leaf : (g : PlainGoal) (c : PlainChoice) (cs : List PlainChoice) → IsOffered p g c → OffersApply p (suc room) g → first_tree p T g (c ∷ cs) ≡ None → any_deep (choices_visits p T V g (c ∷ cs)) ≡ false → IsFull (leaves_of p (choices_visits p T V g (c ∷ cs)))
  unfolding first_tree choices_visits
  choices-leaf g c cs i s h k =
      let rest = unless_found (is_some (left_by p g c >>= all_trees T)) (λ _. choices_visits p T V g cs) in
      let l = left_visits T V (left_by p g c) in
      let a = s c i in
      rw (leaves-of-append p l rest) (full-left (leaves_of p l) (leaves_of p rest)
      (left-leaf (left_by p g c) a.0 (left-subgoals p g c a.0 a.1) a.2 (first-fails (left_by p g c >>= all_trees T) (first_tree p T g cs) c h) (not-deep-left l rest k)))

  goal-by : (g : PlainGoal) (cs : List PlainChoice) → ((c : PlainChoice) → IsOneOf cs c → IsOffered p g c) → OffersApply p (suc room) g → first_tree p T g cs ≡ None → any_deep (choices_visits p T V g cs) ≡ false → IsFull (leaves_by p g cs ++ leaves_of p (choices_visits p T V g cs))
  goal-by g [] i s h k = tt
  goal-by g (c ∷ cs) i s h k = choices-leaf g c cs (i c (inl refl)) s h k

  pub goal-leaf : (g : PlainGoal) → OffersApply p (suc room) g → first_tree p T g (offered p g).value ≡ None → any_deep (choices_visits p T V g (offered p g).value) ≡ false → IsFull (leaves_by p g (offered p g).value ++ leaves_of p (choices_visits p T V g (offered p g).value))
  goal-leaf g s h k = goal-by g (offered p g).value (λ c i. i) s h k

pub within-leaf : (p : PlainProgram) (room : ℕ) (g : PlainGoal) → OffersApply p room g → tree_within p room g ≡ None → any_deep (visits_within p room g) ≡ false → IsFull (leaves_of p (visits_within p room g))
unfolding tree_within visits_within any_deep leaves_of
within-leaf p zero g s h k = absurd cc
within-leaf p (suc room) g s h k = goal-leaf p room (tree_within p room) (visits_within p room) (λ x r a b. within-leaf p room x r a b) g s h k

-- ---- a unit
mapped-none : {A B : Type 0} (f : A → B) (o : Option A) → option_map f o ≡ None → o ≡ None
mapped-none f None h = refl
mapped-none f (Some x) h = absurd cc

root-leaf : (p : PlainProgram) (r : Option PlainGoal) → RootApplies p r → root_tree p r ≡ None → any_deep (root_visits p r) ≡ false → IsFull (leaves_of p (root_visits p r))
root-leaf p None s h k = absurd cc
root-leaf p (Some g) s h k = within-leaf p deepest g s (mapped-none Some (tree_within p deepest g) h) k

unit-by : (p : PlainProgram) (r : Option PlainGoal) (rs : List (Option PlainGoal)) (o : Option (Option PlainTree)) (q : Option (List (Option PlainTree))) → RootApplies p r → root_tree p r ≡ o → unit_trees p rs ≡ q →
    (unit_trees p rs ≡ None → any_deep (unit_visits p rs) ≡ false → IsFull (leaves_of p (failing_visits p rs))) →
    (o >>= λ t. q >>= λ ts. Some (t ∷ ts)) ≡ None → any_deep (root_visits p r ++ if_found (is_some o) (λ _. unit_visits p rs)) ≡ false → IsFull (leaves_of p (or_failing (is_some o) (root_visits p r) (λ _. failing_visits p rs)))
unit-by p r rs None q s a b f h k = root-leaf p r s a (not-deep-left (root_visits p r) [] k)
unit-by p r rs (Some t) None s a b f h k = f b (not-deep-right (root_visits p r) (unit_visits p rs) k)
unit-by p r rs (Some t) (Some ts) s a b f h k = absurd cc

pub unit-leaf : (p : PlainProgram) (rs : List (Option PlainGoal)) → AllByRecursion (RootApplies p) rs → unit_trees p rs ≡ None → any_deep (unit_visits p rs) ≡ false → IsFull (leaves_of p (failing_visits p rs))
unfolding unit_trees unit_visits failing_visits
unit-leaf p [] s h k = absurd cc
unit-leaf p (r ∷ rs) s h k = unit-by p r rs (root_tree p r) (unit_trees p rs) s.0 refl refl (λ a b. unit-leaf p rs s.1 a b) h k

-- ---- the leaf that is kept
head-most : (k : Leaf) (ks : List Leaf) (l : Leaf) → IsFurthest (k ∷ ks) l → k.statement ≤ l.statement
head-most k ks l h = elim h [ inl a ↦ (let e = ap (λ (x : Leaf). x.statement) a.0 in omega arith) | inr a ↦ omega arith ]

less : (a b : ℕ) → nat_lt a b ≡ true → a < b
less a b h = grind (arith, nat_tests)

not-less : (a b : ℕ) → nat_lt a b ≡ false → b ≤ a
not-less a b h = grind (arith, nat_tests)

kept-by : (k x : Leaf) (xs : List Leaf) (l : Leaf) (b : Bool) → nat_lt k.statement x.statement ≡ b → (furthest (Some x) xs ≡ Some l → IsFurthest (x ∷ xs) l) → (furthest (Some k) xs ≡ Some l → IsFurthest (k ∷ xs) l) →
    furthest (if b then Some x else Some k) xs ≡ Some l → IsFurthest (k ∷ x ∷ xs) l
kept-by k x xs l true e f g h = let i = f h in let m = head-most x xs l i in let n = less k.statement x.statement e in inr (omega arith, i)
kept-by k x xs l false e f g h =
    let n = not-less k.statement x.statement e in
    elim (g h) [ inl a ↦ (let m = ap (λ (y : Leaf). y.statement) a.0 in inl (a.0, (omega arith, a.1))) | inr a ↦ inr (a.0, inr (omega arith, a.1)) ]

kept-furthest : (k : Leaf) (ls : List Leaf) (l : Leaf) → furthest (Some k) ls ≡ Some l → IsFurthest (k ∷ ls) l
unfolding furthest
kept-furthest k [] l h = inl ((let e : k ≡ l = cc in e), tt)
kept-furthest k (x ∷ xs) l h = kept-by k x xs l (nat_lt k.statement x.statement) refl (λ a. kept-furthest x xs l a) (λ a. kept-furthest k xs l a) h

pub furthest-is : (ls : List Leaf) (l : Leaf) → furthest None ls ≡ Some l → IsFurthest ls l
unfolding furthest
furthest-is [] l h = absurd cc
furthest-is (x ∷ xs) l h = kept-furthest x xs l h

furthest-some-by : (b : Bool) (x k : Leaf) (xs : List Leaf) → ((l : Leaf) × (furthest (Some x) xs ≡ Some l)) → ((l : Leaf) × (furthest (Some k) xs ≡ Some l)) → (l : Leaf) × (furthest (if b then Some x else Some k) xs ≡ Some l)
furthest-some-by true x k xs a b = a
furthest-some-by false x k xs a b = b

furthest-some : (ls : List Leaf) (k : Leaf) → (l : Leaf) × (furthest (Some k) ls ≡ Some l)
unfolding furthest
furthest-some [] k = (k, refl)
furthest-some (x ∷ xs) k = furthest-some-by (nat_lt k.statement x.statement) x k xs (furthest-some xs x) (furthest-some xs k)

pub full-furthest : (ls : List Leaf) → IsFull ls → (l : Leaf) × (furthest None ls ≡ Some l)
unfolding furthest
full-furthest [] h = absurd h
full-furthest (x ∷ xs) h = furthest-some xs x
