-- What the record holds after visits: how many they are, and what they show.
use Rattle.std.proofs.Common.{◌≡◌, ℕ, ℤ, zero, suc, ◌+◌, ◌<◌, Bool, true, false, ◌||◌, List, [], ◌∷◌, ◌++◌, length, Option, Some, None, is_some, option_map, refl, ap, ◌∙◌, sym, append-nil, subst, arith}
use Rattle.std.proofs.lemmas.List.{length-append}
use Rattle.cap_prog.specs.Program.{PlainProgram}
use Rattle.cap_goal_spec.specs.States.{PlainGoal}
use Rattle.cap_goal_spec.specs.Choices.{PlainChoice, PlainTree}
use Rattle.cap_offer_spec.specs.Deciding.{PlainNotes, clean}
use Rattle.cap_offer_spec.specs.Offering.{offered}
use Rattle.cap_search_spec.specs.Seeking.{◌>>=◌, Visit, if_found, or_failing, root_tree, root_visits, unit_trees, unit_visits, failing_visits, failing_root}
use Rattle.cap_search_spec.specs.Leaves.{Leaf, further}
use Rattle.cap_search_spec.specs.Verdicts.{any_deep, or_later, joined, notes_at, notes_of, leaves_by, leaves_at, leaves_of, furthest}
use Rattle.cap_search_spec.specs.Walks.{PlainWalk, with_leaf, seen, counted, walked, go_on_if, at_root, root_walked, unit_walked}
use Rattle.cap_search_spec.proofs.Walking.{root-walk}

-- ---- Bool

or-true : (b : Bool) → (b || true) ≡ true
or-true true = refl
or-true false = refl

or-false : (b : Bool) → (b || false) ≡ b
or-false true = refl
or-false false = refl

or-assoc : (a b c : Bool) → ((a || b) || c) ≡ (a || (b || c))
or-assoc true b c = refl
or-assoc false b c = refl

-- ---- notes that were collected apart
later-assoc : (o q r : Option (ℤ × ℤ)) → or_later (or_later o q) r ≡ or_later o (or_later q r)
later-assoc None q r = refl
later-assoc (Some x) q r = refl

later-none : (o : Option (ℤ × ℤ)) → or_later o None ≡ o
later-none None = refl
later-none (Some x) = refl

joined-assoc : (n m l : PlainNotes) → joined (joined n m) l ≡ joined n (joined m l)
joined-assoc n m l = rw (later-assoc n.wide m.wide l.wide, or-assoc n.rows m.rows l.rows) refl

joined-clean : (n : PlainNotes) → joined n clean ≡ n
joined-clean n = let e : joined n clean ≡ record { wide = n.wide; rows = n.rows } = rw (later-none n.wide, or-false n.rows) refl in e

-- ---- one visit

furthest-append : (o : Option Leaf) (xs ys : List Leaf) → furthest o (xs ++ ys) ≡ furthest (furthest o xs) ys
unfolding furthest
furthest-append o [] ys = refl
furthest-append o (x ∷ xs) ys = furthest-append (further o x) xs ys

leaf-kept : (p : PlainProgram) (o : Option Leaf) (g : PlainGoal) (cs : List PlainChoice) → with_leaf p o g cs ≡ furthest o (leaves_by p g cs)
unfolding furthest
leaf-kept p o g [] = refl
leaf-kept p o g (c ∷ cs) = refl

seen-deep : (p : PlainProgram) (w : PlainWalk) (g : PlainGoal) (b : Bool) → (seen p w g b).deep ≡ (w.deep || b)
seen-deep p w g true = sym (or-true w.deep)
seen-deep p w g false = sym (or-false w.deep)

seen-notes : (p : PlainProgram) (w : PlainWalk) (g : PlainGoal) (b : Bool) → (seen p w g b).notes ≡ joined w.notes (notes_at p b g)
seen-notes p w g true = sym (joined-clean w.notes)
seen-notes p w g false = refl

seen-leaf : (p : PlainProgram) (w : PlainWalk) (g : PlainGoal) (b : Bool) → (seen p w g b).leaf ≡ furthest w.leaf (leaves_at p b g)
unfolding furthest
seen-leaf p w g true = refl
seen-leaf p w g false = leaf-kept p w.leaf g (offered p g).value

seen-left : (p : PlainProgram) (w : PlainWalk) (g : PlainGoal) (b : Bool) → (seen p w g b).left ≡ w.left
seen-left p w g true = refl
seen-left p w g false = refl

seen-root : (p : PlainProgram) (w : PlainWalk) (g : PlainGoal) (b : Bool) → (seen p w g b).root ≡ w.root
seen-root p w g true = refl
seen-root p w g false = refl

-- ---- visits

pub record Counts (p : PlainProgram) (w u : PlainWalk) (vs : List Visit) : Type 0 where
  pub left : u.left + length vs ≡ w.left
  pub deep : u.deep ≡ (w.deep || any_deep vs)
  pub notes : u.notes ≡ joined w.notes (notes_of p vs)
  pub root : u.root ≡ w.root
  pub leaf : u.leaf ≡ furthest w.leaf (leaves_of p vs)

counts-none : (p : PlainProgram) (w : PlainWalk) → Counts p w w []
unfolding any_deep notes_of leaves_of furthest
counts-none p w = record { left = omega arith; deep = sym (or-false w.deep); notes = sym (joined-clean w.notes); root = refl; leaf = refl }

counts-one : (p : PlainProgram) (w u : PlainWalk) (v : Visit) (vs : List Visit) (n : ℕ) → w.left ≡ suc n → Counts p (seen p (record w { left = n }) v.goal v.too_deep) u vs → Counts p w u (v ∷ vs)
unfolding any_deep notes_of leaves_of
counts-one p w u v vs n e k =
    let x : PlainWalk = record w { left = n } in
    record {
      left = omega (arith, k.left, seen-left p x v.goal v.too_deep);
      deep = k.deep ∙ ap (λ b. b || any_deep vs) (seen-deep p x v.goal v.too_deep) ∙ or-assoc w.deep v.too_deep (any_deep vs);
      notes = k.notes ∙ ap (λ m. joined m (notes_of p vs)) (seen-notes p x v.goal v.too_deep) ∙ joined-assoc w.notes (notes_at p v.too_deep v.goal) (notes_of p vs);
      root = k.root ∙ seen-root p x v.goal v.too_deep;
      leaf = k.leaf ∙ ap (λ o. furthest o (leaves_of p vs)) (seen-leaf p x v.goal v.too_deep) ∙ sym (furthest-append w.leaf (leaves_at p v.too_deep v.goal) (leaves_of p vs));
    }

walked-counts-by : (p : PlainProgram) (vs : List Visit) (v : Visit) (w u : PlainWalk) (n : ℕ) → w.left ≡ n → ((x : PlainWalk) → walked p x vs ≡ Some u → Counts p x u vs) → (option_map (λ x. seen p x v.goal v.too_deep) (counted w w.left) >>= λ x. walked p x vs) ≡ Some u → Counts p w u (v ∷ vs)
walked-counts-by p vs v w u zero e f h = absurd (let k = rw e at h in cc)
walked-counts-by p vs v w u (suc n) e f h = counts-one p w u v vs n e (f (seen p (record w { left = n }) v.goal v.too_deep) (rw e at h))

pub walked-counts : (p : PlainProgram) (vs : List Visit) (w u : PlainWalk) → walked p w vs ≡ Some u → Counts p w u vs
unfolding walked
walked-counts p [] w u e = let k : w ≡ u = cc in let P : PlainWalk → Type 0 = λ x. Counts p w x [] in subst P k (counts-none p w)
walked-counts p (v ∷ vs) w u e = walked-counts-by p vs v w u w.left refl (λ x h. walked-counts p vs x u h) e

walked-spent-by : (p : PlainProgram) (vs : List Visit) (v : Visit) (w : PlainWalk) (n : ℕ) → w.left ≡ n → ((x : PlainWalk) → walked p x vs ≡ None → x.left < length vs) → (option_map (λ x. seen p x v.goal v.too_deep) (counted w w.left) >>= λ x. walked p x vs) ≡ None → w.left < length (v ∷ vs)
walked-spent-by p vs v w zero e f h = omega arith
walked-spent-by p vs v w (suc n) e f h =
    let x : PlainWalk = record w { left = n } in
    let k : (seen p x v.goal v.too_deep).left < length vs = f (seen p x v.goal v.too_deep) (rw e at h) in
    omega (arith, seen-left p x v.goal v.too_deep)

pub walked-spent : (p : PlainProgram) (vs : List Visit) (w : PlainWalk) → walked p w vs ≡ None → w.left < length vs
unfolding walked
walked-spent p [] w e = absurd cc
walked-spent p (v ∷ vs) w e = walked-spent-by p vs v w w.left refl (λ x h. walked-spent p vs x h) e

-- ---- a unit

pub record UnitCounts (p : PlainProgram) (i : ℕ) (w u : PlainWalk) (rs : List (Option PlainGoal)) : Type 0 where
  pub left : u.left + length (unit_visits p rs) ≡ w.left
  pub deep : u.deep ≡ (w.deep || any_deep (unit_visits p rs))
  pub notes : u.notes ≡ joined w.notes (notes_of p (unit_visits p rs))
  pub root : unit_trees p rs ≡ None → u.root ≡ i + failing_root p rs
  pub leaf : unit_trees p rs ≡ None → u.leaf ≡ furthest None (leaves_of p (failing_visits p rs))

pub any-deep-append : (xs ys : List Visit) → any_deep (xs ++ ys) ≡ (any_deep xs || any_deep ys)
unfolding any_deep
any-deep-append [] ys = refl
any-deep-append (x ∷ xs) ys = ap (λ b. x.too_deep || b) (any-deep-append xs ys) ∙ sym (or-assoc x.too_deep (any_deep xs) (any_deep ys))

notes-of-append : (p : PlainProgram) (xs ys : List Visit) → notes_of p (xs ++ ys) ≡ joined (notes_of p xs) (notes_of p ys)
unfolding notes_of
notes-of-append p [] ys = refl
notes-of-append p (x ∷ xs) ys = ap (λ m. joined (notes_at p x.too_deep x.goal) m) (notes-of-append p xs ys) ∙ sym (joined-assoc (notes_at p x.too_deep x.goal) (notes_of p xs) (notes_of p ys))

-- the first tree is found, and then the others are looked for
visits-found : (p : PlainProgram) (r : Option PlainGoal) (rs : List (Option PlainGoal)) (t : Option PlainTree) → root_tree p r ≡ Some t → unit_visits p (r ∷ rs) ≡ root_visits p r ++ unit_visits p rs
unfolding unit_visits
visits-found p r rs t e = ap (λ o. root_visits p r ++ if_found (is_some o) (λ _. unit_visits p rs)) e

trees-found-by : (p : PlainProgram) (r : Option PlainGoal) (rs : List (Option PlainGoal)) (t : Option PlainTree) (o : Option (List (Option PlainTree))) → root_tree p r ≡ Some t → unit_trees p rs ≡ o → unit_trees p (r ∷ rs) ≡ None → o ≡ None
unfolding unit_trees
trees-found-by p r rs t None e k h = refl
trees-found-by p r rs t (Some ts) e k h = absurd (let x = rw (e, k) at h in cc)

trees-found : (p : PlainProgram) (r : Option PlainGoal) (rs : List (Option PlainGoal)) (t : Option PlainTree) → root_tree p r ≡ Some t → unit_trees p (r ∷ rs) ≡ None → unit_trees p rs ≡ None
trees-found p r rs t e h = trees-found-by p r rs t (unit_trees p rs) e refl h

failing-found : (p : PlainProgram) (r : Option PlainGoal) (rs : List (Option PlainGoal)) (t : Option PlainTree) → root_tree p r ≡ Some t → failing_visits p (r ∷ rs) ≡ failing_visits p rs
unfolding failing_visits
failing-found p r rs t e = ap (λ o. or_failing (is_some o) (root_visits p r) (λ _. failing_visits p rs)) e

number-found : (p : PlainProgram) (r : Option PlainGoal) (rs : List (Option PlainGoal)) (t : Option PlainTree) → root_tree p r ≡ Some t → failing_root p (r ∷ rs) ≡ suc (failing_root p rs)
unfolding failing_root
number-found p r rs t e = ap (λ o. or_failing (is_some o) 0 (λ _. suc (failing_root p rs))) e

visits-lost : (p : PlainProgram) (r : Option PlainGoal) (rs : List (Option PlainGoal)) → root_tree p r ≡ None → unit_visits p (r ∷ rs) ≡ root_visits p r
unfolding unit_visits
visits-lost p r rs e = ap (λ o. root_visits p r ++ if_found (is_some o) (λ _. unit_visits p rs)) e ∙ (simp append-nil)

failing-lost : (p : PlainProgram) (r : Option PlainGoal) (rs : List (Option PlainGoal)) → root_tree p r ≡ None → failing_visits p (r ∷ rs) ≡ root_visits p r
unfolding failing_visits
failing-lost p r rs e = ap (λ o. or_failing (is_some o) (root_visits p r) (λ _. failing_visits p rs)) e

number-lost : (p : PlainProgram) (r : Option PlainGoal) (rs : List (Option PlainGoal)) → root_tree p r ≡ None → failing_root p (r ∷ rs) ≡ 0
unfolding failing_root
number-lost p r rs e = ap (λ o. or_failing (is_some o) 0 (λ _. suc (failing_root p rs))) e

counts-found : (p : PlainProgram) (i : ℕ) (w x u : PlainWalk) (r : Option PlainGoal) (rs : List (Option PlainGoal)) (t : Option PlainTree) → root_tree p r ≡ Some t → Counts p (at_root i w) x (root_visits p r) → UnitCounts p (suc i) x u rs → UnitCounts p i w u (r ∷ rs)
counts-found p i w x u r rs t e k m =
    let v = visits-found p r rs t e in
    record {
      left = rw v (omega (arith, length-append (root_visits p r) (unit_visits p rs), k.left, m.left));
      deep = rw v (m.deep ∙ ap (λ b. b || any_deep (unit_visits p rs)) k.deep ∙ or-assoc w.deep (any_deep (root_visits p r)) (any_deep (unit_visits p rs)) ∙ ap (λ b. w.deep || b) (sym (any-deep-append (root_visits p r) (unit_visits p rs))));
      notes = rw v (m.notes ∙ ap (λ n. joined n (notes_of p (unit_visits p rs))) k.notes ∙ joined-assoc w.notes (notes_of p (root_visits p r)) (notes_of p (unit_visits p rs)) ∙ ap (λ n. joined w.notes n) (sym (notes-of-append p (root_visits p r) (unit_visits p rs))));
      root = λ h. (let a = m.root (trees-found p r rs t e h) in let b = number-found p r rs t e in omega (arith, a, b, k.root));
      leaf = λ h. rw (failing-found p r rs t e) (m.leaf (trees-found p r rs t e h));
    }

counts-lost : (p : PlainProgram) (i : ℕ) (w u : PlainWalk) (r : Option PlainGoal) (rs : List (Option PlainGoal)) → root_tree p r ≡ None → Counts p (at_root i w) u (root_visits p r) → UnitCounts p i w u (r ∷ rs)
counts-lost p i w u r rs e k =
    let v = visits-lost p r rs e in
    record { left = rw v k.left; deep = rw v k.deep; notes = rw v k.notes; root = λ h. (let b = number-lost p r rs e in omega (arith, b, k.root)); leaf = λ h. rw (failing-lost p r rs e) k.leaf }

unit-counts-by : (p : PlainProgram) (i : ℕ) (w u : PlainWalk) (r : Option PlainGoal) (rs : List (Option PlainGoal)) (o : Option PlainWalk) (t : Option (Option PlainTree)) → walked p (at_root i w) (root_visits p r) ≡ o → root_tree p r ≡ t →
    ((x : PlainWalk) → unit_walked p (suc i) x rs ≡ Some u → UnitCounts p (suc i) x u rs) → (o >>= λ x. go_on_if (is_some t) x (λ y. unit_walked p (suc i) y rs)) ≡ Some u → UnitCounts p i w u (r ∷ rs)
unit-counts-by p i w u r rs None t a b f h = absurd cc
unit-counts-by p i w u r rs (Some x) (Some t) a b f h = counts-found p i w x u r rs t b (walked-counts p (root_visits p r) (at_root i w) x a) (f x h)
unit-counts-by p i w u r rs (Some x) None a b f h = let k : x ≡ u = cc in counts-lost p i w u r rs b (walked-counts p (root_visits p r) (at_root i w) u (a ∙ ap (λ y. Some y) k))

pub unit-counts : (p : PlainProgram) (rs : List (Option PlainGoal)) (i : ℕ) (w u : PlainWalk) → unit_walked p i w rs ≡ Some u → UnitCounts p i w u rs
unfolding unit_walked unit_visits unit_trees any_deep notes_of
unit-counts p [] i w u e =
    let k : w ≡ u = cc in
    let P : PlainWalk → Type 0 = λ x. UnitCounts p i w x [] in
    subst P k (record { left = omega arith; deep = sym (or-false w.deep); notes = sym (joined-clean w.notes); root = λ h. absurd cc; leaf = λ h. absurd cc })
unit-counts p (r ∷ rs) i w u e = unit-counts-by p i w u r rs (root_walked p (at_root i w) r) (root_tree p r) (sym (root-walk p (at_root i w) r)) refl (λ x h. unit-counts p rs (suc i) x u h) e

unit-spent-by : (p : PlainProgram) (i : ℕ) (w : PlainWalk) (r : Option PlainGoal) (rs : List (Option PlainGoal)) (o : Option PlainWalk) (t : Option (Option PlainTree)) → walked p (at_root i w) (root_visits p r) ≡ o → root_tree p r ≡ t →
    ((x : PlainWalk) → unit_walked p (suc i) x rs ≡ None → x.left < length (unit_visits p rs)) → (o >>= λ x. go_on_if (is_some t) x (λ y. unit_walked p (suc i) y rs)) ≡ None → w.left < length (unit_visits p (r ∷ rs))
unit-spent-by p i w r rs None (Some t) a b f h = let k = walked-spent p (root_visits p r) (at_root i w) a in rw (visits-found p r rs t b) (omega (arith, length-append (root_visits p r) (unit_visits p rs)))
unit-spent-by p i w r rs None None a b f h = rw (visits-lost p r rs b) (walked-spent p (root_visits p r) (at_root i w) a)
unit-spent-by p i w r rs (Some x) None a b f h = absurd cc
unit-spent-by p i w r rs (Some x) (Some t) a b f h =
    let k = walked-counts p (root_visits p r) (at_root i w) x a in
    let m = f x h in
    rw (visits-found p r rs t b) (omega (arith, length-append (root_visits p r) (unit_visits p rs), k.left))

pub unit-spent : (p : PlainProgram) (rs : List (Option PlainGoal)) (i : ℕ) (w : PlainWalk) → unit_walked p i w rs ≡ None → w.left < length (unit_visits p rs)
unfolding unit_walked
unit-spent p [] i w e = absurd cc
unit-spent p (r ∷ rs) i w e = unit-spent-by p i w r rs (root_walked p (at_root i w) r) (root_tree p r) (sym (root-walk p (at_root i w) r)) refl (λ x h. unit-spent p rs (suc i) x h) e
