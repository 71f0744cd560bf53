-- The tree that a search finds is the first guided one, and one is found where there is one.
use Rattle.std.proofs.Common.{◌≡◌, ℕ, zero, suc, ◌+◌, ◌≤◌, ◌⊎◌, inl, inr, List, [], ◌∷◌, Option, Some, None, option_map, refl, ◌∙◌, sym, subst, ap, arith}
use Rattle.std.specs.List.{AllByRecursion}
use Rattle.cap_prog.specs.Program.{PlainProgram}
use Rattle.cap_goal_spec.specs.States.{PlainGoal}
use Rattle.cap_goal_spec.specs.Choices.{PlainChoice, certs_of, PlainTree, node, PlainTrees, no_trees, tree}
use Rattle.cap_rules.specs.Answers.{Subgoals, marks_of}
use Rattle.cap_rules.specs.Rules.{rule}
use Rattle.cap_rules.specs.Valid.{deepest}
use Rattle.cap_rules.proofs.Answering.{answers-succeed}
use Rattle.cap_offer_spec.specs.Members.{IsOneOf, IsFirstOf}
use Rattle.cap_offer_spec.specs.Offering.{offered}
use Rattle.cap_search_spec.specs.Guided.{IsGuided, AreGuided, IsPossible, IsFirst, AreFirst}
use Rattle.cap_search_spec.specs.Seeking.{or_else, ◌>>=◌, trees_of, node_of, left_by, all_trees, first_tree, tree_within}
use Rattle.cap_search_spec.proofs.Applies.{OffersApply}

first-one-of : (P : PlainChoice → Type 0) (cs : List PlainChoice) (c : PlainChoice) → IsFirstOf P cs c → IsOneOf cs c
first-one-of P [] c h = h
first-one-of P (x ∷ xs) c h = elim h [ inl a ↦ inl a.0 | inr a ↦ inr (first-one-of P xs c a.1) ]

mutual
  pub first-is-guided : (p : PlainProgram) (d : ℕ) (t : PlainTree) (g : PlainGoal) → IsFirst p d t g → IsGuided p d t g
  first-is-guided p d (node c ts) g h = (h.0, h.1, (first-one-of (IsPossible p d g) (offered p g).value c h.2.0, h.2.1), firsts-are-guided p (suc d) ts h.1 h.3)

  firsts-are-guided : (p : PlainProgram) (d : ℕ) (ts : PlainTrees) (gs : List PlainGoal) → AreFirst p d ts gs → AreGuided p d ts gs
  firsts-are-guided p d no_trees [] h = tt
  firsts-are-guided p d no_trees (g ∷ gs) h = h
  firsts-are-guided p d (tree t ts) [] h = h
  firsts-are-guided p d (tree t ts) (g ∷ gs) h = (first-is-guided p d t g h.0, firsts-are-guided p d ts gs h.1)

-- subgoals are what the rule leaves
pub left-subgoals : (p : PlainProgram) (g : PlainGoal) (c : PlainChoice) (gs : List PlainGoal) → Subgoals p g c gs → left_by p g c ≡ Some gs
unfolding left_by
left-subgoals p g c gs s = (answers-succeed (rule p g c (marks_of c)) (certs_of c) gs s).value

none-some : {A : Type 0} {x : A} → None ≡ Some x → ⊥
none-some e = cc

same-some : {A : Type 0} (x y : A) → Some x ≡ Some y → x ≡ y
same-some x y e = cc

-- ---- one level: what is found below is first, and is found where a guided tree is
module _ (p : PlainProgram) (T : PlainGoal → Option PlainTree) (room d : ℕ) (sound : (g : PlainGoal) (t : PlainTree) → OffersApply p room g → T g ≡ Some t → IsFirst p (suc d) t g) (complete : (g : PlainGoal) (t : PlainTree) → IsGuided p (suc d) t g → (u : PlainTree) × (T g ≡ Some u)) where
  all-by : (g : PlainGoal) (gs : List PlainGoal) (us : List PlainTree) (o : Option PlainTree) (q : Option (List PlainTree)) → T g ≡ o → all_trees T gs ≡ q → OffersApply p room g → ((ts : List PlainTree) → all_trees T gs ≡ Some ts → AreFirst p (suc d) (trees_of ts) gs) →
      (o >>= λ t. q >>= λ ts. Some (t ∷ ts)) ≡ Some us → AreFirst p (suc d) (trees_of us) (g ∷ gs)
  all-by g gs us None q a b k f h = absurd (none-some h)
  all-by g gs us (Some t) None a b k f h = absurd (none-some h)
  all-by g gs us (Some t) (Some ts) a b k f h = let P : List PlainTree → Type 0 = λ x. AreFirst p (suc d) (trees_of x) (g ∷ gs) in subst P (same-some (t ∷ ts) us h) (sound g t k a, f ts b)

  all-found : (gs : List PlainGoal) (ts : List PlainTree) → AllByRecursion (OffersApply p room) gs → all_trees T gs ≡ Some ts → AreFirst p (suc d) (trees_of ts) gs
  unfolding all_trees
  all-found [] ts k h = let P : List PlainTree → Type 0 = λ x. AreFirst p (suc d) (trees_of x) [] in subst P (same-some [] ts h) tt
  all-found (g ∷ gs) us k h = all-by g gs us (T g) (all_trees T gs) refl refl k.0 (λ ts e. all-found gs ts k.1 e) h

  all-there : (gs : List PlainGoal) (ts : PlainTrees) → AreGuided p (suc d) ts gs → (us : List PlainTree) × (all_trees T gs ≡ Some us)
  unfolding all_trees
  all-there [] no_trees h = ([], refl)
  all-there [] (tree t ts) h = absurd h
  all-there (g ∷ gs) no_trees h = absurd h
  all-there (g ∷ gs) (tree t ts) h =
      let a = complete g t h.0 in
      let b = all-there gs ts h.1 in
      (a.0 ∷ b.0, rw (a.1, b.1) refl)

  -- a possible choice has trees
  possible-there : (g : PlainGoal) (c : PlainChoice) → IsPossible p d g c → (us : List PlainTree) × ((left_by p g c >>= all_trees T) ≡ Some us)
  possible-there g c h =
      let b = all-there h.0 h.2 h.3 in
      (b.0, ap (λ o. o >>= all_trees T) (left-subgoals p g c h.0 h.1) ∙ b.1)

  abbrev Found : PlainGoal → List PlainChoice → PlainTree → Type 0
  Found g cs (node c ts) = (gs : List PlainGoal) × (IsFirstOf (IsPossible p d g) cs c × Subgoals p g c gs) × AreFirst p (suc d) ts gs

  passed : (g : PlainGoal) (x : PlainChoice) (xs : List PlainChoice) (t : PlainTree) → (IsPossible p d g x → ⊥) → Found g xs t → Found g (x ∷ xs) t
  passed g x xs (node c ts) n f = (f.0, (inr (n, f.1.0), f.1.1), f.2)

  taken : (g : PlainGoal) (x : PlainChoice) (xs : List PlainChoice) (ts : List PlainTree) (gs : List PlainGoal) → Subgoals p g x gs → AllByRecursion (OffersApply p room) gs → (left_by p g x >>= all_trees T) ≡ Some ts → Found g (x ∷ xs) (node_of x ts)
  taken g x xs ts gs s k a =
      let e : all_trees T gs ≡ Some ts = sym (ap (λ o. o >>= all_trees T) (left-subgoals p g x gs s)) ∙ a in
      let q = all-found gs ts k e in
      (gs, (inl (refl, (gs, s, trees_of ts, firsts-are-guided p (suc d) (trees_of ts) gs q)), s), q)

  found-by : (g : PlainGoal) (x : PlainChoice) (xs : List PlainChoice) (t : PlainTree) (o : Option (List PlainTree)) → (left_by p g x >>= all_trees T) ≡ o → ((gs : List PlainGoal) × Subgoals p g x gs × AllByRecursion (OffersApply p room) gs) → (first_tree p T g xs ≡ Some t → Found g xs t) →
      or_else (option_map (node_of x) o) (λ _. first_tree p T g xs) ≡ Some t → Found g (x ∷ xs) t
  found-by g x xs t (Some ts) a k f h = subst (Found g (x ∷ xs)) (same-some (node_of x ts) t h) (taken g x xs ts k.0 k.1 k.2 a)
  found-by g x xs t None a k f h = passed g x xs t (λ q. let b = possible-there g x q in absurd (none-some (sym a ∙ b.1))) (f h)

  found : (g : PlainGoal) (cs : List PlainChoice) (t : PlainTree) → ((c : PlainChoice) → IsOneOf cs c → (gs : List PlainGoal) × Subgoals p g c gs × AllByRecursion (OffersApply p room) gs) → first_tree p T g cs ≡ Some t → Found g cs t
  unfolding first_tree
  found g [] t k h = absurd (none-some h)
  found g (x ∷ xs) t k h = found-by g x xs t (left_by p g x >>= all_trees T) refl (k x (inl refl)) (λ e. found g xs t (λ c i. k c (inr i)) e) h

  pub first-found : (g : PlainGoal) (t : PlainTree) → d ≤ deepest → OffersApply p (suc room) g → first_tree p T g (offered p g).value ≡ Some t → IsFirst p d t g
  first-found g (node c ts) l k h = let f = found g (offered p g).value (node c ts) k h in (l, f.0, f.1, f.2)

  there-by : (g : PlainGoal) (x : PlainChoice) (xs : List PlainChoice) (o : Option (List PlainTree)) → (left_by p g x >>= all_trees T) ≡ o → (IsPossible p d g x ⊎ ((t : PlainTree) × (first_tree p T g xs ≡ Some t))) →
      (t : PlainTree) × (or_else (option_map (node_of x) o) (λ _. first_tree p T g xs) ≡ Some t)
  there-by g x xs (Some ts) a h = (node_of x ts, refl)
  there-by g x xs None a h = elim h [ inl q ↦ (let b = possible-there g x q in absurd (none-some (sym a ∙ b.1))) | inr q ↦ q ]

  there : (g : PlainGoal) (cs : List PlainChoice) (c : PlainChoice) → IsOneOf cs c → IsPossible p d g c → (t : PlainTree) × (first_tree p T g cs ≡ Some t)
  unfolding first_tree
  there g [] c h q = absurd h
  there g (x ∷ xs) c h q = there-by g x xs (left_by p g x >>= all_trees T) refl (elim h [ inl e ↦ inl (subst (IsPossible p d g) (sym e) q) | inr k ↦ inr (there g xs c k q) ])

  pub first-there : (g : PlainGoal) (t : PlainTree) → IsGuided p d t g → (u : PlainTree) × (first_tree p T g (offered p g).value ≡ Some u)
  first-there g (node c ts) h = there g (offered p g).value c h.2.0 (h.1, h.2.1, ts, h.3)

-- ---- all levels
guided-is-not-deep : (p : PlainProgram) (d : ℕ) (t : PlainTree) (g : PlainGoal) → IsGuided p d t g → d ≤ deepest
guided-is-not-deep p d (node c ts) g h = h.0

pub record Within (p : PlainProgram) (room d : ℕ) : Type 0 where
  pub sound : (g : PlainGoal) (t : PlainTree) → OffersApply p room g → tree_within p room g ≡ Some t → IsFirst p d t g
  pub complete : (g : PlainGoal) (t : PlainTree) → IsGuided p d t g → (u : PlainTree) × (tree_within p room g ≡ Some u)

pub within : (p : PlainProgram) (room d : ℕ) → d + room ≡ suc deepest → Within p room d
unfolding tree_within
within p zero d e = record { sound = λ g t k h. absurd (none-some h); complete = λ g t h. absurd (let l = guided-is-not-deep p d t g h in omega arith) }
within p (suc room) d e =
    let k : suc d + room ≡ suc deepest = omega arith in
    let w = within p room (suc d) k in
    let l : d ≤ deepest = omega arith in
    record {
      sound = λ g t a h. first-found p (tree_within p room) room d w.sound w.complete g t l a h;
      complete = λ g t h. first-there p (tree_within p room) room d w.sound w.complete g t h;
    }

-- ---- there is one first tree
first-one : (P : PlainChoice → Type 0) (cs : List PlainChoice) (b c : PlainChoice) → IsFirstOf P cs b → IsFirstOf P cs c → b ≡ c
first-one P [] b c h k = absurd h
first-one P (x ∷ xs) b c h k = elim h [ inl a ↦ elim k [ inl e ↦ sym a.0 ∙ e.0 | inr f ↦ absurd (f.0 a.1) ] | inr a ↦ elim k [ inl e ↦ absurd (a.0 e.1) | inr f ↦ first-one P xs b c a.1 f.1 ] ]

mutual
  pub first-unique : (p : PlainProgram) (d : ℕ) (t u : PlainTree) (g : PlainGoal) → IsFirst p d t g → IsFirst p d u g → t ≡ u
  first-unique p d (node b ts) (node c us) g h k =
      let e : b ≡ c = first-one (IsPossible p d g) (offered p g).value b c h.2.0 k.2.0 in
      let Q : PlainChoice → Type 0 = λ x. Subgoals p g x k.1 in
      let s : Subgoals p g b k.1 = subst Q (sym e) k.2.1 in
      let q : k.1 ≡ h.1 = same-some k.1 h.1 (sym (left-subgoals p g b k.1 s) ∙ left-subgoals p g b h.1 h.2.1) in
      let R : List PlainGoal → Type 0 = λ x. AreFirst p (suc d) us x in
      let f : ts ≡ us = firsts-unique p (suc d) ts us h.1 h.3 (subst R q k.3) in
      cc

  firsts-unique : (p : PlainProgram) (d : ℕ) (ts us : PlainTrees) (gs : List PlainGoal) → AreFirst p d ts gs → AreFirst p d us gs → ts ≡ us
  firsts-unique p d no_trees no_trees gs h k = refl
  firsts-unique p d no_trees (tree u us) [] h k = absurd k
  firsts-unique p d no_trees (tree u us) (g ∷ gs) h k = absurd h
  firsts-unique p d (tree t ts) us [] h k = absurd h
  firsts-unique p d (tree t ts) no_trees (g ∷ gs) h k = absurd k
  firsts-unique p d (tree t ts) (tree u us) (g ∷ gs) h k = let a = first-unique p d t u g h.0 k.0 in let b = firsts-unique p d ts us gs h.1 k.1 in cc
