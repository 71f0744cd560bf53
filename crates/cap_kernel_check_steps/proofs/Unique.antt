-- Valid trees with the same choices in preorder are the same.
use Rattle.std.proofs.Common.{◌≡◌, ℕ, suc, List, [], ◌∷◌, ◌++◌, Option, Some, None, refl, sym, ap, subst, ◌∙◌, append_assoc}
use Rattle.std.specs.List.{AllZip}
use Rattle.cap_prog.specs.Program.{PlainProgram}
use Rattle.cap_goal_spec.specs.States.{PlainGoal}
use Rattle.cap_goal_spec.specs.Choices.{PlainChoice, PlainTree, node, PlainTrees, no_trees, tree}
use Rattle.cap_goal_spec.specs.Roots.{all_roots}
use Rattle.cap_rules.specs.Answers.{Subgoals}
use Rattle.cap_rules.specs.Valid.{Derives, AllDerive, RootDerives}
use Rattle.cap_kernel_check_steps.specs.Owed.{choices_of, all_choices_of, preorder}
use Rattle.cap_kernel_check_steps.specs.Laws.{ValidTreesAreOne}
use Rattle.cap_kernel_check_steps.proofs.Trees.{subgoals-one}

mutual
  tree-one : (t u : PlainTree) (p : PlainProgram) (n : ℕ) (g : PlainGoal) (xs ys : List PlainChoice) → Derives p n t g → Derives p n u g → choices_of t ++ xs ≡ choices_of u ++ ys → (t ≡ u) × (xs ≡ ys)
  tree-one (node c ts) (node d us) p n g xs ys (l, gs, s, a) (m, hs, r, b) e =
      let f : c ∷ (all_choices_of ts ++ xs) ≡ d ∷ (all_choices_of us ++ ys) = e in
      let head : c ≡ d = cc in
      let tail : all_choices_of ts ++ xs ≡ all_choices_of us ++ ys = cc in
      let same : gs ≡ hs = subgoals-one p g c gs hs s (subst (λ z. Subgoals p g z hs) (sym head) r) in
      let w : (ts ≡ us) × (xs ≡ ys) = trees-one ts us p (suc n) gs xs ys a (subst (AllDerive (Subgoals p) (suc n) us) (sym same) b) tail in
      let x : ts ≡ us = w.0 in
      (cc, w.1)

  trees-one : (ts us : PlainTrees) (p : PlainProgram) (n : ℕ) (gs : List PlainGoal) (xs ys : List PlainChoice) → AllDerive (Subgoals p) n ts gs → AllDerive (Subgoals p) n us gs → all_choices_of ts ++ xs ≡ all_choices_of us ++ ys → (ts ≡ us) × (xs ≡ ys)
  trees-one no_trees no_trees p n gs xs ys a b e = (refl, e)
  trees-one no_trees (tree u us) p n [] xs ys a b e = absurd b
  trees-one no_trees (tree u us) p n (g ∷ gs) xs ys a b e = absurd a
  trees-one (tree t ts) no_trees p n [] xs ys a b e = absurd a
  trees-one (tree t ts) no_trees p n (g ∷ gs) xs ys a b e = absurd b
  trees-one (tree t ts) (tree u us) p n [] xs ys a b e = absurd a
  trees-one (tree t ts) (tree u us) p n (g ∷ gs) xs ys (a, more) (b, others) e =
      let f : choices_of t ++ (all_choices_of ts ++ xs) ≡ choices_of u ++ (all_choices_of us ++ ys) = sym (append_assoc (choices_of t) (all_choices_of ts) xs) ∙ (e ∙ append_assoc (choices_of u) (all_choices_of us) ys) in
      let w : (t ≡ u) × (all_choices_of ts ++ xs ≡ all_choices_of us ++ ys) = tree-one t u p n g (all_choices_of ts ++ xs) (all_choices_of us ++ ys) a b f in
      let v : (ts ≡ us) × (xs ≡ ys) = trees-one ts us p n gs xs ys more others w.1 in
      let x : t ≡ u = w.0 in
      let y : ts ≡ us = v.0 in
      (cc, v.1)

roots-one : (p : PlainProgram) (rs : List (Option PlainGoal)) (ts us : List (Option PlainTree)) → AllZip (RootDerives p) ts rs → AllZip (RootDerives p) us rs → preorder ts ≡ preorder us → ts ≡ us
roots-one p [] [] [] a b e = refl
roots-one p [] [] (u ∷ us) a b e = absurd b
roots-one p [] (t ∷ ts) us a b e = absurd a
roots-one p (r ∷ rs) [] us a b e = absurd a
roots-one p (r ∷ rs) (t ∷ ts) [] a b e = absurd b
roots-one p (None ∷ rs) (None ∷ ts) (None ∷ us) a b e = ap (λ z. None ∷ z) (roots-one p rs ts us a.1 b.1 e)
roots-one p (None ∷ rs) (None ∷ ts) (Some u ∷ us) a b e = absurd b.0
roots-one p (None ∷ rs) (Some t ∷ ts) us a b e = absurd a.0
roots-one p (Some g ∷ rs) (None ∷ ts) us a b e = absurd a.0
roots-one p (Some g ∷ rs) (Some t ∷ ts) (None ∷ us) a b e = absurd b.0
roots-one p (Some g ∷ rs) (Some t ∷ ts) (Some u ∷ us) a b e =
    let w : (t ≡ u) × (preorder ts ≡ preorder us) = tree-one t u p 1 g (preorder ts) (preorder us) a.0 b.0 e in
    ap (λ z. Some z ∷ ts) w.0 ∙ ap (λ z. Some u ∷ z) (roots-one p rs ts us a.1 b.1 w.1)

pub valid-trees-one : ValidTreesAreOne
valid-trees-one p a b v w e = roots-one p (all_roots p) a b v.derivations w.derivations e
