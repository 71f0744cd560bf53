-- The search goes over the visits in their order.
use Rattle.std.proofs.Common.{◌≡◌, ℕ, zero, suc, Bool, true, false, List, [], ◌∷◌, ◌++◌, Option, Some, None, is_some, refl, ap, ◌∙◌, sym}
use Rattle.cap_prog.specs.Program.{PlainProgram}
use Rattle.cap_goal_spec.specs.States.{PlainGoal}
use Rattle.cap_goal_spec.specs.Choices.{PlainChoice, PlainTree}
use Rattle.cap_rules.specs.Valid.{deepest}
use Rattle.cap_offer_spec.specs.Offering.{offered}
use Rattle.cap_search_spec.specs.Seeking.{◌>>=◌, left_by, all_trees, tree_within, Visit, visit, if_found, unless_found, goals_visits, left_visits, choices_visits, visits_within, root_visits}
use Rattle.cap_search_spec.specs.Walks.{PlainWalk, after, walked, go_on_if, go_on_unless, goals_walked, left_walked, choices_walked, walked_within, root_walked}

-- equal for each record that is left, so equal after the same step
pub same-after : (o : Option PlainWalk) (f h : PlainWalk → Option PlainWalk) → ((w : PlainWalk) → f w ≡ h w) → (o >>= f) ≡ (o >>= h)
same-after None f h e = refl
same-after (Some w) f h e = e w

in-turn : (o : Option PlainWalk) (f h : PlainWalk → Option PlainWalk) → ((o >>= f) >>= h) ≡ (o >>= λ w. f w >>= h)
in-turn None f h = refl
in-turn (Some w) f h = refl

pub walked-append : (p : PlainProgram) (w : PlainWalk) (xs ys : List Visit) → walked p w (xs ++ ys) ≡ (walked p w xs >>= λ u. walked p u ys)
unfolding walked
walked-append p w [] ys = refl
walked-append p w (x ∷ xs) ys = same-after (after p w x) (λ u. walked p u (xs ++ ys)) (λ u. walked p u xs >>= λ t. walked p t ys) (λ u. walked-append p u xs ys) ∙ sym (in-turn (after p w x) (λ u. walked p u xs) (λ u. walked p u ys))

module _ (p : PlainProgram) (T : PlainGoal → Option PlainTree) (W : PlainWalk → PlainGoal → Option PlainWalk) (V : PlainGoal → List Visit) (below : (w : PlainWalk) (g : PlainGoal) → W w g ≡ walked p w (V g)) where
  goals-on : (b : Bool) (u : PlainWalk) (gs : List PlainGoal) → goals_walked T W u gs ≡ walked p u (goals_visits T V gs) → go_on_if b u (λ x. goals_walked T W x gs) ≡ walked p u (if_found b (λ _. goals_visits T V gs))
  unfolding walked
  goals-on true u gs e = e
  goals-on false u gs e = refl

  goals-walk : (gs : List PlainGoal) (w : PlainWalk) → goals_walked T W w gs ≡ walked p w (goals_visits T V gs)
  unfolding goals_walked goals_visits walked
  goals-walk [] w = refl
  goals-walk (g ∷ gs) w =
      let b = is_some (T g) in
      ap (λ o. o >>= λ u. go_on_if b u (λ x. goals_walked T W x gs)) (below w g)
      ∙ same-after (walked p w (V g)) (λ u. go_on_if b u (λ x. goals_walked T W x gs)) (λ u. walked p u (if_found b (λ _. goals_visits T V gs))) (λ u. goals-on b u gs (goals-walk gs u))
      ∙ sym (walked-append p w (V g) (if_found b (λ _. goals_visits T V gs)))

  left-walk : (o : Option (List PlainGoal)) (w : PlainWalk) → left_walked T W w o ≡ walked p w (left_visits T V o)
  unfolding walked
  left-walk None w = refl
  left-walk (Some gs) w = goals-walk gs w

  choices-on : (b : Bool) (u : PlainWalk) (g : PlainGoal) (cs : List PlainChoice) → choices_walked p T W g u cs ≡ walked p u (choices_visits p T V g cs) → go_on_unless b u (λ x. choices_walked p T W g x cs) ≡ walked p u (unless_found b (λ _. choices_visits p T V g cs))
  unfolding walked
  choices-on true u g cs e = refl
  choices-on false u g cs e = e

  pub choices-walk : (g : PlainGoal) (cs : List PlainChoice) (w : PlainWalk) → choices_walked p T W g w cs ≡ walked p w (choices_visits p T V g cs)
  unfolding choices_walked choices_visits walked
  choices-walk g [] w = refl
  choices-walk g (c ∷ cs) w =
      let b = is_some (left_by p g c >>= all_trees T) in
      let vs = left_visits T V (left_by p g c) in
      ap (λ o. o >>= λ u. go_on_unless b u (λ x. choices_walked p T W g x cs)) (left-walk (left_by p g c) w)
      ∙ same-after (walked p w vs) (λ u. go_on_unless b u (λ x. choices_walked p T W g x cs)) (λ u. walked p u (unless_found b (λ _. choices_visits p T V g cs))) (λ u. choices-on b u g cs (choices-walk g cs u))
      ∙ sym (walked-append p w vs (unless_found b (λ _. choices_visits p T V g cs)))

one-visit : (o : Option PlainWalk) → (o >>= λ u. Some u) ≡ o
one-visit None = refl
one-visit (Some w) = refl

pub goal-walk : (p : PlainProgram) (room : ℕ) (w : PlainWalk) (g : PlainGoal) → walked_within p room w g ≡ walked p w (visits_within p room g)
unfolding walked_within visits_within walked
goal-walk p zero w g = sym (one-visit (after p w (visit true g)))
goal-walk p (suc room) w g =
    same-after (after p w (visit false g)) (λ u. choices_walked p (tree_within p room) (walked_within p room) g u (offered p g).value) (λ u. walked p u (choices_visits p (tree_within p room) (visits_within p room) g (offered p g).value))
    (λ u. choices-walk p (tree_within p room) (walked_within p room) (visits_within p room) (λ v h. goal-walk p room v h) g (offered p g).value u)

pub root-walk : (p : PlainProgram) (w : PlainWalk) (r : Option PlainGoal) → root_walked p w r ≡ walked p w (root_visits p r)
unfolding walked
root-walk p w None = refl
root-walk p w (Some g) = goal-walk p deepest w g
