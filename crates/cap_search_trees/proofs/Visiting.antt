-- A goal below which there is room is visited, and then its offered choices are tried.
use Rattle.std.proofs.Common.{◌≡◌, ℕ, suc, ◌-◌, false, List, Some, option_map, ap, sym, ◌∙◌, arith}
use Rattle.cap_prog.specs.Program.{PlainProgram}
use Rattle.cap_goal_spec.specs.States.{PlainGoal}
use Rattle.cap_goal_spec.specs.Choices.{PlainChoice}
use Rattle.cap_offer_spec.specs.Deciding.{PlainNotes}
use Rattle.cap_offer_spec.specs.Offering.{offered}
use Rattle.cap_search_spec.specs.Seeking.{◌>>=◌, first_tree, tree_within}
use Rattle.cap_search_spec.specs.Walks.{PlainWalk, met, seen, counted, choices_walked, walked_within}

-- with room for so many levels below its subgoals
tree-below : (p : PlainProgram) (g : PlainGoal) (room : ℕ) (cs : List PlainChoice) → cs ≡ (offered p g).value → tree_within p (suc room) g ≡ first_tree p (tree_within p room) g cs
unfolding tree_within
tree-below p g room cs e = ap (λ xs. first_tree p (tree_within p room) g xs) (sym e)

walk-below : (p : PlainProgram) (g : PlainGoal) (room : ℕ) (w u v : PlainWalk) (cs : List PlainChoice) (n : PlainNotes) → counted w w.left ≡ Some u → cs ≡ (offered p g).value → n ≡ (offered p g).notes → v ≡ met p u g cs n → walked_within p (suc room) w g ≡ choices_walked p (tree_within p room) (walked_within p room) g v cs
unfolding walked_within
walk-below p g room w u v cs n e f h k =
    let q : met p u g (offered p g).value (offered p g).notes ≡ v = sym (k ∙ (ap (λ xs. met p u g xs n) f ∙ ap (λ m. met p u g (offered p g).value m) h)) in
    ap (λ o. option_map (λ x. seen p x g false) o >>= λ x. choices_walked p (tree_within p room) (walked_within p room) g x (offered p g).value) e
    ∙ (ap (λ x. choices_walked p (tree_within p room) (walked_within p room) g x (offered p g).value) q
    ∙ ap (λ xs. choices_walked p (tree_within p room) (walked_within p room) g v xs) (sym f))

one-less : (room : ℕ) → (room ≡ 0 → ⊥) → suc (room - 1) ≡ room
one-less room h = omega (arith, h)

pub tree-visited : (p : PlainProgram) (g : PlainGoal) (room : ℕ) (cs : List PlainChoice) → (room ≡ 0 → ⊥) → cs ≡ (offered p g).value → tree_within p room g ≡ first_tree p (tree_within p (room - 1)) g cs
tree-visited p g room cs h e = ap (λ r. tree_within p r g) (sym (one-less room h)) ∙ tree-below p g (room - 1) cs e

pub walk-visited : (p : PlainProgram) (g : PlainGoal) (room : ℕ) (w u v : PlainWalk) (cs : List PlainChoice) (n : PlainNotes) → (room ≡ 0 → ⊥) → counted w w.left ≡ Some u → cs ≡ (offered p g).value → n ≡ (offered p g).notes → v ≡ met p u g cs n → walked_within p room w g ≡ choices_walked p (tree_within p (room - 1)) (walked_within p (room - 1)) g v cs
walk-visited p g room w u v cs n z e f h k =
    ap (λ r. walked_within p r w g) (sym (one-less room z)) ∙ walk-below p g (room - 1) w u v cs n e f h k
