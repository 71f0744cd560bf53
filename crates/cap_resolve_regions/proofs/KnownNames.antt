-- The names that are found are those that a case or an action knows.
use Rattle.std.proofs.Common.{◌≡◌, Bool, ◌||◌, cond, List, [], ◌∷◌, filter, refl, ap, ◌∙◌}
use Rattle.cap_parse_tree.specs.Tree.{CaseTree, ActionTree, RegionTree}
use Rattle.cap_resolve_spec.specs.Parts.{whole_name, is_word, placed_items}
use Rattle.cap_resolve_spec.specs.Items.{NumberedRegion, name_of, is_bound}
use Rattle.cap_resolve_spec.specs.Regions.{parameters_scope, case_types, case_known, case_new, assertion_occurrences, action_known, action_new, counted_names}
use Rattle.cap_resolve_tables.proofs.Firsts.{known_among}
use Rattle.cap_resolve_regions.specs.Cases.{known_by_case, known_by_action}

filter_same : {A : Type 0} (p q : A → Bool) → ((x : A) → p x ≡ q x) → (xs : List A) → filter p xs ≡ filter q xs
filter_same p q e [] = refl
filter_same p q e (x ∷ xs) =
    ap (λ b. cond b (x ∷ filter p xs) (filter p xs)) (e x) ∙ ap (λ ys. cond (q x) (x ∷ ys) ys) (filter_same p q e xs)

pub case_names : (rs : List RegionTree) (k : NumberedRegion) (c : CaseTree) → known_by_case (parameters_scope k) (case_types rs k c) (placed_items c.assertion) c ≡ case_known rs k c
case_names rs k c =
    filter_same _ _ (λ o. ap (λ b. b || is_word (name_of o) (whole_name c.state)) (known_among (filter is_bound (assertion_occurrences rs k c)) (name_of o))) (case_new rs k c)

pub action_names : (k : NumberedRegion) (a : ActionTree) → known_by_action (parameters_scope k) k a ≡ action_known k a
action_names k a =
    filter_same _ _ (λ o. ap (λ b. is_word (name_of o) (whole_name a.source) || (is_word (name_of o) (whole_name a.target) || b)) (known_among (filter is_bound (counted_names k a)) (name_of o))) (action_new k a)
