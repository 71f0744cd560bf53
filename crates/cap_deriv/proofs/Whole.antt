-- The choices so far, in front of what is left.
use Rattle.std.proofs.Common.{◌≡◌, ℕ, suc, List, [], ◌∷◌, ◌++◌, map, Err, refl, ap, ◌∙◌}
use Rattle.std.proofs.lemmas.List.{map_push}
use Rattle.cap_goal_spec.specs.Choices.{PlainChoice}
use Rattle.cap_deriv.specs.Told.{choices_told, Told, all_told, bad_told, unended_told, too_many_told, choice_told, Opening, opening_told}
use Rattle.cap_deriv.specs.Telling.{Tells}
use Rattle.cap_goal.specs.Views.{choice_view}
use Rattle.cap_deriv.specs.Whole.{told_at_last, end_of_opening, ReadsWhole}
use Rattle.cap_goal.specs.declared.choice.Choice.{Choice}
use Rattle.cap_deriv.specs.declared.cursor.DerivError.{DerivError}
use Rattle.cap_deriv.specs.declared.cursor.DerivError.TheVariants.{BadLine, Unended, TooMany, OutOfMemory}

pub nodes_more : (cs : List PlainChoice) (c : PlainChoice) (t : Told) → choices_told (cs ++ c ∷ []) t ≡ choices_told cs (choice_told c t)
nodes_more [] c t = refl
nodes_more (b ∷ cs) c t = ap (choice_told b) (nodes_more cs c t)

pub ending_nodes : (cs : List PlainChoice) (t : Told) → told_at_last (choices_told cs t) ≡ told_at_last t
ending_nodes [] t = refl
ending_nodes (c ∷ cs) t = ending_nodes cs t

abbrev pub count : Told → ℕ
count all_told = 0
count (bad_told n) = 0
count unended_told = 0
count too_many_told = 0
count (choice_told c t) = suc (count t)

pub pushed : (o : Opening) (trees more : ℕ) (cs items : List Choice) (c : Choice) (t rest : Told) → o ≡ opening_told trees (choices_told (map choice_view cs) t) → t ≡ choice_told (choice_view c) rest
    → more ≡ trees → items ≡ cs ++ c ∷ [] → o ≡ opening_told more (choices_told (map choice_view items) rest)
pushed o trees more cs items c t rest e first same grown =
    let m : map choice_view items ≡ map choice_view cs ++ choice_view c ∷ [] = ap (map choice_view) grown ∙ map_push choice_view cs c in
    rw (same, m, nodes_more (map choice_view cs) (choice_view c) rest, ← first) e

pub failed : (o : Opening) (trees : ℕ) (cs : List PlainChoice) (t rest : Told) (x : DerivError) → o ≡ opening_told trees (choices_told cs t) → Tells (Err x) t rest → ReadsWhole (Err x) o
failed o trees cs t rest (BadLine n) e a = ap end_of_opening e ∙ ending_nodes cs t ∙ ap told_at_last a.0
failed o trees cs t rest Unended e a = ap end_of_opening e ∙ ending_nodes cs t ∙ ap told_at_last a.0
failed o trees cs t rest TooMany e a = ap end_of_opening e ∙ ending_nodes cs t ∙ ap told_at_last a.0
failed o trees cs t rest OutOfMemory e a = tt
