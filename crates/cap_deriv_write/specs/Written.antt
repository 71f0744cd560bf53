-- The text that is written for trees.
use Rattle.std.specs.Prelude.{ℕ, List, [], ◌∷◌, ◌++◌, length, Option}
use Rattle.serde_json.specs.Data.{Data}
use Rattle.serde_json.specs.Written.{compact_text}
use Rattle.cap_goal_spec.specs.Choices.{PlainChoice, PlainTree}
use Rattle.cap_deriv_write.specs.Forms.{choice_form, opening_form, closing_form}
use Rattle.cap_deriv_write.specs.Preorder.{choices_of_roots}

-- a value without free spaces, and an LF
unfoldable pub line_text : Data → List ℕ
line_text d = compact_text d ++ 10 ∷ []

abbrev pub choice_lines : List PlainChoice → List ℕ
choice_lines [] = []
choice_lines (c ∷ cs) = line_text (choice_form c) ++ choice_lines cs

-- the lines of choices in preorder, of this number of trees
abbrev pub text_of_choices : ℕ → List PlainChoice → List ℕ
text_of_choices trees cs =
    line_text (opening_form trees) ++ (choice_lines cs ++ line_text (closing_form (length cs)))

abbrev pub derivation_text : List (Option PlainTree) → List ℕ
derivation_text roots = text_of_choices (length roots) (choices_of_roots roots)
