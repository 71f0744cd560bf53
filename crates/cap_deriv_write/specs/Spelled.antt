-- Bytes that are the lines of a derivation.
use Rattle.std.specs.Prelude.{◌≡◌, ◌≤◌, ◌<◌, ℕ, List, [], ◌∷◌, ◌++◌, map, length, Option, Some, ⊤}
use Rattle.std.specs.List.{AllByRecursion}
use Rattle.std.specs.Str.{IsUtf8}
use Rattle.serde_json.specs.Data.{Data}
use Rattle.serde_json.specs.Read.{read}
use Rattle.cap_goal_spec.specs.Choices.{PlainChoice, PlainTree}
use Rattle.cap_deriv.specs.Told.{ended_lines}
use Rattle.cap_deriv_write.specs.Bounds.{IsNumber, IsChoice}
use Rattle.cap_deriv_write.specs.Forms.{choice_form, opening_form, closing_form}
use Rattle.cap_deriv_write.specs.Preorder.{choices_of_roots}

-- the bytes are a JSON text of the value, in UTF-8
abbrev pub IsText : List ℕ → Data → Type 0
IsText l d = IsUtf8 l × (read l ≡ Some d)

-- the lines are texts of the values, one each
abbrev pub AreTexts : List (List ℕ) → List Data → Type 0
AreTexts [] [] = ⊤
AreTexts [] (d ∷ ds) = ⊥
AreTexts (l ∷ ls) [] = ⊥
AreTexts (l ∷ ls) (d ∷ ds) = IsText l d × AreTexts ls ds

-- what follows the first line, the last one saying this number of nodes
abbrev pub later_forms : ℕ → List PlainChoice → List Data
later_forms nodes cs = map choice_form cs ++ closing_form nodes ∷ []

abbrev pub all_forms : ℕ → List PlainChoice → List Data
all_forms trees cs = opening_form trees ∷ later_forms (length cs) cs

-- the numbers are within their bounds, and no multiplier is 0
abbrev pub HaveForms : ℕ → List PlainChoice → Type 0
HaveForms trees cs = IsNumber trees × AllByRecursion IsChoice cs

-- the bytes are the lines of these choices in preorder, of this number of trees
abbrev pub AreLines : ℕ → List PlainChoice → List ℕ → Type 0
AreLines trees cs bytes = HaveForms trees cs × AreTexts (ended_lines bytes) (all_forms trees cs)

-- the numbers of trees are within their bounds, and no multiplier is 0
abbrev pub AreBundle : List (Option PlainTree) → Type 0
AreBundle roots = HaveForms (length roots) (choices_of_roots roots)

-- the bytes are the lines of these trees
abbrev pub DerivationLines : List (Option PlainTree) → List ℕ → Type 0
DerivationLines roots bytes = AreLines (length roots) (choices_of_roots roots) bytes

-- a byte that is no white space, no other control, and within ASCII
abbrev pub IsVisible : ℕ → Type 0
IsVisible x = (33 ≤ x) × (x < 128)

abbrev pub AreVisible : List ℕ → Type 0
AreVisible xs = AllByRecursion IsVisible xs

-- no line has a space
abbrev pub HaveNoSpaces : List ℕ → Type 0
HaveNoSpaces bytes = AllByRecursion AreVisible (ended_lines bytes)
