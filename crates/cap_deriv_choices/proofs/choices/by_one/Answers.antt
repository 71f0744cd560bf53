use Rattle.std.proofs.Common.{◌≡◌, ℕ, List, [], ◌∷◌, Bool, true, false, cond, Option, refl, sym, ap, subst, ◌∙◌}
use Rattle.std.specs.Prelude.{⊤, bytes_eq}
use Rattle.std.proofs.lemmas.Slice.Eq.{bytes_eq-Decides}
use Rattle.json.specs.Token.{Token}
use Rattle.cap_goal_spec.specs.Choices.{PlainChoice}
use Rattle.cap_goal.specs.Views.{choice_view}
use Rattle.cap_deriv_choices.specs.Taking.{row_or, rows_of_one, take_by_two, take_by_one}
use Rattle.cap_deriv_choices.specs.Views.{Takes}
use Rattle.cap_deriv_choices.proofs.choices.by_one.Goals as goal

differs : (w v : List ℕ) → (w ≡ v → ⊥) → bytes_eq w v ≡ false
differs w v never = at (bytes_eq w v) refl
  where
    at : (t : Bool) → bytes_eq w v ≡ t → t ≡ false
    at true e = absurd (never ((bytes_eq-Decides w v).0 e))
    at false e = refl

-- the word is that of no row
abbrev Differs : {A : Type 0} → List ℕ → List (List ℕ × A) → Type 0
Differs w [] = ⊤
Differs w (row ∷ rows) = (w ≡ row.0 → ⊥) × Differs w rows

in_no_row : {A : Type 0} (w : List ℕ) (rows : List (List ℕ × A)) (other : A) → Differs w rows → other ≡ row_or w rows other
in_no_row w [] other h = refl
in_no_row w (row ∷ rows) other h = in_no_row w rows other h.1 ∙ sym (ap (λ (t : Bool). cond t row.1 (row_or w rows other)) (differs w row.0 h.0))

pub returns-in_default : goal.returns-in_default
unfolding take_by_one
returns-in_default c =
    let w = c.args.word.now in
    let ts = c.args.reader.now in
    let n = c.in_default in
    let same = in_no_row w (rows_of_one ts) (take_by_two w ts) (n.not-absurd, (n.not-assert, (n.not-keep, (n.not-fact, (n.not-create, (n.not-made, tt)))))) in
    subst (λ (o : Option (PlainChoice × List Token)). Takes choice_view c.by_two.result c.by_two.new.reader o) same c.by_two.ensures
