-- Bytes are the lines of choices, which are judged, or they end badly.
use Rattle.std.proofs.Common.{◌≡◌, ◌⊎◌, inl, inr, ℕ, List, [], ◌∷◌, refl, ap, ◌∙◌}
use Rattle.cap_prog.specs.Program.{PlainProgram}
use Rattle.cap_goal_spec.specs.Choices.{PlainChoice}
use Rattle.cap_rules.specs.Laws.{AnswersAreOne}
use Rattle.cap_deriv.specs.Told.{Told, all_told, bad_told, unended_told, too_many_told, choice_told, choices_told, Opening, no_opening, bad_opening, opening_told, told_by_bytes}
use Rattle.cap_deriv.specs.Whole.{told_at_last, end_of_opening}
use Rattle.cap_deriv.specs.declared.cursor.DerivError.{DerivError}
use Rattle.cap_deriv.specs.declared.cursor.DerivError.TheVariants.{BadLine, Unended, TooMany, OutOfMemory}
use Rattle.cap_top_commands.specs.Derivations.{IsBadDerivation, IsChecked}
use Rattle.cap_top_commands.specs.Output.{Output, bad_derivation_output, judged_output}
use Rattle.cap_top_laws.specs.Laws.{LinesAreAnswered}
use Rattle.cap_top_laws.proofs.Judging.{judged-somehow}

-- ---- what is told ends well or badly

abbrev EndsBadly : Told → DerivError → Type 0
EndsBadly t (BadLine n) = t ≡ bad_told n
EndsBadly t Unended = t ≡ unended_told
EndsBadly t TooMany = t ≡ too_many_told
EndsBadly t OutOfMemory = ⊥

abbrev ToldWholeOrNot : Told → Type 0
ToldWholeOrNot t =
    ((cs : List PlainChoice) × (t ≡ choices_told cs all_told)) ⊎ ((e : DerivError) × EndsBadly (told_at_last t) e)

whole-or-not : (t : Told) → ToldWholeOrNot t
whole-or-not all_told = inl ([], refl)
whole-or-not (bad_told n) = inr (BadLine n, refl)
whole-or-not unended_told = inr (Unended, refl)
whole-or-not too_many_told = inr (TooMany, refl)
whole-or-not (choice_told c t) = by (whole-or-not t)
  where
    by : ToldWholeOrNot t → ToldWholeOrNot (choice_told c t)
    by (inl h) = inl (c ∷ h.0, ap (choice_told c) h.1)
    by (inr h) = inr h

-- ---- the bytes

bad-lines : (bytes : List ℕ) (t : Told) (e : DerivError) → end_of_opening (told_by_bytes bytes) ≡ t → EndsBadly t e
    → IsBadDerivation bytes e
bad-lines bytes t (BadLine n) f h = f ∙ h
bad-lines bytes t Unended f h = f ∙ h
bad-lines bytes t TooMany f h = f ∙ h
bad-lines bytes t OutOfMemory f h = h

says-bad : (p : PlainProgram) (bytes : List ℕ) (t : Told) (e : DerivError) → end_of_opening (told_by_bytes bytes) ≡ t
    → EndsBadly t e → (o : Output) × IsChecked p bytes o
says-bad p bytes t e f h =
    (bad_derivation_output e, inl (record { error = e; bad = bad-lines bytes t e f h; whole = refl }))

says-told : AnswersAreOne → (p : PlainProgram) (bytes : List ℕ) (trees : ℕ) (t : Told) → told_by_bytes bytes ≡ opening_told trees t
    → ToldWholeOrNot t → (o : Output) × IsChecked p bytes o
says-told one p bytes trees t e (inl h) =
    let j = judged-somehow one p trees h.0 in (
      judged_output j.0,
      inr (record {
        trees = trees;
        choices = h.0;
        told = e ∙ ap (opening_told trees) h.1;
        answer = j.0;
        judged = j.1;
        whole = refl;
      }),
    )
says-told one p bytes trees t e (inr h) = says-bad p bytes (told_at_last t) h.0 (ap end_of_opening e) h.1

says-opening : AnswersAreOne → (p : PlainProgram) (bytes : List ℕ) (a : Opening) → told_by_bytes bytes ≡ a → (o : Output) × IsChecked p bytes o
says-opening one p bytes no_opening e = says-bad p bytes unended_told Unended (ap end_of_opening e) refl
says-opening one p bytes bad_opening e = says-bad p bytes (bad_told 1) (BadLine 1) (ap end_of_opening e) refl
says-opening one p bytes (opening_told trees t) e = says-told one p bytes trees t e (whole-or-not t)

pub lines-answered : AnswersAreOne → LinesAreAnswered
lines-answered one p bytes = says-opening one p bytes (told_by_bytes bytes) refl
