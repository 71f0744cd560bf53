-- An equation that is taken out of the rows.
use Rattle.std.proofs.Common.{◌≡◌, ℕ, suc, List, [], ◌∷◌, ◌++◌, length, get_or, drop, cond, refl, sym, ap, ◌∙◌, subst, false}
use Rattle.std.specs.Prelude.{Result}
use Rattle.std.specs.List.{remove}
use Rattle.std.proofs.lemmas.List.{take_at}
use Rattle.std.proofs.lemmas.List.Elements.{filter-append}
use Rattle.cap_lin.specs.Linear.{is_zero, coefficient}
use Rattle.cap_fm_spec.specs.Runs as plain
use Rattle.cap_fm_spec.specs.Elimination.{replace_all}
use Rattle.cap_fm_elimination.specs.Entries.{Entry}
use Rattle.cap_fm_elimination.specs.declared.entry.Reached.{Reached}
use Rattle.cap_fm_elimination.specs.declared.stage.Stage.{Stage}
use Rattle.cap_fm_elimination.specs.declared.error.SolveError.{SolveError}
use Rattle.cap_fm_elimination.specs.Views.{stage_view, entry_view, entries_view, lacking_rows, IsStageOf, IsNumbered, AreNumbered}
use Rattle.cap_fm_elimination.specs.Answers.{DoesReach, OnlyLeaves}
use Rattle.cap_fm_spec.proofs.Lists.{each-join, each-left, each-right}
use Rattle.cap_fm_elimination.proofs.Stages.{all-grow}

item-seam : (before after : List Entry) (equation d : Entry) → get_or (before ++ (equation ∷ after)) (length before) d ≡ equation
item-seam [] after equation d = refl
item-seam (e ∷ before) after equation d = item-seam before after equation d

drop-seam : (before after : List Entry) (equation : Entry) → drop (suc (length before)) (before ++ (equation ∷ after)) ≡ after
drop-seam [] after equation = refl
drop-seam (e ∷ before) after equation = drop-seam before after equation

pub taken-item : (rows before after : List Entry) (equation d : Entry) (place : ℕ) → rows ≡ before ++ (equation ∷ after) → place ≡ length before → d ≡ get_or rows place d → d ≡ equation
taken-item rows before after equation d place e p g = g ∙ rw (e, p) (item-seam before after equation d)

pub taken-rest : (rows others before after : List Entry) (equation : Entry) (place : ℕ) → rows ≡ before ++ (equation ∷ after) → place ≡ length before → others ≡ remove rows place → others ≡ before ++ after
taken-rest rows others before after equation place e p g = g ∙ rw (e, p) (ap (λ ds. ds ++ drop (suc (length before)) (before ++ (equation ∷ after))) (take_at before (equation ∷ after) (length before) refl) ∙ ap (λ ds. before ++ ds) (drop-seam before after equation))

lacking-taken : (x : ℕ) (before after : List Entry) (equation : Entry) → is_zero (coefficient x equation.term.parts) ≡ false → lacking_rows x (before ++ (equation ∷ after)) ≡ lacking_rows x (before ++ after)
lacking-taken x before after equation z =
    filter-append (λ (d : Entry). is_zero (coefficient x d.term.parts)) before (equation ∷ after)
    ∙ ap (λ b. lacking_rows x before ++ cond b (equation ∷ lacking_rows x after) (lacking_rows x after)) z
    ∙ sym (filter-append (λ (d : Entry). is_zero (coefficient x d.term.parts)) before after)

-- the rows with the variable have left, the equation with them
pub record IsTaken (inputs x : ℕ) (old new : Stage) (equation : Entry) (others : List Entry) : Type 0 where
  pub fits : IsStageOf inputs new (lacking_rows x others)
  pub numbered : AreNumbered new others
  pub equation_numbered : IsNumbered new equation
  pub stage : stage_view new ≡ stage_view old

pub taken : (inputs x : ℕ) (old new : Stage) (rows before after : List Entry) (equation : Entry) → rows ≡ before ++ (equation ∷ after) → is_zero (coefficient x equation.term.parts) ≡ false → IsStageOf inputs old rows → OnlyLeaves inputs old new (lacking_rows x rows) → IsTaken inputs x old new equation (before ++ after)
taken inputs x old new rows before after equation e z f l =
    let n : AreNumbered new (before ++ (equation ∷ after)) = subst (AreNumbered new) e (all-grow old new rows l.grows f.numbered) in
    let r = each-right (IsNumbered new) before (equation ∷ after) n in
    record {
      fits = subst (IsStageOf inputs new) (ap (lacking_rows x) e ∙ lacking-taken x before after equation z) l.fits;
      numbered = each-join (IsNumbered new) before after (each-left (IsNumbered new) before (equation ∷ after) n) r.1;
      equation_numbered = r.0;
      stage = l.stage;
    }

pub reaches-from : (inputs x : ℕ) (new : Stage) (equation : Entry) (others : List Entry) (s t : plain.Stage) (result : Result Reached SolveError) → s ≡ t → DoesReach inputs new (replace_all x (entry_view equation) [] (entries_view others) s) result → DoesReach inputs new (replace_all x (entry_view equation) [] (entries_view others) t) result
reaches-from inputs x new equation others s t result e d = subst (λ u. DoesReach inputs new (replace_all x (entry_view equation) [] (entries_view others) u) result) e d
