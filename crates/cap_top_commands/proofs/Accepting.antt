-- What is accepted is safe, and what was derived is accepted.
use Rattle.std.proofs.Common.{◌≡◌, ◌≤◌, ℕ, inl, inr, Bool, true, false, List, [], ◌∷◌, ◌++◌, length, Option, Some, None, Result, Ok, Err, refl, sym, ap, ◌∙◌, subst}
use Rattle.cap_prog.specs.Program.{PlainProgram}
use Rattle.cap_goal_spec.specs.Choices.{PlainChoice, PlainTree, node, PlainTrees, no_trees, tree}
use Rattle.cap_account.specs.Law.{DerivationsAreSound}
use Rattle.cap_kernel_check_steps.specs.declared.error.CheckError.{CheckError}
use Rattle.cap_kernel_check_steps.specs.Owed.{preorder, choices_of, all_choices_of, JudgedOk}
use Rattle.cap_kernel_check_steps.specs.Judges.{Judged}
use Rattle.cap_kernel_check_steps.specs.Laws.{HasTrees, JudgedAreValid, JudgementsAreOne}
use Rattle.cap_deriv.specs.Told.{told_by_bytes, opening_told, choices_told, all_told, most_nodes}
use Rattle.cap_deriv_write.specs.Preorder.{choices_of_tree, choices_of_trees, choices_of_roots}
use Rattle.cap_deriv_write.specs.Spelled.{AreLines}
use Rattle.cap_deriv_write.specs.Written.{derivation_text}
use Rattle.cap_top_reading.specs.Refused.{IsTextOf}
use Rattle.cap_top_report.specs.Report.{is_good}
use Rattle.cap_top_report.specs.Found.{found_trees}
use Rattle.cap_top_report.specs.Laws.{FoundAreValid}
use Rattle.cap_top_report.proofs.Good.{good-all}
use Rattle.cap_top_commands.specs.declared.status.Status.TheVariants.{Good, Bad, Refused}
use Rattle.cap_top_commands.specs.Answers.{IsOnly, AcceptedAreSafe, DerivedAreAccepted}
use Rattle.cap_top_commands.specs.Good.{IsAccepted}
use Rattle.cap_top_commands.specs.Derivations.{IsChecked}
use Rattle.cap_top_commands.specs.Output.{Output, report_output, report_status, long_derivation_output, bad_derivation_output, judged_output, judged_status}
use Rattle.cap_top_commands.proofs.Following.{judged_only}
use Rattle.cap_top_commands.proofs.InOrder.{text-ascends}
use Rattle.cap_top_commands.proofs.Good.{TextsAreFormed, safe_text, same_status}

-- ---- one preorder

mutual
  same-choices : (t : PlainTree) → choices_of_tree t ≡ choices_of t
  same-choices (node c ts) = ap (λ ds. c ∷ ds) (same-all ts)

  same-all : (ts : PlainTrees) → choices_of_trees ts ≡ all_choices_of ts
  same-all no_trees = refl
  same-all (tree t ts) = ap (λ cs. cs ++ choices_of_trees ts) (same-choices t) ∙ ap (λ ds. choices_of t ++ ds) (same-all ts)

same-preorder : (ts : List (Option PlainTree)) → choices_of_roots ts ≡ preorder ts
same-preorder [] = refl
same-preorder (None ∷ ts) = same-preorder ts
same-preorder (Some t ∷ ts) = ap (λ cs. cs ++ choices_of_roots ts) (same-choices t) ∙ ap (λ ds. choices_of t ++ ds) (same-preorder ts)

-- what is read to its end are lines of the choices
abbrev pub ReadingsAreLines : Type 0
ReadingsAreLines =
    (trees : ℕ) (choices : List PlainChoice) (bytes : List ℕ) →
    told_by_bytes bytes ≡ opening_told trees (choices_told choices all_told) → AreLines trees choices bytes

abbrev pub LinesAreRead : Type 0
LinesAreRead =
    (trees : ℕ) (choices : List PlainChoice) (bytes : List ℕ) →
    AreLines trees choices bytes → length choices ≤ most_nodes →
    told_by_bytes bytes ≡ opening_told trees (choices_told choices all_told)

-- ---- what is accepted is safe

accepted_trees : JudgedAreValid → DerivationsAreSound → ReadingsAreLines → TextsAreFormed → (bytes lines : List ℕ) (p : PlainProgram)
    → IsTextOf bytes p → (trees : ℕ) (cs : List PlainChoice) (n : ℕ)
    → told_by_bytes lines ≡ opening_told trees (choices_told cs all_told) → JudgedOk p trees cs n → IsAccepted bytes lines
accepted_trees judged sound readings formed bytes lines p t trees cs n told j =
    let has : HasTrees p trees cs = judged.sound p trees n cs j in
    record {
      text = safe_text sound formed bytes p t has.0 has.1;
      trees = has.0;
      told = subst (λ k. AreLines k (preorder has.0) lines) (sym has.2)
          (subst (λ ds. AreLines trees ds lines) (sym has.3) (readings trees cs lines told));
      valid = has.1;
    }

pub accepted_safe : JudgedAreValid → DerivationsAreSound → ReadingsAreLines → TextsAreFormed → AcceptedAreSafe
accepted_safe judged sound readings formed bytes lines p o t (inl k) e =
    let f : Refused ≡ Good = sym (same_status o (bad_derivation_output k.error) k.whole) ∙ e in absurd cc
accepted_safe judged sound readings formed bytes lines p o t (inr k) e = by k.answer k.judged (sym (same_status o (judged_output k.answer) k.whole) ∙ e)
  where
    by : (r : Result ℕ CheckError) → Judged p k.trees k.choices r → judged_status r ≡ Good → IsAccepted bytes lines
    by (Ok n) j f = accepted_trees judged sound readings formed bytes lines p t k.trees k.choices n k.told j
    by (Err x) j f = let g : Bad ≡ Good = f in absurd cc

-- ---- what was derived is accepted

status-bad : (b : Bool) → b ≡ false → report_status b ≡ Bad
status-bad false e = refl
status-bad true e = absurd cc

pub derived_accepted : FoundAreValid → JudgedAreValid → JudgementsAreOne → LinesAreRead → DerivedAreAccepted
derived_accepted valid judged one read budget bytes p o t (inl s) e =
    let f : Bad ≡ Good = sym (status-bad (is_good p budget) s.bad) ∙ (sym (same_status o (report_output (is_good p budget) _) s.report) ∙ e) in absurd cc
derived_accepted valid judged one read budget bytes p o t (inr (inl s)) e =
    let f : Bad ≡ Good = sym (same_status o long_derivation_output s.whole) ∙ e in absurd cc
derived_accepted valid judged one read budget bytes p o t (inr (inr s)) e =
    let trees = found_trees p budget in
    let cs = preorder trees in
    let text = derivation_text trees in
    let lines : AreLines (length trees) cs text = subst (λ ds. AreLines (length trees) ds text) (same-preorder trees) s.lines in
    let few : length cs ≤ most_nodes = subst (λ ds. length ds ≤ most_nodes) (same-preorder trees) s.short.nodes in
    let has : HasTrees p (length trees) cs = (trees, valid p budget (text-ascends bytes p t) (good-all p budget s.good), refl, refl) in
    let k = judged_only p text one (length trees) cs (Ok (length cs)) (read (length trees) cs text lines few) (judged.complete p (length trees) cs has) in
    record {
      nodes = length cs;
      checked = subst (λ t. IsOnly (IsChecked p t) (judged_output (Ok (length cs)))) (sym (ap (λ (q : Output). q.text) s.whole))
          (record { said = k.said; only = k.only });
    }
