-- What is said of a program's derivation, and nothing else.
use Rattle.std.proofs.Common.{◌≡◌, ℕ, inl, inr, Bool, true, false, List, Result, Ok, Err, IfOk, refl, sym, ap, ◌∙◌, subst}
use Rattle.std.specs.declared.alloc.AllocError.{AllocError}
use Rattle.cap_prog.specs.Program.{PlainProgram}
use Rattle.cap_prog.specs.declared.program.Program.{Program}
use Rattle.cap_prog.specs.Views.{program_view}
use Rattle.cap_top_reading.specs.declared.refusal.Refusal.{Refusal}
use Rattle.cap_top_reading.specs.Reading.{FindsProgram}
use Rattle.cap_top_reading.specs.Refused.{IsRefused, IsTextOf}
use Rattle.cap_goal.specs.declared.choice.Bundle.{Bundle}
use Rattle.cap_goal.specs.Trees.{bundle_view}
use Rattle.cap_deriv_write.specs.Bounds.{HaveNoZeros}
use Rattle.cap_deriv_write.specs.Spelled.{DerivationLines}
use Rattle.cap_deriv_write.specs.Written.{derivation_text}
use Rattle.cap_deriv_laws.specs.Laws.{ValidHaveNoZeros}
use Rattle.cap_top_report.specs.declared.report.Report.{Report}
use Rattle.cap_top_report.specs.Report.{is_good}
use Rattle.cap_rules_ascending.specs.Ascending.{ProgramAscends}
use Rattle.cap_top_report.specs.Found.{found_trees}
use Rattle.cap_top_report.specs.Laws.{FoundAreValid}
use Rattle.cap_top_report.proofs.Good.{good-all}
use Rattle.cap_top_report.specs.Views.{IsLeftBy, IsWhollyProvedBy}
use Rattle.cap_top_commands.specs.declared.output.Output as code
use Rattle.cap_top_commands.specs.Answers.{IsOnly, IsDerived}
use Rattle.cap_top_commands.specs.Report.{IsReport}
use Rattle.cap_top_commands.specs.Derivations.{HaveText, IsDerivation}
use Rattle.cap_top_commands.specs.Deriving.{IsTextOfTrees}
use Rattle.cap_top_commands.specs.Output.{Output, report_output, derivation_output, long_derivation_output}
use Rattle.cap_top_commands.specs.Views.{output_view}
use Rattle.cap_top_commands.proofs.Answering.{AnswersRefusal, found_says, refused_says}

not_both : {A : Type 0} (b : Bool) → b ≡ true → b ≡ false → A
not_both b e f = let g : true ≡ false = sym e ∙ f in absurd cc

module _ (budget : ℕ) (p : PlainProgram) where
  pub says_report : (r : Report) → IsLeftBy p budget r → IsOnly (IsDerivation budget p) (report_output r.good r.text.items)
  says_report r h =
      let whole : IsReport budget p (report_output r.good r.text.items) =
      ap (λ b. report_output b r.text.items) h.report.good ∙ ap (report_output (is_good p budget)) h.report.text in
      record { said = inl (record { bad = h.bad; report = whole }); only = by }
    where
      by : (q : Output) → IsDerivation budget p q → report_output r.good r.text.items ≡ q
      by q (inl s) =
          (ap (λ b. report_output b r.text.items) h.report.good ∙ ap (report_output (is_good p budget)) h.report.text) ∙ sym s.report
      by q (inr (inl s)) = not_both (is_good p budget) s.good h.bad
      by q (inr (inr s)) = not_both (is_good p budget) s.good h.bad

  module _ (b : Bundle) (h : IsWhollyProvedBy p budget b) where
    pub says_long : (HaveText (bundle_view b) → ⊥) → IsOnly (IsDerivation budget p) long_derivation_output
    says_long n =
        let long : HaveText (found_trees p budget) → ⊥ = subst (λ ts. HaveText ts → ⊥) h.trees n in
        record { said = inr (inl (record { good = h.good; long = long; whole = refl })); only = by }
      where
        by : (q : Output) → IsDerivation budget p q → long_derivation_output ≡ q
        by q (inl s) = not_both (is_good p budget) h.good s.bad
        by q (inr (inl s)) = sym s.whole
        by q (inr (inr s)) = absurd (n (subst HaveText (sym h.trees) s.short))

    pub says_lines : FoundAreValid → ProgramAscends p → ValidHaveNoZeros → (text : List ℕ) → IsTextOfTrees (bundle_view b) text
        → IsOnly (IsDerivation budget p) (derivation_output text)
    says_lines valid ordered zeros text t =
        let lines : DerivationLines (bundle_view b) (derivation_text (bundle_view b)) =
        t.lines (subst HaveNoZeros (sym h.trees) (zeros p (found_trees p budget) (valid p budget ordered (good-all p budget h.good)))) in
        record {
          said = inr (inr (record {
            good = h.good;
            short = subst HaveText h.trees t.short;
            lines = subst (λ ts. DerivationLines ts (derivation_text ts)) h.trees lines;
            whole = ap derivation_output (t.whole ∙ ap derivation_text h.trees);
          }));
          only = by;
        }
      where
        by : (q : Output) → IsDerivation budget p q → derivation_output text ≡ q
        by q (inl s) = not_both (is_good p budget) h.good s.bad
        by q (inr (inl s)) = absurd (s.long (subst HaveText h.trees t.short))
        by q (inr (inr s)) = ap derivation_output (t.whole ∙ ap derivation_text h.trees) ∙ sym s.whole

pub derives_program : (budget : ℕ) (bytes : List ℕ) (program : Program) (r : Result code.Output AllocError) → FindsProgram bytes (Ok program)
    → IfOk r (λ o. IsOnly (IsDerivation budget (program_view program)) (output_view o))
    → IfOk r (λ o. IsOnly (IsDerived budget bytes) (output_view o))
derives_program budget bytes program (Ok o) f h =
    let said = found_says program_view (IsTextOf bytes) (IsRefused bytes) (IsDerivation budget) program (output_view o) f
    (record { said = h.said; only = h.only }) in
    record { said = said.said; only = said.only }
derives_program budget bytes program (Err a) f h = tt

pub derives_refusal : (budget : ℕ) (bytes : List ℕ) (e : Refusal) (r : Result code.Output AllocError)
    → FindsProgram bytes (Err e) → AnswersRefusal e r
    → IfOk r (λ o. IsOnly (IsDerived budget bytes) (output_view o))
derives_refusal budget bytes e (Ok o) f h =
    let said = refused_says program_view (IsTextOf bytes) (IsRefused bytes) (IsDerivation budget) e (Ok o) f h in
    record { said = said.said; only = said.only }
derives_refusal budget bytes e (Err a) f h = tt
