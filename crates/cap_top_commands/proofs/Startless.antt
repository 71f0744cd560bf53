-- An answer with the line that the precondition of `main` is empty is said of the text of a program
-- that has no start.
use Rattle.std.proofs.Common.{◌≡◌, ℕ, inl, inr, true, List, Result, Ok, Err, IfOk, sym, ap, ◌∙◌}
use Rattle.std.specs.declared.alloc.AllocError.{AllocError}
use Rattle.cap_prog.specs.Program.{PlainProgram}
use Rattle.cap_search_spec.specs.Starts.{empty_start}
use Rattle.cap_search_starts.specs.Laws.{EmptyStartsAreNone}
use Rattle.cap_top_reading.specs.Refused.{IsTextOf}
use Rattle.cap_top_report.specs.Report.{report_text, is_good}
use Rattle.cap_top_commands.specs.declared.output.Output as code
use Rattle.cap_top_commands.specs.declared.status.Status.TheVariants.{Good, Bad, Refused}
use Rattle.cap_top_commands.specs.Answers.{IsVerified, IsDerived, IsOnly, EmptyAnswersHaveNoStart}
use Rattle.cap_top_commands.specs.Derivations.{IsDerivation}
use Rattle.cap_top_commands.specs.Output.{Output, refusal_output, report_output, derivation_output, long_derivation_output}
use Rattle.cap_top_commands.specs.Report.{IsReport}
use Rattle.cap_top_commands.specs.Startless.{SaysEmpty, IsStartlessText}
use Rattle.cap_top_commands.specs.Views.{output_view}
use Rattle.cap_top_commands.proofs.Good.{TextsAreFormed, same_status}
use Rattle.cap_top_commands.proofs.InOrder.{requires-ascend}
use Rattle.cap_top_commands.proofs.LastLines.{report-empty, long-other}

same_text : (o p : Output) → o ≡ p → o.text ≡ p.text
same_text o p e = ap (λ (q : Output). q.text) e

-- of what else is said, the status is another
other_status : (o p : Output) → o ≡ p → SaysEmpty o → p.status ≡ Bad
other_status o p e h = sym (same_status o p e) ∙ h.bad

module _ (law : EmptyStartsAreNone) (formed : TextsAreFormed) where
  startless : (bytes : List ℕ) (p : PlainProgram) → IsTextOf bytes p → empty_start p ≡ true → IsStartlessText bytes
  startless bytes p t e = record {
    tree = t.tree;
    spelled = t.spelled;
    program = p;
    stands = t.stands;
    none = λ main args heap fixed s. law p main args heap fixed (formed bytes p t) (requires-ascend bytes p t p.main main s.is_main) e s;
  }

  reported : (budget : ℕ) (bytes : List ℕ) (p : PlainProgram) (o : Output) → IsTextOf bytes p → IsReport budget p o → SaysEmpty o → IsStartlessText bytes
  reported budget bytes p o t r h =
      startless bytes p t
      (report-empty p budget h.before h.proved h.all
      (sym (same_text o (report_output (is_good p budget) (report_text p budget)) r) ∙ h.whole))

  pub verified_startless : EmptyAnswersHaveNoStart IsVerified
  verified_startless budget bytes o (inl c) h =
      let f : Refused ≡ Bad = other_status o (refusal_output c.cause) c.whole h in absurd cc
  verified_startless budget bytes o (inr s) h = reported budget bytes s.thing o s.is_so s.said h

  derivation_startless : (budget : ℕ) (bytes : List ℕ) (p : PlainProgram) (o : Output) → IsTextOf bytes p → IsDerivation budget p o → SaysEmpty o → IsStartlessText bytes
  derivation_startless budget bytes p o t (inl r) h = reported budget bytes p o t r.report h
  derivation_startless budget bytes p o t (inr (inl l)) h =
      absurd (long-other h.before h.proved h.all (sym (same_text o long_derivation_output l.whole) ∙ h.whole))
  derivation_startless budget bytes p o t (inr (inr l)) h =
      let f : Good ≡ Bad = other_status o (derivation_output _) l.whole h in absurd cc

  pub derived_startless : EmptyAnswersHaveNoStart IsDerived
  derived_startless budget bytes o (inl c) h =
      let f : Refused ≡ Bad = other_status o (refusal_output c.cause) c.whole h in absurd cc
  derived_startless budget bytes o (inr s) h = derivation_startless budget bytes s.thing o s.is_so s.said h

-- so it is with what a call answers
pub startless_result : (IsAnswered : ℕ → List ℕ → Output → Type 0) → EmptyAnswersHaveNoStart IsAnswered
    → (budget : ℕ) (bytes : List ℕ) (r : Result code.Output AllocError)
    → IfOk r (λ o. IsOnly (IsAnswered budget bytes) (output_view o))
    → IfOk r (λ o. SaysEmpty (output_view o) → IsStartlessText bytes)
startless_result IsAnswered law budget bytes (Ok o) h = law budget bytes (output_view o) h.said
startless_result IsAnswered law budget bytes (Err e) h = tt
