-- A report that is good is one of a safe program: the trees that were found are valid, and a program
-- all units of which have valid derivations is safe.
use Rattle.std.proofs.Common.{◌≡◌, ℕ, inl, inr, Bool, true, false, List, length, Option, Result, Ok, Err, IfOk, refl, ap, sym, ◌∙◌}
use Rattle.std.specs.declared.alloc.AllocError.{AllocError}
use Rattle.cap_prog.specs.Program.{PlainProgram}
use Rattle.cap_prog.specs.WellFormed.{IsWellFormed}
use Rattle.cap_goal_spec.specs.Choices.{PlainTree}
use Rattle.cap_rules.specs.Valid.{Valid}
use Rattle.cap_account.specs.Law.{DerivationsAreSound}
use Rattle.cap_top_reading.specs.Refused.{IsTextOf}
use Rattle.cap_gen.specs.Trial.{trial_text}
use Rattle.cap_goal_spec.specs.Roots.{units}
use Rattle.cap_top_report.specs.Report.{proved_count, report_text, all_proved, is_good}
use Rattle.cap_top_report.specs.Found.{found_trees}
use Rattle.cap_top_report.specs.Laws.{FoundAreValid}
use Rattle.cap_top_report.proofs.Good.{good-all}
use Rattle.cap_top_words.specs.Meaning.{default_budget}
use Rattle.cap_top_commands.specs.declared.output.Output as code
use Rattle.cap_top_commands.specs.declared.status.Status.TheVariants.{Good, Refused}
use Rattle.cap_top_commands.specs.Views.{output_view}
use Rattle.cap_top_commands.specs.Output.{Output, refusal_output, report_output, trial_output, report_status}
use Rattle.cap_top_commands.specs.Answers.{IsVerified, IsOnly, GoodAnswersAreSafe, GoodTrialsAreSafe}
use Rattle.cap_top_commands.specs.Good.{IsGood, IsProvedText}
use Rattle.cap_top_commands.specs.SafeText.{IsSafeText}
use Rattle.cap_top_commands.proofs.InOrder.{text-ascends}

-- the programs of texts are well-formed
abbrev pub TextsAreFormed : Type 0
TextsAreFormed = (bytes : List ℕ) (p : PlainProgram) → IsTextOf bytes p → IsWellFormed p

-- the status of what is said
pub same_status : (o p : Output) → o ≡ p → o.status ≡ p.status
same_status o p e = ap (λ (q : Output). q.status) e

-- a text of a program of which a bundle is valid
abbrev pub safe_text :
    DerivationsAreSound → TextsAreFormed → (bytes : List ℕ) (p : PlainProgram) → IsTextOf bytes p →
    (trees : List (Option PlainTree)) → Valid p trees → IsSafeText bytes
safe_text sound formed bytes p t trees valid = record {
  tree = t.tree;
  spelled = t.spelled;
  program = p;
  stands = t.stands;
  safe = sound p trees (formed bytes p t) valid;
}

good_report : FoundAreValid → DerivationsAreSound → TextsAreFormed → (n : ℕ) (bytes : List ℕ) (p : PlainProgram)
    → IsTextOf bytes p → is_good p n ≡ true → IsGood n bytes
good_report valid sound formed n bytes p t proved = record {
  text = safe_text sound formed bytes p t (found_trees p n) (valid p n (text-ascends bytes p t) (good-all p n proved));
  proved = proved;
}

status-good : (b : Bool) → report_status b ≡ Good → b ≡ true
status-good true e = refl
status-good false e = absurd cc

-- what `verify` says with a good status
pub good_answer : FoundAreValid → DerivationsAreSound → TextsAreFormed → GoodAnswersAreSafe
good_answer valid sound formed n bytes o (inl c) e =
    let f : Refused ≡ Good = sym (same_status o (refusal_output c.cause) c.whole) ∙ e in absurd cc
good_answer valid sound formed n bytes o (inr s) e =
    good_report valid sound formed n bytes s.thing s.is_so
    (status-good (is_good s.thing n) (sym (same_status o (report_output (is_good s.thing n) (report_text s.thing n)) s.said) ∙ e))

-- what a trial says with a good status
pub good_trial : FoundAreValid → DerivationsAreSound → TextsAreFormed → GoodTrialsAreSafe
good_trial valid sound formed n o (inl c) e =
    let f : Refused ≡ Good = sym (same_status o (refusal_output c.cause) c.whole) ∙ e in absurd cc
good_trial valid sound formed n o (inr s) e =
    let p = s.thing in
    let all : all_proved p default_budget ≡ true =
    status-good (all_proved p default_budget)
    (sym (same_status o (trial_output n (proved_count p default_budget) (length (units p))) s.said) ∙ e) in
    record {
      text = safe_text sound formed (trial_text n) p s.is_so (found_trees p default_budget)
          (valid p default_budget (text-ascends (trial_text n) p s.is_so) all);
      proved = all;
    }

pub good_result : GoodAnswersAreSafe → (n : ℕ) (bytes : List ℕ) (r : Result code.Output AllocError)
    → IfOk r (λ o. IsOnly (IsVerified n bytes) (output_view o))
    → IfOk r (λ o. (output_view o).status ≡ Good → IsGood n bytes)
good_result safe n bytes (Ok o) h = safe n bytes (output_view o) h.said
good_result safe n bytes (Err e) h = tt
