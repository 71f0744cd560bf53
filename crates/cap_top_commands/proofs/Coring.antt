-- What is said of a program's cores, and nothing else; and what it means.
use Rattle.std.proofs.Common.{◌≡◌, ℕ, ◌⊎◌, inl, inr, List, Result, Ok, Err, IfOk, refl, sym, ap, ◌∙◌}
use Rattle.std.specs.declared.alloc.AllocError.{AllocError}
use Rattle.cap_prog.specs.declared.program.Program.{Program}
use Rattle.cap_prog.specs.Program.{PlainProgram}
use Rattle.cap_prog.specs.Views.{program_view}
use Rattle.cap_top_reading.specs.declared.refusal.Refusal.{Refusal}
use Rattle.cap_top_reading.specs.Reading.{FindsProgram}
use Rattle.cap_top_reading.specs.Refused.{IsRefused, IsTextOf}
use Rattle.cap_top_report.specs.declared.report.Report.{Report}
use Rattle.cap_top_report.specs.Report.{report_text, is_good}
use Rattle.cap_top_report.specs.Cores.{cores_text}
use Rattle.cap_top_report.specs.Laws.{ProvedHaveCores}
use Rattle.cap_top_report.specs.Views.{IsCoresOf}
use Rattle.cap_top_words.specs.Meaning.{default_budget}
use Rattle.cap_top_commands.specs.declared.output.Output as code
use Rattle.cap_top_commands.specs.declared.status.Status.TheVariants.{Good, Bad, Refused}
use Rattle.cap_top_commands.specs.Output.{Output, refusal_output, report_output}
use Rattle.cap_top_commands.specs.Answers.{SaysCause, IsVerified, IsCored, IsOnly, GoodAnswersAreSafe}
use Rattle.cap_top_commands.specs.Needed.{CoresAreTold}
use Rattle.cap_top_commands.specs.Report.{IsCoresReport}
use Rattle.cap_top_commands.specs.Views.{output_view}
use Rattle.cap_top_commands.proofs.Answering.{AnswersRefusal, found_says, one_only, refused_says}
use Rattle.cap_top_commands.proofs.Good.{TextsAreFormed, same_status}
use Rattle.cap_top_commands.proofs.InOrder.{text-ascends}

pub core_reports : (bytes : List ℕ) (program : Program) (r : Report) → FindsProgram bytes (Ok program)
    → IsCoresOf (program_view program) default_budget r → IsOnly (IsCored bytes) (report_output r.good r.text.items)
core_reports bytes program r f h =
    let p = program_view program in
    let said = found_says program_view (IsTextOf bytes) (IsRefused bytes) (IsCoresReport default_budget) program
    (report_output r.good r.text.items) f
    (one_only (IsCoresReport default_budget p) (report_output r.good r.text.items)
    (report_output (is_good p default_budget) (cores_text p default_budget))
    (λ q e. e) refl
    (ap (λ b. report_output b r.text.items) h.good ∙ ap (report_output (is_good p default_budget)) h.text)) in
    record { said = said.said; only = said.only }

pub core_answers : (bytes : List ℕ) (e : Refusal) (r : Result code.Output AllocError)
    → FindsProgram bytes (Err e) → AnswersRefusal e r
    → IfOk r (λ o. IsOnly (IsCored bytes) (output_view o))
core_answers bytes e (Ok o) f h =
    let said = refused_says program_view (IsTextOf bytes) (IsRefused bytes) (IsCoresReport default_budget) e (Ok o) f h in
    record { said = said.said; only = said.only }
core_answers bytes e (Err a) f h = tt

-- ---- what is told

never-refused : (IsCaused : Refusal → Type 0) (o : Output) → SaysCause IsCaused o
    → (o.status ≡ Good) ⊎ (o.status ≡ Bad) → ⊥
never-refused IsCaused o c (inl e) =
    let f : Refused ≡ Good = sym (same_status o (refusal_output c.cause) c.whole) ∙ e in cc
never-refused IsCaused o c (inr e) =
    let f : Refused ≡ Bad = sym (same_status o (refusal_output c.cause) c.whole) ∙ e in cc

-- a good report with cores is as good as one without
module _ (safe : GoodAnswersAreSafe) (bytes : List ℕ) (p : PlainProgram) (t : IsTextOf bytes p) where
  abbrev plain : Output
  plain = report_output (is_good p default_budget) (report_text p default_budget)

  verified : IsVerified default_budget bytes plain
  verified = inr (record { thing = p; is_so = t; said = refl })

pub cores-told : GoodAnswersAreSafe → TextsAreFormed → ProvedHaveCores → CoresAreTold
cores-told safe formed cores bytes o (inl c) h = absurd (never-refused (IsRefused bytes) o c h)
cores-told safe formed cores bytes o (inr s) h =
    let p = s.thing in
    let status = same_status o (report_output (is_good p default_budget) (cores_text p default_budget)) s.said in
    record {
      program = p;
      text_of_it = s.is_so;
      whole = ap (λ (q : Output). q.text) s.said;
      status = status;
      good = λ e. safe default_budget bytes (plain safe bytes p s.is_so) (verified safe bytes p s.is_so) (sym status ∙ e);
      cores = cores p default_budget (formed bytes p s.is_so) (text-ascends bytes p s.is_so);
    }
