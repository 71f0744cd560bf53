-- What is answered to bytes, and nothing else.
use Rattle.std.proofs.Common.{◌≡◌, ℕ, ◌⊎◌, inl, inr, List, length, Result, Ok, Err, IfOk, MatchResult, refl, sym, ap, ◌∙◌, subst}
use Rattle.std.specs.declared.alloc.AllocError.{AllocError}
use Rattle.cap_prog.specs.declared.program.Program.{Program}
use Rattle.cap_prog.specs.Views.{program_view}
use Rattle.cap_parse_laws.specs.Texts.{Spells}
use Rattle.cap_parse_tree.specs.Canonical.{canonical_text}
use Rattle.cap_parse_tree.specs.Views.{tree_view}
use Rattle.cap_parse_tree.specs.declared.tree.Tree.{Tree}
use Rattle.cap_top_reading.specs.declared.refusal.Refusal.{Refusal}
use Rattle.cap_top_reading.specs.declared.refusal.Refusal.TheVariants.{BadByte, LongLiteral, TextTooLong, Unexpected, TooDeep, Unresolved, OutOfMemory}
use Rattle.cap_top_reading.specs.Reading.{UnlessMemory, IsFound, FindsTree, FindsProgram}
use Rattle.cap_top_reading.specs.Refused.{SpellNone, IsRefused, IsTextOf}
use Rattle.cap_top_report.specs.declared.report.Report.{Report}
use Rattle.cap_gen.specs.Trial.{trial_text}
use Rattle.cap_goal_spec.specs.Roots.{units}
use Rattle.cap_top_report.specs.declared.counts.Counts.{Counts}
use Rattle.cap_top_report.specs.Report.{proved_count, report_text, is_good}
use Rattle.cap_top_report.specs.Views.{IsCountOf, IsReportOf}
use Rattle.cap_top_commands.specs.declared.output.Output as code
use Rattle.cap_top_commands.specs.Output.{Output, refusal_output, report_output, trial_output, tree_output}
use Rattle.cap_top_commands.specs.Answers.{SaysCause, SaysOf, IsVerified, IsTried, IsTrial, IsCanonical, IsShown, IsOnly}
use Rattle.cap_top_words.specs.Meaning.{default_budget}
use Rattle.cap_top_commands.specs.Report.{IsReport}
use Rattle.cap_top_commands.specs.Views.{output_view, IsCause}

-- what holds unless memory ran out holds for a cause that lies in the text
pub holds_for : (P : Type 0) (e : Refusal) → IsCause e → UnlessMemory e P → P
holds_for P (BadByte p) c h = h
holds_for P (LongLiteral p) c h = h
holds_for P TextTooLong c h = h
holds_for P (Unexpected p) c h = h
holds_for P (TooDeep p) c h = h
holds_for P (Unresolved x) c h = h
holds_for P OutOfMemory c h = absurd c

pub no_cause : (e : Refusal) → IsCause e → e ≡ OutOfMemory → ⊥
no_cause e c h = subst IsCause h c

-- what is said of a cause, unless for want of memory
abbrev pub AnswersRefusal : Refusal → Result code.Output AllocError → Type 0
AnswersRefusal e r =
    MatchResult r (λ o. (output_view o ≡ refusal_output e) × IsCause e) (λ _. e ≡ OutOfMemory)

-- ---- what is said of a thing that was found, or of the cause for which none was

module _ {X Y : Type 0} (view : X → Y) (IsSo : Y → Type 0) (IsCaused : Refusal → Type 0) where
  -- the only thing that can be said of a cause
  pub caused_only : (e : Refusal) → IsCause e → IsFound view IsSo IsCaused (Err e)
      → IsOnly (SaysCause IsCaused) (refusal_output e)
  caused_only e c f = record {
    said = record { cause = e; caused = holds_for _ e c f.not_found; whole = refl };
    only = λ q s. ap refusal_output (holds_for _ e c (f.only_caused s.cause s.caused)) ∙ sym s.whole;
  }

  pub caused_none : (e : Refusal) → IsCause e → IsFound view IsSo IsCaused (Err e) → (y : Y) → IsSo y → ⊥
  caused_none e c f y s = no_cause e c (f.only_found y s)

  module _ (IsSaid : Y → Output → Type 0) where
    abbrev Says : Output → Type 0
    Says q = SaysCause IsCaused q ⊎ SaysOf IsSo IsSaid q

    pub found_says : (x : X) (o : Output) → IsFound view IsSo IsCaused (Ok x) → IsOnly (IsSaid (view x)) o → IsOnly Says o
    found_says x o f h = record {
      said = inr (record { thing = view x; is_so = f.found; said = h.said });
      only = by;
    }
      where
        by : (q : Output) → Says q → o ≡ q
        by q (inl c) = absurd (f.only_caused c.cause c.caused)
        by q (inr s) = h.only q (subst (λ y. IsSaid y q) (sym (f.only_found s.thing s.is_so)) s.said)

    caused_says : (e : Refusal) → IsCause e → IsFound view IsSo IsCaused (Err e) → IsOnly Says (refusal_output e)
    caused_says e c f = record { said = inl (caused_only e c f).said; only = by }
      where
        by : (q : Output) → Says q → refusal_output e ≡ q
        by q (inl s) = (caused_only e c f).only q s
        by q (inr s) = absurd (caused_none e c f s.thing s.is_so)

    pub refused_says : (e : Refusal) (r : Result code.Output AllocError) → IsFound view IsSo IsCaused (Err e)
        → AnswersRefusal e r → IfOk r (λ o. IsOnly Says (output_view o))
    refused_says e (Ok o) f h = subst (IsOnly Says) (sym h.0) (caused_says e h.1 f)
    refused_says e (Err a) f h = tt

-- what is defined to be one output is no other
pub one_only : (IsSaid : Output → Type 0) (o p : Output) → ((q : Output) → IsSaid q → q ≡ p) → IsSaid p → o ≡ p → IsOnly IsSaid o
one_only IsSaid o p same said e = record { said = subst IsSaid (sym e) said; only = λ q h. e ∙ sym (same q h) }

-- ---- verify

pub verify_reports : (budget : ℕ) (bytes : List ℕ) (program : Program) (r : Report) → FindsProgram bytes (Ok program)
    → IsReportOf (program_view program) budget r → IsOnly (IsVerified budget bytes) (report_output r.good r.text.items)
verify_reports budget bytes program r f h =
    let p = program_view program in
    let said = found_says program_view (IsTextOf bytes) (IsRefused bytes) (IsReport budget) program
    (report_output r.good r.text.items) f
    (one_only (IsReport budget p) (report_output r.good r.text.items) (report_output (is_good p budget) (report_text p budget))
    (λ q e. e) refl
    (ap (λ b. report_output b r.text.items) h.good ∙ ap (report_output (is_good p budget)) h.text)) in
    record { said = said.said; only = said.only }

pub verify_answers : (budget : ℕ) (bytes : List ℕ) (e : Refusal) (r : Result code.Output AllocError)
    → FindsProgram bytes (Err e) → AnswersRefusal e r
    → IfOk r (λ o. IsOnly (IsVerified budget bytes) (output_view o))
verify_answers budget bytes e (Ok o) f h =
    let said = refused_says program_view (IsTextOf bytes) (IsRefused bytes) (IsReport budget) e (Ok o) f h in
    record { said = said.said; only = said.only }
verify_answers budget bytes e (Err a) f h = tt

-- ---- trial

pub trial_counts : (n : ℕ) (program : Program) (c : Counts) → FindsProgram (trial_text n) (Ok program)
    → IsCountOf (program_view program) default_budget c → IsOnly (IsTrial n) (trial_output n c.proved c.all)
trial_counts n program c f h =
    let p = program_view program in
    let said = found_says program_view (IsTextOf (trial_text n)) (IsRefused (trial_text n)) (IsTried n) program
    (trial_output n c.proved c.all) f
    (one_only (IsTried n p) (trial_output n c.proved c.all) (trial_output n (proved_count p default_budget) (length (units p)))
    (λ q e. e) refl
    (ap (λ k. trial_output n k c.all) h.proved ∙ ap (trial_output n (proved_count p default_budget)) h.all)) in
    record { said = said.said; only = said.only }

pub trial_answers : (n : ℕ) (e : Refusal) (r : Result code.Output AllocError)
    → FindsProgram (trial_text n) (Err e) → AnswersRefusal e r
    → IfOk r (λ o. IsOnly (IsTrial n) (output_view o))
trial_answers n e (Ok o) f h =
    let said = refused_says program_view (IsTextOf (trial_text n)) (IsRefused (trial_text n)) (IsTried n) e (Ok o) f h in
    record { said = said.said; only = said.only }
trial_answers n e (Err a) f h = tt

-- ---- show

pub show_prints : (bytes : List ℕ) (tree : Tree) (text : List ℕ) → FindsTree bytes (Ok tree)
    → text ≡ canonical_text (tree_view tree) → IsOnly (IsShown bytes) (tree_output text)
show_prints bytes tree text f h =
    let said = found_says tree_view (Spells bytes) (SpellNone bytes) IsCanonical tree (tree_output text) f
    (one_only (IsCanonical (tree_view tree)) (tree_output text) (tree_output (canonical_text (tree_view tree)))
    (λ q e. e) refl (ap tree_output h)) in
    record { said = said.said; only = said.only }

pub show_answers : (bytes : List ℕ) (e : Refusal) (r : Result code.Output AllocError)
    → FindsTree bytes (Err e) → AnswersRefusal e r
    → IfOk r (λ o. IsOnly (IsShown bytes) (output_view o))
show_answers bytes e (Ok o) f h =
    let said = refused_says tree_view (Spells bytes) (SpellNone bytes) IsCanonical e (Ok o) f h in
    record { said = said.said; only = said.only }
show_answers bytes e (Err a) f h = tt
