-- What is said of a derivation's outline, and nothing else; and what it means.
use Rattle.std.proofs.Common.{◌≡◌, ◌≢◌, ℕ, inl, inr, List, length, Option, Result, Ok, Err, IfOk, MatchResult, refl, sym, ap, ◌∙◌, subst}
use Rattle.std.specs.declared.alloc.AllocError.{AllocError}
use Rattle.cap_prog.specs.Program.{PlainProgram}
use Rattle.cap_goal_spec.specs.Choices.{PlainChoice, PlainTree}
use Rattle.cap_rules.specs.Valid.{Valid}
use Rattle.cap_account.specs.Law.{DerivationsAreSound}
use Rattle.cap_deriv.specs.Told.{told_by_bytes}
use Rattle.cap_deriv.specs.Whole.{ReadsWhole}
use Rattle.cap_deriv.specs.declared.cursor.DerivError.{DerivError}
use Rattle.cap_deriv.specs.declared.cursor.DerivError.TheVariants.{BadLine, Unended, TooMany, OutOfMemory}
use Rattle.cap_kernel_check_steps.specs.declared.error.CheckError.{CheckError}
use Rattle.cap_kernel_check_steps.specs.declared.error.CheckError.TheVariants as judge
use Rattle.cap_kernel_check_steps.specs.Judges.{Judged}
use Rattle.cap_kernel_check_steps.specs.Laws.{HasTrees, JudgedAreValid, JudgementsAreOne, ValidTreesAreOne}
use Rattle.cap_kernel_check_steps.specs.Owed.{preorder, JudgedOk}
use Rattle.cap_outline_spec.specs.Outline.{outline_text}
use Rattle.cap_outline_laws.specs.Laws.{DerivationsOutline}
use Rattle.cap_top_commands.specs.declared.output.Output as code
use Rattle.cap_top_commands.specs.declared.status.Status.TheVariants.{Good, Bad, Refused}
use Rattle.cap_top_commands.specs.Answers.{IsOnly}
use Rattle.cap_top_commands.specs.Derivations.{IsBadDerivation, IsChecked}
use Rattle.cap_top_commands.specs.Outlines.{IsOutline, CheckedAreOutlined, OutlinesAreTold}
use Rattle.cap_top_commands.specs.Output.{Output, bad_derivation_output, judged_output, outline_output}
use Rattle.cap_top_commands.specs.Owners.{TellsLines}
use Rattle.cap_top_commands.specs.Views.{output_view}
use Rattle.cap_top_commands.proofs.Accepting.{ReadingsAreLines}
use Rattle.cap_top_commands.proofs.Following.{one_list, bad_only, judged_only, checked_only, SaysBad}
use Rattle.cap_top_commands.proofs.Good.{TextsAreFormed, safe_text, same_status}

-- what is read to its end is bad where it is said to be
pub bad_whole : (bytes : List ℕ) (e : DerivError) → ReadsWhole (Err e) (told_by_bytes bytes) → e ≢ OutOfMemory → IsBadDerivation bytes e
bad_whole bytes (BadLine n) h m = h
bad_whole bytes Unended h m = h
bad_whole bytes TooMany h m = h
bad_whole bytes OutOfMemory h m = absurd (m refl)

module _ (p : PlainProgram) (bytes : List ℕ) where
  -- valid trees are accepted
  accepted : JudgedAreValid → JudgementsAreOne → (trees : List (Option PlainTree)) → TellsLines bytes (length trees) (preorder trees)
      → Valid p trees → IsOnly (IsChecked p bytes) (judged_output (Ok (length (preorder trees))))
  accepted judged one trees told valid =
      judged_only p bytes one (length trees) (preorder trees) (Ok (length (preorder trees))) told
      (judged.complete p (length trees) (preorder trees) (trees, valid, refl, refl))

  -- nothing else is said of lines that have an outline
  outline_only : JudgedAreValid → JudgementsAreOne → ValidTreesAreOne → (trees : List (Option PlainTree))
      → TellsLines bytes (length trees) (preorder trees) → Valid p trees → IsOnly (IsOutline p bytes) (outline_output (outline_text p trees))
  outline_only judged one unique trees told valid = record {
    said = inl (record { trees = trees; told = told; valid = valid; whole = refl });
    only = by;
  }
    where
      by : (q : Output) → IsOutline p bytes q → outline_output (outline_text p trees) ≡ q
      by q (inl k) =
          let same = one_list bytes (length trees) (length k.trees) (preorder trees) (preorder k.trees) told k.told in
          ap (λ ts. outline_output (outline_text p ts)) (unique p trees k.trees valid k.valid same) ∙ sym k.whole
      by q (inr k) =
          let good = judged_output (Ok (length (preorder trees))) in
          absurd (k.unaccepted (sym (same_status good q ((accepted judged one trees told valid).only q k.checked))))

  -- nor of lines that are not accepted
  unaccepted_only : JudgedAreValid → JudgementsAreOne → (o : Output) → IsChecked p bytes o → o.status ≢ Good
      → IsOnly (IsOutline p bytes) o
  unaccepted_only judged one o h n = record { said = inr (record { checked = h; unaccepted = n }); only = by }
    where
      by : (q : Output) → IsOutline p bytes q → o ≡ q
      by q (inl k) =
          let good = judged_output (Ok (length (preorder k.trees))) in
          absurd (n (sym (same_status good o ((accepted judged one k.trees k.told k.valid).only o h))))
      by q (inr k) = (checked_only p bytes one o h).only q k.checked

  pub says_outline : JudgedAreValid → JudgementsAreOne → ValidTreesAreOne → (n : ℕ) (cs : List PlainChoice)
      (trees : List (Option PlainTree)) → TellsLines bytes n cs → Valid p trees → length trees ≡ n → preorder trees ≡ cs
      → (text : List ℕ) → text ≡ outline_text p trees → IsOnly (IsOutline p bytes) (outline_output text)
  says_outline judged one unique n cs trees told valid many choices text e =
      let here : TellsLines bytes (length trees) (preorder trees) =
      subst (λ m. TellsLines bytes m (preorder trees)) (sym many) (subst (TellsLines bytes n) (sym choices) told) in
      subst (λ t. IsOnly (IsOutline p bytes) (outline_output t)) (sym e)
      (outline_only judged one unique trees here valid)

  -- what is said of trees that are not valid, unless memory is short
  abbrev pub SaysFault : CheckError → Result code.Output AllocError → Type 0
  SaysFault e r = MatchResult r (λ o. (output_view o ≡ judged_output (Err e)) × (e ≢ judge.OutOfMemory)) (λ _. e ≡ judge.OutOfMemory)

  pub says_fault : JudgedAreValid → JudgementsAreOne → (n : ℕ) (cs : List PlainChoice) (e : CheckError)
      (r : Result code.Output AllocError) → TellsLines bytes n cs → (e ≢ judge.OutOfMemory → Judged p n cs (Err e)) → SaysFault e r
      → IfOk r (λ o. IsOnly (IsOutline p bytes) (output_view o))
  says_fault judged one n cs e (Ok o) told j h =
      let k = judged_only p bytes one n cs (Err e) told (j h.1) in
      subst (IsOnly (IsOutline p bytes)) (sym h.0)
      (unaccepted_only judged one (judged_output (Err e)) k.said (λ f. let g : Bad ≡ Good = f in cc))
  says_fault judged one n cs e (Err a) told j h = tt

  pub says_bad_lines : JudgedAreValid → JudgementsAreOne → (e : DerivError) (r : Result code.Output AllocError)
      → ReadsWhole (Err e) (told_by_bytes bytes) → SaysBad p bytes e r
      → IfOk r (λ o. IsOnly (IsOutline p bytes) (output_view o))
  says_bad_lines judged one e (Ok o) f h =
      subst (IsOnly (IsOutline p bytes)) (sym h.0)
      (unaccepted_only judged one (bad_derivation_output e) (bad_only p bytes e (bad_whole bytes e f h.1)).said
      (λ k. let g : Refused ≡ Good = k in cc))
  says_bad_lines judged one e (Err a) f h = tt

-- ---- something is said

pub checked_outlined : JudgedAreValid → CheckedAreOutlined
checked_outlined judged p bytes o (inl k) =
    (o, inr (record { checked = inl k; unaccepted = λ e. bad (sym (same_status o (bad_derivation_output k.error) k.whole) ∙ e) }), refl)
  where
    bad : Refused ≢ Good
    bad e = cc
checked_outlined judged p bytes o (inr k) = by k.answer refl
  where
    bad : Bad ≢ Good
    bad e = cc

    by : (r : Result ℕ CheckError) → k.answer ≡ r → (q : Output) × IsOutline p bytes q × (q.status ≡ o.status)
    by (Ok n) e =
        let j : JudgedOk p k.trees k.choices n = subst (Judged p k.trees k.choices) e k.judged in
        let has : HasTrees p k.trees k.choices = judged.sound p k.trees n k.choices j in
        let told : TellsLines bytes (length has.0) (preorder has.0) =
        subst (λ m. TellsLines bytes m (preorder has.0)) (sym has.2) (subst (TellsLines bytes k.trees) (sym has.3) k.told) in (
          outline_output (outline_text p has.0),
          inl (record { trees = has.0; told = told; valid = has.1; whole = refl }),
          sym (same_status o (judged_output (Ok n)) (k.whole ∙ ap judged_output e)),
        )
    by (Err x) e =
        (o, inr (record { checked = inr k; unaccepted = λ f. bad (sym (same_status o (judged_output (Err x)) (k.whole ∙ ap judged_output e)) ∙ f) }), refl)

-- ---- what it means

same_text : (o p : Output) → o ≡ p → o.text ≡ p.text
same_text o p e = ap (λ (q : Output). q.text) e

pub outlines_told : DerivationsAreSound → DerivationsOutline → ReadingsAreLines → TextsAreFormed → OutlinesAreTold
outlines_told sound outlines readings formed bytes lines p o t (inl k) e = record {
  accepted = record {
    text = safe_text sound formed bytes p t k.trees k.valid;
    trees = k.trees;
    told = readings (length k.trees) (preorder k.trees) lines k.told;
    valid = k.valid;
  };
  whole = same_text o (outline_output (outline_text p k.trees)) k.whole;
  holds = outlines p k.trees (formed bytes p t) k.valid;
}
outlines_told sound outlines readings formed bytes lines p o t (inr k) e = absurd (k.unaccepted e)
