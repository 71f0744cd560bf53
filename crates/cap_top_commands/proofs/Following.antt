-- What is said of a derivation's lines, and nothing else: they are followed by a judge to their end.
use Rattle.std.proofs.Common.{◌≡◌, ◌≢◌, ℕ, suc, inl, inr, List, [], ◌∷◌, ◌++◌, Result, Ok, Err, IfOk, MatchResult, refl, sym, ap, ◌∙◌, subst}
use Rattle.std.specs.declared.alloc.AllocError.{AllocError}
use Rattle.cap_prog.specs.Program.{PlainProgram}
use Rattle.cap_goal_spec.specs.Choices.{PlainChoice}
use Rattle.cap_deriv.specs.Told.{Told, all_told, bad_told, unended_told, too_many_told, choice_told, choices_told, opening_told, told_by_bytes}
use Rattle.cap_deriv.specs.Telling.{Opens, Tells}
use Rattle.cap_deriv.specs.Whole.{told_at_last, end_of_opening}
use Rattle.cap_deriv.specs.declared.cursor.DerivError.{DerivError}
use Rattle.cap_deriv.specs.declared.cursor.DerivError.TheVariants.{BadLine, Unended, TooMany, OutOfMemory}
use Rattle.cap_kernel_check_steps.specs.declared.error.CheckError.{CheckError}
use Rattle.cap_kernel_check_steps.specs.Judges.{PlainJudge, Judged, Judges, JudgesNext, AnswersFor}
use Rattle.cap_kernel_check_steps.specs.Laws.{JudgementsAreOne}
use Rattle.cap_top_commands.specs.declared.output.Output as code
use Rattle.cap_top_commands.specs.Answers.{IsOnly}
use Rattle.cap_top_commands.specs.Derivations.{IsBadDerivation, IsChecked}
use Rattle.cap_top_commands.specs.Output.{Output, bad_derivation_output, judged_output}
use Rattle.cap_top_commands.specs.Views.{output_view}

-- ---- what is told

choices_in : Told → List PlainChoice
choices_in (choice_told c t) = c ∷ choices_in t
choices_in all_told = []
choices_in (bad_told n) = []
choices_in unended_told = []
choices_in too_many_told = []

in-told : (cs : List PlainChoice) → choices_in (choices_told cs all_told) ≡ cs
unfolding choices_in
in-told [] = refl
in-told (c ∷ cs) = ap (λ ds. c ∷ ds) (in-told cs)

more-told : (cs : List PlainChoice) (c : PlainChoice) (t : Told) → choices_told (cs ++ c ∷ []) t ≡ choices_told cs (choice_told c t)
more-told [] c t = refl
more-told (b ∷ cs) c t = ap (choice_told b) (more-told cs c t)

last-told : (cs : List PlainChoice) (t : Told) → told_at_last (choices_told cs t) ≡ told_at_last t
last-told [] t = refl
last-told (c ∷ cs) t = last-told cs t

error_of : Told → DerivError
error_of (bad_told n) = BadLine n
error_of unended_told = Unended
error_of too_many_told = TooMany
error_of all_told = OutOfMemory
error_of (choice_told c t) = OutOfMemory

abbrev end_told : List ℕ → Told
end_told bytes = end_of_opening (told_by_bytes bytes)

is-error : (bytes : List ℕ) (e : DerivError) → IsBadDerivation bytes e → error_of (end_told bytes) ≡ e
unfolding error_of
is-error bytes (BadLine n) h = ap error_of h
is-error bytes Unended h = ap error_of h
is-error bytes TooMany h = ap error_of h
is-error bytes OutOfMemory h = absurd h

whole-told : (bytes : List ℕ) (trees : ℕ) (cs : List PlainChoice) → told_by_bytes bytes ≡ opening_told trees (choices_told cs all_told)
    → error_of (end_told bytes) ≡ OutOfMemory
unfolding error_of
whole-told bytes trees cs h = ap (λ o. error_of (end_of_opening o)) h ∙ ap error_of (last-told cs all_told)

no-memory : (bytes : List ℕ) (e : DerivError) → IsBadDerivation bytes e → e ≡ OutOfMemory → ⊥
no-memory bytes e h m = subst (IsBadDerivation bytes) m h

pub same-trees : (a b : ℕ) (s t : Told) → opening_told a s ≡ opening_told b t → a ≡ b
same-trees a b s t h = cc

same-told : (a b : ℕ) (s t : Told) → opening_told a s ≡ opening_told b t → s ≡ t
same-told a b s t h = cc

-- the choices of lines are one list
pub one_list : (bytes : List ℕ) (a b : ℕ) (cs ds : List PlainChoice) → told_by_bytes bytes ≡ opening_told a (choices_told cs all_told)
    → told_by_bytes bytes ≡ opening_told b (choices_told ds all_told) → cs ≡ ds
one_list bytes a b cs ds h k =
    let e = same-told a b (choices_told cs all_told) (choices_told ds all_told) (sym h ∙ k) in
    sym (in-told cs) ∙ (ap choices_in e ∙ in-told ds)

-- bad lines are bad in one way
pub one_error : (bytes : List ℕ) (d e : DerivError) → IsBadDerivation bytes d → IsBadDerivation bytes e → d ≡ e
one_error bytes d e h k = sym (is-error bytes d h) ∙ is-error bytes e k

-- lines are not bad ones
pub apart : {A : Type 0} (bytes : List ℕ) (trees : ℕ) (cs : List PlainChoice) (e : DerivError)
    → told_by_bytes bytes ≡ opening_told trees (choices_told cs all_told) → IsBadDerivation bytes e → A
apart bytes trees cs e h k =
    absurd (no-memory bytes e k (sym (is-error bytes e k) ∙ whole-told bytes trees cs h))

module _ (p : PlainProgram) (bytes : List ℕ) where
  pub bad_only : (e : DerivError) → IsBadDerivation bytes e → IsOnly (IsChecked p bytes) (bad_derivation_output e)
  bad_only e h = record { said = inl (record { error = e; bad = h; whole = refl }); only = by }
    where
      by : (q : Output) → IsChecked p bytes q → bad_derivation_output e ≡ q
      by q (inl k) = ap bad_derivation_output (one_error bytes e k.error h k.bad) ∙ sym k.whole
      by q (inr k) = apart bytes k.trees k.choices e k.told h

  pub judged_only : JudgementsAreOne → (trees : ℕ) (cs : List PlainChoice) (r : Result ℕ CheckError)
      → told_by_bytes bytes ≡ opening_told trees (choices_told cs all_told) → Judged p trees cs r
      → IsOnly (IsChecked p bytes) (judged_output r)
  judged_only one trees cs r h j = record {
    said = inr (record { trees = trees; choices = cs; told = h; answer = r; judged = j; whole = refl });
    only = by;
  }
    where
      by : (q : Output) → IsChecked p bytes q → judged_output r ≡ q
      by q (inl k) = apart bytes trees cs k.error h k.bad
      by q (inr k) =
          let ts = same-trees k.trees trees (choices_told k.choices all_told) (choices_told cs all_told) (sym k.told ∙ h) in
          let same : k.choices ≡ cs = one_list bytes k.trees trees k.choices cs k.told h in
          let k' : Judged p trees cs k.answer = subst (λ n. Judged p n cs k.answer) ts (subst (λ xs. Judged p k.trees xs k.answer) same k.judged) in
          ap judged_output (one p trees cs r k.answer j k') ∙ sym k.whole

  -- what is said of lines is nothing else
  pub checked_only : JudgementsAreOne → (o : Output) → IsChecked p bytes o → IsOnly (IsChecked p bytes) o
  checked_only one o (inl k) = subst (IsOnly (IsChecked p bytes)) (sym k.whole) (bad_only k.error k.bad)
  checked_only one o (inr k) =
      subst (IsOnly (IsChecked p bytes)) (sym k.whole) (judged_only one k.trees k.choices k.answer k.told k.judged)

-- ---- the judge follows the lines

-- these choices were told so far, and the judge stands behind them
pub record Follows (p : PlainProgram) (bytes : List ℕ) (trees : ℕ) (left : Told) (j : PlainJudge) : Type 0 where
  pub choices : List PlainChoice
  pub told : told_by_bytes bytes ≡ opening_told trees (choices_told choices left)
  pub judges : Judges p trees choices j

module _ (p : PlainProgram) (bytes : List ℕ) where
  pub begins : (trees : ℕ) (left : Told) (j : PlainJudge) → told_by_bytes bytes ≡ opening_told trees left → Judges p trees [] j → Follows p bytes trees left j
  begins trees left j h k = record { choices = []; told = h; judges = k }

  pub goes_on : (trees more : ℕ) (left rest : Told) (old new : PlainJudge) (c : PlainChoice) → Follows p bytes trees left old
      → left ≡ choice_told c rest → more ≡ trees → JudgesNext old c new → Follows p bytes more rest new
  goes_on trees more left rest old new c f e same n =
      subst (λ m. Follows p bytes m rest new) (sym same) (record {
        choices = f.choices ++ c ∷ [];
        told = f.told ∙ ap (opening_told trees) (ap (choices_told f.choices) e ∙ sym (more-told f.choices c rest));
        judges = n p trees f.choices f.judges;
      })

  pub ends : JudgementsAreOne → (trees : ℕ) (left : Told) (j : PlainJudge) (r : Result ℕ CheckError) → Follows p bytes trees left j
      → left ≡ all_told → AnswersFor j r → IsOnly (IsChecked p bytes) (judged_output r)
  ends one trees left j r f e a =
      judged_only p bytes one trees f.choices r (f.told ∙ ap (λ t. opening_told trees (choices_told f.choices t)) e) (a p trees f.choices f.judges)

  bad_at : (trees : ℕ) (left rest : Told) (j : PlainJudge) (e : DerivError) → Follows p bytes trees left j → Tells (Err e) left rest
      → e ≢ OutOfMemory → IsBadDerivation bytes e
  bad_at trees left rest j (BadLine n) f a m = ap end_of_opening f.told ∙ (last-told f.choices left ∙ ap told_at_last a.0)
  bad_at trees left rest j Unended f a m = ap end_of_opening f.told ∙ (last-told f.choices left ∙ ap told_at_last a.0)
  bad_at trees left rest j TooMany f a m = ap end_of_opening f.told ∙ (last-told f.choices left ∙ ap told_at_last a.0)
  bad_at trees left rest j OutOfMemory f a m = absurd (m refl)

  bad_first : (e : DerivError) → Opens (Err e) (told_by_bytes bytes) → e ≢ OutOfMemory → IsBadDerivation bytes e
  bad_first (BadLine n) h m = ap end_of_opening h.0 ∙ ap bad_told (sym h.1)
  bad_first Unended h m = ap end_of_opening h
  bad_first TooMany h m = absurd h
  bad_first OutOfMemory h m = absurd (m refl)

  -- what is said of bad lines, unless memory is short
  abbrev pub SaysBad : DerivError → Result code.Output AllocError → Type 0
  SaysBad e r = MatchResult r (λ o. (output_view o ≡ bad_derivation_output e) × (e ≢ OutOfMemory)) (λ _. e ≡ OutOfMemory)

  says_bad : (e : DerivError) (r : Result code.Output AllocError) → SaysBad e r → (e ≢ OutOfMemory → IsBadDerivation bytes e)
      → IfOk r (λ o. IsOnly (IsChecked p bytes) (output_view o))
  says_bad e (Ok o) h k = subst (IsOnly (IsChecked p bytes)) (sym h.0) (bad_only p bytes e (k h.1))
  says_bad e (Err a) h k = tt

  pub says_bad_rest : (trees : ℕ) (left rest : Told) (j : PlainJudge) (e : DerivError) (r : Result code.Output AllocError)
      → Follows p bytes trees left j → Tells (Err e) left rest → SaysBad e r
      → IfOk r (λ o. IsOnly (IsChecked p bytes) (output_view o))
  says_bad_rest trees left rest j e r f a h = says_bad e r h (bad_at trees left rest j e f a)

  pub says_bad_first : (e : DerivError) (r : Result code.Output AllocError) → Opens (Err e) (told_by_bytes bytes) → SaysBad e r
      → IfOk r (λ o. IsOnly (IsChecked p bytes) (output_view o))
  says_bad_first e r a h = says_bad e r h (bad_first e a)

-- how many lines are left
abbrev pub count : Told → ℕ
count all_told = 0
count (bad_told n) = 0
count unended_told = 0
count too_many_told = 0
count (choice_told c t) = suc (count t)
