-- The rows that lack a variable, and those with a positive or a negative coefficient of it.
use Rattle.std.proofs.Common.{◌≡◌, ℕ, ℤ, pos, negsuc, zero, suc, ◌<ℤ◌, List, [], ◌∷◌, ◌++◌, cond, refl, sym, ap, subst, ◌∙◌, arith, Bool, true, false, append-nil}
use Rattle.std.specs.Prelude.{filter}
use Rattle.std.proofs.lemmas.Int.{ints}
use Rattle.std.proofs.lemmas.List.Elements.{filter-append}
use Rattle.cap_lin.specs.Linear.{coefficient}
use Rattle.cap_lin.proofs.Results.{is_zero-yes, is_zero-no}
use Rattle.cap_fm_spec.specs.Rows.{is_positive, is_negative}
use Rattle.cap_fm_elimination.specs.Views.{entry_of, entries_of, lacking_rows, upper_rows, lower_rows}
use Rattle.cap_fm_elimination.specs.Entries.{Entry}
use Rattle.cap_fm_elimination.specs.declared.entry.Present.{Present}
use Rattle.cap_fm_elimination.specs.declared.stage.Stage.{Stage}
use Rattle.cap_fm_elimination.proofs.Terms.{entries-then}

-- what a list of the elements that pass becomes, with one more element
filter-yes : {X : Type 0} (test : X → Bool) (out new xs : List X) (x : X) → test x ≡ true → out ≡ filter test xs → new ≡ out ++ (x ∷ []) → new ≡ filter test (xs ++ (x ∷ []))
filter-yes test out new xs x t e d = d ∙ ap (λ ys. ys ++ (x ∷ [])) e ∙ sym (filter-append test xs (x ∷ []) ∙ ap (λ b. filter test xs ++ cond b (x ∷ []) []) t)

filter-no : {X : Type 0} (test : X → Bool) (out xs : List X) (x : X) → test x ≡ false → out ≡ filter test xs → out ≡ filter test (xs ++ (x ∷ []))
filter-no test out xs x t e = e ∙ sym (filter-append test xs (x ∷ []) ∙ ap (λ b. filter test xs ++ cond b (x ∷ []) []) t ∙ append-nil (filter test xs))

-- ---- by the sign of a coefficient

pub record IsParted (x : ℕ) (rows without uppers lowers : List Entry) : Type 0 where
  pub lacking : without ≡ lacking_rows x rows
  pub above : uppers ≡ upper_rows x rows
  pub below : lowers ≡ lower_rows x rows

positive-zero : (z : ℤ) → (pos 0 <ℤ z → ⊥) → is_positive z ≡ false
positive-zero (pos zero) n = refl
positive-zero (pos (suc k)) n = absurd (n (omega (arith, ints)))
positive-zero (negsuc k) n = refl

positive-yes : (z : ℤ) → pos 0 <ℤ z → is_positive z ≡ true
positive-yes (pos zero) h = absurd (omega (arith, ints))
positive-yes (pos (suc n)) h = refl
positive-yes (negsuc n) h = absurd (omega (arith, ints))

negative-zero : (z : ℤ) → (z <ℤ pos 0 → ⊥) → is_negative z ≡ false
negative-zero (pos k) n = refl
negative-zero (negsuc k) n = absurd (n (omega (arith, ints)))

negative-yes : (z : ℤ) → z <ℤ pos 0 → is_negative z ≡ true
negative-yes (pos n) h = absurd (omega (arith, ints))
negative-yes (negsuc n) h = refl

pub parted-lacking : (x : ℕ) (rows without uppers lowers new : List Entry) (d : Entry) (z : ℤ) → z ≡ coefficient x d.term.parts → z ≡ pos 0 → new ≡ without ++ (d ∷ []) → IsParted x rows without uppers lowers → IsParted x (rows ++ (d ∷ [])) new uppers lowers
parted-lacking x rows without uppers lowers new d z e h n i =
    let c : coefficient x d.term.parts ≡ pos 0 = sym e ∙ h in
    record {
      lacking = filter-yes _ without new rows d (is_zero-yes _ c) i.lacking n;
      above = filter-no _ uppers rows d (positive-zero _ (λ p. omega (arith, ints))) i.above;
      below = filter-no _ lowers rows d (negative-zero _ (λ p. omega (arith, ints))) i.below;
    }

pub parted-above : (x : ℕ) (rows without uppers lowers new : List Entry) (d : Entry) (z : ℤ) → z ≡ coefficient x d.term.parts → pos 0 <ℤ z → new ≡ uppers ++ (d ∷ []) → IsParted x rows without uppers lowers → IsParted x (rows ++ (d ∷ [])) without new lowers
parted-above x rows without uppers lowers new d z e h n i =
    let c : pos 0 <ℤ coefficient x d.term.parts = rw e at h in
    record {
      lacking = filter-no _ without rows d (is_zero-no _ (λ p. omega (arith, ints))) i.lacking;
      above = filter-yes _ uppers new rows d (positive-yes _ c) i.above n;
      below = filter-no _ lowers rows d (negative-zero _ (λ p. omega (arith, ints))) i.below;
    }

pub parted-below : (x : ℕ) (rows without uppers lowers new : List Entry) (d : Entry) (z : ℤ) → z ≡ coefficient x d.term.parts → z <ℤ pos 0 → new ≡ lowers ++ (d ∷ []) → IsParted x rows without uppers lowers → IsParted x (rows ++ (d ∷ [])) without uppers new
parted-below x rows without uppers lowers new d z e h n i =
    let c : coefficient x d.term.parts <ℤ pos 0 = rw e at h in
    record {
      lacking = filter-no _ without rows d (is_zero-no _ (λ p. omega (arith, ints))) i.lacking;
      above = filter-no _ uppers rows d (positive-zero _ (λ p. omega (arith, ints))) i.above;
      below = filter-yes _ lowers new rows d (negative-yes _ c) i.below n;
    }

pub parted-all : (x : ℕ) (rows all without uppers lowers : List Entry) → rows ≡ all → IsParted x rows without uppers lowers → IsParted x all without uppers lowers
parted-all x rows all without uppers lowers e i = subst (λ ds. IsParted x ds without uppers lowers) e i

-- the same of the rows as the code has them
abbrev pub AreParted : ℕ → Stage → List Present → List Present → List Present → List Present → Type 0
AreParted x s rows without uppers lowers = IsParted x (entries_of s rows) (entries_of s without) (entries_of s uppers) (entries_of s lowers)

pub are-parted : (x : ℕ) (s : Stage) (rows without uppers lowers : List Present) (d : Present) → IsParted x (entries_of s rows ++ (entry_of s d ∷ [])) (entries_of s without) (entries_of s uppers) (entries_of s lowers) → AreParted x s (rows ++ (d ∷ [])) without uppers lowers
are-parted x s rows without uppers lowers d i = parted-all x _ _ _ _ _ (sym (entries-then s rows d)) i
