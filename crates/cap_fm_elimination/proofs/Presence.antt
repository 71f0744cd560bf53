-- Which rows are present, and that rows with a variable leave.
use Rattle.std.proofs.Common.{◌≡◌, ℕ, ◌+◌, ◌<◌, ◌≤◌, List, [], ◌∷◌, length, get_or, take, not, cond, refl, sym, ap, ◌∙◌, subst, arith, inl, inr, Bool, true, false}
use Rattle.std.specs.Prelude.{◌&&◌, ◌||◌, ◌≢◌}
use Rattle.std.specs.List.{list_any}
use Rattle.std.proofs.lemmas.Bool.{false≢true}
use Rattle.std.proofs.lemmas.List.{get_or-set_same, get_or-set_other, length-set, take_all}
use Rattle.std.proofs.lemmas.List.Folds.{list_any_more}
use Rattle.cap_lin.specs.Linear.{Linear, is_zero, coefficient}
use Rattle.cap_lin.specs.declared.row.Kind.{Kind}
use Rattle.cap_fm_spec.specs.Rows.{same_row, has_arisen, is_present}
use Rattle.cap_fm_elimination.specs.Entries.{Entry}
use Rattle.cap_fm_elimination.specs.declared.stage.Stage.{Stage}
use Rattle.cap_fm_elimination.specs.Views.{stage_view, entries_view, term_of, lacking_rows, row_number, IsStageOf, IsNumbered, AreNumbered, Grows}
use Rattle.cap_fm_elimination.specs.Answers.{Remarks, OnlyLeaves}
use Rattle.cap_fm_spec.proofs.Lists.{each-filter}
use Rattle.cap_fm_elimination.proofs.Each.{each-at}
use Rattle.cap_fm_elimination.proofs.Stages.{all-grow}
use Rattle.cap_fm_elimination.proofs.Marks.{row-is, number-below, number-one}
use Rattle.cap_fm_elimination.proofs.Booleans.{true_or_false}

-- ---- rows that have a variable

abbrev pub has : ℕ → Entry → Bool
has x d = not (is_zero (coefficient x d.term.parts))

-- an equal row that has the variable is among the rows
abbrev pub is_left : ℕ → Linear → Kind → List Entry → Bool
is_left x t k ds = list_any (λ d. has x d && same_row t k d.term d.kind) ds

-- equal rows have the same coefficients
same-zero : (x : ℕ) (t : Linear) (k : Kind) (d : Entry) → same_row t k d.term d.kind ≡ true → is_zero (coefficient x d.term.parts) ≡ is_zero (coefficient x t.parts)
same-zero x t k d e = ap (λ (u : Linear). is_zero (coefficient x u.parts)) (sym (row-is t k d.term d.kind e).0)

left-none : (z s : Bool) (l : Bool) → (s ≡ true → z ≡ true) → l ≡ false → ((not z && s) || l) ≡ false
left-none true s l h e = e
left-none false true l h e = absurd (false≢true (h refl))
left-none false false l h e = e

zero-unleft : (x : ℕ) (t : Linear) (k : Kind) (ds : List Entry) → is_zero (coefficient x t.parts) ≡ true → is_left x t k ds ≡ false
zero-unleft x t k [] z = refl
zero-unleft x t k (d ∷ ds) z = left-none (is_zero (coefficient x d.term.parts)) (same_row t k d.term d.kind) (is_left x t k ds) (λ s. same-zero x t k d s ∙ z) (zero-unleft x t k ds z)

kept-same : (z : Bool) (t : Linear) (k : Kind) (d : Entry) (ds es : List Entry) → (same_row t k d.term d.kind ≡ true → z ≡ true) → is_present t k (entries_view ds) ≡ is_present t k (entries_view es) → is_present t k (entries_view (d ∷ ds)) ≡ is_present t k (entries_view (cond z (d ∷ es) es))
kept-same true t k d ds es h e = ap (λ b. same_row t k d.term d.kind || b) e
kept-same false t k d ds es h e = elim (true_or_false (same_row t k d.term d.kind)) [
  | inl s ↦ absurd (false≢true (h s))
  | inr s ↦ ap (λ b. b || is_present t k (entries_view ds)) s ∙ e
]

-- a row that lacks the variable is present where it is among the rows that lack it
pub zero-present : (x : ℕ) (t : Linear) (k : Kind) (ds : List Entry) → is_zero (coefficient x t.parts) ≡ true → is_present t k (entries_view ds) ≡ is_present t k (entries_view (lacking_rows x ds))
zero-present x t k [] z = refl
zero-present x t k (d ∷ ds) z = kept-same (is_zero (coefficient x d.term.parts)) t k d ds (lacking_rows x ds) (λ s. same-zero x t k d s ∙ z) (zero-present x t k ds z)

unkept : (z s l p : Bool) → (s ≡ true → z ≡ false) → l ≡ p → ((not z && s) || l) ≡ (s || p)
unkept true true l p h e = absurd (false≢true (sym (h refl)))
unkept true false l p h e = e
unkept false s l p h e = ap (λ b. s || b) e

had-left : (x : ℕ) (t : Linear) (k : Kind) (ds : List Entry) → is_zero (coefficient x t.parts) ≡ false → is_left x t k ds ≡ is_present t k (entries_view ds)
had-left x t k [] z = refl
had-left x t k (d ∷ ds) z = unkept (is_zero (coefficient x d.term.parts)) (same_row t k d.term d.kind) (is_left x t k ds) (is_present t k (entries_view ds)) (λ s. same-zero x t k d s ∙ z) (had-left x t k ds z)

gone-from : (z : Bool) (t : Linear) (k : Kind) (d : Entry) (es : List Entry) → (same_row t k d.term d.kind ≡ true → z ≡ false) → is_present t k (entries_view es) ≡ false → is_present t k (entries_view (cond z (d ∷ es) es)) ≡ false
gone-from true t k d es h e = elim (true_or_false (same_row t k d.term d.kind)) [
  | inl s ↦ absurd (false≢true (sym (h s)))
  | inr s ↦ ap (λ b. b || is_present t k (entries_view es)) s ∙ e
]
gone-from false t k d es h e = e

had-gone : (x : ℕ) (t : Linear) (k : Kind) (ds : List Entry) → is_zero (coefficient x t.parts) ≡ false → is_present t k (entries_view (lacking_rows x ds)) ≡ false
had-gone x t k [] z = refl
had-gone x t k (d ∷ ds) z = gone-from (is_zero (coefficient x d.term.parts)) t k d (lacking_rows x ds) (λ s. same-zero x t k d s ∙ z) (had-gone x t k ds z)

and-not : (b : Bool) → (b && not b) ≡ false
and-not true = refl
and-not false = refl

and-true : (b : Bool) → (b && true) ≡ b
and-true true = refl
and-true false = refl

-- those that are present, without those that left, are those that lack the variable
present-lacking : (x : ℕ) (t : Linear) (k : Kind) (ds : List Entry) → (is_present t k (entries_view ds) && not (is_left x t k ds)) ≡ is_present t k (entries_view (lacking_rows x ds))
present-lacking x t k ds = elim (true_or_false (is_zero (coefficient x t.parts))) [
  | inl z ↦ ap (λ b. is_present t k (entries_view ds) && not b) (zero-unleft x t k ds z) ∙ and-true _ ∙ zero-present x t k ds z
  | inr z ↦ ap (λ b. is_present t k (entries_view ds) && not b) (had-left x t k ds z) ∙ and-not _ ∙ sym (had-gone x t k ds z)
]

-- ---- the loop in which they leave

-- of the first rows those with the variable have left
pub record HasLeft (x : ℕ) (old new : Stage) (ds : List Entry) : Type 0 where
  pub forms : new.forms.keys ≡ old.forms.keys
  pub history : new.history.items ≡ old.history.items
  pub zero : new.zero ≡ old.zero
  pub long : length new.present.items ≡ length old.present.items
  pub tell : (t : Linear) (k : Kind) → has_arisen t k (stage_view old).arisen ≡ true → get_or new.present.items (row_number t k (stage_view old).arisen) false ≡ (get_or old.present.items (row_number t k (stage_view old).arisen) false && not (is_left x t k ds))

pub none-left : (x : ℕ) (s : Stage) → HasLeft x s s []
none-left x s = record { forms = refl; history = refl; zero = refl; long = refl; tell = λ t k h. sym (and-true _) }

-- one more row of those looked at
left-more : (x : ℕ) (t : Linear) (k : Kind) (ds : List Entry) (i : ℕ) (d : Entry) → i < length ds → d ≡ get_or ds i d → is_left x t k (take (i + 1) ds) ≡ (is_left x t k (take i ds) || (has x d && same_row t k d.term d.kind))
left-more x t k ds i d l g = list_any_more (λ e. has x e && same_row t k e.term e.kind) ds i d l ∙ ap (λ (e : Entry). is_left x t k (take i ds) || (has x e && same_row t k e.term e.kind)) (sym g)

or-zero : (z s l : Bool) → z ≡ true → (l || (not z && s)) ≡ l
or-zero true s true e = refl
or-zero true s false e = refl
or-zero false s l e = cc

none-of : (z s l o : Bool) → z ≡ false → s ≡ true → (o && not (l || (not z && s))) ≡ false
none-of true s l o e f = cc
none-of false false l o e f = cc
none-of false true true true e f = refl
none-of false true true false e f = refl
none-of false true false true e f = refl
none-of false true false false e f = refl

not-that : (z s l : Bool) → s ≡ false → (l || (not z && s)) ≡ l
not-that z true l e = cc
not-that true false true e = refl
not-that true false false e = refl
not-that false false true e = refl
not-that false false false e = refl

pub passes-one : (x : ℕ) (old mid : Stage) (ds : List Entry) (i : ℕ) (d : Entry) → i < length ds → d ≡ get_or ds i d → is_zero (coefficient x d.term.parts) ≡ true → HasLeft x old mid (take i ds) → HasLeft x old mid (take (i + 1) ds)
passes-one x old mid ds i d l g z h = record {
  forms = h.forms;
  history = h.history;
  zero = h.zero;
  long = h.long;
  tell = λ t k a. h.tell t k a ∙ ap (λ b. get_or old.present.items (row_number t k (stage_view old).arisen) false && not b) (sym (left-more x t k ds i d l g ∙ or-zero _ (same_row t k d.term d.kind) (is_left x t k (take i ds)) z));
}

marks-one : (x : ℕ) (old mid new : Stage) (ds : List Entry) (i : ℕ) (d : Entry) (t : Linear) (k : Kind) → IsNumbered old d → length old.present.items ≡ length (stage_view old).arisen → i < length ds → d ≡ get_or ds i d → is_zero (coefficient x d.term.parts) ≡ false → Remarks mid new d.number false → HasLeft x old mid (take i ds) → has_arisen t k (stage_view old).arisen ≡ true → get_or new.present.items (row_number t k (stage_view old).arisen) false ≡ (get_or old.present.items (row_number t k (stage_view old).arisen) false && not (is_left x t k (take (i + 1) ds)))
marks-one x old mid new ds i d t k n m l g z r h a = elim (true_or_false (same_row t k d.term d.kind)) [
  | inl s ↦
      let q = row-is t k d.term d.kind s in
      let e : row_number t k (stage_view old).arisen ≡ d.number = ap (λ u. row_number u k (stage_view old).arisen) q.0 ∙ ap (λ c. row_number d.term c (stage_view old).arisen) q.1 ∙ n.number in
      let b = number-below d.term d.kind (stage_view old).arisen n.arose in
      let f = n.number in
      let o = h.long in
      let w : d.number < length mid.present.items = omega arith in
      rw (left-more x t k ds i d l g, none-of _ _ (is_left x t k (take i ds)) (get_or old.present.items (row_number t k (stage_view old).arisen) false) z s, e, r.marks) (get_or-set_same mid.present.items d.number false false w)
  | inr s ↦
      let other : row_number t k (stage_view old).arisen ≢ d.number = λ e. false≢true (sym s ∙ number-one t k d.term d.kind (stage_view old).arisen a (e ∙ sym n.number)) in
      rw (left-more x t k ds i d l g, not-that (is_zero (coefficient x d.term.parts)) _ (is_left x t k (take i ds)) s, r.marks) (get_or-set_other mid.present.items d.number (row_number t k (stage_view old).arisen) false false other ∙ h.tell t k a)
]

pub leaves-one : (x : ℕ) (old mid new : Stage) (ds : List Entry) (i : ℕ) (d : Entry) → AreNumbered old ds → length old.present.items ≡ length (stage_view old).arisen → i < length ds → d ≡ get_or ds i d → is_zero (coefficient x d.term.parts) ≡ false → Remarks mid new d.number false → HasLeft x old mid (take i ds) → HasLeft x old new (take (i + 1) ds)
leaves-one x old mid new ds i d n m l g z r h = record {
  forms = r.forms ∙ h.forms;
  history = r.history ∙ h.history;
  zero = r.zero ∙ h.zero;
  long = ap length r.marks ∙ length-set mid.present.items d.number false ∙ h.long;
  tell = λ t k a. marks-one x old mid new ds i d t k (subst (IsNumbered old) (sym g) (each-at (IsNumbered old) ds i d l n)) m l g z r h a;
}

grows-same : (old new : Stage) → new.forms.keys ≡ old.forms.keys → new.history.items ≡ old.history.items → Grows old new
grows-same old new f h d n = record { arose = rw f n.arose; number = rw f n.number; origin = rw h n.origin }

pub all-left : (x inputs : ℕ) (old new : Stage) (ds : List Entry) → IsStageOf inputs old ds → HasLeft x old new ds → OnlyLeaves inputs old new (lacking_rows x ds)
all-left x inputs old new ds f h =
    let grows = grows-same old new h.forms h.history in
    record {
      fits = record {
        marked = record {
          long = h.long ∙ f.marked.long ∙ ap length (sym h.forms);
          tell = rw h.forms (λ t k a. h.tell t k a ∙ ap (λ b. b && not (is_left x t k ds)) (f.marked.tell t k a) ∙ present-lacking x t k ds);
        };
        numbered = all-grow old new (lacking_rows x ds) grows (each-filter (IsNumbered old) (λ d. is_zero (coefficient x d.term.parts)) ds f.numbered);
        history = rw h.history f.history;
      };
      grows = grows;
      stage = rw (h.forms, h.history) refl;
      same = λ d. rw (h.forms, h.zero) refl;
    }

-- the term of a row is the same as before
pub still-term : (x : ℕ) (old new : Stage) (ds : List Entry) (n : ℕ) → HasLeft x old new ds → term_of new n ≡ term_of old n
still-term x old new ds n h = rw (h.forms, h.zero) refl

pub all-looked : (x : ℕ) (old new : Stage) (ds : List Entry) (i : ℕ) → length ds ≤ i → HasLeft x old new (take i ds) → HasLeft x old new ds
all-looked x old new ds i l h = subst (HasLeft x old new) (take_all i ds l) h
