-- What stays true of a stage when a row is counted, marked or noted.
use Rattle.std.proofs.Common.{◌≡◌, ℕ, ◌+◌, ◌<◌, ◌≤◌, List, [], ◌∷◌, ◌++◌, length, get_or, arith, refl, subst, sym, ap, ◌∙◌, inl, inr, Bool, true, false, length-append}
use Rattle.std.proofs.Math.ListN.{get_or-append}
use Rattle.std.proofs.Math.Seq.{get_or-append_seam}
use Rattle.std.specs.Prelude.{◌||◌}
use Rattle.cap_lin.specs.Linear.{Linear}
use Rattle.cap_lin.specs.declared.row.Kind.{Kind}
use Rattle.cap_fm_spec.specs.Rows.{same_row, has_arisen, is_present}
use Rattle.cap_fm_elimination.specs.Views.{stage_view, entries_view, row_number, AreNumbered, IsMarked, IsOrigin, IsHistory, IsHistoryFrom, IsStageOf, Grows}
use Rattle.cap_fm_elimination.specs.Entries.{Entry}
use Rattle.cap_fm_elimination.specs.declared.entry.Origin.{Origin}
use Rattle.cap_fm_elimination.specs.declared.stage.Stage.{Stage}
use Rattle.cap_fm_elimination.proofs.Marks.{row-is, number-below, arisen-kept, arisen-new, arisen-split}
use Rattle.cap_fm_elimination.proofs.Booleans.{true_or_false}

-- ---- numbered rows

pub all-grow : (s t : Stage) (ds : List Entry) → Grows s t → AreNumbered s ds → AreNumbered t ds
all-grow s t [] g a = tt
all-grow s t (d ∷ ds) g a = (g d a.0, all-grow s t ds g a.1)

pub grows-by : (s t : Stage) → (stage_view t).arisen ≡ (stage_view s).arisen → length s.history.items ≤ length t.history.items → Grows s t
grows-by s t a h d n = record {
  arose = subst (λ A. has_arisen d.term d.kind A ≡ true) (sym a) n.arose;
  number = subst (λ A. row_number d.term d.kind A ≡ d.number) (sym a) n.number;
  origin = let o = n.origin in omega arith;
}

pub grows-then : (s t u : Stage) → Grows s t → Grows t u → Grows s u
grows-then s t u g h d n = h d (g d n)

-- a present row has arisen
pub present-arisen : (s : Stage) (t : Linear) (k : Kind) (ds : List Entry) → AreNumbered s ds → is_present t k (entries_view ds) ≡ true → has_arisen t k (stage_view s).arisen ≡ true
present-arisen s t k [] a h = cc
present-arisen s t k (d ∷ ds) a h = elim (true_or_false (same_row t k d.term d.kind)) [
  | inl e ↦ let q = row-is t k d.term d.kind e in subst (λ u. has_arisen u k (stage_view s).arisen ≡ true) (sym q.0) (subst (λ l. has_arisen d.term l (stage_view s).arisen ≡ true) (sym q.1) a.0.arose)
  | inr e ↦ present-arisen s t k ds a.1 (ap (λ b. b || is_present t k (entries_view ds)) (sym e) ∙ h)
]

-- ---- a stage with the same rows

pub fits-by : (inputs : ℕ) (s t : Stage) (ds : List Entry) → (stage_view t).arisen ≡ (stage_view s).arisen → t.present.items ≡ s.present.items → t.history.items ≡ s.history.items → IsStageOf inputs s ds → IsStageOf inputs t ds
fits-by inputs s t ds a m h f = record {
  marked = record {
    long = ap length m ∙ f.marked.long ∙ sym (ap length a);
    tell = λ u l e. ap (λ z. get_or z (row_number u l (stage_view t).arisen) false) m ∙ ap (λ A. get_or s.present.items (row_number u l A) false) a ∙ f.marked.tell u l (subst (λ A. has_arisen u l A ≡ true) a e);
  };
  numbered = all-grow s t ds (grows-by s t a (subst (λ n. n ≤ length t.history.items) (ap length h) (omega arith))) f.numbered;
  history = subst (IsHistory inputs) (sym h) f.history;
}

-- ---- a stage with one more row that arose

pub grows-new : (s t : Stage) (u : Linear) (l : Kind) → (stage_view t).arisen ≡ (stage_view s).arisen ++ ((u, l) ∷ []) → t.history.items ≡ s.history.items → Grows s t
grows-new s t u l a h d n =
    let k = arisen-kept d.term d.kind (stage_view s).arisen (u, l) n.arose in
    record {
      arose = subst (λ A. has_arisen d.term d.kind A ≡ true) (sym a) k.0;
      number = subst (λ A. row_number d.term d.kind A ≡ d.number) (sym a) (k.1 ∙ n.number);
      origin = subst (λ n. d.origin < n) (sym (ap length h)) n.origin;
    }

present-none : (b : Bool) → (b ≡ true → false ≡ true) → b ≡ false
present-none true f = sym (f refl)
present-none false f = refl

new-mark : (s : Stage) (t u : Linear) (k l : Kind) (ds : List Entry) (marks : List Bool) → AreNumbered s ds → length marks ≡ length (stage_view s).arisen → has_arisen u l (stage_view s).arisen ≡ false → same_row t k u l ≡ true → get_or (marks ++ (false ∷ [])) (row_number t k ((stage_view s).arisen ++ ((u, l) ∷ []))) false ≡ is_present t k (entries_view ds)
new-mark s t u k l ds marks a e n q =
    let r = row-is t k u l q in
    let f : is_present u l (entries_view ds) ≡ false = present-none (is_present u l (entries_view ds)) (λ p. sym n ∙ present-arisen s u l ds a p) in
    let g : row_number u l ((stage_view s).arisen ++ ((u, l) ∷ [])) ≡ length marks = (arisen-new u l (stage_view s).arisen n).1 ∙ sym e in
    rw (r.0, r.1) (ap (λ i. get_or (marks ++ (false ∷ [])) i false) g ∙ get_or-append_seam marks false [] false ∙ sym f)

old-mark : (s : Stage) (t u : Linear) (k l : Kind) (ds : List Entry) → IsMarked s ds → has_arisen t k (stage_view s).arisen ≡ true → get_or (s.present.items ++ (false ∷ [])) (row_number t k ((stage_view s).arisen ++ ((u, l) ∷ []))) false ≡ is_present t k (entries_view ds)
old-mark s t u k l ds m h =
    let b = number-below t k (stage_view s).arisen h in
    let e = m.long in
    ap (λ i. get_or (s.present.items ++ (false ∷ [])) i false) (arisen-kept t k (stage_view s).arisen (u, l) h).1 ∙ get_or-append s.present.items (false ∷ []) false (row_number t k (stage_view s).arisen) (omega arith) ∙ m.tell t k h

pub fits-new : (inputs : ℕ) (s t : Stage) (u : Linear) (l : Kind) (ds : List Entry) → has_arisen u l (stage_view s).arisen ≡ false → (stage_view t).arisen ≡ (stage_view s).arisen ++ ((u, l) ∷ []) → t.present.items ≡ s.present.items ++ (false ∷ []) → t.history.items ≡ s.history.items → IsStageOf inputs s ds → IsStageOf inputs t ds
fits-new inputs s t u l ds n a m h f = record {
  marked = record {
    long = ap length m ∙ length-append s.present.items (false ∷ []) ∙ ap (λ i. i + 1) f.marked.long ∙ sym (length-append (stage_view s).arisen ((u, l) ∷ [])) ∙ sym (ap length a);
    tell = λ v k e.
        ap (λ z. get_or z (row_number v k (stage_view t).arisen) false) m
        ∙ ap (λ A. get_or (s.present.items ++ (false ∷ [])) (row_number v k A) false) a
        ∙ elim (arisen-split v k (stage_view s).arisen (u, l) (subst (λ A. has_arisen v k A ≡ true) a e)) [
          | inl o ↦ old-mark s v u k l ds f.marked o
          | inr q ↦ new-mark s v u k l ds s.present.items f.numbered f.marked.long n q
        ];
  };
  numbered = all-grow s t ds (grows-new s t u l a h) f.numbered;
  history = subst (IsHistory inputs) (sym h) f.history;
}

-- ---- a history with one more origin

pub history-push : (inputs : ℕ) (os : List Origin) (o : Origin) → IsHistory inputs os → IsOrigin inputs (length os) o → IsHistory inputs (os ++ (o ∷ []))
history-push inputs os o h i = by 0 os h (subst (λ n. IsOrigin inputs n o) (omega arith) i)
  where
    by : (place : ℕ) (qs : List Origin) → IsHistoryFrom inputs place qs → IsOrigin inputs (place + length qs) o → IsHistoryFrom inputs place (qs ++ (o ∷ []))
    by place [] h i = (subst (λ n. IsOrigin inputs n o) (omega arith) i, tt)
    by place (q ∷ qs) h i = (h.0, by (place + 1) qs h.1 (subst (λ n. IsOrigin inputs n o) (omega arith) i))
