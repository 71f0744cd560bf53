-- The terms that a stage has of the rows that are present: they stay as they are when the stage grows.
use Rattle.std.proofs.Common.{◌≡◌, ℕ, ◌+◌, ◌<◌, ◌≤◌, suc, subst, List, [], ◌∷◌, ◌++◌, length, map, take, drop, get_or, arith, refl, sym, ap, ◌∙◌, inl, inr, true}
use Rattle.std.specs.List.{remove}
use Rattle.std.proofs.lemmas.List.{map-append, length-map, get_or-map, take-map, drop-map}
use Rattle.cap_lin.specs.Linear.{Linear}
use Rattle.cap_lin.specs.declared.row.Kind.{Kind}
use Rattle.cap_lin.specs.declared.row.Kind.TheVariants.{Le}
use Rattle.cap_fm_spec.specs.Rows.{same_row, has_arisen}
use Rattle.cap_fm_elimination.specs.Entries.{Entry}
use Rattle.cap_fm_elimination.specs.Views.{stage_view, row_number, term_of, entry_of, entries_of, IsNumbered, AreNumbered, Grows}
use Rattle.cap_fm_elimination.specs.declared.entry.Present.{Present}
use Rattle.cap_fm_elimination.specs.declared.stage.Stage.{Stage}
use Rattle.cap_fm_elimination.proofs.Marks.{row-is, number-first, number-later}
use Rattle.cap_fm_elimination.proofs.Booleans.{true_or_false, or-later}
use Rattle.cap_fm_elimination.proofs.Stages.{all-grow}

-- the term under the number of a row that arose
term-at : (t : Linear) (k : Kind) (rows : List (Linear × Kind)) (z : Linear) → has_arisen t k rows ≡ true → get_or (map (λ (r : Linear × Kind). r.0) rows) (row_number t k rows) z ≡ t
term-at t k [] z h = cc
term-at t k (r ∷ rows) z h = elim (true_or_false (same_row t k r.0 r.1)) [
  | inl e ↦ ap (λ n. get_or (map (λ (q : Linear × Kind). q.0) (r ∷ rows)) n z) (number-first t k r rows e) ∙ sym (row-is t k r.0 r.1 e).0
  | inr e ↦
      let n : 1 + row_number t k rows ≡ suc (row_number t k rows) = omega arith in
      ap (λ n. get_or (map (λ (q : Linear × Kind). q.0) (r ∷ rows)) n z) (number-later t k r rows e ∙ n) ∙ term-at t k rows z (or-later _ _ e h)
]

entry-by : (t : Linear) (d : Present) (u : Linear) → u ≡ t → ◌≡◌ {A = Entry} (record { term = u; kind = d.kind; origin = d.origin; number = d.number }) (record { term = t; kind = d.kind; origin = d.origin; number = d.number })
entry-by t d u e = rw e refl

pub entry-is : (s : Stage) (t : Linear) (d : Present) → has_arisen t d.kind (stage_view s).arisen ≡ true → row_number t d.kind (stage_view s).arisen ≡ d.number → entry_of s d ≡ record { term = t; kind = d.kind; origin = d.origin; number = d.number }
entry-is s t d a n = entry-by t d (term_of s d.number) (ap (term_of s) (sym n) ∙ term-at t d.kind s.forms.keys s.zero a)

-- the same, where only marks and the history have changed
pub kept-entry : (s z : Stage) (t : Linear) (d : Present) → z.forms.keys ≡ s.forms.keys → has_arisen t d.kind (stage_view s).arisen ≡ true → row_number t d.kind (stage_view s).arisen ≡ d.number → entry_of z d ≡ record { term = t; kind = d.kind; origin = d.origin; number = d.number }
kept-entry s z t d k a n = entry-is z t d (rw k a) (rw k n)

-- ---- in a stage that has grown

pub same-entry : (s t : Stage) (d : Present) → IsNumbered t (entry_of s d) → entry_of t d ≡ entry_of s d
same-entry s t d n = entry-is t (term_of s d.number) d n.arose n.number

pub same-term : (s t : Stage) (d : Present) → IsNumbered t (entry_of s d) → term_of t d.number ≡ term_of s d.number
same-term s t d n = ap (λ (e : Entry). e.term) (same-entry s t d n)

pub numbered-now : (s t : Stage) (d : Present) → IsNumbered t (entry_of s d) → IsNumbered t (entry_of t d)
numbered-now s t d n = subst (IsNumbered t) (sym (same-entry s t d n)) n

cons-by : (d e : Entry) (ds es : List Entry) → d ≡ e → ds ≡ es → d ∷ ds ≡ e ∷ es
cons-by d e ds es p q = rw (p, q) refl

pub same-entries : (s t : Stage) (ds : List Present) → AreNumbered t (entries_of s ds) → entries_of t ds ≡ entries_of s ds
same-entries s t [] h = refl
same-entries s t (d ∷ ds) h = cons-by _ _ _ _ (same-entry s t d h.0) (same-entries s t ds h.1)

pub numbered-all : (s t : Stage) (ds : List Present) → AreNumbered t (entries_of s ds) → AreNumbered t (entries_of t ds)
numbered-all s t ds h = subst (AreNumbered t) (sym (same-entries s t ds h)) h

-- the rows of a stage, in one that has grown
pub grown-entries : (s t : Stage) (ds : List Present) → Grows s t → AreNumbered s (entries_of s ds) → entries_of t ds ≡ entries_of s ds
grown-entries s t ds g h = same-entries s t ds (all-grow s t (entries_of s ds) g h)

pub entries-by : (s t : Stage) (ds : List Present) → ((d : Present) → entry_of t d ≡ entry_of s d) → entries_of t ds ≡ entries_of s ds
entries-by s t [] e = refl
entries-by s t (d ∷ ds) e = cons-by _ _ _ _ (e d) (entries-by s t ds e)

-- one more row, which has just arisen
pub entries-more : (s t : Stage) (ds new : List Present) (d : Present) → new ≡ ds ++ (d ∷ []) → Grows s t → AreNumbered s (entries_of s ds) → entries_of t new ≡ entries_of s ds ++ (entry_of t d ∷ [])
entries-more s t ds new d e g h = ap (entries_of t) e ∙ map-append (entry_of t) ds (d ∷ []) ∙ ap (λ es. es ++ (entry_of t d ∷ [])) (grown-entries s t ds g h)

pub entries-then : (s : Stage) (ds : List Present) (d : Present) → entries_of s (ds ++ (d ∷ [])) ≡ entries_of s ds ++ (entry_of s d ∷ [])
entries-then s ds d = map-append (entry_of s) ds (d ∷ [])

-- ---- the row at a place

pub long-of : (s : Stage) (ds : List Present) → length (entries_of s ds) ≡ length ds
long-of s ds = length-map ds (entry_of s)

pub entry-at : (s : Stage) (ds : List Present) (i : ℕ) (d : Present) → i < length ds → d ≡ get_or ds i d → entry_of s d ≡ get_or (entries_of s ds) i (entry_of s d)
entry-at s ds i d l e = ap (entry_of s) e ∙ sym (get_or-map (entry_of s) ds i d (entry_of s d) l)

-- what stands for a row past the end
abbrev pub no_row : Present
no_row = record { kind = Le; origin = 0; number = 0 }

pub entry-in : (s : Stage) (ds : List Present) (i : ℕ) → i < length ds → entry_of s (get_or ds i no_row) ≡ get_or (entries_of s ds) i (entry_of s (get_or ds i no_row))
entry-in s ds i l = sym (get_or-map (entry_of s) ds i no_row (entry_of s (get_or ds i no_row)) l)

pub below-of : (s : Stage) (ds : List Present) (i : ℕ) → i < length ds → i < length (entries_of s ds)
below-of s ds i l = let e = long-of s ds in omega arith

pub past-of : (s : Stage) (ds : List Present) (i : ℕ) → length ds ≤ i → length (entries_of s ds) ≤ i
past-of s ds i l = let e = long-of s ds in omega arith

pub entries-removed : (s : Stage) (ds : List Present) (i : ℕ) → remove (entries_of s ds) i ≡ entries_of s (remove ds i)
entries-removed s ds i = rw (take-map (entry_of s) i ds, drop-map (entry_of s) (suc i) ds) (sym (map-append (entry_of s) (take i ds) (drop (suc i) ds)))
