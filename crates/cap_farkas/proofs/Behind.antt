-- The row behind the rows, and what stands past them.
use Rattle.std.proofs.Common.{◌≡◌, ℕ, zero, suc, pos, List, [], ◌∷◌, ◌++◌, ◌+◌, ◌≤◌, length, arith, refl, subst, sym, Option, Some, None}
use Rattle.cap_lin.specs.Linear.{Linear, IsLeastFrom}
use Rattle.cap_lin.specs.declared.row.Row.{Row}
use Rattle.cap_lin.specs.declared.row.Sort.{Sort}
use Rattle.cap_lin.proofs.Places.{coefficient-nil}
use Rattle.cap_farkas.specs.Farkas.{no_row, row_at}
use Rattle.cap_farkas.specs.System.{part_of, side_row, appended_row, all_rows}
use Rattle.cap_farkas.specs.declared.system.Side.{Side}
use Rattle.cap_farkas.specs.declared.system.Appended.{Appended}
use Rattle.cap_farkas.specs.declared.system.Column.{Column}
use Rattle.cap_farkas.specs.declared.system.Column.TheVariants.{Constant, Of}
use Rattle.cap_farkas.proofs.Sides.{side-zero, side-nonzero}

row-past : (rows : List Row) (i : ℕ) → length rows ≤ i → row_at rows i ≡ no_row
row-past [] i h = refl
row-past (r ∷ rs) zero h = absurd (omega arith)
row-past (r ∷ rs) (suc i) h = row-past rs i (omega arith)

length-push : (rows : List Row) (r : Row) → length (rows ++ r ∷ []) ≡ length rows + 1
length-push [] r = omega arith
length-push (x ∷ xs) r = let ih = length-push xs r in omega arith

row-last : (rows : List Row) (r : Row) (i : ℕ) → i ≡ length rows → row_at (rows ++ r ∷ []) i ≡ r
row-last [] r zero e = refl
row-last [] r (suc i) e = absurd (omega arith)
row-last (x ∷ xs) r zero e = absurd (omega arith)
row-last (x ∷ xs) r (suc i) e = row-last xs r i (omega arith)

past-none : (rows : List Row) (o : Option Appended) (i : ℕ) → o ≡ None → length rows ≤ i → row_at (all_rows rows o) i ≡ no_row
past-none rows o i e h = rw e (row-past rows i h)

past-some : (rows : List Row) (o : Option Appended) (a : Appended) (i : ℕ) → o ≡ Some a → length rows ≤ i → (i ≡ length rows → ⊥) → row_at (all_rows rows o) i ≡ no_row
past-some rows o a i e h n = let l = length-push rows (appended_row rows a) in rw e (row-past (rows ++ appended_row rows a ∷ []) i (omega arith))

no_part-zero : (k : Column) → pos 0 ≡ part_of k no_row.term
no_part-zero Constant = refl
no_part-zero (Of x) = sym (coefficient-nil x)

pub none-part : (k : Column) (rows : List Row) (o : Option Appended) (i : ℕ) → o ≡ None → length rows ≤ i → pos 0 ≡ part_of k (row_at (all_rows rows o) i).term
none-part k rows o i e h = rw (past-none rows o i e h) (no_part-zero k)

pub past-part : (k : Column) (rows : List Row) (o : Option Appended) (a : Appended) (i : ℕ) → o ≡ Some a → length rows ≤ i → (i ≡ length rows → ⊥) → pos 0 ≡ part_of k (row_at (all_rows rows o) i).term
past-part k rows o a i e h n = rw (past-some rows o a i e h n) (no_part-zero k)

pub none-least : (low : ℕ) (rows : List Row) (o : Option Appended) (i : ℕ) → o ≡ None → length rows ≤ i → IsLeastFrom low (row_at (all_rows rows o) i).term.parts None
none-least low rows o i e h = rw (past-none rows o i e h) (λ x l. coefficient-nil x)

pub past-least : (low : ℕ) (rows : List Row) (o : Option Appended) (a : Appended) (i : ℕ) → o ≡ Some a → length rows ≤ i → (i ≡ length rows → ⊥) → IsLeastFrom low (row_at (all_rows rows o) i).term.parts None
past-least low rows o a i e h n = rw (past-some rows o a i e h n) (λ x l. coefficient-nil x)

side-least : (low : ℕ) (d : Side) (s : Sort) (t : Linear) (o : Option ℕ) → IsLeastFrom low t.parts o → IsLeastFrom low (side_row d s t).term.parts o
side-least low d s t None l = λ x h. side-zero d x s t (l x h)
side-least low d s t (Some y) l = (l.0, side-nonzero d y s t l.1, λ x h g. side-zero d x s t (l.2 x h g))

pub appended-least : (low : ℕ) (rows : List Row) (o : Option Appended) (a : Appended) (i : ℕ) (r : Row) (y : Option ℕ) → o ≡ Some a → i ≡ length rows → r ≡ row_at rows a.place → IsLeastFrom low r.term.parts y → IsLeastFrom low (row_at (all_rows rows o) i).term.parts y
appended-least low rows o a i r y e h d l =
    let m : IsLeastFrom low (row_at rows a.place).term.parts y = subst (λ (x : Row). IsLeastFrom low x.term.parts y) d l in
    rw (e, row-last rows (appended_row rows a) i h) (side-least low a.side (row_at rows a.place).sort (row_at rows a.place).term y m)
