-- What stands in the place of a piece.
use Rattle.std.proofs.Common.{◌≡◌, ◌+◌, ◌<◌, ◌≤◌, ◌⊎◌, inl, inr, subst, ℕ, zero, suc, List, [], ◌∷◌, ◌++◌, take, drop, length, add-one, Some, None, refl, ap, ◌∙◌, arith}
use Rattle.std.specs.Prelude.{slice_get, slice_set, insert, if◌then◌else◌, IfOk, Result, Ok, Err}
use Rattle.std.specs.Result.{is_ok}
use Rattle.cap_gsolve.specs.declared.piece.Form.{Form}
use Rattle.cap_gsolve.specs.declared.piece.Piece.{Piece}
use Rattle.cap_goal_spec.specs.States.{PlainState}
use Rattle.cap_rules.specs.Attempts.{found}
use Rattle.cap_rules.specs.Taking.{with_form}
use Rattle.cap_rules_steps.specs.Walks.{Makes}
use Rattle.cap_take_guards.specs.declared.cuts.Left.{Left}
use Rattle.cap_take_guards.specs.declared.cuts.Left.TheVariants.{Both}
use Rattle.cap_take_guards.specs.Views.{left_view}
use Rattle.cap_take_guards.specs.Cuts.{with_left}

set-at : {X : Type 0} (xs : List X) (i : ℕ) (y : X) → i < length xs → slice_set xs i y ≡ take i xs ++ (y ∷ drop (suc i) xs)
set-at [] i y h = absurd (omega arith)
set-at (x ∷ xs) zero y h = refl
set-at (x ∷ xs) (suc i) y h = ap (λ ys. x ∷ ys) (set-at xs i y (omega arith))

one-left : (s : PlainState) (j : ℕ) (q : Piece) (f : Form) → j < length s.guards → record s { guards = slice_set s.guards j (with_form q f) } ≡ with_left s j q (f ∷ [])
one-left s j q f h = rw add-one (ap (λ gs. record s { guards = gs }) (set-at s.guards j (with_form q f) h))

pub put-left : {A E : Type 0} (r : Result A E) (s t : PlainState) (j : ℕ) (p q : Piece) (f : Form) → j < length s.guards → p ≡ with_form q f → t ≡ (if is_ok r then record s { guards = slice_set s.guards j p } else s) → IfOk r (λ x. t ≡ with_left s j q (f ∷ []))
put-left (Ok x) s t j p q f h k e = e ∙ (ap (λ y. record s { guards = slice_set s.guards j y }) k ∙ one-left s j q f h)
put-left (Err g) s t j p q f h k e = tt

clash : {A : Type 0} {x : A} → None ≡ Some x → ⊥
clash e = cc

some-within : {X : Type 0} (xs : List X) (i : ℕ) (x : X) → slice_get xs i ≡ Some x → i < length xs
some-within [] i x e = absurd (clash e)
some-within (y ∷ ys) zero x e = omega arith
some-within (y ∷ ys) (suc i) x e =
    let h : i < length ys = some-within ys i x e in
    omega arith

-- a member that is there has a number below the length
pub within : {X : Type 0} (xs : List X) (i : ℕ) (x : X) → Makes (Ok x) (found (slice_get xs i)) → i < length xs
within xs i x m = some-within xs i x (m.ends []).1

-- ---- two forms

insert-at : {X : Type 0} (xs : List X) (i : ℕ) (y z : X) → i < length xs → insert (slice_set xs i y) (suc i) z ≡ take i xs ++ (y ∷ z ∷ drop (suc i) xs)
insert-at [] i y z h = absurd (omega arith)
insert-at (x ∷ xs) zero y z h = first xs z y
  where
    first : {X : Type 0} (xs : List X) (z y : X) → insert (y ∷ xs) 1 z ≡ y ∷ z ∷ xs
    first [] z y = refl
    first (x ∷ xs) z y = refl
insert-at (x ∷ xs) (suc i) y z h = ap (λ ys. x ∷ ys) (insert-at xs i y z (omega arith))

two-left : (s : PlainState) (j : ℕ) (q : Piece) (f g : Form) → j < length s.guards → record s { guards = insert (slice_set s.guards j (with_form q f)) (j + 1) (with_form q g) } ≡ with_left s j q (f ∷ g ∷ [])
two-left s j q f g h = rw add-one (ap (λ gs. record s { guards = gs }) (insert-at s.guards j (with_form q f) (with_form q g) h))

pub set-keeps : {X : Type 0} (xs : List X) (i : ℕ) (y : X) → length (slice_set xs i y) ≡ length xs
set-keeps [] i y = refl
set-keeps (x ∷ xs) zero y = refl
set-keeps (x ∷ xs) (suc i) y = ap suc (set-keeps xs i y)

pub insert-left : {A E : Type 0} (r : Result A E) (s t u : PlainState) (j : ℕ) (p p' q : Piece) (f g : Form) → j < length s.guards → p ≡ with_form q f → p' ≡ with_form q g → t ≡ record s { guards = slice_set s.guards j p } → u ≡ (if is_ok r then record t { guards = insert t.guards (j + 1) p' } else t) → IfOk r (λ x. u ≡ with_left s j q (f ∷ g ∷ []))
insert-left (Ok x) s t u j p p' q f g h k l m e =
    e ∙ (ap (λ (v : PlainState). record v { guards = insert v.guards (j + 1) p' }) m
    ∙ (ap (λ y. record s { guards = insert (slice_set s.guards j y) (j + 1) p' }) k
    ∙ (ap (λ y. record s { guards = insert (slice_set s.guards j (with_form q f)) (j + 1) y }) l ∙ two-left s j q f g h)))
insert-left (Err v) s t u j p p' q f g h k l m e = tt

-- where two forms stay, not at most one does
pub room-for-two : {B : Type 0} (f g : Form) (l : Left) → l ≡ Both f g → (length (left_view l) ≤ 1) ⊎ B → B
room-for-two {B} f g l e h = elim (subst (λ (m : Left). (length (left_view m) ≤ 1) ⊎ B) e h) as (λ _. B) [ inl n ↦ absurd (omega (arith, n)) | inr b ↦ b ]
