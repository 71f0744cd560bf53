-- Where the elimination of variables goes on to rows, a solution of them is one of the rows before, for other numbers.
use Rattle.std.proofs.Common.{◌≡◌, ℕ, zero, suc, ℤ, pos, ◌+◌, ◌≤◌, ◌<◌, List, [], ◌∷◌, arith, refl, sym, ◌∙◌, subst, true, false, ◌⊎◌, inl, inr, Option, Some, None}
use Rattle.std.specs.List.{AllByRecursion}
use Rattle.std.proofs.lemmas.Bool.{cases_lt}
use Rattle.std.proofs.lemmas.Int.{ints}
use Rattle.cap_lin.specs.Linear.{Linear, AscendFrom, is_zero, coefficient, combination}
use Rattle.cap_lin.specs.Values.{RationalValuation}
use Rattle.cap_lin.specs.declared.row.Kind.{Kind}
use Rattle.cap_lin.specs.declared.row.Kind.TheVariants.{Le, Lt, Eq, Ne}
use Rattle.cap_lin.proofs.Places.{coefficient-other, coefficient-nil, tested}
use Rattle.cap_lin.proofs.Combinations.{combination-coefficient, combination-ascends}
use Rattle.cap_fm_spec.specs.Runs.{Entry, Stage, going}
use Rattle.cap_fm_spec.specs.Rows.{are_some, has_parts, of_row}
use Rattle.cap_fm_spec.specs.Elimination.{Pivot, first_pivot, by_equation, while_some, unit_variable, by_units, lacking, uppers, lowers, strictest, combine_all, occurring, by_pivot, by_variable, by_variables, width_of, width}
use Rattle.cap_fm_spec.proofs.Lists.{each-map, each-two, each-any, each-filter, filter-passes}
use Rattle.cap_fm_spec.proofs.Runs.{goes-on}
use Rattle.cap_fm_spec.proofs.Midpoint.{IsOrder}
use Rattle.cap_fm_spec.proofs.Arising.{HoldsEntry, AllHold}
use Rattle.cap_fm_spec.proofs.Equations.{zero-true, going-same, KeptOf, all-kept, replaced-lacks, all-say, solved, equation-holds, others-hold}
use Rattle.cap_fm_spec.proofs.Bounds.{both-lacks, KeptBoth, bounds-kept, OrdersAt, bounds-complete}
use Rattle.cap_fm_spec.proofs.Pivots.{pivot-is, no-pivot, occurring-some, occurring-none, first-present, unit-some}

abbrev pub Solution : List Entry → Type 0
Solution rows = (q : RationalValuation) × AllHold q rows

-- ---- what holds of all rows of an elimination

pub record IsSound (T : Linear → Type 0) (e : Entry) : Type 0 where
  pub term : T e.term
  pub kind : e.kind ≡ Ne → ⊥
  pub parts : has_parts e.term ≡ true

abbrev pub AreSound : (Linear → Type 0) → List Entry → Type 0
AreSound T rows = AllByRecursion (IsSound T) rows

-- it holds of the combinations of terms of which it holds
abbrev pub Combines : (Linear → Type 0) → Type 0
Combines T = (a : ℤ) (s : Linear) (b : ℤ) (t : Linear) → T s → T t → T (combination a s b t)

pub strictest-kind : (k l : Kind) → strictest k l ≡ Ne → ⊥
strictest-kind Lt l e = cc
strictest-kind Le Le e = cc
strictest-kind Le Lt e = cc
strictest-kind Le Eq e = cc
strictest-kind Le Ne e = cc
strictest-kind Eq Le e = cc
strictest-kind Eq Lt e = cc
strictest-kind Eq Eq e = cc
strictest-kind Eq Ne e = cc
strictest-kind Ne Le e = cc
strictest-kind Ne Lt e = cc
strictest-kind Ne Eq e = cc
strictest-kind Ne Ne e = cc

sound-of : (T : Linear → Type 0) → Combines T → (x : ℕ) (equation r : Entry) → IsSound T equation → IsSound T r → KeptOf (IsSound T) x equation r
sound-of T c x equation r e h = (λ z. h, λ i p. record { term = c _ r.term _ equation.term h.term e.term; kind = h.kind; parts = p })

equation-sound : (T : Linear → Type 0) → Combines T → (p : Pivot) (s : Stage) (left : List Entry) → IsSound T p.equation → AreSound T p.others → (by_equation p s).found ≡ going left → AreSound T left
equation-sound T c p s left e h f = all-kept (IsSound T) p.variable p.equation [] p.others s left f tt (each-map _ _ p.others h (λ r k. sound-of T c p.variable p.equation r e k))

bounds-sound : (T : Linear → Type 0) → Combines T → (x : ℕ) (rows : List Entry) (s : Stage) (left : List Entry) → AreSound T rows → (combine_all x (lacking x rows) (uppers x rows) (lowers x rows) s).found ≡ going left → AreSound T left
bounds-sound T c x rows s left h f =
    bounds-kept (IsSound T) x (lacking x rows) (uppers x rows) (lowers x rows) s left f (each-filter _ _ rows h)
    (each-map _ _ (uppers x rows) (each-filter _ _ rows h) (λ p k. each-map _ _ (lowers x rows) (each-filter _ _ rows h) (λ n l. both p n k l)))
  where
    both : (p n : Entry) → IsSound T p → IsSound T n → KeptBoth (IsSound T) x p n
    both p n k l = λ i e. record { term = c _ p.term _ n.term k.term l.term; kind = strictest-kind p.kind n.kind; parts = e }

-- ---- the variable is in no row that is left

abbrev pub Lack : ℕ → List Entry → Type 0
Lack x rows = AllByRecursion (λ r. of_row x r ≡ pos 0) rows

equation-lacks : (p : Pivot) (s : Stage) (left : List Entry) → (by_equation p s).found ≡ going left → Lack p.variable left
equation-lacks p s left f = all-kept _ p.variable p.equation [] p.others s left f tt (each-any _ p.others (λ r. (λ z. z, λ i e. replaced-lacks p.variable p.equation r)))

bounds-lack : (x : ℕ) (rows : List Entry) (s : Stage) (left : List Entry) → (combine_all x (lacking x rows) (uppers x rows) (lowers x rows) s).found ≡ going left → Lack x left
bounds-lack x rows s left f =
    bounds-kept _ x (lacking x rows) (uppers x rows) (lowers x rows) s left f
    (each-map _ _ (lacking x rows) (filter-passes (λ r. is_zero (of_row x r)) rows) (λ r e. zero-true _ e))
    (each-any _ (uppers x rows) (λ p. each-any _ (lowers x rows) (λ n i e. both-lacks x p n)))

-- ---- a solution, back through one variable

equation-solves : (p : Pivot) (rows : List Entry) (s : Stage) (left : List Entry) → ((P : Entry → Type 0) → P p.equation → AllByRecursion P p.others → AllByRecursion P rows) → p.equation.kind ≡ Eq → (of_row p.variable p.equation ≡ pos 0 → ⊥) → (by_equation p s).found ≡ going left → Solution left → Solution rows
equation-solves p rows s left put k z f h =
    let says = all-say h.0 p.variable p.equation [] p.others s left z f h.1 in
    let w = solved h.0 p.variable p.equation in
    (w, put (HoldsEntry w) (equation-holds h.0 p.variable p.equation z k) (others-hold h.0 p.variable p.equation p.others z says.1))

orders : (T : Linear → Type 0) (x : ℕ) (rows : List Entry) → AreSound T rows → first_pivot (occurring x) rows ≡ None → AllByRecursion (OrdersAt x) rows
orders T x rows h e = each-two _ _ _ rows h (no-pivot (occurring x) rows e) (λ r k n z. is_order r.kind k.kind (λ d. z (occurring-none x r.term.parts (n d))))
  where
    is_order : (k : Kind) → (k ≡ Ne → ⊥) → (k ≡ Eq → ⊥) → IsOrder k
    is_order Le a b = tt
    is_order Lt a b = tt
    is_order Eq a b = b refl
    is_order Ne a b = a refl

-- the rows that are left are sound, they lack the variable, and a solution of them is one of the rows
pub record Steps (T : Linear → Type 0) (x : ℕ) (rows left : List Entry) : Type 0 where
  pub sound : AreSound T left
  pub lack : Lack x left
  pub solves : Solution left → Solution rows

pivot-steps : (T : Linear → Type 0) → Combines T → (choice : List (ℕ × ℤ) → Option ℕ) (rows : List Entry) (p : Pivot) (s : Stage) (left : List Entry) → AreSound T rows → first_pivot choice rows ≡ Some p → ((e : Entry) → IsSound T e → choice e.term.parts ≡ Some p.variable → of_row p.variable e ≡ pos 0 → ⊥) → (by_equation p s).found ≡ going left → Steps T p.variable rows left
pivot-steps T c choice rows p s left h e z f =
    let i = pivot-is (IsSound T) choice rows p e in
    let t = i.take h in
    record {
      sound = equation-sound T c p s left t.0 t.1 f;
      lack = equation-lacks p s left f;
      solves = equation-solves p rows s left (λ P. (pivot-is P choice rows p e).put) i.kind (z p.equation t.0 i.variable) f;
    }

pub variable-steps : (T : Linear → Type 0) → Combines T → (x : ℕ) (rows : List Entry) (s : Stage) (left : List Entry) → AreSound T rows → (by_variable x rows s).found ≡ going left → Steps T x rows left
variable-steps T c x rows s left h f = by_choice (first_pivot (occurring x) rows) refl f
  where
    at_variable : (y : ℕ) → x ≡ y → Steps T y rows left → Steps T x rows left
    at_variable y e k = subst (λ z. Steps T z rows left) (sym e) k

    the-variable : (p : Pivot) → first_pivot (occurring x) rows ≡ Some p → x ≡ p.variable
    the-variable p e = (occurring-some x p.variable _ (pivot-is (λ r. Unit {0}) (occurring x) rows p e).variable).0

    occurs : (p : Pivot) (e : Entry) → IsSound T e → occurring x e.term.parts ≡ Some p.variable → of_row p.variable e ≡ pos 0 → ⊥
    occurs p e k d = let o = occurring-some x p.variable e.term.parts d in subst (λ z. of_row z e ≡ pos 0 → ⊥) o.0 o.1

    by_choice : (o : Option Pivot) → first_pivot (occurring x) rows ≡ o → (by_pivot x rows o s).found ≡ going left → Steps T x rows left
    by_choice (Some p) e f = at_variable p.variable (the-variable p e) (pivot-steps T c (occurring x) rows p s left h e (occurs p) f)
    by_choice None e f = record {
      sound = bounds-sound T c x rows s left h f;
      lack = bounds-lack x rows s left f;
      solves = λ k. bounds-complete k.0 x rows s left f (orders T x rows h e) k.1;
    }

-- ---- first by equations that have a variable with the coefficient 1 or -1

abbrev pub Ascends : Linear → Type 0
Ascends t = AscendFrom 0 t.parts

ascends-combine : Combines Ascends
ascends-combine a s b t h k = combination-ascends a s b t h k

-- the rows that are left are sound, and a solution of them is one of the rows
pub record Leads (T : Linear → Type 0) (rows left : List Entry) : Type 0 where
  pub sound : AreSound T left
  pub solves : Solution left → Solution rows

stays-same : (T : Linear → Type 0) (rows left : List Entry) → rows ≡ left → AreSound T rows → Leads T rows left
stays-same T rows left e h = subst (Leads T rows) e (record { sound = h; solves = λ k. k })

pub units-lead : (turns : ℕ) (rows : List Entry) (s : Stage) (left : List Entry) → AreSound Ascends rows → (by_units turns rows s).found ≡ going left → Leads Ascends rows left
unfolding by_units
units-lead zero rows s left h f = stays-same Ascends rows left (going-same rows left f) h
units-lead (suc turns) rows s left h f = by_choice (first_pivot unit_variable rows) refl (λ mid t k e. units-lead turns mid t left k e) f
  where
    occurs : (p : Pivot) (e : Entry) → IsSound Ascends e → unit_variable e.term.parts ≡ Some p.variable → of_row p.variable e ≡ pos 0 → ⊥
    occurs p e k d = (unit-some 0 p.variable e.term.parts k.term d).1

    by_choice : (o : Option Pivot) → first_pivot unit_variable rows ≡ o → ((mid : List Entry) (t : Stage) → AreSound Ascends mid → (by_units turns mid t).found ≡ going left → Leads Ascends mid left) → (while_some o rows (by_units turns) s).found ≡ going left → Leads Ascends rows left
    by_choice None e ih f = stays-same Ascends rows left (going-same rows left f) h
    by_choice (Some p) e ih f =
        let g = goes-on (by_equation p) (by_units turns) s left f in
        let k = pivot-steps Ascends ascends-combine unit_variable rows p s g.value h e (occurs p) g.first in
        let l = ih g.value _ k.sound g.second in
        record { sound = l.sound; solves = λ z. k.solves (l.solves z) }

-- ---- then each variable in its turn

-- a term in ascending order, whose variables are from x on and less than x + n
pub record Within (x n : ℕ) (t : Linear) : Type 0 where
  pub ascends : AscendFrom 0 t.parts
  pub lacks : (y : ℕ) → (y < x) ⊎ (x + n ≤ y) → coefficient y t.parts ≡ pos 0

within-combine : (x n : ℕ) → Combines (Within x n)
within-combine x n a s b t h k = record { ascends = combination-ascends a s b t h.ascends k.ascends; lacks = λ y o. neither y (h.lacks y o) (k.lacks y o) }
  where
    neither : (y : ℕ) → coefficient y s.parts ≡ pos 0 → coefficient y t.parts ≡ pos 0 → coefficient y (combination a s b t).parts ≡ pos 0
    neither y d e = rw (combination-coefficient y a s b t, d, e) (omega (arith, ints))

one-less : (x n : ℕ) (e : Entry) → IsSound (Within x (suc n)) e → of_row x e ≡ pos 0 → IsSound (Within (x + 1) n) e
one-less x n e h z = record { term = record { ascends = h.term.ascends; lacks = λ y o. lacks y o }; kind = h.kind; parts = h.parts }
  where
    lacks : (y : ℕ) → (y < x + 1) ⊎ (x + 1 + n ≤ y) → of_row y e ≡ pos 0
    lacks y (inl l) = elim (tested y x) [ inl d ↦ subst (λ u. of_row u e ≡ pos 0) (sym d) z | inr d ↦ h.term.lacks y (inl (omega arith)) ]
    lacks y (inr g) = h.term.lacks y (inr (omega arith))

-- some variable occurs in a term that has parts
occurs-first : (t : Linear) → AscendFrom 0 t.parts → has_parts t ≡ true → ((y : ℕ) → coefficient y t.parts ≡ pos 0) → ⊥
occurs-first t a e z = by_parts t.parts a e z
  where
    by_parts : (ps : List (ℕ × ℤ)) → AscendFrom 0 ps → are_some ps ≡ true → ((y : ℕ) → coefficient y ps ≡ pos 0) → ⊥
    by_parts [] a e z = clash e
      where
        clash : false ≡ true → ⊥
        clash e = cc
    by_parts (p ∷ ps) a e z = first-present 0 p ps a (z p.0)

no-rows : (x : ℕ) (e : Entry) → IsSound (Within x zero) e → ⊥
no-rows x e h = occurs-first e.term h.term.ascends h.parts (λ y. h.term.lacks y (either y))
  where
    either : (y : ℕ) → (y < x) ⊎ (x + zero ≤ y)
    either y = elim (cases_lt y x) [ inl l ↦ inl l | inr g ↦ inr (omega arith) ]

-- where there are no rows, any valuation solves them
anywhere : RationalValuation
anywhere = record { numerator = λ y. pos 0; under = 0 }

pub variables-solved : (x n : ℕ) (rows : List Entry) (s : Stage) (left : List Entry) → AreSound (Within x n) rows → (by_variables x n rows s).found ≡ going left → Solution rows
unfolding by_variables
variables-solved x zero rows s left h f = (anywhere, each-map _ _ rows h (λ e k. absurd (no-rows x e k)))
variables-solved x (suc n) rows s left h f =
    let g = goes-on (by_variable x rows) (λ others. by_variables (x + 1) n others) s left f in
    let k = variable-steps (Within x (suc n)) (within-combine x (suc n)) x rows s g.value h g.first in
    k.solves (variables-solved (x + 1) n g.value _ left (each-two _ _ _ g.value k.sound k.lack (λ e a b. one-less x n e a b)) g.second)

-- ---- the width

pub absent-above : (y : ℕ) (ps : List (ℕ × ℤ)) → width_of ps ≤ y → coefficient y ps ≡ pos 0
unfolding width_of
absent-above y [] h = coefficient-nil y
absent-above y (p ∷ ps) h = coefficient-other y p ps (λ e. absurd (omega arith)) ∙ absent-above y ps (omega arith)

pub within-width : (m : ℕ) (rows : List Entry) → width rows ≤ m → AreSound Ascends rows → AreSound (Within 0 m) rows
unfolding width
within-width m [] w h = tt
within-width m (r ∷ rows) w h = (record { term = record { ascends = h.0.term; lacks = lacks }; kind = h.0.kind; parts = h.0.parts }, within-width m rows (omega arith) h.1)
  where
    lacks : (y : ℕ) → (y < 0) ⊎ (0 + m ≤ y) → coefficient y r.term.parts ≡ pos 0
    lacks y (inl l) = absurd (omega arith)
    lacks y (inr g) = absent-above y r.term.parts (omega arith)
