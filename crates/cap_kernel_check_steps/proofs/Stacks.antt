-- What is owed, as a list whose last one is owed first.
use Rattle.std.proofs.Common.{◌≡◌, ℕ, suc, ◌+◌, ◌<◌, List, [], ◌∷◌, ◌++◌, length, drop, map, reverse, Some, refl, sym, ap, subst, ◌∙◌, arith}
use Rattle.std.specs.List.{AllByRecursion}
use Rattle.std.proofs.lemmas.List.{append-nil, map-append, reverse-append, reverse-reverse}
use Rattle.cap_prog.specs.Program.{PlainProgram}
use Rattle.cap_goal_spec.specs.States.{PlainGoal}
use Rattle.cap_goal_spec.specs.Choices.{PlainChoice}
use Rattle.cap_rules.specs.Valid.{deepest}
use Rattle.cap_rules_fits.specs.Kept.{IsKept}
use Rattle.cap_kernel_check_steps.specs.declared.debt.Debt.{Debt}
use Rattle.cap_kernel_check_steps.specs.Owed.{PlainDebt, owes}
use Rattle.cap_kernel_check_steps.specs.Walks.{Leaves}
use Rattle.cap_kernel_check_steps.specs.Debts.{debt_view, owed_view, DebtsAreKept, LeavesOwed}

map-reversed : {X Y : Type 0} (f : X → Y) (xs : List X) → map f (reverse xs) ≡ reverse (map f xs)
map-reversed f [] = refl
map-reversed f (x ∷ xs) =
    ap (map f) (reverse-append (x ∷ []) xs)
    ∙ (map-append f (reverse xs) (x ∷ [])
    ∙ (ap (λ z. z ++ f x ∷ []) (map-reversed f xs)
    ∙ sym (reverse-append (f x ∷ []) (map f xs))))

pub reversed-view : (xs : List Debt) → owed_view (reverse xs) ≡ map debt_view xs
reversed-view xs = ap reverse (map-reversed debt_view xs) ∙ reverse-reverse (map debt_view xs)

pub kept-join : (p : PlainProgram) (xs ys : List PlainDebt) → DebtsAreKept p xs → DebtsAreKept p ys → DebtsAreKept p (xs ++ ys)
kept-join p [] ys a b = b
kept-join p (x ∷ xs) ys a b = (a.0, kept-join p xs ys a.1 b)

pub kept-behind : (p : PlainProgram) (ds : List PlainDebt) → DebtsAreKept p ds → DebtsAreKept p (drop 1 ds)
kept-behind p [] h = tt
kept-behind p (d ∷ ds) h = h.1

pub none-left : {X : Type 0} (xs : List X) (n : ℕ) → n ≡ length xs → n ≡ 0 → xs ≡ []
none-left [] n e z = refl
none-left (x ∷ xs) n e z = absurd (omega (arith, e, z))

pub owed-all : (done stack : List Debt) (more all : List PlainDebt) → stack ≡ reverse done → more ≡ [] → map debt_view done ++ more ≡ all → owed_view stack ≡ all
owed-all done stack more all e n h =
    ap owed_view e ∙ (reversed-view done ∙ (sym (append-nil (map debt_view done)) ∙ (ap (λ z. map debt_view done ++ z) (sym n) ∙ h)))

-- ---- what a choice leaves

plus-one : (n : ℕ) → n + 1 ≡ suc n
plus-one n = omega arith

pub leaves-owed : (p : PlainProgram) (n : ℕ) (g : PlainGoal) (c : PlainChoice) (gs : List PlainGoal) (ds : List PlainDebt) → n < deepest → Leaves p g c (Some gs) → ds ≡ map (owes (n + 1)) gs → LeavesOwed p (owes n g) c (Some ds)
leaves-owed p n g c gs ds low l e = (gs, (low, l), e ∙ ap (λ m. map (owes m) gs) (plus-one n))

owes-kept : (p : PlainProgram) (n : ℕ) (gs : List PlainGoal) → AllByRecursion (IsKept p) gs → DebtsAreKept p (map (owes n) gs)
owes-kept p n [] h = tt
owes-kept p n (g ∷ gs) h = (h.0, owes-kept p n gs h.1)

pub left-kept : (p : PlainProgram) (n : ℕ) (gs : List PlainGoal) (ds : List PlainDebt) → AllByRecursion (IsKept p) gs → ds ≡ map (owes n) gs → DebtsAreKept p ds
left-kept p n gs ds h e = subst (DebtsAreKept p) (sym e) (owes-kept p n gs h)
