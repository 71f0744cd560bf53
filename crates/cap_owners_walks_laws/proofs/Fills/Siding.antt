-- Of a conditional item the side that is drawn is the one that a walk picks.
use Rattle.std.proofs.Common.{◌≡◌, ◌⊎◌, inl, inr, ℤ, pos, ◌*ℤ◌, Bool, true, false, List, ◌∷◌, refl}
use Rattle.cap_lin.specs.Linear.{Linear}
use Rattle.cap_lin.specs.Values.{amount}
use Rattle.cap_lin.specs.Steps.{product_of, value_steps}
use Rattle.cap_lin.specs.declared.row.Sort.{Sort}
use Rattle.cap_lin.specs.declared.row.Sort.TheVariants.{Int, Perm}
use Rattle.cap_prog.specs.declared.assertion.Comp.{Comp}
use Rattle.cap_prog.specs.Program.{choose, Items, PlainProgram}
use Rattle.cap_machine.specs.Machine.{compared}
use Rattle.cap_machine_accounts.specs.Assertions.{NameValue, CompHolds}
use Rattle.cap_account_resources.specs.Parts.{Table}
use Rattle.cap_account_resources.proofs.Stocks.{Stock}
use Rattle.cap_account_assertions.proofs.Asserted.{Draws, DrawsAll}
use Rattle.cap_owners_spec.specs.Traced.{Traced, traced, past_width, untold, ◌>>=◌, over, valuation, number_by_sort, holds_by}
use Rattle.cap_owners_walks_laws.proofs.Values.Numbers.{computed-told, side-is}
use Rattle.cap_owners_walks_laws.proofs.Values.More.{number-told}

sort-told : (o : Sort) (vs : List NameValue) (t : Linear) → number_by_sort o vs t ≡ untold → ⊥
sort-told Int vs t e = number-told vs t e
sort-told Perm vs t e =
    computed-told (amount (valuation vs).fraction t)
    (product_of t.constant (pos over)
    ∷ value_steps (valuation vs).fraction.numerator (t.constant *ℤ pos over) t.parts) e

-- whether a comparison holds is a truth value, or a number is too wide
pub holds-told : (vs : List NameValue) (c : Comp) → holds_by vs c ≡ untold → ⊥
holds-told vs c e =
    by (number_by_sort c.sort vs c.left) (number_by_sort c.sort vs c.right) refl refl e
  where
    by :
        (l r : Traced ℤ) → number_by_sort c.sort vs c.left ≡ l →
        number_by_sort c.sort vs c.right ≡ r →
        (l >>= λ x. r >>= λ y. traced (compared c.op x y)) ≡ untold → ⊥
    by (traced x) (traced y) p q e = absurd (cc)
    by (traced x) past_width p q e = absurd (cc)
    by (traced x) untold p q e = sort-told c.sort vs c.right q
    by past_width r p q e = absurd (cc)
    by untold r p q e = sort-told c.sort vs c.left p

abbrev pub is_first : {A B : Type 0} → A ⊎ B → Bool
is_first (inl x) = true
is_first (inr y) = false

-- the comparison holds just where the first side is drawn
pub side-picked :
    (p : PlainProgram) (T : Table) (names : List NameValue) (c : Comp) (x y : Items) (q r : Stock)
    (d : Draws p T (valuation names) (choose c x y) q r) →
    (holds_by names c ≡ past_width) ⊎ (holds_by names c ≡ traced (is_first d))
side-picked p T names c x y q r d = by (holds_by names c) refl d
  where
    by :
        (o : Traced Bool) → holds_by names c ≡ o →
        (d : (CompHolds (valuation names) c × DrawsAll p T (valuation names) x q r)
        ⊎ ((¬ CompHolds (valuation names) c) × DrawsAll p T (valuation names) y q r)) →
        (holds_by names c ≡ past_width) ⊎ (holds_by names c ≡ traced (is_first d))
    by past_width e d = inl e
    by untold e d = absurd (holds-told names c e)
    by (traced true) e (inl h) = inr e
    by (traced true) e (inr h) = absurd (h.0 (side-is names c true e))
    by (traced false) e (inl h) = absurd (side-is names c false e h.0)
    by (traced false) e (inr h) = inr e
