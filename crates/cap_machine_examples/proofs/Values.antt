-- Values of small terms, numbers that differ, and small maps.
use Rattle.std.proofs.Common.{◌≡◌, ℕ, zero, suc, ℤ, pos, ◌<ℤ◌, List, [], ◌∷◌, Option, Some, None, refl, sym, ap, subst, ◌∙◌, arith}
use Rattle.std.specs.Prelude.{slice_get, nat_abs}
use Rattle.std.specs.FinMap.{get, insert, empty}
use Rattle.std.proofs.lemmas.Int.{ints}
use Rattle.cap_lin.specs.Linear.{Linear, number, variable}
use Rattle.cap_lin.specs.Values.{RationalValuation, Valuation, number_at, parts_value, value}
use Rattle.cap_prog.specs.declared.assertion.Slot.TheVariants.{Is}
use Rattle.cap_machine_accounts.specs.Parts.{Part}
use Rattle.cap_machine_accounts.specs.Assertions.{IsOwned}
use Rattle.cap_machine_examples.specs.Validity.{cell_at}
use Rattle.cap_machine_examples.proofs.Example.{none-some, some-same, get-nothing, get-alone}

abbrev pub no_fractions : RationalValuation
no_fractions = record { numerator = λ x. pos 0; under = 0 }

-- the names have these numbers, and all others 0
abbrev pub numbers : List ℤ → Valuation
numbers zs = record { whole = number_at zs; fraction = no_fractions }

pub value-number : (w : ℕ → ℤ) (k : ℤ) → value w (number k) ≡ k
unfolding value parts_value
value-number w k = omega (arith, ints)

pub value-variable : (w : ℕ → ℤ) (x : ℕ) → value w (variable x) ≡ w x
unfolding value parts_value
value-variable w x = omega (arith, ints)

pub apart : (m n : ℕ) → (m ≡ n → ⊥) → pos m ≡ pos n → ⊥
apart m n differ e = differ (ap nat_abs e)

-- the only member of a list
pub one-there : {A : Type 0} (x : A) (n : ℕ) (y : A) → slice_get (x ∷ []) n ≡ Some y → x ≡ y
one-there x zero y e = some-same x y e
one-there x (suc n) y e = absurd (none-some e)

-- the cell is there, and no other
pub its-value : (a y z : ℤ) → get (cell_at a y).cells a ≡ Some y → get (cell_at a y).cells a ≡ Some z → y ≡ z
its-value a y z e f = some-same y z (sym e ∙ f)

-- a part has the cell where it holds the value
pub owns :
    (v : Valuation) (q : Part) (t c : Linear) (a z : ℤ) → value v.whole t ≡ a →
    value v.whole c ≡ z → pos 0 <ℤ a → get q.cells a ≡ Some z → IsOwned v t (Is c) q
owns v q t c a z et ec l e = record {
  number = z;
  positive = subst (λ x. pos 0 <ℤ x) (sym et) l;
  is_cell = ap (get q.cells) et ∙ e;
  content_is = ec;
}

pub owned-is :
    (v : Valuation) (q : Part) (t c : Linear) (a z : ℤ) → value v.whole t ≡ a →
    value v.whole c ≡ z → IsOwned v t (Is c) q → get q.cells a ≡ Some z
owned-is v q t c a z et ec o =
    sym (ap (get q.cells) et) ∙ (o.is_cell ∙ ap Some (sym o.content_is ∙ ec))
