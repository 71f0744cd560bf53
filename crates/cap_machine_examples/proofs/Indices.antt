-- What is asked of an indexed guard, and what is taken of its indices.
use Rattle.std.proofs.Common.{◌≡◌, ℕ, pos, Bool, true, false, List, [], Option, Some, None, refl, sym, ap, subst, ◌∙◌, arith}
use Rattle.std.specs.Prelude.{◌==◌, if◌then◌else◌, nat_abs}
use Rattle.cap_lin.specs.Linear.{number}
use Rattle.cap_lin.specs.Values.{Valuation}
use Rattle.cap_galg_indices.specs.Sets.{one_index, indices_from, is_within}
use Rattle.cap_galg.specs.Elements.{Element, nothing, indices, is_unit, compose, at_most}
use Rattle.cap_galg.specs.Algebras.{indexed, IsElement}
use Rattle.cap_galg.specs.Laws.Algebras.{at_most-self, at_most-composed, sound-of}
use Rattle.cap_prog.specs.declared.assertion.Slot.TheVariants.{Is}
use Rattle.cap_prog.specs.declared.assertion.Asked.{Asked}
use Rattle.cap_prog.specs.declared.assertion.Asked.TheVariants.{At, From}
use Rattle.cap_machine_accounts.specs.Parts.{Guard, or_none, join, IsGuard, atom_guard, algebra_of}
use Rattle.cap_machine_accounts.specs.Assertions.{IsAsked, TakesGuard}
use Rattle.cap_machine_examples.specs.Latch.{latch_program}
use Rattle.cap_machine_examples.specs.Holding.{guard_with}
use Rattle.cap_machine_examples.proofs.Example.{none-some, some-same}
use Rattle.cap_machine_examples.proofs.Values.{value-number}

-- the index that is asked for, and the first of those that are
pub asked-index :
    (v : Valuation) (n : ℕ) (x : Element) → IsAsked v (At (Is (number (pos n)))) x →
    x ≡ indices (one_index n)
asked-index v n x a =
    a.2 ∙ ap (λ i. indices (one_index i)) (ap nat_abs (sym a.1 ∙ value-number v.whole (pos n)))

pub asked-first :
    (v : Valuation) (n : ℕ) (x : Element) → IsAsked v (From (Is (number (pos n)))) x →
    x ≡ indices (indices_from n)
asked-first v n x a =
    a.2 ∙ ap (λ i. indices (indices_from i)) (ap nat_abs (sym a.1 ∙ value-number v.whole (pos n)))

pub one-bounded : (n : ℕ) → IsElement indexed (indices (one_index n))
one-bounded n = ((omega arith, (omega arith, tt)), refl)

pub first-bounded : (n : ℕ) → IsElement indexed (indices (indices_from n))
first-bounded n = ((omega arith, tt), refl)

abbrev element_in : Option (Option Guard) → Element
element_in (Some (Some g)) = g.element
element_in _ = nothing

-- what a guard with some indices is composed of is at most these
joined-within :
    (asked : Asked) (xs held : List ℕ) (rest : Option Guard) →
    IsElement indexed (indices xs) → IsGuard (latch_program indexed asked []) rest →
    join (guard_with (indices xs)) rest ≡ Some (guard_with (indices held)) →
    is_within xs held ≡ true
joined-within asked xs held None i j e =
    subst (λ y. at_most (indices xs) y ≡ true) (ap element_in e) (at_most-self (indices xs))
joined-within asked xs held (Some g) i j e = of-kind (0 == g.kind) e
  where
    of-element :
        (y : Element) (b : Bool) →
        Some (if b then None else Some (record { kind = 0; element = y }))
        ≡ Some (guard_with (indices held)) →
        y ≡ indices held
    of-element y true e = absurd (none-some (some-same _ _ e))
    of-element y false e = ap element_in e

    of-both :
        (o : Option Element) → compose (indices xs) g.element ≡ o →
        or_none 0 o ≡ Some (guard_with (indices held)) → is_within xs held ≡ true
    of-both None c e = absurd (none-some e)
    of-both (Some y) c e =
        subst (λ y. at_most (indices xs) y ≡ true) (of-element y (is_unit y) e)
        (at_most-composed (indices xs) g.element y i
        (sound-of (algebra_of (latch_program indexed asked []) g.kind) g.element j.0) c)

    of-kind :
        (b : Bool) →
        (if b then or_none 0 (compose (indices xs) g.element) else None)
        ≡ Some (guard_with (indices held)) →
        is_within xs held ≡ true
    of-kind true e = of-both _ refl e
    of-kind false e = absurd (none-some e)

-- what is taken of some indices is among them
pub taken-within :
    (asked : Asked) (v : Valuation) (a : Asked) (xs held : List ℕ) (rest : Option Guard) →
    (t : TakesGuard (latch_program indexed asked []) v 0 0 a (guard_with (indices held)) rest) →
    t.element ≡ indices xs → IsElement indexed (indices xs) → is_within xs held ≡ true
taken-within asked v a xs held rest t e i =
    joined-within asked xs held rest i t.rest_guard
    (ap (λ x. join (atom_guard (latch_program indexed asked []) 0 0 x) rest) (sym e) ∙ t.joined)
