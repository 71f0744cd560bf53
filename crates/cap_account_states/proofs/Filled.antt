-- The values at which a state holds after it was given something: those before, and one for each new
-- variable. They are a function of what is given.
use Rattle.std.proofs.Common.{◌≡◌, ℕ, ◌+◌, ◌<◌, ℤ, pos, ◌*ℤ◌, List, [], ◌∷◌, ◌++◌, length, Option, Some, None, arith, refl, sym, ap, ◌∙◌}
use Rattle.cap_lin.specs.Linear.{Linear, variable}
use Rattle.cap_lin.specs.Values.{Valuation, denominator}
use Rattle.cap_lin.specs.declared.row.Sort.{Sort}
use Rattle.cap_lin.specs.declared.row.Sort.TheVariants.{Int, Perm}
use Rattle.cap_prog.specs.declared.assertion.Comp.{Comp}
use Rattle.cap_prog.specs.declared.assertion.Slot.{Slot}
use Rattle.cap_prog.specs.declared.assertion.Slot.TheVariants.{Any, Is}
use Rattle.cap_goal_spec.specs.States.{PlainEnv, PlainState}
use Rattle.cap_goal_spec.specs.Environments.{term_of, with_name}
use Rattle.cap_rules.specs.Making.{env_at}
use Rattle.cap_account_states.proofs.Scopes.{length-join}
use Rattle.cap_account_states.proofs.Terms.{Agree, agree-same, agree-trans, agree-less}
use Rattle.cap_account_states.proofs.Meets.{with_value, with-agrees}

-- an environment, the number of the next new variable, and the values of all
pub record Filled : Type 0 where
  pub env : PlainEnv
  pub next : ℕ
  pub values : Valuation

-- of a state, in one of its environments
abbrev pub filled_at : ℕ → Valuation → PlainState → Filled
filled_at e v s = record { env = env_at s e; next = length s.sorts; values = v }

-- a new variable of this whole number and this numerator
abbrev pub fill_next : ℤ → ℤ → Filled → Filled
fill_next z y f =
    record { env = f.env; next = f.next + 1; values = with_value f.values f.next z y }

-- the fraction that a name of this sort has
abbrev pub share_for : Sort → ℤ → ℤ → ℤ
share_for Int z y = z
share_for Perm z y = y

-- a name that isn't bound gets a new variable of the value that is given for it
abbrev pub fill_name : Valuation → Sort → ℕ → Option Linear → Filled → Filled
fill_name a o x (Some t) f = f
fill_name a o x None f = record {
  env = with_name f.env x (variable f.next);
  next = f.next + 1;
  values =
      with_value f.values f.next (a.whole x)
      (share_for o (a.whole x *ℤ denominator f.values.fraction) (a.fraction.numerator x));
}

-- the names of a term
abbrev pub fill_parts : Valuation → Sort → List (ℕ × ℤ) → Filled → Filled
fill_parts a o [] f = f
fill_parts a o (p ∷ ps) f = fill_parts a o ps (fill_name a o p.0 (term_of f.env p.0) f)

-- a slot `_` gets a new variable of the value at which it is met
abbrev pub fill_slot : Valuation → Slot → ℤ → Filled → Filled
fill_slot a Any z f = fill_next z (z *ℤ denominator f.values.fraction) f
fill_slot a (Is t) z f = fill_parts a Int t.parts f

abbrev pub fill_slots : Valuation → List Slot → List ℤ → Filled → Filled
fill_slots a [] zs f = f
fill_slots a (x ∷ xs) [] f = f
fill_slots a (x ∷ xs) (z ∷ zs) f = fill_slots a xs zs (fill_slot a x z f)

-- and of an amount `_`, of its numerator
abbrev pub fill_amount : Valuation → Slot → ℤ → Filled → Filled
fill_amount a Any z f = fill_next (pos 0) z f
fill_amount a (Is t) z f = fill_parts a Perm t.parts f

-- the names of both sides of a comparison
abbrev pub fill_sides : Valuation → Comp → Filled → Filled
fill_sides a c f = fill_parts a c.sort c.right.parts (fill_parts a c.sort c.left.parts f)

-- ---- as lists of values

-- from a variable on, these whole numbers and numerators
abbrev pub put_values : Valuation → ℕ → List (ℤ × ℤ) → Valuation
put_values v n [] = v
put_values v n (b ∷ bs) = put_values (with_value v n b.0 b.1) (n + 1) bs

pub put-join :
    (v : Valuation) (n : ℕ) (xs ys : List (ℤ × ℤ)) →
    put_values v n (xs ++ ys) ≡ put_values (put_values v n xs) (n + length xs) ys
put-join v n [] ys = ap (λ m. put_values v m ys) (omega arith)
put-join v n (x ∷ xs) ys =
    put-join (with_value v n x.0 x.1) (n + 1) xs ys
    ∙ ap (λ m. put_values (put_values (with_value v n x.0 x.1) (n + 1) xs) m ys) (omega arith)

-- variables below keep their values
pub put-agrees :
    (v : Valuation) (n : ℕ) (bs : List (ℤ × ℤ)) → Agree (λ x. x < n) v (put_values v n bs)
put-agrees v n [] = agree-same (λ x. x < n) v
put-agrees v n (b ∷ bs) =
    let w = with_value v n b.0 b.1 in
    agree-trans (λ x. x < n) v w (put_values w (n + 1) bs)
    (with-agrees (λ x. x < n) v n b.0 b.1 (λ x l e. omega (arith, l, e)))
    (agree-less (λ x. x < n) (λ x. x < n + 1) w (put_values w (n + 1) bs) (λ x l. omega (arith, l))
    (put-agrees w (n + 1) bs))

-- so many new variables, of these values
pub record Puts (f g : Filled) : Type 0 where
  pub new : List (ℤ × ℤ)
  pub count : g.next ≡ f.next + length new
  pub values : g.values ≡ put_values f.values f.next new

pub puts-none : (f : Filled) → Puts f f
puts-none f = record { new = []; count = omega arith; values = refl }

pub puts-trans : (f g h : Filled) → Puts f g → Puts g h → Puts f h
puts-trans f g h x y =
    let m = length-join x.new y.new in
    let a = x.count in
    let b = y.count in
    record {
      new = x.new ++ y.new;
      count = omega (arith, m, a, b);
      values =
          y.values
          ∙ (λ i. put_values (x.values i) (a i) y.new)
          ∙ sym (put-join f.values f.next x.new y.new);
    }

pub puts-next : (z y : ℤ) (f : Filled) → Puts f (fill_next z y f)
puts-next z y f = record { new = (z, y) ∷ []; count = omega arith; values = refl }

puts-name :
    (a : Valuation) (o : Sort) (x : ℕ) (t : Option Linear) (f : Filled) →
    Puts f (fill_name a o x t f)
puts-name a o x (Some t) f = puts-none f
puts-name a o x None f = record {
  new = (
    a.whole x,
    share_for o (a.whole x *ℤ denominator f.values.fraction) (a.fraction.numerator x),
  ) ∷ [];
  count = omega arith;
  values = refl;
}

pub puts-parts :
    (a : Valuation) (o : Sort) (ps : List (ℕ × ℤ)) (f : Filled) → Puts f (fill_parts a o ps f)
puts-parts a o [] f = puts-none f
puts-parts a o (p ∷ ps) f =
    let g = fill_name a o p.0 (term_of f.env p.0) f in
    puts-trans f g (fill_parts a o ps g) (puts-name a o p.0 (term_of f.env p.0) f)
    (puts-parts a o ps g)

pub puts-slot : (a : Valuation) (x : Slot) (z : ℤ) (f : Filled) → Puts f (fill_slot a x z f)
puts-slot a Any z f = puts-next z (z *ℤ denominator f.values.fraction) f
puts-slot a (Is t) z f = puts-parts a Int t.parts f

pub puts-slots :
    (a : Valuation) (xs : List Slot) (zs : List ℤ) (f : Filled) → Puts f (fill_slots a xs zs f)
puts-slots a [] zs f = puts-none f
puts-slots a (x ∷ xs) [] f = puts-none f
puts-slots a (x ∷ xs) (z ∷ zs) f =
    let g = fill_slot a x z f in
    puts-trans f g (fill_slots a xs zs g) (puts-slot a x z f) (puts-slots a xs zs g)

pub puts-amount : (a : Valuation) (x : Slot) (z : ℤ) (f : Filled) → Puts f (fill_amount a x z f)
puts-amount a Any z f = puts-next (pos 0) z f
puts-amount a (Is t) z f = puts-parts a Perm t.parts f

pub puts-sides : (a : Valuation) (c : Comp) (f : Filled) → Puts f (fill_sides a c f)
puts-sides a c f =
    let g = fill_parts a c.sort c.left.parts f in
    puts-trans f g (fill_sides a c f) (puts-parts a c.sort c.left.parts f)
    (puts-parts a c.sort c.right.parts g)
