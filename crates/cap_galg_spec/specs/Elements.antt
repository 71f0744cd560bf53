-- Guard elements and their partial composition. The units of all algebras are one element,
-- `nothing`. A pair isn't two units; a left or right element of a sum is neither unit nor full on
-- its side, as all units of a sum are one element and all fulls are one element.
use Rattle.std.specs.Prelude.{ℕ, ◌+◌, ◌-◌, ◌*◌, ◌^◌, ◌==◌, ◌&&◌, ◌||◌, Bool, true, false, nat_le}
use Rattle.std.specs.Prelude.{if◌then◌else◌, Option, Some, None, List}
use Rattle.cap_galg_indices.specs.Sets.{is_empty, is_full as has_all, is_within, composed}
use Rattle.cap_galg_spec.specs.declared.fraction.Fraction.{Fraction}
use Rattle.cap_galg_spec.specs.Fractions.{crossed, plus}

pub data Element : Type 0 where
  nothing : Element
  one : Element
  share : Fraction → Element
  tok : ℕ → Element
  src : ℕ → Element
  indices : List ℕ → Element
  both : Element → Element → Element
  whole : Element
  left : Element → Element
  right : Element → Element

abbrev pub is_unit : Element → Bool
is_unit nothing = true
is_unit _ = false

abbrev pub is_full : Element → Bool
is_full nothing = false
is_full one = true
is_full (share f) = f.num == f.den
is_full (tok k) = false
is_full (src n) = n == 0
is_full (indices xs) = has_all xs
is_full (both x y) = is_full x && is_full y
is_full whole = true
is_full (left x) = false
is_full (right y) = false

-- the element of a divisible guard with an amount, and of a counting guard with a count of tokens
abbrev pub amount : Fraction → Element
amount f = if f.num == 0 then nothing else share f

abbrev pub tokens : ℕ → Element
tokens k = if k == 0 then nothing else tok k

-- the element of an indexed guard with a set of indices
abbrev pub index_set : List ℕ → Element
index_set xs = if is_empty xs then nothing else indices xs

-- the element of a product with two parts
abbrev pub pair_of : Element → Element → Element
pair_of x y = if is_unit x && is_unit y then nothing else both x y

-- the element of a sum that one of its sides has, where it isn't the unit
abbrev pub on_left : Element → Element
on_left x = if is_full x then whole else left x

abbrev pub on_right : Element → Element
on_right y = if is_full y then whole else right y

-- the element of a sum that one of its sides has
abbrev pub in_left : Element → Element
in_left x = if is_unit x then nothing else on_left x

abbrev pub in_right : Element → Element
in_right y = if is_unit y then nothing else on_right y

abbrev pub bind : {A B : Type 0} → Option A → (A → Option B) → Option B
bind None f = None
bind (Some x) f = f x

abbrev pub compose : Element → Element → Option Element
compose nothing y = Some y
compose x nothing = Some x
compose (share f) (share g) =
    if nat_le (crossed f g) (f.den * g.den) then Some (share (plus f g)) else None
compose (tok j) (tok k) = Some (tok (j + k))
compose (src n) (tok k) = if nat_le k n then Some (src (n - k)) else None
compose (tok k) (src n) = if nat_le k n then Some (src (n - k)) else None
compose (indices xs) (indices ys) = bind (composed xs ys) (λ zs. Some (indices zs))
compose (both a b) (both c d) = bind (compose a c) (λ x. bind (compose b d) (λ y. Some (both x y)))
compose (left x) (left y) = bind (compose x y) (λ z. Some (on_left z))
compose (right x) (right y) = bind (compose x y) (λ z. Some (on_right z))
compose _ _ = None

-- whether, in the composition of two elements, the denominator of a sum in lowest terms, or a
-- count, passes 64 bits
abbrev pub is_wide : Element → Element → Bool
is_wide (share f) (share g) = nat_le (2 ^ 64) (plus f g).den
is_wide (tok j) (tok k) = nat_le (2 ^ 64) (j + k)
is_wide (both a b) (both c d) = is_wide a c || is_wide b d
is_wide (left x) (left y) = is_wide x y
is_wide (right x) (right y) = is_wide x y
is_wide _ _ = false

-- whether some element completes the first to the second
abbrev pub at_most : Element → Element → Bool
at_most nothing y = true
at_most one one = true
at_most (share f) (share g) = nat_le (f.num * g.den) (g.num * f.den)
at_most (tok j) (tok k) = nat_le j k
at_most (tok k) (src n) = true
at_most (src n) (src m) = nat_le m n
at_most (indices xs) (indices ys) = is_within xs ys
at_most (both a b) (both c d) = at_most a c && at_most b d
at_most whole whole = true
at_most (left x) whole = true
at_most (right y) whole = true
at_most (left x) (left y) = at_most x y
at_most (right x) (right y) = at_most x y
at_most _ _ = false
