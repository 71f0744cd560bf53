-- What a part of a step comes to along a derivation, and the numbers on the way.
use Rattle.std.specs.Prelude.{ℕ, Bool, ◌-◌, ◌^◌, ◌/◌, ◌%◌, ◌==◌, ℤ, pos, negsuc, ◌*ℤ◌, List, [], ◌∷◌, get_or, if◌then◌else◌, Option, Some, None}
use Rattle.cap_rules.specs.cap_goal_spec.cap_lin.Linear.{Linear}
use Rattle.cap_rules.specs.cap_goal_spec.cap_lin.Values.{Valuation, value, amount}
use Rattle.cap_rules.specs.cap_goal_spec.cap_lin.Steps.{Step, product_of, value_steps}
use Rattle.cap_rules.specs.cap_goal_spec.cap_prog.declared.assertion.Comp.{Comp}
use Rattle.cap_rules.specs.cap_goal_spec.cap_lin.declared.row.Sort.{Sort}
use Rattle.cap_rules.specs.cap_goal_spec.cap_lin.declared.row.Sort.TheVariants.{Int, Perm}
use Rattle.cap_machine.specs.Machine.{compared}
use Rattle.cap_machine.specs.Results.{are_narrow}
use Rattle.cap_machine_accounts.specs.Assertions.{NameValue, a_number, a_fraction}

-- ---- what a part of a step comes to

-- something, or a number leaves its bounds, or the derivation doesn't tell of the step
pub data Traced (A : Type 0) : Type 0 where
  traced : A → Traced A
  past_width : Traced A
  untold : Traced A

-- one part after another
infixl 20 ◌>>=◌
abbrev pub ◌>>=◌ : {A B : Type 0} → Traced A → (A → Traced B) → Traced B
◌>>=◌ (traced x) f = f x
◌>>=◌ past_width f = past_width
◌>>=◌ untold f = untold

abbrev pub found : {A : Type 0} → Option A → Traced A
found None = untold
found (Some x) = traced x

abbrev pub each : {A B : Type 0} → (A → Traced B) → List A → Traced (List B)
each f [] = traced []
each f (x ∷ xs) = do
  y ← f x
  ys ← each f xs
  traced (y ∷ ys)

-- a number, whose products and sums on the way stay within 128 bits
abbrev pub computed : ℤ → List Step → Traced ℤ
computed z steps = if are_narrow steps then traced z else past_width

-- ---- values

-- all shares of a track are over one denominator: the amounts are halves of halves of the whole
abbrev pub over : ℕ
over = 2 ^ 63

abbrev pub a_share : ℤ → NameValue
a_share n = a_fraction n (over - 1)

-- the value of a variable, or of a name, by its number
abbrev pub value_at : List NameValue → ℕ → NameValue
value_at vs x = get_or vs x (a_number (pos 0))

abbrev pub number_of : NameValue → ℤ
number_of (a_number z) = z
number_of (a_fraction n d) = pos 0

abbrev pub numerator_of : NameValue → ℤ
numerator_of (a_number z) = z *ℤ pos over
numerator_of (a_fraction n d) = n

abbrev pub valuation : List NameValue → Valuation
valuation vs = record {
  whole = λ x. number_of (value_at vs x);
  fraction = record { numerator = λ x. numerator_of (value_at vs x); under = over - 1 };
}

-- a term of sort Int
abbrev pub number_in : List NameValue → Linear → Traced ℤ
number_in vs t =
    computed (value (valuation vs).whole t) (value_steps (valuation vs).whole t.constant t.parts)

-- a term of sort Perm, as a numerator
abbrev pub amount_in : List NameValue → Linear → Traced ℤ
amount_in vs t =
    computed (amount (valuation vs).fraction t)
    (product_of t.constant (pos over)
    ∷ value_steps (valuation vs).fraction.numerator (t.constant *ℤ pos over) t.parts)

abbrev pub number_by_sort : Sort → List NameValue → Linear → Traced ℤ
number_by_sort Int vs t = number_in vs t
number_by_sort Perm vs t = amount_in vs t

-- whether a comparison holds
abbrev pub holds_by : List NameValue → Comp → Traced Bool
holds_by vs c = do
  l ← number_by_sort c.sort vs c.left
  r ← number_by_sort c.sort vs c.right
  traced (compared c.op l r)

-- half of a share, if it can be halved over the one denominator
abbrev pub half_of : ℤ → Traced ℤ
half_of (pos n) = if n % 2 == 0 then traced (pos (n / 2)) else past_width
half_of (negsuc n) = untold
