-- A term's value by its sort: products and partial sums, each within 128 bits.
use Rattle.std.specs.Prelude.{ℕ, List, [], ◌∷◌, ℤ, ◌+ℤ◌, ◌*ℤ◌}
use Rattle.cap_lin.specs.Steps.{sum_of, product_of, value_steps}
use Rattle.cap_lin.specs.Values.{parts_value}
use Rattle.cap_lin.specs.declared.row.Sort.{Sort}
use Rattle.cap_lin.specs.declared.row.Sort.TheVariants.{Int, Perm}
use Rattle.cap_machine_accounts.specs.Assertions.{NameValue}
use Rattle.cap_owners_spec.specs.Traced.{Traced, computed, number_of, numerator_of, value_at}

-- a whole number, or the numerator of a share
abbrev pub number_of_sort : Sort → NameValue → ℤ
number_of_sort Int v = number_of v
number_of_sort Perm v = numerator_of v

abbrev pub numbers_by : Sort → List NameValue → ℕ → ℤ
numbers_by s vs x = number_of_sort s (value_at vs x)

abbrev pub product_by : ℤ → ℤ → Traced ℤ
product_by z k = computed (k *ℤ z) (product_of k z ∷ [])

abbrev pub sum_by : ℤ → ℤ → Traced ℤ
sum_by z sum = computed (sum +ℤ z) (sum_of sum z ∷ [])

-- a sum, to which the products of parts are added
abbrev pub total_by : (ℕ → ℤ) → ℤ → List (ℕ × ℤ) → Traced ℤ
total_by n sum parts = computed (sum +ℤ parts_value n parts) (value_steps n sum parts)

abbrev pub total_from : Sort → List NameValue → ℤ → List (ℕ × ℤ) → Traced ℤ
total_from s vs sum parts = total_by (numbers_by s vs) sum parts
