-- What contracts see of values, and of what a part of a step comes to.
use Rattle.std.specs.Prelude.{◌≡◌, Result, Ok, Err}
use Rattle.cap_machine_accounts.specs.Assertions.{NameValue, a_number}
use Rattle.cap_owners_spec.specs.Traced.{Traced, traced, past_width, untold, a_share}
use Rattle.cap_owners_values.specs.declared.error.TraceError.{TraceError}
use Rattle.cap_owners_values.specs.declared.error.TraceError.TheVariants.{PastWidth, Untold, OutOfMemory}
use Rattle.cap_owners_values.specs.declared.value.Value.{Value}
use Rattle.cap_owners_values.specs.declared.value.Value.TheVariants.{Number, Share}

abbrev pub value_view : Value → NameValue
value_view (Number z) = a_number z
value_view (Share n) = a_share n

-- a call answers what is defined, seen through a view; want of memory may come in any case
abbrev pub Traces : {A B : Type 0} → Result B TraceError → (B → A) → Traced A → Type 0
Traces (Ok x) view t = t ≡ traced (view x)
Traces (Err PastWidth) view t = t ≡ past_width
Traces (Err Untold) view t = t ≡ untold
Traces (Err OutOfMemory) view t = Unit {0}
