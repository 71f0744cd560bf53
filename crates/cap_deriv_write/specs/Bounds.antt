-- The numbers of a line within their bounds, and multipliers other than 0.
use Rattle.std.specs.Prelude.{◌≢◌, ◌<◌, ◌^◌, ℕ, ℤ, pos, List, length, Option, Some, None, FitsSigned, ⊤}
use Rattle.std.specs.List.{AllByRecursion}
use mir.Syntax.{w128}
use Rattle.cap_farkas.specs.declared.cert.Cert.{Cert}
use Rattle.cap_farkas.specs.declared.cert.Cert.TheVariants.{Leaf, Split}
use Rattle.cap_goal_spec.specs.Choices.{PlainChoice, by_absurd, by_clash, by_set, by_alloc, by_assert, by_if, by_loop, by_turn, by_call, by_fork, by_return, by_enter, by_act, by_pick, by_shift, by_settle, by_keep, by_give, by_fact, by_cases, by_cell, by_region, by_guard, by_convert, by_create, by_made, certs_of, PlainTree}
use Rattle.cap_deriv_write.specs.Preorder.{choices_of_roots}

-- ---- numbers and multipliers with a property

abbrev pub CertHas : (ℕ → Type 0) → ((ℕ × ℤ) → Type 0) → Cert → Type 0
CertHas N P (Leaf ps) = AllByRecursion P ps
CertHas N P (Split k ps qs) = N k × AllByRecursion P ps × AllByRecursion P qs

abbrev pub MarkHas : (Cert → Type 0) → Option Cert → Type 0
MarkHas C None = ⊤
MarkHas C (Some c) = C c

abbrev pub ChoiceHas : (ℕ → Type 0) → (Cert → Type 0) → PlainChoice → Type 0
ChoiceHas N C (by_absurd c) = C c
ChoiceHas N C (by_clash i j cs) = N i × N j × AllByRecursion C cs
ChoiceHas N C by_set = ⊤
ChoiceHas N C by_alloc = ⊤
ChoiceHas N C (by_assert cs) = AllByRecursion C cs
ChoiceHas N C by_if = ⊤
ChoiceHas N C by_loop = ⊤
ChoiceHas N C by_turn = ⊤
ChoiceHas N C by_call = ⊤
ChoiceHas N C by_fork = ⊤
ChoiceHas N C by_return = ⊤
ChoiceHas N C (by_enter i cs) = N i × AllByRecursion C cs
ChoiceHas N C (by_act j cs ms) = N j × AllByRecursion C cs × AllByRecursion (MarkHas C) ms
ChoiceHas N C (by_pick o c m) = N o × N c × N m
ChoiceHas N C (by_shift cs spans) = AllByRecursion C cs × AllByRecursion N spans
ChoiceHas N C (by_settle ns cs) = AllByRecursion N ns × AllByRecursion C cs
ChoiceHas N C (by_keep cs) = AllByRecursion C cs
ChoiceHas N C by_give = ⊤
ChoiceHas N C (by_fact cs) = AllByRecursion C cs
ChoiceHas N C by_cases = ⊤
ChoiceHas N C (by_cell j cs) = N j × AllByRecursion C cs
ChoiceHas N C (by_region j cs) = N j × AllByRecursion C cs
ChoiceHas N C (by_guard j way cs) = N j × N way × AllByRecursion C cs
ChoiceHas N C (by_convert n side cs) = N n × N side × AllByRecursion C cs
ChoiceHas N C (by_create c) = N c
ChoiceHas N C (by_made cs) = AllByRecursion C cs

-- ---- within bounds, and other than 0

abbrev pub IsNumber : ℕ → Type 0
IsNumber n = n < 2 ^ 32

abbrev pub IsMultiplier : ℤ → Type 0
IsMultiplier z = FitsSigned w128 z × (z ≢ pos 0)

abbrev pub IsPair : (ℕ × ℤ) → Type 0
IsPair p = IsNumber p.0 × IsMultiplier p.1

abbrev pub IsCert : Cert → Type 0
IsCert = CertHas IsNumber IsPair

abbrev pub IsMark : Option Cert → Type 0
IsMark = MarkHas IsCert

abbrev pub IsChoice : PlainChoice → Type 0
IsChoice = ChoiceHas IsNumber IsCert

abbrev pub ArePairs : List (ℕ × ℤ) → Type 0
ArePairs = AllByRecursion IsPair

abbrev pub AreCerts : List Cert → Type 0
AreCerts = AllByRecursion IsCert

-- ---- within bounds

abbrev pub PairFits : (ℕ × ℤ) → Type 0
PairFits p = IsNumber p.0 × FitsSigned w128 p.1

abbrev pub CertFits : Cert → Type 0
CertFits = CertHas IsNumber PairFits

abbrev pub MarkFits : Option Cert → Type 0
MarkFits = MarkHas CertFits

abbrev pub ChoiceFits : PlainChoice → Type 0
ChoiceFits = ChoiceHas IsNumber CertFits

-- ---- other than 0

abbrev pub HasNoZero : Cert → Type 0
HasNoZero = CertHas (λ k. ⊤) (λ p. p.1 ≢ pos 0)

-- of the certificates of the trees
abbrev pub HaveNoZeros : List (Option PlainTree) → Type 0
HaveNoZeros roots =
    AllByRecursion (λ c. AllByRecursion HasNoZero (certs_of c)) (choices_of_roots roots)

-- the choices of the trees are within bounds, and so is their number
abbrev pub TreesFit : List (Option PlainTree) → Type 0
TreesFit roots =
    AllByRecursion ChoiceFits (choices_of_roots roots) × (length (choices_of_roots roots) < 2 ^ 64)
