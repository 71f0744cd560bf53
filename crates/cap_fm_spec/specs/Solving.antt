-- What elimination finds of rows: a certificate, if there is one, and all events on the way.
use Rattle.std.specs.Prelude.{ℕ, ◌+◌, List, [], ◌∷◌, ◌++◌, ℤ, Option, Some, None, option_map}
use Rattle.std.specs.List.{AllByRecursion}
use Rattle.cap_lin.specs.Linear.{Linear, AscendFrom}
use Rattle.cap_lin.specs.Rows.{below_zero, below_zero_steps, above_zero, above_zero_steps}
use Rattle.cap_lin.specs.Steps.{Step}
use Rattle.cap_lin.specs.declared.row.Row.{Row}
use Rattle.cap_lin.specs.declared.row.Sort.{Sort}
use Rattle.cap_lin.specs.declared.row.Kind.{Kind}
use Rattle.cap_lin.specs.declared.row.Kind.TheVariants.{Ne}
use Rattle.cap_farkas.specs.declared.cert.Cert.{Cert}
use Rattle.cap_farkas.specs.declared.cert.Cert.TheVariants as cert
use Rattle.cap_fm_spec.specs.Events.{Event, made_all}
use Rattle.cap_fm_spec.specs.Runs.{Stage, at_first, Found, going, contradiction, Run}
use Rattle.cap_fm_spec.specs.Elimination.{eliminated}
use Rattle.cap_fm_spec.specs.Leaf.{leaf, leaf_steps}

-- the parts of each row's term ascend
abbrev pub RowsAscend : List Row → Type 0
RowsAscend rows = AllByRecursion (λ r. AscendFrom 0 r.term.parts) rows

-- a value, and the events on the way to it
pub record Logged (A : Type 0) : Type 0 where
  pub events : List Event
  pub value : A

abbrev pub logged : {A : Type 0} → List Event → A → Logged A
logged es x = record { events = es; value = x }

abbrev pub after : {A : Type 0} → List Event → Logged A → Logged A
after es l = logged (es ++ l.events) l.value

abbrev pub leaf_found : {A : Type 0} → List Row → List Event → Stage → Found A
    → Logged (Option (List (ℕ × ℤ)))
leaf_found rows es s (going x) = logged es None
leaf_found rows es s (contradiction e) =
    logged (es ++ made_all (leaf_steps rows s.history e)) (Some (leaf s.history e).parts)

abbrev pub run_leaf : {A : Type 0} → List Row → Run A → Logged (Option (List (ℕ × ℤ)))
run_leaf rows r = leaf_found rows r.events r.stage r.found

-- one elimination
unfoldable pub refuted : List Row → Logged (Option (List (ℕ × ℤ)))
refuted rows = run_leaf rows (eliminated rows at_first)

-- with a row behind the others, which is made first
abbrev pub refuted_with : List Row → List Step → Row → Logged (Option (List (ℕ × ℤ)))
refuted_with rows steps r = after (made_all steps) (refuted (rows ++ (r ∷ [])))

-- the second side is tried where the first has a leaf
abbrev pub then_above : ℕ → List Event → Option (List (ℕ × ℤ)) → Logged (Option (List (ℕ × ℤ)))
    → Logged (Option Cert)
then_above place es None above = logged es None
then_above place es (Some l) above =
    logged (es ++ above.events) (option_map (λ m. cert.Split place l m) above.value)

abbrev pub split : List Row → ℕ → Kind → Sort → Linear → Logged (Option Cert)
split rows place Ne s t =
    let below = refuted_with rows (below_zero_steps s t) (below_zero s t) in
    then_above place below.events below.value
    (refuted_with rows (above_zero_steps s t) (above_zero s t))
split rows place k s t = logged [] None

abbrev pub or_next : List Event → Option Cert → Logged (Option Cert) → Logged (Option Cert)
or_next es (Some c) next = logged es (Some c)
or_next es None next = after es next

-- for each row Ne, in order
unfoldable pub splits : List Row → ℕ → List Row → Logged (Option Cert)
splits rows place [] = logged [] None
splits rows place (r ∷ rest) =
    let first = split rows place r.kind r.sort r.term in
    or_next first.events first.value (splits rows (place + 1) rest)

abbrev pub or_splits : List Row → List Event → Option (List (ℕ × ℤ)) → Logged (Option Cert)
or_splits rows es (Some l) = logged es (Some (cert.Leaf l))
or_splits rows es None = after es (splits rows 0 rows)

-- the elimination of the rows that are not Ne, and then of them with either side of each row Ne
unfoldable pub solved : List Row → Logged (Option Cert)
solved rows = let first = refuted rows in or_splits rows first.events first.value
