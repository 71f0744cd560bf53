-- An attempt is safe where all lists that it owes have only terms that ascend, and so has its value.
use Rattle.std.proofs.Common.{ℕ, Bool, true, false, List, [], ◌∷◌, ◌++◌, map, Option, Some, None}
use Rattle.std.specs.Prelude.{slice_get, if◌then◌else◌}
use Rattle.std.specs.List.{AllByRecursion}
use Rattle.cap_lin.specs.Linear.{Linear}
use Rattle.cap_lin.specs.Steps.{Step}
use Rattle.cap_lin.specs.Rows.{row_of, row_of_steps, negations, negations_steps}
use Rattle.cap_lin.specs.declared.row.Row.{Row}
use Rattle.cap_lin.specs.declared.row.Sort.{Sort}
use Rattle.cap_lin.specs.declared.row.Op.{Op}
use Rattle.cap_fm_spec.specs.Solving.{RowsAscend}
use Rattle.cap_rules.specs.Attempts.{proved, owed, Event, makes, claims, Attempt, unit, behind, go_on, ◌>>=◌, computed, found, need, each, appended, comparison_row, prove, prove_that}
use Rattle.cap_rules.specs.Answers.{owed_lists}
use Rattle.cap_rules_ascending.specs.Ascending.{TermAscends, RowAscends}
use Rattle.cap_rules_ascending.proofs.Lists.{IfSome, all-join, all-last, all-map, all-get}
use Rattle.cap_rules_ascending.proofs.Terms.{row-ascends, negations-ascend}

abbrev pub IsAny : {A : Type 0} → A → Type 0
IsAny x = Unit {0}

pub record Safe {A : Type 0} (P : A → Type 0) (o : Attempt A) : Type 0 where
  pub lists : AllByRecursion RowsAscend (owed_lists o.events)
  pub value : IfSome P o.value

claims-join : (ls more rest : List (List Row)) → (AllByRecursion RowsAscend more → AllByRecursion RowsAscend rest) → AllByRecursion RowsAscend (ls ++ more) → AllByRecursion RowsAscend (ls ++ rest)
claims-join [] more rest f h = f h
claims-join (l ∷ ls) more rest f h = (h.0, claims-join ls more rest f h.1)

lists-join : (es fs : List Event) → AllByRecursion RowsAscend (owed_lists es) → AllByRecursion RowsAscend (owed_lists fs) → AllByRecursion RowsAscend (owed_lists (es ++ fs))
lists-join [] fs h k = k
lists-join (makes x ∷ es) fs h k = lists-join es fs h k
lists-join (claims c ∷ es) fs h k = claims-join (owed c) (owed_lists es) (owed_lists (es ++ fs)) (λ i. lists-join es fs i k) h

lists-makes : (steps : List Step) → AllByRecursion RowsAscend (owed_lists (map makes steps))
lists-makes [] = tt
lists-makes (x ∷ xs) = lists-makes xs

chain-by : {A B : Type 0} (P : A → Type 0) (Q : B → Type 0) (es : List Event) (v : Option A) (f : A → Attempt B) → AllByRecursion RowsAscend (owed_lists es) → IfSome P v → ((x : A) → P x → Safe Q (f x)) → Safe Q (go_on es v f)
chain-by P Q es None f h k g = record { lists = h; value = tt }
chain-by P Q es (Some x) f h k g = record { lists = lists-join es (f x).events h (g x k).lists; value = (g x k).value }

pub chain : {A B : Type 0} {P : A → Type 0} {Q : B → Type 0} (o : Attempt A) (f : A → Attempt B) → Safe P o → ((x : A) → P x → Safe Q (f x)) → Safe Q (o >>= f)
chain {P = P} {Q = Q} o f h g = chain-by P Q o.events o.value f h.lists h.value g

pub after-steps : {B : Type 0} {Q : B → Type 0} (steps : List Step) (o : Attempt B) → Safe Q o → Safe Q (behind (map makes steps) o)
after-steps steps o h = record { lists = lists-join (map makes steps) o.events (lists-makes steps) h.lists; value = h.value }

pub of-some : {A : Type 0} (P : A → Type 0) (x : A) → P x → Safe P (unit x)
of-some P x h = record { lists = tt; value = h }

pub of-none : {A : Type 0} (P : A → Type 0) → Safe P (found None)
of-none P = record { lists = tt; value = tt }

pub of-computed : {A : Type 0} (P : A → Type 0) (x : A) (steps : List Step) → P x → Safe P (computed x steps)
of-computed P x steps h = record { lists = lists-makes steps; value = h }

pub of-found : {A : Type 0} (P : A → Type 0) (o : Option A) → IfSome P o → Safe P (found o)
of-found P o h = record { lists = tt; value = h }

pub found-any : {A : Type 0} (o : Option A) → Safe IsAny (found o)
found-any None = record { lists = tt; value = tt }
found-any (Some x) = record { lists = tt; value = tt }

pub of-get : {A : Type 0} (P : A → Type 0) (xs : List A) (i : ℕ) → AllByRecursion P xs → Safe P (found (slice_get xs i))
of-get P xs i h = of-found P (slice_get xs i) (all-get P xs i h)

pub need-safe : (b : Bool) → Safe IsAny (need b)
need-safe true = record { lists = tt; value = tt }
need-safe false = record { lists = tt; value = tt }

pub if-safe : {A : Type 0} (P : A → Type 0) (b : Bool) (o q : Attempt A) → Safe P o → Safe P q → Safe P (if b then o else q)
if-safe P true o q h k = h
if-safe P false o q h k = k

pub appended-safe : {A : Type 0} (P : A → Type 0) (xs : List A) (x : A) → AllByRecursion P xs → P x → Safe (AllByRecursion P) (appended xs x)
appended-safe P xs x h k = chain (need _) (λ u. unit (xs ++ x ∷ [])) (need-safe _) (λ u i. of-some (AllByRecursion P) (xs ++ x ∷ []) (all-last P xs x h k))

pub comparison-safe : (l : Linear) (op : Op) (r : Linear) (o : Sort) → TermAscends l → TermAscends r → Safe RowAscends (comparison_row l op r o)
comparison-safe l op r o h k = of-computed RowAscends (row_of l op r o) (row_of_steps l op r o) (row-ascends l op r o h k)

owed-ascends : (rows : List Row) (r : Row) → AllByRecursion RowAscends rows → RowAscends r → AllByRecursion RowsAscend (owed (proved rows r))
owed-ascends rows r h k = all-map RowAscends RowsAscend (λ n. rows ++ n ∷ []) (λ n i. all-last RowAscends rows n h i) (negations r) (negations-ascend r k)

pub prove-safe : (rows : List Row) (r : Row) → AllByRecursion RowAscends rows → RowAscends r → Safe IsAny (prove rows r)
prove-safe rows r h k = record {
  lists = lists-join (map makes (negations_steps r)) (claims (proved rows r) ∷ []) (lists-makes (negations_steps r)) (all-join RowsAscend (owed (proved rows r)) [] (owed-ascends rows r h k) tt);
  value = tt;
}

pub prove-that-safe : (rows : List Row) (l : Linear) (op : Op) (r : Linear) (o : Sort) → AllByRecursion RowAscends rows → TermAscends l → TermAscends r → Safe IsAny (prove_that rows l op r o)
prove-that-safe rows l op r o h k g = chain (comparison_row l op r o) (λ q. prove rows q) (comparison-safe l op r o k g) (λ q i. prove-safe rows q h i)

pub each-safe : {A B : Type 0} (P : A → Type 0) (Q : B → Type 0) (f : A → Attempt B) → ((x : A) → P x → Safe Q (f x)) → (xs : List A) → AllByRecursion P xs → Safe (AllByRecursion Q) (each f xs)
each-safe P Q f g [] h = of-some (AllByRecursion Q) [] tt
each-safe P Q f g (x ∷ xs) h = chain (f x) (λ y. each f xs >>= λ ys. unit (y ∷ ys)) (g x h.0) (λ y i. chain (each f xs) (λ ys. unit (y ∷ ys)) (each-safe P Q f g xs h.1) (λ ys j. of-some (AllByRecursion Q) (y ∷ ys) (i, j)))
