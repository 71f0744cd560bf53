-- Rules that have nothing to prove: they take no certificates.
use Rattle.std.proofs.Common.{◌≡◌, ℕ, zero, suc, ℤ, Bool, true, false, List, [], ◌∷◌, ◌++◌, map, length, Option, Some, None, refl}
use Rattle.std.specs.Prelude.{if◌then◌else◌}
use Rattle.cap_lin.specs.Linear.{Linear}
use Rattle.cap_lin.specs.Steps.{Step}
use Rattle.cap_lin.specs.declared.row.Row.{Row}
use Rattle.cap_lin.specs.declared.row.Sort.{Sort}
use Rattle.cap_lin.specs.declared.row.Sort.TheVariants.{Int}
use Rattle.cap_lin.specs.declared.row.Op.{Op}
use Rattle.cap_lin.specs.declared.row.Op.TheVariants.{Eq as Equal, Ne as Unequal}
use Rattle.cap_rules.specs.cap_gsolve.declared.piece.Piece.{Piece}
use Rattle.cap_rules.specs.cap_prog.declared.assertion.Comp.{Comp}
use Rattle.cap_rules.specs.cap_prog.declared.assertion.Slot.{Slot}
use Rattle.cap_rules.specs.cap_prog.declared.assertion.Slot.TheVariants.{Any, Is}
use Rattle.cap_rules.specs.cap_prog.declared.assertion.Asked.{Asked}
use Rattle.cap_rules.specs.cap_prog.declared.assertion.Asked.TheVariants.{One, Share, Src, Tok, At, From}
use Rattle.cap_rules.specs.cap_prog.Program.{PlainItem, compare, choose, fact, atom, cell, Items, none, item, PlainCase, PlainRegionType, PlainProgram}
use Rattle.cap_rules.specs.cap_goal_spec.States.{PlainFact, PlainEnv, PlainState, PlainTask}
use Rattle.cap_rules.specs.cap_goal_spec.Environments.{term_of, unbound, region_env}
use Rattle.cap_rules.specs.Attempts.{Event, makes, claims, Attempt, unit, behind, go_on, ◌>>=◌, need, each, appended}
use Rattle.cap_rules.specs.Answers.{claims_of}
use Rattle.cap_rules.specs.Making.{value_here, values_here, row_here, value_by, determined, determined_slot, row_by, rows_by, with_sort, with_sorts, with_row, with_rows, with_comparison, with_differing, with_cell, with_env, env_at, with_equalities, with_same, with_false, with_fact, guards_with, with_piece, with_pieces}
use Rattle.cap_rules.specs.Giving.{name_as, name_parts, give_term, give_slot, give_slots, give_form, give_sides, give_item, give, given}
use Rattle.cap_rules.specs.Taking.{binds_all, case_env, with_new_region, names_with}
use Rattle.cap_rules.specs.Closing.{move_target}

pub record Quiet {A : Type 0} (o : Attempt A) : Type 0 where
  pub none : claims_of o.events ≡ []

quiet-join : (es fs : List Event) → claims_of es ≡ [] → claims_of fs ≡ [] → claims_of (es ++ fs) ≡ []
quiet-join [] fs a b = b
quiet-join (makes x ∷ es) fs a b = quiet-join es fs a b
quiet-join (claims c ∷ es) fs a b = absurd (let e = a in cc)

quiet-makes : (steps : List Step) → claims_of (map makes steps) ≡ []
quiet-makes [] = refl
quiet-makes (x ∷ xs) = quiet-makes xs

chain-by : {A B : Type 0} (es : List Event) (v : Option A) (f : A → Attempt B) → claims_of es ≡ [] → ((x : A) → Quiet (f x)) → Quiet (go_on es v f)
chain-by es None f a b = record { none = a }
chain-by es (Some x) f a b = record { none = quiet-join es (f x).events a (b x).none }

pub chain : {A B : Type 0} (o : Attempt A) (f : A → Attempt B) → Quiet o → ((x : A) → Quiet (f x)) → Quiet (o >>= f)
chain o f a b = chain-by o.events o.value f a.none b

pub after-steps : {B : Type 0} (steps : List Step) (o : Attempt B) → Quiet o → Quiet (behind (map makes steps) o)
after-steps steps o b = record { none = quiet-join (map makes steps) o.events (quiet-makes steps) b.none }

pub of-none : {A : Type 0} (v : Option A) → Quiet (record { events = []; value = v })
of-none v = record { none = refl }

pub of-steps : {A : Type 0} (steps : List Step) (v : Option A) → Quiet (record { events = map makes steps; value = v })
of-steps steps v = record { none = quiet-makes steps }

pub need-quiet : (b : Bool) → Quiet (need b)
need-quiet true = of-none (Some tt)
need-quiet false = of-none None

pub if-quiet : {A : Type 0} (b : Bool) (o q : Attempt A) → Quiet o → Quiet q → Quiet (if b then o else q)
if-quiet true o q x y = x
if-quiet false o q x y = y

-- ---- terms and rows

pub value-quiet : (s : PlainState) (t : Linear) → Quiet (value_here s t)
value-quiet s t = search (of-steps)

pub values-quiet : (s : PlainState) (ts : List Linear) → Quiet (values_here s ts)
values-quiet s [] = of-none (Some [])
values-quiet s (t ∷ ts) = chain (value_here s t) (λ u. values_here s ts >>= λ us. unit (u ∷ us)) (value-quiet s t) (λ u. chain (values_here s ts) (λ us. unit (u ∷ us)) (values-quiet s ts) (λ us. of-none (Some (u ∷ us))))

pub row-quiet : (s : PlainState) (op : Op) (c : Comp) → Quiet (row_here s op c)
row-quiet s op c = search (after-steps, chain, of-steps)

pub by-quiet : (env : PlainEnv) (t : Linear) → Quiet (value_by env t)
by-quiet env t = search (of-steps)

pub determined-quiet : (env : PlainEnv) (t : Linear) → Quiet (determined env t)
determined-quiet env t = search (chain, need-quiet, by-quiet)

pub slot-quiet : (env : PlainEnv) (x : Slot) → Quiet (determined_slot env x)
slot-quiet env Any = of-none None
slot-quiet env (Is t) = determined-quiet env t

pub slots-quiet : (env : PlainEnv) (xs : List Slot) → Quiet (each (determined_slot env) xs)
slots-quiet env [] = of-none (Some [])
slots-quiet env (x ∷ xs) = chain (determined_slot env x) (λ y. each (determined_slot env) xs >>= λ ys. unit (y ∷ ys)) (slot-quiet env x) (λ y. chain (each (determined_slot env) xs) (λ ys. unit (y ∷ ys)) (slots-quiet env xs) (λ ys. of-none (Some (y ∷ ys))))

pub row-by-quiet : (env : PlainEnv) (op : Op) (c : Comp) → Quiet (row_by env op c)
row-by-quiet env op c = search (chain, of-steps, determined-quiet)

pub rows-by-quiet : (env : PlainEnv) (cs : List Comp) → Quiet (rows_by env cs)
rows-by-quiet env [] = of-none (Some [])
rows-by-quiet env (c ∷ cs) = chain (row_by env c.op c) (λ r. rows_by env cs >>= λ rs. unit (r ∷ rs)) (row-by-quiet env c.op c) (λ r. chain (rows_by env cs) (λ rs. unit (r ∷ rs)) (rows-by-quiet env cs) (λ rs. of-none (Some (r ∷ rs))))

-- ---- changes of a state

pub appended-quiet : {A : Type 0} (xs : List A) (x : A) → Quiet (appended xs x)
appended-quiet xs x = search (chain, of-none, need-quiet)

pub sort-quiet : (s : PlainState) (o : Sort) → Quiet (with_sort s o)
sort-quiet s o = search (chain, of-none, appended-quiet)

pub sorts-quiet : (s : PlainState) (os : List Sort) → Quiet (with_sorts s os)
sorts-quiet s [] = of-none (Some s)
sorts-quiet s (o ∷ os) = chain (with_sort s o) (λ t. with_sorts t os) (sort-quiet s o) (λ t. sorts-quiet t os)

pub with-row-quiet : (s : PlainState) (r : Row) → Quiet (with_row s r)
with-row-quiet s r = search (chain, of-none, appended-quiet)

pub with-rows-quiet : (s : PlainState) (rs : List Row) → Quiet (with_rows s rs)
with-rows-quiet s [] = of-none (Some s)
with-rows-quiet s (r ∷ rs) = chain (with_row s r) (λ t. with_rows t rs) (with-row-quiet s r) (λ t. with-rows-quiet t rs)

pub comparison-quiet : (s : PlainState) (l : Linear) (op : Op) (r : Linear) (o : Sort) → Quiet (with_comparison s l op r o)
comparison-quiet s l op r o = search (after-steps, with-row-quiet)

pub differing-quiet : (s : PlainState) (t : Linear) (fs : List PlainFact) → Quiet (with_differing s t fs)
differing-quiet s t [] = of-none (Some s)
differing-quiet s t (f ∷ fs) = chain (with_comparison s t Unequal f.region Int) (λ x. with_differing x t fs) (comparison-quiet s t Unequal f.region Int) (λ x. differing-quiet x t fs)

pub cell-quiet : (s : PlainState) (a t : Linear) → Quiet (with_cell s a t)
cell-quiet s a t = search (chain, of-none, appended-quiet)

pub env-quiet : (s : PlainState) (env : PlainEnv) → Quiet (with_env s env)
env-quiet s env = search (chain, of-none, appended-quiet)

pub equalities-quiet : (s : PlainState) (xs ys : List Linear) → Quiet (with_equalities s xs ys)
equalities-quiet s [] ys = of-none (Some s)
equalities-quiet s (x ∷ xs) [] = of-none (Some s)
equalities-quiet s (x ∷ xs) (y ∷ ys) = chain (with_comparison s x Equal y Int) (λ t. with_equalities t xs ys) (comparison-quiet s x Equal y Int) (λ t. equalities-quiet t xs ys)

pub same-quiet : (s : PlainState) (f : PlainFact) (o : Option PlainFact) → Quiet (with_same s f o)
same-quiet s f None = of-none (Some s)
same-quiet s f (Some g) = search (chain, equalities-quiet, comparison-quiet)

pub false-quiet : (s : PlainState) (b : Bool) → Quiet (with_false s b)
false-quiet s true = search (comparison-quiet)
false-quiet s false = of-none (Some s)

pub fact-quiet : (s : PlainState) (f : PlainFact) → Quiet (with_fact s f)
fact-quiet s f = search (chain, of-none, same-quiet, false-quiet, appended-quiet)

pub guards-quiet : (ps : List Piece) (q : Piece) (o : Option ℕ) → Quiet (guards_with ps q o)
guards-quiet ps q None = appended-quiet ps q
guards-quiet ps q (Some i) = search (of-none)

pub piece-quiet : (p : PlainProgram) (s : PlainState) (q : Piece) → Quiet (with_piece p s q)
piece-quiet p s q = search (chain, of-none, of-steps, after-steps, guards-quiet, with-rows-quiet)

pub pieces-quiet : (p : PlainProgram) (s : PlainState) (qs : List Piece) → Quiet (with_pieces p s qs)
pieces-quiet p s [] = of-none (Some s)
pieces-quiet p s (q ∷ qs) = chain (with_piece p s q) (λ t. with_pieces p t qs) (piece-quiet p s q) (λ t. pieces-quiet p t qs)

-- ---- giving

pub name-quiet : (s : PlainState) (e : ℕ) (o : Sort) (x : ℕ) (t : Option Linear) → Quiet (name_as s e o x t)
name-quiet s e o x (Some t) = of-none (Some s)
name-quiet s e o x None = search (chain, of-none, sort-quiet)

pub parts-quiet : (s : PlainState) (e : ℕ) (o : Sort) (ps : List (ℕ × ℤ)) → Quiet (name_parts s e o ps)
parts-quiet s e o [] = of-none (Some s)
parts-quiet s e o (q ∷ ps) = chain (name_as s e o q.0 (term_of (env_at s e) q.0)) (λ t. name_parts t e o ps) (name-quiet s e o q.0 (term_of (env_at s e) q.0)) (λ t. parts-quiet t e o ps)

pub term-quiet : (s : PlainState) (e : ℕ) (o : Sort) (t : Linear) → Quiet (give_term s e o t)
term-quiet s e o t = search (chain, of-none, of-steps, after-steps, parts-quiet)

pub give-slot-quiet : (s : PlainState) (e : ℕ) (o : Sort) (x : Slot) → Quiet (give_slot s e o x)
give-slot-quiet s e o Any = search (chain, of-none, sort-quiet)
give-slot-quiet s e o (Is t) = term-quiet s e o t

pub give-slots-quiet : (s : PlainState) (e : ℕ) (xs : List Slot) → Quiet (give_slots s e xs)
give-slots-quiet s e [] = of-none (Some (given s []))
give-slots-quiet s e (x ∷ xs) = chain (give_slot s e Int x) (λ g. give_slots g.state e xs >>= λ more. unit (given more.state (g.value ∷ more.value))) (give-slot-quiet s e Int x) (λ g. chain (give_slots g.state e xs) (λ more. unit (given more.state (g.value ∷ more.value))) (give-slots-quiet g.state e xs) (λ more. of-none (Some (given more.state (g.value ∷ more.value)))))

pub form-quiet : (s : PlainState) (e : ℕ) (x : Asked) → Quiet (give_form s e x)
form-quiet s e One = search (of-none)
form-quiet s e (Share x) = search (chain, of-none, give-slot-quiet)
form-quiet s e (Src x) = search (chain, of-none, give-slot-quiet)
form-quiet s e (Tok x) = search (chain, of-none, give-slot-quiet)
form-quiet s e (At x) = search (chain, of-none, of-steps, give-slot-quiet)
form-quiet s e (From x) = search (chain, of-none, give-slot-quiet)

pub sides-quiet : (s : PlainState) (e : ℕ) (c : Comp) → Quiet (give_sides s e c)
sides-quiet s e c = search (chain, of-none, term-quiet)

pub item-quiet : (p : PlainProgram) (s : PlainState) (e : ℕ) (i : PlainItem) → Quiet (give_item p s e i)
item-quiet p s e (compare c) = search (chain, of-none, sides-quiet, comparison-quiet)
item-quiet p s e (choose c a b) = of-none (Some s)
item-quiet p s e (fact place r k args x) = search (chain, term-quiet, give-slots-quiet, give-slot-quiet, fact-quiet)
item-quiet p s e (atom place r k i asked) = search (chain, term-quiet, form-quiet, piece-quiet)
item-quiet p s e (cell place a x) = search (chain, term-quiet, give-slot-quiet, cell-quiet, comparison-quiet)

pub give-quiet : (p : PlainProgram) (s : PlainState) (e n : ℕ) (ts : List PlainTask) (is : Items) → Quiet (give p s e n ts is)
give-quiet p s e n ts none = search (of-none)
give-quiet p s e n ts (item (choose c a b) more) = search (chain, of-none, sides-quiet, comparison-quiet)
give-quiet p s e n ts (item (compare c) more) = chain (give_item p s e (compare c)) (λ t. give p t e n ts more) (item-quiet p s e (compare c)) (λ t. give-quiet p t e n ts more)
give-quiet p s e n ts (item (fact a b c d x) more) = chain (give_item p s e (fact a b c d x)) (λ t. give p t e n ts more) (item-quiet p s e (fact a b c d x)) (λ t. give-quiet p t e n ts more)
give-quiet p s e n ts (item (atom a b c d x) more) = chain (give_item p s e (atom a b c d x)) (λ t. give p t e n ts more) (item-quiet p s e (atom a b c d x)) (λ t. give-quiet p t e n ts more)
give-quiet p s e n ts (item (cell a b x) more) = chain (give_item p s e (cell a b x)) (λ t. give p t e n ts more) (item-quiet p s e (cell a b x)) (λ t. give-quiet p t e n ts more)

-- ---- environments of cases

pub case-env-quiet : (k : PlainRegionType) (c : PlainCase) (f : PlainFact) (o : Attempt Linear) → Quiet o → Quiet (case_env k c f o)
case-env-quiet k c f o h = if-quiet (binds_all k c) (unit (region_env f (unbound (length c.names)))) (o >>= λ t. unit (region_env f (names_with k c t))) (of-none (Some (region_env f (unbound (length c.names))))) (chain o (λ t. unit (region_env f (names_with k c t))) h (λ t. of-none (Some (region_env f (names_with k c t)))))

pub new-region-quiet : (p : PlainProgram) (s : PlainState) (y : PlainRegionType) (k : ℕ) → Quiet (with_new_region p s y k)
new-region-quiet p s y k = search (chain, sort-quiet, differing-quiet, pieces-quiet)

pub target-quiet : (k : PlainRegionType) (f : PlainFact) (m : ℕ) → Quiet (move_target k f m)
target-quiet k f zero = search (of-none)
target-quiet k f (suc i) = search (chain, of-none, determined-quiet)
