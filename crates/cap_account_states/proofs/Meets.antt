-- A symbolic state holds of values.
use Rattle.std.proofs.Common.{◌≡◌, ◌≢◌, ℕ, ◌+◌, ◌<◌, ◌≤◌, ℤ, pos, ◌<ℤ◌, List, [], ◌∷◌, length, arith, refl, ◌∙◌, true, false, Some}
use Rattle.std.specs.Prelude.{slice_get, nat_eq, if◌then◌else◌}
use Rattle.std.specs.List.{AllByRecursion}
use Rattle.std.proofs.lemmas.Bool.Decides.{nat_tests}
use Rattle.std.proofs.lemmas.Int.{ints}
use Rattle.cap_lin.specs.Linear.{Linear, variable}
use Rattle.cap_lin.specs.Values.{Valuation, parts_value, value, amount}
use Rattle.cap_lin.specs.Solves.{Holds, IsWholeAt, Solves, Proves, FitsSort}
use Rattle.cap_lin.specs.declared.row.Row.{Row}
use Rattle.cap_lin.specs.declared.row.Sort.{Sort}
use Rattle.cap_lin.specs.declared.row.Sort.TheVariants.{Int, Perm}
use Rattle.cap_goal_spec.specs.States.{PlainEnv, PlainState}
use Rattle.cap_account_resources.specs.Parts.{Cells, one_cell}
use Rattle.cap_account_resources.proofs.Lists.{within, get-first, push-length, all-both}
use Rattle.cap_account_states.proofs.Terms.{Over, vars-more, RowOver, fits-sort, Agree, agree-trans, agree-less}
use Rattle.cap_account_states.proofs.Attempts.{sort_added, row_added}

-- ---- variables that may be used

-- the variable is none of those that are kept free
abbrev pub Free : List ℕ → ℕ → Type 0
Free ks x = AllByRecursion (λ k. x ≢ k) ks

-- a variable of sort Int is a fraction too
abbrev pub IsOf : List Sort → Sort → ℕ → Type 0
IsOf sorts Int x = slice_get sorts x ≡ Some Int
IsOf sorts Perm x = (o : Sort) × (slice_get sorts x ≡ Some o)

-- of this sort, and not kept free
abbrev pub Usable : List ℕ → List Sort → Sort → ℕ → Type 0
Usable ks sorts o x = IsOf sorts o x × Free ks x

pub is-of : (sorts : List Sort) (o : Sort) (x : ℕ) → slice_get sorts x ≡ Some o → IsOf sorts o x
is-of sorts Int x e = e
is-of sorts Perm x e = (Perm, e)

-- a variable of sort Int is usable where a fraction is wanted
pub int-usable :
    (ks : List ℕ) (sorts : List Sort) (o : Sort) (x : ℕ) → Usable ks sorts Int x →
    Usable ks sorts o x
int-usable ks sorts Int x h = h
int-usable ks sorts Perm x h = ((Int, h.0), h.1)

pub usable-on :
    (ks : List ℕ) (ss us : List Sort) →
    ((x : ℕ) (o : Sort) → slice_get ss x ≡ Some o → slice_get us x ≡ Some o) → (o : Sort) (x : ℕ) →
    Usable ks ss o x → Usable ks us o x
usable-on ks ss us f Int x h = (f x Int h.0, h.1)
usable-on ks ss us f Perm x h = ((h.0.0, f x h.0.0 h.0.1), h.1)

abbrev pub CellOver : (Sort → ℕ → Type 0) → Linear × Linear → Type 0
CellOver R c = Over (R Int) c.0 × Over (R Int) c.1

-- the state but for what it owns; rows and cells do without the variables that are kept free
pub record Meets (ks : List ℕ) (v : Valuation) (s : PlainState) : Type 0 where
  pub sorted : (x : ℕ) → slice_get s.sorts x ≡ Some Int → IsWholeAt v x
  pub rows : AllByRecursion (Holds v) s.rows
  pub rows_over : AllByRecursion (RowOver (Usable ks s.sorts)) s.rows
  pub cells_over : AllByRecursion (CellOver (Usable ks s.sorts)) s.cells
  pub positive : AllByRecursion (λ c. pos 0 <ℤ value v.whole c.0) s.cells
  pub store_over : AllByRecursion (Over (Usable [] s.sorts Int)) s.store

-- what the cells of the state are
abbrev pub need : Valuation → List (Linear × Linear) → Cells
need v [] a z = 0
need v (c ∷ cs) a z = one_cell (value v.whole c.0) (value v.whole c.1) a z + need v cs a z

abbrev pub Old : PlainState → ℕ → Type 0
Old s x = x < length s.sorts

pub usable-old :
    (ks : List ℕ) (sorts : List Sort) (o : Sort) (x : ℕ) → Usable ks sorts o x → x < length sorts
usable-old ks sorts Int x h = within sorts x Int h.0
usable-old ks sorts Perm x h = within sorts x h.0.0 h.0.1

fits-rows :
    (R : Sort → ℕ → Type 0) (v : Valuation) → ((x : ℕ) → R Int x → IsWholeAt v x) →
    (rows : List Row) → AllByRecursion (RowOver R) rows →
    AllByRecursion (λ r. FitsSort v r.sort r.term) rows
fits-rows R v f [] h = tt
fits-rows R v f (r ∷ rs) h = (fits-sort R v f r h.0, fits-rows R v f rs h.1)

pub solves : (ks : List ℕ) (v : Valuation) (s : PlainState) → Meets ks v s → Solves v s.rows
solves ks v s m = record {
  fits = fits-rows (Usable ks s.sorts) v (λ x h. m.sorted x h.0) s.rows m.rows_over;
  holds = m.rows;
}

-- what is proved of the rows holds
pub proved-holds :
    (ks js : List ℕ) (v : Valuation) (s : PlainState) (r : Row) → Meets ks v s → Proves s.rows r →
    RowOver (Usable js s.sorts) r → Holds v r
proved-holds ks js v s r m h o =
    h v (solves ks v s m) (fits-sort (Usable js s.sorts) v (λ x h. m.sorted x h.0) r o)

-- ---- states that go on

-- the second state goes on from the first, with the same frame
pub record Same (s t : PlainState) : Type 0 where
  pub sorts : (x : ℕ) (o : Sort) → slice_get s.sorts x ≡ Some o → slice_get t.sorts x ≡ Some o
  pub count : length s.sorts ≤ length t.sorts
  pub store : t.store ≡ s.store
  pub facts : t.facts ≡ s.facts
  pub opened : t.opened ≡ s.opened
  pub before : t.before ≡ s.before
  pub envs : length t.envs ≡ length s.envs

pub same-state : (s : PlainState) → Same s s
same-state s = record {
  sorts = λ x o e. e;
  count = omega arith;
  store = refl;
  facts = refl;
  opened = refl;
  before = refl;
  envs = refl;
}

pub same-trans : (s t u : PlainState) → Same s t → Same t u → Same s u
same-trans s t u a b = record {
  sorts = λ x o e. b.sorts x o (a.sorts x o e);
  count = omega (arith, a.count, b.count);
  store = b.store ∙ a.store;
  facts = b.facts ∙ a.facts;
  opened = b.opened ∙ a.opened;
  before = b.before ∙ a.before;
  envs = b.envs ∙ a.envs;
}

pub agree-on :
    (s t : PlainState) (v w x : Valuation) → Same s t → Agree (Old s) v w → Agree (Old t) w x →
    Agree (Old s) v x
agree-on s t v w x m a b =
    agree-trans (Old s) v w x a
    (agree-less (Old s) (Old t) w x (λ y h. (let q = m.count in omega (arith, h, q))) b)

-- ---- another value of one variable

abbrev pub with_value : Valuation → ℕ → ℤ → ℤ → Valuation
with_value v n z y = record {
  whole = λ x. if nat_eq x n then z else v.whole x;
  fraction = record {
    numerator = λ x. if nat_eq x n then y else v.fraction.numerator x;
    under = v.fraction.under;
  };
}

pub new-whole : (v : Valuation) (n : ℕ) (z y : ℤ) → (with_value v n z y).whole n ≡ z
new-whole v n z y = let t : nat_eq n n ≡ true = grind (arith, nat_tests) in rw t refl

pub new-share : (v : Valuation) (n : ℕ) (z y : ℤ) → (with_value v n z y).fraction.numerator n ≡ y
new-share v n z y = let t : nat_eq n n ≡ true = grind (arith, nat_tests) in rw t refl

pub with-agrees :
    (P : ℕ → Type 0) (v : Valuation) (n : ℕ) (z y : ℤ) → ((x : ℕ) → P x → x ≢ n) →
    Agree P v (with_value v n z y)
with-agrees P v n z y f = record {
  under = refl;
  whole = λ x h. whole' x (f x h);
  share = λ x h. share' x (f x h);
}
  where
    whole' : (x : ℕ) → x ≢ n → (with_value v n z y).whole x ≡ v.whole x
    whole' x ne = let t : nat_eq x n ≡ false = grind (arith, nat_tests) in rw t refl

    share' : (x : ℕ) → x ≢ n → (with_value v n z y).fraction.numerator x ≡ v.fraction.numerator x
    share' x ne = let t : nat_eq x n ≡ false = grind (arith, nat_tests) in rw t refl

-- the value of a lone variable
pub variable-value : (v : Valuation) (n : ℕ) → value v.whole (variable n) ≡ v.whole n
unfolding value parts_value
variable-value v n = omega (arith, ints)

pub variable-amount :
    (v : Valuation) (n : ℕ) → amount v.fraction (variable n) ≡ v.fraction.numerator n
unfolding amount parts_value
variable-amount v n = omega (arith, ints)

-- ---- more variables, rows and environments

pub cell-more :
    (R S : Sort → ℕ → Type 0) → ((o : Sort) (x : ℕ) → R o x → S o x) → (c : Linear × Linear) →
    CellOver R c → CellOver S c
cell-more R S f c h = (
  vars-more (R Int) (S Int) (f Int) c.0.parts h.0,
  vars-more (R Int) (S Int)
      (f Int) c.1.parts h.1,
)

pub row-more :
    (R S : Sort → ℕ → Type 0) → ((o : Sort) (x : ℕ) → R o x → S o x) → (r : Row) → RowOver R r →
    RowOver S r
row-more R S f r h = vars-more (R r.sort) (S r.sort) (f r.sort) r.term.parts h

pub same-fresh : (s : PlainState) (o : Sort) → Same s (sort_added s o)
same-fresh s o = record {
  sorts = λ x p e. get-first s.sorts (o ∷ []) x p e;
  count = (let q = push-length s.sorts o in omega (arith, q));
  store = refl;
  facts = refl;
  opened = refl;
  before = refl;
  envs = refl;
}

pub meets-row :
    (ks : List ℕ) (v : Valuation) (s : PlainState) (r : Row) → Meets ks v s → Holds v r →
    RowOver (Usable ks s.sorts) r → Meets ks v (row_added s r)
meets-row ks v s r m h o = record {
  sorted = m.sorted;
  rows = all-both (Holds v) s.rows (r ∷ []) m.rows (h, tt);
  rows_over = all-both (RowOver (Usable ks s.sorts)) s.rows (r ∷ []) m.rows_over (o, tt);
  cells_over = m.cells_over;
  positive = m.positive;
  store_over = m.store_over;
}

pub same-row : (s : PlainState) (r : Row) → Same s (row_added s r)
same-row s r = record {
  sorts = λ x o e. e;
  count = omega arith;
  store = refl;
  facts = refl;
  opened = refl;
  before = refl;
  envs = refl;
}

pub meets-env :
    (ks : List ℕ) (v : Valuation) (s : PlainState) (envs : List PlainEnv) → Meets ks v s →
    Meets ks v (record s { envs = envs })
meets-env ks v s envs m = record {
  sorted = m.sorted;
  rows = m.rows;
  rows_over = m.rows_over;
  cells_over = m.cells_over;
  positive = m.positive;
  store_over = m.store_over;
}
