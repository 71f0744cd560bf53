-- Steps of the rules that create regions: what a term differs from, comparisons that are proved,
-- and arguments that are read back from an environment.
use Rattle.std.proofs.Common.{◌≡◌, ◌≢◌, ℕ, zero, suc, ◌+◌, ◌<◌, ◌≤◌, List, [], ◌∷◌, length, map, take, Some, refl, sym, ap, ◌∙◌, arith}
use Rattle.std.specs.List.{AllByRecursion}
use Rattle.cap_lin.specs.Linear.{Linear}
use Rattle.cap_lin.specs.Rows.{row_of}
use Rattle.cap_lin.specs.Values.{Valuation, value}
use Rattle.cap_lin.specs.declared.row.Row.{Row}
use Rattle.cap_lin.specs.declared.row.Sort.TheVariants.{Int}
use Rattle.cap_lin.specs.declared.row.Op.TheVariants.{Ne as Unequal}
use Rattle.cap_lin.proofs.Rows.{row_of-means}
use Rattle.cap_prog.specs.declared.assertion.Comp.{Comp}
use Rattle.cap_prog.specs.Scopes.{Scope, CompFits}
use Rattle.cap_machine_accounts.specs.Assertions.{CompHolds, AreWhole}
use Rattle.cap_goal_spec.specs.States.{PlainFact, PlainEnv, PlainState}
use Rattle.cap_goal_spec.specs.Environments.{term_of}
use Rattle.cap_rules.specs.Attempts.{Attempt, unit, ◌>>=◌, found, each, prove}
use Rattle.cap_rules.specs.Making.{prove_comparisons, with_differing}
use Rattle.cap_account_states.specs.Nodes.{Comes}
use Rattle.cap_account_states.proofs.Terms.{Over, row-over}
use Rattle.cap_account_states.proofs.Attempts.{comes-bind, after-found, after-prove, after-row, after-comparison, comp_row, row_added}
use Rattle.cap_account_states.proofs.Meets.{Usable, Meets, meets-row, proved-holds}
use Rattle.cap_account_states.proofs.Naming.{Placed, Means, comp-over, comp-means, comp-bound}

-- ---- rows that say that a term is none of some facts' regions

abbrev pub with_rows_of : PlainState → List Row → PlainState
with_rows_of s rows = record s { rows = rows }

abbrev pub IsApart : (ℕ → Type 0) → Valuation → Linear → PlainFact → Type 0
IsApart P v t f = Over P f.region × (value v.whole t ≢ value v.whole f.region)

pub apart-from :
    (ks : List ℕ) (v : Valuation) (t : Linear) (fs : List PlainFact) (s : PlainState)
    (Q : PlainState → Type 0) → Meets ks v s → Over (Usable ks s.sorts Int) t →
    AllByRecursion (IsApart (Usable ks s.sorts Int) v t) fs → Comes (with_differing s t fs) Q →
    (rows : List Row) × Meets ks v (with_rows_of s rows) × Q (with_rows_of s rows)
apart-from ks v t [] s Q m o h c = (s.rows, m, c.1)
apart-from ks v t (f ∷ fs) s Q m o h c =
    let row = row_of t Unequal f.region Int in
    let now = meets-row ks v s row m ((row_of-means v t Unequal f.region Int).1 h.0.1)
    (row-over (Usable ks s.sorts) t Unequal f.region Int o h.0.0) in
    apart-from ks v t fs (row_added s row) Q now o h.1
    (after-comparison s t Unequal f.region Int (λ s'. with_differing s' t fs) Q c)

-- ---- comparisons that are proved hold at the names' values

pub comparisons-hold :
    (ks : List ℕ) (sc : Scope) (v : Valuation) (s : PlainState) (env : PlainEnv) (a : Valuation) →
    Meets ks v s → Placed ks sc s.sorts env → Means sc v env a → (cs : List Comp) →
    AllByRecursion (CompFits sc) cs → (Q : Unit {0} → Type 0) →
    Comes (prove_comparisons s.rows env cs) Q → AllByRecursion (CompHolds a) cs × Q tt
comparisons-hold ks sc v s env a m p n [] fit Q c = (tt, c.1)
comparisons-hold ks sc v s env a m p n (d ∷ ds) fit Q c =
    let more : Unit {0} → Attempt (Unit {0}) = λ _. prove_comparisons s.rows env ds in
    let row = comp_row env d.op d in
    let there = after-row env d.op d (λ r. prove s.rows r >>= more) Q c in
    let proved = after-prove s.rows row more Q there.1 in
    let names = comp-bound env d there.0 in
    let holds = proved-holds ks ks v s row m proved.0
    (comp-over ks sc s.sorts env d d.op p fit.0 names) in
    let rest = comparisons-hold ks sc v s env a m p n ds fit.1 Q proved.1 in
    ((comp-means sc v env a d d.op n fit.0 names holds, rest.0), rest.1)

-- ---- arguments out of an environment

-- so many, whose values are those of the names from x on
pub record ReadBack (P : ℕ → Type 0) (v a : Valuation) (x n : ℕ)
    (Q : List Linear → Type 0) : Type 0 where
  pub terms : List Linear
  pub size : length terms ≡ n
  pub over : AllByRecursion (Over P) terms
  pub values : AreWhole a x (map (value v.whole) terms)
  pub comes : Q terms

-- what an environment says of these names
abbrev pub Tells : (ℕ → Type 0) → Valuation → Valuation → ℕ → PlainEnv → ℕ → Type 0
Tells P v a x env n =
    (i : ℕ) → i < n → (t : Linear) → term_of env i ≡ Some t →
    Over P t × (a.whole (x + i) ≡ value v.whole t)

pub read-back :
    (P : ℕ → Type 0) (v a : Valuation) (n : ℕ) (env : PlainEnv) (x : ℕ)
    (Q : List Linear → Type 0) → n ≤ length env → Tells P v a x env n →
    Comes (each found (take n env)) Q → ReadBack P v a x n Q
read-back P v a zero env x Q l f c =
    record { terms = []; size = refl; over = tt; values = tt; comes = c.1 }
read-back P v a (suc n) [] x Q l f c = absurd (omega (arith, l))
read-back P v a (suc n) (o ∷ env) x Q l f c =
    let last : Linear → List Linear → Attempt (List Linear) = λ t ts. unit (t ∷ ts) in
    let rest = each found (take n env) in
    let k = after-found o (λ t. rest >>= last t) Q c in
    let here : x + 0 ≡ x = omega arith in
    let t = f 0 (omega arith) k.0 k.1 in
    let m = read-back P v a n env (suc x) (λ ts. Comes (last k.0 ts) Q) (omega (arith, l))
    (λ i j u e.
    let on : x + suc i ≡ suc x + i = omega arith in
    let q = f (suc i) (omega (arith, j)) u e in (q.0, ap a.whole (sym on) ∙ q.1))
    (comes-bind rest (last k.0) Q k.2) in
    record {
      terms = k.0 ∷ m.terms;
      size = ap suc m.size;
      over = (t.0, m.over);
      values = (ap a.whole (sym here) ∙ t.1, m.values);
      comes = m.comes.1;
    }
