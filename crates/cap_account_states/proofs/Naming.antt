-- What the names of an assertion stand for, by its values and in a state.
use Rattle.std.proofs.Common.{◌≡◌, ◌≢◌, ℕ, ◌+◌, ◌<◌, ℤ, pos, ◌+ℤ◌, ◌*ℤ◌, List, [], ◌∷◌, ◌++◌, length, arith, refl, sym, ap, ◌∙◌, subst, true, Option, Some, None, inl, inr}
use Rattle.std.specs.Prelude.{slice_get, slice_set, unwrap_or, is_some, ◌&&◌}
use Rattle.std.specs.List.{list_all}
use Rattle.std.proofs.lemmas.Bool.{cases_eq}
use Rattle.cap_lin.specs.Linear.{Linear}
use Rattle.cap_lin.specs.Values.{Valuation, denominator, parts_value, value, amount}
use Rattle.cap_lin.specs.Solves.{value_by_sort, Holds, Relates}
use Rattle.cap_lin.specs.declared.row.Sort.{Sort}
use Rattle.cap_lin.specs.declared.row.Sort.TheVariants.{Int, Perm}
use Rattle.cap_lin.specs.declared.row.Op.{Op}
use Rattle.cap_lin.proofs.Rows.{row_of-means}
use Rattle.cap_prog.specs.declared.assertion.Comp.{Comp}
use Rattle.cap_prog.specs.Scopes.{Scope, HasSort, TermFits, CompFits}
use Rattle.cap_goal_spec.specs.States.{PlainEnv, PlainState}
use Rattle.cap_goal_spec.specs.Environments.{zero_value, term_of, bound_term, term_in, with_name}
use Rattle.cap_rules.specs.Attempts.{unit}
use Rattle.cap_rules.specs.Making.{fresh, env_at, with_env_at}
use Rattle.cap_rules.specs.Giving.{name_as, name_parts}
use Rattle.cap_account_states.specs.Nodes.{Comes}
use Rattle.cap_account_resources.proofs.Lists.{get-first, get-last, get-set-same, get-set-other, set-length, get-or-set, get-or-other, push-length, none-some, some-same}
use Rattle.cap_account_states.proofs.Terms.{Vars, Over, vars-more, over-over, RowOver, row-over, by_terms, value-is, amount-is, number-over, Agree, agree-same, value-agree, amount-agree, sum-agree, relates-same}
use Rattle.cap_account_states.proofs.Attempts.{comes-bind, comp_row, AreDetermined, sort_added, after-sort}
use Rattle.cap_account_states.proofs.Filled.{Filled, filled_at, share_for, fill_name, fill_parts}
use Rattle.cap_account_states.proofs.Meets.{Usable, is-of, usable-on, usable-old, Meets, Old, Same, same-state, same-trans, same-fresh, agree-on, with_value, new-whole, new-share, with-agrees, variable-value, variable-amount, meets-env}
use Rattle.cap_account_states.proofs.Alike.{SortOk, meets-fresh}

-- ---- names in an environment

abbrev pub Bound : PlainEnv → ℕ → Type 0
Bound env x = (t : Linear) × (term_of env x ≡ Some t)

-- the names have a place in the environment, and those that are bound are so to usable terms
pub record Placed (ks : List ℕ) (sc : Scope) (sorts : List Sort) (env : PlainEnv) : Type 0 where
  pub room : (x : ℕ) (o : Sort) → HasSort sc o x → x < length env
  pub over :
      (x : ℕ) (o : Sort) → HasSort sc o x → (t : Linear) → term_of env x ≡ Some t →
      Over (Usable ks sorts o) t

-- the bound names have these values
pub record Means (sc : Scope) (v : Valuation) (env : PlainEnv) (a : Valuation) : Type 0 where
  pub under : a.fraction.under ≡ v.fraction.under
  pub whole :
      (x : ℕ) → HasSort sc Int x → (t : Linear) → term_of env x ≡ Some t →
      value v.whole t ≡ a.whole x
  pub share :
      (x : ℕ) → HasSort sc Perm x → (t : Linear) → term_of env x ≡ Some t →
      amount v.fraction t ≡ a.fraction.numerator x

-- bound names stay bound to their terms
abbrev pub Stays : Scope → PlainEnv → PlainEnv → Type 0
Stays sc env env' =
    (x : ℕ) (o : Sort) → HasSort sc o x →
    (t : Linear) → term_of env x ≡ Some t → term_of env' x ≡ Some t

pub term-same :
    (env : PlainEnv) (x : ℕ) (t : Linear) → x < length env → term_of (with_name env x t) x ≡ Some t
term-same env x t h = ap (λ o. unwrap_or o None) (get-set-same env x (Some t) h)

pub term-other :
    (env : PlainEnv) (x y : ℕ) (t : Linear) → y ≢ x → term_of (with_name env x t) y ≡ term_of env y
term-other env x y t ne = ap (λ o. unwrap_or o None) (get-set-other env x y (Some t) ne)

pub at-env :
    (s : PlainState) (e : ℕ) (env : PlainEnv) → e < length s.envs →
    env_at (with_env_at s e env) e ≡ env
at-env s e env h = get-or-set s.envs e env [] h

-- all environments but one stay as they are
abbrev pub Others : ℕ → PlainState → PlainState → Type 0
Others e s t = (x : ℕ) → x ≢ e → env_at t x ≡ env_at s x

pub others-env : (s : PlainState) (e : ℕ) (env : PlainEnv) → Others e s (with_env_at s e env)
others-env s e env x ne = get-or-other s.envs e x env [] ne

pub same-env : (s : PlainState) (e : ℕ) (env : PlainEnv) → Same s (with_env_at s e env)
same-env s e env = record {
  sorts = λ x o h. h;
  count = omega arith;
  store = refl;
  facts = refl;
  opened = refl;
  before = refl;
  envs = set-length s.envs e env;
}

pub placed-more :
    (ks : List ℕ) (sc : Scope) (ss us : List Sort) (env : PlainEnv) →
    ((x : ℕ) (o : Sort) → slice_get ss x ≡ Some o → slice_get us x ≡ Some o) → Placed ks sc ss env →
    Placed ks sc us env
placed-more ks sc ss us env f h = record {
  room = h.room;
  over =
      λ x o i t e. vars-more (Usable ks ss o) (Usable ks us o) (usable-on ks ss us f o) t.parts
      (h.over x o i t e);
}

-- a name, bound to a usable term
pub placed-set :
    (ks : List ℕ) (sc : Scope) (sorts : List Sort) (env : PlainEnv) (x : ℕ) (t : Linear) →
    ((o : Sort) → HasSort sc o x → Over (Usable ks sorts o) t) → Placed ks sc sorts env →
    Placed ks sc sorts (with_name env x t)
placed-set ks sc sorts env x t h m = record {
  room =
      λ y o i. (let q = m.room y o i in let r = set-length env x (Some t) in omega (arith, q, r));
  over = λ y o i u e. elim (cases_eq y x) [
    | inl q ↦ subst (Over (Usable ks sorts o))
        (some-same t u
        (sym (term-same env x t (subst (λ z. z < length env) q (m.room y o i))) ∙ ap
        (term_of (with_name env x t)) (sym q) ∙ e)) (h o (subst (HasSort sc o) q i))
    | inr ne ↦ m.over y o i u (sym (term-other env x y t ne) ∙ e)
  ];
}

pub means-set :
    (sc : Scope) (v : Valuation) (env : PlainEnv) (a : Valuation) (x : ℕ) (t : Linear) →
    x < length env → (HasSort sc Int x → value v.whole t ≡ a.whole x) →
    (HasSort sc Perm x → amount v.fraction t ≡ a.fraction.numerator x) → Means sc v env a →
    Means sc v (with_name env x t) a
means-set sc v env a x t l hw hs m = record {
  under = m.under;
  whole = λ y i u e. elim (cases_eq y x) [
    | inl q ↦ ap (value v.whole) (sym (same y u q e)) ∙ hw (subst (HasSort sc Int) q i) ∙ ap a.whole
        (sym q)
    | inr ne ↦ m.whole y i u (sym (term-other env x y t ne) ∙ e)
  ];
  share = λ y i u e. elim (cases_eq y x) [
    | inl q ↦ ap (amount v.fraction) (sym (same y u q e)) ∙ hs (subst (HasSort sc Perm) q i)
        ∙ ap a.fraction.numerator (sym q)
    | inr ne ↦ m.share y i u (sym (term-other env x y t ne) ∙ e)
  ];
}
  where
    same : (y : ℕ) (u : Linear) → y ≡ x → term_of (with_name env x t) y ≡ Some u → t ≡ u
    same y u q e =
        some-same t u (sym (term-same env x t l) ∙ ap (term_of (with_name env x t)) (sym q) ∙ e)

pub stays-set :
    (sc : Scope) (env : PlainEnv) (x : ℕ) (t : Linear) → term_of env x ≡ None →
    Stays sc env (with_name env x t)
stays-set sc env x t none y o i u e = elim (cases_eq y x) [
  | inl q ↦ absurd (none-some (sym none ∙ ap (term_of env) (sym q) ∙ e))
  | inr ne ↦ term-other env x y t ne ∙ e
]

-- what later values say of an earlier environment
pub means-back :
    (ks : List ℕ) (sc : Scope) (s : PlainState) (v w : Valuation) (env env' : PlainEnv)
    (a : Valuation) → Placed ks sc s.sorts env → Agree (Old s) v w → Stays sc env env' →
    Means sc w env' a → Means sc v env a
means-back ks sc s v w env env' a p g st m = record {
  under = m.under ∙ g.under;
  whole =
      λ x i t e. sym (value-agree (Old s) v w g t (old x Int i t e)) ∙ m.whole x i t
      (st x Int i t e);
  share =
      λ x i t e. sym (amount-agree (Old s) v w g t (old x Perm i t e)) ∙ m.share x i t
      (st x Perm i t e);
}
  where
    old :
        (x : ℕ) (o : Sort) → HasSort sc o x → (t : Linear) → term_of env x ≡ Some t → Over (Old s) t
    old x o i t e =
        vars-more (Usable ks s.sorts o) (Old s) (usable-old ks s.sorts o) t.parts (p.over x o i t e)

-- and what earlier values say at later ones
pub means-on :
    (ks : List ℕ) (sc : Scope) (s : PlainState) (v w : Valuation) (env : PlainEnv) (a : Valuation) →
    Placed ks sc s.sorts env → Agree (Old s) v w → Means sc v env a → Means sc w env a
means-on ks sc s v w env a p g m = record {
  under = m.under ∙ sym g.under;
  whole = λ x i t e. value-agree (Old s) v w g t (old x Int i t e) ∙ m.whole x i t e;
  share = λ x i t e. amount-agree (Old s) v w g t (old x Perm i t e) ∙ m.share x i t e;
}
  where
    old :
        (x : ℕ) (o : Sort) → HasSort sc o x → (t : Linear) → term_of env x ≡ Some t → Over (Old s) t
    old x o i t e =
        vars-more (Usable ks s.sorts o) (Old s) (usable-old ks s.sorts o) t.parts (p.over x o i t e)

-- ---- terms whose names are bound

abbrev pub Names : Scope → PlainEnv → Sort → ℕ → Type 0
Names sc env o x = HasSort sc o x × Bound env x

pub names-of :
    (sc : Scope) (env : PlainEnv) (o : Sort) (ps : List (ℕ × ℤ)) → Vars (HasSort sc o) ps →
    Vars (Bound env) ps → Vars (Names sc env o) ps
names-of sc env o [] h b = tt
names-of sc env o (p ∷ ps) h b = ((h.0, b.0), names-of sc env o ps h.1 b.1)

-- a term's value is the same by the names' terms and by the names' values
number-names :
    (sc : Scope) (v : Valuation) (env : PlainEnv) (a : Valuation) (o : Sort) (t : Linear) →
    Means sc v env a → Vars (Names sc env o) t.parts →
    value_by_sort o (by_terms v (bound_term env)) t ≡ value_by_sort o a t
number-names sc v env a Int t m h =
    value-is (by_terms v (bound_term env)).whole t
    ∙ ap (λ z. t.constant +ℤ z)
    (sum-agree (Names sc env Int) a.whole (λ x. value v.whole (bound_term env x))
    (λ x n. ap (λ u. value v.whole (unwrap_or u zero_value)) n.1.1
    ∙ m.whole x n.0 n.1.0 n.1.1) t.parts h)
    ∙ sym (value-is a.whole t)
number-names sc v env a Perm t m h =
    amount-is (by_terms v (bound_term env)).fraction t
    ∙ ap (λ n. t.constant *ℤ pos (n + 1) +ℤ parts_value
    (λ x. amount v.fraction (bound_term env x)) t.parts) (sym m.under)
    ∙ ap (λ z. t.constant *ℤ denominator a.fraction +ℤ z)
    (sum-agree (Names sc env Perm) a.fraction.numerator
    (λ x. amount v.fraction (bound_term env x))
    (λ x n. ap (λ u. amount v.fraction (unwrap_or u zero_value)) n.1.1
    ∙ m.share x n.0 n.1.0 n.1.1) t.parts h)
    ∙ sym (amount-is a.fraction t)

pub term-over :
    (ks : List ℕ) (sc : Scope) (sorts : List Sort) (env : PlainEnv) (o : Sort) (t : Linear) →
    Placed ks sc sorts env → TermFits sc o t → Vars (Bound env) t.parts →
    Over (Usable ks sorts o) (term_in env t)
term-over ks sc sorts env o t p h b =
    over-over (Usable ks sorts o) (Names sc env o) (bound_term env) t
    (λ x n. subst (λ u. Over (Usable ks sorts o) (unwrap_or u zero_value)) (sym n.1.1)
    (p.over x o n.0 n.1.0 n.1.1)) (names-of sc env o t.parts h b)

pub term-number :
    (sc : Scope) (v : Valuation) (env : PlainEnv) (a : Valuation) (o : Sort) (t : Linear) →
    Means sc v env a → TermFits sc o t → Vars (Bound env) t.parts →
    value_by_sort o v (term_in env t) ≡ value_by_sort o a t
term-number sc v env a o t m h b =
    number-over o v (bound_term env) t ∙ number-names sc v env a o t m
    (names-of sc env o t.parts h b)

-- the values that the bound names have
abbrev pub values_in : Valuation → PlainEnv → Valuation
values_in w env = by_terms w (bound_term env)

pub values-mean : (sc : Scope) (w : Valuation) (env : PlainEnv) → Means sc w env (values_in w env)
values-mean sc w env = record {
  under = refl;
  whole = λ x i t e. ap (λ u. value w.whole (unwrap_or u zero_value)) (sym e);
  share = λ x i t e. ap (λ u. amount w.fraction (unwrap_or u zero_value)) (sym e);
}

pub record CompBound (env : PlainEnv) (c : Comp) : Type 0 where
  pub left : Vars (Bound env) c.left.parts
  pub right : Vars (Bound env) c.right.parts

pub comp-over :
    (ks : List ℕ) (sc : Scope) (sorts : List Sort) (env : PlainEnv) (c : Comp) (op : Op) →
    Placed ks sc sorts env → CompFits sc c → CompBound env c →
    RowOver (Usable ks sorts) (comp_row env op c)
comp-over ks sc sorts env c op p h b =
    row-over (Usable ks sorts) (term_in env c.left) op (term_in env c.right) c.sort
    (term-over ks sc sorts env c.sort c.left p h.0 b.left)
    (term-over ks sc sorts env c.sort c.right p h.1 b.right)

-- the row of a comparison holds exactly where the comparison does at the names' values
pub comp-holds :
    (sc : Scope) (v : Valuation) (env : PlainEnv) (a : Valuation) (c : Comp) (op : Op) →
    Means sc v env a → CompFits sc c → CompBound env c →
    Relates op (value_by_sort c.sort a c.left) (value_by_sort c.sort a c.right) →
    Holds v (comp_row env op c)
comp-holds sc v env a c op m h b k =
    (row_of-means v (term_in env c.left) op (term_in env c.right) c.sort).1
    (relates-same op _ _ _ _ (sym (term-number sc v env a c.sort c.left m h.0 b.left))
    (sym (term-number sc v env a c.sort c.right m h.1 b.right)) k)

pub comp-means :
    (sc : Scope) (v : Valuation) (env : PlainEnv) (a : Valuation) (c : Comp) (op : Op) →
    Means sc v env a → CompFits sc c → CompBound env c → Holds v (comp_row env op c) →
    Relates op (value_by_sort c.sort a c.left) (value_by_sort c.sort a c.right)
comp-means sc v env a c op m h b k =
    relates-same op _ _ _ _ (term-number sc v env a c.sort c.left m h.0 b.left)
    (term-number sc v env a c.sort c.right m h.1 b.right)
    ((row_of-means v (term_in env c.left) op (term_in env c.right) c.sort).0 k)

-- determined terms
pub bound-of :
    (env : PlainEnv) (ps : List (ℕ × ℤ)) → list_all (λ p. is_some (term_of env p.0)) ps ≡ true →
    Vars (Bound env) ps
bound-of env [] h = tt
bound-of env (p ∷ ps) h = by_head (term_of env p.0) refl h (λ k. bound-of env ps k)
  where
    by_head :
        (o : Option Linear) → term_of env p.0 ≡ o →
        (is_some o && list_all (λ p. is_some (term_of env p.0)) ps) ≡ true →
        (list_all (λ p. is_some (term_of env p.0)) ps ≡ true → Vars (Bound env) ps) →
        Vars (Bound env) (p ∷ ps)
    by_head None e h f = absurd (cc)
    by_head (Some t) e h f = ((t, e), f h)

pub comp-bound : (env : PlainEnv) (c : Comp) → AreDetermined env c → CompBound env c
comp-bound env c d = record {
  left = bound-of env c.left.parts d.left;
  right = bound-of env c.right.parts d.right;
}

-- ---- names get variables

-- everything that giving an item starts from
pub record Ready (sc : Scope) (e : ℕ) (a v : Valuation) (s : PlainState) : Type 0 where
  pub meets : Meets [] v s
  pub there : e < length s.envs
  pub placed : Placed [] sc s.sorts (env_at s e)
  pub means : Means sc v (env_at s e) a

pub record Step (sc : Scope) (e : ℕ) (a v : Valuation) (s t : PlainState) : Type 0 where
  pub w : Valuation
  pub ready : Ready sc e a w t
  pub agree : Agree (Old s) v w
  pub same : Same s t
  pub cells : t.cells ≡ s.cells
  pub guards : t.guards ≡ s.guards
  pub stays : Stays sc (env_at s e) (env_at t e)
  pub others : Others e s t

abbrev pub step-none :
    (sc : Scope) (e : ℕ) (a v : Valuation) (s : PlainState) → Ready sc e a v s → Step sc e a v s s
step-none sc e a v s r = record {
  w = v;
  ready = r;
  agree = agree-same (Old s) v;
  same = same-state s;
  cells = refl;
  guards = refl;
  stays = λ x o i t h. h;
  others = λ x ne. refl;
}

abbrev pub step-trans :
    (sc : Scope) (e : ℕ) (a v : Valuation) (s t u : PlainState) → (m : Step sc e a v s t) →
    Step sc e a m.w t u → Step sc e a v s u
step-trans sc e a v s t u m n = record {
  w = n.w;
  ready = n.ready;
  agree = agree-on s t v m.w n.w m.same m.agree n.agree;
  same = same-trans s t u m.same n.same;
  cells = n.cells ∙ m.cells;
  guards = n.guards ∙ m.guards;
  stays = λ x o i y h. n.stays x o i y (m.stays x o i y h);
  others = λ x ne. n.others x ne ∙ m.others x ne;
}

-- a fresh variable of this value
abbrev pub step-fresh :
    (sc : Scope) (e : ℕ) (a v : Valuation) (s : PlainState) (o : Sort) (z y : ℤ) →
    SortOk (with_value v (length s.sorts) z y) (length s.sorts) o → Ready sc e a v s →
    Step sc e a v s (sort_added s o)
step-fresh sc e a v s o z y ok r =
    let n = length s.sorts in
    let w = with_value v n z y in
    let ag : Agree (Old s) v w = with-agrees (Old s) v n z y (λ x l q. omega (arith, l, q)) in
    record {
      w = w;
      ready = record {
        meets = meets-fresh [] v w s o ag ok r.meets;
        there = r.there;
        placed =
            placed-more [] sc s.sorts (s.sorts ++ o ∷ []) (env_at s e)
            (λ x p h. get-first s.sorts (o ∷ []) x p h) r.placed;
        means = means-on [] sc s v w (env_at s e) a r.placed ag r.means;
      };
      agree = ag;
      same = same-fresh s o;
      cells = refl;
      guards = refl;
      stays = λ x p i t h. h;
      others = λ x ne. refl;
    }

-- a name got a term, and the values are these
pub record Named (sc : Scope) (e : ℕ) (a v : Valuation) (s : PlainState) (x : ℕ) (f : Filled)
    (P : PlainState → Type 0) : Type 0 where
  pub after : PlainState
  pub step : Step sc e a v s after
  pub filled : filled_at e step.w after ≡ f
  pub bound : Bound (env_at after e) x
  pub comes : P after

pub named :
    (sc : Scope) (e : ℕ) (a v : Valuation) (s : PlainState) (x : ℕ) (o : Sort)
    (P : PlainState → Type 0) → Ready sc e a v s → HasSort sc o x →
    Comes (name_as s e o x (term_of (env_at s e) x)) P →
    Named sc e a v s x (fill_name a o x (term_of (env_at s e) x) (filled_at e v s)) P
named sc e a v s x o P r i c = by (term_of (env_at s e) x) refl c
  where
    n : ℕ
    n = length s.sorts

    env : PlainEnv
    env = env_at s e

    y : ℤ
    y = share_for o (a.whole x *ℤ denominator v.fraction) (a.fraction.numerator x)

    w : Valuation
    w = with_value v n (a.whole x) y

    ok : (q : Sort) → o ≡ q → SortOk w n q
    ok Int j =
        new-share v n (a.whole x) y ∙ ap
        (λ p. share_for p (a.whole x *ℤ denominator v.fraction) (a.fraction.numerator x)) j ∙ ap
        (λ z. z *ℤ denominator v.fraction) (sym (new-whole v n (a.whole x) y))
    ok Perm j = tt

    one_sort : (q : Sort) → HasSort sc q x → o ≡ q
    one_sort q j = some-same o q (some-same (Some o) (Some q) (sym i ∙ j))

    by :
        (m : Option Linear) → term_of (env_at s e) x ≡ m → Comes (name_as s e o x m) P →
        Named sc e a v s x (fill_name a o x m (filled_at e v s)) P
    by (Some t) q c = record {
      after = s;
      step = step-none sc e a v s r;
      filled = refl;
      bound = (t, q);
      comes = c.1;
    }
    by None q c =
        let l = r.placed.room x o i in
        let s1 = sort_added s o in
        let env1 = with_name env x (fresh s) in
        let s2 = with_env_at s1 e env1 in
        let k = step-fresh sc e a v s o (a.whole x) y (ok o refl) r in
        let at1 : env_at s2 e ≡ env1 = at-env s1 e env1 r.there in
        let fresh_is : (p : Sort) → HasSort sc p x → slice_get s1.sorts n ≡ Some p =
        (λ p j. get-last s.sorts o ∙ ap Some (one_sort p j)) in
        let p1 : Placed [] sc s1.sorts env1 = placed-set [] sc s1.sorts env x (fresh s)
        (λ p j. ((is-of s1.sorts p n (fresh_is p j), tt), tt)) k.ready.placed in
        let m1 : Means sc w env1 a = means-set sc w env a x (fresh s) l
        (λ j. variable-value w n ∙ new-whole v n (a.whole x) y)
        (λ j. variable-amount w n ∙ new-share v n (a.whole x) y ∙ ap
        (λ p. share_for p (a.whole x *ℤ denominator v.fraction)
        (a.fraction.numerator x)) (one_sort Perm j)) k.ready.means in
        let st : Stays sc env env1 = stays-set sc env x (fresh s) q in
        let len : length (slice_set s.envs e env1) ≡ length s.envs = set-length s.envs e env1 in
        let th = r.there in
        record {
          after = s2;
          step = record {
            w = w;
            ready = record {
              meets = meets-env [] w s1 (slice_set s.envs e env1) k.ready.meets;
              there = omega (arith, len, th);
              placed = subst (Placed [] sc s1.sorts) (sym at1) p1;
              means = subst (λ z. Means sc w z a) (sym at1) m1;
            };
            agree = k.agree;
            same = same-trans s s1 s2 (same-fresh s o) (same-env s1 e env1);
            cells = refl;
            guards = refl;
            stays = λ z p j t h. ap (λ u. term_of u z) at1 ∙ st z p j t h;
            others = others-env s1 e env1;
          };
          filled = λ i. record { env = at1 i; next = push-length s.sorts o i; values = w };
          bound = (fresh s, ap (λ z. term_of z x) at1 ∙ term-same env x (fresh s) l);
          comes =
              (after-sort s o
              (λ s'. unit (with_env_at s' e (with_name (env_at s e) x (fresh s)))) P c).1;
        }

-- all names of a term get terms
pub record PartsNamed (sc : Scope) (e : ℕ) (a v : Valuation) (s : PlainState) (ps : List (ℕ × ℤ))
    (f : Filled) (P : PlainState → Type 0) : Type 0 where
  pub after : PlainState
  pub step : Step sc e a v s after
  pub filled : filled_at e step.w after ≡ f
  pub bound : Vars (Bound (env_at after e)) ps
  pub comes : P after

pub parts-named :
    (sc : Scope) (e : ℕ) (a : Valuation) (o : Sort) (ps : List (ℕ × ℤ)) (v : Valuation)
    (s : PlainState) (P : PlainState → Type 0) → Ready sc e a v s → Vars (HasSort sc o) ps →
    Comes (name_parts s e o ps) P →
    PartsNamed sc e a v s ps (fill_parts a o ps (filled_at e v s)) P
parts-named sc e a o [] v s P r h c = record {
  after = s;
  step = step-none sc e a v s r;
  filled = refl;
  bound = tt;
  comes = c.1;
}
parts-named sc e a o (p ∷ ps) v s P r h c =
    let m = named sc e a v s p.0 o (λ s'. Comes (name_parts s' e o ps) P) r h.0
    (comes-bind (name_as s e o p.0 (term_of (env_at s e) p.0))
    (λ s'. name_parts s' e o ps) P c) in
    let n = parts-named sc e a o ps m.step.w m.after P m.step.ready h.1 m.comes in
    record {
      after = n.after;
      step = step-trans sc e a v s m.after n.after m.step n.step;
      filled = n.filled ∙ ap (fill_parts a o ps) m.filled;
      bound = ((m.bound.0, n.step.stays p.0 o h.0 m.bound.0 m.bound.1), n.bound);
      comes = n.comes;
    }
