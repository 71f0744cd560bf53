-- What names stand for, and the values of a fill's names: they are the same and of their sorts, and
-- stay so where a slot is met.
use Rattle.std.proofs.Common.{◌≡◌, ◌≢◌, ◌⊎◌, inl, inr, ℕ, zero, suc, ◌-◌, ◌<◌, ℤ, pos, ◌*ℤ◌, Bool, true, false, List, [], ◌∷◌, ◌++◌, length, Option, Some, None, refl, sym, ap, ◌∙◌, subst, arith}
use Rattle.std.specs.Prelude.{slice_get, slice_set, unwrap_or, is_some, if◌then◌else◌, ◌&&◌, IsSomeAnd}
use Rattle.std.specs.List.{AllZip, list_all}
use Rattle.std.proofs.lemmas.Bool.{cases_eq}
use Rattle.cap_lin.specs.Linear.{Linear, variable}
use Rattle.cap_lin.specs.Values.{Valuation, denominator, value, amount}
use Rattle.cap_lin.specs.Solves.{IsWholeAt}
use Rattle.cap_lin.proofs.Infeasible.{whole-amount}
use Rattle.cap_lin.specs.declared.row.Sort.{Sort}
use Rattle.cap_lin.specs.declared.row.Sort.TheVariants.{Int, Perm}
use Rattle.cap_prog.specs.declared.assertion.Slot.{Slot}
use Rattle.cap_prog.specs.declared.assertion.Slot.TheVariants.{Any, Is}
use Rattle.cap_prog.specs.Scopes.{Scope, HasSort, SlotFits}
use Rattle.cap_goal_spec.specs.Terms.{lone_variable}
use Rattle.cap_goal_spec.specs.States.{PlainEnv}
use Rattle.cap_goal_spec.specs.Environments.{zero_value, term_of, bound_term, is_determined, with_name, Reading, settled, open_to, stuck, read_name, reading}
use Rattle.cap_machine_accounts.specs.Assertions.{NameValue, a_number, a_fraction}
use Rattle.cap_account_resources.proofs.Lists.{some-same, none-some, within as index-within, join-nil, get-or-set, get-or-other, set-length}
use Rattle.cap_account_resources.proofs.Order.{turned}
use Rattle.cap_gsolve.proofs.Amounts.{zero-amount, zero-value}
use Rattle.cap_account_states.proofs.Terms.{Vars, Over, vars-more, whole-parts}
use Rattle.cap_account_states.proofs.Meets.{Usable, variable-value, variable-amount}
use Rattle.cap_account_states.proofs.Naming.{values_in, Placed, term-same, term-other}
use Rattle.cap_account_states.proofs.Matching.{lone-is, met_env}
use Rattle.cap_owners_spec.specs.Traced.{Traced, traced, past_width, untold, ◌>>=◌, each, over, value_at, number_of, numerator_of, valuation, number_in}
use Rattle.cap_owners_spec.specs.Track.{Fill}
use Rattle.cap_owners_spec.specs.Filling.{bound_value, name_value, names_in, met}
use Rattle.cap_owners_walks_laws.proofs.Fills.Drawn.{slot_met}
use Rattle.cap_owners_walks_laws.proofs.Values.Numbers.{number-is, was-traced, traced-same}
use Rattle.cap_owners_walks_laws.proofs.Fills.Giving.{NamesFit}
use Rattle.cap_owners_walks_laws.proofs.Values.More.{FitsSort, number-fits, fits-share, number-told}

-- ---- terms over whole numbers

-- a variable has a value of its sort
pub sort-at :
    (os : List Sort) (vs : List NameValue) → AllZip FitsSort os vs → (o : Sort) (x : ℕ) →
    slice_get os x ≡ Some o → FitsSort o (value_at vs x)
sort-at [] vs h o x e = absurd (none-some e)
sort-at (q ∷ os) [] h o x e = absurd h
sort-at (q ∷ os) (v ∷ vs) h o zero e = subst (λ s. FitsSort s v) (some-same q o e) h.0
sort-at (q ∷ os) (v ∷ vs) h o (suc x) e = sort-at os vs h.1 o x e

-- one that may stand where a term of this sort is wanted has a value of that
usable-fits :
    (ks : List ℕ) (os : List Sort) (vs : List NameValue) → AllZip FitsSort os vs → (o : Sort)
    (x : ℕ) → Usable ks os o x → FitsSort o (value_at vs x)
usable-fits ks os vs h Int x u = sort-at os vs h Int x u.0
usable-fits ks os vs h Perm x u =
    fits-share u.0.0 (value_at vs x) (sort-at os vs h u.0.0 x u.0.1)

-- a variable of sort Int has a whole number
pub whole-at :
    (os : List Sort) (vs : List NameValue) → AllZip FitsSort os vs → (x : ℕ) →
    slice_get os x ≡ Some Int → IsWholeAt (valuation vs) x
whole-at os vs h x e = by (value_at vs x) (sort-at os vs h Int x e)
  where
    by : (v : NameValue) → FitsSort Int v → numerator_of v ≡ number_of v *ℤ pos over
    by (a_number z) k = refl
    by (a_fraction n d) k = absurd k

-- a term over whole numbers is one
pub whole-term :
    (v : Valuation) (t : Linear) → Over (IsWholeAt v) t →
    amount v.fraction t ≡ value v.whole t *ℤ denominator v.fraction
whole-term v t h =
    whole-amount v t (whole-parts v t.parts h)
    ∙ turned (denominator v.fraction) (value v.whole t)

pub int-term :
    (os : List Sort) (vs : List NameValue) → AllZip FitsSort os vs → (t : Linear) →
    Over (λ x. slice_get os x ≡ Some Int) t →
    amount (valuation vs).fraction t ≡ value (valuation vs).whole t *ℤ pos over
int-term os vs h t o =
    whole-term (valuation vs) t
    (vars-more (λ x. slice_get os x ≡ Some Int) (IsWholeAt (valuation vs)) (whole-at os vs h)
    t.parts o)

-- ---- names and their values

-- a share over the one denominator, and no number
abbrev pub IsShare : NameValue → Type 0
IsShare (a_number z) = ⊥
IsShare (a_fraction n d) = d ≡ over - 1

-- each name of a share that is bound stands for a variable alone, which has one
abbrev pub SharesBound : Scope → List NameValue → PlainEnv → Type 0
SharesBound sc vs env =
    (x : ℕ) (t : Linear) → HasSort sc Perm x → term_of env x ≡ Some t →
    IsSomeAnd (lone_variable t) (λ y. IsShare (value_at vs y))

-- and has one
abbrev pub NamesShare : Scope → PlainEnv → List NameValue → Type 0
NamesShare sc env ns =
    (x : ℕ) (t : Linear) → HasSort sc Perm x → term_of env x ≡ Some t → IsShare (value_at ns x)

-- the names' values are those that the environment says, and of the names' sorts; shares are shares
pub record NamesSo (sc : Scope) (vs : List NameValue) (env : PlainEnv) (ns : List NameValue)
    : Type 0 where
  pub same : values_in (valuation vs) env ≡ valuation ns
  pub size : length ns ≡ length env
  pub fits : NamesFit sc ns
  pub shares : SharesBound sc vs env → NamesShare sc env ns

-- from one environment to a later one, at more values: what is bound to shares stays so, and these are
-- values of the names then
pub record IsShaped (sc : Scope) (vs : List NameValue) (env : PlainEnv) (values : List NameValue)
    (later : PlainEnv) (ns : List NameValue) : Type 0 where
  pub grows : (ws : List NameValue) × (values ≡ vs ++ ws)
  pub keeps : SharesBound sc vs env → SharesBound sc values later
  pub size : length ns ≡ length later
  pub shares : SharesBound sc values later → NamesShare sc later ns

pub shaped-so :
    (sc : Scope) (vs : List NameValue) (env : PlainEnv) (values : List NameValue)
    (later : PlainEnv) (ns ws : List NameValue) → values ≡ vs ++ ws →
    NamesSo sc values later ns → (SharesBound sc vs env → SharesBound sc values later) →
    IsShaped sc vs env values later ns
shaped-so sc vs env values later ns ws e so keeps =
    record { grows = (ws, e); keeps = keeps; size = so.size; shares = so.shares }

-- no value more
pub shaped-same :
    (sc : Scope) (vs : List NameValue) (env later : PlainEnv) (ns : List NameValue) →
    NamesSo sc vs later ns → (SharesBound sc vs env → SharesBound sc vs later) →
    IsShaped sc vs env vs later ns
shaped-same sc vs env later ns so keeps =
    shaped-so sc vs env vs later ns [] (sym (join-nil vs)) so keeps

-- this is the term's value
pub record IsValue (v : Valuation) (t : Linear) (y : NameValue) : Type 0 where
  pub whole : value v.whole t ≡ number_of y
  pub share : amount v.fraction t ≡ numerator_of y

-- of each name
pub names-so :
    (sc : Scope) (vs : List NameValue) (env : PlainEnv) (ns : List NameValue) →
    length ns ≡ length env → NamesFit sc ns → (SharesBound sc vs env → NamesShare sc env ns) →
    ((x : ℕ) → IsValue (valuation vs) (bound_term env x) (value_at ns x)) →
    NamesSo sc vs env ns
names-so sc vs env ns size fits shares h = record {
  same = λ i. record {
    whole = λ x. (h x).whole i;
    fraction = record { numerator = λ x. (h x).share i; under = over - 1 };
  };
  size = size;
  fits = fits;
  shares = shares;
}

pub name-so :
    (sc : Scope) (vs : List NameValue) (env : PlainEnv) (ns : List NameValue) →
    NamesSo sc vs env ns → (x : ℕ) →
    IsValue (valuation vs) (bound_term env x) (value_at ns x)
name-so sc vs env ns h x = record {
  whole = ap (λ (a : Valuation). a.whole x) h.same;
  share = ap (λ (a : Valuation). a.fraction.numerator x) h.same;
}

zero-is : (v : Valuation) → IsValue v zero_value (a_number (pos 0))
zero-is v = record { whole = zero-value v.whole; share = zero-amount v.fraction }

pub variable-is :
    (vs : List NameValue) (x : ℕ) → IsValue (valuation vs) (variable x) (value_at vs x)
variable-is vs x = record {
  whole = variable-value (valuation vs) x;
  share = variable-amount (valuation vs) x;
}

pub lone-term : (t : Linear) (x : ℕ) → lone_variable t ≡ Some x → t ≡ variable x
lone-term t x e =
    let m = lone-is t x e in
    ap (λ c. record { constant = c; parts = t.parts }) m.1
    ∙ ap (λ ps. record { constant = pos 0; parts = ps }) m.0

-- ---- a name gets a term

-- where the environment binds it so and no other name differently
pub names-set :
    (sc : Scope) (vs : List NameValue) (env later : PlainEnv) (ns : List NameValue) (x : ℕ)
    (t : Linear) (y : NameValue) → NamesSo sc vs env ns → x < length env →
    length later ≡ length env → term_of later x ≡ Some t →
    ((i : ℕ) → i ≢ x → term_of later i ≡ term_of env i) → IsValue (valuation vs) t y →
    ((o : Sort) → HasSort sc o x → FitsSort o y) → (HasSort sc Perm x → IsShare y) →
    (SharesBound sc vs later → SharesBound sc vs env) →
    NamesSo sc vs later (slice_set ns x y)
names-set sc vs env later ns x t y h l size e others is fit strict before =
    names-so sc vs later (slice_set ns x y) (set-length ns x y ∙ h.size ∙ sym size) fits shares
    (λ i. elim (cases_eq i x) [
      | inl q ↦ subst
          (λ j. IsValue (valuation vs) (bound_term later j) (value_at (slice_set ns x y) j)) (sym q)
          (here (sym (get-or-set ns x y (a_number (pos 0))
          (let n = h.size in omega (arith, l, n)))))
      | inr ne ↦ there i ne (sym (get-or-other ns x i y (a_number (pos 0)) ne))
    ])
  where
    fits : NamesFit sc (slice_set ns x y)
    fits o i k = elim (cases_eq i x) [
      | inl q ↦ subst (λ j. FitsSort o (value_at (slice_set ns x y) j)) (sym q)
          (subst (FitsSort o)
          (sym (get-or-set ns x y (a_number (pos 0)) (let n = h.size in omega (arith, l, n))))
          (fit o (subst (HasSort sc o) q k)))
      | inr ne ↦ subst (FitsSort o) (sym (get-or-other ns x i y (a_number (pos 0)) ne))
          (h.fits o i k)
    ]

    shares : SharesBound sc vs later → NamesShare sc later (slice_set ns x y)
    shares b i u k q = elim (cases_eq i x) [
      | inl r ↦ subst (λ j. IsShare (value_at (slice_set ns x y) j)) (sym r)
          (subst IsShare
          (sym (get-or-set ns x y (a_number (pos 0)) (let n = h.size in omega (arith, l, n))))
          (strict (subst (HasSort sc Perm) r k)))
      | inr ne ↦ subst IsShare (sym (get-or-other ns x i y (a_number (pos 0)) ne))
          (h.shares (before b) i u k (sym (others i ne) ∙ q))
    ]

    here :
        {z : NameValue} → y ≡ z → IsValue (valuation vs) (bound_term later x) z
    here {z} q =
        subst (λ w. IsValue (valuation vs) (bound_term later x) w) q
        (subst (λ o. IsValue (valuation vs) (unwrap_or o zero_value) y) (sym e) is)

    there :
        (i : ℕ) → i ≢ x → {z : NameValue} → value_at ns i ≡ z →
        IsValue (valuation vs) (bound_term later i) z
    there i ne {z} q =
        subst (λ w. IsValue (valuation vs) (bound_term later i) w) q
        (subst (λ o. IsValue (valuation vs) (unwrap_or o zero_value) (value_at ns i))
        (sym (others i ne)) (name-so sc vs env ns h i))

-- ---- a slot that is read

pub data LoneOr (u : Linear) : Type 0 where
  no_name : lone_variable u ≡ None → LoneOr u
  one_name : (x : ℕ) → lone_variable u ≡ Some x → LoneOr u

pub lone-or : (u : Linear) → LoneOr u
lone-or u = by (lone_variable u) refl
  where
    by : (o : Option ℕ) → lone_variable u ≡ o → LoneOr u
    by None e = no_name e
    by (Some x) e = one_name x e

-- a term that is no name alone opens nothing
pub closed-reading :
    (env : PlainEnv) (u : Linear) → lone_variable u ≡ None →
    (reading env (Is u) ≡ settled u) ⊎ (reading env (Is u) ≡ stuck)
closed-reading env u e = by (is_determined env u) refl
  where
    by :
        (b : Bool) → is_determined env u ≡ b →
        (reading env (Is u) ≡ settled u) ⊎ (reading env (Is u) ≡ stuck)
    by true d = inl (ap (λ c. if c then settled u else read_name (lone_variable u)) d)
    by false d =
        inr (ap (λ c. if c then settled u else read_name (lone_variable u)) d ∙ ap read_name e)

lone-determined :
    (env : PlainEnv) (u : Linear) (x : ℕ) → lone_variable u ≡ Some x →
    is_determined env u ≡ (is_some (term_of env x) && true)
lone-determined env u x e =
    ap (λ ps. list_all (λ p. is_some (term_of env p.0)) ps) (lone-is u x e).0

-- a name alone is open where it is unbound
pub open-reading :
    (env : PlainEnv) (u : Linear) (x : ℕ) → lone_variable u ≡ Some x → term_of env x ≡ None →
    reading env (Is u) ≡ open_to (Some x)
open-reading env u x e none =
    ap (λ c. if c then settled u else read_name (lone_variable u))
    (lone-determined env u x e ∙ ap (λ o. is_some o && true) none)
    ∙ ap read_name e

pub bound-reading :
    (env : PlainEnv) (u : Linear) (x : ℕ) (t : Linear) → lone_variable u ≡ Some x →
    term_of env x ≡ Some t → reading env (Is u) ≡ settled u
bound-reading env u x t e some =
    ap (λ c. if c then settled u else read_name (lone_variable u))
    (lone-determined env u x e ∙ ap (λ o. is_some o && true) some)

-- ---- a slot is met

pub lone-fits :
    (sc : Scope) (o : Sort) (u : Linear) (x : ℕ) → lone_variable u ≡ Some x →
    SlotFits sc o (Is u) → HasSort sc o x
lone-fits sc o u x e h = (subst (Vars (HasSort sc o)) (lone-is u x e).0 h).0

-- a name has one sort
pub sort-same : (sc : Scope) (o p : Sort) (x : ℕ) → HasSort sc o x → HasSort sc p x → o ≡ p
sort-same sc o p x i j = some-same o p (some-same (Some o) (Some p) (sym i ∙ j))

-- what is bound to shares with a name more was so before
pub shares-before :
    (sc : Scope) (vs : List NameValue) (env : PlainEnv) (x : ℕ) (t : Linear) →
    term_of env x ≡ None → SharesBound sc vs (with_name env x t) → SharesBound sc vs env
shares-before sc vs env x t none b i u has e = elim (cases_eq i x) [
  | inl q ↦ absurd (none-some (sym none ∙ ap (term_of env) (sym q) ∙ e))
  | inr ne ↦ b i u has (term-other env x i t ne ∙ e)
]

-- a name that gets a term has it, or each has what it had
set-term-at :
    (env : PlainEnv) (x : ℕ) (t : Linear) (i : ℕ) (u : Linear) →
    term_of (with_name env x t) i ≡ Some u → ((i ≡ x) × (t ≡ u)) ⊎ (term_of env i ≡ Some u)
set-term-at env x t i u e = elim (cases_eq i x) [
  | inl q ↦ by q (slice_get env x) refl
  | inr ne ↦ inr (sym (term-other env x i t ne) ∙ e)
]
  where
    set-absent : (es : PlainEnv) (n : ℕ) → slice_get es n ≡ None → with_name es n t ≡ es
    set-absent [] n k = refl
    set-absent (m ∷ es) zero k = absurd (none-some (sym k))
    set-absent (m ∷ es) (suc n) k = ap (λ ys. m ∷ ys) (set-absent es n k)

    by :
        (i ≡ x) → (o : Option (Option Linear)) → slice_get env x ≡ o →
        ((i ≡ x) × (t ≡ u)) ⊎ (term_of env i ≡ Some u)
    by q None k =
        inr (ap (λ (e : PlainEnv). term_of e i) (sym (set-absent env x k)) ∙ e)
    by q (Some m) k =
        inl (
          q,
          some-same t u (sym (term-same env x t (index-within env x m k))
              ∙ ap (term_of (with_name env x t)) (sym q) ∙ e),
        )

-- a slot is met by a term: what is bound to shares stays so
pub shares-met :
    (sc : Scope) (vs : List NameValue) (env : PlainEnv) (o : Sort) (x : Slot) (t : Linear) →
    SlotFits sc o x → (o ≡ Perm → IsSomeAnd (lone_variable t) (λ y. IsShare (value_at vs y))) →
    SharesBound sc vs env → SharesBound sc vs (met_env env (reading env x) t)
shares-met sc vs env o Any t fit strict b = b
shares-met sc vs env o (Is u) t fit strict b = by (lone-or u)
  where
    P : Reading → Type 0
    P r = SharesBound sc vs (met_env env r t)

    at : (x : ℕ) → lone_variable u ≡ Some x → (m : Option Linear) → term_of env x ≡ m →
        P (reading env (Is u))
    at x e None none =
        subst P (sym (open-reading env u x e none)) (λ i w has q.
        elim (set-term-at env x t i w q) [
          | inl k ↦
              subst (λ z. IsSomeAnd (lone_variable z) (λ y. IsShare (value_at vs y))) k.1
              (strict (sort-same sc o Perm x (lone-fits sc o u x e fit)
              (subst (HasSort sc Perm) k.0 has)))
          | inr k ↦ b i w has k
        ])
    at x e (Some z) some = subst P (sym (bound-reading env u x z e some)) b

    by : LoneOr u → P (reading env (Is u))
    by (no_name e) = elim (closed-reading env u e) [
      | inl q ↦ subst P (sym q) b
      | inr q ↦ subst P (sym q) b
    ]
    by (one_name x e) = at x e (term_of env x) refl

-- a sort is one
pub int-only : {A : Type 0} → Int ≡ Perm → A
int-only e = absurd (unlike e)
  where
    unlike : Int ≡ Perm → ⊥
    unlike e = cc

-- with more values shares are shares
pub share-first :
    (vs ws : List NameValue) (y : ℕ) → IsShare (value_at vs y) → IsShare (value_at (vs ++ ws) y)
share-first [] ws y h = absurd h
share-first (v ∷ vs) ws zero h = h
share-first (v ∷ vs) ws (suc y) h = share-first vs ws y h

pub shares-more :
    (sc : Scope) (vs ws : List NameValue) (env : PlainEnv) → SharesBound sc vs env →
    SharesBound sc (vs ++ ws) env
shares-more sc vs ws env b x t has e = by (lone_variable t) (b x t has e)
  where
    by :
        (o : Option ℕ) → IsSomeAnd o (λ y. IsShare (value_at vs y)) →
        IsSomeAnd o (λ y. IsShare (value_at (vs ++ ws) y))
    by None h = h
    by (Some y) h = share-first vs ws y h

-- by a term's value: the names' values are those of the environment then
pub met-names :
    (ks : List ℕ) (sc : Scope) (sorts : List Sort) (vs : List NameValue) (env : PlainEnv) (o : Sort)
    (x : Slot) (t : Linear) (y : NameValue) (f : Fill) → Placed ks sc sorts env →
    SlotFits sc o x → NamesSo sc vs env f.names → IsValue (valuation vs) t y →
    FitsSort o y → (o ≡ Perm → IsShare y) →
    NamesSo sc vs (met_env env (reading env x) t) (met (reading env x) y f).names
met-names ks sc sorts vs env o Any t y f pl fit h is k strict = h
met-names ks sc sorts vs env o (Is u) t y f pl fit h is k strict = by (lone-or u)
  where
    P : Reading → Type 0
    P r = NamesSo sc vs (met_env env r t) (met r y f).names

    at : (x : ℕ) → lone_variable u ≡ Some x → (m : Option Linear) → term_of env x ≡ m →
        P (reading env (Is u))
    at x e None none =
        subst P (sym (open-reading env u x e none))
        (let has = lone-fits sc o u x e fit in
        let l = pl.room x o has in
        names-set sc vs env (with_name env x t) f.names x t y h l (set-length env x (Some t))
        (term-same env x t l) (λ i ne. term-other env x i t ne) is
        (λ p j. subst (λ q. FitsSort q y) (sort-same sc o p x has j) k)
        (λ j. strict (sort-same sc o Perm x has j)) (shares-before sc vs env x t none))
    at x e (Some z) some = subst P (sym (bound-reading env u x z e some)) h

    by : LoneOr u → P (reading env (Is u))
    by (no_name e) = elim (closed-reading env u e) [
      | inl q ↦ subst P (sym q) h
      | inr q ↦ subst P (sym q) h
    ]
    by (one_name x e) = at x e (term_of env x) refl

-- ---- the names' values are computed

each-length :
    {A B : Type 0} (f : A → Traced B) (xs : List A) (ys : List B) → each f xs ≡ traced ys →
    length ys ≡ length xs
each-length f [] ys e = ap length (sym (traced-same [] ys e))
each-length {A} {B} f (x ∷ xs) ys e =
    let a = was-traced (f x) (λ y. each f xs >>= λ zs. traced (y ∷ zs)) ys e in
    let b = was-traced (each f xs) (λ zs. traced (a.0 ∷ zs)) ys a.2 in
    ap length (sym (traced-same (a.0 ∷ b.0) ys b.2)) ∙ ap suc (each-length f xs b.0 b.1)

module _ (vs : List NameValue) (os : List Sort) (sorted : AllZip FitsSort os vs) where
  -- a name's value is its term's
  value-so :
      (t : Linear) (y : NameValue) →
      (IsSomeAnd (lone_variable t) (λ x. x < length os) ⊎ Over (λ x. slice_get os x ≡ Some Int) t) →
      bound_value vs t (lone_variable t) ≡ traced y → IsValue (valuation vs) t y
  value-so t y fit e = by (lone_variable t) refl fit e
    where
      by :
          (o : Option ℕ) → lone_variable t ≡ o →
          (IsSomeAnd o (λ x. x < length os) ⊎ Over (λ x. slice_get os x ≡ Some Int) t) →
          bound_value vs t o ≡ traced y → IsValue (valuation vs) t y
      by (Some x) q fit e =
          subst (λ z. IsValue (valuation vs) t z) (traced-same (value_at vs x) y e)
          (subst (λ u. IsValue (valuation vs) u (value_at vs x)) (sym (lone-term t x q))
          (variable-is vs x))
      by None q (inl h) e = absurd h
      by None q (inr h) e =
          let a = was-traced (number_in vs t) (λ z. traced (a_number z)) y e in
          let is = number-is vs t a.0 a.1 in
          subst (λ z. IsValue (valuation vs) t z) (traced-same (a_number a.0) y a.2) (record {
            whole = sym is;
            share = int-term os vs sorted t h ∙ ap (λ z. z *ℤ pos over) (sym is);
          })

  abbrev pub TermsFit : PlainEnv → Type 0
  TermsFit env =
      (x : ℕ) (t : Linear) → term_of env x ≡ Some t →
      IsSomeAnd (lone_variable t) (λ x. x < length os)
      ⊎ Over (λ x. slice_get os x ≡ Some Int) t

  named-so :
      (o : Option Linear) (y : NameValue) →
      ((t : Linear) → o ≡ Some t →
      IsSomeAnd (lone_variable t) (λ x. x < length os)
      ⊎ Over (λ x. slice_get os x ≡ Some Int) t) → name_value vs o ≡ traced y →
      IsValue (valuation vs) (unwrap_or o zero_value) y
  named-so None y fit e =
      subst (λ z. IsValue (valuation vs) zero_value z)
      (traced-same (a_number (pos 0)) y e) (zero-is (valuation vs))
  named-so (Some t) y fit e = value-so t y (fit t refl) e

  name-in :
      (env : PlainEnv) (ns : List NameValue) (x : ℕ) → TermsFit env →
      each (name_value vs) env ≡ traced ns →
      IsValue (valuation vs) (bound_term env x) (value_at ns x)
  name-in [] ns x fit e =
      subst (λ (ms : List NameValue). IsValue (valuation vs) zero_value (value_at ms x))
      (traced-same [] ns e) (zero-is (valuation vs))
  name-in (o ∷ env) ns zero fit e =
      let a = was-traced (name_value vs o)
      (λ y. each (name_value vs) env >>= λ zs. traced (y ∷ zs)) ns e in
      let b = was-traced (each (name_value vs) env) (λ zs. traced (a.0 ∷ zs)) ns a.2 in
      subst (λ (ms : List NameValue). IsValue (valuation vs) (unwrap_or o zero_value)
      (value_at ms 0)) (traced-same (a.0 ∷ b.0) ns b.2) (named-so o a.0 (fit 0) a.1)
  name-in (o ∷ env) ns (suc x) fit e =
      let a = was-traced (name_value vs o)
      (λ y. each (name_value vs) env >>= λ zs. traced (y ∷ zs)) ns e in
      let b = was-traced (each (name_value vs) env) (λ zs. traced (a.0 ∷ zs)) ns a.2 in
      subst (λ (ms : List NameValue). IsValue (valuation vs) (bound_term env x)
      (value_at ms (suc x))) (traced-same (a.0 ∷ b.0) ns b.2)
      (name-in env b.0 x (λ i. fit (suc i)) b.1)

  -- and of its sort, where its term is so
  abbrev TermOver : List ℕ → Sort → Linear → Type 0
  TermOver ks o t = Over (Usable ks os o) t

  value-fits :
      (ks : List ℕ) (o : Sort) (t : Linear) (y : NameValue) → TermOver ks o t →
      bound_value vs t (lone_variable t) ≡ traced y → FitsSort o y
  value-fits ks o t y there e = by (lone_variable t) refl e
    where
      by : (m : Option ℕ) → lone_variable t ≡ m → bound_value vs t m ≡ traced y → FitsSort o y
      by (Some x) q e =
          subst (FitsSort o) (traced-same (value_at vs x) y e)
          (usable-fits ks os vs sorted o x (subst (Vars (Usable ks os o)) (lone-is t x q).0 there).0)
      by None q e =
          let a = was-traced (number_in vs t) (λ z. traced (a_number z)) y e in
          subst (FitsSort o) (traced-same (a_number a.0) y a.2) (number-fits o a.0)

  named-fits :
      (ks : List ℕ) (o : Sort) (m : Option Linear) (y : NameValue) →
      ((t : Linear) → m ≡ Some t → TermOver ks o t) → name_value vs m ≡ traced y → FitsSort o y
  named-fits ks o None y there e =
      subst (FitsSort o) (traced-same (a_number (pos 0)) y e) (number-fits o (pos 0))
  named-fits ks o (Some t) y there e = value-fits ks o t y (there t refl) e

  name-fits :
      (ks : List ℕ) (o : Sort) (env : PlainEnv) (ns : List NameValue) (x : ℕ) →
      ((t : Linear) → term_of env x ≡ Some t → TermOver ks o t) →
      each (name_value vs) env ≡ traced ns → FitsSort o (value_at ns x)
  name-fits ks o [] ns x there e =
      subst (λ (ms : List NameValue). FitsSort o (value_at ms x)) (traced-same [] ns e)
      (number-fits o (pos 0))
  name-fits ks o (m ∷ env) ns zero there e =
      let a = was-traced (name_value vs m)
      (λ y. each (name_value vs) env >>= λ zs. traced (y ∷ zs)) ns e in
      let b = was-traced (each (name_value vs) env) (λ zs. traced (a.0 ∷ zs)) ns a.2 in
      subst (λ (ms : List NameValue). FitsSort o (value_at ms 0)) (traced-same (a.0 ∷ b.0) ns b.2)
      (named-fits ks o m a.0 there a.1)
  name-fits ks o (m ∷ env) ns (suc x) there e =
      let a = was-traced (name_value vs m)
      (λ y. each (name_value vs) env >>= λ zs. traced (y ∷ zs)) ns e in
      let b = was-traced (each (name_value vs) env) (λ zs. traced (a.0 ∷ zs)) ns a.2 in
      subst (λ (ms : List NameValue). FitsSort o (value_at ms (suc x)))
      (traced-same (a.0 ∷ b.0) ns b.2) (name-fits ks o env b.0 x there b.1)

  -- a variable alone has a share, and so has the name
  name-share :
      (env : PlainEnv) (ns : List NameValue) (x : ℕ) (t : Linear) → term_of env x ≡ Some t →
      IsSomeAnd (lone_variable t) (λ y. IsShare (value_at vs y)) →
      each (name_value vs) env ≡ traced ns → IsShare (value_at ns x)
  name-share [] ns x t k h e = absurd (none-some k)
  name-share (m ∷ env) ns zero t k h e =
      let a = was-traced (name_value vs m)
      (λ y. each (name_value vs) env >>= λ zs. traced (y ∷ zs)) ns e in
      let b = was-traced (each (name_value vs) env) (λ zs. traced (a.0 ∷ zs)) ns a.2 in
      subst (λ (ms : List NameValue). IsShare (value_at ms 0)) (traced-same (a.0 ∷ b.0) ns b.2)
      (at (lone_variable t) h a.0 (sym (ap (name_value vs) k) ∙ a.1))
    where
      at :
          (o : Option ℕ) → IsSomeAnd o (λ y. IsShare (value_at vs y)) → (z : NameValue) →
          bound_value vs t o ≡ traced z → IsShare z
      at None h z q = absurd h
      at (Some y) h z q = subst IsShare (traced-same (value_at vs y) z q) h
  name-share (m ∷ env) ns (suc x) t k h e =
      let a = was-traced (name_value vs m)
      (λ y. each (name_value vs) env >>= λ zs. traced (y ∷ zs)) ns e in
      let b = was-traced (each (name_value vs) env) (λ zs. traced (a.0 ∷ zs)) ns a.2 in
      subst (λ (ms : List NameValue). IsShare (value_at ms (suc x)))
      (traced-same (a.0 ∷ b.0) ns b.2) (name-share env b.0 x t k h b.1)

  -- all of them
  pub names-in-so :
      (ks : List ℕ) (sc : Scope) (env : PlainEnv) (ns : List NameValue) → Placed ks sc os env →
      TermsFit env → names_in vs env ≡ traced ns → NamesSo sc vs env ns
  names-in-so ks sc env ns placed fit e =
      names-so sc vs env ns (each-length (name_value vs) env ns e)
      (λ o x h. name-fits ks o env ns x (placed.over x o h) e)
      (λ b x t has k. name-share env ns x t k (b x t has k) e) (λ x. name-in env ns x fit e)

  value-told : (t : Linear) (o : Option ℕ) → bound_value vs t o ≡ untold → ⊥
  value-told t (Some x) e = absurd (cc)
  value-told t None e = by (number_in vs t) refl e
    where
      by : (m : Traced ℤ) → number_in vs t ≡ m → (m >>= λ z. traced (a_number z)) ≡ untold → ⊥
      by (traced z) q e = absurd (cc)
      by past_width q e = absurd (cc)
      by untold q e = number-told vs t q

  name-told : (o : Option Linear) → name_value vs o ≡ untold → ⊥
  name-told None e = absurd (cc)
  name-told (Some t) e = value-told t (lone_variable t) e

  -- they are told of
  pub names-told : (env : PlainEnv) → names_in vs env ≡ untold → ⊥
  names-told [] e = absurd (cc)
  names-told (o ∷ env) e =
      by (name_value vs o) (each (name_value vs) env) refl (λ q. names-told env q) e
    where
      by :
          (m : Traced NameValue) (ms : Traced (List NameValue)) → name_value vs o ≡ m →
          (ms ≡ untold → ⊥) → (m >>= λ y. ms >>= λ zs. traced (y ∷ zs)) ≡ untold → ⊥
      by (traced y) (traced zs) p q e = absurd (cc)
      by (traced y) past_width p q e = absurd (cc)
      by (traced y) untold p q e = q refl
      by past_width ms p q e = absurd (cc)
      by untold ms p q e = name-told o p

-- ---- terms of names

-- a name that gets a term has it, or what it had
set-term :
    (env : PlainEnv) (x : ℕ) (t : Linear) (i : ℕ) (u : Linear) →
    term_of (with_name env x t) i ≡ Some u → (t ≡ u) ⊎ (term_of env i ≡ Some u)
set-term [] x t i u e = inr e
set-term (o ∷ env) zero t zero u e = inl (some-same t u e)
set-term (o ∷ env) zero t (suc i) u e = inr e
set-term (o ∷ env) (suc x) t zero u e = inr e
set-term (o ∷ env) (suc x) t (suc i) u e = set-term env x t i u e

-- what holds of each term of a name, and of the one that meets a slot, does so then
pub met-terms :
    (P : Linear → Type 0) (env : PlainEnv) (r : Reading) (t : Linear) → P t →
    ((x : ℕ) (u : Linear) → term_of env x ≡ Some u → P u) →
    (x : ℕ) (u : Linear) → term_of (met_env env r t) x ≡ Some u → P u
met-terms P env (open_to None) t h k x u e = k x u e
met-terms P env (open_to (Some y)) t h k x u e =
    elim (set-term env y t x u e) [ inl q ↦ subst P q h | inr q ↦ k x u q ]
met-terms P env (settled z) t h k x u e = k x u e
met-terms P env stuck t h k x u e = k x u e

-- ---- what is met beside names

-- the value of a slot `_`
abbrev pub slot_value : Slot → NameValue → List NameValue
slot_value Any y = y ∷ []
slot_value (Is t) y = []

pub slot-value : (x : Slot) (z : ℤ) → slot_met x z ≡ slot_value x (a_number z)
slot-value Any z = refl
slot-value (Is t) z = refl

named-reading : (env : PlainEnv) (u : Linear) → reading env (Is u) ≡ open_to None → ⊥
named-reading env u e = by (is_determined env u) (lone_variable u) e
  where
    by :
        (b : Bool) (o : Option ℕ) → (if b then settled u else read_name o) ≡ open_to None → ⊥
    by true o e = absurd (cc)
    by false None e = absurd (cc)
    by false (Some x) e = absurd (cc)

met-named :
    (r : Reading) (y : NameValue) (f : Fill) → (r ≡ open_to None → ⊥) →
    (met r y f).wildcards ≡ f.wildcards
met-named (open_to None) y f ne = absurd (ne refl)
met-named (open_to (Some x)) y f ne = refl
met-named (settled t) y f ne = refl
met-named stuck y f ne = refl

pub met-wildcards :
    (env : PlainEnv) (x : Slot) (y : NameValue) (f : Fill) →
    (met (reading env x) y f).wildcards ≡ f.wildcards ++ slot_value x y
met-wildcards env Any y f = refl
met-wildcards env (Is u) y f =
    met-named (reading env (Is u)) y f (named-reading env u) ∙ sym (join-nil f.wildcards)

pub met-facts : (r : Reading) (y : NameValue) (f : Fill) → (met r y f).facts ≡ f.facts
met-facts (open_to None) y f = refl
met-facts (open_to (Some x)) y f = refl
met-facts (settled t) y f = refl
met-facts stuck y f = refl

-- the last value
pub at-last : (vs : List NameValue) (v : NameValue) → value_at (vs ++ v ∷ []) (length vs) ≡ v
at-last [] v = refl
at-last (y ∷ vs) v = at-last vs v
