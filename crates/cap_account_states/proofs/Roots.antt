-- The states at the roots of a function hold of the values that its assertions have.
use Rattle.std.proofs.Common.{◌≡◌, ℕ, zero, suc, ◌+◌, ◌<◌, ◌≤◌, ℤ, pos, ◌*ℤ◌, List, [], ◌∷◌, ◌++◌, length, map, replicate, arith, refl, sym, ap, ◌∙◌, subst, Option, Some, None, inl, inr, true, false}
use Rattle.std.specs.Prelude.{slice_get, get_or, nat_lt, unwrap_or, if◌then◌else◌}
use Rattle.std.specs.List.{AllByRecursion}
use Rattle.std.proofs.lemmas.Bool.Decides.{nat_tests}
use Rattle.cap_lin.specs.Linear.{Linear, variable}
use Rattle.cap_lin.specs.Values.{Valuation, value, amount}
use Rattle.cap_lin.specs.Solves.{IsWholeAt}
use Rattle.cap_lin.specs.declared.row.Sort.{Sort}
use Rattle.cap_lin.specs.declared.row.Sort.TheVariants.{Int, Perm}
use Rattle.cap_prog.specs.Program.{PlainFunction, PlainProgram}
use Rattle.cap_prog.specs.Scopes.{Scope, fixed_start, result_name, HasSort}
use Rattle.cap_prog.specs.WellFormed.{FunctionFits, IsWellFormed}
use Rattle.cap_machine_accounts.specs.Assertions.{NameValue, a_number, a_fraction, HasNameSort, ValuesFit, IsNamed, AreNamed, AreWhole}
use Rattle.cap_goal_spec.specs.Terms.{variables_from}
use Rattle.cap_goal_spec.specs.States.{PlainEnv, PlainState, Home}
use Rattle.cap_goal_spec.specs.Environments.{zero_value, term_of, bound, own_env}
use Rattle.cap_account_resources.proofs.Lists.{some-same, none-some, within, there-is, get-join, get-first, get-second, all-at}
use Rattle.cap_account_states.proofs.Terms.{Over, value-number}
use Rattle.cap_account_states.proofs.Meets.{Usable, variable-value, variable-amount, is-of}
use Rattle.cap_account_states.proofs.Naming.{Placed, Means, Ready}
use Rattle.cap_account_states.proofs.Values.{normal, normal-whole, normal-perm, named-at, named-of, whole-at, whole-of}
use Rattle.cap_account_states.proofs.Scopes.{Position, param, local, fixed, result, extra, position-room, own-param, own-local, own-fixed, own-result, own-new, own-room, variables-length, variables-at, rep-length, rep-at, rep-in}

-- ---- values of names

pub values-length :
    (sorts : List Sort) (values : List NameValue) → ValuesFit sorts values →
    length values ≡ length sorts
values-length [] [] h = refl
values-length [] (v ∷ vs) h = absurd h
values-length (o ∷ os) [] h = absurd h
values-length (o ∷ os) (v ∷ vs) h = ap suc (values-length os vs h.1)

pub fits-at :
    (os : List Sort) (ys : List NameValue) (i : ℕ) (o : Sort) (y : NameValue) → ValuesFit os ys →
    slice_get os i ≡ Some o → slice_get ys i ≡ Some y → HasNameSort o y
fits-at [] ys i o y k e g = absurd (none-some e)
fits-at (p ∷ os) [] i o y k e g = absurd k
fits-at (p ∷ os) (z ∷ ys) zero o y k e g =
    subst (HasNameSort o) (some-same z y g) (subst (λ q. HasNameSort q z) (some-same p o e) k.0)
fits-at (p ∷ os) (z ∷ ys) (suc i) o y k e g = fits-at os ys i o y k.1 e g

pub function-fits :
    (p : PlainProgram) → IsWellFormed p → (i : ℕ) (f : PlainFunction) →
    slice_get p.functions i ≡ Some f → FunctionFits p f
function-fits p w i f e = all-at (FunctionFits p) p.functions i f w.functions e

pub flat-bound :
    (ts : List Linear) (i : ℕ) → unwrap_or (slice_get (bound ts) i) None ≡ slice_get ts i
flat-bound [] i = refl
flat-bound (t ∷ ts) zero = refl
flat-bound (t ∷ ts) (suc i) = flat-bound ts i

-- ---- names and variables of a root: from `cut` on, a name is the variable that many later

abbrev pub place : ℕ → ℕ → ℕ → ℕ
place cut gap y = if nat_lt y cut then y else y + gap

pub place-low : (cut gap y : ℕ) → y < cut → place cut gap y ≡ y
place-low cut gap y h = let t : nat_lt y cut ≡ true = grind (arith, nat_tests) in rw t refl

pub place-high : (cut gap y : ℕ) → cut ≤ y → place cut gap y ≡ y + gap
place-high cut gap y h = let t : nat_lt y cut ≡ false = grind (arith, nat_tests) in rw t refl

abbrev pub renamed : ℕ → ℕ → Valuation → Valuation
renamed cut gap a = record {
  whole = λ y. a.whole (place cut gap y);
  fraction = record {
    numerator = λ y. a.fraction.numerator (place cut gap y);
    under = a.fraction.under;
  };
}

abbrev pub sorts_of : PlainFunction → ℕ → List Sort → List Sort
sorts_of f l rs = replicate (f.params + l) Int ++ (f.fixed ++ rs)

-- a root of a function, and values of the names that it knows: `l` of its locals, and perhaps the
-- result
pub record Root : Type 0 where
  pub f : PlainFunction
  pub n : ℕ
  pub l : ℕ
  pub gap : ℕ
  pub hgap : l + gap ≡ f.locals
  pub new : List Sort
  pub sc : Scope
  pub at_position : (x : ℕ) (o : Sort) → HasSort sc o x → Position f new x o
  pub low_in : (x : ℕ) → x < f.params + l → HasSort sc Int x
  pub fixed_in :
      (i : ℕ) (o : Sort) → slice_get f.fixed i ≡ Some o → HasSort sc o (fixed_start f + i)
  pub ls : PlainEnv
  pub hls : length ls ≡ f.locals
  pub locals_are :
      (i : ℕ) (t : Linear) → unwrap_or (slice_get ls i) None ≡ Some t → (i < l)
      × (variable (f.params + i) ≡ t)
  pub rs : List Sort
  pub rs_in : (j : ℕ) → slice_get rs j ≡ Some Int → HasSort sc Int (result_name f + j)
  pub r : Option Linear
  pub r_is :
      (t : Linear) → r ≡ Some t → (t ≡ variable (f.params + l + length f.fixed)) × (rs ≡ Int ∷ [])
  pub a : Valuation

module _ (root : Root) where
  abbrev f : PlainFunction
  f = root.f

  abbrev l : ℕ
  l = root.l

  abbrev gap : ℕ
  gap = root.gap

  abbrev new : List Sort
  new = root.new

  abbrev count : ℕ
  count = length root.new

  abbrev sc : Scope
  sc = root.sc

  abbrev ls : PlainEnv
  ls = root.ls

  abbrev hls : length root.ls ≡ root.f.locals
  hls = root.hls

  abbrev rs : List Sort
  rs = root.rs

  abbrev r : Option Linear
  r = root.r

  abbrev a : Valuation
  a = root.a

  abbrev h : Home
  h = record { function = root.n; fixed = f.params + l }

  abbrev ps : List Linear
  ps = variables_from 0 f.params

  abbrev pub root_names : PlainEnv
  root_names = own_env f h ps ls r count

  abbrev pub root_values : Valuation
  root_values = renamed (f.params + l) gap (normal sc a)

  abbrev env : PlainEnv
  env = root_names

  abbrev v : Valuation
  v = root_values

  low-usable : (x : ℕ) → x < f.params + l → Usable [] (sorts_of f l rs) Int x
  low-usable x q = (
    get-first (replicate (f.params + l) Int) (f.fixed ++ rs) x Int
        (rep-in (f.params + l) x Int q),
    tt,
  )

  pub fixed-usable :
      (i : ℕ) (o : Sort) → slice_get f.fixed i ≡ Some o →
      slice_get (sorts_of f l rs) (f.params + l + i) ≡ Some o
  fixed-usable i o q =
      let c = rep-length (f.params + l) Int in
      let e : f.params + l + i ≡ length (replicate (f.params + l) Int) + i = omega (arith, c) in
      ap (slice_get (sorts_of f l rs)) e ∙ get-second (replicate (f.params + l) Int)
      (f.fixed ++ rs) i ∙ get-first f.fixed rs i o q

  hp : length ps ≡ f.params
  hp = variables-length 0 f.params

  fixed-place : (i : ℕ) → place (f.params + l) gap (f.params + l + i) ≡ fixed_start f + i
  fixed-place i = place-high (f.params + l) gap (f.params + l + i) (omega arith) ∙ sum
    where
      sum : f.params + l + i + gap ≡ fixed_start f + i
      sum = let g = root.hgap in omega (arith, g)

  sorted : (x : ℕ) → slice_get (sorts_of f l rs) x ≡ Some Int → IsWholeAt v x
  sorted x e = elim (get-join (replicate (f.params + l) Int) (f.fixed ++ rs) x Int e) [
    | inl k ↦ let q = (rep-at (f.params + l) x Int Int k).0 in subst (IsWholeAt (normal sc a))
        (sym (place-low (f.params + l) gap x q)) (normal-whole sc a x (root.low_in x q))
    | inr k ↦ elim (get-join f.fixed rs k.0 Int k.2) [
      | inl j ↦
          let q : x ≡ f.params + l + k.0 =
          (let u = k.1 in let c = rep-length (f.params + l) Int in omega (arith, u, c)) in
          subst (IsWholeAt (normal sc a)) (sym (ap (place (f.params + l) gap) q ∙ fixed-place k.0))
          (normal-whole sc a (fixed_start f + k.0) (root.fixed_in k.0 Int j))
      | inr j ↦
          let q : x ≡ f.params + l + (length f.fixed + j.0) =
          (let u = k.1 in let w = j.1 in let c = rep-length (f.params + l) Int in omega
          (arith, u, w, c)) in
          let y : fixed_start f + (length f.fixed + j.0) ≡ result_name f + j.0 = omega arith in
          subst (IsWholeAt (normal sc a))
          (sym (ap (place (f.params + l) gap) q ∙ fixed-place (length f.fixed + j.0) ∙ y))
          (normal-whole sc a (result_name f + j.0) (root.rs_in j.0 j.2))
    ]
  ]

  -- what stands for a name
  variable-of :
      (x : ℕ) (o : Sort) (t : Linear) → Position f new x o → term_of env x ≡ Some t → (y : ℕ)
      × (t ≡ variable y) × Usable [] (sorts_of f l rs) o y × (place (f.params + l) gap y ≡ x)
  variable-of x o t (param q e) k =
      let u : variable (0 + x) ≡ t = some-same (variable (0 + x)) t
      (sym (variables-at 0 f.params x q) ∙ sym (own-param f h ps ls r count hp hls x q) ∙ k) in
      let z : x ≡ 0 + x = omega arith in (
        x,
        sym u ∙ ap variable (sym z),
        subst (λ p. Usable [] (sorts_of f l rs) p x) e
            (low-usable x (omega (arith, q))),
        place-low (f.params + l) gap x (omega (arith, q)),
      )
  variable-of x o t (local i q w e) k =
      let u = root.locals_are i t
      (sym (own-local f h ps ls r count hp hls i w) ∙ ap (term_of env) (sym q) ∙ k) in
      let u0 = u.0 in (
        f.params + i,
        sym u.1,
        subst (λ p. Usable [] (sorts_of f l rs) p (f.params + i)) e
            (low-usable (f.params + i) (omega (arith, u0))),
        place-low (f.params + l) gap
            (f.params + i) (omega (arith, u0)) ∙ sym q,
      )
  variable-of x o t (fixed i q e) k =
      let u : variable (f.params + l + i) ≡ t = some-same (variable (f.params + l + i)) t
      (sym (own-fixed f h ps ls r count hp hls i (within f.fixed i o e)) ∙ ap (term_of env)
      (sym q) ∙ k) in (
        f.params + l + i,
        sym u,
        (is-of (sorts_of f l rs) o (f.params + l + i) (fixed-usable i o e), tt),
        fixed-place i ∙ sym q,
      )
  variable-of x o t (result q e) k =
      let u = root.r_is t
      (sym (own-result f h ps ls r count hp hls) ∙ ap (term_of env) (sym q) ∙ k) in
      let c = rep-length (f.params + l) Int in
      let n : f.params + l + length f.fixed ≡ length (replicate (f.params + l) Int) +
      (length f.fixed + 0) = omega (arith, c) in (
        f.params + l + length f.fixed,
        u.0,
        (
          is-of (sorts_of f l rs) o (f.params + l + length f.fixed)
              (ap (slice_get (sorts_of f l rs)) n ∙ get-second (replicate (f.params + l) Int)
              (f.fixed ++ rs) (length f.fixed + 0) ∙ get-second f.fixed rs 0 ∙ ap
              (λ ss. slice_get ss 0) u.1 ∙ ap Some e),
          tt,
        ),
        fixed-place (length f.fixed) ∙ sym q,
      )
  variable-of x o t (extra i q e) k =
      absurd (none-some (sym (own-new f h ps ls r count hp hls i) ∙ ap (term_of env) (sym q) ∙ k))

  pub root-placed : Placed [] sc (sorts_of f l rs) env
  root-placed = record {
    room =
        λ x o i. (let q = position-room f new x o
        (root.at_position x o i) in let w =
        own-room f h ps ls r count hp hls in omega (arith, q, w));
    over =
        λ x o i t q. let u =
        variable-of x o t (root.at_position x o i) q in subst
        (Over (Usable [] (sorts_of f l rs) o)) (sym u.1) (u.2, tt);
  }

  pub root-means : Means sc v env a
  root-means = record {
    under = refl;
    whole =
        λ x i t q. let u =
        variable-of x Int t (root.at_position x Int i) q in ap (value v.whole) u.1
        ∙ variable-value v u.0 ∙ ap a.whole u.3;
    share =
        λ x i t q. let u =
        variable-of x Perm t (root.at_position x Perm i) q in ap (amount v.fraction) u.1
        ∙ variable-amount v u.0 ∙ ap (normal sc a).fraction.numerator u.3
        ∙ normal-perm sc a x i;
  }

  pub root-ready :
      (s : PlainState) → s.sorts ≡ sorts_of f l rs → s.rows ≡ [] → s.cells ≡ [] →
      (es : List PlainEnv) → s.envs ≡ env ∷ es →
      AllByRecursion (Over (Usable [] s.sorts Int)) s.store → Ready sc 0 a v s
  root-ready s e1 e2 e3 es e5 so = record {
    meets = record {
      sorted = λ x q. sorted x (ap (λ ss. slice_get ss x) (sym e1) ∙ q);
      rows = rw e2 tt;
      rows_over = rw e2 tt;
      cells_over = rw e3 tt;
      positive = rw e3 tt;
      store_over = so;
    };
    there = (let q = ap length e5 in omega (arith, q));
    placed =
        subst (λ ss. Placed [] sc ss (get_or s.envs 0 [])) (sym e1)
        (subst (λ es. Placed [] sc (sorts_of f l rs) (get_or es 0 [])) (sym e5) root-placed);
    means = subst (λ es. Means sc v (get_or es 0 []) a) (sym e5) root-means;
  }

  pub root-fixed :
      (fx : List NameValue) → ValuesFit f.fixed fx → AreNamed a (fixed_start f) fx →
      AreNamed v (f.params + l) fx
  root-fixed fx fit are =
      named-of v (f.params + l) fx
      (λ i y q. one i y q
      (there-is f.fixed i
      (let u = within fx i y q in let w = values-length f.fixed fx fit in omega
      (arith, u, w))) (named-at a (fixed_start f) fx i y are q))
    where
      perm-at :
          (i : ℕ) (o : Sort) (m : ℤ) (d : ℕ) → slice_get f.fixed i ≡ Some o →
          HasNameSort o (a_fraction m d) → HasSort sc Perm (fixed_start f + i)
      perm-at i Int m d e k = absurd k
      perm-at i Perm m d e k = root.fixed_in i Perm e

      one :
          (i : ℕ) (y : NameValue) → slice_get fx i ≡ Some y → (o : Sort)
          × (slice_get f.fixed i ≡ Some o) → IsNamed a (fixed_start f + i) y →
          IsNamed v (f.params + l + i) y
      one i (a_number z) q o k = ap a.whole (fixed-place i) ∙ k
      one i (a_fraction m d) q o k =
          let j = perm-at i o.0 m d o.1 (fits-at f.fixed fx i o.0 (a_fraction m d) fit o.1 q) in
          ap (λ y. (normal sc a).fraction.numerator y *ℤ pos (suc d)) (fixed-place i) ∙ ap
          (λ y. y *ℤ pos (suc d)) (normal-perm sc a (fixed_start f + i) j) ∙ k

  pub root-whole : (zs : List ℤ) → length zs ≤ f.params + l → AreWhole a 0 zs → AreWhole v 0 zs
  root-whole zs len are =
      whole-of v 0 zs
      (λ i z q. let u = within zs i z q in ap a.whole
      (place-low (f.params + l) gap (0 + i) (omega (arith, u, len)))
      ∙ whole-at a 0 zs i z are q)

-- ---- the store at a root

pub variables-values :
    (v : Valuation) (k : ℕ) (zs : List ℤ) → AreWhole v k zs →
    map (value v.whole) (variables_from k (length zs)) ≡ zs
variables-values v k [] h = refl
variables-values v k (z ∷ zs) h =
    ap (λ y. y ∷ map (value v.whole) (variables_from (suc k) (length zs)))
    (variable-value v k ∙ h.0) ∙ ap (λ ys. z ∷ ys) (variables-values v (suc k) zs h.1)

pub map-zero :
    (v : Valuation) (n : ℕ) → map (value v.whole) (replicate n zero_value) ≡ replicate n (pos 0)
map-zero v zero = refl
map-zero v (suc n) =
    ap (λ z. z ∷ map (value v.whole) (replicate n zero_value)) (value-number v.whole (pos 0)) ∙ ap
    (λ zs. pos 0 ∷ zs) (map-zero v n)

pub variables-join :
    (k m n : ℕ) → variables_from k m ++ variables_from (k + m) n ≡ variables_from k (m + n)
variables-join k zero n =
    let q : k + 0 ≡ k = omega arith in
    let r : n ≡ 0 + n = omega arith in
    ap (λ x. variables_from x n) q ∙ ap (variables_from k) r
variables-join k (suc m) n =
    let q : k + suc m ≡ suc k + m = omega arith in
    let r : suc (m + n) ≡ suc m + n = omega arith in
    ap (λ ts. variable k ∷ ts)
    (ap (λ x. variables_from (suc k) m ++ variables_from x n) q ∙ variables-join (suc k) m n)
    ∙ ap (variables_from k) r

pub variables-over :
    (P : ℕ → Type 0) (k n : ℕ) → ((i : ℕ) → k ≤ i → i < k + n → P i) →
    AllByRecursion (Over P) (variables_from k n)
variables-over P k zero g = tt
variables-over P k (suc n) g = (
  (g k (omega arith) (omega arith), tt),
  variables-over P (suc k) n
      (λ i a b. g i (omega (arith, a)) (omega (arith, b))),
)

pub zeros-over : (P : ℕ → Type 0) (n : ℕ) → AllByRecursion (Over P) (replicate n zero_value)
zeros-over P zero = tt
zeros-over P (suc n) = (tt, zeros-over P n)

pub no-sort : (j : ℕ) → slice_get [] j ≡ Some Int → ⊥
no-sort j e = none-some e

pub no-term : (t : Linear) → None ≡ Some t → ⊥
no-term t e = none-some e
