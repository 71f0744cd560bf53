-- Where the names of a function stand in scopes and environments.
use Rattle.std.proofs.Common.{◌≡◌, ℕ, zero, suc, ◌+◌, ◌-◌, ◌<◌, ◌≤◌, List, [], ◌∷◌, ◌++◌, length, replicate, arith, refl, sym, ap, ◌∙◌, Option, Some, None, ◌⊎◌, inl, inr}
use Rattle.std.specs.Prelude.{slice_get, unwrap_or}
use Rattle.cap_lin.specs.Linear.{Linear, variable}
use Rattle.cap_lin.specs.declared.row.Sort.{Sort}
use Rattle.cap_lin.specs.declared.row.Sort.TheVariants.{Int}
use Rattle.cap_prog.specs.Program.{PlainFunction}
use Rattle.cap_prog.specs.Scopes.{known, whole_numbers, hidden, fixed_start, result_name, names_start, requires_scope, ensures_scope, invariant_scope, HasSort}
use Rattle.cap_goal_spec.specs.Terms.{variables_from}
use Rattle.cap_goal_spec.specs.States.{PlainEnv, Home}
use Rattle.cap_goal_spec.specs.Environments.{term_of, bound, unbound, own_env, callee_env}
use Rattle.cap_account_resources.proofs.Lists.{some-same, none-some, within, get-join, get-first, get-second, map-length, join-assoc}

abbrev flat : Option (Option Linear) → Option Linear
flat o = unwrap_or o None

pub rep-length : {X : Type 0} (n : ℕ) (x : X) → length (replicate n x) ≡ n
rep-length zero x = refl
rep-length (suc n) x = ap suc (rep-length n x)

pub rep-at :
    {X : Type 0} (n i : ℕ) (x y : X) → slice_get (replicate n x) i ≡ Some y → (i < n) × (x ≡ y)
rep-at zero i x y e = absurd (none-some e)
rep-at (suc n) zero x y e = (omega arith, some-same x y e)
rep-at (suc n) (suc i) x y e = let q = rep-at n i x y e in ((let l = q.0 in omega (arith, l)), q.1)

pub rep-in : {X : Type 0} (n i : ℕ) (x : X) → i < n → slice_get (replicate n x) i ≡ Some x
rep-in zero i x h = absurd (omega (arith, h))
rep-in (suc n) zero x h = refl
rep-in (suc n) (suc i) x h = rep-in n i x (omega (arith, h))

pub length-join : {X : Type 0} (xs ys : List X) → length (xs ++ ys) ≡ length xs + length ys
length-join [] ys = omega arith
length-join (x ∷ xs) ys = let q = length-join xs ys in omega (arith, q)

-- the place of a name, and its sort
pub data Position (f : PlainFunction) (new : List Sort) (x : ℕ) (o : Sort) : Type 0 where
  param : x < f.params → Int ≡ o → Position f new x o
  local : (i : ℕ) → x ≡ f.params + i → i < f.locals → Int ≡ o → Position f new x o
  fixed : (i : ℕ) → x ≡ fixed_start f + i → slice_get f.fixed i ≡ Some o → Position f new x o
  result : x ≡ result_name f → Int ≡ o → Position f new x o
  extra : (i : ℕ) → x ≡ names_start f + i → slice_get new i ≡ Some o → Position f new x o

known-at :
    (ss : List Sort) (i : ℕ) (o : Sort) → slice_get (known ss) i ≡ Some (Some o) →
    slice_get ss i ≡ Some o
known-at [] i o e = absurd (none-some e)
known-at (p ∷ ss) zero o e = some-same (Some p) (Some o) e
known-at (p ∷ ss) (suc i) o e = known-at ss i o e

pub known-in :
    (ss : List Sort) (i : ℕ) (o : Sort) → slice_get ss i ≡ Some o →
    slice_get (known ss) i ≡ Some (Some o)
known-in [] i o e = absurd (none-some e)
known-in (p ∷ ss) zero o e = ap Some e
known-in (p ∷ ss) (suc i) o e = known-in ss i o e

pub less_or : (a b : ℕ) → (a < b) ⊎ (b ≤ a)
less_or a b = grind arith

no-none : {o : Sort} → None ≡ Some o → ⊥
no-none e = none-some e

-- what `requires` knows
abbrev pub Early : PlainFunction → ℕ → Sort → Type 0
Early f x o =
    ((x < f.params) × (Int ≡ o)) ⊎
    ((i : ℕ) × (x ≡ fixed_start f + i) × (slice_get f.fixed i ≡ Some o))

pub requires-early :
    (f : PlainFunction) (x : ℕ) (o : Sort) → HasSort (requires_scope f) o x → Early f x o
requires-early f x o e =
    elim (get-join (whole_numbers f.params) (hidden f.locals ++ known f.fixed) x (Some o) e) [
      | inl h ↦ let q = rep-at f.params x (Some Int) (Some o) h in inl (q.0, some-same Int o q.1)
      | inr h ↦ elim (get-join (hidden f.locals) (known f.fixed) h.0 (Some o) h.2) [
        | inl k ↦ absurd (no-none (rep-at f.locals h.0 None (Some o) k).1)
        | inr k ↦ inr (
          k.0,
          (let a = h.1 in let b = k.1 in let c = rep-length f.params
              (Some Int) in let d =
              rep-length {X = Option Sort} f.locals None in omega
              (arith, a, b, c, d)),
          known-at f.fixed k.0 o k.2,
        )
      ]
    ]

pub early-position :
    (f : PlainFunction) (new : List Sort) (x : ℕ) (o : Sort) → Early f x o → Position f new x o
early-position f new x o e = elim e [ inl h ↦ param h.0 h.1 | inr h ↦ fixed h.0 h.1 h.2 ]

pub scope-length : (f : PlainFunction) → length (requires_scope f) ≡ result_name f
scope-length f =
    let a = length-join (whole_numbers f.params) (hidden f.locals ++ known f.fixed) in
    let b = length-join (hidden f.locals) (known f.fixed) in
    let c = rep-length f.params (Some Int) in
    let d = rep-length {X = Option Sort} f.locals None in
    let g = map-length Some f.fixed in omega (arith, a, b, c, d, g)

ensures-is :
    (f : PlainFunction) (new : List Sort) →
    ensures_scope f new ≡ requires_scope f ++ (Some Int ∷ known new)
ensures-is f new =
    ap (λ us. whole_numbers f.params ++ us)
    (join-assoc (hidden f.locals) (known f.fixed) (Some Int ∷ known new))
    ∙ join-assoc (whole_numbers f.params) (hidden f.locals ++ known f.fixed) (Some Int ∷ known new)

-- what `ensures` knows
abbrev pub Late : PlainFunction → List Sort → ℕ → Sort → Type 0
Late f new x o =
    Early f x o ⊎
    (((x ≡ result_name f) × (Int ≡ o)) ⊎
    ((i : ℕ) × (x ≡ names_start f + i) × (slice_get new i ≡ Some o)))

pub ensures-late :
    (f : PlainFunction) (new : List Sort) (x : ℕ) (o : Sort) → HasSort (ensures_scope f new) o x →
    Late f new x o
ensures-late f new x o e =
    elim (get-join (requires_scope f) (Some Int ∷ known new) x (Some o)
    (ap (λ us. slice_get us x) (sym (ensures-is f new)) ∙ e)) [
      | inl h ↦ inl (requires-early f x o h)
      | inr h ↦ inr (last h.0 h.1 h.2)
    ]
  where
    last :
        (i : ℕ) → x ≡ length (requires_scope f) + i →
        slice_get (Some Int ∷ known new) i ≡ Some (Some o) → ((x ≡ result_name f) × (Int ≡ o))
        ⊎ ((i : ℕ) × (x ≡ names_start f + i) × (slice_get new i ≡ Some o))
    last zero a b =
        inl (
          (let q = scope-length f in omega (arith, a, q)),
          some-same Int o
              (some-same (Some Int) (Some o) b),
        )
    last (suc i) a b = inr (i, (let q = scope-length f in omega (arith, a, q)), known-at new i o b)

pub ensures-at :
    (f : PlainFunction) (new : List Sort) (x : ℕ) (o : Sort) → HasSort (ensures_scope f new) o x →
    Position f new x o
ensures-at f new x o e =
    elim (ensures-late f new x o e) [
      | inl h ↦ early-position f new x o h
      | inr h ↦ elim h
          [ inl k ↦ result k.0 k.1 | inr k ↦ extra k.0 k.1 k.2 ]
    ]

pub invariant-at :
    (f : PlainFunction) (new : List Sort) (x : ℕ) (o : Sort) → HasSort (invariant_scope f new) o x →
    Position f new x o
invariant-at f new x o e =
    elim (get-join (whole_numbers (fixed_start f)) (known f.fixed ++ None ∷ known new) x
    (Some o) e) [
      | inl h ↦ let q = rep-at (fixed_start f) x (Some Int) (Some o) h in early q.0
          (some-same Int o q.1)
      | inr h ↦ elim (get-join (known f.fixed) (None ∷ known new) h.0 (Some o) h.2) [
        | inl k ↦ fixed h.0
            (let a = h.1 in let c = rep-length (fixed_start f) (Some Int) in omega (arith, a, c))
            (known-at f.fixed h.0 o k)
        | inr k ↦ last h.0 k.0 h.1 k.1 k.2
      ]
    ]
  where
    early : x < fixed_start f → Int ≡ o → Position f new x o
    early l q =
        elim (less_or x f.params) [
          | inl h ↦ param h q
          | inr h ↦ local (x - f.params) (omega (arith, h))
              (omega (arith, h, l)) q
        ]

    last :
        (j i : ℕ) → x ≡ length (whole_numbers (fixed_start f)) + j →
        j ≡ length (known f.fixed) + i → slice_get (None ∷ known new) i ≡ Some (Some o) →
        Position f new x o
    last j zero a b c = absurd (no-none (some-same None (Some o) c))
    last j (suc i) a b c =
        extra i (let u = rep-length (fixed_start f)
        (Some Int) in let g =
        map-length Some f.fixed in omega (arith, a, b, u, g)) (known-at new i o c)

-- names that `requires` knows
pub param-requires : (f : PlainFunction) (x : ℕ) → x < f.params → HasSort (requires_scope f) Int x
param-requires f x h =
    get-first (whole_numbers f.params) (hidden f.locals ++ known f.fixed) x (Some Int)
    (rep-in f.params x (Some Int) h)

pub fixed-requires :
    (f : PlainFunction) (i : ℕ) (o : Sort) → slice_get f.fixed i ≡ Some o →
    HasSort (requires_scope f) o (fixed_start f + i)
fixed-requires f i o e =
    let c = rep-length f.params (Some Int) in
    let d = rep-length {X = Option Sort} f.locals None in
    let q : fixed_start f + i ≡ length (whole_numbers f.params) +
    (length (hidden f.locals) + i) = omega (arith, c, d) in
    ap (slice_get (requires_scope f)) q ∙ get-second (whole_numbers f.params)
    (hidden f.locals ++ known f.fixed) (length (hidden f.locals) + i) ∙ get-second
    (hidden f.locals) (known f.fixed) i ∙ known-in f.fixed i o e

pub requires-ensures :
    (f : PlainFunction) (new : List Sort) (x : ℕ) (o : Sort) → HasSort (requires_scope f) o x →
    HasSort (ensures_scope f new) o x
requires-ensures f new x o e =
    ap (λ us. slice_get us x) (ensures-is f new) ∙ get-first (requires_scope f)
    (Some Int ∷ known new) x (Some o) e

pub result-ensures :
    (f : PlainFunction) (new : List Sort) → HasSort (ensures_scope f new) Int (result_name f)
result-ensures f new =
    let c = scope-length f in
    let q : result_name f ≡ length (requires_scope f) + 0 = omega (arith, c) in
    ap (λ us. slice_get us (result_name f)) (ensures-is f new) ∙ ap
    (slice_get (requires_scope f ++ (Some Int ∷ known new))) q ∙ get-second (requires_scope f)
    (Some Int ∷ known new) 0

pub store-invariant :
    (f : PlainFunction) (new : List Sort) (x : ℕ) → x < fixed_start f →
    HasSort (invariant_scope f new) Int x
store-invariant f new x h =
    get-first (whole_numbers (fixed_start f)) (known f.fixed ++ None ∷ known new) x (Some Int)
    (rep-in (fixed_start f) x (Some Int) h)

pub fixed-invariant :
    (f : PlainFunction) (new : List Sort) (i : ℕ) (o : Sort) → slice_get f.fixed i ≡ Some o →
    HasSort (invariant_scope f new) o (fixed_start f + i)
fixed-invariant f new i o e =
    let c = rep-length (fixed_start f) (Some Int) in
    let q : fixed_start f + i ≡ length (whole_numbers (fixed_start f)) + i = omega (arith, c) in
    ap (slice_get (invariant_scope f new)) q ∙ get-second (whole_numbers (fixed_start f))
    (known f.fixed ++ None ∷ known new) i ∙ get-first (known f.fixed) (None ∷ known new) i
    (Some o) (known-in f.fixed i o e)

-- ---- the terms of names

pub bound-first :
    (ps : List Linear) (r : PlainEnv) (x : ℕ) → x < length ps →
    flat (slice_get (bound ps ++ r) x) ≡ slice_get ps x
bound-first [] r x h = absurd (omega (arith, h))
bound-first (p ∷ ps) r zero h = refl
bound-first (p ∷ ps) r (suc x) h = bound-first ps r x (omega (arith, h))

pub unbound-none : (n i : ℕ) → flat (slice_get (unbound n) i) ≡ None
unbound-none zero i = refl
unbound-none (suc n) zero = refl
unbound-none (suc n) (suc i) = unbound-none n i

pub shifted :
    (xs ys : PlainEnv) (n j : ℕ) → n ≡ length xs + j →
    flat (slice_get (xs ++ ys) n) ≡ flat (slice_get ys j)
shifted xs ys n j e = ap (λ m. flat (slice_get (xs ++ ys) m)) e ∙ ap flat (get-second xs ys j)

pub variables-length : (x n : ℕ) → length (variables_from x n) ≡ n
variables-length x zero = refl
variables-length x (suc n) = ap suc (variables-length (suc x) n)

pub variables-at : (x n i : ℕ) → i < n → slice_get (variables_from x n) i ≡ Some (variable (x + i))
variables-at x zero i h = absurd (omega (arith, h))
variables-at x (suc n) zero h = let q : x ≡ x + 0 = omega arith in ap (λ y. Some (variable y)) q
variables-at x (suc n) (suc i) h =
    variables-at (suc x) n i (omega (arith, h)) ∙
    (let q : suc x + i ≡ x + suc i = omega arith in ap (λ y. Some (variable y)) q)

-- ---- of a function at home

module _ (f : PlainFunction) (h : Home) (ps : List Linear) (ls : PlainEnv) (ret : Option Linear)
    (new : ℕ) (hp : length ps ≡ f.params) (hl : length ls ≡ f.locals) where
  abbrev pub own : PlainEnv
  own = own_env f h ps ls ret new

  abbrev fx : PlainEnv
  fx = bound (variables_from h.fixed (length f.fixed))

  pub own-param : (x : ℕ) → x < f.params → term_of own x ≡ slice_get ps x
  own-param x l = bound-first ps (ls ++ (fx ++ ret ∷ unbound new)) x (omega (arith, hp, l))

  pub own-local : (i : ℕ) → i < f.locals → term_of own (f.params + i) ≡ flat (slice_get ls i)
  own-local i l =
      shifted (bound ps) (ls ++ (fx ++ ret ∷ unbound new)) (f.params + i) i
      (let q = map-length Some ps in omega (arith, hp, q)) ∙ first-of ls
      (fx ++ ret ∷ unbound new) i (omega (arith, hl, l))
    where
      first-of :
          (xs ys : PlainEnv) (i : ℕ) → i < length xs →
          flat (slice_get (xs ++ ys) i) ≡ flat (slice_get xs i)
      first-of [] ys i h = absurd (omega (arith, h))
      first-of (x ∷ xs) ys zero h = refl
      first-of (x ∷ xs) ys (suc i) h = first-of xs ys i (omega (arith, h))

  past :
      (n j : ℕ) → n ≡ fixed_start f + j →
      term_of own n ≡ flat (slice_get (fx ++ ret ∷ unbound new) j)
  past n j e =
      shifted (bound ps) (ls ++ (fx ++ ret ∷ unbound new)) n (f.locals + j)
      (let q = map-length Some ps in omega (arith, hp, q, e)) ∙ shifted ls
      (fx ++ ret ∷ unbound new) (f.locals + j) j (omega (arith, hl))

  pub own-fixed :
      (i : ℕ) → i < length f.fixed → term_of own (fixed_start f + i) ≡ Some (variable (h.fixed + i))
  own-fixed i l =
      past (fixed_start f + i) i refl ∙ bound-first (variables_from h.fixed (length f.fixed))
      (ret ∷ unbound new) i
      (let q = variables-length h.fixed (length f.fixed) in omega (arith, q, l))
      ∙ variables-at h.fixed (length f.fixed) i l

  fx-length : length fx ≡ length f.fixed
  fx-length =
      map-length Some (variables_from h.fixed (length f.fixed)) ∙ variables-length h.fixed
      (length f.fixed)

  pub own-result : term_of own (result_name f) ≡ ret
  own-result =
      past (result_name f) (length f.fixed) refl ∙ shifted fx (ret ∷ unbound new) (length f.fixed) 0
      (let q = fx-length in omega (arith, q))

  pub own-new : (i : ℕ) → term_of own (names_start f + i) ≡ None
  own-new i =
      past (names_start f + i) (length f.fixed + suc i) (omega arith) ∙ shifted fx
      (ret ∷ unbound new) (length f.fixed + suc i) (suc i)
      (let q = fx-length in omega (arith, q)) ∙ unbound-none new i

  pub own-room : length own ≡ names_start f + new
  own-room =
      let a = length-join (bound ps) (ls ++ (fx ++ ret ∷ unbound new)) in
      let b = length-join ls (fx ++ ret ∷ unbound new) in
      let c = length-join fx (ret ∷ unbound new) in
      let d = map-length Some ps in
      let g = fx-length in
      let i = rep-length {X = Option Linear} new None in
      omega (arith, a, b, c, d, g, i, hp, hl)

-- ---- of a call

module _ (f : PlainFunction) (ps : List Linear) (ret : Linear) (hp : length ps ≡ f.params) where
  abbrev pub callee : PlainEnv
  callee = callee_env f ps ret

  abbrev after_args : PlainEnv
  after_args = unbound (f.locals + length f.fixed) ++ Some ret ∷ unbound (length f.ensures.names)

  pub callee-param : (x : ℕ) → x < f.params → term_of callee x ≡ slice_get ps x
  callee-param x l = bound-first ps after_args x (omega (arith, hp, l))

  past' : (n j : ℕ) → n ≡ f.params + j → term_of callee n ≡ flat (slice_get after_args j)
  past' n j e =
      shifted (bound ps) after_args n j (let q = map-length Some ps in omega (arith, hp, q, e))

  pub callee-fixed : (i : ℕ) → i < length f.fixed → term_of callee (fixed_start f + i) ≡ None
  callee-fixed i l =
      past' (fixed_start f + i) (f.locals + i) (omega arith) ∙ first-of (f.locals + length f.fixed)
      (f.locals + i) (omega (arith, l))
    where
      first-of :
          (n i : ℕ) → i < n →
          flat (slice_get (unbound n ++ Some ret ∷ unbound (length f.ensures.names)) i) ≡ None
      first-of zero i h = absurd (omega (arith, h))
      first-of (suc n) zero h = refl
      first-of (suc n) (suc i) h = first-of n i (omega (arith, h))

  pub callee-result : term_of callee (result_name f) ≡ Some ret
  callee-result =
      past' (result_name f) (f.locals + length f.fixed) (omega arith) ∙ shifted
      (unbound (f.locals + length f.fixed)) (Some ret ∷ unbound (length f.ensures.names))
      (f.locals + length f.fixed) 0
      (let q = rep-length {X = Option Linear} (f.locals + length f.fixed) None in omega
      (arith, q))

  pub callee-new : (i : ℕ) → term_of callee (names_start f + i) ≡ None
  callee-new i =
      past' (names_start f + i) (f.locals + length f.fixed + suc i) (omega arith) ∙ shifted
      (unbound (f.locals + length f.fixed)) (Some ret ∷ unbound (length f.ensures.names))
      (f.locals + length f.fixed + suc i) (suc i)
      (let q = rep-length {X = Option Linear} (f.locals + length f.fixed) None in omega
      (arith, q)) ∙ unbound-none (length f.ensures.names) i

  pub callee-room : length callee ≡ names_start f + length f.ensures.names
  callee-room =
      let a = length-join (bound ps) after_args in
      let b = length-join (unbound (f.locals + length f.fixed))
      (Some ret ∷ unbound (length f.ensures.names)) in
      let c = rep-length {X = Option Linear} (f.locals + length f.fixed) None in
      let d = map-length Some ps in
      let i = rep-length {X = Option Linear} (length f.ensures.names) None in
      omega (arith, a, b, c, d, i, hp)

-- a position is a name of the environment
pub position-room :
    (f : PlainFunction) (new : List Sort) (x : ℕ) (o : Sort) → Position f new x o →
    x < names_start f + length new
position-room f new x o (param h e) = omega (arith, h)
position-room f new x o (local i h l e) = omega (arith, h, l)
position-room f new x o (fixed i h e) = let q = within f.fixed i o e in omega (arith, h, q)
position-room f new x o (result h e) = omega (arith, h)
position-room f new x o (extra i h e) = let q = within new i o e in omega (arith, h, q)
