-- The fixed names of a callee: the fill by which its `requires` is met has their values.
use Rattle.std.proofs.Common.{◌≡◌, inl, inr, ℕ, zero, suc, ◌+◌, ◌-◌, ◌<◌, ◌≤◌, ℤ, pos, Bool, true, false, List, [], ◌∷◌, ◌++◌, map, length, take, drop, Option, Some, refl, sym, ap, ◌∙◌, subst, arith}
use Rattle.std.specs.Prelude.{slice_get}
use Rattle.std.specs.List.{AllByRecursion}
use Rattle.cap_lin.specs.Linear.{Linear}
use Rattle.cap_lin.specs.Values.{Valuation}
use Rattle.cap_lin.specs.declared.row.Sort.{Sort}
use Rattle.cap_lin.specs.declared.row.Sort.TheVariants.{Int, Perm}
use Rattle.cap_prog.specs.Program.{Items, none, item, Block, PlainFunction}
use Rattle.cap_prog.specs.Scopes.{fixed_start, requires_scope}
use Rattle.cap_prog.specs.WellFormed.{IsWellFormed}
use Rattle.cap_goal_spec.specs.States.{PlainEnv, Home, PlainTask}
use Rattle.cap_goal_spec.specs.Choices.{PlainTree}
use Rattle.cap_goal_spec.specs.Environments.{term_of, is_bound_by, callee_env}
use Rattle.cap_rules.specs.Making.{env_at, fresh}
use Rattle.cap_machine.specs.Machine.{Heap, Frame}
use Rattle.cap_machine_accounts.specs.Assertions.{NameValue, a_number, a_fraction}
use Rattle.cap_account_resources.specs.Parts.{cells_of, Table}
use Rattle.cap_account_resources.proofs.Lists.{none-some, within as index-within, all-at}
use Rattle.cap_account_resources.proofs.Stocks.{Stock}
use Rattle.cap_account_states.proofs.Checked.{Checked}
use Rattle.cap_account_states.proofs.Naming.{values_in}
use Rattle.cap_account_states.proofs.Scopes.{requires-early, fixed-requires, callee-fixed, callee-room}
use Rattle.cap_account_steps.proofs.CallSite.{params-count, new-env}
use Rattle.cap_account_steps.proofs.Callees as callees
use Rattle.cap_account_steps.proofs.Callees.{value_for, at_call}
use Rattle.cap_account_steps.proofs.Frames.{Roomy}
use Rattle.cap_account_steps.proofs.Stores.{here}
use Rattle.cap_owners_spec.specs.Traced.{Traced, over, value_at, number_of, numerator_of, valuation}
use Rattle.cap_owners_spec.specs.Track.{TrackedRegion}
use Rattle.cap_owners_spec.specs.Walks.{Halt, no_items}
use Rattle.cap_owners_spec.specs.Steps.{fixed_values}
use Rattle.cap_owners_laws.specs.Owned.{AreNumbered, BindsFixed}
use Rattle.cap_owners_walks_laws.proofs.Values.More.{FitsSort}
use Rattle.cap_owners_walks_laws.proofs.Fills.Drawn.{Tells}
use Rattle.cap_owners_walks_laws.proofs.Passes.Names.{IsShare, SharesBound, int-only}
use Rattle.cap_owners_walks_laws.proofs.Passes.Takes.{HasShares}
use Rattle.cap_owners_runs_laws.proofs.Handing.CallSites.{CallingHere}
use Rattle.cap_owners_runs_laws.proofs.Handing.CallTakes.{caller, Taken_here, callee_names, fill-fits}

-- ---- lists

-- from a place on, the value there comes first
drop-at :
    (xs : List NameValue) (x : ℕ) → x < length xs → drop x xs ≡ value_at xs x ∷ drop (suc x) xs
drop-at [] x l = absurd (omega (arith, l))
drop-at (y ∷ xs) zero l = refl
drop-at (y ∷ xs) (suc x) l = drop-at xs x (omega (arith, l))

-- names that have these values, one after the other
fixed-all :
    (a : Valuation) (names : List NameValue) (os : List Sort) (x : ℕ) →
    x + length os ≤ length names →
    ((i : ℕ) (o : Sort) → slice_get os i ≡ Some o → value_at names (x + i) ≡ value_for o a (x + i))
    →
    take (length os) (drop x names) ≡ callees.fixed_values a x os
fixed-all a names [] x l f = refl
fixed-all a names (o ∷ os) x l f =
    let z : x + 0 ≡ x = omega arith in
    ap (take (suc (length os))) (drop-at names x (omega (arith, l)))
    ∙ ap (λ y. y ∷ take (length os) (drop (suc x) names))
    (subst (λ m. value_at names m ≡ value_for o a m) z (f 0 o refl))
    ∙ ap (λ ys. value_for o a x ∷ ys)
    (fixed-all a names os (suc x) (omega (arith, l)) (λ i p e.
    let n : x + suc i ≡ suc x + i = omega arith in
    subst (λ m. value_at names m ≡ value_for p a m) n (f (suc i) p e)))

-- a number, and a share, by the valuation
number-for :
    (y : NameValue) → FitsSort Int y → y ≡ a_number (number_of y)
number-for (a_number z) h = refl
number-for (a_fraction n d) h = absurd h

share-for : (y : NameValue) → IsShare y → y ≡ a_fraction (numerator_of y) (over - 1)
share-for (a_number z) h = absurd h
share-for (a_fraction n d) h = ap (a_fraction n) h

-- nothing binds where there are no items
none-binds : (x : ℕ) (items : Items) → no_items items ≡ true → is_bound_by x items ≡ true → ⊥
none-binds x none e k = unlike k
  where
    unlike : false ≡ true → ⊥
    unlike k = cc
none-binds x (item i more) e k = absurd (cc)

-- ---- the callee's

module _ (p : Checked) (trees : List (Option PlainTree)) (wf : IsWellFormed p.program)
    (part : Stock) (T : Table) (roomy : Roomy p.program T part) (fn : PlainFunction)
    (fixed : List NameValue) (f : Frame) (r0 : Block) (number n : ℕ) (args : List Linear)
    (x : Option ℕ) (due : PlainFunction → ℕ → Home → List PlainTask) (rs : List TrackedRegion)
    (tells : Tells rs T)
    (numbered : AreNumbered (pos 1) (map (λ r. r.region) (map (λ r. r.owned) rs))) (heap : Heap)
    (within : (a z : ℤ) → part.cells a z ≤ cells_of heap a z) (o : Traced Halt)
    (h : CallingHere p trees part T fn fixed f r0 number n args x due rs o)
    (t : Taken_here p trees wf part T roomy fn fixed f r0 number n args x due rs tells numbered heap
    within o h) (binds : AllByRecursion BindsFixed p.program.functions) where
  abbrev g : PlainFunction
  g = h.g

  abbrev e : ℕ
  e = length h.state.envs

  abbrev env : PlainEnv
  env = env_at t.took.after e

  abbrev names : List NameValue
  names = t.taken.fill.names

  abbrev a : Valuation
  a = values_in t.took.w (env_at t.took.after (length h.state.envs))

  bound-so : BindsFixed h.g
  bound-so = all-at BindsFixed p.program.functions n h.g binds h.is_g

  -- no name of a share is bound before
  none-shared :
      SharesBound (requires_scope h.g) (h.vs ++ a_number h.z ∷ [])
      (env_at (at_call h.state h.g args x) (length h.state.envs))
  none-shared y u has k =
      let c = caller p trees wf part T roomy fn fixed f r0 number n args x due rs tells numbered
      heap
      within o h in
      let there = ap (λ v. term_of v y) (sym (new-env p part T f.store c)) ∙ k in
      elim (requires-early g y Perm has) [
        | inl m ↦ int-only m.1
        | inr m ↦
            absurd (none-some
            (sym (callee-fixed g (map (here h.state) args) (fresh h.state)
            (params-count p part T f.store c) m.0 (index-within g.fixed m.0 Perm m.2))
            ∙ ap (term_of (callee_env g (map (here h.state) args) (fresh h.state))) (sym m.1)
            ∙ there))
      ]

  module _ (some : no_items h.g.requires ≡ false) where
    apart : {A : Type 0} → no_items h.g.requires ≡ true → A
    apart k = absurd (unlike (sym k ∙ some))
      where
        unlike : true ≡ false → ⊥
        unlike k = cc

    named : values_in t.took.w (env_at t.took.after (length h.state.envs)) ≡ valuation names
    named = t.names (λ k. apart k)

    shared : HasShares (requires_scope h.g) (env_at t.took.after (length h.state.envs)) names
    shared = (t.shaped none-shared).1 (λ k. apart k)

    enough : fixed_start h.g + length h.g.fixed ≤ length names
    enough =
        let c = caller p trees wf part T roomy fn fixed f r0 number n args x due rs tells numbered
        heap within o h in
        let l = shared.0 in
        let m = t.took.follows.size in
        let k = ap length (new-env p part T f.store c) in
        let r = callee-room g (map (here h.state) args) (fresh h.state)
        (params-count p part T f.store c) in
        omega (arith, l, m, k, r)

    value-is :
        (i : ℕ) (q : Sort) → slice_get h.g.fixed i ≡ Some q →
        value_at names (fixed_start h.g + i) ≡ value_for q a (fixed_start h.g + i)
    value-is i Int k =
        let y = fixed_start g + i in
        number-for (value_at names y)
        (fill-fits p trees wf part T roomy fn fixed f r0 number n args x due rs tells numbered heap
        within o h t Int y (fixed-requires g i Int k))
        ∙ ap (λ (u : Valuation). a_number (u.whole y)) (sym named)
    value-is i Perm k =
        let y = fixed_start g + i in
        let has = fixed-requires g i Perm k in
        let b = t.binds y has (bound-so i (index-within g.fixed i Perm k)) in
        share-for (value_at names y) (shared.1 y b.0 has b.1)
        ∙ ap (λ (u : Valuation). a_fraction (u.fraction.numerator y) u.fraction.under) (sym named)

  pub fixed-is :
      fixed_values h.g t.taken.fill
      ≡ callee_names p trees wf part T roomy fn fixed f r0 number n args x due rs tells numbered
      heap within o h t
  fixed-is = by (no_items g.requires) refl
    where
      none-fixed :
          (os : List Sort) → (0 < length os → ⊥) →
          take (length os) (drop (fixed_start g) names)
          ≡ callees.fixed_values a (fixed_start g) os
      none-fixed [] k = refl
      none-fixed (q ∷ os) k = absurd (k (omega arith))

      by :
          (b : Bool) → no_items h.g.requires ≡ b →
          take (length h.g.fixed) (drop (fixed_start h.g) names)
          ≡ callees.fixed_values a (fixed_start h.g) h.g.fixed
      by true k =
          none-fixed g.fixed (λ l. none-binds (fixed_start g + 0) g.requires k (bound-so 0 l))
      by false k = fixed-all a names g.fixed (fixed_start g) (enough k) (λ i q m. value-is k i q m)
