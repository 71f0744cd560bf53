-- What a function's assertion knows at a root: it can be taken again, and known names keep their
-- values.
use Rattle.std.proofs.Common.{◌≡◌, ℕ, ◌+◌, ◌-◌, ◌<◌, ◌≤◌, ℤ, List, [], ◌∷◌, length, arith, refl, sym, ap, ◌∙◌, Some, None, inl, inr}
use Rattle.std.specs.Prelude.{slice_get, unwrap_or}
use Rattle.std.specs.List.{AllByRecursion}
use Rattle.cap_lin.specs.Linear.{Linear, variable}
use Rattle.cap_lin.specs.Values.{Valuation}
use Rattle.cap_lin.specs.declared.row.Sort.TheVariants.{Int}
use Rattle.cap_prog.specs.Program.{Items}
use Rattle.cap_prog.specs.Scopes.{fixed_start}
use Rattle.cap_machine_accounts.specs.Assertions.{NameValue, ValuesFit, AreNamed, AreWhole}
use Rattle.cap_goal_spec.specs.Terms.{variables_from}
use Rattle.cap_goal_spec.specs.States.{PlainState, Home, to_give, to_take, to_rest}
use Rattle.cap_goal_spec.specs.Environments.{term_of}
use Rattle.cap_goal_spec.specs.Choices.{PlainTrees}
use Rattle.cap_goal_spec.specs.Roots.{empty_state}
use Rattle.cap_account_resources.specs.Parts.{Table}
use Rattle.cap_account_resources.proofs.Lists.{within, there-is}
use Rattle.cap_account_resources.proofs.Covering.{covered-none}
use Rattle.cap_account_resources.proofs.Stocks.{Stock, no_stock}
use Rattle.cap_account_states.specs.Nodes.{Open}
use Rattle.cap_account_states.proofs.Terms.{Over}
use Rattle.cap_account_states.proofs.Meets.{Usable}
use Rattle.cap_account_states.proofs.Checked.{Checked}
use Rattle.cap_account_states.proofs.Filled.{Filled}
use Rattle.cap_account_states.proofs.Items.{AreFit}
use Rattle.cap_account_states.proofs.Naming.{Bound}
use Rattle.cap_account_states.proofs.Values.{named-at, named-of, whole-at, whole-of}
use Rattle.cap_account_states.proofs.Scopes.{less_or, own-param, own-local, own-fixed, variables-length, variables-at}
use Rattle.cap_account_states.proofs.Roots.{values-length, fits-at, sorts_of, Root, root_names, root_values, root-ready, root-placed, root-means}
use Rattle.cap_account_assertions.proofs.Asserted.{Owns}
use Rattle.cap_account_assertions.proofs.Filling.{fill_items}
use Rattle.cap_account_assertions.proofs.Laws.{GivenLaw, Reached, RestsLaw}
use Rattle.cap_account_assertions.proofs.TakenStill.{StillLaw}
use Rattle.cap_account_assertions.proofs.Again.{NamesKept, name-kept, AgainBy, again}

module _ (root : Root) where
  -- ---- which names are bound

  pub param-bound : (x : ℕ) → x < root.f.params → Bound (root_names root) x
  param-bound x l =
      let f = root.f in
      let h : Home = record { function = root.n; fixed = f.params + root.l } in (
        variable (0 + x),
        own-param f h (variables_from 0 f.params) root.ls root.r (length root.new)
            (variables-length 0 f.params) root.hls x l ∙ variables-at 0 f.params x l,
      )

  pub fixed-bound :
      (i : ℕ) → i < length root.f.fixed → Bound (root_names root) (fixed_start root.f + i)
  fixed-bound i l =
      let f = root.f in
      let h : Home = record { function = root.n; fixed = f.params + root.l } in (
        variable (h.fixed + i),
        own-fixed f h (variables_from 0 f.params) root.ls root.r
            (length root.new) (variables-length 0 f.params) root.hls i l,
      )

  -- the first locals are bound
  abbrev pub LocalsBound : Type 0
  LocalsBound =
      (i : ℕ) → i < root.l → (t : Linear) × (unwrap_or (slice_get root.ls i) None ≡ Some t)

  pub low-bound : LocalsBound → (x : ℕ) → x < root.f.params + root.l → Bound (root_names root) x
  low-bound known x l = elim (less_or x root.f.params) [
    | inl k ↦ param-bound x k
    | inr k ↦
        let f = root.f in
        let i = x - f.params in
        let at : f.params + i ≡ x = omega (arith, k) in
        let low : i < root.l = omega (arith, k, l) in
        let all = root.hgap in
        let t = known i low in
        let h : Home = record { function = root.n; fixed = f.params + root.l } in (
          t.0,
          ap (term_of (root_names root)) (sym at)
              ∙ own-local f h (variables_from 0 f.params) root.ls root.r (length root.new)
              (variables-length 0 f.params) root.hls i (omega (arith, low, all))
              ∙ t.1,
        )
  ]

  -- ---- known names keep their values

  module _ (b : Valuation) (k : NamesKept root.sc (root_names root) root.a b) where
    pub whole-kept :
        LocalsBound → (zs : List ℤ) → length zs ≤ root.f.params + root.l → AreWhole root.a 0 zs →
        AreWhole b 0 zs
    whole-kept known zs size are =
        whole-of b 0 zs (λ i z q.
        let at = within zs i z q in
        let low : 0 + i < root.f.params + root.l = omega (arith, at, size) in
        k.whole (0 + i) (root.low_in (0 + i) low) (low-bound known (0 + i) low)
        ∙ whole-at root.a 0 zs i z are q)

    pub fixed-kept :
        (fx : List NameValue) → ValuesFit root.f.fixed fx →
        AreNamed root.a (fixed_start root.f) fx → AreNamed b (fixed_start root.f) fx
    fixed-kept fx fit are =
        let size = values-length root.f.fixed fx fit in
        named-of b (fixed_start root.f) fx (λ i y q.
        let at = within fx i y q in
        let o = there-is root.f.fixed i (omega (arith, at, size)) in
        name-kept root.sc (root_names root) root.a b k (fixed_start root.f + i) o.0 y
        (root.fixed_in i o.0 o.1) (fixed-bound i (within root.f.fixed i o.0 o.1))
        (fits-at root.f.fixed fx i o.0 y fit o.1 q)
        (named-at root.a (fixed_start root.f) fx i y are q))

  -- ---- the assertion can be taken again

  -- the state of a root: two environments, and a store
  abbrev pub root_start : List Linear → PlainState
  root_start store = record empty_state {
    sorts = sorts_of root.f root.l root.rs;
    store = store;
    envs = root_names root ∷ root_names root ∷ [];
  }

  -- its names, its variables and their values
  abbrev pub root_filled : Filled
  root_filled = record {
    env = root_names root;
    next = length (sorts_of root.f root.l root.rs);
    values = root_values root;
  }

  pub root-again :
      (p : Checked) → GivenLaw p → RestsLaw p → StillLaw p → (T U : Table) (h : Stock)
      (items : Items) (store : List Linear) (trees : PlainTrees) →
      AllByRecursion (Over (Usable [] (sorts_of root.f root.l root.rs) Int)) store →
      Open p.N trees (root_start store)
      (to_give items 0 0 ∷ to_rest 0 0 ∷ to_take items 1 0 0 ∷ []) →
      AreFit p.program root.sc items → (owns : Owns p.program T h root.a items) →
      Reached p.program T U h →
      AgainBy p.program U h root.sc (root_names root) root.a items
      (fill_items p.program T root.a items h owns.0 owns.1 root_filled)
  root-again p gives rests still T U h items store trees over goes fits owns reached =
      let s = root_start store in
      let v = root_values root in
      let ready = root-ready root s refl refl refl (root_names root ∷ []) refl over in
      again p gives rests still T U root.sc root.a v s h items trees goes
      (record {
        grounded = record { meets = ready.meets; pieces_over = tt; pieces_fit = tt };
        facts = record { holds = tt; over = tt; loose = tt; differ = tt };
        opened = tt;
        there = ready.there;
        placed = ready.placed;
      }) tt refl ready.means (omega arith) (root-placed root) (root-means root) fits owns
      (record {
        cells = λ x z. omega arith;
        guards = λ n. covered-none p.program v n (no_stock.guards n);
      }) reached
