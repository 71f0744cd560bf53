-- The state at a call or a fork: the callee's `requires` is taken from it.
use Rattle.cap_account_resources.proofs.Lists.{map-at, none-some, within, get-map, get-last, map-length, get-or-push, push-length, get-first}
use Rattle.std.proofs.Common.{◌≡◌, ℕ, ◌+◌, ◌<◌, ℤ, ◌*ℤ◌, List, [], ◌∷◌, ◌++◌, length, map, arith, refl, sym, ap, ◌∙◌, subst, Option, Some, inl, inr}
use Rattle.std.specs.Prelude.{slice_get, unwrap_or}
use Rattle.std.specs.List.{AllByRecursion}
use Rattle.cap_lin.specs.Linear.{Linear}
use Rattle.cap_lin.specs.Values.{Valuation, denominator, value}
use Rattle.cap_lin.specs.Solves.{IsWholeAt}
use Rattle.cap_lin.specs.declared.row.Sort.{Sort}
use Rattle.cap_lin.specs.declared.row.Sort.TheVariants.{Int}
use Rattle.cap_prog.specs.Program.{PlainFunction}
use Rattle.cap_prog.specs.Scopes.{fixed_start, requires_scope, HasSort}
use Rattle.cap_goal_spec.specs.States.{PlainEnv, PlainState, PlainTask}
use Rattle.cap_goal_spec.specs.Environments.{zero_value, term_of, callee_env}
use Rattle.cap_rules.specs.Making.{fresh, env_at}
use Rattle.cap_machine.specs.Machine.{value_in}
use Rattle.cap_machine_accounts.specs.Assertions.{NameValue}
use Rattle.cap_account_resources.specs.Parts.{Table}
use Rattle.cap_account_resources.proofs.Stocks.{Stock, no_stock}
use Rattle.cap_account_states.proofs.Terms.{Over, vars-more, Agree}
use Rattle.cap_account_states.proofs.Alike.{Alike, alike-same, alike-trans, alike-less, agree-alike, value-alike, meets-fresh}
use Rattle.cap_account_states.proofs.Meets as meets
use Rattle.cap_account_states.proofs.Meets.{Usable, usable-old, usable-on, Meets, Old, new-whole, new-share, with-agrees}
use Rattle.cap_account_states.proofs.Checked.{Checked}
use Rattle.cap_account_states.proofs.Facts.{Facts}
use Rattle.cap_account_states.proofs.Naming.{Placed}
use Rattle.cap_account_states.proofs.Scopes.{Early, requires-early, early-position, position-room, param-requires, callee-param, callee-fixed, callee-room}
use Rattle.cap_account_states.proofs.Values.{whole-of}
use Rattle.cap_account_states.proofs.Backed.{IsFirm, IsOpened, Backed, Grounded}
use Rattle.cap_account_assertions.proofs.Asserted.{OwnsRequires, owns-all}
use Rattle.cap_account_assertions.proofs.Laws.{StateAt, Taken}
use Rattle.cap_account_steps.proofs.Stores.{here, here-value, here-over}
use Rattle.cap_account_steps.proofs.OwnNames.{canon, canon-means}
use Rattle.cap_account_steps.proofs.Callees.{fixed_values, fixed-are, at_call, meets-reserve, put-over}
use Rattle.cap_account_steps.proofs.FirmStates.{Between, facts-between, grounded-between, backed-between}

-- a state that holds of a frame's store and part, and a call of g; until the result is there its
-- variable has the value z
pub record Caller (p : Checked) (part : Stock) (T : Table) (store : List ℤ) : Type 0 where
  pub s : PlainState
  pub v : Valuation
  pub grounded : Grounded p.program [] v s
  pub facts : Facts [] v T s
  pub firm : AllByRecursion IsFirm s.facts
  pub backed : Backed p.program v s part
  pub none_open : s.opened ≡ []
  pub is_store : map (value v.whole) s.store ≡ store
  pub g : PlainFunction
  pub args : List Linear
  pub size : length args ≡ g.params
  pub x : Option ℕ
  pub z : ℤ

module _ (p : Checked) (part : Stock) (T : Table) (store : List ℤ) (c : Caller p part T store) where
  abbrev s : PlainState
  s = c.s

  abbrev v : Valuation
  v = c.v

  abbrev g : PlainFunction
  g = c.g

  -- the variable that the result will have is kept free
  abbrev pub kept : List ℕ
  kept = length c.s.sorts ∷ []

  abbrev sorts1 : List Sort
  sorts1 = c.s.sorts ++ Int ∷ []

  abbrev pub v1 : Valuation
  v1 = meets.with_value c.v (length c.s.sorts) c.z (c.z *ℤ denominator c.v.fraction)

  abbrev params : List Linear
  params = map (here c.s) c.args

  abbrev pub env : PlainEnv
  env = callee_env c.g (map (here c.s) c.args) (fresh c.s)

  abbrev pub s1 : PlainState
  s1 = at_call c.s c.g c.args c.x

  abbrev pub args_are : List ℤ
  args_are = map (value_in store) c.args

  pub params-count : length params ≡ g.params
  params-count = map-length (here s) c.args ∙ c.size

  agree1 : Agree (Old s) v v1
  agree1 =
      with-agrees (Old s) v (length s.sorts) c.z (c.z *ℤ denominator v.fraction)
      (λ x l q. omega (arith, l, q))

  whole1 : IsWholeAt v1 (length s.sorts)
  whole1 =
      new-share v (length s.sorts) c.z (c.z *ℤ denominator v.fraction)
      ∙ ap (λ y. y *ℤ denominator v.fraction)
      (sym (new-whole v (length s.sorts) c.z (c.z *ℤ denominator v.fraction)))

  pub new-env : env_at s1 (length s.envs) ≡ env
  new-env = get-or-push s.envs env []

  usable1 : (o : Sort) (x : ℕ) → Usable [] s.sorts o x → Usable kept sorts1 o x
  usable1 o x h =
      let l = usable-old [] s.sorts o x h in (
        (usable-on [] s.sorts sorts1 (λ y q e. get-first s.sorts (Int ∷ []) y q e) o x h).0,
        ((λ q. omega (arith, l, q)), tt),
      )

  between1 : Between [] kept (Old s) v v1 s s1
  between1 = record {
    uses = usable-old [] s.sorts;
    usable = usable1;
    alike = agree-alike (Old s) v v1 agree1;
    facts = refl;
    cells = refl;
    guards = refl;
  }

  meets1 : Meets kept v1 s1
  meets1 =
      let b = meets-fresh kept v v1 s Int agree1 whole1 (meets-reserve v s c.grounded.meets) in
      record {
        sorted = b.sorted;
        rows = b.rows;
        rows_over = b.rows_over;
        cells_over = b.cells_over;
        positive = b.positive;
        store_over = put-over (Over (Usable [] sorts1 Int)) s.store c.x (fresh s) b.store_over
            ((get-last s.sorts Int, tt), tt);
      }

  pub backed1 : Backed p.program v1 s1 part
  backed1 =
      backed-between p.program [] kept (Old s) v v1 s s1 between1 part c.grounded c.backed

  -- an argument, at its parameter
  arg-at :
      (x : ℕ) (t : Linear) → x < g.params → term_of env x ≡ Some t →
      (u : Linear) × (slice_get c.args x ≡ Some u) × (here s u ≡ t)
  arg-at x t l q =
      get-map (here s) c.args x t (sym (callee-param g params (fresh s) params-count x l) ∙ q)

  here-usable : (u : Linear) → Over (Usable kept sorts1 Int) (here s u)
  here-usable u =
      vars-more (Usable [] s.sorts Int) (Usable kept sorts1 Int) (usable1 Int) (here s u).parts
      (here-over [] v s u c.grounded.meets)

  here-old : (u : Linear) → Over (Old s) (here s u)
  here-old u =
      vars-more (Usable [] s.sorts Int) (Old s) (usable-old [] s.sorts Int) (here s u).parts
      (here-over [] v s u c.grounded.meets)

  early-at :
      (x : ℕ) (o : Sort) (t : Linear) → Early g x o → term_of env x ≡ Some t →
      (u : Linear) × (here s u ≡ t) × (Int ≡ o)
  early-at x o t (inl h) q = let u = arg-at x t h.0 q in (u.0, u.2, h.1)
  early-at x o t (inr h) q =
      absurd (none-some
      (sym (callee-fixed g params (fresh s) params-count h.0 (within g.fixed h.0 o h.2))
      ∙ ap (term_of env) (sym h.1)
      ∙ q))

  placed1 : Placed kept (requires_scope g) sorts1 env
  placed1 = record {
    room = λ x o i.
        (let q = position-room g g.ensures.names x o
        (early-position g g.ensures.names x o (requires-early g x o i)) in
        let r = callee-room g params (fresh s) params-count in
        omega (arith, q, r));
    over = λ x o i t q.
        let u = early-at x o t (requires-early g x o i) q in
        subst (λ z. Over (Usable kept sorts1 z) t) u.2
        (subst (Over (Usable kept sorts1 Int)) u.1 (here-usable u.0));
  }

  -- what taking starts from
  pub at-call : StateAt p.program kept T (requires_scope g) (length s.envs) v1 s1
  at-call = record {
    grounded =
        grounded-between p.program [] kept (Old s) v v1 s s1 between1 meets1 c.grounded;
    facts = facts-between p.program [] kept (Old s) v v1 s s1 between1 T c.firm c.facts;
    opened = subst (AllByRecursion (IsOpened (Usable kept sorts1 Int) v1 T)) (sym c.none_open) tt;
    there = (let q = push-length s.envs env in omega (arith, q));
    placed = subst (Placed kept (requires_scope g) sorts1) (sym new-env) placed1;
  }

  abbrev pub TakenHere : List PlainTask → Type 0
  TakenHere ts =
      Taken p kept T (requires_scope c.g) (length c.s.envs) 3 v1 part s1 c.g.requires ts

  module _ (ts : List PlainTask) (tk : TakenHere ts) where
    abbrev pub env2 : PlainEnv
    env2 = env_at tk.after (length c.s.envs)

    -- the values that the names of `requires` have
    abbrev pub a1 : Valuation
    a1 = canon tk.w (env_at tk.after (length c.s.envs))

    abbrev pub callee_fixed : List NameValue
    callee_fixed =
        fixed_values (canon tk.w (env_at tk.after (length c.s.envs))) (fixed_start c.g) c.g.fixed

    pub alike2 : Alike (Old s) v tk.w
    alike2 =
        alike-trans (Old s) v v1 tk.w (agree-alike (Old s) v v1 agree1)
        (alike-less (Old s) (Old s1) v1 tk.w
        (λ x l. let q = push-length s.sorts Int in omega (arith, l, q)) tk.alike)

    stays1 :
        (x : ℕ) (o : Sort) → HasSort (requires_scope g) o x → (t : Linear) →
        term_of env x ≡ Some t → term_of env2 x ≡ Some t
    stays1 x o i t q = tk.stays x o i t (ap (λ z. term_of z x) new-env ∙ q)

    pub arg-value :
        (w : Valuation) → Alike (Old s) v w → (u : Linear) →
        value w.whole (here s u) ≡ value_in store u
    arg-value w l u =
        value-alike (Old s) v w l (here s u) (here-old u) ∙ here-value v s store u c.is_store

    pub arg-look :
        (x : ℕ) (u : Linear) → x < g.params → slice_get c.args x ≡ Some u →
        term_of env2 x ≡ Some (here s u)
    arg-look x u l e =
        stays1 x Int (param-requires g x l) (here s u)
        (callee-param g params (fresh s) params-count x l ∙ map-at (here s) c.args x u e)

    abbrev pub met-requires : OwnsRequires p.program tk.U tk.given g args_are callee_fixed
    met-requires = record {
      values = a1;
      args_are = whole-of a1 0 args_are (λ i z j.
          let u = get-map (value_in store) c.args i z j in
          let l = within c.args i u.0 u.1 in
          let size = c.size in
          let low : i < g.params = omega (arith, l, size) in
          let at : 0 + i ≡ i = omega arith in
          ap a1.whole at
          ∙ ap (λ y. value tk.w.whole (unwrap_or y zero_value)) (arg-look i u.0 low u.1)
          ∙ arg-value tk.w alike2 u.0
          ∙ u.2);
      fixed_are = fixed-are a1 (fixed_start g) g.fixed;
      met =
          owns-all p.program tk.U a1 g.requires tk.given
          (tk.draws tk.w (alike-same (Old tk.after) tk.w) a1
          (canon-means (requires_scope g) tk.w env2) no_stock);
    }
