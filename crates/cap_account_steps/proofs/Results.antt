-- A callee's result arrives: its variable has the value, and the names of `ensures` are what the
-- callee says.
use Rattle.cap_account_resources.proofs.Lists.{map-at, some-same, none-some, within, there-is, get-last}
use Rattle.std.proofs.Common.{◌≡◌, ◌≢◌, ℕ, suc, ◌+◌, ◌<◌, ◌≤◌, ℤ, pos, ◌*ℤ◌, List, [], length, map, arith, refl, sym, ap, ◌∙◌, subst, Some, inl, inr}
use Rattle.std.specs.Prelude.{slice_get, unwrap_or}
use Rattle.std.specs.List.{AllByRecursion}
use Rattle.std.proofs.lemmas.Bool.{cases_eq}
use Rattle.cap_lin.specs.Linear.{Linear}
use Rattle.cap_lin.specs.Values.{Valuation, denominator, value, amount}
use Rattle.cap_lin.specs.Solves.{IsWholeAt}
use Rattle.cap_lin.specs.declared.row.Sort.{Sort}
use Rattle.cap_lin.specs.declared.row.Sort.TheVariants.{Int, Perm}
use Rattle.cap_prog.specs.Scopes.{fixed_start, result_name, requires_scope, ensures_scope, HasSort}
use Rattle.cap_goal_spec.specs.States.{PlainState, PlainTask}
use Rattle.cap_goal_spec.specs.Environments.{zero_value, term_of}
use Rattle.cap_rules.specs.Making.{fresh}
use Rattle.cap_machine.specs.Machine.{value_in}
use Rattle.cap_machine_accounts.specs.Assertions.{AreNamed, AreWhole}
use Rattle.cap_account_resources.specs.Parts.{Table}
use Rattle.cap_account_resources.proofs.Order.{cancel}
use Rattle.cap_account_resources.proofs.Stocks.{Stock}
use Rattle.cap_account_states.proofs.Terms.{Over, vars-more, Agree, agree-less, value-agree, amount-agree}
use Rattle.cap_account_states.proofs.Alike.{Alike, above-zero, alike-trans, alike-less, agree-alike, meets-agree}
use Rattle.cap_account_states.proofs.Meets as meets
use Rattle.cap_account_states.proofs.Meets.{Free, Usable, Meets, Old, new-whole, new-share, with-agrees, variable-value}
use Rattle.cap_account_states.proofs.Checked.{Checked}
use Rattle.cap_account_states.proofs.Facts.{Facts}
use Rattle.cap_account_states.proofs.Naming.{Placed, Means}
use Rattle.cap_account_states.proofs.Scopes.{ensures-late, ensures-at, scope-length, position-room, param-requires, fixed-requires, callee-result, callee-new, callee-room}
use Rattle.cap_account_states.proofs.Values.{scaled, scaled-amount, named-at, whole-at}
use Rattle.cap_account_states.proofs.Backed.{IsFirm, Backed, Grounded}
use Rattle.cap_account_steps.proofs.Stores.{here}
use Rattle.cap_account_steps.proofs.Callees.{value_for, fixed-at, meets-free}
use Rattle.cap_account_steps.proofs.FirmStates.{Between, stays-firm, facts-between, grounded-between, backed-between}
use Rattle.cap_account_steps.proofs.CallSite.{Caller, TakenHere, kept, params-count, new-env, env, a1, env2, callee_fixed, alike2, arg-value, arg-look, args_are}

module _ (p : Checked) (part : Stock) (T : Table) (store : List ℤ) (c : Caller p part T store)
    (ts : List PlainTask) (tk : TakenHere p part T store c ts) (r : ℤ) where
  abbrev s : PlainState
  s = c.s

  abbrev Apart : ℕ → Type 0
  Apart x = x ≢ length c.s.sorts

  -- the result's variable has the result
  abbrev pub with_result : Valuation
  with_result = meets.with_value tk.w (length c.s.sorts) r (r *ℤ denominator tk.w.fraction)

  agree3 : Agree Apart tk.w with_result
  agree3 =
      with-agrees Apart tk.w (length s.sorts) r (r *ℤ denominator tk.w.fraction) (λ x h. h)

  pub alike4 : Alike (Old s) c.v with_result
  alike4 =
      alike-trans (Old s) c.v tk.w with_result (alike2 p part T store c ts tk)
      (alike-less (Old s) Apart tk.w with_result (λ x l q. omega (arith, l, q))
      (agree-alike Apart tk.w with_result agree3))

  pub result-there : slice_get tk.after.sorts (length s.sorts) ≡ Some Int
  result-there = tk.goes_on.sorts (length s.sorts) Int (get-last s.sorts Int)

  pub result-value : with_result.whole (length s.sorts) ≡ r
  result-value = new-whole tk.w (length s.sorts) r (r *ℤ denominator tk.w.fraction)

  between2 : Between (kept p part T store c) [] Apart tk.w with_result tk.after tk.after
  between2 = record {
    uses = λ o x h. h.1.0;
    usable = λ o x h. (h.0, tt);
    alike = agree-alike Apart tk.w with_result agree3;
    facts = refl;
    cells = refl;
    guards = refl;
  }

  meets2 : Meets [] with_result tk.after
  meets2 =
      let ks = kept p part T store c in
      meets-free ks with_result tk.after (meets-agree ks tk.w with_result tk.after
      (agree-less (λ x. (x < length tk.after.sorts) × Free ks x) Apart tk.w with_result
      (λ x h. h.1.0) agree3)
      (λ x q. elim (cases_eq x (length s.sorts)) [
        | inl e ↦
            subst (IsWholeAt with_result) (sym e)
            (new-share tk.w (length s.sorts) r (r *ℤ denominator tk.w.fraction)
            ∙ ap (λ y. y *ℤ denominator tk.w.fraction) (sym result-value))
        | inr ne ↦
            agree3.share x ne
            ∙ tk.ready.grounded.meets.sorted x q
            ∙ ap (λ y. y *ℤ denominator tk.w.fraction) (sym (agree3.whole x ne))
      ]) tk.ready.grounded.meets)

  -- the state that was left, with no variable kept free any more
  pub firm2 : AllByRecursion IsFirm tk.after.facts
  firm2 = stays-firm s.facts tk.after.facts c.firm tk.loose

  pub grounded2 : Grounded p.program [] with_result tk.after
  grounded2 =
      grounded-between p.program (kept p part T store c) [] Apart tk.w with_result tk.after tk.after
      between2 meets2 tk.ready.grounded

  pub facts2 : Facts [] with_result tk.U tk.after
  facts2 =
      facts-between p.program (kept p part T store c) [] Apart tk.w with_result tk.after tk.after
      between2 tk.U firm2 tk.ready.facts

  pub backed2 : Backed p.program with_result tk.after tk.left
  backed2 =
      backed-between p.program (kept p part T store c) [] Apart tk.w with_result tk.after tk.after
      between2 tk.left tk.ready.grounded tk.backed

  -- ---- names of `ensures`

  not-early :
      (x : ℕ) → result_name c.g ≤ x → (o : Sort) → HasSort (requires_scope c.g) o x → ⊥
  not-early x l o i =
      let q = within (requires_scope c.g) x (Some o) i in
      let n = scope-length c.g in
      omega (arith, l, q, n)

  -- such a name stands for an argument, for what the callee bound a fixed name to, or for the
  -- result
  data Late (x : ℕ) (o : Sort) (t : Linear) : Type 0 where
    an_argument :
        (u : Linear) → x < c.g.params → Int ≡ o → slice_get c.args x ≡ Some u → t ≡ here c.s u →
        HasSort (requires_scope c.g) o x → Late x o t
    a_fixed_name :
        (i : ℕ) → x ≡ fixed_start c.g + i → slice_get c.g.fixed i ≡ Some o →
        HasSort (requires_scope c.g) o x → Late x o t
    the_result : x ≡ result_name c.g → Int ≡ o → t ≡ fresh c.s → Late x o t

  -- past the result nothing is bound
  outside-at :
      (x : ℕ) → result_name c.g ≤ x →
      term_of (env2 p part T store c ts tk) x ≡ term_of (env p part T store c) x
  outside-at x l =
      tk.outside x (not-early x l) ∙ ap (λ z. term_of z x) (new-env p part T store c)

  late :
      (x : ℕ) (o : Sort) (t : Linear) → HasSort (ensures_scope c.g c.g.ensures.names) o x →
      term_of (env2 p part T store c ts tk) x ≡ Some t → Late x o t
  late x o t i q =
      let params = map (here s) c.args in
      let count = params-count p part T store c in
      elim (ensures-late c.g c.g.ensures.names x o i) [
        | inl h ↦ elim h [
          | inl k ↦
              let size = c.size in
              let low = k.0 in
              let j = there-is c.args x (omega (arith, low, size)) in
              an_argument j.0 k.0 k.1 j.1
              (some-same t (here s j.0) (sym q ∙ arg-look p part T store c ts tk x j.0 k.0 j.1))
              (subst (λ o. HasSort (requires_scope c.g) o x) k.1 (param-requires c.g x k.0))
          | inr k ↦ a_fixed_name k.0 k.1 k.2
              (subst (HasSort (requires_scope c.g) o) (sym k.1) (fixed-requires c.g k.0 o k.2))
        ]
        | inr h ↦ elim h [
          | inl k ↦
              let at = k.0 in
              the_result k.0 k.1
              (some-same t (fresh s)
              (sym q
              ∙ outside-at x (omega (arith, at))
              ∙ ap (term_of (env p part T store c)) k.0
              ∙ callee-result c.g params (fresh s) count))
          | inr k ↦
              let at = k.1 in
              absurd (none-some
              (sym (outside-at x (omega (arith, at))
              ∙ ap (term_of (env p part T store c)) k.1
              ∙ callee-new c.g params (fresh s) count k.0)
              ∙ q))
        ]
      ]

  pub placed2 :
      Placed [] (ensures_scope c.g c.g.ensures.names) tk.after.sorts (env2 p part T store c ts tk)
  placed2 = record {
    room = λ x o i.
        (let q = position-room c.g c.g.ensures.names x o (ensures-at c.g c.g.ensures.names x o i) in
        let n = callee-room c.g (map (here s) c.args) (fresh s) (params-count p part T store c) in
        let y = tk.size in
        let z = ap length (new-env p part T store c) in
        omega (arith, q, n, y, z));
    over = λ x o i t q. by x o t q (late x o t i q);
  }
    where
      freed :
          (o : Sort) (t : Linear) → Over (Usable (kept p part T store c) tk.after.sorts o) t →
          Over (Usable [] tk.after.sorts o) t
      freed o t h =
          vars-more (Usable (kept p part T store c) tk.after.sorts o) (Usable [] tk.after.sorts o)
          (λ y k. (k.0, tt)) t.parts h

      by :
          (x : ℕ) (o : Sort) (t : Linear) → term_of (env2 p part T store c ts tk) x ≡ Some t →
          Late x o t → Over (Usable [] tk.after.sorts o) t
      by x o t q (an_argument u l e is j i) = freed o t (tk.ready.placed.over x o i t q)
      by x o t q (a_fixed_name k l e i) = freed o t (tk.ready.placed.over x o i t q)
      by x o t q (the_result l e j) =
          subst (λ z. Over (Usable [] tk.after.sorts z) t) e
          (subst (Over (Usable [] tk.after.sorts Int)) (sym j) ((result-there, tt), tt))

  apart-over :
      (x : ℕ) (o : Sort) (t : Linear) → HasSort (requires_scope c.g) o x →
      term_of (env2 p part T store c ts tk) x ≡ Some t → Over Apart t
  apart-over x o t i q =
      vars-more (Usable (kept p part T store c) tk.after.sorts o) Apart (λ y k. k.1.0) t.parts
      (tk.ready.placed.over x o i t q)

  module _ (a2 : Valuation) (whole_args : AreWhole a2 0 (args_are p part T store c))
      (named : AreNamed a2 (fixed_start c.g) (callee_fixed p part T store c ts tk))
      (result_is : a2.whole (result_name c.g) ≡ r) where
    whole-late :
        (x : ℕ) (t : Linear) → term_of (env2 p part T store c ts tk) x ≡ Some t → Late x Int t →
        value with_result.whole t ≡ a2.whole x
    whole-late x t q (an_argument u l e is j i) =
        let n : 0 + x ≡ x = omega arith in
        ap (value with_result.whole) j
        ∙ arg-value p part T store c ts tk with_result alike4 u
        ∙ sym (whole-at a2 0 (args_are p part T store c) x (value_in store u) whole_args
        (map-at (value_in store) c.args x u is))
        ∙ ap a2.whole n
    whole-late x t q (a_fixed_name k l e i) =
        let a = a1 p part T store c ts tk in
        let known : a.whole x ≡ value tk.w.whole t =
        ap (λ y. value tk.w.whole (unwrap_or y zero_value)) q in
        let said : a2.whole (fixed_start c.g + k) ≡ a.whole (fixed_start c.g + k) =
        named-at a2 (fixed_start c.g) (callee_fixed p part T store c ts tk) k
        (value_for Int a (fixed_start c.g + k)) named
        (fixed-at a (fixed_start c.g) c.g.fixed k Int e) in
        value-agree Apart tk.w with_result agree3 t (apart-over x Int t i q)
        ∙ sym known
        ∙ ap a.whole l
        ∙ sym said
        ∙ ap a2.whole (sym l)
    whole-late x t q (the_result l e j) =
        ap (value with_result.whole) j
        ∙ variable-value with_result (length s.sorts)
        ∙ result-value
        ∙ sym result_is
        ∙ ap a2.whole (sym l)

    int-perm : {A : Type 0} → Int ≡ Perm → A
    int-perm e = absurd (unlike e)
      where
        unlike : Int ≡ Perm → ⊥
        unlike e = cc

    share-late :
        (x : ℕ) (t : Linear) → term_of (env2 p part T store c ts tk) x ≡ Some t → Late x Perm t →
        amount with_result.fraction t *ℤ denominator a2.fraction
        ≡ a2.fraction.numerator x *ℤ denominator tk.w.fraction
    share-late x t q (an_argument u l e is j i) = int-perm e
    share-late x t q (a_fixed_name k l e i) =
        let a = a1 p part T store c ts tk in
        let known : a.fraction.numerator x ≡ amount tk.w.fraction t =
        ap (λ y. amount tk.w.fraction (unwrap_or y zero_value)) q in
        let said : a2.fraction.numerator (fixed_start c.g + k) *ℤ pos
        (suc tk.w.fraction.under) ≡ a.fraction.numerator
        (fixed_start c.g + k) *ℤ denominator a2.fraction =
        named-at a2 (fixed_start c.g) (callee_fixed p part T store c ts tk) k
        (value_for Perm a (fixed_start c.g + k)) named
        (fixed-at a (fixed_start c.g) c.g.fixed k Perm e) in
        let d : suc tk.w.fraction.under ≡ tk.w.fraction.under + 1 = omega arith in
        ap (λ y. y *ℤ denominator a2.fraction)
        (amount-agree Apart tk.w with_result agree3 t (apart-over x Perm t i q)
        ∙ sym known
        ∙ ap a.fraction.numerator l)
        ∙ sym said
        ∙ ap (λ n. a2.fraction.numerator (fixed_start c.g + k) *ℤ pos n) d
        ∙ ap (λ y. a2.fraction.numerator y *ℤ denominator tk.w.fraction) (sym l)
    share-late x t q (the_result l e j) = int-perm e

    -- both over the product of the denominators
    pub means2 :
        Means (ensures_scope c.g c.g.ensures.names) (scaled a2.fraction.under with_result)
        (env2 p part T store c ts tk) (scaled tk.w.fraction.under a2)
    means2 = record {
      under = omega arith;
      whole = λ x i t q. whole-late x t q (late x Int t i q);
      share =
          λ x i t q. scaled-amount a2.fraction.under with_result t
          ∙ share-late x t q (late x Perm t i q);
    }

    -- where both are over one denominator
    pub means3 :
        a2.fraction.under ≡ tk.w.fraction.under →
        Means (ensures_scope c.g c.g.ensures.names) with_result (env2 p part T store c ts tk) a2
    means3 same = record {
      under = same;
      whole = λ x i t q. whole-late x t q (late x Int t i q);
      share = λ x i t q.
          cancel (amount with_result.fraction t) (a2.fraction.numerator x)
          (denominator tk.w.fraction) (above-zero tk.w)
          (ap (λ n. amount with_result.fraction t *ℤ pos (n + 1)) (sym same)
          ∙ share-late x t q (late x Perm t i q));
    }
