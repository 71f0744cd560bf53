-- A callee's fixed names may be given any values that they have: the same fractions, written otherwise.
use Rattle.std.proofs.Common.{◌≡◌, ℕ, suc, ◌+◌, ℤ, pos, ◌*ℤ◌, List, [], ◌∷◌, length, map, Option, Some, refl, sym, ap, ◌∙◌, subst, arith}
use Rattle.std.specs.Prelude.{slice_get, ◌<ℤ◌}
use Rattle.std.specs.List.{AllByRecursion}
use Rattle.std.proofs.lemmas.Int.{ints}
use Rattle.cap_lin.specs.Values.{Valuation, denominator}
use Rattle.cap_lin.specs.declared.row.Sort.{Sort}
use Rattle.cap_lin.specs.declared.row.Sort.TheVariants.{Int, Perm}
use Rattle.cap_prog.specs.Program.{PlainFunction}
use Rattle.cap_prog.specs.Scopes.{fixed_start}
use Rattle.cap_goal_spec.specs.States.{PlainState}
use Rattle.cap_goal_spec.specs.Choices.{PlainTrees}
use Rattle.cap_machine.specs.Machine.{Frame, receives}
use Rattle.cap_machine_accounts.specs.Assertions.{NameValue, a_number, a_fraction, HasNameSort, ValuesFit, IsNamed, AreNamed}
use Rattle.cap_account_resources.specs.Parts.{Table}
use Rattle.cap_account_resources.proofs.Lists.{some-same}
use Rattle.cap_account_resources.proofs.Interference.{Relies}
use Rattle.cap_account_resources.proofs.Order.{cancel, swapped}
use Rattle.cap_account_resources.proofs.Stocks.{Stock, both}
use Rattle.cap_account_states.proofs.Checked.{Checked}
use Rattle.cap_account_states.proofs.Meets.{Old}
use Rattle.cap_account_assertions.proofs.Asserted.{OwnsEnsures}
use Rattle.cap_account_assertions.proofs.Laws.{Creation, KeepsCreated}
use Rattle.cap_account_assertions.proofs.Named.{set_to, rest_values}
use Rattle.cap_account_steps.proofs.Callees.{value_for, fixed_values}
use Rattle.cap_account_steps.proofs.Frames.{Roomy, Calls, Forks, StandsAgain, GivenBack, WaitsLike, waits_so}
use Rattle.cap_account_steps.proofs.Regained.{given_ensures}
use Rattle.cap_account_steps.proofs.CallLaws.{required, CallsAt, ForksAt}
use Rattle.cap_account_steps.proofs.Calling.{back_start}

-- ---- the same fractions

same-value :
    (o : Sort) (a b : Valuation) (x : ℕ) (y : NameValue) → HasNameSort o y → IsNamed a x y →
    IsNamed b x y → IsNamed b x (value_for o a x)
same-value Int a b x (a_number z) s h k = k ∙ sym h
same-value Int a b x (a_fraction n d) s h k = absurd s
same-value Perm a b x (a_number z) s h k = absurd s
same-value Perm a b x (a_fraction n d) s h k =
    let p = a.fraction.numerator x in
    let q = b.fraction.numerator x in
    let da = denominator a.fraction in
    let db = denominator b.fraction in
    let m = pos (suc d) in
    let above : pos 0 <ℤ pos (suc d) = omega (arith, ints) in
    let e : suc a.fraction.under ≡ a.fraction.under + 1 = omega arith in
    ap (λ u. q *ℤ pos u) e
    ∙ cancel (q *ℤ da) (p *ℤ db) m above
    (swapped q da m ∙ ap (λ u. u *ℤ da) k ∙ swapped n db da ∙ ap (λ u. u *ℤ db) (sym h)
    ∙ swapped p m db)

same-values :
    (os : List Sort) (a b : Valuation) (x : ℕ) (ys : List NameValue) → ValuesFit os ys →
    AreNamed a x ys → AreNamed b x ys → AreNamed b x (fixed_values a x os)
same-values [] a b x [] s h k = tt
same-values [] a b x (y ∷ ys) s h k = absurd s
same-values (o ∷ os) a b x [] s h k = absurd s
same-values (o ∷ os) a b x (y ∷ ys) s h k = (
  same-value o a b x y s.0 h.0 k.0,
  same-values os a b (suc x) ys s.1 h.1 k.1,
)

-- and back: who has those fractions has these
given-value :
    (o : Sort) (a b : Valuation) (x : ℕ) (y : NameValue) → HasNameSort o y → IsNamed a x y →
    IsNamed b x (value_for o a x) → IsNamed b x y
given-value Int a b x (a_number z) s h k = k ∙ h
given-value Int a b x (a_fraction n d) s h k = absurd s
given-value Perm a b x (a_number z) s h k = absurd s
given-value Perm a b x (a_fraction n d) s h k =
    let p = a.fraction.numerator x in
    let q = b.fraction.numerator x in
    let da = denominator a.fraction in
    let db = denominator b.fraction in
    let m = pos (suc d) in
    let above : pos 0 <ℤ denominator a.fraction = omega (arith, ints) in
    let e : a.fraction.under + 1 ≡ suc a.fraction.under = omega arith in
    cancel (q *ℤ m) (n *ℤ db) da above
    (swapped q m da ∙ ap (λ u. u *ℤ m) (ap (λ u. q *ℤ pos u) e ∙ k) ∙ swapped p db m
    ∙ ap (λ u. u *ℤ db) h ∙ swapped n da db)

given-values :
    (os : List Sort) (a b : Valuation) (x : ℕ) (ys : List NameValue) → ValuesFit os ys →
    AreNamed a x ys → AreNamed b x (fixed_values a x os) → AreNamed b x ys
given-values [] a b x [] s h k = tt
given-values [] a b x (y ∷ ys) s h k = absurd s
given-values (o ∷ os) a b x [] s h k = absurd s
given-values (o ∷ os) a b x (y ∷ ys) s h k = (
  given-value o a b x y s.0 h.0 k.0,
  given-values os a b (suc x) ys s.1 h.1 k.1,
)

-- ---- calls and forks with such values

module _ (p : Checked) (part : Stock) (T : Table) (fixed : List NameValue) (f : Frame)
    (g : PlainFunction) (args : List ℤ) (v : Valuation) (s : PlainState)
    (given : List NameValue) (fit : ValuesFit g.fixed given) where
  pub record CallsWith (x : Option ℕ) (n : ℕ) (took : Valuation) (after : PlainState)
      (children : PlainTrees) : Type 0 where
    pub calls : Calls p part T fixed f x n g args
    pub fixed_are : calls.fixed ≡ given
    pub created : List Creation
    pub are_created : calls.over.new ≡ map (λ c. c.owner) created
    pub keeps : AllByRecursion (KeepsCreated p.program calls.over.U (Old after) took) created
    pub waits :
        WaitsLike p calls.kept calls.over.U fixed f x n args calls.fixed
        (back_start s took after children)
    pub are_those :
        waits_so p calls.kept calls.over.U fixed f x n args calls.fixed
        (back_start s took after children) waits
        ≡ calls.goes_on

  -- what a callee promises with the one values of its fixed names it promises with the others
  module _ (a : Valuation) (own : List NameValue) (are : own ≡ fixed_values a (fixed_start g) g.fixed)
      (named : AreNamed a (fixed_start g) given) (U : Table) (q : Stock) (r : ℤ) where
    abbrev with-own :
        OwnsEnsures p.program U q g args given r → OwnsEnsures p.program U q g args own r
    with-own o = record {
      values = o.values;
      args_are = o.args_are;
      fixed_are = subst (AreNamed o.values (fixed_start g)) (sym are)
          (same-values g.fixed a o.values (fixed_start g) given fit named o.fixed_are);
      result_is = o.result_is;
      met = o.met;
    }

    abbrev with-given :
        OwnsEnsures p.program U q g args own r → OwnsEnsures p.program U q g args given r
    with-given o = record {
      values = o.values;
      args_are = o.args_are;
      fixed_are = given-values g.fixed a o.values (fixed_start g) given fit named
          (subst (AreNamed o.values (fixed_start g)) are o.fixed_are);
      result_is = o.result_is;
      met = o.met;
    }

  pub calls-with :
      (x : Option ℕ) (n : ℕ) → slice_get p.program.functions n ≡ Some g →
      (c : CallsAt p part T fixed f g args v s x n) →
      AreNamed (required p part T fixed f g args v s c.took c.after) (fixed_start g) given →
      CallsWith x n c.took c.after c.children
  calls-with x n is_g c named =
      let h = c.calls in
      let a = required p part T fixed f g args v s c.took c.after in
      let start = back_start s c.took c.after c.children in
      let w = c.waits in
      let from : (U : Table) (q : Stock) (r : ℤ) → OwnsEnsures p.program U q g args given r →
      OwnsEnsures p.program U q g args h.fixed r = with-own a h.fixed c.fixed_are named in
      let to : (U : Table) (q : Stock) (r : ℤ) → OwnsEnsures p.program U q g args h.fixed r →
      OwnsEnsures p.program U q g args given r = with-given a h.fixed c.fixed_are named in
      let waits : WaitsLike p h.kept h.over.U fixed f x n args given start = record {
        fn = w.fn;
        ok = w.ok;
        back = λ U relies q r g2 e2. subst (λ g3. (e : slice_get p.program.functions n ≡ Some g3) →
            (roomy : Roomy p.program U (both p.program h.kept q)) →
            (o : OwnsEnsures p.program U q g3 args given r) →
            StandsAgain p (both p.program h.kept q) U fixed (receives x r f)
            (given_ensures p.program U q n g3 args given r o)
            (λ W. OwnsEnsures p.program W q g3 args given r) (λ W m. m.values)
            (λ W m t u. GivenBack p.program W g3 q (start W r) m.values m.met.0 m.met.1 t u))
            (some-same g g2 (sym is_g ∙ e2))
            (λ e roomy o.
            let k = w.back U relies q r g e roomy (from U q r o) in
            record {
              stands = k.stands;
              owned = λ W on.
                  let y = k.owned W on in
                  record {
                    passage = y.passage;
                    u = y.u;
                    ends = y.ends;
                    each = λ z i. let m = y.each z i in (to W q r m.0, m.1);
                  };
              each = λ W on z i. k.each W on z i;
              are = λ W on. k.are W on;
            }) e2;
      } in
      record {
        calls = record {
          kept = h.kept;
          given = h.given;
          over = h.over;
          fixed = given;
          fit = fit;
          meets = record {
            values = h.meets.values;
            args_are = h.meets.args_are;
            fixed_are = subst (λ u. AreNamed u (fixed_start g) given) (sym c.values_are) named;
            met = h.meets.met;
          };
          goes_on = waits_so p h.kept h.over.U fixed f x n args given start waits;
        };
        fixed_are = refl;
        created = c.created;
        are_created = c.are_created;
        keeps = c.keeps;
        waits = waits;
        are_those = refl;
      }

  pub record ForksWith (took : Valuation) (after : PlainState)
      (children : PlainTrees) : Type 0 where
    pub forks : Forks p part T fixed f g args
    pub fixed_are : forks.fixed ≡ given
    pub created : List Creation
    pub are_created : forks.over.new ≡ map (λ c. c.owner) created
    pub keeps : AllByRecursion (KeepsCreated p.program forks.over.U (Old after) took) created
    pub named :
        (U : Table) (r : Relies p.program forks.kept.guards forks.over.U U) →
        (forks.goes_on.all U r).at_node.v
        ≡ rest_values U after.facts children (length after.sorts)
        (set_to took (length s.sorts) (pos 0))

  pub forks-with :
      (c : ForksAt p part T fixed f g args v s) →
      AreNamed (required p part T fixed f g args v s c.took c.after) (fixed_start g) given →
      ForksWith c.took c.after c.children
  forks-with c named =
      let h = c.forks in
      record {
        forks = record {
          kept = h.kept;
          given = h.given;
          over = h.over;
          fixed = given;
          fit = fit;
          meets = record {
            values = h.meets.values;
            args_are = h.meets.args_are;
            fixed_are = subst (λ u. AreNamed u (fixed_start g) given) (sym c.values_are) named;
            met = h.meets.met;
          };
          goes_on = h.goes_on;
        };
        fixed_are = refl;
        created = c.created;
        are_created = c.are_created;
        keeps = c.keeps;
        named = c.named;
      }
