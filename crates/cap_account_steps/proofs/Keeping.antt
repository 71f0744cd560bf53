-- A kept state stays as it is, whatever others do that can't be excluded.
use Rattle.std.proofs.Common.{◌≡◌, ℕ, ℤ, ◌+ℤ◌, List, [], ◌∷◌, ◌++◌, length, map, Option, Some, None, refl, sym, ap, ◌∙◌, subst}
use Rattle.std.specs.Prelude.{slice_get}
use Rattle.std.specs.List.{AllByRecursion}
use Rattle.cap_lin.specs.Linear.{Linear}
use Rattle.cap_lin.specs.Values.{Valuation, value}
use Rattle.cap_lin.specs.Rows.{row_of}
use Rattle.cap_lin.specs.Solves.{Holds, Proves}
use Rattle.cap_lin.specs.declared.row.Row.{Row}
use Rattle.cap_lin.specs.declared.row.Sort.TheVariants.{Int}
use Rattle.cap_lin.specs.declared.row.Op.TheVariants.{Eq as Equal}
use Rattle.cap_lin.proofs.Rows.{row_of-means}
use Rattle.cap_prog.specs.Program.{PlainAction, PlainRegionType, PlainProgram}
use Rattle.cap_prog.specs.WellFormed.{ActionFits}
use Rattle.cap_goal_spec.specs.States.{PlainFact, PlainState}
use Rattle.cap_goal_spec.specs.Candidates.{later_state}
use Rattle.cap_rules.specs.Attempts.{◌>>=◌, prove_that}
use Rattle.cap_rules.specs.Resting.{value_over, action_names, system, prove_same, prove_kept}
use Rattle.cap_account_states.specs.Nodes.{Comes}
use Rattle.cap_account_resources.proofs.Lists.{none-some, some-same, all-at}
use Rattle.cap_account_states.proofs.Terms.{Over, vars-more, row-over, fits-sort, value-is, sum-agree}
use Rattle.cap_account_states.proofs.Meets.{Usable, usable-old, variable-value}
use Rattle.cap_account_states.proofs.Attempts.{comes-bind, comes-proved}
use Rattle.cap_account_resources.proofs.Marks.{Mark}
use Rattle.cap_account_resources.proofs.Covering.{Covered, IsPartOf}
use Rattle.cap_account_resources.proofs.Interference.{MovesBy, May, Reach, carried}
use Rattle.cap_account_states.proofs.Wanting.{Low, named_term}
use Rattle.cap_account_steps.proofs.Fitting.{IsOfKind}
use Rattle.cap_account_steps.proofs.Others.{action_rows, action_system, comes-system, Resting}
use Rattle.cap_account_states.proofs.Compatible.{Whole}
use Rattle.cap_account_steps.proofs.Solving.{Leads, Solution, solution}

-- ---- what was proved

abbrev pub same_row : PlainState → PlainFact → Row
same_row s f = row_of (later_state s) Equal f.state Int

-- with these rows before the action, the system's rows prove it
abbrev pub ProvesOf :
    PlainRegionType → PlainState → PlainFact → List Row → PlainAction → Row → Type 0
ProvesOf k s f known a r =
    (rows : List Row) → action_system k s f known a (action_names k s f a) ≡ Some rows →
    Proves rows r

abbrev pub kept_row : PlainRegionType → PlainState → PlainFact → PlainAction → Row
kept_row k s f a = row_of (named_term (action_names k s f a) a.target) Equal f.state Int

comes-same :
    (f : PlainFact) (a : PlainAction) (names : List Linear) (o : Option (List Row))
    (P : Unit {0} → Type 0) → Comes (prove_same f a names o) P →
    ((rows : List Row) → o ≡ Some rows →
    Proves rows (row_of (named_term names a.target) Equal f.state Int)) × P tt
comes-same f a names None P h = (λ rows e. absurd (none-some e), h.1)
comes-same f a names (Some rows) P h =
    let last = λ (t : Linear). prove_that rows t Equal f.state Int in
    let t = named_term names a.target in
    let k = comes-proved rows t Equal f.state Int P
    (comes-bind (value_over names a.target) last P h).1 in (
      λ more e. subst (λ rs. Proves rs (row_of t Equal f.state Int)) (some-same rows more e) k.0,
      k.1,
    )

pub comes-kept :
    (k : PlainRegionType) (s : PlainState) (f : PlainFact) (more : List PlainAction)
    (P : Unit {0} → Type 0) → Comes (prove_kept k s f (same_row s f) more) P →
    AllByRecursion (λ a. ProvesOf k s f (same_row s f ∷ []) a (kept_row k s f a)) more × P tt
comes-kept k s f [] P h = (tt, h.1)
comes-kept k s f (a ∷ more) P h =
    let names = action_names k s f a in
    let same = same_row s f in
    let later = λ (x : Unit {0}). prove_kept k s f same more in
    let first = λ (rows : Option (List Row)). prove_same f a names rows >>= later in
    let o = action_system k s f (same ∷ []) a names in
    let k1 : Comes (first o) P =
    comes-system k s f (same ∷ []) a names (λ o. Comes (first o) P)
    (comes-bind (system k s f (same ∷ []) a names) first P h) in
    let k2 = comes-same f a names o (λ x. Comes (later x) P)
    (comes-bind (prove_same f a names o) later P k1) in
    let k3 = comes-kept k s f more P k2.1 in
    ((k2.0, k3.0), k3.1)

-- ---- one action

pub joined-is :
    (k : PlainRegionType) (s : PlainState) (f : PlainFact) (known : List Row) (a : PlainAction)
    (v : Valuation) (b c : ℤ) → (sol : Solution v s k f a b c) →
    action_system k s f known a (action_names k s f a)
    ≡ Some (action_rows s known a (action_names k s f a) ++ sol.rows)
joined-is k s f known a v b c sol = rw sol.answered refl

-- a term over the state's variables has its value
pub state-value :
    (ks : List ℕ) (k : PlainRegionType) (s : PlainState) (f : PlainFact) (a : PlainAction)
    (v : Valuation) (b c : ℤ) (sol : Solution v s k f a b c) (t : Linear) →
    Over (Usable ks s.sorts Int) t → value sol.w.whole t ≡ value v.whole t
state-value ks k s f a v b c sol t over =
    value-is sol.w.whole t
    ∙ (ap (λ z. t.constant +ℤ z)
    (sum-agree (Low (length s.sorts)) v.whole sol.w.whole sol.whole t.parts
    (vars-more (Usable ks s.sorts Int) (Low (length s.sorts)) (usable-old ks s.sorts Int) t.parts
    over))
    ∙ sym (value-is v.whole t))

kept-step :
    (ks : List ℕ) (k : PlainRegionType) (s : PlainState) (f : PlainFact) (a : PlainAction)
    (v : Valuation) (b c : ℤ) → Solution v s k f a b c → Over (Usable ks s.sorts Int) f.state →
    ProvesOf k s f (same_row s f ∷ []) a (kept_row k s f a) → b ≡ value v.whole f.state →
    c ≡ value v.whole f.state
kept-step ks k s f a v b c sol over proves at =
    let w = sol.w in
    let n = length s.sorts in
    let names = action_names k s f a in
    let same = same_row s f in
    let t = named_term names a.target in
    let state = state-value ks k s f a v b c sol f.state over in
    let whole : Over (Whole w Int) f.state =
    vars-more (Usable ks s.sorts Int) (Whole w Int) (λ x u. sol.sorted x u.0) f.state.parts
    over in
    let holds : Holds w same =
    (row_of-means w (later_state s) Equal f.state Int).1
    (variable-value w n ∙ (sol.later ∙ (at ∙ sym state))) in
    let same_over = row-over (Whole w) (later_state s) Equal f.state Int (sol.later_whole, tt)
    whole in
    let target_over = row-over (Whole w) t Equal f.state Int sol.target_over whole in
    let proved = proves (action_rows s (same ∷ []) a names ++ sol.rows)
    (joined-is k s f (same ∷ []) a v b c sol) w
    (sol.solves (same ∷ []) (holds, tt) (same_over, tt))
    (fits-sort (Whole w) w (λ x i. i) (kept_row k s f a) target_over) in
    sym sol.target_is ∙ ((row_of-means w t Equal f.state Int).0 proved ∙ state)

-- ---- all actions

-- an action that what is held can't exclude leads there
pub leads :
    (p : PlainProgram) (v : Valuation) (s : PlainState) (f : PlainFact) (held : Mark) →
    IsOfKind f.kind held → Covered p v s.guards (value v.whole f.region) (Some held) →
    (b c : ℤ) →
    (may : May p (Some held) f.kind (value v.whole f.region) (map (value v.whole) f.args) b c) →
    Leads p v s f may.1.action b c
leads p v s f held of_kind covered b c may =
    let m = may.1 in
    record {
      values = m.values;
      args_are = m.args_are;
      source_is = m.source_is;
      target_is = m.target_is;
      conditions = m.conditions;
      mark = may.0;
      asks = m.guards;
      held = held;
      of_kind = of_kind;
      covered = covered;
      composes = may.2;
    }

module _ (p : PlainProgram) (ks : List ℕ) (v : Valuation) (s : PlainState) (k : PlainRegionType)
    (f : PlainFact) (is_type : slice_get p.regions f.kind ≡ Some k)
    (fits : AllByRecursion (ActionFits k) k.actions) (rest : Resting ks v s k f) (held : Mark)
    (of_kind : IsOfKind f.kind held)
    (covered : Covered p v s.guards (value v.whole f.region) (Some held)) where
  abbrev region : ℤ
  region = value v.whole f.region

  abbrev args : List ℤ
  args = map (value v.whole) f.args

  pub action-at : (b c : ℤ) (m : Option Mark) (mv : MovesBy p f.kind region args b c m) →
      slice_get k.actions mv.number ≡ Some mv.action
  action-at b c m mv =
      ap (λ y. slice_get y.actions mv.number) (some-same k mv.type (sym is_type ∙ mv.is_type))
      ∙ mv.is_action

  pub solved :
      (b c : ℤ) (may : May p (Some held) f.kind region args b c) →
      Solution v s k f may.1.action b c
  solved b c may =
      let m = may.1 in
      solution p ks v s k f is_type rest m.action
      (all-at (ActionFits k) k.actions m.number m.action fits (action-at b c may.0 m)) b c
      (leads p v s f held of_kind covered b c may)

  kept-stays :
      Over (Usable ks s.sorts Int) f.state →
      AllByRecursion (λ a. ProvesOf k s f (same_row s f ∷ []) a (kept_row k s f a)) k.actions →
      (b c : ℤ) → b ≡ value v.whole f.state → May p (Some held) f.kind region args b c →
      c ≡ value v.whole f.state
  kept-stays over proves b c at may =
      let m = may.1 in
      kept-step ks k s f m.action v b c (solved b c may) over
      (all-at (λ a. ProvesOf k s f (same_row s f ∷ []) a (kept_row k s f a)) k.actions m.number
      m.action proves (action-at b c may.0 m)) at

  -- after so many actions of others, by one who holds at least this much
  pub kept-rests :
      (P : Unit {0} → Type 0) → Over (Usable ks s.sorts Int) f.state →
      Comes (prove_kept k s f (same_row s f) k.actions) P → (part : Option Mark) →
      IsPartOf p (Some held) part → (i : ℕ) (c : ℤ) →
      Reach p part f.kind region args i (value v.whole f.state) c → c ≡ value v.whole f.state
  kept-rests P over h part le i c reach =
      let proves = (comes-kept k s f k.actions P h).0 in
      carried p (λ z. z ≡ value v.whole f.state) (Some held) part f.kind region args le
      (λ b d at may. kept-stays over proves b d at may) i (value v.whole f.state) c reach refl
