-- The values at which others take an action: they solve the system that the action's rows are
-- proved from.
use Rattle.cap_account_states.proofs.Terms.{whole-parts, Over, vars-more, RowOver, Agree, value-agree, relates-same}
use Rattle.cap_account_resources.proofs.Order.{turned, grouped}
use Rattle.std.proofs.Common.{◌≡◌, ℕ, ◌+◌, ◌≤◌, ℤ, pos, ◌*ℤ◌, List, [], ◌∷◌, ◌++◌, length, map, Option, Some, sym, ap, ◌∙◌, arith}
use Rattle.std.specs.Prelude.{slice_get}
use Rattle.std.specs.List.{AllByRecursion}
use Rattle.cap_lin.specs.Linear.{Linear}
use Rattle.cap_lin.specs.Values.{Valuation, denominator, value}
use Rattle.cap_lin.specs.Rows.{row_of}
use Rattle.cap_lin.specs.Solves.{value_by_sort, Holds, IsWholeAt}
use Rattle.cap_lin.specs.declared.row.Row.{Row}
use Rattle.cap_lin.specs.declared.row.Sort.TheVariants.{Int}
use Rattle.cap_lin.specs.declared.row.Op.TheVariants.{Eq as Equal}
use Rattle.cap_lin.proofs.Infeasible.{whole-amount}
use Rattle.cap_lin.proofs.Rows.{row_of-means}
use Rattle.cap_gsolve.specs.declared.piece.Form.{Form}
use Rattle.cap_gsolve.specs.Compat.{compat, compat_steps}
use Rattle.cap_prog.specs.declared.assertion.Comp.{Comp}
use Rattle.cap_prog.specs.Program.{PlainAction, PlainRegionType}
use Rattle.cap_prog.specs.Scopes.{Scope, HasSort, CompFits}
use Rattle.cap_goal_spec.specs.States.{PlainFact, PlainState}
use Rattle.cap_goal_spec.specs.Candidates.{later_state}
use Rattle.cap_rules.specs.Attempts.{unit, ◌>>=◌, computed, comparison_row}
use Rattle.cap_rules.specs.Resting.{value_over, rows_over, first_names, want_all, joined_rows, system}
use Rattle.cap_machine_accounts.specs.Assertions.{CompHolds}
use Rattle.cap_account_states.specs.Nodes.{Comes}
use Rattle.cap_account_resources.proofs.Lists.{all-at}
use Rattle.cap_account_states.proofs.Meets.{with_value, Usable, usable-old}
use Rattle.cap_account_states.proofs.Attempts.{comes-bind, after-computed}
use Rattle.cap_account_states.proofs.Values.{scaled, scaled-denominator, rows-scaled}
use Rattle.cap_account_states.proofs.Adding.{PieceOver}
use Rattle.cap_account_states.proofs.Wanting.{Low, whole-agree, named_term, NamesOk, fresh-agree, named-number, scope-low}
use Rattle.cap_account_states.proofs.Asking.{forms_over, comes-forms}

-- ---- the system of an action

abbrev pub condition_row : List Linear → Comp → Row
condition_row names c = row_of (named_term names c.left) c.op (named_term names c.right) c.sort

pub comes-conditions :
    (names : List Linear) (cs : List Comp) (P : List Row → Type 0) → Comes (rows_over names cs) P →
    P (map (condition_row names) cs)
comes-conditions names [] P h = h.1
comes-conditions names (c ∷ cs) P h =
    let q = condition_row names c in
    let last = λ (q : Row). rows_over names cs >>= λ more. unit (q ∷ more) in
    let third = λ (l : Linear) (r : Linear). comparison_row l c.op r c.sort >>= last in
    let second = λ (l : Linear). value_over names c.right >>= third l in
    let k1 : Comes (second (named_term names c.left)) P =
    (comes-bind (value_over names c.left) second P h).1 in
    let k2 : Comes (third (named_term names c.left) (named_term names c.right)) P =
    (comes-bind (value_over names c.right) (third (named_term names c.left)) P k1).1 in
    let k3 : Comes (last q) P =
    (comes-bind (comparison_row (named_term names c.left) c.op (named_term names c.right) c.sort)
    last P k2).1 in
    (comes-conditions names cs (λ more. Comes (unit (q ∷ more)) P)
    (comes-bind (rows_over names cs) (λ more. unit (q ∷ more)) P k3)).1

-- what holds before the action, but for compatibility
abbrev pub source_row : PlainState → PlainAction → List Linear → Row
source_row s a names = row_of (named_term names a.source) Equal (later_state s) Int

abbrev pub action_rows : PlainState → List Row → PlainAction → List Linear → List Row
action_rows s known a names =
    s.rows ++ (known ++ source_row s a names ∷ map (condition_row names) a.when)

abbrev pub action_forms : PlainState → PlainFact → PlainAction → List Linear → List (ℕ × Form)
action_forms s f a names = forms_over names (first_names s f) a.guards

abbrev pub action_system :
    PlainRegionType → PlainState → PlainFact → List Row → PlainAction → List Linear →
    Option (List Row)
action_system k s f known a names =
    joined_rows (action_rows s known a names)
    (compat k.algebra s.guards f.region f.kind (action_forms s f a names))

pub comes-system :
    (k : PlainRegionType) (s : PlainState) (f : PlainFact) (known : List Row) (a : PlainAction)
    (names : List Linear) (P : Option (List Row) → Type 0) →
    Comes (system k s f known a names) P → P (action_system k s f known a names)
comes-system k s f known a names P h =
    let q = source_row s a names in
    let source = named_term names a.source in
    let conditions = map (condition_row names) a.when in
    let fifth = λ (conditions : List Row) (q : Row) (compatible : Option (List Row)).
    unit (joined_rows (s.rows ++ (known ++ q ∷ conditions)) compatible) in
    let fourth = λ (conditions : List Row) (q : Row) (wanted : List (ℕ × Form)).
    computed (compat k.algebra s.guards f.region f.kind wanted)
    (compat_steps k.algebra s.guards f.region f.kind wanted) >>= fifth conditions q in
    let third = λ (q : Row) (conditions : List Row).
    want_all names (first_names s f) a.guards >>= fourth conditions q in
    let second = λ (q : Row). rows_over names a.when >>= third q in
    let first = λ (t : Linear). comparison_row t Equal (later_state s) Int >>= second in
    let k1 : Comes (first source) P = (comes-bind (value_over names a.source) first P h).1 in
    let k2 : Comes (second q) P =
    (comes-bind (comparison_row source Equal (later_state s) Int) second P k1).1 in
    let k3 : Comes (third q conditions) P =
    comes-conditions names a.when (λ cs. Comes (third q cs) P)
    (comes-bind (rows_over names a.when) (third q) P k2) in
    let wanted = action_forms s f a names in
    let k4 : Comes (fourth conditions q wanted) P =
    comes-forms names (first_names s f) a.guards (λ ws. Comes (fourth conditions q ws) P)
    (comes-bind (want_all names (first_names s f) a.guards) (fourth conditions q) P k3) in
    (after-computed (compat k.algebra s.guards f.region f.kind wanted)
    (compat_steps k.algebra s.guards f.region f.kind wanted) (fifth conditions q) P k4).1

-- ---- the values at first

-- what is known of a state and a fact that is settled in it
pub record Resting (ks : List ℕ) (v : Valuation) (s : PlainState) (k : PlainRegionType)
    (f : PlainFact) : Type 0 where
  pub sorted : (x : ℕ) → slice_get s.sorts x ≡ Some Int → IsWholeAt v x
  pub rows : AllByRecursion (Holds v) s.rows
  pub rows_over : AllByRecursion (RowOver (Usable ks s.sorts)) s.rows
  pub region_over : Over (Usable ks s.sorts Int) f.region
  pub args_over : AllByRecursion (Over (Usable ks s.sorts Int)) f.args
  pub each_arg : length f.args + 1 ≡ k.params
  pub guards_over : AllByRecursion (PieceOver (Usable ks s.sorts)) s.guards

whole-scaled : (m : ℕ) (v : Valuation) (x : ℕ) → IsWholeAt v x → IsWholeAt (scaled m v) x
whole-scaled m v x h =
    ap (λ z. z *ℤ pos (m + 1)) h
    ∙ (grouped (v.whole x) (denominator v.fraction) (pos (m + 1))
    ∙ ap (λ z. v.whole x *ℤ z) (sym (scaled-denominator m v)))

pub resting-scaled :
    (ks : List ℕ) (m : ℕ) (v : Valuation) (s : PlainState) (k : PlainRegionType)
    (f : PlainFact) → Resting ks v s k f → Resting ks (scaled m v) s k f
resting-scaled ks m v s k f h = record {
  sorted = λ x e. whole-scaled m v x (h.sorted x e);
  rows = rows-scaled m v s.rows h.rows;
  rows_over = h.rows_over;
  region_over = h.region_over;
  args_over = h.args_over;
  each_arg = h.each_arg;
  guards_over = h.guards_over;
}

-- the variable after the state's own is the fact's state
abbrev pub first_values : Valuation → PlainState → ℤ → Valuation
first_values v s b = with_value v (length s.sorts) b (b *ℤ denominator v.fraction)

module _ (X : Valuation) (sc : Scope) (normal : (x : ℕ) → HasSort sc Int x → IsWholeAt X x) where
  -- the region and its arguments are the first names
  pub names-first :
      (ks : List ℕ) (v : Valuation) (s : PlainState) (k : PlainRegionType) (f : PlainFact)
      (b : ℤ) → Resting ks v s k f → v.fraction.under ≡ X.fraction.under →
      ((i : ℕ) (t : Linear) → slice_get (f.region ∷ f.args) i ≡ Some t →
      (X.whole i ≡ value v.whole t) × HasSort sc Int i) →
      NamesOk X sc normal (first_values v s b) (f.region ∷ f.args) (length s.sorts + 1)
  names-first ks v s k f b h under at = record {
    under = under;
    whole_is = whole_is;
    share_is = λ i t e.
        whole-amount w t (whole-parts w t.parts (whole i t e))
        ∙ (turned (denominator w.fraction) (value w.whole t)
        ∙ (ap (λ z. z *ℤ denominator w.fraction) (whole_is i t e)
        ∙ (ap (λ u. X.whole i *ℤ pos (u + 1)) under ∙ sym (normal i (at i t e).1))));
    below = λ i t e. vars-more (Low n) (Low (n + 1)) (λ x l. omega (arith, l)) t.parts (low i t e);
    whole = λ i t e o. whole i t e;
  }
    where
      n : ℕ
      n = length s.sorts

      w : Valuation
      w = first_values v s b

      agree : Agree (Low n) v w
      agree = fresh-agree X sc normal v n b (b *ℤ denominator v.fraction)

      over : (i : ℕ) (t : Linear) → slice_get (f.region ∷ f.args) i ≡ Some t →
          Over (Usable ks s.sorts Int) t
      over i t e =
          all-at (Over (Usable ks s.sorts Int)) (f.region ∷ f.args) i t
          (h.region_over, h.args_over) e

      low : (i : ℕ) (t : Linear) → slice_get (f.region ∷ f.args) i ≡ Some t → Over (Low n) t
      low i t e =
          vars-more (Usable ks s.sorts Int) (Low n) (usable-old ks s.sorts Int) t.parts (over i t e)

      whole : (i : ℕ) (t : Linear) → slice_get (f.region ∷ f.args) i ≡ Some t →
          Over (IsWholeAt w) t
      whole i t e =
          vars-more (Usable ks s.sorts Int) (IsWholeAt w)
          (λ x u. whole-agree n v w agree x (usable-old ks s.sorts Int x u) (h.sorted x u.0))
          t.parts (over i t e)

      whole_is : (i : ℕ) (t : Linear) → slice_get (f.region ∷ f.args) i ≡ Some t →
          value w.whole t ≡ X.whole i
      whole_is i t e = value-agree (Low n) v w agree t (low i t e) ∙ sym (at i t e).0

  -- ---- rows that hold

  -- a condition of the action, over the names
  pub condition-holds :
      (w : Valuation) (ts : List Linear) (next : ℕ) → NamesOk X sc normal w ts next →
      length sc ≤ length ts → (c : Comp) → CompFits sc c → CompHolds X c →
      Holds w (condition_row ts c)
  condition-holds w ts next ok le c fits h =
      (row_of-means w (named_term ts c.left) c.op (named_term ts c.right) c.sort).1
      (relates-same c.op (value_by_sort c.sort X c.left) (value_by_sort c.sort X c.right)
      (value_by_sort c.sort w (named_term ts c.left))
      (value_by_sort c.sort w (named_term ts c.right))
      (sym (named-number X sc normal w ts next ok c.sort c.left
      (scope-low X sc normal (length ts) c.sort c.left le fits.0)))
      (sym (named-number X sc normal w ts next ok c.sort c.right
      (scope-low X sc normal (length ts) c.sort c.right le fits.1))) h)

  pub conditions-hold :
      (w : Valuation) (ts : List Linear) (next : ℕ) → NamesOk X sc normal w ts next →
      length sc ≤ length ts → (cs : List Comp) → AllByRecursion (CompFits sc) cs →
      AllByRecursion (CompHolds X) cs → AllByRecursion (Holds w) (map (condition_row ts) cs)
  conditions-hold w ts next ok le [] fits h = tt
  conditions-hold w ts next ok le (c ∷ cs) fits h = (
    condition-holds w ts next ok le c fits.0 h.0,
    conditions-hold w ts next ok le cs fits.1 h.1,
  )
