-- Where others take an action, its system has rows, and there are values at which they hold.
use Rattle.cap_account_resources.proofs.Lists.{map-at, within, get-first, map-length, all-both}
use Rattle.std.proofs.Common.{◌≡◌, ◌≢◌, ℕ, ◌+◌, ◌<◌, ◌≤◌, ℤ, ◌*ℤ◌, List, [], ◌∷◌, ◌++◌, length, map, Option, Some, None, refl, sym, ap, ◌∙◌, subst, arith}
use Rattle.std.specs.Prelude.{slice_get}
use Rattle.std.specs.List.{AllByRecursion}
use Rattle.cap_lin.specs.Linear.{Linear}
use Rattle.cap_lin.specs.Values.{Valuation, denominator, value}
use Rattle.cap_lin.specs.Solves.{Holds, Solves, IsWholeAt, FitsSort}
use Rattle.cap_lin.specs.declared.row.Row.{Row}
use Rattle.cap_lin.specs.declared.row.Sort.{Sort}
use Rattle.cap_lin.specs.declared.row.Sort.TheVariants.{Int, Perm}
use Rattle.cap_lin.specs.declared.row.Op.TheVariants.{Eq as Equal}
use Rattle.cap_lin.proofs.Rows.{row_of-means}
use Rattle.cap_galg.specs.Algebras.{atom_algebra}
use Rattle.cap_gsolve.specs.declared.piece.Form.{Form}
use Rattle.cap_gsolve.specs.Compat.{compat}
use Rattle.cap_gsolve.specs.Meaning.{AllHold}
use Rattle.cap_prog.specs.declared.assertion.Comp.{Comp}
use Rattle.cap_prog.specs.declared.assertion.Asked.{Asked}
use Rattle.cap_prog.specs.Program.{PlainAction, PlainRegionType, PlainProgram}
use Rattle.cap_prog.specs.Scopes.{Scope, HasSort, CompFits, known, whole_numbers, region_scope}
use Rattle.cap_prog.specs.WellFormed.{AtomFits, ActionFits}
use Rattle.cap_goal_spec.specs.States.{PlainFact, PlainState}
use Rattle.cap_goal_spec.specs.Candidates.{later_state}
use Rattle.cap_rules.specs.Resting.{Names, names_below, ask, ask_all, first_names, action_names}
use Rattle.cap_machine_accounts.specs.Parts.{kind_algebra}
use Rattle.cap_machine_accounts.specs.Assertions.{CompHolds, AreWhole}
use Rattle.cap_account_states.proofs.Terms.{Over, vars-more, RowOver, row-over, fits-sort, Agree, agree-trans, agree-less, value-agree, rows-agree}
use Rattle.cap_account_states.proofs.Meets.{new-whole, new-share, Usable, usable-old, variable-value}
use Rattle.cap_account_states.proofs.Scopes.{rep-length, rep-in, length-join}
use Rattle.cap_account_states.proofs.Values.{like-relates, normal, like-normal, normal-whole, scaled, like-scaled, whole-at}
use Rattle.cap_account_resources.proofs.Marks.{Mark}
use Rattle.cap_account_resources.proofs.Covering.{join_marks, Covered}
use Rattle.cap_account_states.proofs.Guarding.{FormOver}
use Rattle.cap_account_resources.proofs.Interference.{AsksAtoms}
use Rattle.cap_account_states.proofs.Wanting.{Low, length-below, whole-agree, named_term, NamesOk, fresh-agree, named-value, named-whole, scope-low}
use Rattle.cap_account_states.proofs.Asking.{SlotsOk, Answered, all-asked, forms_over, form-whole}
use Rattle.cap_account_steps.proofs.Fitting.{IsOfKind, wanted-compatible, are-forms}
use Rattle.cap_account_steps.proofs.Grains.{AllOver, Common, common}
use Rattle.cap_account_steps.proofs.Others.{condition_row, source_row, action_rows, action_forms, Resting, resting-scaled, first_values, names-first, conditions-hold}
use Rattle.cap_account_states.proofs.Compatible.{AnswerOver, compat-over, Whole, form-over-whole, pieces-more, covered-alike}
use Rattle.cap_account_states.proofs.Alike.{scaled-agree-alike}
use Rattle.cap_account_states.proofs.Wants.{asked-over}

all-over :
    (sc : Scope) (k : PlainRegionType) (gs : List (ℕ × Asked)) →
    AllByRecursion (λ g. AtomFits sc k g.0 g.1) gs → AllOver sc gs
all-over sc k [] h = tt
all-over sc k (g ∷ gs) h =
    (asked-over sc (atom_algebra k.algebra g.0) g.1 h.0.form, all-over sc k gs h.1)

rows-more :
    (R S : Sort → ℕ → Type 0) → ((o : Sort) (x : ℕ) → R o x → S o x) → (rows : List Row) →
    AllByRecursion (RowOver R) rows → AllByRecursion (RowOver S) rows
rows-more R S g [] h = tt
rows-more R S g (r ∷ rs) h =
    (vars-more (R r.sort) (S r.sort) (g r.sort) r.term.parts h.0, rows-more R S g rs h.1)

rows-fit :
    (w : Valuation) (rows : List Row) → AllByRecursion (RowOver (Whole w)) rows →
    AllByRecursion (λ r. FitsSort w r.sort r.term) rows
rows-fit w [] h = tt
rows-fit w (r ∷ rs) h = (fits-sort (Whole w) w (λ x i. i) r h.0, rows-fit w rs h.1)

conditions-like :
    (sc : Scope) (m : ℕ) (a : Valuation) (cs : List Comp) → AllByRecursion (CompFits sc) cs →
    AllByRecursion (CompHolds a) cs → AllByRecursion (CompHolds (normal sc (scaled m a))) cs
conditions-like sc m a [] f h = tt
conditions-like sc m a (c ∷ cs) f h = (
  like-relates sc (scaled m a) (normal sc (scaled m a)) (like-normal sc (scaled m a)) c c.op f.0
      (like-relates sc a (scaled m a) (like-scaled sc m a) c c.op f.0 h.0),
  conditions-like sc m a cs f.1 h.1,
)

-- others lead the region from a state by the action, and its guards compose with what is held
pub record Leads (p : PlainProgram) (v : Valuation) (s : PlainState) (f : PlainFact)
    (a : PlainAction) (b c : ℤ) : Type 0 where
  pub values : Valuation
  pub args_are : AreWhole values 0 (map (value v.whole) (f.region ∷ f.args))
  pub source_is : value values.whole a.source ≡ b
  pub target_is : value values.whole a.target ≡ c
  pub conditions : AllByRecursion (CompHolds values) a.when
  pub mark : Option Mark
  pub asks : AsksAtoms p values f.kind a.guards mark
  pub held : Mark
  pub of_kind : IsOfKind f.kind held
  pub covered : Covered p v s.guards (value v.whole f.region) (Some held)
  pub composes : join_marks p mark (Some held) ≢ None

-- the values: the state's variables as they were, then the fact's state, then the action's names
pub record Solution (v : Valuation) (s : PlainState) (k : PlainRegionType) (f : PlainFact)
    (a : PlainAction) (b c : ℤ) : Type 0 where
  pub w : Valuation
  pub whole : (x : ℕ) → x < length s.sorts → w.whole x ≡ v.whole x
  pub later : w.whole (length s.sorts) ≡ b
  pub later_whole : IsWholeAt w (length s.sorts)
  pub sorted : (x : ℕ) → slice_get s.sorts x ≡ Some Int → IsWholeAt w x
  pub target_is : value w.whole (named_term (action_names k s f a) a.target) ≡ c
  pub target_over : Over (IsWholeAt w) (named_term (action_names k s f a) a.target)
  pub rows : List Row
  pub answered :
      compat k.algebra s.guards f.region f.kind (action_forms s f a (action_names k s f a))
      ≡ Some rows
  pub solves :
      (known : List Row) → AllByRecursion (Holds w) known →
      AllByRecursion (RowOver (Whole w)) known →
      Solves w (action_rows s known a (action_names k s f a) ++ rows)

module _ (p : PlainProgram) (ks : List ℕ) (v : Valuation) (s : PlainState) (k : PlainRegionType)
    (f : PlainFact) (is_type : slice_get p.regions f.kind ≡ Some k) (rest : Resting ks v s k f)
    (a : PlainAction) (fits : ActionFits k a) (b c : ℤ) (lead : Leads p v s f a b c) where
  abbrev n : ℕ
  n = length s.sorts

  abbrev sc : Scope
  sc = region_scope k a.names

  over : AllOver sc a.guards
  over = all-over sc k a.guards fits.guards

  shared : Common p v lead.values sc f.kind a.guards lead.mark
  shared = common p v lead.values sc f.kind a.guards lead.mark over lead.asks

  abbrev v1 : Valuation
  v1 = scaled shared.times v

  abbrev X : Valuation
  X = normal sc (scaled shared.more lead.values)

  abbrev tidy : (x : ℕ) → HasSort sc Int x → IsWholeAt X x
  tidy = normal-whole sc (scaled shared.more lead.values)

  rest1 : Resting ks v1 s k f
  rest1 = resting-scaled ks shared.times v s k f rest

  abbrev w0 : Valuation
  w0 = first_values v1 s b

  abbrev W0 : Names
  W0 = first_names s f

  abbrev terms : List Linear
  terms = f.region ∷ f.args

  first-sort : (i : ℕ) (t : Linear) → slice_get terms i ≡ Some t → HasSort sc Int i
  first-sort i t e =
      let l = within terms i t e in
      let m = rest.each_arg in
      get-first (whole_numbers k.params) (known a.names) i (Some Int)
      (rep-in k.params i (Some Int) (omega (arith, l, m)))

  first-is : (i : ℕ) (t : Linear) → slice_get terms i ≡ Some t →
      lead.values.whole i ≡ value v.whole t
  first-is i t e =
      let q : i ≡ 0 + i = omega arith in
      ap lead.values.whole q
      ∙ whole-at lead.values 0 (map (value v.whole) terms) i (value v.whole t) lead.args_are
      (map-at (value v.whole) terms i t e)

  start : NamesOk X sc tidy w0 terms (n + 1)
  start =
      names-first X sc tidy ks v1 s k f b rest1 shared.same
      (λ i t e. (first-is i t e, first-sort i t e))

  ans :
      Answered p X sc tidy f.kind w0 W0
      (names_below (ask_all W0 a.guards) (k.params + length a.names))
      (λ u. SlotsOk p X sc tidy f.kind u W0 a.guards lead.mark shared.asks)
  ans =
      all-asked p X sc tidy f.kind a.guards w0 W0 lead.mark shared.asks (k.params + length a.names)
      shared.fine start

  abbrev w : Valuation
  w = ans.v

  abbrev next : ℕ
  next = (names_below (ask_all W0 a.guards) (k.params + length a.names)).next

  abbrev names : List Linear
  names = action_names k s f a

  ok : NamesOk X sc tidy w names next
  ok = ans.ok

  enough : length sc ≤ length names
  enough =
      let e1 = length-join (whole_numbers k.params) (known a.names) in
      let e2 = rep-length k.params (Some Int) in
      let e3 = map-length Some a.names in
      let l = length-below (ask_all W0 a.guards) (k.params + length a.names) in
      omega (arith, e1, e2, e3, l)

  agree0 : Agree (Low (n + 1)) w0 w
  agree0 = ans.agree

  agree1 : Agree (Low n) v1 w
  agree1 =
      agree-trans (Low n) v1 w0 w
      (fresh-agree X sc tidy v1 n b (b *ℤ denominator v1.fraction))
      (agree-less (Low n) (Low (n + 1)) w0 w (λ x l. omega (arith, l)) agree0)

  later-low : n < n + 1
  later-low = omega arith

  later-is : w.whole n ≡ b
  later-is =
      agree0.whole n later-low ∙ new-whole v1 n b (b *ℤ denominator v1.fraction)

  later-whole : IsWholeAt w n
  later-whole =
      whole-agree (n + 1) w0 w agree0 n later-low
      (new-share v1 n b (b *ℤ denominator v1.fraction)
      ∙ ap (λ z. z *ℤ denominator v1.fraction)
      (sym (new-whole v1 n b (b *ℤ denominator v1.fraction))))

  number-is : (t : Linear) → (z : ℤ) → Over (Low (length names)) t → value lead.values.whole t ≡ z →
      value w.whole (named_term names t) ≡ z
  number-is t z low e = named-value X sc tidy w names next ok t low ∙ e

  source-is : value w.whole (named_term names a.source) ≡ b
  source-is =
      number-is a.source b (scope-low X sc tidy (length names) Int a.source enough fits.source)
      lead.source_is

  source-holds : Holds w (source_row s a names)
  source-holds =
      (row_of-means w (named_term names a.source) Equal (later_state s) Int).1
      (source-is ∙ sym (variable-value w n ∙ later-is))

  state-holds : AllByRecursion (Holds w) s.rows
  state-holds =
      rows-agree (Usable ks s.sorts) (Low n) v1 w (λ o x u. usable-old ks s.sorts o x u) agree1
      s.rows rest.rows_over rest1.rows

  conditions-all : AllByRecursion (Holds w) (map (condition_row names) a.when)
  conditions-all =
      conditions-hold X sc tidy w names next ok enough a.when fits.when
      (conditions-like sc shared.more lead.values a.when fits.when lead.conditions)

  -- ---- variables

  usable-whole : (o : Sort) (x : ℕ) → Usable ks s.sorts o x → Whole w o x
  usable-whole Int x u =
      whole-agree n v1 w agree1 x (usable-old ks s.sorts Int x u) (rest1.sorted x u.0)
  usable-whole Perm x u = tt

  term-whole : (o : Sort) (t : Linear) → AllByRecursion (λ part. HasSort sc o part.0) t.parts →
      Over (Whole w o) (named_term names t)
  term-whole Int t h = named-whole X sc tidy w names next ok enough t h
  term-whole Perm t h = units (named_term names t).parts
    where
      units : (ps : List (ℕ × ℤ)) → AllByRecursion (λ part. Whole w Perm part.0) ps
      units [] = tt
      units (q ∷ ps) = (tt, units ps)

  conditions-over : (cs : List Comp) → AllByRecursion (CompFits sc) cs →
      AllByRecursion (RowOver (Whole w)) (map (condition_row names) cs)
  conditions-over [] h = tt
  conditions-over (q ∷ cs) h = (
    row-over (Whole w) (named_term names q.left) q.op (named_term names q.right) q.sort
        (term-whole q.sort q.left h.0.0) (term-whole q.sort q.right h.0.1),
    conditions-over cs h.1,
  )

  source-over : RowOver (Whole w) (source_row s a names)
  source-over =
      row-over (Whole w) (named_term names a.source) Equal (later_state s) Int
      (term-whole Int a.source fits.source) (later-whole, tt)

  wanted-over :
      (W : Names) (gs : List (ℕ × Asked)) (m : Option Mark) (asks : AsksAtoms p X f.kind gs m) →
      AllOver sc gs → SlotsOk p X sc tidy f.kind w W gs m asks →
      AllByRecursion (λ q. FormOver (Whole w) q.1) (forms_over names W gs)
  wanted-over W [] m asks h g = tt
  wanted-over W (q ∷ gs) m asks h g = (
    form-over-whole w _
        (form-whole p X sc tidy f.kind w names next W.next q.1 asks.2.element ok enough h.0 g.0),
    wanted-over (ask W q.1) gs asks.1 asks.3 h.1 g.1,
  )

  -- ---- compatibility

  abbrev wanted : List (ℕ × Form)
  wanted = action_forms s f a names

  region-is : value w.whole f.region ≡ value v.whole f.region
  region-is =
      value-agree (Low n) v1 w agree1 f.region
      (vars-more (Usable ks s.sorts Int) (Low n) (usable-old ks s.sorts Int) f.region.parts
      rest.region_over)

  covered : Covered p w s.guards (value w.whole f.region) (Some lead.held)
  covered =
      subst (λ z. Covered p w s.guards z (Some lead.held)) (sym region-is)
      (covered-alike p (Low n) v w (scaled-agree-alike (Low n) shared.times v w agree1) s.guards
      (value v.whole f.region) (Some lead.held)
      (pieces-more (Usable ks s.sorts) (λ o. Low n) (λ o x u. usable-old ks s.sorts o x u)
      s.guards rest.guards_over)
      lead.covered)

  compatible : AllHold w (compat k.algebra s.guards f.region f.kind wanted)
  compatible =
      subst (λ g. AllHold w (compat g s.guards f.region f.kind wanted)) (ap kind_algebra is_type)
      (wanted-compatible p X w f.kind f.region s.guards a.guards lead.mark shared.asks wanted
      lead.held
      (are-forms p X w f.kind sc tidy names next ok enough W0 a.guards lead.mark shared.asks over
      ans.slot)
      lead.of_kind covered lead.composes)

  compatible-over : AnswerOver (Whole w) (compat k.algebra s.guards f.region f.kind wanted)
  compatible-over =
      compat-over (Whole w) k.algebra s.guards f.region f.kind wanted
      (pieces-more (Usable ks s.sorts) (Whole w) usable-whole s.guards rest.guards_over)
      (wanted-over W0 a.guards lead.mark shared.asks over ans.slot)

  record Rows (o : Option (List Row)) : Type 0 where
    pub rows : List Row
    pub is : o ≡ Some rows
    pub hold : AllByRecursion (Holds w) rows
    pub over : AllByRecursion (RowOver (Whole w)) rows

  rows-of : (o : Option (List Row)) → AllHold w o → AnswerOver (Whole w) o → Rows o
  rows-of None h g = absurd h
  rows-of (Some rows) h g = record { rows = rows; is = refl; hold = h; over = g }

  compatible-rows : Rows (compat k.algebra s.guards f.region f.kind wanted)
  compatible-rows =
      rows-of (compat k.algebra s.guards f.region f.kind wanted) compatible compatible-over

  all-solve : (known : List Row) → AllByRecursion (Holds w) known →
      AllByRecursion (RowOver (Whole w)) known →
      Solves w (action_rows s known a names ++ compatible-rows.rows)
  all-solve known h g =
      let conditions = map (condition_row names) a.when in
      let q = source_row s a names in
      let R = RowOver (Whole w) in
      let rows = compatible-rows.rows in
      record {
        fits = rows-fit w (action_rows s known a names ++ rows)
            (all-both R (action_rows s known a names) rows
            (all-both R s.rows (known ++ q ∷ conditions)
            (rows-more (Usable ks s.sorts) (Whole w) usable-whole s.rows rest.rows_over)
            (all-both R known (q ∷ conditions) g (source-over, conditions-over a.when fits.when)))
            compatible-rows.over);
        holds = all-both (Holds w) (action_rows s known a names) rows
            (all-both (Holds w) s.rows (known ++ q ∷ conditions) state-holds
            (all-both (Holds w) known (q ∷ conditions) h (source-holds, conditions-all)))
            compatible-rows.hold;
      }

  pub solution : Solution v s k f a b c
  solution = record {
    w = w;
    whole = agree1.whole;
    later = later-is;
    later_whole = later-whole;
    sorted = λ x e.
        whole-agree n v1 w agree1 x (within s.sorts x Int e) (rest1.sorted x e);
    target_is = number-is a.target c
        (scope-low X sc tidy (length names) Int a.target enough fits.target) lead.target_is;
    target_over = term-whole Int a.target fits.target;
    rows = compatible-rows.rows;
    answered = compatible-rows.is;
    solves = all-solve;
  }
