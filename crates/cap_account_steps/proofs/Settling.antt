-- What `settle` keeps of a state stays true, whatever others do that can't be excluded.
use Rattle.std.proofs.Common.{◌≡◌, ◌≢◌, inl, inr, ℕ, zero, suc, ◌+◌, ◌<◌, ℤ, pos, negsuc, ◌+ℤ◌, ◌*ℤ◌, Bool, true, false, List, [], ◌∷◌, ◌++◌, length, map, Option, Some, None, refl, sym, ap, ◌∙◌, subst, arith}
use Rattle.std.specs.Prelude.{slice_get, nat_eq, not, if◌then◌else◌, ◌==◌}
use Rattle.std.specs.List.{AllByRecursion}
use Rattle.std.proofs.lemmas.Int.{ints}
use Rattle.std.proofs.lemmas.Bool.Decides.{nat_tests}
use Rattle.cap_numbers.proofs.Ring.{expand, product3}
use Rattle.cap_lin.specs.Linear.{Linear, is_zero, coefficient, plus, times, parts_without, without, replaced}
use Rattle.cap_lin.specs.Steps.{replaced_steps}
use Rattle.cap_lin.specs.Values.{Valuation, parts_value, value}
use Rattle.cap_lin.specs.Solves.{value_by_sort, HoldsAs, Holds, Proves, IsWholeAt, FitsSort}
use Rattle.cap_lin.specs.declared.row.Row.{Row}
use Rattle.cap_lin.specs.declared.row.Sort.TheVariants.{Int}
use Rattle.cap_lin.proofs.Values.{value-nil, value-cons, value-plus, value-times}
use Rattle.cap_prog.specs.Program.{PlainAction, PlainRegionType, PlainProgram}
use Rattle.cap_prog.specs.WellFormed.{ActionFits}
use Rattle.cap_goal_spec.specs.States.{PlainFact, PlainState}
use Rattle.cap_rules.specs.Attempts.{◌>>=◌, prove}
use Rattle.cap_rules.specs.Resting.{value_over, action_names, system, prove_at, prove_closed, prove_stable}
use Rattle.cap_account_states.specs.Nodes.{Comes}
use Rattle.cap_account_resources.proofs.Lists.{none-some, some-same, within, push-length, get-join, all-at}
use Rattle.cap_account_states.proofs.Terms.{Vars, Over, vars-more, over-plus, over-times, RowOver, fits-sort, value-is, sum-agree}
use Rattle.cap_account_states.proofs.Attempts.{comes-bind, after-computed, after-prove}
use Rattle.cap_account_resources.proofs.Marks.{Mark}
use Rattle.cap_account_resources.proofs.Covering.{Covered, IsPartOf}
use Rattle.cap_account_resources.proofs.Interference.{Reach, carried}
use Rattle.cap_account_states.proofs.Wanting.{named_term}
use Rattle.cap_account_steps.proofs.Fitting.{IsOfKind}
use Rattle.cap_account_steps.proofs.Others.{action_rows, action_system, comes-system, Resting}
use Rattle.cap_account_states.proofs.Compatible.{Whole}
use Rattle.cap_account_steps.proofs.Solving.{Solution}
use Rattle.cap_account_steps.proofs.Keeping.{joined-is, action-at, solved}

-- ---- a term in the place of a variable

-- the values, but for one variable
abbrev pub changed : (ℕ → ℤ) → ℕ → ℤ → ℕ → ℤ
changed g x z y = if nat_eq y x then z else g y

without-value :
    (g : ℕ → ℤ) (x : ℕ) (ps : List (ℕ × ℤ)) →
    parts_value g ps ≡ parts_value g (parts_without x ps) +ℤ coefficient x ps *ℤ g x
unfolding coefficient
without-value g x [] = rw (value-nil g) (omega (arith, ints))
without-value g x (p ∷ ps) = by (p.0 == x) refl (without-value g x ps)
  where
    by : (t : Bool) → (p.0 == x) ≡ t →
        parts_value g ps ≡ parts_value g (parts_without x ps) +ℤ coefficient x ps *ℤ g x →
        parts_value g (p ∷ ps)
        ≡ parts_value g (if not t then p ∷ parts_without x ps else parts_without x ps)
        +ℤ (if t then p.1 +ℤ coefficient x ps else coefficient x ps) *ℤ g x
    by true e r =
        let same : p.0 ≡ x = grind (arith, nat_tests, e) in
        rw (value-cons g p ps, r, same) (simp expand (omega (arith, ints, product3)))
    by false e r =
        rw (value-cons g p ps, value-cons g p (parts_without x ps), r)
        (omega (arith, ints))

lacks : (x : ℕ) (ps : List (ℕ × ℤ)) → Vars (λ y. y ≢ x) (parts_without x ps)
lacks x [] = tt
lacks x (p ∷ ps) = by (p.0 == x) refl (lacks x ps)
  where
    by : (t : Bool) → (p.0 == x) ≡ t → Vars (λ y. y ≢ x) (parts_without x ps) →
        Vars (λ y. y ≢ x) (if not t then p ∷ parts_without x ps else parts_without x ps)
    by true e h = h
    by false e h = (grind (arith, nat_tests, e), h)

all-without : (P : ℕ → Type 0) (x : ℕ) (ps : List (ℕ × ℤ)) → Vars P ps → Vars P (parts_without x ps)
all-without P x [] h = tt
all-without P x (p ∷ ps) h = by (p.0 == x) (all-without P x ps h.1)
  where
    by : (t : Bool) → Vars P (parts_without x ps) →
        Vars P (if not t then p ∷ parts_without x ps else parts_without x ps)
    by true r = r
    by false r = (h.0, r)

changed-here : (g : ℕ → ℤ) (x : ℕ) (z : ℤ) → changed g x z x ≡ z
changed-here g x z = let t : nat_eq x x ≡ true = grind (arith, nat_tests) in rw t refl

changed-other : (g : ℕ → ℤ) (x : ℕ) (z : ℤ) (y : ℕ) → y ≢ x → changed g x z y ≡ g y
changed-other g x z y ne = let t : nat_eq y x ≡ false = grind (arith, nat_tests, ne) in rw t refl

-- the parts at the changed values
changed-parts :
    (g : ℕ → ℤ) (x : ℕ) (z : ℤ) (ps : List (ℕ × ℤ)) →
    parts_value (changed g x z) ps
    ≡ parts_value g (parts_without x ps) +ℤ coefficient x ps *ℤ z
changed-parts g x z ps =
    without-value (changed g x z) x ps
    ∙ (ap (λ u. u +ℤ coefficient x ps *ℤ changed g x z x)
    (sum-agree (λ y. y ≢ x) g (changed g x z) (λ y ne. changed-other g x z y ne)
    (parts_without x ps) (lacks x ps))
    ∙ ap (λ u. parts_value g (parts_without x ps) +ℤ coefficient x ps *ℤ u) (changed-here g x z))

pub replaced-value :
    (g : ℕ → ℤ) (x : ℕ) (new t : Linear) →
    value g (replaced x new t) ≡ value (changed g x (value g new)) t
unfolding replaced
replaced-value g x new t =
    by (is_zero (coefficient x t.parts)) refl
    ∙ (ap (λ u. t.constant +ℤ u) (sym (changed-parts g x (value g new) t.parts))
    ∙ sym (value-is (changed g x (value g new)) t))
  where
    by : (b : Bool) → is_zero (coefficient x t.parts) ≡ b →
        value g (if b then t else plus (without x t) (times (coefficient x t.parts) new))
        ≡ t.constant
        +ℤ (parts_value g (parts_without x t.parts) +ℤ coefficient x t.parts *ℤ value g new)
    by true e =
        let z = without-value g x t.parts in
        value-is g t ∙ (ap (λ u. t.constant +ℤ u) z
        ∙ none (coefficient x t.parts) (no-part (coefficient x t.parts) e))
      where
        no-part : (k : ℤ) → is_zero k ≡ true → k ≡ pos 0
        no-part (pos zero) e = refl
        no-part (pos (suc n)) e = cc
        no-part (negsuc n) e = cc

        none : (k : ℤ) → k ≡ pos 0 →
            t.constant +ℤ (parts_value g (parts_without x t.parts) +ℤ k *ℤ g x)
            ≡ t.constant +ℤ (parts_value g (parts_without x t.parts) +ℤ k *ℤ value g new)
        none k z = rw z (omega (arith, ints))
    by false e =
        value-plus g (without x t) (times (coefficient x t.parts) new)
        ∙ (ap (λ u. value g (without x t) +ℤ u) (value-times g (coefficient x t.parts) new)
        ∙ (ap (λ u. u +ℤ coefficient x t.parts *ℤ value g new) (value-is g (without x t))
        ∙ grouped t.constant (parts_value g (parts_without x t.parts))
        (coefficient x t.parts *ℤ value g new)))
      where
        grouped : (a b c : ℤ) → a +ℤ b +ℤ c ≡ a +ℤ (b +ℤ c)
        grouped a b c = omega (arith, ints)

pub replaced-over :
    (P : ℕ → Type 0) (x : ℕ) (new t : Linear) → Over P new → Over P t → Over P (replaced x new t)
unfolding replaced
replaced-over P x new t h k = by (is_zero (coefficient x t.parts))
  where
    by : (b : Bool) →
        Over P (if b then t else plus (without x t) (times (coefficient x t.parts) new))
    by true = k
    by false =
        over-plus P (without x t) (times (coefficient x t.parts) new) (all-without P x t.parts k)
        (over-times P (coefficient x t.parts) new h)

-- ---- candidates

-- a row over the state's variables and one more, the fact's state
abbrev pub IsCandidate : PlainState → Row → Type 0
IsCandidate s r =
    (r.sort ≡ Int) × Over (λ x. slice_get (s.sorts ++ Int ∷ []) x ≡ Some Int) r.term

-- it holds of this state
abbrev pub HoldsAt : Valuation → PlainState → ℤ → Row → Type 0
HoldsAt v s b r = HoldsAs r.kind (value (changed v.whole (length s.sorts) b) r.term)

abbrev pub row_at : PlainState → Linear → Row → Row
row_at s t r = record r { term = replaced (length s.sorts) t r.term }

-- each candidate follows, where the action leads
abbrev pub IsClosed :
    PlainRegionType → PlainState → PlainFact → List Row → PlainAction → Type 0
IsClosed k s f named a =
    (rows : List Row) → action_system k s f named a (action_names k s f a) ≡ Some rows →
    AllByRecursion
    (λ r. Proves rows (row_at s (named_term (action_names k s f a) a.target) r)) named

pub comes-at :
    (s : PlainState) (rows : List Row) (t : Linear) (rs : List Row) (P : Unit {0} → Type 0) →
    Comes (prove_at s rows t rs) P → AllByRecursion (λ r. Proves rows (row_at s t r)) rs × P tt
comes-at s rows t [] P h = (tt, h.1)
comes-at s rows t (r ∷ rs) P h =
    let u = replaced (length s.sorts) t r.term in
    let later = λ (x : Unit {0}). prove_at s rows t rs in
    let first = λ (u : Linear). prove rows (record r { term = u }) >>= later in
    let k1 : Comes (first u) P =
    after-computed u (replaced_steps (length s.sorts) t r.term) first P h in
    let k2 = after-prove rows (row_at s t r) later P k1 in
    let k3 = comes-at s rows t rs P k2.1 in
    ((k2.0, k3.0), k3.1)

comes-closed :
    (s : PlainState) (named : List Row) (a : PlainAction) (names : List Linear)
    (o : Option (List Row)) (P : Unit {0} → Type 0) → Comes (prove_closed s named a names o) P →
    ((rows : List Row) → o ≡ Some rows →
    AllByRecursion (λ r. Proves rows (row_at s (named_term names a.target) r)) named) × P tt
comes-closed s [] a names o P h = (λ rows e. tt, h.1)
comes-closed s (r ∷ rs) a names None P h = (λ rows e. absurd (none-some e), h.1)
comes-closed s (r ∷ rs) a names (Some rows) P h =
    let t = named_term names a.target in
    let last = λ (t : Linear). prove_at s rows t (r ∷ rs) in
    let k = comes-at s rows t (r ∷ rs) P (comes-bind (value_over names a.target) last P h).1 in (
      λ more e.
          subst (λ us. AllByRecursion (λ q. Proves us (row_at s t q)) (r ∷ rs))
          (some-same rows more e) k.0,
      k.1,
    )

pub comes-stable :
    (k : PlainRegionType) (s : PlainState) (f : PlainFact) (named : List Row)
    (actions : List PlainAction) (P : Unit {0} → Type 0) →
    Comes (prove_stable k s f named actions) P →
    AllByRecursion (IsClosed k s f named) actions × P tt
comes-stable k s f named [] P h = (tt, h.1)
comes-stable k s f named (a ∷ more) P h =
    let names = action_names k s f a in
    let later = λ (x : Unit {0}). prove_stable k s f named more in
    let first = λ (rows : Option (List Row)). prove_closed s named a names rows >>= later in
    let o = action_system k s f named a names in
    let k1 : Comes (first o) P =
    comes-system k s f named a names (λ o. Comes (first o) P)
    (comes-bind (system k s f named a names) first P h) in
    let k2 = comes-closed s named a names o (λ x. Comes (later x) P)
    (comes-bind (prove_closed s named a names o) later P k1) in
    let k3 = comes-stable k s f named more P k2.1 in
    ((k2.0, k3.0), k3.1)

-- ---- one action

module _ (k : PlainRegionType) (s : PlainState) (f : PlainFact) (a : PlainAction) (v : Valuation)
    (b c : ℤ) (sol : Solution v s k f a b c) where
  abbrev n : ℕ
  n = length s.sorts

  abbrev w : Valuation
  w = sol.w

  abbrev target : Linear
  target = named_term (action_names k s f a) a.target

  abbrev Known : ℕ → Type 0
  Known x = slice_get (s.sorts ++ Int ∷ []) x ≡ Some Int

  known-low : (x : ℕ) → Known x → x ≢ n → x < n
  known-low x h ne =
      let l = within (s.sorts ++ Int ∷ []) x Int h in
      let m = push-length s.sorts Int in
      omega (arith, l, m, ne)

  known-whole : (x : ℕ) → Known x → IsWholeAt w x
  known-whole x h = elim (get-join s.sorts (Int ∷ []) x Int h) [
    | inl g ↦ sol.sorted x g
    | inr g ↦ subst (IsWholeAt w) (sym (at-end g.0 g.1 g.2)) sol.later_whole
  ]
    where
      at-end : (j : ℕ) → x ≡ n + j → slice_get (Int ∷ []) j ≡ Some Int → x ≡ n
      at-end zero e i = omega (arith, e)
      at-end (suc j) e i = absurd (none-some i)

  -- the state's variables, with any state, as they were
  same-at : (d : ℤ) (t : Linear) → Over Known t →
      value (changed w.whole n d) t ≡ value (changed v.whole n d) t
  same-at d t o =
      value-is (changed w.whole n d) t
      ∙ (ap (λ z. t.constant +ℤ z)
      (sum-agree Known (changed v.whole n d) (changed w.whole n d) each t.parts o)
      ∙ sym (value-is (changed v.whole n d) t))
    where
      each : (x : ℕ) → Known x → changed w.whole n d x ≡ changed v.whole n d x
      each x h = by (nat_eq x n) refl
        where
          by : (t : Bool) → nat_eq x n ≡ t →
              (if t then d else w.whole x) ≡ (if t then d else v.whole x)
          by true e = refl
          by false e =
              sol.whole x (known-low x h (grind (arith, nat_tests, e)))

  -- and its state is the one before the action
  first-at : (t : Linear) → Over Known t → value w.whole t ≡ value (changed v.whole n b) t
  first-at t o =
      value-is w.whole t
      ∙ (ap (λ z. t.constant +ℤ z)
      (sum-agree Known (changed v.whole n b) w.whole each t.parts o)
      ∙ sym (value-is (changed v.whole n b) t))
    where
      each : (x : ℕ) → Known x → w.whole x ≡ changed v.whole n b x
      each x h = by (nat_eq x n) refl
        where
          by : (t : Bool) → nat_eq x n ≡ t → w.whole x ≡ (if t then b else v.whole x)
          by true e =
              let same : x ≡ n = grind (arith, nat_tests, e) in
              ap w.whole same ∙ sol.later
          by false e =
              sol.whole x (known-low x h (grind (arith, nat_tests, e)))

  candidate-holds : (r : Row) → IsCandidate s r → HoldsAt v s b r → Holds w r
  candidate-holds r i h =
      subst (λ o. HoldsAs r.kind (value_by_sort o w r.term)) (sym i.0)
      (subst (HoldsAs r.kind) (sym (first-at r.term i.1)) h)

  candidate-over : (r : Row) → IsCandidate s r → RowOver (Whole w) r
  candidate-over r i =
      subst (λ o. Over (Whole w o) r.term) (sym i.0)
      (vars-more Known (IsWholeAt w) known-whole r.term.parts i.1)

  all-hold : (rs : List Row) → AllByRecursion (IsCandidate s) rs →
      AllByRecursion (HoldsAt v s b) rs → AllByRecursion (Holds w) rs
  all-hold [] i h = tt
  all-hold (r ∷ rs) i h = (candidate-holds r i.0 h.0, all-hold rs i.1 h.1)

  all-over : (rs : List Row) → AllByRecursion (IsCandidate s) rs →
      AllByRecursion (RowOver (Whole w)) rs
  all-over [] i = tt
  all-over (r ∷ rs) i = (candidate-over r i.0, all-over rs i.1)

  target-fits : (r : Row) → IsCandidate s r → FitsSort w r.sort (row_at s target r).term
  target-fits r i =
      fits-sort (Whole w) w (λ x h. h) (row_at s target r)
      (subst (λ o. Over (Whole w o) (row_at s target r).term) (sym i.0)
      (replaced-over (IsWholeAt w) n target r.term sol.target_over
      (vars-more Known (IsWholeAt w) known-whole r.term.parts i.1)))

  target-holds : (r : Row) → IsCandidate s r → Holds w (row_at s target r) → HoldsAt v s c r
  target-holds r i h =
      let g : HoldsAs r.kind (value w.whole (replaced n target r.term)) =
      subst (λ o. HoldsAs r.kind (value_by_sort o w (replaced n target r.term))) i.0 h in
      subst (HoldsAs r.kind)
      (replaced-value w.whole n target r.term
      ∙ (ap (λ z. value (changed w.whole n z) r.term) sol.target_is ∙ same-at c r.term i.1)) g

  pub settled-step :
      (named : List Row) → AllByRecursion (IsCandidate s) named → IsClosed k s f named a →
      AllByRecursion (HoldsAt v s b) named → AllByRecursion (HoldsAt v s c) named
  settled-step named i closed h =
      let rows = action_rows s named a (action_names k s f a) ++ sol.rows in
      each named i (closed rows (joined-is k s f named a v b c sol))
    where
      each : (rs : List Row) → AllByRecursion (IsCandidate s) rs →
          AllByRecursion (λ r. Proves (action_rows s named a (action_names k s f a) ++ sol.rows)
          (row_at s target r)) rs →
          AllByRecursion (HoldsAt v s c) rs
      each [] i p = tt
      each (r ∷ rs) j p = (
        target-holds r j.0
            (p.0 w (sol.solves named (all-hold named i h) (all-over named i))
            (target-fits r j.0)),
        each rs j.1 p.1,
      )

-- ---- all actions

-- after so many actions of others, by one who holds at least this much
pub settled-rests :
    (p : PlainProgram) (ks : List ℕ) (v : Valuation) (s : PlainState) (k : PlainRegionType)
    (f : PlainFact) (is_type : slice_get p.regions f.kind ≡ Some k)
    (fits : AllByRecursion (ActionFits k) k.actions) (rest : Resting ks v s k f) (held : Mark)
    (of_kind : IsOfKind f.kind held)
    (covered : Covered p v s.guards (value v.whole f.region) (Some held)) (named : List Row) →
    AllByRecursion (IsCandidate s) named → (P : Unit {0} → Type 0) →
    Comes (prove_stable k s f named k.actions) P → (part : Option Mark) →
    IsPartOf p (Some held) part → (i : ℕ) (b c : ℤ) →
    Reach p part f.kind (value v.whole f.region) (map (value v.whole) f.args) i b c →
    AllByRecursion (HoldsAt v s b) named → AllByRecursion (HoldsAt v s c) named
settled-rests p ks v s k f is_type fits rest held of_kind covered named is P h part le i b c r at =
    let closed = (comes-stable k s f named k.actions P h).0 in
    carried p (λ z. AllByRecursion (HoldsAt v s z) named) (Some held) part f.kind
    (value v.whole f.region) (map (value v.whole) f.args) le
    (λ d e before may.
    settled-step k s f may.1.action v d e
    (solved p ks v s k f is_type fits rest held of_kind covered d e may) named is
    (all-at (IsClosed k s f named) k.actions may.1.number may.1.action closed
    (action-at p ks v s k f is_type fits rest held of_kind covered d e may.0 may.1)) before)
    i b c r at
