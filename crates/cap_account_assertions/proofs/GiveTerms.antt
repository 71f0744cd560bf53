-- Giving terms and comparisons to a state: names get variables, and rows hold.
use Rattle.std.proofs.Common.{◌≡◌, ℕ, ◌+◌, ℤ, ◌*ℤ◌, List, [], ◌∷◌, ◌++◌, length, arith, sym, ap, ◌∙◌}
use Rattle.cap_lin.specs.Linear.{Linear}
use Rattle.cap_lin.specs.Rows.{row_of}
use Rattle.cap_lin.specs.Values.{Valuation, denominator}
use Rattle.cap_lin.specs.Solves.{value_by_sort, Holds, Relates, IsWholeAt}
use Rattle.cap_lin.specs.declared.row.Row.{Row}
use Rattle.cap_lin.specs.declared.row.Sort.{Sort}
use Rattle.cap_lin.specs.declared.row.Sort.TheVariants.{Int}
use Rattle.cap_lin.specs.declared.row.Op.{Op}
use Rattle.cap_lin.proofs.Rows.{row_of-means}
use Rattle.cap_prog.specs.declared.assertion.Comp.{Comp}
use Rattle.cap_prog.specs.declared.assertion.Slot.{Slot}
use Rattle.cap_prog.specs.declared.assertion.Slot.TheVariants.{Any, Is}
use Rattle.cap_prog.specs.Scopes.{Scope, TermFits, SlotFits, CompFits}
use Rattle.cap_machine_accounts.specs.Assertions.{SlotIs}
use Rattle.cap_goal_spec.specs.States.{PlainState}
use Rattle.cap_goal_spec.specs.Environments.{term_in, term_in_steps}
use Rattle.cap_rules.specs.Attempts.{Attempt, unit, ◌>>=◌}
use Rattle.cap_rules.specs.Making.{value_by, fresh, env_at}
use Rattle.cap_rules.specs.Giving.{name_parts, Given as Pair, given as pair, give_term, give_slot, give_sides}
use Rattle.cap_account_states.specs.Nodes.{Comes}
use Rattle.cap_account_resources.proofs.Lists.{get-last, push-length}
use Rattle.cap_account_states.proofs.Terms.{Over, vars-more, RowOver, row-over, Agree, number-agree, relates-same}
use Rattle.cap_account_states.proofs.Attempts.{comes-bind, after-computed, after-sort, sort_added, row_added}
use Rattle.cap_account_states.proofs.Meets.{Usable, usable-old, need, Old, Same, same-trans, with_value, new-whole, new-share, variable-value, meets-row, same-row, usable-on}
use Rattle.cap_account_states.proofs.Filled.{Filled, filled_at, fill_parts, fill_slot, fill_sides}
use Rattle.cap_account_states.proofs.Naming.{Ready, Step, step-trans, step-fresh, parts-named, term-over, term-number}

-- the same with a row more
pub ready-row :
    (sc : Scope) (e : ℕ) (a v : Valuation) (s : PlainState) (r : Row) → Ready sc e a v s →
    Holds v r → RowOver (Usable [] s.sorts) r → Ready sc e a v (row_added s r)
ready-row sc e a v s r m h o = record {
  meets = meets-row [] v s r m.meets h o;
  there = m.there;
  placed = m.placed;
  means = m.means;
}

abbrev pub step-row :
    (sc : Scope) (e : ℕ) (a v : Valuation) (s t : PlainState) (r : Row) → (m : Step sc e a v s t) →
    Holds m.w r → RowOver (Usable [] t.sorts) r → Step sc e a v s (row_added t r)
step-row sc e a v s t r m h o = record {
  w = m.w;
  ready = ready-row sc e a m.w t r m.ready h o;
  agree = m.agree;
  same = same-trans s t (row_added t r) m.same (same-row t r);
  cells = m.cells;
  guards = m.guards;
  stays = m.stays;
  others = m.others;
}

-- ---- terms

-- a term gets its value
pub record TermGiven (sc : Scope) (e : ℕ) (a v : Valuation) (s : PlainState) (o : Sort) (z : ℤ)
    (f : Filled) (P : Pair Linear → Type 0) : Type 0 where
  pub after : PlainState
  pub term : Linear
  pub step : Step sc e a v s after
  pub filled : filled_at e step.w after ≡ f
  pub number_is : value_by_sort o step.w term ≡ z
  pub over : Over (Usable [] after.sorts o) term
  pub comes : P (pair after term)

pub term-given :
    (sc : Scope) (e : ℕ) (a v : Valuation) (s : PlainState) (o : Sort) (t : Linear)
    (P : Pair Linear → Type 0) → Ready sc e a v s → TermFits sc o t → Comes (give_term s e o t) P →
    TermGiven sc e a v s o (value_by_sort o a t) (fill_parts a o t.parts (filled_at e v s)) P
term-given sc e a v s o t P r h c =
    let rest : PlainState → Attempt (Pair Linear) = λ s'. value_by (env_at s' e) t >>= λ u. unit
    (pair s' u) in
    let m = parts-named sc e a o t.parts v s (λ s'. Comes (rest s') P) r h
    (comes-bind (name_parts s e o t.parts) rest P c) in
    record {
      after = m.after;
      term = term_in (env_at m.after e) t;
      step = m.step;
      filled = m.filled;
      number_is = term-number sc m.step.w (env_at m.after e) a o t m.step.ready.means h m.bound;
      over = term-over [] sc m.after.sorts (env_at m.after e) o t m.step.ready.placed h m.bound;
      comes =
          (after-computed (term_in (env_at m.after e) t) (term_in_steps (env_at m.after e) t)
          (λ u. unit (pair m.after u)) P m.comes).1;
    }

pub slot-given :
    (sc : Scope) (e : ℕ) (a v : Valuation) (s : PlainState) (x : Slot) (z : ℤ)
    (P : Pair Linear → Type 0) → Ready sc e a v s → SlotFits sc Int x → SlotIs a x z →
    Comes (give_slot s e Int x) P →
    TermGiven sc e a v s Int z (fill_slot a x z (filled_at e v s)) P
slot-given sc e a v s Any z P r h m c =
    let n = length s.sorts in
    let y = z *ℤ denominator v.fraction in
    let w = with_value v n z y in
    let ok : IsWholeAt w n = new-share v n z y ∙ ap (λ u. u *ℤ denominator v.fraction)
    (sym (new-whole v n z y)) in
    record {
      after = sort_added s Int;
      term = fresh s;
      step = step-fresh sc e a v s Int z y ok r;
      filled = λ i. record { env = env_at s e; next = push-length s.sorts Int i; values = w };
      number_is = variable-value w n ∙ new-whole v n z y;
      over = ((get-last s.sorts Int, tt), tt);
      comes = (after-sort s Int (λ s'. unit (pair s' (fresh s))) P c).1;
    }
slot-given sc e a v s (Is t) z P r h m c =
    let k = term-given sc e a v s Int t P r h c in
    record {
      after = k.after;
      term = k.term;
      step = k.step;
      filled = k.filled;
      number_is = k.number_is ∙ m;
      over = k.over;
      comes = k.comes;
    }

-- the two sides of a comparison
pub record SidesGiven (sc : Scope) (e : ℕ) (a v : Valuation) (s : PlainState) (c : Comp)
    (P : Pair (Linear × Linear) → Type 0) : Type 0 where
  pub after : PlainState
  pub left : Linear
  pub right : Linear
  pub step : Step sc e a v s after
  pub filled : filled_at e step.w after ≡ fill_sides a c (filled_at e v s)
  pub left_is : value_by_sort c.sort step.w left ≡ value_by_sort c.sort a c.left
  pub right_is : value_by_sort c.sort step.w right ≡ value_by_sort c.sort a c.right
  pub left_over : Over (Usable [] after.sorts c.sort) left
  pub right_over : Over (Usable [] after.sorts c.sort) right
  pub comes : P (pair after (left, right))

-- a term that was usable is so in a later state, and has the same number
pub over-later :
    (s t : PlainState) (o : Sort) (u : Linear) → Same s t → Over (Usable [] s.sorts o) u →
    Over (Usable [] t.sorts o) u
over-later s t o u m h =
    vars-more (Usable [] s.sorts o) (Usable [] t.sorts o)
    (usable-on [] s.sorts t.sorts m.sorts o) u.parts h

pub number-later :
    (s : PlainState) (v w : Valuation) (o : Sort) (u : Linear) → Agree (Old s) v w →
    Over (Usable [] s.sorts o) u → value_by_sort o w u ≡ value_by_sort o v u
number-later s v w o u g h =
    number-agree (Old s) v w g o u
    (vars-more (Usable [] s.sorts o) (Old s) (usable-old [] s.sorts o) u.parts h)

pub sides-given :
    (sc : Scope) (e : ℕ) (a v : Valuation) (s : PlainState) (c : Comp)
    (P : Pair (Linear × Linear) → Type 0) → Ready sc e a v s → CompFits sc c →
    Comes (give_sides s e c) P → SidesGiven sc e a v s c P
sides-given sc e a v s c P r h k =
    let last : Pair Linear → Pair Linear → Attempt (Pair (Linear × Linear)) = λ l x. unit
    (pair x.state (l.value, x.value)) in
    let rest : Pair Linear → Attempt
    (Pair (Linear × Linear)) = λ l. give_term l.state e c.sort c.right >>= last l in
    let m = term-given sc e a v s c.sort c.left (λ l. Comes (rest l) P) r h.0
    (comes-bind (give_term s e c.sort c.left) rest P k) in
    let n = term-given sc e a m.step.w m.after c.sort c.right
    (λ x. Comes (last (pair m.after m.term) x) P) m.step.ready h.1
    (comes-bind (give_term m.after e c.sort c.right)
    (last (pair m.after m.term)) P m.comes) in
    record {
      after = n.after;
      left = m.term;
      right = n.term;
      step = step-trans sc e a v s m.after n.after m.step n.step;
      filled = n.filled ∙ ap (fill_parts a c.sort c.right.parts) m.filled;
      left_is =
          number-later m.after m.step.w n.step.w c.sort m.term n.step.agree m.over ∙ m.number_is;
      right_is = n.number_is;
      left_over = over-later m.after n.after c.sort m.term n.step.same m.over;
      right_over = n.over;
      comes = n.comes.1;
    }

-- the row of a comparison that holds
abbrev pub sides-row :
    (sc : Scope) (e : ℕ) (a v : Valuation) (s : PlainState) (c : Comp) (op : Op)
    (P : Pair (Linear × Linear) → Type 0) → (m : SidesGiven sc e a v s c P) →
    Relates op (value_by_sort c.sort a c.left) (value_by_sort c.sort a c.right) →
    Step sc e a v s (row_added m.after (row_of m.left op m.right c.sort))
sides-row sc e a v s c op P m h =
    step-row sc e a v s m.after (row_of m.left op m.right c.sort) m.step
    ((row_of-means m.step.w m.left op m.right c.sort).1
    (relates-same op _ _ _ _ (sym m.left_is) (sym m.right_is) h))
    (row-over (Usable [] m.after.sorts) m.left op m.right c.sort m.left_over m.right_over)

-- ---- one item

pub need-join :
    (v : Valuation) (cs ds : List (Linear × Linear)) (a z : ℤ) →
    need v (cs ++ ds) a z ≡ need v cs a z + need v ds a z
need-join v [] ds a z = omega arith
need-join v (c ∷ cs) ds a z = let q = need-join v cs ds a z in omega (arith, q)
