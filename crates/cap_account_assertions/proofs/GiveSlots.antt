-- What slots and forms that are given become: terms and forms of the state, with the values that
-- are asked for.
use Rattle.std.proofs.Common.{◌≡◌, ℕ, ◌+◌, ℤ, pos, ◌*ℤ◌, List, [], ◌∷◌, length, map, Some, None, refl, sym, ap, ◌∙◌}
use Rattle.std.specs.List.{AllByRecursion}
use Rattle.cap_lin.specs.Linear.{Linear, plus}
use Rattle.cap_lin.specs.Steps.{plus_steps}
use Rattle.cap_lin.specs.Values.{Valuation, value}
use Rattle.cap_lin.specs.declared.row.Sort.{Sort}
use Rattle.cap_lin.specs.declared.row.Sort.TheVariants.{Int, Perm}
use Rattle.cap_galg.specs.Elements.{Element}
use Rattle.cap_galg.specs.Algebras.{PlainAlgebra, unique, divisible, counting, indexed}
use Rattle.cap_gsolve.specs.declared.piece.Form.{Form}
use Rattle.cap_gsolve.specs.declared.piece.Form.TheVariants as form
use Rattle.cap_gsolve.specs.Meaning.{IsFormElement, Takes}
use Rattle.cap_prog.specs.declared.assertion.Slot.{Slot}
use Rattle.cap_prog.specs.declared.assertion.Slot.TheVariants.{Any, Is}
use Rattle.cap_prog.specs.declared.assertion.Asked.{Asked}
use Rattle.cap_prog.specs.declared.assertion.Asked.TheVariants.{One, Share, Src, Tok, At, From}
use Rattle.cap_prog.specs.Scopes.{Scope, SlotFits}
use Rattle.cap_prog.specs.WellFormed.{AskedFits}
use Rattle.cap_machine_accounts.specs.Assertions.{SlotsAre}
use Rattle.cap_goal_spec.specs.States.{PlainState}
use Rattle.cap_goal_spec.specs.Environments.{one_value}
use Rattle.cap_rules.specs.Attempts.{Attempt, unit, ◌>>=◌}
use Rattle.cap_rules.specs.Making.{sum, fresh, env_at}
use Rattle.cap_rules.specs.Giving.{Given as Pair, given as pair, give_slot, give_slots, give_form}
use Rattle.cap_account_states.specs.Nodes.{Comes}
use Rattle.cap_account_resources.proofs.Lists.{get-last, push-length}
use Rattle.cap_account_states.proofs.Terms.{Over, over-plus}
use Rattle.cap_account_states.proofs.Attempts.{comes-bind, after-computed, after-sort, sort_added}
use Rattle.cap_account_states.proofs.Meets.{Usable, new-share, variable-amount}
use Rattle.cap_account_states.proofs.Filled.{Filled, filled_at, fill_slots, fill_amount}
use Rattle.cap_account_states.proofs.Naming.{Ready, Step, step-none, step-trans, step-fresh}
use Rattle.cap_account_states.proofs.Asking.{single-form}
use Rattle.cap_account_states.proofs.Wants.{AmountIs, Wants}
use Rattle.cap_account_states.proofs.Guarding.{FormOver}
use Rattle.cap_account_assertions.proofs.Filling.{fill_form}
use Rattle.cap_account_assertions.proofs.GiveTerms.{TermGiven, term-given, slot-given, over-later, number-later}

-- what is given becomes something of which this holds, after names have got variables
pub record Becomes (sc : Scope) (e : ℕ) (a v : Valuation) (s : PlainState) (f : Filled)
    (A : Type 0) (Q : Valuation → PlainState → A → Type 0) (P : Pair A → Type 0) : Type 0 where
  pub after : PlainState
  pub made : A
  pub step : Step sc e a v s after
  pub filled : filled_at e step.w after ≡ f
  pub is : Q step.w after made
  pub comes : P (pair after made)

-- ---- several slots

-- usable terms with these values
abbrev pub TermsAre : List ℤ → Valuation → PlainState → List Linear → Type 0
TermsAre zs w t us =
    (map (value w.whole) us ≡ zs) × AllByRecursion (Over (Usable [] t.sorts Int)) us

pub slots-given :
    (sc : Scope) (e : ℕ) (a : Valuation) (xs : List Slot) (zs : List ℤ) (v : Valuation)
    (s : PlainState) (P : Pair (List Linear) → Type 0) → Ready sc e a v s →
    AllByRecursion (SlotFits sc Int) xs → SlotsAre a xs zs → Comes (give_slots s e xs) P →
    Becomes sc e a v s (fill_slots a xs zs (filled_at e v s)) (List Linear) (TermsAre zs) P
slots-given sc e a [] [] v s P r f m c =
    record {
      after = s;
      made = [];
      step = step-none sc e a v s r;
      filled = refl;
      is = (refl, tt);
      comes = c.1;
    }
slots-given sc e a [] (z ∷ zs) v s P r f m c = absurd m
slots-given sc e a (x ∷ xs) [] v s P r f m c = absurd m
slots-given sc e a (x ∷ xs) (z ∷ zs) v s P r f m c =
    let g = slot-given sc e a v s x z _ r f.0 m.0 (comes-bind (give_slot s e Int x) _ P c) in
    let k =
    slots-given sc e a xs zs g.step.w g.after _ g.step.ready f.1 m.1
    (comes-bind (give_slots g.after e xs) _ P g.comes) in
    let first = number-later g.after g.step.w k.step.w Int g.term k.step.agree g.over in
    record {
      after = k.after;
      made = g.term ∷ k.made;
      step = step-trans sc e a v s g.after k.after g.step k.step;
      filled = k.filled ∙ ap (fill_slots a xs zs) g.filled;
      is = (
        λ i. (first ∙ g.number_is) i ∷ k.is.0 i,
        (over-later g.after k.after Int g.term k.step.same g.over, k.is.1),
      );
      comes = k.comes.1;
    }

-- ---- amounts and forms

-- a slot of an amount gets the amount
pub amount-given :
    (sc : Scope) (e : ℕ) (a v : Valuation) (s : PlainState) (x : Slot) (z : ℤ)
    (P : Pair Linear → Type 0) → Ready sc e a v s → SlotFits sc Perm x → AmountIs a x z →
    Comes (give_slot s e Perm x) P →
    TermGiven sc e a v s Perm z (fill_amount a x z (filled_at e v s)) P
amount-given sc e a v s Any z P r f m c =
    let step = step-fresh sc e a v s Perm (pos 0) z tt r in
    record {
      after = sort_added s Perm;
      term = fresh s;
      step = step;
      filled =
          λ i. record { env = env_at s e; next = push-length s.sorts Perm i; values = step.w };
      number_is =
          variable-amount step.w (length s.sorts) ∙ new-share v (length s.sorts) (pos 0) z;
      over = (((Perm, get-last s.sorts Perm), tt), tt);
      comes = (after-sort s Perm (λ t. unit (pair t (fresh s))) P c).1;
    }
amount-given sc e a v s (Is t) z P r f m c =
    let g = term-given sc e a v s Perm t P r f c in
    record {
      after = g.after;
      term = g.term;
      step = g.step;
      filled = g.filled;
      number_is = g.number_is ∙ m;
      over = g.over;
      comes = g.comes;
    }

-- the form is of the kind that is asked for
abbrev pub IsShaped : Asked → Form → Type 0
IsShaped One form.One = Unit {0}
IsShaped (Share x) (form.Share t) = Unit {0}
IsShaped (Src x) (form.Src t) = Unit {0}
IsShaped (Tok x) (form.Tok t) = Unit {0}
IsShaped (At x) (form.Span t d) = Unit {0}
IsShaped (From x) (form.Span t d) = Unit {0}
IsShaped x f = ⊥

pub shaped-takes :
    (sc : Scope) (b : PlainAlgebra) (x : Asked) (f : Form) → AskedFits sc b x → IsShaped x f →
    Takes b f
shaped-takes sc unique One form.One h k = tt
shaped-takes sc divisible (Share x) (form.Share t) h k = tt
shaped-takes sc counting (Src x) (form.Src t) h k = tt
shaped-takes sc counting (Tok x) (form.Tok t) h k = tt
shaped-takes sc indexed (At x) (form.Span t d) h k = tt
shaped-takes sc indexed (From x) (form.Span t d) h k = tt
shaped-takes sc unique One f h k = absurd k
shaped-takes sc divisible (Share x) f h k = absurd k
shaped-takes sc counting (Src x) f h k = absurd k
shaped-takes sc counting (Tok x) f h k = absurd k
shaped-takes sc indexed (At x) f h k = absurd k
shaped-takes sc indexed (From x) f h k = absurd k
shaped-takes sc b x f h k = absurd h

-- a form over usable variables, with this element
abbrev pub FormIs : Asked → Element → Valuation → PlainState → Form → Type 0
FormIs asked y w t f =
    IsFormElement w f y × IsShaped asked f × FormOver (Usable [] t.sorts) f

module _ (sc : Scope) (e : ℕ) (a v : Valuation) (s : PlainState) (y : Element)
    (P : Pair Form → Type 0) (r : Ready sc e a v s) where
  -- made of this term
  form-of :
      (asked : Asked) (make : Linear → Form) (o : Sort) (z : ℤ) (f : Filled) →
      (g : TermGiven sc e a v s o z f (λ t. Comes (unit (pair t.state (make t.value))) P)) →
      FormIs asked y g.step.w g.after (make g.term) →
      Becomes sc e a v s f Form (FormIs asked y) P
  form-of asked make o z f g h = record {
    after = g.after;
    made = make g.term;
    step = g.step;
    filled = g.filled;
    is = h;
    comes = g.comes.1;
  }

  -- what is wanted
  pub form-given :
      (asked : Asked) (b : PlainAlgebra) → AskedFits sc b asked → (h : Wants a asked y) →
      Comes (give_form s e asked) P →
      Becomes sc e a v s (fill_form a asked y h (filled_at e v s)) Form (FormIs asked y) P
  form-given One unique f h c = record {
    after = s;
    made = form.One;
    step = step-none sc e a v s r;
    filled = refl;
    is = (h, tt, tt);
    comes = c.1;
  }
  form-given (Share x) divisible f h c =
      let g = amount-given sc e a v s x h.1 _ r f h.3 (comes-bind (give_slot s e Perm x) _ P c) in
      let is_value =
      ap (λ n. pos h.0.num *ℤ pos (n + 1)) (sym g.step.ready.means.under)
      ∙ sym h.4
      ∙ ap (λ z. z *ℤ pos h.0.den) (sym g.number_is) in
      form-of (Share x) form.Share Perm h.1 _ g ((h.0, h.2, is_value, h.5), tt, g.over)
  form-given (Src x) counting f h c =
      let g = slot-given sc e a v s x (pos h.0) _ r f h.1 (comes-bind (give_slot s e Int x) _ P c)
      in
      form-of (Src x) form.Src Int (pos h.0) _ g ((h.0, g.number_is, h.2), tt, g.over)
  form-given (Tok x) counting f h c =
      let g = slot-given sc e a v s x (pos h.0) _ r f h.1 (comes-bind (give_slot s e Int x) _ P c)
      in
      form-of (Tok x) form.Tok Int (pos h.0) _ g ((h.0, g.number_is, h.2), tt, g.over)
  form-given (At x) indexed f h c =
      let more : Pair Linear → Attempt (Pair Form) = λ t. sum t.value one_value >>= λ next.
      unit (pair t.state (form.Span t.value (Some next))) in
      let g = slot-given sc e a v s x (pos h.0) (λ t. Comes (more t) P) r f h.1
      (comes-bind (give_slot s e Int x) more P c) in
      let last : Linear → Attempt (Pair Form) = λ next.
      unit (pair g.after (form.Span g.term (Some next))) in
      let next = plus g.term one_value in
      record {
        after = g.after;
        made = form.Span g.term (Some next);
        step = g.step;
        filled = g.filled;
        is = (
          single-form g.step.w g.term y (h.0, g.number_is, h.2),
          tt,
          (g.over, over-plus (Usable [] g.after.sorts Int) g.term one_value g.over tt),
        );
        comes = (after-computed next (plus_steps g.term one_value) last P g.comes).1;
      }
  form-given (From x) indexed f h c =
      let g = slot-given sc e a v s x (pos h.0) _ r f h.1 (comes-bind (give_slot s e Int x) _ P c)
      in
      form-of (From x) (λ t. form.Span t None) Int (pos h.0) _ g
      ((h.0, g.number_is, h.2), tt, (g.over, tt))
  form-given asked b f h c = absurd f
