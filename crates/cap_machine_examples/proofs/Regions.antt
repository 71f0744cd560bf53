-- Regions that are interpreted, that act and that remain, and those that don't.
use Rattle.std.proofs.Common.{◌≡◌, ◌⊎◌, inl, inr, ℕ, zero, suc, ◌+◌, ◌*◌, ◌<◌, ℤ, pos, ◌*ℤ◌, ◌<ℤ◌, List, [], ◌∷◌, length, Option, Some, None, refl, sym, ap, subst, ◌∙◌, arith}
use Rattle.std.specs.Prelude.{slice_get, nat_abs, get_or}
use Rattle.std.specs.List.{AllByRecursion}
use Rattle.std.specs.FinMap.{get}
use Rattle.std.proofs.lemmas.Int.{ints}
use Rattle.cap_lin.specs.Linear.{number, variable}
use Rattle.cap_lin.specs.Values.{RationalValuation, Valuation, denominator, parts_value, value, amount}
use Rattle.cap_lin.specs.declared.row.Op.{Op}
use Rattle.cap_lin.specs.declared.row.Op.TheVariants.{Eq, Ne}
use Rattle.cap_galg.specs.cap_galg_spec.declared.fraction.Fraction.{Fraction}
use Rattle.cap_galg.specs.Fractions.{fraction}
use Rattle.cap_galg.specs.Laws.Fractions.{whole-share}
use Rattle.cap_galg_indices.specs.Sets.{one_index}
use Rattle.cap_galg.specs.Elements.{one, share, indices}
use Rattle.cap_galg.specs.Algebras.{unique, divisible, indexed}
use Rattle.cap_prog.specs.declared.assertion.Slot.TheVariants.{Is}
use Rattle.cap_prog.specs.declared.assertion.Asked.TheVariants.{One, Share, At}
use Rattle.cap_prog.specs.Program.{PlainCase, PlainAction, PlainProgram}
use Rattle.cap_machine_accounts.specs.Parts.{Guard, join, atom_guard, Part, no_part, Region}
use Rattle.cap_machine_accounts.specs.Assertions.{CompHolds, TakesGuards, Sat, IsInterpreted, Acts}
use Rattle.cap_machine_examples.specs.Example.{holds_number, flag_case, flag_type, flag_program, cell_at_5, flag_part, the_guard, flag_values}
use Rattle.cap_machine_examples.specs.Validity.{cell_at}
use Rattle.cap_machine_examples.specs.Latch.{with_five, latch_case, latch_action, latch_type, latch_program}
use Rattle.cap_machine_examples.specs.Holding.{guard_with}
use Rattle.cap_machine_examples.specs.Regions.{region_of, Interprets, InterpretsWhere, InterpretationConditions, ActsWhere, ActsByShare, ActsByIndex, ActionConditions, down, Remains, RegionConditions}
use Rattle.cap_machine_examples.proofs.Example.{none-some, some-same, get-nothing, get-alone, false-true, joined-none}
use Rattle.cap_machine_examples.proofs.Indices.{asked-index, one-bounded, taken-within}
use Rattle.cap_machine_examples.proofs.Values.{numbers, value-number, value-variable, apart, one-there, its-value, owns, owned-is}

-- ---- interpretations of flags

-- a flag that is down, over its cell
pub down-at :
    (table : List Region) (n a : ℤ) → pos 0 <ℤ a → get (cell_at a (pos 0)).cells a ≡ Some (pos 0) →
    IsInterpreted flag_program table (region_of n 0 (a ∷ []) (pos 0)) (cell_at a (pos 0))
down-at table n a l e = record {
  type = flag_type;
  is_type = refl;
  arity = refl;
  number = 0;
  case = flag_case (pos 0);
  is_case = refl;
  values = numbers (n ∷ a ∷ []);
  args_are = (refl, (refl, tt));
  state_is = value-number (numbers (n ∷ a ∷ [])).whole (pos 0);
  conditions = tt;
  met = (
    _,
    (
      _,
      (
        owns (numbers (n ∷ a ∷ [])) (cell_at a (pos 0)) (variable 1) (number (pos 0)) a (pos 0)
            (value-variable (numbers (n ∷ a ∷ [])).whole 1)
            (value-number (numbers (n ∷ a ∷ [])).whole (pos 0)) l e,
        refl,
      ),
      refl,
    ),
  );
}

case-of :
    (n : ℕ) (c : PlainCase) →
    slice_get (flag_case (pos 0) ∷ flag_case (pos 1) ∷ []) n ≡ Some c →
    (flag_case (pos 0) ≡ c) ⊎ (flag_case (pos 1) ≡ c)
case-of zero c e = inl (some-same (flag_case (pos 0)) c e)
case-of (suc zero) c e = inr (some-same (flag_case (pos 1)) c e)
case-of (suc (suc n)) c e = absurd (none-some e)

-- of a flag over the cell 5, which holds 0: its state is 0 and its cell is there
pub flag-says :
    (table : List Region) (args : List ℤ) (state : ℤ)
    (i : IsInterpreted flag_program table (region_of (pos 1) 0 args state) (flag_part (pos 0))) →
    (z : ℤ) × ((z ≡ pos 0) ⊎ (z ≡ pos 1)) × (z ≡ state)
    × (get (cell_at_5 (pos 0)) (i.values.whole 1) ≡ Some z)
flag-says table args state i =
    by_case
    (case-of i.number i.case
    (subst (λ t. slice_get t.cases i.number ≡ Some i.case)
    (sym (some-same flag_type i.type i.is_type)) i.is_case))
  where
    at_state : (z : ℤ) → flag_case z ≡ i.case → z ≡ state
    at_state z e =
        sym (value-number i.values.whole z)
        ∙ (ap (λ c. value i.values.whole c.state) e ∙ i.state_is)

    with_cell :
        (z : ℤ) → flag_case z ≡ i.case → get (cell_at_5 (pos 0)) (i.values.whole 1) ≡ Some z
    with_cell z e =
        let m : Sat flag_program table (flag_part (pos 0)) i.values (holds_number 1 z) =
        subst (λ c. Sat flag_program table (flag_part (pos 0)) i.values c.items) (sym e) i.met in
        owned-is i.values (flag_part (pos 0)) (variable 1) (number z) (i.values.whole 1) z
        (value-variable i.values.whole 1) (value-number i.values.whole z) m.1.1.0

    by_case :
        (flag_case (pos 0) ≡ i.case) ⊎ (flag_case (pos 1) ≡ i.case) →
        (z : ℤ) × ((z ≡ pos 0) ⊎ (z ≡ pos 1)) × (z ≡ state)
        × (get (cell_at_5 (pos 0)) (i.values.whole 1) ≡ Some z)
    by_case (inl e) = (pos 0, inl refl, at_state (pos 0) e, with_cell (pos 0) e)
    by_case (inr e) = (pos 1, inr refl, at_state (pos 1) e, with_cell (pos 1) e)

-- so one that is up is not interpreted over it
pub not-up :
    (table : List Region) →
    ¬ IsInterpreted flag_program table (region_of (pos 1) 0 (pos 5 ∷ []) (pos 1))
    (flag_part (pos 0))
not-up table i =
    let x = flag-says table (pos 5 ∷ []) (pos 1) i in
    apart 0 1 (λ e. omega (arith, e))
    (its-value (pos 5) (pos 0) (pos 1) (get-alone (pos 5) (pos 0) (pos 5))
    (subst (λ a. get (cell_at_5 (pos 0)) a ≡ Some (pos 1)) i.args_are.1.0
    (x.3 ∙ ap Some x.2)))

many-arguments : ¬ Interprets 0 (pos 5 ∷ pos 9 ∷ []) (pos 0)
many-arguments i =
    let e : 2 ≡ 3 = ap (λ t. t.params) (some-same flag_type i.type i.is_type) ∙ i.arity in
    omega (arith, e)

no-argument : ¬ Interprets 0 (pos 9 ∷ []) (pos 0)
no-argument i =
    let x = flag-says [] (pos 9 ∷ []) (pos 0) i in
    none-some
    (sym (get-alone (pos 5) (pos 0) (pos 9))
    ∙ subst (λ a. get (cell_at_5 (pos 0)) a ≡ Some x.0) i.args_are.1.0 x.3)

no-state : ¬ Interprets 0 (pos 5 ∷ []) (pos 2)
no-state i = by_state x.1
  where
    x : (z : ℤ) × ((z ≡ pos 0) ⊎ (z ≡ pos 1)) × (z ≡ pos 2)
        × (get (cell_at_5 (pos 0)) (i.values.whole 1) ≡ Some z)
    x = flag-says [] (pos 5 ∷ []) (pos 2) i

    by_state : (x.0 ≡ pos 0) ⊎ (x.0 ≡ pos 1) → ⊥
    by_state (inl e) = apart 0 2 (λ h. omega (arith, h)) (sym e ∙ x.2)
    by_state (inr e) = apart 1 2 (λ h. omega (arith, h)) (sym e ∙ x.2)

-- ---- conditions

five-is-five : CompHolds flag_values (with_five Eq)
five-is-five =
    value-variable flag_values.whole 1 ∙ sym (value-number flag_values.whole (pos 5))

not-five :
    (v : Valuation) → v.whole 1 ≡ pos 5 → CompHolds v (with_five Ne) → ⊥
not-five v e c =
    c (value-variable v.whole 1 ∙ (e ∙ sym (value-number v.whole (pos 5))))

latch-interpreted : InterpretsWhere Eq
latch-interpreted = record {
  type = latch_type unique One (with_five Eq ∷ []);
  is_type = refl;
  arity = refl;
  number = 0;
  case = latch_case (with_five Eq ∷ []);
  is_case = refl;
  values = flag_values;
  args_are = (refl, (refl, tt));
  state_is = value-number flag_values.whole (pos 0);
  conditions = (five-is-five, tt);
  met = (no_part, refl);
}

false-condition : ¬ InterpretsWhere Ne
false-condition i =
    let type = some-same (latch_type unique One (with_five Ne ∷ [])) i.type i.is_type in
    let case : latch_case (with_five Ne ∷ []) ≡ i.case =
    one-there (latch_case (with_five Ne ∷ [])) i.number i.case
    (subst (λ t. slice_get t.cases i.number ≡ Some i.case) (sym type) i.is_case) in
    not-five i.values i.args_are.1.0
    (subst (λ c. AllByRecursion (CompHolds i.values) c.when) (sym case) i.conditions).0

pub interpretations : InterpretationConditions
interpretations = record {
  interpreted =
      down-at [] (pos 1) (pos 5) (omega arith) (get-alone (pos 5) (pos 0) (pos 5));
  no_such_type = λ i. none-some i.is_type;
  too_many_arguments = many-arguments;
  another_argument = no-argument;
  another_state = not-up [];
  no_such_state = no-state;
  where_the_condition_holds = latch-interpreted;
  false_condition = false-condition;
}

-- ---- actions

acts : ActsWhere Eq 0 (pos 5) (pos 0) (guard_with one) (pos 5)
acts = record {
  type = latch_type unique One (with_five Eq ∷ []);
  is_type = refl;
  number = 0;
  action = latch_action One (with_five Eq ∷ []);
  is_action = refl;
  values = flag_values;
  args_are = (refl, (refl, tt));
  source_is = value-number flag_values.whole (pos 0);
  target_is = value-variable flag_values.whole 1;
  conditions = (five-is-five, tt);
  rest = None;
  guarded = (
    None,
    record { element = one; is_asked = refl; of_atom = tt; rest_guard = tt; joined = refl },
    refl,
  );
}

-- the only action
its-action :
    (op : Op) (arg state : ℤ) (held : Option Guard) (new : ℤ)
    (x : ActsWhere op 0 arg state held new) → latch_action One (with_five op ∷ []) ≡ x.action
its-action op arg state held new x =
    one-there (latch_action One (with_five op ∷ [])) x.number x.action
    (subst (λ t. slice_get t.actions x.number ≡ Some x.action)
    (sym (some-same (latch_type unique One (with_five op ∷ [])) x.type x.is_type)) x.is_action)

-- it leads from 0 to the argument
to-argument :
    (op : Op) (arg state : ℤ) (held : Option Guard) (new : ℤ) →
    ActsWhere op 0 arg state held new → arg ≡ new
to-argument op arg state held new x =
    sym x.args_are.1.0
    ∙ (sym (value-variable x.values.whole 1)
    ∙ (ap (λ a. value x.values.whole a.target) (its-action op arg state held new x)
    ∙ x.target_is))

from-zero :
    (op : Op) (arg state : ℤ) (held : Option Guard) (new : ℤ) →
    ActsWhere op 0 arg state held new → pos 0 ≡ state
from-zero op arg state held new x =
    sym (value-number x.values.whole (pos 0))
    ∙ (ap (λ a. value x.values.whole a.source) (its-action op arg state held new x)
    ∙ x.source_is)

where-false : ¬ ActsWhere Ne 0 (pos 5) (pos 0) (guard_with one) (pos 5)
where-false x =
    not-five x.values x.args_are.1.0
    (subst (λ a. AllByRecursion (CompHolds x.values) a.when)
    (sym (its-action Ne (pos 5) (pos 0) (guard_with one) (pos 5) x)) x.conditions).0

without : ¬ ActsWhere Eq 0 (pos 5) (pos 0) None (pos 5)
without x = joined-none g.0 joined
  where
    P : PlainProgram
    P = latch_program unique One (with_five Eq ∷ [])

    g : TakesGuards P x.values 0 ((0, One) ∷ []) None x.rest
    g = subst (λ a. TakesGuards P x.values 0 a.guards None x.rest)
        (sym (its-action Eq (pos 5) (pos 0) None (pos 5) x)) x.guarded

    joined : join (Some the_guard) g.0 ≡ Some None
    joined = ap (λ e. join (atom_guard P 0 0 e) g.0) (sym g.1.is_asked) ∙ g.1.joined

-- ---- shares

amount-one : amount flag_values.fraction (number (pos 1)) *ℤ pos 1 ≡ pos 1 *ℤ denominator flag_values.fraction
unfolding amount parts_value
amount-one = refl

by-all : ActsByShare (pos 1)
by-all = record {
  type = latch_type divisible (Share (Is (number (pos 1)))) [];
  is_type = refl;
  number = 0;
  action = latch_action (Share (Is (number (pos 1)))) [];
  is_action = refl;
  values = flag_values;
  args_are = (refl, (refl, tt));
  source_is = value-number flag_values.whole (pos 0);
  target_is = value-variable flag_values.whole 1;
  conditions = tt;
  rest = None;
  guarded = (
    None,
    record {
      element = share (fraction 1 1);
      is_asked = (fraction 1 1, whole-share, amount-one, refl);
      of_atom = whole-share;
      rest_guard = tt;
      joined = refl;
    },
    refl,
  );
}

amount-nothing : (q : RationalValuation) → amount q (number (pos 0)) ≡ pos 0
unfolding amount parts_value
amount-nothing q = omega (arith, ints)

-- a share is above 0
no-share :
    (q : RationalValuation) (f : Fraction) → 0 < f.num →
    amount q (number (pos 0)) *ℤ pos f.den ≡ pos f.num *ℤ denominator q → ⊥
no-share q f l e =
    positive f.num q.under l (ap (λ z. z *ℤ pos f.den) (sym (amount-nothing q)) ∙ e)
  where
    positive : (m u : ℕ) → 0 < m → pos 0 *ℤ pos f.den ≡ pos m *ℤ pos (u + 1) → ⊥
    positive zero u l e = omega (arith, l)
    positive (suc m) u l e = omega (arith, ints, e)

by-nothing : ¬ ActsByShare (pos 0)
by-nothing x = no-share x.values.fraction g.1.is_asked.0 g.1.is_asked.1.positive g.1.is_asked.2
  where
    P : PlainProgram
    P = latch_program divisible (Share (Is (number (pos 0)))) []

    action : latch_action (Share (Is (number (pos 0)))) [] ≡ x.action
    action =
        one-there (latch_action (Share (Is (number (pos 0)))) []) x.number x.action
        (subst (λ t. slice_get t.actions x.number ≡ Some x.action)
        (sym (some-same (latch_type divisible (Share (Is (number (pos 0)))) []) x.type x.is_type))
        x.is_action)

    g : TakesGuards P x.values 0 ((0, Share (Is (number (pos 0)))) ∷ []) (guard_with (share (fraction 1 1))) x.rest
    g = subst
        (λ a. TakesGuards P x.values 0 a.guards (guard_with (share (fraction 1 1))) x.rest)
        (sym action) x.guarded

-- ---- indices

by-index : ActsByIndex (one_index 3)
by-index = record {
  type = latch_type indexed (At (Is (number (pos 3)))) [];
  is_type = refl;
  number = 0;
  action = latch_action (At (Is (number (pos 3)))) [];
  is_action = refl;
  values = flag_values;
  args_are = (refl, (refl, tt));
  source_is = value-number flag_values.whole (pos 0);
  target_is = value-variable flag_values.whole 1;
  conditions = tt;
  rest = None;
  guarded = (
    None,
    record {
      element = indices (one_index 3);
      is_asked = (3, value-number flag_values.whole (pos 3), refl);
      of_atom = one-bounded 3;
      rest_guard = tt;
      joined = refl;
    },
    refl,
  );
}

by-another : ¬ ActsByIndex (one_index 4)
by-another x =
    false-true
    (taken-within (At (Is (number (pos 3)))) x.values (At (Is (number (pos 3)))) (one_index 3)
    (one_index 4) g.0 g.1 (asked-index x.values 3 g.1.element g.1.is_asked) (one-bounded 3))
  where
    action : latch_action (At (Is (number (pos 3)))) [] ≡ x.action
    action =
        one-there (latch_action (At (Is (number (pos 3)))) []) x.number x.action
        (subst (λ t. slice_get t.actions x.number ≡ Some x.action)
        (sym (some-same (latch_type indexed (At (Is (number (pos 3)))) []) x.type x.is_type))
        x.is_action)

    g : TakesGuards (latch_program indexed (At (Is (number (pos 3)))) []) x.values 0
        ((0, At (Is (number (pos 3)))) ∷ []) (guard_with (indices (one_index 4))) x.rest
    g = subst
        (λ a. TakesGuards (latch_program indexed (At (Is (number (pos 3)))) []) x.values 0 a.guards
        (guard_with (indices (one_index 4))) x.rest)
        (sym action) x.guarded

pub actions : ActionConditions
actions = record {
  acts = acts;
  no_such_type = λ x. none-some x.is_type;
  another_argument = λ x.
      apart 6 5 (λ e. omega (arith, e))
      (to-argument Eq (pos 6) (pos 0) (guard_with one) (pos 5) x);
  another_source = λ x.
      apart 0 1 (λ e. omega (arith, e))
      (from-zero Eq (pos 5) (pos 1) (guard_with one) (pos 5) x);
  another_target = λ x.
      apart 5 6 (λ e. omega (arith, e))
      (to-argument Eq (pos 5) (pos 0) (guard_with one) (pos 6) x);
  false_condition = where-false;
  without_its_guard = without;
  by_the_whole_share = by-all;
  by_a_share_of_nothing = by-nothing;
  by_its_index = by-index;
  by_another_index = by-another;
}

-- ---- regions that remain

remains : Remains [] (down (pos 1) 0 (pos 5) (flag_part (pos 0)))
remains = record {
  number = refl;
  kind = refl;
  args = refl;
  moves = inl refl;
  keeps = λ n. refl;
}

opened-one : Remains (pos 1 ∷ []) (down (pos 1) 0 (pos 5) no_part)
opened-one = record {
  number = refl;
  kind = refl;
  args = refl;
  moves = inl refl;
  keeps = λ n. absurd (n refl);
}

no-kind : ¬ Remains [] (down (pos 1) 1 (pos 5) (flag_part (pos 0)))
no-kind r = let e : 1 ≡ 0 = r.kind in omega (arith, e)

no-part-kept : ¬ Remains [] (down (pos 1) 0 (pos 5) no_part)
no-part-kept r =
    none-some
    (sym (get-nothing (pos 5))
    ∙ (ap (λ q. get q.cells (pos 5)) (r.keeps (λ t. false-true t))
    ∙ get-alone (pos 5) (pos 0) (pos 5)))

pub regions : RegionConditions
regions = record {
  remains = remains;
  another_number = λ r. apart 2 1 (λ e. omega (arith, e)) r.number;
  another_type = no-kind;
  another_argument = λ r.
      apart 9 5 (λ e. omega (arith, e)) (ap (λ xs. get_or xs 0 (pos 0)) r.args);
  opened_with_another_part = opened-one;
  another_part = no-part-kept;
}
