-- What an assertion takes out of a part, and what it doesn't.
use Rattle.std.proofs.Common.{◌≡◌, ℕ, ℤ, pos, ◌<ℤ◌, [], ◌∷◌, Option, Some, None, refl, sym, ap, subst, ◌∙◌, arith}
use Rattle.std.specs.Prelude.{negsuc}
use Rattle.std.specs.FinMap.{get}
use Rattle.std.proofs.lemmas.Int.{ints}
use Rattle.cap_lin.specs.Linear.{number}
use Rattle.cap_galg_indices.specs.Sets.{all_indices, one_index, indices_from, disjoint_union, with_bound}
use Rattle.cap_galg.specs.Elements.{one, src, indices}
use Rattle.cap_galg.specs.Algebras.{unique, counting, indexed, IsElement}
use Rattle.cap_prog.specs.declared.assertion.Slot.TheVariants.{Any, Is}
use Rattle.cap_prog.specs.declared.assertion.Asked.TheVariants.{One, Src, At}
use Rattle.cap_machine_accounts.specs.Parts.{Guard, join, atom_guard}
use Rattle.cap_machine_accounts.specs.Assertions.{SlotsAre}
use Rattle.cap_machine_examples.specs.Example.{flag_in, flag_values}
use Rattle.cap_machine_examples.specs.Validity.{cell_at}
use Rattle.cap_machine_examples.specs.Latch.{latch_program}
use Rattle.cap_machine_examples.specs.Holding.{Owns, States, Leaves, guard_with, LeavesOf, at_number, from_number, HoldingConditions}
use Rattle.cap_machine_examples.proofs.Example.{none-some, some-same, get-alone, false-true}
use Rattle.cap_machine_examples.proofs.Accepted.{some-none}
use Rattle.cap_machine_examples.proofs.Values.{value-number, apart, its-value, owns, owned-is}
use Rattle.cap_machine_examples.proofs.Indices.{asked-index, asked-first, one-bounded, first-bounded, taken-within}

-- ---- cells

owned-five : Owns (pos 5) (pos 0) (pos 5) (pos 0)
owned-five =
    owns flag_values (cell_at (pos 5) (pos 0)) (number (pos 5)) (number (pos 0)) (pos 5) (pos 0)
    (value-number flag_values.whole (pos 5)) (value-number flag_values.whole (pos 0)) (omega arith)
    (get-alone (pos 5) (pos 0) (pos 5))

there : (a z at held : ℤ) → Owns a z at held → get (cell_at a z).cells at ≡ Some held
there a z at held o =
    owned-is flag_values (cell_at a z) (number at) (number held) at held
    (value-number flag_values.whole at) (value-number flag_values.whole held) o

not-positive : ¬ Owns (pos 0) (pos 0) (pos 0) (pos 0)
not-positive o =
    let l : pos 0 <ℤ pos 0 =
    subst (λ x. pos 0 <ℤ x) (value-number flag_values.whole (pos 0)) o.positive in
    omega (arith, ints, l)

-- ---- regions

stated : States (flag_in (pos 0) ∷ []) 0 (pos 5) (pos 0)
stated = record {
  region = flag_in (pos 0);
  is_region = refl;
  of_kind = refl;
  args_are = (value-number flag_values.whole (pos 5), tt);
  state_is = value-number flag_values.whole (pos 0);
}

no-kind : ¬ States (flag_in (pos 0) ∷ []) 1 (pos 5) (pos 0)
no-kind s =
    let e : 0 ≡ 1 =
    ap (λ r. r.kind) (some-same (flag_in (pos 0)) s.region s.is_region) ∙ s.of_kind in
    omega (arith, e)

no-argument : ¬ States (flag_in (pos 0) ∷ []) 0 (pos 9) (pos 0)
no-argument s =
    let a : SlotsAre flag_values (Is (number (pos 9)) ∷ []) (pos 5 ∷ []) =
    subst (λ r. SlotsAre flag_values (Is (number (pos 9)) ∷ []) r.args)
    (sym (some-same (flag_in (pos 0)) s.region s.is_region)) s.args_are in
    apart 9 5 (λ e. omega (arith, e)) (sym (value-number flag_values.whole (pos 9)) ∙ a.0)

no-state : ¬ States (flag_in (pos 0) ∷ []) 0 (pos 5) (pos 1)
no-state s =
    apart 1 0 (λ e. omega (arith, e))
    (sym (value-number flag_values.whole (pos 1))
    ∙ (s.state_is ∙ ap (λ r. r.state) (sym (some-same (flag_in (pos 0)) s.region s.is_region))))

-- ---- guards

taken : Leaves unique One (guard_with one) None
taken = record { element = one; is_asked = refl; of_atom = tt; rest_guard = tt; joined = refl }

nothing-to-take : ¬ Leaves unique One None None
nothing-to-take t =
    some-none
    (some-same _ _
    (ap (λ x. join (atom_guard (latch_program unique One []) 0 0 x) None) (sym t.is_asked)
    ∙ t.joined))

left-over : ¬ Leaves unique One (guard_with one) (guard_with one)
left-over t =
    none-some
    (ap (λ x. join (atom_guard (latch_program unique One []) 0 0 x) (guard_with one))
    (sym t.is_asked)
    ∙ t.joined)

source-taken : Leaves counting (Src Any) (guard_with (src 0)) None
source-taken = record {
  element = src 0;
  is_asked = (0, tt, refl);
  of_atom = tt;
  rest_guard = tt;
  joined = refl;
}

-- ---- indices

first-taken : LeavesOf (at_number (pos 0)) all_indices (guard_with (indices (indices_from 1)))
unfolding disjoint_union with_bound
first-taken = record {
  element = indices (one_index 0);
  is_asked = (0, value-number flag_values.whole (pos 0), refl);
  of_atom = one-bounded 0;
  rest_guard = (first-bounded 1, refl);
  joined = refl;
}

inner-taken : LeavesOf (at_number (pos 2)) all_indices (guard_with (indices (0 ∷ 2 ∷ 3 ∷ [])))
unfolding disjoint_union with_bound
inner-taken = record {
  element = indices (one_index 2);
  is_asked = (2, value-number flag_values.whole (pos 2), refl);
  of_atom = one-bounded 2;
  rest_guard = (((omega arith, (omega arith, (omega arith, tt))), refl), refl);
  joined = refl;
}

only-taken : LeavesOf (at_number (pos 3)) (one_index 3) None
only-taken = record {
  element = indices (one_index 3);
  is_asked = (3, value-number flag_values.whole (pos 3), refl);
  of_atom = one-bounded 3;
  rest_guard = tt;
  joined = refl;
}

some-taken : LeavesOf (At Any) all_indices (guard_with (indices (indices_from 1)))
unfolding disjoint_union with_bound
some-taken = record {
  element = indices (one_index 0);
  is_asked = (0, tt, refl);
  of_atom = one-bounded 0;
  rest_guard = (first-bounded 1, refl);
  joined = refl;
}

onwards-taken : LeavesOf (from_number (pos 1)) all_indices (guard_with (indices (one_index 0)))
unfolding disjoint_union with_bound
onwards-taken = record {
  element = indices (indices_from 1);
  is_asked = (1, value-number flag_values.whole (pos 1), refl);
  of_atom = first-bounded 1;
  rest_guard = (one-bounded 0, refl);
  joined = refl;
}

not-held : (rest : Option Guard) → ¬ LeavesOf (at_number (pos 4)) (one_index 3) rest
not-held rest t =
    false-true
    (taken-within (at_number (pos 4)) flag_values (at_number (pos 4)) (one_index 4) (one_index 3)
    rest t (asked-index flag_values 4 t.element t.is_asked) (one-bounded 4))

below-nothing : (rest : Option Guard) → ¬ LeavesOf (at_number (negsuc 0)) all_indices rest
below-nothing rest t =
    no-index t.is_asked.0 (sym (value-number flag_values.whole (negsuc 0)) ∙ t.is_asked.1)
  where
    no-index : (i : ℕ) → negsuc 0 ≡ pos i → ⊥
    no-index i e = cc

index-kept : ¬ LeavesOf (at_number (pos 0)) all_indices (guard_with (indices all_indices))
index-kept t =
    none-some
    (ap
    (λ x. join (atom_guard (latch_program indexed (at_number (pos 0)) []) 0 0 x)
    (guard_with (indices all_indices)))
    (sym (asked-index flag_values 0 t.element t.is_asked))
    ∙ t.joined)

onwards-not-held : (rest : Option Guard) → ¬ LeavesOf (from_number (pos 0)) (indices_from 1) rest
onwards-not-held rest t =
    false-true
    (taken-within (from_number (pos 0)) flag_values (from_number (pos 0)) (indices_from 0)
    (indices_from 1) rest t (asked-first flag_values 0 t.element t.is_asked) (first-bounded 0))

pub holding : HoldingConditions
holding = record {
  owned = owned-five;
  at_no_positive_address = not-positive;
  no_such_cell = λ o.
      none-some
      (sym (get-alone (pos 9) (pos 0) (pos 5)) ∙ there (pos 9) (pos 0) (pos 5) (pos 0) o);
  another_content = λ o.
      apart 0 1 (λ e. omega (arith, e))
      (its-value (pos 5) (pos 0) (pos 1) (get-alone (pos 5) (pos 0) (pos 5))
      (there (pos 5) (pos 0) (pos 5) (pos 1) o));
  stated = stated;
  no_such_region = λ s. none-some s.is_region;
  another_type = no-kind;
  another_argument = no-argument;
  another_state = no-state;
  taken = taken;
  nothing_to_take = nothing-to-take;
  left_over = left-over;
  no_proper_rest = λ t. false-true (sym t.rest_guard.1);
  source_taken = source-taken;
  another_algebra = λ t. subst (IsElement unique) t.is_asked.2 t.of_atom;
  index_taken = first-taken;
  inner_index_taken = inner-taken;
  only_index_taken = only-taken;
  some_index_taken = some-taken;
  all_from_an_index_taken = onwards-taken;
  index_that_is_not_held = not-held;
  index_below_0 = below-nothing;
  index_kept = index-kept;
  all_from_an_index_that_is_not_held = onwards-not-held;
  indices_of_another_algebra = λ t. subst (IsElement counting) t.is_asked.2 t.of_atom;
}
