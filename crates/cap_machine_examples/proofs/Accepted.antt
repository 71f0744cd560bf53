-- The example's valid accounts, and the step by which the flag is raised.
use Rattle.std.proofs.Common.{◌≡◌, ◌⊎◌, inl, inr, ℤ, pos, ◌<ℤ◌, cond, List, [], ◌∷◌, Option, Some, None, refl, sym, ap, subst, ◌∙◌, arith}
use Rattle.std.specs.Ordering.{int_cmp, is_eq}
use Rattle.std.specs.declared.cmp.Ordering.{Ordering}
use Rattle.std.specs.declared.cmp.Ordering.TheVariants.{Less, Equal, Greater}
use Rattle.std.specs.FinMap.{get, insert, empty, int_cmp-IsAntisymmetric}
use Rattle.cap_lin.specs.Linear.{variable, number}
use Rattle.cap_prog.specs.declared.assertion.Slot.TheVariants.{Is}
use Rattle.cap_lin.specs.Values.{value, parts_value}
use Rattle.cap_galg.specs.Elements.{one}
use Rattle.cap_machine.specs.declared.event.Event.{Event}
use Rattle.cap_machine.specs.declared.event.Event.TheVariants.{Write, Faa}
use Rattle.cap_machine_accounts.specs.Parts.{Guard, join_all, IsGuard, GuardAtMost, Part, no_part, guard_at, HasCell, guards_at, Region, region_at}
use Rattle.cap_machine_accounts.specs.Assertions.{IsOwned, IsInterpreted, Acts}
use Rattle.cap_machine_accounts.specs.Accounts.{GuardsFit, IsValidAccount}
use Rattle.cap_machine_accounts.specs.Following.{FramesFollow, accesses, SomeHasCell, IsBound, Follows}
use Rattle.cap_machine_examples.specs.Example.{flag_case, raise, flag_type, flag_program, main_function, cell_at_5, configuration_with, flag_part, the_guard, with_the_guard, flag_in, account_with, flag_down, flag_up, flag_values}
use Rattle.cap_machine_examples.specs.Expected.{AcceptedStep}
use Rattle.cap_machine_examples.proofs.Example.{none-some, some-same, get-nothing, get-alone, value-zero, value-one, guard-there}

pub some-none : {A : Type 0} {x : A} → Some x ≡ None → ⊥
some-none e = cc

-- a map of one key has its value there alone
pub alone-key : {X : Type 0} (k : ℤ) (x : X) (q : ℤ) (y : X) → get (insert (empty {R = int_cmp}) k x) q ≡ Some y → (q ≡ k) × (x ≡ y)
alone-key k x q y e =
    let t = tied (int_cmp q k) x y (sym (get-alone k x q) ∙ e) in
    (int_cmp-IsAntisymmetric q k t.0, t.1)
  where
    tied : {X : Type 0} (r : Ordering) (x y : X) → cond (is_eq r) (Some x) None ≡ Some y → (r ≡ Equal) × (x ≡ y)
    tied Less x y e = absurd (none-some e)
    tied Equal x y e = (refl, some-same x y e)
    tied Greater x y e = absurd (none-some e)

cell-in : (z : ℤ) → get (cell_at_5 z) (pos 5) ≡ Some z
cell-in z = get-alone (pos 5) z (pos 5)

pub no-cell : (a : ℤ) (q : Part) → q.cells ≡ empty → HasCell q a → ⊥
no-cell a q e h = none-some (sym (ap (λ m. get m a) e ∙ get-nothing a) ∙ h.1)

pub no-guards-fit : (table : List Region) (q : Part) → q.guards ≡ empty → GuardsFit flag_program table q
no-guards-fit table q e n g x = absurd (none-some (sym (ap (λ m. get m n) e ∙ get-nothing n) ∙ x))

pub the-guard-fits : (z : ℤ) → GuardsFit flag_program (flag_in z ∷ []) with_the_guard
the-guard-fits z n g x =
    let k = alone-key (pos 1) the_guard n g x in
    ((flag_in z, ap (region_at (flag_in z ∷ [])) k.0, ap (λ h. h.kind) k.1), subst (λ h. IsGuard flag_program (Some h)) k.1 (tt, refl))

pub three-join : (a g b : Option Guard) → a ≡ None → b ≡ None → join_all (a ∷ g ∷ b ∷ []) ≡ Some g
three-join a None b x y = rw (x, y) refl
three-join a (Some g) b x y = rw (x, y) refl

pub two-join : (g b : Option Guard) → b ≡ None → join_all (g ∷ b ∷ []) ≡ Some g
two-join None b y = rw y refl
two-join (Some g) b y = rw y refl

at-five : value flag_values.whole (variable 1) ≡ pos 5
unfolding value parts_value
at-five = refl

pub owned : (z : ℤ) → value flag_values.whole (number z) ≡ z → IsOwned flag_values (variable 1) (Is (number z)) (flag_part z)
owned z e = record {
  number = z;
  positive = subst (λ x. pos 0 <ℤ x) (sym at-five) (omega arith);
  is_cell = ap (get (cell_at_5 z)) at-five ∙ cell-in z;
  content_is = e;
}

pub down-interpreted : IsInterpreted flag_program (flag_in (pos 0) ∷ []) (flag_in (pos 0)) (flag_part (pos 0))
down-interpreted = record {
  type = flag_type;
  is_type = refl;
  arity = refl;
  number = 0;
  case = flag_case (pos 0);
  is_case = refl;
  values = flag_values;
  args_are = (refl, (refl, tt));
  state_is = value-zero flag_values.whole;
  conditions = tt;
  met = (_, (_, (owned (pos 0) (value-zero flag_values.whole), refl), refl));
}

up-interpreted : IsInterpreted flag_program (flag_in (pos 1) ∷ []) (flag_in (pos 1)) (flag_part (pos 1))
up-interpreted = record {
  type = flag_type;
  is_type = refl;
  arity = refl;
  number = 1;
  case = flag_case (pos 1);
  is_case = refl;
  values = flag_values;
  args_are = (refl, (refl, tt));
  state_is = value-one flag_values.whole;
  conditions = tt;
  met = (_, (_, (owned (pos 1) (value-one flag_values.whole), refl), refl));
}

valid : (z : ℤ) → IsInterpreted flag_program (flag_in z ∷ []) (flag_in z) (flag_part z) → IsValidAccount flag_program (configuration_with z) (account_with z (flag_part z) with_the_guard no_part)
valid z i = record {
  frames = (((main_function, refl, tt), tt), (((main_function, refl, tt), tt), tt));
  numbers = (tt, tt);
  guards_fit = (no-guards-fit (flag_in z ∷ []) (flag_part z) refl, (the-guard-fits z, (no-guards-fit (flag_in z ∷ []) no_part refl, tt)));
  cells_apart = (((λ a h k. no-cell a with_the_guard refl k), ((λ a h k. no-cell a no_part refl k), tt)), (((λ a h k. no-cell a no_part refl k), tt), (tt, tt)));
  cells_within = ((λ a y e. e), ((λ a y e. absurd (no-cell a with_the_guard refl (y, e))), ((λ a y e. absurd (no-cell a no_part refl (y, e))), tt)));
  guards_compose = λ n. (guard_at with_the_guard n, three-join _ (guard_at with_the_guard n) _ (get-nothing n) (get-nothing n));
  interpreted = (i, tt);
}

raised : Acts flag_program (flag_in (pos 0)) (guard_at with_the_guard (pos 1)) (pos 1)
raised = record {
  type = flag_type;
  is_type = refl;
  number = 0;
  action = raise;
  is_action = refl;
  values = flag_values;
  args_are = (refl, (refl, tt));
  source_is = value-zero flag_values.whole;
  target_is = value-one flag_values.whole;
  conditions = tt;
  rest = None;
  guarded = (None, record { element = one; is_asked = refl; of_atom = tt; rest_guard = tt; joined = sym (ap Some guard-there) }, refl);
}

pub at-most-same : (g : Option Guard) → GuardAtMost flag_program g g
at-most-same None = (None, tt, refl)
at-most-same (Some g) = (None, tt, refl)

-- by any access to the cell at which the frame stays
follows :
    (event : Event) → accesses event ≡ Some (pos 5) →
    FramesFollow event
    (record { thread = 0; top = record { part = with_the_guard; fixed = [] }; below = []; threads = flag_down.threads })
    flag_up.threads no_part (with_the_guard ∷ []) →
    Follows flag_program (cell_at_5 (pos 0)) 0 event flag_down flag_up no_part
follows event at frames = record {
  top = record { part = with_the_guard; fixed = [] };
  below = [];
  is_stepping = refl;
  opened = pos 1 ∷ [];
  at_most_two = omega arith;
  only_at_access = λ e. absurd (some-none (sym at ∙ e));
  kept = record { region = flag_in (pos 1); part = flag_part (pos 1) } ∷ [];
  made = [];
  regions = refl;
  old_regions = (record { number = refl; kind = refl; args = refl; moves = inr (refl, raised); keeps = λ n. absurd (n refl) }, tt);
  left = with_the_guard ∷ [];
  frames = frames;
  handed_fits = no-guards-fit (flag_in (pos 1) ∷ []) no_part refl;
  handed_within = λ a z e. absurd (none-some (sym (get-nothing a) ∙ e));
  left_apart = (((λ a h k. no-cell a with_the_guard refl h), tt), (tt, tt));
  left_compose = λ n. (guard_at with_the_guard n, both (pos 1) n);
  access = λ x e. inr (inl (pos 0, ap (get (cell_at_5 (pos 0))) (sym (some-same (pos 5) x (sym at ∙ e))) ∙ cell-in (pos 0)));
  exchanges = record { cells = cells; guards = guards };
}
  where
    moved : (a : ℤ) → HasCell (flag_part (pos 1)) a → HasCell (flag_part (pos 0)) a
    moved a h = (pos 0, ap (get (cell_at_5 (pos 0))) (alone-key (pos 5) (pos 1) a h.0 h.1).0 ∙ cell-in (pos 0))

    cells : (a : ℤ) → SomeHasCell (with_the_guard ∷ flag_part (pos 1) ∷ []) a → SomeHasCell (with_the_guard ∷ flag_part (pos 0) ∷ []) a ⊎ (get (cell_at_5 (pos 0)) a ≡ None)
    cells a (inl h) = absurd (no-cell a with_the_guard refl h)
    cells a (inr (inl h)) = inl (inr (inl (moved a h)))
    cells a (inr (inr x)) = absurd x

    both : (z n : ℤ) → guards_at (with_the_guard ∷ flag_part z ∷ []) n ≡ Some (guard_at with_the_guard n)
    both z n = two-join (guard_at with_the_guard n) _ (get-nothing n)

    guards : (n : ℤ) (g h : Option Guard) → guards_at (with_the_guard ∷ flag_part (pos 1) ∷ []) n ≡ Some g → IsBound flag_program (flag_in (pos 0) ∷ []) [] (with_the_guard ∷ flag_part (pos 0) ∷ []) n h → GuardAtMost flag_program g h
    guards n g h e (inl r) =
        let same : g ≡ h = some-same g h (sym e ∙ (both (pos 1) n ∙ (sym (both (pos 0) n) ∙ r.2))) in
        subst (GuardAtMost flag_program g) same (at-most-same g)
    guards n g h e (inr r) = absurd (none-some r.1)

pub accepted : AcceptedStep
accepted = record {
  first = valid (pos 0) down-interpreted;
  second = valid (pos 1) up-interpreted;
  follows = follows (Write (pos 5) (pos 1)) refl (record { part = with_the_guard; fixed = [] }, refl, refl, refl);
  follows_by_a_sum = follows (Faa (pos 5) (pos 0)) refl (record { part = with_the_guard; fixed = [] }, refl, refl, refl);
}
