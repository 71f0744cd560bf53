-- The example's accounts.
use Rattle.std.proofs.Common.{◌≡◌, ◌⊎◌, inl, inr, ℕ, zero, suc, ◌≤◌, ℤ, pos, Bool, true, false, cond, List, [], ◌∷◌, ◌++◌, length, Option, Some, None, refl, sym, ap, subst, ◌∙◌, rules, arith}
use Rattle.std.specs.Prelude.{slice_get, IsTrue, get_or, unwrap_or, ◌==◌, if◌then◌else◌, nat_abs, slice_set, map}
use Rattle.std.specs.Ordering.{int_cmp, eq_by_cmp}
use Rattle.std.specs.Cmp.{int_cmp_total}
use Rattle.std.specs.FinMap.{get, insert, empty, get-insert, gets}
use Rattle.cap_lin.specs.Values.{value, parts_value}
use Rattle.cap_galg.specs.Elements.{Element, nothing, one, share, tok, src, indices, both, whole, left, right, compose}
use Rattle.cap_prog.specs.Program.{PlainCase, PlainAction, PlainProgram}
use Rattle.cap_lin.specs.Linear.{number}
use Rattle.cap_machine.specs.declared.event.Event.TheVariants.{Set, Write}
use Rattle.cap_machine_accounts.specs.Parts.{Guard, join, join_with, or_none, atom_guard, GuardAtMost, Part, no_part, guard_at, HasCell, guards_at}
use Rattle.cap_machine_accounts.specs.Assertions.{TakesGuards, Acts, IsInterpreted}
use Rattle.cap_machine_accounts.specs.Accounts.{Held, OwnedRegion}
use Rattle.cap_machine_accounts.specs.Following.{is_opened, opened_parts, SomeHasCell, FollowsRegion, FollowRegions}
use Rattle.cap_machine_examples.specs.Example.{flag_case, raise, flag_type, flag_program, cell_at_5, configuration_with, flag_part, the_guard, with_the_guard, flag_in, flag_down, flag_up, has, cell_twice, flag_lost, guard_twice}
use Rattle.cap_machine_examples.specs.Expected.{IsRefused, FollowsNot, BrokenAccounts, BrokenSteps, flag_down_for_second, flag_up_by_second, two_cells, with_stray_cell, nothing_held, guard_invented, ThirdRegion, NothingHandedOver}

-- ---- maps

pub none-some : {A : Type 0} {x : A} → None ≡ Some x → ⊥
none-some e = cc

pub get-nothing : {X : Type 0} (q : ℤ) → get (empty {X = X} {R = int_cmp}) q ≡ None
get-nothing q = search (rules, gets)

pub get-alone : {X : Type 0} (k : ℤ) (x : X) (q : ℤ) → get (insert (empty {R = int_cmp}) k x) q ≡ cond (eq_by_cmp int_cmp q k) (Some x) None
get-alone k x q = get-insert int_cmp_total empty k x q ∙ ap (cond (eq_by_cmp int_cmp q k) (Some x)) (get-nothing q)

pub false-true : false ≡ true → ⊥
false-true e = cc

-- ---- broken accounts

cell-there : (z : ℤ) → HasCell (flag_part z) (pos 5)
cell-there z = (z, get-alone (pos 5) z (pos 5))

refuses-twice : IsRefused (configuration_with (pos 0)) cell_twice
refuses-twice a = a.cells_apart.0.0 (pos 5) (cell-there (pos 0)) (cell-there (pos 0))

state-of : (n : ℕ) (c : PlainCase) → slice_get (flag_case (pos 0) ∷ flag_case (pos 1) ∷ []) n ≡ Some c → (c.state ≡ (flag_case (pos 0)).state) ⊎ (c.state ≡ (flag_case (pos 1)).state)
state-of zero c e = inl (ap (λ o. (get_or (option_list o) 0 c).state) (sym e))
  where
    option_list : Option PlainCase → List PlainCase
    option_list None = []
    option_list (Some x) = x ∷ []
state-of (suc zero) c e = inr (ap (λ o. (get_or (option_list o) 0 c).state) (sym e))
  where
    option_list : Option PlainCase → List PlainCase
    option_list None = []
    option_list (Some x) = x ∷ []
state-of (suc (suc n)) c e = absurd (none-some e)

pub some-same : {A : Type 0} (x y : A) → Some x ≡ Some y → x ≡ y
some-same x y e = ap (λ o. unwrap_or o x) e

pub value-zero : (w : ℕ → ℤ) → value w (number (pos 0)) ≡ pos 0
unfolding value parts_value
value-zero w = refl

pub value-one : (w : ℕ → ℤ) → value w (number (pos 1)) ≡ pos 1
unfolding value parts_value
value-one w = refl

zero-not-two : pos 0 ≡ pos 2 → ⊥
zero-not-two e = let h : 0 ≡ 2 = ap nat_abs e in omega (arith, h)

pub one-not-two : pos 1 ≡ pos 2 → ⊥
one-not-two e = let h : 1 ≡ 2 = ap nat_abs e in omega (arith, h)

pub zero-not-one : pos 0 ≡ pos 1 → ⊥
zero-not-one e = let h : 0 ≡ 1 = ap nat_abs e in omega (arith, h)

refuses-lost : IsRefused (configuration_with (pos 2)) flag_lost
refuses-lost a = by_state (state-of i.number i.case (subst (λ t. slice_get t.cases i.number ≡ Some i.case) (sym type) i.is_case))
  where
    i : IsInterpreted flag_program (flag_in (pos 2) ∷ []) (flag_in (pos 2)) (flag_part (pos 2))
    i = a.interpreted.0

    type : flag_type ≡ i.type
    type = some-same flag_type i.type i.is_type

    by_state : (i.case.state ≡ (flag_case (pos 0)).state) ⊎ (i.case.state ≡ (flag_case (pos 1)).state) → ⊥
    by_state (inl e) = zero-not-two (sym (value-zero i.values.whole) ∙ (ap (value i.values.whole) (sym e) ∙ i.state_is))
    by_state (inr e) = one-not-two (sym (value-one i.values.whole) ∙ (ap (value i.values.whole) (sym e) ∙ i.state_is))

no-guard-there : (z q : ℤ) → guard_at (flag_part z) q ≡ None
no-guard-there z q = get-nothing q

pub guard-there : guard_at with_the_guard (pos 1) ≡ Some the_guard
guard-there = get-alone (pos 1) the_guard (pos 1)

twice-composes : guards_at (flag_part (pos 0) ∷ with_the_guard ∷ with_the_guard ∷ []) (pos 1) ≡ None
twice-composes = rw (no-guard-there (pos 0) (pos 1), guard-there) refl

refuses-guards : IsRefused (configuration_with (pos 0)) guard_twice
refuses-guards a = none-some (sym twice-composes ∙ (a.guards_compose (pos 1)).1)

-- ---- broken steps

-- of one old region one is kept
one-kept : (p : PlainProgram) (q : Part) (opened : List ℤ) (r b : OwnedRegion) (kept made : List OwnedRegion) → FollowRegions p q opened (r ∷ []) kept → b ∷ [] ≡ kept ++ made → FollowsRegion p q opened r b × (made ≡ [])
one-kept p q opened r b [] made x e = absurd x
one-kept p q opened r b (s ∷ t ∷ ts) made x e = absurd x.1
one-kept p q opened r b (s ∷ []) made x e = (subst (FollowsRegion p q opened r) (sym (ap (first_of b) e)) x.0, sym (ap rest_of e))
  where
    first_of : OwnedRegion → List OwnedRegion → OwnedRegion
    first_of c [] = c
    first_of c (x ∷ xs) = x

    rest_of : List OwnedRegion → List OwnedRegion
    rest_of [] = []
    rest_of (x ∷ xs) = xs

action-of : (n : ℕ) (a : PlainAction) → slice_get (raise ∷ []) n ≡ Some a → raise ≡ a
action-of zero a e = some-same raise a e
action-of (suc n) a e = absurd (none-some e)

-- the action that moves the flag
the-action : (z new : ℤ) (held : Option Guard) (x : Acts flag_program (flag_in z) held new) → raise ≡ x.action
the-action z new held x = action-of x.number x.action (subst (λ t. slice_get t.actions x.number ≡ Some x.action) (sym (some-same flag_type x.type x.is_type)) x.is_action)

never-lowered : (new : ℤ) (held : Option Guard) → Acts flag_program (flag_in (pos 1)) held new → ⊥
never-lowered new held x =
    zero-not-one (sym (value-zero x.values.whole) ∙ (ap (λ a. value x.values.whole a.source) (the-action (pos 1) new held x) ∙ x.source_is))

abbrev chosen : Bool → Element → Option (Option Guard)
chosen b x = if b then or_none 0 (compose one x) else None

chosen-none : (b : Bool) (x : Element) → chosen b x ≡ Some None → ⊥
chosen-none false x e = none-some e
chosen-none true nothing e = cc
chosen-none true one e = none-some e
chosen-none true (share f) e = none-some e
chosen-none true (tok k) e = none-some e
chosen-none true (src n) e = none-some e
chosen-none true (indices xs) e = none-some e
chosen-none true (both x y) e = none-some e
chosen-none true whole e = none-some e
chosen-none true (left x) e = none-some e
chosen-none true (right y) e = none-some e

-- with a guard there is a guard
pub joined-none : (rest : Option Guard) → join (Some the_guard) rest ≡ Some None → ⊥
joined-none None e = cc
joined-none (Some h) e = chosen-none (0 == h.kind) h.element e

never-raised : (new : ℤ) (held : Option Guard) → held ≡ None → Acts flag_program (flag_in (pos 0)) held new → ⊥
never-raised new held none x = joined-none g.0 joined
  where
    g : TakesGuards flag_program x.values 0 raise.guards held x.rest
    g = subst (λ a. TakesGuards flag_program x.values 0 a.guards held x.rest) (sym (the-action (pos 0) new held x)) x.guarded

    joined : join (Some the_guard) g.0 ≡ Some None
    joined = ap (λ e. join (atom_guard flag_program 0 0 e) g.0) (sym g.1.is_asked) ∙ (g.1.joined ∙ ap Some none)

lowered : FollowsNot (cell_at_5 (pos 1)) (Write (pos 5) (pos 0)) flag_up flag_down
lowered handed f = by_move r.0.moves
  where
    r : FollowsRegion flag_program f.top.part f.opened (record { region = flag_in (pos 1); part = flag_part (pos 1) }) (record { region = flag_in (pos 0); part = flag_part (pos 0) }) × (f.made ≡ [])
    r = one-kept flag_program f.top.part f.opened _ _ f.kept f.made f.old_regions f.regions

    by_move : (pos 0 ≡ pos 1) ⊎ (IsTrue (is_opened f.opened (record { region = flag_in (pos 1); part = flag_part (pos 1) })) × Acts flag_program (flag_in (pos 1)) (guard_at f.top.part (pos 1)) (pos 0)) → ⊥
    by_move (inl e) = zero-not-one e
    by_move (inr x) = never-lowered (pos 0) (guard_at f.top.part (pos 1)) x.1

-- the part of the stepping thread's frame
top-part : (hs : List Held) (more : List (List Held)) (h : Held) (below : List Held) (q : Part) → slice_get (has q ∷ more) 0 ≡ Some (h ∷ below) → h.part ≡ q
top-part hs more h below q e = ap (part_in q) (sym e)
  where
    part_in : Part → Option (List Held) → Part
    part_in q None = q
    part_in q (Some []) = q
    part_in q (Some (x ∷ xs)) = x.part

raised-without : FollowsNot (cell_at_5 (pos 0)) (Write (pos 5) (pos 1)) flag_down_for_second flag_up_by_second
raised-without handed f = by_move r.0.moves
  where
    r : FollowsRegion flag_program f.top.part f.opened (record { region = flag_in (pos 0); part = flag_part (pos 0) }) (record { region = flag_in (pos 1); part = flag_part (pos 1) }) × (f.made ≡ [])
    r = one-kept flag_program f.top.part f.opened _ _ f.kept f.made f.old_regions f.regions

    held : guard_at f.top.part (pos 1) ≡ None
    held = ap (λ q. guard_at q (pos 1)) (top-part [] (has with_the_guard ∷ []) f.top f.below no_part f.is_stepping) ∙ get-nothing (pos 1)

    by_move : (pos 1 ≡ pos 0) ⊎ (IsTrue (is_opened f.opened (record { region = flag_in (pos 0); part = flag_part (pos 0) })) × Acts flag_program (flag_in (pos 0)) (guard_at f.top.part (pos 1)) (pos 1)) → ⊥
    by_move (inl e) = zero-not-one (sym e)
    by_move (inr x) = never-raised (pos 1) (guard_at f.top.part (pos 1)) held x.1

raised-by-set : FollowsNot (cell_at_5 (pos 0)) (Set (pos 0)) flag_down flag_up
raised-by-set handed f = by_move r.0.moves
  where
    r : FollowsRegion flag_program f.top.part f.opened (record { region = flag_in (pos 0); part = flag_part (pos 0) }) (record { region = flag_in (pos 1); part = flag_part (pos 1) }) × (f.made ≡ [])
    r = one-kept flag_program f.top.part f.opened _ _ f.kept f.made f.old_regions f.regions

    by_move : (pos 1 ≡ pos 0) ⊎ (IsTrue (is_opened f.opened (record { region = flag_in (pos 0); part = flag_part (pos 0) })) × Acts flag_program (flag_in (pos 0)) (guard_at f.top.part (pos 1)) (pos 1)) → ⊥
    by_move (inl e) = zero-not-one (sym e)
    by_move (inr x) = false-true (subst (λ o. IsTrue (is_opened o (record { region = flag_in (pos 0); part = flag_part (pos 0) }))) (f.only_at_access refl) x.0)

pub no-third : ThirdRegion
no-third heap event a b handed x y z f e = three (subst (λ o. length o ≤ 2) e f.at_most_two)
  where
    three : 3 ≤ 2 → ⊥
    three h = omega arith

pub hands-nothing : NothingHandedOver
hands-nothing m = none-some (sym (get-nothing _) ∙ m.met.1.1.0.is_cell)

-- ---- nothing is invented

-- what the first thread's frame has after a local step
kept-part : (second : List Held) (q : Part) (kept : Held) (below : List Held) → has q ∷ second ∷ [] ≡ slice_set (has no_part ∷ second ∷ []) 0 (kept ∷ below) → q ≡ kept.part
kept-part second q kept below e = ap (part_in q) e
  where
    part_in : Part → List (List Held) → Part
    part_in q [] = q
    part_in q ([] ∷ hs) = q
    part_in q ((x ∷ xs) ∷ hs) = x.part

-- without opened regions, their parts are none
pub none-opened : (rs : List OwnedRegion) → opened_parts [] rs ≡ []
none-opened [] = refl
none-opened (r ∷ rs) = none-opened rs

-- the parts after a step that opens and makes no region are those into which the frame's part goes
after-parts : (opened : List ℤ) (kept made : List OwnedRegion) (q : Part) (ls : List Part) → opened ≡ [] → made ≡ [] → ls ≡ q ∷ [] → ls ++ (opened_parts opened kept ++ map (λ r. r.part) made) ≡ q ∷ []
after-parts opened kept made q ls o m l = rw (o, m, l, none-opened kept) refl

stray-cell : FollowsNot two_cells (Set (pos 0)) nothing_held with_stray_cell
stray-cell handed f = by_cell (f.exchanges.cells (pos 9) (subst (λ qs. SomeHasCell qs (pos 9)) (sym after) (inl (pos 0, get-alone (pos 9) (pos 0) (pos 9)))))
  where
    opened : f.opened ≡ []
    opened = f.only_at_access refl

    made : f.made ≡ []
    made = (one-kept flag_program f.top.part f.opened _ _ f.kept f.made f.old_regions f.regions).1

    stray : Part
    stray = record { cells = insert empty (pos 9) (pos 0); guards = empty }

    part : stray ≡ f.frames.0.part
    part = kept-part (has no_part) stray f.frames.0 f.below f.frames.1

    after : f.left ++ (opened_parts f.opened f.kept ++ map (λ r. r.part) f.made) ≡ stray ∷ []
    after = after-parts f.opened f.kept f.made stray f.left opened made (f.frames.3 ∙ ap (λ q. q ∷ []) (sym part))

    before : f.top.part ∷ opened_parts f.opened nothing_held.regions ≡ no_part ∷ []
    before = rw (opened, top-part [] (has no_part ∷ []) f.top f.below no_part f.is_stepping) refl

    there : get two_cells (pos 9) ≡ Some (pos 0)
    there = get-insert int_cmp_total (cell_at_5 (pos 0)) (pos 9) (pos 0) (pos 9)

    nowhere-before : SomeHasCell (no_part ∷ []) (pos 9) → ⊥
    nowhere-before (inl c) = none-some (sym (get-nothing (pos 9)) ∙ c.1)
    nowhere-before (inr x) = x

    by_cell : SomeHasCell (f.top.part ∷ opened_parts f.opened nothing_held.regions) (pos 9) ⊎ (get two_cells (pos 9) ≡ None) → ⊥
    by_cell (inl x) = nowhere-before (subst (λ qs. SomeHasCell qs (pos 9)) before x)
    by_cell (inr e) = none-some (sym e ∙ there)

invented-guard : FollowsNot (cell_at_5 (pos 0)) (Set (pos 0)) nothing_held guard_invented
invented-guard handed f = at-most (f.exchanges.guards (pos 1) (Some the_guard) None guards-after (inl (flag_in (pos 0), refl, guards-before)))
  where
    opened : f.opened ≡ []
    opened = f.only_at_access refl

    made : f.made ≡ []
    made = (one-kept flag_program f.top.part f.opened _ _ f.kept f.made f.old_regions f.regions).1

    part : with_the_guard ≡ f.frames.0.part
    part = kept-part (has no_part) with_the_guard f.frames.0 f.below f.frames.1

    after : f.left ++ (opened_parts f.opened f.kept ++ map (λ r. r.part) f.made) ≡ with_the_guard ∷ []
    after = after-parts f.opened f.kept f.made with_the_guard f.left opened made (f.frames.3 ∙ ap (λ q. q ∷ []) (sym part))

    before : f.top.part ∷ opened_parts f.opened nothing_held.regions ≡ no_part ∷ []
    before = rw (opened, top-part [] (has no_part ∷ []) f.top f.below no_part f.is_stepping) refl

    alone : guards_at (with_the_guard ∷ []) (pos 1) ≡ Some (Some the_guard)
    alone = rw guard-there refl

    nothing : guards_at (no_part ∷ []) (pos 1) ≡ Some None
    nothing = ap (λ g. join_with g (Some None)) (get-nothing (pos 1))

    guards-after : guards_at (f.left ++ (opened_parts f.opened f.kept ++ map (λ r. r.part) f.made)) (pos 1) ≡ Some (Some the_guard)
    guards-after = ap (λ qs. guards_at qs (pos 1)) after ∙ alone

    guards-before : guards_at (f.top.part ∷ opened_parts f.opened nothing_held.regions) (pos 1) ≡ Some None
    guards-before = ap (λ qs. guards_at qs (pos 1)) before ∙ nothing

    at-most : GuardAtMost flag_program (Some the_guard) None → ⊥
    at-most x = joined-none x.0 x.2

pub broken-accounts : BrokenAccounts
broken-accounts = record {
  cell_in_two_parts = refuses-twice;
  state_without_a_case = refuses-lost;
  guards_that_do_not_compose = refuses-guards;
}

pub broken-steps : BrokenSteps
broken-steps = record {
  by_no_action = lowered;
  by_a_guard_of_another = raised-without;
  at_no_access = raised-by-set;
  cell_from_nowhere = stray-cell;
  guard_from_nowhere = invented-guard;
}
