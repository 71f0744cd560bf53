-- Steps that accounts follow, and those that break one condition.
use Rattle.std.proofs.Common.{◌≡◌, ◌⊎◌, inl, inr, ℕ, zero, suc, ◌≤◌, ℤ, pos, Bool, true, false, cond, List, [], ◌∷◌, ◌++◌, length, Option, Some, None, refl, sym, ap, subst, ◌∙◌, arith}
use Rattle.std.specs.Prelude.{slice_get, ◌==◌, ◌+◌, ◌*◌, nat_le, if◌then◌else◌, get_or, map}
use Rattle.std.specs.Ordering.{int_cmp, eq_by_cmp}
use Rattle.std.specs.Cmp.{int_cmp_total}
use Rattle.std.specs.FinMap.{get, insert, empty, get-insert}
use Rattle.cap_lin.specs.Linear.{same_number}
use Rattle.cap_galg.specs.cap_galg_spec.declared.fraction.Fraction.{Fraction}
use Rattle.cap_galg.specs.Fractions.{fraction, crossed, plus, IsShare}
use Rattle.cap_galg.specs.Elements.{Element, nothing, one, share, tok, src, indices, both, whole, left, right, compose}
use Rattle.cap_galg.specs.Algebras.{divisible, IsElement}
use Rattle.cap_galg.specs.Laws.Fractions.{whole-share}
use Rattle.cap_galg.specs.Laws.Composition.{true-le, true-eq}
use Rattle.cap_prog.specs.declared.assertion.Asked.TheVariants.{One}
use Rattle.cap_prog.specs.Program.{PlainProgram}
use Rattle.cap_machine.specs.declared.event.Event.{Event}
use Rattle.cap_machine.specs.declared.event.Event.TheVariants.{Set, Read, Faa, Dispose, Return, End}
use Rattle.cap_machine.specs.Machine.{Heap}
use Rattle.cap_machine_accounts.specs.Parts.{Guard, join, join_all, or_none, IsGuard, GuardAtMost, full_guard, algebra_of, Part, no_part, guard_at, HasCell, guards_at, Region, region_at}
use Rattle.cap_machine_accounts.specs.Accounts.{Held, OwnedRegion, EachTwo, CellsApart, CellsWithin, GuardsFit}
use Rattle.cap_machine_accounts.specs.Assertions.{a_number}
use Rattle.cap_machine_accounts.specs.Following.{opened_parts, FollowRegions, Joins, FramesFollow, accesses, SomeHasCell, IsBound, Exchanges, parts_after, Follows}
use Rattle.cap_machine_examples.specs.Example.{flag_program, cell_at_5, flag_part, the_guard, with_the_guard, flag_in, has}
use Rattle.cap_machine_examples.specs.Expected.{two_cells}
use Rattle.cap_machine_examples.specs.Validity.{cell_at}
use Rattle.cap_machine_examples.specs.Latch.{latch_program, latch_in}
use Rattle.cap_machine_examples.specs.Steps.{cells, Gets, JoinConditions, with_share, Shares, ShareConditions, owned_by, Steps, held, second_has_it, waits_with, callee_has_it, StepConditions, Makes, guarded_flag, MakingConditions}
use Rattle.cap_machine_examples.proofs.Example.{none-some, some-same, get-nothing, get-alone, guard-there}
use Rattle.cap_machine_examples.proofs.Accepted.{some-none, alone-key, no-cell, the-guard-fits, no-guards-fit, two-join}
use Rattle.cap_machine_examples.proofs.Values.{apart, its-value}
use Rattle.cap_machine_examples.proofs.Validity.{five-in-two, nine-in-two, alone-within}

-- ---- guards of a few parts

one-join : (g : Option Guard) → join_all (g ∷ []) ≡ Some g
one-join None = refl
one-join (Some g) = refl

second-join : (a g : Option Guard) → a ≡ None → join_all (a ∷ g ∷ []) ≡ Some g
second-join a None x = rw x refl
second-join a (Some g) x = rw x refl

no-join : (a b c : Option Guard) → a ≡ None → b ≡ None → c ≡ None → join_all (a ∷ b ∷ []) ≡ Some c
no-join a b c x y z = rw (x, y, z) refl

-- ---- parts that are joined

-- what a map has once a cell is added
added : (b : Bool) (n : Option ℤ) (z : ℤ) → cond b (Some (pos 0)) n ≡ Some z → (n ≡ Some z) ⊎ (cond b (Some (pos 0)) None ≡ Some z)
added true n z e = inr e
added false n z e = inl e

both-joined : Gets (cells two_cells)
both-joined = record {
  cells = λ a z e. side a z (added (eq_by_cmp int_cmp a (pos 9)) (get (cell_at_5 (pos 0)) a) z
      (sym (get-insert int_cmp_total (cell_at_5 (pos 0)) (pos 9) (pos 0) a) ∙ e));
  first = alone-within (pos 5) (pos 0) two_cells five-in-two;
  second = alone-within (pos 9) (pos 0) two_cells nine-in-two;
  guards = λ n. no-join _ _ _ (get-nothing n) (get-nothing n) (get-nothing n);
}
  where
    side :
        (a z : ℤ) →
        (get (cell_at_5 (pos 0)) a ≡ Some z)
        ⊎ (cond (eq_by_cmp int_cmp a (pos 9)) (Some (pos 0)) None ≡ Some z) →
        (get (cell_at (pos 5) (pos 0)).cells a ≡ Some z)
        ⊎ (get (cell_at (pos 9) (pos 0)).cells a ≡ Some z)
    side a z (inl e) = inl e
    side a z (inr e) = inr (get-alone (pos 9) (pos 0) a ∙ e)

one-more : ¬ Gets (cells (insert two_cells (pos 7) (pos 0)))
one-more j = by-side (j.cells (pos 7) (pos 0) (get-insert int_cmp_total two_cells (pos 7) (pos 0) (pos 7)))
  where
    by-side :
        (get (cell_at (pos 5) (pos 0)).cells (pos 7) ≡ Some (pos 0))
        ⊎ (get (cell_at (pos 9) (pos 0)).cells (pos 7) ≡ Some (pos 0)) →
        ⊥
    by-side (inl e) = none-some (sym (get-alone (pos 5) (pos 0) (pos 7)) ∙ e)
    by-side (inr e) = none-some (sym (get-alone (pos 9) (pos 0) (pos 7)) ∙ e)

-- what has nothing is joined to what there is
to-nothing : (q : Part) → Joins no_part q q
to-nothing q = record {
  cells = λ a z e. inr e;
  first = λ a z e. absurd (no-cell a no_part refl (z, e));
  second = λ a z e. e;
  guards = λ n. second-join _ (guard_at q n) (get-nothing n);
}

guard-lost : ¬ Joins no_part with_the_guard no_part
guard-lost j =
    some-none
    (some-same _ _
    (sym (second-join (guard_at no_part (pos 1)) (Some the_guard) (get-nothing (pos 1)))
    ∙ (ap (λ g. join_all (guard_at no_part (pos 1) ∷ g ∷ [])) (sym guard-there)
    ∙ (j.guards (pos 1) ∙ ap Some (get-nothing (pos 1))))))

pub joins : JoinConditions
joins = record {
  both = both-joined;
  one_more = one-more;
  without_the_callers = λ j.
      none-some
      (sym (get-alone (pos 9) (pos 0) (pos 5))
      ∙ j.first (pos 5) (pos 0) (get-alone (pos 5) (pos 0) (pos 5)));
  without_the_handed = λ j.
      none-some
      (sym (get-alone (pos 5) (pos 0) (pos 9))
      ∙ j.second (pos 9) (pos 0) (get-alone (pos 9) (pos 0) (pos 9)));
  guard_joined = to-nothing with_the_guard;
  guard_lost = guard-lost;
}

-- ---- guards of new regions

-- the only region that is made
found : (b : Bool) (x r : Region) → (if b then Some x else None) ≡ Some r → x ≡ r
found true x r e = some-same x r e
found false x r e = absurd (none-some e)

-- a part with all of a new region's guard, or nothing, has no more than all
within-full :
    (p : PlainProgram) (x : Region) (full : Guard) (n : ℤ) (g h : Option Guard) →
    full_guard p x.kind ≡ Some full → IsGuard p (Some full) →
    ((y : Guard) → g ≡ Some y → y ≡ full) →
    (r : Region) × (region_at (x ∷ []) n ≡ Some r) × (h ≡ full_guard p r.kind) →
    GuardAtMost p g h
within-full p x full n g h ef i only b =
    subst (GuardAtMost p g) (sym (b.2 ∙ (ap (λ r. full_guard p r.kind) (sym (found (same_number x.number n) x b.0 b.1)) ∙ ef))) (below g only)
  where
    below : (g : Option Guard) → ((y : Guard) → g ≡ Some y → y ≡ full) → GuardAtMost p g (Some full)
    below None only = (Some full, i, refl)
    below (Some y) only = (None, tt, ap (λ z. Some (Some z)) (only y refl))

abbrev shares : PlainProgram
shares = latch_program divisible One []

abbrev guard_of_share : ℕ → ℕ → Guard
guard_of_share n d = record { kind = 0; element = share (fraction n d) }

all-shared : Shares 1 1
all-shared = record { cells = λ a h. inr (get-nothing a); guards = guards }
  where
    guards :
        (n : ℤ) (g h : Option Guard) → guards_at (with_share 1 1 ∷ []) n ≡ Some g →
        IsBound shares [] (latch_in (pos 5) (pos 0) ∷ []) (no_part ∷ []) n h →
        GuardAtMost shares g h
    guards n g h e (inl b) = absurd (none-some b.1)
    guards n g h e (inr b) =
        within-full shares (latch_in (pos 5) (pos 0)) (guard_of_share 1 1) n g h refl
        (whole-share, refl)
        (λ y s.
        sym (alone-key (pos 1) (guard_of_share 1 1) n y
        (some-same _ _ (sym (one-join (guard_at (with_share 1 1) n)) ∙ e) ∙ s)).1)
        b

-- three halves of a share and another share are more than all
too-much :
    (g : Fraction) → IsShare g → (b : Bool) → nat_le (crossed (fraction 3 2) g) (2 * g.den) ≡ b →
    b ≡ false
too-much g s false e = refl
too-much g s true e =
    let l = true-le (crossed (fraction 3 2) g) (2 * g.den) e in
    let z = s.amount.lowest.positive in
    absurd (omega (arith, l, z))

abbrev element_numerator : Element → ℕ
element_numerator (share f) = f.num
element_numerator _ = 0

abbrev numerator : Option (Option Guard) → ℕ
numerator (Some (Some g)) = element_numerator g.element
numerator _ = 0

three-not-one : Some (Some (guard_of_share 3 2)) ≡ Some (Some (guard_of_share 1 1)) → ⊥
three-not-one e = let n : 3 ≡ 1 = ap numerator e in omega (arith, n)

no-rest :
    (k : ℕ) (x : Element) → IsElement (algebra_of shares k) x →
    join (Some (guard_of_share 3 2)) (Some (record { kind = k; element = x }))
    ≡ Some (Some (guard_of_share 1 1)) →
    ⊥
no-rest (suc k) x i e = of-another (0 == suc k) refl e
  where
    of-another :
        (b : Bool) → (0 == suc k) ≡ b →
        (if b then or_none 0 (compose (share (fraction 3 2)) x) else None)
        ≡ Some (Some (guard_of_share 1 1)) →
        ⊥
    of-another false h e = none-some e
    of-another true h e = let z = true-eq 0 (suc k) h in omega (arith, z)
no-rest zero nothing i e = three-not-one e
no-rest zero (share g) i e =
    none-some
    (sym (ap (λ b. or_none 0 (if b then Some (share (plus (fraction 3 2) g)) else None))
    (too-much g i _ refl))
    ∙ e)
no-rest zero one i e = none-some e
no-rest zero (tok n) i e = none-some e
no-rest zero (src n) i e = none-some e
no-rest zero (indices xs) i e = none-some e
no-rest zero (both x y) i e = none-some e
no-rest zero whole i e = none-some e
no-rest zero (left x) i e = none-some e
no-rest zero (right x) i e = none-some e

more-than-all : ¬ Shares 3 2
more-than-all x =
    by-rest
    (x.guards (pos 1) (Some (guard_of_share 3 2)) (Some (guard_of_share 1 1))
    (one-join (guard_at (with_share 3 2) (pos 1))
    ∙ ap Some (get-alone (pos 1) (guard_of_share 3 2) (pos 1)))
    (inr (latch_in (pos 5) (pos 0), refl, refl)))
  where
    by-rest : GuardAtMost shares (Some (guard_of_share 3 2)) (Some (guard_of_share 1 1)) → ⊥
    by-rest (None, i, e) = three-not-one e
    by-rest (Some h, i, e) = no-rest h.kind h.element i.0 e

pub new-shares : ShareConditions
new-shares = record { all_of_it = all-shared; more_than_all = more-than-all }

-- ---- steps without regions

-- a list with nothing behind it
nothing-behind : (qs : List Part) → qs ++ [] ≡ qs
nothing-behind [] = refl
nothing-behind (q ∷ qs) = ap (λ y. q ∷ y) (nothing-behind qs)

no-bound :
    (p : PlainProgram) (before : List Part) (n : ℤ) (g : Option Guard) →
    IsBound p [] [] before n g → ⊥
no-bound p before n g (inl b) = none-some b.1
no-bound p before n g (inr b) = none-some b.1

steps :
    (thread : ℕ) (event : Event) (before after : List (List Held)) (top : Held)
    (below : List Held) (handed : Part) (goes : List Part) →
    slice_get before thread ≡ Some (top ∷ below) →
    FramesFollow event
    (record { thread = thread; top = top; below = below; threads = before }) after handed
    goes →
    handed.guards ≡ empty → CellsWithin (cell_at_5 (pos 0)) handed → EachTwo CellsApart goes →
    ((n : ℤ) → guards_at goes n ≡ Some None) →
    ((x : ℤ) → accesses event ≡ Some x → SomeHasCell (top.part ∷ []) x) →
    ((a : ℤ) → SomeHasCell goes a → SomeHasCell (top.part ∷ []) a) →
    Steps thread event before after handed
steps thread event before after top below handed goes is frames bare within two bares access kept =
    record {
      top = top;
      below = below;
      is_stepping = is;
      opened = [];
      at_most_two = omega arith;
      only_at_access = λ e. refl;
      kept = [];
      made = [];
      regions = refl;
      old_regions = tt;
      left = goes;
      frames = frames;
      handed_fits = no-guards-fit [] handed bare;
      handed_within = within;
      left_apart = subst (EachTwo CellsApart) (sym (nothing-behind goes)) two;
      left_compose = λ n. (None, ap (λ qs. guards_at qs n) (nothing-behind goes) ∙ bares n);
      access = access;
      exchanges = subst (Exchanges flag_program (cell_at_5 (pos 0)) [] [] (top.part ∷ []))
          (sym (nothing-behind goes)) (record {
            cells = λ a h. inl (kept a h);
            guards = λ n g h e b. absurd (no-bound flag_program (top.part ∷ []) n h b);
          });
    }

abbrev five : Part
five = cell_at (pos 5) (pos 0)

five-there : get (cell_at_5 (pos 0)) (pos 5) ≡ Some (pos 0)
five-there = get-alone (pos 5) (pos 0) (pos 5)

within-none : CellsWithin (cell_at_5 (pos 0)) no_part
within-none a z e = absurd (no-cell a no_part refl (z, e))

bare-one : (q : Part) → q.guards ≡ empty → (n : ℤ) → guards_at (q ∷ []) n ≡ Some None
bare-one q e n = one-join (guard_at q n) ∙ ap Some (ap (λ m. get m n) e ∙ get-nothing n)

-- the top frame stays with its part
stays :
    (thread : ℕ) (event : Event) (threads : List (List Held)) (q : Part) (below : List Held) →
    q.guards ≡ empty → slice_get threads thread ≡ Some (held q [] ∷ below) →
    FramesFollow event
    (record { thread = thread; top = held q []; below = below; threads = threads }) threads
    no_part (q ∷ []) →
    ((x : ℤ) → accesses event ≡ Some x → SomeHasCell (q ∷ []) x) →
    Steps thread event threads threads no_part
stays thread event threads q below bare is frames access =
    steps thread event threads threads (held q []) below no_part (q ∷ []) is frames refl within-none
    (tt, tt) (bare-one q bare) access (λ a h. h)

-- the top frame of a thread, and the frames below
abbrev frames_below : {A : Type 0} → List A → List A
frames_below [] = []
frames_below (x ∷ xs) = xs

top-of : {A : Type 0} (x y : A) (xs ys : List A) → x ∷ xs ≡ y ∷ ys → x ≡ y
top-of x y xs ys e = ap (λ l. get_or l 0 x) e

below-of : {A : Type 0} (x y : A) (xs ys : List A) → x ∷ xs ≡ y ∷ ys → xs ≡ ys
below-of x y xs ys e = ap frames_below e

-- what the first of some frames holds at 5
abbrev at_five : List Held → Option ℤ
at_five [] = None
at_five (h ∷ hs) = get h.part.cells (pos 5)

lost : get (empty {X = ℤ} {R = int_cmp}) (pos 5) ≡ Some (pos 0) → ⊥
lost e = none-some (sym (get-nothing (pos 5)) ∙ e)

loses-cell : ¬ Steps 0 (Set (pos 0)) second_has_it (has no_part ∷ has no_part ∷ []) no_part
loses-cell f = lost (ap (λ ts. at_five (get_or ts 1 [])) f.frames.1 ∙ five-there)

changes-value :
    ¬ Steps 0 (Set (pos 0)) second_has_it ((held no_part (a_number (pos 0) ∷ []) ∷ []) ∷ has five ∷ [])
    no_part
changes-value f =
    let now : a_number (pos 0) ∷ [] ≡ f.frames.0.fixed =
    ap (λ h. h.fixed)
    (top-of (held no_part (a_number (pos 0) ∷ [])) f.frames.0 [] f.below
    (ap (λ ts. get_or ts 0 []) f.frames.1)) in
    let was : [] ≡ f.top.fixed =
    ap (λ h. h.fixed)
    (top-of (held no_part []) f.top [] f.below (some-same _ _ f.is_stepping)) in
    let e : 1 ≡ 0 = ap length (now ∙ (f.frames.2 ∙ sym was)) in
    omega (arith, e)

caller-loses : ¬ Steps 0 (Set (pos 0)) (waits_with five) (waits_with no_part) no_part
caller-loses f =
    let below : held five [] ∷ [] ≡ f.below =
    below-of (held no_part []) f.top (held five [] ∷ []) f.below (some-same _ _ f.is_stepping) in
    lost
    (ap (λ ts. at_five (frames_below (get_or ts 0 []))) f.frames.1
    ∙ (ap at_five (sym below) ∙ five-there))

no-cell-here : (a : ℤ) → SomeHasCell (no_part ∷ []) a → ⊥
no-cell-here a (inl h) = no-cell a no_part refl h
no-cell-here a (inr h) = h

-- an access to a cell of another frame
of-another :
    (event : Event) → accesses event ≡ Some (pos 5) →
    ¬ Steps 0 event second_has_it second_has_it no_part
of-another event at f =
    no-cell-here (pos 5)
    (subst (λ h. SomeHasCell (h.part ∷ []) (pos 5))
    (sym (top-of (held no_part []) f.top [] f.below (some-same _ _ f.is_stepping)))
    (f.access (pos 5) at))

five-accessed : (x : ℤ) → Some (pos 5) ≡ Some x → SomeHasCell (five ∷ []) x
five-accessed x e =
    inl (pos 0, ap (get (cell_at_5 (pos 0))) (sym (some-same (pos 5) x e)) ∙ five-there)

-- the cell is there before, where it holds another value afterwards
five-before : (a : ℤ) → SomeHasCell (cell_at (pos 5) (pos 1) ∷ []) a → SomeHasCell (five ∷ []) a
five-before a (inl h) =
    inl
    (pos 0, ap (get (cell_at_5 (pos 0))) (alone-key (pos 5) (pos 1) a h.0 h.1).0 ∙ five-there)
five-before a (inr h) = absurd h

another-value : CellsWithin (cell_at_5 (pos 0)) (cell_at (pos 5) (pos 1)) → ⊥
another-value within =
    apart 0 1 (λ e. omega (arith, e))
    (its-value (pos 5) (pos 0) (pos 1) five-there
    (within (pos 5) (pos 1) (get-alone (pos 5) (pos 1) (pos 5))))

absent-cell : CellsWithin (cell_at_5 (pos 0)) (cell_at (pos 9) (pos 0)) → ⊥
absent-cell within =
    none-some
    (sym (get-alone (pos 5) (pos 0) (pos 9))
    ∙ within (pos 9) (pos 0) (get-alone (pos 9) (pos 0) (pos 9)))

ends-with-anothers :
    ¬ Steps 0 (End (pos 0)) second_has_it ([] ∷ has five ∷ []) five
ends-with-anothers f =
    by-cell
    (f.exchanges.cells (pos 5)
    (subst (λ l. SomeHasCell (parts_after l f.opened f.kept f.made) (pos 5)) (sym f.frames.2)
    (inl (pos 0, five-there))))
  where
    by-cell :
        SomeHasCell (f.top.part ∷ []) (pos 5) ⊎ (get (cell_at_5 (pos 0)) (pos 5) ≡ None) → ⊥
    by-cell (inl x) =
        no-cell-here (pos 5)
        (subst (λ h. SomeHasCell (h.part ∷ []) (pos 5))
        (sym (top-of (held no_part []) f.top [] f.below (some-same _ _ f.is_stepping))) x)
    by-cell (inr e) = some-none (sym five-there ∙ e)

pub step-conditions : StepConditions
step-conditions = record {
  nothing_changes =
      stays 0 (Set (pos 0)) second_has_it no_part [] refl refl
      (held no_part [], refl, refl, refl) (λ x e. absurd (none-some e));
  another_frame_loses_its_cell = loses-cell;
  another_value_of_a_name = changes-value;
  caller_waits =
      stays 0 (Set (pos 0)) (waits_with five) no_part (held five [] ∷ []) refl refl
      (held no_part [], refl, refl, refl) (λ x e. absurd (none-some e));
  caller_loses_its_cell = caller-loses;
  reads_its_cell =
      stays 1 (Read (pos 5) (pos 0)) second_has_it five [] refl refl
      (held five [], refl, refl, refl)
      five-accessed;
  reads_a_cell_of_another = of-another (Read (pos 5) (pos 0)) refl;
  adds_to_its_cell =
      steps 1 (Faa (pos 5) (pos 0)) second_has_it (has no_part ∷ has (cell_at (pos 5) (pos 1)) ∷ [])
      (held five []) [] no_part (cell_at (pos 5) (pos 1) ∷ []) refl
      (held (cell_at (pos 5) (pos 1)) [], refl, refl, refl) refl within-none (tt, tt)
      (bare-one (cell_at (pos 5) (pos 1)) refl) five-accessed five-before;
  adds_to_a_cell_of_another = of-another (Faa (pos 5) (pos 0)) refl;
  disposes_of_its_cell =
      steps 1 (Dispose (pos 5)) second_has_it (has no_part ∷ has no_part ∷ []) (held five []) []
      no_part (no_part ∷ []) refl (held no_part [], refl, refl, refl) refl within-none (tt, tt)
      (bare-one no_part refl) five-accessed (λ a h. absurd (no-cell-here a h));
  disposes_of_a_cell_of_another = of-another (Dispose (pos 5)) refl;
  returns_its_cell =
      steps 0 (Return (pos 0)) callee_has_it (has five ∷ []) (held five []) (held no_part [] ∷ [])
      five (five ∷ []) refl
      (held no_part [], held five [], [], refl, refl, refl, to-nothing five, refl) refl
      (λ a z e. e) (tt, tt) (bare-one five refl) (λ x e. absurd (none-some e)) (λ a h. h);
  returns_another_value = λ f. another-value f.handed_within;
  ends_with_its_cell =
      steps 0 (End (pos 0)) (has five ∷ []) ([] ∷ []) (held five []) [] five (five ∷ []) refl
      (refl, refl, refl) refl (λ a z e. e) (tt, tt) (bare-one five refl)
      (λ x e. absurd (none-some e)) (λ a h. h);
  ends_with_another_value = λ f. another-value f.handed_within;
  ends_with_an_absent_cell = λ f. absent-cell f.handed_within;
  ends_with_a_guard_of_no_region = λ f.
      none-some (f.handed_fits (pos 1) the_guard guard-there).0.1;
  ends_with_a_cell_of_another = ends-with-anothers;
}

-- ---- last returns at which a region is made

abbrev made_flag : Part → OwnedRegion
made_flag q = record { region = flag_in (pos 0); part = q }

makes :
    (q handed : Part) → CellsWithin (cell_at_5 (pos 0)) handed →
    GuardsFit flag_program (flag_in (pos 0) ∷ []) handed → CellsApart handed q →
    ((n : ℤ) → guards_at (handed ∷ q ∷ []) n ≡ Some (guard_at with_the_guard n)) →
    ((a : ℤ) → SomeHasCell (handed ∷ q ∷ []) a → SomeHasCell (five ∷ []) a) → Makes q handed
makes q handed within fits two guards kept = record {
  top = held five [];
  below = [];
  is_stepping = refl;
  opened = [];
  at_most_two = omega arith;
  only_at_access = λ e. refl;
  kept = [];
  made = made_flag q ∷ [];
  regions = refl;
  old_regions = tt;
  left = handed ∷ [];
  frames = (refl, refl, refl);
  handed_fits = fits;
  handed_within = within;
  left_apart = ((two, tt), (tt, tt));
  left_compose = λ n. (guard_at with_the_guard n, guards n);
  access = λ x e. absurd (none-some e);
  exchanges = record { cells = λ a h. inl (kept a h); guards = bounds };
}
  where
    bounds :
        (n : ℤ) (g h : Option Guard) → guards_at (handed ∷ q ∷ []) n ≡ Some g →
        IsBound flag_program [] (flag_in (pos 0) ∷ []) (five ∷ []) n h →
        GuardAtMost flag_program g h
    bounds n g h e (inl b) = absurd (none-some b.1)
    bounds n g h e (inr b) =
        within-full flag_program (flag_in (pos 0)) the_guard n g h refl (tt, refl)
        (λ y s.
        sym (alone-key (pos 1) the_guard n y (some-same _ _ (sym (guards n) ∙ e) ∙ s)).1)
        b

-- the new region's parts and what is handed over
after-making :
    (q handed : Part) (f : Makes q handed) →
    parts_after f.left f.opened f.kept f.made ≡ handed ∷ q ∷ []
after-making q handed f =
    ap (λ l. parts_after l f.opened f.kept f.made) f.frames.2
    ∙ ap (λ rs. handed ∷ rs) (made f.opened f.kept f.made f.old_regions f.regions)
  where
    made :
        (opened : List ℤ) (kept new : List OwnedRegion) →
        FollowRegions flag_program f.top.part f.opened [] kept → made_flag q ∷ [] ≡ kept ++ new →
        opened_parts opened kept ++ map (λ r. r.part) new ≡ q ∷ []
    made opened [] new x e = ap (map (λ r. r.part)) (sym e)
    made opened (r ∷ rs) new x e = absurd x

guard-twice : guards_at (with_the_guard ∷ guarded_flag ∷ []) (pos 1) ≡ None
guard-twice = rw guard-there refl

pub making-conditions : MakingConditions
making-conditions = record {
  guard_handed_over = makes (flag_part (pos 0)) with_the_guard
      (λ a z e. absurd (no-cell a with_the_guard refl (z, e))) (the-guard-fits (pos 0))
      (λ a h k. no-cell a with_the_guard refl h)
      (λ n. two-join (guard_at with_the_guard n) _ (get-nothing n)) in-flag;
  guard_kept = makes guarded_flag no_part within-none
      (no-guards-fit (flag_in (pos 0) ∷ []) no_part refl) (λ a h k. no-cell a no_part refl h)
      (λ n. second-join _ (guard_at with_the_guard n) (get-nothing n)) in-guarded;
  cell_handed_over_and_kept = λ f.
      (subst (EachTwo CellsApart) (after-making (flag_part (pos 0)) five f) f.left_apart).0.0
      (pos 5) (pos 0, five-there) (pos 0, five-there);
  guard_handed_over_and_kept = λ f.
      none-some
      (sym guard-twice
      ∙ (ap (λ qs. guards_at qs (pos 1)) (sym (after-making guarded_flag with_the_guard f))
      ∙ (f.left_compose (pos 1)).1));
}
  where
    in-flag :
        (a : ℤ) → SomeHasCell (with_the_guard ∷ flag_part (pos 0) ∷ []) a →
        SomeHasCell (five ∷ []) a
    in-flag a (inl h) = absurd (no-cell a with_the_guard refl h)
    in-flag a (inr (inl h)) = inl h
    in-flag a (inr (inr h)) = absurd h

    in-guarded :
        (a : ℤ) → SomeHasCell (no_part ∷ guarded_flag ∷ []) a → SomeHasCell (five ∷ []) a
    in-guarded a (inl h) = absurd (no-cell a no_part refl h)
    in-guarded a (inr (inl h)) = inl h
    in-guarded a (inr (inr h)) = absurd h
