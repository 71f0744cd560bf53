-- Where a run begins the first track is kept: main's frame is tied to its walk from the body's
-- root, by the values that the start found.
use Rattle.std.proofs.Common.{◌≡◌, inl, inr, ℕ, zero, suc, ◌+◌, ◌-◌, ◌<◌, ℤ, pos, Bool, false, if◌then◌else◌, List, [], ◌∷◌, ◌++◌, map, length, replicate, take, drop, Option, Some, None, option_to_list, option_map, refl, sym, ap, ◌∙◌, subst, arith}
use Rattle.std.specs.Prelude.{slice_get}
use Rattle.std.specs.List.{AllByRecursion, AllZip, list_all, range_with_len}
use Rattle.std.specs.Ordering.{int_cmp}
use Rattle.std.specs.FinMap.{get-empty}
use Rattle.cap_lin.specs.declared.row.Sort.{Sort}
use Rattle.cap_lin.specs.declared.row.Sort.TheVariants.{Int, Perm}
use Rattle.cap_prog.specs.Program.{Items, none, item, Block, PlainFunction, PlainProgram}
use Rattle.cap_prog.specs.Scopes.{fixed_start, requires_scope}
use Rattle.cap_prog.specs.WellFormed.{IsWellFormed}
use Rattle.cap_goal_spec.specs.States.{PlainState, Home, to_run, to_give, PlainGoal, goal, goal_of}
use Rattle.cap_goal_spec.specs.Choices.{PlainTree}
use Rattle.cap_goal_spec.specs.Roots.{function_unit, at_entry, home_of, optional_roots}
use Rattle.cap_rules.specs.Valid.{Valid}
use Rattle.cap_machine.specs.Machine.{Heap, new_frame, start, IsPositive}
use Rattle.cap_machine_accounts.specs.Assertions.{NameValue, a_number, a_fraction, ValuesFit}
use Rattle.cap_machine_accounts.specs.Safety.{whole_part, Start}
use Rattle.cap_account_resources.specs.Parts.{Table, no_regions}
use Rattle.cap_account_resources.proofs.Covering.{join_marks}
use Rattle.cap_account_resources.proofs.Lists.{some-same, none-some, within, there-is, all-at, map-length, map-at, get-first, get-second}
use Rattle.cap_account_resources.proofs.Marks.{free}
use Rattle.cap_account_resources.proofs.Stocks.{Stock}
use Rattle.cap_account_states.proofs.Checked.{Checked}
use Rattle.cap_account_states.proofs.Scopes.{requires-early, rep-length}
use Rattle.cap_account_assertions.proofs.Asserted.{OwnsRequires}
use Rattle.cap_account_steps.proofs.Bundles.{UnitRoots, unit-roots}
use Rattle.cap_account_steps.proofs.Frames.{Roomy}
use Rattle.cap_account_steps.proofs.Regained.{Stable}
use Rattle.cap_account_steps.proofs.StableLaws.{valid-stable}
use Rattle.cap_account_steps.proofs.StatementLaws.{statements}
use Rattle.cap_account_steps.proofs.Statements.{Statements}
use Rattle.cap_account_steps.proofs.Stores.{running}
use Rattle.cap_account.proofs.Begins.{body-begins}
use Rattle.cap_account.proofs.Stocked.{part_stock}
use Rattle.cap_outline_laws.proofs.Listed.{roots-listed}
use Rattle.cap_owners_spec.specs.Traced.{traced, ◌>>=◌, found, value_at, valuation}
use Rattle.cap_owners_spec.specs.Track.{Fill, Place, TrackedRegion, GivenAssertion, TrackedFrame, Track, tracked_at}
use Rattle.cap_owners_spec.specs.Steps.{Proved, root_at, is_in_state, filled_again, fill_now, begins_at, fixed_values, requires_root, body_root}
use Rattle.cap_owners_spec.specs.Start.{Meeting, meets_all, unset, first_meeting, main_track, track_by}
use Rattle.cap_owners_walks_laws.proofs.Fills.Still.{StaysTold, StillItems, items-still}
use Rattle.cap_owners_laws.specs.Owned.{IsTextual}
use Rattle.cap_owners_walks_laws.proofs.Values.Numbers.{was-traced, traced-same}
use Rattle.cap_owners_laws.proofs.Meetings.{On, is_whole, IsOver, Meets, Result, all-met}
use Rattle.cap_owners_laws.proofs.Starts.{track-is, fits-before, over-before, Taken, met-args, met-fixed, start-of, begun}
use Rattle.cap_owners_walks_laws.proofs.Values.More.{FitsSort}
use Rattle.cap_owners_walks_laws.proofs.Fills.Giving.{NamesFit}
use Rattle.cap_owners_runs_laws.proofs.Tracks.Tied.{nodes_of, Tied, StackTied, EachTied, Kept}
use Rattle.cap_owners_runs_laws.proofs.Tracks.Runs.{FirstLaw}
use Rattle.cap_owners_runs_laws.proofs.Tracks.RootValues.{value-there}
use Rattle.cap_owners_runs_laws.proofs.Tracks.Rooting.{is-root}
use Rattle.cap_owners_runs_laws.proofs.Tracks.Bodies.{entered, RequiresAgain, body-tied}
use Rattle.cap_owners_runs_laws.proofs.Tracks.MetCells.{AreDrawn, items-drawn}

-- ---- lists

all-taken :
    (P : NameValue → Type 0) (n : ℕ) (ys : List NameValue) → AllByRecursion P ys →
    AllByRecursion P (take n ys)
all-taken P zero ys h = tt
all-taken P (suc n) [] h = tt
all-taken P (suc n) (y ∷ ys) h = (h.0, all-taken P n ys h.1)

all-dropped :
    (P : NameValue → Type 0) (n : ℕ) (ys : List NameValue) → AllByRecursion P ys →
    AllByRecursion P (drop n ys)
all-dropped P zero ys h = h
all-dropped P (suc n) [] h = tt
all-dropped P (suc n) (y ∷ ys) h = all-dropped P n ys h.1

same-in :
    {A : Type 0} (n : ℕ) (x : A) (i : ℕ) → i < n → slice_get (replicate n x) i ≡ Some x
same-in zero x i l = absurd (omega (arith, l))
same-in (suc n) x zero l = refl
same-in (suc n) x (suc i) l = same-in n x i (omega (arith, l))

pub found-is : {A : Type 0} (o : Option A) (x : A) → found o ≡ traced x → o ≡ Some x
found-is None x e = absurd (cc)
found-is (Some y) x e = ap Some (traced-same y x e)

-- ---- values of their sorts

-- a share over the one denominator
over-fits : (y : NameValue) → IsOver y → is_whole y ≡ false → FitsSort Perm y
over-fits (a_number z) h e = absurd (cc)
over-fits (a_fraction n d) h e =
    let less : suc d - 1 ≡ d = omega arith in
    sym less ∙ ap (λ k. k - 1) h

-- the same of the values of fixed names
fit-over :
    (os : List Sort) (ys : List NameValue) → ValuesFit os ys → AllByRecursion IsOver ys →
    AllZip FitsSort os ys
fit-over [] [] h k = tt
fit-over [] (y ∷ ys) h k = absurd h
fit-over (o ∷ os) [] h k = absurd h
fit-over (Int ∷ os) (a_number z ∷ ys) h k = (tt, fit-over os ys h.1 k.1)
fit-over (Int ∷ os) (a_fraction n d ∷ ys) h k = absurd h.0
fit-over (Perm ∷ os) (a_number z ∷ ys) h k = absurd h.0
fit-over (Perm ∷ os) (a_fraction n d ∷ ys) h k =
    (over-fits (a_fraction n d) k.0 refl, fit-over os ys h.1 k.1)

-- a value that is a whole number just where this one is
sort-by :
    (o : Sort) (y : NameValue) → IsOver y → is_whole y ≡ is_whole (unset o) → FitsSort o y
sort-by Int (a_number z) h e = tt
sort-by Int (a_fraction n d) h e = absurd (cc)
sort-by Perm (a_number z) h e = absurd (cc)
sort-by Perm (a_fraction n d) h e = over-fits (a_fraction n d) h refl

sort-at :
    (ys zs : List NameValue) (all : AllByRecursion IsOver ys) (x : ℕ) (z : NameValue) (o : Sort) →
    map is_whole ys ≡ map is_whole zs → slice_get zs x ≡ Some z →
    is_whole z ≡ is_whole (unset o) → FitsSort o (value_at ys x)
sort-at ys zs all x z o e at w =
    let n = map-length is_whole ys in
    let m = map-length is_whole zs in
    let l = within zs x z at in
    let k = ap (λ (bs : List Bool). length bs) e in
    let y = there-is ys x (omega (arith, n, m, l, k)) in
    let same : is_whole y.0 ≡ is_whole z =
    some-same (is_whole y.0) (is_whole z)
    (sym (map-at is_whole ys x y.0 y.1) ∙ ap (λ bs. slice_get bs x) e ∙ map-at is_whole zs x z at)
    in
    subst (FitsSort o) (sym (value-there ys x y.0 y.1))
    (sort-by o y.0 (all-at IsOver ys x y.0 all y.1) (same ∙ w))

-- ---- room

whole-roomy : (p : PlainProgram) (heap : Heap) → Roomy p no_regions (part_stock (whole_part heap))
whole-roomy p heap = record {
  fits = λ n e h. absurd (none-some h);
  full = λ n e h. absurd (none-some h);
  room = λ n. (Some free, ap (λ g. join_marks p (Some g) (Some free)) (get-empty int_cmp n));
  bound = [];
  listed = λ n e h. absurd (none-some h);
}

-- what is given, and then a body
pub gives-goal :
    (s : PlainState) (xs : Items) (h : Home) (b : Block) →
    (g : PlainGoal) × (goal_of s (to_give xs 0 0 ∷ to_run h b ∷ []) ≡ Some g)
gives-goal s none h b = (goal s (to_run h b ∷ []), refl)
gives-goal s (item i more) h b = (goal s (to_give (item i more) 0 0 ∷ to_run h b ∷ []), refl)

-- ---- main's frame

module _ (program : PlainProgram) (trees : List (Option PlainTree)) (well : IsWellFormed program)
    (textual : IsTextual program) (valid : Valid program trees) (main : PlainFunction)
    (args : List ℤ) (heap : Heap) (is_main : slice_get program.functions program.main ≡ Some main)
    (arity : length args ≡ main.params) (positive : IsPositive heap) where
  abbrev p : Checked
  p = nodes_of program trees

  abbrev d : Proved
  d = record { program = program; trees = trees }

  abbrev first : Meeting
  first = first_meeting main args heap

  abbrev part : Stock
  part = part_stock (whole_part heap)

  module _ (m : Meeting) (e : meets_all main.requires (first_meeting main args heap) ≡ traced
      (Some m))
    where
      abbrev fixed : List NameValue
      fixed = fixed_values main m.fill

      met : Meets (Taken d main args heap is_main arity) first m
      met =
          subst (On (Result (Taken d main args heap is_main arity) first)) e
          (all-met program main.requires first (fits-before d main args heap is_main arity))

      abbrev begins : Start program main args heap fixed
      begins = start-of d main args heap is_main arity positive m met

      drawn : AreDrawn program (valuation m.fill.names) main.requires first m
      drawn =
          items-drawn program (valuation m.fill.names) main.requires (range_with_len 0 main.params)
          (textual.main main is_main) first m (fits-before d main args heap is_main arity) e
          (λ x b. refl)

      -- whatever the table
      still :
          (U : Table) →
          StillItems program no_regions U (valuation m.fill.names) main.requires part
          (part_stock (whole_part m.heap)) drawn.draws
      still U =
          items-still program no_regions U (valuation m.fill.names) main.requires part
          (part_stock (whole_part m.heap)) drawn.draws
          (subst (AllByRecursion (StaysTold no_regions U)) (sym drawn.told) tt)

      abbrev owned : (U : Table) → OwnsRequires program U part main args fixed
      owned U = record {
        values = valuation m.fill.names;
        args_are = met-args d main args heap is_main arity m met;
        fixed_are = met-fixed d main args heap is_main arity m met;
        met = (part_stock (whole_part m.heap), (still U).drawn);
      }

      over_names : AllByRecursion IsOver m.fill.names
      over_names = met.extends.shares (over-before d main args heap is_main arity)

      fits : AllZip FitsSort main.fixed (fixed_values main m.fill)
      fits =
          fit-over main.fixed fixed begins.values_fit
          (all-taken IsOver (length main.fixed) (drop (fixed_start main) m.fill.names)
          (all-dropped IsOver (fixed_start main) m.fill.names over_names))

      have : NamesFit (requires_scope main) m.fill.names
      have o x h = elim (requires-early main x o h) [
        | inl k ↦
            let z = there-is args x (let l = k.0 in omega (arith, l, arity)) in
            sort-at m.fill.names first.fill.names over_names x (a_number z.0) o met.extends.kinds
            (get-first (map a_number args)
            (replicate main.locals (a_number (pos 0)) ++ map unset main.fixed) x (a_number z.0)
            (map-at a_number args x z.0 z.1)) (ap (λ s. is_whole (unset s)) k.1)
        | inr k ↦
            let a = map-length a_number args in
            let b = rep-length main.locals (a_number (pos 0)) in
            let q = k.1 in
            let at : x ≡ length (map a_number args)
            + (length (replicate main.locals (a_number (pos 0))) + k.0) = omega
            (arith, a, b, q, arity)
            in
            sort-at m.fill.names first.fill.names over_names x (unset o) o met.extends.kinds
            (ap (slice_get first.fill.names) at
            ∙ get-second (map a_number args)
            (replicate main.locals (a_number (pos 0)) ++ map unset main.fixed)
            (length (replicate main.locals (a_number (pos 0))) + k.0)
            ∙ get-second (replicate main.locals (a_number (pos 0))) (map unset main.fixed) k.0
            ∙ map-at unset main.fixed k.0 o k.2) refl
      ]

      module _ (q : Place) (root : root_at d (function_unit program.main) body_root ≡ Some q) where
        abbrev t : TrackedFrame
        t = begun d main args heap is_main arity m q

        abbrev handed : GivenAssertion
        handed = record {
          stability = root_at d (function_unit program.main) requires_root;
          values = map a_number args ++ fixed;
          fill = m.fill;
        }

        -- what it was handed is met by that very fill
        current :
            (rs : List TrackedRegion) → fill_now d rs (Some handed) ≡ traced (Some m.fill)
        current rs =
            ap (λ fs. (if list_all (λ x. is_in_state x.1 (tracked_at rs x.0)) fs then traced m.fill
            else filled_again d rs handed handed.stability) >>= λ (f : Fill). traced (Some f))
            drawn.facts

        again :
            (U : Table) →
            RequiresAgain p trees well program.main main is_main args fixed None arity
            begins.values_fit fits part U handed
        again U = record {
          own = owned U;
          fills = inl (record {
            fill = m.fill;
            met = record {
              names = λ some. refl;
              wildcards = (still U).met ∙ sym drawn.wildcards;
              facts = (still U).told ∙ drawn.told ∙ sym drawn.facts;
            };
            have = have;
            comes = λ rs tells. inr (current rs);
          });
        }

        -- the first frame has all of the heap
        abbrev whole : TrackedFrame
        whole = record t { held = record t.held { part = whole_part heap } }

        main-tied :
            Tied p trees part no_regions fixed (new_frame program.main main args None) whole
        main-tied =
            let n = program.main in
            let s = entered p trees well n main is_main args fixed None arity begins.values_fit fits
            part
            in
            let h = home_of at_entry main n in
            let g = gives-goal s main.requires h main.body in
            body-tied p trees well n main is_main args fixed None arity begins.values_fit fits part
            no_regions (whole-roomy program heap) q
            (is-root program trees valid n main is_main body_root s main.requires
            (running main.body h) g.0 g.1 (ap (λ o. slice_get (optional_roots o n) 2) is_main) q root)
            handed (λ U r. again U) whole refl

        -- ---- the track

        abbrev tracked : List (List TrackedFrame)
        tracked = (main_track heap t).threads

        only :
            EachTied p trees no_regions ((new_frame program.main main args None ∷ []) ∷ []) tracked
        only zero th ts x y =
            subst (λ u. StackTied p trees no_regions u ts)
            (some-same (new_frame program.main main args None ∷ []) th x)
            (subst (StackTied p trees no_regions (new_frame program.main main args None ∷ []))
            (some-same (whole ∷ []) ts y)
            (main-tied, tt))
        only (suc i) th ts x y = absurd (none-some x)

        track-kept : Kept p trees (start program args heap) (main_track heap t)
        track-kept =
            let stable : Stable program = valid-stable program trees well valid in
            let roots : UnitRoots p = unit-roots p (roots-listed program trees valid) in
            let laws : Statements p = statements p well roots stable in
            record {
              sound = body-begins p laws.bodies heap main fixed args begins;
              stacks =
                  subst
                  (λ (o : Option PlainFunction). EachTied p trees no_regions
                  (option_to_list (option_map (λ f. new_frame program.main f args None) o) ∷ [])
                  tracked) (sym is_main) only;
              regions = tt;
              numbered = tt;
            }

  -- ---- whatever the start comes to

  kept-from :
      (o : Option Meeting) → meets_all main.requires first ≡ traced o → (k : Track) →
      track_by d main args heap o ≡ traced (Some k) → Kept p trees (start program args heap) k
  kept-from None e k h = absurd (cc)
  kept-from (Some m) e k h =
      let fixed = fixed_values main m.fill in
      let vs = map a_number args ++ fixed in
      let f = was-traced (begins_at d program.main requires_root body_root vs fixed m.fill [])
      (λ f. traced (Some (main_track heap f))) (Some k) h in
      let q = was-traced (found (root_at d (function_unit program.main) body_root))
      (λ q. traced (begun d main args heap is_main arity m q)) f.0 f.1 in
      let same : main_track heap (begun d main args heap is_main arity m q.0) ≡ k =
      ap (main_track heap) (traced-same (begun d main args heap is_main arity m q.0) f.0 q.2)
      ∙ some-same (main_track heap f.0) k (traced-same (Some (main_track heap f.0)) (Some k) f.2) in
      subst (Kept p trees (start program args heap)) same
      (track-kept m e q.0
      (found-is (root_at d (function_unit program.main) body_root) q.0 q.1))

-- the first track of a text's program is kept
pub first-kept :
    (program : PlainProgram) (trees : List (Option PlainTree)) → IsWellFormed program →
    IsTextual program → Valid program trees → FirstLaw (nodes_of program trees) trees
first-kept program trees well textual valid main args heap k is_main arity positive e =
    let d : Proved = record { program = program; trees = trees } in
    let w = was-traced (meets_all main.requires (first_meeting main args heap))
    (track_by d main args heap) (Some k) (sym (track-is d main args heap is_main arity) ∙ e) in
    kept-from program trees well textual valid main args heap is_main arity positive w.0 w.1 k w.2
