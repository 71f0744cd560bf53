-- What contracts and invariants are met by when they are met again, along the trees of a valid
-- derivation: a frame that is handed something finds it so by every table that others can reach.
use Rattle.std.proofs.Common.{◌≡◌, inl, inr, ℕ, zero, suc, ◌+◌, ◌*◌, ◌≤◌, ℤ, false, List, [], ◌∷◌, ◌++◌, length, replicate, Option, Some, refl, sym, ap, ◌∙◌, subst, arith}
use Rattle.std.specs.Prelude.{slice_get, flat_map}
use Rattle.std.specs.List.{AllByRecursion, AllZip}
use Rattle.cap_lin.specs.Linear.{Linear}
use Rattle.cap_lin.specs.declared.row.Sort.{Sort}
use Rattle.cap_lin.specs.declared.row.Sort.TheVariants.{Int}
use Rattle.cap_prog.specs.declared.assertion.Comp.{Comp}
use Rattle.cap_prog.specs.Program.{Items, none, item, PlainAssertion, Label, loop, Block, done, first, PlainFunction, PlainProgram}
use Rattle.cap_prog.specs.Scopes.{requires_scope, invariant_scope}
use Rattle.cap_prog.specs.WellFormed.{IsWellFormed}
use Rattle.cap_goal_spec.specs.States.{to_give, to_take, to_rest, goal, goal_of}
use Rattle.cap_goal_spec.specs.Terms.{variables_from}
use Rattle.cap_goal_spec.specs.Environments.{zero_value}
use Rattle.cap_goal_spec.specs.Roots.{LoopPoint, function_unit, at_loop, stability, loop_roots, loops_in, function_roots, optional_roots, roots}
use Rattle.cap_goal_spec.specs.Choices.{PlainTree}
use Rattle.cap_rules.specs.Valid.{Valid}
use Rattle.cap_machine.specs.Machine.{Heap, Frame, with_rest}
use Rattle.cap_machine_accounts.specs.Assertions.{NameValue, ValuesFit}
use Rattle.cap_account_resources.specs.Parts.{cells_of, Table}
use Rattle.cap_account_resources.proofs.Interference.{Relies}
use Rattle.cap_account_resources.proofs.Lists.{some-same, none-some, all-both, get-first}
use Rattle.cap_account_resources.proofs.Stocks.{Stock}
use Rattle.cap_account_states.proofs.Checked.{Checked}
use Rattle.cap_account_states.proofs.Meets.{Usable}
use Rattle.cap_account_states.proofs.Roots.{function-fits, sorts_of, Root, variables-over, zeros-over}
use Rattle.cap_account_states.proofs.Scopes.{rep-in}
use Rattle.cap_account_states.proofs.Terms.{Over}
use Rattle.cap_account_assertions.proofs.Asserted.{OwnsRequires, OwnsInvariant}
use Rattle.cap_account_assertions.proofs.Laws.{Reached}
use Rattle.cap_account_steps.proofs.Entries.{entry_root, exit_root, loop_root, low-variable}
use Rattle.cap_account_steps.proofs.Frames.{Roomy}
use Rattle.cap_account_steps.proofs.Points.{FrameOk, loop_point, point-loop, point-act}
use Rattle.cap_account_steps.proofs.Regained.{Stable, met_again, given_requires, given_invariant}
use Rattle.cap_account_steps.proofs.RootNames.{root_start}
use Rattle.cap_owners_spec.specs.Traced.{traced}
use Rattle.cap_owners_spec.specs.Track.{Fill, Place, GivenAssertion}
use Rattle.cap_owners_spec.specs.Walks.{no_items}
use Rattle.cap_owners_spec.specs.Steps.{Proved, root_at, requires_root, ensures_root, invariant_root, fixed_values}
use Rattle.cap_owners_laws.specs.Owned.{IsTold}
use Rattle.cap_owners_walks_laws.proofs.Values.More.{FitsSort}
use Rattle.cap_owners_walks_laws.proofs.Fills.Drawn.{IsMetOr}
use Rattle.cap_owners_walks_laws.proofs.Fills.Giving.{NamesFit}
use Rattle.cap_owners_walks_laws.proofs.Walks.Rooted.{function-rooted}
use Rattle.cap_owners_walks_laws.proofs.Regions.Contracts.{RootTree, requires-now, ensures-now, invariant-now}
use Rattle.cap_owners_runs_laws.proofs.Tracks.Tied.{nodes_of}
use Rattle.cap_owners_runs_laws.proofs.Tracks.RootValues.{values-sorted, result-sorted, names-known, values-known}
use Rattle.cap_owners_runs_laws.proofs.Tracks.Rooting.{is-root}
use Rattle.cap_owners_runs_laws.proofs.Tracks.LoopRoots.{loop-at}
use Rattle.cap_owners_runs_laws.proofs.Tracks.Waiting.{given_back, AgainLaw}
use Rattle.cap_owners_runs_laws.proofs.Tracks.Callees.{handed_to, CalleeAgain}
use Rattle.cap_owners_runs_laws.proofs.Steps.Looped.{looped_with, LoopedAgain}

-- ---- the store of a root

-- where locals are 0
entry-over :
    (f : PlainFunction) (rs : List Sort) →
    AllByRecursion (Over (Usable [] (sorts_of f 0 rs) Int))
    (variables_from 0 f.params ++ replicate f.locals zero_value)
entry-over f rs =
    let R = Usable [] (sorts_of f 0 rs) Int in
    all-both (Over R) (variables_from 0 f.params) (replicate f.locals zero_value)
    (variables-over R 0 f.params (λ i x l. (
      get-first (replicate (f.params + 0) Int) (f.fixed ++ rs) i Int
          (rep-in (f.params + 0) i Int (omega (arith, l))),
      tt,
    ))) (zeros-over R f.locals)

-- where they have variables
loop-over :
    (f : PlainFunction) →
    AllByRecursion (Over (Usable [] (sorts_of f f.locals []) Int))
    (variables_from 0 f.params ++ variables_from f.params f.locals)
loop-over f =
    let R = Usable [] (sorts_of f f.locals []) Int in
    all-both (Over R) (variables_from 0 f.params) (variables_from f.params f.locals)
    (variables-over R 0 f.params (λ i x l. low-variable f f.locals i (omega (arith, l))))
    (variables-over R f.params f.locals (λ i x l. low-variable f f.locals i l))

-- ---- the tree of a root

-- the stability of loop i has this place
stable-pair :
    (f : PlainFunction) (n : ℕ) (ws : List LoopPoint) (i : ℕ) (w : LoopPoint) →
    slice_get ws i ≡ Some w →
    slice_get (flat_map (loop_roots f n) ws) (2 * i)
    ≡ Some (stability at_loop f n (length w.invariant.names) w.invariant.items)
stable-pair f n [] i w e = absurd (none-some e)
stable-pair f n (v ∷ ws) zero w e =
    let z : 2 * 0 ≡ 0 = omega arith in
    ap (slice_get (flat_map (loop_roots f n) (v ∷ ws))) z
    ∙ ap (λ (u : LoopPoint). Some (stability at_loop f n (length u.invariant.names)
    u.invariant.items)) (some-same v w e)
stable-pair f n (v ∷ ws) (suc i) w e =
    let z : 2 * suc i ≡ suc (suc (2 * i)) = omega arith in
    ap (slice_get (flat_map (loop_roots f n) (v ∷ ws))) z ∙ stable-pair f n ws i w e

loop-stable :
    (f : PlainFunction) (n i : ℕ) (w : LoopPoint) → slice_get (loops_in f.body done) i ≡ Some w →
    slice_get (function_roots f n) (invariant_root i)
    ≡ Some (stability at_loop f n (length w.invariant.names) w.invariant.items)
loop-stable f n i w at =
    let z : 3 + 2 * i ≡ suc (suc (suc (2 * i))) = omega arith in
    ap (slice_get (function_roots f n)) z ∙ stable-pair f n (loops_in f.body done) i w at

module _ (program : PlainProgram) (trees : List (Option PlainTree)) (well : IsWellFormed program)
    (valid : Valid program trees) (stable : Stable program) where
  abbrev p : Checked
  p = nodes_of program trees

  abbrev d : Proved
  d = record { program = program; trees = trees }

  -- an assertion that has items is given and taken again along the tree of its root
  rooted :
      (n : ℕ) (f : PlainFunction) → slice_get program.functions n ≡ Some f → (i : ℕ) (root : Root)
      (items : Items) (store : List Linear) → no_items items ≡ false →
      slice_get (roots program (function_unit n)) i
      ≡ Some (goal_of (root_start root store)
      (to_give items 0 0 ∷ to_rest 0 0 ∷ to_take items 1 0 0 ∷ [])) →
      AllByRecursion (Over (Usable [] (sorts_of root.f root.l root.rs) Int)) store →
      (q : Place) × (root_at d (function_unit n) i ≡ Some q) × RootTree p root items store q
  rooted n f is i root none store some at over = absurd (cc)
  rooted n f is i root (item x more) store some at over =
      let s = root_start root store in
      let items = item x more in
      let ts = to_rest 0 0 ∷ to_take items 1 0 0 ∷ [] in
      let g = goal s (to_give items 0 0 ∷ ts) in
      let r = function-rooted program trees valid n f is i g at in
      let q : Place = record { goal = g; tree = r.tree } in
      let t = is-root program trees valid n f is i s items ts g refl at q r.is_root in
      (q, r.is_root, record { goes = t.goes; is_goal = t.goal_is; over = over })

  -- ---- a promise

  -- what a callee hands over is met again
  pub promise-again : AgainLaw (nodes_of program trees) trees
  promise-again U W handed n g is reached heap within args fixed r count fit fits owns x met have =
      let given = given_back p trees n args fixed r x in
      let root = exit_root g n g.ensures.names owns.values in
      let store = variables_from 0 g.params ++ replicate g.locals zero_value in
      let items = g.ensures.items in
      let all : length args ≡ g.params + 0 = omega (arith, count) in
      elim (ensures-now p well trees U W handed heap within reached given n g args fixed r count fit
      (function-fits program well n g is).ensures.items.items owns met have store
      (λ some. names-known root (r ∷ []) refl x.names (met.names some) args all fixed fit fits
      owns.args_are owns.fixed_are (owns.result_is, tt))
      (result-sorted (g.params + 0) args g.fixed fixed r all fits)
      (λ some. rooted n g is ensures_root root items store some
      (ap (λ o. slice_get (optional_roots o n) 1) is) (entry-over g (Int ∷ [])))) [
        | inl wide ↦ inl wide
        | inr k ↦
            let m = k.1 in
            inr (record {
              owns = m.own;
              fill = m.fill;
              met = m.met;
              fits = m.fits;
              told = λ rs tells. elim (k.2 rs tells) [
                | inl wide ↦ subst (IsTold (λ o. o ≡ Some m.fill)) (sym wide) tt
                | inr e ↦ subst (IsTold (λ o. o ≡ Some m.fill)) (sym e) m.is
              ];
            })
      ]

  -- ---- what is asked of a callee

  module _ (n : ℕ) (g : PlainFunction) (is_g : slice_get program.functions n ≡ Some g)
      (args : List ℤ) (destination : Option ℕ) (count : length args ≡ g.params) (x : Fill)
      (fit : ValuesFit g.fixed (fixed_values g x))
      (fits : AllZip FitsSort g.fixed (fixed_values g x)) (part : Stock) (T : Table)
      (roomy : Roomy program T part) (heap : Heap)
      (within : (a z : ℤ) → part.cells a z ≤ cells_of heap a z)
      (own : OwnsRequires program T part g args (fixed_values g x))
      (met : IsMetOr program T own.values g.requires part own.met.0 own.met.1 x)
      (have : NamesFit (requires_scope g) x.names) where
    abbrev handed : GivenAssertion
    handed =
        handed_to program trees well valid n g is_g args destination count x fit fits part T roomy

    -- it is met again by each table that others can reach
    pub callee-again :
        (U : Table) → Relies program part.guards T U →
        CalleeAgain program trees well valid n g is_g args destination count x fit fits part T roomy
        U
    callee-again U relies =
        let fixed = fixed_values g x in
        let reached : Reached program T U part = record {
          fits = roomy.fits;
          full = roomy.full;
          room = roomy.room;
          relies = relies;
        } in
        let root = entry_root g n own.values in
        let store = variables_from 0 g.params ++ replicate g.locals zero_value in
        let all : length args ≡ g.params + 0 = omega (arith, count) in
        let later = met_again U (given_requires program T part n g args fixed own)
        (OwnsRequires program U part g args fixed) (λ m. m.values)
        (stable.requires T U part n g is_g reached args fixed count fit own) in
        elim (requires-now p well trees T U part heap within reached handed n g args fixed count fit
        (function-fits program well n g is_g).requires.items own met have store
        (λ some. values-known root refl x.names (met.names some) args all fixed fit fits
        own.args_are own.fixed_are)
        (values-sorted (g.params + 0) args g.fixed fixed all fits)
        (λ some. rooted n g is_g requires_root root g.requires store some
        (ap (λ o. slice_get (optional_roots o n) 0) is_g) (entry-over g []))) [
          | inl wide ↦ record { own = later; fills = inr wide }
          | inr k ↦
              let m = k.1 in
              record {
                own = m.own;
                fills = inl (record {
                  fill = m.fill;
                  met = m.met;
                  have = m.fits;
                  comes = λ rs tells. elim (k.2 rs tells) [
                    | inl wide ↦ inl wide
                    | inr e ↦ inr (e ∙ ap traced m.is)
                  ];
                });
              }
        ]

  -- ---- what a loop's turn has

  module _ (fn : PlainFunction) (fixed : List NameValue) (f : Frame) (l : Label) (c : Comp)
      (inv : PlainAssertion) (body b : Block)
      (ok : FrameOk program fn fixed (with_rest f (first l (loop c inv body) b)))
      (fits : AllZip FitsSort fn.fixed fixed) (part : Stock) (T : Table)
      (roomy : Roomy program T part) (x : Fill) (heap : Heap)
      (within : (a z : ℤ) → part.cells a z ≤ cells_of heap a z)
      (own : OwnsInvariant program T part fn f.store fixed inv)
      (met : IsMetOr program T own.values inv.items part own.met.0 own.met.1 x)
      (have : NamesFit (invariant_scope fn inv.names) x.names) where
    -- it is met again by each table that others can reach
    pub loop-again :
        (U : Table) → Relies program part.guards T U →
        LoopedAgain program trees well valid fn fixed f l c inv body b ok fits part T roomy x U
    loop-again U relies i is_loop =
        let n = f.function in
        let is = ok.is_fn in
        let w = loop_point l c inv body b in
        let handed = looped_with program trees well valid fn fixed f l c inv body b ok fits part T
        roomy x i in
        let reached : Reached program T U part = record {
          fits = roomy.fits;
          full = roomy.full;
          room = roomy.room;
          relies = relies;
        } in
        let root = loop_root fn n inv.names own.values in
        let store = variables_from 0 fn.params ++ variables_from fn.params fn.locals in
        let at = loop-at program fn l c inv body b ok.point
        (function-fits program well n fn is).body.numbered i is_loop in
        let later = met_again U (given_invariant program T part n fn f.store fixed inv own)
        (OwnsInvariant program U part fn f.store fixed inv) (λ m. m.values)
        (stable.invariant T U part n fn is w (point-loop program fn l c inv body b ok.point) reached
        f.store fixed ok.size ok.values own) in
        elim (invariant-now p well trees T U part heap within reached handed n fn inv f.store fixed
        ok.size ok.values (point-act program fn l (loop c inv body) b ok.point).1.items.items own met
        have store
        (λ some. values-known root refl x.names (met.names some) f.store ok.size fixed ok.values
        fits own.store_is own.fixed_are)
        (values-sorted (fn.params + fn.locals) f.store fn.fixed fixed ok.size fits)
        (λ some. rooted n fn is (invariant_root i) root inv.items store some
        (ap (λ o. slice_get (optional_roots o n) (invariant_root i)) is
        ∙ loop-stable fn n i w at) (loop-over fn))) [
          | inl wide ↦ record { own = later; fills = inr wide }
          | inr k ↦
              let m = k.1 in
              record {
                own = m.own;
                fills = inl (record {
                  fill = m.fill;
                  met = m.met;
                  have = m.fits;
                  comes = λ rs tells. elim (k.2 rs tells) [
                    | inl wide ↦ inl wide
                    | inr e ↦ inr (e ∙ ap traced m.is)
                  ];
                });
              }
        ]
