-- Contracts and invariants stay true of a part, whatever others do.
use Rattle.std.proofs.Common.{◌≡◌, ℕ, ◌+◌, ◌<◌, ℤ, List, [], ◌∷◌, ◌++◌, length, replicate, arith, refl, ◌∙◌, Some, None}
use Rattle.std.specs.Prelude.{slice_get}
use Rattle.std.specs.List.{AllByRecursion}
use Rattle.cap_lin.specs.Linear.{variable}
use Rattle.cap_lin.specs.declared.row.Sort.{Sort}
use Rattle.cap_lin.specs.declared.row.Sort.TheVariants.{Int}
use Rattle.cap_prog.specs.Program.{Label, PlainAct, set, read, write, cas, faa, dispose, alloc, call, fork, branch, loop, check, give_back, Block, done, first, append, PlainFunction, PlainProgram}
use Rattle.cap_prog.specs.Parts.{block_statements, all_statements}
use Rattle.cap_prog.specs.Scopes.{fixed_start, result_name, invariant_scope}
use Rattle.cap_prog.specs.WellFormed.{IsWellFormed, ActFits, AssertionFits}
use Rattle.cap_machine_accounts.specs.Assertions.{NameValue, ValuesFit}
use Rattle.cap_goal_spec.specs.Terms.{variables_from}
use Rattle.cap_goal_spec.specs.States.{Home}
use Rattle.cap_goal_spec.specs.Environments.{zero_value, unbound}
use Rattle.cap_goal_spec.specs.Roots.{LoopPoint, loops_of, loops_in}
use Rattle.cap_account_resources.specs.Parts.{Table}
use Rattle.cap_account_resources.proofs.Lists.{get-first, all-both, all-first, all-second, Among}
use Rattle.cap_account_resources.proofs.Stocks.{Stock}
use Rattle.cap_account_states.proofs.Terms.{Over}
use Rattle.cap_account_states.proofs.Meets.{Usable}
use Rattle.cap_account_states.proofs.Checked.{Checked}
use Rattle.cap_account_states.proofs.Naming.{values_in}
use Rattle.cap_account_states.proofs.Scopes.{result-ensures, own-result, variables-length, variables-at, rep-length, rep-in}
use Rattle.cap_account_states.proofs.Roots.{function-fits, flat-bound, sorts_of, variables-over, zeros-over}
use Rattle.cap_account_assertions.proofs.Asserted.{OwnsRequires, OwnsEnsures, OwnsInvariant}
use Rattle.cap_account_assertions.proofs.Laws.{GivenLaw, Reached, RestsLaw}
use Rattle.cap_account_assertions.proofs.Follows.{all-among}
use Rattle.cap_account_assertions.proofs.TakenStill.{StillLaw}
use Rattle.cap_account_steps.proofs.Points.{StatementsFit}
use Rattle.cap_account_steps.proofs.Entries.{entry_root, exit_root, loop_root, low-variable}
use Rattle.cap_account_steps.proofs.Bundles.{StableRoots}
use Rattle.cap_account_steps.proofs.Regained.{Regained, given_requires, given_ensures, given_invariant}
use Rattle.cap_account_steps.proofs.RootNames.{LocalsBound, whole-kept, fixed-kept, root-again}

-- ---- the loops of a body have invariants that fit

abbrev pub LoopFits : PlainProgram → PlainFunction → LoopPoint → Type 0
LoopFits p f w = AssertionFits p f (invariant_scope f w.invariant.names) w.invariant

module _ (p : PlainProgram) (f : PlainFunction) where
  mutual
    loops-of-fit :
        (x : PlainAct) (l : Label) (after : Block) → ActFits p f x →
        StatementsFit p f (block_statements x) → AllByRecursion (LoopFits p f) (loops_of x l after)
    loops-of-fit (branch c a b) l after h k =
        all-both (LoopFits p f) (loops_in a after) (loops_in b after)
        (loops-fit a after
        (all-first (λ s. ActFits p f s.act) (all_statements a) (all_statements b) k))
        (loops-fit b after
        (all-second (λ s. ActFits p f s.act) (all_statements a) (all_statements b) k))
    loops-of-fit (loop c i a) l after h k = (h.1, loops-fit a (first l (loop c i a) after) k)
    loops-of-fit (set x t) l after h k = tt
    loops-of-fit (read x a) l after h k = tt
    loops-of-fit (write a t) l after h k = tt
    loops-of-fit (cas x a old new) l after h k = tt
    loops-of-fit (faa x a t) l after h k = tt
    loops-of-fit (dispose a) l after h k = tt
    loops-of-fit (alloc x n) l after h k = tt
    loops-of-fit (call x g args) l after h k = tt
    loops-of-fit (fork g args) l after h k = tt
    loops-of-fit (check c) l after h k = tt
    loops-of-fit (give_back t) l after h k = tt

    pub loops-fit :
        (b after : Block) → StatementsFit p f (all_statements b) →
        AllByRecursion (LoopFits p f) (loops_in b after)
    loops-fit done after h = tt
    loops-fit (first l x rest) after h =
        all-both (LoopFits p f) (loops_of x l (append rest after)) (loops_in rest after)
        (loops-of-fit x l (append rest after) h.0
        (all-first (λ s. ActFits p f s.act) (block_statements x) (all_statements rest) h.1))
        (loops-fit rest after
        (all-second (λ s. ActFits p f s.act) (block_statements x) (all_statements rest) h.1))

-- ---- contracts and invariants

no-locals : {X : Type 0} (i : ℕ) → i < 0 → X
no-locals i l = absurd (omega (arith, l))

module _ (p : Checked) (program : IsWellFormed p.program) (roots : StableRoots p)
    (gives : GivenLaw p) (rests : RestsLaw p) (still : StillLaw p) (T U : Table) (q : Stock)
    (reached : Reached p.program T U q) (n : ℕ) (f : PlainFunction)
    (is : slice_get p.program.functions n ≡ Some f) (fixed : List NameValue)
    (fit : ValuesFit f.fixed fixed) where
  -- the store of a root where locals are 0
  entry-over :
      (rs : List Sort) →
      AllByRecursion (Over (Usable [] (sorts_of f 0 rs) Int))
      (variables_from 0 f.params ++ replicate f.locals zero_value)
  entry-over rs =
      let R = Usable [] (sorts_of f 0 rs) Int in
      all-both (Over R) (variables_from 0 f.params) (replicate f.locals zero_value)
      (variables-over R 0 f.params (λ i x l. (
        get-first (replicate (f.params + 0) Int) (f.fixed ++ rs) i Int
            (rep-in (f.params + 0) i Int (omega (arith, l))),
        tt,
      ))) (zeros-over R f.locals)

  pub requires-stable :
      (args : List ℤ) → length args ≡ f.params → (h : OwnsRequires p.program T q f args fixed) →
      Regained U (given_requires p.program T q n f args fixed h)
      (OwnsRequires p.program U q f args fixed) (λ m. m.values)
  requires-stable args size h =
      let root = entry_root f n h.values in
      let trees = roots.requires n f is in
      let fits = (function-fits p.program program n f is).requires.items in
      let g = root-again root p gives rests still T U q f.requires
      (variables_from 0 f.params ++ replicate f.locals zero_value) trees.0 (entry-over []) trees.1
      fits h.met reached in
      record {
        passage = g.passage;
        u = g.u;
        ends = g.ends;
        each = λ x e.
            let b = values_in x g.passage.env in
            let k = g.each x e in (
              record {
                values = b;
                args_are =
                    whole-kept root b k.kept (λ i l. no-locals i l) args (omega (arith, size))
                    h.args_are;
                fixed_are = fixed-kept root b k.kept fixed fit h.fixed_are;
                met = k.met;
              },
              refl,
            );
      }

  pub ensures-stable :
      (args : List ℤ) (r : ℤ) → length args ≡ f.params →
      (h : OwnsEnsures p.program T q f args fixed r) →
      Regained U (given_ensures p.program T q n f args fixed r h)
      (OwnsEnsures p.program U q f args fixed r) (λ m. m.values)
  ensures-stable args r size h =
      let new = f.ensures.names in
      let root = exit_root f n new h.values in
      let trees = roots.ensures n f is in
      let fits = (function-fits p.program program n f is).ensures.items.items in
      let g = root-again root p gives rests still T U q f.ensures.items
      (variables_from 0 f.params ++ replicate f.locals zero_value) trees.0 (entry-over (Int ∷ []))
      trees.1 fits h.met reached in
      let home : Home = record { function = n; fixed = f.params + 0 } in
      let last = variable (f.params + 0 + length f.fixed) in
      record {
        passage = g.passage;
        u = g.u;
        ends = g.ends;
        each = λ x e.
            let b = values_in x g.passage.env in
            let k = g.each x e in (
              record {
                values = b;
                args_are =
                    whole-kept root b k.kept (λ i l. no-locals i l) args (omega (arith, size))
                    h.args_are;
                fixed_are = fixed-kept root b k.kept fixed fit h.fixed_are;
                result_is =
                    k.kept.whole (result_name f) (result-ensures f new) (
                      last,
                      own-result f home (variables_from 0 f.params) (unbound f.locals) (Some last)
                          (length new) (variables-length 0 f.params) (rep-length f.locals None),
                    )
                    ∙ h.result_is;
                met = k.met;
              },
              refl,
            );
      }

  pub invariant-stable :
      (w : LoopPoint) → Among w (loops_in f.body done) → (store : List ℤ) →
      length store ≡ fixed_start f →
      (h : OwnsInvariant p.program T q f store fixed w.invariant) →
      Regained U (given_invariant p.program T q n f store fixed w.invariant h)
      (OwnsInvariant p.program U q f store fixed w.invariant) (λ m. m.values)
  invariant-stable w among store size h =
      let root = loop_root f n w.invariant.names h.values in
      let trees = roots.invariants n f is w among in
      let R = Usable [] (sorts_of f f.locals []) Int in
      let body = (function-fits p.program program n f is).body in
      let fits = (all-among (LoopFits p.program f) (loops_in f.body done) w
      (loops-fit p.program f f.body done body.statements) among).items.items in
      let over = all-both (Over R) (variables_from 0 f.params) (variables_from f.params f.locals)
      (variables-over R 0 f.params (λ i x l. low-variable f f.locals i (omega (arith, l))))
      (variables-over R f.params f.locals (λ i x l. low-variable f f.locals i l)) in
      let g = root-again root p gives rests still T U q w.invariant.items
      (variables_from 0 f.params ++ variables_from f.params f.locals) trees.0 over trees.1 fits
      h.met reached in
      let known : LocalsBound root = λ i l. (
        variable (f.params + i),
        flat-bound (variables_from f.params f.locals) i ∙ variables-at f.params f.locals i l,
      ) in
      record {
        passage = g.passage;
        u = g.u;
        ends = g.ends;
        each = λ x e.
            let b = values_in x g.passage.env in
            let k = g.each x e in (
              record {
                values = b;
                store_is =
                    whole-kept root b k.kept known store (omega (arith, size)) h.store_is;
                fixed_are = fixed-kept root b k.kept fixed fit h.fixed_are;
                met = k.met;
              },
              refl,
            );
      }
