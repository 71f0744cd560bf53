-- What a contract or an invariant was met by is met again along the tree of its stability, by the
-- table to which others led.
use Rattle.std.proofs.Common.{◌≡◌, inl, inr, ◌<◌, false, List, [], ◌∷◌, length, Some, None, refl, sym, ap, ◌∙◌, subst, arith, ◌≤◌, ℤ, Option, ℕ}
use Rattle.std.specs.Prelude.{slice_get, IsSomeAnd, if◌then◌else◌}
use Rattle.std.specs.List.{AllByRecursion}
use Rattle.cap_lin.specs.declared.row.Sort.TheVariants.{Int}
use Rattle.cap_prog.specs.Program.{Items, item, none}
use Rattle.cap_prog.specs.Scopes.{Scope}
use Rattle.cap_prog.specs.WellFormed.{IsWellFormed}
use Rattle.cap_goal_spec.specs.Terms.{lone_variable}
use Rattle.cap_goal_spec.specs.States.{PlainState, PlainTask, to_give, to_take, to_rest, PlainGoal, goal, goal_of, goals_of}
use Rattle.cap_goal_spec.specs.Choices.{PlainTrees, no_trees, tree}
use Rattle.cap_goal_spec.specs.Environments.{term_of}
use Rattle.cap_rules.specs.Making.{env_at}
use Rattle.cap_machine.specs.Machine.{Heap}
use Rattle.cap_machine_accounts.specs.Assertions.{NameValue}
use Rattle.cap_account_resources.specs.Parts.{cells_of, Table}
use Rattle.cap_account_resources.proofs.Stocks.{Stock}
use Rattle.cap_account_resources.proofs.Tables.{fits-relied}
use Rattle.cap_account_states.proofs.Alike.{agree-alike, alike-agree}
use Rattle.cap_account_states.proofs.Backed.{IsOpened}
use Rattle.cap_account_states.proofs.Checked.{Checked}
use Rattle.cap_account_states.proofs.Items.{AreFit}
use Rattle.cap_account_states.proofs.Meets.{Usable, Old}
use Rattle.cap_account_states.proofs.Naming.{Placed, Means, placed-more}
use Rattle.cap_account_states.proofs.Terms.{vars-more}
use Rattle.cap_account_assertions.proofs.Again.{NamesKept}
use Rattle.cap_account_assertions.proofs.Asserted.{Owns}
use Rattle.cap_account_assertions.proofs.Follows.{alike-between}
use Rattle.cap_account_assertions.proofs.Laws.{StateAt, Reached}
use Rattle.cap_owners_spec.specs.Traced.{traced, ◌>>=◌, valuation}
use Rattle.cap_owners_spec.specs.Track.{Fill, Place, TrackedRegion}
use Rattle.cap_owners_spec.specs.Walks.{Walk, nothing_taken, no_items, Interpreting, leaves, walk}
use Rattle.cap_owners_spec.specs.Steps.{beginning, taken_in_end}
use Rattle.cap_owners_walks_laws.proofs.Fills.Drawn.{IsMetBy, Tells}
use Rattle.cap_owners_walks_laws.proofs.Fills.Giving.{NamesFit}
use Rattle.cap_owners_walks_laws.proofs.Passes.Rests.{into}
use Rattle.cap_owners_walks_laws.proofs.Passes.Gives.{GoesTo}
use Rattle.cap_owners_walks_laws.proofs.Regions.Telling.{ToldFor}
use Rattle.cap_owners_walks_laws.proofs.Regions.Regiven.{Regiven}
use Rattle.cap_owners_walks_laws.proofs.Passes.Takes.{AreNameTerms}
use Rattle.cap_owners_walks_laws.proofs.Regions.Stills.{StillTo, StillsTo, stills, names-stay}

-- where there are no goals a walk leaves
pub leaves-there :
    (enter : Interpreting) (p : Checked) (ks : PlainTrees) (w : Walk) →
    into enter p.program ks [] w ≡ traced (leaves w)
leaves-there enter p no_trees w = refl
leaves-there enter p (tree t ts) w = refl

module _ (p : Checked) (U : Table) (h : Stock) (sc : Scope) (items : Items) where
  -- the part has the items by the table, met by this fill, whose names are the fill's before
  pub record MetAgain (s : PlainState) (f x : Fill) : Type 0 where
    pub fits : NamesFit sc x.names
    pub kept : NamesKept sc (env_at s 1) (valuation f.names) (valuation x.names)
    pub owns : Owns p.program U h (valuation x.names) items
    pub met : IsMetBy p.program U (valuation x.names) items h owns.0 owns.1 x

module _ (p : Checked) (wf : IsWellFormed p.program) (T U : Table) (sc : Scope)
    (f : Fill) (ok : NamesFit sc f.names) (h r : Stock) (reached : Reached p.program T U h)
    (items : Items) (some : no_items items ≡ false) (heap : Heap)
    (within : (a z : ℤ) → h.cells a z ≤ cells_of heap a z) where
  abbrev last : List PlainTask
  last = to_take items 1 0 0 ∷ []

  pub remains : (s : PlainState) → (g : PlainGoal) × (goal_of s (to_take items 1 0 0 ∷ []) ≡ Some g)
  remains s = by items some
    where
      by :
          (is : Items) → no_items is ≡ false →
          (g : PlainGoal) × (goal_of s (to_take is 1 0 0 ∷ []) ≡ Some g)
      by none e = absurd (cc)
      by (item i more) e = (goal s (to_take (item i more) 1 0 0 ∷ []), refl)

  module _ (vs : List NameValue) (s : PlainState) (placed : Placed [] sc s.sorts (env_at s 1))
      (same : Means sc (valuation vs) (env_at s 1) (valuation f.names))
      (alone : AreNameTerms s.sorts (env_at s 1)) (none_open : s.opened ≡ [])
      (two : 1 < length s.envs) (fits : AreFit p.program sc items) (trees : PlainTrees)
      (g : Regiven p wf T U sc f ok h r reached items (to_take items 1 0 0 ∷ []) remains trees vs s)
    where
      abbrev after : PlainState
      after = g.after

      env-kept : env_at g.after 1 ≡ env_at s 1
      env-kept = g.others 1 two (λ e. omega (arith, e))

      there : StateAt p.program [] U sc 1 (valuation g.values) g.after
      there = record {
        grounded = g.grounded;
        facts = g.facts;
        opened =
            subst (AllByRecursion (IsOpened (Usable [] g.after.sorts Int) (valuation g.values) U))
            (sym (g.goes_on.opened ∙ none_open)) tt;
        there = (let n = g.goes_on.envs in omega (arith, two, n));
        placed =
            subst (Placed [] sc g.after.sorts) (sym env-kept)
            (placed-more [] sc s.sorts g.after.sorts (env_at s 1) g.goes_on.sorts placed);
      }

      still-alone : AreNameTerms g.after.sorts (env_at g.after 1)
      still-alone x t e = elim (alone x t (ap (λ env. term_of env x) (sym env-kept) ∙ e)) [
        | inl y ↦ inl (lone-more (lone_variable t) y)
        | inr o ↦ inr (vars-more (λ y. slice_get s.sorts y ≡ Some Int)
            (λ y. slice_get g.after.sorts y ≡ Some Int) (λ y i. g.goes_on.sorts y Int i) t.parts o)
      ]
        where
          lone-more :
              (m : Option ℕ) → IsSomeAnd m (λ y. y < length s.sorts) →
              IsSomeAnd m (λ y. y < length g.after.sorts)
          lone-more None h = absurd h
          lone-more (Some y) h = (let n = g.goes_on.count in omega (arith, h, n))

      takes : StillsTo p [] U sc 1 g.values h g.after items 0 [] g.children
      takes =
          stills p wf.regions [] U sc 1 0 items [] g.children g.values g.after h g.goes there tt
          fits g.backed (fits-relied p.program T U h reached.full reached.relies reached.room)
          g.sorted still-alone heap within

      ends : (t : StillTo p [] U sc 1 g.values h g.after items []) →
          MetAgain p U h sc items s f t.top.fill
      ends t =
          let m = t.on_top some in
          let agree = alike-agree (Old s) (valuation vs) (valuation t.values) refl
          (alike-between s g.after (valuation vs) (valuation g.values) (valuation t.values)
          g.goes_on
          (agree-alike (Old s) (valuation vs) (valuation g.values) g.agree) t.follows.alike) in
          record {
            fits = m.fits;
            kept =
                names-stay [] sc s vs t.values (env_at s 1) (env_at t.after 1) f.names
                t.top.fill.names placed agree
                (λ x o i y q. t.follows.stays x o i y (ap (λ env. term_of env x) env-kept ∙ q)) same
                m.means;
            owns = m.owns;
            met = m.met;
          }

      -- walks that begin with the fill
      pub walk-meets :
          (q : Place) → trees ≡ tree q.tree no_trees →
          goals_of s (to_give items 0 0 ∷ to_rest 0 0 ∷ to_take items 1 0 0 ∷ []) ≡ q.goal ∷ [] →
          (enter : Interpreting) →
          ToldFor U (MetAgain p U h sc items s f)
          (λ rs. walk enter p.program false q.tree q.goal
          (beginning rs vs (nothing_taken ∷ []) (Some f) []) >>= taken_in_end)
      walk-meets q is_tree is_goal enter =
          elim takes [
            | inl wide ↦
                inl (λ rs tells. elim (given rs tells) [
                  | inl w ↦ ap (λ o. o >>= taken_in_end) (enters rs ∙ w)
                  | inr on ↦
                      ap (λ o. o >>= taken_in_end) (enters rs ∙ on ∙ wide enter (given_then rs))
                ])
            | inr t ↦ inr (
              t.0.top.fill,
              ends t.0,
              (λ rs tells. elim (given rs tells) [
                | inl w ↦ inl (ap (λ o. o >>= taken_in_end) (enters rs ∙ w))
                | inr on ↦
                    inr (ap (λ o. o >>= taken_in_end)
                    (enters rs ∙ on ∙ t.1 enter (given_then rs)
                    ∙ leaves-there enter p t.0.children
                    (record (given_then rs) { values = t.0.values; taken = t.0.top ∷ [] })))
              ]),
            )
          ]
        where
          start : List TrackedRegion → Walk
          start rs = beginning rs vs (nothing_taken ∷ []) (Some f) []

          given_then : List TrackedRegion → Walk
          given_then rs = record (beginning rs vs (nothing_taken ∷ []) (Some f) []) {
            values = g.values;
            taken = [];
            fill = if no_items items then Some f else None;
          }

          tasks : List PlainTask
          tasks = to_give items 0 0 ∷ to_rest 0 0 ∷ to_take items 1 0 0 ∷ []

          enters :
              (rs : List TrackedRegion) →
              walk enter p.program false q.tree q.goal
              (beginning rs vs (nothing_taken ∷ []) (Some f) [])
              ≡ into enter p.program trees (goals_of s tasks)
              (beginning rs vs (nothing_taken ∷ []) (Some f) [])
          enters rs =
              λ i. into enter p.program (sym is_tree i) (sym is_goal i)
              (beginning rs vs (nothing_taken ∷ []) (Some f) [])

          given :
              (rs : List TrackedRegion) → Tells rs U →
              GoesTo
              (into enter p.program trees (goals_of s tasks)
              (beginning rs vs (nothing_taken ∷ []) (Some f) []))
              (into enter p.program g.children (goals_of g.after (to_take items 1 0 0 ∷ []))
              (record (beginning rs vs (nothing_taken ∷ []) (Some f) []) {
                values = g.values;
                fill = if no_items items then Some f else None;
              }))
          given rs tells =
              g.walks enter (beginning rs vs (nothing_taken ∷ []) (Some f) []) tells
