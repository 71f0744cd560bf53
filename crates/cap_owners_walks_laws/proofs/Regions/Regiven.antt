-- What was met is given again at a root, and rests: so it is known by a table that others led to,
-- at the values that a walk has there.
use Rattle.std.proofs.Common.{◌≡◌, ◌≢◌, inl, inr, ℕ, ◌<◌, Bool, true, false, List, [], ◌∷◌, length, Some, None, refl, sym, ap, ◌∙◌, subst, arith}
use Rattle.std.specs.Prelude.{get_or, ◌==◌, if◌then◌else◌}
use Rattle.std.specs.List.{AllByRecursion, AllZip}
use Rattle.cap_lin.specs.declared.row.Sort.{Sort}
use Rattle.cap_lin.specs.declared.row.Sort.TheVariants.{Int}
use Rattle.cap_prog.specs.Program.{Items}
use Rattle.cap_prog.specs.Scopes.{Scope}
use Rattle.cap_prog.specs.WellFormed.{IsWellFormed}
use Rattle.cap_goal_spec.specs.States.{PlainState, PlainTask, to_give, to_rest, PlainGoal, goal, goal_of, goals_of}
use Rattle.cap_goal_spec.specs.Choices.{PlainTrees}
use Rattle.cap_rules.specs.Making.{env_at}
use Rattle.cap_machine_accounts.specs.Assertions.{NameValue}
use Rattle.cap_account_resources.specs.Parts.{Table}
use Rattle.cap_account_resources.proofs.Room.{room, room-some, part-some}
use Rattle.cap_account_resources.proofs.Stocks.{Stock, no_stock, both, Composes, stock-laws}
use Rattle.cap_account_states.specs.Nodes.{Open}
use Rattle.cap_account_states.proofs.Backed.{IsFirm, Backed, Grounded, GoesOn}
use Rattle.cap_account_states.proofs.Checked.{Checked}
use Rattle.cap_account_states.proofs.Facts.{FactHolds, FactOver, Facts}
use Rattle.cap_account_states.proofs.Filled.{filled_at}
use Rattle.cap_account_states.proofs.Items.{AreFit}
use Rattle.cap_account_states.proofs.Meets.{Usable, Old}
use Rattle.cap_account_states.proofs.Naming.{Means}
use Rattle.cap_account_states.proofs.Terms.{Agree, agree-trans, agree-less}
use Rattle.cap_account_assertions.proofs.Asserted.{DrawsAll}
use Rattle.cap_account_assertions.proofs.Filling.{fill_items}
use Rattle.cap_account_assertions.proofs.Laws.{StateAt, Reached}
use Rattle.cap_account_steps.proofs.Entering.{firm-exact, firm-over}
use Rattle.cap_account_steps.proofs.Exact.{all-two}
use Rattle.cap_account_steps.proofs.RestLaws.{exact-facts}
use Rattle.cap_account_steps.proofs.Turning.{Reaching, backed-before}
use Rattle.cap_account_steps.proofs.Worlds.{Exact, AllOver}
use Rattle.cap_owners_spec.specs.Traced.{valuation}
use Rattle.cap_owners_spec.specs.Track.{Fill}
use Rattle.cap_owners_spec.specs.Walks.{Walk, no_items, Interpreting}
use Rattle.cap_owners_walks_laws.proofs.Values.More.{FitsSort}
use Rattle.cap_owners_walks_laws.proofs.Fills.Drawn.{items_met, Tells}
use Rattle.cap_owners_walks_laws.proofs.Fills.Giving.{NamesFit}
use Rattle.cap_owners_walks_laws.proofs.Passes.Rests.{into, RestsTo, rests-to}
use Rattle.cap_owners_walks_laws.proofs.Passes.Gives.{GoesTo, GivesTo, gives-to}

-- each variable has a value of its sort
abbrev pub AreSorted : List Sort → List NameValue → Type 0
AreSorted os vs = AllZip FitsSort os vs

pub either-way : {A : Type 0} (b : Bool) (x y z : A) → x ≡ z → y ≡ z → (if b then x else y) ≡ z
either-way true x y z e k = e
either-way false x y z e k = k

module _ (p : Checked) (wf : IsWellFormed p.program) (T U : Table) (sc : Scope) (f : Fill)
    (ok : NamesFit sc f.names) (h r : Stock) (reached : Reached p.program T U h) (items : Items)
    (ts : List PlainTask)
    (remains : (s : PlainState) → (g : PlainGoal) × (goal_of s ts ≡ Some g)) where
  -- something is to be done also where all facts have rested
  pub rest-remains :
      (s : PlainState) → (g : PlainGoal) × (goal_of s (to_rest 0 0 ∷ ts) ≡ Some g)
  rest-remains s = by (0 == length s.facts)
    where
      by :
          (b : Bool) →
          (g : PlainGoal)
          × ((if b then goal_of s ts else Some (goal s (to_rest 0 0 ∷ ts))) ≡ Some g)
      by true = remains s
      by false = (goal s (to_rest 0 0 ∷ ts), refl)

  alone : both p.program no_stock h ≡ h
  alone = (stock-laws p.program).zero_left h

  pub alone-composes : Composes (both p.program no_stock h)
  alone-composes =
      subst Composes (sym alone)
      (λ n. part-some p.program (h.guards n) (room p.program T n) (reached.room n)
      (room-some p.program T n))

  -- the items are given at these values, and nothing else is held
  abbrev pub GivenTo :
      (trees : PlainTrees) (vs : List NameValue) (s : PlainState) →
      DrawsAll p.program T (valuation f.names) items h r → Type 0
  GivenTo trees vs s d =
      GivesTo p T sc 0 f.names ok (both p.program no_stock h)
      (fill_items p.program T (valuation f.names) items h r d (filled_at 0 (valuation vs) s))
      alone-composes 0 (to_rest 0 0 ∷ ts) rest-remains [] items trees vs
      (items_met p.program T (valuation f.names) items h r d) (valuation vs) s

  -- the part is what the state has, by the later table; a walk that gives by the fill comes here
  pub record Regiven (trees : PlainTrees) (vs : List NameValue) (s : PlainState) : Type 0 where
    pub values : List NameValue
    pub after : PlainState
    pub children : PlainTrees
    pub goes : Open p.N children after ts
    pub grounded : Grounded p.program [] (valuation values) after
    pub facts : Facts [] (valuation values) U after
    pub firm : AllByRecursion IsFirm after.facts
    pub backed : Backed p.program (valuation values) after h
    pub agree : Agree (Old s) (valuation vs) (valuation values)
    pub goes_on : GoesOn s after
    pub others : (x : ℕ) → x < length s.envs → x ≢ 0 → env_at after x ≡ env_at s x
    pub sorted : AreSorted after.sorts values
    pub walks :
        (enter : Interpreting) (w : Walk) → Tells w.regions U →
        GoesTo
        (into enter p.program trees (goals_of s (to_give items 0 0 ∷ to_rest 0 0 ∷ ts))
        (record w { values = vs; fill = Some f }))
        (into enter p.program children (goals_of after ts)
        (record w { values = values; fill = if no_items items then Some f else None }))

  module _ (trees : PlainTrees) (vs : List NameValue) (s : PlainState)
      (d : DrawsAll p.program T (valuation f.names) items h r)
      (met : items_met p.program T (valuation f.names) items h r d ≡ f.wildcards)
      (g : GivenTo trees vs s d) where
    abbrev s1 : PlainState
    s1 = g.given.after

    grounded1 : Grounded p.program [] (valuation g.values) g.given.after
    grounded1 = subst (λ u. Grounded p.program [] u g.given.after) g.valued g.given.grounded

    facts1 : Facts [] (valuation g.values) T g.given.after
    facts1 = subst (λ u. Facts [] u T g.given.after) g.valued g.given.facts

    exact1 : AllByRecursion (Exact (valuation g.values) T) g.given.after.facts
    exact1 =
        let v = valuation g.values in
        all-two IsFirm (FactHolds v T) (Exact v T) (λ x i k. firm-exact v T x i k) s1.facts
        g.given.firm facts1.holds

    over1 : AllByRecursion (AllOver (Usable [] g.given.after.sorts Int)) g.given.after.facts
    over1 =
        let R = Usable [] s1.sorts Int in
        all-two IsFirm (FactOver R) (AllOver R) (λ x i k. firm-over R x i k) s1.facts g.given.firm
        facts1.over

    backed1 : Backed p.program (valuation g.values) g.given.after h
    backed1 =
        subst (Backed p.program (valuation g.values) g.given.after) alone
        (subst (λ u. Backed p.program u g.given.after (both p.program no_stock h)) g.valued
        g.given.backed)

    abbrev reaching : Reaching p.program h T U
    reaching = record {
      regions = wf.regions;
      fits = reached.fits;
      room = reached.room;
      relies = reached.relies;
    }

    abbrev RestedHere : Type 0
    RestedHere =
        RestsTo p h T U (record {
          regions = wf.regions;
          fits = reached.fits;
          room = reached.room;
          relies = reached.relies;
        }) 0 ts 0 g.given.after g.given.children g.values

    rested : RestedHere
    rested =
        rests-to p h T U reaching 0 ts g.given.after g.given.children g.values g.sorted grounded1
        over1 exact1 backed1 g.given.goes

    same-fill :
        record {
          names = f.names;
          wildcards = items_met p.program T (valuation f.names) items h r d;
          facts = f.facts;
        }
        ≡ f
    same-fill =
        ap (λ ws. record { names = f.names; wildcards = ws; facts = f.facts }) met

    module _ (m : RestedHere) where
      abbrev last : PlainState
      last = m.rest.after

      abbrev At : (PlainState → Type 0) → Type 0
      At A = A m.rest.after

      pub regiven-from : Regiven trees vs s
      regiven-from =
          let first = g.given.goes_on in
          let more = m.rest.as_before.goes_on in
          let count = first.count in
          let v1 = valuation g.values in
          record {
            values = m.values;
            after = m.rest.after;
            children = m.rest.children;
            goes = m.rest.goes;
            grounded =
                subst (λ u. Grounded p.program [] u m.rest.after) m.valued m.rest.grounded;
            facts =
                subst (λ u. Facts [] u U m.rest.after) m.valued
                (exact-facts m.rest.w U m.rest.after m.rest.firm m.rest.exact m.rest.over);
            firm = m.rest.firm;
            backed =
                subst (λ u. Backed p.program u m.rest.after h) m.valued
                (backed-before p.program [] v1 m.rest.w s1 m.rest.after m.rest.as_before grounded1 h
                backed1);
            agree =
                subst (Agree (Old s) (valuation vs)) m.valued
                (agree-trans (Old s) (valuation vs) v1 m.rest.w
                (subst (Agree (Old s) (valuation vs)) g.valued g.given.agree)
                (agree-less (Old s) (Old s1) v1 m.rest.w (λ x l. omega (arith, l, count))
                m.rest.as_before.agree));
            goes_on = record {
              sorts = λ x o e. more.sorts x o (first.sorts x o e);
              count = (let n = more.count in omega (arith, count, n));
              store = more.store ∙ first.store;
              opened = more.opened ∙ first.opened;
              before = more.before ∙ first.before;
              envs = (let i = first.envs in let j = more.envs in omega (arith, i, j));
            };
            others = λ x l ne.
                ap (λ es. get_or es x []) m.rest.as_before.envs ∙ g.given.others x l ne;
            sorted = m.sorted;
            walks = λ enter w tells.
                let end = if no_items items then Some f else None in
                let begin = ap (λ o. into enter p.program trees
                (goals_of s (to_give items 0 0 ∷ to_rest 0 0 ∷ ts))
                (record w { values = vs; fill = o }))
                (sym (either-way (no_items items) (Some f) (Some (record {
                  names = f.names;
                  wildcards = items_met p.program T (valuation f.names) items h r d;
                  facts = f.facts;
                })) (Some f) refl (ap Some same-fill))) in
                elim (g.walks false enter (record w { fill = Some f }) f.facts) [
                  | inl wide ↦ inl (begin ∙ wide)
                  | inr on ↦ elim (m.walks enter (record w { fill = end }) tells) [
                    | inl wide ↦ inl (begin ∙ on ∙ wide)
                    | inr there ↦ inr (begin ∙ on ∙ there)
                  ]
                ];
          }

    pub regiven : Regiven trees vs s
    regiven = regiven-from rested

  -- from the root on
  pub given-again :
      (trees : PlainTrees) (vs : List NameValue) (s : PlainState) →
      Open p.N trees s (to_give items 0 0 ∷ to_rest 0 0 ∷ ts) →
      StateAt p.program [] T sc 0 (valuation vs) s → AllByRecursion IsFirm s.facts →
      Means sc (valuation vs) (env_at s 0) (valuation f.names) → AreFit p.program sc items →
      (d : DrawsAll p.program T (valuation f.names) items h r) →
      items_met p.program T (valuation f.names) items h r d ≡ f.wildcards →
      Backed p.program (valuation vs) s no_stock → AreSorted s.sorts vs → Regiven trees vs s
  given-again trees vs s goes at firm means fits d met backed sorted =
      regiven trees vs s d met
      (gives-to p T sc 0 0 f.names ok no_stock h r items (to_rest 0 0 ∷ ts) rest-remains trees vs s
      goes at firm means fits d backed alone-composes sorted)
