-- Items are given by a fill, also where there are none: the state that holds then, and that a walk
-- comes to it.
use Rattle.std.proofs.Common.{◌≡◌, inr, ℕ, ◌-◌, false, List, [], ◌∷◌, Option, Some, None, refl, sym, ap, subst}
use Rattle.std.specs.List.{AllByRecursion, AllZip}
use Rattle.cap_lin.specs.Values.{Valuation}
use Rattle.cap_prog.specs.Program.{Items, none, item}
use Rattle.cap_prog.specs.Scopes.{Scope}
use Rattle.cap_goal_spec.specs.States.{PlainState, PlainTask, to_give, PlainGoal, goal_of, goals_of}
use Rattle.cap_goal_spec.specs.Choices.{PlainTrees}
use Rattle.cap_rules.specs.Making.{env_at}
use Rattle.cap_machine_accounts.specs.Assertions.{NameValue}
use Rattle.cap_account_resources.specs.Parts.{Table}
use Rattle.cap_account_resources.proofs.Stocks.{Stock, both, Composes, none-right, inside-first}
use Rattle.cap_account_states.specs.Nodes.{Open}
use Rattle.cap_account_states.proofs.Backed.{IsFirm, Backed, Grounded, GoesOn}
use Rattle.cap_account_states.proofs.Checked.{Checked}
use Rattle.cap_account_states.proofs.Facts.{Facts}
use Rattle.cap_account_states.proofs.Items.{AreFit}
use Rattle.cap_account_states.proofs.KnowsLater.{backed-more}
use Rattle.cap_account_states.proofs.Meets.{Old}
use Rattle.cap_account_states.proofs.Naming.{Means}
use Rattle.cap_account_states.proofs.Terms.{Agree}
use Rattle.cap_account_assertions.proofs.Asserted.{DrawsAll}
use Rattle.cap_account_assertions.proofs.GiveState.{onward-none}
use Rattle.cap_account_assertions.proofs.Laws.{StateAt}
use Rattle.cap_owners_spec.specs.Traced.{over, valuation}
use Rattle.cap_owners_spec.specs.Track.{Fill}
use Rattle.cap_owners_spec.specs.Walks.{Walk, Interpreting}
use Rattle.cap_owners_walks_laws.proofs.Values.More.{FitsSort}
use Rattle.cap_owners_walks_laws.proofs.Fills.Drawn.{items_met, IsMetOr}
use Rattle.cap_owners_walks_laws.proofs.Fills.Amounts.{items_drawn}
use Rattle.cap_owners_walks_laws.proofs.Fills.Giving.{NamesFit}
use Rattle.cap_owners_walks_laws.proofs.Parts.Held.{IsOf}
use Rattle.cap_owners_walks_laws.proofs.Passes.Rests.{into}
use Rattle.cap_owners_walks_laws.proofs.Passes.Gives.{GoesTo, gives-just}

-- what is drawn at these values is drawn at the names' values, of the same wildcards
record DrawnSo (p : Checked) (W : Table) (names : List NameValue) (items : Items) (h r : Stock)
    (ws : List NameValue) (amount : Stock) : Type 0 where
  draws : DrawsAll p.program W (valuation names) items h r
  met : items_met p.program W (valuation names) items h r draws ≡ ws
  drawn : items_drawn p.program W (valuation names) items h r draws ≡ amount

drawn-so :
    (p : Checked) (W : Table) (a : Valuation) (items : Items) (h r : Stock)
    (d : DrawsAll p.program W a items h r) (names ws : List NameValue) → a ≡ valuation names →
    items_met p.program W a items h r d ≡ ws →
    DrawnSo p W names items h r ws (items_drawn p.program W a items h r d)
drawn-so p W a items h r d names ws e m =
    let amount = items_drawn p.program W a items h r d in
    let k = subst
    (λ v. (d : DrawsAll p.program W v items h r) × (items_met p.program W v items h r d ≡ ws)
    × (items_drawn p.program W v items h r d ≡ amount)) e
    (d, m, refl) in
    record { draws = k.0; met = k.1; drawn = k.2 }

module _ (p : Checked) (W : Table) (sc : Scope) (e n : ℕ) (held h : Stock) (ts : List PlainTask)
    (remains : (s : PlainState) → (g : PlainGoal) × (goal_of s ts ≡ Some g))
    (ne : Composes (both p.program held h)) where
  -- behind the items the state holds of what was held and of what was given, it has just so much
  -- more, and a walk that is to give them by the fill comes there
  pub record GivenSo (items : Items) (x : Fill) (trees : PlainTrees) (vs : List NameValue)
      (s : PlainState) (more : Stock) : Type 0 where
    pub w : Valuation
    pub after : PlainState
    pub children : PlainTrees
    pub goes : Open p.N children after ts
    pub grounded : Grounded p.program [] w after
    pub facts : Facts [] w W after
    pub firm : AllByRecursion IsFirm after.facts
    pub backed : Backed p.program w after (both p.program held h)
    pub just :
        (q : Stock) → IsOf p.program (valuation vs) s q →
        IsOf p.program w after (both p.program q more)
    pub agree : Agree (Old s) (valuation vs) w
    pub goes_on : GoesOn s after
    pub values : List NameValue
    pub valued : w ≡ valuation values
    pub sorted : AllZip FitsSort after.sorts values
    pub left : Option Fill
    pub walks :
        (enter : Interpreting) (w : Walk) →
        GoesTo
        (into enter p.program trees (goals_of s (to_give items e n ∷ ts))
        (record w { values = vs; fill = Some x }))
        (into enter p.program children (goals_of after ts)
        (record w { values = values; fill = left }))

  pub given-so :
      (items : Items) (x : Fill) (a : Valuation) (r : Stock)
      (d : DrawsAll p.program W a items h r) → IsMetOr p.program W a items h r d x →
      NamesFit sc x.names → (trees : PlainTrees) (vs : List NameValue) (s : PlainState) →
      Open p.N trees s (to_give items e n ∷ ts) →
      StateAt p.program [] W sc e (valuation vs) s → AllByRecursion IsFirm s.facts →
      (a.fraction.under ≡ over - 1 → Means sc (valuation vs) (env_at s e) a) →
      AreFit p.program sc items → Backed p.program (valuation vs) s held →
      AllZip FitsSort s.sorts vs →
      GivenSo items x trees vs s (items_drawn p.program W a items h r d)
  given-so none x a r d m ok trees vs s goes at firm means fit b sorted =
      let on = onward-none e (valuation vs) s in
      record {
        w = valuation vs;
        after = s;
        children = trees;
        goes = goes;
        grounded = at.grounded;
        facts = at.facts;
        firm = firm;
        backed =
            backed-more p.program (valuation vs) s held (both p.program held h)
            (inside-first p.program held h) b;
        just = λ q o. subst (IsOf p.program (valuation vs) s) (sym (none-right p.program q)) o;
        agree = on.agree;
        goes_on = on.goes_on;
        values = vs;
        valued = refl;
        sorted = sorted;
        left = Some x;
        walks = λ enter w. inr refl;
      }
  given-so (item i more) x a r d m ok trees vs s goes at firm means fit b sorted =
      let named = m.names refl in
      let k = drawn-so p W a (item i more) h r d x.names x.wildcards named m.wildcards in
      let all = gives-just p W sc e n x.names ok held h r (item i more) ts remains trees vs s goes at
      firm (subst (Means sc (valuation vs) (env_at s e)) named
      (means (ap (λ (u : Valuation). u.fraction.under) named))) fit k.draws b ne sorted in
      let g = all.gives in
      record {
        w = g.given.w;
        after = g.given.after;
        children = g.given.children;
        goes = g.given.goes;
        grounded = g.given.grounded;
        facts = g.given.facts;
        firm = g.given.firm;
        backed = g.given.backed;
        just = λ q o.
            subst (λ z. IsOf p.program g.given.w g.given.after (both p.program q z)) k.drawn
            (all.just q o);
        agree = g.given.agree;
        goes_on = g.given.goes_on;
        values = g.values;
        valued = g.valued;
        sorted = g.sorted;
        left = None;
        walks = λ enter w.
            subst
            (λ ws. GoesTo
            (into enter p.program trees (goals_of s (to_give (item i more) e n ∷ ts))
            (record w {
              values = vs;
              fill = Some (record { names = x.names; wildcards = ws; facts = x.facts });
            }))
            (into enter p.program g.given.children (goals_of g.given.after ts)
            (record w { values = g.values; fill = None }))) k.met (g.walks false enter w x.facts);
      }
