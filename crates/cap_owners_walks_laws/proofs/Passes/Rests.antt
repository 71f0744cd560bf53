-- A walk over Rests: facts rest in turn, and those that settle get the state in which their region
-- is by now. The walk comes to the goals to which the Rests lead, at the values at which the state
-- holds there.
use Rattle.std.proofs.Common.{◌≡◌, ◌⊎◌, inl, inr, ℕ, zero, suc, ◌+◌, ◌<◌, ℤ, Bool, true, false, List, [], ◌∷◌, ◌++◌, length, map, drop, Option, Some, None, refl, sym, ap, ◌∙◌, subst, arith}
use Rattle.std.specs.Prelude.{slice_get, option_map, option_to_list, ◌==◌, if◌then◌else◌}
use Rattle.std.specs.List.{AllZip, AllByRecursion}
use Rattle.std.proofs.lemmas.Bool.Decides.{nat_tests}
use Rattle.std.proofs.lemmas.Slice.Zip.{AllZip-long}
use Rattle.cap_lin.specs.Values.{value}
use Rattle.cap_lin.specs.declared.row.Sort.TheVariants.{Int}
use Rattle.cap_prog.specs.Program.{PlainProgram}
use Rattle.cap_goal_spec.specs.States.{PlainFact, PlainState, PlainTask, to_rest, PlainGoal, goal, goal_of, goals_of}
use Rattle.cap_goal_spec.specs.Choices.{PlainChoice, by_absurd, by_settle, by_keep, PlainTree, node, PlainTrees, no_trees, tree}
use Rattle.cap_rules_nodes.specs.Nodes.{goals_left}
use Rattle.cap_machine_accounts.specs.Assertions.{NameValue, a_number}
use Rattle.cap_account_resources.specs.Parts.{Known, known_as, Table}
use Rattle.cap_account_resources.proofs.Lists.{some-same, none-some, all-at}
use Rattle.cap_account_resources.proofs.Stocks.{Stock}
use Rattle.cap_account_states.specs.Nodes.{Open}
use Rattle.cap_account_states.proofs.Checked.{Checked}
use Rattle.cap_account_states.proofs.Meets.{Usable, solves}
use Rattle.cap_account_states.proofs.Backed.{Backed, Grounded}
use Rattle.cap_account_assertions.proofs.Named.{set_to, told_state, known_state}
use Rattle.cap_account_steps.proofs.Worlds.{Exact, AllOver}
use Rattle.cap_account_steps.proofs.Turning.{Midway, Turned, Reaching}
use Rattle.cap_account_steps.proofs.Resting.{AtRest, Next, next-turn, rests-none, rests-more, rest-node}
use Rattle.cap_owners_spec.specs.Traced.{Traced, traced, past_width, untold, ◌>>=◌, found, valuation, number_in}
use Rattle.cap_owners_spec.specs.Track.{TrackedRegion, tracked_at}
use Rattle.cap_owners_spec.specs.Walks.{Walk, descends, on, bringing, state_at, pass_settle, Interpreting, pass_task, Halt, walk_below}
use Rattle.cap_owners_walks_laws.proofs.Values.Numbers.{valuation-number, number-is}
use Rattle.cap_owners_walks_laws.proofs.Values.More.{FitsSort, sorted-more, number-told}
use Rattle.cap_owners_walks_laws.proofs.Fills.Drawn.{Tells}
use Rattle.cap_owners_walks_laws.proofs.Walks.Leading.{Left, node-leads}

-- ---- walks into trees

-- into the tree of the first of these goals, on the way to a seat or not
abbrev pub walks_into :
    Bool → Interpreting → PlainProgram → PlainTrees → List PlainGoal → Walk → Traced Halt
walks_into seating enter p ks gs w = walk_below enter p seating ks gs (traced (descends (Some 0) w))

abbrev pub into : Interpreting → PlainProgram → PlainTrees → List PlainGoal → Walk → Traced Halt
into enter p ks gs w = walk_below enter p false ks gs (traced (descends (Some 0) w))

-- ---- the state of a region

-- the region of this number, by the table that it tells
pub told-region :
    (rs : List TrackedRegion) (U : Table) (n : ℤ) (k : ℕ) (args : List ℤ) (z : ℤ) → Tells rs U →
    U n ≡ Some (known_as k args (Some z)) →
    (r : TrackedRegion) × (tracked_at rs n ≡ Some r) × (r.owned.region.state ≡ z)
told-region rs U n k args z tells e = by (tracked_at rs n) refl (tells n ∙ e)
  where
    by :
        (o : Option TrackedRegion) → tracked_at rs n ≡ o →
        option_map
        (λ (r : TrackedRegion).
        known_as r.owned.region.kind r.owned.region.args (Some r.owned.region.state)) o
        ≡ Some (known_as k args (Some z)) →
        (r : TrackedRegion) × (tracked_at rs n ≡ Some r) × (r.owned.region.state ≡ z)
    by None q h = absurd (none-some h)
    by (Some r) q h = (
      r,
      q,
      some-same r.owned.region.state z
          (ap (λ (y : Known). y.state)
          (some-same
          (known_as r.owned.region.kind r.owned.region.args (Some r.owned.region.state))
          (known_as k args (Some z)) h)),
    )

-- the fact gets the state in which its region is
pub settle-passes :
    (U : Table) (s : PlainState) (j : ℕ) (f : PlainFact) (w : Walk) (k : ℕ) (args : List ℤ)
    (z : ℤ) →
    slice_get s.facts j ≡ Some f → Tells w.regions U →
    U (value (valuation w.values).whole f.region) ≡ Some (known_as k args (Some z)) →
    (pass_settle s j w ≡ past_width) ⊎ (pass_settle s j w ≡ on 0 (bringing w (a_number z ∷ [])))
settle-passes U s j f w k args z e tells is =
    by (number_in w.values f.region) refl
    (ap (λ o. found o >>= λ (g : PlainFact). number_in w.values g.region >>= λ n.
    state_at w n >>= λ y. on 0 (bringing w (a_number y ∷ []))) e)
  where
    by :
        (m : Traced ℤ) → number_in w.values f.region ≡ m →
        pass_settle s j w
        ≡ (number_in w.values f.region >>= λ n.
        state_at w n >>= λ y. on 0 (bringing w (a_number y ∷ []))) →
        (pass_settle s j w ≡ past_width)
        ⊎ (pass_settle s j w ≡ on 0 (bringing w (a_number z ∷ [])))
    by untold q h = absurd (number-told w.values f.region q)
    by past_width q h =
        inl (h ∙ ap (λ o. o >>= λ n. state_at w n >>= λ y. on 0 (bringing w (a_number y ∷ []))) q)
    by (traced n) q h =
        let r = told-region w.regions U (value (valuation w.values).whole f.region) k args z tells
        is in
        inr (h
        ∙ ap (λ o. o >>= λ n. state_at w n >>= λ y. on 0 (bringing w (a_number y ∷ []))) q
        ∙ ap (λ m. state_at w m >>= λ y. on 0 (bringing w (a_number y ∷ [])))
        (number-is w.values f.region n q)
        ∙ ap (λ o. (found o >>= λ (r : TrackedRegion). traced r.owned.region.state) >>= λ y.
        on 0 (bringing w (a_number y ∷ []))) r.1
        ∙ ap (λ y. on 0 (bringing w (a_number y ∷ []))) r.2)

-- ---- the chain

pub below-wide :
    (enter : Interpreting) (p : PlainProgram) (b : Bool) (ks : PlainTrees) (gs : List PlainGoal) →
    walk_below enter p b ks gs past_width ≡ past_width
below-wide enter p b no_trees gs = refl
below-wide enter p b (tree t ts) [] = refl
below-wide enter p b (tree t ts) (g ∷ gs) = refl

module _ (p : Checked) (part : Stock) (T U : Table) (reaching : Reaching p.program part T U)
    (n : ℕ) (ts : List PlainTask) where
  abbrev pub Into : Interpreting → PlainTrees → PlainState → List PlainTask → Walk → Traced Halt
  Into enter ks s us w = into enter p.program ks (goals_of s us) w

  -- From fact j on the Rests lead so, from these values. A walk at these values goes there, unless
  -- a number leaves its bounds.
  pub record RestsTo (j : ℕ) (s : PlainState) (trees : PlainTrees) (vs : List NameValue)
      : Type 0 where
    pub rest : AtRest p [] U (valuation vs) s ts (drop j s.facts) trees
    pub values : List NameValue
    pub valued : rest.w ≡ valuation values
    pub sorted : AllZip FitsSort rest.after.sorts values
    pub walks :
        (enter : Interpreting) (w : Walk) → Tells w.regions U →
        (Into enter trees s (to_rest j n ∷ ts) (record w { values = vs }) ≡ past_width)
        ⊎ (Into enter trees s (to_rest j n ∷ ts) (record w { values = vs })
        ≡ Into enter rest.children rest.after ts (record w { values = values }))

  none-rests :
      (j : ℕ) (s : PlainState) (trees : PlainTrees) (vs : List NameValue) → j ≡ length s.facts →
      AllZip FitsSort s.sorts vs → Midway p.program [] part T U j (valuation vs) s →
      Open p.N trees s (to_rest j n ∷ ts) → RestsTo j s trees vs
  none-rests j s trees vs count sorted mid goes =
      let all : (j == length s.facts) ≡ true = grind (arith, nat_tests, count) in
      record {
        rest = rests-none p [] part T U reaching j n ts trees (valuation vs) s count mid goes;
        values = vs;
        valued = refl;
        sorted = sorted;
        walks = λ enter w tells.
            inr (ap (λ b. into enter p.program trees (option_to_list
            (if b then goal_of s ts else Some (goal s (to_rest j n ∷ ts))))
            (record w { values = vs })) all);
      }

  -- into the tree of fact j
  at-node :
      (enter : Interpreting) (j : ℕ) (s : PlainState) (c : PlainChoice) (kids : PlainTrees)
      (w : Walk) → j < length s.facts →
      Into enter (tree (node c kids) no_trees) s (to_rest j n ∷ ts) w
      ≡ walk_below enter p.program false kids
      (goals_left p.program (goal s (to_rest j n ∷ ts)) c)
      (pass_task enter p.program s c (to_rest j n) ts w)
  at-node enter j s c kids w l =
      let more : (j == length s.facts) ≡ false = grind (arith, nat_tests, l) in
      ap (λ b. into enter p.program (tree (node c kids) no_trees) (option_to_list
      (if b then goal_of s ts else Some (goal s (to_rest j n ∷ ts)))) w) more

  -- one fact rests, and then the others
  one-rests :
      (j : ℕ) (s : PlainState) (c : PlainChoice) (kids : PlainTrees) (us vs : List NameValue)
      (turn : Next p [] part T U reaching (Left p c kids (goal s (to_rest j n ∷ ts))) j n ts
      (valuation us) s c kids) → turn.w ≡ valuation vs → j < length s.facts →
      ((enter : Interpreting) (w : Walk) → Tells w.regions U →
      (pass_task enter p.program s c (to_rest j n) ts (record w { values = us }) ≡ past_width)
      ⊎ (pass_task enter p.program s c (to_rest j n) ts (record w { values = us })
      ≡ on 0 (record w { values = vs }))) → RestsTo (suc j) turn.state kids vs →
      RestsTo j s (tree (node c kids) no_trees) us
  one-rests j s c kids us vs turn e l passes later = record {
    rest = rests-more p [] part T U reaching (Left p c kids (goal s (to_rest j n ∷ ts))) j n ts
        (valuation us) s c kids (record {
          state = turn.state;
          w = valuation vs;
          goes = turn.goes;
          turned =
              subst (λ u. Turned p.program [] part T U j (valuation us) u s turn.state) e
              turn.turned;
          f = turn.f;
          g = turn.g;
          is_fact = turn.is_fact;
          facts = turn.facts;
          value = sym e ∙ turn.value;
          sorts = turn.sorts;
        }) later.rest;
    values = later.values;
    valued = later.valued;
    sorted = later.sorted;
    walks = λ enter w tells.
        let gs = goals_left p.program (goal s (to_rest j n ∷ ts)) c in
        let here = at-node enter j s c kids (record w { values = us }) l in
        elim (passes enter w tells) [
          | inl wide ↦
              inl (here
              ∙ ap (walk_below enter p.program false kids gs) wide
              ∙ below-wide enter p.program false kids gs)
          | inr goes ↦
              let there = here
              ∙ (λ i. walk_below enter p.program false kids (turn.goes.0 i) (goes i)) in
              elim (later.walks enter w tells) [
                | inl wide ↦ inl (there ∙ wide)
                | inr on ↦ inr (there ∙ on)
              ]
        ];
  }

  -- by the choice of fact j
  node-rests :
      (j : ℕ) (s : PlainState) (us : List NameValue) (d : PlainTree) →
      p.N d s (to_rest j n ∷ ts) → j < length s.facts → AllZip FitsSort s.sorts us →
      Midway p.program [] part T U j (valuation us) s →
      ((t : PlainState) (kids : PlainTrees) (vs : List NameValue) →
      length t.facts ≡ length s.facts → AllZip FitsSort t.sorts vs →
      Midway p.program [] part T U (suc j) (valuation vs) t →
      Open p.N kids t (to_rest (suc j) n ∷ ts) → RestsTo (suc j) t kids vs) →
      RestsTo j s (tree d no_trees) us
  node-rests j s us (node (by_absurd c) kids) h l sorted mid later =
      absurd ((p.step h).0.0 (valuation us) (solves [] (valuation us) s mid.grounded.meets))
  node-rests j s us (node (by_keep cs) kids) h l sorted mid later =
      let c = by_keep cs in
      let turn = next-turn p [] part T U reaching (Left p c kids (goal s (to_rest j n ∷ ts))) j n ts
      (valuation us) s mid c kids (node-leads p c kids s (to_rest j n ∷ ts) h) in
      one-rests j s c kids us us turn turn.value l (λ enter w tells. inr refl)
      (later turn.state kids us turn.turned.before.facts
      (subst (λ os. AllZip FitsSort os us) (sym turn.sorts) sorted)
      (subst (λ u. Midway p.program [] part T U (suc j) u turn.state) turn.value
      turn.turned.midway) turn.goes.1)
  node-rests j s us (node (by_settle list cs) kids) h l sorted mid later =
      let c = by_settle list cs in
      let v = valuation us in
      let turn = next-turn p [] part T U reaching (Left p c kids (goal s (to_rest j n ∷ ts))) j n ts
      v s mid c kids (node-leads p c kids s (to_rest j n ∷ ts) h) in
      let f = turn.f in
      let args = map (value v.whole) f.args in
      let now = reaching.relies (value v.whole f.region) f.kind args (value v.whole f.state)
      ((mid.due j f turn.is_fact).2 (omega arith)) in
      let z = now.0 in
      let vs = us ++ a_number z ∷ [] in
      let told : told_state U v f ≡ z = ap known_state now.2 in
      let count = AllZip-long FitsSort s.sorts us sorted in
      let e : turn.w ≡ valuation vs =
      turn.value
      ∙ ap (set_to v (length s.sorts)) told
      ∙ ap (λ i. set_to v i z) (sym count)
      ∙ sym (valuation-number us z) in
      one-rests j s c kids us vs turn e l
      (λ enter w tells.
      settle-passes U s j f (record w { values = us }) f.kind args z turn.is_fact tells now.2)
      (later turn.state kids vs turn.turned.before.facts
      (subst (λ os. AllZip FitsSort os vs) (sym turn.sorts)
      (sorted-more s.sorts us Int (a_number z) sorted tt))
      (subst (λ u. Midway p.program [] part T U (suc j) u turn.state) e turn.turned.midway)
      turn.goes.1)
  node-rests j s us d h l sorted mid later = absurd (p.step h).1

  pub rests-to-from :
      (left j : ℕ) (s : PlainState) (trees : PlainTrees) (vs : List NameValue) →
      j + left ≡ length s.facts → AllZip FitsSort s.sorts vs →
      Midway p.program [] part T U j (valuation vs) s → Open p.N trees s (to_rest j n ∷ ts) →
      RestsTo j s trees vs
  rests-to-from zero j s trees vs count sorted mid goes =
      none-rests j s trees vs (omega (arith, count)) sorted mid goes
  rests-to-from (suc left) j s trees vs count sorted mid goes =
      let l : j < length s.facts = omega (arith, count) in
      let one = rest-node p [] part T U reaching j n ts trees s l goes in
      subst (λ ks. RestsTo j s ks vs) (sym one.2)
      (node-rests j s vs one.0 one.1 l sorted mid
      (λ t kids us same so m g.
      rests-to-from left (suc j) t kids us (omega (arith, count, same)) so m g))

  -- from the first fact on, where each says what the first table does
  pub rests-to :
      (s : PlainState) (trees : PlainTrees) (vs : List NameValue) → AllZip FitsSort s.sorts vs →
      Grounded p.program [] (valuation vs) s →
      AllByRecursion (AllOver (Usable [] s.sorts Int)) s.facts →
      AllByRecursion (Exact (valuation vs) T) s.facts → Backed p.program (valuation vs) s part →
      Open p.N trees s (to_rest 0 n ∷ ts) → RestsTo 0 s trees vs
  rests-to s trees vs sorted grounded over exact backed goes =
      let count : 0 + length s.facts ≡ length s.facts = omega arith in
      rests-to-from (length s.facts) 0 s trees vs count sorted (record {
        old = tt;
        grounded = grounded;
        due = λ i f e. (
          all-at (AllOver (Usable [] s.sorts Int)) s.facts i f over e,
          (λ l. absurd (omega (arith, l))),
          (λ l. all-at (Exact (valuation vs) T) s.facts i f exact e),
        );
        covered = backed.guards;
      }) goes
