-- Taking along a walk where no region may be created: what is held is met by the fill on top, as a
-- Take leads there.
use Rattle.std.proofs.Common.{◌≡◌, ◌⊎◌, inl, inr, ℕ, ◌<◌, ◌*ℤ◌, true, false, List, [], ◌∷◌, ◌++◌, length, map, Some, refl, sym, ap, ◌∙◌, subst, arith, ◌≤◌, ℤ, pos, ◌+ℤ◌}
use Rattle.std.specs.List.{AllByRecursion, AllZip}
use Rattle.std.proofs.lemmas.Int.{ints}
use Rattle.cap_lin.specs.Linear.{Linear}
use Rattle.cap_lin.specs.Values.{Valuation, denominator}
use Rattle.cap_lin.specs.declared.row.Sort.{Sort}
use Rattle.cap_lin.specs.declared.row.Sort.TheVariants.{Int, Perm}
use Rattle.cap_prog.specs.Program.{Items, PlainProgram}
use Rattle.cap_prog.specs.Scopes.{Scope, HasSort}
use Rattle.cap_prog.specs.WellFormed.{RegionFits}
use Rattle.cap_goal_spec.specs.States.{PlainEnv, PlainState, PlainTask, to_take, goals_of}
use Rattle.cap_goal_spec.specs.Environments.{term_of}
use Rattle.cap_goal_spec.specs.Choices.{PlainTrees}
use Rattle.cap_rules.specs.Making.{env_at}
use Rattle.cap_machine.specs.Machine.{Heap}
use Rattle.cap_machine_accounts.specs.Assertions.{NameValue}
use Rattle.cap_account_resources.specs.Parts.{cells_of, Table}
use Rattle.cap_account_resources.proofs.Lists.{join-nil}
use Rattle.cap_account_resources.proofs.Owners.{Owner}
use Rattle.cap_account_resources.proofs.Room.{room as room_of}
use Rattle.cap_account_resources.proofs.Stocks.{Stock}
use Rattle.cap_account_resources.proofs.Tables.{FitsRoom}
use Rattle.cap_account_states.specs.Nodes.{Open}
use Rattle.cap_account_states.proofs.Alike.{alike-same}
use Rattle.cap_account_states.proofs.Backed.{Backed}
use Rattle.cap_account_states.proofs.Checked.{Checked}
use Rattle.cap_account_states.proofs.Items.{AreFit}
use Rattle.cap_account_states.proofs.Meets.{Usable, usable-old, Old}
use Rattle.cap_account_states.proofs.Naming.{Placed, Means, Stays, values_in, values-mean}
use Rattle.cap_account_states.proofs.Terms.{Over, vars-more, Agree, value-agree, amount-agree}
use Rattle.cap_account_assertions.proofs.Again.{NamesKept}
use Rattle.cap_account_assertions.proofs.Asserted.{Owns}
use Rattle.cap_account_assertions.proofs.Follows.{Follows}
use Rattle.cap_account_assertions.proofs.Laws.{StateAt, Creation}
use Rattle.cap_account_assertions.proofs.TakenLaws.{job_of}
use Rattle.cap_account_assertions.proofs.TakenStill.{still-of}
use Rattle.cap_account_assertions.proofs.TreeSizes.{trees_size}
use Rattle.cap_owners_spec.specs.Traced.{Traced, traced, past_width, untold, valuation}
use Rattle.cap_owners_spec.specs.Track.{Fill, TrackedRegion}
use Rattle.cap_owners_spec.specs.Filling.{names_in}
use Rattle.cap_owners_spec.specs.Walks.{Taking, Walk, nothing_taken, no_items, Interpreting, Halt}
use Rattle.cap_owners_walks_laws.proofs.Fills.Drawn.{IsMetBy}
use Rattle.cap_owners_walks_laws.proofs.Fills.Giving.{NamesFit}
use Rattle.cap_owners_walks_laws.proofs.Passes.Rests.{into}
use Rattle.cap_owners_walks_laws.proofs.Passes.Names.{NamesSo, names-in-so, names-told}
use Rattle.cap_owners_walks_laws.proofs.Passes.Takes.{IsTracked, AreNameTerms, TakesTo}
use Rattle.cap_owners_walks_laws.proofs.Passes.Takings.{takes-along, from-still, still-met-or}
use Rattle.cap_owners_walks_laws.proofs.Regions.Regiven.{AreSorted}

-- the names as they are in a fill
abbrev pub named_by : List NameValue → Fill → Fill
named_by names f = record f { names = names }

module _ (p : Checked) (ks : List ℕ) (T : Table) (sc : Scope) (e : ℕ) where
  -- what is held is met by these values of the names, with what was met on the way
  pub record NamesMet (values : List NameValue) (after : PlainState) (held : Stock) (items : Items)
      (top : Taking) (ns : List NameValue) : Type 0 where
    pub fits : NamesFit sc ns
    pub means : Means sc (valuation values) (env_at after e) (valuation ns)
    pub owns : Owns p.program T held (valuation ns) items
    pub met : IsMetBy p.program T (valuation ns) items held owns.0 owns.1 (named_by ns top.fill)

  -- At these values the state holds once the items are taken. What is held is met by the fill on
  -- top, if there are items, and by the names as they come of these values.
  pub record StillTo (vs : List NameValue) (held : Stock) (s : PlainState) (items : Items)
      (ts : List PlainTask) : Type 0 where
    pub values : List NameValue
    pub after : PlainState
    pub children : PlainTrees
    pub goes : Open p.N children after ts
    pub follows : Follows sc e (valuation vs) s (valuation values) after
    pub ready : StateAt p.program ks T sc e (valuation values) after
    pub sorted : AreSorted after.sorts values
    pub top : Taking
    pub on_top : no_items items ≡ false → NamesMet values after held items top top.fill.names
    pub told : names_in values (env_at after e) ≡ untold → ⊥
    pub counted :
        (ns : List NameValue) → names_in values (env_at after e) ≡ traced ns →
        length ns ≡ length (env_at after e)
    pub by_names :
        (ns : List NameValue) → names_in values (env_at after e) ≡ traced ns →
        NamesMet values after held items top ns

  -- a walk begins to take them
  abbrev pub Stilling :
      Interpreting → List NameValue → PlainState → Items → ℕ → List PlainTask → PlainTrees →
      Walk → Traced Halt
  Stilling enter vs s items n ts trees w =
      into enter p.program trees (goals_of s (to_take items e 0 n ∷ ts))
      (record w { values = vs; taken = nothing_taken ∷ w.taken })

  -- all walks come there, or each comes to a number that leaves its bounds
  abbrev pub StillsTo :
      List NameValue → Stock → PlainState → Items → ℕ → List PlainTask → PlainTrees → Type 0
  StillsTo vs held s items n ts trees =
      ((enter : Interpreting) (w : Walk) → Stilling enter vs s items n ts trees w ≡ past_width)
      ⊎ ((t : StillTo vs held s items ts)
      × ((enter : Interpreting) (w : Walk) →
      Stilling enter vs s items n ts trees w
      ≡ into enter p.program t.children (goals_of t.after ts)
      (record w { values = t.values; taken = t.top ∷ w.taken })))

-- what is asked of taking, out of what some heap has
abbrev pub StillsLaw : Checked → Type 0
StillsLaw p =
    (ks : List ℕ) (T : Table) (sc : Scope) (e n : ℕ) (items : Items) (ts : List PlainTask)
    (trees : PlainTrees) (vs : List NameValue) (s : PlainState) (held : Stock) →
    Open p.N trees s (to_take items e 0 n ∷ ts) →
    StateAt p.program ks T sc e (valuation vs) s → AllByRecursion (λ k. k < length s.sorts) ks →
    AreFit p.program sc items → Backed p.program (valuation vs) s held →
    FitsRoom p.program T held → AreSorted s.sorts vs → AreNameTerms s.sorts (env_at s e) →
    (heap : Heap) →
    ((a z : ℤ) → held.cells a z ≤ cells_of heap a z) →
    StillsTo p ks T sc e vs held s items n ts trees

-- ---- the law

-- without creations no region is tracked
none-tracked :
    (p : PlainProgram) (U : Table) (new : List Owner) (cs : List Creation)
    (rs : List TrackedRegion) → new ≡ [] → new ≡ map (λ c. c.owner) cs →
    AllZip (IsTracked p U) cs rs → rs ≡ []
none-tracked p U new [] [] e k h = refl
none-tracked p U new [] (r ∷ rs) e k h = absurd h
none-tracked p U new (c ∷ cs) rs e k h =
    let a = ap (λ (os : List Owner). length os) e in
    let b = ap (λ (os : List Owner). length os) k in
    absurd (omega (arith, a, b))

-- what a Take leads to
module _ (p : Checked) (ks : List ℕ) (T : Table) (sc : Scope) (e n : ℕ) (items : Items)
    (ts : List PlainTask) (trees : PlainTrees) (vs : List NameValue) (s : PlainState) (held : Stock)
    (next : ℤ) (size : ℕ)
    (t : TakesTo p ks T next (job_of sc e 0 n items ts) trees vs (valuation vs) s held nothing_taken
    size) where
  abbrev env : PlainEnv
  env = env_at t.took.after e

  -- the values of its names
  abbrev named : Valuation
  named = values_in t.took.w (env_at t.took.after e)

  -- it is owned at values, and met by a fill
  abbrev OwnedBy : Fill → Valuation → Type 0
  OwnedBy x a =
      (o : Owns p.program T held a items) × IsMetBy p.program T a items held o.0 o.1 x

  -- by names of which these are the values
  named-met :
      (ns : List NameValue) → named ≡ valuation ns → NamesFit sc ns →
      NamesMet p ks T sc e t.values t.took.after held items t.taken ns
  named-met ns is fits =
      let still = still-of p ks T sc e n items ts (valuation vs) s held next size t.took in
      let owns : Owns p.program T held named items =
      still.met t.took.w (alike-same (Old t.took.after) t.took.w) named
      (values-mean sc t.took.w env) in
      let met = still-met-or p ks T sc e n items ts trees vs (valuation vs) s held next size t in
      let all : OwnedBy (named_by ns t.taken.fill) (valuation ns) =
      subst (OwnedBy (named_by ns t.taken.fill)) is
      (owns, record { names = is; wildcards = met.wildcards; facts = met.facts }) in
      record {
        fits = fits;
        means =
            subst (Means sc (valuation t.values) env) is
            (subst (λ u. Means sc u env named) t.valued (values-mean sc t.took.w env));
        owns = all.0;
        met = all.1;
      }

  -- and nothing is made
  nothing-made : t.made ≡ []
  nothing-made =
      none-tracked p.program t.took.U t.took.new t.took.created t.made (t.took.none_made refl)
      t.took.are_created t.are_made

  still-so : AreFit p.program sc items → StillTo p ks T sc e vs held s items ts
  still-so fits =
      let still = still-of p ks T sc e n items ts (valuation vs) s held next size t.took in
      let after = t.took.after in
      record {
        values = t.values;
        after = t.took.after;
        children = t.took.children;
        goes = t.took.goes;
        follows = subst (λ u. Follows sc e (valuation vs) s u after) t.valued t.took.follows;
        ready = subst (λ u. StateAt p.program ks T sc e u after) t.valued still.ready;
        sorted = t.sorted;
        top = t.taken;
        on_top = λ some.
            let none = λ (q : no_items items ≡ true). true-false (sym q ∙ some) in
            named-met t.taken.fill.names (t.names (λ q. absurd (none q)))
            (t.have (λ q. absurd (none q)));
        told = names-told t.values after.sorts t.sorted env;
        counted = λ ns q. (so ns q).size;
        by_names = λ ns q.
            named-met ns (ap (λ u. values_in u env) t.valued ∙ (so ns q).same) (so ns q).fits;
      }
    where
      true-false : true ≡ false → ⊥
      true-false q = cc

      so :
          (ns : List NameValue) → names_in t.values env ≡ traced ns →
          NamesSo sc t.values env ns
      so ns q =
          names-in-so t.values t.took.after.sorts t.sorted ks sc env ns t.took.ready.placed t.terms
          q

-- what is held is met by the fill on top, or a number is too wide
pub stills :
    (p : Checked) → AllByRecursion (RegionFits p.program) p.program.regions → StillsLaw p
unfolding still-so
stills p regions ks T sc e n items ts trees vs s held goes at low fits backed room sorted terms heap
    within =
    let j = job_of sc e 0 n items ts in
    elim (takes-along p regions ks (trees_size trees) T (pos 0) (room_of p.program T) j trees vs
    (valuation vs) s held nothing_taken (omega arith) goes
    (from-still p ks T (pos 0) j vs s held refl at low fits backed room sorted terms heap within)) [
      | inl wide ↦ inl (λ enter w. wide false enter w w.taken (λ l. absurd (omega (arith, l))))
      | inr t ↦
          let none = nothing-made p ks T sc e n items ts trees vs s held (pos 0) (trees_size trees)
          t in
          let count = ap (λ (rs : List TrackedRegion). length rs) none in
          inr (
            still-so p ks T sc e n items ts trees vs s held (pos 0) (trees_size trees) t fits,
            (λ enter w.
                let next : w.next +ℤ pos (length t.made) ≡ w.next = omega (arith, ints, count) in
                let same = ap (λ rs. w.regions ++ rs) none ∙ join-nil w.regions in
                t.along false enter w w.taken (λ l. absurd (omega (arith, l)))
                ∙ (λ i. into enter p.program t.took.children (goals_of t.took.after ts) (record w {
                  values = t.values;
                  next = next i;
                  taken = t.taken ∷ w.taken;
                  regions = same i;
                }))),
          )
    ]

-- names that stay bound have their values
pub names-stay :
    (ks : List ℕ) (sc : Scope) (s : PlainState) (vs ws : List NameValue) (env later : PlainEnv)
    (as' bs : List NameValue) → Placed ks sc s.sorts env →
    Agree (Old s) (valuation vs) (valuation ws) → Stays sc env later →
    Means sc (valuation vs) env (valuation as') → Means sc (valuation ws) later (valuation bs) →
    NamesKept sc env (valuation as') (valuation bs)
names-stay ks sc s vs ws env later as' bs placed agree stay m k =
    let v = valuation vs in
    let w = valuation ws in
    record {
      whole = λ x i b.
          sym (k.whole x i b.0 (stay x Int i b.0 b.1))
          ∙ value-agree (Old s) v w agree b.0 (old Int x i b.0 b.1) ∙ m.whole x i b.0 b.1;
      share = λ x i b.
          ap (λ z. z *ℤ denominator (valuation as').fraction)
          (sym (k.share x i b.0 (stay x Perm i b.0 b.1))
          ∙ amount-agree (Old s) v w agree b.0 (old Perm x i b.0 b.1) ∙ m.share x i b.0 b.1);
    }
  where
    old :
        (o : Sort) (x : ℕ) → HasSort sc o x → (t : Linear) → term_of env x ≡ Some t →
        Over (Old s) t
    old o x i t q =
        vars-more (Usable ks s.sorts o) (Old s) (usable-old ks s.sorts o) t.parts
        (placed.over x o i t q)
