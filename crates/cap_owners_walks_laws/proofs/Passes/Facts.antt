-- A walk takes a fact, as what the state says of a region.
use Rattle.std.proofs.Common.{◌≡◌, ◌⊎◌, inl, inr, ℕ, ℤ, List, [], ◌∷◌, ◌++◌, map, Some, refl, sym, ap, ◌∙◌, subst}
use Rattle.std.specs.Prelude.{slice_get}
use Rattle.std.specs.List.{AllByRecursion}
use Rattle.cap_lin.specs.Linear.{Linear, variable}
use Rattle.cap_lin.specs.Values.{Valuation, value}
use Rattle.cap_lin.specs.declared.row.Sort.TheVariants.{Int}
use Rattle.cap_syntax.specs.declared.place.Place.{Place}
use Rattle.cap_farkas.specs.declared.cert.Cert.{Cert}
use Rattle.cap_prog.specs.declared.assertion.Slot.{Slot}
use Rattle.cap_prog.specs.declared.assertion.Slot.TheVariants.{Is}
use Rattle.cap_prog.specs.Program.{fact, Items, item}
use Rattle.cap_goal_spec.specs.States.{PlainEnv, PlainState, to_take}
use Rattle.cap_goal_spec.specs.Choices.{by_region, node, PlainTrees, no_trees, tree}
use Rattle.cap_goal_spec.specs.Environments.{term_of, reading}
use Rattle.cap_rules.specs.Making.{env_at}
use Rattle.cap_machine_accounts.specs.Assertions.{NameValue, SlotsAre}
use Rattle.cap_account_resources.specs.Parts.{Table}
use Rattle.cap_account_resources.proofs.Lists.{join-nil, join-assoc, map-join, all-more}
use Rattle.cap_account_resources.proofs.Interference.{Holding}
use Rattle.cap_account_resources.proofs.Stocks.{Stock, none-right}
use Rattle.cap_account_states.proofs.Alike.{alike-same}
use Rattle.cap_account_states.proofs.Checked.{Checked}
use Rattle.cap_account_states.proofs.Facts.{all_met_env, slots-split}
use Rattle.cap_account_states.proofs.Items.{fits-more}
use Rattle.cap_account_states.proofs.Matching.{met_env}
use Rattle.cap_account_states.proofs.Meets.{Usable, Old, variable-value}
use Rattle.cap_account_states.proofs.Naming.{values_in, values-mean, at-env}
use Rattle.cap_account_states.proofs.Terms.{Over, vars-more}
use Rattle.cap_account_assertions.proofs.TakeSteps.{Job, with_items, tasks_of}
use Rattle.cap_account_assertions.proofs.TakeHeads.{means-bound}
use Rattle.cap_account_assertions.proofs.TakeFacts.{slots-fit, terms-over, FactFound, AfterFact, fact-found, fact-goes}
use Rattle.cap_owners_spec.specs.Traced.{Traced, traced, past_width, untold, ◌>>=◌, found, valuation, number_in}
use Rattle.cap_owners_spec.specs.Track.{Fill}
use Rattle.cap_owners_spec.specs.Filling.{all_met}
use Rattle.cap_owners_spec.specs.Walks.{Taking, Walk, on, Interpreting, pass_item, pass_task}
use Rattle.cap_owners_walks_laws.proofs.Values.Numbers.{number-is}
use Rattle.cap_owners_walks_laws.proofs.Values.More.{number-told}
use Rattle.cap_owners_walks_laws.proofs.Fills.Drawn.{slot_met, slots_met}
use Rattle.cap_owners_walks_laws.proofs.Walks.Leading.{node-leads}
use Rattle.cap_account.proofs.Stocked.{part_stock}
use Rattle.cap_owners_laws.specs.Owned.{IsTold}
use Rattle.cap_owners_walks_laws.proofs.Passes.Bindings.{fact-int}
use Rattle.cap_owners_walks_laws.proofs.Passes.Names.{met-terms, IsShaped, shaped-same, SharesBound}
use Rattle.cap_owners_walks_laws.proofs.Passes.Slots.{MetSo, all-met, shares-all}
use Rattle.cap_owners_walks_laws.proofs.Passes.Takes.{IsNameTerm, AreNameTerms, taking_on}
use Rattle.cap_owners_walks_laws.proofs.Passes.Steps.{node-wide, AtNode, Passed, item-step}
use Rattle.cap_owners_walks_laws.proofs.Passes.Plain.{Starting, Wide, Steps, named_top, with-names}

-- what the last slot is met by stands last
slots-last :
    (a : Valuation) (xs : List Slot) (x : Slot) (zs : List ℤ) (z : ℤ) → SlotsAre a xs zs →
    slots_met (xs ++ x ∷ []) (zs ++ z ∷ []) ≡ slots_met xs zs ++ slot_met x z
slots-last a [] x [] z h = join-nil (slot_met x z)
slots-last a [] x (y ∷ zs) z h = absurd h
slots-last a (u ∷ xs) x [] z h = absurd h
slots-last a (u ∷ xs) x (y ∷ zs) z h =
    ap (λ ws. slot_met u y ++ ws) (slots-last a xs x zs z h.1)
    ∙ join-assoc (slot_met u y) (slots_met xs zs) (slot_met x z)

-- what holds of each term of a name, and of those that meet slots, does so then
all-terms :
    (P : Linear → Type 0) (env : PlainEnv) (xs : List Slot) (ts : List Linear) →
    AllByRecursion P ts → ((x : ℕ) (u : Linear) → term_of env x ≡ Some u → P u) →
    (x : ℕ) (u : Linear) → term_of (all_met_env env xs ts) x ≡ Some u → P u
all-terms P env [] [] h k = k
all-terms P env [] (t ∷ ts) h k = k
all-terms P env (x ∷ xs) [] h k = k
all-terms P env (x ∷ xs) (t ∷ ts) h k =
    all-terms P (met_env env (reading env x) t) xs ts h.1
    (met-terms P env (reading env x) t h.0 k)

module _ (p : Checked) (ks : List ℕ) (T : Table) (next : ℤ) (lim : Holding) (j : Job)
    (vs : List NameValue) (s : PlainState) (c : Stock) (top : Taking) (k : ℕ) (cs : List Cert)
    (place : Place) (n r : ℕ) (args : List Slot) (y : Slot) (more : Items) (kids : PlainTrees)
    (f : Starting p ks T next lim j vs s c top (item (fact place n r args y) more)) where
  abbrev v : Valuation
  v = valuation vs

  abbrev of_fact : Job
  of_fact = with_items j (item (fact place n r args y) more)

  abbrev env : PlainEnv
  env = env_at s j.env

  abbrev slots : List Slot
  slots = Is (variable n) ∷ (args ++ y ∷ [])

  abbrev Found : Type 0
  Found =
      FactFound ks j.scope T (valuation vs) s j.env k n r args y
      (AfterFact p.program ks T (with_items j (item (fact place n r args y) more)) (valuation vs) s
      c f.start.ready f.start.backed
      (AtNode p ks T next j (fact place n r args y) more (by_region k cs) kids vs (valuation vs) s
      c top) more)

  -- its terms
  abbrev terms : Found → List Linear
  terms g = g.fact_there.region ∷ (g.fact_there.args ++ g.fact_there.state ∷ [])

  abbrev fact_top : Fill → ℤ → ℤ → Taking
  fact_top x a z = record top { fill = record x { facts = x.facts ++ (a, z) ∷ [] } }

  abbrev FactPasses : List NameValue → Type 0
  FactPasses ns =
      (enter : Interpreting) (w : Walk) (under : List Taking) →
      pass_task enter p.program s (by_region k cs)
      (to_take (item (fact place n r args y) more) j.env j.most j.statement) j.tasks
      (taking_on p ks vs top under w)
      ≡ pass_item p.program s (by_region k cs) (fact place n r args y) more j.env j.most
      j.statement j.tasks (named_top p ks T next lim j vs s c top ns)
      (taking_on p ks vs top under w)

  abbrev named : List NameValue → Fill
  named ns = record top.fill { names = ns }

  -- by what is computed
  fact-by :
      (g : Found) (ns : List NameValue) → FactPasses ns → (enter : Interpreting) (w : Walk)
      (under : List Taking) (a z : Traced ℤ) (x : Traced Fill) →
      number_in vs g.fact_there.region ≡ a → number_in vs g.fact_there.state ≡ z →
      all_met vs (map (reading env) slots) (terms g) (named ns) ≡ x →
      pass_task enter p.program s (by_region k cs)
      (to_take (item (fact place n r args y) more) j.env j.most j.statement) j.tasks
      (taking_on p ks vs top under w)
      ≡ (a >>= λ a. z >>= λ z. x >>= λ x.
      on 0 (taking_on p ks vs (fact_top x a z) under w))
  fact-by g ns pass enter w under a z x ea ez ex =
      pass enter w under
      ∙ ap (λ o. found o >>= λ d. number_in vs d.region >>= λ a. number_in vs d.state >>= λ z.
      all_met vs (map (reading env) slots) (d.region ∷ (d.args ++ d.state ∷ [])) (named ns)
      >>= λ x. on 0 (taking_on p ks vs (fact_top x a z) under w)) g.is_fact
      ∙ (λ i. ea i >>= λ a. ez i >>= λ z. ex i >>= λ x.
      on 0 (taking_on p ks vs (fact_top x a z) under w))

  abbrev TopSo : Found → List NameValue → Fill → Type 0
  TopSo g ns x =
      MetSo ks j.scope s.sorts vs f.sorted (env_at s j.env) g.met.later slots (terms g) (named ns) x

  fact-passed :
      (g : Found) (ns : List NameValue) → FactPasses ns → (a z : ℤ) (x : Fill) →
      number_in vs g.fact_there.region ≡ traced a → number_in vs g.fact_there.state ≡ traced z →
      all_met vs (map (reading env) slots) (terms g) (named ns) ≡ traced x → TopSo g ns x →
      Passed p ks T next j (fact place n r args y) more (by_region k cs) kids vs v s c top []
      (fact-goes p.program ks T of_fact v s c f.start.ready f.start.backed
      (AtNode p ks T next j (fact place n r args y) more (by_region k cs) kids vs v s c top) k
      place n r args y more g)
  fact-passed g ns pass a z x ea ez ex so =
      let d = g.fact_there in
      let there = f.start.ready.there in
      let later = at-env s j.env g.met.later there in
      let zs = map (value v.whole) d.args in
      let args_are = g.met.means v (alike-same (Old s) v) (values_in v g.met.later)
      (values-mean j.scope v g.met.later) in
      let sz = value v.whole d.state in
      record {
        values = vs;
        valued = refl;
        sorted = f.sorted;
        terms =
            subst (AreNameTerms s.sorts) (sym (later ∙ g.met.later_is))
            (all-terms (IsNameTerm s.sorts) env slots (terms g)
            (all-more (Over (Usable ks s.sorts Int)) (IsNameTerm s.sorts)
            (λ t o. inr (vars-more (Usable ks s.sorts Int) (λ x. slice_get s.sorts x ≡ Some Int)
            (λ x u. u.0) t.parts o)) (terms g)
            (terms-over (Usable ks s.sorts Int) d g.firm g.over)) f.terms);
        now = fact_top x a z;
        names = ap (values_in v) later ∙ so.0.same;
        have = so.0.fits;
        binds_it = λ x has e.
            absurd (fact-int j.scope x n args y f.start.fits.0.0
            (slots-fit j.scope (slice_get p.program.regions r) args y f.start.fits.0.1) has e);
        shaped =
            subst (λ e. IsShaped j.scope vs env vs e (fact_top x a z).fill.names) (sym later)
            (shaped-same j.scope vs env g.met.later (fact_top x a z).fill.names so.0
            (λ b. subst (SharesBound j.scope vs) (sym g.met.later_is)
            (shares-all j.scope vs env slots (terms g) (
              (f.start.fits.0.0, tt),
              slots-fit j.scope (slice_get p.program.regions r) args y f.start.fits.0.1,
            ) b)));
        wildcards = slots_met args zs ++ slot_met y sz;
        facts = (a, z) ∷ [];
        more_wildcards =
            so.1
            ∙ ap (λ us. top.fill.wildcards ++ slots_met (args ++ y ∷ []) us)
            (map-join (value v.whole) d.args (d.state ∷ []))
            ∙ ap (λ ws. top.fill.wildcards ++ ws)
            (slots-last (values_in v g.met.later) args y zs sz
            (slots-split (values_in v g.met.later) args y zs sz
            (subst (SlotsAre (values_in v g.met.later) (args ++ y ∷ []))
            (map-join (value v.whole) d.args (d.state ∷ [])) args_are.1)).0);
        more_facts = ap (λ fs. fs ++ (a, z) ∷ []) so.2;
        met = λ u l b m q under.
            let at = (g.met.means u l b
            (means-bound j.scope j.env s g.met.later there u b m)).0 in (
              refl,
              (λ i. (
                (sym (variable-value b n) ∙ at ∙ sym (number-is vs d.region a ea)) i,
                sym (number-is vs d.state z ez) i,
              ) ∷ []),
            );
        part = sym (none-right p.program (part_stock top.part));
        passes = λ enter w under.
            fact-by g ns pass enter w under (traced a) (traced z) (traced x) ea ez ex;
      }

  fact-at :
      (g : Found) (ns : List NameValue) → FactPasses ns → (a z : Traced ℤ) (x : Traced Fill) →
      number_in vs g.fact_there.region ≡ a → number_in vs g.fact_there.state ≡ z →
      all_met vs (map (reading env) slots) (terms g) (named ns) ≡ x →
      IsTold (TopSo g ns) x →
      Wide p ks T next lim j vs s c top (item (fact place n r args y) more)
      (tree (node (by_region k cs) kids) no_trees)
      ⊎ Steps p ks T next lim j vs s c top (item (fact place n r args y) more)
      (tree (node (by_region k cs) kids) no_trees)
  fact-at g ns pass untold z x ea ez ex so = absurd (number-told vs g.fact_there.region ea)
  fact-at g ns pass (traced a) untold x ea ez ex so =
      absurd (number-told vs g.fact_there.state ez)
  fact-at g ns pass (traced a) (traced z) untold ea ez ex so = absurd so
  fact-at g ns pass past_width z x ea ez ex so =
      inl (λ seating enter w under below.
      node-wide p ks T next seating enter (fact place n r args y) more j (by_region k cs) kids s
      (taking_on p ks vs top under w)
      (fact-by g ns pass enter w under past_width z x ea ez ex))
  fact-at g ns pass (traced a) past_width x ea ez ex so =
      inl (λ seating enter w under below.
      node-wide p ks T next seating enter (fact place n r args y) more j (by_region k cs) kids s
      (taking_on p ks vs top under w)
      (fact-by g ns pass enter w under (traced a) past_width x ea ez ex))
  fact-at g ns pass (traced a) (traced z) past_width ea ez ex so =
      inl (λ seating enter w under below.
      node-wide p ks T next seating enter (fact place n r args y) more j (by_region k cs) kids s
      (taking_on p ks vs top under w)
      (fact-by g ns pass enter w under (traced a) (traced z) past_width ea ez ex))
  fact-at g ns pass (traced a) (traced z) (traced x) ea ez ex so =
      inr (item-step p ks T next j (fact place n r args y) more (by_region k cs) kids vs v s c top
      (fits-more p.program j.scope (fact place n r args y) more f.start.fits) []
      (fact-goes p.program ks T of_fact v s c f.start.ready f.start.backed
      (AtNode p ks T next j (fact place n r args y) more (by_region k cs) kids vs v s c top) k
      place n r args y more g) (fact-passed g ns pass a z x ea ez ex so))

  pub fact-step :
      p.N (node (by_region k cs) kids) s
      (tasks_of (with_items j (item (fact place n r args y) more))) →
      Wide p ks T next lim j vs s c top (item (fact place n r args y) more)
      (tree (node (by_region k cs) kids) no_trees)
      ⊎ Steps p ks T next lim j vs s c top (item (fact place n r args y) more)
      (tree (node (by_region k cs) kids) no_trees)
  fact-step h =
      with-names p ks T next lim j vs s c top (fact place n r args y) more (by_region k cs) kids
      (λ enter w. refl) f (λ ns so pass.
      let fits = f.start.fits.0 in
      let g = fact-found p.program ks T of_fact v s c f.start.ready f.start.backed
      (AtNode p ks T next j (fact place n r args y) more (by_region k cs) kids vs v s c top) k
      place n r args y more fits
      (node-leads p (by_region k cs) kids s (tasks_of of_fact) h) in
      fact-at g ns pass (number_in vs g.fact_there.region) (number_in vs g.fact_there.state)
      (all_met vs (map (reading env) slots) (terms g) (named ns)) refl refl refl
      (all-met ks j.scope s.sorts vs f.sorted env g.met.later env slots (terms g) (named ns)
      f.start.ready.placed
      ((fits.0, tt), slots-fit j.scope (slice_get p.program.regions r) args y fits.1)
      (terms-over (Usable ks s.sorts Int) g.fact_there g.firm g.over) g.met.later_is
      (λ x t e. (t, e))
      (g.met.means v (alike-same (Old s) v) (values_in v g.met.later)
      (values-mean j.scope v g.met.later)) so))
