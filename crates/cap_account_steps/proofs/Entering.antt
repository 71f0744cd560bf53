-- A region is opened: what it has is given to the state, in the case in which the region is.
use Rattle.cap_account_states.proofs.Alike.{usable-alike, Alike, InScope, alike-trans, alike-less, agree-alike, scaled-alike}
use Rattle.cap_account_resources.proofs.Lists.{all-map, some-same, all-more, all-both, all-at, all-remove, map-join, map-length, get-or-push, push-length}
use Rattle.std.proofs.Common.{◌≡◌, ◌≢◌, ℕ, suc, ◌<◌, ℤ, List, [], ◌∷◌, ◌++◌, length, map, arith, refl, sym, ap, ◌∙◌, subst, Some, Bool, true, false}
use Rattle.std.specs.Prelude.{slice_get, nat_eq, nat_lt, remove, ◌==◌, if◌then◌else◌}
use Rattle.std.specs.List.{AllByRecursion}
use Rattle.std.proofs.lemmas.Bool.Decides.{nat_tests}
use Rattle.cap_lin.specs.Linear.{Linear}
use Rattle.cap_lin.specs.Rows.{row_of}
use Rattle.cap_lin.specs.Values.{Valuation, value}
use Rattle.cap_lin.specs.Solves.{Proves}
use Rattle.cap_lin.specs.declared.row.Sort.{Sort}
use Rattle.cap_lin.specs.declared.row.Sort.TheVariants.{Int}
use Rattle.cap_lin.specs.declared.row.Op.TheVariants.{Ne as Unequal}
use Rattle.cap_lin.proofs.Rows.{row_of-means}
use Rattle.cap_gsolve.specs.declared.piece.Piece.{Piece}
use Rattle.cap_prog.specs.Program.{none, item, PlainAct, Block, first, PlainCase, PlainRegionType, Label, PlainFunction, PlainProgram}
use Rattle.cap_prog.specs.Scopes.{Scope, region_scope}
use Rattle.cap_prog.specs.WellFormed.{IsWellFormed, RegionFits, CaseFits}
use Rattle.cap_goal_spec.specs.States.{PlainFact, PlainState, Home, PlainTask, PlainGoal, to_give, goals_of}
use Rattle.cap_goal_spec.specs.Choices.{PlainTree, PlainTrees, no_trees, tree}
use Rattle.cap_rules.specs.Making.{is_empty, env_at}
use Rattle.cap_rules.specs.Closing.{address_of, of_type, prove_other, with_opened, case_names, case_goals}
use Rattle.cap_rules.specs.Rules.{at_enter}
use Rattle.cap_machine.specs.Machine.{Heap, Frame}
use Rattle.cap_machine_accounts.specs.Assertions.{NameValue}
use Rattle.cap_account_resources.specs.Parts.{Known, known_as, Table}
use Rattle.cap_account_resources.proofs.Covering.{Covered}
use Rattle.cap_account_resources.proofs.Room.{room, room-some, part-some}
use Rattle.cap_account_resources.proofs.Stocks.{Stock, both, all_of, none-right, stock-laws, Composes}
use Rattle.cap_account_states.specs.Nodes.{Comes, Children, Open}
use Rattle.cap_account_states.proofs.Terms.{Over, row-over, vars-more, Agree}
use Rattle.cap_account_states.proofs.Wants.{scaled-finer}
use Rattle.cap_account_states.proofs.Attempts.{comes-bind, after-found, after-need, after-proved}
use Rattle.cap_account_states.proofs.Adding.{PieceOver}
use Rattle.cap_account_states.proofs.Checked.{Checked, first_trees, later_trees, children-first, children-later, lone-child}
use Rattle.cap_account_states.proofs.Compatible.{pieces-more, covered-alike}
use Rattle.cap_account_states.proofs.Facts.{StateHolds, StateOver, FactHolds, FactOver, Facts}
use Rattle.cap_account_states.proofs.Meets.{Usable, usable-old, usable-on, Meets, Old, proved-holds}
use Rattle.cap_account_states.proofs.Filled.{filled_at}
use Rattle.cap_account_states.proofs.Naming.{Placed, Means}
use Rattle.cap_account_states.proofs.Scopes.{length-join}
use Rattle.cap_account_states.proofs.Pieces.{AllFit}
use Rattle.cap_account_states.proofs.Backed.{IsFirm, IsOpened, Backed, Grounded}
use Rattle.cap_account_assertions.proofs.Asserted.{DrawsAll, OwnsRegion}
use Rattle.cap_account_assertions.proofs.Finer.{draws-all-finer}
use Rattle.cap_account_assertions.proofs.Filling.{fill_items}
use Rattle.cap_account_assertions.proofs.GivenTrees.{given_trees}
use Rattle.cap_account_assertions.proofs.Laws.{StateAt, Given, GivenAlong, GivenAlongLaw}
use Rattle.cap_account_steps.proofs.Stores.{Store, running, store-alike}
use Rattle.cap_account_steps.proofs.Exact.{exact-alike, over-more}
use Rattle.cap_account_steps.proofs.Worlds.{Differ, IsThere, World, Exact, AllOver, regions_of, Earlier, IfAny, Opening}
use Rattle.cap_account_steps.proofs.FirmStates.{firm-loose, firm-differ, Between, facts-between, grounded-between, backed-between}
use Rattle.cap_account_steps.proofs.CaseStates.{case_state, LeavesOne, CaseGoal, case-goal}
use Rattle.cap_account_steps.proofs.CaseValues.{names_values, entered_values, entered_names}
use Rattle.cap_account_steps.proofs.CaseHolds as holds
use Rattle.cap_account_steps.proofs.CaseHolds.{IsInCase}

-- ---- firm facts say just what the table does

pub firm-exact : (v : Valuation) (T : Table) (f : PlainFact) → IsFirm f → FactHolds v T f →
    Exact v T f
firm-exact v T f firm h = by f.loose firm h.2
  where
    by : (b : Bool) → b ≡ false → StateHolds b h.0 (value v.whole f.state) → Exact v T f
    by true e k = absurd (unlike e)
      where
        unlike : true ≡ false → ⊥
        unlike e = cc
    by false e k = h.1 ∙ ap (λ o. Some (known_as f.kind (map (value v.whole) f.args) o)) k

pub firm-over : (P : ℕ → Type 0) (f : PlainFact) → IsFirm f → FactOver P f → AllOver P f
firm-over P f firm h = (h.0, h.1, by f.loose firm h.2)
  where
    by : (b : Bool) → b ≡ false → StateOver P b f.state → Over P f.state
    by true e k = absurd (unlike e)
      where
        unlike : true ≡ false → ⊥
        unlike e = cc
    by false e k = k

-- ---- other regions

-- the rows say that the region is none of these
pub comes-other :
    (s : PlainState) (f : PlainFact) (os : List PlainFact) (P : Unit {0} → Type 0) →
    Comes (prove_other s f os) P →
    AllByRecursion (λ o. Proves s.rows (row_of f.region Unequal o.region Int)) os × P tt
comes-other s f [] P h = (tt, h.1)
comes-other s f (o ∷ os) P h =
    let k = after-proved s.rows f.region Unequal o.region Int (λ _. prove_other s f os) P h in
    let m = comes-other s f os P k.1 in
    ((k.0, m.0), m.1)

-- what is so of those of its type is so of each, where it is so of those of other types
of-all :
    (k : ℕ) (Q : PlainFact → Type 0) (fs : List PlainFact) →
    AllByRecursion (λ f. f.kind ≢ k → Q f) fs → AllByRecursion Q (of_type k fs) →
    AllByRecursion Q fs
of-all k Q [] h m = tt
of-all k Q (f ∷ fs) h m = by (f.kind == k) refl m (λ n. of-all k Q fs h.1 n)
  where
    by :
        (b : Bool) → (f.kind == k) ≡ b →
        AllByRecursion Q (if b then f ∷ of_type k fs else of_type k fs) →
        (AllByRecursion Q (of_type k fs) → AllByRecursion Q fs) → AllByRecursion Q (f ∷ fs)
    by true e m more = (m.0, more m.1)
    by false e m more = (h.0 (λ q. grind (arith, nat_tests, e, q)), more m)

-- a list of numbers with one more
differ-more :
    (ns : List ℤ) (n : ℤ) → Differ ns → AllByRecursion (λ m. m ≢ n) ns → Differ (ns ++ n ∷ [])
differ-more [] n h k = (tt, tt)
differ-more (m ∷ ns) n h k = (
  all-both (λ x. m ≢ x) ns (n ∷ []) h.0 (k.0, tt),
  differ-more ns n h.1 k.1,
)

all-of-more :
    (p : PlainProgram) (ns : List ℤ) (n : ℤ) (share : ℤ → Stock) →
    all_of p (ns ++ n ∷ []) share ≡ both p (all_of p ns share) (share n)
all-of-more p [] n share =
    none-right p (share n) ∙ sym ((stock-laws p).zero_left (share n))
all-of-more p (m ∷ ns) n share =
    ap (both p (share m)) (all-of-more p ns n share)
    ∙ sym ((stock-laws p).assoc (share m) (all_of p ns share) (share n))

-- ---- entering

module _ (p : Checked) (program : IsWellFormed p.program) (give : GivenAlongLaw p) (V : Table)
    (share : ℤ → Stock) (part : Stock) (heap : Heap) (world : World p.program V share part heap)
    (fn : PlainFunction) (fixed : List NameValue) (size : length fixed ≡ length fn.fixed)
    (f0 : Frame) (h0 : Home) where
  -- a state in which some regions are open, that holds of the frame
  pub record Opened (tree : PlainTree) (tasks : List PlainTask) (count : ℕ) : Type 0 where
    pub s : PlainState
    pub v : Valuation
    pub valid : p.N tree s tasks
    pub opening : Opening p.program V share part v s
    pub store : Store v s h0 fn fixed f0
    pub are : length s.opened ≡ count

  -- fact number i of the first state is opened: the case and its values are what the region's part
  -- has, and the second state holds at these beside the first one's. Its tree is below that of the
  -- case's number among the node's children, by the sides of conditionals that are drawn
  pub record Enters (v : Valuation) (s : PlainState) (i : ℕ) (ks : PlainTrees) (w : Valuation)
      (t : PlainState) (d : PlainTree) : Type 0 where
    pub f : PlainFact
    pub is_fact : slice_get s.facts i ≡ Some f
    pub k : PlainRegionType
    pub is_type : slice_get p.program.regions f.kind ≡ Some k
    pub exact : Exact v V f
    pub opened : t.opened ≡ s.opened ++ f ∷ []
    pub own :
        OwnsRegion p.program V (value v.whole f.region) f.kind (map (value v.whole) f.args)
        (value v.whole f.state) (share (value v.whole f.region))
    pub is_own :
        own
        ≡ world.owns (value v.whole f.region) f.kind (map (value v.whole) f.args)
        (value v.whole f.state) exact
    pub named :
        Agree (Old (case_state (with_opened s i f) f own.case))
        (entered_values v own.values (length s.sorts) k.params (region_scope k own.case.names)) w
    pub drawn :
        DrawsAll p.program V
        (entered_names v own.values (length s.sorts) k.params (region_scope k own.case.names))
        own.case.items (share (value v.whole f.region)) own.met.0
    pub filled :
        filled_at (length s.envs) w t
        ≡ fill_items p.program V
        (entered_names v own.values (length s.sorts) k.params (region_scope k own.case.names))
        own.case.items (share (value v.whole f.region)) own.met.0 drawn
        (filled_at (length s.envs)
        (entered_values v own.values (length s.sorts) k.params (region_scope k own.case.names))
        (case_state (with_opened s i f) f own.case))
    pub child :
        tree d no_trees
        ≡ given_trees p.program V
        (entered_names v own.values (length s.sorts) k.params (region_scope k own.case.names))
        own.case.items (share (value v.whole f.region)) own.met.0 drawn
        (first_trees 1 (later_trees own.number ks))

  module _ (v : Valuation) (s : PlainState) (o : Opening p.program V share part v s)
      (st : Store v s h0 fn fixed f0) (i : ℕ) (f : PlainFact) (k : PlainRegionType)
      (is_fact : slice_get s.facts i ≡ Some f)
      (is_type : slice_get p.program.regions f.kind ≡ Some k)
    where
      abbrev n : ℤ
      n = value v.whole f.region

      abbrev args : List ℤ
      args = map (value v.whole) f.args

      abbrev state : ℤ
      state = value v.whole f.state

      abbrev s1 : PlainState
      s1 = with_opened s i f

      firm : IsFirm f
      firm = all-at IsFirm s.facts i f o.firm is_fact

      pub exact : Exact v V f
      exact = firm-exact v V f firm (all-at (FactHolds v V) s.facts i f o.facts.holds is_fact)

      over : AllOver (Usable [] s.sorts Int) f
      over =
          firm-over (Usable [] s.sorts Int) f firm
          (all-at (FactOver (Usable [] s.sorts Int)) s.facts i f o.facts.over is_fact)

      abbrev own : OwnsRegion p.program V n f.kind args state (share n)
      own = world.owns n f.kind args state exact

      pub same-type : own.type ≡ k
      same-type = some-same own.type k (sym own.is_type ∙ is_type)

      type-fits : RegionFits p.program k
      type-fits =
          all-at (RegionFits p.program) p.program.regions f.kind k program.regions is_type

      pub is-case : slice_get k.cases own.number ≡ Some own.case
      is-case =
          ap (λ (t : PlainRegionType). slice_get t.cases own.number) (sym same-type)
          ∙ own.is_case

      pub case-fits : CaseFits p.program k own.case
      case-fits = all-at (CaseFits p.program k) k.cases own.number own.case type-fits.cases is-case

      in-case : IsInCase p.program v s1 f k own.case own.values
      in-case = record {
        over = over;
        arity = ap (λ (t : PlainRegionType). t.params) (sym same-type) ∙ own.arity
            ∙ ap suc (map-length (value v.whole) f.args);
        fits = case-fits;
        args_are = own.args_are;
        state_is = own.state_is;
        conditions = own.conditions;
      }

      meets1 : Meets [] v s1
      meets1 = record {
        sorted = o.grounded.meets.sorted;
        rows = o.grounded.meets.rows;
        rows_over = o.grounded.meets.rows_over;
        cells_over = o.grounded.meets.cells_over;
        positive = o.grounded.meets.positive;
        store_over = o.grounded.meets.store_over;
      }

      facts1 : Facts [] v V s1
      facts1 = record {
        holds = all-remove (FactHolds v V) s.facts i o.facts.holds;
        over = all-remove (FactOver (Usable [] s.sorts Int)) s.facts i o.facts.over;
        loose = firm-loose [] s.sorts (remove s.facts i) (all-remove IsFirm s.facts i o.firm);
        differ = firm-differ (remove s.facts i) (all-remove IsFirm s.facts i o.firm);
      }

      -- the region is none of those that are open
      module _ (others : AllByRecursion (λ g. Proves s.rows (row_of f.region Unequal g.region Int))
          (of_type f.kind s.opened)) where
        abbrev IsOpen : PlainFact → Type 0
        IsOpen g = AllOver (Usable [] s.sorts Int) g × Exact v V g

        other-kind :
            (g : PlainFact) → IsOpen g → g.kind ≢ f.kind → value v.whole g.region ≢ n
        other-kind g told ne e =
            ne (ap (λ (x : Known). x.kind)
            (some-same (known_as g.kind (map (value v.whole) g.args) (Some (value v.whole g.state)))
            (known_as f.kind args (Some state)) (sym told.1 ∙ ap V e ∙ exact)))

        same-kind :
            (g : PlainFact) → IsOpen g → Proves s.rows (row_of f.region Unequal g.region Int) →
            value v.whole g.region ≢ n
        same-kind g told pr e =
            (row_of-means v f.region Unequal g.region Int).0
            (proved-holds [] [] v s (row_of f.region Unequal g.region Int) o.grounded.meets pr
            (row-over (Usable [] s.sorts) f.region Unequal g.region Int over.0 told.0.0)) (sym e)

        are-other : AllByRecursion (λ g. value v.whole g.region ≢ n) s.opened
        are-other =
            of-all f.kind (λ g. value v.whole g.region ≢ n) s.opened
            (all-more IsOpen (λ g. g.kind ≢ f.kind → value v.whole g.region ≢ n) other-kind s.opened
            o.opened)
            (both-of s.opened o.opened others)
          where
            -- those of the type
            both-of :
                (fs : List PlainFact) → AllByRecursion IsOpen fs →
                AllByRecursion (λ g. Proves s.rows (row_of f.region Unequal g.region Int))
                (of_type f.kind fs) →
                AllByRecursion (λ g. value v.whole g.region ≢ n) (of_type f.kind fs)
            both-of [] a b = tt
            both-of (g ∷ gs) a b = on (g.kind == f.kind) b (λ c. both-of gs a.1 c)
              where
                on :
                    (t : Bool) →
                    AllByRecursion (λ g. Proves s.rows (row_of f.region Unequal g.region Int))
                    (if t then g ∷ of_type f.kind gs else of_type f.kind gs) →
                    (AllByRecursion (λ g. Proves s.rows (row_of f.region Unequal g.region Int))
                    (of_type f.kind gs) →
                    AllByRecursion (λ g. value v.whole g.region ≢ n) (of_type f.kind gs)) →
                    AllByRecursion (λ g. value v.whole g.region ≢ n)
                    (if t then g ∷ of_type f.kind gs else of_type f.kind gs)
                on true b more = (same-kind g a.0 b.0, more b.1)
                on false b more = more b

        -- ---- the case's items are given

        module _ (l : Label) (a : PlainAct) (b : Block) (ks : PlainTrees)
            (go : Comes (case_goals s1 f l.number (running (first l a b) h0) k.cases)
            (Children p.N ks)) where
          abbrev ts : List PlainTask
          ts = running (first l a b) h0

          pub goal : CaseGoal s1 f l.number ts own.number own.case (Children p.N ks)
          goal = case-goal s1 f l.number ts k.cases own.number own.case (Children p.N ks) go is-case

          abbrev c : PlainCase
          c = own.case

          abbrev sc : Scope
          sc = region_scope k own.case.names

          abbrev s2 : PlainState
          s2 = case_state s1 f own.case

          abbrev w : Valuation
          w = entered_values v own.values (length s.sorts) k.params (region_scope k own.case.names)

          abbrev names : Valuation
          names = entered_names v own.values (length s.sorts) k.params
              (region_scope k own.case.names)

          abbrev held : Stock
          held = both p.program part (all_of p.program (regions_of v s.opened) share)

          abbrev own_goals : List PlainGoal
          own_goals = goals_of s2 (to_give c.items (length s.envs) l.number ∷ ts)

          abbrev pub kids : PlainTrees
          kids = first_trees (length own_goals) (later_trees (length goal.before) ks)

          pub kids-goals : Open p.N kids s2 (to_give c.items (length s.envs) l.number ∷ ts)
          kids-goals =
              children-first p.N (later_trees (length goal.before) ks) own_goals goal.behind
              (children-later p.N ks goal.before (own_goals ++ goal.behind) goal.goes.comes)

          -- each case leaves one goal, and so has one tree
          leaves-one : LeavesOne (length s.envs) l.number ts
          leaves-one t none = refl
          leaves-one t (item x more) = refl

          pub kids-are : kids ≡ first_trees 1 (later_trees own.number ks)
          kids-are =
              let one = leaves-one s2 c.items in
              let count = goal.count leaves-one in
              λ j. first_trees (one j) (later_trees (count j) ks)

          alike2 : Alike (Old s) v w
          alike2 =
              holds.start-alike p.program v s1 f k c own.values in-case meets1 goal.goes.state_known
              goal.goes.conditions_known

          usable2 : (o : Sort) (x : ℕ) → Usable [] s.sorts o x → Usable [] s2.sorts o x
          usable2 =
              holds.usable p.program v s1 f k c own.values in-case meets1 goal.goes.state_known
              goal.goes.conditions_known

          between2 : Between [] [] (Old s) v w s1 s2
          between2 = record {
            uses = usable-old [] s.sorts;
            usable = usable2;
            alike = alike2;
            facts = refl;
            cells = refl;
            guards = refl;
          }

          grounded1 : Grounded p.program [] v s1
          grounded1 = record {
            meets = meets1;
            pieces_over = o.grounded.pieces_over;
            pieces_fit = o.grounded.pieces_fit;
          }

          pub firm1 : AllByRecursion IsFirm s2.facts
          firm1 = all-remove IsFirm s.facts i o.firm

          int-on : (u : Linear) → Over (Usable [] s.sorts Int) u → Over (Usable [] s2.sorts Int) u
          int-on u k = vars-more (Usable [] s.sorts Int) (Usable [] s2.sorts Int) (usable2 Int)
              u.parts k

          all-open : AllByRecursion IsOpen s2.opened
          all-open = all-both IsOpen s.opened (f ∷ []) o.opened ((over, exact), tt)

          opened2 : (g : PlainFact) → IsOpen g → IsOpened (Usable [] s2.sorts Int) w V g
          opened2 g told = (
            int-on g.region told.0.0,
            known_as g.kind (map (value v.whole) g.args) (Some (value v.whole g.state)),
            ap V (usable-alike [] s v w alike2 g.region told.0.0) ∙ told.1,
          )

          pub state2 : StateAt p.program [] V sc (length s.envs) w s2
          state2 = record {
            grounded = grounded-between p.program [] [] (Old s) v w s1 s2 between2
                (holds.start-meets p.program v s1 f k c own.values in-case meets1 goal.goes.state_known
                goal.goes.conditions_known) grounded1;
            facts = facts-between p.program [] [] (Old s) v w s1 s2 between2 V firm1 facts1;
            opened = all-more IsOpen (IsOpened (Usable [] s2.sorts Int) w V) opened2 s2.opened
                all-open;
            there = (let q = push-length s.envs (case_names s1 f c) in omega (arith, q));
            placed = subst (Placed [] sc s2.sorts) (sym (get-or-push s.envs (case_names s1 f c) []))
                (holds.placed p.program v s1 f k c own.values in-case meets1 goal.goes.state_known
                goal.goes.conditions_known);
          }

          abbrev numbers : List ℤ
          numbers = regions_of v s.opened

          differ1 : Differ (numbers ++ n ∷ [])
          differ1 =
              differ-more numbers n o.differ
              (all-map (λ g. value v.whole g.region) (λ m. m ≢ n) s.opened are-other)

          there1 : AllByRecursion (IsThere V) (numbers ++ n ∷ [])
          there1 =
              all-both (IsThere V) numbers (n ∷ [])
              (all-map (λ g. value v.whole g.region) (IsThere V) s.opened
              (all-more IsOpen (λ g. IsThere V (value v.whole g.region))
              (λ g told. (
                known_as g.kind (map (value v.whole) g.args)
                    (Some (value v.whole g.state)),
                told.1,
              )) s.opened o.opened))
              ((known_as f.kind args (Some state), exact), tt)

          one-more : both p.program held (share n)
              ≡ both p.program part (all_of p.program (numbers ++ n ∷ []) share)
          one-more =
              (stock-laws p.program).assoc part (all_of p.program numbers share) (share n)
              ∙ ap (both p.program part) (sym (all-of-more p.program numbers n share))

          pub composes : Composes (both p.program held (share n))
          composes =
              subst Composes (sym one-more)
              (λ m. part-some p.program
              ((both p.program part (all_of p.program (numbers ++ n ∷ []) share)).guards m)
              (room p.program V m) (world.room (numbers ++ n ∷ []) differ1 there1 m)
              (room-some p.program V m))

          abbrev pub drawn_by :
              (b : Bool) →
              DrawsAll p.program V
              (if b then own.values else names_values v own.values (length s.sorts) k.params sc)
              c.items (share n) own.met.0
          drawn_by true = own.met.1
          drawn_by false =
              draws-all-finer p.program V sc own.values
              (names_values v own.values (length s.sorts) k.params sc)
              (scaled-alike (InScope sc) v.fraction.under own.values)
              (scaled-finer v.fraction.under own.values) c.items (share n) own.met.0
              case-fits.items.items own.met.1

          abbrev pub drawn : DrawsAll p.program V names c.items (share n) own.met.0
          drawn = drawn_by (nat_eq v.fraction.under own.values.fraction.under)

          pub means2 : Means sc w (env_at s2 (length s.envs)) names
          means2 =
              subst (λ env. Means sc w env names)
              (sym (get-or-push s.envs (case_names s1 f c) []))
              (holds.start-means p.program v s1 f k c own.values in-case meets1 goal.goes.state_known
              goal.goes.conditions_known)

          pub backed2 : Backed p.program w s2 held
          backed2 =
              backed-between p.program [] [] (Old s) v w s1 s2 between2 held grounded1
              (record { cells = o.backed.cells; guards = o.backed.guards })

          along : GivenAlong p V (length s.envs) w (both p.program held (share n)) s2 ts
              (fill_items p.program V names c.items (share n) own.met.0 drawn
              (filled_at (length s.envs) w s2))
              (given_trees p.program V names c.items (share n) own.met.0 drawn kids)
          along =
              give V sc (length s.envs) l.number names held (share n) own.met.0 c.items ts kids w s2
              kids-goals state2 firm1 means2 case-fits.items.items drawn backed2 composes

          -- ---- the state then

          -- however it is given
          module _ (given : Given p V (length s.envs) w (both p.program held (share n)) s2 ts
              (fill_items p.program V names c.items (share n) own.met.0 drawn
              (filled_at (length s.envs) w s2))) where
            alike3 : Alike (Old s) v given.w
            alike3 =
                let q = length-join s.sorts c.names in
                alike-trans (Old s) v w given.w alike2
                (alike-less (Old s) (Old s2) w given.w (λ x h. (omega (arith, h, q)))
                (agree-alike (Old s2) w given.w given.agree))

            usable3 : (x : ℕ) → Usable [] s.sorts Int x → Usable [] given.after.sorts Int x
            usable3 x h =
                usable-on [] s2.sorts given.after.sorts given.goes_on.sorts Int x (usable2 Int x h)

            regions-same :
                (fs : List PlainFact) → AllByRecursion IsOpen fs →
                regions_of given.w fs ≡ regions_of v fs
            regions-same [] h = refl
            regions-same (g ∷ fs) h =
                let e = usable-alike [] s v given.w alike3 g.region h.0.0.0 in
                let r = regions-same fs h.1 in
                rw (e, r) refl

            numbers-same : regions_of given.w given.after.opened ≡ numbers ++ n ∷ []
            numbers-same =
                ap (regions_of given.w) given.goes_on.opened
                ∙ regions-same (s.opened ++ f ∷ []) all-open
                ∙ map-join (λ g. value v.whole g.region) s.opened (f ∷ [])

            still-open :
                AllByRecursion
                (λ g. AllOver (Usable [] given.after.sorts Int) g × Exact given.w V g)
                given.after.opened
            still-open =
                subst (AllByRecursion
                (λ g. AllOver (Usable [] given.after.sorts Int) g × Exact given.w V g))
                (sym given.goes_on.opened)
                (all-more IsOpen
                (λ g. AllOver (Usable [] given.after.sorts Int) g × Exact given.w V g)
                (λ g told. (
                  over-more (Usable [] s.sorts Int) (Usable [] given.after.sorts Int) usable3 g
                      told.0,
                  exact-alike (Old s) v given.w V alike3 g
                      (over-more (Usable [] s.sorts Int) (Old s) (usable-old [] s.sorts Int) g told.0)
                      told.1,
                )) s2.opened all-open)

            -- the guards from before the first opening
            earlier-now : Earlier p.program [] given.w given.after part
            earlier-now = by s.opened refl
              where
                usable-all : (o : Sort) (x : ℕ) → Usable [] s.sorts o x →
                    Usable [] given.after.sorts o x
                usable-all o x h =
                    usable-on [] s2.sorts given.after.sorts given.goes_on.sorts o x (usable2 o x h)

                covered-now :
                    (ps : List Piece) → AllByRecursion (PieceOver (Usable [] s.sorts)) ps → (m : ℤ) →
                    Covered p.program v ps m (part.guards m) →
                    Covered p.program given.w ps m (part.guards m)
                covered-now ps po m c =
                    covered-alike p.program (Old s) v given.w alike3 ps m (part.guards m)
                    (pieces-more (Usable [] s.sorts) (λ o. Old s) (usable-old [] s.sorts) ps po) c

                of-pieces :
                    (ps : List Piece) → given.after.before ≡ ps →
                    AllByRecursion (PieceOver (Usable [] s.sorts)) ps → AllFit p.program ps →
                    ((m : ℤ) → Covered p.program v ps m (part.guards m)) →
                    Earlier p.program [] given.w given.after part
                of-pieces ps e po pf pc = record {
                  over = subst (AllByRecursion (PieceOver (Usable [] given.after.sorts))) (sym e)
                      (pieces-more (Usable [] s.sorts) (Usable [] given.after.sorts) usable-all ps
                      po);
                  fit = subst (AllFit p.program) (sym e) pf;
                  covered = λ m. subst (λ qs. Covered p.program given.w qs m (part.guards m)) (sym e)
                      (covered-now ps po m (pc m));
                }

                by : (os : List PlainFact) → s.opened ≡ os → Earlier p.program [] given.w given.after
                    part
                by [] e =
                    of-pieces s.guards
                    (given.goes_on.before
                    ∙ ap (λ os. if is_empty os then s.guards else s.before) e)
                    o.grounded.pieces_over o.grounded.pieces_fit
                    (λ m. subst (Covered p.program v s.guards m)
                    (ap (λ q. q.guards m)
                    (ap (λ os. both p.program part (all_of p.program (regions_of v os) share)) e
                    ∙ none-right p.program part))
                    (o.backed.guards m))
                by (g ∷ os) e =
                    let was : Earlier p.program [] v s part =
                    subst (λ os. IfAny os (Earlier p.program [] v s part)) e o.earlier in
                    of-pieces s.before
                    (given.goes_on.before
                    ∙ ap (λ os. if is_empty os then s.guards else s.before) e)
                    was.over was.fit was.covered

            any-opened : (os : List PlainFact) (P : Type 0) → P → IfAny os P
            any-opened [] P h = tt
            any-opened (g ∷ os) P h = h

            pub opening-then : Opening p.program V share part given.w given.after
            opening-then = record {
              grounded = given.grounded;
              facts = given.facts;
              firm = given.firm;
              opened = still-open;
              differ = subst Differ (sym numbers-same) differ1;
              backed = subst (Backed p.program given.w given.after)
                  (one-more
                  ∙ ap (λ ns. both p.program part (all_of p.program ns share))
                  (sym numbers-same)) given.backed;
              earlier = any-opened given.after.opened
                  (Earlier p.program [] given.w given.after part) earlier-now;
            }

            pub store-then : Store given.w given.after h0 fn fixed f0
            store-then =
                store-alike v given.w s given.after h0 fn fixed f0 o.grounded.meets.store_over alike3
                (λ x q e. given.goes_on.sorts x q
                (holds.old-sorts p.program v s1 f k c own.values in-case meets1
                goal.goes.state_known goal.goes.conditions_known x q e))
                given.goes_on.store size st

          pub region-opened :
              (d : PlainTree)
              × (r : Opened d ts (suc (length s.opened)))
              × Enters v s i ks r.v r.s d
          region-opened =
              let given = along.given in
              let child = lone-child p.N given.children given.after ts given.goes in (
                child.0,
                record {
                  s = given.after;
                  v = given.w;
                  valid = child.1;
                  opening = opening-then given;
                  store = store-then given;
                  are = ap length given.goes_on.opened
                      ∙ (let q = push-length s.opened f in omega (arith, q));
                },
                record {
                  f = f;
                  is_fact = is_fact;
                  k = k;
                  is_type = is_type;
                  exact = exact;
                  opened = given.goes_on.opened;
                  own = own;
                  is_own = refl;
                  named = given.agree;
                  drawn = drawn;
                  filled = given.filled;
                  child =
                      sym child.2
                      ∙ along.along
                      ∙ ap (given_trees p.program V names c.items (share n) own.met.0 drawn)
                      kids-are;
                },
              )

  -- the rule: fewer than two regions were open, and one more is
  pub entered :
      (v : Valuation) (s : PlainState) → Opening p.program V share part v s →
      Store v s h0 fn fixed f0 → (i : ℕ) (l : Label) (a : PlainAct) (b : Block)
      (ks : PlainTrees) →
      Comes (at_enter p.program s i l a (running (first l a b) h0)) (Children p.N ks) →
      (length s.opened < 2)
      × (d : PlainTree)
      × (r : Opened d (running (first l a b) h0) (suc (length s.opened)))
      × Enters v s i ks r.v r.s d
  entered v s o st i l a b ks go =
      let ts = running (first l a b) h0 in
      let N = Children p.N ks in
      let addressed = after-found (address_of a) _ N go in
      let few = after-need (nat_lt (length s.opened) 2) _ N addressed.2 in
      let fact = after-found (slice_get s.facts i) _ N few.1 in
      let type = after-found (slice_get p.program.regions fact.0.kind) _ N fact.2 in
      let f = fact.0 in
      let k = type.0 in
      let rest = λ (_ : Unit {0}). case_goals (with_opened s i f) f l.number ts k.cases in
      let other = comes-other s f (of_type f.kind s.opened) (λ u. Comes (rest u) N)
      (comes-bind (prove_other s f (of_type f.kind s.opened)) rest N type.2) in
      let test = few.0 in
      let r = region-opened v s o st i f k fact.1 type.1 other.0 l a b ks other.1 in
      (grind (arith, nat_tests, test), r.0, r.1, r.2)
