-- A region is to be closed: a case and a move are chosen, and the case's items are taken out of
-- what is held.
use Rattle.std.proofs.Common.{◌+◌, ◌≡◌, ℕ, ◌<◌, ℤ, List, [], ◌∷◌, length, map, Some, None, true, refl, sym, ◌∙◌, subst, arith}
use Rattle.std.specs.Prelude.{slice_get}
use Rattle.std.specs.List.{AllByRecursion}
use Rattle.cap_lin.specs.Values.{Valuation, value}
use Rattle.cap_lin.specs.declared.row.Sort.TheVariants.{Int}
use Rattle.cap_prog.specs.Program.{PlainCase, PlainRegionType}
use Rattle.cap_prog.specs.Scopes.{Scope, region_scope}
use Rattle.cap_prog.specs.WellFormed.{RegionFits, CaseFits, IsWellFormed}
use Rattle.cap_machine_accounts.specs.Assertions.{AreWhole}
use Rattle.cap_goal_spec.specs.States.{PlainFact, PlainEnv, PlainState, PlainTask, to_close, to_shift}
use Rattle.cap_goal_spec.specs.Environments.{region_env}
use Rattle.cap_goal_spec.specs.Choices.{PlainTree, node, PlainTrees, by_absurd, by_pick}
use Rattle.cap_rules.specs.Making.{env_at}
use Rattle.cap_account_resources.specs.Parts.{known_as, Table}
use Rattle.cap_account_resources.proofs.Lists.{map-length, push-length, get-or-push, all-at, all-more}
use Rattle.cap_account_resources.proofs.Stocks.{Stock, no_stock, both, inside-first}
use Rattle.cap_account_resources.proofs.Tables.{TableFits, AreListed, fits-less}
use Rattle.cap_account_states.proofs.Terms.{Agree}
use Rattle.cap_account_states.proofs.Brought.{Bring, Brings, HasHalves}
use Rattle.cap_account_states.proofs.Alike.{Alike, alike-same, alike-less}
use Rattle.cap_account_states.proofs.Attempts.{env_added}
use Rattle.cap_account_states.proofs.Meets.{Usable, Old, meets-env, solves}
use Rattle.cap_account_states.proofs.Facts.{facts-same}
use Rattle.cap_account_states.proofs.Checked.{Checked, one-child}
use Rattle.cap_account_states.proofs.Naming.{Placed, Means}
use Rattle.cap_account_states.proofs.Backed.{IsOpened}
use Rattle.cap_account_states.proofs.KnowsLater.{Steady}
use Rattle.cap_account_assertions.proofs.Asserted.{Owns, owns-all}
use Rattle.cap_account_assertions.proofs.Laws.{StateAt, Creation, KeepsCreated, Taken, TakenOnce, TakenLaw}
use Rattle.cap_account_assertions.proofs.TakenLaws.{once-law}
use Rattle.cap_account_assertions.proofs.MadeTables.{made-extends, made-room}
use Rattle.cap_account_steps.proofs.Worlds.{IsStillOpen, Closing, SettlesBy}
use Rattle.cap_account_steps.proofs.Actions.{means-earlier, region-whole}
use Rattle.cap_account_steps.proofs.Moves.{Movable, movable-on}
use Rattle.cap_account_steps.proofs.Shifting.{Picked, picked}
use Rattle.cap_account_steps.proofs.StillOpen.{LaterState, if-any, StaysOpen, closing-later, usable-later, region-later}
use Rattle.cap_account_steps.proofs.ClosedTables.{makes-by}

-- region number o and the case in which it will be: its items are given, its move is to be proved
pub record CaseTaken (p : Checked) (V W : Table) (part : Stock) (ks : List ℕ) (v : Valuation)
    (s : PlainState) (held : Stock) (n : ℕ) (ts : List PlainTask) : Type 0 where
  pub o : ℕ
  pub number : ℕ
  pub move : ℕ
  pub env : ℕ
  pub f : PlainFact
  pub is_opened : slice_get s.opened o ≡ Some f
  pub k : PlainRegionType
  pub x : PlainCase
  pub is_case : slice_get k.cases number ≡ Some x
  pub w : Valuation
  pub t : PlainState
  pub alike : Alike (Old s) v w
  pub brings : List Bring
  pub count : length t.sorts ≡ length s.sorts + length brings
  pub brought : Brings w (length s.sorts) brings
  pub once : HasHalves v (length s.sorts) brings → Agree (Old s) v w
  pub later : LaterState ks ks v w s t
  pub movable : Movable p.program ks t f k
  pub same_region : value w.whole f.region ≡ value v.whole f.region
  pub opened : t.opened ≡ s.opened
  pub placed : Placed ks (region_scope k x.names) t.sorts (env_at t env)
  pub args_are :
      (X : Valuation) → Means (region_scope k x.names) w (env_at t env) X →
      AreWhole X 0 (value w.whole f.region ∷ map (value w.whole) f.args)
  pub left : Stock
  pub given : Stock
  pub by : SettlesBy p.program V W part held [] (both p.program left given)
  pub none_closed : by.closed ≡ []
  pub created : List Creation
  pub are_made : by.made ≡ map (λ c. c.owner) created
  pub keeps_new : AllByRecursion (KeepsCreated p.program by.U (Old t) w) created
  pub owns :
      (X : Valuation) → Means (region_scope k x.names) w (env_at t env) X →
      Owns p.program by.U given X x.items
  pub closing : Closing p.program V by.U part ks w t left
  pub tree : PlainTree
  pub goes : p.N tree t (to_shift o number move env n ∷ ts)

module _ (p : Checked) (program : IsWellFormed p.program) (taken : TakenLaw p) (V W : Table)
    (part held : Stock) (ks : List ℕ) (v : Valuation) (s : PlainState) (n : ℕ)
    (ts : List PlainTask) (bound : List ℤ) (fits : TableFits p.program W)
    (listed : AreListed bound W) (c : Closing p.program V W part ks v s held) where
  -- an open region has a type
  open-movable :
      (o : ℕ) (f : PlainFact) → slice_get s.opened o ≡ Some f →
      (k : PlainRegionType) × Movable p.program ks s f k
  open-movable o f e =
      let st = all-at (IsStillOpen ks v V W s) s.opened o f c.opened e in
      let args = map (value v.whole) f.args in
      let k = fits (value v.whole f.region) (known_as f.kind args None) st.2 in
      let size = map-length (value v.whole) f.args in (
        k.0,
        record {
          over = st.0;
          is_type = k.1;
          fits =
              all-at (RegionFits p.program) p.program.regions f.kind k.0 program.regions k.1;
          arity = (let m = k.2 in omega (arith, m, size));
        },
      )

  module _ (o number move : ℕ) (kids : PlainTrees)
      (pk : Picked p.program p.N ks s o number move n true ts kids) where
    abbrev e : ℕ
    e = length s.envs

    abbrev env : PlainEnv
    env = region_env pk.f pk.names

    abbrev s1 : PlainState
    s1 = env_added s (region_env pk.f pk.names)

    abbrev sc : Scope
    sc = region_scope pk.k pk.x.names

    pub new-env :
        env_at (env_added s (region_env pk.f pk.names)) (length s.envs)
        ≡ region_env pk.f pk.names
    new-env = get-or-push s.envs env []

    pub start :
        StateAt p.program ks W (region_scope pk.k pk.x.names) (length s.envs) v
        (env_added s (region_env pk.f pk.names))
    start = record {
      grounded = record {
        meets = meets-env ks v s s1.envs c.grounded.meets;
        pieces_over = c.grounded.pieces_over;
        pieces_fit = c.grounded.pieces_fit;
      };
      facts = facts-same ks v W s s1 refl refl c.facts;
      opened =
          all-more (IsStillOpen ks v V W s) (IsOpened (Usable ks s.sorts Int) v W)
          (λ f i. (i.0.0, known_as f.kind (map (value v.whole) f.args) None, i.2)) s.opened
          c.opened;
      there = (let q = push-length s.envs env in omega (arith, q));
      placed = subst (Placed ks sc s.sorts) (sym new-env) pk.placed;
    }

    pub case-fits : CaseFits p.program pk.k pk.x
    case-fits =
        all-at (CaseFits p.program pk.k) pk.k.cases number pk.x pk.movable.fits.cases pk.is_case

    -- the case's items, taken out of what is held
    abbrev pub TakenHere : Type 0
    TakenHere =
        TakenOnce p ks W (region_scope pk.k pk.x.names) (length s.envs) 1 v held
        (env_added s (region_env pk.f pk.names)) pk.x.items
        (to_shift o number move (length s.envs) n ∷ ts)

    take-case : TakenHere
    take-case =
        once-law p taken ks W sc e 1 n pk.x.items (to_shift o number move e n ∷ ts) kids v s1 held bound
        pk.goes start c.old case-fits.items.items
        (record { cells = c.backed.cells; guards = c.backed.guards }) c.room listed

    module _ (here : TakenHere) where
      abbrev tk : Taken p ks W sc e 1 v held s1 pk.x.items (to_shift o number move e n ∷ ts)
      tk = here.taken

      pub later : LaterState ks ks v here.taken.w s here.taken.after
      later = record {
        alike = alike-less (Steady ks s) (Old s1) v tk.w (λ x h. h.0) tk.alike;
        sorts = tk.goes_on.sorts;
        count = tk.goes_on.count;
        less = λ x h. h.1;
        store = tk.goes_on.store;
      }

      pub still :
          Closing p.program V here.taken.U part ks here.taken.w here.taken.after here.taken.left
      still =
          closing-later p.program ks ks v tk.w s tk.after later V W tk.U part tk.left s.opened
          tk.goes_on.opened (if-any s.opened (tk.after.before ≡ s.before) tk.goes_on.before)
          (all-more (IsStillOpen ks v V W s)
          (StaysOpen p.program ks ks v tk.w s tk.after later V W tk.U)
          (λ f i. (
            i,
            made-extends p.program W tk.U tk.new tk.made (value v.whole f.region)
                (known_as f.kind (map (value v.whole) f.args) None) i.2 ∙ sym i.2,
          )) s.opened c.opened)
          c.differ c.earlier
          (record {
            grounded = tk.ready.grounded;
            facts = tk.ready.facts;
            old =
                all-more (λ k. k < length s.sorts) (λ k. k < length tk.after.sorts)
                (λ k l. (let m = tk.goes_on.count in omega (arith, l, m))) ks c.old;
            backed = tk.backed;
            room =
                fits-less p.program tk.U tk.left (both p.program tk.left tk.given)
                (inside-first p.program tk.left tk.given)
                (made-room p.program W tk.U tk.new tk.made held tk.left tk.given c.room tk.budget);
          })

      abbrev pub case-taken : CaseTaken p V W part ks v s held n ts
      case-taken =
          let d = one-child p.N tk.children tk.after (to_shift o number move e n ∷ ts) tk.goes in
          record {
            o = o;
            number = number;
            move = move;
            env = e;
            f = pk.f;
            is_opened = pk.is_opened;
            k = pk.k;
            x = pk.x;
            is_case = pk.is_case;
            w = tk.w;
            t = tk.after;
            alike = tk.alike;
            brings = tk.brings;
            count = tk.brought.count;
            brought = tk.brought.are;
            once = here.once;
            later = later;
            movable =
                movable-on p.program ks ks s tk.after pk.f pk.k
                (usable-later p.program ks ks v tk.w s tk.after later Int) pk.movable;
            same_region =
                region-later p.program ks ks v tk.w s tk.after later pk.f pk.movable.over;
            opened = tk.goes_on.opened;
            placed = tk.ready.placed;
            args_are = λ X m.
                region-whole pk.k pk.x.names pk.f tk.w X pk.names pk.movable.arity
                (subst (λ u. Means sc tk.w u X) new-env
                (means-earlier sc tk.w X (env_at s1 e) (env_at tk.after e) tk.stays m));
            left = tk.left;
            given = tk.given;
            by =
                makes-by p.program V W tk.U part tk.new tk.made held
                (both p.program tk.left tk.given) tk.budget;
            none_closed = refl;
            created = tk.created;
            are_made = tk.are_created;
            keeps_new = tk.keeps;
            owns = λ X m.
                owns-all p.program tk.U X pk.x.items tk.given
                (tk.draws tk.w (alike-same (Old tk.after) tk.w) X m no_stock);
            closing = still;
            tree = d.0;
            goes = d.1;
          }

  pub close-takes :
      (d : PlainTree) → p.N d s (to_close true n ∷ ts) → CaseTaken p V W part ks v s held n ts
  close-takes (node (by_absurd cs) kids) h =
      absurd ((p.step h).0.0 v (solves ks v s c.grounded.meets))
  close-takes (node (by_pick o number move) kids) h =
      let pk = picked p.program p.N ks s o number move n true ts kids (open-movable o) (p.step h) in
      case-taken o number move kids pk (take-case o number move kids pk)
  close-takes d h = absurd (p.step h).1
