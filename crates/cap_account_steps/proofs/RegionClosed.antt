-- A region is closed: its move is proved, it has what its case says, and its fact joins the others.
use Rattle.std.proofs.Common.{◌+◌, ◌≡◌, ◌≢◌, inl, inr, ℕ, suc, ◌<◌, ℤ, List, [], ◌∷◌, ◌++◌, length, map, Some, None, true, refl, sym, ap, ◌∙◌, arith}
use Rattle.std.specs.Prelude.{slice_get, remove, if◌then◌else◌}
use Rattle.std.specs.List.{AllByRecursion}
use Rattle.cap_gsolve.specs.declared.piece.Piece.{Piece}
use Rattle.cap_lin.specs.Values.{Valuation, value}
use Rattle.cap_lin.specs.declared.row.Sort.TheVariants.{Int}
use Rattle.cap_prog.specs.Program.{PlainRegionType}
use Rattle.cap_prog.specs.Scopes.{Scope, region_scope}
use Rattle.cap_prog.specs.WellFormed.{IsWellFormed}
use Rattle.cap_farkas.specs.declared.cert.Cert.{Cert}
use Rattle.cap_goal_spec.specs.States.{PlainFact, PlainState, PlainTask, to_close, to_shift, with_state}
use Rattle.cap_goal_spec.specs.Choices.{PlainTree, node, PlainTrees, by_absurd, by_shift}
use Rattle.cap_rules.specs.Making.{is_empty, env_at}
use Rattle.cap_account_states.specs.Nodes.{Open}
use Rattle.cap_account_resources.specs.Parts.{Table}
use Rattle.cap_account_resources.proofs.Lists.{none-some, join-nil, map-length, all-at, all-remove}
use Rattle.cap_account_resources.proofs.Stocks.{Stock, both}
use Rattle.cap_account_resources.proofs.Tables.{TableFits, AreListed}
use Rattle.cap_account_resources.proofs.Owners.{Owner}
use Rattle.cap_account_states.proofs.Terms.{Over, vars-more, Agree}
use Rattle.cap_account_states.proofs.Brought.{Brings, HasHalves}
use Rattle.cap_account_states.proofs.Alike.{Alike, alike-less, agree-alike}
use Rattle.cap_account_states.proofs.Meets.{Free, Usable, usable-old, Old, solves}
use Rattle.cap_account_states.proofs.Facts.{FactHolds, FactOver, Facts}
use Rattle.cap_account_states.proofs.Checked.{Checked}
use Rattle.cap_account_states.proofs.Naming.{values_in, values-mean}
use Rattle.cap_account_states.proofs.KnowsLater.{Steady}
use Rattle.cap_account_assertions.proofs.Asserted.{OwnsRegion}
use Rattle.cap_account_assertions.proofs.Laws.{TakenLaw}
use Rattle.cap_account_assertions.proofs.NewRegions.{told-here, told-apart}
use Rattle.cap_account_steps.proofs.Exact.{all-two}
use Rattle.cap_account_steps.proofs.Joining.{Joined, fact-joined}
use Rattle.cap_account_steps.proofs.Moves.{MovesTo, move-says}
use Rattle.cap_account_steps.proofs.Shifting.{Picked, closed_state, none-other, Shifted, shifted}
use Rattle.cap_account_steps.proofs.Shutting.{Shut, shut_values, shut_owner, KeepsCase, keeps-on, KeepsNew, keeps-new-on}
use Rattle.cap_account_steps.proofs.Worlds.{Earlier, IfAny, IsStillOpen, Closing, HasMoved, SettlesBy}
use Rattle.cap_account_steps.proofs.SettledTables.{told_of, open_of, settled-types}
use Rattle.cap_account_steps.proofs.SettledTwice.{settles-for, settles-again}
use Rattle.cap_account_steps.proofs.StillOpen.{LaterState, later-trans, if-any, StaysOpen, closing-later, others-differ, differ-remove}
use Rattle.cap_account_steps.proofs.ClosedTables.{closed_table, closed-states, facts-closed, closes-by, room-kept}
use Rattle.cap_account_steps.proofs.CaseTaken.{CaseTaken, TakenHere, case-taken, close-takes}

-- open region number o is closed, and the others stay open
pub record RegionClosed (p : Checked) (V W : Table) (part : Stock) (ks : List ℕ) (v : Valuation)
    (s : PlainState) (held : Stock) (ts : List PlainTask) : Type 0 where
  pub o : ℕ
  pub f : PlainFact
  pub is_opened : slice_get s.opened o ≡ Some f
  pub left : Stock
  pub by : SettlesBy p.program V W part held (value v.whole f.region ∷ []) left
  pub js : List ℕ
  pub w : Valuation
  pub after : PlainState
  pub later : LaterState ks js v w s after
  pub opened : after.opened ≡ remove s.opened o
  pub children : PlainTrees
  pub goes : Open p.N children after ts
  pub closing : Closing p.program V by.U part js w after left
  pub shut : Shut
  pub took : Alike (Old s) v shut.took
  pub count : shut.later ≡ length s.sorts + length shut.brings
  pub brought : Brings shut.took (length s.sorts) shut.brings
  pub once : HasHalves v (length s.sorts) shut.brings → Agree (Old s) v shut.took
  pub over : Over (λ x. x < shut.later) shut.fact.state
  pub counts : shut.later ≡ length after.sorts
  pub named : w ≡ shut_values shut
  pub is_closed : by.closed ≡ shut_owner shut ∷ []
  pub keeps : KeepsCase p.program by.U shut
  pub are_made : by.made ≡ map (λ c. c.owner) shut.created
  pub keeps_new : KeepsNew p.program by.U shut

-- what is known only while a region is open
known-open :
    (fs : List PlainFact) (o : ℕ) (f : PlainFact) (P : Type 0) → slice_get fs o ≡ Some f →
    IfAny fs P → P
known-open [] o f P e h = absurd (none-some e)
known-open (g ∷ fs) o f P e h = h

-- pieces that were held before are kept while a region is open
kept-before :
    (fs : List PlainFact) (qs : List Piece) → IfAny fs ((if is_empty fs then [] else qs) ≡ qs)
kept-before [] qs = tt
kept-before (f ∷ fs) qs = refl

module _ (p : Checked) (V W : Table) (part : Stock) (ks : List ℕ) (v : Valuation)
    (s : PlainState) (held : Stock) (n : ℕ) (ts : List PlainTask)
    (ct : CaseTaken p V W part ks v s held n ts) where
  abbrev f : PlainFact
  f = ct.f

  abbrev k : PlainRegionType
  k = ct.k

  abbrev w : Valuation
  w = ct.w

  abbrev t : PlainState
  t = ct.t

  abbrev T : Table
  T = ct.by.U

  abbrev sc : Scope
  sc = region_scope ct.k ct.x.names

  is_f : slice_get t.opened ct.o ≡ Some f
  is_f = ap (λ fs. slice_get fs ct.o) ct.opened ∙ ct.is_opened

  this-open : IsStillOpen ks w V T t f
  this-open = all-at (IsStillOpen ks w V T t) t.opened ct.o f ct.closing.opened is_f

  earlier : Earlier p.program ks w t part
  earlier = known-open t.opened ct.o f (Earlier p.program ks w t part) is_f ct.closing.earlier

  abbrev ShiftedHere : List ℕ → PlainTrees → Type 0
  ShiftedHere spans kids =
      Shifted p.N ks ct.w ct.t spans ct.o ct.move ct.env ct.f ct.k ct.x ts kids

  module _ (spans : List ℕ) (kids : PlainTrees) (sh : ShiftedHere spans kids) where
    abbrev g : PlainFact
    g = with_state ct.f sh.new

    -- the region in its new state, with what its case has
    abbrev r : Owner
    r = record {
      number = value ct.w.whole ct.f.region;
      kind = ct.f.kind;
      args = map (value ct.w.whole) ct.f.args;
      state = value ct.w.whole sh.new;
      stock = ct.given;
    }

    abbrev U : Table
    U = closed_table ct.by.U r

    pub is_open : T r.number ≡ Some (open_of r)
    is_open = this-open.2

    abbrev Goes : Type 0
    Goes = Open p.N kids (closed_state ct.t ct.o (with_state ct.f sh.new)) ts

    pub moves : MovesTo p.program part w f sh.new × Goes
    moves =
        move-says p.program ks w t ct.closing.grounded.meets f k ct.movable sh.new sh.over
        (λ _. Goes) part earlier ct.move spans sh.moves

    pub moved : HasMoved p.program V part r
    moved = record { state = value w.whole f.state; was = this-open.1; moves = moves.0 }

    abbrev owns : OwnsRegion p.program T r.number r.kind r.args r.state r.stock
    owns =
        let X = values_in w (env_at t ct.env) in
        let m = values-mean sc w (env_at t ct.env) in
        record {
          type = k;
          is_type = ct.movable.is_type;
          arity = arity;
          number = ct.number;
          case = ct.x;
          is_case = ct.is_case;
          values = X;
          args_are = ct.args_are X m;
          state_is = sym (sh.state_is X m);
          conditions = sh.conditions X m;
          met = ct.owns X m;
        }
      where
        arity : k.params ≡ suc (length (map (value w.whole) f.args))
        arity =
            let count = ct.movable.arity in
            let size = map-length (value w.whole) f.args in
            omega (arith, count, size)

    -- ---- the state with its fact

    abbrev shut : PlainState
    shut = record ct.t { opened = remove ct.t.opened ct.o }

    new-holds : FactHolds w U g
    new-holds = (Some r.state, told-here T r.number (told_of r), refl)

    new-over : FactOver (Usable ks shut.sorts Int) g
    new-over = (this-open.0.0, this-open.0.1, sh.over)

    shut-facts : Facts ks w U shut
    shut-facts = record {
      holds = now.holds;
      over = now.over;
      loose = now.loose;
      differ = now.differ;
    }
      where
        now : Facts ks w U t
        now = facts-closed T r is_open ks w t ct.closing.facts

    pub joined : Joined p.program ks w U shut g
    joined =
        let b = ct.closing.grounded in
        let m = b.meets in
        fact-joined p.program ks w U shut g ct.closing.old
        (record {
          meets = record {
            sorted = m.sorted;
            rows = m.rows;
            rows_over = m.rows_over;
            cells_over = m.cells_over;
            positive = m.positive;
            store_over = m.store_over;
          };
          pieces_over = b.pieces_over;
          pieces_fit = b.pieces_fit;
        })
        shut-facts refl new-holds new-over

    module _ (jn : Joined p.program ks w U shut g) where
      abbrev after : PlainState
      after = closed_state ct.t ct.o (with_state ct.f sh.new)

      pub later : LaterState ks jn.js w jn.w t after
      later = record {
        alike =
            alike-less (Steady ks t) (Free ks) w jn.w (λ x h. h.1)
            (agree-alike (Free ks) w jn.w jn.agree);
        sorts = λ x y e. e;
        count = omega arith;
        less = λ x h. jn.less x h.1;
        store = refl;
      }

      abbrev settles : SettlesBy p.program V ct.by.U part (both p.program ct.left ct.given)
          (value ct.w.whole ct.f.region ∷ []) ct.left
      settles = closes-by ct.by.U r is_open p.program V part moved owns ct.left

      abbrev Stays : PlainFact → Type 0
      Stays = StaysOpen p.program ks jn.js ct.w jn.w ct.t after later V ct.by.U U

      others : AllByRecursion Stays (remove t.opened ct.o)
      others =
          let still = IsStillOpen ks w V T t in
          let apart = λ (h : PlainFact). r.number ≢ value w.whole h.region in
          all-two still apart Stays
          (λ h i ne. (i, told-apart T r.number (value w.whole h.region) (told_of r) ne))
          (remove t.opened ct.o) (all-remove still t.opened ct.o ct.closing.opened)
          (others-differ w t.opened ct.o f is_f ct.closing.differ)

      pub closing : Closing p.program V U part jn.js jn.w after ct.left
      closing =
          let open-ones = remove t.opened ct.o in
          let m = jn.grounded.meets in
          let types = settled-types p.program V T U part settles.opened settles.closed settles.made
          settles.settles in
          let backed = jn.backed ct.left
          (record { cells = ct.closing.backed.cells; guards = ct.closing.backed.guards }) in
          closing-later p.program ks jn.js w jn.w t after later V T U part ct.left open-ones refl
          (kept-before open-ones t.before) others
          (differ-remove w t.opened ct.o f is_f ct.closing.differ)
          (if-any open-ones (Earlier p.program ks w t part) earlier)
          (record {
            grounded = record {
              meets = record {
                sorted = m.sorted;
                rows = m.rows;
                rows_over = m.rows_over;
                cells_over = m.cells_over;
                positive = m.positive;
                store_over = m.store_over;
              };
              pieces_over = jn.grounded.pieces_over;
              pieces_fit = jn.grounded.pieces_fit;
            };
            facts = record {
              holds = jn.facts.holds;
              over = jn.facts.over;
              loose = jn.facts.loose;
              differ = jn.facts.differ;
            };
            old = jn.old;
            backed = record { cells = backed.cells; guards = backed.guards };
            room = room-kept p.program T U ct.left types ct.closing.room;
          })

      abbrev shut_here : Shut
      shut_here = record {
        took = ct.w;
        brings = ct.brings;
        facts = ct.t.facts;
        later = length ct.t.sorts;
        fact = with_state ct.f sh.new;
        number = ct.number;
        env = env_at ct.t ct.env;
        stock = ct.given;
        created = ct.created;
      }

      abbrev pub region-closed : RegionClosed p V W part ks v s held ts
      region-closed = record {
        o = ct.o;
        f = f;
        is_opened = ct.is_opened;
        left = ct.left;
        by =
            settles-for p.program V W part held ct.left (value v.whole f.region ∷ [])
            (value w.whole f.region ∷ [])
            (λ m a. elim a [ inl e ↦ inl (ct.same_region ∙ e) | inr none ↦ absurd none ]) refl
            (settles-again p.program V W part held (both p.program ct.left ct.given) ct.left []
            (value w.whole f.region ∷ []) ct.by settles);
        js = jn.js;
        w = jn.w;
        after = after;
        later = later-trans ks ks jn.js v w jn.w s t after ct.later later;
        opened = ap (λ fs. remove fs ct.o) ct.opened;
        children = kids;
        goes = moves.1;
        closing = closing;
        shut = shut_here;
        took = ct.alike;
        count = ct.count;
        brought = ct.brought;
        once = ct.once;
        over =
            vars-more (Usable ks ct.t.sorts Int) (Old ct.t) (usable-old ks ct.t.sorts Int)
            sh.new.parts sh.over;
        counts = refl;
        named = jn.named;
        is_closed = ap (λ rs. rs ++ r ∷ []) ct.none_closed;
        keeps =
            keeps-on p.program T U (closed-states T r is_open) shut_here (owns, refl, refl);
        are_made = join-nil ct.by.made ∙ ct.are_made;
        keeps_new =
            keeps-new-on p.program T U (closed-states T r is_open) shut_here ct.keeps_new;
      }

  pub shifted-here :
      (cs : List Cert) (spans : List ℕ) (kids : PlainTrees) →
      p.N (node (by_shift cs spans) kids) ct.t
      (to_shift ct.o ct.number ct.move ct.env n ∷ ts) →
      Shifted p.N ks ct.w ct.t spans ct.o ct.move ct.env ct.f ct.k ct.x ts kids
  shifted-here cs spans kids h =
      shifted p.program p.N ks w t ct.closing.grounded.meets spans ct.o ct.number ct.move ct.env ts
      kids f k ct.x is_f ct.is_case ct.movable ct.placed
      (none-other ks w T t f None ct.closing.facts this-open.2) (p.step h)

  -- by what its case was given
  abbrev pub shift-from :
      (cs : List Cert) (spans : List ℕ) (kids : PlainTrees) →
      p.N (node (by_shift cs spans) kids) ct.t
      (to_shift ct.o ct.number ct.move ct.env n ∷ ts) → RegionClosed p V W part ks v s held ts
  shift-from cs spans kids h =
      let sh = shifted-here cs spans kids h in
      region-closed spans kids sh (joined spans kids sh)

  pub shift-closes :
      (d : PlainTree) → p.N d ct.t (to_shift ct.o ct.number ct.move ct.env n ∷ ts) →
      RegionClosed p V W part ks v s held ts
  shift-closes (node (by_absurd cs) kids) h =
      absurd ((p.step h).0.0 w (solves ks w t ct.closing.grounded.meets))
  shift-closes (node (by_shift cs spans) kids) h = shift-from cs spans kids h
  shift-closes d h = absurd (p.step h).1

-- where the case was picked, and by what was taken for it
pub close-from :
    (p : Checked) (program : IsWellFormed p.program) (taken : TakenLaw p) (V W : Table)
    (part held : Stock) (ks : List ℕ) (v : Valuation) (s : PlainState) (n : ℕ)
    (ts : List PlainTask) (bound : List ℤ) (fits : TableFits p.program W)
    (listed : AreListed bound W) (c : Closing p.program V W part ks v s held)
    (o number move : ℕ) (kids : PlainTrees)
    (pk : Picked p.program p.N ks s o number move n true ts kids) →
    TakenHere p program taken V W part held ks v s n ts bound fits listed c o number move kids pk →
    RegionClosed p V W part ks v s held ts
close-from p program taken V W part held ks v s n ts bound fits listed c o number move kids pk
    here =
    let ct = case-taken p program taken V W part held ks v s n ts bound fits listed c o number move
    kids pk here in
    shift-closes p V W part ks v s held n ts ct ct.tree ct.goes

pub close-closes :
    (p : Checked) → IsWellFormed p.program → TakenLaw p → (V W : Table) (part held : Stock)
    (ks : List ℕ) (v : Valuation) (s : PlainState) (n : ℕ) (ts : List PlainTask)
    (bound : List ℤ) → TableFits p.program W → AreListed bound W →
    Closing p.program V W part ks v s held → (d : PlainTree) → p.N d s (to_close true n ∷ ts) →
    RegionClosed p V W part ks v s held ts
close-closes p program taken V W part held ks v s n ts bound fits listed c d h =
    let ct = close-takes p program taken V W part held ks v s n ts bound fits listed c d h in
    shift-closes p V W part ks v s held n ts ct ct.tree ct.goes
