-- Guards are converted: all of one side of a sum becomes all of the other side, and the item stays
-- (the rule `convert`).
use Rattle.std.proofs.Common.{◌≡◌, ℕ, zero, suc, List, ◌∷◌, Some, refl, sym, ap, subst}
use Rattle.std.specs.Prelude.{slice_get}
use Rattle.std.specs.List.{AllByRecursion}
use Rattle.cap_lin.specs.Linear.{Linear}
use Rattle.cap_lin.specs.Values.{Valuation, value}
use Rattle.cap_lin.specs.declared.row.Sort.TheVariants.{Int}
use Rattle.cap_galg.specs.Elements.{Element}
use Rattle.cap_galg.specs.Algebras.{PlainAlgebra}
use Rattle.cap_gsolve.specs.declared.piece.Piece.{Piece}
use Rattle.cap_prog.specs.Program.{atom, PlainItem, Items, item, PlainRegionType, PlainProgram}
use Rattle.cap_prog.specs.Scopes.{HasSort}
use Rattle.cap_prog.specs.WellFormed.{RegionFits}
use Rattle.cap_machine_accounts.specs.Parts.{kind_algebra, algebra_of}
use Rattle.cap_goal_spec.specs.States.{PlainState, PlainGoal}
use Rattle.cap_goal_spec.specs.Environments.{term_of}
use Rattle.cap_rules.specs.Attempts.{Attempt, ◌>>=◌, found}
use Rattle.cap_rules.specs.Making.{env_at, with_pieces}
use Rattle.cap_rules.specs.Taking.{Side, Sides, sum_in, given_side, other_side, side_pieces, without_full}
use Rattle.cap_rules.specs.Rules.{leaves, stays, at_convert}
use Rattle.cap_account_resources.specs.Parts.{Table}
use Rattle.cap_account_resources.proofs.Lists.{some-same, none-some}
use Rattle.cap_account_resources.proofs.Covering.{mark}
use Rattle.cap_account_resources.proofs.Room.{part-some}
use Rattle.cap_account_resources.proofs.Stocks.{Stock, no_stock, guard_stock, both, Inside, Composes, composes-inside, inside-second, inside-same, none-right}
use Rattle.cap_account_states.specs.Nodes.{Comes, Children}
use Rattle.cap_account_states.proofs.Attempts.{comes-bind, after-found}
use Rattle.cap_account_states.proofs.Alike.{alike-same}
use Rattle.cap_account_states.proofs.Brought.{brought-none}
use Rattle.cap_account_states.proofs.Meets.{Old}
use Rattle.cap_account_states.proofs.Checked.{Checked}
use Rattle.cap_account_states.proofs.Sums.{Full, sides-full, SidesFull}
use Rattle.cap_account_states.proofs.Items.{AreFit}
use Rattle.cap_account_states.proofs.Backed.{Backed}
use Rattle.cap_account_assertions.proofs.Asserted.{DrawsAll, draws-all-more}
use Rattle.cap_account_assertions.proofs.Laws.{StateAt, TakenLaw}
use Rattle.cap_account_assertions.proofs.TakeAll.{ConvertLaw}
use Rattle.cap_account_assertions.proofs.TakenLaws.{taken-law}
use Rattle.cap_account_assertions.proofs.ManyPieces.{with_parts, pieces-held}
use Rattle.cap_account_assertions.proofs.FullsGone.{with_guards, fulls-gone}
use Rattle.cap_account_assertions.proofs.TakeSteps.{Job, remaining}
use Rattle.cap_account_assertions.proofs.TakeHeads.{same-parts, head-kept, ItemsTurned}

-- the side that is held, and the other one, are all of it
pub record Converts (w : PlainAlgebra) (k : ℕ) (v : Valuation) (r : Linear) (held other : Side)
    : Type 0 where
  pub element : Element
  pub gone : Full w k v r (side_pieces held r k) element
  pub come : Full w k v r (side_pieces other r k) element

converts :
    (w : PlainAlgebra) (k : ℕ) (v : Valuation) (r : Linear) (x : Sides) (side : ℕ) (held : Side) →
    SidesFull w k v r x → given_side x side ≡ Some held → Converts w k v r held (other_side x side)
converts w k v r x zero held h e =
    subst (λ y. Converts w k v r y x.right) (some-same x.left held e)
    (record { element = h.element; gone = h.left; come = h.right })
converts w k v r x (suc zero) held h e =
    subst (λ y. Converts w k v r y x.left) (some-same x.right held e)
    (record { element = h.element; gone = h.right; come = h.left })
converts w k v r x (suc (suc n)) held h e = absurd (none-some e)

module _ (p : PlainProgram) (ks : List ℕ) (T : Table) (j : Job) (v : Valuation) (s : PlainState)
    (c : Stock) (st : StateAt p ks T j.scope j.env v s) (backed : Backed p v s c)
    (P : List PlainGoal → Type 0) where
  module _ (m side n k : ℕ) (i : PlainItem) (more : Items) where
    -- what is converted into what, and of which region
    abbrev end : PlainState → Attempt (List PlainGoal)
    end t = leaves t (stays t i j.most (remaining j more) ∷ j.tasks)

    abbrev adding : Side → Linear → List Piece → Attempt (List PlainGoal)
    adding y t gs = with_pieces p (with_guards s gs) (side_pieces y t k) >>= end

    pub record Asks : Type 0 where
      pub held : Side
      pub other : Side
      pub term : Linear
      pub is_term : term_of (env_at s j.env) n ≡ Some term
      pub full : Converts (algebra_of p k) k v term held other
      pub comes :
          Comes (without_full s.rows s.guards (side_pieces held term k) >>= adding other term) P

    pub asks : Comes (at_convert p s m side n k i (remaining j more)) P → Asks
    asks h =
        let goes : Sides → Side → Linear → Attempt (List PlainGoal) = λ x y t.
        without_full s.rows s.guards (side_pieces y t k) >>= adding (other_side x side) t in
        let names : Sides → Side → Attempt (List PlainGoal) = λ x y.
        found (term_of (env_at s j.env) n) >>= goes x y in
        let given : Sides → Attempt (List PlainGoal) = λ x.
        found (given_side x side) >>= names x in
        let sums : PlainRegionType → Attempt (List PlainGoal) = λ y.
        found (sum_in y.algebra 0 m) >>= given in
        let a = after-found (slice_get p.regions k) sums P h in
        let b = after-found (sum_in a.0.algebra 0 m) given P a.2 in
        let d = after-found (given_side b.0 side) (names b.0) P b.2 in
        let e = after-found (term_of (env_at s j.env) n) (goes b.0 d.0) P d.2 in
        let w = algebra_of p k in
        record {
          held = d.0;
          other = other_side b.0 side;
          term = e.0;
          is_term = e.1;
          full =
              converts w k v e.0 b.0 side d.0
              (sides-full w k v e.0 m b.0
              (subst (λ y. sum_in y 0 m ≡ Some b.0) (sym (ap kind_algebra a.1)) b.1)) d.1;
          comes = e.2;
        }

    abbrev converted :
        j.items ≡ item i more → AreFit p j.scope (item i more) → HasSort j.scope Int n →
        Composes c → Asks → ItemsTurned p ks T j v s c P
    converted is fits hn ok a =
        let x = a.full.element in
        let g = guard_stock (value v.whole a.term) (mark k x) in
        let gone = fulls-gone p ks v a.term k s (side_pieces a.held a.term k)
        a.full.gone.composes.0 x c s.guards (λ gs. Comes (adding a.other a.term gs) P)
        a.full.gone.each a.full.gone.composes.1 a.full.gone.composes.2 (record {
          meets = st.grounded.meets;
          pieces_over = st.grounded.pieces_over;
          pieces_fit = st.grounded.pieces_fit;
        }) (record { cells = backed.cells; guards = backed.guards })
        (comes-bind (without_full s.rows s.guards (side_pieces a.held a.term k))
        (adding a.other a.term) P a.comes) in
        let rest = gone.1.rest in
        let now = both p rest g in
        let come = pieces-held p ks v a.term k (side_pieces a.other a.term k) x
        (with_guards s gone.0) rest (λ u. Comes (end u) P) a.full.come
        (st.placed.over n Int hn a.term a.is_term) gone.1.grounded gone.1.backed
        (composes-inside p now c gone.1.apart ok)
        (comes-bind (with_pieces p (with_guards s gone.0) (side_pieces a.other a.term k))
        end P gone.2) in
        record {
          head =
              head-kept p ks T j v s c st v (with_parts s come.rows come.guards) now
              no_stock
              (same-parts s come.rows s.cells come.guards) refl (alike-same (Old s) v)
              (brought-none s (with_parts s come.rows come.guards) v refl) (record {
                meets = come.grounded.meets;
                pieces_over = come.grounded.pieces_over;
                pieces_fit = come.grounded.pieces_fit;
              }) (record { cells = come.backed.cells; guards = come.backed.guards })
              (subst (λ q. Inside p q c) (sym (none-right p now)) gone.1.apart);
          rest = item i more;
          fits = fits;
          turns = λ U ext y l b names q r drawn.
              subst (λ items. DrawsAll p U b items (both p no_stock q) r) (sym is)
              (draws-all-more p U b (item i more) q (both p no_stock q) r r
              (inside-second p no_stock q) (inside-same p r) drawn);
          goes = come.comes.1;
        }

  abbrev pub convert-turned :
      (m side n k : ℕ) (i : PlainItem) (more : Items) → j.items ≡ item i more →
      AreFit p j.scope (item i more) → HasSort j.scope Int n → Composes c →
      Comes (at_convert p s m side n k i (remaining j more)) P →
      ItemsTurned p ks T j v s c P
  convert-turned m side n k i more is fits hn ok h =
      converted m side n k i more is fits hn ok (asks m side n k i more h)

pub convert-law : (p : Checked) (ks : List ℕ) → ConvertLaw p ks
convert-law p ks T next lim j v s c trees st m side place n k i asked more is h =
    let fits = subst (AreFit p.program j.scope) is st.fits in
    convert-turned p.program ks T j v s c st.ready st.backed (Children p.N trees) m side n k
    (atom place n k i asked) more is fits fits.0.0
    (λ z. part-some p.program (c.guards z) (lim z) (st.within z) (st.composes z)) h

-- with it, the law of taking
pub taken-always :
    (p : Checked) → AllByRecursion (RegionFits p.program) p.program.regions → TakenLaw p
taken-always p regions = taken-law p regions (convert-law p)
