-- What is known of a state at alike values and in later states, and where more is held.
use Rattle.std.proofs.Common.{◌≡◌, ℕ, ◌<◌, ◌≤◌, List, length, Some, arith, sym, ap, ◌∙◌, subst}
use Rattle.std.specs.Prelude.{slice_get}
use Rattle.std.specs.List.{AllByRecursion}
use Rattle.cap_lin.specs.Values.{Valuation}
use Rattle.cap_lin.specs.declared.row.Sort.{Sort}
use Rattle.cap_lin.specs.declared.row.Sort.TheVariants.{Int}
use Rattle.cap_prog.specs.Program.{PlainProgram}
use Rattle.cap_goal_spec.specs.States.{PlainFact, PlainState}
use Rattle.cap_account_resources.specs.Parts.{Table}
use Rattle.cap_account_resources.proofs.Lists.{all-more}
use Rattle.cap_account_resources.proofs.Covering.{Covered, covered-more}
use Rattle.cap_account_resources.proofs.Stocks.{Stock, Inside, inside-cells, inside-guards}
use Rattle.cap_account_states.proofs.Terms.{vars-more}
use Rattle.cap_account_states.proofs.Alike.{Alike, alike-less, value-alike, need-alike}
use Rattle.cap_account_states.proofs.Meets.{Free, Usable, usable-old, usable-on, Meets, need, Old}
use Rattle.cap_account_states.proofs.Adding.{PieceOver}
use Rattle.cap_account_states.proofs.Pieces.{AllFit}
use Rattle.cap_account_states.proofs.Compatible.{pieces-more, covered-alike}
use Rattle.cap_account_states.proofs.Facts.{facts-later}
use Rattle.cap_account_states.proofs.Backed.{IsOpened, Backed, Grounded, Knows}

-- ---- in later states

-- old variables that aren't kept free: all that a state is over but for loose states
abbrev pub Steady : List ℕ → PlainState → ℕ → Type 0
Steady ks s x = (x < length s.sorts) × Free ks x

pub usable-steady :
    (ks : List ℕ) (s : PlainState) (o : Sort) (x : ℕ) → Usable ks s.sorts o x → Steady ks s x
usable-steady ks s o x h = (usable-old ks s.sorts o x h, h.1)

-- a later state has the same facts, pieces and opened regions, at alike values
pub record IsKept (ks : List ℕ) (v w : Valuation) (s t : PlainState) : Type 0 where
  pub alike : Alike (Steady ks s) v w
  pub sorts : (x : ℕ) (o : Sort) → slice_get s.sorts x ≡ Some o → slice_get t.sorts x ≡ Some o
  pub facts : t.facts ≡ s.facts
  pub guards : t.guards ≡ s.guards
  pub opened : t.opened ≡ s.opened

pub old-steady :
    (ks : List ℕ) (v w : Valuation) (s : PlainState) → Alike (Old s) v w →
    Alike (Steady ks s) v w
old-steady ks v w s a = alike-less (Steady ks s) (Old s) v w (λ x h. h.0) a

-- an opened region, over other variables and at alike values
pub opened-later :
    (R S P : ℕ → Type 0) (v w : Valuation) (T : Table) → ((x : ℕ) → R x → S x) →
    ((x : ℕ) → R x → P x) → Alike P v w → (f : PlainFact) → IsOpened R v T f → IsOpened S w T f
opened-later R S P v w T i j l f h =
    let e = value-alike P v w l f.region (vars-more R P j f.region.parts h.0) in
    (vars-more R S i f.region.parts h.0, h.1, ap T e ∙ h.2)

-- whatever else has changed
pub opened-on :
    (ks : List ℕ) (v w : Valuation) (T : Table) (s t : PlainState) →
    ((x : ℕ) (o : Sort) → slice_get s.sorts x ≡ Some o → slice_get t.sorts x ≡ Some o) →
    t.opened ≡ s.opened → Alike (Steady ks s) v w →
    AllByRecursion (IsOpened (Usable ks s.sorts Int) v T) s.opened →
    AllByRecursion (IsOpened (Usable ks t.sorts Int) w T) t.opened
opened-on ks v w T s t sorts e l h =
    let R = Usable ks s.sorts Int in
    let S = Usable ks t.sorts Int in
    subst (AllByRecursion (IsOpened S w T)) (sym e)
    (all-more (IsOpened R v T) (IsOpened S w T)
    (opened-later R S (Steady ks s) v w T (usable-on ks s.sorts t.sorts sorts Int)
    (usable-steady ks s Int) l) s.opened h)

-- what is held backs the state at values that are alike on what it uses
pub backed-at :
    (p : PlainProgram) (s : PlainState) (ks : List ℕ) (P : ℕ → Type 0) (v w : Valuation)
    (q : Stock) → ((o : Sort) (x : ℕ) → Usable ks s.sorts o x → P x) → Alike P v w →
    Grounded p ks v s → Backed p v s q → Backed p w s q
backed-at p s ks P v w q uses l g b =
    let R = Usable ks s.sorts in
    record {
      cells = λ a z.
          let e = need-alike R P v w (uses Int) l s.cells g.meets.cells_over a z in
          let i = b.cells a z in
          omega (arith, e, i);
      guards = λ n.
          covered-alike p P v w l s.guards n (q.guards n)
          (pieces-more R (λ o. P) uses s.guards g.pieces_over) (b.guards n);
    }

-- and one with the same cells and pieces
pub backed-same :
    (p : PlainProgram) (s t : PlainState) (v : Valuation) (q : Stock) → t.cells ≡ s.cells →
    t.guards ≡ s.guards → Backed p v s q → Backed p v t q
backed-same p s t v q e f b = record {
  cells = λ a z. subst (λ cs. need v cs a z ≤ q.cells a z) (sym e) (b.cells a z);
  guards = λ n. subst (λ ps. Covered p v ps n (q.guards n)) (sym f) (b.guards n);
}

-- what is known of a later state with the same cells
pub knows-on :
    (p : PlainProgram) (ks : List ℕ) (v w : Valuation) (s t : PlainState) → IsKept ks v w s t →
    (T : Table) (q : Stock) → Meets ks v s → t.cells ≡ s.cells → Knows p ks v T s q →
    Knows p ks w T t q
knows-on p ks v w s t k T q m e h =
    let R = Usable ks s.sorts in
    let S = Usable ks t.sorts in
    let g : Grounded p ks v s =
    record { meets = m; pieces_over = h.pieces_over; pieces_fit = h.pieces_fit } in
    record {
      facts = facts-later ks v w T s t k.sorts k.facts k.alike h.facts;
      pieces_over =
          subst (AllByRecursion (PieceOver S)) (sym k.guards)
          (pieces-more R S (usable-on ks s.sorts t.sorts k.sorts) s.guards h.pieces_over);
      pieces_fit = subst (AllFit p) (sym k.guards) h.pieces_fit;
      opened = opened-on ks v w T s t k.sorts k.opened k.alike h.opened;
      backed =
          backed-same p s t w q e k.guards
          (backed-at p s ks (Steady ks s) v w q (usable-steady ks s) k.alike g h.backed);
    }

-- ---- where more is held

pub backed-more :
    (p : PlainProgram) (v : Valuation) (s : PlainState) (q r : Stock) → Inside p q r →
    Backed p v s q → Backed p v s r
backed-more p v s q r le b = record {
  cells =
      λ a z. (let c = b.cells a z in let d = inside-cells p q r le a z in omega (arith, c, d));
  guards =
      λ n. covered-more p v s.guards n (q.guards n) (r.guards n) (inside-guards p q r le n)
      (b.guards n);
}

pub knows-more :
    (p : PlainProgram) (ks : List ℕ) (v : Valuation) (T : Table) (s : PlainState) (q r : Stock) →
    Inside p q r → Knows p ks v T s q → Knows p ks v T s r
knows-more p ks v T s q r le h = record {
  facts = h.facts;
  pieces_over = h.pieces_over;
  pieces_fit = h.pieces_fit;
  opened = h.opened;
  backed = backed-more p v s q r le h.backed;
}
