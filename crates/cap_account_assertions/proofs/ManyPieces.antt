-- Several pieces of one region are added to a state: what it has then is held, where their guards
-- are.
use Rattle.std.proofs.Common.{◌≡◌, ℕ, List, [], ◌∷◌, ◌++◌, Option, Some, None, refl, sym, ap, subst, arith}
use Rattle.std.specs.Prelude.{IsSomeAnd}
use Rattle.std.specs.List.{AllByRecursion}
use Rattle.cap_lin.specs.Linear.{Linear}
use Rattle.cap_lin.specs.Values.{Valuation, value}
use Rattle.cap_lin.specs.Solves.{Holds}
use Rattle.cap_lin.specs.declared.row.Row.{Row}
use Rattle.cap_lin.specs.declared.row.Sort.{Sort}
use Rattle.cap_lin.specs.declared.row.Sort.TheVariants.{Int}
use Rattle.cap_galg.specs.Elements.{Element}
use Rattle.cap_gsolve.specs.declared.piece.Piece.{Piece}
use Rattle.cap_gsolve.specs.Merge.{merged, merge_rows}
use Rattle.cap_gsolve.specs.Meaning.{region_of}
use Rattle.cap_prog.specs.Program.{PlainProgram}
use Rattle.cap_machine_accounts.specs.Parts.{algebra_of}
use Rattle.cap_goal_spec.specs.States.{PlainState}
use Rattle.cap_rules.specs.Attempts.{Attempt}
use Rattle.cap_rules.specs.Making.{with_piece, with_pieces}
use Rattle.cap_account_resources.proofs.Lists.{all-both, all-more}
use Rattle.cap_account_resources.proofs.Covering.{mark, Covered}
use Rattle.cap_account_resources.proofs.Stocks.{Stock, guard_stock, both, Composes}
use Rattle.cap_account_states.specs.Nodes.{Comes}
use Rattle.cap_account_states.proofs.Terms.{Over, RowOver}
use Rattle.cap_account_states.proofs.Attempts.{comes-bind}
use Rattle.cap_account_states.proofs.Meets.{Usable}
use Rattle.cap_account_states.proofs.Adding.{PieceOver, comes-piece, merging-rows-over, merged-over}
use Rattle.cap_account_states.proofs.Pieces.{AllFit}
use Rattle.cap_account_states.proofs.Budgets.{pieces-added}
use Rattle.cap_account_states.proofs.Sums.{FullPiece, Full, full-fit, full-over}
use Rattle.cap_account_states.proofs.Backed.{Backed, Grounded}

-- what each value of an attempt is, its value is beside what it comes to
pub comes-also :
    {A : Type 0} (o : Attempt A) (P I : A → Type 0) → Comes o P →
    ((Q : A → Type 0) → Comes o Q → (x : A) × I x × Q x) → Comes o (λ x. P x × I x)
comes-also {A} o P I h f = (h.0, by o.value refl h.1)
  where
    by : (m : Option A) → o.value ≡ m → IsSomeAnd m P → IsSomeAnd m (λ x. P x × I x)
    by None e k = absurd k
    by (Some x) e k =
        let t = f (λ y. y ≡ x)
        (h.0, subst (λ m. IsSomeAnd m (λ y. y ≡ x)) (sym e) refl) in (k, subst I t.2 t.1)

-- ---- which rows and pieces there are then

abbrev pub with_parts : PlainState → List Row → List Piece → PlainState
with_parts s rows guards = record s { rows = rows; guards = guards }

-- they are over these variables
record Parts (R : Sort → ℕ → Type 0) (s t : PlainState) : Type 0 where
  rows : List Row
  guards : List Piece
  are : with_parts s rows guards ≡ t
  rows_over : AllByRecursion (RowOver R) rows
  pieces_over : AllByRecursion (PieceOver R) guards

parts-then :
    (p : PlainProgram) (R : Sort → ℕ → Type 0) (qs : List Piece) (s : PlainState)
    (Q : PlainState → Type 0) → AllByRecursion (RowOver R) s.rows →
    AllByRecursion (PieceOver R) s.guards → AllByRecursion (PieceOver R) qs →
    Comes (with_pieces p s qs) Q → (t : PlainState) × Parts R s t × Q t
parts-then p R [] s Q rows pieces more h = (
  s,
  record {
    rows = s.rows;
    guards = s.guards;
    are = refl;
    rows_over = rows;
    pieces_over = pieces;
  },
  h.1,
)
parts-then p R (q ∷ qs) s Q rows pieces more h =
    let added = merge_rows (algebra_of p q.kind) s.guards q in
    let next = with_parts s (s.rows ++ added) (merged s.guards q) in
    let k = comes-piece p s q (λ t. Comes (with_pieces p t qs) Q)
    (comes-bind (with_piece p s q) (λ t. with_pieces p t qs) Q h) in
    let m = parts-then p R qs next Q
    (all-both (RowOver R) s.rows added rows
    (merging-rows-over R (algebra_of p q.kind) s.guards q pieces more.0.1))
    (merged-over R s.guards q pieces more.0) more.1 k.2 in (
      m.0,
      record {
        rows = m.1.rows;
        guards = m.1.guards;
        are = m.1.are;
        rows_over = m.1.rows_over;
        pieces_over = m.1.pieces_over;
      },
      m.2,
    )

-- ---- what is held then

-- what the state then has is held, in this stock
pub record PiecesHeld (p : PlainProgram) (ks : List ℕ) (v : Valuation) (s : PlainState)
    (q : Stock) (P : PlainState → Type 0) : Type 0 where
  pub rows : List Row
  pub guards : List Piece
  pub grounded : Grounded p ks v (with_parts s rows guards)
  pub backed : Backed p v (with_parts s rows guards) q
  pub comes : P (with_parts s rows guards)

-- each of them is all of a guard, and their element is held too
pub pieces-held :
    (p : PlainProgram) (ks : List ℕ) (v : Valuation) (r : Linear) (k : ℕ) (qs : List Piece)
    (x : Element) (s : PlainState) (c : Stock) (P : PlainState → Type 0) →
    Full (algebra_of p k) k v r qs x → Over (Usable ks s.sorts Int) r → Grounded p ks v s →
    Backed p v s c → Composes (both p c (guard_stock (value v.whole r) (mark k x))) →
    Comes (with_pieces p s qs) P →
    PiecesHeld p ks v s (both p c (guard_stock (value v.whole r) (mark k x))) P
pieces-held p ks v r k qs x s c P f over g b ok h =
    let R = Usable ks s.sorts in
    let w = algebra_of p k in
    let all = both p c (guard_stock (value v.whole r) (mark k x)) in
    let also = comes-also (with_pieces p s qs) P (Parts R s) h
    (λ Q m. parts-then p R qs s Q g.meets.rows_over g.pieces_over
    (full-over R w r k qs over f.each) m) in
    let a = pieces-added p v (value v.whole r) k qs f.composes.0 x s c.guards
    (λ t. P t × Parts R s t) (at-region qs f.each) (full-fit p r k qs f.each) f.composes.1
    f.composes.2 g.pieces_fit b.guards ok also in
    let parts = a.comes.1 in
    let t = with_parts s parts.rows parts.guards in
    let back : a.after ≡ t = sym parts.are in
    record {
      rows = parts.rows;
      guards = parts.guards;
      grounded = record {
        meets = record {
          sorted = g.meets.sorted;
          rows = subst (λ u. AllByRecursion (Holds v) u.rows) back (a.rows g.meets.rows);
          rows_over = parts.rows_over;
          cells_over = g.meets.cells_over;
          positive = g.meets.positive;
          store_over = g.meets.store_over;
        };
        pieces_over = parts.pieces_over;
        pieces_fit = subst (λ u. AllFit p u.guards) back a.fits;
      };
      backed = record {
        cells = λ y z. (let n = b.cells y z in omega (arith, n));
        guards = λ n. subst (λ u. Covered p v u.guards n (all.guards n)) back (a.covered n);
      };
      comes = subst P back a.comes.0;
    }
  where
    at-region :
        (ps : List Piece) → AllByRecursion (FullPiece (algebra_of p k) r k) ps →
        AllByRecursion (λ q. (region_of v q ≡ value v.whole r) × (q.kind ≡ k)) ps
    at-region ps h =
        all-more (FullPiece (algebra_of p k) r k)
        (λ q. (region_of v q ≡ value v.whole r) × (q.kind ≡ k))
        (λ q m. (ap (value v.whole) m.region_is, m.kind_is)) ps h
