-- A fact, or a piece with the guards that it stands for, is added to a state that is backed.
use Rattle.cap_account_resources.proofs.Order.{same-or}
use Rattle.std.proofs.Common.{ℕ, ℤ, List, [], ◌∷◌, ◌++◌, refl, arith}
use Rattle.std.specs.List.{AllByRecursion}
use Rattle.cap_lin.specs.Values.{Valuation}
use Rattle.cap_lin.specs.Solves.{Holds}
use Rattle.cap_lin.specs.declared.row.Row.{Row}
use Rattle.cap_lin.specs.declared.row.Sort.TheVariants.{Int}
use Rattle.cap_galg.specs.Elements.{Element}
use Rattle.cap_galg.specs.Algebras.{atom_element}
use Rattle.cap_gsolve.specs.declared.piece.Piece.{Piece}
use Rattle.cap_gsolve.specs.Merge.{merged, merge_rows}
use Rattle.cap_gsolve.specs.Meaning.{IsFormElement, region_of, Fits}
use Rattle.std.specs.Prelude.{find}
use Rattle.cap_prog.specs.Program.{PlainProgram}
use Rattle.cap_machine_accounts.specs.Parts.{algebra_of}
use Rattle.cap_goal_spec.specs.States.{PlainFact, PlainState}
use Rattle.cap_rules.specs.Making.{is_of_region, without_first}
use Rattle.cap_account_resources.specs.Parts.{Table}
use Rattle.cap_account_resources.proofs.Lists.{all-both}
use Rattle.cap_account_resources.proofs.Covering.{mark, IsPieceMark}
use Rattle.cap_account_resources.proofs.Room.{alone-here, alone-away}
use Rattle.cap_account_resources.proofs.Stocks.{Stock, guard_stock, both, Composes}
use Rattle.cap_account_states.proofs.Terms.{RowOver}
use Rattle.cap_account_states.proofs.Meets.{Usable, Meets}
use Rattle.cap_account_states.proofs.Adding.{PieceOver, piece_added, piece-added, merging-rows-over, merged-over}
use Rattle.cap_account_states.proofs.Facts.{FactHolds, FactOver, merging_rows, fact_added, merging-holds, facts-added, facts-same, all-without}
use Rattle.cap_account_states.proofs.Backed.{IsFirm, Knows}

-- rows that hold are added; facts and pieces say nothing here
pub meets-rows :
    (ks : List ℕ) (v : Valuation) (s : PlainState) (rs : List Row) (guards : List Piece)
    (facts : List PlainFact) → Meets ks v s → AllByRecursion (Holds v) rs →
    AllByRecursion (RowOver (Usable ks s.sorts)) rs →
    Meets ks v (record s { rows = s.rows ++ rs; guards = guards; facts = facts })
meets-rows ks v s rs guards facts m h o = record {
  sorted = m.sorted;
  rows = all-both (Holds v) s.rows rs m.rows h;
  rows_over = all-both (RowOver (Usable ks s.sorts)) s.rows rs m.rows_over o;
  cells_over = m.cells_over;
  positive = m.positive;
  store_over = m.store_over;
}

-- ---- facts

pub record FactKnown (p : PlainProgram) (ks : List ℕ) (v : Valuation) (T : Table) (s : PlainState)
    (f : PlainFact) (q : Stock) : Type 0 where
  pub meets : Meets ks v (fact_added s f)
  pub knows : Knows p ks v T (fact_added s f) q
  pub firm : AllByRecursion IsFirm (fact_added s f).facts

pub fact-known :
    (p : PlainProgram) (ks : List ℕ) (v : Valuation) (T : Table) (s : PlainState) (f : PlainFact)
    (q : Stock) → Meets ks v s → Knows p ks v T s q → AllByRecursion IsFirm s.facts → IsFirm f →
    FactHolds v T f → FactOver (Usable ks s.sorts Int) f → FactKnown p ks v T s f q
fact-known p ks v T s f q m k firm tight h o =
    let rows = merging-holds ks v T s f k.facts firm tight h o in
    let facts = (fact_added s f).facts in
    record {
      meets =
          meets-rows ks v s (merging_rows f (find (is_of_region f) s.facts)) s.guards facts m
          rows.0 rows.1;
      knows = record {
        facts = facts-added ks v T s f k.facts tight h o;
        pieces_over = k.pieces_over;
        pieces_fit = k.pieces_fit;
        opened = k.opened;
        backed = record { cells = k.backed.cells; guards = k.backed.guards };
      };
      firm =
          all-both IsFirm (without_first (is_of_region f) s.facts) (f ∷ [])
          (all-without IsFirm (is_of_region f) s.facts firm) (tight, tt);
    }

-- ---- pieces

-- the guards that a piece with this element is
abbrev pub piece_stock : PlainProgram → Valuation → Piece → Element → Stock
piece_stock p v q y =
    guard_stock (region_of v q) (mark q.kind (atom_element (algebra_of p q.kind) q.atom y))

pub piece-mark :
    (p : PlainProgram) (v : Valuation) (q : Piece) (y : Element) (n : ℤ) →
    IsPieceMark p v q (atom_element (algebra_of p q.kind) q.atom y) n
    ((piece_stock p v q y).guards n)
piece-mark p v q y n =
    let m = mark q.kind (atom_element (algebra_of p q.kind) q.atom y) in
    record {
      at = alone-here (region_of v q) m n;
      away = alone-away (region_of v q) m n;
      or_not = same-or (region_of v q) n;
    }

pub record PieceKnown (p : PlainProgram) (ks : List ℕ) (v : Valuation) (T : Table) (s : PlainState)
    (q : Piece) (total : Stock) : Type 0 where
  pub meets : Meets ks v (piece_added p s q)
  pub knows : Knows p ks v T (piece_added p s q) total

-- where what is held and the piece's guards compose
pub piece-known :
    (p : PlainProgram) (ks : List ℕ) (v : Valuation) (T : Table) (s : PlainState) (q : Piece)
    (y : Element) (held : Stock) → Meets ks v s → Knows p ks v T s held →
    Fits (algebra_of p q.kind) q → PieceOver (Usable ks s.sorts) q → IsFormElement v q.form y →
    Composes (both p held (piece_stock p v q y)) →
    PieceKnown p ks v T s q (both p held (piece_stock p v q y))
piece-known p ks v T s q y held m k fit o h ne =
    let a = algebra_of p q.kind in
    let R = Usable ks s.sorts in
    let more = piece_stock p v q y in
    let add =
    piece-added p v s q (atom_element a q.atom y) held.guards more.guards k.pieces_fit fit
    k.backed.guards (y, h, refl) (piece-mark p v q y) ne in
    record {
      meets =
          meets-rows ks v s (merge_rows a s.guards q) (merged s.guards q) s.facts m add.rows
          (merging-rows-over R a s.guards q k.pieces_over o.1);
      knows = record {
        facts = facts-same ks v T s (piece_added p s q) refl refl k.facts;
        pieces_over = merged-over R s.guards q k.pieces_over o;
        pieces_fit = add.fits;
        opened = k.opened;
        backed = record {
          cells = λ x z. (let c = k.backed.cells x z in omega (arith, c));
          guards = add.covered;
        };
      };
    }
